-- A reply to a controller, by what it is and what its elector answers.
use Rattle.std.proofs.Common.{◌≡◌, ℕ, ◌+◌, ◌++◌, Bool, true, false, List, [], ◌∷◌, Option, Some, None, refl, sym, ap, ◌∙◌, subst, append_assoc, cond, length, arith}
use Rattle.std.specs.Box.{with_value}
use Rattle.kube_base.specs.declared.numbers.Version.{Version}
use Rattle.kube_objects.specs.declared.call.Ask.{Ask}
use Rattle.kube_objects.specs.declared.call.Reply.{Reply}
use Rattle.kube_objects.specs.declared.call.Reply.TheVariants.{Found, Done, Absent, Exists, Conflict, Unchanged}
use Rattle.kube_objects.specs.declared.call.Request.{Request}
use Rattle.kube_objects.specs.declared.call.Request.TheVariants.{Get, Create, Update, PostStatus}
use Rattle.kube_objects.specs.declared.deed.Deed.{Deed}
use Rattle.kube_objects.specs.CallSlots.{release_of}
use Rattle.kube_objects.specs.Document.{Doc, is_controller, restart_delay}
use Rattle.kube_objects.specs.Clocks.{local}
use Rattle.kube_objects.specs.Elector.{acts_on, moment, Follow, Fails, Asks, Succeeds, leads, observed_at, is_blocked, respected, updated, follow_get, follow_write, not_done, follow_on}
use Rattle.kube_objects.specs.Stored.{election}
use Rattle.kube_objects.specs.Turns.{react, with_reply}
use Rattle.kube_objects.specs.Entry.{Entry, Identity, Call, CallKind, Plain, Fast, Release, Look, Emptying, Fact, Delivers, Leads, Sends, entry}
use Rattle.kube_objects.specs.Identities.{identity}
use Rattle.kube_objects.specs.Newest.{only_if, when}
use Rattle.kube_objects.specs.Process.{alive, counted, call_in, ended, answered_call, is_present, release_begun}
use Rattle.kube_objects.specs.Releases.{end_release, react_in_release}
use Rattle.kube_objects.specs.Wire.{Back, next_call}
use Rattle.kube_objects.proofs.OwnCalls.{counted-call}
use Rattle.history.specs.Printed.{printed}
use Rattle.history.specs.Steps.{deliver_as, react_as, elector_react, delivered}
use Rattle.controller_core.specs.declared.term.Term.{Term}
use Rattle.controller_core.specs.TermStands.{TermStands}
use Rattle.leader_elector.specs.declared.ended.ReleaseEnd.{ReleaseEnd}
use Rattle.leader_elector.specs.declared.releasing.Releasing.{Releasing}
use Rattle.leader_elector.specs.Moves.{Asked, IsOver, reacted}
use Rattle.leader_elector.specs.Stands.{ReleasingStands}
use Rattle.world_process.specs.declared.controller.Controller.{Controller}
use Rattle.world_process.specs.declared.controller.Role.{Role}
use Rattle.world_process.specs.Controllers.{RoleStands, ControllerStands, Replied, restart_reading}
use Rattle.world_process.specs.Beats.{reading_of}
use Rattle.world_process.specs.Moves as moves
use Rattle.world_process.specs.OwnTerm.{OwnsTerm}
use Rattle.world_process.proofs.Names.{eq-isnt}
use Rattle.kube_base.specs.declared.numbers.Local.{Local}
use Rattle.world_process.specs.declared.controller.Role.TheVariants as role
use Rattle.world_process.proofs.Beside.{role-stranger}
use Rattle.world_process.proofs.Ending.{back-reading}
use Rattle.world_process.proofs.OwnTerm.{keeps-beside, keeps-both, keeps-down, owns-led}
use Rattle.world_process.proofs.Quiet.{Adds, adds-one, adds-over, adds-then}
use Rattle.world_process.proofs.Releases.{alive-over, ended-over, starts-over}
use Rattle.world_process.proofs.Standing.{Makes, stands-role, stands-with, role-at}

-- the reply is this one
pub record IsBack (b : Back) (q : Identity) (n : ℕ) (r : Reply) : Type 0 where
  pub who : b.who ≡ q
  pub number : b.call.number ≡ n
  pub reply : b.reply ≡ r

-- it comes to the incarnation that the process has
pub is-back : (b : Back) (p i own n : ℕ) (r : Reply) → b.who ≡ identity p i → i ≡ own → b.call.number ≡ n → b.reply ≡ r → IsBack b (identity p own) n r
is-back b p i own n r who same number reply = record { who = who ∙ ap (identity p) same; number = number; reply = reply }

delivered-as : (doc : Doc) (k : ℕ) (b : Back) (q : Identity) (number : ℕ) (reply : Reply) (h : List Entry) → IsBack b q number reply → delivered doc k b h ≡ deliver_as doc k q b.call reply (counted doc q k number h) h
delivered-as doc k b q number reply h is =
    ap (λ w. deliver_as doc k w b.call b.reply (counted doc w k b.call.number h) h) is.who
    ∙ ap (λ n. deliver_as doc k q b.call b.reply (counted doc q k n h) h) is.number
    ∙ ap (λ r. deliver_as doc k q b.call r (counted doc q k number h) h) is.reply

-- a reply that doesn't count
pub uncounted-is : (doc : Doc) (k : ℕ) (b : Back) (q : Identity) (number : ℕ) (reply : Reply) (h : List Entry) → IsBack b q number reply → counted doc q k number h ≡ None → delivered doc k b h ≡ entry k 3 q (Delivers b.call reply false) ∷ h
uncounted-is doc k b q number reply h is none = delivered-as doc k b q number reply h is ∙ ap (λ w. deliver_as doc k q b.call reply w h) none

-- a reply that counts
pub delivered-is : (doc : Doc) (k : ℕ) (b : Back) (q : Identity) (number : ℕ) (reply : Reply) (waiting : Call) (h : List Entry) → IsBack b q number reply → counted doc q k number h ≡ Some waiting →
    delivered doc k b h ≡ react_as doc k q waiting reply (is_controller doc q.process) (entry k 3 q (Delivers waiting reply true) ∷ h)
delivered-is doc k b q number reply waiting h is some = delivered-as doc k b q number reply h is ∙ ap (λ w. deliver_as doc k q b.call reply w h) some

-- one that counts to a controller, by whether its call is of a release
pub counted-as : (doc : Doc) (k : ℕ) (b : Back) (q : Identity) (number : ℕ) (reply : Reply) (waiting : Call) (begun : Option ℕ) (h : List Entry) → IsBack b q number reply → is_controller doc q.process ≡ true →
    release_begun doc.settings.rules.release waiting.kind ≡ begun → counted doc q k number h ≡ Some waiting → delivered doc k b h ≡ elector_react doc k q waiting reply begun (with_reply k q waiting reply h)
counted-as doc k b q number reply waiting begun h is controls of some =
    delivered-is doc k b q number reply waiting h is some
    ∙ ap (λ t. react_as doc k q waiting reply t (with_reply k q waiting reply h)) controls
    ∙ ap (λ o. elector_react doc k q waiting reply o (with_reply k q waiting reply h)) of

-- the call is the one that waits
pub counted-of : (doc : Doc) (k number : ℕ) (q : Identity) (waiting : Call) (h : List Entry) → counted doc q k number h ≡ Some waiting → release_of doc (call_in q h) ≡ None → release_begun doc.settings.rules.release waiting.kind ≡ None
counted-of doc k number q waiting h some plain = ap (release_of doc) (sym (counted-call doc q k number h waiting some)) ∙ plain

-- nothing counts for another incarnation, or where the process is down
pub absent-uncounted : (doc : Doc) (k : ℕ) (q : Identity) (number : ℕ) (h : List Entry) → is_present (alive q.process h) q.incarnation ≡ false → counted doc q k number h ≡ None
absent-uncounted doc k q number h absent = ap (λ b. only_if b (answered_call doc q k number (call_in q h))) absent

pub down-absent : (p i : ℕ) (h : List Entry) → alive p h ≡ None → is_present (alive p h) i ≡ false
down-absent p i h down = ap (λ o. is_present o i) down

pub other-absent : (p i j : ℕ) (h : List Entry) → alive p h ≡ Some j → ¬ (j ≡ i) → is_present (alive p h) i ≡ false
other-absent p i j h up other = ap (λ o. is_present o i) up ∙ eq-isnt j i other

-- ---- what a reply does

-- q is the identity after it, and Stands what it stands for
pub replied-adds : (doc : Doc) (k : ℕ) (q : Identity) (b : Back) (h g : List Entry) (deeds : List Deed) (Stands : List Entry → Type 0) (lead : Option Version) (end : Bool) → delivered doc k b h ≡ g → Adds k 3 b.who h g deeds →
    deeds ≡ moves.lead_deeds k q lead ++ moves.ended_deeds k q end → Stands g → moves.Replied doc k q b h Stands (record { lead = lead; ended = end; ask = None })
replied-adds doc k q b h g deeds Stands lead end is a same stands =
    record {
      told = ap printed is ∙ a.told ∙ ap (λ ds. printed h ++ ds) same ∙ sym (append_assoc (printed h) (moves.lead_deeds k q lead) (moves.ended_deeds k q end));
      asks = record { facts = a.facts; quiet = a.quiet; adds = is ∙ a.is; stands = subst Stands (sym is) stands };
    }

-- by itself
pub replied-none : (doc : Doc) (k : ℕ) (q : Identity) (b : Back) (call : Call) (reply : Reply) (counts : Bool) (h : List Entry) (Stands : List Entry → Type 0) → delivered doc k b h ≡ entry k 3 b.who (Delivers call reply counts) ∷ h →
    Stands (entry k 3 b.who (Delivers call reply counts) ∷ h) → moves.Replied doc k q b h Stands (record { lead = None; ended = false; ask = None })
replied-none doc k q b call reply counts h Stands is stands = replied-adds doc k q b h (entry k 3 b.who (Delivers call reply counts) ∷ h) [] Stands None false is (adds-one k 3 b.who (Delivers call reply counts) h refl) refl stands

-- it changes nothing but the history
pub replied-uncounted : (doc : Doc) (k p i : ℕ) (b : Back) (number : ℕ) (reply : Reply) (h : List Entry) (c : Controller) (r : Role) → ControllerStands doc p h c → IsBack b (identity p i) number reply → counted doc (identity p i) k number h ≡ None →
    RoleStands doc p c.incarnation (entry k 3 (identity p i) (Delivers b.call reply false) ∷ h) r → Replied doc k p b h (record c { role = r }) (record { lead = None; ended = false; ask = None })
replied-uncounted doc k p i b number reply h c r s is none stands =
    let q = identity p i in
    let next = entry k 3 q (Delivers b.call reply false) ∷ h in
    let same = ap (λ w. entry k 3 w (Delivers b.call reply false) ∷ h) (sym is.who) in
    replied-none doc k (identity p c.incarnation) b b.call reply false h (λ g. ControllerStands doc p g (record c { role = r })) (uncounted-is doc k b q number reply h is none ∙ same)
    (subst (λ g. ControllerStands doc p g (record c { role = r })) same (stands-role doc p h next c r s refl (keeps-beside doc p (entry k 3 q (Delivers b.call reply false)) h refl) stands))

-- it counts, and nothing follows
pub replied-stays : (doc : Doc) (k p : ℕ) (b : Back) (number : ℕ) (reply : Reply) (waiting : Call) (h : List Entry) (c : Controller) (r : Role) → ControllerStands doc p h c → IsBack b (identity p c.incarnation) number reply →
    delivered doc k b h ≡ with_reply k (identity p c.incarnation) waiting reply h →
    RoleStands doc p c.incarnation (with_reply k (identity p c.incarnation) waiting reply h) r → Replied doc k p b h (record c { role = r }) (record { lead = None; ended = false; ask = None })
replied-stays doc k p b number reply waiting h c r s is next stands =
    let q = identity p c.incarnation in
    let same = ap (λ w. entry k 3 w (Delivers waiting reply true) ∷ h) (sym is.who) in
    replied-none doc k q b waiting reply true h (λ g. ControllerStands doc p g (record c { role = r })) (next ∙ same)
    (subst (λ g. ControllerStands doc p g (record c { role = r })) same (stands-role doc p h (with_reply k q waiting reply h) c r s refl (keeps-beside doc p (entry k 3 q (Delivers waiting reply true)) h refl) stands))

-- it counts, and a request follows
pub replied-asks : (doc : Doc) (k p : ℕ) (b : Back) (number : ℕ) (reply : Reply) (waiting : Call) (h : List Entry) (c : Controller) (r : Role) (ask : Ask) (Stands : List Entry → Type 0) → ControllerStands doc p h c →
    IsBack b (identity p c.incarnation) number reply → alive p h ≡ Some c.incarnation →
    Asked doc k 3 (identity p c.incarnation) (with_reply k (identity p c.incarnation) waiting reply h) (delivered doc k b h) Stands ask →
    Makes doc p c.incarnation Stands r → Replied doc k p b h (record c { role = r }) (record { lead = None; ended = false; ask = Some ask })
replied-asks doc k p b number reply waiting h c r ask Stands s is up a stands =
    let q = identity p c.incarnation in
    let g = with_reply k q waiting reply h in
    record {
      told = ap printed a.sent;
      asks = record {
        call = waiting;
        who = is.who;
        asked = subst (λ x. Asked doc k 3 q (with_reply k q waiting x h) (delivered doc k b h) (λ y. ControllerStands doc p y (record c { role = r })) ask) (sym is.reply)
            (record {
              kind = a.kind;
              sent = a.sent;
              number = a.number;
              stands = λ arrives.
                  let e = entry k 3 q (Sends (next_call q k a.kind ask.request g) arrives) in
                  let f = e ∷ g in
                  stands-role doc p h f c r s refl (keeps-both doc p e (entry k 3 q (Delivers waiting reply true)) h refl refl) (stands f up (a.stands arrives));
            });
      };
    }

-- it counts, and the controller leads
pub replied-leads : (doc : Doc) (k p : ℕ) (b : Back) (number : ℕ) (reply : Reply) (waiting : Call) (h : List Entry) (c : Controller) (r : Role) (t : Term) (version : Version) → ControllerStands doc p h c →
    IsBack b (identity p c.incarnation) number reply →
    delivered doc k b h ≡ entry k 3 (identity p c.incarnation) (Leads version) ∷ with_reply k (identity p c.incarnation) waiting reply h →
    OwnsTerm doc p (entry k 3 (identity p c.incarnation) (Leads version) ∷ with_reply k (identity p c.incarnation) waiting reply h) t →
    RoleStands doc p c.incarnation (entry k 3 (identity p c.incarnation) (Leads version) ∷ with_reply k (identity p c.incarnation) waiting reply h) r →
    Replied doc k p b h (record c { role = r; term = with_value c.term t }) (record { lead = Some version; ended = false; ask = None })
replied-leads doc k p b number reply waiting h c r t version s is next owns stands =
    let q = identity p c.incarnation in
    let g = with_reply k q waiting reply h in
    let new = record c { role = r; term = with_value c.term t } in
    replied-adds doc k q b h (entry k 3 q (Leads version) ∷ g) (moves.lead_deeds k q (Some version)) (λ x. ControllerStands doc p x new) (Some version) false next
    (subst (λ w. Adds k 3 w h (entry k 3 q (Leads version) ∷ g) (moves.lead_deeds k q (Some version))) (sym is.who)
    (adds-then (adds-one k 3 q (Delivers waiting reply true) h refl) (adds-one k 3 q (Leads version) g refl)))
    refl (stands-with doc p h (entry k 3 q (Leads version) ∷ g) c r t s refl owns stands)

-- it counts, and the release is over that runs
pub replied-over : (doc : Doc) (k p : ℕ) (b : Back) (number : ℕ) (reply : Reply) (waiting : Call) (h : List Entry) (c : Controller) (end : ReleaseEnd) (at : Local) → ControllerStands doc p h c →
    IsBack b (identity p c.incarnation) number reply →
    delivered doc k b h ≡ end_release doc k 3 (identity p c.incarnation) (with_reply k (identity p c.incarnation) waiting reply h) →
    IsOver doc (identity p c.incarnation) (with_reply k (identity p c.incarnation) waiting reply h) end → at.0 ≡ local doc p k + restart_delay doc →
    Replied doc k p b h (record c { role = role.Down (when end.restarts at) }) (record { lead = None; ended = end.acted; ask = None })
replied-over doc k p b number reply waiting h c end at s is next x at_is =
    let q = identity p c.incarnation in
    let g = with_reply k q waiting reply h in
    let f = end_release doc k 3 q g in
    let new = role.Down (when end.restarts at) in
    let down : alive p f ≡ None = alive-over doc k 3 q g in
    let restarts : reading_of (when end.restarts at) ≡ restart_reading doc p (ended doc p f) =
    back-reading doc p k end.restarts at at_is ∙ ap (λ t. restart_reading doc p (when t k)) x.restarts ∙ ap (restart_reading doc p) (sym (ended-over doc p c.incarnation k 3 g)) in
    replied-adds doc k q b h f (moves.ended_deeds k q (acts_on doc q g)) (λ y. ControllerStands doc p y (record c { role = new })) None end.acted next
    (subst (λ w. Adds k 3 w h f (moves.ended_deeds k q (acts_on doc q g))) (sym is.who) (adds-then (adds-one k 3 q (Delivers waiting reply true) h refl) (adds-over doc k 3 q g)))
    (ap (moves.ended_deeds k q) (sym x.acted)) (stands-role doc p h f c new s (starts-over doc p k 3 q g) (keeps-down doc p h f down) (down, restarts))

-- ---- a lead follows on Done alone

abbrev fact_at_top : List Entry → Option Fact
fact_at_top [] = None
fact_at_top (e ∷ h) = Some e.fact

abbrev version_at_top : Version → Option Fact → Version
version_at_top other (Some (Leads version)) = version
version_at_top other _ = other

never-longer : (e : Entry) (h : List Entry) → h ≡ e ∷ h → ⊥
never-longer e h is = let len = ap length is in omega (arith, len)

abbrev Succeeded : Follow → Version → Type 0
Succeeded Fails version = ⊥
Succeeded (Asks request) version = ⊥
Succeeded (Succeeds done) version = done ≡ version

lead-succeeds : (doc : Doc) (k : ℕ) (q : Identity) (led : Bool) (wanted : Follow) (version : Version) (g : List Entry) → react doc k q led wanted g ≡ entry k 3 q (Leads version) ∷ g → Succeeded wanted version
lead-succeeds doc k q led Fails version g is = never-longer (entry k 3 q (Leads version)) g is
lead-succeeds doc k q led (Asks request) version g is = let top = ap fact_at_top is in cc
lead-succeeds doc k q true (Succeeds done) version g is = absurd (never-longer (entry k 3 q (Leads version)) g is)
lead-succeeds doc k q false (Succeeds done) version g is = ap (λ h. version_at_top version (fact_at_top h)) is

succeeded-get : (doc : Doc) (q : Identity) (k seen : ℕ) (reply : Reply) (version : Version) → Succeeded (follow_get q (moment doc q k) seen reply) version → ⊥
succeeded-get doc q k seen Absent version is = is
succeeded-get doc q k seen (Found v lease) version is = by_block (is_blocked q (local doc q.process k) seen (respected (moment doc q k).respect (moment doc q k).seconds lease)) is
  where
    by_block : (b : Bool) → Succeeded (cond b Fails (Asks (Update election v (updated q (moment doc q k) lease)))) version → ⊥
    by_block true is = is
    by_block false is = is
succeeded-get doc q k seen (Done v) version is = is
succeeded-get doc q k seen Exists version is = is
succeeded-get doc q k seen (Conflict v) version is = is
succeeded-get doc q k seen Unchanged version is = is

succeeded-not_done : (kind : CallKind) (version : Version) → Succeeded (not_done kind) version → ⊥
succeeded-not_done Plain version is = is
succeeded-not_done Fast version is = is
succeeded-not_done Release version is = is
succeeded-not_done (Look begun) version is = is
succeeded-not_done (Emptying begun) version is = is

succeeded-write : (kind : CallKind) (reply : Reply) (version : Version) → Succeeded (follow_write kind reply) version → reply ≡ Done version
succeeded-write kind (Done v) version is = ap (λ (x : Version). Done x) is
succeeded-write kind Absent version is = absurd (succeeded-not_done kind version is)
succeeded-write kind (Found v lease) version is = absurd (succeeded-not_done kind version is)
succeeded-write kind Exists version is = absurd (succeeded-not_done kind version is)
succeeded-write kind (Conflict v) version is = absurd (succeeded-not_done kind version is)
succeeded-write kind Unchanged version is = absurd (succeeded-not_done kind version is)

succeeded-done : (doc : Doc) (q : Identity) (k : ℕ) (kind : CallKind) (request : Request) (reply : Reply) (g : List Entry) (version : Version) → Succeeded (follow_on doc q k kind request reply g) version → reply ≡ Done version
succeeded-done doc q k kind (Get key) reply g version is = absurd (succeeded-get doc q k (observed_at doc q g) reply version is)
succeeded-done doc q k kind (Create key lease) reply g version is = succeeded-write kind reply version is
succeeded-done doc q k kind (Update key given lease) reply g version is = succeeded-write kind reply version is
succeeded-done doc q k kind (PostStatus name status at) reply g version is = absurd is

pub lead-done : (doc : Doc) (k : ℕ) (q : Identity) (waiting : Call) (reply : Reply) (h : List Entry) (version : Version) → reacted doc k q waiting reply h ≡ entry k 3 q (Leads version) ∷ with_reply k q waiting reply h → reply ≡ Done version
lead-done doc k q waiting reply h version is =
    let g = with_reply k q waiting reply h in
    succeeded-done doc q k waiting.kind waiting.request reply g version (lead-succeeds doc k q (leads q h) (follow_on doc q k waiting.kind waiting.request reply g) version g is)

-- ---- what the elector answers, whether the reply counts or not

module _ (doc : Doc) (k p : ℕ) (b : Back) (n : ℕ) (reply : Reply) (h : List Entry) (c : Controller) (s : ControllerStands doc p h c) (is : IsBack b (identity p c.incarnation) n reply) (up : alive p h ≡ Some c.incarnation) where
  abbrev q : Identity
  q = identity p c.incarnation

  stays-uncounted : (r : Role) (Stands : List Entry → Type 0) → Makes doc p c.incarnation Stands r → counted doc q k n h ≡ None → ((call : Call) → Stands (entry k 3 q (Delivers call reply false) ∷ h))
      → Replied doc k p b h (record c { role = r }) (record { lead = None; ended = false; ask = None })
  stays-uncounted r Stands makes none stands = replied-uncounted doc k p c.incarnation b n reply h c r s is none (makes (entry k 3 q (Delivers b.call reply false) ∷ h) up (stands b.call))

  -- ---- the call is of no release

  module _ (plain : release_of doc (call_in q h) ≡ None) where
    reacts : (call : Call) → counted doc q k n h ≡ Some call → delivered doc k b h ≡ reacted doc k q call reply h
    reacts call some = counted-as doc k b q n reply call None h is s.sort (counted-of doc k n q call h some plain) some

    pub answers-stays : (r : Role) (Stands : List Entry → Type 0) → Makes doc p c.incarnation Stands r → (counted doc q k n h ≡ None → (call : Call) → Stands (entry k 3 q (Delivers call reply false) ∷ h)) →
        ((call : Call) → counted doc q k n h ≡ Some call → (reacted doc k q call reply h ≡ with_reply k q call reply h) × Stands (with_reply k q call reply h)) →
        Replied doc k p b h (record c { role = r }) (record { lead = None; ended = false; ask = None })
    answers-stays r Stands makes uncounted counts = by_counted (counted doc q k n h) refl
      where
        by_counted : (w : Option Call) → counted doc q k n h ≡ w → Replied doc k p b h (record c { role = r }) (record { lead = None; ended = false; ask = None })
        by_counted None none = stays-uncounted r Stands makes none (uncounted none)
        by_counted (Some w) some =
            let t = counts w some in
            replied-stays doc k p b n reply w h c r s is (reacts w some ∙ t.0) (makes (with_reply k q w reply h) up t.1)

    pub answers-asks : (r : Role) (ask : Ask) (Stands : List Entry → Type 0) → Makes doc p c.incarnation Stands r → (counted doc q k n h ≡ None → ⊥) →
        ((call : Call) → counted doc q k n h ≡ Some call → Asked doc k 3 q (with_reply k q call reply h) (reacted doc k q call reply h) Stands ask) →
        Replied doc k p b h (record c { role = r }) (record { lead = None; ended = false; ask = Some ask })
    answers-asks r ask Stands makes uncounted counts = by_counted (counted doc q k n h) refl
      where
        by_counted : (w : Option Call) → counted doc q k n h ≡ w → Replied doc k p b h (record c { role = r }) (record { lead = None; ended = false; ask = Some ask })
        by_counted None none = absurd (uncounted none)
        by_counted (Some w) some =
            replied-asks doc k p b n reply w h c r ask Stands s is up (subst (λ x. Asked doc k 3 q (with_reply k q w reply h) x Stands ask) (sym (reacts w some)) (counts w some)) makes

    -- the new leader has this term
    pub answers-leads : (r : Role) (t : Term) (lead : Option Version) (Stands : List Entry → Type 0) → Makes doc p c.incarnation Stands r →
        ((version : Version) (g : List Entry) → TermStands doc q g c.term.value → TermStands doc q (entry k 3 q (Leads version) ∷ g) t) →
        ((version : Version) → reply ≡ Done version → lead ≡ Some version) → (counted doc q k n h ≡ None → ⊥) →
        ((call : Call) → counted doc q k n h ≡ Some call →
        (version : Version) × (reacted doc k q call reply h ≡ entry k 3 q (Leads version) ∷ with_reply k q call reply h) × Stands (reacted doc k q call reply h)) →
        Replied doc k p b h (record c { role = r; term = with_value c.term t }) (record { lead = lead; ended = false; ask = None })
    answers-leads r t lead Stands makes term told uncounted counts = by_counted (counted doc q k n h) refl
      where
        new : Controller
        new = record c { role = r; term = with_value c.term t }

        by_counted : (w : Option Call) → counted doc q k n h ≡ w → Replied doc k p b h new (record { lead = lead; ended = false; ask = None })
        by_counted None none = absurd (uncounted none)
        by_counted (Some w) some =
            let x = counts w some in
            let g = with_reply k q w reply h in
            subst (λ y. Replied doc k p b h new (record { lead = y; ended = false; ask = None })) (sym (told x.0 (lead-done doc k q w reply h x.0 x.1)))
            (replied-leads doc k p b n reply w h c r t x.0 s is (reacts w some ∙ x.1)
            (owns-led doc k p c.incarnation x.0 g c.term.value t up (keeps-beside doc p (entry k 3 q (Delivers w reply true)) h refl c.term.value s.term) (term x.0 g))
            (makes (entry k 3 q (Leads x.0) ∷ g) up (subst Stands x.1 x.2)))

  -- ---- its release runs

  module _ (x : Releasing) (runs : ReleasingStands doc q h x) where
    reacts-in : (call : Call) → counted doc q k n h ≡ Some call → delivered doc k b h ≡ react_in_release doc k q call.kind reply (with_reply k q call reply h)
    reacts-in call some =
        counted-as doc k b q n reply call (Some runs.from) h is s.sort (ap (release_of doc) (sym (counted-call doc q k n h call some) ∙ runs.waits) ∙ runs.began) some

    -- a reply that doesn't count
    pub releases-stays : (r : Releasing) → leads q h ≡ true → (counted doc q k n h ≡ None → (call : Call) → ReleasingStands doc q (entry k 3 q (Delivers call reply false) ∷ h) r) → ((call : Call) → counted doc q k n h ≡ Some call → ⊥) →
        Replied doc k p b h (record c { role = role.Releasing r }) (record { lead = None; ended = false; ask = None })
    releases-stays r led uncounted counts = by_counted (counted doc q k n h) refl
      where
        by_counted : (w : Option Call) → counted doc q k n h ≡ w → Replied doc k p b h (record c { role = role.Releasing r }) (record { lead = None; ended = false; ask = None })
        by_counted None none = replied-uncounted doc k p c.incarnation b n reply h c (role.Releasing r) s is none (up, uncounted none b.call, led)
        by_counted (Some w) some = absurd (counts w some)

    -- the emptying
    pub releases-asks : (r : Releasing) (ask : Ask) → leads q h ≡ true → (counted doc q k n h ≡ None → ⊥) →
        ((call : Call) → counted doc q k n h ≡ Some call →
        Asked doc k 3 q (with_reply k q call reply h) (react_in_release doc k q call.kind reply (with_reply k q call reply h)) (λ g. ReleasingStands doc q g r) ask) →
        Replied doc k p b h (record c { role = role.Releasing r }) (record { lead = None; ended = false; ask = Some ask })
    releases-asks r ask led uncounted counts = by_counted (counted doc q k n h) refl
      where
        Stands : List Entry → Type 0
        Stands g = ReleasingStands doc q g r × (leads q g ≡ true)

        by_counted : (w : Option Call) → counted doc q k n h ≡ w → Replied doc k p b h (record c { role = role.Releasing r }) (record { lead = None; ended = false; ask = Some ask })
        by_counted None none = absurd (uncounted none)
        by_counted (Some w) some =
            let a = counts w some in
            replied-asks doc k p b n reply w h c (role.Releasing r) ask Stands s is up
            (record { kind = a.kind; sent = reacts-in w some ∙ a.sent; number = a.number; stands = λ arrives. (a.stands arrives, led) })
            (λ g up_g stands. (up_g, stands.0, stands.1))

    -- its end
    pub releases-over : (end : ReleaseEnd) (at : Local) → at.0 ≡ local doc p k + restart_delay doc → (counted doc q k n h ≡ None → ⊥) →
        ((call : Call) → counted doc q k n h ≡ Some call →
        (react_in_release doc k q call.kind reply (with_reply k q call reply h) ≡ end_release doc k 3 q (with_reply k q call reply h)) × IsOver doc q (with_reply k q call reply h) end) →
        Replied doc k p b h (record c { role = role.Down (when end.restarts at) }) (record { lead = None; ended = end.acted; ask = None })
    releases-over end at at_is uncounted counts = by_counted (counted doc q k n h) refl
      where
        by_counted : (w : Option Call) → counted doc q k n h ≡ w → Replied doc k p b h (record c { role = role.Down (when end.restarts at) }) (record { lead = None; ended = end.acted; ask = None })
        by_counted None none = absurd (uncounted none)
        by_counted (Some w) some = let t = counts w some in replied-over doc k p b n reply w h c end at s is (reacts-in w some ∙ t.0) t.1 at_is

-- a reply counts or doesn't
pub counted-or : (doc : Doc) (k : ℕ) (q : Identity) (n : ℕ) (h : List Entry) → (counted doc q k n h ≡ None → ⊥) → ((call : Call) → counted doc q k n h ≡ Some call → ⊥) → ⊥
counted-or doc k q n h uncounted counts = by_counted (counted doc q k n h) refl
  where
    by_counted : (w : Option Call) → counted doc q k n h ≡ w → ⊥
    by_counted None none = uncounted none
    by_counted (Some w) some = counts w some

-- ---- a reply that can't count

pub replied-other : (doc : Doc) (k p i : ℕ) (b : Back) (n : ℕ) (reply : Reply) (h : List Entry) (c : Controller) → ControllerStands doc p h c → IsBack b (identity p i) n reply → ¬ (i ≡ c.incarnation) → Replied doc k p b h c (record { lead = None; ended = false; ask = None })
replied-other doc k p i b n reply h c s is other =
    replied-uncounted doc k p i b n reply h c c.role s is (absent-uncounted doc k (identity p i) n h (absent c.role s.role))
    (role-stranger doc p c.incarnation i k 3 (Delivers b.call reply false) h c.role other refl (λ g. refl) (λ g. refl) s.role)
  where
    absent : (r : Role) → RoleStands doc p c.incarnation h r → is_present (alive p h) i ≡ false
    absent (role.Down at) stands = down-absent p i h stands.0
    absent (role.Candidate x) stands = other-absent p i c.incarnation h stands.0 (λ e. other (sym e))
    absent (role.Leading x) stands = other-absent p i c.incarnation h stands.0 (λ e. other (sym e))
    absent (role.Releasing x) stands = other-absent p i c.incarnation h stands.0 (λ e. other (sym e))

pub replied-down : (doc : Doc) (k p : ℕ) (b : Back) (n : ℕ) (reply : Reply) (h : List Entry) (c : Controller) (at : Option Local) → ControllerStands doc p h c → c.role ≡ role.Down at → IsBack b (identity p c.incarnation) n reply →
    Replied doc k p b h (record c { role = role.Down at }) (record { lead = None; ended = false; ask = None })
replied-down doc k p b n reply h c at s is back =
    let down = role-at doc p h c (role.Down at) s is in
    replied-uncounted doc k p c.incarnation b n reply h c (role.Down at) s back (absent-uncounted doc k (identity p c.incarnation) n h (down-absent p c.incarnation h down.0)) down
