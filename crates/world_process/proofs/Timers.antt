-- A controller's turn after its restart, by what it is and what its elector answers.
use Rattle.std.proofs.Common.{◌≡◌, ◌&&◌, ℕ, Bool, false, List, ◌∷◌, Option, Some, None, refl, ap, ◌∙◌, subst}
use Rattle.std.proofs.lemmas.List.{append-nil}
use Rattle.kube_base.specs.declared.numbers.Local.{Local}
use Rattle.kube_objects.specs.declared.call.Ask.{Ask}
use Rattle.kube_objects.specs.CallSlots.{release_of}
use Rattle.kube_objects.specs.Clocks.{local}
use Rattle.kube_objects.specs.Document.{Doc}
use Rattle.kube_objects.specs.Elector.{in_term, is_before, leads}
use Rattle.kube_objects.specs.Entry.{Entry, Identity, Sends, entry}
use Rattle.kube_objects.specs.Identities.{identity}
use Rattle.kube_objects.specs.Process.{alive, call_in, is_present}
use Rattle.kube_objects.specs.Turns.{end_term, try, expired}
use Rattle.kube_objects.specs.Wire.{next_call}
use Rattle.history.specs.Printed.{printed}
use Rattle.history.specs.Steps.{finish, attempts}
use Rattle.leader_elector.specs.declared.candidate.Candidate.{Candidate}
use Rattle.leader_elector.specs.declared.leading.Leading.{Leading}
use Rattle.leader_elector.specs.Moves.{Asked, CandidateTurns, after_turn, tested}
use Rattle.leader_elector.specs.Stands.{CandidateStands, LeadingStands}
use Rattle.world_process.specs.declared.controller.Controller.{Controller}
use Rattle.world_process.specs.declared.controller.Role.{Role}
use Rattle.world_process.specs.declared.controller.Role.TheVariants as role
use Rattle.world_process.specs.Controllers.{RoleStands, ControllerStands, Timed}
use Rattle.world_process.specs.Moves.{ended_deeds, settled}
use Rattle.world_process.proofs.OwnTerm.{keeps-beside, keeps-expired}
use Rattle.world_process.proofs.Quiet.{Adds, adds-expired, adds-none, alive-expired, starts-expired}
use Rattle.world_process.proofs.Standing.{Makes, stands-role, role-at}
use Rattle.world_process.proofs.Terms.{no_deadline}
use Rattle.world_process.proofs.Unheard.{and-false}
use Rattle.world_process.proofs.Turning.{expire-up, finish-up, attempts-up, expire-down, finish-down, attempts-down}

-- ---- what is done

-- quiet entries alone
pub timed-stays : (doc : Doc) (k p : ℕ) (h g : List Entry) (c : Controller) (end : Bool) → attempts doc k p (settled doc k p h) ≡ g → Adds k 4 (identity p c.incarnation) h g (ended_deeds k (identity p c.incarnation) end) →
    ControllerStands doc p g c → Timed doc k p h c end None
timed-stays doc k p h g c end is a stands =
    record {
      told = ap printed is ∙ a.told;
      asks = record { facts = a.facts; quiet = a.quiet; asks = (is ∙ a.is, subst (λ x. ControllerStands doc p x c) a.is stands) };
    }

-- and after them a request
pub timed-asks : (doc : Doc) (k p : ℕ) (h g : List Entry) (c : Controller) (end : Bool) (ask : Ask) → Adds k 4 (identity p c.incarnation) h g (ended_deeds k (identity p c.incarnation) end) →
    Asked doc k 4 (identity p c.incarnation) g (attempts doc k p (settled doc k p h)) (λ x. ControllerStands doc p x c) ask → Timed doc k p h c end (Some ask)
timed-asks doc k p h g c end ask a x =
    record {
      told = ap printed x.sent ∙ append-nil (printed g) ∙ a.told;
      asks = record {
        facts = a.facts;
        quiet = a.quiet;
        asks = subst (λ y. Asked doc k 4 (identity p c.incarnation) y (attempts doc k p (settled doc k p h)) (λ z. ControllerStands doc p z c) ask) a.is x;
      };
    }

pub timed-down : (doc : Doc) (k p : ℕ) (h : List Entry) (c : Controller) (at : Option Local) → ControllerStands doc p h c → c.role ≡ role.Down at → Timed doc k p h (record c { role = role.Down at }) false None
timed-down doc k p h c at s is =
    let down = role-at doc p h c (role.Down at) s is in
    let same : settled doc k p h ≡ h = ap (finish doc k p) (expire-down doc k p h down.0) ∙ finish-down doc k p h down.0 in
    timed-stays doc k p h h (record c { role = role.Down at }) false (ap (attempts doc k p) same ∙ attempts-down doc k p h down.0) (adds-none k 4 (identity p c.incarnation) h)
    (stands-role doc p h h c (role.Down at) s refl (λ t s. s) down)

-- ---- where a controller is up whose call is of no release

-- the history after the expiry and the test of the deadline
pub up-settled : (doc : Doc) (k p i : ℕ) (h : List Entry) → alive p h ≡ Some i → release_of doc (call_in (identity p i) h) ≡ None → settled doc k p h ≡ tested doc k (identity p i) (expired doc k (identity p i) h)
up-settled doc k p i h up plain =
    let q = identity p i in
    ap (finish doc k p) (expire-up doc k p i h up) ∙ finish-up doc k p i (expired doc k q h) (alive-expired doc k p q h plain ∙ up)

candidate-settled : (doc : Doc) (k p i : ℕ) (h : List Entry) → alive p h ≡ Some i → release_of doc (call_in (identity p i) h) ≡ None → leads (identity p i) (expired doc k (identity p i) h) ≡ false → settled doc k p h ≡ expired doc k (identity p i) h
candidate-settled doc k p i h up plain unled =
    let q = identity p i in
    let e = expired doc k q h in
    up-settled doc k p i h up plain ∙ ap (λ at. end_term doc k q at e) (no_deadline doc q e unled)

module _ (doc : Doc) (k p : ℕ) (h : List Entry) (c : Controller) (s : ControllerStands doc p h c) (up : alive p h ≡ Some c.incarnation) (plain : release_of doc (call_in (identity p c.incarnation) h) ≡ None) where
  abbrev q : Identity
  q = identity p c.incarnation

  abbrev e : List Entry
  e = expired doc k q h

  up-after : alive p e ≡ Some c.incarnation
  up-after = alive-expired doc k p q h plain ∙ up

  -- an answer of the elector that asks nothing
  elector-stays : (r : Role) → settled doc k p h ≡ e → try doc k q e ≡ e → RoleStands doc p c.incarnation e r → Timed doc k p h (record c { role = r }) false None
  elector-stays r is tries stands =
      timed-stays doc k p h e (record c { role = r }) false (ap (attempts doc k p) is ∙ attempts-up doc k p c.incarnation e up-after ∙ tries) (adds-expired doc k q h plain)
      (stands-role doc p h e c r s (starts-expired doc k p q h plain) (keeps-expired doc k p q h) stands)

  -- one that asks
  elector-asks : (r : Role) (ask : Ask) (Stands : List Entry → Type 0) → settled doc k p h ≡ e → Asked doc k 4 q e (try doc k q e) Stands ask → Makes doc p c.incarnation Stands r → Timed doc k p h (record c { role = r }) false (Some ask)
  elector-asks r ask Stands is a makes =
      timed-asks doc k p h e (record c { role = r }) false ask (adds-expired doc k q h plain)
      (record {
        kind = a.kind;
        sent = ap (attempts doc k p) is ∙ attempts-up doc k p c.incarnation e up-after ∙ a.sent;
        number = a.number;
        stands = λ arrives.
            let x = entry k 4 q (Sends (next_call q k a.kind ask.request e) arrives) in
            stands-role doc p h (x ∷ e) c r s (starts-expired doc k p q h plain) (λ t s. keeps-beside doc p x e refl t (keeps-expired doc k p q h t s)) (makes (x ∷ e) up-after (a.stands arrives));
      })

  candidate-stays : (x : Candidate) → try doc k q e ≡ e → CandidateStands doc q e x → Timed doc k p h (record c { role = role.Candidate x }) false None
  candidate-stays x tries stands = elector-stays (role.Candidate x) (candidate-settled doc k p c.incarnation h up plain stands.leads) tries (up-after, stands)

  candidate-asks : (x : Candidate) (ask : Ask) → Asked doc k 4 q e (try doc k q e) (λ g. CandidateStands doc q g x) ask → Timed doc k p h (record c { role = role.Candidate x }) false (Some ask)
  candidate-asks x ask a =
      let unled : leads q e ≡ false = (a.stands None).leads in
      elector-asks (role.Candidate x) ask (λ g. CandidateStands doc q g x) (candidate-settled doc k p c.incarnation h up plain unled) a (λ g up_g stands. (up_g, stands))

  -- whatever a candidate's turn asks
  pub candidate-turned : (x : Candidate) (ask : Option Ask) → CandidateTurns doc k q e (after_turn x ask) → Timed doc k p h (record c { role = role.Candidate x }) false ask
  candidate-turned x None t = candidate-stays x t.0 t.1
  candidate-turned x (Some ask) t = candidate-asks x ask t

  pub leading-stays : (x : Leading) → tested doc k q e ≡ e → try doc k q e ≡ e → LeadingStands doc q e x → Timed doc k p h (record c { role = role.Leading x }) false None
  leading-stays x goes tries stands = elector-stays (role.Leading x) (up-settled doc k p c.incarnation h up plain ∙ goes) tries (up-after, stands)

  pub leading-asks : (x : Leading) (ask : Ask) → tested doc k q e ≡ e → Asked doc k 4 q e (try doc k q e) (λ g. LeadingStands doc q g x) ask → Timed doc k p h (record c { role = role.Leading x }) false (Some ask)
  leading-asks x ask goes a = elector-asks (role.Leading x) ask (λ g. LeadingStands doc q g x) (up-settled doc k p c.incarnation h up plain ∙ goes) a (λ g up_g stands. (up_g, stands))

-- ---- who doesn't lead isn't in a term

pub unled-over : (doc : Doc) (k : ℕ) (q : Identity) (h : List Entry) → leads q h ≡ false → in_term doc q k h ≡ false
unled-over doc k q h unled =
    let present = is_present (alive q.process h) q.incarnation in
    ap (λ at. present && is_before (local doc q.process k) at) (no_deadline doc q h unled) ∙ and-false present
