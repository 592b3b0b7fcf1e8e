-- The requests that electors and kubelets send can be written.
use Rattle.std.proofs.Common.{◌≡◌, ℕ, ◌+◌, ◌≤◌, ◌==◌, ◌&&◌, nat_lt, Bool, true, false, cond, List, [], ◌∷◌, Option, Some, None, refl, subst, arith}
use Rattle.std.proofs.lemmas.Bool.{ltb-true}
use Rattle.kube_base.specs.declared.numbers.Version.{Version}
use Rattle.kube_base.specs.Times.{last_wall}
use Rattle.kube_objects.proofs.KeyOrder.{key_itself}
use Rattle.kube_objects.specs.declared.call.Reply.{Reply}
use Rattle.kube_objects.specs.declared.call.Reply.TheVariants.{Found, Done, Absent, Exists, Conflict, Unchanged}
use Rattle.kube_objects.specs.declared.call.Request.{Request}
use Rattle.kube_objects.specs.declared.call.Request.TheVariants.{Get, Create, Update, PostStatus}
use Rattle.kube_objects.specs.declared.deed.Actor.{Actor}
use Rattle.kube_objects.specs.declared.lease.Holder.TheVariants as holder
use Rattle.kube_objects.specs.declared.lease.Lease.{Lease}
use Rattle.kube_objects.specs.declared.node.ReadyStatus.{ReadyStatus}
use Rattle.kube_objects.specs.declared.rules.ReleaseRule.{ReleaseRule}
use Rattle.kube_objects.specs.declared.rules.ReleaseRule.TheVariants as rules
use Rattle.kube_objects.specs.declared.script.What.{What}
use Rattle.kube_objects.specs.declared.script.What.TheVariants as what
use Rattle.kube_objects.specs.Clocks.{local, wall}
use Rattle.kube_objects.specs.Document.{Doc, lease_seconds}
use Rattle.kube_objects.specs.Elector.{moment, Shown, Follow, Fails, Asks, told, shows, shown, observed_at, leads, one_more, created, renewed, taken, updated, given_up, follow_on, not_done, is_blocked, respected, is_valid, attempt, attempt_from, release, release_from}
use Rattle.kube_objects.specs.Entry.{Entry, Identity, Call, CallKind, Plain, Fast, Release, Look, Emptying, Fact, First, Event as Happens, Starts, Crashes, Stops, Stalls, Ends, ReleaseBegins, ReleaseEnds, StepsDown, ReleaseStops, Sends, Answers, Delivers, Expires, Leads, Ticks}
use Rattle.kube_objects.specs.Identities.{holder_of, is_by, is_own}
use Rattle.kube_objects.specs.InForce.{status_of, first_status}
use Rattle.kube_objects.specs.Kubelet.{node_of, heartbeat_lease, next_request, post}
use Rattle.kube_objects.specs.Newest.{when, only_if, join, or_else, or_zero}
use Rattle.kube_objects.specs.Process.{open_as, call_says, last_call, call_in}
use Rattle.kube_objects.specs.Releases.{first_call, may_empty, after_look}
use Rattle.kube_objects.specs.Stored.{election, node_lease}
use Rattle.kube_objects.specs.Wire.{of_event, in_force}
use Rattle.kube_objects.specs.Writable.{is_posted}
use Rattle.history_laws.proofs.Counting.{when_value, only_value}
use Rattle.history_laws.proofs.Plainly.{upper, some_is, none_is}
use Rattle.manifest_json.specs.Fields.{Texts}
use Rattle.manifest_json.specs.Readable.{IsNameNumber, IsReadableHolder}
use Rattle.naming_laws.specs.WellFormed.{IsWellFormedLease}
use Rattle.naming_laws.proofs.Texts.{HoldsFixed, foreign_name}
use Rattle.naming_laws.proofs.Fits.{IsLeaseKey, IsFitRequest, IsFitReply, IsFitWhat, Carries, AreFit}

abbrev pub AsksFit : Texts → List ℕ → Follow → Type 0
AsksFit names known (Asks r) = IsFitRequest names known r
AsksFit names known _ = Unit {0}

-- a time of day that is written
abbrev pub IsEarly : Doc → ℕ → ℕ → Type 0
IsEarly doc p k = wall doc p k ≤ last_wall

module _ (names : Texts) (known : List ℕ) (fixed : HoldsFixed names) where
  pub election_key : IsLeaseKey names election
  election_key = (refl, refl, (omega (arith, fixed.held), fixed.system), (omega (arith, fixed.held), fixed.manager))

  pub node_lease_key : (name : ℕ) → IsNameNumber names name → IsLeaseKey names (node_lease name)
  node_lease_key name held = (refl, key_itself (node_lease name), (fixed.held, fixed.leases), held)

  -- ---- what was last shown, and the call that waits

  done_fit : (lease : Lease) → IsWellFormedLease names known lease → (reply : Reply) (x : Shown) → told (Create election lease) reply ≡ Some x → IsWellFormedLease names known x.1
  done_fit lease fit (Done version) x is = subst (λ (y : Shown). IsWellFormedLease names known y.1) (some_is (version, lease) x is) fit
  done_fit lease fit (Found version l) x is = absurd (none_is x is)
  done_fit lease fit Absent x is = absurd (none_is x is)
  done_fit lease fit Exists x is = absurd (none_is x is)
  done_fit lease fit (Conflict version) x is = absurd (none_is x is)
  done_fit lease fit Unchanged x is = absurd (none_is x is)

  told_fit : (r : Request) (reply : Reply) → IsFitRequest names known r → IsFitReply names known reply → (x : Shown) → told r reply ≡ Some x → IsWellFormedLease names known x.1
  told_fit (Get key) (Found version lease) asked replied x is = subst (λ (y : Shown). IsWellFormedLease names known y.1) (some_is (version, lease) x is) replied
  told_fit (Get key) (Done version) asked replied x is = absurd (none_is x is)
  told_fit (Get key) Absent asked replied x is = absurd (none_is x is)
  told_fit (Get key) Exists asked replied x is = absurd (none_is x is)
  told_fit (Get key) (Conflict version) asked replied x is = absurd (none_is x is)
  told_fit (Get key) Unchanged asked replied x is = absurd (none_is x is)
  told_fit (Create key lease) reply asked replied x is = done_fit lease asked.1 reply x is
  told_fit (Update key given lease) reply asked replied x is = done_fit lease asked.1 reply x is
  told_fit (PostStatus name status at) reply asked replied x is = absurd (none_is x is)

  pub shown_fit : (q : Identity) (h : List Entry) → AreFit names known h → (x : Shown) → shown q h ≡ Some x → IsWellFormedLease names known x.1
  shown_fit q [] fit x is = absurd (none_is x is)
  shown_fit q (e ∷ h) fit x is = cases (λ is. shown_fit q h fit.1 x is) e.actor e.fact fit.0.carries is
    where
      Fit : Type 0
      Fit = IsWellFormedLease names known x.1

      by_told : (shown q h ≡ Some x → Fit) → (o : Option Shown) → (o ≡ Some x → Fit) → upper o (shown q h) ≡ Some x → Fit
      by_told below None new is = below is
      by_told below (Some y) new is = new is

      by_test : (shown q h ≡ Some x → Fit) → (b : Bool) (o : Option Shown) → (o ≡ Some x → Fit) → upper (only_if b o) (shown q h) ≡ Some x → Fit
      by_test below true o new is = by_told below o new is
      by_test below false o new is = below is

      cases : (shown q h ≡ Some x → Fit) → (who : Actor) (d : Fact) → Carries names known d → upper (shows q who d) (shown q h) ≡ Some x → Fit
      cases below who (Delivers call reply counted) carries is =
          by_test below (counted && is_by q who) (told call.request reply) (λ is. told_fit call.request reply carries.0 carries.1 x is) is
      cases below who d carries is = below is

  pub waiting_fit : (q : Identity) (h : List Entry) → AreFit names known h → (x : Call) → call_in q h ≡ Some x → IsFitRequest names known x.request
  waiting_fit q [] fit x is = absurd (none_is x is)
  waiting_fit q (e ∷ h) fit x is = cases (λ is. waiting_fit q h fit.1 x is) e.actor e.fact fit.0.carries is
    where
      Fit : Type 0
      Fit = IsFitRequest names known x.request

      by_kind : (call : Call) → IsFitRequest names known call.request → (kind : CallKind) → open_as kind call ≡ Some x → Fit
      by_kind call asked Plain is = subst (λ (call : Call). IsFitRequest names known call.request) (some_is call x is) asked
      by_kind call asked Fast is = subst (λ (call : Call). IsFitRequest names known call.request) (some_is call x is) asked
      by_kind call asked Release is = absurd (none_is x is)
      by_kind call asked (Look begun) is = subst (λ (call : Call). IsFitRequest names known call.request) (some_is call x is) asked
      by_kind call asked (Emptying begun) is = subst (λ (call : Call). IsFitRequest names known call.request) (some_is call x is) asked

      sends : (call_in q h ≡ Some x → Fit) → (b : Bool) (call : Call) → IsFitRequest names known call.request → join (upper (when b (open_as call.kind call)) (last_call q h)) ≡ Some x → Fit
      sends below true call asked is = by_kind call asked call.kind is
      sends below false call asked is = below is

      closes : (call_in q h ≡ Some x → Fit) → (b : Bool) → join (upper (when b None) (last_call q h)) ≡ Some x → Fit
      closes below true is = absurd (none_is x is)
      closes below false is = below is

      cases : (call_in q h ≡ Some x → Fit) → (who : Actor) (d : Fact) → Carries names known d → join (upper (call_says q who d) (last_call q h)) ≡ Some x → Fit
      cases below who (Sends call arrives) carries is = sends below (is_by q who) call carries is
      cases below who (Delivers call reply counted) carries is = closes below (counted && is_by q who) is
      cases below who (Expires call) carries is = closes below (is_by q who) is
      cases below who (ReleaseBegins at_deadline) carries is = closes below (is_by q who) is
      cases below who d carries is = below is

  -- ---- electors

  one_more_count : (transitions : Option ℕ) → one_more transitions ≤ 2147483647
  one_more_count transitions = by (nat_lt (or_zero transitions) 2147483647) refl
    where
      by : (b : Bool) → nat_lt (or_zero transitions) 2147483647 ≡ b → cond b (or_zero transitions + 1) 2147483647 ≤ 2147483647
      by true is = omega (arith, ltb-true (or_zero transitions) 2147483647 is)
      by false is = omega arith

  -- own is said of the holder that it writes, lasts of its lease duration
  module _ (doc : Doc) (q : Identity) (k : ℕ) (own : IsReadableHolder names known (holder_of q)) (lasts : lease_seconds doc q.process ≤ 86400) (early : IsEarly doc q.process k) where
    created_fit : IsWellFormedLease names known (created q (moment doc q k))
    created_fit = record { holder = own; duration = omega (arith, lasts); acquired = early; renewed = early; transitions = omega arith }

    renewed_fit : (lease : Lease) → IsWellFormedLease names known lease → IsWellFormedLease names known (renewed q (moment doc q k) lease)
    renewed_fit lease fit = record { holder = own; duration = omega (arith, lasts); acquired = fit.acquired; renewed = early; transitions = fit.transitions }

    updated_fit : (lease : Lease) → IsWellFormedLease names known lease → IsWellFormedLease names known (updated q (moment doc q k) lease)
    updated_fit lease fit = by_own (is_own q lease.holder)
      where
        by_own : (b : Bool) → IsWellFormedLease names known (cond b (renewed q (moment doc q k) lease) (taken q (moment doc q k) lease))
        by_own true = renewed_fit lease fit
        by_own false = record { holder = own; duration = omega (arith, lasts); acquired = early; renewed = early; transitions = one_more_count lease.transitions }

    pub follow_fit : (kind : CallKind) (request : Request) (reply : Reply) (h : List Entry) → IsFitReply names known reply → AsksFit names known (follow_on doc q k kind request reply h)
    follow_fit kind request reply h fit = cases request reply fit
      where
        by_test : (b : Bool) (r : Request) → IsFitRequest names known r → AsksFit names known (cond b Fails (Asks r))
        by_test true r asked = tt
        by_test false r asked = asked

        refused : (kind : CallKind) → AsksFit names known (not_done kind)
        refused Plain = tt
        refused Fast = election_key
        refused Release = tt
        refused (Look begun) = tt
        refused (Emptying begun) = tt

        cases : (request : Request) (reply : Reply) → IsFitReply names known reply → AsksFit names known (follow_on doc q k kind request reply h)
        cases (Get key) Absent fit = (election_key, created_fit)
        cases (Get key) (Found version lease) fit =
            by_test (is_blocked q (local doc q.process k) (observed_at doc q h) (respected doc.settings.rules.respect (lease_seconds doc q.process) lease)) (Update election version (updated q (moment doc q k) lease)) (election_key, updated_fit lease fit)
        cases (Get key) (Done version) fit = tt
        cases (Get key) Exists fit = tt
        cases (Get key) (Conflict version) fit = tt
        cases (Get key) Unchanged fit = tt
        cases (Create key lease) (Done version) fit = tt
        cases (Create key lease) (Found version l) fit = refused kind
        cases (Create key lease) Absent fit = refused kind
        cases (Create key lease) Exists fit = refused kind
        cases (Create key lease) (Conflict version) fit = refused kind
        cases (Create key lease) Unchanged fit = refused kind
        cases (Update key given lease) (Done version) fit = tt
        cases (Update key given lease) (Found version l) fit = refused kind
        cases (Update key given lease) Absent fit = refused kind
        cases (Update key given lease) Exists fit = refused kind
        cases (Update key given lease) (Conflict version) fit = refused kind
        cases (Update key given lease) Unchanged fit = refused kind
        cases (PostStatus name status at) reply fit = tt

    pub attempt_fit : (h : List Entry) → AreFit names known h → IsFitRequest names known (attempt doc q k h).1
    attempt_fit h fit = by_test (doc.settings.fast_renew && leads q h)
      where
        by_own : (b : Bool) (x : Shown) → IsWellFormedLease names known x.1 → IsFitRequest names known (cond {A = CallKind × Request} b (Fast, Update election x.0 (renewed q (moment doc q k) x.1)) (Plain, Get election)).1
        by_own true x lease = (election_key, renewed_fit x.1 lease)
        by_own false x lease = election_key

        by_shown : (o : Option Shown) → shown q h ≡ o → IsFitRequest names known (attempt_from q (moment doc q k) (observed_at doc q h) o).1
        by_shown None is = election_key
        by_shown (Some x) is = by_own (is_own q x.1.holder && is_valid (local doc q.process k) (observed_at doc q h) x.1) x (shown_fit q h fit x is)

        by_test : (b : Bool) → IsFitRequest names known (cond {A = CallKind × Request} b (attempt_from q (moment doc q k) (observed_at doc q h) (shown q h)) (Plain, Get election)).1
        by_test true = by_shown (shown q h) refl
        by_test false = election_key

    -- what empties a Lease
    given_up_fit : (version : Version) (lease : Lease) → IsWellFormedLease names known lease → IsFitRequest names known (Update election version (given_up (wall doc q.process k) lease))
    given_up_fit version lease fit = (election_key, record { holder = tt; duration = omega arith; acquired = early; renewed = early; transitions = fit.transitions })

    from_fit : (h : List Entry) → AreFit names known h → (request : Request) → release_from q (wall doc q.process k) (shown q h) ≡ Some request → IsFitRequest names known request
    from_fit h fit request is = by_shown (shown q h) refl is
      where
        by_shown : (o : Option Shown) → shown q h ≡ o → release_from q (wall doc q.process k) o ≡ Some request → IsFitRequest names known request
        by_shown None at is = absurd (none_is request is)
        by_shown (Some x) at is =
            subst (IsFitRequest names known) (when_value (is_own q x.1.holder) (Update election x.0 (given_up (wall doc q.process k) x.1)) request is)
            (given_up_fit x.0 x.1 (shown_fit q h fit x at))

    pub release_fit : (h : List Entry) → AreFit names known h → (request : Request) → release doc q k h ≡ Some request → IsFitRequest names known request
    release_fit h fit request is = from_fit h fit request (only_value (leads q h) (release_from q (wall doc q.process k) (shown q h)) request is)

    -- the first call of a release, and what follows a look
    pub first_fit : (h : List Entry) → AreFit names known h → (call : CallKind × Request) → first_call doc.settings.rules.release k (release_from q (wall doc q.process k) (shown q h)) ≡ Some call
        → IsFitRequest names known call.1
    first_fit h fit call is = by_rule doc.settings.rules.release (release_from q (wall doc q.process k) (shown q h)) refl is
      where
        looked : Some (Look k, Get election) ≡ Some call → IsFitRequest names known call.1
        looked is = subst (λ (c : CallKind × Request). IsFitRequest names known c.1) (some_is (Look k, Get election) call is) election_key

        by_rule : (rule : ReleaseRule) (o : Option Request) → release_from q (wall doc q.process k) (shown q h) ≡ o → first_call rule k o ≡ Some call → IsFitRequest names known call.1
        by_rule rules.Stop o at is = absurd (none_is call is)
        by_rule rules.Own None at is = absurd (none_is call is)
        by_rule rules.Own (Some request) at is = subst (λ (c : CallKind × Request). IsFitRequest names known c.1) (some_is (Emptying k, request) call is) (from_fit h fit request at)
        by_rule rules.Checked o at is = looked is
        by_rule rules.Reread o at is = looked is

    pub look_fit : (rule : ReleaseRule) (mine : Bool) (reply : Reply) → IsFitReply names known reply → (request : Request) → after_look rule q (wall doc q.process k) mine reply ≡ Some request
        → IsFitRequest names known request
    look_fit rule mine (Found version lease) fit request is =
        subst (IsFitRequest names known) (when_value (mine && may_empty rule q lease) (Update election version (given_up (wall doc q.process k) lease)) request is) (given_up_fit version lease fit)
    look_fit rule mine (Done version) fit request is = absurd (none_is request is)
    look_fit rule mine Absent fit request is = absurd (none_is request is)
    look_fit rule mine Exists fit request is = absurd (none_is request is)
    look_fit rule mine (Conflict version) fit request is = absurd (none_is request is)
    look_fit rule mine Unchanged fit request is = absurd (none_is request is)

  -- ---- kubelets

  module _ (doc : Doc) (q : Identity) (k : ℕ) (held : IsNameNumber names (node_of doc q.process)) (lasts : doc.settings.node_lease_duration_seconds ≤ 86400) (early : IsEarly doc q.process k) where
    own_name : IsReadableHolder names known (holder.Foreign (node_of doc q.process))
    own_name = foreign_name names known (node_of doc q.process) held

    pub next_fit : (request : Request) (reply : Reply) (next : Request) → IsFitRequest names known request → IsFitReply names known reply → next_request doc q k request reply ≡ Some next
        → IsFitRequest names known next
    next_fit (PostStatus name status at) reply next asked replied is = subst (IsFitRequest names known) (some_is _ next is) (node_lease_key (node_of doc q.process) held)
    next_fit (Get key) Absent next asked replied is =
        subst (IsFitRequest names known) (some_is (Create key (heartbeat_lease doc q k None)) next is) (asked, record { holder = own_name; duration = omega (arith, lasts); acquired = tt; renewed = early; transitions = tt })
    next_fit (Get key) (Found version lease) next asked replied is =
        subst (IsFitRequest names known) (some_is (Update key version (heartbeat_lease doc q k (Some lease))) next is) (asked, record { holder = own_name; duration = omega (arith, lasts); acquired = replied.acquired; renewed = early; transitions = replied.transitions })
    next_fit (Get key) (Done version) next asked replied is = absurd (none_is next is)
    next_fit (Get key) Exists next asked replied is = absurd (none_is next is)
    next_fit (Get key) (Conflict version) next asked replied is = absurd (none_is next is)
    next_fit (Get key) Unchanged next asked replied is = absurd (none_is next is)
    next_fit (Create key l) reply next asked replied is = absurd (none_is next is)
    next_fit (Update key version l) reply next asked replied is = absurd (none_is next is)

    -- the status of an event that was in force
    event_fit : (h : List Entry) → AreFit names known h → (status : ReadyStatus) → in_force (status_of q.process) h ≡ Some status → is_posted status ≡ true
    event_fit [] fit status is = absurd (none_is status is)
    event_fit (e ∷ h) fit status is = cases (λ is. event_fit h fit.1 status is) e.fact fit.0.carries is
      where
        Below : Type 0
        Below = in_force (status_of q.process) h ≡ Some status → is_posted status ≡ true

        by_test : Below → (b : Bool) (s : ReadyStatus) → is_posted s ≡ true → upper (when b s) (in_force (status_of q.process) h) ≡ Some status → is_posted status ≡ true
        by_test below true s fit is = subst (λ s. is_posted s ≡ true) (some_is s status is) fit
        by_test below false s fit is = below is

        by_event : Below → (w : What) → IsFitWhat names known w → upper (status_of q.process w) (in_force (status_of q.process) h) ≡ Some status → is_posted status ≡ true
        by_event below (what.Ready id s) fit is = by_test below (id.0 == q.process) s fit is
        by_event below (what.Rate id ppm) fit is = below is
        by_event below (what.Delay id requests replies) fit is = below is
        by_event below (what.Loss id requests replies) fit is = below is
        by_event below (what.Crash id) fit is = below is
        by_event below (what.Start id) fit is = below is
        by_event below (what.Stop id) fit is = below is
        by_event below (what.Watch id on) fit is = below is
        by_event below (what.Pause id beats) fit is = below is
        by_event below (what.Stall beats) fit is = below is
        by_event below (what.Put key object) fit is = below is
        by_event below (what.Remove key) fit is = below is

        cases : Below → (d : Fact) → Carries names known d → upper (of_event (status_of q.process) d) (in_force (status_of q.process) h) ≡ Some status → is_posted status ≡ true
        cases below (Happens event version) carries is = by_event below event carries is
        cases below (First key object) carries is = below is
        cases below Starts carries is = below is
        cases below Crashes carries is = below is
        cases below Stops carries is = below is
        cases below (Stalls beats) carries is = below is
        cases below Ends carries is = below is
        cases below (ReleaseBegins at_deadline) carries is = below is
        cases below ReleaseEnds carries is = below is
        cases below StepsDown carries is = below is
        cases below ReleaseStops carries is = below is
        cases below (Sends call arrives) carries is = below is
        cases below (Answers call reply comes written) carries is = below is
        cases below (Delivers call reply counted) carries is = below is
        cases below (Expires call) carries is = below is
        cases below (Leads version) carries is = below is
        cases below (Ticks t) carries is = below is

    pub post_fit : (h : List Entry) → is_posted (first_status doc q.process) ≡ true → AreFit names known h → IsFitRequest names known (post doc q k h)
    post_fit h first fit = (held, by_event (in_force (status_of q.process) h) refl, early)
      where
        by_event : (o : Option ReadyStatus) → in_force (status_of q.process) h ≡ o → is_posted (or_else (first_status doc q.process) o) ≡ true
        by_event None is = first
        by_event (Some status) is = event_fit h fit status is
