-- When a process adds an entry in its turn, a tick aside: from which reading on, and from which beat on.
use Rattle.std.proofs.Common.{◌≡◌, ◌↔◌, ℕ, ◌+◌, ◌<◌, ◌≤◌, Bool, true, false, cond, nat_lt, min, List, Option, Some, None, IfSome, IfNone, option_map, refl, sym, ap, ◌∙◌, subst, arith}
use Rattle.std.proofs.lemmas.Bool.Decides.{nat_tests}
use Rattle.kube_base.specs.declared.numbers.Beat.{Beat}
use Rattle.kube_base.specs.declared.numbers.Local.{Local}
use Rattle.kube_objects.specs.declared.rules.ReleaseRule.{ReleaseRule}
use Rattle.kube_objects.specs.declared.rules.ReleaseRule.TheVariants.{Stop, Own, Checked, Reread}
use Rattle.kube_objects.specs.CallSlots.{release_of}
use Rattle.kube_objects.specs.Clocks.{local}
use Rattle.kube_objects.specs.Document.{Doc, call_timeout}
use Rattle.kube_objects.specs.Elector.{deadline, timer}
use Rattle.kube_objects.specs.Entry.{Call, Entry, Identity}
use Rattle.kube_objects.specs.Identities.{identity}
use Rattle.kube_objects.specs.Kubelet.{has_round, is_post_call, round_timer}
use Rattle.kube_objects.specs.Newest.{has}
use Rattle.kube_objects.specs.Process.{alive, call_in, ended, is_releasing}
use Rattle.kube_objects.specs.Turns.{is_fast_call, just_expired}
use Rattle.history.specs.Steps.{elector_turn, kubelet_turn}
use Rattle.history_laws.proofs.Plainly.{none_is, some_is}
use Rattle.agenda_laws.specs.Times.{is_early, sooner, if_up, ends_at, release_at, restart_after, restart_if_down, late_at, unless_waiting, LostNoUpdate, LostNoPost, unless_running, elector_reading, kubelet_reading}
use Rattle.agenda_laws.proofs.Times.{electors_wake, kubelets_wake}
use Rattle.kubelet_node.specs.declared.kubelet.Kubelet as rounds
use Rattle.kubelet_node.specs.Moves.{wake_from as round_from}
use Rattle.leader_elector.specs.declared.candidate.Candidate.{Candidate}
use Rattle.leader_elector.specs.declared.leading.Leading.{Leading}
use Rattle.leader_elector.specs.declared.releasing.Releasing.{Releasing}
use Rattle.leader_elector.specs.Moves.{wake_from, wake_before}
use Rattle.leader_elector.specs.Releases.{release_wake}
use Rattle.leader_elector.specs.Stands.{IsSettled}
use Rattle.skew_clock.specs.Clocking.{Clocking, IsFirst, reading}
use Rattle.skew_clock.proofs.Readings.{reading-monotone}
use Rattle.world_process.specs.declared.controller.Role.{Role}
use Rattle.world_process.specs.declared.controller.Role.TheVariants as role
use Rattle.world_process.specs.Beats.{IsBeatOf, beat_in, own_reading, own_reading_as, reading_of}
use Rattle.world_process.specs.Clocked.{ClockStands}
use Rattle.world_process.specs.Controllers.{RoleStands, restart_reading}
use Rattle.world_process.specs.Kubelets.{RoundsStand}
use Rattle.world_process.specs.Moves.{own_turn, own_turn_as}
use Rattle.world_process.specs.declared.process.Process.{Process}
use Rattle.world_process.specs.declared.process.Process.TheVariants as process
use Rattle.world_process.specs.declared.waking.Waking.{Waking}
use Rattle.world_process.specs.Processes.{IsKept, IsTimed, ProcessStands, clock_of, waking_of}
use Rattle.world_process.proofs.Names.{lt-from, le-from}
use Rattle.world_process.proofs.Readings.{reading-local}
use Rattle.world_process.proofs.Releases.{has-release, waits-settled}
use Rattle.world_process.proofs.Restarts.{lt-true}
use Rattle.world_process.proofs.Terms.{no_deadline}

-- ---- the reading

sooner-none : (a : Option ℕ) → sooner a None ≡ a
sooner-none None = refl
sooner-none (Some a) = refl

-- what is waited for by who is up, and by who is down
abbrev reading_as : Doc → ℕ → Option ℕ → List Entry → Option ℕ
reading_as doc p o h =
    sooner (restart_if_down doc p o h)
    (sooner (if_up p (λ q. late_at doc q (call_in q h)) o)
    (sooner (if_up p (λ q. ends_at doc.settings.rules.release (is_releasing q h) (deadline doc q h)) o) (if_up p (λ q. unless_waiting (call_in q h) (timer doc q h)) o)))

-- the same of an identity that is up
abbrev waits_for : Doc → Identity → List Entry → Option ℕ
waits_for doc q h =
    sooner (late_at doc q (call_in q h))
    (sooner (ends_at doc.settings.rules.release (is_releasing q h) (deadline doc q h)) (unless_waiting (call_in q h) (timer doc q h)))

restart-is_after : (doc : Doc) (p : ℕ) (o : Option ℕ) → restart_reading doc p o ≡ restart_after doc p o
restart-is_after doc p None = refl
restart-is_after doc p (Some at) = refl

pub down-reading : (doc : Doc) (p i : ℕ) (h : List Entry) (at : Option Local) → RoleStands doc p i h (role.Down at) → reading_of at ≡ elector_reading doc p h
down-reading doc p i h at s =
    s.1 ∙ restart-is_after doc p (ended doc p h) ∙ sym (sooner-none (restart_after doc p (ended doc p h))) ∙ ap (λ o. reading_as doc p o h) (sym s.0)

up-reading : (doc : Doc) (p i : ℕ) (h : List Entry) (at : Option ℕ) → alive p h ≡ Some i → at ≡ waits_for doc (identity p i) h → at ≡ elector_reading doc p h
up-reading doc p i h at up is = is ∙ ap (λ o. reading_as doc p o h) (sym up)

-- where no release runs its deadline is waited for, whatever the rule
ends-unreleased : (rule : ReleaseRule) (at : Option ℕ) → ends_at rule false at ≡ at
ends-unreleased Stop at = refl
ends-unreleased Own at = refl
ends-unreleased Checked at = refl
ends-unreleased Reread at = refl

-- and where one runs it isn't
ends-releasing : (rule : ReleaseRule) (at : Option ℕ) → (rule ≡ Stop → ⊥) → ends_at rule true at ≡ None
ends-releasing Stop at other = absurd (other refl)
ends-releasing Own at other = refl
ends-releasing Checked at other = refl
ends-releasing Reread at other = refl

-- a call that is of no release is waited for until its timeout is over
late-plain : (doc : Doc) (q : Identity) (o : Option Call) → release_of doc o ≡ None → late_at doc q o ≡ option_map (λ call. local doc q.process call.sent + call_timeout doc q.process + 1) o
late-plain doc q None none = refl
late-plain doc q (Some call) none = ap (λ x. sooner (release_at doc q x) (Some (local doc q.process call.sent + call_timeout doc q.process + 1))) none

unreleased-waits : (doc : Doc) (q : Identity) (h : List Entry) → is_releasing q h ≡ false → release_of doc (call_in q h) ≡ None →
    waits_for doc q h ≡ sooner (option_map (λ call. local doc q.process call.sent + call_timeout doc q.process + 1) (call_in q h)) (sooner (deadline doc q h) (unless_waiting (call_in q h) (timer doc q h)))
unreleased-waits doc q h rests plain =
    ap (λ b. sooner (late_at doc q (call_in q h)) (sooner (ends_at doc.settings.rules.release b (deadline doc q h)) (unless_waiting (call_in q h) (timer doc q h)))) rests
    ∙ ap (λ o. sooner (late_at doc q (call_in q h)) (sooner o (unless_waiting (call_in q h) (timer doc q h)))) (ends-unreleased doc.settings.rules.release (deadline doc q h))
    ∙ ap (λ o. sooner o (sooner (deadline doc q h) (unless_waiting (call_in q h) (timer doc q h)))) (late-plain doc q (call_in q h) plain)

-- without a deadline
waits-alone : (doc : Doc) (q : Identity) (at : ℕ) (o : Option Call) → Some (wake_from doc q at o) ≡ sooner (option_map (λ call. local doc q.process call.sent + call_timeout doc q.process + 1) o) (sooner None (unless_waiting o at))
waits-alone doc q at None = refl
waits-alone doc q at (Some call) = refl

-- with one
before-is : (wake at : ℕ) → cond (nat_lt at wake) at wake ≡ min at wake
before-is wake at = by_test (nat_lt at wake) refl
  where
    by_test : (b : Bool) → nat_lt at wake ≡ b → cond b at wake ≡ min at wake
    by_test true is = let less = lt-from at wake is in omega (arith, less)
    by_test false is = let most = le-from at wake is in omega (arith, most)

min-swap : (a b : ℕ) → min a b ≡ min b a
min-swap a b = omega arith

waits-before : (doc : Doc) (q : Identity) (at ends : ℕ) (o : Option Call) → Some (wake_before (wake_from doc q at o) (Some ends)) ≡
    sooner (option_map (λ call. local doc q.process call.sent + call_timeout doc q.process + 1) o) (sooner (Some ends) (unless_waiting o at))
waits-before doc q at ends None = ap (λ n. Some n) (before-is at ends)
waits-before doc q at ends (Some call) =
    let late = local doc q.process call.sent + call_timeout doc q.process + 1 in
    ap (λ n. Some n) (before-is late ends ∙ min-swap ends late)

pub candidate-reading : (doc : Doc) (p i wake : ℕ) (h : List Entry) (x : Candidate) → RoleStands doc p i h (role.Candidate x) → wake ≡ wake_from doc (identity p i) (timer doc (identity p i) h) (call_in (identity p i) h)
    → Some wake ≡ elector_reading doc p h
candidate-reading doc p i wake h x s is =
    let q = identity p i in
    let late = option_map (λ call. local doc q.process call.sent + call_timeout doc q.process + 1) (call_in q h) in
    up-reading doc p i h (Some wake) s.0
    (ap (λ n. Some n) is
    ∙ waits-alone doc q (timer doc q h) (call_in q h)
    ∙ ap (λ o. sooner late (sooner o (unless_waiting (call_in q h) (timer doc q h)))) (sym (no_deadline doc q h s.1.leads))
    ∙ sym (unreleased-waits doc q h s.1.unreleased s.1.elector.slot.ordinary))

pub leading-reading : (doc : Doc) (p i wake : ℕ) (h : List Entry) (x : Leading) → RoleStands doc p i h (role.Leading x) → wake ≡ wake_before (wake_from doc (identity p i) (timer doc (identity p i) h) (call_in (identity p i) h)) (deadline doc (identity p i) h)
    → Some wake ≡ elector_reading doc p h
leading-reading doc p i wake h x s is =
    let q = identity p i in
    let late = option_map (λ call. local doc q.process call.sent + call_timeout doc q.process + 1) (call_in q h) in
    up-reading doc p i h (Some wake) s.0
    (ap (λ n. Some n) (is ∙ ap (wake_before (wake_from doc q (timer doc q h) (call_in q h))) (sym s.1.deadline))
    ∙ waits-before doc q (timer doc q h) x.deadline.0 (call_in q h)
    ∙ ap (λ o. sooner late (sooner o (unless_waiting (call_in q h) (timer doc q h)))) s.1.deadline
    ∙ sym (unreleased-waits doc q h s.1.unreleased s.1.elector.slot.ordinary))

-- while a release runs its call is waited for, or until a renew deadline is over
pub releasing-reading : (doc : Doc) (p i wake : ℕ) (h : List Entry) (x : Releasing) → RoleStands doc p i h (role.Releasing x) → wake ≡ release_wake x → Some wake ≡ elector_reading doc p h
releasing-reading doc p i wake h x s is =
    let q = identity p i in
    let t = s.1 in
    let rule = doc.settings.rules.release in
    let other = has-release rule t.call.kind t.from t.began in
    let late = local doc q.process t.call.sent + call_timeout doc q.process + 1 in
    let call_is : late_at doc q (call_in q h) ≡ Some (min x.until.0 x.late.0) =
    ap (late_at doc q) t.waits
    ∙ ap (λ o. sooner (release_at doc q o) (Some late)) t.began
    ∙ ap (λ n. Some (min n late)) (sym t.until)
    ∙ ap (λ n. Some (min x.until.0 n)) (sym t.late) in
    up-reading doc p i h (Some wake) s.0
    (ap (λ n. Some n) is
    ∙ sym (ap (λ o. sooner o (sooner (ends_at rule (is_releasing q h) (deadline doc q h)) (unless_waiting (call_in q h) (timer doc q h)))) call_is
    ∙ ap (λ b. sooner (Some (min x.until.0 x.late.0)) (sooner (ends_at rule b (deadline doc q h)) (unless_waiting (call_in q h) (timer doc q h)))) t.runs
    ∙ ap (λ o. sooner (Some (min x.until.0 x.late.0)) (sooner o (unless_waiting (call_in q h) (timer doc q h)))) (ends-releasing rule (deadline doc q h) other)
    ∙ ap (λ o. sooner (Some (min x.until.0 x.late.0)) (unless_waiting o (timer doc q h))) t.waits))

-- ---- the reading of a kubelet

-- what is waited for by who is up, and by who is down
abbrev rounds_as : Doc → ℕ → Option ℕ → List Entry → Option ℕ
rounds_as doc p o h = sooner (if_up p (λ q. late_at doc q (call_in q h)) o) (if_up p (λ q. unless_running (has_round q h) (round_timer doc q h)) o)

pub absent-reading : (doc : Doc) (p i : ℕ) (h : List Entry) → RoundsStand doc p i h None → None ≡ kubelet_reading doc p h
absent-reading doc p i h s = ap (λ o. rounds_as doc p o h) (sym s)

-- a round runs exactly while a call waits
waits-rounds : (doc : Doc) (q : Identity) (at : ℕ) (o : Option Call) (runs : Bool) → runs ≡ has o → release_of doc o ≡ None → Some (round_from doc q at o) ≡ sooner (late_at doc q o) (unless_running runs at)
waits-rounds doc q at None runs is plain = ap (λ b. unless_running b at) (sym is)
waits-rounds doc q at (Some call) runs is plain = ap (λ o. sooner o None) (sym (late-plain doc q (Some call) plain)) ∙ ap (λ b. sooner (late_at doc q (Some call)) (unless_running b at)) (sym is)

pub rounds-reading : (doc : Doc) (p i wake : ℕ) (h : List Entry) (x : rounds.Kubelet) → RoundsStand doc p i h (Some x) → wake ≡ round_from doc (identity p i) (round_timer doc (identity p i) h) (call_in (identity p i) h)
    → Some wake ≡ kubelet_reading doc p h
rounds-reading doc p i wake h x s is =
    let q = identity p i in
    ap (λ n. Some n) is
    ∙ waits-rounds doc q (round_timer doc q h) (call_in q h) (has_round q h) s.1.runs s.1.call.slot.ordinary
    ∙ ap (λ o. rounds_as doc p o h) (sym s.0)

-- ---- what an update without a Get has left

lost-up : (k p i : ℕ) (h : List Entry) → alive p h ≡ Some i → IsSettled (identity p i) h → LostNoUpdate k p h
lost-up k p i h up settled j other = subst (λ n. is_fast_call (just_expired (identity p n) k h) ≡ false) (some_is i j (sym up ∙ other)) (settled k)

lost-none : (doc : Doc) (k p i : ℕ) (h : List Entry) (r : Role) → RoleStands doc p i h r → LostNoUpdate k p h
lost-none doc k p i h (role.Down at) s = λ j up. absurd (none_is j (sym s.0 ∙ up))
lost-none doc k p i h (role.Candidate x) s = lost-up k p i h s.0 s.1.settled
lost-none doc k p i h (role.Leading x) s = lost-up k p i h s.0 s.1.settled
lost-none doc k p i h (role.Releasing x) s = lost-up k p i h s.0 (λ j. waits-settled (identity p i) j h s.1.call s.1.waits)

-- what a post has left
posts-none : (doc : Doc) (k p i : ℕ) (h : List Entry) (r : Option rounds.Kubelet) → RoundsStand doc p i h r → LostNoPost k p h
posts-none doc k p i h None s = λ j up. absurd (none_is j (sym s ∙ up))
posts-none doc k p i h (Some x) s = λ j up. subst (λ n. is_post_call (just_expired (identity p n) k h) ≡ false) (some_is i j (sym s.0 ∙ up)) (s.1.settled k)

-- ---- from readings to beats

lt-false : (a b : ℕ) → b ≤ a → nat_lt a b ≡ false
lt-false a b most = grind (arith, nat_tests)

-- the first beat tells whether a reading is reached
first-tells : (c : Clocking) (at n j : ℕ) → IsFirst (reading c) c.end at n → nat_lt j n ≡ nat_lt (reading c j) at
first-tells c at n j first = by_test (nat_lt j n) refl
  where
    by_test : (b : Bool) → nat_lt j n ≡ b → b ≡ nat_lt (reading c j) at
    by_test true before = sym (lt-true (reading c j) at (first.before j (lt-from j n before)))
    by_test false from =
        let rises = reading-monotone c n j (le-from j n from) in
        let reached = first.reached in
        sym (lt-false (reading c j) at (omega (arith, rises, reached)))

pub beat-of : (c : Clocking) (at : Local) (o : Option Beat) → IfSome o (λ beat. IsFirst (reading c) c.end at.0 beat.0) → IfNone o ((k : ℕ) → k ≤ c.end → reading c k < at.0) → IsBeatOf c o (Some at)
beat-of c at None first none = record { tells = λ j within. sym (lt-true (reading c j) at.0 (none j within)); within = tt }
beat-of c at (Some beat) first none = record { tells = λ j within. first-tells c at.0 beat.0 j first; within = first.within }

-- ---- the turn

early-same : (a b : Bool) (A : Type 0) → a ≡ b → A ↔ b ≡ true → A ↔ a ≡ true
early-same a b A same tells = (λ x. same ∙ tells.0 x, λ x. tells.1 (sym same ∙ x))

-- the beat of the reading that is waited for tells when the turn adds something
tells : (doc : Doc) (k p : ℕ) (c : Clocking) (o : Option Beat) (w : Option Local) (r : Option ℕ) (A : Type 0) → ClockStands doc p c → k ≤ c.end → IsBeatOf c o w → reading_of w ≡ r → A ↔ is_early (local doc p k) r ≡ true → A ↔ is_early k (beat_in o) ≡ true
tells doc k p c o w r A s within beat is woken =
    let same : is_early k (beat_in o) ≡ is_early (local doc p k) r =
    beat.tells k within ∙ ap (λ n. is_early n (reading_of w)) (reading-local doc p k c s) ∙ ap (is_early (local doc p k)) is in
    early-same (is_early k (beat_in o)) (is_early (local doc p k) r) A same woken

pub turn-tells : (doc : Doc) (k p : ℕ) (h : List Entry) (x : Process) (o : Option Beat) (w : Option Local) → ProcessStands doc p h x → k ≤ (clock_of x).end → IsBeatOf (clock_of x) o w → reading_of w ≡ own_reading doc p h
    → own_turn doc k p h ≡ h ↔ is_early k (beat_in o) ≡ true
turn-tells doc k p h (process.Controller c) o w s within beat is =
    subst (λ b. own_turn_as doc k p b h ≡ h ↔ is_early k (beat_in o) ≡ true) (sym s.sort)
    (tells doc k p c.clock o w (elector_reading doc p h) (elector_turn doc k p h ≡ h) s.clock within beat (is ∙ ap (λ b. own_reading_as doc p b h) s.sort)
    (electors_wake doc k p h (lost-none doc k p c.incarnation h c.role s.role)))
turn-tells doc k p h (process.Kubelet b) o w s within beat is =
    subst (λ t. own_turn_as doc k p t h ≡ h ↔ is_early k (beat_in o) ≡ true) (sym s.sort)
    (tells doc k p b.clock o w (kubelet_reading doc p h) (kubelet_turn doc k p h ≡ h) s.clock within beat (is ∙ ap (λ t. own_reading_as doc p t h) s.sort)
    (kubelets_wake doc k p h (posts-none doc k p b.incarnation h b.rounds s.rounds)))

-- a reading as it is asked for
abbrev pub asked_at : Option ℕ → Option Local
asked_at None = None
asked_at (Some n) = Some (record { 0 = n })

pub asked-reading : (o : Option ℕ) → reading_of (asked_at o) ≡ o
asked-reading None = refl
asked-reading (Some n) = refl

-- whichever reading is asked for, its beat is found
abbrev pub FirstBeats : Process → Option Beat → Type 0
FirstBeats x o = (doc : Doc) (p : ℕ) (h : List Entry) (at : Option Local) → ProcessStands doc p h x → reading_of at ≡ own_reading doc p h → IsBeatOf (clock_of x) o at

pub first-woken : (x : Process) (o : Option Beat) → FirstBeats x o → (doc : Doc) (k p : ℕ) (h : List Entry) → ProcessStands doc p h x → k ≤ (clock_of x).end → own_turn doc k p h ≡ h ↔ is_early k (beat_in o) ≡ true
first-woken x o first doc k p h s within =
    let at = asked_at (own_reading doc p h) in
    let is = asked-reading (own_reading doc p h) in
    turn-tells doc k p h x o at s within (first doc p h at s is) is

pub first-within : (x : Process) (o : Option Beat) → FirstBeats x o → (doc : Doc) (p : ℕ) (h : List Entry) → ProcessStands doc p h x → IfSome o (λ beat. beat.0 ≤ (clock_of x).end)
first-within x o first doc p h s = (first doc p h (asked_at (own_reading doc p h)) s (asked-reading (own_reading doc p h))).within

-- ---- a beat that is kept

pub beat-same : (c : Clocking) (o : Option Beat) (a b : Option Local) → reading_of a ≡ reading_of b → IsBeatOf c o a → IsBeatOf c o b
beat-same c o a b same beat = record { tells = λ j within. beat.tells j within ∙ ap (is_early (reading c j)) same; within = beat.within }

-- the beat that a process keeps is that of the reading for which it was found
pub waking-stands : (doc : Doc) (p : ℕ) (h : List Entry) (x : Process) → ProcessStands doc p h x → IsBeatOf (clock_of x) (waking_of x).until (waking_of x).below
waking-stands doc p h (process.Controller c) s = s.waking
waking-stands doc p h (process.Kubelet b) s = s.waking

pub beat-found : (doc : Doc) (p : ℕ) (h : List Entry) (x : Process) (l : Clocking) (w : Waking) (o : Option Beat) (a b : Option Local) → l ≡ clock_of x → w ≡ waking_of x → reading_of a ≡ reading_of b → (IsBeatOf l w.until w.below → IsBeatOf l o a) → ProcessStands doc p h x
    → IsBeatOf (clock_of x) o b
beat-found doc p h x l w o a b clock waking same found s =
    let kept : IsBeatOf l w.until w.below =
    subst (λ c. IsBeatOf c w.until w.below) (sym clock) (subst (λ v. IsBeatOf (clock_of x) v.until v.below) (sym waking) (waking-stands doc p h x s)) in
    beat-same (clock_of x) o a b same (subst (λ c. IsBeatOf c o a) clock (found kept))

-- what it keeps tells when its turn adds something
pub kept-still : (doc : Doc) (k p : ℕ) (h : List Entry) (x : Process) → IsKept x → ProcessStands doc p h x → k ≤ (clock_of x).end → own_turn doc k p h ≡ h ↔ is_early k (beat_in (waking_of x).until) ≡ true
kept-still doc k p h x kept s within = first-woken x (waking_of x).until kept.first doc k p h s within

-- its clock and what it keeps are as before
pub timed-same : (x y : Process) → clock_of y ≡ clock_of x → waking_of y ≡ waking_of x → IsTimed x → IsTimed y
timed-same x y clock waking s = subst (λ c. IsBeatOf c (waking_of y).until (waking_of y).below) (sym clock) (subst (λ w. IsBeatOf (clock_of x) w.until w.below) (sym waking) s)
