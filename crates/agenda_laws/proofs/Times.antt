-- Each part of a turn but for the tick adds something exactly from a reading on.
use Rattle.std.proofs.Common.{◌≡◌, ◌↔◌, ℕ, ◌+◌, ◌&&◌, ◌||◌, not, nat_lt, Bool, true, false, List, ◌∷◌, Option, Some, None, refl, sym, ap, ◌∙◌, subst, inl, inr, arith}
use Rattle.std.specs.Prelude.{if◌then◌else◌}
use Rattle.std.proofs.lemmas.Bool.Decides.{nat_tests}
use Rattle.kube_objects.specs.declared.call.Request.{Request}
use Rattle.kube_objects.specs.declared.rules.ReleaseRule.{ReleaseRule}
use Rattle.kube_objects.specs.declared.rules.ReleaseRule.TheVariants as rules
use Rattle.kube_objects.specs.Clocks.{local, wall}
use Rattle.kube_objects.specs.Document.{Doc, call_timeout, renew_deadline, restart_delay}
use Rattle.kube_objects.specs.Elector.{deadline, timer, acts_by, acts_on, release_from, shown}
use Rattle.kube_objects.specs.Entry.{Entry, Identity, Call, CallKind, Ends, ReleaseBegins, ReleaseEnds, StepsDown, entry}
use Rattle.kube_objects.specs.Identities.{identity}
use Rattle.kube_objects.specs.Kubelet.{has_round, round_timer, round_if, round, is_post_call}
use Rattle.kube_objects.specs.Newest.{has, only_if}
use Rattle.kube_objects.specs.Process.{alive, call_in, is_late, is_release_over, is_releasing, release_begun, ended, is_restart_due}
use Rattle.kube_objects.specs.Releases.{and_end, first_call, send_first, begin_release}
use Rattle.kube_objects.specs.Turns.{expire_as, expire_call, end_released, end_as, end_term, just_expired, is_fast_call, attempt_if, try}
use Rattle.history.specs.Steps.{if_up as steps_if_up, restart_if, elector_turn, kubelet_turn, start}
use Rattle.history_laws.specs.Tails.{IsTail}
use Rattle.history_laws.proofs.Plainly.{true_is, false_is}
use Rattle.history_laws.proofs.Tailed.{tail_all, tail_trans, and_end_adds, end_release_adds}
use Rattle.agenda_laws.specs.Times.{is_early, sooner, if_up, restart_at, round_at, deadline_at, expiry_at, attempt_at, restart_after, restart_if_down, RestartsWake, release_at, late_at, ExpiriesWake, ends_at, DeadlinesWake, unless_waiting, AttemptsWake, LostNoUpdate, LostNoPost, elector_reading, ElectorsWake, kubelet_reading, KubeletsWake, unless_running, RoundsWake}
use Rattle.agenda_laws.proofs.Between.{between, grew, longer, or_none, none_or, sooner_both, both_sooner}
use Rattle.agenda_laws.proofs.Parts.{electors_add_by_parts, kubelets_add_by_parts}

-- what adds nothing exactly before a time
abbrev pub Waits : List Entry → List Entry → Bool → Type 0
Waits next h early = next ≡ h ↔ early ≡ true

pub never : (h : List Entry) → Waits h h true
never h = (λ is. refl, λ is. refl)

pub now : (x : Entry) (h : List Entry) → Waits (x ∷ h) h false
now x h = (λ is. absurd (grew x h is), λ is. absurd (false_is is))

-- where a process is up
up_waits : (p : ℕ) (f : Identity → List Entry → List Entry) (g : Identity → Option ℕ) (at : ℕ) (h : List Entry) → (o : Option ℕ) → ((i : ℕ) → o ≡ Some i → Waits (f (identity p i) h) h (is_early at (g (identity p i)))) → Waits (steps_if_up p f o h) h (is_early at (if_up p g o))
up_waits p f g at h None one = never h
up_waits p f g at h (Some i) one = one i refl

module _ (doc : Doc) (k p : ℕ) (h : List Entry) where
  -- ---- a restart

  restart_waits_if : (b : Bool) → Waits (if (not b) then start k 4 p h else h) h b
  restart_waits_if true = never h
  restart_waits_if false = now _ h

  restart_waits_after : (o : Option ℕ) → Waits (if (is_restart_due doc p k o) then start k 4 p h else h) h (is_early (local doc p k) (restart_after doc p o))
  restart_waits_after None = never h
  restart_waits_after (Some at) = restart_waits_if (nat_lt (local doc p k) (local doc p at + restart_delay doc))

  restart_waits : (o : Option ℕ) → Waits (restart_if doc k p o h) h (is_early (local doc p k) (restart_if_down doc p o h))
  restart_waits (Some i) = never h
  restart_waits None = restart_waits_after (ended doc p h)

  -- ---- an expiry

  late_is : (at reads : ℕ) → nat_lt at reads ≡ false ↔ nat_lt reads (at + 1) ≡ true
  late_is at reads = (λ is. grind (arith, nat_tests), λ is. grind (arith, nat_tests))

  not_false : (b : Bool) → not b ≡ false → b ≡ true
  not_false true is = refl
  not_false false is = absurd (true_is is)

  -- a release is over from its reading on
  over_waits : (q : Identity) (o : Option ℕ) → is_release_over doc q k o ≡ false ↔ is_early (local doc q.process k) (release_at doc q o) ≡ true
  over_waits q None = (λ is. refl, λ is. refl)
  over_waits q (Some begun) =
      let b = nat_lt (local doc q.process k) (local doc q.process begun + renew_deadline doc q.process) in (not_false b, λ early. ap not early)

  late_waits : (q : Identity) (at : ℕ) (o : Option ℕ)
      → (is_release_over doc q k o || nat_lt at (local doc q.process k)) ≡ false ↔ is_early (local doc q.process k) (sooner (release_at doc q o) (Some (at + 1))) ≡ true
  late_waits q at o =
      let reads = local doc q.process k in
      let over = over_waits q o in
      let tells = late_is at reads in (
        λ is. (let two = or_none (is_release_over doc q k o) (nat_lt at reads) is in both_sooner reads (release_at doc q o) (Some (at + 1)) (over.0 two.0) (tells.0 two.1)),
        λ early. (let two = sooner_both reads (release_at doc q o) (Some (at + 1)) early in none_or (is_release_over doc q k o) (nat_lt at reads) (over.1 two.0) (tells.1 two.1)),
      )

  -- each end of a call is an entry
  released_grows : (q : Identity) (b : Bool) → entry k 4 q ReleaseEnds ∷ and_end k 4 q b h ≡ h → ⊥
  released_grows q false is = grew (entry k 4 q ReleaseEnds) h is
  released_grows q true is = longer (entry k 4 q StepsDown) h (entry k 4 q ReleaseEnds ∷ entry k 4 q StepsDown ∷ h) (inr (inl refl)) is

  expired_grows : (q : Identity) (call : Call) (o : Option ℕ) → expire_as doc k q call o h ≡ h → ⊥
  expired_grows q call None is = grew _ h is
  expired_grows q call (Some begun) is = released_grows q (acts_on doc q h) is

  expire_none : (q : Identity) (call : Call) (o : Option ℕ) (b : Bool) → (if b then expire_as doc k q call o h else h) ≡ h ↔ b ≡ false
  expire_none q call o false = (λ is. refl, λ is. refl)
  expire_none q call o true = (λ is. absurd (expired_grows q call o is), λ is. absurd (true_is is))

  expire_waits : (q : Identity) (o : Option Call) → Waits (expire_call doc k q o h) h (is_early (local doc q.process k) (late_at doc q o))
  expire_waits q None = never h
  expire_waits q (Some call) =
      let begun = release_begun doc.settings.rules.release call.kind in
      let tells = late_waits q (local doc q.process call.sent + call_timeout doc q.process) begun in
      let none = expire_none q call begun (is_late doc q k call) in
      (λ is. tells.0 (none.0 is), λ is. none.1 (tells.1 is))

  -- ---- the end of a term

  -- so is each begin of a release
  first_sent : (q : Identity) (o : Option (CallKind × Request)) (g : List Entry) → IsTail g (send_first doc k 4 q o g)
  first_sent q None g = end_release_adds doc k 4 q g g (tail_all g)
  first_sent q (Some call) g = inr (tail_all g)

  begun_grows : (q : Identity) (at_deadline : Bool) (T : List Entry) → IsTail h T → begin_release doc k 4 q at_deadline T ≡ h → ⊥
  begun_grows q at_deadline T low is =
      let x = entry k 4 q (ReleaseBegins at_deadline) in
      let g = begin_release doc k 4 q at_deadline T in
      let high : IsTail (x ∷ T) g = first_sent q (first_call doc.settings.rules.release k (release_from q (wall doc q.process k) (shown q T))) (x ∷ T) in
      let same : T ≡ h = between h T g low (tail_trans T (x ∷ T) g (inr (tail_all T)) high) is in
      longer x T g high (is ∙ sym same)

  waits_if : (b : Bool) (next : List Entry) → (next ≡ h → ⊥) → Waits (if b then h else next) h b
  waits_if true next grows = never h
  waits_if false next grows = (λ is. absurd (grows is), λ is. absurd (false_is is))

  never_if : (b : Bool) → Waits (if b then h else h) h true
  never_if true = never h
  never_if false = never h

  released_waits : (q : Identity) (at : ℕ) (b : Bool)
      → Waits (if (nat_lt (local doc q.process k) at) then h else end_released doc k q b h) h (is_early (local doc q.process k) (only_if (not b) (Some at)))
  released_waits q at true = never_if (nat_lt (local doc q.process k) at)
  released_waits q at false =
      let ends = not (acts_by doc.settings.rules.in_release true) in
      let T = and_end k 4 q ends h in
      waits_if (nat_lt (local doc q.process k) at) (begin_release doc k 4 q true T) (begun_grows q true T (and_end_adds k 4 q ends h h (tail_all h)))

  end_waits_by : (rule : ReleaseRule) (q : Identity) (at : ℕ)
      → Waits (if (nat_lt (local doc q.process k) at) then h else end_as rule doc k q h) h (is_early (local doc q.process k) (ends_at rule (is_releasing q h) (Some at)))
  end_waits_by rules.Stop q at = waits_if (nat_lt (local doc q.process k) at) (entry k 4 q Ends ∷ h) (grew (entry k 4 q Ends) h)
  end_waits_by rules.Own q at = released_waits q at (is_releasing q h)
  end_waits_by rules.Checked q at = released_waits q at (is_releasing q h)
  end_waits_by rules.Reread q at = released_waits q at (is_releasing q h)

  only_none : (b : Bool) → only_if {A = ℕ} b None ≡ None
  only_none true = refl
  only_none false = refl

  never_ends : (rule : ReleaseRule) (b : Bool) → ends_at rule b None ≡ None
  never_ends rules.Stop b = refl
  never_ends rules.Own b = only_none (not b)
  never_ends rules.Checked b = only_none (not b)
  never_ends rules.Reread b = only_none (not b)

  end_waits : (q : Identity) (o : Option ℕ)
      → Waits (end_term doc k q o h) h (is_early (local doc q.process k) (ends_at doc.settings.rules.release (is_releasing q h) o))
  end_waits q None = subst (λ o. Waits h h (is_early (local doc q.process k) o)) (sym (never_ends doc.settings.rules.release (is_releasing q h))) (never h)
  end_waits q (Some at) = end_waits_by doc.settings.rules.release q at

  -- ---- an attempt

  attempt_waits_if : (q : Identity) (fast b : Bool) → fast ≡ false → Waits (attempt_if doc k q fast (not b) h) h b
  attempt_waits_if q true b none = absurd (true_is none)
  attempt_waits_if q false true none = never h
  attempt_waits_if q false false none = now _ h

  attempt_waits : (q : Identity) (fast : Bool) (o : Option Call) (at : ℕ) → fast ≡ false
      → Waits (attempt_if doc k q fast (not (has o) && not (nat_lt (local doc q.process k) at)) h) h (is_early (local doc q.process k) (unless_waiting o at))
  attempt_waits q fast None at none = attempt_waits_if q fast (nat_lt (local doc q.process k) at) none
  attempt_waits q fast (Some call) at none = attempt_waits_if q fast true none

  try_waits : (q : Identity) → is_fast_call (just_expired q k h) ≡ false → Waits (try doc k q h) h (is_early (local doc q.process k) (unless_waiting (call_in q h) (timer doc q h)))
  try_waits q rested = attempt_waits q (is_fast_call (just_expired q k h)) (call_in q h) (timer doc q h) rested

  -- ---- a round

  round_waits_if : (q : Identity) (late b : Bool) → late ≡ false → Waits (round_if doc k q late (not b) h) h b
  round_waits_if q true b none = absurd (true_is none)
  round_waits_if q false true none = never h
  round_waits_if q false false none = now _ h

  round_waits_as : (q : Identity) (late runs : Bool) (at : ℕ) → late ≡ false
      → Waits (round_if doc k q late (not runs && not (nat_lt (local doc q.process k) at)) h) h (is_early (local doc q.process k) (unless_running runs at))
  round_waits_as q late true at none = round_waits_if q late true none
  round_waits_as q late false at none = round_waits_if q late (nat_lt (local doc q.process k) at) none

  round_waits : (q : Identity) → is_post_call (just_expired q k h) ≡ false → Waits (round doc k q h) h (is_early (local doc q.process k) (unless_running (has_round q h) (round_timer doc q h)))
  round_waits q rested = round_waits_as q (is_post_call (just_expired q k h)) (has_round q h) (round_timer doc q h) rested

pub restarts_wake : RestartsWake
restarts_wake doc k p h = restart_waits doc k p h (alive p h)

pub expiries_wake : ExpiriesWake
expiries_wake doc k p h =
    up_waits p (λ q T. expire_call doc k q (call_in q T) T) (λ q. late_at doc q (call_in q h)) (local doc p k) h (alive p h) (λ i up. expire_waits doc k p h (identity p i) (call_in (identity p i) h))

pub deadlines_wake : DeadlinesWake
deadlines_wake doc k p h =
    up_waits p (λ q T. end_term doc k q (deadline doc q T) T) (λ q. ends_at doc.settings.rules.release (is_releasing q h) (deadline doc q h)) (local doc p k) h (alive p h) (λ i up. end_waits doc k p h (identity p i) (deadline doc (identity p i) h))

pub attempts_wake : AttemptsWake
attempts_wake doc k p h rested =
    up_waits p (try doc k) (λ q. unless_waiting (call_in q h) (timer doc q h)) (local doc p k) h (alive p h) (λ i up. try_waits doc k p h (identity p i) (rested i up))

pub rounds_wake : RoundsWake
rounds_wake doc k p h rested =
    up_waits p (round doc k) (λ q. unless_running (has_round q h) (round_timer doc q h)) (local doc p k) h (alive p h) (λ i up. round_waits doc k p h (identity p i) (rested i up))

-- ---- a whole turn

module _ (doc : Doc) (k p : ℕ) (h : List Entry) where
  abbrev reads : ℕ
  reads = local doc p k

  abbrev last_two : Option ℕ
  last_two = sooner (deadline_at doc p h) (attempt_at doc p h)

  abbrev last_three : Option ℕ
  last_three = sooner (expiry_at doc p h) last_two

  elector_early : LostNoUpdate k p h → elector_turn doc k p h ≡ h → is_early reads (elector_reading doc p h) ≡ true
  elector_early rested is =
      let s = (electors_add_by_parts doc k p h).0 is in
      let two = both_sooner reads (deadline_at doc p h) (attempt_at doc p h) ((deadlines_wake doc k p h).0 s.finishes) ((attempts_wake doc k p h rested).0 s.tries) in
      let three = both_sooner reads (expiry_at doc p h) last_two ((expiries_wake doc k p h).0 s.expires) two in
      both_sooner reads (restart_at doc p h) last_three ((restarts_wake doc k p h).0 s.restarts) three

  early_elector : LostNoUpdate k p h → is_early reads (elector_reading doc p h) ≡ true → elector_turn doc k p h ≡ h
  early_elector rested early =
      let one = sooner_both reads (restart_at doc p h) last_three early in
      let two = sooner_both reads (expiry_at doc p h) last_two one.1 in
      let three = sooner_both reads (deadline_at doc p h) (attempt_at doc p h) two.1 in
      (electors_add_by_parts doc k p h).1 (record {
        restarts = (restarts_wake doc k p h).1 one.0;
        expires = (expiries_wake doc k p h).1 two.0;
        finishes = (deadlines_wake doc k p h).1 three.0;
        tries = (attempts_wake doc k p h rested).1 three.1;
      })

  kubelet_early : LostNoPost k p h → kubelet_turn doc k p h ≡ h → is_early reads (kubelet_reading doc p h) ≡ true
  kubelet_early rested is =
      let s = (kubelets_add_by_parts doc k p h).0 is in
      both_sooner reads (expiry_at doc p h) (round_at doc p h) ((expiries_wake doc k p h).0 s.expires) ((rounds_wake doc k p h rested).0 s.rounds)

  early_kubelet : LostNoPost k p h → is_early reads (kubelet_reading doc p h) ≡ true → kubelet_turn doc k p h ≡ h
  early_kubelet rested early =
      let both = sooner_both reads (expiry_at doc p h) (round_at doc p h) early in
      (kubelets_add_by_parts doc k p h).1 (record { expires = (expiries_wake doc k p h).1 both.0; rounds = (rounds_wake doc k p h rested).1 both.1 })

pub electors_wake : ElectorsWake
electors_wake doc k p h rested = (elector_early doc k p h rested, early_elector doc k p h rested)

pub kubelets_wake : KubeletsWake
kubelets_wake doc k p h rested = (kubelet_early doc k p h rested, early_kubelet doc k p h rested)

-- before the soonest the deadline isn't reached
pub before_deadline : (doc : Doc) (k p : ℕ) (h : List Entry) → is_early (local doc p k) (elector_reading doc p h) ≡ true → is_early (local doc p k) (deadline_at doc p h) ≡ true
before_deadline doc k p h early =
    let one = sooner_both (local doc p k) (restart_at doc p h) (last_three doc k p h) early in
    let two = sooner_both (local doc p k) (expiry_at doc p h) (last_two doc k p h) one.1 in
    (sooner_both (local doc p k) (deadline_at doc p h) (attempt_at doc p h) two.1).0
