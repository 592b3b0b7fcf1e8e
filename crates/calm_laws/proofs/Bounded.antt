-- In a calm it isn't so that nobody acts by the bound.
use Rattle.std.proofs.Common.{◌≡◌, ◌<◌, ◌≤◌, ℕ, suc, ◌+◌, ◌-◌, ◌*◌, ◌/◌, max, nat_lt, Bool, true, false, List, [], ◌∷◌, Option, Some, None, refl, sym, ap, ◌∙◌, subst, inr, ⊎_elim, arith}
use Rattle.std.proofs.lemmas.Nat.{le-div}
use Rattle.std.proofs.Math.Nat.{mul-le-mul_right}
use Rattle.std.specs.Int.{div_ceil}
use Rattle.std.proofs.lemmas.Bool.{ltb-false, cases_lt}
use Rattle.kube_objects.specs.Document.{Doc, processes, end_beat, is_controller, call_timeout}
use Rattle.kube_objects.specs.Elector.{leads}
use Rattle.kube_objects.specs.Clocks.{local}
use Rattle.kube_objects.proofs.Clocks.{local_up}
use Rattle.kube_objects.proofs.Own.{is_late-own}
use Rattle.kube_objects.specs.Entry.{Entry, Identity, Call}
use Rattle.kube_objects.specs.Identities.{identity}
use Rattle.kube_objects.specs.Newest.{has}
use Rattle.kube_objects.specs.Pauses.{is_paused}
use Rattle.kube_objects.specs.Process.{alive, is_late}
use Rattle.kube_objects.specs.Stored.{Held, election, stored}
use Rattle.kube_objects.specs.Own.{ReleasesByStop}
use Rattle.history.specs.History.{history, at_turn}
use Rattle.history.specs.Safe.{Acts}
use Rattle.history.specs.Sound.{IsSound}
use Rattle.history.specs.Steps.{step_three}
use Rattle.history_laws.specs.Tails.{IsTail}
use Rattle.history_laws.proofs.Order.{entries_are_earlier}
use Rattle.history_laws.proofs.Plainly.{true_is}
use Rattle.history_laws.proofs.Tailed.{tail_all, tail_trans, later_tail, two_adds, three_adds, turns_add, turn_tail, before_turn}
use Rattle.span_laws.specs.Looks.{IsGreatest}
use Rattle.span_laws.specs.Quotients.{most_beats}
use Rattle.span_laws.specs.Spans.{IsEnough}
use Rattle.span_laws.proofs.Spans.{goes_least}
use Rattle.span_laws.proofs.Quotients.{rounded_is, bounds_are_exact}
use Rattle.call_laws.specs.Answering.{with_events, with_answers}
use Rattle.call_laws.proofs.Above.{in_head}
use Rattle.call_laws.proofs.Answering.{events_position}
use Rattle.takeover_laws.specs.Acting.{NobodyActs}
use Rattle.takeover_laws.specs.Calm.{IsSteady, IsCalm, IsInTime, WritesElection}
use Rattle.takeover_laws.specs.Waits.{longest_wait, shortest_wait}
use Rattle.takeover_laws.proofs.Standing.{controllers_first, persists}
use Rattle.calm_laws.specs.Bounds.{IsCandidate, AreBeats, LastsFor, SomebodyActs, takeover_bound, TakeoversAreBounded, TakeoversAreTold}
use Rattle.calm_laws.proofs.Changes.{Change, Unwritten, Put, Written, IsStored, unchanged, put_stored, early_stored, change_of}
use Rattle.calm_laws.proofs.Deciding.{somebody_or_nobody}
use Rattle.calm_laws.proofs.First.{none_first}
use Rattle.takeover_laws.proofs.Taking.{IsKept, kept_in_calm}
use Rattle.calm_laws.proofs.Life.{never_led}
use Rattle.calm_laws.proofs.Looks.{object_of, has_lease}
use Rattle.calm_laws.proofs.Replies.{HasLease, gets_show, writes_fail, none_written}
use Rattle.calm_laws.proofs.Restarts.{up_restarted}

-- ---- the record that was there before

module _ (doc : Doc) (far a n : ℕ) (sound : IsSound doc) (rules : ReleasesByStop doc) (end : n ≤ end_beat doc) (kept : IsKept doc far a n) (room : a + 2 * far ≤ n) where
  module _ (x : Entry) (T : List Entry) (position : IsTail (x ∷ T) (history doc (a + far))) (one : 1 ≤ far) (s : IsStored a T) where
    at_n : IsTail (x ∷ T) (history doc (suc n))
    at_n = tail_trans (x ∷ T) (history doc (a + far)) (history doc (suc n)) position (later_tail doc (a + far) (suc n) (omega (arith, room)))

    soon : x.beat + far ≤ n
    soon = ⊎_elim (λ lt. omega (arith, lt, room)) (λ first. omega (arith, first.0, room, one)) (entries_are_earlier doc (a + far) x (in_head x T (history doc (a + far)) position))

    same : Change doc x T → IsStored a (x ∷ T)
    same (Unwritten u) = unchanged a x T u s
    same (Put p) = put_stored a x T p
    same (Written w) = by_time (nat_lt w.call.sent a) refl
      where
        by_time : (b : Bool) → nat_lt w.call.sent a ≡ b → IsStored a (x ∷ T)
        by_time true early = early_stored doc a x T w early
        by_time false late =
            absurd (kept.no_write x T w.made.s.who at_n (w.actor ∙ w.made.by) w.role (subst (WritesElection a) (sym w.fact) (ltb-false w.call.sent a late, ap has w.is)) soon)

  -- while none is written, what is stored is the last record of a call that was sent before
  pub early_is_stored : 1 ≤ far → (h : List Entry) → IsTail h (history doc (a + far)) → IsStored a h
  early_is_stored one [] at = refl
  early_is_stored one (x ∷ T) at = same x T at one (early_is_stored one T (tail_trans T (x ∷ T) (history doc (a + far)) (inr (tail_all T)) at)) (change_of doc sound rules n end x T (at_n x T at one (early_is_stored one T (tail_trans T (x ∷ T) (history doc (a + far)) (inr (tail_all T)) at))))

-- ---- a candidate that nobody keeps from leading

pub events_low : (doc : Doc) (p k : ℕ) → IsTail (with_events doc k) (at_turn doc p k)
events_low doc p k =
    let one = with_events doc k in
    let two = with_answers doc k in
    turns_add doc k p one (step_three doc k two) (three_adds doc k one two (two_adds doc k one one (tail_all one)))

module _ (doc : Doc) (rules : ReleasesByStop doc) (near far a settled e n : ℕ) (calm : IsCalm doc near far a e) (one : 1 ≤ near) (ways : near ≤ far) (ordered : a ≤ settled) (within : n ≤ e) (kept : IsKept doc far settled n)
    (lasting p later slow fast lost wait needed : ℕ) (lasts : LastsFor doc p lasting (object_of (stored election (history doc (settled + far)))))
    (c : IsCandidate doc near far a e p later slow fast) (b : AreBeats doc p slow fast lost wait needed) (my_time : IsInTime doc far a e p)
    (first : ℕ) (up_by : later ≤ first) (lost_by : lost + wait ≤ first) (ways_by : settled + 4 * far + wait ≤ a + first + 1)
    (enough most : ℕ) (enough_is : IsEnough slow lasting enough) (most_is : IsGreatest (needed + 2 * near) (wait + 2 * far) enough most) (room : a + first + most + 4 * far ≤ n)
    (i : ℕ) (idle : (k : ℕ) → a ≤ k → k ≤ n → Acts doc (identity p i) k → ⊥) (led : (h : List Entry) → IsTail h (history doc (suc n)) → leads (identity p i) h ≡ false)
    (up : (h : List Entry) → IsTail (at_turn doc (suc p) (a + later)) h → IsTail h (history doc (suc n)) → alive p h ≡ Some i)
    (stays : (j : ℕ) (g : List Entry) → IsTail (at_turn doc p (a + first)) g → IsTail g (at_turn doc (suc p) (a + first)) → alive p g ≡ Some j → alive p (at_turn doc (suc p) (a + first)) ≡ Some j) where
  abbrev G : ℕ
  G = a + first

  abbrev S : List Entry
  S = at_turn doc (suc p) (a + later)

  below : p < processes doc
  below = controllers_first doc p c.role

  g_high : IsTail (at_turn doc (suc p) G) (history doc (suc n))
  g_high = tail_trans (at_turn doc (suc p) G) (history doc (suc G)) (history doc (suc n)) (turn_tail doc (suc p) G (omega (arith, below))) (later_tail doc (suc G) (suc n) (omega (arith, room)))

  s_low : IsTail S (at_turn doc (suc p) G)
  s_low = ⊎_elim before (λ le. same (omega (arith, le, up_by))) (cases_lt (a + later) G)
    where
      before : a + later < G → IsTail S (at_turn doc (suc p) G)
      before lt = tail_trans S (history doc G) (at_turn doc (suc p) G) (tail_trans S (history doc (suc (a + later))) (history doc G) (turn_tail doc (suc p) (a + later) (omega (arith, below))) (later_tail doc (suc (a + later)) G (omega (arith, lt)))) (before_turn doc (suc p) G)

      same : a + later ≡ G → IsTail S (at_turn doc (suc p) G)
      same is = subst (λ k. IsTail S (at_turn doc (suc p) k)) is (tail_all S)

  awake : is_paused doc p G ≡ false
  awake = (c.steady.passes G (omega arith) (omega (arith, room, within))).awake

  abbrev q : Identity
  q = identity p i

  abbrev top : Option Held
  top = stored election (history doc (settled + far))

  lease : HasLease top
  lease = has_lease doc p lasting top lasts

  -- a call that was sent before the calm is late once its timeout is over
  overdue : (call : Call) (k : ℕ) → call.sent < a → G ≤ k + wait → k ≤ n → is_late doc q k call ≡ true
  overdue call k before from to = by_test (is_late doc q k call) refl
    where
      sent_low : local doc p call.sent ≤ local doc p (a - 1)
      sent_low = local_up doc p call.sent (a - 1) (omega (arith, before))

      goes : local doc p (a - 1) + (k - (a - 1)) * slow ≤ local doc p k
      goes = goes_least doc p (a - 1) e slow c.runs_least (a - 1) k (omega arith) (omega (arith, from, lost_by)) (omega (arith, to, within))

      long : suc lost * slow ≤ (k - (a - 1)) * slow
      long = mul-le-mul_right slow beats
        where
          beats : suc lost ≤ k - (a - 1)
          beats = omega (arith, before, from, lost_by)

      by_test : (t : Bool) → is_late doc q k call ≡ t → is_late doc q k call ≡ true
      by_test true is = is
      by_test false is = absurd (omega (arith, sent_low, goes, long, b.lost_is, ltb-false (local doc p call.sent + call_timeout doc p) (local doc p k) (sym (is_late-own doc rules q k call) ∙ is)))

  pub no_candidate : ⊥
  no_candidate =
      none_first doc rules near far a e n one ways within q c.role c.steady my_time idle led lasting top lasts (settled + 4 * far) (omega (arith, ordered, one, ways))
      (gets_show doc rules near far a settled e n calm one ways ordered within kept q c.role c.steady led lease)
      (writes_fail doc rules near far a settled e n calm one ways ordered within kept q c.role c.steady led lease)
      (none_written doc rules near far a settled e n calm one ways ordered within kept q c.role c.steady led lease)
      slow fast wait needed (a - 1) (omega (arith, ordered)) c.runs_least c.runs_most c.waits b.wait_is b.needed_is
      enough most enough_is most_is G (omega (arith, ways_by)) (omega (arith, lost_by)) (omega (arith, room)) overdue (up_restarted doc rules p i G c.role awake stays (up (at_turn doc (suc p) G) s_low g_high))

-- ---- the law

module _ (doc : Doc) (rules : ReleasesByStop doc) (near far a e n : ℕ) (p : ℕ) (role : is_controller doc p ≡ true) (steady : IsSteady doc near far a e p) (time : IsInTime doc far a e p) (within : n ≤ e) (none : NobodyActs doc near far a e n) (k : ℕ) (from : a ≤ k) (to : k ≤ n) where
  events_below : (j : ℕ) → IsTail (with_events doc a) (at_turn doc j k)
  events_below j = ⊎_elim later (λ le. here (omega (arith, le, from))) (cases_lt a k)
    where
      here : a ≡ k → IsTail (with_events doc a) (at_turn doc j k)
      here is = subst (λ m. IsTail (with_events doc a) (at_turn doc j m)) is (events_low doc j a)

      later : a < k → IsTail (with_events doc a) (at_turn doc j k)
      later lt = tail_trans (with_events doc a) (history doc k) (at_turn doc j k) (tail_trans (with_events doc a) (history doc (suc a)) (history doc k) (events_position doc a) (later_tail doc (suc a) k (omega (arith, lt)))) (before_turn doc j k)

  -- while nobody acts, who is up stays so
  stays_from : (j i : ℕ) (g h : List Entry) → IsTail (at_turn doc j k) g → IsTail g h → IsTail h (history doc (suc n)) → alive p g ≡ Some i → alive p h ≡ Some i
  stays_from j i g h low high within_n there =
      persists doc rules near far a e n (identity p i) role time.deadline steady within (none (identity p i) role steady) (omega (arith, from, to)) g h (tail_trans (with_events doc a) (at_turn doc j k) g (events_below j) low) high within_n there

pub takeovers_are_bounded : TakeoversAreBounded
takeovers_are_bounded doc near far a e sound rules calm time one ways end p later slow fast lost wait needed c b first up_by lost_by ways_by lasting enough most lasts enough_is most_is within =
    ⊎_elim (λ somebody. somebody) (λ none. absurd (nobody none)) (somebody_or_nobody doc rules near far a e n)
  where
    n : ℕ
    n = a + first + most + 4 * far

    S : List Entry
    S = at_turn doc (suc p) (a + later)

    my_time : IsInTime doc far a e p
    my_time = time p c.role c.steady

    below : p < processes doc
    below = controllers_first doc p c.role

    nobody : NobodyActs doc near far a e n → ⊥
    nobody none = by_up (alive p S) refl
      where
        kept : IsKept doc far a n
        kept = kept_in_calm doc near far a e n sound rules calm time one ways end within none

        the_record : LastsFor doc p lasting (object_of (stored election (history doc (a + far))))
        the_record =
            subst (LastsFor doc p lasting)
            (sym (early_is_stored doc far a n sound rules (omega (arith, within, end)) kept (omega (arith, one, ways)) (omega (arith, one, ways)) (history doc (a + far)) (tail_all (history doc (a + far))))) lasts

        with_identity : (i : ℕ) → alive p S ≡ Some i → ⊥
        with_identity i up =
            no_candidate doc rules near far a a e n calm one ways (omega arith) within kept lasting p later slow fast lost wait needed the_record c b my_time first up_by lost_by (omega (arith, ways_by, one, ways))
            enough most enough_is most_is (omega arith) i (none (identity p i) c.role c.steady) led late stays
          where
            late : (h : List Entry) → IsTail S h → IsTail h (history doc (suc n)) → alive p h ≡ Some i
            late h low high = stays_from doc rules near far a e n p c.role c.steady my_time within none (a + later) (omega arith) (omega (arith, up_by)) (suc p) i S h (tail_all S) low high up

            s_high : IsTail S (history doc (suc n))
            s_high = tail_trans S (history doc (suc (a + later))) (history doc (suc n)) (turn_tail doc (suc p) (a + later) (omega (arith, below))) (later_tail doc (suc (a + later)) (suc n) (omega (arith, up_by)))

            led : (h : List Entry) → IsTail h (history doc (suc n)) → leads (identity p i) h ≡ false
            led = never_led doc rules near far a e n (identity p i) c.role my_time.deadline c.steady within (none (identity p i) c.role c.steady) (omega arith) (late (history doc (suc n)) s_high (tail_all (history doc (suc n))))

            stays : (j : ℕ) (g : List Entry) → IsTail (at_turn doc p (a + first)) g → IsTail g (at_turn doc (suc p) (a + first)) → alive p g ≡ Some j → alive p (at_turn doc (suc p) (a + first)) ≡ Some j
            stays j g low high there =
                stays_from doc rules near far a e n p c.role c.steady my_time within none (a + first) (omega arith) (omega arith) p j g (at_turn doc (suc p) (a + first)) low high
                (tail_trans (at_turn doc (suc p) (a + first)) (history doc (suc (a + first))) (history doc (suc n)) (turn_tail doc (suc p) (a + first) (omega (arith, below))) (later_tail doc (suc (a + first)) (suc n) (omega arith))) there

        by_up : (o : Option ℕ) → alive p S ≡ o → ⊥
        by_up None is = true_is (sym c.up ∙ ap has is)
        by_up (Some i) is = with_identity i is

-- ---- in whole beats

-- a number is below the next multiple
pub next_multiple : (n m : ℕ) → 1 ≤ m → n < suc (n / m) * m
next_multiple n m some = ⊎_elim (λ less. less) (λ le. absurd (omega (arith, le-div (suc (n / m)) n m some le))) (cases_lt n (suc (n / m) * m))

-- a call's timeout and the waits in whole beats
abbrev pub lost_in : Doc → ℕ → ℕ → ℕ
lost_in doc p slow = call_timeout doc p / slow

abbrev pub wait_in : Doc → ℕ → ℕ → ℕ
wait_in doc p slow = div_ceil (longest_wait doc p) slow

abbrev pub needed_in : Doc → ℕ → ℕ → ℕ
needed_in doc p fast = div_ceil (shortest_wait doc p) fast

pub in_beats : (doc : Doc) (p slow fast : ℕ) → 1 ≤ slow → 1 ≤ fast → AreBeats doc p slow fast (lost_in doc p slow) (wait_in doc p slow) (needed_in doc p fast)
in_beats doc p slow fast some_slow some_fast =
    record { lost_is = next_multiple (call_timeout doc p) slow some_slow; wait_is = (rounded_is slow (longest_wait doc p) some_slow).0; needed_is = (rounded_is fast (shortest_wait doc p) some_fast).1 }

pub takeovers_are_told : TakeoversAreTold
takeovers_are_told doc near far a e sound rules calm time one ways end p later slow fast c some_slow some_fast lasting lasts within =
    subst (SomebodyActs doc near far a e) sum
    (takeovers_are_bounded doc near far a e sound rules calm time one ways end p later slow fast (lost_in doc p slow) (wait_in doc p slow) (needed_in doc p fast) c
    (in_beats doc p slow fast some_slow some_fast)
    first (omega arith) (omega arith) (omega arith) lasting enough most lasts (rounded_is slow lasting some_slow).0 ((bounds_are_exact (needed_in doc p fast + 2 * near) (wait_in doc p slow + 2 * far) enough).0 some_step).1 (omega (arith, sum, within)))
  where
    enough : ℕ
    enough = div_ceil lasting slow

    first : ℕ
    first = max later (max (lost_in doc p slow) (4 * far - 1) + wait_in doc p slow)

    most : ℕ
    most = most_beats (needed_in doc p fast + 2 * near) (wait_in doc p slow + 2 * far) enough

    some_step : 1 ≤ needed_in doc p fast + 2 * near
    some_step = omega (arith, one)

    sum : a + first + most + 4 * far ≡ a + takeover_bound doc near far p later slow fast lasting
    sum = omega arith
