-- Failed attempts in the history, and what an elector keeps of them.
use Rattle.std.proofs.Common.{◌≡◌, ◌∙◌, ℕ, ◌+◌, ◌%◌, ◌≤◌, ◌<◌, ◌&&◌, ◌||◌, not, nat_lt, Bool, true, false, cond, List, [], ◌∷◌, length, Option, Some, None, refl, sym, ap, subst, arith}
use Rattle.std.proofs.Math.Nat.{mod-eq_of_lt, mod-lt, mod_self, suc-mod, zero-mod}
use Rattle.std.proofs.Math.Numerals.{suc-eq-add-one}
use Rattle.std.proofs.lemmas.Bool.Decides.{nat_tests}
use Rattle.kube_objects.specs.declared.rules.RetryRule.{RetryRule}
use Rattle.kube_objects.specs.declared.rules.RetryRule.TheVariants.{After, Grid, Ticks}
use Rattle.kube_objects.specs.Clocks.{local}
use Rattle.kube_objects.specs.Document.{Doc, retry_period, waits_of}
use Rattle.kube_objects.specs.Elector as elector
use Rattle.kube_objects.specs.Elector.{attempt_began, begins, failures, fails, first_attempt, first_failure, is_failing, is_trying, leads, outcome, retry_at, succeeds_at, trying_says}
use Rattle.kube_objects.specs.Entry.{Call, Entry, Fact, Identity, Sends, Starts, entry}
use Rattle.kube_objects.specs.Identities.{is_by}
use Rattle.kube_objects.specs.Newest.{added, newest, or_else, or_zero, when}
use Rattle.kube_objects.specs.Retries.{next_point, next_tick}
use Rattle.kube_objects.proofs.OwnCalls.{mine, said}
use Rattle.leader_elector.specs.declared.timing.Timing.{Timing}
use Rattle.leader_elector.specs.Attempts.{AttemptState, after_failure, candidate_waits, counts_from, leader_waits, next_place, none_yet, waits_until, with_begin, with_success}
use Rattle.leader_elector.specs.Stands.{AreWaitsIf, AttemptsStand, IsNew, IsTimingOf, counted_from}

-- ---- what the entries said last

abbrev pub last_outcome : Doc → Identity → List Entry → Option Bool
last_outcome doc q h = newest (λ e T. outcome (fails doc q e T e.fact) (succeeds_at q e.actor e.fact)) h

abbrev pub last_trying : Doc → Identity → List Entry → Option Bool
last_trying doc q h = newest (λ e T. trying_says doc q e T e.fact) h

abbrev pub last_failure : Doc → Identity → List Entry → Option ℕ
last_failure doc q h = newest (λ e T. when (fails doc q e T e.fact && not (is_failing doc q T)) e.beat) h

abbrev pub last_began : Doc → Identity → List Entry → Option ℕ
last_began doc q h = newest (λ e T. when (begins doc q e.actor e.fact T) e.beat) h

abbrev pub last_first : Doc → Identity → List Entry → Option ℕ
last_first doc q h = newest (λ e T. when (begins doc q e.actor e.fact T && not (is_failing doc q T)) e.beat) h

-- ---- an attempt that is under way after no failure is the first one

-- another entry than a request: by whether it is a failure or a success
outcome_fresh : (fails succeeds : Bool) (trying failing : Option Bool) (first began : Option ℕ)
    → (or_else false trying ≡ true → or_else false failing ≡ false → or_zero first ≡ or_zero began)
    → or_else false (said (when (fails || succeeds) false) trying) ≡ true → or_else false (said (outcome fails succeeds) failing) ≡ false
    → or_zero first ≡ or_zero began
outcome_fresh true succeeds trying failing first began rest tries unfailing = absurd (cc)
outcome_fresh false true trying failing first began rest tries unfailing = absurd (cc)
outcome_fresh false false trying failing first began rest tries unfailing = rest tries unfailing

-- a request
sent_fresh : (own : Bool) (trying failing : Option Bool) (first began : Option ℕ) (k : ℕ)
    → (or_else false trying ≡ true → or_else false failing ≡ false → or_zero first ≡ or_zero began)
    → or_else false (said (when own true) trying) ≡ true → or_else false failing ≡ false
    → or_zero (said (when ((own && not (or_else false trying)) && not (or_else false failing)) k) first)
    ≡ or_zero (said (when (own && not (or_else false trying)) k) began)
sent_fresh false trying failing first began k rest tries unfailing = rest tries unfailing
sent_fresh true (Some true) failing first began k rest tries unfailing = rest refl unfailing
sent_fresh true (Some false) failing first began k rest tries unfailing = ap (λ b. or_zero (said (when (true && not b) k) first)) unfailing
sent_fresh true None failing first began k rest tries unfailing = ap (λ b. or_zero (said (when (true && not b) k) first)) unfailing

pub fresh : (doc : Doc) (q : Identity) (h : List Entry) → is_trying doc q h ≡ true → is_failing doc q h ≡ false → first_attempt doc q h ≡ attempt_began doc q h
fresh doc q [] tries unfailing = refl
fresh doc q (e ∷ h) tries unfailing = by_fact (fresh doc q h) e.fact tries unfailing
  where
    by_fact : (is_trying doc q h ≡ true → is_failing doc q h ≡ false → first_attempt doc q h ≡ attempt_began doc q h)
        → (d : Fact) → or_else false (said (trying_says doc q e h d) (last_trying doc q h)) ≡ true
        → or_else false (said (outcome (fails doc q e h d) (succeeds_at q e.actor d)) (last_outcome doc q h)) ≡ false
        → or_zero (said (when (begins doc q e.actor d h && not (is_failing doc q h)) e.beat) (last_first doc q h))
        ≡ or_zero (said (when (begins doc q e.actor d h) e.beat) (last_began doc q h))
    by_fact rest (Sends call arrives) tries unfailing =
        sent_fresh (is_by q e.actor) (last_trying doc q h) (last_outcome doc q h) (last_first doc q h) (last_began doc q h) e.beat rest tries unfailing
    by_fact rest d tries unfailing =
        outcome_fresh (fails doc q e h d) (succeeds_at q e.actor d) (last_trying doc q h) (last_outcome doc q h) (last_first doc q h) (last_began doc q h) rest tries unfailing

-- ---- waits in turn

below_all : (n m : ℕ) → n < m → nat_lt (n + 1) m ≡ false → n + 1 ≡ m
below_all n m less is = grind (arith, nat_tests)

is_below : (n m : ℕ) → nat_lt n m ≡ true → n < m
is_below n m is = grind (arith, nat_tests)

pub next-place : (n m : ℕ) → 1 ≤ m → next_place (n % m) m ≡ (n + 1) % m
next-place n m some = by_test (nat_lt (n % m + 1) m) refl
  where
    on : (n + 1) % m ≡ (n % m + 1) % m
    on = ap (λ x. x % m) (sym (suc-eq-add-one n)) ∙ suc-mod n m ∙ ap (λ x. x % m) (suc-eq-add-one (n % m))

    by_test : (b : Bool) → nat_lt (n % m + 1) m ≡ b → cond b (n % m + 1) 0 ≡ (n + 1) % m
    by_test true is = sym (on ∙ mod-eq_of_lt (is_below (n % m + 1) m is))
    by_test false is = sym (on ∙ ap (λ x. x % m) (below_all (n % m) m (mod-lt n some) is) ∙ mod_self m)

-- ---- an entry that is no request, no failure and no success

module _ (doc : Doc) (q : Identity) (e : Entry) (h : List Entry) (unfailed : fails doc q e h e.fact ≡ false) where
  pub failures-kept : failures doc q (e ∷ h) ≡ failures doc q h
  failures-kept = ap (λ b. added b (failures doc q h)) unfailed

  pub first_failure-kept : first_failure doc q (e ∷ h) ≡ first_failure doc q h
  first_failure-kept = ap (λ b. or_zero (said (when (b && not (is_failing doc q h)) e.beat) (last_failure doc q h))) unfailed

  pub failing-kept : succeeds_at q e.actor e.fact ≡ false → is_failing doc q (e ∷ h) ≡ is_failing doc q h
  failing-kept unsuccessful = λ i. or_else false (said (outcome (unfailed i) (unsuccessful i)) (last_outcome doc q h))

pub trying-kept : (doc : Doc) (q : Identity) (e : Entry) (h : List Entry) → trying_says doc q e h e.fact ≡ None → is_trying doc q (e ∷ h) ≡ is_trying doc q h
trying-kept doc q e h untried = ap (λ o. or_else false (said o (last_trying doc q h))) untried

module _ (doc : Doc) (q : Identity) (e : Entry) (h : List Entry) (goes_on : begins doc q e.actor e.fact h ≡ false) where
  pub began-kept : attempt_began doc q (e ∷ h) ≡ attempt_began doc q h
  began-kept = ap (λ b. or_zero (said (when b e.beat) (last_began doc q h))) goes_on

  pub first_attempt-kept : first_attempt doc q (e ∷ h) ≡ first_attempt doc q h
  first_attempt-kept = ap (λ b. or_zero (said (when (b && not (is_failing doc q h)) e.beat) (last_first doc q h))) goes_on

  pub counted-kept : fails doc q e h e.fact ≡ false → (rule : RetryRule) → counted_from rule doc q (e ∷ h) ≡ counted_from rule doc q h
  counted-kept unfailed After = first_failure-kept doc q e h unfailed
  counted-kept unfailed Grid = first_failure-kept doc q e h unfailed
  counted-kept unfailed Ticks = first_attempt-kept

pub attempts-beside : (doc : Doc) (q : Identity) (e : Entry) (h : List Entry) (a : AttemptState) → fails doc q e h e.fact ≡ false → succeeds_at q e.actor e.fact ≡ false →
    trying_says doc q e h e.fact ≡ None → begins doc q e.actor e.fact h ≡ false → leads q (e ∷ h) ≡ leads q h → AttemptsStand doc q h a → AttemptsStand doc q (e ∷ h) a
attempts-beside doc q e h a unfailed unsuccessful untried goes_on same s =
    record {
      place = λ unled. s.place (sym same ∙ unled) ∙ ap (λ n. n % length (waits_of doc q.process)) (sym (failures-kept doc q e h unfailed));
      began = s.began ∙ (λ i. when (sym (trying-kept doc q e h untried) i) (local doc q.process (sym (began-kept doc q e h goes_on) i)));
      origin = s.origin ∙ (λ i. when (sym (failing-kept doc q e h unfailed unsuccessful) i) (local doc q.process (sym (counted-kept doc q e h goes_on unfailed doc.settings.rules.retries) i)));
    }

-- ---- a request

module _ (doc : Doc) (q : Identity) (h : List Entry) (k step : ℕ) (call : Call) (arrives : Option ℕ) where
  abbrev sent : List Entry
  sent = entry k step q (Sends call arrives) ∷ h

  pub trying-sent : is_trying doc q sent ≡ true
  trying-sent = ap (λ b. or_else false (said (when b true) (last_trying doc q h))) (mine q)

  began_by : (t : Bool) → or_else (local doc q.process k) (when t (local doc q.process (or_zero (last_began doc q h)))) ≡ local doc q.process (or_zero (said (when (true && not t) k) (last_began doc q h)))
  began_by true = refl
  began_by false = refl

  began_sent : or_else (local doc q.process k) (when (is_trying doc q h) (local doc q.process (attempt_began doc q h))) ≡ local doc q.process (attempt_began doc q sent)
  began_sent = began_by (is_trying doc q h) ∙ sym (ap (λ b. local doc q.process (or_zero (said (when (b && not (is_trying doc q h)) k) (last_began doc q h)))) (mine q))

  first_by : (f t : Bool) (n : ℕ) → n ≡ or_zero (last_first doc q h) → when f (local doc q.process n) ≡ when f (local doc q.process (or_zero (said (when (t && not f) k) (last_first doc q h))))
  first_by true true n is = ap (λ x. Some (local doc q.process x)) is
  first_by true false n is = ap (λ x. Some (local doc q.process x)) is
  first_by false t n is = refl

  origin_by : (rule : RetryRule) → when (is_failing doc q h) (local doc q.process (counted_from rule doc q h)) ≡ when (is_failing doc q h) (local doc q.process (counted_from rule doc q sent))
  origin_by After = refl
  origin_by Grid = refl
  origin_by Ticks = first_by (is_failing doc q h) (begins doc q (entry k step q (Sends call arrives)).actor (Sends call arrives) h) (first_attempt doc q h) refl

  pub attempts-sent : (a : AttemptState) (now : ℕ) → now ≡ local doc q.process k → AttemptsStand doc q h a → AttemptsStand doc q sent (with_begin now a)
  attempts-sent a now now_is s =
      record {
        place = s.place;
        began = (λ i. Some (or_else (now_is i) (s.began i))) ∙ ap (λ n. Some n) began_sent ∙ sym (ap (λ b. when b (local doc q.process (attempt_began doc q sent))) trying-sent);
        origin = s.origin ∙ origin_by doc.settings.rules.retries;
      }

-- ---- a success, and a start

pub attempts-succeeded : (doc : Doc) (q : Identity) (e : Entry) (h : List Entry) (a : AttemptState) → fails doc q e h e.fact ≡ false → succeeds_at q e.actor e.fact ≡ true →
    trying_says doc q e h e.fact ≡ Some false → (leads q (e ∷ h) ≡ false → leads q h ≡ false) → AttemptsStand doc q h a → AttemptsStand doc q (e ∷ h) (with_success a)
attempts-succeeded doc q e h a unfailed succeeds ended unled s =
    record {
      place = λ after. s.place (unled after) ∙ ap (λ n. n % length (waits_of doc q.process)) (sym (failures-kept doc q e h unfailed));
      began = sym (ap (λ o. when (or_else false (said o (last_trying doc q h))) (local doc q.process (attempt_began doc q (e ∷ h)))) ended);
      origin = sym (λ i. when (or_else false (said (outcome (unfailed i) (succeeds i)) (last_outcome doc q h))) (local doc q.process (counted_from doc.settings.rules.retries doc q (e ∷ h))));
    }

pub attempts-started : (doc : Doc) (q : Identity) (h : List Entry) (k step : ℕ) → IsNew doc q h → AttemptsStand doc q (entry k step q Starts ∷ h) none_yet
attempts-started doc q h k step new =
    record {
      place = λ unled. sym (ap (λ n. n % length (waits_of doc q.process)) new.failures ∙ zero-mod (length (waits_of doc q.process)));
      began = sym (ap (λ b. when b (local doc q.process (attempt_began doc q (entry k step q Starts ∷ h)))) new.trying);
      origin = sym (ap (λ b. when b (local doc q.process (counted_from doc.settings.rules.retries doc q (entry k step q Starts ∷ h)))) new.failing);
    }

-- ---- a failure

module _ (doc : Doc) (q : Identity) (e : Entry) (h : List Entry) (failed : fails doc q e h e.fact ≡ true) (goes_on : begins doc q e.actor e.fact h ≡ false)
    (trying : is_trying doc q h ≡ true) (a : AttemptState) (s : AttemptsStand doc q h a) where
  abbrev now : ℕ
  now = local doc q.process e.beat

  failing_now : is_failing doc q (e ∷ h) ≡ true
  failing_now = ap (λ b. or_else false (said (outcome b (succeeds_at q e.actor e.fact)) (last_outcome doc q h))) failed

  began_is : a.began ≡ Some (local doc q.process (attempt_began doc q h))
  began_is = s.began ∙ ap (λ b. when b (local doc q.process (attempt_began doc q h))) trying

  from_first : (f : Bool) → or_else now (when f (local doc q.process (or_zero (last_failure doc q h)))) ≡ local doc q.process (or_zero (said (when (true && not f) e.beat) (last_failure doc q h)))
  from_first true = refl
  from_first false = refl

  from_failure : a.origin ≡ when (is_failing doc q h) (local doc q.process (first_failure doc q h)) → or_else now a.origin ≡ local doc q.process (first_failure doc q (e ∷ h))
  from_failure origin =
      ap (or_else now) origin
      ∙ from_first (is_failing doc q h)
      ∙ sym (ap (λ b. local doc q.process (or_zero (said (when (b && not (is_failing doc q h)) e.beat) (last_failure doc q h)))) failed)

  from_ticks : (f : Bool) → is_failing doc q h ≡ f → or_else (local doc q.process (attempt_began doc q h)) (when f (local doc q.process (first_attempt doc q h))) ≡ local doc q.process (first_attempt doc q h)
  from_ticks true is = refl
  from_ticks false is = ap (local doc q.process) (sym (fresh doc q h trying is))

  counts_is : (rule : RetryRule) → a.origin ≡ when (is_failing doc q h) (local doc q.process (counted_from rule doc q h)) →
      counts_from rule now a ≡ local doc q.process (counted_from rule doc q (e ∷ h))
  counts_is After origin = from_failure origin
  counts_is Grid origin = from_failure origin
  counts_is Ticks origin =
      (λ i. or_else (or_else now (began_is i)) (origin i)) ∙ from_ticks (is_failing doc q h) refl ∙ ap (local doc q.process) (sym (first_attempt-kept doc q e h goes_on))

  leader_is : (rule : RetryRule) → a.origin ≡ when (is_failing doc q h) (local doc q.process (counted_from rule doc q h)) →
      leader_waits rule (retry_period doc q.process) now a ≡ elector.leader_waits rule doc q e.beat (e ∷ h)
  leader_is After origin = refl
  leader_is Grid origin = ap (λ o. next_point o (retry_period doc q.process) now) (counts_is Grid origin)
  leader_is Ticks origin =
      (λ i. next_tick (counts_is Ticks origin i) (retry_period doc q.process) (or_else now (began_is i)) now)
      ∙ ap (λ n. next_tick (local doc q.process (first_attempt doc q (e ∷ h))) (retry_period doc q.process) (local doc q.process n) now) (sym (began-kept doc q e h goes_on))

  module _ (t : Timing) (timing : IsTimingOf doc q.process t) (waits : List ℕ) (led : Bool) (led_is : leads q h ≡ led) (are : AreWaitsIf led doc q.process waits) where
    unled_by : (b : Bool) → led ≡ b → AreWaitsIf b doc q.process waits
    unled_by b is = subst (λ l. AreWaitsIf l doc q.process waits) is are

    until_by : (b : Bool) → led ≡ b → waits_until t waits b now a ≡ retry_at b doc q e h
    until_by true is = (λ i. leader_waits (timing.retries i) (timing.retry i) now a) ∙ leader_is doc.settings.rules.retries s.origin
    until_by false is = λ i. now + candidate_waits (timing.retry i) ((unled_by false is).are i) (s.place (led_is ∙ is) i)

    -- the elector waits as long as the history says
    pub until-is : waits_until t waits led now a ≡ retry_at led doc q e h
    until-is = until_by led refl

    place_by : (b : Bool) → led ≡ b → leads q h ≡ false → cond b a.place (next_place a.place (length waits)) ≡ failures doc q (e ∷ h) % length (waits_of doc q.process)
    place_by true is unled = absurd (cc (led_is, is))
    place_by false is unled =
        let w = unled_by false is in
        let n = failures doc q h in
        let m = length (waits_of doc q.process) in
        (λ i. next_place (s.place unled i) (length (w.are i)))
        ∙ next-place n m (subst (λ ws. 1 ≤ length ws) w.are w.some)
        ∙ sym (ap (λ b. added b n % m) failed)

    pub attempts-failed : trying_says doc q e h e.fact ≡ Some false → leads q (e ∷ h) ≡ leads q h → AttemptsStand doc q (e ∷ h) (after_failure t.retries waits led now a)
    attempts-failed ended same =
        record {
          place = λ unled. place_by led refl (sym same ∙ unled);
          began = sym (ap (λ o. when (or_else false (said o (last_trying doc q h))) (local doc q.process (attempt_began doc q (e ∷ h)))) ended);
          origin =
              (λ i. Some (counts_from (timing.retries i) now a))
              ∙ ap (λ n. Some n) (counts_is doc.settings.rules.retries s.origin)
              ∙ sym (ap (λ b. when b (local doc q.process (counted_from doc.settings.rules.retries doc q (e ∷ h)))) failing_now);
        }
