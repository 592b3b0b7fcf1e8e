-- Whether a controller's messages pass in a span, and whether somebody acts in it, is decided by looking.
use Rattle.std.proofs.Common.{◌≡◌, ◌⊎◌, ◌<◌, ◌≤◌, ℕ, zero, suc, Bool, true, false, List, [], ◌∷◌, Option, Some, None, refl, sym, ap, ◌∙◌, subst, inl, inr, ⊎_elim, arith}
use Rattle.std.proofs.lemmas.Bool.{cases_lt, cases_eq}
use Rattle.kube_objects.specs.Clocks.{local}
use Rattle.kube_objects.specs.Document.{Doc, processes, is_controller}
use Rattle.kube_objects.specs.Elector.{acts, is_before, deadline}
use Rattle.kube_objects.specs.Entry.{Entry, Identity, Fact, Stops, Ends, Crashes}
use Rattle.kube_objects.specs.Identities.{identity, of_process}
use Rattle.kube_objects.specs.Newest.{has}
use Rattle.kube_objects.specs.Pauses.{is_paused}
use Rattle.kube_objects.specs.Stalls.{is_stalled}
use Rattle.kube_objects.specs.Process.{alive, is_present}
use Rattle.kube_objects.specs.Wire.{loses_requests, loses_replies, request_delay, reply_delay}
use Rattle.kube_objects.specs.Own.{ReleasesByStop}
use Rattle.lease_laws.proofs.Claims.{term_of}
use Rattle.history.specs.History.{history, at_turn}
use Rattle.history.specs.Safe.{Acts}
use Rattle.history_laws.specs.Tails.{In}
use Rattle.history_laws.proofs.Counting.{present_is}
use Rattle.history_laws.proofs.Plainly.{false_is, true_is, and_left}
use Rattle.call_laws.specs.Answering.{with_events}
use Rattle.takeover_laws.specs.Acting.{NobodyActs}
use Rattle.takeover_laws.specs.Calm.{Passes, AllBeats, IsSteady}
use Rattle.takeover_laws.proofs.Acting.{Searched, search}
use Rattle.takeover_laws.proofs.Standing.{controllers_first}
use Rattle.calm_laws.specs.Bounds.{SomebodyActs}

-- either it is so, or not
abbrev pub Decided : Type 0 → Type 0
Decided A = A ⊎ (A → ⊥)

both : (A B : Type 0) → Decided A → Decided B → Decided (A × B)
both A B (inl a) (inl b) = inl (a, b)
both A B (inr never) b = inr (λ ab. never ab.0)
both A B (inl a) (inr never) = inr (λ ab. never ab.1)

same : (b c : Bool) → Decided (b ≡ c)
same true true = inl refl
same false false = inl refl
same true false = inr (λ is. true_is is)
same false true = inr (λ is. false_is is)

at_most : (m n : ℕ) → Decided (m ≤ n)
at_most m n = ⊎_elim (λ lt. inr (λ le. omega (arith, lt, le))) (λ le. inl le) (cases_lt n m)

-- ---- numbers and entries

abbrev test_of : (A : Type 0) → Decided A → Bool
test_of A (inl a) = false
test_of A (inr never) = true

pub each_number : (A : ℕ → Type 0) → ((k : ℕ) → Decided (A k)) → (a n : ℕ) → Decided ((k : ℕ) → a ≤ k → k ≤ n → A k)
each_number A decide a n = by_search (search (λ k. test_of (A k) (decide k)) a n)
  where
    holds : (k : ℕ) → (d : Decided (A k)) → (test_of (A k) d ≡ true → ⊥) → A k
    holds k (inl is) never = is
    holds k (inr is) never = absurd (never refl)

    fails : (k : ℕ) → (d : Decided (A k)) → test_of (A k) d ≡ true → A k → ⊥
    fails k (inl is) test = absurd (false_is test)
    fails k (inr never) test = never

    by_search : Searched (λ k. test_of (A k) (decide k)) a n → Decided ((k : ℕ) → a ≤ k → k ≤ n → A k)
    by_search (inl f) = inr (λ all. fails f.k (decide f.k) f.is (all f.k f.from f.to))
    by_search (inr none) = inl (λ k from to. holds k (decide k) (none k from to))

each_entry : (A : Entry → Type 0) → ((x : Entry) → Decided (A x)) → (h : List Entry) → Decided ((x : Entry) → In x h → A x)
each_entry A decide [] = inl (λ x at. absurd at)
each_entry A decide (x ∷ h) = by_both (decide x) (each_entry A decide h)
  where
    by_both : Decided (A x) → Decided ((x : Entry) → In x h → A x) → Decided ((y : Entry) → In y (x ∷ h) → A y)
    by_both (inr never) rest = inr (λ all. never (all x (inl refl)))
    by_both (inl is) (inr never) = inr (λ all. never (λ y at. all y (inr at)))
    by_both (inl is) (inl rest) = inl all
      where
        all : (y : Entry) → In y (x ∷ h) → A y
        all y (inl equals) = subst A (sym equals) is
        all y (inr at) = rest y at

-- ---- which entry it is

is_crash : (d : Fact) → Decided (d ≡ Crashes)
is_crash Crashes = inl refl
is_crash d = inr (λ is. cc)

is_stop : (d : Fact) → Decided (d ≡ Stops)
is_stop Stops = inl refl
is_stop d = inr (λ is. cc)

is_end : (d : Fact) → Decided (d ≡ Ends)
is_end Ends = inl refl
is_end d = inr (λ is. cc)

implies : (A B : Type 0) → Decided A → Decided B → Decided (A → B)
implies A B (inr never) b = inl (λ a. absurd (never a))
implies A B (inl a) (inl b) = inl (λ x. b)
implies A B (inl a) (inr never) = inr (λ f. never (f a))

all_beats : (doc : Doc) (e p : ℕ) (fact : Fact) → ((d : Fact) → Decided (d ≡ fact)) → (at : ℕ → Type 0) → ((k : ℕ) → Decided (at k)) → Decided (AllBeats doc e p fact at)
all_beats doc e p fact is_fact at is_at =
    each_entry (λ x. x.fact ≡ fact → has (of_process p x.actor) ≡ true → at x.beat)
    (λ x. implies (x.fact ≡ fact) (has (of_process p x.actor) ≡ true → at x.beat) (is_fact x.fact)
    (implies (has (of_process p x.actor) ≡ true) (at x.beat) (same (has (of_process p x.actor)) true) (is_at x.beat)))
    (history doc (suc e))

other : (A : Type 0) → Decided A → Decided (A → ⊥)
other A (inl a) = inr (λ never. never a)
other A (inr never) = inl never

equal : (m n : ℕ) → Decided (m ≡ n)
equal m n = cases_eq m n

-- ---- whether its messages pass

as_record : (A B : Type 0) → (A → B) → (B → A) → Decided A → Decided B
as_record A B to from (inl a) = inl (to a)
as_record A B to from (inr never) = inr (λ b. never (from b))

passes : (doc : Doc) (near far p k : ℕ) → Decided (Passes doc near far p k)
passes doc near far p k =
    as_record Parts (Passes doc near far p k)
    (λ s. record { requests = s.0; replies = s.1.0; request_least = s.1.1.0; request_most = s.1.1.1.0; reply_least = s.1.1.1.1.0; reply_most = s.1.1.1.1.1.0; awake = s.1.1.1.1.1.1.0; goes = s.1.1.1.1.1.1.1 })
    (λ s. (s.requests, (s.replies, (s.request_least, (s.request_most, (s.reply_least, (s.reply_most, (s.awake, s.goes))))))))
    (both _ _ (same (loses_requests p h) false) (both _ _ (same (loses_replies p h) false) (both _ _ (at_most near (request_delay p h)) (both _ _ (at_most (request_delay p h) far)
    (both _ _ (at_most near (reply_delay p h)) (both _ _ (at_most (reply_delay p h) far) (both _ _ (same (is_paused doc p k) false) (same (is_stalled doc k) false))))))))
  where
    h : List Entry
    h = with_events doc k

    Parts : Type 0
    Parts =
        (loses_requests p h ≡ false) × ((loses_replies p h ≡ false) × ((near ≤ request_delay p h) × ((request_delay p h ≤ far)
        × ((near ≤ reply_delay p h) × ((reply_delay p h ≤ far) × ((is_paused doc p k ≡ false) × (is_stalled doc k ≡ false)))))))

pub steady : (doc : Doc) (near far a e p : ℕ) → Decided (IsSteady doc near far a e p)
steady doc near far a e p =
    as_record Parts (IsSteady doc near far a e p)
    (λ s. record { passes = s.0; crashes = s.1.0; stops = s.1.1.0; ends = s.1.1.1 })
    (λ s. (s.passes, (s.crashes, (s.stops, s.ends))))
    (both _ _ (each_number (Passes doc near far p) (passes doc near far p) a e) (both _ _ (all_beats doc e p Crashes is_crash (λ k. k ≤ a) (λ k. at_most k a))
    (both _ _ (all_beats doc e p Stops is_stop (λ k. k < a) (λ k. at_most (suc k) a)) (all_beats doc e p Ends is_end (λ k. k ≡ a → ⊥) (λ k. other (k ≡ a) (equal k a))))))
  where
    Parts : Type 0
    Parts = ((k : ℕ) → a ≤ k → k ≤ e → Passes doc near far p k) × (AllBeats doc e p Crashes (λ k. k ≤ a) × (AllBeats doc e p Stops (λ k. k < a) × AllBeats doc e p Ends (λ k. k ≡ a → ⊥)))

-- ---- who acts

abbrev acting : Doc → ℕ → ℕ → Option ℕ → Bool
acting doc p k None = false
acting doc p k (Some i) = acts doc (identity p i) k (at_turn doc p k)

module _ (doc : Doc) (rules : ReleasesByStop doc) (near far a e n : ℕ) where
  abbrev Idle : ℕ → Type 0
  Idle m = (q : Identity) → q.process < m → is_controller doc q.process ≡ true → IsSteady doc near far a e q.process → (k : ℕ) → a ≤ k → k ≤ n → Acts doc q k → ⊥

  one_more : (p : ℕ) → Idle p → SomebodyActs doc near far a e n ⊎ Idle (suc p)
  one_more p idle = by_role (is_controller doc p) refl
    where
      Quiet : Type 0
      Quiet = (q : Identity) → q.process ≡ p → is_controller doc q.process ≡ true → IsSteady doc near far a e q.process → (k : ℕ) → a ≤ k → k ≤ n → Acts doc q k → ⊥

      with_quiet : Quiet → Idle (suc p)
      with_quiet quiet q lt role s k from to acts_q = ⊎_elim (λ le. idle q le role s k from to acts_q) (λ le. quiet q (omega (arith, lt, le)) role s k from to acts_q) (cases_lt q.process p)

      found : is_controller doc p ≡ true → IsSteady doc near far a e p → (k : ℕ) → a ≤ k → k ≤ n → (o : Option ℕ) → acting doc p k o ≡ true → SomebodyActs doc near far a e n
      found role s k from to None is = absurd (false_is is)
      found role s k from to (Some i) is = record { q = identity p i; role = role; steady = s; acts = record { k = k; from = from; to = to; acts = (role, is) } }

      acts_as : (q : Identity) (k : ℕ) → q.process ≡ p → Acts doc q k → acting doc p k (alive p (at_turn doc p k)) ≡ true
      acts_as q k is acts_q = subst (λ p. acting doc p k (alive p (at_turn doc p k)) ≡ true) is (ap (acting doc q.process k) up ∙ acts_q.1)
        where
          g : List Entry
          g = at_turn doc q.process k

          up : alive q.process g ≡ Some q.incarnation
          up =
              present_is (alive q.process g) q.incarnation
              (and_left (is_present (alive q.process g) q.incarnation) (is_before (local doc q.process k) (deadline doc q g)) (term_of doc rules q k g acts_q.1))

      by_search : is_controller doc p ≡ true → IsSteady doc near far a e p → Searched (λ k. acting doc p k (alive p (at_turn doc p k))) a n → SomebodyActs doc near far a e n ⊎ Idle (suc p)
      by_search role s (inl f) = inl (found role s f.k f.from f.to (alive p (at_turn doc p f.k)) f.is)
      by_search role s (inr none) = inr (with_quiet (λ q is role s k from to acts_q. none k from to (acts_as q k is acts_q)))

      by_steady : is_controller doc p ≡ true → Decided (IsSteady doc near far a e p) → SomebodyActs doc near far a e n ⊎ Idle (suc p)
      by_steady role (inl s) = by_search role s (search (λ k. acting doc p k (alive p (at_turn doc p k))) a n)
      by_steady role (inr never) = inr (with_quiet (λ q is role s k from to acts_q. never (subst (IsSteady doc near far a e) is s)))

      by_role : (b : Bool) → is_controller doc p ≡ b → SomebodyActs doc near far a e n ⊎ Idle (suc p)
      by_role true role = by_steady role (steady doc near far a e p)
      by_role false never = inr (with_quiet (λ q is role s k from to acts_q. true_is (sym role ∙ ap (is_controller doc) is ∙ never)))

  up_to : (m : ℕ) → SomebodyActs doc near far a e n ⊎ Idle m
  up_to zero = inr (λ q lt. absurd (omega (arith, lt)))
  up_to (suc p) = by_below (up_to p)
    where
      by_below : SomebodyActs doc near far a e n ⊎ Idle p → SomebodyActs doc near far a e n ⊎ Idle (suc p)
      by_below (inl somebody) = inl somebody
      by_below (inr idle) = one_more p idle

  -- somebody acts, or nobody does
  pub somebody_or_nobody : SomebodyActs doc near far a e n ⊎ NobodyActs doc near far a e n
  somebody_or_nobody = ⊎_elim (λ somebody. inl somebody) (λ idle. inr (λ q role s. idle q (controllers_first doc q.process role) role s)) (up_to (processes doc))
