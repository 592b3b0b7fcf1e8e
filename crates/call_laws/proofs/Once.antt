-- A request is answered once.
use Rattle.std.proofs.Common.{◌≡◌, ◌⊎◌, ◌<◌, ◌≤◌, ℕ, suc, ◌+◌, ◌==◌, ◌&&◌, Bool, true, false, cond, List, [], ◌∷◌, ◌++◌, Option, Some, None, IfSome, refl, sym, ap, ◌∙◌, subst, inl, inr, arith}
use Rattle.std.proofs.lemmas.Bool.{eqb-true, eq-eqb}
use Rattle.kube_objects.specs.declared.deed.Actor.{Actor}
use Rattle.kube_objects.specs.Document.{Doc}
use Rattle.kube_objects.specs.Entry.{Entry, Identity, Call, Fact, Sends, Answers}
use Rattle.kube_objects.specs.Identities.{is_same, is_by, identity_of}
use Rattle.kube_objects.specs.InFlight.{is_due, and_request, requests_due}
use Rattle.kube_objects.specs.Newest.{count, added}
use Rattle.kube_objects.specs.Process.{begun, is_send}
use Rattle.kube_objects.specs.Wire.{Sent, Back, sent_of, back_of, sent_as, back_as}
use Rattle.kube_objects.specs.Own.{ReleasesByStop}
use Rattle.history.specs.History.{history}
use Rattle.history.specs.Steps.{answer_all, answered}
use Rattle.history_laws.specs.Tails.{IsTail}
use Rattle.history_laws.proofs.Numbers.{numbers_count, numbers_differ}
use Rattle.history_laws.proofs.Plainly.{some_is, none_is, and_left, and_right, and_both, same_is, same_self, added_more}
use Rattle.history_laws.proofs.Tailed.{tail_all, tail_trans, tails_meet, same_head, count_tail}
use Rattle.history_laws.proofs.Walk.{CallIsNext}
use Rattle.call_laws.specs.Answering.{with_events, with_answers}
use Rattle.call_laws.specs.Waiting.{AnswersDiffer}
use Rattle.call_laws.proofs.Above.{Above, above_meet, low_of, place_of}
use Rattle.call_laws.proofs.Answering.{events_position}
use Rattle.call_laws.proofs.Making.{MadeAs, are_made}
use Rattle.call_laws.proofs.Placing.{IsLate, in_own_beat, above_events, after_answers}

-- ---- how often a number of a sender is due, and answered

abbrev is_asked : Identity → ℕ → Sent → Bool
is_asked q n s = (s.call.number == n) && is_same s.who q

abbrev asked : Identity → ℕ → List Sent → ℕ
asked q n [] = 0
asked q n (s ∷ ss) = added (is_asked q n s) (asked q n ss)

abbrev has_number : ℕ → Fact → Bool
has_number n (Answers call reply comes wrote) = call.number == n
has_number n _ = false

abbrev answers_of : Identity → ℕ → List Entry → ℕ
answers_of q n = count (λ e. has_number n e.fact && is_by q e.actor)

added_sum : (b : Bool) (m n : ℕ) → added b m + n ≡ m + added b n
added_sum true m n = omega arith
added_sum false m n = refl

answers_asked : (doc : Doc) (k : ℕ) (q : Identity) (n : ℕ) (ss : List Sent) (h : List Entry) → answers_of q n (answer_all doc k ss h) ≡ answers_of q n h + asked q n ss
answers_asked doc k q n [] h = omega arith
answers_asked doc k q n (s ∷ ss) h = answers_asked doc k q n ss (answered doc k s h) ∙ added_sum (is_asked q n s) (answers_of q n h) (asked q n ss)

asked_push : (q : Identity) (n : ℕ) (ss : List Sent) (s : Sent) → asked q n (ss ++ s ∷ []) ≡ added (is_asked q n s) (asked q n ss)
asked_push q n [] s = refl
asked_push q n (x ∷ ss) s = ap (added (is_asked q n x)) (asked_push q n ss s) ∙ swap (is_asked q n x) (is_asked q n s) (asked q n ss)
  where
    swap : (a b : Bool) (m : ℕ) → added a (added b m) ≡ added b (added a m)
    swap true true m = refl
    swap true false m = refl
    swap false true m = refl
    swap false false m = refl

-- a number that wasn't given yet isn't due, and none is due twice
record Few (q : Identity) (n k : ℕ) (h : List Entry) : Type 0 where
  later : begun q h < n → asked q n (requests_due k h) ≡ 0
  once : asked q n (requests_due k h) ≤ 1

few_more : (doc : Doc) (m : ℕ) (q : Identity) (n k : ℕ) (e : Entry) (h : List Entry) → IsTail (e ∷ h) (history doc m) → Few q n k h → Few q n k (e ∷ h)
few_more doc m q n k e h within r = let two = made (sent_of e.actor e.fact) refl in record { later = two.0; once = two.1 }
  where
    more : begun q h ≤ begun q (e ∷ h)
    more = added_more (is_send e.fact && is_by q e.actor) (begun q h)

    plain : (ss : List Sent) → asked q n ss ≡ asked q n (requests_due k h) → (begun q (e ∷ h) < n → asked q n ss ≡ 0) × (asked q n ss ≤ 1)
    plain ss is = (λ lt. is ∙ r.later (omega (arith, lt, more)), omega (arith, is, r.once))

    next : (s : Sent) → sent_of e.actor e.fact ≡ Some s → CallIsNext h s
    next s is = subst (λ o. IfSome o (CallIsNext h)) is (numbers_count doc m e h within)

    mine : (s : Sent) → sent_of e.actor e.fact ≡ Some s → is_asked q n s ≡ true → begun q h + 1 ≡ n
    mine s is same =
        let number : s.call.number ≡ n = eqb-true s.call.number n (and_left (s.call.number == n) (is_same s.who q) same) in
        let who : begun s.who h ≡ begun q h = ap (λ p. begun p h) (same_is s.who q (and_right (s.call.number == n) (is_same s.who q) same)) in
        omega (arith, next s is, number, who)

    counts : (s : Sent) → sent_of e.actor e.fact ≡ Some s → is_asked q n s ≡ true → begun q (e ∷ h) ≡ begun q h + 1
    counts s is same = cases e.actor e.fact is
      where
        by_q : (who : Actor) (call : Call) (arrives : Option ℕ) → sent_as call arrives (identity_of who) ≡ Some s → is_by q who ≡ true
        by_q Actor.Script call arrives is = absurd (none_is s is)
        by_q (Actor.Proc id i) call arrives is =
            subst (λ (s : Sent). is_same s.who q ≡ true) (sym (some_is _ s is)) (and_right (s.call.number == n) (is_same s.who q) same)

        cases : (who : Actor) (d : Fact) → sent_of who d ≡ Some s → added (is_send d && is_by q who) (begun q h) ≡ begun q h + 1
        cases who (Sends call arrives) is = ap (λ b. added b (begun q h)) (by_q who call arrives is)
        cases who d is = absurd (none_is s is)

    by_match : (s : Sent) → sent_of e.actor e.fact ≡ Some s → (b : Bool) → is_asked q n s ≡ b → (begun q (e ∷ h) < n → asked q n (requests_due k h ++ s ∷ []) ≡ 0) × (asked q n (requests_due k h ++ s ∷ []) ≤ 1)
    by_match s is false other = plain (requests_due k h ++ s ∷ []) (asked_push q n (requests_due k h) s ∙ ap (λ b. added b (asked q n (requests_due k h))) other)
    by_match s is true same =
        let one : asked q n (requests_due k h ++ s ∷ []) ≡ asked q n (requests_due k h) + 1 = asked_push q n (requests_due k h) s ∙ ap (λ b. added b (asked q n (requests_due k h))) same in
        let given : begun q h + 1 ≡ n = mine s is same in
        let none : asked q n (requests_due k h) ≡ 0 = r.later (omega (arith, given)) in
        (λ lt. absurd (omega (arith, lt, counts s is same, given)), omega (arith, one, none))

    by_due : (s : Sent) → sent_of e.actor e.fact ≡ Some s → (b : Bool) → (begun q (e ∷ h) < n → asked q n (cond b (requests_due k h ++ s ∷ []) (requests_due k h)) ≡ 0) × (asked q n (cond b (requests_due k h ++ s ∷ []) (requests_due k h)) ≤ 1)
    by_due s is true = by_match s is (is_asked q n s) refl
    by_due s is false = plain (requests_due k h) refl

    made : (o : Option Sent) → sent_of e.actor e.fact ≡ o → (begun q (e ∷ h) < n → asked q n (and_request k o (requests_due k h)) ≡ 0) × (asked q n (and_request k o (requests_due k h)) ≤ 1)
    made None is = plain (requests_due k h) refl
    made (Some s) is = by_due s is (is_due k s.arrives)

few_in : (doc : Doc) (m : ℕ) (q : Identity) (n k : ℕ) (h : List Entry) → IsTail h (history doc m) → Few q n k h
few_in doc m q n k [] within = record { later = λ lt. refl; once = omega arith }
few_in doc m q n k (e ∷ h) within = few_more doc m q n k e h within (few_in doc m q n k h (tail_trans h (e ∷ h) (history doc m) (inr (tail_all h)) within))

-- ---- an answer and the request that it answers

-- the request of an answer, where it stands
record Asker (doc : Doc) (k : ℕ) (e : Entry) (g : List Entry) (x : Back) : Type 0 where
  step : e.step ≡ 2
  f : Entry
  before : List Entry
  position : IsTail (f ∷ before) g
  s : Sent
  is : sent_of f.actor f.fact ≡ Some s
  who : s.who ≡ x.who
  call : s.call ≡ x.call
  arrives : s.arrives ≡ Some e.beat
  mine : (has_number x.call.number e.fact && is_by x.who e.actor) ≡ true

pub due_at : (k : ℕ) (o : Option ℕ) → is_due k o ≡ true → o ≡ Some k
due_at k None is = absurd (never is)
  where
    never : false ≡ true → ⊥
    never h = cc
due_at k (Some at) is = ap Some (eqb-true at k is)

asker_as : (doc : Doc) (k : ℕ) (e : Entry) (g : List Entry) (x : Back) (who : Actor) (d : Fact) → e.actor ≡ who → e.fact ≡ d → MadeAs doc e.beat e.step who d g → back_of who d ≡ Some x → Asker doc k e g x
asker_as doc k e g x who (Answers call reply comes wrote) actor fact made is =
    let p = place_of made.arriving.e g made.arriving.stands in
    let b : Back = record { who = made.s.who; call = call; reply = reply; comes = comes } in
    let same : b ≡ x = some_is b x (ap (λ who. back_as call reply comes (identity_of who)) (sym made.by) ∙ is) in
    let whose : made.s.who ≡ x.who = ap (λ (b : Back). b.who) same in
    let which : call ≡ x.call = ap (λ (b : Back). b.call) same in
    record {
      step = made.step_is;
      f = made.arriving.e;
      before = p.before;
      position = p.position;
      s = made.s;
      is = made.arriving.is;
      who = whose;
      call = sym made.call_is ∙ which;
      arrives = due_at e.beat made.s.arrives made.arriving.now;
      mine =
          ap (λ d. has_number x.call.number d && is_by x.who e.actor) fact
          ∙ and_both (call.number == x.call.number) (is_by x.who e.actor) (eq-eqb call.number x.call.number (ap (λ (c : Call). c.number) which))
          (ap (is_by x.who) (actor ∙ made.by) ∙ subst (λ p. is_same made.s.who p ≡ true) whose (same_self made.s.who));
    }
asker_as doc k e g x who d actor fact made is = absurd (none_is x is)

asker : (doc : Doc) → ReleasesByStop doc → (k : ℕ) (e : Entry) (g : List Entry) (x : Back) → IsTail (e ∷ g) (history doc k) → back_of e.actor e.fact ≡ Some x → Asker doc k e g x
asker doc own k e g x at is = asker_as doc k e g x e.actor e.fact refl refl (are_made doc own k e g at) is

-- ---- answers of one beat

-- an answer is between the events of its beat and the end of step 2
record Between (doc : Doc) (e : Entry) (g : List Entry) : Type 0 where
  low : IsTail (with_events doc e.beat) g
  high : IsTail (e ∷ g) (with_answers doc e.beat)

between : (doc : Doc) (k : ℕ) (e : Entry) (g : List Entry) → IsTail (e ∷ g) (history doc k) → e.step ≡ 2 → Between doc e g
between doc k e g at step = record {
  low = low_of (IsLate e.beat 2) (with_events doc e.beat) g (above_events doc k e g at (omega (arith, step)));
  high = by_place (above_meet (IsLate e.beat 3) (with_answers doc e.beat) (e ∷ g) (history doc (suc e.beat)) (after_answers doc e.beat) (in_own_beat doc k e g at));
}
  where
    by_place : Above (IsLate e.beat 3) (with_answers doc e.beat) (e ∷ g) ⊎ IsTail (e ∷ g) (with_answers doc e.beat) → IsTail (e ∷ g) (with_answers doc e.beat)
    by_place (inl (inl is)) = subst (IsTail (e ∷ g)) (sym is) (tail_all (e ∷ g))
    by_place (inl (inr late)) = absurd (omega (arith, late.0.1, step))
    by_place (inr at) = at

-- two answers, the one above the other, count
two_count : (q : Identity) (n : ℕ) (e f : Entry) (g h low all : List Entry) → IsTail low g → IsTail (e ∷ g) h → IsTail (f ∷ h) all
    → (has_number n e.fact && is_by q e.actor) ≡ true → (has_number n f.fact && is_by q f.actor) ≡ true → answers_of q n low + 2 ≤ answers_of q n all
two_count q n e f g h low all below above within first second =
    let test : Entry → Bool = λ e. has_number n e.fact && is_by q e.actor in
    let a : answers_of q n low ≤ answers_of q n g = count_tail test low g below in
    let b : answers_of q n (e ∷ g) ≤ answers_of q n h = count_tail test (e ∷ g) h above in
    let c : answers_of q n (f ∷ h) ≤ answers_of q n all = count_tail test (f ∷ h) all within in
    let one : answers_of q n (e ∷ g) ≡ answers_of q n g + 1 = ap (λ b. added b (answers_of q n g)) first in
    let two : answers_of q n (f ∷ h) ≡ answers_of q n h + 1 = ap (λ b. added b (answers_of q n h)) second in
    omega (arith, a, b, c, one, two)

at_most_one : (doc : Doc) (k : ℕ) (q : Identity) (n : ℕ) → answers_of q n (with_answers doc k) ≤ answers_of q n (with_events doc k) + 1
at_most_one doc k q n =
    let one = with_events doc k in
    let r = few_in doc (suc k) q n k one (events_position doc k) in
    omega (arith, answers_asked doc k q n (requests_due k one) one, r.once)

pub answers_differ : AnswersDiffer
answers_differ doc own k e f g h x y at_e at_f is_e is_f who number = by_place (tails_meet (e ∷ g) (f ∷ h) (history doc k) at_e at_f)
  where
    a : Asker doc k e g x
    a = asker doc own k e g x at_e is_e

    b : Asker doc k f h y
    b = asker doc own k f h y at_f is_f

    -- both answer one request, so both are of one beat
    one : a.f ∷ a.before ≡ b.f ∷ b.before
    one =
        numbers_differ doc k a.f b.f a.before b.before a.s b.s
        (tail_trans (a.f ∷ a.before) g (history doc k) a.position (tail_trans g (e ∷ g) (history doc k) (inr (tail_all g)) at_e))
        (tail_trans (b.f ∷ b.before) h (history doc k) b.position (tail_trans h (f ∷ h) (history doc k) (inr (tail_all h)) at_f))
        a.is b.is (a.who ∙ who ∙ sym b.who) (ap (λ (c : Call). c.number) a.call ∙ number ∙ sym (ap (λ (c : Call). c.number) b.call))

    same_sent : a.s ≡ b.s
    same_sent = some_is a.s b.s (sym a.is ∙ ap (λ (e : Entry). sent_of e.actor e.fact) (same_head a.f b.f a.before b.before one) ∙ b.is)

    beat : e.beat ≡ f.beat
    beat = some_is e.beat f.beat (sym a.arrives ∙ ap (λ (s : Sent). s.arrives) same_sent ∙ b.arrives)

    i : Between doc e g
    i = between doc k e g at_e a.step

    j : Between doc f h
    j = between doc k f h at_f b.step

    q : Identity
    q = x.who

    n : ℕ
    n = x.call.number

    second : (has_number n f.fact && is_by q f.actor) ≡ true
    second = subst (λ p. (has_number n f.fact && is_by p f.actor) ≡ true) (sym who) (subst (λ m. (has_number m f.fact && is_by y.who f.actor) ≡ true) (sym number) b.mine)

    clash : answers_of q n (with_events doc f.beat) + 2 ≤ answers_of q n (with_answers doc f.beat) → ⊥
    clash le = omega (arith, le, at_most_one doc f.beat q n)

    by_place : IsTail (e ∷ g) (f ∷ h) ⊎ IsTail (f ∷ h) (e ∷ g) → e ∷ g ≡ f ∷ h
    by_place (inl (inl same)) = same
    by_place (inr (inl same)) = sym same
    by_place (inl (inr below)) =
        absurd (clash (two_count q n e f g h (with_events doc f.beat) (with_answers doc f.beat) (subst (λ k. IsTail (with_events doc k) g) beat i.low) below j.high a.mine second))
    by_place (inr (inr below)) =
        absurd (clash (two_count q n f e h g (with_events doc f.beat) (with_answers doc f.beat) j.low below (subst (λ k. IsTail (e ∷ g) (with_answers doc k)) beat i.high) second a.mine))
