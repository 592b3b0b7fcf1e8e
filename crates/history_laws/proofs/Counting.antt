-- What a counted reply tells of the call that waited.
use Rattle.std.proofs.Common.{◌≡◌, ℕ, ◌==◌, ◌&&◌, not, Bool, true, false, List, Option, Some, None, refl, ap, subst}
use Rattle.std.proofs.lemmas.Bool.{eqb-true}
use Rattle.kube_objects.specs.Document.{Doc}
use Rattle.kube_objects.specs.Entry.{Entry, Identity, Call}
use Rattle.kube_objects.specs.Newest.{when, only_if}
use Rattle.kube_objects.specs.Process.{alive, call_in, is_present, is_late, answered_call, counted}
use Rattle.history_laws.proofs.Plainly.{some_is, none_is, false_is, and_left, and_right, not_true}

pub record CountedFor (doc : Doc) (q : Identity) (k asked : ℕ) (h : List Entry) (waiting : Call) : Type 0 where
  pub up : alive q.process h ≡ Some q.incarnation
  pub waits : call_in q h ≡ Some waiting
  pub number : waiting.number ≡ asked
  pub timely : is_late doc q k waiting ≡ false

pub only_test : {A : Type 0} (b : Bool) (x : Option A) (a : A) → only_if b x ≡ Some a → b ≡ true
only_test true x a is = refl
only_test false x a is = absurd (none_is a is)

pub only_value : {A : Type 0} (b : Bool) (x : Option A) (a : A) → only_if b x ≡ Some a → x ≡ Some a
only_value true x a is = is
only_value false x a is = absurd (none_is a is)

pub when_test : {A : Type 0} (b : Bool) (x a : A) → when b x ≡ Some a → b ≡ true
when_test true x a is = refl
when_test false x a is = absurd (none_is a is)

pub when_value : {A : Type 0} (b : Bool) (x a : A) → when b x ≡ Some a → x ≡ a
when_value true x a is = some_is x a is
when_value false x a is = absurd (none_is a is)

pub present_is : (o : Option ℕ) (i : ℕ) → is_present o i ≡ true → o ≡ Some i
present_is None i is = absurd (false_is is)
present_is (Some j) i is = ap Some (eqb-true j i is)

pub counted_is : (doc : Doc) (q : Identity) (k number : ℕ) (h : List Entry) (waiting : Call) → counted doc q k number h ≡ Some waiting → CountedFor doc q k number h waiting
counted_is doc q k number h waiting is = by_call (call_in q h) refl (only_value (is_present (alive q.process h) q.incarnation) (answered_call doc q k number (call_in q h)) waiting is)
  where
    up : alive q.process h ≡ Some q.incarnation
    up = present_is (alive q.process h) q.incarnation (only_test (is_present (alive q.process h) q.incarnation) (answered_call doc q k number (call_in q h)) waiting is)

    made : (c : Call) → call_in q h ≡ Some c → ((c.number == number) && not (is_late doc q k c)) ≡ true → CountedFor doc q k number h c
    made c waits test = record {
      up = up;
      waits = waits;
      number = eqb-true c.number number (and_left (c.number == number) (not (is_late doc q k c)) test);
      timely = not_true (is_late doc q k c) (and_right (c.number == number) (not (is_late doc q k c)) test);
    }

    by_call : (o : Option Call) → call_in q h ≡ o → answered_call doc q k number o ≡ Some waiting → CountedFor doc q k number h waiting
    by_call None waits is = absurd (none_is waiting is)
    by_call (Some c) waits is =
        subst (CountedFor doc q k number h) (when_value ((c.number == number) && not (is_late doc q k c)) c waiting is)
        (made c waits (when_test ((c.number == number) && not (is_late doc q k c)) c waiting is))
