-- The processes that are asked only where their turns come first.
use Rattle.std.proofs.Common.{◌≡◌, ◌⊎◌, ℕ, ◌<◌, ◌≤◌, true, false, List, Option, Some, refl, sym, ap, ◌∙◌, subst, inl, inr, arith}
use Rattle.std.proofs.lemmas.Bool.{cases_lt}
use Rattle.kube_base.specs.declared.numbers.ProcId.{ProcId}
use Rattle.kube_objects.specs.Clocks.{local}
use Rattle.kube_objects.specs.Document.{Doc, processes, end_beat, is_controller}
use Rattle.kube_objects.specs.Entry.{Entry}
use Rattle.agenda_laws.specs.Ahead.{IsAhead, IsNextBelow}
use Rattle.agenda_laws.specs.Times.{is_early, sooner}
use Rattle.agenda_laws.specs.Waking.{AreAsleep, IsAsleep, Rests, wakes_as, wakes_of}
use Rattle.agenda_laws.proofs.Between.{sooner_both}
use Rattle.agenda_laws.proofs.Waking.{rests_while}
use Rattle.world_process.specs.Beats.{own_reading, own_reading_as}
use Rattle.world_core.specs.Waits.{IsFirstTurn, IsPassed}
use Rattle.world_agenda.specs.Woken.{IsWithTurn, OnlyTurns}
use Rattle.world_agenda.proofs.Resuming.{one-of}

-- ---- a turn is taken in, and the others still are to come

pub beside : (doc : Doc) (k from p : ℕ) (h : List Entry) (next both : Option ℕ) → p < processes doc → IsNextBelow doc k from h next → IsWithTurn doc k p h next both → IsNextBelow doc k from h both
beside doc k from p h next both inside below t =
    record {
      quiet = λ j least most early. below.quiet j least most (sooner_both j next t.turn (ap (is_early j) (sym t.sooner) ∙ early)).0;
      there = λ n is. by_one n (one-of next t.turn n (sym t.sooner ∙ is));
    }
  where
    by_one : (n : ℕ) → (next ≡ Some n) ⊎ (t.turn ≡ Some n) → IsAhead doc k n × ¬ AreAsleep doc n h
    by_one n (inl is) = below.there n is
    by_one n (inr is) = let found = t.first.there n is in (found.0, λ asleep. found.1 (asleep.turns p inside))

-- ---- who isn't asked

-- who is no controller waits for nothing but its turn
waits-alone : (doc : Doc) (j p : ℕ) (h : List Entry) → is_controller doc p ≡ false → is_early (local doc p j) (own_reading doc p h) ≡ true → IsAsleep doc j p (wakes_of doc p h)
waits-alone doc j p h kubelet early =
    subst (λ b. IsAsleep doc j p (wakes_as doc p b h)) (sym kubelet)
    (record { at_once = refl; local = sym (ap (λ b. is_early (local doc p j) (own_reading_as doc p b h)) kubelet) ∙ early; wall = refl })

pub passed-over : (doc : Doc) (k from to : ℕ) (h : List Entry) (next : Option ℕ) (found : Option ProcId) → OnlyTurns doc k from → IsNextBelow doc k from h next → IsFirstTurn doc from next h found → to ≤ processes doc
    → ((p : ℕ) → p < to → IsPassed p found) → IsNextBelow doc k to h next
passed-over doc k from to h next found others below first most passed =
    record {
      quiet = λ j least within early.
          let s = below.quiet j least within early in
          record { events = s.events; silent = s.silent; turns = λ p less. by_place j within early s.turns p less (cases_lt p from) };
      there = below.there;
    }
  where
    by_place : (j : ℕ) → j ≤ end_beat doc → is_early j next ≡ true → ((i : ℕ) → i < from → Rests doc j i h) → (p : ℕ) → p < to → (p < from) ⊎ (from ≤ p) → Rests doc j p h
    by_place j within early before p less (inl sooner) = before p sooner
    by_place j within early before p less (inr more) = rests_while doc j p h (waits-alone doc j p h (others.kubelets p more) (first.passed p more (omega (arith, less, most)) (passed p less) j within early))

pub only-later : (doc : Doc) (k from to : ℕ) → from ≤ to → OnlyTurns doc k from → OnlyTurns doc k to
only-later doc k from to up others =
    record { kubelets = λ p more. others.kubelets p (omega (arith, up, more)); idle = λ p more less. others.idle p (omega (arith, up, more)) less }
