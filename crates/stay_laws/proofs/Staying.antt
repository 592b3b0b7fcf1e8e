-- A leader stays: from success to success, as far as the calm reaches.
use Rattle.std.proofs.Common.{◌≡◌, ◌⊎◌, ◌<◌, ◌≤◌, ℕ, zero, suc, ◌+◌, ◌-◌, ◌*◌, true, List, ◌∷◌, ap, inl, inr, ⊎_elim, arith}
use Rattle.std.proofs.lemmas.Bool.{cases_lt}
use Rattle.kube_objects.specs.declared.call.Reply.TheVariants.{Done}
use Rattle.kube_objects.specs.Document.{Doc, end_beat, is_controller}
use Rattle.kube_objects.specs.Entry.{Entry, Identity, actor_of}
use Rattle.kube_objects.specs.Newest.{has}
use Rattle.kube_objects.specs.Own.{ReleasesByStop}
use Rattle.kube_objects.specs.Stored.{election, at_key, write_of}
use Rattle.history.specs.History.{history}
use Rattle.history.specs.Safe.{Acts}
use Rattle.history.specs.Sound.{IsSound}
use Rattle.history_laws.specs.Tails.{IsTail}
use Rattle.history_laws.proofs.Order.{entries_are_earlier, entries_are_ordered}
use Rattle.history_laws.proofs.Tailed.{tail_trans, tails_meet, later_tail, same_head}
use Rattle.call_laws.proofs.Above.{in_head}
use Rattle.call_laws.proofs.Placing.{in_own_beat}
use Rattle.takeover_laws.specs.Acting.{AreInTime}
use Rattle.takeover_laws.specs.Calm.{IsSteady, IsCalm}
use Rattle.calm_laws.proofs.Origins.{Origin}
use Rattle.stay_laws.specs.Stays.{HasSuccess, RenewsInTime, Stays, LeadersStay}
use Rattle.stay_laws.proofs.Closing.{within_below}
use Rattle.stay_laws.proofs.Given.{IsGiven, given_of}
use Rattle.stay_laws.proofs.Written as wrote
use Rattle.stay_laws.proofs.Renewing.{Due, due_or_ahead, comes_by, soon, acts_while, acts_now, Next, next_success}

module _ (doc : Doc) (near far a e : ℕ) (sound : IsSound doc) (rules : ReleasesByStop doc) (calm : IsCalm doc near far a e) (time : AreInTime doc near far a e) (one : 1 ≤ near) (end : e ≤ end_beat doc)
    (q : Identity) (role : is_controller doc q.process ≡ true) (steady : IsSteady doc near far a e q.process) (renews : RenewsInTime doc near far a e q) where
  -- it acts to the end
  record Ending (y : ℕ) : Type 0 where
    last : e ≤ y + renews.wait + 4 * far
    acts : (k : ℕ) → y ≤ k → k ≤ e → Acts doc q k

  -- or up to its next success
  record Going (y : ℕ) : Type 0 where
    next : ℕ
    later : y < next
    upto : next ≤ e
    soon : next ≤ y + renews.wait + 4 * far
    acts : (k : ℕ) → y ≤ k → k < next → Acts doc q k
    success : HasSuccess doc q a next

  module _ (y : ℕ) (to : y ≤ e) (s : IsGiven doc near far a q y) where
    abbrev DueBy : ℕ → Type 0
    DueBy last = Due doc near far a e sound rules calm time one end q role steady renews y to s last

    acts_soon : (last : ℕ) (d : DueBy last) (k : ℕ) → y ≤ k → k < d.g + 4 * far → k ≤ e → Acts doc q k
    acts_soon last d k le lt upto = acts_while doc near far a e sound rules calm time one end q role steady renews y to s k le upto (soon doc near far a e sound rules calm time one end q role steady renews y to s last d k lt upto)

    by_due : (last : ℕ) (d : DueBy last) → last ≤ y + renews.wait → Ending y ⊎ Going y
    by_due last d last_by = ⊎_elim (λ lt. inl (record { last = omega (arith, lt, d.upto, last_by); acts = λ k le upto. acts_soon last d k le (omega (arith, upto, lt)) upto })) (λ room. inr (going room)) (cases_lt e (d.g + 4 * far))
      where
        going : d.g + 4 * far ≤ e → Going y
        going room = record {
          next = n.next;
          later = n.later;
          upto = omega (arith, n.soon, room);
          soon = omega (arith, n.soon, d.upto, last_by);
          acts = λ k le lt. acts_soon last d k le (omega (arith, lt, n.soon)) (omega (arith, lt, n.soon, room));
          success = n.success;
        }
          where
            n : Next doc near far a e sound rules calm time one end q role steady renews y to s (d.g + 4 * far)
            n = next_success doc near far a e sound rules calm time one end q role steady renews y to s last d last_by room

    goes_on : Ending y ⊎ Going y
    goes_on = ⊎_elim short long (cases_lt e (y + renews.wait))
      where
        long : y + renews.wait ≤ e → Ending y ⊎ Going y
        long le =
            ⊎_elim (λ d. by_due (y + renews.wait) d (omega arith)) (λ none. absurd (comes_by doc near far a e sound rules calm time one end q role steady renews y to s le none))
            (due_or_ahead doc near far a e sound rules calm time one end q role steady renews y to s renews.wait)

        short : e < y + renews.wait → Ending y ⊎ Going y
        short lt =
            ⊎_elim (λ d. by_due (y + (e - y)) d (omega (arith, lt, to)))
            (λ none. inl (record {
              last = omega (arith, lt);
              acts = λ k le upto. acts_while doc near far a e sound rules calm time one end q role steady renews y to s k le upto (omega (arith, none k le (omega (arith, upto, to))));
            }))
            (due_or_ahead doc near far a e sound rules calm time one end q role steady renews y to s (e - y))

    -- and the writes since are its own
    alone : (n : ℕ) → y ≤ n → n ≤ e → n ≤ y + renews.wait + 4 * far → (x : Entry) (T : List Entry) → IsTail (x ∷ T) (history doc (suc n)) → y ≤ x.beat → has (at_key election (write_of x.fact)) ≡ true → x.actor ≡ actor_of q
    alone n ge within bound x T stands since writes =
        wrote.its_writes doc near far a e sound rules calm time one end q role steady renews y to s (acts_now doc near far a e sound rules calm time one end q role steady renews y to s) n ge within
        (omega (arith, bound, s.most)) x T stands (by_place (tails_meet (o.e ∷ o.low) (x ∷ T) (history doc (suc e)) (wrote.write_high doc near far a e sound rules calm time one end q role steady renews y to s) high)) writes
      where
        o : Origin doc q s.call (Done s.version) s.before y
        o = s.o

        high : IsTail (x ∷ T) (history doc (suc e))
        high = tail_trans (x ∷ T) (history doc (suc n)) (history doc (suc e)) stands (later_tail doc (suc n) (suc e) (omega (arith, within)))

        by_place : IsTail (o.e ∷ o.low) (x ∷ T) ⊎ IsTail (x ∷ T) (o.e ∷ o.low) → IsTail (o.e ∷ o.low) T
        by_place (inl (inl is)) = absurd (omega (arith, ap (λ (z : Entry). z.beat) (same_head o.e x o.low T is), since, s.least, one))
        by_place (inl (inr below)) = below
        by_place (inr (inl is)) = absurd (omega (arith, ap (λ (z : Entry). z.beat) (same_head x o.e T o.low is), since, s.least, one))
        by_place (inr (inr above)) =
            absurd (⊎_elim (λ lt. omega (arith, lt, since, s.least, one)) (λ here. omega (arith, here.0, since, s.least, one))
            (within_below (history doc (suc e)) (entries_are_ordered doc (suc e)) o.e o.low (wrote.write_high doc near far a e sound rules calm time one end q role steady renews y to s) x (in_head x T o.low above)))

    ended : Ending y → Stays doc q y e
    ended s = record { acts = s.acts; alone = λ x T stands since writes. alone e to (omega arith) s.last x T stands since writes }

    went_on : (g : Going y) → Stays doc q g.next e → Stays doc q y e
    went_on g rest = record {
      acts = λ k le upto. ⊎_elim (λ lt. g.acts k le lt) (λ ge. rest.acts k ge upto) (cases_lt k g.next);
      alone = λ x T stands since writes. ⊎_elim (λ lt. before x T stands since writes lt) (λ ge. rest.alone x T stands ge writes) (cases_lt x.beat g.next);
    }
      where
        before : (x : Entry) (T : List Entry) → IsTail (x ∷ T) (history doc (suc e)) → y ≤ x.beat → has (at_key election (write_of x.fact)) ≡ true → x.beat < g.next → x.actor ≡ actor_of q
        before x T stands since writes lt =
            alone g.next (omega (arith, g.later)) g.upto g.soon x T
            (tail_trans (x ∷ T) (history doc (suc x.beat)) (history doc (suc g.next)) (in_own_beat doc (suc e) x T stands) (later_tail doc (suc x.beat) (suc g.next) (omega (arith, lt)))) since writes

  -- by the number of beats that are left
  stays : (i y : ℕ) → y ≤ e → e ≤ y + i → IsGiven doc near far a q y → Stays doc q y e
  stays zero y to most s = by_step (goes_on y to s)
    where
      by_step : Ending y ⊎ Going y → Stays doc q y e
      by_step (inl done) = ended y to s done
      by_step (inr g) = absurd (omega (arith, g.later, g.upto, most))
  stays (suc i) y to most s = by_step (goes_on y to s) (λ g. stays i g.next g.upto (omega (arith, g.later, most)) (given_of doc rules near far a e q role steady one g.next g.upto g.success))
    where
      by_step : Ending y ⊎ Going y → ((g : Going y) → Stays doc q g.next e) → Stays doc q y e
      by_step (inl done) on = ended y to s done
      by_step (inr g) on = went_on y to s g (on g)

  pub given_stays : (y : ℕ) → y ≤ e → IsGiven doc near far a q y → Stays doc q y e
  given_stays y to s = stays (e - y) y to (omega (arith, to)) s

-- ---- the law

pub leaders_stay : LeadersStay
leaders_stay doc near far a e sound rules calm time one ways end q role steady renews j s = ⊎_elim over (λ le. given_stays doc near far a e sound rules calm time one end q role steady renews j le (given_of doc rules near far a e q role steady one j le s)) (cases_lt e j)
  where
    -- a success after the span
    over : e < j → Stays doc q j e
    over lt = record {
      acts = λ k le upto. absurd (omega (arith, lt, le, upto));
      alone = λ x T stands since writes. absurd (⊎_elim (λ less. omega (arith, less, lt, since)) (λ first. omega (arith, first.0, lt, since)) (entries_are_earlier doc (suc e) x (in_head x T (history doc (suc e)) stands)));
    }
