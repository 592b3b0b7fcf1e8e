-- Of two controllers whose renewals are in time, one alone has successes in a calm span.
use Rattle.std.proofs.Common.{◌≡◌, ◌⊎◌, ◌<◌, ◌≤◌, ℕ, suc, true, List, ◌∷◌, ap, sym, ◌∙◌, inl, inr, ⊎_elim, arith}
use Rattle.std.proofs.lemmas.Bool.{cases_lt}
use Rattle.kube_objects.specs.declared.call.Reply.TheVariants.{Done}
use Rattle.kube_objects.specs.Document.{Doc, end_beat, is_controller}
use Rattle.kube_objects.specs.Entry.{Entry, Identity, actor_of}
use Rattle.kube_objects.specs.Newest.{has}
use Rattle.kube_objects.specs.Own.{ReleasesByStop}
use Rattle.kube_objects.specs.Stored.{election, at_key, write_of}
use Rattle.history.specs.History.{history}
use Rattle.history.specs.Sound.{IsSound}
use Rattle.history_laws.specs.Tails.{IsTail}
use Rattle.history_laws.proofs.Tailed.{tail_trans, tails_meet, later_tail, same_head}
use Rattle.call_laws.proofs.Placing.{in_own_beat}
use Rattle.call_laws.proofs.Starting.{actor_is}
use Rattle.takeover_laws.specs.Acting.{AreInTime}
use Rattle.takeover_laws.specs.Calm.{IsSteady, IsCalm}
use Rattle.calm_laws.proofs.Origins.{Origin}
use Rattle.stay_laws.specs.Stays.{HasSuccess, RenewsInTime, Stays}
use Rattle.stay_laws.proofs.Given.{IsGiven, given_of}
use Rattle.stay_laws.proofs.Renewing.{acts_now}
use Rattle.stay_laws.proofs.Staying.{given_stays}
use Rattle.stay_laws.proofs.Written as wrote

module _ (doc : Doc) (near far a e : ℕ) (sound : IsSound doc) (rules : ReleasesByStop doc) (calm : IsCalm doc near far a e) (time : AreInTime doc near far a e) (one : 1 ≤ near) (end : e ≤ end_beat doc) where
  module _ (q : Identity) (role : is_controller doc q.process ≡ true) (steady : IsSteady doc near far a e q.process) (renews : RenewsInTime doc near far a e q) (j : ℕ) (to : j ≤ e) (s : IsGiven doc near far a q j) where
    -- the write of a success
    abbrev pub o : Origin doc q s.call (Done s.version) s.before j
    o = s.o

    pub first_high : IsTail (o.e ∷ o.low) (history doc (suc e))
    first_high = wrote.write_high doc near far a e sound rules calm time one end q role steady renews j to s

    pub first_writes : has (at_key election (write_of o.e.fact)) ≡ true
    first_writes = wrote.writes doc near far a e sound rules calm time one end q role steady renews j to s

    -- the writes above it are its sender's
    pub alone_since : (x : Entry) (T : List Entry) → IsTail (x ∷ T) (history doc (suc e)) → IsTail (o.e ∷ o.low) T → has (at_key election (write_of x.fact)) ≡ true → x.actor ≡ actor_of q
    alone_since x T at low writes = ⊎_elim before (λ le. stays.alone x T at le writes) (cases_lt x.beat j)
      where
        stays : Stays doc q j e
        stays = given_stays doc near far a e sound rules calm time one end q role steady renews j to s

        before : x.beat < j → x.actor ≡ actor_of q
        before lt =
            wrote.its_writes doc near far a e sound rules calm time one end q role steady renews j to s (acts_now doc near far a e sound rules calm time one end q role steady renews j to s) j (omega arith) to (omega (arith, s.most)) x T
            (tail_trans (x ∷ T) (history doc (suc x.beat)) (history doc (suc j)) (in_own_beat doc (suc e) x T at) (later_tail doc (suc x.beat) (suc j) (omega (arith, lt)))) low writes

  -- so two that have successes are one
  module _ (q : Identity) (role : is_controller doc q.process ≡ true) (steady : IsSteady doc near far a e q.process) (renews : RenewsInTime doc near far a e q) (j : ℕ) (to : j ≤ e) (s : HasSuccess doc q a j)
      (r : Identity) (other_role : is_controller doc r.process ≡ true) (other_steady : IsSteady doc near far a e r.process) (other_renews : RenewsInTime doc near far a e r) (i : ℕ) (upto : i ≤ e) (other_s : HasSuccess doc r a i) where
    abbrev mine : IsGiven doc near far a q j
    mine = given_of doc rules near far a e q role steady one j to s

    abbrev other : IsGiven doc near far a r i
    other = given_of doc rules near far a e r other_role other_steady one i upto other_s

    mine_high : IsTail (mine.o.e ∷ mine.o.low) (history doc (suc e))
    mine_high = first_high q role steady renews j to mine

    other_high : IsTail (other.o.e ∷ other.o.low) (history doc (suc e))
    other_high = first_high r other_role other_steady other_renews i upto other

    below : IsTail (mine.o.e ∷ mine.o.low) other.o.low → r ≡ q
    below low = actor_is r q (sym other.o.actor ∙ alone_since q role steady renews j to mine other.o.e other.o.low other_high low (first_writes r other_role other_steady other_renews i upto other))

    above : IsTail (other.o.e ∷ other.o.low) mine.o.low → r ≡ q
    above low = sym (actor_is q r (sym mine.o.actor ∙ alone_since r other_role other_steady other_renews i upto other mine.o.e mine.o.low mine_high low (first_writes q role steady renews j to mine)))

    same_write : mine.o.e ∷ mine.o.low ≡ other.o.e ∷ other.o.low → r ≡ q
    same_write is = actor_is r q (sym other.o.actor ∙ sym (ap (λ (x : Entry). x.actor) (same_head mine.o.e other.o.e mine.o.low other.o.low is)) ∙ mine.o.actor)

    pub one_stays : r ≡ q
    one_stays = by_place (tails_meet (mine.o.e ∷ mine.o.low) (other.o.e ∷ other.o.low) (history doc (suc e)) mine_high other_high)
      where
        by_place : IsTail (mine.o.e ∷ mine.o.low) (other.o.e ∷ other.o.low) ⊎ IsTail (other.o.e ∷ other.o.low) (mine.o.e ∷ mine.o.low) → r ≡ q
        by_place (inl (inl is)) = same_write is
        by_place (inl (inr low)) = below low
        by_place (inr (inl is)) = same_write (sym is)
        by_place (inr (inr low)) = above low
