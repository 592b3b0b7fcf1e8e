-- What was last shown to somebody, and the reply that showed it.
use Rattle.std.proofs.Common.{◌≡◌, true, false, List, [], ◌∷◌, Option, Some, None, refl, ap, ◌∙◌, subst, inl, inr}
use Rattle.kube_objects.specs.declared.call.Reply.{Reply}
use Rattle.kube_objects.specs.declared.deed.Actor.{Actor}
use Rattle.kube_objects.specs.Elector.{Shown, told, shows, shown, newly, observed}
use Rattle.kube_objects.specs.Entry.{Entry, Identity, Call, Fact, First, Event, Starts, Stops, Sends, Answers, Delivers, Expires, Leads, Ends, Crashes, Stalls, Ticks, actor_of, StepsDown, ReleaseBegins, ReleaseEnds, ReleaseStops}
use Rattle.kube_objects.specs.Identities.{is_by}
use Rattle.history_laws.specs.Tails.{IsTail}
use Rattle.history_laws.proofs.Counting.{only_test, only_value}
use Rattle.history_laws.proofs.Plainly.{upper, none_is}
use Rattle.history_laws.proofs.Tailed.{tail_all, tail_trans, same_head, same_rest}
use Rattle.calm_laws.proofs.Begun.{by_is}
use Rattle.silence_laws.proofs.Kept.{not_below}

-- the facts of a reply that shows something
pub record IsTold (q : Identity) (who : Actor) (d : Fact) (s : Shown) : Type 0 where
  pub w : Call
  pub reply : Reply
  pub actor : who ≡ actor_of q
  pub fact : d ≡ Delivers w reply true
  pub tells : told w.request reply ≡ Some s

pub told_by : (q : Identity) (who : Actor) (d : Fact) (s : Shown) → shows q who d ≡ Some s → IsTold q who d s
told_by q who (Delivers w reply true) s is = record {
  w = w;
  reply = reply;
  actor = by_is q who (only_test (is_by q who) (told w.request reply) s is);
  fact = refl;
  tells = only_value (is_by q who) (told w.request reply) s is;
}
told_by q who (Delivers w reply false) s is = absurd (none_is s is)
told_by q who (First key object) s is = absurd (none_is s is)
told_by q who (Event w version) s is = absurd (none_is s is)
told_by q who Starts s is = absurd (none_is s is)
told_by q who Crashes s is = absurd (none_is s is)
told_by q who Stops s is = absurd (none_is s is)
told_by q who (Stalls beats) s is = absurd (none_is s is)
told_by q who StepsDown s is = absurd (none_is s is)
told_by q who (ReleaseBegins at_deadline) s is = absurd (none_is s is)
told_by q who ReleaseEnds s is = absurd (none_is s is)
told_by q who ReleaseStops s is = absurd (none_is s is)
told_by q who Ends s is = absurd (none_is s is)
told_by q who (Sends call arrives) s is = absurd (none_is s is)
told_by q who (Answers c reply comes wrote) s is = absurd (none_is s is)
told_by q who (Expires c) s is = absurd (none_is s is)
told_by q who (Leads version) s is = absurd (none_is s is)
told_by q who (Ticks t) s is = absurd (none_is s is)

-- the entry that showed what was last shown, and nothing was shown since
pub record ShownBy (q : Identity) (s : Shown) (h : List Entry) : Type 0 where
  pub x : Entry
  pub before : List Entry
  pub position : IsTail (x ∷ before) h
  pub says : shows q x.actor x.fact ≡ Some s
  pub seen : observed q h ≡ observed q (x ∷ before)
  pub none : (z : Entry) (Z : List Entry) → IsTail (z ∷ Z) h → IsTail (x ∷ before) Z → shows q z.actor z.fact ≡ None

pub shown_by : (q : Identity) (s : Shown) (h : List Entry) → shown q h ≡ Some s → ShownBy q s h
shown_by q s [] is = absurd (none_is s is)
shown_by q s (x ∷ h) is = by_says (shows q x.actor x.fact) refl is (λ below. shown_by q s h below)
  where
    older : shows q x.actor x.fact ≡ None → ShownBy q s h → ShownBy q s (x ∷ h)
    older none b = record {
      x = b.x;
      before = b.before;
      position = inr b.position;
      says = b.says;
      seen = ap (λ o. upper (newly o (shown q h) x.beat) (observed q h)) none ∙ b.seen;
      none = λ z Z at low. by_place z Z at low;
    }
      where
        by_place : (z : Entry) (Z : List Entry) → IsTail (z ∷ Z) (x ∷ h) → IsTail (b.x ∷ b.before) Z → shows q z.actor z.fact ≡ None
        by_place z Z (inl same) low = ap (λ (e : Entry). shows q e.actor e.fact) (same_head z x Z h same) ∙ none
        by_place z Z (inr at) low = b.none z Z at low

    none_above : (z : Entry) (Z : List Entry) → IsTail (z ∷ Z) (x ∷ h) → IsTail (x ∷ h) Z → ⊥
    none_above z Z at low = not_below x h (below at)
      where
        below : IsTail (z ∷ Z) (x ∷ h) → IsTail (x ∷ h) h
        below (inl same) = tail_trans (x ∷ h) Z h low (same_tail Z (same_rest z x Z h same))
          where
            same_tail : (Z : List Entry) → Z ≡ h → IsTail Z h
            same_tail Z same = subst (IsTail Z) same (tail_all Z)
        below (inr at) = tail_trans (x ∷ h) Z h low (tail_trans Z (z ∷ Z) h (inr (tail_all Z)) at)

    by_says : (o : Option Shown) → shows q x.actor x.fact ≡ o → upper o (shown q h) ≡ Some s → (shown q h ≡ Some s → ShownBy q s h) → ShownBy q s (x ∷ h)
    by_says None none same below = older none (below same)
    by_says (Some t) says same below = record {
      x = x;
      before = h;
      position = inl refl;
      says = says ∙ same;
      seen = refl;
      none = λ z Z at low. absurd (none_above z Z at low);
    }
