-- A version of the election Lease is seen no sooner than it is written, by whoever wrote it too.
use Rattle.std.proofs.Common.{◌≡◌, ◌≤◌, ℕ, suc, Bool, true, false, cond, List, [], ◌∷◌, Option, Some, None, refl, sym, ap, ◌∙◌, subst, inr, ⊎_elim, arith}
use Rattle.std.proofs.lemmas.Bool.{eqb-true}
use Rattle.kube_objects.specs.Document.{Doc, end_beat, is_controller}
use Rattle.kube_objects.specs.Elector.{Shown, shows, shown, is_known, newly, observed}
use Rattle.kube_objects.specs.Entry.{Entry, Identity}
use Rattle.kube_objects.specs.Newest.{or_zero}
use Rattle.kube_objects.specs.Own.{ReleasesByStop}
use Rattle.kube_objects.specs.Stored.{Held, election, stored}
use Rattle.history.specs.History.{history}
use Rattle.history.specs.Sound.{IsSound}
use Rattle.history_laws.specs.Tails.{IsTail}
use Rattle.history_laws.proofs.Plainly.{upper, some_is, none_is}
use Rattle.history_laws.proofs.Tailed.{tail_all, tail_trans}
use Rattle.calm_laws.proofs.Origins.{Origin}
use Rattle.silence_laws.proofs.Kept.{Kept, kept_of}
use Rattle.silence_laws.proofs.Looking.{answered_by, shown_by}
use Rattle.silence_laws.proofs.Showing.{IsTold, told_by}
use Rattle.silence_laws.proofs.Waiting.{beats_rise}

module _ (doc : Doc) (e : ℕ) (sound : IsSound doc) (rules : ReleasesByStop doc) (end : e ≤ end_beat doc) (c : Identity) (role : is_controller doc c.process ≡ true)
    (T : List Entry) (at : IsTail T (history doc (suc e))) (y : Held) (is : stored election T ≡ Some y) where
  abbrev k : Kept T y
  k = kept_of T y is

  -- a reply that shows it comes no sooner than its write
  module _ (d : Entry) (S : List Entry) (position : IsTail (d ∷ S) T) (s : Shown) (t : IsTold c d.actor d.fact s) (same : s.0.0 ≡ y.version.0) where
    abbrev o : Origin doc c t.w t.reply S d.beat
    o = answered_by doc e sound rules end c role T at y is d S position s t same

    upto : IsTail (k.z ∷ k.before) S → k.z.beat ≤ d.beat
    upto = beats_rise doc e d S (tail_trans (d ∷ S) T (history doc (suc e)) position at) k.z k.before

    shown_since : k.z.beat ≤ d.beat
    shown_since =
        ⊎_elim (λ one. upto (subst (λ g. IsTail g S) (sym one) o.answered)) (λ f. upto (tail_trans (k.z ∷ k.before) o.low S f.there.low (tail_trans o.low (o.e ∷ o.low) S (inr (tail_all o.low)) o.answered)))
        (shown_by doc e sound rules end c role T at y is d S position s t same)

  -- so it was first seen no sooner
  pub seen_since : (g : List Entry) → IsTail g T → (s1 : Shown) → shown c g ≡ Some s1 → s1.0.0 ≡ y.version.0 → y.beat ≤ or_zero (observed c g)
  seen_since [] low s1 is same = absurd (none_is s1 is)
  seen_since (d ∷ S) low s1 is same = by_shows (shows c d.actor d.fact) refl is (λ s1 is same. seen_since S (tail_trans S (d ∷ S) T (inr (tail_all S)) low) s1 is same)
    where
      Earlier : Type 0
      Earlier = (s1 : Shown) → shown c S ≡ Some s1 → s1.0.0 ≡ y.version.0 → y.beat ≤ or_zero (observed c S)

      no : false ≡ true → ⊥
      no h = cc

      by_known : (s2 : Shown) → shows c d.actor d.fact ≡ Some s2 → s2 ≡ s1 → (old : Option Shown) → shown c S ≡ old → Earlier → (t : Bool) → is_known s2.0 old ≡ t
          → y.beat ≤ or_zero (upper (cond t None (Some d.beat)) (observed c S))
      by_known s2 shows_is one old old_is on false new = omega (arith, k.beat, shown_since d S low s2 (told_by c d.actor d.fact s2 shows_is) (ap (λ (s : Shown). s.0.0) one ∙ same))
      by_known s2 shows_is one None old_is on true known = absurd (no known)
      by_known s2 shows_is one (Some s3) old_is on true known = on s3 old_is (eqb-true s3.0.0 s2.0.0 known ∙ ap (λ (s : Shown). s.0.0) one ∙ same)

      by_shows : (p : Option Shown) → shows c d.actor d.fact ≡ p → upper p (shown c S) ≡ Some s1 → Earlier → y.beat ≤ or_zero (observed c (d ∷ S))
      by_shows None none below on = subst (λ p. y.beat ≤ or_zero (upper (newly p (shown c S) d.beat) (observed c S))) (sym none) (on s1 below same)
      by_shows (Some s2) shows_is here on =
          subst (λ p. y.beat ≤ or_zero (upper (newly p (shown c S) d.beat) (observed c S))) (sym shows_is)
          (by_known s2 shows_is (some_is s2 s1 here) (shown c S) refl on (is_known s2.0 (shown c S)) refl)
