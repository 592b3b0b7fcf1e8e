-- The search for the first leaf, step by step.
use Rattle.std.proofs.Common.{◌≡◌, ℕ, zero, suc, ◌+◌, ◌-◌, ◌*◌, ◌/◌, ◌<◌, ◌≤◌, Bool, true, false, List, Option, None, Some, length, get_or, refl, ap, sym, ◌∙◌, subst, arith, ◌⊎◌, inl, inr, if◌then◌else◌}
use Rattle.std.proofs.lemmas.Bool.{cases_lt}
use Rattle.std.proofs.lemmas.Option.{slice_get-get_or}
use Rattle.std.specs.Option.{is_some}
use Rattle.kube_base.specs.declared.numbers.Beat.{Beat}
use Rattle.beat_tree.specs.declared.tree.BeatTree.{BeatTree}
use Rattle.beat_tree.specs.Leaves.{IsFirst, leaf}
use Rattle.beat_tree.specs.Tidy.{IsAcross, beat_at, comes_before, earlier, joined, up}
use Rattle.beat_tree.proofs.Slots.{itself, none_below, none_comes, past_is, then_right}
use Rattle.beat_tree.proofs.Ways.{After, Here, across_least, at_leaves, ends, falls, left, past_one, right, risen, stays, up_less}

pub long_is : (t : BeatTree) → length t.slots.items ≡ 2 * t.width
long_is t = sym t.slots.ok.0 ∙ t.long

pub read_slot : (t : BeatTree) (i : ℕ) (v : Option Beat) → i < 2 * t.width → v ≡ get_or t.slots.items i v → v ≡ beat_at t.slots.items i
read_slot t i v within is = is ∙ sym (ap joined (slice_get-get_or t.slots.items i v (let long = long_is t in omega (arith, within, long))))

-- what a comparison of a slot says
pub read_sooner : (t : BeatTree) (i : ℕ) (v before : Option Beat) (b : Bool) → i < 2 * t.width → v ≡ get_or t.slots.items i v → comes_before v before ≡ b → comes_before (beat_at t.slots.items i) before ≡ b
read_sooner t i v before b within is tells = subst (λ x. comes_before x before ≡ b) (read_slot t i v within is) tells

module _ (t : BeatTree) (from : ℕ) (before : Option Beat) where
  end : 2 * t.width - 1 + 1 ≡ 2 * t.width
  end = let some = t.some in omega (arith, some)

  -- none from `from` on comes before, up to the last leaf
  nothing_of : ((x : ℕ) → t.width + from ≤ x → x ≤ 2 * t.width - 1 → comes_before (beat_at t.slots.items x) before ≡ false) → IsFirst t from before None
  nothing_of all = record { there = tt; passed = λ j more below. by_order j more (cases_lt (t.width + j) (2 * t.width)) }
    where
      by_order : (j : ℕ) → from ≤ j → (t.width + j < 2 * t.width) ⊎ (2 * t.width ≤ t.width + j) → comes_before (leaf t j) before ≡ false
      by_order j more (inl within) = all (t.width + j) (omega (arith, more)) (omega (arith, within))
      by_order j more (inr past) = ap (λ b. comes_before b before) (past_is t.slots.items (t.width + j) (let long = long_is t in omega (arith, past, long)))

  pub passed_past : t.width ≤ from → IsFirst t from before None
  passed_past past = nothing_of (λ x more less. let e = end in let some = t.some in absurd (omega (arith, more, less, past, e, some)))

  pub passed_root : comes_before (beat_at t.slots.items 1) before ≡ false → IsFirst t from before None
  passed_root none = nothing_of (λ x more less. none_below t.slots.items before x t.tidy (t.width, long_is t) none (let some = t.some in omega (arith, more, some)))

  abbrev H : ℕ → ℕ → Type 0
  H d slot = Here t.slots.items before (2 * t.width - 1) (t.width + from) d slot

  stepped : (slot next : ℕ) → 1 ≤ slot → ((d : ℕ) × H d slot) → comes_before (beat_at t.slots.items slot) before ≡ false → IsAcross slot next → (d : ℕ) × After t.slots.items before (2 * t.width - 1) (t.width + from) d next
  stepped slot next some s none a =
      risen t.slots.items before t.width t.depth (2 * t.width - 1) (t.width + from) (long_is t) t.power end (omega arith) t.tidy a.0.0 s.0 (slot + 1) next a.0.1
      (past_one t.slots.items before t.width t.depth (2 * t.width - 1) (t.width + from) (long_is t) t.power end (omega arith) t.tidy s.0 slot some s.1 none)

  pub across_next : (slot next : ℕ) → 1 ≤ slot → slot < 2 * t.width → ((d : ℕ) × H d slot) → comes_before (beat_at t.slots.items slot) before ≡ false → IsAcross slot next → ¬ (next ≡ 1)
      → record { some : 1 ≤ next; within : next < 2 * t.width; here : (d : ℕ) × H d next }
  across_next slot next some within s none a apart =
      let after = stepped slot next some s none a in
      let here = stays t.slots.items before t.width t.depth (2 * t.width - 1) (t.width + from) (long_is t) t.power end (omega arith) t.tidy after.0 a.1.0 next a.1.1 apart after.1 in
      let odd = a.1.1 in
      let last_one = here.within in
      let least = up_less after.0 (2 * t.width - 1) in
      record { some = omega (arith, odd); within = omega (arith, last_one, least, end); here = (after.0, here) }

  pub passed_all : (slot next : ℕ) → 1 ≤ slot → slot < 2 * t.width → ((d : ℕ) × H d slot) → comes_before (beat_at t.slots.items slot) before ≡ false → IsAcross slot next → next ≡ 1 → IsFirst t from before None
  passed_all slot next some within s none a root =
      let after = stepped slot next some s none a in
      nothing_of (ends t.slots.items before t.width t.depth (2 * t.width - 1) (t.width + from) (long_is t) t.power end (omega arith) t.tidy after.0 (subst (After t.slots.items before (2 * t.width - 1) (t.width + from) after.0) root after.1))

  abbrev Down : ℕ → Type 0
  Down slot = record { some : 1 ≤ slot; within : slot < 2 * t.width; sooner : comes_before (beat_at t.slots.items slot) before ≡ true; here : (d : ℕ) × H d slot }

  pub stepped_left : (slot : ℕ) → 1 ≤ slot → slot < t.width → ((d : ℕ) × H d slot) → comes_before (beat_at t.slots.items (slot * 2)) before ≡ true → Down (slot * 2)
  stepped_left slot some less s sooner =
      let fall = falls t.slots.items before t.width t.depth (2 * t.width - 1) (t.width + from) (long_is t) t.power end (omega arith) t.tidy s.0 slot less some s.1 in
      let here = left t.slots.items before t.width t.depth (2 * t.width - 1) (t.width + from) (long_is t) t.power end (omega arith) t.tidy fall.0 slot (subst (λ d. H d slot) fall.1 s.1) in
      let twice : 2 * slot ≡ slot * 2 = omega arith in
      record { some = omega (arith, some); within = omega (arith, less); sooner = sooner; here = (fall.0, subst (H fall.0) twice here) }

  pub stepped_right : (slot : ℕ) → 1 ≤ slot → slot < t.width → comes_before (beat_at t.slots.items slot) before ≡ true → ((d : ℕ) × H d slot) → comes_before (beat_at t.slots.items (slot * 2)) before ≡ false → Down (slot * 2 + 1)
  stepped_right slot some less sooner s none =
      let fall = falls t.slots.items before t.width t.depth (2 * t.width - 1) (t.width + from) (long_is t) t.power end (omega arith) t.tidy s.0 slot less some s.1 in
      let twice : slot * 2 ≡ 2 * slot = omega arith in
      let none_left = subst (λ n. comes_before (beat_at t.slots.items n) before ≡ false) twice none in
      let here = right t.slots.items before t.width t.depth (2 * t.width - 1) (t.width + from) (long_is t) t.power end (omega arith) t.tidy fall.0 slot some (subst (λ d. H d slot) fall.1 s.1) none_left in
      let after : 2 * slot + 1 ≡ slot * 2 + 1 = omega arith in
      let tidy = t.tidy slot some (let long = long_is t in omega (arith, less, long)) in
      let sooner_right = then_right (beat_at t.slots.items (2 * slot)) (beat_at t.slots.items (2 * slot + 1)) before (subst (λ b. comes_before b before ≡ true) tidy sooner) none_left in
      record {
        some = omega arith;
        within = omega (arith, less);
        sooner = subst (λ n. comes_before (beat_at t.slots.items n) before ≡ true) after sooner_right;
        here = (fall.0, subst (H fall.0) after here);
      }

  pub found : (slot : ℕ) → t.width ≤ slot → slot < 2 * t.width → comes_before (beat_at t.slots.items slot) before ≡ true → ((d : ℕ) × H d slot) → IsFirst t from before (Some (slot - t.width))
  found slot low within sooner s =
      let bottom = at_leaves t.slots.items before t.width t.depth (2 * t.width - 1) (t.width + from) (long_is t) t.power end (omega arith) t.tidy s.0 slot low s.1 in
      let here : H 0 slot = subst (λ d. H d slot) bottom s.1 in
      let place : slot ≡ t.width + (slot - t.width) = omega (arith, low) in
      record {
        there = (by_start here.begun, subst (λ n. comes_before (beat_at t.slots.items n) before ≡ true) place sooner);
        passed = λ j more below. here.passed (t.width + j) (omega (arith, more)) (omega (arith, below, within)) (omega (arith, below));
      }
    where
      by_start : ((zero ≡ zero) × (slot ≡ t.width + from)) ⊎ (t.width + from < slot) → from ≤ slot - t.width
      by_start (inl e) = let own = e.1 in omega (arith, own)
      by_start (inr less) = omega (arith, less)

-- ---- the least leaf

picks_left : (a b : Option Beat) → comes_before b a ≡ false → earlier a b ≡ a
picks_left a b none = ap (λ t. if t then b else a) none

picks_right : (a b : Option Beat) → comes_before b a ≡ true → earlier a b ≡ b
picks_right a b sooner = ap (λ t. if t then b else a) sooner

-- a slot has the root's beat
abbrev pub AsRoot : BeatTree → ℕ → Type 0
AsRoot t slot = record { some : 1 ≤ slot; within : slot < 2 * t.width; same : beat_at t.slots.items slot ≡ beat_at t.slots.items 1 }

at_twice : (t : BeatTree) (slot : ℕ) → beat_at t.slots.items (2 * slot) ≡ beat_at t.slots.items (slot * 2)
at_twice t slot = let twice : 2 * slot ≡ slot * 2 = omega arith in ap (beat_at t.slots.items) twice

at_next : (t : BeatTree) (slot : ℕ) → beat_at t.slots.items (2 * slot + 1) ≡ beat_at t.slots.items (slot * 2 + 1)
at_next t slot = let twice : 2 * slot + 1 ≡ slot * 2 + 1 = omega arith in ap (beat_at t.slots.items) twice

splits : (t : BeatTree) (slot : ℕ) → 1 ≤ slot → slot < t.width → beat_at t.slots.items slot ≡ earlier (beat_at t.slots.items (slot * 2)) (beat_at t.slots.items (slot * 2 + 1))
splits t slot some less =
    t.tidy slot some (let long = long_is t in omega (arith, less, long)) ∙ ap (λ x. earlier x (beat_at t.slots.items (2 * slot + 1))) (at_twice t slot)
    ∙ ap (earlier (beat_at t.slots.items (slot * 2))) (at_next t slot)

pub goes_on : (t : BeatTree) (slot : ℕ) (l r : Option Beat) (b : Bool) → AsRoot t slot → slot < t.width → l ≡ get_or t.slots.items (slot * 2) l → r ≡ get_or t.slots.items (slot * 2 + 1) r → b ≡ comes_before r l
    → (b ≡ false → AsRoot t (slot * 2)) × (b ≡ true → AsRoot t (slot * 2 + 1))
goes_on t slot l r b s less left_is right_is tells = (λ none. go_left (sym told ∙ none), λ sooner. go_right (sym told ∙ sooner))
  where
    told : b ≡ comes_before (beat_at t.slots.items (slot * 2 + 1)) (beat_at t.slots.items (slot * 2))
    told = tells ∙ ap (λ x. comes_before x l) (read_slot t (slot * 2 + 1) r (omega (arith, less)) right_is) ∙ ap (comes_before (beat_at t.slots.items (slot * 2 + 1))) (read_slot t (slot * 2) l (omega (arith, less)) left_is)

    go_left : comes_before (beat_at t.slots.items (slot * 2 + 1)) (beat_at t.slots.items (slot * 2)) ≡ false → AsRoot t (slot * 2)
    go_left none =
        record { some = (let some = s.some in omega (arith, some)); within = omega (arith, less); same = sym (splits t slot s.some less ∙ picks_left (beat_at t.slots.items (slot * 2)) (beat_at t.slots.items (slot * 2 + 1)) none) ∙ s.same }

    go_right : comes_before (beat_at t.slots.items (slot * 2 + 1)) (beat_at t.slots.items (slot * 2)) ≡ true → AsRoot t (slot * 2 + 1)
    go_right sooner =
        record { some = omega arith; within = omega (arith, less); same = sym (splits t slot s.some less ∙ picks_right (beat_at t.slots.items (slot * 2)) (beat_at t.slots.items (slot * 2 + 1)) sooner) ∙ s.same }

at_leaf : (t : BeatTree) (slot : ℕ) → t.width ≤ slot → leaf t (slot - t.width) ≡ beat_at t.slots.items slot
at_leaf t slot low = let place : t.width + (slot - t.width) ≡ slot = omega (arith, low) in ap (beat_at t.slots.items) place

pub least_there : (t : BeatTree) (slot : ℕ) → t.width ≤ slot → AsRoot t slot → ¬ (beat_at t.slots.items 1 ≡ None) → comes_before (leaf t (slot - t.width)) None ≡ true
least_there t slot low s some = ap (λ b. comes_before b None) (at_leaf t slot low ∙ s.same) ∙ by_beat (beat_at t.slots.items 1) some
  where
    by_beat : (b : Option Beat) → ¬ (b ≡ None) → comes_before b None ≡ true
    by_beat None some = absurd (some refl)
    by_beat (Some b) some = refl

pub least_is : (t : BeatTree) (slot : ℕ) → t.width ≤ slot → AsRoot t slot → (j : ℕ) → comes_before (leaf t j) (leaf t (slot - t.width)) ≡ false
least_is t slot low s j =
    let root = beat_at t.slots.items 1 in
    ap (comes_before (leaf t j)) (at_leaf t slot low ∙ s.same) ∙ none_below t.slots.items root (t.width + j) t.tidy (t.width, long_is t) (itself root) (let some = t.some in omega (arith, some))

pub none_at_all : (t : BeatTree) → beat_at t.slots.items 1 ≡ None → (j : ℕ) → leaf t j ≡ None
none_at_all t none j =
    none_comes (leaf t j) (none_below t.slots.items None (t.width + j) t.tidy (t.width, long_is t) (ap (λ b. comes_before b None) none) (let some = t.some in omega (arith, some)))

pub none_of : (b : Option Beat) → is_some b ≡ false → b ≡ None
none_of None is = refl
none_of (Some b) is = cc

pub some_of : (b : Option Beat) → is_some b ≡ true → b ≡ None → ⊥
some_of None is none = cc
some_of (Some b) is none = cc
