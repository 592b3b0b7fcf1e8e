-- The ways through a tree: across it, and down to a leaf.
use Rattle.std.proofs.Common.{◌≡◌, ◌≢◌, ℕ, zero, suc, ◌+◌, ◌*◌, ◌/◌, ◌%◌, ◌<◌, ◌≤◌, List, true, false, Option, None, length, refl, ap, sym, ◌∙◌, subst, arith, ◌⊎◌, inl, inr}
use Rattle.std.proofs.lemmas.Bool.{cases_eq, cases_lt}
use Rattle.kube_base.specs.declared.numbers.Beat.{Beat}
use Rattle.beat_tree.specs.Tidy.{IsAcross, IsFirstBelow, IsTidy, beat_at, comes_before, doubled, earlier, up}
use Rattle.beat_tree.proofs.Slots.{below_child, neither_left, neither_right, then_right, past_is}

pub up_less : (d x : ℕ) → up d x ≤ x
up_less zero x = omega arith
up_less (suc d) x = let less = up_less d x in omega (arith, less)

up_grows : (d x y : ℕ) → x ≤ y → up d x ≤ up d y
up_grows zero x y h = h
up_grows (suc d) x y h = let less = up_grows d x y h in omega (arith, less)

pub doubled_some : (n : ℕ) → 1 ≤ doubled n
doubled_some zero = omega arith
doubled_some (suc n) = let some = doubled_some n in omega (arith, some)

-- the first and the last slot of a level; above the root there is none
data Level (first last : ℕ) : Type 0 where
  Within : (e : ℕ) → first ≡ doubled e → last + 1 ≡ 2 * doubled e → Level first last
  Past : first ≡ 0 → last ≡ 0 → Level first last

level_up : (a b : ℕ) → Level a b → Level (a / 2) (b / 2)
level_up a b (Within zero first last) = Past (omega (arith, first)) (omega (arith, last))
level_up a b (Within (suc e) first last) = Within e (omega (arith, first)) (omega (arith, last))
level_up a b (Past first last) = Past (omega (arith, first)) (omega (arith, last))

level : (width depth last d : ℕ) → width ≡ doubled depth → last + 1 ≡ 2 * width → Level (up d width) (up d last)
level width depth last zero power is = Within depth power (omega (arith, is, power))
level width depth last (suc d) power is = level_up (up d width) (up d last) (level width depth last d power is)

-- the leaves from `start` to `last` that come before those below a slot, so many steps up, come no sooner
abbrev pub Passed : List (Option Beat) → Option Beat → ℕ → ℕ → ℕ → ℕ → Type 0
Passed xs before last start d slot = (x : ℕ) → start ≤ x → x ≤ last → up d x < slot → comes_before (beat_at xs x) before ≡ false

-- a slot so many steps above the leaves, not left of `start`
pub record Here (xs : List (Option Beat)) (before : Option Beat) (last start d slot : ℕ) : Type 0 where
  pub passed : Passed xs before last start d slot
  pub begun : ((d ≡ 0) × (slot ≡ start)) ⊎ (up d start < slot)
  pub within : slot ≤ up d last

-- the slot after such a one, or the end of the level
pub record After (xs : List (Option Beat)) (before : Option Beat) (last start d slot : ℕ) : Type 0 where
  pub passed : Passed xs before last start d slot
  pub begun : up d start < slot
  pub within : slot ≤ up d last + 1

pub here_first : (xs : List (Option Beat)) (before : Option Beat) (last start : ℕ) → start ≤ last → Here xs before last start 0 start
here_first xs before last start within = record { passed = λ x more less early. absurd (omega (arith, more, early)); begun = inl (refl, refl); within = within }

-- ---- how the slots go on

below_least : (e slot next : ℕ) → IsFirstBelow e slot next → next ≤ slot
below_least zero slot next is = omega (arith, is)
below_least (suc e) slot next is = let least = below_least e slot (2 * next) is in omega (arith, least)

pub across_least : (slot next : ℕ) → IsAcross slot next → next ≤ slot + 1
across_least slot next a = below_least a.0.0 (slot + 1) next a.0.1

-- from an odd slot it goes up
pub across_up : (slot next half : ℕ) → slot ≡ 2 * half + 1 → IsAcross slot next → 2 * next ≤ slot + 1
across_up slot next half odd a = by_steps a.0.0 a.0.1
  where
    by_steps : (e : ℕ) → IsFirstBelow e (slot + 1) next → 2 * next ≤ slot + 1
    by_steps zero is = let other = a.1.1 in absurd (omega (arith, is, odd, other))
    by_steps (suc e) is = below_least e (slot + 1) (2 * next) is

-- the number that each step across makes less
pub across_smaller : (slot next : ℕ) → IsAcross slot next → ¬ (next ≡ 1) → 1 ≤ slot → next + 2 * ((next + 1) % 2) < slot + 2 * ((slot + 1) % 2)
across_smaller slot next a apart some = by_side (cases_eq slot (2 * (slot / 2)))
  where
    half : ℕ
    half = a.1.0

    odd : next ≡ 2 * half + 1
    odd = a.1.1

    even_next : (next + 1) % 2 ≡ 0
    even_next = omega (arith, odd)

    by_side : (slot ≡ 2 * (slot / 2)) ⊎ (slot ≢ 2 * (slot / 2)) → next + 2 * ((next + 1) % 2) < slot + 2 * ((slot + 1) % 2)
    by_side (inl e) = let least = across_least slot next a in let one : (slot + 1) % 2 ≡ 1 = omega (arith, e) in omega (arith, least, one, even_next)
    by_side (inr ne) =
        let e : slot ≡ 2 * (slot / 2) + 1 = omega (arith, ne) in
        let least = across_up slot next (slot / 2) e a in
        omega (arith, least, even_next, odd, apart)

module _ (xs : List (Option Beat)) (before : Option Beat) (width depth last start : ℕ) (long : length xs ≡ 2 * width) (power : width ≡ doubled depth) (end : last + 1 ≡ 2 * width) (from : width ≤ start) (tidy : IsTidy xs) where
  abbrev H : ℕ → ℕ → Type 0
  H d slot = Here xs before last start d slot

  abbrev A : ℕ → ℕ → Type 0
  A d slot = After xs before last start d slot

  even : (n : ℕ) × (length xs ≡ 2 * n)
  even = (width, long)

  under : (d x : ℕ) → 1 ≤ up d x → x ≤ last → comes_before (beat_at xs (up d x)) before ≡ false → comes_before (beat_at xs x) before ≡ false
  under zero x some within h = h
  under (suc d) x some within h =
      let less = up_less d x in
      under d x (omega (arith, some)) within (below_child xs before (up d x) tidy (omega (arith, some)) (omega (arith, less, within, end, long)) even h)

  up_start : (d : ℕ) → (d ≡ 0) → up d start ≡ start
  up_start d e = ap (λ n. up n start) e

  -- its leaves come no sooner
  pub past_one : (d slot : ℕ) → 1 ≤ slot → H d slot → comes_before (beat_at xs slot) before ≡ false → A d (slot + 1)
  past_one d slot some s none =
      record {
        passed = λ x more less early. by_place x more less (cases_lt (up d x) slot) early;
        begun = by_start s.begun;
        within = (let w = s.within in omega (arith, w));
      }
    where
      by_start : ((d ≡ 0) × (slot ≡ start)) ⊎ (up d start < slot) → up d start < slot + 1
      by_start (inl e) = let same = up_start d e.0 in let own = e.1 in omega (arith, same, own)
      by_start (inr less) = omega (arith, less)

      by_place : (x : ℕ) → start ≤ x → x ≤ last → (up d x < slot) ⊎ (slot ≤ up d x) → up d x < slot + 1 → comes_before (beat_at xs x) before ≡ false
      by_place x more less (inl sooner) early = s.passed x more less sooner
      by_place x more less (inr later) early =
          let same : slot ≡ up d x = omega (arith, later, early) in
          under d x (omega (arith, later, some)) less (subst (λ n. comes_before (beat_at xs n) before ≡ false) same none)

  -- the slot above it has the same leaves before its own
  pub rises : (d next : ℕ) → A d (2 * next) → A (suc d) next
  rises d next s =
      record {
        passed = λ x more less early. s.passed x more less (omega (arith, early));
        begun = (let b = s.begun in omega (arith, b));
        within = (let w = s.within in omega (arith, w));
      }

  pub risen : (e d slot next : ℕ) → IsFirstBelow e slot next → A d slot → (d_2 : ℕ) × A d_2 next
  risen zero d slot next is s = (d, subst (A d) is s)
  risen (suc e) d slot next is s = let more = risen e d slot (2 * next) is s in (suc more.0, rises more.0 next more.1)

  level_at : (d : ℕ) → Level (up d width) (up d last)
  level_at d = level width depth last d power end

  -- an odd slot that isn't the root is no end
  pub stays : (d half next : ℕ) → next ≡ 2 * half + 1 → ¬ (next ≡ 1) → A d next → H d next
  stays d half next odd apart s = record { passed = s.passed; begun = inr s.begun; within = by_level (level_at d) }
    where
      by_level : Level (up d width) (up d last) → next ≤ up d last
      by_level (Within e first last_is) = let w = s.within in omega (arith, w, odd, last_is)
      by_level (Past first last_is) = absurd (apart (let w = s.within in omega (arith, w, odd, last_is)))

  -- the root is the end of all
  pub ends : (d : ℕ) → A d 1 → (x : ℕ) → start ≤ x → x ≤ last → comes_before (beat_at xs x) before ≡ false
  ends d s x more less = s.passed x more less (by_level (level_at d))
    where
      first_low : up d width ≤ up d start
      first_low = up_grows d width start from

      x_low : up d x ≤ up d last
      x_low = up_grows d x last less

      by_level : Level (up d width) (up d last) → up d x < 1
      by_level (Within e first last_is) = let b = s.begun in let some = doubled_some e in absurd (omega (arith, b, first_low, first, some))
      by_level (Past first last_is) = omega (arith, x_low, last_is)

  -- ---- down

  -- above the leaves there is a step down
  pub falls : (d slot : ℕ) → slot < width → 1 ≤ slot → H d slot → (d_2 : ℕ) × (d ≡ suc d_2)
  falls zero slot less some s = absurd (by_start s.begun)
    where
      by_start : ((zero ≡ zero) × (slot ≡ start)) ⊎ (start < slot) → ⊥
      by_start (inl e) = let own = e.1 in omega (arith, own, less, from)
      by_start (inr sooner) = omega (arith, sooner, less, from)
  falls (suc d) slot less some s = (d, refl)

  sooner_start : (d slot : ℕ) → H (suc d) slot → up (suc d) start < slot
  sooner_start d slot s = by_start s.begun
    where
      by_start : ((suc d ≡ 0) × (slot ≡ start)) ⊎ (up (suc d) start < slot) → up (suc d) start < slot
      by_start (inl e) = absurd (omega (arith, e.0))
      by_start (inr sooner) = sooner

  pub left : (d slot : ℕ) → H (suc d) slot → H d (2 * slot)
  left d slot s =
      record {
        passed = λ x more less early. s.passed x more less (omega (arith, early));
        begun = inr (let b = sooner_start d slot s in omega (arith, b));
        within = (let w = s.within in omega (arith, w));
      }

  pub right : (d slot : ℕ) → 1 ≤ slot → H (suc d) slot → comes_before (beat_at xs (2 * slot)) before ≡ false → H d (2 * slot + 1)
  right d slot some s none =
      let next = past_one d (2 * slot) (omega (arith, some)) (left d slot s) none in
      stays d slot (2 * slot + 1) refl (λ e. omega (arith, e, some)) next

  -- at the leaves
  pub at_leaves : (d slot : ℕ) → width ≤ slot → H d slot → d ≡ 0
  at_leaves zero slot low s = refl
  at_leaves (suc d) slot low s = let w = s.within in let less = up_less d last in absurd (omega (arith, w, less, low, end))
