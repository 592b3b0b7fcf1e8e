-- Positions with what is known of each entry above.
use Rattle.history_laws.proofs.Tailed.{tail_all, tail_trans}
use Rattle.std.proofs.Common.{◌≡◌, ◌⊎◌, List, [], ◌∷◌, refl, sym, subst, inl, inr, length, ap, arith, ◌≤◌}
use Rattle.kube_objects.specs.Entry.{Entry}
use Rattle.history_laws.specs.Tails.{In, IsTail}

-- a position of a history, and each entry above it is such
abbrev pub Above : (Entry → Type 0) → List Entry → List Entry → Type 0
Above Q g [] = g ≡ []
Above Q g (e ∷ h) = (g ≡ e ∷ h) ⊎ (Q e × Above Q g h)

pub above_all : (Q : Entry → Type 0) (h : List Entry) → Above Q h h
above_all Q [] = refl
above_all Q (e ∷ h) = inl refl

pub above_trans : (Q : Entry → Type 0) (f g h : List Entry) → Above Q f g → Above Q g h → Above Q f h
above_trans Q f g [] a b = subst (Above Q f) b a
above_trans Q f g (e ∷ h) a (inl is) = subst (Above Q f) is a
above_trans Q f g (e ∷ h) a (inr b) = inr (b.0, above_trans Q f g h a b.1)

-- of two positions of a history, the one is above the other, or below it
pub above_meet : (Q : Entry → Type 0) (f g h : List Entry) → Above Q f h → IsTail g h → Above Q f g ⊎ IsTail g f
above_meet Q f g [] a at = inl (subst (Above Q f) (sym at) a)
above_meet Q f g (e ∷ h) (inl is) at = inr (subst (IsTail g) (sym is) at)
above_meet Q f g (e ∷ h) (inr a) (inl is) = inl (subst (Above Q f) (sym is) (inr a))
above_meet Q f g (e ∷ h) (inr a) (inr at) = above_meet Q f g h a.1 at

pub in_head : (e : Entry) (before h : List Entry) → IsTail (e ∷ before) h → In e h
in_head e before [] at = absurd (never at)
  where
    never : e ∷ before ≡ [] → ⊥
    never is = cc
in_head e before (x ∷ h) (inl is) = inl (same is)
  where
    same : e ∷ before ≡ x ∷ h → e ≡ x
    same is = cc
in_head e before (x ∷ h) (inr at) = inr (in_head e before h at)

pub tail_length : (g h : List Entry) → IsTail g h → length g ≤ length h
tail_length g [] at = let e : length g ≡ 0 = ap length at in omega (arith, e)
tail_length g (e ∷ h) (inl is) = let same : length g ≡ length (e ∷ h) = ap length is in omega (arith, same)
tail_length g (e ∷ h) (inr at) = omega (arith, tail_length g h at)

pub low_of : (Q : Entry → Type 0) (f g : List Entry) → Above Q f g → IsTail f g
low_of Q f [] a = a
low_of Q f (e ∷ g) (inl is) = inl is
low_of Q f (e ∷ g) (inr a) = inr (low_of Q f g a.1)

pub above_more : (P Q : Entry → Type 0) → ((e : Entry) → P e → Q e) → (f g : List Entry) → Above P f g → Above Q f g
above_more P Q more f [] a = a
above_more P Q more f (e ∷ g) (inl is) = inl is
above_more P Q more f (e ∷ g) (inr a) = inr (more e a.0, above_more P Q more f g a.1)

-- an entry right above a position is such where the position is above the lower one, and so are those below it
pub next_above : (Q : Entry → Type 0) (low g all : List Entry) (e : Entry) → Above Q low all → IsTail low g → IsTail (e ∷ g) all → Q e × Above Q low g
next_above Q low g all e above below at = by_place (above_meet Q low (e ∷ g) all above at)
  where
    longer : length (e ∷ g) ≤ length low → ⊥
    longer le = omega (arith, le, tail_length low g below)

    by_place : Above Q low (e ∷ g) ⊎ IsTail (e ∷ g) low → Q e × Above Q low g
    by_place (inl (inl is)) = absurd (longer (let same : length low ≡ length (e ∷ g) = ap length is in omega (arith, same)))
    by_place (inl (inr a)) = a
    by_place (inr at) = absurd (longer (tail_length (e ∷ g) low at))

-- a position of a history that begins with the entry
pub record Place (e : Entry) (h : List Entry) : Type 0 where
  pub before : List Entry
  pub position : IsTail (e ∷ before) h

pub place_of : (e : Entry) (h : List Entry) → In e h → Place e h
place_of e [] at = absurd at
place_of e (x ∷ h) (inl is) = record { before = h; position = inl (ap (λ e. e ∷ h) is) }
place_of e (x ∷ h) (inr at) = let p = place_of e h at in record { before = p.before; position = inr p.position }

-- what is above a position is above those between
pub above_cut : (Q : Entry → Type 0) (low all : List Entry) → Above Q low all → (g h : List Entry) → IsTail low g → IsTail g h → IsTail h all → Above Q g h
above_cut Q low all above g [] below at within = at
above_cut Q low all above g (x ∷ h) below (inl is) within = inl is
above_cut Q low all above g (x ∷ h) below (inr at) within =
    inr ((next_above Q low h all x above (tail_trans low g h below at) within).0, above_cut Q low all above g h below at (tail_trans h (x ∷ h) all (inr (tail_all h)) within))
