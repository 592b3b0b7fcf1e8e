-- The greatest rate of a zone since a beat: how it grows with each entry, and that it isn't above the primary one.
use Rattle.std.proofs.Common.{◌≡◌, ◌⊎◌, inl, inr, ℕ, nat_le, nat_lt, Bool, true, false, cond, List, [], ◌∷◌, refl, ap, arith, ◌≤◌, ◌<◌}
use Rattle.std.proofs.lemmas.Bool.{leb-true, le-leb}
use Rattle.kube_objects.specs.Document.{Doc}
use Rattle.kube_objects.specs.Entry.{Entry, Identity, Place}
use Rattle.history.specs.Premise.{more}
use Rattle.history.specs.Spacing.{zone_rate, greatest_since}
use Rattle.history_laws.specs.Tails.{In}
use Rattle.lease_laws.proofs.TwoPauses.{more_both}
use Rattle.spacing_laws.proofs.Spaced.{Tokens, rated_most}

-- ---- the greater of two

more_most : (a b most : ℕ) → a ≤ most → b ≤ most → more a b ≤ most
more_most a b most first second = by_test (nat_lt a b)
  where
    by_test : (t : Bool) → cond t b a ≤ most
    by_test true = second
    by_test false = first

-- ---- the greatest rate since a beat

-- by whether the newest entry is later than the beat
abbrev since_as : Bool → Identity → Place → ℕ → Entry → List Entry → ℕ
since_as b q place j e h = elim b [ true ↦ zone_rate q place (e ∷ h) | false ↦ more (zone_rate q place (e ∷ h)) (greatest_since q place j h) ]

-- it is that of the last pass at least
pub rate_since : (q : Identity) (place : Place) (j : ℕ) (h : List Entry) → zone_rate q place h ≤ greatest_since q place j h
rate_since q place j [] = omega arith
rate_since q place j (e ∷ h) = by_test (nat_le e.beat j)
  where
    by_test : (b : Bool) → zone_rate q place (e ∷ h) ≤ since_as b q place j e h
    by_test true = omega arith
    by_test false = (more_both (zone_rate q place (e ∷ h)) (greatest_since q place j h)).0

-- and just that where nothing is later
rate_now : (q : Identity) (place : Place) (j : ℕ) (h : List Entry) → ((f : Entry) → In f h → f.beat ≤ j) → greatest_since q place j h ≡ zone_rate q place h
rate_now q place j [] below = refl
rate_now q place j (e ∷ h) below = ap (λ b. since_as b q place j e h) (le-leb e.beat j (below e (inl refl)))

-- it is no less after an entry that leaves the rate, or is later
pub since_more : (q : Identity) (place : Place) (j : ℕ) (e : Entry) (h : List Entry) → ((f : Entry) → In f h → f.beat ≤ e.beat) → (zone_rate q place (e ∷ h) ≡ zone_rate q place h) ⊎ (j < e.beat)
    → greatest_since q place j h ≤ greatest_since q place j (e ∷ h)
since_more q place j e h last new = by_test (nat_le e.beat j) refl
  where
    early : e.beat ≤ j → (zone_rate q place (e ∷ h) ≡ zone_rate q place h) ⊎ (j < e.beat) → greatest_since q place j h ≤ zone_rate q place (e ∷ h)
    early le (inl same) = let now : greatest_since q place j h ≡ zone_rate q place h = rate_now q place j h (λ f at. omega (arith, last f at, le)) in omega (arith, now, same)
    early le (inr later) = absurd (omega (arith, le, later))

    by_test : (b : Bool) → nat_le e.beat j ≡ b → greatest_since q place j h ≤ since_as b q place j e h
    by_test true is = early (leb-true e.beat j is) new
    by_test false is = (more_both (zone_rate q place (e ∷ h)) (greatest_since q place j h)).1

-- and not above the primary one
pub since_most : (doc : Doc) (q : Identity) (place : Place) (j : ℕ) → doc.settings.secondary_rate ≤ doc.settings.primary_rate → (h : List Entry) → Tokens doc h → greatest_since q place j h ≤ doc.settings.primary_rate
since_most doc q place j cheap [] tokens = omega arith
since_most doc q place j cheap (e ∷ h) tokens = by_test (since_most doc q place j cheap h tokens.1) (nat_le e.beat j)
  where
    by_test : greatest_since q place j h ≤ doc.settings.primary_rate → (b : Bool) → since_as b q place j e h ≤ doc.settings.primary_rate
    by_test old true = rated_most doc q place cheap (e ∷ h) tokens
    by_test old false = more_most (zone_rate q place (e ∷ h)) (greatest_since q place j h) doc.settings.primary_rate (rated_most doc q place cheap (e ∷ h) tokens) old
