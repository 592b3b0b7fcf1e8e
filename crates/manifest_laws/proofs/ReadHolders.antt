-- A holder that is read is readable: nobody, the identity of a controller, or a text that is no identity.
use Rattle.std.proofs.Common.{◌≡◌, ℕ, zero, suc, ◌+◌, ◌-◌, ◌*◌, ◌<◌, ◌≤◌, ◌==◌, ◌&&◌, nat_le, nat_lt, Bool, true, false, cond, List, [], ◌∷◌, length, reverse, take, drop, position, slice_get, Option, Some, None, unwrap_or, option_and_then, refl, sym, ap, ◌∙◌, arith, leb-true, ltb-true, eqb-true}
use Rattle.std.specs.Char.{is_ascii_digit}
use Rattle.std.specs.List.{position_or_len}
use Rattle.std.proofs.lemmas.Bool.{and_parts}
use Rattle.std.proofs.lemmas.Bool.Decides.{nat_tests}
use Rattle.kube_base.specs.Names.{number_of}
use Rattle.kube_objects.specs.declared.lease.Holder.{Holder}
use Rattle.kube_objects.specs.declared.lease.Holder.TheVariants as holders
use Rattle.manifest_json.specs.Faults.{◌>>=◌}
use Rattle.manifest_json.specs.Fields.{Texts}
use Rattle.manifest_json.specs.Readable.{AreHeld, IsHeld, IsReadableHolder}
use Rattle.manifest_json.specs.Walk.{number_onto, incarnation_of, process_of, identity_from, identity_behind, identity_of, holder_or, holder_of}
use Rattle.manifest_laws.proofs.Getting.{Has, done, and_then, by_test}
use Rattle.manifest_json.proofs.Places.{hit}
use Rattle.manifest_laws.proofs.Growing.{Grows-none, identity_of-grows}
use Rattle.manifest_laws.proofs.ReadFields.{Reads, numbered-reads}

-- ---- incarnations

onto-in : (n : ℕ) (ds : List ℕ) → n ≤ 4_294_967_295 → Has (λ m. (n ≤ m) × (m ≤ 4_294_967_295)) (number_onto n ds)
onto-in n [] few = (omega arith, few)
onto-in n (d ∷ ds) few = by (is_ascii_digit d && nat_le next 4_294_967_295) refl (onto-in next ds)
  where
    next : ℕ
    next = 10 * n + (d - 48)

    raise : (o : Option ℕ) → Has (λ m. (next ≤ m) × (m ≤ 4_294_967_295)) o → Has (λ m. (n ≤ m) × (m ≤ 4_294_967_295)) o
    raise None h = tt
    raise (Some m) h = (omega (arith, h.0), h.1)

    by : (b : Bool) → (is_ascii_digit d && nat_le next 4_294_967_295) ≡ b → (next ≤ 4_294_967_295 → Has (λ m. (next ≤ m) × (m ≤ 4_294_967_295)) (number_onto next ds))
        → Has (λ m. (n ≤ m) × (m ≤ 4_294_967_295)) (cond b (number_onto next ds) None)
    by true e rest = raise (number_onto next ds) (rest (leb-true next 4_294_967_295 (and_parts (is_ascii_digit d) (nat_le next 4_294_967_295) e).1))
    by false e rest = tt

incarnation-in : (ds : List ℕ) → Has (λ n. (1 ≤ n) × (n ≤ 4_294_967_295)) (incarnation_of ds)
incarnation-in [] = tt
incarnation-in (d ∷ ds) = by_zero (d == 48) refl
  where
    first : ℕ
    first = 10 * 0 + (d - 48)

    raise : (o : Option ℕ) → 1 ≤ first → Has (λ m. (first ≤ m) × (m ≤ 4_294_967_295)) o → Has (λ m. (1 ≤ m) × (m ≤ 4_294_967_295)) o
    raise None some h = tt
    raise (Some m) some h = (omega (arith, h.0, some), h.1)

    above : (d : ℕ) → 48 ≤ d → (d == 48) ≡ false → 1 ≤ 10 * 0 + (d - 48)
    above d least other = grind (arith, nat_tests)

    by : (b : Bool) → (is_ascii_digit d && nat_le first 4_294_967_295) ≡ b → (d == 48) ≡ false → Has (λ n. (1 ≤ n) × (n ≤ 4_294_967_295)) (cond b (number_onto first ds) None)
    by true e other =
        let parts = and_parts (is_ascii_digit d) (nat_le first 4_294_967_295) e in
        let digit = and_parts (nat_le 48 d) (nat_le d 57) parts.0 in
        raise (number_onto first ds) (above d (leb-true 48 d digit.0) other) (onto-in first ds (leb-true first 4_294_967_295 parts.1))
    by false e other = tt

    by_zero : (b : Bool) → (d == 48) ≡ b → Has (λ n. (1 ≤ n) × (n ≤ 4_294_967_295)) (cond b None (number_onto 0 (d ∷ ds)))
    by_zero true e = tt
    by_zero false e = by (is_ascii_digit d && nat_le first 4_294_967_295) refl e

-- ---- processes

held-at : (names : Texts) (known : List ℕ) (place : ℕ) → AreHeld names known → place < length known → IsHeld names (unwrap_or (slice_get known place) 0)
held-at names [] place held within = absurd (omega arith)
held-at names (k ∷ known) zero held within = held.0
held-at names (k ∷ known) (suc place) held within = held-at names known place held.1 (omega arith)

-- a place among the known numbers: the first of its number, which is held
abbrev IsPlace : Texts → List ℕ → ℕ → Type 0
IsPlace names known place =
    IsHeld names (unwrap_or (slice_get known place) 0) × (position (λ other. unwrap_or (slice_get known place) 0 == other) known ≡ Some place)

place-first : (names : Texts) (known : List ℕ) → AreHeld names known → (number : ℕ) → Has (IsPlace names known) (position (λ other. number == other) known)
place-first names known held number = by (nat_lt place (length known)) refl
  where
    place : ℕ
    place = position_or_len (λ other. number == other) known

    by : (b : Bool) → nat_lt place (length known) ≡ b → Has (IsPlace names known) (cond b (Some place) None)
    by true e =
        let within = ltb-true place (length known) e in
        let same : number ≡ unwrap_or (slice_get known place) 0 = eqb-true _ _ (hit (λ other. number == other) known 0 within) in
        (held-at names known place held within, ap (λ n. position (λ other. n == other) known) (sym same) ∙ ap (λ b. cond b (Some place) None) e)
    by false e = tt

process-place : (names : Texts) (known : List ℕ) → AreHeld names known → (name : List ℕ) → Has (IsPlace names known) (process_of names known name)
process-place names known held name = by (number_of names name)
  where
    by : (o : Option ℕ) → Has (IsPlace names known) (option_and_then (λ number. position (λ other. number == other) known) o)
    by None = tt
    by (Some number) = place-first names known held number

-- ---- identities and holders

identity-readable : (names : Texts) (known : List ℕ) → AreHeld names known → (text : List ℕ) → Has (IsReadableHolder names known) (identity_of names known text)
identity-readable names known held text = by (position (λ byte. byte == 95) (reverse text))
  where
    parts : (place incarnation : Option ℕ) → Has (IsPlace names known) place → Has (λ n. (1 ≤ n) × (n ≤ 4_294_967_295)) incarnation → Has (IsReadableHolder names known) (identity_from place incarnation)
    parts None incarnation p i = tt
    parts (Some place) None p i = tt
    parts (Some place) (Some n) p i = (p.0, p.1, i.0, i.1)

    by : (o : Option ℕ) → Has (IsReadableHolder names known) (identity_behind names known text o)
    by None = tt
    by (Some n) = parts _ _ (process-place names known held (take (length text - n - 1) text)) (incarnation-in (drop (length text - n) text))

pub holder-reads : (names : Texts) (known : List ℕ) → AreHeld names known → (text : List ℕ) → Reads names (λ ns h. IsReadableHolder ns known h) (holder_of names known text)
unfolding holder_of
holder-reads names known held text =
    by_test (length text == 0) _ _ (λ e. done _ (Grows-none names, tt)) (λ e. by e (identity_of names known text) refl (identity-readable names known held text))
  where
    by : (length text == 0) ≡ false → (o : Option Holder) → identity_of names known text ≡ o → Has (IsReadableHolder names known) o → Reads names (λ ns h. IsReadableHolder ns known h) (holder_or names text o)
    by some (Some holder) is h = done _ (Grows-none names, h)
    by some None is h =
        and_then (numbered-reads names text) (λ number n.
        done _ (n.0, (n.1.0, ap (λ t. length t == 0) n.1.1 ∙ some, ap (identity_of number.1 known) n.1.1 ∙ identity_of-grows n.0 known text held ∙ is)))
