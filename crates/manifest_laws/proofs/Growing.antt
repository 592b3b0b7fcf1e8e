-- Names that grow: further names stand behind, so a number that is held keeps its text, and a manifest is read as before.
use Rattle.std.proofs.Common.{◌≡◌, ℕ, zero, suc, ◌+◌, ◌-◌, ◌<◌, ◌≤◌, ◌==◌, not, nat_lt, Bool, true, false, cond, List, [], ◌∷◌, ◌++◌, length, reverse, take, drop, position, slice_get, Option, Some, None, unwrap_or, option_and_then, refl, sym, ap, ◌∙◌, arith, append_assoc, length-append, ltb-true, ltb-false}
use Rattle.std.specs.List.{list_any, position_or_len}
use Rattle.std.specs.Str.{bytes_eq}
use Rattle.std.proofs.lemmas.Bool.{lt-ltb, le-ltb}
use Rattle.std.proofs.lemmas.Bool.Decides.{nat_tests}
use Rattle.std.proofs.lemmas.List.{append-nil}
use Rattle.std.proofs.lemmas.Slice.Eq.{bytes_eq-Decides}
use Rattle.kube_base.specs.Names.{number_of, number_in, with_name}
use Rattle.manifest_json.specs.Fields.{Texts}
use Rattle.manifest_json.specs.Readable.{AreHeld, IsHeld}
use Rattle.manifest_json.specs.Walk.{process_of, identity_from, identity_behind, identity_of, incarnation_of}
use Rattle.manifest_json.specs.Written.{text_of}
use Rattle.manifest_json.proofs.Places.{hit, any_within, none_within, place-front, place-past}

-- the new names are the old ones with further ones behind
pub record Grows (old new : Texts) : Type 0 where
  pub more : Texts
  pub is : new ≡ old ++ more

pub Grows-none : (names : Texts) → Grows names names
Grows-none names = record { more = []; is = sym (append-nil names) }

pub Grows-then : {a b c : Texts} → Grows a b → Grows b c → Grows a c
Grows-then {a} g h = record { more = g.more ++ h.more; is = h.is ∙ ap (λ x. x ++ h.more) g.is ∙ append_assoc a g.more h.more }

pub Grows-with : (names : Texts) (text : List ℕ) → Grows names (with_name names text)
unfolding with_name
Grows-with names text = by (list_any (bytes_eq text) names)
  where
    by : (b : Bool) → Grows names (cond b names (names ++ text ∷ []))
    by true = Grows-none names
    by false = record { more = text ∷ []; is = refl }

-- ---- lists

module _ {A : Type 0} where
  slice_get-front : (xs ys : List A) (i : ℕ) → i < length xs → slice_get (xs ++ ys) i ≡ slice_get xs i
  slice_get-front [] ys i within = absurd (omega arith)
  slice_get-front (x ∷ xs) ys zero within = refl
  slice_get-front (x ∷ xs) ys (suc i) within = slice_get-front xs ys i (omega arith)

  slice_get-end : (xs : List A) (y : A) → slice_get (xs ++ y ∷ []) (length xs) ≡ Some y
  slice_get-end [] y = refl
  slice_get-end (x ∷ xs) y = slice_get-end xs y

-- ---- numbers and their texts

pub IsHeld-grows : {a b : Texts} (g : Grows a b) (n : ℕ) → IsHeld a n → IsHeld b n
IsHeld-grows {a} g n held = omega (arith, held, ap length g.is, length-append a g.more)

pub text_of-grows : {a b : Texts} (g : Grows a b) (n : ℕ) → IsHeld a n → text_of b n ≡ text_of a n
text_of-grows {a} g n held = ap (λ names. text_of names n) g.is ∙ ap (λ o. unwrap_or o []) (slice_get-front a g.more n held)

-- a text that is numbered is held under its number
pub number_in-held : (names : Texts) (text : List ℕ) → IsHeld (with_name names text) (number_in names text) × (text_of (with_name names text) (number_in names text) ≡ text)
unfolding with_name number_in
number_in-held names text = by (list_any (bytes_eq text) names) refl
  where
    n : ℕ
    n = position_or_len (bytes_eq text) names

    by : (b : Bool) → list_any (bytes_eq text) names ≡ b → IsHeld (cond b names (names ++ text ∷ [])) n × (text_of (cond b names (names ++ text ∷ [])) n ≡ text)
    by true some =
        let within = any_within (bytes_eq text) names some in
        (within, sym ((bytes_eq-Decides text (text_of names n)).0 (hit (bytes_eq text) names [] within)))
    by false none =
        let last = none_within (bytes_eq text) names none in
        (omega (arith, last, length-append names (text ∷ [])), ap (text_of (names ++ text ∷ [])) last ∙ ap (λ o. unwrap_or o []) (slice_get-end names text))

-- ---- processes and identities

-- a number that none of these is
other_place : (n : ℕ) (names : Texts) (known : List ℕ) → AreHeld names known → length names ≤ n → position_or_len (λ other. n == other) known ≡ length known
other_place n names [] held above = refl
other_place n names (k ∷ known) held above =
    ap (λ b. cond (not b) (1 + position_or_len (λ other. n == other) known) 0) (apart n k (omega (arith, held.0, above)))
    ∙ omega (arith, other_place n names known held.1 above)
  where
    apart : (n k : ℕ) → k < n → (n == k) ≡ false
    apart n k less = grind (arith, nat_tests)

no_place : (n : ℕ) (names : Texts) (known : List ℕ) → AreHeld names known → length names ≤ n → position (λ other. n == other) known ≡ None
no_place n names known held above =
    let at = other_place n names known held above in
    ap (λ b. cond b (Some (position_or_len (λ other. n == other) known)) None) (le-ltb _ _ (omega (arith, at)))

-- whether there are further names says nothing of the processes
module _ (a more : Texts) (known : List ℕ) (held : AreHeld a known) (text : List ℕ) where
  place_of : Option ℕ → Option ℕ
  place_of found = option_and_then (λ n. position (λ other. n == other) known) found

  first : Texts → ℕ
  first names = position_or_len (bytes_eq text) names

  process_in : Texts → Bool → Option ℕ
  process_in names within = place_of (cond within (Some (first names)) None)

  process-past : (b : Bool) → length a ≤ first (a ++ more) → process_in (a ++ more) b ≡ None
  unfolding process_in place_of
  process-past true above = no_place (first (a ++ more)) a known held above
  process-past false above = refl

  process-same : (b : Bool) → nat_lt (first a) (length a) ≡ b → process_in (a ++ more) (nat_lt (first (a ++ more)) (length (a ++ more))) ≡ process_in a b
  unfolding process_in place_of first
  process-same true e =
      let within = ltb-true (position_or_len (bytes_eq text) a) (length a) e in
      let same = place-front (bytes_eq text) a more within in
      let still : nat_lt (position_or_len (bytes_eq text) (a ++ more)) (length (a ++ more)) ≡ true = lt-ltb _ _ (omega (arith, same, within, length-append a more)) in
      ap (process_in (a ++ more)) still ∙ ap (λ n. place_of (Some n)) same
  process-same false e = process-past _ (place-past (bytes_eq text) a more (ltb-false (position_or_len (bytes_eq text) a) (length a) e))

  process-appended : process_of (a ++ more) known text ≡ process_of a known text
  unfolding process_in place_of first number_of
  process-appended = process-same (nat_lt (first a) (length a)) refl

pub process_of-grows : {a b : Texts} (g : Grows a b) (known text : List ℕ) → AreHeld a known → process_of b known text ≡ process_of a known text
process_of-grows {a} g known text held = ap (λ names. process_of names known text) g.is ∙ process-appended a g.more known held text

pub identity_of-grows : {a b : Texts} (g : Grows a b) (known text : List ℕ) → AreHeld a known → identity_of b known text ≡ identity_of a known text
identity_of-grows {a} {b} g known text held = by (position (λ byte. byte == 95) (reverse text))
  where
    by : (o : Option ℕ) → identity_behind b known text o ≡ identity_behind a known text o
    by None = refl
    by (Some n) = ap (λ o. identity_from o (incarnation_of (drop (length text - n) text))) (process_of-grows g known (take (length text - n - 1) text) held)
