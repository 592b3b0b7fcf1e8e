-- An identity that is written is read back.
use Rattle.std.proofs.Common.{◌≡◌, ℕ, ◌+◌, ◌-◌, ◌*◌, ◌/◌, ◌%◌, ◌<◌, ◌≤◌, ◌==◌, ◌&&◌, not, nat_le, Bool, true, false, cond, List, [], ◌∷◌, ◌++◌, length, reverse, take, drop, get_or, position, slice_get, unwrap_or, codes, Some, None, option_and_then, Ok, refl, sym, ap, ◌∙◌, arith, append_assoc, length-append}
use Rattle.std.specs.Char.{is_ascii_digit}
use Rattle.std.specs.Fmt.{decimal}
use Rattle.std.specs.List.{position_or_len}
use Rattle.std.proofs.lemmas.Bool.{le-leb, lt-ltb}
use Rattle.std.proofs.lemmas.Bool.Decides.{nat_tests}
use Rattle.std.proofs.lemmas.Fmt.{decimal_by_steps, first_decimal}
use Rattle.std.proofs.lemmas.List.{reverse-append, length-reverse}
use Rattle.kube_base.specs.Names.{number_of, EachOnce}
use Rattle.kube_objects.specs.declared.lease.Holder.{Holder}
use Rattle.kube_objects.specs.declared.lease.Holder.TheVariants as holders
use Rattle.manifest_json.specs.Faults.{◌>>=◌}
use Rattle.manifest_json.specs.Fields.{Texts}
use Rattle.manifest_json.specs.Walk.{number_onto, incarnation_of, process_of, identity_from, identity_behind, identity_of, holder_or, holder_of}
use Rattle.manifest_json.specs.Written.{text_of, holder_text}
use Rattle.manifest_json.specs.Readable.{IsReadableHolder}
use Rattle.manifest_json.proofs.FieldsBack.{there, numbered-back}

digit_in : (c : ℕ) → 48 ≤ c → c ≤ 57 → is_ascii_digit c ≡ true
digit_in c low high = ap (λ b. b && nat_le c 57) (le-leb 48 c low) ∙ le-leb c 57 high

-- ---- the number

onto-digit : (m d : ℕ) → d < 10 → 10 * m + d ≤ 4_294_967_295 → number_onto m ((48 + d) ∷ []) ≡ Some (10 * m + d)
onto-digit m d small le =
    let back : 48 + d - 48 ≡ d = omega arith in
    ap (λ b. cond (b && nat_le (10 * m + (48 + d - 48)) 4_294_967_295) (Some (10 * m + (48 + d - 48))) None) (digit_in (48 + d) (omega arith) (omega arith))
    ∙ ap (λ e. cond (nat_le (10 * m + e) 4_294_967_295) (Some (10 * m + e)) None) back
    ∙ ap (λ b. cond b (Some (10 * m + d)) None) (le-leb (10 * m + d) 4_294_967_295 le)

onto-append : (n m : ℕ) (ds es : List ℕ) → number_onto n ds ≡ Some m → number_onto n (ds ++ es) ≡ number_onto m es
onto-append n m [] es h =
    let same : n ≡ m = cc in
    ap (λ k. number_onto k es) same
onto-append n m (d ∷ ds) es h = by (is_ascii_digit d && nat_le (10 * n + (d - 48)) 4_294_967_295) (onto-append (10 * n + (d - 48)) m ds es) h
  where
    by : (b : Bool) → (number_onto (10 * n + (d - 48)) ds ≡ Some m → number_onto (10 * n + (d - 48)) (ds ++ es) ≡ number_onto m es) → cond b (number_onto (10 * n + (d - 48)) ds) None ≡ Some m
        → cond b (number_onto (10 * n + (d - 48)) (ds ++ es)) None ≡ number_onto m es
    by true rest h = rest h
    by false rest h = absurd cc

abbrev Reads : ℕ → List ℕ → Type 0
Reads n ds = n ≤ 4_294_967_295 → number_onto 0 ds ≡ Some n

reads-more : (n : ℕ) (ds : List ℕ) → 10 ≤ n → Reads (n / 10) ds → Reads n (ds ++ ((48 + n % 10) ∷ []))
reads-more n ds ten h le =
    let whole : 10 * (n / 10) + n % 10 ≡ n = omega arith in
    onto-append 0 (n / 10) ds ((48 + n % 10) ∷ []) (h (omega arith)) ∙ onto-digit (n / 10) (n % 10) (omega arith) (omega arith) ∙ ap (λ m. Some m) whole

number-back : (n : ℕ) → n ≤ 4_294_967_295 → number_onto 0 (decimal n) ≡ Some n
number-back n le = decimal_by_steps Reads one reads-more n (omega arith) le
  where
    one : (m : ℕ) → m < 10 → Reads m ((48 + m) ∷ [])
    one m small le =
        let same : 10 * 0 + m ≡ m = omega arith in
        onto-digit 0 m small (omega arith) ∙ ap (λ k. Some k) same

incarnation-at : (ds : List ℕ) (n : ℕ) → 48 < get_or ds 0 0 → number_onto 0 ds ≡ Some n → incarnation_of ds ≡ Some n
incarnation-at [] n first h = absurd (omega arith)
incarnation-at (d ∷ ds) n first h = ap (λ b. cond b None (number_onto 0 (d ∷ ds))) (by d first) ∙ h
  where
    by : (d : ℕ) → 48 < d → (d == 48) ≡ false
    by d lt = grind (arith, nat_tests)

-- ---- the mark

abbrev is_mark : ℕ → Bool
is_mark byte = byte == 95

abbrev Unmarked : ℕ → List ℕ → Type 0
Unmarked n ds = (rest : List ℕ) → position_or_len is_mark (reverse ds ++ rest) ≡ length ds + position_or_len is_mark rest

no_mark : (c : ℕ) (rest : List ℕ) → c < 58 → position_or_len is_mark (c ∷ rest) ≡ 1 + position_or_len is_mark rest
no_mark c rest lt = ap (λ b. cond (not b) (1 + position_or_len is_mark rest) 0) (by c lt)
  where
    by : (c : ℕ) → c < 58 → (c == 95) ≡ false
    by c lt = grind (arith, nat_tests)

unmarked-one : (n : ℕ) → n < 10 → Unmarked n ((48 + n) ∷ [])
unmarked-one n lt rest = no_mark (48 + n) rest (omega arith)

unmarked-more : (n : ℕ) (ds : List ℕ) → 10 ≤ n → Unmarked (n / 10) ds → Unmarked n (ds ++ ((48 + n % 10) ∷ []))
unmarked-more n ds ten h rest =
    ap (λ xs. position_or_len is_mark (xs ++ rest)) (reverse-append ds ((48 + n % 10) ∷ []))
    ∙ no_mark (48 + n % 10) (reverse ds ++ rest) (omega arith)
    ∙ ap (λ m. 1 + m) (h rest)
    ∙ omega (arith, length-append ds ((48 + n % 10) ∷ []))

take_front : (xs ys : List ℕ) → take (length xs) (xs ++ ys) ≡ xs
take_front [] ys = refl
take_front (x ∷ xs) ys = ap (λ zs. x ∷ zs) (take_front xs ys)

drop_front : (xs ys : List ℕ) → drop (length xs) (xs ++ ys) ≡ ys
drop_front [] ys = refl
drop_front (x ∷ xs) ys = drop_front xs ys

module _ (name : List ℕ) (n : ℕ) (le : n ≤ 4_294_967_295) where
  abbrev identity_text : List ℕ
  identity_text = name ++ (95 ∷ decimal n)

  text-length : length identity_text ≡ length name + 1 + length (decimal n)
  text-length = omega (arith, length-append name (95 ∷ decimal n))

  marked : position_or_len is_mark (reverse identity_text) ≡ length (decimal n)
  marked =
      let turned : reverse identity_text ≡ reverse (decimal n) ++ (95 ∷ reverse name) = turn in
      ap (position_or_len is_mark) turned ∙ decimal_by_steps Unmarked unmarked-one unmarked-more n (omega arith) (95 ∷ reverse name) ∙ omega arith
    where
      turn : reverse identity_text ≡ reverse (decimal n) ++ (95 ∷ reverse name)
      turn =
          reverse-append name (95 ∷ decimal n)
          ∙ ap (λ xs. xs ++ reverse name) (reverse-append (95 ∷ []) (decimal n))
          ∙ append_assoc (reverse (decimal n)) (95 ∷ []) (reverse name)

  mark_place : position is_mark (reverse identity_text) ≡ Some (length (decimal n))
  mark_place =
      let within : position_or_len is_mark (reverse identity_text) < length (reverse identity_text) = omega (arith, marked, text-length, length-reverse identity_text) in
      ap (λ b. cond b (Some (position_or_len is_mark (reverse identity_text))) None) (lt-ltb _ _ within) ∙ ap (λ m. Some m) marked

  before : take (length identity_text - length (decimal n) - 1) identity_text ≡ name
  before =
      let at : length identity_text - length (decimal n) - 1 ≡ length name = omega (arith, text-length) in
      ap (λ k. take k identity_text) at ∙ take_front name (95 ∷ decimal n)

  behind : drop (length identity_text - length (decimal n)) identity_text ≡ decimal n
  behind =
      let at : length identity_text - length (decimal n) ≡ length (name ++ (95 ∷ [])) = omega (arith, text-length, length-append name (95 ∷ [])) in
      ap (λ k. drop k identity_text) at ∙ ap (drop (length (name ++ (95 ∷ [])))) (sym (append_assoc name (95 ∷ []) (decimal n))) ∙ drop_front (name ++ (95 ∷ [])) (decimal n)

  identity-back : (names : Texts) (known : List ℕ) (place number : ℕ) → 1 ≤ n → number_of names name ≡ Some number → position (λ other. number == other) known ≡ Some place
      → identity_of names known identity_text ≡ Some (holders.Proc (record { 0 = place }) n)
  identity-back names known place number one found known_at =
      let process : process_of names known name ≡ Some place = ap (λ o. option_and_then (λ m. position (λ other. m == other) known) o) found ∙ known_at in
      let incarnation : incarnation_of (decimal n) ≡ Some n = incarnation-at (decimal n) n (first_decimal n one (omega arith)) (number-back n le) in
      ap (identity_behind names known identity_text) mark_place
      ∙ ap (λ t. identity_from (process_of names known t) (incarnation_of (drop (length identity_text - length (decimal n)) identity_text))) before
      ∙ ap (λ t. identity_from (process_of names known name) (incarnation_of t)) behind
      ∙ ap (λ o. identity_from o (incarnation_of (decimal n))) process
      ∙ ap (λ o. identity_from (Some place) o) incarnation

  not_empty : (length identity_text == 0) ≡ false
  not_empty = ap (λ m. m == 0) text-length ∙ by (length name) (length (decimal n))
    where
      by : (a b : ℕ) → (a + 1 + b == 0) ≡ false
      by a b = grind (arith, nat_tests)

shape : (name digits : List ℕ) → name ++ codes "_" ++ digits ≡ name ++ (95 ∷ digits)
shape name digits = append_assoc name (95 ∷ []) digits

-- who holds a Lease is read back
pub holder-back : (names : Texts) (once : EachOnce names) (known : List ℕ) (h : Holder) → IsReadableHolder names known h → holder_of names known (holder_text names known h) ≡ Ok (h, names)
unfolding holder_of
holder-back names once known holders.Nobody r = refl
holder-back names once known (holders.Proc p n) r =
    let number = unwrap_or (slice_get known p.0) 0 in
    let name = text_of names number in
    let whole = name ++ (95 ∷ decimal n) in
    let found : number_of names name ≡ Some number = once number name (there names number r.0) in
    ap (λ t. cond (length t == 0) (Ok (holders.Nobody, names)) (holder_or names t (identity_of names known t))) (shape name (decimal n))
    ∙ ap (λ b. cond b (Ok (holders.Nobody, names)) (holder_or names whole (identity_of names known whole))) (not_empty name n r.3)
    ∙ ap (holder_or names whole) (identity-back name n r.3 names known p.0 number r.2 found r.1)
holder-back names once known (holders.Foreign n) r =
    ap (λ b. cond b (Ok (holders.Nobody, names)) (holder_or names (text_of names n) (identity_of names known (text_of names n)))) r.1
    ∙ ap (holder_or names (text_of names n)) r.2
    ∙ ap (λ a. a >>= λ number. Ok (holders.Foreign number.0, number.1)) (numbered-back names once n r.0)
