-- The fixed names are names, and the name of a node is no identity.
use Rattle.std.proofs.Common.{◌≡◌, ℕ, zero, suc, ◌+◌, ◌<◌, ◌==◌, ◌&&◌, ◌||◌, nat_le, nat_lt, not, Bool, true, false, cond, List, [], ◌∷◌, ◌++◌, length, reverse, drop, get_or, slice_get, unwrap_or, position, Some, None, refl, sym, ap, ◌∙◌, subst, arith}
use Rattle.std.proofs.lemmas.Bool.{eqb-true, eq-eqb, lt-ltb, le-ltb}
use Rattle.std.proofs.lemmas.Bool.Decides.{nat_tests}
use Rattle.std.proofs.lemmas.List.{length-map, reverse-append, take-append-drop}
use Rattle.std.proofs.lemmas.List.Folds.{list_any-append}
use Rattle.std.proofs.lemmas.List.Elements.{recursion_from_All}
use Rattle.std.proofs.lemmas.Option.{slice_get-get_or}
use Rattle.std.specs.List.{All, AllByRecursion, IsDistinct, list_any, position_or_len}
use Rattle.kube_base.specs.declared.fixed.TheConstants.{KUBE_NODE_LEASE, KUBE_SYSTEM, KUBE_CONTROLLER_MANAGER, NOT_READY, UNREACHABLE}
use Rattle.kube_base.specs.Names.{AreNames, fixed_names}
use Rattle.kube_objects.specs.declared.lease.Holder.TheVariants as holder
use Rattle.kube_objects.specs.declared.script.Proc.{Proc}
use Rattle.history_laws.proofs.Plainly.{some_is, none_is, false_is, and_left, and_right, or_left, or_right, or_none}
use Rattle.manifest_json.proofs.Places.{none_within}
use Rattle.manifest_json.specs.Fields.{Texts, is_name, is_name_rest, may_follow, is_small_letter_or_digit}
use Rattle.manifest_json.specs.Readable.{IsHeld, IsFilled, IsNameNumber, IsReadableHolder}
use Rattle.manifest_json.specs.Walk.{identity_behind}
use Rattle.manifest_json.specs.Written.{text_of}
use Rattle.script_reader.specs.Lawful.{AreNamedApart}
use Rattle.script_reader.specs.Walk.{numbers_of}
use Rattle.naming_laws.proofs.Lists.{all_at}
use Rattle.naming_laws.specs.WellFormed.{IsIncarnation}

-- ---- fixed names

-- the names hold the fixed ones
pub record HoldsFixed (names : Texts) : Type 0 where
  pub held : IsHeld names KUBE_NODE_LEASE
  pub system : is_name (text_of names KUBE_SYSTEM) ≡ true
  pub manager : is_name (text_of names KUBE_CONTROLLER_MANAGER) ≡ true
  pub leases : is_name (text_of names KUBE_NODE_LEASE) ≡ true
  pub not_ready : IsFilled names NOT_READY
  pub unreachable : IsFilled names UNREACHABLE

-- whatever comes behind them
fixed_first : (rest : Texts) → HoldsFixed (fixed_names ++ rest)
fixed_first rest = record { held = omega arith; system = refl; manager = refl; leases = refl; not_ready = refl; unreachable = refl }

pub holds_fixed : (names : Texts) → AreNames names → HoldsFixed names
holds_fixed names are = subst HoldsFixed (ap (λ front. front ++ drop 10 names) (sym are.fixed) ∙ take-append-drop 10 names) (fixed_first (drop 10 names))

-- ---- a name has no mark of an identity

abbrev is_mark : ℕ → Bool
is_mark byte = byte == 95

-- no byte of a name is the mark
unmarked : (b : Bool) (byte last : ℕ) → (byte == 95) ≡ b → may_follow last byte ≡ true → (byte == 95) ≡ false
unmarked false byte last is follows = is
unmarked true byte last is follows = absurd (false_is (subst (λ n. may_follow last n ≡ true) (eqb-true byte 95 is) follows))

first_unmarked : (b : Bool) (byte : ℕ) → (byte == 95) ≡ b → is_small_letter_or_digit byte ≡ true → (byte == 95) ≡ false
first_unmarked false byte is small = is
first_unmarked true byte is small = absurd (false_is (subst (λ n. is_small_letter_or_digit n ≡ true) (eqb-true byte 95 is) small))

rest_unmarked : (last : ℕ) (text : List ℕ) → is_name_rest last text ≡ true → list_any is_mark text ≡ false
rest_unmarked last [] is = refl
rest_unmarked last (byte ∷ rest) is =
    ap (λ b. b || list_any is_mark rest) (unmarked (is_mark byte) byte last refl (and_left (may_follow last byte) (is_name_rest byte rest) is))
    ∙ rest_unmarked byte rest (and_right (may_follow last byte) (is_name_rest byte rest) is)

name_unmarked : (text : List ℕ) → is_name text ≡ true → list_any is_mark text ≡ false
name_unmarked [] is = refl
name_unmarked (byte ∷ rest) is =
    let short = nat_le (length rest) 252 in
    let small = is_small_letter_or_digit byte in
    let first = and_right short small (and_left (short && small) (is_name_rest byte rest) is) in
    ap (λ b. b || list_any is_mark rest) (first_unmarked (is_mark byte) byte refl first)
    ∙ rest_unmarked byte rest (and_right (short && small) (is_name_rest byte rest) is)

any_reverse : (p : ℕ → Bool) (xs : List ℕ) → list_any p xs ≡ false → list_any p (reverse xs) ≡ false
any_reverse p [] none = refl
any_reverse p (x ∷ xs) none =
    ap (list_any p) (reverse-append (x ∷ []) xs)
    ∙ list_any-append p (reverse xs) (x ∷ [])
    ∙ or_none (list_any p (reverse xs)) (p x || false) (any_reverse p xs (or_right (p x) (list_any p xs) none)) (or_none (p x) false (or_left (p x) (list_any p xs) none) refl)

no_place : (xs : List ℕ) → list_any is_mark xs ≡ false → position is_mark xs ≡ None
no_place xs none =
    let at : position_or_len is_mark xs ≡ length xs = none_within is_mark xs none in
    ap (λ n. cond (nat_lt n (length xs)) (Some n) None) at ∙ ap (λ b. cond b (Some (length xs)) None) (le-ltb (length xs) (length xs) (omega arith))

name_filled : (text : List ℕ) → is_name text ≡ true → (length text == 0) ≡ false
name_filled [] is = absurd (false_is is)
name_filled (byte ∷ rest) is = by (length rest)
  where
    by : (n : ℕ) → (suc n == 0) ≡ false
    by n = grind (arith, nat_tests)

-- the holder of a node's Lease is read as another text
pub foreign_name : (names : Texts) (known : List ℕ) (n : ℕ) → IsNameNumber names n → IsReadableHolder names known (holder.Foreign n)
foreign_name names known n is =
    let text = text_of names n in
    (is.0, name_filled text is.1, ap (identity_behind names known text) (no_place (reverse text) (any_reverse is_mark text (name_unmarked text is.1))))

-- ---- a controller as a holder

-- a number of a list in which none stands twice is found at its own place
own_place : (ns : List ℕ) (p n : ℕ) → IsDistinct (λ a b. a == b) ns → slice_get ns p ≡ Some n → (position_or_len (λ other. n == other) ns ≡ p) × (p < length ns)
unfolding IsDistinct
own_place [] p n distinct is = absurd (none_is n is)
own_place (m ∷ ns) zero n distinct is = (ap (λ b. cond (not b) (1 + position_or_len (λ other. n == other) ns) 0) (eq-eqb n m (sym (some_is m n is))), omega arith)
own_place (m ∷ ns) (suc p) n distinct is =
    let rest = own_place ns p n distinct.1 is in
    let other : (m == n) ≡ false = all_at (λ other. (m == other) ≡ false) ns p n distinct.0 is in
    (ap (λ b. cond (not b) (1 + position_or_len (λ other. n == other) ns) 0) (turned m n other) ∙ ap (λ k. 1 + k) rest.0 ∙ omega arith, omega (arith, rest.1))
  where
    turned : (a b : ℕ) → (a == b) ≡ false → (b == a) ≡ false
    turned a b apart = by (b == a) refl
      where
        by : (t : Bool) → (b == a) ≡ t → t ≡ false
        by false is = refl
        by true is = absurd (false_is (sym apart ∙ eq-eqb a b (sym (eqb-true b a is))))

pub controller_held : (names : Texts) (controllers : List Proc) (p i : ℕ) → All (λ p. IsNameNumber names p.name) controllers → AreNamedApart controllers → p < length controllers → IsIncarnation i
    → IsReadableHolder names (numbers_of controllers) (holder.Proc (record { 0 = p }) i)
controller_held names controllers p i named apart below incarnation = (held, found, incarnation.0, incarnation.1)
  where
    known : List ℕ
    known = numbers_of controllers

    number : ℕ
    number = unwrap_or (slice_get known p) 0

    within : p < length known
    within = omega (arith, below, length-map controllers (λ p. p.name))

    at : slice_get known p ≡ Some (get_or known p 0)
    at = slice_get-get_or known p 0 within

    is : slice_get known p ≡ Some number
    is = at ∙ ap (λ o. Some (unwrap_or o 0)) (sym at)

    names_held : (xs : List Proc) → AllByRecursion (λ p. IsNameNumber names p.name) xs → AllByRecursion (IsHeld names) (numbers_of xs)
    names_held [] all = tt
    names_held (x ∷ xs) all = (all.0.0, names_held xs all.1)

    held : IsHeld names number
    held = all_at (IsHeld names) known p number (names_held controllers (recursion_from_All (λ p. IsNameNumber names p.name) controllers named)) is

    found : position (λ other. number == other) known ≡ Some p
    found =
        let place = own_place known p number apart is in
        ap (λ n. cond (nat_lt n (length known)) (Some n) None) place.0 ∙ ap (λ b. cond b (Some p) None) (lt-ltb p (length known) place.1)
