-- Names as a list of texts, and as what an index set keeps of them.
use Rattle.std.proofs.Common.{◌≡◌, ℕ, zero, suc, ◌+◌, ◌-◌, ◌^◌, ◌<◌, ◌≤◌, Bool, true, false, not, cond, ◌&&◌, ◌||◌, List, [], ◌∷◌, ◌++◌, Some, None, length, position, nat_lt, slice_get, codes, refl, sym, ap, subst, ◌∙◌, arith, length-append, length-take}
use Rattle.std.proofs.lemmas.List.{take-append-le}
use Rattle.std.proofs.lemmas.List.Folds.{list_all-append}
use Rattle.std.proofs.lemmas.List.Sums.{prefix_len-le-length}
use Rattle.std.proofs.lemmas.Bool.Decides.{Decides-ltb}
use Rattle.std.proofs.lemmas.Slice.Eq.{bytes_eq-Decides}
use Rattle.std.proofs.lemmas.Str.{IsUtf8-from_is_utf8, is_utf8-from_IsUtf8}
use Rattle.std.specs.List.{AllByRecursion, IsDistinct, list_any, list_all, position_or_len}
use Rattle.std.specs.Str.{IsUtf8, is_utf8, chars, bytes_eq}
use Rattle.indexmap.specs.IndexSet.{insert_key}
use Rattle.kube_base.specs.Names.{fixed_names, number_of, number_in, with_name, AreNames}

pub number_in-is : (names : List (List ℕ)) (text : List ℕ) → number_in names text ≡ position_or_len (bytes_eq text) names
unfolding number_in
number_in-is names text = refl

pub number_of-is : (names : List (List ℕ)) (text : List ℕ) → number_of names text ≡ position (bytes_eq text) names
unfolding number_of
number_of-is names text = refl

pub with_name-is : (names : List (List ℕ)) (text : List ℕ) → with_name names text ≡ insert_key bytes_eq names text
unfolding with_name
with_name-is names text = refl

held_at : (P : List ℕ → Type 0) (names : List (List ℕ)) (i : ℕ) (text : List ℕ) → AllByRecursion P names → slice_get names i ≡ Some text → P text
held_at P [] i text all e = absurd cc
held_at P (n ∷ ns) zero text all e = let same : n ≡ text = cc in subst P same all.0
held_at P (n ∷ ns) (suc i) text all e = held_at P ns i text all.1 e

place : (names : List (List ℕ)) (i : ℕ) (text : List ℕ) → IsDistinct bytes_eq names → slice_get names i ≡ Some text → (position_or_len (bytes_eq text) names ≡ i) × (i < length names)
unfolding IsDistinct
place [] i text d e = absurd cc
place (n ∷ ns) zero text d e =
    let same : text ≡ n = cc in
    let hit : bytes_eq text n ≡ true = (bytes_eq-Decides text n).1 same in
    (ap (λ b. cond (not b) (1 + position_or_len (bytes_eq text) ns) 0) hit, omega arith)
place (n ∷ ns) (suc i) text d e =
    let rest = place ns i text d.1 e in
    let other : bytes_eq n text ≡ false = held_at (λ b. bytes_eq n b ≡ false) ns i text d.0 e in
    let miss : bytes_eq text n ≡ false = by (bytes_eq text n) refl other in
    (ap (λ b. cond (not b) (1 + position_or_len (bytes_eq text) ns) 0) miss ∙ ap (λ m. 1 + m) rest.0 ∙ omega arith, omega (arith, rest.1))
  where
    by : (b : Bool) → bytes_eq text n ≡ b → bytes_eq n text ≡ false → bytes_eq text n ≡ false
    by false e2 h = e2
    by true e2 h =
        let is : text ≡ n = (bytes_eq-Decides text n).0 e2 in
        let hit : bytes_eq n text ≡ true = (bytes_eq-Decides n text).1 (sym is) in
        absurd (let no : true ≡ false = sym hit ∙ h in cc)

-- texts that differ are each found at their own place
pub number_of-held : (names : List (List ℕ)) (i : ℕ) (text : List ℕ) → IsDistinct bytes_eq names → slice_get names i ≡ Some text → number_of names text ≡ Some i
unfolding number_of
number_of-held names i text d e =
    let at = place names i text d e in
    found (position_or_len (bytes_eq text) names) at.0 at.1
  where
    found : (n : ℕ) → n ≡ i → i < length names → cond (nat_lt n (length names)) (Some n) None ≡ Some i
    found n same lt = rw same (ap (λ b. cond b (Some i) None) ((Decides-ltb _ _).1 lt))

found_place : (p : List ℕ → Bool) (xs : List (List ℕ)) (i : ℕ) → position p xs ≡ Some i → (position_or_len p xs ≡ i) × (position_or_len p xs < length xs)
found_place p xs i e = by (nat_lt (position_or_len p xs) (length xs)) refl e
  where
    by : (b : Bool) → nat_lt (position_or_len p xs) (length xs) ≡ b → cond b (Some (position_or_len p xs)) None ≡ Some i → (position_or_len p xs ≡ i) × (position_or_len p xs < length xs)
    by true t h = (cc, (Decides-ltb _ _).0 t)
    by false t h = absurd cc

any_found : (p : List ℕ → Bool) (xs : List (List ℕ)) → position_or_len p xs < length xs → list_any p xs ≡ true
any_found p [] h = absurd (omega arith)
any_found p (x ∷ xs) h = by (p x) refl (any_found p xs)
  where
    by : (b : Bool) → p x ≡ b → (position_or_len p xs < length xs → list_any p xs ≡ true) → (p x || list_any p xs) ≡ true
    by true e rest = ap (λ c. c || list_any p xs) e
    by false e rest =
        let h' : 1 + position_or_len p xs < length (x ∷ xs) = subst (λ c. cond (not c) (1 + position_or_len p xs) 0 < length (x ∷ xs)) e h in
        ap (λ c. c || list_any p xs) e ∙ rest (omega arith)

pub number_in-found : (names : List (List ℕ)) (text : List ℕ) (i : ℕ) → number_of names text ≡ Some i → number_in names text ≡ i
unfolding number_of number_in
number_in-found names text i e = (found_place (bytes_eq text) names i e).0

pub with_name-found : (names : List (List ℕ)) (text : List ℕ) (i : ℕ) → number_of names text ≡ Some i → with_name names text ≡ names
unfolding number_of with_name
with_name-found names text i e =
    let at = found_place (bytes_eq text) names i e in
    let there : list_any (bytes_eq text) names ≡ true = any_found (bytes_eq text) names at.1 in
    ap (λ b. cond b names (names ++ text ∷ [])) there

pub number_in-le : (names : List (List ℕ)) (text : List ℕ) → number_in names text ≤ length names
unfolding number_in
number_in-le names text = prefix_len-le-length (λ x. not (bytes_eq text x)) names

pub AreNames-with_name : (names : List (List ℕ)) (text : List ℕ) → AreNames names → IsUtf8 text → length names < 2 ^ 32 - 1 → AreNames (with_name names text)
unfolding with_name
AreNames-with_name names text h utf8 few = by (list_any (bytes_eq text) names)
  where
    long : 10 ≤ length names
    long = omega (arith, length-take 10 names, ap length h.fixed)

    by : (b : Bool) → AreNames (cond b names (names ++ text ∷ []))
    by true = h
    by false = record {
      fixed = take-append-le 10 names (text ∷ []) long ∙ h.fixed;
      text = list_all-append is_utf8 names (text ∷ []) ∙ rw (h.text, is_utf8-from_IsUtf8 text utf8);
      few = omega (arith, length-append names (text ∷ []));
    }

both : (a b : Bool) → (a && b) ≡ true → (a ≡ true) × (b ≡ true)
both true b h = (refl, h)
both false b h = absurd cc

-- the text of a number is UTF-8
pub held-IsUtf8 : (names : List (List ℕ)) (i : ℕ) (text : List ℕ) → list_all is_utf8 names ≡ true → slice_get names i ≡ Some text → IsUtf8 text
held-IsUtf8 [] i text all e = absurd cc
held-IsUtf8 (n ∷ ns) zero text all e =
    let same : n ≡ text = cc in
    subst IsUtf8 same (IsUtf8-from_is_utf8 n (both (is_utf8 n) (list_all is_utf8 ns) all).0)
held-IsUtf8 (n ∷ ns) (suc i) text all e = held-IsUtf8 ns i text (both (is_utf8 n) (list_all is_utf8 ns) all).1 e

-- a text that isn't UTF-8 is nowhere
absent_place : (names : List (List ℕ)) (text : List ℕ) → list_all is_utf8 names ≡ true → (IsUtf8 text → ⊥) → position_or_len (bytes_eq text) names ≡ length names
absent_place [] text all wrong = refl
absent_place (n ∷ ns) text all wrong = by (bytes_eq text n) refl (absent_place ns text (both (is_utf8 n) (list_all is_utf8 ns) all).1 wrong)
  where
    by : (b : Bool) → bytes_eq text n ≡ b → position_or_len (bytes_eq text) ns ≡ length ns → cond (not (bytes_eq text n)) (1 + position_or_len (bytes_eq text) ns) 0 ≡ length (n ∷ ns)
    by false e rest = rw (e, rest) (omega arith)
    by true e rest =
        let same : text ≡ n = (bytes_eq-Decides text n).0 e in
        absurd (wrong (subst IsUtf8 (sym same) (IsUtf8-from_is_utf8 n (both (is_utf8 n) (list_all is_utf8 ns) all).0)))

pub number_of-absent : (names : List (List ℕ)) (text : List ℕ) → list_all is_utf8 names ≡ true → (IsUtf8 text → ⊥) → number_of names text ≡ None
unfolding number_of
number_of-absent names text all wrong =
    let past : nat_lt (length names) (length names) ≡ false = grind arith in
    rw (absent_place names text all wrong, past) refl

-- the fixed names, numbered one after another
abbrev pub ten_names : List (List ℕ)
ten_names =
    with_name (with_name (with_name (with_name (with_name (with_name (with_name (with_name (with_name (with_name [] (codes "")) (codes "KubeletReady")) (codes "KubeletNotReady")) (codes "NodeStatusUnknown")) (codes "NodeStatusNeverUpdated")) (codes "node.kubernetes.io/not-ready")) (codes "node.kubernetes.io/unreachable")) (codes "kube-system")) (codes "kube-controller-manager")) (codes "kube-node-lease")

pub ten_names-fixed : ten_names ≡ fixed_names
unfolding with_name
ten_names-fixed = refl

pub AreNames-fixed : AreNames fixed_names
unfolding is_utf8 chars lib.Utf8.encode
AreNames-fixed = record { fixed = refl; text = refl; few = omega arith }
