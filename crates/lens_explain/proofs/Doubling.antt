-- Keys that are there twice, one byte further.
use Rattle.std.proofs.Common.{◌≡◌, ℕ, zero, suc, ◌+◌, ◌<◌, List, [], ◌∷◌, ◌++◌, length, take, drop, get_or, Option, Some, None, refl, sym, ap, subst, ◌∙◌, append_assoc, ◌≤◌, arith}
use Rattle.std.proofs.lemmas.List.{drop_all, append-nil, length-append, take-append-le}
use Rattle.std.specs.List.{AllZip}
use Rattle.lens_explain.specs.declared.scan.Scan.{Scan}
use Rattle.lens_explain.specs.declared.twice.Twice.{Twice}
use Rattle.lens_explain.specs.Keys.{KeyAt, key_at, keys_from, opened, place_among, twice_at, twice_behind}
use Rattle.lens_explain.specs.Marks.{mark_of, scanned}
use Rattle.lens_explain.proofs.Steps.{keys-more}

pub zip-push : {X Y : Type 0} (R : X → Y → Type 0) (xs : List X) (ys : List Y) (x : X) (y : Y) → AllZip R xs ys → R x y → AllZip R (xs ++ x ∷ []) (ys ++ y ∷ [])
zip-push R [] [] x y all here = (here, tt)
zip-push R [] (z ∷ ys) x y all here = absurd all
zip-push R (z ∷ xs) [] x y all here = absurd all
zip-push R (a ∷ xs) (b ∷ ys) x y all here = (all.0, zip-push R xs ys x y all.1 here)

take-again : {X : Type 0} (n : ℕ) (a b : List X) → take n (take n a ++ b) ≡ take n (a ++ b)
take-again zero a b = refl
take-again (suc n) [] b = refl
take-again (suc n) (x ∷ a) b = ap (λ l. x ∷ l) (take-again n a b)

take-whole : {X : Type 0} (n : ℕ) (xs : List X) → length xs ≤ n → take n xs ≡ xs
take-whole zero [] few = refl
take-whole (suc n) [] few = refl
take-whole zero (x ∷ xs) few = absurd (omega arith)
take-whole (suc n) (x ∷ xs) few = ap (λ l. x ∷ l) (take-whole n xs (omega arith))

-- nothing is added, and the first ones stay
pub none_stays : {X : Type 0} (n : ℕ) (xs : List X) → length xs ≤ n → xs ≡ take n (xs ++ [])
none_stays n xs few = sym (ap (take n) (append-nil xs) ∙ take-whole n xs few)

-- there is no room for more
pub full_stays : {X : Type 0} (n : ℕ) (xs ys : List X) → length xs ≤ n → n ≤ length xs → xs ≡ take n (xs ++ ys)
full_stays n xs ys few many = sym (take-append-le n xs ys many ∙ take-whole n xs few)

-- there is room for one more
pub room_for_one : {X : Type 0} (n : ℕ) (xs : List X) (x : X) → length xs < n → xs ++ x ∷ [] ≡ take n (xs ++ x ∷ [])
room_for_one n xs x few = sym (take-whole n (xs ++ x ∷ []) (omega (arith, length-append xs (x ∷ []))))

module _ (input : List ℕ) (place byte : ℕ) (scan scan2 : Scan) (outer outer2 : List ℕ) (earlier : List KeyAt) (within : place < length input) (is : byte ≡ get_or input place 0)
    (s : scan2 ≡ scanned scan place byte) (o : outer2 ≡ opened (mark_of scan.side byte) place outer) where
  abbrev rest : List KeyAt
  rest = keys_from input (place + 1) (drop (place + 1) input) scan2 outer2

  -- where no key ends here
  pub none-more : (found whole : List Twice) → None ≡ key_at input (mark_of scan.side byte) scan.last outer
      → take 20 (found ++ twice_behind earlier (keys_from input place (drop place input) scan outer)) ≡ whole
      → take 20 (found ++ twice_behind earlier rest) ≡ whole
  none-more found whole none so_far =
      ap (λ ks. take 20 (found ++ twice_behind earlier ks)) (sym (keys-more input place byte scan scan2 outer outer2 None within is s o none)) ∙ so_far

  -- where one does
  pub some-more : (key : KeyAt) (before : Option ℕ) (found found2 whole : List Twice) → Some key ≡ key_at input (mark_of scan.side byte) scan.last outer
      → before ≡ place_among earlier key → found2 ≡ take 20 (found ++ twice_at key before)
      → take 20 (found ++ twice_behind earlier (keys_from input place (drop place input) scan outer)) ≡ whole
      → take 20 (found2 ++ twice_behind (key ∷ earlier) rest) ≡ whole
  some-more key before found found2 whole some known added so_far =
      let more = twice_behind (key ∷ earlier) rest in
      ap (λ f. take 20 (f ++ more)) (added ∙ ap (λ b. take 20 (found ++ twice_at key b)) known)
      ∙ take-again 20 (found ++ twice_at key (place_among earlier key)) more
      ∙ ap (take 20) (append_assoc found (twice_at key (place_among earlier key)) more)
      ∙ ap (λ ks. take 20 (found ++ twice_behind earlier ks)) (sym (keys-more input place byte scan scan2 outer outer2 (Some key) within is s o some)) ∙ so_far

take-few : {X : Type 0} (n : ℕ) (xs : List X) → length (take n xs) ≤ n
take-few zero xs = omega arith
take-few (suc n) [] = omega arith
take-few (suc n) (x ∷ xs) = let few : length (take n xs) ≤ n = take-few n xs in omega arith

pub few-of : (found all : List Twice) → found ≡ take 20 all → length found ≤ 20
few-of found all is = subst (λ f. length f ≤ 20) (sym is) (take-few 20 all)

-- behind the last byte
pub whole-of : (input : List ℕ) (place : ℕ) (scan : Scan) (outer : List ℕ) (earlier : List KeyAt) (found whole : List Twice) → length input ≤ place → length found ≤ 20
    → take 20 (found ++ twice_behind earlier (keys_from input place (drop place input) scan outer)) ≡ whole → found ≡ whole
whole-of input place scan outer earlier found whole past few so_far =
    none_stays 20 found few ∙ ap (λ l. take 20 (found ++ twice_behind earlier (keys_from input place l scan outer))) (sym (drop_all place input past)) ∙ so_far
