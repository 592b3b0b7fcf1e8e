-- One more piece was given, or taken.
use Rattle.std.proofs.Common.{◌≡◌, ℕ, ◌+◌, ◌≤◌, List, [], ◌∷◌, ◌++◌, length, refl, take, drop, Option, Some, None, sym, ap, ◌∙◌, subst, append_assoc, take-append-drop, inl, inr, arith, length-append, IfSome, ◌↔◌}
use Rattle.std.proofs.lemmas.List.{append-nil, length-take}
use Rattle.byte_edge.specs.Bytes.{Gives, GaveFront, Gave, Known, Over, Rose, Taken, Took, TakesPiece, TookAll, TookAtMost, Untold, over}
use Rattle.byte_edge.proofs.Overs.{over-more, over-nothing}

pub gives-both : (before mid after : Taken) (xs ys : List ℕ) → Gives before mid xs → Gives mid after ys → Gives before after (xs ++ ys)
gives-both Untold mid after xs ys first second = subst (λ m. Gives m after ys) first second
gives-both (Known b) mid after xs ys first second =
    subst (λ m. Gives m after ys) first second ∙ ap Known (append_assoc b xs ys)
gives-both (Over borrow buffer count) mid after xs ys first second =
    let counts : (count + length xs) + length ys ≡ count + length (xs ++ ys) = omega (arith, length-append xs ys) in
    subst (λ m. Gives m after ys) first second
    ∙ ap (λ b. Over borrow b ((count + length xs) + length ys)) (over-more buffer count xs ys)
    ∙ ap (Over borrow (over buffer count (xs ++ ys))) counts

pub gave-more : (before mid after : Taken) (bytes rest : List ℕ) (n : ℕ) → GaveFront before mid bytes rest → Gives mid after (take n rest) → GaveFront before after bytes (drop n rest)
gave-more before mid after bytes rest n g more =
    record {
      front = g.front ++ take n rest;
      is = append_assoc g.front (take n rest) (drop n rest) ∙ ap (λ l. g.front ++ l) (take-append-drop n rest) ∙ g.is;
      gives = gives-both before mid after g.front (take n rest) g.gives more;
    }

pub gives-nothing : (before : Taken) → Gives before before []
gives-nothing Untold = refl
gives-nothing (Known b) = ap Known (sym (append-nil b))
gives-nothing (Over borrow buffer count) =
    let counts : count ≡ count + 0 = omega arith in
    ap (λ b. Over borrow b count) (sym (over-nothing buffer count)) ∙ ap (Over borrow (over buffer count [])) counts

-- nothing was given yet
pub gave-nothing : (before : Taken) (bytes : List ℕ) → Gave before before bytes
gave-nothing before bytes = (bytes, record { front = []; is = refl; gives = gives-nothing before })

empty : (xs : List ℕ) → length xs ≡ 0 → xs ≡ []
empty [] is = refl
empty (x ∷ xs) is = cc

-- nothing was taken yet
pub took-nothing : (before : Option (List ℕ)) → Took before before []
took-nothing None = refl
took-nothing (Some left) = (left, refl, refl)

pub took-more : (before mid after : Option (List ℕ)) (xs ys : List ℕ) → Took before mid xs → Took mid after ys → Took before after (xs ++ ys)
took-more None mid after xs ys first second = subst (λ m. Took m after ys) first second
took-more (Some left) mid after xs ys first second = joined (subst (λ m. Took m after ys) first.1 second)
  where
    joined : Took (Some first.0) after ys → Took (Some left) after (xs ++ ys)
    joined next = (next.0, next.1, append_assoc xs ys next.0 ∙ ap (λ l. xs ++ l) next.2 ∙ first.2)

abbrev IsEnd : ℕ → List ℕ → Type 0
IsEnd n left = (n ≡ 0) ↔ (left ≡ [])

-- at the end of input all was taken
pub took-all : (before mid after : Option (List ℕ)) (xs new : List ℕ) → Took before mid xs → TakesPiece mid after xs new 0 → TookAll before after new
took-all None mid after xs new first p = subst (λ m. Took m after p.piece) first p.took
took-all (Some left) mid after xs new first p =
    whole ((subst (λ m. IfSome m (λ l. IsEnd 0 l)) first.1 p.end).0 refl) (subst (λ m. Took m after p.piece) first.1 p.took)
  where
    whole : first.0 ≡ [] → Took (Some first.0) after p.piece → TookAll (Some left) after new
    whole is next =
        let none : p.piece ≡ [] = empty p.piece p.size in
        let rest : next.0 ≡ [] = subst (λ l. l ++ next.0 ≡ []) none (next.2 ∙ is) in
        (p.added ∙ ap (λ l. xs ++ l) (none ∙ sym is) ∙ first.2, next.1 ∙ ap (λ (l : List ℕ). Some l) rest)

pub took-piece : (before mid after : Option (List ℕ)) (xs new : List ℕ) (n : ℕ) → Took before mid xs → TakesPiece mid after xs new n → Took before after new
took-piece before mid after xs new n first p = subst (λ l. Took before after l) (sym p.added) (took-more before mid after xs p.piece first p.took)

pub took-at-most : (most size : ℕ) (before mid after : Option (List ℕ)) (xs : List ℕ) → length xs + size ≤ most → Took before mid xs → TookAtMost size mid after → TookAtMost most before after
took-at-most most size before mid after xs within first next =
    (xs ++ next.0, omega (arith, length-append xs next.0, next.1), took-more before mid after xs next.0 first next.2)

pub rose-earlier : (first before now : ℕ) → first ≤ before → Rose before now → Rose first now
rose-earlier first before now le (inl more) = inl (omega arith)
rose-earlier first before now le (inr last) = inr last

-- a piece that is no longer than what is missing up to the most
pub piece-within : (most m n : ℕ) (old new into : List ℕ) (before after : Option (List ℕ)) → TakesPiece before after old new n → n ≤ length (take m into) → length old + m ≤ most → length new ≤ most
piece-within most m n old new into before after p size within =
    let total : length new ≡ length old + length p.piece = ap length p.added ∙ length-append old p.piece in
    let cut : length (take m into) ≤ m = omega (arith, length-take m into) in
    omega (arith, total, cut, p.size, size, within)
