-- One byte further in an input.
use Rattle.std.proofs.Common.{◌≡◌, ℕ, ◌+◌, ◌<◌, ◌≤◌, List, [], ◌∷◌, ◌++◌, length, take, drop, get_or, Option, Some, None, refl, sym, ap, ◌∙◌, add-one, drop-cons, append_assoc}
use Rattle.lens_explain.specs.declared.scan.Scan.{Scan}
use Rattle.lens_explain.specs.declared.walk.Found.{Found}
use Rattle.lens_explain.specs.declared.walk.Outer.{Outer}
use Rattle.lens_explain.specs.Keys.{KeyAt, key_at, keys_from, opened, with_key}
use Rattle.lens_explain.specs.Marks.{mark_of, scanned, text_of}
use Rattle.lens_explain.specs.Ways.{found_behind, found_from, next_behind, outer_behind}

pub byte-more : (input : List ℕ) (place byte : ℕ) → place < length input → byte ≡ get_or input place 0 → drop place input ≡ byte ∷ drop (place + 1) input
byte-more input place byte within is = rw (add-one, drop-cons input place 0 within, sym is) refl

-- a path is followed over one byte more
pub found-more : (path input : List ℕ) (place byte : ℕ) (scan scan2 : Scan) (outer outer2 : List Outer) (next next2 : Option ℕ) (found found2 whole : Found)
    → place < length input → byte ≡ get_or input place 0
    → scan2 ≡ scanned scan place byte → outer2 ≡ outer_behind (mark_of scan.side byte) next outer
    → next2 ≡ next_behind path (mark_of scan.side byte) (text_of input scan.last) next outer2 → found2 ≡ found_behind (mark_of scan.side byte) place next found
    → found_from path input place (drop place input) scan outer next found ≡ whole
    → found_from path input (place + 1) (drop (place + 1) input) scan2 outer2 next2 found2 ≡ whole
found-more path input place byte scan scan2 outer outer2 next next2 found found2 whole within is s o n f so_far =
    let rest = drop (place + 1) input in
    let mark = mark_of scan.side byte in
    let n2 : next2 ≡ next_behind path mark (text_of input scan.last) next (outer_behind mark next outer) = n ∙ ap (next_behind path mark (text_of input scan.last) next) o in
    let here : found_from path input (place + 1) rest scan2 outer2 next2 found2 ≡ found_from path input place (byte ∷ rest) scan outer next found
    = (λ i. found_from path input (place + 1) rest (s i) (o i) (n2 i) (f i)) in
    here ∙ ap (λ l. found_from path input place l scan outer next found) (sym (byte-more input place byte within is)) ∙ so_far

-- the keys of the rest are those behind one byte more, with the key that stands before it
pub keys-more : (input : List ℕ) (place byte : ℕ) (scan scan2 : Scan) (outer outer2 : List ℕ) (key : Option KeyAt) → place < length input → byte ≡ get_or input place 0
    → scan2 ≡ scanned scan place byte → outer2 ≡ opened (mark_of scan.side byte) place outer → key ≡ key_at input (mark_of scan.side byte) scan.last outer
    → keys_from input place (drop place input) scan outer ≡ with_key key (keys_from input (place + 1) (drop (place + 1) input) scan2 outer2)
keys-more input place byte scan scan2 outer outer2 key within is s o k =
    let rest = drop (place + 1) input in
    let here : with_key key (keys_from input (place + 1) rest scan2 outer2) ≡ keys_from input place (byte ∷ rest) scan outer
    = (λ i. with_key (k i) (keys_from input (place + 1) rest (s i) (o i))) in
    ap (λ l. keys_from input place l scan outer) (byte-more input place byte within is) ∙ sym here
