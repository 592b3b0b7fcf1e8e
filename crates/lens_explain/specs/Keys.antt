-- The keys of the objects of a JSON text, and those that are there twice.
use Rattle.std.specs.Prelude.{ℕ, ◌+◌, ◌-◌, ◌==◌, ◌&&◌, Bool, List, [], ◌∷◌, ◌++◌, length, take, slice_get, Option, Some, None, cond}
use Rattle.std.specs.Str.{bytes_eq}
use Rattle.lens_explain.specs.declared.keys.Key as declared
use Rattle.lens_explain.specs.declared.scan.Mark.{Mark}
use Rattle.lens_explain.specs.declared.scan.Mark.TheVariants.{Within, Plain, Object, Array, Close, Comma, Colon}
use Rattle.lens_explain.specs.declared.scan.Scan.{Scan}
use Rattle.lens_explain.specs.declared.scan.Span.{Span}
use Rattle.lens_explain.specs.declared.twice.Twice.{Twice}
use Rattle.lens_explain.specs.Marks.{mark_of, scanned, text_of, unscanned}

-- a key: the place of its object, that of its first quote, and its text
pub record KeyAt : Type 0 where
  pub owner : ℕ
  pub place : ℕ
  pub text : List ℕ

abbrev pub key_of : declared.Key → KeyAt
key_of k = record { owner = k.owner; place = k.place; text = k.text.now }

-- ---- the objects and arrays that are open, by their places, the innermost last

abbrev pub innermost : {X : Type 0} → List X → Option X
innermost outer = slice_get outer (length outer - 1)

abbrev pub without_innermost : {X : Type 0} → List X → List X
without_innermost outer = take (length outer - 1) outer

-- behind a mark at a place
abbrev pub opened : Mark → ℕ → List ℕ → List ℕ
opened Object place outer = outer ++ (place ∷ [])
opened Array place outer = outer ++ (place ∷ [])
opened Close place outer = without_innermost outer
opened Within place outer = outer
opened Plain place outer = outer
opened Comma place outer = outer
opened Colon place outer = outer

-- ---- the keys

abbrev pub key_in : List ℕ → Span → Option ℕ → Option KeyAt
key_in input span None = None
key_in input span (Some owner) = Some (record { owner = owner; place = span.quote; text = text_of input span })

-- a colon stands behind a key of the innermost object
abbrev pub key_at : List ℕ → Mark → Span → List ℕ → Option KeyAt
key_at input Colon span outer = key_in input span (innermost outer)
key_at input Within span outer = None
key_at input Plain span outer = None
key_at input Object span outer = None
key_at input Array span outer = None
key_at input Close span outer = None
key_at input Comma span outer = None

abbrev pub with_key : Option KeyAt → List KeyAt → List KeyAt
with_key None keys = keys
with_key (Some key) keys = key ∷ keys

-- those of the rest of an input, which begins at a place
abbrev pub keys_from : List ℕ → ℕ → List ℕ → Scan → List ℕ → List KeyAt
keys_from input place [] scan outer = []
keys_from input place (byte ∷ rest) scan outer =
    with_key (key_at input (mark_of scan.side byte) scan.last outer)
    (keys_from input (place + 1) rest (scanned scan place byte) (opened (mark_of scan.side byte) place outer))

-- all keys of an input
abbrev pub keys_of : List ℕ → List KeyAt
keys_of input = keys_from input 0 input unscanned []

-- ---- those that are there twice

-- in the same object, with the same text
abbrev pub is_same : KeyAt → KeyAt → Bool
is_same one other = one.owner == other.owner && bytes_eq one.text other.text

-- the place of the first of these that is the same
abbrev pub place_among : List KeyAt → KeyAt → Option ℕ
place_among [] key = None
place_among (k ∷ ks) key = cond (is_same k key) (Some k.place) (place_among ks key)

abbrev pub twice_at : KeyAt → Option ℕ → List Twice
twice_at key None = []
twice_at key (Some first) = record { first = first; again = key.place } ∷ []

-- of these keys those that stood before, each with the last place before it; behind earlier ones, the last of these first
abbrev pub twice_behind : List KeyAt → List KeyAt → List Twice
twice_behind earlier [] = []
twice_behind earlier (key ∷ keys) = twice_at key (place_among earlier key) ++ twice_behind (key ∷ earlier) keys

-- the keys of an input that are there twice, the first twenty of them
abbrev pub doubled : List ℕ → List Twice
doubled input = take 20 (twice_behind [] (keys_of input))
