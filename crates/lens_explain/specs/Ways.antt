-- Where a path leads in a JSON text: its keys and places are followed from the outermost value on.
use Rattle.std.specs.Prelude.{ℕ, ◌+◌, ◌-◌, ◌^◌, ◌==◌, ◌&&◌, Bool, true, min, List, [], ◌∷◌, ◌++◌, length, take, drop, map, codes, decimal, Option, Some, None, option_map, option_to_list, if◌then◌else◌}
use Rattle.std.specs.Str.{bytes_eq}
use Rattle.lens_explain.specs.declared.scan.Mark.{Mark}
use Rattle.lens_explain.specs.declared.scan.Mark.TheVariants.{Within, Plain, Object, Array, Close, Comma, Colon}
use Rattle.lens_explain.specs.declared.scan.Scan.{Scan}
use Rattle.lens_explain.specs.declared.walk.Found.{Found}
use Rattle.lens_explain.specs.declared.walk.Outer.{Outer}
use Rattle.lens_explain.specs.Keys.{innermost, without_innermost}
use Rattle.lens_explain.specs.Marks.{mark_of, scanned, text_of, unscanned}

-- ---- steps

abbrev pub begins : List ℕ → List ℕ → Bool
begins front text = bytes_eq (take (length front) text) front

-- a step ends where the path does, or before a slash
abbrev pub ends_step : List ℕ → Bool
ends_step [] = true
ends_step (byte ∷ more) = byte == 47

-- how many bytes of a path lead a step further, where so many lead up to it and the step is the next one
abbrev pub step_from : List ℕ → List ℕ → ℕ → Option ℕ
step_from path step reached =
    let rest = drop reached path in
    if begins (codes "/") rest && begins step (drop 1 rest) && ends_step (drop (length step) (drop 1 rest)) then Some (reached + 1 + length step)
    else None

-- ---- the objects and arrays that are open, the innermost last: how many bytes of the path lead to it, where it is on the path, and in an
-- array the number of the present item

-- a number stands still at its type's end
abbrev pub next_item : Outer → Outer
next_item o = record { reached = o.reached; item = option_map (λ n. min (n + 1) (2 ^ 64 - 1)) o.item }

abbrev pub outer_behind : Mark → Option ℕ → List Outer → List Outer
outer_behind Object next outer = outer ++ (record { reached = next; item = None } ∷ [])
outer_behind Array next outer = outer ++ (record { reached = next; item = Some 0 } ∷ [])
outer_behind Close next outer = without_innermost outer
outer_behind Comma next outer = without_innermost outer ++ map next_item (option_to_list (innermost outer))
outer_behind Within next outer = outer
outer_behind Plain next outer = outer
outer_behind Colon next outer = outer

abbrev pub item_on : List ℕ → Option ℕ → Option ℕ → Option ℕ
item_on path (Some reached) (Some item) = step_from path (decimal item) reached
item_on path (Some reached) None = None
item_on path None item = None

abbrev pub item_in : List ℕ → Option Outer → Option ℕ
item_in path None = None
item_in path (Some o) = item_on path o.reached o.item

abbrev pub key_on : List ℕ → List ℕ → Option ℕ → Option ℕ
key_on path text None = None
key_on path text (Some reached) = step_from path text reached

abbrev pub key_in : List ℕ → List ℕ → Option Outer → Option ℕ
key_in path text None = None
key_in path text (Some o) = key_on path text o.reached

-- how many bytes of the path lead to the value that comes next, where it is on the path; by what is open behind the mark
abbrev pub next_behind : List ℕ → Mark → List ℕ → Option ℕ → List Outer → Option ℕ
next_behind path Within text next outer = next
next_behind path Array text next outer = item_in path (innermost outer)
next_behind path Comma text next outer = item_in path (innermost outer)
next_behind path Colon text next outer = key_in path text (innermost outer)
next_behind path Plain text next outer = None
next_behind path Object text next outer = None
next_behind path Close text next outer = None

-- ---- values

abbrev pub reach : ℕ → Option ℕ → Found → Found
reach place None found = found
reach place (Some reached) found = record { place = place; reached = reached }

-- the last value on the path, where one begins at this mark
abbrev pub found_behind : Mark → ℕ → Option ℕ → Found → Found
found_behind Plain place next found = reach place next found
found_behind Object place next found = reach place next found
found_behind Array place next found = reach place next found
found_behind Within place next found = found
found_behind Close place next found = found
found_behind Comma place next found = found
found_behind Colon place next found = found

-- the last value on the path in the rest of an input, which begins at a place, or the one before it
abbrev pub found_from : List ℕ → List ℕ → ℕ → List ℕ → Scan → List Outer → Option ℕ → Found → Found
found_from path input place [] scan outer next found = found
found_from path input place (byte ∷ rest) scan outer next found =
    let mark = mark_of scan.side byte in
    let further = outer_behind mark next outer in
    found_from path input (place + 1) rest (scanned scan place byte) further (next_behind path mark (text_of input scan.last) next further) (found_behind mark place next found)

abbrev pub unfound : Found
unfound = record { place = 0; reached = 0 }

-- the path of the whole input is a slash alone, and has no step
abbrev pub way_of : List ℕ → List ℕ
way_of path = if length path == 1 then [] else path

-- where a path leads: to the last value of the input that is on it
abbrev pub led : List ℕ → List ℕ → Found
led path input = found_from (way_of path) input 0 input unscanned [] (Some 0) unfound
