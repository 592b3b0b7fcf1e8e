-- What is wrong with the terms of a trace: the lines at fault, of which the first one is told.
use Rattle.std.specs.Prelude.{ℕ, ◌-◌, ◌*◌, ◌&&◌, not, nat_le, nat_lt, Bool, true, if◌then◌else◌}
use Rattle.std.specs.Prelude.{List, [], ◌∷◌, ◌++◌, length, map, reverse, slice_get, filter_map, Option, Some, None, min, max}
use Rattle.std.specs.List.{filter, flat_map}
use Rattle.std.specs.Str.{bytes_eq}
use Rattle.kube_base.specs.Names.{with_name}
use Rattle.trace_terms.specs.declared.role.Role.{Role}
use Rattle.trace_terms.specs.declared.role.Role.TheVariants.{Zones}
use Rattle.trace_terms.specs.declared.mark.Mark.{Mark}
use Rattle.trace_terms.specs.Entries.{Entry}
use Rattle.trace_terms.specs.Terms.{Term, is_lead, is_acting, is_taint}

-- ---- the first of some lines

abbrev pub earlier : Option ℕ → Option ℕ → Option ℕ
earlier None other = other
earlier (Some a) None = Some a
earlier (Some a) (Some b) = Some (min a b)

abbrev pub least : List ℕ → Option ℕ
least [] = None
least (line ∷ lines) = earlier (Some line) (least lines)

abbrev pub numbers : List Entry → List ℕ
numbers es = map (λ e. e.line) es

-- ---- overlaps

-- two spans of different identities share a beat
abbrev pub crosses : Term → Term → Bool
crosses s t = not (bytes_eq s.actor t.actor) && nat_lt (max s.from t.from) (min s.to t.to)

-- the `lead` lines of the terms that cross an earlier one
unfoldable pub crossed : List Term → List ℕ
crossed [] = []
crossed (t ∷ ts) = map (λ u. u.line) (filter (crosses t) ts) ++ crossed ts

-- ---- acting outside a term

-- the acting lines of a term outside its span
abbrev pub outside_term : Term → List ℕ
outside_term t = numbers (filter (λ a. not (nat_le t.from a.beat && nat_lt a.beat t.to)) t.acts)

-- the acting lines with no `lead` line of their actor before them
unfoldable pub strays : List Entry → List Entry
strays [] = []
strays (e ∷ es) =
    if is_lead e.role then filter (λ a. not (bytes_eq a.actor e.actor)) (strays es)
    else (if is_acting e.role then e ∷ strays es else strays es)

abbrev pub outside : List Entry → List Term → List ℕ
outside es ts = flat_map outside_term ts ++ numbers (strays es)

-- ---- the `zone` and `taint` lines of a term

-- what a `zone` line says: its beat, the zone and the rate
pub record ZoneLine : Type 0 where
  pub beat : ℕ
  pub zone : List ℕ
  pub rate : ℕ

abbrev pub zone_line : ℕ → Role (List ℕ) → Option ZoneLine
zone_line beat (Zones zone rate) = Some (record { beat = beat; zone = zone; rate = rate })
zone_line beat _ = None

abbrev pub zone_lines : List Entry → List ZoneLine
zone_lines acts = filter_map (λ a. zone_line a.beat a.role) acts

-- the different ones of some texts
abbrev pub different : List (List ℕ) → List (List ℕ)
different [] = []
different (text ∷ texts) = with_name (different texts) text

abbrev pub greatest : List ℕ → ℕ
greatest [] = 0
greatest (n ∷ ns) = max (greatest ns) n

-- the different zones of a term
abbrev pub zones_of : List Entry → List (List ℕ)
zones_of acts = different (map (λ z. z.zone) (zone_lines acts))

-- the greatest rate of a zone
abbrev pub rate_of : List Entry → ℕ
rate_of acts = greatest (map (λ z. z.rate) (zone_lines acts))

-- the beat of the first `zone` line
abbrev pub start_of : List Entry → Option ℕ
start_of acts = slice_get (map (λ z. z.beat) (zone_lines acts)) 0

abbrev pub mark_of : Entry → Mark
mark_of e = record { beat = e.beat; line = e.line }

-- the `taint` lines, the last one first
abbrev pub taints_of : List Entry → List Mark
taints_of acts = reverse (map mark_of (filter (λ a. is_taint a.role) acts))

-- ---- the spacing of taints

-- a step from a beat to another at a rate is so long that a bucket of one taint is full again, at any clocks
-- that a document may have: (to - from) * millis * 1000 * 2000000 * rate >= 10^15
abbrev pub is_wide : ℕ → ℕ → ℕ → ℕ → Bool
is_wide millis rate from to = nat_le 1_000_000_000_000_000 ((to - from) * millis * 1000 * 2_000_000 * rate)

-- A taint line breaks the spacing of its term, which has m different zones, in three cases: the term has no `zone` line; or it is one of
-- the term's first m taint lines, and the step from the first `zone` line to it isn't wide; or it is a later one, and the step to it from
-- the taint line that stands m taint lines before it isn't wide.
abbrev pub breaks : ℕ → ℕ → Option ℕ → Option Mark → ℕ → Bool
breaks millis rate None before to = true
breaks millis rate (Some first) None to = not (is_wide millis rate first to)
breaks millis rate (Some first) (Some before) to = not (is_wide millis rate before.beat to)

-- the taint lines that break the spacing, of those that stand here from the last to the first
abbrev pub breaking : ℕ → ℕ → ℕ → Option ℕ → List Mark → List ℕ
breaking millis rate m first [] = []
breaking millis rate m first (mark ∷ older) =
    (if breaks millis rate first (slice_get (mark ∷ older) m) mark.beat then mark.line ∷ [] else []) ++ breaking millis rate m first older

-- those of a term, at the greatest rate of its zones
unfoldable pub unspaced_acts : ℕ → List Entry → List ℕ
unspaced_acts millis acts = breaking millis (rate_of acts) (length (zones_of acts)) (start_of acts) (taints_of acts)

abbrev pub unspaced : ℕ → List Term → List ℕ
unspaced millis ts = flat_map (λ t. unspaced_acts millis t.acts) ts
