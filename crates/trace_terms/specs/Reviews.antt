-- What was found in the lines of a trace from the last one back.
use Rattle.std.specs.Prelude.{◌≡◌, ℕ, ◌+◌, nat_lt, false, List, length, count_by, slice_get, slice_set, Option, Some, if◌then◌else◌}
use Rattle.std.specs.List.{list_any, flat_map}
use Rattle.std.specs.Str.{bytes_eq}
use Rattle.trace_terms.specs.declared.nearest.Nearest.{Nearest}
use Rattle.trace_terms.specs.declared.review.Findings.{Findings}
use Rattle.trace_terms.specs.declared.review.Review.{Review}
use Rattle.trace_terms.specs.Entries.{Entry}
use Rattle.trace_terms.specs.Terms.{terms, is_lead, is_taint}
use Rattle.trace_terms.specs.Findings.{earlier, least, crossed, outside_term, breaking, unspaced}
use Rattle.trace_terms.specs.Near.{NearestStands, another, begun_before}
use Rattle.trace_terms.specs.declared.role.Role.{Role}
use Rattle.trace_terms.specs.declared.seat.Seat.{Seat}
use Rattle.trace_terms.specs.Seats.{blank, after, SeatStands, AllSit, InOrder, Once}

-- what was found in the lines that follow a place
pub record ReviewStands (millis end : ℕ) (es : List Entry) (r : Review) : Type 0 where
  pub millis_is : r.millis ≡ millis
  pub end_is : r.end ≡ end
  pub order : InOrder es
  pub once : Once r.actors
  pub seats : AllSit (SeatStands (end + 1) es) r.actors r.seats.items
  pub absent : (who : List ℕ) → list_any (bytes_eq who) r.actors ≡ false → SeatStands (end + 1) es who (blank (end + 1))
  pub nearest : NearestStands r.actors (terms (end + 1) es) r.nearest
  pub crossed_is : r.findings.crossed ≡ least (crossed (terms (end + 1) es))
  pub outside_is : r.findings.outside ≡ least (flat_map outside_term (terms (end + 1) es))
  pub unspaced_is : r.findings.unspaced ≡ least (unspaced millis (terms (end + 1) es))
  pub leads_is : r.leads ≡ count_by (λ e. is_lead e.role) es
  pub taints_is : r.taints ≡ count_by (λ e. is_taint e.role) es

-- a step that counts nothing
pub record IsCounted (old new : Review) : Type 0 where
  pub leads : new.leads ≡ old.leads
  pub taints : new.taints ≡ old.taints
  pub end : new.end ≡ old.end

-- what is found with a lead of the identity at a place, whose seat this is
abbrev pub crossed_with : ℕ → ℕ → ℕ → Review → Option ℕ
crossed_with place beat to r =
    if nat_lt beat to then earlier (begun_before to (another r.nearest place)) r.findings.crossed else r.findings.crossed

abbrev pub findings_with : ℕ → ℕ → Seat → Review → Findings
findings_with place beat s r = record {
  crossed = crossed_with place beat s.to r;
  outside = earlier s.late r.findings.outside;
  unspaced = earlier (least (breaking r.millis s.rate (length s.zones) s.start s.taints)) r.findings.unspaced;
}

abbrev pub nearest_with : ℕ → ℕ → ℕ → ℕ → Review → Nearest
nearest_with place beat line to r =
    if nat_lt beat to then record { first = Some (record { who = place; from = beat; line = line }); other = another r.nearest place }
    else r.nearest

-- a lead of the identity at a place
pub record Led (place beat line : ℕ) (old new : Review) : Type 0 where
  pub millis : new.millis ≡ old.millis
  pub end : new.end ≡ old.end
  pub actors : new.actors ≡ old.actors
  pub leads : new.leads ≡ old.leads + 1
  pub taints : new.taints ≡ old.taints
  pub seats : (s : Seat) → slice_get old.seats.items place ≡ Some s → new.seats.items ≡ slice_set old.seats.items place (blank s.to)
  pub findings : (s : Seat) → slice_get old.seats.items place ≡ Some s → new.findings ≡ findings_with place beat s old
  pub nearest : (s : Seat) → slice_get old.seats.items place ≡ Some s → new.nearest ≡ nearest_with place beat line s.to old

-- a step that the identity at a place makes, other than a lead; the taints are counted apart
pub record Played (place beat line : ℕ) (role : Role (List ℕ)) (old new : Review) : Type 0 where
  pub millis : new.millis ≡ old.millis
  pub end : new.end ≡ old.end
  pub actors : new.actors ≡ old.actors
  pub nearest : new.nearest ≡ old.nearest
  pub findings : new.findings ≡ old.findings
  pub leads : new.leads ≡ old.leads
  pub taints : new.taints ≡ old.taints
  pub seats : (s : Seat) → slice_get old.seats.items place ≡ Some s
      → new.seats.items ≡ slice_set old.seats.items place (after role beat line s)
