-- What is kept of one identity, from the last line of a trace back.
use Rattle.std.specs.Prelude.{◌≡◌, ℕ, nat_le, true, false, List, [], ◌∷◌, ◌++◌, max, Option, Some, None, if◌then◌else◌}
use Rattle.std.specs.List.{filter, list_any}
use Rattle.std.specs.Str.{bytes_eq}
use Rattle.kube_base.specs.Names.{with_name}
use Rattle.trace_terms.specs.declared.role.Role.{Role}
use Rattle.trace_terms.specs.declared.role.Role.TheVariants.{Leads, Ends, Zones, Taints, Acts, Idles}
use Rattle.trace_terms.specs.declared.seat.Seat.{Seat}
use Rattle.trace_terms.specs.Entries.{Entry}
use Rattle.trace_terms.specs.Terms.{ended, own}
use Rattle.trace_terms.specs.Findings.{earlier, least, numbers, zones_of, rate_of, start_of, taints_of}

-- nothing follows
abbrev pub blank : ℕ → Seat
blank to = record { to = to; first = None; late = None; zones = []; rate = 0; start = None; taints = [] }

-- an acting line comes before
abbrev pub acted : ℕ → ℕ → Seat → Seat
acted beat line s = record s { first = earlier (Some line) s.first; late = if nat_le s.to beat then earlier (Some line) s.late else s.late }

abbrev pub zoned : ℕ → List ℕ → ℕ → Seat → Seat
zoned beat zone rate s = record s { zones = with_name s.zones zone; rate = max s.rate rate; start = Some beat }

abbrev pub tainted : ℕ → ℕ → Seat → Seat
tainted beat line s = record s { taints = s.taints ++ record { beat = beat; line = line } ∷ [] }

-- a line of its actor comes before, which is no `lead`
abbrev pub after : Role (List ℕ) → ℕ → ℕ → Seat → Seat
after Leads beat line s = s
after Ends beat line s = record s { to = beat; late = s.first }
after (Zones zone rate) beat line s = zoned beat zone rate (acted beat line s)
after Taints beat line s = tainted beat line (acted beat line s)
after Acts beat line s = acted beat line s
after Idles beat line s = s

-- the seat has where the span ends, and the acting lines up to the next lead
pub record Sits (to : ℕ) (acts : List Entry) (seat : Seat) : Type 0 where
  pub until : seat.to ≡ to
  pub first : seat.first ≡ least (numbers acts)
  pub late : seat.late ≡ least (numbers (filter (λ a. nat_le to a.beat) acts))
  pub zones : seat.zones ≡ zones_of acts
  pub rate : seat.rate ≡ rate_of acts
  pub start : seat.start ≡ start_of acts
  pub taints : seat.taints ≡ taints_of acts

-- the seat of an identity, behind which these lines follow up to before a beat
abbrev pub SeatStands : ℕ → List Entry → List ℕ → Seat → Type 0
SeatStands stop es who seat = Sits (ended stop who es) (own who es) seat

-- each identity has its seat
abbrev pub AllSit : (List ℕ → Seat → Type 0) → List (List ℕ) → List Seat → Type 0
AllSit P [] [] = Unit {0}
AllSit P [] (s ∷ ss) = ⊥
AllSit P (k ∷ ks) [] = ⊥
AllSit P (k ∷ ks) (s ∷ ss) = P k s × AllSit P ks ss

-- no line is before this beat or this line
abbrev pub AreAfter : ℕ → ℕ → List Entry → Type 0
AreAfter beat line [] = Unit {0}
AreAfter beat line (e ∷ es) = (nat_le beat e.beat ≡ true) × (nat_le line e.line ≡ true) × AreAfter beat line es

-- beats and lines don't go down
abbrev pub InOrder : List Entry → Type 0
InOrder [] = Unit {0}
InOrder (e ∷ es) = AreAfter e.beat e.line es × InOrder es

-- each identity stands at one place alone
abbrev pub Once : List (List ℕ) → Type 0
Once [] = Unit {0}
Once (k ∷ ks) = (list_any (bytes_eq k) ks ≡ false) × Once ks

-- the first acting line of all seats
abbrev pub first_acting : List Seat → Option ℕ
first_acting [] = None
first_acting (s ∷ ss) = earlier s.first (first_acting ss)
