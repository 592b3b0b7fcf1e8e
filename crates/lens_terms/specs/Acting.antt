-- Who acts: a leader in its term, but in no beat in which a pause has it stand still. As in the model: who is paused has no turn, and so
-- a controller that leads acts at a beat exactly where it isn't paused at it (docs/model.md).
use Rattle.std.specs.Prelude.{ℕ, zero, suc, ◌+◌, ◌==◌, ◌&&◌, ◌++◌, not, nat_le, nat_lt, max, min, filter, Bool, true, false, List, [], ◌∷◌, Option, Some, None, if◌then◌else◌}
use Rattle.std.specs.List.{list_any}
use Rattle.std.specs.Str.{bytes_eq}
use denote.Ref.{Bor}
use Rattle.trace_lines.specs.declared.line.Line.{Line}
use Rattle.lens_terms.specs.declared.standing.Standing.{Standing}
use Rattle.lens_terms.specs.declared.stretch.Stretch.{Stretch}
use Rattle.lens_terms.specs.declared.term.Term.{Term}
use Rattle.lens_terms.specs.declared.turn.Turn.{Turn}
use Rattle.lens_terms.specs.declared.turn.Turn.TheVariants.{Leads, Ends, Pauses, Keeps}
use Rattle.lens_terms.specs.Terms.{turn_of, terms, until}

-- ---- at a beat

-- `pause beats=N` has its actor stand still in N beats, of which that of its line is the first
abbrev pub stands_still : ℕ → ℕ → Turn → Bool
stands_still beat since Leads = false
stands_still beat since (Ends how) = false
stands_still beat since (Pauses beats) = nat_le since beat && nat_lt beat (since + beats)
stands_still beat since Keeps = false

abbrev pub pauses : ℕ → List ℕ → Line (List ℕ) → Bool
pauses beat who l = bytes_eq l.actor who && stands_still beat l.beat (turn_of l.says)

-- whether an identity is paused at a beat
abbrev pub is_paused : ℕ → List ℕ → List (Line (List ℕ)) → Bool
is_paused beat who ls = list_any (pauses beat who) ls

abbrev pub has_term : ℕ → ℕ → List ℕ → Term (List ℕ) → Bool
has_term stop beat who t = bytes_eq t.actor who && (nat_le t.from beat && nat_lt beat (until stop t))

-- whether a beat lies in a term of an identity, in a trace that ends before the beat `stop`
abbrev pub is_leader : ℕ → ℕ → List ℕ → List (Line (List ℕ)) → Bool
is_leader stop beat who ls = list_any (has_term stop beat who) (terms 2 ls)

-- whether an identity acts as the leader at a beat
abbrev pub acts : ℕ → ℕ → List ℕ → List (Line (List ℕ)) → Bool
acts stop beat who ls = is_leader stop beat who ls && not (is_paused beat who ls)

-- ---- the stretches of beats in which a leader acts

-- the beat in which a pause is over, in a trace that ends before the beat `stop`
abbrev pub resume : ℕ → ℕ → ℕ → ℕ
resume stop beat beats = min (beat + beats) stop

abbrev pub interrupted_by : ℕ → ℕ → Turn → ℕ → ℕ
interrupted_by stop beat Leads later = later
interrupted_by stop beat (Ends how) later = min beat stop
interrupted_by stop beat (Pauses beats) later = min beat stop
interrupted_by stop beat Keeps later = later

-- the beat of the first of some lines that ends the terms of an identity or pauses it
unfoldable pub interrupted : ℕ → List ℕ → List (Line (List ℕ)) → ℕ
interrupted stop who [] = stop
interrupted stop who (l ∷ ls) =
    if bytes_eq l.actor who then interrupted_by stop l.beat (turn_of l.says) (interrupted stop who ls) else interrupted stop who ls

-- how an identity stands behind some lines: whether it leads, and before which beat a pause has it stand still
abbrev pub Standings : Type 0
Standings = List ℕ → Standing

abbrev pub nothing_known : Standings
nothing_known who = record { leads = false; still = 0 }

abbrev pub standing_by : ℕ → ℕ → Turn → Standing → Standing
standing_by stop beat Leads s = record { leads = true; still = s.still }
standing_by stop beat (Ends how) s = record { leads = false; still = s.still }
standing_by stop beat (Pauses beats) s = record { leads = s.leads; still = max s.still (resume stop beat beats) }
standing_by stop beat Keeps s = s

-- with one more line
abbrev pub with_line : ℕ → Line (List ℕ) → Standings → Standings
with_line stop l known who = if bytes_eq l.actor who then standing_by stop l.beat (turn_of l.says) (known who) else known who

-- the beat in which a line has its actor act, or act again: a `lead` or a pause that is over, neither while another pause lasts
abbrev pub begins_by : ℕ → ℕ → Turn → Standing → Option ℕ
begins_by stop beat Leads s = if s.leads then None else Some (max beat s.still)
begins_by stop beat (Ends how) s = None
begins_by stop beat (Pauses beats) s = if s.leads then Some (max s.still (resume stop beat beats)) else None
begins_by stop beat Keeps s = None

-- the stretch between two beats, where there is a beat in it
abbrev pub stretch : ℕ → List ℕ → ℕ → Option ℕ → List (Stretch (List ℕ))
stretch line who until None = []
stretch line who until (Some from) = if nat_lt from until then record { line = line; actor = who; from = from; until = until } ∷ [] else []

-- the stretches that lines begin which are numbered from a number on
unfoldable pub stretches : ℕ → ℕ → Standings → List (Line (List ℕ)) → List (Stretch (List ℕ))
stretches stop number known [] = []
stretches stop number known (l ∷ ls) =
    stretch number l.actor (interrupted stop l.actor ls) (begins_by stop l.beat (turn_of l.says) (known l.actor))
    ++ stretches stop (number + 1) (with_line stop l known) ls

-- those that begin before a beat, in the order of their beats. At one beat they stand as in the list
unfoldable pub by_beat : {T : Type 0} → ℕ → List (Stretch T) → List (Stretch T)
by_beat zero all = []
by_beat (suc beat) all = by_beat beat all ++ filter (λ s. s.from == beat) all

-- the stretches in which a leader acts, in a trace that ends before the beat `stop`, in the order in which they begin
unfoldable pub acting : ℕ → List (Line (List ℕ)) → List (Stretch (List ℕ))
acting stop ls = by_beat stop (stretches stop 2 nothing_known ls)

-- a stretch with the text itself in the place of a reference to it
abbrev pub shown : Stretch (Bor (List ℕ)) → Stretch (List ℕ)
shown s = record { line = s.line; actor = s.actor.now; from = s.from; until = s.until }
