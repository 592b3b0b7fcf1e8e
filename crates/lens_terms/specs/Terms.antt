-- The terms of a trace's lines: who leads, from when to when, and how that ends. They are those of audit's codes 41 and 42 (profile).
use Rattle.std.specs.Prelude.{ℕ, ◌+◌, List, [], ◌∷◌, codes, Option, Some, None, if◌then◌else◌}
use Rattle.std.specs.Str.{bytes_eq}
use denote.Ref.{Bor}
use Rattle.trace_lines.specs.declared.line.Line.{Line}
use Rattle.trace_lines.specs.declared.line.Says.{Says}
use Rattle.trace_lines.specs.declared.line.Says.TheVariants as says
use Rattle.lens_terms.specs.declared.closing.Closing.{Closing}
use Rattle.lens_terms.specs.declared.closing.Ending.{Ending}
use Rattle.lens_terms.specs.declared.closing.Ending.TheVariants.{End, Stop, Crash}
use Rattle.lens_terms.specs.declared.term.Term.{Term}
use Rattle.lens_terms.specs.declared.turn.Turn.{Turn}
use Rattle.lens_terms.specs.declared.turn.Turn.TheVariants.{Leads, Ends, Pauses, Keeps}

-- what the words of a line mean for the terms of its actor, and for its acting
abbrev pub turn_of : {T : Type 0} → Says T → Turn
turn_of (says.Lead version) = Leads
turn_of says.End = Ends End
turn_of says.Stop = Ends Stop
turn_of says.Crash = Ends Crash
turn_of says.Start = Keeps
turn_of (says.Pause beats) = Pauses beats
turn_of (says.Stall beats) = Keeps
turn_of (says.Election verb answer transitions) = Keeps
turn_of (says.NodeLease verb node answer) = Keeps
turn_of (says.Status node ready answer) = Keeps
turn_of (says.Put key version) = Keeps
turn_of (says.Remove key version) = Keeps
turn_of (says.Unknown node reason answer) = Keeps
turn_of (says.Mode on) = Keeps
turn_of (says.Zone zone state rate) = Keeps
turn_of (says.Taint node taint answer) = Keeps
turn_of (says.Swap node taint answer) = Keeps
turn_of (says.Untaint node answer) = Keeps
turn_of (says.Evict pod due answer) = Keeps

abbrev pub closing_by : ℕ → Turn → Option Closing → Option Closing
closing_by beat (Ends how) later = Some (record { beat = beat; how = how })
closing_by beat Leads later = later
closing_by beat (Pauses beats) later = later
closing_by beat Keeps later = later

-- the first of some lines that ends the terms of an identity: an `end`, `stop` or `crash` line of its own
unfoldable pub closing : List ℕ → List (Line (List ℕ)) → Option Closing
closing who [] = None
closing who (l ∷ ls) = if bytes_eq l.actor who then closing_by l.beat (turn_of l.says) (closing who ls) else closing who ls

-- the term that a `lead` line begins, with the lines behind it
abbrev pub term_of : ℕ → Line (List ℕ) → List (Line (List ℕ)) → Term (List ℕ)
term_of number l ls = record { line = number; actor = l.actor; from = l.beat; closing = closing l.actor ls }

abbrev pub begun_by : Turn → Term (List ℕ) → List (Term (List ℕ)) → List (Term (List ℕ))
begun_by Leads term later = term ∷ later
begun_by (Ends how) term later = later
begun_by (Pauses beats) term later = later
begun_by Keeps term later = later

-- the terms of lines that are numbered from a number on, in the order in which they begin
unfoldable pub terms : ℕ → List (Line (List ℕ)) → List (Term (List ℕ))
terms number [] = []
terms number (l ∷ ls) = begun_by (turn_of l.says) (term_of number l ls) (terms (number + 1) ls)

-- a term with the text itself in the place of a reference to it
abbrev pub shown : Term (Bor (List ℕ)) → Term (List ℕ)
shown t = record { line = t.line; actor = t.actor.now; from = t.from; closing = t.closing }

abbrev pub until_by : ℕ → Option Closing → ℕ
until_by stop None = stop
until_by stop (Some closing) = closing.beat

-- the first beat in which it leads no more, in a trace that ends before the beat `stop`
abbrev pub until : {T : Type 0} → ℕ → Term T → ℕ
until stop t = until_by stop t.closing

abbrev pub ending_word : Ending → List ℕ
ending_word End = codes "end"
ending_word Stop = codes "stop"
ending_word Crash = codes "crash"

-- the word for how a term ends
abbrev pub ended : Option Closing → List ℕ
ended None = codes "trace-end"
ended (Some closing) = ending_word closing.how
