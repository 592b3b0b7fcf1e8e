-- The words that are commands.
use Rattle.std.specs.Prelude.{ℕ, ◌&&◌, ◌||◌, Bool, List, [], ◌∷◌, codes, Option, Some, None, if◌then◌else◌}
use Rattle.std.specs.Str.{bytes_eq}
use Rattle.kube_lens.specs.declared.asked.Asked.TheVariants.{Margin, MarginJson, Bounds, BoundsJson, Leaders, LeadersJson, Summary, SummaryJson, Lateness, LatenessJson, Lines, Explain, ExplainJson}
use Rattle.kube_lens.specs.declared.command.Command.{Command}
use Rattle.kube_lens.specs.declared.command.Command.TheVariants.{Help, Flags, BoundsFlags, Tune, Asks}

-- whatever stands behind the word: behind `margin`, `bounds` and `tune` flags
unfoldable pub by_flags : List ℕ → Option Command
by_flags word =
    if bytes_eq word (codes "margin") then Some Flags
    else if bytes_eq word (codes "bounds") then Some BoundsFlags
    else if bytes_eq word (codes "tune") then Some Tune
    else if bytes_eq word (codes "--help") then Some Help
    else None

-- one word
abbrev pub by_word : List ℕ → Option Command
by_word word =
    if bytes_eq word (codes "margin") then Some (Asks Margin)
    else if bytes_eq word (codes "bounds") then Some (Asks Bounds)
    else if bytes_eq word (codes "leaders") then Some (Asks Leaders)
    else if bytes_eq word (codes "summary") then Some (Asks Summary)
    else if bytes_eq word (codes "explain") then Some (Asks Explain)
    else by_flags word

-- `--json` behind the word
abbrev pub as_json : List ℕ → Option Command
as_json word =
    if bytes_eq word (codes "margin") then Some (Asks MarginJson)
    else if bytes_eq word (codes "bounds") then Some (Asks BoundsJson)
    else if bytes_eq word (codes "leaders") then Some (Asks LeadersJson)
    else if bytes_eq word (codes "summary") then Some (Asks SummaryJson)
    else if bytes_eq word (codes "explain") then Some (Asks ExplainJson)
    else if bytes_eq word (codes "lines") then Some (Asks Lines)
    else by_flags word

-- one word behind it: `summary` may have a document beside its trace
abbrev pub by_form : List ℕ → List ℕ → Option Command
by_form word form =
    if bytes_eq form (codes "--json") then as_json word
    else if bytes_eq word (codes "summary") && bytes_eq form (codes "--document") then Some (Asks Lateness)
    else by_flags word

-- the flags `--document` and `--json`, in either order
abbrev pub are_both : List ℕ → List ℕ → Bool
are_both one other =
    (bytes_eq one (codes "--document") && bytes_eq other (codes "--json")) || (bytes_eq one (codes "--json") && bytes_eq other (codes "--document"))

-- two words behind it: `summary` may have both flags
abbrev pub by_forms : List ℕ → List ℕ → List ℕ → Option Command
by_forms word one other =
    if bytes_eq word (codes "summary") && are_both one other then Some (Asks LatenessJson)
    else by_flags word

-- the command that the words after the program's name are
abbrev pub command_of : List (List ℕ) → Option Command
command_of [] = None
command_of (word ∷ []) = by_word word
command_of (word ∷ form ∷ []) = by_form word form
command_of (word ∷ one ∷ other ∷ []) = by_forms word one other
command_of (word ∷ one ∷ other ∷ another ∷ more) = by_flags word
