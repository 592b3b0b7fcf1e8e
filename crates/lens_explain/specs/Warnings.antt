-- Warnings of keys that are there twice.
use Rattle.std.specs.Prelude.{ℕ, List, ◌++◌, codes}
use Rattle.lens_explain.specs.declared.twice.Twice.{Twice}
use Rattle.lens_explain.specs.declared.twice.Warning.{Warning}
use Rattle.lens_explain.specs.Places.{IsShown, shown_text}

-- both places of the key are shown
abbrev pub IsWarning : List ℕ → Twice → Warning → Type 0
IsWarning input t w = IsShown input t.first w.first × IsShown input t.again w.again

unfoldable pub warning_text : Warning → List ℕ
warning_text w = codes "warning: a key is here twice, and the last one counts\n" ++ shown_text w.first ++ shown_text w.again
