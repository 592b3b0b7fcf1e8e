-- The terms of a trace: who leads from when to when, and what a leader does in its term (profile).
use Rattle.std.specs.Prelude.{ℕ, ◌&&◌, Bool, true, false, List, [], ◌∷◌, if◌then◌else◌}
use Rattle.std.specs.Str.{bytes_eq}
use Rattle.trace_terms.specs.declared.role.Role.{Role}
use Rattle.trace_terms.specs.declared.role.Role.TheVariants.{Leads, Ends, Zones, Taints, Acts, Idles}
use Rattle.trace_terms.specs.Entries.{Entry}

abbrev pub is_lead : {T : Type 0} → Role T → Bool
is_lead Leads = true
is_lead _ = false

abbrev pub is_end : {T : Type 0} → Role T → Bool
is_end Ends = true
is_end _ = false

abbrev pub is_taint : {T : Type 0} → Role T → Bool
is_taint Taints = true
is_taint _ = false

-- `unknown`, `mode`, `zone`, `taint`, `swap`, `untaint` and `evict`
abbrev pub is_acting : {T : Type 0} → Role T → Bool
is_acting (Zones zone rate) = true
is_acting Taints = true
is_acting Acts = true
is_acting _ = false

-- the beat of the next `end`, `crash` or `stop` line of an identity, or the one behind the last beat
unfoldable pub ended : ℕ → List ℕ → List Entry → ℕ
ended stop who [] = stop
ended stop who (e ∷ es) = if bytes_eq e.actor who && is_end e.role then e.beat else ended stop who es

abbrev pub own_with : Role (List ℕ) → Entry → List Entry → List Entry
own_with Leads e es = []
own_with Ends e es = es
own_with Idles e es = es
own_with _ e es = e ∷ es

-- the acting lines of an identity up to its next `lead` line
unfoldable pub own : List ℕ → List Entry → List Entry
own who [] = []
own who (e ∷ es) = if bytes_eq e.actor who then own_with e.role e (own who es) else own who es

-- a term: its `lead` line, whose it is, its span from a beat to before another, and its acting lines
pub record Term : Type 0 where
  pub line : ℕ
  pub actor : List ℕ
  pub from : ℕ
  pub to : ℕ
  pub acts : List Entry

abbrev pub term_of : ℕ → Entry → List Entry → Term
term_of stop e es = record { line = e.line; actor = e.actor; from = e.beat; to = ended stop e.actor es; acts = own e.actor es }

-- all terms, in the order of their `lead` lines
unfoldable pub terms : ℕ → List Entry → List Term
terms stop [] = []
terms stop (e ∷ es) = if is_lead e.role then term_of stop e es ∷ terms stop es else terms stop es
