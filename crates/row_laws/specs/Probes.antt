-- When a node was last heard of, by the row of the term's passes that find it. Source: the node lifecycle controller of Kubernetes; profile.
use Rattle.std.specs.Prelude.{◌≡◌, ℕ, ◌&&◌, ◌||◌, Bool, true, false, List, ◌∷◌, Some}
use Rattle.kube_objects.specs.declared.deed.Actor.{Actor}
use Rattle.kube_objects.specs.Entry.{Entry, Identity, Fact, Ticks, Pass, Mode}
use Rattle.kube_objects.specs.Health.{at_pass, heartbeat, renewal, is_found, is_known, kept_heartbeat, kept_renewal, is_news, is_later, probe}
use Rattle.kube_objects.specs.Identities.{is_by}
use Rattle.row_laws.specs.Rows.{Says, Row, IsLatest}

-- a pass of the term says whether the cache has the node
abbrev pub finds : Identity → ℕ → Says
finds q name e h = at_pass q (λ T. Some (is_found q name T)) e.actor e.fact h

-- a pass with a heartbeat that isn't the kept one, or with a later renewal; and the end of the all-Full mode
abbrev pub is_heard : Identity → ℕ → Actor → Fact → List Entry → Bool
is_heard q name who (Ticks Pass) h =
    is_by q who && (is_news (heartbeat q name h) (kept_heartbeat q name h) || is_later (renewal q name h) (kept_renewal q name h))
is_heard q name who (Ticks (Mode false)) h = is_by q who
is_heard q name who _ h = false

-- where the last pass found the node, its probe is the beat of the first one of the longest row of passes up to it that all find it, or
-- of the latest entry since at which it was heard of
abbrev pub ProbesAreOfRows : Type 0
ProbesAreOfRows =
    (q : Identity) (name : ℕ) (h : List Entry) → is_known q name h ≡ true
    → (row : Row (finds q name) h) × IsLatest (λ e T. is_heard q name e.actor e.fact T) h (row.e ∷ row.before) (probe q name h)
