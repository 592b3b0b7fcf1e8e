-- Judgement of nodes at passes, and the queues that hold a node's pushes, read from the passes of a term.
-- Source: the node lifecycle controller of Kubernetes 1.20, `monitorNodeHealth`, `processTaintBaseEviction` and `doNoExecuteTaintingPass`,
-- and its `RateLimitedTimedQueue`, in which a push that is left behind stays.
use Rattle.std.specs.Prelude.{ℕ, ◌==◌, ◌&&◌, ◌||◌, if◌then◌else◌, not, Bool, true, false, List, [], ◌∷◌, ◌++◌, Option, Some, None}
use Rattle.std.specs.List.{list_any}
use Rattle.kube_base.specs.declared.numbers.Version.{Version}
use Rattle.kube_objects.specs.declared.deed.Actor.{Actor}
use Rattle.kube_objects.specs.declared.node.Node.{Node}
use Rattle.kube_objects.specs.declared.node.Ready.{Ready}
use Rattle.kube_objects.specs.declared.rules.QueueRule.{QueueRule}
use Rattle.kube_objects.specs.declared.rules.QueueRule.TheVariants.{Once, Again}
use Rattle.kube_objects.specs.declared.rules.SightRule.{SightRule}
use Rattle.kube_objects.specs.declared.rules.SightRule.TheVariants.{Keep, Strip}
use Rattle.kube_objects.specs.Document.{Doc}
use Rattle.kube_objects.specs.Entry.{Entry, Identity, Place, Fact, Ticks, Mark, Mode, Head, Skip}
use Rattle.kube_objects.specs.Health.{is_pass, is_known}
use Rattle.kube_objects.specs.Identities.{is_by}
use Rattle.kube_objects.specs.Modes.{is_in, place_eq}
use Rattle.kube_objects.specs.Seen.{is_accepted, seen_node, node_names}
use Rattle.kube_objects.specs.Tainting.{Wants, Nothing, Wanted, Whatever, wants_by, unreachable, is_wanted, is_opposite}
use Rattle.kube_objects.specs.Tokens.{is_zone}

-- ---- passes

-- a pass of a term: the history before it, and the entries after it up to the term's next pass, the oldest first
pub record Passed : Type 0 where
  pub before : List Entry
  pub after : List Entry

abbrev pub passes_under : Identity → List Entry → List Entry → List Passed
passes_under q above [] = []
passes_under q above (e ∷ h) =
    elim (is_pass q e.actor e.fact) [ true ↦ record { before = h; after = above } ∷ passes_under q [] h | false ↦ passes_under q (e ∷ above) h ]

-- a term's passes, the last one first
abbrev pub passes : Identity → List Entry → List Passed
passes q h = passes_under q [] h

abbrev pub marks : Identity → ℕ → Actor → Fact → Bool
marks q name who (Ticks (Mark node given written tried)) = is_by q who && (node == name && is_accepted tried)
marks q name who _ = false

-- whether a pass marked a node, accepted
abbrev pub has_marked : Identity → ℕ → Passed → Bool
has_marked q name x = list_any (λ e. marks q name e.actor e.fact) x.after

abbrev pub turns_on : Identity → Actor → Fact → Bool
turns_on q who (Ticks (Mode true)) = is_by q who
turns_on q who _ = false

-- whether it turned the all-Full mode on
abbrev pub has_turned_on : Identity → Passed → Bool
has_turned_on q x = list_any (λ e. turns_on q e.actor e.fact) x.after

-- ---- what a pass makes of a node, as it saw it before its marks

-- a node without Ready counts as Unknown where the pass marked it
abbrev pub judged_by : Bool → Option Ready → Wants
judged_by marked (Some r) = wants_by r.status
judged_by true None = Wanted unreachable
judged_by false None = Whatever

abbrev pub judged : Identity → ℕ → Passed → Node → Wants
judged q name x node = judged_by (has_marked q name x) node.ready

abbrev pub strips : SightRule → Bool
strips Keep = false
strips Strip = true

-- whether the term sees a node for the first time since it lost sight of it, and takes its condition taints off then
abbrev pub is_new : Doc → Identity → ℕ → List Entry → Bool
is_new doc q name before = strips doc.settings.rules.first_sight && not (is_known q name before)

abbrev pub is_healthy : Wants → Bool
is_healthy Nothing = true
is_healthy _ = false

-- whether a node has the taint opposite to the one that it wants: it is swapped
abbrev pub is_crossed : Wants → Node → Bool
is_crossed (Wanted wanted) node = list_any (is_opposite wanted) node.taints
is_crossed _ node = false

-- whether it lacks the taint that it wants
abbrev pub is_short : Wants → Node → Bool
is_short (Wanted wanted) node = not (list_any (is_wanted wanted) node.taints)
is_short _ node = false

abbrev pub is_wanting : Wants → Bool
is_wanting (Wanted wanted) = true
is_wanting _ = false

abbrev pub pushes_again : QueueRule → Bool
pushes_again Once = false
pushes_again Again = true

-- what a pass says of a node in its zone
pub record Verdict : Type 0 where
  -- its pushes are cleared first, since it is new or True
  pub cleared : Bool
  -- it is to stand in the queue
  pub queued : Bool
  -- it is pushed, whether or not it counts as pushed
  pub pushed : Bool

abbrev pub verdict : Doc → Identity → ℕ → Passed → Node → Verdict
verdict doc q name x node = record {
  cleared = is_new doc q name x.before || is_healthy (judged q name x node);
  queued = (is_wanting (judged q name x node) && not (is_crossed (judged q name x node) node))
      && (pushes_again doc.settings.rules.queue || is_short (judged q name x node) node || is_new doc q name x.before);
  pushed = is_short (judged q name x node) node || is_new doc q name x.before;
}

abbrev pub verdict_in : Doc → Identity → Place → ℕ → Passed → Option (Version × Node) → Option Verdict
verdict_in doc q place name x None = None
verdict_in doc q place name x (Some y) = if is_in place y.1 then Some (verdict doc q name x y.1) else None

-- what a pass says of a node where it found it in a zone
abbrev pub verdict_of : Doc → Identity → Place → ℕ → Passed → Option Verdict
verdict_of doc q place name x = verdict_in doc q place name x (seen_node q name x.before)

-- ---- a zone's queue: the names of the pushes that stand, the first one first. It begins anew where a pass finds no node of the zone

-- what a pass leaves of whether a node counts as pushed: None is as before
abbrev pub counts_by : Bool → Option Verdict → Option Bool
counts_by turned None = None
counts_by true (Some v) = Some false
counts_by false (Some v) = elim v.queued [ true ↦ Some true | false ↦ elim v.cleared [ true ↦ Some false | false ↦ None ] ]

-- whether the last pass that wanted a node in the queue or cleared it wanted it there: the last of its pushes and clearings is a push
abbrev pub counts : Doc → Identity → Place → ℕ → List Passed → Bool
counts doc q place name [] = false
counts doc q place name (x ∷ xs) =
    elim (is_zone q place x.before) [
      | true ↦ elim (counts_by (has_turned_on q x) (verdict_of doc q place name x)) [ None ↦ counts doc q place name xs | Some b ↦ b ]
      | false ↦ false
    ]

-- without the first of this name
abbrev pub without_first : ℕ → List ℕ → List ℕ
without_first name [] = []
without_first name (other ∷ others) = elim (other == name) [ true ↦ others | false ↦ other ∷ without_first name others ]

abbrev pub holds_name : ℕ → List ℕ → Bool
holds_name name names = list_any (λ other. other == name) names

-- a clearing takes the first push of a node that counts as pushed
abbrev pub clear : (clears counted : Bool) → ℕ → List ℕ → List ℕ
clear clears counted name names = if clears && counted then without_first name names else names

abbrev pub push : QueueRule → (pushes : Bool) → ℕ → List ℕ → List ℕ
push Once pushes name names = if pushes && not (holds_name name names) then names ++ name ∷ [] else names
push Again pushes name names = if pushes then names ++ name ∷ [] else names

-- a node is cleared, then pushed, and cleared where the pass turned the mode on; counted says whether it counts as pushed before
abbrev pub queue_verdict : QueueRule → Bool → Bool → ℕ → Verdict → List ℕ → List ℕ
queue_verdict rule turned counted name v names =
    clear turned (v.queued || counted && not v.cleared) name
    (push rule (v.queued && (v.pushed || not (counted && not v.cleared))) name (clear v.cleared counted name names))

abbrev pub queue_node : QueueRule → Bool → Bool → ℕ → Option Verdict → List ℕ → List ℕ
queue_node rule turned counted name None names = names
queue_node rule turned counted name (Some v) names = queue_verdict rule turned counted name v names

-- xs are the passes before
abbrev pub queue_pass : Doc → Identity → Place → Passed → List Passed → List ℕ → List ℕ → List ℕ
queue_pass doc q place x xs [] names = names
queue_pass doc q place x xs (name ∷ others) names =
    queue_pass doc q place x xs others
    (queue_node doc.settings.rules.queue (has_turned_on q x) (counts doc q place name xs) name (verdict_of doc q place name x) names)

abbrev pub to_back : List ℕ → List ℕ
to_back [] = []
to_back (name ∷ names) = names ++ name ∷ []

abbrev pub taken : Bool → List ℕ → List ℕ
taken counted [] = []
taken true (name ∷ names) = names
taken false names = names

-- a head that was written goes, where its node counts as pushed, and one that was refused or lost goes to the back
abbrev pub had_turn : Bool → (written : Bool) → List ℕ → List ℕ
had_turn counted true names = taken counted names
had_turn counted false names = to_back names

abbrev pub queue_head : Doc → Identity → Place → List Passed → Actor → Fact → List ℕ → List ℕ
queue_head doc q place xs who (Ticks (Head at node wanted given written tried)) names =
    if place_eq at place && is_by q who then had_turn (counts doc q place node xs) (is_accepted tried) names else names
queue_head doc q place xs who (Ticks (Skip at node)) names =
    if place_eq at place && is_by q who then had_turn (counts doc q place node xs) true names else names
queue_head doc q place xs who _ names = names

-- xs are the passes up to these entries
abbrev pub queue_heads : Doc → Identity → Place → List Passed → List Entry → List ℕ → List ℕ
queue_heads doc q place xs [] names = names
queue_heads doc q place xs (e ∷ es) names = queue_heads doc q place xs es (queue_head doc q place xs e.actor e.fact names)

abbrev pub queue : Doc → Identity → Place → List Passed → List ℕ
queue doc q place [] = []
queue doc q place (x ∷ xs) =
    elim (is_zone q place x.before) [
      | true ↦ queue_heads doc q place (x ∷ xs) x.after (queue_pass doc q place x xs (node_names x.before) (queue doc q place xs))
      | false ↦ []
    ]
