-- The claims on evictions: a controller deletes a pod only when it is due on the controller's clock, and at the first tick that
-- reaches the store and is within the limit. The first and the limit hold of every document, the second of those that go by the project's own
-- rules in all that nothing runs yet. Source: Kubernetes, Taints and Tolerations; client-go, `flowcontrol`; the profile.
use Rattle.std.specs.Prelude.{ℕ, zero, suc, ◌+◌, ◌-◌, ◌*◌, ◌/◌, ◌≤◌, ◌≡◌, ◌⊎◌, ◌&&◌, nat_le, Bool, true, false, List, [], ◌∷◌, Option, Some, None}
use Rattle.kube_base.specs.declared.numbers.Version.{Version}
use Rattle.kube_objects.specs.declared.call.Answer.{Answer}
use Rattle.kube_objects.specs.declared.call.Answer.TheVariants as answer
use Rattle.kube_objects.specs.declared.deed.Actor.{Actor}
use Rattle.kube_objects.specs.declared.deed.Actor.TheVariants as actor
use Rattle.kube_objects.specs.declared.key.Key.{Key}
use Rattle.kube_objects.specs.declared.node.Node.{Node}
use Rattle.kube_objects.specs.declared.pod.Due.{Due}
use Rattle.kube_objects.specs.declared.pod.Due.TheVariants.{Never, At}
use Rattle.kube_objects.specs.declared.pod.Pod.{Pod}
use Rattle.kube_objects.specs.declared.rules.EvictRule.{EvictRule}
use Rattle.kube_objects.specs.declared.rules.EvictRule.TheVariants.{Added, Seen}
use Rattle.kube_objects.specs.Answers.{as_kind, node_in}
use Rattle.kube_objects.specs.Clocks.{local, wall}
use Rattle.kube_objects.specs.Document.{Doc, end_beat}
use Rattle.kube_objects.specs.Entry.{Entry, Identity, Fact, Ticks, Delete}
use Rattle.kube_objects.specs.Identities.{identity}
use Rattle.kube_objects.specs.InForce.{watches}
use Rattle.kube_objects.specs.Newest.{count}
use Rattle.kube_objects.specs.Seen.{pod_in, is_pod}
use Rattle.kube_objects.specs.Sightings.{sighted_due}
use Rattle.kube_objects.specs.Stalls.{is_stalled}
use Rattle.kube_objects.specs.Stored.{stored, node_key}
use Rattle.kube_objects.specs.Tick.{has_settled, has_room, spends}
use Rattle.kube_objects.specs.Tokens.{token_size}
use Rattle.kube_objects.specs.Tolerations.{due}
use Rattle.kube_objects.specs.Wire.{loses_requests}
use Rattle.history.specs.History.{whole_history, at_turn}
use Rattle.history.specs.Safe.{IsActing}
use Rattle.history.specs.Steps.{turn}

-- ---- when a stored pod is due

abbrev pub stored_node : ℕ → List Entry → Option (Version × Node)
stored_node name h = as_kind node_in (stored (node_key name) h)

abbrev pub stored_pod : Key → List Entry → Option (Version × Pod)
stored_pod key h = as_kind pod_in (stored key h)

abbrev pub due_on : Pod → Option (Version × Node) → Due
due_on pod None = Never
due_on pod (Some y) = due pod y.1

abbrev pub due_of : Option (Version × Pod) → List Entry → Due
due_of None h = Never
due_of (Some x) h = due_on x.1 (stored_node x.1.node h)

-- when a pod is due that is stored, and whose node is
abbrev pub pod_due : Key → List Entry → Due
pod_due pod h = due_of (stored_pod pod h) h

abbrev pub IsDue : ℕ → Due → Type 0
IsDue now Never = ⊥
IsDue now (At at) = at ≤ now

-- ---- not early

abbrev pub IfDone : Option Answer → Type 0 → Type 0
IfDone (Some (answer.Done version)) holds = holds
IfDone _ holds = Unit {0}

abbrev pub IfBy : Actor → (Identity → Type 0) → Type 0
IfBy actor.Script holds = Unit {0}
IfBy (actor.Proc id incarnation) holds = holds (identity id.0 incarnation)

-- when a pod is due: by what is stored, or by what the term has seen of it. So a term evicts nobody sooner than the seconds of a
-- toleration of its own time of day after it first saw that the pod tolerates its node's taints for so long
abbrev pub due_for : EvictRule → Doc → Identity → Key → List Entry → Due
due_for Added doc q pod h = pod_due pod h
due_for Seen doc q pod h = sighted_due doc q pod h

-- an accepted delete takes a pod that is due; h is the history before it
abbrev pub NotEarlyAt : Doc → ℕ → Actor → Fact → List Entry → Type 0
NotEarlyAt doc k who (Ticks (Delete pod given node_given at tried)) h =
    IfDone tried (IfBy who (λ q. IsDue (wall doc q.process k) (due_for doc.settings.rules.evict_from doc q pod h)))
NotEarlyAt doc k who _ h = Unit {0}

abbrev pub NotEarlyIn : Doc → List Entry → Type 0
NotEarlyIn doc [] = Unit {0}
NotEarlyIn doc (e ∷ h) = NotEarlyAt doc e.beat e.actor e.fact h × NotEarlyIn doc h

abbrev pub NotEarly : Doc → Type 0
NotEarly doc = NotEarlyIn doc (whole_history doc)

-- ---- prompt

-- the history after a process's turn in beat k
abbrev pub after_turn : Doc → ℕ → ℕ → List Entry
after_turn doc p k = turn doc k p (at_turn doc p k)

-- of a pod that is stored
abbrev pub due_where : Option (Version × Pod) → Due → Due
due_where None due = Never
due_where (Some x) due = due

abbrev pub stored_due : EvictRule → Doc → Identity → Key → List Entry → Due
stored_due Added doc q pod h = pod_due pod h
stored_due Seen doc q pod h = due_where (stored_pod pod h) (sighted_due doc q pod h)

-- no pod is due that is stored, and whose node is where what is stored counts
abbrev pub NoneDue : Doc → Identity → ℕ → List Entry → Type 0
NoneDue doc q k h = (pod : Key) → is_pod pod.kind ≡ true → IsDue (wall doc q.process k) (stored_due doc.settings.rules.evict_from doc q pod h) → ⊥

-- with a limit no token is left where one is
abbrev pub NoneDueWithin : ℕ → Doc → Identity → ℕ → List Entry → Type 0
NoneDueWithin zero doc q k h = NoneDue doc q k h
NoneDueWithin (suc burst) doc q k h = NoneDue doc q k h ⊎ (has_room doc q k 0 h ≡ false)

-- after the tick of a controller with its watch on and its requests passing; a term has no tick that does anything before it has
-- settled, and none while the store stands still
abbrev pub PromptAt : Doc → Identity → ℕ → Type 0
PromptAt doc q k =
    IsActing doc q k
    → is_stalled doc k ≡ false
    → has_settled doc k q (at_turn doc q.process k) ≡ true
    → watches doc q.process (at_turn doc q.process k) ≡ true
    → loses_requests q.process (at_turn doc q.process k) ≡ false
    → NoneDueWithin doc.settings.rules.evict_burst doc q k (after_turn doc q.process k)

abbrev pub Prompt : Doc → Type 0
Prompt doc = (q : Identity) (k : ℕ) → k ≤ end_beat doc → PromptAt doc q k

-- ---- the limit

abbrev pub is_within : Doc → Identity → (x y : ℕ) → ℕ → Bool
is_within doc q x y k = nat_le x (local doc q.process k) && nat_le (local doc q.process k) y

-- how many deletes of a term that weren't lost have readings from x to y
abbrev pub deletes_within : Doc → Identity → (x y : ℕ) → List Entry → ℕ
deletes_within doc q x y h = count (λ e. spends q e.actor e.fact && is_within doc q x y e.beat) h

abbrev pub IsLimited : ℕ → Doc → Type 0
IsLimited zero doc = Unit {0}
IsLimited (suc burst) doc = (q : Identity) (x y : ℕ) → x ≤ y
    → deletes_within doc q x y (whole_history doc) ≤ suc burst + (y - x) * doc.settings.rules.evict_rate / token_size

-- a term's deletes keep the limit, where there is one
abbrev pub Limit : Doc → Type 0
Limit doc = IsLimited doc.settings.rules.evict_burst doc
