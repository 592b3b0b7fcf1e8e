-- Entries through which the health of nodes stands: those of another actor, those of a kind that it doesn't look at, and marks of other nodes.
use Rattle.std.proofs.Common.{rules, ◌≡◌, ◌∙◌, ◌==◌, ◌&&◌, ◌||◌, ◌+◌, ℕ, not, Bool, true, false, cond, nat_lt, List, ◌∷◌, Option, Some, None, option_map, refl, sym, ap, subst}
use Rattle.kube_base.specs.declared.numbers.Version.{Version}
use Rattle.kube_base.specs.declared.numbers.Wall.{Wall}
use Rattle.kube_objects.specs.declared.call.Answer.{Answer}
use Rattle.kube_objects.specs.declared.lease.Lease.{Lease}
use Rattle.kube_objects.specs.declared.node.Node.{Node}
use Rattle.kube_objects.specs.declared.rules.ProbeRule.{ProbeRule}
use Rattle.kube_objects.specs.declared.rules.ProbeRule.TheVariants as probes_by
use Rattle.kube_objects.specs.Clocks.{local, wall, whole_second}
use Rattle.kube_objects.specs.Document.{Doc}
use Rattle.kube_objects.specs.Entry.{Fact, Entry, Identity, Mark, Mode, Pass, Ticks, actor_of, entry}
use Rattle.kube_objects.specs.Health.{at_pass, counts, found_ready, grace_of, heard, hears, heartbeat, is_found, is_probe, is_recorded, is_unknown, keeps, kept_lease, lease_of, lease_says, leaves_ready, left_ready, mark_of, renewal, renews, with_mark}
use Rattle.kube_objects.specs.Identities.{is_by}
use Rattle.kube_objects.specs.Newest.{join, only_if, or_else, or_zero, when}
use Rattle.kube_objects.specs.Seen.{is_accepted, seen_lease, seen_node}
use Rattle.kube_objects.specs.Tick.{add}
use Rattle.node_health.specs.declared.health.Health.{Health}
use Rattle.node_health.specs.declared.known.Known.{Known}
use Rattle.node_health.specs.Kept.{kept}
use Rattle.node_health.specs.Stands.{AreAlike, HealthStands, NodeStands, NodeStandsBy, PassStands, RecordStands, is_of_health, left_heartbeat}
use Rattle.node_health.proofs.Looks.{finds, heartbeats, probes, renewals, said}
use Rattle.node_health.proofs.Records.{recordeds, said_lease}

-- ---- what stands for both of two histories that say the same of a node

pub alike-same : (q : Identity) (name : ℕ) (h : List Entry) → AreAlike q name h h
alike-same q name h = record { known = refl; heartbeat = refl; renewal = refl; probe = refl; left = refl; lease = refl; recorded = refl }

-- one after the other
pub alike-then : (q : Identity) (name : ℕ) (h g i : List Entry) → AreAlike q name h g → AreAlike q name g i → AreAlike q name h i
alike-then q name h g i s t =
    record {
      known = t.known ∙ s.known;
      heartbeat = t.heartbeat ∙ s.heartbeat;
      renewal = t.renewal ∙ s.renewal;
      probe = t.probe ∙ s.probe;
      left = t.left ∙ s.left;
      lease = t.lease ∙ s.lease;
      recorded = t.recorded ∙ s.recorded;
    }

-- of each node
abbrev pub SaysSame : Identity → List Entry → List Entry → Type 0
SaysSame q h g = (name : ℕ) → AreAlike q name h g

pub says-same : (q : Identity) (h : List Entry) → SaysSame q h h
says-same q h name = alike-same q name h

pub says-then : (q : Identity) (h g i : List Entry) → SaysSame q h g → SaysSame q g i → SaysSame q h i
says-then q h g i s t name = alike-then q name h g i (s name) (t name)

node-same : (doc : Doc) (q : Identity) (h g : List Entry) (name : ℕ) (x : Option Known) → AreAlike q name h g → NodeStands doc q h name x → NodeStands doc q g name x
node-same doc q h g name None same s =
    record { known = s.known ∙ sym same.known; heartbeat = s.heartbeat ∙ sym same.heartbeat; renewal = s.renewal ∙ sym same.renewal; probe = tt }
node-same doc q h g name (Some known) same s =
    record {
      known = s.known ∙ sym same.known;
      heartbeat = s.heartbeat ∙ sym same.heartbeat;
      renewal = s.renewal ∙ sym same.renewal;
      probe = s.probe ∙ ap (local doc q.process) (sym same.probe);
    }

record-same : (doc : Doc) (q : Identity) (h g : List Entry) (name : ℕ) (x : Option Known) → AreAlike q name h g → RecordStands doc q h name x → RecordStands doc q g name x
record-same doc q h g name None same s =
    record { left = s.left ∙ ap (option_map left_heartbeat) (sym same.left); lease = s.lease ∙ ap (option_map (λ (l : Lease). l.renewed)) (sym same.lease); probe = tt }
record-same doc q h g name (Some known) same s =
    record {
      left = s.left ∙ ap (option_map left_heartbeat) (sym same.left);
      lease = s.lease ∙ ap (option_map (λ (l : Lease). l.renewed)) (sym same.lease);
      probe = s.probe ∙ ap (local doc q.process) (sym same.recorded);
    }

pub stands-alike : (rule : ProbeRule) (doc : Doc) (q : Identity) (h g : List Entry) (name : ℕ) (x : Option Known) → AreAlike q name h g → NodeStandsBy rule doc q h name x → NodeStandsBy rule doc q g name x
stands-alike probes_by.Run doc q h g name x same s = node-same doc q h g name x same s
stands-alike probes_by.Record doc q h g name x same s = record-same doc q h g name x same s

pub health-same : (doc : Doc) (q : Identity) (h g : List Entry) (x : Health) → ((name : ℕ) → AreAlike q name h g) → HealthStands doc q h x → HealthStands doc q g x
health-same doc q h g x same s = record { rule = s.rule; nodes = λ name. stands-alike x.rule doc q h g name (kept x name) (same name) (s.nodes name) }

heard-same : (rule : ProbeRule) (q : Identity) (name : ℕ) (h g : List Entry) → AreAlike q name h g → heard rule q name g ≡ heard rule q name h
heard-same probes_by.Run q name h g same = same.probe
heard-same probes_by.Record q name h g same = same.recorded

-- a node is to be marked as before
pub mark-same : (doc : Doc) (q : Identity) (h g : List Entry) (k name : ℕ) (node : Node) → AreAlike q name h g → mark_of doc q k name node g ≡ mark_of doc q k name node h
mark-same doc q h g k name node same =
    ap (λ at. when (not (is_unknown node.ready) && nat_lt (local doc q.process at + grace_of doc node.ready) (local doc q.process k)) (with_mark (whole_second (wall doc q.process k)) node))
    (heard-same doc.settings.rules.probe q name h g same)

-- ---- entries after which a node is known as before

quiet : (q : Identity) (h : List Entry) (e : Entry) (name : ℕ) → ((A : Type 0) (f : List Entry → Option A) → at_pass q f e.actor e.fact h ≡ None)
    → is_probe q name e.actor e.fact h ≡ false → leaves_ready q name e.actor e.fact h ≡ None → lease_says q name e.actor e.fact (kept_lease q name h) h ≡ None
    → is_recorded q name e.actor e.fact h ≡ false → AreAlike q name h (e ∷ h)
quiet q h e name unpassed unprobed unleft unleased unrecorded =
    record {
      known = ap (λ o. or_else false (said o (finds q name h))) (unpassed Bool (λ T. Some (is_found q name T)));
      heartbeat = ap (λ o. join (said o (heartbeats q name h))) (unpassed (Option Wall) (λ T. keeps (is_found q name T) (heartbeat q name T)));
      renewal = ap (λ o. join (said o (renewals q name h))) (unpassed (Option Wall) (λ T. keeps (is_found q name T) (renewal q name T)));
      probe = ap (λ b. or_zero (said (when b e.beat) (probes q name h))) unprobed;
      left = ap (λ o. said o (left_ready q name h)) unleft;
      lease = ap (or_else (kept_lease q name h)) unleased;
      recorded = ap (λ b. or_zero (said (when b e.beat) (recordeds q name h))) unrecorded;
    }

-- an entry of a kind that isn't looked at
pub unheard-kind : (q : Identity) (h : List Entry) (e : Entry) → is_of_health e.fact ≡ false → (name : ℕ) → AreAlike q name h (e ∷ h)
unheard-kind q h e other name =
    quiet q h e name (λ A f. by_fact f e.fact other) (unprobed e.fact other) (unleft e.fact other) (unleased e.fact other) (unrecorded e.fact other)
  where
    by_fact : {A : Type 0} (f : List Entry → Option A) (d : Fact) → is_of_health d ≡ false → at_pass q f e.actor d h ≡ None
    by_fact f (Ticks Pass) other = absurd (search (rules, other))
    by_fact f _ other = refl

    unprobed : (d : Fact) → is_of_health d ≡ false → is_probe q name e.actor d h ≡ false
    unprobed (Ticks Pass) other = absurd (search (rules, other))
    unprobed (Ticks (Mode false)) other = absurd (search (rules, other))
    unprobed _ other = refl

    unleft : (d : Fact) → is_of_health d ≡ false → leaves_ready q name e.actor d h ≡ None
    unleft (Ticks Pass) other = absurd (search (rules, other))
    unleft (Ticks (Mark node given written tried)) other = absurd (search (rules, other))
    unleft _ other = refl

    unleased : (d : Fact) → is_of_health d ≡ false → lease_says q name e.actor d (kept_lease q name h) h ≡ None
    unleased (Ticks Pass) other = absurd (search (rules, other))
    unleased (Ticks (Mark node given written tried)) other = absurd (search (rules, other))
    unleased _ other = refl

    unrecorded : (d : Fact) → is_of_health d ≡ false → is_recorded q name e.actor d h ≡ false
    unrecorded (Ticks Pass) other = absurd (search (rules, other))
    unrecorded (Ticks (Mode false)) other = absurd (search (rules, other))
    unrecorded _ other = refl

-- an entry of another actor
pub unheard-foreign : (q : Identity) (h : List Entry) (e : Entry) → is_by q e.actor ≡ false → (name : ℕ) → AreAlike q name h (e ∷ h)
unheard-foreign q h e other name = quiet q h e name (λ A f. by_fact f e.fact) (unprobed e.fact) (unleft e.fact) (unleased e.fact) (unrecorded e.fact)
  where
    no_mark : {A : Type 0} (same done : Bool) (x : A) → when (same && (is_by q e.actor && done)) x ≡ None
    no_mark true done x = ap (λ b. when (b && done) x) other
    no_mark false done x = refl

    by_fact : {A : Type 0} (f : List Entry → Option A) (d : Fact) → at_pass q f e.actor d h ≡ None
    by_fact f (Ticks Pass) = ap (λ b. only_if b (f h)) other
    by_fact f _ = refl

    unprobed : (d : Fact) → is_probe q name e.actor d h ≡ false
    unprobed (Ticks Pass) = ap (λ b. b && hears q name h) other
    unprobed (Ticks (Mode false)) = other
    unprobed _ = refl

    unleft : (d : Fact) → leaves_ready q name e.actor d h ≡ None
    unleft (Ticks Pass) = ap (λ b. only_if b (found_ready (seen_node q name h))) other
    unleft (Ticks (Mark node given written tried)) = no_mark (node == name) (is_accepted tried) written.ready
    unleft _ = refl

    unleased : (d : Fact) → lease_says q name e.actor d (kept_lease q name h) h ≡ None
    unleased (Ticks Pass) =
        ap (λ b. said_lease (b && is_found q name h) (counts q name h) (renews q name h) (lease_of (seen_lease q name h))) other
    unleased (Ticks (Mark node given written tried)) = no_mark (node == name) (is_accepted tried) (lease_of (seen_lease q name h))
    unleased _ = refl

    unrecorded : (d : Fact) → is_recorded q name e.actor d h ≡ false
    unrecorded (Ticks Pass) = ap (λ b. b && (is_found q name h && (renews q name h || counts q name h))) other
    unrecorded (Ticks (Mode false)) = ap (λ b. b && is_found q name h) other
    unrecorded _ = refl

-- ---- marks of other nodes, and those that aren't accepted

pub alike-mark-other : (q : Identity) (k : ℕ) (h : List Entry) (node name : ℕ) (given : Version) (written : Node) (tried : Option Answer) → (node == name) ≡ false
    → AreAlike q name h (add k q (Mark node given written tried) h)
alike-mark-other q k h node name given written tried apart =
    quiet q h (entry k 4 q (Ticks (Mark node given written tried))) name (λ A f. refl) refl
    (ap (λ b. when (b && (is_by q (actor_of q) && is_accepted tried)) written.ready) apart)
    (ap (λ b. when (b && (is_by q (actor_of q) && is_accepted tried)) (lease_of (seen_lease q name h))) apart)
    refl

pub alike-mark-refused : (q : Identity) (k : ℕ) (h : List Entry) (node name : ℕ) (given : Version) (written : Node) (tried : Option Answer) → is_accepted tried ≡ false
    → AreAlike q name h (add k q (Mark node given written tried) h)
alike-mark-refused q k h node name given written tried refused =
    quiet q h (entry k 4 q (Ticks (Mark node given written tried))) name (λ A f. refl) refl
    (ap (λ b. when ((node == name) && (is_by q (actor_of q) && b)) written.ready) refused ∙ never written.ready)
    (ap (λ b. when ((node == name) && (is_by q (actor_of q) && b)) (lease_of (seen_lease q name h))) refused ∙ never (lease_of (seen_lease q name h)))
    refl
  where
    by_tests : {A : Type 0} (a b : Bool) (x : A) → when (a && (b && false)) x ≡ None
    by_tests true true x = refl
    by_tests true false x = refl
    by_tests false b x = refl

    never : {A : Type 0} (x : A) → when ((node == name) && (is_by q (actor_of q) && false)) x ≡ None
    never x = by_tests (node == name) (is_by q (actor_of q)) x

-- ---- nodes that a pass has looked at, by another test

pub pass-same : (doc : Doc) (q : Identity) (h g : List Entry) (looked other : ℕ → Bool) (x : Health) → ((name : ℕ) → looked name ≡ other name)
    → PassStands doc q h g looked x → PassStands doc q h g other x
pass-same doc q h g looked other x same s = record { rule = s.rule; nodes = λ name. subst (λ b. NodeStandsBy x.rule doc q (cond b g h) name (kept x name)) (same name) (s.nodes name) }

-- a mark that isn't accepted changes nothing of what is kept
pub pass-mark-refused : (doc : Doc) (k : ℕ) (q : Identity) (h g : List Entry) (looked : ℕ → Bool) (node : ℕ) (given : Version) (written : Node) (tried : Option Answer) (x : Health)
    → is_accepted tried ≡ false → PassStands doc q h g looked x → PassStands doc q h (add k q (Mark node given written tried) g) looked x
pass-mark-refused doc k q h g looked node given written tried x refused s = record { rule = s.rule; nodes = λ name. by_looked name (looked name) (s.nodes name) }
  where
    by_looked : (name : ℕ) (b : Bool) → NodeStandsBy x.rule doc q (cond b g h) name (kept x name) → NodeStandsBy x.rule doc q (cond b (add k q (Mark node given written tried) g) h) name (kept x name)
    by_looked name true s = stands-alike x.rule doc q g (add k q (Mark node given written tried) g) name (kept x name) (alike-mark-refused q k g node name given written tried refused) s
    by_looked name false s = s
