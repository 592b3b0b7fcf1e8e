-- What a pass, and the end of the all-Full mode, make of a node's part.
use Rattle.std.proofs.Common.{rules, ◌≡◌, ◌∙◌, ◌&&◌, ◌||◌, ℕ, not, Bool, true, false, cond, List, [], ◌∷◌, Option, Some, None, option_map, refl, sym, ap, arith}
use Rattle.std.proofs.lemmas.Bool.Decides.{nat_tests}
use Rattle.kube_base.specs.declared.numbers.Wall.{Wall}
use Rattle.kube_objects.specs.declared.node.Node.{Node}
use Rattle.kube_objects.specs.declared.node.Ready.{Ready}
use Rattle.kube_objects.specs.Clocks.{local}
use Rattle.kube_objects.specs.Document.{Doc}
use Rattle.kube_objects.specs.Entry.{Entry, Identity, Fact, Ticks, Pass, Mode, actor_of}
use Rattle.kube_objects.specs.Health.{at_pass, grace_of, hears, heartbeat, is_found, is_known, is_later, is_news, is_probe, is_unknown, keeps, kept_heartbeat, kept_renewal, last_pass, marked, pass_says, probe, renewal, with_mark}
use Rattle.kube_objects.specs.Identities.{is_by}
use Rattle.kube_objects.specs.Newest.{has, join, newest, only_if, or_else, or_zero, when}
use Rattle.kube_objects.specs.Tick.{add}
use Rattle.node_health.specs.declared.grace.Grace.{Grace}
use Rattle.node_health.specs.declared.known.Known.{Known}
use Rattle.node_health.specs.declared.verdict.Verdict.TheVariants.{Keep, MarkUnknown}
use Rattle.node_health.specs.Kept.{after_look, at_reading, grace_for, judged, newer, probe_after, reason_for, verdict_of}
use Rattle.node_health.specs.Stands.{IsGraceOf, NodeStands}

pub mine : (q : Identity) → is_by q (actor_of q) ≡ true
mine q = grind (arith, nat_tests)

-- what an entry says, and else the entries before it
abbrev pub said : {A : Type 0} → Option A → Option A → Option A
said now before = elim now [ None ↦ before | Some x ↦ Some x ]

-- ---- what the entries before say

abbrev pub finds : Identity → ℕ → List Entry → Option Bool
finds q name h = newest (λ e T. at_pass q (λ T. Some (is_found q name T)) e.actor e.fact T) h

abbrev pub heartbeats : Identity → ℕ → List Entry → Option (Option Wall)
heartbeats q name h = newest (λ e T. at_pass q (λ T. keeps (is_found q name T) (heartbeat q name T)) e.actor e.fact T) h

abbrev pub renewals : Identity → ℕ → List Entry → Option (Option Wall)
renewals q name h = newest (λ e T. at_pass q (λ T. keeps (is_found q name T) (renewal q name T)) e.actor e.fact T) h

abbrev pub probes : Identity → ℕ → List Entry → Option ℕ
probes q name h = newest (λ e T. when (is_probe q name e.actor e.fact T) e.beat) h

-- ---- a pass

pass-known : (k : ℕ) (q : Identity) (h : List Entry) (name : ℕ) → is_known q name (add k q Pass h) ≡ is_found q name h
pass-known k q h name = ap (λ b. or_else false (said (only_if b (Some (is_found q name h))) (finds q name h))) (mine q)

pass-heartbeat : (k : ℕ) (q : Identity) (h : List Entry) (name : ℕ)
    → kept_heartbeat q name (add k q Pass h) ≡ join (said (keeps (is_found q name h) (heartbeat q name h)) (heartbeats q name h))
pass-heartbeat k q h name = ap (λ b. join (said (only_if b (keeps (is_found q name h) (heartbeat q name h))) (heartbeats q name h))) (mine q)

pass-renewal : (k : ℕ) (q : Identity) (h : List Entry) (name : ℕ)
    → kept_renewal q name (add k q Pass h) ≡ join (said (keeps (is_found q name h) (renewal q name h)) (renewals q name h))
pass-renewal k q h name = ap (λ b. join (said (only_if b (keeps (is_found q name h) (renewal q name h))) (renewals q name h))) (mine q)

pass-probe : (k : ℕ) (q : Identity) (h : List Entry) (name : ℕ) → probe q name (add k q Pass h) ≡ cond (hears q name h) k (probe q name h)
pass-probe k q h name = ap (λ b. or_zero (said (when (b && hears q name h) k) (probes q name h))) (mine q) ∙ by_test (hears q name h)
  where
    by_test : (b : Bool) → or_zero (said (when b k) (probes q name h)) ≡ cond b k (probe q name h)
    by_test true = refl
    by_test false = refl

keeps-newer : (at : Option Wall) (before : Option (Option Wall)) → newer at (join before) ≡ join (said (keeps true at) before)
keeps-newer None before = refl
keeps-newer (Some at) before = refl

pub local-cond : (doc : Doc) (p k before : ℕ) (b : Bool) → local doc p (cond b k before) ≡ cond b (local doc p k) (local doc p before)
local-cond doc p k before true = refl
local-cond doc p k before false = refl

hears-known : (q : Identity) (h : List Entry) (doc : Doc) (name : ℕ) (known : Known) (at renewed : Option Wall) → NodeStands doc q h name (Some known)
    → heartbeat q name h ≡ at → renewal q name h ≡ renewed → hears q name h ≡ (is_news at known.heartbeat || is_later renewed known.renewal)
hears-known q h doc name known at renewed s shown lease =
    λ i. not (sym s.known i) || is_news (shown i) (sym s.heartbeat i) || is_later (lease i) (sym s.renewal i)

hears-unknown : (q : Identity) (h : List Entry) (doc : Doc) (name : ℕ) → NodeStands doc q h name None → hears q name h ≡ true
hears-unknown q h doc name s =
    ap (λ b. not b || is_news (heartbeat q name h) (kept_heartbeat q name h) || is_later (renewal q name h) (kept_renewal q name h)) (sym s.known)

-- the reading of the probe after the pass
pub probe-looked : (doc : Doc) (k : ℕ) (q : Identity) (h : List Entry) (name : ℕ) (x : Option Known) (at renewed : Option Wall) (now : ℕ)
    → NodeStands doc q h name x → heartbeat q name h ≡ at → renewal q name h ≡ renewed → now ≡ local doc q.process k
    → probe_after x at renewed now ≡ local doc q.process (probe q name (add k q Pass h))
probe-looked doc k q h name None at renewed now s shown lease reading =
    reading ∙ sym (ap (local doc q.process) (pass-probe k q h name ∙ ap (λ b. cond b k (probe q name h)) (hears-unknown q h doc name s)))
probe-looked doc k q h name (Some known) at renewed now s shown lease reading =
    let hears_is = hears-known q h doc name known at renewed s shown lease in
    (λ i. cond (sym hears_is i) (reading i) (s.probe i))
    ∙ sym (local-cond doc q.process k (probe q name h) (hears q name h))
    ∙ sym (ap (local doc q.process) (pass-probe k q h name))

pub node-looked : (doc : Doc) (k : ℕ) (q : Identity) (h : List Entry) (name : ℕ) (x : Option Known) (at renewed : Option Wall) (now : ℕ)
    → NodeStands doc q h name x → is_found q name h ≡ true → heartbeat q name h ≡ at → renewal q name h ≡ renewed → now ≡ local doc q.process k
    → NodeStands doc q (add k q Pass h) name (Some (after_look x at renewed now))
node-looked doc k q h name x at renewed now s found shown lease reading =
    record {
      known = sym (pass-known k q h name ∙ found);
      heartbeat =
          ap (newer at) s.heartbeat
          ∙ keeps-newer at (heartbeats q name h)
          ∙ sym (pass-heartbeat k q h name ∙ (λ i. join (said (keeps (found i) (shown i)) (heartbeats q name h))));
      renewal =
          ap (newer renewed) s.renewal
          ∙ keeps-newer renewed (renewals q name h)
          ∙ sym (pass-renewal k q h name ∙ (λ i. join (said (keeps (found i) (lease i)) (renewals q name h))));
      probe = probe-looked doc k q h name x at renewed now s shown lease reading;
    }

-- a node that the pass doesn't find
pub node-missed : (doc : Doc) (k : ℕ) (q : Identity) (h : List Entry) (name : ℕ) → is_found q name h ≡ false → NodeStands doc q (add k q Pass h) name None
node-missed doc k q h name missed =
    record {
      known = sym (pass-known k q h name ∙ missed);
      heartbeat = sym (pass-heartbeat k q h name ∙ ap (λ b. join (said (keeps b (heartbeat q name h)) (heartbeats q name h))) missed);
      renewal = sym (pass-renewal k q h name ∙ ap (λ b. join (said (keeps b (renewal q name h)) (renewals q name h))) missed);
      probe = tt;
    }

-- ---- the verdict

reason-marked : (at : ℕ) (r : Option Ready) → reason_for r ≡ (marked at r).reason
reason-marked at None = refl
reason-marked at (Some r) = refl

pub grace-is : (doc : Doc) (grace : Grace) (r : Option Ready) → IsGraceOf doc grace → grace_for grace r ≡ grace_of doc r
grace-is doc grace None is = is.startup
grace-is doc grace (Some r) is = is.grace

pub judged-mark : (at : ℕ) (node : Node) (silent : Bool) → judged node.ready silent ≡ verdict_of (when (not (is_unknown node.ready) && silent) (with_mark at node))
judged-mark at node silent = by_test (not (is_unknown node.ready) && silent)
  where
    by_test : (b : Bool) → cond b (MarkUnknown (reason_for node.ready)) Keep ≡ verdict_of (when b (with_mark at node))
    by_test true = ap MarkUnknown (reason-marked at node.ready)
    by_test false = refl

-- ---- the end of the all-Full mode

pub node-reset : (doc : Doc) (k : ℕ) (q : Identity) (h : List Entry) (name now : ℕ) (x : Option Known) → NodeStands doc q h name x → now ≡ local doc q.process k
    → NodeStands doc q (add k q (Mode false) h) name (option_map (at_reading now) x)
node-reset doc k q h name now None s reading = record { known = s.known; heartbeat = s.heartbeat; renewal = s.renewal; probe = tt }
node-reset doc k q h name now (Some known) s reading =
    record {
      known = s.known;
      heartbeat = s.heartbeat;
      renewal = s.renewal;
      probe = reading ∙ ap (λ b. local doc q.process (or_zero (said (when b k) (probes q name h)))) (sym (mine q));
    }

-- ---- a term that has had no pass

unpassed : {A : Type 0} (q : Identity) (f : List Entry → Option A) (h : List Entry) → last_pass q h ≡ None → newest (λ e T. at_pass q f e.actor e.fact T) h ≡ None
unpassed q f [] none = refl
unpassed {A} q f (e ∷ h) none = by_fact e.fact none (unpassed q f h)
  where
    by_owner : (b : Bool) → said (when b e.beat) (last_pass q h) ≡ None → (last_pass q h ≡ None → newest (λ e T. at_pass q f e.actor e.fact T) h ≡ None)
        → said (only_if b (f h)) (newest (λ e T. at_pass q f e.actor e.fact T) h) ≡ None
    by_owner true none rest = absurd (search (rules, none))
    by_owner false none rest = rest none

    by_fact : (d : Fact) → said (pass_says q e.beat e.actor d) (last_pass q h) ≡ None → (last_pass q h ≡ None → newest (λ e T. at_pass q f e.actor e.fact T) h ≡ None)
        → said (at_pass q f e.actor d h) (newest (λ e T. at_pass q f e.actor e.fact T) h) ≡ None
    by_fact (Ticks Pass) none rest = by_owner (is_by q e.actor) none rest
    by_fact _ none rest = rest none

pub node-new : (doc : Doc) (q : Identity) (h : List Entry) (name : ℕ) → last_pass q h ≡ None → NodeStands doc q h name None
node-new doc q h name none =
    record {
      known = sym (ap (or_else false) (unpassed q (λ T. Some (is_found q name T)) h none));
      heartbeat = sym (ap join (unpassed q (λ T. keeps (is_found q name T) (heartbeat q name T)) h none));
      renewal = sym (ap join (unpassed q (λ T. keeps (is_found q name T) (renewal q name T)) h none));
      probe = tt;
    }
