-- The looks of a pass, its marks, and its end, by either rule.
use Rattle.std.proofs.Common.{◌≡◌, ◌∙◌, ◌==◌, ◌||◌, ◌+◌, ℕ, Bool, true, false, cond, nat_lt, List, Option, Some, None, refl, sym, ap, subst, arith}
use Rattle.std.proofs.lemmas.Bool.Decides.{nat_tests}
use Rattle.kube_base.specs.declared.numbers.Version.{Version}
use Rattle.kube_objects.specs.declared.call.Answer.{Answer}
use Rattle.kube_objects.specs.declared.lease.Lease.{Lease}
use Rattle.kube_objects.specs.declared.node.Node.{Node}
use Rattle.kube_objects.specs.declared.rules.ProbeRule.{ProbeRule}
use Rattle.kube_objects.specs.declared.rules.ProbeRule.TheVariants as probes
use Rattle.kube_objects.specs.Clocks.{local, wall, whole_second}
use Rattle.kube_objects.specs.Document.{Doc}
use Rattle.kube_objects.specs.Entry.{Entry, Identity, Mark, Mode, Pass}
use Rattle.kube_objects.specs.Health.{heard, is_found, is_silent, lease_of, lease_renewal, mark_of, node_heartbeat, ready_heartbeat}
use Rattle.kube_objects.specs.Newest.{has}
use Rattle.kube_objects.specs.Seen.{is_accepted, seen_lease}
use Rattle.kube_objects.specs.Tick.{add}
use Rattle.node_health.specs.declared.grace.Grace.{Grace}
use Rattle.node_health.specs.declared.health.Health.{Health}
use Rattle.node_health.specs.declared.known.Known.{Known}
use Rattle.node_health.specs.Kept.{grace_for, is_listed, judged, kept, verdict_of}
use Rattle.node_health.specs.Recorded.{after_mark, after_mode, after_others, after_seen, renewed_of}
use Rattle.node_health.specs.Stands.{AreAlike, AreUnlooked, HealthStands, IsLook, IsNoted, NodeStandsBy, PassStands, and_looked}
use Rattle.node_health.proofs.Frames.{alike-mark-other, stands-alike}
use Rattle.node_health.proofs.Looks.{grace-is, judged-mark, node-looked, node-missed, node-new, node-reset, probe-looked}
use Rattle.node_health.proofs.Records.{record-looked, record-marked, record-missed, record-new, record-reset, recorded-looked}

renewal-of : (o : Option (Version × Lease)) → renewed_of (lease_of o) ≡ lease_renewal o
renewal-of None = refl
renewal-of (Some x) = refl

-- ---- a look

module _ (doc : Doc) (k : ℕ) (q : Identity) (h g : List Entry) (node : ℕ) (seen : Node) (lease : Option Lease) (now : ℕ) (grace : Grace) (look : IsLook doc k q h g node seen lease now grace) where
  leased : lease_renewal (seen_lease q node h) ≡ renewed_of lease
  leased = sym (renewal-of (seen_lease q node h)) ∙ ap renewed_of look.lease

  pub seen-looked : (rule : ProbeRule) (x : Option Known) → NodeStandsBy rule doc q h node x → NodeStandsBy rule doc q g node (Some (after_seen rule x seen.ready lease now))
  seen-looked probes.Run x s =
      stands-alike probes.Run doc q (add k q Pass h) g node _ look.alike
      (node-looked doc k q h node x (ready_heartbeat seen.ready) (renewed_of lease) now s (ap has look.shown) (ap node_heartbeat look.shown) leased look.reading)
  seen-looked probes.Record x s =
      stands-alike probes.Record doc q (add k q Pass h) g node _ look.alike (record-looked doc k q h node x look.version seen lease now s look.shown look.lease look.reading)

  -- the probe that it leaves is when the node was heard of
  pub seen-heard : (rule : ProbeRule) (x : Option Known) → NodeStandsBy rule doc q h node x → (after_seen rule x seen.ready lease now).probe.0 ≡ local doc q.process (heard rule q node g)
  seen-heard probes.Run x s =
      probe-looked doc k q h node x (ready_heartbeat seen.ready) (renewed_of lease) now s (ap node_heartbeat look.shown) leased look.reading ∙ ap (local doc q.process) (sym look.alike.probe)
  seen-heard probes.Record x s =
      recorded-looked doc k q h node x look.version seen lease now s look.shown look.lease look.reading ∙ ap (local doc q.process) (sym look.alike.recorded)

  module _ (looked : ℕ → Bool) (old : Health) (s : PassStands doc q h g looked old) (fresh : looked node ≡ false) where
    here : NodeStandsBy old.rule doc q h node (kept old node)
    here = subst (λ b. NodeStandsBy old.rule doc q (cond b g h) node (kept old node)) fresh (s.nodes node)

    pub pass-looked : (new : Health) → new.rule ≡ old.rule
        → ((other : ℕ) → kept new other ≡ cond (node == other) (Some (after_seen old.rule (kept old node) seen.ready lease now)) (kept old other))
        → PassStands doc q h g (and_looked node looked) new
    pass-looked new same keeps = record {
      rule = same ∙ s.rule;
      nodes = λ name. subst (λ rule. NodeStandsBy rule doc q (cond (and_looked node looked name) g h) name (kept new name)) (sym same)
          (subst (NodeStandsBy old.rule doc q (cond (and_looked node looked name) g h) name) (sym (keeps name)) (by_test name (node == name) refl));
    }
      where
        by_test : (name : ℕ) (b : Bool) → (node == name) ≡ b
            → NodeStandsBy old.rule doc q (cond (b || looked name) g h) name (cond b (Some (after_seen old.rule (kept old node) seen.ready lease now)) (kept old name))
        by_test name true is =
            let same : node ≡ name = grind (arith, nat_tests, is) in
            subst (λ n. NodeStandsBy old.rule doc q g n (Some (after_seen old.rule (kept old node) seen.ready lease now))) same (seen-looked old.rule (kept old node) here)
        by_test name false is = s.nodes name

    pub look-marks : judged seen.ready (nat_lt ((after_seen old.rule (kept old node) seen.ready lease now).probe.0 + grace_for grace seen.ready) now) ≡ verdict_of (mark_of doc q k node seen g)
    look-marks = ap (judged seen.ready) silent_is ∙ judged-mark (whole_second (wall doc q.process k)) seen (is_silent doc q k node seen.ready g)
      where
        heard_is : (after_seen old.rule (kept old node) seen.ready lease now).probe.0 ≡ local doc q.process (heard doc.settings.rules.probe q node g)
        heard_is = seen-heard old.rule (kept old node) here ∙ ap (λ rule. local doc q.process (heard rule q node g)) s.rule

        silent_is : nat_lt ((after_seen old.rule (kept old node) seen.ready lease now).probe.0 + grace_for grace seen.ready) now ≡ is_silent doc q k node seen.ready g
        silent_is = λ i. nat_lt (heard_is i + grace-is doc grace seen.ready look.graces i) (look.reading i)

-- ---- an accepted mark

pub pass-marked : (doc : Doc) (k : ℕ) (q : Identity) (h g : List Entry) (looked : ℕ → Bool) (node : ℕ) (given : Version) (written : Node) (tried : Option Answer) (lease : Option Lease) (old new : Health)
    → PassStands doc q h g looked old → looked node ≡ true → is_accepted tried ≡ true → (old.rule ≡ probes.Record → IsNoted q g node written lease (kept old node)) → new.rule ≡ old.rule
    → ((other : ℕ) → kept new other ≡ cond (node == other) (after_mark old.rule lease (kept old node)) (kept old other))
    → PassStands doc q h (add k q (Mark node given written tried) g) looked new
pass-marked doc k q h g looked node given written tried lease old new s there done noted same keeps = record {
  rule = same ∙ s.rule;
  nodes = λ name. subst (λ rule. NodeStandsBy rule doc q (cond (looked name) (add k q (Mark node given written tried) g) h) name (kept new name)) (sym same)
      (subst (NodeStandsBy old.rule doc q (cond (looked name) (add k q (Mark node given written tried) g) h) name) (sym (keeps name)) (by_test name (node == name) refl));
}
  where
    by_rule : (rule : ProbeRule) (x : Option Known) → (rule ≡ probes.Record → IsNoted q g node written lease x) → NodeStandsBy rule doc q g node x → NodeStandsBy rule doc q (add k q (Mark node given written tried) g) node (after_mark rule lease x)
    by_rule probes.Run x is s = record { known = s.known; heartbeat = s.heartbeat; renewal = s.renewal; probe = s.probe }
    by_rule probes.Record x is s = record-marked doc k q g node given written tried lease x done (is refl) s

    other : (name : ℕ) → (node == name) ≡ false → (b : Bool) → NodeStandsBy old.rule doc q (cond b g h) name (kept old name) → NodeStandsBy old.rule doc q (cond b (add k q (Mark node given written tried) g) h) name (kept old name)
    other name apart true s = stands-alike old.rule doc q g (add k q (Mark node given written tried) g) name (kept old name) (alike-mark-other q k g node name given written tried apart) s
    other name apart false s = s

    by_test : (name : ℕ) (b : Bool) → (node == name) ≡ b → NodeStandsBy old.rule doc q (cond (looked name) (add k q (Mark node given written tried) g) h) name (cond b (after_mark old.rule lease (kept old node)) (kept old name))
    by_test name true is =
        let same : node ≡ name = grind (arith, nat_tests, is) in
        subst (λ n. NodeStandsBy old.rule doc q (cond (looked n) (add k q (Mark node given written tried) g) h) n (after_mark old.rule lease (kept old node))) same
        (subst (λ b. NodeStandsBy old.rule doc q (cond b (add k q (Mark node given written tried) g) h) node (after_mark old.rule lease (kept old node))) (sym there)
        (by_rule old.rule (kept old node) noted (subst (λ b. NodeStandsBy old.rule doc q (cond b g h) node (kept old node)) there (s.nodes node))))
    by_test name false is = other name is (looked name) (s.nodes name)

-- ---- the end of the looks

pub pass-forgotten : (doc : Doc) (k : ℕ) (q : Identity) (h g : List Entry) (names : List ℕ) (old new : Health)
    → PassStands doc q h g (is_listed names) old → ((node : ℕ) → is_found q node h ≡ is_listed names node)
    → ((node : ℕ) → is_listed names node ≡ false → AreAlike q node (add k q Pass h) g) → new.rule ≡ old.rule
    → ((node : ℕ) → kept new node ≡ after_others old.rule (is_listed names node) (kept old node)) → HealthStands doc q g new
pass-forgotten doc k q h g names old new s found alike same keeps = record {
  rule = same ∙ s.rule;
  nodes = λ name. subst (λ rule. NodeStandsBy rule doc q g name (kept new name)) (sym same)
      (subst (NodeStandsBy old.rule doc q g name) (sym (keeps name)) (by_test name (is_listed names name) refl));
}
  where
    missed : (name : ℕ) → is_listed names name ≡ false → (rule : ProbeRule) → NodeStandsBy rule doc q h name (kept old name) → NodeStandsBy rule doc q g name (after_others rule false (kept old name))
    missed name is probes.Run s = stands-alike probes.Run doc q (add k q Pass h) g name None (alike name is) (node-missed doc k q h name (found name ∙ is))
    missed name is probes.Record s = stands-alike probes.Record doc q (add k q Pass h) g name (kept old name) (alike name is) (record-missed doc k q h name (kept old name) (found name ∙ is) s)

    stays : (rule : ProbeRule) (name : ℕ) → NodeStandsBy rule doc q g name (kept old name) → NodeStandsBy rule doc q g name (after_others rule true (kept old name))
    stays probes.Run name s = s
    stays probes.Record name s = s

    by_test : (name : ℕ) (b : Bool) → is_listed names name ≡ b → NodeStandsBy old.rule doc q g name (after_others old.rule b (kept old name))
    by_test name true is = stays old.rule name (subst (λ b. NodeStandsBy old.rule doc q (cond b g h) name (kept old name)) is (s.nodes name))
    by_test name false is = missed name is old.rule (subst (λ b. NodeStandsBy old.rule doc q (cond b g h) name (kept old name)) is (s.nodes name))

-- ---- the end of the all-Full mode

pub mode-reset : (doc : Doc) (k : ℕ) (q : Identity) (h : List Entry) (names : List ℕ) (now : ℕ) (old new : Health) → HealthStands doc q h old → ((node : ℕ) → is_found q node h ≡ is_listed names node)
    → now ≡ local doc q.process k → new.rule ≡ old.rule → ((node : ℕ) → kept new node ≡ after_mode old.rule (is_listed names node) now (kept old node)) → HealthStands doc q (add k q (Mode false) h) new
mode-reset doc k q h names now old new s found reading same keeps = record {
  rule = same ∙ s.rule;
  nodes = λ name. subst (λ rule. NodeStandsBy rule doc q (add k q (Mode false) h) name (kept new name)) (sym same)
      (subst (NodeStandsBy old.rule doc q (add k q (Mode false) h) name) (sym (keeps name)) (by_rule name old.rule (s.nodes name)));
}
  where
    by_rule : (name : ℕ) (rule : ProbeRule) → NodeStandsBy rule doc q h name (kept old name) → NodeStandsBy rule doc q (add k q (Mode false) h) name (after_mode rule (is_listed names name) now (kept old name))
    by_rule name probes.Run s = node-reset doc k q h name now (kept old name) s reading
    by_rule name probes.Record s =
        subst (λ b. NodeStandsBy probes.Record doc q (add k q (Mode false) h) name (after_mode probes.Record b now (kept old name))) (found name) (record-reset doc k q h name now (kept old name) s reading)

-- ---- a term that has had no pass

pub health-new : (doc : Doc) (q : Identity) (h : List Entry) (x : Health) → x.rule ≡ doc.settings.rules.probe → AreUnlooked q h → ((name : ℕ) → kept x name ≡ None) → HealthStands doc q h x
health-new doc q h x same none keeps = record { rule = same; nodes = λ name. subst (NodeStandsBy x.rule doc q h name) (sym (keeps name)) (by_rule name x.rule) }
  where
    by_rule : (name : ℕ) (rule : ProbeRule) → NodeStandsBy rule doc q h name None
    by_rule name probes.Run = node-new doc q h name none.passes
    by_rule name probes.Record = record-new doc q h name (none.left name) (none.lease name)

-- ---- what is kept where nothing is noted

pub kept-itself : (x : ℕ → Option Known) (node other : ℕ) → x other ≡ cond (node == other) (x node) (x other)
kept-itself x node other = by_test (node == other) refl
  where
    by_test : (b : Bool) → (node == other) ≡ b → x other ≡ cond b (x node) (x other)
    by_test true is = let same : node ≡ other = grind (arith, nat_tests, is) in ap x (sym same)
    by_test false is = refl
