use Rattle.std.proofs.Common.{◌≡◌, ◌∙◌, ℕ, List, ap, sym, subst, true, false, arith}
use Rattle.std.specs.Prelude.{if◌then◌else◌}
use Rattle.std.proofs.lemmas.Result.{on_ok_weaker}
use Rattle.kube_objects.specs.declared.deed.Deed.{Deed}
use Rattle.kube_objects.specs.Document.{Doc}
use Rattle.kube_objects.specs.Entry.{Entry, Identity}
use Rattle.kube_objects.specs.Health.{is_of_beat}
use Rattle.kube_objects.specs.Seen.{is_synced}
use Rattle.kube_objects.specs.Tainting.{before_tick, waits}
use Rattle.kube_objects.specs.Tick.{sync, tick, phases}
use Rattle.node_health.proofs.Frames.{health-same}
use Rattle.object_store.specs.declared.store.Store.{Store}
use Rattle.term_state.specs.declared.told.Told.{Told}
use Rattle.term_state.specs.ClusterStands.{ClusterStands, no_pod}
use Rattle.term_state.specs.MidTick.{IsMoved}
use Rattle.term_state.specs.Sights.{touched_len}
use Rattle.term_state.proofs.Sighted.{untouched_len}
use Rattle.term_state.proofs.Viewing.{view_ticked}
use Rattle.tick_laws.specs.Since.{AreReached}
use Rattle.tick_laws.specs.Steps.{tick_cost}
use Rattle.tick_laws.proofs.Phases.{reached_after_tick, sync_heads, sync_limits}
use Rattle.tick_laws.proofs.Sights.{sync_sights}
use Rattle.tick_laws.proofs.Steps.{cost_start}
use Rattle.tick_laws.proofs.Ticked.{sync_ticked, ticked_before}
use Rattle.tick_laws.proofs.Waiting.{no_heads_start}
use Rattle.controller_core.specs.declared.term.Term.{Term}
use Rattle.controller_core.specs.TermStands.{Went, acted}
use Rattle.controller_core.proofs.Allowed.{allowance_synced, synced_beats}
use Rattle.controller_core.proofs.Between.{held_stands, last_stands, limits_stand, sync_says, told_synced, unsynced_none}
use Rattle.controller_core.proofs.Evicting.Settled.{settled_none}
use Rattle.controller_core.proofs.FirstSync.{settles_ticked}
use Rattle.controller_core.proofs.HeadsKept.{heads_begun}
use Rattle.controller_core.proofs.term.Term.begin.Goals as goal

went_same : (doc : Doc) (k : ℕ) (q : Identity) (before : List Deed) (h g : List Entry) (t : Term) (s : Store) (o : Told) → g ≡ h → Went doc k q before h t s o → Went doc k q before g t s o
went_same doc k q before h g t s o is w = subst (λ f. Went doc k q before f t s o) (sym is) w

pub returns-then-not-is_synced : goal.returns-then-not-is_synced
returns-then-not-is_synced g c doc k q before h s st told v beats upto led start unpassed small =
    let one = c.in_ok-sync.ensures.stands doc k q h (s.parts.settles led) s.cluster st s.reached v s.from in
    let seen = c.in_ok-sync.ensures.sights doc k q h (s.parts.settles led) s.cluster st s.reached v start s.from s.sights in
    let none : touched_len c.args.self.now.cluster ≡ 0 = untouched_len c.args.self.now.cluster (settled_none doc.settings.rules.evict_from doc q h no_pod c.args.self.now.cluster s.sights) in
    let unsynced : is_synced q (sync doc k q h) ≡ false = sym (c.is_synced.ensures q (sync doc k q h) one.0) ∙ c.if-not-is_synced.true in
    let same = unsynced_none doc k q h unsynced in
    let whole : tick doc k q h ≡ sync doc k q h = ap (λ b. (if b then phases doc k q (sync doc k q h) else (sync doc k q h))) unsynced in (
      went_same doc k q before h (tick doc k q h) _ _ _ (whole ∙ same)
          (record {
            term = record {
              cluster = subst (λ f. ClusterStands q f c.sync.new.cluster) same one.0;
              from = seen.0;
              sights = seen.2 unsynced;
              reached = s.reached;
              parts = record {
                allowance = s.parts.allowance;
                health = s.parts.health;
                limits = s.parts.limits;
                queues = s.parts.queues;
                held = s.parts.held;
                last = s.parts.last;
                range = s.parts.range;
                settles = s.parts.settles;
                settings = s.parts.settings;
              };
            };
            store = st;
            told = told;
          }),
      omega (arith, one.1, none, ap (tick_cost q k) whole),
    )

pub returns : goal.returns
returns g c doc k q before h s st told v beats upto led start unpassed small =
    let f = sync doc k q h in
    let one = c.in_ok-sync.ensures.stands doc k q h (s.parts.settles led) s.cluster st s.reached v s.from in
    let seen = c.in_ok-sync.ensures.sights doc k q h (s.parts.settles led) s.cluster st s.reached v start s.from s.sights in
    let none : touched_len c.args.self.now.cluster ≡ 0 = untouched_len c.args.self.now.cluster (settled_none doc.settings.rules.evict_from doc q h no_pod c.args.self.now.cluster s.sights) in
    let order = synced_beats doc k q h (beats, upto) in
    let synced : is_synced q f ≡ true = sym (c.is_synced.ensures q f one.0) ∙ c.if-not-is_synced.false in
    let beneath : before_tick q k f ≡ before_tick q k h = ticked_before q k h f (sync_ticked doc k q h) in
    let moved : IsMoved q k h c.args.self.now.cluster = λ n out place. ap (waits q place n) (sym start) in
    let whole : tick doc k q h ≡ acted doc k q f = ap (λ b. (if b then phases doc k q f else f)) synced in
    on_ok_weaker c.act.result
    (λ two. (
      subst (λ f. Went doc k q before f c.act.new.self c.act.new.store c.act.new.told) (sym whole) (record {
        term = record {
          cluster = two.0.running.dues.cluster;
          from = two.0.running.dues.from;
          sights = two.0.running.dues.settled;
          reached = subst (AreReached q) whole (reached_after_tick doc k q h s.reached);
          parts = two.0.parts;
        };
        store = two.0.running.store;
        told = two.0.running.told;
      }),
      omega (arith, one.1, two.1, none, cost_start q k h start, ap (tick_cost q k) whole),
    ))
    (c.act.ensures doc k q before f (record {
      running = record {
        cluster = one.0;
        from = seen.0;
        sights = seen.1;
        moved = c.in_ok-sync.ensures.moved doc k q h (s.parts.settles led) s.cluster st s.reached v moved beneath;
        store = c.in_ok-sync.ensures.store doc k q h st;
        told = told_synced doc k q before h c.args.told.now told;
        synced = synced;
      };
      allowance = allowance_synced doc k q c.args.self.now.allowance h s.parts.allowance;
      health = health-same doc q h f c.args.self.now.health (sync_says doc k q h) s.parts.health;
      limits = limits_stand doc q h f c.args.self.now.zones (sync_limits doc k q h) s.parts.limits;
      queues = heads_begun doc k q h f c.args.self.now.zones (sync_limits doc k q h) (beneath ∙ start) s.parts.queues;
      held = held_stands q h f c.args.self.now.held (sync_limits doc k q h).known s.parts.held;
      passed = ap (is_of_beat k) (sync_limits doc k q h).passed ∙ unpassed;
      heads = sync_heads doc k q h (no_heads_start q k h start);
      last = last_stands doc q h f c.args.self.now.last (sync_limits doc k q h).passed ((sync_limits doc k q h).period doc) s.parts.last;
      range = s.parts.range;
      settles = settles_ticked doc q k h f c.args.self.now.settles (sync_ticked doc k q h) s.parts.settles;
      settings = s.parts.settings;
    }) (view_ticked doc k q h f c.args.view.now (sync_ticked doc k q h) v) order.0 order.1 (sync_sights doc k q h start) small)
