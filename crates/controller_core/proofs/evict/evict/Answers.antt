use Rattle.std.proofs.Common.{◌≡◌, ◌∙◌, ◌≤◌, ◌<◌, ◌+◌, ◌-◌, ◌*◌, ◌==◌, ◌||◌, nat_le, ℕ, not, Bool, true, false, Some, None, ap, refl, sym, subst, arith, List}
use Rattle.std.specs.Prelude.{if◌then◌else◌}
use Rattle.std.proofs.lemmas.Bool.{leb-true}
use Rattle.std.specs.Option.{IfNone}
use Rattle.kube_objects.specs.declared.key.Key.{Key}
use Rattle.kube_objects.specs.Keys.{key_eq}
use Rattle.kube_objects.specs.Tick as model
use Rattle.kube_objects.specs.Tick.{evict, evicted}
use Rattle.kube_objects.specs.Wire.{loses_requests}
use Rattle.rate_bucket.specs.Allowing.{Allowed, has_room, owed_at, taken}
use Rattle.tick_laws.specs.Judged.{is_by_now, term_due}
use Rattle.term_state.specs.ClusterStands.{ClusterBut, but_pod, no_node, no_pod, ClusterStands, has_moved}
use Rattle.term_state.specs.Queues.{IsFirstDue}
use Rattle.term_state.specs.Sights.{SettledBy, spent}
use Rattle.term_state.proofs.Widen.{and_not}
use Rattle.controller_core.specs.Allowing.{AllowanceStands}
use Rattle.controller_core.specs.Costs.{HaveCost}
use Rattle.controller_core.specs.Deleting.{Deleting}
use Rattle.controller_core.proofs.Allowed.{room_there, allowance_free}
use Rattle.controller_core.proofs.Evicting.Walking.{dues_wider, evict_costs}
use Rattle.controller_core.proofs.Evicting.Within.{begin_within, end_full, end_quiet, evicted_costs, first_now, lost_all, next_within}
use Rattle.std.proofs.lemmas.Bool.Decides.{nat_tests}
use Rattle.std.proofs.lemmas.Result.{on_ok_weaker}
use Rattle.kube_objects.specs.declared.deed.Deed.{Deed}
use Rattle.kube_objects.specs.Document.{Doc}
use Rattle.kube_objects.specs.Entry.{Entry, Identity}
use Rattle.history_laws.proofs.Plainly.{false_is, true_is}
use Rattle.object_store.specs.declared.store.Store.{Store}
use Rattle.term_state.specs.declared.cluster.Cluster.{Cluster}
use Rattle.term_state.specs.declared.told.Told.{Told}
use Rattle.term_state.specs.MidTick.{MidTick}
use Rattle.controller_core.proofs.evict.evict.Goals as goal

-- the rows are settled
settled : (doc : Doc) (q : Identity) (k : ℕ) (before : List Deed) (h : List Entry) (c d : Cluster) (s : Store) (t : Told) → d.evict_from ≡ c.evict_from → ((n : ℕ) → has_moved d n ≡ has_moved c n)
    → MidTick doc q k before h c s t → ClusterStands q h d → SettledBy doc.settings.rules.evict_from doc q h no_pod d → Deleting doc q k before h no_pod d s t
settled doc q k before h c d s t from moved r stands rows = record {
  dues = record { cluster = stands; from = from ∙ r.from; settled = rows };
  moved = λ n out. r.moved n (sym (moved n) ∙ out);
  store = r.store;
  told = r.told;
  synced = r.synced;
}

no_limit : (b : Bool) (limited : Bool) → limited ≡ not b → limited ≡ false → b ≡ true
no_limit true limited is off = refl
no_limit false limited is off = absurd (true_is (sym is ∙ off))

a_limit : (b : Bool) (limited : Bool) → limited ≡ not b → limited ≡ true → b ≡ false
a_limit true limited is on = absurd (false_is (sym is ∙ on))
a_limit false limited is on = refl

zero_is : (a b : ℕ) → a ≡ b → (a == 0) ≡ true → b ≡ 0
zero_is a b same is = grind (arith, nat_tests)

some_is : (a b : ℕ) → a ≡ b → (a == 0) ≡ false → 1 ≤ b
some_is a b same is = grind (arith, nat_tests)

-- a token is worth so much, and was there
token_taken : (a : Allowed) (now : ℕ) → (a.burst == 0) ≡ false → has_room a now ≡ true → owed_at a now + 1000000000000000 ≤ a.burst * 1000000000000000
token_taken a now limited room = leb-true _ _ (sym (ap (λ b. b || nat_le (owed_at a now + 1000000000000000) (a.burst * 1000000000000000)) limited) ∙ room)

taken_is : (a : Allowed) (now : ℕ) → (a.burst == 0) ≡ false → taken a now ≡ record { burst = a.burst; rate = a.rate; owed = owed_at a now + 1000000000000000; at = now }
taken_is a now limited = ap (λ b. (if b then a else record { burst = a.burst; rate = a.rate; owed = owed_at a now + 1000000000000000; at = now })) limited

fewer_owed : (a b : Allowed) (now : ℕ) → (a.burst == 0) ≡ false → has_room a now ≡ true → b ≡ taken a now → b.burst * 1000000000000000 - owed_at b now < a.burst * 1000000000000000 - owed_at a now
fewer_owed a b now limited room is =
    subst (λ x. x.burst * 1000000000000000 - owed_at x now < a.burst * 1000000000000000 - owed_at a now) (sym (is ∙ taken_is a now limited))
    (let one = token_taken a now limited room in let none : (now - now) * a.rate ≡ 0 = (let zero : now - now ≡ 0 = omega arith in subst (λ n. n * a.rate ≡ 0) (sym zero) (omega arith)) in omega (arith, one, none))

passing : (lost : Bool) (passes : Bool) → passes ≡ not lost → passes ≡ true → lost ≡ false
passing true passes is on = sym on ∙ is
passing false passes is on = refl

pub returns-then-not-is_limited : goal.returns-then-not-is_limited
returns-then-not-is_limited g c doc k q before h beats upto kept r v a =
    let free = zero_is c.args.allowance.now.burst doc.settings.rules.evict_burst a.burst (no_limit _ c.is_limited.result c.is_limited.ensures c.if-not-is_limited.true) in
    let d = settled doc q k before h c.args.cluster.now c.settle_rows.new.self c.args.store.now c.args.told.now c.settle_rows.ensures.from c.settle_rows.ensures.moved r
    (c.in_ok-settle_rows.ensures.stands doc k q h r.cluster r.from r.sights) (c.in_ok-settle_rows.ensures.settled doc k q h r.cluster r.synced r.from r.sights kept v.time) in
    on_ok_weaker c.evict_all.result
    (λ all. (all.0, allowance_free doc q h (evicted doc k q h) c.args.allowance.now free a, omega (arith, all.1, c.in_ok-settle_rows.ensures.counted)))
    (c.evict_all.ensures doc k q before h free d v)

pub returns-then-not-view : goal.returns-then-not-view
returns-then-not-view g c doc k q before h beats upto kept r v a =
    let d = settled doc q k before h c.args.cluster.now c.settle_rows.new.self c.args.store.now c.args.told.now c.settle_rows.ensures.from c.settle_rows.ensures.moved r
    (c.in_ok-settle_rows.ensures.stands doc k q h r.cluster r.from r.sights) (c.in_ok-settle_rows.ensures.settled doc k q h r.cluster r.synced r.from r.sights kept v.time) in
    let both = lost_all doc k q before c.args.allowance.now c.settle_rows.new.self c.args.store.now c.args.view.now c.args.told.now c.if-not-view.true h
    (some_is c.args.allowance.now.burst doc.settings.rules.evict_burst a.burst (a_limit _ c.is_limited.result c.is_limited.ensures c.if-not-is_limited.false)) d v a in
    (both.0, both.1, let cost = evicted_costs doc k q h c.settle_rows.new.steps in omega (arith, cost, c.in_ok-settle_rows.ensures.counted))

pub loop-cluster-init : goal.loop-cluster-init
loop-cluster-init g c = record {
  limited = a_limit _ c.is_limited.result c.is_limited.ensures c.if-not-is_limited.false;
  walk = λ doc k q before h some beats upto kept r v a.
      let d = settled doc q k before h c.args.cluster.now c.settle_rows.new.self c.args.store.now c.args.told.now c.settle_rows.ensures.from c.settle_rows.ensures.moved r
      (c.in_ok-settle_rows.ensures.stands doc k q h r.cluster r.from r.sights) (c.in_ok-settle_rows.ensures.settled doc k q h r.cluster r.synced r.from r.sights kept v.time) in (
        h,
        None,
        begin_within doc k q before h c.args.allowance.now c.settle_rows.new.self c.args.store.now c.args.view.now c.args.told.now some d v a (beats, upto),
        omega (arith, c.in_ok-settle_rows.ensures.counted),
      );
}

pub loop-cluster-smaller : goal.loop-cluster-smaller
loop-cluster-smaller g c = fewer_owed c.loop-cluster.allowance c.take.new.self c.args.view.now.now.0 c.loop-cluster.invariant.limited (sym c.is_there.ensures ∙ c.loop-cluster-test.true) c.take.ensures

pub loop-cluster-preserved : goal.loop-cluster-preserved
loop-cluster-preserved g c = record {
  limited = ap (λ (x : Allowed). x.burst == 0) (c.take.ensures ∙ taken_is c.loop-cluster.allowance c.args.view.now.now.0 c.loop-cluster.invariant.limited) ∙ c.loop-cluster.invariant.limited;
  walk = λ doc k q before h some beats upto kept r v a.
      let i = c.loop-cluster.invariant.walk doc k q before h some beats upto kept r v a in
      let now = i.0 in
      let w = i.2 in
      let pod = c.in-Some.pod in
      let room : model.has_room doc q k 0 now ≡ true =
      sym (room_there doc k q now c.loop-cluster.allowance c.args.view.now.now.0 w.view.reading some w.allowance w.beats.0 w.beats.1) ∙ sym c.is_there.ensures ∙ c.loop-cluster-test.true in
      let first = subst (λ t. IsFirstDue doc q now t pod) w.view.time (c.in-Some.ensures.first doc q now w.deleting.dues.cluster w.deleting.dues.from w.deleting.dues.settled) in
      let out : Key → Bool = λ p. no_pod p || key_eq pod p in
      let more : Deleting doc q k before now out c.next_due.new.self c.loop-cluster.store c.loop-cluster.told = record {
        dues = record {
          cluster = c.in-Some.ensures.stands q now no_pod w.deleting.dues.cluster;
          from = c.next_due.ensures.from ∙ w.deleting.dues.from;
          settled = c.in-Some.ensures.settled doc q now no_pod w.deleting.dues.settled;
        };
        moved = λ n apart. w.deleting.moved n (sym (c.next_due.ensures.moved n) ∙ apart);
        store = w.deleting.store;
        told = w.deleting.told;
        synced = w.deleting.synced;
      } in
      let due = first_now doc k q before h now i.1 c.loop-cluster.allowance c.loop-cluster.cluster c.loop-cluster.store c.args.view.now c.loop-cluster.told w pod first room in
      let e = c.in_ok-evict_one.ensures.stands doc k q before now out more w.view due in
      let left : Deleting doc q k before (evict doc k q pod now) no_pod c.evict_one.new.cluster c.evict_one.new.store c.evict_one.new.told = record {
        dues = dues_wider doc q (evict doc k q pod now) (but_pod pod out) no_pod c.evict_one.new.cluster (λ p is. and_not (key_eq pod p)) e.dues;
        moved = e.moved;
        store = e.store;
        told = e.told;
        synced = e.synced;
      } in (
        evict doc k q pod now,
        Some (first.at, pod),
        next_within doc k q before h now i.1 c.loop-cluster.allowance c.loop-cluster.cluster c.loop-cluster.store c.args.view.now c.loop-cluster.told w pod first room
            c.take.new.self c.evict_one.new.cluster c.evict_one.new.store c.evict_one.new.told (passing (loses_requests q.process now) c.args.view.now.passes w.view.passes c.if-not-view.false) left
            c.args.view.now.now.0 w.view.reading c.take.ensures,
        omega (arith, i.3, c.next_due.ensures.counted, c.in_ok-evict_one.ensures.counted, evict_costs doc k q pod now due),
      );
}

pub returns-in_default : goal.returns-in_default
returns-in_default g c doc k q before h beats upto kept r v a =
    let some = some_is c.args.allowance.now.burst doc.settings.rules.evict_burst a.burst (a_limit _ c.is_limited.result c.is_limited.ensures c.if-not-is_limited.false) in
    let i = c.loop-cluster.invariant.walk doc k q before h some beats upto kept r v a in
    let w = i.2 in
    let rule = doc.settings.rules.evict_from in
    let stands : ClusterBut q i.0 no_node no_pod c.next_due.new.self × SettledBy rule doc q i.0 no_pod c.next_due.new.self =
    subst (λ o. IfNone o (ClusterBut q i.0 no_node no_pod c.next_due.new.self × SettledBy rule doc q i.0 no_pod c.next_due.new.self)) c.in_default.is (c.next_due.ensures.kept doc q i.0 no_pod w.deleting.dues.cluster w.deleting.dues.settled) in
    let quiet = subst (λ o. IfNone o ((key : Key) → is_by_now c.args.view.now.wall.0 (term_due doc q key i.0) ≡ false)) c.in_default.is
    (c.next_due.ensures.none doc q i.0 w.deleting.dues.cluster w.deleting.dues.from w.deleting.dues.settled) in
    let same = end_quiet doc k q before h i.0 i.1 c.loop-cluster.allowance c.loop-cluster.cluster c.loop-cluster.store c.args.view.now c.loop-cluster.told w
    (λ p. ap (λ t. is_by_now t (term_due doc q p i.0)) (sym w.view.time) ∙ quiet p) in
    subst (λ g. Deleting doc q k before g no_pod c.next_due.new.self c.loop-cluster.store c.loop-cluster.told × AllowanceStands doc q g c.loop-cluster.allowance
    × HaveCost q k h g (spent c.args.cluster.now c.args.steps.now + 1) c.next_due.new.steps) same (
      record {
        dues = record { cluster = stands.0; from = c.next_due.ensures.from ∙ w.deleting.dues.from; settled = stands.1 };
        moved = λ n out. w.deleting.moved n (sym (c.next_due.ensures.moved n) ∙ out);
        store = w.deleting.store;
        told = w.deleting.told;
        synced = w.deleting.synced;
      },
      w.allowance,
      omega (arith, i.3, c.next_due.ensures.counted),
    )

pub returns : goal.returns
returns g c doc k q before h beats upto kept r v a =
    let some = some_is c.args.allowance.now.burst doc.settings.rules.evict_burst a.burst (a_limit _ c.is_limited.result c.is_limited.ensures c.if-not-is_limited.false) in
    let i = c.loop-cluster.invariant.walk doc k q before h some beats upto kept r v a in
    let w = i.2 in
    let full : model.has_room doc q k 0 i.0 ≡ false =
    sym (room_there doc k q i.0 c.loop-cluster.allowance c.args.view.now.now.0 w.view.reading some w.allowance w.beats.0 w.beats.1) ∙ sym c.is_there.ensures ∙ c.loop-cluster-test.false in
    let same = end_full doc k q before h i.0 i.1 c.loop-cluster.allowance c.loop-cluster.cluster c.loop-cluster.store c.args.view.now c.loop-cluster.told w full in
    subst (λ g. Deleting doc q k before g no_pod c.loop-cluster.cluster c.loop-cluster.store c.loop-cluster.told × AllowanceStands doc q g c.loop-cluster.allowance
    × HaveCost q k h g (spent c.args.cluster.now c.args.steps.now + 1) c.loop-cluster.steps) same (w.deleting, w.allowance, omega (arith, i.3))
