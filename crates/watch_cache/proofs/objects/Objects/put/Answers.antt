use Rattle.std.proofs.Common.{◌≡◌, ◌&&◌, ◌||◌, not, false, cond, Some, OnOk, sym, ap, ◌∙◌, subst}
use Rattle.kube_objects.specs.declared.key.Key.{Key}
use Rattle.kube_objects.specs.Keys.{key_eq}
use Rattle.kube_objects.specs.Stored.{node_key}
use Rattle.key_map.specs.Values.{value_at}
use Rattle.watch_cache.specs.contracts.listing.ListingPartialEq.TheImpl as listings
use Rattle.watch_cache.specs.Kept.{is_node, is_node_in, is_pod_in, is_pod_on}
use Rattle.watch_cache.specs.Listed.{has_node, has_pod, lists_node, lists_pod}
use Rattle.watch_cache.specs.Objects.{object_at}
use Rattle.watch_cache.proofs.IndexLaws.{indexed_as, indexed_over, with}
use Rattle.watch_cache.proofs.Moves.{apart_nodes, apart_pods, indexed_alike, moved, node_absent, pod_absent, put_in_place, undone}
use Rattle.watch_cache.proofs.Same.{same_listing}
use Rattle.watch_cache.proofs.objects.Objects.put.Goals as goal
use Rattle.watch_cache.proofs.objects.Objects.put.Goals.{in-Ok, in-Err}

pub invariant_of-self : goal.invariant_of-self
invariant_of-self c =
    let old = c.args.self.now in
    let key = c.args.key in
    let objects = value_at old.map in
    let put = Some (c.args.version, c.args.object) in
    let same : c.listing_at-left.result ≡ c.listed_as-entered.result = same_listing c.listing_at-left.result c.listed_as-entered.result (sym c.eq.ensures ∙ c.if-eq.true) in
    record {
      indexed = put_in_place c.insert.result objects (value_at c.insert.new.self) old.index key put old.indexed
          (λ n. sym (c.listed_as-entered.ensures.nodes n) ∙ ap (λ l. lists_node l n) (sym same) ∙ c.listing_at-left.ensures.nodes n)
          (λ n k. sym (c.listed_as-entered.ensures.pods n k) ∙ ap (λ l. lists_pod l n k) (sym same) ∙ c.listing_at-left.ensures.pods n k)
          c.insert.ensures.put c.insert.ensures.same;
    }

pub invariant_of-self-in-Ok : goal.invariant_of-self-in-Ok
invariant_of-self-in-Ok c =
    let old = c.args.self.now in
    let key = c.args.key in
    let objects = value_at old.map in
    let put = Some (c.args.version, c.args.object) in
    let left = c.listing_at-left.result in
    let entered = c.listed_as-entered.result in
    let other : (listings.eq-value).it left entered ≡ false = sym c.eq.ensures ∙ c.if-eq.false in
    record {
      indexed = indexed_as (with key put objects) (value_at c.insert-2.new.self) c.leave.new.self
          (indexed_over objects old.index c.leave.new.self key put old.indexed
          (λ n.
          c.leave.ensures.nodes n
          ∙ ap (λ b. not (lists_node left n) && b) (c.in_ok-enter.ensures.nodes n)
          ∙ moved (lists_node left n) (lists_node entered n) (has_node old.index n) (apart_nodes left entered n other)
          ∙ ap (λ b. b || (not (lists_node left n) && has_node old.index n)) (c.listed_as-entered.ensures.nodes n)
          ∙ ap (λ b. (key_eq key (node_key n) && is_node_in put) || (not b && has_node old.index n)) (c.listing_at-left.ensures.nodes n))
          (λ n k.
          c.leave.ensures.pods n k
          ∙ ap (λ b. not (lists_pod left n k) && b) (c.in_ok-enter.ensures.pods n k)
          ∙ moved (lists_pod left n k) (lists_pod entered n k) (has_pod old.index n k) (apart_pods left entered n k other)
          ∙ ap (λ b. b || (not (lists_pod left n k) && has_pod old.index n k)) (c.listed_as-entered.ensures.pods n k)
          ∙ ap (λ b. (is_pod_in n put && key_eq key k) || (not b && has_pod old.index n k)) (c.listing_at-left.ensures.pods n k)))
          c.in-Ok.ensures.put;
    }

pub invariant_of-self-in-Err : goal.invariant_of-self-in-Err
invariant_of-self-in-Err c =
    let old = c.args.self.now in
    let key = c.args.key in
    let objects = value_at old.map in
    let entered = c.listed_as-entered.result in
    record {
      indexed = indexed_as objects (value_at c.insert-2.new.self) c.leave-in-Err.new.self
          (indexed_alike objects old.index c.leave-in-Err.new.self old.indexed
          (λ n.
          c.leave-in-Err.ensures.nodes n
          ∙ ap (λ b. not (lists_node entered n) && b) (c.in_ok-enter.ensures.nodes n)
          ∙ undone (lists_node entered n) (has_node old.index n)
          (λ is. node_absent objects old.index key n (is_node c.args.object) old.indexed c.in-Err.ensures.absent (sym (c.listed_as-entered.ensures.nodes n) ∙ is)))
          (λ n k.
          c.leave-in-Err.ensures.pods n k
          ∙ ap (λ b. not (lists_pod entered n k) && b) (c.in_ok-enter.ensures.pods n k)
          ∙ undone (lists_pod entered n k) (has_pod old.index n k)
          (λ is. pod_absent objects old.index key k n (is_pod_on n c.args.object) old.indexed c.in-Err.ensures.absent (sym (c.listed_as-entered.ensures.pods n k) ∙ is))))
          c.in-Err.ensures.same;
    }

pub returns-clause-ok : goal.returns-clause-ok
returns-clause-ok c =
    let old = c.args.self.now in
    let put = Some (c.args.version, c.args.object) in
    elim c.match-insert.branch [
      | in-Ok w ↦ subst (λ r. OnOk r ((k : Key) → object_at c.match-insert.self k ≡ cond (key_eq c.args.key k) put (object_at old k))) (sym w.result-is)
          (λ k. ap (λ s. object_at s k) w.self-is ∙ w.in-Ok.ensures.put k)
      | in-Err w ↦ subst (λ r. OnOk r ((k : Key) → object_at c.match-insert.self k ≡ cond (key_eq c.args.key k) put (object_at old k))) (sym w.result-is) tt
    ]
