use Rattle.std.proofs.Common.{◌≡◌, ◌∙◌, ◌&&◌, ◌||◌, [], ◌∷◌, sym, ap, length, rules, arith}
use Rattle.std.proofs.lemmas.Grind.{common_steps}
use Rattle.kube_objects.specs.Feeds.{is_among}
use Rattle.kube_objects.specs.Keys.{key_eq}
use Rattle.term_state.specs.Sights.{has_touched, is_by_sight}
use Rattle.term_state.proofs.Judging.{end_pods, left_pods, next_pods}
use Rattle.term_state.proofs.Sighted.{retained_more, touched_next, touched_none}
use Rattle.term_state.proofs.cluster.Cluster.judge_pods.Goals as goal

pub loop-key-preserved : goal.loop-key-preserved
loop-key-preserved g c =
    let split : c.loop-key.rest.now ≡ c.in-Some.key.now ∷ c.in-Some.others.now = search rules in
    record {
      stands = λ q h nodes pods s synced.
          next_pods q h nodes pods c.args.keys.now c.loop-key.rest.now c.in-Some.others.now c.in-Some.key.now c.judge_like.new.self split
          (c.in_ok-judge_like.ensures.stands q h nodes (left_pods c.args.keys.now c.loop-key.rest.now pods) (c.loop-key.invariant.stands q h nodes pods s synced) synced (c.loop-key.invariant.last q h nodes pods s synced));
      last = λ q h nodes pods s synced.
          c.in_ok-judge_like.ensures.last q h nodes (left_pods c.args.keys.now c.loop-key.rest.now pods) (c.loop-key.invariant.stands q h nodes pods s synced) synced (c.loop-key.invariant.last q h nodes pods s synced);
      moved = λ n. c.in_ok-judge_like.ensures.moved n ∙ c.loop-key.invariant.moved n;
      retained = retained_more c.args.self.now c.loop-key.self c.judge_like.new.self c.loop-key.invariant.retained c.in_ok-judge_like.ensures.retained;
      touched = λ p.
          touched_next (is_by_sight c.args.self.now.evict_from) (key_eq c.in-Some.key.now p) (is_among c.in-Some.others.now p) (has_touched c.loop-key.self p) (has_touched c.judge_like.new.self p)
          (c.in_ok-judge_like.ensures.touched p ∙ ap (λ rule. (is_by_sight rule && key_eq c.in-Some.key.now p) || has_touched c.loop-key.self p) c.loop-key.invariant.retained.from)
          ∙ ap (λ xs. (is_by_sight c.args.self.now.evict_from && is_among xs p) || has_touched c.loop-key.self p) (sym split)
          ∙ c.loop-key.invariant.touched p;
      counted = omega (arith, ap length split, c.in_ok-judge_like.ensures.counted, c.loop-key.invariant.counted);
    }

pub returns-clause-stands : goal.returns-clause-stands
returns-clause-stands g c q h nodes pods s synced =
    let empty : c.loop-key.rest.now ≡ [] = grind (arith, common_steps) in
    end_pods q h nodes pods c.args.keys.now c.loop-key.rest.now c.loop-key.self empty (c.loop-key.invariant.stands q h nodes pods s synced)

pub returns-clause-touched : goal.returns-clause-touched
returns-clause-touched g c p =
    let empty : c.loop-key.rest.now ≡ [] = grind (arith, common_steps) in
    sym (touched_none (is_by_sight c.args.self.now.evict_from) (has_touched c.loop-key.self p))
    ∙ ap (λ xs. (is_by_sight c.args.self.now.evict_from && is_among xs p) || has_touched c.loop-key.self p) (sym empty)
    ∙ c.loop-key.invariant.touched p
