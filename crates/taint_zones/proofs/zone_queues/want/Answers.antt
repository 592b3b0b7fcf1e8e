use Rattle.std.proofs.Common.{rules, ◌≡◌, ◌∙◌, ℕ, ◌==◌, Bool, true, false, cond, sym, ap, refl, Option, Some, None, unwrap_or}
use Rattle.std.specs.Option.{option_copied_mut}
use Rattle.std.proofs.lemmas.Result.{on_ok_weaker, on_err_weaker}
use Rattle.kube_base.specs.declared.numbers.Beat.{Beat}
use Rattle.taint_zones.specs.Homes.{beat_number}
use Rattle.taint_zones.proofs.ZoneMaps.{begun, changed, kept}
use Rattle.taint_zones.proofs.zone_queues.want.Goals as goal

agree : (at : Beat) (o : Option Beat) → beat_number (Some (unwrap_or o at)) ≡ Some (unwrap_or (beat_number o) at.0)
agree at None = refl
agree at (Some b) = refl

alone : (node other : ℕ) (at : Beat) (mine theirs now : Option Beat) → mine ≡ None → theirs ≡ None → now ≡ cond (node == other) (Some (unwrap_or mine at)) theirs
    → beat_number now ≡ cond (node == other) (Some at.0) None
alone node other at mine theirs now no_mine no_theirs is =
    ap beat_number is
    ∙ ap (λ o. beat_number (cond (node == other) (Some (unwrap_or o at)) theirs)) no_mine
    ∙ ap (λ o. beat_number (cond (node == other) (Some at) o)) no_theirs
    ∙ by_test (node == other)
  where
    by_test : (b : Bool) → beat_number (cond b (Some at) None) ≡ cond b (Some at.0) None
    by_test true = refl
    by_test false = refl

pub returns-in-Some-clause-ok : goal.returns-in-Some-clause-ok
returns-in-Some-clause-ok c =
    on_ok_weaker c.want.result
    (changed c.args.zones.now (c.get_mut.follows.lender c.want.new.self) c.args.place c.args.node (λ o. Some (unwrap_or o c.args.at)) (λ o. Some (unwrap_or o c.args.at.0)) (agree c.args.at)
    c.in-Some.queue.now c.want.new.self (sym c.get_mut.ensures.value ∙ ap option_copied_mut c.in-Some.is) ((c.get_mut.follows.holds c.want.new.self).3 (search rules)))
    c.want.ensures.ok

pub returns-in-Some-clause-err : goal.returns-in-Some-clause-err
returns-in-Some-clause-err c =
    on_err_weaker c.want.result
    (kept c.args.zones.now (c.get_mut.follows.lender c.want.new.self) c.args.place c.in-Some.queue.now c.want.new.self
    (sym c.get_mut.ensures.value ∙ ap option_copied_mut c.in-Some.is) ((c.get_mut.follows.holds c.want.new.self).3 (search rules)))
    c.want.ensures.err

pub returns-in_ok-insert-in-None-clause-ok : goal.returns-in_ok-insert-in-None-clause-ok
returns-in_ok-insert-in-None-clause-ok c =
    begun c.args.zones.now c.get_mut.follows.lender-at-none c.insert.new.self c.args.place c.args.node c.args.at.0 c.want-in-None.new.self c.get_mut.follows.holds-at-none
    c.in_ok-insert-in-None.ensures.updates (sym c.get_mut.ensures.value ∙ ap option_copied_mut c.in-None.is)
    (λ other. alone c.args.node other c.args.at _ _ _ (c.new-queue.ensures c.args.node) (c.new-queue.ensures other) (c.in_ok-want-in-None.ensures.ok other))
