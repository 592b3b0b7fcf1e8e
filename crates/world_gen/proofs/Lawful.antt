-- The generated document is lawful.
use Rattle.std.proofs.Common.{◌≡◌, ℕ, ◌+◌, ◌≤◌, [], ◌∷◌, ◌++◌, length, map, refl, subst, sym, arith}
use Rattle.std.proofs.lemmas.List.Elements.{All-from_recursion}
use Rattle.std.specs.List.{AllByRecursion}
use Rattle.history.proofs.Pauses.{never_apart}
use Rattle.kube_objects.specs.Document.{own_waits_each}
use Rattle.manifest_json.specs.declared.scale.Scale.TheVariants as scales
use Rattle.manifest_laws.specs.Laws.{FittingAreApart}
use Rattle.script_reader.specs.Lawful.{IsLawful, IsLawfulDoc, AreWaits}
use Rattle.script_reader.proofs.OwnWaits.{own-waits}
use Rattle.world_gen.specs.Draws.{start, crashes}
use Rattle.world_gen.specs.Generated.{controllers, event, kubelets, by_beat, middle, generated}
use Rattle.world_gen.proofs.Ranges.{Fits, settings-lawful, controllers-lawful, controllers-apart, kubelets-lawful, kubelets-apart, kubelets-count, crashes-all-fit, in_order, events-few, crashes-pause_nobody, crashes-stall_nothing}
use Rattle.world_gen.proofs.Items.{all_items, all-of_kind, all-few, all-fit}

processes-count : (nodes : ℕ) → length (controllers ++ kubelets nodes) ≡ 3 + nodes
processes-count nodes = omega (arith, kubelets-count nodes)

pub generated-lawful : (seed nodes pods beats : ℕ) → nodes ≤ 1000 → pods ≤ 30000 → beats ≤ 100000 → FittingAreApart
    → IsLawfulDoc (generated seed nodes pods beats)
unfolding generated
generated-lawful seed nodes pods beats few fewer soon apart =
    let drawn = crashes beats nodes (start seed) in
    let all = drawn.value ++ middle beats ∷ [] in
    let fit = crashes-all-fit beats nodes (start seed) in
    let fits = subst (λ n. AllByRecursion (Fits beats n) all) (sym (processes-count nodes)) fit.0 in
    let items = all-fit nodes pods drawn.rest few fewer in
    record {
      settings = settings-lawful beats soon;
      controllers = All-from_recursion IsLawful controllers controllers-lawful;
      some = omega arith;
      few = omega arith;
      controllers_apart = controllers-apart;
      waits = All-from_recursion AreWaits (own_waits_each controllers) (own-waits, (own-waits, (own-waits, tt)));
      waits_each = refl;
      kubelets = All-from_recursion IsLawful (kubelets nodes) (kubelets-lawful nodes);
      few_kubelets = omega (arith, kubelets-count nodes);
      kubelets_apart = kubelets-apart nodes;
      objects = All-from_recursion _ (all_items nodes pods drawn.rest) (all-of_kind nodes pods drawn.rest);
      objects_apart = (apart scales.Large (all_items nodes pods drawn.rest) items).0;
      few_objects = all-few nodes pods drawn.rest few fewer;
      events = (in_order (generated seed nodes pods beats) (beats + 1) all fits).0;
      few_events = omega (arith, events-few (beats + 1) all, fit.1);
      apart = never_apart (map event (by_beat (beats + 1) all)) (crashes-pause_nobody (by_beat (beats + 1) all)) (crashes-stall_nothing (by_beat (beats + 1) all));
    }
