-- States and rates of counted zones.
use Rattle.std.specs.declared.cmp.Ordering.{Ordering}
use Rattle.std.specs.declared.cmp.Ordering.TheVariants.{Less, Equal, Greater}
use Rattle.std.proofs.Common.{◌≡◌, ◌≤◌, ◌<◌, ◌+◌, ◌∙◌, ℕ, suc, ◌&&◌, Bool, true, false, List, [], ◌∷◌, map, length, min, nat_lt, refl, sym, ap, arith}
use Rattle.std.specs.List.{list_all}
use Rattle.std.proofs.lemmas.Bool.Decides.{nat_tests}
use Rattle.std.proofs.lemmas.List.Sums.{count_by-le-length}
use Rattle.kube_objects.specs.declared.node.Node.{Node}
use Rattle.kube_objects.specs.declared.node.ZoneState.{ZoneState}
use Rattle.kube_objects.specs.declared.settings.TickSettings.{TickSettings}
use Rattle.kube_objects.specs.Document.{Doc}
use Rattle.kube_objects.specs.Entry.{Place}
use Rattle.kube_objects.specs.Modes.{all_full, places, ready_in, other_in, size_in, state_in, place_cmp}
use Rattle.kube_objects.specs.Modes as modes
use Rattle.kube_objects.specs.Seen.{insert_once}
use Rattle.kube_objects.specs.Zones.{rate_of}
use Rattle.tick_laws.proofs.Zoning.{size_split}
use Rattle.zone_counts.specs.declared.counts.ZoneCount.{ZoneCount}
use Rattle.zone_counts.specs.Counted.{is_full, zone_count, zone_counts}
use Rattle.zone_counts.specs.Settings.{AreSettings}

pub size_fits : (place : Place) (nodes : List Node) → length nodes < 4294967296 → min (ready_in place nodes + other_in place nodes) 4294967295 ≡ size_in place nodes
size_fits place nodes few = by_size (ready_in place nodes + other_in place nodes) (size_in place nodes) (length nodes) (size_split place nodes) (count_by-le-length _ nodes) few
  where
    by_size : (a b n : ℕ) → b ≡ a → b ≤ n → n < 4294967296 → min a 4294967295 ≡ b
    by_size a b n same less few = grind (arith, nat_tests, same, less, few)

pub rates_same : (doc : Doc) (s : TickSettings) (on : Bool) (state other : ZoneState) (size more : ℕ) → AreSettings doc s → state ≡ other → size ≡ more
    → rate_of on state s.rate_policy s.primary_rate s.secondary_rate s.large_zone size
    ≡ rate_of on other doc.settings.rate_policy doc.settings.primary_rate doc.settings.secondary_rate doc.settings.large_zone more
rates_same doc s on state other size more are a b =
    ap (λ x. rate_of on x s.rate_policy s.primary_rate s.secondary_rate s.large_zone size) a
    ∙ ap (λ x. rate_of on other x s.primary_rate s.secondary_rate s.large_zone size) are.policy
    ∙ ap (λ x. rate_of on other doc.settings.rate_policy x s.secondary_rate s.large_zone size) are.primary
    ∙ ap (λ x. rate_of on other doc.settings.rate_policy doc.settings.primary_rate x s.large_zone size) are.secondary
    ∙ ap (λ x. rate_of on other doc.settings.rate_policy doc.settings.primary_rate doc.settings.secondary_rate x size) are.large
    ∙ ap (λ x. rate_of on other doc.settings.rate_policy doc.settings.primary_rate doc.settings.secondary_rate doc.settings.large_zone x) b

-- ---- whether all are full

abbrev pub all_of : ℕ → List ZoneCount → Bool
all_of percent zones = list_all (λ zone. is_full zone percent) zones

states_full : (doc : Doc) (nodes : List Node) (ps : List Place)
    → list_all (λ place. modes.is_full (state_in doc nodes place)) ps ≡ all_of doc.settings.unhealthy_percent (map (zone_count nodes) ps)
states_full doc nodes [] = refl
states_full doc nodes (p ∷ ps) = ap (λ b. modes.is_full (state_in doc nodes p) && b) (states_full doc nodes ps)

none_more : (compare : Place) (ps : List Place) → nat_lt 0 (length (insert_once place_cmp compare ps)) ≡ true
none_more x [] = refl
none_more x (p ∷ ps) = by_order (place_cmp x p)
  where
    positive : (n : ℕ) → nat_lt 0 (n + 1) ≡ true
    positive n = grind (arith, nat_tests)

    by_order : (o : Ordering) → nat_lt 0 (length {A = Place} (elim o [ Less ↦ x ∷ p ∷ ps | Equal ↦ p ∷ ps | Greater ↦ p ∷ insert_once place_cmp x ps ])) ≡ true
    by_order Less = grind (arith, nat_tests)
    by_order Equal = grind (arith, nat_tests)
    by_order Greater = grind (arith, nat_tests)

mapped_length : (nodes : List Node) (ps : List Place) → length (map (zone_count nodes) ps) ≡ length ps
mapped_length nodes [] = refl
mapped_length nodes (p ∷ ps) = ap (λ n. suc n) (mapped_length nodes ps)

pub some_zone : (nodes : List Node) → nat_lt 0 (length (zone_counts nodes)) ≡ nat_lt 0 (length nodes)
some_zone nodes = ap (λ n. nat_lt 0 n) (mapped_length nodes (places nodes)) ∙ by_nodes nodes
  where
    by_nodes : (nodes : List Node) → nat_lt 0 (length (places nodes)) ≡ nat_lt 0 (length nodes)
    by_nodes [] = refl
    by_nodes (n ∷ ns) = none_more (modes.place_of n) (places ns) ∙ sym (positive ns)
      where
        positive : (ns : List Node) → nat_lt 0 (length (n ∷ ns)) ≡ true
        positive ns = grind (arith, nat_tests)

pub full_is : (doc : Doc) (nodes : List Node) (zones : List ZoneCount) (percent : ℕ) → zones ≡ zone_counts nodes → percent ≡ doc.settings.unhealthy_percent
    → (nat_lt 0 (length zones) && all_of percent zones) ≡ all_full doc nodes
full_is doc nodes zones percent are is =
    ap (λ zs. nat_lt 0 (length zs) && all_of percent zs) are
    ∙ ap (λ p. nat_lt 0 (length (zone_counts nodes)) && all_of p (zone_counts nodes)) is
    ∙ ap (λ b. b && all_of doc.settings.unhealthy_percent (zone_counts nodes)) (some_zone nodes)
    ∙ ap (λ b. nat_lt 0 (length nodes) && b) (sym (states_full doc nodes (places nodes)))

empty_fails : (n : ℕ) (b : Bool) → n ≡ 0 → false ≡ (nat_lt 0 n && b)
empty_fails n b is = ap (λ c. c && b) (sym positive)
  where
    positive : nat_lt 0 n ≡ false
    positive = grind (arith, nat_tests, is)

some_passes : (n : ℕ) (b : Bool) → (n ≡ 0 → ⊥) → true ≡ b → true ≡ (nat_lt 0 n && b)
some_passes n b some is = is ∙ ap (λ c. c && b) (sym positive)
  where
    positive : nat_lt 0 n ≡ true
    positive = grind (arith, nat_tests, some)

no_pass : (a b : Bool) → b ≡ false → false ≡ (a && b)
no_pass true b is = sym is
no_pass false b is = refl

pub none_full : (doc : Doc) (nodes : List Node) (zones : List ZoneCount) (percent : ℕ) → length zones ≡ 0 → zones ≡ zone_counts nodes
    → percent ≡ doc.settings.unhealthy_percent → false ≡ all_full doc nodes
none_full doc nodes zones percent none are is = empty_fails (length zones) (all_of percent zones) none ∙ full_is doc nodes zones percent are is

pub one_not : (doc : Doc) (nodes : List Node) (zones : List ZoneCount) (percent : ℕ) → all_of percent zones ≡ false → zones ≡ zone_counts nodes
    → percent ≡ doc.settings.unhealthy_percent → false ≡ all_full doc nodes
one_not doc nodes zones percent fails are is = no_pass (nat_lt 0 (length zones)) (all_of percent zones) fails ∙ full_is doc nodes zones percent are is

pub each_full : (doc : Doc) (nodes : List Node) (zones : List ZoneCount) (percent : ℕ) → (length zones ≡ 0 → ⊥) → true ≡ all_of percent zones
    → zones ≡ zone_counts nodes → percent ≡ doc.settings.unhealthy_percent → true ≡ all_full doc nodes
each_full doc nodes zones percent some full are is = some_passes (length zones) (all_of percent zones) some full ∙ full_is doc nodes zones percent are is

pub none_all : (percent : ℕ) (zones : List ZoneCount) → length zones ≡ 0 → true ≡ all_of percent zones
none_all percent [] none = refl
none_all percent (zone ∷ zones) none = absurd (suc_no (length zones) none)
  where
    suc_no : (n : ℕ) → suc n ≡ 0 → ⊥
    suc_no n is = omega (arith, is)
