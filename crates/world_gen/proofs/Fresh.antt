-- Which names are new when they are numbered.
use Rattle.std.proofs.Common.{◌≡◌, ℕ, zero, suc, ◌+◌, ◌-◌, ◌%◌, ◌<◌, ◌≤◌, ◌^◌, ◌==◌, ◌&&◌, ◌||◌, true, false, List, [], ◌∷◌, ◌++◌, map, drop, bytes_eq, codes, decimal, length, refl, sym, ap, ap₂, ◌∙◌, arith, append_assoc, length-append, inl, inr}
use Rattle.std.proofs.lemmas.Bool.{cases_Bool}
use Rattle.std.proofs.lemmas.Bool.Decides.{nat_tests}
use Rattle.std.proofs.lemmas.Fmt.{decimal_by_steps, decimal_injective}
use Rattle.std.proofs.lemmas.List.Folds.{list_any-append}
use Rattle.std.proofs.lemmas.List.FromFn.{length-map-range_with_len, map-range_with_len_more}
use Rattle.std.proofs.lemmas.Slice.Eq.{slice_eq-Decides}
use Rattle.std.proofs.lemmas.Bool.Decides.{Decides-eqb}
use Rattle.std.specs.List.{list_any, range_with_len}
use Rattle.kube_base.specs.Names.{with_name}
use Rattle.world_gen.specs.Numbers.{short_name, short_names, controller_names, node_names, zones, zone_names, pod_names, generated_names}

-- a text that is new goes last
pub named-last : (names : List (List ℕ)) (text : List ℕ) → list_any (bytes_eq text) names ≡ false
    → with_name names text ≡ names ++ text ∷ []
unfolding with_name
named-last names text new = rw new refl

new-by : (text : List ℕ) (xs ys : List (List ℕ)) → list_any (bytes_eq text) xs ≡ false → list_any (bytes_eq text) ys ≡ false
    → list_any (bytes_eq text) (xs ++ ys) ≡ false
new-by text xs ys left right = list_any-append (bytes_eq text) xs ys ∙ ap (λ b. b || list_any (bytes_eq text) ys) left ∙ right

-- ---- texts with different letters

abbrev Differ : List ℕ → ℕ → Type 0
Differ text letter = (rest : List ℕ) → bytes_eq text (letter ∷ rest) ≡ false

new-among : (text : List ℕ) (letter start n : ℕ) → Differ text letter
    → list_any (bytes_eq text) (map (short_name letter) (range_with_len start n)) ≡ false
new-among text letter start zero other = refl
new-among text letter start (suc n) other =
    ap (λ b. b || list_any (bytes_eq text) (map (short_name letter) (range_with_len (start + 1) n))) (other (decimal start))
    ∙ new-among text letter (start + 1) n other

-- ---- texts with the same letter

same_text : (xs ys : List ℕ) → bytes_eq xs ys ≡ true → xs ≡ ys
same_text xs ys h = (slice_eq-Decides Decides-eqb xs ys (bytes_eq xs ys) refl).0 h

later-differs : (letter i j : ℕ) → i < j → j < 2 ^ 64 → bytes_eq (short_name letter j) (short_name letter i) ≡ false
later-differs letter i j lt few = elim (cases_Bool (bytes_eq (short_name letter j) (short_name letter i))) [
  | inl same ↦
      let numbers = decimal_injective j i few (omega arith) (ap (drop 1) (same_text (short_name letter j) (short_name letter i) same)) in
      absurd (omega arith)
  | inr other ↦ other
]

new-behind : (letter j start n : ℕ) → start + n ≤ j → j < 2 ^ 64
    → list_any (bytes_eq (short_name letter j)) (map (short_name letter) (range_with_len start n)) ≡ false
new-behind letter j start zero le few = refl
new-behind letter j start (suc n) le few =
    ap (λ b. b || list_any (bytes_eq (short_name letter j)) (map (short_name letter) (range_with_len (start + 1) n)))
    (later-differs letter start j (omega arith) few)
    ∙ new-behind letter j (start + 1) n (omega arith) few

-- the next text of a letter behind names that don't hold it
pub new-next : (letter j : ℕ) (old : List (List ℕ)) → j < 2 ^ 64 → list_any (bytes_eq (short_name letter j)) old ≡ false
    → list_any (bytes_eq (short_name letter j)) (old ++ short_names letter j) ≡ false
new-next letter j old few fresh = new-by (short_name letter j) old (short_names letter j) fresh (new-behind letter j 0 j (omega arith) few)

-- so it goes last there
pub add-step : (letter j : ℕ) (old names next : List (List ℕ)) (text : List ℕ) → names ≡ old ++ short_names letter j
    → text ≡ short_name letter j
    → next ≡ names ++ text ∷ [] → next ≡ old ++ short_names letter (j + 1)
add-step letter j old names next text so_far is e =
    e ∙ ap₂ (λ ns t. ns ++ t ∷ []) so_far is ∙ append_assoc old (short_names letter j) (short_name letter j ∷ [])
    ∙ ap (λ xs. old ++ xs) (sym (map-range_with_len_more (short_name letter) 0 j j (omega arith)))

pub add-new : (letter j : ℕ) (old names : List (List ℕ)) (text : List ℕ) → j < 2 ^ 64 → list_any (bytes_eq (short_name letter j)) old ≡ false
    → names ≡ old ++ short_names letter j → text ≡ short_name letter j → list_any (bytes_eq text) names ≡ false
add-new letter j old names text few fresh so_far is =
    ap₂ (λ t ns. list_any (bytes_eq t) ns) is so_far ∙ new-next letter j old few fresh

pub add-room : (letter j : ℕ) (old names : List (List ℕ)) (count : ℕ) → names ≡ old ++ short_names letter j → j < count
    → length old + count < 2 ^ 32 → length names < 2 ^ 32 - 1
add-room letter j old names count so_far lt few =
    omega (arith, ap length so_far, length-append old (short_names letter j), length-map-range_with_len (short_name letter) 0 j)

-- ---- a node's name is none of the fixed ones: its second byte is a digit

abbrev BeginsWithDigit : List ℕ → Type 0
BeginsWithDigit bs = (d : ℕ) × (rest : List ℕ) × (bs ≡ d ∷ rest) × (48 ≤ d) × (d < 58)

digit-first : (i : ℕ) → i < 2 ^ 64 → BeginsWithDigit (decimal i)
digit-first i few = decimal_by_steps (λ n bs. BeginsWithDigit bs) one more i few
  where
    one : (n : ℕ) → n < 10 → BeginsWithDigit ((48 + n) ∷ [])
    one n lt = (48 + n, [], refl, omega arith, omega arith)

    more : (n : ℕ) (ds : List ℕ) → 10 ≤ n → BeginsWithDigit ds → BeginsWithDigit (ds ++ ((48 + n % 10) ∷ []))
    more n ds ge begins = (begins.0, begins.1 ++ ((48 + n % 10) ∷ []), ap (λ bs. bs ++ ((48 + n % 10) ∷ [])) begins.2, begins.3, begins.4)

is-other : (d : ℕ) → d < 58 → (d == 111) ≡ false
is-other d lt = grind (arith, nat_tests)

no-letter : (bs : List ℕ) → BeginsWithDigit bs → Differ bs 111
no-letter bs begins rest =
    ap (λ t. bytes_eq t (111 ∷ rest)) begins.2
    ∙ ap (λ b. b && bytes_eq begins.1 rest) (is-other begins.0 begins.4)

pub node-new : (i : ℕ) → i < 2 ^ 64 → list_any (bytes_eq (short_name 110 i)) controller_names ≡ false
node-new i few =
    let differs = no-letter (decimal i) (digit-first i few) in
    rw (differs _, differs _) refl

-- ---- the further texts, each behind those before it

module _ (nodes : ℕ) where
  abbrev pub to_nodes : List (List ℕ)
  to_nodes = controller_names ++ node_names nodes

  abbrev pub to_region : List (List ℕ)
  to_region = to_nodes ++ (codes "r1" ∷ [])

  abbrev pub to_zones : List (List ℕ)
  to_zones = to_region ++ zone_names nodes

  new-nodes : (text : List ℕ) → list_any (bytes_eq text) controller_names ≡ false → Differ text 110
      → list_any (bytes_eq text) to_nodes ≡ false
  new-nodes text new other = new-by text controller_names (node_names nodes) new (new-among text 110 0 nodes other)

  new-region : (text : List ℕ) → list_any (bytes_eq text) controller_names ≡ false → Differ text 110 → bytes_eq text (codes "r1") ≡ false
      → list_any (bytes_eq text) to_region ≡ false
  new-region text new other region = new-by text to_nodes (codes "r1" ∷ []) (new-nodes text new other) (ap (λ b. b || false) region)

  new-zones : (text : List ℕ) → list_any (bytes_eq text) controller_names ≡ false → Differ text 110 → bytes_eq text (codes "r1") ≡ false
      → Differ text 122
      → list_any (bytes_eq text) to_zones ≡ false
  new-zones text new other region zone =
      new-by text to_region (zone_names nodes) (new-region text new other region) (new-among text 122 0 (zones nodes) zone)

  pub region-new : list_any (bytes_eq (codes "r1")) to_nodes ≡ false
  region-new = new-nodes (codes "r1") refl (λ rest. refl)

  pub zone-new : (i : ℕ) → list_any (bytes_eq (short_name 122 i)) to_region ≡ false
  zone-new i = new-region (short_name 122 i) refl (λ rest. refl) refl

  pub space-new : list_any (bytes_eq (codes "default")) to_zones ≡ false
  space-new = new-zones (codes "default") refl (λ rest. refl) refl (λ rest. refl)

  pub pod-new : (i : ℕ) → list_any (bytes_eq (short_name 112 i)) to_zones ≡ false
  pod-new i = new-zones (short_name 112 i) refl (λ rest. refl) refl (λ rest. refl)

  -- how many there are

  length-to_nodes : length to_nodes ≡ 13 + nodes
  length-to_nodes = omega (arith, length-append controller_names (node_names nodes), length-map-range_with_len (short_name 110) 0 nodes)

  length-to_region : length to_region ≡ 14 + nodes
  length-to_region = omega (arith, length-append to_nodes (codes "r1" ∷ []), length-to_nodes)

  length-to_zones : length to_zones ≡ 14 + nodes + zones nodes
  length-to_zones =
      omega (arith, length-append to_region (zone_names nodes), length-map-range_with_len (short_name 122) 0 (zones nodes), length-to_region)

  all-joined : (pods : ℕ) → to_zones ++ pod_names pods ≡ generated_names nodes pods
  unfolding generated_names
  all-joined pods = refl

-- ---- the names as they grow

onto : (names old new next : List (List ℕ)) → names ≡ old → next ≡ names ++ new → next ≡ old ++ new
onto names old new next so_far e = e ∙ ap (λ ns. ns ++ new) so_far

still-new : (text : List ℕ) (names old : List (List ℕ)) → names ≡ old → list_any (bytes_eq text) old ≡ false
    → list_any (bytes_eq text) names ≡ false
still-new text names old is new = ap (list_any (bytes_eq text)) is ∙ new

pub nodes-new : (names : List (List ℕ)) → names ≡ controller_names → (i : ℕ) → i < 2 ^ 64
    → list_any (bytes_eq (short_name 110 i)) names ≡ false
nodes-new names is i few = still-new (short_name 110 i) names controller_names is (node-new i few)

module _ (nodes : ℕ) (first second : List (List ℕ)) (is : first ≡ controller_names) (more : second ≡ first ++ node_names nodes) where
  to_nodes-is : second ≡ to_nodes nodes
  to_nodes-is = onto first controller_names (node_names nodes) second is more

  pub region-few : nodes ≤ 1000 → length second < 2 ^ 32 - 1
  region-few few = omega (arith, ap length to_nodes-is, length-to_nodes nodes)

  pub region-is_new : list_any (bytes_eq (codes "r1")) second ≡ false
  region-is_new = still-new (codes "r1") second (to_nodes nodes) to_nodes-is (region-new nodes)

  module _ (third : List (List ℕ)) (region : third ≡ second ++ (codes "r1" ∷ [])) where
    to_region-is : third ≡ to_region nodes
    to_region-is = onto second (to_nodes nodes) (codes "r1" ∷ []) third to_nodes-is region

    pub zones-few : (count : ℕ) → count ≤ 5 → nodes ≤ 1000 → length third + count < 2 ^ 32
    zones-few count small few = omega (arith, ap length to_region-is, length-to_region nodes)

    pub zones-new : (i : ℕ) → list_any (bytes_eq (short_name 122 i)) third ≡ false
    zones-new i = still-new (short_name 122 i) third (to_region nodes) to_region-is (zone-new nodes i)

    module _ (count : ℕ) (fourth : List (List ℕ)) (counted : count ≡ zones nodes) (zoned : fourth ≡ third ++ short_names 122 count) where
      to_zones-is : fourth ≡ to_zones nodes
      to_zones-is =
          onto third (to_region nodes) (zone_names nodes) fourth to_region-is (zoned ∙ ap (λ n. third ++ short_names 122 n) counted)

      pub pods-few : (pods : ℕ) → pods ≤ 30000 → nodes ≤ 1000 → length fourth + pods < 2 ^ 32 - 1
      pods-few pods fewer few = omega (arith, ap length to_zones-is, length-to_zones nodes)

      pub space-is_new : list_any (bytes_eq (codes "default")) fourth ≡ false
      space-is_new = still-new (codes "default") fourth (to_zones nodes) to_zones-is (space-new nodes)

      pub pods-new : (i : ℕ) → list_any (bytes_eq (short_name 112 i)) fourth ≡ false
      pods-new i = still-new (short_name 112 i) fourth (to_zones nodes) to_zones-is (pod-new nodes i)

      pub all-named : (pods : ℕ) (last : List (List ℕ)) → last ≡ fourth ++ pod_names pods → last ≡ generated_names nodes pods
      all-named pods last e = onto fourth (to_zones nodes) (pod_names pods) last to_zones-is e ∙ all-joined nodes pods
