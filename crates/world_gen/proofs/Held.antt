-- The names of a generated document hold its numbers, each under its text.
use Rattle.std.proofs.Common.{◌≡◌, ℕ, zero, suc, ◌+◌, ◌%◌, ◌<◌, ◌≤◌, ◌^◌, ◌&&◌, true, List, [], ◌∷◌, ◌++◌, map, length, slice_get, Some, unwrap_or, codes, decimal, refl, sym, ap, ◌∙◌, arith, append_assoc, suc-add, zero-add, length-append}
use Rattle.std.proofs.lemmas.Fmt.{decimal_by_steps, decimal_digit, length-decimal-le}
use Rattle.std.proofs.lemmas.List.FromFn.{length-map-range_with_len}
use Rattle.std.proofs.lemmas.Bool.{and_parts}
use Rattle.std.proofs.lemmas.Bool.Decides.{nat_tests}
use Rattle.std.proofs.lemmas.Option.{slice_get_within}
use Rattle.std.specs.List.{range_with_len}
use Rattle.manifest_json.specs.Fields.{Texts, is_name, is_name_rest, is_small_letter_or_digit, may_follow, is_label}
use Rattle.manifest_json.specs.Readable.{IsHeld, IsNameNumber, IsLabelNumber}
use Rattle.world_gen.specs.Numbers.{controller_number, node_number, region_number, zone_number, space_number, pod_number, short_name, short_names, controller_names, node_names, zones, zone_names, pod_names, generated_names}

-- ---- places in joined lists

held-right : (xs ys : List (List ℕ)) (i : ℕ) → slice_get (xs ++ ys) (length xs + i) ≡ slice_get ys i
held-right [] ys i = ap (slice_get ys) (zero-add i)
held-right (x ∷ xs) ys i = ap (slice_get (x ∷ (xs ++ ys))) (suc-add (length xs) i) ∙ held-right xs ys i

held-left : (xs ys : List (List ℕ)) (i : ℕ) (text : List ℕ) → slice_get xs i ≡ Some text → slice_get (xs ++ ys) i ≡ Some text
held-left [] ys i text h = absurd cc
held-left (x ∷ xs) ys zero text h = h
held-left (x ∷ xs) ys (suc i) text h = held-left xs ys i text h

held-short_name : (letter start n i : ℕ) → i < n
    → slice_get (map (short_name letter) (range_with_len start n)) i ≡ Some (short_name letter (start + i))
held-short_name letter start zero i lt = absurd (omega arith)
held-short_name letter start (suc n) zero lt = ap (λ k. Some (short_name letter k)) (omega arith)
held-short_name letter start (suc n) (suc i) lt =
    held-short_name letter (start + 1) n i (omega arith) ∙ ap (λ k. Some (short_name letter k)) (omega arith)

held-first : (letter n i : ℕ) → i < n → slice_get (short_names letter n) i ≡ Some (short_name letter i)
held-first letter n i lt = held-short_name letter 0 n i lt ∙ ap (λ k. Some (short_name letter k)) (zero-add i)

-- ---- a small letter and a decimal number are a name

-- a digit goes on in a name
rest-push : (last : ℕ) (text : List ℕ) (d : ℕ) → is_name_rest last text ≡ true → 48 ≤ d → d < 58 → is_name_rest last (text ++ (d ∷ [])) ≡ true
rest-push last [] d small lo hi = grind (arith, nat_tests, small, lo, hi)
rest-push last (byte ∷ text) d both lo hi =
    let parts = and_parts (may_follow last byte) (is_name_rest byte text) both in
    ap (λ b. b && is_name_rest byte (text ++ (d ∷ []))) parts.0 ∙ rest-push byte text d parts.1 lo hi

rest-decimal : (last n : ℕ) → is_small_letter_or_digit last ≡ true → n < 2 ^ 64 → is_name_rest last (decimal n) ≡ true
rest-decimal last n small few =
    decimal_by_steps (λ _ ds. is_name_rest last ds ≡ true) (λ n lt. rest-push last [] (48 + n) small (omega arith) (omega arith))
    (λ n ds ge h. rest-push last ds (48 + n % 10) h (omega arith) (omega arith)) n few

pub short_name-is_name : (letter i : ℕ) → is_small_letter_or_digit letter ≡ true → i < 10 ^ 9 → is_name (short_name letter i) ≡ true
short_name-is_name letter i small few =
    let long = length-decimal-le 9 i (omega arith) few (omega arith) in
    let rest = rest-decimal letter i small (omega arith) in
    grind (arith, nat_tests, long, rest, small)

-- ---- zones are labels

pub zone-label : (k : ℕ) → k < 5 → is_label (122 ∷ (48 + k) ∷ []) ≡ true
zone-label zero lt = refl
zone-label (suc zero) lt = refl
zone-label (suc (suc zero)) lt = refl
zone-label (suc (suc (suc zero))) lt = refl
zone-label (suc (suc (suc (suc zero)))) lt = refl
zone-label (suc (suc (suc (suc (suc k))))) lt = absurd (omega arith)

-- ---- the numbers of a generated document

-- the text behind so many others
behind : (xs ys : List (List ℕ)) (n k i : ℕ) (text : List ℕ) → length xs ≡ n → n + i ≡ k → slice_get ys i ≡ Some text
    → slice_get (xs ++ ys) k ≡ Some text
behind xs ys n k i text long place h =
    ap (slice_get (xs ++ ys)) (sym (ap (λ m. m + i) long ∙ place)) ∙ held-right xs ys i ∙ h

is-name : (names : Texts) (n : ℕ) (text : List ℕ) → slice_get names n ≡ Some text → is_name text ≡ true → IsNameNumber names n
is-name names n text held h = (slice_get_within names n text held, ap (λ o. is_name (unwrap_or o [])) held ∙ h)

is-label : (names : Texts) (n : ℕ) (text : List ℕ) → slice_get names n ≡ Some text → is_label text ≡ true → IsLabelNumber names n
is-label names n text held h = (slice_get_within names n text held, ap (λ o. is_label (unwrap_or o [])) held ∙ h)

module _ (nodes pods : ℕ) where
  abbrev names : Texts
  names = generated_names nodes pods

  abbrev behind_region : Texts
  behind_region = zone_names nodes ++ pod_names pods

  abbrev behind_nodes : Texts
  behind_nodes = (codes "r1" ∷ []) ++ behind_region

  names-are : names ≡ controller_names ++ (node_names nodes ++ behind_nodes)
  unfolding generated_names
  names-are =
      append_assoc (controller_names ++ node_names nodes ++ (codes "r1" ∷ [])) (zone_names nodes) (pod_names pods)
      ∙ append_assoc (controller_names ++ node_names nodes) (codes "r1" ∷ []) behind_region
      ∙ append_assoc controller_names (node_names nodes) behind_nodes

  -- a text that stands so far behind the controllers
  behind-controllers : (k i : ℕ) (text : List ℕ) → 13 + i ≡ k → slice_get (node_names nodes ++ behind_nodes) i ≡ Some text
      → slice_get names k ≡ Some text
  behind-controllers k i text place h =
      ap (λ ns. slice_get ns k) names-are ∙ behind controller_names (node_names nodes ++ behind_nodes) 13 k i text refl place h

  -- behind the nodes
  behind-nodes : (k i : ℕ) (text : List ℕ) → 13 + nodes + i ≡ k → slice_get behind_nodes i ≡ Some text → slice_get names k ≡ Some text
  behind-nodes k i text place h =
      behind-controllers k (nodes + i) text (omega arith)
      (behind (node_names nodes) behind_nodes nodes (nodes + i) i text (length-map-range_with_len (short_name 110) 0 nodes) refl h)

  -- behind the zones
  behind-zones : (k i : ℕ) (text : List ℕ) → 14 + nodes + zones nodes + i ≡ k → slice_get (pod_names pods) i ≡ Some text
      → slice_get names k ≡ Some text
  behind-zones k i text place h =
      behind-nodes k (1 + (zones nodes + i)) text (omega arith)
      (behind (codes "r1" ∷ []) behind_region 1 (1 + (zones nodes + i)) (zones nodes + i) text refl refl
      (behind (zone_names nodes) (pod_names pods) (zones nodes) (zones nodes + i) i text
      (length-map-range_with_len (short_name 122) 0 (zones nodes)) refl h))

  pub fixed-held : (n : ℕ) → n < 10 → IsHeld names n
  fixed-held n lt = omega (arith, ap length names-are, length-append controller_names (node_names nodes ++ behind_nodes))

  pub controller-named : (p : ℕ) → p < 3 → IsNameNumber names (controller_number p)
  controller-named zero lt = is-name names 10 (codes "c0") (ap (λ ns. slice_get ns 10) names-are) refl
  controller-named (suc zero) lt = is-name names 11 (codes "c1") (ap (λ ns. slice_get ns 11) names-are) refl
  controller-named (suc (suc zero)) lt = is-name names 12 (codes "c2") (ap (λ ns. slice_get ns 12) names-are) refl
  controller-named (suc (suc (suc p))) lt = absurd (omega arith)

  pub node-named : (i : ℕ) → i < nodes → nodes ≤ 1000 → IsNameNumber names (node_number i)
  node-named i lt few =
      is-name names (node_number i) (short_name 110 i)
      (behind-controllers (13 + i) i (short_name 110 i) refl
      (held-left (node_names nodes) behind_nodes i (short_name 110 i) (held-first 110 nodes i lt)))
      (short_name-is_name 110 i refl (omega arith))

  pub region-label : IsLabelNumber names (region_number nodes)
  region-label = is-label names (region_number nodes) (codes "r1") (behind-nodes (13 + nodes) 0 (codes "r1") (omega arith) refl) refl

  pub zone-label_number : (i : ℕ) → i < nodes → IsLabelNumber names (zone_number nodes i)
  zone-label_number i lt =
      let k = i % 5 in
      let held = held-left (zone_names nodes) (pod_names pods) k (short_name 122 k) (held-first 122 (zones nodes) k (omega arith)) in
      is-label names (zone_number nodes i) (short_name 122 k)
      (behind-nodes (14 + nodes + k) (1 + k) (short_name 122 k) (omega arith)
      (behind (codes "r1" ∷ []) behind_region 1 (1 + k) k (short_name 122 k) refl refl held))
      (ap (λ t. is_label (122 ∷ t)) (decimal_digit k (omega arith)) ∙ zone-label k (omega arith))

  pub space-named : (j : ℕ) → j < pods → IsNameNumber names (space_number nodes)
  space-named j lt =
      is-name names (space_number nodes) (codes "default")
      (behind-zones (space_number nodes) 0 (codes "default") (omega arith) (first-pod pods j lt)) refl
    where
      first-pod : (n i : ℕ) → i < n → slice_get (pod_names n) 0 ≡ Some (codes "default")
      first-pod zero i small = absurd (omega arith)
      first-pod (suc n) i small = refl

  pub pod-named : (j : ℕ) → j < pods → pods ≤ 30000 → IsNameNumber names (pod_number nodes j)
  pod-named j lt few =
      is-name names (pod_number nodes j) (short_name 112 j)
      (behind-zones (pod_number nodes j) (suc j) (short_name 112 j) (omega arith) (pod-at pods j lt))
      (short_name-is_name 112 j refl (omega arith))
    where
      pod-at : (n i : ℕ) → i < n → slice_get (pod_names n) (suc i) ≡ Some (short_name 112 i)
      pod-at zero i small = absurd (omega arith)
      pod-at (suc n) i small = held-first 112 (suc n) i small
