-- One step of the walks over sets of pods.
use Rattle.std.proofs.Common.{◌≡◌, ℕ, ◌+◌, ◌<◌, ◌≤◌, List, [], ◌∷◌, ◌++◌, length, drop, get_or, replicate, Result, Ok, codes, refl, sym, ap, ◌∙◌, arith, drop-cons, add-one, append_assoc}
use Rattle.std.proofs.lemmas.List.{drop_all, append-nil}
use Rattle.std.proofs.lemmas.List.Sums.{sum_by-append}
use Rattle.serde_json.specs.Data.{Data, Items, item}
use Rattle.serde_json.specs.View.{view, items_view}
use Rattle.serde_json.specs.declared.value.Value.{Value}
use Rattle.kube_objects.specs.declared.key.Key.{Key}
use Rattle.kube_objects.specs.declared.object.Object.{Object}
use Rattle.manifest_json.proofs.Loops.{items_view-drop, items_view-end, Fails-then}
use Rattle.manifest_json.specs.declared.fault.Refusal.{Refusal}
use Rattle.manifest_json.specs.declared.fault.ReadFault.{ReadFault}
use Rattle.manifest_json.specs.declared.scale.Scale.{Scale}
use Rattle.manifest_json.specs.Faults.{◌>>=◌, Fails}
use Rattle.manifest_json.specs.Fields.{Texts}
use Rattle.manifest_json.specs.Walk.{member_path}
use Rattle.script_reader.specs.declared.parts.Share.{Share}
use Rattle.script_reader.specs.Sets.{Alike, share_at, shares_from, nodes_of, pods_of, pod_onto, pods_onto, set_at, sets_from}

abbrev Kept : Type 0
Kept = List (Key × Object)

-- the item at a place, and those behind it
next-of : {A : Type 0} (xs : List A) (i : ℕ) (x : A) → i < length xs → get_or xs i x ≡ x → drop i xs ≡ x ∷ drop (i + 1) xs
next-of xs i x lt is = rw (add-one, drop-cons xs i x lt, is) refl

-- the same of a number
next-at : (ns : List ℕ) (i : ℕ) → i < length ns → drop i ns ≡ get_or ns i 0 ∷ drop (i + 1) ns
next-at ns i lt = rw (add-one, drop-cons ns i 0 lt) refl

-- ---- the members of `on`

shares_from-step : (names new : Texts) (path : List ℕ) (place : ℕ) (earlier : List Share) (d : Data) (rest : Items) (share : Share)
    → share_at names (member_path path (codes "/") place) d ≡ Ok (share, new)
    → shares_from names path place earlier (item d rest) ≡ shares_from new path (place + 1) (earlier ++ share ∷ []) rest
unfolding shares_from
shares_from-step names new path place earlier d rest share h = ap (λ r. r >>= λ next. shares_from next.1 path (place + 1) (earlier ++ next.0 ∷ []) rest) h

shares_from-fails : (e : ReadFault) (names : Texts) (path : List ℕ) (place : ℕ) (earlier : List Share) (d : Data) (rest : Items)
    → Fails e (share_at names (member_path path (codes "/") place) d) → Fails e (shares_from names path place earlier (item d rest))
unfolding shares_from
shares_from-fails e names path place earlier d rest h = Fails-then e _ (λ next. shares_from next.1 path (place + 1) (earlier ++ next.0 ∷ []) rest) h

module _ (names : Texts) (path : List ℕ) (place : ℕ) (vs : List Value) (earlier : List Share) (start : Result (List Share × Texts) Refusal)
    (so_far : start ≡ shares_from names path place earlier (items_view (drop place vs))) where
  pub shares-fail : (v : Value) (e : ReadFault) → place < length vs → v ≡ get_or vs place v
      → Fails e (share_at names (member_path path (codes "/") place) (view v)) → Fails e start
  shares-fail v e lt is h = rw (so_far, items_view-drop vs place v lt (sym is)) (shares_from-fails e names path place earlier (view v) _ h)

  pub shares-step : (v : Value) (new : Texts) (share : Share) (more : List Share) → place < length vs → v ≡ get_or vs place v → more ≡ earlier ++ share ∷ []
      → share_at names (member_path path (codes "/") place) (view v) ≡ Ok (share, new)
      → start ≡ shares_from new path (place + 1) more (items_view (drop (place + 1) vs))
  shares-step v new share more lt is push h =
      so_far ∙ ap (shares_from names path place earlier) (items_view-drop vs place v lt (sym is))
      ∙ shares_from-step names new path place earlier (view v) _ share h
      ∙ ap (λ ss. shares_from new path (place + 1) ss (items_view (drop (place + 1) vs))) (sym push)

  pub shares-end : length vs ≤ place → start ≡ Ok (earlier, names)
  unfolding shares_from
  shares-end le = so_far ∙ ap (shares_from names path place earlier) (items_view-end vs place le)

pub pods_of-push : (shares : List Share) (share : Share) → pods_of (shares ++ share ∷ []) ≡ pods_of shares + share.pods
pods_of-push shares share = sum_by-append (λ (s : Share). s.pods) shares (share ∷ []) ∙ omega arith

-- ---- the node of each pod

pub nodes_of-step : (all before more : List ℕ) (shares : List Share) (i : ℕ) (share : Share) → i < length shares → get_or shares i share ≡ share
    → all ≡ before ++ nodes_of (drop i shares) → more ≡ before ++ replicate share.pods share.node → all ≡ more ++ nodes_of (drop (i + 1) shares)
nodes_of-step all before more shares i share lt is so_far added =
    so_far ∙ ap (λ ss. before ++ nodes_of ss) (next-of shares i share lt is)
    ∙ sym (append_assoc before (replicate share.pods share.node) (nodes_of (drop (i + 1) shares)))
    ∙ ap (λ xs. xs ++ nodes_of (drop (i + 1) shares)) (sym added)

pub nodes_of-end : (all nodes : List ℕ) (shares : List Share) (i : ℕ) → length shares ≤ i → all ≡ nodes ++ nodes_of (drop i shares) → nodes ≡ all
nodes_of-end all nodes shares i le so_far = sym (so_far ∙ ap (λ ss. nodes ++ nodes_of ss) (drop_all i shares le) ∙ append-nil nodes)

-- ---- the pods of a set

pods_onto-step : (scale : Scale) (names new : Texts) (path : List ℕ) (alike : Alike) (j : ℕ) (items more : Kept) (node : ℕ) (rest : List ℕ)
    → pod_onto scale names path alike j items node ≡ Ok (more, new)
    → pods_onto scale names path alike j items (node ∷ rest) ≡ pods_onto scale new path alike (j + 1) more rest
unfolding pods_onto
pods_onto-step scale names new path alike j items more node rest h = ap (λ r. r >>= λ next. pods_onto scale next.1 path alike (j + 1) next.0 rest) h

pods_onto-fails : (e : ReadFault) (scale : Scale) (names : Texts) (path : List ℕ) (alike : Alike) (j : ℕ) (items : Kept) (node : ℕ) (rest : List ℕ)
    → Fails e (pod_onto scale names path alike j items node) → Fails e (pods_onto scale names path alike j items (node ∷ rest))
unfolding pods_onto
pods_onto-fails e scale names path alike j items node rest h = Fails-then e _ (λ next. pods_onto scale next.1 path alike (j + 1) next.0 rest) h

module _ (scale : Scale) (names : Texts) (path : List ℕ) (alike : Alike) (j : ℕ) (items : Kept) (nodes : List ℕ) (start : Result (Kept × Texts) Refusal)
    (so_far : start ≡ pods_onto scale names path alike j items (drop j nodes)) where
  pub pods-fail : (e : ReadFault) → j < length nodes → Fails e (pod_onto scale names path alike j items (get_or nodes j 0)) → Fails e start
  pods-fail e lt h = rw (so_far, next-at nodes j lt) (pods_onto-fails e scale names path alike j items (get_or nodes j 0) _ h)

  pub pods-step : (new : Texts) (more : Kept) (scale' : Scale) → j < length nodes → scale' ≡ scale
      → pod_onto scale names path alike j items (get_or nodes j 0) ≡ Ok (more, new) → start ≡ pods_onto scale' new path alike (j + 1) more (drop (j + 1) nodes)
  pods-step new more scale' lt same h =
      so_far ∙ ap (pods_onto scale names path alike j items) (next-at nodes j lt)
      ∙ pods_onto-step scale names new path alike j items more (get_or nodes j 0) _ h
      ∙ ap (λ s. pods_onto s new path alike (j + 1) more (drop (j + 1) nodes)) (sym same)

  pub pods-end : length nodes ≤ j → start ≡ Ok (items, names)
  unfolding pods_onto
  pods-end le = so_far ∙ ap (pods_onto scale names path alike j items) (drop_all j nodes le)

-- ---- sets

sets_from-step : (scale : Scale) (names new : Texts) (place : ℕ) (items more : Kept) (d : Data) (rest : Items)
    → set_at scale names (member_path [] (codes "/podSets/") place) items d ≡ Ok (more, new)
    → sets_from scale names place items (item d rest) ≡ sets_from scale new (place + 1) more rest
unfolding sets_from
sets_from-step scale names new place items more d rest h = ap (λ r. r >>= λ next. sets_from scale next.1 (place + 1) next.0 rest) h

sets_from-fails : (e : ReadFault) (scale : Scale) (names : Texts) (place : ℕ) (items : Kept) (d : Data) (rest : Items)
    → Fails e (set_at scale names (member_path [] (codes "/podSets/") place) items d) → Fails e (sets_from scale names place items (item d rest))
unfolding sets_from
sets_from-fails e scale names place items d rest h = Fails-then e _ (λ next. sets_from scale next.1 (place + 1) next.0 rest) h

module _ (scale : Scale) (names : Texts) (place : ℕ) (vs : List Value) (items : Kept) (start : Result (Kept × Texts) Refusal)
    (so_far : start ≡ sets_from scale names place items (items_view (drop place vs))) where
  pub sets-fail : (v : Value) (e : ReadFault) → place < length vs → v ≡ get_or vs place v
      → Fails e (set_at scale names (member_path [] (codes "/podSets/") place) items (view v)) → Fails e start
  sets-fail v e lt is h = rw (so_far, items_view-drop vs place v lt (sym is)) (sets_from-fails e scale names place items (view v) _ h)

  pub sets-step : (v : Value) (new : Texts) (more : Kept) (scale' : Scale) → place < length vs → v ≡ get_or vs place v → scale' ≡ scale
      → set_at scale names (member_path [] (codes "/podSets/") place) items (view v) ≡ Ok (more, new)
      → start ≡ sets_from scale' new (place + 1) more (items_view (drop (place + 1) vs))
  sets-step v new more scale' lt is same h =
      so_far ∙ ap (sets_from scale names place items) (items_view-drop vs place v lt (sym is))
      ∙ sets_from-step scale names new place items more (view v) _ h
      ∙ ap (λ s. sets_from s new (place + 1) more (items_view (drop (place + 1) vs))) (sym same)

  pub sets-end : length vs ≤ place → start ≡ Ok (items, names)
  unfolding sets_from
  sets-end le = so_far ∙ ap (sets_from scale names place items) (items_view-end vs place le)
