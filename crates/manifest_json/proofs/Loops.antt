-- One step of the walks over arrays.
use Rattle.std.proofs.Common.{◌≡◌, ℕ, ◌+◌, ◌<◌, ◌≤◌, List, [], ◌∷◌, ◌++◌, length, drop, get_or, Option, Result, Ok, codes, refl, sym, ap, ◌∙◌, arith, drop-cons, add-one, Bool, true, false, cond, nat_lt}
use Rattle.std.proofs.lemmas.List.{drop_all}
use Rattle.std.proofs.lemmas.Bool.{lt-ltb, ltb-true}
use Rattle.serde_json.specs.Data.{Data, Items, no_items, item}
use Rattle.serde_json.specs.View.{view, items_view}
use Rattle.serde_json.specs.declared.value.Value.{Value}
use Rattle.kube_objects.specs.declared.key.Key.{Key}
use Rattle.kube_objects.specs.declared.node.Ready.{Ready}
use Rattle.kube_objects.specs.declared.node.Taint.{Taint}
use Rattle.kube_objects.specs.declared.object.Object.{Object}
use Rattle.kube_objects.specs.declared.pod.Toleration.{Toleration}
use Rattle.manifest_json.specs.declared.codes.TheConstants.{TOO_MANY}
use Rattle.manifest_json.specs.declared.fault.Refusal.{Refusal}
use Rattle.manifest_json.specs.declared.fault.ReadFault.{ReadFault}
use Rattle.manifest_json.specs.declared.fault.ReadFault.TheVariants.{Refused, NoMemory}
use Rattle.manifest_json.specs.declared.scale.Scale.{Scale}
use Rattle.manifest_json.specs.Faults.{◌>>=◌, refuse, Fails}
use Rattle.manifest_json.specs.Fields.{Texts}
use Rattle.manifest_json.specs.Walk.{items_len, hundred, member_path, taint_at, taints_from, condition_at, conditions_from, toleration_at, tolerations_from, list_step, list_from}

-- the members from a place on: the one there, and those behind it
pub items_view-drop : (vs : List Value) (i : ℕ) (v : Value) → i < length vs → get_or vs i v ≡ v → items_view (drop i vs) ≡ item (view v) (items_view (drop (i + 1) vs))
items_view-drop vs i v lt is = rw (add-one, drop-cons vs i v lt, is) refl

pub items_view-end : (vs : List Value) (i : ℕ) → length vs ≤ i → items_view (drop i vs) ≡ no_items
items_view-end vs i le = ap items_view (drop_all i vs le)

-- a refusal of the first part is one of the whole
pub Fails-then : {A B : Type 0} (e : ReadFault) (r : Result A Refusal) (f : A → Result B Refusal) → Fails e r → Fails e (r >>= f)
Fails-then (Refused r) walk f h = ap (λ x. x >>= f) h
Fails-then NoMemory walk f h = tt

pub taints_from-step : (names new : Texts) (path : List ℕ) (place : ℕ) (earlier : List Taint) (d : Data) (rest : Items) (taint : Taint)
    → taint_at names (member_path path (codes "/spec/taints/") place) earlier d ≡ Ok (taint, new)
    → taints_from names path place earlier (item d rest) ≡ taints_from new path (place + 1) (earlier ++ taint ∷ []) rest
unfolding taints_from
taints_from-step names new path place earlier d rest taint h = ap (λ r. r >>= λ next. taints_from next.1 path (place + 1) (earlier ++ next.0 ∷ []) rest) h

pub taints_from-fails : (e : ReadFault) (names : Texts) (path : List ℕ) (place : ℕ) (earlier : List Taint) (d : Data) (rest : Items)
    → Fails e (taint_at names (member_path path (codes "/spec/taints/") place) earlier d) → Fails e (taints_from names path place earlier (item d rest))
unfolding taints_from
taints_from-fails e names path place earlier d rest h = Fails-then e _ (λ next. taints_from next.1 path (place + 1) (earlier ++ next.0 ∷ []) rest) h

pub conditions_from-step : (names new : Texts) (path : List ℕ) (place : ℕ) (found next : Option Ready) (d : Data) (rest : Items)
    → condition_at names (member_path path (codes "/status/conditions/") place) found d ≡ Ok (next, new)
    → conditions_from names path place found (item d rest) ≡ conditions_from new path (place + 1) next rest
unfolding conditions_from
conditions_from-step names new path place found next d rest h = ap (λ r. r >>= λ x. conditions_from x.1 path (place + 1) x.0 rest) h

pub conditions_from-fails : (e : ReadFault) (names : Texts) (path : List ℕ) (place : ℕ) (found : Option Ready) (d : Data) (rest : Items)
    → Fails e (condition_at names (member_path path (codes "/status/conditions/") place) found d) → Fails e (conditions_from names path place found (item d rest))
unfolding conditions_from
conditions_from-fails e names path place found d rest h = Fails-then e _ (λ x. conditions_from x.1 path (place + 1) x.0 rest) h

pub tolerations_from-step : (names new : Texts) (path key : List ℕ) (place : ℕ) (earlier : List Toleration) (d : Data) (rest : Items) (toleration : Toleration)
    → toleration_at names (member_path path key place) d ≡ Ok (toleration, new)
    → tolerations_from names path key place earlier (item d rest) ≡ tolerations_from new path key (place + 1) (earlier ++ toleration ∷ []) rest
unfolding tolerations_from
tolerations_from-step names new path key place earlier d rest toleration h = ap (λ r. r >>= λ next. tolerations_from next.1 path key (place + 1) (earlier ++ next.0 ∷ []) rest) h

pub tolerations_from-fails : (e : ReadFault) (names : Texts) (path key : List ℕ) (place : ℕ) (earlier : List Toleration) (d : Data) (rest : Items)
    → Fails e (toleration_at names (member_path path key place) d) → Fails e (tolerations_from names path key place earlier (item d rest))
unfolding tolerations_from
tolerations_from-fails e names path key place earlier d rest h = Fails-then e _ (λ next. tolerations_from next.1 path key (place + 1) (earlier ++ next.0 ∷ []) rest) h

pub list_from-step : (scale : Scale) (names new : Texts) (known path : List ℕ) (place : ℕ) (items more : List (Key × Object)) (skipped n : ℕ) (d : Data) (rest : Items)
    → list_step scale names known (member_path path (codes "/items/") place) items d ≡ Ok ((more, n), new)
    → list_from scale names known path place items skipped (item d rest) ≡ list_from scale new known path (place + 1) more (skipped + n) rest
unfolding list_from
list_from-step scale names new known path place items more skipped n d rest h = ap (λ r. r >>= λ next. list_from scale next.1 known path (place + 1) next.0.0 (skipped + next.0.1) rest) h

pub list_from-fails : (scale : Scale) (e : ReadFault) (names : Texts) (known path : List ℕ) (place : ℕ) (items : List (Key × Object)) (skipped : ℕ) (d : Data) (rest : Items)
    → Fails e (list_step scale names known (member_path path (codes "/items/") place) items d) → Fails e (list_from scale names known path place items skipped (item d rest))
unfolding list_from
list_from-fails scale e names known path place items skipped d rest h = Fails-then e _ (λ next. list_from scale next.1 known path (place + 1) next.0.0 (skipped + next.0.1) rest) h

-- what a loop over an array knows of its next member
module _ (names : Texts) (path : List ℕ) (place : ℕ) (vs : List Value) where
  module _ (earlier : List Taint) (start : Result (List Taint × Texts) Refusal) (so_far : start ≡ taints_from names path place earlier (items_view (drop place vs))) where
    pub taints-fail : (v : Value) (e : ReadFault) → place < length vs → v ≡ get_or vs place v → Fails e (taint_at names (member_path path (codes "/spec/taints/") place) earlier (view v)) → Fails e start
    taints-fail v e lt is h = rw (so_far, items_view-drop vs place v lt (sym is)) (taints_from-fails e names path place earlier (view v) _ h)

    pub taints-step : (v : Value) (new : Texts) (taint : Taint) (more : List Taint) → place < length vs → v ≡ get_or vs place v → more ≡ earlier ++ taint ∷ []
        → taint_at names (member_path path (codes "/spec/taints/") place) earlier (view v) ≡ Ok (taint, new) → start ≡ taints_from new path (place + 1) more (items_view (drop (place + 1) vs))
    taints-step v new taint more lt is push h =
        so_far ∙ ap (taints_from names path place earlier) (items_view-drop vs place v lt (sym is)) ∙ taints_from-step names new path place earlier (view v) _ taint h
        ∙ ap (λ ts. taints_from new path (place + 1) ts (items_view (drop (place + 1) vs))) (sym push)

    pub taints-end : length vs ≤ place → start ≡ Ok (earlier, names)
    unfolding taints_from
    taints-end le = so_far ∙ ap (taints_from names path place earlier) (items_view-end vs place le)

  module _ (found : Option Ready) (start : Result (Option Ready × Texts) Refusal) (so_far : start ≡ conditions_from names path place found (items_view (drop place vs))) where
    pub conditions-fail : (v : Value) (e : ReadFault) → place < length vs → v ≡ get_or vs place v → Fails e (condition_at names (member_path path (codes "/status/conditions/") place) found (view v)) → Fails e start
    conditions-fail v e lt is h = rw (so_far, items_view-drop vs place v lt (sym is)) (conditions_from-fails e names path place found (view v) _ h)

    pub conditions-step : (v : Value) (new : Texts) (next : Option Ready) → place < length vs → v ≡ get_or vs place v
        → condition_at names (member_path path (codes "/status/conditions/") place) found (view v) ≡ Ok (next, new) → start ≡ conditions_from new path (place + 1) next (items_view (drop (place + 1) vs))
    conditions-step v new next lt is h =
        so_far ∙ ap (conditions_from names path place found) (items_view-drop vs place v lt (sym is)) ∙ conditions_from-step names new path place found next (view v) _ h

    pub conditions-end : length vs ≤ place → start ≡ Ok (found, names)
    unfolding conditions_from
    conditions-end le = so_far ∙ ap (conditions_from names path place found) (items_view-end vs place le)

  module _ (key : List ℕ) (earlier : List Toleration) (start : Result (List Toleration × Texts) Refusal) (so_far : start ≡ tolerations_from names path key place earlier (items_view (drop place vs))) where
    pub tolerations-fail : (v : Value) (e : ReadFault) → place < length vs → v ≡ get_or vs place v → Fails e (toleration_at names (member_path path key place) (view v)) → Fails e start
    tolerations-fail v e lt is h = rw (so_far, items_view-drop vs place v lt (sym is)) (tolerations_from-fails e names path key place earlier (view v) _ h)

    pub tolerations-step : (v : Value) (new : Texts) (next : Toleration) (more : List Toleration) → place < length vs → v ≡ get_or vs place v → more ≡ earlier ++ next ∷ []
        → toleration_at names (member_path path key place) (view v) ≡ Ok (next, new) → start ≡ tolerations_from new path key (place + 1) more (items_view (drop (place + 1) vs))
    tolerations-step v new next more lt is push h =
        so_far ∙ ap (tolerations_from names path key place earlier) (items_view-drop vs place v lt (sym is)) ∙ tolerations_from-step names new path key place earlier (view v) _ next h
        ∙ ap (λ ts. tolerations_from new path key (place + 1) ts (items_view (drop (place + 1) vs))) (sym push)

    pub tolerations-end : length vs ≤ place → start ≡ Ok (earlier, names)
    unfolding tolerations_from
    tolerations-end le = so_far ∙ ap (tolerations_from names path key place earlier) (items_view-end vs place le)

  module _ (scale : Scale) (known : List ℕ) (items : List (Key × Object)) (skipped : ℕ) (start : Result ((List (Key × Object) × ℕ) × Texts) Refusal)
      (so_far : start ≡ list_from scale names known path place items skipped (items_view (drop place vs))) where
    pub list-fail : (v : Value) (e : ReadFault) → place < length vs → v ≡ get_or vs place v → Fails e (list_step scale names known (member_path path (codes "/items/") place) items (view v)) → Fails e start
    list-fail v e lt is h = rw (so_far, items_view-drop vs place v lt (sym is)) (list_from-fails scale e names known path place items skipped (view v) _ h)

    pub list-step : (v : Value) (new : Texts) (more : List (Key × Object)) (n : ℕ) → place < length vs → v ≡ get_or vs place v
        → list_step scale names known (member_path path (codes "/items/") place) items (view v) ≡ Ok ((more, n), new) → start ≡ list_from scale new known path (place + 1) more (skipped + n) (items_view (drop (place + 1) vs))
    list-step v new more n lt is h =
        so_far ∙ ap (list_from scale names known path place items skipped) (items_view-drop vs place v lt (sym is)) ∙ list_from-step scale names new known path place items more skipped n (view v) _ h

    pub list-end : length vs ≤ place → start ≡ Ok ((items, skipped), names)
    unfolding list_from
    list-end le = so_far ∙ ap (list_from scale names known path place items skipped) (items_view-end vs place le)

items_len-view : (vs : List Value) → items_len (items_view vs) ≡ length vs
items_len-view [] = refl
items_len-view (v ∷ vs) = ap (λ n. 1 + n) (items_len-view vs) ∙ omega arith

pub hundred-over : (path : List ℕ) (vs : List Value) → 100 < length vs → hundred path (items_view vs) ≡ refuse TOO_MANY path
hundred-over path vs lt = ap (λ b. cond b (refuse TOO_MANY path) (Ok (items_view vs))) (ap (λ n. nat_lt 100 n) (items_len-view vs) ∙ lt-ltb 100 (length vs) lt)

pub hundred-few : (path : List ℕ) (vs : List Value) → length vs ≤ 100 → hundred path (items_view vs) ≡ Ok (items_view vs)
hundred-few path vs le = ap (λ b. cond b (refuse TOO_MANY path) (Ok (items_view vs))) (ap (λ n. nat_lt 100 n) (items_len-view vs) ∙ by (nat_lt 100 (length vs)) refl)
  where
    by : (b : Bool) → nat_lt 100 (length vs) ≡ b → nat_lt 100 (length vs) ≡ false
    by false e = e
    by true e = absurd (omega (arith, ltb-true 100 (length vs) e))
