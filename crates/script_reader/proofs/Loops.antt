-- One step of the walks over arrays.
use Rattle.std.proofs.Common.{◌≡◌, ℕ, ◌+◌, ◌<◌, ◌≤◌, List, [], ◌∷◌, ◌++◌, length, drop, get_or, Result, Ok, Err, codes, refl, sym, ap, ◌∙◌, arith, append_assoc, Bool, true, false, cond, nat_lt}
use Rattle.std.proofs.lemmas.Bool.{lt-ltb, ltb-true}
use Rattle.serde_json.specs.Data.{Data, Items, item}
use Rattle.serde_json.specs.View.{view, items_view}
use Rattle.serde_json.specs.declared.value.Value.{Value}
use Rattle.kube_base.specs.declared.numbers.Beat.{Beat}
use Rattle.kube_objects.specs.declared.script.Event.{Event}
use Rattle.kube_objects.specs.declared.script.Proc.{Proc}
use Rattle.kube_objects.specs.declared.settings.Settings.{Settings}
use Rattle.manifest_json.specs.declared.codes.TheConstants.{TOO_MANY}
use Rattle.manifest_json.proofs.Loops.{items_view-drop, items_view-end, Fails-then}
use Rattle.manifest_json.specs.declared.fault.Refusal.{Refusal}
use Rattle.manifest_json.specs.declared.fault.ReadFault.{ReadFault}
use Rattle.manifest_json.specs.Faults.{◌>>=◌, refuse, Fails}
use Rattle.manifest_json.specs.Fields.{Texts}
use Rattle.manifest_json.specs.Walk.{items_len, member_path}
use Rattle.script_reader.specs.Fields.{at_most}
use Rattle.script_reader.specs.Waits.{wait_in, waits_from}
use Rattle.script_reader.specs.Walk.{Cast, Team, controller_at, controllers_from, kubelet_at, kubelets_from, event_at, events_from}
use Rattle.script_reader.specs.declared.choice.Preset.{Preset}
use Rattle.script_reader.specs.declared.parts.Scope.{Scope}
use Rattle.script_reader.specs.declared.table.Version.{Version}

items_len-view : (vs : List Value) → items_len (items_view vs) ≡ length vs
items_len-view [] = refl
items_len-view (v ∷ vs) = ap (λ n. 1 + n) (items_len-view vs) ∙ omega arith

pub at_most-over : (most : ℕ) (path : List ℕ) (vs : List Value) → most < length vs → at_most most path (items_view vs) ≡ refuse TOO_MANY path
at_most-over most path vs lt = ap (λ b. cond b (refuse TOO_MANY path) (Ok (items_view vs))) (ap (λ n. nat_lt most n) (items_len-view vs) ∙ lt-ltb most (length vs) lt)

pub at_most-few : (most : ℕ) (path : List ℕ) (vs : List Value) → length vs ≤ most → at_most most path (items_view vs) ≡ Ok (items_view vs)
at_most-few most path vs le = ap (λ b. cond b (refuse TOO_MANY path) (Ok (items_view vs))) (ap (λ n. nat_lt most n) (items_len-view vs) ∙ by (nat_lt most (length vs)) refl)
  where
    by : (b : Bool) → nat_lt most (length vs) ≡ b → nat_lt most (length vs) ≡ false
    by false e = e
    by true e = absurd (omega (arith, ltb-true most (length vs) e))

-- ---- controllers and kubelets

pub controllers_from-step : (version : Version) (settings : Settings) (preset : Preset) (names new : Texts) (place : ℕ) (earlier : List Proc) (waits : List (List ℕ)) (d : Data) (rest : Items) (found : Proc × List ℕ)
    → controller_at version settings preset names (member_path [] (codes "/controllers/") place) earlier d ≡ Ok (found, new)
    → controllers_from version settings preset names place earlier waits (item d rest) ≡ controllers_from version settings preset new (place + 1) (earlier ++ found.0 ∷ []) (waits ++ found.1 ∷ []) rest
unfolding controllers_from
controllers_from-step version settings preset names new place earlier waits d rest found h =
    ap (λ r. r >>= λ next. controllers_from version settings preset next.1 (place + 1) (earlier ++ next.0.0 ∷ []) (waits ++ next.0.1 ∷ []) rest) h

pub controllers_from-fails : (e : ReadFault) (version : Version) (settings : Settings) (preset : Preset) (names : Texts) (place : ℕ) (earlier : List Proc) (waits : List (List ℕ)) (d : Data) (rest : Items)
    → Fails e (controller_at version settings preset names (member_path [] (codes "/controllers/") place) earlier d)
    → Fails e (controllers_from version settings preset names place earlier waits (item d rest))
unfolding controllers_from
controllers_from-fails e version settings preset names place earlier waits d rest h =
    Fails-then e _ (λ next. controllers_from version settings preset next.1 (place + 1) (earlier ++ next.0.0 ∷ []) (waits ++ next.0.1 ∷ []) rest) h

pub kubelets_from-step : (settings : Settings) (names new : Texts) (place : ℕ) (earlier : List Proc) (d : Data) (rest : Items) (proc : Proc)
    → kubelet_at settings names (member_path [] (codes "/kubelets/") place) earlier d ≡ Ok (proc, new)
    → kubelets_from settings names place earlier (item d rest) ≡ kubelets_from settings new (place + 1) (earlier ++ proc ∷ []) rest
unfolding kubelets_from
kubelets_from-step settings names new place earlier d rest proc h =
    ap (λ r. r >>= λ next. kubelets_from settings next.1 (place + 1) (earlier ++ next.0 ∷ []) rest) h

pub kubelets_from-fails : (e : ReadFault) (settings : Settings) (names : Texts) (place : ℕ) (earlier : List Proc) (d : Data) (rest : Items)
    → Fails e (kubelet_at settings names (member_path [] (codes "/kubelets/") place) earlier d)
    → Fails e (kubelets_from settings names place earlier (item d rest))
unfolding kubelets_from
kubelets_from-fails e settings names place earlier d rest h =
    Fails-then e _ (λ next. kubelets_from settings next.1 (place + 1) (earlier ++ next.0 ∷ []) rest) h

-- ---- events

-- the events of a walk behind these
abbrev pub behind_these : List Event → Result (List Event × Texts) Refusal → Result (List Event × Texts) Refusal
behind_these done walk = walk >>= λ more. Ok (done ++ more.0, more.1)

behind_none : (walk : Result (List Event × Texts) Refusal) → behind_these [] walk ≡ walk
behind_none (Ok x) = refl
behind_none (Err e) = refl

behind_one : (done : List Event) (e : Event) (walk : Result (List Event × Texts) Refusal)
    → behind_these done (walk >>= λ more. Ok (e ∷ more.0, more.1)) ≡ behind_these (done ++ e ∷ []) walk
behind_one done e (Ok x) = ap (λ es. Ok (es, x.1)) (sym (append_assoc done (e ∷ []) x.0))
behind_one done e (Err r) = refl

events_from-step : (scope : Scope) (cast : Cast) (names new : Texts) (place last : ℕ) (done : List Event) (d : Data) (rest : Items) (event : Event)
    → event_at scope cast names last done (member_path [] (codes "/events/") place) d ≡ Ok (event, new)
    → behind_these done (events_from scope cast names place last done (item d rest))
    ≡ behind_these (done ++ event ∷ []) (events_from scope cast new (place + 1) event.beat.0 (done ++ event ∷ []) rest)
unfolding events_from
events_from-step scope cast names new place last done d rest event h =
    ap (λ r. behind_these done (r >>= λ next. events_from scope cast next.1 (place + 1) next.0.beat.0 (done ++ next.0 ∷ []) rest >>= λ more. Ok (next.0 ∷ more.0, more.1))) h
    ∙ behind_one done event (events_from scope cast new (place + 1) event.beat.0 (done ++ event ∷ []) rest)

events_from-fails : (e : ReadFault) (scope : Scope) (cast : Cast) (names : Texts) (place last : ℕ) (done : List Event) (d : Data) (rest : Items)
    → Fails e (event_at scope cast names last done (member_path [] (codes "/events/") place) d)
    → Fails e (behind_these done (events_from scope cast names place last done (item d rest)))
unfolding events_from
events_from-fails e scope cast names place last done d rest h =
    Fails-then e _ (λ more. Ok (done ++ more.0, more.1))
    (Fails-then e _ (λ next. events_from scope cast next.1 (place + 1) next.0.beat.0 (done ++ next.0 ∷ []) rest >>= λ more. Ok (next.0 ∷ more.0, more.1)) h)

-- what a loop over an array knows of its next member
module _ (names : Texts) (place : ℕ) (vs : List Value) where
  module _ (version : Version) (settings : Settings) (preset : Preset) (earlier : List Proc) (waits : List (List ℕ)) (start : Result (Team × Texts) Refusal)
      (so_far : start ≡ controllers_from version settings preset names place earlier waits (items_view (drop place vs))) where
    pub controllers-fail : (v : Value) (e : ReadFault) → place < length vs → v ≡ get_or vs place v
        → Fails e (controller_at version settings preset names (member_path [] (codes "/controllers/") place) earlier (view v)) → Fails e start
    controllers-fail v e lt is h = rw (so_far, items_view-drop vs place v lt (sym is)) (controllers_from-fails e version settings preset names place earlier waits (view v) _ h)

    pub controllers-step : (v : Value) (new : Texts) (found : Proc × List ℕ) (more : List Proc) (longer : List (List ℕ)) → place < length vs → v ≡ get_or vs place v
        → more ≡ earlier ++ found.0 ∷ [] → longer ≡ waits ++ found.1 ∷ []
        → controller_at version settings preset names (member_path [] (codes "/controllers/") place) earlier (view v) ≡ Ok (found, new)
        → start ≡ controllers_from version settings preset new (place + 1) more longer (items_view (drop (place + 1) vs))
    controllers-step v new found more longer lt is push push_waits h =
        so_far ∙ ap (controllers_from version settings preset names place earlier waits) (items_view-drop vs place v lt (sym is))
        ∙ controllers_from-step version settings preset names new place earlier waits (view v) _ found h
        ∙ ap (λ ps. controllers_from version settings preset new (place + 1) ps (waits ++ found.1 ∷ []) (items_view (drop (place + 1) vs))) (sym push)
        ∙ ap (λ ws. controllers_from version settings preset new (place + 1) more ws (items_view (drop (place + 1) vs))) (sym push_waits)

    pub controllers-end : length vs ≤ place → start ≡ Ok ((earlier, waits), names)
    unfolding controllers_from
    controllers-end le = so_far ∙ ap (controllers_from version settings preset names place earlier waits) (items_view-end vs place le)

  module _ (settings : Settings) (earlier : List Proc) (start : Result (List Proc × Texts) Refusal)
      (so_far : start ≡ kubelets_from settings names place earlier (items_view (drop place vs))) where
    pub kubelets-fail : (v : Value) (e : ReadFault) → place < length vs → v ≡ get_or vs place v
        → Fails e (kubelet_at settings names (member_path [] (codes "/kubelets/") place) earlier (view v)) → Fails e start
    kubelets-fail v e lt is h = rw (so_far, items_view-drop vs place v lt (sym is)) (kubelets_from-fails e settings names place earlier (view v) _ h)

    pub kubelets-step : (v : Value) (new : Texts) (proc : Proc) (more : List Proc) → place < length vs → v ≡ get_or vs place v → more ≡ earlier ++ proc ∷ []
        → kubelet_at settings names (member_path [] (codes "/kubelets/") place) earlier (view v) ≡ Ok (proc, new)
        → start ≡ kubelets_from settings new (place + 1) more (items_view (drop (place + 1) vs))
    kubelets-step v new proc more lt is push h =
        so_far ∙ ap (kubelets_from settings names place earlier) (items_view-drop vs place v lt (sym is))
        ∙ kubelets_from-step settings names new place earlier (view v) _ proc h
        ∙ ap (λ ps. kubelets_from settings new (place + 1) ps (items_view (drop (place + 1) vs))) (sym push)

    pub kubelets-end : length vs ≤ place → start ≡ Ok (earlier, names)
    unfolding kubelets_from
    kubelets-end le = so_far ∙ ap (kubelets_from settings names place earlier) (items_view-end vs place le)

  module _ (scope : Scope) (cast : Cast) (last : ℕ) (done : List Event) (start : Result (List Event × Texts) Refusal)
      (so_far : start ≡ behind_these done (events_from scope cast names place last done (items_view (drop place vs)))) where
    pub events-fail : (v : Value) (e : ReadFault) → place < length vs → v ≡ get_or vs place v
        → Fails e (event_at scope cast names last done (member_path [] (codes "/events/") place) (view v)) → Fails e start
    events-fail v e lt is h = rw (so_far, items_view-drop vs place v lt (sym is)) (events_from-fails e scope cast names place last done (view v) _ h)

    pub events-step : (v : Value) (new : Texts) (event : Event) (more : List Event) (beat : Beat) → place < length vs → v ≡ get_or vs place v → more ≡ done ++ event ∷ [] → beat ≡ event.beat
        → event_at scope cast names last done (member_path [] (codes "/events/") place) (view v) ≡ Ok (event, new)
        → start ≡ behind_these more (events_from scope cast new (place + 1) beat.0 more (items_view (drop (place + 1) vs)))
    events-step v new event more beat lt is push same h =
        so_far ∙ ap (λ ds. behind_these done (events_from scope cast names place last done ds)) (items_view-drop vs place v lt (sym is))
        ∙ events_from-step scope cast names new place last done (view v) _ event h
        ∙ ap (λ es. behind_these es (events_from scope cast new (place + 1) event.beat.0 es (items_view (drop (place + 1) vs)))) (sym push)
        ∙ ap (λ b. behind_these more (events_from scope cast new (place + 1) b.0 more (items_view (drop (place + 1) vs)))) (sym same)

    pub events-end : length vs ≤ place → start ≡ Ok (done, names)
    unfolding events_from
    events-end le =
        so_far ∙ ap (λ ds. behind_these done (events_from scope cast names place last done ds)) (items_view-end vs place le)
        ∙ ap (λ es. Ok (es, names)) (append_empty done)
      where
        append_empty : (es : List Event) → es ++ [] ≡ es
        append_empty [] = refl
        append_empty (e ∷ es) = ap (λ xs. e ∷ xs) (append_empty es)

pub events-start : (scope : Scope) (cast : Cast) (names : Texts) (vs : List Value) (done : List Event) (last : ℕ) → done ≡ [] → last ≡ 0
    → events_from scope cast names 0 0 [] (items_view vs) ≡ behind_these done (events_from scope cast names 0 last done (items_view vs))
events-start scope cast names vs done last none zero =
    sym (behind_none (events_from scope cast names 0 0 [] (items_view vs)))
    ∙ ap (λ es. behind_these es (events_from scope cast names 0 0 es (items_view vs))) (sym none)
    ∙ ap (λ k. behind_these done (events_from scope cast names 0 k done (items_view vs))) (sym zero)

-- ---- waits

waits_from-step : (path : List ℕ) (place : ℕ) (waits : List ℕ) (d : Data) (rest : Items) (wait : ℕ)
    → wait_in (member_path path (codes "/") place) d ≡ Ok wait
    → waits_from path place waits (item d rest) ≡ waits_from path (place + 1) (waits ++ wait ∷ []) rest
unfolding waits_from
waits_from-step path place waits d rest wait h = ap (λ r. r >>= λ next. waits_from path (place + 1) (waits ++ next ∷ []) rest) h

waits_from-fails : (e : ReadFault) (path : List ℕ) (place : ℕ) (waits : List ℕ) (d : Data) (rest : Items)
    → Fails e (wait_in (member_path path (codes "/") place) d) → Fails e (waits_from path place waits (item d rest))
unfolding waits_from
waits_from-fails e path place waits d rest h = Fails-then e _ (λ wait. waits_from path (place + 1) (waits ++ wait ∷ []) rest) h

module _ (path : List ℕ) (place : ℕ) (vs : List Value) (waits : List ℕ) (start : Result (List ℕ) Refusal)
    (so_far : start ≡ waits_from path place waits (items_view (drop place vs))) where
  pub waits-fail : (v : Value) (e : ReadFault) → place < length vs → v ≡ get_or vs place v
      → Fails e (wait_in (member_path path (codes "/") place) (view v)) → Fails e start
  waits-fail v e lt is h = rw (so_far, items_view-drop vs place v lt (sym is)) (waits_from-fails e path place waits (view v) _ h)

  pub waits-step : (v : Value) (wait : ℕ) (more : List ℕ) → place < length vs → v ≡ get_or vs place v → more ≡ waits ++ wait ∷ []
      → wait_in (member_path path (codes "/") place) (view v) ≡ Ok wait
      → start ≡ waits_from path (place + 1) more (items_view (drop (place + 1) vs))
  waits-step v wait more lt is push h =
      so_far ∙ ap (waits_from path place waits) (items_view-drop vs place v lt (sym is))
      ∙ waits_from-step path place waits (view v) _ wait h
      ∙ ap (λ ws. waits_from path (place + 1) ws (items_view (drop (place + 1) vs))) (sym push)

  pub waits-end : length vs ≤ place → start ≡ Ok waits
  unfolding waits_from
  waits-end le = so_far ∙ ap (waits_from path place waits) (items_view-end vs place le)
