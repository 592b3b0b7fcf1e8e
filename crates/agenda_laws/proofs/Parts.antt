-- A step, a turn and a tick add nothing exactly where each of their parts, done on the history by itself, adds nothing.
use Rattle.std.proofs.Common.{◌≡◌, ◌==◌, not, Bool, true, false, ℕ, zero, suc, ◌<◌, Option, Some, None, List, [], ◌∷◌, refl, sym, ap, ◌∙◌, subst, inl, inr, arith}
use Rattle.std.specs.Prelude.{if◌then◌else◌}
use Rattle.std.proofs.lemmas.Bool.{cases_lt}
use Rattle.kube_objects.specs.declared.script.Event.{Event}
use Rattle.kube_objects.specs.declared.script.What.{What}
use Rattle.kube_objects.specs.declared.script.What.TheVariants as what
use Rattle.kube_objects.specs.Document.{Doc, processes, is_up_first}
use Rattle.kube_objects.specs.Elector.{deadline, acts}
use Rattle.kube_objects.specs.Entry.{Entry, Identity, Call, Event as Happens, script_entry}
use Rattle.kube_objects.specs.Identities.{identity}
use Rattle.kube_objects.specs.Kubelet.{round_if, round}
use Rattle.kube_objects.specs.Newest.{only_if}
use Rattle.kube_objects.specs.Pauses.{is_paused}
use Rattle.kube_objects.specs.Process.{alive, call_in, is_late, release_begun, ended, is_restart_due}
use Rattle.kube_objects.specs.Seen.{is_synced}
use Rattle.kube_objects.specs.Stalls.{is_stalled}
use Rattle.kube_objects.specs.Tick.{sync, pass, cleaned, tainted, evicted, tick, phases}
use Rattle.kube_objects.specs.Turns.{expire_as, expire_call, end_as, end_term, attempt_if, try}
use Rattle.history.specs.Steps.{start_first, starts_below, first_starts, start_if_down, crash, stall, stop, effect, stamp, event_version, happen_all, step_one, restart_if, restart, expire, finish, attempts, ticks_while, ticks, elector_turn, controller_turn, rounds, kubelet_turn, happens, start}
use Rattle.history_laws.specs.Tails.{IsTail, Among}
use Rattle.history_laws.proofs.Tailed.{tail_all, tail_trans, stop_as_adds, expire_as_adds, end_as_adds}
use Rattle.history_laws.proofs.Ticks.{walk_sync, walk_pass, walk_cleaned, walk_tainted, walk_evicted, walk_tick}
use Rattle.agenda_laws.specs.Parts.{IsUneventful, EventsAddByParts, IsStillElector, ElectorsAddByParts, IsStillController, ControllersAddByParts, IsStillKubelet, KubeletsAddByParts, IsStillSynced, IsStillTick, TicksAddByParts}
use Rattle.agenda_laws.proofs.Between.{between, longer, grew, up_adds}

-- ---- first starts

first_adds : (p : ℕ) (b : Bool) (h : List Entry) → IsTail h (start_first p b h)
first_adds p false h = tail_all h
first_adds p true h = inr (tail_all h)

first_none : (p : ℕ) (b : Bool) (h : List Entry) → start_first p b h ≡ h → b ≡ false
first_none p false h is = refl
first_none p true h is = absurd (grew _ h is)

below_adds : (doc : Doc) (n : ℕ) (h : List Entry) → IsTail h (starts_below doc n h)
below_adds doc zero h = tail_all h
below_adds doc (suc p) h = tail_trans h (starts_below doc p h) (starts_below doc (suc p) h) (below_adds doc p h) (first_adds p (is_up_first doc p) (starts_below doc p h))

below_same : (doc : Doc) (p : ℕ) (h : List Entry) → starts_below doc (suc p) h ≡ h → starts_below doc p h ≡ h
below_same doc p h is = between h (starts_below doc p h) (starts_below doc (suc p) h) (below_adds doc p h) (first_adds p (is_up_first doc p) (starts_below doc p h)) is

below_none : (doc : Doc) (n : ℕ) (h : List Entry) → starts_below doc n h ≡ h → (p : ℕ) → p < n → is_up_first doc p ≡ false
below_none doc zero h is p less = absurd (omega (arith, less))
below_none doc (suc n) h is p less =
    elim (cases_lt p n) [
      | inl before ↦ below_none doc n h (below_same doc n h is) p before
      | inr after ↦
          let same : n ≡ p = omega (arith, less, after) in
          subst (λ x. is_up_first doc x ≡ false) same (first_none n (is_up_first doc n) h (ap (start_first n (is_up_first doc n)) (sym (below_same doc n h is)) ∙ is))
    ]

none_below : (doc : Doc) (n : ℕ) (h : List Entry) → ((p : ℕ) → p < n → is_up_first doc p ≡ false) → starts_below doc n h ≡ h
none_below doc zero h none = refl
none_below doc (suc p) h none =
    ap (λ b. start_first p b (starts_below doc p h)) (none p (omega arith)) ∙ none_below doc p h (λ x less. none x (omega (arith, less)))

starts_add : (doc : Doc) (k : ℕ) (h : List Entry) → IsTail h (first_starts doc k h)
starts_add doc zero h = below_adds doc (processes doc) h
starts_add doc (suc k) h = tail_all h

starts_none : (doc : Doc) (k : ℕ) (h : List Entry) → first_starts doc k h ≡ h → k ≡ 0 → (p : ℕ) → p < processes doc → is_up_first doc p ≡ false
starts_none doc zero h is first p less = below_none doc (processes doc) h is p less
starts_none doc (suc k) h is first p less = absurd (omega (arith, first))

none_starts : (doc : Doc) (k : ℕ) (h : List Entry) → (k ≡ 0 → (p : ℕ) → p < processes doc → is_up_first doc p ≡ false) → first_starts doc k h ≡ h
none_starts doc zero h none = none_below doc (processes doc) h (none refl)
none_starts doc (suc k) h none = refl

-- ---- events

module _ (doc : Doc) (k : ℕ) where
  start_adds : (p : ℕ) (o : Option ℕ) (h : List Entry) → IsTail h (start_if_down k 1 p o h)
  start_adds p None h = inr (tail_all h)
  start_adds p (Some i) h = tail_all h

  crash_adds : (p : ℕ) (o : Option ℕ) (h : List Entry) → IsTail h (crash k p o h)
  crash_adds p None h = tail_all h
  crash_adds p (Some i) h = inr (tail_all h)

  stall_adds : (p beats : ℕ) (o : Option ℕ) (h : List Entry) → IsTail h (stall k p beats o h)
  stall_adds p beats None h = tail_all h
  stall_adds p beats (Some i) h = inr (tail_all h)

  stop_adds : (p : ℕ) (o : Option ℕ) (before h : List Entry) → IsTail h (stop doc k p o before h)
  stop_adds p None before h = tail_all h
  stop_adds p (Some i) before h = stop_as_adds doc.settings.rules.release doc k (identity p i) before h h (tail_all h)

  effect_adds : (w : What) (before h : List Entry) → IsTail h (effect doc k w before h)
  effect_adds (what.Crash id) before h = crash_adds id.0 (alive id.0 before) h
  effect_adds (what.Start id) before h = start_adds id.0 (alive id.0 before) h
  effect_adds (what.Stop id) before h = stop_adds id.0 (only_if (not (is_paused doc id.0 k)) (alive id.0 before)) before h
  effect_adds (what.Rate id ppm) before h = tail_all h
  effect_adds (what.Delay id requests replies) before h = tail_all h
  effect_adds (what.Loss id requests replies) before h = tail_all h
  effect_adds (what.Watch id on) before h = tail_all h
  effect_adds (what.Ready id status) before h = tail_all h
  effect_adds (what.Pause id beats) before h = stall_adds id.0 beats (alive id.0 before) h
  effect_adds (what.Stall beats) before h = tail_all h
  effect_adds (what.Put key object) before h = tail_all h
  effect_adds (what.Remove key) before h = tail_all h

  abbrev noted : What → List Entry → Entry
  noted w h = script_entry k 1 (Happens (stamp doc k w) (event_version w h))

  happens_adds : (w : What) (b : Bool) (h : List Entry) → IsTail h (if b then happens doc k w h else h)
  happens_adds w false h = tail_all h
  happens_adds w true h = tail_trans h (noted w h ∷ h) (if true then happens doc k w h else h) (inr (tail_all h)) (effect_adds w h (noted w h ∷ h))

  happens_none : (w : What) (b : Bool) (h : List Entry) → (if b then happens doc k w h else h) ≡ h → b ≡ false
  happens_none w false h is = refl
  happens_none w true h is = absurd (longer (noted w h) h (if true then happens doc k w h else h) (effect_adds w h (noted w h ∷ h)) is)

  events_add : (es : List Event) (h : List Entry) → IsTail h (happen_all doc k es h)
  events_add [] h = tail_all h
  events_add (e ∷ es) h =
      let one = (if (e.beat.0 == k) then happens doc k e.what h else h) in
      tail_trans h one (happen_all doc k es one) (happens_adds e.what (e.beat.0 == k) h) (events_add es one)

  event_same : (e : Event) (es : List Event) (h : List Entry) → happen_all doc k (e ∷ es) h ≡ h → (if (e.beat.0 == k) then happens doc k e.what h else h) ≡ h
  event_same e es h is =
      let one = (if (e.beat.0 == k) then happens doc k e.what h else h) in
      between h one (happen_all doc k es one) (happens_adds e.what (e.beat.0 == k) h) (events_add es one) is

  events_none : (es : List Event) (h : List Entry) → happen_all doc k es h ≡ h → (e : Event) → Among e es → (e.beat.0 == k) ≡ false
  events_none [] h is e at = absurd at
  events_none (x ∷ xs) h is e (inl same) = subst (λ (y : Event). (y.beat.0 == k) ≡ false) (sym same) (happens_none x.what (x.beat.0 == k) h (event_same x xs h is))
  events_none (x ∷ xs) h is e (inr at) = events_none xs h (ap (happen_all doc k xs) (sym (event_same x xs h is)) ∙ is) e at

  none_events : (es : List Event) (h : List Entry) → ((e : Event) → Among e es → (e.beat.0 == k) ≡ false) → happen_all doc k es h ≡ h
  none_events [] h none = refl
  none_events (x ∷ xs) h none =
      ap (λ b. happen_all doc k xs (if b then happens doc k x.what h else h)) (none x (inl refl)) ∙ none_events xs h (λ e at. none e (inr at))

  one_uneventful : (h : List Entry) → step_one doc k h ≡ h → IsUneventful doc k
  one_uneventful h is =
      let first = first_starts doc k h in
      let same : first ≡ h = between h first (step_one doc k h) (starts_add doc k h) (events_add doc.events first) is in
      record {
        starts = starts_none doc k h same;
        events = events_none doc.events h (ap (happen_all doc k doc.events) (sym same) ∙ is);
      }

  uneventful_one : (h : List Entry) → IsUneventful doc k → step_one doc k h ≡ h
  uneventful_one h s = ap (happen_all doc k doc.events) (none_starts doc k h s.starts) ∙ none_events doc.events h s.events

pub events_add_by_parts : EventsAddByParts
events_add_by_parts doc k h = (one_uneventful doc k h, uneventful_one doc k h)

-- ---- a tick

module _ (doc : Doc) (k : ℕ) (q : Identity) where
  pub sync_adds : (h : List Entry) → IsTail h (sync doc k q h)
  sync_adds h = walk_sync doc k q (IsTail h) (λ t g made s. inr s) h (tail_all h)

  pub pass_adds : (h : List Entry) → IsTail h (pass doc k q h)
  pass_adds h = walk_pass doc k q (IsTail h) (λ t g made s. inr s) h (tail_all h)

  cleaned_adds : (h : List Entry) → IsTail h (cleaned doc k q h)
  cleaned_adds h = walk_cleaned doc k q (IsTail h) (λ t g made s. inr s) h (tail_all h)

  tainted_adds : (h : List Entry) → IsTail h (tainted doc k q h)
  tainted_adds h = walk_tainted doc k q (IsTail h) (λ t g made s. inr s) h (tail_all h)

  evicted_adds : (h : List Entry) → IsTail h (evicted doc k q h)
  evicted_adds h = walk_evicted doc k q (IsTail h) (λ t g made s. inr s) h (tail_all h)

  pub tick_adds : (h : List Entry) → IsTail h (tick doc k q h)
  tick_adds h = walk_tick doc k q (IsTail h) (λ t g made s. inr s) h (tail_all h)

  synced_adds : (b : Bool) (h : List Entry) → IsTail h (if b then phases doc k q h else h)
  synced_adds false h = tail_all h
  synced_adds true h =
      let p = pass doc k q h in
      let c = cleaned doc k q p in
      let t = tainted doc k q c in
      let e = evicted doc k q t in
      tail_trans h p e (pass_adds h) (tail_trans p c e (cleaned_adds p) (tail_trans c t e (tainted_adds c) (evicted_adds t)))

  synced_still : (h : List Entry) → (if true then phases doc k q h else h) ≡ h → IsStillSynced doc k q h
  synced_still h is =
      let p = pass doc k q h in
      let c = cleaned doc k q p in
      let t = tainted doc k q c in
      let e = evicted doc k q t in
      let t_high = evicted_adds t in
      let c_high = tail_trans c t e (tainted_adds c) t_high in
      let p_high = tail_trans p c e (cleaned_adds p) c_high in
      let p_is : p ≡ h = between h p e (pass_adds h) p_high is in
      let c_low = tail_trans h p c (pass_adds h) (cleaned_adds p) in
      let c_is : c ≡ h = between h c e c_low c_high is in
      let t_is : t ≡ h = between h t e (tail_trans h c t c_low (tainted_adds c)) t_high is in
      record {
        passes = p_is;
        cleans = ap (cleaned doc k q) (sym p_is) ∙ c_is;
        taints = ap (tainted doc k q) (sym c_is) ∙ t_is;
        evicts = ap (evicted doc k q) (sym t_is) ∙ is;
      }

  still_synced : (h : List Entry) → IsStillSynced doc k q h → (if true then phases doc k q h else h) ≡ h
  still_synced h s =
      ap (λ g. evicted doc k q (tainted doc k q (cleaned doc k q g))) s.passes
      ∙ ap (λ g. evicted doc k q (tainted doc k q g)) s.cleans
      ∙ ap (evicted doc k q) s.taints
      ∙ s.evicts

  still_if : (b : Bool) (h : List Entry) → (b ≡ true → IsStillSynced doc k q h) → (if b then phases doc k q h else h) ≡ h
  still_if true h s = still_synced h (s refl)
  still_if false h s = refl

  tick_still : (h : List Entry) → tick doc k q h ≡ h → IsStillTick doc k q h
  tick_still h is =
      let g = sync doc k q h in
      let same : g ≡ h = between h g (tick doc k q h) (sync_adds h) (synced_adds (is_synced q g) g) is in
      let here : (if (is_synced q h) then phases doc k q h else h) ≡ h = ap (λ x. (if (is_synced q x) then phases doc k q x else x)) (sym same) ∙ is in
      record { syncs = same; synced = λ yet. synced_still h (subst (λ b. (if b then phases doc k q h else h) ≡ h) yet here) }

  still_tick : (h : List Entry) → IsStillTick doc k q h → tick doc k q h ≡ h
  still_tick h s = ap (λ x. (if (is_synced q x) then phases doc k q x else x)) s.syncs ∙ still_if (is_synced q h) h s.synced

pub ticks_add_by_parts : TicksAddByParts
ticks_add_by_parts doc k q h = (tick_still doc k q h, still_tick doc k q h)

-- ---- a turn

module _ (doc : Doc) (k p : ℕ) where
  restart_as_adds : (b : Bool) (h : List Entry) → IsTail h (if b then start k 4 p h else h)
  restart_as_adds false h = tail_all h
  restart_as_adds true h = inr (tail_all h)

  restart_if_adds : (o : Option ℕ) (h : List Entry) → IsTail h (restart_if doc k p o h)
  restart_if_adds (Some i) h = tail_all h
  restart_if_adds None h = restart_as_adds (is_restart_due doc p k (ended doc p h)) h

  restart_adds : (h : List Entry) → IsTail h (restart doc k p h)
  restart_adds h = restart_if_adds (alive p h) h

  late_adds : (q : Identity) (call : Call) (b : Bool) (h : List Entry)
      → IsTail h (if b then expire_as doc k q call (release_begun doc.settings.rules.release call.kind) h else h)
  late_adds q call false h = tail_all h
  late_adds q call true h = expire_as_adds doc k q call (release_begun doc.settings.rules.release call.kind) h h (tail_all h)

  expire_call_adds : (q : Identity) (o : Option Call) (h : List Entry) → IsTail h (expire_call doc k q o h)
  expire_call_adds q None h = tail_all h
  expire_call_adds q (Some call) h = late_adds q call (is_late doc q k call) h

  expire_adds : (h : List Entry) → IsTail h (expire doc k p h)
  expire_adds h = up_adds p (λ q T. expire_call doc k q (call_in q T) T) (λ q g. expire_call_adds q (call_in q g) g) (alive p h) h

  deadline_adds : (q : Identity) (b : Bool) (h : List Entry) → IsTail h (if b then h else end_as doc.settings.rules.release doc k q h)
  deadline_adds q true h = tail_all h
  deadline_adds q false h = end_as_adds doc.settings.rules.release doc k q h h (tail_all h)

  end_term_adds : (q : Identity) (o : Option ℕ) (h : List Entry) → IsTail h (end_term doc k q o h)
  end_term_adds q None h = tail_all h
  end_term_adds q (Some at) h = deadline_adds q _ h

  finish_adds : (h : List Entry) → IsTail h (finish doc k p h)
  finish_adds h = up_adds p (λ q T. end_term doc k q (deadline doc q T) T) (λ q g. end_term_adds q (deadline doc q g) g) (alive p h) h

  attempt_adds : (q : Identity) (fast due : Bool) (h : List Entry) → IsTail h (attempt_if doc k q fast due h)
  attempt_adds q true due h = inr (tail_all h)
  attempt_adds q false true h = inr (tail_all h)
  attempt_adds q false false h = tail_all h

  attempts_add : (h : List Entry) → IsTail h (attempts doc k p h)
  attempts_add h = up_adds p (try doc k) (λ q g. attempt_adds q _ _ g) (alive p h) h

  tick_as_adds : (q : Identity) (b : Bool) (h : List Entry) → IsTail h (if b then tick doc k q h else h)
  tick_as_adds q false h = tail_all h
  tick_as_adds q true h = tick_adds doc k q h

  ticks_while_add : (b : Bool) (h : List Entry) → IsTail h (ticks_while b doc k p h)
  ticks_while_add true h = tail_all h
  ticks_while_add false h = up_adds p (λ q T. (if (acts doc q k T) then tick doc k q T else T)) (λ q g. tick_as_adds q (acts doc q k g) g) (alive p h) h

  ticks_add : (h : List Entry) → IsTail h (ticks doc k p h)
  ticks_add h = ticks_while_add (is_stalled doc k) h

  elector_adds : (h : List Entry) → IsTail h (elector_turn doc k p h)
  elector_adds h =
      let r = restart doc k p h in
      let e = expire doc k p r in
      let f = finish doc k p e in
      let a = attempts doc k p f in
      tail_trans h r a (restart_adds h) (tail_trans r e a (expire_adds r) (tail_trans e f a (finish_adds e) (attempts_add f)))

  elector_still : (h : List Entry) → elector_turn doc k p h ≡ h → IsStillElector doc k p h
  elector_still h is =
      let r = restart doc k p h in
      let e = expire doc k p r in
      let f = finish doc k p e in
      let a = attempts doc k p f in
      let f_high = attempts_add f in
      let e_high = tail_trans e f a (finish_adds e) f_high in
      let r_high = tail_trans r e a (expire_adds r) e_high in
      let r_low = restart_adds h in
      let e_low = tail_trans h r e r_low (expire_adds r) in
      let f_low = tail_trans h e f e_low (finish_adds e) in
      let r_is : r ≡ h = between h r a r_low r_high is in
      let e_is : e ≡ h = between h e a e_low e_high is in
      let f_is : f ≡ h = between h f a f_low f_high is in
      record {
        restarts = r_is;
        expires = ap (expire doc k p) (sym r_is) ∙ e_is;
        finishes = ap (finish doc k p) (sym e_is) ∙ f_is;
        tries = ap (attempts doc k p) (sym f_is) ∙ is;
      }

  still_elector : (h : List Entry) → IsStillElector doc k p h → elector_turn doc k p h ≡ h
  still_elector h s =
      ap (λ g. attempts doc k p (finish doc k p (expire doc k p g))) s.restarts
      ∙ ap (λ g. attempts doc k p (finish doc k p g)) s.expires
      ∙ ap (attempts doc k p) s.finishes
      ∙ s.tries

  controller_still : (h : List Entry) → controller_turn doc k p h ≡ h → IsStillController doc k p h
  controller_still h is =
      let a = elector_turn doc k p h in
      let same : a ≡ h = between h a (controller_turn doc k p h) (elector_adds h) (ticks_add a) is in
      record { elector = same; ticks = ap (ticks doc k p) (sym same) ∙ is }

  still_controller : (h : List Entry) → IsStillController doc k p h → controller_turn doc k p h ≡ h
  still_controller h s = ap (ticks doc k p) s.elector ∙ s.ticks

  round_adds : (q : Identity) (late due : Bool) (h : List Entry) → IsTail h (round_if doc k q late due h)
  round_adds q true due h = inr (tail_all h)
  round_adds q false true h = inr (tail_all h)
  round_adds q false false h = tail_all h

  rounds_add : (h : List Entry) → IsTail h (rounds doc k p h)
  rounds_add h = up_adds p (round doc k) (λ q g. round_adds q _ _ g) (alive p h) h

  kubelet_still : (h : List Entry) → kubelet_turn doc k p h ≡ h → IsStillKubelet doc k p h
  kubelet_still h is =
      let e = expire doc k p h in
      let same : e ≡ h = between h e (kubelet_turn doc k p h) (expire_adds h) (rounds_add e) is in
      record { expires = same; rounds = ap (rounds doc k p) (sym same) ∙ is }

  still_kubelet : (h : List Entry) → IsStillKubelet doc k p h → kubelet_turn doc k p h ≡ h
  still_kubelet h s = ap (rounds doc k p) s.expires ∙ s.rounds

pub electors_add_by_parts : ElectorsAddByParts
electors_add_by_parts doc k p h = (elector_still doc k p h, still_elector doc k p h)

pub controllers_add_by_parts : ControllersAddByParts
controllers_add_by_parts doc k p h = (controller_still doc k p h, still_controller doc k p h)

pub kubelets_add_by_parts : KubeletsAddByParts
kubelets_add_by_parts doc k p h = (kubelet_still doc k p h, still_kubelet doc k p h)
