-- From one tick of an attended leader to the next one, under the project's own rules.
use Rattle.std.proofs.Common.{◌≡◌, ◌≤◌, ◌<◌, ℕ, zero, suc, ◌+◌, ◌-◌, ◌&&◌, ◌==◌, Bool, true, false, List, ◌∷◌, length, length-append, refl, sym, ap, ◌∙◌, subst, arith}
use Rattle.std.specs.Prelude.{if◌then◌else◌}
use Rattle.std.proofs.lemmas.Bool.{eqb-true, ltb-true}
use Rattle.kube_objects.specs.Document.{Doc, processes}
use Rattle.kube_objects.specs.Elector.{acts}
use Rattle.kube_objects.specs.Entry.{Entry, Identity, Ticks, actor_of, entry}
use Rattle.kube_objects.specs.Identities.{identity, is_by}
use Rattle.kube_objects.specs.Own.{ReleasesByStop}
use Rattle.kube_objects.specs.Tick.{tick}
use Rattle.history.specs.Evictions.{after_turn}
use Rattle.history.specs.History.{three_steps, history, at_turn}
use Rattle.history.specs.Safe.{IsActing}
use Rattle.history.specs.Steps.{step_one, step_two, if_up, restart, expire, finish, elector_turn, ticks_while, controller_turn, kubelet_turn, unpaused_turn, turn, turns}
use Rattle.history_laws.proofs.Ticks.{walk_tick}
use Rattle.history_laws.proofs.Walk.{Ticking, KeepsTurn, Keeps, IsStop, no_release, no_release_turn, all_turns, walk_to_tick, walk_turn, walk_one, walk_two, walk_three}
use Rattle.row_laws.specs.Keys.{is_ticking}
use Rattle.outage_laws.specs.Attended.{IsAttended}
use Rattle.outage_laws.proofs.Ready.{Ready, ready_at, still, ready_restart, ready_expire, ready_finish, ready_attempts}

module _ (doc : Doc) (own : ReleasesByStop doc) (q : Identity) (k : ℕ) where
  pub ready : IsAttended doc q k → Ready doc q k (elector_turn doc k q.process (at_turn doc q.process k))
  ready (acting, watching, passing, settled, goes) =
      let h0 = at_turn doc q.process k in
      let h1 = restart doc k q.process h0 in
      let h2 = expire doc k q.process h1 in
      let h3 = finish doc k q.process h2 in
      ready_attempts doc own q k h3 (ready_finish doc own q k h2 (ready_expire doc own q k h1 (ready_restart doc own q k h0 (ready_at doc own q k h0 acting.1 watching passing settled))))

  -- so it acts at its tick
  pub is_acting : IsAttended doc q k → IsActing doc q k
  is_acting attended = (attended.0.0, still doc own q k (elector_turn doc k q.process (at_turn doc q.process k)) (ready attended))

  -- its turn is that of its elector, and the tick
  pub turn_is : IsAttended doc q k → after_turn doc q.process k ≡ tick doc k q (elector_turn doc k q.process (at_turn doc q.process k))
  turn_is attended =
      let h0 = at_turn doc q.process k in
      let h = elector_turn doc k q.process h0 in
      let s = ready attended in
      ap (λ b. if b then h0 else unpaused_turn doc k q.process h0) s.awake
      ∙ ap (λ b. if b then controller_turn doc k q.process h0 else kubelet_turn doc k q.process h0) attended.0.0
      ∙ ap (λ b. ticks_while b doc k q.process h) attended.4
      ∙ ap (λ o. if_up q.process (λ q T. if (acts doc q k T) then tick doc k q T else T) o h) s.up
      ∙ ap (λ b. if b then tick doc k q h else h) (still doc own q k h s)

-- ---- what no entry of the leader's ticks keeps

module _ (doc : Doc) (own : ReleasesByStop doc) (q : Identity) (P : List Entry → Type 0) (foreign : (x : Entry) (h : List Entry) → is_ticking q x.actor x.fact ≡ false → P h → P (x ∷ h)) where
  stop : IsStop doc
  stop = own.release

  abbrev Another : Identity → ℕ → Type 0
  Another r k = is_by q (actor_of r) ≡ false

  foreign_turn : KeepsTurn doc Another (λ k h. P h)
  foreign_turn = record {
    restarts = λ k p h s. foreign _ h refl s;
    expires = λ k p i call h up waits late of s. foreign _ h refl s;
    ends = λ k p i at h role up is before stop s. foreign _ h refl s;
    polls = λ k p i h role up awake waits s. foreign _ h refl s;
    attempts = λ k p i h role up awake waits s. foreign _ h refl s;
    seeks = λ k p i call h role up awake expired late s. foreign _ h refl s;
    posts = λ k p i h role up awake none s. foreign _ h refl s;
    ticks = λ k r h other s. walk_tick doc k r P (λ t g made s. foreign (entry k 4 r (Ticks t)) g other s) h s;
  }

  -- from its turn on to its tick
  pub to_tick : (k : ℕ) → IsAttended doc q k → P (at_turn doc q.process k) → P (elector_turn doc k q.process (at_turn doc q.process k))
  to_tick k attended s = walk_to_tick doc Another (λ k h. P h) foreign_turn (no_release_turn doc (λ k h. P h) stop) k q.process attended.0.0 (ready doc own q k attended).awake (at_turn doc q.process k) s

  other_turn : (k c : ℕ) (h : List Entry) → (c ≡ q.process → ⊥) → P h → P (turn doc k c h)
  other_turn k c h differs s = walk_turn doc Another (λ k h. P h) foreign_turn (no_release_turn doc (λ k h. P h) stop) k c h (λ i role up acting. another i (c == q.process) refl) s
    where
      another : (i : ℕ) (b : Bool) → (c == q.process) ≡ b → is_by q (actor_of (identity c i)) ≡ false
      another i true is = absurd (differs (eqb-true c q.process is))
      another i false is = ap (λ b. b && (i == q.incarnation)) is

  turns_before : (k n : ℕ) (h : List Entry) → n ≤ q.process → P h → P (turns doc k n h)
  turns_before k zero h le s = s
  turns_before k (suc c) h le s = other_turn k c (turns doc k c h) (λ is. absurd (omega (arith, is, le))) (turns_before k c h (omega (arith, le)) s)

  turns_after : (k n : ℕ) (h : List Entry) → P (turns doc k (suc q.process) h) → P (turns doc k (suc q.process + n) h)
  turns_after k zero h s = let e : suc q.process ≡ suc q.process + 0 = omega arith in subst (λ n. P (turns doc k n h)) e s
  turns_after k (suc n) h s =
      let e : suc (suc q.process + n) ≡ suc q.process + suc n = omega arith in
      subst (λ n. P (turns doc k n h)) e (other_turn k (suc q.process + n) (turns doc k (suc q.process + n) h) (λ is. absurd (omega (arith, is))) (turns_after k n h s))

  -- the three steps before the turns
  steps_keep : (k : ℕ) → P (history doc k) → Keeps doc (λ m step h. m ≡ k → step ≤ 3 → P h)
  steps_keep k given = record {
    on = λ m step h s is le. s is (omega (arith, le));
    next = λ m s is le. subst (λ m. P (history doc m)) (sym is) given;
    event = λ m w h scripted s is le. foreign _ h refl (s is le);
    starts = λ m step p h s is le. foreign _ h refl (s is le);
    crashes = λ m p i h up s is le. foreign _ h refl (s is le);
    stalls = λ m id beats i h scripted up s is le. foreign _ h refl (s is le);
    stops = λ m id i h scripted up free s is le. foreign _ h refl (s is le);
    releases = λ m id i before request scripted up awake asked stop was s is le. foreign _ _ refl (s is le);
    answers = λ m x h arriving s is le. foreign _ h refl (s is le);
    ignores = λ m b h coming none s is le. foreign _ h refl (s is le);
    counts = λ m b waiting h coming some of s is le. foreign _ h refl (s is le);
    follows = λ m b waiting h request coming some role of follows was s is le. foreign _ _ refl (s is le);
    leads = λ m b waiting h version coming some role of follows was s is le. foreign _ _ refl (s is le);
    asks = λ m b waiting h request coming some role asked was s is le. foreign _ _ refl (s is le);
    turns = all_turns doc (Ticking doc) (λ m h. m ≡ k → 4 ≤ 3 → P h) (λ m x h beat step next s is le. absurd (omega (arith, le)));
  }

  three_keep : (k : ℕ) → P (history doc k) → P (three_steps doc k (history doc k))
  three_keep k given =
      let keeps = steps_keep k given in
      let Q = λ (m step : ℕ) (h : List Entry). m ≡ k → step ≤ 3 → P h in
      let release = no_release doc Q stop in
      let h1 = step_one doc k (history doc k) in
      let h2 = step_two doc k h1 in
      let s1 : k ≡ k → 1 ≤ 3 → P h1 = walk_one doc Q keeps release k (history doc k) (λ is le. given) in
      let s2 : k ≡ k → 2 ≤ 3 → P h2 = walk_two doc Q keeps release k h1 (λ is le. s1 is (omega arith)) in
      walk_three doc Q keeps release k h2 (λ is le. s2 is (omega arith)) refl (omega arith)

  -- from its turn in one beat to its turn in the next one
  pub next_turn : (k : ℕ) → q.process < processes doc → P (after_turn doc q.process k) → P (at_turn doc q.process (suc k))
  next_turn k lt s =
      let e : suc q.process + (processes doc - suc q.process) ≡ processes doc = omega (arith, lt) in
      let h = three_steps doc k (history doc k) in
      let whole : P (history doc (suc k)) = subst (λ n. P (turns doc k n h)) e (turns_after k (processes doc - suc q.process) h s) in
      turns_before (suc k) q.process (three_steps doc (suc k) (history doc (suc k))) (omega arith) (three_keep (suc k) whole)

pub below_processes : (doc : Doc) (q : Identity) (k : ℕ) → IsAttended doc q k → q.process < processes doc
below_processes doc q k attended = let e : processes doc ≡ length doc.controllers + length doc.kubelets = length-append doc.controllers doc.kubelets in omega (arith, ltb-true q.process (length doc.controllers) attended.0.0, e)
