-- A process's turn adds entries of its own alone, and a start only where it is down.
use Rattle.kube_objects.specs.Own.{ReleasesByStop}
use Rattle.kube_objects.proofs.Own.{expire_as-own, end_term-own}
use Rattle.history.proofs.Ticks.{ticks_keep}
use Rattle.history_laws.proofs.Plainly.{not_true, and_right, true_is}
use Rattle.std.proofs.Common.{◌≡◌, ℕ, ◌&&◌, not, nat_lt, Bool, true, false, List, ◌∷◌, Option, Some, None, refl, sym, subst, ◌⊎◌, inl, inr, ◌∙◌}
use Rattle.std.specs.Prelude.{if◌then◌else◌}
use Rattle.kube_objects.specs.Clocks.{local}
use Rattle.kube_objects.specs.Document.{Doc, is_controller}
use Rattle.kube_objects.specs.Elector.{deadline, attempt, timer, acts}
use Rattle.kube_objects.specs.Entry.{Entry, Identity, Call, Expires, Ends, Sends, Ticks, actor_of, entry, Fact}
use Rattle.kube_objects.specs.Identities.{identity}
use Rattle.kube_objects.specs.Kubelet.{is_post_call, round_if, is_round_due, round}
use Rattle.kube_objects.specs.Newest.{has}
use Rattle.kube_objects.specs.Pauses.{is_paused}
use Rattle.kube_objects.specs.Process.{alive, is_start, call_in, is_late, ended, is_restart_due, release_begun}
use Rattle.kube_objects.specs.Tick.{tick}
use Rattle.kube_objects.specs.Turns.{expire_call, expire_as, expired, end_term, end_as, just_expired, is_fast_call, attempt_if, try}
use Rattle.history.specs.Steps.{start, if_up, restart_if, restart, expire, finish, attempts, controller_turn, kubelet_turn, unpaused_turn, turn}
use Rattle.history_laws.proofs.Ticks.{walk_tick}

-- a request in a controller's turn is sent after the expiry of an update without a Get, or as an attempt that is due
abbrev pub IsDue : Doc → ℕ → Identity → Call → List Entry → Type 0
IsDue doc k q call h = (is_fast_call (just_expired q k h) ≡ true) ⊎ ((nat_lt (local doc q.process k) (timer doc q h) ≡ false) × (call.request ≡ (attempt doc q k h).1))

abbrev pub IsTurnSend : Doc → ℕ → Identity → Fact → List Entry → Type 0
IsTurnSend doc k q (Sends call arrives) h = is_controller doc q.process ≡ true → IsDue doc k q call h
IsTurnSend doc k q _ h = Unit {0}

module _ (doc : Doc) (own : ReleasesByStop doc) (k p : ℕ) (P : List Entry → Type 0) (starts : (h : List Entry) → alive p h ≡ None → P h → P (start k 4 p h))
    (more : (i : ℕ) (x : Entry) (h : List Entry) → x.beat ≡ k → x.actor ≡ actor_of (identity p i) → is_start x.fact ≡ false → IsTurnSend doc k (identity p i) x.fact h → P h → P (x ∷ h)) where
  own_up : (f : Identity → List Entry → List Entry) → ((i : ℕ) (h : List Entry) → P h → P (f (identity p i) h)) → (up : Option ℕ) (h : List Entry) → P h → P (if_up p f up h)
  own_up f one None h s = s
  own_up f one (Some i) h s = one i h s

  own_restart : (up : Option ℕ) (h : List Entry) → alive p h ≡ up → P h → P (restart_if doc k p up h)
  own_restart (Some i) h is s = s
  own_restart None h is s = by_test (is_restart_due doc p k (ended doc p h))
    where
      by_test : (b : Bool) → P (if b then start k 4 p h else h)
      by_test true = starts h is s
      by_test false = s

  own_expiry : (i : ℕ) (o : Option Call) (h : List Entry) → P h → P (expire_call doc k (identity p i) o h)
  own_expiry i None h s = s
  own_expiry i (Some c) h s = by_test (is_late doc (identity p i) k c)
    where
      by_test : (b : Bool) → P (if b then expire_as doc k (identity p i) c (release_begun doc.settings.rules.release c.kind) h else h)
      by_test true = subst P (sym (expire_as-own doc own k (identity p i) c h)) (more i (entry k 4 (identity p i) (Expires c)) h refl refl refl tt s)
      by_test false = s

  own_end : (i : ℕ) (o : Option ℕ) (h : List Entry) → P h → P (end_term doc k (identity p i) o h)
  own_end i None h s = s
  own_end i (Some at) h s = by_test (nat_lt (local doc p k) at)
    where
      by_test : (b : Bool) → P (if b then h else end_as doc.settings.rules.release doc k (identity p i) h)
      by_test true = s
      by_test false = subst P (sym (end_term-own doc own k (identity p i) h)) (more i (entry k 4 (identity p i) Ends) h refl refl refl tt s)

  own_attempt : (i : ℕ) (fast due : Bool) (h : List Entry) → is_fast_call (just_expired (identity p i) k h) ≡ fast → (not (has (call_in (identity p i) h)) && not (nat_lt (local doc p k) (timer doc (identity p i) h))) ≡ due
      → P h → P (attempt_if doc k (identity p i) fast due h)
  own_attempt i true due h fast test s = more i _ h refl refl refl (λ role. inl fast) s
  own_attempt i false true h fast test s =
      more i _ h refl refl refl (λ role. inr (not_true (nat_lt (local doc p k) (timer doc (identity p i) h)) (and_right (not (has (call_in (identity p i) h))) (not (nat_lt (local doc p k) (timer doc (identity p i) h))) test), refl)) s
  own_attempt i false false h fast test s = s

  own_round : is_controller doc p ≡ false → (i : ℕ) (late due : Bool) (h : List Entry) → P h → P (round_if doc k (identity p i) late due h)
  own_round role i true due h s = more i _ h refl refl refl (λ other. absurd (true_is (sym other ∙ role))) s
  own_round role i false true h s = more i _ h refl refl refl (λ other. absurd (true_is (sym other ∙ role))) s
  own_round role i false false h s = s

  own_tick : (i : ℕ) (b : Bool) (h : List Entry) → P h → P (if b then tick doc k (identity p i) h else h)
  own_tick i false h s = s
  own_tick i true h s = walk_tick doc k (identity p i) P (λ t g made s. more i (entry k 4 (identity p i) (Ticks t)) g refl refl refl tt s) h s

  pub own_expire : (h : List Entry) → P h → P (expire doc k p h)
  own_expire h s = own_up (λ q T. expired doc k q T) (λ i T s. own_expiry i (call_in (identity p i) T) T s) (alive p h) h s

  own_controller : (h : List Entry) → P h → P (controller_turn doc k p h)
  own_controller h s =
      let h1 = restart doc k p h in
      let h2 = expire doc k p h1 in
      let s2 : P h2 = own_expire h1 (own_restart (alive p h) h refl s) in
      let h3 = finish doc k p h2 in
      let s3 : P h3 = own_up (λ q T. end_term doc k q (deadline doc q T) T) (λ i T s. own_end i (deadline doc (identity p i) T) T s) (alive p h2) h2 s2 in
      let h4 = attempts doc k p h3 in
      let s4 : P h4 = own_up (try doc k) (λ i T s. own_attempt i (is_fast_call (just_expired (identity p i) k T)) (not (has (call_in (identity p i) T)) && not (nat_lt (local doc p k) (timer doc (identity p i) T))) T refl refl s) (alive p h3) h3 s3 in
      ticks_keep doc k p h4 P s4 (own_up (λ q T. if acts doc q k T then tick doc k q T else T) (λ i T s. own_tick i (acts doc (identity p i) k T) T s) (alive p h4) h4 s4)

  own_kubelet : is_controller doc p ≡ false → (h : List Entry) → P h → P (kubelet_turn doc k p h)
  own_kubelet role h s =
      let h1 = expire doc k p h in
      own_up (round doc k) (λ i T s. own_round role i (is_post_call (just_expired (identity p i) k T)) (is_round_due doc k (identity p i) T) T s) (alive p h1) h1 (own_expire h s)

  pub walk_own_turn : (h : List Entry) → P h → P (turn doc k p h)
  walk_own_turn h s = by_pause (is_paused doc p k)
    where
      by_role : (b : Bool) → is_controller doc p ≡ b → P (if b then controller_turn doc k p h else kubelet_turn doc k p h)
      by_role true role = own_controller h s
      by_role false role = own_kubelet role h s

      by_pause : (b : Bool) → P (if b then h else unpaused_turn doc k p h)
      by_pause true = s
      by_pause false = by_role (is_controller doc p) refl
