-- What a candidate's turn comes to: its call waits, it asks, or its timer is ahead.
use Rattle.std.proofs.Common.{◌≡◌, ◌⊎◌, ℕ, ◌&&◌, not, nat_lt, Bool, true, false, List, ◌∷◌, Option, Some, None, refl, sym, ap, ◌∙◌, subst, inl, inr}
use Rattle.std.specs.Prelude.{if◌then◌else◌}
use Rattle.kube_objects.specs.declared.call.Request.{Request}
use Rattle.kube_objects.specs.declared.call.Request.TheVariants.{Get}
use Rattle.kube_objects.specs.Clocks.{local}
use Rattle.kube_objects.specs.Document.{Doc, is_controller}
use Rattle.kube_objects.specs.Elector.{timer, deadline, attempt}
use Rattle.kube_objects.specs.Entry.{Entry, Identity, Call, CallKind, Plain, Expires, entry}
use Rattle.kube_objects.specs.Newest.{when, join, has}
use Rattle.kube_objects.specs.Pauses.{is_paused}
use Rattle.kube_objects.specs.Process.{alive, last_call, call_in, is_late}
use Rattle.kube_objects.specs.Stored.{election}
use Rattle.kube_objects.specs.Turns.{expire_as, expire_call, expired, end_term, just_expired, is_fast_call, attempt_if, try}
use Rattle.kube_objects.specs.Wire.{send}
use Rattle.kube_objects.specs.Own.{ReleasesByStop}
use Rattle.kube_objects.proofs.Own.{release_begun-own}
use Rattle.history.specs.Steps.{if_up, restart, expire, finish, attempts, ticks, controller_turn, kubelet_turn, unpaused_turn, turn}
use Rattle.history_laws.specs.Tails.{IsTail}
use Rattle.history_laws.proofs.Plainly.{upper, same_self}
use Rattle.history_laws.proofs.Tailed.{tail_all, tail_trans}
use Rattle.takeover_laws.proofs.Unasked.{ticks_add}

-- a call of its own waits, and isn't late
pub record IsWaiting (doc : Doc) (k : ℕ) (q : Identity) (h all : List Entry) : Type 0 where
  pub position : IsTail h all
  pub call : Call
  pub waits : call_in q h ≡ Some call
  pub timely : is_late doc q k call ≡ false

-- it sends a request at the end of a position above
pub record IsAsking (doc : Doc) (k : ℕ) (q : Identity) (h all : List Entry) : Type 0 where
  pub above : List Entry
  pub low : IsTail h above
  pub kind : CallKind
  pub request : Request
  pub position : IsTail (send doc k 4 q kind request above) all

-- its timer is ahead
pub record IsSleeping (doc : Doc) (k : ℕ) (q : Identity) (h all : List Entry) : Type 0 where
  pub above : List Entry
  pub low : IsTail h above
  pub position : IsTail above all
  pub idle : has (call_in q above) ≡ false
  pub ahead : nat_lt (local doc q.process k) (timer doc q above) ≡ true

abbrev pub Turned : Doc → ℕ → Identity → List Entry → List Entry → Type 0
Turned doc k q h all = IsWaiting doc k q h all ⊎ (IsAsking doc k q h all ⊎ IsSleeping doc k q h all)

module _ (doc : Doc) (rules : ReleasesByStop doc) (k : ℕ) (q : Identity) (g : List Entry) (role : is_controller doc q.process ≡ true) (awake : is_paused doc q.process k ≡ false)
    (up : alive q.process (restart doc k q.process g) ≡ Some q.incarnation) (unset : deadline doc q (restart doc k q.process g) ≡ None) where
  abbrev pub h : List Entry
  h = restart doc k q.process g

  abbrev grown : Call → Bool → List Entry
  grown c b = if b then entry k 4 q (Expires c) ∷ h else h

  -- an expiry leaves it up, without a deadline
  abbrev Left : List Entry → Type 0
  Left T = IsTail h T × (alive q.process T ≡ Some q.incarnation) × (deadline doc q T ≡ None)

  left_by : (c : Call) (b : Bool) → Left (grown c b)
  left_by c true = (inr (tail_all h), up, unset)
  left_by c false = (tail_all h, up, unset)

  left : (o : Option Call) → Left (expire_call doc k q o h)
  left None = (tail_all h, up, unset)
  left (Some c) =
      subst (λ o. Left (if is_late doc q k c then expire_as doc k q c o h else h)) (sym (release_begun-own doc rules c.kind)) (left_by c (is_late doc q k c))

  abbrev pub e : List Entry
  e = expired doc k q h

  e_left : Left e
  e_left = left (call_in q h)

  abbrev pub tries : List Entry
  tries = attempt_if doc k q (is_fast_call (just_expired q k e)) (not (has (call_in q e)) && not (nat_lt (local doc q.process k) (timer doc q e))) e

  tries_is : attempts doc k q.process (finish doc k q.process (expire doc k q.process h)) ≡ tries
  tries_is =
      ap (λ T. attempts doc k q.process (finish doc k q.process T)) (ap (λ o. if_up q.process (λ q T. expired doc k q T) o h) up)
      ∙ ap (attempts doc k q.process) (ap (λ o. if_up q.process (λ q T. end_term doc k q (deadline doc q T) T) o e) e_left.1 ∙ ap (λ o. end_term doc k q o e) e_left.2)
      ∙ ap (λ o. if_up q.process (try doc k) o e) e_left.1

  pub upto : IsTail tries (turn doc k q.process g)
  upto =
      subst (λ b. IsTail tries (if b then g else unpaused_turn doc k q.process g)) (sym awake)
      (subst (λ b. IsTail tries (if b then controller_turn doc k q.process g else kubelet_turn doc k q.process g)) (sym role)
      (subst (λ T. IsTail tries (ticks doc k q.process T)) (sym tries_is) (ticks_add doc k q.process tries)))

  -- a call that waits after the expiry waited before, and isn't late
  waiting : (o : Option Call) → call_in q h ≡ o → has (call_in q (expire_call doc k q o h)) ≡ true → IsTail h (turn doc k q.process g) → IsWaiting doc k q h (turn doc k q.process g)
  waiting None is some at = absurd (no (sym some ∙ ap has is))
    where
      no : true ≡ false → ⊥
      no h = cc
  waiting (Some c) is some at =
      by_test (is_late doc q k c) refl (subst (λ o. has (call_in q (if is_late doc q k c then expire_as doc k q c o h else h)) ≡ true) (release_begun-own doc rules c.kind) some)
    where
      by_test : (b : Bool) → is_late doc q k c ≡ b → has (call_in q (grown c b)) ≡ true → IsWaiting doc k q h (turn doc k q.process g)
      by_test false late some = record { position = at; call = c; waits = is; timely = late }
      by_test true late some = absurd (no (sym some ∙ ap (λ b. has (join (upper (when b None) (last_call q h)))) (same_self q)))
        where
          no : true ≡ false → ⊥
          no h = cc

  pub turned : Turned doc k q h (turn doc k q.process g)
  turned =
      by_tests (is_fast_call (just_expired q k e)) (has (call_in q e)) (nat_lt (local doc q.process k) (timer doc q e)) refl refl upto
    where
      asking : (kind : CallKind) (request : Request) → IsTail (send doc k 4 q kind request e) (turn doc k q.process g) → Turned doc k q h (turn doc k q.process g)
      asking kind request at = inr (inl (record { above = e; low = e_left.0; kind = kind; request = request; position = at }))

      by_tests : (fast call ahead : Bool) → has (call_in q e) ≡ call → nat_lt (local doc q.process k) (timer doc q e) ≡ ahead
          → IsTail (attempt_if doc k q fast (not call && not ahead) e) (turn doc k q.process g) → Turned doc k q h (turn doc k q.process g)
      by_tests true call ahead call_is ahead_is at = asking Plain (Get election) at
      by_tests false true ahead call_is ahead_is at = inl (waiting (call_in q h) refl call_is (tail_trans h e (turn doc k q.process g) e_left.0 at))
      by_tests false false true call_is ahead_is at = inr (inr (record { above = e; low = e_left.0; position = at; idle = call_is; ahead = ahead_is }))
      by_tests false false false call_is ahead_is at = asking (attempt doc q k e).0 (attempt doc q k e).1 at
