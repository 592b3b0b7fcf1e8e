-- What an identity's own entries say.
use Rattle.std.proofs.Common.{◌≡◌, ◌∙◌, ℕ, ◌==◌, ◌&&◌, not, Bool, true, false, List, ◌∷◌, Option, Some, None, refl, ap}
use Rattle.kube_objects.specs.declared.call.Ask.{Ask}
use Rattle.kube_objects.specs.CallSlots.{waits}
use Rattle.kube_objects.specs.Clocks.{local}
use Rattle.kube_objects.specs.Document.{Doc}
use Rattle.kube_objects.specs.Elector.{leads, retry_at, timer, timer_says, is_fast}
use Rattle.kube_objects.specs.Entry.{Entry, Identity, Call, Fact, Starts, Sends, Expires, entry}
use Rattle.kube_objects.specs.Newest.{newest, when, or_zero, or_else}
use Rattle.kube_objects.specs.Turns.{expired_in, just_expired, is_fast_call}
use Rattle.kube_objects.specs.Wire.{next_call}
use Rattle.kube_objects.proofs.OwnCalls.{just_expired-own, mine, said, same_beat}
use Rattle.leader_elector.specs.Moves.{Asked}
use Rattle.leader_elector.specs.Stands.{IsSettled, kind_of}

pub waits-kind : (fast : Bool) → waits (kind_of fast) ≡ true
waits-kind true = refl
waits-kind false = refl

pub or_zero-said : (now before : Option ℕ) → or_zero (said now before) ≡ or_else (or_zero before) now
or_zero-said None before = refl
or_zero-said (Some x) before = refl

-- ---- the timer

abbrev pub last_timer : Doc → Identity → List Entry → Option ℕ
last_timer doc q h = newest (λ e T. timer_says doc q e T e.fact) h

pub timer-started : (doc : Doc) (q : Identity) (h : List Entry) (k step : ℕ) → timer doc q (entry k step q Starts ∷ h) ≡ local doc q.process k
timer-started doc q h k step = ap (λ b. or_zero (said (when b (local doc q.process k)) (last_timer doc q h))) (mine q)

pub timer-expired : (doc : Doc) (q : Identity) (h : List Entry) (k step : ℕ) (call : Call) →
    timer doc q (entry k step q (Expires call) ∷ h) ≡ or_else (timer doc q h) (when (not (is_fast call.kind)) (retry_at (leads q h) doc q (entry k step q (Expires call)) h))
timer-expired doc q h k step call =
    let e = entry k step q (Expires call) in
    ap (λ b. or_zero (said (when (b && not (is_fast call.kind)) (retry_at (leads q h) doc q e h)) (last_timer doc q h))) (mine q)
    ∙ or_zero-said (when (not (is_fast call.kind)) (retry_at (leads q h) doc q e h)) (last_timer doc q h)

-- ---- expiry in this turn

-- an own entry that is no expiry
pub settled-own : (q : Identity) (h : List Entry) (k step : ℕ) (fact : Fact) → ((n : ℕ) → expired_in n k fact ≡ None) → IsSettled q (entry k step q fact ∷ h)
settled-own q h k step fact none n = ap is_fast_call (just_expired-own q h k step n fact ∙ none n)

-- what stands in an elector with what it asks, stands in the state that asks
pub asked-settled : {doc : Doc} {k step : ℕ} {q : Identity} {h next : List Entry} {A B : List Entry → Type 0} {ask : Ask} → Asked doc k step q h next A ask
    → ((call : Call) (arrives : Option ℕ) → A (entry k step q (Sends call arrives) ∷ h) → IsSettled q (entry k step q (Sends call arrives) ∷ h) → B (entry k step q (Sends call arrives) ∷ h))
    → Asked doc k step q h next B ask
asked-settled {k = k} {step = step} {q = q} {h = h} {ask = ask} a wider =
    let call = next_call q k a.kind ask.request h in
    record {
      kind = a.kind;
      sent = a.sent;
      number = a.number;
      stands = λ arrives. wider call arrives (a.stands arrives) (settled-own q h k step (Sends call arrives) (λ n. refl));
    }

pub fast_expired : (q : Identity) (h : List Entry) (k step : ℕ) (call : Call) → is_fast_call (just_expired q k (entry k step q (Expires call) ∷ h)) ≡ is_fast call.kind
fast_expired q h k step call = ap is_fast_call (just_expired-own q h k step k (Expires call)) ∙ ap (λ b. is_fast_call (when b call)) (same_beat k)

slow_when : (call : Call) (b : Bool) → is_fast call.kind ≡ false → is_fast_call (when b call) ≡ false
slow_when call true slow = slow
slow_when call false slow = refl

pub settled-slow : (q : Identity) (h : List Entry) (k step : ℕ) (call : Call) → is_fast call.kind ≡ false → IsSettled q (entry k step q (Expires call) ∷ h)
settled-slow q h k step call slow n = ap is_fast_call (just_expired-own q h k step n (Expires call)) ∙ slow_when call (k == n) slow
