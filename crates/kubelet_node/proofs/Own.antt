-- What an identity's own entries say.
use Rattle.std.proofs.Common.{◌≡◌, ◌∙◌, ℕ, ◌+◌, ◌==◌, ◌&&◌, ◌||◌, not, Bool, true, false, cond, List, [], ◌∷◌, Option, None, refl, ap, arith}
use Rattle.kube_objects.specs.declared.call.Reply.{Reply}
use Rattle.kube_objects.specs.declared.call.Request.{Request}
use Rattle.kube_objects.specs.declared.deed.Actor.{Actor}
use Rattle.kube_objects.specs.Clocks.{local}
use Rattle.kube_objects.specs.Document.{Doc}
use Rattle.kube_objects.specs.Entry.{Call, Fact, Delivers, Entry, Expires, Identity, Plain, Sends, Starts, entry}
use Rattle.kube_objects.specs.Identities.{is_by}
use Rattle.kube_objects.specs.Kubelet.{ends_round, has_round, is_post, is_post_call, round_period, round_says, round_timer, round_timer_says}
use Rattle.kube_objects.specs.Newest.{added, newest, or_else, or_zero, when}
use Rattle.kube_objects.specs.Process.{begun, is_send}
use Rattle.kube_objects.specs.Turns.{expired_in, just_expired, with_reply}
use Rattle.kube_objects.specs.Wire.{next_call}
use Rattle.kube_objects.proofs.OwnCalls.{just_expired-own, mine, said, same_beat}
use Rattle.kubelet_node.specs.Stands.{IsSettled}

abbrev pub last_round : Identity → List Entry → Option Bool
last_round q h = newest (λ e T. round_says q e.actor e.fact) h

abbrev pub last_timer : Doc → Identity → List Entry → Option ℕ
last_timer doc q h = newest (λ e T. round_timer_says doc q e.beat e.actor e.fact) h

-- an identity that has sent nothing runs no round
pub round-unbegun : (q : Identity) (h : List Entry) → begun q h ≡ 0 → has_round q h ≡ false
round-unbegun q [] none = refl
round-unbegun q (e ∷ h) none = by_fact e.fact e.actor none (λ n. round-unbegun q h n)
  where
    Rest : Type 0
    Rest = begun q h ≡ 0 → or_else false (last_round q h) ≡ false

    sent : (post own : Bool) → added own (begun q h) ≡ 0 → Rest → or_else false (said (when (post && own) true) (last_round q h)) ≡ false
    sent post true n rest = absurd (omega (arith, n))
    sent true false n rest = rest n
    sent false false n rest = rest n

    ended : (b : Bool) → begun q h ≡ 0 → Rest → or_else false (said (when b false) (last_round q h)) ≡ false
    ended true n rest = refl
    ended false n rest = rest n

    by_fact : (d : Fact) (who : Actor) → added (is_send d && is_by q who) (begun q h) ≡ 0 → Rest → or_else false (said (round_says q who d) (last_round q h)) ≡ false
    by_fact (Sends call arrives) who n rest = sent (is_post call.request) (is_by q who) n rest
    by_fact (Delivers call reply counted) who n rest = ended (ends_round call.request reply && (counted && is_by q who)) n rest
    by_fact (Expires call) who n rest = ended (not (is_post call.request) && is_by q who) n rest
    by_fact _ who n rest = rest n

-- ---- a call is sent

module _ (q : Identity) (h : List Entry) (k step : ℕ) (request : Request) (arrives : Option ℕ) where
  begins : (post : Bool) (before : Option Bool) → or_else false (said (when (post && true) true) before) ≡ (post || or_else false before)
  begins true before = refl
  begins false before = refl

  pub round-sent : has_round q (entry k step q (Sends (next_call q k Plain request h) arrives) ∷ h) ≡ (is_post request || has_round q h)
  round-sent = ap (λ b. or_else false (said (when (is_post request && b) true) (last_round q h))) (mine q) ∙ begins (is_post request) (last_round q h)

  moves : (post : Bool) (at : ℕ) (before : Option ℕ) → or_zero (said (when (post && true) at) before) ≡ cond post at (or_zero before)
  moves true at before = refl
  moves false at before = refl

  pub timer-sent : (doc : Doc) → round_timer doc q (entry k step q (Sends (next_call q k Plain request h) arrives) ∷ h)
      ≡ cond (is_post request) (local doc q.process k + round_period doc) (round_timer doc q h)
  timer-sent doc =
      ap (λ b. or_zero (said (when (is_post request && b) (local doc q.process k + round_period doc)) (last_timer doc q h))) (mine q)
      ∙ moves (is_post request) (local doc q.process k + round_period doc) (last_timer doc q h)

pub timer-started : (doc : Doc) (q : Identity) (h : List Entry) (k step : ℕ) → round_timer doc q (entry k step q Starts ∷ h) ≡ local doc q.process k
timer-started doc q h k step = ap (λ b. or_zero (said (when b (local doc q.process k)) (last_timer doc q h))) (mine q)

-- ---- a call expires

goes_on : (post : Bool) (before : Option Bool) → or_else false (said (when (not post && true) false) before) ≡ (post && or_else false before)
goes_on true before = refl
goes_on false before = refl

pub round-expired : (q : Identity) (h : List Entry) (k step : ℕ) (call : Call) → has_round q (entry k step q (Expires call) ∷ h) ≡ (is_post call.request && has_round q h)
round-expired q h k step call = ap (λ b. or_else false (said (when (not (is_post call.request) && b) false) (last_round q h))) (mine q) ∙ goes_on (is_post call.request) (last_round q h)

-- an own entry that is no expiry
pub settled-own : (q : Identity) (h : List Entry) (k step : ℕ) (fact : Fact) → ((n : ℕ) → expired_in n k fact ≡ None) → IsSettled q (entry k step q fact ∷ h)
settled-own q h k step fact none n = ap is_post_call (just_expired-own q h k step n fact ∙ none n)

pub post_expired : (q : Identity) (h : List Entry) (k step : ℕ) (call : Call) → is_post_call (just_expired q k (entry k step q (Expires call) ∷ h)) ≡ is_post call.request
post_expired q h k step call = ap is_post_call (just_expired-own q h k step k (Expires call)) ∙ ap (λ b. is_post_call (when b call)) (same_beat k)

no_post_when : (call : Call) (b : Bool) → is_post call.request ≡ false → is_post_call (when b call) ≡ false
no_post_when call true is = is
no_post_when call false is = refl

pub settled-no_post : (q : Identity) (h : List Entry) (k step : ℕ) (call : Call) → is_post call.request ≡ false → IsSettled q (entry k step q (Expires call) ∷ h)
settled-no_post q h k step call is n = ap is_post_call (just_expired-own q h k step n (Expires call)) ∙ no_post_when call (k == n) is

-- ---- a reply is delivered

ends : (over : Bool) (before : Option Bool) → or_else false (said (when (over && (true && true)) false) before) ≡ (not over && or_else false before)
ends true before = refl
ends false before = refl

pub round-with_reply : (q : Identity) (h : List Entry) (k : ℕ) (call : Call) (answered : Reply) → has_round q (with_reply k q call answered h) ≡ (not (ends_round call.request answered) && has_round q h)
round-with_reply q h k call answered =
    ap (λ b. or_else false (said (when (ends_round call.request answered && (true && b)) false) (last_round q h))) (mine q)
    ∙ ends (ends_round call.request answered) (last_round q h)
