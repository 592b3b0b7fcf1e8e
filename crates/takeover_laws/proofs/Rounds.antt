-- A call of a controller whose messages pass is answered and its reply comes, each in time.
use Rattle.std.proofs.Common.{◌≡◌, ◌<◌, ◌≤◌, ℕ, suc, ◌+◌, Bool, false, List, ◌∷◌, Option, Some, None, IfSome, refl, sym, ap, ◌∙◌, subst, arith}
use Rattle.kube_objects.specs.declared.script.What.{What}
use Rattle.kube_objects.specs.Answers.{answer, written}
use Rattle.kube_objects.specs.Document.{Doc}
use Rattle.kube_objects.specs.Entry.{Entry, Identity, Call, Sends, Answers, actor_of, entry}
use Rattle.kube_objects.specs.Identities.{identity_of}
use Rattle.kube_objects.specs.Newest.{has, or_else}
use Rattle.kube_objects.specs.Pauses.{pause_end, is_paused, resume, held_up}
use Rattle.kube_objects.specs.Wire.{Sent, Back, sent_as, sent_of, in_force, request_delay_of, reply_delay_of, request_loss_of, reply_loss_of, request_delay, reply_delay, arrival, request_arrival, reply_arrival}
use Rattle.kube_objects.specs.Own.{ReleasesByStop}
use Rattle.kube_objects.specs.Stalls.{is_stalled, awake, at_store}
use Rattle.kube_objects.proofs.Stalls.{awake_later, awake_now}
use Rattle.history.specs.History.{history}
use Rattle.history_laws.specs.Tails.{In, IsTail}
use Rattle.history_laws.proofs.Plainly.{true_is, some_is}
use Rattle.history_laws.proofs.Tailed.{tail_all, tail_trans, in_tail, later_tail, two_adds}
use Rattle.call_laws.specs.Answering.{with_events, with_answers, IsAnswered}
use Rattle.call_laws.proofs.Above.{in_head}
use Rattle.call_laws.proofs.Answering.{before_events, requests_are_answered, replies_are_delivered}
use Rattle.call_laws.proofs.Placing.{in_own_beat, forces_stand, messages_travel}
use Rattle.takeover_laws.specs.Calm.{Passes, IsSteady}
use Rattle.takeover_laws.specs.Rounds.{IsRound, RoundsAreShort}

-- ---- when messages arrive that pass

-- what is in force at a position is what a beat's events left in force
abbrev pub Forces : Doc → ℕ → List Entry → Type 0
Forces doc k h = ((f : What → Option ℕ) → in_force f h ≡ in_force f (with_events doc k)) × ((f : What → Option Bool) → in_force f h ≡ in_force f (with_events doc k))

-- a request arrives from one way after its sending on when the store goes
pub request_awakes : (doc : Doc) → ReleasesByStop doc → (near far p k : ℕ) (h : List Entry) → Passes doc near far p k → Forces doc k h
    → request_arrival doc p k h ≡ Some (awake doc (k + request_delay p (with_events doc k)))
request_awakes doc rules near far p k h passes force =
    ap (at_store doc)
    (ap (λ b. arrival b k (request_delay p h)) (ap (or_else false) (force.1 (request_loss_of p)) ∙ passes.requests)
    ∙ ap (λ n. Some (k + n)) (ap (or_else 1) (force.0 (request_delay_of p))))

pub request_passes : (doc : Doc) → ReleasesByStop doc → (near far p k : ℕ) (h : List Entry) → Passes doc near far p k → Forces doc k h → is_stalled doc (k + request_delay p (with_events doc k)) ≡ false
    → request_arrival doc p k h ≡ Some (k + request_delay p (with_events doc k))
request_passes doc rules near far p k h passes force goes =
    request_awakes doc rules near far p k h passes force ∙ ap Some (awake_now doc (k + request_delay p (with_events doc k)) goes)

-- where it arrives at a beat up to which the store goes, it comes one way after its sending
pub request_comes : (doc : Doc) → ReleasesByStop doc → (near far p k : ℕ) (h : List Entry) → Passes doc near far p k → Forces doc k h → (y : ℕ) → ((j : ℕ) → k ≤ j → j ≤ y → is_stalled doc j ≡ false)
    → request_arrival doc p k h ≡ Some y → y ≡ k + request_delay p (with_events doc k)
request_comes doc rules near far p k h passes force y goes is = omega (arith, woken, now)
  where
    there : ℕ
    there = k + request_delay p (with_events doc k)

    woken : y ≡ awake doc there
    woken = some_is y (awake doc there) (sym is ∙ request_awakes doc rules near far p k h passes force)

    now : awake doc there ≡ there
    now = awake_now doc there (goes there (omega arith) (omega (arith, woken, awake_later doc there)))

resumes : (doc : Doc) (p k : ℕ) → is_paused doc p k ≡ false → resume doc p k ≡ k
resumes doc p k awake = by_end (pause_end doc p k) awake
  where
    by_end : (o : Option ℕ) → has o ≡ false → or_else k o ≡ k
    by_end None awake = refl
    by_end (Some j) awake = absurd (true_is awake)

pub reply_passes : (doc : Doc) (near far p k : ℕ) (h : List Entry) → Passes doc near far p k → Forces doc k h → is_paused doc p (k + reply_delay p (with_events doc k)) ≡ false
    → reply_arrival doc p k h ≡ Some (k + reply_delay p (with_events doc k))
reply_passes doc near far p k h passes force awake =
    ap (λ b. held_up doc p (arrival b k (reply_delay p h))) (ap (or_else false) (force.1 (reply_loss_of p)) ∙ passes.replies)
    ∙ ap (λ n. Some (resume doc p (k + n))) (ap (or_else 1) (force.0 (reply_delay_of p)))
    ∙ ap Some (resumes doc p (k + reply_delay p (with_events doc k)) awake)

pub sent_is : (x : Entry) (q : Identity) (call : Call) (arrives : Option ℕ) → x.actor ≡ actor_of q → x.fact ≡ Sends call arrives → sent_of x.actor x.fact ≡ Some (record { who = q; call = call; arrives = arrives })
sent_is x q call arrives actor fact = ap (λ d. sent_of x.actor d) fact ∙ ap (λ who. sent_as call arrives (identity_of who)) actor

-- an entry of an earlier beat is there as a beat's events are
pub in_events : (doc : Doc) (j k : ℕ) (x : Entry) (T : List Entry) → j < k → IsTail (x ∷ T) (history doc (suc j)) → In x (with_events doc k)
in_events doc j k x T lt at =
    in_head x T (with_events doc k) (tail_trans (x ∷ T) (history doc k) (with_events doc k) (tail_trans (x ∷ T) (history doc (suc j)) (history doc k) at (later_tail doc (suc j) k (omega (arith, lt)))) (before_events doc k))

pub in_answers : (doc : Doc) (j k : ℕ) (x : Entry) (T : List Entry) → j < k → IsTail (x ∷ T) (history doc (suc j)) → In x (with_answers doc k)
in_answers doc j k x T lt at = let one = with_events doc k in in_tail x one (with_answers doc k) (two_adds doc k one one (tail_all one)) (in_events doc j k x T lt at)

-- ---- a call's way

-- where its reply comes in time
pub rounds_in : (doc : Doc) → ReleasesByStop doc → (near far a e : ℕ) (q : Identity) → IsSteady doc near far a e q.process → 1 ≤ near
    → (m : ℕ) (x : Entry) (T : List Entry) (call : Call) (arrives : Option ℕ) → IsTail (x ∷ T) (history doc m) → x.actor ≡ actor_of q → x.fact ≡ Sends call arrives → 2 ≤ x.step → a ≤ x.beat → x.beat ≤ e
    → ((k n : ℕ) → k ≤ n → arrives ≡ Some n → k ≤ x.beat + far → k + far ≤ e) → IsRound doc near far q call arrives x.beat
rounds_in doc rules near far a e q steady one m x T call arrives stands actor fact step from to back_in = record {
  at = k;
  arrives_is = arriving;
  before = answering.before;
  after = answering.after;
  position = answering.position;
  comes = y;
  comes_is = coming;
  least = omega (arith, sending.request_least);
  most = omega (arith, sending.request_most);
  comes_least = omega (arith, giving.reply_least);
  comes_most = omega (arith, giving.reply_most);
  deliveries = replies_are_delivered doc y there back (in_answers doc k y there answering.before (omega (arith, one, giving.reply_least)) answering.position) refl coming;
}
  where
    sending : Passes doc near far q.process x.beat
    sending = steady.passes x.beat from to

    k : ℕ
    k = x.beat + request_delay q.process (with_events doc x.beat)

    s : Sent
    s = record { who = q; call = call; arrives = Some k }

    awaking : arrives ≡ Some (awake doc k)
    awaking =
        (subst (λ o. IfSome o (λ s. (s.call.sent ≡ x.beat) × (s.arrives ≡ request_arrival doc s.who.process x.beat T))) (sent_is x q call arrives actor fact) (messages_travel doc rules m x T stands).0).1
        ∙ request_awakes doc rules near far q.process x.beat T sending (forces_stand doc rules m x T stands step)

    last : k + far ≤ e
    last = back_in k (awake doc k) (awake_later doc k) awaking (omega (arith, sending.request_most))

    giving : Passes doc near far q.process k
    giving = steady.passes k (omega (arith, from)) (omega (arith, last))

    arriving : arrives ≡ Some k
    arriving = awaking ∙ ap Some (awake_now doc k giving.goes)

    answering : IsAnswered doc k s
    answering =
        requests_are_answered doc k x s (in_events doc x.beat k x T (omega (arith, one, sending.request_least)) (in_own_beat doc m x T stands))
        (sent_is x q call arrives actor fact ∙ ap (λ o. Some (record { who = q; call = call; arrives = o })) arriving) refl

    there : Entry
    there = entry k 2 q (Answers call (answer call.request answering.before) (reply_arrival doc q.process k answering.before) (written call.request answering.before))

    y : ℕ
    y = k + reply_delay q.process (with_events doc k)

    coming : reply_arrival doc q.process k answering.before ≡ Some y
    coming =
        reply_passes doc near far q.process k answering.before giving (forces_stand doc rules (suc k) there answering.before answering.position (omega arith))
        (steady.passes y (omega (arith, from)) (omega (arith, giving.reply_most, last))).awake

    back : Back
    back = record { who = q; call = call; reply = answer call.request answering.before; comes = reply_arrival doc q.process k answering.before }

pub rounds_are_short : RoundsAreShort
rounds_are_short doc rules near far a e q steady one m x T call arrives stands actor fact step from to =
    rounds_in doc rules near far a e q steady one m x T call arrives stands actor fact step from (omega (arith, to)) (λ k n least is most. omega (arith, most, to))
