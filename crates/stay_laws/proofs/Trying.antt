-- What a leader sends once its timer has come: its attempt.
use Rattle.std.proofs.Common.{◌≡◌, ◌⊎◌, ◌<◌, ◌≤◌, ℕ, suc, ◌+◌, true, List, ◌∷◌, Option, Some, None, refl, sym, ap, ◌∙◌, subst, inl, inr, arith}
use Rattle.std.proofs.lemmas.Bool.{eq-eqb}
use Rattle.kube_objects.specs.declared.call.Reply.{Reply}
use Rattle.kube_objects.specs.declared.call.Request.{Request}
use Rattle.kube_objects.specs.Clocks.{local}
use Rattle.kube_objects.specs.Document.{Doc, is_controller, renew_deadline}
use Rattle.kube_objects.specs.Elector.{Asks, Shown, follow_on, leads, attempt}
use Rattle.kube_objects.specs.Entry.{Entry, Identity, Call, Stops, Sends, Delivers, actor_of, entry}
use Rattle.kube_objects.specs.Newest.{when, has}
use Rattle.kube_objects.specs.Process.{open_as, alive, call_in}
use Rattle.kube_objects.specs.Turns.{is_fast_call}
use Rattle.kube_objects.specs.Wire.{send, next_call, request_arrival}
use Rattle.kube_objects.specs.Own.{ReleasesByStop}
use Rattle.kube_objects.proofs.Clocks.{local_up}
use Rattle.history.specs.History.{history, at_turn}
use Rattle.history.specs.Steps.{turn}
use Rattle.history_laws.specs.Tails.{In, IsTail}
use Rattle.history_laws.proofs.Plainly.{false_is}
use Rattle.history_laws.proofs.Tailed.{tail_all, tail_trans, in_tail, later_tail, turn_tail}
use Rattle.call_laws.proofs.Making.{HasStopped, IsOpen, Replied}
use Rattle.call_laws.proofs.Sending.{MadeFor, made_for}
use Rattle.call_laws.proofs.Starting.{sends_are_due}
use Rattle.call_laws.proofs.Turning.{IsDue, IsTurnSend}
use Rattle.takeover_laws.specs.Calm.{IsSteady}
use Rattle.takeover_laws.proofs.Standing.{controllers_first}
use Rattle.stay_laws.proofs.Leading.{IsInTerm, IsLeader, in_term, later, up_at, all_before, turn_below, turn_high}
use Rattle.stay_laws.proofs.Idle.{Idle, Tried, tried_more, idle_or_tried, leader_tries}

-- its attempt was sent after a position, and nothing of its own before
pub record HasTried (doc : Doc) (q : Identity) (low : List Entry) (at : ℕ) (view : Option Shown) (h : List Entry) : Type 0 where
  pub x : Entry
  pub before : List Entry
  pub position : IsTail (x ∷ before) h
  pub since : IsTail low before
  pub idle : Idle doc q low at view before
  pub call : Call
  pub arrives : Option ℕ
  pub fact : x.fact ≡ Sends call arrives
  pub actor : x.actor ≡ actor_of q
  pub step : 3 ≤ x.step
  pub opens : open_as call.kind call ≡ Some call
  pub request : call.request ≡ (attempt doc q x.beat before).1

-- what is asked for after a reply is none of a leader's
abbrev pub AsksNothing : Doc → Identity → List Entry → Type 0
AsksNothing doc q low = (k : ℕ) (w : Call) (reply : Reply) (T : List Entry) (r : Request) → low ≡ entry k 3 q (Delivers w reply true) ∷ T → follow_on doc q k w.kind w.request reply low ≡ Asks r → ⊥

module _ (doc : Doc) (rules : ReleasesByStop doc) (near far a e : ℕ) (q : Identity) (role : is_controller doc q.process ≡ true) (steady : IsSteady doc near far a e q.process) (at y : ℕ) (low : List Entry) (leader : IsLeader doc q at y low)
    (from : a < y) (view : Option Shown) (idle : Idle doc q low at view low) (nothing : AsksNothing doc q low)
    (g : ℕ) (le : y ≤ g) (to : g ≤ e) (reached : at ≤ local doc q.process g) (soon : local doc q.process g < at + renew_deadline doc q.process) where
  up : (h : List Entry) → IsTail low h → IsTail h (history doc (suc g)) → alive q.process h ≡ Some q.incarnation
  up h below high =
      up_at doc rules near far a e (suc g) q role steady at y low leader from (omega (arith, le)) (omega (arith, to)) (suc g) (λ k lt. omega (arith, soon, local_up doc q.process k g (omega (arith, lt)))) h below high (all_before doc g h high)

  led : (h : List Entry) → IsTail low h → IsTail h (history doc (suc g)) → leads q h ≡ true
  led h below high = (in_term doc rules near far a e (suc g) q role steady at y low leader from (omega (arith, le)) (omega (arith, to)) h below high).led

  abbrev my_turn : List Entry
  my_turn = at_turn doc q.process g

  below : IsTail low my_turn
  below = turn_below doc rules near far a e (suc g) q role steady at y low leader from (omega (arith, le)) (omega (arith, to)) g le

  high : IsTail my_turn (history doc (suc g))
  high = turn_high doc rules near far a e (suc g) q role steady at y low leader from (omega (arith, le)) (omega (arith, to)) g (omega arith)

  -- by the end of the beat
  tried : Tried doc q low at view (history doc (suc g))
  tried = by_turn (idle_or_tried doc q low at view rules (suc g) role led up my_turn idle below high)
    where
      by_turn : Idle doc q low at view my_turn ⊎ Tried doc q low at view my_turn → Tried doc q low at view (history doc (suc g))
      by_turn (inr s) = tried_more doc q low at view my_turn (history doc (suc g)) high s
      by_turn (inl s) = record {
        x = entry g 4 q (Sends (next_call q g (attempt doc q g my_turn).0 (attempt doc q g my_turn).1 my_turn) (request_arrival doc q.process g my_turn));
        before = my_turn;
        position =
            tail_trans (send doc g 4 q (attempt doc q g my_turn).0 (attempt doc q g my_turn).1 my_turn) (turn doc g q.process my_turn) (history doc (suc g))
            (leader_tries doc g q my_turn t.end role (steady.passes g (omega (arith, from, le)) to).awake (up my_turn below high) s.call t.set (omega (arith, soon, t.late)) (s.expiry g) (omega (arith, s.timer_is, reached)))
            (turn_tail doc (suc q.process) g (omega (arith, controllers_first doc q.process role)));
        since = below;
        idle = s;
        call = next_call q g (attempt doc q g my_turn).0 (attempt doc q g my_turn).1 my_turn;
        arrives = request_arrival doc q.process g my_turn;
        fact = refl;
        actor = refl;
      }
        where
          t : IsInTerm doc q at my_turn
          t = in_term doc rules near far a e (suc g) q role steady at y low leader from (omega (arith, le)) (omega (arith, to)) my_turn below high

  pub has_tried : HasTried doc q low at view (history doc (suc g))
  has_tried = by_step made.step_is
    where
      s : Tried doc q low at view (history doc (suc g))
      s = tried

      made : MadeFor doc q s.x.beat s.x.step s.call s.arrives s.before
      made = made_for doc rules (suc g) q s.x s.before s.call s.arrives s.position s.actor s.fact

      since : y ≤ s.x.beat
      since = later doc rules near far a e (suc g) q role steady at y low leader from (omega (arith, le)) (omega (arith, to)) s.x s.before s.since s.position

      unstopped : HasStopped s.x.beat q s.call.kind s.before → ⊥
      unstopped stopped =
          let stop = entry s.x.beat 1 q Stops in
          let there = in_tail stop (history doc (suc g)) (history doc (suc e)) (later_tail doc (suc g) (suc e) (omega (arith, to)))
          (in_tail stop (s.x ∷ s.before) (history doc (suc g)) s.position (inr (subst (In stop) (sym stopped.is) (inl refl)))) in
          let before = steady.stops stop there refl (ap (λ b. has (when b q.incarnation)) (eq-eqb q.process q.process refl)) in
          omega (arith, before, since, from)

      opens : open_as s.call.kind s.call ≡ Some s.call
      opens = by_free (made.free role)
        where
          by_free : HasStopped s.x.beat q s.call.kind s.before ⊎ ((alive q.process s.before ≡ Some q.incarnation) × (call_in q s.before ≡ None) × (3 ≤ s.x.step) × IsOpen s.call.kind) → open_as s.call.kind s.call ≡ Some s.call
          by_free (inr free) = free.3 s.call
          by_free (inl stopped) = absurd (unstopped stopped)

      made_by : 3 ≤ s.x.step → s.call.request ≡ (attempt doc q s.x.beat s.before).1 → HasTried doc q low at view (history doc (suc g))
      made_by step request = record { x = s.x; before = s.before; position = s.position; since = s.since; idle = s.idle; call = s.call; arrives = s.arrives; fact = s.fact; actor = s.actor; step = step; opens = opens; request = request }

      turned : s.x.step ≡ 4 → IsDue doc s.x.beat q s.call s.before → HasTried doc q low at view (history doc (suc g))
      turned four (inl fast) = absurd (false_is (sym (ap is_fast_call (s.idle.expiry s.x.beat)) ∙ fast))
      turned four (inr due) = made_by (omega (arith, four)) due.1

      follows : Replied doc s.x.beat q s.call.request s.before → ⊥
      follows f = cases (subst (IsTail low) f.is s.since)
        where
          reply : Entry
          reply = entry s.x.beat 3 q (Delivers f.waiting f.reply true)

          cases : IsTail low (reply ∷ f.before) → ⊥
          cases (inl same) =
              nothing s.x.beat f.waiting f.reply f.before s.call.request same
              (ap (λ h. follow_on doc q s.x.beat f.waiting.kind f.waiting.request f.reply h) (same ∙ sym f.is) ∙ f.follows)
          cases (inr lower) = s.idle.unmoved reply f.before (subst (IsTail (reply ∷ f.before)) (sym f.is) (tail_all (reply ∷ f.before))) lower refl refl

      by_step : (s.x.step ≡ 1) ⊎ ((s.x.step ≡ 3) ⊎ (s.x.step ≡ 4)) → HasTried doc q low at view (history doc (suc g))
      by_step (inr (inr four)) = turned four (subst (λ d. IsTurnSend doc s.x.beat q d s.before) s.fact (sends_are_due doc rules (suc g) s.x s.before s.position four q s.actor) role)
      by_step (inr (inl three)) = absurd (follows (made.replied role three))
      by_step (inl one) = absurd (by_free (made.free role))
        where
          by_free : HasStopped s.x.beat q s.call.kind s.before ⊎ ((alive q.process s.before ≡ Some q.incarnation) × (call_in q s.before ≡ None) × (3 ≤ s.x.step) × IsOpen s.call.kind) → ⊥
          by_free (inr free) = omega (arith, free.2, one)
          by_free (inl stopped) = unstopped stopped
