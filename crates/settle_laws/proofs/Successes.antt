-- Successes: who comes to lead does so by one, and one of a call that was sent before a calm comes early in it.
use Rattle.std.proofs.Common.{◌≡◌, ◌<◌, ◌≤◌, ℕ, suc, ◌+◌, ◌*◌, true, List, ◌∷◌, length, Option, Some, IfSome, refl, sym, ap, ◌∙◌, subst, inr, ⊎_elim, arith}
use Rattle.std.proofs.lemmas.Bool.{cases_lt}
use Rattle.kube_base.specs.declared.numbers.Version.{Version}
use Rattle.kube_objects.specs.declared.call.Reply.{Reply}
use Rattle.kube_objects.specs.declared.call.Reply.TheVariants.{Done}
use Rattle.kube_objects.specs.declared.call.Request.{Request}
use Rattle.kube_objects.specs.declared.call.Request.TheVariants.{Get, Create, Update, PostStatus}
use Rattle.kube_objects.specs.declared.key.Key.{Key}
use Rattle.kube_objects.specs.Answers.{written}
use Rattle.kube_objects.specs.Document.{Doc, processes, end_beat, is_controller}
use Rattle.kube_objects.specs.Elector.{Moment, Succeeds, follow_write, follow, succeeds, not_done}
use Rattle.kube_objects.specs.Entry.{Entry, Identity, Call, CallKind, Fast, Sends, Answers, Delivers, actor_of}
use Rattle.kube_objects.specs.Keys.{key_eq}
use Rattle.kube_objects.specs.Own.{ReleasesByStop}
use Rattle.kube_objects.specs.Stored.{election, key_of}
use Rattle.kube_objects.specs.Wire.{back_of, request_arrival, reply_delay}
use Rattle.history.specs.History.{history}
use Rattle.history.specs.Premise.{greatest_below}
use Rattle.history.specs.Sound.{IsSound}
use Rattle.history_laws.specs.Tails.{In, IsTail}
use Rattle.history_laws.proofs.Plainly.{some_is}
use Rattle.history_laws.proofs.Tailed.{tail_all, tail_trans, later_tail}
use Rattle.lease_laws.proofs.Histories.{bears_own, turn_right}
use Rattle.lease_laws.proofs.Invariant.{Asked, SentRight, view}
use Rattle.lease_laws.proofs.Premises.{rates_at_most}
use Rattle.call_laws.specs.Answering.{with_events}
use Rattle.call_laws.proofs.Above.{in_head}
use Rattle.call_laws.proofs.Placing.{in_own_beat, forces_stand, messages_travel}
use Rattle.takeover_laws.specs.Calm.{Passes, IsSteady, IsCalm}
use Rattle.takeover_laws.proofs.Rounds.{reply_passes, sent_is}
use Rattle.calm_laws.proofs.Looks.{get_no_success}
use Rattle.calm_laws.proofs.Origins.{Origin, origin}

-- ---- what a controller asked for

abbrev pub high_of : Doc → ℕ
high_of doc = greatest_below doc (length doc.controllers)

-- what the lease theorem knows of its request
pub asked_of : (doc : Doc) → IsSound doc → ReleasesByStop doc → (n : ℕ) → n ≤ end_beat doc → (q : Identity) → is_controller doc q.process ≡ true → (f : Entry) (T : List Entry) (call : Call) (arrives : Option ℕ) → IsTail (f ∷ T) (history doc (suc n))
    → f.actor ≡ actor_of q → f.fact ≡ Sends call arrives → Asked doc (high_of doc) (view (history doc (suc n))) q call.sent call.kind call.request
asked_of doc sound rules n end q role f T call arrives at actor fact =
    let right = (turn_right doc (high_of doc) (rates_at_most doc) (bears_own doc (high_of doc) rules) sound (processes doc) n end).core.entries f (in_head f T (history doc (suc n)) at) in
    let sent : SentRight doc (high_of doc) n (view (history doc (suc n))) (record { who = q; call = call; arrives = arrives }) =
    subst (λ o. IfSome o (SentRight doc (high_of doc) n (view (history doc (suc n))))) (sent_is f q call arrives actor fact) right.0 in
    sent.may.controller role

-- ---- what a success is

reply_done : (reply : Reply) (key : Key) (lease : _) → succeeds (Create key lease) reply ≡ true → (version : Version) × (reply ≡ Done version)
reply_done (Done version) key lease is = (version, refl)
reply_done reply key lease is = absurd (cc)

pub done_of : (r : Request) (reply : Reply) → succeeds r reply ≡ true → (version : Version) × (reply ≡ Done version)
done_of (Create key lease) reply is = reply_done reply key lease is
done_of (Update key given lease) reply is = reply_done reply key lease is
done_of (Get key) reply is = absurd (cc)
done_of (PostStatus name status at) reply is = absurd (cc)

no_success : (kind : CallKind) (v : Version) → not_done kind ≡ Succeeds v → ⊥
no_success Fast v is = cc
no_success kind v is = cc

write_succeeds : (kind : CallKind) (key : Key) (lease : _) (reply : Reply) (v : Version) → follow_write kind reply ≡ Succeeds v → succeeds (Create key lease) reply ≡ true
write_succeeds kind key lease (Done version) v is = refl
write_succeeds kind key lease reply v is = absurd (no_success kind v is)

-- what a reply is followed by says so
pub follow_succeeds : (q : Identity) (m : Moment) (seen : ℕ) (kind : CallKind) (r : Request) (reply : Reply) (v : Version) → follow q m seen kind r reply ≡ Succeeds v → succeeds r reply ≡ true
follow_succeeds q m seen kind (Get key) reply v is = absurd (get_no_success q m seen reply v is)
follow_succeeds q m seen kind (Create key lease) reply v is = write_succeeds kind key lease reply v is
follow_succeeds q m seen kind (Update key given lease) reply v is = write_succeeds kind key lease reply v is
follow_succeeds q m seen kind (PostStatus name status at) reply v is = absurd (cc)

-- ---- a reply to a call of before the calm comes within two ways of its beginning

module _ (doc : Doc) (near far a e n : ℕ) (sound : IsSound doc) (rules : ReleasesByStop doc) (calm : IsCalm doc near far a e) (one : 1 ≤ far) (end : n ≤ end_beat doc) (room : a + 2 * far ≤ e)
    (q : Identity) (role : is_controller doc q.process ≡ true) (steady : IsSteady doc near far a e q.process)
    (x : Entry) (T : List Entry) (w : Call) (reply : Reply) (at : IsTail (x ∷ T) (history doc (suc n))) (actor : x.actor ≡ actor_of q) (fact : x.fact ≡ Delivers w reply true) (early : w.sent < a) where
  abbrev pub o : Origin doc q w reply T x.beat
  o = origin doc rules (suc n) q x T w reply at actor fact

  high : IsTail T (history doc (suc n))
  high = tail_trans T (x ∷ T) (history doc (suc n)) (inr (tail_all T)) at

  sending : IsTail (o.begun.f ∷ o.begun.before) (history doc (suc n))
  sending = tail_trans (o.begun.f ∷ o.begun.before) T (history doc (suc n)) o.begun.position high

  answering : IsTail (o.e ∷ o.low) (history doc (suc n))
  answering = tail_trans (o.e ∷ o.low) T (history doc (suc n)) o.answered high

  key_is : key_eq (key_of w.request) election ≡ true
  key_is = ap (λ k. key_eq k election) (asked_of doc sound rules n end q role o.begun.f o.begun.before w o.begun.arrives sending o.begun.actor o.begun.fact).key

  pub sent : w.sent ≡ o.begun.f.beat
  sent = (subst (λ p. IfSome p (λ s. (s.call.sent ≡ o.begun.f.beat) × (s.arrives ≡ request_arrival doc s.who.process o.begun.f.beat o.begun.before)))
      (sent_is o.begun.f q w o.begun.arrives o.begun.actor o.begun.fact) (messages_travel doc rules (suc n) o.begun.f o.begun.before sending).0).0

  earlier : (z : Entry) (Z : List Entry) → IsTail (z ∷ Z) (history doc (suc n)) → z.beat < a → In z (history doc a)
  earlier z Z at lt = in_head z Z (history doc a) (tail_trans (z ∷ Z) (history doc (suc z.beat)) (history doc a) (in_own_beat doc (suc n) z Z at) (later_tail doc (suc z.beat) a (omega (arith, lt))))

  answered : o.e.beat < a + far
  answered =
      let there = subst (λ o. IfSome o (λ s. key_eq (key_of s.call.request) election ≡ true → IfSome s.arrives (λ m. m < a + far)))
      (sent_is o.begun.f q w o.begun.arrives o.begun.actor o.begun.fact) (calm.requests o.begun.f (earlier o.begun.f o.begun.before sending (omega (arith, early, sent)))) key_is in
      subst (λ o. IfSome o (λ m. m < a + far)) o.arrives there

  back_is : back_of o.e.actor o.e.fact ≡ Some (record { who = q; call = w; reply = reply; comes = Some x.beat })
  back_is = ap (λ d. back_of o.e.actor d) o.fact ∙ ap (λ who. back_of who (Answers w reply (Some x.beat) (written w.request o.low))) o.actor

  -- given before the calm it comes within one
  comes_soon : o.e.beat < a → x.beat < a + far
  comes_soon lt = subst (λ o. IfSome o (λ b. key_eq (key_of b.call.request) election ≡ true → IfSome b.comes (λ m. m < a + far))) back_is (calm.replies o.e (earlier o.e o.low answering lt)) key_is

  -- and given in it after one
  pub comes_after : a ≤ o.e.beat → (o.e.beat + near ≤ x.beat) × (x.beat ≤ o.e.beat + far)
  comes_after from = (omega (arith, comes, passes.reply_least), omega (arith, comes, passes.reply_most))
    where
      passes : Passes doc near far q.process o.e.beat
      passes = steady.passes o.e.beat from (omega (arith, answered, room))

      comes : o.e.beat + reply_delay q.process (with_events doc o.e.beat) ≡ x.beat
      comes =
          some_is (o.e.beat + reply_delay q.process (with_events doc o.e.beat)) x.beat
          (sym (reply_passes doc near far q.process o.e.beat o.low passes (forces_stand doc rules (suc n) o.e o.low answering (omega (arith, o.step)))
          (steady.passes (o.e.beat + reply_delay q.process (with_events doc o.e.beat)) (omega (arith, from)) (omega (arith, passes.reply_most, answered, room))).awake)
          ∙ o.comes_is)

  pub comes_early : x.beat < a + 2 * far
  comes_early = ⊎_elim (λ lt. omega (arith, comes_soon lt, one)) (λ from. omega (arith, (comes_after from).1, answered)) (cases_lt o.e.beat a)

  -- one that comes at the last of these beats was given in the calm
  pub answered_in : a + far ≤ x.beat → a ≤ o.e.beat
  answered_in late = ⊎_elim (λ lt. absurd (omega (arith, late, comes_soon lt))) (λ le. le) (cases_lt o.e.beat a)
