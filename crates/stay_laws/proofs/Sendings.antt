-- Who sends a call; and how long a call's way was whose reply counts.
use Rattle.std.proofs.Common.{◌≡◌, ◌≤◌, ℕ, suc, ◌+◌, true, false, List, ◌∷◌, Option, Some, IfSome, sym, ap, ◌∙◌, subst, inr, ⊎_elim, arith}
use Rattle.kube_objects.specs.declared.call.Reply.{Reply}
use Rattle.kube_objects.specs.Document.{Doc, processes, end_beat, is_controller}
use Rattle.kube_objects.specs.Entry.{Entry, Identity, Call, Sends, Delivers, actor_of, entry}
use Rattle.kube_objects.specs.Newest.{or_else}
use Rattle.kube_objects.specs.Pauses.{resume, held_up}
use Rattle.kube_objects.specs.Stored.{election, key_of}
use Rattle.kube_objects.specs.Wire.{arrival, request_arrival, request_delay, reply_delay, reply_loss_of, reply_delay_of}
use Rattle.kube_objects.specs.Own.{ReleasesByStop}
use Rattle.kube_objects.proofs.Pauses.{resume_later}
use Rattle.history.specs.History.{history}
use Rattle.history.specs.Sound.{IsSound}
use Rattle.history_laws.specs.Tails.{In, IsTail}
use Rattle.history_laws.proofs.Order.{entries_are_ordered}
use Rattle.history_laws.proofs.Plainly.{some_is}
use Rattle.history_laws.proofs.Tailed.{tail_all, tail_trans}
use Rattle.lease_laws.proofs.Histories.{bears_own, turn_right}
use Rattle.lease_laws.proofs.Invariant.{view, SentRight}
use Rattle.lease_laws.proofs.Steps.{AtMost}
use Rattle.call_laws.specs.Answering.{with_events}
use Rattle.call_laws.proofs.Above.{in_head}
use Rattle.call_laws.proofs.Placing.{forces_stand, messages_travel}
use Rattle.call_laws.proofs.Sending.{IsFree, is_free}
use Rattle.takeover_laws.specs.Calm.{Passes, IsSteady}
use Rattle.takeover_laws.proofs.Rounds.{Forces, sent_is, request_comes, reply_passes}
use Rattle.calm_laws.proofs.Origins.{Origin}
use Rattle.stay_laws.proofs.Closing.{within_below}

-- a controller asks for the election Lease alone
pub key_is : (doc : Doc) (high : ℕ) → AtMost doc high → IsSound doc → ReleasesByStop doc → (k : ℕ) → k ≤ end_beat doc → (q : Identity) → is_controller doc q.process ≡ true → (x : Entry) (call : Call) (arrives : Option ℕ) → In x (history doc (suc k)) → x.actor ≡ actor_of q
    → x.fact ≡ Sends call arrives → key_of call.request ≡ election
key_is doc high greatest sound rules k end q role x call arrives stands actor fact = (right.may.controller role).key
  where
    right : SentRight doc high k (view (history doc (suc k))) (record { who = q; call = call; arrives = arrives })
    right = subst (λ o. IfSome o (SentRight doc high k (view (history doc (suc k))))) (sent_is x q call arrives actor fact) ((turn_right doc high greatest (bears_own doc high rules) sound (processes doc) k end).core.entries x stands).0

-- from beat to beat: sent, answered and delivered
pub record IsWay (near far sent answered comes : ℕ) : Type 0 where
  pub sent_least : sent + near ≤ answered
  pub sent_most : answered ≤ sent + far
  pub comes_least : answered + near ≤ comes
  pub comes_most : comes ≤ answered + far

module _ (doc : Doc) (rules : ReleasesByStop doc) (near far a e : ℕ) (q : Identity) (role : is_controller doc q.process ≡ true) (steady : IsSteady doc near far a e q.process) (w : Call) (reply : Reply) (T : List Entry) (y : ℕ)
    (at : IsTail (entry y 3 q (Delivers w reply true) ∷ T) (history doc (suc y))) (o : Origin doc q w reply T y) (to : y ≤ e) where
  high : IsTail T (history doc (suc y))
  high = tail_trans T (entry y 3 q (Delivers w reply true) ∷ T) (history doc (suc y)) (inr (tail_all T)) at

  pub answer_high : IsTail (o.e ∷ o.low) (history doc (suc y))
  answer_high = tail_trans (o.e ∷ o.low) T (history doc (suc y)) o.answered high

  pub sending_high : IsTail (o.begun.f ∷ o.begun.before) (history doc (suc y))
  sending_high = tail_trans (o.begun.f ∷ o.begun.before) T (history doc (suc y)) o.begun.position high

  pub answered_by : o.e.beat ≤ y
  answered_by = ⊎_elim (λ lt. omega (arith, lt)) (λ here. omega (arith, here.0)) (within_below (history doc (suc y)) (entries_are_ordered doc (suc y)) (entry y 3 q (Delivers w reply true)) T at o.e (in_head o.e o.low T o.answered))

  sent_by : o.begun.f.beat ≤ o.e.beat
  sent_by =
      ⊎_elim (λ lt. omega (arith, lt)) (λ here. omega (arith, here.0))
      (within_below (history doc (suc y)) (entries_are_ordered doc (suc y)) o.e o.low answer_high o.begun.f (in_head o.begun.f o.begun.before o.low o.sent_low))

  pub free : IsFree q o.begun.f o.begun.before w
  free = is_free doc rules (suc y) q role o.begun.f o.begun.before w o.begun.arrives sending_high o.begun.actor o.begun.fact o.begun.opens

  module _ (from : a ≤ o.begun.f.beat) where
    sending : Passes doc near far q.process o.begun.f.beat
    sending = steady.passes o.begun.f.beat from (omega (arith, sent_by, answered_by, to))

    giving : Passes doc near far q.process o.e.beat
    giving = steady.passes o.e.beat (omega (arith, from, sent_by)) (omega (arith, answered_by, to))

    request_way : o.begun.f.beat + request_delay q.process (with_events doc o.begun.f.beat) ≡ o.e.beat
    request_way =
        sym (request_comes doc rules near far q.process o.begun.f.beat o.begun.before sending (forces_stand doc rules (suc y) o.begun.f o.begun.before sending_high (omega (arith, free.step))) o.e.beat
        (λ j low high. (steady.passes j (omega (arith, from, low)) (omega (arith, high, answered_by, to))).goes)
        (sym ((subst (λ p. IfSome p (λ s. (s.call.sent ≡ o.begun.f.beat) × (s.arrives ≡ request_arrival doc s.who.process o.begun.f.beat o.begun.before)))
        (sent_is o.begun.f q w o.begun.arrives o.begun.actor o.begun.fact) (messages_travel doc rules (suc y) o.begun.f o.begun.before sending_high).0).1)
        ∙ o.arrives))

    force : Forces doc o.e.beat o.low
    force = forces_stand doc rules (suc y) o.e o.low answer_high (omega (arith, o.step))

    abbrev k : ℕ
    k = o.e.beat + reply_delay q.process (with_events doc o.e.beat)

    -- it may have waited for the end of a pause
    upto : k ≤ y
    upto = omega (arith, resume_later doc q.process k, resumed)
      where
        resumed : resume doc q.process k ≡ y
        resumed =
            some_is (resume doc q.process k) y
            (sym (ap (λ b. held_up doc q.process (arrival b o.e.beat (reply_delay q.process o.low))) (ap (or_else false) (force.1 (reply_loss_of q.process)) ∙ giving.replies)
            ∙ ap (λ n. Some (resume doc q.process (o.e.beat + n))) (ap (or_else 1) (force.0 (reply_delay_of q.process))))
            ∙ o.comes_is)

    reply_way : k ≡ y
    reply_way =
        some_is k y
        (sym (reply_passes doc near far q.process o.e.beat o.low giving force (steady.passes k (omega (arith, from, sent_by)) (omega (arith, upto, to))).awake)
        ∙ o.comes_is)

    pub way : IsWay near far o.begun.f.beat o.e.beat y
    way = record {
      sent_least = omega (arith, request_way, sending.request_least);
      sent_most = omega (arith, request_way, sending.request_most);
      comes_least = omega (arith, reply_way, giving.reply_least);
      comes_most = omega (arith, reply_way, giving.reply_most);
    }
