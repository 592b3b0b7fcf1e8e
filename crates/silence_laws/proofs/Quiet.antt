-- Who is silent writes no election Lease.
use Rattle.std.proofs.Common.{◌≡◌, ◌≤◌, ℕ, suc, true, List, ◌∷◌, Option, None, refl, sym, ap, ◌∙◌, subst, inr}
use Rattle.kube_objects.specs.declared.call.Reply.{Reply}
use Rattle.kube_objects.specs.declared.object.Object.{Object}
use Rattle.kube_objects.specs.Document.{Doc}
use Rattle.kube_objects.specs.Entry.{Entry, Call, Fact, First, Event, Starts, Stops, Sends, Answers, Delivers, Expires, Leads, Ends, Crashes, Stalls, Ticks, actor_of, StepsDown, ReleaseBegins, ReleaseEnds, ReleaseStops}
use Rattle.kube_objects.specs.Identities.{of_process}
use Rattle.kube_objects.specs.InFlight.{is_due}
use Rattle.kube_objects.specs.Newest.{has}
use Rattle.kube_objects.specs.Own.{ReleasesByStop}
use Rattle.history.specs.History.{history}
use Rattle.history_laws.specs.Tails.{IsTail}
use Rattle.history_laws.proofs.Plainly.{false_is}
use Rattle.history_laws.proofs.Tailed.{tail_all, tail_trans, in_tail}
use Rattle.call_laws.proofs.Above.{place_of}
use Rattle.call_laws.proofs.Making.{MadeAs, MadeAnswer, are_made}
use Rattle.takeover_laws.specs.Calm.{WritesElection}
use Rattle.takeover_laws.proofs.Writers.{sends_of}
use Rattle.silence_laws.specs.Silence.{IsSilent, SilentsAreQuiet}

module _ (doc : Doc) (rules : ReleasesByStop doc) (b e p : ℕ) (silent : IsSilent doc b e p) (x : Entry) (T : List Entry) (at : IsTail (x ∷ T) (history doc (suc e))) (mine : has (of_process p x.actor) ≡ true) where
  answers : (call : Call) (reply : Reply) (comes : Option ℕ) (wrote : Option Object) → x.fact ≡ Answers call reply comes wrote → b ≤ call.sent → ⊥
  answers call reply comes wrote fact since = false_is (sym (ap (is_due x.beat) lost) ∙ made.arriving.now)
    where
      made : MadeAnswer doc x.beat x.step x.actor call reply comes wrote T
      made = subst (λ d. MadeAs doc x.beat x.step x.actor d T) fact (are_made doc rules (suc e) x T at)

      sent : (made.arriving.e.actor ≡ actor_of made.s.who) × (made.arriving.e.fact ≡ Sends made.s.call made.s.arrives)
      sent = sends_of made.arriving.e.actor made.arriving.e.fact made.s made.arriving.is

      lost : made.s.arrives ≡ None
      lost =
          silent made.arriving.e made.s.call made.s.arrives (in_tail made.arriving.e T (history doc (suc e)) (tail_trans T (x ∷ T) (history doc (suc e)) (inr (tail_all T)) at) made.arriving.stands)
          (ap (λ who. has (of_process p who)) (sent.0 ∙ sym made.by) ∙ mine) sent.1 (subst (λ (c : Call). b ≤ c.sent) made.call_is since)

  cases : (d : Fact) → x.fact ≡ d → WritesElection b d → ⊥
  cases (Answers call reply comes wrote) fact writes = answers call reply comes wrote fact writes.0
  cases (First key object) fact writes = writes
  cases (Event w version) fact writes = writes
  cases (Sends call arrives) fact writes = writes
  cases (Delivers call reply counted) fact writes = writes
  cases (Expires call) fact writes = writes
  cases (Ticks t) fact writes = writes
  cases Starts fact writes = writes
  cases Crashes fact writes = writes
  cases Stops fact writes = writes
  cases (Stalls beats) fact writes = writes
  cases StepsDown fact writes = writes
  cases (ReleaseBegins at_deadline) fact writes = writes
  cases ReleaseEnds fact writes = writes
  cases ReleaseStops fact writes = writes
  cases Ends fact writes = writes
  cases (Leads version) fact writes = writes

pub silents_are_quiet : SilentsAreQuiet
silents_are_quiet doc rules b e p silent x at mine writes =
    let place = place_of x (history doc (suc e)) at in
    cases doc rules b e p silent x place.before place.position mine x.fact refl writes
