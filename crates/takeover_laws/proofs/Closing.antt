-- What closes a call.
use Rattle.std.proofs.Common.{◌≡◌, ◌==◌, true, false, List, refl, sym, ap, ◌∙◌, subst}
use Rattle.kube_objects.specs.declared.call.Reply.{Reply}
use Rattle.kube_objects.specs.declared.deed.Actor.{Actor}
use Rattle.kube_objects.specs.declared.deed.Actor.TheVariants as actors
use Rattle.kube_objects.specs.Document.{Doc}
use Rattle.kube_objects.specs.Entry.{Entry, Identity, Call, Fact, First as FirstPut, Event as Happens, Starts, Stops, Sends, Answers, Delivers, Expires, Leads, Ends, Crashes, Stalls, Ticks, StepsDown, ReleaseBegins, ReleaseEnds, ReleaseStops}
use Rattle.kube_objects.specs.Identities.{is_by, of_process}
use Rattle.kube_objects.specs.Newest.{when, has}
use Rattle.kube_objects.specs.Process.{is_late}
use Rattle.history_laws.proofs.Plainly.{false_is, and_left, same_is}
use Rattle.call_laws.specs.Waiting.{Closes}
use Rattle.call_laws.proofs.Making.{MadeDelivery, MadeExpiry, MadeAs}

-- an entry of an identity is one of its process
pub by_process : (q : Identity) (who : Actor) → is_by q who ≡ true → has (of_process q.process who) ≡ true
by_process q actors.Script is = absurd (false_is is)
by_process q (actors.Proc id i) is = ap (λ b. has (when b i)) (and_left (id.0 == q.process) (i == q.incarnation) is)

-- what closes a call: a reply that counts for it, its expiry, or a stop
pub closed_by : (q : Identity) (call : Call) (x : Entry) (T : List Entry) (doc : Doc) (C : Type 0) → MadeAs doc x.beat x.step x.actor x.fact T → Closes q call x.actor x.fact
    → ((w : Call) (reply : Reply) → x.fact ≡ Delivers w reply true → MadeDelivery doc x.beat x.step x.actor w reply T → is_by q x.actor ≡ true → w ≡ call → C)
    → ((made : MadeExpiry doc x.beat x.actor call T) → made.q ≡ q → is_late doc q x.beat call ≡ true → C)
    → (x.fact ≡ Stops → has (of_process q.process x.actor) ≡ true → C) → C
closed_by q call x T doc C made closes reply_counts expires stops = cases x.fact refl made closes
  where
    cases : (d : Fact) → x.fact ≡ d → MadeAs doc x.beat x.step x.actor d T → Closes q call x.actor d → C
    cases (Delivers w reply true) fact made closes = reply_counts w reply fact made closes.0 closes.1
    cases (Expires w) fact made closes = expires own mine (subst (λ p. is_late doc p x.beat call ≡ true) mine own.late)
      where
        own : MadeExpiry doc x.beat x.actor call T
        own = subst (λ w. MadeExpiry doc x.beat x.actor w T) closes.1 made

        mine : own.q ≡ q
        mine = same_is own.q q (sym (ap (is_by q) own.by) ∙ closes.0)
    cases Stops fact made closes = stops fact (by_process q x.actor closes)
    cases (FirstPut key object) fact made closes = elim closes [ ]
    cases (Happens w version) fact made closes = elim closes [ ]
    cases Starts fact made closes = elim closes [ ]
    cases Crashes fact made closes = elim closes [ ]
    cases Ends fact made closes = elim closes [ ]
    cases (Stalls beats) fact made closes = elim closes [ ]
    cases StepsDown fact made closes = absurd made
    cases (ReleaseBegins at_deadline) fact made closes = absurd made
    cases ReleaseEnds fact made closes = absurd made
    cases ReleaseStops fact made closes = absurd made
    cases (Sends w arrives) fact made closes = elim closes [ ]
    cases (Answers w reply comes wrote) fact made closes = elim closes [ ]
    cases (Delivers w reply false) fact made closes = elim closes [ ]
    cases (Leads version) fact made closes = elim closes [ ]
    cases (Ticks tick) fact made closes = elim closes [ ]
