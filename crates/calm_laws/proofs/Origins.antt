-- The answer that a counted reply brings, and the request that it answers.
use Rattle.std.proofs.Common.{◌≡◌, ℕ, ◌+◌, ◌&&◌, true, List, ◌∷◌, Option, Some, None, sym, ap, ◌∙◌, subst, inl, inr, ⊎_elim, arith}
use Rattle.kube_objects.specs.declared.call.Reply.{Reply}
use Rattle.kube_objects.specs.declared.deed.Actor.{Actor}
use Rattle.kube_objects.specs.declared.deed.Actor.TheVariants as actors
use Rattle.kube_objects.specs.declared.object.Object.{Object}
use Rattle.kube_objects.specs.Answers.{answer, written}
use Rattle.kube_objects.specs.Document.{Doc}
use Rattle.kube_objects.specs.Entry.{Entry, Identity, Call, Fact, First, Event, Starts, Stops, Sends, Answers, Delivers, Expires, Leads, Ends, Crashes, Stalls, Ticks, actor_of, StepsDown, ReleaseBegins, ReleaseEnds, ReleaseStops}
use Rattle.kube_objects.specs.Identities.{is_by}
use Rattle.kube_objects.specs.Newest.{added}
use Rattle.kube_objects.specs.Process.{is_send, begun, call_in}
use Rattle.kube_objects.specs.Wire.{Back, back_of, reply_arrival}
use Rattle.kube_objects.specs.Own.{ReleasesByStop}
use Rattle.history.specs.History.{history}
use Rattle.history_laws.specs.Tails.{IsTail}
use Rattle.history_laws.proofs.Counting.{CountedFor, counted_is}
use Rattle.history_laws.proofs.Plainly.{none_is, some_is, same_self}
use Rattle.history_laws.proofs.Tailed.{tail_all, tail_trans, tails_meet, begun_tail, same_head}
use Rattle.call_laws.proofs.Above.{Place, place_of}
use Rattle.call_laws.proofs.Making.{MadeAs, MadeAnswer, MadeDelivery, are_made}
use Rattle.call_laws.proofs.Once.{due_at}
use Rattle.call_laws.proofs.Sending.{made_for}
use Rattle.call_laws.proofs.Starting.{actor_is}
use Rattle.takeover_laws.proofs.Writers.{sends_of}
use Rattle.calm_laws.proofs.Begun.{Begun, begun_by}

-- ---- two requests of one number are one entry

numbered : (doc : Doc) → ReleasesByStop doc → (m : ℕ) (q : Identity) (x : Entry) (T : List Entry) (call : Call) (arrives : Option ℕ) → IsTail (x ∷ T) (history doc m) → x.actor ≡ actor_of q → x.fact ≡ Sends call arrives
    → (call.number ≡ begun q T + 1) × (begun q (x ∷ T) ≡ begun q T + 1)
numbered doc rules m q x T call arrives at actor fact = (ap (λ (c : Call). c.number) (made_for doc rules m q x T call arrives at actor fact).call_is, counts)
  where
    counts : begun q (x ∷ T) ≡ begun q T + 1
    counts = ap (λ d. added (is_send d && is_by q x.actor) (begun q T)) fact ∙ ap (λ who. added (is_by q who) (begun q T)) actor ∙ ap (λ b. added b (begun q T)) (same_self q)

pub sends_differ : (doc : Doc) → ReleasesByStop doc → (m : ℕ) (q : Identity) (x y : Entry) (S T : List Entry) (c d : Call) (i j : Option ℕ) → IsTail (x ∷ S) (history doc m) → IsTail (y ∷ T) (history doc m)
    → x.actor ≡ actor_of q → y.actor ≡ actor_of q → x.fact ≡ Sends c i → y.fact ≡ Sends d j → c.number ≡ d.number → x ∷ S ≡ y ∷ T
sends_differ doc rules m q x y S T c d i j at_x at_y mine_x mine_y fact_x fact_y same = ⊎_elim below above (tails_meet (x ∷ S) (y ∷ T) (history doc m) at_x at_y)
  where
    nx : (c.number ≡ begun q S + 1) × (begun q (x ∷ S) ≡ begun q S + 1)
    nx = numbered doc rules m q x S c i at_x mine_x fact_x

    ny : (d.number ≡ begun q T + 1) × (begun q (y ∷ T) ≡ begun q T + 1)
    ny = numbered doc rules m q y T d j at_y mine_y fact_y

    below : IsTail (x ∷ S) (y ∷ T) → x ∷ S ≡ y ∷ T
    below (inl is) = is
    below (inr at) = absurd (omega (arith, nx.0, nx.1, ny.0, same, begun_tail q (x ∷ S) T at))

    above : IsTail (y ∷ T) (x ∷ S) → x ∷ S ≡ y ∷ T
    above (inl is) = sym is
    above (inr at) = absurd (omega (arith, nx.0, ny.0, ny.1, same, begun_tail q (y ∷ T) S at))

-- ---- a counted reply

-- the facts of an answer
pub record IsAnswer (who : Actor) (d : Fact) (b : Back) : Type 0 where
  pub wrote : Option Object
  pub by : who ≡ actor_of b.who
  pub fact : d ≡ Answers b.call b.reply b.comes wrote

pub answer_facts : (who : Actor) (d : Fact) (b : Back) → back_of who d ≡ Some b → IsAnswer who d b
answer_facts actors.Script (Answers call reply comes wrote) b is = absurd (none_is b is)
answer_facts (actors.Proc id i) (Answers call reply comes wrote) b is =
    let e = some_is (record { who = record { process = id.0; incarnation = i }; call = call; reply = reply; comes = comes }) b is in
    record { wrote = wrote; by = ap (λ (b : Back). actor_of b.who) e; fact = ap (λ (b : Back). Answers b.call b.reply b.comes wrote) e }
answer_facts who (Sends call arrives) b is = absurd (none_is b is)
answer_facts who (First key object) b is = absurd (none_is b is)
answer_facts who (Event w version) b is = absurd (none_is b is)
answer_facts who (Delivers call reply counted) b is = absurd (none_is b is)
answer_facts who (Expires call) b is = absurd (none_is b is)
answer_facts who (Ticks t) b is = absurd (none_is b is)
answer_facts who Starts b is = absurd (none_is b is)
answer_facts who Crashes b is = absurd (none_is b is)
answer_facts who Stops b is = absurd (none_is b is)
answer_facts who (Stalls beats) b is = absurd (none_is b is)
answer_facts who StepsDown b is = absurd (none_is b is)
answer_facts who (ReleaseBegins at_deadline) b is = absurd (none_is b is)
answer_facts who ReleaseEnds b is = absurd (none_is b is)
answer_facts who ReleaseStops b is = absurd (none_is b is)
answer_facts who Ends b is = absurd (none_is b is)
answer_facts who (Leads version) b is = absurd (none_is b is)

-- where the reply of a call that counts at beat y is from
pub record Origin (doc : Doc) (q : Identity) (w : Call) (reply : Reply) (T : List Entry) (y : ℕ) : Type 0 where
  pub e : Entry
  pub low : List Entry
  pub answered : IsTail (e ∷ low) T
  pub actor : e.actor ≡ actor_of q
  pub fact : e.fact ≡ Answers w reply (Some y) (written w.request low)
  pub step : e.step ≡ 2
  pub reply_is : reply ≡ answer w.request low
  pub comes_is : reply_arrival doc q.process e.beat low ≡ Some y
  pub begun : Begun q w T
  pub sent_low : IsTail (begun.f ∷ begun.before) low
  pub arrives : begun.arrives ≡ Some e.beat

pub origin : (doc : Doc) → ReleasesByStop doc → (m : ℕ) (q : Identity) (x : Entry) (T : List Entry) (w : Call) (reply : Reply) → IsTail (x ∷ T) (history doc m) → x.actor ≡ actor_of q → x.fact ≡ Delivers w reply true → Origin doc q w reply T x.beat
origin doc rules m q x T w reply at actor fact = record {
  e = e;
  low = low;
  answered = place.position;
  actor = facts.by ∙ ap actor_of mine;
  fact =
      facts.fact ∙ ap (λ c. Answers c made.b.reply made.b.comes facts.wrote) call ∙ ap (λ r. Answers w r made.b.comes facts.wrote) (sym made.reply_is)
      ∙ ap (λ o. Answers w reply o facts.wrote) comes ∙ ap (λ o. Answers w reply (Some x.beat) o) (answering.written_is ∙ ap (λ (c : Call). written c.request low) sent_call);
  step = answering.step_is;
  reply_is = made.reply_is ∙ answering.reply_is ∙ ap (λ (c : Call). answer c.request low) sent_call;
  comes_is = ap (λ (p : Identity). reply_arrival doc p.process e.beat low) (sym whose) ∙ sym answering.comes_is ∙ comes;
  begun = b;
  sent_low = subst (λ g. IsTail g low) (sym same) asked.position;
  arrives = arrives_same b.arrives answering.s.arrives (sym b.fact ∙ ap (λ (e : Entry). e.fact) (same_head b.f answering.arriving.e b.before asked.before same) ∙ sent.1)
      ∙ due_at e.beat answering.s.arrives answering.arriving.now;
}
  where
    made : MadeDelivery doc x.beat x.step x.actor w reply T
    made = subst (λ d. MadeAs doc x.beat x.step x.actor d T) fact (are_made doc rules m x T at)

    mine : made.b.who ≡ q
    mine = actor_is made.b.who q (sym made.by ∙ actor)

    e : Entry
    e = made.coming.e

    place : Place made.coming.e T
    place = place_of made.coming.e T made.coming.stands

    low : List Entry
    low = place.before

    at_t : IsTail T (history doc m)
    at_t = tail_trans T (x ∷ T) (history doc m) (inr (tail_all T)) at

    comes : made.b.comes ≡ Some x.beat
    comes = due_at x.beat made.b.comes made.coming.now

    facts : IsAnswer e.actor e.fact made.b
    facts = answer_facts e.actor e.fact made.b made.coming.is

    answering : MadeAnswer doc e.beat e.step e.actor made.b.call made.b.reply made.b.comes facts.wrote low
    answering = subst (λ d. MadeAs doc e.beat e.step e.actor d low) facts.fact (are_made doc rules m e low (tail_trans (e ∷ low) T (history doc m) place.position at_t))

    whose : answering.s.who ≡ q
    whose = actor_is answering.s.who q (sym answering.by ∙ facts.by ∙ ap actor_of mine)

    asked : Place answering.arriving.e low
    asked = place_of answering.arriving.e low answering.arriving.stands

    sent : (answering.arriving.e.actor ≡ actor_of answering.s.who) × (answering.arriving.e.fact ≡ Sends answering.s.call answering.s.arrives)
    sent = sends_of answering.arriving.e.actor answering.arriving.e.fact answering.s answering.arriving.is

    counts : CountedFor doc made.b.who x.beat made.b.call.number T w
    counts = counted_is doc made.b.who x.beat made.b.call.number T w made.counted_is

    b : Begun q w T
    b = begun_by q T w (ap (λ p. call_in p T) (sym mine) ∙ counts.waits)

    same : b.f ∷ b.before ≡ answering.arriving.e ∷ asked.before
    same =
        sends_differ doc rules m q b.f answering.arriving.e b.before asked.before w answering.s.call b.arrives answering.s.arrives
        (tail_trans (b.f ∷ b.before) T (history doc m) b.position at_t)
        (tail_trans (answering.arriving.e ∷ asked.before) low (history doc m) asked.position (tail_trans low T (history doc m) (tail_trans low (e ∷ low) T (inr (tail_all low)) place.position) at_t))
        b.actor (sent.0 ∙ ap actor_of whose) b.fact sent.1 (counts.number ∙ ap (λ (c : Call). c.number) answering.call_is)

    call_same : (c d : Call) (i j : Option ℕ) → Sends c i ≡ Sends d j → c ≡ d
    call_same c d i j is = ap (λ f. call_or f) is
      where
        call_or : Fact → Call
        call_or (Sends c i) = c
        call_or _ = w

    arrives_same : (i j : Option ℕ) → Sends w i ≡ Sends answering.s.call j → i ≡ j
    arrives_same i j is = ap (λ f. arrives_or f) is
      where
        arrives_or : Fact → Option ℕ
        arrives_or (Sends c i) = i
        arrives_or _ = None

    sent_call : answering.s.call ≡ w
    sent_call = sym (call_same w answering.s.call b.arrives answering.s.arrives (sym b.fact ∙ ap (λ (e : Entry). e.fact) (same_head b.f answering.arriving.e b.before asked.before same) ∙ sent.1))

    call : made.b.call ≡ w
    call = answering.call_is ∙ sent_call
