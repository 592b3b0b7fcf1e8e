-- A reply to a kubelet whose messages pass counts, and what follows it is sent.
use Rattle.std.proofs.Common.{◌≡◌, ◌⊎◌, ◌∙◌, ◌≤◌, ℕ, suc, ◌+◌, ◌*◌, ◌==◌, true, false, List, ◌∷◌, Option, Some, None, refl, sym, ap, subst, inl, inr, ⊎_elim, arith}
use Rattle.kube_objects.specs.declared.call.Reply.{Reply}
use Rattle.kube_objects.specs.declared.call.Request.{Request}
use Rattle.kube_objects.specs.Answers.{answer}
use Rattle.kube_objects.specs.Document.{Doc, is_controller, call_timeout}
use Rattle.kube_objects.specs.Entry.{Entry, Identity, Call, Sends, Stops, actor_of}
use Rattle.kube_objects.specs.Identities.{of_process}
use Rattle.kube_objects.specs.Newest.{has}
use Rattle.kube_objects.specs.Kubelet.{next_request, send_next}
use Rattle.kube_objects.specs.Own.{ReleasesByStop}
use Rattle.kube_objects.specs.Process.{alive, call_in, is_late, counted}
use Rattle.kube_objects.specs.Turns.{with_reply}
use Rattle.kube_objects.specs.Wire.{Back, reply_arrival}
use Rattle.history.specs.History.{three_steps, history}
use Rattle.history.specs.Sound.{IsSound}
use Rattle.history.specs.Steps.{delivered, deliver_as, react_as, step_three}
use Rattle.history_laws.specs.Tails.{IsTail}
use Rattle.history_laws.proofs.Order.{entries_are_ordered}
use Rattle.history_laws.proofs.Tailed.{tail_all, tail_trans, in_tail}
use Rattle.span_laws.specs.Spans.{RunsAtMost}
use Rattle.call_laws.specs.Answering.{with_events, with_answers}
use Rattle.call_laws.specs.Waiting.{IsClosed}
use Rattle.call_laws.proofs.Above.{in_head}
use Rattle.takeover_laws.specs.Calm.{IsSteady}
use Rattle.takeover_laws.specs.Rounds.{IsRound}
use Rattle.takeover_laws.proofs.Counted.{Counts, counts, reply_in_time}
use Rattle.takeover_laws.proofs.Deliveries.{Waits}
use Rattle.takeover_laws.proofs.Rounds.{rounds_in}
use Rattle.takeover_laws.proofs.Writers.{since_low, waits_count}
use Rattle.heard_laws.proofs.Heard.{below_ordered}
use Rattle.heard_laws.proofs.Sending.{KubeletSends, sends_as, waits_on, stays_up}

-- what a kubelet sends after a counted reply
delivers : (doc : Doc) (q : Identity) (k : ℕ) (call : Call) (b : Back) (h : List Entry) → is_controller doc q.process ≡ false → b.who ≡ q → (call.number == b.call.number) ≡ true → is_late doc q k call ≡ false → Waits doc k q call h
    → delivered doc k b h ≡ send_next doc k q (next_request doc q k call.request b.reply) (with_reply k q call b.reply h)
delivers doc q k call b h role mine number timely w =
    ap (λ p. deliver_as doc k p b.call b.reply (counted doc p k b.call.number h) h) mine
    ∙ ap (λ o. deliver_as doc k q b.call b.reply o h) (waits_count doc q k call b.call.number h number timely w)
    ∙ ap (λ t. react_as doc k q call b.reply t (with_reply k q call b.reply h)) role

pub next_low : (doc : Doc) (k : ℕ) (q : Identity) (o : Option Request) (h : List Entry) → IsTail h (send_next doc k q o h)
next_low doc k q None h = tail_all h
next_low doc k q (Some request) h = inr (tail_all h)

-- the reply to a call counts as its round has it, and what follows it comes next
pub record Replied (doc : Doc) (near far : ℕ) (q : Identity) (call : Call) (arrives : Option ℕ) (j : ℕ) : Type 0 where
  pub round : IsRound doc near far q call arrives j
  pub before : List Entry
  pub low : IsTail (with_answers doc round.comes) before
  pub waits : call_in q before ≡ Some call
  pub up : alive q.process before ≡ Some q.incarnation
  pub stands : IsTail (with_reply round.comes q call (answer call.request round.before) before) (three_steps doc round.comes (history doc round.comes))
  pub position :
      IsTail (send_next doc round.comes q (next_request doc q round.comes call.request (answer call.request round.before)) (with_reply round.comes q call (answer call.request round.before) before)) (history doc (suc round.comes))

module _ (doc : Doc) (sound : IsSound doc) (rules : ReleasesByStop doc) (near far s l e : ℕ) (q : Identity) (role : is_controller doc q.process ≡ false) (steady : IsSteady doc near far s l q.process)
    (up_first : alive q.process (with_events doc s) ≡ Some q.incarnation) (fast : ℕ) (runs : RunsAtMost doc q.process s e fast) (timeout : (2 * far) * fast ≤ call_timeout doc q.process) (one : 1 ≤ near) (within : l ≤ e) where
  -- no call is late before its reply can come
  pub timely : (call : Call) (j y : ℕ) → call.sent ≡ j → s ≤ j → j ≤ y → y ≤ j + 2 * far → y ≤ e → is_late doc q y call ≡ false
  timely = reply_in_time doc rules far s e q fast runs timeout

  module _ (x : Entry) (T : List Entry) (call : Call) (arrives : Option ℕ) (at : IsTail (x ∷ T) (history doc (suc l))) (actor : x.actor ≡ actor_of q) (fact : x.fact ≡ Sends call arrives) (from : s ≤ x.beat) (to : x.beat + 2 * far ≤ l) where
    sending : KubeletSends doc x.beat x.step q call arrives T
    sending = sends_as doc sound rules (suc l) q role x T call arrives at actor fact

    sent_beat : call.sent ≡ x.beat
    sent_beat = ap (λ (c : Call). c.sent) sending.call_is

    r : IsRound doc near far q call arrives x.beat
    r = rounds_in doc rules near far s l q steady one (suc l) x T call arrives at actor fact (omega (arith, sending.late)) from (omega (arith, to)) (λ k n least is most. omega (arith, most, to))

    abbrev y : ℕ
    y = r.comes

    comes : y ≤ l
    comes = omega (arith, r.most, r.comes_most, to)

    low : IsTail (with_events doc s) T
    low = since_low doc s l x T at from sending.late

    up_at : (h : List Entry) → IsTail T h → IsTail h (history doc (suc l)) → alive q.process h ≡ Some q.incarnation
    up_at h since at_h =
        stays_up doc sound rules near far s l q role steady (with_events doc s) h (tail_all (with_events doc s)) (tail_trans (with_events doc s) T h low since) at_h (omega (arith, from, to)) up_first

    on_time : is_late doc q y call ≡ false
    on_time = timely call x.beat y sent_beat from (omega (arith, r.least, r.comes_least)) (omega (arith, r.most, r.comes_most)) (omega (arith, comes, within))

    waits : (h : List Entry) → IsTail h (history doc (suc l)) → IsTail (x ∷ T) h → (call_in q h ≡ Some call) ⊎ IsClosed q call (x ∷ T) h
    waits h high sent = waits_on doc sound rules (suc l) q role call arrives x T at actor fact h high sent

    unstopped : (z : Entry) (h : List Entry) → IsTail (z ∷ h) (history doc (suc l)) → IsTail (x ∷ T) h → z.fact ≡ Stops → has (of_process q.process z.actor) ≡ true → ⊥
    unstopped z h position sent fact own = omega (arith, since, steady.stops z (in_head z h (history doc (suc l)) position) fact own)
      where
        since : s ≤ z.beat
        since =
            ⊎_elim (λ lt. omega (arith, lt, from)) (λ here. omega (arith, here.0, from))
            (below_ordered z h (history doc (suc l)) position (entries_are_ordered doc (suc l)) x (in_tail x (x ∷ T) h sent (inl refl)))

    c : Counts doc rules near far l one q x T call arrives at r comes on_time up_at waits unstopped
    c = counts doc rules near far l one q x T call arrives at r comes on_time up_at waits unstopped

    abbrev reply : Reply
    reply = answer call.request r.before

    abbrev back : Back
    back = record { who = q; call = call; reply = reply; comes = reply_arrival doc q.process r.at r.before }

    abbrev counted_at : List Entry
    counted_at = delivered doc y back c.before

    follows : counted_at ≡ send_next doc y q (next_request doc q y call.request reply) (with_reply y q call reply c.before)
    follows = delivers doc q y call back c.before role refl c.number on_time c.waits

    pub replied : Replied doc near far q call arrives x.beat
    replied = record {
      round = r;
      before = c.before;
      low = c.low;
      waits = c.waits.call_is;
      up = c.waits.up;
      stands =
          tail_trans (with_reply y q call reply c.before) counted_at (step_three doc y (with_answers doc y))
          (subst (IsTail (with_reply y q call reply c.before)) (sym follows) (next_low doc y q (next_request doc q y call.request reply) (with_reply y q call reply c.before))) c.three;
      position = subst (λ g. IsTail g (history doc (suc y))) follows c.position;
    }
