-- A leader that has fallen silent acts on until its last term is over.
use Rattle.std.proofs.Common.{◌≡◌, ◌<◌, ◌≤◌, ℕ, zero, suc, ◌+◌, ◌-◌, ◌*◌, Bool, true, false, ◌∷◌, Option, Some, None, refl, sym, ap, ◌∙◌, subst, inr, ⊎_elim, arith}
use Rattle.std.proofs.lemmas.Bool.{cases_lt}
use Rattle.kube_base.specs.declared.numbers.Version.{Version}
use Rattle.kube_objects.specs.declared.call.Reply.TheVariants.{Done}
use Rattle.kube_objects.specs.Answers.{written}
use Rattle.kube_objects.specs.Document.{Doc, end_beat, retry_period, renew_deadline}
use Rattle.kube_objects.specs.Elector.{succeeds}
use Rattle.kube_objects.specs.Entry.{Identity}
use Rattle.kube_objects.specs.Newest.{or_else, has}
use Rattle.kube_objects.specs.Own.{ReleasesByStop}
use Rattle.kube_objects.specs.Pauses.{is_paused, pause_end, held_up}
use Rattle.kube_objects.specs.Stored.{election, at_key, request_write}
use Rattle.kube_objects.specs.Wire.{arrival, loses_replies, reply_delay, reply_delay_of}
use Rattle.history.specs.History.{history}
use Rattle.history.specs.Safe.{Acts}
use Rattle.history.specs.Sound.{IsSound}
use Rattle.history_laws.specs.Tails.{IsTail}
use Rattle.history_laws.proofs.Plainly.{some_is, none_is, true_is}
use Rattle.history_laws.proofs.Tailed.{tail_all, tail_trans, in_tail, later_tail}
use Rattle.span_laws.specs.Spans.{RunsAtLeast, IsEnough}
use Rattle.span_laws.proofs.Spans.{readings_grow}
use Rattle.call_laws.specs.Answering.{with_events}
use Rattle.call_laws.proofs.Above.{in_head}
use Rattle.call_laws.proofs.Placing.{forces_stand}
use Rattle.takeover_laws.specs.Calm.{IsQuiet, WritesElection}
use Rattle.calm_laws.proofs.Origins.{Origin, origin}
use Rattle.stay_laws.proofs.Succeeded.{success_is}
use Rattle.silence_laws.specs.Silence.{LeadsUntil}
use Rattle.silence_laws.proofs.Looking.{asks_election}
use Rattle.succession_laws.specs.Successions.{Hears, LeadersActOn}
use Rattle.calm_laws.proofs.Replies.{wrote_by}
use Rattle.silence_laws.proofs.Renewed.{done_of}
use Rattle.silence_laws.proofs.Setting.{request_way, own_process}
use Rattle.silence_laws.proofs.Ways.{IsWay}
use Rattle.succession_laws.proofs.Setting.{its_call_sent}
use Rattle.settle_laws.proofs.Terms.{SucceedsBy, none_acts}

-- when a reply comes that isn't lost, where its receiver isn't paused then
comes_then : (doc : Doc) (p k delay y : ℕ) (lost : Bool) → held_up doc p (arrival lost k delay) ≡ Some y → is_paused doc p (k + delay) ≡ false → y ≡ k + delay
comes_then doc p k delay y true is awake = absurd (none_is y is)
comes_then doc p k delay y false is awake = some_is y (k + delay) (sym is ∙ ap Some (by_end (pause_end doc p (k + delay)) awake))
  where
    by_end : (o : Option ℕ) → has o ≡ false → or_else (k + delay) o ≡ k + delay
    by_end None awake = refl
    by_end (Some j) awake = absurd (true_is awake)

module _ (doc : Doc) (near far b e : ℕ) (q : Identity) (sound : IsSound doc) (rules : ReleasesByStop doc) (one : 1 ≤ near) (ways : near ≤ far) (end : e ≤ end_beat doc) (waits : 1 ≤ retry_period doc q.process)
    (l : LeadsUntil doc near far b e q) (quiet : IsQuiet doc b e q.process) (hears : Hears doc far b e q.process)
    (slow lasting : ℕ) (runs : RunsAtLeast doc q.process b e slow) (is_enough : IsEnough slow (retry_period doc q.process + renew_deadline doc q.process) lasting) where
  some_way : 1 ≤ far
  some_way = omega (arith, one, ways)

  some_b : 1 ≤ b
  some_b = omega (arith, l.long, some_way)

  awake : (k : ℕ) → 0 ≤ k → k ≤ e → is_paused doc q.process k ≡ false
  awake k from to = ⊎_elim (λ lt. (l.steady.passes k (omega arith) (omega (arith, lt))).awake) (λ le. hears.awake k le to) (cases_lt k b)

  delay_most : (k : ℕ) → k ≤ e → reply_delay q.process (with_events doc k) ≤ far
  delay_most k to = ⊎_elim (λ lt. (l.steady.passes k (omega arith) (omega (arith, lt))).reply_most) (λ le. hears.replies k le to) (cases_lt k b)

  -- each success comes less than two ways after b
  abbrev last : ℕ
  last = b + 2 * far - 1

  module _ (n : ℕ) (within : n ≤ e) (room : last ≤ n) where
    success_by : SucceedsBy doc n q last
    success_by x T w reply at step actor fact so = ⊎_elim soon (λ le. late le) (cases_lt x.beat (suc last))
      where
        soon : x.beat < suc last → x.beat ≤ last
        soon lt = omega (arith, lt)

        o : Origin doc q w reply T x.beat
        o = origin doc rules (suc n) q x T w reply at actor fact

        high : IsTail T (history doc (suc n))
        high = tail_trans T (x ∷ T) (history doc (suc n)) (inr (tail_all T)) at

        e_high : IsTail (o.e ∷ o.low) (history doc (suc n))
        e_high = tail_trans (o.e ∷ o.low) T (history doc (suc n)) o.answered high

        f_high : IsTail (o.begun.f ∷ o.begun.before) (history doc (suc n))
        f_high = tail_trans (o.begun.f ∷ o.begun.before) T (history doc (suc n)) o.begun.position high

        sent : w.sent ≡ o.begun.f.beat
        sent = its_call_sent doc rules (suc n) o.begun.f o.begun.before q w o.begun.arrives f_high o.begun.actor o.begun.fact

        done : (version : Version) × (reply ≡ Done version)
        done = done_of w.request reply so

        wrote : has (at_key election (request_write w.request (written w.request o.low))) ≡ true
        wrote =
            wrote_by w.request o.low done.0 (success_is w.request done.0 (ap (succeeds w.request) (sym done.1) ∙ so)).write
            (asks_election doc sound rules n (omega (arith, within, end)) q l.role o.begun.f w o.begun.arrives (in_head o.begun.f o.begun.before (history doc (suc n)) f_high) o.begun.actor o.begun.fact)
            (sym o.reply_is ∙ done.1)

        early : w.sent < b
        early = ⊎_elim (λ lt. lt) (λ le. absurd (silent le)) (cases_lt w.sent b)
          where
            silent : b ≤ w.sent → ⊥
            silent le =
                quiet o.e (in_tail o.e (history doc (suc n)) (history doc (suc e)) (later_tail doc (suc n) (suc e) (omega (arith, within))) (in_head o.e o.low (history doc (suc n)) e_high)) (own_process q o.e.actor o.actor)
                (subst (WritesElection b) (sym o.fact) (le, wrote))

        way : IsWay near far o.begun.f.beat o.e.beat
        way =
            request_way doc rules near far (b - 1) q.process l.steady (suc n) o.begun.f o.begun.before q w o.begun.arrives f_high l.role refl o.begun.actor o.begun.fact (omega (arith, early, sent)) o.e.beat o.arrives
            (λ j low high soon. l.goes j (omega (arith, soon, early, sent, room, some_way, within)))

        e_upto : o.e.beat ≤ n
        e_upto = omega (arith, way.most, early, sent, room, some_way)

        delay : reply_delay q.process o.low ≡ reply_delay q.process (with_events doc o.e.beat)
        delay = ap (or_else 1) ((forces_stand doc rules (suc n) o.e o.low e_high (omega (arith, o.step))).0 (reply_delay_of q.process))

        late : suc last ≤ x.beat → x.beat ≤ last
        late le =
            absurd (omega (
              arith,
              comes_then doc q.process o.e.beat (reply_delay q.process o.low) x.beat (loses_replies q.process o.low) o.comes_is (awake (o.e.beat + reply_delay q.process o.low) (omega arith) (omega (arith, most, way.most, early, sent, room, within))),
              most,
              way.most,
              early,
              sent,
              le,
            ))
          where
            most : reply_delay q.process o.low ≤ far
            most = omega (arith, delay, delay_most o.e.beat (omega (arith, e_upto, within)))

  some_lasting : 1 ≤ lasting
  some_lasting = by_beats lasting is_enough
    where
      by_beats : (m : ℕ) → retry_period doc q.process + renew_deadline doc q.process ≤ m * slow → 1 ≤ m
      by_beats zero le = absurd (omega (arith, le, waits))
      by_beats (suc m) le = omega arith

  pub acts_until : (k : ℕ) → k ≤ e → Acts doc q k → k + 2 ≤ b + 2 * far + lasting
  acts_until k to acting = ⊎_elim (λ lt. absurd (over lt)) (λ le. le) (cases_lt (b + 2 * far + lasting) (k + 2))
    where
      over : b + 2 * far + lasting < k + 2 → ⊥
      over lt =
          none_acts doc rules 0 e k end to q l.role awake last (last + lasting) (omega arith) (omega (arith, some_lasting)) (omega (arith, lt, some_way))
          (readings_grow doc q.process b e slow (retry_period doc q.process + renew_deadline doc q.process) lasting runs is_enough last (last + lasting) (omega (arith, some_way)) (omega arith) (omega (arith, lt, to, some_way)))
          (success_by k to (omega (arith, lt, some_way))) k (omega (arith, lt, some_way)) (omega arith) acting

-- ---- the law

pub leaders_act_on : LeadersActOn
leaders_act_on doc near far b e q sound rules one ways end waits l quiet hears slow lasting runs is_enough = acts_until doc near far b e q sound rules one ways end waits l quiet hears slow lasting runs is_enough
