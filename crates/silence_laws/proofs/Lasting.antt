-- For how long nobody else comes to lead after a leader has fallen silent.
use Rattle.std.proofs.Common.{◌≡◌, ◌<◌, ◌≤◌, ℕ, suc, ◌+◌, ◌-◌, ◌*◌, true, ◌∷◌, Some, refl, sym, ap, ◌∙◌, inl, inr, ⊎_elim, arith}
use Rattle.std.specs.Int.{div_ceil}
use Rattle.kube_objects.specs.Document.{Doc, is_controller}
use Rattle.kube_objects.specs.Entry.{Entry, Identity, Stops}
use Rattle.kube_objects.specs.Identities.{of_process}
use Rattle.kube_objects.specs.Newest.{has}
use Rattle.history.specs.History.{history}
use Rattle.history_laws.specs.Tails.{In, IsTail}
use Rattle.history_laws.proofs.Tailed.{tail_all, tail_trans, later_tail, same_head}
use Rattle.takeover_laws.specs.Waits.{longest_wait, shortest_wait, blocked_for}
use Rattle.call_laws.proofs.Placing.{in_own_beat}
use Rattle.call_laws.proofs.Starting.{actor_is}
use Rattle.takeover_laws.specs.Calm.{IsSteady, IsQuiet}
use Rattle.calm_laws.proofs.Origins.{Origin}
use Rattle.stay_laws.proofs.Won.{Won}
use Rattle.span_laws.proofs.Quotients.{rounded_is, bounds_are_exact}
use Rattle.silence_laws.specs.Least.{last_renewal, IsLead, TakesAtLeast, RunsWithin, SilencesLast, SilencesAreTold}
use Rattle.silence_laws.specs.Silence.{LeadsUntil, Bears, ActsAlone}
use Rattle.silence_laws.proofs.Chain.{opens_of}
use Rattle.silence_laws.proofs.Lasted.{taken_late}
use Rattle.silence_laws.proofs.Leading.{ItsWrite, its_write}
use Rattle.silence_laws.proofs.Leading as leading
use Rattle.silence_laws.proofs.Owning.{IsForeign, own_or_foreign, sent_early}
use Rattle.silence_laws.proofs.Recent.{recent, recent_enough}
use Rattle.silence_laws.proofs.Rival.{w, elsewhere}
use Rattle.silence_laws.proofs.Taken.{first, first_low, long_after, sent_before}
use Rattle.silence_laws.proofs.Waiting.{beats_rise}
use Rattle.silence_laws.proofs.Ways.{IsWay, sent_at, request_way, reply_way, beat_before}

module _ (doc : Doc) (near far b e : ℕ) (q : Identity) (l : LeadsUntil doc near far b e q) (s : Bears doc near far b e q) (alone : ActsAlone doc near far b q) (quiet : IsQuiet doc b e q.process) (k : ℕ) (lead : IsLead doc b e q k) where
  abbrev its : ItsWrite doc near far b e q l s k lead
  its = its_write doc near far b e q l s k lead

  abbrev o : Origin doc lead.c its.led.call its.led.reply its.led.before lead.x.beat
  o = its.o

  abbrev w0 : Won doc o.e o.low
  w0 = its.w

  steady : IsSteady doc near far 0 (b - 1) lead.c.process
  steady = leading.steady doc near far b e q l s k lead

  first_below : IsTail (first doc near far b e q l s (history doc (suc e)) (tail_all (history doc (suc e))) quiet) o.low
  first_below = first_low doc near far b e q l s (history doc (suc e)) (tail_all (history doc (suc e))) quiet o.e o.low its.o_e (omega (arith, its.late))

  -- so somebody wrote first
  found : IsForeign doc near far b e q l s (history doc (suc e)) (tail_all (history doc (suc e))) quiet (first doc near far b e q l s (history doc (suc e)) (tail_all (history doc (suc e))) quiet) (o.e ∷ o.low)
  found = ⊎_elim (λ all. absurd (lead.other (actor_is lead.c q (sym o.actor ∙ all o.e o.low (inl refl) first_below its.writes)))) (λ f. f) (own_or_foreign doc near far b e q l s (history doc (suc e)) (tail_all (history doc (suc e))) quiet (first doc near far b e q l s (history doc (suc e)) (tail_all (history doc (suc e))) quiet) (o.e ∷ o.low) (inr first_below))

  abbrev f : IsForeign doc near far b e q l s (history doc (suc e)) (tail_all (history doc (suc e))) quiet (first doc near far b e q l s (history doc (suc e)) (tail_all (history doc (suc e))) quiet) (history doc (suc e))
  f = record {
    x = found.x;
    before = found.before;
    position = tail_trans (found.x ∷ found.before) (o.e ∷ o.low) (history doc (suc e)) found.position its.o_e;
    since = found.since;
    writes = found.writes;
    other = found.other;
    own = found.own;
  }

  no_later : f.x.beat ≤ o.e.beat
  no_later = by_place found.position
    where
      by_place : IsTail (found.x ∷ found.before) (o.e ∷ o.low) → f.x.beat ≤ o.e.beat
      by_place (inl same) = omega (arith, ap (λ (x : Entry). x.beat) (same_head found.x o.e found.before o.low same))
      by_place (inr low) = beats_rise doc e o.e o.low its.o_e found.x found.before low

  -- and it isn't the leader's process that leads again
  other_process : lead.c.process ≡ q.process → ⊥
  other_process same =
      omega (
        arith,
        way.most,
        early,
        sent,
        no_later,
        long_after doc near far b e q l s (history doc (suc e)) (tail_all (history doc (suc e))) quiet f,
        sent_before doc near far b e q l s (history doc (suc e)) (tail_all (history doc (suc e))) quiet f,
        recent doc near far b e q l s (history doc (suc e)) (tail_all (history doc (suc e))) quiet f,
        s.one,
        s.ways,
      )
    where
      early : w0.call.sent < b
      early = sent_early doc near far b e q l s (history doc (suc e)) (tail_all (history doc (suc e))) quiet o.e o.low its.o_e w0 its.writes (ap (λ (p : Identity). p.process) its.whose ∙ same)

      sent : w0.call.sent ≡ w0.f.beat
      sent = sent_at doc s.rules (suc e) w0.who w0.f w0.low w0.call (Some o.e.beat) its.asked_e w0.f_actor w0.f_fact

      asked_b : IsTail (w0.f ∷ w0.low) (history doc (suc (b - 1)))
      asked_b = tail_trans (w0.f ∷ w0.low) (history doc (suc w0.f.beat)) (history doc (suc (b - 1))) (in_own_beat doc (suc e) w0.f w0.low its.asked_e) (later_tail doc (suc w0.f.beat) (suc (b - 1)) (omega (arith, early, sent)))

      unstopped : (x : Entry) → In x (history doc (suc (b - 1))) → x.fact ≡ Stops → has (of_process lead.c.process x.actor) ≡ true → ⊥
      unstopped x stands fact own = never (steady.stops x stands fact own)
        where
          never : x.beat < 0 → ⊥
          never lt = omega (arith, lt)

      way : IsWay near far w0.f.beat o.e.beat
      way =
          request_way doc s.rules near far (b - 1) lead.c its.role steady w0.f w0.low w0.call o.e.beat asked_b its.f_actor w0.f_fact (opens_of doc s.rules (b - 1) lead.c its.role unstopped w0.f w0.low w0.call (Some o.e.beat) asked_b its.f_actor w0.f_fact)
          (λ j low high soon. l.goes j (omega (arith, high, beat_before doc e o.e o.low its.o_e)))

  -- ---- the number of beats

  pub lasts : (least : ℕ) → ((p : ℕ) → is_controller doc p ≡ true → (p ≡ q.process → ⊥) → TakesAtLeast doc near far e p (blocked_for doc p q.process) least) → b + least + 3 * near ≤ k + s.renews.wait + last_renewal doc far
  lasts least takes =
      omega (
        arith,
        lead.at,
        recent_enough doc near far b e q l s (history doc (suc e)) (tail_all (history doc (suc e))) quiet f,
        taken_late doc near far b e q l s (history doc (suc e)) (tail_all (history doc (suc e))) quiet f alone least (takes (w doc near far b e q l s (history doc (suc e)) (tail_all (history doc (suc e))) quiet f).who.process (w doc near far b e q l s (history doc (suc e)) (tail_all (history doc (suc e))) quiet f).role (elsewhere doc near far b e q l s (history doc (suc e)) (tail_all (history doc (suc e))) quiet f)),
        no_later,
        way.least,
      )
    where
      way : IsWay near far o.e.beat lead.x.beat
      way = reply_way doc s.rules near far e lead.c its.role (l.others lead.c.process its.role other_process) o.e o.low its.o_e o.step lead.x.beat (leading.k_e doc near far b e q l s k lead) o.comes_is

-- ---- the laws

pub silences_last : SilencesLast
silences_last doc near far b e q l s alone quiet least takes k lead = lasts doc near far b e q l s alone quiet k lead least takes

pub silences_are_told : SilencesAreTold
silences_are_told doc near far b e q l s alone quiet slow fast runs least bound k lead = lasts doc near far b e q l s alone quiet k lead least takes
  where
    some_beats : 1 ≤ e
    some_beats = omega (arith, l.long, l.within, s.one, s.ways)

    takes : (p : ℕ) → is_controller doc p ≡ true → (p ≡ q.process → ⊥) → TakesAtLeast doc near far e p (blocked_for doc p q.process) least
    takes p role other = record {
      slow = slow p;
      fast = fast p;
      wait = div_ceil (longest_wait doc p) (slow p);
      needed = div_ceil (shortest_wait doc p) (fast p);
      lasting = div_ceil (blocked_for doc p q.process) (fast p);
      runs_least = within.least;
      runs_most = within.most;
      wait_is = (rounded_is (slow p) (longest_wait doc p) within.some).0;
      needed_is = (rounded_is (fast p) (shortest_wait doc p) some_fast).1;
      lasting_is = (rounded_is (fast p) (blocked_for doc p q.process) some_fast).1;
      least_is = λ beats is. omega (arith, bound p role other, ((bounds_are_exact (div_ceil (shortest_wait doc p) (fast p) + 2 * near) (div_ceil (longest_wait doc p) (slow p) + 2 * far) (div_ceil (blocked_for doc p q.process) (fast p))).1 (omega (arith, s.one, s.ways))).1 beats is);
    }
      where
        within : RunsWithin doc e p (slow p) (fast p)
        within = runs p role other

        some_fast : 1 ≤ fast p
        some_fast = omega (arith, within.some, within.least 0 (omega arith) some_beats, within.most 0 (omega arith) some_beats)
