-- Another controller's call: the Get that a write of it follows, its round, and the success by which it first leads.
use Rattle.std.proofs.Common.{◌≡◌, ◌<◌, ◌≤◌, ℕ, zero, suc, ◌+◌, ◌*◌, Bool, true, false, cond, List, ◌∷◌, Option, Some, refl, sym, ap, ◌∙◌, subst, inr, ⊎_elim, arith}
use Rattle.std.proofs.lemmas.Bool.{cases_lt}
use Rattle.kube_objects.specs.declared.call.Reply.{Reply}
use Rattle.kube_objects.specs.declared.call.Reply.TheVariants.{Done}
use Rattle.kube_objects.specs.declared.call.Request.{Request}
use Rattle.kube_objects.specs.declared.call.Request.TheVariants.{Get, Update}
use Rattle.kube_objects.specs.declared.key.Key.{Key}
use Rattle.kube_objects.specs.declared.lease.Lease.{Lease}
use Rattle.kube_objects.specs.declared.object.Object.TheVariants as object
use Rattle.kube_objects.specs.Answers.{lease_in, versioned, as_kind, answer_get, answer, written}
use Rattle.kube_objects.specs.Document.{Doc, is_controller}
use Rattle.kube_objects.specs.Elector.{Moment, moment, Fails, Asks, is_blocked, updated, follow_get, follow, follow_on, leads, observed_at, respected}
use Rattle.kube_objects.specs.Entry.{Entry, Identity, Call, Answers, Sends, Delivers, actor_of, entry}
use Rattle.kube_objects.specs.Stored.{Held, election, key_of}
use Rattle.kube_objects.specs.Wire.{reply_arrival}
use Rattle.history.specs.History.{history}
use Rattle.history_laws.specs.Tails.{IsTail}
use Rattle.history_laws.proofs.Tailed.{tail_all, tail_trans, later_tail}
use Rattle.span_laws.specs.Spans.{IsEnough}
use Rattle.call_laws.proofs.Above.{in_head}
use Rattle.call_laws.proofs.Placing.{in_own_beat}
use Rattle.takeover_laws.specs.Calm.{IsSteady, IsInTime}
use Rattle.takeover_laws.specs.Rounds.{IsRound}
use Rattle.takeover_laws.specs.Taking.{FitsStored}
use Rattle.takeover_laws.proofs.Rounds.{rounds_in}
use Rattle.takeover_laws.proofs.Writers.{Sending, sending_of}
use Rattle.calm_laws.proofs.Asked.{IsWrite, IsNext, next_is, asks_same, fails_not, Reason, InTurn, AfterReply, reason_of}
use Rattle.calm_laws.proofs.Origins.{Origin, origin}
use Rattle.stay_laws.specs.Stays.{HasSuccess}
use Rattle.stay_laws.proofs.Succeeded.{success_is}
use Rattle.silence_laws.specs.Silence.{LeadsUntil, Bears}
use Rattle.silence_laws.proofs.Led.{HasLed, leads_led}
use Rattle.silence_laws.proofs.Looking.{asks_election}
use Rattle.silence_laws.proofs.Ways.{IsWay, Went, beat_before, reply_way, sent_beat, went}
use Rattle.succession_laws.proofs.Blocking.{blocked}
use Rattle.succession_laws.proofs.Records.{OfIt}
use Rattle.succession_laws.proofs.Timely.{first, first_low, timely}

-- a write that follows a Get that showed what is stored fits it
fits_of : (q : Identity) (m : Moment) (seen : ℕ) (y : Held) (lease : Lease) (r : Request) → y.object ≡ object.Lease lease → follow_get q m seen (answer_get (as_kind lease_in (Some y))) ≡ Asks r → FitsStored (Some y) r
fits_of q m seen y lease r object_is is = by_test (is_blocked q m.now seen (respected m.respect m.seconds lease)) (ap (λ o. follow_get q m seen (answer_get (versioned y.version (lease_in o)))) (sym object_is) ∙ is)
  where
    by_test : (b : Bool) → cond b Fails (Asks (Update election y.version (updated q m lease))) ≡ Asks r → FitsStored (Some y) r
    by_test true is = absurd (fails_not r is)
    by_test false is = subst (FitsStored (Some y)) (asks_same (Update election y.version (updated q m lease)) r is) (refl, refl)

no_get : (r : Request) (key : Key) → r ≡ Get key → IsWrite r → ⊥
no_get r key is write = subst IsWrite is write

-- beats that are enough for some time are some
pub some_beats : (slow time beats : ℕ) → IsEnough slow time beats → 1 ≤ time → 1 ≤ beats
some_beats slow time zero enough some = absurd (omega (arith, enough, some))
some_beats slow time (suc beats) enough some = omega arith

module _ (doc : Doc) (near far b e : ℕ) (q : Identity) (l : LeadsUntil doc near far b e q) (s : Bears doc near far b e q) (c : Identity) (role : is_controller doc c.process ≡ true) (other : c.process ≡ q.process → ⊥) where
  steady : IsSteady doc near far 0 e c.process
  steady = l.others c.process role other

  my_time : IsInTime doc far 0 e c.process
  my_time = s.calls c.process role

  -- its Get that was answered before one way after b, over a record of the leader, fails
  get_fails : (r : ℕ) (w : Call) (reply : Reply) (T : List Entry) → w.request ≡ Get election → IsTail (entry r 3 c (Delivers w reply true) ∷ T) (history doc (suc e))
      → (o : Origin doc c w reply T r) → o.e.beat < b + far → b ≤ o.e.beat + 3 * far
      → (IsTail (o.e ∷ o.low) (history doc (suc e)) → IsTail ((first doc near far b e q l s).e ∷ (first doc near far b e q l s).low) o.low → OfIt doc q o.low)
      → follow_on doc c r w.kind w.request reply (entry r 3 c (Delivers w reply true) ∷ T) ≡ Fails
  get_fails r w reply T get at o early late stands =
      blocked doc near far b e q l s c role other r upto w reply T get at o of.y of.top of.who of.mine of.by of.lease of.object of.holder of.duration
      (omega (arith, way.most, timely doc near far b e q l s o.e.beat by early o.e o.low e_own step low of))
    where
      upto : r ≤ e
      upto = beat_before doc e (entry r 3 c (Delivers w reply true)) T at

      e_at : IsTail (o.e ∷ o.low) (history doc (suc e))
      e_at = tail_trans (o.e ∷ o.low) T (history doc (suc e)) o.answered (tail_trans T _ (history doc (suc e)) (inr (tail_all T)) at)

      e_own : IsTail (o.e ∷ o.low) (history doc (suc o.e.beat))
      e_own = in_own_beat doc (suc e) o.e o.low e_at

      by : o.e.beat ≤ e
      by = beat_before doc e o.e o.low e_at

      step : 1 ≤ o.e.step
      step = omega (arith, o.step)

      low : IsTail ((first doc near far b e q l s).e ∷ (first doc near far b e q l s).low) o.low
      low = first_low doc near far b e q l s o.e.beat o.e o.low e_own step late (omega arith)

      of : OfIt doc q o.low
      of = stands e_at low

      way : IsWay near far o.e.beat r
      way = reply_way doc s.rules near far e c role steady o.e o.low e_at o.step r upto o.comes_is

  -- ---- a write follows a Get, whose reply counted just before

  pub record AfterGet (x : Entry) (T : List Entry) (request : Request) : Type 0 where
    pub waiting : Call
    pub reply : Reply
    pub before : List Entry
    pub get : waiting.request ≡ Get election
    pub o : Origin doc c waiting reply before x.beat
    pub is : T ≡ entry x.beat 3 c (Delivers waiting reply true) ∷ before
    pub below : IsTail before T
    pub counts : IsTail (entry x.beat 3 c (Delivers waiting reply true) ∷ before) (history doc (suc e))
    pub answered : IsTail (o.e ∷ o.low) (history doc (suc e))
    pub way : IsWay near far o.e.beat x.beat
    pub follows : follow_on doc c x.beat waiting.kind waiting.request reply T ≡ Asks request
    pub step : 3 ≤ x.step

  pub after_get : (x : Entry) (T : List Entry) (call : Call) (arrives : Option ℕ) → IsTail (x ∷ T) (history doc (suc e)) → x.actor ≡ actor_of c → x.fact ≡ Sends call arrives → leads c T ≡ false → IsWrite call.request → AfterGet x T call.request
  after_get x T call arrives at actor fact unled write = by_reason reason.0
    where
      sending : Sending doc 0 e c call arrives
      sending = (sending_of doc s.rules near far 0 e e c role steady my_time (omega arith) s.one call arrives x T at actor fact (omega arith)).0

      reason : Reason doc x.beat c call.request T × (3 ≤ x.step)
      reason = reason_of doc s.rules (suc e) c role x T call arrives at actor fact unled sending.opens

      by_reason : Reason doc x.beat c call.request T → AfterGet x T call.request
      by_reason (InTurn get) = absurd (no_get call.request election get write)
      by_reason (AfterReply f) = record {
        waiting = f.waiting;
        reply = f.reply;
        before = f.before;
        get = (next.written write).1 ∙ ap Get (sym (ap key_of (next.written write).1) ∙ key);
        o = o;
        is = f.is;
        below = subst (IsTail f.before) (sym f.is) (inr (tail_all f.before));
        counts = at_low;
        answered = e_at;
        way = reply_way doc s.rules near far e c role steady o.e o.low e_at o.step x.beat (beat_before doc e x T at) o.comes_is;
        follows = f.follows;
        step = reason.1;
      }
        where
          low : List Entry
          low = entry x.beat 3 c (Delivers f.waiting f.reply true) ∷ f.before

          at_low : IsTail low (history doc (suc e))
          at_low = subst (λ g. IsTail g (history doc (suc e))) f.is (tail_trans T (x ∷ T) (history doc (suc e)) (inr (tail_all T)) at)

          o : Origin doc c f.waiting f.reply f.before x.beat
          o = origin doc s.rules (suc e) c (entry x.beat 3 c (Delivers f.waiting f.reply true)) f.before f.waiting f.reply at_low refl refl

          high : IsTail f.before (history doc (suc e))
          high = tail_trans f.before low (history doc (suc e)) (inr (tail_all f.before)) at_low

          next : IsNext f.waiting.request call.request
          next = next_is c (moment doc c x.beat) (observed_at doc c T) f.waiting.kind f.waiting.request f.reply call.request f.follows

          key : key_of f.waiting.request ≡ election
          key =
              asks_election doc s.sound s.rules e s.end c role o.begun.f f.waiting o.begun.arrives
              (in_head o.begun.f o.begun.before (history doc (suc e)) (tail_trans (o.begun.f ∷ o.begun.before) f.before (history doc (suc e)) o.begun.position high)) o.begun.actor o.begun.fact

          e_at : IsTail (o.e ∷ o.low) (history doc (suc e))
          e_at = tail_trans (o.e ∷ o.low) f.before (history doc (suc e)) o.answered high

  module _ (x : Entry) (T : List Entry) (request : Request) (f : AfterGet x T request) where
    -- so the Get wasn't answered before one way after b, over a record of the leader
    pub none_early : b ≤ x.beat + 2 * far → f.o.e.beat < b + far
        → (IsTail (f.o.e ∷ f.o.low) (history doc (suc e)) → IsTail ((first doc near far b e q l s).e ∷ (first doc near far b e q l s).low) f.o.low → OfIt doc q f.o.low) → ⊥
    none_early since early stands =
        fails_not request (sym (get_fails x.beat f.waiting f.reply f.before f.get f.counts f.o early (omega (arith, f.way.most, since)) stands)
        ∙ ap (follow_on doc c x.beat f.waiting.kind f.waiting.request f.reply) (sym f.is) ∙ f.follows)

    -- and where it showed what is stored, the write fits that
    pub get_fits : (y : Held) (lease : Lease) → y.object ≡ object.Lease lease → f.reply ≡ answer_get (as_kind lease_in (Some y)) → FitsStored (Some y) request
    get_fits y lease object_is shows =
        fits_of c (moment doc c x.beat) (observed_at doc c T) y lease request object_is
        (ap (λ reply. follow_get c (moment doc c x.beat) (observed_at doc c T) reply) (sym shows)
        ∙ ap (λ request. follow c (moment doc c x.beat) (observed_at doc c T) f.waiting.kind request f.reply) (sym f.get) ∙ f.follows)

  -- ---- a call goes its round

  abbrev pub answer_entry : (call : Call) (k : ℕ) (before : List Entry) → Entry
  answer_entry call k before = entry k 2 c (Answers call (answer call.request before) (reply_arrival doc c.process k before) (written call.request before))

  pub record GoesRound (n : ℕ) (call : Call) (arrives : Option ℕ) (j : ℕ) : Type 0 where
    pub r : IsRound doc near far c call arrives j
    pub answered : IsTail (answer_entry call r.at r.before ∷ r.before) (history doc (suc n))

  pub goes_round : (n : ℕ) → n ≤ e → (x : Entry) (T : List Entry) (call : Call) (arrives : Option ℕ) → IsTail (x ∷ T) (history doc (suc n)) → x.actor ≡ actor_of c → x.fact ≡ Sends call arrives → 3 ≤ x.step → x.beat + 2 * far ≤ n
      → GoesRound n call arrives x.beat
  goes_round n within x T call arrives at actor fact step soon = record { r = r; answered = tail_trans (answer_entry call r.at r.before ∷ r.before) (history doc (suc r.at)) (history doc (suc n)) r.position (later_tail doc (suc r.at) (suc n) (omega (arith, r.most, soon))) }
    where
      r : IsRound doc near far c call arrives x.beat
      r = rounds_in doc s.rules near far 0 e c steady s.one (suc n) x T call arrives at actor fact (omega (arith, step)) (omega arith) (omega (arith, soon, within)) (λ k n least is most. omega (arith, most, soon, within))

  -- ---- the success by which it first leads

  pub unled : (k : ℕ) → ((j : ℕ) → HasSuccess doc c 0 j → j ≤ k → ⊥) → (h : List Entry) → IsTail h (history doc (suc k)) → leads c h ≡ false
  unled k none h at = by_test (leads c h) refl
    where
      by_test : (t : Bool) → leads c h ≡ t → leads c h ≡ false
      by_test false is = is
      by_test true is = let led : HasLed doc c k = leads_led doc s.rules c k h at is in absurd (none led.j led.success led.to)

  -- it is by a call of beat t or later, where no success is sooner and no write that is sent sooner has one
  pub succeeds_since : (t k : ℕ) → t ≤ suc k → ((j : ℕ) → HasSuccess doc c 0 j → j ≤ k → ⊥)
      → ((x : Entry) (T : List Entry) (request : Request) → AfterGet x T request → x.beat < t → t ≤ x.beat + 2 * far → ⊥)
      → (j : ℕ) → HasSuccess doc c 0 j → j ≤ e → HasSuccess doc c t j
  succeeds_since t k next none sooner j hs within = record { call = hs.call; version = hs.version; before = hs.before; position = hs.position; since = since; success = hs.success }
    where
      o : Origin doc c hs.call (Done hs.version) hs.before j
      o = origin doc s.rules (suc j) c (entry j 3 c (Delivers hs.call (Done hs.version) true)) hs.before hs.call (Done hs.version) hs.position refl refl

      high : IsTail hs.before (history doc (suc e))
      high =
          tail_trans hs.before (entry j 3 c (Delivers hs.call (Done hs.version) true) ∷ hs.before) (history doc (suc e)) (inr (tail_all hs.before))
          (tail_trans (entry j 3 c (Delivers hs.call (Done hs.version) true) ∷ hs.before) (history doc (suc j)) (history doc (suc e)) hs.position (later_tail doc (suc j) (suc e) (omega (arith, within))))

      f_high : IsTail (o.begun.f ∷ o.begun.before) (history doc (suc e))
      f_high = tail_trans (o.begun.f ∷ o.begun.before) hs.before (history doc (suc e)) o.begun.position high

      sent : hs.call.sent ≡ o.begun.f.beat
      sent = sent_beat doc s.rules near far e c role steady o.begun.f o.begun.before hs.call o.begun.arrives f_high o.begun.actor o.begun.fact

      ways : Went doc s.rules near far e c role steady o.begun.f.beat o.e.beat j
      ways = went doc s.rules near far e c role steady hs.call (Done hs.version) hs.before j o high within

      early : hs.call.sent < t → ⊥
      early lt =
          sooner o.begun.f o.begun.before hs.call.request
          (after_get o.begun.f o.begun.before hs.call o.begun.arrives f_high o.begun.actor o.begun.fact
          (unled k none o.begun.before (tail_trans o.begun.before (o.begun.f ∷ o.begun.before) (history doc (suc k)) (inr (tail_all o.begun.before))
          (tail_trans (o.begun.f ∷ o.begun.before) (history doc (suc o.begun.f.beat)) (history doc (suc k)) (in_own_beat doc (suc e) o.begun.f o.begun.before f_high) (later_tail doc (suc o.begun.f.beat) (suc k) (omega (arith, lt, sent, next))))))
          (success_is hs.call.request hs.version hs.success).write)
          (omega (arith, lt, sent)) (⊎_elim (λ lt. absurd (none j hs (omega (arith, lt, next)))) (λ le. omega (arith, le, ways.request.most, ways.reply.most)) (cases_lt j t))

      since : t ≤ hs.call.sent
      since = ⊎_elim (λ lt. absurd (early lt)) (λ le. le) (cases_lt hs.call.sent t)
