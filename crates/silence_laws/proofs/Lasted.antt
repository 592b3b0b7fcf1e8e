-- The first write of somebody else after a leader has fallen silent comes no sooner than the looks at the leader's record take.
use Rattle.std.proofs.Common.{◌≡◌, ◌<◌, ◌≤◌, ℕ, zero, suc, ◌+◌, ◌-◌, ◌*◌, true, false, List, ◌∷◌, Option, Some, None, refl, sym, ap, ◌∙◌, subst, inr, ⊎_elim, arith}
use Rattle.std.proofs.lemmas.Bool.{cases_lt}
use Rattle.kube_objects.specs.declared.call.Reply.TheVariants.{Done, Found}
use Rattle.kube_objects.specs.Clocks.{local}
use Rattle.kube_objects.specs.Document.{Doc, lease_seconds}
use Rattle.kube_objects.specs.Elector.{leads, deadline, is_before, is_blocked, respected, observed_at}
use Rattle.kube_objects.specs.Entry.{Entry, Identity, Stops, Ends, Delivers, entry}
use Rattle.kube_objects.specs.Identities.{of_process}
use Rattle.kube_objects.specs.Newest.{join, has}
use Rattle.kube_objects.specs.Process.{alive, life_says, life, gone, is_present}
use Rattle.kube_objects.specs.Stored.{election, at_key, write_of}
use Rattle.history.specs.History.{history, at_turn}
use Rattle.history.specs.Premise.{lease_premise}
use Rattle.history.specs.Safe.{Acts, IsHeldBy, IsStoredHolder}
use Rattle.history_laws.specs.Tails.{In, IsTail}
use Rattle.history_laws.proofs.Plainly.{upper, none_is, true_is, false_is, and_right}
use Rattle.history_laws.proofs.Tailed.{tail_all, tail_trans, later_tail, turn_tail, before_turn}
use Rattle.lease_laws.proofs.Claims.{is_holder, same_holder, term_of}
use Rattle.lease_laws.proofs.Premises.{premise_from}
use Rattle.lease_laws.specs.Respects.{respected_time}
use Rattle.takeover_laws.specs.Waits.{longest_wait, blocked_for}
use Rattle.takeover_laws.proofs.Waits.{blocked_time}
use Rattle.span_laws.specs.Spans.{IsNeeded}
use Rattle.call_laws.proofs.Above.{place_of, in_head}
use Rattle.call_laws.proofs.Making.{MadeAs, MadeEnd, are_made}
use Rattle.call_laws.proofs.Placing.{in_own_beat, not_before}
use Rattle.call_laws.proofs.Starting.{actor_is}
use Rattle.call_laws.proofs.Sending.{is_free}
use Rattle.takeover_laws.specs.Calm.{IsSteady}
use Rattle.takeover_laws.proofs.Fresh.{turn_leads}
use Rattle.takeover_laws.proofs.Standing.{controllers_first}
use Rattle.calm_laws.proofs.Life.{up_between, never_led}
use Rattle.calm_laws.proofs.Origins.{Origin, origin}
use Rattle.calm_laws.proofs.Replies.{wrote_by}
use Rattle.stay_laws.specs.Stays.{HasSuccess}
use Rattle.stay_laws.proofs.Succeeded.{success_is}
use Rattle.stay_laws.proofs.Won.{Won}
use Rattle.silence_laws.specs.Least.{TakesAtLeast}
use Rattle.silence_laws.specs.Silence.{LeadsUntil, Bears, OthersRenewBefore, ActsAlone}
use Rattle.silence_laws.proofs.Chain.{opens_of}
use Rattle.silence_laws.proofs.Chained.{IsOver, found_over}
use Rattle.silence_laws.proofs.Kept.{Kept}
use Rattle.silence_laws.proofs.Led.{HasLed, acting_led}
use Rattle.silence_laws.proofs.Looking.{asks_election}
use Rattle.silence_laws.proofs.Owning.{IsQuietIn, IsOwn, IsForeign}
use Rattle.silence_laws.proofs.Recent.{z_e}
use Rattle.silence_laws.proofs.Rival.{own, kept, w, c, low_e, elsewhere, steady, time, sent, foreign, others, long, asked_e, LastLook, last_look}
use Rattle.silence_laws.proofs.Setting.{none_else}
use Rattle.silence_laws.proofs.Taken.{first, first_low, rival}
use Rattle.silence_laws.proofs.Waiting.{counted_after}
use Rattle.silence_laws.proofs.Ways.{IsWay, Went, went, request_way, reply_way, beat_before}

-- whose process has gone is down
gone_is : (o : Option ℕ) (rest : Option (Option ℕ)) → has o ≡ true → join (upper (gone o) rest) ≡ None
gone_is None rest is = absurd (false_is is)
gone_is (Some i) rest is = refl

module _ (doc : Doc) (near far b e : ℕ) (q : Identity) (l : LeadsUntil doc near far b e q) (s : Bears doc near far b e q) (H : List Entry) (H_e : IsTail H (history doc (suc e))) (quiet : IsQuietIn b q.process H)
    (f : IsForeign doc near far b e q l s H H_e quiet (first doc near far b e q l s H H_e quiet) H) (alone : ActsAlone doc near far b q) where
  abbrev p : Identity
  p = c doc near far b e q l s H H_e quiet f

  abbrev won : Won doc f.x f.before
  won = w doc near far b e q l s H H_e quiet f

  abbrev mine : IsOwn doc q f.before
  mine = own doc near far b e q l s H H_e quiet f

  abbrev k : Kept f.before mine.y
  k = kept doc near far b e q l s H H_e quiet f

  abbrev passing : IsSteady doc near far 0 e p.process
  passing = steady doc near far b e q l s H H_e quiet f

  abbrev L : LastLook doc near far b e q l s H H_e quiet f
  L = last_look doc near far b e q l s H H_e quiet f

  abbrev d : ℕ
  d = won.f.beat

  abbrev n : ℕ
  n = d - 1

  late : mine.y.beat + s.renews.wait + 5 * far + 1 ≤ d + near
  late = omega (arith, long doc near far b e q l s H H_e quiet f, sent doc near far b e q l s H H_e quiet f)

  d_is : suc n ≡ d
  d_is = omega (arith, late, s.ways, s.one)

  f_e : f.x.beat ≤ e
  f_e = beat_before doc e f.x f.before (tail_trans (f.x ∷ f.before) H (history doc (suc e)) f.position H_e)

  asked : IsTail (won.f ∷ won.low) (history doc (suc e))
  asked = asked_e doc near far b e q l s H H_e quiet f

  d_e : d ≤ e
  d_e = beat_before doc e won.f won.low asked

  n_e : n ≤ e
  n_e = omega (arith, d_e)

  heard_e : IsTail (entry d 3 p (Delivers L.look.w (Found mine.y.version mine.lease) true) ∷ L.S) (history doc (suc e))
  heard_e = tail_trans (entry d 3 p (Delivers L.look.w (Found mine.y.version mine.lease) true) ∷ L.S) f.before (history doc (suc e)) L.look.position (low_e doc near far b e q l s H H_e quiet f)

  S_t : IsTail L.S f.before
  S_t = tail_trans L.S (entry d 3 p (Delivers L.look.w (Found mine.y.version mine.lease) true) ∷ L.S) f.before (inr (tail_all L.S)) L.look.position

  S_e : IsTail L.S (history doc (suc e))
  S_e = tail_trans L.S f.before (history doc (suc e)) S_t (low_e doc near far b e q l s H H_e quiet f)

  -- before that look is the history of the beats before
  n_S : IsTail (history doc (suc n)) L.S
  n_S =
      not_before doc (suc n) (suc e) (entry d 3 p (Delivers L.look.w (Found mine.y.version mine.lease) true)) L.S (omega (arith, n_e)) heard_e (omega (arith, d_is)) (omega arith)

  -- and its Get was sent before
  abbrev g : Entry
  g = L.look.o.begun.f

  abbrev G : List Entry
  G = L.look.o.begun.before

  g_e : IsTail (g ∷ G) (history doc (suc e))
  g_e = tail_trans (g ∷ G) L.S (history doc (suc e)) L.look.o.begun.position S_e

  trip : Went doc s.rules near far e p won.role passing g.beat L.look.o.e.beat d
  trip = went doc s.rules near far e p won.role passing L.look.w (Found mine.y.version mine.lease) L.S d L.look.o S_e d_e

  g_n : suc g.beat ≤ n
  g_n = omega (arith, trip.request.least, trip.reply.least, s.one, d_is)

  G_n : IsTail G (history doc n)
  G_n = tail_trans G (g ∷ G) (history doc n) (inr (tail_all G)) (tail_trans (g ∷ G) (history doc (suc g.beat)) (history doc n) (in_own_beat doc (suc e) g G g_e) (later_tail doc (suc g.beat) n g_n))

  up_G : alive p.process G ≡ Some p.incarnation
  up_G = (is_free doc s.rules (suc e) p won.role g G L.look.w L.look.o.begun.arrives g_e L.look.o.begun.actor L.look.o.begun.fact L.look.o.begun.opens).up

  up_S : alive p.process L.S ≡ Some p.incarnation
  up_S = (counted_after doc s.rules (suc e) p (entry d 3 p (Delivers L.look.w (Found mine.y.version mine.lease) true)) L.S L.look.w (Found mine.y.version mine.lease) heard_e refl refl).up

  up : (h : List Entry) → IsTail G h → IsTail h L.S → alive p.process h ≡ Some p.incarnation
  up h low high = up_between doc s.rules (suc e) p G h L.S low high S_e up_G up_S

  alive_n : alive p.process (history doc (suc n)) ≡ Some p.incarnation
  alive_n = up (history doc (suc n)) (tail_trans G (history doc n) (history doc (suc n)) G_n (later_tail doc n (suc n) (omega arith))) n_S

  -- it has had no success by then that came by a write of its own before the leader's
  module _ (renew : OthersRenewBefore doc near far b q) (j : ℕ) (to : j ≤ n) (hs : HasSuccess doc p 0 j) where
    abbrev told : Entry
    told = entry j 3 p (Delivers hs.call (Done hs.version) true)

    o : Origin doc p hs.call (Done hs.version) hs.before j
    o = origin doc s.rules (suc j) p told hs.before hs.call (Done hs.version) hs.position refl refl

    told_low : IsTail (told ∷ hs.before) f.before
    told_low = tail_trans (told ∷ hs.before) (history doc (suc n)) f.before (tail_trans (told ∷ hs.before) (history doc (suc j)) (history doc (suc n)) hs.position (later_tail doc (suc j) (suc n) (omega (arith, to)))) (tail_trans (history doc (suc n)) L.S f.before n_S S_t)

    o_low : IsTail (o.e ∷ o.low) f.before
    o_low = tail_trans (o.e ∷ o.low) (told ∷ hs.before) f.before (inr o.answered) told_low

    o_e : IsTail (o.e ∷ o.low) (history doc (suc e))
    o_e = tail_trans (o.e ∷ o.low) f.before (history doc (suc e)) o_low (low_e doc near far b e q l s H H_e quiet f)

    back : IsWay near far o.e.beat j
    back = reply_way doc s.rules near far e p won.role passing o.e o.low o_e o.step j (omega (arith, to, n_e)) o.comes_is

    wrote : has (at_key election (write_of o.e.fact)) ≡ true
    wrote =
        ap (λ d. has (at_key election (write_of d))) o.fact
        ∙ wrote_by hs.call.request o.low hs.version (success_is hs.call.request hs.version hs.success).write
        (asks_election doc s.sound s.rules e s.end p won.role o.begun.f hs.call o.begun.arrives
        (in_head o.begun.f o.begun.before (history doc (suc e)) (tail_trans (o.begun.f ∷ o.begun.before) hs.before (history doc (suc e)) o.begun.position (tail_trans hs.before (told ∷ hs.before) (history doc (suc e)) (inr (tail_all hs.before)) (tail_trans (told ∷ hs.before) f.before (history doc (suc e)) told_low (low_e doc near far b e q l s H H_e quiet f))))) o.begun.actor o.begun.fact) (sym o.reply_is)

    -- one from the silence on was written after the leader's, where all writes are its own
    since_silence : b ≤ j → ⊥
    since_silence le = rival doc near far b e q l s H H_e quiet f (actor_is p q (sym o.actor ∙ f.own o.e o.low o_low first_below wrote))
      where
        first_below : IsTail (first doc near far b e q l s H H_e quiet) o.low
        first_below = first_low doc near far b e q l s H H_e quiet o.e o.low o_e (omega (arith, le, back.most))

    no_success : ⊥
    no_success =
        ⊎_elim (λ lt. none_else doc near far b e q l s renew p won.role (elsewhere doc near far b e q l s H H_e quiet f) j (omega (arith, lt)) hs) since_silence (cases_lt j b)

  -- it doesn't act in the beat before, as another's record is stored
  not_now : Acts doc p n → ⊥
  not_now acting = ⊎_elim by_success by_premise alone
    where
      by_success : OthersRenewBefore doc near far b q → ⊥
      by_success renew = let led : HasLed doc p n = acting_led doc s.rules p n acting in no_success renew led.j led.to led.success

      by_premise : lease_premise doc ≡ true → ⊥
      by_premise premise = rival doc near far b e q l s H H_e quiet f (same_holder p q mine.y.object held (subst (IsHeldBy q) (sym mine.object) mine.holder))
        where
          turn_high : IsTail (at_turn doc p.process n) f.before
          turn_high = tail_trans (at_turn doc p.process n) (history doc (suc n)) f.before (turn_tail doc p.process n (omega (arith, controllers_first doc p.process won.role))) (tail_trans (history doc (suc n)) L.S f.before n_S S_t)

          z_turn : IsTail (k.z ∷ k.before) (at_turn doc p.process n)
          z_turn =
              tail_trans (k.z ∷ k.before) (history doc n) (at_turn doc p.process n)
              (tail_trans (k.z ∷ k.before) (history doc (suc k.z.beat)) (history doc n) (in_own_beat doc (suc e) k.z k.before (z_e doc near far b e q l s H H_e quiet f)) (later_tail doc (suc k.z.beat) n (omega (arith, late, k.beat, s.ways, s.one))))
              (before_turn doc p.process n)

          held : IsHeldBy p mine.y.object
          held = subst (IsStoredHolder p) (k.stays (at_turn doc p.process n) z_turn turn_high) (is_holder doc (premise_from doc premise) s.sound s.rules p n (omega (arith, n_e, s.end)) acting).0

  -- nor does it end there
  steady_n : IsSteady doc near far n e p.process
  steady_n = record {
    passes = λ k from to. passing.passes k (omega arith) to;
    crashes = λ x at fact own. omega (arith, passing.crashes x at fact own);
    stops = λ x at fact own. omega (arith, passing.stops x at fact own);
    ends = λ x at fact own same. no_end x (place_of x (history doc (suc e)) at).before (place_of x (history doc (suc e)) at).position fact own same;
  }
    where
      no_end : (x : Entry) (T : List Entry) → IsTail (x ∷ T) (history doc (suc e)) → x.fact ≡ Ends → has (of_process p.process x.actor) ≡ true → x.beat ≡ n → ⊥
      no_end x T at fact own same = none_is p.incarnation (sym down ∙ up (x ∷ T) (inr low) high)
        where
          made : MadeEnd doc x.beat x.step x.actor T
          made = subst (λ d. MadeAs doc x.beat x.step x.actor d T) fact (are_made doc s.rules (suc e) x T at)

          low : IsTail G T
          low = tail_trans G (history doc n) T G_n (not_before doc n (suc e) x T (omega (arith, n_e)) at (omega (arith, same)) (omega (arith, made.step_is)))

          high : IsTail (x ∷ T) L.S
          high = tail_trans (x ∷ T) (history doc (suc n)) L.S (tail_trans (x ∷ T) (history doc (suc x.beat)) (history doc (suc n)) (in_own_beat doc (suc e) x T at) (later_tail doc (suc x.beat) (suc n) (omega (arith, same)))) n_S

          down : alive p.process (x ∷ T) ≡ None
          down = ap (λ d. join (upper (life_says p.process x.actor d) (life p.process T))) fact ∙ gone_is (of_process p.process x.actor) (life p.process T) own

  unled : (h : List Entry) → IsTail h (history doc (suc n)) → leads p h ≡ false
  unled =
      never_led doc s.rules near far n e n p won.role (time doc near far b e q l s H H_e quiet f).deadline steady_n n_e
      (λ j from to acting. let same : j ≡ n = omega (arith, from, to) in not_now (subst (Acts doc p) same acting)) (omega arith) alive_n

  idle : (j : ℕ) → j ≤ n → Acts doc p j → ⊥
  idle j to acting =
      true_is (sym (turn_leads doc p p.process j (set (deadline doc p g0) (and_right (is_present (alive p.process g0) p.incarnation) (is_before (local doc p.process j) (deadline doc p g0)) (term_of doc s.rules p j g0 acting.1))))
      ∙ unled g0 (tail_trans g0 (history doc (suc j)) (history doc (suc n)) (turn_tail doc p.process j (omega (arith, controllers_first doc p.process won.role))) (later_tail doc (suc j) (suc n) (omega (arith, to)))))
    where
      g0 : List Entry
      g0 = at_turn doc p.process j

      set : (o : Option ℕ) → is_before (local doc p.process j) o ≡ true → has o ≡ true
      set None is = absurd (false_is is)
      set (Some at) is = refl

  unstopped : (x : Entry) → In x (history doc (suc e)) → x.fact ≡ Stops → has (of_process p.process x.actor) ≡ true → ⊥
  unstopped x stands fact own = never (passing.stops x stands fact own)
    where
      never : x.beat < 0 → ⊥
      never lt = omega (arith, lt)

  way : IsWay near far d f.x.beat
  way =
      request_way doc s.rules near far e p won.role passing won.f won.low won.call f.x.beat asked won.f_actor won.f_fact (opens_of doc s.rules e p won.role unstopped won.f won.low won.call (Some f.x.beat) asked won.f_actor won.f_fact)
      (λ j low high soon. l.goes j (omega (arith, high, beat_before doc e f.x f.before (tail_trans (f.x ∷ f.before) H (history doc (suc e)) f.position H_e))))

  pub taken_late : (least : ℕ) → TakesAtLeast doc near far e p.process (blocked_for doc p.process q.process) least → mine.y.beat + least + 2 * near ≤ f.x.beat
  taken_late least t = omega (arith, over.late, over.upto, t.least_is (d - over.first) over.lasts, way.least)
    where
      some : 1 ≤ t.wait
      some = by_wait t.wait t.wait_is
        where
          by_wait : (j : ℕ) → longest_wait doc p.process ≤ j * t.slow → 1 ≤ j
          by_wait zero le = absurd (omega (arith, le, s.waits p.process won.role))
          by_wait (suc j) le = omega arith

      lasting_is : IsNeeded t.fast (respected_time doc p.process mine.lease) t.lasting
      lasting_is = subst (λ time. IsNeeded t.fast time t.lasting) (sym (blocked_time doc p.process q.process mine.lease mine.duration)) t.lasting_is

      free : is_blocked p (local doc p.process d) (observed_at doc p (entry d 3 p (Delivers L.look.w (Found mine.y.version mine.lease) true) ∷ L.S)) (respected doc.settings.rules.respect (lease_seconds doc p.process) mine.lease) ≡ false
      free = subst (λ h. is_blocked p (local doc p.process d) (observed_at doc p h) (respected doc.settings.rules.respect (lease_seconds doc p.process) mine.lease) ≡ false) L.low L.free

      over : IsOver doc near far e s.sound s.rules s.end s.one s.ways p won.role passing (time doc near far b e q l s H H_e quiet f) f.before (low_e doc near far b e q l s H H_e quiet f) mine.y mine.top mine.lease mine.object (foreign doc near far b e q l s H H_e quiet f) (others doc near far b e q l s H H_e quiet f) n n_e unled idle alive_n t.slow t.fast t.wait t.needed t.runs_least t.runs_most some t.wait_is t.needed_is t.lasting lasting_is d
      over = found_over doc near far e s.sound s.rules s.end s.one s.ways p won.role passing (time doc near far b e q l s H H_e quiet f) f.before (low_e doc near far b e q l s H H_e quiet f) mine.y mine.top mine.lease mine.object (foreign doc near far b e q l s H H_e quiet f) (others doc near far b e q l s H H_e quiet f) n n_e unled idle alive_n t.slow t.fast t.wait t.needed t.runs_least t.runs_most some t.wait_is t.needed_is t.lasting lasting_is d L.S L.look (omega (arith, d_is)) free
