-- The write by which somebody else comes to lead after a leader has fallen silent.
use Rattle.std.proofs.Common.{◌≡◌, ◌<◌, ◌≤◌, ℕ, suc, ◌+◌, ◌-◌, true, ◌∷◌, Some, refl, sym, ap, ◌∙◌, subst, inr, ⊎_elim, arith}
use Rattle.std.proofs.lemmas.Bool.{cases_lt, cases_eq}
use Rattle.kube_base.specs.declared.numbers.Version.{Version}
use Rattle.kube_objects.specs.declared.call.Reply.{Reply}
use Rattle.kube_objects.specs.declared.call.Request.{Request}
use Rattle.kube_objects.specs.declared.call.Request.TheVariants.{Get, Create, Update, PostStatus}
use Rattle.kube_objects.specs.declared.deed.Actor.{Actor}
use Rattle.kube_objects.specs.Document.{Doc, is_controller}
use Rattle.kube_objects.specs.Elector.{succeeds, lead_says}
use Rattle.kube_objects.specs.Entry.{Identity, Fact, First, Event, Starts, Stops, Sends, Answers, Delivers, Expires, Leads, Ends, Crashes, Stalls, Ticks, actor_of, entry, StepsDown, ReleaseBegins, ReleaseEnds, ReleaseStops}
use Rattle.kube_objects.specs.Identities.{is_by}
use Rattle.kube_objects.specs.Newest.{has}
use Rattle.kube_objects.specs.Stored.{election, key_of, at_key, write_of}
use Rattle.kube_objects.specs.Wire.{reply_delay}
use Rattle.history.specs.History.{history}
use Rattle.history_laws.specs.Tails.{IsTail}
use Rattle.history_laws.proofs.Counting.{when_test, when_value}
use Rattle.history_laws.proofs.Plainly.{some_is, none_is, false_is}
use Rattle.history_laws.proofs.Tailed.{tail_all, tail_trans}
use Rattle.lease_laws.proofs.Steps.{IsSuccess, success_is}
use Rattle.call_laws.specs.Answering.{with_events}
use Rattle.call_laws.proofs.Above.{in_head}
use Rattle.call_laws.proofs.Placing.{forces_stand}
use Rattle.call_laws.proofs.Starting.{actor_is}
use Rattle.takeover_laws.specs.Calm.{Passes, IsSteady}
use Rattle.takeover_laws.proofs.Rounds.{reply_passes}
use Rattle.calm_laws.proofs.Asked.{IsWrite}
use Rattle.calm_laws.proofs.Begun.{by_is}
use Rattle.calm_laws.proofs.Origins.{Origin, origin}
use Rattle.calm_laws.proofs.Replies.{wrote_by}
use Rattle.stay_laws.proofs.Won.{Won, is_won}
use Rattle.silence_laws.specs.Least.{IsLead}
use Rattle.silence_laws.specs.Silence.{LeadsUntil, Bears}
use Rattle.calm_laws.proofs.Added.{LedBy, leads_by}
use Rattle.silence_laws.proofs.Looking.{asks_election}
use Rattle.silence_laws.proofs.Setting.{restrict}
use Rattle.silence_laws.proofs.Ways.{beat_before}

-- ---- the facts of a lead

lead_facts : (q : Identity) (who : Actor) (d : Fact) (version : Version) → lead_says q who d ≡ Some version → (who ≡ actor_of q) × (d ≡ Leads version)
lead_facts q who (Leads v) version is = (by_is q who (when_test (is_by q who) v version is), ap Leads (when_value (is_by q who) v version is))
lead_facts q who (First key object) version is = absurd (none_is version is)
lead_facts q who (Event w v) version is = absurd (none_is version is)
lead_facts q who Starts version is = absurd (none_is version is)
lead_facts q who Crashes version is = absurd (none_is version is)
lead_facts q who Stops version is = absurd (none_is version is)
lead_facts q who (Stalls beats) version is = absurd (none_is version is)
lead_facts q who StepsDown version is = absurd (none_is version is)
lead_facts q who (ReleaseBegins at_deadline) version is = absurd (none_is version is)
lead_facts q who ReleaseEnds version is = absurd (none_is version is)
lead_facts q who ReleaseStops version is = absurd (none_is version is)
lead_facts q who (Sends call arrives) version is = absurd (none_is version is)
lead_facts q who (Answers call reply comes wrote) version is = absurd (none_is version is)
lead_facts q who (Delivers call reply counted) version is = absurd (none_is version is)
lead_facts q who (Expires call) version is = absurd (none_is version is)
lead_facts q who Ends version is = absurd (none_is version is)
lead_facts q who (Ticks t) version is = absurd (none_is version is)

success_writes : (r : Request) (reply : Reply) → succeeds r reply ≡ true → IsWrite r
success_writes (Get key) reply so = absurd (false_is so)
success_writes (Create key lease) reply so = tt
success_writes (Update key given lease) reply so = tt
success_writes (PostStatus name status at) reply so = absurd (false_is so)

module _ (doc : Doc) (near far b e : ℕ) (q : Identity) (l : LeadsUntil doc near far b e q) (s : Bears doc near far b e q) (k : ℕ) (lead : IsLead doc b e q k) where
  abbrev pub r : Identity
  r = lead.c

  pub facts : (lead.x.actor ≡ actor_of r) × (lead.x.fact ≡ Leads lead.version)
  facts = lead_facts r lead.x.actor lead.x.fact lead.version lead.leads

  led : LedBy doc lead.x lead.version lead.before
  led = leads_by doc s.rules (suc e) lead.x lead.before lead.version lead.position facts.1

  own : led.q ≡ r
  own = actor_is led.q r (sym led.by ∙ facts.0)

  role : is_controller doc r.process ≡ true
  role = subst (λ (p : Identity). is_controller doc p.process ≡ true) own led.role

  won : IsSuccess led.call.request led.reply lead.version
  won = success_is doc lead.x.beat lead.before led.q led.call.kind led.call.request led.reply lead.version led.follows

  pub k_e : lead.x.beat ≤ e
  k_e = beat_before doc e lead.x lead.before lead.position

  before_e : IsTail lead.before (history doc (suc e))
  before_e = tail_trans lead.before (lead.x ∷ lead.before) (history doc (suc e)) (inr (tail_all lead.before)) lead.position

  heard_e : IsTail (entry lead.x.beat 3 r (Delivers led.call led.reply true) ∷ led.before) (history doc (suc e))
  heard_e = subst (λ g. IsTail g (history doc (suc e))) (led.is ∙ ap (λ p. entry lead.x.beat 3 p (Delivers led.call led.reply true) ∷ led.before) own) before_e

  S_e : IsTail led.before (history doc (suc e))
  S_e = tail_trans led.before (entry lead.x.beat 3 r (Delivers led.call led.reply true) ∷ led.before) (history doc (suc e)) (inr (tail_all led.before)) heard_e

  -- its write
  o : Origin doc r led.call led.reply led.before lead.x.beat
  o = origin doc s.rules (suc e) r (entry lead.x.beat 3 r (Delivers led.call led.reply true)) led.before led.call led.reply heard_e refl refl

  o_e : IsTail (o.e ∷ o.low) (history doc (suc e))
  o_e = tail_trans (o.e ∷ o.low) led.before (history doc (suc e)) o.answered S_e

  writes : has (at_key election (write_of o.e.fact)) ≡ true
  writes = ap (λ d. has (at_key election (write_of d))) o.fact ∙ wrote_by led.call.request o.low lead.version (success_writes led.call.request led.reply won.0) key (sym o.reply_is ∙ won.1)
    where
      key : key_of led.call.request ≡ election
      key =
          asks_election doc s.sound s.rules e s.end r role o.begun.f led.call o.begun.arrives
          (in_head o.begun.f o.begun.before (history doc (suc e)) (tail_trans (o.begun.f ∷ o.begun.before) led.before (history doc (suc e)) o.begun.position S_e)) o.begun.actor o.begun.fact

  pub steady : IsSteady doc near far 0 (b - 1) r.process
  steady = ⊎_elim (λ same. subst (IsSteady doc near far 0 (b - 1)) (sym same) l.steady) (λ other. restrict doc near far 0 (b - 1) e r.process (omega (arith, l.within)) (l.others r.process role other)) (cases_eq r.process q.process)

  -- it was accepted no more than a way before the silence
  not_before_b : o.e.beat + far ≤ b - 1 → ⊥
  not_before_b le = omega (arith, same, passes.reply_most, le, lead.from, lead.at, l.long, s.one, s.ways)
    where
      passes : Passes doc near far r.process o.e.beat
      passes = steady.passes o.e.beat (omega arith) (omega (arith, le))

      m : ℕ
      m = o.e.beat + reply_delay r.process (with_events doc o.e.beat)

      same : m ≡ lead.x.beat
      same =
          some_is m lead.x.beat
          (sym (reply_passes doc near far r.process o.e.beat o.low passes (forces_stand doc s.rules (suc e) o.e o.low o_e (omega (arith, o.step))) (steady.passes m (omega arith) (omega (arith, passes.reply_most, le))).awake) ∙ o.comes_is)

  late : b ≤ o.e.beat + far
  late = ⊎_elim (λ lt. lt_or lt) (λ le. absurd (not_before_b le)) (cases_lt (b - 1) (o.e.beat + far))
    where
      lt_or : b - 1 < o.e.beat + far → b ≤ o.e.beat + far
      lt_or lt = omega (arith, lt)

  accepted : Won doc o.e o.low
  accepted = is_won doc s.sound s.rules e s.end o.e o.low o_e (omega (arith, late, l.long, s.one, s.ways)) writes

  whose : accepted.who ≡ r
  whose = actor_is accepted.who r (sym accepted.actor ∙ o.actor)

  -- ---- together

  pub record ItsWrite : Type 0 where
    pub role : is_controller doc r.process ≡ true
    pub led : LedBy doc lead.x lead.version lead.before
    pub heard_e : IsTail (entry lead.x.beat 3 r (Delivers led.call led.reply true) ∷ led.before) (history doc (suc e))
    pub led_e : IsTail led.before (history doc (suc e))
    pub o : Origin doc r led.call led.reply led.before lead.x.beat
    pub o_e : IsTail (o.e ∷ o.low) (history doc (suc e))
    pub writes : has (at_key election (write_of o.e.fact)) ≡ true
    pub late : b ≤ o.e.beat + far
    pub w : Won doc o.e o.low
    pub whose : w.who ≡ r
    pub f_actor : w.f.actor ≡ actor_of r
    pub asked_e : IsTail (w.f ∷ w.low) (history doc (suc e))

  pub its_write : ItsWrite
  its_write = record {
    role = role;
    led = led;
    heard_e = heard_e;
    led_e = S_e;
    o = o;
    o_e = o_e;
    writes = writes;
    late = late;
    w = accepted;
    whose = whose;
    f_actor = accepted.f_actor ∙ ap actor_of whose;
    asked_e = tail_trans (accepted.f ∷ accepted.low) (o.e ∷ o.low) (history doc (suc e)) (inr accepted.asked) o_e;
  }
