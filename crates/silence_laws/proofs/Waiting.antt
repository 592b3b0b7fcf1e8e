-- No call of a controller whose messages pass expires; and what waits was sent once.
use Rattle.std.proofs.Common.{◌≡◌, ◌<◌, ◌≤◌, ℕ, suc, ◌+◌, ◌-◌, ◌*◌, true, List, ◌∷◌, Option, Some, None, refl, sym, ap, ◌∙◌, subst, inl, inr, ⊎_elim, arith}
use Rattle.std.proofs.Math.Nat.{mul-le-mul_right}
use Rattle.std.proofs.lemmas.Bool.{ltb-true, cases_lt}
use Rattle.kube_objects.specs.Clocks.{local}
use Rattle.kube_objects.specs.Document.{Doc, is_controller, call_timeout}
use Rattle.kube_objects.specs.Entry.{Entry, Identity, Call, Sends, Delivers, Expires, actor_of, entry}
use Rattle.kube_objects.specs.Newest.{when}
use Rattle.kube_objects.specs.Process.{alive, call_in, call_says, is_late}
use Rattle.kube_objects.specs.Own.{ReleasesByStop}
use Rattle.kube_objects.proofs.Own.{is_late-own}
use Rattle.history.specs.History.{history}
use Rattle.history_laws.specs.Tails.{IsTail}
use Rattle.history_laws.proofs.Counting.{CountedFor, counted_is}
use Rattle.history_laws.proofs.Plainly.{same_self}
use Rattle.history_laws.proofs.Tailed.{tail_all, tail_trans, tails_meet, later_tail}
use Rattle.span_laws.proofs.Spans.{goes_most}
use Rattle.call_laws.proofs.Making.{MadeAs, MadeExpiry, MadeDelivery, are_made}
use Rattle.call_laws.proofs.Placing.{in_own_beat}
use Rattle.call_laws.proofs.Starting.{actor_is}
use Rattle.call_laws.proofs.Sending.{is_free}
use Rattle.takeover_laws.specs.Calm.{IsSteady, IsInTime}
use Rattle.takeover_laws.specs.Rounds.{HasCounted}
use Rattle.takeover_laws.proofs.Writers.{replies_count}
use Rattle.calm_laws.proofs.Begun.{Begun, begun_by}
use Rattle.calm_laws.proofs.Life.{up_between}
use Rattle.calm_laws.proofs.Origins.{sends_differ}
use Rattle.silence_laws.proofs.Ways.{beat_before, sent_beat}

-- the history before a beat stands below an entry of the beat or a later one
pub history_below : (doc : Doc) (n e : ℕ) (x : Entry) (T : List Entry) → IsTail (x ∷ T) (history doc (suc e)) → n < x.beat → n ≤ e → IsTail (history doc (suc n)) T
history_below doc n e x T at lt le = ⊎_elim low high (tails_meet (history doc (suc n)) (x ∷ T) (history doc (suc e)) (later_tail doc (suc n) (suc e) (omega (arith, le))) at)
  where
    early : IsTail (x ∷ T) (history doc (suc n)) → ⊥
    early at = omega (arith, lt, beat_before doc n x T at)

    low : IsTail (history doc (suc n)) (x ∷ T) → IsTail (history doc (suc n)) T
    low (inl same) = absurd (early (subst (IsTail (x ∷ T)) (sym same) (tail_all (x ∷ T))))
    low (inr below) = below

    high : IsTail (x ∷ T) (history doc (suc n)) → IsTail (history doc (suc n)) T
    high at = absurd (early at)

-- what stands below an entry is of its beat or an earlier one
pub beats_rise : (doc : Doc) (e : ℕ) (x : Entry) (T : List Entry) → IsTail (x ∷ T) (history doc (suc e)) → (z : Entry) (Z : List Entry) → IsTail (z ∷ Z) T → z.beat ≤ x.beat
beats_rise doc e x T at z Z low = beat_before doc x.beat z Z (tail_trans (z ∷ Z) (x ∷ T) (history doc (suc x.beat)) (inr low) (in_own_beat doc (suc e) x T at))

-- a waiting call's sending is the one that has its number
pub one_sending : (doc : Doc) → ReleasesByStop doc → (m : ℕ) (q : Identity) (w : Call) (S : List Entry) → IsTail S (history doc m) → (b : Begun q w S) → (x : Entry) (T : List Entry) (call : Call) (arrives : Option ℕ) → IsTail (x ∷ T) (history doc m)
    → x.actor ≡ actor_of q → x.fact ≡ Sends call arrives → w.number ≡ call.number → b.f ∷ b.before ≡ x ∷ T
one_sending doc rules m q w S at b x T call arrives position actor fact number =
    sends_differ doc rules m q b.f x b.before T w call b.arrives arrives (tail_trans (b.f ∷ b.before) S (history doc m) b.position at) position b.actor actor b.fact fact number

-- a counted reply to a call comes after the call's sending, which is the last own entry on a call before it
pub record IsCountedAfter (q : Identity) (w : Call) (S : List Entry) : Type 0 where
  pub begun : Begun q w S
  pub up : alive q.process S ≡ Some q.incarnation

pub counted_after : (doc : Doc) → ReleasesByStop doc → (m : ℕ) (q : Identity) (x : Entry) (S : List Entry) (w : Call) (reply : _) → IsTail (x ∷ S) (history doc m) → x.actor ≡ actor_of q → x.fact ≡ Delivers w reply true → IsCountedAfter q w S
counted_after doc rules m q x S w reply at actor fact = record {
  begun = begun_by q S w (ap (λ p. call_in p S) (sym mine) ∙ counts.waits);
  up = subst (λ (q : Identity). alive q.process S ≡ Some q.incarnation) mine counts.up;
}
  where
    made : MadeDelivery doc x.beat x.step x.actor w reply S
    made = subst (λ d. MadeAs doc x.beat x.step x.actor d S) fact (are_made doc rules m x S at)

    mine : made.b.who ≡ q
    mine = actor_is made.b.who q (sym made.by ∙ actor)

    counts : CountedFor doc made.b.who x.beat made.b.call.number S w
    counts = counted_is doc made.b.who x.beat made.b.call.number S w made.counted_is

-- what a counted reply says of calls
pub says_done : (q : Identity) (x : Entry) (w : Call) (reply : _) → x.actor ≡ actor_of q → x.fact ≡ Delivers w reply true → call_says q x.actor x.fact ≡ Some None
says_done q x w reply actor fact = ap (call_says q x.actor) fact ∙ ap (λ who. call_says q who (Delivers w reply true)) actor ∙ ap (λ b. when b None) (same_self q)

none_some : {A : Type 0} (x : A) → None ≡ Some x → ⊥
none_some x is = cc

module _ (doc : Doc) (rules : ReleasesByStop doc) (near far e : ℕ) (one : 1 ≤ near) (q : Identity) (role : is_controller doc q.process ≡ true) (steady : IsSteady doc near far 0 e q.process) (time : IsInTime doc far 0 e q.process) where
  pub never_expires : (x : Entry) (T : List Entry) (w : Call) → IsTail (x ∷ T) (history doc (suc e)) → x.actor ≡ actor_of q → x.fact ≡ Expires w → ⊥
  never_expires x T w at actor fact = ⊎_elim early (λ le. soon le) (cases_lt (b.f.beat + 2 * far) x.beat)
    where
      made : MadeExpiry doc x.beat x.actor w T
      made = subst (λ d. MadeAs doc x.beat x.step x.actor d T) fact (are_made doc rules (suc e) x T at)

      mine : made.q ≡ q
      mine = actor_is made.q q (sym made.by ∙ actor)

      below : IsTail T (history doc (suc e))
      below = tail_trans T (x ∷ T) (history doc (suc e)) (inr (tail_all T)) at

      b : Begun q w T
      b = begun_by q T w (ap (λ p. call_in p T) (sym mine) ∙ made.waits)

      position : IsTail (b.f ∷ b.before) (history doc (suc e))
      position = tail_trans (b.f ∷ b.before) T (history doc (suc e)) b.position below

      sent : w.sent ≡ b.f.beat
      sent = sent_beat doc rules near far e q role steady b.f b.before w b.arrives position b.actor b.fact

      late : local doc q.process w.sent + call_timeout doc q.process < local doc q.process x.beat
      late = ltb-true (local doc q.process w.sent + call_timeout doc q.process) (local doc q.process x.beat) (sym (is_late-own doc rules q x.beat w) ∙ subst (λ q. is_late doc q x.beat w ≡ true) mine made.late)

      to : x.beat ≤ e
      to = beat_before doc e x T at

      -- the clock hasn't gone so far
      soon : x.beat ≤ b.f.beat + 2 * far → ⊥
      soon le = omega (arith, ap (local doc q.process) sent, late, goes_most doc q.process 0 e time.fast time.runs b.f.beat x.beat (omega arith) (beats_rise doc e x T at b.f b.before b.position) to, mul-le-mul_right time.fast the_beats, time.timeout)
        where
          the_beats : x.beat - b.f.beat ≤ 2 * far
          the_beats = omega (arith, le)

      -- or its reply had counted
      early : b.f.beat + 2 * far < x.beat → ⊥
      early lt = by_count (replies_count doc rules near far 0 e n q role steady time one (omega (arith, lt, to)) b.f b.before w b.arrives sending b.actor b.fact (omega arith) (omega arith) still)
        where
          n : ℕ
          n = b.f.beat + 2 * far

          low : IsTail (history doc (suc n)) T
          low = history_below doc n e x T at lt (omega (arith, lt, to))

          sending : IsTail (b.f ∷ b.before) (history doc (suc n))
          sending = tail_trans (b.f ∷ b.before) (history doc (suc b.f.beat)) (history doc (suc n)) (in_own_beat doc (suc e) b.f b.before position) (later_tail doc (suc b.f.beat) (suc n) (omega arith))

          still : (h : List Entry) → IsTail b.before h → IsTail h (history doc (suc n)) → alive q.process h ≡ Some q.incarnation
          still h under above =
              up_between doc rules (suc e) q b.before h T under (tail_trans h (history doc (suc n)) T above low) below
              (is_free doc rules (suc e) q role b.f b.before w b.arrives position b.actor b.fact b.opens).up
              (subst (λ (q : Identity). alive q.process T ≡ Some q.incarnation) mine made.up)

          by_count : HasCounted doc q w (b.f.beat + 2 * near) (b.f.beat + 2 * far) → ⊥
          by_count c = none_some None (sym (b.alone d c.before at_d since) ∙ says_done q d w c.reply refl refl)
            where
              d : Entry
              d = entry c.at 3 q (Delivers w c.reply true)

              at_n : IsTail (d ∷ c.before) (history doc (suc n))
              at_n = tail_trans (d ∷ c.before) (history doc (suc c.at)) (history doc (suc n)) c.position (later_tail doc (suc c.at) (suc n) (omega (arith, c.most)))

              at_d : IsTail (d ∷ c.before) T
              at_d = tail_trans (d ∷ c.before) (history doc (suc n)) T at_n low

              at_e : IsTail (d ∷ c.before) (history doc (suc e))
              at_e = tail_trans (d ∷ c.before) T (history doc (suc e)) at_d below

              after : IsCountedAfter q w c.before
              after = counted_after doc rules (suc e) q d c.before w c.reply at_e refl refl

              since : IsTail (b.f ∷ b.before) c.before
              since =
                  subst (λ g. IsTail g c.before)
                  (one_sending doc rules (suc e) q w c.before (tail_trans c.before (d ∷ c.before) (history doc (suc e)) (inr (tail_all c.before)) at_e) after.begun b.f b.before w b.arrives position b.actor b.fact refl)
                  after.begun.position
