-- The write of a success stays the last one, but for what its leader writes by later calls.
use Rattle.std.proofs.Common.{◌≡◌, ◌⊎◌, ◌<◌, ◌≤◌, ℕ, suc, ◌+◌, ◌*◌, true, List, [], ◌∷◌, length, Option, Some, None, refl, sym, ap, ◌∙◌, inl, inr, ⊎_elim, arith}
use Rattle.kube_base.specs.declared.numbers.Version.{Version}
use Rattle.kube_objects.specs.declared.call.Reply.{Reply}
use Rattle.kube_objects.specs.declared.call.Reply.TheVariants.{Done}
use Rattle.kube_objects.specs.declared.object.Object.{Object}
use Rattle.kube_objects.specs.Document.{Doc, end_beat, is_controller}
use Rattle.kube_objects.specs.Entry.{Entry, Identity, Call, Fact, Sends, Answers, Delivers, actor_of, entry}
use Rattle.kube_objects.specs.Newest.{has}
use Rattle.kube_objects.specs.Own.{ReleasesByStop}
use Rattle.kube_objects.specs.Process.{call_in}
use Rattle.kube_objects.specs.Stored.{Held, election, key_of, stored, at_key, write_of}
use Rattle.history.specs.History.{history}
use Rattle.history.specs.Premise.{greatest_below}
use Rattle.history.specs.Safe.{Acts}
use Rattle.history.specs.Sound.{IsSound}
use Rattle.history_laws.specs.Tails.{IsTail}
use Rattle.history_laws.proofs.Order.{entries_are_ordered}
use Rattle.history_laws.proofs.Plainly.{some_is, none_is}
use Rattle.history_laws.proofs.Tailed.{tail_all, tail_trans, tails_meet, later_tail, same_head}
use Rattle.lease_laws.proofs.EachKind.{top_stays}
use Rattle.lease_laws.proofs.Premises.{rates_at_most}
use Rattle.call_laws.proofs.Above.{in_head}
use Rattle.call_laws.proofs.Starting.{actor_is}
use Rattle.takeover_laws.specs.Acting.{AreInTime}
use Rattle.takeover_laws.specs.Calm.{IsSteady, IsCalm}
use Rattle.takeover_laws.proofs.Writers.{Sending, sending_of}
use Rattle.calm_laws.proofs.Begun.{waits_between}
use Rattle.calm_laws.proofs.Origins.{Origin}
use Rattle.calm_laws.proofs.Replies.{wrote_by}
use Rattle.gap_laws.proofs.Waits.{Topped, Took, WaitedFor}
use Rattle.stay_laws.specs.Stays.{RenewsInTime}
use Rattle.stay_laws.proofs.Won.{Won}
use Rattle.stay_laws.proofs.Rivals.{Own, plainly, won_topped, won_waited, won0, own_at, own_writes, won_at}
use Rattle.stay_laws.proofs.Closing.{within_below}
use Rattle.call_laws.proofs.Sending.{IsFree, is_free}
use Rattle.stay_laws.proofs.Sendings.{key_is, answer_high, sending_high}
use Rattle.stay_laws.proofs.Given.{IsGiven}
use Rattle.stay_laws.proofs.Succeeded.{IsSuccess, success_is, IsSet, is_set}

abbrev reply_or : Reply → Fact → Reply
reply_or x (Answers call reply comes wrote) = reply
reply_or x _ = x

-- a request of an identity, sent after a position
pub record IsSentSince (q : Identity) (low : List Entry) (call : Call) (h : List Entry) : Type 0 where
  pub f : Entry
  pub before : List Entry
  pub arrives : Option ℕ
  pub position : IsTail (f ∷ before) h
  pub since : IsTail low before
  pub actor : f.actor ≡ actor_of q
  pub fact : f.fact ≡ Sends call arrives
  pub idle : call_in q before ≡ None

module _ (doc : Doc) (near far a e : ℕ) (sound : IsSound doc) (rules : ReleasesByStop doc) (calm : IsCalm doc near far a e) (time : AreInTime doc near far a e) (one : 1 ≤ near) (end : e ≤ end_beat doc)
    (q : Identity) (role : is_controller doc q.process ≡ true) (steady : IsSteady doc near far a e q.process) (renews : RenewsInTime doc near far a e q) (y : ℕ) (to : y ≤ e) (s : IsGiven doc near far a q y) where
  -- the reply, its answer and its call's sending
  abbrev pub reply : Entry
  reply = entry y 3 q (Delivers s.call (Done s.version) true)

  abbrev pub o : Origin doc q s.call (Done s.version) s.before y
  o = s.o

  some_beat : 1 ≤ o.e.beat
  some_beat = let lt = s.sent in omega (arith, lt)

  all_of : (h : List Entry) → IsTail h (history doc (suc y)) → IsTail h (history doc (suc e))
  all_of h at = tail_trans h (history doc (suc y)) (history doc (suc e)) at (later_tail doc (suc y) (suc e) (omega (arith, to)))

  asked_high : IsTail (o.begun.f ∷ o.begun.before) (history doc (suc e))
  asked_high = all_of (o.begun.f ∷ o.begun.before) (sending_high doc rules near far a e q role steady s.call (Done s.version) s.before y s.position o to)

  pub write_high : IsTail (o.e ∷ o.low) (history doc (suc e))
  write_high = all_of (o.e ∷ o.low) (answer_high doc rules near far a e q role steady s.call (Done s.version) s.before y s.position o to)

  abbrev pub what : IsSuccess s.call.request s.version
  what = success_is s.call.request s.version s.success

  pub writes : has (at_key election (write_of o.e.fact)) ≡ true
  writes = ap (λ d. has (at_key election (write_of d))) o.fact ∙ wrote_by s.call.request o.low s.version what.write key (sym o.reply_is)
    where
      key : key_of s.call.request ≡ election
      key =
          key_is doc (greatest_below doc (length doc.controllers)) (rates_at_most doc) sound rules e end q role o.begun.f s.call o.begun.arrives (in_head o.begun.f o.begun.before (history doc (suc e)) asked_high) o.begun.actor o.begun.fact

  abbrev pub shown_low : List Entry
  shown_low = reply ∷ s.before

  pub start : IsSet doc q y s.version what.lease shown_low
  start = is_set doc rules q role y s.call s.version s.before s.success s.position

  reply_high : IsTail shown_low (history doc (suc e))
  reply_high = all_of shown_low s.position

  pub write_low : IsTail (o.e ∷ o.low) shown_low
  write_low = inr o.answered

  -- ---- its writes, while it acts

  module _ (acting : Acts doc q y) (n : ℕ) (ge : y ≤ n) (within : n ≤ e) (soon : n ≤ o.e.beat + renews.wait + 5 * far) where
    pub own : (h : List Entry) → IsTail (o.e ∷ o.low) h → IsTail h (history doc (suc n)) → Own doc q o.e.beat h
    own = own_at doc near far a e sound rules calm time one end q role steady renews y (omega (arith, s.least, s.from)) to acting o.e o.low write_high o.actor writes s.from some_beat n within soon

    pub its_writes : (x : Entry) (T : List Entry) → IsTail (x ∷ T) (history doc (suc n)) → IsTail (o.e ∷ o.low) T → has (at_key election (write_of x.fact)) ≡ true → x.actor ≡ actor_of q
    its_writes = own_writes doc near far a e sound rules calm time one end q role steady renews y (omega (arith, s.least, s.from)) to acting o.e o.low write_high o.actor writes s.from some_beat n within soon

    -- what it wrote
    abbrev won : Won doc o.e o.low
    won = won0 doc near far a e sound rules calm time one end q role steady renews y (omega (arith, s.least, s.from)) to acting o.e o.low write_high o.actor writes s.from some_beat

    up_e : (h : List Entry) → IsTail h (history doc (suc n)) → IsTail h (history doc (suc e))
    up_e h at = tail_trans h (history doc (suc n)) (history doc (suc e)) at (later_tail doc (suc n) (suc e) (omega (arith, within)))

    -- a later write is by a call that was sent after the reply
    sent_since : (x : Entry) (T : List Entry) → IsTail (x ∷ T) (history doc (suc n)) → (w : Won doc x T) → w.who ≡ q → o.e.beat ≤ w.call.sent → IsSentSince q shown_low w.call T
    sent_since x T at w mine late = record {
      f = w.f;
      before = w.low;
      arrives = Some x.beat;
      position = w.asked;
      since = by_place (tails_meet (w.f ∷ w.low) shown_low (history doc (suc e)) asked reply_high);
      actor = w.f_actor ∙ ap actor_of mine;
      fact = w.f_fact;
      idle = at_sending.idle;
    }
      where
        asked : IsTail (w.f ∷ w.low) (history doc (suc e))
        asked = tail_trans (w.f ∷ w.low) T (history doc (suc e)) w.asked (tail_trans T (x ∷ T) (history doc (suc e)) (inr (tail_all T)) (up_e (x ∷ T) at))

        sending : (s : Sending doc a e q w.call (Some x.beat)) × (s.f ≡ w.f) × (s.before ≡ w.low)
        sending = sending_of doc rules near far a e e q role steady (time q.process role steady) (omega arith) one w.call (Some x.beat) w.f w.low asked (w.f_actor ∙ ap actor_of mine) w.f_fact (omega (arith, late, s.from))

        at_sending : IsFree q w.f w.low w.call
        at_sending = is_free doc rules (suc e) q role w.f w.low w.call (Some x.beat) asked (w.f_actor ∙ ap actor_of mine) w.f_fact sending.0.opens

        later : o.begun.f.beat < w.f.beat
        later = omega (arith, late, at_sending.sent, s.sent)

        above : IsTail (o.begun.f ∷ o.begun.before) w.low
        above = meet (tails_meet (o.begun.f ∷ o.begun.before) (w.f ∷ w.low) (history doc (suc e)) asked_high asked)
          where
            same : o.begun.f ∷ o.begun.before ≡ w.f ∷ w.low → IsTail (o.begun.f ∷ o.begun.before) w.low
            same is = absurd (omega (arith, later, ap (λ (z : Entry). z.beat) (same_head o.begun.f w.f o.begun.before w.low is)))

            meet : IsTail (o.begun.f ∷ o.begun.before) (w.f ∷ w.low) ⊎ IsTail (w.f ∷ w.low) (o.begun.f ∷ o.begun.before) → IsTail (o.begun.f ∷ o.begun.before) w.low
            meet (inl (inl is)) = same is
            meet (inl (inr below)) = below
            meet (inr (inl is)) = same (sym is)
            meet (inr (inr below)) =
                absurd (⊎_elim (λ lt. omega (arith, lt, later)) (λ here. omega (arith, here.0, later))
                (within_below (history doc (suc e)) (entries_are_ordered doc (suc e)) o.begun.f o.begun.before asked_high w.f (in_head w.f w.low o.begun.before below)))

        no_reply : w.f ∷ w.low ≡ shown_low → ⊥
        no_reply is = no_send (sym w.f_fact ∙ ap (λ (z : Entry). z.fact) (same_head w.f reply w.low s.before is))
          where
            no_send : Sends w.call (Some x.beat) ≡ Delivers s.call (Done s.version) true → ⊥
            no_send h = cc

        by_place : IsTail (w.f ∷ w.low) shown_low ⊎ IsTail shown_low (w.f ∷ w.low) → IsTail shown_low w.low
        by_place (inl (inl is)) = absurd (no_reply is)
        by_place (inl (inr below)) =
            absurd (none_is s.call (sym at_sending.idle ∙ waits_between q s.call s.before o.begun w.low above (tail_trans w.low (w.f ∷ w.low) s.before (inr (tail_all w.low)) below)))
        by_place (inr (inl is)) = absurd (no_reply (sym is))
        by_place (inr (inr below)) = below

    -- the record that it left
    pub first_own : Own doc q o.e.beat (o.e ∷ o.low)
    first_own = own (o.e ∷ o.low) (tail_all (o.e ∷ o.low)) first_high
      where
        first_high : IsTail (o.e ∷ o.low) (history doc (suc n))
        first_high =
            tail_trans (o.e ∷ o.low) (history doc (suc y)) (history doc (suc n)) (answer_high doc rules near far a e q role steady s.call (Done s.version) s.before y s.position o to) (later_tail doc (suc y) (suc n) (omega (arith, ge)))

    -- no such call wrote by a position
    abbrev pub NoneSince : List Entry → Type 0
    NoneSince h = (x : Entry) (T : List Entry) → IsTail (x ∷ T) h → IsTail (o.e ∷ o.low) T → (w : Won doc x T) → w.who ≡ q → IsSentSince q shown_low w.call T → ⊥

    more : (x : Entry) (T : List Entry) → IsTail (o.e ∷ o.low) T → IsTail (x ∷ T) (history doc (suc n)) → NoneSince (x ∷ T) → stored election T ≡ Some first_own.y → stored election (x ∷ T) ≡ Some first_own.y
    more x T low at none is = by_write (at_key election (write_of x.fact)) refl
      where
        by_write : (w : Option (Option Object)) → at_key election (write_of x.fact) ≡ w → stored election (x ∷ T) ≡ Some first_own.y
        by_write None nothing = top_stays x T nothing ∙ is
        by_write (Some object) some = absurd (none x T (inl refl) low w mine (sent_since x T at w mine late))
          where
            w : Won doc x T
            w =
                won_at doc near far a e sound rules calm time one end q role steady renews y (omega (arith, s.least, s.from)) to acting o.e o.low write_high o.actor writes s.from some_beat n within soon x T at low (ap has some)

            mine : w.who ≡ q
            mine = actor_is w.who q (sym w.actor ∙ its_writes x T at low (ap has some))

            late : o.e.beat ≤ w.call.sent
            late = omega (arith, first_own.since, base.0)
              where
                base : (first_own.y.beat ≤ w.call.sent) × WaitedFor doc plainly w.who w.call.sent first_own.y
                base = won_waited doc sound rules e end x T (up_e (x ∷ T) at) w first_own.y is

    pub stays_stored : (h : List Entry) → IsTail (o.e ∷ o.low) h → IsTail h (history doc (suc n)) → NoneSince h → stored election h ≡ Some first_own.y
    stays_stored [] low at none = absurd (nothing low)
      where
        nothing : o.e ∷ o.low ≡ [] → ⊥
        nothing is = cc
    stays_stored (x ∷ T) (inl is) at none = ap (stored election) (sym is) ∙ first_own.top
    stays_stored (x ∷ T) (inr low) at none =
        more x T low at none (stays_stored T low (tail_trans T (x ∷ T) (history doc (suc n)) (inr (tail_all T)) at) (λ z Z stands. none z Z (inr stands)))

    -- with the version that the reply told
    pub given : first_own.y.version ≡ s.version
    given =
        ap (λ (y : Held). y.version) (some_is first_own.y t.0.x (sym first_own.top ∙ t.0.top)) ∙ t.0.version
        ∙ sym (ap version_of (sym (ap (reply_or (Done s.version)) o.fact) ∙ ap (reply_or (Done s.version)) won.fact ∙ t.1.version))
      where
        t : Topped doc o.e o.low × Took doc plainly (record { who = won.who; call = won.call; reply = won.reply; comes = won.comes }) o.e.beat o.low
        t = won_topped doc sound rules e end o.e o.low write_high won

        version_of : Reply → Version
        version_of (Done version) = version
        version_of _ = s.version
