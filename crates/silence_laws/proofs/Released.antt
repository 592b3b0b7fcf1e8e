-- After a leader's release nobody comes to lead before four messages have travelled.
use Rattle.std.proofs.Common.{◌≡◌, ◌⊎◌, ◌<◌, ◌≤◌, ℕ, suc, ◌+◌, ◌*◌, ◌==◌, Bool, true, false, List, [], ◌∷◌, Option, Some, None, refl, sym, ap, ◌∙◌, subst, inl, inr, ⊎_elim, arith}
use Rattle.std.proofs.lemmas.Bool.{eq-eqb, eqb-true}
use Rattle.kube_objects.specs.declared.call.Reply.{Reply}
use Rattle.kube_objects.specs.declared.call.Reply.TheVariants.{Done}
use Rattle.kube_objects.specs.declared.call.Request.TheVariants.{Get, Update}
use Rattle.kube_objects.specs.declared.key.Key.{Key}
use Rattle.kube_objects.specs.declared.object.Object.{Object}
use Rattle.kube_objects.specs.Answers.{answer}
use Rattle.kube_objects.specs.Document.{Doc, is_controller}
use Rattle.kube_objects.specs.Elector.{Asks, moment, observed_at, leads, follow}
use Rattle.kube_objects.specs.Entry.{Entry, Identity, Call, Fact, First, Event, Starts, Stops, Sends, Answers, Delivers, Expires, Leads, Ends, Crashes, Stalls, Ticks, actor_of, entry, StepsDown, ReleaseBegins, ReleaseEnds, ReleaseStops}
use Rattle.kube_objects.specs.Identities.{identity_of, of_process}
use Rattle.kube_objects.specs.Keys.{key_eq}
use Rattle.kube_objects.specs.Newest.{when, has, join}
use Rattle.kube_objects.specs.Process.{alive, open_as, call_in}
use Rattle.kube_objects.specs.Stored.{Held, election, key_of, request_write, at_key, write_of, stored, holds, last_write, next_version}
use Rattle.kube_objects.specs.Wire.{back_of}
use Rattle.history.specs.History.{history}
use Rattle.history_laws.specs.Tails.{In, IsTail}
use Rattle.history_laws.proofs.Order.{entries_are_ordered}
use Rattle.history_laws.proofs.Plainly.{upper, some_is, none_is, true_is, false_is}
use Rattle.history_laws.proofs.Tailed.{tail_all, tail_trans, tail_of_empty, tails_meet, in_tail, later_tail, same_head}
use Rattle.lease_laws.proofs.EachKind.{top_stays}
use Rattle.call_laws.proofs.Above.{Place, place_of, in_head}
use Rattle.call_laws.proofs.Making.{MadeAs, MadeSend, MadeAnswer, HasStopped, IsOpen, Replied, are_made}
use Rattle.call_laws.proofs.Once.{answers_differ}
use Rattle.call_laws.proofs.Starting.{actor_is, sends_are_due}
use Rattle.call_laws.proofs.Turning.{IsDue, IsTurnSend}
use Rattle.takeover_laws.specs.Calm.{IsSteady, WritesElection}
use Rattle.takeover_laws.proofs.Asking.{leads_on}
use Rattle.takeover_laws.proofs.Unasked.{attempt_gets}
use Rattle.takeover_laws.proofs.Writers.{sends_of}
use Rattle.calm_laws.proofs.Asked.{IsWrite, next_is}
use Rattle.calm_laws.proofs.Origins.{Origin, origin}
use Rattle.stay_laws.proofs.Closing.{within_below}
use Rattle.stay_laws.proofs.Reacting.{leads_are_new}
use Rattle.stay_laws.proofs.Won.{Won, is_won}
use Rattle.silence_laws.specs.Least.{IsLead, ReleasesLast}
use Rattle.silence_laws.specs.Silence.{LeadsUntil, Bears, IsStopped, IsReleased}
use Rattle.silence_laws.proofs.Chain.{opens_of}
use Rattle.silence_laws.proofs.Kept.{Kept, kept_of, IsFound, found_kept, not_below}
use Rattle.silence_laws.proofs.Leading.{ItsWrite, its_write}
use Rattle.silence_laws.proofs.Leading as leading
use Rattle.calm_laws.proofs.Added.{StoppedUp, stops_up}
use Rattle.silence_laws.proofs.Looking.{asks_election}
use Rattle.silence_laws.proofs.Owning.{IsQuietIn, IsForeign, own_or_foreign}
use Rattle.silence_laws.proofs.Recent.{recent}
use Rattle.silence_laws.proofs.Rival.{expired_by, IsUpdate, accepted_update, IsFree, get_free}
use Rattle.silence_laws.proofs.Setting.{own_process}
use Rattle.silence_laws.proofs.Stopping.{stays_down}
use Rattle.silence_laws.proofs.Taken.{first, first_low, long_after, sent_before}
use Rattle.silence_laws.proofs.Waiting.{beats_rise, never_expires, counted_after}
use Rattle.silence_laws.proofs.Ways.{IsWay, Went, went, sent_at, request_way, reply_way, beat_before}

abbrev pub call_or : Call → Fact → Call
call_or c (Sends d arrives) = d
call_or c _ = c

-- of two entries right above one position
pub one_above : (x y : Entry) (T U h : List Entry) → IsTail (x ∷ T) h → IsTail (y ∷ U) h → T ≡ U → x ∷ T ≡ y ∷ U
one_above x y T U h at_x at_y same = ⊎_elim under over (tails_meet (x ∷ T) (y ∷ U) h at_x at_y)
  where
    under : IsTail (x ∷ T) (y ∷ U) → x ∷ T ≡ y ∷ U
    under (inl is) = is
    under (inr low) = absurd (not_below x T (subst (IsTail (x ∷ T)) (sym same) low))

    over : IsTail (y ∷ U) (x ∷ T) → x ∷ T ≡ y ∷ U
    over (inl is) = sym is
    over (inr low) = absurd (not_below y U (subst (IsTail (y ∷ U)) same low))

pub process_is : (p : ℕ) (q : Identity) → has (of_process p (actor_of q)) ≡ true → q.process ≡ p
process_is p q own = by_test (q.process == p) refl own
  where
    by_test : (t : Bool) → (q.process == p) ≡ t → has (when t q.incarnation) ≡ true → q.process ≡ p
    by_test true is own = eqb-true q.process p is
    by_test false is own = absurd (false_is own)

-- the facts of a write from a beat on
pub record IsAnswering (b : ℕ) (d : Fact) : Type 0 where
  pub call : Call
  pub reply : Reply
  pub comes : Option ℕ
  pub wrote : Option Object
  pub fact : d ≡ Answers call reply comes wrote
  pub since : b ≤ call.sent

pub answering : (b : ℕ) (d : Fact) → WritesElection b d → IsAnswering b d
answering b (Answers call reply comes wrote) is = record { call = call; reply = reply; comes = comes; wrote = wrote; fact = refl; since = is.0 }
answering b (First key object) is = absurd is
answering b (Event w version) is = absurd is
answering b Starts is = absurd is
answering b Crashes is = absurd is
answering b Stops is = absurd is
answering b (Stalls beats) is = absurd is
answering b StepsDown is = absurd is
answering b (ReleaseBegins at_deadline) is = absurd is
answering b ReleaseEnds is = absurd is
answering b ReleaseStops is = absurd is
answering b (Sends call arrives) is = absurd is
answering b (Delivers call reply counted) is = absurd is
answering b (Expires call) is = absurd is
answering b (Leads version) is = absurd is
answering b Ends is = absurd is
answering b (Ticks t) is = absurd is

-- ---- what a controller's write leaves is something

won_object : (doc : Doc) (x : Entry) (T : List Entry) (w : Won doc x T) (o : Option Object) → at_key election (write_of x.fact) ≡ Some o → (y : Object) × (o ≡ Some y)
won_object doc x T w o is = by_wrote w.wrote (sym (ap (λ d. at_key election (write_of d)) w.fact) ∙ is)
  where
    by_key : (y : Object) (t : Bool) → when t (Some y) ≡ Some o → (y : Object) × (o ≡ Some y)
    by_key y true is = (y, sym (some_is (Some y) o is))
    by_key y false is = absurd (none_is o is)

    by_wrote : (v : Option Object) → at_key election (request_write w.call.request v) ≡ Some o → (y : Object) × (o ≡ Some y)
    by_wrote None is = absurd (none_is o is)
    by_wrote (Some y) is = by_key y (key_eq (key_of w.call.request) election) is

pub record IsThere (from : ℕ) (h : List Entry) : Type 0 where
  pub y : Held
  pub top : stored election h ≡ Some y
  pub since : from ≤ y.beat

module _ (doc : Doc) (near far b e : ℕ) (q : Identity) (l : LeadsUntil doc near far b e q) (s : Bears doc near far b e q) where
  -- since a write something is stored, written no sooner
  new_there : (from : ℕ) (x : Entry) (T : List Entry) → IsTail (x ∷ T) (history doc (suc e)) → 1 ≤ x.beat → from ≤ x.beat → (o : Option Object) → at_key election (write_of x.fact) ≡ Some o → IsThere from (x ∷ T)
  new_there from x T high some late o is = by_object (won_object doc x T (is_won doc s.sound s.rules e s.end x T high some (ap has is)) o is)
    where
      by_object : (y : Object) × (o ≡ Some y) → IsThere from (x ∷ T)
      by_object y = record {
        y = record { version = next_version T; object = y.0; beat = x.beat; by = identity_of x.actor };
        top = ap (λ w. join (upper (holds T x.beat x.actor w) (last_write election T))) (is ∙ ap Some y.1);
        since = late;
      }

  there_since : (x : Entry) (T : List Entry) → 1 ≤ x.beat → has (at_key election (write_of x.fact)) ≡ true → (h : List Entry) → IsTail (x ∷ T) h → IsTail h (history doc (suc e)) → IsThere x.beat h
  there_since x T some writes [] low high = absurd (tail_of_empty x T low)
  there_since x T some writes (z ∷ Z) (inl same) high = by_write (at_key election (write_of z.fact)) refl (ap (λ (z : Entry). has (at_key election (write_of z.fact))) (sym one) ∙ writes)
    where
      one : x ≡ z
      one = same_head x z T Z same

      beat : x.beat ≡ z.beat
      beat = ap (λ (z : Entry). z.beat) one

      by_write : (o : Option (Option Object)) → at_key election (write_of z.fact) ≡ o → has (at_key election (write_of z.fact)) ≡ true → IsThere x.beat (z ∷ Z)
      by_write None none is = absurd (false_is (sym (ap has none) ∙ is))
      by_write (Some o) wrote is = new_there x.beat z Z high (omega (arith, some, beat)) (omega (arith, beat)) o wrote
  there_since x T some writes (z ∷ Z) (inr below) high = by_write (at_key election (write_of z.fact)) refl (there_since x T some writes Z below (tail_trans Z (z ∷ Z) (history doc (suc e)) (inr (tail_all Z)) high))
    where
      order : x.beat ≤ z.beat
      order = beats_rise doc e z Z high x T below

      by_write : (o : Option (Option Object)) → at_key election (write_of z.fact) ≡ o → IsThere x.beat Z → IsThere x.beat (z ∷ Z)
      by_write None none t = record { y = t.y; top = top_stays z Z none ∙ t.top; since = t.since }
      by_write (Some o) wrote t = new_there x.beat z Z high (omega (arith, some, order)) order o wrote

  module _ (stop : IsStopped doc b e q) (rel : IsReleased doc near far b e q) where
    -- ---- the stop and the release

    b_e : IsTail (history doc (suc b)) (history doc (suc e))
    b_e = later_tail doc (suc b) (suc e) (omega (arith, l.within))

    abbrev pub U : List Entry
    U = (place_of (entry b 1 q Stops) (history doc (suc b)) stop.stop).before

    S_e : IsTail (entry b 1 q Stops ∷ U) (history doc (suc e))
    S_e = tail_trans (entry b 1 q Stops ∷ U) (history doc (suc b)) (history doc (suc e)) (place_of (entry b 1 q Stops) (history doc (suc b)) stop.stop).position b_e

    pub mine : (x : Entry) (who : Identity) → x.actor ≡ actor_of who → who.process ≡ q.process → has (of_process q.process x.actor) ≡ true
    mine x who by same = subst (λ p. has (of_process p x.actor) ≡ true) same (own_process who x.actor by)

    -- its process is down from then on
    down : (h : List Entry) → IsTail (entry b 1 q Stops ∷ U) h → IsTail h (history doc (suc e)) → alive q.process h ≡ None
    down = stays_down doc b e q stop (entry b 1 q Stops) U (omega arith) refl (own_process q (actor_of q) refl)

    -- an entry of a later step or beat stands above the stop
    above_stop : (x : Entry) (T : List Entry) → IsTail (x ∷ T) (history doc (suc e)) → b ≤ x.beat → 2 ≤ x.step → IsTail (entry b 1 q Stops ∷ U) T
    above_stop x T at late step = by_place (tails_meet (entry b 1 q Stops ∷ U) (x ∷ T) (history doc (suc e)) S_e at)
      where
        one_step : entry b 1 q Stops ≡ x → ⊥
        one_step same = omega (arith, step, ap (λ (z : Entry). z.step) same)

        by_place : IsTail (entry b 1 q Stops ∷ U) (x ∷ T) ⊎ IsTail (x ∷ T) (entry b 1 q Stops ∷ U) → IsTail (entry b 1 q Stops ∷ U) T
        by_place (inl (inl same)) = absurd (one_step (same_head (entry b 1 q Stops) x U T same))
        by_place (inl (inr low)) = low
        by_place (inr (inl same)) = absurd (one_step (sym (same_head x (entry b 1 q Stops) T U same)))
        by_place (inr (inr low)) =
            absurd (⊎_elim (λ lt. omega (arith, lt, late)) (λ here. omega (arith, here.1, step))
            (within_below (history doc (suc e)) (entries_are_ordered doc (suc e)) (entry b 1 q Stops) U S_e x (in_head x T U low)))

    -- another stop of the process in these beats is the same
    one_stop : (x : Entry) (T : List Entry) (who : Identity) → IsTail (x ∷ T) (history doc (suc e)) → b ≤ x.beat → x.fact ≡ Stops → x.actor ≡ actor_of who → who.process ≡ q.process → x ∷ T ≡ entry b 1 q Stops ∷ U
    one_stop x T who at late fact by same = by_place (tails_meet (x ∷ T) (entry b 1 q Stops ∷ U) (history doc (suc e)) at S_e)
      where
        up_x : StoppedUp x T
        up_x = stops_up doc s.rules (suc e) x T at fact

        up_s : StoppedUp (entry b 1 q Stops) U
        up_s = stops_up doc s.rules (suc e) (entry b 1 q Stops) U S_e refl

        clash : (p : Identity) (h : List Entry) → alive p.process h ≡ Some p.incarnation → p.process ≡ q.process → alive q.process h ≡ None → ⊥
        clash p h up is none = none_is p.incarnation (sym none ∙ ap (λ p. alive p h) (sym is) ∙ up)

        by_place : IsTail (x ∷ T) (entry b 1 q Stops ∷ U) ⊎ IsTail (entry b 1 q Stops ∷ U) (x ∷ T) → x ∷ T ≡ entry b 1 q Stops ∷ U
        by_place (inl (inl is)) = is
        by_place (inr (inl is)) = sym is
        by_place (inl (inr low)) =
            absurd (clash up_s.q U up_s.up (ap (λ (p : Identity). p.process) (actor_is up_s.q q (sym up_s.by)))
            (stays_down doc b e q stop x T late fact (mine x who by same) U low (tail_trans U (entry b 1 q Stops ∷ U) (history doc (suc e)) (inr (tail_all U)) S_e)))
        by_place (inr (inr low)) =
            absurd (clash up_x.q T up_x.up (ap (λ (p : Identity). p.process) (actor_is up_x.q who (sym up_x.by ∙ by)) ∙ same) (down T low (tail_trans T (x ∷ T) (history doc (suc e)) (inr (tail_all T)) at)))

    -- what its process sends then is sent right after the stop
    sent_after : (x : Entry) (T : List Entry) (who : Identity) (call : Call) (arrives : Option ℕ) → IsTail (x ∷ T) (history doc (suc e)) → b ≤ x.beat → x.actor ≡ actor_of who → who.process ≡ q.process → x.fact ≡ Sends call arrives → T ≡ entry b 1 q Stops ∷ U
    sent_after x T who call arrives at late by same fact = by_free (made.free role_made)
      where
        made : MadeSend doc x.beat x.step x.actor call arrives T
        made = subst (λ d. MadeAs doc x.beat x.step x.actor d T) fact (are_made doc s.rules (suc e) x T at)

        whose : made.q.process ≡ q.process
        whose = ap (λ (p : Identity). p.process) (actor_is made.q who (sym made.by ∙ by)) ∙ same

        role_made : is_controller doc made.q.process ≡ true
        role_made = ap (is_controller doc) whose ∙ l.role

        T_e : IsTail T (history doc (suc e))
        T_e = tail_trans T (x ∷ T) (history doc (suc e)) (inr (tail_all T)) at

        by_free : HasStopped x.beat made.q made.kind T ⊎ ((alive made.q.process T ≡ Some made.q.incarnation) × (call_in made.q T ≡ None) × (3 ≤ x.step) × IsOpen made.kind) → T ≡ entry b 1 q Stops ∷ U
        by_free (inr free) =
            absurd (none_is made.q.incarnation (sym (down T (above_stop x T at late (omega (arith, free.2))) T_e) ∙ ap (λ p. alive p T) (sym whose) ∙ free.0))
        by_free (inl stopped) =
            stopped.is ∙ one_stop (entry x.beat 1 made.q Stops) stopped.before made.q (subst (λ h. IsTail h (history doc (suc e))) stopped.is T_e) late refl refl whose

    abbrev pub F : List Entry
    F = (place_of (entry b 1 q (Sends rel.call (Some rel.at))) (history doc (suc b)) rel.send).before

    pub F_e : IsTail (entry b 1 q (Sends rel.call (Some rel.at)) ∷ F) (history doc (suc e))
    F_e = tail_trans (entry b 1 q (Sends rel.call (Some rel.at)) ∷ F) (history doc (suc b)) (history doc (suc e)) (place_of (entry b 1 q (Sends rel.call (Some rel.at))) (history doc (suc b)) rel.send).position b_e

    abbrev pub R : List Entry
    R = (place_of (entry rel.at 2 q (Answers rel.call (Done rel.version) rel.comes (Some rel.object))) (history doc (suc e)) rel.accepted).before

    pub R_e : IsTail (entry rel.at 2 q (Answers rel.call (Done rel.version) rel.comes (Some rel.object)) ∷ R) (history doc (suc e))
    R_e = (place_of (entry rel.at 2 q (Answers rel.call (Done rel.version) rel.comes (Some rel.object))) (history doc (suc e)) rel.accepted).position

    pub low_e : IsTail R (history doc (suc e))
    low_e = tail_trans R (entry rel.at 2 q (Answers rel.call (Done rel.version) rel.comes (Some rel.object)) ∷ R) (history doc (suc e)) (inr (tail_all R)) R_e

    -- what its process sends from b on is the release
    pub sent_release : (x : Entry) (T : List Entry) (who : Identity) (call : Call) (arrives : Option ℕ) → IsTail (x ∷ T) (history doc (suc e)) → b ≤ x.beat → x.actor ≡ actor_of who → who.process ≡ q.process → x.fact ≡ Sends call arrives
        → x ∷ T ≡ entry b 1 q (Sends rel.call (Some rel.at)) ∷ F
    sent_release x T who call arrives at late by same fact =
        one_above x (entry b 1 q (Sends rel.call (Some rel.at))) T F (history doc (suc e)) at F_e
        (sent_after x T who call arrives at late by same fact ∙ sym (sent_after (entry b 1 q (Sends rel.call (Some rel.at))) F q rel.call (Some rel.at) F_e (omega arith) refl refl refl))

    -- from b on its process writes it by the release alone
    pub the_release : (x : Entry) (T : List Entry) → IsTail (x ∷ T) (history doc (suc e)) → has (of_process q.process x.actor) ≡ true → WritesElection b x.fact → x ∷ T ≡ entry rel.at 2 q (Answers rel.call (Done rel.version) rel.comes (Some rel.object)) ∷ R
    the_release x T at_e own writes = same_answer
      where
        a : IsAnswering b x.fact
        a = answering b x.fact writes

        made : MadeAnswer doc x.beat x.step x.actor a.call a.reply a.comes a.wrote T
        made = subst (λ d. MadeAs doc x.beat x.step x.actor d T) a.fact (are_made doc s.rules (suc e) x T at_e)

        asked : Place made.arriving.e T
        asked = place_of made.arriving.e T made.arriving.stands

        asked_e : IsTail (made.arriving.e ∷ asked.before) (history doc (suc e))
        asked_e = tail_trans (made.arriving.e ∷ asked.before) (x ∷ T) (history doc (suc e)) (inr asked.position) at_e

        sent : (made.arriving.e.actor ≡ actor_of made.s.who) × (made.arriving.e.fact ≡ Sends made.s.call made.s.arrives)
        sent = sends_of made.arriving.e.actor made.arriving.e.fact made.s made.arriving.is

        process : made.s.who.process ≡ q.process
        process = process_is q.process made.s.who (ap (λ who. has (of_process q.process who)) (sym made.by) ∙ own)

        since : b ≤ made.arriving.e.beat
        since = omega (arith, a.since, ap (λ (c : Call). c.sent) made.call_is, sent_at doc s.rules (suc e) made.s.who made.arriving.e asked.before made.s.call made.s.arrives asked_e sent.0 sent.1)

        same_sending : made.arriving.e ∷ asked.before ≡ entry b 1 q (Sends rel.call (Some rel.at)) ∷ F
        same_sending = sent_release made.arriving.e asked.before made.s.who made.s.call made.s.arrives asked_e since sent.0 process sent.1

        that : made.arriving.e ≡ entry b 1 q (Sends rel.call (Some rel.at))
        that = same_head made.arriving.e (entry b 1 q (Sends rel.call (Some rel.at))) asked.before F same_sending

        whose : made.s.who ≡ q
        whose = actor_is made.s.who q (sym sent.0 ∙ ap (λ (x : Entry). x.actor) that)

        call_is : a.call ≡ rel.call
        call_is = made.call_is ∙ sym (ap (call_or made.s.call) sent.1) ∙ ap (λ (x : Entry). call_or made.s.call x.fact) that

        same_answer : x ∷ T ≡ entry rel.at 2 q (Answers rel.call (Done rel.version) rel.comes (Some rel.object)) ∷ R
        same_answer =
            answers_differ doc s.rules (suc e) x (entry rel.at 2 q (Answers rel.call (Done rel.version) rel.comes (Some rel.object))) T R
            (record { who = made.s.who; call = a.call; reply = a.reply; comes = a.comes }) (record { who = q; call = rel.call; reply = Done rel.version; comes = rel.comes }) at_e R_e
            (ap (λ d. back_of x.actor d) a.fact ∙ ap (λ who. back_of who (Answers a.call a.reply a.comes a.wrote)) made.by) refl whose (ap (λ (c : Call). c.number) call_is)

    -- so before its release is accepted by calls of before
    pub quiet : IsQuietIn b q.process R
    quiet x stands own writes =
        let place : Place x R = place_of x R stands in
        not_below (entry rel.at 2 q (Answers rel.call (Done rel.version) rel.comes (Some rel.object))) R
        (subst (λ g. IsTail g R) (the_release x place.before (tail_trans (x ∷ place.before) R (history doc (suc e)) place.position low_e) own writes) place.position)

    pub release_writes : has (at_key election (request_write rel.call.request (Some rel.object))) ≡ true
    release_writes =
        ap (λ k. has (when (key_eq k election) (Some rel.object)))
        (asks_election doc s.sound s.rules e s.end q l.role (entry b 1 q (Sends rel.call (Some rel.at))) rel.call (Some rel.at) (in_head (entry b 1 q (Sends rel.call (Some rel.at))) F (history doc (suc e)) F_e) refl refl)

    -- the leader's writes are seen to the release: no foreign one came so late
    pub none_foreign : IsForeign doc near far b e q l s R low_e quiet (first doc near far b e q l s R low_e quiet) R → ⊥
    none_foreign f =
        omega (
          arith,
          long_after doc near far b e q l s R low_e quiet f,
          sent_before doc near far b e q l s R low_e quiet f,
          recent doc near far b e q l s R low_e quiet f,
          beats_rise doc e (entry rel.at 2 q (Answers rel.call (Done rel.version) rel.comes (Some rel.object))) R R_e f.x f.before f.position,
          rel.most,
          s.one,
          s.ways,
        )

    -- ---- the lead

    module _ (k : ℕ) (lead : IsLead doc b e q k) where
      abbrev its : ItsWrite doc near far b e q l s k lead
      its = its_write doc near far b e q l s k lead

      abbrev o : Origin doc lead.c its.led.call its.led.reply its.led.before lead.x.beat
      o = its.o

      abbrev w : Won doc o.e o.low
      w = its.w

      -- it is of another process
      other_process : lead.c.process ≡ q.process → ⊥
      other_process same =
          none_is lead.c.incarnation
          (sym (down its.led.before (above_stop (entry lead.x.beat 3 lead.c (Delivers its.led.call its.led.reply true)) its.led.before its.heard_e (omega (arith, lead.from, lead.at)) (omega arith)) its.led_e)
          ∙ ap (λ p. alive p its.led.before) (sym same)
          ∙ (counted_after doc s.rules (suc e) lead.c (entry lead.x.beat 3 lead.c (Delivers its.led.call its.led.reply true)) its.led.before its.led.call its.led.reply its.heard_e refl refl).up)

      passing : IsSteady doc near far 0 e lead.c.process
      passing = l.others lead.c.process its.role other_process

      first_below : IsTail (first doc near far b e q l s R low_e quiet) o.low
      first_below = first_low doc near far b e q l s R low_e quiet o.e o.low its.o_e (omega (arith, its.late))

      -- nobody else wrote before the release was accepted
      not_sooner : IsTail (o.e ∷ o.low) R → ⊥
      not_sooner low = none_foreign found
        where
          found : IsForeign doc near far b e q l s R low_e quiet (first doc near far b e q l s R low_e quiet) R
          found =
              ⊎_elim (λ all. absurd (lead.other (actor_is lead.c q (sym o.actor ∙ all o.e o.low low first_below its.writes)))) (λ f. f)
              (own_or_foreign doc near far b e q l s R low_e quiet (first doc near far b e q l s R low_e quiet) R (tail_trans (first doc near far b e q l s R low_e quiet) (o.e ∷ o.low) R (inr first_below) low))

      after_release : IsTail (entry rel.at 2 q (Answers rel.call (Done rel.version) rel.comes (Some rel.object)) ∷ R) o.low
      after_release = by_place (tails_meet (entry rel.at 2 q (Answers rel.call (Done rel.version) rel.comes (Some rel.object)) ∷ R) (o.e ∷ o.low) (history doc (suc e)) R_e its.o_e)
        where
          differ : entry rel.at 2 q (Answers rel.call (Done rel.version) rel.comes (Some rel.object)) ≡ o.e → ⊥
          differ same = lead.other (actor_is lead.c q (sym o.actor ∙ sym (ap (λ (x : Entry). x.actor) same)))

          by_place : IsTail (entry rel.at 2 q (Answers rel.call (Done rel.version) rel.comes (Some rel.object)) ∷ R) (o.e ∷ o.low) ⊎ IsTail (o.e ∷ o.low) (entry rel.at 2 q (Answers rel.call (Done rel.version) rel.comes (Some rel.object)) ∷ R)
              → IsTail (entry rel.at 2 q (Answers rel.call (Done rel.version) rel.comes (Some rel.object)) ∷ R) o.low
          by_place (inl (inl same)) = absurd (differ (same_head (entry rel.at 2 q (Answers rel.call (Done rel.version) rel.comes (Some rel.object))) o.e R o.low same))
          by_place (inl (inr low)) = low
          by_place (inr (inl same)) = absurd (differ (sym (same_head o.e (entry rel.at 2 q (Answers rel.call (Done rel.version) rel.comes (Some rel.object))) o.low R same)))
          by_place (inr (inr low)) = absurd (not_sooner low)

      -- so it wrote over a record that is no older
      low_o : IsTail o.low (history doc (suc e))
      low_o = tail_trans o.low (o.e ∷ o.low) (history doc (suc e)) (inr (tail_all o.low)) its.o_e

      base : IsThere rel.at o.low
      base = there_since (entry rel.at 2 q (Answers rel.call (Done rel.version) rel.comes (Some rel.object))) R (omega (arith, rel.least, s.one)) release_writes o.low after_release low_o

      kept : Kept o.low base.y
      kept = kept_of o.low base.y base.top

      w_low : IsTail w.low o.low
      w_low = tail_trans w.low (w.f ∷ w.low) o.low (inr (tail_all w.low)) w.asked

      unstopped : (x : Entry) → In x (history doc (suc e)) → x.fact ≡ Stops → has (of_process lead.c.process x.actor) ≡ true → ⊥
      unstopped x stands fact own = never (passing.stops x stands fact own)
        where
          never : x.beat < 0 → ⊥
          never lt = omega (arith, lt)

      opens : open_as w.call.kind w.call ≡ Some w.call
      opens = opens_of doc s.rules e lead.c its.role unstopped w.f w.low w.call (Some o.e.beat) its.asked_e its.f_actor w.f_fact

      way : IsWay near far w.f.beat o.e.beat
      way = request_way doc s.rules near far e lead.c its.role passing w.f w.low w.call o.e.beat its.asked_e its.f_actor w.f_fact opens (λ j low high soon. l.goes j (omega (arith, high, beat_before doc e o.e o.low its.o_e)))

      made_answer : MadeAnswer doc o.e.beat o.e.step o.e.actor w.call w.reply w.comes w.wrote o.low
      made_answer = subst (λ d. MadeAs doc o.e.beat o.e.step o.e.actor d o.low) w.fact (are_made doc s.rules (suc e) o.e o.low its.o_e)

      update : IsUpdate w.call.request base.y
      update =
          accepted_update w.call.request w.reply o.low base.y (asks_election doc s.sound s.rules e s.end lead.c its.role w.f w.call (Some o.e.beat) (in_head w.f w.low (history doc (suc e)) its.asked_e) its.f_actor w.f_fact)
          (made_answer.reply_is ∙ ap (λ (c : Call). answer c.request o.low) (sym made_answer.call_is)) base.top w.so

      -- it hadn't led before
      unled : leads lead.c w.low ≡ false
      unled = by_test (leads lead.c w.low) refl
        where
          no_lead : leads lead.c lead.before ≡ false
          no_lead = leads_are_new doc s.rules (suc e) lead.c lead.x lead.before lead.version lead.position (leading.facts doc near far b e q l s k lead).0 (leading.facts doc near far b e q l s k lead).1

          below : IsTail w.low lead.before
          below =
              tail_trans w.low its.led.before lead.before
              (tail_trans w.low (o.e ∷ o.low) its.led.before (inr w_low) o.answered)
              (subst (IsTail its.led.before) (sym its.led.is) (inr (tail_all its.led.before)))

          by_test : (b : Bool) → leads lead.c w.low ≡ b → leads lead.c w.low ≡ false
          by_test false is = is
          by_test true is = absurd (true_is (sym (leads_on lead.c w.low lead.before below is) ∙ no_lead))

      made : MadeSend doc w.f.beat w.f.step w.f.actor w.call (Some o.e.beat) w.low
      made = subst (λ d. MadeAs doc w.f.beat w.f.step w.f.actor d w.low) w.f_fact (are_made doc s.rules (suc e) w.f w.low its.asked_e)

      mine_made : made.q ≡ lead.c
      mine_made = actor_is made.q lead.c (sym made.by ∙ its.f_actor)

      role_made : is_controller doc made.q.process ≡ true
      role_made = subst (λ (p : Identity). is_controller doc p.process ≡ true) (sym mine_made) its.role

      request_made : made.request ≡ Update election update.version update.lease
      request_made = sym (ap (λ (c : Call). c.request) made.call_is) ∙ update.is

      -- and the Get that found the record was answered after the release
      in_turn : w.f.step ≡ 4 → ⊥
      in_turn four = by_due (subst (λ d. IsTurnSend doc w.f.beat lead.c d w.low) w.f_fact (sends_are_due doc s.rules (suc e) w.f w.low its.asked_e four lead.c its.f_actor) its.role)
        where
          get_not : Get election ≡ Update election update.version update.lease → ⊥
          get_not is = cc

          by_due : IsDue doc w.f.beat lead.c w.call w.low → ⊥
          by_due (inl fast) =
              let x = expired_by lead.c w.f.beat w.low fast in
              never_expires doc s.rules near far e s.one lead.c its.role passing (s.calls lead.c.process its.role) x.x x.before x.call
              (tail_trans (x.x ∷ x.before) w.low (history doc (suc e)) x.position (tail_trans w.low (w.f ∷ w.low) (history doc (suc e)) (inr (tail_all w.low)) its.asked_e)) x.actor x.fact
          by_due (inr due) = get_not (sym (attempt_gets doc lead.c w.f.beat w.low unled) ∙ sym due.1 ∙ update.is)

      replied : Replied doc w.f.beat made.q made.request w.low → rel.at + near ≤ w.f.beat
      replied p = omega (arith, base.since, kept.beat, beats_rise doc e o2.e o2.low o2_e kept.z kept.before found.low, trip.reply.least)
        where
          get : (key : Key) × (p.waiting.request ≡ Get key)
          get = (next_is made.q (moment doc made.q w.f.beat) (observed_at doc made.q w.low) p.waiting.kind p.waiting.request p.reply made.request p.follows).written (subst IsWrite (sym request_made) tt)

          free : IsFree made.q (moment doc made.q w.f.beat) (observed_at doc made.q w.low) p.reply update.version
          free =
              get_free made.q (moment doc made.q w.f.beat) (observed_at doc made.q w.low) p.reply update.version update.lease
              (ap (λ request. follow made.q (moment doc made.q w.f.beat) (observed_at doc made.q w.low) p.waiting.kind request p.reply) (sym get.1) ∙ p.follows ∙ ap Asks request_made)

          low_is : w.low ≡ entry w.f.beat 3 lead.c (Delivers p.waiting p.reply true) ∷ p.before
          low_is = p.is ∙ ap (λ c. entry w.f.beat 3 c (Delivers p.waiting p.reply true) ∷ p.before) mine_made

          at_d : IsTail (entry w.f.beat 3 lead.c (Delivers p.waiting p.reply true) ∷ p.before) o.low
          at_d = subst (λ g. IsTail g o.low) low_is w_low

          d_e : IsTail (entry w.f.beat 3 lead.c (Delivers p.waiting p.reply true) ∷ p.before) (history doc (suc e))
          d_e = tail_trans (entry w.f.beat 3 lead.c (Delivers p.waiting p.reply true) ∷ p.before) o.low (history doc (suc e)) at_d low_o

          p_e : IsTail p.before (history doc (suc e))
          p_e = tail_trans p.before (entry w.f.beat 3 lead.c (Delivers p.waiting p.reply true) ∷ p.before) (history doc (suc e)) (inr (tail_all p.before)) d_e

          o2 : Origin doc lead.c p.waiting p.reply p.before w.f.beat
          o2 = origin doc s.rules (suc e) lead.c (entry w.f.beat 3 lead.c (Delivers p.waiting p.reply true)) p.before p.waiting p.reply d_e refl refl

          o2_e : IsTail (o2.e ∷ o2.low) (history doc (suc e))
          o2_e = tail_trans (o2.e ∷ o2.low) p.before (history doc (suc e)) o2.answered p_e

          low2 : IsTail o2.low o.low
          low2 =
              tail_trans o2.low (o2.e ∷ o2.low) o.low (inr (tail_all o2.low))
              (tail_trans (o2.e ∷ o2.low) (entry w.f.beat 3 lead.c (Delivers p.waiting p.reply true) ∷ p.before) o.low (inr o2.answered) at_d)

          key2 : key_of p.waiting.request ≡ election
          key2 =
              asks_election doc s.sound s.rules e s.end lead.c its.role o2.begun.f p.waiting o2.begun.arrives
              (in_head o2.begun.f o2.begun.before (history doc (suc e)) (tail_trans (o2.begun.f ∷ o2.begun.before) p.before (history doc (suc e)) o2.begun.position p_e)) o2.begun.actor o2.begun.fact

          get_election : p.waiting.request ≡ Get election
          get_election = get.1 ∙ ap Get (sym (ap key_of get.1) ∙ key2)

          found : IsFound o.low base.y base.top kept o2.low free.lease
          found =
              found_kept o.low base.y base.top kept o2.low low2 update.version free.lease (ap (λ q. answer q o2.low) (sym get_election) ∙ sym o2.reply_is ∙ free.found)
              (ap (λ n. record { 0 = n }) update.same)

          trip : Went doc s.rules near far e lead.c its.role passing o2.begun.f.beat o2.e.beat w.f.beat
          trip = went doc s.rules near far e lead.c its.role passing p.waiting p.reply p.before w.f.beat o2 p_e (beat_before doc e w.f w.low its.asked_e)

      sent_late : rel.at + near ≤ w.f.beat
      sent_late = by_step made.step_is
        where
          by_step : (w.f.step ≡ 1) ⊎ ((w.f.step ≡ 3) ⊎ (w.f.step ≡ 4)) → rel.at + near ≤ w.f.beat
          by_step (inr (inr four)) = absurd (in_turn four)
          by_step (inr (inl three)) = replied (made.replied role_made three)
          by_step (inl one_is) = absurd (stopped_or (made.free role_made))
            where
              stopped_or : HasStopped w.f.beat made.q made.kind w.low ⊎ ((alive made.q.process w.low ≡ Some made.q.incarnation) × (call_in made.q w.low ≡ None) × (3 ≤ w.f.step) × IsOpen made.kind) → ⊥
              stopped_or (inr free) = omega (arith, free.2, one_is)
              stopped_or (inl stopped) =
                  unstopped (entry w.f.beat 1 made.q Stops) (in_tail (entry w.f.beat 1 made.q Stops) (w.f ∷ w.low) (history doc (suc e)) its.asked_e (inr (subst (In (entry w.f.beat 1 made.q Stops)) (sym stopped.is) (inl refl)))) refl
                  (ap (λ b. has (when b made.q.incarnation)) (eq-eqb made.q.process lead.c.process (ap (λ (p : Identity). p.process) mine_made)))

      pub four_ways : b + 4 * near ≤ k
      four_ways = omega (arith, rel.least, sent_late, way.least, told.least, lead.at)
        where
          told : IsWay near far o.e.beat lead.x.beat
          told = reply_way doc s.rules near far e lead.c its.role passing o.e o.low its.o_e o.step lead.x.beat (leading.k_e doc near far b e q l s k lead) o.comes_is

pub releases_last : ReleasesLast
releases_last doc near far b e q l s stop rel k lead = four_ways doc near far b e q l s stop rel k lead
