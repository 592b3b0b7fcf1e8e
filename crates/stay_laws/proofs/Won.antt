-- An accepted write of the election Lease is the success of a controller's call, and who keeps acting never gives up its lead.
use Rattle.std.proofs.Common.{◌≡◌, ◌≤◌, ℕ, suc, ◌&&◌, Bool, true, false, List, [], ◌∷◌, Option, Some, None, refl, sym, ap, ◌∙◌, subst, inl, inr, arith, length}
use Rattle.kube_objects.specs.declared.call.Reply.{Reply}
use Rattle.kube_objects.specs.declared.call.Request.{Request}
use Rattle.kube_objects.specs.declared.call.Request.TheVariants.{Get, Create, Update, PostStatus}
use Rattle.kube_objects.specs.declared.deed.Actor.{Actor}
use Rattle.kube_objects.specs.declared.object.Object.{Object}
use Rattle.kube_objects.specs.Answers.{answer}
use Rattle.kube_objects.specs.Document.{Doc, processes, end_beat, is_controller}
use Rattle.kube_objects.specs.Elector.{succeeds, deadline, is_before}
use Rattle.kube_objects.specs.Entry.{Entry, Identity, Call, Fact, First as FirstPut, Event as Happens, Stops, Sends, Answers, Ticks, actor_of, StepsDown, ReleaseBegins, ReleaseEnds, ReleaseStops}
use Rattle.kube_objects.specs.Identities.{is_by}
use Rattle.kube_objects.specs.Keys.{key_eq}
use Rattle.kube_objects.specs.Newest.{added, has}
use Rattle.kube_objects.specs.Process.{alive, is_present, is_stop, stops}
use Rattle.kube_objects.specs.Stored.{election, key_of, request_write, event_write, at_key, write_of}
use Rattle.kube_objects.specs.Wire.{Sent, back_of}
use Rattle.kube_objects.specs.Clocks.{local}
use Rattle.kube_objects.specs.Own.{ReleasesByStop}
use Rattle.history.specs.History.{history, at_turn}
use Rattle.history.specs.Premise.{greatest_below}
use Rattle.history.specs.Safe.{Acts}
use Rattle.history.specs.Sound.{IsSound}
use Rattle.history.specs.Steps.{stamp}
use Rattle.history_laws.specs.Tails.{IsTail}
use Rattle.history_laws.proofs.Counting.{present_is}
use Rattle.history_laws.proofs.Plainly.{true_is, false_is, and_left, and_right}
use Rattle.history_laws.proofs.Tailed.{tail_all, tail_trans, turn_tail, before_turn, later_tail}
use Rattle.lease_laws.proofs.Claims.{term_of}
use Rattle.lease_laws.proofs.EachKind.{elsewhere}
use Rattle.lease_laws.proofs.Histories.{bears_own, turn_right}
use Rattle.lease_laws.proofs.Premises.{rates_at_most}
use Rattle.lease_laws.proofs.Quiet.{quiet_tick, deletes_elsewhere}
use Rattle.lease_laws.proofs.Steps.{sound_of}
use Rattle.call_laws.proofs.Above.{Above, above_cut, in_head, place_of}
use Rattle.call_laws.proofs.Making.{MadeAs, are_made}
use Rattle.call_laws.proofs.Once.{due_at}
use Rattle.call_laws.proofs.Placing.{from_beat}
use Rattle.takeover_laws.specs.Calm.{IsSteady}
use Rattle.takeover_laws.proofs.Records.{asks_elsewhere, wrote_key}
use Rattle.takeover_laws.proofs.Standing.{controllers_first}
use Rattle.takeover_laws.proofs.Closing.{by_process}
use Rattle.takeover_laws.proofs.Writers.{IsWon, won_of, sends_of}

-- ---- who writes

-- an accepted write of the election Lease: the answer to a controller's call, which succeeds, and the sending of that call
pub record Won (doc : Doc) (x : Entry) (T : List Entry) : Type 0 where
  pub who : Identity
  pub role : is_controller doc who.process ≡ true
  pub actor : x.actor ≡ actor_of who
  pub call : Call
  pub reply : Reply
  pub comes : Option ℕ
  pub wrote : Option Object
  pub fact : x.fact ≡ Answers call reply comes wrote
  pub so : succeeds call.request reply ≡ true
  pub f : Entry
  pub low : List Entry
  pub asked : IsTail (f ∷ low) T
  pub f_actor : f.actor ≡ actor_of who
  pub f_fact : f.fact ≡ Sends call (Some x.beat)

-- what accepts a write is a success
won_succeeds : (r : Request) (reply : Reply) → IsWon r reply → succeeds r reply ≡ true
won_succeeds (Get key) reply won = absurd won
won_succeeds (Create key lease) reply won = ap (succeeds (Create key lease)) won.1
won_succeeds (Update key given lease) reply won = ap (succeeds (Update key given lease)) won.1
won_succeeds (PostStatus name status at) reply won = absurd won

-- what isn't there isn't had
none_has : {A : Type 0} (o : Option A) → o ≡ None → has o ≡ true → ⊥
none_has o is some = false_is (sym (ap has is) ∙ some)

module _ (doc : Doc) (sound : IsSound doc) (rules : ReleasesByStop doc) (k : ℕ) (end : k ≤ end_beat doc) where
  -- by the kind of the entry
  by_fact : (x : Entry) (T : List Entry) (who : Actor) (d : Fact) → x.actor ≡ who → x.fact ≡ d → IsTail (x ∷ T) (history doc (suc k)) → 1 ≤ x.beat → has (at_key election (write_of d)) ≡ true → MadeAs doc x.beat x.step who d T → Won doc x T
  by_fact x T who (FirstPut key object) actor fact position from is made = absurd (omega (arith, from, made))
  by_fact x T who (Happens w version) actor fact position from is made =
      absurd (none_has (at_key election (event_write w version))
      (ap (λ w. at_key election (event_write w version)) made.3 ∙ ap (λ v. at_key election (event_write (stamp doc x.beat made.1) v)) made.4 ∙ elsewhere doc x.beat made.1 T (sound_of doc x.beat made.1 sound made.2)) is)
  by_fact x T who (Ticks t) actor fact position from is made =
      absurd (none_has (at_key election (write_of (Ticks t))) (quiet_tick x.beat made.0 t (deletes_elsewhere doc x.beat made.0 t T made.2)).mute.write is)
  by_fact x T who (Answers call reply comes wrote) actor fact position from is made = by_role (is_controller doc s.who.process) refl
    where
      s : Sent
      s = made.s

      place : (low : List Entry) × IsTail (made.arriving.e ∷ low) T
      place = let p = place_of made.arriving.e T made.arriving.stands in (p.before, p.position)

      sent : (made.arriving.e.actor ≡ actor_of s.who) × (made.arriving.e.fact ≡ Sends s.call s.arrives)
      sent = sends_of made.arriving.e.actor made.arriving.e.fact s made.arriving.is

      won : IsWon s.call.request (answer s.call.request T)
      won = won_of s.call.request T (subst (λ o. has (at_key election (request_write s.call.request o)) ≡ true) made.written_is (subst (λ (c : Call). has (at_key election (request_write c.request wrote)) ≡ true) made.call_is is))

      so : succeeds call.request reply ≡ true
      so = ap (λ (c : Call). succeeds c.request reply) made.call_is ∙ ap (succeeds s.call.request) made.reply_is ∙ won_succeeds s.call.request (answer s.call.request T) won

      some_key : (o : Option (Option Object)) → at_key election (request_write call.request wrote) ≡ o → key_eq (key_of call.request) election ≡ true
      some_key None none = absurd (none_has (at_key election (request_write call.request wrote)) none is)
      some_key (Some o) some = wrote_key call.request wrote o some

      by_role : (b : Bool) → is_controller doc s.who.process ≡ b → Won doc x T
      by_role true role = record {
        who = s.who;
        role = role;
        actor = actor ∙ made.by;
        call = call;
        reply = reply;
        comes = comes;
        wrote = wrote;
        fact = fact;
        so = so;
        f = made.arriving.e;
        low = place.0;
        asked = place.1;
        f_actor = sent.0;
        f_fact = sent.1 ∙ ap (λ c. Sends c s.arrives) (sym made.call_is) ∙ ap (Sends call) (due_at x.beat s.arrives made.arriving.now);
      }
      by_role false role =
          absurd (true_is (sym (some_key (at_key election (request_write call.request wrote)) refl) ∙ asks_elsewhere doc sound rules k end x (record { who = s.who; call = call; reply = reply; comes = comes }) (in_head x T (history doc (suc k)) position)
          (ap (λ d. back_of x.actor d) fact ∙ ap (λ who. back_of who (Answers call reply comes wrote)) (actor ∙ made.by)) role))
  by_fact x T who StepsDown actor fact position from is made = absurd made
  by_fact x T who (ReleaseBegins at_deadline) actor fact position from is made = absurd made
  by_fact x T who ReleaseEnds actor fact position from is made = absurd made
  by_fact x T who ReleaseStops actor fact position from is made = absurd made
  by_fact x T who d actor fact position from is made = absurd (false_is is)

  -- after the first beat each is such
  pub is_won : (x : Entry) (T : List Entry) → IsTail (x ∷ T) (history doc (suc k)) → 1 ≤ x.beat → has (at_key election (write_of x.fact)) ≡ true → Won doc x T
  is_won x T position from is = by_fact x T x.actor x.fact refl refl position from is (are_made doc rules (suc k) x T position)

-- ---- no stop

-- which entries are stops
pub stop_is : (doc : Doc) (k step : ℕ) (who : Actor) (d : Fact) (h : List Entry) → MadeAs doc k step who d h → is_stop d ≡ true → d ≡ Stops
stop_is doc k step who Stops h made is = refl
stop_is doc k step who StepsDown h made is = absurd made
stop_is doc k step who (ReleaseBegins at_deadline) h made is = absurd made
stop_is doc k step who ReleaseEnds h made is = absurd made
stop_is doc k step who ReleaseStops h made is = absurd made
stop_is doc k step who d h made is = absurd (false_is is)

module _ (doc : Doc) (rules : ReleasesByStop doc) (near far a e : ℕ) (q : Identity) (steady : IsSteady doc near far a e q.process) where
  -- from beat a on it isn't stopped
  no_more_stops : (g h : List Entry) → Above (λ x. a ≤ x.beat) g h → IsTail h (history doc (suc e)) → stops q h ≡ stops q g
  no_more_stops g [] above at = ap (stops q) (sym above)
  no_more_stops g (x ∷ T) (inl is) at = ap (stops q) (sym is)
  no_more_stops g (x ∷ T) (inr above) at = by_stop (is_stop x.fact && is_by q x.actor) refl ∙ no_more_stops g T above.1 (tail_trans T (x ∷ T) (history doc (suc e)) (inr (tail_all T)) at)
    where
      by_stop : (b : Bool) → (is_stop x.fact && is_by q x.actor) ≡ b → added b (stops q T) ≡ stops q T
      by_stop true is =
          let before = steady.stops x (in_head x T (history doc (suc e)) at) (stop_is doc x.beat x.step x.actor x.fact T (are_made doc rules (suc e) x T at) (and_left (is_stop x.fact) (is_by q x.actor) is)) (by_process q x.actor (and_right (is_stop x.fact) (is_by q x.actor) is)) in
          absurd (omega (arith, before, above.0))
      by_stop false is = refl

  -- who acts in a span in which it is steady isn't stopped in all of it
  pub never_stopped : IsSound doc → e ≤ end_beat doc → (k : ℕ) → a ≤ k → k ≤ e → Acts doc q k → stops q (history doc (suc e)) ≡ 0
  never_stopped sound end k from to acting = no_more_stops turn (history doc (suc e)) above (tail_all (history doc (suc e))) ∙ at_turn_none
    where
      turn : List Entry
      turn = at_turn doc q.process k

      at_turn_none : stops q turn ≡ 0
      at_turn_none =
          (((turn_right doc (greatest_below doc (length doc.controllers)) (rates_at_most doc) (bears_own doc (greatest_below doc (length doc.controllers)) rules) sound q.process k (omega (arith, to, end))).lives q
          (present_is (alive q.process turn) q.incarnation (and_left (is_present (alive q.process turn) q.incarnation) (is_before (local doc q.process k) (deadline doc q turn)) (term_of doc rules q k turn acting.1)))).unstopped (inl rules.release)).0

      first : q.process ≤ processes doc
      first = omega (arith, controllers_first doc q.process acting.0)

      above : Above (λ x. a ≤ x.beat) turn (history doc (suc e))
      above =
          above_cut (λ x. a ≤ x.beat) (history doc a) (history doc (suc e)) (from_beat doc a (suc e) (omega (arith, from, to))) turn (history doc (suc e))
          (tail_trans (history doc a) (history doc k) turn (later_tail doc a k from) (before_turn doc q.process k))
          (tail_trans turn (history doc (suc k)) (history doc (suc e)) (turn_tail doc q.process k first) (later_tail doc (suc k) (suc e) (omega (arith, to))))
          (tail_all (history doc (suc e)))
