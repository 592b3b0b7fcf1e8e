-- Where no reply of a controller is lost or takes more than three beats, each comes within three beats, or as its receiver wakes.
use Rattle.std.proofs.Common.{◌≡◌, ◌<◌, ◌≤◌, ℕ, suc, ◌+◌, ◌==◌, ◌&&◌, not, nat_lt, Bool, true, false, List, [], ◌∷◌, Option, Some, None, IfSome, refl, sym, ap, ◌∙◌, subst, inl, inr, ⊎_elim, arith}
use Rattle.std.proofs.lemmas.Bool.{ltb-false, eqb-true, cases_eq, cases_lt}
use Rattle.kube_base.specs.declared.numbers.ProcId.{ProcId}
use Rattle.kube_objects.specs.declared.call.Request.{Request}
use Rattle.kube_objects.specs.declared.key.Key.{Key}
use Rattle.kube_objects.specs.declared.object.Object.{Object}
use Rattle.kube_objects.specs.declared.script.Event.{Event}
use Rattle.kube_objects.specs.declared.script.What.{What}
use Rattle.kube_objects.specs.declared.script.What.TheVariants as what
use Rattle.kube_objects.specs.Clocks.{store_wall, whole_second}
use Rattle.kube_objects.specs.Document.{Doc, is_controller}
use Rattle.kube_objects.specs.Elector.{acts_by, acts_on}
use Rattle.kube_objects.specs.Entry.{Entry, Identity, Call, CallKind, Emptying, First, Event as Happens, StepsDown, ReleaseBegins, ReleaseEnds, ReleaseStops, Sends, Delivers, Ticks, entry, script_entry}
use Rattle.kube_objects.specs.Identities.{identity}
use Rattle.kube_objects.specs.Newest.{when, or_else}
use Rattle.kube_objects.specs.Pauses.{is_paused, pause_end, resume, held_up}
use Rattle.kube_objects.specs.Releases.{and_end, end_release, begin_release}
use Rattle.kube_objects.specs.Stamps.{stamped}
use Rattle.kube_objects.specs.Wire.{of_event, in_force, reply_delay_of, reply_delay, reply_loss_of, loses_replies, arrival, reply_arrival, next_call, request_arrival, send, Sent, Back, back_of}
use Rattle.history.specs.History.{put_all, history, at_turn}
use Rattle.history.specs.Premise.{is_prompt_event, are_prompt}
use Rattle.history.specs.Sound.{IsSound}
use Rattle.history.specs.Steps.{stamp, event_version, answered}
use Rattle.history_laws.specs.Tails.{In}
use Rattle.history_laws.proofs.Plainly.{upper, for_new, for_old, if_some, true_is, and_left, and_right, not_true}
use Rattle.history_laws.proofs.Releasing.{begin_cases}
use Rattle.history_laws.proofs.Ticks.{walk_tick}
use Rattle.history_laws.proofs.Walk.{InScript, Scripted, Arriving, stopped_at, halted_at, after_reply, Keeps, KeepsRelease, walk_at_turn}
use Rattle.lease_laws.proofs.Given.{Asked}
use Rattle.lease_laws.proofs.Steps.{sound_of}
use Rattle.lease_laws.proofs.TwoPauses.{pause_over, paused_in}

-- ---- the first beat at which a process isn't paused

-- it has come where it isn't paused later
pub resume_by : (doc : Doc) (p from k : ℕ) → from ≤ k → is_paused doc p k ≡ false → resume doc p from ≤ k
resume_by doc p from k le awake = cases (pause_end doc p from) refl
  where
    cases : (o : Option ℕ) → pause_end doc p from ≡ o → or_else from o ≤ k
    cases None is = le
    cases (Some end) is =
        let w = pause_over p from doc.events end is in
        ⊎_elim (λ lt. absurd (true_is (sym (paused_in p k doc.events w.place w.from w.beats w.at (omega (arith, w.begun, le)) (omega (arith, lt, w.ends))) ∙ awake))) (λ over. over) (cases_lt k end)

-- ---- what is in force

pub record InTime (p : ℕ) (h : List Entry) : Type 0 where
  pub kept : loses_replies p h ≡ false
  pub later : 1 ≤ reply_delay p h
  pub soon : reply_delay p h ≤ 3

-- a reply comes within three beats
pub record Soon (doc : Doc) (p k : ℕ) (comes : Option ℕ) : Type 0 where
  pub beats : ℕ
  pub later : 1 ≤ beats
  pub most : beats ≤ 3
  pub is : comes ≡ Some (resume doc p (k + beats))

abbrev SoonBack : Doc → ℕ → Back → Type 0
SoonBack doc k b = are_prompt doc doc.events ≡ true → is_controller doc b.who.process ≡ true → Soon doc b.who.process k b.comes

pub record Backs (doc : Doc) (k : ℕ) (h : List Entry) : Type 0 where
  pub force : are_prompt doc doc.events ≡ true → (p : ℕ) → is_controller doc p ≡ true → InTime p h
  pub soon : (e : Entry) → In e h → IfSome (back_of e.actor e.fact) (SoonBack doc e.beat)
  pub stood : (e : Entry) → In e h → (t : ℕ) → e.beat < t → t ≤ k → In e (history doc t)
  pub asked : (e : Entry) → In e h → IfSome (back_of e.actor e.fact) (λ b. Asked b.who b.call h)

asked_more : (x : Entry) (h : List Entry) (e : Entry) → IfSome (back_of e.actor e.fact) (λ b. Asked b.who b.call h) → IfSome (back_of e.actor e.fact) (λ b. Asked b.who b.call (x ∷ h))
asked_more x h e s = if_some (back_of e.actor e.fact) (λ b. Asked b.who b.call h) (λ b. Asked b.who b.call (x ∷ h)) (λ b a. record { e = a.e; at = inr a.at; arrives = a.arrives; is = a.is }) s

all_asked : (x : Entry) (h : List Entry) → ((e : Entry) → In e h → IfSome (back_of e.actor e.fact) (λ b. Asked b.who b.call h)) → (e : Entry) → In e h → IfSome (back_of e.actor e.fact) (λ b. Asked b.who b.call (x ∷ h))
all_asked x h s = for_old (λ e. IfSome (back_of e.actor e.fact) (λ b. Asked b.who b.call h)) (λ e. IfSome (back_of e.actor e.fact) (λ b. Asked b.who b.call (x ∷ h))) h (asked_more x h) s

in_time : (p : ℕ) (h g : List Entry) → loses_replies p g ≡ loses_replies p h → reply_delay p g ≡ reply_delay p h → InTime p h → InTime p g
in_time p h g loses delay s = record { kept = loses ∙ s.kept; later = omega (arith, s.later, delay); soon = omega (arith, s.soon, delay) }

-- an entry that is no answer, and no delay or loss
backs_quiet : (doc : Doc) (k : ℕ) (x : Entry) (h : List Entry) → x.beat ≡ k → back_of x.actor x.fact ≡ None → ((p : ℕ) → of_event (reply_loss_of p) x.fact ≡ None) → ((p : ℕ) → of_event (reply_delay_of p) x.fact ≡ None) → Backs doc k h → Backs doc k (x ∷ h)
backs_quiet doc k x h beat none loses delay s = record {
  force = λ prompt p role. in_time p h (x ∷ h) (ap (λ o. or_else false (upper o (in_force (reply_loss_of p) h))) (loses p)) (ap (λ o. or_else 1 (upper o (in_force (reply_delay_of p) h))) (delay p)) (s.force prompt p role);
  soon = for_new (λ e. IfSome (back_of e.actor e.fact) (SoonBack doc e.beat)) x h (subst (λ o. IfSome o (SoonBack doc x.beat)) (sym none) tt) s.soon;
  stood = for_new (λ e. (t : ℕ) → e.beat < t → t ≤ k → In e (history doc t)) x h (λ t lt le. absurd (omega (arith, beat, lt, le))) s.stood;
  asked = for_new (λ e. IfSome (back_of e.actor e.fact) (λ b. Asked b.who b.call (x ∷ h))) x h (subst (λ o. IfSome o (λ b. Asked b.who b.call (x ∷ h))) (sym none) tt) (all_asked x h s.asked);
}

module _ (doc : Doc) (k step : ℕ) (q : Identity) where
  backs_and_end : (b : Bool) (h : List Entry) → Backs doc k h → Backs doc k (and_end k step q b h)
  backs_and_end true h s = backs_quiet doc k (entry k step q StepsDown) h refl refl (λ p. refl) (λ p. refl) s
  backs_and_end false h s = s

  backs_end : (h : List Entry) → Backs doc k h → Backs doc k (end_release doc k step q h)
  backs_end h s = backs_quiet doc k (entry k step q ReleaseEnds) (and_end k step q (acts_on doc q h) h) refl refl (λ p. refl) (λ p. refl) (backs_and_end (acts_on doc q h) h s)

  backs_send : (kind : CallKind) (request : Request) (h : List Entry) → Backs doc k h → Backs doc k (send doc k step q kind request h)
  backs_send kind request h s = backs_quiet doc k (entry k step q (Sends (next_call q k kind request h) (request_arrival doc q.process k h))) h refl refl (λ p. refl) (λ p. refl) s

  backs_begin : (at_deadline : Bool) (h : List Entry) → Backs doc k h → Backs doc k (begin_release doc k step q at_deadline h)
  backs_begin at_deadline h s =
      let x = entry k step q (ReleaseBegins at_deadline) in
      let begun : Backs doc k (x ∷ h) = backs_quiet doc k x h refl refl (λ p. refl) (λ p. refl) s in
      begin_cases doc k step q (Backs doc k) at_deadline h (backs_end (x ∷ h) begun) (λ kind request first. backs_send kind request (x ∷ h) begun)

-- ---- the walk

prompt_of : (doc : Doc) (e : Event) (es : List Event) → are_prompt doc es ≡ true → InScript e es → is_prompt_event doc e.what ≡ true
prompt_of doc e [] all at = absurd at
prompt_of doc e (x ∷ es) all (inl is) = ap (λ (e : Event). is_prompt_event doc e.what) is ∙ and_left (is_prompt_event doc x.what) (are_prompt doc es) all
prompt_of doc e (x ∷ es) all (inr at) = prompt_of doc e es (and_right (is_prompt_event doc x.what) (are_prompt doc es) all) at

module _ (doc : Doc) (sound : IsSound doc) where
  lost_time : are_prompt doc doc.events ≡ true → (k : ℕ) (id : ProcId) (requests replies : Bool) (h : List Entry) → Scripted doc k (what.Loss id requests replies) → (p : ℕ) → is_controller doc p ≡ true → InTime p h
      → InTime p (script_entry k 1 (Happens (what.Loss id requests replies) None) ∷ h)
  lost_time prompt k id requests replies h scripted p role s = by_test (id.0 == p) refl
    where
      fine : not (is_controller doc id.0 && replies) ≡ true
      fine = subst (λ w. is_prompt_event doc w ≡ true) scripted.2 (prompt_of doc scripted.0 doc.events prompt scripted.1)

      passes : id.0 ≡ p → replies ≡ false
      passes same = by_replies replies refl
        where
          by_replies : (b : Bool) → replies ≡ b → b ≡ false
          by_replies false is = refl
          by_replies true is = absurd (true_is (sym (ap (λ b. b && true) (subst (λ p. is_controller doc p ≡ true) (sym same) role)) ∙ ap (λ b. is_controller doc id.0 && b) (sym is) ∙ not_true (is_controller doc id.0 && replies) fine))

      by_test : (b : Bool) → (id.0 == p) ≡ b → InTime p (script_entry k 1 (Happens (what.Loss id requests replies) None) ∷ h)
      by_test true is = record { kept = ap (λ b. or_else false (upper (when b replies) (in_force (reply_loss_of p) h))) is ∙ passes (eqb-true id.0 p is); later = s.later; soon = s.soon }
      by_test false is = record { kept = ap (λ b. or_else false (upper (when b replies) (in_force (reply_loss_of p) h))) is ∙ s.kept; later = s.later; soon = s.soon }

  delayed_time : are_prompt doc doc.events ≡ true → (k : ℕ) (id : ProcId) (requests replies : ℕ) (h : List Entry) → Scripted doc k (what.Delay id requests replies) → (p : ℕ) → is_controller doc p ≡ true → InTime p h
      → InTime p (script_entry k 1 (Happens (what.Delay id requests replies) None) ∷ h)
  delayed_time prompt k id requests replies h scripted p role s = by_test (id.0 == p) refl
    where
      fine : not (is_controller doc id.0 && nat_lt 3 replies) ≡ true
      fine = subst (λ w. is_prompt_event doc w ≡ true) scripted.2 (prompt_of doc scripted.0 doc.events prompt scripted.1)

      least : (1 ≤ requests) × (1 ≤ replies)
      least = sound_of doc k (what.Delay id requests replies) sound scripted

      most : id.0 ≡ p → replies ≤ 3
      most same = ltb-false 3 replies (sym (ap (λ b. b && nat_lt 3 replies) (subst (λ p. is_controller doc p ≡ true) (sym same) role)) ∙ not_true (is_controller doc id.0 && nat_lt 3 replies) fine)

      by_test : (b : Bool) → (id.0 == p) ≡ b → InTime p (script_entry k 1 (Happens (what.Delay id requests replies) None) ∷ h)
      by_test true is =
          let now : reply_delay p (script_entry k 1 (Happens (what.Delay id requests replies) None) ∷ h) ≡ replies = ap (λ b. or_else 1 (upper (when b replies) (in_force (reply_delay_of p) h))) is in
          record { kept = s.kept; later = omega (arith, now, least.1); soon = omega (arith, now, most (eqb-true id.0 p is)) }
      by_test false is = in_time p h (script_entry k 1 (Happens (what.Delay id requests replies) None) ∷ h) refl (ap (λ b. or_else 1 (upper (when b replies) (in_force (reply_delay_of p) h))) is) s

  event_time : are_prompt doc doc.events ≡ true → (k : ℕ) (w : What) (h : List Entry) → Scripted doc k w → (p : ℕ) → is_controller doc p ≡ true → InTime p h → InTime p (script_entry k 1 (Happens (stamp doc k w) (event_version w h)) ∷ h)
  event_time prompt k (what.Delay id requests replies) h scripted p role s = delayed_time prompt k id requests replies h scripted p role s
  event_time prompt k (what.Loss id requests replies) h scripted p role s = lost_time prompt k id requests replies h scripted p role s
  event_time prompt k w h scripted p role s = record { kept = s.kept; later = s.later; soon = s.soon }

  answered_soon : (k : ℕ) (s : Sent) (h : List Entry) → Arriving k h s → Backs doc k h → Backs doc k (answered doc k s h)
  answered_soon k s h at b = record {
    force = λ prompt p role. (let t = b.force prompt p role in record { kept = t.kept; later = t.later; soon = t.soon });
    soon = for_new (λ e. IfSome (back_of e.actor e.fact) (SoonBack doc e.beat)) _ h new b.soon;
    stood = for_new (λ e. (t : ℕ) → e.beat < t → t ≤ k → In e (history doc t)) _ h (λ t lt le. absurd (omega (arith, lt, le))) b.stood;
    asked = for_new (λ e. IfSome (back_of e.actor e.fact) (λ b. Asked b.who b.call (answered doc k s h))) _ h (record { e = at.e; at = inr at.stands; arrives = s.arrives; is = at.is }) (all_asked _ h b.asked);
  }
    where
      new : are_prompt doc doc.events ≡ true → is_controller doc s.who.process ≡ true → Soon doc s.who.process k (reply_arrival doc s.who.process k h)
      new prompt role =
          let t = b.force prompt s.who.process role in
          record { beats = reply_delay s.who.process h; later = t.later; most = t.soon; is = ap (λ b. held_up doc s.who.process (arrival b k (reply_delay s.who.process h))) t.kept }

  event_backs : (k : ℕ) (w : What) (h : List Entry) → Scripted doc k w → Backs doc k h → Backs doc k (script_entry k 1 (Happens (stamp doc k w) (event_version w h)) ∷ h)
  event_backs k w h scripted s = record {
    force = λ prompt p role. event_time prompt k w h scripted p role (s.force prompt p role);
    soon = for_new (λ e. IfSome (back_of e.actor e.fact) (SoonBack doc e.beat)) _ h tt s.soon;
    stood = for_new (λ e. (t : ℕ) → e.beat < t → t ≤ k → In e (history doc t)) _ h (λ t lt le. absurd (omega (arith, lt, le))) s.stood;
    asked = for_new (λ e. IfSome (back_of e.actor e.fact) (λ b. Asked b.who b.call _)) (script_entry k 1 (Happens (stamp doc k w) (event_version w h))) h tt (all_asked (script_entry k 1 (Happens (stamp doc k w) (event_version w h))) h s.asked);
  }

  next_backs : (k : ℕ) → Backs doc k (history doc (suc k)) → Backs doc (suc k) (history doc (suc k))
  next_backs k s = record {
    force = s.force;
    soon = s.soon;
    stood = λ e at t lt le. ⊎_elim (λ same. subst (λ t. In e (history doc t)) (sym same) at) (λ other. s.stood e at t lt (omega (arith, le, other))) (cases_eq t (suc k));
    asked = s.asked;
  }

  backs_keep : Keeps doc (λ k step h. Backs doc k h)
  backs_keep = record {
    on = λ k step h s. s;
    next = next_backs;
    event = event_backs;
    starts = λ k step p h s. quiet k _ h refl refl (λ p. refl) (λ p. refl) s;
    crashes = λ k p i h up s. quiet k _ h refl refl (λ p. refl) (λ p. refl) s;
    stalls = λ k id beats i h scripted up s. quiet k _ h refl refl (λ p. refl) (λ p. refl) s;
    stops = λ k id i h scripted up free s. quiet k _ h refl refl (λ p. refl) (λ p. refl) s;
    releases = λ k id i before request scripted up awake is stop was s. quiet k _ (stopped_at k id i before) refl refl (λ p. refl) (λ p. refl) s;
    answers = λ k x h at s. answered_soon k x h at s;
    ignores = λ k b h coming is s. quiet k _ h refl refl (λ p. refl) (λ p. refl) s;
    counts = λ k b waiting h coming is of s. quiet k _ h refl refl (λ p. refl) (λ p. refl) s;
    follows = λ k b waiting h request coming is role of follows was s. quiet k _ (after_reply k b waiting h) refl refl (λ p. refl) (λ p. refl) s;
    leads = λ k b waiting h version coming is role of follows was s. quiet k _ (after_reply k b waiting h) refl refl (λ p. refl) (λ p. refl) s;
    asks = λ k b waiting h request coming is role asked was s. quiet k _ (after_reply k b waiting h) refl refl (λ p. refl) (λ p. refl) s;
    turns = record {
      restarts = λ k p h s. quiet k _ h refl refl (λ p. refl) (λ p. refl) s;
      expires = λ k p i call h up waits late of s. quiet k _ h refl refl (λ p. refl) (λ p. refl) s;
      ends = λ k p i at h role up is before stop s. quiet k _ h refl refl (λ p. refl) (λ p. refl) s;
      polls = λ k p i h role up awake waits s. quiet k _ h refl refl (λ p. refl) (λ p. refl) s;
      attempts = λ k p i h role up awake waits s. quiet k _ h refl refl (λ p. refl) (λ p. refl) s;
      seeks = λ k p i call h role up awake expired late s. quiet k _ h refl refl (λ p. refl) (λ p. refl) s;
      posts = λ k p i h role up awake none s. quiet k _ h refl refl (λ p. refl) (λ p. refl) s;
      ticks = λ k q h acting s. walk_tick doc k q (Backs doc k) (λ t g made s. quiet k (entry k 4 q (Ticks t)) g refl refl (λ p. refl) (λ p. refl) s) h s;
    };
  }
    where
      quiet : (k : ℕ) (x : Entry) (h : List Entry) → x.beat ≡ k → back_of x.actor x.fact ≡ None → ((p : ℕ) → of_event (reply_loss_of p) x.fact ≡ None) → ((p : ℕ) → of_event (reply_delay_of p) x.fact ≡ None) → Backs doc k h → Backs doc k (x ∷ h)
      quiet k x h beat none loses delay s = backs_quiet doc k x h beat none loses delay s

  backs_release : KeepsRelease doc (λ k step h. Backs doc k h)
  backs_release = record {
    halts = λ k id i h scripted up other runs s. backs_quiet doc k _ h refl refl (λ p. refl) (λ p. refl) s;
    begins = λ k id i before scripted up awake other fresh led s. (let h = script_entry k 1 (Happens (what.Stop id) None) ∷ before in
        backs_begin doc k 1 (identity id.0 i) false (halted_at k id i before) (backs_quiet doc k (entry k 1 (identity id.0 i) ReleaseStops) h refl refl (λ p. refl) (λ p. refl) s));
    empties = λ k begun b waiting h request coming is role of look asked s. backs_send doc k 3 b.who (Emptying begun) request (after_reply k b waiting h) (replied k b waiting h s);
    closes = λ k begun b waiting h coming is role of s. backs_end doc k 3 b.who (after_reply k b waiting h) (replied k b waiting h s);
    turns = record {
      closes = λ k p i begun call h up waits late is s. backs_end doc k 4 (identity p i) h s;
      begins = λ k p i at h role up awake is before other fresh s. (let late = not (acts_by doc.settings.rules.in_release true) in
          backs_begin doc k 4 (identity p i) true (and_end k 4 (identity p i) late h) (backs_and_end doc k 4 (identity p i) late h s));
    };
  }
    where
      replied : (k : ℕ) (b : Back) (waiting : Call) (h : List Entry) → Backs doc k h → Backs doc k (after_reply k b waiting h)
      replied k b waiting h s = backs_quiet doc k (entry k 3 b.who (Delivers waiting b.reply true)) h refl refl (λ p. refl) (λ p. refl) s

  put_backs : (xs : List (Key × Object)) (h : List Entry) → Backs doc 0 h → Backs doc 0 (put_all doc xs h)
  put_backs [] h s = s
  put_backs (x ∷ xs) h s =
      let e = script_entry 0 0 (First x.0 (stamped (whole_second (store_wall doc 0)) x.1)) in
      put_backs xs (e ∷ h) (backs_quiet doc 0 e h refl refl (λ p. refl) (λ p. refl) s)

  first_backs : Backs doc 0 (history doc 0)
  first_backs = put_backs doc.objects [] (record {
    force = λ prompt p role. record { kept = refl; later = omega arith; soon = omega arith };
    soon = λ e at. absurd at;
    stood = λ e at. absurd at;
    asked = λ e at. absurd at;
  })

  pub turn_backs : (p k : ℕ) → Backs doc k (at_turn doc p k)
  turn_backs p k = walk_at_turn doc (λ k step h. Backs doc k h) backs_keep backs_release first_backs p k
