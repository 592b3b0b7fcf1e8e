-- How long controllers have waited, in every history.
use Rattle.std.proofs.Common.{◌≡◌, ◌≤◌, ℕ, suc, true, false, List, [], ◌∷◌, Option, Some, None, IfSome, refl, sym, ap, ◌∙◌, subst, inl, inr, arith}
use Rattle.kube_base.specs.declared.numbers.ProcId.{ProcId}
use Rattle.kube_objects.specs.declared.call.Request.{Request}
use Rattle.kube_objects.specs.declared.call.Request.TheVariants.{Get}
use Rattle.kube_objects.specs.declared.key.Key.{Key}
use Rattle.kube_objects.specs.declared.object.Object.{Object}
use Rattle.kube_objects.specs.Clocks.{wall, store_wall, whole_second}
use Rattle.kube_objects.specs.Document.{Doc, processes, end_beat, is_controller}
use Rattle.kube_objects.specs.Elector.{leads, release_from, release, shown, observed, deadline, attempt, follow_on, Asks, succeeds, lead_says, deadline_says}
use Rattle.kube_objects.specs.Entry.{Entry, Identity, Call, CallKind, Plain, Release, Event as Happens, Ticks, First, entry, script_entry}
use Rattle.kube_objects.specs.Identities.{identity}
use Rattle.kube_objects.specs.Kubelet.{node_of, post}
use Rattle.kube_objects.specs.Newest.{newest, or_zero}
use Rattle.kube_objects.specs.Own.{ReleasesByStop}
use Rattle.kube_objects.specs.Stamps.{stamped}
use Rattle.kube_objects.specs.Stored.{election, node_lease, stored}
use Rattle.kube_objects.specs.Wire.{request_delay, reply_delay, send, Sent, Back, sent_of, back_of}
use Rattle.history.specs.History.{put_all, history, whole_history, at_turn}
use Rattle.history.specs.Sound.{IsSound}
use Rattle.history.specs.Steps.{stamp, event_version, answered}
use Rattle.history_laws.specs.Tails.{In, IsTail}
use Rattle.history_laws.proofs.Counting.{counted_is, only_value}
use Rattle.history_laws.proofs.Plainly.{upper, for_new, false_is}
use Rattle.history_laws.proofs.Tailed.{tail_all, tail_trans, in_tail}
use Rattle.history_laws.proofs.Ticks.{walk_tick}
use Rattle.history_laws.proofs.Walk.{Arriving, Keeps, stopped_at, after_reply, no_release, walk_at_turn}
use Rattle.lease_laws.proofs.EachKind.{elsewhere, top_stays}
use Rattle.lease_laws.proofs.Histories.{first_right, bears_own, keeps}
use Rattle.lease_laws.proofs.Invariant.{OnTop, Inv}
use Rattle.lease_laws.proofs.Quiet.{stored_tick, keep_quiet, quiet_tick, deletes_elsewhere}
use Rattle.lease_laws.proofs.Steps.{AtMost, InvWithin, sound_of, success_is}
use Rattle.gap_laws.specs.Gaps.{IsDelayed}
use Rattle.gap_laws.proofs.Waits.{Slow, Late, is_release, BaseWaited, SentWell, Topped, Took, LedFrom, TermFrom, Waits}
use Rattle.gap_laws.proofs.Steps.{Still, none_for, keep_still, keep_sends, brought, keep_counted, keep_leads, shown_late, told_late, followed_base, attempt_base, release_base}
use Rattle.gap_laws.proofs.Answers.{keep_answers}

-- ---- before beat 0

-- what nothing says yet, nothing said before
pub none_below : {A : Type 0} (f : Entry → List Entry → Option A) (g h : List Entry) → IsTail g h → newest f h ≡ None → newest f g ≡ None
none_below f g [] at none = ap (newest f) at
none_below f g (e ∷ h) (inl is) none = ap (newest f) is ∙ none
none_below {A = A} f g (e ∷ h) (inr at) none = none_below f g h at (by_says (f e h) none)
  where
    some_none : (x : A) → Some x ≡ None → ⊥
    some_none x is = cc

    by_says : (o : Option A) → upper o (newest f h) ≡ None → newest f h ≡ None
    by_says None is = is
    by_says (Some x) is = absurd (some_none x is)

-- nothing but puts
record Bare (doc : Doc) (h : List Entry) : Type 0 where
  sent : (e : Entry) → In e h → sent_of e.actor e.fact ≡ None
  back : (e : Entry) → In e h → back_of e.actor e.fact ≡ None
  lead : (e : Entry) → In e h → (q : Identity) → lead_says q e.actor e.fact ≡ None
  shown : (q : Identity) → shown q h ≡ None
  observed : (q : Identity) → observed q h ≡ None
  deadline : (q : Identity) → deadline doc q h ≡ None

bare_more : (doc : Doc) (key : Key) (y : Object) (h : List Entry) → Bare doc h → Bare doc (script_entry 0 0 (First key y) ∷ h)
bare_more doc key y h s = record {
  sent = for_new (λ e. sent_of e.actor e.fact ≡ None) (script_entry 0 0 (First key y)) h refl s.sent;
  back = for_new (λ e. back_of e.actor e.fact ≡ None) (script_entry 0 0 (First key y)) h refl s.back;
  lead = for_new (λ e. (q : Identity) → lead_says q e.actor e.fact ≡ None) (script_entry 0 0 (First key y)) h (λ q. refl) s.lead;
  shown = s.shown;
  observed = s.observed;
  deadline = s.deadline;
}

put_bare : (doc : Doc) (xs : List (Key × Object)) (h : List Entry) → Bare doc h → Bare doc (put_all doc xs h)
put_bare doc [] h s = s
put_bare doc (x ∷ xs) h s = put_bare doc xs (script_entry 0 0 (First x.0 (stamped (whole_second (store_wall doc 0)) x.1)) ∷ h) (bare_more doc x.0 (stamped (whole_second (store_wall doc 0)) x.1) h s)

bare_waits : (doc : Doc) (w : Slow) (h : List Entry) → Bare doc h → Waits doc w 0 h
bare_waits doc w h s = record {
  shown = λ q role. none_for (shown q h) (λ x. OnTop (stored election h) x.0 (λ y. Late w q.process y.beat (or_zero (observed q h)))) (s.shown q);
  seen = λ q. subst (λ o. or_zero o ≤ 0) (sym (s.observed q)) (omega arith);
  sends = λ e at. none_for (sent_of e.actor e.fact) (SentWell doc w h) (s.sent e at);
  backs = λ e at. none_for (back_of e.actor e.fact) (λ b. IfSome b.comes (Late w b.who.process e.beat)) (s.back e at);
  answers = λ f T at. none_for (back_of f.actor f.fact) (λ b. is_controller doc b.who.process ≡ true → succeeds b.call.request b.reply ≡ true → Topped doc f T × Took doc w b f.beat T) (s.back f (here f T at));
  tops = λ f T at. inl (λ q. none_below (λ e T. deadline_says doc q e.beat e.actor (leads q T) e.fact) T h (tail_trans T (f ∷ T) h (inr (tail_all T)) at) (s.deadline q));
  leads = λ f T at q. none_for (lead_says q f.actor f.fact) (LedFrom w q f.beat T) (s.lead f (here f T at) q);
  terms = λ q role. none_for (deadline doc q h) (TermFrom doc w q 0 h) (s.deadline q);
}
  where
    here : (f : Entry) (T : List Entry) → IsTail (f ∷ T) h → In f h
    here f T at = in_tail f (f ∷ T) h at (inl refl)

first_waits : (doc : Doc) (w : Slow) → Waits doc w 0 (history doc 0)
first_waits doc w = bare_waits doc w (history doc 0) (put_bare doc doc.objects [] (record {
  sent = λ e at. absurd at;
  back = λ e at. absurd at;
  lead = λ e at q. absurd at;
  shown = λ q. refl;
  observed = λ q. refl;
  deadline = λ q. refl;
}))

-- ---- every kind of entry

module _ (doc : Doc) (sound : IsSound doc) (own : ReleasesByStop doc) (high : ℕ) (greatest : AtMost doc high) (w : Slow) (slow : IsDelayed doc w.who w.from w.least) where
  -- at a position of the whole history
  abbrev pub Known : ℕ → List Entry → Type 0
  Known k h = k ≤ end_beat doc → Inv doc high k h × (IsTail h (whole_history doc) → Waits doc w k h)

  kept : Keeps doc (λ k step h. InvWithin doc high k h)
  kept = keeps doc high greatest (bears_own doc high own) sound

  below : (x : Entry) (h : List Entry) → IsTail (x ∷ h) (whole_history doc) → IsTail h (whole_history doc)
  below x h at = tail_trans h (x ∷ h) (whole_history doc) (inr (tail_all h)) at

  -- one more entry
  more : (k : ℕ) (x : Entry) (h : List Entry) → (InvWithin doc high k h → InvWithin doc high k (x ∷ h)) → (Inv doc high k h → IsTail (x ∷ h) (whole_history doc) → Waits doc w k h → Waits doc w k (x ∷ h)) → Known k h → Known k (x ∷ h)
  more k x h inv waits s end = let t = s end in (inv (λ e. t.0) end, λ at. waits t.0 at (t.1 (below x h at)))

  still : (k : ℕ) (x : Entry) (h : List Entry) → Still x h → (InvWithin doc high k h → InvWithin doc high k (x ∷ h)) → Known k h → Known k (x ∷ h)
  still k x h is inv s = more k x h inv (λ i at r. keep_still doc w high k x h is i r) s

  -- what is sent after the events of a beat
  sent_slow : (k step : ℕ) (q : Identity) (kind : CallKind) (r : Request) (h : List Entry) → 2 ≤ step → IsTail (send doc k step q kind r h) (whole_history doc) → is_release kind ≡ false → q.process ≡ w.who → w.from ≤ k → w.least ≤ request_delay q.process h
  sent_slow k step q kind r h late at plain is from = subst (λ p. w.least ≤ request_delay p h) (sym is) (slow _ h at from late).0

  sends : (k step : ℕ) (q : Identity) (kind : CallKind) (r : Request) (h : List Entry) → 2 ≤ step → (Inv doc high k h → Waits doc w k h → is_controller doc q.process ≡ true → BaseWaited doc w q k (stored election h) r)
      → (InvWithin doc high k h → InvWithin doc high k (send doc k step q kind r h)) → Known k h → Known k (send doc k step q kind r h)
  sends k step q kind r h late base inv s =
      more k _ h inv (λ i at t. keep_sends doc w high k step q kind r h i (base i t) (sent_slow k step q kind r h late at) t) s

  answers_known : (k : ℕ) (s : Sent) (h : List Entry) → Arriving k h s → Known k h → Known k (answered doc k s h)
  answers_known k s h arriving t =
      more k _ h (kept.answers k s h arriving)
      (λ i at r. keep_answers doc w high k s h arriving i (λ is from. subst (λ p. w.least ≤ reply_delay p h) (sym is) (slow _ h at from (omega arith)).1) r) t

  releases_known : (k : ℕ) (id : ProcId) (i : ℕ) (before : List Entry) (request : Request) → release doc (identity id.0 i) k before ≡ Some request
      → (InvWithin doc high k (stopped_at k id i before) → InvWithin doc high k (send doc k 1 (identity id.0 i) Release request (stopped_at k id i before)))
      → Known k (stopped_at k id i before) → Known k (send doc k 1 (identity id.0 i) Release request (stopped_at k id i before))
  releases_known k id i before request is inv s =
      let q = identity id.0 i in
      let h = stopped_at k id i before in
      more k _ h inv
      (λ iv at t. keep_sends doc w high k 1 q Release request h iv
      (λ role. release_base doc w k (wall doc q.process k) h q (shown q before) (shown_late doc w high k h iv t q role) request (only_value (leads q before) (release_from q (wall doc q.process k) (shown q before)) request is))
      (λ plain same from. absurd (not_plain plain)) t) s
    where
      not_plain : is_release Release ≡ false → ⊥
      not_plain is = cc

  follows_known : (k : ℕ) (b : Back) (waiting : Call) (h : List Entry) (request : Request) → is_controller doc b.who.process ≡ true → follow_on doc b.who k waiting.kind waiting.request b.reply (after_reply k b waiting h) ≡ Asks request
      → (InvWithin doc high k (after_reply k b waiting h) → InvWithin doc high k (send doc k 3 b.who Plain request (after_reply k b waiting h)))
      → Known k (after_reply k b waiting h) → Known k (send doc k 3 b.who Plain request (after_reply k b waiting h))
  follows_known k b waiting h request role follows inv s =
      let g = after_reply k b waiting h in
      sends k 3 b.who Plain request g (omega arith)
      (λ i t role. followed_base doc w k g b.who waiting.kind waiting.request b.reply request (t.seen b.who) (told_late doc w high k h b waiting i t role) follows) inv s

  later : (k : ℕ) (h : List Entry) → Waits doc w k h → Waits doc w (suc k) h
  later k h s = record {
    shown = s.shown;
    seen = λ q. omega (arith, s.seen q);
    sends = s.sends;
    backs = s.backs;
    answers = s.answers;
    tops = s.tops;
    leads = s.leads;
    terms = λ q role. term q (deadline doc q h) (s.terms q role);
  }
    where
      term : (q : Identity) (o : Option ℕ) → IfSome o (TermFrom doc w q k h) → IfSome o (TermFrom doc w q (suc k) h)
      term q None t = tt
      term q (Some at) t = (t.0, omega (arith, t.1), t.2, t.3)

  known : Keeps doc (λ k step h. Known k h)
  known = record {
    on = λ k step h s. s;
    next = λ k s end. let t = s (omega (arith, end)) in (kept.next k (λ e. t.0) end, λ at. later k (history doc (suc k)) (t.1 at));
    event = λ k what h scripted s. let x = script_entry k 1 (Happens (stamp doc k what) (event_version what h)) in
        still k x h (record { top = top_stays x h (elsewhere doc k what h (sound_of doc k what sound scripted)); shows = λ q. refl; sent = refl; back = refl; lead = λ q. refl; deadline = λ d q led. refl }) (kept.event k what h scripted) s;
    starts = λ k step p h s. still k _ h (record { top = refl; shows = λ q. refl; sent = refl; back = refl; lead = λ q. refl; deadline = λ d q led. refl }) (kept.starts k step p h) s;
    crashes = λ k p i h up s. still k _ h (record { top = refl; shows = λ q. refl; sent = refl; back = refl; lead = λ q. refl; deadline = λ d q led. refl }) (kept.crashes k p i h up) s;
    stalls = λ k id beats i h scripted up s. still k _ h (record { top = refl; shows = λ q. refl; sent = refl; back = refl; lead = λ q. refl; deadline = λ d q led. refl }) (kept.stalls k id beats i h scripted up) s;
    stops = λ k id i h scripted up free s. still k _ h (record { top = refl; shows = λ q. refl; sent = refl; back = refl; lead = λ q. refl; deadline = λ d q led. refl }) (kept.stops k id i h scripted up free) s;
    releases = λ k id i before request scripted up awake is stop was s. λ end. releases_known k id i before request is (kept.releases k id i before request scripted up awake is stop (λ e. (was end).0)) s end;
    answers = answers_known;
    ignores = λ k b h coming is s. still k _ h (record { top = refl; shows = λ q. refl; sent = refl; back = refl; lead = λ q. refl; deadline = λ d q led. refl }) (kept.ignores k b h coming is) s;
    counts = λ k b waiting h coming is of s.
        more k _ h (kept.counts k b waiting h coming is of) (λ i at t. keep_counted doc w high k h b waiting i (brought doc w high k h i t b waiting coming (counted_is doc b.who k b.call.number h waiting is)) t) s;
    follows = λ k b waiting h request coming is role of follows was s. λ end. follows_known k b waiting h request role follows (kept.follows k b waiting h request coming is role of follows (λ e. (was end).0)) s end;
    leads = λ k b waiting h version coming is role of follows was s. λ end.
        more k _ (after_reply k b waiting h) (kept.leads k b waiting h version coming is role of follows (λ e. (was end).0))
        (λ i at t. keep_leads doc w high k h b waiting version i
        (brought doc w high k h (was end).0 ((was end).1 (below _ h (below _ (after_reply k b waiting h) at))) b waiting coming (counted_is doc b.who k b.call.number h waiting is))
        (success_is doc k (after_reply k b waiting h) b.who waiting.kind waiting.request b.reply version follows) t) s end;
    asks = λ k b waiting h request coming is role asked was s. λ end.
        sends k 3 b.who Plain request (after_reply k b waiting h) (omega arith) (λ i t so. absurd (false_is (sym role ∙ so))) (kept.asks k b waiting h request coming is role asked (λ e. (was end).0)) s end;
    turns = record {
      restarts = λ k p h s. still k _ h (record { top = refl; shows = λ q. refl; sent = refl; back = refl; lead = λ q. refl; deadline = λ d q led. refl }) (kept.turns.restarts k p h) s;
      expires = λ k p i call h up waits late of s. still k _ h (record { top = refl; shows = λ q. refl; sent = refl; back = refl; lead = λ q. refl; deadline = λ d q led. refl }) (kept.turns.expires k p i call h up waits late of) s;
      ends = λ k p i at h role up is before stop s. still k _ h (record { top = refl; shows = λ q. refl; sent = refl; back = refl; lead = λ q. refl; deadline = λ d q led. refl }) (kept.turns.ends k p i at h role up is before stop) s;
      polls = λ k p i h role up awake waits s. sends k 4 (identity p i) Plain (Get election) h (omega arith) (λ iv t so. tt) (kept.turns.polls k p i h role up awake waits) s;
      attempts = λ k p i h role up awake waits s.
          sends k 4 (identity p i) (attempt doc (identity p i) k h).0 (attempt doc (identity p i) k h).1 h (omega arith) (λ iv t so. attempt_base doc w k h (identity p i) (shown_late doc w high k h iv t (identity p i) so)) (kept.turns.attempts k p i h role up awake waits) s;
      seeks = λ k p i call h role up awake expired late s. sends k 4 (identity p i) Plain (Get (node_lease (node_of doc p))) h (omega arith) (λ iv t so. tt) (kept.turns.seeks k p i call h role up awake expired late) s;
      posts = λ k p i h role up awake none s. sends k 4 (identity p i) Plain (post doc (identity p i) k h) h (omega arith) (λ iv t so. absurd (false_is (sym role ∙ so))) (kept.turns.posts k p i h role up awake none) s;
      ticks = λ k r h acting s. walk_tick doc k r (Known k)
          (λ t g made s. still k (entry k 4 r (Ticks t)) g (record { top = stored_tick doc k r t g made; shows = λ q. refl; sent = refl; back = refl; lead = λ q. refl; deadline = λ d q led. refl })
          (λ old e. keep_quiet doc high k g (entry k 4 r (Ticks t)) (quiet_tick k r t (deletes_elsewhere doc k r t g made)) (old e)) s) h s;
    };
  }

  -- ---- histories

  pub turn_known : (p k : ℕ) → k ≤ end_beat doc → IsTail (at_turn doc p k) (whole_history doc) → Waits doc w k (at_turn doc p k)
  turn_known p k end at = ((walk_at_turn doc (λ k step h. Known k h) known (no_release doc (λ k step h. Known k h) own.release) (λ le. (first_right doc high, λ at. first_waits doc w)) p k) end).1 at

  pub whole_known : Waits doc w (end_beat doc) (whole_history doc)
  whole_known = turn_known (processes doc) (end_beat doc) (omega arith) (tail_all (whole_history doc))
