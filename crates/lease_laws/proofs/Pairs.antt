-- Of two accepted writes of the election Lease the later one was sent after the earlier one had come; and where they are of two identities,
-- the first one's time was over by then, or it had given up its Lease.
use Rattle.std.proofs.Common.{◌≡◌, ◌⊎◌, ◌<◌, ◌≤◌, ℕ, ◌+◌, ◌-◌, ◌==◌, ◌&&◌, not, Bool, true, false, cond, List, [], ◌∷◌, Option, Some, None, IfSome, refl, sym, ap, ◌∙◌, subst, inl, inr, ⊎_elim, arith}
use Rattle.std.proofs.lemmas.Bool.{eqb-true}
use Rattle.kube_base.specs.declared.numbers.Version.{Version}
use Rattle.kube_objects.specs.declared.call.Reply.{Reply}
use Rattle.kube_objects.specs.declared.call.Reply.TheVariants.{Done, Conflict}
use Rattle.kube_objects.specs.declared.call.Request.{Request}
use Rattle.kube_objects.specs.declared.call.Request.TheVariants.{Get, Create, Update, PostStatus}
use Rattle.kube_objects.specs.declared.deed.Actor.{Actor}
use Rattle.kube_objects.specs.declared.deed.Actor.TheVariants as actor
use Rattle.kube_objects.specs.declared.key.Key.{Key}
use Rattle.kube_objects.specs.declared.key.Kind.TheVariants as kinds
use Rattle.kube_objects.specs.declared.lease.Lease.{Lease}
use Rattle.kube_objects.specs.declared.object.Object.{Object}
use Rattle.kube_objects.specs.declared.object.Object.TheVariants as object
use Rattle.kube_objects.specs.declared.script.What.TheVariants as what
use Rattle.kube_objects.specs.Answers.{answer_over, written_over, answer, written}
use Rattle.kube_objects.specs.Clocks.{store_wall, whole_second}
use Rattle.kube_objects.specs.Document.{Doc, end_beat, is_controller}
use Rattle.kube_objects.specs.Elector.{acts_by, acts_on, succeeds}
use Rattle.kube_objects.specs.Entry.{Entry, Identity, Call, CallKind, Emptying, Fact, First, Event as Happens, Answers, Delivers, ReleaseBegins, ReleaseEnds, ReleaseStops, Sends, StepsDown, Ticks, entry, script_entry}
use Rattle.kube_objects.specs.Identities.{identity, is_same, is_by}
use Rattle.kube_objects.specs.Newest.{added, has}
use Rattle.kube_objects.specs.Releases.{and_end, end_release, begin_release}
use Rattle.kube_objects.specs.Stamps.{stamped}
use Rattle.kube_objects.specs.Stored.{Held, election, key_of, next_version, stored}
use Rattle.kube_objects.specs.Wire.{reply_arrival, next_call, request_arrival, send, Sent, Back, back_of}
use Rattle.history.specs.History.{put_all, history, at_turn}
use Rattle.history.specs.Sound.{IsSound}
use Rattle.history.specs.Steps.{stamp, event_version, answered}
use Rattle.history_laws.specs.Tails.{In}
use Rattle.history_laws.proofs.Plainly.{for_new, some_is, none_is, true_is, false_is, and_left, and_right, and_both, same_is, same_self}
use Rattle.history_laws.proofs.Releasing.{begin_cases}
use Rattle.history_laws.proofs.Ticks.{walk_tick}
use Rattle.history_laws.proofs.Walk.{Arriving, stopped_at, halted_at, after_reply, Keeps, KeepsRelease, walk_at_turn}
use Rattle.lease_laws.proofs.Invariant.{view, gives_up, frees, freed, Wide, OnTop, Safe, CoveredBy, Covered, Asked, AnswerRight, BackRight, SentRight, HeldRight, Inv}
use Rattle.lease_laws.proofs.EachKind.{elsewhere, top_stays, after_arrival}
use Rattle.lease_laws.proofs.Answered.{NewWrite, answer_wrote}
use Rattle.lease_laws.proofs.Quiet.{stored_tick, keep_quiet, quiet_tick, deletes_elsewhere}
use Rattle.lease_laws.proofs.Steps.{InvWithin, sound_of, comes_is, comes_held}

-- a request of the identity is answered that writes
abbrev pub accepts : Identity → Actor → Fact → Bool
accepts q who (Answers call reply comes written) = is_by q who && has written
accepts q who _ = false

-- the last write came no earlier
abbrev pub AtMostTop : ℕ → Option Held → Type 0
AtMostTop n None = ⊥
AtMostTop n (Some x) = n ≤ x.beat

-- a call of the identity succeeds by an answer
abbrev pub IsDone : Identity → Entry → Back → Type 0
IsDone q e b = (back_of e.actor e.fact ≡ Some b) × (b.who ≡ q) × (succeeds b.call.request b.reply ≡ true)

-- it gave up its Lease two beats before a beat at the latest
pub record FreedBefore (q : Identity) (n : ℕ) (h : List Entry) : Type 0 where
  pub e : Entry
  pub at : In e h
  pub back : Back
  pub is : back_of e.actor e.fact ≡ Some back
  pub who : back.who ≡ q
  pub gives : gives_up back.call.kind ≡ true
  pub sent : back.call.sent < e.beat
  pub before : e.beat + 2 ≤ n

-- by beat n the time is over of a success that was sent at beat s, or its Lease was given up
abbrev pub Lost : Doc → ℕ → Identity → ℕ → ℕ → List Entry → Type 0
Lost doc high q s n h = Wide doc high q (n - (s + 1)) ⊎ FreedBefore q n h

-- the success at f came before that at g was sent
abbrev pub Before : Doc → ℕ → Identity → Entry → Back → Entry → Back → List Entry → Type 0
Before doc high q f b g c h = (f.beat < c.call.sent) × Lost doc high q b.call.sent g.beat h

pub record Ties (doc : Doc) (high : ℕ) (p q : Identity) (h : List Entry) : Type 0 where
  pub tops : (e : Entry) → In e h → (r : Identity) → is_controller doc r.process ≡ true → accepts r e.actor e.fact ≡ true → AtMostTop e.beat (stored election h)
  pub done : (e : Entry) (b : Back) → In e h → back_of e.actor e.fact ≡ Some b → is_controller doc b.who.process ≡ true → succeeds b.call.request b.reply ≡ true → accepts b.who e.actor e.fact ≡ true
  pub pairs : (f g : Entry) (b c : Back) → In f h → In g h → IsDone p f b → IsDone q g c → Before doc high p f b g c h ⊎ Before doc high q g c f b h

-- ---- what is accepted

-- a success writes
done_writes : (r : Request) (h : List Entry) → succeeds r (answer r h) ≡ true → has (written r h) ≡ true
done_writes (Get key) h is = absurd (false_is is)
done_writes (Create key lease) h is = by_stored (stored key h) is
  where
    by_stored : (t : Option Held) → succeeds (Create key lease) (answer_over (next_version h) t (Create key lease)) ≡ true → has (written_over t (Create key lease) (answer_over (next_version h) t (Create key lease))) ≡ true
    by_stored None is = refl
    by_stored (Some x) is = absurd (false_is is)
done_writes (Update key given lease) h is = by_stored (stored key h) is
  where
    by_test : (x : Held) (b : Bool) → succeeds (Update key given lease) (cond b (Done (next_version h)) (Conflict x.version)) ≡ true → has (written_over (Some x) (Update key given lease) (cond b (Done (next_version h)) (Conflict x.version))) ≡ true
    by_test x true is = refl
    by_test x false is = absurd (false_is is)

    by_stored : (t : Option Held) → succeeds (Update key given lease) (answer_over (next_version h) t (Update key given lease)) ≡ true → has (written_over t (Update key given lease) (answer_over (next_version h) t (Update key given lease))) ≡ true
    by_stored None is = absurd (false_is is)
    by_stored (Some x) is = by_test x (x.version.0 == given.0) is
done_writes (PostStatus name status at) h is = absurd (false_is is)

no_node : kinds.Node ≡ kinds.Lease → ⊥
no_node h = cc

-- what is accepted is the last write, and came over one that came before it was sent
accepted_new : (doc : Doc) (high k : ℕ) (h : List Entry) (q : Identity) (number d : ℕ) (way : CallKind) (at : Option ℕ) → (r : Request) → key_of r ≡ election → Asked doc high (view h) q d way r → has (written r h) ≡ true
    → NewWrite k q d (stored election h) (stored election (entry k 2 q (Answers (record { number = number; request = r; sent = d; kind = way }) (answer r h) at (written r h)) ∷ h))
accepted_new doc high k h q number d way at r key asked wrote = by_request r key asked wrote
  where
    After : Request → Reply → Option Object → Type 0
    After r reply w = NewWrite k q d (stored election h) (stored election (entry k 2 q (Answers (record { number = number; request = r; sent = d; kind = way }) reply at w) ∷ h))

    new : (lease : Lease) → IfSome (stored election h) (λ y. y.beat < d) → NewWrite k q d (stored election h) (Some (record { version = next_version h; object = object.Lease lease; beat = k; by = Some q }))
    new lease base = record { x = record { version = next_version h; object = object.Lease lease; beat = k; by = Some q }; is = refl; by = refl; beat = refl; base = base }

    created : (lease : Lease) → (t : Option Held) → stored election h ≡ t → has (written_over t (Create election lease) (answer_over (next_version h) t (Create election lease))) ≡ true
        → After (Create election lease) (answer_over (next_version h) t (Create election lease)) (written_over t (Create election lease) (answer_over (next_version h) t (Create election lease)))
    created lease None is wrote = new lease (subst (λ t. IfSome t (λ y. y.beat < d)) (sym is) tt)
    created lease (Some y) is wrote = absurd (false_is wrote)

    updated : (given : Version) (lease : Lease) → OnTop (stored election h) given (Safe doc high q d) → (t : Option Held) → stored election h ≡ t → has (written_over t (Update election given lease) (answer_over (next_version h) t (Update election given lease))) ≡ true
        → After (Update election given lease) (answer_over (next_version h) t (Update election given lease)) (written_over t (Update election given lease) (answer_over (next_version h) t (Update election given lease)))
    updated given lease base None is wrote = absurd (false_is wrote)
    updated given lease base (Some y) is wrote = by_test (y.version.0 == given.0) refl wrote
      where
        Right : Bool → Type 0
        Right b = After (Update election given lease) (cond b (Done (next_version h)) (Conflict y.version)) (written_over (Some y) (Update election given lease) (cond b (Done (next_version h)) (Conflict y.version)))

        by_test : (b : Bool) → (y.version.0 == given.0) ≡ b → has (written_over (Some y) (Update election given lease) (cond b (Done (next_version h)) (Conflict y.version))) ≡ true → Right b
        by_test true same wrote =
            let safe : Safe doc high q d y = subst (λ t. OnTop t given (Safe doc high q d)) is base (eqb-true y.version.0 given.0 same) in
            new lease (subst (λ t. IfSome t (λ y. y.beat < d)) (sym is) safe.0)
        by_test false same wrote = absurd (false_is wrote)

    by_request : (r : Request) → key_of r ≡ election → Asked doc high (view h) q d way r → has (written r h) ≡ true → After r (answer r h) (written r h)
    by_request (Get key) same asked wrote = absurd (false_is wrote)
    by_request (Create key lease) same asked wrote =
        subst (λ key. has (written (Create key lease) h) ≡ true → After (Create key lease) (answer (Create key lease) h) (written (Create key lease) h)) (sym same) (created lease (stored election h) refl) wrote
    by_request (Update key given lease) same asked wrote =
        subst (λ key. has (written (Update key given lease) h) ≡ true → After (Update key given lease) (answer (Update key given lease) h) (written (Update key given lease) h)) (sym same)
        (updated given lease asked.base.1 (stored election h) refl) wrote
    by_request (PostStatus name status at) same asked wrote = absurd (no_node (ap (λ (x : Key). x.kind) same))

-- ---- what frees

record Frees (q : Identity) (h : List Entry) : Type 0 where
  e : Entry
  at : In e h
  back : Back
  is : back_of e.actor e.fact ≡ Some back
  who : back.who ≡ q
  gives : gives_up back.call.kind ≡ true
  accepted : accepts q e.actor e.fact ≡ true

freed_by : (q : Identity) (h : List Entry) → 0 < freed q h → Frees q h
freed_by q [] some = absurd (omega (arith, some))
freed_by q (x ∷ h) some = by_test (freed_by q h) (frees x.fact && is_by q x.actor) refl some
  where
    old : Frees q h → Frees q (x ∷ h)
    old f = record { e = f.e; at = inr f.at; back = f.back; is = f.is; who = f.who; gives = f.gives; accepted = f.accepted }

    new : (who : Actor) (d : Fact) → x.actor ≡ who → x.fact ≡ d → frees d ≡ true → is_by q who ≡ true → Frees q (x ∷ h)
    new actor.Script d by is gives own = absurd (false_is own)
    new (actor.Proc id i) (Answers call reply comes wrote) by is gives own =
        let b : Back = record { who = identity id.0 i; call = call; reply = reply; comes = comes } in
        record {
          e = x;
          at = inl refl;
          back = b;
          is = ap (λ who. back_of who x.fact) by ∙ ap (λ d. back_of (actor.Proc id i) d) is;
          who = same_is (identity id.0 i) q own;
          gives = and_right (has wrote) (gives_up call.kind) gives;
          accepted = ap (λ who. accepts q who x.fact) by ∙ ap (λ d. accepts q (actor.Proc id i) d) is ∙ and_both (is_by q (actor.Proc id i)) (has wrote) own (and_left (has wrote) (gives_up call.kind) gives);
        }
    new (actor.Proc id i) d by is gives own = absurd (false_is gives)

    by_test : (0 < freed q h → Frees q h) → (b : Bool) → (frees x.fact && is_by q x.actor) ≡ b → 0 < added b (freed q h) → Frees q (x ∷ h)
    by_test below true is some = new x.actor x.fact refl refl (and_left (frees x.fact) (is_by q x.actor) is) (and_right (frees x.fact) (is_by q x.actor) is)
    by_test below false is some = old (below some)

-- ---- entries that are no answers

lost_more : (doc : Doc) (high : ℕ) (q : Identity) (s n : ℕ) (x : Entry) (h : List Entry) → Lost doc high q s n h → Lost doc high q s n (x ∷ h)
lost_more doc high q s n x h (inl wide) = inl wide
lost_more doc high q s n x h (inr f) = inr (record { e = f.e; at = inr f.at; back = f.back; is = f.is; who = f.who; gives = f.gives; sent = f.sent; before = f.before })

tie_more : (doc : Doc) (high : ℕ) (p q : Identity) (x : Entry) (h : List Entry) (f g : Entry) (b c : Back) → Before doc high p f b g c h ⊎ Before doc high q g c f b h → Before doc high p f b g c (x ∷ h) ⊎ Before doc high q g c f b (x ∷ h)
tie_more doc high p q x h f g b c (inl s) = inl (s.0, lost_more doc high p b.call.sent g.beat x h s.1)
tie_more doc high p q x h f g b c (inr s) = inr (s.0, lost_more doc high q c.call.sent f.beat x h s.1)

module _ (doc : Doc) (high : ℕ) (p q : Identity) where
  ties_quiet : (x : Entry) (h : List Entry) → back_of x.actor x.fact ≡ None → ((r : Identity) → accepts r x.actor x.fact ≡ false) → stored election (x ∷ h) ≡ stored election h → Ties doc high p q h → Ties doc high p q (x ∷ h)
  ties_quiet x h none quiet same s = record {
    tops = λ e at r role accepted. subst (AtMostTop e.beat) (sym same)
        (⊎_elim (λ new. absurd (true_is (sym accepted ∙ ap (λ (e : Entry). accepts r e.actor e.fact) new ∙ quiet r))) (λ old. s.tops e old r role accepted) at);
    done = λ e b at is role success. ⊎_elim (λ new. absurd (fresh e b new is)) (λ old. s.done e b old is role success) at;
    pairs = λ f g b c at_f at_g one two. ⊎_elim (λ new. absurd (fresh f b new one.0)) (λ old_f. ⊎_elim (λ new. absurd (fresh g c new two.0)) (λ old_g. tie_more doc high p q x h f g b c (s.pairs f g b c old_f old_g one two)) at_g) at_f;
  }
    where
      fresh : (e : Entry) (b : Back) → e ≡ x → back_of e.actor e.fact ≡ Some b → ⊥
      fresh e b new is = none_is b (sym none ∙ ap (λ (e : Entry). back_of e.actor e.fact) (sym new) ∙ is)

  -- an entry of a process that is neither an answer nor a write
  module _ (k step : ℕ) (r : Identity) where
    ties_and_end : (b : Bool) (h : List Entry) → Ties doc high p q h → Ties doc high p q (and_end k step r b h)
    ties_and_end true h s = ties_quiet (entry k step r StepsDown) h refl (λ r. refl) refl s
    ties_and_end false h s = s

    ties_end : (h : List Entry) → Ties doc high p q h → Ties doc high p q (end_release doc k step r h)
    ties_end h s = ties_quiet (entry k step r ReleaseEnds) (and_end k step r (acts_on doc r h) h) refl (λ r. refl) refl (ties_and_end (acts_on doc r h) h s)

    ties_send : (kind : CallKind) (request : Request) (h : List Entry) → Ties doc high p q h → Ties doc high p q (send doc k step r kind request h)
    ties_send kind request h s = ties_quiet (entry k step r (Sends (next_call r k kind request h) (request_arrival doc r.process k h))) h refl (λ r. refl) refl s

    ties_begin : (at_deadline : Bool) (h : List Entry) → Ties doc high p q h → Ties doc high p q (begin_release doc k step r at_deadline h)
    ties_begin at_deadline h s =
        let x = entry k step r (ReleaseBegins at_deadline) in
        let begun : Ties doc high p q (x ∷ h) = ties_quiet x h refl (λ r. refl) refl s in
        begin_cases doc k step r (Ties doc high p q) at_deadline h (ties_end (x ∷ h) begun) (λ kind request first. ties_send kind request (x ∷ h) begun)

-- ---- an answer

-- the last write isn't older than one that was accepted
top_before : (n d : ℕ) (t : Option Held) → AtMostTop n t → IfSome t (λ y. y.beat < d) → n < d
top_before n d None most base = absurd most
top_before n d (Some y) most base = omega (arith, most, base)

top_until : (doc : Doc) (k n : ℕ) (h : List Entry) (t : Option Held) → AtMostTop n t → IfSome t (HeldRight doc k (view h)) → n ≤ k
top_until doc k n h None most held = absurd most
top_until doc k n h (Some y) most held = omega (arith, most, held.beat)

top_new : (k n : ℕ) (r : Identity) (d : ℕ) (old new : Option Held) → n ≤ k → NewWrite k r d old new → AtMostTop n new
top_new k n r d old new le w = subst (AtMostTop n) (sym w.is) (omega (arith, le, w.beat))

module _ (doc : Doc) (high : ℕ) (sound : IsSound doc) (p q : Identity) (differ : p ≡ q → ⊥) (role_p : is_controller doc p.process ≡ true) (role_q : is_controller doc q.process ≡ true) where
  module _ (k : ℕ) (s : Sent) (h : List Entry) (at : Arriving k h s) (inv : Inv doc high k h) (after : Inv doc high k (answered doc k s h)) (old : Ties doc high p q h) where
    abbrev x : Entry
    x = entry k 2 s.who (Answers s.call (answer s.call.request h) (reply_arrival doc s.who.process k h) (written s.call.request h))

    abbrev mine : Back
    mine = record { who = s.who; call = s.call; reply = answer s.call.request h; comes = reply_arrival doc s.who.process k h }

    right : SentRight doc high k (view h) s
    right = subst (λ o. IfSome o (SentRight doc high k (view h))) at.is (inv.core.entries at.e at.stands).0

    before : s.call.sent < k
    before = comes_is k s.call.sent s.arrives at.now right.later

    -- it is the last write, where it is accepted
    accepted_now : is_controller doc s.who.process ≡ true → has (written s.call.request h) ≡ true → NewWrite k s.who s.call.sent (stored election h) (stored election (x ∷ h))
    accepted_now role wrote =
        let asked = right.may.controller role in
        accepted_new doc high k h s.who s.call.number s.call.sent s.call.kind (reply_arrival doc s.who.process k h) s.call.request asked.key asked wrote

    tops_more : (n : ℕ) → AtMostTop n (stored election h) → AtMostTop n (stored election (x ∷ h))
    tops_more n most = ⊎_elim (λ same. subst (AtMostTop n) (sym same) most) (top_new k n s.who s.call.sent (stored election h) (stored election (x ∷ h)) (top_until doc k n h (stored election h) most inv.core.held))
        (answer_wrote doc high k h inv s.who s.call s.arrives (reply_arrival doc s.who.process k h) right before (comes_held doc s.who.process k _ sound.1 (after_arrival _ k _ (inv.core.delays s.who.process).1)))

    new_top : (r : Identity) → is_controller doc r.process ≡ true → accepts r x.actor x.fact ≡ true → AtMostTop k (stored election (x ∷ h))
    new_top r role accepted =
        let same : s.who ≡ r = same_is s.who r (and_left (is_same s.who r) (has (written s.call.request h)) accepted) in
        top_new k k s.who s.call.sent (stored election h) (stored election (x ∷ h)) (omega arith)
        (accepted_now (subst (λ r. is_controller doc r.process ≡ true) (sym same) role) (and_right (is_same s.who r) (has (written s.call.request h)) accepted))

    -- another's success came before it was sent, and is over
    over_now : (o : Identity) (g : Entry) (c : Back) → is_controller doc o.process ≡ true → (s.who ≡ o → ⊥) → In g h → IsDone o g c → is_controller doc s.who.process ≡ true → succeeds s.call.request (answer s.call.request h) ≡ true
        → (g.beat < s.call.sent) × Lost doc high o c.call.sent k (x ∷ h)
    over_now o g c role other stands done own success = (top_before g.beat s.call.sent (stored election h) top new.base, lost covered)
      where
        new : NewWrite k s.who s.call.sent (stored election h) (stored election (x ∷ h))
        new = accepted_now own (done_writes s.call.request h success)

        role_c : is_controller doc c.who.process ≡ true
        role_c = subst (λ r. is_controller doc r.process ≡ true) (sym done.1) role

        top : AtMostTop g.beat (stored election h)
        top = old.tops g stands c.who role_c (old.done g c stands done.0 role_c done.2)

        answer_of : (e : Entry) (b : Back) → In e (x ∷ h) → back_of e.actor e.fact ≡ Some b → is_controller doc b.who.process ≡ true → AnswerRight doc high k (view (x ∷ h)) b.who e.beat b.call b.reply
        answer_of e b inside is role_b = (subst (λ o. IfSome o (BackRight doc high k (view (x ∷ h)) e.beat)) is (after.core.entries e inside).1).answer role_b

        covered : Covered doc high (view (x ∷ h)) o c.call.sent
        covered = subst (λ r. Covered doc high (view (x ∷ h)) r c.call.sent) done.1 ((answer_of g c (inr stands) done.0 role_c).covered done.2)

        freed_now : Frees o (x ∷ h) → FreedBefore o k (x ∷ h)
        freed_now f = record {
          e = f.e;
          at = f.at;
          back = f.back;
          is = f.is;
          who = f.who;
          gives = f.gives;
          sent = (answer_of f.e f.back f.at f.is (subst (λ r. is_controller doc r.process ≡ true) (sym f.who) role)).sent;
          before = ⊎_elim (λ now. absurd (other (same_is s.who o (and_left (is_same s.who o) (has (written s.call.request h)) (ap (λ (e : Entry). accepts o e.actor e.fact) (sym now) ∙ f.accepted)))))
              (λ earlier. omega (arith, before, top_before f.e.beat s.call.sent (stored election h) (old.tops f.e earlier o role f.accepted) new.base)) f.at;
        }

        by_top : CoveredBy doc high o c.call.sent (Some new.x) → Lost doc high o c.call.sent k (x ∷ h)
        by_top (inl own_top) = absurd (other (some_is s.who o (sym new.by ∙ own_top.0)))
        by_top (inr wide) = inl (subst (λ n. Wide doc high o (n - (c.call.sent + 1))) new.beat wide)

        lost : Covered doc high (view (x ∷ h)) o c.call.sent → Lost doc high o c.call.sent k (x ∷ h)
        lost (inl gone) = inr (freed_now (freed_by o (x ∷ h) gone))
        lost (inr by) = by_top (subst (CoveredBy doc high o c.call.sent) new.is by)

    is_mine : (e : Entry) (b : Back) → e ≡ x → back_of e.actor e.fact ≡ Some b → mine ≡ b
    is_mine e b new is = some_is mine b (ap (λ (e : Entry). back_of e.actor e.fact) (sym new) ∙ is)

    done_now : (e : Entry) (b : Back) → e ≡ x → back_of e.actor e.fact ≡ Some b → succeeds b.call.request b.reply ≡ true → accepts b.who e.actor e.fact ≡ true
    done_now e b new is success =
        let same : mine ≡ b = is_mine e b new is in
        let success_mine : succeeds s.call.request (answer s.call.request h) ≡ true = ap (λ (b : Back). succeeds b.call.request b.reply) same ∙ success in
        ap (λ (e : Entry). accepts b.who e.actor e.fact) new
        ∙ ap (λ (b : Back). accepts b.who x.actor x.fact) (sym same)
        ∙ and_both (is_same s.who s.who) (has (written s.call.request h)) (same_self s.who) (done_writes s.call.request h success_mine)

    -- one of a pair is new
    later_than : (r o : Identity) (f g : Entry) (b c : Back) → (r ≡ o → ⊥) → is_controller doc r.process ≡ true → is_controller doc o.process ≡ true → f ≡ x → In g h → IsDone r f b → IsDone o g c → Before doc high o g c f b (x ∷ h)
    later_than r o f g b c other role_r role_o new stands one two =
        let same : mine ≡ b = is_mine f b new one.0 in
        let who : s.who ≡ r = ap (λ (b : Back). b.who) same ∙ one.1 in
        let t = over_now o g c role_o (λ is. other (sym who ∙ is)) stands two (subst (λ r. is_controller doc r.process ≡ true) (sym who) role_r) (ap (λ (b : Back). succeeds b.call.request b.reply) same ∙ one.2) in
        (subst (λ (b : Back). g.beat < b.call.sent) same t.0, subst (λ (e : Entry). Lost doc high o c.call.sent e.beat (x ∷ h)) (sym new) t.1)

    ties_answered : Ties doc high p q (x ∷ h)
    ties_answered = record {
      tops = λ e inside r role accepted.
          ⊎_elim (λ new. subst (λ (e : Entry). AtMostTop e.beat (stored election (x ∷ h))) (sym new) (new_top r role (ap (λ (e : Entry). accepts r e.actor e.fact) (sym new) ∙ accepted))) (λ earlier. tops_more e.beat (old.tops e earlier r role accepted)) inside;
      done = λ e b inside is role success. ⊎_elim (λ new. done_now e b new is success) (λ earlier. old.done e b earlier is role success) inside;
      pairs = λ f g b c in_f in_g one two. ⊎_elim (λ new. new_first f g b c new in_g one two) (λ earlier. old_first f g b c earlier in_g one two) in_f;
    }
      where
        new_first : (f g : Entry) (b c : Back) → f ≡ x → In g (x ∷ h) → IsDone p f b → IsDone q g c → Before doc high p f b g c (x ∷ h) ⊎ Before doc high q g c f b (x ∷ h)
        new_first f g b c new (inl both) one two = absurd (differ (sym one.1 ∙ ap (λ (b : Back). b.who) (sym (is_mine f b new one.0) ∙ is_mine g c both two.0) ∙ two.1))
        new_first f g b c new (inr earlier) one two = inr (later_than p q f g b c differ role_p role_q new earlier one two)

        old_first : (f g : Entry) (b c : Back) → In f h → In g (x ∷ h) → IsDone p f b → IsDone q g c → Before doc high p f b g c (x ∷ h) ⊎ Before doc high q g c f b (x ∷ h)
        old_first f g b c earlier (inl new) one two = inl (later_than q p g f c b (λ is. differ (sym is)) role_q role_p new earlier two one)
        old_first f g b c earlier (inr also) one two = tie_more doc high p q x h f g b c (old.pairs f g b c earlier also one two)

  -- ---- the walk

  module _ (kept : Keeps doc (λ k step h. InvWithin doc high k h)) (freeing : KeepsRelease doc (λ k step h. InvWithin doc high k h)) where
    abbrev Tied : ℕ → List Entry → Type 0
    Tied k h = k ≤ end_beat doc → Inv doc high k h × Ties doc high p q h

    stays : (k : ℕ) (x : Entry) (h : List Entry) → back_of x.actor x.fact ≡ None → ((r : Identity) → accepts r x.actor x.fact ≡ false) → stored election (x ∷ h) ≡ stored election h → (InvWithin doc high k h → InvWithin doc high k (x ∷ h)) → Tied k h → Tied k (x ∷ h)
    stays k x h none quiet same more s le = (more (λ e. (s e).0) le, ties_quiet doc high p q x h none quiet same (s le).1)

    answered_tied : (k : ℕ) (s : Sent) (h : List Entry) → Arriving k h s → Tied k h → Tied k (answered doc k s h)
    answered_tied k s h at t le =
        let old = t le in
        let after : Inv doc high k (answered doc k s h) = kept.answers k s h at (λ e. (t e).0) le in
        (after, ties_answered k s h at old.0 after old.1)

    tied_keeps : Keeps doc (λ k step h. Tied k h)
    tied_keeps = record {
      on = λ k step h s. s;
      next = λ k s le. (kept.next k (λ e. (s e).0) le, (s (omega (arith, le))).1);
      event = λ k w h scripted s. (let x = script_entry k 1 (Happens (stamp doc k w) (event_version w h)) in
          stays k x h refl (λ r. refl) (top_stays x h (elsewhere doc k w h (sound_of doc k w sound scripted))) (kept.event k w h scripted) s);
      starts = λ k step c h s. stays k _ h refl (λ r. refl) refl (kept.starts k step c h) s;
      crashes = λ k c i h up s. stays k _ h refl (λ r. refl) refl (kept.crashes k c i h up) s;
      stalls = λ k id beats i h scripted up s. stays k _ h refl (λ r. refl) refl (kept.stalls k id beats i h scripted up) s;
      stops = λ k id i h scripted up free s. stays k _ h refl (λ r. refl) refl (kept.stops k id i h scripted up free) s;
      releases = λ k id i before request scripted up awake is stop was s. stays k _ (stopped_at k id i before) refl (λ r. refl) refl (kept.releases k id i before request scripted up awake is stop (λ e. (was e).0)) s;
      answers = answered_tied;
      ignores = λ k b h coming is s. stays k _ h refl (λ r. refl) refl (kept.ignores k b h coming is) s;
      counts = λ k b waiting h coming is of s. stays k _ h refl (λ r. refl) refl (kept.counts k b waiting h coming is of) s;
      follows = λ k b waiting h request coming is role of follows was s. stays k _ (after_reply k b waiting h) refl (λ r. refl) refl (kept.follows k b waiting h request coming is role of follows (λ e. (was e).0)) s;
      leads = λ k b waiting h version coming is role of follows was s. stays k _ (after_reply k b waiting h) refl (λ r. refl) refl (kept.leads k b waiting h version coming is role of follows (λ e. (was e).0)) s;
      asks = λ k b waiting h request coming is role asked was s. stays k _ (after_reply k b waiting h) refl (λ r. refl) refl (kept.asks k b waiting h request coming is role asked (λ e. (was e).0)) s;
      turns = record {
        restarts = λ k c h s. stays k _ h refl (λ r. refl) refl (kept.turns.restarts k c h) s;
        expires = λ k c i call h up waits late of s. stays k _ h refl (λ r. refl) refl (kept.turns.expires k c i call h up waits late of) s;
        ends = λ k c i d h role up is before stop s. stays k _ h refl (λ r. refl) refl (kept.turns.ends k c i d h role up is before stop) s;
        polls = λ k c i h role up awake waits s. stays k _ h refl (λ r. refl) refl (kept.turns.polls k c i h role up awake waits) s;
        attempts = λ k c i h role up awake waits s. stays k _ h refl (λ r. refl) refl (kept.turns.attempts k c i h role up awake waits) s;
        seeks = λ k c i call h role up awake expired late s. stays k _ h refl (λ r. refl) refl (kept.turns.seeks k c i call h role up awake expired late) s;
        posts = λ k c i h role up awake none s. stays k _ h refl (λ r. refl) refl (kept.turns.posts k c i h role up awake none) s;
        ticks = λ k r h acting s. walk_tick doc k r (Tied k) (λ t g made s. stays k (entry k 4 r (Ticks t)) g refl (λ r. refl) (stored_tick doc k r t g made) (λ old e. keep_quiet doc high k g (entry k 4 r (Ticks t)) (quiet_tick k r t (deletes_elsewhere doc k r t g made)) (old e)) s) h s;
      };
    }

    tied_release : KeepsRelease doc (λ k step h. Tied k h)
    tied_release = record {
      halts = λ k id i h scripted up other runs s. stays k _ h refl (λ r. refl) refl (freeing.halts k id i h scripted up other runs) s;
      begins = λ k id i before scripted up awake other fresh led s le. (let h = script_entry k 1 (Happens (what.Stop id) None) ∷ before in (
        freeing.begins k id i before scripted up awake other fresh led (λ e. (s e).0) le,
        ties_begin doc high p q k 1 (identity id.0 i) false (halted_at k id i before) (ties_quiet doc high p q (entry k 1 (identity id.0 i) ReleaseStops) h refl (λ r. refl) refl (s le).1),
      ));
      empties = λ k begun b waiting h request coming is role of look asked s le. (
        freeing.empties k begun b waiting h request coming is role of look asked (λ e. (s e).0) le,
        ties_send doc high p q k 3 b.who (Emptying begun) request (after_reply k b waiting h) (replied k b waiting h (s le).1),
      );
      closes = λ k begun b waiting h coming is role of s le. (
        freeing.closes k begun b waiting h coming is role of (λ e. (s e).0) le,
        ties_end doc high p q k 3 b.who (after_reply k b waiting h) (replied k b waiting h (s le).1),
      );
      turns = record {
        closes = λ k c i begun call h up waits late is s le. (freeing.turns.closes k c i begun call h up waits late is (λ e. (s e).0) le, ties_end doc high p q k 4 (identity c i) h (s le).1);
        begins = λ k c i d h role up awake is before other fresh s le. (let late = not (acts_by doc.settings.rules.in_release true) in (
          freeing.turns.begins k c i d h role up awake is before other fresh (λ e. (s e).0) le,
          ties_begin doc high p q k 4 (identity c i) true (and_end k 4 (identity c i) late h) (ties_and_end doc high p q k 4 (identity c i) late h (s le).1),
        ));
      };
    }
      where
        replied : (k : ℕ) (b : Back) (waiting : Call) (h : List Entry) → Ties doc high p q h → Ties doc high p q (after_reply k b waiting h)
        replied k b waiting h s = ties_quiet doc high p q (entry k 3 b.who (Delivers waiting b.reply true)) h refl (λ r. refl) refl s

    put_ties : (xs : List (Key × Object)) (h : List Entry) → ((e : Entry) → In e h → (back_of e.actor e.fact ≡ None) × ((r : Identity) → accepts r e.actor e.fact ≡ false))
        → (e : Entry) → In e (put_all doc xs h) → (back_of e.actor e.fact ≡ None) × ((r : Identity) → accepts r e.actor e.fact ≡ false)
    put_ties [] h s = s
    put_ties (y ∷ ys) h s =
        let e = script_entry 0 0 (First y.0 (stamped (whole_second (store_wall doc 0)) y.1)) in
        put_ties ys (e ∷ h) (for_new (λ e. (back_of e.actor e.fact ≡ None) × ((r : Identity) → accepts r e.actor e.fact ≡ false)) e h (refl, λ r. refl) s)

    first_ties : Ties doc high p q (history doc 0)
    first_ties = record {
      tops = λ e at r role accepted. absurd (true_is (sym accepted ∙ (silent e at).1 r));
      done = λ e b at is role success. absurd (none_is b (sym (silent e at).0 ∙ is));
      pairs = λ f g b c at_f at_g one two. absurd (none_is b (sym (silent f at_f).0 ∙ one.0));
    }
      where
        silent : (e : Entry) → In e (history doc 0) → (back_of e.actor e.fact ≡ None) × ((r : Identity) → accepts r e.actor e.fact ≡ false)
        silent = put_ties doc.objects [] (λ e at. absurd at)

    pub turn_ties : Inv doc high 0 (history doc 0) → (c k : ℕ) → k ≤ end_beat doc → Ties doc high p q (at_turn doc c k)
    turn_ties first c k le = (walk_at_turn doc (λ k step h. Tied k h) tied_keeps tied_release (λ e. (first, first_ties)) c k le).1
