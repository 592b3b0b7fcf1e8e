-- Each kind of entry keeps what is known of how long controllers have waited.
use Rattle.std.proofs.Common.{◌≡◌, ◌≤◌, ℕ, ◌+◌, ◌&&◌, Bool, true, false, cond, List, [], ◌∷◌, Option, Some, None, IfSome, refl, sym, ap, ◌∙◌, subst, inl, inr, arith}
use Rattle.std.proofs.lemmas.Bool.{eqb-true, ltb-false}
use Rattle.kube_base.specs.declared.numbers.Version.{Version}
use Rattle.kube_objects.specs.declared.call.Reply.{Reply}
use Rattle.kube_objects.specs.declared.call.Reply.TheVariants.{Found, Done, Absent}
use Rattle.kube_objects.specs.declared.call.Request.{Request}
use Rattle.kube_objects.specs.declared.call.Request.TheVariants.{Get, Create, Update, PostStatus}
use Rattle.kube_objects.specs.declared.deed.Actor.{Actor}
use Rattle.kube_objects.specs.declared.key.Key.{Key}
use Rattle.kube_objects.specs.declared.lease.Holder.{Holder}
use Rattle.kube_objects.specs.declared.lease.Holder.TheVariants as holder
use Rattle.kube_objects.specs.declared.lease.Lease.{Lease}
use Rattle.kube_objects.specs.declared.object.Object.TheVariants as object
use Rattle.kube_objects.specs.Clocks.{local}
use Rattle.kube_objects.specs.Document.{Doc, is_controller, lease_seconds, call_timeout, retry_period, renew_deadline}
use Rattle.kube_objects.specs.Elector.{moment, Shown, told, shows, shown, newly, is_known, observed, observed_at, succeeds, leads, lead_says, deadline_says, deadline, is_blocked, is_valid, renewed, updated, created, Fails, Asks, follow_get, not_done, follow_write, follow_on, attempt_from, attempt, release_from, given_up, respected}
use Rattle.kube_objects.specs.Entry.{Entry, Identity, Call, CallKind, Plain, Fast, Release, Fact, Sends, Delivers, Leads, Expires, entry, Look, Emptying, ReleaseBegins}
use Rattle.kube_objects.specs.Identities.{identity, is_by, is_same, is_own, is_other}
use Rattle.kube_objects.specs.InFlight.{is_due}
use Rattle.kube_objects.specs.Newest.{when, only_if, join, or_zero}
use Rattle.kube_objects.specs.Pauses.{can_at}
use Rattle.kube_objects.specs.Process.{open_as, call_says, last_call, call_in}
use Rattle.kube_objects.specs.Stored.{Held, election, stored}
use Rattle.kube_objects.specs.Wire.{arrival, request_delay, loses_requests, request_arrival, next_call, send, Sent, Back, sent_of, back_of}
use Rattle.kube_objects.specs.Stalls.{at_store}
use Rattle.kube_objects.proofs.OwnCalls.{timely}
use Rattle.kube_objects.proofs.Stalls.{awake_later}
use Rattle.history_laws.specs.Tails.{In, IsTail}
use Rattle.history_laws.proofs.Counting.{CountedFor, when_test, when_value}
use Rattle.history_laws.proofs.Plainly.{upper, for_new, if_some, same_is, same_self, some_is, none_is, false_is, true_is, and_left, not_true}
use Rattle.history_laws.proofs.Walk.{Coming, after_reply}
use Rattle.lease_laws.proofs.Invariant.{view, OnTop, Wrote, Saw, Within, Asked, AnswerRight, SentRight, BackRight, NumberedIn, Inv}
use Rattle.lease_laws.proofs.Pauses.{within_success}
use Rattle.lease_laws.proofs.Steps.{IsSuccess, no_ask, no_success, asks_is}
use Rattle.lease_laws.proofs.Waited.{respected_holder}
use Rattle.lease_laws.specs.Respects.{respected_time}
use Rattle.gap_laws.proofs.Waits.{Slow, Late, late_early, is_release, Arrives, Waited, WaitedFor, BaseWaited, SentWell, Took, Answered, Topped, TopsOrPut, Success, LedFrom, TermFrom, Waits, each_position, position, Moves, moved, more_success}

-- ---- what any entry leaves

-- versions that calls and showings know were given
pub sent_given : (doc : Doc) (high k : ℕ) (h : List Entry) → Inv doc high k h → (e : Entry) → In e h → (s : Sent) → sent_of e.actor e.fact ≡ Some s → SentRight doc high k (view h) s
sent_given doc high k h s e at x is = subst (λ o. IfSome o (SentRight doc high k (view h))) is (s.core.entries e at).0

base_more : (doc : Doc) (w : Slow) (high : ℕ) (x : Entry) (h : List Entry) (q : Identity) (d : ℕ) (kind : CallKind) (r : Request) → Moves x h → Asked doc high (view h) q d kind r → BaseWaited doc w q d (stored election h) r → BaseWaited doc w q d (stored election (x ∷ h)) r
base_more doc w high x h q d kind (Get key) moves asked old = tt
base_more doc w high x h q d kind (Create key lease) moves asked old = tt
base_more doc w high x h q d kind (Update key version lease) moves asked old = moved x h version (WaitedFor doc w q d) moves asked.base.0 old
base_more doc w high x h q d kind (PostStatus name status at) moves asked old = tt

pub sends_more : (doc : Doc) (w : Slow) (high k : ℕ) (x : Entry) (h : List Entry) → Moves x h → Inv doc high k h → Waits doc w k h → (e : Entry) → In e h → IfSome (sent_of e.actor e.fact) (SentWell doc w (x ∷ h))
sends_more doc w high k x h moves inv s e at = cases (sent_of e.actor e.fact) refl (s.sends e at)
  where
    cases : (o : Option Sent) → sent_of e.actor e.fact ≡ o → IfSome o (SentWell doc w h) → IfSome o (SentWell doc w (x ∷ h))
    cases None is old = tt
    cases (Some y) is old = record {
      arrives = old.arrives;
      base = λ role. base_more doc w high x h y.who y.call.sent y.call.kind y.call.request moves ((sent_given doc high k h inv e at y is).may.controller role) (old.base role);
    }

pub shown_more : (doc : Doc) (w : Slow) (high k : ℕ) (x : Entry) (h : List Entry) → Moves x h → Inv doc high k h → Waits doc w k h → (q : Identity) → is_controller doc q.process ≡ true
    → IfSome (shown q h) (λ y. OnTop (stored election (x ∷ h)) y.0 (λ z. Late w q.process z.beat (or_zero (observed q h))))
shown_more doc w high k x h moves inv s q role = cases (shown q h) (inv.core.shown q role) (s.shown q role)
  where
    cases : (o : Option Shown) → IfSome o (λ y. Saw (view h) y.0 y.1 (or_zero (observed q h))) → IfSome o (λ y. OnTop (stored election h) y.0 (λ z. Late w q.process z.beat (or_zero (observed q h))))
        → IfSome o (λ y. OnTop (stored election (x ∷ h)) y.0 (λ z. Late w q.process z.beat (or_zero (observed q h))))
    cases None saw old = tt
    cases (Some y) saw old = moved x h y.0 (λ z. Late w q.process z.beat (or_zero (observed q h))) moves saw.0 old

pub term_more : (doc : Doc) (w : Slow) (k : ℕ) (x : Entry) (h : List Entry) (q : Identity) (o : Option ℕ) → IfSome o (TermFrom doc w q k h) → IfSome o (TermFrom doc w q k (x ∷ h))
term_more doc w k x h q o = if_some o (TermFrom doc w q k h) (TermFrom doc w q k (x ∷ h)) (λ at t. (t.0, t.1, more_success w q t.0 x h t.2, t.3))

-- an entry that shows nothing and sends, answers, and leads nobody
pub record Still (x : Entry) (h : List Entry) : Type 0 where
  pub top : stored election (x ∷ h) ≡ stored election h
  pub shows : (q : Identity) → shows q x.actor x.fact ≡ None
  pub sent : sent_of x.actor x.fact ≡ None
  pub back : back_of x.actor x.fact ≡ None
  pub lead : (q : Identity) → lead_says q x.actor x.fact ≡ None
  pub deadline : (doc : Doc) (q : Identity) (led : Bool) → deadline_says doc q x.beat x.actor led x.fact ≡ None

pub none_for : {A : Type 0} (o : Option A) (P : A → Type 0) → o ≡ None → IfSome o P
none_for o P is = subst (λ o. IfSome o P) (sym is) tt

-- what it shows and whose deadline it sets changes nothing
module _ (doc : Doc) (w : Slow) (high k : ℕ) (x : Entry) (h : List Entry) (moves : Moves x h) (inv : Inv doc high k h) (s : Waits doc w k h) where
  shown_still : ((q : Identity) → shows q x.actor x.fact ≡ None) → (q : Identity) → is_controller doc q.process ≡ true
      → IfSome (shown q (x ∷ h)) (λ y. OnTop (stored election (x ∷ h)) y.0 (λ z. Late w q.process z.beat (or_zero (observed q (x ∷ h)))))
  shown_still none q role =
      subst (λ t. IfSome (upper t (shown q h)) (λ y. OnTop (stored election (x ∷ h)) y.0 (λ z. Late w q.process z.beat (or_zero (upper (newly t (shown q h) x.beat) (observed q h)))))) (sym (none q))
      (shown_more doc w high k x h moves inv s q role)

  seen_still : ((q : Identity) → shows q x.actor x.fact ≡ None) → (q : Identity) → or_zero (observed q (x ∷ h)) ≤ k
  seen_still none q = subst (λ t. or_zero (upper (newly t (shown q h) x.beat) (observed q h)) ≤ k) (sym (none q)) (s.seen q)

  terms_still : ((q : Identity) (led : Bool) → deadline_says doc q x.beat x.actor led x.fact ≡ None) → (q : Identity) → is_controller doc q.process ≡ true → IfSome (deadline doc q (x ∷ h)) (TermFrom doc w q k (x ∷ h))
  terms_still none q role =
      subst (λ t. IfSome (upper t (deadline doc q h)) (TermFrom doc w q k (x ∷ h))) (sym (none q (leads q h)))
      (term_more doc w k x h q (deadline doc q h) (s.terms q role))

pub keep_still : (doc : Doc) (w : Slow) (high k : ℕ) (x : Entry) (h : List Entry) → Still x h → Inv doc high k h → Waits doc w k h → Waits doc w k (x ∷ h)
keep_still doc w high k x h still inv s =
    let moves : Moves x h = inl still.top in
    record {
      shown = shown_still doc w high k x h moves inv s still.shows;
      seen = seen_still doc w high k x h moves inv s still.shows;
      sends = for_new (λ e. IfSome (sent_of e.actor e.fact) (SentWell doc w (x ∷ h))) x h (none_for (sent_of x.actor x.fact) (SentWell doc w (x ∷ h)) still.sent) (sends_more doc w high k x h moves inv s);
      backs = for_new (λ e. IfSome (back_of e.actor e.fact) (λ b. IfSome b.comes (Late w b.who.process e.beat))) x h (none_for (back_of x.actor x.fact) (λ b. IfSome b.comes (Late w b.who.process x.beat)) still.back) s.backs;
      answers = each_position (Answered doc w) x h (none_for (back_of x.actor x.fact) (λ b. is_controller doc b.who.process ≡ true → succeeds b.call.request b.reply ≡ true → Topped doc x h × Took doc w b x.beat h) still.back) s.answers;
      tops = each_position (TopsOrPut doc) x h (inr (inl still.top)) s.tops;
      leads = each_position (λ f T. (q : Identity) → IfSome (lead_says q f.actor f.fact) (LedFrom w q f.beat T)) x h (λ q. none_for (lead_says q x.actor x.fact) (LedFrom w q x.beat h) (still.lead q)) s.leads;
      terms = terms_still doc w high k x h moves inv s (still.deadline doc);
    }

-- ---- a request is sent

pub keep_sends : (doc : Doc) (w : Slow) (high k step : ℕ) (q : Identity) (kind : CallKind) (r : Request) (h : List Entry) → Inv doc high k h → (is_controller doc q.process ≡ true → BaseWaited doc w q k (stored election h) r)
    → (is_release kind ≡ false → q.process ≡ w.who → w.from ≤ k → w.least ≤ request_delay q.process h) → Waits doc w k h → Waits doc w k (send doc k step q kind r h)
keep_sends doc w high k step q kind r h inv base slow s =
    let c = next_call q k kind r h in
    let a = request_arrival doc q.process k h in
    let x = entry k step q (Sends c a) in
    let moves : Moves x h = inl refl in
    record {
      shown = s.shown;
      seen = s.seen;
      sends = for_new (λ e. IfSome (sent_of e.actor e.fact) (SentWell doc w (x ∷ h))) x h (record { arrives = stalled (arrival (loses_requests q.process h) k (request_delay q.process h)) (arrives (loses_requests q.process h)); base = base }) (sends_more doc w high k x h moves inv s);
      backs = for_new (λ e. IfSome (back_of e.actor e.fact) (λ b. IfSome b.comes (Late w b.who.process e.beat))) x h tt s.backs;
      answers = each_position (Answered doc w) x h tt s.answers;
      tops = each_position (TopsOrPut doc) x h (inr (inl refl)) s.tops;
      leads = each_position (λ f T. (q : Identity) → IfSome (lead_says q f.actor f.fact) (LedFrom w q f.beat T)) x h (λ q. tt) s.leads;
      terms = λ p role. term_more doc w k x h p (deadline doc p h) (s.terms p role);
    }
  where
    least : 1 ≤ request_delay q.process h
    least = (inv.core.delays q.process).0

    -- what comes later where the store stands still is no sooner
    stalled : (o : Option ℕ) → IfSome o (Arrives w q.process k kind) → IfSome (at_store doc o) (Arrives w q.process k kind)
    stalled None come = tt
    stalled (Some t) come =
        let later = awake_later doc t in
        let first = come.0 in
        (omega (arith, first, later), λ plain. let late = come.1 plain in (omega (arith, first, later), λ is from. omega (arith, late.1 is from, later)))

    arrives : (b : Bool) → IfSome (arrival b k (request_delay q.process h)) (Arrives w q.process k kind)
    arrives true = tt
    arrives false = (omega (arith, least), λ plain. (omega (arith, least), λ is from. omega (arith, slow plain is from)))

-- ---- a counted reply

-- the call that waits is no release
waits_plain : (q : Identity) (h : List Entry) (c : Call) → call_in q h ≡ Some c → is_release c.kind ≡ false
waits_plain q [] c is = absurd (none_is c is)
waits_plain q (e ∷ h) c is = cases (λ is. waits_plain q h c is) e.actor e.fact is
  where
    opened : (kind : CallKind) (call : Call) → call.kind ≡ kind → open_as kind call ≡ Some c → is_release c.kind ≡ false
    opened Plain call same is = subst (λ (c : Call). is_release c.kind ≡ false) (some_is call c is) (ap is_release same)
    opened Fast call same is = subst (λ (c : Call). is_release c.kind ≡ false) (some_is call c is) (ap is_release same)
    opened Release call same is = absurd (none_is c is)
    opened (Look begun) call same is = subst (λ (c : Call). is_release c.kind ≡ false) (some_is call c is) (ap is_release same)
    opened (Emptying begun) call same is = subst (λ (c : Call). is_release c.kind ≡ false) (some_is call c is) (ap is_release same)

    by_sends : (call_in q h ≡ Some c → is_release c.kind ≡ false) → (b : Bool) (call : Call) → join (upper (when b (open_as call.kind call)) (last_call q h)) ≡ Some c → is_release c.kind ≡ false
    by_sends below true call is = opened call.kind call refl is
    by_sends below false call is = below is

    by_close : (call_in q h ≡ Some c → is_release c.kind ≡ false) → (b : Bool) → join (upper (when b None) (last_call q h)) ≡ Some c → is_release c.kind ≡ false
    by_close below true is = absurd (none_is c is)
    by_close below false is = below is

    cases : (call_in q h ≡ Some c → is_release c.kind ≡ false) → (who : Actor) (d : Fact) → join (upper (call_says q who d) (last_call q h)) ≡ Some c → is_release c.kind ≡ false
    cases below who (Sends call arrives) is = by_sends below (is_by q who) call is
    cases below who (Delivers call reply counted) is = by_close below (counted && is_by q who) is
    cases below who (Expires call) is = by_close below (is_by q who) is
    cases below who (ReleaseBegins at_deadline) is = by_close below (is_by q who) is
    cases below who d is = below is

-- what is known of a counted reply: the answer that it brings
pub record Brought (doc : Doc) (w : Slow) (high k : ℕ) (h : List Entry) (b : Back) (waiting : Call) : Type 0 where
  e : Entry
  before : List Entry
  stands : IsTail (e ∷ before) h
  is : back_of e.actor e.fact ≡ Some b
  comes : Late w b.who.process e.beat k
  plain : is_release b.call.kind ≡ false
  call : waiting ≡ b.call
  timely : local doc b.who.process k ≤ local doc b.who.process waiting.sent + call_timeout doc b.who.process
  answer : is_controller doc b.who.process ≡ true → AnswerRight doc high k (view h) b.who e.beat waiting b.reply

late_now : (w : Slow) (p s k : ℕ) (o : Option ℕ) → is_due k o ≡ true → IfSome o (Late w p s) → Late w p s k
late_now w p s k None now late = absurd (false_is now)
late_now w p s k (Some t) now late = subst (Late w p s) (eqb-true t k now) late

pub brought : (doc : Doc) (w : Slow) (high k : ℕ) (h : List Entry) → Inv doc high k h → Waits doc w k h → (b : Back) (waiting : Call) → Coming k h b → CountedFor doc b.who k b.call.number h waiting → Brought doc w high k h b waiting
brought doc w high k h inv s b waiting coming is =
    let right : BackRight doc high k (view h) coming.e.beat b = subst (λ o. IfSome o (BackRight doc high k (view h) coming.e.beat)) coming.is (inv.core.entries coming.e coming.stands).1 in
    let numbered : NumberedIn h b.who b.call = subst (λ o. IfSome o (λ b. NumberedIn h b.who b.call)) coming.is (inv.core.numbers coming.e coming.stands).1 in
    let same : waiting ≡ b.call = numbered.one waiting is.waits is.number in
    let at = position coming.e h coming.stands in
    record {
      e = coming.e;
      before = at.0;
      stands = at.1;
      is = coming.is;
      comes = late_now w b.who.process coming.e.beat k b.comes coming.now (subst (λ o. IfSome o (λ b. IfSome b.comes (Late w b.who.process coming.e.beat))) coming.is (s.backs coming.e coming.stands));
      plain = subst (λ (c : Call). is_release c.kind ≡ false) same (waits_plain b.who h waiting is.waits);
      call = same;
      timely = ltb-false (local doc b.who.process waiting.sent + call_timeout doc b.who.process) (local doc b.who.process k) (timely doc b.who k waiting is.timely);
      answer = λ role. subst (λ c. AnswerRight doc high k (view h) b.who coming.e.beat c b.reply) (sym same) (right.answer role);
    }

-- its answer, as one that came at beat k
abbrev success_of : (doc : Doc) (w : Slow) (high k : ℕ) (h : List Entry) (b : Back) (waiting : Call) → Brought doc w high k h b waiting → succeeds waiting.request b.reply ≡ true → Success w b.who k h
success_of doc w high k h b waiting r so = record {
  e = r.e;
  before = r.before;
  stands = r.stands;
  b = b;
  is = r.is;
  who = refl;
  so = subst (λ (c : Call). succeeds c.request b.reply ≡ true) r.call so;
  plain = r.plain;
  comes = r.comes;
}

pub keep_counted : (doc : Doc) (w : Slow) (high k : ℕ) (h : List Entry) (b : Back) (waiting : Call) → Inv doc high k h → Brought doc w high k h b waiting → Waits doc w k h → Waits doc w k (after_reply k b waiting h)
keep_counted doc w high k h b waiting inv r s =
    record {
      shown = λ p role. see_at p role (is_same b.who p) refl;
      seen = λ p. seen_at p (is_same b.who p);
      sends = for_new (λ e. IfSome (sent_of e.actor e.fact) (SentWell doc w (x ∷ h))) x h tt (sends_more doc w high k x h moves inv s);
      backs = for_new (λ e. IfSome (back_of e.actor e.fact) (λ b. IfSome b.comes (Late w b.who.process e.beat))) x h tt s.backs;
      answers = each_position (Answered doc w) x h tt s.answers;
      tops = each_position (TopsOrPut doc) x h (inr (inl refl)) s.tops;
      leads = each_position (λ f T. (q : Identity) → IfSome (lead_says q f.actor f.fact) (LedFrom w q f.beat T)) x h (λ q. tt) s.leads;
      terms = λ p role. term p role (is_same b.who p) refl (leads p h) (succeeds waiting.request b.reply) refl;
    }
  where
    x : Entry
    x = entry k 3 b.who (Delivers waiting b.reply true)

    moves : Moves x h
    moves = inl refl

    ShownAt : Identity → ℕ → Shown → Type 0
    ShownAt p n y = OnTop (stored election h) y.0 (λ z. Late w p.process z.beat n)

    on_top : (t : Option Held) (y : Shown) → OnTop t y.0 (Wrote y.1 (r.e.beat + 1)) → OnTop t y.0 (λ z. Late w b.who.process z.beat k)
    on_top None y saw = tt
    on_top (Some z) y saw = λ is. late_early w b.who.process z.beat r.e.beat k (omega (arith, (saw is).1)) r.comes

    told_late : is_controller doc b.who.process ≡ true → IfSome (told waiting.request b.reply) (ShownAt b.who k)
    told_late role = if_some (told waiting.request b.reply) (λ y. Saw (view h) y.0 y.1 (r.e.beat + 1)) (ShownAt b.who k) (λ y saw. on_top (stored election h) y saw.1) (r.answer role).told

    same_version : (t : Option Held) (y z : Version) (P : Held → Type 0) → z.0 ≡ y.0 → OnTop t z P → OnTop t y P
    same_version None y z P same top = tt
    same_version (Some v) y z P same top = λ is. top (is ∙ sym same)

    known : (p : Identity) (y : Shown) (t : Bool) (old : Option Shown) (seen : Option ℕ) → is_known y.0 old ≡ t → ShownAt p k y → IfSome old (ShownAt p (or_zero seen)) → ShownAt p (or_zero (upper (cond t None (Some k)) seen)) y
    known p y false old seen is new r = new
    known p y true None seen is new r = absurd (false_is is)
    known p y true (Some z) seen is new r = same_version (stored election h) y.0 z.0 (λ v. Late w p.process v.beat (or_zero seen)) (eqb-true z.0.0 y.0.0 is) r

    see : (p : Identity) (t : Bool) (new old : Option Shown) (seen : Option ℕ) → IfSome new (ShownAt p k) → IfSome old (ShownAt p (or_zero seen)) → IfSome (upper (only_if t new) old) (ShownAt p (or_zero (upper (newly (only_if t new) old k) seen)))
    see p false new old seen late r = r
    see p true None old seen late r = r
    see p true (Some y) old seen late r = known p y (is_known y.0 old) old seen refl late r

    see_at : (p : Identity) → is_controller doc p.process ≡ true → (t : Bool) → is_same b.who p ≡ t → IfSome (upper (only_if t (told waiting.request b.reply)) (shown p h)) (ShownAt p (or_zero (upper (newly (only_if t (told waiting.request b.reply)) (shown p h) k) (observed p h))))
    see_at p role true is = see p true (told waiting.request b.reply) (shown p h) (observed p h) (subst (λ p. is_controller doc p.process ≡ true → IfSome (told waiting.request b.reply) (ShownAt p k)) (same_is b.who p is) told_late role) (s.shown p role)
    see_at p role false is = s.shown p role

    new_seen : (new old : Option Shown) (seen : Option ℕ) → or_zero seen ≤ k → or_zero (upper (newly new old k) seen) ≤ k
    new_seen None old seen le = le
    new_seen (Some y) old seen le = by_test (is_known y.0 old)
      where
        by_test : (t : Bool) → or_zero (upper (cond t None (Some k)) seen) ≤ k
        by_test true = le
        by_test false = omega arith

    seen_at : (p : Identity) (t : Bool) → or_zero (upper (newly (only_if t (told waiting.request b.reply)) (shown p h) k) (observed p h)) ≤ k
    seen_at p t = new_seen (only_if t (told waiting.request b.reply)) (shown p h) (observed p h) (s.seen p)

    new_term : succeeds waiting.request b.reply ≡ true → TermFrom doc w b.who k (x ∷ h) (can_at doc b.who.process (local doc b.who.process k + retry_period doc b.who.process) + renew_deadline doc b.who.process)
    new_term so = (k, omega arith, more_success w b.who k x h (success_of doc w high k h b waiting r so), subst (λ (c : Call). Within doc b.who.process c.sent (can_at doc b.who.process (local doc b.who.process k + retry_period doc b.who.process) + renew_deadline doc b.who.process)) r.call (within_success doc b.who.process waiting.sent k r.timely))

    term : (p : Identity) → is_controller doc p.process ≡ true → (t : Bool) → is_same b.who p ≡ t → (a z : Bool) → succeeds waiting.request b.reply ≡ z
        → IfSome (upper (when (t && (a && z)) (can_at doc p.process (local doc p.process k + retry_period doc p.process) + renew_deadline doc p.process)) (deadline doc p h)) (TermFrom doc w p k (x ∷ h))
    term p role false is a z so = term_more doc w k x h p (deadline doc p h) (s.terms p role)
    term p role true is false z so = term_more doc w k x h p (deadline doc p h) (s.terms p role)
    term p role true is true false so = term_more doc w k x h p (deadline doc p h) (s.terms p role)
    term p role true is true true so = subst (λ p. TermFrom doc w p k (x ∷ h) (can_at doc p.process (local doc p.process k + retry_period doc p.process) + renew_deadline doc p.process)) (same_is b.who p is) (new_term so)

-- ---- a lead

pub keep_leads : (doc : Doc) (w : Slow) (high k : ℕ) (h : List Entry) (b : Back) (waiting : Call) (version : Version) → Inv doc high k (after_reply k b waiting h) → Brought doc w high k h b waiting → IsSuccess waiting.request b.reply version
    → Waits doc w k (after_reply k b waiting h) → Waits doc w k (entry k 3 b.who (Leads version) ∷ after_reply k b waiting h)
keep_leads doc w high k h b waiting version inv r so s =
    record {
      shown = s.shown;
      seen = s.seen;
      sends = for_new (λ e. IfSome (sent_of e.actor e.fact) (SentWell doc w (x ∷ g))) x g tt (sends_more doc w high k x g (inl refl) inv s);
      backs = for_new (λ e. IfSome (back_of e.actor e.fact) (λ b. IfSome b.comes (Late w b.who.process e.beat))) x g tt s.backs;
      answers = each_position (Answered doc w) x g tt s.answers;
      tops = each_position (TopsOrPut doc) x g (inr (inl refl)) s.tops;
      leads = each_position (λ f T. (q : Identity) → IfSome (lead_says q f.actor f.fact) (LedFrom w q f.beat T)) x g (λ q. lead q (is_same b.who q) refl) s.leads;
      terms = λ p role. term p role (is_same b.who p) refl;
    }
  where
    g : List Entry
    g = after_reply k b waiting h

    x : Entry
    x = entry k 3 b.who (Leads version)

    success : Success w b.who k g
    success = more_success w b.who k (entry k 3 b.who (Delivers waiting b.reply true)) h (success_of doc w high k h b waiting r so.0)

    lead : (q : Identity) (t : Bool) → is_same b.who q ≡ t → IfSome (when t version) (LedFrom w q k g)
    lead q true is = subst (λ q. LedFrom w q k g version) (same_is b.who q is) (success, so.1)
    lead q false is = tt

    within : Within doc b.who.process b.call.sent (local doc b.who.process k + renew_deadline doc b.who.process)
    within = subst (λ (c : Call). Within doc b.who.process c.sent (local doc b.who.process k + renew_deadline doc b.who.process)) r.call (inl (omega (arith, r.timely)))

    term : (p : Identity) → is_controller doc p.process ≡ true → (t : Bool) → is_same b.who p ≡ t → IfSome (upper (when t (local doc p.process k + renew_deadline doc p.process)) (deadline doc p g)) (TermFrom doc w p k (x ∷ g))
    term p role false is = term_more doc w k x g p (deadline doc p g) (s.terms p role)
    term p role true is = subst (λ p. TermFrom doc w p k (x ∷ g) (local doc p.process k + renew_deadline doc p.process)) (same_is b.who p is) (k, omega arith, more_success w b.who k x g success, within)

-- ---- what is asked

one_lease : (y : Held) (a b : Lease) → y.object ≡ object.Lease a → y.object ≡ object.Lease b → b ≡ a
one_lease y a b x z = one (sym z ∙ x)
  where
    one : object.Lease b ≡ object.Lease a → b ≡ a
    one is = cc

not_both : (q : Identity) (n : Holder) → is_own q n ≡ true → is_other q n ≡ true → ⊥
not_both q holder.Nobody own other = false_is own
not_both q (holder.Proc id incarnation) own other = true_is (sym own ∙ not_true (is_same (identity id.0 incarnation) q) other)
not_both q (holder.Foreign name) own other = false_is own

-- what was shown last, with what is known of it
abbrev pub ShownLate : Doc → Slow → List Entry → Identity → Shown → Type 0
ShownLate doc w h q x = Saw (view h) x.0 x.1 (or_zero (observed q h)) × OnTop (stored election h) x.0 (λ y. Late w q.process y.beat (or_zero (observed q h)))

pub shown_late : (doc : Doc) (w : Slow) (high k : ℕ) (h : List Entry) → Inv doc high k h → Waits doc w k h → (q : Identity) → is_controller doc q.process ≡ true → IfSome (shown q h) (ShownLate doc w h q)
shown_late doc w high k h inv s q role = both (shown q h) (inv.core.shown q role) (s.shown q role)
  where
    both : (o : Option Shown) → IfSome o (λ x. Saw (view h) x.0 x.1 (or_zero (observed q h))) → IfSome o (λ x. OnTop (stored election h) x.0 (λ y. Late w q.process y.beat (or_zero (observed q h)))) → IfSome o (ShownLate doc w h q)
    both None a b = tt
    both (Some x) a b = (a, b)

-- over another's record that was found
found_base : (doc : Doc) (w : Slow) (k : ℕ) (h : List Entry) (q : Identity) (version : Version) (lease next : Lease) → or_zero (observed q h) ≤ k → ShownLate doc w h q (version, lease)
    → is_blocked q (local doc q.process k) (observed_at doc q h) (respected doc.settings.rules.respect (lease_seconds doc q.process) lease) ≡ false → BaseWaited doc w q k (stored election h) (Update election version next)
found_base doc w k h q version lease next seen saw free = on_top (stored election h) saw.0.1 saw.1
  where
    respects : Lease
    respects = respected doc.settings.rules.respect (lease_seconds doc q.process) lease

    over : is_other q lease.holder ≡ true → local doc q.process (or_zero (observed q h)) + respected_time doc q.process lease ≤ local doc q.process k
    over other =
        let held = ap (is_other q) (respected_holder doc.settings.rules.respect (lease_seconds doc q.process) lease) ∙ other in
        ltb-false _ _ (subst (λ b. (b && is_valid (local doc q.process k) (observed_at doc q h) respects) ≡ false) held free)

    waited : (y : Held) → y.object ≡ object.Lease lease → Late w q.process y.beat (or_zero (observed q h)) → WaitedFor doc w q k y
    waited y object late other_lease is other =
        subst (Waited doc w q k y) (sym (one_lease y lease other_lease object is))
        (record { seen = or_zero (observed q h); late = late; before = seen; over = over (subst (λ (l : Lease). is_other q l.holder ≡ true) (one_lease y lease other_lease object is) other) })

    on_top : (t : Option Held) → OnTop t version (Wrote lease (or_zero (observed q h))) → OnTop t version (λ y. Late w q.process y.beat (or_zero (observed q h))) → OnTop t version (WaitedFor doc w q k)
    on_top None a b = tt
    on_top (Some y) a b = λ is. waited y (a is).0 (b is)

-- over one's own record that was shown last
own_base : (doc : Doc) (w : Slow) (k : ℕ) (h : List Entry) (q : Identity) (x : Shown) (next : Lease) → ShownLate doc w h q x → is_own q x.1.holder ≡ true → BaseWaited doc w q k (stored election h) (Update election x.0 next)
own_base doc w k h q x next saw own = on_top (stored election h) saw.0.1
  where
    on_top : (t : Option Held) → OnTop t x.0 (Wrote x.1 (or_zero (observed q h))) → OnTop t x.0 (WaitedFor doc w q k)
    on_top None a = tt
    on_top (Some y) a = λ is lease object other. absurd (not_both q lease.holder (subst (λ (l : Lease). is_own q l.holder ≡ true) (sym (one_lease y x.1 lease (a is).0 object)) own) other)

pub followed_base : (doc : Doc) (w : Slow) (k : ℕ) (h : List Entry) (q : Identity) (way : CallKind) (request : Request) (reply : Reply) (next : Request) → or_zero (observed q h) ≤ k → IfSome (told request reply) (ShownLate doc w h q)
    → follow_on doc q k way request reply h ≡ Asks next → BaseWaited doc w q k (stored election h) next
followed_base doc w k h q way request reply next seen saw is = cases request saw is
  where
    Based : Request → Type 0
    Based = BaseWaited doc w q k (stored election h)

    refused : (way : CallKind) → not_done way ≡ Asks next → Based next
    refused Fast is = subst Based (asks_is (Get election) next is) tt
    refused kind is = absurd (no_ask next is)

    write : (reply : Reply) → follow_write way reply ≡ Asks next → Based next
    write (Done v) is = absurd (no_success v next is)
    write reply is = refused way is

    found : (v : Version) (lease : Lease) → ShownLate doc w h q (v, lease) → (b : Bool) → is_blocked q (local doc q.process k) (observed_at doc q h) (respected (moment doc q k).respect (moment doc q k).seconds lease) ≡ b → cond b Fails (Asks (Update election v (updated q (moment doc q k) lease))) ≡ Asks next → Based next
    found v lease saw true blocked is = absurd (no_ask next is)
    found v lease saw false free is =
        subst Based (asks_is (Update election v (updated q (moment doc q k) lease)) next is)
        (found_base doc w k h q v lease (updated q (moment doc q k) lease) seen saw free)

    get : (key : Key) (reply : Reply) → IfSome (told (Get key) reply) (ShownLate doc w h q) → follow_get q (moment doc q k) (observed_at doc q h) reply ≡ Asks next → Based next
    get key Absent saw is = subst Based (asks_is (Create election (created q (moment doc q k))) next is) tt
    get key (Found v lease) saw is = found v lease saw (is_blocked q (local doc q.process k) (observed_at doc q h) (respected (moment doc q k).respect (moment doc q k).seconds lease)) refl is
    get key reply saw is = absurd (no_ask next is)

    cases : (request : Request) → IfSome (told request reply) (ShownLate doc w h q) → follow_on doc q k way request reply h ≡ Asks next → Based next
    cases (Get key) saw is = get key reply saw is
    cases (Create key lease) saw is = write reply is
    cases (Update key given lease) saw is = write reply is
    cases (PostStatus name status at) saw is = absurd (no_ask next is)

-- what a counted reply told is what is shown after it
pub told_late : (doc : Doc) (w : Slow) (high k : ℕ) (h : List Entry) (b : Back) (waiting : Call) → Inv doc high k (after_reply k b waiting h) → Waits doc w k (after_reply k b waiting h) → is_controller doc b.who.process ≡ true
    → IfSome (told waiting.request b.reply) (ShownLate doc w (after_reply k b waiting h) b.who)
told_late doc w high k h b waiting inv s role =
    top (told waiting.request b.reply) (shown b.who h)
    (subst (λ t. IfSome (upper (only_if t (told waiting.request b.reply)) (shown b.who h)) (ShownLate doc w (after_reply k b waiting h) b.who)) (same_self b.who) (shown_late doc w high k (after_reply k b waiting h) inv s b.who role))
  where
    top : (a old : Option Shown) → IfSome (upper a old) (ShownLate doc w (after_reply k b waiting h) b.who) → IfSome a (ShownLate doc w (after_reply k b waiting h) b.who)
    top None old r = tt
    top (Some x) old r = r

abbrev pub SendBased : Doc → Slow → ℕ → List Entry → Identity → CallKind × Request → Type 0
SendBased doc w k h q a = BaseWaited doc w q k (stored election h) a.1

pub attempt_base : (doc : Doc) (w : Slow) (k : ℕ) (h : List Entry) (q : Identity) → IfSome (shown q h) (ShownLate doc w h q) → SendBased doc w k h q (attempt doc q k h)
attempt_base doc w k h q saw = by_test (doc.settings.fast_renew && leads q h)
  where
    by_shown : (t : Option Shown) → IfSome t (ShownLate doc w h q) → SendBased doc w k h q (attempt_from q (moment doc q k) (observed_at doc q h) t)
    by_shown None saw = tt
    by_shown (Some x) saw = by_own (is_own q x.1.holder && is_valid (local doc q.process k) (observed_at doc q h) x.1) refl
      where
        by_own : (b : Bool) → (is_own q x.1.holder && is_valid (local doc q.process k) (observed_at doc q h) x.1) ≡ b → SendBased doc w k h q (cond b (Fast, Update election x.0 (renewed q (moment doc q k) x.1)) (Plain, Get election))
        by_own true is = own_base doc w k h q x (renewed q (moment doc q k) x.1) saw (and_left (is_own q x.1.holder) (is_valid (local doc q.process k) (observed_at doc q h) x.1) is)
        by_own false is = tt

    by_test : (b : Bool) → SendBased doc w k h q (cond b (attempt_from q (moment doc q k) (observed_at doc q h) (shown q h)) (Plain, Get election))
    by_test true = by_shown (shown q h) saw
    by_test false = tt

pub release_base : (doc : Doc) (w : Slow) (k at : ℕ) (h : List Entry) (q : Identity) (o : Option Shown) → IfSome o (ShownLate doc w h q) → (request : Request) → release_from q at o ≡ Some request → BaseWaited doc w q k (stored election h) request
release_base doc w k at h q None saw request is = absurd (none_is request is)
release_base doc w k at h q (Some x) saw request is =
    let r = Update election x.0 (given_up at x.1) in
    subst (BaseWaited doc w q k (stored election h)) (when_value (is_own q x.1.holder) r request is) (own_base doc w k h q x (given_up at x.1) saw (when_test (is_own q x.1.holder) r request is))
