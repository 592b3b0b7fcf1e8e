-- Whoever writes first after a leader has fallen silent had looked at its record again and again, until it was over.
use Rattle.std.proofs.Common.{◌≡◌, ◌⊎◌, ◌≤◌, ℕ, suc, ◌+◌, ◌*◌, ◌==◌, ◌&&◌, not, Bool, true, false, cond, List, [], ◌∷◌, Option, Some, None, refl, sym, ap, ◌∙◌, subst, inl, inr, arith}
use Rattle.std.proofs.lemmas.Bool.{eq-eqb, eqb-true}
use Rattle.kube_base.specs.declared.numbers.Version.{Version}
use Rattle.kube_objects.specs.declared.call.Reply.{Reply}
use Rattle.kube_objects.specs.declared.call.Reply.TheVariants.{Found, Done, Absent, Exists, Conflict, Unchanged}
use Rattle.kube_objects.specs.declared.call.Request.{Request}
use Rattle.kube_objects.specs.declared.call.Request.TheVariants.{Get, Create, Update, PostStatus}
use Rattle.kube_objects.specs.declared.key.Key.{Key}
use Rattle.kube_objects.specs.declared.lease.Lease.{Lease}
use Rattle.kube_objects.specs.declared.lease.Holder.{Holder}
use Rattle.kube_objects.specs.declared.lease.Holder.TheVariants as holder
use Rattle.kube_objects.specs.Answers.{answer_create, answer_update, answer}
use Rattle.kube_objects.specs.Clocks.{local}
use Rattle.kube_objects.specs.Document.{Doc, is_controller, lease_seconds}
use Rattle.kube_objects.specs.Elector.{Moment, moment, Fails, Asks, Shown, told, shown, is_done, succeeds, updated, renewed, created, is_blocked, is_valid, observed_at, leads, follow_get, follow, attempt_from, attempt, respected}
use Rattle.kube_objects.specs.Entry.{Entry, Identity, Call, CallKind, Plain, Fast, Fact, First, Event, Starts, Stops, Sends, Answers, Delivers, Expires, Leads, Ends, Crashes, Stalls, Ticks, actor_of, entry, StepsDown, ReleaseBegins, ReleaseEnds, ReleaseStops}
use Rattle.kube_objects.specs.Identities.{is_by, is_own, is_other, is_same}
use Rattle.kube_objects.specs.Newest.{newest, when, join, has}
use Rattle.kube_objects.specs.Process.{alive, call_in}
use Rattle.kube_objects.specs.Stored.{Held, election, key_of, stored, next_version}
use Rattle.kube_objects.specs.Turns.{expired_in, just_expired, is_fast_call}
use Rattle.history.specs.History.{history}
use Rattle.history_laws.specs.Tails.{In, IsTail}
use Rattle.history_laws.proofs.Plainly.{upper, some_is, none_is, false_is, and_left}
use Rattle.history_laws.proofs.Tailed.{tail_all, tail_trans, in_tail}
use Rattle.call_laws.proofs.Above.{in_head}
use Rattle.call_laws.proofs.Making.{MadeAs, MadeSend, MadeAnswer, HasStopped, IsOpen, Replied, are_made}
use Rattle.call_laws.proofs.Starting.{actor_is, sends_are_due}
use Rattle.call_laws.proofs.Turning.{IsDue, IsTurnSend}
use Rattle.takeover_laws.specs.Calm.{IsSteady, IsInTime}
use Rattle.calm_laws.proofs.Asked.{IsWrite, next_is, asks_same, fails_not}
use Rattle.calm_laws.proofs.Begun.{by_is}
use Rattle.calm_laws.proofs.Origins.{Origin}
use Rattle.stay_laws.proofs.Won.{Won}
use Rattle.silence_laws.specs.Silence.{LeadsUntil, Bears}
use Rattle.silence_laws.proofs.Chain.{Look}
use Rattle.silence_laws.proofs.Kept.{Kept}
use Rattle.silence_laws.proofs.Looking.{ShowsIt, shows_it, asks_election}
use Rattle.silence_laws.proofs.Owning.{IsQuietIn, IsOwn, IsForeign, sent_early}
use Rattle.silence_laws.proofs.Recent.{mine, k, recent}
use Rattle.silence_laws.proofs.Showing.{IsTold, told_by, ShownBy, shown_by}
use Rattle.silence_laws.proofs.Taken.{first, won, rival, other, long_after}
use Rattle.silence_laws.proofs.Waiting.{never_expires}
use Rattle.silence_laws.proofs.Ways.{sent_beat}

-- ---- an expiry in a beat

pub record IsExpired (q : Identity) (h : List Entry) : Type 0 where
  pub x : Entry
  pub before : List Entry
  pub position : IsTail (x ∷ before) h
  pub actor : x.actor ≡ actor_of q
  pub call : Call
  pub fact : x.fact ≡ Expires call

expires_in : (k at : ℕ) (d : Fact) (c : Call) → expired_in k at d ≡ Some c → (call : Call) × (d ≡ Expires call)
expires_in k at (Expires call) c is = (call, refl)
expires_in k at (First key object) c is = absurd (none_is c is)
expires_in k at (Event w version) c is = absurd (none_is c is)
expires_in k at Starts c is = absurd (none_is c is)
expires_in k at Crashes c is = absurd (none_is c is)
expires_in k at Stops c is = absurd (none_is c is)
expires_in k at (Stalls beats) c is = absurd (none_is c is)
expires_in k at StepsDown c is = absurd (none_is c is)
expires_in k at (ReleaseBegins at_deadline) c is = absurd (none_is c is)
expires_in k at ReleaseEnds c is = absurd (none_is c is)
expires_in k at ReleaseStops c is = absurd (none_is c is)
expires_in k at (Sends call arrives) c is = absurd (none_is c is)
expires_in k at (Answers call reply comes wrote) c is = absurd (none_is c is)
expires_in k at (Delivers call reply counted) c is = absurd (none_is c is)
expires_in k at Ends c is = absurd (none_is c is)
expires_in k at (Leads version) c is = absurd (none_is c is)
expires_in k at (Ticks t) c is = absurd (none_is c is)

pub expired_by : (q : Identity) (k : ℕ) (h : List Entry) → is_fast_call (just_expired q k h) ≡ true → IsExpired q h
expired_by q k [] is = absurd (false_is is)
expired_by q k (x ∷ h) is = by_own (is_by q x.actor) refl is (λ below. expired_by q k h below)
  where
    older : IsExpired q h → IsExpired q (x ∷ h)
    older s = record { x = s.x; before = s.before; position = inr s.position; actor = s.actor; call = s.call; fact = s.fact }

    by_said : (o : Option Call) → expired_in k x.beat x.fact ≡ o → is_by q x.actor ≡ true → is_fast_call o ≡ true → IsExpired q (x ∷ h)
    by_said None said own fast = absurd (false_is fast)
    by_said (Some c) said own fast = let e = expires_in k x.beat x.fact c said in record { x = x; before = h; position = inl refl; actor = by_is q x.actor own; call = e.0; fact = e.1 }

    by_own : (b : Bool) → is_by q x.actor ≡ b → is_fast_call (join (upper (when b (expired_in k x.beat x.fact)) (newest (λ e T. when (is_by q e.actor) (expired_in k e.beat e.fact)) h))) ≡ true → (is_fast_call (just_expired q k h) ≡ true → IsExpired q h) → IsExpired q (x ∷ h)
    by_own false own fast below = older (below fast)
    by_own true own fast below = by_said (expired_in k x.beat x.fact) refl own fast

-- ---- who is whose

own_other : (q : Identity) (x : Holder) → is_own q x ≡ true → is_other q x ≡ true → ⊥
own_other q holder.Nobody own_is other_is = false_is own_is
own_other q (holder.Foreign name) own_is other_is = false_is own_is
own_other q (holder.Proc id i) own_is other_is = by_test (is_same (record { process = id.0; incarnation = i }) q) own_is other_is
  where
    by_test : (b : Bool) → b ≡ true → not b ≡ true → ⊥
    by_test true own_is other_is = false_is other_is
    by_test false own_is other_is = false_is own_is

-- ---- an accepted update

-- a write that succeeds over a record is an update on its version
pub record IsUpdate (r : Request) (y : Held) : Type 0 where
  pub version : Version
  pub lease : Lease
  pub is : r ≡ Update election version lease
  pub same : version.0 ≡ y.version.0

pub accepted_update : (r : Request) (reply : Reply) (h : List Entry) (y : Held) → key_of r ≡ election → reply ≡ answer r h → stored election h ≡ Some y → succeeds r reply ≡ true → IsUpdate r y
accepted_update (Get key) reply h y key_is answered top so = absurd (false_is so)
accepted_update (PostStatus name status at) reply h y key_is answered top so = absurd (false_is so)
accepted_update (Create key l) reply h y key_is answered top so =
    absurd (false_is (sym (ap is_done (answered ∙ ap (λ key. answer_create (next_version h) (stored key h)) key_is ∙ ap (answer_create (next_version h)) top)) ∙ so))
accepted_update (Update key v l) reply h y key_is answered top so =
    by_test (y.version.0 == v.0) refl (answered ∙ ap (λ key. answer_update (next_version h) v (stored key h)) key_is ∙ ap (answer_update (next_version h) v) top)
  where
    by_test : (b : Bool) → (y.version.0 == v.0) ≡ b → reply ≡ cond b (Done (next_version h)) (Conflict y.version) → IsUpdate (Update key v l) y
    by_test true same replied = record { version = v; lease = l; is = ap (λ key. Update key v l) key_is; same = sym (eqb-true y.version.0 v.0 same) }
    by_test false same replied = absurd (false_is (sym (ap is_done replied) ∙ so))

-- ---- what is asked for

-- an update follows a Get that found the version, where the record doesn't block
pub record IsFree (q : Identity) (m : Moment) (seen : ℕ) (reply : Reply) (version : Version) : Type 0 where
  pub lease : Lease
  pub found : reply ≡ Found version lease
  pub free : is_blocked q m.now seen (respected m.respect m.seconds lease) ≡ false

pub get_free : (q : Identity) (m : Moment) (seen : ℕ) (reply : Reply) (version : Version) (lease : Lease) → follow_get q m seen reply ≡ Asks (Update election version lease) → IsFree q m seen reply version
get_free q m seen Absent version lease is = absurd (create_not (asks_same (Create election (created q m)) (Update election version lease) is))
  where
    create_not : Create election (created q m) ≡ Update election version lease → ⊥
    create_not is = cc
get_free q m seen (Found v l) version lease is = by_test (is_blocked q m.now seen (respected m.respect m.seconds l)) refl is
  where
    version_is : Update election v (updated q m l) ≡ Update election version lease → v ≡ version
    version_is is = cc

    by_test : (b : Bool) → is_blocked q m.now seen (respected m.respect m.seconds l) ≡ b → cond b Fails (Asks (Update election v (updated q m l))) ≡ Asks (Update election version lease) → IsFree q m seen (Found v l) version
    by_test true blocks is = absurd (fails_not (Update election version lease) is)
    by_test false free is = record { lease = l; found = ap (λ v. Found v l) (version_is (asks_same (Update election v (updated q m l)) (Update election version lease) is)); free = free }
get_free q m seen (Done v) version lease is = absurd (fails_not (Update election version lease) is)
get_free q m seen Exists version lease is = absurd (fails_not (Update election version lease) is)
get_free q m seen (Conflict v) version lease is = absurd (fails_not (Update election version lease) is)
get_free q m seen Unchanged version lease is = absurd (fails_not (Update election version lease) is)

-- an attempt that is an update is on an own record that was shown
record IsOwnShown (q : Identity) (h : List Entry) (version : Version) : Type 0 where
  lease : Lease
  shown_is : shown q h ≡ Some (version, lease)
  own : is_own q lease.holder ≡ true

attempt_own : (doc : Doc) (q : Identity) (j : ℕ) (h : List Entry) (version : Version) (lease : Lease) → (attempt doc q j h).1 ≡ Update election version lease → IsOwnShown q h version
attempt_own doc q j h version lease is = by_test (doc.settings.fast_renew && leads q h) is
  where
    m : Moment
    m = moment doc q j

    get_not : Get election ≡ Update election version lease → ⊥
    get_not is = cc

    version_is : (v : Version) (l : Lease) → Update election v l ≡ Update election version lease → v ≡ version
    version_is v l is = cc

    by_shown : (o : Option Shown) → shown q h ≡ o → (attempt_from q m (observed_at doc q h) o).1 ≡ Update election version lease → IsOwnShown q h version
    by_shown None there is = absurd (get_not is)
    by_shown (Some x) there is = by_own (is_own q x.1.holder && is_valid m.now (observed_at doc q h) x.1) refl is
      where
        by_own : (b : Bool) → (is_own q x.1.holder && is_valid m.now (observed_at doc q h) x.1) ≡ b
            → (cond {A = CallKind × Request} b (Fast, Update election x.0 (renewed q m x.1)) (Plain, Get election)).1 ≡ Update election version lease → IsOwnShown q h version
        by_own true own is =
            record { lease = x.1; shown_is = there ∙ ap (λ v. Some (v, x.1)) (version_is x.0 (renewed q m x.1) is); own = and_left (is_own q x.1.holder) (is_valid m.now (observed_at doc q h) x.1) own }
        by_own false own is = absurd (get_not is)

    by_test : (b : Bool) → (cond {A = CallKind × Request} b (attempt_from q m (observed_at doc q h) (shown q h)) (Plain, Get election)).1 ≡ Update election version lease → IsOwnShown q h version
    by_test true is = by_shown (shown q h) refl is
    by_test false is = absurd (get_not is)

module _ (doc : Doc) (near far b e : ℕ) (q : Identity) (l : LeadsUntil doc near far b e q) (s : Bears doc near far b e q) (H : List Entry) (H_e : IsTail H (history doc (suc e))) (quiet : IsQuietIn b q.process H)
    (f : IsForeign doc near far b e q l s H H_e quiet (first doc near far b e q l s H H_e quiet) H) where
  abbrev pub own : IsOwn doc q f.before
  own = mine doc near far b e q l s H H_e quiet f

  abbrev pub kept : Kept f.before own.y
  kept = k doc near far b e q l s H H_e quiet f

  abbrev pub w : Won doc f.x f.before
  w = won doc near far b e q l s H H_e quiet f

  abbrev pub c : Identity
  c = w.who

  pub low_e : IsTail f.before (history doc (suc e))
  low_e = tail_trans f.before (f.x ∷ f.before) (history doc (suc e)) (inr (tail_all f.before)) (tail_trans (f.x ∷ f.before) H (history doc (suc e)) f.position H_e)

  pub long : own.y.beat + s.renews.wait + 5 * far + 1 ≤ w.call.sent + near
  long = long_after doc near far b e q l s H H_e quiet f

  -- it is of another process
  pub elsewhere : c.process ≡ q.process → ⊥
  elsewhere same = omega (arith, sent_early doc near far b e q l s H H_e quiet f.x f.before f.position w f.writes same, long, recent doc near far b e q l s H H_e quiet f, s.ways, s.one)

  pub steady : IsSteady doc near far 0 e c.process
  steady = l.others c.process w.role elsewhere

  pub time : IsInTime doc far 0 e c.process
  time = s.calls c.process w.role

  asked_low : IsTail (w.f ∷ w.low) f.before
  asked_low = w.asked

  pub asked_e : IsTail (w.f ∷ w.low) (history doc (suc e))
  asked_e = tail_trans (w.f ∷ w.low) f.before (history doc (suc e)) w.asked low_e

  pub sent : w.call.sent ≡ w.f.beat
  sent = sent_beat doc s.rules near far e c w.role steady w.f w.low w.call (Some f.x.beat) asked_e w.f_actor w.f_fact

  pub foreign : own.y.by ≡ Some c → ⊥
  foreign by = rival doc near far b e q l s H H_e quiet f (some_is c q (sym by ∙ own.by))

  pub others : is_other c own.lease.holder ≡ true
  others = other doc near far b e q l s H H_e quiet f

  key : key_of w.call.request ≡ election
  key = asks_election doc s.sound s.rules e s.end c w.role w.f w.call (Some f.x.beat) (in_head w.f w.low (history doc (suc e)) asked_e) w.f_actor w.f_fact

  made_answer : MadeAnswer doc f.x.beat f.x.step f.x.actor w.call w.reply w.comes w.wrote f.before
  made_answer = subst (λ d. MadeAs doc f.x.beat f.x.step f.x.actor d f.before) w.fact (are_made doc s.rules (suc e) f.x f.before (tail_trans (f.x ∷ f.before) H (history doc (suc e)) f.position H_e))

  update : IsUpdate w.call.request own.y
  update = accepted_update w.call.request w.reply f.before own.y key (made_answer.reply_is ∙ ap (λ (c : Call). answer c.request f.before) (sym made_answer.call_is)) own.top w.so

  -- a reply that told of this version is that of a Get that found the record
  tells : (d : Entry) (S : List Entry) → IsTail (d ∷ S) f.before → (t : Shown) → (i : IsTold c d.actor d.fact t) → t.0.0 ≡ own.y.version.0
      → ShowsIt doc near far e s.sound s.rules s.end c w.role f.before low_e own.y own.top own.lease own.object foreign i.w i.reply S d.beat
  tells d S at t i same = shows_it doc near far e s.sound s.rules s.end c w.role f.before low_e own.y own.top own.lease own.object foreign d S at t i same

  made : MadeSend doc w.f.beat w.f.step w.f.actor w.call (Some f.x.beat) w.low
  made = subst (λ d. MadeAs doc w.f.beat w.f.step w.f.actor d w.low) w.f_fact (are_made doc s.rules (suc e) w.f w.low asked_e)

  whose : made.q ≡ c
  whose = actor_is made.q c (sym made.by ∙ w.f_actor)

  role_made : is_controller doc made.q.process ≡ true
  role_made = ap (λ (p : Identity). is_controller doc p.process) whose ∙ w.role

  request_made : made.request ≡ Update election update.version update.lease
  request_made = sym (ap (λ (c : Call). c.request) made.call_is) ∙ update.is

  -- ---- the look that found the record over

  pub record LastLook : Type 0 where
    pub S : List Entry
    pub look : Look doc s.rules near far e s.one s.ways c w.role steady time f.before low_e own.y own.top own.lease own.object w.f.beat S
    pub free : is_blocked c (local doc c.process w.f.beat) (observed_at doc c w.low) (respected doc.settings.rules.respect (lease_seconds doc c.process) own.lease) ≡ false
    pub low : w.low ≡ entry w.f.beat 3 c (Delivers look.w (Found own.y.version own.lease) true) ∷ S

  -- not in its turn
  in_turn : w.f.step ≡ 4 → ⊥
  in_turn four = by_due (subst (λ d. IsTurnSend doc w.f.beat c d w.low) w.f_fact (sends_are_due doc s.rules (suc e) w.f w.low asked_e four c w.f_actor) w.role)
    where
      by_due : IsDue doc w.f.beat c w.call w.low → ⊥
      by_due (inl fast) =
          let x = expired_by c w.f.beat w.low fast in
          never_expires doc s.rules near far e s.one c w.role steady time x.x x.before x.call (tail_trans (x.x ∷ x.before) w.low (history doc (suc e)) x.position (tail_trans w.low (w.f ∷ w.low) (history doc (suc e)) (inr (tail_all w.low)) asked_e)) x.actor x.fact
      by_due (inr due) = own_other c own.lease.holder (subst (λ (l : Lease). is_own c l.holder ≡ true) lease_is p.own) others
        where
          p : IsOwnShown c w.low update.version
          p = attempt_own doc c w.f.beat w.low update.version update.lease (sym due.1 ∙ update.is)

          last : ShownBy c (update.version, p.lease) w.low
          last = shown_by c (update.version, p.lease) w.low p.shown_is

          i : IsTold c last.x.actor last.x.fact (update.version, p.lease)
          i = told_by c last.x.actor last.x.fact (update.version, p.lease) last.says

          it : ShowsIt doc near far e s.sound s.rules s.end c w.role f.before low_e own.y own.top own.lease own.object foreign i.w i.reply last.before last.x.beat
          it = tells last.x last.before (tail_trans (last.x ∷ last.before) w.low f.before last.position (tail_trans w.low (w.f ∷ w.low) f.before (inr (tail_all w.low)) w.asked)) (update.version, p.lease) i update.same

          told_is : ◌≡◌ {A = Option Shown} (Some (own.y.version, own.lease)) (Some (update.version, p.lease))
          told_is = sym (ap (told (Get election)) it.reply_is) ∙ sym (ap (λ r. told r i.reply) it.get) ∙ i.tells

          lease_is : p.lease ≡ own.lease
          lease_is = ap (λ (x : Shown). x.1) (sym (some_is (own.y.version, own.lease) (update.version, p.lease) told_is))

  found_lease : (u v : Version) (x y : Lease) → Found u x ≡ Found v y → x ≡ y
  found_lease u v x y is = cc

  replied : Replied doc w.f.beat made.q made.request w.low → LastLook
  replied r = record { S = r.before; look = look; free = free_c; low = low_is ∙ ap (λ reply. entry w.f.beat 3 c (Delivers r.waiting reply true) ∷ r.before) it.reply_is }
    where
      seen : ℕ
      seen = observed_at doc made.q w.low

      get : (key : Key) × (r.waiting.request ≡ Get key)
      get = (next_is made.q (moment doc made.q w.f.beat) (observed_at doc made.q w.low) r.waiting.kind r.waiting.request r.reply made.request r.follows).written (subst IsWrite (sym request_made) tt)

      free : IsFree made.q (moment doc made.q w.f.beat) (observed_at doc made.q w.low) r.reply update.version
      free =
          get_free made.q (moment doc made.q w.f.beat) (observed_at doc made.q w.low) r.reply update.version update.lease
          (ap (λ request. follow made.q (moment doc made.q w.f.beat) (observed_at doc made.q w.low) r.waiting.kind request r.reply) (sym get.1) ∙ r.follows ∙ ap Asks request_made)

      d : Entry
      d = entry w.f.beat 3 c (Delivers r.waiting r.reply true)

      low_is : w.low ≡ entry w.f.beat 3 c (Delivers r.waiting r.reply true) ∷ r.before
      low_is = r.is ∙ ap (λ p. entry w.f.beat 3 p (Delivers r.waiting r.reply true) ∷ r.before) whose

      at_d : IsTail (entry w.f.beat 3 c (Delivers r.waiting r.reply true) ∷ r.before) f.before
      at_d = subst (λ g. IsTail g f.before) low_is (tail_trans w.low (w.f ∷ w.low) f.before (inr (tail_all w.low)) w.asked)

      i : IsTold c (actor_of c) (Delivers r.waiting r.reply true) (update.version, free.lease)
      i = record { w = r.waiting; reply = r.reply; actor = refl; fact = refl; tells = ap (λ request. told request r.reply) get.1 ∙ ap (told (Get get.0)) free.found }

      it : ShowsIt doc near far e s.sound s.rules s.end c w.role f.before low_e own.y own.top own.lease own.object foreign r.waiting r.reply r.before w.f.beat
      it = tells (entry w.f.beat 3 c (Delivers r.waiting r.reply true)) r.before at_d (update.version, free.lease) i update.same

      with_origin : (o : Origin doc c r.waiting (Found own.y.version own.lease) r.before w.f.beat) × IsTail (kept.z ∷ kept.before) o.low
      with_origin = subst (λ reply. (o : Origin doc c r.waiting reply r.before w.f.beat) × IsTail (kept.z ∷ kept.before) o.low) it.reply_is (it.o, it.low)

      look : Look doc s.rules near far e s.one s.ways c w.role steady time f.before low_e own.y own.top own.lease own.object w.f.beat r.before
      look = record {
        w = r.waiting;
        get = it.get;
        position = subst (λ reply. IsTail (entry w.f.beat 3 c (Delivers r.waiting reply true) ∷ r.before) f.before) it.reply_is at_d;
        o = with_origin.0;
        since = with_origin.1;
      }

      lease_is : free.lease ≡ own.lease
      lease_is = found_lease update.version own.y.version free.lease own.lease (sym free.found ∙ it.reply_is)

      free_c : is_blocked c (local doc c.process w.f.beat) (observed_at doc c w.low) (respected doc.settings.rules.respect (lease_seconds doc c.process) own.lease) ≡ false
      free_c =
          subst (λ (p : Identity). is_blocked p (local doc p.process w.f.beat) (observed_at doc p w.low) (respected doc.settings.rules.respect (lease_seconds doc p.process) own.lease) ≡ false) whose
          (subst (λ lease. is_blocked made.q (local doc made.q.process w.f.beat) (observed_at doc made.q w.low) (respected doc.settings.rules.respect (lease_seconds doc made.q.process) lease) ≡ false) lease_is free.free)

  pub last_look : LastLook
  last_look = by_step made.step_is
    where
      by_step : (w.f.step ≡ 1) ⊎ ((w.f.step ≡ 3) ⊎ (w.f.step ≡ 4)) → LastLook
      by_step (inr (inr four)) = absurd (in_turn four)
      by_step (inr (inl three)) = replied (made.replied role_made three)
      by_step (inl one) = absurd (stopped_or (made.free role_made))
        where
          stopped_or : HasStopped w.f.beat made.q made.kind w.low ⊎ ((alive made.q.process w.low ≡ Some made.q.incarnation) × (call_in made.q w.low ≡ None) × (3 ≤ w.f.step) × IsOpen made.kind) → ⊥
          stopped_or (inr free) = omega (arith, free.2, one)
          stopped_or (inl stopped) =
              let stop = entry w.f.beat 1 made.q Stops in
              let before = steady.stops stop (in_tail stop (w.f ∷ w.low) (history doc (suc e)) asked_e (inr (subst (In stop) (sym stopped.is) (inl refl)))) refl
              (ap (λ b. has (when b made.q.incarnation)) (eq-eqb made.q.process c.process (ap (λ (p : Identity). p.process) whose))) in
              omega (arith, before)
