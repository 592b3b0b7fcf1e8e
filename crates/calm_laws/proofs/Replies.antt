-- What is shown to a candidate in a calm, and what it asks for then.
use Rattle.std.proofs.Common.{◌≡◌, ◌<◌, ◌≤◌, ℕ, suc, ◌+◌, ◌*◌, Bool, true, false, cond, List, ◌∷◌, Option, Some, None, IfSome, refl, sym, ap, ◌∙◌, subst, inr, ⊎_elim, arith}
use Rattle.std.proofs.lemmas.Bool.{cases_lt}
use Rattle.kube_base.specs.declared.numbers.Version.{Version}
use Rattle.kube_objects.specs.declared.call.Reply.{Reply}
use Rattle.kube_objects.specs.declared.call.Reply.TheVariants.{Done}
use Rattle.kube_objects.specs.declared.call.Request.{Request}
use Rattle.kube_objects.specs.declared.call.Request.TheVariants.{Get, Create, Update, PostStatus}
use Rattle.kube_objects.specs.declared.lease.Lease.{Lease}
use Rattle.kube_objects.specs.declared.object.Object.TheVariants as object
use Rattle.kube_objects.specs.Answers.{lease_in, versioned, as_kind, answer_get, answer, if_done, written}
use Rattle.kube_objects.specs.Document.{Doc, is_controller}
use Rattle.kube_objects.specs.Elector.{Moment, moment, Fails, Asks, follow_get, follow, is_blocked, updated, created, leads, observed_at, respected}
use Rattle.kube_objects.specs.Entry.{Entry, Identity, Call, Sends, Answers, Delivers, actor_of, entry}
use Rattle.kube_objects.specs.Keys.{key_eq}
use Rattle.kube_objects.specs.Newest.{when, has}
use Rattle.kube_objects.specs.Process.{open_as}
use Rattle.kube_objects.specs.Stored.{Held, election, key_of, request_write, at_key, stored}
use Rattle.kube_objects.specs.Wire.{sent_of, back_of, request_delay, reply_delay, request_arrival}
use Rattle.kube_objects.specs.Own.{ReleasesByStop}
use Rattle.history.specs.History.{history}
use Rattle.history_laws.specs.Tails.{In, IsTail}
use Rattle.history_laws.proofs.Order.{entries_are_earlier}
use Rattle.history_laws.proofs.Plainly.{some_is}
use Rattle.history_laws.proofs.Tailed.{tail_all, tail_trans, later_tail}
use Rattle.call_laws.specs.Answering.{with_events}
use Rattle.call_laws.proofs.Above.{in_head}
use Rattle.call_laws.proofs.Making.{Replied}
use Rattle.call_laws.proofs.Placing.{in_own_beat, not_before, forces_stand, messages_travel}
use Rattle.takeover_laws.specs.Calm.{Passes, IsSteady, IsCalm, WritesElection}
use Rattle.takeover_laws.specs.Taking.{FitsStored}
use Rattle.takeover_laws.proofs.Rounds.{request_comes, reply_passes, sent_is}
use Rattle.calm_laws.proofs.Asked.{IsWrite, IsNext, Reason, next_is, asks_same, fails_not, reason_of, InTurn, AfterReply}
use Rattle.takeover_laws.proofs.Taking.{IsKept, no_takeover}
use Rattle.calm_laws.proofs.Origins.{Origin, origin}
use Rattle.calm_laws.proofs.Sources.{Source, source}

-- ---- what is stored as a Lease

abbrev pub HasLease : Option Held → Type 0
HasLease None = Unit {0}
HasLease (Some x) = (lease : Lease) × (lease_in x.object ≡ Some lease)

-- a write that follows a Get that showed what is stored fits it
fits_of : (q : Identity) (m : Moment) (seen : ℕ) (o : Option Held) (r : Request) → HasLease o → follow_get q m seen (answer_get (as_kind lease_in o)) ≡ Asks r → FitsStored o r
fits_of q m seen None r lease is = subst (FitsStored None) (asks_same (Create election (created q m)) r is) refl
fits_of q m seen (Some x) r lease is = by_test (is_blocked q m.now seen (respected m.respect m.seconds lease.0)) (ap (λ l. follow_get q m seen (answer_get (versioned x.version l))) (sym lease.1) ∙ is)
  where
    by_test : (b : Bool) → cond b Fails (Asks (Update election x.version (updated q m lease.0))) ≡ Asks r → FitsStored (Some x) r
    by_test true is = absurd (fails_not r is)
    by_test false is = subst (FitsStored (Some x)) (asks_same (Update election x.version (updated q m lease.0)) r is) (refl, refl)

-- a write that was answered with a version wrote
pub wrote_by : (r : Request) (h : List Entry) (version : Version) → IsWrite r → key_of r ≡ election → answer r h ≡ Done version → has (at_key election (request_write r (written r h))) ≡ true
wrote_by (Create key lease) h version w is done =
    ap (λ reply. has (at_key election (request_write (Create key lease) (if_done reply (object.Lease lease))))) done ∙ ap (λ k. has (when (key_eq k election) (Some (object.Lease lease)))) is
wrote_by (Update key given lease) h version w is done =
    ap (λ reply. has (at_key election (request_write (Update key given lease) (if_done reply (object.Lease lease))))) done ∙ ap (λ k. has (when (key_eq k election) (Some (object.Lease lease)))) is
wrote_by (Get key) h version w is done = absurd w
wrote_by (PostStatus name status at) h version w is done = absurd w

module _ (doc : Doc) (rules : ReleasesByStop doc) (near far a settled e n : ℕ) (calm : IsCalm doc near far a e) (one : 1 ≤ near) (ways : near ≤ far) (ordered : a ≤ settled) (within : n ≤ e)
    (kept : IsKept doc far settled n) (q : Identity) (role : is_controller doc q.process ≡ true) (steady : IsSteady doc near far a e q.process)
    (led : (h : List Entry) → IsTail h (history doc (suc n)) → leads q h ≡ false) (lease : HasLease (stored election (history doc (settled + far)))) where
  abbrev pub stored_reply : Reply
  stored_reply = answer_get (as_kind lease_in (stored election (history doc (settled + far))))

  -- ---- where a reply to it is from

  module _ (w : Call) (reply : Reply) (T : List Entry) (y : ℕ) (o : Origin doc q w reply T y) (high : IsTail T (history doc (suc n))) where
    s : Source doc n q w reply T y o
    s = source doc rules n q role led w reply T y o high

    key_is : key_eq (key_of w.request) election ≡ true
    key_is = ap (λ k. key_eq k election) s.key

    earlier : (z : Entry) (Z : List Entry) → IsTail (z ∷ Z) (history doc (suc n)) → z.beat < a → In z (history doc a)
    earlier z Z at lt = in_head z Z (history doc a) (tail_trans (z ∷ Z) (history doc (suc z.beat)) (history doc a) (in_own_beat doc (suc n) z Z at) (later_tail doc (suc z.beat) a (omega (arith, lt))))

    -- a reply that comes two ways after the calm began was given one way after it, or later
    pub answered_late : settled + 2 * far ≤ y → y ≤ n → settled + far ≤ o.e.beat
    answered_late late to = ⊎_elim (λ lt. absurd (early lt)) (λ from. ⊎_elim (λ lt. absurd (soon from lt)) (λ le. le) (cases_lt o.e.beat (settled + far))) (cases_lt o.e.beat a)
      where
        back_is : back_of o.e.actor o.e.fact ≡ Some (record { who = q; call = w; reply = reply; comes = Some y })
        back_is = ap (λ d. back_of o.e.actor d) o.fact ∙ ap (λ who. back_of who (Answers w reply (Some y) (written w.request o.low))) o.actor

        early : o.e.beat < a → ⊥
        early lt =
            let come : y < a + far = subst (λ o. IfSome o (λ b. key_eq (key_of b.call.request) election ≡ true → IfSome b.comes (λ m. m < a + far))) back_is (calm.replies o.e (earlier o.e o.low s.position lt)) key_is in
            omega (arith, come, late, ordered)

        soon : a ≤ o.e.beat → o.e.beat < settled + far → ⊥
        soon from lt = omega (arith, comes, passes.reply_most, late, lt)
          where
            passes : Passes doc near far q.process o.e.beat
            passes = steady.passes o.e.beat from (omega (arith, lt, late, to, within))

            comes : o.e.beat + reply_delay q.process (with_events doc o.e.beat) ≡ y
            comes =
                some_is (o.e.beat + reply_delay q.process (with_events doc o.e.beat)) y
                (sym (reply_passes doc near far q.process o.e.beat o.low passes (forces_stand doc rules (suc n) o.e o.low s.position (omega (arith, o.step)))
                (steady.passes (o.e.beat + reply_delay q.process (with_events doc o.e.beat)) (omega (arith, from)) (omega (arith, passes.reply_most, lt, late, to, within))).awake)
                ∙ o.comes_is)

    answered_by : o.e.beat ≤ n
    answered_by = ⊎_elim (λ lt. omega (arith, lt)) (λ first. omega (arith, first.0)) (entries_are_earlier doc (suc n) o.e (in_head o.e o.low (history doc (suc n)) s.position))

    -- so its request was sent in the calm
    pub sent_since : settled + far ≤ o.e.beat → settled ≤ o.begun.f.beat
    sent_since late = ⊎_elim (λ lt. absurd (early lt)) (λ from. ⊎_elim (λ lt. absurd (soon from lt)) (λ le. le) (cases_lt o.begun.f.beat settled)) (cases_lt o.begun.f.beat a)
      where
        travels : IfSome (sent_of o.begun.f.actor o.begun.f.fact) (λ s. (s.call.sent ≡ o.begun.f.beat) × (s.arrives ≡ request_arrival doc s.who.process o.begun.f.beat o.begun.before))
        travels = (messages_travel doc rules (suc n) o.begun.f o.begun.before s.sending).0

        soon : a ≤ o.begun.f.beat → o.begun.f.beat < settled → ⊥
        soon from lt = omega (arith, arrives, passes.request_most, late, lt)
          where
            passes : Passes doc near far q.process o.begun.f.beat
            passes = steady.passes o.begun.f.beat from (omega (arith, lt, late, answered_by, within))

            arrives : o.e.beat ≡ o.begun.f.beat + request_delay q.process (with_events doc o.begun.f.beat)
            arrives =
                request_comes doc rules near far q.process o.begun.f.beat o.begun.before passes (forces_stand doc rules (suc n) o.begun.f o.begun.before s.sending (omega (arith, s.asked.1))) o.e.beat
                (λ j low high. (steady.passes j (omega (arith, from, low)) (omega (arith, high, answered_by, within))).goes)
                (sym (sym o.arrives
                ∙ (subst (λ p. IfSome p (λ s. (s.call.sent ≡ o.begun.f.beat) × (s.arrives ≡ request_arrival doc s.who.process o.begun.f.beat o.begun.before))) (sent_is o.begun.f q w o.begun.arrives o.begun.actor o.begun.fact) travels).1))

        early : o.begun.f.beat < a → ⊥
        early lt =
            let there = subst (λ o. IfSome o (λ s. key_eq (key_of s.call.request) election ≡ true → IfSome s.arrives (λ m. m < a + far)))
            (sent_is o.begun.f q w o.begun.arrives o.begun.actor o.begun.fact) (calm.requests o.begun.f (earlier o.begun.f o.begun.before s.sending lt)) key_is in
            let come : o.e.beat < a + far = subst (λ o. IfSome o (λ m. m < a + far)) o.arrives there in
            omega (arith, come, late, ordered)

    -- a Get shows what is stored
    pub shows_stored : w.request ≡ Get election → settled + far ≤ o.e.beat → o.e.beat + far ≤ n → reply ≡ stored_reply
    shows_stored get late to =
        o.reply_is ∙ ap (λ r. answer r o.low) get
        ∙ ap (λ x. answer_get (as_kind lease_in x))
        (kept.stays o.e.beat late to o.low
        (not_before doc (settled + far) (suc n) o.e o.low (omega (arith, late, answered_by)) s.position late (omega (arith, o.step)))
        (tail_trans o.low (o.e ∷ o.low) (history doc (suc o.e.beat)) (inr (tail_all o.low)) (in_own_beat doc (suc n) o.e o.low s.position)))

    -- no write of it is accepted
    pub no_success : (version : Version) → IsWrite w.request → settled + far ≤ o.e.beat → o.e.beat + far ≤ n → reply ≡ Done version → ⊥
    no_success version write late to done =
        kept.no_write o.e o.low q s.position o.actor role
        (subst (WritesElection settled) (sym o.fact) (omega (arith, sent, sent_since late), wrote_by w.request o.low version write s.key (sym o.reply_is ∙ done))) to
      where
        sent : w.sent ≡ o.begun.f.beat
        sent = (subst (λ p. IfSome p (λ s. (s.call.sent ≡ o.begun.f.beat) × (s.arrives ≡ request_arrival doc s.who.process o.begun.f.beat o.begun.before)))
            (sent_is o.begun.f q w o.begun.arrives o.begun.actor o.begun.fact) (messages_travel doc rules (suc n) o.begun.f o.begun.before s.sending).0).0

  -- ---- a write after a Get ends in acting

  pub no_late_write : (x : Entry) (T : List Entry) (call : Call) (arrives : Option ℕ) → IsTail (x ∷ T) (history doc (suc n)) → x.actor ≡ actor_of q → x.fact ≡ Sends call arrives → 3 ≤ x.step
      → (f : Replied doc x.beat q call.request T) → IsWrite call.request → settled + 2 * far ≤ x.beat → x.beat + 2 * far ≤ n → ⊥
  no_late_write x T call arrives at actor fact step f write late to =
      no_takeover doc rules near far a settled e n kept ordered one ways within q role steady (suc n) x T call arrives at actor fact (omega (arith, step)) (omega (arith, late)) to (omega (arith, late)) fits
    where
      y : ℕ
      y = x.beat

      low : List Entry
      low = entry x.beat 3 q (Delivers f.waiting f.reply true) ∷ f.before

      at_low : IsTail low (history doc (suc n))
      at_low = subst (λ g. IsTail g (history doc (suc n))) f.is (tail_trans T (x ∷ T) (history doc (suc n)) (inr (tail_all T)) at)

      high : IsTail f.before (history doc (suc n))
      high = tail_trans f.before low (history doc (suc n)) (inr (tail_all f.before)) at_low

      o : Origin doc q f.waiting f.reply f.before x.beat
      o = origin doc rules (suc n) q (entry x.beat 3 q (Delivers f.waiting f.reply true)) f.before f.waiting f.reply at_low refl refl

      next : IsNext f.waiting.request call.request
      next = next_is q (moment doc q x.beat) (observed_at doc q T) f.waiting.kind f.waiting.request f.reply call.request f.follows

      get : f.waiting.request ≡ Get election
      get = (next.written write).1 ∙ ap Get (sym (ap key_of (next.written write).1) ∙ (source doc rules n q role led f.waiting f.reply f.before x.beat o high).key)

      given : settled + far ≤ o.e.beat
      given = answered_late f.waiting f.reply f.before x.beat o high late (omega (arith, to))

      upto : o.e.beat ≤ x.beat
      upto =
          ⊎_elim (λ lt. omega (arith, lt)) (λ first. omega (arith, first.0))
          (entries_are_earlier doc (suc x.beat) o.e (in_head o.e o.low (history doc (suc x.beat)) (tail_trans (o.e ∷ o.low) low (history doc (suc x.beat)) (inr o.answered)
          (in_own_beat doc (suc n) (entry x.beat 3 q (Delivers f.waiting f.reply true)) f.before at_low))))

      shows_it : f.reply ≡ stored_reply
      shows_it = shows_stored f.waiting f.reply f.before x.beat o high get given (omega (arith, upto, to))

      fits : FitsStored (stored election (history doc (settled + far))) call.request
      fits =
          fits_of q (moment doc q x.beat) (observed_at doc q T) (stored election (history doc (settled + far))) call.request lease
          (ap (λ reply. follow q (moment doc q x.beat) (observed_at doc q T) f.waiting.kind (Get election) reply) (sym shows_it)
          ∙ ap (λ r. follow q (moment doc q x.beat) (observed_at doc q T) f.waiting.kind r f.reply) (sym get) ∙ f.follows)

  -- ---- so from four ways after the calm began on

  -- its Gets show what is stored
  pub gets_show : (w : Call) (reply : Reply) (T : List Entry) (y : ℕ) (o : Origin doc q w reply T y) → IsTail T (history doc (suc n)) → w.request ≡ Get election → settled + 4 * far ≤ y → y + far ≤ n → o.e.beat + far ≤ n → reply ≡ stored_reply
  gets_show w reply T y o high get late to soon = shows_stored w reply T y o high get (answered_late w reply T y o high (omega (arith, late)) (omega (arith, to))) soon

  -- its writes are refused
  pub writes_fail : (w : Call) (reply : Reply) (T : List Entry) (y : ℕ) (o : Origin doc q w reply T y) → IsTail T (history doc (suc n)) → IsWrite w.request → settled + 4 * far ≤ y → y + far ≤ n → o.e.beat + far ≤ n → (version : Version) → reply ≡ Done version → ⊥
  writes_fail w reply T y o high write late to soon version done = no_success w reply T y o high version write (answered_late w reply T y o high (omega (arith, late)) (omega (arith, to))) soon done

  -- and it sends none
  pub none_written : (x : Entry) (T : List Entry) (call : Call) (arrives : Option ℕ) → IsTail (x ∷ T) (history doc (suc n)) → x.actor ≡ actor_of q → x.fact ≡ Sends call arrives → open_as call.kind call ≡ Some call → IsWrite call.request
      → settled + 4 * far ≤ x.beat + 2 * far → x.beat + 2 * far ≤ n → ⊥
  none_written x T call arrives at actor fact opens write late to = by_reason reason.0
    where
      reason : Reason doc x.beat q call.request T × (3 ≤ x.step)
      reason = reason_of doc rules (suc n) q role x T call arrives at actor fact (led T (tail_trans T (x ∷ T) (history doc (suc n)) (inr (tail_all T)) at)) opens

      by_reason : Reason doc x.beat q call.request T → ⊥
      by_reason (InTurn get) = subst IsWrite get write
      by_reason (AfterReply f) = no_late_write x T call arrives at actor fact reason.1 f write (omega (arith, late)) to
