-- After a leader that keeps its lead, nobody else acts for some time.
use Rattle.std.proofs.Common.{◌≡◌, ◌⊎◌, ◌<◌, ◌≤◌, ℕ, zero, suc, ◌+◌, ◌-◌, ◌*◌, ◌&&◌, not, Bool, true, false, List, [], ◌∷◌, length, length-append, Option, Some, None, IfSome, refl, sym, ap, ◌∙◌, subst, inl, inr, ⊎_elim, arith}
use Rattle.std.proofs.lemmas.Bool.{ltb-true, cases_lt, cases_eq}
use Rattle.std.proofs.Math.Nat.{mul-le-mul_right}
use Rattle.kube_objects.specs.declared.lease.Holder.TheVariants as holder
use Rattle.kube_objects.specs.declared.lease.Lease.{Lease}
use Rattle.kube_objects.specs.declared.object.Object.{Object}
use Rattle.kube_objects.specs.declared.object.Object.TheVariants as object
use Rattle.kube_objects.specs.Clocks.{local}
use Rattle.kube_objects.specs.Document.{Doc, processes, end_beat, beat_micros, is_controller, lease_seconds, call_timeout, retry_period, renew_deadline}
use Rattle.kube_objects.specs.Elector.{deadline, succeeds, is_before}
use Rattle.kube_objects.specs.Entry.{Entry, Identity}
use Rattle.kube_objects.specs.Identities.{is_same, is_by, is_other, holder_of}
use Rattle.kube_objects.specs.Own.{ReleasesByStop}
use Rattle.kube_objects.specs.Process.{alive, is_present}
use Rattle.kube_objects.specs.Stored.{Held, election, stored}
use Rattle.kube_objects.specs.Wire.{Back}
use Rattle.history.specs.History.{history, whole_history, at_turn}
use Rattle.history.specs.Premise.{longest, waited_by}
use Rattle.history.specs.Safe.{Acts}
use Rattle.history.specs.Sound.{IsSound}
use Rattle.history_laws.specs.Tails.{IsTail}
use Rattle.history_laws.proofs.Order.{entries_are_earlier}
use Rattle.history_laws.proofs.Plainly.{some_is, none_is, false_is, same_is, and_right}
use Rattle.history_laws.proofs.Tailed.{tail_all, tail_trans, in_tail, tails_meet, count_tail, turn_tail, before_turn, later_tail}
use Rattle.lease_laws.proofs.Claims.{IsOwn, term_of, is_writer, never_freed, exclusive_own}
use Rattle.lease_laws.proofs.Histories.{bears_own, turn_right}
use Rattle.lease_laws.proofs.Invariant.{view, frees, freed, FitObject, CoveredBy, Covered, BackRight, HeldRight, Led, Within, Inv}
use Rattle.lease_laws.proofs.Pauses.{true_time}
use Rattle.lease_laws.proofs.Late.{crossed}
use Rattle.lease_laws.proofs.Premises.{Premise, premise_from}
use Rattle.lease_laws.proofs.Releases.{covered_of}
use Rattle.lease_laws.proofs.TwoPauses.{counted_at}
use Rattle.lease_laws.proofs.Waited.{waits_for}
use Rattle.span_laws.specs.Spans.{RunsAtLeast, RunsAtMost, IsEnough, IsNeeded}
use Rattle.span_laws.proofs.Spans.{goes_least, readings_last}
use Rattle.span_laws.proofs.Looks.{not_over}
use Rattle.gap_laws.specs.Gaps.{KeepsLead, OthersWait}
use Rattle.gap_laws.proofs.Waits.{Slow, Waited, WaitedFor, Topped, Took, Success, TermFrom, Waits}
use Rattle.gap_laws.proofs.Histories.{none_below, turn_known}

-- ---- arithmetic

-- beats before a pause, in it and after it
in_parts : (before after u ct rp rd n : ℕ) → before * u < ct + rp → after * u < rd → ct + rp + rd ≤ n * u → before + after < n
in_parts before after u ct rp rd n a b le =
    ⊎_elim (λ lt. lt) (λ more. absurd (omega (arith, a, b, le, mul-le-mul_right u more))) (cases_lt (before + after) n)

fewer : (m n u time : ℕ) → m * u < time → time ≤ n * u → m < n
fewer m n u time lt le = ⊎_elim (λ less. less) (λ more. absurd (omega (arith, lt, le, mul-le-mul_right u more))) (cases_lt m n)

positive : (n a m : ℕ) → a < n * m → 0 < n
positive zero a m lt = absurd (omega (arith, lt))
positive (suc n) a m lt = omega arith

-- who acts at beat j goes by a success that was sent no more than so many beats ago
sent_soon : (doc : Doc) (p s j d slow lasts : ℕ) → RunsAtLeast doc p 0 j slow → IsEnough slow (call_timeout doc p + retry_period doc p + renew_deadline doc p) lasts → local doc p j < d → Within doc p s d
    → j < s + lasts + longest doc p
sent_soon doc p s j d slow lasts runs is acting (inl le) =
    let soon : j < s + lasts = not_over doc p 0 j slow (call_timeout doc p + retry_period doc p + renew_deadline doc p) lasts runs is s j (omega arith) (omega arith) (omega (arith, acting, le)) in
    omega (arith, soon)
sent_soon doc p s j d slow lasts runs is acting (inr w) = ⊎_elim early late (cases_lt j w.from)
  where
    counted : w.beats + 1 ≤ longest doc p
    counted = counted_at p doc.events w.place w.from w.beats w.pauses

    early : j < w.from → j < s + lasts + longest doc p
    early lt =
        let ahead = w.ahead j lt in
        let soon : j < s + lasts = not_over doc p 0 j slow (call_timeout doc p + retry_period doc p + renew_deadline doc p) lasts runs is s j (omega arith) (omega arith) (omega (arith, ahead)) in
        omega (arith, soon)

    -- the beats from the sending to the pause
    before : (b : ℕ) → w.from ≡ b → b ≤ j → (b ≤ s) ⊎ ((b - 1 - s) * slow < call_timeout doc p + retry_period doc p)
    before zero same le = inl (omega arith)
    before (suc b) same le =
        let ahead = w.ahead b (omega (arith, same)) in
        ⊎_elim (λ lt. inl (omega (arith, lt)))
        (λ from. let e : suc b - 1 - s ≡ b - s = omega arith in inr (subst (λ n. n * slow < call_timeout doc p + retry_period doc p) (sym e) (omega (arith, ahead, goes_least doc p 0 j slow runs s b (omega arith) from (omega (arith, le))))))
        (cases_lt b s)

    late : w.from ≤ j → j < s + lasts + longest doc p
    late le = ⊎_elim inside outside (cases_lt j (w.from + w.beats))
      where
        inside : j < w.from + w.beats → j < s + lasts + longest doc p
        inside lt = ⊎_elim (λ early. omega (arith, early, lt, counted)) (λ some.
            let few : w.from - 1 - s < lasts = fewer (w.from - 1 - s) lasts slow (call_timeout doc p + retry_period doc p + renew_deadline doc p) (omega (arith, some)) is in
            omega (arith, few, lt, counted)) (before w.from refl le)

        outside : w.from + w.beats ≤ j → j < s + lasts + longest doc p
        outside after =
            let rest : (j - (w.from + w.beats)) * slow < renew_deadline doc p = omega (arith, acting, w.within, goes_least doc p 0 j slow runs (w.from + w.beats) j (omega arith) after (omega arith)) in
            ⊎_elim
            (λ early. let few : j - (w.from + w.beats) < lasts = fewer (j - (w.from + w.beats)) lasts slow (call_timeout doc p + retry_period doc p + renew_deadline doc p) (omega (arith, rest)) is in omega (arith, few, early, after, counted))
            (λ some. let few = in_parts (w.from - 1 - s) (j - (w.from + w.beats)) slow (call_timeout doc p) (retry_period doc p) (renew_deadline doc p) lasts some rest is in omega (arith, few, after, counted))
            (before w.from refl le)

-- ---- the last write from then on

-- p's own record
pub record Mine (doc : Doc) (p : Identity) (from : ℕ) (y : Held) : Type 0 where
  by : y.by ≡ Some p
  since : from ≤ y.beat
  lease : Lease
  object : y.object ≡ object.Lease lease
  holder : lease.holder ≡ holder_of p
  duration : lease.duration ≡ Some (lease_seconds doc p.process)

-- the last write is p's own, or one that waited for it
abbrev Kept : Doc → Identity → ℕ → ℕ → Option Held → Type 0
Kept doc p from needed t = (y : Held) × (t ≡ Some y) × (Mine doc p from y ⊎ (from + needed + 2 ≤ y.beat))

module _ (doc : Doc) (premise : Premise doc) (sound : IsSound doc) (rules : ReleasesByStop doc) (p q : Identity) (j k : ℕ) (end : k ≤ end_beat doc) (order : j ≤ k) (first : Acts doc p j) (last : Acts doc q k) (differ : p ≡ q → ⊥)
    (keeps : KeepsLead doc p (at_turn doc p.process j)) (fast needed : ℕ) (runs : (c : ℕ) → is_controller doc c ≡ true → RunsAtMost doc c 0 k fast) (need : IsNeeded fast (waited_by doc.settings.rules.respect doc p.process) needed) where
  below_processes : (c : ℕ) → is_controller doc c ≡ true → c ≤ processes doc
  below_processes c role = let e : processes doc ≡ length doc.controllers + length doc.kubelets = length-append doc.controllers doc.kubelets in omega (arith, ltb-true c (length doc.controllers) role, e)

  abbrev w : Slow
  w = record { who = 0; from = 0; least = 0 }

  abbrev start : List Entry
  start = at_turn doc p.process j

  abbrev here : List Entry
  here = at_turn doc q.process k

  in_whole : IsTail here (whole_history doc)
  in_whole = tail_trans here (history doc (suc k)) (whole_history doc) (turn_tail doc q.process k (below_processes q.process last.0)) (later_tail doc (suc k) (suc (end_beat doc)) (omega (arith, end)))

  waits : Waits doc w k here
  waits = turn_known doc sound rules premise.high premise.greatest w (λ x h at from late. (omega arith, omega arith)) q.process k end in_whole

  inv : Inv doc premise.high j start
  inv = turn_right doc premise.high premise.greatest (bears_own doc premise.high rules) sound p.process j (omega (arith, order, end))

  -- an entry's beat
  by_then : (x : Entry) (T : List Entry) → IsTail (x ∷ T) here → x.beat ≤ k
  by_then x T at =
      ⊎_elim (λ lt. omega (arith, lt)) (λ zero. omega (arith, zero.0))
      (entries_are_earlier doc (suc k) x (in_tail x (x ∷ T) (history doc (suc k)) (tail_trans (x ∷ T) here (history doc (suc k)) at (turn_tail doc q.process k (below_processes q.process last.0))) (inl refl)))

  -- a write of a controller over such a record
  over_mine : (from : ℕ) (x : Entry) (T : List Entry) → IsTail (x ∷ T) here → IsTail start T → (t : Topped doc x T) → Took doc w t.b x.beat T → (y : Held) → stored election T ≡ Some y → Mine doc p from y
      → Mine doc p from t.x ⊎ (from + needed + 2 ≤ t.x.beat)
  over_mine from x T at above t took y is mine = by_same (is_same p t.b.who) refl
    where
      base : (y.beat ≤ t.b.call.sent) × WaitedFor doc w t.b.who t.b.call.sent y
      base = subst (λ o. IfSome o (λ y. (y.beat ≤ t.b.call.sent) × WaitedFor doc w t.b.who t.b.call.sent y)) is took.base

      own : p ≡ t.b.who → (lease : Lease) → t.x.object ≡ object.Lease lease → lease.holder ≡ holder_of t.b.who → lease.duration ≡ Some (lease_seconds doc t.b.who.process) → Mine doc p from t.x
      own same lease object held duration = record {
        by = t.by ∙ ap Some (sym same);
        since = omega (arith, mine.since, base.0, took.after.0, t.beat);
        lease = lease;
        object = object;
        holder = held ∙ ap holder_of (sym same);
        duration = duration ∙ ap (λ (q : Identity). Some (lease_seconds doc q.process)) (sym same);
      }

      given_up : p ≡ t.b.who → t.lease.holder ≡ holder.Nobody → ⊥
      given_up same free = keeps x T t.lease (tail_trans (x ∷ T) here (whole_history doc) at in_whole) above (t.actor ∙ ap Some (sym same)) (t.write ∙ ap (λ o. Some (Some o)) t.object) free

      by_same : (b : Bool) → is_same p t.b.who ≡ b → Mine doc p from t.x ⊎ (from + needed + 2 ≤ t.x.beat)
      by_same true same = let e = same_is p t.b.who same in ⊎_elim (λ fit. inl (own e t.lease t.object fit.0 fit.1)) (λ free. absurd (given_up e free.0)) t.fit
      by_same false other =
          let waited : Waited doc w t.b.who t.b.call.sent y mine.lease = base.1 mine.lease mine.object (ap (is_other t.b.who) mine.holder ∙ ap not other) in
          let over : local doc t.b.who.process waited.seen + waited_by doc.settings.rules.respect doc p.process ≤ local doc t.b.who.process t.b.call.sent =
          omega (arith, waited.over, waits_for doc doc.settings.rules.respect p.process t.b.who.process mine.lease t.role mine.duration) in
          let then : x.beat ≤ k = by_then x T at in
          let counted : waited.seen + needed ≤ t.b.call.sent =
          readings_last doc t.b.who.process 0 k fast (waited_by doc.settings.rules.respect doc p.process) needed (runs t.b.who.process t.role) need waited.seen t.b.call.sent (omega arith) waited.before (omega (arith, then, took.after.0)) over in
          inr (omega (arith, counted, waited.late.0, mine.since, took.after.0, t.beat))

  led_before : (T : List Entry) → IsTail start T → deadline doc p T ≡ None → ⊥
  led_before T at none = by_deadline (deadline doc p start) (none_below _ start T at none) (and_right (is_present (alive p.process start) p.incarnation) (is_before (local doc p.process j) (deadline doc p start)) (term_of doc rules p j start first.1))
    where
      by_deadline : (o : Option ℕ) → o ≡ None → is_before (local doc p.process j) o ≡ true → ⊥
      by_deadline None is acting = false_is acting
      by_deadline (Some d) is acting = none_is d (sym is)

  on : (from : ℕ) (x : Entry) (T : List Entry) → IsTail (x ∷ T) here → IsTail start T → Kept doc p from needed (stored election T) → Kept doc p from needed (stored election (x ∷ T))
  on from x T at above (y, is, old) = ⊎_elim (λ none. absurd (led_before T above (none p))) (λ tops. ⊎_elim (λ same. (y, same ∙ is, old)) new tops) (waits.tops x T at)
    where
      new : Topped doc x T → Kept doc p from needed (stored election (x ∷ T))
      new t = (t.x, t.top, ⊎_elim (over_mine from x T at above t took y is) far old)
        where
          took : Took doc w t.b x.beat T
          took = (subst (λ o. IfSome o (λ b. is_controller doc b.who.process ≡ true → succeeds b.call.request b.reply ≡ true → Topped doc x T × Took doc w b x.beat T)) t.is (waits.answers x T at) t.role t.so).1

          far : from + needed + 2 ≤ y.beat → Mine doc p from t.x ⊎ (from + needed + 2 ≤ t.x.beat)
          far le =
              let base = subst (λ o. IfSome o (λ y. (y.beat ≤ t.b.call.sent) × WaitedFor doc w t.b.who t.b.call.sent y)) is took.base in
              inr (omega (arith, le, base.0, took.after.0, t.beat))

  kept_at : (from : ℕ) → Kept doc p from needed (stored election start) → (h : List Entry) → IsTail start h → IsTail h here → Kept doc p from needed (stored election h)
  kept_at from first_kept [] above at = subst (λ h. Kept doc p from needed (stored election h)) above first_kept
  kept_at from first_kept (x ∷ T) (inl is) at = subst (λ h. Kept doc p from needed (stored election h)) is first_kept
  kept_at from first_kept (x ∷ T) (inr above) at = on from x T at above (kept_at from first_kept T above (tail_trans T (x ∷ T) here (inr (tail_all T)) at))

  -- ---- at beat k

  gave_never : 0 < freed q start → IsTail start here → ⊥
  gave_never some at = never_freed doc premise sound rules q k end last (omega (arith, some, count_tail (λ e. frees e.fact && is_by q e.actor) start here at))

  at_last : (from : ℕ) (y : Held) → stored election start ≡ Some y → y.by ≡ Some p → y.beat ≡ from → Kept doc p from needed (stored election start) → IsTail start here → from + needed + 3 ≤ k
  at_last from y top by beat first_kept above = by_deadline (deadline doc q here) (waits.terms q last.0) (and_right (is_present (alive q.process here) q.incarnation) (is_before (local doc q.process k) (deadline doc q here)) (term_of doc rules q k here last.1))
    where
      later : (n : ℕ) (s : Success w q n here) → n ≤ k → IsTail start (s.e ∷ s.before) → from + needed + 3 ≤ k
      later n s le at = ⊎_elim mine far kept.2
        where
          answered : Topped doc s.e s.before × Took doc w s.b s.e.beat s.before
          answered = subst (λ o. IfSome o (λ b. is_controller doc b.who.process ≡ true → succeeds b.call.request b.reply ≡ true → Topped doc s.e s.before × Took doc w b s.e.beat s.before)) s.is (waits.answers s.e s.before s.stands)
              (subst (λ (q : Identity). is_controller doc q.process ≡ true) (sym s.who) last.0) s.so

          kept : Kept doc p from needed (stored election (s.e ∷ s.before))
          kept = kept_at from first_kept (s.e ∷ s.before) at s.stands

          same : kept.0 ≡ answered.0.x
          same = some_is kept.0 answered.0.x (sym kept.1 ∙ answered.0.top)

          who : answered.0.b.who ≡ q
          who = ap (λ (b : Back). b.who) (some_is answered.0.b s.b (sym answered.0.is ∙ s.is)) ∙ s.who

          mine : Mine doc p from kept.0 → from + needed + 3 ≤ k
          mine m = absurd (differ (some_is p q (sym m.by ∙ ap (λ (y : Held). y.by) same ∙ answered.0.by ∙ ap Some who)))

          far : from + needed + 2 ≤ kept.0.beat → from + needed + 3 ≤ k
          far more = let e : kept.0.beat ≡ s.e.beat = ap (λ (y : Held). y.beat) same ∙ answered.0.beat in omega (arith, more, e, s.comes.0, le)

      earlier : (d n : ℕ) (s : Success w q n here) → local doc q.process k < d → Within doc q.process s.b.call.sent d → IsTail (s.e ∷ s.before) start → ⊥
      earlier d n s acting within at = ⊎_elim (λ some. gave_never some above) covered (subst (λ q. Covered doc premise.high (view start) q s.b.call.sent) s.who ((right.answer (subst (λ (q : Identity). is_controller doc q.process ≡ true) (sym s.who) last.0)).covered s.so))
        where
          right : BackRight doc premise.high j (view start) s.e.beat s.b
          right = subst (λ o. IfSome o (BackRight doc premise.high j (view start) s.e.beat)) s.is (inv.core.entries s.e (in_tail s.e (s.e ∷ s.before) start at (inl refl))).1

          held : HeldRight doc j (view start) y
          held = subst (λ o. IfSome o (HeldRight doc j (view start))) top inv.core.held

          by_top : CoveredBy doc premise.high q s.b.call.sent (Some y) → ⊥
          by_top (inl own) = differ (some_is p q (sym by ∙ own.0))
          by_top (inr wide) =
              crossed (y.beat - (s.b.call.sent + 1)) (k - s.b.call.sent) (beat_micros doc) (premise.low q.process) premise.high (waited_by doc.settings.rules.respect doc q.process) (call_timeout doc q.process + retry_period doc q.process + renew_deadline doc q.process) (longest doc q.process)
              (omega (arith, held.beat, order)) wide (true_time doc (premise.low q.process) q.process (premise.least q.process) s.b.call.sent k d end acting within) (premise.lease q.process last.0)

          covered : CoveredBy doc premise.high q s.b.call.sent (stored election start) → ⊥
          covered c = by_top (subst (CoveredBy doc premise.high q s.b.call.sent) top c)

      by_deadline : (o : Option ℕ) → IfSome o (TermFrom doc w q k here) → is_before (local doc q.process k) o ≡ true → from + needed + 3 ≤ k
      by_deadline None term acting = absurd (false_is acting)
      by_deadline (Some d) term acting =
          ⊎_elim (λ at. later term.0 term.2 term.1 at) (λ at. absurd (earlier d term.0 term.2 (ltb-true _ _ acting) term.3 at)) (tails_meet start (term.2.e ∷ term.2.before) here above term.2.stands)

  -- ---- at beat j

  never_gave : 0 < freed p start → ⊥
  never_gave = never_freed doc premise sound rules p j (omega (arith, order, end)) first

  at_start : IsTail start here
  at_start = ⊎_elim (λ same. absurd (differ (exclusive_own doc premise sound rules p q k end (subst (Acts doc p) same first) last)))
      (λ other. tail_trans start (history doc (suc j)) here (turn_tail doc p.process j (below_processes p.process first.0))
      (tail_trans (history doc (suc j)) (history doc k) here (later_tail doc (suc j) k (omega (arith, other, order))) (before_turn doc q.process k))) (cases_eq j k)

  mine_at : (y : Held) → stored election start ≡ Some y → y.by ≡ Some p → Mine doc p y.beat y
  mine_at y top by = cases y.object refl (held.fit p by)
    where
      held : HeldRight doc j (view start) y
      held = subst (λ o. IfSome o (HeldRight doc j (view start))) top inv.core.held

      cases : (o : Object) → y.object ≡ o → FitObject doc (view start) p o → Mine doc p y.beat y
      cases (object.Lease lease) is (inl fit) = record { by = by; since = omega arith; lease = lease; object = is; holder = fit.0; duration = fit.1 }
      cases (object.Lease lease) is (inr free) = absurd (never_gave free.1)
      cases (object.Node node) is fit = absurd fit
      cases (object.Pod pod) is fit = absurd fit

  -- its last write came after the sending of the success that it acts by
  sent_before : (y : Held) → stored election start ≡ Some y → (s : ℕ) → Covered doc premise.high (view start) p s → s < y.beat
  sent_before y top s (inl gone) = absurd (never_gave gone)
  sent_before y top s (inr by) = cases (subst (CoveredBy doc premise.high p s) top by)
    where
      long : 0 < waited_by doc.settings.rules.respect doc p.process
      long = positive (waited_by doc.settings.rules.respect doc p.process) (longest doc p.process * (beat_micros doc * premise.high) * premise.low p.process + (call_timeout doc p.process + retry_period doc p.process + renew_deadline doc p.process) * premise.high) (premise.low p.process) (premise.lease p.process first.0)

      cases : CoveredBy doc premise.high p s (Some y) → s < y.beat
      cases (inl own) = own.1
      cases (inr wide) =
          ⊎_elim (λ lt. lt) (λ le. let none : y.beat - (s + 1) ≡ 0 = omega (arith, le) in absurd (omega (arith, wide, long, ap (λ n. n * (beat_micros doc * premise.high)) none))) (cases_lt s y.beat)

  waited_long : (slow lasts : ℕ) → RunsAtLeast doc p.process 0 j slow → IsEnough slow (call_timeout doc p.process + retry_period doc p.process + renew_deadline doc p.process) lasts → j + needed + 5 ≤ k + lasts + longest doc p.process
  waited_long slow lasts goes is = by_top (stored election start) refl (is_writer doc premise sound rules p j (omega (arith, order, end)) first)
    where
      by_deadline : (y : Held) → stored election start ≡ Some y → (o : Option ℕ) → IfSome o (Led doc j start p) → is_before (local doc p.process j) o ≡ true → j + 2 ≤ y.beat + lasts + longest doc p.process
      by_deadline y top None led acting = absurd (false_is acting)
      by_deadline y top (Some d) led acting =
          omega (arith, sent_before y top led.sent (covered_of doc premise.high j start inv p first.0 led.sent led.answered), sent_soon doc p.process led.sent j d slow lasts goes is (ltb-true _ _ acting) led.within)

      by_top : (t : Option Held) → stored election start ≡ t → IsOwn p t → j + needed + 5 ≤ k + lasts + longest doc p.process
      by_top None top own = absurd own
      by_top (Some y) top own =
          omega (
            arith,
            at_last y.beat y top own refl (y, top, inl (mine_at y top own)) at_start,
            by_deadline y top (deadline doc p start) (inv.core.led p first.0) (and_right (is_present (alive p.process start) p.incarnation) (is_before (local doc p.process j) (deadline doc p start)) (term_of doc rules p j start first.1)),
          )

pub others_wait : OthersWait
others_wait doc is sound rules p q j k end order first last differ keeps slow lasts goes enough fast needed runs need =
    waited_long doc (premise_from doc is) sound rules p q j k end order first last differ keeps fast needed runs need slow lasts goes enough
