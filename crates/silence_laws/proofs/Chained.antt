-- How long a candidate's looks at another's record take at least until one finds it over.
use Rattle.std.proofs.Common.{◌≡◌, ◌⊎◌, ◌<◌, ◌≤◌, ℕ, zero, suc, ◌+◌, ◌-◌, ◌*◌, ◌==◌, ◌&&◌, nat_lt, Bool, true, false, cond, List, ◌∷◌, length, Option, Some, None, refl, sym, ap, ◌∙◌, subst, inl, inr, arith}
use Rattle.std.proofs.Math.Nat.{mul-le-mul_right}
use Rattle.std.proofs.lemmas.Bool.{ltb-false, eqb-true}
use Rattle.kube_objects.specs.declared.call.Reply.TheVariants.{Found}
use Rattle.kube_objects.specs.declared.call.Request.TheVariants.{Update}
use Rattle.kube_objects.specs.declared.lease.Lease.{Lease}
use Rattle.kube_objects.specs.declared.object.Object.TheVariants as object
use Rattle.kube_objects.specs.Clocks.{local}
use Rattle.kube_objects.specs.Document.{Doc, end_beat, is_controller, lease_seconds}
use Rattle.kube_objects.specs.Elector.{Fails, Asks, moment, updated, respected, is_blocked, told, Shown, shows, shown, is_known, newly, observed, observed_at, leads, follow, follow_on}
use Rattle.kube_objects.specs.Entry.{Entry, Identity, Call, Fact, Delivers, actor_of, entry}
use Rattle.kube_objects.specs.Identities.{is_other}
use Rattle.kube_objects.specs.Newest.{only_if, or_zero}
use Rattle.kube_objects.specs.Own.{ReleasesByStop}
use Rattle.kube_objects.specs.Process.{alive}
use Rattle.kube_objects.specs.Stored.{Held, election, stored}
use Rattle.history.specs.History.{history}
use Rattle.history.specs.Safe.{Acts}
use Rattle.history.specs.Sound.{IsSound}
use Rattle.history_laws.specs.Tails.{IsTail}
use Rattle.history_laws.proofs.Plainly.{upper, same_self}
use Rattle.history_laws.proofs.Tailed.{tail_all, tail_trans}
use Rattle.span_laws.specs.Looks.{IsAtLeast}
use Rattle.span_laws.specs.Spans.{RunsAtLeast, RunsAtMost, IsEnough, IsNeeded}
use Rattle.span_laws.proofs.Spans.{readings_last}
use Rattle.call_laws.proofs.Above.{tail_length}
use Rattle.call_laws.proofs.Making.{MadeAs, MadeDelivery, are_made}
use Rattle.takeover_laws.specs.Calm.{IsSteady, IsInTime}
use Rattle.lease_laws.specs.Respects.{respected_time}
use Rattle.takeover_laws.specs.Waits.{longest_wait, shortest_wait}
use Rattle.takeover_laws.proofs.Waits.{blocked_is}
use Rattle.calm_laws.proofs.Origins.{Origin}
use Rattle.silence_laws.proofs.Chain.{Look, IsStep, step, looked, record_kept, beats_in}
use Rattle.silence_laws.proofs.Kept.{Kept}
use Rattle.silence_laws.proofs.Looking.{ShowsIt, shows_it}
use Rattle.silence_laws.proofs.Showing.{IsTold, told_by, ShownBy, shown_by}
use Rattle.silence_laws.proofs.Waiting.{beats_rise}
use Rattle.silence_laws.proofs.Ways.{IsWay, reply_way}

entry_is : (x : Entry) (step : ℕ) (q : Identity) (d : Fact) → x.step ≡ step → x.actor ≡ actor_of q → x.fact ≡ d → x ≡ entry x.beat step q d
entry_is x step q d at by is = λ i. record { beat = x.beat; step = at i; actor = by i; fact = is i }

module _ (doc : Doc) (near far e : ℕ) (sound : IsSound doc) (rules : ReleasesByStop doc) (end : e ≤ end_beat doc) (one : 1 ≤ near) (ways : near ≤ far) (c : Identity) (role : is_controller doc c.process ≡ true) (steady : IsSteady doc near far 0 e c.process) (time : IsInTime doc far 0 e c.process)
    (T : List Entry) (at : IsTail T (history doc (suc e))) (y : Held) (is : stored election T ≡ Some y) (lease : Lease) (object_is : y.object ≡ object.Lease lease) (foreign : y.by ≡ Some c → ⊥) (other : is_other c lease.holder ≡ true)
    (n : ℕ) (within : n ≤ e) (unled : (h : List Entry) → IsTail h (history doc (suc n)) → leads c h ≡ false) (idle : (j : ℕ) → j ≤ n → Acts doc c j → ⊥) (alive_n : alive c.process (history doc (suc n)) ≡ Some c.incarnation)
    (slow fast wait needed : ℕ) (runs_least : RunsAtLeast doc c.process 0 e slow) (runs_most : RunsAtMost doc c.process 0 e fast) (some : 1 ≤ wait)
    (wait_is : IsEnough slow (longest_wait doc c.process) wait) (needed_is : IsNeeded fast (shortest_wait doc c.process) needed) (lasting : ℕ) (lasting_is : IsNeeded fast (respected_time doc c.process lease) lasting) where
  abbrev pub Looks : ℕ → List Entry → Type 0
  Looks r S = Look doc rules near far e one ways c role steady time T at y is lease object_is r S

  abbrev pub at_look : ℕ → Call → List Entry → List Entry
  at_look r w S = looked doc rules near far e one ways c role steady time T at y is lease object_is r w S

  abbrev kept : Kept T y
  kept = record_kept doc rules near far e one ways c role steady time T at y is lease object_is

  near_step : ℕ
  near_step = needed + 2 * near

  far_step : ℕ
  far_step = wait + 2 * far

  -- so many steps lead from one look to another
  record Steps (o r : ℕ) : Type 0 where
    i : ℕ
    least : o + i * (needed + 2 * near) ≤ r
    most : r ≤ o + i * (wait + 2 * far)

  abbrev Lasts : ℕ → Type 0
  Lasts beats = IsAtLeast (needed + 2 * near) (wait + 2 * far) lasting beats

  longer : (a b : ℕ) → a ≤ b → Lasts a → Lasts b
  longer a b le s = (omega (arith, le, s.0), λ steps is. omega (arith, le, s.1 steps is))

  abbrev first_of : (r : ℕ) (S : List Entry) → Looks r S → ℕ
  first_of r S look = or_zero (observed c (at_look r look.w S))

  -- since the first look at the record there were only steps, or the record was found over before
  record Outcome (r : ℕ) (S : List Entry) (look : Looks r S) : Type 0 where
    first : y.beat + near ≤ first_of r S look
    upto : first_of r S look ≤ r
    either : Steps (first_of r S look) r ⊎ Lasts (r - first_of r S look)

  -- whether it blocks a look
  abbrev pub Blocks : (r : ℕ) (S : List Entry) → Looks r S → Bool
  Blocks r S look = is_blocked c (local doc c.process r) (observed_at doc c (at_look r look.w S)) (respected doc.settings.rules.respect (lease_seconds doc c.process) lease)

  -- a look that finds it over
  over_at : (r : ℕ) (S : List Entry) (look : Looks r S) → Steps (first_of r S look) r → Blocks r S look ≡ false → Lasts (r - first_of r S look)
  over_at r S look s free = (enough, λ steps steps_is. omega (arith, counted steps steps_is))
    where
      o : ℕ
      o = first_of r S look

      later : o ≤ r
      later = omega (arith, s.least)

      over : local doc c.process o + respected_time doc c.process lease ≤ local doc c.process r
      over =
          ltb-false (local doc c.process r) (local doc c.process o + respected_time doc c.process lease)
          (sym (ap (λ b. b && nat_lt (local doc c.process r) (local doc c.process o + respected_time doc c.process lease)) other) ∙ sym (blocked_is doc c.process c (local doc c.process r) (local doc c.process o) lease) ∙ free)

      enough : lasting ≤ r - o
      enough = omega (arith, readings_last doc c.process 0 e fast (respected_time doc c.process lease) lasting runs_most lasting_is o r (omega arith) later (beats_in doc rules near far e one ways c role steady time T at y is lease object_is _ S look.position) over)

      counted : (steps : ℕ) → IsNeeded (wait + 2 * far) lasting steps → steps * (needed + 2 * near) ≤ r - o
      counted steps steps_is =
          let few : steps ≤ s.i = steps_is s.i (omega (arith, enough, s.most)) in
          omega (arith, mul-le-mul_right (needed + 2 * near) few, s.least)

  -- the look before is one too
  record Before (S : List Entry) : Type 0 where
    r : ℕ
    low : List Entry
    look : Looks r low
    below : IsTail (at_look r look.w low) S
    seen : observed c S ≡ observed c (at_look r look.w low)
    none : (z : Entry) (Z : List Entry) → IsTail (z ∷ Z) S → IsTail (at_look r look.w low) Z → shows c z.actor z.fact ≡ None

  before_of : (S : List Entry) → IsTail S T → (s : Shown) → shown c S ≡ Some s → s.0.0 ≡ y.version.0 → Before S
  before_of S high s is_shown same = record {
    r = b.x.beat;
    low = b.before;
    look = record { w = t.w; get = it.get; position = subst (λ g. IsTail g T) tail_is at_b; o = with_origin.0; since = with_origin.1 };
    below = subst (λ g. IsTail g S) tail_is b.position;
    seen = b.seen ∙ ap (observed c) tail_is;
    none = λ z Z high low. b.none z Z high (subst (λ g. IsTail g Z) (sym tail_is) low);
  }
    where
      b : ShownBy c s S
      b = shown_by c s S is_shown

      t : IsTold c b.x.actor b.x.fact s
      t = told_by c b.x.actor b.x.fact s b.says

      at_b : IsTail (b.x ∷ b.before) T
      at_b = tail_trans (b.x ∷ b.before) S T b.position high

      it : ShowsIt doc near far e sound rules end c role T at y is lease object_is foreign t.w t.reply b.before b.x.beat
      it = shows_it doc near far e sound rules end c role T at y is lease object_is foreign b.x b.before at_b s t same

      made : MadeDelivery doc b.x.beat b.x.step b.x.actor t.w t.reply b.before
      made = subst (λ d. MadeAs doc b.x.beat b.x.step b.x.actor d b.before) t.fact (are_made doc rules (suc e) b.x b.before (tail_trans (b.x ∷ b.before) T (history doc (suc e)) at_b at))

      tail_is : b.x ∷ b.before ≡ at_look b.x.beat t.w b.before
      tail_is = ap (λ x. x ∷ b.before) (entry_is b.x 3 c (Delivers t.w (Found y.version lease) true) made.step_is t.actor (t.fact ∙ ap (λ reply. Delivers t.w reply true) it.reply_is))

      with_origin : (o : Origin doc c t.w (Found y.version lease) b.before b.x.beat) × IsTail (kept.z ∷ kept.before) o.low
      with_origin = subst (λ reply. (o : Origin doc c t.w reply b.before b.x.beat) × IsTail (kept.z ∷ kept.before) o.low) it.reply_is (it.o, it.low)

  -- how a look's observation goes on from the one before
  abbrev Observed : ℕ → Bool → List Entry → Option ℕ
  Observed r known S = upper (cond known None (Some r)) (observed c S)

  observed_is : (r : ℕ) (S : List Entry) (look : Looks r S) → observed c (at_look r look.w S) ≡ Observed r (is_known y.version (shown c S)) S
  observed_is r S look =
      ap (λ b. upper (newly (only_if b (told look.w.request (Found y.version lease))) (shown c S) r) (observed c S)) (same_self c)
      ∙ ap (λ request. upper (newly (told request (Found y.version lease)) (shown c S) r) (observed c S)) look.get

  -- the first look came one way after the record's writing
  first_late : (r : ℕ) (S : List Entry) (look : Looks r S) → y.beat + near ≤ r
  first_late r S look = omega (arith, kept.beat, given, way.least)
    where
      S_e : IsTail (look.o.e ∷ look.o.low) (history doc (suc e))
      S_e = tail_trans (look.o.e ∷ look.o.low) T (history doc (suc e)) (tail_trans (look.o.e ∷ look.o.low) S T look.o.answered (tail_trans S (at_look r look.w S) T (inr (tail_all S)) look.position)) at

      given : kept.z.beat ≤ look.o.e.beat
      given = beats_rise doc e look.o.e look.o.low S_e kept.z kept.before look.since

      way : IsWay near far look.o.e.beat r
      way = reply_way doc rules near far e c role steady look.o.e look.o.low S_e look.o.step r (beats_in doc rules near far e one ways c role steady time T at y is lease object_is (entry r 3 c (Delivers look.w (Found y.version lease) true)) S look.position) look.o.comes_is

  chain : (fuel r : ℕ) (S : List Entry) (look : Looks r S) → length S < fuel → r ≤ suc n → Outcome r S look
  chain zero r S look le to = absurd (omega (arith, le))
  chain (suc fuel) r S look le to = by_known (shown c S) refl (λ b few soon. chain fuel b.r b.low b.look few soon)
    where
      S_t : IsTail S T
      S_t = tail_trans S (at_look r look.w S) T (inr (tail_all S)) look.position

      new : is_known y.version (shown c S) ≡ false → Outcome r S look
      new unknown = record { first = omega (arith, is_now, first_late r S look); upto = omega (arith, is_now); either = inl (record { i = 0; least = omega (arith, is_now); most = omega (arith, is_now) }) }
        where
          is_now : first_of r S look ≡ r
          is_now = ap or_zero (observed_is r S look ∙ ap (λ b. Observed r b S) unknown)

      old : is_known y.version (shown c S) ≡ true → (b : Before S) → Outcome b.r b.low b.look → Outcome r S look
      old known b past = record { first = subst (λ o. y.beat + near ≤ o) (sym same) past.first; upto = omega (arith, same, past.upto, order); either = subst (λ o. Steps o r ⊎ Lasts (r - o)) (sym same) (by_past past.either) }
        where
          o : ℕ
          o = first_of b.r b.low b.look

          same : first_of r S look ≡ o
          same = ap or_zero (observed_is r S look ∙ ap (λ t. Observed r t S) known ∙ b.seen)

          order : b.r ≤ r
          order =
              beats_rise doc e (entry r 3 c (Delivers look.w (Found y.version lease) true)) S (tail_trans (at_look r look.w S) T (history doc (suc e)) look.position at)
              (entry b.r 3 c (Delivers b.look.w (Found y.version lease) true)) b.low b.below

          later : Lasts (b.r - o) → Lasts (r - o)
          later s = longer (b.r - o) (r - o) (omega (arith, order)) s

          blocked : Bool
          blocked = Blocks b.r b.low b.look

          follows : follow_on doc c b.r b.look.w.kind b.look.w.request (Found y.version lease) (at_look b.r b.look.w b.low) ≡ cond blocked Fails (Asks (Update election y.version (updated c (moment doc c b.r) lease)))
          follows =
              ap (λ request. follow c (moment doc c b.r) (observed_at doc c (at_look b.r b.look.w b.low)) b.look.w.kind request (Found y.version lease)) b.look.get

          by_test : (t : Bool) → blocked ≡ t → Steps o b.r → Steps o r ⊎ Lasts (r - o)
          by_test false free s = inr (later (over_at b.r b.low b.look s free))
          by_test true blocks s = inl (record { i = suc s.i; least = omega (arith, s.least, one_step.least); most = omega (arith, s.most, one_step.most) })
            where
              one_step : IsStep doc rules near far e one ways c role steady time T at y is lease object_is n within unled idle alive_n slow fast wait needed runs_least runs_most some wait_is needed_is b.r r
              one_step =
                  step doc rules near far e one ways c role steady time T at y is lease object_is n within unled idle alive_n slow fast wait needed runs_least runs_most some wait_is needed_is b.r r b.low S b.look look to b.below b.none
                  (follows ∙ ap (λ t. cond t Fails (Asks (Update election y.version (updated c (moment doc c b.r) lease)))) blocks)

          by_past : Steps o b.r ⊎ Lasts (b.r - o) → Steps o r ⊎ Lasts (r - o)
          by_past (inr s) = inr (later s)
          by_past (inl s) = by_test blocked refl s

      by_known : (t : Option Shown) → shown c S ≡ t → ((b : Before S) → length b.low < fuel → b.r ≤ suc n → Outcome b.r b.low b.look) → Outcome r S look
      by_known None is_shown below = new (ap (is_known y.version) is_shown)
      by_known (Some s) is_shown below = by_test (s.0.0 == y.version.0) refl
        where
          by_test : (t : Bool) → (s.0.0 == y.version.0) ≡ t → Outcome r S look
          by_test false differs = new (ap (is_known y.version) is_shown ∙ differs)
          by_test true same = old (ap (is_known y.version) is_shown ∙ same) b (below b few soon)
            where
              b : Before S
              b = before_of S S_t s is_shown (eqb-true s.0.0 y.version.0 same)

              few : length b.low < fuel
              few =
                  let shorter : length (at_look b.r b.look.w b.low) ≤ length S = tail_length (at_look b.r b.look.w b.low) S b.below in
                  omega (arith, shorter, le)

              soon : b.r ≤ suc n
              soon =
                  omega (
                    arith,
                    to,
                    beats_rise doc e (entry r 3 c (Delivers look.w (Found y.version lease) true)) S (tail_trans (at_look r look.w S) T (history doc (suc e)) look.position at)
                        (entry b.r 3 c (Delivers b.look.w (Found y.version lease) true)) b.low b.below,
                  )

  -- from its first look at the record to the one that finds it over
  pub record IsOver (r : ℕ) : Type 0 where
    pub first : ℕ
    pub late : y.beat + near ≤ first
    pub upto : first ≤ r
    pub lasts : IsAtLeast (needed + 2 * near) (wait + 2 * far) lasting (r - first)

  pub found_over : (r : ℕ) (S : List Entry) (look : Looks r S) → r ≤ suc n → Blocks r S look ≡ false → IsOver r
  found_over r S look to free = record { first = first_of r S look; late = past.first; upto = past.upto; lasts = by_past past.either }
    where
      past : Outcome r S look
      past = chain (suc (length S)) r S look (omega arith) to

      by_past : Steps (first_of r S look) r ⊎ Lasts (r - first_of r S look) → Lasts (r - first_of r S look)
      by_past (inr s) = s
      by_past (inl s) = over_at r S look s free
