-- After a leader has fallen silent another controller comes to lead in time, and stays.
use Rattle.std.proofs.Common.{◌≡◌, ◌⊎◌, ◌<◌, ◌≤◌, ℕ, zero, suc, ◌+◌, ◌-◌, ◌*◌, Bool, true, false, cond, List, ◌∷◌, Option, refl, sym, ap, ◌∙◌, subst, inl, inr, ⊎_elim, arith}
use Rattle.std.specs.Int.{div_ceil}
use Rattle.std.proofs.lemmas.Bool.{cases_lt}
use Rattle.kube_objects.specs.declared.call.Reply.{Reply}
use Rattle.kube_objects.specs.declared.call.Request.{Request}
use Rattle.kube_objects.specs.declared.call.Request.TheVariants.{Get}
use Rattle.kube_objects.specs.Answers.{lease_in, as_kind, answer_get, answer}
use Rattle.kube_objects.specs.Document.{Doc, is_controller}
use Rattle.kube_objects.specs.Entry.{Entry, Identity, Call, actor_of}
use Rattle.kube_objects.specs.Newest.{has}
use Rattle.kube_objects.specs.Stored.{Held, election, at_key, write_of, stored}
use Rattle.history.specs.History.{history}
use Rattle.history_laws.specs.Tails.{IsTail}
use Rattle.history_laws.proofs.Tailed.{tail_all, tail_trans, later_tail}
use Rattle.takeover_laws.specs.Waits.{longest_wait, shortest_wait, blocked_for}
use Rattle.span_laws.specs.Looks.{IsGreatest}
use Rattle.span_laws.specs.Quotients.{most_beats}
use Rattle.span_laws.proofs.Quotients.{rounded_is, bounds_are_exact}
use Rattle.span_laws.specs.Spans.{IsEnough, IsNeeded}
use Rattle.call_laws.proofs.Placing.{in_own_beat, not_before}
use Rattle.call_laws.proofs.Starting.{actor_is}
use Rattle.takeover_laws.specs.Calm.{IsQuiet}
use Rattle.calm_laws.proofs.Origins.{Origin}
use Rattle.stay_laws.proofs.Staying.{leaders_stay}
use Rattle.stay_laws.proofs.Won.{Won, is_won}
use Rattle.silence_laws.specs.Silence.{LeadsUntil, Bears}
use Rattle.silence_laws.proofs.Ways.{IsWay, beat_before}
use Rattle.succession_laws.specs.Successions.{OthersRenew, RepliesCome, IsRival, IsFollowed, last_ways, succession_bound, SuccessorsLead, SuccessorsAreTold}
use Rattle.succession_laws.proofs.Asking.{AfterGet, none_early}
use Rattle.succession_laws.proofs.Edge.{edge}
use Rattle.succession_laws.proofs.Records.{OfIt, same_since, no_foreign, lasts_for}
use Rattle.silence_laws.proofs.Setting.{none_else}
use Rattle.succession_laws.proofs.Setting.{calm_since, times_since, others_since}
use Rattle.succession_laws.proofs.Timely.{first, first_low, timely, of_it}
use Rattle.succession_laws.proofs.Timely as in_time
use Rattle.succession_laws.proofs.Coming.{IsIdle, IsLeft}
use Rattle.succession_laws.proofs.Coming as coming

module _ (doc : Doc) (near far b e : ℕ) (q : Identity) (l : LeadsUntil doc near far b e q) (s : Bears doc near far b e q) (quiet : IsQuiet doc b e q.process) where
  -- ---- another controller

  module _ (c : Identity) (role : is_controller doc c.process ≡ true) (other : c.process ≡ q.process → ⊥) where
    -- a write of it that is sent after a Get is sent after one that was answered late
    late_get : (x : Entry) (T : List Entry) (request : Request) (f : AfterGet doc near far b e q l s c role other x T request) → b ≤ x.beat + 2 * far → b + far ≤ f.o.e.beat
    late_get x T request f since = ⊎_elim (λ lt. absurd (none_early doc near far b e q l s c role other x T request f since lt (stands lt))) (λ le. le) (cases_lt f.o.e.beat (b + far))
      where
        stands : f.o.e.beat < b + far → IsTail (f.o.e ∷ f.o.low) (history doc (suc e)) → IsTail ((first doc near far b e q l s).e ∷ (first doc near far b e q l s).low) f.o.low → OfIt doc q f.o.low
        stands lt at low =
            of_it doc near far b e q l s f.o.e.beat (beat_before doc e f.o.e f.o.low at) lt quiet f.o.low low
            (tail_trans f.o.low (f.o.e ∷ f.o.low) (history doc (suc f.o.e.beat)) (inr (tail_all f.o.low)) (in_own_beat doc (suc e) f.o.e f.o.low at))

  -- ---- while no other controller acts

  abbrev top : Option Held
  top = stored election (history doc (b + far))

  -- what is stored a way after b
  of_top : b + far ≤ e → OfIt doc q (history doc (b + far))
  of_top room = by_beat (b + far) refl
    where
      by_beat : (y : ℕ) → y ≡ b + far → OfIt doc q (history doc (b + far))
      by_beat zero is = absurd (omega (arith, is, s.one, s.ways))
      by_beat (suc m) is =
          subst (λ k. OfIt doc q (history doc k)) is
          (of_it doc near far b e q l s m (omega (arith, is, room)) (omega (arith, is)) quiet (history doc (suc m))
          (tail_trans _ (history doc (suc (b - 1))) (history doc (suc m)) (in_time.first_high doc near far b e q l s) (later_tail doc (suc (b - 1)) (suc m) (omega (arith, is, s.one, s.ways)))) (tail_all (history doc (suc m))))

  -- an entry from then on
  abbrev Late : Entry → List Entry → Type 0
  Late x T = b + far ≤ x.beat

  module _ (n : ℕ) (within : n ≤ e) (room : b + far ≤ n) (K : ℕ) (late_K : (b + 2 * far ≤ K) ⊎ ((doc.settings.fast_renew ≡ false) × (b + 2 * far ≤ suc K))) (idle : IsIdle doc n q) (c : Identity) (role : is_controller doc c.process ≡ true) (other : c.process ≡ q.process → ⊥) where
    stays : (x : Entry) (T : List Entry) → IsTail (x ∷ T) (history doc (suc n)) → 1 ≤ x.step → b + far ≤ x.beat → x.beat + far ≤ n → stored election T ≡ top
    stays x T at step late soon =
        same_since doc near far b e q l s quiet n within idle x.beat (omega (arith, late)) soon T
        (tail_trans (history doc (b + far)) (history doc x.beat) T (later_tail doc (b + far) x.beat late) (not_before doc x.beat (suc n) x T (omega (arith, soon)) at (omega arith) step))
        (tail_trans T (x ∷ T) (history doc (suc x.beat)) (inr (tail_all T)) (in_own_beat doc (suc n) x T at))

    late_or : (w : Call) (reply : Reply) (T : List Entry) (y : ℕ) → (o : Origin doc c w reply T y) → IsTail T (history doc (suc n)) → w.request ≡ Get election → IsWay near far o.e.beat y → K ≤ y → y + far ≤ n → (b + far ≤ o.e.beat) ⊎ (reply ≡ answer_get (as_kind lease_in top))
    late_or w reply T y o high get way late soon = ⊎_elim (λ lt. inr (last lt)) inl (cases_lt o.e.beat (b + far))
      where
        last : o.e.beat < b + far → reply ≡ answer_get (as_kind lease_in top)
        last lt = ⊎_elim (λ le. absurd (omega (arith, le, late, way.most, lt))) by_edge late_K
          where
            by_edge : (doc.settings.fast_renew ≡ false) × (b + 2 * far ≤ suc K) → reply ≡ answer_get (as_kind lease_in top)
            by_edge slowly =
                o.reply_is ∙ ap (λ r. answer r o.low) get
                ∙ ap (λ t. answer_get (as_kind lease_in t)) (sym (edge doc near far b e q l s quiet slowly.0 c role other w reply T y o (tail_trans T (history doc (suc n)) (history doc (suc e)) high (later_tail doc (suc n) (suc e) (omega (arith, within)))) get (omega (arith, slowly.1, late, way.most, lt)) (omega (arith, way.least, soon, within))))

    none_writes : (x : Entry) (T : List Entry) → IsTail (x ∷ T) (history doc (suc n)) → 1 ≤ x.step → x.actor ≡ actor_of c → b + far ≤ x.beat → x.beat + far ≤ n → has (at_key election (write_of x.fact)) ≡ true → ⊥
    none_writes x T at step actor late soon writes = other (ap (λ (p : Identity). p.process) (sym mine) ∙ no_foreign doc near far b e q l s quiet n within idle x T at writes soon w)
      where
        w : Won doc x T
        w = is_won doc s.sound s.rules n (omega (arith, within, s.end)) x T at (omega (arith, late, s.one, s.ways)) writes

        mine : w.who ≡ c
        mine = actor_is w.who c (sym w.actor ∙ actor)

    left : IsLeft doc near far b e q l s n within top Late c role other K
    left = record {
      y = (of_top (omega (arith, room, within))).y;
      lease = (of_top (omega (arith, room, within))).lease;
      object = (of_top (omega (arith, room, within))).object;
      top_is = (of_top (omega (arith, room, within))).top;
      stays = stays;
      later = λ x z T Z late at upto. omega (arith, late, upto);
      late_get = late_get c role other;
      late_or = late_or;
      none_writes = none_writes;
    }

  -- ---- nobody else acts only so long

  module _ (p slow fast wait needed : ℕ) (rival : IsRival doc b e q p slow fast) (wait_is : IsEnough slow (longest_wait doc p) wait) (needed_is : IsNeeded fast (shortest_wait doc p) needed)
      (enough most : ℕ) (enough_is : IsEnough slow (blocked_for doc p q.process) enough) (most_is : IsGreatest (needed + 2 * near) (wait + 2 * far) enough most)
      (rest : ℕ) (rest_is : (rest ≡ 6 * far - 1) ⊎ ((doc.settings.fast_renew ≡ false) × (rest ≡ 6 * far - 2))) (within : b + most + wait + rest ≤ e) (renew : OthersRenew doc near far b e q) (replies : RepliesCome doc far b q.process) where
    abbrev n : ℕ
    n = b + most + wait + rest

    a_way : 1 ≤ far
    a_way = omega (arith, s.one, s.ways)

    rest_least : 6 * far ≤ rest + 2
    rest_least = ⊎_elim (λ is. omega (arith, is)) (λ is. omega (arith, is.1)) rest_is

    -- from then on each reply shows the leader's last record
    abbrev K : ℕ
    K = b + rest + 1 - 4 * far

    late_K : (b + 2 * far ≤ K) ⊎ ((doc.settings.fast_renew ≡ false) × (b + 2 * far ≤ suc K))
    late_K = ⊎_elim (λ is. inl (omega (arith, is, a_way))) (λ is. inr (is.0, omega (arith, is.1, a_way))) rest_is

    room : b + far ≤ n
    room = omega (arith, a_way, rest_least)

    pub followed : IsFollowed doc b n e q
    followed =
        coming.followed doc near far b e q l s n within top Late p slow fast wait needed (blocked_for doc p q.process) enough most K rival wait_is needed_is enough_is most_is
        (lasts_for doc p q (history doc (b + far)) (of_top (omega (arith, room, within)))) (omega (arith, a_way, rest_least)) (omega (arith, a_way, rest_least)) (left n within room K late_K)
        b (b - 1) (omega arith) (omega arith) (none_else doc near far b e q l s renew.before)
        (λ r role other x T request f lt le. omega (arith, late_get r role other x T request f le, f.way.least, lt))
        (λ r role other j success.
        leaders_stay doc near far b e s.sound s.rules (calm_since doc near far b e q l s renew quiet replies (omega (arith, room, within))) (times_since doc near far b e q l s renew) s.one s.ways s.end r role
        (others_since doc near far b e q l s renew r.process role other) (renew.since r role other) j success)

-- ---- the law

pub successors_lead : SuccessorsLead
successors_lead doc near far b e q l s quiet replies renew p slow fast wait needed rival wait_is needed_is enough most enough_is most_is within =
    followed doc near far b e q l s quiet p slow fast wait needed rival wait_is needed_is enough most enough_is most_is (last_ways doc far) (by_fast doc.settings.fast_renew refl) within renew replies
  where
    by_fast : (t : Bool) → doc.settings.fast_renew ≡ t → (cond t (6 * far - 1) (6 * far - 2) ≡ 6 * far - 1) ⊎ ((doc.settings.fast_renew ≡ false) × (cond t (6 * far - 1) (6 * far - 2) ≡ 6 * far - 2))
    by_fast true is = inl refl
    by_fast false is = inr (is, refl)

-- ---- in whole beats

pub successors_are_told : SuccessorsAreTold
successors_are_told doc near far b e q l s quiet replies renew p slow fast rival some_slow some_fast within =
    subst (λ n. IsFollowed doc b n e q) sum
    (successors_lead doc near far b e q l s quiet replies renew p slow fast wait needed rival (rounded_is slow (longest_wait doc p) some_slow).0 (rounded_is fast (shortest_wait doc p) some_fast).1 enough most
    (rounded_is slow (blocked_for doc p q.process) some_slow).0 ((bounds_are_exact (needed + 2 * near) (wait + 2 * far) enough).0 (omega (arith, s.one))).1 (omega (arith, sum, within)))
  where
    wait : ℕ
    wait = div_ceil (longest_wait doc p) slow

    needed : ℕ
    needed = div_ceil (shortest_wait doc p) fast

    enough : ℕ
    enough = div_ceil (blocked_for doc p q.process) slow

    most : ℕ
    most = most_beats (needed + 2 * near) (wait + 2 * far) enough

    sum : b + most + wait + last_ways doc far ≡ b + succession_bound doc near far p slow fast (blocked_for doc p q.process)
    sum = omega arith
