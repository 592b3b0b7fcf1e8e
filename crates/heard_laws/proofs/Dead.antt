-- Until when a dead kubelet told of its node.
use Rattle.std.proofs.Common.{◌≡◌, ◌∙◌, ◌⊎◌, ◌≤◌, ◌<◌, ℕ, zero, suc, ◌+◌, ◌*◌, ◌&&◌, Bool, true, false, List, [], ◌∷◌, Option, Some, None, refl, sym, ap, subst, inl, inr, ⊎_elim, arith}
use Rattle.std.proofs.lemmas.Bool.{cases_lt, eq-eqb}
use Rattle.kube_objects.specs.declared.call.Reply.{Reply}
use Rattle.kube_objects.specs.declared.deed.Actor.{Actor}
use Rattle.kube_objects.specs.declared.object.Object.{Object}
use Rattle.kube_objects.specs.Clocks.{local}
use Rattle.kube_objects.specs.Document.{Doc}
use Rattle.kube_objects.specs.Entry.{Entry, Identity, Call, Fact, Starts, Sends, Answers, Delivers, Expires, actor_of, entry}
use Rattle.kube_objects.specs.Identities.{identity, is_by, of_process}
use Rattle.kube_objects.specs.Kubelet.{node_of, is_post, round_says, has_round, round_period, round_timer_says}
use Rattle.kube_objects.specs.Newest.{newest, added, when, join, has, or_else, or_zero}
use Rattle.kube_objects.specs.Own.{ReleasesByStop}
use Rattle.kube_objects.specs.Process.{alive, starts, is_start, begun, is_send, call_says, last_call}
use Rattle.kube_objects.specs.Turns.{expired_in}
use Rattle.history.specs.History.{three_steps, history, at_turn}
use Rattle.history.specs.Sound.{IsSound}
use Rattle.history_laws.specs.Tails.{In, IsTail}
use Rattle.history_laws.proofs.Lives.{Counted, Over, counted_more}
use Rattle.history_laws.proofs.Order.{entries_are_ordered, entries_are_earlier}
use Rattle.history_laws.proofs.Plainly.{upper, some_is, none_is, false_is, same_self, added_more}
use Rattle.history_laws.proofs.Tailed.{tail_all, tail_trans, tails_meet, in_tail, later_tail, two_adds, three_adds, turns_add, turn_tail, before_turn, starts_tail, same_head}
use Rattle.span_laws.specs.Spans.{RunsAtLeast, IsEnough}
use Rattle.span_laws.proofs.Spans.{readings_grow}
use Rattle.call_laws.specs.Answering.{with_events, with_answers}
use Rattle.call_laws.proofs.Above.{in_head, place_of}
use Rattle.call_laws.proofs.Answering.{before_events, events_position}
use Rattle.call_laws.proofs.Making.{MadeAs, MadeAnswer, are_made}
use Rattle.call_laws.proofs.Once.{due_at}
use Rattle.call_laws.proofs.Starting.{actor_is}
use Rattle.takeover_laws.proofs.Fresh.{next_start, over_stays, still_up}
use Rattle.takeover_laws.proofs.Writers.{sends_of, since_low}
use Rattle.heard_laws.specs.Heard.{tells_of}
use Rattle.heard_laws.specs.Kubelet.{LivesFrom, IsAnsweredInTime, LastWordsAreSoon, LastWordsAreLate}
use Rattle.heard_laws.proofs.Heard.{below_ordered, told_early}
use Rattle.heard_laws.proofs.Requests.{AnswersSince, IsLeaseKey, TellsAlone, tells_alone, lease_key}
use Rattle.heard_laws.proofs.Sending.{by_is, KubeletSends, sends_as, none_stays, stays_up}
use Rattle.heard_laws.proofs.Idle.{Idle, IsUnfollowed, Begins, idle_on, posts_now}
use Rattle.heard_laws.proofs.Chain.{RoundEnds, WritesAt, arrives_in, round_writes, round_ends}

-- ---- incarnations are counted

counted : (doc : Doc) → ReleasesByStop doc → (m : ℕ) (h : List Entry) → IsTail h (history doc m) → Counted h
counted doc own m [] within = λ p i up. absurd (none_is i up)
counted doc own m (x ∷ h) within = counted_more x h (next_start doc x.beat x.step x.actor x.fact h (are_made doc own m x h within)) (counted doc own m h (tail_trans h (x ∷ h) (history doc m) (inr (tail_all h)) within))

-- with no request sent no round was begun
unbegun : (q : Identity) (h : List Entry) → begun q h ≤ 0 → has_round q h ≡ false
unbegun q [] few = refl
unbegun q (x ∷ h) few = cases x.actor x.fact (unbegun q h (omega (arith, few, added_more (is_send x.fact && is_by q x.actor) (begun q h)))) few
  where
    last_round : Option Bool
    last_round = newest (λ e T. round_says q e.actor e.fact) h

    says : (b : Bool) → or_else false last_round ≡ false → or_else false (upper (when b false) last_round) ≡ false
    says true old = refl
    says false old = old

    sends : (post own : Bool) → or_else false last_round ≡ false → added own (begun q h) ≤ 0 → or_else false (upper (when (post && own) true) last_round) ≡ false
    sends post true old few = absurd (omega (arith, few))
    sends true false old few = old
    sends false false old few = old

    cases : (who : Actor) (d : Fact) → or_else false last_round ≡ false → added (is_send d && is_by q who) (begun q h) ≤ 0 → or_else false (upper (round_says q who d) last_round) ≡ false
    cases who (Sends call arrives) old few = sends (is_post call.request) (is_by q who) old few
    cases who (Delivers call reply counted) old few = says _ old
    cases who (Expires call) old few = says _ old
    cases who d old few = old

module _ (doc : Doc) (sound : IsSound doc) (rules : ReleasesByStop doc) (near far s l : ℕ) (q : Identity) (name : ℕ) (lives : LivesFrom doc near far s l q name) (some : s ≤ l) where
  abbrev born_at : List Entry
  born_at = lives.start ∷ lives.before

  events_in : IsTail (with_events doc s) (history doc (suc l))
  events_in = tail_trans (with_events doc s) (history doc (suc s)) (history doc (suc l)) (events_position doc s) (later_tail doc (suc s) (suc l) (omega (arith, some)))

  born_in : IsTail born_at (history doc (suc l))
  born_in = tail_trans born_at (with_events doc s) (history doc (suc l)) lives.stands events_in

  before_in : IsTail lives.before (history doc (suc l))
  before_in = tail_trans lives.before born_at (history doc (suc l)) (inr (tail_all lives.before)) born_in

  number : q.incarnation ≡ starts q.process lives.before + 1
  number = by_made (subst (λ d. MadeAs doc lives.start.beat lives.start.step lives.start.actor d lives.before) lives.starts (are_made doc rules (suc l) lives.start lives.before born_in))
    where
      by_made : (p : ℕ) × (lives.start.actor ≡ actor_of (identity p (starts p lives.before + 1))) → q.incarnation ≡ starts q.process lives.before + 1
      by_made made =
          let same : identity made.0 (starts made.0 lives.before + 1) ≡ q = actor_is (identity made.0 (starts made.0 lives.before + 1)) q (sym made.1 ∙ lives.actor) in
          sym (ap (λ (p : Identity). p.incarnation) same) ∙ ap (λ p. starts p lives.before + 1) (ap (λ (p : Identity). p.process) same)

  born_counted : q.incarnation ≤ starts q.process born_at
  born_counted =
      let e : starts q.process born_at ≡ starts q.process lives.before + 1 =
      ap (λ d. added (is_start d && has (of_process q.process lives.start.actor)) (starts q.process lives.before)) lives.starts
      ∙ ap (λ who. added (has (of_process q.process who)) (starts q.process lives.before)) lives.actor
      ∙ ap (λ b. added (has (when b q.incarnation)) (starts q.process lives.before)) (eq-eqb q.process q.process refl) in
      omega (arith, number, e)

  -- it is up from its start to its last beat
  up_at : (h : List Entry) → IsTail born_at h → IsTail h (history doc (suc l)) → alive q.process h ≡ Some q.incarnation
  up_at h since within = by_place (tails_meet h (with_events doc s) (history doc (suc l)) within events_in)
    where
      by_place : IsTail h (with_events doc s) ⊎ IsTail (with_events doc s) h → alive q.process h ≡ Some q.incarnation
      by_place (inl low) = still_up q h (omega (arith, born_counted, starts_tail q.process born_at h since)) (λ over. (over_stays doc rules (suc l) q h (with_events doc s) events_in low over).1 lives.up)
      by_place (inr high) = stays_up doc sound rules near far s l q lives.role lives.steady (with_events doc s) h (tail_all (with_events doc s)) high within some lives.up

  -- it sent nothing before
  unsent : (h : List Entry) → IsTail h lives.before → begun q h ≡ 0
  unsent [] at = refl
  unsent (x ∷ h) at = by_kind (unsent h below) (is_send x.fact) (is_by q x.actor) refl refl
    where
      below : IsTail h lives.before
      below = tail_trans h (x ∷ h) lives.before (inr (tail_all h)) at

      x_in : IsTail (x ∷ h) (history doc (suc l))
      x_in = tail_trans (x ∷ h) lives.before (history doc (suc l)) at before_in

      never : (d : Fact) → x.fact ≡ d → is_send d ≡ true → is_by q x.actor ≡ true → ⊥
      never (Sends call arrives) fact sends mine =
          let up = (sends_as doc sound rules (suc l) q lives.role x h call arrives x_in (by_is q x.actor mine) fact).up in
          omega (arith, counted doc rules (suc l) h (tail_trans h (x ∷ h) (history doc (suc l)) (inr (tail_all h)) x_in) q.process q.incarnation up, starts_tail q.process h lives.before below, number)
      never d fact sends mine = false_is sends

      by_kind : begun q h ≡ 0 → (send own : Bool) → is_send x.fact ≡ send → is_by q x.actor ≡ own → added (send && own) (begun q h) ≡ 0
      by_kind old true true sends mine = absurd (never x.fact refl sends mine)
      by_kind old true false sends mine = old
      by_kind old false own sends mine = old

  idle_born : Idle doc q (local doc q.process s) born_at
  idle_born = record {
    free = ap (λ d. join (upper (call_says q lives.start.actor d) (last_call q lives.before))) lives.starts ∙ none_stays doc sound rules (suc l) q lives.role [] lives.before (empty_tail lives.before) few refl;
    none = ap (λ d. or_else false (upper (round_says q lives.start.actor d) (newest (λ e T. round_says q e.actor e.fact) lives.before))) lives.starts ∙ unbegun q lives.before few;
    timer =
        ap (λ d. or_zero (upper (round_timer_says doc q lives.start.beat lives.start.actor d) (newest (λ e T. round_timer_says doc q e.beat e.actor e.fact) lives.before))) lives.starts
        ∙ ap (λ who. or_zero (upper (when (is_by q who) (local doc q.process lives.start.beat)) (newest (λ e T. round_timer_says doc q e.beat e.actor e.fact) lives.before))) lives.actor
        ∙ ap (λ b. or_zero (upper (when b (local doc q.process lives.start.beat)) (newest (λ e T. round_timer_says doc q e.beat e.actor e.fact) lives.before))) (same_self q)
        ∙ ap (local doc q.process) lives.beat;
    calm = λ k.
        ap (λ d. join (upper (when (is_by q lives.start.actor) (expired_in k lives.start.beat d)) (newest (λ e T. when (is_by q e.actor) (expired_in k e.beat e.fact)) lives.before))) lives.starts
        ∙ ap (λ who. join (upper (when {A = Option Call} (is_by q who) None) (newest (λ e T. when (is_by q e.actor) (expired_in k e.beat e.fact)) lives.before))) lives.actor
        ∙ ap (λ b. join (upper (when {A = Option Call} b None) (newest (λ e T. when (is_by q e.actor) (expired_in k e.beat e.fact)) lives.before))) (same_self q);
  }
    where
      few : begun q lives.before ≤ 0
      few = let e = unsent lives.before (tail_all lives.before) in omega (arith, e)

      empty_tail : (h : List Entry) → IsTail [] h
      empty_tail [] = refl
      empty_tail (x ∷ h) = inr (empty_tail h)

  unfollowed_born : IsUnfollowed doc q born_at
  unfollowed_born k waiting reply before is waits next follows =
      differs (sym lives.starts ∙ ap (λ (x : Entry). x.fact) (same_head lives.start (entry k 3 q (Delivers waiting reply true)) lives.before before is))
    where
      differs : Starts ≡ Delivers waiting reply true → ⊥
      differs is = cc

  -- ---- rounds

  -- a round that began at a beat
  record RoundAt (j : ℕ) : Type 0 where
    x : Entry
    before : List Entry
    call : Call
    arrives : Option ℕ
    at : IsTail (x ∷ before) (history doc (suc l))
    actor : x.actor ≡ actor_of q
    fact : x.fact ≡ Sends call arrives
    post : is_post call.request ≡ true
    beat : x.beat ≡ j

  begins_at : (g h : List Entry) (b : Begins q g h) → IsTail h (history doc (suc l)) → RoundAt b.z.beat
  begins_at g h b within = record { x = b.z; before = b.before; call = b.call; arrives = b.arrives; at = tail_trans (b.z ∷ b.before) h (history doc (suc l)) b.position within; actor = b.actor; fact = b.fact; post = b.post; beat = refl }

  turn_in : (k : ℕ) → k ≤ l → IsTail (at_turn doc q.process k) (history doc (suc l))
  turn_in k le = tail_trans (at_turn doc q.process k) (history doc (suc k)) (history doc (suc l)) (turn_tail doc q.process k (let lt = lives.known in omega (arith, lt))) (later_tail doc (suc k) (suc l) (omega (arith, le)))

  -- what stands in a turn is of its beat or an earlier one
  in_turn : (k : ℕ) (z : Entry) (Z : List Entry) → IsTail (z ∷ Z) (at_turn doc q.process k) → z.beat ≤ k
  in_turn k z Z at =
      ⊎_elim (λ lt. omega (arith, lt)) (λ none. omega (arith, none.0))
      (entries_are_earlier doc (suc k) z (in_head z Z (history doc (suc k)) (tail_trans (z ∷ Z) (at_turn doc q.process k) (history doc (suc k)) at (turn_tail doc q.process k (let lt = lives.known in omega (arith, lt))))))

  -- from an idle position of a beat: a round begins by a later beat by whose turn its time has come
  module _ (at : ℕ) (g : List Entry) (idle : Idle doc q at g) (unfollowed : IsUnfollowed doc q g) (since : IsTail born_at g) (last : Entry) (there : In last g) (k : ℕ) (le : k ≤ l) (low : IsTail g (at_turn doc q.process k)) (time : at ≤ local doc q.process k) (from : s ≤ k) where
    begins_by : (j : ℕ) × RoundAt j × (last.beat ≤ j) × (j ≤ k)
    begins_by = cases (idle_on doc sound rules (suc l) q lives.role at g idle unfollowed up (at_turn doc q.process k) low (turn_in k le))
      where
        up : (h : List Entry) → IsTail g h → IsTail h (history doc (suc l)) → alive q.process h ≡ Some q.incarnation
        up h above within = up_at h (tail_trans born_at g h since above) within

        after : (h : List Entry) (b : Begins q g h) → IsTail h (history doc (suc l)) → last.beat ≤ b.z.beat
        after h b within =
            ⊎_elim (λ lt. omega (arith, lt)) (λ here. omega (arith, here.0))
            (below_ordered b.z b.before (history doc (suc l)) (tail_trans (b.z ∷ b.before) h (history doc (suc l)) b.position within) (entries_are_ordered doc (suc l)) last (in_tail last g b.before b.since there))

        cases : (Idle doc q at (at_turn doc q.process k) × IsUnfollowed doc q (at_turn doc q.process k)) ⊎ Begins q g (at_turn doc q.process k) → (j : ℕ) × RoundAt j × (last.beat ≤ j) × (j ≤ k)
        cases (inl i) =
            let p = posts_now doc sound rules (suc l) q lives.role at g idle unfollowed up k lives.known (lives.steady.passes k from le).awake time i.0 (up (at_turn doc q.process k) low (turn_in k le)) low in
            let here = later_tail doc (suc k) (suc l) (omega (arith, le)) in
            (p.0.z.beat, begins_at g (history doc (suc k)) p.0 here, after (history doc (suc k)) p.0 here, omega (arith, p.1))
        cases (inr b) = (b.z.beat, begins_at g (at_turn doc q.process k) b (turn_in k le), after (at_turn doc q.process k) b (turn_in k le), in_turn k b.z b.before b.position)

  -- the first one begins at the start
  first_round : RoundAt s
  first_round =
      let b = begins_by (local doc q.process s) born_at idle_born unfollowed_born (tail_all born_at) lives.start (inl refl) s some low (omega arith) (omega arith) in
      let same : b.0 ≡ s = omega (arith, b.2, b.3, lives.beat) in
      subst RoundAt same b.1
    where
      low : IsTail born_at (at_turn doc q.process s)
      low =
          let one = with_events doc s in
          let two = with_answers doc s in
          turns_add doc s q.process born_at (three_steps doc s (history doc s)) (three_adds doc s born_at two (two_adds doc s born_at one lives.stands))

  module _ (e : ℕ) (timely : IsAnsweredInTime doc far s e q) (one : 1 ≤ near) (alone : TellsAlone doc s e q name) (leases : IsLeaseKey doc e name) (end : l + far ≤ e) (slow enough most : ℕ) (slowly : RunsAtLeast doc q.process s l slow) (is_enough : IsEnough slow (round_period doc) enough)
      (enough_most : enough ≤ most) (far_most : 6 * far ≤ most) where
    alone_here : TellsAlone doc s e q (node_of doc q.process)
    alone_here = subst (TellsAlone doc s e q) (sym lives.node) alone

    leases_here : IsLeaseKey doc e (node_of doc q.process)
    leases_here = subst (IsLeaseKey doc e) (sym lives.node) leases

    born_low : (j : ℕ) (r : RoundAt j) → s ≤ j → IsTail born_at (r.x ∷ r.before)
    born_low j r from =
        let sending = sends_as doc sound rules (suc l) q lives.role r.x r.before r.call r.arrives r.at r.actor r.fact in
        inr (tail_trans born_at (with_events doc s) r.before lives.stands (since_low doc s l r.x r.before r.at (omega (arith, from, r.beat)) sending.late))

    next_round : (j : ℕ) (r : RoundAt j) → s ≤ j → j + most ≤ l → (i : ℕ) × RoundAt i × (j < i) × (i ≤ j + most)
    next_round j r from to =
        let b = begins_by (local doc q.process r.x.beat + round_period doc) ends.h ends.idle ends.unfollowed since ends.last ends.there (j + most) to low time (omega (arith, from)) in
        (b.0, b.1, omega (arith, b.2, ends.last_beat, ends.least, r.beat), b.3)
      where
        ends : RoundEnds doc q r.x.beat (r.x.beat + 6 * far) (r.x ∷ r.before) l
        ends =
            round_ends doc sound rules near far s l e q lives.role lives.steady lives.up timely.fast timely.runs timely.timeout one (omega (arith, end)) alone_here leases_here end lives.goes r.x r.before r.call r.arrives r.at r.actor r.fact r.post (omega (arith, from, r.beat))
            (omega (arith, to, far_most, r.beat)) (omega (arith, to, far_most, r.beat))

        since : IsTail born_at ends.h
        since = tail_trans born_at (r.x ∷ r.before) ends.h (born_low j r from) ends.since

        time : local doc q.process r.x.beat + round_period doc ≤ local doc q.process (j + most)
        time = readings_grow doc q.process s l slow (round_period doc) enough slowly is_enough r.x.beat (j + most) (omega (arith, from, r.beat)) (omega (arith, r.beat, enough_most)) to

        in_its_turn : IsTail ends.h (at_turn doc q.process ends.beat)
        in_its_turn = turns_add doc ends.beat q.process ends.h (three_steps doc ends.beat (history doc ends.beat)) ends.stands

        low : IsTail ends.h (at_turn doc q.process (j + most))
        low = ⊎_elim later (λ le. same (omega (arith, le, ends.most, r.beat, far_most))) (cases_lt ends.beat (j + most))
          where
            later : ends.beat < j + most → IsTail ends.h (at_turn doc q.process (j + most))
            later lt =
                tail_trans ends.h (history doc (j + most)) (at_turn doc q.process (j + most))
                (tail_trans ends.h (history doc (suc ends.beat)) (history doc (j + most)) (tail_trans ends.h (at_turn doc q.process ends.beat) (history doc (suc ends.beat)) in_its_turn (turn_tail doc q.process ends.beat (let known = lives.known in omega (arith, known)))) (later_tail doc (suc ends.beat) (j + most) lt))
                (before_turn doc q.process (j + most))

            same : ends.beat ≡ j + most → IsTail ends.h (at_turn doc q.process (j + most))
            same is = subst (λ k. IsTail ends.h (at_turn doc q.process k)) is in_its_turn

    writes : (j : ℕ) (r : RoundAt j) → s ≤ j → j + 4 * far ≤ l → (w : ℕ) × WritesAt doc (node_of doc q.process) e w × (r.x.beat + 5 * near ≤ w)
    writes j r from to =
        round_writes doc sound rules near far s l e q lives.role lives.steady lives.up timely.fast timely.runs timely.timeout one (omega (arith, end)) alone_here leases_here end lives.goes r.x r.before r.call r.arrives r.at r.actor r.fact r.post (omega (arith, from, r.beat))
        (omega (arith, to, r.beat))

    -- the last round that there is time for
    last_write : (n j : ℕ) → RoundAt j → s ≤ j → j + 4 * far ≤ l → l < j + n → (w : ℕ) × WritesAt doc (node_of doc q.process) e w × (suc l + 5 * near ≤ w + 4 * far + most)
    last_write zero j r from to few = absurd (omega (arith, to, few))
    last_write (suc n) j r from to few = ⊎_elim now (λ le. later (λ i r from to few. last_write n i r from to few) le) (cases_lt l (j + most + 4 * far))
      where
        now : l < j + most + 4 * far → (w : ℕ) × WritesAt doc (node_of doc q.process) e w × (suc l + 5 * near ≤ w + 4 * far + most)
        now lt = let a = writes j r from to in (a.0, a.1, omega (arith, a.2, lt, r.beat))

        later : ((i : ℕ) → RoundAt i → s ≤ i → i + 4 * far ≤ l → l < i + n → (w : ℕ) × WritesAt doc (node_of doc q.process) e w × (suc l + 5 * near ≤ w + 4 * far + most)) → j + most + 4 * far ≤ l
            → (w : ℕ) × WritesAt doc (node_of doc q.process) e w × (suc l + 5 * near ≤ w + 4 * far + most)
        later go le = let a = next_round j r from (omega (arith, le)) in go a.0 a.1 (omega (arith, from, a.2)) (omega (arith, a.3, le)) (omega (arith, a.2, few))

pub last_words_are_late : LastWordsAreLate
last_words_are_late doc near far s last e v q name sound rules one lives to timely alone kinds end slow enough most slowly is_enough enough_most far_most told =
    omega (arith, a.2, soon)
  where
    a : (w : ℕ) × WritesAt doc (node_of doc q.process) e w × (suc last + 5 * near ≤ w + 4 * far + most)
    a =
        last_write doc sound rules near far s last q name lives (omega (arith, to)) e timely one (tells_alone doc sound rules s e q name alone) (lease_key doc sound rules e name kinds) end slow enough most slowly is_enough enough_most far_most (suc last) s (first_round doc sound rules near far s last q name lives (omega (arith, to))) (omega arith) to
        (omega arith)

    soon : a.0 ≤ v
    soon = let b = a.1.beat in omega (arith, told_early doc name v e told a.1.y a.1.before a.1.stands (ap (λ n. tells_of n a.1.y.fact) (sym lives.node) ∙ a.1.tells), b)

-- ---- and no later

pub last_words_are_soon : LastWordsAreSoon
last_words_are_soon doc near far s last e v q name sound rules one lives some alone end told = ⊎_elim (λ late. by_fact told.x.fact refl (tells_alone doc sound rules s e q name alone told.x told.before told.stands told.tells (omega (arith, late, told.beat))) (are_made doc rules (suc e) told.x told.before told.stands)) (λ early. omega (arith, early, some)) (cases_lt s v)
  where
    -- it isn't up any more
    over : Over q (with_events doc (suc last))
    over = (omega (arith, born_counted doc sound rules near far s last q name lives some, starts_tail q.process (lives.start ∷ lives.before) (with_events doc (suc last)) low), lives.dead)
      where
        low : IsTail (lives.start ∷ lives.before) (with_events doc (suc last))
        low = tail_trans (lives.start ∷ lives.before) (history doc (suc last)) (with_events doc (suc last)) (born_in doc sound rules near far s last q name lives some) (before_events doc (suc last))

    by_answer : (c : Call) (replied_as : Reply) (comes : Option ℕ) (wrote : Option Object) → told.x.actor ≡ actor_of q → s ≤ c.sent → MadeAnswer doc told.x.beat told.x.step told.x.actor c replied_as comes wrote told.before → v ≤ last + far
    by_answer c replied_as comes wrote mine sent_late made = ⊎_elim (λ le. in_time (omega (arith, le))) (λ late. absurd (too_late late)) (cases_lt f.beat (suc last))
      where
        whose : made.s.who ≡ q
        whose = actor_is made.s.who q (sym made.by ∙ mine)

        f : Entry
        f = made.arriving.e

        S : List Entry
        S = (place_of f told.before made.arriving.stands).before

        f_in : IsTail (f ∷ S) (history doc (suc e))
        f_in =
            tail_trans (f ∷ S) told.before (history doc (suc e)) (place_of f told.before made.arriving.stands).position
            (tail_trans told.before (told.x ∷ told.before) (history doc (suc e)) (inr (tail_all told.before)) told.stands)

        f_actor : f.actor ≡ actor_of q
        f_actor = (sends_of f.actor f.fact made.s made.arriving.is).0 ∙ ap actor_of whose

        f_fact : f.fact ≡ Sends c made.s.arrives
        f_fact = (sends_of f.actor f.fact made.s made.arriving.is).1 ∙ ap (λ c. Sends c made.s.arrives) (sym made.call_is)

        sending : KubeletSends doc f.beat f.step q c made.s.arrives S
        sending = sends_as doc sound rules (suc e) q lives.role f S c made.s.arrives f_in f_actor f_fact

        f_late : s ≤ f.beat
        f_late = let b : c.sent ≡ f.beat = ap (λ (c : Call). c.sent) sending.call_is in omega (arith, b, sent_late)

        in_time : f.beat ≤ last → v ≤ last + far
        in_time le =
            let a = arrives_in doc sound rules near far s last q lives.role lives.steady f S c made.s.arrives (suc e) f_in f_actor f_fact f_late le lives.goes in
            let same : told.x.beat ≡ a.0 = some_is told.x.beat a.0 (sym (due_at told.x.beat made.s.arrives made.arriving.now) ∙ a.1) in
            omega (arith, same, told.beat, a.3, le)

        too_late : suc last ≤ f.beat → ⊥
        too_late late =
            (over_stays doc rules (suc e) q (with_events doc (suc last)) S (tail_trans S (f ∷ S) (history doc (suc e)) (inr (tail_all S)) f_in) (since_low doc (suc last) e f S f_in late sending.late) over).1 sending.up

    by_fact : (d : Fact) → told.x.fact ≡ d → (told.x.actor ≡ actor_of q) × AnswersSince s d → MadeAs doc told.x.beat told.x.step told.x.actor d told.before → v ≤ last + far
    by_fact (Answers c replied_as comes wrote) fact mine made = by_answer c replied_as comes wrote mine.0 mine.1 made
    by_fact d fact mine made = elim mine.1 [ ]
