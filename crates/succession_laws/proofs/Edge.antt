-- Where leaders don't renew without a Get: another's Get that is answered in the last beat in which a leader's write can arrive is answered after it.
use Rattle.std.proofs.Common.{◌≡◌, ◌⊎◌, ◌≤◌, ℕ, suc, ◌+◌, ◌-◌, Bool, true, false, cond, List, ◌∷◌, Some, refl, sym, ap, ◌∙◌, subst, inl, inr, ⊎_elim, arith}
use Rattle.kube_base.specs.declared.numbers.Version.{Version}
use Rattle.kube_objects.specs.declared.call.Reply.{Reply}
use Rattle.kube_objects.specs.declared.call.Reply.TheVariants.{Found, Done, Absent, Exists, Conflict, Unchanged}
use Rattle.kube_objects.specs.declared.call.Request.{Request}
use Rattle.kube_objects.specs.declared.call.Request.TheVariants.{Get, Create, Update, PostStatus}
use Rattle.kube_objects.specs.declared.key.Key.{Key}
use Rattle.kube_objects.specs.Answers.{answer, written}
use Rattle.kube_objects.specs.Document.{Doc, is_controller}
use Rattle.kube_objects.specs.Elector.{Moment, moment, Fails, Asks, Succeeds, is_fast, is_blocked, updated, follow_get, not_done, follow_write, follow, observed_at, succeeds, respected}
use Rattle.kube_objects.specs.Entry.{Entry, Identity, Call, CallKind, Plain, Fast, Release, Answers, Delivers, entry, Look, Emptying}
use Rattle.kube_objects.specs.Newest.{has}
use Rattle.kube_objects.specs.Stored.{election, stored, at_key, write_of, request_write}
use Rattle.kube_objects.specs.Wire.{Sent, back_of, reply_arrival}
use Rattle.history.specs.History.{history}
use Rattle.history.specs.Steps.{answered}
use Rattle.history_laws.specs.Tails.{IsTail}
use Rattle.history_laws.proofs.Order.{entries_are_earlier, entries_are_ordered}
use Rattle.history_laws.proofs.Plainly.{false_is, true_is}
use Rattle.history_laws.proofs.Tailed.{tail_all, tail_trans, tails_meet, later_tail, same_head, same_rest}
use Rattle.call_laws.specs.Answering.{with_events}
use Rattle.call_laws.proofs.Above.{in_head}
use Rattle.call_laws.proofs.Answering.{before_events}
use Rattle.call_laws.proofs.Making.{MadeAs, MadeSend, MadeAnswer, Replied, are_made}
use Rattle.call_laws.proofs.Once.{answers_differ}
use Rattle.call_laws.proofs.Placing.{in_own_beat}
use Rattle.call_laws.proofs.Starting.{actor_is}
use Rattle.takeover_laws.specs.Calm.{IsQuiet}
use Rattle.takeover_laws.proofs.Rounds.{sent_is}
use Rattle.takeover_laws.proofs.Writers.{Sending, sending_of}
use Rattle.calm_laws.proofs.Asked.{IsWrite, asks_same, fails_not}
use Rattle.calm_laws.proofs.Origins.{Origin, origin}
use Rattle.stay_laws.proofs.Closing.{within_below}
use Rattle.stay_laws.proofs.Won.{Won, is_won}
use Rattle.silence_laws.specs.Silence.{LeadsUntil, Bears}
use Rattle.silence_laws.proofs.Kept.{not_below}
use Rattle.succession_laws.proofs.Ordered.{AreAnswered, ordered}
use Rattle.succession_laws.proofs.Records.{IsIts, is_its, entries_rise}
use Rattle.silence_laws.proofs.Renewed.{WroteAbove, same_or_above}
use Rattle.silence_laws.proofs.Setting.{request_way}
use Rattle.silence_laws.proofs.Ways.{IsWay}
use Rattle.succession_laws.proofs.Timely.{first, first_low, writer_is_its}
use Rattle.succession_laws.proofs.Turns.{sends_plainly}

-- ---- a Get follows a renewal without a Get alone

no_get : (r : Request) (key : Key) → r ≡ Get key → IsWrite r → ⊥
no_get r key is write = subst IsWrite is write

not_done_fast : (kind : CallKind) (key : Key) → not_done kind ≡ Asks (Get key) → is_fast kind ≡ true
not_done_fast Plain key is = absurd (fails_not (Get key) is)
not_done_fast Release key is = absurd (fails_not (Get key) is)
not_done_fast (Look begun) key is = absurd (fails_not (Get key) is)
not_done_fast (Emptying begun) key is = absurd (fails_not (Get key) is)
not_done_fast Fast key is = refl

succeeds_asks : (version : Version) (r : Request) → Succeeds version ≡ Asks r → ⊥
succeeds_asks version r is = cc

write_fast : (kind : CallKind) (reply : Reply) (key : Key) → follow_write kind reply ≡ Asks (Get key) → is_fast kind ≡ true
write_fast kind (Done version) key is = absurd (succeeds_asks version (Get key) is)
write_fast kind Absent key is = not_done_fast kind key is
write_fast kind (Found version lease) key is = not_done_fast kind key is
write_fast kind Exists key is = not_done_fast kind key is
write_fast kind (Conflict version) key is = not_done_fast kind key is
write_fast kind Unchanged key is = not_done_fast kind key is

get_writes : (q : Identity) (m : Moment) (seen : ℕ) (reply : Reply) (key : Key) → follow_get q m seen reply ≡ Asks (Get key) → ⊥
get_writes q m seen Absent key is = no_get _ key (asks_same _ (Get key) is) tt
get_writes q m seen (Found version lease) key is = by_test (is_blocked q m.now seen (respected m.respect m.seconds lease)) is
  where
    by_test : (b : Bool) → cond b Fails (Asks (Update election version (updated q m lease))) ≡ Asks (Get key) → ⊥
    by_test true is = fails_not (Get key) is
    by_test false is = no_get (Update election version (updated q m lease)) key (asks_same (Update election version (updated q m lease)) (Get key) is) tt
get_writes q m seen (Done version) key is = fails_not (Get key) is
get_writes q m seen Exists key is = fails_not (Get key) is
get_writes q m seen (Conflict version) key is = fails_not (Get key) is
get_writes q m seen Unchanged key is = fails_not (Get key) is

asks_get : (q : Identity) (m : Moment) (seen : ℕ) (kind : CallKind) (request : Request) (reply : Reply) (key : Key) → follow q m seen kind request reply ≡ Asks (Get key) → is_fast kind ≡ true
asks_get q m seen kind (Get k) reply key is = absurd (get_writes q m seen reply key is)
asks_get q m seen kind (Create k lease) reply key is = write_fast kind reply key is
asks_get q m seen kind (Update k version lease) reply key is = write_fast kind reply key is
asks_get q m seen kind (PostStatus name status at) reply key is = absurd (fails_not (Get key) is)

success_writes : (r : Request) (reply : Reply) → succeeds r reply ≡ true → IsWrite r
success_writes (Get key) reply so = absurd (false_is so)
success_writes (Create key lease) reply so = tt
success_writes (Update key version lease) reply so = tt
success_writes (PostStatus name status at) reply so = absurd (false_is so)

module _ (doc : Doc) (near far b e : ℕ) (q : Identity) (l : LeadsUntil doc near far b e q) (s : Bears doc near far b e q) (quiet : IsQuiet doc b e q.process) (slowly : doc.settings.fast_renew ≡ false)
    (c : Identity) (role : is_controller doc c.process ≡ true) (other : c.process ≡ q.process → ⊥) (w : Call) (reply : Reply) (T : List Entry) (y : ℕ) (o : Origin doc c w reply T y) (high : IsTail T (history doc (suc e))) (get : w.request ≡ Get election)
    (last : suc o.e.beat ≡ b + far) (within : o.e.beat ≤ e) where
  abbrev k : ℕ
  k = o.e.beat

  abbrev x : Entry
  x = o.begun.f

  abbrev S : List Entry
  S = o.begun.before

  e_high : IsTail (o.e ∷ o.low) (history doc (suc k))
  e_high = in_own_beat doc (suc e) o.e o.low (tail_trans (o.e ∷ o.low) T (history doc (suc e)) o.answered high)

  x_low : IsTail (x ∷ S) (history doc (suc k))
  x_low = tail_trans (x ∷ S) o.low (history doc (suc k)) o.sent_low (tail_trans o.low (o.e ∷ o.low) (history doc (suc k)) (inr (tail_all o.low)) e_high)

  x_upto : x.beat ≤ k
  x_upto = ⊎_elim (λ lt. omega (arith, lt)) (λ first. omega (arith, first.0)) (entries_are_earlier doc (suc k) x (in_head x S (history doc (suc k)) x_low))

  way : IsWay near far x.beat k
  way =
      request_way doc s.rules near far e c.process (l.others c.process role other) (suc k) x S c w o.begun.arrives x_low role refl o.begun.actor o.begun.fact (omega (arith, x_upto, within)) k o.arrives
      (λ j low high soon. l.goes j (omega (arith, high, within)))

  -- its Get was sent in its turn
  in_turn : x.step ≡ 4
  in_turn = by_step made.step_is
    where
      made : MadeSend doc x.beat x.step x.actor w o.begun.arrives S
      made = subst (λ d. MadeAs doc x.beat x.step x.actor d S) o.begun.fact (are_made doc s.rules (suc k) x S x_low)

      mine : made.q ≡ c
      mine = actor_is made.q c (sym made.by ∙ o.begun.actor)

      role_made : is_controller doc made.q.process ≡ true
      role_made = ap (λ (p : Identity). is_controller doc p.process) mine ∙ role

      sending : (p : Sending doc 0 k c w o.begun.arrives) × (p.f ≡ x) × (p.before ≡ S)
      sending = sending_of doc s.rules near far 0 e k c role (l.others c.process role other) (s.calls c.process role) within s.one w o.begun.arrives x S x_low o.begun.actor o.begun.fact (omega arith)

      late : 3 ≤ x.step
      late = subst (λ (f : Entry). 3 ≤ f.step) sending.1 sending.0.step

      followed : Replied doc x.beat made.q made.request S → ⊥
      followed f = true_is (sym fast ∙ plain.0)
        where
          fast : is_fast f.waiting.kind ≡ true
          fast =
              asks_get made.q (moment doc made.q x.beat) (observed_at doc made.q S) f.waiting.kind f.waiting.request f.reply election
              (f.follows ∙ ap Asks (sym (ap (λ (c : Call). c.request) made.call_is) ∙ get))

          at_s : IsTail (entry x.beat 3 made.q (Delivers f.waiting f.reply true) ∷ f.before) (history doc (suc k))
          at_s = subst (λ g. IsTail g (history doc (suc k))) f.is (tail_trans S (x ∷ S) (history doc (suc k)) (inr (tail_all S)) x_low)

          from : Origin doc made.q f.waiting f.reply f.before x.beat
          from = origin doc s.rules (suc k) made.q (entry x.beat 3 made.q (Delivers f.waiting f.reply true)) f.before f.waiting f.reply at_s refl refl

          plain : (is_fast f.waiting.kind ≡ false) × (from.begun.f.step ≡ 4 → f.waiting.request ≡ Get election)
          plain =
              sends_plainly doc s.rules slowly (suc k) from.begun.f from.begun.before made.q f.waiting from.begun.arrives
              (tail_trans (from.begun.f ∷ from.begun.before) f.before (history doc (suc k)) from.begun.position (tail_trans f.before _ (history doc (suc k)) (inr (tail_all f.before)) at_s)) from.begun.actor from.begun.fact role_made

      by_step : (x.step ≡ 1) ⊎ ((x.step ≡ 3) ⊎ (x.step ≡ 4)) → x.step ≡ 4
      by_step (inl one) = absurd (omega (arith, one, late))
      by_step (inr (inr four)) = four
      by_step (inr (inl three)) = absurd (followed (made.replied role_made three))

  -- a write above it in the beat
  module _ (z : Entry) (Z : List Entry) (at : IsTail (z ∷ Z) (history doc (suc k))) (since : IsTail o.low Z) (writes : has (at_key election (write_of z.fact)) ≡ true) where
    -- it isn't the answer to the Get
    differs : o.e ∷ o.low ≡ z ∷ Z → ⊥
    differs same =
        false_is (sym (ap (λ r. has (at_key election (request_write r (written r o.low)))) get) ∙ ap (λ d. has (at_key election (write_of d))) (sym o.fact) ∙ ap (λ (e : Entry). has (at_key election (write_of e.fact))) (same_head o.e z o.low Z same) ∙ writes)

    above : IsTail (o.e ∷ o.low) Z
    above = by_place (tails_meet (o.e ∷ o.low) (z ∷ Z) (history doc (suc k)) e_high at)
      where
        by_place : IsTail (o.e ∷ o.low) (z ∷ Z) ⊎ IsTail (z ∷ Z) (o.e ∷ o.low) → IsTail (o.e ∷ o.low) Z
        by_place (inl (inl same)) = absurd (differs same)
        by_place (inl (inr below)) = below
        by_place (inr (inl same)) = absurd (differs (sym same))
        by_place (inr (inr below)) = absurd (not_below z Z (tail_trans (z ∷ Z) o.low Z below since))

    z_beat : z.beat ≡ k
    z_beat =
        let upto : z.beat ≤ k = ⊎_elim (λ lt. omega (arith, lt)) (λ first. omega (arith, first.0)) (entries_are_earlier doc (suc k) z (in_head z Z (history doc (suc k)) at)) in
        omega (arith, upto, entries_rise doc (suc k) z Z at o.e (in_head o.e o.low Z above))

    won : Won doc z Z
    won = is_won doc s.sound s.rules k (omega (arith, within, s.end)) z Z at (omega (arith, z_beat, last, s.one, s.ways, l.long)) writes

    first_below : IsTail ((first doc near far b e q l s).e ∷ (first doc near far b e q l s).low) Z
    first_below =
        tail_trans _ o.low Z (first_low doc near far b e q l s k o.e o.low e_high (omega (arith, o.step)) (omega (arith, last)) (omega arith)) since

    z_step : 1 ≤ z.step
    z_step = omega (arith, made.step_is)
      where
        made : MadeAnswer doc z.beat z.step z.actor won.call won.reply won.comes won.wrote Z
        made = subst (λ d. MadeAs doc z.beat z.step z.actor d Z) won.fact (are_made doc s.rules (suc k) z Z at)

    mine : won.who.process ≡ q.process
    mine = writer_is_its doc near far b e q l s k within (omega (arith, last)) quiet z Z at first_below won z_step

    its : IsIts doc b q.process z Z
    its = is_its doc near far b e q l s quiet k within z Z at writes won mine

    f_high : IsTail (its.won.f ∷ its.won.low) (history doc (suc k))
    f_high = tail_trans (its.won.f ∷ its.won.low) Z (history doc (suc k)) its.won.asked (tail_trans Z (z ∷ Z) (history doc (suc k)) (inr (tail_all Z)) at)

    its_way : IsWay near far its.won.f.beat z.beat
    its_way =
        request_way doc s.rules near far (b - 1) q.process l.steady (suc k) its.won.f its.won.low its.won.who its.won.call (Some z.beat) f_high l.role its.mine its.won.f_actor its.won.f_fact (omega (arith, its.early, its.own.sent)) z.beat refl
        (λ j low high soon. l.goes j (omega (arith, soon, its.early, its.own.sent, last, within)))

    -- the leader's update was sent after a reply
    f_step : its.won.f.step ≤ 3
    f_step = by_step made.step_is
      where
        made : MadeSend doc its.won.f.beat its.won.f.step its.won.f.actor its.won.call (Some z.beat) its.won.low
        made = subst (λ d. MadeAs doc its.won.f.beat its.won.f.step its.won.f.actor d its.won.low) its.won.f_fact (are_made doc s.rules (suc k) its.won.f its.won.low f_high)

        plain : (is_fast its.won.call.kind ≡ false) × (its.won.f.step ≡ 4 → its.won.call.request ≡ Get election)
        plain =
            sends_plainly doc s.rules slowly (suc k) its.won.f its.won.low its.won.who its.won.call (Some z.beat) f_high its.won.f_actor its.won.f_fact (ap (is_controller doc) its.mine ∙ l.role)

        writing : IsWrite its.won.call.request
        writing = success_writes its.won.call.request its.won.reply its.won.so

        by_step : (its.won.f.step ≡ 1) ⊎ ((its.won.f.step ≡ 3) ⊎ (its.won.f.step ≡ 4)) → its.won.f.step ≤ 3
        by_step (inl one) = omega (arith, one)
        by_step (inr (inl three)) = omega (arith, three)
        by_step (inr (inr four)) = absurd (no_get its.won.call.request election (plain.1 four) writing)

    -- so before the Get
    order : IsTail (its.won.f ∷ its.won.low) S
    order = by_place (tails_meet (its.won.f ∷ its.won.low) (x ∷ S) (history doc (suc k)) f_high x_low)
      where
        differ : its.won.f ≡ x → ⊥
        differ same = omega (arith, ap (λ (e : Entry). e.step) same, in_turn, f_step)

        late : b - 1 ≤ x.beat
        late = omega (arith, way.most, last)

        by_place : IsTail (its.won.f ∷ its.won.low) (x ∷ S) ⊎ IsTail (x ∷ S) (its.won.f ∷ its.won.low) → IsTail (its.won.f ∷ its.won.low) S
        by_place (inl (inl same)) = absurd (differ (same_head its.won.f x its.won.low S same))
        by_place (inl (inr below)) = below
        by_place (inr (inl same)) = absurd (differ (sym (same_head x its.won.f S its.won.low same)))
        by_place (inr (inr below)) =
            absurd (⊎_elim (λ lt. omega (arith, lt, late, its.early, its.own.sent)) (λ here. omega (arith, here.1, in_turn, f_step))
            (within_below (history doc (suc k)) (entries_are_ordered doc (suc k)) its.won.f its.won.low f_high x (in_head x S its.won.low below)))

    abbrev s_sent : Sent
    s_sent = record { who = c; call = w; arrives = Some k }

    abbrev t_sent : Sent
    t_sent = record { who = its.won.who; call = its.won.call; arrives = Some k }

    two : AreAnswered doc k s_sent t_sent
    two =
        ordered doc k x its.won.f S its.won.low s_sent t_sent
        (tail_trans (x ∷ S) (history doc k) (with_events doc k) (tail_trans (x ∷ S) (history doc (suc x.beat)) (history doc k) (in_own_beat doc (suc k) x S x_low) (later_tail doc (suc x.beat) k (omega (arith, way.least, s.one)))) (before_events doc k))
        order (sent_is x c w o.begun.arrives o.begun.actor o.begun.fact ∙ ap (λ t. Some (record { who = c; call = w; arrives = t })) o.arrives) refl
        (sent_is its.won.f its.won.who its.won.call (Some z.beat) its.won.f_actor its.won.f_fact ∙ ap (λ (n : ℕ). Some (record { who = its.won.who; call = its.won.call; arrives = Some n })) z_beat) refl

    get_at : o.low ≡ two.above
    get_at =
        same_rest o.e _ o.low two.above
        (answers_differ doc s.rules (suc k) o.e _ o.low two.above (record { who = c; call = w; reply = reply; comes = Some y }) (record { who = c; call = w; reply = answer w.request two.above; comes = reply_arrival doc c.process k two.above }) e_high two.position
        (ap (λ d. back_of o.e.actor d) o.fact ∙ ap (λ who. back_of who (Answers w reply (Some y) (written w.request o.low))) o.actor) refl refl refl)

    write_at : IsTail (z ∷ Z) two.above
    write_at =
        subst (λ g. IsTail g two.above)
        (sym (answers_differ doc s.rules (suc k) z _ Z two.below (record { who = its.won.who; call = its.won.call; reply = its.won.reply; comes = its.won.comes })
        (record { who = its.won.who; call = its.won.call; reply = answer its.won.call.request two.below; comes = reply_arrival doc its.won.who.process k two.below }) at
        (tail_trans _ two.above (history doc (suc k)) two.order (tail_trans two.above (answered doc k s_sent two.above) (history doc (suc k)) (inr (tail_all two.above)) two.position))
        (ap (λ d. back_of z.actor d) its.won.fact ∙ ap (λ who. back_of who (Answers its.won.call its.won.reply its.won.comes its.won.wrote)) its.won.actor) refl refl refl)) two.order

    none : ⊥
    none = not_below z Z (tail_trans (z ∷ Z) o.low Z (subst (IsTail (z ∷ Z)) (sym get_at) write_at) since)

  pub edge : stored election (history doc (b + far)) ≡ stored election o.low
  edge = by_above (same_or_above o.low (history doc (suc k)) (tail_trans o.low (o.e ∷ o.low) (history doc (suc k)) (inr (tail_all o.low)) e_high))
    where
      by_above : (stored election (history doc (suc k)) ≡ stored election o.low) ⊎ WroteAbove o.low (history doc (suc k)) → stored election (history doc (b + far)) ≡ stored election o.low
      by_above (inl same) = subst (λ m. stored election (history doc m) ≡ stored election o.low) last same
      by_above (inr a) = absurd (none a.z a.before a.position a.since a.writes)
