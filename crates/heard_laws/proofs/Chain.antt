-- A kubelet's round ends in a write of its node's Lease.
use Rattle.std.proofs.Common.{◌≡◌, ◌∙◌, ◌⊎◌, ◌≤◌, ◌<◌, ℕ, suc, ◌+◌, ◌*◌, ◌&&◌, ◌||◌, Bool, true, false, cond, List, ◌∷◌, Option, Some, None, refl, sym, ap, subst, inl, inr, ⊎_elim, arith}
use Rattle.std.proofs.lemmas.Bool.{eq-eqb}
use Rattle.kube_objects.specs.declared.call.Reply.{Reply}
use Rattle.kube_objects.specs.declared.call.Reply.TheVariants as reply
use Rattle.kube_objects.specs.declared.call.Request.{Request}
use Rattle.kube_objects.specs.declared.call.Request.TheVariants.{Get, Create, Update, PostStatus}
use Rattle.kube_objects.specs.declared.key.Key.{Key}
use Rattle.kube_objects.specs.declared.lease.Lease.{Lease}
use Rattle.kube_objects.specs.declared.object.Object.{Object}
use Rattle.kube_objects.specs.declared.object.Object.TheVariants as object
use Rattle.kube_objects.specs.Answers.{versioned, as_kind, lease_in, answer_get, answer, written, if_done, answer_create, answer_update}
use Rattle.kube_objects.specs.Clocks.{local}
use Rattle.kube_objects.specs.Document.{Doc, is_controller, call_timeout}
use Rattle.kube_objects.specs.Entry.{Entry, Identity, Call, Plain, Fact, Sends, Answers, Delivers, actor_of, entry}
use Rattle.kube_objects.specs.Identities.{identity_of, is_same, is_by}
use Rattle.kube_objects.specs.Kubelet.{node_of, is_post, ends_round, round_says, round_period, round_timer_says, round_timer, heartbeat_lease, next_request, send_next}
use Rattle.kube_objects.specs.Newest.{newest, when, join, has, or_else, or_zero}
use Rattle.kube_objects.specs.Own.{ReleasesByStop}
use Rattle.kube_objects.specs.Process.{alive, last_call, call_in, is_late}
use Rattle.kube_objects.specs.Stored.{Held, node_key, node_lease, key_of, at_key, request_write, stored, next_version}
use Rattle.kube_objects.specs.Turns.{with_reply, expired_in}
use Rattle.kube_objects.specs.Wire.{Sent, Back, back_of, back_as, request_delay, request_arrival, reply_arrival, next_call}
use Rattle.kube_objects.specs.Stalls.{is_stalled}
use Rattle.history.specs.History.{three_steps, history}
use Rattle.history.specs.Sound.{IsSound}
use Rattle.history.specs.Steps.{answered}
use Rattle.history_laws.specs.Tails.{In, IsTail}
use Rattle.history_laws.proofs.Order.{entries_are_ordered}
use Rattle.history_laws.proofs.Plainly.{upper, none_is, true_is, false_is, same_self}
use Rattle.history_laws.proofs.Tailed.{tail_all, tail_trans, tails_meet, in_tail, later_tail, two_adds, same_head, begun_tail}
use Rattle.history_laws.proofs.Versions.{versions_are_given}
use Rattle.kube_objects.proofs.KeyOrder.{key_itself}
use Rattle.span_laws.specs.Spans.{RunsAtMost}
use Rattle.call_laws.specs.Answering.{with_events, with_answers, IsAnswered}
use Rattle.call_laws.specs.Waiting.{IsClosed}
use Rattle.call_laws.proofs.Above.{place_of}
use Rattle.call_laws.proofs.Answering.{before_events, requests_are_answered}
use Rattle.call_laws.proofs.Making.{MadeAs, MadeAnswer, are_made}
use Rattle.call_laws.proofs.Once.{answers_differ}
use Rattle.call_laws.proofs.Placing.{in_own_beat, forces_stand}
use Rattle.call_laws.proofs.Starting.{actor_is}
use Rattle.takeover_laws.specs.Calm.{Passes, IsSteady}
use Rattle.takeover_laws.proofs.Rounds.{in_events, request_passes}
use Rattle.takeover_laws.proofs.Writers.{sends_of, since_low}
use Rattle.heard_laws.specs.Heard.{is_about, tells_of}
use Rattle.heard_laws.proofs.Heard.{below_ordered, no_cycle}
use Rattle.heard_laws.proofs.Words.{words, words_tail, same_words}
use Rattle.heard_laws.proofs.Requests.{AnswersSince, IsLeaseKey, TellsAlone}
use Rattle.heard_laws.proofs.Sending.{KubeletSends, sends_as, newest_number, number_is, waits_on, stays_up}
use Rattle.heard_laws.proofs.Replied.{timely, Replied, replied, next_low}
use Rattle.heard_laws.proofs.Closing.{HasAnswer, closed_answered, one_at_a_time}
use Rattle.heard_laws.proofs.Idle.{Idle, IsUnfollowed, timer_stays}

-- ---- what a round asks

post_next : (doc : Doc) (q : Identity) (k : ℕ) (request : Request) (reply : Reply) → is_post request ≡ true → next_request doc q k request reply ≡ Some (Get (node_lease (node_of doc q.process)))
post_next doc q k (PostStatus name status at) reply post = refl
post_next doc q k (Get key) reply post = absurd (false_is post)
post_next doc q k (Create key lease) reply post = absurd (false_is post)
post_next doc q k (Update key given lease) reply post = absurd (false_is post)

-- after a Get a write is asked for that is accepted on what was found
record Accepted (doc : Doc) (q : Identity) (k : ℕ) (key : Key) (found : List Entry) : Type 0 where
  request : Request
  next : next_request doc q k (Get key) (answer (Get key) found) ≡ Some request
  ends : (j : ℕ) (reply : Reply) → next_request doc q j request reply ≡ None
  key_is : key_of request ≡ key
  plain : is_post request ≡ false
  closing : (reply : Reply) → ends_round request reply ≡ true
  wrote : Object
  accepted : (h : List Entry) → stored key h ≡ stored key found → written request h ≡ Some wrote

accepted_on : (doc : Doc) (q : Identity) (k : ℕ) (key : Key) (found : List Entry) → ((x : Held) → stored key found ≡ Some x → (lease : Lease) × (x.object ≡ object.Lease lease)) → Accepted doc q k key found
accepted_on doc q k key found leases = by_stored (stored key found) refl
  where
    by_stored : (o : Option Held) → stored key found ≡ o → Accepted doc q k key found
    by_stored None is = record {
      request = Create key (heartbeat_lease doc q k None);
      next = ap (λ o. next_request doc q k (Get key) (answer_get (as_kind lease_in o))) is;
      ends = λ j reply. refl;
      key_is = refl;
      plain = refl;
      closing = λ reply. refl;
      wrote = object.Lease (heartbeat_lease doc q k None);
      accepted = λ h same. ap (λ o. if_done (answer_create (next_version h) o) (object.Lease (heartbeat_lease doc q k None))) (same ∙ is);
    }
    by_stored (Some x) is =
        let lease = leases x is in
        record {
          request = Update key x.version (heartbeat_lease doc q k (Some lease.0));
          next = ap (λ o. next_request doc q k (Get key) (answer_get (as_kind lease_in o))) is ∙ ap (λ o. next_request doc q k (Get key) (answer_get (versioned x.version (lease_in o)))) lease.1;
          ends = λ j reply. refl;
          key_is = refl;
          plain = refl;
          closing = λ reply. refl;
          wrote = object.Lease (heartbeat_lease doc q k (Some lease.0));
          accepted = λ h same.
              ap (λ o. if_done (answer_update (next_version h) x.version o) (object.Lease (heartbeat_lease doc q k (Some lease.0)))) (same ∙ is)
              ∙ ap (λ b. if_done (cond b (reply.Done (next_version h)) (reply.Conflict x.version)) (object.Lease (heartbeat_lease doc q k (Some lease.0)))) (eq-eqb x.version.0 x.version.0 refl);
        }

sends_call : (c d : Call) (i j : Option ℕ) → Sends c i ≡ Sends d j → c ≡ d
sends_call c d i j is = cc

or_right_true : (a b : Bool) → b ≡ true → (a || b) ≡ true
or_right_true true b is = refl
or_right_true false b is = is

-- a Lease's accepted write tells of its node
lease_tells : (name : ℕ) (call : Call) (answered_as : Reply) (comes : Option ℕ) (wrote : Option Object) (x : Object) → key_of call.request ≡ node_lease name → wrote ≡ Some x → tells_of name (Answers call answered_as comes wrote) ≡ true
lease_tells name call answered_as comes wrote x key is =
    or_right_true (has (at_key (node_key name) (request_write call.request wrote))) (has (at_key (node_lease name) (request_write call.request wrote)))
    (ap (λ o. has (at_key (node_lease name) (request_write call.request o))) is ∙ ap (λ k. has (at_key (node_lease name) (Some (k, Some x)))) key ∙ ap (λ b. has (when b (Some x))) (key_itself (node_lease name)))

delivers_call : (c d : Call) (a b : Reply) → Delivers c a true ≡ Delivers d b true → c ≡ d
delivers_call c d a b is = cc

-- a round that began at a beat is over with the replies of a beat up to another, and the next one may begin a period after the beginning
pub record RoundEnds (doc : Doc) (q : Identity) (from to : ℕ) (begun_at : List Entry) (l : ℕ) : Type 0 where
  pub h : List Entry
  pub beat : ℕ
  pub least : from < beat
  pub most : beat ≤ to
  pub last : Entry
  pub there : In last h
  pub last_beat : last.beat ≡ beat
  pub stands : IsTail h (three_steps doc beat (history doc beat))
  pub since : IsTail begun_at h
  pub within : IsTail h (history doc (suc l))
  pub idle : Idle doc q (local doc q.process from + round_period doc) h
  pub unfollowed : IsUnfollowed doc q h

-- an accepted write of the node's Lease at a beat
pub record WritesAt (doc : Doc) (name e w : ℕ) : Type 0 where
  pub y : Entry
  pub before : List Entry
  pub stands : IsTail (y ∷ before) (history doc (suc e))
  pub tells : tells_of name y.fact ≡ true
  pub beat : y.beat ≡ w

module _ (doc : Doc) (sound : IsSound doc) (rules : ReleasesByStop doc) (near far s l : ℕ) (q : Identity) (role : is_controller doc q.process ≡ false) (steady : IsSteady doc near far s l q.process) where
  -- when a request arrives
  pub arrives_in : (x : Entry) (T : List Entry) (call : Call) (arrives : Option ℕ) (m : ℕ) → IsTail (x ∷ T) (history doc m) → x.actor ≡ actor_of q → x.fact ≡ Sends call arrives → s ≤ x.beat → x.beat ≤ l
      → ((k : ℕ) → s ≤ k → k ≤ l + far → is_stalled doc k ≡ false) → (w : ℕ) × (arrives ≡ Some w) × (x.beat + near ≤ w) × (w ≤ x.beat + far)
  arrives_in x T call arrives m at actor fact from to goes =
      (x.beat + request_delay q.process (with_events doc x.beat), sending.arrives_is ∙ comes, omega (arith, passes.request_least), omega (arith, passes.request_most))
    where
      sending : KubeletSends doc x.beat x.step q call arrives T
      sending = sends_as doc sound rules m q role x T call arrives at actor fact

      passes : Passes doc near far q.process x.beat
      passes = steady.passes x.beat from to

      comes : request_arrival doc q.process x.beat T ≡ Some (x.beat + request_delay q.process (with_events doc x.beat))
      comes =
          request_passes doc rules near far q.process x.beat T passes (forces_stand doc rules m x T at (omega (arith, sending.late)))
          (goes (x.beat + request_delay q.process (with_events doc x.beat)) (omega (arith, from)) (omega (arith, passes.request_most, to)))

module _ (doc : Doc) (sound : IsSound doc) (rules : ReleasesByStop doc) (near far s l e : ℕ) (q : Identity) (role : is_controller doc q.process ≡ false) (steady : IsSteady doc near far s l q.process)
    (up_first : alive q.process (with_events doc s) ≡ Some q.incarnation) (fast : ℕ) (runs : RunsAtMost doc q.process s e fast) (timeout : (2 * far) * fast ≤ call_timeout doc q.process) (one : 1 ≤ near) (within : l ≤ e) where
  module _ (alone : TellsAlone doc s e q (node_of doc q.process)) (leases : IsLeaseKey doc e (node_of doc q.process)) (end : l + far ≤ e) (goes : (k : ℕ) → s ≤ k → k ≤ l + far → is_stalled doc k ≡ false)
      (x : Entry) (T : List Entry) (call : Call) (arrives : Option ℕ) (at : IsTail (x ∷ T) (history doc (suc l))) (actor : x.actor ≡ actor_of q) (fact : x.fact ≡ Sends call arrives) (post : is_post call.request ≡ true)
      (from : s ≤ x.beat) (to : x.beat + 4 * far ≤ l) where
    abbrev name : ℕ
    name = node_of doc q.process

    abbrev key : Key
    key = node_lease name

    -- ---- the post's reply, and the Get

    r1 : Replied doc near far q call arrives x.beat
    r1 = replied doc sound rules near far s l e q role steady up_first fast runs timeout one within x T call arrives at actor fact from (omega (arith, to))

    abbrev y1 : ℕ
    y1 = r1.round.comes

    abbrev after_post_reply : List Entry
    after_post_reply = with_reply y1 q call (answer call.request r1.round.before) r1.before

    abbrev get : Call
    get = next_call q y1 Plain (Get key) after_post_reply

    abbrev x2 : Entry
    x2 = entry y1 3 q (Sends get (request_arrival doc q.process y1 after_post_reply))

    at_2 : IsTail (x2 ∷ after_post_reply) (history doc (suc y1))
    at_2 = subst (λ o. IsTail (send_next doc y1 q o after_post_reply) (history doc (suc y1))) (post_next doc q y1 call.request (answer call.request r1.round.before) post) r1.position

    y1_most : y1 ≤ x.beat + 2 * far
    y1_most = omega (arith, r1.round.most, r1.round.comes_most)

    y1_least : x.beat + 2 * near ≤ y1
    y1_least = omega (arith, r1.round.least, r1.round.comes_least)

    in_2 : IsTail (x2 ∷ after_post_reply) (history doc (suc l))
    in_2 = tail_trans (x2 ∷ after_post_reply) (history doc (suc y1)) (history doc (suc l)) at_2 (later_tail doc (suc y1) (suc l) (omega (arith, y1_most, to)))

    -- ---- its reply, and the write

    r2 : Replied doc near far q get (request_arrival doc q.process y1 after_post_reply) y1
    r2 = replied doc sound rules near far s l e q role steady up_first fast runs timeout one within x2 after_post_reply get (request_arrival doc q.process y1 after_post_reply) in_2 refl refl (omega (arith, y1_least, from)) (omega (arith, y1_most, to))

    abbrev B2 : List Entry
    B2 = r2.round.before

    abbrev y2 : ℕ
    y2 = r2.round.comes

    abbrev after_get_reply : List Entry
    after_get_reply = with_reply y2 q get (answer (Get key) B2) r2.before

    y2_most : y2 ≤ x.beat + 4 * far
    y2_most = omega (arith, r2.round.most, r2.round.comes_most, y1_most)

    y2_least : x.beat + 4 * near ≤ y2
    y2_least = omega (arith, r2.round.least, r2.round.comes_least, y1_least)

    B2_in : IsTail B2 (history doc (suc e))
    B2_in =
        tail_trans B2 (history doc (suc r2.round.at)) (history doc (suc e))
        (tail_trans B2 (answered doc r2.round.at (record { who = q; call = get; arrives = Some r2.round.at }) B2) (history doc (suc r2.round.at)) (inr (tail_all B2)) r2.round.position)
        (later_tail doc (suc r2.round.at) (suc e) (omega (arith, r2.round.comes_least, y2_most, to, within)))

    held_lease : (x : Held) → stored key B2 ≡ Some x → (lease : Lease) × (x.object ≡ object.Lease lease)
    held_lease x is = let w = (versions_are_given B2 key x is).0 in leases w.e w.before x.object (tail_trans (w.e ∷ w.before) B2 (history doc (suc e)) w.position B2_in) w.write

    a : Accepted doc q y2 key B2
    a = accepted_on doc q y2 key B2 held_lease

    abbrev put : Call
    put = next_call q y2 Plain a.request after_get_reply

    abbrev x3 : Entry
    x3 = entry y2 3 q (Sends put (request_arrival doc q.process y2 after_get_reply))

    at_3 : IsTail (x3 ∷ after_get_reply) (history doc (suc y2))
    at_3 = subst (λ o. IsTail (send_next doc y2 q o after_get_reply) (history doc (suc y2))) a.next r2.position

    in_3 : IsTail (x3 ∷ after_get_reply) (history doc (suc l))
    in_3 = tail_trans (x3 ∷ after_get_reply) (history doc (suc y2)) (history doc (suc l)) at_3 (later_tail doc (suc y2) (suc l) (omega (arith, y2_most, to)))

    in_3e : IsTail (x3 ∷ after_get_reply) (history doc (suc e))
    in_3e = tail_trans (x3 ∷ after_get_reply) (history doc (suc l)) (history doc (suc e)) in_3 (later_tail doc (suc l) (suc e) (omega (arith, within)))

    arriving : (w : ℕ) × (request_arrival doc q.process y2 after_get_reply ≡ Some w) × (y2 + near ≤ w) × (w ≤ y2 + far)
    arriving = arrives_in doc sound rules near far s l q role steady x3 after_get_reply put (request_arrival doc q.process y2 after_get_reply) (suc y2) at_3 refl refl (omega (arith, y2_least, from)) (omega (arith, y2_most, to)) goes

    abbrev w : ℕ
    w = arriving.0

    abbrev third : Sent
    third = record { who = q; call = put; arrives = Some w }

    answering : IsAnswered doc w third
    answering =
        requests_are_answered doc w x3 third (in_events doc y2 w x3 after_get_reply (omega (arith, one, arriving.2)) at_3) (ap (λ o. Some (record { who = q; call = put; arrives = o })) arriving.1) refl

    abbrev B3 : List Entry
    B3 = answering.before

    abbrev a3 : Entry
    a3 = entry w 2 q (Answers put (answer a.request B3) (reply_arrival doc q.process w B3) (written a.request B3))

    w_end : w ≤ e
    w_end = omega (arith, arriving.3, y2_most, to, end)

    a3_in : IsTail (a3 ∷ B3) (history doc (suc e))
    a3_in = tail_trans (a3 ∷ B3) (history doc (suc w)) (history doc (suc e)) answering.position (later_tail doc (suc w) (suc e) (omega (arith, w_end)))

    B3_in : IsTail B3 (history doc (suc e))
    B3_in = tail_trans B3 (a3 ∷ B3) (history doc (suc e)) (inr (tail_all B3)) a3_in

    -- ---- nothing tells of the node between

    get_low : IsTail (x2 ∷ after_post_reply) B2
    get_low =
        tail_trans (x2 ∷ after_post_reply) (with_events doc r2.round.at) B2
        (tail_trans (x2 ∷ after_post_reply) (history doc r2.round.at) (with_events doc r2.round.at) (tail_trans (x2 ∷ after_post_reply) (history doc (suc y1)) (history doc r2.round.at) at_2 (later_tail doc (suc y1) r2.round.at (omega (arith, one, r2.round.least)))) (before_events doc r2.round.at))
        r2.round.after

    B2_low : IsTail B2 B3
    B2_low =
        tail_trans B2 (with_events doc w) B3
        (tail_trans B2 (history doc w) (with_events doc w)
        (tail_trans B2 (history doc (suc r2.round.at)) (history doc w)
        (tail_trans B2 (answered doc r2.round.at (record { who = q; call = get; arrives = Some r2.round.at }) B2) (history doc (suc r2.round.at)) (inr (tail_all B2)) r2.round.position)
        (later_tail doc (suc r2.round.at) w (omega (arith, r2.round.comes_least, one, arriving.2))))
        (before_events doc w))
        answering.after

    module _ (y : Entry) (t : List Entry) (y_at : IsTail (y ∷ t) B3) (since : IsTail B2 t) where
      y_in : IsTail (y ∷ t) (history doc (suc e))
      y_in = tail_trans (y ∷ t) B3 (history doc (suc e)) y_at B3_in

      get_before : IsTail (x2 ∷ after_post_reply) t
      get_before = tail_trans (x2 ∷ after_post_reply) B2 t get_low since

      y_late : y1 ≤ y.beat
      y_late = ⊎_elim (λ lt. omega (arith, lt)) (λ here. omega (arith, here.0)) (below_ordered y t (history doc (suc e)) y_in (entries_are_ordered doc (suc e)) x2 (in_tail x2 (x2 ∷ after_post_reply) t get_before (inl refl)))

      -- an answer to a call of the kubelet's
      module _ (c : Call) (replied_as : Reply) (comes : Option ℕ) (wrote : Option Object) (y_fact : y.fact ≡ Answers c replied_as comes wrote) (mine : y.actor ≡ actor_of q) (sent_late : s ≤ c.sent)
          (made : MadeAnswer doc y.beat y.step y.actor c replied_as comes wrote t) (tells : tells_of name (Answers c replied_as comes wrote) ≡ true) where
        whose : made.s.who ≡ q
        whose = actor_is made.s.who q (sym made.by ∙ mine)

        abbrev f : Entry
        f = made.arriving.e

        abbrev S : List Entry
        S = (place_of f t made.arriving.stands).before

        f_at : IsTail (f ∷ S) t
        f_at = (place_of f t made.arriving.stands).position

        f_in : IsTail (f ∷ S) (history doc (suc e))
        f_in = tail_trans (f ∷ S) t (history doc (suc e)) f_at (tail_trans t (y ∷ t) (history doc (suc e)) (inr (tail_all t)) y_in)

        f_actor : f.actor ≡ actor_of q
        f_actor = (sends_of f.actor f.fact made.s made.arriving.is).0 ∙ ap actor_of whose

        f_fact : f.fact ≡ Sends c made.s.arrives
        f_fact = (sends_of f.actor f.fact made.s made.arriving.is).1 ∙ ap (λ c. Sends c made.s.arrives) (sym made.call_is)

        sending : KubeletSends doc f.beat f.step q c made.s.arrives S
        sending = sends_as doc sound rules (suc e) q role f S c made.s.arrives f_in f_actor f_fact

        f_late : s ≤ f.beat
        f_late = let b : c.sent ≡ f.beat = ap (λ (c : Call). c.sent) sending.call_is in omega (arith, b, sent_late)

        abbrev back : Back
        back = record { who = q; call = c; reply = replied_as; comes = comes }

        y_back : back_of y.actor y.fact ≡ Some back
        y_back = ap (λ d. back_of y.actor d) y_fact ∙ ap (λ who. back_as c replied_as comes (identity_of who)) mine

        -- another answer to the call isn't there
        no_other : (g : List Entry) → IsTail g t → IsTail t (history doc (suc e)) → HasAnswer q c.number g → ⊥
        no_other g low at_t has_one =
            let p = place_of has_one.z g has_one.stands in
            let same = answers_differ doc rules (suc e) has_one.z y p.before t has_one.b back (tail_trans (has_one.z ∷ p.before) g (history doc (suc e)) p.position (tail_trans g t (history doc (suc e)) low at_t)) y_in has_one.is y_back has_one.who has_one.number_is in
            no_cycle y t (tail_trans (y ∷ t) g t (subst (λ h. IsTail h g) same p.position) low)

        t_in : IsTail t (history doc (suc e))
        t_in = tail_trans t (y ∷ t) (history doc (suc e)) (inr (tail_all t)) y_in

        -- the Get writes nothing
        is_get : f ∷ S ≡ x2 ∷ after_post_reply → ⊥
        is_get is = false_is (sym none ∙ tells)
          where
            same : c ≡ get
            same = sends_call c get made.s.arrives (request_arrival doc q.process y1 after_post_reply) (sym f_fact ∙ ap (λ (e : Entry). e.fact) (same_head f x2 S after_post_reply is))

            nothing : wrote ≡ None
            nothing = made.written_is ∙ ap (λ (c : Call). written c.request t) (sym made.call_is ∙ same)

            none : tells_of name (Answers c replied_as comes wrote) ≡ false
            none = ap (λ o. is_about name (request_write c.request o)) nothing

        -- an earlier call was answered before the Get was sent
        is_earlier : IsTail (f ∷ S) after_post_reply → ⊥
        is_earlier low =
            let d1_in : IsTail after_post_reply (history doc (suc l)) = tail_trans after_post_reply (x2 ∷ after_post_reply) (history doc (suc l)) (inr (tail_all after_post_reply)) in_2 in
            no_other after_post_reply (tail_trans after_post_reply (x2 ∷ after_post_reply) t (inr (tail_all after_post_reply)) get_before) t_in
            (one_at_a_time doc sound rules near far s l e q role steady up_first fast runs timeout one within f S c made.s.arrives (tail_trans (f ∷ S) after_post_reply (history doc (suc l)) low d1_in) f_actor f_fact f_late
            x2 after_post_reply get (request_arrival doc q.process y1 after_post_reply) in_2 refl refl low)

        -- the call of the write is answered above
        is_put : f ∷ S ≡ x3 ∷ after_get_reply → ⊥
        is_put is = no_cycle a3 B3 (subst (λ h. IsTail h B3) same y_at)
          where
            that : c ≡ put
            that = sends_call c put made.s.arrives (request_arrival doc q.process y2 after_get_reply) (sym f_fact ∙ ap (λ (e : Entry). e.fact) (same_head f x3 S after_get_reply is))

            same : y ∷ t ≡ a3 ∷ B3
            same =
                answers_differ doc rules (suc e) y a3 t B3 back (record { who = q; call = put; reply = answer a.request B3; comes = reply_arrival doc q.process w B3 }) y_in a3_in y_back refl refl (ap (λ (c : Call). c.number) that)

        -- no call is sent between the two
        is_between : IsTail (x2 ∷ after_post_reply) S → IsTail (f ∷ S) after_get_reply → ⊥
        is_between low high =
            omega (
              arith,
              (number_is doc sound rules (suc e) q role c made.s.arrives f S f_in f_actor f_fact).1,
              (number_is doc sound rules (suc l) q role get (request_arrival doc q.process y1 after_post_reply) x2 after_post_reply in_2 refl refl).0,
              (number_is doc sound rules (suc l) q role get (request_arrival doc q.process y1 after_post_reply) x2 after_post_reply in_2 refl refl).1,
              begun_tail q (x2 ∷ after_post_reply) S low,
              begun_tail q (f ∷ S) after_get_reply high,
              newest_number doc sound rules (suc l) q role r2.before before_in get r2.waits,
            )
          where
            before_in : IsTail r2.before (history doc (suc l))
            before_in = tail_trans r2.before (x3 ∷ after_get_reply) (history doc (suc l)) (inr (inr (tail_all r2.before))) in_3

        -- nor after the write's call while it waits
        is_later : IsTail (x3 ∷ after_get_reply) S → ⊥
        is_later low = ⊎_elim (λ waits. none_is put (sym sending.free ∙ waits)) closed (waits_on doc sound rules (suc e) q role put (request_arrival doc q.process y2 after_get_reply) x3 after_get_reply in_3e refl refl S s_in low)
          where
            s_low : IsTail S t
            s_low = tail_trans S (f ∷ S) t (inr (tail_all S)) f_at

            s_in : IsTail S (history doc (suc e))
            s_in = tail_trans S t (history doc (suc e)) s_low t_in

            s_B3 : IsTail S B3
            s_B3 = tail_trans S t B3 s_low (tail_trans t (y ∷ t) B3 (inr (tail_all t)) y_at)

            on_time : (z : Entry) (Z : List Entry) → IsTail (z ∷ Z) S → IsTail (x3 ∷ after_get_reply) Z → z.actor ≡ actor_of q → is_late doc q z.beat put ≡ true → call_in q Z ≡ Some put → ⊥
            on_time z Z z_at z_since z_mine late waits =
                true_is (sym late ∙ timely doc sound rules near far s l e q role steady up_first fast runs timeout one within put y2 z.beat refl (omega (arith, y2_least, from)) after (omega (arith, upto, arriving.3)) (omega (arith, upto, w_end)))
              where
                in_B3 : In z B3
                in_B3 = in_tail z (z ∷ Z) B3 (tail_trans (z ∷ Z) S B3 z_at s_B3) (inl refl)

                upto : z.beat ≤ w
                upto = ⊎_elim (λ lt. omega (arith, lt)) (λ here. omega (arith, here.0)) (below_ordered a3 B3 (history doc (suc e)) a3_in (entries_are_ordered doc (suc e)) z in_B3)

                after : y2 ≤ z.beat
                after =
                    ⊎_elim (λ lt. omega (arith, lt)) (λ here. omega (arith, here.0))
                    (below_ordered z Z (history doc (suc e)) (tail_trans (z ∷ Z) S (history doc (suc e)) z_at s_in) (entries_are_ordered doc (suc e)) x3 (in_tail x3 (x3 ∷ after_get_reply) Z z_since (inl refl)))

            closed : IsClosed q put (x3 ∷ after_get_reply) S → ⊥
            closed closing = by_answer (closed_answered doc sound rules (suc e) q role put (x3 ∷ after_get_reply) S s_in closing on_time)
              where
                by_answer : HasAnswer q put.number S → ⊥
                by_answer has_one =
                    let p = place_of has_one.z S has_one.stands in
                    let same =
                    answers_differ doc rules (suc e) has_one.z a3 p.before B3 has_one.b (record { who = q; call = put; reply = answer a.request B3; comes = reply_arrival doc q.process w B3 })
                    (tail_trans (has_one.z ∷ p.before) S (history doc (suc e)) p.position s_in) a3_in has_one.is refl has_one.who has_one.number_is in
                    no_cycle a3 B3 (tail_trans (a3 ∷ B3) S B3 (subst (λ h. IsTail h S) same p.position) s_B3)

        after_get : IsTail (x2 ∷ after_post_reply) S → ⊥
        after_get low = by_place (tails_meet (f ∷ S) (x3 ∷ after_get_reply) (history doc (suc e)) f_in in_3e)
          where
            by_place : IsTail (f ∷ S) (x3 ∷ after_get_reply) ⊎ IsTail (x3 ∷ after_get_reply) (f ∷ S) → ⊥
            by_place (inl (inl is)) = is_put is
            by_place (inl (inr high)) = is_between low high
            by_place (inr (inl is)) = is_put (sym is)
            by_place (inr (inr high)) = is_later high

        no_answer : ⊥
        no_answer = by_place (tails_meet (f ∷ S) (x2 ∷ after_post_reply) (history doc (suc e)) f_in (tail_trans (x2 ∷ after_post_reply) (history doc (suc l)) (history doc (suc e)) in_2 (later_tail doc (suc l) (suc e) (omega (arith, within)))))
          where
            by_place : IsTail (f ∷ S) (x2 ∷ after_post_reply) ⊎ IsTail (x2 ∷ after_post_reply) (f ∷ S) → ⊥
            by_place (inl (inl is)) = is_get is
            by_place (inl (inr low)) = is_earlier low
            by_place (inr (inl is)) = is_get (sym is)
            by_place (inr (inr high)) = after_get high

      refute : (d : Fact) → y.fact ≡ d → (y.actor ≡ actor_of q) × AnswersSince s d → MadeAs doc y.beat y.step y.actor d t → tells_of name d ≡ true → ⊥
      refute (Answers c replied_as comes wrote) is mine made tells = no_answer c replied_as comes wrote is mine.0 mine.1 made tells
      refute d is mine made tells = elim mine.1 [ ]

      untold : tells_of name y.fact ≡ false
      untold = by_test (tells_of name y.fact) refl
        where
          by_test : (b : Bool) → tells_of name y.fact ≡ b → b ≡ false
          by_test false tells = refl
          by_test true tells = absurd (refute y.fact refl (alone y t y_in tells (omega (arith, y_late, y1_least, from, one))) (are_made doc rules (suc e) y t y_in) tells)

    same_lease : stored key B3 ≡ stored key B2
    same_lease = (same_words name B2 B3 B2_low (words_tail name B3 (history doc (suc e)) B3_in (words doc rules name (suc e))) untold).lease

    pub round_writes : (w : ℕ) × WritesAt doc name e w × (x.beat + 5 * near ≤ w)
    round_writes = (
      w,
      record {
        y = a3;
        before = B3;
        stands = a3_in;
        tells = lease_tells name put (answer a.request B3) (reply_arrival doc q.process w B3) (written a.request B3) a.wrote a.key_is (a.accepted B3 same_lease);
        beat = refl;
      },
      omega (arith, arriving.2, y2_least),
    )

    -- ---- the round's end

    -- where there is time for the third reply too
    module _ (more : x.beat + 6 * far ≤ l) where
      r3 : Replied doc near far q put (request_arrival doc q.process y2 after_get_reply) y2
      r3 = replied doc sound rules near far s l e q role steady up_first fast runs timeout one within x3 after_get_reply put (request_arrival doc q.process y2 after_get_reply) in_3 refl refl (omega (arith, y2_least, from)) (omega (arith, y2_most, more))

      abbrev y3 : ℕ
      y3 = r3.round.comes

      abbrev after_write_reply : List Entry
      after_write_reply = with_reply y3 q put (answer a.request r3.round.before) r3.before

      y3_most : y3 ≤ x.beat + 6 * far
      y3_most = omega (arith, r3.round.most, r3.round.comes_most, y2_most)

      y3_least : x.beat + 6 * near ≤ y3
      y3_least = omega (arith, r3.round.least, r3.round.comes_least, y2_least)

      D3_in : IsTail after_write_reply (history doc (suc l))
      D3_in =
          tail_trans after_write_reply (history doc (suc y3)) (history doc (suc l))
          (tail_trans after_write_reply (send_next doc y3 q (next_request doc q y3 put.request (answer put.request r3.round.before)) after_write_reply) (history doc (suc y3)) (next_low doc y3 q (next_request doc q y3 put.request (answer put.request r3.round.before)) after_write_reply) r3.position)
          (later_tail doc (suc y3) (suc l) (omega (arith, y3_most, more)))

      -- a request stands below its reply
      below_reply : (z : Entry) (Z : List Entry) (c : Call) (comes : Option ℕ) (j : ℕ) (r : Replied doc near far q c comes j) → z.beat ≡ j → IsTail (z ∷ Z) (history doc (suc l)) → IsTail (z ∷ Z) r.before
      below_reply z Z c comes j r beat z_at =
          let two = with_answers doc r.round.comes in
          let one_step = with_events doc r.round.comes in
          tail_trans (z ∷ Z) two r.before
          (tail_trans (z ∷ Z) one_step two
          (tail_trans (z ∷ Z) (history doc r.round.comes) one_step
          (tail_trans (z ∷ Z) (history doc (suc z.beat)) (history doc r.round.comes) (in_own_beat doc (suc l) z Z z_at) (later_tail doc (suc z.beat) r.round.comes (omega (arith, beat, one, r.round.least, r.round.comes_least))))
          (before_events doc r.round.comes))
          (two_adds doc r.round.comes one_step one_step (tail_all one_step)))
          r.low

      up_at : (h : List Entry) → IsTail (x ∷ T) h → IsTail h (history doc (suc l)) → alive q.process h ≡ Some q.incarnation
      up_at h since h_in =
          let low = since_low doc s l x T at from (sends_as doc sound rules (suc l) q role x T call arrives at actor fact).late in
          stays_up doc sound rules near far s l q role steady (with_events doc s) h (tail_all (with_events doc s))
          (tail_trans (with_events doc s) T h low (tail_trans T (x ∷ T) h (inr (tail_all T)) since)) h_in (omega (arith, from, to)) up_first

      low_1 : IsTail (x ∷ T) after_post_reply
      low_1 = inr (below_reply x T call arrives x.beat r1 refl at)

      low_2 : IsTail (x2 ∷ after_post_reply) after_get_reply
      low_2 = inr (below_reply x2 after_post_reply get (request_arrival doc q.process y1 after_post_reply) y1 r2 refl in_2)

      low_3 : IsTail (x3 ∷ after_get_reply) after_write_reply
      low_3 = inr (below_reply x3 after_get_reply put (request_arrival doc q.process y2 after_get_reply) y2 r3 refl in_3)

      D1_in : IsTail after_post_reply (history doc (suc l))
      D1_in = tail_trans after_post_reply (x2 ∷ after_post_reply) (history doc (suc l)) (inr (tail_all after_post_reply)) in_2

      D2_in : IsTail after_get_reply (history doc (suc l))
      D2_in = tail_trans after_get_reply (x3 ∷ after_get_reply) (history doc (suc l)) (inr (tail_all after_get_reply)) in_3

      below_top : (z : Entry) (h : List Entry) → IsTail (z ∷ h) (history doc (suc l)) → IsTail h (history doc (suc l))
      below_top z h z_at = tail_trans h (z ∷ h) (history doc (suc l)) (inr (tail_all h)) z_at

      -- the timer is that of the post
      timer_0 : round_timer doc q (x ∷ T) ≡ local doc q.process x.beat + round_period doc
      timer_0 =
          ap (λ d. or_zero (upper (round_timer_says doc q x.beat x.actor d) (newest (λ e T. round_timer_says doc q e.beat e.actor e.fact) T))) fact
          ∙ ap (λ who. or_zero (upper (when (is_post call.request && is_by q who) (local doc q.process x.beat + round_period doc)) (newest (λ e T. round_timer_says doc q e.beat e.actor e.fact) T))) actor
          ∙ ap (λ b. or_zero (upper (when (b && is_same q q) (local doc q.process x.beat + round_period doc)) (newest (λ e T. round_timer_says doc q e.beat e.actor e.fact) T))) post
          ∙ ap (λ b. or_zero (upper (when b (local doc q.process x.beat + round_period doc)) (newest (λ e T. round_timer_says doc q e.beat e.actor e.fact) T))) (same_self q)

      timer_1 : round_timer doc q after_post_reply ≡ round_timer doc q (x ∷ T)
      timer_1 =
          timer_stays doc sound rules (suc l) q role (x ∷ T) (λ h since h_in. up_at h since h_in) after_post_reply low_1 D1_in
          (omega (arith, newest_number doc sound rules (suc l) q role r1.before (below_top (entry y1 3 q (Delivers call (answer call.request r1.round.before) true)) r1.before D1_in) call r1.waits, (number_is doc sound rules (suc l) q role call arrives x T at actor fact).0, (number_is doc sound rules (suc l) q role call arrives x T at actor fact).1))

      since_2 : (h : List Entry) → IsTail (x2 ∷ after_post_reply) h → IsTail (x ∷ T) h
      since_2 h since = tail_trans (x ∷ T) (x2 ∷ after_post_reply) h (inr low_1) since

      timer_2 : round_timer doc q after_get_reply ≡ round_timer doc q (x2 ∷ after_post_reply)
      timer_2 =
          timer_stays doc sound rules (suc l) q role (x2 ∷ after_post_reply) (λ h since h_in. up_at h (since_2 h since) h_in) after_get_reply low_2 D2_in
          (omega (arith, newest_number doc sound rules (suc l) q role r2.before (below_top (entry y2 3 q (Delivers get (answer (Get key) B2) true)) r2.before D2_in) get r2.waits, (number_is doc sound rules (suc l) q role get (request_arrival doc q.process y1 after_post_reply) x2 after_post_reply in_2 refl refl).0, (number_is doc sound rules (suc l) q role get (request_arrival doc q.process y1 after_post_reply) x2 after_post_reply in_2 refl refl).1))

      timer_3 : round_timer doc q after_write_reply ≡ round_timer doc q (x3 ∷ after_get_reply)
      timer_3 =
          timer_stays doc sound rules (suc l) q role (x3 ∷ after_get_reply) (λ h since h_in. up_at h (since_2 h (tail_trans (x2 ∷ after_post_reply) (x3 ∷ after_get_reply) h (inr low_2) since)) h_in) after_write_reply low_3 D3_in
          (omega (arith, newest_number doc sound rules (suc l) q role r3.before (below_top (entry y3 3 q (Delivers put (answer a.request r3.round.before) true)) r3.before D3_in) put r3.waits, (number_is doc sound rules (suc l) q role put (request_arrival doc q.process y2 after_get_reply) x3 after_get_reply in_3 refl refl).0, (number_is doc sound rules (suc l) q role put (request_arrival doc q.process y2 after_get_reply) x3 after_get_reply in_3 refl refl).1))

      timer_put : round_timer doc q (x3 ∷ after_get_reply) ≡ round_timer doc q after_get_reply
      timer_put = ap (λ b. or_zero (upper (when (b && is_same q q) (local doc q.process y2 + round_period doc)) (newest (λ e T. round_timer_says doc q e.beat e.actor e.fact) after_get_reply))) a.plain

      pub round_ends : RoundEnds doc q x.beat (x.beat + 6 * far) (x ∷ T) l
      round_ends = record {
        h = after_write_reply;
        beat = y3;
        least = omega (arith, y3_least, one);
        most = y3_most;
        last = entry y3 3 q (Delivers put (answer a.request r3.round.before) true);
        there = inl refl;
        last_beat = refl;
        stands = r3.stands;
        since = tail_trans (x ∷ T) (x2 ∷ after_post_reply) after_write_reply (inr low_1) (tail_trans (x2 ∷ after_post_reply) (x3 ∷ after_get_reply) after_write_reply (inr low_2) low_3);
        within = D3_in;
        idle = record {
          free = ap (λ b. join (upper (when b None) (last_call q r3.before))) (same_self q);
          none = ap (λ b. or_else false (upper (when (b && (true && is_same q q)) false) (newest (λ e T. round_says q e.actor e.fact) r3.before))) (a.closing (answer a.request r3.round.before))
              ∙ ap (λ b. or_else false (upper (when b false) (newest (λ e T. round_says q e.actor e.fact) r3.before))) (same_self q);
          timer = timer_3 ∙ timer_put ∙ timer_2 ∙ timer_1 ∙ timer_0;
          calm = λ k. ap (λ b. join (upper (when b (expired_in k y3 (Delivers put (answer a.request r3.round.before) true))) (newest (λ e T. when (is_by q e.actor) (expired_in k e.beat e.fact)) r3.before))) (same_self q);
        };
        unfollowed = λ k waiting reply before is waits next follows. unfollow k waiting reply before is next follows;
      }
        where
          unfollow : (k : ℕ) (waiting : Call) (reply : Reply) (before : List Entry) → after_write_reply ≡ entry k 3 q (Delivers waiting reply true) ∷ before → (next : Request) → next_request doc q k waiting.request reply ≡ Some next → ⊥
          unfollow k waiting reply before is next follows =
              let same : put ≡ waiting = delivers_call put waiting (answer a.request r3.round.before) reply (ap (λ (x : Entry). x.fact) (same_head (entry y3 3 q (Delivers put (answer a.request r3.round.before) true)) (entry k 3 q (Delivers waiting reply true)) r3.before before is)) in
              none_is next (sym (ap (λ (c : Call). next_request doc q k c.request reply) (sym same) ∙ ends_at k reply) ∙ follows)
            where
              ends_at : (k : ℕ) (reply : Reply) → next_request doc q k a.request reply ≡ None
              ends_at k reply = a.ends k reply
