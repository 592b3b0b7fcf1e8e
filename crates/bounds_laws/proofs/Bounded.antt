-- The numbers hold.
use Rattle.std.proofs.Common.{◌≡◌, ◌<◌, ◌≤◌, ℕ, suc, ◌+◌, ◌-◌, ◌*◌, ◌/◌, ◌&&◌, max, true, false, List, [], ◌∷◌, length, Option, Some, None, refl, sym, ap, ◌∙◌, subst, inl, inr, ⊎_elim, arith}
use Rattle.std.specs.Int.{div_ceil}
use Rattle.std.specs.List.{list_all}
use Rattle.std.proofs.lemmas.Bool.{ltb-true, cases_lt}
use Rattle.kube_objects.specs.declared.rules.RespectRule.{RespectRule}
use Rattle.kube_objects.specs.declared.rules.RespectRule.TheVariants.{Record, Own}
use Rattle.kube_objects.specs.declared.script.Proc.{Proc}
use Rattle.kube_objects.specs.Document.{Doc, end_beat, field, process_at, is_controller, of_millis, of_seconds, call_timeout, retry_period, renew_deadline}
use Rattle.kube_objects.specs.Entry.{Identity}
use Rattle.kube_objects.specs.Own.{ReleasesByStop}
use Rattle.kube_objects.specs.Pauses.{is_paused}
use Rattle.history.specs.History.{history}
use Rattle.history.specs.Safe.{Acts}
use Rattle.history_laws.proofs.Plainly.{some_is, and_left, and_right, and_both}
use Rattle.span_laws.specs.Looks.{IsGreatest}
use Rattle.span_laws.specs.Quotients.{most_beats}
use Rattle.span_laws.proofs.Quotients.{rounded_is, bounds_are_exact}
use Rattle.call_laws.specs.Answering.{with_events}
use Rattle.call_laws.proofs.Answering.{events_position}
use Rattle.takeover_laws.specs.Acting.{AreInTime}
use Rattle.takeover_laws.specs.Calm.{IsQuiet, IsCalm}
use Rattle.takeover_laws.specs.Waits.{blocked_for}
use Rattle.calm_laws.specs.Bounds.{SomebodyActs, IsCandidate, AreBeats, LastsFor, early_record}
use Rattle.calm_laws.proofs.Bounded.{takeovers_are_bounded, next_multiple}
use Rattle.settle_laws.specs.Settles.{EndsBy, AllLastFor, IsSettled}
use Rattle.settle_laws.proofs.Settled.{calm_spans_settle}
use Rattle.silence_laws.specs.Silence.{LeadsUntil, Bears, IsStopped}
use Rattle.silence_laws.specs.Least.{IsLead, TakesAtLeast, takes_beats, last_renewal}
use Rattle.silence_laws.proofs.Lasting.{silences_last}
use Rattle.silence_laws.proofs.Released.{releases_last}
use Rattle.succession_laws.specs.Successions.{IsRival, IsFollowed, Hears, last_ways}
use Rattle.succession_laws.proofs.Following.{successors_lead}
use Rattle.succession_laws.proofs.Lingering.{leaders_act_on}
use Rattle.release_laws.proofs.Following.{releases_are_followed}
use Rattle.document_laws.proofs.SoundDocuments.{sound-document}
use Rattle.script_reader.specs.Lawful.{IsLawfulDoc}
use Rattle.lens_bounds.specs.declared.calm.Calm.{Calm}
use Rattle.lens_bounds.specs.declared.elections.Handover.{Handover}
use Rattle.lens_bounds.specs.Documents.{calm_of}
use Rattle.lens_bounds.specs.Elections.{enough, wait, least_wait, retry, gets, acts_on, own_term, longest_term, longest_lease, as_respected, shortest_lease, handed_over, others, followers, replies_count, renews, outlasts, stays_by, all_count, lead, all_stay, stay}
use Rattle.bounds_laws.specs.Undisturbed.{far_of, LeadsUndisturbed, IsOther, GivesUp, IsWell, MayFollow, LeadsWell, StaysWell}
use Rattle.bounds_laws.specs.Elections.{CrashesAreBounded, StopsAreBounded, ActsAreBounded, LeadsAreBounded, StaysAreBounded}
use Rattle.bounds_laws.proofs.Reaching.{Standing, at_place}
use Rattle.bounds_laws.proofs.Steady.{steady, undisturbed, runs_least, runs_most, some_far, reply_within}
use Rattle.bounds_laws.proofs.Waiting.{blocked_is, wait_is, least_is}
use Rattle.bounds_laws.proofs.Settings.{some_slow, some_fast, rules_where_leads, rules_where_stays, period_some, waits, in_time, counts_of, all_renew, bears, others_renew, others_renew_around}
use Rattle.bounds_laws.proofs.Replies.{replies_come, released}
use Rattle.bounds_laws.proofs.Folding.{IsWithin, other_within, alone, term_within, lease_within}
use Rattle.bounds_laws.proofs.Telling.{crash_is, stop_is, acts_on_is, leads_is, stays_from_is, millis_most, millis_least, enough_beats}

-- a controller's longest term without a success
term_is : (doc : Doc) (p : ℕ) (x : Proc) → process_at doc p ≡ Some x → retry_period doc p + renew_deadline doc p ≡ of_millis (own_term x)
unfolding of_millis
term_is doc p x is =
    let a : retry_period doc p ≡ x.retry_millis * 1000000000 = ap (λ o. of_millis (field (λ (y : Proc). y.retry_millis) 0 o)) is in
    let b : renew_deadline doc p ≡ x.renew_millis * 1000000000 = ap (λ o. of_millis (field (λ (y : Proc). y.renew_millis) 0 o)) is in
    omega (arith, a, b)

-- more time takes no fewer beats
div_more : (x y speed : ℕ) → 1 ≤ speed → x ≤ y → div_ceil x speed ≤ div_ceil y speed
div_more x y speed some le = (rounded_is speed x some).1 (div_ceil y speed) (omega (arith, le, (rounded_is speed y some).0))

millis_more : (m n : ℕ) → m ≤ n → of_millis m ≤ of_millis n
unfolding of_millis
millis_more m n le = omega (arith, le)

seconds_more : (m n : ℕ) → m ≤ n → of_seconds m ≤ of_seconds n
unfolding of_seconds
seconds_more m n le = omega (arith, le)

within_same : (a : Handover) → IsWithin a a
within_same a = record { crash_least = omega arith; crash_most = omega arith; stop_most = omega arith; leads = omega arith; stays_from = omega arith }

-- the handover from a leader, as another one respects it, to that one
abbrev handed_to : Doc → Proc → Proc → Handover
handed_to doc leader x = handed_over (calm_of doc) (longest_term doc.controllers) (longest_lease doc.controllers) (as_respected (calm_of doc).respect x.lease_seconds leader) x

as_same : (rule : RespectRule) (x : Proc) → as_respected rule x.lease_seconds x ≡ x
as_same Record x = refl
as_same Own x = refl

same_retry : (rule : RespectRule) (seconds : ℕ) (x : Proc) → (as_respected rule seconds x).retry_millis ≡ x.retry_millis
same_retry Record seconds x = refl
same_retry Own seconds x = refl

same_replies : (c : Calm) (rule : RespectRule) (seconds : ℕ) (x : Proc) → replies_count c (as_respected rule seconds x) ≡ replies_count c x
same_replies c Record seconds x = refl
same_replies c Own seconds x = refl

-- where whoever leads stays, replies count
each_replies : (c : Calm) (least : ℕ) (ps : List Proc) → list_all (λ p. stays_by c (as_respected c.respect least p)) ps ≡ true → list_all (replies_count c) ps ≡ true
each_replies c least [] stays = refl
each_replies c least (p ∷ ps) stays =
    let x : Proc = as_respected c.respect least p in
    let one : stays_by c x ≡ true = and_left (stays_by c x) (list_all (λ p. stays_by c (as_respected c.respect least p)) ps) stays in
    let more : list_all (λ p. stays_by c (as_respected c.respect least p)) ps ≡ true = and_right (stays_by c x) (list_all (λ p. stays_by c (as_respected c.respect least p)) ps) stays in
    and_both (replies_count c p) (list_all (replies_count c) ps)
    (sym (same_replies c c.respect least p) ∙ and_left (replies_count c x) (renews c x) (and_left (replies_count c x && renews c x) (outlasts c x) one)) (each_replies c least ps more)

leads_where_stays : (doc : Doc) → stay (calm_of doc) doc.controllers ≡ true → lead (calm_of doc) doc.controllers ≡ true
leads_where_stays doc is =
    and_both (calm_of doc).releases_by_stop (all_count (calm_of doc) doc.controllers)
    (and_left (calm_of doc).releases_by_stop (all_stay (calm_of doc) doc.controllers) is)
    (each_replies (calm_of doc) (shortest_lease doc.controllers) doc.controllers (and_right (calm_of doc).releases_by_stop (all_stay (calm_of doc) doc.controllers) is))

-- by a later beat
followed_later : (doc : Doc) (b m n e : ℕ) (q : Identity) → m ≤ n → IsFollowed doc b m e q → IsFollowed doc b n e q
followed_later doc b m n e q le f = record { c = f.c; other = f.other; j = f.j; to = omega (arith, f.to, le); success = f.success; stays = f.stays }

module _ (doc : Doc) (lawful : IsLawfulDoc doc) (rules : ReleasesByStop doc) where
  some_beat : 1 ≤ doc.settings.beat_millis
  some_beat = lawful.settings.beat_least

  -- ---- a leader that falls silent

  module _ (b e : ℕ) (q : Identity) (leader : Proc) (leader_is : process_at doc q.process ≡ Some leader) (l : LeadsUndisturbed doc b e q) where
    abbrev far : ℕ
    far = far_of doc

    leads_until : LeadsUntil doc 1 far b e q
    leads_until = record {
      role = l.role;
      steady = steady doc lawful q.process l.role rules 0 (b - 1) l.own;
      others = λ p role other. steady doc lawful p role rules 0 e (l.others p role other);
      goes = l.goes;
      within = l.within;
      long = l.long;
      acts = l.acts;
    }

    -- ---- how long it acts on

    acts_for : IsQuiet doc b e q.process → ((k : ℕ) → b ≤ k → k ≤ e → is_paused doc q.process k ≡ false) → (k : ℕ) → b ≤ k → k ≤ e → Acts doc q k → k + 1 - b ≤ acts_on (calm_of doc) (own_term leader)
    acts_for quiet awake k from to acting = omega (arith, on, same, some_far doc lawful q.process l.role)
      where
        lasting : ℕ
        lasting = div_ceil (retry_period doc q.process + renew_deadline doc q.process) (calm_of doc).slow

        hears : Hears doc far b e q.process
        hears = record { replies = λ k from to. (reply_within doc lawful q.process l.role rules (suc k) (with_events doc k) (events_position doc k)).1; awake = awake }

        on : k + 2 ≤ b + 2 * far + lasting
        on =
            leaders_act_on doc 1 far b e q (sound-document doc lawful) rules (omega arith) (some_far doc lawful q.process l.role) l.end (period_some doc lawful q.process l.role) leads_until quiet hears (calm_of doc).slow lasting (runs_least doc lawful q.process l.role b e)
            (rounded_is (calm_of doc).slow (retry_period doc q.process + renew_deadline doc q.process) (some_slow doc lawful)).0 k to acting

        same : lasting ≡ div_ceil (of_millis (own_term leader)) (calm_of doc).slow
        same = ap (λ n. div_ceil n (calm_of doc).slow) (term_is doc q.process leader leader_is)

    -- ---- where whoever leads stays

    module _ (stays : stay (calm_of doc) doc.controllers ≡ true) where
      abbrev bearing : Bears doc 1 far b e q
      bearing = bears doc lawful stays b e l.end q l.role

      rival : (p : ℕ) → IsOther doc b q p → IsRival doc b e q p (calm_of doc).slow (calm_of doc).fast
      rival p o = record {
        role = o.role;
        other = o.other;
        up = o.up;
        runs_least = runs_least doc lawful p o.role b e;
        runs_most = runs_most doc lawful p o.role b e;
      }

      -- the bounds of each other one are within those of all
      all_within : (h : Handover) → others (calm_of doc) q.process leader doc.controllers ≡ Some h → (p : ℕ) (role : is_controller doc p ≡ true) → (p ≡ q.process → ⊥)
          → IsWithin (handed_to doc leader (at_place doc p role).proc) h
      all_within h is p role other =
          let f = other_within (calm_of doc) (longest_term doc.controllers) (longest_lease doc.controllers) q.process leader 0 doc.controllers None p (at_place doc p role).proc (at_place doc p role).own (λ same. other (omega (arith, same))) in
          subst (IsWithin (handed_to doc leader (at_place doc p role).proc)) (some_is f.0 h (sym f.1 ∙ is)) f.2

      -- ---- a crash

      module _ (quiet : IsQuiet doc b e q.process) (h : Handover) (h_is : others (calm_of doc) q.process leader doc.controllers ≡ Some h) where
        crash_before : (k : ℕ) → IsLead doc b e q k → h.crash_least ≤ k - b
        crash_before k is = ⊎_elim (λ some. omega (arith, told some, is.from)) (λ none. omega (arith, none)) (cases_lt 0 h.crash_least)
          where
            own : ℕ
            own = div_ceil (retry_period doc q.process) (calm_of doc).slow + last_renewal doc far

            same_own : retry (calm_of doc) leader + gets (calm_of doc) ≡ own
            same_own = ap (λ o. div_ceil (of_millis (field (λ (y : Proc). y.retry_millis) 0 o)) (calm_of doc).slow + last_renewal doc far) (sym leader_is)

            blocks : (p : ℕ) (role : is_controller doc p ≡ true) → of_seconds (as_respected (calm_of doc).respect (at_place doc p role).proc.lease_seconds leader).lease_seconds ≡ blocked_for doc p q.process
            blocks p role = blocked_is doc p q.process (at_place doc p role).proc leader (at_place doc p role).whole leader_is

            lasting : ℕ → ℕ
            lasting p = div_ceil (blocked_for doc p q.process) (calm_of doc).fast

            few : 0 < h.crash_least → (p : ℕ) → (role : is_controller doc p ≡ true) → (p ≡ q.process → ⊥)
                → h.crash_least + own - 3 ≤ takes_beats 1 far (least_wait (calm_of doc) (at_place doc p role).proc) (wait (calm_of doc) (at_place doc p role).proc) (lasting p)
            few some p role other =
                omega (
                  arith,
                  some,
                  (all_within h h_is p role other).crash_least,
                  same_own,
                  ap (λ n. enough (calm_of doc) (of_millis n)) (same_retry (calm_of doc).respect (at_place doc p role).proc.lease_seconds leader),
                  ap (λ time. takes_beats 1 far (least_wait (calm_of doc) (at_place doc p role).proc) (wait (calm_of doc) (at_place doc p role).proc) (div_ceil time (calm_of doc).fast)) (blocks p role),
                )

            takes : 0 < h.crash_least → (p : ℕ) → is_controller doc p ≡ true → (p ≡ q.process → ⊥) → TakesAtLeast doc 1 far e p (blocked_for doc p q.process) (h.crash_least + own - 3)
            takes some p role other = record {
              slow = (calm_of doc).slow;
              fast = (calm_of doc).fast;
              wait = wait (calm_of doc) (at_place doc p role).proc;
              needed = least_wait (calm_of doc) (at_place doc p role).proc;
              lasting = lasting p;
              runs_least = runs_least doc lawful p role 0 e;
              runs_most = runs_most doc lawful p role 0 e;
              wait_is = wait_is doc lawful p role (some_slow doc lawful);
              needed_is = least_is doc lawful p role (some_fast doc lawful);
              lasting_is = (rounded_is (calm_of doc).fast (blocked_for doc p q.process) (some_fast doc lawful)).1;
              least_is =
                  λ beats is. omega (
                    arith,
                    few some p role other,
                    ((bounds_are_exact (least_wait (calm_of doc) (at_place doc p role).proc + 2 * 1) (wait (calm_of doc) (at_place doc p role).proc + 2 * far) (lasting p)).1 (omega (arith, some_far doc lawful p role))).1 beats is,
                  );
            }

            told : 0 < h.crash_least → b + (h.crash_least + own - 3) + 3 ≤ k + own
            told some =
                omega (
                  arith,
                  silences_last doc 1 far b e q leads_until bearing (inl (others_renew doc lawful stays b e q).before) quiet (h.crash_least + own - 3) (takes some) k is,
                )

        crash_by : (p n : ℕ) → IsOther doc b q p → b ≤ n → h.crash_most ≤ n - b → n ≤ e → IsFollowed doc b n e q
        crash_by p n o from le to =
            followed_later doc b (b + most + wait (calm_of doc) x + last_ways doc far) n e q by_n
            (successors_lead doc 1 far b e q leads_until bearing quiet (replies_come doc lawful rules q.process l.role b b (omega arith) l.awake) (others_renew doc lawful stays b e q)
            p (calm_of doc).slow (calm_of doc).fast (wait (calm_of doc) x) (least_wait (calm_of doc) x) (rival p o) (wait_is doc lawful p o.role (some_slow doc lawful)) (least_is doc lawful p o.role (some_fast doc lawful))
            lasting most (rounded_is (calm_of doc).slow (blocked_for doc p q.process) (some_slow doc lawful)).0 ((bounds_are_exact (least_wait (calm_of doc) x + 2 * 1) (wait (calm_of doc) x + 2 * far) lasting).0 (omega arith)).1 (omega (arith, by_n, to)))
          where
            x : Proc
            x = (at_place doc p o.role).proc

            lasting : ℕ
            lasting = div_ceil (blocked_for doc p q.process) (calm_of doc).slow

            most : ℕ
            most = most_beats (least_wait (calm_of doc) x + 2 * 1) (wait (calm_of doc) x + 2 * far) lasting

            blocks : of_seconds (as_respected (calm_of doc).respect x.lease_seconds leader).lease_seconds ≡ blocked_for doc p q.process
            blocks = blocked_is doc p q.process x leader (at_place doc p o.role).whole leader_is

            by_n : b + most + wait (calm_of doc) x + last_ways doc far ≤ n
            by_n =
                omega (
                  arith,
                  (all_within h h_is p o.role o.other).crash_most,
                  ap (λ time. most_beats (least_wait (calm_of doc) x + 2 * 1) (wait (calm_of doc) x + 2 * far) (div_ceil time (calm_of doc).slow)) blocks,
                  le,
                  from,
                )

      -- ---- a stop

      module _ (stop : IsStopped doc b e q) (gives : GivesUp doc b e q) (h : Handover) (h_is : others (calm_of doc) q.process leader doc.controllers ≡ Some h) where
        stop_before : (k : ℕ) → IsLead doc b e q k → 4 ≤ k - b
        stop_before k is = omega (arith, releases_last doc 1 far b e q leads_until bearing stop (released doc lawful rules b e q l.role l.goes gives) k is)

        stop_by : (p n : ℕ) → IsOther doc b q p → b ≤ n → h.stop_most ≤ n - b → n ≤ e → IsFollowed doc b n e q
        stop_by p n o from le to =
            followed_later doc b (b + wait (calm_of doc) (at_place doc p o.role).proc + (6 * far - 1)) n e q by_n
            (releases_are_followed doc 1 far b e q leads_until bearing stop (released doc lawful rules b e q l.role l.goes gives) (replies_come doc lawful rules q.process l.role (suc b) b (omega arith) l.awake)
            (others_renew_around doc lawful stays b e q) p (calm_of doc).slow (calm_of doc).fast (wait (calm_of doc) (at_place doc p o.role).proc) (rival p o) (wait_is doc lawful p o.role (some_slow doc lawful)) (omega (arith, by_n, to)))
          where
            by_n : b + wait (calm_of doc) (at_place doc p o.role).proc + (6 * far - 1) ≤ n
            by_n = omega (arith, (all_within h h_is p o.role o.other).stop_most, le, from)

  -- ---- a calm span

  module _ (a e : ℕ) (w : IsWell doc a e) (end : e ≤ end_beat doc) (place : ℕ) (leader : Proc) (place_role : is_controller doc place ≡ true) (leader_is : process_at doc place ≡ Some leader) (counts : lead (calm_of doc) doc.controllers ≡ true) where
    abbrev found : Option Handover
    found = others (calm_of doc) place leader doc.controllers

    calm_span : IsCalm doc 1 (far_of doc) a e
    calm_span = record {
      each = λ p role. ⊎_elim (λ s. inl (steady doc lawful p role rules a e s)) (λ quiet. inr quiet) (w.each p role);
      requests = w.requests;
      replies = w.replies;
    }

    in_time_all : AreInTime doc 1 (far_of doc) a e
    in_time_all p role s = in_time doc lawful p role (counts_of doc lawful counts p role) a e

    module _ (p : ℕ) (later : ℕ) (f : MayFollow doc a e later place p) where
      abbrev follower : Standing doc.controllers doc.kubelets p
      follower = at_place doc p f.role

      candidate : IsCandidate doc 1 (far_of doc) a e p later (calm_of doc).slow (calm_of doc).fast
      candidate = record {
        role = f.role;
        steady = steady doc lawful p f.role rules a e f.undisturbed;
        waits = waits doc lawful p f.role;
        up = f.up;
        runs_least = runs_least doc lawful p f.role (a - 1) e;
        runs_most = runs_most doc lawful p f.role (a - 1) e;
      }

      -- its beats
      abbrev lost : ℕ
      lost = call_timeout doc p / (calm_of doc).slow

      lost_is : lost ≡ of_millis follower.proc.timeout_millis / (calm_of doc).slow
      lost_is = ap (λ o. of_millis (field (λ (y : Proc). y.timeout_millis) 0 o) / (calm_of doc).slow) follower.whole

      beats : AreBeats doc p (calm_of doc).slow (calm_of doc).fast lost (wait (calm_of doc) follower.proc) (least_wait (calm_of doc) follower.proc)
      beats = record {
        lost_is = next_multiple (call_timeout doc p) (calm_of doc).slow (some_slow doc lawful);
        wait_is = wait_is doc lawful p f.role (some_slow doc lawful);
        needed_is = least_is doc lawful p f.role (some_fast doc lawful);
      }

      abbrev most_for : ℕ → ℕ
      most_for time = most_beats (least_wait (calm_of doc) follower.proc + 2 * 1) (wait (calm_of doc) follower.proc + 2 * far_of doc) (div_ceil time (calm_of doc).slow)

      greatest_for : (time : ℕ) → IsGreatest (least_wait (calm_of doc) follower.proc + 2 * 1) (wait (calm_of doc) follower.proc + 2 * far_of doc) (div_ceil time (calm_of doc).slow) (most_for time)
      greatest_for time = ((bounds_are_exact (least_wait (calm_of doc) follower.proc + 2 * 1) (wait (calm_of doc) follower.proc + 2 * far_of doc) (div_ceil time (calm_of doc).slow)).0 (omega arith)).1

      -- its bounds are within the follower's
      within : IsWithin (handed_to doc leader follower.proc) (followers (calm_of doc) leader doc.controllers found)
      within = ⊎_elim of_other of_one f.other
        where
          of_other : (p ≡ place → ⊥) → IsWithin (handed_to doc leader follower.proc) (followers (calm_of doc) leader doc.controllers found)
          of_other other =
              let g = other_within (calm_of doc) (longest_term doc.controllers) (longest_lease doc.controllers) place leader 0 doc.controllers None p follower.proc follower.own (λ same. other (omega (arith, same))) in
              subst (λ o. IsWithin (handed_to doc leader follower.proc) (followers (calm_of doc) leader doc.controllers o)) (sym g.1) g.2

          of_one : length doc.controllers ≡ 1 → IsWithin (handed_to doc leader follower.proc) (followers (calm_of doc) leader doc.controllers found)
          of_one one =
              subst (λ o. IsWithin (handed_to doc leader follower.proc) (followers (calm_of doc) leader doc.controllers o)) (sym none)
              (subst (λ x. IsWithin (handed_to doc leader x) (handed_over (calm_of doc) (longest_term doc.controllers) (longest_lease doc.controllers) leader leader)) (sym proc_is)
              (subst (λ y. IsWithin (handed_over (calm_of doc) (longest_term doc.controllers) (longest_lease doc.controllers) y leader) (handed_over (calm_of doc) (longest_term doc.controllers) (longest_lease doc.controllers) leader leader)) (sym (as_same (calm_of doc).respect leader))
              (within_same (handed_over (calm_of doc) (longest_term doc.controllers) (longest_lease doc.controllers) leader leader))))
            where
              at_zero : place ≡ 0
              at_zero = omega (arith, one, ltb-true place (length doc.controllers) place_role)

              same_place : place ≡ p
              same_place = omega (arith, at_zero, one, ltb-true p (length doc.controllers) f.role)

              none : found ≡ None
              none = ap (λ n. others (calm_of doc) n leader doc.controllers) at_zero ∙ alone (calm_of doc) (longest_term doc.controllers) (longest_lease doc.controllers) leader doc.controllers one

              proc_is : follower.proc ≡ leader
              proc_is = some_is follower.proc leader (sym follower.whole ∙ ap (process_at doc) (sym same_place) ∙ leader_is)

    -- ---- somebody acts

    leads_by : (p n : ℕ) → MayFollow doc a e 0 place p → a ≤ n → (followers (calm_of doc) leader doc.controllers found).leads ≤ n - a → n ≤ e
        → LastsFor doc p (blocked_for doc p place) (early_record a (history doc (a + far_of doc))) → LeadsWell doc a e n
    leads_by p n f from le to lasts = record {
      q = s.q;
      role = s.role;
      undisturbed = undisturbed doc a e s.q.process s.steady;
      acts = record { k = s.acts.k; from = s.acts.from; to = omega (arith, s.acts.to, by_n); acts = s.acts.acts };
    }
      where
        x : Proc
        x = (follower p 0 f).proc

        time : ℕ
        time = blocked_for doc p place

        first : ℕ
        first = max (lost p 0 f) (4 * far_of doc - 1) + wait (calm_of doc) x

        by_n : a + first + most_for p 0 f time + 4 * far_of doc ≤ n
        by_n =
            omega (
              arith,
              (within p 0 f).leads,
              lost_is p 0 f,
              ap (most_for p 0 f) (blocked_is doc p place x leader (follower p 0 f).whole leader_is),
              le,
              from,
            )

        s : SomebodyActs doc 1 (far_of doc) a e (a + first + most_for p 0 f time + 4 * far_of doc)
        s =
            takeovers_are_bounded doc 1 (far_of doc) a e (sound-document doc lawful) rules calm_span in_time_all (omega arith) (some_far doc lawful p f.role) end p 0 (calm_of doc).slow (calm_of doc).fast
            (lost p 0 f) (wait (calm_of doc) x) (least_wait (calm_of doc) x) (candidate p 0 f) (beats p 0 f) first (omega arith) (omega arith) (omega arith)
            time (div_ceil time (calm_of doc).slow) (most_for p 0 f time) lasts (rounded_is (calm_of doc).slow time (some_slow doc lawful)).0 (greatest_for p 0 f time) (omega (arith, by_n, to))

    -- ---- and one stays

    module _ (stays : stay (calm_of doc) doc.controllers ≡ true) where
      abbrev old : ℕ
      old = acts_on (calm_of doc) (longest_term doc.controllers)

      ends_by : (p : ℕ) (role : is_controller doc p ≡ true) → EndsBy doc (far_of doc) a e old p
      ends_by p role = record {
        slow = (calm_of doc).slow;
        beats = div_ceil (retry_period doc p + renew_deadline doc p) (calm_of doc).slow;
        runs = runs_least doc lawful p role a e;
        beats_is = (rounded_is (calm_of doc).slow (retry_period doc p + renew_deadline doc p) (some_slow doc lawful)).0;
        in_old = omega (arith, some_far doc lawful p role, div_more (retry_period doc p + renew_deadline doc p) (of_millis (longest_term doc.controllers)) (calm_of doc).slow (some_slow doc lawful) shorter);
      }
        where
          shorter : retry_period doc p + renew_deadline doc p ≤ of_millis (longest_term doc.controllers)
          shorter = omega (arith, term_is doc p (at_place doc p role).proc (at_place doc p role).whole, millis_more (own_term (at_place doc p role).proc) (longest_term doc.controllers) (term_within doc.controllers p (at_place doc p role).proc (at_place doc p role).own))

      all_last : AllLastFor doc 1 (far_of doc) a e (of_seconds (longest_lease doc.controllers))
      all_last p role s =
          subst (λ o. of_seconds (field (λ (y : Proc). y.lease_seconds) 0 o) ≤ of_seconds (longest_lease doc.controllers)) (sym (at_place doc p role).whole)
          (seconds_more (at_place doc p role).proc.lease_seconds (longest_lease doc.controllers) (lease_within doc.controllers p (at_place doc p role).proc (at_place doc p role).own))

      stays_by_beat : (p n : ℕ) → MayFollow doc a e old place p → a ≤ n → (followers (calm_of doc) leader doc.controllers found).stays_from ≤ n - a → n ≤ e
          → LastsFor doc p (of_seconds (longest_lease doc.controllers)) (early_record a (history doc (a + far_of doc))) → StaysWell doc a e n
      stays_by_beat p n f from le to lasts = record {
        q = s.q;
        role = s.role;
        undisturbed = undisturbed doc a e s.q.process s.steady;
        stays = record { acts = λ k since upto. s.stays.acts k (omega (arith, by_n, since)) upto; alone = λ x before at since. s.stays.alone x before at (omega (arith, by_n, since)) };
      }
        where
          x : Proc
          x = (follower p old f).proc

          time : ℕ
          time = of_seconds (longest_lease doc.controllers)

          first : ℕ
          first = max old (max (lost p old f) (old + 4 * far_of doc - 1) + wait (calm_of doc) x)

          by_n : a + first + most_for p old f time + 4 * far_of doc ≤ n
          by_n = omega (arith, (within p old f).stays_from, lost_is p old f, le, from)

          s : IsSettled doc 1 (far_of doc) a e (a + first + most_for p old f time + 4 * far_of doc)
          s =
              calm_spans_settle doc 1 (far_of doc) a e (sound-document doc lawful) rules calm_span in_time_all (omega arith) (some_far doc lawful p f.role) end (λ r role steady. all_renew doc lawful stays a e r role)
              old (λ r role steady. ends_by r role) p old (calm_of doc).slow (calm_of doc).fast (lost p old f) (wait (calm_of doc) x) (least_wait (calm_of doc) x) (candidate p old f) (beats p old f) (omega arith)
              first (omega arith) (omega arith) (omega arith) time (div_ceil time (calm_of doc).slow) (most_for p old f time) lasts all_last (rounded_is (calm_of doc).slow time (some_slow doc lawful)).0 (greatest_for p old f time)
              (omega (arith, by_n, to))

-- ---- the laws

pub crashes_are_bounded : CrashesAreBounded
crashes_are_bounded doc lawful b e q leader leader_is l quiet s told =
    let t = crash_is doc q.process leader s told in (
      λ k is. millis_least doc t.h.crash_least s.least (k - b) t.least_is (crash_before doc lawful (rules_where_stays doc t.holds) b e q leader leader_is l t.holds quiet t.h t.found_is k is),
      λ p n o from le to. crash_by doc lawful (rules_where_stays doc t.holds) b e q leader leader_is l t.holds quiet t.h t.found_is p n o from (enough_beats doc t.h.crash_most s.most (n - b) lawful.settings.beat_least t.most_is le) to,
    )

pub stops_are_bounded : StopsAreBounded
stops_are_bounded doc lawful b e q leader leader_is l stop gives s told =
    let t = stop_is doc q.process leader s told in (
      λ k is. millis_least doc 4 s.least (k - b) t.least_is (stop_before doc lawful (rules_where_stays doc t.holds) b e q leader leader_is l t.holds stop gives t.h t.found_is k is),
      λ p n o from le to. stop_by doc lawful (rules_where_stays doc t.holds) b e q leader leader_is l t.holds stop gives t.h t.found_is p n o from (enough_beats doc t.h.stop_most s.most (n - b) lawful.settings.beat_least t.most_is le) to,
    )

pub acts_are_bounded : ActsAreBounded
acts_are_bounded doc lawful b e q leader leader_is l quiet awake time told k from to acting =
    let t = acts_on_is doc q.process leader time told in
    millis_most doc (acts_on (calm_of doc) (own_term leader)) time (k + 1 - b) t.1 (acts_for doc lawful (rules_where_leads doc t.0) b e q leader leader_is l quiet awake k from to acting)

pub leads_are_bounded : LeadsAreBounded
leads_are_bounded doc lawful a e w end place leader role leader_is time told p n f lasts from le to =
    let t = leads_is doc place leader time told in
    leads_by doc lawful (rules_where_leads doc t.0) a e w end place leader role leader_is t.0 p n f from (enough_beats doc (followers (calm_of doc) leader doc.controllers (others (calm_of doc) place leader doc.controllers)).leads time (n - a) lawful.settings.beat_least t.1 le) to lasts

pub stays_are_bounded : StaysAreBounded
stays_are_bounded doc lawful a e w end place leader role leader_is time told p n f lasts from le to =
    let t = stays_from_is doc place leader time told in
    stays_by_beat doc lawful (rules_where_stays doc t.0) a e w end place leader role leader_is (leads_where_stays doc t.0) t.0 p n f from
    (enough_beats doc (followers (calm_of doc) leader doc.controllers (others (calm_of doc) place leader doc.controllers)).stays_from time (n - a) lawful.settings.beat_least t.1 le) to lasts
