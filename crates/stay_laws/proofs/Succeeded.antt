-- What a success leaves: a leader whose timer is set, and that has no call.
use Rattle.std.proofs.Common.{◌≡◌, ◌≤◌, ℕ, suc, ◌+◌, ◌&&◌, Bool, true, false, List, ◌∷◌, length, Some, None, refl, sym, ap, ◌∙◌, subst, inl, inr, arith}
use Rattle.kube_base.specs.declared.numbers.Version.{Version}
use Rattle.kube_objects.specs.declared.call.Reply.TheVariants.{Done}
use Rattle.kube_objects.specs.declared.call.Request.{Request}
use Rattle.kube_objects.specs.declared.call.Request.TheVariants.{Get, Create, Update, PostStatus}
use Rattle.kube_objects.specs.declared.lease.Lease.{Lease}
use Rattle.kube_objects.specs.Clocks.{local}
use Rattle.kube_objects.specs.Document.{Doc, is_controller, retry_period, renew_deadline}
use Rattle.kube_objects.specs.Elector.{Moment, Asks, Succeeds, told, shown, succeeds, leads, lead_says, deadline, follow, follow_on, moment, observed_at, timer_follow, timer_says}
use Rattle.kube_objects.specs.Entry.{Entry, Identity, Call, CallKind, Fact, Delivers, Leads, actor_of, entry}
use Rattle.kube_objects.specs.Identities.{is_same, is_by}
use Rattle.kube_objects.specs.Newest.{newest, when, only_if, join, has, or_zero}
use Rattle.kube_objects.specs.Pauses.{can_at}
use Rattle.kube_objects.specs.Process.{alive, last_call}
use Rattle.kube_objects.specs.Turns.{expired_in, react}
use Rattle.kube_objects.specs.Own.{ReleasesByStop}
use Rattle.history.specs.History.{history, at_turn, three_steps}
use Rattle.history_laws.specs.Tails.{IsTail}
use Rattle.history_laws.proofs.Counting.{counted_is}
use Rattle.history_laws.proofs.Plainly.{upper, false_is, true_is, and_both, same_self}
use Rattle.history_laws.proofs.Tailed.{tail_all, turns_add, same_head}
use Rattle.call_laws.proofs.Above.{tail_length}
use Rattle.call_laws.proofs.Making.{MadeDelivery, are_made}
use Rattle.call_laws.proofs.Placing.{not_before}
use Rattle.call_laws.proofs.Starting.{actor_is}
use Rattle.takeover_laws.proofs.Fresh.{can_least}
use Rattle.takeover_laws.proofs.Asking.{call_or, reply_or}
use Rattle.calm_laws.proofs.Asked.{IsWrite}
use Rattle.stay_laws.proofs.Reacting.{replies_follow, in_three}
use Rattle.stay_laws.proofs.Leading.{IsLeader}
use Rattle.stay_laws.proofs.Idle.{Idle, is_move}
use Rattle.stay_laws.proofs.Trying.{AsksNothing}

-- ---- a request that succeeds

pub record IsSuccess (r : Request) (version : Version) : Type 0 where
  pub write : IsWrite r
  pub lease : Lease
  pub told_is : told r (Done version) ≡ Some (version, lease)
  pub follow_is : (q : Identity) (m : Moment) (seen : ℕ) (kind : CallKind) → follow q m seen kind r (Done version) ≡ Succeeds version

pub success_is : (r : Request) (version : Version) → succeeds r (Done version) ≡ true → IsSuccess r version
success_is (Get key) version so = absurd (false_is so)
success_is (Create key lease) version so = record { write = tt; lease = lease; told_is = refl; follow_is = λ q m seen kind. refl }
success_is (Update key given lease) version so = record { write = tt; lease = lease; told_is = refl; follow_is = λ q m seen kind. refl }
success_is (PostStatus name status at) version so = absurd (false_is so)

no_ask : (version : Version) (r : Request) → Succeeds version ≡ Asks r → ⊥
no_ask version r is = cc

-- what is left at a position of the beat: a leader whose timer is at a reading, with no call, and nothing to ask for
pub record IsSet (doc : Doc) (q : Identity) (y : ℕ) (version : Version) (lease : Lease) (reply : List Entry) : Type 0 where
  pub low : List Entry
  pub at : ℕ
  pub leader : IsLeader doc q at y low
  pub early : local doc q.process y ≤ at
  pub idle : Idle doc q low at (Some (version, lease)) low
  pub nothing : AsksNothing doc q low
  pub below : IsTail reply low
  pub none_between : (z : Entry) (Z : List Entry) → IsTail (z ∷ Z) low → IsTail reply Z → is_move z.fact ≡ true → ⊥

too_long : (low : List Entry) (z : Entry) (Z : List Entry) → IsTail (z ∷ Z) low → IsTail low Z → ⊥
too_long low z Z at below = longer (tail_length (z ∷ Z) low at) (tail_length low Z below)
  where
    longer : length (z ∷ Z) ≤ length low → length low ≤ length Z → ⊥
    longer a b = omega (arith, a, b)

abbrev is_lead : Fact → Bool
is_lead (Leads version) = true
is_lead _ = false

module _ (doc : Doc) (rules : ReleasesByStop doc) (q : Identity) (role : is_controller doc q.process ≡ true) (y : ℕ) (call : Call) (version : Version) (T : List Entry) (so : succeeds call.request (Done version) ≡ true)
    (at : IsTail (entry y 3 q (Delivers call (Done version) true) ∷ T) (history doc (suc y))) where
  abbrev reply : Entry
  reply = entry y 3 q (Delivers call (Done version) true)

  abbrev pub low0 : List Entry
  low0 = reply ∷ T

  abbrev next : ℕ
  next = local doc q.process y + retry_period doc q.process

  abbrev pub s : IsSuccess call.request version
  s = success_is call.request version so

  follows : follow_on doc q y call.kind call.request (Done version) low0 ≡ Succeeds version
  follows = s.follow_is q (moment doc q y) (observed_at doc q low0) call.kind

  up : alive q.process T ≡ Some q.incarnation
  up = subst (λ (p : Identity). alive p.process T ≡ Some p.incarnation) (actor_is made.b.who q (sym made.by)) (counted_is doc made.b.who y made.b.call.number T call made.counted_is).up
    where
      made : MadeDelivery doc y 3 (actor_of q) call (Done version) T
      made = are_made doc rules (suc y) reply T at

  since : IsTail (history doc y) T
  since = not_before doc y (suc y) reply T (omega arith) at (omega arith) (omega arith)

  -- in its turn
  turn_low : (x : Entry) (g : List Entry) → IsTail (x ∷ g) (history doc (suc y)) → x.beat ≡ y → x.step ≡ 3 → IsTail (x ∷ g) (at_turn doc q.process y)
  turn_low x g stands beat step = turns_add doc y q.process (x ∷ g) (three_steps doc y (history doc y)) (subst (λ k. IsTail (x ∷ g) (three_steps doc k (history doc k))) beat (in_three doc (suc y) x g stands step))

  shown_is : shown q low0 ≡ Some (version, s.lease)
  shown_is = ap (λ b. upper (only_if b (told call.request (Done version))) (shown q T)) (same_self q) ∙ ap (λ t. upper t (shown q T)) s.told_is

  -- a renewal
  renewed : leads q T ≡ true → IsSet doc q y version s.lease low0
  renewed led = record {
    low = low0;
    at = next;
    leader = record {
      up = up;
      term = record {
        led = led;
        end = can_at doc q.process next + renew_deadline doc q.process;
        set =
            ap (λ t. upper (when t (can_at doc q.process next + renew_deadline doc q.process)) (deadline doc q T))
            (and_both (is_same q q) (leads q T && succeeds call.request (Done version)) (same_self q) (and_both (leads q T) (succeeds call.request (Done version)) led so));
        late = omega (arith, can_least doc q.process next);
      };
      soon = omega arith;
      since = inr since;
      before = turn_low reply T at refl refl;
    };
    early = omega arith;
    idle = record {
      call = ap (λ b. join (upper (when b None) (last_call q T))) (same_self q);
      timer_is =
          ap (λ b. or_zero (upper (only_if b (timer_follow doc q reply T (leads q T) (follow_on doc q y call.kind call.request (Done version) low0))) (newest (λ e T. timer_says doc q e T e.fact) T))) (same_self q)
          ∙ ap (λ f. or_zero (upper (timer_follow doc q reply T (leads q T) f) (newest (λ e T. timer_says doc q e T e.fact) T))) follows
          ∙ ap (λ b. or_zero (upper (when b next) (newest (λ e T. timer_says doc q e T e.fact) T))) led;
      shown_is = shown_is;
      expiry = λ k. ap (λ b. join (upper (when b None) (newest (λ e T. when (is_by q e.actor) (expired_in k e.beat e.fact)) T))) (same_self q);
      unmoved = λ z Z stands below mine moves. too_long low0 z Z stands below;
    };
    nothing = asks_nothing;
    below = tail_all low0;
    none_between = λ z Z stands below moves. too_long low0 z Z stands below;
  }
    where
      asks_nothing : AsksNothing doc q low0
      asks_nothing k w other g r same asks =
          no_ask version r (sym follows ∙ ap (λ k. follow_on doc q k call.kind call.request (Done version) low0) (ap (λ (e : Entry). e.beat) head)
          ∙ ap (λ (c : Call). follow_on doc q k c.kind c.request (Done version) low0) (ap (λ (e : Entry). call_or call e.fact) head)
          ∙ ap (λ reply. follow_on doc q k w.kind w.request reply low0) (ap (λ (e : Entry). reply_or (Done version) e.fact) head) ∙ asks)
        where
          head : reply ≡ entry k 3 q (Delivers w other true)
          head = same_head reply (entry k 3 q (Delivers w other true)) T g same

  -- a lead
  led_anew : leads q T ≡ false → IsSet doc q y version s.lease low0
  led_anew unled = record {
    low = low1;
    at = local doc q.process y;
    leader = record {
      up = up;
      term = record {
        led = ap (λ b. has (upper (when b version) (newest (λ e T. lead_says q e.actor e.fact) low0))) (same_self q);
        end = local doc q.process y + renew_deadline doc q.process;
        set = ap (λ t. upper (when t (local doc q.process y + renew_deadline doc q.process)) (deadline doc q low0)) (same_self q);
        late = omega arith;
      };
      soon = omega arith;
      since = inr (inr since);
      before = turn_low lead low0 at1 refl refl;
    };
    early = omega arith;
    idle = record {
      call = ap (λ b. join (upper (when b None) (last_call q T))) (same_self q);
      timer_is = ap (λ b. or_zero (upper (when b (local doc q.process y)) (newest (λ e T. timer_says doc q e T e.fact) low0))) (same_self q);
      shown_is = shown_is;
      expiry = λ k. ap (λ b. join (upper (when b None) (newest (λ e T. when (is_by q e.actor) (expired_in k e.beat e.fact)) low0))) (same_self q);
      unmoved = λ z Z stands below mine moves. too_long low1 z Z stands below;
    };
    nothing = λ k w other g r same asks. true_is (ap (λ (e : Entry). is_lead e.fact) (same_head lead (entry k 3 q (Delivers w other true)) low0 g same));
    below = inr (tail_all low0);
    none_between = between;
  }
    where
      lead : Entry
      lead = entry y 3 q (Leads version)

      low1 : List Entry
      low1 = lead ∷ low0

      at1 : IsTail low1 (history doc (suc y))
      at1 =
          subst (λ led. IsTail (react doc y q led (Succeeds version) low0) (history doc (suc y))) unled
          (subst (λ f. IsTail (react doc y q (leads q low0) f low0) (history doc (suc y))) follows (replies_follow doc rules (suc y) q reply T call (Done version) at refl refl role refl))

      between : (z : Entry) (Z : List Entry) → IsTail (z ∷ Z) low1 → IsTail low0 Z → is_move z.fact ≡ true → ⊥
      between z Z (inl same) below moves = false_is (sym (ap (λ (e : Entry). is_move e.fact) (same_head z lead Z low0 same)) ∙ moves)
      between z Z (inr stands) below moves = too_long low0 z Z stands below

  pub is_set : IsSet doc q y version s.lease low0
  is_set = by_led (leads q T) refl
    where
      by_led : (b : Bool) → leads q T ≡ b → IsSet doc q y version s.lease low0
      by_led true led = renewed led
      by_led false unled = led_anew unled
