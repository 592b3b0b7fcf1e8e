-- The entry that a waiting call, or a timer, is from.
use Rattle.std.proofs.Common.{◌≡◌, ◌≤◌, ◌<◌, ℕ, ◌==◌, true, List, [], ◌∷◌, length, Option, Some, None, refl, sym, ap, ◌∙◌, subst, inl, inr, arith}
use Rattle.std.proofs.lemmas.Bool.{eqb-true}
use Rattle.kube_objects.specs.declared.deed.Actor.{Actor}
use Rattle.kube_objects.specs.declared.deed.Actor.TheVariants as actors
use Rattle.kube_objects.specs.Document.{Doc}
use Rattle.kube_objects.specs.Elector.{timer_says, timer}
use Rattle.kube_objects.specs.Entry.{Entry, Identity, Call, CallKind, Release, Fact, Sends, Delivers, Expires, actor_of, ReleaseBegins}
use Rattle.kube_objects.specs.Identities.{is_by}
use Rattle.kube_objects.specs.Newest.{newest, join, or_zero}
use Rattle.kube_objects.specs.Process.{open_as, call_says, last_call, call_in}
use Rattle.history_laws.specs.Tails.{IsTail}
use Rattle.history_laws.proofs.Counting.{when_test, when_value}
use Rattle.history_laws.proofs.Plainly.{upper, some_is, none_is, false_is, and_left, and_right}
use Rattle.history_laws.proofs.Tailed.{tail_all, tail_trans, tail_of_empty, same_head}
use Rattle.call_laws.proofs.Above.{tail_length}

pub by_is : (q : Identity) (who : Actor) → is_by q who ≡ true → who ≡ actor_of q
by_is q actors.Script is = absurd (false_is is)
by_is q (actors.Proc id i) is =
    ap (λ (n : ℕ). actors.Proc (record { 0 = n }) i) (eqb-true id.0 q.process (and_left (id.0 == q.process) (i == q.incarnation) is))
    ∙ ap (λ (n : ℕ). actors.Proc (record { 0 = q.process }) n) (eqb-true i q.incarnation (and_right (id.0 == q.process) (i == q.incarnation) is))

opens_same : (kind : CallKind) (c call : Call) → open_as kind c ≡ Some call → c ≡ call
opens_same Release c call is = absurd (none_is call is)
opens_same kind c call is = some_is c call is

-- the call that waits was sent, and its sender's call has been the same since
pub record Begun (q : Identity) (call : Call) (h : List Entry) : Type 0 where
  pub f : Entry
  pub before : List Entry
  pub arrives : Option ℕ
  pub position : IsTail (f ∷ before) h
  pub actor : f.actor ≡ actor_of q
  pub fact : f.fact ≡ Sends call arrives
  pub sent : call_in q (f ∷ before) ≡ Some call
  pub opens : open_as call.kind call ≡ Some call
  pub alone : (z : Entry) (Z : List Entry) → IsTail (z ∷ Z) h → IsTail (f ∷ before) Z → call_says q z.actor z.fact ≡ None

pub record SaysCall (q : Identity) (call : Call) (who : Actor) (d : Fact) : Type 0 where
  pub arrives : Option ℕ
  pub mine : who ≡ actor_of q
  pub fact : d ≡ Sends call arrives
  pub opens : open_as call.kind call ≡ Some call

said : (q : Identity) (call : Call) (who : Actor) (d : Fact) → call_says q who d ≡ Some (Some call) → SaysCall q call who d
said q call who (Sends c arrives) is =
    let opens = when_value (is_by q who) (open_as c.kind c) (Some call) is in
    let same = opens_same c.kind c call opens in
    record {
      arrives = arrives;
      mine = by_is q who (when_test (is_by q who) (open_as c.kind c) (Some call) is);
      fact = ap (λ c. Sends c arrives) same;
      opens = ap (λ (d : Call). open_as call.kind d) (sym same) ∙ subst (λ (d : Call). open_as d.kind c ≡ Some call) same opens;
    }
said q call who (Delivers c reply true) is = absurd (none_is call (when_value (is_by q who) None (Some call) is))
said q call who (Expires c) is = absurd (none_is call (when_value (is_by q who) None (Some call) is))
said q call who (ReleaseBegins at_deadline) is = absurd (none_is call (when_value (is_by q who) None (Some call) is))
said q call who d is = absurd (none_is (Some call) is)

pub begun_by : (q : Identity) (h : List Entry) (call : Call) → call_in q h ≡ Some call → Begun q call h
begun_by q [] call is = absurd (none_is call is)
begun_by q (x ∷ h) call is = by_says (call_says q x.actor x.fact) refl is (λ older. begun_by q h call older)
  where
    here : SaysCall q call x.actor x.fact → Begun q call (x ∷ h)
    here s = record {
      f = x;
      before = h;
      arrives = s.arrives;
      position = inl refl;
      actor = s.mine;
      fact = s.fact;
      sent = is;
      opens = s.opens;
      alone = λ z Z at below. longer z Z (tail_length (z ∷ Z) (x ∷ h) at) (tail_length (x ∷ h) Z below);
    }
      where
        longer : (z : Entry) (Z : List Entry) → length (z ∷ Z) ≤ length (x ∷ h) → length (x ∷ h) ≤ length Z → call_says q z.actor z.fact ≡ None
        longer z Z a b = absurd (omega (arith, a, b))

    later : call_says q x.actor x.fact ≡ None → Begun q call h → Begun q call (x ∷ h)
    later none b = record {
      f = b.f;
      before = b.before;
      arrives = b.arrives;
      position = inr b.position;
      actor = b.actor;
      fact = b.fact;
      sent = b.sent;
      opens = b.opens;
      alone = λ z Z at below. by_place z Z at below;
    }
      where
        by_place : (z : Entry) (Z : List Entry) → IsTail (z ∷ Z) (x ∷ h) → IsTail (b.f ∷ b.before) Z → call_says q z.actor z.fact ≡ None
        by_place z Z (inl same) below = subst (λ (z : Entry). call_says q z.actor z.fact ≡ None) (sym (same_head z x Z h same)) none
        by_place z Z (inr at) below = b.alone z Z at below

    by_says : (o : Option (Option Call)) → call_says q x.actor x.fact ≡ o → join (upper o (last_call q h)) ≡ Some call → (call_in q h ≡ Some call → Begun q call h) → Begun q call (x ∷ h)
    by_says None none is on = later none (on is)
    by_says (Some None) says is on = absurd (none_is call is)
    by_says (Some (Some c)) says is on = here (said q call x.actor x.fact (says ∙ ap Some is))

-- at each position between, the same call waits
pub waits_between : (q : Identity) (call : Call) (h : List Entry) (b : Begun q call h) (g : List Entry) → IsTail (b.f ∷ b.before) g → IsTail g h → call_in q g ≡ Some call
waits_between q call h b [] low high = absurd (tail_of_empty b.f b.before low)
waits_between q call h b (x ∷ g) (inl is) high = subst (λ g. call_in q g ≡ Some call) is b.sent
waits_between q call h b (x ∷ g) (inr low) high =
    ap (λ o. join (upper o (last_call q g))) (b.alone x g high low) ∙ waits_between q call h b g low (tail_trans g (x ∷ g) h (inr (tail_all g)) high)

-- ---- timers

pub record Timed (doc : Doc) (q : Identity) (h : List Entry) : Type 0 where
  pub x : Entry
  pub before : List Entry
  pub position : IsTail (x ∷ before) h
  pub says : timer_says doc q x before x.fact ≡ Some (timer doc q h)

pub timed_by : (doc : Doc) (q : Identity) (h : List Entry) → 0 < timer doc q h → Timed doc q h
timed_by doc q [] set = absurd (omega (arith, set))
timed_by doc q (x ∷ h) set = by_says (timer_says doc q x h x.fact) refl set (λ older. timed_by doc q h older)
  where
    by_says : (o : Option ℕ) → timer_says doc q x h x.fact ≡ o → 0 < or_zero (upper o (newest (λ e T. timer_says doc q e T e.fact) h)) → (0 < timer doc q h → Timed doc q h) → Timed doc q (x ∷ h)
    by_says None none set on = by_older (on set)
      where
        by_older : Timed doc q h → Timed doc q (x ∷ h)
        by_older s = record { x = s.x; before = s.before; position = inr s.position; says = s.says ∙ ap (λ o. Some (or_zero (upper o (newest (λ e T. timer_says doc q e T e.fact) h)))) (sym none) }
    by_says (Some at) is set on =
        record { x = x; before = h; position = inl refl; says = is ∙ ap (λ o. Some (or_zero (upper o (newest (λ e T. timer_says doc q e T e.fact) h)))) (sym is) }
