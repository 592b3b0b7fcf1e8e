-- What follows a counted reply in its beat; and who leads doesn't come to lead again.
use Rattle.std.proofs.Common.{◌≡◌, ◌⊎◌, ℕ, suc, Bool, true, false, List, [], ◌∷◌, Option, Some, None, refl, sym, ap, ◌∙◌, subst, inl, inr, ⊎_elim, arith}
use Rattle.kube_base.specs.declared.numbers.Version.{Version}
use Rattle.kube_objects.specs.declared.call.Reply.{Reply}
use Rattle.kube_objects.specs.declared.call.Request.{Request}
use Rattle.kube_objects.specs.Document.{Doc, processes, is_controller}
use Rattle.kube_objects.specs.Elector.{Follow, Fails, Asks, Succeeds, follow_on, leads}
use Rattle.kube_objects.specs.Entry.{Entry, Identity, Call, Fact, Delivers, Leads, actor_of, entry}
use Rattle.kube_objects.specs.InFlight.{replies_due}
use Rattle.kube_objects.specs.Kubelet.{next_request, send_next}
use Rattle.kube_objects.specs.Process.{counted}
use Rattle.kube_objects.specs.Turns.{react}
use Rattle.kube_objects.specs.Wire.{Back}
use Rattle.kube_objects.specs.Own.{ReleasesByStop}
use Rattle.history.proofs.Own.{react-own}
use Rattle.history.specs.History.{history}
use Rattle.history.specs.Steps.{deliver_all, deliver_as, delivered, react_as, step_three}
use Rattle.history_laws.specs.Tails.{IsTail}
use Rattle.history_laws.proofs.Plainly.{true_is}
use Rattle.history_laws.proofs.Tailed.{tail_all, tail_trans, tails_meet, same_head, same_rest}
use Rattle.history_laws.proofs.Walk.{Anyone, all_turns, all_release_turns, walk_any_turns}
use Rattle.call_laws.specs.Answering.{with_answers}
use Rattle.call_laws.proofs.Above.{Above, above_all, above_meet, in_head, tail_length}
use Rattle.call_laws.proofs.Answering.{deliveries_position}
use Rattle.call_laws.proofs.Placing.{within_answers, in_own_beat}
use Rattle.call_laws.proofs.Starting.{actor_is}
use Rattle.takeover_laws.proofs.Deliveries.{deliveries_add}
use Rattle.takeover_laws.proofs.Asking.{call_or, reply_or}
use Rattle.calm_laws.proofs.Added.{leads_by}

-- ---- an entry of step 3 is among the deliveries of its beat

abbrev pub three : Doc → ℕ → List Entry
three doc k = step_three doc k (with_answers doc k)

four_above : (doc : Doc) (k : ℕ) → Above (λ e. e.step ≡ 4) (three doc k) (history doc (suc k))
four_above doc k =
    walk_any_turns doc (λ j h. Above (λ e. e.step ≡ 4) (three doc k) h) (all_turns doc Anyone (λ j h. Above (λ e. e.step ≡ 4) (three doc k) h) (λ j x h beat step next s. inr (step, s)))
    (all_release_turns doc (λ j h. Above (λ e. e.step ≡ 4) (three doc k) h) (λ j x h beat step next s. inr (step, s))) k (processes doc) (three doc k)
    (above_all (λ e. e.step ≡ 4) (three doc k))

-- the reply whose delivery an entry is from
record From (doc : Doc) (k : ℕ) (x : Entry) (T all : List Entry) : Type 0 where
  b : Back
  h : List Entry
  stands : IsTail (x ∷ T) (delivered doc k b h)
  new : IsTail (x ∷ T) h → ⊥
  position : IsTail (delivered doc k b h) all

shorter : (x : Entry) (T g : List Entry) → IsTail g T → IsTail (x ∷ T) g → ⊥
shorter x T g low at = omega (arith, tail_length g T low, tail_length (x ∷ T) g at)

split : (doc : Doc) (k : ℕ) (x : Entry) (T : List Entry) (bs : List Back) (h : List Entry) → (IsTail (x ∷ T) h → ⊥) → IsTail (x ∷ T) (deliver_all doc k bs h) → From doc k x T (deliver_all doc k bs h)
split doc k x T [] h new at = absurd (new at)
split doc k x T (b ∷ bs) h new at =
    by_place (tails_meet (x ∷ T) (delivered doc k b h) (deliver_all doc k bs (delivered doc k b h)) at (deliveries_add doc k bs (delivered doc k b h))) (λ newer. split doc k x T bs (delivered doc k b h) newer at)
  where
    here : IsTail (x ∷ T) (delivered doc k b h) → From doc k x T (deliver_all doc k bs (delivered doc k b h))
    here at = record { b = b; h = h; stands = at; new = new; position = deliveries_add doc k bs (delivered doc k b h) }

    by_place : IsTail (x ∷ T) (delivered doc k b h) ⊎ IsTail (delivered doc k b h) (x ∷ T) → ((IsTail (x ∷ T) (delivered doc k b h) → ⊥) → From doc k x T (deliver_all doc k bs (delivered doc k b h)))
        → From doc k x T (deliver_all doc k bs (delivered doc k b h))
    by_place (inl at) on = here at
    by_place (inr (inl is)) on = here (subst (IsTail (x ∷ T)) (sym is) (tail_all (x ∷ T)))
    by_place (inr (inr low)) on = on (shorter x T (delivered doc k b h) low)

pub in_three : (doc : Doc) (m : ℕ) (x : Entry) (T : List Entry) → IsTail (x ∷ T) (history doc m) → x.step ≡ 3 → IsTail (x ∷ T) (three doc x.beat)
in_three doc m x T at step = by_place (above_meet (λ e. e.step ≡ 4) (three doc k) (x ∷ T) (history doc (suc k)) (four_above doc k) (in_own_beat doc m x T at))
  where
    k : ℕ
    k = x.beat

    by_place : Above (λ e. e.step ≡ 4) (three doc k) (x ∷ T) ⊎ IsTail (x ∷ T) (three doc k) → IsTail (x ∷ T) (three doc k)
    by_place (inr at) = at
    by_place (inl (inl is)) = subst (IsTail (x ∷ T)) (sym is) (tail_all (x ∷ T))
    by_place (inl (inr above)) = absurd (omega (arith, above.0, step))

from_three : (doc : Doc) (m : ℕ) (x : Entry) (T : List Entry) → IsTail (x ∷ T) (history doc m) → x.step ≡ 3 → From doc x.beat x T (history doc (suc x.beat))
from_three doc m x T at step = higher (split doc k x T (replies_due k two) two early (in_three doc m x T at step))
  where
    k : ℕ
    k = x.beat

    two : List Entry
    two = with_answers doc k

    early : IsTail (x ∷ T) two → ⊥
    early at = ⊎_elim (λ lt. omega (arith, lt)) (λ same. omega (arith, same.1, step)) (within_answers doc k x (in_head x T two at))

    higher : From doc k x T (three doc k) → From doc k x T (history doc (suc k))
    higher s = record { b = s.b; h = s.h; stands = s.stands; new = s.new; position = tail_trans (delivered doc k s.b s.h) (three doc k) (history doc (suc k)) s.position (deliveries_position doc k) }

-- ---- a counted reply is followed by what it asks for

abbrev is_delivery : Fact → Bool
is_delivery (Delivers call reply counted) = true
is_delivery _ = false

abbrev is_counted : Fact → Bool
is_counted (Delivers call reply counted) = counted
is_counted _ = false

-- what comes above the reply is no delivery
reply_stands : (doc : Doc) (k : ℕ) (q : Identity) (led : Bool) (f : Follow) (R : List Entry) (x : Entry) (T : List Entry) → is_delivery x.fact ≡ true → IsTail (x ∷ T) (react doc k q led f R) → IsTail (x ∷ T) R
reply_stands doc k q led Fails R x T is at = at
reply_stands doc k q led (Asks request) R x T is (inl same) = absurd (true_is (sym is ∙ ap (λ (e : Entry). is_delivery e.fact) (same_head x _ T R same)))
reply_stands doc k q led (Asks request) R x T is (inr at) = at
reply_stands doc k q true (Succeeds version) R x T is at = at
reply_stands doc k q false (Succeeds version) R x T is (inl same) = absurd (true_is (sym is ∙ ap (λ (e : Entry). is_delivery e.fact) (same_head x _ T R same)))
reply_stands doc k q false (Succeeds version) R x T is (inr at) = at

next_stands : (doc : Doc) (k : ℕ) (q : Identity) (o : Option Request) (R : List Entry) (x : Entry) (T : List Entry) → is_delivery x.fact ≡ true → IsTail (x ∷ T) (send_next doc k q o R) → IsTail (x ∷ T) R
next_stands doc k q None R x T is at = at
next_stands doc k q (Some request) R x T is (inl same) = absurd (true_is (sym is ∙ ap (λ (e : Entry). is_delivery e.fact) (same_head x _ T R same)))
next_stands doc k q (Some request) R x T is (inr at) = at

abbrev pub reacted : Doc → ℕ → Identity → Call → Reply → List Entry → List Entry
reacted doc k q w reply h = react doc k q (leads q h) (follow_on doc q k w.kind w.request reply h) h

pub replies_follow : (doc : Doc) → ReleasesByStop doc → (m : ℕ) (q : Identity) (x : Entry) (T : List Entry) (w : Call) (reply : Reply) → IsTail (x ∷ T) (history doc m) → x.step ≡ 3 → x.actor ≡ actor_of q → is_controller doc q.process ≡ true → x.fact ≡ Delivers w reply true
    → IsTail (reacted doc x.beat q w reply (x ∷ T)) (history doc (suc x.beat))
replies_follow doc rules m q x T w reply at step actor role fact = cases (counted doc s.b.who k s.b.call.number s.h) s.stands s.position
  where
    k : ℕ
    k = x.beat

    all : List Entry
    all = history doc (suc k)

    s : From doc k x T all
    s = from_three doc m x T at step

    p : Identity
    p = s.b.who

    delivery : is_delivery x.fact ≡ true
    delivery = ap is_delivery fact

    cases : (o : Option Call) → IsTail (x ∷ T) (deliver_as doc k p s.b.call s.b.reply o s.h) → IsTail (deliver_as doc k p s.b.call s.b.reply o s.h) all → IsTail (reacted doc k q w reply (x ∷ T)) all
    cases None (inl same) position = absurd (true_is (sym (ap is_counted fact) ∙ ap (λ (e : Entry). is_counted e.fact) (same_head x _ T s.h same)))
    cases None (inr old) position = absurd (s.new old)
    cases (Some v) stands position = by_role (is_controller doc p.process) refl stands position
      where
        e : Entry
        e = entry k 3 p (Delivers v s.b.reply true)

        R : List Entry
        R = e ∷ s.h

        is_reply : IsTail (x ∷ T) R → x ∷ T ≡ R
        is_reply (inl same) = same
        is_reply (inr old) = absurd (s.new old)

        mine : x ∷ T ≡ R → p ≡ q
        mine same = actor_is p q (sym (ap (λ (e : Entry). e.actor) (same_head x e T s.h same)) ∙ actor)

        whole : x ∷ T ≡ R → IsTail (reacted doc k p v s.b.reply R) all → IsTail (reacted doc k q w reply (x ∷ T)) all
        whole same position =
            subst (λ r. IsTail (reacted doc k q w r (x ∷ T)) all) (sym (ap (λ (e : Entry). reply_or reply e.fact) head) ∙ ap (reply_or reply) fact)
            (subst (λ c. IsTail (reacted doc k q c s.b.reply (x ∷ T)) all) (sym (ap (λ (e : Entry). call_or w e.fact) head) ∙ ap (call_or w) fact)
            (subst (λ p. IsTail (reacted doc k p v s.b.reply (x ∷ T)) all) (mine same)
            (subst (λ g. IsTail (reacted doc k p v s.b.reply g) all) (sym same) position)))
          where
            head : x ≡ e
            head = same_head x e T s.h same

        by_role : (b : Bool) → is_controller doc p.process ≡ b → IsTail (x ∷ T) (react_as doc k p v s.b.reply b R) → IsTail (react_as doc k p v s.b.reply b R) all → IsTail (reacted doc k q w reply (x ∷ T)) all
        by_role true is stands position =
            whole (is_reply (reply_stands doc k p (leads p R) (follow_on doc p k v.kind v.request s.b.reply R) R x T delivery (subst (IsTail (x ∷ T)) same stands)))
            (subst (λ g. IsTail g all) same position)
          where
            same : react_as doc k p v s.b.reply true R ≡ reacted doc k p v s.b.reply R
            same = react-own doc rules k p v s.b.reply R
        by_role false is stands position =
            let same = is_reply (next_stands doc k p (next_request doc p k v.request s.b.reply) R x T delivery stands) in
            absurd (true_is (sym role ∙ ap (λ (p : Identity). is_controller doc p.process) (sym (mine same)) ∙ is))

-- ---- who comes to lead

abbrev is_lead : Fact → Bool
is_lead (Leads version) = true
is_lead _ = false

-- who comes to lead didn't lead before
pub leads_are_new : (doc : Doc) → ReleasesByStop doc → (m : ℕ) (q : Identity) (x : Entry) (T : List Entry) (version : Version) → IsTail (x ∷ T) (history doc m) → x.actor ≡ actor_of q → x.fact ≡ Leads version → leads q T ≡ false
leads_are_new doc rules m q x T version at actor fact = cases (counted doc p k s.b.call.number s.h) s.stands
  where
    k : ℕ
    k = x.beat

    s : From doc k x T (history doc (suc k))
    s = from_three doc m x T at ((leads_by doc rules m x T version at fact).step_is)

    p : Identity
    p = s.b.who

    lead : is_lead x.fact ≡ true
    lead = ap is_lead fact

    other : (e : Entry) (R : List Entry) → is_lead e.fact ≡ false → x ∷ T ≡ e ∷ R → leads q T ≡ false
    other e R none same = absurd (true_is (sym lead ∙ ap (λ (e : Entry). is_lead e.fact) (same_head x e T R same) ∙ none))

    reply : (v : Call) → IsTail (x ∷ T) (entry k 3 p (Delivers v s.b.reply true) ∷ s.h) → leads q T ≡ false
    reply v (inl same) = other (entry k 3 p (Delivers v s.b.reply true)) s.h refl same
    reply v (inr old) = absurd (s.new old)

    by_led : (v : Call) (new : Version) (led : Bool) → leads p (entry k 3 p (Delivers v s.b.reply true) ∷ s.h) ≡ led
        → IsTail (x ∷ T) (react doc k p led (Succeeds new) (entry k 3 p (Delivers v s.b.reply true) ∷ s.h)) → leads q T ≡ false
    by_led v new true led stands = reply v stands
    by_led v new false led (inr below) = reply v below
    by_led v new false led (inl same) = ap (λ g. leads q g) rest ∙ ap (λ p. leads p (entry k 3 s.b.who (Delivers v s.b.reply true) ∷ s.h)) (sym mine) ∙ led
      where
        rest : T ≡ entry k 3 p (Delivers v s.b.reply true) ∷ s.h
        rest = same_rest x _ T (entry k 3 p (Delivers v s.b.reply true) ∷ s.h) same

        mine : p ≡ q
        mine = actor_is p q (sym (ap (λ (e : Entry). e.actor) (same_head x _ T (entry k 3 p (Delivers v s.b.reply true) ∷ s.h) same)) ∙ actor)

    by_follow : (v : Call) (f : Follow) → IsTail (x ∷ T) (react doc k p (leads p (entry k 3 p (Delivers v s.b.reply true) ∷ s.h)) f (entry k 3 p (Delivers v s.b.reply true) ∷ s.h)) → leads q T ≡ false
    by_follow v Fails stands = reply v stands
    by_follow v (Asks request) (inl same) = other _ (entry k 3 p (Delivers v s.b.reply true) ∷ s.h) refl same
    by_follow v (Asks request) (inr below) = reply v below
    by_follow v (Succeeds new) stands = by_led v new (leads p (entry k 3 p (Delivers v s.b.reply true) ∷ s.h)) refl stands

    by_next : (v : Call) (o : Option Request) → IsTail (x ∷ T) (send_next doc k p o (entry k 3 p (Delivers v s.b.reply true) ∷ s.h)) → leads q T ≡ false
    by_next v None stands = reply v stands
    by_next v (Some request) (inl same) = other _ (entry k 3 p (Delivers v s.b.reply true) ∷ s.h) refl same
    by_next v (Some request) (inr below) = reply v below

    cases : (o : Option Call) → IsTail (x ∷ T) (deliver_as doc k p s.b.call s.b.reply o s.h) → leads q T ≡ false
    cases None (inl same) = other _ s.h refl same
    cases None (inr old) = absurd (s.new old)
    cases (Some v) stands = by_role (is_controller doc p.process) stands
      where
        R : List Entry
        R = entry k 3 p (Delivers v s.b.reply true) ∷ s.h

        by_role : (b : Bool) → IsTail (x ∷ T) (react_as doc k p v s.b.reply b R) → leads q T ≡ false
        by_role true stands = by_follow v (follow_on doc p k v.kind v.request s.b.reply R) (subst (IsTail (x ∷ T)) (react-own doc rules k p v s.b.reply R) stands)
        by_role false stands = by_next v (next_request doc p k v.request s.b.reply) stands
