-- The first reply to a call that waits, among those that come at a beat.
use Rattle.history_laws.proofs.Walk.{Coming}
use Rattle.std.proofs.lemmas.Bool.{eq-eqb}
use Rattle.std.specs.Prelude.{if◌then◌else◌}
use Rattle.std.proofs.Common.{◌≡◌, ℕ, ◌==◌, ◌&&◌, ◌||◌, not, Bool, true, false, cond, List, [], ◌∷◌, ◌++◌, Option, Some, None, refl, sym, ap, ◌∙◌, subst, inl, inr}
use Rattle.kube_objects.specs.declared.call.Reply.{Reply}
use Rattle.kube_objects.specs.declared.call.Request.{Request}
use Rattle.kube_objects.specs.Document.{Doc, is_controller}
use Rattle.kube_objects.specs.Elector.{Follow, Fails, Asks, Succeeds, follow_on, leads}
use Rattle.kube_objects.specs.Entry.{Entry, Identity, Call, Delivers, entry, Plain}
use Rattle.kube_objects.specs.Identities.{is_same}
use Rattle.kube_objects.specs.InFlight.{is_due, and_reply, replies_due}
use Rattle.kube_objects.specs.Kubelet.{next_request, send_next}
use Rattle.kube_objects.specs.Newest.{when, only_if, join}
use Rattle.kube_objects.specs.Process.{open_as, alive, last_call, call_in, is_present, is_late, answered_call, counted}
use Rattle.kube_objects.specs.Turns.{react, with_reply}
use Rattle.kube_objects.specs.Wire.{Back, back_of, next_call, send}
use Rattle.kube_objects.specs.Own.{ReleasesByStop}
use Rattle.history.proofs.Own.{react-own}
use Rattle.history.specs.Steps.{deliver_all, deliver_as, delivered, react_as}
use Rattle.history_laws.specs.Tails.{In, IsTail}
use Rattle.history_laws.proofs.Plainly.{upper, same_is, false_is}
use Rattle.history_laws.proofs.Tailed.{tail_all, tail_trans, deliver_adds}

module _ (doc : Doc) (k : ℕ) (q : Identity) (call : Call) where
  -- it is up and has this call
  pub record Waits (h : List Entry) : Type 0 where
    pub up : alive q.process h ≡ Some q.incarnation
    pub call_is : call_in q h ≡ Some call

  abbrev pub is_for : Back → Bool
  is_for b = is_same b.who q && (call.number == b.call.number)

  -- ---- what others cause leaves the call

  other_reply : (p : Identity) (c : Call) (reply : Reply) (h : List Entry) → is_same p q ≡ false → Waits h → Waits (with_reply k p c reply h)
  other_reply p c reply h other w = record { up = w.up; call_is = ap (λ b. join (upper (when b None) (last_call q h))) other ∙ w.call_is }

  other_send : (p : Identity) (request : Request) (h : List Entry) → is_same p q ≡ false → Waits h → Waits (send doc k 3 p Plain request h)
  other_send p request h other w = record { up = w.up; call_is = ap (λ b. join (upper (when b (open_as Plain (next_call p k Plain request h))) (last_call q h))) other ∙ w.call_is }

  other_follow : (p : Identity) (led : Bool) (f : Follow) (h : List Entry) → is_same p q ≡ false → Waits h → Waits (react doc k p led f h)
  other_follow p led Fails h other w = w
  other_follow p led (Asks request) h other w = other_send p request h other w
  other_follow p true (Succeeds version) h other w = w
  other_follow p false (Succeeds version) h other w = record { up = w.up; call_is = w.call_is }

  other_next : (p : Identity) (o : Option Request) (h : List Entry) → is_same p q ≡ false → Waits h → Waits (send_next doc k p o h)
  other_next p None h other w = w
  other_next p (Some request) h other w = other_send p request h other w

  other_react : ReleasesByStop doc → (p : Identity) (c : Call) (reply : Reply) (b : Bool) (h : List Entry) → is_same p q ≡ false → Waits h → Waits (react_as doc k p c reply b h)
  other_react own p c reply true h other w = subst Waits (sym (react-own doc own k p c reply h)) (other_follow p (leads p h) (follow_on doc p k c.kind c.request reply h) h other w)
  other_react own p c reply false h other w = other_next p (next_request doc p k c.request reply) h other w

  ignored : (p : Identity) (c : Call) (reply : Reply) (h : List Entry) → Waits h → Waits (entry k 3 p (Delivers c reply false) ∷ h)
  ignored p c reply h w = record { up = w.up; call_is = w.call_is }

  other_deliver : ReleasesByStop doc → (p : Identity) (c : Call) (reply : Reply) (o : Option Call) (h : List Entry) → is_same p q ≡ false → Waits h → Waits (deliver_as doc k p c reply o h)
  other_deliver own p c reply None h other w = ignored p c reply h w
  other_deliver own p c reply (Some waiting) h other w = other_react own p waiting reply (is_controller doc p.process) (with_reply k p waiting reply h) other (other_reply p waiting reply h other w)

  -- a reply to another call of its own doesn't count
  uncounted : (p : Identity) (n : ℕ) (h : List Entry) → p ≡ q → (call.number == n) ≡ false → Waits h → counted doc p k n h ≡ None
  uncounted p n h same other w =
      ap (λ p. counted doc p k n h) same
      ∙ ap (λ o. only_if (is_present (alive q.process h) q.incarnation) (answered_call doc q k n o)) w.call_is
      ∙ ap (λ b. only_if (is_present (alive q.process h) q.incarnation) (when (b && not (is_late doc q k call)) call)) other
      ∙ none (is_present (alive q.process h) q.incarnation)
    where
      none : (b : Bool) → only_if b (when (false && not (is_late doc q k call)) call) ≡ None
      none true = refl
      none false = refl

  passes_by : ReleasesByStop doc → (b : Back) (h : List Entry) → is_for b ≡ false → Waits h → Waits (delivered doc k b h)
  passes_by own b h other w = by_who (is_same b.who q) refl other
    where
      by_who : (t : Bool) → is_same b.who q ≡ t → (t && (call.number == b.call.number)) ≡ false → Waits (delivered doc k b h)
      by_who false differs other = other_deliver own b.who b.call b.reply (counted doc b.who k b.call.number h) h differs w
      by_who true same other =
          subst (λ o. Waits (deliver_as doc k b.who b.call b.reply o h)) (sym (uncounted b.who b.call.number h (same_is b.who q same) other w)) (ignored b.who b.call b.reply h w)

  -- ---- the first one

  abbrev pub any_for : List Back → Bool
  any_for [] = false
  any_for (b ∷ bs) = is_for b || any_for bs

  abbrev pub AllComing : (Back → Type 0) → List Back → Type 0
  AllComing R [] = Unit {0}
  AllComing R (b ∷ bs) = R b × AllComing R bs

  pub record First (R : Back → Type 0) (h all : List Entry) : Type 0 where
    pub b : Back
    pub right : R b
    pub mine : is_for b ≡ true
    pub before : List Entry
    pub low : IsTail h before
    pub waits : Waits before
    pub position : IsTail (delivered doc k b before) all

module _ (doc : Doc) (rules : ReleasesByStop doc) (k : ℕ) (q : Identity) (call : Call) (adds : (b : Back) (h : List Entry) → IsTail h (delivered doc k b h)) (adds_all : (bs : List Back) (h : List Entry) → IsTail h (deliver_all doc k bs h)) where
  pub first_for : (R : Back → Type 0) (bs : List Back) (h : List Entry) → Waits doc k q call h → AllComing doc k q call R bs → any_for doc k q call bs ≡ true → First doc k q call R h (deliver_all doc k bs h)
  first_for R [] h w right any = absurd (never any)
    where
      never : false ≡ true → ⊥
      never h = cc
  first_for R (b ∷ bs) h w right any = by_test (is_for doc k q call b) refl any (λ w any. first_for R bs (delivered doc k b h) w right.1 any)
    where
      by_test : (t : Bool) → is_for doc k q call b ≡ t → (t || any_for doc k q call bs) ≡ true
          → (Waits doc k q call (delivered doc k b h) → any_for doc k q call bs ≡ true → First doc k q call R (delivered doc k b h) (deliver_all doc k bs (delivered doc k b h)))
          → First doc k q call R h (deliver_all doc k (b ∷ bs) h)
      by_test true is any on = record { b = b; right = right.0; mine = is; before = h; low = tail_all h; waits = w; position = adds_all bs (delivered doc k b h) }
      by_test false is any on =
          let f = on (passes_by doc k q call rules b h is w) any in
          record { b = f.b; right = f.right; mine = f.mine; before = f.before; low = tail_trans h (delivered doc k b h) f.before (adds b h) f.low; waits = f.waits; position = f.position }

-- ---- the replies of a beat

pub delivered_adds : (doc : Doc) (k : ℕ) (b : Back) (h : List Entry) → IsTail h (delivered doc k b h)
delivered_adds doc k b h =
    subst (λ t. IsTail h (if t then delivered doc k b h else h)) (eq-eqb k k refl)
    (deliver_adds doc k (Some (record { who = b.who; call = b.call; reply = b.reply; comes = Some k })) h h (tail_all h))

pub deliveries_add : (doc : Doc) (k : ℕ) (bs : List Back) (h : List Entry) → IsTail h (deliver_all doc k bs h)
deliveries_add doc k [] h = tail_all h
deliveries_add doc k (b ∷ bs) h = tail_trans h (delivered doc k b h) (deliver_all doc k bs (delivered doc k b h)) (delivered_adds doc k b h) (deliveries_add doc k bs (delivered doc k b h))

module _ (doc : Doc) (k : ℕ) (q : Identity) (call : Call) (all : List Entry) where
  all_push : (bs : List Back) (b : Back) → AllComing doc k q call (Coming k all) bs → Coming k all b → AllComing doc k q call (Coming k all) (bs ++ b ∷ [])
  all_push [] b s new = (new, tt)
  all_push (x ∷ bs) b s new = (s.0, all_push bs b s.1 new)

  pub all_coming : (h : List Entry) → ((e : Entry) → In e h → In e all) → AllComing doc k q call (Coming k all) (replies_due k h)
  all_coming [] among = tt
  all_coming (e ∷ h) among = by_back (back_of e.actor e.fact) refl (all_coming h (λ x at. among x (inr at)))
    where
      by_due : (b : Back) → back_of e.actor e.fact ≡ Some b → (t : Bool) → is_due k b.comes ≡ t → AllComing doc k q call (Coming k all) (replies_due k h) → AllComing doc k q call (Coming k all) (cond t (replies_due k h ++ b ∷ []) (replies_due k h))
      by_due b is true now s = all_push (replies_due k h) b s (record { e = e; stands = among e (inl refl); is = is; now = now })
      by_due b is false now s = s

      by_back : (o : Option Back) → back_of e.actor e.fact ≡ o → AllComing doc k q call (Coming k all) (replies_due k h) → AllComing doc k q call (Coming k all) (and_reply k o (replies_due k h))
      by_back None is s = s
      by_back (Some b) is s = by_due b is (is_due k b.comes) refl s

  or_right : (a b : Bool) → b ≡ true → (a || b) ≡ true
  or_right true b is = refl
  or_right false b is = is

  any_old : (bs : List Back) (b : Back) → any_for doc k q call bs ≡ true → any_for doc k q call (bs ++ b ∷ []) ≡ true
  any_old [] b any = absurd (false_is any)
  any_old (x ∷ bs) b any = by_test (is_for doc k q call x) any (any_old bs b)
    where
      by_test : (t : Bool) → (t || any_for doc k q call bs) ≡ true → (any_for doc k q call bs ≡ true → any_for doc k q call (bs ++ b ∷ []) ≡ true) → (t || any_for doc k q call (bs ++ b ∷ [])) ≡ true
      by_test true any on = refl
      by_test false any on = on any

  any_new : (bs : List Back) (b : Back) → is_for doc k q call b ≡ true → any_for doc k q call (bs ++ b ∷ []) ≡ true
  any_new [] b mine = ap (λ t. t || false) mine
  any_new (x ∷ bs) b mine = or_right (is_for doc k q call x) (any_for doc k q call (bs ++ b ∷ [])) (any_new bs b mine)

  pub any_coming : (h : List Entry) (e : Entry) (b : Back) → In e h → back_of e.actor e.fact ≡ Some b → is_due k b.comes ≡ true → is_for doc k q call b ≡ true → any_for doc k q call (replies_due k h) ≡ true
  any_coming [] e b at is now mine = absurd at
  any_coming (x ∷ h) e b (inl same) is now mine =
      subst (λ o. any_for doc k q call (and_reply k o (replies_due k h)) ≡ true) (sym (ap (λ (e : Entry). back_of e.actor e.fact) (sym same) ∙ is))
      (subst (λ t. any_for doc k q call (cond t (replies_due k h ++ b ∷ []) (replies_due k h)) ≡ true) (sym now) (any_new (replies_due k h) b mine))
  any_coming (x ∷ h) e b (inr at) is now mine = by_back (back_of x.actor x.fact) (any_coming h e b at is now mine)
    where
      by_due : (b : Back) (t : Bool) → any_for doc k q call (replies_due k h) ≡ true → any_for doc k q call (cond t (replies_due k h ++ b ∷ []) (replies_due k h)) ≡ true
      by_due b true any = any_old (replies_due k h) b any
      by_due b false any = any

      by_back : (o : Option Back) → any_for doc k q call (replies_due k h) ≡ true → any_for doc k q call (and_reply k o (replies_due k h)) ≡ true
      by_back None any = any
      by_back (Some b) any = by_due b (is_due k b.comes) any
