-- An answer of the store keeps what is known of how long controllers have waited.
use Rattle.std.proofs.Common.{◌≡◌, ◌≤◌, ℕ, ◌==◌, Bool, true, false, cond, List, ◌∷◌, Option, Some, None, IfSome, refl, sym, ap, ◌∙◌, subst, inl, inr, arith}
use Rattle.std.proofs.lemmas.Bool.{eqb-true}
use Rattle.kube_base.specs.declared.numbers.Version.{Version}
use Rattle.kube_objects.specs.declared.call.Reply.{Reply}
use Rattle.kube_objects.specs.declared.call.Reply.TheVariants.{Done, Conflict}
use Rattle.kube_objects.specs.declared.call.Request.{Request}
use Rattle.kube_objects.specs.declared.call.Request.TheVariants.{Get, Create, Update, PostStatus}
use Rattle.kube_objects.specs.declared.key.Key.{Key}
use Rattle.kube_objects.specs.declared.key.Kind.TheVariants as kind
use Rattle.kube_objects.specs.declared.lease.Lease.{Lease}
use Rattle.kube_objects.specs.declared.object.Object.{Object}
use Rattle.kube_objects.specs.declared.object.Object.TheVariants as object
use Rattle.kube_objects.specs.Answers.{if_done, answer_over, written_over, answer, written}
use Rattle.kube_objects.specs.Document.{Doc, is_controller}
use Rattle.kube_objects.specs.Elector.{succeeds, lead_says, deadline}
use Rattle.kube_objects.specs.Entry.{Entry, Identity, Call, CallKind, Answers, actor_of, entry}
use Rattle.kube_objects.specs.InFlight.{is_due}
use Rattle.kube_objects.specs.Keys.{key_eq}
use Rattle.kube_objects.specs.Newest.{join, when}
use Rattle.kube_objects.specs.Pauses.{held_up}
use Rattle.kube_objects.specs.Stored.{Held, election, key_of, request_write, at_key, holds, last_write, stored, next_version}
use Rattle.kube_objects.specs.Wire.{arrival, reply_delay, loses_replies, reply_arrival, Sent, Back, sent_of, back_of}
use Rattle.kube_objects.proofs.Pauses.{resume_later}
use Rattle.history.specs.Steps.{answered}
use Rattle.history_laws.proofs.Plainly.{upper, for_new, false_is}
use Rattle.history_laws.proofs.Walk.{Arriving}
use Rattle.lease_laws.proofs.EachKind.{top_stays}
use Rattle.lease_laws.proofs.Invariant.{view, Fit, OnTop, Safe, Asked, SentRight, Inv}
use Rattle.gap_laws.proofs.Waits.{Slow, Late, Arrives, WaitedFor, BaseWaited, SentWell, Topped, Took, Answered, Tops, TopsOrPut, LedFrom, Waits, each_position, Moves}
use Rattle.gap_laws.proofs.Steps.{sends_more, shown_more, term_more, sent_given}

-- the answer to a call of q at beat k
abbrev back_at : Identity → Call → Reply → Option ℕ → Back
back_at q c reply at = record { who = q; call = c; reply = reply; comes = at }

-- what an answer leaves
record Left (doc : Doc) (w : Slow) (k : ℕ) (h : List Entry) (q : Identity) (c : Call) (reply : Reply) (at : Option ℕ) (wrote : Option Object) : Type 0 where
  tops : Tops doc (entry k 2 q (Answers c reply at wrote)) h
  took : is_controller doc q.process ≡ true → succeeds c.request reply ≡ true → Topped doc (entry k 2 q (Answers c reply at wrote)) h × Took doc w (back_at q c reply at) k h

-- a new version is written
abbrev made : ℕ → List Entry → Identity → Lease → Held
made k h q lease = record { version = next_version h; object = object.Lease lease; beat = k; by = Some q }

topped_by : (doc : Doc) (k : ℕ) (h : List Entry) (q : Identity) (c : Call) (at : Option ℕ) (lease : Lease) → is_controller doc q.process ≡ true → succeeds c.request (Done (next_version h)) ≡ true → key_of c.request ≡ election → Fit doc c.kind q lease
    → Topped doc (entry k 2 q (Answers c (Done (next_version h)) at (Some (object.Lease lease)))) h
topped_by doc k h q c at lease role so key fit = record {
  b = back_at q c (Done (next_version h)) at;
  is = refl;
  role = role;
  so = so;
  x = made k h q lease;
  top = ap (λ key. join (upper (holds h k (actor_of q) (at_key election (Some (key, Some (object.Lease lease))))) (last_write election h))) key;
  version = refl;
  beat = refl;
  by = refl;
  actor = refl;
  write = ap (λ key. at_key election (Some (key, Some (object.Lease lease)))) key;
  lease = lease;
  object = refl;
  fit = fit;
}

no_node : kind.Node ≡ kind.Lease → ⊥
no_node h = cc

left_by : (doc : Doc) (w : Slow) (high k : ℕ) (h : List Entry) (q : Identity) (number d : ℕ) (way : CallKind) (at : Option ℕ) → is_controller doc q.process ≡ true → Arrives w q.process d way k
    → (t : Option Held) → stored election h ≡ t → (request : Request) → Asked doc high (view h) q d way request → BaseWaited doc w q d t request
    → Left doc w k h q (record { number = number; request = request; sent = d; kind = way }) (answer_over (next_version h) t request) at (written_over t request (answer_over (next_version h) t request))
left_by doc w high k h q number d way at role comes t is (Get key) asked base = record { tops = inl refl; took = λ role so. absurd (false_is so) }
left_by doc w high k h q number d way at role comes None is (Create key lease) asked base =
    subst (λ key. Left doc w k h q (record { number = number; request = Create key lease; sent = d; kind = way }) (Done (next_version h)) at (Some (object.Lease lease))) (sym asked.key)
    (record {
      tops = inr (topped_by doc k h q (record { number = number; request = Create election lease; sent = d; kind = way }) at lease role refl refl asked.fit);
      took = λ role so. (topped_by doc k h q (record { number = number; request = Create election lease; sent = d; kind = way }) at lease role refl refl asked.fit, record { version = refl; after = comes; base = subst (λ t. IfSome t (λ y. (y.beat ≤ d) × WaitedFor doc w q d y)) (sym is) tt });
    })
left_by doc w high k h q number d way at role comes (Some y) is (Create key lease) asked base = record { tops = inl refl; took = λ role so. absurd (false_is so) }
left_by doc w high k h q number d way at role comes None is (Update key v lease) asked base = record { tops = inl refl; took = λ role so. absurd (false_is so) }
left_by doc w high k h q number d way at role comes (Some y) is (Update key v lease) asked base = by_test (y.version.0 == v.0) refl
  where
    by_test : (b : Bool) → (y.version.0 == v.0) ≡ b
        → Left doc w k h q (record { number = number; request = Update key v lease; sent = d; kind = way }) (cond b (Done (next_version h)) (Conflict y.version)) at (if_done (cond b (Done (next_version h)) (Conflict y.version)) (object.Lease lease))
    by_test true same =
        let safe : Safe doc high q d y = subst (λ t. OnTop t v (Safe doc high q d)) is asked.base.1 (eqb-true y.version.0 v.0 same) in
        subst (λ key. Left doc w k h q (record { number = number; request = Update key v lease; sent = d; kind = way }) (Done (next_version h)) at (Some (object.Lease lease))) (sym asked.key)
        (record {
          tops = inr (topped_by doc k h q (record { number = number; request = Update election v lease; sent = d; kind = way }) at lease role refl refl asked.fit);
          took = λ role so. (topped_by doc k h q (record { number = number; request = Update election v lease; sent = d; kind = way }) at lease role refl refl asked.fit, record { version = refl; after = comes; base = subst (λ t. IfSome t (λ y. (y.beat ≤ d) × WaitedFor doc w q d y)) (sym is) (omega (arith, safe.0), base (eqb-true y.version.0 v.0 same)) });
        })
    by_test false same = record { tops = inl refl; took = λ role so. absurd (false_is so) }
left_by doc w high k h q number d way at role comes t is (PostStatus name status time) asked base = absurd (no_node (ap (λ (x : Key). x.kind) asked.key))

-- a request on another key
written_elsewhere : (r : Request) (wrote : Option Object) → key_eq (key_of r) election ≡ false → at_key election (request_write r wrote) ≡ None
written_elsewhere r None other = refl
written_elsewhere r (Some x) other = ap (λ b. when b (Some x)) other

left_elsewhere : (doc : Doc) (w : Slow) (k : ℕ) (h : List Entry) (q : Identity) (c : Call) (reply : Reply) (at : Option ℕ) (wrote : Option Object) → is_controller doc q.process ≡ false → key_eq (key_of c.request) election ≡ false → Left doc w k h q c reply at wrote
left_elsewhere doc w k h q c reply at wrote role other = record {
  tops = inl (top_stays (entry k 2 q (Answers c reply at wrote)) h (written_elsewhere c.request wrote other));
  took = λ is so. absurd (false_is (sym role ∙ is));
}

left_of : (doc : Doc) (w : Slow) (high k : ℕ) (h : List Entry) (s : Sent) (at : Option ℕ) → SentRight doc high k (view h) s → SentWell doc w h s → Arrives w s.who.process s.call.sent s.call.kind k → Left doc w k h s.who s.call (answer s.call.request h) at (written s.call.request h)
left_of doc w high k h s at right well comes = by_role (is_controller doc s.who.process) refl
  where
    by_role : (b : Bool) → is_controller doc s.who.process ≡ b → Left doc w k h s.who s.call (answer s.call.request h) at (written s.call.request h)
    by_role true role =
        let asked = right.may.controller role in
        subst (λ key. Left doc w k h s.who s.call (answer_over (next_version h) (stored key h) s.call.request) at (written_over (stored key h) s.call.request (answer_over (next_version h) (stored key h) s.call.request))) (sym asked.key)
        (left_by doc w high k h s.who s.call.number s.call.sent s.call.kind at role comes (stored election h) refl s.call.request asked (well.base role))
    by_role false role = left_elsewhere doc w k h s.who s.call (answer s.call.request h) at (written s.call.request h) role (right.may.kubelet role)

-- ---- the reply's way

held_late : (doc : Doc) (w : Slow) (p k : ℕ) (o : Option ℕ) → IfSome o (Late w p k) → IfSome (held_up doc p o) (Late w p k)
held_late doc w p k None late = tt
held_late doc w p k (Some t) late = (omega (arith, late.0, resume_later doc p t), λ is from. omega (arith, late.1 is from, resume_later doc p t))

arrives_now : (w : Slow) (p s k : ℕ) (way : CallKind) (o : Option ℕ) → is_due k o ≡ true → IfSome o (Arrives w p s way) → Arrives w p s way k
arrives_now w p s k way None now late = absurd (false_is now)
arrives_now w p s k way (Some t) now late = subst (Arrives w p s way) (eqb-true t k now) late

moves_of : (doc : Doc) (x : Entry) (h : List Entry) → Tops doc x h → Moves x h
moves_of doc x h (inl same) = inl same
moves_of doc x h (inr top) = inr (top.x, top.top, let e = ap (λ (v : Version). v.0) top.version in omega (arith, e))

pub keep_answers : (doc : Doc) (w : Slow) (high k : ℕ) (s : Sent) (h : List Entry) → Arriving k h s → Inv doc high k h → (s.who.process ≡ w.who → w.from ≤ k → w.least ≤ reply_delay s.who.process h)
    → Waits doc w k h → Waits doc w k (answered doc k s h)
keep_answers doc w high k s h arriving inv slow r =
    record {
      shown = λ q role. shown_more doc w high k x h moves inv r q role;
      seen = r.seen;
      sends = for_new (λ e. IfSome (sent_of e.actor e.fact) (SentWell doc w (x ∷ h))) x h tt (sends_more doc w high k x h moves inv r);
      backs = for_new (λ e. IfSome (back_of e.actor e.fact) (λ b. IfSome b.comes (Late w b.who.process e.beat))) x h (held_late doc w s.who.process k _ (late (loses_replies s.who.process h))) r.backs;
      answers = each_position (Answered doc w) x h left.took r.answers;
      tops = each_position (TopsOrPut doc) x h (inr left.tops) r.tops;
      leads = each_position (λ f T. (q : Identity) → IfSome (lead_says q f.actor f.fact) (LedFrom w q f.beat T)) x h (λ q. tt) r.leads;
      terms = λ p role. term_more doc w k x h p (deadline doc p h) (r.terms p role);
    }
  where
    at : Option ℕ
    at = reply_arrival doc s.who.process k h

    x : Entry
    x = entry k 2 s.who (Answers s.call (answer s.call.request h) (reply_arrival doc s.who.process k h) (written s.call.request h))

    well : SentWell doc w h s
    well = subst (λ o. IfSome o (SentWell doc w h)) arriving.is (r.sends arriving.e arriving.stands)

    left : Left doc w k h s.who s.call (answer s.call.request h) (reply_arrival doc s.who.process k h) (written s.call.request h)
    left = left_of doc w high k h s (reply_arrival doc s.who.process k h) (sent_given doc high k h inv arriving.e arriving.stands s arriving.is) well (arrives_now w s.who.process s.call.sent k s.call.kind s.arrives arriving.now well.arrives)

    moves : Moves x h
    moves = moves_of doc x h left.tops

    least : 1 ≤ reply_delay s.who.process h
    least = (inv.core.delays s.who.process).1

    late : (b : Bool) → IfSome (arrival b k (reply_delay s.who.process h)) (Late w s.who.process k)
    late true = tt
    late false = (omega (arith, least), λ is from. omega (arith, slow is from))
