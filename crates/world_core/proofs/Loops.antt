-- Layer 4, the steps of a beat: the loops, what has been taken so far, and what is left.
use Rattle.std.proofs.Common.{◌≡◌, ℕ, Bool, true, false, suc, ◌+◌, ◌-◌, ◌<◌, ◌++◌, not, List, [], ◌∷◌, Option, Some, None, length, refl, sym, ap, ◌∙◌, subst, arith}
use Rattle.std.specs.Prelude.{if◌then◌else◌}
use Rattle.kube_objects.specs.declared.call.Reply.{Reply}
use Rattle.kube_objects.specs.declared.deed.Actor.TheVariants as actor
use Rattle.kube_objects.specs.declared.deed.Deed.{Deed}
use Rattle.kube_objects.specs.declared.object.Object.{Object}
use Rattle.kube_objects.specs.Answers.{answer, written}
use Rattle.kube_objects.specs.Document.{Doc, is_controller, processes}
use Rattle.kube_objects.specs.Entry.{Entry, Identity, Call, Answers, entry, actor_of}
use Rattle.kube_objects.specs.Identities.{identity}
use Rattle.kube_objects.specs.Pauses.{is_paused}
use Rattle.kube_objects.specs.Stored.{write_of, request_write}
use Rattle.kube_objects.specs.Wire.{Sent, Back, reply_arrival}
use Rattle.history.specs.Printed.{deeds_of, answer_act}
use Rattle.history.specs.Steps.{answered, delivered, elector_turn, starts_below, ticks, turn, turns, controller_turn, kubelet_turn, unpaused_turn, answer_all, deliver_all}
use Rattle.object_store.specs.Stands.{StoreStands}
use Rattle.wire_calls.specs.declared.message.Sent as code_sent
use Rattle.wire_calls.specs.declared.message.Back as code_back
use Rattle.wire_calls.specs.InFlight.{first_of, rest_of}
use Rattle.wire_calls.specs.WireStands.{WireStands, next_sent, as_sent, next_back, as_back}
use Rattle.world_core.specs.declared.world.World.{World}
use Rattle.world_process.specs.InForce.{InForceStands}
use Rattle.world_process.specs.Moves.{own_turn_as}
use Rattle.world_process.specs.Plain.{IsKnown, IsFew, SentByKnown, BackToKnown}
use Rattle.world_core.specs.Worlds.{IsReady, SameDocument, Keeps, EachStands, MidBeat}
use Rattle.world_core.specs.Waits.{awake_turn, turn_if}
use Rattle.world_process.proofs.Grows.{Grows, grows-on, grows-same, grows-entry, grows-delivered, grows-more_starts, grows-more_turns, grows-ticks, few-before}
use Rattle.world_core.proofs.Known.{sent-later, back-later}
use Rattle.world_core.proofs.MidBeat.{Unmoved, doc-same, answered-running, same_document}

-- ---- requests

pub record Answering (doc : Doc) (k : ℕ) (before : List Deed) (arriving : List Sent) (coming : List Back) (h : List Entry) (w : World) (deeds : List Deed) : Type 0 where
  pub now : List Entry
  pub left : List Sent
  pub running : MidBeat doc k before left coming now w deeds
  pub known : SentByKnown (processes doc) now left
  pub same : answer_all doc k left now ≡ answer_all doc k arriving h

-- the store and the wire did what a request that arrived asks
pub record Serves (doc : Doc) (k : ℕ) (rest : List Sent) (coming : List Back) (h : List Entry) (deeds new : List Deed) (v : World) (r : Reply) (x : code_sent.Sent) : Type 0 where
  pub answers : r ≡ answer x.request h
  pub store : (e : Entry) → write_of e.fact ≡ request_write x.request (written x.request h) → StoreStands (e ∷ h) v.store
  pub wire : (q : Identity) (call : Call) (wrote : Option Object) → q ≡ identity x.who.0 x.incarnation → call.number ≡ x.number → q.process < processes doc → WireStands (processes doc) k rest coming (entry k 2 q (Answers call r (reply_arrival doc q.process k h) wrote) ∷ h) v.wire
  pub told : new ≡ deeds ++ deeds_of k (actor.Proc x.who x.incarnation) (answer_act x.request r)

serve-one : (doc : Doc) (k : ℕ) (before deeds new : List Deed) (s : Sent) (left rest : List Sent) (coming : List Back) (h : List Entry) (w v : World) (r : Reply) → MidBeat doc k before left coming h w deeds → IsKnown (processes doc) h s.who → Unmoved w v → v.in_force ≡ w.in_force →
    Serves doc k rest coming h deeds new v r (as_sent s) → MidBeat doc k before rest coming (answered doc k s h) v new
serve-one doc k before deeds new s left rest coming h w v r run known unmoved in_force serves =
    answered-running doc k before deeds new left rest coming s h w v run known unmoved in_force
    (serves.store (entry k 2 s.who (Answers s.call (answer s.call.request h) (reply_arrival doc s.who.process k h) (written s.call.request h))) refl)
    (subst (λ x. WireStands (processes doc) k rest coming (entry k 2 s.who (Answers s.call x (reply_arrival doc s.who.process k h) (written s.call.request h)) ∷ h) v.wire) serves.answers (serves.wire s.who s.call (written s.call.request h) refl refl known.within))
    (serves.told ∙ ap (λ x. deeds ++ deeds_of k (actor_of s.who) (answer_act s.call.request x)) serves.answers)

pub answering-more : (doc : Doc) (k : ℕ) (before deeds new : List Deed) (arriving : List Sent) (coming : List Back) (h : List Entry) (w v : World) (r : Reply) (x : code_sent.Sent) → (a : Answering doc k before arriving coming h w deeds) →
    next_sent (first_of a.left) ≡ Some x → Unmoved w v → v.in_force ≡ w.in_force → Serves doc k (rest_of a.left) coming a.now deeds new v r x → Answering doc k before arriving coming h v new
answering-more doc k before deeds new arriving coming h w v r x a first unmoved in_force serves = by_left a.left a.running a.known a.same first serves
  where
    by_left : (left : List Sent) → MidBeat doc k before left coming a.now w deeds → SentByKnown (processes doc) a.now left → answer_all doc k left a.now ≡ answer_all doc k arriving h → next_sent (first_of left) ≡ Some x →
        Serves doc k (rest_of left) coming a.now deeds new v r x → Answering doc k before arriving coming h v new
    by_left [] run known same first serves = cc
    by_left (s ∷ rest) run known same first serves =
        let is : x ≡ as_sent s = cc in
        record {
          now = answered doc k s a.now;
          left = rest;
          running = serve-one doc k before deeds new s (s ∷ rest) rest coming a.now w v r run known.0 unmoved in_force (subst (Serves doc k rest coming a.now deeds new v r) is serves);
          known = sent-later (processes doc) a.now (answered doc k s a.now) ((grows-entry (entry k 2 s.who (Answers s.call (answer s.call.request a.now) (reply_arrival doc s.who.process k a.now) (written s.call.request a.now))) a.now).starts) rest known.1;
          same = same;
        }

-- nothing is left
pub answering-done : (doc : Doc) (k : ℕ) (before deeds : List Deed) (arriving : List Sent) (coming : List Back) (h : List Entry) (w v : World) → (a : Answering doc k before arriving coming h w deeds) → next_sent (first_of a.left) ≡ None →
    (MidBeat doc k before a.left coming a.now w deeds → MidBeat doc k before (rest_of a.left) coming a.now v deeds) → MidBeat doc k before [] coming (answer_all doc k arriving h) v deeds
answering-done doc k before deeds arriving coming h w v a none taken = by_left a.left a.running a.same none taken
  where
    by_left : (left : List Sent) → MidBeat doc k before left coming a.now w deeds → answer_all doc k left a.now ≡ answer_all doc k arriving h → next_sent (first_of left) ≡ None →
        (MidBeat doc k before left coming a.now w deeds → MidBeat doc k before (rest_of left) coming a.now v deeds) → MidBeat doc k before [] coming (answer_all doc k arriving h) v deeds
    by_left [] run same none taken = subst (λ g. MidBeat doc k before [] coming g v deeds) same (taken run)
    by_left (s ∷ rest) run same none taken = cc

-- the wire gave something out
pub rewired : (doc : Doc) (k : ℕ) (before deeds : List Deed) (arriving left : List Sent) (coming rest : List Back) (h : List Entry) (w v : World) → Unmoved w v → v.in_force ≡ w.in_force → v.store ≡ w.store →
    WireStands (processes doc) k left rest h v.wire → MidBeat doc k before arriving coming h w deeds → MidBeat doc k before left rest h v deeds
rewired doc k before deeds arriving left coming rest h w v unmoved in_force store wire r =
    record {
      world = record {
        rest = record {
          document = doc-same doc k w v unmoved.same (ap (λ cs. length cs.items) unmoved.processes) r.world.rest.document;
          plain = r.world.rest.plain;
          store = subst (StoreStands h) (sym store) r.world.rest.store;
          wire = wire;
          in_force = subst (InForceStands doc h) (sym in_force) r.world.rest.in_force;
        };
        processes = subst (λ cs. EachStands doc h cs.items) (sym unmoved.processes) r.world.processes;
      };
      told = r.told;
    }

-- ---- replies

pub record Delivering (doc : Doc) (k : ℕ) (before : List Deed) (arriving : List Sent) (coming : List Back) (h : List Entry) (w : World) (deeds : List Deed) : Type 0 where
  pub now : List Entry
  pub left : List Back
  pub running : MidBeat doc k before arriving left now w deeds
  pub known : BackToKnown (processes doc) now left
  pub same : deliver_all doc k left now ≡ deliver_all doc k coming h

pub grows-deliver_all : (doc : Doc) (k : ℕ) (bs : List Back) (h : List Entry) → Grows h (deliver_all doc k bs h)
grows-deliver_all doc k [] h = grows-same h
grows-deliver_all doc k (b ∷ bs) h = grows-on h (delivered doc k b h) (deliver_all doc k bs (delivered doc k b h)) (grows-delivered doc k b h) (grows-deliver_all doc k bs (delivered doc k b h))

pub delivering-more : (doc : Doc) (k : ℕ) (before deeds new : List Deed) (arriving : List Sent) (coming : List Back) (h : List Entry) (w v : World) (x : code_back.Back) → (a : Delivering doc k before arriving coming h w deeds) → next_back (first_of a.left) ≡ Some x → IsFew (deliver_all doc k coming h) →
    ((b : Back) → x ≡ as_back b → IsKnown (processes doc) a.now b.who → IsFew (delivered doc k b a.now) → MidBeat doc k before arriving (rest_of a.left) (delivered doc k b a.now) v new) → Delivering doc k before arriving coming h v new
delivering-more doc k before deeds new arriving coming h w v x a first few delivers = by_left a.left a.known a.same first delivers
  where
    by_left : (left : List Back) → BackToKnown (processes doc) a.now left → deliver_all doc k left a.now ≡ deliver_all doc k coming h → next_back (first_of left) ≡ Some x →
        ((b : Back) → x ≡ as_back b → IsKnown (processes doc) a.now b.who → IsFew (delivered doc k b a.now) → MidBeat doc k before arriving (rest_of left) (delivered doc k b a.now) v new) → Delivering doc k before arriving coming h v new
    by_left [] known same first delivers = cc
    by_left (b ∷ rest) known same first delivers =
        let is : x ≡ as_back b = cc in
        let next = delivered doc k b a.now in
        let few_next = few-before next (deliver_all doc k rest next) (grows-deliver_all doc k rest next) (subst IsFew (sym same) few) in
        record {
          now = next;
          left = rest;
          running = delivers b is known.0 few_next;
          known = back-later (processes doc) a.now next ((grows-delivered doc k b a.now).starts) rest known.1;
          same = same;
        }

pub delivering-done : (doc : Doc) (k : ℕ) (before deeds : List Deed) (arriving : List Sent) (coming : List Back) (h : List Entry) (w v : World) → (a : Delivering doc k before arriving coming h w deeds) → next_back (first_of a.left) ≡ None →
    (MidBeat doc k before arriving a.left a.now w deeds → MidBeat doc k before arriving (rest_of a.left) a.now v deeds) → MidBeat doc k before arriving [] (deliver_all doc k coming h) v deeds
delivering-done doc k before deeds arriving coming h w v a none taken = by_left a.left a.running a.same none taken
  where
    by_left : (left : List Back) → MidBeat doc k before arriving left a.now w deeds → deliver_all doc k left a.now ≡ deliver_all doc k coming h → next_back (first_of left) ≡ None →
        (MidBeat doc k before arriving left a.now w deeds → MidBeat doc k before arriving (rest_of left) a.now v deeds) → MidBeat doc k before arriving [] (deliver_all doc k coming h) v deeds
    by_left [] run same none taken = subst (λ g. MidBeat doc k before arriving [] g v deeds) same (taken run)
    by_left (b ∷ rest) run same none taken = cc

-- ---- what each turn of a loop keeps

pub same-on : (u w v : World) → SameDocument u w → SameDocument w v → SameDocument u v
same-on u w v a b =
    record {
      beat = b.beat ∙ a.beat;
      end = b.end ∙ a.end;
      restart = b.restart ∙ a.restart;
      epoch = b.epoch ∙ a.epoch;
      micros = b.micros ∙ a.micros;
      events = b.events ∙ a.events;
      names = b.names ∙ a.names;
      controllers = b.controllers ∙ a.controllers;
      stalls = b.stalls ∙ a.stalls;
    }

pub keeps-on : (u w v : World) → Keeps u w → Keeps w v → Keeps u v
keeps-on u w v a b = record { ready = b.ready; same = same-on u w v a.same b.same; place = b.place ∙ a.place; count = b.count ∙ a.count }

pub keeps-same : (w : World) → IsReady w → Keeps w w
keeps-same w ready = record { ready = ready; same = same_document; place = refl; count = refl }

pub few-starts : (doc : Doc) (i n : ℕ) (h : List Entry) → i < n → IsFew (starts_below doc n h) → IsFew (starts_below doc (suc i) h)
few-starts doc i n h less few =
    let all : suc i + (n - suc i) ≡ n = omega (arith, less) in
    few-before (starts_below doc (suc i) h) (starts_below doc n h) (subst (λ m. Grows (starts_below doc (suc i) h) (starts_below doc m h)) all (grows-more_starts doc (suc i) (n - suc i) h)) few

pub few-own : (doc : Doc) (k p : ℕ) (h : List Entry) → IsFew (turn doc k p h) → IsFew (awake_turn doc k p h)
few-own doc k p h few = by_pause (is_paused doc p k) few
  where
    by_sort : (b : Bool) → IsFew (if b then controller_turn doc k p h else kubelet_turn doc k p h) → IsFew (own_turn_as doc k p b h)
    by_sort true few = let g = elector_turn doc k p h in few-before g (ticks doc k p g) (grows-ticks doc k p g) few
    by_sort false few = few

    by_pause : (b : Bool) → IsFew (if b then h else unpaused_turn doc k p h) → IsFew (turn_if doc k p (not b) h)
    by_pause true few = few
    by_pause false few = by_sort (is_controller doc p) few

pub few-turns : (doc : Doc) (k i n : ℕ) (h : List Entry) → i < n → IsFew (turns doc k n h) → IsFew (turns doc k (suc i) h)
few-turns doc k i n h less few =
    let all : suc i + (n - suc i) ≡ n = omega (arith, less) in
    few-before (turns doc k (suc i) h) (turns doc k n h) (subst (λ m. Grows (turns doc k (suc i) h) (turns doc k m h)) all (grows-more_turns doc k (suc i) (n - suc i) h)) few
