-- Layer 4, the steps of a beat: a whole beat.
use Rattle.std.proofs.Common.{◌≡◌, ℕ, zero, suc, ◌+◌, ◌≤◌, ◌<◌, ◌==◌, ◌++◌, Bool, true, false, cond, List, [], ◌∷◌, refl, sym, ap, ◌∙◌, subst, add-one, arith}
use Rattle.std.proofs.lemmas.Bool.Decides.{nat_tests}
use Rattle.kube_objects.specs.Answers.{answer}
use Rattle.kube_objects.specs.Document.{Doc, processes, is_up_first}
use Rattle.kube_objects.specs.Entry.{Entry}
use Rattle.kube_objects.specs.InFlight.{requests_due, replies_due, is_due}
use Rattle.kube_objects.specs.Pauses.{held_up, resume}
use Rattle.kube_objects.specs.Stalls.{at_store, awake}
use Rattle.kube_objects.proofs.Pauses.{resume_later}
use Rattle.kube_objects.proofs.Stalls.{awake_later}
use Rattle.kube_objects.specs.Wire.{Sent, reply_delay, loses_replies, arrival, reply_arrival}
use Rattle.history.specs.History.{beat, three_steps}
use Rattle.history.specs.Steps.{start_first, starts_below, first_starts, step_one, answered, turns, answer_all, deliver_all}
use Rattle.beat_laws.specs.Unticked.{IsUnticked}
use Rattle.beat_laws.proofs.Unticked.{beat_unticked, steps_unticked}
use Rattle.wire_calls.proofs.Frames.{wire-next-beat}
use Rattle.world_core.specs.declared.world.World.{World}
use Rattle.world_process.specs.Plain.{IsFew}
use Rattle.world_core.specs.Worlds.{AreInTime, IsPlaced, WorldStands, WorldWithin}
use Rattle.world_process.proofs.Grows.{Grows, grows-on, grows-same, grows-entry, grows-happen_all, grows-turns, few-before}
use Rattle.world_core.proofs.InTime.{in-time-later, steps-in-time, turns-in-time}
use Rattle.world_core.proofs.Loops.{grows-deliver_all}

-- ---- starts send nothing

requests-start : (k j p : ℕ) (b : Bool) (h : List Entry) → requests_due j (start_first p b h) ≡ requests_due j h
requests-start k j p true h = refl
requests-start k j p false h = refl

replies-start : (k j p : ℕ) (b : Bool) (h : List Entry) → replies_due j (start_first p b h) ≡ replies_due j h
replies-start k j p true h = refl
replies-start k j p false h = refl

requests-below : (doc : Doc) (j n : ℕ) (h : List Entry) → requests_due j (starts_below doc n h) ≡ requests_due j h
requests-below doc j zero h = refl
requests-below doc j (suc p) h = requests-start 0 j p (is_up_first doc p) (starts_below doc p h) ∙ requests-below doc j p h

replies-below : (doc : Doc) (j n : ℕ) (h : List Entry) → replies_due j (starts_below doc n h) ≡ replies_due j h
replies-below doc j zero h = refl
replies-below doc j (suc p) h = replies-start 0 j p (is_up_first doc p) (starts_below doc p h) ∙ replies-below doc j p h

pub requests-starts : (doc : Doc) (k j : ℕ) (h : List Entry) → requests_due j (first_starts doc k h) ≡ requests_due j h
requests-starts doc zero j h = requests-below doc j (processes doc) h
requests-starts doc (suc k) j h = refl

pub replies-starts : (doc : Doc) (k j : ℕ) (h : List Entry) → replies_due j (first_starts doc k h) ≡ replies_due j h
replies-starts doc zero j h = replies-below doc j (processes doc) h
replies-starts doc (suc k) j h = refl

-- ---- what is answered at a beat comes back later

never-later : (k n : ℕ) → k < n → (n == k) ≡ false
never-later k n later = grind (arith, nat_tests)

-- also where it waits for who is paused
held_later : (doc : Doc) (p k : ℕ) (lost : Bool) (delay : ℕ) → 1 ≤ delay → is_due k (held_up doc p (arrival lost k delay)) ≡ false
held_later doc p k true delay later = refl
held_later doc p k false delay later =
    let from = resume_later doc p (k + delay) in
    never-later k (resume doc p (k + delay)) (omega (arith, later, from))

-- what is asked arrives later, also where it waits for the store
pub stalled_later : (doc : Doc) (k : ℕ) (lost : Bool) (delay : ℕ) → 1 ≤ delay → is_due k (at_store doc (arrival lost k delay)) ≡ false
stalled_later doc k true delay later = refl
stalled_later doc k false delay later =
    let from = awake_later doc (k + delay) in
    never-later k (awake doc (k + delay)) (omega (arith, later, from))

replies-answered : (doc : Doc) (k : ℕ) (s : Sent) (h : List Entry) → 1 ≤ reply_delay s.who.process h → replies_due k (answered doc k s h) ≡ replies_due k h
replies-answered doc k s h later = ap (λ b. cond b (replies_due k h ++ record { who = s.who; call = s.call; reply = answer s.call.request h; comes = reply_arrival doc s.who.process k h } ∷ []) (replies_due k h)) (held_later doc s.who.process k (loses_replies s.who.process h) (reply_delay s.who.process h) later)

pub replies-answers : (doc : Doc) (k : ℕ) (ss : List Sent) (h : List Entry) → ((p : ℕ) → 1 ≤ reply_delay p h) → replies_due k (answer_all doc k ss h) ≡ replies_due k h
replies-answers doc k [] h later = refl
replies-answers doc k (s ∷ ss) h later = replies-answers doc k ss (answered doc k s h) later ∙ replies-answered doc k s h (later s.who.process)

grows-answer_all : (doc : Doc) (k : ℕ) (ss : List Sent) (h : List Entry) → Grows h (answer_all doc k ss h)
grows-answer_all doc k [] h = grows-same h
grows-answer_all doc k (s ∷ ss) h = grows-on h (answered doc k s h) (answer_all doc k ss (answered doc k s h)) (grows-entry _ h) (grows-answer_all doc k ss (answered doc k s h))

-- ---- the beat

abbrev pub one : Doc → ℕ → List Entry → List Entry
one doc k h = step_one doc k h

abbrev pub two : Doc → ℕ → List Entry → List Entry
two doc k h = answer_all doc k (requests_due k (one doc k h)) (one doc k h)

abbrev pub three : Doc → ℕ → List Entry → List Entry
three doc k h = deliver_all doc k (replies_due k (two doc k h)) (two doc k h)

pub beat-is : (doc : Doc) (k : ℕ) (h : List Entry) → beat doc h k ≡ turns doc k (processes doc) (three doc k h)
beat-is doc k h = refl

pub three-is : (doc : Doc) (k : ℕ) (h : List Entry) → three_steps doc k h ≡ three doc k h
three-is doc k h = refl

pub few-three : (doc : Doc) (k : ℕ) (h : List Entry) → IsFew (turns doc k (processes doc) (three doc k h)) → IsFew (three doc k h)
few-three doc k h few = few-before (three doc k h) (turns doc k (processes doc) (three doc k h)) (grows-turns doc k (processes doc) (three doc k h)) few

pub few-one : (doc : Doc) (k : ℕ) (h : List Entry) → IsFew (three doc k h) → IsFew (one doc k h)
few-one doc k h few =
    few-before (one doc k h) (three doc k h) (grows-on (one doc k h) (two doc k h) (three doc k h) (grows-answer_all doc k (requests_due k (one doc k h)) (one doc k h)) (grows-deliver_all doc k (replies_due k (two doc k h)) (two doc k h))) few

pub few-starts : (doc : Doc) (k : ℕ) (h : List Entry) → IsFew (one doc k h) → IsFew (first_starts doc k h)
few-starts doc k h few = few-before (first_starts doc k h) (one doc k h) (grows-happen_all doc k doc.events (first_starts doc k h)) few

-- ---- nothing of a tick is on top

pub unticked-three : (doc : Doc) (k : ℕ) (h : List Entry) → IsUnticked k h → IsUnticked k (three doc k h)
unticked-three doc k h s = subst (IsUnticked k) (three-is doc k h) (steps_unticked doc k h s)

pub unticked-next : (doc : Doc) (k : ℕ) (h : List Entry) → IsUnticked k h → IsUnticked (k + 1) (turns doc k (processes doc) (three doc k h))
unticked-next doc k h s = subst (λ n. IsUnticked n (turns doc k (processes doc) (three doc k h))) (sym (add-one k)) (subst (IsUnticked (suc k)) (beat-is doc k h) (beat_unticked doc k h s))

-- ---- entries stand in the order of their beats

pub in-time-three : (doc : Doc) (k : ℕ) (h : List Entry) → AreInTime k h → AreInTime k (three doc k h)
in-time-three doc k h s = subst (AreInTime k) (three-is doc k h) (steps-in-time doc k h s)

pub in-time-next : (doc : Doc) (k : ℕ) (h : List Entry) → AreInTime k h → AreInTime (k + 1) (turns doc k (processes doc) (three doc k h))
in-time-next doc k h s =
    in-time-later k (k + 1) (turns doc k (processes doc) (three doc k h)) (omega arith) (turns-in-time doc k (processes doc) (three doc k h) (in-time-three doc k h s))

-- the next beat begins
pub world-next : (doc : Doc) (k : ℕ) (h : List Entry) (w : World) → WorldWithin doc k [] [] h w → IsPlaced doc (k + 1) w.place → IsUnticked (k + 1) h → AreInTime (k + 1) h → WorldStands doc (k + 1) h (record w { beat = record { 0 = w.beat.0 + 1 } })
world-next doc k h w s placed unticked timely =
    let d = s.rest.document in
    record {
      within = record {
        rest = record {
          document = record { at = ap (λ n. n + 1) d.at; restart = d.restart; count = d.count; epoch = d.epoch; micros = d.micros; events = d.events; controllers = d.controllers; stalls = d.stalls };
          plain = s.rest.plain;
          store = s.rest.store;
          wire = wire-next-beat (processes doc) k h w.wire s.rest.wire;
          in_force = s.rest.in_force;
        };
        processes = s.processes;
      };
      placed = placed;
      unticked = unticked;
      in_time = timely;
    }
