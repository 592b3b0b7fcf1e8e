-- Layer 1, lists, ranges and places: the world with one process written back.
use Rattle.std.proofs.Common.{◌≡◌, ℕ, ◌<◌, ◌≤◌, Option, Result, Ok, Err, OnOk, Some, slice_get, slice_index_or, vec_len, ap, ◌∙◌, subst, arith}
use Rattle.std.proofs.lemmas.Option.{slice_get_read}
use Rattle.beat_tree.specs.Leaves.{room}
use Rattle.kube_base.specs.declared.numbers.ProcId.{ProcId}
use Rattle.kube_objects.specs.declared.call.Ask.{Ask}
use Rattle.kube_objects.specs.declared.deed.Actor.{Actor}
use Rattle.kube_objects.specs.declared.deed.Actor.TheVariants as actor
use Rattle.kube_objects.specs.Document.{Doc, processes}
use Rattle.kube_objects.specs.Entry.{actor_of}
use Rattle.kube_objects.specs.Identities.{identity}
use Rattle.pause_times.specs.declared.stalls.Stalls.{Stalls}
use Rattle.wire_calls.specs.declared.wire.Wire.{Wire}
use Rattle.world_process.specs.declared.process.Process.{Process}
use Rattle.world_core.specs.declared.world.World.{World}
use Rattle.world_process.specs.Processes.{clock_of, incarnation_of, me_of}
use Rattle.world_core.specs.Worlds.{IsReady, DocStands, SendsAsked}

-- the process that a place reads
pub read-at : (w : World) (i : ℕ) (c : Process) → i < vec_len w.processes → c ≡ slice_index_or w.processes.items i c → slice_get w.processes.items i ≡ Some c
read-at w i c within is = slice_get_read w.processes.items (vec_len w.processes) i c w.processes.ok.0 within is

pub within-end : (w : World) (i : ℕ) (c : Process) → IsReady w → w.beat.0 ≤ w.end.0 → slice_get w.processes.items i ≡ Some c → w.beat.0 ≤ (clock_of c).end
within-end w i c ready within was = let e = ready.clocks i c was in omega (arith, e, within)

pub within-processes : (doc : Doc) (k : ℕ) (w : World) (i : ℕ) → DocStands doc k w → i < vec_len w.processes → i < processes doc
within-processes doc k w i s within = let count = s.count in let len = w.processes.ok.0 in omega (arith, count, len, within)

-- a process has its leaf
pub room-for : (w : World) (i : ℕ) → IsReady w → i < vec_len w.processes → i < room w.turn_beats
room-for w i ready within = let most = ready.noted.room in let len = w.processes.ok.0 in omega (arith, within, most, len)

-- the actor that a process names
pub actor-is : (p : ℕ) (x : Process) (who : Actor) → who ≡ actor.Proc (me_of x) (incarnation_of x) → (me_of x).0 ≡ p → who ≡ actor_of (identity p (incarnation_of x))
actor-is p x who is me = is ∙ ap (λ (n : ℕ). let id : ProcId = record { 0 = n } in actor.Proc id (incarnation_of x)) me

-- what the wire did with what a process asks
pub sends-as : (k now i incarnation : ℕ) (who : ProcId) (x : Process) (ask : Option Ask) (stalls : Stalls) (old new : Wire) → now ≡ k → who ≡ me_of x → incarnation ≡ incarnation_of x → (me_of x).0 ≡ i → SendsAsked now (identity who.0 incarnation) ask stalls old new →
    SendsAsked k (identity i (incarnation_of x)) ask stalls old new
sends-as k now i incarnation who x ask stalls old new at who_is incarnation_is me sends =
    subst (λ n. SendsAsked n (identity i (incarnation_of x)) ask stalls old new) at
    (subst (λ n. SendsAsked now (identity i n) ask stalls old new) incarnation_is
    (subst (λ n. SendsAsked now (identity n incarnation) ask stalls old new) (ap (λ p. p.0) who_is ∙ me) sends))

pub on-ok : {A E : Type 0} (r : Result A E) (P Q : Type 0) → (P → Q) → OnOk r P → OnOk r Q
on-ok (Ok x) P Q f p = f p
on-ok (Err e) P Q f p = tt
