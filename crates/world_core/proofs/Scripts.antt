-- Layer 3, the world around one process: the world through an entry of the script.
use Rattle.std.proofs.Common.{◌≡◌, ℕ, ◌<◌, ◌++◌, ◌&&◌, not, Bool, true, false, List, ◌∷◌, Option, Some, None, length, length-append, refl, sym, ap, ◌∙◌, subst, append_assoc, arith}
use Rattle.std.proofs.lemmas.List.{append-nil}
use Rattle.kube_base.specs.declared.numbers.ProcId.{ProcId}
use Rattle.kube_base.specs.declared.numbers.Version.{Version}
use Rattle.kube_objects.specs.declared.call.Ask.{Ask}
use Rattle.kube_objects.specs.declared.deed.Act.TheVariants as act
use Rattle.kube_objects.specs.declared.deed.Actor.TheVariants as actor
use Rattle.kube_objects.specs.declared.deed.Deed.{Deed}
use Rattle.kube_objects.specs.declared.script.What.{What}
use Rattle.kube_objects.specs.declared.script.What.TheVariants as what
use Rattle.kube_objects.specs.Document.{Doc, processes, is_controller}
use Rattle.kube_objects.specs.Entry.{Entry, Event, Crashes, Stalls, entry, script_entry, actor_of}
use Rattle.kube_objects.specs.Identities.{identity}
use Rattle.kube_objects.specs.Newest.{when}
use Rattle.kube_objects.specs.Pauses.{is_paused}
use Rattle.kube_objects.specs.Process.{alive, cancels}
use Rattle.kube_objects.specs.Stored.{write_of}
use Rattle.kube_objects.specs.Wire.{Sent, Back}
use Rattle.history.specs.Printed.{printed, deeds_of, event_act}
use Rattle.history.specs.Steps.{start_if_down, crash, stall, happens}
use Rattle.object_store.proofs.Keeps.{store-beside}
use Rattle.object_store.specs.Stands.{StoreStands}
use Rattle.wire_calls.specs.WireStands.{WireStands, is_of_wire}
use Rattle.wire_calls.proofs.Frames.{wire-beside}
use Rattle.world_process.specs.declared.process.Process.{Process}
use Rattle.world_core.specs.declared.world.World.{World}
use Rattle.world_process.specs.Processes.{ProcessStands, AsksIn, incarnation_of}
use Rattle.world_process.specs.InForce.{InForceStands}
use Rattle.world_core.specs.Worlds.{EachStands, MidBeat, SendsAsked}
use Rattle.world_core.proofs.Around.{Around, around-own, around-started, alive-known, rest-own}
use Rattle.world_process.proofs.Forces.{sets_standing, in_force-beside}
use Rattle.world_process.proofs.Names.{lt-from, eq-isnt}
use Rattle.world_process.proofs.Plainly.{known-later}
use Rattle.world_process.proofs.Processes.{process-event, process-stalled}
use Rattle.world_process.proofs.Scripted.{plain-script}
use Rattle.world_core.proofs.MidBeat.{Moved, Unmoved, doc-same, within-asked, within-moved, told-more, unmoved}

pub controller-within : (doc : Doc) (p : ℕ) → is_controller doc p ≡ true → p < processes doc
controller-within doc p is = let less = lt-from p (length doc.controllers) is in omega (arith, less, length-append doc.controllers doc.kubelets)

-- ---- an event that leaves each controller as it is

-- its entry with its version
abbrev pub scripted : ℕ → What → Option Version → List Entry → List Entry
scripted k event version h = script_entry k 1 (Event event version) ∷ h

pub running-event : (doc : Doc) (k : ℕ) (before deeds new : List Deed) (arriving : List Sent) (coming : List Back) (h : List Entry) (w v : World) (event : What) (version : Option Version) → MidBeat doc k before arriving coming h w deeds →
    ((p : ℕ) → cancels doc p k event ≡ false) → Unmoved w v → InForceStands doc (scripted k event version h) v.in_force → StoreStands (scripted k event version h) v.store → WireStands (processes doc) k arriving coming (scripted k event version h) v.wire →
    new ≡ deeds ++ deeds_of k actor.Script (event_act event version) → MidBeat doc k before arriving coming (scripted k event version h) v new
running-event doc k before deeds new arriving coming h w v event version r beside unmoved in_force store wire new_is =
    record {
      world = record {
        rest = record {
          document = doc-same doc k w v unmoved.same (ap (λ cs. length cs.items) unmoved.processes) r.world.rest.document;
          plain = plain-script (processes doc) k 1 (Event event version) h r.world.rest.plain;
          store = store;
          wire = wire;
          in_force = in_force;
        };
        processes = subst (λ cs. EachStands doc (scripted k event version h) cs.items) (sym unmoved.processes) (λ p c is. process-event doc p k 1 event version h c (beside p) (r.world.processes p c is));
      };
      told = ap (λ ds. before ++ ds) new_is ∙ sym (append_assoc before deeds (deeds_of k actor.Script (event_act event version))) ∙ ap (λ ds. ds ++ deeds_of k actor.Script (event_act event version)) r.told;
    }

-- it changes nothing in the world and is not printed
pub running-plain : (doc : Doc) (k : ℕ) (before deeds : List Deed) (arriving : List Sent) (coming : List Back) (h : List Entry) (w : World) (event : What) → MidBeat doc k before arriving coming h w deeds → is_of_wire (Event event None) ≡ false → write_of (Event event None) ≡ None → sets_standing event ≡ false →
    event_act event None ≡ None → ((p : ℕ) → cancels doc p k event ≡ false) → MidBeat doc k before arriving coming (scripted k event None h) w deeds
running-plain doc k before deeds arriving coming h w event r wire write standing untold beside =
    let e = script_entry k 1 (Event event None) in
    running-event doc k before deeds deeds arriving coming h w w event None r beside unmoved (in_force-beside doc e h w.in_force standing r.world.rest.in_force)
    (store-beside h e w.store r.world.rest.store write) (wire-beside (processes doc) k arriving coming h e w.wire wire r.world.rest.wire)
    (sym (append-nil deeds) ∙ ap (λ a. deeds ++ deeds_of k actor.Script a) (sym untold))

-- ---- an event on a controller

around-event : (doc : Doc) (k i : ℕ) (arriving : List Sent) (coming : List Back) (event : What) (h : List Entry) (w : World) → is_of_wire (Event event None) ≡ false → write_of (Event event None) ≡ None → sets_standing event ≡ false → ((p : ℕ) → ¬ (p ≡ i) → cancels doc p k event ≡ false) →
    Around doc k i arriving coming h w → Around doc k i arriving coming (scripted k event None h) w
around-event doc k i arriving coming event h w wire write standing beside a =
    record {
      rest = record {
        document = a.rest.document;
        plain = plain-script (processes doc) k 1 (Event event None) h a.rest.plain;
        store = store-beside h (script_entry k 1 (Event event None)) w.store a.rest.store write;
        wire = wire-beside (processes doc) k arriving coming h (script_entry k 1 (Event event None)) w.wire wire a.rest.wire;
        in_force = in_force-beside doc (script_entry k 1 (Event event None)) h w.in_force standing a.rest.in_force;
      };
      others = λ p c other is. process-event doc p k 1 event None h c (beside p other) (a.others p c other is);
    }

apart : (i p : ℕ) → ¬ (p ≡ i) → ¬ (i ≡ p)
apart i p other = λ same. other (sym same)

pub around-crash : (doc : Doc) (k : ℕ) (id : ProcId) (arriving : List Sent) (coming : List Back) (h : List Entry) (w : World) → id.0 < processes doc → Around doc k id.0 arriving coming h w → Around doc k id.0 arriving coming (happens doc k (what.Crash id) h) w
around-crash doc k id arriving coming h w within a = by_life (alive id.0 h) refl
  where
    g : List Entry
    g = scripted k (what.Crash id) None h

    base : Around doc k id.0 arriving coming g w
    base = around-event doc k id.0 arriving coming (what.Crash id) h w refl refl refl (λ p other. eq-isnt id.0 p (apart id.0 p other)) a

    by_life : (up : Option ℕ) → alive id.0 h ≡ up → Around doc k id.0 arriving coming (crash k id.0 up g) w
    by_life None is = base
    by_life (Some i) is =
        let known = known-later (processes doc) (script_entry k 1 (Event (what.Crash id) None)) h (identity id.0 i) (alive-known (processes doc) id.0 i h a.rest.plain within is) in
        around-own doc k id.0 k 1 arriving coming (identity id.0 i) Crashes g w refl refl (known-later (processes doc) (entry k 1 (identity id.0 i) Crashes) g (identity id.0 i) known) base

pub around-begin : (doc : Doc) (k : ℕ) (id : ProcId) (arriving : List Sent) (coming : List Back) (h : List Entry) (w : World) → id.0 < processes doc → Around doc k id.0 arriving coming h w → Around doc k id.0 arriving coming (happens doc k (what.Start id) h) w
around-begin doc k id arriving coming h w within a = by_life (alive id.0 h)
  where
    g : List Entry
    g = scripted k (what.Start id) None h

    base : Around doc k id.0 arriving coming g w
    base = around-event doc k id.0 arriving coming (what.Start id) h w refl refl refl (λ p other. eq-isnt id.0 p (apart id.0 p other)) a

    by_life : (up : Option ℕ) → Around doc k id.0 arriving coming (start_if_down k 1 id.0 up g) w
    by_life None = around-started doc k id.0 k 1 arriving coming g w within base
    by_life (Some i) = base

pub around-stop : (doc : Doc) (k : ℕ) (id : ProcId) (arriving : List Sent) (coming : List Back) (h : List Entry) (w : World) → Around doc k id.0 arriving coming h w → Around doc k id.0 arriving coming (scripted k (what.Stop id) None h) w
around-stop doc k id arriving coming h w a =
    around-event doc k id.0 arriving coming (what.Stop id) h w refl refl refl (λ p other. ap (λ b. b && not (is_paused doc p k)) (eq-isnt id.0 p (apart id.0 p other))) a

-- ---- pauses

-- a pause is told of a process that is up
pub running-stalled : (doc : Doc) (k : ℕ) (before deeds new : List Deed) (arriving : List Sent) (coming : List Back) (h : List Entry) (w : World) (id : ProcId) (beats i : ℕ) (up : Bool) → MidBeat doc k before arriving coming h w deeds → id.0 < processes doc → alive id.0 h ≡ when up i
    → new ≡ deeds ++ deeds_of k (actor_of (identity id.0 i)) (when up (act.Pause beats)) → MidBeat doc k before arriving coming (happens doc k (what.Pause id beats) h) w new
running-stalled doc k before deeds new arriving coming h w id beats i up r within lives new_is =
    subst (λ o. MidBeat doc k before arriving coming (stall k id.0 beats o g) w new) (sym lives) (by_life up lives new_is)
  where
    g : List Entry
    g = scripted k (what.Pause id beats) None h

    base : MidBeat doc k before arriving coming g w deeds
    base = running-plain doc k before deeds arriving coming h w (what.Pause id beats) r refl refl refl refl (λ p. refl)

    by_life : (b : Bool) → alive id.0 h ≡ when b i → new ≡ deeds ++ deeds_of k (actor_of (identity id.0 i)) (when b (act.Pause beats)) → MidBeat doc k before arriving coming (stall k id.0 beats (when b i) g) w new
    by_life false lives new_is = subst (MidBeat doc k before arriving coming g w) (sym (new_is ∙ append-nil deeds)) base
    by_life true lives new_is =
        let q = identity id.0 i in
        let e = entry k 1 q (Stalls beats) in
        let known = known-later (processes doc) (script_entry k 1 (Event (what.Pause id beats) None)) h q (alive-known (processes doc) id.0 i h r.world.rest.plain within lives) in
        record {
          world = record {
            rest = rest-own doc k k 1 arriving coming q (Stalls beats) g w refl (known-later (processes doc) e g q known) base.world.rest;
            processes = λ p c is. process-stalled doc p k 1 beats q g c (base.world.processes p c is);
          };
          told = told-more before deeds new (deeds_of k (actor_of q) (Some (act.Pause beats))) g (e ∷ g) base.told new_is refl;
        }

-- the process stands for the history with the event, and sends nothing
pub running-moved : (doc : Doc) (k i : ℕ) (before deeds new more : List Deed) (arriving : List Sent) (coming : List Back) (h next : List Entry) (c0 c1 : Process) (w v : World) → MidBeat doc k before arriving coming h w deeds → Moved i c0 c1 w v → v.wire ≡ w.wire →
    Around doc k i arriving coming next w → ProcessStands doc i next c1 → printed next ≡ printed h ++ more → new ≡ deeds ++ more → MidBeat doc k before arriving coming next v new
running-moved doc k i before deeds new more arriving coming h next c0 c1 w v r m wire around stands printed_is new_is =
    record { world = within-moved doc k i arriving coming next c0 c1 w v m wire around stands; told = told-more before deeds new more h next r.told new_is printed_is }

-- what it asks was sent, where it asks
pub running-asked : (doc : Doc) (k i : ℕ) (before deeds new more : List Deed) (arriving : List Sent) (coming : List Back) (h base next : List Entry) (c0 c1 : Process) (w v : World) (ask : Option Ask) → MidBeat doc k before arriving coming h w deeds →
    i < processes doc → Moved i c0 c1 w v → SendsAsked k (identity i (incarnation_of c1)) ask w.stalls w.wire v.wire → Around doc k i arriving coming base w → AsksIn doc k 1 i base next c1 ask → printed next ≡ printed h ++ more → new ≡ deeds ++ more →
    MidBeat doc k before arriving coming next v new
running-asked doc k i before deeds new more arriving coming h base next c0 c1 w v ask r within m sends around asks printed_is new_is =
    record {
      world = within-asked doc k 1 i arriving coming base next c0 c1 w v ask m sends around within asks;
      told = told-more before deeds new more h next r.told new_is printed_is;
    }
