-- Layer 4, the steps of a beat: the tick of a process, whose entries change the store and its term alone.
use Rattle.std.proofs.Common.{◌≡◌, ℕ, ◌<◌, not, Bool, true, false, List, Option, Some, None, length, refl, sym, ap, ◌∙◌, subst, arith}
use Rattle.std.specs.Prelude.{if◌then◌else◌}
use Rattle.kube_objects.specs.declared.deed.Deed.{Deed}
use Rattle.kube_objects.specs.Document.{Doc, is_controller, processes}
use Rattle.kube_objects.specs.Elector.{leads_on, acts}
use Rattle.kube_objects.specs.Entry.{Entry, Identity, Tick, Ticks, entry}
use Rattle.kube_objects.specs.Identities.{identity}
use Rattle.kube_objects.specs.Modes.{nodes}
use Rattle.kube_objects.specs.Pauses.{is_paused}
use Rattle.kube_objects.specs.Process.{alive}
use Rattle.kube_objects.specs.Stalls.{is_stalled}
use Rattle.kube_objects.specs.Tick.{add, sync, tick}
use Rattle.kube_objects.specs.Wire.{Sent, Back}
use Rattle.history.specs.Steps.{if_up, ticks_while, turn, controller_turn, kubelet_turn, unpaused_turn}
use Rattle.history_laws.proofs.Ticks.{walk_tick}
use Rattle.beat_laws.specs.Unticked.{IsUntickedFrom}
use Rattle.beat_laws.proofs.Names.{nodes_are_named}
use Rattle.beat_laws.proofs.Unticked.{elector_unticked}
use Rattle.object_store.specs.declared.store.Store.{Store}
use Rattle.object_store.specs.Stands.{StoreStands}
use Rattle.wire_calls.specs.WireStands.{WireStands}
use Rattle.wire_calls.proofs.Frames.{wire-beside}
use Rattle.world_process.specs.InForce.{InForceStands}
use Rattle.world_process.specs.declared.process.Process.{Process}
use Rattle.world_process.specs.Moves.{own_ticks, own_ticks_as, own_turn_as}
use Rattle.world_process.specs.OwnTerm.{CanTick}
use Rattle.world_process.specs.Plain.{IsFew, IsKnown, IsPlain}
use Rattle.world_process.specs.Processes.{ProcessStands, Ticked, leads_as, leads_if_up, leads_now}
use Rattle.world_process.proofs.Forces.{in_force-beside}
use Rattle.world_process.proofs.Grows.{Grows, few-before, grows-same, grows-ticks}
use Rattle.world_process.proofs.Plainly.{known-later, plain-entry}
use Rattle.world_process.proofs.Acting.{ticks-none, ticks-paused, ticks-stalled}
use Rattle.world_process.proofs.Processes.{process-others}
use Rattle.world_core.specs.declared.world.World.{World}
use Rattle.world_core.specs.Worlds.{AreInTime, IsReady, Keeps, MidBeat, OthersStand, WorldWithin}
use Rattle.world_core.specs.Waits.{awake_turn, turn_if}
use Rattle.world_core.proofs.Around.{Around, alive-known}
use Rattle.world_core.proofs.MidBeat.{Moved, within-moved}

-- ---- whose tick it is

-- whoever leads on is a controller, in the incarnation in which it is up
pub record LeadsAs (doc : Doc) (k p i : ℕ) (h : List Entry) : Type 0 where
  pub sort : is_controller doc p ≡ true
  pub term : leads_on doc.settings.rules.release doc (identity p i) k h ≡ true

pub term-is : (doc : Doc) (k p i : ℕ) (h : List Entry) → alive p h ≡ Some i → leads_now doc k p h ≡ true → LeadsAs doc k p i h
term-is doc k p i h up acts = by_sort (is_controller doc p) refl acts
  where
    by_sort : (b : Bool) → is_controller doc p ≡ b → leads_as doc k p b h ≡ true → LeadsAs doc k p i h
    by_sort true sort is = record { sort = sort; term = sym (ap (λ o. leads_if_up doc k p o h) up) ∙ is }
    by_sort false sort is = cc

-- ---- what a tick finds

grows-own_ticks : (doc : Doc) (k p : ℕ) (h : List Entry) → Grows h (own_ticks doc k p h)
grows-own_ticks doc k p h = by_sort (is_controller doc p)
  where
    by_sort : (b : Bool) → Grows h (own_ticks_as doc k p b h)
    by_sort true = grows-ticks doc k p h
    by_sort false = grows-same h

-- a term has no more nodes than names
few-ticks : (doc : Doc) (k p : ℕ) (q : Identity) (h : List Entry) → IsFew (own_ticks doc k p h) → length (nodes q (sync doc k q h)) < 4294967296
few-ticks doc k p q h few =
    let most = (few-before h (own_ticks doc k p h) (grows-own_ticks doc k p h) few).nodes in
    let least = nodes_are_named doc k q h in
    omega (arith, most, least)

pub can-tick : (doc : Doc) (k p : ℕ) (h : List Entry) → is_stalled doc k ≡ false → IsUntickedFrom k p h → AreInTime k h → IsFew (own_ticks doc k p h) → CanTick doc k p h
can-tick doc k p h goes unticked timely few =
    record { fresh = λ q own. (unticked q (omega (arith, own))).before; unpassed = λ q own. (unticked q (omega (arith, own))).passed; few = λ q. few-ticks doc k p q h few; goes = goes; in_beats = timely.in_beats; upto = timely.upto }

-- ---- the world around a process that ticks

-- all but the process and the store
record Beside (doc : Doc) (k p : ℕ) (arriving : List Sent) (coming : List Back) (h : List Entry) (w : World) : Type 0 where
  pub plain : IsPlain (processes doc) h
  pub wire : WireStands (processes doc) k arriving coming h w.wire
  pub in_force : InForceStands doc h w.in_force
  pub others : OthersStand doc p h w.processes.items

module _ (doc : Doc) (k p : ℕ) (arriving : List Sent) (coming : List Back) (w : World) where
  -- one entry more
  beside-entry : (i : ℕ) (t : Tick) (g : List Entry) → Beside doc k p arriving coming g w × IsKnown (processes doc) g (identity p i)
      → Beside doc k p arriving coming (add k (identity p i) t g) w × IsKnown (processes doc) (add k (identity p i) t g) (identity p i)
  beside-entry i t g s =
      let q = identity p i in
      let e = entry k 4 q (Ticks t) in
      let b = s.0 in
      let known = known-later (processes doc) e g q s.1 in (
        record {
          plain = plain-entry (processes doc) k 4 q (Ticks t) g known b.plain;
          wire = wire-beside (processes doc) k arriving coming g e w.wire refl b.wire;
          in_force = in_force-beside doc e g w.in_force refl b.in_force;
          others = λ o x other place. process-others doc o k 4 q (Ticks t) g x (λ same. other (sym same)) refl (b.others o x other place);
        },
        known,
      )

  -- its tick, where it has one
  beside-ticks : (h : List Entry) → p < processes doc → Beside doc k p arriving coming h w → Beside doc k p arriving coming (own_ticks doc k p h) w
  beside-ticks h within s = by_sort (is_controller doc p)
    where
      by_test : (i : ℕ) → alive p h ≡ Some i → (b : Bool) → Beside doc k p arriving coming (if b then tick doc k (identity p i) h else h) w
      by_test i up true = (walk_tick doc k (identity p i) (λ f. Beside doc k p arriving coming f w × IsKnown (processes doc) f (identity p i)) (λ t f made r. beside-entry i t f r) h (s, alive-known (processes doc) p i h s.plain within up)).0
      by_test i up false = s

      by_life : (o : Option ℕ) → alive p h ≡ o → Beside doc k p arriving coming (if_up p (λ q T. (if (acts doc q k T) then tick doc k q T else T)) o h) w
      by_life None is = s
      by_life (Some i) is = by_test i is (acts doc (identity p i) k h)

      by_stall : (b : Bool) → Beside doc k p arriving coming (ticks_while b doc k p h) w
      by_stall true = s
      by_stall false = by_life (alive p h) refl

      by_sort : (b : Bool) → Beside doc k p arriving coming (own_ticks_as doc k p b h) w
      by_sort true = by_stall (is_stalled doc k)
      by_sort false = s

-- the world with another store
abbrev stored : World → Store → World
stored w s = record w { store = s }

around-ticks : (doc : Doc) (k p : ℕ) (arriving : List Sent) (coming : List Back) (h : List Entry) (w : World) (s : Store) → p < processes doc → WorldWithin doc k arriving coming h w → StoreStands (own_ticks doc k p h) s
    → Around doc k p arriving coming (own_ticks doc k p h) (stored w s)
around-ticks doc k p arriving coming h w s within r store =
    let d = r.rest.document in
    let b = beside-ticks doc k p arriving coming w h within (record { plain = r.rest.plain; wire = r.rest.wire; in_force = r.rest.in_force; others = λ o x other is. r.processes o x is }) in
    record {
      rest = record {
        document = record { at = d.at; restart = d.restart; count = d.count; epoch = d.epoch; micros = d.micros; events = d.events; controllers = d.controllers; stalls = d.stalls };
        plain = b.plain;
        store = store;
        wire = b.wire;
        in_force = b.in_force;
      };
      others = b.others;
    }

-- ---- the world after a tick

pub running-ticked : (doc : Doc) (k p : ℕ) (before deeds new : List Deed) (arriving : List Sent) (coming : List Back) (h : List Entry) (x y z : Process) (w v : World) (s : Store) → p < processes doc → Moved p x z (stored w s) v → v.wire ≡ w.wire
    → ((g : List Entry) → ProcessStands doc p g y → ProcessStands doc p g z) → MidBeat doc k before arriving coming h w deeds → Ticked doc k p h y s deeds new → MidBeat doc k before arriving coming (own_ticks doc k p h) v new
running-ticked doc k p before deeds new arriving coming h x y z w v s within m wire keeps r ticked = record {
  world = within-moved doc k p arriving coming (own_ticks doc k p h) x z (stored w s) v m wire (around-ticks doc k p arriving coming h w s within r.world ticked.store) (keeps (own_ticks doc k p h) ticked.stands);
  told = ticked.told before r.told;
}

-- the store is no part of what is plain
pub keeps-stored : (w v : World) (s : Store) → (IsReady (stored w s) → Keeps (stored w s) v) → IsReady w → Keeps w v
keeps-stored w v s keeps r =
    let k = keeps (record { end = r.end; restart = r.restart; epoch = r.epoch; micros = r.micros; events = r.events; few = r.few; clocks = r.clocks; controllers = r.controllers; kept = r.kept; noted = r.noted }) in
    let d = k.same in
    record {
      ready = k.ready;
      same = record { beat = d.beat; end = d.end; restart = d.restart; epoch = d.epoch; micros = d.micros; events = d.events; names = d.names; controllers = d.controllers; stalls = d.stalls };
      place = k.place;
      count = k.count;
    }

-- no tick
pub running-unticked : (doc : Doc) (k p : ℕ) (before deeds : List Deed) (arriving : List Sent) (coming : List Back) (h : List Entry) (w : World) → leads_now doc k p h ≡ false
    → MidBeat doc k before arriving coming h w deeds → MidBeat doc k before arriving coming (own_ticks doc k p h) w deeds
running-unticked doc k p before deeds arriving coming h w none r = subst (λ g. MidBeat doc k before arriving coming g w deeds) (sym (ticks-none doc k p h none)) r

-- nor while the store stands still
pub running-stalled : (doc : Doc) (k p : ℕ) (before deeds : List Deed) (arriving : List Sent) (coming : List Back) (h : List Entry) (w : World) → is_stalled doc k ≡ true
    → MidBeat doc k before arriving coming h w deeds → MidBeat doc k before arriving coming (own_ticks doc k p h) w deeds
running-stalled doc k p before deeds arriving coming h w stands r = subst (λ g. MidBeat doc k before arriving coming g w deeds) (sym (ticks-stalled doc k p h stands)) r

-- ---- a turn is its tick after the rest

pub turn-is : (doc : Doc) (k p : ℕ) (h : List Entry) → turn doc k p h ≡ own_ticks doc k p (awake_turn doc k p h)
turn-is doc k p h = by_pause (is_paused doc p k) refl
  where
    by_sort : (b : Bool) → (if b then controller_turn doc k p h else kubelet_turn doc k p h) ≡ own_ticks_as doc k p b (own_turn_as doc k p b h)
    by_sort true = refl
    by_sort false = refl

    by_pause : (b : Bool) → is_paused doc p k ≡ b → (if b then h else unpaused_turn doc k p h) ≡ own_ticks doc k p (turn_if doc k p (not b) h)
    by_pause true paused = sym (ticks-paused doc k p h paused)
    by_pause false awake = by_sort (is_controller doc p)

-- a process whose turn comes finds no tick of its own on top, and none is added before its tick
pub own-unticked : (doc : Doc) (k p : ℕ) (h : List Entry) → is_controller doc p ≡ true → IsUntickedFrom k p h → IsUntickedFrom k p (awake_turn doc k p h)
own-unticked doc k p h sort s = by_pause (not (is_paused doc p k))
  where
    by_pause : (b : Bool) → IsUntickedFrom k p (turn_if doc k p b h)
    by_pause true = subst (λ b. IsUntickedFrom k p (own_turn_as doc k p b h)) (sym sort) (elector_unticked doc k p p h s)
    by_pause false = s
