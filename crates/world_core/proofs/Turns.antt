-- Layer 4, the steps of a beat: the turn of a process that keeps the beat of its next turn.
use Rattle.std.proofs.Common.{◌≡◌, ℕ, ◌≤◌, not, Bool, true, false, List, ◌∷◌, Option, Some, None, slice_get, refl, sym, ap, ◌∙◌, subst, arith}
use Rattle.kube_objects.specs.declared.call.Ask.{Ask}
use Rattle.kube_objects.specs.declared.deed.Deed.{Deed}
use Rattle.kube_objects.specs.Document.{Doc, is_controller}
use Rattle.kube_objects.specs.Entry.{Entry, Identity, Sends, entry}
use Rattle.kube_objects.specs.Identities.{identity}
use Rattle.kube_objects.specs.Pauses.{is_paused}
use Rattle.kube_objects.specs.Wire.{Back, Sent, next_call}
use Rattle.agenda_laws.specs.Times.{is_early}
use Rattle.world_process.specs.declared.moves.Turn.{Turn}
use Rattle.world_process.specs.declared.process.Process.{Process}
use Rattle.world_process.specs.Beats.{beat_in}
use Rattle.world_process.specs.Moves as moves
use Rattle.world_process.specs.Moves.{own_turn}
use Rattle.world_process.specs.Processes.{ProcessStands, SameProcess, Turned, incarnation_of, waking_of}
use Rattle.world_process.specs.Plain.{with_facts}
use Rattle.world_process.proofs.Processes.{process-incarnation}
use Rattle.world_process.proofs.Wakes.{kept-still}
use Rattle.world_core.specs.declared.world.World.{World}
use Rattle.world_core.specs.Worlds.{IsReady, MidBeat}
use Rattle.world_core.specs.Waits.{awake_turn, turn_if}
use Rattle.world_core.proofs.Around.{around-world}
use Rattle.world_core.proofs.MidBeat.{AsksOn, Moved, within-moved}
use Rattle.world_core.proofs.Moving.{within-end}

pub same-twice : (x y z : Process) → SameProcess x y → SameProcess y z → SameProcess x z
same-twice x y z a b = record { me = b.me ∙ a.me; clock = b.clock ∙ a.clock }

asks-kept : (doc : Doc) (k step : ℕ) (q : Identity) (h next : List Entry) (S T : List Entry → Type 0) → ((g : List Entry) → S g → T g) → (ask : Option Ask) → moves.AsksOn doc k step q h next S ask → moves.AsksOn doc k step q h next T ask
asks-kept doc k step q h next S T keeps None s = (s.0, keeps h s.1)
asks-kept doc k step q h next S T keeps (Some ask) s = record { kind = s.kind; sent = s.sent; number = s.number; stands = λ arrives. keeps _ (s.stands arrives) }

pub asks_in-kept : (doc : Doc) (k step : ℕ) (q : Identity) (h next : List Entry) (S T : List Entry → Type 0) → ((g : List Entry) → S g → T g) → (ask : Option Ask) → moves.AsksIn doc k step q h next S ask → moves.AsksIn doc k step q h next T ask
asks_in-kept doc k step q h next S T keeps ask s =
    record { facts = s.facts; quiet = s.quiet; asks = asks-kept doc k step q (with_facts k step q s.facts h) next S T keeps ask s.asks }

-- a history for which it stands
stands-for : (doc : Doc) (k step p : ℕ) (h next : List Entry) (x : Process) (ask : Option Ask) → AsksOn doc k step p h next x ask → (g : List Entry) × ProcessStands doc p g x
stands-for doc k step p h next x None s = (h, s.1)
stands-for doc k step p h next x (Some ask) s = let q = identity p (incarnation_of x) in (entry k step q (Sends (next_call q k s.kind ask.request h) None) ∷ h, s.stands None)

same-incarnation : (doc : Doc) (p : ℕ) (x y : Process) → ((g : List Entry) → ProcessStands doc p g x → ProcessStands doc p g y) → (g : List Entry) × ProcessStands doc p g x → incarnation_of x ≡ incarnation_of y
same-incarnation doc p x y keeps t = process-incarnation doc p t.0 x t.1 ∙ sym (process-incarnation doc p t.0 y (keeps t.0 t.1))

pub turned-kept : (doc : Doc) (k p : ℕ) (h : List Entry) (x y : Process) (t : Turn) → ((g : List Entry) → ProcessStands doc p g x → ProcessStands doc p g y) → Turned doc k p h x t → Turned doc k p h y t
turned-kept doc k p h x y t keeps turned =
    let sort = is_controller doc p in
    let base = moves.restarted_as doc k p sort h in
    let next = moves.own_turn_as doc k p sort h in
    let q = identity p (incarnation_of x) in
    let same = same-incarnation doc p x y keeps (stands-for doc k 4 p (with_facts k 4 q turned.asks.facts base) next x t.ask turned.asks.asks) in
    subst (λ i. moves.TurnedAs doc k p sort h i (λ g. ProcessStands doc p g y) t) same
    (record { told = turned.told; asks = asks_in-kept doc k 4 q base next (λ g. ProcessStands doc p g x) (λ g. ProcessStands doc p g y) keeps t.ask turned.asks })

-- ---- the world with a process that did nothing but to keep that beat

pub running-kept : (doc : Doc) (k i : ℕ) (before deeds : List Deed) (arriving : List Sent) (coming : List Back) (h : List Entry) (x y : Process) (w v : World) → Moved i x y w v → v.wire ≡ w.wire → ProcessStands doc i h y
    → MidBeat doc k before arriving coming h w deeds → MidBeat doc k before arriving coming h v deeds
running-kept doc k i before deeds arriving coming h x y w v m wire stands r =
    record {
      world = within-moved doc k i arriving coming h x y w v m wire (around-world doc k i arriving coming h w r.world) stands;
      told = r.told;
    }

-- ---- where it is paused, and where it isn't

pub awake-is : (doc : Doc) (k p : ℕ) (h : List Entry) → is_paused doc p k ≡ false → awake_turn doc k p h ≡ own_turn doc k p h
awake-is doc k p h awake = ap (λ b. turn_if doc k p (not b) h) awake

paused-is : (doc : Doc) (k p : ℕ) (h : List Entry) → is_paused doc p k ≡ true → awake_turn doc k p h ≡ h
paused-is doc k p h paused = ap (λ b. turn_if doc k p (not b) h) paused

pub awake-still : (doc : Doc) (k p : ℕ) (h : List Entry) → own_turn doc k p h ≡ h → awake_turn doc k p h ≡ h
awake-still doc k p h still = by_pause (not (is_paused doc p k))
  where
    by_pause : (b : Bool) → turn_if doc k p b h ≡ h
    by_pause true = still
    by_pause false = refl

-- it keeps a beat that is later than this one
pub running-early : (doc : Doc) (k i : ℕ) (before deeds : List Deed) (arriving : List Sent) (coming : List Back) (h : List Entry) (x : Process) (w : World) → IsReady w → w.beat.0 ≤ w.end.0
    → slice_get w.processes.items i ≡ Some x → is_early k (beat_in (waking_of x).until) ≡ true
    → MidBeat doc k before arriving coming h w deeds → MidBeat doc k before arriving coming (awake_turn doc k i h) w deeds
running-early doc k i before deeds arriving coming h x w ready within was early r =
    let at : w.beat.0 ≡ k = r.world.rest.document.at in
    let inside = within-end w i x ready within was in
    let still = (kept-still doc k i h x (ready.kept i x was) (r.world.processes i x was) (omega (arith, at, inside))).1 early in
    subst (λ g. MidBeat doc k before arriving coming g w deeds) (sym (awake-still doc k i h still)) r

-- it has no turn in a pause
pub running-paused : (doc : Doc) (k i : ℕ) (before deeds : List Deed) (arriving : List Sent) (coming : List Back) (h : List Entry) (w : World) → is_paused doc i k ≡ true
    → MidBeat doc k before arriving coming h w deeds → MidBeat doc k before arriving coming (awake_turn doc k i h) w deeds
running-paused doc k i before deeds arriving coming h w paused r = subst (λ g. MidBeat doc k before arriving coming g w deeds) (sym (paused-is doc k i h paused)) r

pub running-awake : (doc : Doc) (k i : ℕ) (before deeds : List Deed) (arriving : List Sent) (coming : List Back) (h : List Entry) (w : World) → is_paused doc i k ≡ false
    → MidBeat doc k before arriving coming (own_turn doc k i h) w deeds → MidBeat doc k before arriving coming (awake_turn doc k i h) w deeds
running-awake doc k i before deeds arriving coming h w awake r = subst (λ g. MidBeat doc k before arriving coming g w deeds) (sym (awake-is doc k i h awake)) r

-- its turn adds nothing
pub running-still : (doc : Doc) (k i : ℕ) (before deeds : List Deed) (arriving : List Sent) (coming : List Back) (h : List Entry) (x y : Process) (w v : World) → own_turn doc k i h ≡ h → Moved i x y w v → v.wire ≡ w.wire → ProcessStands doc i h y
    → MidBeat doc k before arriving coming h w deeds → MidBeat doc k before arriving coming (awake_turn doc k i h) v deeds
running-still doc k i before deeds arriving coming h x y w v still m wire stands r =
    subst (λ g. MidBeat doc k before arriving coming g v deeds) (sym (awake-still doc k i h still)) (running-kept doc k i before deeds arriving coming h x y w v m wire stands r)
