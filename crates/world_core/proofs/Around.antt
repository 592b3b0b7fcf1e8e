-- Layer 3, the world around one process: all but one process stand through the quiet entries of that one.
use Rattle.std.proofs.Common.{◌≡◌, ℕ, ◌+◌, ◌<◌, ◌≤◌, ◌==◌, ◌&&◌, nat_lt, Bool, true, false, List, [], ◌∷◌, Option, Some, None, refl, sym, ap, ◌∙◌, arith}
use Rattle.std.specs.Prelude.{if◌then◌else◌}
use Rattle.kube_objects.specs.declared.deed.Actor.{Actor}
use Rattle.kube_objects.specs.declared.deed.Actor.TheVariants as actor
use Rattle.kube_objects.specs.Document.{Doc, is_controller, processes}
use Rattle.kube_objects.specs.Entry.{Entry, Identity, Fact, First, Event, Starts, Crashes, Stops, Stalls, Ends, StepsDown, ReleaseBegins, ReleaseEnds, ReleaseStops, Sends, Answers, Delivers, Expires, Leads, Ticks, actor_of, entry}
use Rattle.kube_objects.specs.Identities.{identity, is_by, of_process}
use Rattle.kube_objects.specs.Newest.{added, has, join, when}
use Rattle.kube_objects.specs.Process.{life_says, life, alive, born, gone, is_start, starts, ended, is_restart_due}
use Rattle.kube_objects.specs.Stored.{write_of}
use Rattle.kube_objects.specs.Wire.{Sent, Back}
use Rattle.history.specs.Steps.{start, restart_if, restart}
use Rattle.object_store.proofs.Keeps.{store-beside}
use Rattle.wire_calls.specs.WireStands.{is_of_wire}
use Rattle.wire_calls.proofs.Frames.{wire-beside}
use Rattle.world_core.specs.declared.world.World.{World}
use Rattle.world_process.specs.Moves.{restarted, restarted_as}
use Rattle.world_process.specs.Plain.{IsUnheard, IsKnown, IsPlain, is_quiet, AreQuiet, with_facts}
use Rattle.world_core.specs.Worlds.{RestStands, OthersStand, WorldWithin}
use Rattle.world_process.proofs.Forces.{is_standing, in_force-beside}
use Rattle.world_process.proofs.Processes.{process-others}
use Rattle.world_process.proofs.Lives.{is_event}
use Rattle.world_process.proofs.Names.{lt-from, le-from, eq-self}
use Rattle.world_process.proofs.Plainly.{plain-entry, known-later, starts-start}

-- a process's own fact, that writes nothing and sends nothing: its start, or a quiet one
abbrev pub is_own : Fact → Bool
is_own Starts = true
is_own d = is_quiet d

quiet-own : (d : Fact) → is_quiet d ≡ true → is_own d ≡ true
quiet-own Starts is = refl
quiet-own _ is = is

-- it is no event and changes nothing in force
quiet-write : (d : Fact) → is_own d ≡ true → write_of d ≡ None
quiet-write (First key object) is = cc
quiet-write (Event what version) is = cc
quiet-write (Answers call reply comes written) is = cc
quiet-write (Ticks tick) is = cc
quiet-write _ is = refl

quiet-wire : (d : Fact) → is_own d ≡ true → is_of_wire d ≡ false
quiet-wire (Event what version) is = cc
quiet-wire (Sends call arrives) is = cc
quiet-wire (Answers call reply comes written) is = cc
quiet-wire _ is = refl

quiet-event : (d : Fact) → is_own d ≡ true → is_event d ≡ false
quiet-event (Event what version) is = cc
quiet-event _ is = refl

quiet-standing : (d : Fact) → is_own d ≡ true → is_standing d ≡ false
quiet-standing (Event what version) is = cc
quiet-standing _ is = refl

-- all but process i
pub record Around (doc : Doc) (k i : ℕ) (arriving : List Sent) (coming : List Back) (h : List Entry) (w : World) : Type 0 where
  pub rest : RestStands doc k arriving coming h w
  pub others : OthersStand doc i h w.processes.items

pub around-world : (doc : Doc) (k i : ℕ) (arriving : List Sent) (coming : List Back) (h : List Entry) (w : World) → WorldWithin doc k arriving coming h w → Around doc k i arriving coming h w
around-world doc k i arriving coming h w s = record { rest = s.rest; others = λ p c other is. s.processes p c is }

pub rest-own : (doc : Doc) (k j step : ℕ) (arriving : List Sent) (coming : List Back) (q : Identity) (d : Fact) (h : List Entry) (w : World) → is_own d ≡ true → IsKnown (processes doc) (entry j step q d ∷ h) q →
    RestStands doc k arriving coming h w → RestStands doc k arriving coming (entry j step q d ∷ h) w
rest-own doc k j step arriving coming q d h w quiet known s =
    record {
      document = s.document;
      plain = plain-entry (processes doc) j step q d h known s.plain;
      store = store-beside h (entry j step q d) w.store s.store (quiet-write d quiet);
      wire = wire-beside (processes doc) k arriving coming h (entry j step q d) w.wire (quiet-wire d quiet) s.wire;
      in_force = in_force-beside doc (entry j step q d) h w.in_force (quiet-standing d quiet) s.in_force;
    }

pub around-own : (doc : Doc) (k i j step : ℕ) (arriving : List Sent) (coming : List Back) (q : Identity) (d : Fact) (h : List Entry) (w : World) → q.process ≡ i → is_own d ≡ true → IsKnown (processes doc) (entry j step q d ∷ h) q →
    Around doc k i arriving coming h w → Around doc k i arriving coming (entry j step q d ∷ h) w
around-own doc k i j step arriving coming q d h w process quiet known s =
    record {
      rest = rest-own doc k j step arriving coming q d h w quiet known s.rest;
      others = λ p c other is. process-others doc p j step q d h c (λ e. other (sym e ∙ process)) (quiet-event d quiet) (s.others p c other is);
    }

pub known-facts : (n k step : ℕ) (q : Identity) (ds : List Fact) (h : List Entry) → IsKnown n h q → IsKnown n (with_facts k step q ds h) q
known-facts n k step q [] h known = known
known-facts n k step q (d ∷ ds) h known = known-later n (entry k step q d) (with_facts k step q ds h) q (known-facts n k step q ds h known)

pub around-facts : (doc : Doc) (k i j step : ℕ) (arriving : List Sent) (coming : List Back) (q : Identity) (ds : List Fact) (h : List Entry) (w : World) → q.process ≡ i → AreQuiet ds → IsKnown (processes doc) h q →
    Around doc k i arriving coming h w → Around doc k i arriving coming (with_facts j step q ds h) w
around-facts doc k i j step arriving coming q [] h w process quiet known s = s
around-facts doc k i j step arriving coming q (d ∷ ds) h w process quiet known s =
    around-own doc k i j step arriving coming q d (with_facts j step q ds h) w process (quiet-own d quiet.0) (known-facts (processes doc) j step q (d ∷ ds) h known) (around-facts doc k i j step arriving coming q ds h w process quiet.1 known s)

-- quiet facts start nothing
quiet-start : (d : Fact) → is_quiet d ≡ true → is_start d ≡ false
quiet-start Starts is = cc
quiet-start _ is = refl

pub starts-facts : (p k step : ℕ) (q : Identity) (ds : List Fact) (h : List Entry) → AreQuiet ds → starts p (with_facts k step q ds h) ≡ starts p h
starts-facts p k step q [] h quiet = refl
starts-facts p k step q (d ∷ ds) h quiet =
    ap (λ b. added (b && has (of_process p (actor_of q))) (starts p (with_facts k step q ds h))) (quiet-start d quiet.0) ∙ starts-facts p k step q ds h quiet.1

-- ---- who is up was started

born-is : (p i : ℕ) (who : Actor) → is_by (identity p i) who ≡ false → born (of_process p who) ≡ Some (Some i) → ⊥
born-is p i actor.Script other is = cc
born-is p i (actor.Proc id incarnation) other is = by_test (id.0 == p) other is
  where
    by_test : (b : Bool) → (b && (incarnation == i)) ≡ false → born (when b incarnation) ≡ Some (Some i) → ⊥
    by_test false other is = cc
    by_test true other is =
        let same : incarnation ≡ i = cc in
        let now : (incarnation == i) ≡ true = ap (λ n. incarnation == n) (sym same) ∙ eq-self incarnation in
        cc

gone-is : (p i : ℕ) (o : Option ℕ) → gone o ≡ Some (Some i) → ⊥
gone-is p i None is = cc
gone-is p i (Some j) is = cc

says-not : (p i : ℕ) (who : Actor) (d : Fact) → is_by (identity p i) who ≡ false → life_says p who d ≡ Some (Some i) → ⊥
says-not p i who (First key object) other is = cc
says-not p i who (Event what version) other is = cc
says-not p i who Starts other is = born-is p i who other is
says-not p i who Crashes other is = gone-is p i (of_process p who) is
says-not p i who (Stalls beats) other is = cc
says-not p i who Stops other is = gone-is p i (of_process p who) is
says-not p i who Ends other is = gone-is p i (of_process p who) is
says-not p i who StepsDown other is = cc
says-not p i who (ReleaseBegins at_deadline) other is = cc
says-not p i who ReleaseEnds other is = gone-is p i (of_process p who) is
says-not p i who ReleaseStops other is = cc
says-not p i who (Sends call arrives) other is = cc
says-not p i who (Answers call reply comes written) other is = cc
says-not p i who (Delivers call reply counted) other is = cc
says-not p i who (Expires call) other is = cc
says-not p i who (Leads version) other is = cc
says-not p i who (Ticks tick) other is = cc

alive-heard : (p i : ℕ) (h : List Entry) → IsUnheard (identity p i) h → alive p h ≡ Some i → ⊥
alive-heard p i [] u up = cc
alive-heard p i (e ∷ h) u up = by_says (life_says p e.actor e.fact) (says-not p i e.actor e.fact u.0) (λ was. alive-heard p i h u.1 was) up
  where
    by_says : (x : Option (Option ℕ)) → (x ≡ Some (Some i) → ⊥) → (join (life p h) ≡ Some i → ⊥) → join (elim x as (λ o. Option (Option ℕ)) [ None ↦ life p h | Some y ↦ Some y ]) ≡ Some i → ⊥
    by_says None never before up = before up
    by_says (Some y) never before up = never (ap (λ (o : Option ℕ). Some o) up)

pub alive-known : (n p i : ℕ) (h : List Entry) → IsPlain n h → p < n → alive p h ≡ Some i → IsKnown n h (identity p i)
alive-known n p i h s within up = record { within = within; started = by_order (nat_lt (starts p h) i) refl }
  where
    by_order : (b : Bool) → nat_lt (starts p h) i ≡ b → i ≤ starts p h
    by_order true is = absurd (alive-heard p i h (s.fresh p i (lt-from (starts p h) i is)) up)
    by_order false is = le-from (starts p h) i is

-- ---- through a restart

pub around-started : (doc : Doc) (k i j step : ℕ) (arriving : List Sent) (coming : List Back) (h : List Entry) (w : World) → i < processes doc → Around doc k i arriving coming h w → Around doc k i arriving coming (start j step i h) w
around-started doc k i j step arriving coming h w within s =
    let q = identity i (starts i h + 1) in
    around-own doc k i j step arriving coming q Starts h w refl refl (record { within = within; started = let e = starts-start j step q h in omega (arith, e) }) s

around-restart : (doc : Doc) (k i : ℕ) (arriving : List Sent) (coming : List Back) (h : List Entry) (w : World) → i < processes doc → Around doc k i arriving coming h w → Around doc k i arriving coming (restart doc k i h) w
around-restart doc k i arriving coming h w within s = by_life (alive i h)
  where
    by_due : (b : Bool) → Around doc k i arriving coming (if b then start k 4 i h else h) w
    by_due true = around-started doc k i k 4 arriving coming h w within s
    by_due false = s

    by_life : (up : Option ℕ) → Around doc k i arriving coming (restart_if doc k i up h) w
    by_life None = by_due (is_restart_due doc i k (ended doc i h))
    by_life (Some j) = s

-- by the sort of the process
pub around-restarted : (doc : Doc) (k i : ℕ) (arriving : List Sent) (coming : List Back) (h : List Entry) (w : World) → i < processes doc → Around doc k i arriving coming h w → Around doc k i arriving coming (restarted doc k i h) w
around-restarted doc k i arriving coming h w within s = by_sort (is_controller doc i)
  where
    by_sort : (b : Bool) → Around doc k i arriving coming (restarted_as doc k i b h) w
    by_sort true = around-restart doc k i arriving coming h w within s
    by_sort false = s
