-- A controller's tick, where it has one.
use Rattle.std.proofs.Common.{◌≡◌, ◌∙◌, ◌++◌, ℕ, ◌&&◌, not, Bool, true, false, List, Some, None, Option, refl, sym, ap, subst, append_assoc}
use Rattle.std.specs.Prelude.{if◌then◌else◌}
use Rattle.std.specs.Box.{with_value}
use Rattle.kube_objects.specs.declared.deed.Deed.{Deed}
use Rattle.kube_objects.specs.Clocks.{local}
use Rattle.kube_objects.specs.Document.{Doc, is_controller}
use Rattle.kube_objects.specs.Elector.{acts, leads, leads_on}
use Rattle.kube_objects.specs.Entry.{Entry, Identity, Ticks, entry}
use Rattle.kube_objects.specs.Identities.{identity}
use Rattle.kube_objects.specs.InForce.{watches}
use Rattle.kube_objects.specs.Pauses.{is_paused}
use Rattle.kube_objects.specs.Process.{alive, starts}
use Rattle.kube_objects.specs.Stalls.{is_stalled}
use Rattle.kube_objects.specs.Tick.{tick}
use Rattle.kube_objects.specs.Wire.{loses_requests}
use Rattle.history.specs.Printed.{printed}
use Rattle.history.specs.Steps.{if_up, ticks, ticks_while}
use Rattle.history.proofs.Ticks.{ticks_go, ticks_stall, ticks_keep}
use Rattle.history_laws.proofs.Plainly.{false_is, none_is}
use Rattle.history_laws.proofs.Ticks.{walk_tick}
use Rattle.controller_core.specs.declared.term.Term.{Term}
use Rattle.controller_core.specs.TermStands as after
use Rattle.leader_elector.specs.declared.candidate.Candidate.{Candidate}
use Rattle.leader_elector.specs.Stands.{CandidateStands}
use Rattle.leader_elector.proofs.Endings.{leads-unreleased}
use Rattle.object_store.specs.declared.store.Store.{Store}
use Rattle.object_store.specs.Stands.{StoreStands}
use Rattle.skew_clock.specs.Clocking.{Clocking, reading, wall_when}
use Rattle.term_state.specs.declared.view.View.{View}
use Rattle.term_state.specs.MidTick.{IsView}
use Rattle.world_process.specs.declared.controller.Controller.{Controller}
use Rattle.world_process.specs.declared.controller.Role.{Role}
use Rattle.world_process.specs.declared.controller.Role.TheVariants as role
use Rattle.world_process.specs.declared.process.Process.{Process}
use Rattle.world_process.specs.declared.process.Process.TheVariants as process
use Rattle.world_process.specs.Clocked.{ClockStands}
use Rattle.world_process.specs.Controllers.{ControllerStands, RoleStands, Ticked}
use Rattle.world_process.specs.Moves.{own_ticks, own_ticks_as}
use Rattle.world_process.specs.Processes.{ProcessStands, incarnation_of, leads_as, leads_if_up, leads_now}
use Rattle.world_process.proofs.Beside.{role-quiet}
use Rattle.world_process.proofs.OwnTerm.{owns-ticked}
use Rattle.world_process.proofs.Readings.{reading-local, wall-when}
use Rattle.world_process.proofs.Timers.{unled-over}
use Rattle.world_process.proofs.Unheard.{and-false}

-- ---- whose tick it is

-- without a leader who leads on there is none
pub unled-ticks : (doc : Doc) (k p : ℕ) (h : List Entry) → leads_if_up doc k p (alive p h) h ≡ false → ticks doc k p h ≡ h
unled-ticks doc k p h is = ticks_keep doc k p h (λ g. g ≡ h) refl (by_life (alive p h) is)
  where
    by_life : (o : Option ℕ) → leads_if_up doc k p o h ≡ false → if_up p (λ q T. (if (acts doc q k T) then tick doc k q T else T)) o h ≡ h
    by_life None is = refl
    by_life (Some i) is = ap (λ b. (if (not (is_paused doc p k) && b) then tick doc k (identity p i) h else h)) is ∙ ap (λ b. (if b then tick doc k (identity p i) h else h)) (and-false (not (is_paused doc p k)))

pub ticks-none : (doc : Doc) (k p : ℕ) (h : List Entry) → leads_now doc k p h ≡ false → own_ticks doc k p h ≡ h
ticks-none doc k p h none = by_sort (is_controller doc p) none
  where
    by_sort : (b : Bool) → leads_as doc k p b h ≡ false → own_ticks_as doc k p b h ≡ h
    by_sort true is = unled-ticks doc k p h is
    by_sort false is = refl

-- nor is there one in a pause
pub paused-ticks : (doc : Doc) (k p : ℕ) (h : List Entry) → is_paused doc p k ≡ true → ticks doc k p h ≡ h
paused-ticks doc k p h paused = by_stall (is_stalled doc k)
  where
    by_life : (o : Option ℕ) → if_up p (λ q T. (if (acts doc q k T) then tick doc k q T else T)) o h ≡ h
    by_life None = refl
    by_life (Some i) = ap (λ b. (if (not b && leads_on doc.settings.rules.release doc (identity p i) k h) then tick doc k (identity p i) h else h)) paused

    by_stall : (b : Bool) → ticks_while b doc k p h ≡ h
    by_stall true = refl
    by_stall false = by_life (alive p h)

pub ticks-paused : (doc : Doc) (k p : ℕ) (h : List Entry) → is_paused doc p k ≡ true → own_ticks doc k p h ≡ h
ticks-paused doc k p h paused = by_sort (is_controller doc p)
  where
    by_sort : (b : Bool) → own_ticks_as doc k p b h ≡ h
    by_sort true = paused-ticks doc k p h paused
    by_sort false = refl

-- nor while the store stands still
pub ticks-stalled : (doc : Doc) (k p : ℕ) (h : List Entry) → is_stalled doc k ≡ true → own_ticks doc k p h ≡ h
ticks-stalled doc k p h stands = by_sort (is_controller doc p)
  where
    by_sort : (b : Bool) → own_ticks_as doc k p b h ≡ h
    by_sort true = ticks_stall doc k p h stands
    by_sort false = refl

pub acting-ticks : (doc : Doc) (k p i : ℕ) (h : List Entry) → is_stalled doc k ≡ false → is_paused doc p k ≡ false → alive p h ≡ Some i → leads_on doc.settings.rules.release doc (identity p i) k h ≡ true → ticks doc k p h ≡ tick doc k (identity p i) h
acting-ticks doc k p i h goes awake up on =
    let leading = leads_on doc.settings.rules.release doc (identity p i) k h in
    ticks_go doc k p h goes
    ∙ ap (λ o. if_up p (λ q T. (if (acts doc q k T) then tick doc k q T else T)) o h) up
    ∙ ap (λ b. (if (not b && leading) then tick doc k (identity p i) h else h)) awake
    ∙ ap (λ b. (if b then tick doc k (identity p i) h else h)) on

-- ---- who leads on

-- a candidate doesn't
pub candidate-not : (doc : Doc) (k : ℕ) (q : Identity) (h : List Entry) (x : Candidate) → CandidateStands doc q h x → leads_on doc.settings.rules.release doc q k h ≡ false
candidate-not doc k q h x s = leads-unreleased doc q k h doc.settings.rules.release s.unreleased ∙ unled-over doc k q h s.leads

-- so who does has led
pub role-led : (doc : Doc) (k p i : ℕ) (h : List Entry) (r : Role) → RoleStands doc p i h r → alive p h ≡ Some i → leads_on doc.settings.rules.release doc (identity p i) k h ≡ true → leads (identity p i) h ≡ true
role-led doc k p i h (role.Down at) s up on = absurd (none_is i (sym s.0 ∙ up))
role-led doc k p i h (role.Candidate x) s up on = absurd (false_is (sym (candidate-not doc k (identity p i) h x s.1) ∙ on))
role-led doc k p i h (role.Leading x) s up on = s.1.leads
role-led doc k p i h (role.Releasing x) s up on = s.2

pub process-led : (doc : Doc) (k p : ℕ) (h : List Entry) (x : Process) → ProcessStands doc p h x → is_controller doc p ≡ true → alive p h ≡ Some (incarnation_of x) → leads_on doc.settings.rules.release doc (identity p (incarnation_of x)) k h ≡ true →
    leads (identity p (incarnation_of x)) h ≡ true
process-led doc k p h (process.Controller c) s sort up on = role-led doc k p c.incarnation h c.role s.role up on
process-led doc k p h (process.Kubelet b) s sort up on = absurd (false_is (sym s.sort ∙ sort))

-- ---- what a tick is given

pub view-is : (doc : Doc) (k : ℕ) (q : Identity) (h : List Entry) (c : Clocking) (v : View) → ClockStands doc q.process c → v.watch ≡ watches doc q.process h → v.passes ≡ not (loses_requests q.process h) → v.beat.0 ≡ k
    → v.now.0 ≡ reading c v.beat.0 → v.wall.0 ≡ wall_when c v.now.0 → IsView doc k q h v
view-is doc k q h c v clock watch passes beat now wall =
    let read : v.now.0 ≡ local doc q.process k = now ∙ ap (reading c) beat ∙ reading-local doc q.process k c clock in
    record { watch = watch; passes = passes; beat = beat; reading = read; time = wall ∙ wall-when doc q.process k v.now.0 c clock read }

-- ---- after it

-- without a tick all is as it was
pub ticked-not : (doc : Doc) (k p : ℕ) (h : List Entry) (c : Controller) (s : Store) (deeds : List Deed) → ticks doc k p h ≡ h → ControllerStands doc p h c → StoreStands h s → Ticked doc k p h c s deeds deeds
ticked-not doc k p h c s deeds is stands store = record {
  stands = subst (λ g. ControllerStands doc p g c) (sym is) stands;
  store = subst (λ g. StoreStands g s) (sym is) store;
  told = λ before told. told ∙ ap printed (sym is);
}

-- the elector doesn't look at a tick
role-tick : (doc : Doc) (k p i : ℕ) (q : Identity) (h : List Entry) (r : Role) → RoleStands doc p i h r → RoleStands doc p i (tick doc k q h) r
role-tick doc k p i q h r s = walk_tick doc k q (λ g. RoleStands doc p i g r) (λ t g made old. role-quiet doc p i (entry k 4 q (Ticks t)) g r refl refl refl old) h s

starts-tick : (doc : Doc) (k p : ℕ) (q : Identity) (h : List Entry) → starts p (tick doc k q h) ≡ starts p h
starts-tick doc k p q h = walk_tick doc k q (λ g. starts p g ≡ starts p h) (λ t g made same. same) h refl

-- the term and the store have the tick
pub ticked-acting : (doc : Doc) (k p : ℕ) (h : List Entry) (c : Controller) (t : Term) (s : Store) (old told : List Deed) → ticks doc k p h ≡ tick doc k (identity p c.incarnation) h → alive p h ≡ Some c.incarnation → ControllerStands doc p h c
    → after.Ticked doc k (identity p c.incarnation) h told t s → Ticked doc k p h (record c { term = with_value c.term t }) s old (old ++ told)
ticked-acting doc k p h c t s old told is up stands went =
    let q = identity p c.incarnation in
    let new = record c { term = with_value c.term t } in
    record {
      stands = subst (λ g. ControllerStands doc p g new) (sym is)
          (record {
            sort = stands.sort;
            me = stands.me;
            incarnation = stands.incarnation ∙ sym (starts-tick doc k p q h);
            timing = stands.timing;
            waits = stands.waits;
            clock = stands.clock;
            pauses = stands.pauses;
            up_first = stands.up_first;
            role = role-tick doc k p c.incarnation q h c.role stands.role;
            term = owns-ticked doc k p c.incarnation h c.term.value t up stands.term went.term;
            waking = stands.waking;
          });
      store = subst (λ g. StoreStands g s) (sym is) went.store;
      told = λ before told_before. sym (append_assoc before old told) ∙ ap (λ ds. ds ++ told) told_before ∙ went.told ∙ ap printed (sym is);
    }
