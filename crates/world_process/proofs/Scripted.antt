-- A controller through the script's entries: those on others, and those on itself.
use Rattle.std.proofs.Common.{◌≡◌, ℕ, ◌+◌, ◌<◌, ◌^◌, ◌++◌, true, false, List, [], ◌∷◌, Option, Some, None, refl, sym, ap, ◌∙◌, subst}
use Rattle.std.proofs.lemmas.List.{append-nil}
use Rattle.kube_base.specs.declared.numbers.ProcId.{ProcId}
use Rattle.kube_base.specs.declared.numbers.Version.{Version}
use Rattle.kube_objects.specs.declared.deed.Act.TheVariants as act
use Rattle.kube_objects.specs.declared.key.Key.{Key}
use Rattle.kube_objects.specs.declared.object.Object.{Object}
use Rattle.kube_objects.specs.declared.script.What.{What}
use Rattle.kube_objects.specs.declared.script.What.TheVariants as what
use Rattle.kube_objects.specs.Clocks.{store_wall, whole_second}
use Rattle.kube_objects.specs.Document.{Doc}
use Rattle.kube_objects.specs.Entry.{Entry, Identity, Fact, First, Event, Crashes, entry, script_entry, actor_of}
use Rattle.kube_objects.specs.Identities.{identity, is_by}
use Rattle.kube_objects.specs.Newest.{added, newest, when, join}
use Rattle.kube_objects.specs.Process.{alive, gone, life, cancels, ended, is_start, restart_says, starts}
use Rattle.kube_objects.specs.Stamps.{stamped}
use Rattle.history.specs.History.{put_all}
use Rattle.history.specs.Printed.{printed, deeds_of}
use Rattle.history.specs.Steps.{crash, happens, start, start_if_down}
use Rattle.history_laws.proofs.Plainly.{false_is}
use Rattle.leader_elector.proofs.Frames.{candidate-foreign, leading-foreign, releasing-foreign}
use Rattle.world_process.specs.declared.controller.Controller.{Controller}
use Rattle.world_process.specs.declared.controller.Role.{Role}
use Rattle.world_process.specs.declared.controller.Role.TheVariants as role
use Rattle.world_process.specs.Controllers.{Begun, ControllerStands, Crashed, RoleStands, is_up_as, restart_reading}
use Rattle.world_process.specs.Moves as moves
use Rattle.world_process.specs.Plain.{IsFew, IsPlain}
use Rattle.world_process.proofs.Beside.{controller-quiet}
use Rattle.world_process.proofs.Names.{eq-self, of_process-own}
use Rattle.world_process.proofs.OwnTerm.{keeps-beside, keeps-both}
use Rattle.world_process.proofs.Plainly.{starts-start}
use Rattle.world_process.proofs.Restarts.{starts-few}
use Rattle.world_process.proofs.Standing.{stands-role}
use Rattle.world_process.proofs.Terms.{leads-kept}
use Rattle.world_process.proofs.Unheard.{and-false}

-- ---- entries of the script that aren't on the process

pub controller-first : (doc : Doc) (p beat step : ℕ) (key : Key) (object : Object) (h : List Entry) (c : Controller) → ControllerStands doc p h c → ControllerStands doc p (script_entry beat step (First key object) ∷ h) c
controller-first doc p beat step key object h c s = controller-quiet doc p (script_entry beat step (First key object)) h c refl refl refl refl refl s

-- before beat 0
pub controller-put_all : (doc : Doc) (p : ℕ) (items : List (Key × Object)) (h : List Entry) (c : Controller) → ControllerStands doc p h c → ControllerStands doc p (put_all doc items h) c
controller-put_all doc p [] h c s = s
controller-put_all doc p (x ∷ xs) h c s =
    let object = stamped (whole_second (store_wall doc 0)) x.1 in
    controller-put_all doc p xs (script_entry 0 0 (First x.0 object) ∷ h) c (controller-first doc p 0 0 x.0 object h c s)

-- what the top entry says of a restart, and else the entries before it
abbrev said : Option (Option ℕ) → Option (Option ℕ) → Option ℕ
said now before = join (elim now as (λ o. Option (Option ℕ)) [ None ↦ before | Some y ↦ Some y ])

pub controller-event : (doc : Doc) (p k step : ℕ) (event : What) (version : Option Version) (h : List Entry) (c : Controller) → cancels doc p k event ≡ false → ControllerStands doc p h c → ControllerStands doc p (script_entry k step (Event event version) ∷ h) c
controller-event doc p k step event version h c other s =
    let ends = ap (λ b. said (when b None) (newest (λ e T. restart_says doc p e.beat e.actor e.fact T) h)) other in
    controller-quiet doc p (script_entry k step (Event event version)) h c refl ends refl refl refl s

-- ---- an event on the process itself

pub starts-script : (p k step : ℕ) (d : Fact) (h : List Entry) → starts p (script_entry k step d ∷ h) ≡ starts p h
starts-script p k step d h = ap (λ b. added b (starts p h)) (and-false (is_start d))

pub plain-script : (n k step : ℕ) (d : Fact) (h : List Entry) → IsPlain n h → IsPlain n (script_entry k step d ∷ h)
plain-script n k step d h s = record { fresh = λ p i less. (refl, s.fresh p i (subst (λ m. m < i) (starts-script p k step d h) less)); all = (tt, s.all) }

-- a restart that waits is cancelled
pub cancelled : (doc : Doc) (p k step : ℕ) (event : What) (version : Option Version) (h : List Entry) → cancels doc p k event ≡ true → ended doc p (script_entry k step (Event event version) ∷ h) ≡ None
cancelled doc p k step event version h own = ap (λ b. said (when b None) (newest (λ e T. restart_says doc p e.beat e.actor e.fact T) h)) own

pub down-is : (doc : Doc) (p i : ℕ) (h : List Entry) (r : Role) → is_up_as r ≡ false → RoleStands doc p i h r → alive p h ≡ None
down-is doc p i h (role.Down at) down s = s.0
down-is doc p i h (role.Candidate x) down s = cc
down-is doc p i h (role.Leading x) down s = cc
down-is doc p i h (role.Releasing x) down s = cc

-- a controller that is down, as it stands after an event on it
pub down-event : (doc : Doc) (p k step : ℕ) (event : What) (version : Option Version) (h : List Entry) (c : Controller) → cancels doc p k event ≡ true → is_up_as c.role ≡ false → ControllerStands doc p h c →
    ControllerStands doc p (script_entry k step (Event event version) ∷ h) (record c { role = role.Down None })
down-event doc p k step event version h c own down s =
    stands-role doc p h (script_entry k step (Event event version) ∷ h) c (role.Down None) s refl (keeps-beside doc p (script_entry k step (Event event version)) h refl)
    (down-is doc p c.incarnation h c.role down s.role, ap (restart_reading doc p) (sym (cancelled doc p k step event version h own)))

pub start-is : (doc : Doc) (k : ℕ) (id : ProcId) (h : List Entry) → alive id.0 h ≡ None → happens doc k (what.Start id) h ≡ start k 1 id.0 (script_entry k 1 (Event (what.Start id) None) ∷ h)
start-is doc k id h down = ap (λ up. start_if_down k 1 id.0 up (script_entry k 1 (Event (what.Start id) None) ∷ h)) down

pub begun-few : (doc : Doc) (k : ℕ) (id : ProcId) (h : List Entry) → alive id.0 h ≡ None → IsFew (happens doc k (what.Start id) h) → starts id.0 (script_entry k 1 (Event (what.Start id) None) ∷ h) + 1 < 2 ^ 32
begun-few doc k id h down few = starts-few k 1 id.0 (script_entry k 1 (Event (what.Start id) None) ∷ h) (subst IsFew (start-is doc k id h down) few)

-- a process of either sort that was down has started; i is its incarnation after it
pub begun-with : (doc : Doc) (k : ℕ) (id : ProcId) (h : List Entry) (i : ℕ) (Stands : List Entry → Type 0) → alive id.0 h ≡ None → i ≡ starts id.0 (start k 1 id.0 (script_entry k 1 (Event (what.Start id) None) ∷ h)) →
    Stands (start k 1 id.0 (script_entry k 1 (Event (what.Start id) None) ∷ h)) → moves.Begun doc k id h i Stands true
begun-with doc k id h i Stands down count stands =
    let q = identity id.0 (starts id.0 h + 1) in
    let is = start-is doc k id h down in
    let same : starts id.0 h + 1 ≡ i = sym (count ∙ starts-start k 1 q (script_entry k 1 (Event (what.Start id) None) ∷ h)) in
    record {
      stands = subst Stands (sym is) stands;
      told = ap printed is
          ∙ ap (λ ds. ds ++ deeds_of k (actor_of q) (Some act.Start)) (append-nil (printed h))
          ∙ ap (λ n. printed h ++ deeds_of k (actor_of (identity id.0 n)) (Some act.Start)) same;
    }

pub begun-starts : (doc : Doc) (k : ℕ) (id : ProcId) (h : List Entry) (c : Controller) → alive id.0 h ≡ None → ControllerStands doc id.0 (start k 1 id.0 (script_entry k 1 (Event (what.Start id) None) ∷ h)) c → Begun doc k id h c true
begun-starts doc k id h c down s = begun-with doc k id h c.incarnation (λ x. ControllerStands doc id.0 x c) down s.incarnation s

-- a controller that is up stays as it is
role-up-event : (doc : Doc) (p i : ℕ) (e : Entry) (h : List Entry) (r : Role) → is_up_as r ≡ true → alive p (e ∷ h) ≡ alive p h → is_by (identity p i) e.actor ≡ false → RoleStands doc p i h r → (alive p h ≡ Some i) × RoleStands doc p i (e ∷ h) r
role-up-event doc p i e h (role.Down at) up lives other s = absurd (false_is up)
role-up-event doc p i e h (role.Candidate x) up lives other s = (s.0, (lives ∙ s.0, candidate-foreign doc (identity p i) e h x other s.1))
role-up-event doc p i e h (role.Leading x) up lives other s = (s.0, (lives ∙ s.0, leading-foreign doc (identity p i) e h x other s.1))
role-up-event doc p i e h (role.Releasing x) up lives other s = (s.0, (lives ∙ s.0, releasing-foreign doc (identity p i) e h x other s.1, leads-kept (identity p i) e h s.2))

pub begun-up : (doc : Doc) (k : ℕ) (id : ProcId) (h : List Entry) (c : Controller) → is_up_as c.role ≡ true → ControllerStands doc id.0 h c → Begun doc k id h c false
begun-up doc k id h c up s =
    let e = script_entry k 1 (Event (what.Start id) None) in
    let r = role-up-event doc id.0 c.incarnation e h c.role up refl refl s.role in
    let is : happens doc k (what.Start id) h ≡ e ∷ h = ap (λ x. start_if_down k 1 id.0 x (e ∷ h)) r.0 in
    record {
      stands = subst (λ g. ControllerStands doc id.0 g c) (sym is) (stands-role doc id.0 h (e ∷ h) c c.role s refl (keeps-beside doc id.0 e h refl) r.1);
      told = ap printed is;
    }

-- ---- it crashes

alive-crash : (k step : ℕ) (q : Identity) (h : List Entry) → alive q.process (entry k step q Crashes ∷ h) ≡ None
alive-crash k step q h = ap (λ o. join (elim (gone o) as (λ x. Option (Option ℕ)) [ None ↦ life q.process h | Some y ↦ Some y ])) (of_process-own q)

pub controller-crashed : (doc : Doc) (k : ℕ) (id : ProcId) (h : List Entry) (c : Controller) → ControllerStands doc id.0 h c → Crashed doc k id h (record c { role = role.Down None }) (is_up_as c.role)
controller-crashed doc k id h c s = by_role c.role s.role
  where
    p : ℕ
    p = id.0

    q : Identity
    q = identity p c.incarnation

    c' : Controller
    c' = record c { role = role.Down None }

    e : Entry
    e = script_entry k 1 (Event (what.Crash id) None)

    rests : alive p h ≡ None → Crashed doc k id h c' false
    rests down =
        let next : happens doc k (what.Crash id) h ≡ e ∷ h = ap (λ o. crash k p o (e ∷ h)) down in
        record {
          stands = subst (λ g. ControllerStands doc p g c') (sym next) (stands-role doc p h (e ∷ h) c (role.Down None) s refl (keeps-beside doc p e h refl) (down, ap (restart_reading doc p) (sym (cancelled doc p k 1 (what.Crash id) None h (eq-self p)))));
          told = ap printed next;
        }

    falls : alive p h ≡ Some c.incarnation → Crashed doc k id h c' true
    falls up =
        let f = entry k 1 q Crashes in
        let next : happens doc k (what.Crash id) h ≡ f ∷ e ∷ h = ap (λ o. crash k p o (e ∷ h)) up in
        record {
          stands = subst (λ g. ControllerStands doc p g c') (sym next) (stands-role doc p h (f ∷ e ∷ h) c (role.Down None) s refl (keeps-both doc p f e h refl refl) (alive-crash k 1 q (e ∷ h), ap (restart_reading doc p) (sym (cancelled doc p k 1 (what.Crash id) None h (eq-self p)))));
          told = ap printed next ∙ ap (λ ds. ds ++ deeds_of k (actor_of q) (Some act.Crash)) (append-nil (printed h));
        }

    by_role : (r : Role) → RoleStands doc p c.incarnation h r → Crashed doc k id h c' (is_up_as r)
    by_role (role.Down at) down = rests down.0
    by_role (role.Candidate x) up = falls up.0
    by_role (role.Leading x) up = falls up.0
    by_role (role.Releasing x) up = falls up.0
