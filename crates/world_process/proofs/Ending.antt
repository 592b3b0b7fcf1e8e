-- A leader's turn at its deadline, and the turn of a controller whose release runs.
use Rattle.std.proofs.Common.{◌≡◌, ℕ, ◌+◌, ◌++◌, not, Bool, true, false, List, ◌∷◌, Some, None, refl, sym, ap, ◌∙◌}
use Rattle.std.proofs.lemmas.List.{append-nil}
use Rattle.kube_base.specs.declared.numbers.Local.{Local}
use Rattle.kube_objects.specs.declared.call.Ask.{Ask}
use Rattle.kube_objects.specs.declared.rules.ReleaseRule.{ReleaseRule}
use Rattle.kube_objects.specs.declared.rules.ReleaseRule.TheVariants.{Stop, Own, Checked, Reread}
use Rattle.kube_objects.specs.CallSlots.{release_of}
use Rattle.kube_objects.specs.Clocks.{local}
use Rattle.kube_objects.specs.Document.{Doc, restart_delay}
use Rattle.kube_objects.specs.Elector.{acts_by, leads}
use Rattle.kube_objects.specs.Entry.{Entry, Identity, Ends, ReleaseBegins, Sends, entry}
use Rattle.kube_objects.specs.Identities.{identity}
use Rattle.kube_objects.specs.Newest.{when}
use Rattle.kube_objects.specs.Process.{alive, call_in, ended, starts}
use Rattle.kube_objects.specs.Releases.{end_release}
use Rattle.kube_objects.specs.Turns.{expired}
use Rattle.kube_objects.specs.Wire.{next_call, request_arrival, send}
use Rattle.history.specs.Steps.{attempts, finish}
use Rattle.leader_elector.specs.declared.ended.ReleaseEnd.{ReleaseEnd}
use Rattle.leader_elector.specs.declared.releasing.Releasing.{Releasing}
use Rattle.leader_elector.specs.Moves.{Asked, IsOver, over_at, stepped_down, tested, with_begin}
use Rattle.leader_elector.specs.Releases.{acts_until}
use Rattle.leader_elector.specs.Stands.{ReleasingStands}
use Rattle.world_process.specs.declared.controller.Controller.{Controller}
use Rattle.world_process.specs.declared.controller.Role.TheVariants as role
use Rattle.world_process.specs.Beats.{reading_of}
use Rattle.world_process.specs.Controllers.{ControllerStands, Timed, restart_reading}
use Rattle.world_process.specs.Moves.{ended_deeds, settled}
use Rattle.world_process.proofs.Lives.{alive-end, ended-end}
use Rattle.world_process.proofs.OwnTerm.{KeepsTerm, keeps-and-end, keeps-beside, keeps-down, keeps-expired}
use Rattle.world_process.proofs.Quiet.{Adds, adds-end, adds-expired, adds-none, adds-one, adds-over, adds-then, adds-told, alive-expired, expired-same, starts-expired}
use Rattle.world_process.proofs.Releases.{acts-begins, alive-and-end, alive-over, ended-over, ending-begins, has-release, leads-and-end, runs-on, starts-and-end, starts-over, waits-tries}
use Rattle.world_process.proofs.Standing.{stands-role}
use Rattle.world_process.proofs.Timers.{timed-asks, timed-stays, up-settled}
use Rattle.world_process.proofs.Turning.{attempts-down, attempts-up, expire-up, finish-down, finish-up}

-- where the process starts again that is down
pub back-reading : (doc : Doc) (p k : ℕ) (b : Bool) (at : Local) → at.0 ≡ local doc p k + restart_delay doc → reading_of (when b at) ≡ restart_reading doc p (when b k)
back-reading doc p k true at is = ap (λ (n : ℕ). Some n) is
back-reading doc p k false at is = refl

-- ---- what a deadline adds

module _ (doc : Doc) (k p i : ℕ) (h : List Entry) (up : alive p h ≡ Some i) where
  abbrev q : Identity
  q = identity p i

  -- whether the leader acts until its release has ended
  abbrev on : Bool
  on = acts_by doc.settings.rules.in_release true

  abbrev stepped : List Entry
  stepped = stepped_down doc k q h

  abbrev begun : List Entry
  begun = with_begin k 4 q true stepped

  pub alive-begun : alive p begun ≡ Some i
  alive-begun = alive-and-end p k 4 q (not on) h ∙ up

  pub starts-begun : starts p begun ≡ starts p h
  starts-begun = starts-and-end p k 4 q (not on) h

  pub keeps-begun : KeepsTerm doc p h begun
  keeps-begun t s = keeps-beside doc p (entry k 4 q (ReleaseBegins true)) stepped refl t (keeps-and-end doc p k 4 q (not on) h t s)

  pub leads-begun : leads q h ≡ true → leads q begun ≡ true
  leads-begun led = leads-and-end k 4 q (not on) h ∙ led

  pub adds-begun : Adds k 4 q h begun (ended_deeds k q (not on))
  adds-begun = adds-told (append-nil (ended_deeds k q (not on))) (adds-then (adds-end k 4 q (not on) h) (adds-one k 4 q (ReleaseBegins true) stepped refl))

  told-once : (b : Bool) → ended_deeds k q (not b) ++ ended_deeds k q b ≡ ended_deeds k q true
  told-once true = refl
  told-once false = refl

  -- the release is over as it begins
  adds-at-once : Adds k 4 q h (end_release doc k 4 q begun) (ended_deeds k q true)
  adds-at-once =
      adds-told (ap (λ b. ended_deeds k q (not on) ++ ended_deeds k q b) (acts-begins doc k 4 q true stepped (alive-and-end p k 4 q (not on) h ∙ up)) ∙ told-once on)
      (adds-then adds-begun (adds-over doc k 4 q begun))

  adds-at-end : (rule : ReleaseRule) → Adds k 4 q h (over_at rule doc k q h) (ended_deeds k q true)
  adds-at-end Stop = adds-one k 4 q Ends h refl
  adds-at-end Own = adds-at-once
  adds-at-end Checked = adds-at-once
  adds-at-end Reread = adds-at-once

  down-at-end : (rule : ReleaseRule) → alive p (over_at rule doc k q h) ≡ None
  down-at-end Stop = alive-end k 4 q h
  down-at-end Own = alive-over doc k 4 q begun
  down-at-end Checked = alive-over doc k 4 q begun
  down-at-end Reread = alive-over doc k 4 q begun

  ended-at-once : ended doc p (end_release doc k 4 q begun) ≡ Some k
  ended-at-once = ended-over doc p i k 4 begun ∙ ap (λ b. when b k) (ending-begins k 4 q true stepped)

  ended-at-end : (rule : ReleaseRule) → ended doc p (over_at rule doc k q h) ≡ Some k
  ended-at-end Stop = ended-end doc k 4 q h
  ended-at-end Own = ended-at-once
  ended-at-end Checked = ended-at-once
  ended-at-end Reread = ended-at-once

  starts-at-end : (rule : ReleaseRule) → starts p (over_at rule doc k q h) ≡ starts p h
  starts-at-end Stop = refl
  starts-at-end Own = starts-over doc p k 4 q begun ∙ starts-begun
  starts-at-end Checked = starts-over doc p k 4 q begun ∙ starts-begun
  starts-at-end Reread = starts-over doc p k 4 q begun ∙ starts-begun

-- what its release says of it
pub acts-at-deadline : (doc : Doc) (k p i : ℕ) (h : List Entry) (r : Releasing) (ask : Ask) {next : List Entry} → Asked doc k 4 (identity p i) (with_begin k 4 (identity p i) true (stepped_down doc k (identity p i) h)) next (λ x. ReleasingStands doc (identity p i) x r) ask →
    acts_until r ≡ acts_by doc.settings.rules.in_release true
acts-at-deadline doc k p i h r ask a =
    let q = identity p i in
    let last = a.stands None in
    ap (λ x. acts_by x r.ending) last.timing.in_release ∙ ap (acts_by doc.settings.rules.in_release) (last.ending ∙ ending-begins k 4 q true (stepped_down doc k q h))

-- ---- a leader at its deadline

module _ (doc : Doc) (k p : ℕ) (h : List Entry) (c : Controller) (s : ControllerStands doc p h c) (up : alive p h ≡ Some c.incarnation) (plain : release_of doc (call_in (identity p c.incarnation) h) ≡ None) where
  abbrev me : Identity
  me = identity p c.incarnation

  abbrev e : List Entry
  e = expired doc k me h

  up-after : alive p e ≡ Some c.incarnation
  up-after = alive-expired doc k p me h plain ∙ up

  pub leading-ends : (at : Local) → tested doc k me e ≡ over_at doc.settings.rules.release doc k me e → at.0 ≡ local doc p k + restart_delay doc → Timed doc k p h (record c { role = role.Down (Some at) }) true None
  leading-ends at goes at_is =
      let rule = doc.settings.rules.release in
      let g = over_at rule doc k me e in
      let down : alive p g ≡ None = down-at-end doc k p c.incarnation e up-after rule in
      let restarts : Some at.0 ≡ restart_reading doc p (ended doc p g) = ap (λ (n : ℕ). Some n) at_is ∙ ap (restart_reading doc p) (sym (ended-at-end doc k p c.incarnation e up-after rule)) in
      timed-stays doc k p h g (record c { role = role.Down (Some at) }) true (ap (attempts doc k p) (up-settled doc k p c.incarnation h up plain ∙ goes) ∙ attempts-down doc k p g down)
      (adds-then (adds-expired doc k me h plain) (adds-at-end doc k p c.incarnation e up-after rule))
      (stands-role doc p h g c (role.Down (Some at)) s (starts-at-end doc k p c.incarnation e up-after rule ∙ starts-expired doc k p me h plain) (keeps-down doc p h g down) (down, restarts))

  pub leading-releases : (r : Releasing) (ask : Ask) (end : Bool) → leads me h ≡ true → end ≡ not (acts_by doc.settings.rules.in_release true) →
      Asked doc k 4 me (with_begin k 4 me true (stepped_down doc k me e)) (tested doc k me e) (λ x. ReleasingStands doc me x r) ask → Timed doc k p h (record c { role = role.Releasing r }) end (Some ask)
  leading-releases r ask end led ends a =
      let g = with_begin k 4 me true (stepped_down doc k me e) in
      let next = send doc k 4 me a.kind ask.request g in
      let last : ReleasingStands doc me next r = a.stands (request_arrival doc p k g) in
      let led_e : leads me e ≡ true = expired-same (leads me) doc k me h plain (λ call. refl) ∙ led in
      let up_g : alive p g ≡ Some c.incarnation = alive-begun doc k p c.incarnation e up-after in
      timed-asks doc k p h g (record c { role = role.Releasing r }) end ask
      (adds-told (ap (ended_deeds k me) (sym ends)) (adds-then (adds-expired doc k me h plain) (adds-begun doc k p c.incarnation e up-after)))
      (record {
        kind = a.kind;
        sent = ap (attempts doc k p) (up-settled doc k p c.incarnation h up plain ∙ a.sent) ∙ attempts-up doc k p c.incarnation next up_g ∙ waits-tries doc k me next last.call last.waits;
        number = a.number;
        stands = λ arrives.
            let x = entry k 4 me (Sends (next_call me k a.kind ask.request g) arrives) in
            stands-role doc p h (x ∷ g) c (role.Releasing r) s (starts-begun doc k p c.incarnation e up-after ∙ starts-expired doc k p me h plain)
            (λ t owns. keeps-beside doc p x g refl t (keeps-begun doc k p c.incarnation e up-after t (keeps-expired doc k p me h t owns)))
            (up_g, a.stands arrives, leads-begun doc k p c.incarnation e up-after led_e);
      })

-- ---- a release that runs

module _ (doc : Doc) (k p : ℕ) (h : List Entry) (c : Controller) (s : ControllerStands doc p h c) (up : alive p h ≡ Some c.incarnation) where
  abbrev own : Identity
  own = identity p c.incarnation

  pub releasing-stays : (r : Releasing) → leads own h ≡ true → expired doc k own h ≡ h → ReleasingStands doc own h r → Timed doc k p h (record c { role = role.Releasing r }) false None
  releasing-stays r led same x =
      let goes : tested doc k own h ≡ h = runs-on doc k own h (has-release doc.settings.rules.release x.call.kind x.from x.began) x.runs in
      let is : settled doc k p h ≡ h = ap (finish doc k p) (expire-up doc k p c.incarnation h up ∙ same) ∙ finish-up doc k p c.incarnation h up ∙ goes in
      timed-stays doc k p h h (record c { role = role.Releasing r }) false
      (ap (attempts doc k p) is ∙ attempts-up doc k p c.incarnation h up ∙ waits-tries doc k own h x.call x.waits) (adds-none k 4 own h)
      (stands-role doc p h h c (role.Releasing r) s refl (λ t owns. owns) (up, x, led))

  pub releasing-over : (end : ReleaseEnd) (at : Local) → expired doc k own h ≡ end_release doc k 4 own h → IsOver doc own h end → at.0 ≡ local doc p k + restart_delay doc →
      Timed doc k p h (record c { role = role.Down (when end.restarts at) }) end.acted None
  releasing-over end at next x at_is =
      let g = end_release doc k 4 own h in
      let new = role.Down (when end.restarts at) in
      let down : alive p g ≡ None = alive-over doc k 4 own h in
      let is : settled doc k p h ≡ g = ap (finish doc k p) (expire-up doc k p c.incarnation h up ∙ next) ∙ finish-down doc k p g down in
      let restarts : reading_of (when end.restarts at) ≡ restart_reading doc p (ended doc p g) =
      back-reading doc p k end.restarts at at_is ∙ ap (λ b. restart_reading doc p (when b k)) x.restarts ∙ ap (restart_reading doc p) (sym (ended-over doc p c.incarnation k 4 h)) in
      timed-stays doc k p h g (record c { role = new }) end.acted (ap (attempts doc k p) is ∙ attempts-down doc k p g down)
      (adds-told (ap (ended_deeds k own) (sym x.acted)) (adds-over doc k 4 own h))
      (stands-role doc p h g c new s (starts-over doc p k 4 own h) (keeps-down doc p h g down) (down, restarts))
