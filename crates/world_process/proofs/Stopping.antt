-- A stop of a controller, by what it is and what its elector answers.
use Rattle.std.proofs.Common.{◌≡◌, ℕ, ◌+◌, ◌++◌, ◌==◌, ◌&&◌, not, Bool, true, false, List, ◌∷◌, Option, Some, None, refl, sym, ap, ◌∙◌, subst}
use Rattle.std.proofs.lemmas.List.{append-nil}
use Rattle.kube_base.specs.declared.numbers.ProcId.{ProcId}
use Rattle.kube_objects.specs.declared.call.Ask.{Ask}
use Rattle.kube_objects.specs.declared.call.Request.{Request}
use Rattle.kube_objects.specs.declared.rules.ReleaseRule.{ReleaseRule}
use Rattle.kube_objects.specs.declared.rules.ReleaseRule.TheVariants as rules
use Rattle.kube_objects.specs.declared.script.What.TheVariants as what
use Rattle.kube_objects.specs.Clocks.{wall}
use Rattle.kube_objects.specs.Document.{Doc}
use Rattle.kube_objects.specs.Elector.{leads, release, release_from, shown}
use Rattle.kube_objects.specs.Entry.{Entry, Identity, CallKind, Event, Stops, Sends, Release, ReleaseBegins, ReleaseStops, entry, script_entry}
use Rattle.kube_objects.specs.Identities.{identity}
use Rattle.kube_objects.specs.Newest.{when, only_if, join}
use Rattle.kube_objects.specs.Pauses.{is_paused}
use Rattle.kube_objects.specs.Process.{alive, cancels, ended, gone, is_ending, is_releasing, life}
use Rattle.kube_objects.specs.Releases.{end_release, first_call, send_first}
use Rattle.kube_objects.specs.Wire.{next_call, send}
use Rattle.kube_objects.proofs.OwnCalls.{said}
use Rattle.history.specs.Printed.{printed}
use Rattle.history.specs.Steps.{happens, released, stop, stop_as, stop_releasing}
use Rattle.leader_elector.specs.declared.candidate.Candidate.{Candidate}
use Rattle.leader_elector.specs.declared.ended.Ended.{Ended}
use Rattle.leader_elector.specs.declared.ended.Released.TheVariants.{AtOnce, Begins}
use Rattle.leader_elector.specs.declared.releasing.Releasing.{Releasing}
use Rattle.leader_elector.specs.Moves.{Asked, Releases, StopsLeading, with_begin}
use Rattle.leader_elector.specs.Stands.{CandidateStands, ReleasingStands}
use Rattle.leader_elector.proofs.Frames.{releasing-foreign}
use Rattle.world_process.specs.declared.controller.Controller.{Controller}
use Rattle.world_process.specs.declared.controller.Role.{Role}
use Rattle.world_process.specs.declared.controller.Role.TheVariants as role
use Rattle.world_process.specs.Controllers.{ControllerStands, RoleStands, StoppedAs, is_up_as, restart_reading}
use Rattle.world_process.specs.Moves.{ended_deeds, stopped_deeds}
use Rattle.world_process.proofs.Names.{eq-self, of_process-own}
use Rattle.world_process.proofs.OwnTerm.{KeepsTerm, keeps-beside, keeps-both, keeps-down}
use Rattle.world_process.proofs.Quiet.{Adds, adds-none, adds-one, adds-over, adds-then, adds-told}
use Rattle.world_process.proofs.Releases.{acts-not, alive-over, ended-over, ending-begins, has-release, starts-over, stops-by-release}
use Rattle.world_process.proofs.Scripted.{cancelled, controller-event, down-event, down-is}
use Rattle.world_process.proofs.Standing.{stands-role}
use Rattle.world_process.proofs.Unheard.{and-false}

alive-stop : (k step : ℕ) (q : Identity) (h : List Entry) → alive q.process (entry k step q Stops ∷ h) ≡ None
alive-stop k step q h = ap (λ o. join (said (gone o) (life q.process h))) (of_process-own q)

-- a candidate's stop, under every rule
candidate-stops : (rule : ReleaseRule) (doc : Doc) (k : ℕ) (q : Identity) (before h : List Entry) → leads q before ≡ false → is_releasing q before ≡ false → stop_as rule doc k q before h ≡ entry k 1 q Stops ∷ h
candidate-stops rule doc k q before h unled rests = by_rule rule
  where
    by_release : stop_releasing doc k q (is_releasing q before) (leads q before) h ≡ entry k 1 q Stops ∷ h
    by_release = ap (λ b. stop_releasing doc k q b (leads q before) h) rests ∙ ap (λ b. stop_releasing doc k q false b h) unled

    by_rule : (rule : ReleaseRule) → stop_as rule doc k q before h ≡ entry k 1 q Stops ∷ h
    by_rule rules.Stop = ap (λ b. released doc k q (only_if b (release_from q (wall doc q.process k) (shown q before))) (entry k 1 q Stops ∷ h)) unled
    by_rule rules.Own = by_release
    by_rule rules.Checked = by_release
    by_rule rules.Reread = by_release

-- ---- what is done

module _ (doc : Doc) (k : ℕ) (id : ProcId) (h : List Entry) where
  abbrev p : ℕ
  p = id.0

  -- with the script's entry
  abbrev g : List Entry
  g = script_entry k 1 (Event (what.Stop id) None) ∷ h

  stopped-stays : (f : List Entry) (c : Controller) (b : Bool) → happens doc k (what.Stop id) h ≡ f → Adds k 1 (identity p c.incarnation) g f (stopped_deeds k (identity p c.incarnation) b) → ControllerStands doc p f c
      → StoppedAs doc k id h c (record { stopped = b; ask = None })
  stopped-stays f c b is a stands =
      record {
        told = ap printed is ∙ a.told ∙ ap (λ ds. ds ++ stopped_deeds k (identity p c.incarnation) b) (append-nil (printed h));
        asks = record { facts = a.facts; quiet = a.quiet; asks = (is ∙ a.is, subst (λ x. ControllerStands doc p x c) a.is stands) };
      }

  stopped-asks : (f : List Entry) (c : Controller) (b : Bool) (ask : Ask) → Adds k 1 (identity p c.incarnation) g f (stopped_deeds k (identity p c.incarnation) b)
      → Asked doc k 1 (identity p c.incarnation) f (happens doc k (what.Stop id) h) (λ x. ControllerStands doc p x c) ask → StoppedAs doc k id h c (record { stopped = b; ask = Some ask })
  stopped-asks f c b ask a x =
      record {
        told = ap printed x.sent ∙ append-nil (printed f) ∙ a.told ∙ ap (λ ds. ds ++ stopped_deeds k (identity p c.incarnation) b) (append-nil (printed h));
        asks = record {
          facts = a.facts;
          quiet = a.quiet;
          asks = subst (λ y. Asked doc k 1 (identity p c.incarnation) y (happens doc k (what.Stop id) h) (λ z. ControllerStands doc p z c) ask) a.is x;
        };
      }

  -- a controller that is paused isn't stopped
  pub stopped-paused : (c : Controller) → is_paused doc p k ≡ true → ControllerStands doc p h c → StoppedAs doc k id h c (record { stopped = false; ask = None })
  stopped-paused c paused s =
      stopped-stays g c false (ap (λ b. stop doc k p (only_if (not b) (alive p h)) h g) paused) (adds-none k 1 (identity p c.incarnation) g)
      (controller-event doc p k 1 (what.Stop id) None h c (ap (λ b. (p == p) && not b) paused ∙ and-false (p == p)) s)

  -- ---- where it isn't paused

  module _ (c : Controller) (awake : is_paused doc p k ≡ false) (s : ControllerStands doc p h c) where
    abbrev q : Identity
    q = identity p c.incarnation

    abbrev c' : Controller
    c' = record c { role = role.Down None }

    own : cancels doc p k (what.Stop id) ≡ true
    own = ap (λ a. a && not (is_paused doc p k)) (eq-self p) ∙ ap not awake

    -- one that is down goes on in that
    pub stopped-down : is_up_as c.role ≡ false → StoppedAs doc k id h c' (record { stopped = false; ask = None })
    stopped-down down =
        stopped-stays g c' false
        (ap (λ b. stop doc k p (only_if (not b) (alive p h)) h g) awake ∙ ap (λ x. stop doc k p x h g) (down-is doc p c.incarnation h c.role down s.role))
        (adds-none k 1 q g) (down-event doc p k 1 (what.Stop id) None h c own down s)

    -- one that is up
    stop-is : alive p h ≡ Some c.incarnation → happens doc k (what.Stop id) h ≡ stop_as doc.settings.rules.release doc k q h g
    stop-is up = ap (λ b. stop doc k p (only_if (not b) (alive p h)) h g) awake ∙ ap (λ x. stop doc k p x h g) up

    -- no restart waits
    cancelled-is : ended doc p g ≡ None
    cancelled-is = cancelled doc p k 1 (what.Stop id) None h own

    keeps-stop : KeepsTerm doc p h (entry k 1 q Stops ∷ g)
    keeps-stop = keeps-both doc p (entry k 1 q Stops) (script_entry k 1 (Event (what.Stop id) None)) h refl refl

    down-stop : RoleStands doc p c.incarnation (entry k 1 q Stops ∷ g) (role.Down None)
    down-stop = (alive-stop k 1 q g, ap (restart_reading doc p) (sym cancelled-is))

    pub stopped-candidate : (x : Candidate) → alive p h ≡ Some c.incarnation → CandidateStands doc q h x → StoppedAs doc k id h c' (record { stopped = true; ask = None })
    stopped-candidate x up was =
        let f = entry k 1 q Stops ∷ g in
        stopped-stays f c' true (stop-is up ∙ candidate-stops doc.settings.rules.release doc k q h g was.leads was.unreleased) (adds-one k 1 q Stops g refl)
        (stands-role doc p h f c (role.Down None) s refl keeps-stop down-stop)

    -- ---- a release goes on that runs

    pub stopped-releasing : (x r : Releasing) → alive p h ≡ Some c.incarnation → leads q h ≡ true → ReleasingStands doc q h x → (ReleasingStands doc q g x → ReleasingStands doc q (entry k 1 q ReleaseStops ∷ g) r)
        → StoppedAs doc k id h (record c { role = role.Releasing r }) (record { stopped = true; ask = None })
    stopped-releasing x r up led was stops =
        let e = script_entry k 1 (Event (what.Stop id) None) in
        let d = entry k 1 q ReleaseStops in
        let rule = doc.settings.rules.release in
        stopped-stays (d ∷ g) (record c { role = role.Releasing r }) true
        (stop-is up ∙ stops-by-release rule doc k q h g (has-release rule was.call.kind was.from was.began) ∙ ap (λ b. stop_releasing doc k q b (leads q h) g) was.runs)
        (adds-one k 1 q ReleaseStops g refl)
        (stands-role doc p h (d ∷ g) c (role.Releasing r) s refl (keeps-both doc p d e h refl refl) (up, stops (releasing-foreign doc q e h x refl was), led))

    -- ---- a leader's update

    by_update : (o : Option Request) (ask : Option Ask) → happens doc k (what.Stop id) h ≡ released doc k q o (entry k 1 q Stops ∷ g) → Releases q g o ask → StoppedAs doc k id h c' (record { stopped = true; ask = ask })
    by_update None None is r = stopped-stays (entry k 1 q Stops ∷ g) c' true is (adds-one k 1 q Stops g refl) (stands-role doc p h (entry k 1 q Stops ∷ g) c (role.Down None) s refl keeps-stop down-stop)
    by_update None (Some ask) is r = absurd r
    by_update (Some request) None is r = absurd r
    by_update (Some request) (Some ask) is r =
        let f = entry k 1 q Stops ∷ g in
        stopped-asks f c' true ask (adds-one k 1 q Stops g refl)
        (record {
          kind = Release;
          sent = is ∙ ap (λ x. send doc k 1 q Release x f) (sym r.0);
          number = r.1;
          stands = λ arrives.
              let x = entry k 1 q (Sends (next_call q k Release ask.request f) arrives) in
              stands-role doc p h (x ∷ f) c (role.Down None) s refl (λ t owns. keeps-beside doc p x f refl t (keeps-stop t owns)) down-stop;
        })

    -- ---- a leader's release

    abbrev stopping : List Entry
    stopping = entry k 1 q ReleaseStops ∷ g

    abbrev begun : List Entry
    begun = with_begin k 1 q false stopping

    abbrev first : Option (CallKind × Request)
    first = first_call doc.settings.rules.release k (release_from q (wall doc p k) (shown q stopping))

    begins-is : alive p h ≡ Some c.incarnation → leads q h ≡ true → is_releasing q h ≡ false → (doc.settings.rules.release ≡ rules.Stop → ⊥) → happens doc k (what.Stop id) h ≡ send_first doc k 1 q first begun
    begins-is up led rests other =
        stop-is up
        ∙ stops-by-release doc.settings.rules.release doc k q h g other
        ∙ ap (λ b. stop_releasing doc k q b (leads q h) g) rests
        ∙ ap (λ b. stop_releasing doc k q false b g) led

    adds-begun : Adds k 1 q g begun (stopped_deeds k q true)
    adds-begun = adds-then (adds-one k 1 q ReleaseStops g refl) (adds-one k 1 q (ReleaseBegins false) stopping refl)

    keeps-begun : KeepsTerm doc p h begun
    keeps-begun t owns =
        keeps-both doc p (entry k 1 q (ReleaseBegins false)) (entry k 1 q ReleaseStops) g refl refl t (keeps-beside doc p (script_entry k 1 (Event (what.Stop id) None)) h refl t owns)

    -- nothing is to be asked
    stopped-over : happens doc k (what.Stop id) h ≡ send_first doc k 1 q first begun → first ≡ None → StoppedAs doc k id h c' (record { stopped = true; ask = None })
    stopped-over is none =
        let f = end_release doc k 1 q begun in
        let unending : is_ending q begun ≡ false = ending-begins k 1 q false stopping in
        let down : alive p f ≡ None = alive-over doc k 1 q begun in
        let rests : ended doc p f ≡ None = ended-over doc p c.incarnation k 1 begun ∙ ap (λ b. when b k) unending in
        stopped-stays f c' true (is ∙ ap (λ o. send_first doc k 1 q o begun) none)
        (adds-told (ap (λ b. stopped_deeds k q true ++ ended_deeds k q b) (acts-not doc q begun unending)) (adds-then adds-begun (adds-over doc k 1 q begun)))
        (stands-role doc p h f c (role.Down None) s (starts-over doc p k 1 q begun) (keeps-down doc p h f down) (down, ap (restart_reading doc p) (sym rests)))

    stopped-begins : (r : Releasing) (ask : Ask) (call : CallKind × Request) → alive p h ≡ Some c.incarnation → leads q h ≡ true → happens doc k (what.Stop id) h ≡ send_first doc k 1 q first begun → first ≡ Some call →
        Asked doc k 1 q begun (send doc k 1 q call.0 call.1 begun) (λ x. ReleasingStands doc q x r) ask → StoppedAs doc k id h (record c { role = role.Releasing r }) (record { stopped = true; ask = Some ask })
    stopped-begins r ask call up led is some a =
        stopped-asks begun (record c { role = role.Releasing r }) true ask adds-begun
        (record {
          kind = a.kind;
          sent = is ∙ ap (λ o. send_first doc k 1 q o begun) some ∙ a.sent;
          number = a.number;
          stands = λ arrives.
              let x = entry k 1 q (Sends (next_call q k a.kind ask.request begun) arrives) in
              stands-role doc p h (x ∷ begun) c (role.Releasing r) s refl (λ t owns. keeps-beside doc p x begun refl t (keeps-begun t owns)) (up, a.stands arrives, led);
        })

    -- ---- a leader is stopped

    module _ (up : alive p h ≡ Some c.incarnation) (led : leads q h ≡ true) (rests : is_releasing q h ≡ false) where
      pub leading-at-once : (x : Ended) (ask : Option Ask) → StopsLeading doc k q g (AtOnce x ask) → StoppedAs doc k id h c' (record { stopped = true; ask = ask })
      leading-at-once x ask t = by_rule doc.settings.rules.release refl
        where
          by_release : (doc.settings.rules.release ≡ rules.Stop → ⊥) → StoppedAs doc k id h c' (record { stopped = true; ask = ask })
          by_release other =
              let none = t.2 other in
              subst (λ a. StoppedAs doc k id h c' (record { stopped = true; ask = a })) (sym none.0) (stopped-over (begins-is up led rests other) none.1)

          by_rule : (rule : ReleaseRule) → doc.settings.rules.release ≡ rule → StoppedAs doc k id h c' (record { stopped = true; ask = ask })
          by_rule rules.Stop is = by_update (release doc q k g) ask (stop-is up ∙ ap (λ r. stop_as r doc k q h g) is) (t.1 is)
          by_rule rules.Own is = by_release (λ other. let no = sym is ∙ other in cc)
          by_rule rules.Checked is = by_release (λ other. let no = sym is ∙ other in cc)
          by_rule rules.Reread is = by_release (λ other. let no = sym is ∙ other in cc)

      pub leading-begins : (r : Releasing) (ask : Ask) → StopsLeading doc k q g (Begins r ask) → StoppedAs doc k id h (record c { role = role.Releasing r }) (record { stopped = true; ask = Some ask })
      leading-begins r ask t = stopped-begins r ask t.1.0 up led (begins-is up led rests t.0) t.1.1 t.1.2
