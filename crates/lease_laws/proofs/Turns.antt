-- No turn changes the election Lease, nor an identity's deadline, how often it was stopped, or how often it has given up its Lease.
use Rattle.std.proofs.Common.{◌≡◌, ℕ, not, Bool, true, false, List, ◌∷◌, Option, Some, None, refl, ◌∙◌}
use Rattle.kube_objects.specs.declared.call.Request.{Request}
use Rattle.kube_objects.specs.Clocks.{wall}
use Rattle.kube_objects.specs.Document.{Doc, is_controller}
use Rattle.kube_objects.specs.Elector.{acts_by, acts_on, shown, deadline, release_from}
use Rattle.kube_objects.specs.Entry.{Entry, Identity, CallKind, ReleaseBegins, entry}
use Rattle.kube_objects.specs.Identities.{identity}
use Rattle.kube_objects.specs.Pauses.{is_paused}
use Rattle.kube_objects.specs.Process.{stops}
use Rattle.kube_objects.specs.Releases.{and_end, first_call, send_first}
use Rattle.kube_objects.specs.Stored.{stored, election}
use Rattle.history.specs.Steps.{turn, turns, elector_turn}
use Rattle.history_laws.proofs.Ticks.{walk_tick}
use Rattle.history_laws.proofs.Walk.{Anyone, KeepsTurn, KeepsReleaseTurn, ticked_turns, walk_to_tick, walk_any_turn, walk_any_turns}
use Rattle.lease_laws.proofs.Invariant.{freed}
use Rattle.lease_laws.proofs.Quiet.{stored_tick}

-- the same of an identity
abbrev pub SameOf : Doc → Identity → List Entry → List Entry → Type 0
SameOf doc q h g = (stored election g ≡ stored election h) × (stops q g ≡ stops q h) × (freed q g ≡ freed q h) × (deadline doc q g ≡ deadline doc q h)

module _ (doc : Doc) (q : Identity) (f : List Entry) where
  same_and_end : (k step : ℕ) (p : Identity) (b : Bool) (h : List Entry) → SameOf doc q f h → SameOf doc q f (and_end k step p b h)
  same_and_end k step p true h s = s
  same_and_end k step p false h s = s

  same_first : (k : ℕ) (p : Identity) (o : Option (CallKind × Request)) (h : List Entry) → SameOf doc q f h → SameOf doc q f (send_first doc k 4 p o h)
  same_first k p None h s = same_and_end k 4 p (acts_on doc p h) h s
  same_first k p (Some call) h s = s

  same_turn : KeepsTurn doc Anyone (λ k h. SameOf doc q f h)
  same_turn =
      ticked_turns doc Anyone (SameOf doc q f) (λ k p h s. s) (λ k p call h s. s) (λ k p h s. s) (λ k p call arrives h s. s)
      (λ k p h acting s. walk_tick doc k p (SameOf doc q f) (λ t g made s. (stored_tick doc k p t g made ∙ s.0, s.1, s.2, s.3)) h s)

  same_release_turn : KeepsReleaseTurn doc (λ k h. SameOf doc q f h)
  same_release_turn = record {
    closes = λ k p i begun call h up waits late of s. same_and_end k 4 (identity p i) (acts_on doc (identity p i) h) h s;
    begins = λ k p i at h role up awake is before other fresh s.
        let r = identity p i in
        let g = and_end k 4 r (not (acts_by doc.settings.rules.in_release true)) h in
        same_first k r (first_call doc.settings.rules.release k (release_from r (wall doc r.process k) (shown r g))) (entry k 4 r (ReleaseBegins true) ∷ g) (same_and_end k 4 r (not (acts_by doc.settings.rules.in_release true)) h s);
  }

  pub same_to_tick : (k p : ℕ) → is_controller doc p ≡ true → is_paused doc p k ≡ false → (h : List Entry) → SameOf doc q f h → SameOf doc q f (elector_turn doc k p h)
  same_to_tick k p role awake h s = walk_to_tick doc Anyone (λ k h. SameOf doc q f h) same_turn same_release_turn k p role awake h s

  pub same_in_turn : (k p : ℕ) (h : List Entry) → SameOf doc q f h → SameOf doc q f (turn doc k p h)
  same_in_turn k p h s = walk_any_turn doc (λ k h. SameOf doc q f h) same_turn same_release_turn k p h s

  pub same_in_turns : (k n : ℕ) (h : List Entry) → SameOf doc q f h → SameOf doc q f (turns doc k n h)
  same_in_turns k n h s = walk_any_turns doc (λ k h. SameOf doc q f h) same_turn same_release_turn k n h s

pub stored_turns : (doc : Doc) (k n : ℕ) (h : List Entry) → stored election (turns doc k n h) ≡ stored election h
stored_turns doc k n h = (same_in_turns doc (identity 0 0) h k n h (refl, refl, refl, refl)).0

pub deadline_turn : (doc : Doc) (q : Identity) (k p : ℕ) (h : List Entry) → deadline doc q (turn doc k p h) ≡ deadline doc q h
deadline_turn doc q k p h = (same_in_turn doc q h k p h (refl, refl, refl, refl)).3

pub deadline_turns : (doc : Doc) (q : Identity) (k n : ℕ) (h : List Entry) → deadline doc q (turns doc k n h) ≡ deadline doc q h
deadline_turns doc q k n h = (same_in_turns doc q h k n h (refl, refl, refl, refl)).3
