-- Which views a rate policy is asked for, and what it has to answer.
use Rattle.std.specs.Prelude.{◌≡◌, ℕ, Bool, ◌<◌, ◌≤◌}
use Rattle.kube_objects.specs.Zones.{partial_rate, full_rate, rate_of}
use Rattle.kube_objects.specs.declared.node.ZoneState.{ZoneState}
use Rattle.zone_state.specs.declared.view.ZoneView.{ZoneView}

-- the secondary rate is at most the primary one, and each number is one of the code
pub record IsView (view : ZoneView) : Type 0 where
  pub ordered : view.secondary ≤ view.primary
  pub primary_fits : view.primary < 4294967296
  pub secondary_fits : view.secondary < 4294967296
  pub size_fits : view.size < 4294967296
  pub threshold_fits : view.threshold < 4294967296

-- a function may be called on every view
abbrev pub MayBeCalled : (ZoneView → Type 0) → Type 0
MayBeCalled pre = (view : ZoneView) → IsView view → pre view

-- on every view a function answers this rate
abbrev pub Answers : (ZoneView → ℕ) → (ZoneView → ℕ → Type 0) → Type 0
Answers rate post = (view : ZoneView) (answer : ℕ) → IsView view → post view answer → answer ≡ rate view

-- the rates of a Partial zone and of a Full zone
abbrev pub partial_of : ZoneView → ℕ
partial_of view = partial_rate view.policy view.secondary view.threshold view.size

abbrev pub full_of : ZoneView → ℕ
full_of view = full_rate view.policy view.primary view.secondary

-- the rate of a zone in a state, 0 where every zone is Full
abbrev pub view_rate : Bool → ZoneState → ZoneView → ℕ
view_rate all_full state view = rate_of all_full state view.policy view.primary view.secondary view.threshold view.size
