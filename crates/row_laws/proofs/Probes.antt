-- Probes by rows of passes.
use Rattle.std.proofs.Common.{◌≡◌, ℕ, ◌&&◌, ◌||◌, not, Bool, true, false, List, Some, refl, ap}
use Rattle.kube_objects.specs.declared.deed.Actor.{Actor}
use Rattle.kube_objects.specs.Entry.{Entry, Identity, Fact, Ticks, Pass}
use Rattle.kube_objects.specs.Health.{at_pass, heartbeat, renewal, is_found, is_known, kept_heartbeat, kept_renewal, is_news, is_later, hears, is_probe}
use Rattle.kube_objects.specs.Identities.{is_by}
use Rattle.kube_objects.specs.Newest.{only_if}
use Rattle.history_laws.proofs.Plainly.{none_is}
use Rattle.row_laws.specs.Probes.{finds, is_heard, ProbesAreOfRows}
use Rattle.row_laws.proofs.Rows.{latest_of_row}

module _ (q : Identity) (name : ℕ) where
  -- the first pass that finds the node
  first_probe : (who : Actor) (d : Fact) (T : List Entry) → at_pass q (λ T. Some (is_found q name T)) who d T ≡ Some true → is_known q name T ≡ false → is_probe q name who d T ≡ true
  first_probe who (Ticks Pass) T is new = by_own (is_by q who) is
    where
      heard : hears q name T ≡ true
      heard = ap (λ b. not b || is_news (heartbeat q name T) (kept_heartbeat q name T) || is_later (renewal q name T) (kept_renewal q name T)) new

      by_own : (b : Bool) → only_if b (Some (is_found q name T)) ≡ Some true → (b && hears q name T) ≡ true
      by_own true is = heard
      by_own false is = absurd (none_is true is)
  first_probe who d T is new = absurd (none_is true is)

  -- a later one
  later_probe : (who : Actor) (d : Fact) (T : List Entry) → is_known q name T ≡ true → is_probe q name who d T ≡ is_heard q name who d T
  later_probe who (Ticks Pass) T known =
      ap (λ b. is_by q who && (not b || is_news (heartbeat q name T) (kept_heartbeat q name T) || is_later (renewal q name T) (kept_renewal q name T))) known
  later_probe who d T known = refl

pub probes_are_of_rows : ProbesAreOfRows
probes_are_of_rows q name h known =
    latest_of_row (finds q name) (λ e T. is_probe q name e.actor e.fact T) (λ e T. is_heard q name e.actor e.fact T)
    (λ e T is new. first_probe q name e.actor e.fact T is new) (λ e T known on. later_probe q name e.actor e.fact T known) h known
