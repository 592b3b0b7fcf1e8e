-- A term ends at its deadline, or a leader is asked for its leadership.
use Rattle.std.proofs.Common.{◌≡◌, ◌∙◌, ℕ, ◌&&◌, ◌||◌, not, nat_lt, Bool, true, false, List, Option, Some, None, refl, sym, ap}
use Rattle.std.specs.Prelude.{if◌then◌else◌}
use Rattle.kube_objects.specs.declared.call.Request.{Request}
use Rattle.kube_objects.specs.declared.rules.ReleaseActing.{ReleaseActing}
use Rattle.kube_objects.specs.declared.rules.ReleaseActing.TheVariants.{Still, Acts}
use Rattle.kube_objects.specs.declared.rules.ReleaseRule.{ReleaseRule}
use Rattle.kube_objects.specs.declared.rules.ReleaseRule.TheVariants.{Stop, Own, Checked, Reread}
use Rattle.kube_objects.specs.Clocks.{local, wall}
use Rattle.kube_objects.specs.Document.{Doc}
use Rattle.kube_objects.specs.Elector.{acts_by, acts_on, deadline, in_term, is_before, leads_on, release_from, shown}
use Rattle.kube_objects.specs.Entry.{CallKind, Entry, Identity}
use Rattle.kube_objects.specs.Process.{alive, is_ending, is_present, is_releasing}
use Rattle.kube_objects.specs.Releases.{first_call, send_first}
use Rattle.kube_objects.specs.Turns.{end_as, end_released, end_term}
use Rattle.kube_objects.proofs.OwnCalls.{same_beat}
use Rattle.leader_elector.specs.Moves.{over_at, stepped_down, tested, with_begin}
use Rattle.leader_elector.proofs.Begins.{unending}

-- ---- the test of the deadline, where no release runs

-- a release that begins with a call is of another rule than a stop's single update
pub not-stop : (rule : ReleaseRule) (k : ℕ) (own : Option Request) (call : CallKind × Request) → first_call rule k own ≡ Some call → rule ≡ Stop → ⊥
not-stop rule k own call first is = let none : None ≡ Some call = ap (λ r. first_call r k own) (sym is) ∙ first in cc

module _ (doc : Doc) (k : ℕ) (q : Identity) (h : List Entry) (unreleased : is_releasing q h ≡ false) where
  abbrev own : Option Request
  own = release_from q (wall doc q.process k) (shown q (stepped_down doc k q h))

  abbrev begun : List Entry
  begun = with_begin k 4 q true (stepped_down doc k q h)

  released_as : (rule : ReleaseRule) → (rule ≡ Stop → ⊥) → end_as rule doc k q h ≡ send_first doc k 4 q (first_call doc.settings.rules.release k own) begun
  released_as Stop other = absurd (other refl)
  released_as Own other = ap (λ b. end_released doc k q b h) unreleased
  released_as Checked other = ap (λ b. end_released doc k q b h) unreleased
  released_as Reread other = ap (λ b. end_released doc k q b h) unreleased

  over_by : (rule : ReleaseRule) → first_call doc.settings.rules.release k own ≡ None → end_as rule doc k q h ≡ over_at rule doc k q h
  over_by Stop none = refl
  over_by Own none = ap (λ b. end_released doc k q b h) unreleased ∙ ap (λ o. send_first doc k 4 q o begun) none
  over_by Checked none = ap (λ b. end_released doc k q b h) unreleased ∙ ap (λ o. send_first doc k 4 q o begun) none
  over_by Reread none = ap (λ b. end_released doc k q b h) unreleased ∙ ap (λ o. send_first doc k 4 q o begun) none

  module _ (at now : ℕ) (at_is : Some at ≡ deadline doc q h) (now_is : now ≡ local doc q.process k) (late : nat_lt now at ≡ false) where
    tested-late : tested doc k q h ≡ end_as doc.settings.rules.release doc k q h
    tested-late =
        ap (λ o. end_term doc k q o h) (sym at_is)
        ∙ ap (λ n. (if nat_lt n at then h else end_as doc.settings.rules.release doc k q h)) (sym now_is)
        ∙ ap (λ b. (if b then h else end_as doc.settings.rules.release doc k q h)) late

    -- the term ends at once: by its rule, or since there is nothing to be asked
    pub tested-over : first_call doc.settings.rules.release k own ≡ None → tested doc k q h ≡ over_at doc.settings.rules.release doc k q h
    tested-over none = tested-late ∙ over_by doc.settings.rules.release none

    pub tested-stop : doc.settings.rules.release ≡ Stop → tested doc k q h ≡ over_at doc.settings.rules.release doc k q h
    tested-stop is = tested-over (ap (λ r. first_call r k own) is)

    -- a release begins
    pub tested-begins : (call : CallKind × Request) → first_call doc.settings.rules.release k own ≡ Some call → tested doc k q h ≡ send_first doc k 4 q (Some call) begun
    tested-begins call first =
        tested-late
        ∙ released_as doc.settings.rules.release (not-stop doc.settings.rules.release k own call first)
        ∙ ap (λ o. send_first doc k 4 q o begun) first

-- ---- leadership, where no release runs

acts_never : (rule : ReleaseActing) (up : Bool) → acts_by rule (up && false) ≡ false
acts_never Still up = refl
acts_never Acts true = refl
acts_never Acts false = refl

pub acts-unreleased : (doc : Doc) (q : Identity) (h : List Entry) → is_releasing q h ≡ false → acts_on doc q h ≡ false
acts-unreleased doc q h is =
    let up = is_present (alive q.process h) q.incarnation in
    ap (λ b. acts_by doc.settings.rules.in_release (up && b)) (unending q h is) ∙ acts_never doc.settings.rules.in_release up

and_true : (b : Bool) → (b && not false) ≡ b
and_true true = refl
and_true false = refl

-- a leader leads on in its term alone
pub leads-unreleased : (doc : Doc) (q : Identity) (k : ℕ) (h : List Entry) (rule : ReleaseRule) → is_releasing q h ≡ false → leads_on rule doc q k h ≡ in_term doc q k h
leads-unreleased doc q k h Stop is = refl
leads-unreleased doc q k h Own is = (λ i. acts-unreleased doc q h is i || in_term doc q k h && not (is i)) ∙ and_true (in_term doc q k h)
leads-unreleased doc q k h Checked is = (λ i. acts-unreleased doc q h is i || in_term doc q k h && not (is i)) ∙ and_true (in_term doc q k h)
leads-unreleased doc q k h Reread is = (λ i. acts-unreleased doc q h is i || in_term doc q k h && not (is i)) ∙ and_true (in_term doc q k h)

same_number : (n : ℕ) → is_present (Some n) n ≡ true
same_number n = same_beat n

-- whether it leads on, where it is up, by its deadline
pub leads-before : (doc : Doc) (q : Identity) (k now at : ℕ) (h : List Entry) → is_releasing q h ≡ false → alive q.process h ≡ Some q.incarnation → now ≡ local doc q.process k → Some at ≡ deadline doc q h →
    nat_lt now at ≡ leads_on doc.settings.rules.release doc q k h
leads-before doc q k now at h unreleased up now_is at_is =
    (λ i. nat_lt (now_is i) at)
    ∙ (λ i. sym (same_number q.incarnation) i && is_before (local doc q.process k) (at_is i))
    ∙ ap (λ o. is_present o q.incarnation && is_before (local doc q.process k) (deadline doc q h)) (sym up)
    ∙ sym (leads-unreleased doc q k h doc.settings.rules.release unreleased)
