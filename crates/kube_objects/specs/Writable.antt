-- Which deeds a trace has a line for, given the names and how many processes there are. Source: the trace's format (profile).
use Rattle.std.specs.Prelude.{◌≡◌, ℕ, ◌<◌, ◌≤◌, ◌==◌, ◌&&◌, ◌||◌, not, Bool, true, false, List, [], ◌∷◌, length}
use Rattle.std.specs.List.{AllByRecursion}
use Rattle.kube_base.specs.Times.{last_wall}
use Rattle.kube_base.specs.declared.fixed.TheConstants.{NODE_STATUS_UNKNOWN, NODE_STATUS_NEVER_UPDATED, NOT_READY, UNREACHABLE}
use Rattle.kube_objects.specs.declared.call.Answer.{Answer}
use Rattle.kube_objects.specs.declared.call.Answer.TheVariants.{Done, Absent, Exists}
use Rattle.kube_objects.specs.declared.deed.Act.{Act}
use Rattle.kube_objects.specs.declared.deed.Act.TheVariants as act
use Rattle.kube_objects.specs.declared.deed.Actor.{Actor}
use Rattle.kube_objects.specs.declared.deed.Actor.TheVariants as actor
use Rattle.kube_objects.specs.declared.deed.Deed.{Deed}
use Rattle.kube_objects.specs.declared.key.Key.{Key}
use Rattle.kube_objects.specs.declared.node.ReadyStatus.{ReadyStatus}
use Rattle.kube_objects.specs.declared.node.ReadyStatus.TheVariants as ready
use Rattle.kube_objects.specs.Keys.{key_eq}
use Rattle.kube_objects.specs.Seen.{is_pod}
use Rattle.kube_objects.specs.Stored.{election, node_lease}

-- ---- forms

abbrev pub is_done : Answer → Bool
is_done (Done version) = true
is_done _ = false

-- the answers that a create has
abbrev pub answers_create : Answer → Bool
answers_create (Done version) = true
answers_create Exists = true
answers_create _ = false

-- those of a write or delete over a version
abbrev pub answers_write : Answer → Bool
answers_write Exists = false
answers_write _ = true

-- those of a posted status
abbrev pub answers_post : Answer → Bool
answers_post (Done version) = true
answers_post Absent = true
answers_post _ = false

abbrev pub is_election : Key → Bool
is_election key = key_eq key election

abbrev pub is_node_lease : Key → Bool
is_node_lease key = key_eq key (node_lease key.name)

abbrev pub is_posted : ReadyStatus → Bool
is_posted ready.Unknown = false
is_posted _ = true

-- the reasons of marks
abbrev pub is_mark_reason : ℕ → Bool
is_mark_reason reason = (reason == NODE_STATUS_UNKNOWN) || (reason == NODE_STATUS_NEVER_UPDATED)

abbrev pub is_condition_key : ℕ → Bool
is_condition_key key = (key == NOT_READY) || (key == UNREACHABLE)

-- the script puts, removes and stops the store, and all else is done by processes
abbrev pub is_by_script : Act → Bool
is_by_script (act.Put key version) = true
is_by_script (act.Removed key version) = true
is_by_script (act.Stall beats) = true
is_by_script _ = false

abbrev pub is_script : Actor → Bool
is_script actor.Script = true
is_script (actor.Proc process incarnation) = false

-- the acts that a line tells; an accepted update of a node's Lease has none
abbrev pub has_form : Act → Bool
has_form (act.Create key answer transitions) = (is_election key || is_node_lease key) && answers_create answer
has_form (act.Update key answer transitions) = (is_election key || is_node_lease key && not (is_done answer)) && answers_write answer
has_form (act.Posted node status answer) = is_posted status && answers_post answer
has_form (act.Marked node reason answer) = is_mark_reason reason && answers_write answer
has_form (act.Tainted node key answer) = is_condition_key key && answers_write answer
has_form (act.Swapped node key answer) = is_condition_key key && answers_write answer
has_form (act.Untainted node answer) = answers_write answer
has_form (act.Evicted key due answer) = is_pod key.kind && answers_write answer
has_form _ = true

-- ---- numbers and times

abbrev pub key_numbers : Key → List ℕ
key_numbers key = key.space ∷ key.name ∷ []

-- the numbers of names in an act
abbrev pub name_numbers : Act → List ℕ
name_numbers (act.Create key answer transitions) = key_numbers key
name_numbers (act.Update key answer transitions) = key_numbers key
name_numbers (act.Posted node status answer) = node ∷ []
name_numbers (act.Put key version) = key_numbers key
name_numbers (act.Removed key version) = key_numbers key
name_numbers (act.Marked node reason answer) = node ∷ reason ∷ []
name_numbers (act.Zone region zone state rate) = region ∷ zone ∷ []
name_numbers (act.Tainted node key answer) = node ∷ key ∷ []
name_numbers (act.Swapped node key answer) = node ∷ key ∷ []
name_numbers (act.Untainted node answer) = node ∷ []
name_numbers (act.Evicted key due answer) = key_numbers key
name_numbers _ = []

-- its time, where it has one, is not after 2261
abbrev pub IsTimely : Act → Type 0
IsTimely (act.Evicted key due answer) = due.0 ≤ last_wall
IsTimely _ = Unit {0}

-- the script, or one of so many processes
abbrev pub IsOneOf : ℕ → Actor → Type 0
IsOneOf n actor.Script = Unit {0}
IsOneOf n (actor.Proc process incarnation) = process.0 < n

-- ---- deeds

-- what was done has a line with these names
pub record IsWritableAct (names : List (List ℕ)) (a : Act) : Type 0 where
  pub form : has_form a ≡ true
  pub held : AllByRecursion (λ number. number < length names) (name_numbers a)
  pub timely : IsTimely a

-- n is the number of processes
pub record IsWritable (names : List (List ℕ)) (n : ℕ) (deed : Deed) : Type 0 where
  pub actor : IsOneOf n deed.actor
  pub sort : is_script deed.actor ≡ is_by_script deed.act
  pub act : IsWritableAct names deed.act
