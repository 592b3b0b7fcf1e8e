-- What a release does by what it keeps, whatever the document.
-- Source: client-go, `LeaderElector.release`; profile.
use Rattle.std.specs.Prelude.{ℕ, ◌&&◌, Bool, true, false, min, Option, Some, None}
use Rattle.kube_objects.specs.declared.call.Request.{Request}
use Rattle.kube_objects.specs.declared.call.Request.TheVariants.{Get, Create, Update, PostStatus}
use Rattle.kube_objects.specs.declared.rules.ReleaseRule.{ReleaseRule}
use Rattle.kube_objects.specs.declared.rules.ReleaseRule.TheVariants.{Stop, Own, Checked, Reread}
use Rattle.kube_objects.specs.Elector.{acts_by, release_from}
use Rattle.kube_objects.specs.Stored.{election}
use Rattle.leader_elector.specs.declared.elector.Elector.{Elector}
use Rattle.leader_elector.specs.declared.ended.ReleaseEnd.{ReleaseEnd}
use Rattle.leader_elector.specs.declared.releasing.Releasing.{Releasing}
use Rattle.leader_elector.specs.Plain.{identity_of}
use Rattle.leader_elector.specs.Stands.{shown_of}

abbrev pub is_look : Request → Bool
is_look (Get key) = true
is_look (Create key lease) = false
is_look (Update key given lease) = false
is_look (PostStatus name status at) = false

-- what a release begins with
abbrev pub request_by : ReleaseRule → Option Request → Option Request
request_by Stop own = None
request_by Own own = own
request_by Checked own = Some (Get election)
request_by Reread own = Some (Get election)

abbrev pub first_request : Elector → (wall : ℕ) → Option Request
first_request e wall = request_by e.timing.release (release_from (identity_of e) wall (shown_of e.seen))

abbrev pub acts_until : Releasing → Bool
acts_until r = acts_by r.elector.timing.in_release r.ending

abbrev pub release_wake : Releasing → ℕ
release_wake r = min r.until.0 r.late.0

abbrev pub same_test : Bool → Bool → Bool
same_test true b = b
same_test false true = false
same_test false false = true

-- what is told of a release that is over
abbrev pub is_over_at : Releasing → ReleaseEnd → Bool
is_over_at r x = same_test x.acted (acts_until r) && same_test x.restarts r.ending
