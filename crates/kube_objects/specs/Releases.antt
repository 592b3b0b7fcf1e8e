-- A release: how a leader gives up its Lease at the end of its term. Source: client-go, `LeaderElector.release` with ReleaseOnCancel: the
-- rule `own` is its text up to 0.32, `reread` that of 0.36, which finds the version by a Get; `checked`, which compares the holder that
-- it finds, is the profile's.
use Rattle.std.specs.Prelude.{ℕ, ◌&&◌, Bool, true, false, List, ◌∷◌, Option, Some, None}
use Rattle.kube_objects.specs.declared.call.Reply.{Reply}
use Rattle.kube_objects.specs.declared.call.Reply.TheVariants.{Found}
use Rattle.kube_objects.specs.declared.call.Request.{Request}
use Rattle.kube_objects.specs.declared.call.Request.TheVariants.{Get, Update}
use Rattle.kube_objects.specs.declared.deed.Actor.{Actor}
use Rattle.kube_objects.specs.declared.lease.Lease.{Lease}
use Rattle.kube_objects.specs.declared.rules.ReleaseRule.{ReleaseRule}
use Rattle.kube_objects.specs.declared.rules.ReleaseRule.TheVariants.{Stop, Own, Checked, Reread}
use Rattle.kube_objects.specs.Clocks.{wall}
use Rattle.kube_objects.specs.Document.{Doc}
use Rattle.kube_objects.specs.Elector.{Shown, shown, acts_on, release_from, given_up}
use Rattle.kube_objects.specs.Entry.{Entry, Identity, CallKind, Look, Emptying, Fact, ReleaseBegins, ReleaseEnds, StepsDown, entry}
use Rattle.kube_objects.specs.Identities.{is_by, is_own}
use Rattle.kube_objects.specs.Newest.{newest, when, or_else}
use Rattle.kube_objects.specs.Stored.{election}
use Rattle.kube_objects.specs.Wire.{send}

-- ---- its end

abbrev pub and_end : ℕ → ℕ → Identity → Bool → List Entry → List Entry
and_end k step q true h = entry k step q StepsDown ∷ h
and_end k step q false h = h

-- a leader that acts in its release has its end there
abbrev pub end_release : Doc → ℕ → ℕ → Identity → List Entry → List Entry
end_release doc k step q h = entry k step q ReleaseEnds ∷ and_end k step q (acts_on doc q h) h

-- ---- its begin

abbrev pub emptying_of : ℕ → Option Request → Option (CallKind × Request)
emptying_of k None = None
emptying_of k (Some request) = Some (Emptying k, request)

-- the call that a release begins with; own empties the record last shown, where that is one's own
abbrev pub first_call : ReleaseRule → ℕ → Option Request → Option (CallKind × Request)
first_call Stop k own = None
first_call Own k own = emptying_of k own
first_call Checked k own = Some (Look k, Get election)
first_call Reread k own = Some (Look k, Get election)

-- without a call it ends as it begins
abbrev pub send_first : Doc → ℕ → ℕ → Identity → Option (CallKind × Request) → List Entry → List Entry
send_first doc k step q None h = end_release doc k step q h
send_first doc k step q (Some call) h = send doc k step q call.0 call.1 h

abbrev pub begin_release : Doc → ℕ → ℕ → Identity → Bool → List Entry → List Entry
begin_release doc k step q at_deadline h =
    send_first doc k step q
    (first_call doc.settings.rules.release k (release_from q (wall doc q.process k) (shown q h)))
    (entry k step q (ReleaseBegins at_deadline) ∷ h)

-- ---- a counted reply in it

abbrev pub shows_own : Identity → Option Shown → Bool
shows_own q None = false
shows_own q (Some x) = is_own q x.1.holder

abbrev pub mine_says : Identity → Actor → Fact → List Entry → Option Bool
mine_says q who (ReleaseBegins at_deadline) h = when (is_by q who) (shows_own q (shown q h))
mine_says q who _ h = None

-- whether the record last shown was one's own when the release began
abbrev pub is_mine : Identity → List Entry → Bool
is_mine q h = or_else false (newest (λ e T. mine_says q e.actor e.fact T) h)

-- whether the holder that was found is right
abbrev pub may_empty : ReleaseRule → Identity → Lease → Bool
may_empty Checked q lease = is_own q lease.holder
may_empty _ q lease = true

-- what a reply to the look is followed by, at a time of day
abbrev pub after_look : ReleaseRule → Identity → ℕ → Bool → Reply → Option Request
after_look rule q at mine (Found version lease) = when (mine && may_empty rule q lease) (Update election version (given_up at lease))
after_look rule q at mine _ = None

abbrev pub empty_or_end : Doc → ℕ → Identity → ℕ → Option Request → List Entry → List Entry
empty_or_end doc k q begun None h = end_release doc k 3 q h
empty_or_end doc k q begun (Some request) h = send doc k 3 q (Emptying begun) request h

-- what a counted reply to a call of a release causes; h has it on top
abbrev pub react_in_release : Doc → ℕ → Identity → CallKind → Reply → List Entry → List Entry
react_in_release doc k q (Look begun) reply h =
    empty_or_end doc k q begun (after_look doc.settings.rules.release q (wall doc q.process k) (is_mine q h) reply) h
react_in_release doc k q _ reply h = end_release doc k 3 q h
