-- What a state's call answers, beside what the history says.
use Rattle.std.specs.Prelude.{◌≡◌, ℕ, ◌+◌, not, Bool, true, false, cond, nat_lt, List, ◌∷◌, Option, Some, None}
use Rattle.kube_base.specs.declared.numbers.Version.{Version}
use Rattle.kube_objects.specs.declared.call.Ask.{Ask}
use Rattle.kube_objects.specs.declared.call.Reply.{Reply}
use Rattle.kube_objects.specs.declared.call.Request.{Request}
use Rattle.kube_objects.specs.Clocks.{local, wall}
use Rattle.kube_objects.specs.Document.{Doc, call_timeout}
use Rattle.kube_objects.specs.declared.rules.ReleaseRule.{ReleaseRule}
use Rattle.kube_objects.specs.declared.rules.ReleaseRule.TheVariants as releases
use Rattle.kube_objects.specs.Elector.{Shown, leads, deadline, follow_on, is_before, acts_by, acts_on, release, release_from, shown}
use Rattle.kube_objects.specs.Entry.{Entry, Identity, Call, CallKind}
use Rattle.kube_objects.specs.Entry.{Fact, Starts, Crashes, Ends, ReleaseBegins, ReleaseEnds, ReleaseStops, Sends, Delivers, Expires, Leads, entry}
use Rattle.kube_objects.specs.Releases.{and_end, end_release, first_call}
use Rattle.kube_objects.specs.Process.{begun, is_ending}
use Rattle.kube_objects.specs.Turns.{react, end_term, expired, try, with_reply}
use Rattle.kube_objects.specs.Wire.{next_call, send}
use Rattle.leader_elector.specs.declared.candidate.Candidate.{Candidate}
use Rattle.leader_elector.specs.declared.candidate.CandidateNext.{CandidateNext}
use Rattle.leader_elector.specs.declared.candidate.CandidateNext.TheVariants as candidate
use Rattle.leader_elector.specs.declared.candidate.Heard.{Heard}
use Rattle.leader_elector.specs.declared.candidate.Heard.TheVariants as heard
use Rattle.leader_elector.specs.declared.elector.Elector.{Elector}
use Rattle.leader_elector.specs.declared.follow.Follow as code
use Rattle.leader_elector.specs.declared.leading.LeadingNext.{LeadingNext}
use Rattle.leader_elector.specs.declared.leading.LeadingNext.TheVariants as leading
use Rattle.leader_elector.specs.declared.ended.ReleaseEnd.{ReleaseEnd}
use Rattle.leader_elector.specs.declared.ended.Released.{Released}
use Rattle.leader_elector.specs.declared.ended.Released.TheVariants.{AtOnce, Begins}
use Rattle.leader_elector.specs.declared.releasing.Releasing.{Releasing}
use Rattle.leader_elector.specs.declared.releasing.ReleasingNext.{ReleasingNext}
use Rattle.leader_elector.specs.declared.releasing.ReleasingNext.TheVariants as releasing
use Rattle.leader_elector.specs.Stands.{CandidateStands, ElectorStands, IsChosen, LeadingStands, ReleasingStands, ended_identity, follow_of}

-- next is h with the request sent, whose arrival the state doesn't look at
pub record Asked (doc : Doc) (k step : ℕ) (q : Identity) (h next : List Entry) (Stands : List Entry → Type 0) (ask : Ask) : Type 0 where
  pub kind : CallKind
  pub sent : next ≡ send doc k step q kind ask.request h
  pub number : ask.number ≡ begun q h + 1
  pub stands : (arrives : Option ℕ) → Stands (entry k step q (Sends (next_call q k kind ask.request h) arrives) ∷ h)

-- the history after the test of the deadline; h is that after the expiry
abbrev pub tested : Doc → ℕ → Identity → List Entry → List Entry
tested doc k q h = end_term doc k q (deadline doc q h) h

-- a candidate's turn; h is the history after the expiry
abbrev pub CandidateTurns : Doc → ℕ → Identity → List Entry → CandidateNext → Type 0
CandidateTurns doc k q h (candidate.Stay c) = (try doc k q h ≡ h) × CandidateStands doc q h c
CandidateTurns doc k q h (candidate.Ask c ask) = Asked doc k 4 q h (try doc k q h) (λ x. CandidateStands doc q x c) ask
CandidateTurns doc k q h (candidate.Lead l) = ⊥

-- what a candidate does, by what it asks in its turn
abbrev pub after_turn : Candidate → Option Ask → CandidateNext
after_turn c None = candidate.Stay c
after_turn c (Some ask) = candidate.Ask c ask

-- ---- releases

-- with the begin of a release, before its call
abbrev pub with_begin : ℕ → ℕ → Identity → (at_deadline : Bool) → List Entry → List Entry
with_begin k step q at_deadline h = entry k step q (ReleaseBegins at_deadline) ∷ h

-- a release begins with its call, or is over at once
abbrev pub BeginsRelease : Doc → ℕ → ℕ → Identity → (at_deadline : Bool) → List Entry → Option (Releasing × Ask) → Type 0
BeginsRelease doc k step q at_deadline h None =
    first_call doc.settings.rules.release k (release_from q (wall doc q.process k) (shown q h)) ≡ None
BeginsRelease doc k step q at_deadline h (Some x) =
    (call : CallKind × Request)
    × (first_call doc.settings.rules.release k (release_from q (wall doc q.process k) (shown q h)) ≡ Some call)
    × Asked doc k step q (with_begin k step q at_deadline h) (send doc k step q call.0 call.1 (with_begin k step q at_deadline h))
    (λ g. ReleasingStands doc q g x.0) x.1

-- at its deadline a leader that doesn't act in its release steps down
abbrev pub stepped_down : Doc → ℕ → Identity → List Entry → List Entry
stepped_down doc k q h = and_end k 4 q (not (acts_by doc.settings.rules.in_release true)) h

-- a term that is over at its deadline: by its rule, or since there is nothing to be asked
abbrev pub over_at : ReleaseRule → Doc → ℕ → Identity → List Entry → List Entry
over_at releases.Stop doc k q h = entry k 4 q Ends ∷ h
over_at _ doc k q h = end_release doc k 4 q (with_begin k 4 q true (stepped_down doc k q h))

-- what is told of a release that is over; h is the history before
pub record IsOver (doc : Doc) (q : Identity) (h : List Entry) (x : ReleaseEnd) : Type 0 where
  pub identity : ended_identity x.ended ≡ q
  pub acted : x.acted ≡ acts_on doc q h
  pub restarts : x.restarts ≡ is_ending q h

-- the turn of a process whose release runs; h is the history before, next that after the expiry
abbrev pub ReleasingTurns : Doc → ℕ → Identity → List Entry → List Entry → ReleasingNext → Type 0
ReleasingTurns doc k q h next (releasing.Stay r) = (next ≡ h) × ReleasingStands doc q h r
ReleasingTurns doc k q h next (releasing.Ask r ask) = ⊥
ReleasingTurns doc k q h next (releasing.Over x) = (next ≡ end_release doc k 4 q h) × IsOver doc q h x

-- next is the history with what follows the reply; h is the history with the reply
abbrev pub ReleasingReplies : Doc → ℕ → Identity → List Entry → List Entry → ReleasingNext → Type 0
ReleasingReplies doc k q h next (releasing.Stay r) = ⊥
ReleasingReplies doc k q h next (releasing.Ask r ask) = Asked doc k 3 q h next (λ x. ReleasingStands doc q x r) ask
ReleasingReplies doc k q h next (releasing.Over x) = (next ≡ end_release doc k 3 q h) × IsOver doc q h x

-- a reply that doesn't count changes nothing
abbrev pub ReleasingStays : Doc → Identity → List Entry → ReleasingNext → Type 0
ReleasingStays doc q h (releasing.Stay r) = ReleasingStands doc q h r
ReleasingStays doc q h (releasing.Ask r ask) = ⊥
ReleasingStays doc q h (releasing.Over x) = ⊥

-- a leader's turn; h is the history after the expiry
abbrev pub LeadingTurns : Doc → ℕ → Identity → List Entry → LeadingNext → Type 0
LeadingTurns doc k q h (leading.Stay l) = (tested doc k q h ≡ h) × (try doc k q h ≡ h) × LeadingStands doc q h l
LeadingTurns doc k q h (leading.Ask l ask) = (tested doc k q h ≡ h) × Asked doc k 4 q h (try doc k q h) (λ x. LeadingStands doc q x l) ask
LeadingTurns doc k q h (leading.End x) = (tested doc k q h ≡ over_at doc.settings.rules.release doc k q h) × (ended_identity x ≡ q)
LeadingTurns doc k q h (leading.Release r ask) =
    Asked doc k 4 q (with_begin k 4 q true (stepped_down doc k q h)) (tested doc k q h) (λ x. ReleasingStands doc q x r) ask

-- whether a candidate leads
abbrev pub becomes_leader : CandidateNext → Bool
becomes_leader (candidate.Stay c) = false
becomes_leader (candidate.Ask c ask) = false
becomes_leader (candidate.Lead l) = true

-- whether a term ends
abbrev pub ends : LeadingNext → Bool
ends (leading.Stay l) = false
ends (leading.Ask l ask) = false
ends (leading.End x) = true
ends (leading.Release r ask) = true

-- the history with a counted reply and what the elector does at once; h is that before the reply
abbrev pub reacted : Doc → ℕ → Identity → Call → Reply → List Entry → List Entry
reacted doc k q call reply h =
    react doc k q (leads q h) (follow_on doc q k call.kind call.request reply (with_reply k q call reply h)) (with_reply k q call reply h)

-- next is the history with what follows the reply; h is the history with the reply
abbrev pub CandidateReplies : Doc → ℕ → Identity → List Entry → List Entry → CandidateNext → Type 0
CandidateReplies doc k q h next (candidate.Stay c) = (next ≡ h) × CandidateStands doc q h c
CandidateReplies doc k q h next (candidate.Ask c ask) = Asked doc k 3 q h next (λ x. CandidateStands doc q x c) ask
CandidateReplies doc k q h next (candidate.Lead l) =
    (version : Version) × (next ≡ entry k 3 q (Leads version) ∷ h) × LeadingStands doc q next l

-- the same, where the candidate may become a leader
abbrev pub CandidateHears : Doc → ℕ → Identity → List Entry → List Entry → Candidate → Heard → Type 0
CandidateHears doc k q h next c heard.Stays = (next ≡ h) × CandidateStands doc q h c
CandidateHears doc k q h next c (heard.Asks ask) = Asked doc k 3 q h next (λ x. CandidateStands doc q x c) ask
CandidateHears doc k q h next c (heard.Wins won) = (version : Version) × (next ≡ entry k 3 q (Leads version) ∷ h) × IsChosen doc q k h won

abbrev pub LeadingReplies : Doc → ℕ → Identity → List Entry → List Entry → LeadingNext → Type 0
LeadingReplies doc k q h next (leading.Stay l) = (next ≡ h) × LeadingStands doc q h l
LeadingReplies doc k q h next (leading.Ask l ask) = Asked doc k 3 q h next (λ x. LeadingStands doc q x l) ask
LeadingReplies doc k q h next (leading.End x) = ⊥
LeadingReplies doc k q h next (leading.Release r ask) = ⊥

-- a reply that doesn't count changes nothing
abbrev pub CandidateStays : Doc → Identity → List Entry → CandidateNext → Type 0
CandidateStays doc q h (candidate.Stay c) = CandidateStands doc q h c
CandidateStays doc q h (candidate.Ask c ask) = ⊥
CandidateStays doc q h (candidate.Lead l) = ⊥

abbrev pub LeadingStays : Doc → Identity → List Entry → LeadingNext → Type 0
LeadingStays doc q h (leading.Stay l) = LeadingStands doc q h l
LeadingStays doc q h (leading.Ask l ask) = ⊥
LeadingStays doc q h (leading.End x) = ⊥
LeadingStays doc q h (leading.Release r ask) = ⊥

-- the request of a release, with the number that it gets
abbrev pub Releases : Identity → List Entry → Option Request → Option Ask → Type 0
Releases q h None None = Unit {0}
Releases q h None (Some ask) = ⊥
Releases q h (Some request) None = ⊥
Releases q h (Some request) (Some ask) = (ask.request ≡ request) × (ask.number ≡ begun q h + 1)

-- a stop of a leader: h is the history with its event
abbrev pub StopsLeading : Doc → ℕ → Identity → List Entry → Released → Type 0
StopsLeading doc k q h (AtOnce x ask) =
    (ended_identity x ≡ q)
    × (doc.settings.rules.release ≡ releases.Stop → Releases q h (release doc q k h) ask)
    × ((doc.settings.rules.release ≡ releases.Stop → ⊥)
    → (ask ≡ None) × BeginsRelease doc k 1 q false (entry k 1 q ReleaseStops ∷ h) None)
StopsLeading doc k q h (Begins r ask) =
    (doc.settings.rules.release ≡ releases.Stop → ⊥) × BeginsRelease doc k 1 q false (entry k 1 q ReleaseStops ∷ h) (Some (r, ask))

-- the least reading at which a call that waits has expired, or else at which the next attempt starts
abbrev pub wake_from : Doc → Identity → ℕ → Option Call → ℕ
wake_from doc q timer None = timer
wake_from doc q timer (Some call) = local doc q.process call.sent + call_timeout doc q.process + 1

-- a leader's term may end before
abbrev pub wake_before : ℕ → Option ℕ → ℕ
wake_before wake None = wake
wake_before wake (Some deadline) = cond (nat_lt deadline wake) deadline wake

-- a candidate's whole turn
abbrev pub candidate_turn : Doc → ℕ → Identity → List Entry → List Entry
candidate_turn doc k q h = try doc k q (expired doc k q h)

-- after its term has ended an elector starts no attempt; h is the history after the expiry
abbrev pub try_before : Doc → ℕ → Identity → Bool → List Entry → List Entry
try_before doc k q true h = try doc k q h
try_before doc k q false h = tested doc k q h

-- a leader's whole turn
abbrev pub leading_turn : Doc → ℕ → Identity → List Entry → List Entry
leading_turn doc k q h = try_before doc k q (is_before (local doc q.process k) (deadline doc q (expired doc k q h))) (expired doc k q h)

-- before this reading a turn adds nothing to the history, and from it on something
abbrev pub IsLeast : ℕ → ℕ → List Entry → List Entry → Type 0
IsLeast wake now h next = (nat_lt now wake ≡ true → next ≡ h) × (nat_lt now wake ≡ false → next ≡ h → ⊥)

-- ---- the part that candidates and leaders have in common

-- the last that is shown
abbrev pub last_of : Option Shown → Option Shown → Option Shown
last_of None old = old
last_of (Some x) old = Some x

-- an attempt starts, or nothing happens; next is the history with it
abbrev pub Tried : Doc → ℕ → Identity → List Entry → List Entry → Elector → Bool → Option Ask → Type 0
Tried doc k q h next e expired None = (expired ≡ false) × (next ≡ h) × ElectorStands doc q h e
Tried doc k q h next e expired (Some ask) = Asked doc k 4 q h next (λ x. ElectorStands doc q x e) ask

-- what a counted reply is followed by
abbrev pub Received : Doc → ℕ → Identity → Call → Reply → List Entry → Elector → Option code.Follow → Type 0
Received doc k q call reply h e None = ⊥
Received doc k q call reply h e (Some follow) =
    (follow_of follow ≡ follow_on doc q k call.kind call.request reply (with_reply k q call reply h))
    × ElectorStands doc q (with_reply k q call reply h) e

-- ---- entries that an elector or its release looks at, where they are its own

abbrev pub is_of_elector : Fact → Bool
is_of_elector Starts = true
is_of_elector Crashes = true
is_of_elector (Sends call arrives) = true
is_of_elector (Delivers call reply counted) = true
is_of_elector (Expires call) = true
is_of_elector (Leads version) = true
is_of_elector (ReleaseBegins at_deadline) = true
is_of_elector ReleaseEnds = true
is_of_elector ReleaseStops = true
is_of_elector _ = false
