-- A typed state of the elector stands for an identity in a history: one clause for each of its parts.
use Rattle.std.specs.Prelude.{◌≡◌, ◌≤◌, ℕ, ◌+◌, ◌%◌, Bool, true, false, List, length, Option, Some, None, option_map}
use Rattle.kube_base.specs.declared.numbers.ProcId.{ProcId}
use Rattle.kube_objects.specs.declared.call.Request.{Request}
use Rattle.kube_objects.specs.Clocks.{local}
use Rattle.kube_objects.specs.declared.rules.RetryRule.{RetryRule}
use Rattle.kube_objects.specs.declared.rules.RetryRule.TheVariants.{After, Grid, Ticks}
use Rattle.kube_objects.specs.Document.{Doc, lease_seconds, renew_deadline, retry_period, call_timeout, waits_of}
use Rattle.kube_objects.specs.Elector.{Shown, Follow, Fails, Asks, Succeeds, is_fast, shown, observed_at, timer, leads, deadline}
use Rattle.kube_objects.specs.Elector.{attempt_began, failures, first_attempt, first_failure, is_failing, is_trying}
use Rattle.kube_objects.specs.Entry.{Entry, Identity, Call, CallKind, Plain, Fast, Release, Look, Emptying}
use Rattle.kube_objects.specs.Identities.{identity}
use Rattle.kube_objects.specs.Newest.{has, when}
use Rattle.kube_objects.specs.Process.{begun, call_in, is_ending, is_releasing, release_begun}
use Rattle.kube_objects.specs.Releases.{is_mine}
use Rattle.kube_objects.specs.Turns.{is_fast_call, just_expired}
use Rattle.leader_elector.specs.declared.acting.Acting.{Acting}
use Rattle.leader_elector.specs.declared.candidate.Candidate.{Candidate}
use Rattle.leader_elector.specs.declared.elector.Elector.{Elector}
use Rattle.leader_elector.specs.declared.ended.Ended.{Ended}
use Rattle.leader_elector.specs.declared.ended.Released.{Released}
use Rattle.leader_elector.specs.declared.ended.Released.TheVariants.{AtOnce, Begins}
use Rattle.leader_elector.specs.declared.follow.Follow as code
use Rattle.leader_elector.specs.declared.follow.Follow.TheVariants as follow
use Rattle.leader_elector.specs.declared.leading.Leading.{Leading}
use Rattle.leader_elector.specs.declared.releasing.Releasing.{Releasing}
use Rattle.leader_elector.specs.declared.seen.Seen.{Seen}
use Rattle.leader_elector.specs.declared.timing.Timing.{Timing}
use Rattle.leader_elector.specs.declared.waiting.Waiting.{Waiting}
use Rattle.leader_elector.specs.declared.won.Won.{Won}
use Rattle.kube_objects.specs.CallSlots.{CallSlotStands, calls_of, held_call}
use Rattle.leader_elector.specs.Attempts.{AttemptState, attempts_of}

-- the timings are those of a process of the document
pub record IsTimingOf (doc : Doc) (p : ℕ) (t : Timing) : Type 0 where
  pub lease : t.lease_seconds ≡ lease_seconds doc p
  pub renew : t.renew ≡ renew_deadline doc p
  pub retry : t.retry ≡ retry_period doc p
  pub timeout : t.timeout ≡ call_timeout doc p
  pub fast : t.fast ≡ doc.settings.fast_renew
  pub retries : t.retries ≡ doc.settings.rules.retries
  pub respect : t.respect ≡ doc.settings.rules.respect
  pub release : t.release ≡ doc.settings.rules.release
  pub in_release : t.in_release ≡ doc.settings.rules.in_release

-- the waits are those of a controller
pub record AreWaitsOf (doc : Doc) (p : ℕ) (waits : List ℕ) : Type 0 where
  pub are : waits ≡ waits_of doc p
  pub some : 1 ≤ length waits

-- a leader has no use for them
abbrev pub AreWaitsIf : (led : Bool) → Doc → ℕ → List ℕ → Type 0
AreWaitsIf true doc p waits = Unit {0}
AreWaitsIf false doc p waits = AreWaitsOf doc p waits

-- the beat from which a leader counts its retry periods where its last attempt has failed
abbrev pub counted_from : RetryRule → Doc → Identity → List Entry → ℕ
counted_from After doc q h = first_failure doc q h
counted_from Grid doc q h = first_failure doc q h
counted_from Ticks doc q h = first_attempt doc q h

-- the request that waits, its kind, and the least reading at which it has expired
pub record Wait : Type 0 where
  pub request : Request
  pub kind : CallKind
  pub late : ℕ

abbrev pub kind_of : Bool → CallKind
kind_of true = Fast
kind_of false = Plain

abbrev pub waiting_of : Option Waiting → Option Wait
waiting_of = option_map (λ w. record { request = w.request; kind = kind_of w.fast; late = w.late.0 })

abbrev pub waiting_in : Doc → Identity → Option Call → Option Wait
waiting_in doc q =
    option_map (λ call.
    record { request = call.request; kind = call.kind; late = local doc q.process call.sent + call_timeout doc q.process + 1 })

abbrev pub is_fast_wait : Option Wait → Bool
is_fast_wait None = false
is_fast_wait (Some w) = is_fast w.kind

abbrev pub shown_of : Option Seen → Option Shown
shown_of = option_map (λ s. (s.version, s.lease))

-- the reading at which the version last shown was first seen, 0 before
abbrev pub observed_of : Option Seen → ℕ
observed_of None = 0
observed_of (Some s) = s.at.0

abbrev pub follow_of : code.Follow → Follow
follow_of follow.Fails = Fails
follow_of (follow.Asks request) = Asks request
follow_of (follow.Succeeds version) = Succeeds version

-- how attempts went. A candidate's waits come in turn; a leader has no use for a place in them
pub record AttemptsStand (doc : Doc) (q : Identity) (h : List Entry) (a : AttemptState) : Type 0 where
  pub place : leads q h ≡ false → a.place ≡ failures doc q h % length (waits_of doc q.process)
  pub began : a.began ≡ when (is_trying doc q h) (local doc q.process (attempt_began doc q h))
  pub origin : a.origin ≡ when (is_failing doc q h) (local doc q.process (counted_from doc.settings.rules.retries doc q h))

-- what a candidate and a leader have in common; a call that waits is of an attempt
pub record ElectorStands (doc : Doc) (q : Identity) (h : List Entry) (e : Elector) : Type 0 where
  pub process : e.me.0 ≡ q.process
  pub incarnation : e.incarnation ≡ q.incarnation
  pub timing : IsTimingOf doc q.process e.timing
  pub slot : CallSlotStands doc q h e.slot
  pub waiting : waiting_of e.waiting ≡ waiting_in doc q (call_in q h)
  pub shown : shown_of e.seen ≡ shown q h
  pub observed : observed_of e.seen ≡ observed_at doc q h
  pub timer : e.timer.0 ≡ timer doc q h
  pub attempts : AttemptsStand doc q h (attempts_of e.attempts)
  pub tries : has (call_in q h) ≡ true → is_trying doc q h ≡ true

-- an update without a Get that expired has been followed up
abbrev pub IsSettled : Identity → List Entry → Type 0
IsSettled q h = (k : ℕ) → is_fast_call (just_expired q k h) ≡ false

pub record CandidateStands (doc : Doc) (q : Identity) (h : List Entry) (c : Candidate) : Type 0 where
  pub elector : ElectorStands doc q h c.elector
  pub settled : IsSettled q h
  pub leads : leads q h ≡ false
  pub unreleased : is_releasing q h ≡ false

-- a candidate that a reply at beat k has made the holder, and that is to lead
pub record IsChosen (doc : Doc) (q : Identity) (k : ℕ) (h : List Entry) (w : Won) : Type 0 where
  pub elector : ElectorStands doc q h w.elector
  pub idle : call_in q h ≡ None
  pub unreleased : is_releasing q h ≡ false
  pub now : w.now.0 ≡ local doc q.process k

pub record LeadingStands (doc : Doc) (q : Identity) (h : List Entry) (l : Leading) : Type 0 where
  pub elector : ElectorStands doc q h l.elector
  pub settled : IsSettled q h
  pub leads : leads q h ≡ true
  pub deadline : Some l.deadline.0 ≡ deadline doc q h
  pub unreleased : is_releasing q h ≡ false

abbrev pub looks_in : CallKind → Bool
looks_in Plain = false
looks_in Fast = false
looks_in Release = false
looks_in (Look begun) = true
looks_in (Emptying begun) = false

-- a process whose release runs: it began at a beat, and its call waits
pub record ReleasingStands (doc : Doc) (q : Identity) (h : List Entry) (r : Releasing) : Type 0 where
  pub process : r.elector.me.0 ≡ q.process
  pub incarnation : r.elector.incarnation ≡ q.incarnation
  pub timing : IsTimingOf doc q.process r.elector.timing
  pub calls : calls_of r.elector.slot ≡ begun q h
  pub call : Call
  pub waits : call_in q h ≡ Some call
  pub held : held_call r.elector.slot ≡ Some (call.number, local doc q.process call.sent)
  pub late : r.late.0 ≡ local doc q.process call.sent + call_timeout doc q.process + 1
  pub looks : r.looks ≡ looks_in call.kind
  pub from : ℕ
  pub began : release_begun doc.settings.rules.release call.kind ≡ Some from
  pub until : r.until.0 ≡ local doc q.process from + renew_deadline doc q.process
  pub mine : r.mine ≡ is_mine q h
  pub ending : r.ending ≡ is_ending q h
  pub runs : is_releasing q h ≡ true

-- an identity of which the history tells nothing
pub record IsNew (doc : Doc) (q : Identity) (h : List Entry) : Type 0 where
  pub begun : begun q h ≡ 0
  pub call : call_in q h ≡ None
  pub shown : shown q h ≡ None
  pub observed : observed_at doc q h ≡ 0
  pub leads : leads q h ≡ false
  pub unreleased : is_releasing q h ≡ false
  pub failures : failures doc q h ≡ 0
  pub trying : is_trying doc q h ≡ false
  pub failing : is_failing doc q h ≡ false

-- ---- identities

-- a process and an incarnation that are the identity
abbrev pub Names : Identity → ProcId × ℕ → Type 0
Names q x = (x.0.0 ≡ q.process) × (x.1 ≡ q.incarnation)

abbrev pub candidate_identity : Candidate → Identity
candidate_identity c = identity c.elector.me.0 c.elector.incarnation

abbrev pub leading_identity : Leading → Identity
leading_identity l = identity l.elector.me.0 l.elector.incarnation

abbrev pub ended_identity : Ended → Identity
ended_identity x = identity x.me.0 x.incarnation

abbrev pub releasing_identity : Releasing → Identity
releasing_identity r = identity r.elector.me.0 r.elector.incarnation

abbrev pub released_identity : Released → Identity
released_identity (AtOnce x ask) = ended_identity x
released_identity (Begins r ask) = releasing_identity r

abbrev pub acting_identity : Acting → Identity
acting_identity a = identity a.elector.now.me.0 a.elector.now.incarnation

-- the reading at which the term ends
abbrev pub deadline_of : Leading → ℕ
deadline_of l = l.deadline.0
