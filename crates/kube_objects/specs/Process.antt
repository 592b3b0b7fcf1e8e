-- A process's life and its call. Each reading asks for the fact first, and then for the actor. Source: profile.
use Rattle.std.specs.Prelude.{ℕ, ◌+◌, ◌==◌, ◌&&◌, ◌||◌, not, nat_lt, Bool, true, false, List, Option, Some, None}
use Rattle.kube_objects.specs.declared.deed.Actor.{Actor}
use Rattle.kube_objects.specs.declared.rules.ReleaseRule.{ReleaseRule}
use Rattle.kube_objects.specs.declared.rules.ReleaseRule.TheVariants.{Stop}
use Rattle.kube_objects.specs.declared.script.What.{What}
use Rattle.kube_objects.specs.declared.script.What.TheVariants as what
use Rattle.kube_objects.specs.Clocks.{local}
use Rattle.kube_objects.specs.Document.{Doc, call_timeout, renew_deadline, restart_delay}
use Rattle.kube_objects.specs.Entry.{Entry, Identity, Call, CallKind, Plain, Fast, Release, Look, Emptying}
use Rattle.kube_objects.specs.Entry.{Fact, Event, Starts, Crashes, Stops, Ends, ReleaseBegins, ReleaseStops, ReleaseEnds, Sends, Delivers, Expires}
use Rattle.kube_objects.specs.Identities.{identity, is_by, of_process}
use Rattle.kube_objects.specs.Newest.{newest, count, when, only_if, join, has, or_else}
use Rattle.kube_objects.specs.Pauses.{is_paused}

-- ---- up and down

abbrev pub born : Option ℕ → Option (Option ℕ)
born None = None
born (Some i) = Some (Some i)

abbrev pub gone : Option ℕ → Option (Option ℕ)
gone None = None
gone (Some i) = Some None

abbrev pub life_says : ℕ → Actor → Fact → Option (Option ℕ)
life_says p who Starts = born (of_process p who)
life_says p who Crashes = gone (of_process p who)
life_says p who Stops = gone (of_process p who)
life_says p who Ends = gone (of_process p who)
life_says p who ReleaseEnds = gone (of_process p who)
life_says p who _ = None

-- the last entry on a process's life: it is up until a crash, a stop or an end, and where it releases its Lease until that has ended
abbrev pub life : ℕ → List Entry → Option (Option ℕ)
life p = newest (λ e h. life_says p e.actor e.fact)

-- the incarnation in which a process is up
abbrev pub alive : ℕ → List Entry → Option ℕ
alive p h = join (life p h)

abbrev pub is_start : Fact → Bool
is_start Starts = true
is_start _ = false

-- the number of a process's incarnations
abbrev pub starts : ℕ → List Entry → ℕ
starts p = count (λ e. is_start e.fact && has (of_process p e.actor))

abbrev pub is_stop : Fact → Bool
is_stop Stops = true
is_stop ReleaseStops = true
is_stop _ = false

-- how often an identity was stopped
abbrev pub stops : Identity → List Entry → ℕ
stops q = count (λ e. is_stop e.fact && is_by q e.actor)

-- ---- releases. Source: client-go, `LeaderElector.release`

abbrev pub releasing_says : Identity → Actor → Fact → Option Bool
releasing_says q who (ReleaseBegins at_deadline) = when (is_by q who) true
releasing_says q who ReleaseEnds = when (is_by q who) false
releasing_says q who Crashes = when (is_by q who) false
releasing_says q who _ = None

-- whether a release of an identity runs
abbrev pub is_releasing : Identity → List Entry → Bool
is_releasing q h = or_else false (newest (λ e T. releasing_says q e.actor e.fact) h)

abbrev pub ending_says : Identity → Actor → Fact → Option Bool
ending_says q who (ReleaseBegins at_deadline) = when (is_by q who) at_deadline
ending_says q who ReleaseStops = when (is_by q who) false
ending_says q who ReleaseEnds = when (is_by q who) false
ending_says q who Crashes = when (is_by q who) false
ending_says q who _ = None

-- whether one runs that began at the renew deadline, and no stop came since
abbrev pub is_ending : Identity → List Entry → Bool
is_ending q h = or_else false (newest (λ e T. ending_says q e.actor e.fact) h)

-- ---- calls

abbrev pub is_send : Fact → Bool
is_send (Sends call arrives) = true
is_send _ = false

-- the number of requests that an identity has sent
abbrev pub begun : Identity → List Entry → ℕ
begun q = count (λ e. is_send e.fact && is_by q e.actor)

-- the update that gives up the lead at a stop waits for no reply
abbrev pub open_as : CallKind → Call → Option Call
open_as Plain call = Some call
open_as Fast call = Some call
open_as Release call = None
open_as (Look begun) call = Some call
open_as (Emptying begun) call = Some call

abbrev pub call_says : Identity → Actor → Fact → Option (Option Call)
call_says q who (Sends call arrives) = when (is_by q who) (open_as call.kind call)
call_says q who (Delivers call reply counted) = when (counted && is_by q who) None
call_says q who (Expires call) = when (is_by q who) None
call_says q who (ReleaseBegins at_deadline) = when (is_by q who) None
call_says q who _ = None

-- the last entry on an identity's call
abbrev pub last_call : Identity → List Entry → Option (Option Call)
last_call q = newest (λ e h. call_says q e.actor e.fact)

-- the call that waits for its reply
abbrev pub call_in : Identity → List Entry → Option Call
call_in q h = join (last_call q h)

abbrev pub is_present : Option ℕ → ℕ → Bool
is_present None incarnation = false
is_present (Some i) incarnation = i == incarnation

abbrev pub begun_by : CallKind → Option ℕ
begun_by (Look begun) = Some begun
begun_by (Emptying begun) = Some begun
begun_by _ = None

-- the beat at which the release of a call began, where it is of one; under the rule of a stop's single update none is
abbrev pub release_begun : ReleaseRule → CallKind → Option ℕ
release_begun Stop kind = None
release_begun _ kind = begun_by kind

-- whether a renew deadline is over since then
abbrev pub is_release_over : Doc → Identity → ℕ → Option ℕ → Bool
is_release_over doc q k None = false
is_release_over doc q k (Some begun) = not (nat_lt (local doc q.process k) (local doc q.process begun + renew_deadline doc q.process))

-- whether a call's timeout is over at beat k, or the time of its release
abbrev pub is_late : Doc → Identity → ℕ → Call → Bool
is_late doc q k call =
    is_release_over doc q k (release_begun doc.settings.rules.release call.kind)
    || nat_lt (local doc q.process call.sent + call_timeout doc q.process) (local doc q.process k)

abbrev pub answered_call : Doc → Identity → ℕ → ℕ → Option Call → Option Call
answered_call doc q k number None = None
answered_call doc q k number (Some call) = when ((call.number == number) && not (is_late doc q k call)) call

-- the call that waits and that a reply with this number answers at beat k, where the reply counts
abbrev pub counted : Doc → Identity → ℕ → ℕ → List Entry → Option Call
counted doc q k number h = only_if (is_present (alive q.process h) q.incarnation) (answered_call doc q k number (call_in q h))

-- ---- restarts

-- a stop at a beat at which the process is paused does nothing
abbrev pub cancels : Doc → ℕ → ℕ → What → Bool
cancels doc p k (what.Crash id) = id.0 == p
cancels doc p k (what.Start id) = id.0 == p
cancels doc p k (what.Stop id) = (id.0 == p) && not (is_paused doc p k)
cancels doc p k _ = false

-- a release that ends is one's end where it began at the renew deadline and no stop came; h is the history before
abbrev pub released_says : ℕ → ℕ → Option ℕ → List Entry → Option (Option ℕ)
released_says p k None h = None
released_says p k (Some i) h = Some (when (is_ending (identity p i) h) k)

-- the beat of an end, or that a start or an event on the process came later
abbrev pub restart_says : Doc → ℕ → ℕ → Actor → Fact → List Entry → Option (Option ℕ)
restart_says doc p k who Ends h = when (has (of_process p who)) (Some k)
restart_says doc p k who Starts h = when (has (of_process p who)) None
restart_says doc p k who (Event event version) h = when (cancels doc p k event) None
restart_says doc p k who ReleaseEnds h = released_says p k (of_process p who) h
restart_says doc p k who _ h = None

-- the beat of the end that a process restarts after
abbrev pub ended : Doc → ℕ → List Entry → Option ℕ
ended doc p h = join (newest (λ e T. restart_says doc p e.beat e.actor e.fact T) h)

abbrev pub is_restart_due : Doc → ℕ → ℕ → Option ℕ → Bool
is_restart_due doc p k None = false
is_restart_due doc p k (Some at) = not (nat_lt (local doc p k) (local doc p at + restart_delay doc))
