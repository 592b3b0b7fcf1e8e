-- The history: what happened, the newest entry first.
use Rattle.std.specs.Prelude.{ℕ, Bool, Option}
use Rattle.kube_base.specs.declared.numbers.Version.{Version}
use Rattle.kube_objects.specs.declared.call.Answer.{Answer}
use Rattle.kube_objects.specs.declared.call.Reply.{Reply}
use Rattle.kube_objects.specs.declared.call.Request.{Request}
use Rattle.kube_objects.specs.declared.deed.Actor.{Actor}
use Rattle.kube_objects.specs.declared.deed.Actor.TheVariants as actor
use Rattle.kube_objects.specs.declared.key.Key.{Key}
use Rattle.kube_objects.specs.declared.node.Node.{Node}
use Rattle.kube_objects.specs.declared.node.ZoneState.{ZoneState}
use Rattle.kube_objects.specs.declared.object.Object.{Object}
use Rattle.kube_objects.specs.declared.script.What.{What}

-- a process in one of its incarnations
pub record Identity : Type 0 where
  pub process : ℕ
  pub incarnation : ℕ

-- a plain call, an update that a leader sends without a Get, or the update that gives up the lead at a stop; and the calls of a release,
-- with the beat at which it began: the Get that looks at the Lease, and the update that empties it
pub data CallKind : Type 0 where
  Plain : CallKind
  Fast : CallKind
  Release : CallKind
  Look : (begun : ℕ) → CallKind
  Emptying : (begun : ℕ) → CallKind

-- a request with its number in the incarnation and the beat at which it was sent
pub record Call : Type 0 where
  pub number : ℕ
  pub request : Request
  pub sent : ℕ
  pub kind : CallKind

-- a zone is a pair of region and zone
pub record Place : Type 0 where
  pub region : ℕ
  pub zone : ℕ

-- the entries of a controller's tick; a try's answer is None where the try was lost
pub data Tick : Type 0 where
  Sync : Tick
  Pass : Tick
  Mark : (node : ℕ) (given : Version) (written : Node) (answer : Option Answer) → Tick
  Mode : (on : Bool) → Tick
  Zone : (place : Place) (state : ZoneState) (rate : ℕ) → Tick
  Untaint : (node : ℕ) (given : Version) (written : Node) (answer : Option Answer) → Tick
  Swap : (node wanted : ℕ) (given : Version) (written : Node) (answer : Option Answer) → Tick
  Head : (place : Place) (node wanted : ℕ) (given : Version) (written : Node) (answer : Option Answer) → Tick
  Delete : (pod : Key) (given node_given : Version) (due : ℕ) (answer : Option Answer) → Tick
  -- a queued node has its turn, and nothing is to be written
  Skip : (place : Place) (node : ℕ) → Tick

-- what an entry does
pub data Fact : Type 0 where
  -- an object of the document is put before beat 0
  First : (key : Key) (object : Object) → Fact
  -- an event of the script: a put has the object as it is stored, and a put or a remove the version of its write
  Event : (what : What) (version : Option Version) → Fact
  Starts : Fact
  Crashes : Fact
  Stops : Fact
  Ends : Fact
  -- a leader begins to release its Lease: at its renew deadline, or else at a stop, which stands before. Its process ends with the release
  ReleaseBegins : (at_deadline : Bool) → Fact
  ReleaseEnds : Fact
  -- a leader that releases its Lease acts no more: its deadline has come, or its release ends in which it acted
  StepsDown : Fact
  -- it is stopped: a release begins, or goes on
  ReleaseStops : Fact
  -- a process that is up stands still for so many beats
  Stalls : (beats : ℕ) → Fact
  -- a request is sent; it arrives at that beat, or is lost
  Sends : (call : Call) (arrives : Option ℕ) → Fact
  -- a request of the actor is answered; the reply comes at that beat, or is lost; the object that it wrote
  Answers : (call : Call) (reply : Reply) (comes : Option ℕ) (written : Option Object) → Fact
  -- a reply comes to the actor, and counts or doesn't
  Delivers : (call : Call) (reply : Reply) (counted : Bool) → Fact
  Expires : (call : Call) → Fact
  Leads : (version : Version) → Fact
  Ticks : (tick : Tick) → Fact

-- steps are 0 before beat 0, and 1 to 4 within a beat
pub record Entry : Type 0 where
  pub beat : ℕ
  pub step : ℕ
  pub actor : Actor
  pub fact : Fact

abbrev pub actor_of : Identity → Actor
actor_of q = actor.Proc (record { 0 = q.process }) q.incarnation

-- an entry of a process
abbrev pub entry : ℕ → ℕ → Identity → Fact → Entry
entry beat step q fact = record { beat = beat; step = step; actor = actor_of q; fact = fact }

-- an entry of the script
abbrev pub script_entry : ℕ → ℕ → Fact → Entry
script_entry beat step fact = record { beat = beat; step = step; actor = actor.Script; fact = fact }
