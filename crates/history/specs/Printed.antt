-- The printed entries of a history, in order. An entry's line is read from its fact alone.
use Rattle.std.specs.Prelude.{ℕ, cond, List, [], ◌∷◌, ◌++◌, Option, Some, None}
use Rattle.kube_base.specs.declared.numbers.Version.{Version}
use Rattle.kube_objects.specs.declared.call.Answer.{Answer}
use Rattle.kube_objects.specs.declared.call.Answer.TheVariants as answer
use Rattle.kube_objects.specs.declared.call.Reply.{Reply}
use Rattle.kube_objects.specs.declared.call.Request.{Request}
use Rattle.kube_objects.specs.declared.call.Request.TheVariants as request
use Rattle.kube_objects.specs.declared.deed.Act.{Act}
use Rattle.kube_objects.specs.declared.deed.Act.TheVariants as act
use Rattle.kube_objects.specs.declared.deed.Actor.{Actor}
use Rattle.kube_objects.specs.declared.deed.Deed.{Deed}
use Rattle.kube_objects.specs.declared.key.Key.{Key}
use Rattle.kube_objects.specs.declared.node.Ready.{Ready}
use Rattle.kube_objects.specs.declared.script.What.{What}
use Rattle.kube_objects.specs.declared.script.What.TheVariants as what
use Rattle.kube_objects.specs.Entry.{Entry, Fact, Event, Starts, Crashes, Stops, Ends, StepsDown, ReleaseStops, Stalls, Answers, Leads, Ticks, Tick, Mark, Mode, Zone, Untaint, Swap, Head, Delete}
use Rattle.kube_objects.specs.Keys.{key_eq}
use Rattle.kube_objects.specs.Newest.{or_zero}
use Rattle.kube_objects.specs.Stored.{election}
use Rattle.kube_objects.specs.Tries.{as_answer}

-- an accepted renewal of a node's Lease isn't printed
abbrev pub if_told : Key → Answer → Option Answer
if_told key (answer.Done version) = cond (key_eq key election) (Some (answer.Done version)) None
if_told key other = Some other

abbrev pub map_answer : (Answer → Act) → Option Answer → Option Act
map_answer f None = None
map_answer f (Some a) = Some (f a)

abbrev pub told_update : Key → Option Answer → Option Answer
told_update key None = None
told_update key (Some a) = if_told key a

abbrev pub answer_act : Request → Reply → Option Act
answer_act (request.Get key) r = None
answer_act (request.Create key lease) r = map_answer (λ a. act.Create key a (or_zero lease.transitions)) (as_answer r)
answer_act (request.Update key given lease) r =
    map_answer (λ a. act.Update key a (or_zero lease.transitions)) (told_update key (as_answer r))
answer_act (request.PostStatus name status at) r = map_answer (λ a. act.Posted name status a) (as_answer r)

abbrev pub event_act : What → Option Version → Option Act
event_act (what.Stall beats) version = Some (act.Stall beats)
event_act (what.Put key object) (Some version) = Some (act.Put key version)
event_act (what.Remove key) (Some version) = Some (act.Removed key version)
event_act _ version = None

abbrev pub reason_in : Option Ready → ℕ
reason_in None = 0
reason_in (Some r) = r.reason

-- a try that was lost isn't printed
abbrev pub tick_act : Tick → Option Act
tick_act (Mark node given written a) = map_answer (λ a. act.Marked node (reason_in written.ready) a) a
tick_act (Mode on) = Some (act.Mode on)
tick_act (Zone place state rate) = Some (act.Zone place.region place.zone state rate)
tick_act (Untaint node given written a) = map_answer (λ a. act.Untainted node a) a
tick_act (Swap node wanted given written a) = map_answer (λ a. act.Swapped node wanted a) a
tick_act (Head place node wanted given written a) = map_answer (λ a. act.Tainted node wanted a) a
tick_act (Delete pod given node_given due a) = map_answer (λ a. act.Evicted pod (record { 0 = due }) a) a
tick_act _ = None

abbrev pub act_of : Fact → Option Act
act_of (Event event version) = event_act event version
act_of Starts = Some act.Start
act_of Crashes = Some act.Crash
act_of Stops = Some act.Stop
act_of Ends = Some act.End
act_of StepsDown = Some act.End
act_of ReleaseStops = Some act.Stop
act_of (Stalls beats) = Some (act.Pause beats)
act_of (Answers call reply comes written) = answer_act call.request reply
act_of (Leads version) = Some (act.Lead version)
act_of (Ticks tick) = tick_act tick
act_of _ = None

-- the line of an entry, where it has one
abbrev pub deeds_of : ℕ → Actor → Option Act → List Deed
deeds_of k who None = []
deeds_of k who (Some a) = record { beat = record { 0 = k }; actor = who; act = a } ∷ []

-- the printed entries, the oldest first
abbrev pub printed : List Entry → List Deed
printed [] = []
printed (e ∷ h) = printed h ++ deeds_of e.beat e.actor (act_of e.fact)
