-- The documents of the worked examples.
use Rattle.std.specs.Prelude.{ℕ, pos, Bool, true, false, List, [], ◌∷◌, None}
use Rattle.kube_objects.specs.declared.call.Answer.TheVariants as answer
use Rattle.kube_objects.specs.declared.deed.Act.{Act}
use Rattle.kube_objects.specs.declared.deed.Act.TheVariants as act
use Rattle.kube_objects.specs.declared.deed.Deed.{Deed}
use Rattle.kube_objects.specs.declared.deed.Actor.TheVariants as actor
use Rattle.kube_objects.specs.declared.key.Key.{Key}
use Rattle.kube_objects.specs.declared.key.Kind.TheVariants as kind
use Rattle.kube_objects.specs.declared.lease.Holder.TheVariants as holder
use Rattle.kube_objects.specs.declared.node.ReadyStatus.TheVariants as ready
use Rattle.kube_objects.specs.declared.object.Object.{Object}
use Rattle.kube_objects.specs.declared.object.Object.TheVariants as object
use Rattle.kube_objects.specs.declared.script.Event.{Event}
use Rattle.kube_objects.specs.declared.script.Proc.{Proc}
use Rattle.kube_objects.specs.declared.script.What.{What}
use Rattle.kube_objects.specs.declared.script.What.TheVariants as what
use Rattle.kube_objects.specs.declared.settings.RatePolicy.TheVariants as policy
use Rattle.kube_objects.specs.declared.settings.Settings.{Settings}
use Rattle.kube_objects.specs.Document.{Doc, own_waits_each}
use Rattle.kube_objects.specs.Entry.{actor_of}
use Rattle.kube_objects.specs.Identities.{identity}
use Rattle.kube_objects.specs.Rules.{own_rules}
use Rattle.kube_objects.specs.Stored.{election}

-- the settings of a document that says nothing but its end
abbrev pub settings : ℕ → Settings
settings end = record {
  beat_millis = 100;
  end_beat = record { 0 = end };
  epoch = record { 0 = 1704067200000000 };
  lease_duration_seconds = 15;
  renew_deadline_millis = 10000;
  retry_period_millis = 2000;
  call_timeout_millis = 2000;
  restart_millis = 1000;
  monitor_period_millis = 5000;
  grace_period_millis = 40000;
  startup_grace_millis = 60000;
  node_lease_duration_seconds = 40;
  primary_rate = 100;
  secondary_rate = 10;
  large_zone = 50;
  unhealthy_percent = 55;
  fast_renew = false;
  rate_policy = policy.Standard;
  rules = own_rules;
}

-- a controller of which nothing is said but its name
abbrev pub controller : ℕ → Proc
controller name = record {
  name = name;
  rate_ppm = 1000000;
  offset_millis = pos 0;
  up = true;
  watch = true;
  ready = ready.True;
  lease_seconds = 15;
  renew_millis = 10000;
  retry_millis = 2000;
  timeout_millis = 2000;
}

-- 10 and 11 are the numbers of c1 and c2
abbrev pub c1 : Proc
c1 = controller 10

abbrev pub c2 : Proc
c2 = controller 11

abbrev pub document : Settings → List Proc → List (Key × Object) → List Event → Doc
document set controllers objects events =
    record { settings = set; controllers = controllers; kubelets = []; waits = own_waits_each controllers; objects = objects; events = events }

-- one controller
abbrev pub alone : ℕ → List (Key × Object) → List Event → Doc
alone end objects events = document (settings end) (c1 ∷ []) objects events

-- two controllers
abbrev pub pair : ℕ → List (Key × Object) → List Event → Doc
pair end objects events = document (settings end) (c1 ∷ c2 ∷ []) objects events

-- the record of a holder that is no process of the document, without a duration; 12 is the number of its name
abbrev pub old_record : List (Key × Object)
old_record =
    (election, object.Lease (record { holder = holder.Foreign 12; duration = None; acquired = None; renewed = None; transitions = None }))
    ∷ []

-- ---- events

abbrev pub at_beat : ℕ → What → Event
at_beat k w = record { beat = record { 0 = k }; what = w }

abbrev pub delay : ℕ → ℕ → ℕ → What
delay p requests replies = what.Delay (record { 0 = p }) requests replies

abbrev pub loss : ℕ → Bool → Bool → What
loss p requests replies = what.Loss (record { 0 = p }) requests replies

abbrev pub crash : ℕ → What
crash p = what.Crash (record { 0 = p })

abbrev pub start : ℕ → What
start p = what.Start (record { 0 = p })

abbrev pub stop : ℕ → What
stop p = what.Stop (record { 0 = p })

-- a Lease that is no election record; 13 is the number of its name
abbrev pub other : Key
other = record { kind = kind.Lease; space = 7; name = 13 }

abbrev pub put : Key → What
put key =
    what.Put key (object.Lease (record { holder = holder.Nobody; duration = None; acquired = None; renewed = None; transitions = None }))

abbrev pub remove : Key → What
remove key = what.Remove key

-- ---- lines

-- what a process does in an incarnation at a beat
abbrev pub line : ℕ → ℕ → ℕ → Act → Deed
line k p i act = record { beat = record { 0 = k }; actor = actor_of (identity p i); act = act }

-- what the script does at a beat
abbrev pub script_line : ℕ → Act → Deed
script_line k act = record { beat = record { 0 = k }; actor = actor.Script; act = act }

-- the election Lease is written, with the version and the transitions that it has then
abbrev pub create : ℕ → Act
create version = act.Create election (answer.Done (record { 0 = version })) 0

abbrev pub update : ℕ → ℕ → Act
update version transitions = act.Update election (answer.Done (record { 0 = version })) transitions

abbrev pub lead : ℕ → Act
lead version = act.Lead (record { 0 = version })

-- the first process leads from beat 4 on, by this version of the Lease
abbrev pub elected : ℕ → List Deed
elected version = line 0 0 1 act.Start ∷ line 3 0 1 (create version) ∷ line 4 0 1 (lead version) ∷ []

-- and the second, which asked for the Lease at the same time, doesn't
abbrev pub elected_of_two : ℕ → List Deed
elected_of_two version =
    line 0 0 1 act.Start
    ∷ line 0 1 1 act.Start
    ∷ line 3 0 1 (create version)
    ∷ line 3 1 1 (act.Create election answer.Exists 0)
    ∷ line 4 0 1 (lead version)
    ∷ []
