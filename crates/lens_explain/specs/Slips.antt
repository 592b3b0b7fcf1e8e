-- Values of a document that look as if they were meant in another unit, and nodes of which nothing is heard.
use Rattle.std.specs.Prelude.{ℕ, ◌+◌, ◌*◌, ◌/◌, ◌%◌, ◌==◌, ◌&&◌, nat_lt, nat_le, Bool, true, false, List, [], ◌∷◌, ◌++◌, length, codes, decimal, if◌then◌else◌}
use Rattle.std.specs.List.{list_any}
use Rattle.kube_objects.specs.declared.key.Key.{Key}
use Rattle.kube_objects.specs.declared.object.Object.{Object}
use Rattle.kube_objects.specs.declared.object.Object.TheVariants as object
use Rattle.kube_objects.specs.declared.script.Proc.{Proc}
use Rattle.kube_objects.specs.declared.settings.Settings.{Settings}
use Rattle.lens_explain.specs.declared.slips.Slip as declared
use Rattle.script_reader.specs.declared.document.Document.{Document}

-- the path of a value, what it is, and what is likely meant
pub record Slip : Type 0 where
  pub path : List ℕ
  pub is_millis : Bool
  pub value : ℕ
  pub likely : ℕ

abbrev pub slip_of : declared.Slip → Slip
slip_of s = record { path = s.path.items; is_millis = s.is_millis; value = s.value; likely = s.likely }

-- milliseconds that are fewer than a hundred: seconds were meant
abbrev pub millis_slip : List ℕ → ℕ → List Slip
millis_slip path value =
    if nat_lt value 100 then record { path = path; is_millis = true; value = value; likely = value * 1000 } ∷ [] else []

-- seconds that are a thousand or more, and whole thousands: milliseconds were meant
abbrev pub seconds_slip : List ℕ → ℕ → List Slip
seconds_slip path value =
    if nat_le 1000 value && value % 1000 == 0 then record { path = path; is_millis = false; value = value; likely = value / 1000 } ∷ [] else []

abbrev pub node_slips : Settings → List Slip
node_slips s =
    millis_slip (codes "/settings/monitorPeriodMillis") s.monitor_period_millis
    ++ (millis_slip (codes "/settings/gracePeriodMillis") s.grace_period_millis
    ++ (millis_slip (codes "/settings/startupGraceMillis") s.startup_grace_millis
    ++ seconds_slip (codes "/settings/nodeLeaseDurationSeconds") s.node_lease_duration_seconds))

abbrev pub settings_slips : Settings → List Slip
settings_slips s =
    seconds_slip (codes "/settings/leaseDurationSeconds") s.lease_duration_seconds
    ++ (millis_slip (codes "/settings/renewDeadlineMillis") s.renew_deadline_millis
    ++ (millis_slip (codes "/settings/retryPeriodMillis") s.retry_period_millis
    ++ (millis_slip (codes "/settings/callTimeoutMillis") s.call_timeout_millis
    ++ node_slips s)))

-- ---- those of a controller, where they aren't those of the settings

abbrev pub own_path : ℕ → List ℕ → List ℕ
own_path place key = codes "/controllers/" ++ (decimal place ++ key)

abbrev pub unit_slip : Bool → List ℕ → ℕ → List Slip
unit_slip true path value = millis_slip path value
unit_slip false path value = seconds_slip path value

-- of milliseconds, or of seconds
abbrev pub own_slip : Bool → ℕ → List ℕ → ℕ → ℕ → List Slip
own_slip is_millis place key value standard = if value == standard then [] else unit_slip is_millis (own_path place key) value

abbrev pub controller_slips : Settings → ℕ → Proc → List Slip
controller_slips s place c =
    own_slip false place (codes "/leaseDurationSeconds") c.lease_seconds s.lease_duration_seconds
    ++ (own_slip true place (codes "/renewDeadlineMillis") c.renew_millis s.renew_deadline_millis
    ++ (own_slip true place (codes "/retryPeriodMillis") c.retry_millis s.retry_period_millis
    ++ own_slip true place (codes "/callTimeoutMillis") c.timeout_millis s.call_timeout_millis))

-- of controllers, the first of which has this place
abbrev pub slips_from : Settings → ℕ → List Proc → List Slip
slips_from s place [] = []
slips_from s place (c ∷ cs) = controller_slips s place c ++ slips_from s (place + 1) cs

-- all of a document
unfoldable pub slips : Document → List Slip
slips d = settings_slips d.settings ++ slips_from d.settings 0 d.controllers

abbrev pub unit_text : Bool → List ℕ
unit_text true = codes " ms: were seconds meant? Then write "
unit_text false = codes " s: were milliseconds meant? Then write "

unfoldable pub slip_text : Slip → List ℕ
slip_text s = codes "warning: " ++ (s.path ++ (codes " is " ++ (decimal s.value ++ (unit_text s.is_millis ++ (decimal s.likely ++ codes ".\n")))))

-- ---- nodes of which nothing is heard

abbrev pub is_node : Object → Bool
is_node (object.Node n) = true
is_node (object.Lease l) = false
is_node (object.Pod p) = false

abbrev pub has_node : List (Key × Object) → Bool
has_node objects = list_any (λ o. is_node o.1) objects

-- there are Nodes, and no kubelet
unfoldable pub is_unheard : Document → Bool
is_unheard d = length d.kubelets == 0 && has_node d.objects.items

abbrev pub unheard_text : Bool → List ℕ
unheard_text true = codes "warning: there are Nodes and no kubelets, so all nodes fall silent together, which taints none: a pod is evicted only for a taint that is there already or put. Give each node a kubelet, and epoch the time of the list.\n"
unheard_text false = []
