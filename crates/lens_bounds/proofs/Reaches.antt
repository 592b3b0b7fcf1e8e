-- The delays and rates of a document that is read are some.
use Rattle.std.proofs.Common.{ℕ, ◌*◌, ◌≤◌, ◌∷◌, [], Bool, true, false, List, length, All, min, max, arith}
use Rattle.std.proofs.lemmas.List.Elements.{All-head, All-tail}
use Rattle.std.proofs.lemmas.Nat.{mul-le}
use Rattle.kube_objects.specs.declared.script.Event.{Event}
use Rattle.kube_objects.specs.declared.script.Proc.{Proc}
use Rattle.kube_objects.specs.declared.script.What.{What}
use Rattle.kube_objects.specs.declared.script.What.TheVariants.{Rate, Delay, Loss, Crash, Start, Stop, Watch, Ready, Pause, Stall, Put, Remove}
use Rattle.kube_objects.specs.Document.{Doc}
use Rattle.script_reader.specs.Lawful.{IsLawful, AreWaits, IsLawfulDoc, IsLawfulWhat, AreLawfulFrom}
use Rattle.takeover_laws.specs.Waits.{least_from, greatest_from}
use Rattle.lens_bounds.specs.declared.reach.Reach.{Reach}
use Rattle.lens_bounds.specs.Documents.{nothing, with_rate, rate_if, delay_if, with_processes, with_event, with_events, is_meant, processes_of, least_in, greatest_in, reach_of, calm_with, calm_of, with_far, outage_of}
use Rattle.lens_bounds.specs.Elections.{IsCalm}
use Rattle.lens_bounds.specs.Outages.{IsOutage}

-- a delay of a beat or more, and a rate that isn't below half
pub record IsSome (r : Reach) : Type 0 where
  pub far : 1 ≤ r.far
  pub least : 500000 ≤ r.least

-- there is a greatest rate too
abbrev pub IsRun : Reach → Type 0
IsRun r = 500000 ≤ r.greatest

nothing-some : IsSome nothing
nothing-some = record { far = omega arith; least = omega arith }

rate-some : (ppm : ℕ) (r : Reach) → 500000 ≤ ppm → IsSome r → IsSome (with_rate ppm r)
rate-some ppm r most some = record { far = some.far; least = omega (arith, some.least, most) }

rate-if : (b : Bool) (ppm : ℕ) (r : Reach) → 500000 ≤ ppm → IsSome r → IsSome (rate_if b ppm r)
rate-if true ppm r most some = rate-some ppm r most some
rate-if false ppm r most some = some

rate-run : (b : Bool) (ppm : ℕ) (r : Reach) → IsRun r → IsRun (rate_if b ppm r)
rate-run true ppm r run = omega (arith, run)
rate-run false ppm r run = run

delay-if : (b : Bool) (requests replies : ℕ) (r : Reach) → IsSome r → IsSome (delay_if b requests replies r)
delay-if true requests replies r some = record { far = omega (arith, some.far); least = some.least }
delay-if false requests replies r some = some

delay-run : (b : Bool) (requests replies : ℕ) (r : Reach) → IsRun r → IsRun (delay_if b requests replies r)
delay-run true requests replies r run = run
delay-run false requests replies r run = run

event-some : (doc : Doc) (count : ℕ) (own : Bool) (what : What) (r : Reach) → IsLawfulWhat doc what → IsSome r → IsSome (with_event count own what r)
event-some doc count own (Rate id ppm) r lawful some = rate-if (is_meant count own id.0) ppm r lawful.1 some
event-some doc count own (Delay id requests replies) r lawful some = delay-if (is_meant count own id.0) requests replies r some
event-some doc count own w r lawful some = some

event-run : (count : ℕ) (own : Bool) (what : What) (r : Reach) → IsRun r → IsRun (with_event count own what r)
event-run count own (Rate id ppm) r run = rate-run (is_meant count own id.0) ppm r run
event-run count own (Delay id requests replies) r run = delay-run (is_meant count own id.0) requests replies r run
event-run count own w r run = run

events-some : (doc : Doc) (from count : ℕ) (own : Bool) (events : List Event) (r : Reach) → AreLawfulFrom doc from events → IsSome r → IsSome (with_events count own events r)
events-some doc from count own [] r lawful some = some
events-some doc from count own (e ∷ es) r lawful some = events-some doc e.beat.0 count own es _ lawful.3 (event-some doc count own e.what r lawful.2 some)

events-run : (count : ℕ) (own : Bool) (events : List Event) (r : Reach) → IsRun r → IsRun (with_events count own events r)
events-run count own [] r run = run
events-run count own (e ∷ es) r run = events-run count own es _ (event-run count own e.what r run)

processes-some : (ps : List Proc) (r : Reach) → All IsLawful ps → IsSome r → IsSome (with_processes ps r)
processes-some [] r lawful some = some
processes-some (p ∷ ps) r lawful some =
    let own = All-head IsLawful p ps lawful in
    processes-some ps (with_rate p.rate_ppm r) (All-tail IsLawful p ps lawful) (rate-some p.rate_ppm r own.rate_least some)

processes-more : (ps : List Proc) (r : Reach) → IsRun r → IsRun (with_processes ps r)
processes-more [] r run = run
processes-more (p ∷ ps) r run = processes-more ps (with_rate p.rate_ppm r) (omega (arith, run))

processes-run : (ps : List Proc) (r : Reach) → All IsLawful ps → 1 ≤ length ps → IsRun (with_processes ps r)
processes-run [] r lawful inside = absurd (omega arith)
processes-run (p ∷ ps) r lawful inside =
    let own = All-head IsLawful p ps lawful in processes-more ps (with_rate p.rate_ppm r) (omega (arith, own.rate_least))

all-lawful : (doc : Doc) → IsLawfulDoc doc → (own : Bool) → All IsLawful (processes_of doc own)
all-lawful doc lawful true = lawful.controllers
all-lawful doc lawful false = lawful.kubelets

pub reach-some : (doc : Doc) → IsLawfulDoc doc → (own : Bool) → IsSome (reach_of doc own)
unfolding reach_of
reach-some doc lawful own =
    events-some doc 0 (length doc.controllers) own doc.events _ lawful.events (processes-some (processes_of doc own) nothing (all-lawful doc lawful own) nothing-some)

pub reach-runs : (doc : Doc) → IsLawfulDoc doc → IsRun (reach_of doc true)
unfolding reach_of
reach-runs doc lawful = events-run (length doc.controllers) true doc.events _ (processes-run doc.controllers nothing lawful.controllers lawful.some)

-- ---- its waits are at most 2.2 retry periods

least-from : (least : ℕ) (ws : List ℕ) → least ≤ 2200 → least_from least ws ≤ 2200
least-from least [] few = few
least-from least (w ∷ ws) few = least-from (min w least) ws (omega (arith, few))

least-few : (least : ℕ) (lists : List (List ℕ)) → least ≤ 2200 → least_in least lists ≤ 2200
least-few least [] few = few
least-few least (ws ∷ more) few = least-few (least_from least ws) more (least-from least ws few)

greatest-from : (most : ℕ) (ws : List ℕ) → All (λ w. (1000 ≤ w) × (w ≤ 2200)) ws → most ≤ 2200 → greatest_from most ws ≤ 2200
greatest-from most [] each few = few
greatest-from most (w ∷ ws) each few =
    let own : (1000 ≤ w) × (w ≤ 2200) = All-head (λ w. (1000 ≤ w) × (w ≤ 2200)) w ws each in
    greatest-from (max w most) ws (All-tail (λ w. (1000 ≤ w) × (w ≤ 2200)) w ws each) (omega (arith, few, own.1))

greatest-few : (most : ℕ) (lists : List (List ℕ)) → All AreWaits lists → most ≤ 2200 → greatest_in most lists ≤ 2200
greatest-few most [] each few = few
greatest-few most (ws ∷ more) each few =
    greatest-few (greatest_from most ws) more (All-tail AreWaits ws more each) (greatest-from most ws (All-head AreWaits ws more each).each few)

-- ---- so a clock goes on in each beat

on-micros : (beat rate : ℕ) → 1 ≤ beat → 500000 ≤ rate → 1000 ≤ beat * 1000 * rate
on-micros beat rate short most = let product : 1000 * 1 ≤ beat * 1000 * rate = mul-le 1000 1 (beat * 1000) rate (omega arith) (omega arith) in omega (arith, product)

calm-with : (doc : Doc) → IsLawfulDoc doc → (r : Reach) → IsSome r → IsRun r → IsCalm (calm_with doc r)
calm-with doc lawful r some run = record {
  near = omega arith;
  far = some.far;
  slow = on-micros doc.settings.beat_millis r.least lawful.settings.beat_least some.least;
  fast = on-micros doc.settings.beat_millis r.greatest lawful.settings.beat_least run;
  beat = lawful.settings.beat_most;
  waits = (least-few 2200 doc.waits (omega arith), greatest-few 1000 doc.waits lawful.waits (omega arith));
}

pub calm-is : (doc : Doc) → IsLawfulDoc doc → IsCalm (calm_of doc)
calm-is doc lawful = calm-with doc lawful (reach_of doc true) (reach-some doc lawful true) (reach-runs doc lawful)

pub outage-is : (doc : Doc) → IsLawfulDoc doc → IsOutage (outage_of doc)
outage-is doc lawful =
    let own = reach-some doc lawful true in
    let posts = reach-some doc lawful false in
    record {
      calm = calm-with doc lawful (with_far (reach_of doc false).far (reach_of doc true)) (record { far = omega (arith, posts.far); least = own.least }) (reach-runs doc lawful);
      posts = on-micros doc.settings.beat_millis (reach_of doc false).least lawful.settings.beat_least posts.least;
      monitor = lawful.settings.monitor_least;
    }
