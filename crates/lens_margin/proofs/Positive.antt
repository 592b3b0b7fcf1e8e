-- The rates of a lawful document's clocks are more than nothing.
use Rattle.std.proofs.Common.{ℕ, zero, suc, ◌<◌, ◌≤◌, ◌++◌, Bool, true, false, List, [], ◌∷◌, length, All, slice_get, Option, Some, None, arith}
use Rattle.std.proofs.lemmas.Bool.Decides.{nat_tests}
use Rattle.std.proofs.lemmas.List.Elements.{All-head, All-tail}
use Rattle.kube_objects.specs.declared.script.Event.{Event}
use Rattle.kube_objects.specs.declared.script.Proc.{Proc}
use Rattle.kube_objects.specs.declared.script.What.{What}
use Rattle.kube_objects.specs.declared.script.What.TheVariants.{Rate, Delay, Loss, Crash, Start, Stop, Watch, Ready, Pause, Stall, Put, Remove}
use Rattle.kube_objects.specs.Clocks.{rate, rate_of, last_rate}
use Rattle.kube_objects.specs.Document.{Doc, end_beat, field, first_rate}
use Rattle.kube_objects.specs.Newest.{when, only_if, or_else}
use Rattle.history.specs.Premise.{least_rate, greatest_rate, greatest_below}
use Rattle.script_reader.specs.Lawful.{IsLawful, IsLawfulDoc, IsLawfulWhat, AreLawfulFrom}
use Rattle.lens_margin.specs.Margins.{slowest, fastest}

-- more than nothing where it is there
abbrev Runs : Option ℕ → Type 0
Runs None = Unit {0}
Runs (Some ppm) = 0 < ppm

runs-when : (b : Bool) (ppm : ℕ) → 0 < ppm → Runs (when b ppm)
runs-when true ppm some = some
runs-when false ppm some = tt

runs-only : (b : Bool) (o : Option ℕ) → Runs o → Runs (only_if b o)
runs-only true o some = some
runs-only false o some = tt

runs-else : (first : ℕ) (o : Option ℕ) → 0 < first → Runs o → 0 < or_else first o
runs-else first None some runs = some
runs-else first (Some ppm) some runs = runs

runs-what : (doc : Doc) (p : ℕ) (what : What) → IsLawfulWhat doc what → Runs (rate_of p what)
runs-what doc p (Rate id ppm) lawful = runs-when _ ppm (omega (arith, lawful.1))
runs-what doc p (Delay id requests replies) lawful = tt
runs-what doc p (Loss id requests replies) lawful = tt
runs-what doc p (Crash id) lawful = tt
runs-what doc p (Start id) lawful = tt
runs-what doc p (Stop id) lawful = tt
runs-what doc p (Watch id on) lawful = tt
runs-what doc p (Ready id status) lawful = tt
runs-what doc p (Pause id beats) lawful = tt
runs-what doc p (Stall beats) lawful = tt
runs-what doc p (Put key object) lawful = tt
runs-what doc p (Remove key) lawful = tt

runs-earlier : (later earlier : Option ℕ) → Runs later → Runs earlier → Runs (elim later [ None ↦ earlier | Some ppm ↦ Some ppm ])
runs-earlier None earlier late early = early
runs-earlier (Some ppm) earlier late early = late

runs-last : (doc : Doc) (p k from : ℕ) (events : List Event) → AreLawfulFrom doc from events → Runs (last_rate p k events)
runs-last doc p k from [] lawful = tt
runs-last doc p k from (e ∷ es) lawful =
    runs-earlier (last_rate p k es) _ (runs-last doc p k e.beat.0 es lawful.3) (runs-only _ (rate_of p e.what) (runs-what doc p e.what lawful.2))

runs-first : (controllers kubelets : List Proc) (p : ℕ) → All IsLawful controllers → p < length controllers → 0 < field (λ x. x.rate_ppm) 0 (slice_get (controllers ++ kubelets) p)
runs-first [] kubelets p lawful inside = absurd (omega arith)
runs-first (c ∷ cs) kubelets zero lawful inside = let ranges = All-head IsLawful c cs lawful in omega (arith, ranges.rate_least)
runs-first (c ∷ cs) kubelets (suc p) lawful inside = runs-first cs kubelets p (All-tail IsLawful c cs lawful) (omega arith)

module _ (doc : Doc) (lawful : IsLawfulDoc doc) (p : ℕ) (inside : p < length doc.controllers) where
  runs : (k : ℕ) → 0 < rate doc p k
  runs k = runs-else (first_rate doc p) (last_rate p k doc.events) (runs-first doc.controllers doc.kubelets p lawful.controllers inside) (runs-last doc p k 0 doc.events lawful.events)

  runs-least : (k : ℕ) → 0 < least_rate doc p k
  runs-least zero = runs 0
  runs-least (suc k) = let before = runs-least k in let now = runs (suc k) in grind (arith, nat_tests)

  runs-greatest : (k : ℕ) → 0 < greatest_rate doc p k
  runs-greatest zero = runs 0
  runs-greatest (suc k) = let before = runs-greatest k in let now = runs (suc k) in grind (arith, nat_tests)

  pub slowest-some : 0 < slowest doc p
  slowest-some = runs-least (end_beat doc)

below-some : (doc : Doc) (lawful : IsLawfulDoc doc) (n : ℕ) → 0 < n → n ≤ length doc.controllers → 0 < greatest_below doc n
below-some doc lawful zero some most = absurd (omega arith)
below-some doc lawful (suc n) some most = let last = runs-greatest doc lawful n (omega arith) (end_beat doc) in grind (arith, nat_tests)

pub fastest-some : (doc : Doc) → IsLawfulDoc doc → 0 < fastest doc
fastest-some doc lawful = below-some doc lawful (length doc.controllers) (omega (arith, lawful.some)) (omega arith)
