-- The times of day of a lawful document aren't after 2261.
use Rattle.std.proofs.Common.{T, ◌≡◌, ℕ, zero, suc, ◌+◌, ◌*◌, ◌/◌, ◌≤◌, ◌==◌, nat_le, Bool, true, false, ℤ, pos, negsuc, ◌≤ℤ◌, List, [], ◌∷◌, ◌++◌, Option, Some, None, refl, arith}
use Rattle.std.proofs.Math.Nat.{mul-le-mul_left, mul-le-mul_right}
use Rattle.std.proofs.lemmas.Bool.{leb-true}
use Rattle.std.proofs.lemmas.List.Elements.{recursion_from_All}
use Rattle.std.specs.List.{AllByRecursion}
use Rattle.kube_base.specs.Times.{last_wall}
use Rattle.kube_objects.specs.declared.script.Event.{Event}
use Rattle.kube_objects.specs.declared.script.Proc.{Proc}
use Rattle.kube_objects.specs.declared.script.What.{What}
use Rattle.kube_objects.specs.declared.script.What.TheVariants as what
use Rattle.kube_objects.specs.Clocks.{rate_of, last_rate, rate, local, moved, wall, store_wall}
use Rattle.kube_objects.specs.Document.{Doc, process_at, field, first_rate, beat_micros, end_beat}
use Rattle.kube_objects.specs.Newest.{when, only_if, or_else}
use Rattle.script_reader.specs.Lawful.{IsLawful, IsLawfulWhat, AreLawfulFrom, IsLawfulDoc}
use Rattle.naming_laws.proofs.Lists.{all_append, all_at}

from_t : {b : Bool} → T b → b ≡ true
from_t {b = true} t = refl
from_t {b = false} t = elim t [ ]

module _ (doc : Doc) (lawful : IsLawfulDoc doc) where
  -- ---- processes

  pub processes_lawful : AllByRecursion IsLawful (doc.controllers ++ doc.kubelets)
  processes_lawful = all_append IsLawful doc.controllers doc.kubelets (recursion_from_All IsLawful doc.controllers lawful.controllers) (recursion_from_All IsLawful doc.kubelets lawful.kubelets)

  -- a field, of a process or by default
  pub field_is : {A : Type 0} (P : A → Type 0) (f : Proc → A) (x : A) → P x → ((p : Proc) → IsLawful p → P (f p)) → (p : ℕ) → P (field f x (process_at doc p))
  field_is P f x default each p = cases (process_at doc p) refl
    where
      cases : (o : Option Proc) → process_at doc p ≡ o → P (field f x o)
      cases None is = default
      cases (Some proc) is = each proc (all_at IsLawful (doc.controllers ++ doc.kubelets) p proc processes_lawful is)

  -- ---- rates

  abbrev IsRate : Option ℕ → Type 0
  IsRate None = Unit {0}
  IsRate (Some ppm) = ppm ≤ 2000000

  what_rate : (p : ℕ) (w : What) → IsLawfulWhat doc w → IsRate (rate_of p w)
  what_rate p (what.Rate id ppm) ok = by (id.0 == p)
    where
      by : (b : Bool) → IsRate (when b ppm)
      by true = ok.2
      by false = tt
  what_rate p (what.Delay id requests replies) ok = tt
  what_rate p (what.Loss id requests replies) ok = tt
  what_rate p (what.Crash id) ok = tt
  what_rate p (what.Start id) ok = tt
  what_rate p (what.Stop id) ok = tt
  what_rate p (what.Watch id on) ok = tt
  what_rate p (what.Pause id beats) ok = tt
  what_rate p (what.Stall beats) ok = tt
  what_rate p (what.Ready id status) ok = tt
  what_rate p (what.Put key object) ok = tt
  what_rate p (what.Remove key) ok = tt

  events_rate : (p k from : ℕ) (es : List Event) → AreLawfulFrom doc from es → IsRate (last_rate p k es)
  events_rate p k from [] ok = tt
  events_rate p k from (e ∷ es) ok = by_later (last_rate p k es) (events_rate p k e.beat.0 es ok.3)
    where
      by_test : (b : Bool) → IsRate (only_if b (rate_of p e.what))
      by_test true = what_rate p e.what ok.2
      by_test false = tt

      by_later : (o : Option ℕ) → IsRate o → IsRate (elim o [ None ↦ only_if (nat_le e.beat.0 k) (rate_of p e.what) | Some ppm ↦ Some ppm ])
      by_later None later = by_test (nat_le e.beat.0 k)
      by_later (Some ppm) later = later

  rate_most : (p k : ℕ) → rate doc p k ≤ 2000000
  rate_most p k = by_event (last_rate p k doc.events) (events_rate p k 0 doc.events lawful.events)
    where
      by_event : (o : Option ℕ) → IsRate o → or_else (first_rate doc p) o ≤ 2000000
      by_event None is = field_is (λ n. n ≤ 2000000) (λ x. x.rate_ppm) 0 (omega arith) (λ x ok. ok.rate_most) p
      by_event (Some ppm) is = is

  -- ---- readings

  local_most : (p k : ℕ) → local doc p k ≤ k * (beat_micros doc * 2000000)
  local_most p zero = omega arith
  local_most p (suc k) = omega (arith, local_most p k, mul-le-mul_left (beat_micros doc) (rate_most p k))

  -- the time since the beginning, one beat after the end at the latest
  spent : (k : ℕ) → k ≤ end_beat doc + 1 → k * beat_micros doc ≤ 604801000000
  spent k le =
      let most : k * doc.settings.beat_millis ≤ (end_beat doc + 1) * doc.settings.beat_millis = mul-le-mul_right doc.settings.beat_millis le in
      omega (arith, most, lawful.settings.end, lawful.settings.beat_most)

  local_within : (p k : ℕ) → k ≤ end_beat doc + 1 → local doc p k / 1000000 ≤ 1209602000000
  local_within p k le = omega (arith, local_most p k, spent k le)

  pub store_early : (k : ℕ) → k ≤ end_beat doc + 1 → store_wall doc k ≤ last_wall
  store_early k le = omega (arith, spent k le, lawful.settings.epoch_most)

  pub wall_early : (p k : ℕ) → k ≤ end_beat doc + 1 → wall doc p k ≤ last_wall
  wall_early p k le = field_is (λ offset. moved offset (doc.settings.epoch.0 + local doc p k / 1000000) ≤ last_wall) (λ x. x.offset_millis) (pos 0)
      (omega (arith, local_within p k le, lawful.settings.epoch_most)) (λ x ok. by x.offset_millis ok.offset_most) p
    where
      by : (offset : ℤ) → offset ≤ℤ pos 31536000000 → moved offset (doc.settings.epoch.0 + local doc p k / 1000000) ≤ last_wall
      by (pos millis) most =
          let within : millis ≤ 31536000000 = leb-true millis 31536000000 (from_t most.le) in
          omega (arith, local_within p k le, lawful.settings.epoch_most, within)
      by (negsuc millis) most = omega (arith, local_within p k le, lawful.settings.epoch_most)
