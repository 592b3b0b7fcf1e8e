-- The delays and rates of a document's controllers are within the reach that is read from it.
use Rattle.std.proofs.Common.{◌≡◌, ◌<◌, ◌≤◌, ℕ, zero, suc, ◌==◌, nat_lt, nat_le, Bool, true, false, List, [], ◌∷◌, ◌++◌, length, slice_get, Option, Some, None, IfSome, refl, sym, ap, ◌∙◌, subst, inl, inr, arith}
use Rattle.std.proofs.lemmas.Bool.{eqb-true, ltb-true}
use Rattle.kube_objects.specs.declared.script.Event.{Event}
use Rattle.kube_objects.specs.declared.script.Proc.{Proc}
use Rattle.kube_base.specs.declared.numbers.ProcId.{ProcId}
use Rattle.kube_objects.specs.declared.script.What.{What}
use Rattle.kube_objects.specs.declared.script.What.TheVariants.{Rate, Delay, Loss, Crash, Start, Stop, Watch, Ready, Pause, Stall, Put, Remove}
use Rattle.kube_objects.specs.Clocks.{rate_of, last_rate, rate}
use Rattle.kube_objects.specs.Document.{Doc, field, first_rate, is_controller}
use Rattle.kube_objects.specs.Newest.{when, only_if, or_else}
use Rattle.kube_objects.specs.Wire.{request_delay_of, reply_delay_of}
use Rattle.history_laws.proofs.Plainly.{some_is, none_is}
use Rattle.history_laws.proofs.Walk.{InScript}
use Rattle.lens_bounds.specs.declared.reach.Reach.{Reach}
use Rattle.lens_bounds.specs.Documents.{nothing, with_rate, with_delay, rate_if, delay_if, with_processes, with_event, with_events, reach_of}

-- ---- a reach grows

pub record Grows (r s : Reach) : Type 0 where
  pub far : r.far ≤ s.far
  pub least : s.least ≤ r.least
  pub greatest : r.greatest ≤ s.greatest

same : (r : Reach) → Grows r r
same r = record { far = omega arith; least = omega arith; greatest = omega arith }

after : (r s t : Reach) → Grows r s → Grows s t → Grows r t
after r s t a b = record { far = omega (arith, a.far, b.far); least = omega (arith, a.least, b.least); greatest = omega (arith, a.greatest, b.greatest) }

rate_grows : (b : Bool) (ppm : ℕ) (r : Reach) → Grows r (rate_if b ppm r)
rate_grows true ppm r = record { far = omega arith; least = omega arith; greatest = omega arith }
rate_grows false ppm r = same r

delay_grows : (b : Bool) (x y : ℕ) (r : Reach) → Grows r (delay_if b x y r)
delay_grows true x y r = record { far = omega arith; least = omega arith; greatest = omega arith }
delay_grows false x y r = same r

event_grows : (count : ℕ) (own : Bool) (w : What) (r : Reach) → Grows r (with_event count own w r)
event_grows count own (Rate id ppm) r = rate_grows _ ppm r
event_grows count own (Delay id x y) r = delay_grows _ x y r
event_grows count own (Loss id x y) r = same r
event_grows count own (Crash id) r = same r
event_grows count own (Start id) r = same r
event_grows count own (Stop id) r = same r
event_grows count own (Watch id on) r = same r
event_grows count own (Ready id status) r = same r
event_grows count own (Pause id beats) r = same r
event_grows count own (Stall beats) r = same r
event_grows count own (Put key object) r = same r
event_grows count own (Remove key) r = same r

events_grow : (count : ℕ) (own : Bool) (es : List Event) (r : Reach) → Grows r (with_events count own es r)
events_grow count own [] r = same r
events_grow count own (e ∷ es) r = after r (with_event count own e.what r) (with_events count own es (with_event count own e.what r)) (event_grows count own e.what r) (events_grow count own es (with_event count own e.what r))

processes_grow : (ps : List Proc) (r : Reach) → Grows r (with_processes ps r)
processes_grow [] r = same r
processes_grow (p ∷ ps) r = after r (with_rate p.rate_ppm r) (with_processes ps (with_rate p.rate_ppm r)) (rate_grows true p.rate_ppm r) (processes_grow ps (with_rate p.rate_ppm r))

-- ---- what it has

-- a rate within it
pub record Runs (r : Reach) (ppm : ℕ) : Type 0 where
  pub least : r.least ≤ ppm
  pub greatest : ppm ≤ r.greatest

runs_more : (r s : Reach) (ppm : ℕ) → Grows r s → Runs r ppm → Runs s ppm
runs_more r s ppm g x = record { least = omega (arith, g.least, x.least); greatest = omega (arith, g.greatest, x.greatest) }

-- what an event says of a process's delays and rate is within it
pub record Has (p : ℕ) (w : What) (r : Reach) : Type 0 where
  pub requests : IfSome (request_delay_of p w) (λ n. n ≤ r.far)
  pub replies : IfSome (reply_delay_of p w) (λ n. n ≤ r.far)
  pub rates : IfSome (rate_of p w) (Runs r)

if_more : {A : Type 0} (P Q : A → Type 0) → ((x : A) → P x → Q x) → (o : Option A) → IfSome o P → IfSome o Q
if_more P Q more None x = tt
if_more P Q more (Some a) x = more a x

has_more : (p : ℕ) (w : What) (r s : Reach) → Grows r s → Has p w r → Has p w s
has_more p w r s g x = record {
  requests = if_more (λ n. n ≤ r.far) (λ n. n ≤ s.far) (λ n le. omega (arith, g.far, le)) (request_delay_of p w) x.requests;
  replies = if_more (λ n. n ≤ r.far) (λ n. n ≤ s.far) (λ n le. omega (arith, g.far, le)) (reply_delay_of p w) x.replies;
  rates = if_more (Runs r) (Runs s) (λ ppm. runs_more r s ppm g) (rate_of p w) x.rates;
}

nothing_said : (p : ℕ) (w : What) (r : Reach) → request_delay_of p w ≡ None → reply_delay_of p w ≡ None → rate_of p w ≡ None → Has p w r
nothing_said p w r a b c = record {
  requests = subst (λ o. IfSome o (λ n. n ≤ r.far)) (sym a) tt;
  replies = subst (λ o. IfSome o (λ n. n ≤ r.far)) (sym b) tt;
  rates = subst (λ o. IfSome o (Runs r)) (sym c) tt;
}

module _ (count p : ℕ) (inside : nat_lt p count ≡ true) where
  rate_has : (id : ProcId) (ppm : ℕ) (r : Reach) → Has p (Rate id ppm) (with_event count true (Rate id ppm) r)
  rate_has id ppm r = record { requests = tt; replies = tt; rates = by_test (id.0 == p) refl }
    where
      by_test : (t : Bool) → (id.0 == p) ≡ t → IfSome (when t ppm) (Runs (with_event count true (Rate id ppm) r))
      by_test false is = tt
      by_test true is =
          subst (λ b. Runs (rate_if b ppm r) ppm) (sym (ap (λ p. nat_lt p count) (eqb-true id.0 p is) ∙ inside)) (record { least = omega arith; greatest = omega arith })

  delay_has : (id : ProcId) (x y : ℕ) (r : Reach) → Has p (Delay id x y) (with_event count true (Delay id x y) r)
  delay_has id x y r = record { requests = by_test x (id.0 == p) refl (omega arith); replies = by_test y (id.0 == p) refl (omega arith); rates = tt }
    where
      by_test : (z : ℕ) (t : Bool) → (id.0 == p) ≡ t → z ≤ (with_delay x y r).far → IfSome (when t z) (λ n. n ≤ (with_event count true (Delay id x y) r).far)
      by_test z false is le = tt
      by_test z true is le =
          subst (λ b. z ≤ (delay_if b x y r).far) (sym (ap (λ p. nat_lt p count) (eqb-true id.0 p is) ∙ inside)) le

  event_has : (w : What) (r : Reach) → Has p w (with_event count true w r)
  event_has (Rate id ppm) r = rate_has id ppm r
  event_has (Delay id x y) r = delay_has id x y r
  event_has (Loss id x y) r = nothing_said p (Loss id x y) r refl refl refl
  event_has (Crash id) r = nothing_said p (Crash id) r refl refl refl
  event_has (Start id) r = nothing_said p (Start id) r refl refl refl
  event_has (Stop id) r = nothing_said p (Stop id) r refl refl refl
  event_has (Watch id on) r = nothing_said p (Watch id on) r refl refl refl
  event_has (Ready id status) r = nothing_said p (Ready id status) r refl refl refl
  event_has (Pause id beats) r = nothing_said p (Pause id beats) r refl refl refl
  event_has (Stall beats) r = nothing_said p (Stall beats) r refl refl refl
  event_has (Put key object) r = nothing_said p (Put key object) r refl refl refl
  event_has (Remove key) r = nothing_said p (Remove key) r refl refl refl

  events_have : (es : List Event) (e : Event) (r : Reach) → InScript e es → Has p e.what (with_events count true es r)
  events_have [] e r stands = absurd stands
  events_have (x ∷ es) e r (inl is) =
      subst (λ (e : Event). Has p e.what (with_events count true es (with_event count true x.what r))) (sym is)
      (has_more p x.what (with_event count true x.what r) (with_events count true es (with_event count true x.what r)) (events_grow count true es (with_event count true x.what r)) (event_has x.what r))
  events_have (x ∷ es) e r (inr stands) = events_have es e (with_event count true x.what r) stands

processes_have : (ps : List Proc) (r : Reach) (i : ℕ) (x : Proc) → slice_get ps i ≡ Some x → Runs (with_processes ps r) x.rate_ppm
processes_have [] r i x is = absurd (none_is x is)
processes_have (p ∷ ps) r zero x is =
    subst (λ (x : Proc). Runs (with_processes ps (with_rate p.rate_ppm r)) x.rate_ppm) (some_is p x is)
    (runs_more (with_rate p.rate_ppm r) (with_processes ps (with_rate p.rate_ppm r)) p.rate_ppm (processes_grow ps (with_rate p.rate_ppm r)) (record { least = omega arith; greatest = omega arith }))
processes_have (p ∷ ps) r (suc i) x is = processes_have ps (with_rate p.rate_ppm r) i x is

-- ---- of a document

-- the controller at a place
pub record Standing (xs ys : List Proc) (p : ℕ) : Type 0 where
  pub proc : Proc
  pub own : slice_get xs p ≡ Some proc
  pub whole : slice_get (xs ++ ys) p ≡ Some proc

pub standing : (xs ys : List Proc) (p : ℕ) → p < length xs → Standing xs ys p
standing [] ys p lt = absurd (omega (arith, lt))
standing (x ∷ xs) ys zero lt = record { proc = x; own = refl; whole = refl }
standing (x ∷ xs) ys (suc p) lt = let s = standing xs ys p (omega (arith, lt)) in record { proc = s.proc; own = s.own; whole = s.whole }

module _ (doc : Doc) (p : ℕ) (role : is_controller doc p ≡ true) where
  pub at_place : Standing doc.controllers doc.kubelets p
  at_place = standing doc.controllers doc.kubelets p (ltb-true p (length doc.controllers) role)

  pub event_within : (e : Event) → InScript e doc.events → Has p e.what (reach_of doc true)
  unfolding reach_of
  event_within e stands = events_have (length doc.controllers) p role doc.events e (with_processes doc.controllers nothing) stands

  first_within : Runs (reach_of doc true) (first_rate doc p)
  unfolding reach_of
  first_within =
      subst (λ o. Runs (with_events (length doc.controllers) true doc.events (with_processes doc.controllers nothing)) (field (λ x. x.rate_ppm) 0 o)) (sym at_place.whole)
      (runs_more (with_processes doc.controllers nothing) (with_events (length doc.controllers) true doc.events (with_processes doc.controllers nothing)) at_place.proc.rate_ppm
      (events_grow (length doc.controllers) true doc.events (with_processes doc.controllers nothing)) (processes_have doc.controllers nothing p at_place.proc at_place.own))

  last_within : (k : ℕ) (es : List Event) → ((e : Event) → InScript e es → Has p e.what (reach_of doc true)) → IfSome (last_rate p k es) (Runs (reach_of doc true))
  last_within k [] each = tt
  last_within k (e ∷ es) each = by_later (last_rate p k es) (last_within k es (λ f stands. each f (inr stands)))
    where
      only : (b : Bool) (o : Option ℕ) → IfSome o (Runs (reach_of doc true)) → IfSome (only_if b o) (Runs (reach_of doc true))
      only true o x = x
      only false o x = tt

      by_later : (o : Option ℕ) → IfSome o (Runs (reach_of doc true)) → IfSome (elim o [ None ↦ only_if (nat_le e.beat.0 k) (rate_of p e.what) | Some ppm ↦ Some ppm ]) (Runs (reach_of doc true))
      by_later None x = only (nat_le e.beat.0 k) (rate_of p e.what) (each e (inl refl)).rates
      by_later (Some ppm) x = x

  pub rate_within : (k : ℕ) → Runs (reach_of doc true) (rate doc p k)
  rate_within k = by_event (last_rate p k doc.events) (last_within k doc.events event_within)
    where
      by_event : (o : Option ℕ) → IfSome o (Runs (reach_of doc true)) → Runs (reach_of doc true) (or_else (first_rate doc p) o)
      by_event None x = first_within
      by_event (Some ppm) x = x
