-- A document with another lease of a controller, or of all, has the same rates, and all else that the lease premise reads.
use Rattle.std.proofs.Common.{◌≡◌, ℕ, zero, suc, ◌+◌, ◌-◌, ◌*◌, ◌<◌, ◌++◌, ◌&&◌, not, nat_lt, Bool, true, false, cond, List, [], ◌∷◌, length, map, slice_get, refl, ap, ap₂, ◌∙◌, arith}
use Rattle.std.proofs.lemmas.List.{length-map}
use Rattle.kube_objects.specs.declared.rules.ReleaseActing.{ReleaseActing}
use Rattle.kube_objects.specs.declared.rules.ReleaseActing.TheVariants.{Still, Acts}
use Rattle.kube_objects.specs.declared.rules.RespectRule.{RespectRule}
use Rattle.kube_objects.specs.declared.rules.RespectRule.TheVariants as respects
use Rattle.kube_objects.specs.declared.script.Event.{Event}
use Rattle.kube_objects.specs.declared.script.Proc.{Proc}
use Rattle.kube_objects.specs.declared.script.What.{What}
use Rattle.kube_objects.specs.declared.script.What.TheVariants as whats
use Rattle.kube_objects.specs.Clocks.{rate, last_rate}
use Rattle.kube_objects.specs.Document.{Doc, is_controller, end_beat, field, process_at, beat_micros, lease_seconds, call_timeout, retry_period, renew_deadline, of_seconds, of_millis}
use Rattle.kube_objects.specs.Newest.{or_else}
use Rattle.history.specs.Premise.{less, more, least_rate, greatest_rate, greatest_below, calls_late, stall_by, span_by, is_prompt_event, are_prompt, answers_come}
use Rattle.script_reader.specs.Leases.{least_up_to, waited_seconds}
use Rattle.script_reader.proofs.LeaseLemmas.{waited-is}
use Rattle.lens_margin.specs.Laws.{outlasted, leased_by, with_lease, with_leases, leased, is_enough_with}
use Rattle.lens_margin.specs.Margins.{fastest, slowest}

-- ---- the lease of one controller

-- a field that isn't the lease
field-same : (f : Proc → ℕ) (seconds : ℕ) → ((c : Proc) → f (leased_by seconds c) ≡ f c) → (controllers kubelets : List Proc) (p q : ℕ)
    → field f 0 (slice_get (with_lease p seconds controllers ++ kubelets) q) ≡ field f 0 (slice_get (controllers ++ kubelets) q)
field-same f seconds same [] kubelets p q = refl
field-same f seconds same (c ∷ cs) kubelets zero zero = same c
field-same f seconds same (c ∷ cs) kubelets zero (suc q) = refl
field-same f seconds same (c ∷ cs) kubelets (suc p) zero = refl
field-same f seconds same (c ∷ cs) kubelets (suc p) (suc q) = field-same f seconds same cs kubelets p q

lease-at : (seconds : ℕ) (controllers kubelets : List Proc) (p : ℕ) → p < length controllers → field (λ x. x.lease_seconds) 0 (slice_get (with_lease p seconds controllers ++ kubelets) p) ≡ seconds
lease-at seconds [] kubelets p inside = absurd (omega arith)
lease-at seconds (c ∷ cs) kubelets zero inside = refl
lease-at seconds (c ∷ cs) kubelets (suc p) inside = lease-at seconds cs kubelets p (omega arith)

count-same : (seconds : ℕ) (controllers : List Proc) (p : ℕ) → length (with_lease p seconds controllers) ≡ length controllers
count-same seconds [] p = refl
count-same seconds (c ∷ cs) zero = refl
count-same seconds (c ∷ cs) (suc p) = ap suc (count-same seconds cs p)

-- ---- the lease of all

all-same : (f : Proc → ℕ) (seconds : ℕ) → ((c : Proc) → f (leased_by seconds c) ≡ f c) → (controllers kubelets : List Proc) (q : ℕ)
    → field f 0 (slice_get (map (leased_by seconds) controllers ++ kubelets) q) ≡ field f 0 (slice_get (controllers ++ kubelets) q)
all-same f seconds same [] kubelets q = refl
all-same f seconds same (c ∷ cs) kubelets zero = same c
all-same f seconds same (c ∷ cs) kubelets (suc q) = all-same f seconds same cs kubelets q

all-at : (seconds : ℕ) (controllers kubelets : List Proc) (q : ℕ) → q < length controllers → field (λ x. x.lease_seconds) 0 (slice_get (map (leased_by seconds) controllers ++ kubelets) q) ≡ seconds
all-at seconds [] kubelets q inside = absurd (omega arith)
all-at seconds (c ∷ cs) kubelets zero inside = refl
all-at seconds (c ∷ cs) kubelets (suc q) inside = all-at seconds cs kubelets q (omega arith)

-- the lesser of a number and itself
less-same : (n : ℕ) → less n n ≡ n
less-same n = by_test (nat_lt n n)
  where
    by_test : (b : Bool) → cond b n n ≡ n
    by_test true = refl
    by_test false = refl

-- the least of all, where each of the controllers up to a place has this one
least-at : (doc : Doc) (seconds : ℕ) (p : ℕ) → ((q : ℕ) → q < p + 1 → lease_seconds doc q ≡ seconds) → least_up_to doc p ≡ seconds
least-at doc seconds zero each = each 0 (omega arith)
least-at doc seconds (suc p) each =
    ap₂ less (least-at doc seconds p (λ q below. each q (omega (arith, below)))) (each (suc p) (omega arith)) ∙ less-same seconds

-- ---- by the rule

fields-same : (respect : RespectRule) (f : Proc → ℕ) (seconds : ℕ) → ((c : Proc) → f (leased_by seconds c) ≡ f c) → (controllers kubelets : List Proc) (p q : ℕ)
    → field f 0 (slice_get (with_leases respect p seconds controllers ++ kubelets) q) ≡ field f 0 (slice_get (controllers ++ kubelets) q)
fields-same respects.Record f seconds same controllers kubelets p q = field-same f seconds same controllers kubelets p q
fields-same respects.Own f seconds same controllers kubelets p q = all-same f seconds same controllers kubelets q

counts-same : (respect : RespectRule) (seconds : ℕ) (controllers : List Proc) (p : ℕ) → length (with_leases respect p seconds controllers) ≡ length controllers
counts-same respects.Record seconds controllers p = count-same seconds controllers p
counts-same respects.Own seconds controllers p = length-map controllers (leased_by seconds)

module _ (doc : Doc) (p seconds : ℕ) where
  abbrev other : Doc
  other = leased doc p seconds

  at-same : (f : Proc → ℕ) → ((c : Proc) → f (leased_by seconds c) ≡ f c) → (q : ℕ) → field f 0 (process_at other q) ≡ field f 0 (process_at doc q)
  at-same f same q = fields-same doc.settings.rules.respect f seconds same doc.controllers doc.kubelets p q

  rate-same : (q k : ℕ) → rate other q k ≡ rate doc q k
  rate-same q k = ap (λ first. or_else first (last_rate q k doc.events)) (at-same (λ x. x.rate_ppm) (λ c. refl) q)

  least-same : (q k : ℕ) → least_rate other q k ≡ least_rate doc q k
  least-same q zero = rate-same q 0
  least-same q (suc k) = ap₂ less (least-same q k) (rate-same q (suc k))

  greatest-same : (q k : ℕ) → greatest_rate other q k ≡ greatest_rate doc q k
  greatest-same q zero = rate-same q 0
  greatest-same q (suc k) = ap₂ more (greatest-same q k) (rate-same q (suc k))

  below-same : (c : ℕ) → greatest_below other c ≡ greatest_below doc c
  below-same zero = refl
  below-same (suc c) = ap₂ more (below-same c) (greatest-same c (end_beat doc))

  fastest-same : fastest other ≡ fastest doc
  fastest-same = ap (λ c. greatest_below other c) (counts-same doc.settings.rules.respect seconds doc.controllers p) ∙ below-same (length doc.controllers)

  -- the document with these controllers
  abbrev has : RespectRule → Doc
  has respect = record doc { controllers = with_leases respect p seconds doc.controllers }

  waited-at : (respect : RespectRule) → p < length doc.controllers → waited_seconds respect (has respect) p ≡ seconds
  waited-at respects.Record inside = lease-at seconds doc.controllers doc.kubelets p inside
  waited-at respects.Own inside =
      let count = length-map doc.controllers (leased_by seconds) in
      least-at (has respects.Own) seconds (length (map (leased_by seconds) doc.controllers) - 1)
      (λ q below. all-at seconds doc.controllers doc.kubelets q (omega (arith, below, count, inside)))

  -- what the rules of releases add
  stall-same : (calls : ℕ) → stall_by calls other p ≡ stall_by calls doc p
  stall-same zero = refl
  stall-same (suc calls) = refl

  timeout-same : call_timeout other p ≡ call_timeout doc p
  timeout-same = ap of_millis (at-same (λ x. x.timeout_millis) (λ c. refl) p)

  retry-same : retry_period other p ≡ retry_period doc p
  retry-same = ap of_millis (at-same (λ x. x.retry_millis) (λ c. refl) p)

  renew-same : renew_deadline other p ≡ renew_deadline doc p
  renew-same = ap of_millis (at-same (λ x. x.renew_millis) (λ c. refl) p)

  span-same : (calls : ℕ) → span_by calls other p ≡ span_by calls doc p
  span-same zero = λ i. timeout-same i + retry-same i + renew-same i
  span-same (suc calls) = λ i. timeout-same i + retry-same i + renew-same i + less (suc calls * timeout-same i) (renew-same i)

  controller-same : (q : ℕ) → is_controller other q ≡ is_controller doc q
  controller-same q = ap (nat_lt q) (counts-same doc.settings.rules.respect seconds doc.controllers p)

  event-same : (what : What) → is_prompt_event other what ≡ is_prompt_event doc what
  event-same (whats.Loss id requests replies) = ap (λ b. not (b && replies)) (controller-same id.0)
  event-same (whats.Delay id requests replies) = ap (λ b. not (b && nat_lt 3 replies)) (controller-same id.0)
  event-same (whats.Rate id ppm) = refl
  event-same (whats.Crash id) = refl
  event-same (whats.Start id) = refl
  event-same (whats.Stop id) = refl
  event-same (whats.Watch id on) = refl
  event-same (whats.Ready id status) = refl
  event-same (whats.Pause id beats) = refl
  event-same (whats.Stall beats) = refl
  event-same (whats.Put key object) = refl
  event-same (whats.Remove key) = refl

  prompt-same : (es : List Event) → are_prompt other es ≡ are_prompt doc es
  prompt-same [] = refl
  prompt-same (e ∷ es) = ap₂ (λ a b. a && b) (event-same e.what) (prompt-same es)

  answers-same : (acting : ReleaseActing) → answers_come acting other ≡ answers_come acting doc
  answers-same Still = refl
  answers-same Acts = prompt-same doc.events

  pub leased-is : p < length doc.controllers → is_enough_with doc p seconds
      ≡ (answers_come doc.settings.rules.in_release doc && nat_lt (outlasted doc p (stall_by (calls_late doc) doc p)) (of_seconds seconds * slowest doc p))
  leased-is inside =
      let respect = doc.settings.rules.respect in
      let calls = calls_late doc in
      λ i.
      answers-same doc.settings.rules.in_release i
      && nat_lt
      (stall-same calls i * (beat_micros doc * fastest-same i) * least-same p (end_beat doc) i + span-same calls i * fastest-same i)
      ((waited-is respect other p ∙ ap of_seconds (waited-at respect inside)) i * least-same p (end_beat doc) i)
