-- The waits of a document's controllers are within those that are read from it, and for how long one respects another's record.
use Rattle.std.proofs.Common.{◌≡◌, ◌<◌, ◌≤◌, ℕ, zero, suc, ◌*◌, ◌/◌, true, List, [], ◌∷◌, length, All, slice_get, min, max, Some, sym, ap, subst, arith}
use Rattle.std.proofs.lemmas.Bool.{ltb-true}
use Rattle.std.proofs.lemmas.List.Elements.{All-head, All-tail}
use Rattle.kube_objects.specs.declared.rules.RespectRule.{RespectRule}
use Rattle.kube_objects.specs.declared.rules.RespectRule.TheVariants.{Record, Own}
use Rattle.kube_objects.specs.declared.script.Proc.{Proc}
use Rattle.kube_objects.specs.Document.{Doc, field, process_at, is_controller, of_millis, of_seconds, retry_period, waits_of, waits_or}
use Rattle.kube_objects.specs.Rules.{own_waits}
use Rattle.span_laws.specs.Spans.{IsEnough, IsNeeded}
use Rattle.span_laws.proofs.Quotients.{rounded_is}
use Rattle.takeover_laws.specs.Waits.{greatest_from, greatest_of, least_from, least_of, longest_wait, shortest_wait, blocked_under, blocked_for}
use Rattle.takeover_laws.proofs.Waits.{greatest_rises, least_falls, shares}
use Rattle.script_reader.specs.Lawful.{AreWaits, IsLawfulDoc}
use Rattle.lens_bounds.specs.Documents.{least_in, greatest_in, calm_of}
use Rattle.lens_bounds.specs.Elections.{share, wait, least_wait, as_respected}
use Rattle.bounds_laws.proofs.Reaching.{at_place}

-- ---- the greatest and the least of all lists

greatest_more : (a b : ℕ) (ws : List ℕ) → a ≤ b → greatest_from a ws ≤ greatest_from b ws
greatest_more a b [] le = le
greatest_more a b (w ∷ ws) le = greatest_more (max w a) (max w b) ws (omega (arith, le))

least_more : (a b : ℕ) (ws : List ℕ) → a ≤ b → least_from a ws ≤ least_from b ws
least_more a b [] le = le
least_more a b (w ∷ ws) le = least_more (min w a) (min w b) ws (omega (arith, le))

greatest_on : (most : ℕ) (lists : List (List ℕ)) → most ≤ greatest_in most lists
greatest_on most [] = omega arith
greatest_on most (ws ∷ more) = omega (arith, greatest_rises most ws, greatest_on (greatest_from most ws) more)

least_on : (least : ℕ) (lists : List (List ℕ)) → least_in least lists ≤ least
least_on least [] = omega arith
least_on least (ws ∷ more) = omega (arith, least_falls least ws, least_on (least_from least ws) more)

in_greatest : (most : ℕ) (lists : List (List ℕ)) (p : ℕ) → 1000 ≤ most → greatest_of (waits_or own_waits (slice_get lists p)) ≤ greatest_in most lists
in_greatest most [] p some = some
in_greatest most (ws ∷ more) zero some = omega (arith, of_one ws, greatest_on (greatest_from most ws) more)
  where
    of_one : (ws : List ℕ) → greatest_of ws ≤ greatest_from most ws
    of_one [] = some
    of_one (w ∷ ws) = greatest_more w (max w most) ws (omega arith)
in_greatest most (ws ∷ more) (suc p) some = in_greatest (greatest_from most ws) more p (omega (arith, some, greatest_rises most ws))

in_least : (least : ℕ) (lists : List (List ℕ)) (p : ℕ) → p < length lists → All AreWaits lists → least_in least lists ≤ least_of (waits_or own_waits (slice_get lists p))
in_least least [] p lt each = absurd (omega (arith, lt))
in_least least (ws ∷ more) zero lt each = omega (arith, of_one ws (All-head AreWaits ws more each), least_on (least_from least ws) more)
  where
    of_one : (ws : List ℕ) → AreWaits ws → least_from least ws ≤ least_of ws
    of_one [] are = absurd (omega (arith, are.some))
    of_one (w ∷ ws) are = least_more (min w least) w ws (omega arith)
in_least least (ws ∷ more) (suc p) lt each = in_least (least_from least ws) more p (omega (arith, lt)) (All-tail AreWaits ws more each)

-- no list's greatest wait is shorter than a retry period
whole_of : (ws : List ℕ) → AreWaits ws → 1000 ≤ greatest_of ws
whole_of [] are = omega arith
whole_of (w ∷ ws) are = let own : (1000 ≤ w) × (w ≤ 2200) = All-head (λ w. (1000 ≤ w) × (w ≤ 2200)) w ws are.each in omega (arith, own.0, greatest_rises w ws)

in_whole : (lists : List (List ℕ)) (p : ℕ) → All AreWaits lists → 1000 ≤ greatest_of (waits_or own_waits (slice_get lists p))
in_whole [] p each = omega arith
in_whole (ws ∷ more) zero each = whole_of ws (All-head AreWaits ws more each)
in_whole (ws ∷ more) (suc p) each = in_whole more p (All-tail AreWaits ws more each)

-- ---- for how long a record of q blocks p

blocked_seconds : (rule : RespectRule) (doc : Doc) (p q : ℕ) (x y : Proc) → process_at doc p ≡ Some x → process_at doc q ≡ Some y → of_seconds (as_respected rule x.lease_seconds y).lease_seconds ≡ blocked_under rule doc p q
blocked_seconds Record doc p q x y x_is y_is = sym (ap (λ o. of_seconds (field (λ (y : Proc). y.lease_seconds) 0 o)) y_is)
blocked_seconds Own doc p q x y x_is y_is = sym (ap (λ o. of_seconds (field (λ (y : Proc). y.lease_seconds) 0 o)) x_is)

pub blocked_is : (doc : Doc) (p q : ℕ) (x y : Proc) → process_at doc p ≡ Some x → process_at doc q ≡ Some y → of_seconds (as_respected (calm_of doc).respect x.lease_seconds y).lease_seconds ≡ blocked_for doc p q
blocked_is doc = blocked_seconds doc.settings.rules.respect doc

-- ---- of a controller

module _ (doc : Doc) (lawful : IsLawfulDoc doc) (p : ℕ) (role : is_controller doc p ≡ true) where
  abbrev x : Proc
  x = (at_place doc p role).proc

  period : retry_period doc p ≡ of_millis x.retry_millis
  period = ap (λ o. of_millis (field (λ (y : Proc). y.retry_millis) 0 o)) (at_place doc p role).whole

  longest : longest_wait doc p ≤ share x.retry_millis (greatest_in 1000 doc.waits)
  longest =
      subst (λ n. n * greatest_of (waits_of doc p) / 1000 ≤ share x.retry_millis (greatest_in 1000 doc.waits)) (sym period)
      (shares (of_millis x.retry_millis) (greatest_of (waits_of doc p)) (greatest_in 1000 doc.waits) (in_greatest 1000 doc.waits p (omega arith)))

  shortest : share x.retry_millis (least_in 2200 doc.waits) ≤ shortest_wait doc p
  shortest =
      subst (λ n. share x.retry_millis (least_in 2200 doc.waits) ≤ n * least_of (waits_of doc p) / 1000) (sym period)
      (shares (of_millis x.retry_millis) (least_in 2200 doc.waits) (least_of (waits_of doc p)) (in_least 2200 doc.waits p there lawful.waits))
    where
      there : p < length doc.waits
      there = omega (arith, lawful.waits_each, ltb-true p (length doc.controllers) role)

  pub some_wait : 1 ≤ retry_period doc p → 1 ≤ longest_wait doc p
  some_wait some = omega (arith, some, shares (retry_period doc p) 1000 (greatest_of (waits_of doc p)) (in_whole doc.waits p lawful.waits))

  -- in beats
  pub wait_is : 1 ≤ (calm_of doc).slow → IsEnough (calm_of doc).slow (longest_wait doc p) (wait (calm_of doc) x)
  wait_is some = omega (arith, longest, (rounded_is (calm_of doc).slow (share x.retry_millis (greatest_in 1000 doc.waits)) some).0)

  pub least_is : 1 ≤ (calm_of doc).fast → IsNeeded (calm_of doc).fast (shortest_wait doc p) (least_wait (calm_of doc) x)
  least_is some n le = (rounded_is (calm_of doc).fast (share x.retry_millis (least_in 2200 doc.waits)) some).1 n (omega (arith, shortest, le))
