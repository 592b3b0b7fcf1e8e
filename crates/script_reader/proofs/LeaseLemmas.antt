-- What others wait for a controller's lease, in seconds and as the lease premise has it.
use Rattle.std.proofs.Common.{◌≡◌, ◌<◌, ◌≤◌, ℕ, zero, suc, ◌+◌, ◌*◌, ◌-◌, min, nat_lt, List, length, get_or, refl, sym, ap, ap₂, subst, ◌∙◌, arith}
use Rattle.std.specs.Prelude.{All}
use Rattle.std.proofs.lemmas.Bool.Decides.{nat_tests}
use Rattle.std.proofs.lemmas.List.Elements.{All-get_or}
use Rattle.kube_objects.specs.declared.rules.RespectRule.{RespectRule}
use Rattle.kube_objects.specs.declared.rules.RespectRule.TheVariants as respects
use Rattle.kube_objects.specs.declared.script.Proc.{Proc}
use Rattle.kube_objects.specs.Document.{Doc, end_beat, field, process_at, lease_seconds, of_seconds, of_millis}
use Rattle.history.specs.Premise.{less, calls_late, stall_by, span_by, least_rate, least_lease, waited_by, is_long}
use Rattle.script_reader.specs.Lawful.{IsLawful}
use Rattle.script_reader.specs.Leases.{IsProcess, least_up_to, waited_seconds}
use Rattle.script_reader.proofs.ClockRatesLemmas.{field-at}

less-of : (a b : ℕ) → less (of_seconds a) (of_seconds b) ≡ of_seconds (less a b)
unfolding of_seconds
less-of a b = grind (arith, nat_tests)

least-is : (doc : Doc) (p : ℕ) → least_lease doc p ≡ of_seconds (least_up_to doc p)
least-is doc zero = refl
least-is doc (suc p) = ap₂ less (least-is doc p) refl ∙ less-of (least_up_to doc p) (lease_seconds doc (suc p))

pub waited-is : (respect : RespectRule) (doc : Doc) (p : ℕ) → waited_by respect doc p ≡ of_seconds (waited_seconds respect doc p)
waited-is respects.Record doc p = refl
waited-is respects.Own doc p = least-is doc (length doc.controllers - 1)

-- ---- what a lease has to outlast

-- the times of a controller, which stands before the kubelets
pub process-is : (doc : Doc) (p : ℕ) (controllers : List Proc) (d : Proc) → controllers ≡ doc.controllers → p < length doc.controllers → IsProcess doc p (get_or controllers p d)
process-is doc p controllers d same inside =
    record {
      timeout = ap of_millis (by (λ x. x.timeout_millis));
      retry = ap of_millis (by (λ x. x.retry_millis));
      renew = ap of_millis (by (λ x. x.renew_millis));
    }
  where
    by : (f : Proc → ℕ) → field f 0 (process_at doc p) ≡ f (get_or controllers p d)
    by f = field-at f 0 doc.controllers doc.kubelets p d inside ∙ sym (ap (λ cs. f (get_or cs p d)) same)

less-millis : (a b : ℕ) → of_millis (min a b) ≡ less (of_millis a) (of_millis b)
unfolding of_millis
less-millis a b = grind (arith, nat_tests)

span-none : (timeout retry renew : ℕ) → of_millis (timeout + retry + renew + min (timeout * 0) renew) ≡ of_millis timeout + of_millis retry + of_millis renew
unfolding of_millis
span-none timeout retry renew = omega arith

span-late : (timeout retry renew calls : ℕ)
    → of_millis (timeout + retry + renew + min (timeout * suc calls) renew) ≡ of_millis timeout + of_millis retry + of_millis renew + less (suc calls * of_millis timeout) (of_millis renew)
unfolding of_millis
span-late timeout retry renew calls =
    let sum : (timeout + retry + renew + min (timeout * suc calls) renew) * 1000000000
    ≡ timeout * 1000000000 + retry * 1000000000 + renew * 1000000000 + min (timeout * suc calls) renew * 1000000000 = omega arith in
    let late : timeout * suc calls * 1000000000 ≡ suc calls * (timeout * 1000000000) = omega arith in
    sum ∙ ap (λ n. timeout * 1000000000 + retry * 1000000000 + renew * 1000000000 + n) (less-millis (timeout * suc calls) renew ∙ ap (λ n. less n (renew * 1000000000)) late)

-- how long a leader may act on, by the times of its process
pub span-is : (calls : ℕ) (x : Proc) (doc : Doc) (p : ℕ) → IsProcess doc p x
    → of_millis (x.timeout_millis + x.retry_millis + x.renew_millis + min (x.timeout_millis * calls) x.renew_millis) ≡ span_by calls doc p
span-is zero x doc p is = span-none x.timeout_millis x.retry_millis x.renew_millis ∙ (λ i. sym is.timeout i + sym is.retry i + sym is.renew i)
span-is (suc calls) x doc p is =
    span-late x.timeout_millis x.retry_millis x.renew_millis calls
    ∙ (λ i. sym is.timeout i + sym is.retry i + sym is.renew i + less (suc calls * sym is.timeout i) (sym is.renew i))

-- it is at most some three days
pub span-few : (doc : Doc) (p span : ℕ) (controllers : List Proc) (d : Proc) → controllers ≡ doc.controllers → p < length doc.controllers → All IsLawful doc.controllers
    → span ≤ (get_or controllers p d).timeout_millis + (get_or controllers p d).retry_millis + 2 * (get_or controllers p d).renew_millis → span ≤ 1000000000
span-few doc p span controllers d same inside lawful few =
    let all : All IsLawful controllers = subst (All IsLawful) (sym same) lawful in
    let own = All-get_or IsLawful controllers p d (omega (arith, inside, ap length same)) all in
    omega (arith, few, own.timeout, own.retry, own.renew)

-- the test of one controller's lease, by the numbers that it is made of
pub long-is : (doc : Doc) (p high seconds stall acting low : ℕ) → seconds ≡ waited_seconds doc.settings.rules.respect doc p
    → stall ≡ stall_by (calls_late doc) doc p → of_millis acting ≡ span_by (calls_late doc) doc p → low ≡ least_rate doc p (end_beat doc)
    → nat_lt (stall * (doc.settings.beat_millis * 1000 * high) * low + of_millis acting * high) (of_seconds seconds * low) ≡ is_long doc high p
long-is doc p high seconds stall acting low waits stalls acts least =
    λ i.
    nat_lt
    (stalls i * (doc.settings.beat_millis * 1000 * high) * least i + acts i * high)
    ((ap of_seconds waits ∙ sym (waited-is doc.settings.rules.respect doc p)) i * least i)
