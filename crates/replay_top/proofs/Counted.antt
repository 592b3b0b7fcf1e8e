-- The counts grow with the beats.
use Rattle.std.proofs.Common.{◌≡◌, ◌+◌, ◌*◌, ◌^◌, ◌≤◌, ℕ, Bool, List, [], ◌++◌, length, suc, add-one, sym, ap, ◌∙◌, arith, length-append}
use Rattle.std.proofs.lemmas.List.Elements.{filter-append}
use Rattle.std.specs.List.{filter}
use Rattle.kube_objects.specs.declared.deed.Act.{Act}
use Rattle.kube_objects.specs.declared.deed.Deed.{Deed}
use Rattle.kube_objects.specs.Document.{Doc, end_beat}
use Rattle.history.specs.History.{history}
use Rattle.history.specs.Printed.{printed}
use Rattle.replay_top.specs.declared.counts.Counts.{Counts}
use Rattle.replay_top.specs.Counts.{AreAtMost, count_of, counts_of, is_lead, is_taint, is_eviction}
use Rattle.replay_top.specs.Generated.{whole_counts}
use Rattle.replay_top.proofs.Grown.{put-silent}

count-more : (p : Act → Bool) (front more : List Deed) → count_of p (front ++ more) ≡ count_of p front + count_of p more
count-more p front more =
    let counted : Deed → Bool = λ d. p d.act in
    ap length (filter-append counted front more) ∙ length-append (filter counted front) (filter counted more)

count-next : (p : Act → Bool) (front deeds given whole : List Deed) (old new : ℕ) → front ++ deeds ≡ whole → given ≡ deeds
    → old ≡ count_of p front → new ≡ old + count_of p given → new ≡ count_of p whole
count-next p front deeds given whole old new all same was is =
    is ∙ ap (λ n. n + count_of p given) was ∙ ap (λ l. count_of p front + count_of p l) same
    ∙ sym (count-more p front deeds) ∙ ap (count_of p) all

same-counts : (a b : Counts) → a.leads ≡ b.leads → a.taints ≡ b.taints → a.evictions ≡ b.evictions → a ≡ b
same-counts a b p q r = λ i. record { leads = p i; taints = q i; evictions = r i }

-- these counts and those of more lines
pub record AreMore (old : Counts) (deeds : List Deed) (new : Counts) : Type 0 where
  pub leads : new.leads ≡ old.leads + count_of is_lead deeds
  pub taints : new.taints ≡ old.taints + count_of is_taint deeds
  pub evictions : new.evictions ≡ old.evictions + count_of is_eviction deeds

pub counts-next : (front deeds given whole : List Deed) (old new : Counts) → front ++ deeds ≡ whole → given ≡ deeds
    → old ≡ counts_of front → AreMore old given new → new ≡ counts_of whole
counts-next front deeds given whole old new all same was more =
    let leads = ap (λ (c : Counts). c.leads) was in
    let taints = ap (λ (c : Counts). c.taints) was in
    let evictions = ap (λ (c : Counts). c.evictions) was in
    same-counts new (counts_of whole)
    (count-next is_lead front deeds given whole old.leads new.leads all same leads more.leads)
    (count-next is_taint front deeds given whole old.taints new.taints all same taints more.taints)
    (count-next is_eviction front deeds given whole old.evictions new.evictions all same evictions more.evictions)

-- before the first beat nothing is printed
pub counts-first : (doc : Doc) → counts_of [] ≡ counts_of (printed (history doc 0))
counts-first doc = ap counts_of (sym (put-silent doc doc.objects []))

pub counts-last : (doc : Doc) (k last : ℕ) → last ≡ end_beat doc → history doc (last + 1) ≡ history doc k → counts_of (printed (history doc k)) ≡ whole_counts doc
counts-last doc k last is past = ap (λ h. counts_of (printed h)) (sym past ∙ ap (history doc) (add-one last) ∙ ap (λ n. history doc (suc n)) is)

-- a bound by the beats that were done
pub none-most : (k : ℕ) (c : Counts) → c ≡ counts_of [] → AreAtMost (k * 2 ^ 64) c
none-most k c none =
    let leads : c.leads ≡ 0 = ap (λ (x : Counts). x.leads) none in
    let taints : c.taints ≡ 0 = ap (λ (x : Counts). x.taints) none in
    let evictions : c.evictions ≡ 0 = ap (λ (x : Counts). x.evictions) none in
    record { leads = omega (arith, leads); taints = omega (arith, taints); evictions = omega (arith, evictions) }

pub most-later : (n m : ℕ) (c : Counts) → n ≤ m → AreAtMost n c → AreAtMost m c
most-later n m c later most =
    record {
      leads = omega (arith, later, most.leads);
      taints = omega (arith, later, most.taints);
      evictions = omega (arith, later, most.evictions);
    }
