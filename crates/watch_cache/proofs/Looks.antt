-- What a cache that stands for a history finds.
use Rattle.std.proofs.Common.{◌≡◌, ℕ, Bool, List, Option, Some, None, Result, Ok, Err, refl, sym, ap, ◌∙◌}
use Rattle.kube_objects.specs.declared.key.Key.{Key}
use Rattle.kube_objects.specs.declared.object.Object.{Object}
use Rattle.kube_objects.specs.declared.object.Object.TheVariants as object
use Rattle.kube_objects.specs.Answers.{as_kind, node_in}
use Rattle.kube_objects.specs.Entry.{Entry, Identity}
use Rattle.kube_objects.specs.Newest.{has}
use Rattle.kube_objects.specs.Seen.{seen, seen_node, seen_pod, is_synced, pod_in}
use Rattle.kube_objects.specs.Stored.{Held, node_key}
use Rattle.watch_cache.specs.declared.cache.Cache.{Cache}
use Rattle.watch_cache.specs.declared.faults.ListFault.{ListFault}
use Rattle.watch_cache.specs.declared.faults.ListFault.TheVariants as list_fault
use Rattle.watch_cache.specs.Kept.{kept, of_kind, is_node_in, is_pod_in, is_on}
use Rattle.watch_cache.specs.Stands.{CacheStands, kept_in, synced_in}
use Rattle.watch_cache.specs.Told.{AreListed, AreNamed, Lists, if_synced}

of_kind_kept : {A : Type 0} (f : Object → Option A) (x : Option Held) → of_kind f (kept x) ≡ as_kind f x
of_kind_kept f None = refl
of_kind_kept f (Some x) = refl

pub answered : {A : Type 0} (f : Object → Option A) (q : Identity) (h : List Entry) (c : Cache) (key : Key) → CacheStands q h c
    → if_synced (synced_in c) (of_kind f (kept_in c key)) ≡ if_synced (is_synced q h) (as_kind f (seen q key h))
answered f q h c key s =
    ap (λ b. if_synced b (of_kind f (kept_in c key))) s.synced
    ∙ ap (λ o. if_synced (is_synced q h) (of_kind f o)) (s.objects key)
    ∙ ap (λ o. if_synced (is_synced q h) o) (of_kind_kept f (seen q key h))

node_seen : (x : Option Held) → is_node_in (kept x) ≡ has (as_kind node_in x)
node_seen None = refl
node_seen (Some x) = by_object x.object
  where
    by_object : (o : Object) → is_node_in (Some (x.version, o)) ≡ has (of_kind node_in (Some (x.version, o)))
    by_object (object.Node node) = refl
    by_object (object.Lease lease) = refl
    by_object (object.Pod pod) = refl

pod_seen : (n : ℕ) (x : Option Held) → is_pod_in n (kept x) ≡ is_on n (as_kind pod_in x)
pod_seen n None = refl
pod_seen n (Some x) = by_object x.object
  where
    by_object : (o : Object) → is_pod_in n (Some (x.version, o)) ≡ is_on n (of_kind pod_in (Some (x.version, o)))
    by_object (object.Node node) = refl
    by_object (object.Lease lease) = refl
    by_object (object.Pod pod) = refl

listed_also : {A : Type 0} (P Q : A → Type 0) (a b : Bool) (r : Result A ListFault) → a ≡ b → ((x : A) → P x → Q x) → Lists a P r → Lists b Q r
listed_also P Q a b (Ok list) same more l = (sym same ∙ l.0, more list l.1)
listed_also P Q a b (Err list_fault.NotSynced) same more l = sym same ∙ l
listed_also P Q a b (Err list_fault.NoMemory) same more l = tt

pub nodes_answered : (q : Identity) (h : List Entry) (c : Cache) (r : Result (List ℕ) ListFault) → CacheStands q h c → Lists (synced_in c) (AreNamed (λ n. is_node_in (kept_in c (node_key n)))) r
    → Lists (is_synced q h) (AreNamed (λ n. has (seen_node q n h))) r
nodes_answered q h c r s =
    listed_also (AreNamed (λ n. is_node_in (kept_in c (node_key n)))) (AreNamed (λ n. has (seen_node q n h))) (synced_in c) (is_synced q h) r s.synced
    (λ names l. record { ascend = l.ascend; named = λ n. l.named n ∙ ap is_node_in (s.objects (node_key n)) ∙ node_seen (seen q (node_key n) h) })

pub pods_answered : (q : Identity) (h : List Entry) (c : Cache) (n : ℕ) (r : Result (List Key) ListFault) → CacheStands q h c → Lists (synced_in c) (AreListed (λ k. is_pod_in n (kept_in c k))) r
    → Lists (is_synced q h) (AreListed (λ k. is_on n (seen_pod q k h))) r
pods_answered q h c n r s =
    listed_also (AreListed (λ k. is_pod_in n (kept_in c k))) (AreListed (λ k. is_on n (seen_pod q k h))) (synced_in c) (is_synced q h) r s.synced
    (λ keys l. record { ascend = l.ascend; listed = λ k. l.listed k ∙ ap (is_pod_in n) (s.objects k) ∙ pod_seen n (seen q k h) })
