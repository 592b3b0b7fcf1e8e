-- The pods that a pass counts.
use Rattle.std.proofs.Common.{◌≡◌, ◌∙◌, ◌≤◌, ℕ, ◌+◌, ◌==◌, ◌&&◌, not, Bool, true, false, cond, List, [], ◌∷◌, Option, Some, None, Result, Ok, Err, OnOk, count_by, refl, sym, ap, subst, arith}
use Rattle.std.proofs.lemmas.List.Sums.{sum_by-cons}
use Rattle.kube_base.specs.declared.numbers.Version.{Version}
use Rattle.kube_objects.specs.declared.call.Answer.{Answer}
use Rattle.kube_objects.specs.declared.call.Answer.TheVariants as answer
use Rattle.kube_objects.specs.declared.key.Key.{Key}
use Rattle.kube_objects.specs.declared.node.Node.{Node}
use Rattle.kube_objects.specs.declared.pod.Pod.{Pod}
use Rattle.kube_objects.specs.Document.{Doc}
use Rattle.kube_objects.specs.Entry.{Entry, Identity, Mark, Pass}
use Rattle.kube_objects.specs.Health as health
use Rattle.kube_objects.specs.Health.{and_name, is_ready_node, marked_since, pods_to_write}
use Rattle.kube_objects.specs.Newest.{when}
use Rattle.kube_objects.specs.Seen.{is_accepted, is_pod, pod_keys, seen_node, seen_pod}
use Rattle.kube_objects.specs.Tick.{add, mark}
use Rattle.kube_objects.specs.Tries.{try_node}
use Rattle.history_laws.proofs.Ticks.{Each, IsPodKey, pods_only}
use Rattle.tick_laws.specs.Changes.{IsChange, noted_by}
use Rattle.tick_laws.specs.Steps.{pods_on}
use Rattle.tick_laws.proofs.Frames.{kept_pod, noted_pod, pass_change}
use Rattle.tick_laws.proofs.Marking.{mark_change}
use Rattle.watch_cache.proofs.Ticks.{same_self}
use Rattle.watch_cache.specs.Kept.{is_on}
use Rattle.controller_core.specs.Working.{WritesStand, kept, pods_counted}
use Rattle.controller_core.specs.declared.pass.work.PodWrites.{PodWrites}
use Rattle.controller_core.proofs.Passing.Marks.{mark_either, with_mark}

-- ---- the pods on a node

-- tests that agree on keys of pods
count_same : (f g : Key → Bool) → ((key : Key) → is_pod key.kind ≡ true → f key ≡ g key) → (keys : List Key) → Each IsPodKey keys → count_by f keys ≡ count_by g keys
count_same f g same [] kinds = refl
count_same f g same (key ∷ keys) kinds =
    sum_by-cons (λ x. cond (f x) 1 0) key keys
    ∙ ap (λ b. cond b 1 0 + count_by f keys) (same key kinds.0)
    ∙ ap (λ n. cond (g key) 1 0 + n) (count_same f g same keys kinds.1)
    ∙ sym (sum_by-cons (λ x. cond (g x) 1 0) key keys)

-- the model counts them alike
pub counted_on : (q : Identity) (name : ℕ) (h : List Entry) → health.pods_on q name h ≡ pods_on q name h
counted_on q name h = count_same (λ key. health.is_on name (seen_pod q key h)) (λ key. is_on name (seen_pod q key h)) (λ key kind. same_on (seen_pod q key h)) (pod_keys h) (pods_only h)
  where
    same_on : (o : Option (Version × Pod)) → health.is_on name o ≡ is_on name o
    same_on None = refl
    same_on (Some x) = refl

pub pods_begun : (q : Identity) (k : ℕ) (h : List Entry) (n : ℕ) → pods_on q n (add k q Pass h) ≡ pods_on q n h
pods_begun q k h n =
    count_same (λ key. is_on n (seen_pod q key (add k q Pass h))) (λ key. is_on n (seen_pod q key h))
    (λ key kind. ap (is_on n) (kept_pod q h (add k q Pass h) None (pass_change q k h) key)) (pod_keys h) (pods_only h)

pub pods_with_mark : (k : ℕ) (q : Identity) (name : ℕ) (given : Version) (written : Node) (h : List Entry) (n : ℕ) → pods_on q n (with_mark k q name given written h) ≡ pods_on q n h
pods_with_mark k q name given written h n = by_answer (try_node q name given h) (mark_change q k h name given written)
  where
    alike : (a : Option Answer) → ((key : Key) → is_pod key.kind ≡ true → seen_pod q key (add k q (Mark name given written a) h) ≡ seen_pod q key h)
        → count_by (λ key. is_on n (seen_pod q key (add k q (Mark name given written a) h))) (pod_keys h) ≡ pods_on q n h
    alike a same =
        count_same (λ key. is_on n (seen_pod q key (add k q (Mark name given written a) h))) (λ key. is_on n (seen_pod q key h)) (λ key kind. ap (is_on n) (same key kind)) (pod_keys h) (pods_only h)

    by_answer : (a : Option Answer) → IsChange q h (add k q (Mark name given written a) h) (noted_by name written a) None → pods_on q n (add k q (Mark name given written a) h) ≡ pods_on q n h
    by_answer None s = alike None (λ key kind. kept_pod q h _ None s key)
    by_answer (Some (answer.Done v)) s = alike (Some (answer.Done v)) (λ key kind. noted_pod q h _ name v written None s key kind)
    by_answer (Some answer.Absent) s = alike (Some answer.Absent) (λ key kind. kept_pod q h _ None s key)
    by_answer (Some answer.Exists) s = alike (Some answer.Exists) (λ key kind. kept_pod q h _ None s key)
    by_answer (Some (answer.Conflict v)) s = alike (Some (answer.Conflict v)) (λ key kind. kept_pod q h _ None s key)

pub pods_marked : (doc : Doc) (k : ℕ) (q : Identity) (name : ℕ) (h : List Entry) (n : ℕ) → pods_on q n (mark doc k q name h) ≡ pods_on q n h
pods_marked doc k q name h n = mark_either doc k q name h (λ g. pods_on q n g ≡ pods_on q n h) refl (λ given written. pods_with_mark k q name given written h n)

-- ---- those that are counted

-- none at the entry of the pass
pub begun_none : (doc : Doc) (k : ℕ) (q : Identity) (h : List Entry) → pods_counted doc q h (add k q Pass h) ≡ 0
begun_none doc k q h = ap (λ b. cond (doc.settings.rules.ready_millis == 0) 0 (pods_to_write q (elim b [ true ↦ [] | false ↦ marked_since q h ]) h)) (same_self q) ∙ by_test (doc.settings.rules.ready_millis == 0)
  where
    by_test : (b : Bool) → ◌≡◌ {A = ℕ} (cond b 0 0) 0
    by_test true = refl
    by_test false = refl

pub begin_writes : (doc : Doc) (k : ℕ) (q : Identity) (h : List Entry) (w : PodWrites) → w.takes ≡ not (doc.settings.rules.ready_millis == 0) → w.count ≡ 0 → WritesStand doc q h (add k q Pass h) w
begin_writes doc k q h w takes none = record { takes = takes; count = none ∙ sym (ap kept (begun_none doc k q h)) }

-- one mark more, of a node as it was before the pass
module _ (doc : Doc) (k : ℕ) (q : Identity) (h now : List Entry) (name : ℕ) (given : Version) (written : Node) (a : Option Answer) (same : pods_on q name now ≡ pods_on q name h) where
  abbrev marked : List Entry
  marked = add k q (Mark name given written a) now

  abbrev adds : Bool
  adds = not (doc.settings.rules.ready_millis == 0) && (is_ready_node (seen_node q name h) && is_accepted a)

  pub counted_more : pods_counted doc q h marked ≡ pods_counted doc q h now + cond adds (pods_on q name now) 0
  counted_more =
      ap (λ b. cond (doc.settings.rules.ready_millis == 0) 0 (pods_to_write q (and_name (when (b && is_accepted a) name) (marked_since q now)) h)) (same_self q)
      ∙ by_test (doc.settings.rules.ready_millis == 0) (is_accepted a) (is_ready_node (seen_node q name h)) refl
    where
      by_ready : (ready : Bool) (n all : ℕ) → cond ready n 0 + all ≡ all + cond (ready && true) n 0
      by_ready true n all = omega arith
      by_ready false n all = omega arith

      by_test : (free accepted ready : Bool) → is_ready_node (seen_node q name h) ≡ ready
          → cond free 0 (pods_to_write q (and_name (when accepted name) (marked_since q now)) h)
          ≡ cond free 0 (pods_to_write q (marked_since q now) h) + cond (not free && (ready && accepted)) (pods_on q name now) 0
      by_test true accepted ready is = refl
      by_test false false true is = omega arith
      by_test false false false is = omega arith
      by_test false true ready is =
          ap (λ b. cond b (health.pods_on q name h) 0 + pods_to_write q (marked_since q now) h) is
          ∙ ap (λ n. cond ready n 0 + pods_to_write q (marked_since q now) h) (counted_on q name h ∙ sym same)
          ∙ by_ready ready (pods_on q name now) (pods_to_write q (marked_since q now) h)

  pub note_writes : (w v : PodWrites) (ready : Bool) → WritesStand doc q h now w → v.takes ≡ w.takes → ready ≡ is_ready_node (seen_node q name h)
      → v.count ≡ cond (w.takes && (ready && is_accepted a)) (kept (w.count + pods_on q name now)) w.count → WritesStand doc q h marked v
  note_writes w v ready s takes is count = record {
    takes = takes ∙ s.takes;
    count =
        count ∙ ap (λ b. cond (b && (ready && is_accepted a)) (kept (w.count + pods_on q name now)) w.count) s.takes
        ∙ ap (λ b. cond (not (doc.settings.rules.ready_millis == 0) && (b && is_accepted a)) (kept (w.count + pods_on q name now)) w.count) is
        ∙ by_test adds (pods_counted doc q h now) (pods_on q name now) w.count s.count
        ∙ sym (ap kept counted_more);
  }
    where
      by_test : (b : Bool) (all n c : ℕ) → c ≡ kept all → cond b (kept (c + n)) c ≡ kept (all + cond b n 0)
      by_test true all n c is = omega (arith, is)
      by_test false all n c is = omega (arith, is)

  -- no more steps than pods
  pub note_cost : (w : PodWrites) (ready : Bool) → WritesStand doc q h now w → ready ≡ is_ready_node (seen_node q name h) → (old new : ℕ)
      → new ≤ old + cond (w.takes && (ready && is_accepted a)) (pods_on q name now) 0
      → new + pods_counted doc q h now ≤ old + pods_counted doc q h marked
  note_cost w ready s is old new le =
      let few : new ≤ old + cond adds (pods_on q name now) 0 =
      subst (λ b. new ≤ old + cond (not (doc.settings.rules.ready_millis == 0) && (b && is_accepted a)) (pods_on q name now) 0) is
      (subst (λ b. new ≤ old + cond (b && (ready && is_accepted a)) (pods_on q name now) 0) s.takes le) in
      omega (arith, few, counted_more)

-- two clauses of an answer that is no want of memory
pub on_ok_both : {A E : Type 0} {P R S : Type 0} (r : Result A E) → (P → R → S) → OnOk r P → OnOk r R → OnOk r S
on_ok_both (Ok x) f p r = f p r
on_ok_both (Err e) f p r = tt
