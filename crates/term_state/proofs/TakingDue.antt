-- The pods that are due are taken out.
use Rattle.std.proofs.Common.{◌≡◌, ◌∙◌, ℕ, ◌+◌, ◌<◌, ◌≤◌, ◌||◌, nat_le, Bool, true, false, cond, List, refl, sym, ap, subst, arith}
use Rattle.std.proofs.lemmas.Bool.{le-leb}
use Rattle.std.proofs.lemmas.Bool.Decides.{nat_tests}
use Rattle.std.specs.BTreeSet.{BTreeSet, contains}
use Rattle.kube_objects.specs.declared.rules.EvictRule.{EvictRule}
use Rattle.kube_objects.specs.declared.rules.EvictRule.TheVariants as evictions
use Rattle.kube_objects.specs.declared.key.Key.{Key}
use Rattle.kube_objects.specs.declared.pod.Due.{Due}
use Rattle.kube_objects.specs.declared.pod.Due.TheVariants.{Never, At}
use Rattle.kube_objects.specs.Document.{Doc}
use Rattle.kube_objects.specs.Entry.{Entry, Identity}
use Rattle.kube_objects.specs.Keys.{key_cmp, key_eq}
use Rattle.kube_objects.proofs.KeyOrder.{same_key}
use Rattle.history_laws.proofs.Plainly.{false_is}
use Rattle.evict_queue.specs.Queue.{due_in}
use Rattle.evict_queue.specs.Rows.{row_in}
use Rattle.evict_queue.specs.declared.queue.EvictQueue.{EvictQueue}
use Rattle.tick_laws.specs.Judged.{is_by_now}
use Rattle.term_state.specs.declared.cluster.Cluster.{Cluster}
use Rattle.term_state.specs.ClusterStands.{ClusterBut, no_node}
use Rattle.term_state.specs.Sights.{SettledBy, has_touched}
use Rattle.term_state.proofs.Judging.{with_dues}
use Rattle.term_state.proofs.Widen.{first_none, second_none}

-- of the dues before, those that are taken out are due by now, and the others are left
pub record Taken (before : EvictQueue) (now : ℕ) (todo : BTreeSet Key) (dues : EvictQueue) : Type 0 where
  pub left : (p : Key) → contains key_cmp todo p ≡ false → due_in dues p ≡ due_in before p
  pub due : (p : Key) → contains key_cmp todo p ≡ true → is_by_now now (due_in before p) ≡ true

pub begin_taken : (dues : EvictQueue) (now : ℕ) (todo : BTreeSet Key) → ((p : Key) → contains key_cmp todo p ≡ false) → Taken dues now todo dues
begin_taken dues now todo empty = record {
  left = λ p out. refl;
  due = λ p there. absurd (false_is (sym (empty p) ∙ there));
}

due_at : (now at : ℕ) (due : Due) → due ≡ At at → at ≤ now → is_by_now now due ≡ true
due_at now at due is le = ap (is_by_now now) is ∙ le-leb at now le

pub next_taken : (before : EvictQueue) (now at : ℕ) (pod : Key) (todo more : BTreeSet Key) (old new : EvictQueue) → Taken before now todo old → due_in old pod ≡ At at → at ≤ now
    → contains key_cmp todo pod ≡ false
    → ((key : Key) → due_in new key ≡ cond (key_eq pod key) Never (due_in old key)) → ((key : Key) → contains key_cmp more key ≡ cond (key_eq pod key) true (contains key_cmp todo key))
    → Taken before now more new
next_taken before now at pod todo more old new s is le fresh left has = record {
  left = λ p out. left p ∙ by_test p (key_eq pod p) (sym (has p) ∙ out);
  due = λ p there. by_pod p (key_eq pod p) refl (sym (has p) ∙ there);
}
  where
    by_test : (p : Key) (b : Bool) → cond b true (contains key_cmp todo p) ≡ false → cond b Never (due_in old p) ≡ due_in before p
    by_test p true out = absurd (false_is (sym out))
    by_test p false out = s.left p out

    by_pod : (p : Key) (b : Bool) → key_eq pod p ≡ b → cond b true (contains key_cmp todo p) ≡ true → is_by_now now (due_in before p) ≡ true
    by_pod p true same there = subst (λ k. is_by_now now (due_in before k) ≡ true) (same_key pod p same) (due_at now at (due_in before pod) (sym (s.left pod fresh) ∙ is) le)
    by_pod p false apart there = s.due p there

-- nothing more is due
pub quiet_due : (now : ℕ) (due : Due) → ((at : ℕ) → due ≡ At at → now < at) → is_by_now now due ≡ false
quiet_due now Never late = refl
quiet_due now (At at) late = let less = late at refl in grind (arith, nat_tests)

pub end_taken : (before : EvictQueue) (now : ℕ) (todo : BTreeSet Key) (dues : EvictQueue) → Taken before now todo dues → ((at : ℕ) (key : Key) → due_in dues key ≡ At at → now < at)
    → (p : Key) → contains key_cmp todo p ≡ is_by_now now (due_in before p)
end_taken before now todo dues s late p = by_test (contains key_cmp todo p) refl
  where
    by_test : (b : Bool) → contains key_cmp todo p ≡ b → b ≡ is_by_now now (due_in before p)
    by_test true there = sym (s.due p there)
    by_test false out = sym (ap (is_by_now now) (sym (s.left p out)) ∙ quiet_due now (due_in dues p) (λ at is. late at p is))

-- ---- what is left of a cluster

pub left_but : (q : Identity) (h : List Entry) (pods more : Key → Bool) (c : Cluster) (dues : EvictQueue) → ((p : Key) → more p ≡ false → (pods p ≡ false) × (due_in dues p ≡ due_in c.dues p))
    → ClusterBut q h no_node pods c → ClusterBut q h no_node more (with_dues c dues)
left_but q h pods more c dues left s =
    record { cache = s.cache; mode = s.mode; unclean = s.unclean; dues = λ p out added. (left p out).1 ∙ s.dues p (left p out).0 added; kinds = s.kinds }

-- where one more is taken out
pub more_left : (pod : Key) (pods more : Key → Bool) (old new : EvictQueue) → ((key : Key) → due_in new key ≡ cond (key_eq pod key) Never (due_in old key)) → ((key : Key) → more key ≡ cond (key_eq pod key) true (pods key))
    → (p : Key) → more p ≡ false → (pods p ≡ false) × (due_in new p ≡ due_in old p)
more_left pod pods more old new left has p out = by_test (key_eq pod p) refl (sym (has p) ∙ out)
  where
    by_test : (b : Bool) → key_eq pod p ≡ b → cond b true (pods p) ≡ false → (pods p ≡ false) × (due_in new p ≡ due_in old p)
    by_test true same out = absurd (false_is (sym out))
    by_test false apart out = (out, left p ∙ ap (λ b. cond b Never (due_in old p)) apart)

pub settled_left : (rule : EvictRule) (doc : Doc) (q : Identity) (h : List Entry) (pods more : Key → Bool) (old new : Cluster) → ((key : Key) → row_in new.rows key ≡ row_in old.rows key)
    → ((key : Key) → has_touched new key ≡ has_touched old key) → ((key : Key) → more key ≡ false → (pods key ≡ false) × (due_in new.dues key ≡ due_in old.dues key))
    → SettledBy rule doc q h pods old → SettledBy rule doc q h more new
settled_left evictions.Added doc q h pods more old new rows touched left s = λ key. touched key ∙ s key
settled_left evictions.Seen doc q h pods more old new rows touched left s = record {
  sights = record { rows = λ key. rows key ∙ s.sights.rows key; dues = λ key out. (left key out).1 ∙ s.sights.dues key (left key out).0 };
  none = λ key. touched key ∙ s.none key;
}

-- where one is taken out, or none
pub one_left : (pod : Key) (pods : Key → Bool) (old new : EvictQueue) → ((key : Key) → due_in new key ≡ cond (key_eq pod key) Never (due_in old key)) → (p : Key) → (pods p || key_eq pod p) ≡ false
    → (pods p ≡ false) × (due_in new p ≡ due_in old p)
one_left pod pods old new left p out =
    (first_none (pods p) (key_eq pod p) out, left p ∙ ap (λ b. cond b Never (due_in old p)) (second_none (pods p) (key_eq pod p) out))

-- a look for the first one counts a step where any is due ever, and none else
pub few_steps : (dues : EvictQueue) (old new : ℕ) → ((at : ℕ) (key : Key) → due_in dues key ≡ At at → new ≤ old + 1) → (((key : Key) → due_in dues key ≡ Never) → new ≡ old) → new ≤ old + 1
few_steps dues old new some quiet = by_test (nat_le new (old + 1)) refl
  where
    never : ((new ≤ old + 1) → ⊥) → (key : Key) (d : Due) → due_in dues key ≡ d → d ≡ Never
    never more key Never is = refl
    never more key (At at) is = absurd (more (some at key is))

    by_test : (b : Bool) → nat_le new (old + 1) ≡ b → new ≤ old + 1
    by_test true le = grind (arith, nat_tests, le)
    by_test false greater =
        let more : (new ≤ old + 1) → ⊥ = λ le. false_is (sym greater ∙ le-leb new (old + 1) le) in
        let same : new ≡ old = quiet (λ key. never more key (due_in dues key) refl) in
        absurd (more (omega (arith, same)))

-- a pod that is taken out is a new one
pub is_new : (todo : BTreeSet Key) (dues : EvictQueue) (pod : Key) (at : ℕ) → ((p : Key) → contains key_cmp todo p ≡ true → due_in dues p ≡ Never) → due_in dues pod ≡ At at → contains key_cmp todo pod ≡ false
is_new todo dues pod at gone is = by_test (contains key_cmp todo pod) refl
  where
    differ : Never ≡ At at → ⊥
    differ is = cc

    by_test : (b : Bool) → contains key_cmp todo pod ≡ b → b ≡ false
    by_test true there = absurd (differ (sym (gone pod there) ∙ is))
    by_test false there = refl

-- and has no due any more
pub gone_more : (todo more : BTreeSet Key) (old new : EvictQueue) (pod : Key) → ((p : Key) → contains key_cmp todo p ≡ true → due_in old p ≡ Never)
    → ((key : Key) → due_in new key ≡ cond (key_eq pod key) Never (due_in old key)) → ((key : Key) → contains key_cmp more key ≡ cond (key_eq pod key) true (contains key_cmp todo key))
    → (p : Key) → contains key_cmp more p ≡ true → due_in new p ≡ Never
gone_more todo more old new pod gone left has p there = left p ∙ by_test (key_eq pod p) (sym (has p) ∙ there)
  where
    by_test : (b : Bool) → cond b true (contains key_cmp todo p) ≡ true → cond b Never (due_in old p) ≡ Never
    by_test true is = refl
    by_test false is = gone p is
