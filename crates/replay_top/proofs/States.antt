-- The objects that a world shows are the state, by their order and their look-ups; and how a state is answered.
use Rattle.std.proofs.Common.{◌≡◌, ◌⊎◌, ◌<◌, ◌≤◌, ◌+◌, ℕ, Bool, true, false, cond, List, [], ◌∷◌, Option, Some, None, option_map, Result, Ok, Err, IfOk, Less, Equal, Greater, inl, inr, refl, sym, ap, ◌∙◌, subst, codes}
use Rattle.std.proofs.lemmas.Bool.{false≢true, le-leb, lt-leb}
use Rattle.std.proofs.lemmas.Bool.Decides.{nat_tests}
use Rattle.std.proofs.lemmas.Cmp.{nat_cmp_total, on_total, then_total}
use Rattle.std.specs.BTreeMap.{insert_entry}
use Rattle.std.specs.Cmp.{IsTotalOrder}
use Rattle.std.specs.List.{AllByRecursion}
use Rattle.std.specs.List.Sorted.{IsStrictlySortedBy}
use Rattle.std.specs.Map.{keys_of, lookup}
use Rattle.std.specs.Ordering.{is_eq, match_ordering, nat_cmp, ordering_reverse}
use Rattle.std.specs.declared.cmp.Ordering.{Ordering}
use Rattle.kube_objects.proofs.KeyOrder.{same_key, key_itself}
use Rattle.kube_objects.specs.declared.key.Key.{Key}
use Rattle.kube_objects.specs.declared.object.Object.{Object}
use Rattle.kube_objects.specs.Document.{Doc, end_beat}
use Rattle.kube_objects.specs.Entry.{Entry}
use Rattle.kube_objects.specs.Keys.{key_cmp, key_eq, kind_rank}
use Rattle.kube_objects.specs.Newest.{join, newest, when}
use Rattle.kube_objects.specs.Stored.{Held, Write, at_key, holds, last_write, stored, write_of}
use Rattle.history.specs.History.{history}
use Rattle.kube_base.specs.Names.{AreNames}
use Rattle.manifest_json.specs.Readable.{IsReadable}
use Rattle.manifest_json.specs.declared.scale.Scale.{Scale}
use Rattle.naming_laws.specs.WellFormed.{AreWithinLimits}
use Rattle.naming_laws.proofs.Kept.{states_readable}
use Rattle.object_store.specs.StoreAnswers.{object_of}
use Rattle.script_reader.specs.Lawful.{IsLawfulDoc, IsWellNamed}
use Rattle.script_reader.specs.Walk.{numbers_of}
use Rattle.script_reader.specs.declared.document.Document.{Document}
use Rattle.run_edge.specs.Outcome.{refusal}
use Rattle.replay_top.specs.Replies.{done, state_answer}
use Rattle.replay_top.specs.State.{state_text, and_stored, and_written, stored_after, stored_at}

abbrev pub Items : Type 0
Items = List (Key × Object)

-- ---- the order of keys

keys_total : IsTotalOrder key_cmp
keys_total = then_total (on_total (λ (k : Key). kind_rank k.kind) nat_cmp_total) (then_total (on_total (λ (k : Key). k.space) nat_cmp_total) (on_total (λ (k : Key). k.name) nat_cmp_total))

keys_told : (a b : Key) → key_cmp a b ≡ Equal → a ≡ b
keys_told a b is = same_key a b (ap is_eq is)

-- ---- an object that is put among others in order

all_put : (P : Key → Type 0) (key : Key) (x : Object) (items : Items) → AllByRecursion P (keys_of items) → P key → AllByRecursion P (keys_of (insert_entry key_cmp items key x))
all_put P key x [] all here = (here, tt)
all_put P key x (e ∷ es) all here = by_order (key_cmp key e.0) (all_put P key x es all.1 here)
  where
    by_order : (o : Ordering) → AllByRecursion P (keys_of (insert_entry key_cmp es key x))
        → AllByRecursion P (keys_of (match_ordering o ((key, x) ∷ e ∷ es) ((e.0, x) ∷ es) (e ∷ insert_entry key_cmp es key x)))
    by_order Less later = (here, all)
    by_order Equal later = all
    by_order Greater later = (all.0, later)

all_less : (a b : Key) (ks : List Key) → key_cmp a b ≡ Less → AllByRecursion (λ y. key_cmp b y ≡ Less) ks → AllByRecursion (λ y. key_cmp a y ≡ Less) ks
all_less a b [] is all = tt
all_less a b (k ∷ ks) is all = (keys_total.trans a b k is all.0, all_less a b ks is all.1)

sorted_put : (key : Key) (x : Object) (items : Items) → IsStrictlySortedBy key_cmp (keys_of items) → IsStrictlySortedBy key_cmp (keys_of (insert_entry key_cmp items key x))
unfolding IsStrictlySortedBy
sorted_put key x [] sorted = (tt, tt)
sorted_put key x (e ∷ es) sorted = by_order (key_cmp key e.0) refl (sorted_put key x es sorted.1)
  where
    by_order : (o : Ordering) → key_cmp key e.0 ≡ o → IsStrictlySortedBy key_cmp (keys_of (insert_entry key_cmp es key x))
        → IsStrictlySortedBy key_cmp (keys_of (match_ordering o ((key, x) ∷ e ∷ es) ((e.0, x) ∷ es) (e ∷ insert_entry key_cmp es key x)))
    by_order Less is later = ((is, all_less key e.0 (keys_of es) is sorted.0), sorted)
    by_order Equal is later = sorted
    by_order Greater is later =
        (all_put (λ y. key_cmp e.0 y ≡ Less) key x es sorted.0 (keys_total.antisymm e.0 key ∙ ap ordering_reverse is), later)

twice : {A : Type 0} (b : Bool) (x y z : A) → cond b x z ≡ cond b x (cond b y z)
twice true x y z = refl
twice false x y z = refl

swapped : {A : Type 0} (a b : Bool) (x y z : A) → (a ≡ true → b ≡ true → ⊥) → cond a x (cond b y z) ≡ cond b y (cond a x z)
swapped true true x y z never = absurd (never refl refl)
swapped true false x y z never = refl
swapped false true x y z never = refl
swapped false false x y z never = refl

lookup_put : (q key : Key) (x : Object) (items : Items) → lookup (key_eq q) (insert_entry key_cmp items key x) ≡ cond (key_eq q key) (Some x) (lookup (key_eq q) items)
lookup_put q key x [] = refl
lookup_put q key x (e ∷ es) = by_order (key_cmp key e.0) refl (lookup_put q key x es)
  where
    by_order : (o : Ordering) → key_cmp key e.0 ≡ o
        → lookup (key_eq q) (insert_entry key_cmp es key x) ≡ cond (key_eq q key) (Some x) (lookup (key_eq q) es)
        → lookup (key_eq q) (match_ordering o ((key, x) ∷ e ∷ es) ((e.0, x) ∷ es) (e ∷ insert_entry key_cmp es key x)) ≡ cond (key_eq q key) (Some x) (lookup (key_eq q) (e ∷ es))
    by_order Less is later = refl
    by_order Equal is later =
        let same : key ≡ e.0 = same_key key e.0 (ap is_eq is) in
        twice (key_eq q e.0) (Some x) (Some e.1) (lookup (key_eq q) es) ∙ ap (λ k. cond (key_eq q k) (Some x) (lookup (key_eq q) (e ∷ es))) (sym same)
    by_order Greater is later =
        ap (λ o. cond (key_eq q e.0) (Some e.1) o) later
        ∙ swapped (key_eq q e.0) (key_eq q key) (Some e.1) (Some x) (lookup (key_eq q) es)
        (λ one two.
        let same : key ≡ e.0 = sym (same_key q key two) ∙ same_key q e.0 one in
        let itself : is_eq (key_cmp key e.0) ≡ true = subst (λ k. key_eq key k ≡ true) same (key_itself key) in
        false≢true (sym (ap is_eq is) ∙ itself))

-- ---- objects in order by their look-ups

-- a key that is below all others isn't found
absent : (q : Key) (items : Items) → AllByRecursion (λ k. key_cmp q k ≡ Less) (keys_of items) → lookup (key_eq q) items ≡ None
absent q [] below = refl
absent q (e ∷ es) below =
    ap (λ o. cond (is_eq o) (Some e.1) (lookup (key_eq q) es)) below.0 ∙ absent q es below.1

-- the first key is found with its object
first_found : (e : Key × Object) (es : Items) → lookup (key_eq e.0) (e ∷ es) ≡ Some e.1
first_found e es = ap (λ b. cond b (Some e.1) (lookup (key_eq e.0) es)) (key_itself e.0)

none_some : (x : Object) → None ≡ Some x → ⊥
none_some x is = cc

some_same : (x y : Object) → Some x ≡ Some y → x ≡ y
some_same x y is = cc

-- a first key that is below the other's first one would be missing there
never_less : (x y : Key × Object) (xs ys : Items) → IsStrictlySortedBy key_cmp (keys_of (y ∷ ys)) → lookup (key_eq x.0) (x ∷ xs) ≡ lookup (key_eq x.0) (y ∷ ys) → key_cmp x.0 y.0 ≡ Less → ⊥
unfolding IsStrictlySortedBy
never_less x y xs ys sorted same less =
    none_some x.1 (sym (absent x.0 (y ∷ ys) (less, all_less x.0 y.0 (keys_of ys) less sorted.0)) ∙ sym same ∙ first_found x xs)

same_first : (x y : Key × Object) (xs ys : Items) → IsStrictlySortedBy key_cmp (keys_of (x ∷ xs)) → IsStrictlySortedBy key_cmp (keys_of (y ∷ ys))
    → ((q : Key) → lookup (key_eq q) (x ∷ xs) ≡ lookup (key_eq q) (y ∷ ys)) → x.0 ≡ y.0
same_first x y xs ys one two same = by_order (key_cmp x.0 y.0) refl
  where
    by_order : (o : Ordering) → key_cmp x.0 y.0 ≡ o → x.0 ≡ y.0
    by_order Less is = absurd (never_less x y xs ys two (same x.0) is)
    by_order Equal is = keys_told x.0 y.0 is
    by_order Greater is = absurd (never_less y x ys xs one (sym (same y.0)) (keys_total.antisymm y.0 x.0 ∙ ap ordering_reverse is))

-- behind the same first key, what is found is the same
same_later : (x y : Key × Object) (xs ys : Items) → IsStrictlySortedBy key_cmp (keys_of (x ∷ xs)) → IsStrictlySortedBy key_cmp (keys_of (y ∷ ys)) → x.0 ≡ y.0
    → (q : Key) → lookup (key_eq q) (x ∷ xs) ≡ lookup (key_eq q) (y ∷ ys) → lookup (key_eq q) xs ≡ lookup (key_eq q) ys
unfolding IsStrictlySortedBy
same_later x y xs ys one two key q same = by_test (key_eq q x.0) refl
  where
    by_test : (b : Bool) → key_eq q x.0 ≡ b → lookup (key_eq q) xs ≡ lookup (key_eq q) ys
    by_test true is =
        let first : x.0 ≡ q = sym (same_key q x.0 is) in
        let missing : lookup (key_eq q) xs ≡ None = absent q xs (subst (λ k. AllByRecursion (λ j. key_cmp k j ≡ Less) (keys_of xs)) first one.0) in
        let other : lookup (key_eq q) ys ≡ None = absent q ys (subst (λ k. AllByRecursion (λ j. key_cmp k j ≡ Less) (keys_of ys)) (sym key ∙ first) two.0) in
        missing ∙ sym other
    by_test false is =
        let there : key_eq q y.0 ≡ false = ap (key_eq q) (sym key) ∙ is in
        sym (ap (λ b. cond b (Some x.1) (lookup (key_eq q) xs)) is) ∙ same ∙ ap (λ b. cond b (Some y.1) (lookup (key_eq q) ys)) there

same_pair : (x y : Key × Object) → x.0 ≡ y.0 → x.1 ≡ y.1 → x ≡ y
same_pair x y p q = λ i. (p i, q i)

-- lists in order with the same look-ups are one
same_items : (xs ys : Items) → IsStrictlySortedBy key_cmp (keys_of xs) → IsStrictlySortedBy key_cmp (keys_of ys) → ((q : Key) → lookup (key_eq q) xs ≡ lookup (key_eq q) ys) → xs ≡ ys
unfolding IsStrictlySortedBy
same_items [] [] one two same = refl
same_items [] (y ∷ ys) one two same = absurd (none_some y.1 (same y.0 ∙ first_found y ys))
same_items (x ∷ xs) [] one two same = absurd (none_some x.1 (sym (same x.0) ∙ first_found x xs))
same_items (x ∷ xs) (y ∷ ys) one two same =
    let key = same_first x y xs ys one two same in
    let value : Some x.1 ≡ Some y.1 = sym (first_found x xs) ∙ same x.0 ∙ ap (λ k. lookup (key_eq k) (y ∷ ys)) key ∙ first_found y ys in
    let rest = same_items xs ys one.1 two.1 (λ q. same_later x y xs ys one two key q (same q)) in
    let pair = same_pair x y key (some_same x.1 y.1 value) in
    λ i. pair i ∷ rest i

-- ---- the state by its look-ups

same_item : (q : Key) (o : Option Held) (items : Items) → (lookup (key_eq q) items ≡ object_of o) ⊎ (lookup (key_eq q) items ≡ None) → lookup (key_eq q) (and_stored q o items) ≡ object_of o
same_item q None items (inl is) = is
same_item q None items (inr is) = is
same_item q (Some held) items either =
    lookup_put q q held.object items ∙ ap (λ b. cond b (Some held.object) (lookup (key_eq q) items)) (key_itself q)

other_item : (q key : Key) (o : Option Held) (items : Items) → key_eq q key ≡ false → lookup (key_eq q) (and_stored key o items) ≡ lookup (key_eq q) items
other_item q key None items differs = refl
other_item q key (Some held) items differs =
    lookup_put q key held.object items ∙ ap (λ b. cond b (Some held.object) (lookup (key_eq q) items)) differs

-- the key is found with what is stored at it, or nobody wrote it
abbrev Found : Key → List Entry → Option Object → Option (Option Held) → Type 0
Found q h found written = (found ≡ object_of (stored q h)) ⊎ ((found ≡ None) × (written ≡ None))

differ_back : (a b : Key) → key_eq a b ≡ false → key_eq b a ≡ false
differ_back a b is = by_test (key_eq b a) refl
  where
    by_test : (c : Bool) → key_eq b a ≡ c → c ≡ false
    by_test false e = refl
    by_test true e = absurd (false≢true (sym is ∙ subst (λ k. key_eq k b ≡ true) (same_key b a e) (key_itself b)))

-- what was written last, with one more entry
abbrev after : Option (Option Held) → Option (Option Held) → Option (Option Held)
after o older = elim o [ None ↦ older | Some x ↦ Some x ]

-- what was found is as it is stored, or there is nothing
own : (q : Key) (h : List Entry) (found : Option Object) (written : Option (Option Held)) → Found q h found written → (found ≡ object_of (stored q h)) ⊎ (found ≡ None)
own q h found written (inl is) = inl is
own q h found written (inr none) = inr none.0

found_one : (h g : List Entry) (e : Entry) (q : Key) (w : Write) (b : Bool) → key_eq q w.0 ≡ b → Found q h (lookup (key_eq q) (stored_at h g)) (last_write q g)
    → Found q h (lookup (key_eq q) (and_stored w.0 (stored w.0 h) (stored_at h g))) (after (holds g e.beat e.actor (at_key q (Some w))) (last_write q g))
found_one h g e q w true is before =
    inl (subst (λ k. lookup (key_eq q) (and_stored k (stored k h) (stored_at h g)) ≡ object_of (stored q h)) (same_key q w.0 is)
    (same_item q (stored q h) (stored_at h g) (own q h (lookup (key_eq q) (stored_at h g)) (last_write q g) before)))
found_one h g e q w false is before =
    let differs : key_eq w.0 q ≡ false = differ_back q w.0 is in
    let found = lookup (key_eq q) (and_stored w.0 (stored w.0 h) (stored_at h g)) in
    subst (λ b. Found q h found (after (holds g e.beat e.actor (when b w.1)) (last_write q g))) (sym differs)
    (subst (λ f. Found q h f (last_write q g)) (sym (other_item q w.0 (stored w.0 h) (stored_at h g) is)) before)

found_next : (h g : List Entry) (e : Entry) (q : Key) (w : Option Write) → Found q h (lookup (key_eq q) (stored_at h g)) (last_write q g)
    → Found q h (lookup (key_eq q) (and_written h w (stored_at h g))) (after (holds g e.beat e.actor (at_key q w)) (last_write q g))
found_next h g e q None before = before
found_next h g e q (Some w) before = found_one h g e q w (key_eq q w.0) refl before

found_at : (h g : List Entry) (q : Key) → Found q h (lookup (key_eq q) (stored_at h g)) (last_write q g)
found_at h [] q = inr (refl, refl)
found_at h (e ∷ g) q = found_next h g e q (write_of e.fact) (found_at h g q)

lookups : (h : List Entry) (q : Key) → lookup (key_eq q) (stored_after h) ≡ object_of (stored q h)
lookups h q = by_found (found_at h h q)
  where
    by_found : Found q h (lookup (key_eq q) (stored_after h)) (last_write q h) → lookup (key_eq q) (stored_after h) ≡ object_of (stored q h)
    by_found (inl is) = is
    by_found (inr none) = none.0 ∙ sym (ap (λ o. object_of (join o)) none.1)

ordered_by : (key : Key) (o : Option Held) (items : Items) → IsStrictlySortedBy key_cmp (keys_of items) → IsStrictlySortedBy key_cmp (keys_of (and_stored key o items))
ordered_by key None items sorted = sorted
ordered_by key (Some held) items sorted = sorted_put key held.object items sorted

ordered_next : (h : List Entry) (w : Option Write) (items : Items) → IsStrictlySortedBy key_cmp (keys_of items) → IsStrictlySortedBy key_cmp (keys_of (and_written h w items))
ordered_next h None items sorted = sorted
ordered_next h (Some w) items sorted = ordered_by w.0 (stored w.0 h) items sorted

ordered_at : (h g : List Entry) → IsStrictlySortedBy key_cmp (keys_of (stored_at h g))
unfolding IsStrictlySortedBy
ordered_at h [] = tt
ordered_at h (e ∷ g) = ordered_next h (write_of e.fact) (stored_at h g) (ordered_at h g)

-- objects in order that are found as they are stored are the state
pub items-stored : (h : List Entry) (items : Items) → IsStrictlySortedBy key_cmp (keys_of items) → ((q : Key) → lookup (key_eq q) items ≡ object_of (stored q h))
    → items ≡ stored_after h
items-stored h items ascend found =
    same_items items (stored_after h) ascend (ordered_at h h) (λ q. found q ∙ sym (lookups h q))

-- ---- a state is read back

as_objects : (o : Option Held) → object_of o ≡ option_map (λ (x : Held). x.object) o
as_objects None = refl
as_objects (Some x) = refl

-- within the limits it is such as a List gives
pub state-readable : (names : List (List ℕ)) (doc : Doc) (k : ℕ) → AreNames names → IsLawfulDoc doc → IsWellNamed names doc → k ≤ end_beat doc + 1
    → (scale : Scale) → AreWithinLimits scale (stored_after (history doc k)) → IsReadable scale names (numbers_of doc.controllers) (stored_after (history doc k))
state-readable names doc k are lawful named within scale few =
    let h = history doc k in
    states_readable names doc are lawful named k within (stored_after h) (ordered_at h h) (λ q. lookups h q ∙ as_objects (stored q h)) scale few

pub ok-both : {A E : Type 0} (P : A → Type 0) {Q R : Type 0} (r : Result A E) → (Q → R) → IfOk r P → IfOk r (λ x. Q) → IfOk r (λ x. P x × R)
ok-both P (Ok x) then one two = (one, then two)
ok-both P (Err e) then one two = tt

-- ---- values that are others by name

pub moved : {A B C : Type 0} (P : A → B → C → Type 0) {a a' : A} {b b' : B} {c c' : C} → a ≡ a' → b ≡ b' → c ≡ c' → P a b c → P a' b' c'
moved P {a} {a'} {b} {b'} {c} {c'} p q r holds = subst (λ x. P x b' c') p (subst (λ y. P a y c') q (subst (λ z. P a b z) r holds))

-- ---- a beat within the document, and one after its end

pub state-within : (d : Document) (b : ℕ) → b ≤ d.settings.end_beat.0 → state_answer d b ≡ done (state_text d b)
state-within d b within = ap (λ t. cond t (done (state_text d b)) (refusal 34 (codes "/"))) (le-leb b d.settings.end_beat.0 within)

pub state-past : (d : Document) (b : ℕ) → d.settings.end_beat.0 < b → state_answer d b ≡ refusal 34 (codes "/")
state-past d b past = ap (λ t. cond t (done (state_text d b)) (refusal 34 (codes "/"))) (lt-leb b d.settings.end_beat.0 past)
