-- Rows that stand but for some pods.
use Rattle.std.proofs.Common.{◌≡◌, ◌∙◌, ℕ, ◌+◌, ◌<◌, ◌&&◌, ◌||◌, not, Bool, true, false, cond, List, [], ◌∷◌, length, Option, Some, None, refl, sym, ap, subst, inl, inr, arith}
use Rattle.std.proofs.lemmas.Bool.{eq-eqb}
use Rattle.std.specs.BTreeMap.{is_at}
use Rattle.std.specs.BTreeSet.{BTreeSet, btree_set_len, contains}
use Rattle.std.specs.List.{list_any}
use Rattle.kube_base.specs.declared.numbers.Version.{Version}
use Rattle.kube_objects.specs.declared.deed.Actor.{Actor}
use Rattle.kube_objects.specs.declared.key.Key.{Key}
use Rattle.kube_objects.specs.declared.node.Node.{Node}
use Rattle.kube_objects.specs.declared.pod.Bears.{Bears}
use Rattle.kube_objects.specs.declared.pod.Bears.TheVariants.{Untainted, NotAtAll, Ever, For}
use Rattle.kube_objects.specs.declared.pod.Due.{Due}
use Rattle.kube_objects.specs.declared.pod.Due.TheVariants.{Never}
use Rattle.kube_objects.specs.declared.pod.Pod.{Pod}
use Rattle.kube_objects.specs.declared.rules.EvictRule.{EvictRule}
use Rattle.kube_objects.specs.declared.rules.EvictRule.TheVariants as evictions
use Rattle.kube_objects.specs.Clocks.{wall}
use Rattle.kube_objects.specs.Document.{Doc}
use Rattle.kube_objects.specs.Entry.{Entry, Identity, Fact, Ticks}
use Rattle.kube_objects.specs.Identities.{is_by}
use Rattle.kube_objects.specs.Keys.{key_cmp, key_eq}
use Rattle.kube_objects.specs.Newest.{has, when}
use Rattle.kube_objects.specs.Seen.{is_pod, is_stale, seen_node, seen_pod}
use Rattle.kube_objects.specs.Sightings.{bears, bears_on, due_in_row, is_own_tick, is_one_row, last_sight, micros_of, row, row_at, sight, sighted_due, sighted_pod}
use Rattle.kube_objects.specs.Tainting.{before_tick, is_tick_of}
use Rattle.kube_objects.proofs.KeyOrder.{same_key}
use Rattle.evict_queue.specs.Queue.{due_in}
use Rattle.evict_queue.specs.Rows.{IsInReach, goes_on, is_same_going, next_row, row_in}
use Rattle.evict_queue.specs.declared.rows.Going.{Going}
use Rattle.evict_queue.specs.declared.rows.Going.TheVariants.{Now, After}
use Rattle.evict_queue.specs.declared.rows.Row.{Row}
use Rattle.history_laws.specs.Tails.{IsTail}
use Rattle.history_laws.proofs.Plainly.{false_is, upper, some_is, none_is, true_is}
use Rattle.history_laws.proofs.Sightings.{foreign_last, one_alike, one_self, one_swap, row_anew, row_goes_on, row_none, sight_last}
use Rattle.history_laws.proofs.Tailed.{tail_all}
use Rattle.taint_match.specs.Bearing.{IsBounded}
use Rattle.tick_laws.specs.Judged.{due_by, is_by_now, sighted_as}
use Rattle.watch_cache.specs.Stands.{stale_in}
use Rattle.term_state.specs.declared.cluster.Cluster.{Cluster}
use Rattle.term_state.specs.ClusterStands.{ClusterBut, HaveKinds, no_pod}
use Rattle.term_state.specs.Sights.{AreRowsSettled, AreSighted, IsAlike, IsSightKept, KeepsSight, SetsRow, SettledBy, due_if_fresh, due_of_row, going_of, has_touched, is_undue, row_from, row_of}

-- what stands but for some stands but for more
pub settled_wider : (doc : Doc) (q : Identity) (h : List Entry) (pods more : Key → Bool) (c : Cluster) → ((key : Key) → more key ≡ false → pods key ≡ false)
    → SettledBy doc.settings.rules.evict_from doc q h pods c → SettledBy doc.settings.rules.evict_from doc q h more c
settled_wider doc q h pods more c f = by_rule doc.settings.rules.evict_from
  where
    by_rule : (rule : EvictRule) → SettledBy rule doc q h pods c → SettledBy rule doc q h more c
    by_rule evictions.Added s = s
    by_rule evictions.Seen s = record { sights = record { rows = s.sights.rows; dues = λ key out. s.sights.dues key (f key out) }; none = s.none }

-- ---- who has to go has a row

before_tail : (q : Identity) (k : ℕ) (h : List Entry) → IsTail (before_tick q k h) h
before_tail q k [] = refl
before_tail q k (e ∷ h) = by_tick (before_tail q k h) (is_tick_of q k e.beat e.actor e.fact)
  where
    by_tick : IsTail (before_tick q k h) h → (t : Bool) → IsTail (elim t [ true ↦ before_tick q k h | false ↦ e ∷ h ]) (e ∷ h)
    by_tick older true = inr older
    by_tick older false = inl refl

-- the row of what was last seen is there, and of its kind
record Begun (q : Identity) (pod : Key) (h : List Entry) : Type 0 where
  at : ℕ × Bears
  is : row q pod h ≡ Some at
  one : is_one_row (last_sight q pod h) at.1 ≡ true

own_is_tick : (q : Identity) (k : ℕ) (who : Actor) (d : Fact) → is_own_tick q who d ≡ true → is_tick_of q k k who d ≡ true
own_is_tick q k who (Ticks t) own = ap (λ b. b && is_by q who) (eq-eqb k k refl) ∙ own
own_is_tick q k who d own = absurd (true_is (sym own))

-- an entry that is no own tick's leaves a row
foreign_at : (q : Identity) (pod : Key) (e : Entry) (h : List Entry) → is_own_tick q e.actor e.fact ≡ false → (b : Bears) → row_at q pod b (e ∷ h) ≡ row_at q pod b h
foreign_at q pod e h foreign Untainted = refl
foreign_at q pod e h foreign Ever = refl
foreign_at q pod e h foreign NotAtAll =
    ap (λ t. upper (when (t && not (is_one_row NotAtAll (last_sight q pod (before_tick q e.beat h)))) (e.beat, last_sight q pod (e ∷ h))) (row_at q pod NotAtAll h)) foreign
foreign_at q pod e h foreign (For m) =
    ap (λ t. upper (when (t && not (is_one_row (For m) (last_sight q pod (before_tick q e.beat h)))) (e.beat, last_sight q pod (e ∷ h))) (row_at q pod (For m) h)) foreign

begun_more : (q : Identity) (pod : Key) (e : Entry) (h : List Entry) → ((g : List Entry) → IsTail g h → is_one_row (last_sight q pod g) (last_sight q pod g) ≡ true → Begun q pod g)
    → is_one_row (last_sight q pod (e ∷ h)) (last_sight q pod (e ∷ h)) ≡ true → Begun q pod (e ∷ h)
begun_more q pod e h older mine = by_own (is_own_tick q e.actor e.fact) refl
  where
    now : Bears
    now = last_sight q pod (e ∷ h)

    g : List Entry
    g = before_tick q e.beat h

    by_same : before_tick q e.beat (e ∷ h) ≡ g → (b : Bool) → is_one_row now (last_sight q pod g) ≡ b → Begun q pod (e ∷ h)
    by_same beneath true one =
        let b = older g (before_tail q e.beat h) (one_self (last_sight q pod g) now (one_swap now (last_sight q pod g) one)) in
        record {
          at = b.at;
          is = row_goes_on q pod e.beat (e ∷ h) (ap (λ f. is_one_row now (last_sight q pod f)) beneath ∙ one) ∙ ap (row q pod) beneath ∙ b.is;
          one = one_alike now (last_sight q pod g) b.at.1 one ∙ b.one;
        }
    by_same beneath false out = record {
      at = (e.beat, now);
      is = row_anew q pod e.beat (e ∷ h) mine (ap (λ f. is_one_row now (last_sight q pod f)) beneath ∙ out);
      one = mine;
    }

    by_own : (own : Bool) → is_own_tick q e.actor e.fact ≡ own → Begun q pod (e ∷ h)
    by_own true own = by_same (ap (λ t. elim t [ true ↦ before_tick q e.beat h | false ↦ e ∷ h ]) (own_is_tick q e.beat e.actor e.fact own)) (is_one_row now (last_sight q pod g)) refl
    by_own false own =
        let same = foreign_last q pod e h own in
        let b = older h (tail_all h) (ap (λ b. is_one_row b b) (sym same) ∙ mine) in
        record {
          at = b.at;
          is = foreign_at q pod e h own now ∙ ap (λ b. row_at q pod b h) same ∙ b.is;
          one = ap (λ a. is_one_row a b.at.1) same ∙ b.one;
        }

begun_all : (q : Identity) (pod : Key) (h g : List Entry) → IsTail g h → is_one_row (last_sight q pod g) (last_sight q pod g) ≡ true → Begun q pod g
begun_all q pod [] g is one = absurd (true_is (sym (subst (λ g. is_one_row (last_sight q pod g) (last_sight q pod g) ≡ true) is one)))
begun_all q pod (e ∷ h) g (inl is) one = subst (Begun q pod) (sym is) (begun_more q pod e h (begun_all q pod h) (subst (λ g. is_one_row (last_sight q pod g) (last_sight q pod g) ≡ true) is one))
begun_all q pod (e ∷ h) g (inr at) one = begun_all q pod h g at one

-- ---- a row from one tick to the next, as it is kept

-- going is what was last seen as it was
same_row : (doc : Doc) (q : Identity) (k : ℕ) (pod : Key) (h : List Entry) → last_sight q pod h ≡ last_sight q pod (before_tick q k h) → row q pod h ≡ row q pod (before_tick q k h)
same_row doc q k pod h same = by_row (is_one_row now now) refl
  where
    now : Bears
    now = last_sight q pod h

    g : List Entry
    g = before_tick q k h

    by_row : (b : Bool) → is_one_row now now ≡ b → row q pod h ≡ row q pod g
    by_row true one = row_goes_on q pod k h (ap (is_one_row now) (sym same) ∙ one)
    by_row false out = row_none q pod now h out ∙ sym (ap (λ b. row_at q pod b g) (sym same) ∙ row_none q pod now g out)

rows_next : (doc : Doc) (q : Identity) (k : ℕ) (pod : Key) (h : List Entry) → (sight q pod h ≡ None → last_sight q pod h ≡ last_sight q pod (before_tick q k h))
    → row_of doc q pod h ≡ next_row (row_of doc q pod (before_tick q k h)) (sight q pod h) (wall doc q.process k)
rows_next doc q k pod h kept = by_sight (sight q pod h) refl
  where
    g : List Entry
    g = before_tick q k h

    now : ℕ
    now = wall doc q.process k

    was : Bears
    was = last_sight q pod g

    -- where the pod has to go as it had before
    goes : (b : Bears) → last_sight q pod h ≡ b → is_one_row b was ≡ true → (going : Going) → ((x : ℕ × Bears) → is_one_row was x.1 ≡ true → is_same_going (going_of x.1) going ≡ true) → (due : ℕ)
        → row_of doc q pod h ≡ goes_on (row_of doc q pod g) going due
    goes b is one going same due =
        let begun = begun_all q pod g g (tail_all g) (one_self was b (one_swap b was one)) in
        ap (row_from doc q) (row_goes_on q pod k h (ap (λ c. is_one_row c was) is ∙ one) ∙ begun.is)
        ∙ sym (ap (λ o. goes_on (row_from doc q o) going due) begun.is ∙ ap (λ c. cond c (row_from doc q (Some begun.at)) (Some (record { going = going; due = due }))) (same begun.at begun.one))

    -- where it didn't
    begins : (b : Bears) → last_sight q pod h ≡ b → is_one_row b b ≡ true → is_one_row b was ≡ false
        → ((x : ℕ × Bears) → row q pod g ≡ Some x → is_same_going (going_of x.1) (going_of b) ≡ false)
        → row_of doc q pod h ≡ goes_on (row_of doc q pod g) (going_of b) (now + micros_of b)
    begins b is self out other = ap (row_from doc q) (row_anew q pod k h (ap (λ c. is_one_row c c) is ∙ self) (ap (λ c. is_one_row c was) is ∙ out) ∙ ap (λ c. Some (k, c)) is) ∙ sym (by_old (row q pod g) refl)
      where
        by_old : (o : Option (ℕ × Bears)) → row q pod g ≡ o → goes_on (row_of doc q pod g) (going_of b) (now + micros_of b) ≡ Some (record { going = going_of b; due = now + micros_of b })
        by_old None is = ap (λ o. goes_on (row_from doc q o) (going_of b) (now + micros_of b)) is
        by_old (Some x) is =
            ap (λ o. goes_on (row_from doc q o) (going_of b) (now + micros_of b)) is
            ∙ ap (λ c. cond c (row_from doc q (Some x)) (Some (record { going = going_of b; due = now + micros_of b }))) (other x is)

    -- the kind of a row that is kept is that of what was last seen then
    kinds : (x : ℕ × Bears) → row q pod g ≡ Some x → is_one_row was x.1 ≡ true
    kinds x is = by_row (is_one_row was was) refl
      where
        by_row : (b : Bool) → is_one_row was was ≡ b → is_one_row was x.1 ≡ true
        by_row false out = absurd (none_is x (sym (row_none q pod was g out) ∙ is))
        by_row true one =
            let begun = begun_all q pod g g (tail_all g) one in
            subst (λ y. is_one_row was y.1 ≡ true) (some_is begun.at x (sym begun.is ∙ is)) begun.one

    going_now : (a b : Bears) → is_one_row a NotAtAll ≡ true → is_one_row a b ≡ true → is_same_going (going_of b) Now ≡ true
    going_now NotAtAll NotAtAll one same = refl
    going_now NotAtAll Untainted one same = absurd (true_is (sym same))
    going_now NotAtAll Ever one same = absurd (true_is (sym same))
    going_now NotAtAll (For m) one same = absurd (true_is (sym same))
    going_now Untainted b one same = absurd (true_is (sym one))
    going_now Ever b one same = absurd (true_is (sym one))
    going_now (For m) b one same = absurd (true_is (sym one))

    not_now : (a b : Bears) → is_one_row NotAtAll a ≡ false → is_one_row a b ≡ true → is_same_going (going_of b) Now ≡ false
    not_now NotAtAll b out same = absurd (true_is out)
    not_now (For m) (For n) out same = refl
    not_now (For m) Untainted out same = absurd (true_is (sym same))
    not_now (For m) NotAtAll out same = absurd (true_is (sym same))
    not_now (For m) Ever out same = absurd (true_is (sym same))
    not_now Untainted b out same = absurd (true_is (sym same))
    not_now Ever b out same = absurd (true_is (sym same))

    going_after : (m : ℕ) (a b : Bears) → is_one_row (For m) a ≡ true → is_one_row a b ≡ true → is_same_going (going_of b) After ≡ true
    going_after m (For n) (For o) one same = refl
    going_after m (For n) Untainted one same = absurd (true_is (sym same))
    going_after m (For n) NotAtAll one same = absurd (true_is (sym same))
    going_after m (For n) Ever one same = absurd (true_is (sym same))
    going_after m Untainted b one same = absurd (true_is (sym one))
    going_after m Ever b one same = absurd (true_is (sym one))
    going_after m NotAtAll b one same = absurd (true_is (sym one))

    not_after : (m : ℕ) (a b : Bears) → is_one_row (For m) a ≡ false → is_one_row a b ≡ true → is_same_going (going_of b) After ≡ false
    not_after m (For n) b out same = absurd (true_is out)
    not_after m NotAtAll NotAtAll out same = refl
    not_after m NotAtAll Untainted out same = absurd (true_is (sym same))
    not_after m NotAtAll Ever out same = absurd (true_is (sym same))
    not_after m NotAtAll (For n) out same = absurd (true_is (sym same))
    not_after m Untainted b out same = absurd (true_is (sym same))
    not_after m Ever b out same = absurd (true_is (sym same))

    at_all : (b : Bool) → is_one_row NotAtAll was ≡ b → last_sight q pod h ≡ NotAtAll → row_of doc q pod h ≡ goes_on (row_of doc q pod g) Now now
    at_all true one is = goes NotAtAll is one Now (λ x same. going_now was x.1 (one_swap NotAtAll was one) same) now
    at_all false out is =
        begins NotAtAll is refl out (λ x there. not_now was x.1 out (kinds x there))
        ∙ ap (goes_on (row_of doc q pod g) Now) (let none : now + 0 ≡ now = omega arith in none)

    for_some : (m : ℕ) (b : Bool) → is_one_row (For m) was ≡ b → last_sight q pod h ≡ For m → row_of doc q pod h ≡ goes_on (row_of doc q pod g) After (now + m)
    for_some m true one is = goes (For m) is one After (λ x same. going_after m was x.1 one same) (now + m)
    for_some m false out is = begins (For m) is refl out (λ x there. not_after m was x.1 out (kinds x there))

    by_bears : (b : Bears) → sight q pod h ≡ Some b → last_sight q pod h ≡ b → row_of doc q pod h ≡ next_row (row_of doc q pod g) (Some b) now
    by_bears Untainted is last = ap (λ b. row_from doc q (row_at q pod b h)) last
    by_bears Ever is last = ap (λ b. row_from doc q (row_at q pod b h)) last
    by_bears NotAtAll is last = at_all (is_one_row NotAtAll was) refl last
    by_bears (For m) is last = for_some m (is_one_row (For m) was) refl last

    by_sight : (o : Option Bears) → sight q pod h ≡ o → row_of doc q pod h ≡ next_row (row_of doc q pod g) o now
    by_sight None is = ap (row_from doc q) (same_row doc q k pod h (kept is))
    by_sight (Some b) is = by_bears b is (sight_last q pod h b is)

-- ---- the rows of all pods, one after the other

module _ (doc : Doc) (k : ℕ) (q : Identity) (h : List Entry) where
  -- a pod that is seen as before the tick has its row as before it
  pub row_alike : (pod : Key) → IsSightKept q k h → IsAlike q (before_tick q k h) h pod → row q pod h ≡ row q pod (before_tick q k h)
  row_alike pod kept a = same_row doc q k pod h (by_sight (sight q pod h) refl a.sees)
    where
      by_sight : (o : Option Bears) → sight q pod h ≡ o → KeepsSight (sight q pod (before_tick q k h)) o → last_sight q pod h ≡ last_sight q pod (before_tick q k h)
      by_sight None is was = kept pod is
      by_sight (Some b) is was = sight_last q pod h b is ∙ sym (sight_last q pod (before_tick q k h) b was)

  sighted_there : (b : Bool) (x y : Option (Version × Pod)) (due : Due) → has x ≡ has y → sighted_as b x due ≡ sighted_as b y due
  sighted_there true x y due same = refl
  sighted_there false None None due same = refl
  sighted_there false (Some x) (Some y) due same = refl
  sighted_there false None (Some y) due same = absurd (true_is (sym same))
  sighted_there false (Some x) None due same = absurd (true_is same)

  pub due_alike : (pod : Key) → IsSightKept q k h → IsAlike q (before_tick q k h) h pod → due_by evictions.Seen doc q pod h ≡ due_by evictions.Seen doc q pod (before_tick q k h)
  due_alike pod kept a =
      ap (λ b. sighted_as b (seen_pod q pod h) (sighted_due doc q pod h)) a.undue
      ∙ sighted_there (is_undue q pod (before_tick q k h)) (seen_pod q pod h) (seen_pod q pod (before_tick q k h)) (sighted_due doc q pod h) a.there
      ∙ ap (λ o. sighted_as (is_undue q pod (before_tick q k h)) (seen_pod q pod (before_tick q k h)) (due_in_row doc q o)) (row_alike pod kept a)

  -- a pod that isn't seen has no row
  pub unseen_row : (pod : Key) → seen_pod q pod h ≡ None → row q pod h ≡ None
  unseen_row pod none = ap (λ b. row_at q pod b h) (sight_last q pod h Untainted (ap (λ o. sighted_pod q o h) none))

  pub row_due : (pod : Key) → due_of_row (row_of doc q pod h) ≡ sighted_due doc q pod h
  row_due pod = by_row (row q pod h)
    where
      by_row : (o : Option (ℕ × Bears)) → due_of_row (row_from doc q o) ≡ due_in_row doc q o
      by_row None = refl
      by_row (Some x) = refl

  -- when a pod is due by the row that it has
  pub due_settled : HaveKinds q h → (pod : Key) → due_if_fresh (is_stale q pod h) (row_of doc q pod h) ≡ due_by evictions.Seen doc q pod h
  due_settled kinds pod = by_pod (seen_pod q pod h) refl (kinds.pods pod)
    where
      never : (b : Bool) → due_if_fresh b None ≡ Never
      never true = refl
      never false = refl

      unseen : (b : Bool) (due : Due) → Never ≡ sighted_as b None due
      unseen true due = refl
      unseen false due = refl

      by_stale : (x : Version × Pod) → (b : Bool) → due_if_fresh b (row_of doc q pod h) ≡ sighted_as b (Some x) (sighted_due doc q pod h)
      by_stale x true = refl
      by_stale x false = row_due pod

      by_pod : (o : Option (Version × Pod)) → seen_pod q pod h ≡ o → (has o ≡ true → is_pod pod.kind ≡ true) → due_if_fresh (is_stale q pod h) (row_of doc q pod h) ≡ due_by evictions.Seen doc q pod h
      by_pod None sees kind =
          ap (λ o. due_if_fresh (is_stale q pod h) (row_from doc q o)) (unseen_row pod sees)
          ∙ never (is_stale q pod h)
          ∙ unseen (is_undue q pod h) (sighted_due doc q pod h)
          ∙ ap (λ o. sighted_as (is_undue q pod h) o (sighted_due doc q pod h)) (sym sees)
      by_pod (Some x) sees kind =
          by_stale x (is_stale q pod h)
          ∙ ap (λ b. sighted_as (not b || is_stale q pod h) (Some x) (sighted_due doc q pod h)) (sym (kind refl))
          ∙ ap (λ o. sighted_as (is_undue q pod h) o (sighted_due doc q pod h)) (sym sees)

  -- the touched pods have their rows from before the tick, and all others as they are now
  pub record Settling (c : Cluster) : Type 0 where
    pub done : (key : Key) → has_touched c key ≡ false → (row_in c.rows key ≡ row_of doc q key h) × (due_in c.dues key ≡ due_by evictions.Seen doc q key h)
    pub todo : (key : Key) → has_touched c key ≡ true → row_in c.rows key ≡ row_of doc q key (before_tick q k h)

  pub begin_settling : (c : Cluster) → IsSightKept q k h → AreSighted doc k q h c → Settling c
  begin_settling c kept s = record {
    done = λ key out. (
      s.before.rows key ∙ ap (row_from doc q) (sym (row_alike key kept (s.touched key out))),
      s.before.dues key refl ∙ sym (due_alike key kept (s.touched key out)),
    );
    todo = λ key there. s.before.rows key;
  }

  pub next_settling : (pod : Key) (row : Option Row) (old popped new : Cluster) → HaveKinds q h → IsSightKept q k h
      → has_touched old pod ≡ true → ((key : Key) → has_touched popped key ≡ cond (key_eq pod key) false (has_touched old key))
      → ((key : Key) → row_in popped.rows key ≡ row_in old.rows key) → ((key : Key) → due_in popped.dues key ≡ due_in old.dues key) → stale_in popped.cache pod ≡ is_stale q pod h
      → row ≡ next_row (row_in old.rows pod) (sight q pod h) (wall doc q.process k) → SetsRow pod row popped new → Settling old → Settling new
  next_settling pod row old popped new kinds kept there has rows dues stale is sets s = record {
    done = λ key out.
        let both = by_test key (key_eq pod key) refl (sym (has key) ∙ sym (sets.touched key) ∙ out) in
        (sets.rows key ∙ ap (cond (key_eq pod key) row) (rows key) ∙ both.0, sets.dues key ∙ ap (cond (key_eq pod key) (due_if_fresh (stale_in popped.cache pod) row)) (dues key) ∙ both.1);
    todo = λ key more. by_todo key (key_eq pod key) refl (sym (has key) ∙ sym (sets.touched key) ∙ more);
  }
    where
      row_is : row ≡ row_of doc q pod h
      row_is = is ∙ ap (λ r. next_row r (sight q pod h) (wall doc q.process k)) (s.todo pod there) ∙ sym (rows_next doc q k pod h (kept pod))

      due_is : due_if_fresh (stale_in popped.cache pod) row ≡ due_by evictions.Seen doc q pod h
      due_is = ap (λ b. due_if_fresh b row) stale ∙ ap (due_if_fresh (is_stale q pod h)) row_is ∙ due_settled kinds pod

      by_test : (key : Key) (b : Bool) → key_eq pod key ≡ b → cond b false (has_touched old key) ≡ false
          → (cond b row (row_in old.rows key) ≡ row_of doc q key h) × (cond b (due_if_fresh (stale_in popped.cache pod) row) (due_in old.dues key) ≡ due_by evictions.Seen doc q key h)
      by_test key true same out = (row_is ∙ ap (λ p. row_of doc q p h) (same_key pod key same), due_is ∙ ap (λ p. due_by evictions.Seen doc q p h) (same_key pod key same))
      by_test key false apart out = s.done key out

      by_todo : (key : Key) (b : Bool) → key_eq pod key ≡ b → cond b false (has_touched old key) ≡ true → row_in new.rows key ≡ row_of doc q key (before_tick q k h)
      by_todo key true same more = absurd (false_is more)
      by_todo key false apart more = sets.rows key ∙ ap (λ b. cond b row (row_in popped.rows key)) apart ∙ rows key ∙ s.todo key more

-- ---- the touched pods themselves

pub no_keys : (touched : BTreeSet Key) → btree_set_len touched ≡ 0 → (key : Key) → contains key_cmp touched key ≡ false
no_keys touched none key = by_keys touched.keys none
  where
    by_keys : (keys : List Key) → length keys ≡ 0 → list_any (is_at (key_cmp key)) keys ≡ false
    by_keys [] none = refl
    by_keys (k ∷ ks) none = absurd (omega (arith, none))

-- they are no part of what stands for a history
abbrev pub with_touched : Cluster → BTreeSet Key → Cluster
with_touched c touched = record c { touched = touched }

pub touched_aside : (q : Identity) (h : List Entry) (nodes : ℕ → Bool) (pods : Key → Bool) (c : Cluster) (touched : BTreeSet Key) → ClusterBut q h nodes pods c → ClusterBut q h nodes pods (with_touched c touched)
touched_aside q h nodes pods c touched s = record { cache = s.cache; mode = s.mode; unclean = s.unclean; dues = s.dues; kinds = s.kinds }

pub empty_len : (touched : BTreeSet Key) → (0 < btree_set_len touched → ⊥) → btree_set_len touched ≡ 0
empty_len touched none = by_keys touched.keys none
  where
    by_keys : (keys : List Key) → (0 < length keys → ⊥) → length keys ≡ 0
    by_keys [] none = refl
    by_keys (k ∷ ks) none = absurd (none (omega arith))

pub end_settling : (doc : Doc) (k : ℕ) (q : Identity) (h : List Entry) (c : Cluster) (touched : BTreeSet Key) → btree_set_len c.touched ≡ 0 → btree_set_len touched ≡ 0 → Settling doc k q h c
    → AreRowsSettled doc q h no_pod (with_touched c touched)
end_settling doc k q h c touched before after s = record {
  sights = record { rows = λ key. (s.done key (no_keys c.touched before key)).0; dues = λ key out. (s.done key (no_keys c.touched before key)).1 };
  none = no_keys touched after;
}

pub for_rule : (P : Type 0) (rule : EvictRule) → (rule ≡ evictions.Added → P) → (rule ≡ evictions.Seen → P) → P
for_rule P evictions.Added added seen = added refl
for_rule P evictions.Seen added seen = seen refl

-- a pod that isn't seen isn't due
pub unseen_quiet : (now : ℕ) (b : Bool) (due : Due) → is_by_now now (sighted_as b None due) ≡ false
unseen_quiet now true due = refl
unseen_quiet now false due = refl

-- ---- how long a pod bears its node's taints

pub unseen_sight : (q : Identity) (pod : Key) (h : List Entry) → seen_pod q pod h ≡ None → sight q pod h ≡ Some Untainted
unseen_sight q pod h none = ap (λ o. sighted_pod q o h) none

pub unplaced_sight : (q : Identity) (pod : Key) (h : List Entry) (x : Version × Pod) → seen_pod q pod h ≡ Some x → seen_node q x.1.node h ≡ None → sight q pod h ≡ None
unplaced_sight q pod h x sees none = ap (λ o. sighted_pod q o h) sees ∙ ap (bears_on x.1) none

pub placed_sight : (q : Identity) (pod : Key) (h : List Entry) (x : Version × Pod) (y : Version × Node) → seen_pod q pod h ≡ Some x → seen_node q x.1.node h ≡ Some y
    → sight q pod h ≡ Some (bears x.1.tolerations y.1.taints)
placed_sight q pod h x y sees sees_node = ap (λ o. sighted_pod q o h) sees ∙ ap (bears_on x.1) sees_node

pub in_reach : (b : Bears) → IsBounded b → IsInReach (Some b)
in_reach Untainted bounded = tt
in_reach NotAtAll bounded = tt
in_reach Ever bounded = tt
in_reach (For micros) bounded = bounded

-- ---- dues by either rule

pub dues_stand : (rule : EvictRule) (doc : Doc) (q : Identity) (h : List Entry) (nodes : ℕ → Bool) (pods : Key → Bool) (c : Cluster) → c.evict_from ≡ rule → ClusterBut q h nodes pods c → SettledBy rule doc q h pods c
    → (key : Key) → pods key ≡ false → due_in c.dues key ≡ due_by rule doc q key h
dues_stand evictions.Added doc q h nodes pods c is s rows key out = s.dues key out is
dues_stand evictions.Seen doc q h nodes pods c is s rows key out = rows.sights.dues key out

-- a term that begins has seen nothing
pub new_settled : (rule : EvictRule) (doc : Doc) (q : Identity) (h : List Entry) (c : Cluster) → ((key : Key) → seen_pod q key h ≡ None) → ((key : Key) → row_in c.rows key ≡ None)
    → ((key : Key) → due_in c.dues key ≡ Never) → ((key : Key) → has_touched c key ≡ false) → SettledBy rule doc q h no_pod c
new_settled evictions.Added doc q h c unseen rows never none = none
new_settled evictions.Seen doc q h c unseen rows never none = record {
  sights = record {
    rows = λ key. rows key ∙ ap (row_from doc q) (sym (unseen_row doc 0 q h key (unseen key)));
    dues = λ key out. never key ∙ by_undue key (is_undue q key h) ∙ ap (λ o. sighted_as (is_undue q key h) o (sighted_due doc q key h)) (sym (unseen key));
  };
  none = none;
}
  where
    by_undue : (key : Key) (b : Bool) → Never ≡ sighted_as b None (sighted_due doc q key h)
    by_undue key true = refl
    by_undue key false = refl
