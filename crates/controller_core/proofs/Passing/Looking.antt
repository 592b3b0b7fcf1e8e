-- The nodes that a pass looks at, one after the other.
use Rattle.std.proofs.Common.{◌≡◌, ◌∙◌, ◌==◌, ◌&&◌, ◌||◌, ℕ, not, Bool, true, false, cond, List, [], ◌∷◌, Option, Some, None, refl, sym, ap, subst, arith, Less}
use Rattle.std.proofs.lemmas.Bool.Decides.{nat_tests}
use Rattle.std.specs.Ordering.{nat_cmp}
use Rattle.kube_base.specs.declared.numbers.Version.{Version}
use Rattle.kube_objects.specs.declared.deed.Deed.{Deed}
use Rattle.kube_objects.specs.declared.lease.Lease.{Lease}
use Rattle.kube_objects.specs.declared.node.Node.{Node}
use Rattle.kube_objects.specs.declared.node.Ready.{Ready}
use Rattle.kube_objects.specs.declared.rules.ProbeRule.{ProbeRule}
use Rattle.kube_objects.specs.declared.rules.ProbeRule.TheVariants as probe_words
use Rattle.kube_objects.specs.Clocks.{local, wall, whole_second}
use Rattle.kube_objects.specs.Document.{Doc}
use Rattle.kube_objects.specs.Entry.{Entry, Identity, Mark, Pass}
use Rattle.kube_objects.specs.Health.{is_silent, is_unknown, lease_of, mark_of, marked, ready_heartbeat, with_mark}
use Rattle.kube_objects.specs.Newest.{has, when}
use Rattle.kube_objects.specs.Answers.{lease_in}
use Rattle.kube_objects.specs.Seen.{seen_lease, seen_node}
use Rattle.kube_objects.specs.Stored.{node_lease}
use Rattle.kube_objects.specs.Tick.{add, for_each, mark_as, mark_seen, mark, marks}
use Rattle.kube_objects.specs.Tries.{try_node}
use Rattle.history.specs.Printed.{reason_in}
use Rattle.history_laws.proofs.Plainly.{false_is, true_is}
use Rattle.node_health.specs.declared.grace.Grace.{Grace}
use Rattle.node_health.specs.declared.health.Health.{Health}
use Rattle.node_health.specs.declared.verdict.Verdict.TheVariants.{Keep, MarkUnknown}
use Rattle.node_health.specs.declared.known.Known.{Known}
use Rattle.node_health.specs.Kept.{heartbeat_in, is_listed, verdict_of}
use Rattle.node_health.specs.Recorded.{after_seen}
use Rattle.node_health.specs.Stands.{HealthStands, IsGraceOf, IsLook, IsNoted, and_looked}
use Rattle.node_health.proofs.Frames.{alike-same, pass-same}
use Rattle.object_store.specs.declared.store.Store.{Store}
use Rattle.term_state.specs.MidTick.{IsView, MidTick}
use Rattle.term_state.specs.declared.cluster.Cluster.{Cluster}
use Rattle.term_state.specs.declared.told.Told.{Told}
use Rattle.term_state.specs.declared.view.View.{View}
use Rattle.term_state.specs.declared.writes.NodeWrite.TheVariants as write
use Rattle.term_state.specs.Writes.{IsWrite}
use Rattle.term_state.proofs.Widen.{and_not}
use Rattle.controller_core.specs.Passing.{IsPassing}
use Rattle.controller_core.specs.Working.{HavePassCost, WritesStand}
use Rattle.controller_core.specs.declared.pass.work.PodWrites.{PodWrites}
use Rattle.controller_core.proofs.Passing.Listed.{listed_first, listed_later}
use Rattle.controller_core.proofs.Passing.Marks.{mark_view, mark_write}
use Rattle.controller_core.proofs.Passing.Working.{pods_begun}
use Rattle.tick_laws.specs.Walks.{Above, Ascends}
use Rattle.tick_laws.proofs.Frames.{kept_node, pass_change}
use Rattle.tick_laws.proofs.Marking.{lease_shown, mark_others, marks_of_seen, names_ascend}
use Rattle.watch_cache.specs.Kept.{of_kind}
use Rattle.watch_cache.specs.Told.{AreNamed}

-- ---- the verdict is the mark

module _ (doc : Doc) (k : ℕ) (q : Identity) (name : ℕ) (node : Node) (now : List Entry) where
  pub keep_none : Keep ≡ verdict_of (mark_of doc q k name node now) → mark_of doc q k name node now ≡ None
  keep_none is = by_test (not (is_unknown node.ready) && is_silent doc q k name node.ready now) is
    where
      by_test : (b : Bool) → Keep ≡ verdict_of (when b (with_mark (whole_second (wall doc q.process k)) node)) → when b (with_mark (whole_second (wall doc q.process k)) node) ≡ None
      by_test true is = absurd (cc)
      by_test false is = refl

  pub mark_some : (reason : ℕ) → MarkUnknown reason ≡ verdict_of (mark_of doc q k name node now)
      → (mark_of doc q k name node now ≡ Some (with_mark (whole_second (wall doc q.process k)) node)) × (reason ≡ (marked (whole_second (wall doc q.process k)) node.ready).reason)
  mark_some reason is = by_test (not (is_unknown node.ready) && is_silent doc q k name node.ready now) is
    where
      same_reason : (a b : ℕ) → MarkUnknown a ≡ MarkUnknown b → a ≡ b
      same_reason a b is = cc

      by_test : (b : Bool) → MarkUnknown reason ≡ verdict_of (when b (with_mark (whole_second (wall doc q.process k)) node))
          → (when b (with_mark (whole_second (wall doc q.process k)) node) ≡ Some (with_mark (whole_second (wall doc q.process k)) node)) × (reason ≡ (marked (whole_second (wall doc q.process k)) node.ready).reason)
      by_test true is = (refl, same_reason reason (marked (whole_second (wall doc q.process k)) node.ready).reason is)
      by_test false is = absurd (cc)

-- the mark of a node that is seen so
pub mark_is : (doc : Doc) (k : ℕ) (q : Identity) (name : ℕ) (now : List Entry) (x : Version × Node) (o : Option Node) → seen_node q name now ≡ Some x → mark_of doc q k name x.1 now ≡ o
    → mark doc k q name now ≡ mark_as k q name x.0 o now
mark_is doc k q name now x o sees is = ap (λ y. mark_seen doc k q name y now) sees ∙ ap (λ y. mark_as k q name x.0 y now) is

-- what a look is handed
pub look_is : (doc : Doc) (k : ℕ) (q : Identity) (before : List Deed) (h now : List Entry) (looked : ℕ → Bool) (c : Cluster) (x : Health) (s : Store) (t : Told) (name : ℕ) (given : Version) (node : Node)
    (leased : Option Lease) (at : ℕ) (grace : Grace) → IsPassing doc k q before h now looked c x s t → looked name ≡ false → Some (given, node) ≡ seen_node q name now
    → seen_node q name now ≡ seen_node q name h → leased ≡ lease_of (seen_lease q name now) → at ≡ local doc q.process k → IsGraceOf doc grace
    → IsLook doc k q h now name node leased at grace
look_is doc k q before h now looked c x s t name given node leased at grace p new sees same lease reading graces =
    record { version = given; shown = sym (sees ∙ same); lease = sym (lease ∙ p.leases name); reading = reading; graces = graces; alike = p.alike name new }

-- one more is among the looked ones
pub looked_itself : (n : ℕ) (looked : ℕ → Bool) → and_looked n looked n ≡ true
looked_itself n looked = ap (λ b. b || looked n) (let itself : (n == n) ≡ true = grind (arith, nat_tests) in itself)

-- what a mark of a node that was looked at notes, by the record
pub noted_by : (q : Identity) (name : ℕ) (now : List Entry) (node written : Node) (lease : Option Lease) (rule : ProbeRule) (old new : Option Known) (at second : ℕ)
    → new ≡ cond (name == name) (Some (after_seen rule old node.ready lease at)) old → written ≡ with_mark second node
    → lease_of (seen_lease q name now) ≡ lease → rule ≡ probe_words.Record → IsNoted q now name written lease new
noted_by q name now node written lease rule old new at second keeps is leased by_record =
    record {
      there = ap has looked;
      ready = ap (λ (w : Node). has w.ready) is;
      heartbeat = ap heartbeat_in looked ∙ by_ready node.ready ∙ sym (ap (λ (w : Node). ready_heartbeat w.ready) is);
      lease = leased;
    }
  where
    looked : new ≡ Some (after_seen probe_words.Record old node.ready lease at)
    looked =
        keeps
        ∙ ap (λ b. cond b (Some (after_seen rule old node.ready lease at)) old) (let itself : (name == name) ≡ true = grind (arith, nat_tests) in itself)
        ∙ ap (λ r. Some (after_seen r old node.ready lease at)) by_record

    by_ready : (r : Option Ready) → ready_heartbeat r ≡ ready_heartbeat (Some (marked second r))
    by_ready None = refl
    by_ready (Some r) = refl

-- the entry that a mark adds, and the write that it is
pub record MarksBy (doc : Doc) (k : ℕ) (q : Identity) (now : List Entry) (name : ℕ) (given : Version) (written : Node) (reason : ℕ) : Type 0 where
  pub adds : add k q (Mark name given written (try_node q name given now)) now ≡ mark doc k q name now
  pub is : IsWrite (write.Mark reason) name written (try_node q name given now) (Mark name given written (try_node q name given now))

pub marks_by : (doc : Doc) (k : ℕ) (q : Identity) (before : List Deed) (h now : List Entry) (looked : ℕ → Bool) (c : Cluster) (x : Health) (s : Store) (t : Told) (name : ℕ) (given : Version)
    (node written : Node) (reason second at : ℕ) → IsPassing doc k q before h now looked c x s t → Some (given, node) ≡ seen_node q name now
    → MarkUnknown reason ≡ verdict_of (mark_of doc q k name node now) → at ≡ wall doc q.process k → second ≡ whole_second at → written ≡ with_mark second node
    → MarksBy doc k q now name given written reason
marks_by doc k q before h now looked c x s t name given node written reason second at p sees says time second_is written_is =
    let found = mark_some doc k q name node now reason says in
    let is : written ≡ with_mark (whole_second (wall doc q.process k)) node = written_is ∙ ap (λ n. with_mark n node) (second_is ∙ ap whole_second time) in
    record {
      adds = sym (mark_is doc k q name now (given, node) (Some (with_mark (whole_second (wall doc q.process k)) node)) (sym sees) found.0 ∙ ap (λ w. mark_as k q name given (Some w) now) (sym is));
      is = mark_write name given written reason (try_node q name given now) (found.1 ∙ ap (λ w. reason_in w.ready) (sym is));
    }

-- ---- the loop

-- the names in a list that aren't left
abbrev pub looked_of : List ℕ → List ℕ → ℕ → Bool
looked_of names rest n = is_listed names n && not (is_listed rest n)

-- now has the marks of the nodes before the rest
pub record Looking (doc : Doc) (k : ℕ) (q : Identity) (before : List Deed) (h : List Entry) (names rest : List ℕ) (v : View) (c : Cluster) (x : Health) (s : Store) (t : Told) (w : PodWrites) (old new : ℕ) : Type 0 where
  pub now : List Entry
  pub passing : IsPassing doc k q before h now (looked_of names rest) c x s t
  pub view : IsView doc k q now v
  pub follows : for_each (mark doc k q) rest now ≡ marks doc k q (add k q Pass h)
  pub ascends : Ascends nat_cmp rest
  pub within : (n : ℕ) → is_listed rest n ≡ true → is_listed names n ≡ true
  pub seen : (n : ℕ) → is_listed rest n ≡ true → has (seen_node q n h) ≡ true
  pub untouched : (n : ℕ) → is_listed rest n ≡ true → seen_node q n now ≡ seen_node q n h
  pub writes : WritesStand doc q h now w
  pub cost : HavePassCost doc q k h (add k q Pass h) now old new

-- ---- its beginning

passed_seen : (q : Identity) (k : ℕ) (h : List Entry) (n : ℕ) → seen_node q n (add k q Pass h) ≡ seen_node q n h
passed_seen q k h n = kept_node q h (add k q Pass h) None (pass_change q k h) n

pub passed_lease : (q : Identity) (k : ℕ) (h : List Entry) (n : ℕ) → lease_of (seen_lease q n (add k q Pass h)) ≡ lease_of (seen_lease q n h)
passed_lease q k h n = ap lease_of (sym (lease_shown q n (add k q Pass h)) ∙ ap (of_kind lease_in) ((pass_change q k h).shown (node_lease n)) ∙ lease_shown q n h)

pub named_passed : (q : Identity) (k : ℕ) (h : List Entry) (names : List ℕ) → AreNamed (λ n. has (seen_node q n h)) names → AreNamed (λ n. has (seen_node q n (add k q Pass h))) names
named_passed q k h names s = record { ascend = s.ascend; named = λ n. s.named n ∙ ap has (sym (passed_seen q k h n)) }

pub begin_looking : (doc : Doc) (k : ℕ) (q : Identity) (before : List Deed) (h : List Entry) (names : List ℕ) (v : View) (c : Cluster) (x : Health) (s : Store) (t : Told) (w : PodWrites) (old : ℕ)
    → MidTick doc q k before (add k q Pass h) c s t → HealthStands doc q h x → IsView doc k q (add k q Pass h) v → AreNamed (λ n. has (seen_node q n h)) names → WritesStand doc q h (add k q Pass h) w
    → Looking doc k q before h names names v c x s t w old old
begin_looking doc k q before h names v c x s t w old running health view are writes =
    record {
      now = add k q Pass h;
      passing = record {
        running = running;
        health = pass-same doc q h (add k q Pass h) (λ n. false) (looked_of names names) x (λ n. sym (and_not (is_listed names n))) (record { rule = health.rule; nodes = health.nodes });
        leases = passed_lease q k h;
        pods = pods_begun q k h;
        alike = λ name out. alike-same q name (add k q Pass h);
      };
      view = view;
      follows = sym (marks_of_seen doc k q (add k q Pass h) names (named_passed q k h names are));
      ascends = names_ascend names are.ascend;
      within = λ n is. is;
      seen = λ n is. sym (are.named n) ∙ is;
      untouched = λ n is. passed_seen q k h n;
      writes = writes;
      cost = omega arith;
    }

-- ---- one node more

pub listed_apart : (n m : ℕ) (xs : List ℕ) → Above nat_cmp n xs → is_listed xs m ≡ true → (n == m) ≡ false
listed_apart n m [] all there = absurd (false_is there)
listed_apart n m (x ∷ xs) all there = by_test (x == m) refl there (listed_apart n m xs all.1)
  where
    by_test : (b : Bool) → (x == m) ≡ b → (b || is_listed xs m) ≡ true → (is_listed xs m ≡ true → (n == m) ≡ false) → (n == m) ≡ false
    by_test true same now further = let less : nat_cmp n x ≡ Less = all.0 in grind (arith, nat_tests, same, less)
    by_test false same now further = further now

-- the first of the rest wasn't looked at yet
pub first_new : (names : List ℕ) (n : ℕ) (ns : List ℕ) → looked_of names (n ∷ ns) n ≡ false
first_new names n ns = ap (λ b. is_listed names n && not b) (listed_first n ns) ∙ and_false (is_listed names n)
  where
    and_false : (b : Bool) → (b && false) ≡ false
    and_false true = refl
    and_false false = refl

looked_next : (names : List ℕ) (n : ℕ) (ns : List ℕ) → Above nat_cmp n ns → ((m : ℕ) → is_listed (n ∷ ns) m ≡ true → is_listed names m ≡ true) → (m : ℕ) → and_looked n (looked_of names (n ∷ ns)) m ≡ looked_of names ns m
looked_next names n ns above within m = by_name (n == m) refl (is_listed ns m) refl
  where
    by_name : (b : Bool) → (n == m) ≡ b → (later : Bool) → is_listed ns m ≡ later → (b || (is_listed names m && not (b || later))) ≡ (is_listed names m && not later)
    by_name true same true there = absurd (true_is (sym same ∙ listed_apart n m ns above there))
    by_name true same false there = sym (ap (λ b. b && true) (within m (ap (λ b. b || is_listed ns m) same)))
    by_name false same later there = refl

pub next_looking : (doc : Doc) (k : ℕ) (q : Identity) (before : List Deed) (h : List Entry) (names all ns : List ℕ) (n : ℕ) (v : View) (c d : Cluster) (x y : Health) (s r : Store) (t u : Told) (w z : PodWrites) (old mid new : ℕ)
    → all ≡ n ∷ ns → (l : Looking doc k q before h names all v c x s t w old mid)
    → IsPassing doc k q before h (mark doc k q n l.now) (and_looked n (looked_of names all)) d y r u → WritesStand doc q h (mark doc k q n l.now) z
    → HavePassCost doc q k h l.now (mark doc k q n l.now) mid new
    → Looking doc k q before h names ns v d y r u z old new
next_looking doc k q before h names all ns n v c d x y s r t u w z old mid new is l passing writes cost =
    record {
      now = mark doc k q n l.now;
      passing = record {
        running = passing.running;
        health = pass-same doc q h (mark doc k q n l.now) (and_looked n (looked_of names all)) (looked_of names ns) y (λ m. ap (λ xs. and_looked n (looked_of names xs) m) is ∙ looked_next names n ns ascends.0 within m) passing.health;
        leases = passing.leases;
        pods = passing.pods;
        alike = λ m out. passing.alike m (ap (λ xs. and_looked n (looked_of names xs) m) is ∙ looked_next names n ns ascends.0 within m ∙ out);
      };
      view = mark_view doc k q n l.now v l.view;
      follows = ap (λ xs. for_each (mark doc k q) xs l.now) (sym is) ∙ l.follows;
      ascends = ascends.1;
      within = λ m there. within m (listed_later n m ns there);
      seen = λ m there. l.seen m (listed m there);
      untouched = λ m there. mark_others doc k q n m l.now (listed_apart n m ns ascends.0 there) ∙ l.untouched m (listed m there);
      writes = writes;
      cost = omega (arith, l.cost, cost);
    }
  where
    ascends : Ascends nat_cmp (n ∷ ns)
    ascends = subst (Ascends nat_cmp) is l.ascends

    listed : (m : ℕ) → is_listed ns m ≡ true → is_listed all m ≡ true
    listed m there = ap (λ xs. is_listed xs m) is ∙ listed_later n m ns there

    within : (m : ℕ) → is_listed (n ∷ ns) m ≡ true → is_listed names m ≡ true
    within m there = l.within m (ap (λ xs. is_listed xs m) is ∙ there)

-- ---- its end

pub end_looking : (doc : Doc) (k : ℕ) (q : Identity) (before : List Deed) (h : List Entry) (names rest : List ℕ) (v : View) (c : Cluster) (x : Health) (s : Store) (t : Told) (w : PodWrites) (old new : ℕ) → rest ≡ []
    → Looking doc k q before h names rest v c x s t w old new
    → IsPassing doc k q before h (marks doc k q (add k q Pass h)) (λ n. is_listed names n) c x s t × WritesStand doc q h (marks doc k q (add k q Pass h)) w
    × HavePassCost doc q k h (add k q Pass h) (marks doc k q (add k q Pass h)) old new
end_looking doc k q before h names rest v c x s t w old new is l =
    subst (λ g. IsPassing doc k q before h g (λ n. is_listed names n) c x s t × WritesStand doc q h g w × HavePassCost doc q k h (add k q Pass h) g old new) (sym (ap (λ xs. for_each (mark doc k q) xs l.now) is) ∙ l.follows) (
      record {
        running = l.passing.running;
        health = pass-same doc q h l.now (looked_of names rest) (λ n. is_listed names n) x (λ n. ap (λ xs. looked_of names xs n) is ∙ and_true (is_listed names n)) l.passing.health;
        leases = l.passing.leases;
        pods = l.passing.pods;
        alike = λ n out. l.passing.alike n (ap (λ xs. looked_of names xs n) is ∙ and_true (is_listed names n) ∙ out);
      },
      l.writes,
      l.cost,
    )
  where
    and_true : (b : Bool) → (b && true) ≡ b
    and_true true = refl
    and_true false = refl

-- a node that was seen isn't missing now
pub unseen : (q : Identity) (n : ℕ) (h now : List Entry) → has (seen_node q n h) ≡ true → seen_node q n now ≡ seen_node q n h → None ≡ seen_node q n now → ⊥
unseen q n h now there same none = false_is (ap has (none ∙ same) ∙ there)
