-- The nodes of a pass, judged one after the other.
use Rattle.std.proofs.Common.{◌≡◌, ◌∙◌, ℕ, true, false, List, [], ◌∷◌, Option, Some, None, refl, sym, ap, subst, arith}
use Rattle.std.specs.Ordering.{nat_cmp}
use Rattle.kube_base.specs.declared.numbers.Version.{Version}
use Rattle.kube_objects.specs.declared.deed.Deed.{Deed}
use Rattle.kube_objects.specs.declared.node.Node.{Node}
use Rattle.kube_objects.specs.Document.{Doc}
use Rattle.kube_objects.specs.Entry.{Entry, Identity, Place}
use Rattle.kube_objects.specs.Judgement.{Passed, passes, queue_heads}
use Rattle.kube_objects.specs.Newest.{has}
use Rattle.kube_objects.specs.Seen.{is_stale, node_names, seen_node}
use Rattle.kube_objects.specs.Stored.{node_key}
use Rattle.kube_objects.specs.Tick.{for_each, judge, judge_all}
use Rattle.history_laws.proofs.Plainly.{false_is}
use Rattle.object_store.specs.declared.store.Store.{Store}
use Rattle.taint_zones.specs.declared.pushes.ZonePushes.{ZonePushes}
use Rattle.term_state.specs.declared.cluster.Cluster.{Cluster}
use Rattle.term_state.specs.declared.told.Told.{Told}
use Rattle.term_state.specs.declared.view.View.{View}
use Rattle.term_state.specs.MidTick.{IsView, MidTick}
use Rattle.term_state.proofs.Viewing.{view_ticked}
use Rattle.tick_laws.specs.Walks.{Ascends}
use Rattle.tick_laws.proofs.Marking.{names_ascend}
use Rattle.tick_laws.proofs.Named.{node_is_named, node_names_ascend}
use Rattle.watch_cache.specs.Listed.{is_named}
use Rattle.controller_core.specs.Costs.{HaveCost}
use Rattle.controller_core.specs.Looking.{AreLooks, IsAsMarked, IsLook, LooksStand}
use Rattle.controller_core.specs.Pushing.{JudgingStand, PushesStand, is_left}
use Rattle.controller_core.specs.declared.pass.found.Found.{Found}
use Rattle.controller_core.specs.declared.pass.found.Look.{Look}
use Rattle.controller_core.proofs.Judgement.Begun.{end_judging}
use Rattle.controller_core.proofs.Judgement.Folds.{above_apart, among_named, each_over, itself, later, not_above, over_part}
use Rattle.controller_core.proofs.Judgement.Steps.{KeepsAll, KeepsPushes, judge_keeps, pushes_same, pushes_then, unfound_is}

-- ---- the walk over the nodes that the pass found is the one over all names

found_there : (q : Identity) (x : Passed) (h : List Entry) (n : ℕ) → IsAsMarked q x n h → has (seen_node q n x.before) ≡ true → is_named (node_names h) n ≡ true
found_there q x h n marked there = by_seen (seen_node q n x.before) refl there
  where
    by_seen : (o : Option (Version × Node)) → seen_node q n x.before ≡ o → has o ≡ true → is_named (node_names h) n ≡ true
    by_seen None sees is = absurd (false_is is)
    by_seen (Some y) sees is = let z = marked y sees in among_named n (node_names h) (node_is_named q n h z.0 z.1.0)

judged_found : (doc : Doc) (k : ℕ) (q : Identity) (x : Passed) (h : List Entry) (found : Found) → LooksStand doc q x found → ((name : ℕ) → IsAsMarked q x name h)
    → for_each (judge doc k q x) (node_names h) h ≡ for_each (judge doc k q x) found.names h
judged_found doc k q x h found s marked =
    each_over (judge doc k q x) (node_names h) h
    ∙ over_part (judge doc k q x) (λ n. has (seen_node q n x.before)) (λ g. Unit {0}) (λ n g p. tt) (λ n g p none. idle n g none) (node_names h) found.names h tt (record {
      ascend = node_names_ascend h;
      sorted = names_ascend found.names s.ascend;
      tested = λ n there. s.names.named n;
      within = λ n there. found_there q x h n (marked n) (sym (s.names.named n) ∙ there);
    })
    ∙ sym (each_over (judge doc k q x) found.names h)
  where
    idle : (n : ℕ) (g : List Entry) → has (seen_node q n x.before) ≡ false → judge doc k q x n g ≡ g
    idle n g none = unfound_is doc k q x n g (by_seen (seen_node q n x.before) none) (is_stale q (node_key n) g) (seen_node q n g)
      where
        by_seen : (o : Option (Version × Node)) → has o ≡ false → o ≡ None
        by_seen None is = refl
        by_seen (Some y) is = absurd (cc)

-- ---- the loop; the nodes before the rest are judged

pub record Judging (doc : Doc) (k : ℕ) (q : Identity) (before : List Deed) (h : List Entry) (x : Passed) (xs : List Passed) (rest : List ℕ) (looks : List Look) (c : Cluster) (s : Store) (v : View) (t : Told)
    (pushes : ZonePushes) (old new : ℕ) : Type 0 where
  pub now : List Entry
  pub running : MidTick doc q k before now c s t
  pub view : IsView doc k q now v
  pub follows : for_each (judge doc k q x) rest now ≡ for_each (judge doc k q x) (node_names h) h
  pub ascend : Ascends nat_cmp rest
  pub seen : (n : ℕ) → is_left rest n ≡ true → has (seen_node q n x.before) ≡ true
  pub looked : AreLooks doc q x.before rest looks
  pub marked : (n : ℕ) → is_left rest n ≡ true → IsAsMarked q x n now
  pub stand : JudgingStand doc q x xs rest pushes
  pub kept : KeepsPushes doc q h now
  pub cost : HaveCost q k h now old new

pub begin_walk : (doc : Doc) (k : ℕ) (q : Identity) (before : List Deed) (h : List Entry) (x : Passed) (xs : List Passed) (found : Found) (c : Cluster) (s : Store) (v : View) (t : Told) (pushes : ZonePushes) (old : ℕ)
    → MidTick doc q k before h c s t → IsView doc k q h v → LooksStand doc q x found → ((name : ℕ) → IsAsMarked q x name h) → JudgingStand doc q x xs found.names pushes
    → Judging doc k q before h x xs found.names found.looks.items c s v t pushes old old
begin_walk doc k q before h x xs found c s v t pushes old running view looks marked stand =
    record {
      now = h;
      running = running;
      view = view;
      follows = sym (judged_found doc k q x h found looks marked);
      ascend = names_ascend found.names looks.ascend;
      seen = λ n there. sym (looks.names.named n) ∙ there;
      looked = looks.looks;
      marked = λ n there. marked n;
      stand = stand;
      kept = pushes_same doc q h;
      cost = omega arith;
    }

-- the first of the rest
pub record IsFirst (doc : Doc) (q : Identity) (x : Passed) (now : List Entry) (name : ℕ) (others : List ℕ) (look : Look) (more : List Look) : Type 0 where
  pub seen : has (seen_node q name x.before) ≡ true
  pub is_look : IsLook doc q x.before name look
  pub marked : IsAsMarked q x name now
  pub last : is_left others name ≡ false
  pub further : AreLooks doc q x.before others more

-- each has its look
pub looks_left : (doc : Doc) (q : Identity) (x : Passed) (rest others : List ℕ) (looks : List Look) (name : ℕ) → rest ≡ name ∷ others → looks ≡ [] → AreLooks doc q x.before rest looks → ⊥
looks_left doc q x rest others looks name is none are = subst (AreLooks doc q x.before (name ∷ others)) none (subst (λ ns. AreLooks doc q x.before ns looks) is are)

module _ (doc : Doc) (k : ℕ) (q : Identity) (before : List Deed) (h : List Entry) (x : Passed) (xs : List Passed) (rest others : List ℕ) (looks more : List Look) (name : ℕ) (look : Look)
    (c d : Cluster) (s r : Store) (v : View) (t u : Told) (pushes next : ZonePushes) (old mid new : ℕ) (is : rest ≡ name ∷ others) where
  pub first_is : looks ≡ look ∷ more → (j : Judging doc k q before h x xs rest looks c s v t pushes old mid) → IsFirst doc q x j.now name others look more
  first_is are j =
      let there : is_left rest name ≡ true = ap (λ ns. is_left ns name) is ∙ itself name others in
      let ascend : Ascends nat_cmp (name ∷ others) = subst (Ascends nat_cmp) is j.ascend in
      let both : AreLooks doc q x.before (name ∷ others) (look ∷ more) = subst (AreLooks doc q x.before (name ∷ others)) are (subst (λ ns. AreLooks doc q x.before ns looks) is j.looked) in
      record { seen = j.seen name there; is_look = both.0; marked = j.marked name there; last = not_above name others ascend.0; further = both.1 }

  pub next_walk : (j : Judging doc k q before h x xs rest looks c s v t pushes old mid) → IsFirst doc q x j.now name others look more
      → MidTick doc q k before (judge doc k q x name j.now) d r u → JudgingStand doc q x xs others next → HaveCost q k j.now (judge doc k q x name j.now) mid new
      → Judging doc k q before h x xs others more d r v u next old new
  next_walk j first running stand cost =
      record {
        now = judge doc k q x name j.now;
        running = running;
        view = view_ticked doc k q j.now (judge doc k q x name j.now) v keeps.ticked j.view;
        follows = ap (λ ns. for_each (judge doc k q x) ns j.now) (sym is) ∙ j.follows;
        ascend = ascend.1;
        seen = λ n there. j.seen n (still n there);
        looked = first.further;
        marked = λ n there y saw.
            let z = j.marked n (still n there) y saw in
            (z.0, (keeps.others n (above_apart name n others ascend.0 there) ∙ z.1.0, z.1.1));
        stand = stand;
        kept = pushes_then doc q h j.now (judge doc k q x name j.now) j.kept keeps.pushes;
        cost = omega (arith, j.cost, cost);
      }
    where
      keeps : KeepsAll doc q k name j.now (judge doc k q x name j.now)
      keeps = judge_keeps doc k q x name j.now

      ascend : Ascends nat_cmp (name ∷ others)
      ascend = subst (Ascends nat_cmp) is j.ascend

      still : (n : ℕ) → is_left others n ≡ true → is_left rest n ≡ true
      still n there = ap (λ ns. is_left ns n) is ∙ later name n others there

pub end_walk : (doc : Doc) (k : ℕ) (q : Identity) (before : List Deed) (h : List Entry) (x : Passed) (xs : List Passed) (rest : List ℕ) (looks : List Look) (c : Cluster) (s : Store) (v : View) (t : Told) (pushes : ZonePushes)
    (old new : ℕ) → rest ≡ [] → passes q h ≡ x ∷ xs → ((place : Place) (names : List ℕ) → queue_heads doc q place (x ∷ xs) x.after names ≡ names)
    → Judging doc k q before h x xs rest looks c s v t pushes old new
    → MidTick doc q k before (judge_all doc k q (passes q h) h) c s t × PushesStand doc q (judge_all doc k q (passes q h) h) pushes × HaveCost q k h (judge_all doc k q (passes q h) h) old new
end_walk doc k q before h x xs rest looks c s v t pushes old new none is turns j =
    subst (λ g. MidTick doc q k before g c s t × PushesStand doc q g pushes × HaveCost q k h g old new)
    (ap (λ ns. for_each (judge doc k q x) ns j.now) (sym none) ∙ j.follows ∙ ap (λ ys. judge_all doc k q ys h) (sym is))
    (j.running, end_judging doc q x xs h j.now pushes is turns j.kept (subst (λ ns. JudgingStand doc q x xs ns pushes) none j.stand), j.cost)
