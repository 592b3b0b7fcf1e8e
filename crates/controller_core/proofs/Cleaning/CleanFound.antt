-- The nodes of a pass, cleaned one after the other: those that are new are stripped.
use Rattle.std.proofs.Common.{◌≡◌, ◌∙◌, ◌&&◌, ◌||◌, not, ℕ, Bool, true, false, List, [], ◌∷◌, Option, Some, None, refl, sym, ap, subst, arith}
use Rattle.kube_base.specs.declared.numbers.Version.{Version}
use Rattle.kube_objects.specs.declared.deed.Deed.{Deed}
use Rattle.kube_objects.specs.declared.node.Node.{Node}
use Rattle.kube_objects.specs.declared.rules.JudgeRule.TheVariants as judges
use Rattle.kube_objects.specs.declared.rules.SightRule.{SightRule}
use Rattle.kube_objects.specs.declared.rules.SightRule.TheVariants.{Keep, Strip}
use Rattle.kube_objects.specs.Document.{Doc}
use Rattle.kube_objects.specs.Entry.{Entry, Identity}
use Rattle.kube_objects.specs.Health.{is_known, is_pass_tick}
use Rattle.kube_objects.specs.Judgement.{Passed, is_new, passes, strips}
use Rattle.kube_objects.specs.Newest.{has}
use Rattle.kube_objects.specs.Seen.{node_names, seen_node}
use Rattle.kube_objects.specs.Tick.{clean, cleaned, cleaned_by, for_each, is_stripped}
use Rattle.history_laws.proofs.Plainly.{false_is}
use Rattle.object_store.specs.declared.store.Store.{Store}
use Rattle.term_state.specs.declared.cluster.Cluster.{Cluster}
use Rattle.term_state.specs.declared.told.Told.{Told}
use Rattle.term_state.specs.declared.view.View.{View}
use Rattle.term_state.specs.MidTick.{IsView, MidTick}
use Rattle.term_state.proofs.Viewing.{view_ticked}
use Rattle.tick_laws.proofs.Marking.{names_ascend}
use Rattle.tick_laws.proofs.Named.{node_is_named, node_names_ascend}
use Rattle.tick_laws.proofs.Pushing.{passes_before}
use Rattle.watch_cache.specs.Listed.{is_named}
use Rattle.controller_core.specs.Cleaning.{AreKept}
use Rattle.controller_core.specs.Costs.{HaveCost}
use Rattle.controller_core.specs.Looking.{AreLooks, LooksStand, are_looked_ahead, is_at_passes}
use Rattle.controller_core.specs.declared.pass.found.Found.{Found}
use Rattle.controller_core.specs.declared.pass.found.Look.{Look}
use Rattle.controller_core.proofs.Cleaning.Keeping.{clean_keeps, clean_unseen}
use Rattle.controller_core.proofs.Judgement.Folds.{among_named, each_over, over_part}

-- ---- who is stripped

-- a node is stripped in the tick of a pass that found it new
pub new_stripped : (doc : Doc) (k : ℕ) (q : Identity) (h : List Entry) (x : Passed) (xs : List Passed) → passes q h ≡ x ∷ xs → is_pass_tick k q h ≡ true
    → (n : ℕ) → is_stripped doc.settings.rules.first_sight k q n h ≡ is_new doc q n x.before
new_stripped doc k q h x xs is passing n = by_rule doc.settings.rules.first_sight
  where
    by_rule : (r : SightRule) → is_stripped r k q n h ≡ (strips r && not (is_known q n x.before))
    by_rule Keep = refl
    by_rule Strip = λ i. passing i && not (is_known q n (sym (passes_before q h x xs is) i))

-- ---- by which rule there are looks

asked_is : (doc : Doc) → doc.settings.rules.judge ≡ judges.Tick → are_looked_ahead doc ≡ strips doc.settings.rules.first_sight
asked_is doc at_ticks = ap (λ rule. is_at_passes rule || strips doc.settings.rules.first_sight) at_ticks

-- where there are none, no node that is seen is stripped
pub unlooked : (doc : Doc) (k : ℕ) (q : Identity) (h : List Entry) (x : Passed) (xs : List Passed) (found : Found) → doc.settings.rules.judge ≡ judges.Tick → passes q h ≡ x ∷ xs → is_pass_tick k q h ≡ true
    → ((n : ℕ) → has (seen_node q n h) ≡ has (seen_node q n x.before)) → (are_looked_ahead doc ≡ true → LooksStand doc q x found) → found.looks.items ≡ [] → AreKept doc k q h
unlooked doc k q h x xs found at_ticks is passing same looks none n there =
    new_stripped doc k q h x xs is passing n ∙ by_rule (strips doc.settings.rules.first_sight) refl
  where
    no_names : (names : List ℕ) (ls : List Look) → ls ≡ [] → AreLooks doc q x.before names ls → names ≡ []
    no_names [] ls none are = refl
    no_names (m ∷ ms) ls none are = absurd (subst (AreLooks doc q x.before (m ∷ ms)) none are)

    by_rule : (b : Bool) → strips doc.settings.rules.first_sight ≡ b → (b && not (is_known q n x.before)) ≡ false
    by_rule false by = refl
    by_rule true by =
        let s = looks (asked_is doc at_ticks ∙ by) in
        absurd (false_is (sym (ap (λ ns. is_named ns n) (no_names found.names found.looks.items none s.looks)) ∙ s.names.named n ∙ sym (same n) ∙ there))

-- and where there are some, they are those of the nodes
pub looked : (doc : Doc) (q : Identity) (x : Passed) (found : Found) → doc.settings.rules.judge ≡ judges.Tick → (are_looked_ahead doc ≡ true → LooksStand doc q x found)
    → (are_looked_ahead doc ≡ false → found.looks.items ≡ []) → (found.looks.items ≡ [] → ⊥) → LooksStand doc q x found
looked doc q x found at_ticks looks unasked some = by_rule (are_looked_ahead doc) refl
  where
    by_rule : (b : Bool) → are_looked_ahead doc ≡ b → LooksStand doc q x found
    by_rule true is = looks is
    by_rule false is = absurd (some (unasked is))

-- ---- the loop; the nodes before the rest are cleaned

cleaned_found : (doc : Doc) (k : ℕ) (q : Identity) (h : List Entry) (x : Passed) (found : Found) → LooksStand doc q x found → ((n : ℕ) → has (seen_node q n h) ≡ has (seen_node q n x.before))
    → for_each (clean doc k q) (node_names h) h ≡ for_each (clean doc k q) found.names h
cleaned_found doc k q h x found s same =
    each_over (clean doc k q) (node_names h) h
    ∙ over_part (clean doc k q) (λ n. has (seen_node q n x.before)) (λ g. (m : ℕ) → has (seen_node q m g) ≡ has (seen_node q m h))
    (λ n g p m. (clean_keeps doc k q n g).seen m ∙ p m) (λ n g p none. clean_unseen doc k q n g (p n ∙ same n ∙ none)) (node_names h) found.names h (λ m. refl) (record {
      ascend = node_names_ascend h;
      sorted = names_ascend found.names s.ascend;
      tested = λ n there. s.names.named n;
      within = λ n there. by_seen n (seen_node q n h) refl (same n ∙ sym (s.names.named n) ∙ there);
    })
    ∙ sym (each_over (clean doc k q) found.names h)
  where
    by_seen : (n : ℕ) (o : Option (Version × Node)) → seen_node q n h ≡ o → has (seen_node q n h) ≡ true → is_named (node_names h) n ≡ true
    by_seen n None sees is = absurd (false_is (sym (ap has sees) ∙ is))
    by_seen n (Some y) sees is = among_named n (node_names h) (node_is_named q n h y sees)

pub record Cleaning (doc : Doc) (k : ℕ) (q : Identity) (before : List Deed) (h : List Entry) (x : Passed) (rest : List ℕ) (looks : List Look) (c : Cluster) (s : Store) (v : View) (t : Told) (old new : ℕ) : Type 0 where
  pub now : List Entry
  pub running : MidTick doc q k before now c s t
  pub view : IsView doc k q now v
  pub follows : for_each (clean doc k q) rest now ≡ for_each (clean doc k q) (node_names h) h
  pub looked : AreLooks doc q x.before rest looks
  pub stripped : (n : ℕ) → is_stripped doc.settings.rules.first_sight k q n now ≡ is_new doc q n x.before
  pub cost : HaveCost q k h now old new

pub begin_found : (doc : Doc) (k : ℕ) (q : Identity) (before : List Deed) (h : List Entry) (x : Passed) (xs : List Passed) (found : Found) (c : Cluster) (s : Store) (v : View) (t : Told) (old : ℕ)
    → MidTick doc q k before h c s t → IsView doc k q h v → passes q h ≡ x ∷ xs → is_pass_tick k q h ≡ true → ((n : ℕ) → has (seen_node q n h) ≡ has (seen_node q n x.before)) → LooksStand doc q x found
    → Cleaning doc k q before h x found.names found.looks.items c s v t old old
begin_found doc k q before h x xs found c s v t old running view is passing same looks =
    record {
      now = h;
      running = running;
      view = view;
      follows = sym (cleaned_found doc k q h x found looks same);
      looked = looks.looks;
      stripped = new_stripped doc k q h x xs is passing;
      cost = omega arith;
    }

module _ (doc : Doc) (k : ℕ) (q : Identity) (before : List Deed) (h : List Entry) (x : Passed) (rest others : List ℕ) (looks more : List Look) (name : ℕ) (look : Look)
    (c d : Cluster) (s r : Store) (v : View) (t u : Told) (old mid new : ℕ) (is : rest ≡ name ∷ others) where
  here : looks ≡ look ∷ more → Cleaning doc k q before h x rest looks c s v t old mid → AreLooks doc q x.before (name ∷ others) (look ∷ more)
  here are j = subst (AreLooks doc q x.before (name ∷ others)) are (subst (λ ns. AreLooks doc q x.before ns looks) is j.looked)

  pub fresh_first : looks ≡ look ∷ more → (j : Cleaning doc k q before h x rest looks c s v t old mid) → look.fresh ≡ is_stripped doc.settings.rules.first_sight k q name j.now
  fresh_first are j = (here are j).0.fresh ∙ sym (j.stripped name)

  pub next_found : looks ≡ look ∷ more → (j : Cleaning doc k q before h x rest looks c s v t old mid) → MidTick doc q k before (clean doc k q name j.now) d r u → HaveCost q k j.now (clean doc k q name j.now) mid new
      → Cleaning doc k q before h x others more d r v u old new
  next_found are j running cost =
      record {
        now = clean doc k q name j.now;
        running = running;
        view = view_ticked doc k q j.now (clean doc k q name j.now) v (clean_keeps doc k q name j.now).ticked j.view;
        follows = ap (λ ns. for_each (clean doc k q) ns j.now) (sym is) ∙ j.follows;
        looked = (here are j).1;
        stripped = λ n. (clean_keeps doc k q name j.now).stripped n ∙ j.stripped n;
        cost = omega (arith, j.cost, cost);
      }

pub end_found : (doc : Doc) (k : ℕ) (q : Identity) (before : List Deed) (h : List Entry) (x : Passed) (rest : List ℕ) (looks : List Look) (c : Cluster) (s : Store) (v : View) (t : Told) (old new : ℕ) → rest ≡ []
    → doc.settings.rules.judge ≡ judges.Tick → Cleaning doc k q before h x rest looks c s v t old new
    → MidTick doc q k before (cleaned doc k q h) c s t × HaveCost q k h (cleaned doc k q h) old new
end_found doc k q before h x rest looks c s v t old new none at_ticks j =
    subst (λ g. MidTick doc q k before g c s t × HaveCost q k h g old new)
    (ap (λ ns. for_each (clean doc k q) ns j.now) (sym none) ∙ j.follows ∙ sym (ap (λ rule. cleaned_by rule doc k q h) at_ticks)) (j.running, j.cost)
