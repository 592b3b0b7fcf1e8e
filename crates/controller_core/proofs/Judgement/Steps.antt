-- What the judgement of one node keeps: the other nodes, and the queues of pushes.
use Rattle.std.proofs.Common.{◌≡◌, ◌∙◌, ◌==◌, ℕ, Bool, true, false, cond, List, Option, Some, None, refl, sym, ap, subst, arith}
use Rattle.std.proofs.lemmas.Bool.Decides.{nat_tests}
use Rattle.kube_base.specs.declared.numbers.Version.{Version}
use Rattle.kube_objects.specs.declared.call.Answer.{Answer}
use Rattle.kube_objects.specs.declared.call.Answer.TheVariants as answer
use Rattle.kube_objects.specs.declared.node.Node.{Node}
use Rattle.kube_objects.specs.Document.{Doc}
use Rattle.kube_objects.specs.Entry.{Entry, Identity, Place, Tick, Untaint, Swap}
use Rattle.kube_objects.specs.Judgement.{Passed, counts, is_new, judged, passes, queue}
use Rattle.kube_objects.specs.Newest.{has}
use Rattle.kube_objects.specs.Seen.{seen_node}
use Rattle.kube_objects.specs.Stored.{node_key}
use Rattle.kube_objects.specs.Tick.{add, crossed, is_stripped, judge, judge_as, judge_seen, new_taint, untainted}
use Rattle.kube_objects.specs.Tries.{try_node}
use Rattle.history_laws.proofs.Ticks.{judge_step, is_heading}
use Rattle.tick_laws.specs.Changes.{IsChange, IsCleaningOn, noted_by, refused_by}
use Rattle.tick_laws.specs.Ticked.{IsTicked}
use Rattle.tick_laws.proofs.Frames.{cleaning_change, given_node, kept_node, noted_node, swap_is, untaint_is}
use Rattle.tick_laws.proofs.Phases.{counts_kept, is_passing, queue_kept, stripped_kept}
use Rattle.tick_laws.proofs.Ticked.{ticked_more, ticked_same}

-- ---- one try

-- the queues of pushes, and who counts as pushed, are as before
pub record KeepsPushes (doc : Doc) (q : Identity) (h g : List Entry) : Type 0 where
  pub queue : (place : Place) → queue doc q place (passes q g) ≡ queue doc q place (passes q h)
  pub counts : (place : Place) (n : ℕ) → counts doc q place n (passes q g) ≡ counts doc q place n (passes q h)

pub pushes_same : (doc : Doc) (q : Identity) (h : List Entry) → KeepsPushes doc q h h
pushes_same doc q h = record { queue = λ place. refl; counts = λ place n. refl }

pub pushes_then : (doc : Doc) (q : Identity) (h g i : List Entry) → KeepsPushes doc q h g → KeepsPushes doc q g i → KeepsPushes doc q h i
pushes_then doc q h g i a b = record { queue = λ place. b.queue place ∙ a.queue place; counts = λ place n. b.counts place n ∙ a.counts place n }

-- what a try to clean a node keeps of the others
pub others_seen : (q : Identity) (k : ℕ) (h : List Entry) (name : ℕ) (written : Node) (given : Version) (t : Tick) → IsCleaningOn name written (try_node q name given h) t
    → (m : ℕ) → (name == m) ≡ false → seen_node q m (add k q t h) ≡ seen_node q m h
others_seen q k h name written given t is m apart =
    by_answer (try_node q name given h) (cleaning_change q k h name written (try_node q name given h) t is (given_node q name given h))
  where
    by_answer : (a : Option Answer) → IsChange q h (add k q t h) (noted_by name written a) (refused_by (node_key name) a) → seen_node q m (add k q t h) ≡ seen_node q m h
    by_answer None s = kept_node q h _ _ s m
    by_answer (Some (answer.Done v)) s = noted_node q h _ name v written _ s m ∙ ap (λ b. cond b (Some (v, written)) (seen_node q m h)) apart
    by_answer (Some answer.Absent) s = kept_node q h _ _ s m
    by_answer (Some answer.Exists) s = kept_node q h _ _ s m
    by_answer (Some (answer.Conflict v)) s = kept_node q h _ _ s m

-- and it is seen itself where it was
still_seen : (q : Identity) (k : ℕ) (h : List Entry) (name : ℕ) (written : Node) (given : Version) (t : Tick) → IsCleaningOn name written (try_node q name given h) t
    → has (seen_node q name h) ≡ true → has (seen_node q name (add k q t h)) ≡ true
still_seen q k h name written given t is there =
    by_answer (try_node q name given h) (cleaning_change q k h name written (try_node q name given h) t is (given_node q name given h))
  where
    same : (name == name) ≡ true
    same = grind (arith, nat_tests)

    by_answer : (a : Option Answer) → IsChange q h (add k q t h) (noted_by name written a) (refused_by (node_key name) a) → has (seen_node q name (add k q t h)) ≡ true
    by_answer None s = ap has (kept_node q h _ _ s name) ∙ there
    by_answer (Some (answer.Done v)) s = ap has (noted_node q h _ name v written _ s name ∙ ap (λ b. cond b (Some (v, written)) (seen_node q name h)) same)
    by_answer (Some answer.Absent) s = ap has (kept_node q h _ _ s name) ∙ there
    by_answer (Some answer.Exists) s = ap has (kept_node q h _ _ s name) ∙ there
    by_answer (Some (answer.Conflict v)) s = ap has (kept_node q h _ _ s name) ∙ there

-- what an untaint or a swap of one node keeps
pub record KeepsAll (doc : Doc) (q : Identity) (k name : ℕ) (h g : List Entry) : Type 0 where
  pub ticked : IsTicked q k h g
  pub others : (m : ℕ) → (name == m) ≡ false → seen_node q m g ≡ seen_node q m h
  pub seen : (m : ℕ) → has (seen_node q m g) ≡ has (seen_node q m h)
  pub stripped : (m : ℕ) → is_stripped doc.settings.rules.first_sight k q m g ≡ is_stripped doc.settings.rules.first_sight k q m h
  pub pushes : KeepsPushes doc q h g

pub all_same : (doc : Doc) (q : Identity) (k name : ℕ) (h : List Entry) → KeepsAll doc q k name h h
all_same doc q k name h =
    record { ticked = ticked_same q k h; others = λ m apart. refl; seen = λ m. refl; stripped = λ m. refl; pushes = pushes_same doc q h }

module _ (doc : Doc) (q : Identity) (k name : ℕ) (h : List Entry) (given : Version) (written : Node) (there : has (seen_node q name h) ≡ true) where
  by_name : (g : List Entry) → ((m : ℕ) → (name == m) ≡ false → seen_node q m g ≡ seen_node q m h) → has (seen_node q name g) ≡ true
      → (m : ℕ) → has (seen_node q m g) ≡ has (seen_node q m h)
  by_name g others still m = by_test (name == m) refl
    where
      by_test : (b : Bool) → (name == m) ≡ b → has (seen_node q m g) ≡ has (seen_node q m h)
      by_test true is =
          let equal : name ≡ m = grind (arith, nat_tests, is) in
          subst (λ m. has (seen_node q m g) ≡ has (seen_node q m h)) equal (still ∙ sym there)
      by_test false is = ap has (others m is)

  try_keeps : (t : Tick) → IsCleaningOn name written (try_node q name given h) t → is_passing t ≡ false → is_heading t ≡ false → KeepsAll doc q k name h (add k q t h)
  try_keeps t is unpassing unheading =
      record {
        ticked = ticked_more q k h h t (ticked_same q k h);
        others = others_seen q k h name written given t is;
        seen = by_name (add k q t h) (others_seen q k h name written given t is) (still_seen q k h name written given t is there);
        stripped = λ m. stripped_kept doc.settings.rules.first_sight q k h t unpassing m;
        pushes = record { queue = λ place. queue_kept doc q k h t unpassing unheading place; counts = λ place n. counts_kept doc q k h t unpassing place n };
      }

  pub untaint_keeps : KeepsAll doc q k name h (add k q (Untaint name given written (try_node q name given h)) h)
  untaint_keeps = let a = try_node q name given h in try_keeps (Untaint name given written a) (untaint_is name given written a) refl refl

  pub swap_keeps : (wanted : ℕ) → KeepsAll doc q k name h (add k q (Swap name wanted given written (try_node q name given h)) h)
  swap_keeps wanted = let a = try_node q name given h in try_keeps (Swap name wanted given written a) (swap_is name wanted given written a) refl refl

-- ---- the judgement of a node

module _ (doc : Doc) (k : ℕ) (q : Identity) (x : Passed) (name : ℕ) (h : List Entry) where
  pub judge_keeps : KeepsAll doc q k name h (judge doc k q x name h)
  judge_keeps =
      judge_step doc k q (KeepsAll doc q k name h) x name h (all_same doc q k name h)
      (λ z is. untaint_keeps doc q k name h z.0 (untainted z.1) (ap has is))
      (λ y z was is wanted wants. swap_keeps doc q k name h z.0 (crossed (is_new doc q name x.before) (new_taint doc k q wanted) z.1) (ap has is) wanted)

  -- one that the pass didn't find isn't judged, nor is one that isn't seen any more or is stale
  pub unfound_is : seen_node q name x.before ≡ None → (stale : Bool) (o : Option (Version × Node)) → judge_seen doc k q name x stale (seen_node q name x.before) o h ≡ h
  unfound_is none true o = refl
  unfound_is none false o = ap (λ was. judge_seen doc k q name x false was o h) none

  pub unseen_is : (stale : Bool) (was : Option (Version × Node)) → judge_seen doc k q name x stale was None h ≡ h
  unseen_is true was = refl
  unseen_is false None = refl
  unseen_is false (Some y) = refl

  pub judge_is : (y z : Version × Node) → seen_node q name x.before ≡ Some y → seen_node q name h ≡ Some z
      → (stale : Bool) → stale ≡ false → judge_seen doc k q name x stale (seen_node q name x.before) (seen_node q name h) h ≡ judge_as doc k q name x z.0 z.1 (judged q name x y.1) h
  judge_is y z was is stale fresh =
      ap (λ b. judge_seen doc k q name x b (seen_node q name x.before) (seen_node q name h) h) fresh
      ∙ ap (λ o. judge_seen doc k q name x false o (seen_node q name h) h) was
      ∙ ap (λ o. judge_seen doc k q name x false (Some y) o h) is
