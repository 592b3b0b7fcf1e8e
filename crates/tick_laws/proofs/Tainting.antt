-- The phase of queued taints.
use Rattle.std.proofs.Common.{◌≡◌, ◌∙◌, ◌⊎◌, inl, inr, ℕ, ◌-◌, ◌==◌, ◌&&◌, ◌||◌, not, Bool, true, false, cond, List, [], ◌∷◌, Option, Some, None, refl, sym, ap, subst, Less}
use Rattle.std.specs.Prelude.{if◌then◌else◌}
use Rattle.std.proofs.lemmas.Bool.{eqb-true, eq-eqb}
use Rattle.std.proofs.lemmas.List.Folds.{list_any-append}
use Rattle.kube_base.specs.declared.numbers.Version.{Version}
use Rattle.kube_objects.specs.declared.rules.BucketRule.{BucketRule}
use Rattle.kube_objects.specs.declared.rules.BucketRule.TheVariants.{Empty, Full}
use Rattle.kube_objects.specs.declared.call.Answer.{Answer}
use Rattle.kube_objects.specs.declared.call.Answer.TheVariants as answer
use Rattle.kube_objects.specs.declared.key.Key.{Key}
use Rattle.kube_objects.specs.declared.node.Node.{Node}
use Rattle.kube_objects.specs.declared.node.Ready.{Ready}
use Rattle.kube_objects.specs.declared.node.ReadyStatus.{ReadyStatus}
use Rattle.kube_objects.specs.declared.node.ReadyStatus.TheVariants as ready
use Rattle.kube_objects.specs.Clocks.{local}
use Rattle.kube_objects.specs.Document.{Doc}
use Rattle.kube_objects.specs.Entry.{Entry, Identity, Place, Tick, Head, actor_of}
use Rattle.kube_objects.specs.Identities.{is_by}
use Rattle.kube_objects.specs.Modes.{and_node, nodes_among, nodes, place_of, place_cmp, place_eq, is_in, places, mode}
use Rattle.kube_objects.specs.Newest.{newest, when, only_if, or_zero}
use Rattle.kube_objects.specs.Seen.{seen_node, seen_pod, insert_once, node_names}
use Rattle.kube_objects.specs.Tainting.{Wants, Nothing, Wanted, Whatever, is_condition, has_condition, not_ready, unreachable, wants, wants_by, wants_ready, wanted_key, lacks, lacks_in, waits, Queued, queued, head_of}
use Rattle.kube_objects.specs.Tick.{add, for_each, new_taint, tainted_with, taint_as, taint_head, taint, taint_first}
use Rattle.kube_objects.specs.Tokens.{is_base, base, rated, has_token, is_full, is_full_by, is_there}
use Rattle.kube_objects.specs.Tries.{try_node}
use Rattle.kube_objects.proofs.Tokens.{token_is_there}
use Rattle.history_laws.proofs.Plainly.{none_is, some_is}
use Rattle.history_laws.proofs.Named.{insert_in, insert_keeps}
use Rattle.tick_laws.specs.Changes.{IsChange, noted_by}
use Rattle.tick_laws.specs.Judged.{key_if, waits_since, is_dirty, seen_due}
use Rattle.tick_laws.specs.Rows.{IsFresh}
use Rattle.tick_laws.specs.Walks.{Among, Ascends, is_after, after}
use Rattle.tick_laws.proofs.Frames.{mild_change, head_is, given_node, noted_node}
use Rattle.tick_laws.proofs.Heads.{head_none, head_waits}
use Rattle.tick_laws.proofs.Named.{ascends_insert, node_is_named}
use Rattle.tick_laws.proofs.Orders.{places_strict, same_place, place_itself}
use Rattle.tick_laws.proofs.Tried.{noted_waits, refused_waits, noted_dirty, same_dirties, noted_due, same_dues}
use Rattle.tick_laws.proofs.Waiting.{head_key, other_since, fresh_same, fresh_head}
use Rattle.tick_laws.proofs.Walks.{walk_next, walk_end}
use Rattle.watch_cache.specs.Kept.{is_on}
use Rattle.watch_cache.proofs.Frames.{upper}
use Rattle.watch_cache.proofs.Ticks.{same_self}

-- ---- zones are in order, and each zone where a node waits is one of them

pub places_ascend : (ns : List Node) → Ascends place_cmp (places ns)
places_ascend [] = tt
places_ascend (n ∷ ns) = ascends_insert place_cmp places_strict (place_of n) (places ns) (places_ascend ns)

place_among : (q : Identity) (h : List Entry) (n : ℕ) (x : Version × Node) → seen_node q n h ≡ Some x → (names : List ℕ) → Among n names → Among (place_of x.1) (places (nodes_among q names h))
place_among q h n x sees [] there = absurd there
place_among q h n x sees (m ∷ ms) (inl is) = by_seen (seen_node q m h) (ap (λ n. seen_node q n h) (sym is) ∙ sees)
  where
    by_seen : (o : Option (Version × Node)) → o ≡ Some x → Among (place_of x.1) (places (and_node o (nodes_among q ms h)))
    by_seen None same = absurd (none_is x same)
    by_seen (Some y) same =
        subst (λ (p : Version × Node). Among (place_of p.1) (insert_once place_cmp (place_of y.1) (places (nodes_among q ms h)))) (some_is y x same)
        (insert_in place_cmp places_strict.same (place_of y.1) (places (nodes_among q ms h)))
place_among q h n x sees (m ∷ ms) (inr there) = by_seen (seen_node q m h) (place_among q h n x sees ms there)
  where
    by_seen : (o : Option (Version × Node)) → Among (place_of x.1) (places (nodes_among q ms h)) → Among (place_of x.1) (places (and_node o (nodes_among q ms h)))
    by_seen None later = later
    by_seen (Some y) later = insert_keeps place_cmp places_strict.same (place_of x.1) (place_of y.1) (places (nodes_among q ms h)) later

-- the zone of a node that is seen
pub seen_place : (q : Identity) (h : List Entry) (n : ℕ) (x : Version × Node) → seen_node q n h ≡ Some x → Among (place_of x.1) (places (nodes q h))
seen_place q h n x sees = place_among q h n x sees (node_names h) (node_is_named q n h x sees)

-- what a node is seen as that waits in a zone
pub record IsWaiting (q : Identity) (place : Place) (n : ℕ) (wanted : ℕ) (h : List Entry) : Type 0 where
  pub x : Version × Node
  pub sees : seen_node q n h ≡ Some x
  pub inside : is_in place x.1 ≡ true
  pub lacks : lacks (mode q h) x.1 ≡ Some wanted

pub waiting : (q : Identity) (place : Place) (n : ℕ) (wanted : ℕ) (h : List Entry) → waits q place n h ≡ Some wanted → IsWaiting q place n wanted h
waiting q place n wanted h is = by_seen (seen_node q n h) refl is
  where
    by_test : (x : Version × Node) → seen_node q n h ≡ Some x → (b : Bool) → is_in place x.1 ≡ b → only_if b (lacks (mode q h) x.1) ≡ Some wanted → IsWaiting q place n wanted h
    by_test x sees true inside is = record { x = x; sees = sees; inside = inside; lacks = is }
    by_test x sees false inside is = absurd (none_is wanted is)

    by_seen : (o : Option (Version × Node)) → seen_node q n h ≡ o → lacks_in (mode q h) place o ≡ Some wanted → IsWaiting q place n wanted h
    by_seen None sees is = absurd (none_is wanted is)
    by_seen (Some x) sees is = by_test x sees (is_in place x.1) refl is

pub waiting_place : (q : Identity) (place : Place) (n : ℕ) (wanted : ℕ) (h : List Entry) → waits q place n h ≡ Some wanted → Among place (places (nodes q h))
waiting_place q place n wanted h is =
    let w = waiting q place n wanted h is in
    subst (λ p. Among p (places (nodes q h))) (same_place (place_of w.x.1) place w.inside) (seen_place q h n w.x w.sees)

pub since_waits : (q : Identity) (place : Place) (n at : ℕ) (h : List Entry) → waits_since q place n h ≡ Some at → (wanted : ℕ) × (waits q place n h ≡ Some wanted) × (queued q place n h ≡ at)
since_waits q place n at h is = by_now (waits q place n h) refl is
  where
    by_now : (o : Option ℕ) → waits q place n h ≡ o → key_if o (queued q place n h) ≡ Some at → (wanted : ℕ) × (waits q place n h ≡ Some wanted) × (queued q place n h ≡ at)
    by_now None same is = absurd (none_is at is)
    by_now (Some wanted) same is = (wanted, same, some_is (queued q place n h) at is)

-- a node is in no other zone
pub not_in_other : (place other : Place) (node : Node) → place_eq place other ≡ false → is_in place node ≡ true → is_in other node ≡ false
not_in_other place other node apart inside = ap (λ p. place_eq p other) (same_place (place_of node) place inside) ∙ apart

-- ---- after a try that makes no key stale

module _ (q : Identity) (h g : List Entry) (name : ℕ) (written : Node) where
  pub mild_waits : (a : Option Answer) → IsChange q h g (noted_by name written a) None → (place : Place) (m : ℕ) → (name == m) ≡ false → waits q place m g ≡ waits q place m h
  mild_waits None s place m apart = refused_waits q h g None s place m
  mild_waits (Some (answer.Done v)) s place m apart = noted_waits q h g name v written s place m apart
  mild_waits (Some answer.Absent) s place m apart = refused_waits q h g None s place m
  mild_waits (Some answer.Exists) s place m apart = refused_waits q h g None s place m
  mild_waits (Some (answer.Conflict v)) s place m apart = refused_waits q h g None s place m

  pub mild_dirty : (a : Option Answer) → IsChange q h g (noted_by name written a) None → (m : ℕ) → (name == m) ≡ false → is_dirty q m g ≡ is_dirty q m h
  mild_dirty None s m apart = same_dirties q h g s m
  mild_dirty (Some (answer.Done v)) s m apart = noted_dirty q h g name v written s m apart
  mild_dirty (Some answer.Absent) s m apart = same_dirties q h g s m
  mild_dirty (Some answer.Exists) s m apart = same_dirties q h g s m
  mild_dirty (Some (answer.Conflict v)) s m apart = same_dirties q h g s m

  pub mild_due : (a : Option Answer) → IsChange q h g (noted_by name written a) None → (key : Key) → is_on name (seen_pod q key h) ≡ false → seen_due q key g ≡ seen_due q key h
  mild_due None s key off = same_dues q h g s key
  mild_due (Some (answer.Done v)) s key off = noted_due q h g name v written s key off
  mild_due (Some answer.Absent) s key off = same_dues q h g s key
  mild_due (Some answer.Exists) s key off = same_dues q h g s key
  mild_due (Some (answer.Conflict v)) s key off = same_dues q h g s key

  -- the node itself waits nowhere else, and in its zone as before if the try wasn't accepted
  pub mild_own : (a : Option Answer) → IsChange q h g (noted_by name written a) None → (place : Place) (x : Version × Node) → seen_node q name h ≡ Some x → is_in place x.1 ≡ false → is_in place written ≡ false
      → waits q place name g ≡ waits q place name h
  mild_own None s place x sees out new = refused_waits q h g None s place name
  mild_own (Some (answer.Done v)) s place x sees out new =
      ap (lacks_in (mode q g) place) (noted_node q h g name v written None s name ∙ ap (λ b. cond b (Some (v, written)) (seen_node q name h)) (eq-eqb name name refl))
      ∙ ap (λ b. only_if b (lacks (mode q g) written)) new
      ∙ sym (ap (lacks_in (mode q h) place) sees ∙ ap (λ b. only_if b (lacks (mode q h) x.1)) out)
  mild_own (Some answer.Absent) s place x sees out new = refused_waits q h g None s place name
  mild_own (Some answer.Exists) s place x sees out new = refused_waits q h g None s place name
  mild_own (Some (answer.Conflict v)) s place x sees out new = refused_waits q h g None s place name

-- ---- one zone

module _ (doc : Doc) (k : ℕ) (q : Identity) where
  -- the entry of a queued taint of a node that is seen so
  abbrev pub heading : Place → ℕ → ℕ → Version × Node → Option Answer → Tick
  heading place name wanted x a = Head place name wanted x.0 (tainted_with (new_taint doc k q wanted) x.1) a

  pub taint_no_token : (place : Place) (h : List Entry) → has_token doc q k place h ≡ false → taint doc k q place h ≡ h
  taint_no_token place h none = ap (λ b. (if b then taint_first doc k q place h else h)) none

  pub taint_nobody : (place : Place) (h : List Entry) → ((m : ℕ) → waits_since q place m h ≡ None) → taint doc k q place h ≡ h
  taint_nobody place h nobody = by_token (has_token doc q k place h)
    where
      by_token : (b : Bool) → (if b then taint_first doc k q place h else h) ≡ h
      by_token true = ap (λ o. taint_head doc k q place o h) (head_none q place (node_names h) h nobody)
      by_token false = refl

  pub taint_adds : (place : Place) (h : List Entry) (at n wanted : ℕ) (x : Version × Node) → has_token doc q k place h ≡ true → head_of q place (node_names h) h ≡ Some (at, n) → waits q place n h ≡ Some wanted
      → seen_node q n h ≡ Some x → taint doc k q place h ≡ add k q (heading place n wanted x (try_node q n x.0 h)) h
  taint_adds place h at n wanted x token head now sees =
      ap (λ b. (if b then taint_first doc k q place h else h)) token
      ∙ ap (λ o. taint_head doc k q place o h) head
      ∙ ap (λ o. taint_as doc k q place n o (seen_node q n h) h) now
      ∙ ap (λ o. taint_as doc k q place n (Some wanted) o h) sees

  -- a zone leaves the history, or adds the entry of its head
  pub taint_either : (place : Place) (h : List Entry) (P : List Entry → Type 0) → P h
      → ((at n wanted : ℕ) (w : IsWaiting q place n wanted h) → has_token doc q k place h ≡ true → head_of q place (node_names h) h ≡ Some (at, n) → P (add k q (heading place n wanted w.x (try_node q n w.x.0 h)) h))
      → P (taint doc k q place h)
  taint_either place h P same more = by_token (has_token doc q k place h) refl
    where
      by_head : has_token doc q k place h ≡ true → (o : Option Queued) → head_of q place (node_names h) h ≡ o → P (taint doc k q place h)
      by_head token None head = subst P (sym (ap (λ b. (if b then taint_first doc k q place h else h)) token ∙ ap (λ o. taint_head doc k q place o h) head)) same
      by_head token (Some y) head =
          let found = since_waits q place y.1 y.0 h (head_waits q place (node_names h) h y head) in
          let w = waiting q place y.1 found.0 h found.1 in
          subst P (sym (taint_adds place h y.0 y.1 found.0 w.x token head found.1 w.sees)) (more y.0 y.1 found.0 w token head)

      by_token : (b : Bool) → has_token doc q k place h ≡ b → P (taint doc k q place h)
      by_token false token = subst P (sym (taint_no_token place h token)) same
      by_token true token = by_head token (head_of q place (node_names h) h) refl

  -- ---- what its entry leaves

  module _ (place : Place) (h : List Entry) (n wanted : ℕ) (w : IsWaiting q place n wanted h) where
    pub heading_change : IsChange q h (add k q (heading place n wanted w.x (try_node q n w.x.0 h)) h) (noted_by n (tainted_with (new_taint doc k q wanted) w.x.1) (try_node q n w.x.0 h)) None
    heading_change =
        let a = try_node q n w.x.0 h in
        let written = tainted_with (new_taint doc k q wanted) w.x.1 in
        mild_change q k h n written a (heading place n wanted w.x a) (head_is place n wanted w.x.0 written a) (given_node q n w.x.0 h)

    -- other nodes wait as before, and everybody does in other zones
    pub heading_waits : (other : Place) (m : ℕ) → (n == m) ≡ false → waits q other m (add k q (heading place n wanted w.x (try_node q n w.x.0 h)) h) ≡ waits q other m h
    heading_waits other m apart =
        let a = try_node q n w.x.0 h in
        mild_waits q h (add k q (heading place n wanted w.x a) h) n (tainted_with (new_taint doc k q wanted) w.x.1) a heading_change other m apart

    pub heading_elsewhere : (other : Place) → place_eq place other ≡ false → (m : ℕ) → waits q other m (add k q (heading place n wanted w.x (try_node q n w.x.0 h)) h) ≡ waits q other m h
    heading_elsewhere other apart m = by_name (n == m) refl
      where
        out : is_in other w.x.1 ≡ false
        out = not_in_other place other w.x.1 apart w.inside

        own : waits q other n (add k q (heading place n wanted w.x (try_node q n w.x.0 h)) h) ≡ waits q other n h
        own =
            let a = try_node q n w.x.0 h in
            mild_own q h (add k q (heading place n wanted w.x a) h) n (tainted_with (new_taint doc k q wanted) w.x.1) a heading_change other w.x w.sees out out

        by_name : (b : Bool) → (n == m) ≡ b → waits q other m (add k q (heading place n wanted w.x (try_node q n w.x.0 h)) h) ≡ waits q other m h
        by_name false same = heading_waits other m same
        by_name true same = subst (λ m. waits q other m (add k q (heading place n wanted w.x (try_node q n w.x.0 h)) h) ≡ waits q other m h) (eqb-true n m same) own

    -- since when: the node of the entry since this beat, others as before
    pub heading_own : (other : Place) → waits_since q other n (add k q (heading place n wanted w.x (try_node q n w.x.0 h)) h)
        ≡ key_if (waits q other n (add k q (heading place n wanted w.x (try_node q n w.x.0 h)) h)) k
    heading_own other =
        let a = try_node q n w.x.0 h in
        let written = tainted_with (new_taint doc k q wanted) w.x.1 in
        ap (key_if (waits q other n (add k q (heading place n wanted w.x a) h))) (head_key q k place other n wanted w.x.0 written a h)

    pub heading_since : (other : Place) (m : ℕ) → (n == m) ≡ false → waits_since q other m (add k q (heading place n wanted w.x (try_node q n w.x.0 h)) h) ≡ waits_since q other m h
    heading_since other m apart =
        let a = try_node q n w.x.0 h in
        other_since q k place other m n wanted w.x.0 (tainted_with (new_taint doc k q wanted) w.x.1) a h apart (heading_waits other m apart)

    pub heading_since_elsewhere : (other : Place) → place_eq place other ≡ false → (m : ℕ) → waits_since q other m (add k q (heading place n wanted w.x (try_node q n w.x.0 h)) h) ≡ waits_since q other m h
    heading_since_elsewhere other apart m = by_name (n == m) refl
      where
        out : waits q other n h ≡ None
        out = ap (lacks_in (mode q h) other) w.sees ∙ ap (λ b. only_if b (lacks (mode q h) w.x.1)) (not_in_other place other w.x.1 apart w.inside)

        own : waits_since q other n (add k q (heading place n wanted w.x (try_node q n w.x.0 h)) h) ≡ waits_since q other n h
        own = heading_own other ∙ ap (λ o. key_if o k) (heading_elsewhere other apart n ∙ out) ∙ sym (ap (λ o. key_if o (queued q other n h)) out)

        by_name : (b : Bool) → (n == m) ≡ b → waits_since q other m (add k q (heading place n wanted w.x (try_node q n w.x.0 h)) h) ≡ waits_since q other m h
        by_name false same = heading_since other m same
        by_name true same = subst (λ m. waits_since q other m (add k q (heading place n wanted w.x (try_node q n w.x.0 h)) h) ≡ waits_since q other m h) (eqb-true n m same) own

    -- a node that didn't wait before the tick still waits since this beat, if at all
    pub heading_fresh : (other : Place) (m : ℕ) → IsFresh q k other m h → IsFresh q k other m (add k q (heading place n wanted w.x (try_node q n w.x.0 h)) h)
    heading_fresh other m fresh = by_name (n == m) refl
      where
        by_name : (b : Bool) → (n == m) ≡ b → IsFresh q k other m (add k q (heading place n wanted w.x (try_node q n w.x.0 h)) h)
        by_name false same = fresh_same q k other m (heading place n wanted w.x (try_node q n w.x.0 h)) h (heading_since other m same) fresh
        by_name true same =
            let a = try_node q n w.x.0 h in
            let written = tainted_with (new_taint doc k q wanted) w.x.1 in
            subst (λ m. IsFresh q k other m (add k q (heading place n wanted w.x a) h)) (eqb-true n m same) (fresh_head q k place other n wanted w.x.0 written a h)

    -- the token: gone in this zone since this beat, elsewhere as before
    pub heading_rated : (other : Place) → rated q other (add k q (heading place n wanted w.x (try_node q n w.x.0 h)) h) ≡ rated q other h
    heading_rated other = refl

    pub heading_base : base q place (add k q (heading place n wanted w.x (try_node q n w.x.0 h)) h) ≡ k
    heading_base =
        ap (λ b. or_zero (upper (when (b && is_by q (actor_of q)) k) (newest (λ e T. when (is_base q place e.actor e.fact T) e.beat) h))) (place_itself place)
        ∙ ap (λ b. or_zero (upper (when b k) (newest (λ e T. when (is_base q place e.actor e.fact T) e.beat) h))) (same_self q)

    pub heading_base_elsewhere : (other : Place) → place_eq place other ≡ false → base q other (add k q (heading place n wanted w.x (try_node q n w.x.0 h)) h) ≡ base q other h
    heading_base_elsewhere other apart = ap (λ b. or_zero (upper (when (b && is_by q (actor_of q)) k) (newest (λ e T. when (is_base q other e.actor e.fact T) e.beat) h))) apart

    pub heading_full : is_full doc q place (add k q (heading place n wanted w.x (try_node q n w.x.0 h)) h) ≡ false
    heading_full =
        ap (λ b. is_full doc q place h && not (b && is_by q (actor_of q))) (place_itself place)
        ∙ ap (λ b. is_full doc q place h && not b) (same_self q)
        ∙ and_false (is_full doc q place h)
      where
        and_false : (b : Bool) → (b && false) ≡ false
        and_false true = refl
        and_false false = refl

    pub heading_full_elsewhere : (other : Place) → place_eq place other ≡ false → is_full doc q other (add k q (heading place n wanted w.x (try_node q n w.x.0 h)) h) ≡ is_full doc q other h
    heading_full_elsewhere other apart = ap (λ b. is_full doc q other h && not (b && is_by q (actor_of q))) apart ∙ and_true (is_full doc q other h)
      where
        and_true : (b : Bool) → (b && true) ≡ b
        and_true true = refl
        and_true false = refl

    -- by either rule
    pub heading_full_by : (rule : BucketRule) (other : Place) → place_eq place other ≡ false
        → is_full_by rule doc q other (add k q (heading place n wanted w.x (try_node q n w.x.0 h)) h) ≡ is_full_by rule doc q other h
    heading_full_by Empty other apart = refl
    heading_full_by Full other apart = heading_full_elsewhere other apart

    pub heading_token : (other : Place) → place_eq place other ≡ false → has_token doc q k other (add k q (heading place n wanted w.x (try_node q n w.x.0 h)) h) ≡ has_token doc q k other h
    heading_token other apart =
        token_is_there doc q k other (add k q (heading place n wanted w.x (try_node q n w.x.0 h)) h)
        ∙ (λ i. is_there (heading_full_by doc.settings.rules.bucket other apart i) (local doc q.process k - local doc q.process (heading_base_elsewhere other apart i)) (rated q other h))
        ∙ sym (token_is_there doc q k other h)

  -- ---- the walk over zones; h is the history at the phase's start, and now the one that is reached

  pub taint_next : (c : Option Place) (p : Place) (h now : List Entry) → is_after place_cmp c p ≡ true → Among p (places (nodes q h))
      → ((o : Place) → is_after place_cmp c o ≡ true → place_cmp o p ≡ Less → taint doc k q o now ≡ now)
      → for_each (taint doc k q) (after place_cmp c (places (nodes q h))) now ≡ for_each (taint doc k q) (after place_cmp (Some p) (places (nodes q h))) (taint doc k q p now)
  taint_next c p h now later there idle = walk_next place_cmp places_strict (taint doc k q) c p (places (nodes q h)) now later (places_ascend (nodes q h)) there idle

  pub taint_end : (c : Option Place) (h now : List Entry) → ((o : Place) → is_after place_cmp c o ≡ true → taint doc k q o now ≡ now)
      → for_each (taint doc k q) (after place_cmp c (places (nodes q h))) now ≡ now
  taint_end c h now idle = walk_end place_cmp places_strict (taint doc k q) c (places (nodes q h)) now (places_ascend (nodes q h)) idle

  -- ---- an accepted queued taint: the node has it, and waits no longer

  pub wanted_condition : (on : Bool) (node : Node) (wanted : ℕ) → lacks on node ≡ Some wanted → is_condition (new_taint doc k q wanted) ≡ true
  wanted_condition on node wanted is = by_has (has_condition node) (wants on node) (by_mode on) is
    where
      IsKey : Wants → Type 0
      IsKey (Wanted key) = (key ≡ not_ready) ⊎ (key ≡ unreachable)
      IsKey _ = Unit {0}

      by_ready : (r : Option Ready) → IsKey (wants_ready r)
      by_ready None = tt
      by_ready (Some r) = by_status r.status
        where
          by_status : (s : ReadyStatus) → IsKey (wants_by s)
          by_status ready.True = tt
          by_status ready.False = inl refl
          by_status ready.Unknown = inr refl

      by_mode : (on : Bool) → IsKey (wants on node)
      by_mode true = tt
      by_mode false = by_ready node.ready

      or_true : (b : Bool) → (b || true) ≡ true
      or_true true = refl
      or_true false = refl

      is_key : (key : ℕ) → (key ≡ not_ready) ⊎ (key ≡ unreachable) → is_condition (new_taint doc k q key) ≡ true
      is_key key (inl same) = ap (λ b. b || (key == unreachable)) (eq-eqb key not_ready same)
      is_key key (inr same) = ap (λ b. (key == not_ready) || b) (eq-eqb key unreachable same) ∙ or_true (key == not_ready)

      by_has : (b : Bool) (w : Wants) → IsKey w → only_if (not b) (wanted_key w) ≡ Some wanted → is_condition (new_taint doc k q wanted) ≡ true
      by_has true w key is = absurd (none_is wanted is)
      by_has false Nothing key is = absurd (none_is wanted is)
      by_has false (Wanted other) key is = subst (λ n. is_condition (new_taint doc k q n) ≡ true) (some_is other wanted is) (is_key other key)
      by_has false Whatever key is = absurd (none_is wanted is)

  pub tainted_lacks : (on other : Bool) (node : Node) (wanted : ℕ) → lacks on node ≡ Some wanted → lacks other (tainted_with (new_taint doc k q wanted) node) ≡ None
  tainted_lacks on other node wanted is =
      let taint = new_taint doc k q wanted in
      ap (λ b. only_if (not b) (wanted_key (wants other (tainted_with taint node))))
      (list_any-append is_condition node.taints (taint ∷ []) ∙ ap (λ b. has_condition node || (b || false)) (wanted_condition on node wanted is) ∙ or_true (has_condition node))
    where
      or_true : (b : Bool) → (b || true) ≡ true
      or_true true = refl
      or_true false = refl

  pub accepted_waits : (place other : Place) (h : List Entry) (n wanted : ℕ) (w : IsWaiting q place n wanted h) (v : Version) → try_node q n w.x.0 h ≡ Some (answer.Done v)
      → waits q other n (add k q (heading place n wanted w.x (try_node q n w.x.0 h)) h) ≡ None
  accepted_waits place other h n wanted w v done =
      let written = tainted_with (new_taint doc k q wanted) w.x.1 in
      let g = add k q (heading place n wanted w.x (try_node q n w.x.0 h)) h in
      let change = subst (λ a. IsChange q h g (noted_by n written a) None) done (heading_change place h n wanted w) in
      ap (lacks_in (mode q g) other) (noted_node q h g n v written None change n ∙ ap (λ b. cond b (Some (v, written)) (seen_node q n h)) (eq-eqb n n refl))
      ∙ ap (only_if (is_in other written)) (tainted_lacks (mode q h) (mode q g) w.x.1 wanted w.lacks)
      ∙ by_test (is_in other written)
    where
      by_test : (b : Bool) → ◌≡◌ {A = Option ℕ} (only_if b None) None
      by_test true = refl
      by_test false = refl
