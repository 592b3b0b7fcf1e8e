-- The turns of queues that hold pushes, where nodes are judged at passes alone.
use Rattle.std.proofs.Common.{◌≡◌, ◌∙◌, ℕ, ◌+◌, ◌-◌, ◌*◌, ◌==◌, ◌&&◌, not, nat_le, nat_lt, Bool, true, false, cond, List, [], ◌∷◌, Option, Some, None, refl, sym, ap, subst, Less, arith}
use Rattle.std.specs.Prelude.{if◌then◌else◌}
use Rattle.std.proofs.lemmas.Bool.Decides.{nat_tests}
use Rattle.std.proofs.lemmas.List.Sums.{sum_by-cons}
use Rattle.kube_base.specs.declared.numbers.Version.{Version}
use Rattle.kube_objects.specs.declared.call.Answer.{Answer}
use Rattle.kube_objects.specs.declared.deed.Actor.{Actor}
use Rattle.kube_objects.specs.declared.node.Node.{Node}
use Rattle.kube_objects.specs.declared.rules.BucketRule.{BucketRule}
use Rattle.kube_objects.specs.declared.rules.BucketRule.TheVariants.{Empty, Full}
use Rattle.kube_objects.specs.Clocks.{local}
use Rattle.kube_objects.specs.Document.{Doc}
use Rattle.kube_objects.specs.Entry.{Entry, Identity, Place, Fact, Ticks, Tick, Pass, Head, Skip, actor_of, entry}
use Rattle.kube_objects.specs.Health.{at_pass, before_pass, is_pass}
use Rattle.kube_objects.specs.Identities.{is_by}
use Rattle.kube_objects.specs.Judgement.{Passed, counts, had_turn, marks, passes, passes_under, queue, queue_head, queue_heads, queue_pass, turns_on}
use Rattle.kube_objects.specs.Modes.{is_in, nodes, place_cmp, place_eq, place_of, places, size_in}
use Rattle.kube_objects.specs.Newest.{newest, only_if, or_else, or_zero, when}
use Rattle.kube_objects.specs.Seen.{is_accepted, node_names, seen_node}
use Rattle.kube_objects.specs.Tainting.{Wants, Nothing, Wanted, Whatever, wants_ready}
use Rattle.kube_objects.specs.Tick.{add, for_each, push, push_as, push_first, push_seen}
use Rattle.kube_objects.specs.Tokens.{Rated, base, grown, has_token, is_base, is_full, is_full_by, is_there, is_zone, rated, token_size}
use Rattle.kube_objects.specs.Tries.{try_node}
use Rattle.kube_objects.proofs.Passes.{IsQuiet, and_last, counts_kept, passes_grow, queue_grows}
use Rattle.kube_objects.proofs.Tokens.{token_is_there}
use Rattle.history_laws.proofs.Plainly.{none_is, some_is}
use Rattle.history_laws.proofs.Named.{insert_in, insert_keeps}
use Rattle.tick_laws.specs.Changes.{turn_at, turn_by, turn_of}
use Rattle.tick_laws.specs.Walks.{Among, after, is_after}
use Rattle.tick_laws.proofs.Orders.{place_itself, places_strict, same_place}
use Rattle.tick_laws.proofs.Tainting.{places_ascend}
use Rattle.tick_laws.proofs.Walks.{walk_end, walk_next}
use Rattle.watch_cache.proofs.Frames.{upper}
use Rattle.watch_cache.proofs.Ticks.{same_self}

-- ---- a zone is one where a node is seen

zone_has : (place : Place) (ns : List Node) → nat_lt 0 (size_in place ns) ≡ true → Among place (places ns)
zone_has place [] some = absurd (cc)
zone_has place (n ∷ ns) some = by_node (is_in place n) refl (zone_has place ns)
  where
    size : size_in place (n ∷ ns) ≡ cond (is_in place n) 1 0 + size_in place ns
    size = sum_by-cons (λ x. cond (is_in place x) 1 0) n ns

    by_node : (b : Bool) → is_in place n ≡ b → (nat_lt 0 (size_in place ns) ≡ true → Among place (places ns)) → Among place (places (n ∷ ns))
    by_node true is later =
        subst (λ p. Among p (places (n ∷ ns))) (same_place (place_of n) place is) (insert_in place_cmp places_strict.same (place_of n) (places ns))
    by_node false is later =
        insert_keeps place_cmp places_strict.same place (place_of n) (places ns)
        (later (sym (ap (nat_lt 0) (size ∙ ap (λ b. cond b 1 0 + size_in place ns) is ∙ nothing (size_in place ns))) ∙ some))
      where
        nothing : (n : ℕ) → 0 + n ≡ n
        nothing n = omega arith

pub zone_among : (q : Identity) (place : Place) (h : List Entry) → is_zone q place h ≡ true → Among place (places (nodes q h))
zone_among q place h is = zone_has place (nodes q h) is

-- ---- the history before the last pass, and the queues of its zones

abbrev first_before : List Passed → List Entry
first_before [] = []
first_before (x ∷ xs) = x.before

under_before : (q : Identity) (above h : List Entry) → first_before (passes_under q above h) ≡ before_pass q h
under_before q above [] = refl
under_before q above (e ∷ h) = by_fact e.actor e.fact (under_before q (e ∷ above) h)
  where
    last : Option (List Entry)
    last = newest (λ e T. at_pass q (λ T. Some T) e.actor e.fact T) h

    by_pass : first_before (passes_under q (e ∷ above) h) ≡ before_pass q h → (b : Bool)
        → first_before (elim b [ true ↦ record { before = h; after = above } ∷ passes_under q [] h | false ↦ passes_under q (e ∷ above) h ]) ≡ or_else [] (upper (only_if b (Some h)) last)
    by_pass rest true = refl
    by_pass rest false = rest

    by_fact : (who : Actor) (d : Fact) → first_before (passes_under q (e ∷ above) h) ≡ before_pass q h
        → first_before (elim (is_pass q who d) [ true ↦ record { before = h; after = above } ∷ passes_under q [] h | false ↦ passes_under q (e ∷ above) h ])
        ≡ or_else [] (upper (at_pass q (λ T. Some T) who d h) last)
    by_fact who (Ticks Pass) rest = by_pass rest (is_by q who)
    by_fact who (Ticks t) rest = rest
    by_fact who d rest = rest

pub passes_before : (q : Identity) (h : List Entry) (x : Passed) (xs : List Passed) → passes q h ≡ x ∷ xs → x.before ≡ before_pass q h
passes_before q h x xs is = sym (ap first_before is) ∙ under_before q [] h

-- a zone without a node at the last pass has no pushes, so one that has some is a zone of that pass
pub queue_zone : (doc : Doc) (q : Identity) (place : Place) (h : List Entry) → is_zone q place (before_pass q h) ≡ false → queue doc q place (passes q h) ≡ []
queue_zone doc q place h none = by_passes (passes q h) refl
  where
    by_passes : (xs : List Passed) → passes q h ≡ xs → queue doc q place xs ≡ []
    by_passes [] is = refl
    by_passes (x ∷ xs) is =
        ap (λ b. elim b [
          | true ↦ queue_heads doc q place (x ∷ xs) x.after (queue_pass doc q place x xs (node_names x.before) (queue doc q place xs))
          | false ↦ []
        ]) (ap (is_zone q place) (passes_before q h x xs is) ∙ none)

pub queued_among : (doc : Doc) (q : Identity) (place : Place) (h : List Entry) (name : ℕ) (names : List ℕ) → queue doc q place (passes q h) ≡ name ∷ names
    → Among place (places (nodes q (before_pass q h)))
queued_among doc q place h name names is = by_zone (is_zone q place (before_pass q h)) refl
  where
    by_zone : (b : Bool) → is_zone q place (before_pass q h) ≡ b → Among place (places (nodes q (before_pass q h)))
    by_zone true zone = zone_among q place (before_pass q h) zone
    by_zone false zone = absurd (no_names (sym (queue_zone doc q place h zone) ∙ is))
      where
        no_names : ◌≡◌ {A = List ℕ} [] (name ∷ names) → ⊥
        no_names same = cc

-- ---- one zone

module _ (doc : Doc) (k : ℕ) (q : Identity) where
  pub push_no_token : (place : Place) (h : List Entry) → has_token doc q k place h ≡ false → push doc k q place h ≡ h
  push_no_token place h none = ap (λ b. (if b then push_first doc k q place (queue doc q place (passes q h)) h else h)) none

  pub push_nobody : (place : Place) (h : List Entry) → queue doc q place (passes q h) ≡ [] → push doc k q place h ≡ h
  push_nobody place h nobody = by_token (has_token doc q k place h)
    where
      by_token : (b : Bool) → (if b then push_first doc k q place (queue doc q place (passes q h)) h else h) ≡ h
      by_token true = ap (λ names. push_first doc k q place names h) nobody
      by_token false = refl

  pub push_adds : (place : Place) (h : List Entry) (name : ℕ) (names : List ℕ) → has_token doc q k place h ≡ true → queue doc q place (passes q h) ≡ name ∷ names
      → push doc k q place h ≡ add k q (turn_of doc k q place name (seen_node q name h) h) h
  push_adds place h name names token is =
      ap (λ b. (if b then push_first doc k q place (queue doc q place (passes q h)) h else h)) token
      ∙ ap (λ names. push_first doc k q place names h) is
      ∙ by_seen (seen_node q name h)
    where
      by_wants : (x : Version × Node) (w : Wants) → push_as doc k q place name x.0 x.1 w h ≡ add k q (turn_by doc k q place name x.0 x.1 w (try_node q name x.0 h)) h
      by_wants x (Wanted wanted) = refl
      by_wants x Nothing = refl
      by_wants x Whatever = refl

      by_seen : (o : Option (Version × Node)) → push_seen doc k q place name o h ≡ add k q (turn_of doc k q place name o h) h
      by_seen None = refl
      by_seen (Some x) = by_wants x (wants_ready x.1.ready)

  -- it is a turn of the zone
  pub turn_place : (place : Place) (name : ℕ) (h : List Entry) → turn_at (turn_of doc k q place name (seen_node q name h) h) ≡ Some place
  turn_place place name h = by_seen (seen_node q name h)
    where
      by_wants : (x : Version × Node) (w : Wants) → turn_at (turn_by doc k q place name x.0 x.1 w (try_node q name x.0 h)) ≡ Some place
      by_wants x (Wanted wanted) = refl
      by_wants x Nothing = refl
      by_wants x Whatever = refl

      by_seen : (o : Option (Version × Node)) → turn_at (turn_of doc k q place name o h) ≡ Some place
      by_seen None = refl
      by_seen (Some x) = by_wants x (wants_ready x.1.ready)

  -- a zone leaves the history, or adds the turn of its first push
  pub push_either : (place : Place) (h : List Entry) (P : List Entry → Type 0) → P h
      → ((name : ℕ) (names : List ℕ) → has_token doc q k place h ≡ true → queue doc q place (passes q h) ≡ name ∷ names → P (add k q (turn_of doc k q place name (seen_node q name h) h) h))
      → P (push doc k q place h)
  push_either place h P same more = by_token (has_token doc q k place h) refl
    where
      by_queue : has_token doc q k place h ≡ true → (names : List ℕ) → queue doc q place (passes q h) ≡ names → P (push doc k q place h)
      by_queue token [] is = subst P (sym (push_nobody place h is)) same
      by_queue token (name ∷ names) is = subst P (sym (push_adds place h name names token is)) (more name names token is)

      by_token : (b : Bool) → has_token doc q k place h ≡ b → P (push doc k q place h)
      by_token false token = subst P (sym (push_no_token place h token)) same
      by_token true token = by_queue token (queue doc q place (passes q h)) refl

  -- ---- the walk over zones; h is the history at the phase's start, and now the one that is reached

  pub push_next : (c : Option Place) (p : Place) (h now : List Entry) → is_after place_cmp c p ≡ true → Among p (places (nodes q (before_pass q h)))
      → ((o : Place) → is_after place_cmp c o ≡ true → place_cmp o p ≡ Less → push doc k q o now ≡ now)
      → for_each (push doc k q) (after place_cmp c (places (nodes q (before_pass q h)))) now
      ≡ for_each (push doc k q) (after place_cmp (Some p) (places (nodes q (before_pass q h)))) (push doc k q p now)
  push_next c p h now later there idle =
      let ns = nodes q (before_pass q h) in
      walk_next place_cmp places_strict (push doc k q) c p (places ns) now later (places_ascend ns) there idle

  pub push_end : (c : Option Place) (h now : List Entry) → ((o : Place) → is_after place_cmp c o ≡ true → push doc k q o now ≡ now)
      → for_each (push doc k q) (after place_cmp c (places (nodes q (before_pass q h)))) now ≡ now
  push_end c h now idle =
      let ns = nodes q (before_pass q h) in
      walk_end place_cmp places_strict (push doc k q) c (places ns) now (places_ascend ns) idle

-- ---- what a turn leaves: the zone's token is gone since this beat, elsewhere it is as before

and_false : (b : Bool) → (b && false) ≡ false
and_false true = refl
and_false false = refl

and_true : (b : Bool) → (b && true) ≡ b
and_true true = refl
and_true false = refl

abbrev last_base : Identity → Place → List Entry → Option ℕ
last_base q place h = newest (λ e T. when (is_base q place e.actor e.fact T) e.beat) h

-- with the zones compared: of the zone itself, and of another one
turn_says : (q : Identity) (k : ℕ) (t : Tick) (place : Place) (h : List Entry) → turn_at t ≡ Some place → (other : Place)
    → base q other (add k q t h) ≡ or_zero (upper (when (place_eq place other && is_by q (actor_of q)) k) (last_base q other h))
turn_says q k (Head at name wanted given written a) place h is other =
    ap (λ (p : Place). or_zero (upper (when (place_eq p other && is_by q (actor_of q)) k) (last_base q other h))) (some_is at place is)
turn_says q k (Skip at name) place h is other = ap (λ (p : Place). or_zero (upper (when (place_eq p other && is_by q (actor_of q)) k) (last_base q other h))) (some_is at place is)
turn_says q k t place h is other = absurd (none_is place is)

turn_fills : (doc : Doc) (q : Identity) (k : ℕ) (t : Tick) (place : Place) (h : List Entry) → turn_at t ≡ Some place → (other : Place)
    → is_full doc q other (add k q t h) ≡ (is_full doc q other h && not (place_eq place other && is_by q (actor_of q)))
turn_fills doc q k (Head at name wanted given written a) place h is other =
    ap (λ (p : Place). is_full doc q other h && not (place_eq p other && is_by q (actor_of q))) (some_is at place is)
turn_fills doc q k (Skip at name) place h is other = ap (λ (p : Place). is_full doc q other h && not (place_eq p other && is_by q (actor_of q))) (some_is at place is)
turn_fills doc q k t place h is other = absurd (none_is place is)

-- nothing grows in no time
none_grown : (rate : ℕ) → nat_le token_size (0 * rate) ≡ false
unfolding token_size
none_grown rate = grind (arith, nat_tests)

not_there : (o : Option Rated) (span : ℕ) → span ≡ 0 → is_there false span o ≡ false
not_there None span is = refl
not_there (Some x) span is =
    ap (λ span. not (x.1 == 0) && nat_le token_size (span * x.1)) is ∙ ap (λ b. not (x.1 == 0) && b) (none_grown x.1) ∙ and_false (not (x.1 == 0))

module _ (doc : Doc) (q : Identity) (k : ℕ) (t : Tick) (place : Place) (h : List Entry) (is : turn_at t ≡ Some place) where
  pub turn_rated : (other : Place) → rated q other (add k q t h) ≡ rated q other h
  turn_rated other = by_tick t is
    where
      by_tick : (t : Tick) → turn_at t ≡ Some place → rated q other (add k q t h) ≡ rated q other h
      by_tick (Head at name wanted given written a) is = refl
      by_tick (Skip at name) is = refl
      by_tick t is = absurd (none_is place is)

  pub turn_base : base q place (add k q t h) ≡ k
  turn_base =
      turn_says q k t place h is place
      ∙ ap (λ b. or_zero (upper (when (b && is_by q (actor_of q)) k) (last_base q place h))) (place_itself place)
      ∙ ap (λ b. or_zero (upper (when b k) (last_base q place h))) (same_self q)

  pub turn_base_elsewhere : (other : Place) → place_eq place other ≡ false → base q other (add k q t h) ≡ base q other h
  turn_base_elsewhere other apart = turn_says q k t place h is other ∙ ap (λ b. or_zero (upper (when (b && is_by q (actor_of q)) k) (last_base q other h))) apart

  pub turn_full : is_full doc q place (add k q t h) ≡ false
  turn_full =
      turn_fills doc q k t place h is place
      ∙ ap (λ b. is_full doc q place h && not (b && is_by q (actor_of q))) (place_itself place)
      ∙ ap (λ b. is_full doc q place h && not b) (same_self q)
      ∙ and_false (is_full doc q place h)

  pub turn_full_elsewhere : (other : Place) → place_eq place other ≡ false → is_full doc q other (add k q t h) ≡ is_full doc q other h
  turn_full_elsewhere other apart =
      turn_fills doc q k t place h is other ∙ ap (λ b. is_full doc q other h && not (b && is_by q (actor_of q))) apart ∙ and_true (is_full doc q other h)

  -- by either rule
  pub turn_full_by : (rule : BucketRule) → is_full_by rule doc q place (add k q t h) ≡ false
  turn_full_by Empty = refl
  turn_full_by Full = turn_full

  pub turn_full_by_elsewhere : (rule : BucketRule) (other : Place) → place_eq place other ≡ false → is_full_by rule doc q other (add k q t h) ≡ is_full_by rule doc q other h
  turn_full_by_elsewhere Empty other apart = refl
  turn_full_by_elsewhere Full other apart = turn_full_elsewhere other apart

  -- so a zone has one turn in a tick
  pub turn_spends : has_token doc q k place (add k q t h) ≡ false
  turn_spends =
      let g = add k q t h in
      token_is_there doc q k place g
      ∙ ap (λ b. is_there b (grown doc q k place g) (rated q place g)) (turn_full_by doc.settings.rules.bucket)
      ∙ not_there (rated q place g) (grown doc q k place g) (ap (λ (j : ℕ). local doc q.process k - local doc q.process j) turn_base ∙ nothing (local doc q.process k))
    where
      nothing : (n : ℕ) → n - n ≡ 0
      nothing n = omega arith

  pub turn_token : (other : Place) → place_eq place other ≡ false → has_token doc q k other (add k q t h) ≡ has_token doc q k other h
  turn_token other apart =
      token_is_there doc q k other (add k q t h)
      ∙ ap (λ b. is_there b (grown doc q k other (add k q t h)) (rated q other (add k q t h))) (turn_full_by_elsewhere doc.settings.rules.bucket other apart)
      ∙ ap (λ (j : ℕ). is_there (is_full_by doc.settings.rules.bucket doc q other h) (local doc q.process k - local doc q.process j) (rated q other (add k q t h))) (turn_base_elsewhere other apart)
      ∙ ap (is_there (is_full_by doc.settings.rules.bucket doc q other h) (grown doc q k other h)) (turn_rated other)
      ∙ sym (token_is_there doc q k other h)

  -- ---- and the queues

  pub turn_quiet : IsQuiet q (entry k 4 q (Ticks t))
  turn_quiet = record { marks = λ name. by_marks name t is; turns = by_turns t is }
    where
      by_marks : (name : ℕ) (t : Tick) → turn_at t ≡ Some place → marks q name (actor_of q) (Ticks t) ≡ false
      by_marks name (Head at n wanted given written a) is = refl
      by_marks name (Skip at n) is = refl
      by_marks name t is = absurd (none_is place is)

      by_turns : (t : Tick) → turn_at t ≡ Some place → turns_on q (actor_of q) (Ticks t) ≡ false
      by_turns (Head at n wanted given written a) is = refl
      by_turns (Skip at n) is = refl
      by_turns t is = absurd (none_is place is)

  turn_passes : passes q (add k q t h) ≡ and_last (entry k 4 q (Ticks t)) (passes q h)
  turn_passes = passes_grow q (entry k 4 q (Ticks t)) h (by_tick t is)
    where
      by_tick : (t : Tick) → turn_at t ≡ Some place → is_pass q (actor_of q) (Ticks t) ≡ false
      by_tick (Head at n wanted given written a) is = refl
      by_tick (Skip at n) is = refl
      by_tick t is = absurd (none_is place is)

  pub turn_before : before_pass q (add k q t h) ≡ before_pass q h
  turn_before = by_tick t is
    where
      by_tick : (t : Tick) → turn_at t ≡ Some place → before_pass q (add k q t h) ≡ before_pass q h
      by_tick (Head at n wanted given written a) is = refl
      by_tick (Skip at n) is = refl
      by_tick t is = absurd (none_is place is)

  -- who counts as pushed is as before
  pub turn_counts : (other : Place) (name : ℕ) → counts doc q other name (passes q (add k q t h)) ≡ counts doc q other name (passes q h)
  turn_counts other name = ap (counts doc q other name) turn_passes ∙ counts_kept q (entry k 4 q (Ticks t)) turn_quiet doc other name (passes q h)

  turn_queue_by : (other : Place)
      → queue doc q other (passes q (add k q t h)) ≡ queue_head doc q other (passes q h) (actor_of q) (Ticks t) (queue doc q other (passes q h))
  turn_queue_by other = ap (queue doc q other) turn_passes ∙ queue_grows doc q other (entry k 4 q (Ticks t)) (passes q h) turn_quiet

  pub turn_queue_elsewhere : (other : Place) → place_eq place other ≡ false → queue doc q other (passes q (add k q t h)) ≡ queue doc q other (passes q h)
  turn_queue_elsewhere other apart = turn_queue_by other ∙ by_tick t is
    where
      names : List ℕ
      names = queue doc q other (passes q h)

      out : (at : Place) → at ≡ place → (counted written : Bool) → (if place_eq at other && is_by q (actor_of q) then had_turn counted written names else names) ≡ names
      out at same counted written = ap (λ b. (if b && is_by q (actor_of q) then had_turn counted written names else names)) (ap (λ (p : Place). place_eq p other) same ∙ apart)

      by_tick : (t : Tick) → turn_at t ≡ Some place → queue_head doc q other (passes q h) (actor_of q) (Ticks t) names ≡ names
      by_tick (Head at n wanted given written a) is = out at (some_is at place is) (counts doc q other n (passes q h)) (is_accepted a)
      by_tick (Skip at n) is = out at (some_is at place is) (counts doc q other n (passes q h)) true
      by_tick t is = absurd (none_is place is)

-- a zone's own turns: its first push goes or goes to the back
own_turn : (q : Identity) (place : Place) (counted written : Bool) (names : List ℕ)
    → (if place_eq place place && is_by q (actor_of q) then had_turn counted written names else names) ≡ had_turn counted written names
own_turn q place counted written names =
    ap (λ b. (if b && is_by q (actor_of q) then had_turn counted written names else names)) (place_itself place)
    ∙ ap (λ b. (if b then had_turn counted written names else names)) (same_self q)

pub head_queue : (doc : Doc) (q : Identity) (k : ℕ) (place : Place) (name wanted : ℕ) (given : Version) (written : Node) (a : Option Answer) (h : List Entry)
    → queue doc q place (passes q (add k q (Head place name wanted given written a) h))
    ≡ had_turn (counts doc q place name (passes q h)) (is_accepted a) (queue doc q place (passes q h))
head_queue doc q k place name wanted given written a h =
    turn_queue_by doc q k (Head place name wanted given written a) place h refl place
    ∙ own_turn q place (counts doc q place name (passes q h)) (is_accepted a) (queue doc q place (passes q h))

pub skip_queue : (doc : Doc) (q : Identity) (k : ℕ) (place : Place) (name : ℕ) (h : List Entry)
    → queue doc q place (passes q (add k q (Skip place name) h)) ≡ had_turn (counts doc q place name (passes q h)) true (queue doc q place (passes q h))
skip_queue doc q k place name h =
    turn_queue_by doc q k (Skip place name) place h refl place ∙ own_turn q place (counts doc q place name (passes q h)) true (queue doc q place (passes q h))
