-- The pushes of zones as the judgement of a pass begins and ends.
use Rattle.std.proofs.Common.{◌≡◌, ◌∙◌, ◌&&◌, ℕ, Bool, true, false, cond, List, [], ◌∷◌, Option, Some, None, refl, sym, ap}
use Rattle.std.specs.Prelude.{if◌then◌else◌}
use Rattle.std.specs.BTreeMap.{BTreeMap, get}
use Rattle.kube_base.specs.declared.numbers.Version.{Version}
use Rattle.kube_objects.specs.declared.node.Node.{Node}
use Rattle.kube_objects.specs.Document.{Doc}
use Rattle.kube_objects.specs.Entry.{Entry, Identity, Place}
use Rattle.kube_objects.specs.Judgement.{Passed, counts, counts_by, has_turned_on, passes, queue, queue_heads, queue_node, queue_pass, verdict, verdict_in, verdict_of}
use Rattle.kube_objects.specs.Modes.{is_in}
use Rattle.kube_objects.specs.Newest.{has}
use Rattle.kube_objects.specs.Seen.{node_names, seen_node}
use Rattle.kube_objects.specs.Tokens.{is_zone}
use Rattle.history_laws.proofs.Plainly.{false_is, true_is}
use Rattle.taint_zones.specs.Places.{of_place, zone_cmp}
use Rattle.taint_zones.specs.Pushing.{counted_at, pushed_at}
use Rattle.taint_zones.specs.declared.limit.Limit.{Limit}
use Rattle.taint_zones.specs.declared.place.Place as zones
use Rattle.taint_zones.specs.declared.pushes.ZonePushes.{ZonePushes}
use Rattle.tick_laws.proofs.Marking.{names_ascend}
use Rattle.tick_laws.proofs.Named.{node_is_named, node_names_ascend}
use Rattle.watch_cache.specs.Listed.{is_named}
use Rattle.watch_cache.specs.Told.{AreNamed}
use Rattle.controller_core.specs.Pushing.{JudgingStand, PushesStand, counted_before, is_left}
use Rattle.controller_core.proofs.Judgement.Folds.{among_named, over, over_part}
use Rattle.controller_core.proofs.Judgement.Standing.{zone_there}
use Rattle.controller_core.proofs.Judgement.Steps.{KeepsPushes}

module _ (doc : Doc) (q : Identity) (x : Passed) (xs : List Passed) where
  -- a node that the pass didn't find has no verdict
  pub unjudged : (place : Place) (n : ℕ) → has (seen_node q n x.before) ≡ false → verdict_of doc q place n x ≡ None
  unjudged place n none = by_seen (seen_node q n x.before) none
    where
      by_seen : (o : Option (Version × Node)) → has o ≡ false → verdict_in doc q place n x o ≡ None
      by_seen None is = refl
      by_seen (Some y) is = absurd (true_is is)

  -- and no node has one in a zone that it didn't find
  pub unzoned : (place : Place) (n : ℕ) → is_zone q place x.before ≡ false → verdict_of doc q place n x ≡ None
  unzoned place n none = by_seen (seen_node q n x.before) refl
    where
      by_place : (y : Version × Node) → seen_node q n x.before ≡ Some y → (inside : Bool) → is_in place y.1 ≡ inside → (if inside then Some (verdict doc q n x y.1) else None) ≡ None
      by_place y sees false is = refl
      by_place y sees true is = absurd (true_is (sym (zone_there q x.before place n y sees is) ∙ none))

      by_seen : (o : Option (Version × Node)) → seen_node q n x.before ≡ o → verdict_in doc q place n x o ≡ None
      by_seen None sees = refl
      by_seen (Some y) sees = by_place y sees (is_in place y.1) refl

  abbrev pub queued : Place → ℕ → List ℕ → List ℕ
  queued place n = queue_node doc.settings.rules.queue (has_turned_on q x) (counts doc q place n xs) n (verdict_of doc q place n x)

  pass_over : (place : Place) (names pushed : List ℕ) → queue_pass doc q place x xs names pushed ≡ over (queued place) names pushed
  pass_over place [] pushed = refl
  pass_over place (n ∷ ns) pushed = pass_over place ns (queued place n pushed)

  pass_idle : (place : Place) (n : ℕ) (pushed : List ℕ) → verdict_of doc q place n x ≡ None → queued place n pushed ≡ pushed
  pass_idle place n pushed none = ap (λ v. queue_node doc.settings.rules.queue (has_turned_on q x) (counts doc q place n xs) n v pushed) none

  -- the pushes of a pass are those of the nodes that it found
  module _ (names : List ℕ) (are : AreNamed (λ n. has (seen_node q n x.before)) names) where
    pass_found : (place : Place) (pushed : List ℕ) → queue_pass doc q place x xs (node_names x.before) pushed ≡ queue_pass doc q place x xs names pushed
    pass_found place pushed =
        pass_over place (node_names x.before) pushed
        ∙ over_part (queued place) (λ n. has (seen_node q n x.before)) (λ s. Unit {0}) (λ n s p. tt)
        (λ n s p none. pass_idle place n s (unjudged place n none)) (node_names x.before) names pushed tt (record {
          ascend = node_names_ascend x.before;
          sorted = names_ascend names are.ascend;
          tested = λ n there. are.named n;
          within = λ n there. by_seen n (seen_node q n x.before) refl (sym (are.named n) ∙ there);
        })
        ∙ sym (pass_over place names pushed)
      where
        by_seen : (n : ℕ) (o : Option (Version × Node)) → seen_node q n x.before ≡ o → has o ≡ true → is_named (node_names x.before) n ≡ true
        by_seen n None sees is = absurd (false_is is)
        by_seen n (Some y) sees is = among_named n (node_names x.before) (node_is_named q n x.before y sees)

    none_there : (place : Place) (ns : List ℕ) → is_zone q place x.before ≡ false → queue_pass doc q place x xs ns [] ≡ []
    none_there place [] none = refl
    none_there place (n ∷ ns) none = ap (queue_pass doc q place x xs ns) (pass_idle place n [] (unzoned place n none)) ∙ none_there place ns none

    -- the zones that the pass didn't find are forgotten, and nothing is judged yet
    pub begin_judging : (h : List Entry) (old new : ZonePushes) (limits : BTreeMap zones.Place Limit) → passes q h ≡ xs → PushesStand doc q h old
        → ((place : Place) → has (get zone_cmp limits (of_place place)) ≡ is_zone q place x.before)
        → ((zone : zones.Place) → pushed_at new zone ≡ (if has (get zone_cmp limits zone) then pushed_at old zone else []))
        → ((zone : zones.Place) (n : ℕ) → counted_at new zone n ≡ (has (get zone_cmp limits zone) && counted_at old zone n))
        → JudgingStand doc q x xs names new
    begin_judging h old new limits earlier s found pushed counted =
        record {
          names = λ place.
              ap (queue_pass doc q place x xs names)
              (pushed (of_place place)
              ∙ ap (λ b. (if b then pushed_at old (of_place place) else [])) (found place)
              ∙ ap (λ ns. (if is_zone q place x.before then ns else [])) (s.names place ∙ ap (queue doc q place) earlier))
              ∙ by_zone place (is_zone q place x.before) refl;
          counts = λ place n.
              counted (of_place place) n
              ∙ (λ i. found place i && (s.counts place n ∙ ap (counts doc q place n) earlier) i)
              ∙ by_left place n (is_left names n) refl;
        }
      where
        by_zone : (place : Place) (b : Bool) → is_zone q place x.before ≡ b
            → queue_pass doc q place x xs names (if b then queue doc q place xs else []) ≡ cond b (queue_pass doc q place x xs (node_names x.before) (queue doc q place xs)) []
        by_zone place true is = sym (pass_found place (queue doc q place xs))
        by_zone place false is = none_there place names is

        by_there : (b c : Bool) → (b && c) ≡ cond b c false
        by_there true c = refl
        by_there false c = refl

        by_left : (place : Place) (n : ℕ) (b : Bool) → is_left names n ≡ b
            → (is_zone q place x.before && counts doc q place n xs) ≡ cond b (counted_before doc q place n x xs) (counts doc q place n (x ∷ xs))
        by_left place n true is = by_there (is_zone q place x.before) (counts doc q place n xs)
        by_left place n false is =
            by_elim (is_zone q place x.before)
            ∙ ap (λ v. elim (is_zone q place x.before) [ true ↦ elim (counts_by (has_turned_on q x) v) [ None ↦ counts doc q place n xs | Some b ↦ b ] | false ↦ false ])
            (sym (unjudged place n (sym (are.named n) ∙ is)))
          where
            by_elim : (b : Bool) → (b && counts doc q place n xs) ≡ elim b [ true ↦ counts doc q place n xs | false ↦ false ]
            by_elim true = refl
            by_elim false = refl

  -- all are judged; no head had its turn since the pass, and what was added is no push's turn
  pub end_judging : (h now : List Entry) (pushes : ZonePushes) → passes q h ≡ x ∷ xs → ((place : Place) (names : List ℕ) → queue_heads doc q place (x ∷ xs) x.after names ≡ names)
      → KeepsPushes doc q h now → JudgingStand doc q x xs [] pushes → PushesStand doc q now pushes
  end_judging h now pushes is turns kept s =
      record {
        names = λ place. s.names place ∙ sym (kept.queue place ∙ ap (queue doc q place) is ∙ by_zone place (is_zone q place x.before));
        counts = λ place n. s.counts place n ∙ sym (kept.counts place n ∙ ap (counts doc q place n) is);
      }
    where
      pushed : Place → List ℕ
      pushed place = queue_pass doc q place x xs (node_names x.before) (queue doc q place xs)

      by_zone : (place : Place) (b : Bool) → elim b [ true ↦ queue_heads doc q place (x ∷ xs) x.after (pushed place) | false ↦ [] ] ≡ cond b (pushed place) []
      by_zone place true = turns place (pushed place)
      by_zone place false = refl
