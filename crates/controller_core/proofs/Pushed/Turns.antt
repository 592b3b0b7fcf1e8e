-- What the turn of a zone's first push leaves.
use Rattle.std.proofs.Common.{◌≡◌, ◌∙◌, ℕ, Bool, true, false, cond, List, [], ◌∷◌, Option, Some, None, refl, sym, ap, subst}
use Rattle.kube_base.specs.declared.numbers.Version.{Version}
use Rattle.kube_objects.specs.declared.deed.Deed.{Deed}
use Rattle.kube_objects.specs.declared.node.Node.{Node}
use Rattle.kube_objects.specs.Clocks.{local}
use Rattle.kube_objects.specs.Document.{Doc}
use Rattle.kube_objects.specs.Entry as entry
use Rattle.kube_objects.specs.Entry.{Entry, Identity, Tick, Ticks, Skip}
use Rattle.kube_objects.specs.Judgement.{counts, had_turn, passes, queue, taken, to_back}
use Rattle.kube_objects.specs.Modes.{place_eq}
use Rattle.kube_objects.specs.Tainting.{Wants, Nothing, Wanted, Whatever, wants_ready}
use Rattle.kube_objects.specs.Tick.{add, new_taint, restamped}
use Rattle.kube_objects.specs.Tries.{try_node}
use Rattle.object_store.proofs.Keeps.{store-beside}
use Rattle.object_store.specs.declared.store.Store.{Store}
use Rattle.taint_zones.specs.declared.limit.Limit.{Limit}
use Rattle.taint_zones.specs.declared.place.Place.{Place}
use Rattle.taint_zones.specs.declared.pushes.ZonePushes.{ZonePushes}
use Rattle.taint_zones.specs.declared.zones.Zones.{Zones}
use Rattle.taint_zones.specs.Limits.{LimitStands, LimitsStand, after_token, limit_at, taken_at}
use Rattle.taint_zones.specs.Places.{entry_place, of_place, zone_eq}
use Rattle.taint_zones.specs.Pushing.{counted_at, pushed_at}
use Rattle.tick_laws.specs.Changes.{IsSame, turn_at, turn_by, turn_of}
use Rattle.tick_laws.proofs.Frames.{own_change}
use Rattle.tick_laws.proofs.Orders.{same_place}
use Rattle.tick_laws.proofs.Pushing.{head_queue, skip_queue, turn_base, turn_base_elsewhere, turn_counts, turn_full_by, turn_full_by_elsewhere, turn_queue_elsewhere, turn_rated}
use Rattle.tick_laws.proofs.Ticked.{own_before}
use Rattle.term_state.specs.ClusterStands.{no_node, no_pod}
use Rattle.term_state.specs.MidTick.{MidTick}
use Rattle.term_state.specs.declared.cluster.Cluster.{Cluster}
use Rattle.term_state.specs.declared.told.Told.{Told}
use Rattle.term_state.proofs.Aside.{refused_moved, same_aside}
use Rattle.term_state.proofs.Sighted.{sighted_same}
use Rattle.term_state.proofs.Telling.{told_beside}
use Rattle.controller_core.specs.Pushing.{PushesStand}
use Rattle.controller_core.specs.Restamping.{lets_go}

-- ---- a turn that writes nothing

skip_change : (q : Identity) (k : ℕ) (h : List Entry) (place : entry.Place) (name : ℕ) → IsSame q h (add k q (Skip place name) h)
skip_change q k h place name = own_change q k h (Skip place name) refl refl

pub run_skip : (doc : Doc) (q : Identity) (k : ℕ) (before : List Deed) (h : List Entry) (place : entry.Place) (name : ℕ) (c : Cluster) (s : Store) (t : Told) → MidTick doc q k before h c s t
    → MidTick doc q k before (add k q (Skip place name) h) c s t
run_skip doc q k before h place name c s t r =
    let g = add k q (Skip place name) h in
    let change = skip_change q k h place name in
    record {
      cluster = same_aside q h g no_node no_pod c change r.cluster;
      from = r.from;
      sights = sighted_same doc.settings.rules.evict_from doc k q h g c (own_before q k (Skip place name) h) change r.sights;
      moved = refused_moved q h g None change k c c (own_before q k (Skip place name) h) (λ n. refl) r.moved;
      store = store-beside h (entry.entry k 4 q (Ticks (Skip place name))) s r.store refl;
      told = told_beside q k before h (Skip place name) t refl r.told;
      synced = change.synced ∙ r.synced;
    }

-- ---- limits and queues after the turn of a push of this name

module _ (doc : Doc) (k : ℕ) (q : Identity) (h : List Entry) (p : Place) (name : ℕ) (o : Option (Version × Node)) where
  abbrev pub turn : Tick
  turn = turn_of doc k q (entry_place p) name o h

  abbrev pub turned : List Entry
  turned = add k q turn h

  at_place : turn_at turn ≡ Some (entry_place p)
  at_place = by_seen o
    where
      by_wants : (x : Version × Node) (w : Wants) → turn_at (turn_by doc k q (entry_place p) name x.0 x.1 w (try_node q name x.0 h)) ≡ Some (entry_place p)
      by_wants x (Wanted wanted) = refl
      by_wants x Nothing = refl
      by_wants x Whatever = refl

      by_seen : (o : Option (Version × Node)) → turn_at (turn_of doc k q (entry_place p) name o h) ≡ Some (entry_place p)
      by_seen None = refl
      by_seen (Some x) = by_wants x (wants_ready x.1.ready)

  limit_elsewhere : (zone : entry.Place) (x : Option Limit) → LimitStands doc q h zone x → place_eq (entry_place p) zone ≡ false → LimitStands doc q turned zone x
  limit_elsewhere zone None s apart = record { rated = s.rated ∙ sym (turn_rated doc q k turn (entry_place p) h at_place zone); rate = tt; base = tt; full = tt }
  limit_elsewhere zone (Some limit) s apart =
      record {
        rated = s.rated ∙ sym (turn_rated doc q k turn (entry_place p) h at_place zone);
        rate = s.rate;
        base = s.base ∙ ap (local doc q.process) (sym (turn_base_elsewhere doc q k turn (entry_place p) h at_place zone apart));
        full = s.full ∙ sym (turn_full_by_elsewhere doc q k turn (entry_place p) h at_place doc.settings.rules.bucket zone apart);
      }

  limit_here : (now : ℕ) → now ≡ local doc q.process k → (x : Option Limit) → LimitStands doc q h (entry_place p) x → LimitStands doc q turned (entry_place p) (after_token now x)
  limit_here now reading None s = record { rated = s.rated ∙ sym (turn_rated doc q k turn (entry_place p) h at_place (entry_place p)); rate = tt; base = tt; full = tt }
  limit_here now reading (Some limit) s =
      record {
        rated = s.rated ∙ sym (turn_rated doc q k turn (entry_place p) h at_place (entry_place p));
        rate = s.rate;
        base = reading ∙ ap (local doc q.process) (sym (turn_base doc q k turn (entry_place p) h at_place));
        full = sym (turn_full_by doc q k turn (entry_place p) h at_place doc.settings.rules.bucket);
      }

  pub limits_turned : (old new : Zones) (now : ℕ) → now ≡ local doc q.process k → LimitsStand doc q h old → ((zone : entry.Place) → limit_at new zone ≡ taken_at p now zone (limit_at old zone))
      → LimitsStand doc q turned new
  limits_turned old new now reading s taken zone = subst (LimitStands doc q turned zone) (sym (taken zone)) (by_zone (place_eq (entry_place p) zone) refl)
    where
      by_zone : (b : Bool) → place_eq (entry_place p) zone ≡ b → LimitStands doc q turned zone (cond b (after_token now (limit_at old zone)) (limit_at old zone))
      by_zone false apart = limit_elsewhere zone (limit_at old zone) (s zone) apart
      by_zone true is =
          subst (λ z. LimitStands doc q turned z (after_token now (limit_at old z))) (same_place (entry_place p) zone is) (limit_here now reading (limit_at old (entry_place p)) (s (entry_place p)))

  -- the zone's own queue
  queue_here : queue doc q (entry_place p) (passes q turned) ≡ had_turn (counts doc q (entry_place p) name (passes q h)) (lets_go turn) (queue doc q (entry_place p) (passes q h))
  queue_here = by_seen o
    where
      by_wants : (x : Version × Node) (w : Wants) → queue doc q (entry_place p) (passes q (add k q (turn_by doc k q (entry_place p) name x.0 x.1 w (try_node q name x.0 h)) h))
          ≡ had_turn (counts doc q (entry_place p) name (passes q h)) (lets_go (turn_by doc k q (entry_place p) name x.0 x.1 w (try_node q name x.0 h))) (queue doc q (entry_place p) (passes q h))
      by_wants x (Wanted wanted) = head_queue doc q k (entry_place p) name wanted x.0 (restamped (new_taint doc k q wanted) x.1) (try_node q name x.0 h) h
      by_wants x Nothing = skip_queue doc q k (entry_place p) name h
      by_wants x Whatever = skip_queue doc q k (entry_place p) name h

      by_seen : (o : Option (Version × Node)) → queue doc q (entry_place p) (passes q (add k q (turn_of doc k q (entry_place p) name o h) h))
          ≡ had_turn (counts doc q (entry_place p) name (passes q h)) (lets_go (turn_of doc k q (entry_place p) name o h)) (queue doc q (entry_place p) (passes q h))
      by_seen None = skip_queue doc q k (entry_place p) name h
      by_seen (Some x) = by_wants x (wants_ready x.1.ready)

  counts_turned : (old new : ZonePushes) → PushesStand doc q h old → ((zone : Place) (n : ℕ) → counted_at new zone n ≡ counted_at old zone n)
      → (place : entry.Place) (n : ℕ) → counted_at new (of_place place) n ≡ counts doc q place n (passes q turned)
  counts_turned old new s now place n = now (of_place place) n ∙ s.counts place n ∙ sym (turn_counts doc q k turn (entry_place p) h at_place place n)

  -- with what the zone's names become
  names_turned : (old new : ZonePushes) → PushesStand doc q h old → (names : List ℕ) → names ≡ had_turn (counts doc q (entry_place p) name (passes q h)) (lets_go turn) (queue doc q (entry_place p) (passes q h))
      → ((zone : Place) → pushed_at new zone ≡ cond (zone_eq p zone) names (pushed_at old zone)) → (place : entry.Place) → pushed_at new (of_place place) ≡ queue doc q place (passes q turned)
  names_turned old new s names here now place = now (of_place place) ∙ by_zone (place_eq (entry_place p) place) refl
    where
      by_zone : (b : Bool) → place_eq (entry_place p) place ≡ b → cond b names (pushed_at old (of_place place)) ≡ queue doc q place (passes q turned)
      by_zone false apart = s.names place ∙ sym (turn_queue_elsewhere doc q k turn (entry_place p) h at_place place apart)
      by_zone true is = subst (λ z. names ≡ queue doc q z (passes q turned)) (same_place (entry_place p) place is) (here ∙ sym queue_here)

  -- the push goes where its node counts as pushed
  pub pushes_taken : (old new : ZonePushes) → PushesStand doc q h old → lets_go turn ≡ true → (rest : List ℕ) → pushed_at old p ≡ name ∷ rest
      → ((zone : Place) (node : ℕ) (rest : List ℕ) → pushed_at old zone ≡ node ∷ rest → pushed_at new zone ≡ cond (zone_eq p zone) (taken (counted_at old zone node) (pushed_at old zone)) (pushed_at old zone))
      → ((zone : Place) → pushed_at old zone ≡ [] → pushed_at new zone ≡ []) → ((zone : Place) (n : ℕ) → counted_at new zone n ≡ counted_at old zone n) → PushesStand doc q turned new
  pushes_taken old new s goes rest head some none now =
      record {
        names = names_turned old new s (taken (counts doc q (entry_place p) name (passes q h)) (queue doc q (entry_place p) (passes q h)))
            (sym (ap (λ b. had_turn (counts doc q (entry_place p) name (passes q h)) b (queue doc q (entry_place p) (passes q h))) goes)) (λ zone. by_names zone (pushed_at old zone) refl);
        counts = counts_turned old new s now;
      }
    where
      by_names : (zone : Place) (names : List ℕ) → pushed_at old zone ≡ names
          → pushed_at new zone ≡ cond (zone_eq p zone) (taken (counts doc q (entry_place p) name (passes q h)) (queue doc q (entry_place p) (passes q h))) (pushed_at old zone)
      by_names zone [] is = none zone is ∙ sym is ∙ by_zone (place_eq (entry_place p) (entry_place zone)) refl
        where
          by_zone : (b : Bool) → place_eq (entry_place p) (entry_place zone) ≡ b
              → pushed_at old zone ≡ cond b (taken (counts doc q (entry_place p) name (passes q h)) (queue doc q (entry_place p) (passes q h))) (pushed_at old zone)
          by_zone false apart = refl
          by_zone true same = absurd (no_names (sym is ∙ ap (λ (z : entry.Place). pushed_at old (of_place z)) (sym (same_place (entry_place p) (entry_place zone) same)) ∙ head))
            where
              no_names : ◌≡◌ {A = List ℕ} [] (name ∷ rest) → ⊥
              no_names e = cc
      by_names zone (other ∷ others) is = some zone other others is ∙ by_zone (place_eq (entry_place p) (entry_place zone)) refl
        where
          at_zone : (z : entry.Place) → entry_place p ≡ z → pushed_at old (of_place z) ≡ other ∷ others
              → taken (counted_at old (of_place z) other) (pushed_at old (of_place z)) ≡ taken (counts doc q (entry_place p) name (passes q h)) (queue doc q (entry_place p) (passes q h))
          at_zone z same at =
              subst (λ z. pushed_at old (of_place z) ≡ other ∷ others → taken (counted_at old (of_place z) other) (pushed_at old (of_place z)) ≡ taken (counts doc q (entry_place p) name (passes q h)) (queue doc q (entry_place p) (passes q h)))
              same here at
            where
              its_name : (n m : ℕ) (ns ms : List ℕ) → ◌≡◌ {A = List ℕ} (n ∷ ns) (m ∷ ms) → n ≡ m
              its_name n m ns ms e = cc

              here : pushed_at old p ≡ other ∷ others → taken (counted_at old p other) (pushed_at old p) ≡ taken (counts doc q (entry_place p) name (passes q h)) (queue doc q (entry_place p) (passes q h))
              here at =
                  ap (λ n. taken (counted_at old p n) (pushed_at old p)) (its_name other name others rest (sym at ∙ head))
                  ∙ ap (λ b. taken b (pushed_at old p)) (s.counts (entry_place p) name)
                  ∙ ap (taken (counts doc q (entry_place p) name (passes q h))) (s.names (entry_place p))

          by_zone : (b : Bool) → place_eq (entry_place p) (entry_place zone) ≡ b → cond b (taken (counted_at old zone other) (pushed_at old zone)) (pushed_at old zone)
              ≡ cond b (taken (counts doc q (entry_place p) name (passes q h)) (queue doc q (entry_place p) (passes q h))) (pushed_at old zone)
          by_zone false apart = refl
          by_zone true same = at_zone (entry_place zone) (same_place (entry_place p) (entry_place zone) same) is

  -- it goes to the back
  pub pushes_back : (old new : ZonePushes) → PushesStand doc q h old → lets_go turn ≡ false → ((zone : Place) → pushed_at new zone ≡ cond (zone_eq p zone) (to_back (pushed_at old zone)) (pushed_at old zone))
      → ((zone : Place) (n : ℕ) → counted_at new zone n ≡ counted_at old zone n) → PushesStand doc q turned new
  pushes_back old new s stays now_names now =
      record {
        names = names_turned old new s (to_back (queue doc q (entry_place p) (passes q h)))
            (sym (ap (λ b. had_turn (counts doc q (entry_place p) name (passes q h)) b (queue doc q (entry_place p) (passes q h))) stays)) (λ zone. now_names zone ∙ by_zone zone (place_eq (entry_place p) (entry_place zone)) refl);
        counts = counts_turned old new s now;
      }
    where
      by_zone : (zone : Place) (b : Bool) → place_eq (entry_place p) (entry_place zone) ≡ b
          → cond b (to_back (pushed_at old zone)) (pushed_at old zone) ≡ cond b (to_back (queue doc q (entry_place p) (passes q h))) (pushed_at old zone)
      by_zone zone false apart = refl
      by_zone zone true same =
          subst (λ (z : entry.Place). to_back (pushed_at old (of_place z)) ≡ to_back (queue doc q (entry_place p) (passes q h))) (same_place (entry_place p) (entry_place zone) same)
          (ap to_back (s.names (entry_place p)))

-- ---- where the token isn't there

pub limits_kept : (doc : Doc) (q : Identity) (h : List Entry) (old new : Zones) → LimitsStand doc q h old → ((zone : entry.Place) → limit_at new zone ≡ limit_at old zone) → LimitsStand doc q h new
limits_kept doc q h old new s same zone = subst (LimitStands doc q h zone) (sym (same zone)) (s zone)
