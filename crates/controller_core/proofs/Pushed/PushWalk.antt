-- The walk over zones whose queues hold pushes.
use Rattle.std.proofs.Common.{◌≡◌, ◌∙◌, ℕ, true, List, [], ◌∷◌, Option, Some, None, refl, sym, ap, subst, Less}
use Rattle.std.specs.Ordering.{is_lt}
use Rattle.kube_objects.specs.declared.deed.Deed.{Deed}
use Rattle.kube_objects.specs.Document.{Doc}
use Rattle.kube_objects.specs.Entry as entry
use Rattle.kube_objects.specs.Entry.{Entry, Identity}
use Rattle.kube_objects.specs.Health.{before_pass}
use Rattle.kube_objects.specs.Judgement.{passes, queue}
use Rattle.kube_objects.specs.Modes.{nodes, place_cmp, places}
use Rattle.kube_objects.specs.Seen.{seen_node}
use Rattle.kube_objects.specs.Tick.{for_each, push}
use Rattle.object_store.specs.declared.store.Store.{Store}
use Rattle.taint_zones.specs.declared.place.Place.{Place}
use Rattle.taint_zones.specs.declared.pushes.ZonePushes.{ZonePushes}
use Rattle.taint_zones.specs.declared.zones.Zones.{Zones}
use Rattle.taint_zones.specs.Limits.{LimitsStand}
use Rattle.taint_zones.specs.Places.{entry_place, of_place}
use Rattle.taint_zones.specs.Pushing.{IsNextPushed, pushed_at}
use Rattle.tick_laws.specs.Changes.{turn_of}
use Rattle.tick_laws.specs.Ticked.{IsTicked}
use Rattle.tick_laws.specs.Walks.{Among, after, is_after}
use Rattle.tick_laws.proofs.Orders.{places_strict}
use Rattle.tick_laws.proofs.Pushing.{push_either, push_end, push_nobody, queued_among, turn_before, turn_place}
use Rattle.tick_laws.proofs.Tainting.{places_ascend}
use Rattle.tick_laws.proofs.Ticked.{ticked_more, ticked_same}
use Rattle.tick_laws.proofs.Walks.{after_none}
use Rattle.term_state.specs.MidTick.{IsView, MidTick}
use Rattle.term_state.specs.declared.cluster.Cluster.{Cluster}
use Rattle.term_state.specs.declared.told.Told.{Told}
use Rattle.term_state.specs.declared.view.View.{View}
use Rattle.term_state.proofs.Viewing.{view_ticked}
use Rattle.controller_core.specs.Pushing.{PushesStand}
use Rattle.controller_core.proofs.Tainting.ZoneWalk.{after_is, entry_at, is_later, walk_to}

-- a zone without a push adds nothing
pub zone_idle : (doc : Doc) (k : ℕ) (q : Identity) (h : List Entry) (pushes : ZonePushes) (zone : entry.Place) → PushesStand doc q h pushes → pushed_at pushes (of_place zone) ≡ [] → push doc k q zone h ≡ h
zone_idle doc k q h pushes zone s empty = push_nobody doc k q zone h (sym (s.names zone) ∙ empty)

push_ticked : (doc : Doc) (k : ℕ) (q : Identity) (place : entry.Place) (h : List Entry) → IsTicked q k h (push doc k q place h)
push_ticked doc k q place h =
    push_either doc k q place h (IsTicked q k h) (ticked_same q k h) (λ name names token is. ticked_more q k h h (turn_of doc k q place name (seen_node q name h) h) (ticked_same q k h))

push_before : (doc : Doc) (k : ℕ) (q : Identity) (place : entry.Place) (h : List Entry) → before_pass q (push doc k q place h) ≡ before_pass q h
push_before doc k q place h =
    push_either doc k q place h (λ g. before_pass q g ≡ before_pass q h) refl
    (λ name names token is. turn_before doc q k (turn_of doc k q place name (seen_node q name h) h) place h (turn_place doc k q place name h))

-- ---- h is the history at the start, now the one that is reached, and c the zone that the walk is at

pub record Walking (doc : Doc) (q : Identity) (k : ℕ) (before : List Deed) (h now : List Entry) (c : Option Place) (z : Zones) (t : Cluster) (s : Store) (v : View) (told : Told) : Type 0 where
  pub running : MidTick doc q k before now t s told
  pub limits : LimitsStand doc q now z
  pub pushes : PushesStand doc q now z.pushes
  pub view : IsView doc k q now v
  pub follows : for_each (push doc k q) (after place_cmp (entry_at c) (places (nodes q (before_pass q h)))) now ≡ for_each (push doc k q) (places (nodes q (before_pass q h))) h
  pub last : before_pass q now ≡ before_pass q h

pub begin_walk : (doc : Doc) (q : Identity) (k : ℕ) (before : List Deed) (h : List Entry) (z : Zones) (t : Cluster) (s : Store) (v : View) (told : Told) → MidTick doc q k before h t s told
    → LimitsStand doc q h z → PushesStand doc q h z.pushes → IsView doc k q h v → Walking doc q k before h h None z t s v told
begin_walk doc q k before h z t s v told running limits pushes view =
    record {
      running = running;
      limits = limits;
      pushes = pushes;
      view = view;
      follows = ap (λ zones. for_each (push doc k q) zones h) (after_none place_cmp places_strict (places (nodes q (before_pass q h))));
      last = refl;
    }

module _ (doc : Doc) (q : Identity) (k : ℕ) (before : List Deed) (h now : List Entry) (c : Option Place) (z : Zones) (t : Cluster) (s : Store) (v : View) (told : Told)
    (w : Walking doc q k before h now c z t s v told) where
  -- a turn at the next zone that has a queue
  pub next_walk : (p : Place) (y : Zones) (u : Cluster) (r : Store) (more : Told) → IsNextPushed z.pushes c (Some p) → MidTick doc q k before (push doc k q (entry_place p) now) u r more
      → LimitsStand doc q (push doc k q (entry_place p) now) y → PushesStand doc q (push doc k q (entry_place p) now) y.pushes
      → Walking doc q k before h (push doc k q (entry_place p) now) (Some p) y u r v more
  next_walk p y u r more (later, between) running limits pushes =
      record {
        running = running;
        limits = limits;
        pushes = pushes;
        view = view_ticked doc k q now (push doc k q (entry_place p) now) v (push_ticked doc k q (entry_place p) now) w.view;
        follows =
            sym (walk_to place_cmp places_strict (push doc k q) (entry_at c) (entry_place p) (places (nodes q (before_pass q h))) now (after_is c p later) (places_ascend (nodes q (before_pass q h))) idle out)
            ∙ w.follows;
        last = push_before doc k q (entry_place p) now ∙ w.last;
      }
    where
      idle : (zone : entry.Place) → is_after place_cmp (entry_at c) zone ≡ true → place_cmp zone (entry_place p) ≡ Less → push doc k q zone now ≡ now
      idle zone after_c less = zone_idle doc k q now z.pushes zone w.pushes (between (of_place zone) (is_later c zone after_c) (ap is_lt less))

      -- a zone that the last pass didn't find has no push
      out : (Among (entry_place p) (places (nodes q (before_pass q h))) → ⊥) → push doc k q (entry_place p) now ≡ now
      out absent = by_queue (queue doc q (entry_place p) (passes q now)) refl
        where
          by_queue : (names : List ℕ) → queue doc q (entry_place p) (passes q now) ≡ names → push doc k q (entry_place p) now ≡ now
          by_queue [] is = push_nobody doc k q (entry_place p) now is
          by_queue (name ∷ names) is =
              absurd (absent (subst (λ g. Among (entry_place p) (places (nodes q g))) w.last (queued_among doc q (entry_place p) now name names is)))

  pub end_walk : IsNextPushed z.pushes c None → now ≡ for_each (push doc k q) (places (nodes q (before_pass q h))) h
  end_walk none =
      sym (push_end doc k q (entry_at c) h now (λ zone after_c. zone_idle doc k q now z.pushes zone w.pushes (none (of_place zone) (is_later c zone after_c)))) ∙ w.follows
