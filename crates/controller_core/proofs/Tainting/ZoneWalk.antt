-- The walk over zones.
use Rattle.std.proofs.Common.{◌≡◌, ◌∙◌, inl, inr, ℕ, ◌+◌, ◌-◌, ◌*◌, ◌<◌, Bool, true, false, cond, List, [], ◌∷◌, Option, Some, None, IfSome, refl, sym, ap, subst, arith, Less, Equal, Greater}
use Rattle.std.proofs.lemmas.Bool.Decides.{nat_tests}
use Rattle.std.proofs.lemmas.Cmp.{tied_itself}
use Rattle.std.specs.Ordering.{is_eq, is_lt, nat_cmp, ordering_reverse, ordering_then}
use Rattle.std.specs.declared.cmp.Ordering.{Ordering}
use Rattle.kube_objects.specs.declared.deed.Deed.{Deed}
use Rattle.kube_objects.specs.declared.rules.JudgeRule.TheVariants as judges
use Rattle.kube_objects.specs.Document.{Doc}
use Rattle.kube_objects.specs.Entry as entry
use Rattle.kube_objects.specs.Entry.{Entry, Identity}
use Rattle.kube_objects.specs.Modes.{nodes, place_cmp, place_eq, places}
use Rattle.kube_objects.specs.Tainting.{queued, waits}
use Rattle.kube_objects.specs.Tick.{for_each, taint, tainted, tainted_by}
use Rattle.history_laws.proofs.Plainly.{false_is}
use Rattle.object_store.specs.declared.store.Store.{Store}
use Rattle.taint_zones.specs.declared.place.Place.{Place}
use Rattle.taint_zones.specs.declared.queues.Queues.{Queues}
use Rattle.taint_zones.specs.declared.zones.Zones.{Zones}
use Rattle.taint_zones.specs.Places.{entry_place, of_place, zone_cmp}
use Rattle.taint_zones.specs.Waiting.{IsAfter, IsEmpty, IsNextZone}
use Rattle.tick_laws.specs.Judged.{key_if}
use Rattle.tick_laws.specs.Walks.{Above, Among, Ascends, IsStrict, after, is_after}
use Rattle.tick_laws.proofs.Orders.{places_strict}
use Rattle.tick_laws.proofs.Tainting.{heading_elsewhere, places_ascend, taint_either, taint_end, taint_nobody, waiting_place}
use Rattle.tick_laws.proofs.Ticked.{taint_ticked}
use Rattle.tick_laws.proofs.Walks.{above_less, after_more, after_none, not_before, not_itself}
use Rattle.term_state.specs.declared.cluster.Cluster.{Cluster}
use Rattle.term_state.specs.declared.told.Told.{Told}
use Rattle.term_state.specs.declared.view.View.{View}
use Rattle.term_state.specs.MidTick.{IsView}
use Rattle.term_state.proofs.Viewing.{view_ticked}
use Rattle.controller_core.proofs.Cursors.{less_is}
use Rattle.controller_core.specs.Heading.{Heading}
use Rattle.controller_core.specs.QueuesStand.{QueuesStand}

less_equal : (o : Ordering) → o ≡ Less → o ≡ Equal → ⊥
less_equal Less is isnt = cc
less_equal Equal is isnt = cc
less_equal Greater is isnt = cc

greater_equal : (o : Ordering) → o ≡ Greater → o ≡ Equal → ⊥
greater_equal Less is isnt = cc
greater_equal Equal is isnt = cc
greater_equal Greater is isnt = cc

greater_less : (o : Ordering) → o ≡ Greater → o ≡ Less → ⊥
greater_less Less is isnt = cc
greater_less Equal is isnt = cc
greater_less Greater is isnt = cc

below : (a b : ℕ) → nat_cmp a b ≡ Less → a < b
below a b is = grind (arith, nat_tests)

same : (a b : ℕ) → nat_cmp a b ≡ Equal → a ≡ b
same a b is = grind (arith, nat_tests)

-- ---- a walk to a place that may not be among those walked over

module _ {A : Type 0} (compare : A → A → Ordering) (strict : IsStrict compare) (f : A → List Entry → List Entry) where
  all_after : (c : Option A) (m : A) (ms : List A) → is_after compare c m ≡ true → after compare c (m ∷ ms) ≡ m ∷ ms
  all_after c m ms is = ap (λ b. cond b (m ∷ ms) (after compare c ms)) is

  past_above : (c : Option A) (m : A) (ms : List A) → is_after compare c m ≡ true → Above compare m ms → after compare c ms ≡ ms
  past_above c m [] is above = refl
  past_above c m (x ∷ xs) is above = all_after c x xs (after_more compare strict c m x is above.0)

  it_above : (m : A) (xs : List A) → Above compare m xs → after compare (Some m) xs ≡ xs
  it_above m [] above = refl
  it_above m (x ∷ xs) above = ap (λ o. cond (is_lt o) (x ∷ xs) (after compare (Some m) xs)) above.0

  pub walk_to : (c : Option A) (p : A) (names : List A) (h : List Entry) → is_after compare c p ≡ true → Ascends compare names
      → ((m : A) → is_after compare c m ≡ true → compare m p ≡ Less → f m h ≡ h) → ((Among p names → ⊥) → f p h ≡ h)
      → for_each f (after compare c names) h ≡ for_each f (after compare (Some p) names) (f p h)
  walk_to c p [] h later ascends idle out = sym (out (λ there. there))
  walk_to c p (m ∷ ms) h later ascends idle out = by_order (walk_to c p ms h later ascends.1 idle) (compare m p) refl
    where
      by_order : (((Among p ms → ⊥) → f p h ≡ h) → for_each f (after compare c ms) h ≡ for_each f (after compare (Some p) ms) (f p h)) → (o : Ordering) → compare m p ≡ o → for_each f (after compare c (m ∷ ms)) h ≡ for_each f (after compare (Some p) (m ∷ ms)) (f p h)
      by_order rest Less less =
          by_cursor (is_after compare c m) refl
          ∙ rest (λ absent. out (λ there. by_there absent there))
          ∙ ap (λ b. for_each f (cond b (m ∷ ms) (after compare (Some p) ms)) (f p h)) (sym (not_before compare strict m p less))
        where
          by_cursor : (b : Bool) → is_after compare c m ≡ b → for_each f (cond b (m ∷ ms) (after compare c ms)) h ≡ for_each f (after compare c ms) h
          by_cursor false test = refl
          by_cursor true test = ap (for_each f ms) (idle m test less) ∙ ap (λ xs. for_each f xs h) (sym (past_above c m ms test ascends.0))

          by_there : (Among p ms → ⊥) → Among p (m ∷ ms) → ⊥
          by_there absent (inl same) = less_equal (compare m p) less (ap (compare m) same ∙ tied_itself strict.total m)
          by_there absent (inr there) = absent there
      by_order rest Equal equal =
          let same = strict.same m p equal in
          subst (λ p. is_after compare c p ≡ true → for_each f (after compare c (m ∷ ms)) h ≡ for_each f (after compare (Some p) (m ∷ ms)) (f p h)) same here later
        where
          here : is_after compare c m ≡ true → for_each f (after compare c (m ∷ ms)) h ≡ for_each f (after compare (Some m) (m ∷ ms)) (f m h)
          here is =
              ap (λ xs. for_each f xs h) (all_after c m ms is)
              ∙ ap (λ xs. for_each f xs (f m h)) (sym (it_above m ms ascends.0))
              ∙ ap (λ b. for_each f (cond b (m ∷ ms) (after compare (Some m) ms)) (f m h)) (sym (not_itself compare strict m))
      by_order rest Greater greater =
          ap (λ xs. for_each f xs h) (all_after c m ms (after_more compare strict c p m later below))
          ∙ ap (for_each f (m ∷ ms)) (sym (out absent))
          ∙ ap (λ xs. for_each f xs (f p h)) (sym (all_after (Some p) m ms (ap is_lt below)))
        where
          below : compare p m ≡ Less
          below = strict.total.antisymm p m ∙ ap ordering_reverse greater

          absent : Among p (m ∷ ms) → ⊥
          absent (inl same) = greater_equal (compare m p) greater (ap (compare m) same ∙ tied_itself strict.total m)
          absent (inr there) = greater_less (compare m p) greater (above_less compare strict p m ms there ascends.0)

-- ---- zones in the code and in the history

abbrev pub entry_at : Option Place → Option entry.Place
entry_at None = None
entry_at (Some place) = Some (entry_place place)

pub after_is : (c : Option Place) (zone : Place) → IsAfter c zone → is_after place_cmp (entry_at c) (entry_place zone) ≡ true
after_is None zone later = refl
after_is (Some c) zone later = later

pub is_later : (c : Option Place) (zone : entry.Place) → is_after place_cmp (entry_at c) zone ≡ true → IsAfter c (of_place zone)
is_later None zone later = tt
is_later (Some c) zone later = later

-- where nobody is in the queue nothing is done
pub zone_idle : (doc : Doc) (k : ℕ) (q : Identity) (h : List Entry) (queues : Queues) (zone : entry.Place) → QueuesStand q h queues → IsEmpty queues (of_place zone) → taint doc k q zone h ≡ h
zone_idle doc k q h queues zone s empty = taint_nobody doc k q zone h (λ m. sym (s zone m) ∙ empty m)

-- a zone's queued taint leaves who waits in another
taint_elsewhere : (doc : Doc) (k : ℕ) (q : Identity) (place other : entry.Place) (h : List Entry) → place_eq place other ≡ false → (m : ℕ) → waits q other m (taint doc k q place h) ≡ waits q other m h
taint_elsewhere doc k q place other h apart m =
    taint_either doc k q place h (λ g. waits q other m g ≡ waits q other m h) refl (λ at n wanted w token head. heading_elsewhere doc k q place h n wanted w other apart m)

place_apart : (a b : entry.Place) → place_cmp a b ≡ Less → place_eq a b ≡ false
place_apart a b less = ap is_eq less

-- ---- h is the history at the start, now the one that is reached, and c the zone that the walk is at

pub record Walking (doc : Doc) (q : Identity) (k : ℕ) (before : List Deed) (h now : List Entry) (c : Option Place) (z : Zones) (t : Cluster) (s : Store) (v : View) (told : Told) : Type 0 where
  pub at_ticks : doc.settings.rules.judge ≡ judges.Tick
  pub heading : Heading doc q k before now z t s told
  pub view : IsView doc k q now v
  pub follows : for_each (taint doc k q) (after place_cmp (entry_at c) (places (nodes q h))) now ≡ tainted doc k q h
  pub elsewhere : (zone : entry.Place) → is_after place_cmp (entry_at c) zone ≡ true → (m : ℕ) → waits q zone m now ≡ waits q zone m h

pub begin_walk : (doc : Doc) (q : Identity) (k : ℕ) (before : List Deed) (h : List Entry) (z : Zones) (t : Cluster) (s : Store) (v : View) (told : Told) → doc.settings.rules.judge ≡ judges.Tick → Heading doc q k before h z t s told → IsView doc k q h v
    → Walking doc q k before h h None z t s v told
begin_walk doc q k before h z t s v told at_ticks heading view =
    record {
      at_ticks = at_ticks;
      heading = heading;
      view = view;
      follows = ap (λ zones. for_each (taint doc k q) zones h) (after_none place_cmp places_strict (places (nodes q h))) ∙ sym (ap (λ r. tainted_by r doc k q h) at_ticks);
      elsewhere = λ zone later m. refl;
    }

pub next_walk : (doc : Doc) (q : Identity) (k : ℕ) (before : List Deed) (h now : List Entry) (c : Option Place) (p : Place) (z y : Zones) (t u : Cluster) (s r : Store) (v : View) (told more : Told)
    → Walking doc q k before h now c z t s v told → IsNextZone z.queues c (Some p) → Heading doc q k before (taint doc k q (entry_place p) now) y u r more
    → Walking doc q k before h (taint doc k q (entry_place p) now) (Some p) y u r v more
next_walk doc q k before h now c p z y t u s r v told more w (later, between) heading =
    record {
      at_ticks = w.at_ticks;
      heading = heading;
      view = view_ticked doc k q now (taint doc k q (entry_place p) now) v (taint_ticked doc k q (entry_place p) now) w.view;
      follows = sym (walk_to place_cmp places_strict (taint doc k q) (entry_at c) (entry_place p) (places (nodes q h)) now (after_is c p later) (places_ascend (nodes q h)) idle out) ∙ w.follows;
      elsewhere = λ zone past m.
          taint_elsewhere doc k q (entry_place p) zone now (place_apart (entry_place p) zone (less_is (place_cmp (entry_place p) zone) past)) m
          ∙ w.elsewhere zone (after_more place_cmp places_strict (entry_at c) (entry_place p) zone (after_is c p later) (less_is (place_cmp (entry_place p) zone) past)) m;
    }
  where
    idle : (zone : entry.Place) → is_after place_cmp (entry_at c) zone ≡ true → place_cmp zone (entry_place p) ≡ Less → taint doc k q zone now ≡ now
    idle zone after_c less = zone_idle doc k q now z.queues zone w.heading.queues (between (of_place zone) (is_later c zone after_c) (ap is_lt less))

    -- in a zone without a node nobody waits
    out : (Among (entry_place p) (places (nodes q h)) → ⊥) → taint doc k q (entry_place p) now ≡ now
    out absent = taint_nobody doc k q (entry_place p) now (λ m. by_waits m (waits q (entry_place p) m now) refl)
      where
        by_waits : (m : ℕ) (o : Option ℕ) → waits q (entry_place p) m now ≡ o → key_if o (queued q (entry_place p) m now) ≡ None
        by_waits m None is = refl
        by_waits m (Some wanted) is = absurd (absent (waiting_place q (entry_place p) m wanted h (sym (w.elsewhere (entry_place p) (after_is c p later) m) ∙ is)))

pub end_walk : (doc : Doc) (q : Identity) (k : ℕ) (before : List Deed) (h now : List Entry) (c : Option Place) (z : Zones) (t : Cluster) (s : Store) (v : View) (told : Told)
    → Walking doc q k before h now c z t s v told → IsNextZone z.queues c None → now ≡ tainted doc k q h
end_walk doc q k before h now c z t s v told w none =
    sym (taint_end doc k q (entry_at c) h now (λ zone after_c. zone_idle doc k q now z.queues zone w.heading.queues (none (of_place zone) (is_later c zone after_c)))) ∙ w.follows

-- ---- the walk ends

-- a zone's place among all
abbrev pub number : Place → ℕ
number place = place.region * 4294967296 + place.zone

pub number_grows : (a b : Place) → a.zone < 4294967296 → is_lt (zone_cmp a b) ≡ true → number a < number b
number_grows a b fits less = by_region (nat_cmp a.region b.region) refl less
  where
    by_region : (o : Ordering) → nat_cmp a.region b.region ≡ o → is_lt (ordering_then o (nat_cmp a.zone b.zone)) ≡ true → number a < number b
    by_region Less is less = omega (arith, fits, below a.region b.region is)
    by_region Equal is less = omega (arith, fits, same a.region b.region is, below a.zone b.zone (less_is (nat_cmp a.zone b.zone) less))
    by_region Greater is less = absurd (false_is less)

-- how many places may still come
abbrev pub zones_left : Option Place → ℕ
zones_left None = 0
zones_left (Some place) = 18446744073709551616 - number place

pub fewer_left : (p : Place) (next : Option Place) → p.region < 4294967296 → p.zone < 4294967296 → IfSome next (λ next. IsAfter (Some p) next) → zones_left next < zones_left (Some p)
fewer_left p None region zone is = omega (arith, region, zone)
fewer_left p (Some n) region zone later = omega (arith, region, zone, number_grows p n zone later)
