-- Layer 4, the steps of a beat: beats that are passed over, as no entry stands at them, so nothing arrives at them and no event happens.
use Rattle.std.proofs.Common.{◌≡◌, ℕ, zero, suc, ◌<◌, ◌≤◌, ◌==◌, ◌⊎◌, inl, inr, nat_lt, Bool, true, false, cond, List, [], ◌∷◌, map, Some, None, slice_get, slice_index_or, get_or, length, drop, refl, sym, ap, ◌∙◌, subst, arith}
use Rattle.std.proofs.lemmas.Bool.Decides.{nat_tests}
use Rattle.std.proofs.lemmas.Option.{slice_get_cases, slice_get_read}
use Rattle.kube_base.specs.declared.numbers.Beat.{Beat}
use Rattle.kube_objects.specs.declared.script.Event.{Event}
use Rattle.kube_objects.specs.Document.{Doc, end_beat, processes}
use Rattle.kube_objects.specs.Entry.{Entry}
use Rattle.kube_objects.specs.InFlight.{requests_due, replies_due}
use Rattle.agenda_laws.specs.Ahead.{IsNextEvent, IsNextMessage, IsSilent}
use Rattle.agenda_laws.specs.Parts.{IsUneventful}
use Rattle.history_laws.specs.Tails.{Among}
use Rattle.agenda_laws.proofs.Parts.{events_add_by_parts}
use Rattle.agenda_laws.proofs.Standing.{beats_add_by_parts}
use Rattle.beat_laws.proofs.Unticked.{unticked_later}
use Rattle.script_reader.specs.Lawful.{AreLawfulFrom}
use Rattle.wire_calls.specs.declared.wire.Wire.{Wire}
use Rattle.wire_calls.specs.InFlight.{pending}
use Rattle.wire_calls.specs.WireStands.{InOrder, IsQuiet, NextIs, WireStands, as_sent, as_back, at_beat}
use Rattle.world_process.proofs.Names.{eq-is, eq-self, le-from, lt-from}
use Rattle.world_core.specs.declared.world.World.{World}
use Rattle.world_core.specs.Worlds.{AreQuiet, IsPlaced, WorldStands}
use Rattle.world_core.proofs.InTime.{in-time-later}

-- ---- the wire

-- nothing in flight arrives at the beats from k to before n
record AreSilent (k n : ℕ) (h : List Entry) : Type 0 where
  requests : (j : ℕ) → k ≤ j → j < n → requests_due j h ≡ []
  replies : (j : ℕ) → k ≤ j → j < n → replies_due j h ≡ []

silent-quiet : (doc : Doc) (k n : ℕ) (h : List Entry) → AreQuiet doc k n h → AreSilent k n h
silent-quiet doc k n h quiet = record { requests = λ j from less. ((beats_add_by_parts doc j h).0 (quiet j from less)).requests; replies = λ j from less. ((beats_add_by_parts doc j h).0 (quiet j from less)).replies }

order-skips : {S T : Type 0} (as_kept : S → T) (k n : ℕ) (f : ℕ → List S) (kept : ℕ → List T) → k ≤ n → ((j : ℕ) → k ≤ j → j < n → f j ≡ []) → InOrder as_kept k (f k) f kept → InOrder as_kept n (f n) f kept
order-skips as_kept k n f kept most silent s = record { before = before; present = from n most; after = λ j above. from j (omega (arith, most, above)) }
  where
    from : (j : ℕ) → k ≤ j → kept j ≡ map as_kept (f j)
    from j least = by_test (j == k) refl
      where
        by_test : (b : Bool) → (j == k) ≡ b → kept j ≡ map as_kept (f j)
        by_test true same = subst (λ i. kept i ≡ map as_kept (f i)) (sym (eq-is j k same)) s.present
        by_test false other =
            let less : k < j = lt-from k j (grind (arith, nat_tests)) in
            s.after j less

    before : (j : ℕ) → j < n → kept j ≡ []
    before j less = by_test (nat_lt j k) refl
      where
        by_test : (b : Bool) → nat_lt j k ≡ b → kept j ≡ []
        by_test true sooner = s.before j (lt-from j k sooner)
        by_test false later =
            let least : k ≤ j = grind (arith, nat_tests) in
            from j least ∙ ap (map as_kept) (silent j least less)

wire-skips : (n k m : ℕ) (h : List Entry) (w : Wire) → k ≤ m → AreSilent k m h → WireStands n k (requests_due k h) (replies_due k h) h w → WireStands n m (requests_due m h) (replies_due m h) h w
wire-skips n k m h w most silent s =
    record {
      count = s.count;
      links = s.links;
      requests = order-skips as_sent k m (λ j. requests_due j h) (pending w.requests) most silent.requests s.requests;
      replies = order-skips as_back k m (λ j. replies_due j h) (pending w.replies) most silent.replies s.replies;
      live_requests = s.live_requests;
      live_replies = s.live_replies;
      delays = s.delays;
    }

-- ---- the script

-- whatever is among the elements stands before a place, or from it on
among-split : {A : Type 0} (xs : List A) (n : ℕ) (x : A) → Among x xs → ((i : ℕ) × (i < n) × (slice_get xs i ≡ Some x)) ⊎ Among x (drop n xs)
among-split [] n x there = absurd there
among-split (z ∷ zs) zero x there = inr there
among-split (z ∷ zs) (suc n) x (inl is) = inl (0, omega arith, cc)
among-split {A = A} (z ∷ zs) (suc n) x (inr there) = by_place (among-split zs n x there)
  where
    by_place : ((i : ℕ) × (i < n) × (slice_get zs i ≡ Some x)) ⊎ Among x (drop n zs) → ((i : ℕ) × (i < suc n) × (slice_get (z ∷ zs) i ≡ Some x)) ⊎ Among x (drop (suc n) (z ∷ zs))
    by_place (inl t) = let less = t.1 in inl (suc t.0, omega (arith, less), t.2)
    by_place (inr later) = inr later

among-drop : {A : Type 0} (xs : List A) (n : ℕ) (x : A) → Among x (drop n xs) → Among x xs
among-drop [] zero x there = there
among-drop [] (suc n) x there = there
among-drop (z ∷ zs) zero x there = there
among-drop (z ∷ zs) (suc n) x there = inr (among-drop zs n x there)

-- no event of those comes before the beat, and none after the end
lawful-among : (doc : Doc) (k : ℕ) (es : List Event) (e : Event) → AreLawfulFrom doc k es → Among e es → k ≤ e.beat.0
lawful-among doc k [] e lawful there = absurd there
lawful-among doc k (x ∷ es) e lawful (inl is) = subst (λ y. k ≤ y.beat.0) (sym is) lawful.0
lawful-among doc k (x ∷ es) e lawful (inr there) =
    let first = lawful.0 in
    let later = lawful-among doc x.beat.0 es e lawful.3 there in
    omega (arith, first, later)

lawful-later : (doc : Doc) (k n : ℕ) (es : List Event) → AreLawfulFrom doc k es → ((e : Event) → Among e es → n ≤ e.beat.0) → AreLawfulFrom doc n es
lawful-later doc k n [] lawful least = tt
lawful-later doc k n (e ∷ es) lawful least = (least e (inl refl), lawful.1, lawful.2, lawful.3)

-- an event that comes from beat k on doesn't stand at a quiet beat
event-later : (doc : Doc) (k n : ℕ) (h : List Entry) (e : Event) → AreQuiet doc k n h → Among e doc.events → k ≤ e.beat.0 → n ≤ e.beat.0
event-later doc k n h e quiet there from = by_test (nat_lt e.beat.0 n) refl
  where
    by_test : (b : Bool) → nat_lt e.beat.0 n ≡ b → n ≤ e.beat.0
    by_test false later = grind (arith, nat_tests)
    by_test true sooner =
        let none : IsUneventful doc e.beat.0 = (events_add_by_parts doc e.beat.0 h).0 ((beats_add_by_parts doc e.beat.0 h).0 (quiet e.beat.0 from (lt-from e.beat.0 n sooner))).events in
        let other = none.events e there in
        let same = eq-self e.beat.0 in
        cc

placed-skips : (doc : Doc) (k n place : ℕ) (h : List Entry) → k ≤ n → AreQuiet doc k n h → IsPlaced doc k place → IsPlaced doc n place
placed-skips doc k n place h most quiet placed =
    record {
      earlier = λ i e less here. (let sooner = placed.earlier i e less here in omega (arith, sooner, most));
      later = lawful-later doc k n (drop place doc.events) placed.later (λ e there. event-later doc k n h e quiet (among-drop doc.events place e there) (lawful-among doc k (drop place doc.events) e placed.later there));
    }

-- ---- the world

-- the world before a later beat
pub world-skips : (doc : Doc) (k : ℕ) (at : Beat) (h : List Entry) (w : World) → k ≤ at.0 → AreQuiet doc k at.0 h → WorldStands doc k h w → WorldStands doc at.0 h (record w { beat = at })
world-skips doc k at h w most quiet s =
    let r = s.within.rest in
    let d = r.document in
    record {
      within = record {
        rest = record {
          document = record { at = refl; restart = d.restart; count = d.count; epoch = d.epoch; micros = d.micros; events = d.events; controllers = d.controllers; stalls = d.stalls };
          plain = r.plain;
          store = r.store;
          wire = wire-skips (processes doc) k at.0 h w.wire most (silent-quiet doc k at.0 h quiet) r.wire;
          in_force = r.in_force;
        };
        processes = s.within.processes;
      };
      placed = placed-skips doc k at.0 w.place h most quiet s.placed;
      unticked = unticked_later k at.0 h s.unticked most;
      in_time = in-time-later k at.0 h most s.in_time;
    }

-- ---- the next event

none-drop : {A : Type 0} (xs : List A) (i : ℕ) → slice_get xs i ≡ None → drop i xs ≡ []
none-drop [] zero none = refl
none-drop [] (suc i) none = refl
none-drop (x ∷ xs) zero none = cc
none-drop (x ∷ xs) (suc i) none = none-drop xs i none

some-drop : {A : Type 0} (xs : List A) (i : ℕ) (x : A) → slice_get xs i ≡ Some x → Among x (drop i xs)
some-drop [] i x some = cc
some-drop (y ∷ ys) zero x some = let same : y ≡ x = cc in inl (sym same)
some-drop (y ∷ ys) (suc i) x some = some-drop ys i x some

-- what comes from a place on comes no sooner than the event there
first-least : (doc : Doc) (k : ℕ) (es : List Event) (i : ℕ) (x e : Event) → slice_get es i ≡ Some x → AreLawfulFrom doc k (drop i es) → Among e (drop i es) → x.beat.0 ≤ e.beat.0
first-least doc k [] i x e here lawful there = cc
first-least doc k (y ∷ ys) zero x e here lawful (inl is) = let same : y ≡ x = cc in let e_is : e ≡ x = is ∙ same in subst (λ z. x.beat.0 ≤ z.beat.0) (sym e_is) (omega arith)
first-least doc k (y ∷ ys) zero x e here lawful (inr there) = let same : y ≡ x = cc in subst (λ z. z.beat.0 ≤ e.beat.0) same (lawful-among doc y.beat.0 ys e lawful.3 there)
first-least doc k (y ∷ ys) (suc i) x e here lawful there = first-least doc k ys i x e here lawful there

lawful-end : (doc : Doc) (k : ℕ) (es : List Event) (e : Event) → AreLawfulFrom doc k es → Among e es → e.beat.0 ≤ end_beat doc
lawful-end doc k [] e lawful there = absurd there
lawful-end doc k (x ∷ es) e lawful (inl is) = subst (λ y. y.beat.0 ≤ end_beat doc) (sym is) lawful.1
lawful-end doc k (x ∷ es) e lawful (inr there) = lawful-end doc x.beat.0 es e lawful.3 there

-- what a slice answers at a place
pub found-at : {A : Type 0} (xs : List A) (i : ℕ) (x : A) → (true ≡ nat_lt i (length xs)) × (x ≡ slice_index_or xs i x) → slice_get xs i ≡ Some x
found-at xs i x found = slice_get_read xs (length xs) i x refl (lt-from i (length xs) (sym found.0)) found.1

pub found-none : {A : Type 0} (xs : List A) (i : ℕ) → nat_lt i (length xs) ≡ false → slice_get xs i ≡ None
found-none {A = A} xs i past = by_place (slice_get_cases xs i).1
  where
    by_place : ((x : A) × (i < length xs) × (slice_get xs i ≡ Some x) × (get_or xs i x ≡ x)) ⊎ ((length xs ≤ i) × (slice_get xs i ≡ None)) → slice_get xs i ≡ None
    by_place (inl t) = (let least = le-from i (length xs) past in let less = t.1 in absurd (omega (arith, least, less)))
    by_place (inr t) = t.1

-- every event was of an earlier beat
pub no-event : (doc : Doc) (k place : ℕ) → IsPlaced doc k place → slice_get doc.events place ≡ None → IsNextEvent doc k None
no-event doc k place placed none =
    record {
      quiet = λ j from early e there same. by_place j from e same (among-split doc.events place e there);
      there = λ n is. cc;
    }
  where
    by_place : (j : ℕ) → k ≤ j → (e : Event) → e.beat.0 ≡ j → ((i : ℕ) × (i < place) × (slice_get doc.events i ≡ Some e)) ⊎ Among e (drop place doc.events) → ⊥
    by_place j from e same (inl t) = let sooner = placed.earlier t.0 e t.1 t.2 in absurd (omega (arith, sooner, from, same))
    by_place j from e same (inr later) = subst (Among e) (none-drop doc.events place none) later

-- the event at the place is next
pub next-event : (doc : Doc) (k place : ℕ) (x : Event) → IsPlaced doc k place → slice_get doc.events place ≡ Some x → IsNextEvent doc k (Some x.beat.0)
next-event doc k place x placed here =
    record {
      quiet = λ j from early e there same. by_place j from (lt-from j x.beat.0 early) e same (among-split doc.events place e there);
      there = λ n is. (let at : x.beat.0 ≡ n = cc in (
        record { from = subst (λ m. k ≤ m) at (lawful-among doc k (drop place doc.events) x placed.later later); within = subst (λ m. m ≤ end_beat doc) at (lawful-end doc k (drop place doc.events) x placed.later later) },
        (x, among-drop doc.events place x later, at),
      ));
    }
  where
    later : Among x (drop place doc.events)
    later = some-drop doc.events place x here

    by_place : (j : ℕ) → k ≤ j → j < x.beat.0 → (e : Event) → e.beat.0 ≡ j → ((i : ℕ) × (i < place) × (slice_get doc.events i ≡ Some e)) ⊎ Among e (drop place doc.events) → ⊥
    by_place j from less e same (inl t) = let sooner = placed.earlier t.0 e t.1 t.2 in absurd (omega (arith, sooner, from, same))
    by_place j from less e same (inr later) = let least = first-least doc k doc.events place x e here placed.later later in absurd (omega (arith, least, less, same))

-- ---- the next message

-- from beat k on, what is seen to arrive is what the history says; before it nothing is
at-due : {S : Type 0} (k j : ℕ) (f : ℕ → List S) → k ≤ j → at_beat k (f k) f j ≡ f j
at-due k j f from = by_test (j == k) refl
  where
    by_test : (b : Bool) → (j == k) ≡ b → at_beat k (f k) f j ≡ f j
    by_test true same = ap (λ b. cond b (f k) (cond (nat_lt k j) (f j) [])) same ∙ ap f (sym (eq-is j k same))
    by_test false other =
        let less : nat_lt k j ≡ true = grind (arith, nat_tests) in
        ap (λ b. cond b (f k) (cond (nat_lt k j) (f j) [])) other ∙ ap (λ b. cond b (f j) []) less

at-past : {S : Type 0} (k j : ℕ) (f : ℕ → List S) → j < k → at_beat k (f k) f j ≡ []
at-past k j f less =
    let other : (j == k) ≡ false = grind (arith, nat_tests) in
    let before : nat_lt k j ≡ false = grind (arith, nat_tests) in
    ap (λ b. cond b (f k) (cond (nat_lt k j) (f j) [])) other ∙ ap (λ b. cond b (f j) []) before

silent-at : (k j : ℕ) (h : List Entry) → k ≤ j → IsQuiet k (requests_due k h) (replies_due k h) h j → IsSilent j h
silent-at k j h from quiet = record { requests = sym (at-due k j (λ i. requests_due i h) from) ∙ quiet.0; replies = sym (at-due k j (λ i. replies_due i h) from) ∙ quiet.1 }

-- nothing is in flight
pub no-message : (doc : Doc) (k : ℕ) (h : List Entry) → NextIs k (requests_due k h) (replies_due k h) h None → IsNextMessage doc k h None
no-message doc k h next = record { quiet = λ j from within early. silent-at k j h from (next j); there = λ n is. cc }

-- what is in flight arrives after the end
pub late-message : (doc : Doc) (k : ℕ) (h : List Entry) (at : Beat) → end_beat doc < at.0 → NextIs k (requests_due k h) (replies_due k h) h (Some at) → IsNextMessage doc k h None
late-message doc k h at late next = record { quiet = λ j from within early. silent-at k j h from (next.1 j (omega (arith, within, late))); there = λ n is. cc }

pub next-message : (doc : Doc) (k : ℕ) (h : List Entry) (at : Beat) → at.0 ≤ end_beat doc → NextIs k (requests_due k h) (replies_due k h) h (Some at) → IsNextMessage doc k h (Some at.0)
next-message doc k h at within next =
    record {
      quiet = λ j from inside early. silent-at k j h from (next.1 j (lt-from j at.0 early));
      there = λ n is. (let same : at.0 ≡ n = cc in (
        record { from = subst (λ m. k ≤ m) same from; within = subst (λ m. m ≤ end_beat doc) same within },
        subst (λ m. ¬ IsSilent m h) same (λ silent. next.0 (at-due k at.0 (λ i. requests_due i h) from ∙ silent.requests, at-due k at.0 (λ i. replies_due i h) from ∙ silent.replies)),
      ));
    }
  where
    from : k ≤ at.0
    from = by_test (nat_lt at.0 k) refl
      where
        by_test : (b : Bool) → nat_lt at.0 k ≡ b → k ≤ at.0
        by_test false later = grind (arith, nat_tests)
        by_test true past =
            let less = lt-from at.0 k past in
            absurd (next.0 (at-past k at.0 (λ i. requests_due i h) less, at-past k at.0 (λ i. replies_due i h) less))
