-- Layer 4, the steps of a beat: what the leaves tell of who has the next turn.
use Rattle.std.proofs.Common.{◌≡◌, ℕ, ◌<◌, ◌≤◌, nat_lt, true, false, List, Option, Some, None, IfSome, refl, sym, ap, ◌∙◌, subst, arith}
use Rattle.std.proofs.lemmas.Bool.Decides.{nat_tests}
use Rattle.kube_base.specs.declared.numbers.Beat.{Beat}
use Rattle.kube_base.specs.declared.numbers.ProcId.{ProcId}
use Rattle.kube_objects.specs.Clocks.{local}
use Rattle.kube_objects.specs.Document.{Doc, end_beat, processes}
use Rattle.kube_objects.specs.Entry.{Entry}
use Rattle.agenda_laws.specs.Times.{is_early}
use Rattle.beat_tree.specs.Leaves.{IsFirst, leaf}
use Rattle.beat_tree.specs.Tidy.{comes_before}
use Rattle.world_process.specs.Beats.{beat_in, own_reading, reading_of}
use Rattle.world_process.specs.Processes.{clock_of, waking_of}
use Rattle.world_process.proofs.Readings.{reading-local}
use Rattle.world_process.proofs.Wakes.{asked-reading, asked_at}
use Rattle.world_core.specs.declared.world.World.{World}
use Rattle.world_core.specs.Worlds.{IsReady, WorldStands, end_of}
use Rattle.world_core.specs.Waits.{IsFirstTurn, IsLeastTurn, WaitsUntil, beat_of}
use Rattle.world_core.proofs.Awake.{beats-alike, its-clock}
use Rattle.world_core.proofs.Moving.{within-processes}
use Rattle.world_core.proofs.Passing.{early-before, has-process, slice_get-some}

-- a leaf tells, up to the end, when the reading is there that its process's turn waits for
pub record LeafTells (doc : Doc) (p : ℕ) (h : List Entry) (beat : Option Beat) : Type 0 where
  pub tells : (j : ℕ) → j ≤ end_beat doc → is_early j (beat_in beat) ≡ is_early (local doc p j) (own_reading doc p h)
  pub within : IfSome beat (λ b. b.0 ≤ end_beat doc)

pub leaf-tells : (doc : Doc) (k p : ℕ) (h : List Entry) (w : World) → IsReady w → WorldStands doc k h w → end_of w ≡ end_beat doc → p < processes doc → LeafTells doc p h (leaf w.turn_beats p)
leaf-tells doc k p h w ready s ends inside =
    let count = s.within.rest.document.count in
    let there = slice_get-some w.processes.items p (omega (arith, inside, count)) in
    let x = there.0 in
    let stands = s.within.processes p x there.1 in
    let clock = its-clock doc p h x stands in
    let at = asked_at (own_reading doc p h) in
    let is = asked-reading (own_reading doc p h) in
    let beat = (ready.kept p x there.1).first doc p h at stands is in
    let end : (clock_of x).end ≡ end_beat doc = ready.clocks p x there.1 ∙ ends in
    subst (LeafTells doc p h) (sym (ready.noted.leaves p x there.1))
    (record {
      tells = λ j within.
          beat.tells j (omega (arith, within, end)) ∙ ap (λ n. is_early n (reading_of at)) (reading-local doc p j (clock_of x) clock) ∙ ap (is_early (local doc p j)) is;
      within = subst (λ n. IfSome (waking_of x).until (λ b. b.0 ≤ n)) end beat.within;
    })

-- ---- before a beat

-- a leaf that doesn't come before a beat
pub waits-until : (doc : Doc) (p : ℕ) (h : List Entry) (beat before : Option Beat) → LeafTells doc p h beat → comes_before beat before ≡ false → WaitsUntil doc p h (beat_of before)
waits-until doc p h beat before t later j within early =
    sym (t.tells j within) ∙ early-before j beat before later (ap (is_early j) (sym (beats-alike before)) ∙ early)

not-itself : (n : ℕ) → nat_lt n n ≡ true → ⊥
not-itself n is = let never : nat_lt n n ≡ false = grind (arith, nat_tests) in cc

-- a leaf that comes before a beat
pub waits-less : (doc : Doc) (p : ℕ) (h : List Entry) (beat before : Option Beat) → LeafTells doc p h beat → comes_before beat before ≡ true → ¬ WaitsUntil doc p h (beat_of before)
waits-less doc p h None before t sooner waits = let never : false ≡ true = sooner in cc
waits-less doc p h (Some beat) before t sooner waits = not-itself beat.0 (t.tells beat.0 t.within ∙ waits beat.0 t.within (early before sooner))
  where
    early : (before : Option Beat) → comes_before (Some beat) before ≡ true → is_early beat.0 (beat_of before) ≡ true
    early None sooner = refl
    early (Some before) sooner = sooner

-- ---- who comes first

module _ (doc : Doc) (k : ℕ) (h : List Entry) (w : World) (ready : IsReady w) (s : WorldStands doc k h w) (ends : end_of w ≡ end_beat doc) where
  its-leaf : (p : ℕ) → p < processes doc → LeafTells doc p h (leaf w.turn_beats p)
  its-leaf p inside = leaf-tells doc k p h w ready s ends inside

  inside-of : (i : ℕ) (before : Option Beat) → comes_before (leaf w.turn_beats i) before ≡ true → i < processes doc
  inside-of i before sooner = within-processes doc k w i s.within.rest.document (has-process w i before ready sooner)

  pub first-none : (from : ℕ) (before : Option Beat) → IsFirst w.turn_beats from before None → IsFirstTurn doc from (beat_of before) h None
  first-none from before first =
      record { there = tt; passed = λ p more inside none. waits-until doc p h (leaf w.turn_beats p) before (its-leaf p inside) (first.passed p more tt) }

  pub first-some : (from : ℕ) (before : Option Beat) (who : ProcId) → IsFirst w.turn_beats from before (Some who.0) → IsFirstTurn doc from (beat_of before) h (Some who)
  first-some from before who first =
      record {
        there = waits-less doc who.0 h (leaf w.turn_beats who.0) before (its-leaf who.0 (inside-of who.0 before first.there.1)) first.there.1;
        passed = λ p more inside below. waits-until doc p h (leaf w.turn_beats p) before (its-leaf p inside) (first.passed p more below);
      }

  pub least-none : ((p : ℕ) → leaf w.turn_beats p ≡ None) → IsLeastTurn doc h None
  least-none none =
      record { there = tt; least = tt; none = λ p inside. waits-until doc p h (leaf w.turn_beats p) None (its-leaf p inside) (ap (λ b. comes_before b None) (none p)) }

  pub least-some : (who : ProcId) → comes_before (leaf w.turn_beats who.0) None ≡ true → ((p : ℕ) → comes_before (leaf w.turn_beats p) (leaf w.turn_beats who.0) ≡ false) → IsLeastTurn doc h (Some who)
  least-some who some least =
      let own = its-leaf who.0 (inside-of who.0 None some) in
      record {
        there = waits-less doc who.0 h (leaf w.turn_beats who.0) None own some;
        least = λ p inside j within early.
            sym ((its-leaf p inside).tells j within) ∙ early-before j (leaf w.turn_beats p) (leaf w.turn_beats who.0) (least p) (own.tells j within ∙ early);
        none = tt;
      }
