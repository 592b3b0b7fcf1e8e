-- Layer 4, the steps of a beat: the kubelets whose turns' beats haven't come, and whom nobody asks.
use Rattle.std.proofs.Common.{◌≡◌, ℕ, zero, suc, ◌+◌, ◌-◌, ◌<◌, ◌≤◌, Bool, true, false, List, [], ◌∷◌, Option, Some, None, length, slice_get, vec_len, refl, sym, ap, ◌∙◌, subst, arith, ◌⊎◌, inl, inr, ◌==◌, if◌then◌else◌}
use Rattle.std.proofs.lemmas.Bool.{cases_lt}
use Rattle.std.proofs.lemmas.Bool.Decides.{nat_tests}
use Rattle.std.proofs.lemmas.Option.{slice_get_within}
use Rattle.kube_base.specs.declared.numbers.Beat.{Beat}
use Rattle.kube_objects.specs.declared.deed.Deed.{Deed}
use Rattle.kube_objects.specs.Document.{Doc, is_controller, processes}
use Rattle.kube_objects.specs.Entry.{Entry}
use Rattle.kube_objects.specs.Wire.{Back, Sent}
use Rattle.history.specs.Steps.{turn, turns}
use Rattle.agenda_laws.specs.Times.{is_early}
use Rattle.beat_tree.specs.declared.tree.BeatTree.{BeatTree}
use Rattle.beat_tree.specs.Leaves.{leaf, room}
use Rattle.beat_tree.specs.Tidy.{comes_before}
use Rattle.world_process.specs.declared.process.Process.{Process}
use Rattle.world_process.specs.Beats.{beat_in}
use Rattle.world_process.specs.Processes.{waking_of}
use Rattle.world_process.proofs.Names.{eq-is, eq-isnt, eq-self}
use Rattle.world_process.proofs.Wakes.{kept-still}
use Rattle.world_core.specs.declared.world.World.{World}
use Rattle.world_core.specs.Worlds.{AreNoted, IsReady, MidBeat}
use Rattle.world_process.specs.Moves.{own_ticks_as}
use Rattle.world_core.specs.Waits.{awake_turn}
use Rattle.world_core.proofs.Ranges.{not-below}
use Rattle.world_core.proofs.Ticking.{turn-is}
use Rattle.world_core.proofs.Turns.{awake-still}

pub slice_get-some : {A : Type 0} (xs : List A) (i : ℕ) → i < length xs → (x : A) × (slice_get xs i ≡ Some x)
slice_get-some [] i less = absurd (omega (arith, less))
slice_get-some (x ∷ xs) zero less = (x, refl)
slice_get-some (x ∷ xs) (suc i) less = slice_get-some xs i (omega (arith, less))

-- who doesn't come before a beat is early at each one before it
pub early-before : (j : ℕ) (beat before : Option Beat) → comes_before beat before ≡ false → is_early j (beat_in before) ≡ true → is_early j (beat_in beat) ≡ true
early-before j None before later early = refl
early-before j (Some beat) None later early = cc
early-before j (Some beat) (Some before) later early = grind (arith, nat_tests)

pub kubelet-is : (doc : Doc) (p : ℕ) → length doc.controllers ≤ p → is_controller doc p ≡ false
kubelet-is doc p more = not-below p (length doc.controllers) more

-- a kubelet has no tick
pub kubelet-turn : (doc : Doc) (k p : ℕ) (h : List Entry) → length doc.controllers ≤ p → turn doc k p h ≡ awake_turn doc k p h
kubelet-turn doc k p h more = turn-is doc k p h ∙ ap (λ b. own_ticks_as doc k p b (awake_turn doc k p h)) (kubelet-is doc p more)

-- a kubelet whose leaf doesn't come before the next beat adds nothing in its turn
passed-turn : (doc : Doc) (k p : ℕ) (before : List Deed) (arriving : List Sent) (coming : List Back) (h : List Entry) (w : World) (deeds : List Deed) (next : Beat) → IsReady w → w.beat.0 ≤ w.end.0 → next.0 ≡ w.beat.0 + 1
    → MidBeat doc k before arriving coming h w deeds → p < processes doc → length doc.controllers ≤ p → comes_before (leaf w.turn_beats p) (Some next) ≡ false → turn doc k p h ≡ h
passed-turn doc k p before arriving coming h w deeds next ready within next_is r inside more later =
    let d = r.world.rest.document in
    let count = d.count in
    let at = d.at in
    let there = slice_get-some w.processes.items p (omega (arith, inside, count)) in
    let x = there.0 in
    let end = ready.clocks p x there.1 in
    let stands = r.world.processes p x there.1 in
    let known : comes_before (waking_of x).until (Some next) ≡ false = subst (λ b. comes_before b (Some next) ≡ false) (ready.noted.leaves p x there.1) later in
    let now : is_early k (Some next.0) ≡ true = grind (arith, nat_tests, next_is, at) in
    let early = early-before k (waking_of x).until (Some next) known now in
    let still = (kept-still doc k p h x (ready.kept p x there.1) stands (omega (arith, at, end, within))).1 early in
    kubelet-turn doc k p h more ∙ awake-still doc k p h still

pub passed-turns : (doc : Doc) (k from n : ℕ) (before : List Deed) (arriving : List Sent) (coming : List Back) (h : List Entry) (w : World) (deeds : List Deed) (next : Beat) → IsReady w → w.beat.0 ≤ w.end.0 → next.0 ≡ w.beat.0 + 1
    → MidBeat doc k before arriving coming (turns doc k from h) w deeds → from + n ≤ processes doc → length doc.controllers ≤ from
    → ((p : ℕ) → from ≤ p → p < from + n → comes_before (leaf w.turn_beats p) (Some next) ≡ false) → turns doc k (from + n) h ≡ turns doc k from h
passed-turns doc k from zero before arriving coming h w deeds next ready within next_is r inside more later = let same : from + 0 ≡ from = omega arith in ap (λ m. turns doc k m h) same
passed-turns doc k from (suc n) before arriving coming h w deeds next ready within next_is r inside more later =
    let one : from + suc n ≡ suc (from + n) = omega arith in
    let fewer = passed-turns doc k from n before arriving coming h w deeds next ready within next_is r (omega (arith, inside)) more (λ p from_p less. later p from_p (omega (arith, less))) in
    ap (λ m. turns doc k m h) one ∙ ap (turn doc k (from + n)) fewer
    ∙ passed-turn doc k (from + n) before arriving coming (turns doc k from h) w deeds next ready within next_is r (omega (arith, inside)) (omega (arith, more)) (later (from + n) (omega arith) (omega arith))

pub passed-to : (doc : Doc) (k from i : ℕ) (before : List Deed) (arriving : List Sent) (coming : List Back) (h : List Entry) (w : World) (deeds : List Deed) (next : Beat) → IsReady w → w.beat.0 ≤ w.end.0 → next.0 ≡ w.beat.0 + 1
    → MidBeat doc k before arriving coming (turns doc k from h) w deeds → from ≤ i → i ≤ processes doc → length doc.controllers ≤ from
    → ((p : ℕ) → from ≤ p → p < i → comes_before (leaf w.turn_beats p) (Some next) ≡ false) → turns doc k i h ≡ turns doc k from h
passed-to doc k from i before arriving coming h w deeds next ready within next_is r up inside more later =
    let all : from + (i - from) ≡ i = omega (arith, up) in
    ap (λ m. turns doc k m h) (sym all)
    ∙ passed-turns doc k from (i - from) before arriving coming h w deeds next ready within next_is r (omega (arith, up, inside)) more (λ p from_p less. later p from_p (omega (arith, less, up)))

-- a leaf that comes before something is a process's
pub has-process : (w : World) (i : ℕ) (before : Option Beat) → IsReady w → comes_before (leaf w.turn_beats i) before ≡ true → i < vec_len w.processes
has-process w i before ready sooner = by_order (cases_lt i (length w.processes.items))
  where
    by_order : (i < length w.processes.items) ⊎ (length w.processes.items ≤ i) → i < vec_len w.processes
    by_order (inl less) = let len = w.processes.ok.0 in omega (arith, less, len)
    by_order (inr past) = let none : false ≡ true = sym (ap (λ b. comes_before b before) (ready.noted.beyond i past)) ∙ sooner in cc

-- ---- the leaves of the first processes

pub record NotedTo (xs : List Process) (n : ℕ) (t : BeatTree) : Type 0 where
  pub room : length xs ≤ room t
  pub leaves : (j : ℕ) (x : Process) → j < n → slice_get xs j ≡ Some x → leaf t j ≡ (waking_of x).until
  pub beyond : (j : ℕ) → n ≤ j → leaf t j ≡ None

pub noted-first : (xs : List Process) (t : BeatTree) → length xs ≤ room t → ((j : ℕ) → leaf t j ≡ None) → NotedTo xs 0 t
noted-first xs t most none = record { room = most; leaves = λ j x less is. absurd (omega (arith, less)); beyond = λ j from. none j }

pub noted-more : (xs : List Process) (n : ℕ) (x : Process) (t new : BeatTree) (beat : Option Beat) → NotedTo xs n t → slice_get xs n ≡ Some x → beat ≡ (waking_of x).until → room new ≡ room t
    → ((j : ℕ) → leaf new j ≡ (if n == j then beat else leaf t j)) → NotedTo xs (n + 1) new
noted-more xs n x t new beat s here kept same leaves =
    record {
      room = (let most = s.room in omega (arith, most, same));
      leaves = λ j y less is. by_place j y less is (n == j) refl;
      beyond = λ j from. leaves j ∙ ap (λ b. if b then beat else leaf t j) (eq-isnt n j (λ e. omega (arith, e, from))) ∙ s.beyond j (omega (arith, from));
    }
  where
    by_place : (j : ℕ) (y : Process) → j < n + 1 → slice_get xs j ≡ Some y → (b : Bool) → (n == j) ≡ b → leaf new j ≡ (waking_of y).until
    by_place j y less is true same =
        let place : n ≡ j = eq-is n j same in
        let there : Some x ≡ Some y = sym here ∙ ap (slice_get xs) place ∙ is in
        let own : x ≡ y = cc in
        leaves j ∙ ap (λ b. if b then beat else leaf t j) same ∙ kept ∙ ap (λ z. (waking_of z).until) own
    by_place j y less is false other =
        let apart : ¬ (j ≡ n) = λ e. (let now : (n == j) ≡ true = ap (λ m. n == m) e ∙ eq-self n in cc) in
        leaves j ∙ ap (λ b. if b then beat else leaf t j) other ∙ s.leaves j y (omega (arith, less, apart)) is

pub noted-all : (xs : List Process) (n : ℕ) (t : BeatTree) → length xs ≡ n → NotedTo xs n t → AreNoted xs t
noted-all xs n t all s =
    record {
      room = s.room;
      leaves = λ j x is. s.leaves j x (let within = slice_get_within xs j x is in omega (arith, within, all)) is;
      beyond = λ j from. s.beyond j (omega (arith, from, all));
    }
