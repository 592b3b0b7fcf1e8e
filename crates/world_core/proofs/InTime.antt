-- Layer 4, the steps of a beat: entries stand in the order of their beats.
use Rattle.std.proofs.Common.{ℕ, suc, ◌≤◌, Bool, true, false, List, [], ◌∷◌, Option, Some, None, inl, inr, sym, subst, arith}
use Rattle.std.specs.Prelude.{if◌then◌else◌}
use Rattle.kube_objects.specs.declared.key.Key.{Key}
use Rattle.kube_objects.specs.declared.object.Object.{Object}
use Rattle.kube_objects.specs.Clocks.{store_wall, whole_second}
use Rattle.kube_objects.specs.Document.{Doc, is_controller}
use Rattle.kube_objects.specs.Elector.{acts}
use Rattle.kube_objects.specs.Entry.{Entry, First, script_entry}
use Rattle.kube_objects.specs.Identities.{identity}
use Rattle.kube_objects.specs.Process.{alive}
use Rattle.kube_objects.specs.Stalls.{is_stalled}
use Rattle.kube_objects.specs.Stamps.{stamped}
use Rattle.kube_objects.specs.Tick.{tick}
use Rattle.history.specs.History.{put_all, three_steps}
use Rattle.history.specs.Steps.{if_up, step_one, step_two, ticks_while, turn, turns}
use Rattle.history_laws.specs.Tails.{IsTail}
use Rattle.history_laws.proofs.Plainly.{for_new}
use Rattle.history_laws.proofs.Tailed.{tail_all}
use Rattle.history_laws.proofs.Ticks.{walk_tick}
use Rattle.history_laws.proofs.Walk.{Anyone, Keeps, KeepsRelease, KeepsTurn, all_kinds, all_release, all_turns, walk_any_turn, walk_any_turns, walk_one, walk_three, walk_two}
use Rattle.world_process.specs.Moves.{own_ticks, own_ticks_as}
use Rattle.world_core.specs.Waits.{awake_turn}
use Rattle.world_core.specs.Worlds.{AreInTime}
use Rattle.world_core.proofs.Ticking.{turn-is}

in-time-more : (x : Entry) (h : List Entry) → AreInTime x.beat h → AreInTime x.beat (x ∷ h)
in-time-more x h s = record { in_beats = (s.upto, s.in_beats); upto = for_new (λ e. e.beat ≤ x.beat) x h (omega arith) s.upto }

pub in-time-later : (k m : ℕ) (h : List Entry) → k ≤ m → AreInTime k h → AreInTime m h
in-time-later k m h later s = record { in_beats = s.in_beats; upto = λ e at. (let most = s.upto e at in omega (arith, most, later)) }

-- what stood before does so too
in-time-tail : (k : ℕ) (g h : List Entry) → IsTail g h → AreInTime k h → AreInTime k g
in-time-tail k g [] is s = subst (AreInTime k) (sym is) s
in-time-tail k g (e ∷ h) (inl is) s = subst (AreInTime k) (sym is) s
in-time-tail k g (e ∷ h) (inr at) s = in-time-tail k g h at (record { in_beats = s.in_beats.1; upto = λ f below. s.upto f (inr below) })

-- ---- each entry of a beat is of that beat

in-time-keeps : (doc : Doc) → Keeps doc (λ k step. AreInTime k)
in-time-keeps doc = all_kinds doc (λ k step. AreInTime k) (λ k step h s. s) (λ k h s. in-time-later k (suc k) h (omega arith) s) (λ x h next s. in-time-more x h s)

in-time-release : (doc : Doc) → KeepsRelease doc (λ k step. AreInTime k)
in-time-release doc = all_release doc (λ k step. AreInTime k) (λ x h next s. in-time-more x h s)

in-time-turns : (doc : Doc) → KeepsTurn doc Anyone AreInTime
in-time-turns doc =
    all_turns doc Anyone AreInTime
    (λ k x h beat step next s. subst (λ n. AreInTime n (x ∷ h)) beat (in-time-more x h (subst (λ n. AreInTime n h) (sym beat) s)))

pub steps-in-time : (doc : Doc) (k : ℕ) (h : List Entry) → AreInTime k h → AreInTime k (three_steps doc k h)
steps-in-time doc k h s =
    let P : ℕ → ℕ → List Entry → Type 0 = λ k step. AreInTime k in
    let h1 = step_one doc k h in
    let h2 = step_two doc k h1 in
    let s1 = walk_one doc P (in-time-keeps doc) (in-time-release doc) k h s in
    let s2 = walk_two doc P (in-time-keeps doc) (in-time-release doc) k h1 s1 in
    walk_three doc P (in-time-keeps doc) (in-time-release doc) k h2 s2

pub turns-in-time : (doc : Doc) (k n : ℕ) (h : List Entry) → AreInTime k h → AreInTime k (turns doc k n h)
turns-in-time doc k n h s = walk_any_turns doc AreInTime (in-time-turns doc) (in-time-release doc).turns k n h s

-- ---- a turn but for its tick

own-adds : (doc : Doc) (k p : ℕ) (h : List Entry) → IsTail h (own_ticks doc k p h)
own-adds doc k p h = by_sort (is_controller doc p)
  where
    by_test : (i : ℕ) (b : Bool) → IsTail h (if b then tick doc k (identity p i) h else h)
    by_test i true = walk_tick doc k (identity p i) (IsTail h) (λ t g made s. inr s) h (tail_all h)
    by_test i false = tail_all h

    by_life : (o : Option ℕ) → IsTail h (if_up p (λ q T. (if (acts doc q k T) then tick doc k q T else T)) o h)
    by_life None = tail_all h
    by_life (Some i) = by_test i (acts doc (identity p i) k h)

    by_stall : (b : Bool) → IsTail h (ticks_while b doc k p h)
    by_stall true = tail_all h
    by_stall false = by_life (alive p h)

    by_sort : (b : Bool) → IsTail h (own_ticks_as doc k p b h)
    by_sort true = by_stall (is_stalled doc k)
    by_sort false = tail_all h

pub own-in-time : (doc : Doc) (k p : ℕ) (h : List Entry) → AreInTime k h → AreInTime k (awake_turn doc k p h)
own-in-time doc k p h s =
    let a = awake_turn doc k p h in
    in-time-tail k a (turn doc k p h) (subst (IsTail a) (sym (turn-is doc k p h)) (own-adds doc k p a)) (walk_any_turn doc AreInTime (in-time-turns doc) (in-time-release doc).turns k p h s)

-- ---- before beat 0

put-in-time : (doc : Doc) (xs : List (Key × Object)) (h : List Entry) → AreInTime 0 h → AreInTime 0 (put_all doc xs h)
put-in-time doc [] h s = s
put-in-time doc (x ∷ xs) h s =
    let e = script_entry 0 0 (First x.0 (stamped (whole_second (store_wall doc 0)) x.1)) in
    put-in-time doc xs (e ∷ h) (in-time-more e h s)

pub first-in-time : (doc : Doc) → AreInTime 0 (put_all doc doc.objects [])
first-in-time doc = put-in-time doc doc.objects [] (record { in_beats = tt; upto = λ e at. absurd at })
