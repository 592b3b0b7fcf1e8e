-- A tick's pass comes before its turns of queued nodes: where it sets a zone, the term's turns are of earlier beats.
use Rattle.std.proofs.Common.{◌≡◌, ⊎_elim, ℕ, zero, suc, Bool, true, false, List, [], ◌∷◌, Option, Some, None, refl, sym, ap, ◌∙◌, subst, arith, ◌≤◌, ◌<◌}
use Rattle.std.specs.Prelude.{if◌then◌else◌}
use Rattle.kube_objects.specs.declared.deed.Actor.{Actor}
use Rattle.kube_objects.specs.declared.key.Key.{Key}
use Rattle.kube_objects.specs.declared.object.Object.{Object}
use Rattle.kube_objects.specs.Clocks.{store_wall, whole_second}
use Rattle.kube_objects.specs.Document.{Doc, processes, is_controller}
use Rattle.kube_objects.specs.Elector.{acts}
use Rattle.kube_objects.specs.Entry.{Entry, Identity, Place, Fact, First, Ticks, Tick, Sync, Pass, Mark, Mode, Zone, actor_of, entry, script_entry}
use Rattle.kube_objects.specs.Identities.{is_by, identity}
use Rattle.kube_objects.specs.Pauses.{is_paused}
use Rattle.kube_objects.specs.Process.{alive}
use Rattle.kube_objects.specs.Seen.{is_synced}
use Rattle.kube_objects.specs.Stalls.{is_stalled}
use Rattle.kube_objects.specs.Stamps.{stamped}
use Rattle.kube_objects.specs.Tick.{add, sync, pass, cleaned, tainted, phases, tick}
use Rattle.history.specs.History.{put_all, three_steps, history}
use Rattle.history.specs.Spacing.{is_head}
use Rattle.history.specs.Steps.{step_one, step_two, if_up, elector_turn, ticks_while, ticks, controller_turn, kubelet_turn, unpaused_turn, turn, turns}
use Rattle.history_laws.specs.Tails.{In}
use Rattle.history_laws.proofs.Order.{entries_are_earlier}
use Rattle.history_laws.proofs.Plainly.{for_new, true_is, false_is, same_is}
use Rattle.history_laws.proofs.Ticks.{walk_tick, is_cleaning, is_heading, kept_sync}
use Rattle.history_laws.proofs.Walk.{IsPlain, KeepsTurn, Keeps, KeepsReleaseTurn, KeepsRelease, plain_release, walk_one, walk_two, walk_three, walk_to_tick, walk_turn}
use Rattle.tick_laws.proofs.Phases.{is_passing, pass_keeps, cleaned_keeps, tainted_keeps, evicted_keeps}
use Rattle.spacing_laws.proofs.Effects.{ZoneFirst}
use Rattle.spacing_laws.proofs.Rows.{ZonesFirst}
use Rattle.spacing_laws.proofs.Spaced.{head_tick}

-- ---- the entries of ticks

-- they are of earlier beats
abbrev AreBefore : ℕ → List Entry → Type 0
AreBefore k h = (f : Entry) → In f h → (t : Tick) → f.fact ≡ Ticks t → f.beat < k

-- or of this one, and of processes below p
abbrev AreBelow : ℕ → ℕ → List Entry → Type 0
AreBelow k p h = (f : Entry) → In f h → (t : Tick) → f.fact ≡ Ticks t → (q : Identity) → is_by q f.actor ≡ true → p ≤ q.process → f.beat < k

zone_plain : (k : ℕ) (who : Actor) (d : Fact) (h : List Entry) → IsPlain d → ZoneFirst k who d h
zone_plain k who (Ticks t) h plain = absurd plain
zone_plain k who d h plain = tt

before_plain : (k : ℕ) (x : Entry) (h : List Entry) → IsPlain x.fact → AreBefore k h → AreBefore k (x ∷ h)
before_plain k x h plain s = for_new (λ f. (t : Tick) → f.fact ≡ Ticks t → f.beat < k) x h (λ t is. absurd (subst IsPlain is plain)) s

below_plain : (k p : ℕ) (x : Entry) (h : List Entry) → IsPlain x.fact → AreBelow k p h → AreBelow k p (x ∷ h)
below_plain k p x h plain s =
    for_new (λ f. (t : Tick) → f.fact ≡ Ticks t → (q : Identity) → is_by q f.actor ≡ true → p ≤ q.process → f.beat < k) x h (λ t is. absurd (subst IsPlain is plain)) s

-- ---- steps 1 to 3

-- what a beat's first three steps leave
record Begun (doc : Doc) (k step : ℕ) (h : List Entry) : Type 0 where
  before : step ≤ 3 → AreBefore k h
  upto : AreBefore (suc k) h
  firsts : step ≤ 3 → ZonesFirst (history doc k) → ZonesFirst h

before_later : (k : ℕ) (h : List Entry) → AreBefore k h → AreBefore (suc k) h
before_later k h s f at t is = omega (arith, s f at t is)

begun_plain : (doc : Doc) (k step : ℕ) (x : Entry) (h : List Entry) → IsPlain x.fact → Begun doc k step h → Begun doc k step (x ∷ h)
begun_plain doc k step x h plain s = record {
  before = λ le. before_plain k x h plain (s.before le);
  upto = before_plain (suc k) x h plain s.upto;
  firsts = λ le old. (zone_plain x.beat x.actor x.fact h plain, s.firsts le old);
}

begun_on : (doc : Doc) (k step : ℕ) (h : List Entry) → Begun doc k step h → Begun doc k (suc step) h
begun_on doc k step h s = record { before = λ le. s.before (omega (arith, le)); upto = s.upto; firsts = λ le old. s.firsts (omega (arith, le)) old }

begun_tick : (doc : Doc) (k : ℕ) (q : Identity) (h : List Entry) → Begun doc k 4 h → Begun doc k 4 (tick doc k q h)
begun_tick doc k q h s = record {
  before = λ le. absurd (omega (arith, le));
  upto = walk_tick doc k q (AreBefore (suc k)) (λ t g made old. for_new (λ f. (t : Tick) → f.fact ≡ Ticks t → f.beat < suc k) _ g (λ t is. omega arith) old) h s.upto;
  firsts = λ le old. absurd (omega (arith, le));
}

begun_keeps : (doc : Doc) → Keeps doc (Begun doc)
begun_keeps doc = record {
  on = begun_on doc;
  next = λ k s. record { before = λ le. s.upto; upto = before_later (suc k) (history doc (suc k)) s.upto; firsts = λ le old. old };
  event = λ k w h scripted s. begun_plain doc k 1 _ h tt s;
  starts = λ k step p h s. begun_plain doc k step _ h tt s;
  crashes = λ k p i h up s. begun_plain doc k 1 _ h tt s;
  stalls = λ k id beats i h scripted up s. begun_plain doc k 1 _ h tt s;
  stops = λ k id i h scripted up free s. begun_plain doc k 1 _ h tt s;
  releases = λ k id i before request scripted up awake is stop was s. begun_plain doc k 1 _ _ tt s;
  answers = λ k x h at s. begun_plain doc k 2 _ h tt s;
  ignores = λ k b h coming is s. begun_plain doc k 3 _ h tt s;
  counts = λ k b waiting h coming is of s. begun_plain doc k 3 _ h tt s;
  follows = λ k b waiting h request coming is role of follows was s. begun_plain doc k 3 _ _ tt s;
  leads = λ k b waiting h version coming is role of follows was s. begun_plain doc k 3 _ _ tt s;
  asks = λ k b waiting h request coming is role asked was s. begun_plain doc k 3 _ _ tt s;
  turns = record {
    restarts = λ k p h s. begun_plain doc k 4 _ h tt s;
    expires = λ k p i call h up waits late of s. begun_plain doc k 4 _ h tt s;
    ends = λ k p i at h role up is before stop s. begun_plain doc k 4 _ h tt s;
    polls = λ k p i h role up awake waits s. begun_plain doc k 4 _ h tt s;
    attempts = λ k p i h role up awake waits s. begun_plain doc k 4 _ h tt s;
    seeks = λ k p i call h role up awake expired late s. begun_plain doc k 4 _ h tt s;
    posts = λ k p i h role up awake none s. begun_plain doc k 4 _ h tt s;
    ticks = λ k q h acting s. begun_tick doc k q h s;
  };
}

begun_release : (doc : Doc) → KeepsRelease doc (Begun doc)
begun_release doc = plain_release doc (Begun doc) (λ x h plain s. begun_plain doc x.beat x.step x h plain s)

begun_steps : (doc : Doc) (k : ℕ) (h : List Entry) → Begun doc k 1 h → Begun doc k 3 (three_steps doc k h)
begun_steps doc k h s =
    let h1 = step_one doc k h in
    let s1 : Begun doc k 1 h1 = walk_one doc (Begun doc) (begun_keeps doc) (begun_release doc) k h s in
    let h2 = step_two doc k h1 in
    let s2 : Begun doc k 2 h2 = walk_two doc (Begun doc) (begun_keeps doc) (begun_release doc) k h1 (begun_on doc k 1 h1 s1) in
    walk_three doc (Begun doc) (begun_keeps doc) (begun_release doc) k h2 (begun_on doc k 2 h2 s2)

-- ---- a tick

-- the zones that are set come first, and the term has no turn of this beat yet
record Passing (k : ℕ) (q : Identity) (h : List Entry) : Type 0 where
  firsts : ZonesFirst h
  turns : (place : Place) (f : Entry) → In f h → is_head place f.fact ≡ true → is_by q f.actor ≡ true → f.beat < k

module _ (doc : Doc) (k : ℕ) (q : Identity) where
  by_same : (r : Identity) → is_by r (actor_of q) ≡ true → q ≡ r
  by_same r by = same_is q r by

  passing_more : (t : Tick) (h : List Entry) → ((place : Place) → is_head place (Ticks t) ≡ true → ⊥) → ZoneFirst k (actor_of q) (Ticks t) h → Passing k q h → Passing k q (add k q t h)
  passing_more t h other first s = record {
    firsts = (first, s.firsts);
    turns = λ place. for_new (λ f. is_head place f.fact ≡ true → is_by q f.actor ≡ true → f.beat < k) _ h (λ head own. absurd (other place head)) (s.turns place);
  }

  passing_step : (t : Tick) (h : List Entry) → is_passing t ≡ true → Passing k q h → Passing k q (add k q t h)
  passing_step (Zone place state rate) h is s =
      passing_more (Zone place state rate) h (λ at head. false_is head) (λ r by at f stands head own. s.turns at f stands head (subst (λ r. is_by r f.actor ≡ true) (sym (by_same r by)) own)) s
  passing_step Pass h is s = passing_more Pass h (λ at head. false_is head) tt s
  passing_step (Mark name given written a) h is s = passing_more (Mark name given written a) h (λ at head. false_is head) tt s
  passing_step (Mode on) h is s = passing_more (Mode on) h (λ at head. false_is head) tt s
  passing_step t h is s = absurd (false_is is)

  cleaning_step : (t : Tick) (h : List Entry) → is_cleaning t ≡ true → ZonesFirst h → ZonesFirst (add k q t h)
  cleaning_step (Zone place state rate) h is s = absurd (false_is is)
  cleaning_step t h is s = (tt, s)

  heading_step : (t : Tick) (h : List Entry) → is_heading t ≡ true → ZonesFirst h → ZonesFirst (add k q t h)
  heading_step (Zone place state rate) h is s = absurd (false_is is)
  heading_step t h is s = (tt, s)

  tick_firsts : (h : List Entry) → Passing k q h → ZonesFirst (tick doc k q h)
  tick_firsts h s = by_test (is_synced q (sync doc k q h))
    where
      a : List Entry
      a = sync doc k q h

      synced : Passing k q a
      synced = kept_sync doc k q (Passing k q) (λ g s. passing_more Sync g (λ at head. false_is head) tt s) h s

      by_test : (b : Bool) → ZonesFirst (if b then phases doc k q a else a)
      by_test false = synced.firsts
      by_test true =
          let b = pass doc k q a in
          let passed : Passing k q b = pass_keeps doc k q (Passing k q) passing_step a synced in
          let c = cleaned doc k q b in
          let d = tainted doc k q c in
          let clean : ZonesFirst c = cleaned_keeps doc k q ZonesFirst (λ t g is made s. cleaning_step t g is s) b passed.firsts in
          let taken : ZonesFirst d = tainted_keeps doc k q ZonesFirst (λ t g is made s. heading_step t g is s) c clean in
          evicted_keeps doc k q ZonesFirst (λ pod given node_given at a g kind s. (tt, s)) d taken

-- ---- turns

-- what stands at the turn of process p
record AtTurn (k p : ℕ) (h : List Entry) : Type 0 where
  firsts : ZonesFirst h
  below : AreBelow k p h

turn_plain : (k p : ℕ) (x : Entry) (h : List Entry) → IsPlain x.fact → AtTurn k p h → AtTurn k p (x ∷ h)
turn_plain k p x h plain s = record { firsts = (zone_plain x.beat x.actor x.fact h plain, s.firsts); below = below_plain k p x h plain s.below }

-- where nobody ticks
abbrev Nobody : Identity → ℕ → Type 0
Nobody q k = ⊥

idle_keeps : (doc : Doc) (p : ℕ) → KeepsTurn doc Nobody (λ k. AtTurn k p)
idle_keeps doc p = record {
  restarts = λ k c h s. turn_plain k p _ h tt s;
  expires = λ k c i call h up waits late of s. turn_plain k p _ h tt s;
  ends = λ k c i at h role up is before stop s. turn_plain k p _ h tt s;
  polls = λ k c i h role up awake waits s. turn_plain k p _ h tt s;
  attempts = λ k c i h role up awake waits s. turn_plain k p _ h tt s;
  seeks = λ k c i call h role up awake expired late s. turn_plain k p _ h tt s;
  posts = λ k c i h role up awake none s. turn_plain k p _ h tt s;
  ticks = λ k q h acting s. absurd acting;
}

idle_release : (doc : Doc) (p : ℕ) → KeepsReleaseTurn doc (λ k. AtTurn k p)
idle_release doc p = (plain_release doc (λ k step. AtTurn k p) (λ x h plain s. turn_plain x.beat p x h plain s)).turns

-- the ticks of a turn are its process's
own_keeps : (doc : Doc) (p : ℕ) → KeepsTurn doc (λ q k. q.process ≡ p) (λ k. AreBelow k (suc p))
own_keeps doc p = record {
  restarts = λ k c h s. below_plain k (suc p) _ h tt s;
  expires = λ k c i call h up waits late of s. below_plain k (suc p) _ h tt s;
  ends = λ k c i at h role up is before stop s. below_plain k (suc p) _ h tt s;
  polls = λ k c i h role up awake waits s. below_plain k (suc p) _ h tt s;
  attempts = λ k c i h role up awake waits s. below_plain k (suc p) _ h tt s;
  seeks = λ k c i call h role up awake expired late s. below_plain k (suc p) _ h tt s;
  posts = λ k c i h role up awake none s. below_plain k (suc p) _ h tt s;
  ticks = λ k q h own s. walk_tick doc k q (AreBelow k (suc p)) (λ t g made old. own_more k q own t g old) h s;
}
  where
    own_more : (k : ℕ) (q : Identity) → q.process ≡ p → (t : Tick) (g : List Entry) → AreBelow k (suc p) g → AreBelow k (suc p) (add k q t g)
    own_more k q own t g old =
        for_new (λ f. (t : Tick) → f.fact ≡ Ticks t → (r : Identity) → is_by r f.actor ≡ true → suc p ≤ r.process → f.beat < k) (entry k 4 q (Ticks t)) g
        (λ t is r by le. let same : q.process ≡ r.process = ap (λ (q : Identity). q.process) (same_is q r by) in absurd (omega (arith, own, same, le))) old

own_release : (doc : Doc) (p : ℕ) → KeepsReleaseTurn doc (λ k. AreBelow k (suc p))
own_release doc p = (plain_release doc (λ k step. AreBelow k (suc p)) (λ x h plain s. below_plain x.beat (suc p) x h plain s)).turns

module _ (doc : Doc) (k p : ℕ) where
  ticks_firsts : (h : List Entry) → AtTurn k p h → ZonesFirst (ticks doc k p h)
  ticks_firsts h s = by_stall (is_stalled doc k)
    where
      passing : (i : ℕ) → Passing k (identity p i) h
      passing i = record {
        firsts = s.firsts;
        turns = λ place f at head own. let t = head_tick place f.fact head in s.below f at t.0 t.1 (identity p i) own (omega arith);
      }

      by_acts : (i : ℕ) (b : Bool) → ZonesFirst (if b then tick doc k (identity p i) h else h)
      by_acts i true = tick_firsts doc k (identity p i) h (passing i)
      by_acts i false = s.firsts

      by_up : (o : Option ℕ) → ZonesFirst (if_up p (λ q T. (if (acts doc q k T) then tick doc k q T else T)) o h)
      by_up None = s.firsts
      by_up (Some i) = by_acts i (acts doc (identity p i) k h)

      by_stall : (b : Bool) → ZonesFirst (ticks_while b doc k p h)
      by_stall true = s.firsts
      by_stall false = by_up (alive p h)

  turn_firsts : (h : List Entry) → AtTurn k p h → ZonesFirst (turn doc k p h)
  turn_firsts h s = by_role (is_controller doc p) refl
    where
      elects : is_paused doc p k ≡ false → is_controller doc p ≡ true → ZonesFirst (controller_turn doc k p h)
      elects awake role = ticks_firsts (elector_turn doc k p h) (walk_to_tick doc Nobody (λ k. AtTurn k p) (idle_keeps doc p) (idle_release doc p) k p role awake h s)

      by_paused : is_controller doc p ≡ true → (b : Bool) → is_paused doc p k ≡ b → ZonesFirst (if b then h else unpaused_turn doc k p h)
      by_paused role true rests = s.firsts
      by_paused role false awake = subst (λ b. ZonesFirst (if b then controller_turn doc k p h else kubelet_turn doc k p h)) (sym role) (elects awake role)

      by_role : (b : Bool) → is_controller doc p ≡ b → ZonesFirst (turn doc k p h)
      by_role true role = by_paused role (is_paused doc p k) refl
      by_role false role = (walk_turn doc Nobody (λ k. AtTurn k p) (idle_keeps doc p) (idle_release doc p) k p h (λ i is up acting. absurd (true_is (sym is ∙ role))) s).firsts

  turn_below : (h : List Entry) → AreBelow k p h → AreBelow k (suc p) (turn doc k p h)
  turn_below h s =
      walk_turn doc (λ q k. q.process ≡ p) (λ k. AreBelow k (suc p)) (own_keeps doc p) (own_release doc p) k p h (λ i role up acting. refl)
      (λ f at t is q by le. s f at t is q by (omega (arith, le)))

turns_first : (doc : Doc) (k n : ℕ) (h : List Entry) → AtTurn k 0 h → AtTurn k n (turns doc k n h)
turns_first doc k zero h s = s
turns_first doc k (suc p) h s =
    let old = turns_first doc k p h s in
    record { firsts = turn_firsts doc k p (turns doc k p h) old; below = turn_below doc k p (turns doc k p h) old.below }

-- ---- histories

record IsFirst (k : ℕ) (h : List Entry) : Type 0 where
  firsts : ZonesFirst h
  before : AreBefore k h

put_first : (doc : Doc) (xs : List (Key × Object)) (h : List Entry) → IsFirst 0 h → IsFirst 0 (put_all doc xs h)
put_first doc [] h s = s
put_first doc (x ∷ xs) h s =
    let e = script_entry 0 0 (First x.0 (stamped (whole_second (store_wall doc 0)) x.1)) in
    put_first doc xs (e ∷ h) (record { firsts = (tt, s.firsts); before = before_plain 0 e h tt s.before })

history_first : (doc : Doc) (k : ℕ) → IsFirst k (history doc k)
history_first doc zero = put_first doc doc.objects [] (record { firsts = tt; before = λ f at t is. absurd at })
history_first doc (suc k) = by_steps (history_first doc k)
  where
    by_steps : IsFirst k (history doc k) → IsFirst (suc k) (history doc (suc k))
    by_steps old =
        let h = three_steps doc k (history doc k) in
        let begun : Begun doc k 3 h = begun_steps doc k (history doc k) (record { before = λ le. old.before; upto = before_later k (history doc k) old.before; firsts = λ le z. z }) in
        let first : AtTurn k 0 h = record { firsts = begun.firsts (omega arith) old.firsts; below = λ f at t is q by le. begun.before (omega arith) f at t is } in
        record {
          firsts = (turns_first doc k (processes doc) h first).firsts;
          before = λ f at t is. ⊎_elim (λ before. before) (λ start. omega (arith, start.0)) (entries_are_earlier doc (suc k) f at);
        }

pub zones_first : (doc : Doc) (k : ℕ) → ZonesFirst (history doc k)
zones_first doc k = (history_first doc k).firsts
