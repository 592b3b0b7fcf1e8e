-- A node's key by rows of ticks.
use Rattle.std.proofs.Common.{◌≡◌, ◌⊎◌, ℕ, ◌==◌, ◌&&◌, not, Bool, true, false, List, [], ◌∷◌, Option, Some, None, refl, sym, ap, ◌∙◌, subst, inl, inr}
use Rattle.std.proofs.lemmas.Bool.{eqb-true, eq-eqb}
use Rattle.kube_objects.specs.declared.call.Answer.{Answer}
use Rattle.kube_objects.specs.declared.call.Answer.TheVariants as answer
use Rattle.kube_objects.specs.declared.deed.Actor.{Actor}
use Rattle.kube_objects.specs.declared.key.Key.{Key}
use Rattle.kube_objects.specs.declared.node.Node.{Node}
use Rattle.kube_objects.specs.Answers.{as_kind, node_in}
use Rattle.kube_objects.specs.Entry.{Entry, Identity, Place, Fact, Tick, Ticks, Mode, Head}
use Rattle.kube_objects.specs.Identities.{is_by}
use Rattle.kube_objects.specs.Keys.{key_eq}
use Rattle.kube_objects.specs.Modes.{mode_says}
use Rattle.kube_objects.specs.Newest.{newest, when, only_if, join, has, or_else, or_zero}
use Rattle.kube_objects.specs.Seen.{tick_shows, seen_says}
use Rattle.kube_objects.specs.Stored.{Held, node_key, node_write, at_key, holds, try_write}
use Rattle.kube_objects.specs.Tainting.{lacks_in, is_tick_of, waits, before_tick, begins_row, queued}
use Rattle.kube_objects.proofs.KeyOrder.{same_key}
use Rattle.history_laws.specs.Tails.{IsTail}
use Rattle.history_laws.proofs.Plainly.{upper, true_is, false_is, and_left}
use Rattle.row_laws.specs.Keys.{is_ticking, is_plain_tick, is_taint_of, is_waiting, waited, Begins, IsKey, WaitsStay, KeysAreOfRows}
use Rattle.row_laws.proofs.Rows.{none_above, at_position}

module _ (q : Identity) (place : Place) (name : ℕ) where
  -- ---- what leaves who waits

  abbrev last_mode : List Entry → Option Bool
  last_mode h = newest (λ e T. mode_says q e.actor e.fact) h

  abbrev last_seen : List Entry → Option (Option Held)
  last_seen h = newest (λ e T. seen_says q (node_key name) e.beat e.actor e.fact T) h

  abbrev waits_by : Option Bool → Option (Option Held) → Option ℕ
  waits_by on x = lacks_in (or_else false on) place (as_kind node_in (join x))

  same_waits : (e : Entry) (h : List Entry) → mode_says q e.actor e.fact ≡ None → seen_says q (node_key name) e.beat e.actor e.fact h ≡ None → waits q place name (e ∷ h) ≡ waits q place name h
  same_waits e h mode seen = ap (λ o. waits_by (upper o (last_mode h)) (last_seen (e ∷ h))) mode ∙ ap (λ o. waits_by (last_mode h) (upper o (last_seen h))) seen

  other_mode : (who : Actor) (t : Tick) → is_by q who ≡ false → mode_says q who (Ticks t) ≡ None
  other_mode who (Mode on) other = ap (λ b. when b on) other
  other_mode who t other = refl

  foreign_mode : (who : Actor) (d : Fact) → is_ticking q who d ≡ false → mode_says q who d ≡ None
  foreign_mode who (Ticks t) other = other_mode who t other
  foreign_mode who d other = refl

  foreign_seen : (k : ℕ) (who : Actor) (d : Fact) (h : List Entry) → is_ticking q who d ≡ false → seen_says q (node_key name) k who d h ≡ None
  foreign_seen k who (Ticks t) h other = ap (λ b. only_if b (tick_shows (node_key name) k who t h)) other
  foreign_seen k who d h other = refl

  pub waits_as_before : (e : Entry) (h : List Entry) → is_ticking q e.actor e.fact ≡ false → waits q place name (e ∷ h) ≡ waits q place name h
  waits_as_before e h other = same_waits e h (foreign_mode e.actor e.fact other) (foreign_seen e.beat e.actor e.fact h other)

  -- a queued taint of another node
  other_key : (node : ℕ) → (node == name) ≡ false → key_eq (node_key node) (node_key name) ≡ false
  other_key node other = by_test (key_eq (node_key node) (node_key name)) refl
    where
      by_test : (b : Bool) → key_eq (node_key node) (node_key name) ≡ b → b ≡ false
      by_test true is = let same : node ≡ name = ap (λ (key : Key). key.name) (same_key (node_key node) (node_key name) is) in absurd (true_is (sym (eq-eqb node name same) ∙ other))
      by_test false is = refl

  other_head : (k : ℕ) (who : Actor) (node : ℕ) (written : Node) (tried : Option Answer) (h : List Entry) → (node == name) ≡ false → holds h k who (at_key (node_key name) (try_write (node_write node written) tried)) ≡ None
  other_head k who node written (Some (answer.Done version)) h other = ap (λ b. holds h k who (when b (node_write node written).1)) (other_key node other)
  other_head k who node written d h other = refl

  -- no entry of the term's ticks, or a queued taint of another node
  quiet_mode : (who : Actor) (d : Fact) → is_plain_tick q who d ≡ false → mode_says q who d ≡ None
  quiet_mode who (Ticks (Head at node wanted given written tried)) plain = refl
  quiet_mode who (Ticks t) plain = other_mode who t plain
  quiet_mode who d plain = refl

  quiet_seen : (k : ℕ) (who : Actor) (d : Fact) (h : List Entry) → is_plain_tick q who d ≡ false → is_taint_of q name who d ≡ false → seen_says q (node_key name) k who d h ≡ None
  quiet_seen k who (Ticks (Head at node wanted given written tried)) h plain other = by_tests (is_by q who) (node == name) refl other
    where
      by_tests : (a b : Bool) → (node == name) ≡ b → (b && a) ≡ false → only_if a (holds h k who (at_key (node_key name) (try_write (node_write node written) tried))) ≡ None
      by_tests false b is other = refl
      by_tests true false is other = other_head k who node written tried h is
      by_tests true true is other = absurd (true_is other)
  quiet_seen k who (Ticks t) h plain other = ap (λ b. only_if b (tick_shows (node_key name) k who t h)) plain
  quiet_seen k who d h plain other = refl

  quiet_waits : (e : Entry) (h : List Entry) → is_plain_tick q e.actor e.fact ≡ false → is_taint_of q name e.actor e.fact ≡ false → is_waiting q place name (e ∷ h) ≡ is_waiting q place name h
  quiet_waits e h plain other = ap has (same_waits e h (quiet_mode e.actor e.fact plain) (quiet_seen e.beat e.actor e.fact h plain other))

  -- ---- at which entries a row begins

  taint_begins : (k : ℕ) (who : Actor) (d : Fact) (h : List Entry) → is_taint_of q name who d ≡ true → begins_row q place name k who d h ≡ true
  taint_begins k who (Ticks (Head at node wanted given written tried)) h is = is
  taint_begins k who d h is = absurd (false_is is)

  plain_begins : (k : ℕ) (who : Actor) (d : Fact) (h : List Entry) (b : Bool) → is_plain_tick q who d ≡ true → is_waiting q place name (before_tick q k h) ≡ b → begins_row q place name k who d h ≡ not b
  plain_begins k who (Ticks (Head at node wanted given written tried)) h b plain is = absurd (false_is plain)
  plain_begins k who (Ticks t) h b plain is = ap (λ own. own && not (is_waiting q place name (before_tick q k h))) plain ∙ ap not is
  plain_begins k who d h b plain is = absurd (false_is plain)

  quiet_begins : (k : ℕ) (who : Actor) (d : Fact) (h : List Entry) → is_plain_tick q who d ≡ false → is_taint_of q name who d ≡ false → begins_row q place name k who d h ≡ false
  quiet_begins k who (Ticks (Head at node wanted given written tried)) h plain other = other
  quiet_begins k who (Ticks t) h plain other = ap (λ own. own && not (is_waiting q place name (before_tick q k h))) plain
  quiet_begins k who d h plain other = refl

  tick_beat : (k beat : ℕ) (who : Actor) (d : Fact) → is_tick_of q k beat who d ≡ true → beat ≡ k
  tick_beat k beat who (Ticks t) is = eqb-true beat k (and_left (beat == k) (is_by q who) is)
  tick_beat k beat who d is = absurd (false_is is)

  -- ---- the walk

  abbrev Start : Entry → List Entry → Type 0
  Start x before = (is_taint_of q name x.actor x.fact ≡ true) ⊎ Begins q place name x before

  -- where its row is that of a node that waits, now or before the tick at a beat
  record Known (h : List Entry) : Type 0 where
    x : Entry
    before : List Entry
    stands : IsTail (x ∷ before) h
    now : is_waiting q place name h ≡ true → Start x before
    past : (k : ℕ) → is_waiting q place name (before_tick q k h) ≡ true → Start x before
    untried : (f : Entry) (T : List Entry) → IsTail (f ∷ T) h → IsTail (x ∷ before) T → is_taint_of q name f.actor f.fact ≡ false
    waits : (f : Entry) (T : List Entry) → IsTail (f ∷ T) h → IsTail (x ∷ before) T → is_plain_tick q f.actor f.fact ≡ true → waited q place name f T ≡ true
    beat : queued q place name h ≡ x.beat

  -- no row has begun yet
  record Unknown (h : List Entry) : Type 0 where
    now : is_waiting q place name h ≡ false
    past : (k : ℕ) → is_waiting q place name (before_tick q k h) ≡ false

  key_by : (e : Entry) (h : List Entry) (b : Bool) → begins_row q place name e.beat e.actor e.fact h ≡ b → queued q place name (e ∷ h) ≡ or_zero (upper (when b e.beat) (newest (λ e T. when (begins_row q place name e.beat e.actor e.fact T) e.beat) h))
  key_by e h b is = ap (λ b. or_zero (upper (when b e.beat) (newest (λ e T. when (begins_row q place name e.beat e.actor e.fact T) e.beat) h))) is

  -- before the tick at a beat, with an entry more: before its tick, or with it
  past_more : (P : Type 0) (e : Entry) (h : List Entry) (k : ℕ) (r : Bool) → (e.beat ≡ k → is_waiting q place name (before_tick q k h) ≡ r → P) → (is_waiting q place name (e ∷ h) ≡ r → P) → is_waiting q place name (before_tick q k (e ∷ h)) ≡ r → P
  past_more P e h k r older newer is = by_test (is_tick_of q k e.beat e.actor e.fact) refl is
    where
      by_test : (b : Bool) → is_tick_of q k e.beat e.actor e.fact ≡ b → is_waiting q place name (elim b [ true ↦ before_tick q k h | false ↦ e ∷ h ]) ≡ r → P
      by_test true tick is = older (tick_beat k e.beat e.actor e.fact tick) is
      by_test false tick is = newer is

  begun : (e : Entry) (h : List Entry) → begins_row q place name e.beat e.actor e.fact h ≡ true → (is_waiting q place name (e ∷ h) ≡ true → Start e h)
      → ((k : ℕ) → is_waiting q place name (before_tick q k (e ∷ h)) ≡ true → Start e h) → Known (e ∷ h)
  begun e h begins now past = record {
    x = e;
    before = h;
    stands = inl refl;
    now = now;
    past = past;
    untried = λ f T at later. absurd (none_above e f h T at later);
    waits = λ f T at later plain. absurd (none_above e f h T at later);
    beat = key_by e h true begins;
  }

  goes_on : (e : Entry) (h : List Entry) (s : Known h) → begins_row q place name e.beat e.actor e.fact h ≡ false → is_taint_of q name e.actor e.fact ≡ false → (is_plain_tick q e.actor e.fact ≡ true → waited q place name e h ≡ true)
      → (is_waiting q place name (e ∷ h) ≡ true → Start s.x s.before) → ((k : ℕ) → is_waiting q place name (before_tick q k (e ∷ h)) ≡ true → Start s.x s.before) → Known (e ∷ h)
  goes_on e h s begins other waits now past = record {
    x = s.x;
    before = s.before;
    stands = inr s.stands;
    now = now;
    past = past;
    untried = untried_since;
    waits = waits_since;
    beat = key_by e h false begins ∙ s.beat;
  }
    where
      untried_since : (f : Entry) (T : List Entry) → IsTail (f ∷ T) (e ∷ h) → IsTail (s.x ∷ s.before) T → is_taint_of q name f.actor f.fact ≡ false
      untried_since f T (inl is) later = at_position (λ f T. is_taint_of q name f.actor f.fact ≡ false) e h other f T is
      untried_since f T (inr at) later = s.untried f T at later

      waits_since : (f : Entry) (T : List Entry) → IsTail (f ∷ T) (e ∷ h) → IsTail (s.x ∷ s.before) T → is_plain_tick q f.actor f.fact ≡ true → waited q place name f T ≡ true
      waits_since f T (inl is) later = at_position (λ f T. is_plain_tick q f.actor f.fact ≡ true → waited q place name f T ≡ true) e h waits f T is
      waits_since f T (inr at) later = s.waits f T at later

  -- an entry of the term's tick, by whether the node waited before it
  with_tick : (e : Entry) (h : List Entry) → is_plain_tick q e.actor e.fact ≡ true → is_taint_of q name e.actor e.fact ≡ false → (b : Bool) → waited q place name e h ≡ b → Unknown h ⊎ Known h → Unknown (e ∷ h) ⊎ Known (e ∷ h)
  with_tick e h plain other false is s = inr (begun e h (plain_begins e.beat e.actor e.fact h false plain is) now past)
    where
      now : is_waiting q place name (e ∷ h) ≡ true → Start e h
      now w = inr (record { tick = plain; new = is; waits = w })

      past : (k : ℕ) → is_waiting q place name (before_tick q k (e ∷ h)) ≡ true → Start e h
      past k w = past_more (Start e h) e h k true (λ same w. absurd (true_is (sym w ∙ subst (λ k. is_waiting q place name (before_tick q k h) ≡ false) same is))) now w
  with_tick e h plain other true is (inl s) = absurd (true_is (sym is ∙ s.past e.beat))
  with_tick e h plain other true is (inr s) =
      inr (goes_on e h s (plain_begins e.beat e.actor e.fact h true plain is) other (λ p. is) (λ w. s.past e.beat is) (λ k w. s.past e.beat is))

  -- an entry that leaves who waits
  with_quiet : (e : Entry) (h : List Entry) → is_plain_tick q e.actor e.fact ≡ false → is_taint_of q name e.actor e.fact ≡ false → Unknown h ⊎ Known h → Unknown (e ∷ h) ⊎ Known (e ∷ h)
  with_quiet e h plain other (inl s) = inl (record { now = now; past = λ k. by_test k (is_tick_of q k e.beat e.actor e.fact) })
    where
      now : is_waiting q place name (e ∷ h) ≡ false
      now = quiet_waits e h plain other ∙ s.now

      by_test : (k : ℕ) (b : Bool) → is_waiting q place name (elim b [ true ↦ before_tick q k h | false ↦ e ∷ h ]) ≡ false
      by_test k true = s.past k
      by_test k false = now
  with_quiet e h plain other (inr s) =
      let now : is_waiting q place name (e ∷ h) ≡ true → Start s.x s.before = λ w. s.now (sym (quiet_waits e h plain other) ∙ w) in
      inr (goes_on e h s (quiet_begins e.beat e.actor e.fact h plain other) other (λ p. absurd (true_is (sym p ∙ plain))) now (λ k w. past_more (Start s.x s.before) e h k true (λ same w. s.past k w) now w))

  known : (h : List Entry) → Unknown h ⊎ Known h
  known [] = inl (record { now = refl; past = λ k. refl })
  known (e ∷ h) = by_taint (is_taint_of q name e.actor e.fact) refl (is_plain_tick q e.actor e.fact) refl (known h)
    where
      by_taint : (a : Bool) → is_taint_of q name e.actor e.fact ≡ a → (b : Bool) → is_plain_tick q e.actor e.fact ≡ b → Unknown h ⊎ Known h → Unknown (e ∷ h) ⊎ Known (e ∷ h)
      by_taint true is b plain s = inr (begun e h (taint_begins e.beat e.actor e.fact h is) (λ w. inl is) (λ k w. inl is))
      by_taint false is true plain s = with_tick e h plain is (waited q place name e h) refl s
      by_taint false is false plain s = with_quiet e h plain is s

pub waits_stay : WaitsStay
waits_stay q place name e h other = waits_as_before q place name e h other

pub keys_are_of_rows : KeysAreOfRows
keys_are_of_rows q place name h waiting = by_known (known q place name h)
  where
    by_known : Unknown q place name h ⊎ Known q place name h → IsKey q place name h (queued q place name h)
    by_known (inl s) = absurd (true_is (sym waiting ∙ s.now))
    by_known (inr s) = record { x = s.x; before = s.before; stands = s.stands; begins = s.now waiting; untried = s.untried; waits = s.waits; beat = s.beat }
