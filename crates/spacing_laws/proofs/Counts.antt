-- The turns of a zone's queued nodes in a span of beats: one for each row of a term's passes, and one for each token that grows.
use Rattle.std.proofs.Common.{◌≡◌, ◌∙◌, ◌⊎◌, inl, inr, ℕ, ◌+◌, ◌-◌, ◌*◌, ◌/◌, ◌&&◌, ◌||◌, not, nat_le, Bool, true, false, cond, List, [], ◌∷◌, length, Some, refl, sym, ap, subst, arith, ◌≤◌, ◌<◌}
use Rattle.std.proofs.Math.Nat.{mul-le-mul_right}
use Rattle.std.proofs.lemmas.Bool.{leb-true, le-leb}
use Rattle.std.proofs.lemmas.Nat.{le-div, mul-le}
use Rattle.std.specs.List.{list_any}
use Rattle.kube_objects.specs.Clocks.{rate}
use Rattle.kube_objects.specs.Document.{Doc, beat_micros}
use Rattle.kube_objects.specs.Entry.{Entry, Identity, Place, actor_of}
use Rattle.kube_objects.specs.Identities.{is_by, identity_of}
use Rattle.kube_objects.specs.Newest.{added}
use Rattle.kube_objects.specs.Tokens.{token_size}
use Rattle.history.specs.Premise.{greatest_below, more}
use Rattle.history.specs.Spacing.{is_head, row_began, greatest_span, is_between, heads_between, is_head_since, opens_row, rows_between}
use Rattle.history_laws.specs.Order.{IsOrdered}
use Rattle.history_laws.specs.Tails.{In}
use Rattle.history_laws.proofs.Plainly.{false_is, and_left, and_right, and_both, same_is, same_self}
use Rattle.lease_laws.proofs.TwoPauses.{more_both}
use Rattle.spacing_laws.proofs.Rates.{since_most}
use Rattle.spacing_laws.proofs.Rows.{turn_spaced}
use Rattle.spacing_laws.proofs.Spaced.{head_tick, not_later}
use Rattle.spacing_laws.proofs.Turns.{IsKnown, IsTurn, known_below, turn_of}

-- ---- tests

-- an entry that passes a test
record Passing (test : Entry → Bool) (h : List Entry) : Type 0 where
  f : Entry
  at : In f h
  is : test f ≡ true

any_passes : (test : Entry → Bool) (h : List Entry) → list_any test h ≡ true → Passing test h
any_passes test [] any = absurd (false_is any)
any_passes test (e ∷ h) any = by_test (any_passes test h) (test e) refl any
  where
    by_test : (list_any test h ≡ true → Passing test h) → (b : Bool) → test e ≡ b → (b || list_any test h) ≡ true → Passing test (e ∷ h)
    by_test rest true is any = record { f = e; at = inl refl; is = is }
    by_test rest false is any = let p = rest any in record { f = p.f; at = inr p.at; is = p.is }

-- ---- sums

spans_add : (a b c way most : ℕ) → a + b ≡ c → a * way * most + b * way * most ≡ c * way * most
spans_add a b c way most is = omega (arith, ap (λ n. n * way * most) is)

-- so many more as there are tokens
divided : (n m span : ℕ) → n * token_size ≤ m * token_size + span → n ≤ m + span / token_size
unfolding token_size
divided n m span le = let more : n - m ≤ span / token_size = le-div (n - m) span token_size (omega arith) (omega (arith, le)) in omega (arith, more)

not_false : (b : Bool) → not b ≡ false → b ≡ true
not_false true is = refl
not_false false is = absurd (false_is (sym is))

-- ---- the turns of a span

abbrev is_counted : Place → (i j : ℕ) → Entry → Bool
is_counted place i j e = is_head place e.fact && is_between i j e.beat

-- the beat of the last one, or the first beat of the span
abbrev last_turn : Place → (i j : ℕ) → List Entry → ℕ
last_turn place i j [] = i
last_turn place i j (e ∷ h) = cond (is_counted place i j e) e.beat (last_turn place i j h)

module _ (place : Place) (i j : ℕ) where
  counted_from : (e : Entry) → is_counted place i j e ≡ true → i ≤ e.beat
  counted_from e is = leb-true i e.beat (and_left (nat_le i e.beat) (nat_le e.beat j) (and_right (is_head place e.fact) (is_between i j e.beat) is))

  counted_upto : (e : Entry) → is_counted place i j e ≡ true → e.beat ≤ j
  counted_upto e is = leb-true e.beat j (and_right (nat_le i e.beat) (nat_le e.beat j) (and_right (is_head place e.fact) (is_between i j e.beat) is))

  last_from : (h : List Entry) → i ≤ last_turn place i j h
  last_from [] = omega arith
  last_from (e ∷ h) = by_test (last_from h) (is_counted place i j e) refl
    where
      by_test : i ≤ last_turn place i j h → (b : Bool) → is_counted place i j e ≡ b → i ≤ cond b e.beat (last_turn place i j h)
      by_test old true is = counted_from e is
      by_test old false is = old

  last_upto : (h : List Entry) → i ≤ j → last_turn place i j h ≤ j
  last_upto [] le = le
  last_upto (e ∷ h) le = by_test (last_upto h le) (is_counted place i j e) refl
    where
      by_test : last_turn place i j h ≤ j → (b : Bool) → is_counted place i j e ≡ b → cond b e.beat (last_turn place i j h) ≤ j
      by_test old true is = counted_upto e is
      by_test old false is = old

  last_below : (k : ℕ) (h : List Entry) → i ≤ k → ((f : Entry) → In f h → f.beat ≤ k) → last_turn place i j h ≤ k
  last_below k [] le below = le
  last_below k (e ∷ h) le below = by_test (last_below k h le (λ f at. below f (inr at))) (is_counted place i j e)
    where
      by_test : last_turn place i j h ≤ k → (b : Bool) → cond b e.beat (last_turn place i j h) ≤ k
      by_test old true = below e (inl refl)
      by_test old false = old

  -- it is the beat of a turn that isn't earlier than this one
  record Last (f : Entry) (h : List Entry) : Type 0 where
    g : Entry
    at : In g h
    head : is_head place g.fact ≡ true
    beat : g.beat ≡ last_turn place i j h
    later : f.beat ≤ g.beat

  last_is : (f : Entry) (h : List Entry) → IsOrdered h → In f h → is_counted place i j f ≡ true → Last f h
  last_is f [] order at is = absurd at
  last_is f (e ∷ h) order at is = by_test (λ at. last_is f h order.1 at is) (is_counted place i j e) refl at
    where
      early : (f ≡ e) ⊎ In f h → f.beat ≤ e.beat
      early (inl same) = omega (arith, ap (λ (e : Entry). e.beat) same)
      early (inr at) = not_later e f (order.0 f at)

      none : is_counted place i j e ≡ false → f ≡ e → ⊥
      none other same = false_is (sym other ∙ subst (λ (e : Entry). is_counted place i j e ≡ true) same is)

      by_test : (In f h → Last f h) → (b : Bool) → is_counted place i j e ≡ b → (f ≡ e) ⊎ In f h → Last f (e ∷ h)
      by_test old true counted at = record {
        g = e;
        at = inl refl;
        head = and_left (is_head place e.fact) (is_between i j e.beat) counted;
        beat = sym (ap (λ b. cond b e.beat (last_turn place i j h)) counted);
        later = early at;
      }
      by_test old false counted (inl same) = absurd (none counted same)
      by_test old false counted (inr at) =
          let l = old at in
          record { g = l.g; at = inr l.at; head = l.head; beat = l.beat ∙ sym (ap (λ b. cond b e.beat (last_turn place i j h)) counted); later = l.later }

-- ---- the law, from what is known of who acts

module _ (doc : Doc) (A : Identity → ℕ → Type 0)
    (apart : (p q : Identity) (k m n : ℕ) → m ≤ k → k ≤ n → A p k → A q n → A q m → p ≡ q)
    (slow : (q : Identity) (k : ℕ) → A q k → (j : ℕ) → j < k → rate doc q.process j ≤ greatest_below doc (length doc.controllers))
    (cheap : doc.settings.secondary_rate ≤ doc.settings.primary_rate) (place : Place) (i j : ℕ) where
  -- from the last turn to one that isn't the first of its row a token grows, since nobody else acts between
  token_since : (e : Entry) (h : List Entry) → IsKnown doc A (e ∷ h) → (t : IsTurn doc A place e h) → e.beat ≤ j → (f : Entry) → In f h
      → is_head_since t.q place (more i (row_began t.q place h)) f ≡ true → token_size ≤ greatest_span doc (e.beat - last_turn place i j h) * doc.settings.primary_rate
  token_since e h known t end f at is = by_last (last_is place i j f h known.ordered.1 at counted)
    where
      q : Identity
      q = t.q

      head : is_head place f.fact ≡ true
      head = and_left (is_head place f.fact) (is_by q f.actor && nat_le (more i (row_began q place h)) f.beat) is

      rest : (is_by q f.actor && nat_le (more i (row_began q place h)) f.beat) ≡ true
      rest = and_right (is_head place f.fact) (is_by q f.actor && nat_le (more i (row_began q place h)) f.beat) is

      own : is_by q f.actor ≡ true
      own = and_left (is_by q f.actor) (nat_le (more i (row_began q place h)) f.beat) rest

      from : more i (row_began q place h) ≤ f.beat
      from = leb-true (more i (row_began q place h)) f.beat (and_right (is_by q f.actor) (nat_le (more i (row_began q place h)) f.beat) rest)

      before : f.beat ≤ e.beat
      before = not_later e f (known.ordered.0 f at)

      counted : is_counted place i j f ≡ true
      counted =
          and_both (is_head place f.fact) (is_between i j f.beat) head
          (and_both (nat_le i f.beat) (nat_le f.beat j) (le-leb i f.beat (omega (arith, from, (more_both i (row_began q place h)).0))) (le-leb f.beat j (omega (arith, before, end))))

      -- it is the term's own
      mine : (l : Last place i j f h) → is_by q l.g.actor ≡ true
      mine l =
          let tick = head_tick place l.g.fact l.head in
          let by = known.acted l.g (inr l.at) tick.0 tick.1 in
          let first = head_tick place f.fact head in
          let f_by = known.acted f (inr at) first.0 first.1 in
          let f_mine : f_by.0 ≡ q = same_is f_by.0 q (ap (is_by q) (sym f_by.1) ∙ own) in
          let same : by.0 ≡ q = apart by.0 q l.g.beat f.beat e.beat l.later (not_later e l.g (known.ordered.0 l.g l.at)) by.2 t.acts (subst (λ q. A q f.beat) f_mine f_by.2) in
          ap (is_by q) by.1 ∙ subst (λ p. is_by q (actor_of p) ≡ true) (sym same) (same_self q)

      by_last : Last place i j f h → token_size ≤ greatest_span doc (e.beat - last_turn place i j h) * doc.settings.primary_rate
      by_last l =
          let row : row_began q place h ≤ l.g.beat = omega (arith, from, (more_both i (row_began q place h)).1, l.later) in
          let grown =
          turn_spaced doc q e.beat place h (λ f at. not_later e f (known.ordered.0 f at)) known.ordered.1 known.firsts.1 (slow q e.beat t.acts) t.token l.g l.at l.head (mine l) row in
          let cost = since_most doc q place l.g.beat cheap h known.tokens.1 in
          subst (λ n. token_size ≤ greatest_span doc (e.beat - n) * doc.settings.primary_rate) l.beat
          (omega (arith, grown, mul-le (greatest_span doc (e.beat - l.g.beat)) _ (greatest_span doc (e.beat - l.g.beat)) doc.settings.primary_rate (omega arith) cost))

  -- the turns, and the rows with what has grown up to the last one
  abbrev AreFew : List Entry → Type 0
  AreFew h =
      heads_between place i j h * token_size ≤ rows_between place i j h * token_size + greatest_span doc (last_turn place i j h - i) * doc.settings.primary_rate

  span_wider : (m n : ℕ) → m ≤ n → greatest_span doc m * doc.settings.primary_rate ≤ greatest_span doc n * doc.settings.primary_rate
  span_wider m n le =
      mul-le-mul_right doc.settings.primary_rate (mul-le-mul_right (beat_micros doc * greatest_below doc (length doc.controllers)) le)

  few_more : (e : Entry) (h : List Entry) → IsKnown doc A (e ∷ h) → AreFew h → AreFew (e ∷ h)
  few_more e h known old = by_counted (is_counted place i j e) refl
    where
      heads : ℕ
      heads = heads_between place i j h

      rows : ℕ
      rows = rows_between place i j h

      last : ℕ
      last = last_turn place i j h

      opens : Bool
      opens = opens_row place i (identity_of e.actor) h

      -- the history with this entry, by whether it is counted, and whether it is the first of its row
      Few : Bool → Bool → Type 0
      Few counted first =
          added counted heads * token_size ≤ added (counted && first) rows * token_size + greatest_span doc (cond counted e.beat last - i) * doc.settings.primary_rate

      opened : i ≤ e.beat → last ≤ e.beat → Few true true
      opened from le = let wide = span_wider (last - i) (e.beat - i) (omega (arith, le)) in omega (arith, old, wide)

      grown : i ≤ last → last ≤ e.beat → token_size ≤ greatest_span doc (e.beat - last) * doc.settings.primary_rate → Few true false
      grown from le token =
          let sum =
          spans_add (last - i) (e.beat - last) (e.beat - i) (beat_micros doc * greatest_below doc (length doc.controllers)) doc.settings.primary_rate (omega (arith, from, le)) in
          omega (arith, old, token, sum)

      below : (f : Entry) → In f h → f.beat ≤ e.beat
      below f at = not_later e f (known.ordered.0 f at)

      by_opens : (counted : is_counted place i j e ≡ true) → (t : IsTurn doc A place e h) → (b : Bool) → opens_row place i (Some t.q) h ≡ b → Few true b
      by_opens counted t true is = opened (counted_from place i j e counted) (last_below place i j e.beat h (counted_from place i j e counted) below)
      by_opens counted t false is =
          let p = any_passes (is_head_since t.q place (more i (row_began t.q place h))) h (not_false (list_any (is_head_since t.q place (more i (row_began t.q place h))) h) is) in
          grown (last_from place i j h) (last_below place i j e.beat h (counted_from place i j e counted) below) (token_since e h known t (counted_upto place i j e counted) p.f p.at p.is)

      by_counted : (b : Bool) → is_counted place i j e ≡ b → AreFew (e ∷ h)
      by_counted false is = subst (λ b. Few b opens) (sym is) old
      by_counted true is =
          let t = turn_of doc A place e h known (and_left (is_head place e.fact) (is_between i j e.beat) is) in
          subst (λ b. Few b opens) (sym is)
          (subst (λ who. Few true (opens_row place i (identity_of who) h)) (sym t.by) (by_opens is t (opens_row place i (Some t.q) h) refl))

  are_few : (h : List Entry) → IsKnown doc A h → AreFew h
  are_few [] known = omega arith
  are_few (e ∷ h) known = few_more e h known (are_few h (known_below doc A e h known))

  pub few_turns : i ≤ j → (h : List Entry) → IsKnown doc A h → heads_between place i j h ≤ rows_between place i j h + greatest_span doc (j - i) * doc.settings.primary_rate / token_size
  few_turns le h known =
      let wide = span_wider (last_turn place i j h - i) (j - i) (omega (arith, last_upto place i j h le)) in
      divided (heads_between place i j h) (rows_between place i j h) (greatest_span doc (j - i) * doc.settings.primary_rate) (omega (arith, are_few h known, wide))
