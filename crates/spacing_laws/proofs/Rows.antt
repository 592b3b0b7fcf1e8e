-- Within a row of a term's passes at which a zone is one, a token grows from each turn of the zone's queued nodes to each later one.
use Rattle.std.proofs.Common.{◌≡◌, ◌∙◌, ◌⊎◌, inl, inr, ℕ, ◌+◌, ◌-◌, ◌*◌, ◌==◌, ◌&&◌, ◌||◌, not, nat_le, Bool, true, false, List, [], ◌∷◌, length, Option, Some, None, refl, sym, ap, subst, arith, ◌≤◌, ◌<◌}
use Rattle.std.proofs.lemmas.Bool.{leb-true}
use Rattle.std.proofs.lemmas.Nat.{mul-le}
use Rattle.kube_objects.specs.declared.rules.BucketRule.{BucketRule}
use Rattle.kube_objects.specs.declared.rules.BucketRule.TheVariants.{Empty, Full}
use Rattle.kube_objects.specs.Clocks.{local, rate}
use Rattle.kube_objects.specs.Document.{Doc, beat_micros}
use Rattle.kube_objects.specs.Entry.{Entry, Identity, Place}
use Rattle.kube_objects.specs.Identities.{is_by}
use Rattle.kube_objects.specs.Newest.{has, or_zero, when}
use Rattle.kube_objects.specs.Tokens.{Rated, rated, base, is_base, token_size, is_there, is_full, is_full_by, grown, has_token}
use Rattle.kube_objects.proofs.Clocks.{local_up}
use Rattle.kube_objects.proofs.Tokens.{token_is_there}
use Rattle.history.specs.Premise.{greatest_below}
use Rattle.history.specs.Spacing.{rate_or_zero, zone_rate, is_head, row_began, greatest_span, greatest_since}
use Rattle.history_laws.specs.Order.{IsOrdered}
use Rattle.history_laws.specs.Tails.{In}
use Rattle.history_laws.proofs.Plainly.{upper, true_is, false_is}
use Rattle.spacing_laws.proofs.Effects.{ZoneFirst, IsStill, GivesRate, Effect, Leaves, Takes, Begins, Changes, Loses, effect, turn_empties}
use Rattle.spacing_laws.proofs.Rates.{rate_since, since_more}
use Rattle.spacing_laws.proofs.Spaced.{base_of, not_later, own_head_before, local_span}

abbrev pub ZonesFirst : List Entry → Type 0
ZonesFirst [] = Unit {0}
ZonesFirst (e ∷ h) = ZoneFirst e.beat e.actor e.fact h × ZonesFirst h

-- a token has grown from a turn to the base, at the greatest rate since
abbrev HasGrown : Doc → Identity → Place → Entry → List Entry → Type 0
HasGrown doc q place f h = token_size ≤ (local doc q.process (base q place h) - local doc q.process f.beat) * greatest_since q place f.beat h

-- where the bucket is full, it has from each turn of the row
abbrev pub AreGrown : Doc → Identity → Place → List Entry → Type 0
AreGrown doc q place h =
    (f : Entry) → In f h → is_head place f.fact ≡ true → is_by q f.actor ≡ true → row_began q place h ≤ f.beat → has (rated q place h) ≡ true → is_full doc q place h ≡ true → HasGrown doc q place f h

-- ---- small facts

-- a base isn't later than what is above
base_below : (q : Identity) (place : Place) (k : ℕ) (h : List Entry) → ((f : Entry) → In f h → f.beat ≤ k) → base q place h ≤ k
base_below q place k [] below = omega arith
base_below q place k (e ∷ h) below = by_test (base_below q place k h (λ f at. below f (inr at))) (is_base q place e.actor e.fact h)
  where
    by_test : base q place h ≤ k → (b : Bool) → or_zero (upper (when b e.beat) (base_of q place h)) ≤ k
    by_test old true = below e (inl refl)
    by_test old false = old

-- a token is there: the bucket is full, or it has grown
there_is : (full : Bool) (span : ℕ) (x : Rated) → is_there full span (Some x) ≡ true → (full ≡ true) ⊎ (token_size ≤ span * x.1)
there_is full span x is = by_rate (x.1 == 0) is
  where
    by_full : (full : Bool) → (full || nat_le token_size (span * x.1)) ≡ true → (full ≡ true) ⊎ (token_size ≤ span * x.1)
    by_full true is = inl refl
    by_full false is = inr (leb-true token_size (span * x.1) is)

    by_rate : (b : Bool) → (not b && (full || nat_le token_size (span * x.1))) ≡ true → (full ≡ true) ⊎ (token_size ≤ span * x.1)
    by_rate true is = absurd (false_is is)
    by_rate false is = by_full full is

wider : (a m b n : ℕ) → token_size ≤ a * b → a ≤ m → b ≤ n → token_size ≤ m * n
wider a m b n has le most = omega (arith, has, mul-le a b m n le most)

-- ---- the bucket, entry by entry

module _ (doc : Doc) (q : Identity) (place : Place) (e : Entry) (h : List Entry) (order : IsOrdered (e ∷ h)) (old : AreGrown doc q place h) where
  last : (f : Entry) → In f h → f.beat ≤ e.beat
  last f at = not_later e f (order.0 f at)

  -- what an entry that leaves the token leaves of this
  grown_still : IsStill doc q place e h → (f : Entry) → In f h → is_head place f.fact ≡ true → is_by q f.actor ≡ true → row_began q place (e ∷ h) ≤ f.beat
      → has (rated q place (e ∷ h)) ≡ true → is_full doc q place (e ∷ h) ≡ true → HasGrown doc q place f (e ∷ h)
  grown_still s f at head own row zoned full =
      let was : HasGrown doc q place f h = old f at head own (subst (λ n. n ≤ f.beat) s.row row) (sym s.zoned ∙ zoned) (sym s.full ∙ full) in
      let more : greatest_since q place f.beat h ≤ greatest_since q place f.beat (e ∷ h) = since_more q place f.beat e h last (inl s.rate) in
      subst (λ b. token_size ≤ (local doc q.process b - local doc q.process f.beat) * greatest_since q place f.beat (e ∷ h)) (sym s.since)
      (wider _ (local doc q.process (base q place h) - local doc q.process f.beat) _ (greatest_since q place f.beat (e ∷ h)) was (omega arith) more)

  -- a new rate finds the token there: it was full, or has grown since the base
  grown_changed : (s : GivesRate doc q place e h) → (f : Entry) → In f h → is_head place f.fact ≡ true → is_by q f.actor ≡ true → row_began q place (e ∷ h) ≤ f.beat
      → is_full doc q place (e ∷ h) ≡ true → HasGrown doc q place f (e ∷ h)
  grown_changed s f at head own row full =
      subst (λ b. token_size ≤ (local doc q.process b - local doc q.process f.beat) * greatest_since q place f.beat (e ∷ h)) (sym s.since)
      (by_token (there_is (is_full doc q place h) (local doc q.process e.beat - local doc q.process (base q place h)) s.was (sym s.full ∙ full)))
    where
      more : greatest_since q place f.beat h ≤ greatest_since q place f.beat (e ∷ h)
      more = since_more q place f.beat e h last (inr (s.before f at head own))

      to_base : local doc q.process f.beat ≤ local doc q.process (base q place h)
      to_base = local_up doc q.process f.beat (base q place h) (own_head_before q place h order.1 f at head own)

      from_base : local doc q.process (base q place h) ≤ local doc q.process e.beat
      from_base = local_up doc q.process (base q place h) e.beat (base_below q place e.beat h last)

      rate_was : s.was.1 ≤ greatest_since q place f.beat (e ∷ h)
      rate_was = let was : zone_rate q place h ≡ s.was.1 = ap rate_or_zero s.is in omega (arith, was, rate_since q place f.beat h, more)

      by_token : (is_full doc q place h ≡ true) ⊎ (token_size ≤ (local doc q.process e.beat - local doc q.process (base q place h)) * s.was.1)
          → token_size ≤ (local doc q.process e.beat - local doc q.process f.beat) * greatest_since q place f.beat (e ∷ h)
      by_token (inl full) =
          let was : HasGrown doc q place f h = old f at head own (subst (λ n. n ≤ f.beat) s.row row) (ap has s.is) full in
          wider _ (local doc q.process e.beat - local doc q.process f.beat) _ (greatest_since q place f.beat (e ∷ h)) was (omega (arith, from_base)) more
      by_token (inr grown) = wider _ (local doc q.process e.beat - local doc q.process f.beat) _ (greatest_since q place f.beat (e ∷ h)) grown (omega (arith, to_base)) rate_was

  grown_more : ZoneFirst e.beat e.actor e.fact h → AreGrown doc q place (e ∷ h)
  grown_more first f (inl is) head own row zoned full =
      absurd (true_is (sym full ∙ turn_empties doc q place e h (subst (λ (f : Entry). is_head place f.fact ≡ true) is head) (subst (λ (f : Entry). is_by q f.actor ≡ true) is own)))
  grown_more first f (inr at) head own row zoned full = by_effect (effect doc q place e h first)
    where
      by_effect : Effect doc q place e h → HasGrown doc q place f (e ∷ h)
      by_effect (Leaves s) = grown_still s f at head own row zoned full
      by_effect (Takes empty) = absurd (true_is (sym full ∙ empty))
      by_effect (Begins s) = absurd (omega (arith, row, s.row, s.before f at head own))
      by_effect (Changes s) = grown_changed s f at head own row full
      by_effect (Loses none) = absurd (false_is (sym (ap has none) ∙ zoned))

pub are_grown : (doc : Doc) (q : Identity) (place : Place) (h : List Entry) → IsOrdered h → ZonesFirst h → AreGrown doc q place h
are_grown doc q place [] order first = λ f at head own row zoned full. absurd at
are_grown doc q place (e ∷ h) order first = grown_more doc q place e h order (are_grown doc q place h order.1 first.1) first.0

-- ---- at a turn

-- a clock's way
pub local_way : (doc : Doc) (p high b k : ℕ) → b ≤ k → ((j : ℕ) → j < k → rate doc p j ≤ high) → local doc p k - local doc p b ≤ (k - b) * (beat_micros doc * high)
local_way doc p high b k le slow =
    let e : b + (k - b) ≡ k = omega (arith, le) in
    let span : local doc p k ≤ local doc p b + (k - b) * (beat_micros doc * high) =
    subst (λ m. local doc p m ≤ local doc p b + (k - b) * (beat_micros doc * high)) e (local_span doc p high b (k - b) (λ j lt. slow j (omega (arith, lt, le)))) in
    omega (arith, span)

full_is : (rule : BucketRule) (doc : Doc) (q : Identity) (place : Place) (h : List Entry) → is_full_by rule doc q place h ≡ true → is_full doc q place h ≡ true
full_is Empty doc q place h is = absurd (false_is is)
full_is Full doc q place h is = is

module _ (doc : Doc) (q : Identity) (k : ℕ) (place : Place) (h : List Entry) (below : (f : Entry) → In f h → f.beat ≤ k) (order : IsOrdered h) (first : ZonesFirst h) where
  -- where the token is there, one has grown by the term's own clock
  turn_grown : has_token doc q k place h ≡ true → (f : Entry) → In f h → is_head place f.fact ≡ true → is_by q f.actor ≡ true → row_began q place h ≤ f.beat
      → token_size ≤ (local doc q.process k - local doc q.process f.beat) * greatest_since q place f.beat h
  turn_grown token f at head own row = by_rated (rated q place h) refl (sym (token_is_there doc q k place h) ∙ token)
    where
      full : Bool
      full = is_full_by doc.settings.rules.bucket doc q place h

      to_base : local doc q.process f.beat ≤ local doc q.process (base q place h)
      to_base = local_up doc q.process f.beat (base q place h) (own_head_before q place h order f at head own)

      from_base : local doc q.process (base q place h) ≤ local doc q.process k
      from_base = local_up doc q.process (base q place h) k (base_below q place k h below)

      by_token : (x : Rated) → rated q place h ≡ Some x → (full ≡ true) ⊎ (token_size ≤ (local doc q.process k - local doc q.process (base q place h)) * x.1)
          → token_size ≤ (local doc q.process k - local doc q.process f.beat) * greatest_since q place f.beat h
      by_token x is (inl filled) =
          let was : HasGrown doc q place f h = are_grown doc q place h order first f at head own row (ap has is) (full_is doc.settings.rules.bucket doc q place h filled) in
          wider _ (local doc q.process k - local doc q.process f.beat) _ (greatest_since q place f.beat h) was (omega (arith, from_base)) (omega arith)
      by_token x is (inr grown) =
          let rate_is : zone_rate q place h ≡ x.1 = ap rate_or_zero is in
          wider _ (local doc q.process k - local doc q.process f.beat) _ (greatest_since q place f.beat h) grown (omega (arith, to_base)) (omega (arith, rate_is, rate_since q place f.beat h))

      by_rated : (o : Option Rated) → rated q place h ≡ o → is_there full (grown doc q k place h) o ≡ true → token_size ≤ (local doc q.process k - local doc q.process f.beat) * greatest_since q place f.beat h
      by_rated None is there = absurd (false_is there)
      by_rated (Some x) is there = by_token x is (there_is full (grown doc q k place h) x there)

  -- and by the fastest one, whatever the two beats: so they differ
  pub turn_spaced : ((j : ℕ) → j < k → rate doc q.process j ≤ greatest_below doc (length doc.controllers)) → has_token doc q k place h ≡ true
      → (f : Entry) → In f h → is_head place f.fact ≡ true → is_by q f.actor ≡ true → row_began q place h ≤ f.beat
      → token_size ≤ greatest_span doc (k - f.beat) * greatest_since q place f.beat h
  turn_spaced slow token f at head own row =
      wider _ (greatest_span doc (k - f.beat)) _ (greatest_since q place f.beat h) (turn_grown token f at head own row)
      (local_way doc q.process (greatest_below doc (length doc.controllers)) f.beat k (below f at) slow) (omega arith)
