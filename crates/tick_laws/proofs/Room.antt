-- A further delete is within the limit exactly where no more than the rest of the burst is owed.
use Rattle.std.proofs.Common.{◌≡◌, ◌↔◌, ℕ, ◌+◌, ◌-◌, ◌*◌, ◌≤◌, ◌<◌, ◌&&◌, nat_le, Bool, true, false, List, [], ◌∷◌, refl, sym, subst, inl, inr, ◌∙◌, arith}
use Rattle.std.proofs.lemmas.Bool.{leb-true, leb-false, le-leb}
use Rattle.std.proofs.lemmas.Nat.{mul-le}
use Rattle.kube_objects.specs.Clocks.{local}
use Rattle.kube_objects.specs.Document.{Doc}
use Rattle.kube_objects.specs.Entry.{Entry, Identity, Tick}
use Rattle.kube_objects.specs.Tick.{add, has_room, spends}
use Rattle.kube_objects.specs.Tokens.{token_size}
use Rattle.kube_objects.proofs.Clocks.{local_up}
use Rattle.history_laws.specs.Order.{IsOrdered, IsWithin}
use Rattle.history_laws.specs.Tails.{In}
use Rattle.history_laws.proofs.Plainly.{true_is, and_left, and_right, and_both}
use Rattle.tick_laws.specs.Room.{owed, AreInBeats, AreUpTo, RoomIsOwed}

-- ---- the order by beats

pub in_beats : (h : List Entry) → IsOrdered h → AreInBeats h
in_beats [] ordered = tt
in_beats (e ∷ h) ordered = (λ f stands. upto f (ordered.0 f stands), in_beats h ordered.1)
  where
    upto : (f : Entry) → IsWithin e.beat e.step f → f.beat ≤ e.beat
    upto f (inl before) = omega (arith, before)
    upto f (inr here) = omega (arith, here.0)

-- an entry of this beat
pub beats_more : (k : ℕ) (q : Identity) (t : Tick) (h : List Entry) → AreUpTo k h → AreInBeats h → AreInBeats (add k q t h) × AreUpTo k (add k q t h)
beats_more k q t h upto beats = ((upto, beats), more)
  where
    more : (e : Entry) → In e (add k q t h) → e.beat ≤ k
    more e (inl is) = subst (λ (f : Entry). f.beat ≤ k) (sym is) (omega arith)
    more e (inr stands) = upto e stands

-- ---- what fits

-- a product that is cut off fits where the whole does with the cut on the other side
cut_fits : (a b t x : ℕ) → (a - b) * t ≤ x → a * t ≤ b * t + x
cut_fits a b t x le = by_order (nat_le a b) refl
  where
    whole : (a b t : ℕ) → b ≤ a → a * t ≤ b * t + (a - b) * t
    whole a b t le = let same : a ≡ b + (a - b) = omega (arith, le) in subst (λ c. c * t ≤ b * t + (a - b) * t) (sym same) (omega arith)

    by_order : (c : Bool) → nat_le a b ≡ c → a * t ≤ b * t + x
    by_order true is = let less : a * t ≤ b * t = mul-le a t b t (leb-true a b is) (omega arith) in omega (arith, less)
    by_order false is =
        let more : b < a = leb-false a b is in
        let split : a * t ≤ b * t + (a - b) * t = whole a b t (omega (arith, more)) in
        omega (arith, split, le)

fits_cut : (a b t x : ℕ) → a * t ≤ b * t + x → (a - b) * t ≤ x
fits_cut a b t x le = by_order (nat_le a b) refl
  where
    by_order : (c : Bool) → nat_le a b ≡ c → (a - b) * t ≤ x
    by_order true is =
        let none : a - b ≡ 0 = omega (arith, leb-true a b is) in
        subst (λ c. c * t ≤ x) (sym none) (omega arith)
    by_order false is =
        let same : b + (a - b) ≡ a = omega (arith, leb-false a b is) in
        let split : b * t + (a - b) * t ≤ a * t = subst (λ c. b * t + (a - b) * t ≤ c * t) same (omega arith) in
        omega (arith, split, le)

module _ (doc : Doc) (q : Identity) where
  abbrev burst : ℕ
  burst = doc.settings.rules.evict_burst

  abbrev rate : ℕ
  rate = doc.settings.rules.evict_rate

  abbrev at : Entry → ℕ
  at e = local doc q.process e.beat

  -- what is owed over an entry, by whether it is a delete that counts
  abbrev Owed : Bool → ℕ → Entry → List Entry → ℕ
  Owed b now e h = elim b [ true ↦ owed doc q (at e) h + token_size - (now - at e) * rate | false ↦ owed doc q now h ]

  -- with so many deletes after the newest one, a further one fits
  abbrev Fits : ℕ → ℕ → List Entry → Type 0
  Fits after now [] = Unit {0}
  Fits after now (e ∷ h) =
      elim (spends q e.actor e.fact) [
        | true ↦ (after + 2) * token_size + owed doc q (at e) h ≤ burst * token_size + (now - at e) * rate
        | false ↦ Fits after now h
      ]

  -- the same over an entry, by whether it is one
  abbrev FitsAs : Bool → ℕ → ℕ → Entry → List Entry → Type 0
  FitsAs b after now e h = elim b [ true ↦ (after + 2) * token_size + owed doc q (at e) h ≤ burst * token_size + (now - at e) * rate | false ↦ Fits after now h ]

  later : (x y z : ℕ) → x ≤ y → y ≤ z → (z - x) * rate ≡ (z - y) * rate + (y - x) * rate
  later x y z low high = let same : z - x ≡ (z - y) + (y - x) = omega (arith, low, high) in subst (λ n. n * rate ≡ (z - y) * rate + (y - x) * rate) (sym same) (omega arith)

  -- what fits with one more after it, where another delete stands between
  both_fit : (after now r : ℕ) (h : List Entry) → r ≤ now → ((e : Entry) → In e h → at e ≤ r) → (after + 2) * token_size ≤ burst * token_size + (now - r) * rate → Fits (after + 1) now h
      → (after + 2) * token_size + owed doc q r h ≤ burst * token_size + (now - r) * rate
  both_fit after now r [] le past first rest = omega (arith, first)
  both_fit after now r (e ∷ h) le past first rest = by_spent (both_fit after now r h le (λ f stands. past f (inr stands)) first) (spends q e.actor e.fact) rest
    where
      by_spent : (Fits (after + 1) now h → (after + 2) * token_size + owed doc q r h ≤ burst * token_size + (now - r) * rate) → (b : Bool)
          → FitsAs b (after + 1) now e h → (after + 2) * token_size + Owed b r e h ≤ burst * token_size + (now - r) * rate
      by_spent older false rest = older rest
      by_spent older true rest =
          let span = later (at e) r now (past e (inl refl)) le in
          omega (arith, first, rest, span)

  fit_both : (after now r : ℕ) (h : List Entry) → r ≤ now → ((e : Entry) → In e h → at e ≤ r) → (after + 2) * token_size + owed doc q r h ≤ burst * token_size + (now - r) * rate → Fits (after + 1) now h
  fit_both after now r [] le past all = tt
  fit_both after now r (e ∷ h) le past all = by_spent (fit_both after now r h le (λ f stands. past f (inr stands))) (spends q e.actor e.fact) all
    where
      by_spent : ((after + 2) * token_size + owed doc q r h ≤ burst * token_size + (now - r) * rate → Fits (after + 1) now h) → (b : Bool) → (after + 2) * token_size + Owed b r e h ≤ burst * token_size + (now - r) * rate
          → FitsAs b (after + 1) now e h
      by_spent older false all = older all
      by_spent older true all =
          let span = later (at e) r now (past e (inl refl)) le in
          omega (arith, all, span)

  room_fits : (k after : ℕ) (h : List Entry) → AreInBeats h → AreUpTo k h → has_room doc q k after h ≡ true ↔ Fits after (local doc q.process k) h
  room_fits k after [] ordered upto = (λ room. tt, λ fits. refl)
  room_fits k after (e ∷ h) ordered upto = by_spent (λ after. room_fits k after h ordered.1 (λ f stands. upto f (inr stands))) (spends q e.actor e.fact)
    where
      now : ℕ
      now = local doc q.process k

      le : at e ≤ now
      le = local_up doc q.process e.beat k (upto e (inl refl))

      past : (f : Entry) → In f h → at f ≤ at e
      past f stands = local_up doc q.process f.beat e.beat (ordered.0 f stands)

      Tells : Type 0
      Tells = (after : ℕ) → has_room doc q k after h ≡ true ↔ Fits after now h

      first : Bool
      first = nat_le ((after + 2 - burst) * token_size) ((now - at e) * rate)

      Room : Bool → Bool
      Room b = elim b [ true ↦ first && has_room doc q k (after + 1) h | false ↦ has_room doc q k after h ]

      by_spent : Tells → (b : Bool) → Room b ≡ true ↔ FitsAs b after now e h
      by_spent rest false = rest after
      by_spent rest true = (
        λ room.
            let one = cut_fits (after + 2) burst token_size ((now - at e) * rate) (leb-true _ _ (and_left first (has_room doc q k (after + 1) h) room)) in
            both_fit after now (at e) h le past one ((rest (after + 1)).0 (and_right first (has_room doc q k (after + 1) h) room)),
        λ fits.
            and_both first (has_room doc q k (after + 1) h)
            (le-leb _ _ (fits_cut (after + 2) burst token_size ((now - at e) * rate) (omega (arith, fits))))
            ((rest (after + 1)).1 (fit_both after now (at e) h le past fits)),
      )

  -- with none after it
  fits_owed : (now : ℕ) (h : List Entry) → 1 ≤ burst → Fits 0 now h → owed doc q now h + token_size ≤ burst * token_size
  fits_owed now [] some fits = let one : 1 * token_size ≤ burst * token_size = mul-le 1 token_size burst token_size some (omega arith) in omega (arith, one)
  fits_owed now (e ∷ h) some fits = by_spent (fits_owed now h some) (spends q e.actor e.fact) fits
    where
      one : 1 * token_size ≤ burst * token_size
      one = mul-le 1 token_size burst token_size some (omega arith)

      by_spent : (Fits 0 now h → owed doc q now h + token_size ≤ burst * token_size) → (b : Bool)
          → FitsAs b 0 now e h → Owed b now e h + token_size ≤ burst * token_size
      by_spent older false fits = older fits
      by_spent older true fits = omega (arith, fits, one)

  owed_fits : (now : ℕ) (h : List Entry) → owed doc q now h + token_size ≤ burst * token_size → Fits 0 now h
  owed_fits now [] le = tt
  owed_fits now (e ∷ h) le = by_spent (owed_fits now h) (spends q e.actor e.fact) le
    where
      by_spent : (owed doc q now h + token_size ≤ burst * token_size → Fits 0 now h) → (b : Bool) → Owed b now e h + token_size ≤ burst * token_size → FitsAs b 0 now e h
      by_spent older false le = older le
      by_spent older true le = omega (arith, le)

pub room_is_owed : RoomIsOwed
room_is_owed doc k q h some ordered upto = by_tests (has_room doc q k 0 h) refl (nat_le (owed doc q now h + token_size) (burst doc q * token_size)) refl
  where
    now : ℕ
    now = local doc q.process k

    by_tests : (a : Bool) → has_room doc q k 0 h ≡ a → (b : Bool) → nat_le (owed doc q now h + token_size) (doc.settings.rules.evict_burst * token_size) ≡ b → a ≡ b
    by_tests true room true fits = refl
    by_tests false room false fits = refl
    by_tests true room false fits =
        let le = fits_owed doc q now h some ((room_fits doc q k 0 h ordered upto).0 room) in
        absurd (true_is (sym (le-leb _ _ le) ∙ fits))
    by_tests false room true fits =
        absurd (true_is (sym ((room_fits doc q k 0 h ordered upto).1 (owed_fits doc q now h (leb-true _ _ fits))) ∙ room))
