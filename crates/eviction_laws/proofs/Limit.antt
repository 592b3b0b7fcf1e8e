-- A term's deletes keep the limit, where there is one.
use Rattle.std.proofs.Common.{◌≡◌, ◌∙◌, ◌≤◌, ℕ, zero, suc, ◌+◌, ◌-◌, ◌*◌, ◌/◌, ◌==◌, ◌&&◌, nat_le, Bool, true, false, List, [], ◌∷◌, refl, sym, ap, subst, arith, ◌<◌}
use Rattle.std.proofs.lemmas.Bool.{leb-true, leb-false}
use Rattle.std.proofs.lemmas.Bool.Decides.{nat_tests}
use Rattle.std.proofs.lemmas.Nat.{mul-le, le-div}
use Rattle.kube_objects.specs.declared.deed.Actor.{Actor}
use Rattle.kube_objects.specs.declared.key.Key.{Key}
use Rattle.kube_objects.specs.declared.object.Object.{Object}
use Rattle.kube_objects.specs.Clocks.{local, store_wall, whole_second}
use Rattle.kube_objects.specs.Document.{Doc, end_beat}
use Rattle.kube_objects.specs.Entry.{Entry, Identity, Fact, First, Ticks, Delete, script_entry}
use Rattle.kube_objects.specs.Identities.{is_by}
use Rattle.kube_objects.specs.Newest.{added, has}
use Rattle.kube_objects.specs.Stamps.{stamped}
use Rattle.kube_objects.specs.Tick.{has_room, spends}
use Rattle.kube_objects.specs.Tokens.{token_size}
use Rattle.history.specs.Evictions.{is_within, deletes_within, IsLimited}
use Rattle.history.specs.History.{put_all, history}
use Rattle.history_laws.proofs.Plainly.{true_is, and_left, and_right, same_is}
use Rattle.history_laws.proofs.Walk.{Made, Keeps, KeepsRelease, all_made, made_release, walk_history}

-- each delete that wasn't lost was within the limit as it was made
abbrev pub RoomyAt : Doc → Identity → Entry → List Entry → Type 0
RoomyAt doc q e h = spends q e.actor e.fact ≡ true → (doc.settings.rules.evict_burst == 0) ≡ false → has_room doc q e.beat 0 h ≡ true

abbrev pub AreRoomy : Doc → Identity → List Entry → Type 0
AreRoomy doc q [] = Unit {0}
AreRoomy doc q (e ∷ h) = RoomyAt doc q e h × AreRoomy doc q h

roomy_made : (doc : Doc) (q : Identity) (k : ℕ) (who : Actor) (d : Fact) (h : List Entry) → Made doc k who d h → spends q who d ≡ true → (doc.settings.rules.evict_burst == 0) ≡ false → has_room doc q k 0 h ≡ true
roomy_made doc q k who (Ticks (Delete pod given node_given at a)) h (r, is, acting, made) spent limited =
    let mine : r ≡ q = same_is r q (subst (λ w. is_by q w ≡ true) is (and_left (is_by q who) (has a) spent)) in
    subst (λ q. has_room doc q k 0 h ≡ true) mine (made.1 limited)
roomy_made doc q k who d h made spent limited = absurd (true_is (sym spent))

roomy_keeps : (doc : Doc) (q : Identity) → Keeps doc (λ k step. AreRoomy doc q)
roomy_keeps doc q = all_made doc (λ k step. AreRoomy doc q) (λ k step h s. s) (λ k h s. s) (λ x h made s. (λ spent limited. roomy_made doc q x.beat x.actor x.fact h made spent limited, s))

roomy_release : (doc : Doc) (q : Identity) → KeepsRelease doc (λ k step. AreRoomy doc q)
roomy_release doc q = made_release doc (λ k step. AreRoomy doc q) (λ x h made s. (λ spent limited. roomy_made doc q x.beat x.actor x.fact h made spent limited, s))

put_roomy : (doc : Doc) (q : Identity) (xs : List (Key × Object)) (h : List Entry) → AreRoomy doc q h → AreRoomy doc q (put_all doc xs h)
put_roomy doc q [] h s = s
put_roomy doc q (x ∷ xs) h s = put_roomy doc q xs (script_entry 0 0 (First x.0 (stamped (whole_second (store_wall doc 0)) x.1)) ∷ h) ((λ spent limited. absurd (true_is (sym spent))), s)

pub always_roomy : (doc : Doc) (q : Identity) (k : ℕ) → AreRoomy doc q (history doc k)
always_roomy doc q k = walk_history doc (λ k step. AreRoomy doc q) (roomy_keeps doc q) (roomy_release doc q) (put_roomy doc q doc.objects [] tt) k

-- ---- how many there are within a span

token_some : 0 < token_size
unfolding token_size
token_some = omega arith

module _ (doc : Doc) (q : Identity) (x y : ℕ) where
  abbrev burst : ℕ
  burst = doc.settings.rules.evict_burst

  abbrev rate : ℕ
  rate = doc.settings.rules.evict_rate

  -- the span leaves so much for those beyond the burst
  abbrev Left : ℕ → Type 0
  Left n = (n - burst) * token_size ≤ (y - x) * rate

  left_less : (m n : ℕ) → m ≤ n → Left n → Left m
  left_less m n le most =
      let less : (m - burst) * token_size ≤ (n - burst) * token_size = mul-le (m - burst) token_size (n - burst) token_size (omega (arith, le)) (omega arith) in
      omega (arith, less, most)

  longer : (from to : ℕ) → x ≤ from → to ≤ y → (to - from) * rate ≤ (y - x) * rate
  longer from to first last = mul-le (to - from) rate (y - x) rate (omega (arith, first, last)) (omega arith)

  abbrev counted : ℕ → ℕ → List Entry → Type 0
  counted k after h = local doc q.process k ≤ y → 1 ≤ deletes_within doc q x y h → Left (after + deletes_within doc q x y h + 1)

  -- where a further delete is within the limit, those of the span before it leave room
  room_counts : (k after : ℕ) (h : List Entry) → has_room doc q k after h ≡ true → counted k after h
  room_counts k after [] room last some = absurd (omega (arith, some))
  room_counts k after (e ∷ h) room last some =
      by_spent (λ after room some. room_counts k after h room last some) (spends q e.actor e.fact) refl room some
    where
      at : ℕ
      at = local doc q.process e.beat

      Room : Bool → Type 0
      Room b = elim b [ true ↦ nat_le ((after + 2 - burst) * token_size) ((local doc q.process k - at) * rate) && has_room doc q k (after + 1) h | false ↦ has_room doc q k after h ] ≡ true

      Says : Bool → Bool → Type 0
      Says spent within = 1 ≤ added (spent && within) (deletes_within doc q x y h) → Left (after + added (spent && within) (deletes_within doc q x y h) + 1)

      Counts : Type 0
      Counts = (after : ℕ) → has_room doc q k after h ≡ true → 1 ≤ deletes_within doc q x y h → Left (after + deletes_within doc q x y h + 1)

      older : Counts → has_room doc q k (after + 1) h ≡ true → 1 ≤ deletes_within doc q x y h → (b : Bool) → Left (after + added b (deletes_within doc q x y h) + 1)
      older counts room some b =
          left_less (after + added b (deletes_within doc q x y h) + 1) (after + 1 + deletes_within doc q x y h + 1) (by_added b) (counts (after + 1) room some)
        where
          by_added : (b : Bool) → after + added b (deletes_within doc q x y h) + 1 ≤ after + 1 + deletes_within doc q x y h + 1
          by_added true = omega arith
          by_added false = omega arith

      alone : nat_le ((after + 2 - burst) * token_size) ((local doc q.process k - at) * rate) ≡ true → (within : Bool) → is_within doc q x y e.beat ≡ within → (n : ℕ) → n ≤ 0 → 1 ≤ added within n → Left (after + added within n + 1)
      alone fits false is n none some = absurd (omega (arith, none, some))
      alone fits true is n none some =
          let fit : (after + 2 - burst) * token_size ≤ (local doc q.process k - at) * rate = leb-true _ _ fits in
          let inside : (local doc q.process k - at) * rate ≤ (y - x) * rate = longer at (local doc q.process k) (leb-true x at (and_left (nat_le x at) (nat_le at y) is)) last in
          left_less (after + (n + 1) + 1) (after + 2) (omega (arith, none)) (omega (arith, fit, inside))

      by_some : Counts → (within : Bool) → is_within doc q x y e.beat ≡ within → nat_le ((after + 2 - burst) * token_size) ((local doc q.process k - at) * rate) ≡ true → has_room doc q k (after + 1) h ≡ true → Says true within
      by_some counts within is fits room some = by_count (nat_le 1 (deletes_within doc q x y h)) refl
        where
          by_count : (b : Bool) → nat_le 1 (deletes_within doc q x y h) ≡ b → Left (after + added within (deletes_within doc q x y h) + 1)
          by_count true there = older counts room (leb-true 1 _ there) within
          by_count false none = alone fits within is (deletes_within doc q x y h) (omega (arith, leb-false 1 (deletes_within doc q x y h) none)) some

      by_spent : Counts → (b : Bool) → spends q e.actor e.fact ≡ b → Room b → 1 ≤ added (b && is_within doc q x y e.beat) (deletes_within doc q x y h) → Left (after + added (b && is_within doc q x y e.beat) (deletes_within doc q x y h) + 1)
      by_spent counts false is room some = counts after room some
      by_spent counts true is room some =
          by_some counts (is_within doc q x y e.beat) refl
          (and_left (nat_le ((after + 2 - burst) * token_size) ((local doc q.process k - at) * rate)) (has_room doc q k (after + 1) h) room)
          (and_right (nat_le ((after + 2 - burst) * token_size) ((local doc q.process k - at) * rate)) (has_room doc q k (after + 1) h) room) some

  -- so there are no more than the burst and what the rate makes up
  few : (h : List Entry) → AreRoomy doc q h → (burst == 0) ≡ false → 1 ≤ burst → deletes_within doc q x y h ≤ burst + (y - x) * rate / token_size
  few [] s limited some = omega arith
  few (e ∷ h) s limited some = by_spent (few h s.1 limited some) (spends q e.actor e.fact) refl (is_within doc q x y e.beat) refl
    where
      by_count : has_room doc q e.beat 0 h ≡ true → local doc q.process e.beat ≤ y → (b : Bool) → nat_le 1 (deletes_within doc q x y h) ≡ b → deletes_within doc q x y h + 1 ≤ burst + (y - x) * rate / token_size
      by_count room last false none =
          let least : deletes_within doc q x y h < 1 = leb-false 1 (deletes_within doc q x y h) none in
          omega (arith, least, some)
      by_count room last true there =
          let left : (0 + deletes_within doc q x y h + 1 - burst) * token_size ≤ (y - x) * rate = room_counts e.beat 0 h room last (leb-true 1 _ there) in
          let more : (0 + deletes_within doc q x y h + 1 - burst) ≤ (y - x) * rate / token_size = le-div (0 + deletes_within doc q x y h + 1 - burst) ((y - x) * rate) token_size token_some left in
          omega (arith, more)

      by_spent : deletes_within doc q x y h ≤ burst + (y - x) * rate / token_size → (spent : Bool) → spends q e.actor e.fact ≡ spent → (within : Bool) → is_within doc q x y e.beat ≡ within
          → added (spent && within) (deletes_within doc q x y h) ≤ burst + (y - x) * rate / token_size
      by_spent older false is within at = older
      by_spent older true is false at = older
      by_spent older true is true at =
          by_count (s.0 is limited) (leb-true (local doc q.process e.beat) y (and_right (nat_le x (local doc q.process e.beat)) (nat_le (local doc q.process e.beat) y) at)) (nat_le 1 (deletes_within doc q x y h)) refl

not_zero : (n : ℕ) → (suc n == 0) ≡ false
not_zero n = grind (arith, nat_tests)

pub limit : (doc : Doc) → IsLimited doc.settings.rules.evict_burst doc
limit doc = by_burst doc.settings.rules.evict_burst refl
  where
    by_burst : (n : ℕ) → doc.settings.rules.evict_burst ≡ n → IsLimited n doc
    by_burst zero is = tt
    by_burst (suc n) is = λ q x y le.
        let all = few doc q x y (history doc (suc (end_beat doc))) (always_roomy doc q (suc (end_beat doc))) (ap (λ m. m == 0) is ∙ not_zero n) (subst (λ m. 1 ≤ m) (sym is) (omega arith)) in
        subst (λ m. deletes_within doc q x y (history doc (suc (end_beat doc))) ≤ m + (y - x) * doc.settings.rules.evict_rate / token_size) is all
