-- What it means that the two maps of an eviction queue are in step.
use Rattle.std.proofs.Common.{◌≡◌, ℕ, Bool, true, false, not, ◌&&◌, ◌||◌, ◌==◌, List, [], ◌∷◌, cond, refl, ap, sym, ◌∙◌, subst, arith, is_some}
use Rattle.std.proofs.lemmas.Bool.Decides.{nat_tests}
use Rattle.kube_objects.specs.declared.key.Key.{Key}
use Rattle.kube_objects.specs.declared.pod.Due.{Due}
use Rattle.kube_objects.specs.declared.pod.Due.TheVariants.{Never, At}
use Rattle.kube_objects.specs.Keys.{key_eq}
use Rattle.evict_queue.specs.Ahead.{Ahead, HasRoomsBut, InStep, IsPart, IsWithin, MissesAtMost}
use Rattle.evict_queue.specs.Order.{is_entry}
use Rattle.evict_queue.specs.Changed.{changed, is_time, names_key, sets_time}
use Rattle.evict_queue.specs.Held.{due_of, has_entry, room_of}
use Rattle.evict_queue.specs.declared.dues.Dues.{Dues}
use Rattle.evict_queue.specs.declared.timed.Timed.{Timed}
use Rattle.kube_objects.proofs.KeyOrder.{same_key}

time_itself : (time : ℕ) → (time == time) ≡ true
time_itself time = grind (arith, nat_tests)

-- a due time that is kept stands in the ordered map
pub has_time : (dues : Dues) (timed : Timed) → InStep dues timed → (time : ℕ) (key : Key) → due_of dues key ≡ At time → has_entry timed time key ≡ true
has_time dues timed s time key is = s time key ∙ ap (is_time time) is ∙ time_itself time

-- where the ordered map has nothing, no due time is kept
pub nothing_due : (dues : Dues) (timed : Timed) → InStep dues timed → ((time : ℕ) (key : Key) → has_entry timed time key ≡ false)
    → (time : ℕ) (key : Key) → due_of dues key ≡ At time → ⊥
nothing_due dues timed s none time key is =
    let there = has_time dues timed s time key is in
    let not_there = none time key in
    cc

never_at_all : (due : Due) → ((time : ℕ) → is_time time due ≡ false) → due ≡ Never
never_at_all Never f = refl
never_at_all (At time) f =
    let there = time_itself time in
    let not_there = f time in
    cc

pub never_due : (dues : Dues) (timed : Timed) → InStep dues timed → ((time : ℕ) (key : Key) → has_entry timed time key ≡ false)
    → (key : Key) → due_of dues key ≡ Never
never_due dues timed s none key = never_at_all (due_of dues key) (λ time. sym (s time key) ∙ none time key)

time_is : (time : ℕ) (due : Due) → is_time time due ≡ true → due ≡ At time
time_is time Never h = cc
time_is time (At other) h =
    let same : other ≡ time = grind (arith, nat_tests) in
    ap At same

-- a due time that stands in the ordered map is kept
pub due_there : (dues : Dues) (timed : Timed) → InStep dues timed → (time : ℕ) (key : Key) → has_entry timed time key ≡ true → due_of dues key ≡ At time
due_there dues timed s time key there = time_is time (due_of dues key) (sym (s time key) ∙ there)

-- ---- tests
from_and : (b c : Bool) → (b && c) ≡ true → (b ≡ true) × (c ≡ true)
from_and true true h = (refl, refl)
from_and true false h = (refl, h)
from_and false c h = (h, cc)

and_swap : (b c : Bool) → (b && c) ≡ (c && b)
and_swap true true = refl
and_swap true false = refl
and_swap false true = refl
and_swap false false = refl

or_left : (b c : Bool) → b ≡ true → (b || c) ≡ true
or_left true c h = refl
or_left false c h = cc

or_right : (b c : Bool) → c ≡ true → (b || c) ≡ true
or_right true c h = refl
or_right false c h = h

no_middle : (b m c : Bool) → m ≡ false → (b || (m || c)) ≡ true → (b || c) ≡ true
no_middle b true c e h = cc
no_middle b false c e h = h

middle_first : (b m c : Bool) → (b || (m || c)) ≡ true → ((m || b) || c) ≡ true
middle_first true true c h = refl
middle_first true false c h = refl
middle_first false true c h = refl
middle_first false false c h = h

by_cases : (b c : Bool) {A : Type 0} → (b || c) ≡ true → (b ≡ true → A) → (c ≡ true → A) → A
by_cases true c h f g = f refl
by_cases false c h f g = g h

is_false : (b : Bool) → (b ≡ true → ⊥) → b ≡ false
is_false true f = absurd (f refl)
is_false false f = refl

not_true : (b : Bool) → not b ≡ true → b ≡ false
not_true true h = cc
not_true false h = refl

number_same : (a b : ℕ) → (a == b) ≡ true → a ≡ b
number_same a b h = grind (arith, nat_tests)

-- ---- an entry of a list
pair_entry : (key : Key) (due : Due) (time : ℕ) → due ≡ At time → (d : ℕ) (k : Key) → (key_eq key k && is_time d due) ≡ is_entry time key d k
pair_entry key due time is d k = ap (λ x. key_eq key k && is_time d x) is ∙ and_swap (key_eq key k) (time == d)

-- the due time of the list's first pair isn't kept, and was taken out
pub unstaged : (dues : Dues) (timed new : Timed) (key : Key) (due : Due) (time : ℕ) (others : List (Key × Due)) → IsWithin dues timed ((key, due) ∷ others) → due ≡ At time
    → is_time time (due_of dues key) ≡ false → ((d : ℕ) (k : Key) → has_entry new d k ≡ (not (is_entry time key d k) && has_entry timed d k)) → IsWithin dues new others
unstaged dues timed new key due time others w is off taken = record { kept = kept; known = known }
  where
    apart : (d : ℕ) (k : Key) → is_time d (due_of dues k) ≡ true → is_entry time key d k ≡ true → ⊥
    apart d k h same =
        let parts = from_and (time == d) (key_eq key k) same in
        let one : is_time time (due_of dues key) ≡ true = subst (λ t. is_time t (due_of dues key) ≡ true) (sym (number_same time d parts.0)) (subst (λ q. is_time d (due_of dues q) ≡ true) (sym (same_key key k parts.1)) h) in
        cc

    kept : (d : ℕ) (k : Key) → is_time d (due_of dues k) ≡ true → has_entry new d k ≡ true
    kept d k h = taken d k ∙ ap (λ b. not b && has_entry timed d k) (is_false (is_entry time key d k) (apart d k h)) ∙ w.kept d k h

    known : (d : ℕ) (k : Key) → has_entry new d k ≡ true → (is_time d (due_of dues k) || sets_time others d k) ≡ true
    known d k h =
        let parts = from_and (not (is_entry time key d k)) (has_entry timed d k) (sym (taken d k) ∙ h) in
        no_middle (is_time d (due_of dues k)) (key_eq key k && is_time d due) (sets_time others d k)
        (pair_entry key due time is d k ∙ not_true (is_entry time key d k) parts.0)
        (w.known d k parts.1)

-- the due time of the first pair of a list's rest was added
pub staged_within : (dues : Dues) (timed new : Timed) (key : Key) (due : Due) (time : ℕ) (pairs others : List (Key × Due)) → IsWithin dues timed pairs → IsPart ((key, due) ∷ others) pairs → due ≡ At time
    → ((d : ℕ) (k : Key) → has_entry new d k ≡ (is_entry time key d k || has_entry timed d k)) → IsWithin dues new pairs
staged_within dues timed new key due time pairs others w part is added = record { kept = kept; known = known }
  where
    kept : (d : ℕ) (k : Key) → is_time d (due_of dues k) ≡ true → has_entry new d k ≡ true
    kept d k h = added d k ∙ or_right (is_entry time key d k) (has_entry timed d k) (w.kept d k h)

    known : (d : ℕ) (k : Key) → has_entry new d k ≡ true → (is_time d (due_of dues k) || sets_time pairs d k) ≡ true
    known d k h =
        by_cases (is_entry time key d k) (has_entry timed d k) (sym (added d k) ∙ h)
        (λ same. or_right (is_time d (due_of dues k)) (sets_time pairs d k) (part d k (or_left (key_eq key k && is_time d due) (sets_time others d k) (pair_entry key due time is d k ∙ same))))
        (w.known d k)

pub staged_misses : (timed new : Timed) (key : Key) (due : Due) (time : ℕ) (pairs others : List (Key × Due)) → MissesAtMost timed pairs ((key, due) ∷ others) → due ≡ At time
    → ((d : ℕ) (k : Key) → has_entry new d k ≡ (is_entry time key d k || has_entry timed d k)) → MissesAtMost new pairs others
staged_misses timed new key due time pairs others m is added d k h =
    ap (λ b. b || sets_time others d k) (added d k ∙ ap (λ b. b || has_entry timed d k) (sym (pair_entry key due time is d k)))
    ∙ middle_first (has_entry timed d k) (key_eq key k && is_time d due) (sets_time others d k) (m d k h)

pub rest_part : (pair : Key × Due) (others pairs : List (Key × Due)) → IsPart (pair ∷ others) pairs → IsPart others pairs
rest_part pair others pairs part d k h = part d k (or_right (key_eq pair.0 k && is_time d pair.1) (sets_time others d k) h)

-- ---- the dues of a list are settled
from_no_or : (b c : Bool) → (b || c) ≡ false → (b ≡ false) × (c ≡ false)
from_no_or true c h = (h, cc)
from_no_or false c h = (refl, h)

sets_none : (pairs : List (Key × Due)) (key : Key) (d : ℕ) → names_key pairs key ≡ false → sets_time pairs d key ≡ false
sets_none [] key d h = refl
sets_none (p ∷ ps) key d h =
    let parts = from_no_or (key_eq p.0 key) (names_key ps key) h in
    ap (λ b. (b && is_time d p.1) || sets_time ps d key) parts.0 ∙ sets_none ps key d parts.1

changes_none : (pairs : List (Key × Due)) (key : Key) (old : Due) → names_key pairs key ≡ false → changed pairs old key ≡ old
changes_none [] key old h = refl
changes_none (p ∷ ps) key old h =
    let parts = from_no_or (key_eq p.0 key) (names_key ps key) h in
    ap (λ b. cond b p.1 (changed ps old key)) parts.0 ∙ changes_none ps key old parts.1

replaced : (x y : Bool) → (not (x && not y) && (x || (y || false))) ≡ (y || false)
replaced true true = refl
replaced true false = refl
replaced false true = refl
replaced false false = refl

pub settled_ahead : (dues new_dues : Dues) (timed new : Timed) (key : Key) (due : Due) (others : List (Key × Due)) → Ahead dues timed ((key, due) ∷ others) → names_key others key ≡ false
    → ((k : Key) → due_of new_dues k ≡ cond (key_eq key k) due (due_of dues k))
    → ((d : ℕ) (k : Key) → has_entry new d k ≡ (not (key_eq key k && (is_time d (due_of dues key) && not (is_time d due))) && has_entry timed d k))
    → Ahead new_dues new others
settled_ahead dues new_dues timed new key due others a once set took d k =
    took d k
    ∙ ap (λ b. not (key_eq key k && (is_time d (due_of dues key) && not (is_time d due))) && b) (a d k)
    ∙ by_key (key_eq key k) (λ same. same_key key k same)
    ∙ ap (λ x. is_time d x || sets_time others d k) (sym (set k))
  where
    by_key : (b : Bool) → (b ≡ true → key ≡ k)
        → (not (b && (is_time d (due_of dues key) && not (is_time d due))) && (is_time d (due_of dues k) || ((b && is_time d due) || sets_time others d k))) ≡ (is_time d (cond b due (due_of dues k)) || sets_time others d k)
    by_key false f = refl
    by_key true f =
        let none : sets_time others d k ≡ false = sets_none others k d (subst (λ q. names_key others q ≡ false) (f refl) once) in
        let one : is_time d (due_of dues key) ≡ is_time d (due_of dues k) = ap (λ q. is_time d (due_of dues q)) (f refl) in
        ap (λ x. not (x && not (is_time d due)) && (is_time d (due_of dues k) || (is_time d due || sets_time others d k))) one
        ∙ ap (λ s. not (is_time d (due_of dues k) && not (is_time d due)) && (is_time d (due_of dues k) || (is_time d due || s))) none
        ∙ replaced (is_time d (due_of dues k)) (is_time d due)
        ∙ ap (λ s. is_time d due || s) (sym none)

pub settled_rooms : (dues new_dues : Dues) (key : Key) (due : Due) (others : List (Key × Due)) → HasRoomsBut dues ((key, due) ∷ others) [] → names_key others key ≡ false
    → ((k : Key) → key_eq key k ≡ false → room_of new_dues k ≡ room_of dues k) → HasRoomsBut new_dues others []
settled_rooms dues new_dues key due others r once same d k h =
    ap (λ o. is_some o || false) (same k (is_false (key_eq key k) apart)) ∙ r d k (or_right (key_eq key k && is_time d due) (sets_time others d k) h)
  where
    apart : key_eq key k ≡ true → ⊥
    apart e =
        let none : sets_time others d k ≡ false = sets_none others k d (subst (λ q. names_key others q ≡ false) (same_key key k e) once) in
        cc

pub settled_same : (key : Key) (due old new : Due) (others : List (Key × Due)) (k : Key) → names_key others key ≡ false → new ≡ cond (key_eq key k) due old
    → changed others new k ≡ changed ((key, due) ∷ others) old k
settled_same key due old new others k once set = ap (λ x. changed others x k) set ∙ by_key (key_eq key k) (λ same. same_key key k same)
  where
    by_key : (b : Bool) → (b ≡ true → key ≡ k) → changed others (cond b due old) k ≡ cond b due (changed others old k)
    by_key true f = changes_none others k due (subst (λ q. names_key others q ≡ false) (f refl) once)
    by_key false f = refl

-- ---- a pod is due never from now on

taken_away : (t : Bool) → (not (t && true) && t) ≡ false
taken_away true = refl
taken_away false = refl

pub settled_never : (dues new_dues : Dues) (timed new : Timed) (key : Key) → InStep dues timed → ((k : Key) → due_of new_dues k ≡ cond (key_eq key k) Never (due_of dues k))
    → ((d : ℕ) (k : Key) → has_entry new d k ≡ (not (key_eq key k && (is_time d (due_of dues key) && true)) && has_entry timed d k)) → InStep new_dues new
settled_never dues new_dues timed new key s set took d k =
    took d k
    ∙ ap (λ b. not (key_eq key k && (is_time d (due_of dues key) && true)) && b) (s d k)
    ∙ by_key (key_eq key k) (λ same. same_key key k same)
    ∙ ap (is_time d) (sym (set k))
  where
    by_key : (b : Bool) → (b ≡ true → key ≡ k) → (not (b && (is_time d (due_of dues key) && true)) && is_time d (due_of dues k)) ≡ is_time d (cond b Never (due_of dues k))
    by_key false f = refl
    by_key true f = ap (λ q. not (is_time d (due_of dues q) && true) && is_time d (due_of dues k)) (f refl) ∙ taken_away (is_time d (due_of dues k))
