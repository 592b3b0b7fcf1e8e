-- When the head of a zone's queue has its turn.
use Rattle.std.proofs.Common.{◌≡◌, ◌∙◌, ℕ, ◌*◌, ◌-◌, ◌==◌, ◌&&◌, ◌||◌, not, ◌≤◌, nat_le, Bool, true, false, List, [], ◌∷◌, Option, Some, None, IfSome, IfNone, IsNone, MatchOption, ◌↔◌, ◌⊎◌, inl, inr, zero, suc, refl, sym, ap, subst, arith, Less, Equal, Greater}
use Rattle.std.proofs.lemmas.Bool.Decides.{nat_tests}
use Rattle.std.specs.Ordering.{is_lt, ordering_reverse}
use Rattle.std.specs.declared.cmp.Ordering.{Ordering}
use Rattle.kube_base.specs.declared.numbers.Local.{Local}
use Rattle.kube_objects.specs.declared.rules.JudgeRule.TheVariants as judges
use Rattle.kube_objects.specs.Clocks.{local}
use Rattle.kube_objects.specs.Document.{Doc}
use Rattle.kube_objects.specs.Entry as entry
use Rattle.kube_objects.specs.Entry.{Entry, Identity}
use Rattle.kube_objects.specs.Judgement.{taken}
use Rattle.kube_objects.specs.Modes.{place_cmp}
use Rattle.kube_objects.specs.Newest.{has}
use Rattle.kube_objects.specs.Tainting.{queued, waits}
use Rattle.kube_objects.specs.Tokens.{Rated, base, is_full_by, is_there, rated, token_size}
use Rattle.kube_objects.proofs.Tokens.{token_is_there}
use Rattle.history_laws.proofs.Plainly.{false_is}
use Rattle.rate_bucket.specs.Filling.{has_token, is_made_up}
use Rattle.taint_queue.specs.Order.{precedes}
use Rattle.taint_zones.specs.declared.limit.Limit.{Limit}
use Rattle.taint_zones.specs.declared.place.Place.{Place}
use Rattle.taint_zones.specs.declared.pushes.ZonePushes.{ZonePushes}
use Rattle.taint_zones.specs.declared.queues.Queues.{Queues}
use Rattle.taint_zones.specs.declared.zones.Zones.{Zones}
use Rattle.taint_zones.specs.Limits.{LimitStands}
use Rattle.taint_zones.specs.Places.{entry_place, of_place, zone_cmp}
use Rattle.taint_zones.proofs.Tokening.{token_at}
use Rattle.taint_zones.specs.Waiting.{IsAfter, IsEmpty, IsNextZone, since}
use Rattle.taint_zones.specs.Pushing.{IsNextPushed, pushed_at}
use Rattle.controller_core.specs.HeadsStand.{HasHead, HasHeadBy, HeadsStand, HeadsStandBy, IsNextHead}
use Rattle.controller_core.specs.QueuesStand.{QueuesStand}
use Rattle.tick_laws.specs.Judged.{key_if}
use Rattle.tick_laws.proofs.Orders.{places_strict}
use Rattle.controller_core.specs.Wakes.{IsHeadDue, IsTokenReading, is_token_at}

pub either : {A B C : Type 0} → A ⊎ B → (A → C) → (B → C) → C
either (inl a) f g = f a
either (inr b) f g = g b

pub le_true : (a b : ℕ) → a ≤ b → nat_le a b ≡ true
le_true a b le = grind (arith, nat_tests)

true_le : (a b : ℕ) → nat_le a b ≡ true → a ≤ b
true_le a b is = grind (arith, nat_tests)

-- ---- tokens

pub token_there : (doc : Doc) (q : Identity) (h : List Entry) (place : entry.Place) (limit : Limit) (at : ℕ) → LimitStands doc q h place (Some limit)
    → has_token limit.bucket at ≡ true → is_token_at doc q place h at ≡ true
token_there doc q h place limit at s there = sym (token_at doc q h place limit at s) ∙ there

pub there_token : (doc : Doc) (q : Identity) (h : List Entry) (place : entry.Place) (limit : Limit) (at : ℕ) → LimitStands doc q h place (Some limit)
    → is_token_at doc q place h at ≡ true → has_token limit.bucket at ≡ true
there_token doc q h place limit at s is = token_at doc q h place limit at s ∙ is

pub no_rate_none : (doc : Doc) (q : Identity) (h : List Entry) (place : entry.Place) (limit : Limit) (at : ℕ) → LimitStands doc q h place (Some limit) → limit.bucket.rate ≡ 0
    → is_token_at doc q place h at ≡ true → ⊥
no_rate_none doc q h place limit at s none is =
    false_is (sym (ap (λ r. not (r == 0) && (limit.bucket.full || is_made_up limit.bucket at)) none) ∙ there_token doc q h place limit at s is)

pub no_limit_none : (doc : Doc) (q : Identity) (h : List Entry) (place : entry.Place) (at : ℕ) → LimitStands doc q h place None → is_token_at doc q place h at ≡ true → ⊥
no_limit_none doc q h place at s is = false_is (ap (is_there (is_full_by doc.settings.rules.bucket doc q place h) (at - local doc q.process (base q place h))) s.rated ∙ is)

-- a token that is there at a reading is there later
grown_later : (full : Bool) (o : Option Rated) (start at now : ℕ) → at ≤ now → is_there full (at - start) o ≡ true → is_there full (now - start) o ≡ true
grown_later full None start at now le is = absurd (false_is is)
grown_later full (Some x) start at now le is = by_rate (x.1 == 0) full is
  where
    more : nat_le token_size ((at - start) * x.1) ≡ true → nat_le token_size ((now - start) * x.1) ≡ true
    more there = le_true token_size ((now - start) * x.1) (further (true_le token_size ((at - start) * x.1) there))
      where
        further : token_size ≤ (at - start) * x.1 → token_size ≤ (now - start) * x.1
        further there = grind (arith, nat_tests)

    by_rate : (none full : Bool) → (not none && (full || nat_le token_size ((at - start) * x.1))) ≡ true → (not none && (full || nat_le token_size ((now - start) * x.1))) ≡ true
    by_rate true full is = absurd (false_is is)
    by_rate false true is = refl
    by_rate false false is = more is

pub token_later : (doc : Doc) (q : Identity) (h : List Entry) (place : entry.Place) (at now : ℕ) → at ≤ now → is_token_at doc q place h at ≡ true → is_token_at doc q place h now ≡ true
token_later doc q h place at now = grown_later (is_full_by doc.settings.rules.bucket doc q place h) (rated q place h) (local doc q.process (base q place h)) at now

-- ---- the least number that passes a test

abbrev IsFirst : (ℕ → Bool) → ℕ → Type 0
IsFirst test n = (test n ≡ true) × ((m : ℕ) → test m ≡ true → n ≤ m)

first_within : (test : ℕ → Bool) (n : ℕ) → ((m : ℕ) × (m ≤ n) × IsFirst test m) ⊎ ((m : ℕ) → m ≤ n → test m ≡ false)
first_within test zero = by_test (test 0) refl
  where
    by_test : (b : Bool) → test 0 ≡ b → ((m : ℕ) × (m ≤ 0) × IsFirst test m) ⊎ ((m : ℕ) → m ≤ 0 → test m ≡ false)
    by_test true is = inl (0, omega arith, (is, λ m there. omega arith))
    by_test false is = inr (λ m le. ap test (let zero : m ≡ 0 = omega (arith, le) in zero) ∙ is)
first_within test (suc n) = by_rest (first_within test n)
  where
    by_rest : ((m : ℕ) × (m ≤ n) × IsFirst test m) ⊎ ((m : ℕ) → m ≤ n → test m ≡ false) → ((m : ℕ) × (m ≤ suc n) × IsFirst test m) ⊎ ((m : ℕ) → m ≤ suc n → test m ≡ false)
    by_rest (inl found) = inl (found.0, omega (arith, found.1), found.2)
    by_rest (inr none) = by_test (test (suc n)) refl
      where
        above : (m : ℕ) → test m ≡ true → suc n ≤ m
        above m there = by_place (nat_le m n) refl
          where
            by_place : (b : Bool) → nat_le m n ≡ b → suc n ≤ m
            by_place true le = absurd (false_is (sym (none m (true_le m n le)) ∙ there))
            by_place false more = grind (arith, nat_tests)

        at_or_below : (m : ℕ) → m ≤ suc n → test (suc n) ≡ false → test m ≡ false
        at_or_below m le is = by_place (nat_le m n) refl
          where
            by_place : (b : Bool) → nat_le m n ≡ b → test m ≡ false
            by_place true within = none m (true_le m n within)
            by_place false more = ap test (let same : m ≡ suc n = grind (arith, nat_tests) in same) ∙ is

        by_test : (b : Bool) → test (suc n) ≡ b → ((m : ℕ) × (m ≤ suc n) × IsFirst test m) ⊎ ((m : ℕ) → m ≤ suc n → test m ≡ false)
        by_test true is = inl (suc n, omega arith, (is, above))
        by_test false is = inr (λ m le. at_or_below m le is)

-- where a queued taint is due, its reading has come
pub head_reading : (doc : Doc) (k : ℕ) (q : Identity) (h : List Entry) (place : entry.Place) → IsHeadDue doc k q h place → (at : ℕ) × (at ≤ local doc q.process k) × IsTokenReading doc q h place at
head_reading doc k q h place due = by_first (first_within (is_token_at doc q place h) (local doc q.process k))
  where
    by_first : ((m : ℕ) × (m ≤ local doc q.process k) × IsFirst (is_token_at doc q place h) m) ⊎ ((m : ℕ) → m ≤ local doc q.process k → is_token_at doc q place h m ≡ false)
        → (at : ℕ) × (at ≤ local doc q.process k) × IsTokenReading doc q h place at
    by_first (inl found) = (found.0, found.1, record { there = found.2.0; least = found.2.1; head = due.head })
    by_first (inr none) = absurd (false_is (sym (none (local doc q.process k) (omega arith)) ∙ sym (token_is_there doc q k place h) ∙ due.token))

-- and where its reading has come, it is due
pub reading_head : (doc : Doc) (k : ℕ) (q : Identity) (h : List Entry) (place : entry.Place) (at : ℕ) → IsTokenReading doc q h place at → at ≤ local doc q.process k → IsHeadDue doc k q h place
reading_head doc k q h place at r le = record { token = token_is_there doc q k place h ∙ token_later doc q h place at (local doc q.process k) le r.there; head = r.head }

-- ---- who waits

some_none : (n : ℕ) → ◌≡◌ {A = Option ℕ} (Some n) None → ⊥
some_none n is = cc

pub nobody : (q : Identity) (h : List Entry) (queues : Queues) (place : entry.Place) (name : ℕ) → QueuesStand q h queues → IsEmpty queues (of_place place) → has (waits q place name h) ≡ true → ⊥
nobody q h queues place name s empty there = by_waits (waits q place name h) (sym (s place name) ∙ empty name) there
  where
    by_waits : (o : Option ℕ) → key_if o (queued q place name h) ≡ None → has o ≡ true → ⊥
    by_waits None is there = false_is there
    by_waits (Some wanted) is there = some_none (queued q place name h) is

pub somebody : (q : Identity) (h : List Entry) (queues : Queues) (place : entry.Place) (name at : ℕ) (o : Option ℕ) → o ≡ key_if (waits q place name h) (queued q place name h) → o ≡ Some at → has (waits q place name h) ≡ true
somebody q h queues place name at o stands is = by_waits (waits q place name h) (sym stands ∙ is)
  where
    by_waits : (o : Option ℕ) → key_if o (queued q place name h) ≡ Some at → has o ≡ true
    by_waits None is = absurd (some_none at (sym is))
    by_waits (Some wanted) is = refl

-- ---- who comes first, by when nodes are judged

no_name : (n : ℕ) (names : List ℕ) → ◌≡◌ {A = List ℕ} [] (n ∷ names) → ⊥
no_name n names is = cc

module _ (doc : Doc) (q : Identity) (h : List Entry) (zones : Zones) where
  pub waiting_head : (place : entry.Place) (name at : ℕ) → judges.Tick ≡ doc.settings.rules.judge → HeadsStand doc q h zones → since zones.queues (of_place place) name ≡ Some at → HasHead doc q h place
  waiting_head place name at is s there = subst (λ rule. HeadsStandBy rule doc q h zones → HasHeadBy rule doc q h place) is (λ s. (name, somebody q h zones.queues place name at _ (s place name) there)) s

  pub no_waiting_head : (place : entry.Place) → judges.Tick ≡ doc.settings.rules.judge → HeadsStand doc q h zones → IsEmpty zones.queues (of_place place) → ¬ HasHead doc q h place
  no_waiting_head place is s empty = subst (λ rule. HeadsStandBy rule doc q h zones → ¬ HasHeadBy rule doc q h place) is (λ s head. nobody q h zones.queues place head.0 s empty head.1) s

  pub pushed_head : (place : entry.Place) (name : ℕ) (rest : List ℕ) → judges.Pass ≡ doc.settings.rules.judge → HeadsStand doc q h zones → pushed_at zones.pushes (of_place place) ≡ name ∷ rest → HasHead doc q h place
  pushed_head place name rest is s there = subst (λ rule. HeadsStandBy rule doc q h zones → HasHeadBy rule doc q h place) is (λ s. (name, rest, sym (s.names place) ∙ there)) s

  pub no_pushed_head : (place : entry.Place) → judges.Pass ≡ doc.settings.rules.judge → HeadsStand doc q h zones → pushed_at zones.pushes (of_place place) ≡ [] → ¬ HasHead doc q h place
  no_pushed_head place is s empty =
      subst (λ rule. HeadsStandBy rule doc q h zones → ¬ HasHeadBy rule doc q h place) is (λ s head. no_name head.0 head.1 (sym empty ∙ s.names place ∙ head.2)) s

  pub waiting_heads : (place : entry.Place) (o : Option ℕ) → judges.Tick ≡ doc.settings.rules.judge → HeadsStand doc q h zones
      → IfSome o (λ node. (at : ℕ) × (since zones.queues (of_place place) node ≡ Some at) × ((other beat : ℕ) → since zones.queues (of_place place) other ≡ Some beat → precedes at node beat other ≡ true))
      → IfSome o (λ name. HasHead doc q h place)
  waiting_heads place None is s first = tt
  waiting_heads place (Some name) is s (at, there, least) = waiting_head place name at is s there

  pub no_waiting_heads : (place : entry.Place) (o : Option ℕ) → judges.Tick ≡ doc.settings.rules.judge → HeadsStand doc q h zones → IfNone o (IsEmpty zones.queues (of_place place)) → IfNone o (¬ HasHead doc q h place)
  no_waiting_heads place None is s none = no_waiting_head place is s none
  no_waiting_heads place (Some name) is s none = tt

  pub pushed_heads : (place : entry.Place) (o : Option ℕ) → judges.Pass ≡ doc.settings.rules.judge → HeadsStand doc q h zones
      → MatchOption o (pushed_at zones.pushes (of_place place) ≡ []) (λ node. pushed_at zones.pushes (of_place place) ≡ node ∷ taken true (pushed_at zones.pushes (of_place place)))
      → IfSome o (λ name. HasHead doc q h place)
  pushed_heads place None is s first = tt
  pushed_heads place (Some name) is s first = pushed_head place name (taken true (pushed_at zones.pushes (of_place place))) is s first

  pub no_pushed_heads : (place : entry.Place) (o : Option ℕ) → judges.Pass ≡ doc.settings.rules.judge → HeadsStand doc q h zones
      → MatchOption o (pushed_at zones.pushes (of_place place) ≡ []) (λ node. pushed_at zones.pushes (of_place place) ≡ node ∷ taken true (pushed_at zones.pushes (of_place place)))
      → IfNone o (¬ HasHead doc q h place)
  no_pushed_heads place None is s none = no_pushed_head place is s none
  no_pushed_heads place (Some name) is s none = tt

  pub next_waiting : (after next : Option Place) → judges.Tick ≡ doc.settings.rules.judge → HeadsStand doc q h zones → IsNextZone zones.queues after next → IsNextHead doc q h after next
  next_waiting after None is s none = λ zone later. no_waiting_head (entry_place zone) is s (none zone later)
  next_waiting after (Some next) is s found = (found.0, λ zone later less. no_waiting_head (entry_place zone) is s (found.1 zone later less))

  pub next_pushed : (after next : Option Place) → judges.Pass ≡ doc.settings.rules.judge → HeadsStand doc q h zones → IsNextPushed zones.pushes after next → IsNextHead doc q h after next
  next_pushed after None is s none = λ zone later. no_pushed_head (entry_place zone) is s (none zone later)
  next_pushed after (Some next) is s found = (found.0, λ zone later less. no_pushed_head (entry_place zone) is s (found.1 zone later less))

pub waiting_later : (queues : Queues) (after next : Option Place) → IsNextZone queues after next → IfSome next (λ next. IsAfter after next)
waiting_later queues after None none = tt
waiting_later queues after (Some next) found = found.0

pub pushed_later : (pushes : ZonePushes) (after next : Option Place) → IsNextPushed pushes after next → IfSome next (λ next. IsAfter after next)
pushed_later pushes after None none = tt
pushed_later pushes after (Some next) found = found.0

-- ---- the walk over zones that have a head; c is the one that was looked at last

abbrev pub is_past : Option Place → Place → Bool
is_past None zone = true
is_past (Some place) zone = is_lt (zone_cmp place zone)

past_is : (c : Option Place) (zone : Place) → is_past c zone ≡ true → IsAfter c zone
past_is None zone is = tt
past_is (Some place) zone is = is

-- of the zones up to this one none has a turn of its head before the least reading
abbrev pub AreCovered : Doc → Identity → List Entry → Option Place → ℕ → Type 0
AreCovered doc q h c least = (place : entry.Place) (at : ℕ) → is_past c (of_place place) ≡ false → IsTokenReading doc q h place at → least ≤ at

module _ (doc : Doc) (q : Identity) (h : List Entry) where
  pub next_covered : (c : Option Place) (p : Place) (old new : ℕ) → IsNextHead doc q h c (Some p) → new ≤ old → AreCovered doc q h c old
      → ((at : ℕ) → IsTokenReading doc q h (entry_place p) at → new ≤ at) → AreCovered doc q h (Some p) new
  next_covered c p old new next le covered here place at out r = by_order (place_cmp (entry_place p) place) refl out
    where
      below : place_cmp (entry_place p) place ≡ Greater → place_cmp place (entry_place p) ≡ Less
      below greater = places_strict.total.antisymm place (entry_place p) ∙ ap ordering_reverse greater

      by_past : (b : Bool) → is_past c (of_place place) ≡ b → place_cmp (entry_place p) place ≡ Greater → new ≤ at
      by_past true past greater =
          absurd (next.1 (of_place place) (past_is c (of_place place) past) (ap is_lt (below greater)) r.head)
      by_past false past greater = let earlier = covered place at past r in omega (arith, earlier, le)

      by_order : (o : Ordering) → place_cmp (entry_place p) place ≡ o → is_lt o ≡ false → new ≤ at
      by_order Less is no_less = absurd (false_is (sym no_less))
      by_order Equal is no_less = here at (subst (λ place. IsTokenReading doc q h place at) (sym (places_strict.same (entry_place p) place is)) r)
      by_order Greater is no_less = by_past (is_past c (of_place place)) refl is

  pub end_covered : (c : Option Place) (least : ℕ) → IsNextHead doc q h c None → AreCovered doc q h c least → (place : entry.Place) (at : ℕ) → IsTokenReading doc q h place at → least ≤ at
  end_covered c least none covered place at r = by_past (is_past c (of_place place)) refl
    where
      by_past : (b : Bool) → is_past c (of_place place) ≡ b → least ≤ at
      by_past true past = absurd (none (of_place place) (past_is c (of_place place) past) r.head)
      by_past false past = covered place at past r

-- ---- the reading of a zone

-- a reading that is answered is at most the zone's, and where none is answered the zone has none
pub answered_all : (doc : Doc) (q : Identity) (h : List Entry) (place : entry.Place) (o : Option Local) (new : ℕ) → IfSome o (λ at. IsTokenReading doc q h place at.0)
    → IfNone o ((at : ℕ) → IsTokenReading doc q h place at → ⊥) → IfSome o (λ at. new ≤ at.0) → (at : ℕ) → IsTokenReading doc q h place at → new ≤ at
answered_all doc q h place None new there none le at r = absurd (none at r)
answered_all doc q h place (Some x) new there none le at r = omega (arith, le, there.least at r.there)

-- what a bucket answers is the reading of its zone
pub bucket_reading : (doc : Doc) (q : Identity) (h : List Entry) (place : entry.Place) (limit : Limit) (o : Option Local) → LimitStands doc q h place (Some limit)
    → HasHead doc q h place → IfSome o (λ at. has_token limit.bucket at.0 ≡ true) → IfSome o (λ at. (earlier : ℕ) → has_token limit.bucket earlier ≡ true → at.0 ≤ earlier)
    → IfSome o (λ at. IsTokenReading doc q h place at.0)
bucket_reading doc q h place limit None s head there least = tt
bucket_reading doc q h place limit (Some at) s head there least = record {
  there = token_there doc q h place limit at.0 s there;
  least = λ earlier is. least earlier (there_token doc q h place limit earlier s is);
  head = head;
}

pub bucket_none : (doc : Doc) (q : Identity) (h : List Entry) (place : entry.Place) (limit : Limit) (o : Option Local) → LimitStands doc q h place (Some limit) → IsNone o ↔ (limit.bucket.rate ≡ 0)
    → IfNone o ((at : ℕ) → IsTokenReading doc q h place at → ⊥)
bucket_none doc q h place limit None s never = λ at r. no_rate_none doc q h place limit at s (never.0 refl) r.there
bucket_none doc q h place limit (Some x) s never = tt
