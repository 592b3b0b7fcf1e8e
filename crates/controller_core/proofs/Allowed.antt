-- What a term may still delete, over entries that follow.
use Rattle.std.proofs.Common.{◌≡◌, ◌∙◌, ℕ, ◌+◌, ◌-◌, ◌*◌, ◌==◌, ◌≤◌, ◌&&◌, ◌||◌, nat_le, nat_lt, not, Bool, true, false, List, ◌∷◌, Option, Some, None, IfSome, IfNone, refl, sym, ap, subst, arith}
use Rattle.std.specs.Prelude.{if◌then◌else◌}
use Rattle.std.proofs.lemmas.Bool.{leb-true}
use Rattle.std.proofs.lemmas.Bool.Decides.{nat_tests}
use Rattle.kube_base.specs.declared.numbers.Version.{Version}
use Rattle.kube_objects.specs.declared.call.Answer.{Answer}
use Rattle.kube_objects.specs.declared.deed.Actor.{Actor}
use Rattle.kube_objects.specs.declared.key.Key.{Key}
use Rattle.kube_objects.specs.Clocks.{local}
use Rattle.kube_objects.specs.Document.{Doc}
use Rattle.kube_objects.specs.Entry.{Delete, Entry, Fact, Identity, Sync, Tick, Ticks, actor_of}
use Rattle.kube_objects.specs.Identities.{is_by}
use Rattle.kube_objects.specs.Newest.{has}
use Rattle.kube_objects.specs.Tick as model
use Rattle.kube_objects.specs.Tick.{add, cleaned, pass, spends, sync, tainted}
use Rattle.kube_objects.specs.Tokens.{token_size}
use Rattle.history_laws.proofs.Plainly.{false_is, same_self, true_is}
use Rattle.history_laws.proofs.Ticks.{is_cleaning, is_deleting, is_heading, kept_sync}
use Rattle.rate_bucket.specs.Allowing.{Allowed, has_room, owed_at, taken}
use Rattle.tick_laws.specs.Room.{AreInBeats, AreUpTo, owed}
use Rattle.tick_laws.proofs.Phases.{cleaned_keeps, is_passing, pass_keeps, tainted_keeps}
use Rattle.tick_laws.proofs.Room.{beats_more, room_is_owed}
use Rattle.watch_cache.specs.Stands.{is_tick_by}
use Rattle.controller_core.specs.Allowing.{AllowanceStands}
use Rattle.controller_core.specs.Wakes.{is_before}

-- ---- entries that spend nothing

owed_same : (doc : Doc) (q : Identity) (e : Entry) (h : List Entry) (now : ℕ) → spends q e.actor e.fact ≡ false → owed doc q now (e ∷ h) ≡ owed doc q now h
owed_same doc q e h now is =
    ap (λ b. elim b [ true ↦ owed doc q (local doc q.process e.beat) h + token_size - (now - local doc q.process e.beat) * doc.settings.rules.evict_rate | false ↦ owed doc q now h ]) is

allowance_beside : (doc : Doc) (q : Identity) (e : Entry) (h : List Entry) (a : Allowed) → spends q e.actor e.fact ≡ false → AllowanceStands doc q h a → AllowanceStands doc q (e ∷ h) a
allowance_beside doc q e h a is s = record { burst = s.burst; rate = s.rate; owed = λ some now. s.owed some now ∙ sym (owed_same doc q e h now is) }

foreign_unspent : (q : Identity) (who : Actor) (d : Fact) → is_tick_by q who d ≡ false → spends q who d ≡ false
foreign_unspent q who (Ticks (Delete pod given node_given at a)) is = ap (λ b. b && has a) is
foreign_unspent q who d is = refl

pub allowance_foreign : (doc : Doc) (q : Identity) (h : List Entry) (e : Entry) (a : Allowed) → is_tick_by q e.actor e.fact ≡ false → AllowanceStands doc q h a → AllowanceStands doc q (e ∷ h) a
allowance_foreign doc q h e a other s = allowance_beside doc q e h a (foreign_unspent q e.actor e.fact other) s

pub owed_foreign : (doc : Doc) (q : Identity) (now : ℕ) (h : List Entry) (e : Entry) → is_tick_by q e.actor e.fact ≡ false → owed doc q now (e ∷ h) ≡ owed doc q now h
owed_foreign doc q now h e other = owed_same doc q e h now (foreign_unspent q e.actor e.fact other)

own_unspent : (q : Identity) (t : Tick) → is_deleting t ≡ false → spends q (actor_of q) (Ticks t) ≡ false
own_unspent q (Delete pod given node_given at a) other = absurd (true_is other)
own_unspent q t other = refl

pub allowance_more : (doc : Doc) (k : ℕ) (q : Identity) (t : Tick) (h : List Entry) (a : Allowed) → is_deleting t ≡ false → AllowanceStands doc q h a → AllowanceStands doc q (add k q t h) a
allowance_more doc k q t h a other s = allowance_beside doc q _ h a (own_unspent q t other) s

-- a delete that is lost
pub allowance_lost : (doc : Doc) (k : ℕ) (q : Identity) (pod : Key) (given node_given : Version) (at : ℕ) (h : List Entry) (a : Allowed) → AllowanceStands doc q h a
    → AllowanceStands doc q (add k q (Delete pod given node_given at None) h) a
allowance_lost doc k q pod given node_given at h a s = allowance_beside doc q _ h a (none (is_by q (actor_of q))) s
  where
    none : (b : Bool) → (b && false) ≡ false
    none true = refl
    none false = refl

-- ---- the phases before the deletes

passing_alone : (t : Tick) → is_passing t ≡ true → is_deleting t ≡ false
passing_alone (Delete pod given node_given at a) is = absurd (false_is is)
passing_alone t is = refl

cleaning_alone : (t : Tick) → is_cleaning t ≡ true → is_deleting t ≡ false
cleaning_alone (Delete pod given node_given at a) is = absurd (false_is is)
cleaning_alone t is = refl

heading_alone : (t : Tick) → is_heading t ≡ true → is_deleting t ≡ false
heading_alone (Delete pod given node_given at a) is = absurd (false_is is)
heading_alone t is = refl

module _ (doc : Doc) (k : ℕ) (q : Identity) (a : Allowed) (h : List Entry) where
  abbrev Stands : List Entry → Type 0
  Stands g = AllowanceStands doc q g a

  pub allowance_synced : Stands h → Stands (sync doc k q h)
  allowance_synced s = kept_sync doc k q Stands (λ g s. allowance_more doc k q _ g a refl s) h s

  pub allowance_passed : Stands h → Stands (pass doc k q h)
  allowance_passed s = pass_keeps doc k q Stands (λ t g is s. allowance_more doc k q t g a (passing_alone t is) s) h s

  pub allowance_cleaned : Stands h → Stands (cleaned doc k q h)
  allowance_cleaned s = cleaned_keeps doc k q Stands (λ t g is made s. allowance_more doc k q t g a (cleaning_alone t is) s) h s

  pub allowance_tainted : Stands h → Stands (tainted doc k q h)
  allowance_tainted s = tainted_keeps doc k q Stands (λ t g is made s. allowance_more doc k q t g a (heading_alone t is) s) h s

-- ---- the order by beats

module _ (doc : Doc) (k : ℕ) (q : Identity) where
  abbrev InOrder : List Entry → Type 0
  InOrder g = AreInBeats g × AreUpTo k g

  more_in_order : (t : Tick) (g : List Entry) → InOrder g → InOrder (add k q t g)
  more_in_order t g s = beats_more k q t g s.1 s.0

  pub synced_beats : (h : List Entry) → InOrder h → InOrder (sync doc k q h)
  synced_beats h s = kept_sync doc k q InOrder (λ g s. more_in_order Sync g s) h s

  pub acting_beats : (h : List Entry) → InOrder h → InOrder (tainted doc k q (cleaned doc k q (pass doc k q h)))
  acting_beats h s =
      tainted_keeps doc k q InOrder (λ t g is made s. more_in_order t g s) (cleaned doc k q (pass doc k q h))
      (cleaned_keeps doc k q InOrder (λ t g is made s. more_in_order t g s) (pass doc k q h) (pass_keeps doc k q InOrder (λ t g is s. more_in_order t g s) h s))

-- without a limit it stands for every history
pub allowance_free : (doc : Doc) (q : Identity) (h g : List Entry) (a : Allowed) → doc.settings.rules.evict_burst ≡ 0 → AllowanceStands doc q h a → AllowanceStands doc q g a
allowance_free doc q h g a free s = record { burst = s.burst; rate = s.rate; owed = λ some. absurd (none some) }
  where
    none : 1 ≤ doc.settings.rules.evict_burst → ⊥
    none some = omega (arith, some, free)

-- ---- a delete that counts

module _ (doc : Doc) (k : ℕ) (q : Identity) (h : List Entry) (a : Allowed) (now : ℕ) (reading : now ≡ local doc q.process k) (some : 1 ≤ doc.settings.rules.evict_burst) (s : AllowanceStands doc q h a) where
  limited : (a.burst == 0) ≡ false
  limited = let more = s.burst in grind (arith, nat_tests)

  pub allowance_taken : (pod : Key) (given node_given : Version) (at : ℕ) (tried : Answer) → AllowanceStands doc q (add k q (Delete pod given node_given at (Some tried)) h) (taken a now)
  unfolding token_size
  allowance_taken pod given node_given at tried =
      subst (AllowanceStands doc q (add k q (Delete pod given node_given at (Some tried)) h)) (sym (ap (λ b. (if b then a else record { burst = a.burst; rate = a.rate; owed = owed_at a now + 1000000000000000; at = now })) limited))
      (record { burst = s.burst; rate = s.rate; owed = λ more later. is later })
    where
      spent : (spends q (actor_of q) (Ticks (Delete pod given node_given at (Some tried)))) ≡ true
      spent = ap (λ b. b && true) (same_self q)

      is : (later : ℕ) → owed_at a now + 1000000000000000 - (later - now) * a.rate ≡ owed doc q later (add k q (Delete pod given node_given at (Some tried)) h)
      is later =
          ap (λ n. n + 1000000000000000 - (later - now) * a.rate) (s.owed some now)
          ∙ ap (λ n. owed doc q n h + 1000000000000000 - (later - n) * a.rate) reading
          ∙ ap (λ n. owed doc q (local doc q.process k) h + 1000000000000000 - (later - local doc q.process k) * n) s.rate
          ∙ sym (ap (λ b. elim b [ true ↦ owed doc q (local doc q.process k) h + token_size - (later - local doc q.process k) * doc.settings.rules.evict_rate | false ↦ owed doc q later h ]) spent)

  -- a token is there where a further delete is within the limit
  pub room_there : AreInBeats h → AreUpTo k h → has_room a now ≡ model.has_room doc q k 0 h
  unfolding token_size
  room_there beats upto =
      ap (λ b. b || nat_le (owed_at a now + 1000000000000000) (a.burst * 1000000000000000)) limited
      ∙ ap (λ n. nat_le (n + 1000000000000000) (a.burst * 1000000000000000)) (s.owed some now)
      ∙ ap (λ n. nat_le (owed doc q n h + 1000000000000000) (a.burst * 1000000000000000)) reading
      ∙ ap (λ n. nat_le (owed doc q (local doc q.process k) h + 1000000000000000) (n * 1000000000000000)) s.burst
      ∙ sym (room_is_owed doc k q h some beats upto)

-- with or without a limit
pub room_or_free : (doc : Doc) (k : ℕ) (q : Identity) (h : List Entry) (a : Allowed) → AllowanceStands doc q h a → AreInBeats h → AreUpTo k h
    → has_room a (local doc q.process k) ≡ ((doc.settings.rules.evict_burst == 0) || model.has_room doc q k 0 h)
room_or_free doc k q h a s beats upto = by_test (doc.settings.rules.evict_burst == 0) refl
  where
    by_test : (b : Bool) → (doc.settings.rules.evict_burst == 0) ≡ b → has_room a (local doc q.process k) ≡ (b || model.has_room doc q k 0 h)
    by_test true free = ap (λ b. b || nat_le (owed_at a (local doc q.process k) + 1000000000000000) (a.burst * 1000000000000000)) (ap (λ n. n == 0) s.burst ∙ free)
    by_test false limited = room_there doc k q h a (local doc q.process k) refl (some limited) s beats upto
      where
        some : (doc.settings.rules.evict_burst == 0) ≡ false → 1 ≤ doc.settings.rules.evict_burst
        some is = grind (arith, nat_tests)

-- the least reading from which on there is room
pub wakes_by : (a : Allowed) (at : Option ℕ) → IfSome at (λ x. (now : ℕ) → x ≤ now → has_room a now ≡ true) → IfSome at (λ x. (now : ℕ) → has_room a now ≡ true → x ≤ now) → IfNone at ((now : ℕ) → has_room a now ≡ false)
    → (now : ℕ) → is_before now at ≡ not (has_room a now)
wakes_by a None there least none now = sym (ap not (none now))
wakes_by a (Some x) there least none now = by_room (has_room a now) refl
  where
    by_room : (b : Bool) → has_room a now ≡ b → nat_lt now x ≡ not b
    by_room true room = let le = least now room in grind (arith, nat_tests)
    by_room false out = by_test (nat_le x now) refl
      where
        by_test : (b : Bool) → nat_le x now ≡ b → nat_lt now x ≡ true
        by_test true le = absurd (false_is (sym out ∙ there now (leb-true x now le)))
        by_test false more = grind (arith, nat_tests)
