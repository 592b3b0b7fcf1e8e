-- A term's ticks begin with a sync and a pass.
use Rattle.std.proofs.Common.{◌≡◌, ◌∙◌, ℕ, ◌||◌, not, Bool, true, false, List, [], ◌∷◌, Option, Some, None, refl, sym, ap, subst, arith}
use Rattle.std.specs.Prelude.{if◌then◌else◌}
use Rattle.kube_objects.specs.declared.key.Key.{Key}
use Rattle.kube_objects.specs.declared.pod.Due.TheVariants.{Never}
use Rattle.kube_objects.specs.Document.{Doc}
use Rattle.kube_objects.specs.Entry.{Entry, Identity, Tick, Ticks, Pass, actor_of}
use Rattle.kube_objects.specs.Health.{is_after_pass, is_pass_due, last_pass, pass_period, pass_says}
use Rattle.kube_objects.specs.Identities.{is_by}
use Rattle.kube_objects.specs.Newest.{added, has, when}
use Rattle.kube_objects.specs.Seen.{is_pod, is_synced, seen_pod}
use Rattle.kube_objects.specs.Tick.{add, cleaned, evicted, pass, sync, tainted, tick, whole_pass, phases}
use Rattle.history_laws.proofs.Plainly.{false_is, true_is, upper}
use Rattle.controller_core.proofs.Between.{unsynced_none}
use Rattle.tick_laws.specs.Judged.{due_as, is_dirty, seen_due}
use Rattle.tick_laws.proofs.Foreign.{foreign_change}
use Rattle.tick_laws.proofs.Frames.{same_pod}
use Rattle.tick_laws.proofs.Phases.{foreign_limits, pass_rest}
use Rattle.tick_laws.proofs.Ticked.{cleaned_ticked, evicted_ticked, pass_ticked, tainted_ticked, ticked_keeps, ticked_synced, ticked_then}
use Rattle.tick_laws.proofs.Tried.{same_dirties, same_dues}
use Rattle.watch_cache.specs.Stands.{is_tick_by, ticks}
use Rattle.watch_cache.proofs.Ticks.{same_self}
use Rattle.world_process.specs.OwnTerm.{HasBegun}

-- ---- before the first tick

both : (q : Identity) (h : List Entry) (b : Bool) → added b (ticks q h) ≡ 0 → (b ≡ false) × (ticks q h ≡ 0)
both q h true n = absurd (omega (arith, n))
both q h false n = (refl, n)

pub unsynced : (q : Identity) (h : List Entry) → ticks q h ≡ 0 → is_synced q h ≡ false
unsynced q [] none = refl
unsynced q (e ∷ h) none = let p = both q h (is_tick_by q e.actor e.fact) none in (foreign_change q h e p.0).synced ∙ unsynced q h p.1

pub unticked_clean : (q : Identity) (name : ℕ) (h : List Entry) → ticks q h ≡ 0 → is_dirty q name h ≡ false
unticked_clean q name [] none = refl
unticked_clean q name (e ∷ h) none = let p = both q h (is_tick_by q e.actor e.fact) none in same_dirties q h (e ∷ h) (foreign_change q h e p.0) name ∙ unticked_clean q name h p.1

pub unticked_never : (q : Identity) (key : Key) (h : List Entry) → ticks q h ≡ 0 → seen_due q key h ≡ Never
unticked_never q key [] none = by_kind (is_pod key.kind)
  where
    by_kind : (b : Bool) → due_as q (not b || false) None [] ≡ Never
    by_kind true = refl
    by_kind false = refl
unticked_never q key (e ∷ h) none = let p = both q h (is_tick_by q e.actor e.fact) none in same_dues q h (e ∷ h) (foreign_change q h e p.0) key ∙ unticked_never q key h p.1

pub unticked_unseen : (q : Identity) (key : Key) (h : List Entry) → ticks q h ≡ 0 → seen_pod q key h ≡ None
unticked_unseen q key [] none = refl
unticked_unseen q key (e ∷ h) none = let p = both q h (is_tick_by q e.actor e.fact) none in same_pod q key h (e ∷ h) ((foreign_change q h e p.0).shown key) ∙ unticked_unseen q key h p.1

pub begun_new : (q : Identity) (h : List Entry) → ticks q h ≡ 0 → HasBegun q h
begun_new q h none = record { unsynced = λ is. none; passed = λ is. absurd (false_is (sym (unsynced q h none) ∙ is)) }

-- ---- an entry that is no tick of the term's own

pub begun_beside : (q : Identity) (h : List Entry) (e : Entry) → is_tick_by q e.actor e.fact ≡ false → HasBegun q h → HasBegun q (e ∷ h)
begun_beside q h e other s =
    let same = (foreign_change q h e other).synced in
    record {
      unsynced = λ is. ap (λ b. added b (ticks q h)) other ∙ s.unsynced (sym same ∙ is);
      passed = λ is. ap has (foreign_limits q h e other).passed ∙ s.passed (sym same ∙ is);
    }

-- ---- a tick

has_upper : (x y : Option ℕ) → has y ≡ true → has (upper x y) ≡ true
has_upper None y is = is
has_upper (Some n) y is = refl

-- an entry that says a beat
says_beat : (k : ℕ) (y : Option ℕ) (b : Bool) → b ≡ true → has (upper (when b k) y) ≡ true
says_beat k y true is = refl
says_beat k y false is = absurd (false_is is)

not_after : (doc : Doc) (k period : ℕ) (q : Identity) (o : Option ℕ) → is_after_pass doc k q period o ≡ false → has o ≡ true
not_after doc k period q None is = absurd (true_is is)
not_after doc k period q (Some last) is = refl

module _ (doc : Doc) (k : ℕ) (q : Identity) where
  passed_more : (t : Tick) (g : List Entry) → has (last_pass q g) ≡ true → has (last_pass q (add k q t g)) ≡ true
  passed_more t g is = has_upper (pass_says q k (actor_of q) (Ticks t)) (last_pass q g) is

  pub passed : (g : List Entry) → has (last_pass q (pass doc k q g)) ≡ true
  passed g = by_test (is_pass_due doc k q g) refl
    where
      by_test : (b : Bool) → is_pass_due doc k q g ≡ b → has (last_pass q (if b then whole_pass doc k q g else g)) ≡ true
      by_test false is = not_after doc k (pass_period doc q g) q (last_pass q g) is
      by_test true is = pass_rest doc k q (λ f. has (last_pass q f) ≡ true) (λ t f kind old. passed_more t f old) (add k q Pass g) (says_beat k (last_pass q g) (is_by q (actor_of q)) (same_self q))

  pub begun_tick : (h : List Entry) → HasBegun q h → HasBegun q (tick doc k q h)
  begun_tick h s = by_synced (is_synced q (sync doc k q h)) refl
    where
      by_synced : (b : Bool) → is_synced q (sync doc k q h) ≡ b → HasBegun q (if b then phases doc k q (sync doc k q h) else (sync doc k q h))
      by_synced false is = subst (HasBegun q) (sym (unsynced_none doc k q h is)) s
      by_synced true is =
          let a = sync doc k q h in
          let b = pass doc k q a in
          let c = cleaned doc k q b in
          let d = tainted doc k q c in
          let g = evicted doc k q d in
          let more = ticked_then q k b c g (cleaned_ticked doc k q b) (ticked_then q k c d g (tainted_ticked doc k q c) (evicted_ticked doc k q d)) in
          let synced = ticked_synced q k a g (ticked_then q k a b g (pass_ticked doc k q a) more) is in
          record {
            unsynced = λ none. absurd (true_is (sym synced ∙ none));
            passed = λ _. ticked_keeps q k (λ f. has (last_pass q f) ≡ true) (λ t f old. passed_more t f old) b g more (passed a);
          }
