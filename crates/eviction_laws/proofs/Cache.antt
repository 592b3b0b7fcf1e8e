-- What a term's cache has was stored, and a cache that is up to date has what is stored.
use Rattle.std.proofs.Common.{◌≡◌, ℕ, Bool, true, false, List, [], ◌∷◌, Option, Some, None, refl, sym, subst, inl, inr}
use Rattle.kube_base.specs.declared.numbers.Version.{Version}
use Rattle.kube_objects.specs.declared.deed.Actor.{Actor}
use Rattle.kube_objects.specs.declared.key.Key.{Key}
use Rattle.kube_objects.specs.declared.object.Object.{Object}
use Rattle.kube_objects.specs.Entry.{Entry, Identity, Fact, Ticks, Tick, Sync, actor_of}
use Rattle.kube_objects.specs.Identities.{is_by}
use Rattle.kube_objects.specs.Keys.{key_eq}
use Rattle.kube_objects.specs.Newest.{newest, when, only_if, join, has, or_else}
use Rattle.kube_objects.specs.Seen.{tick_shows, seen_says, seen, fresh_says, is_fresh, synced_says, is_synced}
use Rattle.kube_objects.specs.Stored.{Held, Write, holds, at_key, tick_write, write_of, last_write, stored}
use Rattle.kube_objects.specs.Tick.{add}
use Rattle.history_laws.specs.Tails.{IsTail}
use Rattle.history_laws.proofs.Plainly.{upper, none_is, false_is, same_self}
use Rattle.history_laws.proofs.Tailed.{tail_all}
use Rattle.history_laws.proofs.Versions.{versions_are_contents}

abbrev pub last_seen : Identity → Key → List Entry → Option (Option Held)
last_seen q key = newest (λ e T. seen_says q key e.beat e.actor e.fact T)

abbrev last_fresh : Identity → List Entry → Option Bool
last_fresh q = newest (λ e T. fresh_says q e.actor e.fact)

abbrev last_synced : Identity → List Entry → Option Bool
last_synced q = newest (λ e T. synced_says q e.actor e.fact)

-- ---- what is seen was stored at an earlier position

record Stood (key : Key) (h : List Entry) (x : Held) : Type 0 where
  position : List Entry
  at : IsTail position h
  is : stored key position ≡ Some x

stood : (q : Identity) (key : Key) (h : List Entry) (x : Held) → seen q key h ≡ Some x → Stood key h x
stood q key [] x is = absurd (none_is x is)
stood q key (e ∷ h) x is =
    cases (λ is. earlier (stood q key h x is)) e.actor e.fact (λ is. record { position = e ∷ h; at = inl refl; is = is }) is
  where
    earlier : Stood key h x → Stood key (e ∷ h) x
    earlier s = record { position = s.position; at = inr s.at; is = s.is }

    -- a write of the cache's own is on top
    writes : (seen q key h ≡ Some x → Stood key (e ∷ h) x) → (who : Actor) (o : Option (Option Object)) → (join (upper (holds h e.beat who o) (last_write key h)) ≡ Some x → Stood key (e ∷ h) x)
        → join (upper (holds h e.beat who o) (last_seen q key h)) ≡ Some x → Stood key (e ∷ h) x
    writes below who None top is = below is
    writes below who (Some None) top is = absurd (none_is x is)
    writes below who (Some (Some object)) top is = top is

    own : (seen q key h ≡ Some x → Stood key (e ∷ h) x) → (who : Actor) (t : Tick) → (join (upper (holds h e.beat who (at_key key (tick_write t))) (last_write key h)) ≡ Some x → Stood key (e ∷ h) x)
        → join (upper (tick_shows key e.beat who t h) (last_seen q key h)) ≡ Some x → Stood key (e ∷ h) x
    own below who Sync top is = record { position = h; at = inr (tail_all h); is = is }
    own below who t top is = writes below who (at_key key (tick_write t)) top is

    by_own : (seen q key h ≡ Some x → Stood key (e ∷ h) x) → (who : Actor) (t : Tick) (b : Bool) → (join (upper (holds h e.beat who (at_key key (tick_write t))) (last_write key h)) ≡ Some x → Stood key (e ∷ h) x)
        → join (upper (only_if b (tick_shows key e.beat who t h)) (last_seen q key h)) ≡ Some x → Stood key (e ∷ h) x
    by_own below who t true top is = own below who t top is
    by_own below who t false top is = below is

    cases : (seen q key h ≡ Some x → Stood key (e ∷ h) x) → (who : Actor) (d : Fact) → (join (upper (holds h e.beat who (at_key key (write_of d))) (last_write key h)) ≡ Some x → Stood key (e ∷ h) x)
        → join (upper (seen_says q key e.beat who d h) (last_seen q key h)) ≡ Some x → Stood key (e ∷ h) x
    cases below who (Ticks t) top is = by_own below who t (is_by q who) top is
    cases below who d top is = below is

version_is : (a b : Version) → a.0 ≡ b.0 → a ≡ b
version_is a b is = λ i. record { 0 = is i }

-- so equal versions have equal contents
pub same_version : (q : Identity) (key : Key) (h : List Entry) (x y : Held) → seen q key h ≡ Some x → stored key h ≡ Some y → y.version.0 ≡ x.version.0 → x ≡ y
same_version q key h x y sees stores is =
    let s = stood q key h x sees in
    versions_are_contents s.position h s.at key x y s.is stores (version_is x.version y.version (sym is))

-- ---- a cache that is up to date

abbrev pub Mirrors : Identity → List Entry → Type 0
Mirrors q h = (key : Key) → seen q key h ≡ stored key h

same_top : (key : Key) (h : List Entry) (k : ℕ) (who : Actor) (o : Option Write) (a b : Option (Option Held)) → join a ≡ join b
    → join (upper (holds h k who (at_key key o)) a) ≡ join (upper (holds h k who (at_key key o)) b)
same_top key h k who None a b same = same
same_top key h k who (Some w) a b same = by_key (key_eq w.0 key)
  where
    by_object : (o : Option (Option Object)) → join (upper (holds h k who o) a) ≡ join (upper (holds h k who o) b)
    by_object None = same
    by_object (Some object) = refl

    by_key : (t : Bool) → join (upper (holds h k who (when t w.1)) a) ≡ join (upper (holds h k who (when t w.1)) b)
    by_key true = refl
    by_key false = same

-- what a tick shows is what it leaves stored
shows_stored : (q : Identity) (key : Key) (h : List Entry) (k : ℕ) (who : Actor) (t : Tick) → seen q key h ≡ stored key h
    → join (upper (tick_shows key k who t h) (last_seen q key h)) ≡ join (upper (holds h k who (at_key key (tick_write t))) (last_write key h))
shows_stored q key h k who Sync same = refl
shows_stored q key h k who t same = same_top key h k who (tick_write t) (last_seen q key h) (last_write key h) same

-- a sync makes it so
pub mirrors_sync : (q : Identity) (h : List Entry) (k : ℕ) → Mirrors q (add k q Sync h)
mirrors_sync q h k key = subst (λ b. join (upper (only_if b (tick_shows key k (actor_of q) Sync h)) (last_seen q key h)) ≡ stored key h) (sym (same_self q)) refl

-- and each entry of the term's tick keeps it
pub mirrors_more : (q : Identity) (h : List Entry) (k : ℕ) (t : Tick) → Mirrors q h → Mirrors q (add k q t h)
mirrors_more q h k t same key =
    subst (λ b. join (upper (only_if b (tick_shows key k (actor_of q) t h)) (last_seen q key h)) ≡ stored key (add k q t h)) (sym (same_self q)) (shows_stored q key h k (actor_of q) t (same key))

abbrev FreshMore : Identity → List Entry → ℕ → Actor → Fact → Type 0
FreshMore q h k who d = or_else false (upper (fresh_says q who d) (last_fresh q h)) ≡ true
    → (key : Key) → join (upper (seen_says q key k who d h) (last_seen q key h)) ≡ join (upper (holds h k who (at_key key (write_of d))) (last_write key h))

-- after a write a cache isn't up to date
fresh_write : (q : Identity) (h : List Entry) (k : ℕ) (who : Actor) (o : Option Write) → (is_fresh q h ≡ true → Mirrors q h)
    → or_else false (upper (when (has o) false) (last_fresh q h)) ≡ true → (key : Key) → seen q key h ≡ join (upper (holds h k who (at_key key o)) (last_write key h))
fresh_write q h k who None old is key = old is key
fresh_write q h k who (Some w) old is key = absurd (false_is is)

pub unfresh : (q : Identity) (h : List Entry) (o : Option Write) → or_else false (upper (when (has o) false) (newest (λ e T. fresh_says q e.actor e.fact) h)) ≡ true → is_fresh q h ≡ true
unfresh q h None is = is
unfresh q h (Some w) is = absurd (false_is is)

fresh_more : (q : Identity) (e : Entry) (h : List Entry) → (is_fresh q h ≡ true → Mirrors q h) → is_fresh q (e ∷ h) ≡ true → Mirrors q (e ∷ h)
fresh_more q e h old = cases e.actor e.fact
  where
    by_sync : (who : Actor) (b : Bool) → or_else false (upper (when b true) (last_fresh q h)) ≡ true → (key : Key) → join (upper (only_if b (Some (stored key h))) (last_seen q key h)) ≡ stored key h
    by_sync who true is key = refl
    by_sync who false is key = old is key

    by_own : (who : Actor) (t : Tick) (b : Bool) → or_else false (upper (when (has (tick_write t)) false) (last_fresh q h)) ≡ true → (key : Key)
        → join (upper (only_if b (holds h e.beat who (at_key key (tick_write t)))) (last_seen q key h)) ≡ join (upper (holds h e.beat who (at_key key (tick_write t))) (last_write key h))
    by_own who t false is key = fresh_write q h e.beat who (tick_write t) old is key
    by_own who t true is key = same_top key h e.beat who (tick_write t) (last_seen q key h) (last_write key h) (old (unfresh q h (tick_write t) is) key)

    of_tick : (who : Actor) (t : Tick) → FreshMore q h e.beat who (Ticks t)
    of_tick who Sync = by_sync who (is_by q who)
    of_tick who t = by_own who t (is_by q who)

    cases : (who : Actor) (d : Fact) → FreshMore q h e.beat who d
    cases who (Ticks t) = of_tick who t
    cases who d = fresh_write q h e.beat who (write_of d) old

pub fresh : (q : Identity) (h : List Entry) → is_fresh q h ≡ true → Mirrors q h
fresh q [] is = absurd (false_is is)
fresh q (e ∷ h) is = fresh_more q e h (fresh q h) is

fresh_synced_more : (q : Identity) (e : Entry) (h : List Entry) → (is_fresh q h ≡ true → is_synced q h ≡ true) → is_fresh q (e ∷ h) ≡ true → is_synced q (e ∷ h) ≡ true
fresh_synced_more q e h old = cases e.actor e.fact
  where
    by_sync : (b : Bool) → or_else false (upper (when b true) (last_fresh q h)) ≡ true → or_else false (upper (when b true) (last_synced q h)) ≡ true
    by_sync true is = refl
    by_sync false is = old is

    of_tick : (who : Actor) (t : Tick) → or_else false (upper (fresh_says q who (Ticks t)) (last_fresh q h)) ≡ true → or_else false (upper (synced_says q who (Ticks t)) (last_synced q h)) ≡ true
    of_tick who Sync = by_sync (is_by q who)
    of_tick who t = λ is. old (unfresh q h (tick_write t) is)

    cases : (who : Actor) (d : Fact) → or_else false (upper (fresh_says q who d) (last_fresh q h)) ≡ true → or_else false (upper (synced_says q who d) (last_synced q h)) ≡ true
    cases who (Ticks t) = of_tick who t
    cases who d = λ is. old (unfresh q h (write_of d) is)

-- a cache that is up to date was synced
pub fresh_synced : (q : Identity) (h : List Entry) → is_fresh q h ≡ true → is_synced q h ≡ true
fresh_synced q [] is = is
fresh_synced q (e ∷ h) is = fresh_synced_more q e h (fresh_synced q h) is
