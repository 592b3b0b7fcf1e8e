-- What a cache has to know of the entries of ticks.
use Rattle.std.proofs.Common.{◌≡◌, ℕ, ◌&&◌, Bool, true, false, List, Option, Some, None, refl, ap, arith}
use Rattle.std.proofs.lemmas.Bool.Decides.{nat_tests}
use Rattle.kube_objects.specs.declared.call.Answer.{Answer}
use Rattle.kube_objects.specs.declared.call.Answer.TheVariants as answer
use Rattle.kube_objects.specs.declared.deed.Actor.{Actor}
use Rattle.kube_objects.specs.declared.key.Key.{Key}
use Rattle.kube_objects.specs.Entry.{Entry, Identity, Tick, Sync, Untaint, Swap, Delete, actor_of}
use Rattle.kube_objects.specs.Identities.{is_by}
use Rattle.kube_objects.specs.Keys.{key_eq}
use Rattle.kube_objects.specs.Newest.{when}
use Rattle.kube_objects.specs.Seen.{tick_shows, stale_tick, is_refused}
use Rattle.kube_objects.specs.Stored.{Write, holds, at_key, tick_write, try_write, node_key, node_write}
use Rattle.watch_cache.specs.Stands.{refused_key}

-- an identity is itself
pub same_self : (q : Identity) → is_by q (actor_of q) ≡ true
same_self q = grind (arith, nat_tests)

abbrev pub is_sync : Tick → Bool
is_sync Sync = true
is_sync _ = false

-- a refused try wrote nothing, and an accepted one wasn't refused
refused_unwritten : (w : Write) (tried : Option Answer) → is_refused tried ≡ true → try_write w tried ≡ None
refused_unwritten w None is = refl
refused_unwritten w (Some (answer.Done version)) is = absurd (cc)
refused_unwritten w (Some answer.Absent) is = refl
refused_unwritten w (Some answer.Exists) is = refl
refused_unwritten w (Some (answer.Conflict version)) is = refl

written_unrefused : (w x : Write) (tried : Option Answer) → try_write w tried ≡ Some x → is_refused tried ≡ false
written_unrefused w x None is = absurd (cc)
written_unrefused w x (Some (answer.Done version)) is = refl
written_unrefused w x (Some answer.Absent) is = absurd (cc)
written_unrefused w x (Some answer.Exists) is = absurd (cc)
written_unrefused w x (Some (answer.Conflict version)) is = absurd (cc)

named_when : (b : Bool) (key k : Key) → when b k ≡ Some key → b ≡ true
named_when true key k is = refl
named_when false key k is = absurd (cc)

-- a tick that makes a key stale wrote nothing
pub refused_writes : (t : Tick) (key : Key) → refused_key t ≡ Some key → tick_write t ≡ None
refused_writes (Untaint node given written tried) key is = refused_unwritten (node_write node written) tried (named_when (is_refused tried) key (node_key node) is)
refused_writes (Swap node wanted given written tried) key is = refused_unwritten (node_write node written) tried (named_when (is_refused tried) key (node_key node) is)
refused_writes (Delete pod given node_given due tried) key is = refused_unwritten (pod, None) tried (named_when (is_refused tried) key pod is)
refused_writes t key is = absurd (cc)

-- nor is it a sync
pub refused_unsynced : (t : Tick) (key : Key) → refused_key t ≡ Some key → is_sync t ≡ false
refused_unsynced Sync key is = absurd (cc)
refused_unsynced t key is = refl

-- a tick that wrote makes no key stale
pub written_refuses : (t : Tick) (w : Write) → tick_write t ≡ Some w → refused_key t ≡ None
written_refuses (Untaint node given written tried) w is = ap (λ b. when b (node_key node)) (written_unrefused (node_write node written) w tried is)
written_refuses (Swap node wanted given written tried) w is = ap (λ b. when b (node_key node)) (written_unrefused (node_write node written) w tried is)
written_refuses (Delete pod given node_given due tried) w is = ap (λ b. when b pod) (written_unrefused (pod, None) w tried is)
written_refuses t w is = refl

-- nor is it a sync
pub written_unsynced : (t : Tick) (w : Write) → tick_write t ≡ Some w → is_sync t ≡ false
written_unsynced Sync w is = absurd (cc)
written_unsynced t w is = refl

-- what a tick other than a sync shows is what it wrote
pub shows_written : (key : Key) (k : ℕ) (who : Actor) (t : Tick) (h : List Entry) → is_sync t ≡ false → tick_shows key k who t h ≡ holds h k who (at_key key (tick_write t))
shows_written key k who Sync h is = absurd (cc)
shows_written key k who t h is = refl

-- whether a key that is made stale is this one
abbrev pub marks : Key → Option Key → Option Bool
marks key None = None
marks key (Some k) = when (key_eq k key) true

marks_when : (key k : Key) (b : Bool) → when (b && key_eq k key) true ≡ marks key (when b k)
marks_when key k true = refl
marks_when key k false = refl

-- a tick other than a sync makes the key stale that it was refused on
pub stales_refused : (key : Key) (t : Tick) → is_sync t ≡ false → stale_tick key t ≡ marks key (refused_key t)
stales_refused key Sync is = absurd (cc)
stales_refused key (Untaint node given written tried) is = marks_when key (node_key node) (is_refused tried)
stales_refused key (Swap node wanted given written tried) is = marks_when key (node_key node) (is_refused tried)
stales_refused key (Delete pod given node_given due tried) is = marks_when key pod (is_refused tried)
stales_refused key t is = refl
