-- What an entry of a tick changes of what the term reads.
use Rattle.std.specs.Prelude.{◌≡◌, ◌||◌, ℕ, Bool, true, false, cond, List, Option, Some, None}
use Rattle.kube_base.specs.declared.numbers.Version.{Version}
use Rattle.kube_objects.specs.declared.call.Answer.{Answer}
use Rattle.kube_objects.specs.declared.call.Answer.TheVariants as answer
use Rattle.kube_objects.specs.declared.deed.Actor.{Actor}
use Rattle.kube_objects.specs.declared.key.Key.{Key}
use Rattle.kube_objects.specs.declared.node.Node.{Node}
use Rattle.kube_objects.specs.declared.object.Object.{Object}
use Rattle.kube_objects.specs.declared.object.Object.TheVariants as object
use Rattle.kube_objects.specs.Document.{Doc}
use Rattle.kube_objects.specs.Entry.{Entry, Identity, Place, Tick, Ticks, Untaint, Swap, Head, Skip}
use Rattle.kube_objects.specs.Keys.{key_eq}
use Rattle.kube_objects.specs.Modes.{mode, mode_says}
use Rattle.kube_objects.specs.Newest.{when}
use Rattle.kube_objects.specs.Seen.{is_synced, is_stale, is_refused, synced_says}
use Rattle.kube_objects.specs.Stored.{Write, next_version, tick_write, try_write, node_write, node_key}
use Rattle.kube_objects.specs.Tainting.{Wants, Wanted, wants_ready}
use Rattle.kube_objects.specs.Tick.{crossed, new_taint, restamped, swapped, untainted}
use Rattle.kube_objects.specs.Tries.{try_node}
use Rattle.tick_laws.specs.Judged.{shown}
use Rattle.watch_cache.specs.Stands.{synced_writes, refused_key}

-- ---- what one entry changes

-- a key, and version and content that it is seen with from then on; None where it is no longer seen
abbrev pub Wrote : Type 0
Wrote = Key × Option (Version × Object)

abbrev pub after_write : Option Wrote → Key → Option (Version × Object) → Option (Version × Object)
after_write None key old = old
after_write (Some wrote) key old = cond (key_eq wrote.0 key) wrote.1 old

abbrev pub is_that : Option Key → Key → Bool
is_that None key = false
is_that (Some other) key = key_eq other key

-- from h to g one key is seen as written, or one key becomes stale, or neither
pub record IsChange (q : Identity) (h g : List Entry) (wrote : Option Wrote) (refused : Option Key) : Type 0 where
  pub shown : (key : Key) → shown q key g ≡ after_write wrote key (shown q key h)
  pub stale : (key : Key) → is_stale q key g ≡ (is_that refused key || is_stale q key h)
  pub mode : mode q g ≡ mode q h
  pub position : synced_writes q g ≡ synced_writes q h
  pub synced : is_synced q g ≡ is_synced q h

abbrev pub IsSame : Identity → List Entry → List Entry → Type 0
IsSame q h g = IsChange q h g None None

-- from h to g the mode becomes this
pub record IsModeChange (q : Identity) (h g : List Entry) (on : Bool) : Type 0 where
  pub shown : (key : Key) → shown q key g ≡ shown q key h
  pub stale : (key : Key) → is_stale q key g ≡ is_stale q key h
  pub mode : mode q g ≡ on
  pub position : synced_writes q g ≡ synced_writes q h
  pub synced : is_synced q g ≡ is_synced q h

-- what an own write changes; h is the history before it
abbrev pub with_version : Version → Option Object → Option (Version × Object)
with_version version None = None
with_version version (Some x) = Some (version, x)

abbrev pub wrote_as : List Entry → Option Write → Option Wrote
wrote_as h None = None
wrote_as h (Some write) = Some (write.0, with_version (next_version h) write.1)

abbrev pub wrote_key : Option Wrote → Option Key
wrote_key None = None
wrote_key (Some wrote) = Some wrote.0

-- a node is seen as written
abbrev pub noted : ℕ → Version → Node → Option Wrote
noted name version node = Some (node_key name, Some (version, object.Node node))

-- a key is no longer seen
abbrev pub gone : Key → Option Wrote
gone key = Some (key, None)

-- ---- what a try changes, by its answer

abbrev pub noted_by : ℕ → Node → Option Answer → Option Wrote
noted_by name node (Some (answer.Done version)) = noted name version node
noted_by name node _ = None

abbrev pub gone_by : Key → Option Answer → Option Wrote
gone_by key (Some (answer.Done version)) = gone key
gone_by key _ = None

abbrev pub refused_by : Key → Option Answer → Option Key
refused_by key tried = when (is_refused tried) key

-- an accepted try was given this version
abbrev pub IsGiven : Version → Option Answer → Type 0
IsGiven next (Some (answer.Done version)) = version ≡ next
IsGiven next _ = Unit {0}

-- ---- tries to write a node

-- a mark, an untaint, a swap or a queued taint
pub record IsTryOn (name : ℕ) (written : Node) (tried : Option Answer) (t : Tick) : Type 0 where
  pub write : tick_write t ≡ try_write (node_write name written) tried
  pub mode : (q : Identity) (who : Actor) → mode_says q who (Ticks t) ≡ None
  pub synced : (q : Identity) (who : Actor) → synced_says q who (Ticks t) ≡ None

-- one that makes its key stale where it is refused: an untaint, a swap
pub record IsCleaningOn (name : ℕ) (written : Node) (tried : Option Answer) (t : Tick) : Type 0 where
  pub try : IsTryOn name written tried t
  pub stale : refused_key t ≡ refused_by (node_key name) tried

-- one that makes no key stale: a mark, a queued taint
pub record IsMildOn (name : ℕ) (written : Node) (tried : Option Answer) (t : Tick) : Type 0 where
  pub try : IsTryOn name written tried t
  pub stale : refused_key t ≡ None

-- ---- the entry by which a tick cleans a node that wants this

abbrev pub cleaning : Doc → ℕ → Identity → ℕ → Version → Node → Wants → Option Answer → Tick
cleaning doc k q name given node (Wanted wanted) tried = Swap name wanted given (swapped (new_taint doc k q wanted) node) tried
cleaning doc k q name given node _ tried = Untaint name given (untainted node) tried

-- and the node that it writes
abbrev pub cleaned_node : Doc → ℕ → Identity → Node → Wants → Node
cleaned_node doc k q node (Wanted wanted) = swapped (new_taint doc k q wanted) node
cleaned_node doc k q node _ = untainted node

-- ---- the entry by which the tick of a pass cleans a node; new says whether the term first sees it, and opposed whether it has the other taint
-- than it wants

abbrev pub judging : Doc → ℕ → Identity → ℕ → Version → Node → (new opposed : Bool) → Wants → Option Answer → Tick
judging doc k q name given node new true (Wanted wanted) tried = Swap name wanted given (crossed new (new_taint doc k q wanted) node) tried
judging doc k q name given node new opposed wants tried = Untaint name given (untainted node) tried

-- and the node that it writes
abbrev pub judged_node : Doc → ℕ → Identity → Node → (new opposed : Bool) → Wants → Node
judged_node doc k q node new true (Wanted wanted) = crossed new (new_taint doc k q wanted) node
judged_node doc k q node new opposed wants = untainted node

-- ---- the turn of a push: a try to write the taint that its node wants, or nothing

abbrev pub pushing : Doc → ℕ → Identity → Place → ℕ → Version → Node → ℕ → Option Answer → Tick
pushing doc k q place name given node wanted tried = Head place name wanted given (restamped (new_taint doc k q wanted) node) tried

-- by what it wants
abbrev pub turn_by : Doc → ℕ → Identity → Place → ℕ → Version → Node → Wants → Option Answer → Tick
turn_by doc k q place name given node (Wanted wanted) tried = pushing doc k q place name given node wanted tried
turn_by doc k q place name given node _ tried = Skip place name

abbrev pub turn_of : Doc → ℕ → Identity → Place → ℕ → Option (Version × Node) → List Entry → Tick
turn_of doc k q place name None h = Skip place name
turn_of doc k q place name (Some x) h = turn_by doc k q place name x.0 x.1 (wants_ready x.1.ready) (try_node q name x.0 h)

-- the zone whose queue has its turn by an entry
abbrev pub turn_at : Tick → Option Place
turn_at (Head place name wanted given written tried) = Some place
turn_at (Skip place name) = Some place
turn_at _ = None
