-- What a pass found of its nodes before its marks.
use Rattle.std.specs.Prelude.{◌≡◌, ◌||◌, ℕ, Bool, true, false, List, [], ◌∷◌, Option, Some, None}
use Rattle.std.specs.List.Sorted.{IsStrictlySortedBy}
use Rattle.std.specs.Ordering.{nat_cmp}
use Rattle.kube_base.specs.declared.numbers.Version.{Version}
use Rattle.kube_objects.specs.declared.node.Node.{Node}
use Rattle.kube_objects.specs.declared.rules.JudgeRule.{JudgeRule}
use Rattle.kube_objects.specs.declared.rules.JudgeRule.TheVariants.{Tick, Pass}
use Rattle.kube_objects.specs.declared.settings.TickSettings.{TickSettings}
use Rattle.kube_objects.specs.Document.{Doc}
use Rattle.kube_objects.specs.Entry.{Entry, Identity, Place}
use Rattle.kube_objects.specs.Health.{is_known, is_pass_due, is_pass_tick}
use Rattle.kube_objects.specs.Judgement.{Passed, has_turned_on, is_new, judged, passes, queue_heads, strips}
use Rattle.kube_objects.specs.Modes.{place_of}
use Rattle.kube_objects.specs.Newest.{has}
use Rattle.kube_objects.specs.Seen.{seen_node}
use Rattle.kube_objects.specs.Tainting.{Wants, Whatever, wants_ready}
use Rattle.kube_objects.specs.Tick.{pass}
use Rattle.node_taints.specs.Wanting.{wants_of}
use Rattle.watch_cache.specs.Told.{AreNamed}
use Rattle.controller_core.specs.Verdicts.{judged_so}
use Rattle.controller_core.specs.declared.pass.found.Found.{Found}
use Rattle.controller_core.specs.declared.pass.found.Look.{Look}

abbrev pub is_at_passes : JudgeRule → Bool
is_at_passes Tick = false
is_at_passes Pass = true

-- whether a pass has something to judge
abbrev pub looks_ahead : TickSettings → Bool
looks_ahead settings = is_at_passes settings.judge || strips settings.first_sight

abbrev pub are_looked_ahead : Doc → Bool
are_looked_ahead doc = is_at_passes doc.settings.rules.judge || strips doc.settings.rules.first_sight

-- what a node wants by its Ready
abbrev pub wants_seen : Option (Version × Node) → Wants
wants_seen None = Whatever
wants_seen (Some x) = wants_ready x.1.ready

pub record IsLook (doc : Doc) (q : Identity) (before : List Entry) (name : ℕ) (look : Look) : Type 0 where
  pub wants : wants_of look.wants ≡ wants_seen (seen_node q name before)
  pub fresh : look.fresh ≡ is_new doc q name before

-- one of each node
abbrev pub AreLooks : Doc → Identity → List Entry → List ℕ → List Look → Type 0
AreLooks doc q before [] [] = Unit {0}
AreLooks doc q before (name ∷ names) (look ∷ looks) = IsLook doc q before name look × AreLooks doc q before names looks
AreLooks doc q before _ _ = ⊥

-- the nodes of a pass, in order, with their looks
pub record LooksStand (doc : Doc) (q : Identity) (x : Passed) (found : Found) : Type 0 where
  pub names : AreNamed (λ n. has (seen_node q n x.before)) found.names
  pub ascend : IsStrictlySortedBy nat_cmp found.names
  pub looks : AreLooks doc q x.before found.names found.looks.items
  pub turned : found.turned ≡ has_turned_on q x

-- the nodes that the last pass found
pub record HeldStand (q : Identity) (h : List Entry) (held : List ℕ) : Type 0 where
  pub names : AreNamed (λ n. is_known q n h) held
  pub ascend : IsStrictlySortedBy nat_cmp held

-- a node as it is seen after the marks of a pass: its taints and its zone are as they were, and that it has a Ready tells whether it was marked
pub record IsSeenSo (q : Identity) (x : Passed) (name : ℕ) (y z : Node) : Type 0 where
  pub taints : z.taints ≡ y.taints
  pub place : place_of z ≡ place_of y
  pub wants : judged q name x y ≡ judged_so (wants_ready y.ready) (has z.ready)

abbrev pub IsAsMarked : Identity → Passed → ℕ → List Entry → Type 0
IsAsMarked q x name h =
    (y : Version × Node) → seen_node q name x.before ≡ Some y → (z : Version × Node) × ((seen_node q name h ≡ Some z) × IsSeenSo q x name y.1 z.1)

-- what a pass found, and the history that has it over that before it; where the document asks for no looks, there are none, and no head has had its
-- turn since
pub record FoundStands (doc : Doc) (q : Identity) (h g : List Entry) (found : Found) : Type 0 where
  pub after : List Entry
  pub passed : passes q g ≡ record { before = h; after = after } ∷ passes q h
  pub looks : are_looked_ahead doc ≡ true → LooksStand doc q (record { before = h; after = after }) found
  pub unasked : are_looked_ahead doc ≡ false → found.looks.items ≡ []
  pub marked : (name : ℕ) → IsAsMarked q (record { before = h; after = after }) name g
  pub turns : (place : Place) (xs : List Passed) (names : List ℕ) → queue_heads doc q place xs after names ≡ names
  pub held : HeldStand q g found.names

-- it found something exactly where it was due, and then this tick is that of the last pass
abbrev pub IsFoundBy : Doc → ℕ → Identity → List Entry → Option Found → Type 0
IsFoundBy doc k q h None = is_pass_due doc k q h ≡ false
IsFoundBy doc k q h (Some found) =
    (is_pass_due doc k q h ≡ true) × ((is_pass_tick k q (pass doc k q h) ≡ true) × FoundStands doc q h (pass doc k q h) found)
