-- The pushes of zones stand for a history, and while a pass is judged.
use Rattle.std.specs.Prelude.{◌≡◌, ◌==◌, ℕ, cond, Bool, false, List, [], ◌∷◌}
use Rattle.std.specs.List.{list_any}
use Rattle.kube_objects.specs.Document.{Doc}
use Rattle.kube_objects.specs.Entry.{Entry, Identity, Place}
use Rattle.kube_objects.specs.Judgement.{Passed, passes, counts, queue, queue_pass}
use Rattle.kube_objects.specs.Seen.{node_names}
use Rattle.kube_objects.specs.Tokens.{is_zone}
use Rattle.taint_zones.specs.declared.pushes.ZonePushes.{ZonePushes}
use Rattle.taint_zones.specs.Places.{of_place}
use Rattle.taint_zones.specs.Pushing.{counted_at, pushed_at}

-- a zone has its queue, and knows who counts as pushed there
pub record PushesStand (doc : Doc) (q : Identity) (h : List Entry) (pushes : ZonePushes) : Type 0 where
  pub names : (place : Place) → pushed_at pushes (of_place place) ≡ queue doc q place (passes q h)
  pub counts : (place : Place) (n : ℕ) → counted_at pushes (of_place place) n ≡ counts doc q place n (passes q h)

-- what a pass leaves in a zone's queue, before its heads
abbrev pub pushed_by : Doc → Identity → Place → Passed → List Passed → List ℕ
pushed_by doc q place x xs = cond (is_zone q place x.before) (queue_pass doc q place x xs (node_names x.before) (queue doc q place xs)) []

abbrev pub is_left : List ℕ → ℕ → Bool
is_left rest n = list_any (λ other. other == n) rest

-- who counted before the pass, in a zone that it found
abbrev pub counted_before : Doc → Identity → Place → ℕ → Passed → List Passed → Bool
counted_before doc q place n x xs = cond (is_zone q place x.before) (counts doc q place n xs) false

-- while these nodes are left to be judged: their pushes on top make the queue that the pass leaves, and of the others it is known who counts
pub record JudgingStand (doc : Doc) (q : Identity) (x : Passed) (xs : List Passed) (rest : List ℕ) (pushes : ZonePushes) : Type 0 where
  pub names : (place : Place) → queue_pass doc q place x xs rest (pushed_at pushes (of_place place)) ≡ pushed_by doc q place x xs
  pub counts : (place : Place) (n : ℕ)
      → counted_at pushes (of_place place) n ≡ cond (is_left rest n) (counted_before doc q place n x xs) (counts doc q place n (x ∷ xs))
