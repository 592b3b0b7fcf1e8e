-- Rows of entries. Some entries say of a thing that it holds from then on, or that it doesn't. Its row is the longest one of them up to
-- now that all say that it holds; so it begins at the newest one that says so and before which it didn't hold. Source: profile.
use Rattle.std.specs.Prelude.{◌≡◌, ◌⊎◌, ℕ, Bool, true, false, List, ◌∷◌, Option, Some}
use Rattle.kube_objects.specs.Entry.{Entry}
use Rattle.kube_objects.specs.Newest.{newest, or_else}
use Rattle.history_laws.specs.Tails.{IsTail}

-- what an entry says of a thing, if something; it is read with the history before it
abbrev pub Says : Type 0
Says = Entry → List Entry → Option Bool

-- whether the thing holds: what the newest entry says that says something; at first it doesn't
abbrev pub holds_now : Says → List Entry → Bool
holds_now says h = or_else false (newest says h)

-- the first entry of the thing's row, and the history before it
pub record Row (says : Says) (h : List Entry) : Type 0 where
  pub e : Entry
  pub before : List Entry
  pub stands : IsTail (e ∷ before) h
  -- the thing holds from it on, and didn't before
  pub holds : says e before ≡ Some true
  pub new : holds_now says before ≡ false
  -- and no entry since says that it doesn't
  pub on : (f : Entry) (T : List Entry) → IsTail (f ∷ T) h → IsTail (e ∷ before) T → ¬ (says f T ≡ Some false)

-- the beat of the latest entry, from the first one of a row on, that is this first one or passes a test
pub record IsLatest (test : Entry → List Entry → Bool) (h first : List Entry) (k : ℕ) : Type 0 where
  pub x : Entry
  pub before : List Entry
  pub stands : IsTail (x ∷ before) h
  pub from : IsTail first (x ∷ before)
  pub passes : (x ∷ before ≡ first) ⊎ (test x before ≡ true)
  pub latest : (f : Entry) (T : List Entry) → IsTail (f ∷ T) h → IsTail (x ∷ before) T → test f T ≡ false
  pub beat : k ≡ x.beat
