-- Names and their numbers. A list of names is a list of texts, and a name's number is its place there (profile).
use Rattle.std.specs.Prelude.{◌≡◌, ℕ, ◌<◌, ◌^◌, true, List, [], ◌∷◌, ◌++◌, Option, Some, codes, length, take, position}
use Rattle.std.specs.Prelude.{slice_get, if◌then◌else◌}
use Rattle.std.specs.List.{list_any, list_all, position_or_len}
use Rattle.std.specs.Str.{bytes_eq, is_utf8}

-- the number of a text that is held
unfoldable pub number_of : List (List ℕ) → List ℕ → Option ℕ
number_of names text = position (bytes_eq text) names

-- the number that a text has or gets: its own, or the next one
unfoldable pub number_in : List (List ℕ) → List ℕ → ℕ
number_in names text = position_or_len (bytes_eq text) names

-- the names after a text is numbered: a new one goes last
unfoldable pub with_name : List (List ℕ) → List ℕ → List (List ℕ)
with_name names text = if list_any (bytes_eq text) names then names else names ++ text ∷ []

-- the names that every list begins with
abbrev pub fixed_names : List (List ℕ)
fixed_names =
    [] ∷ codes "KubeletReady" ∷ codes "KubeletNotReady" ∷ codes "NodeStatusUnknown" ∷ codes "NodeStatusNeverUpdated"
    ∷ codes "node.kubernetes.io/not-ready" ∷ codes "node.kubernetes.io/unreachable" ∷ codes "kube-system"
    ∷ codes "kube-controller-manager" ∷ codes "kube-node-lease" ∷ []

-- what holds of every list of names: it begins with the fixed ones, each text is UTF-8 and stands at one place alone, and
-- numbers have 32 bits
pub record AreNames (names : List (List ℕ)) : Type 0 where
  pub fixed : take 10 names ≡ fixed_names
  pub text : list_all is_utf8 names ≡ true
  pub few : length names < 2 ^ 32

-- each held text is found at its own place
abbrev pub EachOnce : List (List ℕ) → Type 0
EachOnce names = (i : ℕ) (text : List ℕ) → slice_get names i ≡ Some text → number_of names text ≡ Some i
