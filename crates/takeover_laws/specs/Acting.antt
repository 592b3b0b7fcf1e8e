-- Who acts after a write, and what stays stored while nobody acts. Source: profile.
use Rattle.std.specs.Prelude.{◌≡◌, ◌≤◌, ℕ, suc, ◌+◌, true, List, ◌∷◌}
use Rattle.kube_objects.specs.Document.{Doc, end_beat, is_controller}
use Rattle.kube_objects.specs.Entry.{Entry, Identity, actor_of}
use Rattle.kube_objects.specs.Stored.{election, stored}
use Rattle.kube_objects.specs.Own.{ReleasesByStop}
use Rattle.history.specs.History.{history}
use Rattle.history.specs.Safe.{Acts}
use Rattle.history.specs.Sound.{IsSound}
use Rattle.history_laws.specs.Tails.{IsTail}
use Rattle.takeover_laws.specs.Calm.{IsSteady, IsCalm, IsInTime, WritesElection}

-- an identity acts at a beat from a to n
pub record ActsBetween (doc : Doc) (q : Identity) (a n : ℕ) : Type 0 where
  pub k : ℕ
  pub from : a ≤ k
  pub to : k ≤ n
  pub acts : Acts doc q k

-- nobody of a steady controller acts from beat a to beat n
abbrev pub NobodyActs : Doc → ℕ → ℕ → ℕ → ℕ → ℕ → Type 0
NobodyActs doc near far a e n = (q : Identity) → is_controller doc q.process ≡ true → IsSteady doc near far a e q.process → (k : ℕ) → a ≤ k → k ≤ n → Acts doc q k → ⊥

-- each steady controller's calls have time for two ways
abbrev pub AreInTime : Doc → ℕ → ℕ → ℕ → ℕ → Type 0
AreInTime doc near far a e = (p : ℕ) → is_controller doc p ≡ true → IsSteady doc near far a e p → IsInTime doc far a e p

-- an identity of a steady controller whose call, sent at beat a or later, writes the election Lease at a beat acts at a beat from a to one
-- way after it
abbrev pub WritersAct : Type 0
WritersAct =
    (doc : Doc) → ReleasesByStop doc → (near far a e : ℕ) (q : Identity) → 1 ≤ near → is_controller doc q.process ≡ true → IsSteady doc near far a e q.process → IsInTime doc far a e q.process
    → (m : ℕ) (x : Entry) (before : List Entry) → IsTail (x ∷ before) (history doc m) → x.actor ≡ actor_of q → WritesElection a x.fact → a ≤ x.beat → x.beat + far ≤ e
    → ActsBetween doc q a (x.beat + far)

-- in a calm, while nobody acts, the record that is stored one way after its first beat stays stored at all positions, but for the last way
abbrev pub RecordsStay : Type 0
RecordsStay =
    (doc : Doc) (near far a e n : ℕ) → IsSound doc → ReleasesByStop doc → IsCalm doc near far a e → AreInTime doc near far a e → 1 ≤ near → near ≤ far → e ≤ end_beat doc → n ≤ e → NobodyActs doc near far a e n
    → (m : ℕ) → a + far ≤ m → m + far ≤ n → (h : List Entry) → IsTail (history doc (a + far)) h → IsTail h (history doc (suc m)) → stored election h ≡ stored election (history doc (a + far))
