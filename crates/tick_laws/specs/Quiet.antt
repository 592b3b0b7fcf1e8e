-- A tick that adds nothing. The beat comes in by the reading, for first syncs, passes and tokens, and by the time of day, for pods.
use Rattle.std.specs.Prelude.{◌≡◌, ◌⊎◌, ◌==◌, ◌&&◌, ℕ, not, true, false, List, [], ◌∷◌, None}
use Rattle.kube_objects.specs.declared.key.Key.{Key}
use Rattle.kube_objects.specs.declared.rules.JudgeRule.{JudgeRule}
use Rattle.kube_objects.specs.declared.rules.JudgeRule.TheVariants as judges
use Rattle.kube_objects.specs.Clocks.{wall}
use Rattle.kube_objects.specs.Document.{Doc}
use Rattle.kube_objects.specs.Entry.{Entry, Identity, Place}
use Rattle.kube_objects.specs.Health.{is_pass_due, is_pass_tick}
use Rattle.kube_objects.specs.InForce.{watches}
use Rattle.kube_objects.specs.Judgement.{Passed, passes, queue}
use Rattle.kube_objects.specs.Seen.{is_fresh, is_synced}
use Rattle.kube_objects.specs.Tainting.{waits}
use Rattle.kube_objects.specs.Tick.{has_room, has_settled}
use Rattle.kube_objects.specs.Tokens.{has_token}
use Rattle.tick_laws.specs.Judged.{is_by_now, is_to_clean, is_to_try, term_due}

-- a further delete isn't within the limit
pub record IsOutOfRoom (doc : Doc) (k : ℕ) (q : Identity) (h : List Entry) : Type 0 where
  pub limited : (doc.settings.rules.evict_burst == 0) ≡ false
  pub none : has_room doc q k 0 h ≡ false

-- no node is to be untainted or swapped
abbrev pub AreTried : Doc → Identity → List Passed → List Entry → Type 0
AreTried doc q [] h = Unit {0}
AreTried doc q (x ∷ xs) h = (name : ℕ) → is_to_try doc q x name h ≡ false

abbrev pub AreClean : JudgeRule → Doc → ℕ → Identity → List Entry → Type 0
AreClean judges.Tick doc k q h = (name : ℕ) → is_to_clean doc k q name h ≡ false
AreClean judges.Pass doc k q h = is_pass_tick k q h ≡ true → AreTried doc q (passes q h) h

-- nobody waits in a zone whose token is there, or has a push there
abbrev pub AreUnqueued : JudgeRule → Doc → ℕ → Identity → List Entry → Type 0
AreUnqueued judges.Tick doc k q h = (place : Place) (name : ℕ) → has_token doc q k place h ≡ true → waits q place name h ≡ None
AreUnqueued judges.Pass doc k q h = (place : Place) → has_token doc q k place h ≡ true → queue doc q place (passes q h) ≡ []

-- a tick of a term that has synced: no pass is due, no node is to be cleaned, nobody waits in a zone whose token is there, and no pod is due or
-- no token for a delete is there
pub record IsQuietTerm (doc : Doc) (k : ℕ) (q : Identity) (h : List Entry) : Type 0 where
  pub pass : is_pass_due doc k q h ≡ false
  pub nodes : AreClean doc.settings.rules.judge doc k q h
  pub heads : AreUnqueued doc.settings.rules.judge doc k q h
  pub pods : ((key : Key) → is_by_now (wall doc q.process k) (term_due doc q key h) ≡ false) ⊎ IsOutOfRoom doc k q h

pub record IsQuietTick (doc : Doc) (k : ℕ) (q : Identity) (h : List Entry) : Type 0 where
  pub sync : (has_settled doc k q h && (watches doc q.process h && not (is_fresh q h))) ≡ false
  pub term : is_synced q h ≡ true → IsQuietTerm doc k q h
