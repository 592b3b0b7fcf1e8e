-- The readings for which a term waits.
use Rattle.std.specs.Prelude.{◌≡◌, ◌⊎◌, ◌+◌, ◌-◌, ◌==◌, ◌||◌, ◌≤◌, ℕ, nat_lt, not, Bool, true, false, List, Option, Some, None, option_map}
use Rattle.kube_objects.specs.declared.rules.JudgeRule.{JudgeRule}
use Rattle.kube_objects.specs.declared.rules.JudgeRule.TheVariants as judges
use Rattle.kube_objects.specs.Clocks.{local}
use Rattle.kube_objects.specs.Document.{Doc}
use Rattle.kube_objects.specs.Entry.{Entry, Identity, Place}
use Rattle.kube_objects.specs.Health.{last_pass, pass_period}
use Rattle.kube_objects.specs.Tick.{has_room}
use Rattle.kube_objects.specs.Tokens.{base, has_token, is_full_by, is_there, rated}
use Rattle.tick_laws.specs.Judged.{is_dirty}
use Rattle.tick_laws.specs.Room.{AreUpTo}
use Rattle.controller_core.specs.HeadsStand.{HasHead}

abbrev pub is_cleaned_by : JudgeRule → Identity → ℕ → List Entry → Bool
is_cleaned_by judges.Tick q name h = is_dirty q name h
is_cleaned_by judges.Pass q name h = false

-- an untaint or a swap of the node is due, whatever the time; where nodes are judged at passes alone none is
abbrev pub is_cleaned_now : Doc → Identity → ℕ → List Entry → Bool
is_cleaned_now doc q name h = is_cleaned_by doc.settings.rules.judge q name h

-- the zone's token is there at a beat, and its queue has a head
pub record IsHeadDue (doc : Doc) (k : ℕ) (q : Identity) (h : List Entry) (place : Place) : Type 0 where
  pub token : has_token doc q k place h ≡ true
  pub head : HasHead doc q h place

-- whether a zone's token is there at a reading
abbrev pub is_token_at : Doc → Identity → Place → List Entry → ℕ → Bool
is_token_at doc q place h at = is_there (is_full_by doc.settings.rules.bucket doc q place h) (at - local doc q.process (base q place h)) (rated q place h)

-- the least reading at which the zone's token is there, and its queue has a head
pub record IsTokenReading (doc : Doc) (q : Identity) (h : List Entry) (place : Place) (at : ℕ) : Type 0 where
  pub there : is_token_at doc q place h at ≡ true
  pub least : (earlier : ℕ) → is_token_at doc q place h earlier ≡ true → at ≤ earlier
  pub head : HasHead doc q h place

-- whether a reading is before another one; none is never reached
abbrev pub is_before : ℕ → Option ℕ → Bool
is_before now None = true
is_before now (Some at) = nat_lt now at

-- the least reading from which on a further delete is within the limit, told at the beats that no entry is later than
abbrev pub IsRoomReading : Doc → Identity → List Entry → Option ℕ → Type 0
IsRoomReading doc q h at =
    (k : ℕ) → AreUpTo k h → is_before (local doc q.process k) at ≡ not ((doc.settings.rules.evict_burst == 0) || has_room doc q k 0 h)

-- a period after the last pass, and that one's work
abbrev pub pass_reading : Doc → Identity → List Entry → Option ℕ
pass_reading doc q h = option_map (λ k. local doc q.process k + pass_period doc q h) (last_pass q h)

abbrev pub IsAwaited : Doc → Identity → List Entry → ℕ → Type 0
IsAwaited doc q h at = (pass_reading doc q h ≡ Some at) ⊎ ((place : Place) × IsTokenReading doc q h place at)

-- the least of the readings for which a term waits, or the greatest u64 where they are beyond it
pub record IsLeastAwaited (doc : Doc) (q : Identity) (h : List Entry) (at : ℕ) : Type 0 where
  pub there : IsAwaited doc q h at ⊎ (at ≡ 18446744073709551615)
  pub fits : at ≤ 18446744073709551615
  pub least : (other : ℕ) → IsAwaited doc q h other → at ≤ other
