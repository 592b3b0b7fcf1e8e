-- Where two act at once: the first beat of it, and how many beats there are, in one pass over stretches in the order in which they begin.
use Rattle.std.specs.Prelude.{ℕ, ◌+◌, ◌-◌, ◌&&◌, not, nat_le, nat_lt, max, min, Bool, List, [], ◌∷◌, Option, Some, None, if◌then◌else◌}
use Rattle.std.specs.Str.{bytes_eq}
use denote.Ref.{Bor}
use Rattle.lens_terms.specs.declared.latest.Latest.{Latest}
use Rattle.lens_terms.specs.declared.stretch.Stretch.{Stretch}

-- ---- those so far

-- with the text itself in the place of a reference to it
abbrev pub latest_shown : Latest (Bor (List ℕ)) → Latest (List ℕ)
latest_shown l = record { who = l.who.now; until = l.until; beside = l.beside }

-- no stretch so far
abbrev pub none_yet : Latest (List ℕ)
none_yet = record { who = []; until = 0; beside = 0 }

-- the last end of a stretch of another identity than this one
abbrev pub rival : Latest (List ℕ) → List ℕ → ℕ
rival l who = if bytes_eq l.who who then l.beside else l.until

-- with one more stretch
abbrev pub with_stretch : Latest (List ℕ) → List ℕ → ℕ → Latest (List ℕ)
with_stretch l who end =
    if bytes_eq l.who who then record { who = l.who; until = max l.until end; beside = l.beside }
    else if nat_lt l.until end then record { who = who; until = end; beside = l.until }
    else record { who = l.who; until = l.until; beside = max l.beside end }

-- ---- the first beat

-- the first stretch that begins while one of another identity lasts
abbrev pub first_from : Latest (List ℕ) → List (Stretch (List ℕ)) → Option (Stretch (List ℕ))
first_from l [] = None
first_from l (s ∷ more) = if nat_lt s.from (rival l s.actor) then Some s else first_from (with_stretch l s.actor s.until) more

unfoldable pub overlap : List (Stretch (List ℕ)) → Option (Stretch (List ℕ))
overlap all = first_from none_yet all

-- whether another identity acts when a stretch begins
abbrev pub crosses : Stretch (List ℕ) → Stretch (List ℕ) → Bool
crosses s other = not (bytes_eq other.actor s.actor) && nat_le other.from s.from && nat_lt s.from other.until

-- the first of some stretches that passes a test
abbrev pub first : {T : Type 0} → (Stretch T → Bool) → List (Stretch T) → Option (Stretch T)
first test [] = None
first test (s ∷ more) = if test s then Some s else first test more

-- ---- how many beats

-- the beat before which a stretch has all beats that it shares with those so far, and not before the beat `from`
abbrev pub shared_end : ℕ → ℕ → Latest (List ℕ) → Stretch (List ℕ) → ℕ
shared_end stop from l s = max from (min (min s.until stop) (rival l s.actor))

-- the beats that stretches share with those before them, from a beat on
abbrev pub beats_from : ℕ → ℕ → Latest (List ℕ) → List (Stretch (List ℕ)) → ℕ
beats_from stop since l [] = 0
beats_from stop since l (s ∷ more) =
    (shared_end stop (max since s.from) l s - max since s.from) + beats_from stop (shared_end stop (max since s.from) l s) (with_stretch l s.actor s.until) more

unfoldable pub beats_of_two : ℕ → List (Stretch (List ℕ)) → ℕ
beats_of_two stop all = beats_from stop 0 none_yet all
