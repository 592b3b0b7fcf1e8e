-- What is known of a trace's lines: from the last one back, and from the first one on.
use Rattle.std.specs.Prelude.{◌≡◌, ℕ, ◌<◌, false, List, [], ◌∷◌, map, reverse, Option, Some, None}
use Rattle.std.specs.Str.{bytes_eq}
use Rattle.std.specs.HashMap.{get}
use denote.Ref.{Bor}
use Rattle.trace_lines.specs.declared.line.Line.{Line}
use Rattle.lens_terms.specs.declared.closing.Closing.{Closing}
use Rattle.lens_terms.specs.declared.closings.Closings.{Closings}
use Rattle.lens_terms.specs.declared.gathering.Gathering.{Gathering}
use Rattle.lens_terms.specs.declared.interruptions.Interruptions.{Interruptions}
use Rattle.lens_terms.specs.declared.standing.Standing.{Standing}
use Rattle.lens_terms.specs.declared.standings.Standings.{Standings}
use Rattle.lens_terms.specs.declared.stretch.Stretch.{Stretch}
use Rattle.lens_terms.specs.Acting as acting
use Rattle.lens_terms.specs.Terms.{closing, terms, shown}

-- ---- from the last one back

-- what is held of an identity
abbrev pub held : Closings → Bor (List ℕ) → Option Closing
held c who = get (λ one other. bytes_eq one.now other.now) c.by_actor who

-- what is known of the lines from a number on: what ends each identity's terms, and the terms, the last one first
pub record Stands (number : ℕ) (ls : List (Line (List ℕ))) (g : Gathering) : Type 0 where
  pub closings : (who : Bor (List ℕ)) → held g.closings who ≡ closing who.now ls
  pub terms_are : map shown g.terms.items ≡ reverse (terms number ls)

-- the beat that is held of an identity, else the one behind the last
abbrev pub beat_or : ℕ → Option ℕ → ℕ
beat_or stop None = stop
beat_or stop (Some beat) = beat

abbrev pub interruption : ℕ → Interruptions → Bor (List ℕ) → ℕ
interruption stop i who = beat_or stop (get (λ one other. bytes_eq one.now other.now) i.by_actor who)

-- of each line, where its actor is interrupted behind it
abbrev pub ends : ℕ → List (Line (List ℕ)) → List ℕ
ends stop [] = []
ends stop (l ∷ ls) = acting.interrupted stop l.actor ls ∷ ends stop ls

-- ---- from the first one on

-- what is held of an identity
abbrev pub stood : Standings → Bor (List ℕ) → Option Standing
stood s who = get (λ one other. bytes_eq one.now other.now) s.by_actor who

-- how it stands by that
abbrev pub standing_or : Option Standing → Standing
standing_or None = record { leads = false; still = 0 }
standing_or (Some s) = s

-- what is known of each identity is held of it
abbrev pub AreHeld : acting.Standings → Standings → Type 0
AreHeld known s = (who : Bor (List ℕ)) → standing_or (stood s who) ≡ known who.now

-- each begins before a beat
abbrev pub AreBelow : ℕ → List (Stretch (List ℕ)) → Type 0
AreBelow stop [] = Unit {0}
AreBelow stop (s ∷ more) = (s.from < stop) × AreBelow stop more
