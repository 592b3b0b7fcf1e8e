-- Of two pauses of a process the later one begins after the end of the earlier one, and a beat more; so it is of two stalls of the store.
use Rattle.std.proofs.Common.{◌≡◌, ℕ, ◌+◌, ◌==◌, ◌||◌, Bool, true, false, List, [], ◌∷◌, ◌++◌, Option, Some, None, refl, subst}
use Rattle.std.proofs.lemmas.Bool.{leb-false, eqb-true}
use Rattle.kube_objects.specs.declared.script.Event.{Event}
use Rattle.kube_objects.specs.declared.script.What.{What}
use Rattle.kube_objects.specs.declared.script.What.TheVariants as whats
use Rattle.kube_objects.specs.Newest.{when}
use Rattle.kube_objects.specs.Pauses.{pause_of}
use Rattle.kube_objects.specs.Stalls.{stall_of}
use Rattle.history.specs.Sound.{IsApart, AreApartFrom}
use Rattle.script_reader.specs.Walk.{reaches, pauses_up_to, is_paused_up_to, stalls_up_to, is_stalled_up_to, is_too_soon}

-- these events are apart from each of the earlier ones
abbrev pub AreBehind : List Event → List Event → Type 0
AreBehind [] es = Unit {0}
AreBehind (x ∷ earlier) es = AreApartFrom x.beat.0 x.what es × AreBehind earlier es

pub behind-none : (earlier : List Event) → AreBehind earlier []
behind-none [] = tt
behind-none (x ∷ earlier) = (tt, behind-none earlier)

pub behind-last : (earlier : List Event) (e : Event) (es : List Event) → AreBehind (earlier ++ e ∷ []) es → AreBehind earlier es × AreApartFrom e.beat.0 e.what es
behind-last [] e es all = (tt, all.0)
behind-last (x ∷ earlier) e es all = let rest = behind-last earlier e es all.1 in ((all.0, rest.0), rest.1)

pub or_parts : (a b : Bool) → (a || b) ≡ false → (a ≡ false) × (b ≡ false)
or_parts false b e = (refl, e)
or_parts true b e = absurd (let none : ⊥ = cc in none)

no_later : (at k : ℕ) (o : Option ℕ) → IsApart at o k None
no_later at k None = tt
no_later at k (Some beats) = tt

ends-before : (at k beats : ℕ) (o : Option ℕ) → reaches k at o ≡ false → IsApart at o k (Some beats)
ends-before at k beats None over = tt
ends-before at k beats (Some n) over = leb-false k (at + n) over

-- an event that isn't too soon is apart from the first of the earlier ones, and not too soon after the others
record IsNotSoon (x : Event) (earlier : List Event) (k : ℕ) (what : What) : Type 0 where
  pub pauses : (p : ℕ) → IsApart x.beat.0 (pause_of p x.what) k (pause_of p what)
  pub stalls : IsApart x.beat.0 (stall_of x.what) k (stall_of what)
  pub rest : is_too_soon earlier k what ≡ false

apart-first : (x : Event) (earlier : List Event) (k : ℕ) (what : What) → is_too_soon (x ∷ earlier) k what ≡ false → IsNotSoon x earlier k what
apart-first x earlier k (whats.Pause id beats) rests =
    let parts = or_parts (pauses_up_to id.0 k x) (is_paused_up_to id.0 k earlier) rests in
    record { pauses = λ p. by_test p (id.0 == p) refl parts.0; stalls = no_later x.beat.0 k (stall_of x.what); rest = parts.1 }
  where
    by_test : (p : ℕ) (b : Bool) → (id.0 == p) ≡ b → pauses_up_to id.0 k x ≡ false → IsApart x.beat.0 (pause_of p x.what) k (when b beats)
    by_test p true same over = ends-before x.beat.0 k beats (pause_of p x.what) (subst (λ q. pauses_up_to q k x ≡ false) (eqb-true id.0 p same) over)
    by_test p false other over = no_later x.beat.0 k (pause_of p x.what)
apart-first x earlier k (whats.Rate id ppm) rests = record { pauses = λ p. no_later x.beat.0 k (pause_of p x.what); stalls = no_later x.beat.0 k (stall_of x.what); rest = refl }
apart-first x earlier k (whats.Delay id requests replies) rests = record { pauses = λ p. no_later x.beat.0 k (pause_of p x.what); stalls = no_later x.beat.0 k (stall_of x.what); rest = refl }
apart-first x earlier k (whats.Loss id requests replies) rests = record { pauses = λ p. no_later x.beat.0 k (pause_of p x.what); stalls = no_later x.beat.0 k (stall_of x.what); rest = refl }
apart-first x earlier k (whats.Crash id) rests = record { pauses = λ p. no_later x.beat.0 k (pause_of p x.what); stalls = no_later x.beat.0 k (stall_of x.what); rest = refl }
apart-first x earlier k (whats.Start id) rests = record { pauses = λ p. no_later x.beat.0 k (pause_of p x.what); stalls = no_later x.beat.0 k (stall_of x.what); rest = refl }
apart-first x earlier k (whats.Stop id) rests = record { pauses = λ p. no_later x.beat.0 k (pause_of p x.what); stalls = no_later x.beat.0 k (stall_of x.what); rest = refl }
apart-first x earlier k (whats.Watch id on) rests = record { pauses = λ p. no_later x.beat.0 k (pause_of p x.what); stalls = no_later x.beat.0 k (stall_of x.what); rest = refl }
apart-first x earlier k (whats.Ready id status) rests = record { pauses = λ p. no_later x.beat.0 k (pause_of p x.what); stalls = no_later x.beat.0 k (stall_of x.what); rest = refl }
apart-first x earlier k (whats.Stall beats) rests =
    let parts = or_parts (stalls_up_to k x) (is_stalled_up_to k earlier) rests in
    record { pauses = λ p. no_later x.beat.0 k (pause_of p x.what); stalls = ends-before x.beat.0 k beats (stall_of x.what) parts.0; rest = parts.1 }
apart-first x earlier k (whats.Put key object) rests = record { pauses = λ p. no_later x.beat.0 k (pause_of p x.what); stalls = no_later x.beat.0 k (stall_of x.what); rest = refl }
apart-first x earlier k (whats.Remove key) rests = record { pauses = λ p. no_later x.beat.0 k (pause_of p x.what); stalls = no_later x.beat.0 k (stall_of x.what); rest = refl }

pub behind-next : (earlier : List Event) (e : Event) (es : List Event) → is_too_soon earlier e.beat.0 e.what ≡ false → AreBehind earlier es → AreBehind earlier (e ∷ es)
behind-next [] e es rests all = tt
behind-next (x ∷ earlier) e es rests all =
    let first = apart-first x earlier e.beat.0 e.what rests in
    ((first.pauses, first.stalls, all.0), behind-next earlier e es first.rest all.1)
