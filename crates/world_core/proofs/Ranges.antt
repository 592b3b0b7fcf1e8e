-- Layer 1, lists, ranges and places: the ranges of a document that the world keeps.
use Rattle.std.proofs.Common.{◌≡◌, ℕ, ◌+◌, ◌*◌, ◌^◌, ◌<◌, ◌≤◌, IfSome, Bool, true, false, nat_lt, IsTrue, ◌↔◌, List, [], ◌∷◌, All, refl, sym, ◌∙◌, arith}
use Rattle.std.proofs.lemmas.Bool.Decides.{nat_tests}
use Rattle.std.proofs.Math.Nat.{le-mul_of_pos_right}
use Rattle.std.proofs.lemmas.List.Elements.{All-cons}
use Rattle.kube_objects.specs.declared.script.Event.{Event}
use Rattle.kube_objects.specs.declared.script.What.{What}
use Rattle.kube_objects.specs.declared.script.What.TheVariants as what
use Rattle.kube_objects.specs.Document.{Doc, end_beat}
use Rattle.kube_objects.specs.Stalls.{stall_of}
use Rattle.pause_times.specs.Owned.{AreStallsFit}
use Rattle.script_reader.specs.Lawful.{IsLawfulWhat, AreLawfulFrom}
use Rattle.world_core.specs.Worlds.{IsFit}
use Rattle.world_process.proofs.Names.{le-from, lt-from}

pub end-most : (e b : ℕ) → 1 ≤ b → e * b ≤ 604800000 → e ≤ 604800000
end-most e b least most = let more : e ≤ e * b = le-mul_of_pos_right e (omega (arith, least)) in omega (arith, more, most)

fit : (doc : Doc) (event : What) → IsLawfulWhat doc event → IsFit event
fit doc (what.Rate id ppm) lawful = tt
fit doc (what.Delay id requests replies) lawful = (lawful.1, lawful.2)
fit doc (what.Loss id requests replies) lawful = tt
fit doc (what.Crash id) lawful = tt
fit doc (what.Start id) lawful = tt
fit doc (what.Stop id) lawful = tt
fit doc (what.Watch id on) lawful = tt
fit doc (what.Ready id status) lawful = tt
fit doc (what.Pause id beats) lawful = tt
fit doc (what.Stall beats) lawful = tt
fit doc (what.Put key object) lawful = lawful.1
fit doc (what.Remove key) lawful = tt

pub all-fit : (doc : Doc) (from : ℕ) (es : List Event) → AreLawfulFrom doc from es → All (λ e. IsFit e.what) es
all-fit doc from [] lawful = λ k d less. absurd (omega (arith, less))
all-fit doc from (e ∷ es) lawful = All-cons (λ x. IsFit x.what) e es (fit doc e.what lawful.2) (all-fit doc e.beat.0 es lawful.3)

stall-fits : (doc : Doc) (at : ℕ) (event : What) → at ≤ 604800000 → IsLawfulWhat doc event → IfSome (stall_of event) (λ beats. at + beats < 2 ^ 32)
stall-fits doc at (what.Rate id ppm) within lawful = tt
stall-fits doc at (what.Delay id requests replies) within lawful = tt
stall-fits doc at (what.Loss id requests replies) within lawful = tt
stall-fits doc at (what.Crash id) within lawful = tt
stall-fits doc at (what.Start id) within lawful = tt
stall-fits doc at (what.Stop id) within lawful = tt
stall-fits doc at (what.Watch id on) within lawful = tt
stall-fits doc at (what.Ready id status) within lawful = tt
stall-fits doc at (what.Pause id beats) within lawful = tt
stall-fits doc at (what.Stall beats) within lawful = omega (arith, within, lawful.1)
stall-fits doc at (what.Put key object) within lawful = tt
stall-fits doc at (what.Remove key) within lawful = tt

pub stalls-fit : (doc : Doc) (from : ℕ) (es : List Event) → end_beat doc ≤ 604800000 → AreLawfulFrom doc from es → AreStallsFit es
stalls-fit doc from [] most lawful = λ k d less. absurd (omega (arith, less))
stalls-fit doc from (e ∷ es) most lawful =
    All-cons (λ x. IfSome (stall_of x.what) (λ beats. x.beat.0 + beats < 2 ^ 32)) e es (stall-fits doc e.beat.0 e.what (omega (arith, lawful.1, most)) lawful.2) (stalls-fit doc e.beat.0 es most lawful.3)

-- ---- whether the end is passed

pub never : false ≡ true → ⊥
never is = cc

pub not-over : (end at : ℕ) (b : Bool) → (IsTrue b ↔ (end < at)) → b ≡ false → at ≤ end
not-over end at b tells answer = by_test (nat_lt end at) refl
  where
    by_test : (t : Bool) → nat_lt end at ≡ t → at ≤ end
    by_test false is = le-from end at is
    by_test true is = absurd (never (sym answer ∙ tells.1 (lt-from end at is)))

pub over : (end at : ℕ) (b : Bool) → (IsTrue b ↔ (end < at)) → b ≡ true → at ≤ end + 1 → at ≡ end + 1
over end at b tells answer within = omega (arith, tells.0 answer, within)

pub not-below : (a b : ℕ) → b ≤ a → nat_lt a b ≡ false
not-below a b most = grind (arith, nat_tests)
