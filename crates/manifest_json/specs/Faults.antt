-- What a reader returned is what the walk gives, unless memory ran out.
use Rattle.std.specs.Prelude.{◌≡◌, ℕ, List, Result, Ok, Err}
use Rattle.manifest_json.specs.declared.fault.Refusal.{Refusal}
use Rattle.manifest_json.specs.declared.fault.ReadFault.{ReadFault}
use Rattle.manifest_json.specs.declared.fault.ReadFault.TheVariants.{Refused, NoMemory}

infixl 10 ◌>>=◌
abbrev pub ◌>>=◌ : {A B : Type 0} → Result A Refusal → (A → Result B Refusal) → Result B Refusal
(Ok x) >>= f = f x
(Err e) >>= f = Err e

abbrev pub refuse : {A : Type 0} → ℕ → List ℕ → Result A Refusal
refuse code path = Err (record { code = code; path = path })

abbrev pub IsFault : ℕ → List ℕ → ReadFault → Type 0
IsFault code path (Refused r) = r ≡ record { code = code; path = path }
IsFault code path NoMemory = Unit {0}

abbrev pub Fails : {Y : Type 0} → ReadFault → Result Y Refusal → Type 0
Fails (Refused r) walk = walk ≡ Err r
Fails NoMemory walk = Unit {0}

-- the walk's value, or its first refusal, or want of memory
abbrev pub Gives : {X Y : Type 0} → (X → Y) → Result X ReadFault → Result Y Refusal → Type 0
Gives seen (Ok x) walk = walk ≡ Ok (seen x)
Gives seen (Err e) walk = Fails e walk
