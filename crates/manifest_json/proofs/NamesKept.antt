-- Names that are numbered: a name that is held keeps its number.
use Rattle.std.proofs.Common.{◌≡◌, ℕ, zero, suc, Bool, true, false, cond, List, [], ◌∷◌, ◌++◌, sym, subst}
use Rattle.std.specs.List.{list_any}
use Rattle.std.specs.Str.{bytes_eq}
use Rattle.kube_base.specs.Names.{with_name}
use Rattle.manifest_json.specs.Fields.{Texts, AreKept}

kept_front : (names more : Texts) → AreKept names (names ++ more)
kept_front [] more number text held = absurd (let none : ⊥ = cc in none)
kept_front (name ∷ names) more zero text held = held
kept_front (name ∷ names) more (suc number) text held = kept_front names more number text held

kept_with : (names : Texts) (text : List ℕ) → AreKept names (with_name names text)
unfolding with_name
kept_with names text = by (list_any (bytes_eq text) names)
  where
    by : (b : Bool) → AreKept names (cond b names (names ++ text ∷ []))
    by true = λ number found held. held
    by false = kept_front names (text ∷ [])

pub numbered-kept : (names new : Texts) (text : List ℕ) → new ≡ with_name names text → AreKept names new
numbered-kept names new text is = subst (AreKept names) (sym is) (kept_with names text)

pub same-kept : (names new : Texts) → new ≡ names → AreKept names new
same-kept names new is = subst (AreKept names) (sym is) (λ number found held. held)
