-- What is kept of each node where some are forgotten, or heard of.
use Rattle.std.proofs.Common.{◌≡◌, ◌∙◌, ◌==◌, ◌||◌, ◌&&◌, not, ℕ, Bool, true, false, cond, List, [], ◌∷◌, Option, None, Some, option_map, filter, refl, sym, ap, arith}
use Rattle.std.proofs.lemmas.Bool.Decides.{nat_tests}
use Rattle.node_health.specs.declared.known.Known.{Known}
use Rattle.node_health.specs.Kept.{at_reading, is_listed}

-- ---- the listed ones are kept

-- what is left of a node where these are forgotten unless they are listed
abbrev pub forgotten : List ℕ → List ℕ → ℕ → Option Known → Option Known
forgotten names listed node known = cond (is_listed names node && not (is_listed listed node)) None known

over-forgotten : (one more listed : Bool) (x : Option Known) → cond (more && not listed) None (cond (one && not listed) None x) ≡ cond ((one || more) && not listed) None x
over-forgotten true true true x = refl
over-forgotten true true false x = refl
over-forgotten true false true x = refl
over-forgotten true false false x = refl
over-forgotten false true true x = refl
over-forgotten false true false x = refl
over-forgotten false false true x = refl
over-forgotten false false false x = refl

pub next-forgotten : (listed rest others : List ℕ) (name node : ℕ) (end before after : Option Known) → rest ≡ name ∷ others → forgotten rest listed node before ≡ end
    → after ≡ cond ((name == node) && not (is_listed listed node)) None before → forgotten others listed node after ≡ end
next-forgotten listed rest others name node end before after split is step =
    ap (forgotten others listed node) step
    ∙ over-forgotten (name == node) (is_listed others node) (is_listed listed node) before
    ∙ sym (ap (λ l. forgotten l listed node before) split)
    ∙ is

pub all-forgotten : (listed rest : List ℕ) (node : ℕ) (end now : Option Known) → rest ≡ [] → forgotten rest listed node now ≡ end → now ≡ end
all-forgotten listed rest node end now empty is = ap (λ l. forgotten l listed node now) (sym empty) ∙ is

-- of no other node anything was kept
pub only-listed : (names listed : List ℕ) (node : ℕ) (old new : Option Known) → new ≡ forgotten names listed node old → (is_listed names node ≡ false → old ≡ None)
    → new ≡ cond (is_listed listed node) old None
only-listed names listed node old new is named = is ∙ by_tests (is_listed names node) (is_listed listed node) named
  where
    by_tests : (n l : Bool) → (n ≡ false → old ≡ None) → cond (n && not l) None old ≡ cond l old None
    by_tests true true none = refl
    by_tests true false none = refl
    by_tests false true none = refl
    by_tests false false none = none refl

pub just-listed : (names listed : List ℕ) (node : ℕ) (old : Option Known) → names ≡ listed → (is_listed names node ≡ false → old ≡ None)
    → old ≡ cond (is_listed listed node) old None
just-listed names listed node old same named = by_test (is_listed listed node) (λ is. named (ap (λ l. is_listed l node) same ∙ is))
  where
    by_test : (l : Bool) → (l ≡ false → old ≡ None) → old ≡ cond l old None
    by_test true none = refl
    by_test false none = none refl

pub filter-listed : (keeps : ℕ → Bool) (names : List ℕ) (node : ℕ) → keeps node ≡ true → is_listed (filter keeps names) node ≡ is_listed names node
filter-listed keeps [] node is = refl
filter-listed keeps (name ∷ names) node is = by_test (keeps name) refl (filter-listed keeps names node is)
  where
    other : (b : Bool) → (name == node) ≡ b → keeps name ≡ false → b ≡ false
    other true same kept = let is_node : name ≡ node = grind (arith, nat_tests, same) in sym is ∙ ap keeps (sym is_node) ∙ kept
    other false same kept = refl

    by_test : (b : Bool) → keeps name ≡ b → is_listed (filter keeps names) node ≡ is_listed names node
        → is_listed (cond b (name ∷ filter keeps names) (filter keeps names)) node ≡ is_listed (name ∷ names) node
    by_test true kept rest = ap (λ b. (name == node) || b) rest
    by_test false kept rest = rest ∙ ap (λ b. b || is_listed names node) (sym (other (name == node) refl kept))

-- and the listed names that stay are those of all that is kept
pub still-named : (names listed anew : List ℕ) (node : ℕ) (old new : Option Known) → new ≡ cond (is_listed listed node) old None → (is_listed names node ≡ false → old ≡ None)
    → (is_listed listed node ≡ true → is_listed names node ≡ true → is_listed anew node ≡ true) → is_listed anew node ≡ false → new ≡ None
still-named names listed anew node old new is named stays absent = is ∙ by_tests (is_listed listed node) (is_listed names node) named stays
  where
    by_tests : (l n : Bool) → (n ≡ false → old ≡ None) → (l ≡ true → n ≡ true → is_listed anew node ≡ true) → cond l old None ≡ None
    by_tests true true none kept = absurd (let there = kept refl refl in cc)
    by_tests true false none kept = none refl
    by_tests false n none kept = refl

-- ---- all are heard of

-- what is kept of a node where these are heard of at a reading
abbrev pub heard : List ℕ → ℕ → ℕ → Option Known → Option Known
heard names now node known = cond (is_listed names node) (option_map (at_reading now) known) known

over-heard : (one more : Bool) (now : ℕ) (x : Option Known) → let y = cond one (option_map (at_reading now) x) x in
    cond more (option_map (at_reading now) y) y ≡ cond (one || more) (option_map (at_reading now) x) x
over-heard true true now None = refl
over-heard true true now (Some known) = refl
over-heard true false now x = refl
over-heard false true now x = refl
over-heard false false now x = refl

pub next-heard : (rest others : List ℕ) (name now node : ℕ) (end before after : Option Known) → rest ≡ name ∷ others → heard rest now node before ≡ end
    → after ≡ cond (name == node) (option_map (at_reading now) before) before → heard others now node after ≡ end
next-heard rest others name now node end before after split is step =
    ap (heard others now node) step ∙ over-heard (name == node) (is_listed others node) now before ∙ sym (ap (λ l. heard l now node before) split) ∙ is

pub all-heard : (rest : List ℕ) (now node : ℕ) (end known : Option Known) → rest ≡ [] → heard rest now node known ≡ end → known ≡ end
all-heard rest now node end known empty is = ap (λ l. heard l now node known) (sym empty) ∙ is

pub each-heard : (names : List ℕ) (now node : ℕ) (old new : Option Known) → new ≡ heard names now node old → (is_listed names node ≡ false → old ≡ None)
    → new ≡ option_map (at_reading now) old
each-heard names now node old new is named = is ∙ by_test (is_listed names node) named
  where
    by_test : (n : Bool) → (n ≡ false → old ≡ None) → cond n (option_map (at_reading now) old) old ≡ option_map (at_reading now) old
    by_test true none = refl
    by_test false none = none refl ∙ ap (option_map (at_reading now)) (sym (none refl))

pub heard-named : (names : List ℕ) (now node : ℕ) (old new : Option Known) → new ≡ heard names now node old → (is_listed names node ≡ false → old ≡ None)
    → is_listed names node ≡ false → new ≡ None
heard-named names now node old new is named absent = is ∙ ap (λ b. cond b (option_map (at_reading now) old) old) absent ∙ named absent

-- of what isn't kept nothing is kept afterwards, whichever are heard of
pub these-named : (listed : List ℕ) (now node : ℕ) (old new : Option Known) → new ≡ heard listed now node old → old ≡ None → new ≡ None
these-named listed now node old new is none = is ∙ ap (heard listed now node) none ∙ by_test (is_listed listed node)
  where
    by_test : (b : Bool) → cond b (option_map (at_reading now) None) None ≡ None
    by_test true = refl
    by_test false = refl
