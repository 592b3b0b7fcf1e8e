-- The terms of lines, one line more at their front.
use Rattle.std.proofs.Common.{◌≡◌, ℕ, ◌+◌, ◌-◌, ◌<◌, ◌≤◌, Bool, true, false, cond, List, [], ◌∷◌, ◌++◌, length, map, reverse, drop, get_or, suc, Bor, Some, None, Result, Ok, Err, IfOk, refl, sym, ap, subst, ◌∙◌, arith}
use Rattle.std.proofs.Math.Seq.{drop-cons}
use Rattle.std.proofs.lemmas.List.{map-append, reverse-append, reverse-reverse}
use Rattle.std.specs.Str.{bytes_eq}
use Rattle.trace_lines.specs.declared.line.Line.{Line}
use Rattle.lens_terms.specs.declared.closing.Ending.{Ending}
use Rattle.lens_terms.specs.declared.gathering.Gathering.{Gathering}
use Rattle.lens_terms.specs.declared.term.Term.{Term}
use Rattle.lens_terms.specs.declared.turn.Turn.{Turn}
use Rattle.lens_terms.specs.declared.turn.Turn.TheVariants.{Leads, Ends, Pauses, Keeps}
use Rattle.lens_terms.specs.Terms.{turn_of, closing_by, closing, term_of, begun_by, terms, shown}
use Rattle.lens_terms.specs.Gathered.{held, Stands}
use Rattle.trace_lines.specs.Reads.{seen}

same-both : {A : Type 0} (b : Bool) (x : A) → cond b x x ≡ x
same-both true x = refl
same-both false x = refl

-- a line that ends no term
pub closing-led : (who : List ℕ) (l : Line (List ℕ)) (ls : List (Line (List ℕ))) → turn_of l.says ≡ Leads → closing who (l ∷ ls) ≡ closing who ls
unfolding closing
closing-led who l ls is =
    ap (λ t. cond (bytes_eq l.actor who) (closing_by l.beat t (closing who ls)) (closing who ls)) is ∙ same-both (bytes_eq l.actor who) (closing who ls)

pub closing-kept : (who : List ℕ) (l : Line (List ℕ)) (ls : List (Line (List ℕ))) → turn_of l.says ≡ Keeps → closing who (l ∷ ls) ≡ closing who ls
unfolding closing
closing-kept who l ls is =
    ap (λ t. cond (bytes_eq l.actor who) (closing_by l.beat t (closing who ls)) (closing who ls)) is ∙ same-both (bytes_eq l.actor who) (closing who ls)

pub closing-paused : (who : List ℕ) (l : Line (List ℕ)) (ls : List (Line (List ℕ))) (beats : ℕ) → turn_of l.says ≡ Pauses beats → closing who (l ∷ ls) ≡ closing who ls
unfolding closing
closing-paused who l ls beats is =
    ap (λ t. cond (bytes_eq l.actor who) (closing_by l.beat t (closing who ls)) (closing who ls)) is ∙ same-both (bytes_eq l.actor who) (closing who ls)

-- one that does
pub closing-ended : (who : List ℕ) (l : Line (List ℕ)) (ls : List (Line (List ℕ))) (how : Ending) → turn_of l.says ≡ Ends how
    → closing who (l ∷ ls) ≡ cond (bytes_eq l.actor who) (Some (record { beat = l.beat; how = how })) (closing who ls)
unfolding closing
closing-ended who l ls how is = ap (λ t. cond (bytes_eq l.actor who) (closing_by l.beat t (closing who ls)) (closing who ls)) is

-- a line's term, if it begins one
pub terms-more : (number : ℕ) (l : Line (List ℕ)) (ls : List (Line (List ℕ))) (turn : Turn) → turn_of l.says ≡ turn
    → terms number (l ∷ ls) ≡ begun_by turn (term_of number l ls) (terms (number + 1) ls)
unfolding terms
terms-more number l ls turn is = ap (λ t. begun_by t (term_of number l ls) (terms (number + 1) ls)) is

-- ---- what is known behind one line more

pub stands-kept : (number : ℕ) (l : Line (List ℕ)) (ls : List (Line (List ℕ))) (g : Gathering) → turn_of l.says ≡ Keeps → Stands (number + 1) ls g → Stands number (l ∷ ls) g
stands-kept number l ls g is h = record {
  closings = λ who. h.closings who ∙ sym (closing-kept who.now l ls is);
  terms_are = h.terms_are ∙ ap (λ ts. reverse ts) (sym (terms-more number l ls Keeps is));
}

pub stands-paused : (number : ℕ) (l : Line (List ℕ)) (ls : List (Line (List ℕ))) (beats : ℕ) (g : Gathering) → turn_of l.says ≡ Pauses beats
    → Stands (number + 1) ls g → Stands number (l ∷ ls) g
stands-paused number l ls beats g is h = record {
  closings = λ who. h.closings who ∙ sym (closing-paused who.now l ls beats is);
  terms_are = h.terms_are ∙ ap (λ ts. reverse ts) (sym (terms-more number l ls (Pauses beats) is));
}

pub stands-ended : (number : ℕ) (l : Line (List ℕ)) (ls : List (Line (List ℕ))) (how : Ending) (old new : Gathering) → turn_of l.says ≡ Ends how
    → Stands (number + 1) ls old → new.terms ≡ old.terms
    → ((other : Bor (List ℕ)) → held new.closings other ≡ cond (bytes_eq l.actor other.now) (Some (record { beat = l.beat; how = how })) (held old.closings other))
    → Stands number (l ∷ ls) new
stands-ended number l ls how old new is h same put = record {
  closings = λ who. put who
      ∙ ap (λ c. cond (bytes_eq l.actor who.now) (Some (record { beat = l.beat; how = how })) c) (h.closings who)
      ∙ sym (closing-ended who.now l ls how is);
  terms_are = ap (λ ts. map shown ts.items) same ∙ h.terms_are ∙ ap (λ ts. reverse ts) (sym (terms-more number l ls (Ends how) is));
}

pub stands-led : (number : ℕ) (l : Line (List ℕ)) (ls : List (Line (List ℕ))) (t : Term (Bor (List ℕ))) (old new : Gathering) → turn_of l.says ≡ Leads
    → Stands (number + 1) ls old → new.closings ≡ old.closings → new.terms.items ≡ old.terms.items ++ t ∷ [] → shown t ≡ term_of number l ls
    → Stands number (l ∷ ls) new
stands-led number l ls t old new is h same more begun = record {
  closings = λ who. ap (λ c. held c who) same ∙ h.closings who ∙ sym (closing-led who.now l ls is);
  terms_are = ap (map shown) more
      ∙ map-append shown old.terms.items (t ∷ [])
      ∙ ap (λ ts. ts ++ shown t ∷ []) h.terms_are
      ∙ ap (λ x. reverse (terms (number + 1) ls) ++ x ∷ []) begun
      ∙ sym (reverse-append (term_of number l ls ∷ []) (terms (number + 1) ls))
      ∙ ap (λ ts. reverse ts) (sym (terms-more number l ls Leads is));
}

-- the lines from the one before a place on
pub line-before : (lines : List (Line (Bor (List ℕ)))) (at : ℕ) (line d : Line (Bor (List ℕ))) → at ≤ length lines → 0 < at → line ≡ get_or lines (at - 1) d
    → drop (at - 1) lines ≡ line ∷ drop at lines
line-before lines at line d within more is =
    let next : suc (at - 1) ≡ at = omega (arith, more) in
    drop-cons lines (at - 1) d (omega (arith, within, more)) ∙ ap (λ x. x ∷ drop (suc (at - 1)) lines) (sym is) ∙ ap (λ n. line ∷ drop n lines) next

-- what is known behind a place is known behind the place before, once its line was taken
pub stands-before : (lines : List (Line (Bor (List ℕ)))) (at number : ℕ) (g : Gathering) (line d : Line (Bor (List ℕ))) → at ≤ length lines → 0 < at
    → Stands number (seen line ∷ map seen (drop at lines)) g → line ≡ get_or lines (at - 1) d → Stands number (map seen (drop (at - 1) lines)) g
stands-before lines at number g line d within more taken is = subst (λ ls. Stands number ls g) (sym (ap (map seen) (line-before lines at line d within more is))) taken

map-reversed : (ts : List (Term (Bor (List ℕ)))) → map shown (reverse ts) ≡ reverse (map shown ts)
map-reversed [] = refl
map-reversed (t ∷ ts) =
    ap (map shown) (reverse-append (t ∷ []) ts)
    ∙ map-append shown (reverse ts) (t ∷ [])
    ∙ ap (λ x. x ++ shown t ∷ []) (map-reversed ts)
    ∙ sym (reverse-append (shown t ∷ []) (map shown ts))

-- what is known of all lines tells their terms
pub all-terms : (lines : List (Line (Bor (List ℕ)))) (at : ℕ) (g : Gathering) (turned : List (Term (Bor (List ℕ)))) → at ≡ 0 → Stands (at + 2) (map seen (drop at lines)) g
    → turned ≡ reverse g.terms.items → map shown turned ≡ terms 2 (map seen lines)
all-terms lines at g turned none h is =
    let all : Stands 2 (map seen lines) g = subst (λ n. Stands (n + 2) (map seen (drop n lines)) g) none h in
    ap (map shown) is ∙ map-reversed g.terms.items ∙ ap (λ ts. reverse ts) all.terms_are ∙ reverse-reverse (terms 2 (map seen lines))

pub where-ok : {T E : Type 0} (r : Result T E) (P Q : T → Type 0) → ((x : T) → P x → Q x) → IfOk r P → IfOk r Q
where-ok (Ok x) P Q f h = f x h
where-ok (Err e) P Q f h = tt

-- no lines
pub stands-none : (number : ℕ) (g : Gathering) → ((who : Bor (List ℕ)) → held g.closings who ≡ None) → g.terms.items ≡ [] → Stands number [] g
unfolding closing terms
stands-none number g none empty = record {
  closings = none;
  terms_are = ap (map shown) empty;
}
