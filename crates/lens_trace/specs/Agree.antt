-- The terms that are told are those by which `audit` judges a trace.
use Rattle.std.specs.Prelude.{◌≡◌, ℕ, ◌+◌, List, [], ◌∷◌, filter_map, None}
use Rattle.trace_audit.specs.Entries.{entries_of, first_wrong}
use Rattle.trace_lines.specs.Forms.{line_of}
use Rattle.trace_terms.specs.Terms as audit
use Rattle.lens_terms.specs.declared.term.Term.{Term}
use Rattle.lens_terms.specs.Terms.{until, terms}

-- the same line, actor and span, in a trace that ends before the beat `stop`
pub record IsSame (stop : ℕ) (t : Term (List ℕ)) (a : audit.Term) : Type 0 where
  pub line : t.line ≡ a.line
  pub actor : t.actor ≡ a.actor
  pub from : t.from ≡ a.from
  pub until_is : until stop t ≡ a.to

-- the same terms, one by one
abbrev pub AreSame : ℕ → List (Term (List ℕ)) → List audit.Term → Type 0
AreSame stop [] [] = Unit {0}
AreSame stop [] (a ∷ more) = ⊥
AreSame stop (t ∷ ts) [] = ⊥
AreSame stop (t ∷ ts) (a ∷ more) = IsSame stop t a × AreSame stop ts more

-- so it is for the lines behind the first of every trace without a wrong line
abbrev pub TermsAreAudited : Type 0
TermsAreAudited =
    (end : ℕ) (texts : List (List ℕ)) → first_wrong end 2 0 texts ≡ None
    → AreSame (end + 1) (terms 2 (filter_map line_of texts)) (audit.terms (end + 1) (entries_of 2 texts))
