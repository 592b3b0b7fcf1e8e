-- The terms that are told are those by which `audit` judges a trace.
use Rattle.std.proofs.Common.{◌≡◌, ℕ, ◌+◌, ◌&&◌, Bool, true, false, cond, List, [], ◌∷◌, filter_map, Option, None, refl, sym, ap, subst, ◌∙◌}
use Rattle.std.specs.Str.{bytes_eq}
use Rattle.trace_lines.specs.declared.line.Line.{Line}
use Rattle.trace_lines.specs.declared.line.Says.{Says}
use Rattle.trace_lines.specs.declared.line.Says.TheVariants as says
use Rattle.trace_lines.specs.Forms.{line_of}
use Rattle.trace_terms.specs.Terms as audit
use Rattle.trace_audit.specs.Entries.{role_of, entry_of, entries_of, first_wrong}
use Rattle.lens_terms.specs.declared.closing.Closing.{Closing}
use Rattle.lens_terms.specs.declared.term.Term.{Term}
use Rattle.lens_terms.specs.declared.turn.Turn.{Turn}
use Rattle.lens_terms.specs.declared.turn.Turn.TheVariants.{Leads, Ends, Pauses, Keeps}
use Rattle.lens_terms.specs.Terms.{turn_of, closing_by, closing, term_of, begun_by, terms, until_by}
use Rattle.lens_trace.specs.Agree.{IsSame, AreSame}
use Rattle.lens_trace.proofs.AuditTerms.{numbered, entries-numbered, audit-more, audit-none, ended-more, ended-none}

abbrev begins : Turn → Bool
begins Leads = true
begins (Ends how) = false
begins (Pauses beats) = false
begins Keeps = false

abbrev ends : Turn → Bool
ends Leads = false
ends (Ends how) = true
ends (Pauses beats) = false
ends Keeps = false

-- both know the same lines that begin and end terms
same-turn : (s : Says (List ℕ)) → (audit.is_lead (role_of s) ≡ begins (turn_of s)) × (audit.is_end (role_of s) ≡ ends (turn_of s))
same-turn (says.Lead version) = (refl, refl)
same-turn says.End = (refl, refl)
same-turn says.Stop = (refl, refl)
same-turn says.Crash = (refl, refl)
same-turn says.Start = (refl, refl)
same-turn (says.Pause beats) = (refl, refl)
same-turn (says.Stall beats) = (refl, refl)
same-turn (says.Election verb answer transitions) = (refl, refl)
same-turn (says.NodeLease verb node answer) = (refl, refl)
same-turn (says.Status node ready answer) = (refl, refl)
same-turn (says.Put key version) = (refl, refl)
same-turn (says.Remove key version) = (refl, refl)
same-turn (says.Unknown node reason answer) = (refl, refl)
same-turn (says.Mode on) = (refl, refl)
same-turn (says.Zone zone state rate) = (refl, refl)
same-turn (says.Taint node taint answer) = (refl, refl)
same-turn (says.Swap node taint answer) = (refl, refl)
same-turn (says.Untaint node answer) = (refl, refl)
same-turn (says.Evict pod due answer) = (refl, refl)

until-more : (stop beat later : ℕ) (c : Option Closing) (b : Bool) (t : Turn) (e : Bool) → until_by stop c ≡ later → e ≡ ends t
    → until_by stop (cond b (closing_by beat t c) c) ≡ cond (b && e) beat later
until-more stop beat later c true (Ends how) e h is = sym (ap (λ x. cond x beat later) is)
until-more stop beat later c true Leads e h is = h ∙ sym (ap (λ x. cond x beat later) is)
until-more stop beat later c true (Pauses beats) e h is = h ∙ sym (ap (λ x. cond x beat later) is)
until-more stop beat later c true Keeps e h is = h ∙ sym (ap (λ x. cond x beat later) is)
until-more stop beat later c false t e h is = h

until-same : (stop number : ℕ) (who : List ℕ) (ls : List (Line (List ℕ))) → until_by stop (closing who ls) ≡ audit.ended stop who (numbered number ls)
unfolding closing
until-same stop number who [] = sym (ended-none stop who)
until-same stop number who (l ∷ ls) =
    until-more stop l.beat (audit.ended stop who (numbered (number + 1) ls)) (closing who ls) (bytes_eq l.actor who) (turn_of l.says) (audit.is_end (role_of l.says))
    (until-same stop (number + 1) who ls) (same-turn l.says).1
    ∙ sym (ended-more stop who (entry_of number l) (numbered (number + 1) ls))

same-more : (stop : ℕ) (t : Term (List ℕ)) (ts : List (Term (List ℕ))) (a : audit.Term) (judged : List audit.Term) (turn : Turn) (b : Bool) → b ≡ begins turn → IsSame stop t a → AreSame stop ts judged
    → AreSame stop (begun_by turn t ts) (cond b (a ∷ judged) judged)
same-more stop t ts a judged Leads b is one more = subst (λ b. AreSame stop (t ∷ ts) (cond b (a ∷ judged) judged)) (sym is) (one, more)
same-more stop t ts a judged (Ends how) b is one more = subst (λ b. AreSame stop ts (cond b (a ∷ judged) judged)) (sym is) more
same-more stop t ts a judged (Pauses beats) b is one more = subst (λ b. AreSame stop ts (cond b (a ∷ judged) judged)) (sym is) more
same-more stop t ts a judged Keeps b is one more = subst (λ b. AreSame stop ts (cond b (a ∷ judged) judged)) (sym is) more

terms-same : (stop number : ℕ) (ls : List (Line (List ℕ))) → AreSame stop (terms number ls) (audit.terms stop (numbered number ls))
unfolding terms
terms-same stop number [] = subst (λ judged. AreSame stop [] judged) (sym (audit-none stop)) tt
terms-same stop number (l ∷ ls) =
    subst (λ judged. AreSame stop (begun_by (turn_of l.says) (term_of number l ls) (terms (number + 1) ls)) judged) (sym (audit-more stop (entry_of number l) (numbered (number + 1) ls)))
    (same-more stop (term_of number l ls) (terms (number + 1) ls) (audit.term_of stop (entry_of number l) (numbered (number + 1) ls)) (audit.terms stop (numbered (number + 1) ls))
    (turn_of l.says) (audit.is_lead (role_of l.says)) (same-turn l.says).0
    (record { line = refl; actor = refl; from = refl; until_is = until-same stop (number + 1) l.actor ls })
    (terms-same stop (number + 1) ls))

-- of a trace without a wrong line
pub terms-agree : (end : ℕ) (texts : List (List ℕ)) → first_wrong end 2 0 texts ≡ None
    → AreSame (end + 1) (terms 2 (filter_map line_of texts)) (audit.terms (end + 1) (entries_of 2 texts))
terms-agree end texts right =
    subst (λ es. AreSame (end + 1) (terms 2 (filter_map line_of texts)) (audit.terms (end + 1) es)) (sym (entries-numbered end 2 0 texts right))
    (terms-same (end + 1) 2 (filter_map line_of texts))
