-- Cut at its line feeds, the text is the objects.
use Rattle.std.proofs.Common.{◌≡◌, ℕ, ◌==◌, not, Bool, true, false, List, [], ◌∷◌, ◌++◌, codes, map, refl, ap, ◌∙◌, append_assoc}
use Rattle.std.specs.List.{flat_map}
use Rattle.std.proofs.lemmas.Bool.{and_parts}
use Rattle.std.proofs.lemmas.List.Concat.{flat_map-cons}
use Rattle.trace_audit.specs.Entries.{lines_of}
use Rattle.trace_audit.proofs.LineLaws.{lines-append, one-more}
use Rattle.trace_lines.specs.declared.header.Header.{Header}
use Rattle.trace_lines.specs.declared.line.Answer.{Answer}
use Rattle.trace_lines.specs.declared.line.Line.{Line}
use Rattle.trace_lines.specs.declared.line.Says.{Says}
use Rattle.trace_lines.specs.declared.line.Says.TheVariants as says
use Rattle.lens_json.specs.Clean.{is_clean, is_no_feed, AreClean}
use Rattle.lens_json.proofs.CleanLaws.{quoted-clean, decimal-clean, object-clean}
use Rattle.lens_trace.specs.Lines.{header_json, line_json, ended, told}
use Rattle.lens_trace.specs.LineMembers.{header_members, line_members, answer_members, election_members, said_members, kind_word, premise_word, truth_word, mode_word}
use Rattle.lens_trace.proofs.OrderLaws.{each-answer}

-- ---- no object has a line feed

answer-clean : (a : Answer) → AreClean (answer_members a)
answer-clean a =
    each-answer (λ a. AreClean (answer_members a)) (λ v. (decimal-clean v, tt)) (λ v. (quoted-clean (codes "conflict"), (decimal-clean v, tt)))
    (quoted-clean (codes "absent"), tt) (quoted-clean (codes "exists"), tt) a

election-clean : (a : Answer) (transitions : ℕ) → AreClean (election_members a transitions)
election-clean a transitions =
    each-answer (λ a. AreClean (election_members a transitions)) (λ v. (decimal-clean v, (decimal-clean transitions, tt))) (λ v. (quoted-clean (codes "conflict"), (decimal-clean v, tt)))
    (quoted-clean (codes "absent"), tt) (quoted-clean (codes "exists"), tt) a

said-clean : (s : Says (List ℕ)) → AreClean (said_members s)
said-clean says.Start = tt
said-clean says.Crash = tt
said-clean says.Stop = tt
said-clean says.End = tt
said-clean (says.Pause beats) = (decimal-clean beats, tt)
said-clean (says.Stall beats) = (decimal-clean beats, tt)
said-clean (says.Lead version) = (decimal-clean version, tt)
said-clean (says.Election verb answer transitions) = (quoted-clean (codes "election"), election-clean answer transitions)
said-clean (says.NodeLease verb node answer) = (quoted-clean (codes "nodelease"), (quoted-clean node, answer-clean answer))
said-clean (says.Status node ready answer) = (quoted-clean node, (quoted-clean (truth_word ready), answer-clean answer))
said-clean (says.Put key version) = (quoted-clean key, (decimal-clean version, tt))
said-clean (says.Remove key version) = (quoted-clean key, (decimal-clean version, tt))
said-clean (says.Unknown node reason answer) = (quoted-clean node, (quoted-clean reason, answer-clean answer))
said-clean (says.Mode on) = (quoted-clean (mode_word on), tt)
said-clean (says.Zone zone state rate) = (quoted-clean zone, (quoted-clean state, (decimal-clean rate, tt)))
said-clean (says.Taint node taint answer) = (quoted-clean node, (quoted-clean taint, answer-clean answer))
said-clean (says.Swap node taint answer) = (quoted-clean node, (quoted-clean taint, answer-clean answer))
said-clean (says.Untaint node answer) = (quoted-clean node, answer-clean answer)
said-clean (says.Evict pod due answer) = (quoted-clean pod, (quoted-clean due, answer-clean answer))

line-clean : (l : Line (List ℕ)) → is_clean (line_json l) ≡ true
unfolding line_json
line-clean l =
    object-clean (line_members l) (decimal-clean l.beat, (quoted-clean l.actor, (quoted-clean (kind_word l.says), said-clean l.says)))

header-clean : (header : Header) → is_clean (header_json header) ≡ true
unfolding header_json
header-clean header =
    object-clean (header_members header)
    (quoted-clean (codes "trace"), (decimal-clean 1, (decimal-clean header.beat_millis, (decimal-clean header.end, (quoted-clean (premise_word header.premise), tt)))))

-- ---- lines

no-feed : (byte : ℕ) (b : Bool) → byte == 10 ≡ b → not b ≡ true → byte == 10 ≡ false
no-feed byte false is h = is
no-feed byte true is h = absurd (let no : false ≡ true = h in cc)

one-line : (text : List ℕ) → is_clean text ≡ true → lines_of text ≡ text ∷ []
one-line [] clean = refl
one-line (byte ∷ text) clean =
    let parts = and_parts (is_no_feed byte) (is_clean text) clean in
    one-more byte text (no-feed byte (byte == 10) refl parts.0) (one-line text parts.1)

-- a line of a text and those behind it
more-lines : (line rest : List ℕ) → is_clean line ≡ true → lines_of (ended line ++ rest) ≡ line ∷ lines_of rest
more-lines line rest clean =
    ap lines_of (append_assoc line (codes "\n") rest) ∙ lines-append line rest ∙ ap (λ ls. ls ++ lines_of rest) (one-line line clean)

each-line : (ls : List (Line (List ℕ))) → lines_of (flat_map (λ l. ended (line_json l)) ls) ≡ map line_json ls ++ [] ∷ []
each-line [] = refl
each-line (l ∷ ls) =
    ap lines_of (flat_map-cons (λ l. ended (line_json l)) l ls)
    ∙ more-lines (line_json l) (flat_map (λ l. ended (line_json l)) ls) (line-clean l)
    ∙ ap (λ rest. line_json l ∷ rest) (each-line ls)

pub one-object-a-line : (header : Header) (ls : List (Line (List ℕ))) → lines_of (told header ls) ≡ header_json header ∷ map line_json ls ++ [] ∷ []
unfolding told
one-object-a-line header ls =
    more-lines (header_json header) (flat_map (λ l. ended (line_json l)) ls) (header-clean header) ∙ ap (λ rest. header_json header ∷ rest) (each-line ls)
