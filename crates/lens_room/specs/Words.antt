-- Words behind a command, each `--flag=value`, or a flag and then its value; the last of a flag counts. `--json` stands wherever a flag may.
use Rattle.std.specs.Prelude.{ℕ, ◌+◌, List, [], ◌∷◌, ◌++◌, codes, slice_get, Option, Some, None, unwrap_or, Result, Ok, Err, if◌then◌else◌}
use Rattle.std.specs.Str.{bytes_eq}
use Rattle.kube_base.specs.declared.memory.NoMemory.{NoMemory}
use Rattle.run_edge.specs.Outcome.{Outcome, Reply, Unread, reply_of}
use Rattle.run_edge.specs.declared.answer.Answer.{Answer}
use Rattle.run_edge.specs.declared.status.Verdict.TheVariants.{Usage}
use Rattle.trace_lines.specs.Grammar.{cut}
use Rattle.lens_room.specs.declared.by_flags.misread.Misread.{Misread}
use Rattle.lens_room.specs.declared.by_flags.misread.Misread.TheVariants.{Unknown, Alone, Value}
use Rattle.lens_room.specs.declared.by_flags.words.Given.{Given}

-- a command's flags by their names, its settings with what a text says of one of them, where it says it, and its settings told as JSON
pub record Command (S F : Type 0) : Type 0 where
  pub by_name : List ℕ → Option F
  pub with_text : S → F → List ℕ → Option S
  pub in_json : S → S

-- ---- settings that words give

-- a value of a flag, by what it comes to
abbrev pub taken : {S F : Type 0} → ℕ → F → Option S → Result (Given S F) (Misread F)
taken place flag None = Err (Value flag place)
taken place flag (Some settings) = Ok (record { settings = settings; waiting = None })

abbrev pub valued : {S F : Type 0} → Command S F → ℕ → S → F → List ℕ → Result (Given S F) (Misread F)
valued c place settings flag text = taken place flag (c.with_text settings flag text)

abbrev pub named : {F : Type 0} → ℕ → Option F → Result F (Misread F)
named place None = Err (Unknown place)
named place (Some flag) = Ok flag

-- a flag whose value is the next word
abbrev pub opened : {S F : Type 0} → S → Result F (Misread F) → Result (Given S F) (Misread F)
opened settings (Err misread) = Err misread
opened settings (Ok flag) = Ok (record { settings = settings; waiting = Some flag })

abbrev pub joined : {S F : Type 0} → Command S F → ℕ → S → Result F (Misread F) → List ℕ → Result (Given S F) (Misread F)
joined c place settings (Err misread) text = Err misread
joined c place settings (Ok flag) text = valued c place settings flag text

abbrev pub by_parts : {S F : Type 0} → Command S F → ℕ → S → List ℕ → Option (List ℕ × List ℕ) → Result (Given S F) (Misread F)
by_parts c place settings word None = opened settings (named place (c.by_name word))
by_parts c place settings word (Some parts) = joined c place settings (named place (c.by_name parts.0)) parts.1

abbrev pub begun : {S F : Type 0} → Command S F → ℕ → S → List ℕ → Result (Given S F) (Misread F)
begun c place settings word =
    if bytes_eq word (codes "--json") then Ok (record { settings = c.in_json settings; waiting = None })
    else by_parts c place settings word (cut 61 word)

abbrev pub by_waiting : {S F : Type 0} → Command S F → ℕ → S → Option F → List ℕ → Result (Given S F) (Misread F)
by_waiting c place settings None word = begun c place settings word
by_waiting c place settings (Some flag) word = valued c place settings flag word

-- with one more word, which stands at a place
unfoldable pub with_word : {S F : Type 0} → Command S F → ℕ → Given S F → List ℕ → Result (Given S F) (Misread F)
with_word c place given word = by_waiting c place given.settings given.waiting word

-- with the words from a place on
abbrev pub given_from : {S F : Type 0} → Command S F → ℕ → Result (Given S F) (Misread F) → List (List ℕ) → Result (Given S F) (Misread F)
given_from c place (Err misread) words = Err misread
given_from c place (Ok given) [] = Ok given
given_from c place (Ok given) (word ∷ words) = given_from c (place + 1) (with_word c place given word) words

abbrev pub closed : {S F : Type 0} → S → Option F → Result S (Misread F)
closed settings None = Ok settings
closed settings (Some flag) = Err (Alone flag)

abbrev pub settled : {S F : Type 0} → Result (Given S F) (Misread F) → Result S (Misread F)
settled (Err misread) = Err misread
settled (Ok given) = closed given.settings given.waiting

-- the settings that words give, beginning with some, or which word can't be read
unfoldable pub read_from : {S F : Type 0} → Command S F → S → List (List ℕ) → Result S (Misread F)
read_from c start words = settled (given_from c 0 (Ok (record { settings = start; waiting = None })) words)

-- ---- words that can't be read

abbrev pub word_at : List (List ℕ) → ℕ → List ℕ
word_at words place = unwrap_or (slice_get words place) []

unfoldable pub unknown_text : List ℕ → List ℕ
unknown_text word = codes "no such flag: " ++ word

-- by the names of flags, and what they take
abbrev pub misread_text : {F : Type 0} → (F → List ℕ) → (F → List ℕ) → List (List ℕ) → Misread F → List ℕ
misread_text name takes words (Unknown place) = unknown_text (word_at words place)
misread_text name takes words (Alone flag) = name flag ++ codes " stands without a value"
misread_text name takes words (Value flag place) = name flag ++ takes flag ++ word_at words place

-- the line on the usage, and what is wrong with the words
abbrev pub misused : List ℕ → List ℕ → Reply
misused usage wrong = record { verdict = Usage; text = usage ++ wrong ++ codes "\n" }

-- ---- answers to words

-- an answer is told, if there is one, and the source isn't read
abbrev pub Told : Result Answer NoMemory → List ℕ → Outcome → Type 0
Told (Ok answer) left o = Unread (reply_of answer) left o
Told (Err e) left o = ⊥
