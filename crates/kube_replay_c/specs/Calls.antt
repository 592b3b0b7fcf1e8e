-- What a call leaves in its caller's memory.
use Rattle.std.specs.Prelude.{◌≡◌, ◌⊎◌, ◌==◌, ℕ, ◌++◌, min, List, length, take, drop}
use Rattle.std.specs.List.{slice_split}
use Rattle.run_edge.specs.Exits.{verdict_status}
use Rattle.run_edge.specs.Outcome.{Outcome}

-- the words between the spaces, each of which is the byte 32
abbrev pub words_in : List ℕ → List (List ℕ)
words_in text = slice_split (λ byte. byte == 32) text

-- as many bytes of this text were put into the buffer as have room, the first ones, in front of what was there; the whole text has so many
pub record Holds (text before after : List ℕ) (put whole : ℕ) : Type 0 where
  pub room : put ≡ min (length before) (length text)
  pub filled : after ≡ take put text ++ drop put before
  pub all : whole ≡ length text

-- the run ended as it should: the status is its own, and the text all that it writes
pub record EndsWhole (o : Outcome) (before after : List ℕ) (put whole status : ℕ) : Type 0 where
  pub own : status ≡ verdict_status o.reply.verdict
  pub holds : Holds o.reply.text before after put whole

-- memory ran out: the text is a prefix of what it would have written
pub record EndsCut (o : Outcome) (before after : List ℕ) (put whole status : ℕ) : Type 0 where
  pub no_memory : status ≡ 5
  pub said : List ℕ
  pub rest : List ℕ
  pub is : said ++ rest ≡ o.reply.text
  pub holds : Holds said before after put whole

abbrev pub EndsIn : Outcome → List ℕ → List ℕ → ℕ → ℕ → ℕ → Type 0
EndsIn o before after put whole status = EndsWhole o before after put whole status ⊎ EndsCut o before after put whole status
