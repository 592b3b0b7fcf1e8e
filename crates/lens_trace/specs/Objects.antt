-- Answers that are one object.
use Rattle.std.specs.Prelude.{ℕ, ◌++◌, List, codes}
use Rattle.serde_json.specs.Written.{compact_text}
use Rattle.run_edge.specs.Outcome.{Reply}
use Rattle.run_edge.specs.declared.status.Verdict.{Verdict}
use Rattle.lens_json.specs.Members.{Named, object_of}

unfoldable pub object_text : List Named → List ℕ
object_text members = compact_text (object_of members) ++ codes "\n"

-- the object of these members, on a line of its own
abbrev pub object_reply : Verdict → List Named → Reply
object_reply verdict members = record { verdict = verdict; text = object_text members }
