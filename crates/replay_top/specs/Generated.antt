-- What is written of the run of a generated document.
use Rattle.std.specs.Prelude.{ℕ, List, ◌++◌, codes, decimal}
use Rattle.kube_objects.specs.Document.{Doc}
use Rattle.history.specs.History.{whole_history}
use Rattle.history.specs.Printed.{printed}
use Rattle.world_gen.specs.Generated.{generated}
use Rattle.replay_top.specs.declared.counts.Counts.{Counts}
use Rattle.replay_top.specs.declared.sizes.Sizes.{Sizes}
use Rattle.replay_top.specs.Counts.{counts_of}

-- the document that is generated
abbrev pub document_of : Sizes → Doc
document_of s = generated s.seed s.nodes s.pods s.beats

-- the counts of the lines of a document's whole trace
abbrev pub whole_counts : Doc → Counts
whole_counts doc = counts_of (printed (whole_history doc))

unfoldable pub sizes_text : Sizes → List ℕ
sizes_text s =
    codes "generated controllers=3 nodes=" ++ decimal s.nodes ++ codes " pods=" ++ decimal s.pods ++ codes " beats=" ++ decimal s.beats

unfoldable pub counts_text : Counts → List ℕ
counts_text c = codes " leads=" ++ decimal c.leads ++ codes " taints=" ++ decimal c.taints ++ codes " evictions=" ++ decimal c.evictions

-- the line of these sizes with these counts
unfoldable pub counted_line : Sizes → Counts → List ℕ
counted_line s c = sizes_text s ++ counts_text c ++ codes "\n"

-- the line of the generated document
abbrev pub generated_line : Sizes → List ℕ
generated_line s = counted_line s (whole_counts (document_of s))
