-- The clocks of a document's controllers.
use Rattle.std.proofs.Common.{◌≡◌, ℕ, ◌≤◌, List, Option, Some, None, nat_le, if◌then◌else◌, sym, ap, ◌∙◌}
use Rattle.std.proofs.lemmas.Bool.{le-leb}
use Rattle.kube_base.specs.Times.{◌>>=◌}
use Rattle.kube_objects.specs.Clocks.{wall}
use Rattle.kube_objects.specs.Document.{end_beat}
use Rattle.script_reader.specs.declared.document.Document.{Document}
use Rattle.script_reader.specs.Documents.{doc_of}
use Rattle.lens_lateness.specs.Clocks.{controller_of, own_time}

-- up to the end of the document an identity's clock shows the time of day of its controller
pub own-is : (d : Document) (actor : List ℕ) (beat p shown : ℕ) → controller_of d actor ≡ Some p → beat ≤ end_beat (doc_of d) → shown ≡ wall (doc_of d) p beat
    → Some shown ≡ own_time d actor beat
unfolding own_time
own-is d actor beat p shown is within shows =
    let at : Option ℕ = Some (wall (doc_of d) p beat) in
    ap Some shows
    ∙ ap (λ b. if b then at else None) (sym (le-leb beat (end_beat (doc_of d)) within))
    ∙ ap (λ o. o >>= λ q. if nat_le beat (end_beat (doc_of d)) then Some (wall (doc_of d) q beat) else None) (sym is)
