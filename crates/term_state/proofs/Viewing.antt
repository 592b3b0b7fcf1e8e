-- Own entries of the tick leave what it is handed.
use Rattle.std.proofs.Common.{◌∙◌, ℕ, not, List, sym, ap}
use Rattle.kube_objects.specs.Document.{Doc}
use Rattle.kube_objects.specs.Entry.{Entry, Identity}
use Rattle.tick_laws.specs.Ticked.{IsTicked}
use Rattle.tick_laws.proofs.Ticked.{ticked_losses, ticked_watches}
use Rattle.term_state.specs.declared.view.View.{View}
use Rattle.term_state.specs.MidTick.{IsView}

pub view_ticked : (doc : Doc) (k : ℕ) (q : Identity) (h g : List Entry) (v : View) → IsTicked q k h g → IsView doc k q h v → IsView doc k q g v
view_ticked doc k q h g v s view =
    record {
      watch = view.watch ∙ sym (ticked_watches q k h g s doc q.process);
      passes = view.passes ∙ ap not (sym (ticked_losses q k h g s q.process));
      beat = view.beat;
      reading = view.reading;
      time = view.time;
    }
