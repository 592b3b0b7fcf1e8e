-- A try on the store is an entry of the history.
use Rattle.std.proofs.Common.{◌≡◌, ◌∙◌, List, ◌∷◌, Some, Bool, true, not, Result, Ok, Err, OnOk, OnErr, sym, ap}
use Rattle.kube_base.specs.declared.numbers.Version.{Version}
use Rattle.kube_objects.specs.declared.call.Answer.{Answer}
use Rattle.kube_objects.specs.declared.call.Reply.{Reply}
use Rattle.kube_objects.specs.Entry.{Entry, Identity}
use Rattle.kube_objects.specs.Newest.{only_if}
use Rattle.kube_objects.specs.Stored.{Write, try_write, write_of}
use Rattle.kube_objects.specs.Tries.{as_answer, tried}
use Rattle.kube_objects.specs.Wire.{loses_requests}
use Rattle.object_store.specs.Stands.{StoreStands}
use Rattle.object_store.specs.StoreAnswers.{IsReply}
use Rattle.object_store.specs.declared.faults.StoreFault.{StoreFault}
use Rattle.object_store.specs.declared.faults.StoreFault.TheVariants as fault
use Rattle.object_store.specs.declared.store.Store.{Store}
use Rattle.object_store.proofs.Keeps.{store-beside}
use Rattle.term_state.specs.Tried.{answer_of}

-- where requests pass, a try is answered
pub passed : (q : Identity) (replied : Reply) (h : List Entry) (passes : Bool) → passes ≡ true → passes ≡ not (loses_requests q.process h) → tried q replied h ≡ as_answer replied
passed q replied h passes is same = ap (λ b. only_if b (as_answer replied)) (sym same ∙ is)

pub tried_stands : (h : List Entry) (e : Entry) (new : Store) (w : Write) (answered : Reply) (x : Answer) (r : Result Version StoreFault) → IsReply r answered → Ok x ≡ answer_of r
    → write_of e.fact ≡ try_write w (as_answer answered) → (write_of e.fact ≡ Some w → OnOk r (StoreStands (e ∷ h) new)) → OnErr r (StoreStands h new) → StoreStands (e ∷ h) new
tried_stands h e new w answered x (Ok version) told is written ok err = ok (written ∙ ap (λ a. try_write w (as_answer a)) told)
tried_stands h e new w answered x (Err fault.Absent) told is written ok err = store-beside h e new err (written ∙ ap (λ a. try_write w (as_answer a)) told)
tried_stands h e new w answered x (Err fault.Exists) told is written ok err = store-beside h e new err (written ∙ ap (λ a. try_write w (as_answer a)) told)
tried_stands h e new w answered x (Err (fault.Conflict version)) told is written ok err = store-beside h e new err (written ∙ ap (λ a. try_write w (as_answer a)) told)
tried_stands h e new w answered x (Err fault.NoMemory) told is written ok err = absurd (cc)
