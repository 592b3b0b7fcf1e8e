-- What is said of a document.
use Rattle.std.proofs.Common.{◌≡◌, ℕ, Bool, List, Result, Ok, Err, IfOk}
use Rattle.kube_base.specs.declared.memory.NoMemory.{NoMemory}
use Rattle.run_edge.specs.declared.answer.Answer.{Answer}
use Rattle.run_edge.specs.Outcome.{reply_of}
use Rattle.lens_explain.specs.Replies.{IsRefused, refused}
use Rattle.lens_explain.specs.declared.place.Shown.{Shown}
use Rattle.lens_explain.specs.Places.{IsShownOf}
use Rattle.manifest_json.specs.declared.fault.Refusal.{Refusal}

-- a refusal with what is said about it
pub refused_with : (as_json : Bool) (input : List ℕ) (r : Refusal) (s : Shown) (more : List ℕ) (answer : Result Answer NoMemory) → IsShownOf input r.code r.path s → IfOk answer (λ a. reply_of a ≡ refused as_json r s more)
    → IfOk answer (λ a. IsRefused as_json input r (reply_of a))
refused_with as_json input r s more (Ok a) there is = record { shown = s; is_shown = there; more = more; is = is }
refused_with as_json input r s more (Err e) there is = tt
