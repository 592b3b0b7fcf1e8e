-- What is told of what is found.
use Rattle.std.proofs.Common.{◌≡◌, Result, Ok, Err, IfOk}
use Rattle.run_edge.specs.Outcome.{reply_of}
use Rattle.run_edge.specs.declared.answer.Answer.{Answer}
use Rattle.lens_plan.specs.declared.found.Found.{Found}
use Rattle.lens_plan.specs.declared.wanted.Wanted.{Wanted}
use Rattle.lens_plan.specs.Answers.{IsTold, told}
use Rattle.lens_plan.specs.Found.{IsFound}

pub told-found : (wanted : Wanted) (found : Found) → IsFound wanted.wish found → {E : Type 0} (r : Result Answer E) → IfOk r (λ a. reply_of a ≡ told wanted found)
    → IfOk r (λ a. IsTold wanted (reply_of a))
told-found wanted found is (Ok a) same = (found, is, same)
told-found wanted found is (Err e) same = tt
