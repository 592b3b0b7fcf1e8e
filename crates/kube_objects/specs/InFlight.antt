-- What arrives at a beat because of the entries of a history, the oldest first. Source: profile.
use Rattle.std.specs.Prelude.{ℕ, ◌==◌, Bool, false, cond, List, [], ◌∷◌, ◌++◌, Option, Some, None}
use Rattle.kube_objects.specs.Entry.{Entry}
use Rattle.kube_objects.specs.Wire.{Sent, Back, sent_of, back_of}

-- whether something comes at a beat; what is lost comes at none
abbrev pub is_due : ℕ → Option ℕ → Bool
is_due j None = false
is_due j (Some at) = at == j

abbrev pub and_request : ℕ → Option Sent → List Sent → List Sent
and_request j None ss = ss
and_request j (Some s) ss = cond (is_due j s.arrives) (ss ++ s ∷ []) ss

-- the requests that arrive at a beat, in the order of their sending
abbrev pub requests_due : ℕ → List Entry → List Sent
requests_due j [] = []
requests_due j (e ∷ h) = and_request j (sent_of e.actor e.fact) (requests_due j h)

abbrev pub and_reply : ℕ → Option Back → List Back → List Back
and_reply j None bs = bs
and_reply j (Some b) bs = cond (is_due j b.comes) (bs ++ b ∷ []) bs

-- the replies that come at a beat, in the order of their answering
abbrev pub replies_due : ℕ → List Entry → List Back
replies_due j [] = []
replies_due j (e ∷ h) = and_reply j (back_of e.actor e.fact) (replies_due j h)
