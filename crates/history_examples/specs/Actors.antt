-- The lease premise, and who acts.
use Rattle.std.specs.Prelude.{◌≡◌, true, false, [], ◌∷◌}
use Rattle.kube_objects.specs.Document.{Doc}
use Rattle.kube_objects.specs.Identities.{identity}
use Rattle.history.specs.Premise.{lease_premise}
use Rattle.history.specs.Safe.{Acts}
use Rattle.history_examples.specs.Documents.{document, settings, c1, c2, alone, at_beat, delay, loss, start}

-- The calls' timeout is five seconds. The reply to the renewal that is sent in beat 6 comes 48 beats late and
-- still counts, while the other, which starts in beat 7, waits for one lease duration.
abbrev pub slow_reply : Doc
slow_reply =
    document (record (settings 176) { call_timeout_millis = 5000 })
    (record c1 { timeout_millis = 5000 } ∷ record c2 { up = false; timeout_millis = 5000 } ∷ [])
    []
    (at_beat 7 (start 1) ∷ at_beat 7 (delay 0 1 48) ∷ at_beat 8 (loss 0 true false) ∷ [])

-- Where the premise fails, two identities can act at one beat.
abbrev pub TwoActWithoutPremise : Type 0
TwoActWithoutPremise = (lease_premise slow_reply ≡ false) × Acts slow_reply (identity 0 1) 170 × Acts slow_reply (identity 1 1) 170

-- Where the premise holds, somebody can act.
abbrev pub OneActsUnderPremise : Type 0
OneActsUnderPremise = (lease_premise (alone 60 [] []) ≡ true) × Acts (alone 60 [] []) (identity 0 1) 4
