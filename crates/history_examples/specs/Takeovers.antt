-- Takeovers.
use Rattle.std.specs.Prelude.{◌≡◌, true, false, [], ◌∷◌, ◌++◌}
use Rattle.kube_objects.specs.declared.deed.Act.TheVariants as act
use Rattle.history.specs.History.{whole_history}
use Rattle.history.specs.Printed.{printed}
use Rattle.history_examples.specs.Actors.{slow_reply}
use Rattle.history_examples.specs.Documents.{document, settings, c1, c2, alone, pair, old_record, at_beat, loss, crash, start}
use Rattle.history_examples.specs.Documents.{line, create, update, lead, elected, elected_of_two}

-- The update's reply is lost. The call expires, and the next attempt finds the own record and takes over nothing.
abbrev pub OwnRecordAfterLostReply : Type 0
OwnRecordAfterLostReply = printed (whole_history (alone 47 old_record
    (at_beat 3 (loss 0 false true) ∷ at_beat 4 (loss 0 false false) ∷ []))) ≡
    line 0 0 1 act.Start
    ∷ line 3 0 1 (update 2 1)
    ∷ line 46 0 1 (update 3 1)
    ∷ line 47 0 1 (lead 3)
    ∷ []

-- After a crash the other takes over, one lease duration after it first saw the version that stays.
abbrev pub TakeoverAfterCrash : Type 0
TakeoverAfterCrash = printed (whole_history (pair 185 [] (at_beat 20 (crash 0) ∷ at_beat 100 (start 0) ∷ []))) ≡
    elected_of_two 1
    ++ line 7 0 1 (update 2 0)
    ∷ line 20 0 1 act.Crash
    ∷ line 100 0 2 act.Start
    ∷ line 181 1 1 (update 3 1)
    ∷ line 182 1 1 (lead 3)
    ∷ line 185 1 1 (update 4 1)
    ∷ []

-- The lease of a controller with a longer duration of its own is waited for as long as its record says.
abbrev pub DurationInTheRecordCounts : Type 0
DurationInTheRecordCounts = printed (whole_history (document (settings 248) (record c1 { lease_seconds = 20 } ∷ c2 ∷ []) []
    (at_beat 20 (crash 0) ∷ at_beat 100 (start 0) ∷ []))) ≡
    elected_of_two 1
    ++ line 7 0 1 (update 2 0)
    ∷ line 20 0 1 act.Crash
    ∷ line 100 0 2 act.Start
    ∷ line 247 1 1 (update 3 1)
    ∷ line 248 1 1 (lead 3)
    ∷ []

-- The create of an incarnation that crashed is accepted. The next incarnation waits for it as for any other holder.
abbrev pub CreateOutlivesItsSender : Type 0
CreateOutlivesItsSender = printed (whole_history (alone 161 [] (at_beat 3 (crash 0) ∷ at_beat 3 (start 0) ∷ []))) ≡
    line 0 0 1 act.Start
    ∷ line 3 0 1 act.Crash
    ∷ line 3 0 2 act.Start
    ∷ line 3 0 1 (create 1)
    ∷ line 160 0 2 (update 2 1)
    ∷ line 161 0 2 (lead 2)
    ∷ []

-- A reply that comes 48 beats late counts under a timeout of five seconds, so its leader acts while the other leads.
abbrev pub SlowReplyCounts : Type 0
SlowReplyCounts = printed (whole_history (slow_reply)) ≡
    elected 1
    ++ line 7 1 1 act.Start
    ∷ line 7 0 1 (update 2 0)
    ∷ line 164 1 1 (update 3 1)
    ∷ line 165 1 1 (lead 3)
    ∷ line 168 1 1 (update 4 1)
    ∷ line 175 0 1 act.End
    ∷ []
