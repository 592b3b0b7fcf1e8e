-- Renewals, ends and releases.
use Rattle.std.specs.Prelude.{◌≡◌, true, false, [], ◌∷◌, ◌++◌}
use Rattle.kube_objects.specs.declared.call.Answer.TheVariants as answer
use Rattle.kube_objects.specs.declared.deed.Act.TheVariants as act
use Rattle.kube_objects.specs.Stored.{election}
use Rattle.history.specs.History.{whole_history}
use Rattle.history.specs.Printed.{printed}
use Rattle.history_examples.specs.Documents.{document, settings, c1, alone, pair, at_beat, delay, loss, crash, stop, line}
use Rattle.history_examples.specs.Documents.{update, lead, elected, elected_of_two}

-- A renewal that is delayed past its timeout is tried again. The late one meets the version that the second wrote.
abbrev pub LateRenewalConflicts : Type 0
LateRenewalConflicts = printed (whole_history (alone 74 [] (at_beat 6 (delay 0 60 1) ∷ at_beat 7 (delay 0 1 1) ∷ []))) ≡
    elected 1
    ++ line 50 0 1 (update 2 0)
    ∷ line 66 0 1 (act.Update election (answer.Conflict (record { 0 = 2 })) 0)
    ∷ line 74 0 1 (update 3 0)
    ∷ []

-- A leader whose requests are lost ends at its renew deadline, though an attempt is under way, and starts again after its restart time.
abbrev pub DeadlineEndsTheTerm : Type 0
DeadlineEndsTheTerm = printed (whole_history (alone 114 [] (at_beat 5 (loss 0 true false) ∷ []))) ≡
    elected 1
    ++ line 104 0 1 act.End
    ∷ line 114 0 2 act.Start
    ∷ []

-- A reply counts that comes when the call timeout is just over: the renewal sent in beat 6 is delivered in beat 26 and moves the
-- deadline, and every later request is lost.
abbrev pub ReplyAtTheTimeoutCounts : Type 0
ReplyAtTheTimeoutCounts = printed (whole_history (alone 146 [] (at_beat 7 (delay 0 1 19) ∷ at_beat 8 (loss 0 true false) ∷ []))) ≡
    elected 1
    ++ line 7 0 1 (update 2 0)
    ∷ line 146 0 1 act.End
    ∷ []

-- A reply that comes one beat later doesn't count, though its call expires only later in that beat. The deadline stays that of the lead.
abbrev pub ReplyAfterTheTimeoutIsIgnored : Type 0
ReplyAfterTheTimeoutIsIgnored = printed (whole_history (alone 114 [] (at_beat 7 (delay 0 1 20) ∷ at_beat 8 (loss 0 true false) ∷ []))) ≡
    elected 1
    ++ line 7 0 1 (update 2 0)
    ∷ line 104 0 1 act.End
    ∷ line 114 0 2 act.Start
    ∷ []

-- The reply to a renewal that has expired comes while the Get of the next attempt waits. It doesn't count for that Get.
abbrev pub ReplyToAnotherCallIsIgnored : Type 0
ReplyToAnotherCallIsIgnored = printed (whole_history (alone 50 [] (at_beat 7 (delay 0 1 41) ∷ at_beat 8 (delay 0 1 1) ∷ []))) ≡
    elected 1
    ++ line 7 0 1 (update 2 0)
    ∷ line 50 0 1 (update 3 0)
    ∷ []

-- A success that is delivered in the very beat of the deadline moves it, and the term goes on.
abbrev pub SuccessAtTheDeadline : Type 0
SuccessAtTheDeadline = printed (whole_history (alone 127 []
    (at_beat 5 (loss 0 true false) ∷ at_beat 80 (loss 0 false false) ∷ at_beat 91 (delay 0 1 13) ∷ at_beat 92 (delay 0 1 1) ∷ []))) ≡
    elected 1
    ++ line 91 0 1 (update 2 0)
    ∷ line 127 0 1 (update 3 0)
    ∷ []

-- A crash event while a controller waits for its restart cancels the restart.
abbrev pub CrashCancelsARestart : Type 0
CrashCancelsARestart = printed (whole_history (alone 120 [] (at_beat 5 (loss 0 true false) ∷ at_beat 110 (crash 0) ∷ []))) ≡
    elected 1
    ++ line 104 0 1 act.End
    ∷ []

-- With fast renewal a leader updates its own valid record without a Get.
abbrev pub FastRenewal : Type 0
FastRenewal = printed (whole_history (document (record (settings 60) { fast_renew = true }) (c1 ∷ []) [] [])) ≡
    elected 1
    ++ line 5 0 1 (update 2 0)
    ∷ line 27 0 1 (update 3 0)
    ∷ line 49 0 1 (update 4 0)
    ∷ []

-- A fast renewal whose reply is lost expires. The Get follows in the same beat and finds the own record.
abbrev pub FastRenewalFallsBack : Type 0
FastRenewalFallsBack = printed (whole_history (document (record (settings 30) { fast_renew = true }) (c1 ∷ []) []
    (at_beat 5 (loss 0 false true) ∷ at_beat 6 (loss 0 false false) ∷ []))) ≡
    elected 1
    ++ line 5 0 1 (update 2 0)
    ∷ line 28 0 1 (update 3 0)
    ∷ []

-- A leader that is stopped gives up its record, and the other takes over without waiting for the lease.
abbrev pub StopIsFollowedByRelease : Type 0
StopIsFollowedByRelease = printed (whole_history (pair 50 [] (at_beat 20 (stop 0) ∷ []))) ≡
    elected_of_two 1
    ++ line 7 0 1 (update 2 0)
    ∷ line 20 0 1 act.Stop
    ∷ line 21 0 1 (update 3 0)
    ∷ line 27 1 1 (update 4 1)
    ∷ line 28 1 1 (lead 4)
    ∷ line 31 1 1 (update 5 1)
    ∷ []

-- A release is sent under the losses of the events before its stop. A loss later in the same beat doesn't touch it.
abbrev pub ReleaseBeforeALoss : Type 0
ReleaseBeforeALoss = printed (whole_history (alone 24 [] (at_beat 20 (stop 0) ∷ at_beat 20 (loss 0 true false) ∷ []))) ≡
    elected 1
    ++ line 7 0 1 (update 2 0)
    ∷ line 20 0 1 act.Stop
    ∷ line 21 0 1 (update 3 0)
    ∷ []

-- A loss earlier in the same beat loses the release.
abbrev pub ReleaseAfterALoss : Type 0
ReleaseAfterALoss = printed (whole_history (alone 24 [] (at_beat 20 (loss 0 true false) ∷ at_beat 20 (stop 0) ∷ []))) ≡
    elected 1
    ++ line 7 0 1 (update 2 0)
    ∷ line 20 0 1 act.Stop
    ∷ []

-- A renewal that arrives before the release makes the release meet a conflict.
abbrev pub RenewalOutrunsRelease : Type 0
RenewalOutrunsRelease = printed (whole_history (alone 32 [] (at_beat 31 (stop 0) ∷ []))) ≡
    elected 1
    ++ line 7 0 1 (update 2 0)
    ∷ line 31 0 1 act.Stop
    ∷ line 31 0 1 (update 3 0)
    ∷ line 32 0 1 (act.Update election (answer.Conflict (record { 0 = 3 })) 0)
    ∷ []
