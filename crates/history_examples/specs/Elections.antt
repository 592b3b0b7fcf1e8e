-- First elections.
use Rattle.std.specs.Prelude.{◌≡◌, [], ◌∷◌, ◌++◌}
use Rattle.kube_objects.specs.declared.call.Answer.TheVariants as answer
use Rattle.kube_objects.specs.declared.deed.Act.TheVariants as act
use Rattle.kube_objects.specs.Stored.{election}
use Rattle.history.specs.History.{whole_history}
use Rattle.history.specs.Printed.{printed}
use Rattle.history_examples.specs.Documents.{document, settings, c1, alone, pair, old_record, other, at_beat, crash, start, put}
use Rattle.history_examples.specs.Documents.{remove, line, script_line, create, update, lead, elected}

-- One controller creates the record, leads and renews.
abbrev pub FirstElection : Type 0
FirstElection = printed (whole_history (alone 60 [] [])) ≡
    line 0 0 1 act.Start
    ∷ line 3 0 1 (create 1)
    ∷ line 4 0 1 (lead 1)
    ∷ line 7 0 1 (update 2 0)
    ∷ line 31 0 1 (update 3 0)
    ∷ line 55 0 1 (update 4 0)
    ∷ []

-- A clock of double rate halves the beats between renewals.
abbrev pub DoubleSpeed : Type 0
DoubleSpeed = printed (whole_history (document (settings 35) (record c1 { rate_ppm = 2000000 } ∷ []) [] [])) ≡
    elected 1
    ++ line 7 0 1 (update 2 0)
    ∷ line 21 0 1 (update 3 0)
    ∷ line 35 0 1 (update 4 0)
    ∷ []

-- Of two that create the record, the second finds it stored.
abbrev pub SecondCreateIsRefused : Type 0
SecondCreateIsRefused = printed (whole_history (pair 4 [] [])) ≡
    line 0 0 1 act.Start
    ∷ line 0 1 1 act.Start
    ∷ line 3 0 1 (create 1)
    ∷ line 3 1 1 (act.Create election answer.Exists 0)
    ∷ line 4 0 1 (lead 1)
    ∷ []

-- Two take over one record on the version that they found. The second is refused with the version now stored.
abbrev pub SecondTakeoverIsRefused : Type 0
SecondTakeoverIsRefused = printed (whole_history (pair 4 old_record [])) ≡
    line 0 0 1 act.Start
    ∷ line 0 1 1 act.Start
    ∷ line 3 0 1 (update 2 1)
    ∷ line 3 1 1 (act.Update election (answer.Conflict (record { 0 = 2 })) 1)
    ∷ line 4 0 1 (lead 2)
    ∷ []

-- Every accepted write of the store raises the version: puts and removes of other keys too, but no remove that finds nothing.
abbrev pub VersionsCountEveryWrite : Type 0
VersionsCountEveryWrite = printed (whole_history (alone 7 []
    (at_beat 5 (put other) ∷ at_beat 6 (remove other) ∷ at_beat 6 (remove other) ∷ []))) ≡
    elected 1
    ++ script_line 5 (act.Put other (record { 0 = 2 }))
    ∷ script_line 6 (act.Removed other (record { 0 = 3 }))
    ∷ line 7 0 1 (update 4 0)
    ∷ []

-- Crashes and starts within one beat: a start of a process that is up does nothing, and each other start is a new incarnation.
abbrev pub StormInOneBeat : Type 0
StormInOneBeat = printed (whole_history (alone 4 []
    (at_beat 0 (crash 0) ∷ at_beat 0 (start 0) ∷ at_beat 0 (start 0) ∷ at_beat 0 (crash 0) ∷ at_beat 0 (start 0) ∷ []))) ≡
    line 0 0 1 act.Start
    ∷ line 0 0 1 act.Crash
    ∷ line 0 0 2 act.Start
    ∷ line 0 0 2 act.Crash
    ∷ line 0 0 3 act.Start
    ∷ line 3 0 3 (create 1)
    ∷ line 4 0 3 (lead 1)
    ∷ []

-- The reply to a call of the incarnation before doesn't count.
abbrev pub ReplyToAnOldIncarnation : Type 0
ReplyToAnOldIncarnation = printed (whole_history (alone 6 [] (at_beat 1 (crash 0) ∷ at_beat 1 (start 0) ∷ []))) ≡
    line 0 0 1 act.Start
    ∷ line 1 0 1 act.Crash
    ∷ line 1 0 2 act.Start
    ∷ line 4 0 2 (create 1)
    ∷ line 5 0 2 (lead 1)
    ∷ []
