-- When attempts come, and whose lease duration is respected.
use Rattle.std.specs.Prelude.{◌≡◌, true, false, [], ◌∷◌, ◌++◌, Some, None}
use Rattle.kube_objects.specs.declared.deed.Act.TheVariants as act
use Rattle.kube_objects.specs.declared.lease.Holder.TheVariants as holder
use Rattle.kube_objects.specs.declared.object.Object.TheVariants as object
use Rattle.kube_objects.specs.declared.rules.RespectRule.TheVariants as respects
use Rattle.kube_objects.specs.declared.rules.RespectRule.{RespectRule}
use Rattle.kube_objects.specs.declared.rules.RetryRule.{RetryRule}
use Rattle.kube_objects.specs.declared.rules.RetryRule.TheVariants as retries
use Rattle.kube_objects.specs.Document.{Doc}
use Rattle.kube_objects.specs.Rules.{own_rules, own_waits}
use Rattle.kube_objects.specs.Stored.{election}
use Rattle.history.specs.Premise.{lease_premise}
use Rattle.history_examples.specs.Documents.{settings, c1, c2, document, pair, at_beat, loss, crash, line, update, lead, elected, elected_of_two}
use Rattle.history_examples.specs.Traces.{ruled, leased, timed, HasTrace}

-- The second fails at 4, 26, 72, 106, 128 and 174, with waits of 1, 2.2 and 1.6 retry periods in turn, and asks again at 24, 70, 104, 126,
-- 172 and 206. It has seen version 2 since 26, so the reply at 174 is 0.2 s too soon.
abbrev pub waits_in_turn : Doc
waits_in_turn = record (pair 210 [] (at_beat 20 (crash 0) ∷ [])) { waits = own_waits ∷ (1000 ∷ 2200 ∷ 1600 ∷ []) ∷ [] }

abbrev pub WaitsInTurn : Type 0
WaitsInTurn = HasTrace waits_in_turn true (
    elected_of_two 1
    ++ line 7 0 1 (update 2 0)
    ∷ line 20 0 1 act.Crash
    ∷ line 209 1 1 (update 3 1)
    ∷ line 210 1 1 (lead 3)
    ∷ [])

-- a call's timeout is half a second; all requests are lost from beat 20 to 69
abbrev pub lost_attempts : RetryRule → Doc
lost_attempts rule = document
    (ruled (record own_rules { retries = rule }) (record (settings 83) { call_timeout_millis = 500 }))
    (timed 500 c1 ∷ [])
    []
    (at_beat 20 (loss 0 true false) ∷ at_beat 70 (loss 0 false false) ∷ [])

-- The attempts of 28 and 54 fail at 34 and 60. The grid that the first failure begins has 54 and 74; with a wait after each failure the
-- next attempt is that of 80.
abbrev pub GridOfRetries : Type 0
GridOfRetries = HasTrace (lost_attempts retries.Grid) true (
    elected 1
    ++ line 7 0 1 (update 2 0)
    ∷ line 77 0 1 (update 3 0)
    ∷ [])

abbrev pub RetriesAfterFailures : Type 0
RetriesAfterFailures = HasTrace (lost_attempts retries.After) true (
    elected 1
    ++ line 7 0 1 (update 2 0)
    ∷ line 83 0 1 (update 3 0)
    ∷ [])

-- and updates go without a Get
abbrev pub lost_fast_attempts : RetryRule → Doc
lost_fast_attempts rule = document
    (ruled (record own_rules { retries = rule }) (record (settings 90) { call_timeout_millis = 500; fast_renew = true }))
    (timed 500 c1 ∷ [])
    []
    (at_beat 20 (loss 0 true false) ∷ at_beat 66 (loss 0 false false) ∷ [])

-- The renewal begins at 26; both calls of an attempt expire, and the next attempts begin at the ticks of 46 and 66. The grid that the
-- first failure, at 38, begins has 58 and 78.
abbrev pub TicksOfRetries : Type 0
TicksOfRetries = HasTrace (lost_fast_attempts retries.Ticks) true (
    elected 1
    ++ line 5 0 1 (update 2 0)
    ∷ line 67 0 1 (update 3 0)
    ∷ line 89 0 1 (update 4 0)
    ∷ [])

abbrev pub GridOfFastRetries : Type 0
GridOfFastRetries = HasTrace (lost_fast_attempts retries.Grid) true (
    elected 1
    ++ line 5 0 1 (update 2 0)
    ∷ line 79 0 1 (update 3 0)
    ∷ [])

-- the record of a holder that is gone has a duration of 40 s
abbrev pub long_record : Doc
long_record = document
    (ruled (record own_rules { respect = respects.Own }) (settings 160))
    (c1 ∷ [])
    ((
      election,
      object.Lease (record { holder = holder.Foreign 12; duration = Some 40; acquired = None; renewed = None; transitions = None }),
    ) ∷ [])
    []

-- The controller asks each 2.2 s and waits its own 15 s from beat 2 on.
abbrev pub OwnDuration : Type 0
OwnDuration = HasTrace long_record true (
    line 0 0 1 act.Start
    ∷ line 157 0 1 (update 2 1)
    ∷ line 158 0 1 (lead 2)
    ∷ [])

-- a lease of 15 s, and a second one that acts for a shorter time
abbrev pub two_durations : RespectRule → Doc
two_durations rule = document
    (ruled (record own_rules { respect = rule }) (settings 1))
    (c1 ∷ record c2 { lease_seconds = 14; renew_millis = 6000; timeout_millis = 1000 } ∷ [])
    []
    []

-- Where each goes by its own duration, the shortest of all has to outlast every leader.
abbrev pub ShortestDurationCounts : Type 0
ShortestDurationCounts = (lease_premise (two_durations respects.Own) ≡ false)
    × (lease_premise (two_durations respects.Record) ≡ true)
    × (lease_premise (record (two_durations respects.Own) { controllers = c1 ∷ leased 15 c2 ∷ [] }) ≡ true)
