-- Releases at every end of a term.
use Rattle.std.specs.Prelude.{◌≡◌, ℕ, true, false, List, [], ◌∷◌, ◌++◌}
use Rattle.kube_objects.specs.declared.call.Answer.TheVariants as answer
use Rattle.kube_objects.specs.declared.deed.Act.TheVariants as act
use Rattle.kube_objects.specs.declared.deed.Deed.{Deed}
use Rattle.kube_objects.specs.declared.rules.ReleaseActing.{ReleaseActing}
use Rattle.kube_objects.specs.declared.rules.ReleaseActing.TheVariants.{Still, Acts}
use Rattle.kube_objects.specs.declared.rules.ReleaseRule.{ReleaseRule}
use Rattle.kube_objects.specs.declared.rules.ReleaseRule.TheVariants as releases
use Rattle.kube_objects.specs.declared.rules.Rules.{Rules}
use Rattle.kube_objects.specs.declared.script.Event.{Event}
use Rattle.kube_objects.specs.declared.script.Proc.{Proc}
use Rattle.kube_objects.specs.Document.{Doc}
use Rattle.kube_objects.specs.Rules.{own_rules}
use Rattle.kube_objects.specs.Stored.{election}
use Rattle.history.specs.Premise.{lease_premise}
use Rattle.history_examples.specs.Documents.{settings, c1, c2, document, at_beat, delay, loss, crash, start, stop, line, update, lead}
use Rattle.history_examples.specs.Documents.{elected, elected_of_two}
use Rattle.history_examples.specs.Pauses.{pause}
use Rattle.history_examples.specs.Traces.{ruled, down, leased, retrying, timed, c3, HasTrace}

abbrev pub releasing : ReleaseRule → ReleaseActing → Rules
releasing rule acting = record own_rules { release = rule; in_release = acting }

-- ---- a leader that is stopped

abbrev pub stopped : ReleaseRule → Doc
stopped rule = document (ruled (releasing rule Still) (settings 40)) (c1 ∷ c2 ∷ []) [] (at_beat 20 (stop 0) ∷ [])

-- with the beat at which the Lease is emptied
abbrev pub emptied_at : ℕ → List Deed
emptied_at k = elected_of_two 1
    ++ line 7 0 1 (update 2 0)
    ∷ line 20 0 1 act.Stop
    ∷ line k 0 1 (update 3 0)
    ∷ line 27 1 1 (update 4 1)
    ∷ line 28 1 1 (lead 4)
    ∷ line 31 1 1 (update 5 1)
    ∷ []

-- The look goes at 20 and comes back at 22. Without a look the update is that of 21.
abbrev pub StopAndLook : Type 0
StopAndLook = HasTrace (stopped releases.Reread) false (emptied_at 23)

abbrev pub StopAndCheck : Type 0
StopAndCheck = HasTrace (stopped releases.Checked) true (emptied_at 23)

abbrev pub StopWithoutLook : Type 0
StopWithoutLook = HasTrace (stopped releases.Own) true (emptied_at 21)

-- ---- a leader that hears of its last success exactly at its call's timeout: it has its deadline at beat 146

abbrev pub late_reply : List Event → List Event
late_reply more = at_beat 6 (start 1) ∷ at_beat 7 (delay 0 1 19) ∷ at_beat 8 (loss 0 true false) ∷ more

-- the second asks each 15 beats, the third is started later
abbrev pub three : ℕ → List Proc
three seconds = leased seconds c1 ∷ leased seconds (down (retrying 1300 c2)) ∷ leased seconds (down c3) ∷ []

-- the look of 146 is answered at 165 and heard at 166, at its timeout
abbrev pub slow_look : List Event
slow_look = late_reply
    (at_beat 146 (loss 0 false false)
    ∷ at_beat 146 (delay 0 19 1)
    ∷ at_beat 147 (delay 0 1 1)
    ∷ at_beat 168 (start 2)
    ∷ [])

abbrev pub up_to_deadline : List Deed
up_to_deadline = elected 1
    ++ line 6 1 1 act.Start
    ∷ line 7 0 1 (update 2 0)
    ∷ line 146 0 1 act.End
    ∷ []

abbrev pub rival_emptied : Doc
rival_emptied = document (ruled (releasing releases.Reread Still) (settings 277)) (three 15) [] slow_look

-- The look finds the second's renewal of 163, and the Lease of the second is emptied. The third takes it, and the second, which asks again
-- at 177 and hears at 179 that the third holds, acts to 276.
abbrev pub RivalIsEmptied : Type 0
RivalIsEmptied = HasTrace rival_emptied false (
    up_to_deadline
    ++ line 159 1 1 (update 3 1)
    ∷ line 160 1 1 (lead 3)
    ∷ line 163 1 1 (update 4 1)
    ∷ line 167 0 1 (update 5 1)
    ∷ line 168 2 1 act.Start
    ∷ line 171 2 1 (update 6 2)
    ∷ line 172 2 1 (lead 6)
    ∷ line 175 2 1 (update 7 2)
    ∷ line 178 0 2 act.Start
    ∷ line 199 2 1 (update 8 2)
    ∷ line 223 2 1 (update 9 2)
    ∷ line 247 2 1 (update 10 2)
    ∷ line 271 2 1 (update 11 2)
    ∷ line 277 1 1 act.End
    ∷ [])

abbrev pub own_emptied : Doc
own_emptied = document
    (ruled (releasing releases.Reread Still) (record (settings 200) { lease_duration_seconds = 17 }))
    (three 17)
    []
    slow_look

-- With a lease that is long enough the look finds the own one.
abbrev pub OwnIsEmptied : Type 0
OwnIsEmptied = HasTrace own_emptied true (
    up_to_deadline
    ++ line 167 0 1 (update 3 0)
    ∷ line 168 2 1 act.Start
    ∷ line 171 2 1 (update 4 1)
    ∷ line 172 2 1 (lead 4)
    ∷ line 175 2 1 (update 5 1)
    ∷ line 178 0 2 act.Start
    ∷ line 199 2 1 (update 6 1)
    ∷ [])

abbrev pub late_emptying : Doc
late_emptying = document
    (ruled (releasing releases.Reread Still) (record (settings 199) { lease_duration_seconds = 17 }))
    (leased 17 c1 ∷ leased 17 (down (retrying 1300 c2)) ∷ [])
    []
    (late_reply (at_beat 146 (loss 0 false false) ∷ at_beat 147 (delay 0 50 1) ∷ []))

-- The look finds the own version at 147. The emptying of 148 expires at 169, which ends the release, and is refused at 198.
abbrev pub LateEmptyingIsRefused : Type 0
LateEmptyingIsRefused = HasTrace late_emptying true (
    up_to_deadline
    ++ line 179 0 2 act.Start
    ∷ line 189 1 1 (update 3 1)
    ∷ line 190 1 1 (lead 3)
    ∷ line 193 1 1 (update 4 1)
    ∷ line 198 0 1 (act.Update election (answer.Conflict (record { 0 = 4 })) 0)
    ∷ [])

abbrev pub crash_in_release : Doc
crash_in_release = document
    (ruled (releasing releases.Reread Still) (record (settings 45) { lease_duration_seconds = 17 }))
    (leased 17 c1 ∷ leased 17 c2 ∷ [])
    []
    (at_beat 20 (delay 0 6 1) ∷ at_beat 20 (stop 0) ∷ at_beat 21 (start 0) ∷ at_beat 29 (crash 0) ∷ at_beat 30 (start 0) ∷ [])

-- The look is heard at 27, and the emptying that it sends arrives at 33, when its process is gone. The start of 21 does nothing.
abbrev pub CrashInARelease : Type 0
CrashInARelease = HasTrace crash_in_release true (
    elected_of_two 1
    ++ line 7 0 1 (update 2 0)
    ∷ line 20 0 1 act.Stop
    ∷ line 29 0 1 act.Crash
    ∷ line 30 0 2 act.Start
    ∷ line 33 0 1 (update 3 0)
    ∷ line 43 0 2 (update 4 1)
    ∷ line 44 0 2 (lead 4)
    ∷ [])

-- ---- leaders that act in their release

-- a lease of a minute, calls of four seconds; requests are lost from beat 20 to 127
abbrev pub handed_on : List Event → Doc
handed_on more = document
    (ruled (releasing releases.Reread Acts) (record (settings 175) { lease_duration_seconds = 60; call_timeout_millis = 4000 }))
    (leased 60 (timed 4000 c1) ∷ leased 60 (timed 4000 (retrying 1400 c2)) ∷ [])
    []
    (at_beat 20 (loss 0 true false) ∷ at_beat 128 (loss 0 false false) ∷ more)

-- the end is that of the answer to the emptying; the second takes the Lease over, also before
abbrev pub handed_to_second : List Deed → List Deed
handed_to_second between = elected_of_two 1
    ++ line 7 0 1 (update 2 0)
    ∷ line 131 0 1 (update 3 0)
    ∷ line 133 1 1 (update 4 1)
    ∷ between

-- The answer to the emptying of 130 is lost. The first acts to 170, the second from 134 on, whatever the lease.
abbrev pub TwoActAfterAnEmptying : Type 0
TwoActAfterAnEmptying = HasTrace (handed_on (at_beat 131 (loss 0 false true) ∷ [])) false (
    handed_to_second
    (line 134 1 1 (lead 4)
    ∷ line 137 1 1 (update 5 1)
    ∷ line 155 1 1 (update 6 1)
    ∷ line 171 0 1 act.End
    ∷ line 173 1 1 (update 7 1)
    ∷ []))

-- With an answer that comes three beats after the write the end comes first, and with one of four it doesn't.
abbrev pub AnswerInTime : Type 0
AnswerInTime = HasTrace (handed_on (at_beat 131 (delay 0 1 3) ∷ [])) true (
    handed_to_second
    (line 134 0 1 act.End
    ∷ line 134 1 1 (lead 4)
    ∷ line 137 1 1 (update 5 1)
    ∷ line 144 0 2 act.Start
    ∷ line 155 1 1 (update 6 1)
    ∷ line 173 1 1 (update 7 1)
    ∷ []))

abbrev pub AnswerTooLate : Type 0
AnswerTooLate = HasTrace (handed_on (at_beat 131 (delay 0 1 4) ∷ [])) false (
    handed_to_second
    (line 134 1 1 (lead 4)
    ∷ line 135 0 1 act.End
    ∷ line 137 1 1 (update 5 1)
    ∷ line 145 0 2 act.Start
    ∷ line 155 1 1 (update 6 1)
    ∷ line 173 1 1 (update 7 1)
    ∷ []))

-- ---- a release that gets nothing through

abbrev pub cut_off : ReleaseActing → List Event → Doc
cut_off acting more = document (ruled (releasing releases.Reread acting) (settings 180)) (c1 ∷ []) [] (at_beat 20 (loss 0 true false) ∷ more)

abbrev pub up_to_cut : List Deed → List Deed
up_to_cut lines = elected 1 ++ line 7 0 1 (update 2 0) ∷ lines

-- The look of 128 expires at 149, and the restart counts from there.
abbrev pub CutOff : Type 0
CutOff = HasTrace (cut_off Still []) false (up_to_cut (line 128 0 1 act.End ∷ line 159 0 2 act.Start ∷ []))

abbrev pub CutOffAndActing : Type 0
CutOffAndActing = HasTrace (cut_off Acts []) false (up_to_cut (line 149 0 1 act.End ∷ line 159 0 2 act.Start ∷ []))

-- A stop ends the acting, and there is no restart.
abbrev pub CutOffAndStopped : Type 0
CutOffAndStopped = HasTrace (cut_off Acts (at_beat 130 (stop 0) ∷ [])) false (up_to_cut (line 130 0 1 act.Stop ∷ []))

-- ---- the rules beside each other

abbrev pub rival_left : ReleaseRule → Doc
rival_left rule = document (ruled (releasing rule Still) (settings 180)) (three 15) [] slow_look

abbrev pub rival_takes : List Deed → List Deed
rival_takes between = up_to_deadline ++ between

abbrev pub rival_goes_on : List Deed → List Deed → List Deed
rival_goes_on before after =
    line 159 1 1 (update 3 1) ∷ line 160 1 1 (lead 3) ∷ line 163 1 1 (update 4 1)
    ∷ (before ++ line 168 2 1 act.Start ∷ (after ++ line 180 1 1 (update 5 1) ∷ []))

-- A stop's rule releases nothing at a deadline; by the own version the update is refused; and the check finds another holder.
abbrev pub NoRelease : Type 0
NoRelease = HasTrace (rival_left releases.Stop) true (up_to_deadline ++ line 156 0 2 act.Start ∷ rival_goes_on [] [])

abbrev pub OwnVersionIsRefused : Type 0
OwnVersionIsRefused = HasTrace (rival_left releases.Own) true (
    up_to_deadline
    ++ rival_goes_on (line 165 0 1 (act.Update election (answer.Conflict (record { 0 = 4 })) 0) ∷ []) (line 176 0 2 act.Start ∷ []))

abbrev pub CheckFindsAnother : Type 0
CheckFindsAnother = HasTrace (rival_left releases.Checked) true (up_to_deadline ++ rival_goes_on [] (line 176 0 2 act.Start ∷ []))

-- ---- the premise

abbrev pub leases_of : ℕ → ReleaseRule → ReleaseActing → List Event → Doc
leases_of seconds rule acting events = document (ruled (releasing rule acting) (settings 99)) (leased seconds c1 ∷ []) [] events

abbrev pub PremiseCountsTheRelease : Type 0
PremiseCountsTheRelease = (lease_premise (leases_of 16 releases.Reread Still []) ≡ false)
    × (lease_premise (leases_of 17 releases.Reread Still []) ≡ true)
    × (lease_premise (leases_of 18 releases.Reread Acts []) ≡ false)
    × (lease_premise (leases_of 19 releases.Reread Acts []) ≡ true)
    × (lease_premise (leases_of 16 releases.Own Acts []) ≡ false)
    × (lease_premise (leases_of 17 releases.Own Acts []) ≡ true)
    × (lease_premise (leases_of 15 releases.Checked Still []) ≡ true)

-- Where leaders act in their release, every answer has to come within three beats.
abbrev pub PremiseAsksForAnswers : Type 0
PremiseAsksForAnswers = (lease_premise (leases_of 19 releases.Reread Acts (at_beat 1 (delay 0 9 3) ∷ [])) ≡ true)
    × (lease_premise (leases_of 19 releases.Reread Acts (at_beat 1 (delay 0 1 4) ∷ [])) ≡ false)
    × (lease_premise (leases_of 19 releases.Reread Acts (at_beat 1 (loss 0 false true) ∷ [])) ≡ false)

-- A call of a minute counts for a renew deadline of ten seconds at most; two pauses count.
abbrev pub slow_calls : ℕ → Doc
slow_calls seconds = document
    (ruled (releasing releases.Reread Still) (settings 1)) (leased seconds (timed 60000 c1) ∷ []) [] []

abbrev pub PremiseCountsTwoPauses : Type 0
PremiseCountsTwoPauses = (lease_premise (slow_calls 82) ≡ false)
    × (lease_premise (slow_calls 83) ≡ true)
    × (lease_premise (leases_of 17 releases.Reread Still (at_beat 1 (pause 0 3) ∷ at_beat 9 (pause 0 4) ∷ [])) ≡ true)
    × (lease_premise (leases_of 17 releases.Reread Still (at_beat 1 (pause 0 3) ∷ at_beat 9 (pause 0 5) ∷ [])) ≡ false)
