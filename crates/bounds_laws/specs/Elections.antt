-- The numbers that a document's bounds on a leader tell hold of its history. Source: profile.
use Rattle.std.specs.Prelude.{◌≡◌, ◌≤◌, ℕ, ◌+◌, ◌-◌, ◌*◌, true, false, Some}
use Rattle.kube_objects.specs.declared.script.Proc.{Proc}
use Rattle.kube_objects.specs.Document.{Doc, end_beat, process_at, is_controller, of_seconds}
use Rattle.kube_objects.specs.Entry.{Identity}
use Rattle.kube_objects.specs.Pauses.{is_paused}
use Rattle.history.specs.History.{history}
use Rattle.history.specs.Safe.{Acts}
use Rattle.takeover_laws.specs.Calm.{IsQuiet}
use Rattle.takeover_laws.specs.Waits.{blocked_for}
use Rattle.calm_laws.specs.Bounds.{early_record, LastsFor}
use Rattle.silence_laws.specs.Silence.{IsStopped}
use Rattle.silence_laws.specs.Least.{IsLead}
use Rattle.succession_laws.specs.Successions.{IsFollowed}
use Rattle.script_reader.specs.Lawful.{IsLawfulDoc}
use Rattle.lens_bounds.specs.declared.elections.Election.{Election}
use Rattle.lens_bounds.specs.declared.elections.Span.{Span}
use Rattle.lens_bounds.specs.Documents.{calm_of}
use Rattle.lens_bounds.specs.Elections.{acts_on, longest_term, longest_lease, election_of}
use Rattle.bounds_laws.specs.Undisturbed.{far_of, LeadsUndisturbed, IsOther, GivesUp, IsWell, MayFollow, LeadsWell, StaysWell}

-- so many beats in milliseconds
abbrev pub millis : Doc → ℕ → ℕ
millis doc beats = beats * doc.settings.beat_millis

-- the bounds of the controller at a place
abbrev pub bounds_of : Doc → ℕ → Proc → Election
bounds_of doc place leader = election_of (calm_of doc) place leader doc.controllers

-- where a leader falls silent at beat b, as by a crash, each lead of another identity comes no sooner than the least of the two numbers after it; and
-- so long after it as the greatest, another one leads and stays, where one that may is up
abbrev pub CrashIsBounded : Doc → Type 0
CrashIsBounded doc =
    (b e : ℕ) (q : Identity) (leader : Proc) → process_at doc q.process ≡ Some leader → LeadsUndisturbed doc b e q → IsQuiet doc b e q.process
    → (s : Span) → (bounds_of doc q.process leader).crash ≡ Some s
    → ((k : ℕ) → IsLead doc b e q k → s.least ≤ millis doc (k - b))
    × ((p n : ℕ) → IsOther doc b q p → b ≤ n → s.most ≤ millis doc (n - b) → n ≤ e → IsFollowed doc b n e q)

abbrev pub CrashesAreBounded : Type 0
CrashesAreBounded = (doc : Doc) → IsLawfulDoc doc → CrashIsBounded doc

-- where a leader is stopped at beat b, its process doesn't start again, and its release is accepted: the same by the two numbers of a stop
abbrev pub StopIsBounded : Doc → Type 0
StopIsBounded doc =
    (b e : ℕ) (q : Identity) (leader : Proc) → process_at doc q.process ≡ Some leader → LeadsUndisturbed doc b e q → IsStopped doc b e q → GivesUp doc b e q
    → (s : Span) → (bounds_of doc q.process leader).stop ≡ Some s
    → ((k : ℕ) → IsLead doc b e q k → s.least ≤ millis doc (k - b))
    × ((p n : ℕ) → IsOther doc b q p → b ≤ n → s.most ≤ millis doc (n - b) → n ≤ e → IsFollowed doc b n e q)

abbrev pub StopsAreBounded : Type 0
StopsAreBounded = (doc : Doc) → IsLawfulDoc doc → StopIsBounded doc

-- a leader that falls silent at beat b, as where its requests are lost, and isn't paused acts in no beat from which on this time is over
abbrev pub ActingIsBounded : Doc → Type 0
ActingIsBounded doc =
    (b e : ℕ) (q : Identity) (leader : Proc) → process_at doc q.process ≡ Some leader → LeadsUndisturbed doc b e q → IsQuiet doc b e q.process
    → ((k : ℕ) → b ≤ k → k ≤ e → is_paused doc q.process k ≡ false)
    → (time : ℕ) → (bounds_of doc q.process leader).acts_on ≡ Some time
    → (k : ℕ) → b ≤ k → k ≤ e → Acts doc q k → millis doc (k + 1 - b) ≤ time

abbrev pub ActsAreBounded : Type 0
ActsAreBounded = (doc : Doc) → IsLawfulDoc doc → ActingIsBounded doc

-- while all is well from beat a on, and the election Lease as it was then blocks another controller for no longer than a record of the one at a place
-- does: this time after a somebody acts, where that other one is up after its turn at a
abbrev pub LeadIsBounded : Doc → Type 0
LeadIsBounded doc =
    (a e : ℕ) → IsWell doc a e → e ≤ end_beat doc → (place : ℕ) (leader : Proc) → is_controller doc place ≡ true → process_at doc place ≡ Some leader
    → (time : ℕ) → (bounds_of doc place leader).leads ≡ Some time
    → (p n : ℕ) → MayFollow doc a e 0 place p → LastsFor doc p (blocked_for doc p place) (early_record a (history doc (a + far_of doc)))
    → a ≤ n → time ≤ millis doc (n - a) → n ≤ e → LeadsWell doc a e n

abbrev pub LeadsAreBounded : Type 0
LeadsAreBounded = (doc : Doc) → IsLawfulDoc doc → LeadIsBounded doc

-- and by this time one leads that stays, where that record blocks another controller for no longer than the longest lease, and that one is up after a
-- turn at which the terms of before are over
abbrev pub StayIsBounded : Doc → Type 0
StayIsBounded doc =
    (a e : ℕ) → IsWell doc a e → e ≤ end_beat doc → (place : ℕ) (leader : Proc) → is_controller doc place ≡ true → process_at doc place ≡ Some leader
    → (time : ℕ) → (bounds_of doc place leader).stays_from ≡ Some time
    → (p n : ℕ) → MayFollow doc a e (acts_on (calm_of doc) (longest_term doc.controllers)) place p
    → LastsFor doc p (of_seconds (longest_lease doc.controllers)) (early_record a (history doc (a + far_of doc)))
    → a ≤ n → time ≤ millis doc (n - a) → n ≤ e → StaysWell doc a e n

abbrev pub StaysAreBounded : Type 0
StaysAreBounded = (doc : Doc) → IsLawfulDoc doc → StayIsBounded doc
