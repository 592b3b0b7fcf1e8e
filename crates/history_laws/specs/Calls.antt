-- The numbers of requests, how many an identity sends, and which call waits while it releases its Lease.
use Rattle.std.specs.Prelude.{◌≡◌, ℕ, suc, ◌+◌, ◌≤◌, true, false, List, ◌∷◌, Some, None, IfSome}
use Rattle.kube_objects.specs.declared.rules.ReleaseRule.TheVariants.{Stop}
use Rattle.kube_objects.specs.CallSlots.{release_of}
use Rattle.kube_objects.specs.Document.{Doc}
use Rattle.kube_objects.specs.Entry.{Entry, Identity}
use Rattle.kube_objects.specs.Process.{alive, begun, is_releasing, call_in}
use Rattle.kube_objects.specs.Wire.{Sent, sent_of}
use Rattle.history.specs.History.{history}
use Rattle.history_laws.specs.Tails.{IsTail}

-- a request's number is one more than how many its sender had sent before
abbrev pub NumbersCount : Type 0
NumbersCount = (doc : Doc) (k : ℕ) (e : Entry) (before : List Entry) → IsTail (e ∷ before) (history doc k)
    → IfSome (sent_of e.actor e.fact) (λ s. s.call.number ≡ begun s.who before + 1)

-- two requests of one identity with one number are one entry
abbrev pub NumbersDiffer : Type 0
NumbersDiffer = (doc : Doc) (k : ℕ) (e f : Entry) (g h : List Entry) (x y : Sent)
    → IsTail (e ∷ g) (history doc k) → IsTail (f ∷ h) (history doc k)
    → sent_of e.actor e.fact ≡ Some x → sent_of f.actor f.fact ≡ Some y → x.who ≡ y.who → x.call.number ≡ y.call.number → e ∷ g ≡ f ∷ h

-- an identity sends at most two requests in a beat: one that a reply causes, and the first of a release that its deadline begins
abbrev pub TwoCallsABeat : Type 0
TwoCallsABeat = (doc : Doc) (q : Identity) (k : ℕ) → begun q (history doc (suc k)) ≤ begun q (history doc k) + 2

-- and so before a beat at most two for each beat before
abbrev pub CallsAreFew : Type 0
CallsAreFew = (doc : Doc) (q : Identity) (k : ℕ) → begun q (history doc k) ≤ k + k

-- where a stop sends a single update, it sends at most one in a beat
abbrev pub OneCallABeat : Type 0
OneCallABeat = (doc : Doc) → doc.settings.rules.release ≡ Stop → (q : Identity) (k : ℕ) → begun q (history doc (suc k)) ≤ begun q (history doc k) + 1

-- and so before a beat at most one for each beat before
abbrev pub StopsMakeFewer : Type 0
StopsMakeFewer = (doc : Doc) → doc.settings.rules.release ≡ Stop → (q : Identity) (k : ℕ) → begun q (history doc k) ≤ k

-- while a release of an identity runs, a call of it waits
abbrev pub ReleasesWait : Type 0
ReleasesWait = (doc : Doc) (q : Identity) (k : ℕ) → is_releasing q (history doc k) ≡ true → (begun : ℕ) × (release_of doc (call_in q (history doc k)) ≡ Some begun)

-- and whoever is up and releases nothing has no call of a release
abbrev pub OthersAreOrdinary : Type 0
OthersAreOrdinary = (doc : Doc) (q : Identity) (k : ℕ) → alive q.process (history doc k) ≡ Some q.incarnation → is_releasing q (history doc k) ≡ false
    → release_of doc (call_in q (history doc k)) ≡ None
