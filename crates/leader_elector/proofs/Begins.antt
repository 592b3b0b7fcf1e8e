-- A release begins with its call.
use Rattle.std.proofs.Common.{◌≡◌, ◌∙◌, ℕ, Bool, true, false, cond, List, [], ◌∷◌, Option, Some, None, refl, sym, ap, arith, ◌+◌, ◌<◌, ◌^◌}
use Rattle.std.proofs.Math.Nat.{min-eq_left}
use Rattle.kube_objects.specs.declared.call.Request.{Request}
use Rattle.kube_objects.specs.declared.call.Request.TheVariants.{Update}
use Rattle.kube_objects.specs.declared.rules.ReleaseRule.{ReleaseRule}
use Rattle.kube_objects.specs.declared.rules.ReleaseRule.TheVariants.{Stop, Own, Checked, Reread}
use Rattle.kube_objects.specs.CallSlots.{next_number}
use Rattle.kube_objects.specs.Elector.{Shown, given_up, release_from}
use Rattle.kube_objects.specs.Entry.{Call, CallKind, Crashes, Emptying, Entry, Fact, Fast, Identity, Look, Plain, Release, ReleaseBegins, ReleaseEnds, ReleaseStops}
use Rattle.kube_objects.specs.Identities.{is_by, is_own}
use Rattle.kube_objects.specs.Newest.{or_else, when}
use Rattle.kube_objects.specs.Process.{ending_says, is_ending, is_releasing, open_as, release_begun, releasing_says}
use Rattle.kube_objects.specs.Releases.{emptying_of, first_call}
use Rattle.kube_objects.specs.Stored.{election}
use Rattle.kube_objects.proofs.OwnCalls.{said}
use Rattle.leader_elector.specs.Releases.{is_look, request_by}
use Rattle.leader_elector.specs.Stands.{looks_in}
use Rattle.leader_elector.proofs.Frames.{last_ending, last_releasing}

-- ---- the call, by its request

abbrev kind_by : Bool → ℕ → CallKind
kind_by looks k = cond looks (Look k) (Emptying k)

abbrev pub call_kind : ℕ → Request → CallKind
call_kind k request = kind_by (is_look request) k

-- what empties the record last shown is no look
empties : (q : Identity) (at : ℕ) (last : Option Shown) (request : Request) → release_from q at last ≡ Some request → is_look request ≡ false
empties q at None request is = absurd (cc)
empties q at (Some x) request is = by_test (is_own q x.1.holder) is
  where
    by_test : (b : Bool) → when b (Update election x.0 (given_up at x.1)) ≡ Some request → is_look request ≡ false
    by_test true is = sym (ap (λ o. is_look (or_else request o)) is)
    by_test false is = absurd (cc)

-- what the elector asks first is what the history begins the release with
pub first-call : (rule : ReleaseRule) (k : ℕ) (q : Identity) (at : ℕ) (last : Option Shown) (request : Request) → request_by rule (release_from q at last) ≡ Some request
    → first_call rule k (release_from q at last) ≡ Some (call_kind k request, request)
first-call Stop k q at last request is = absurd (cc)
first-call Own k q at last request is = ap (emptying_of k) is ∙ ap (λ b. Some (kind_by b k, request)) (sym (empties q at last request is))
first-call Checked k q at last request is = ap (λ o. Some (call_kind k (or_else request o), or_else request o)) is
first-call Reread k q at last request is = ap (λ o. Some (call_kind k (or_else request o), or_else request o)) is

pub no-call : (rule : ReleaseRule) (k : ℕ) (own : Option Request) → request_by rule own ≡ None → first_call rule k own ≡ None
no-call Stop k own is = refl
no-call Own k own is = ap (emptying_of k) is
no-call Checked k own is = absurd (cc)
no-call Reread k own is = absurd (cc)

open_by : (b : Bool) (k : ℕ) (call : Call) → open_as (kind_by b k) call ≡ Some call
open_by true k call = refl
open_by false k call = refl

-- its reply is waited for
pub call-opens : (k : ℕ) (request : Request) (call : Call) → open_as (call_kind k request) call ≡ Some call
call-opens k request call = open_by (is_look request) k call

looks_by : (b : Bool) (k : ℕ) → b ≡ looks_in (kind_by b k)
looks_by true k = refl
looks_by false k = refl

pub call-looks : (k : ℕ) (request : Request) → is_look request ≡ looks_in (call_kind k request)
call-looks k request = looks_by (is_look request) k

begun_by_rule : (rule : ReleaseRule) (own : Option Request) (request : Request) (b : Bool) (k : ℕ) → request_by rule own ≡ Some request → release_begun rule (kind_by b k) ≡ Some k
begun_by_rule Stop own request b k is = absurd (cc)
begun_by_rule Own own request true k is = refl
begun_by_rule Own own request false k is = refl
begun_by_rule Checked own request true k is = refl
begun_by_rule Checked own request false k is = refl
begun_by_rule Reread own request true k is = refl
begun_by_rule Reread own request false k is = refl

-- its release began at its beat
pub call-begun : (rule : ReleaseRule) (own : Option Request) (request : Request) (k : ℕ) → request_by rule own ≡ Some request → release_begun rule (call_kind k request) ≡ Some k
call-begun rule own request k is = begun_by_rule rule own request (is_look request) k is

-- an emptying is of the release of its look
pub emptying-begun : (rule : ReleaseRule) (begun from : ℕ) → release_begun rule (Look begun) ≡ Some from → release_begun rule (Emptying begun) ≡ Some from
emptying-begun Stop begun from is = is
emptying-begun Own begun from is = is
emptying-begun Checked begun from is = is
emptying-begun Reread begun from is = is

-- the call that is looked at is the one that waits
pub kind_of-call : (a b : Call) → Some a ≡ Some b → a.kind ≡ b.kind
kind_of-call a b is = ap (λ o. (or_else a o).kind) is

-- what looks is a look
pub look-kind : (kind : CallKind) → looks_in kind ≡ true → (begun : ℕ) × (kind ≡ Look begun)
look-kind Plain is = absurd (cc)
look-kind Fast is = absurd (cc)
look-kind Release is = absurd (cc)
look-kind (Look begun) is = (begun, refl)
look-kind (Emptying begun) is = absurd (cc)

-- a number that fits is the next one
pub next-in : (n : ℕ) → n + 1 < 2 ^ 64 → next_number n ≡ n + 1
next-in n room = min-eq_left (omega (arith, room))

-- ---- without a release

-- none runs that began at the deadline
pub unending : (q : Identity) (h : List Entry) → is_releasing q h ≡ false → is_ending q h ≡ false
unending q [] is = refl
unending q (e ∷ h) is = by_fact (unending q h) e.fact is
  where
    begins : (own at_deadline : Bool) (releasing ending : Option Bool) → (or_else false releasing ≡ false → or_else false ending ≡ false)
        → or_else false (said (when own true) releasing) ≡ false → or_else false (said (when own at_deadline) ending) ≡ false
    begins true at_deadline releasing ending rest is = absurd (cc)
    begins false at_deadline releasing ending rest is = rest is

    stops : (own : Bool) (ending : Option Bool) → or_else false ending ≡ false → or_else false (said (when own false) ending) ≡ false
    stops true ending is = refl
    stops false ending is = is

    over : (own : Bool) (releasing ending : Option Bool) → (or_else false releasing ≡ false → or_else false ending ≡ false)
        → or_else false (said (when own false) releasing) ≡ false → or_else false (said (when own false) ending) ≡ false
    over true releasing ending rest is = refl
    over false releasing ending rest is = rest is

    by_fact : (is_releasing q h ≡ false → is_ending q h ≡ false) → (d : Fact) → or_else false (said (releasing_says q e.actor d) (last_releasing q h)) ≡ false
        → or_else false (said (ending_says q e.actor d) (last_ending q h)) ≡ false
    by_fact rest (ReleaseBegins at_deadline) is = begins (is_by q e.actor) at_deadline (last_releasing q h) (last_ending q h) rest is
    by_fact rest ReleaseStops is = stops (is_by q e.actor) (last_ending q h) (rest is)
    by_fact rest ReleaseEnds is = over (is_by q e.actor) (last_releasing q h) (last_ending q h) rest is
    by_fact rest Crashes is = over (is_by q e.actor) (last_releasing q h) (last_ending q h) rest is
    by_fact rest _ is = rest is
