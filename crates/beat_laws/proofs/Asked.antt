-- Processes ask for Leases alone, but for the statuses that kubelets post.
use Rattle.std.proofs.Common.{◌≡◌, ℕ, ◌&&◌, Bool, true, false, cond, List, [], ◌∷◌, Option, Some, None, refl, sym, subst, inl, inr, IfSome}
use Rattle.kube_objects.specs.declared.call.Reply.{Reply}
use Rattle.kube_objects.specs.declared.call.Reply.TheVariants.{Found, Done, Absent}
use Rattle.kube_objects.specs.declared.call.Request.{Request}
use Rattle.kube_objects.specs.declared.call.Request.TheVariants.{Get, Create, Update, PostStatus}
use Rattle.kube_objects.specs.declared.deed.Actor.{Actor}
use Rattle.kube_objects.specs.Document.{Doc}
use Rattle.kube_objects.specs.Clocks.{wall}
use Rattle.kube_objects.specs.Elector.{Moment, Shown, Follow, Fails, Asks, moment, is_blocked, respected, updated, follow_get, not_done, follow_write, follow_on, leads, observed_at, shown, is_valid, renewed, attempt_from, attempt, release_from, given_up, release}
use Rattle.kube_objects.specs.Entry.{Entry, Identity, Call, CallKind, Plain, Fast, Release, Fact, Sends, Delivers, Expires, ReleaseBegins}
use Rattle.kube_objects.specs.Identities.{is_by, is_own, identity_of}
use Rattle.kube_objects.specs.Kubelet.{next_request}
use Rattle.kube_objects.specs.Newest.{when, join}
use Rattle.kube_objects.specs.Process.{open_as, call_says, last_call, call_in}
use Rattle.kube_objects.specs.Stored.{election}
use Rattle.kube_objects.specs.Wire.{Sent, sent_as, sent_of}
use Rattle.kube_objects.specs.declared.rules.ReleaseRule.{ReleaseRule}
use Rattle.kube_objects.specs.declared.rules.ReleaseRule.TheVariants as rules
use Rattle.kube_objects.specs.Releases.{first_call, may_empty, after_look}
use Rattle.history_laws.specs.Bare.{is_lease_request}
use Rattle.history_laws.specs.Tails.{In}
use Rattle.history_laws.proofs.Counting.{when_value, only_value}
use Rattle.history_laws.proofs.Plainly.{upper, none_is, some_is}

abbrev pub IsLeaseRequest : Request → Type 0
IsLeaseRequest r = is_lease_request r ≡ true

abbrev pub IsAsked : Fact → Type 0
IsAsked (Sends call arrives) = IsLeaseRequest call.request
IsAsked _ = Unit {0}

-- each request of the history
abbrev pub AllAsked : List Entry → Type 0
AllAsked [] = Unit {0}
AllAsked (e ∷ h) = IsAsked e.fact × AllAsked h

pub in_asked : (e : Entry) (h : List Entry) → AllAsked h → In e h → IsAsked e.fact
in_asked e [] all at = absurd at
in_asked e (x ∷ h) all (inl is) = subst (λ (e : Entry). IsAsked e.fact) (sym is) all.0
in_asked e (x ∷ h) all (inr at) = in_asked e h all.1 at

pub sent_asked : (who : Actor) (d : Fact) (s : Sent) → IsAsked d → sent_of who d ≡ Some s → IsLeaseRequest s.call.request
sent_asked who (Sends call arrives) s asked is = by_who (identity_of who) is
  where
    by_who : (o : Option Identity) → sent_as call arrives o ≡ Some s → IsLeaseRequest s.call.request
    by_who None is = absurd (none_is s is)
    by_who (Some q) is = subst (λ (s : Sent). IsLeaseRequest s.call.request) (some_is (record { who = q; call = call; arrives = arrives }) s is) asked
sent_asked who d s asked is = absurd (none_is s is)

-- the call that waits
pub waiting_asked : (q : Identity) (h : List Entry) (c : Call) → AllAsked h → call_in q h ≡ Some c → IsLeaseRequest c.request
waiting_asked q [] c all is = absurd (none_is c is)
waiting_asked q (e ∷ h) c all is = cases (waiting_asked q h c all.1) e.actor e.fact all.0 is
  where
    -- an entry that opens a call or closes one, if it says anything
    says : (call_in q h ≡ Some c → IsLeaseRequest c.request) → (b : Bool) (o : Option Call) → (o ≡ Some c → IsLeaseRequest c.request) → join (upper (when b o) (last_call q h)) ≡ Some c → IsLeaseRequest c.request
    says below true o new is = new is
    says below false o new is = below is

    opened : (kind : CallKind) (call : Call) → IsLeaseRequest call.request → open_as kind call ≡ Some c → IsLeaseRequest c.request
    opened Release call asked is = absurd (none_is c is)
    opened kind call asked is = subst (λ (c : Call). IsLeaseRequest c.request) (some_is call c is) asked

    cases : (call_in q h ≡ Some c → IsLeaseRequest c.request) → (who : Actor) (d : Fact) → IsAsked d → join (upper (call_says q who d) (last_call q h)) ≡ Some c → IsLeaseRequest c.request
    cases below who (Sends call arrives) asked is = says below (is_by q who) (open_as call.kind call) (opened call.kind call asked) is
    cases below who (Delivers call reply counted) asked is = says below (counted && is_by q who) None (λ is. absurd (none_is c is)) is
    cases below who (Expires call) asked is = says below (is_by q who) None (λ is. absurd (none_is c is)) is
    cases below who (ReleaseBegins at_deadline) asked is = says below (is_by q who) None (λ is. absurd (none_is c is)) is
    cases below who d asked is = below is

-- ---- what is asked next

abbrev pub AsksLease : Follow → Type 0
AsksLease (Asks r) = IsLeaseRequest r
AsksLease _ = Unit {0}

refused_asks : (kind : CallKind) → AsksLease (not_done kind)
refused_asks Fast = refl
refused_asks kind = tt

get_asks : (q : Identity) (m : Moment) (seen : ℕ) (reply : Reply) → AsksLease (follow_get q m seen reply)
get_asks q m seen Absent = refl
get_asks q m seen (Found version lease) = by_test (is_blocked q m.now seen (respected m.respect m.seconds lease))
  where
    by_test : (b : Bool) → AsksLease (cond b Fails (Asks (Update election version (updated q m lease))))
    by_test true = tt
    by_test false = refl
get_asks q m seen reply = tt

write_asks : (kind : CallKind) (reply : Reply) → AsksLease (follow_write kind reply)
write_asks kind (Done version) = tt
write_asks kind reply = refused_asks kind

pub follow_asks : (doc : Doc) (q : Identity) (k : ℕ) (kind : CallKind) (request : Request) (reply : Reply) (h : List Entry) → AsksLease (follow_on doc q k kind request reply h)
follow_asks doc q k kind (Get key) reply h = get_asks q (moment doc q k) (observed_at doc q h) reply
follow_asks doc q k kind (Create key lease) reply h = write_asks kind reply
follow_asks doc q k kind (Update key given lease) reply h = write_asks kind reply
follow_asks doc q k kind (PostStatus name status at) reply h = tt

pub attempt_asks : (doc : Doc) (q : Identity) (k : ℕ) (h : List Entry) → IsLeaseRequest (attempt doc q k h).1
attempt_asks doc q k h = by_test (doc.settings.fast_renew && leads q h) (attempt_from q (moment doc q k) (observed_at doc q h) (shown q h)) (by_shown (shown q h))
  where
    by_test : (b : Bool) (x : CallKind × Request) → IsLeaseRequest x.1 → IsLeaseRequest (cond {A = CallKind × Request} b x (Plain, Get election)).1
    by_test true x asked = asked
    by_test false x asked = refl

    by_shown : (o : Option Shown) → IsLeaseRequest (attempt_from q (moment doc q k) (observed_at doc q h) o).1
    by_shown None = refl
    by_shown (Some x) = by_test (is_own q x.1.holder && is_valid (moment doc q k).now (observed_at doc q h) x.1) (Fast, Update election x.0 (renewed q (moment doc q k) x.1)) refl

pub release_asks : (doc : Doc) (q : Identity) (k : ℕ) (h : List Entry) (request : Request) → release doc q k h ≡ Some request → IsLeaseRequest request
release_asks doc q k h request is = by_shown (shown q h) (only_value (leads q h) (release_from q (wall doc q.process k) (shown q h)) request is)
  where
    by_shown : (o : Option Shown) → release_from q (wall doc q.process k) o ≡ Some request → IsLeaseRequest request
    by_shown None is = absurd (none_is request is)
    by_shown (Some x) is = subst IsLeaseRequest (when_value (is_own q x.1.holder) (Update election x.0 (given_up (wall doc q.process k) x.1)) request is) refl

-- ---- a release's calls

pub from_asks : (q : Identity) (at : ℕ) (o : Option Shown) → IfSome (release_from q at o) (λ r. IsLeaseRequest r)
from_asks q at None = tt
from_asks q at (Some x) = by_test (is_own q x.1.holder)
  where
    by_test : (b : Bool) → IfSome (when b (Update election x.0 (given_up at x.1))) (λ r. IsLeaseRequest r)
    by_test true = refl
    by_test false = tt

pub first_asks : (rule : ReleaseRule) (k : ℕ) (own : Option Request) → IfSome own (λ r. IsLeaseRequest r) → IfSome (first_call rule k own) (λ call. IsLeaseRequest call.1)
first_asks rules.Stop k own asked = tt
first_asks rules.Own k None asked = tt
first_asks rules.Own k (Some request) asked = asked
first_asks rules.Checked k own asked = refl
first_asks rules.Reread k own asked = refl

pub look_asks : (rule : ReleaseRule) (q : Identity) (at : ℕ) (mine : Bool) (reply : Reply) → IfSome (after_look rule q at mine reply) (λ r. IsLeaseRequest r)
look_asks rule q at mine (Found version lease) = by_test (mine && may_empty rule q lease)
  where
    by_test : (b : Bool) → IfSome (when b (Update election version (given_up at lease))) (λ r. IsLeaseRequest r)
    by_test true = refl
    by_test false = tt
look_asks rule q at mine reply = tt

pub next_asks : (doc : Doc) (q : Identity) (k : ℕ) (request : Request) (reply : Reply) (next : Request) → IsLeaseRequest request → next_request doc q k request reply ≡ Some next → IsLeaseRequest next
next_asks doc q k (PostStatus name status at) reply next asked is = subst IsLeaseRequest (some_is _ next is) refl
next_asks doc q k (Get key) Absent next asked is = subst IsLeaseRequest (some_is _ next is) asked
next_asks doc q k (Get key) (Found version lease) next asked is = subst IsLeaseRequest (some_is _ next is) asked
next_asks doc q k request reply next asked is = absurd (none_is next is)
