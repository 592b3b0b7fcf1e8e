-- Layer 2, what a history keeps: whoever sent what is on its way is known.
use Rattle.std.proofs.Common.{IfSome, ◌≡◌, ℕ, ◌<◌, ◌≤◌, nat_lt, Bool, true, false, cond, List, [], ◌∷◌, ◌++◌, Option, Some, None, refl, ap, subst, arith}
use Rattle.kube_objects.specs.declared.call.Reply.{Reply}
use Rattle.kube_objects.specs.declared.deed.Actor.{Actor}
use Rattle.kube_objects.specs.declared.deed.Actor.TheVariants as actor
use Rattle.kube_objects.specs.Entry.{Entry, Identity, Call, Fact, First, Event, Starts, Crashes, Stops, Stalls, Ends, StepsDown, ReleaseBegins, ReleaseEnds, ReleaseStops, Sends, Answers, Delivers, Expires, Leads, Ticks}
use Rattle.kube_objects.specs.Identities.{identity, identity_of, is_same, is_by}
use Rattle.kube_objects.specs.InFlight.{is_due, and_request, requests_due, and_reply, replies_due}
use Rattle.kube_objects.specs.Process.{starts}
use Rattle.kube_objects.specs.Wire.{Sent, Back, sent_of, sent_as, back_of, back_as}
use Rattle.world_process.specs.Plain.{IsUnheard, IsOf, IsPlain, SentByKnown, BackToKnown}
use Rattle.world_process.proofs.Names.{lt-from, le-from, is_same-self}

-- ---- who sent it

abbrev EachSent : (Identity → Type 0) → List Sent → Type 0
EachSent P [] = Unit {0}
EachSent P (s ∷ ss) = P s.who × EachSent P ss

abbrev EachBack : (Identity → Type 0) → List Back → Type 0
EachBack P [] = Unit {0}
EachBack P (b ∷ bs) = P b.who × EachBack P bs

abbrev IfIdentity : (Identity → Type 0) → Option Identity → Type 0
IfIdentity P None = Unit {0}
IfIdentity P (Some q) = P q

-- what holds of each entry's actor
abbrev EachActor : (Identity → Type 0) → List Entry → Type 0
EachActor P [] = Unit {0}
EachActor P (e ∷ h) = IfIdentity P (identity_of e.actor) × EachActor P h

sent-append : (P : Identity → Type 0) (ss : List Sent) (s : Sent) → EachSent P ss → P s.who → EachSent P (ss ++ s ∷ [])
sent-append P [] s all is = (is, tt)
sent-append P (x ∷ ss) s all is = (all.0, sent-append P ss s all.1 is)

back-append : (P : Identity → Type 0) (bs : List Back) (b : Back) → EachBack P bs → P b.who → EachBack P (bs ++ b ∷ [])
back-append P [] b all is = (is, tt)
back-append P (x ∷ bs) b all is = (all.0, back-append P bs b all.1 is)

sent-one : (P : Identity → Type 0) (j : ℕ) (s : Option Sent) (ss : List Sent) → EachSent P ss → ((x : Sent) → s ≡ Some x → P x.who) → EachSent P (and_request j s ss)
sent-one P j None ss all is = all
sent-one P j (Some s) ss all is = by_due (is_due j s.arrives)
  where
    by_due : (b : Bool) → EachSent P (cond b (ss ++ s ∷ []) ss)
    by_due true = sent-append P ss s all (is s refl)
    by_due false = all

back-one : (P : Identity → Type 0) (j : ℕ) (b : Option Back) (bs : List Back) → EachBack P bs → ((x : Back) → b ≡ Some x → P x.who) → EachBack P (and_reply j b bs)
back-one P j None bs all is = all
back-one P j (Some b) bs all is = by_due (is_due j b.comes)
  where
    by_due : (t : Bool) → EachBack P (cond t (bs ++ b ∷ []) bs)
    by_due true = back-append P bs b all (is b refl)
    by_due false = all

sent-who : (P : Identity → Type 0) (call : Call) (arrives : Option ℕ) (o : Option Identity) (x : Sent) → IfIdentity P o → sent_as call arrives o ≡ Some x → P x.who
sent-who P call arrives None x is some = cc
sent-who P call arrives (Some q) x is some = let same : q ≡ x.who = ap (λ s. who_in s) some in subst P same is
  where
    who_in : Option Sent → Identity
    who_in None = q
    who_in (Some s) = s.who

back-who : (P : Identity → Type 0) (call : Call) (reply : Reply) (comes : Option ℕ) (o : Option Identity) (x : Back) → IfIdentity P o → back_as call reply comes o ≡ Some x → P x.who
back-who P call reply comes None x is some = cc
back-who P call reply comes (Some q) x is some = let same : q ≡ x.who = ap (λ s. who_in s) some in subst P same is
  where
    who_in : Option Back → Identity
    who_in None = q
    who_in (Some s) = s.who

sent-actor : (P : Identity → Type 0) (who : Actor) (d : Fact) (x : Sent) → IfIdentity P (identity_of who) → sent_of who d ≡ Some x → P x.who
sent-actor P who (First key object) x is some = cc
sent-actor P who (Event what version) x is some = cc
sent-actor P who Starts x is some = cc
sent-actor P who Crashes x is some = cc
sent-actor P who (Stalls beats) x is some = cc
sent-actor P who Stops x is some = cc
sent-actor P who Ends x is some = cc
sent-actor P who StepsDown x is some = cc
sent-actor P who (ReleaseBegins at_deadline) x is some = cc
sent-actor P who ReleaseEnds x is some = cc
sent-actor P who ReleaseStops x is some = cc
sent-actor P who (Sends call arrives) x is some = sent-who P call arrives (identity_of who) x is some
sent-actor P who (Answers call reply comes written) x is some = cc
sent-actor P who (Delivers call reply counted) x is some = cc
sent-actor P who (Expires call) x is some = cc
sent-actor P who (Leads version) x is some = cc
sent-actor P who (Ticks tick) x is some = cc

back-actor : (P : Identity → Type 0) (who : Actor) (d : Fact) (x : Back) → IfIdentity P (identity_of who) → back_of who d ≡ Some x → P x.who
back-actor P who (First key object) x is some = cc
back-actor P who (Event what version) x is some = cc
back-actor P who Starts x is some = cc
back-actor P who Crashes x is some = cc
back-actor P who (Stalls beats) x is some = cc
back-actor P who Stops x is some = cc
back-actor P who Ends x is some = cc
back-actor P who StepsDown x is some = cc
back-actor P who (ReleaseBegins at_deadline) x is some = cc
back-actor P who ReleaseEnds x is some = cc
back-actor P who ReleaseStops x is some = cc
back-actor P who (Sends call arrives) x is some = cc
back-actor P who (Answers call reply comes written) x is some = back-who P call reply comes (identity_of who) x is some
back-actor P who (Delivers call reply counted) x is some = cc
back-actor P who (Expires call) x is some = cc
back-actor P who (Leads version) x is some = cc
back-actor P who (Ticks tick) x is some = cc

sent-each : (P : Identity → Type 0) (j : ℕ) (h : List Entry) → EachActor P h → EachSent P (requests_due j h)
sent-each P j [] all = tt
sent-each P j (e ∷ h) all = sent-one P j (sent_of e.actor e.fact) (requests_due j h) (sent-each P j h all.1) (λ x some. sent-actor P e.actor e.fact x all.0 some)

back-each : (P : Identity → Type 0) (j : ℕ) (h : List Entry) → EachActor P h → EachBack P (replies_due j h)
back-each P j [] all = tt
back-each P j (e ∷ h) all = back-one P j (back_of e.actor e.fact) (replies_due j h) (back-each P j h all.1) (λ x some. back-actor P e.actor e.fact x all.0 some)

-- all actors of a plain history are known
actors-of : (n : ℕ) (h : List Entry) → IsOf n h → EachActor (λ q. q.process < n) h
actors-of n [] all = tt
actors-of n (e ∷ h) all = (by_actor (identity_of e.actor) all.0, actors-of n h all.1)
  where
    by_actor : (o : Option Identity) → IfSome o (λ q. q.process < n) → IfIdentity (λ q. q.process < n) o
    by_actor None is = tt
    by_actor (Some q) is = is

unheard-actors : (q : Identity) (h : List Entry) → IsUnheard q h → EachActor (λ x. is_same x q ≡ false) h
unheard-actors q [] u = tt
unheard-actors q (e ∷ h) u = (by_actor e.actor u.0, unheard-actors q h u.1)
  where
    by_actor : (who : Actor) → is_by q who ≡ false → IfIdentity (λ x. is_same x q ≡ false) (identity_of who)
    by_actor actor.Script is = tt
    by_actor (actor.Proc id incarnation) is = is

started-from : (h : List Entry) (q : Identity) → ((p i : ℕ) → starts p h < i → IsUnheard (identity p i) h) → (IsUnheard q h → is_same q q ≡ false) → q.incarnation ≤ starts q.process h
started-from h q fresh never = by_order (nat_lt (starts q.process h) q.incarnation) refl
  where
    by_order : (b : Bool) → nat_lt (starts q.process h) q.incarnation ≡ b → q.incarnation ≤ starts q.process h
    by_order true is = absurd (let no_more : is_same q q ≡ false = never (fresh q.process q.incarnation (lt-from (starts q.process h) q.incarnation is)) in let same = is_same-self q in cc)
    by_order false is = le-from (starts q.process h) q.incarnation is

sent-known : (n : ℕ) (h : List Entry) → ((p i : ℕ) → starts p h < i → IsUnheard (identity p i) h) → (ss : List Sent) → EachSent (λ q. q.process < n) ss → ((q : Identity) → IsUnheard q h → EachSent (λ x. is_same x q ≡ false) ss) → SentByKnown n h ss
sent-known n h fresh [] within never = tt
sent-known n h fresh (s ∷ ss) within never =
    (record { within = within.0; started = started-from h s.who fresh (λ u. (never s.who u).0) }, sent-known n h fresh ss within.1 (λ q u. (never q u).1))

back-known : (n : ℕ) (h : List Entry) → ((p i : ℕ) → starts p h < i → IsUnheard (identity p i) h) → (bs : List Back) → EachBack (λ q. q.process < n) bs → ((q : Identity) → IsUnheard q h → EachBack (λ x. is_same x q ≡ false) bs) → BackToKnown n h bs
back-known n h fresh [] within never = tt
back-known n h fresh (b ∷ bs) within never =
    (record { within = within.0; started = started-from h b.who fresh (λ u. (never b.who u).0) }, back-known n h fresh bs within.1 (λ q u. (never q u).1))

pub requests-known : (n j : ℕ) (h : List Entry) → IsPlain n h → SentByKnown n h (requests_due j h)
requests-known n j h s = sent-known n h s.fresh (requests_due j h) (sent-each (λ q. q.process < n) j h (actors-of n h s.all)) (λ q u. sent-each (λ x. is_same x q ≡ false) j h (unheard-actors q h u))

pub replies-known : (n j : ℕ) (h : List Entry) → IsPlain n h → BackToKnown n h (replies_due j h)
replies-known n j h s = back-known n h s.fresh (replies_due j h) (back-each (λ q. q.process < n) j h (actors-of n h s.all)) (λ q u. back-each (λ x. is_same x q ≡ false) j h (unheard-actors q h u))

-- who is known stays known while nothing is forgotten
pub sent-later : (n : ℕ) (h g : List Entry) → ((p : ℕ) → starts p h ≤ starts p g) → (ss : List Sent) → SentByKnown n h ss → SentByKnown n g ss
sent-later n h g more [] known = tt
sent-later n h g more (s ∷ ss) known =
    let later = more s.who.process in
    (record { within = known.0.within; started = omega (arith, known.0.started, later) }, sent-later n h g more ss known.1)

pub back-later : (n : ℕ) (h g : List Entry) → ((p : ℕ) → starts p h ≤ starts p g) → (bs : List Back) → BackToKnown n h bs → BackToKnown n g bs
back-later n h g more [] known = tt
back-later n h g more (b ∷ bs) known =
    let later = more b.who.process in
    (record { within = known.0.within; started = omega (arith, known.0.started, later) }, back-later n h g more bs known.1)
