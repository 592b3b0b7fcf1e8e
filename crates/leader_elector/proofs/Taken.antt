-- What follows a reply that counts, by what is kept.
use Rattle.std.proofs.Common.{◌≡◌, ℕ, Bool, List, Option, Some, None, false, sym, ap, ◌∙◌}
use Rattle.kube_objects.specs.declared.call.Ask.{Ask}
use Rattle.kube_objects.specs.declared.call.Reply.{Reply}
use Rattle.kube_objects.specs.declared.call.Request.{Request}
use Rattle.kube_objects.specs.CallSlots.{next_number}
use Rattle.kube_objects.specs.Elector.{Follow, Fails, Asks, Moment}
use Rattle.kube_objects.specs.Entry.{Plain}
use Rattle.kube_objects.specs.Newest.{or_else}
use Rattle.leader_elector.specs.declared.elector.Elector.{Elector}
use Rattle.leader_elector.specs.declared.follow.Follow as code
use Rattle.leader_elector.specs.Calls.{TakesReply, is_success}
use Rattle.leader_elector.specs.Plain.{BeginsCall, IsSame, ElectorState, Receives, after_reply, asked_next, follow_in, state_of, numbered, with_call}
use Rattle.leader_elector.specs.Stands.{Wait, follow_of}

pub follow-is : {old new : Elector} {m : Moment} {waits : List ℕ} {led : Bool} {w : Wait} {reply : Reply} (f : code.Follow) → Receives old m waits led w reply new (Some f) → follow_in old m w reply (state_of old) ≡ follow_of f
follow-is f r = sym (ap (or_else Fails) r.follow)

-- nothing is sent
pub takes-silent : {old new : Elector} {m : Moment} {waits : List ℕ} {led : Bool} {w : Wait} {reply : Reply} (f : code.Follow) (x : Follow) → follow_of f ≡ x → asked_next x ≡ None
    → Receives old m waits led w reply new (Some f) → TakesReply waits led old m w reply new (is_success x) None
takes-silent {old} {new} {m} {waits} {led} {w} {reply} f x is none r =
    let k = after_reply old m waits led w reply (state_of old) in
    let follow : follow_in old m w reply (state_of old) ≡ x = follow-is f r ∙ is in
    let asked : asked_next (follow_in old m w reply (state_of old)) ≡ None = ap asked_next follow ∙ none in
    record {
      same = r.same;
      succeeds = ap is_success follow;
      asks = sym (ap (numbered k) asked);
      kept = r.kept ∙ sym (ap (with_call old.timing m.now k) asked);
    }

-- a request is sent
pub takes-ask : {old middle new : Elector} {m : Moment} {waits : List ℕ} {led : Bool} {w : Wait} {reply : Reply} (f : code.Follow) (request : Request) (ask : Ask) → follow_of f ≡ Asks request
    → Receives old m waits led w reply middle (Some f) → IsSame middle new → BeginsCall middle m.now (Plain, request) new ask → TakesReply waits led old m w reply new false (Some ask)
takes-ask {old} {middle} {new} {m} {waits} {led} {w} {reply} f request ask is r same b =
    let k = after_reply old m waits led w reply (state_of old) in
    let follow : follow_in old m w reply (state_of old) ≡ Asks request = follow-is f r ∙ is in
    let asked : asked_next (follow_in old m w reply (state_of old)) ≡ Some (Plain, request) = ap asked_next follow in
    record {
      same = record { me = same.me ∙ r.same.me; incarnation = same.incarnation ∙ r.same.incarnation; timing = same.timing ∙ r.same.timing };
      succeeds = ap is_success follow;
      asks = (λ i. Some ((b.number ∙ ap (λ (k : ElectorState). next_number k.calls) r.kept) i, b.request i)) ∙ sym (ap (numbered k) asked);
      kept = b.kept ∙ (λ i. with_call (r.same.timing i) m.now (r.kept i) (Some (Plain, request))) ∙ sym (ap (with_call old.timing m.now k) asked);
    }

-- a reply that counts is followed by something
pub answered-never : {old new : Elector} {m : Moment} {waits : List ℕ} {led : Bool} {w : Wait} {reply : Reply} (answered : Option code.Follow) → answered ≡ None → Receives old m waits led w reply new answered → ⊥
answered-never None is r = absurd (cc)
answered-never (Some f) is r = absurd (cc)
