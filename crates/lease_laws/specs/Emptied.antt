-- How long a leader acts that has asked to empty its Lease: until it has the answer, and no longer than its call and its release may take.
use Rattle.std.specs.Prelude.{◌≡◌, ◌<◌, ◌≤◌, ℕ, ◌+◌, Bool, List, Option}
use Rattle.kube_objects.specs.declared.call.Reply.{Reply}
use Rattle.kube_objects.specs.Clocks.{local}
use Rattle.kube_objects.specs.Document.{Doc, call_timeout, renew_deadline}
use Rattle.kube_objects.specs.Entry.{Entry, Identity, Call, Emptying, Sends, Delivers, actor_of}
use Rattle.history.specs.History.{at_turn}
use Rattle.history.specs.Safe.{IsActing}
use Rattle.history_laws.specs.Tails.{In}

-- the call stands in the history that an identity has sent
pub record HasAsked (q : Identity) (c : Call) (h : List Entry) : Type 0 where
  pub e : Entry
  pub stands : In e h
  pub by : e.actor ≡ actor_of q
  pub arrives : Option ℕ
  pub sends : e.fact ≡ Sends c arrives

-- a reply to it has come to the identity
pub record HasHeard (q : Identity) (c : Call) (h : List Entry) : Type 0 where
  pub e : Entry
  pub stands : In e h
  pub by : e.actor ≡ actor_of q
  pub answered : Call
  pub reply : Reply
  pub counted : Bool
  pub delivers : e.fact ≡ Delivers answered reply counted
  pub number : answered.number ≡ c.number
  pub later : c.sent < e.beat

-- whoever acts at beat k hasn't heard of an emptying that it sent in a release which began at a beat, and neither the call's timeout nor a renew
-- deadline since that beat is over
pub record ActsUntil (doc : Doc) (q : Identity) (k begun : ℕ) (c : Call) : Type 0 where
  pub unheard : HasHeard q c (at_turn doc q.process k) → ⊥
  pub call : local doc q.process k ≤ local doc q.process c.sent + call_timeout doc q.process
  pub release : local doc q.process k < local doc q.process begun + renew_deadline doc q.process

abbrev pub ActsUntilHeard : Type 0
ActsUntilHeard = (doc : Doc) (q : Identity) (k begun : ℕ) (c : Call) → IsActing doc q k → c.kind ≡ Emptying begun → HasAsked q c (at_turn doc q.process k) → ActsUntil doc q k begun c
