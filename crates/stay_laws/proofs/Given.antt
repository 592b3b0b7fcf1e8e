-- Successes whose answer was given in a span.
use Rattle.std.proofs.Common.{◌≡◌, ◌<◌, ◌≤◌, ℕ, suc, ◌+◌, true, List, ◌∷◌, refl, arith}
use Rattle.kube_base.specs.declared.numbers.Version.{Version}
use Rattle.kube_objects.specs.declared.call.Reply.TheVariants.{Done}
use Rattle.kube_objects.specs.Document.{Doc, is_controller}
use Rattle.kube_objects.specs.Elector.{succeeds}
use Rattle.kube_objects.specs.Entry.{Entry, Identity, Call, Delivers, entry}
use Rattle.kube_objects.specs.Own.{ReleasesByStop}
use Rattle.history.specs.History.{history}
use Rattle.history_laws.specs.Tails.{IsTail}
use Rattle.takeover_laws.specs.Calm.{IsSteady}
use Rattle.calm_laws.proofs.Origins.{Origin, origin}
use Rattle.stay_laws.specs.Stays.{HasSuccess}
use Rattle.call_laws.proofs.Sending.{IsFree}
use Rattle.stay_laws.proofs.Sendings.{IsWay, free, way}

-- a success in beat y whose answer was given at beat a or later, and came as a steady controller's does; its call may have been sent before
pub record IsGiven (doc : Doc) (near far a : ℕ) (q : Identity) (y : ℕ) : Type 0 where
  pub call : Call
  pub version : Version
  pub before : List Entry
  pub position : IsTail (entry y 3 q (Delivers call (Done version) true) ∷ before) (history doc (suc y))
  pub success : succeeds call.request (Done version) ≡ true
  pub o : Origin doc q call (Done version) before y
  pub from : a ≤ o.e.beat
  pub sent : o.begun.f.beat < o.e.beat
  pub least : o.e.beat + near ≤ y
  pub most : y ≤ o.e.beat + far

-- so is one of a call that was sent then
pub given_of : (doc : Doc) → ReleasesByStop doc → (near far a e : ℕ) (q : Identity) → is_controller doc q.process ≡ true → IsSteady doc near far a e q.process → 1 ≤ near → (y : ℕ) → y ≤ e → HasSuccess doc q a y → IsGiven doc near far a q y
given_of doc rules near far a e q role steady one y to s = record {
  call = s.call;
  version = s.version;
  before = s.before;
  position = s.position;
  success = s.success;
  o = o;
  from = omega (arith, ways.sent_least, s.since, sender.sent);
  sent = omega (arith, ways.sent_least, one);
  least = ways.comes_least;
  most = ways.comes_most;
}
  where
    o : Origin doc q s.call (Done s.version) s.before y
    o = origin doc rules (suc y) q (entry y 3 q (Delivers s.call (Done s.version) true)) s.before s.call (Done s.version) s.position refl refl

    sender : IsFree q o.begun.f o.begun.before s.call
    sender = free doc rules near far a e q role steady s.call (Done s.version) s.before y s.position o to

    ways : IsWay near far o.begun.f.beat o.e.beat y
    ways = way doc rules near far a e q role steady s.call (Done s.version) s.before y s.position o to (omega (arith, s.since, sender.sent))
