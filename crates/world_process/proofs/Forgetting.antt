-- What a controller did that has gone down stays so where its term is forgotten: it stands for no fewer histories, in the same incarnation.
use Rattle.std.proofs.Common.{◌≡◌, ℕ, ◌++◌, ◌∙◌, Bool, false, List, [], Option, Some, None, refl, sym, subst}
use Rattle.std.specs.Box.{with_value}
use Rattle.kube_base.specs.declared.numbers.ProcId.{ProcId}
use Rattle.kube_objects.specs.declared.call.Ask.{Ask}
use Rattle.kube_objects.specs.Document.{Doc}
use Rattle.kube_objects.specs.Elector.{leads}
use Rattle.kube_objects.specs.Entry.{Entry, Identity}
use Rattle.kube_objects.specs.Identities.{identity}
use Rattle.kube_objects.specs.Wire.{Back}
use Rattle.history.specs.Printed.{printed}
use Rattle.history.specs.Steps.{attempts}
use Rattle.history_laws.proofs.Plainly.{none_is}
use Rattle.controller_core.specs.declared.term.Term.{Term}
use Rattle.controller_core.specs.TermStands.{TermStands}
use Rattle.watch_cache.specs.Stands.{ticks}
use Rattle.world_process.specs.declared.controller.Controller.{Controller}
use Rattle.world_process.specs.declared.moves.Stopped.{Stopped}
use Rattle.world_process.specs.Controllers.{ControllerStands, Crashed, Replied, StoppedAs, Timed, is_up_as}
use Rattle.world_process.specs.Moves as moves
use Rattle.world_process.specs.Moves.{ended_deeds, settled}
use Rattle.world_process.proofs.Scripted.{down-is}

abbrev StandsOn : Doc → ℕ → Controller → Controller → Type 0
StandsOn doc p old new = (h : List Entry) → ControllerStands doc p h old → ControllerStands doc p h new

asks-forgets : (doc : Doc) (k step : ℕ) (q : Identity) (h next : List Entry) (Old New : List Entry → Type 0) (ask : Option Ask) → ((g : List Entry) → Old g → New g) → moves.AsksOn doc k step q h next Old ask → moves.AsksOn doc k step q h next New ask
asks-forgets doc k step q h next Old New None on a = (a.0, on h a.1)
asks-forgets doc k step q h next Old New (Some ask) on a = record { kind = a.kind; sent = a.sent; number = a.number; stands = λ arrives. on _ (a.stands arrives) }

asks-in-forgets : (doc : Doc) (k step : ℕ) (q : Identity) (h next : List Entry) (Old New : List Entry → Type 0) (ask : Option Ask) → ((g : List Entry) → Old g → New g) → moves.AsksIn doc k step q h next Old ask → moves.AsksIn doc k step q h next New ask
asks-in-forgets doc k step q h next Old New ask on a = record { facts = a.facts; quiet = a.quiet; asks = asks-forgets doc k step q _ next Old New ask on a.asks }

pub crashed-forgets : (doc : Doc) (k : ℕ) (id : ProcId) (h : List Entry) (old new : Controller) (b : Bool) → new.incarnation ≡ old.incarnation → StandsOn doc id.0 old new → Crashed doc k id h old b → Crashed doc k id h new b
crashed-forgets doc k id h old new b same on x =
    subst (λ i. moves.Crashed doc k id h i (λ g. ControllerStands doc id.0 g new) b) (sym same) (record { stands = on _ x.stands; told = x.told })

pub stopped-forgets : (doc : Doc) (k : ℕ) (id : ProcId) (h : List Entry) (old new : Controller) (s : Stopped) → new.incarnation ≡ old.incarnation → StandsOn doc id.0 old new → StoppedAs doc k id h old s → StoppedAs doc k id h new s
stopped-forgets doc k id h old new s same on x =
    subst (λ i. moves.StoppedAs doc k id h i (λ g. ControllerStands doc id.0 g new) s) (sym same)
    (record { told = x.told; asks = asks-in-forgets doc _ _ _ _ _ (λ g. ControllerStands doc id.0 g old) (λ g. ControllerStands doc id.0 g new) s.ask on x.asks })

pub timed-forgets : (doc : Doc) (k p : ℕ) (h : List Entry) (old new : Controller) (ended : Bool) (ask : Option Ask) → new.incarnation ≡ old.incarnation → StandsOn doc p old new → Timed doc k p h old ended ask → Timed doc k p h new ended ask
timed-forgets doc k p h old new ended ask same on x = record {
  told = subst (λ i. printed (attempts doc k p (settled doc k p h)) ≡ printed h ++ ended_deeds k (identity p i) ended) (sym same) x.told;
  asks = subst (λ i. moves.AsksIn doc k 4 (identity p i) h (attempts doc k p (settled doc k p h)) (λ g. ControllerStands doc p g new) ask) (sym same)
      (asks-in-forgets doc _ _ _ _ _ (λ g. ControllerStands doc p g old) (λ g. ControllerStands doc p g new) ask on x.asks);
}

-- a reply that ends a release asks nothing
pub replied-forgets : (doc : Doc) (k p : ℕ) (b : Back) (h : List Entry) (old new : Controller) (ended : Bool) → new.incarnation ≡ old.incarnation → StandsOn doc p old new → Replied doc k p b h old (record { lead = None; ended = ended; ask = None }) →
    Replied doc k p b h new (record { lead = None; ended = ended; ask = None })
replied-forgets doc k p b h old new ended same on x =
    subst (λ i. moves.Replied doc k (identity p i) b h (λ g. ControllerStands doc p g new) (record { lead = None; ended = ended; ask = None })) (sym same)
    (record { told = x.told; asks = record { facts = x.asks.facts; quiet = x.asks.quiet; adds = x.asks.adds; stands = on _ x.asks.stands } })

-- of one that is down only the settings of its term are known
pub stands-forgets : (doc : Doc) (p : ℕ) (h : List Entry) (c : Controller) (t : Term) → is_up_as c.role ≡ false → ControllerStands doc p h c → ((q : Identity) (g : List Entry) → ticks q g ≡ 0 → leads q g ≡ false → TermStands doc q g t) →
    ControllerStands doc p h (record c { term = with_value c.term t })
stands-forgets doc p h c t down s anew = record {
  sort = s.sort;
  me = s.me;
  incarnation = s.incarnation;
  timing = s.timing;
  waits = s.waits;
  clock = s.clock;
  pauses = s.pauses;
  up_first = s.up_first;
  role = s.role;
  term = record { settings = (anew (identity p 0) [] refl refl).parts.settings; each = λ i up. absurd (none_is i (sym (down-is doc p c.incarnation h c.role down s.role) ∙ up)) };
  waking = s.waking;
}
