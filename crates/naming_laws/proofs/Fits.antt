-- Histories of which all can be written: what each entry prints, writes and carries. So what is stored and seen can be written, too.
use Rattle.std.proofs.Common.{◌≡◌, ℕ, ◌≤◌, ◌||◌, Bool, true, false, List, [], ◌∷◌, Option, Some, None, refl, sym, subst, inl, inr}
use Rattle.kube_base.specs.Times.{last_wall}
use Rattle.kube_base.specs.declared.numbers.Version.{Version}
use Rattle.kube_objects.proofs.KeyOrder.{same_key}
use Rattle.kube_objects.specs.declared.call.Reply.{Reply}
use Rattle.kube_objects.specs.declared.call.Reply.TheVariants.{Found}
use Rattle.kube_objects.specs.declared.call.Request.{Request}
use Rattle.kube_objects.specs.declared.call.Request.TheVariants.{Get, Create, Update, PostStatus}
use Rattle.kube_objects.specs.declared.deed.Act.{Act}
use Rattle.kube_objects.specs.declared.deed.Actor.{Actor}
use Rattle.kube_objects.specs.declared.key.Key.{Key}
use Rattle.kube_objects.specs.declared.key.Kind.TheVariants as kind
use Rattle.kube_objects.specs.declared.node.Node.{Node}
use Rattle.kube_objects.specs.declared.object.Object.{Object}
use Rattle.kube_objects.specs.declared.object.Object.TheVariants as object
use Rattle.kube_objects.specs.declared.script.What.{What}
use Rattle.kube_objects.specs.declared.script.What.TheVariants.{Put, Remove, Ready}
use Rattle.kube_objects.specs.Answers.{as_kind, node_in}
use Rattle.kube_objects.specs.Entry.{Entry, Identity, Fact, First, Event as Happens, Starts, Crashes, Stops, Stalls, Ends, ReleaseBegins, ReleaseEnds, StepsDown, ReleaseStops, Sends, Answers, Delivers, Expires, Leads, Ticks, Tick, Sync}
use Rattle.kube_objects.specs.Identities.{is_by}
use Rattle.kube_objects.specs.Keys.{key_eq}
use Rattle.kube_objects.specs.Newest.{newest, when, only_if, join}
use Rattle.kube_objects.specs.Seen.{tick_shows, seen_says, seen, seen_node}
use Rattle.kube_objects.specs.Stored.{Held, Write, node_key, at_key, holds, stored, tick_write, write_of}
use Rattle.kube_objects.specs.Writable.{is_election, is_node_lease, is_posted, is_script, is_by_script, IsWritableAct}
use Rattle.history.specs.Printed.{act_of}
use Rattle.history_laws.specs.Tails.{In, IsTail}
use Rattle.history_laws.proofs.Plainly.{upper, some_is, none_is}
use Rattle.history_laws.proofs.Versions.{versions_are_given}
use Rattle.manifest_json.specs.Fields.{Texts}
use Rattle.manifest_json.specs.Readable.{IsHeld, IsNameNumber}
use Rattle.naming_laws.specs.WellFormed.{IsWellFormedNode, IsWellFormedLease, IsWellFormedItem}

-- ---- what is sent, answered and put

-- the election Lease's key, or that of a node's Lease
abbrev pub IsLeaseKey : Texts → Key → Type 0
IsLeaseKey names key = (key.kind ≡ kind.Lease) × ((is_election key || is_node_lease key) ≡ true) × IsNameNumber names key.space × IsNameNumber names key.name

abbrev pub IsFitRequest : Texts → List ℕ → Request → Type 0
IsFitRequest names known (Get key) = IsLeaseKey names key
IsFitRequest names known (Create key lease) = IsLeaseKey names key × IsWellFormedLease names known lease
IsFitRequest names known (Update key given lease) = IsLeaseKey names key × IsWellFormedLease names known lease
IsFitRequest names known (PostStatus name status at) = IsNameNumber names name × (is_posted status ≡ true) × (at.0 ≤ last_wall)

abbrev pub IsFitReply : Texts → List ℕ → Reply → Type 0
IsFitReply names known (Found version lease) = IsWellFormedLease names known lease
IsFitReply names known _ = Unit {0}

abbrev pub IsFitWhat : Texts → List ℕ → What → Type 0
IsFitWhat names known (Put key object) = IsWellFormedItem names known key object
IsFitWhat names known (Remove key) = IsHeld names key.space × IsHeld names key.name
IsFitWhat names known (Ready id status) = is_posted status ≡ true
IsFitWhat names known _ = Unit {0}

abbrev pub IsFitContent : Texts → List ℕ → Key → Option Object → Type 0
IsFitContent names known key None = Unit {0}
IsFitContent names known key (Some object) = IsWellFormedItem names known key object

abbrev pub IsFitWrite : Texts → List ℕ → Option Write → Type 0
IsFitWrite names known None = Unit {0}
IsFitWrite names known (Some write) = IsFitContent names known write.0 write.1

-- ---- entries

abbrev pub IsTold : Texts → Actor → Option Act → Type 0
IsTold names who None = Unit {0}
IsTold names who (Some a) = IsWritableAct names a × (is_script who ≡ is_by_script a)

abbrev pub Carries : Texts → List ℕ → Fact → Type 0
Carries names known (Sends call arrives) = IsFitRequest names known call.request
Carries names known (Answers call reply comes written) = IsFitRequest names known call.request × IsFitReply names known reply
Carries names known (Delivers call reply counted) = IsFitRequest names known call.request × IsFitReply names known reply
Carries names known (Happens what version) = IsFitWhat names known what
Carries names known _ = Unit {0}

pub record IsFitFact (names : Texts) (known : List ℕ) (who : Actor) (d : Fact) : Type 0 where
  pub told : IsTold names who (act_of d)
  pub wrote : IsFitWrite names known (write_of d)
  pub carries : Carries names known d

abbrev pub AreFit : Texts → List ℕ → List Entry → Type 0
AreFit names known [] = Unit {0}
AreFit names known (e ∷ h) = IsFitFact names known e.actor e.fact × AreFit names known h

-- ---- what follows for what is stored and seen

module _ (names : Texts) (known : List ℕ) where
  pub fit_in : (e : Entry) (h : List Entry) → AreFit names known h → In e h → IsFitFact names known e.actor e.fact
  fit_in e [] fit at = absurd at
  fit_in e (x ∷ h) fit (inl is) = subst (λ (e : Entry). IsFitFact names known e.actor e.fact) (sym is) fit.0
  fit_in e (x ∷ h) fit (inr at) = fit_in e h fit.1 at

  fit_tail : (g h : List Entry) → IsTail g h → AreFit names known h → AreFit names known g
  fit_tail g [] at fit = subst (AreFit names known) (sym at) tt
  fit_tail g (e ∷ h) (inl is) fit = subst (AreFit names known) (sym is) fit
  fit_tail g (e ∷ h) (inr at) fit = fit_tail g h at fit.1

  -- what a write leaves at a key
  abbrev IsFitAt : Key → Option (Option Object) → Type 0
  IsFitAt key None = Unit {0}
  IsFitAt key (Some content) = IsFitContent names known key content

  fit_at : (key : Key) (o : Option Write) → IsFitWrite names known o → IsFitAt key (at_key key o)
  fit_at key None fit = tt
  fit_at key (Some w) fit = by_key (key_eq w.0 key) refl
    where
      by_key : (b : Bool) → key_eq w.0 key ≡ b → IsFitAt key (when b w.1)
      by_key true is = subst (λ key. IsFitContent names known key w.1) (same_key w.0 key is) fit
      by_key false is = tt

  pub stored_fit : (h : List Entry) → AreFit names known h → (key : Key) (x : Held) → stored key h ≡ Some x → IsWellFormedItem names known key x.object
  stored_fit h fit key x is =
      let w = (versions_are_given h key x is).0 in
      subst (IsFitAt key) w.write (fit_at key (write_of w.e.fact) (fit_tail (w.e ∷ w.before) h w.position fit).0.wrote)

  abbrev last_seen : Identity → Key → List Entry → Option (Option Held)
  last_seen q key = newest (λ e T. seen_says q key e.beat e.actor e.fact T)

  pub seen_fit : (q : Identity) (h : List Entry) → AreFit names known h → (key : Key) (x : Held) → seen q key h ≡ Some x → IsWellFormedItem names known key x.object
  seen_fit q [] fit key x is = absurd (none_is x is)
  seen_fit q (e ∷ h) fit key x is = cases (λ is. seen_fit q h fit.1 key x is) e.actor e.fact fit.0.wrote is
    where
      Item : Type 0
      Item = IsWellFormedItem names known key x.object

      writes : (seen q key h ≡ Some x → Item) → (who : Actor) (o : Option (Option Object)) → IsFitAt key o → join (upper (holds h e.beat who o) (last_seen q key h)) ≡ Some x → Item
      writes below who None fit is = below is
      writes below who (Some None) fit is = absurd (none_is x is)
      writes below who (Some (Some object)) fit is = subst (λ (y : Held). IsWellFormedItem names known key y.object) (some_is _ x is) fit

      own : (seen q key h ≡ Some x → Item) → (who : Actor) (t : Tick) → IsFitWrite names known (tick_write t) → join (upper (tick_shows key e.beat who t h) (last_seen q key h)) ≡ Some x → Item
      own below who Sync wrote is = stored_fit h fit.1 key x is
      own below who t wrote is = writes below who (at_key key (tick_write t)) (fit_at key (tick_write t) wrote) is

      by_own : (seen q key h ≡ Some x → Item) → (who : Actor) (t : Tick) (b : Bool) → IsFitWrite names known (tick_write t) → join (upper (only_if b (tick_shows key e.beat who t h)) (last_seen q key h)) ≡ Some x → Item
      by_own below who t true wrote is = own below who t wrote is
      by_own below who t false wrote is = below is

      cases : (seen q key h ≡ Some x → Item) → (who : Actor) (d : Fact) → IsFitWrite names known (write_of d) → join (upper (seen_says q key e.beat who d h) (last_seen q key h)) ≡ Some x → Item
      cases below who (Ticks t) wrote is = by_own below who t (is_by q who) wrote is
      cases below who (First key object) wrote is = below is
      cases below who (Happens what version) wrote is = below is
      cases below who Starts wrote is = below is
      cases below who Crashes wrote is = below is
      cases below who Stops wrote is = below is
      cases below who (Stalls beats) wrote is = below is
      cases below who Ends wrote is = below is
      cases below who (ReleaseBegins at_deadline) wrote is = below is
      cases below who ReleaseEnds wrote is = below is
      cases below who StepsDown wrote is = below is
      cases below who ReleaseStops wrote is = below is
      cases below who (Sends call arrives) wrote is = below is
      cases below who (Answers call reply comes written) wrote is = below is
      cases below who (Delivers call reply counted) wrote is = below is
      cases below who (Expires call) wrote is = below is
      cases below who (Leads version) wrote is = below is

  -- a node that is found under its key
  pub record IsFitFound (name : ℕ) (node : Node) : Type 0 where
    pub held : IsNameNumber names name
    pub fit : IsWellFormedNode names node

  found_fit : (name : ℕ) (o : Option Held) → ((x : Held) → o ≡ Some x → IsWellFormedItem names known (node_key name) x.object) → (y : Version × Node) → as_kind node_in o ≡ Some y → IsFitFound name y.1
  found_fit name None fit y is = absurd (none_is y is)
  found_fit name (Some x) fit y is = by_kind x.object (fit x refl) is
    where
      by_kind : (object : Object) → IsWellFormedItem names known (node_key name) object → as_kind node_in (Some (record x { object = object })) ≡ Some y → IsFitFound name y.1
      by_kind (object.Node node) item is = subst (λ (y : Version × Node). IsFitFound name y.1) (some_is (x.version, node) y is) (record { held = item.named.0; fit = item.object })
      by_kind (object.Lease lease) item is = absurd (none_is y is)
      by_kind (object.Pod pod) item is = absurd (none_is y is)

  pub node_seen_fit : (q : Identity) (h : List Entry) → AreFit names known h → (name : ℕ) (y : Version × Node) → seen_node q name h ≡ Some y → IsFitFound name y.1
  node_seen_fit q h fit name y is = found_fit name (seen q (node_key name) h) (λ x is. seen_fit q h fit (node_key name) x is) y is

  pub node_stored_fit : (h : List Entry) → AreFit names known h → (name : ℕ) (y : Version × Node) → as_kind node_in (stored (node_key name) h) ≡ Some y → IsFitFound name y.1
  node_stored_fit h fit name y is = found_fit name (stored (node_key name) h) (λ x is. stored_fit h fit (node_key name) x is) y is
