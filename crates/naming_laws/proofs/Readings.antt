-- What a document that was read has can be written: its objects, as they are and as they are stored, and those of its events.
use Rattle.std.proofs.Common.{◌≡◌, ℕ, ◌==◌, ◌&&◌, not, Bool, true, false, cond, List, [], ◌∷◌, length, slice_get, Option, Some, None, unwrap_or, refl, sym, subst, inl, inr, arith}
use Rattle.std.proofs.lemmas.Bool.{le-leb}
use Rattle.std.proofs.lemmas.List.Quantifiers.{position-Some}
use Rattle.std.proofs.lemmas.List.Elements.{recursion_from_All}
use Rattle.std.specs.List.{AllByRecursion, list_all}
use Rattle.kube_base.specs.Times.{last_wall}
use Rattle.kube_base.specs.declared.numbers.Wall.{Wall}
use Rattle.kube_objects.specs.declared.key.Key.{Key}
use Rattle.kube_objects.specs.declared.key.Kind.{Kind}
use Rattle.kube_objects.specs.declared.key.Kind.TheVariants as kind
use Rattle.kube_objects.specs.declared.lease.Holder.{Holder}
use Rattle.kube_objects.specs.declared.lease.Holder.TheVariants as holder
use Rattle.kube_objects.specs.declared.node.Ready.{Ready}
use Rattle.kube_objects.specs.declared.node.ReadyStatus.{ReadyStatus}
use Rattle.kube_objects.specs.declared.node.ReadyStatus.TheVariants as ready
use Rattle.kube_objects.specs.declared.node.Taint.{Taint}
use Rattle.kube_objects.specs.declared.object.Object.{Object}
use Rattle.kube_objects.specs.declared.object.Object.TheVariants as object
use Rattle.kube_objects.specs.declared.script.Event.{Event}
use Rattle.kube_objects.specs.declared.script.What.{What}
use Rattle.kube_objects.specs.declared.script.What.TheVariants as what
use Rattle.kube_objects.specs.Document.{Doc}
use Rattle.kube_objects.specs.Newest.{has}
use Rattle.kube_objects.specs.Stamps.{is_no_execute, stamp_taint, stamp_all, stamped}
use Rattle.kube_objects.specs.Writable.{is_posted}
use Rattle.history_laws.proofs.Plainly.{and_both}
use Rattle.history_laws.proofs.Walk.{InScript, Scripted}
use Rattle.manifest_json.specs.Fields.{Texts}
use Rattle.manifest_json.specs.Readable.{IsHeld, IsTime, IsWholeSecond, IsReadableTaint, IsReadableReady, IsReadableHolder, IsReadableToleration, IsReadableItem}
use Rattle.manifest_json.specs.Written.{is_writable, is_writable_taint, is_writable_condition, is_writable_item}
use Rattle.manifest_laws.proofs.ReadableGrows.{all-weaker}
use Rattle.script_reader.specs.Lawful.{IsPosted, IsLawfulWhat, AreLawfulFrom, IsLawfulDoc, IsSpaceNumber, IsNamedKey, IsReadableWhat, IsWellNamed}
use Rattle.script_reader.specs.Walk.{numbers_of}
use Rattle.naming_laws.specs.Items.{IsWritableTaint, IsWritableReady, IsWritableHolder, IsWritableToleration, IsWritableObject, IsWritableItem}
use Rattle.naming_laws.specs.WellFormed.{IsWellFormedObject, IsWellFormedItem, IsWithinLimits}
use Rattle.naming_laws.proofs.Fits.{IsFitWhat}
use Rattle.naming_laws.proofs.Taints.{differ_stamped}
use Rattle.naming_laws.proofs.Texts.{HoldsFixed}

-- ---- what is read

second_time : (o : Option Wall) → IsWholeSecond o → IsTime o
second_time None is = tt
second_time (Some w) is = is.0

ready_fit : (names : Texts) (o : Option Ready) → IsReadableReady names o → IsWritableReady names o
ready_fit names None is = tt
ready_fit names (Some r) is = record { reason = is.reason; heartbeat = second_time r.heartbeat is.heartbeat; transition = second_time r.transition is.transition }

holder_fit : (names : Texts) (known : List ℕ) (x : Holder) → IsReadableHolder names known x → IsWritableHolder names (length known) x
holder_fit names known holder.Nobody is = tt
holder_fit names known (holder.Proc p incarnation) is = (position-Some (λ other. unwrap_or (slice_get known p.0) 0 == other) known p.0 0 is.1).0
holder_fit names known (holder.Foreign n) is = is.0

pub space_held : (names : Texts) → HoldsFixed names → (key : Key) → IsNamedKey names key → IsHeld names key.space
space_held names fixed key named = by_kind key.kind named.1
  where
    by_kind : (kind : Kind) → IsSpaceNumber names kind key.space → IsHeld names key.space
    by_kind kind.Node is = omega (arith, fixed.held, is)
    by_kind kind.Lease is = is.0
    by_kind kind.Pod is = is.0

-- a well-formed object can be written
pub writable_item : (names : Texts) (known : List ℕ) → HoldsFixed names → (key : Key) (x : Object) → IsWellFormedItem names known key x → IsWritableItem names (length known) key x
writable_item names known fixed key x is = record { kind = is.kind; space = space_held names fixed key is.named; name = is.named.0.0; object = by_kind x is.object }
  where
    by_kind : (x : Object) → IsWellFormedObject names known x → IsWritableObject names (length known) x
    by_kind (object.Node n) is = record {
      region = is.region.0;
      zone = is.zone.0;
      taints = all-weaker (IsReadableTaint names) (IsWritableTaint names) n.taints (λ t is. record { key = is.key; value = is.value; added = second_time t.added is.added }) is.taints;
      ready = ready_fit names n.ready is.ready;
    }
    by_kind (object.Lease l) is = record { holder = holder_fit names known l.holder is.holder; acquired = is.acquired; renewed = is.renewed }
    by_kind (object.Pod p) is = record {
      node = is.node.0;
      tolerations = all-weaker (IsReadableToleration names) (IsWritableToleration names) p.tolerations (λ t is. record { key = is.key; value = is.value }) is.tolerations;
    }

-- and what a manifest gave is well-formed
pub item_fit : (names : Texts) (known : List ℕ) (key : Key) (x : Object) → IsReadableItem names known (key, x) → IsWellFormedItem names known key x
item_fit names known key (object.Node n) is = record {
  kind = is.kind;
  named = (is.name, subst (λ kind. IsSpaceNumber names kind key.space) (sym is.kind) is.space);
  object = record { region = is.region; zone = is.zone; taints = is.taints; differ = is.differ; ready = is.ready };
}
item_fit names known key (object.Lease l) is = record {
  kind = is.kind;
  named = (is.name, subst (λ kind. IsSpaceNumber names kind key.space) (sym is.kind) is.space);
  object = record { holder = is.holder; duration = is.duration; acquired = is.acquired; renewed = is.renewed; transitions = is.transitions };
}
item_fit names known key (object.Pod p) is = record {
  kind = is.kind;
  named = (is.name, subst (λ kind. IsSpaceNumber names kind key.space) (sym is.kind) is.space);
  object = record { node = is.node; tolerations = is.tolerations };
}

-- within the limits it is what a manifest gives
pub readable_item : (names : Texts) (known : List ℕ) (key : Key) (x : Object) → IsWellFormedItem names known key x → IsWithinLimits x → IsReadableItem names known (key, x)
readable_item names known key (object.Node n) is few = record {
  kind = is.kind;
  space = subst (λ kind. IsSpaceNumber names kind key.space) is.kind is.named.1;
  name = is.named.0;
  region = is.object.region;
  zone = is.object.zone;
  taints = is.object.taints;
  few = few;
  differ = is.object.differ;
  ready = is.object.ready;
}
readable_item names known key (object.Lease l) is few = record {
  kind = is.kind;
  space = subst (λ kind. IsSpaceNumber names kind key.space) is.kind is.named.1;
  name = is.named.0;
  holder = is.object.holder;
  duration = is.object.duration;
  acquired = is.object.acquired;
  renewed = is.object.renewed;
  transitions = is.object.transitions;
}
readable_item names known key (object.Pod p) is few = record {
  kind = is.kind;
  space = subst (λ kind. IsSpaceNumber names kind key.space) is.kind is.named.1;
  name = is.named.0;
  node = is.object.node;
  tolerations = is.object.tolerations;
  few = few;
}

-- ---- what is put

stamp_fit : (names : Texts) (at : ℕ) (t : Taint) → IsWholeSecond (Some (record { 0 = at })) → IsReadableTaint names t → IsReadableTaint names (stamp_taint at t)
stamp_fit names at t whole is = by_test (is_no_execute t.effect && not (has t.added))
  where
    by_test : (b : Bool) → IsReadableTaint names (cond b (record t { added = Some (record { 0 = at }) }) t)
    by_test true = record { key = is.key; filled = is.filled; value = is.value; added = whole }
    by_test false = is

stamps_fit : (names : Texts) (at : ℕ) (ts : List Taint) → IsWholeSecond (Some (record { 0 = at })) → AllByRecursion (IsReadableTaint names) ts → AllByRecursion (IsReadableTaint names) (stamp_all at ts)
stamps_fit names at [] whole all = tt
stamps_fit names at (t ∷ ts) whole all = (stamp_fit names at t whole all.0, stamps_fit names at ts whole all.1)

pub stamped_fit : (names : Texts) (known : List ℕ) (at : ℕ) (key : Key) (x : Object) → IsWholeSecond (Some (record { 0 = at })) → IsWellFormedItem names known key x → IsWellFormedItem names known key (stamped at x)
stamped_fit names known at key (object.Node n) whole is = record {
  kind = is.kind;
  named = is.named;
  object = record {
    region = is.object.region;
    zone = is.object.zone;
    taints = stamps_fit names at n.taints whole is.object.taints;
    differ = differ_stamped at [] n.taints is.object.differ;
    ready = is.object.ready;
  };
}
stamped_fit names known at key (object.Lease l) whole is = is
stamped_fit names known at key (object.Pod p) whole is = is

-- ---- events

pub posted_is : (s : ReadyStatus) → IsPosted s → is_posted s ≡ true
posted_is ready.True is = refl
posted_is ready.False is = refl
posted_is ready.Unknown is = absurd is

pub event_lawful : (doc : Doc) (from : ℕ) (es : List Event) (e : Event) → AreLawfulFrom doc from es → InScript e es → IsLawfulWhat doc e.what
event_lawful doc from [] e ok at = absurd at
event_lawful doc from (x ∷ xs) e ok (inl is) = subst (λ (e : Event). IsLawfulWhat doc e.what) (sym is) ok.2
event_lawful doc from (x ∷ xs) e ok (inr at) = event_lawful doc x.beat.0 xs e ok.3 at

event_readable : (names : Texts) (known : List ℕ) (es : List Event) (e : Event) → AllByRecursion (λ e. IsReadableWhat names known e.what) es → InScript e es → IsReadableWhat names known e.what
event_readable names known [] e ok at = absurd at
event_readable names known (x ∷ xs) e ok (inl is) = subst (λ (e : Event). IsReadableWhat names known e.what) (sym is) ok.0
event_readable names known (x ∷ xs) e ok (inr at) = event_readable names known xs e ok.1 at

what_fit : (names : Texts) (doc : Doc) (known : List ℕ) → HoldsFixed names → (w : What) → IsLawfulWhat doc w → IsReadableWhat names known w → IsFitWhat names known w
what_fit names doc known fixed (what.Put key x) ok read = item_fit names known key x read
what_fit names doc known fixed (what.Remove key) ok read = (space_held names fixed key read, read.0.0)
what_fit names doc known fixed (what.Ready id status) ok read = posted_is status ok.2
what_fit names doc known fixed (what.Rate id ppm) ok read = tt
what_fit names doc known fixed (what.Delay id requests replies) ok read = tt
what_fit names doc known fixed (what.Loss id requests replies) ok read = tt
what_fit names doc known fixed (what.Crash id) ok read = tt
what_fit names doc known fixed (what.Start id) ok read = tt
what_fit names doc known fixed (what.Stop id) ok read = tt
what_fit names doc known fixed (what.Watch id on) ok read = tt
what_fit names doc known fixed (what.Pause id beats) ok read = tt
what_fit names doc known fixed (what.Stall beats) ok read = tt

module _ (names : Texts) (doc : Doc) (fixed : HoldsFixed names) (lawful : IsLawfulDoc doc) (named : IsWellNamed names doc) where
  pub scripted_lawful : (k : ℕ) (w : What) → Scripted doc k w → IsLawfulWhat doc w
  scripted_lawful k w scripted = subst (IsLawfulWhat doc) scripted.2 (event_lawful doc 0 doc.events scripted.0 lawful.events scripted.1)

  pub scripted_fit : (k : ℕ) (w : What) → Scripted doc k w → IsFitWhat names (numbers_of doc.controllers) w
  scripted_fit k w scripted =
      let known = numbers_of doc.controllers in
      let read = event_readable names known doc.events scripted.0 (recursion_from_All (λ e. IsReadableWhat names known e.what) doc.events named.events) scripted.1 in
      what_fit names doc known fixed w (scripted_lawful k w scripted) (subst (IsReadableWhat names known) scripted.2 read)

-- ---- times

time_writable : (o : Option Wall) → IsTime o → is_writable o ≡ true
time_writable None is = refl
time_writable (Some w) is = le-leb w.0 last_wall is

taints_writable : (names : Texts) (ts : List Taint) → AllByRecursion (IsWritableTaint names) ts → list_all is_writable_taint ts ≡ true
taints_writable names [] all = refl
taints_writable names (t ∷ ts) all = and_both (is_writable t.added) (list_all is_writable_taint ts) (time_writable t.added all.0.added) (taints_writable names ts all.1)

condition_writable : (names : Texts) (o : Option Ready) → IsWritableReady names o → is_writable_condition o ≡ true
condition_writable names None is = refl
condition_writable names (Some r) is = and_both (is_writable r.heartbeat) (is_writable r.transition) (time_writable r.heartbeat is.heartbeat) (time_writable r.transition is.transition)

pub item_timely : (names : Texts) (c : ℕ) (key : Key) (x : Object) → IsWritableItem names c key x → is_writable_item (key, x) ≡ true
item_timely names c key (object.Node n) is =
    and_both (list_all is_writable_taint n.taints) (is_writable_condition n.ready) (taints_writable names n.taints is.object.taints) (condition_writable names n.ready is.object.ready)
item_timely names c key (object.Lease l) is =
    and_both (is_writable l.acquired) (is_writable l.renewed) (time_writable l.acquired is.object.acquired) (time_writable l.renewed is.object.renewed)
item_timely names c key (object.Pod p) is = refl
