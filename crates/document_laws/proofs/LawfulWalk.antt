-- Each document that the walk gives is lawful, and its names hold its numbers.
use Rattle.std.proofs.Common.{◌≡◌, ℕ, ◌≤◌, List, [], ◌∷◌, length, codes, Result, Ok, Err, refl, sym, ap, subst, ◌∙◌, arith}
use Rattle.std.specs.List.{AllByRecursion}
use Rattle.std.specs.Prelude.{All}
use Rattle.std.proofs.lemmas.List.{length-map}
use Rattle.std.proofs.lemmas.List.Elements.{All-from_recursion, recursion_from_All}
use Rattle.serde_json.specs.Data.{Data}
use Rattle.serde_json.specs.Find.{get}
use Rattle.kube_base.specs.Names.{fixed_names}
use Rattle.kube_objects.specs.Kinds.{IsOfKind}
use Rattle.kube_objects.specs.Document.{Doc}
use Rattle.kube_objects.specs.declared.key.Key.{Key}
use Rattle.kube_objects.specs.declared.object.Object.{Object}
use Rattle.kube_objects.specs.declared.script.Proc.{Proc}
use Rattle.manifest_laws.proofs.FittingItems.{keys-apart, kinds-few, limits-grow, readable-large}
use Rattle.manifest_laws.proofs.Getting.{Gets, done, refused, weaker, and_then}
use Rattle.manifest_laws.proofs.Growing.{Grows, Grows-none, Grows-then}
use Rattle.manifest_laws.proofs.ReadFields.{Reads}
use Rattle.manifest_laws.proofs.ReadItems.{list-reads, IsReadable-grows}
use Rattle.manifest_laws.proofs.ReadableGrows.{all-weaker, AreHeld-grows}
use Rattle.manifest_json.specs.declared.fault.Refusal.{Refusal}
use Rattle.manifest_json.specs.declared.list.Objects.{Objects}
use Rattle.manifest_json.specs.declared.scale.Scale.{Scale}
use Rattle.manifest_json.specs.Faults.{◌>>=◌}
use Rattle.manifest_json.specs.Fields.{Texts}
use Rattle.manifest_json.specs.Walk.{kind_count}
use Rattle.manifest_json.specs.Readable.{AreHeld, IsNameNumber, IsReadableItem, IsReadable}
use Rattle.script_reader.specs.Documents.{doc_of}
use Rattle.script_reader.specs.declared.document.Document.{Document}
use Rattle.script_reader.specs.Fields.{default_of}
use Rattle.kube_objects.specs.Kinds.{IsOfKind}
use Rattle.script_reader.specs.declared.table.Version.{Version}
use Rattle.script_reader.specs.Lawful.{IsLawfulDoc, IsWellNamed}
use Rattle.script_reader.specs.Sets.{sets_in}
use Rattle.script_reader.specs.Limits.{scale_of, kubelet_limit, event_limit, IsWithin}
use Rattle.document_laws.specs.Laws.{DocumentsAreLawful, DocumentsAreWellNamed, DocumentsAreWithin, scale_said}
use Rattle.script_reader.specs.Walk.{settings_at, controllers_in, kubelets_in, objects_in, objects_at, no_objects, numbers_of, cast_of, scope_of, events_in, document_at, data_of, document_walk}
use Rattle.document_laws.proofs.EventRanges.{of-kind, IsOf, AreAll, AreAll-none, events-reads}
use Rattle.document_laws.proofs.FieldRanges.{of_default, of_required}
use Rattle.document_laws.proofs.Scales.{kubelets-most, events-most, top-same, scale-is}
use Rattle.document_laws.specs.WrittenOut.{some_items, sets_said, IsWrittenOut, SetsAreWrittenOut}
use Rattle.document_laws.proofs.OwnRules.{itself}
use Rattle.document_laws.proofs.SetsReadable.{sets-reads}
use Rattle.document_laws.proofs.SetsSaid.{AddsPods, pods-grow, sets-said}
use Rattle.document_laws.proofs.ProcessRanges.{AreProcs, AreProcs-none, named-grow, settings-in, controllers-in, kubelets-in}

-- ---- objects

objects-reads : (version : Version) (names : Texts) (known : List ℕ) (d : Data) → AreHeld names known → Reads names (λ ns r. IsReadable (scale_of version) ns known r.items) (objects_in version names known d)
unfolding objects_in
objects-reads version names known d held = and_then (list-reads (scale_of version) names known (codes "/objects") d held) (λ found f. done _ f)

-- the objects with the Pods of sets behind them: those of `objects`, as they are read without any set, and the Pods that the sets say
record IsBehind (version : Version) (before : Texts) (known : List ℕ) (d : Data) (names : Texts) (all : Objects) : Type 0 where
  pub listed : Objects × Texts
  pub alone : default_of (no_objects, before) (objects_in version before known) (get (codes "objects") d) ≡ Ok listed
  pub adds : AddsPods names listed.0.items (sets_said (some_items (get (codes "podSets") d))) all.items

both : {A : Type 0} {P Q : A → Type 0} {walk : Result A Refusal} → Gets P walk → Gets Q walk → Gets (λ x. P x × Q x) walk
both h k = record { at = λ x e. (h.at x e, k.at x e) }

all-reads : (version : Version) (names : Texts) (known : List ℕ) (d : Data) → AreHeld names known
    → Reads names (λ ns r. IsReadable (scale_of version) ns known r.items × IsBehind version names known d ns r) (objects_at version names known d)
unfolding objects_at
all-reads version names known d held =
    and_then (both (of_default {P = λ r. Grows names r.1 × IsReadable (scale_of version) r.1 known r.0.items} (objects_in version names known) (no_objects, names) (get (codes "objects") d) (Grows-none names, record { each = tt; fit = refl }) (λ o. objects-reads version names known o held)) (itself (default_of (no_objects, names) (objects_in version names known) (get (codes "objects") d)))) (λ listed l.
    let later = AreHeld-grows l.0.0 known held in
    and_then (both (of_default {P = λ r. Grows listed.1 r.1 × IsReadable (scale_of version) r.1 known r.0} (sets_in (scale_of version) listed.1 listed.0.items) (listed.0.items, listed.1) (get (codes "podSets") d) (Grows-none listed.1, l.0.1) (λ sets. sets-reads (scale_of version) known listed.1 listed.0.items sets later l.0.1)) (sets-said (scale_of version) listed.1 listed.0.items (get (codes "podSets") d))) (λ all a.
    done _ (Grows-then l.0.0 a.0.0, (a.0.1, record { listed = listed; alone = l.1; adds = a.1.1 }))))

kinds-agree : {scale : Scale} (names : Texts) (known : List ℕ) (items : List (Key × Object)) → IsReadable scale names known items → All (λ item. IsOfKind item.0 item.1) items
kinds-agree names known items h =
    All-from_recursion (λ item. IsOfKind item.0 item.1) items (all-weaker (IsReadableItem names known) (λ item. IsOfKind item.0 item.1) items (λ item one. of-kind names known item.0 item.1 one) h.each)

-- the names of processes are held
numbers-held : (names : Texts) (ps : List Proc) → All (λ p. IsNameNumber names p.name) ps → AreHeld names (numbers_of ps)
numbers-held names ps all = by ps (recursion_from_All (λ p. IsNameNumber names p.name) ps all)
  where
    by : (ps : List Proc) → AllByRecursion (λ p. IsNameNumber names p.name) ps → AreHeld names (numbers_of ps)
    by [] all = tt
    by (p ∷ ps) all = (all.0.0, by ps all.1)

-- ---- the document

-- what the walk of a value gives: a lawful document within the limits of its version, and names that hold its numbers
record IsWhole (value : Data) (d : Document) : Type 0 where
  pub lawful : IsLawfulDoc (doc_of d)
  pub named : IsWellNamed d.names (doc_of d)
  pub within : IsWithin (scale_said value) (doc_of d)
  pub written : IsWrittenOut value d

document-whole : (value : Data) → Gets (IsWhole value) (document_at value)
unfolding document_at
document-whole value =
    and_then (top-same value) (λ d same.
    and_then (scale-is (get (codes "version") d)) (λ version large.
    and_then (of_required (settings_at version (codes "/settings")) (codes "/settings") (get (codes "settings") d) (settings-in version (codes "/settings"))) (λ said s.
    let settings = said.0 in
    and_then (of_required (controllers_in version settings said.1 fixed_names) (codes "/controllers") (get (codes "controllers") d) (controllers-in settings s.timings s.outlast version said.1 fixed_names)) (λ controllers c.
    let known = numbers_of controllers.0.0 in
    let c_held = numbers-held controllers.1 controllers.0.0 c.1.0.0.named in
    and_then (of_default {P = λ r. Grows controllers.1 r.1 × (AreProcs r.1 r.0 × (length r.0 ≤ kubelet_limit (scale_of version)))} (kubelets_in version settings controllers.1) ([], controllers.1) (get (codes "kubelets") d) (Grows-none controllers.1, (AreProcs-none controllers.1, omega arith)) (kubelets-in settings s.timings s.outlast version controllers.1)) (λ kubelets k.
    let k_held = AreHeld-grows k.0 known c_held in
    and_then (all-reads version kubelets.1 known d k_held) (λ objects o.
    let o_held = AreHeld-grows o.0 known k_held in
    let cast = cast_of controllers.0.0 kubelets.0 in
    let scope = scope_of version settings in
    let end = settings.end_beat.0 in
    let most = event_limit (scale_of version) in
    and_then (of_default {P = λ r. Grows objects.1 r.1 × AreAll cast most end r.1 r.0} (events_in scope cast objects.1) ([], objects.1) (get (codes "events") d) (Grows-none objects.1, AreAll-none cast most end objects.1) (λ e. events-reads cast scope objects.1 e o_held)) (λ events e.
    let doc : Doc = record { settings = settings; controllers = controllers.0.0; kubelets = kubelets.0; waits = controllers.0.1; objects = objects.0.items; events = events.0 } in
    let whole : Document = record { settings = settings; controllers = controllers.0.0; kubelets = kubelets.0; waits = controllers.0.1; objects = objects.0; events = events.0; names = events.1 } in
    let of : IsOf cast end doc = record { controllers = omega (arith, length-map controllers.0.0 (λ p. p.name)); kubelets = omega (arith, length-map kubelets.0 (λ p. p.name)); end = refl } in
    let from_kubelets = Grows-then o.0 e.0 in
    let within : IsWithin (scale_of version) doc = record { kubelets = k.1.1; objects = λ kind. kinds-few (scale_of version) kind objects.0.items o.1.0.fit; events = e.1.few } in
    done whole (record {
      lawful = record {
        settings = s.lawful;
        controllers = c.1.0.0.lawful;
        some = c.1.0.1;
        few = c.1.0.2;
        controllers_apart = c.1.0.0.apart;
        waits = c.1.1.lawful;
        waits_each = c.1.1.each;
        kubelets = k.1.0.lawful;
        few_kubelets = omega (arith, within.kubelets, kubelets-most (scale_of version));
        kubelets_apart = k.1.0.apart;
        objects = kinds-agree objects.1 known objects.0.items o.1.0;
        objects_apart = keys-apart (scale_of version) objects.0.items o.1.0.fit;
        few_objects = λ kind. (let few : kind_count kind objects.0.items ≤ _ = within.objects kind in omega (arith, few, limits-grow (scale_of version) kind));
        events = e.1.lawful doc of;
        few_events = omega (arith, within.events, events-most (scale_of version));
        apart = e.1.apart;
      };
      named = record {
        controllers = named-grow (Grows-then k.0 from_kubelets) controllers.0.0 c.1.0.0.named;
        kubelets = named-grow from_kubelets kubelets.0 k.1.0.named;
        objects = readable-large (scale_of version) events.1 known objects.0.items (IsReadable-grows e.0 known o_held objects.0.items o.1.0);
        events = e.1.readable;
      };
      within = subst (λ s. IsWithin s doc) (large ∙ ap scale_said same) within;
      written = subst (λ v. IsWrittenOut v whole) same (record {
        version = version;
        names = kubelets.1;
        listed = o.1.1.listed;
        alone = o.1.1.alone;
        pods = o.1.1.adds.more;
        behind = o.1.1.adds.is;
        said = pods-grow e.0 (sets_said (some_items (get (codes "podSets") d))) o.1.1.adds.more o.1.1.adds.pods;
      });
    }))))))))

-- what the walk of bytes gives
record IsFound (bytes : List ℕ) (d : Document) : Type 0 where
  pub value : Data
  pub found : data_of bytes ≡ Ok value
  pub whole : IsWhole value d

bytes-whole : (bytes : List ℕ) → Gets (IsFound bytes) (document_walk bytes)
unfolding document_walk
bytes-whole bytes = by (data_of bytes) refl
  where
    by : (read : Result Data Refusal) → data_of bytes ≡ read → Gets (IsFound bytes) (read >>= document_at)
    by (Ok value) is = weaker (document-whole value) (λ d whole. record { value = value; found = is; whole = whole })
    by (Err e) is = refused e

pub documents-lawful : DocumentsAreLawful
documents-lawful bytes d gives = ((bytes-whole bytes).at d gives).whole.lawful

pub documents-well_named : DocumentsAreWellNamed
documents-well_named bytes d gives = ((bytes-whole bytes).at d gives).whole.named

-- a value that is read
abbrev as_read : Data → Result Data Refusal
as_read value = Ok value

same_value : (v w : Data) → as_read v ≡ as_read w → v ≡ w
same_value v w e = cc

pub documents-within : DocumentsAreWithin
documents-within bytes value d is gives =
    let found = (bytes-whole bytes).at d gives in
    subst (λ v. IsWithin (scale_said v) (doc_of d)) (same_value found.value value (sym found.found ∙ is)) found.whole.within

pub documents-written : SetsAreWrittenOut
documents-written bytes value d is gives =
    let found = (bytes-whole bytes).at d gives in
    subst (λ v. IsWrittenOut v d) (same_value found.value value (sym found.found ∙ is)) found.whole.written
