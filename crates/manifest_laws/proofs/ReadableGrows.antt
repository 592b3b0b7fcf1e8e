-- What is readable stays so when further names are numbered.
use Rattle.std.proofs.Common.{ℕ, ◌==◌, List, [], ◌∷◌, ◌++◌, length, Option, Some, None, sym, ap, ◌∙◌}
use Rattle.std.specs.List.{AllByRecursion}
use Rattle.kube_objects.specs.declared.key.Key.{Key}
use Rattle.kube_objects.specs.declared.lease.Holder.{Holder}
use Rattle.kube_objects.specs.declared.lease.Holder.TheVariants as holders
use Rattle.kube_objects.specs.declared.lease.Lease.{Lease}
use Rattle.kube_objects.specs.declared.node.Node.{Node}
use Rattle.kube_objects.specs.declared.node.Ready.{Ready}
use Rattle.kube_objects.specs.declared.node.Taint.{Taint}
use Rattle.kube_objects.specs.declared.object.Object.{Object}
use Rattle.kube_objects.specs.declared.object.Object.TheVariants as objects
use Rattle.kube_objects.specs.declared.pod.Pod.{Pod}
use Rattle.kube_objects.specs.declared.pod.Toleration.{Toleration}
use Rattle.manifest_json.specs.Fields.{Texts, is_name, is_label}
use Rattle.manifest_json.specs.Readable.{AreHeld, IsHeld, IsFilled, IsNameNumber, IsLabelNumber, IsReadableTaint, IsReadableReady, IsReadableNode, IsReadableHolder, IsReadableLease, IsReadableToleration, IsNodeNumber, IsReadablePod, IsReadableItem}
use Rattle.manifest_json.specs.Walk.{identity_of}
use Rattle.manifest_json.specs.Written.{text_of}
use Rattle.manifest_laws.proofs.Growing.{Grows, IsHeld-grows, text_of-grows, identity_of-grows}

module _ {A : Type 0} (P : A → Type 0) where
  pub all-weaker : (Q : A → Type 0) (xs : List A) → ((x : A) → P x → Q x) → AllByRecursion P xs → AllByRecursion Q xs
  all-weaker Q [] f all = tt
  all-weaker Q (x ∷ xs) f all = (f x all.0, all-weaker Q xs f all.1)

  pub all-push : (xs : List A) (x : A) → AllByRecursion P xs → P x → AllByRecursion P (xs ++ x ∷ [])
  all-push [] x all one = (one, tt)
  all-push (y ∷ xs) x all one = (all.0, all-push xs x all.1 one)

module _ {a b : Texts} (g : Grows a b) where
  pub AreHeld-grows : (known : List ℕ) → AreHeld a known → AreHeld b known
  AreHeld-grows known held = all-weaker _ _ known (λ n h. IsHeld-grows g n h) held

  pub IsFilled-grows : (n : ℕ) → IsHeld a n → IsFilled a n → IsFilled b n
  IsFilled-grows n held filled = ap (λ t. length t == 0) (text_of-grows g n held) ∙ filled

  pub IsNameNumber-grows : (n : ℕ) → IsNameNumber a n → IsNameNumber b n
  IsNameNumber-grows n h = (IsHeld-grows g n h.0, ap is_name (text_of-grows g n h.0) ∙ h.1)

  pub IsLabelNumber-grows : (n : ℕ) → IsLabelNumber a n → IsLabelNumber b n
  IsLabelNumber-grows n h = (IsHeld-grows g n h.0, ap is_label (text_of-grows g n h.0) ∙ h.1)

  pub IsNodeNumber-grows : (n : ℕ) → IsNodeNumber a n → IsNodeNumber b n
  IsNodeNumber-grows n h =
      let same = text_of-grows g n h.0 in
      (IsHeld-grows g n h.0, λ filled. ap is_name same ∙ h.1 (ap (λ t. length t == 0) (sym same) ∙ filled))

  pub IsReadableTaint-grows : (t : Taint) → IsReadableTaint a t → IsReadableTaint b t
  IsReadableTaint-grows t h =
      record { key = IsHeld-grows g t.key h.key; filled = IsFilled-grows t.key h.key h.filled; value = IsHeld-grows g t.value h.value; added = h.added }

  pub IsReadableReady-grows : (r : Option Ready) → IsReadableReady a r → IsReadableReady b r
  IsReadableReady-grows None h = tt
  IsReadableReady-grows (Some r) h = record { reason = IsHeld-grows g r.reason h.reason; heartbeat = h.heartbeat; transition = h.transition }

  IsReadableNode-grows : (key : Key) (n : Node) → IsReadableNode a key n → IsReadableNode b key n
  IsReadableNode-grows key n h =
      record {
        kind = h.kind;
        space = h.space;
        name = IsNameNumber-grows key.name h.name;
        region = IsLabelNumber-grows n.region h.region;
        zone = IsLabelNumber-grows n.zone h.zone;
        taints = all-weaker _ _ n.taints IsReadableTaint-grows h.taints;
        few = h.few;
        differ = h.differ;
        ready = IsReadableReady-grows n.ready h.ready;
      }

  pub IsReadableHolder-grows : (known : List ℕ) → AreHeld a known → (holder : Holder) → IsReadableHolder a known holder → IsReadableHolder b known holder
  IsReadableHolder-grows known held holders.Nobody h = tt
  IsReadableHolder-grows known held (holders.Proc p incarnation) h = (IsHeld-grows g _ h.0, h.1, h.2, h.3)
  IsReadableHolder-grows known held (holders.Foreign n) h =
      let same = text_of-grows g n h.0 in
      (IsHeld-grows g n h.0, IsFilled-grows n h.0 h.1, ap (identity_of b known) same ∙ identity_of-grows g known (text_of a n) held ∙ h.2)

  IsReadableLease-grows : (known : List ℕ) → AreHeld a known → (key : Key) (l : Lease) → IsReadableLease a known key l → IsReadableLease b known key l
  IsReadableLease-grows known held key l h =
      record {
        kind = h.kind;
        space = IsNameNumber-grows key.space h.space;
        name = IsNameNumber-grows key.name h.name;
        holder = IsReadableHolder-grows known held l.holder h.holder;
        duration = h.duration;
        acquired = h.acquired;
        renewed = h.renewed;
        transitions = h.transitions;
      }

  pub IsReadableToleration-grows : (t : Toleration) → IsReadableToleration a t → IsReadableToleration b t
  IsReadableToleration-grows t h =
      record { key = IsHeld-grows g t.key h.key; value = IsHeld-grows g t.value h.value; seconds = h.seconds; lawful = h.lawful }

  IsReadablePod-grows : (key : Key) (p : Pod) → IsReadablePod a key p → IsReadablePod b key p
  IsReadablePod-grows key p h =
      record {
        kind = h.kind;
        space = IsNameNumber-grows key.space h.space;
        name = IsNameNumber-grows key.name h.name;
        node = IsNodeNumber-grows p.node h.node;
        tolerations = all-weaker _ _ p.tolerations IsReadableToleration-grows h.tolerations;
        few = h.few;
      }

  pub IsReadableItem-grows : (known : List ℕ) → AreHeld a known → (item : Key × Object) → IsReadableItem a known item → IsReadableItem b known item
  IsReadableItem-grows known held (key, objects.Node n) h = IsReadableNode-grows key n h
  IsReadableItem-grows known held (key, objects.Lease l) h = IsReadableLease-grows known held key l h
  IsReadableItem-grows known held (key, objects.Pod p) h = IsReadablePod-grows key p h
