-- How a write of the map is a write of the history.
use Rattle.std.proofs.Common.{◌≡◌, ℕ, ◌+◌, Bool, true, false, cond, List, [], ◌∷◌, ◌++◌, Option, Some, None, Result, Ok, Err, IfOk, IfErr, OnOk, refl, sym, ap, ◌∙◌, vec_len, subst, arith}
use Rattle.kube_base.specs.declared.numbers.Version.{Version}
use Rattle.kube_objects.specs.declared.call.Reply.TheVariants as reply
use Rattle.kube_objects.specs.declared.key.Key.{Key}
use Rattle.kube_objects.specs.declared.object.Object.{Object}
use Rattle.kube_objects.specs.Entry.{Entry}
use Rattle.kube_objects.specs.Keys.{key_eq}
use Rattle.kube_objects.specs.Newest.{added, has, when, join}
use Rattle.kube_objects.specs.Stored.{Held, Write, stored, writes, write_of, next_version, holds, at_key, last_write}
use Rattle.key_map.specs.Values.{value_at}
use Rattle.object_store.specs.declared.faults.StoreFault.{StoreFault}
use Rattle.object_store.specs.declared.faults.StoreFault.TheVariants as fault
use Rattle.object_store.specs.declared.store.Store.{Store}
use Rattle.object_store.specs.Stands.{StoreStands, Writes, SameStore, kept_as}
use Rattle.object_store.specs.StoreAnswers.{and_key, changed_keys, kept_of, IsReply}
use Rattle.object_store.proofs.KeptLaws.{IsAfter}

-- ---- the history's words at one more entry

-- what an entry with this write leaves, before which this was the last write
abbrev pub left : List Entry → Entry → Key → Option Write → Option (Option Held) → Option (Option Held)
left h e q w before = elim (holds h e.beat e.actor (at_key q w)) [ None ↦ before | Some x ↦ Some x ]

kept-write : (q : Key) (h : List Entry) (e : Entry) (key : Key) (content : Option Object) → write_of e.fact ≡ Some (key, content) → kept_of (stored q (e ∷ h)) ≡ cond (key_eq key q) (kept_as (writes h + 1) content) (kept_of (stored q h))
kept-write q h e key content is = ap (λ w. kept_of (join (left h e q w (last_write q h)))) is ∙ by_test (key_eq key q) content
  where
    by_test : (b : Bool) (c : Option Object) → kept_of (join (elim (holds h e.beat e.actor (when b c)) [ None ↦ last_write q h | Some x ↦ Some x ])) ≡ cond b (kept_as (writes h + 1) c) (kept_of (stored q h))
    by_test true None = refl
    by_test true (Some object) = refl
    by_test false c = refl

-- ---- the relation at one more entry

-- a write that the history has as its newest entry
pub stands_after : (h : List Entry) (e : Entry) (old new : Store) (key : Key) (content : Option Object) → StoreStands h old → Writes old new key content → write_of e.fact ≡ Some (key, content) → StoreStands (e ∷ h) new
stands_after h e old new key content s w is =
    record {
      objects = λ q.
          w.objects q
          ∙ ap (λ n. cond (key_eq key q) (kept_as (n + 1) content) (value_at old.objects q)) s.count
          ∙ ap (λ x. cond (key_eq key q) (kept_as (writes h + 1) content) x) (s.objects q)
          ∙ sym (kept-write q h e key content is);
      changes = w.changes ∙ ap (λ keys. keys ++ key ∷ []) s.changes ∙ ap (λ w. and_key w (changed_keys h)) (sym is);
      count = w.count ∙ ap (λ n. n + 1) s.count ∙ ap (λ w. added (has w) (writes h)) (sym is);
    }

-- what looks the same stands for the same
pub stands_same : (h : List Entry) (old new : Store) → StoreStands h old → SameStore old new → StoreStands h new
stands_same h old new s same = record { objects = λ q. same.objects q ∙ s.objects q; changes = same.changes ∙ s.changes; count = same.count ∙ s.count }

-- an entry that is no write is kept
pub store-beside : (h : List Entry) (e : Entry) (s : Store) → StoreStands h s → write_of e.fact ≡ None → StoreStands (e ∷ h) s
store-beside h e s stands none =
    record {
      objects = λ q. stands.objects q ∙ ap (λ w. kept_of (join (left h e q w (last_write q h)))) (sym none);
      changes = stands.changes ∙ ap (λ w. and_key w (changed_keys h)) (sym none);
      count = stands.count ∙ ap (λ w. added (has w) (writes h)) (sym none);
    }

-- a history without an accepted write is as the empty one
pub stands_unwritten : (h : List Entry) (s : Store) → StoreStands [] s → writes h ≡ 0 → StoreStands h s
stands_unwritten [] s stands none = stands
stands_unwritten (e ∷ h) s stands none = by_write (write_of e.fact) refl none (λ before. stands_unwritten h s stands before)
  where
    by_write : (w : Option Write) → write_of e.fact ≡ w → added (has w) (writes h) ≡ 0 → (writes h ≡ 0 → StoreStands h s) → StoreStands (e ∷ h) s
    by_write None is none more = store-beside h e s (more none) is
    by_write (Some write) is none more = absurd (omega (arith, none))

-- ---- the map's own clauses, in the words of the store

pub writes_map : (old new : Store) (key : Key) (content : Option Object) (n : ℕ) → n ≡ vec_len old.changes + 1
    → vec_len new.changes ≡ n → new.changes.items ≡ old.changes.items ++ key ∷ []
    → IsAfter old.objects new.objects key (kept_as n content) → Writes old new key content
writes_map old new key content n is len items after =
    record {
      objects = λ q. after q ∙ ap (λ m. cond (key_eq key q) (kept_as m content) (value_at old.objects q)) is;
      changes = items;
      count = len ∙ is;
    }

-- where a write was refused, nothing is said of its version
pub written : {E : Type 0} (old new found : Store) (key : Key) (content : Option Object) (r : Result Version E) (v : Version)
    → r ≡ Ok v → found ≡ new → Writes old new key content × (v.0 ≡ vec_len old.changes + 1)
    → IfOk r (λ v. Writes old found key content × (v.0 ≡ vec_len old.changes + 1))
written old new found key content r v is same w =
    subst (λ r. IfOk r (λ v. Writes old found key content × (v.0 ≡ vec_len old.changes + 1))) (sym is)
    (subst (λ s. Writes old s key content × (v.0 ≡ vec_len old.changes + 1)) (sym same) w)

pub not_written : {E : Type 0} (old found : Store) (key : Key) (content : Option Object) (r : Result Version E) (e : E) → r ≡ Err e
    → IfOk r (λ v. Writes old found key content × (v.0 ≡ vec_len old.changes + 1))
not_written old found key content r e is =
    subst (λ r. IfOk r (λ v. Writes old found key content × (v.0 ≡ vec_len old.changes + 1))) (sym is) tt

-- ---- answers

-- the version that a write is given is the history's next
pub next-version : (h : List Entry) (old : Store) (v : Version) → StoreStands h old → v.0 ≡ vec_len old.changes + 1 → v ≡ next_version h
next-version h old v s is =
    let n : v.0 ≡ writes h + 1 = is ∙ ap (λ n. n + 1) s.count in
    let as_version : ℕ → Version = λ n. record { 0 = n } in
    ap as_version n

pub written-version : {E : Type 0} (h : List Entry) (old new : Store) (key : Key) (content : Option Object) (r : Result Version E) → StoreStands h old → IfOk r (λ v. Writes old new key content × (v.0 ≡ vec_len old.changes + 1)) → IfOk r (λ v. v ≡ next_version h)
written-version h old new key content (Ok v) s ok = next-version h old v s ok.1
written-version h old new key content (Err f) s ok = tt

pub written-stands : {E : Type 0} (h : List Entry) (e : Entry) (old new : Store) (key : Key) (content : Option Object) (r : Result Version E) → StoreStands h old → IfOk r (λ v. Writes old new key content × (v.0 ≡ vec_len old.changes + 1)) → write_of e.fact ≡ Some (key, content) → OnOk r (StoreStands (e ∷ h) new)
written-stands h e old new key content (Ok v) s ok is = stands_after h e old new key content s ok.0 is
written-stands h e old new key content (Err f) s ok is = tt

pub written-told : (h : List Entry) (old new : Store) (key : Key) (content : Option Object) (r : Result Version StoreFault) → StoreStands h old → IfOk r (λ v. Writes old new key content × (v.0 ≡ vec_len old.changes + 1)) → IfErr r (λ f. (f ≡ fault.NoMemory) × SameStore old new) → IsReply r (reply.Done (next_version h))
written-told h old new key content (Ok v) s ok err = ap (λ v. reply.Done v) (sym (next-version h old v s ok.1))
written-told h old new key content (Err f) s ok err = subst (λ f. IsReply (Err f) (reply.Done (next_version h))) (sym err.0) tt
