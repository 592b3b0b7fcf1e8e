-- Versions are given by writes, only rise, and tell the content.
use Rattle.std.proofs.Common.{◌≡◌, ◌⊎◌, ℕ, ◌+◌, ◌≤◌, ◌<◌, List, [], ◌∷◌, Option, Some, None, refl, sym, ap, ◌∙◌, subst, inl, inr, ⊎_elim, arith}
use Rattle.kube_base.specs.declared.numbers.Version.{Version}
use Rattle.kube_objects.specs.declared.key.Key.{Key}
use Rattle.kube_objects.specs.declared.object.Object.{Object}
use Rattle.kube_objects.specs.Entry.{Entry}
use Rattle.kube_objects.specs.Identities.{identity_of}
use Rattle.kube_objects.specs.Newest.{added, has, join}
use Rattle.kube_objects.specs.Stored.{Held, Write, holds, last_write, stored, writes, next_version, at_key, write_of}
use Rattle.history_laws.specs.Tails.{IsTail}
use Rattle.history_laws.specs.Versions.{IsWritten, VersionsAreGiven, VersionsRise, VersionsAreContents}
use Rattle.history_laws.proofs.Plainly.{upper, some_is, none_is, added_more}
use Rattle.history_laws.proofs.Tailed.{writes_tail}

-- a write of a key is a write
counted_write : (key : Key) (w : Option Write) (o : Option Object) (n : ℕ) → at_key key w ≡ Some o → added (has w) n ≡ n + 1
counted_write key None o n is = absurd (none_is o is)
counted_write key (Some w) o n is = refl

-- what is stored after one more entry
abbrev after : Key → Entry → List Entry → Option (Option Object) → Option Held
after key e h o = join (upper (holds h e.beat e.actor o) (last_write key h))

record Given (key : Key) (h : List Entry) (x : Held) : Type 0 where
  pub written : IsWritten key h x
  pub within : x.version.0 ≤ writes h

given : (h : List Entry) (key : Key) (x : Held) → stored key h ≡ Some x → Given key h x
given [] key x is = absurd (none_is x is)
given (e ∷ h) key x is = cases (λ is. given h key x is) (at_key key (write_of e.fact)) refl is
  where
    older : Given key h x → Given key (e ∷ h) x
    older r = record {
      written = record { e = r.written.e; before = r.written.before; position = inr r.written.position; write = r.written.write; version = r.written.version; beat = r.written.beat; by = r.written.by };
      within = omega (arith, r.within, added_more (has (write_of e.fact)) (writes h));
    }

    new : (object : Object) → at_key key (write_of e.fact) ≡ Some (Some object) → (record { version = next_version h; object = object; beat = e.beat; by = identity_of e.actor } ≡ x) → Given key (e ∷ h) x
    new object at is = subst (Given key (e ∷ h)) is (record {
      written = record { e = e; before = h; position = inl refl; write = at; version = refl; beat = refl; by = refl };
      within = omega (arith, counted_write key (write_of e.fact) (Some object) (writes h) at);
    })

    cases : (stored key h ≡ Some x → Given key h x) → (o : Option (Option Object)) → at_key key (write_of e.fact) ≡ o → after key e h o ≡ Some x → Given key (e ∷ h) x
    cases below None at is = older (below is)
    cases below (Some None) at is = absurd (none_is x is)
    cases below (Some (Some object)) at is = new object at (some_is (record { version = next_version h; object = object; beat = e.beat; by = identity_of e.actor }) x is)

pub version_within : (key : Key) (h : List Entry) (x : Held) → stored key h ≡ Some x → x.version.0 ≤ writes h
version_within key h x is = (given h key x is).within

pub versions_are_given : VersionsAreGiven
versions_are_given h key x is = let r = given h key x is in (r.written, r.within)

-- what is stored later is the same, or was written since
pub same_or_since : (g h : List Entry) → IsTail g h → (key : Key) (x y : Held) → stored key g ≡ Some x → stored key h ≡ Some y → (x ≡ y) ⊎ (writes g < y.version.0)
same_or_since g [] at key x y was is = absurd (none_is y is)
same_or_since g (e ∷ h) (inl same) key x y was is = inl (some_is x y (sym was ∙ ap (stored key) same ∙ is))
same_or_since g (e ∷ h) (inr at) key x y was is = cases (λ is. same_or_since g h at key x y was is) (at_key key (write_of e.fact)) is
  where
    cases : (stored key h ≡ Some y → (x ≡ y) ⊎ (writes g < y.version.0)) → (o : Option (Option Object)) → after key e h o ≡ Some y → (x ≡ y) ⊎ (writes g < y.version.0)
    cases below None is = below is
    cases below (Some None) is = absurd (none_is y is)
    cases below (Some (Some object)) is =
        let new = some_is (record { version = next_version h; object = object; beat = e.beat; by = identity_of e.actor }) y is in
        let number : writes h + 1 ≡ y.version.0 = ap (λ (y : Held). y.version.0) new in
        inr (omega (arith, number, writes_tail g h at))

pub versions_rise : VersionsRise
versions_rise g h at key x y was is =
    ⊎_elim (λ same. let e : x.version.0 ≡ y.version.0 = ap (λ (y : Held). y.version.0) same in omega (arith, e)) (λ since. omega (arith, since, version_within key g x was)) (same_or_since g h at key x y was is)

pub versions_are_contents : VersionsAreContents
versions_are_contents g h at key x y was is same =
    ⊎_elim (λ one. one) (λ since. let e : x.version.0 ≡ y.version.0 = ap (λ (v : Version). v.0) same in absurd (omega (arith, since, version_within key g x was, e))) (same_or_since g h at key x y was is)
