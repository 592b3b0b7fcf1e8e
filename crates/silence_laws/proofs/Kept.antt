-- The write of what is stored in the election Lease: it is stored at each position since.
use Rattle.std.proofs.Common.{◌≡◌, ◌≤◌, ◌+◌, List, [], ◌∷◌, length, Option, Some, None, refl, sym, ap, ◌∙◌, subst, inl, inr, ⊎_elim, arith}
use Rattle.kube_base.specs.declared.numbers.Version.{Version}
use Rattle.kube_objects.specs.declared.call.Reply.{Reply}
use Rattle.kube_objects.specs.declared.call.Reply.TheVariants.{Found, Absent}
use Rattle.kube_objects.specs.declared.call.Request.TheVariants.{Get}
use Rattle.kube_objects.specs.declared.lease.Lease.{Lease}
use Rattle.kube_objects.specs.declared.object.Object.{Object}
use Rattle.kube_objects.specs.declared.object.Object.TheVariants as object
use Rattle.kube_objects.specs.Answers.{lease_in, versioned, as_kind, answer_get, answer}
use Rattle.kube_objects.specs.Entry.{Entry}
use Rattle.kube_objects.specs.Identities.{identity_of}
use Rattle.kube_objects.specs.Newest.{join}
use Rattle.kube_objects.specs.Stored.{Held, election, stored, last_write, holds, at_key, write_of, writes, next_version}
use Rattle.history_laws.specs.Tails.{IsTail}
use Rattle.history_laws.proofs.Plainly.{upper, some_is, none_is}
use Rattle.history_laws.proofs.Tailed.{tail_all, tail_trans, tails_meet, writes_tail, same_head, same_rest}
use Rattle.call_laws.proofs.Above.{tail_length}
use Rattle.history_laws.proofs.Versions.{version_within, versions_are_contents}

-- the write of what is stored, since which nothing else was stored
pub record Kept (h : List Entry) (y : Held) : Type 0 where
  pub z : Entry
  pub before : List Entry
  pub position : IsTail (z ∷ before) h
  pub write : at_key election (write_of z.fact) ≡ Some (Some y.object)
  pub version : y.version ≡ next_version before
  pub beat : y.beat ≡ z.beat
  pub by : y.by ≡ identity_of z.actor
  pub stays : (g : List Entry) → IsTail (z ∷ before) g → IsTail g h → stored election g ≡ Some y
  pub alone : (x : Entry) (g : List Entry) → IsTail (z ∷ before) g → IsTail (x ∷ g) h → at_key election (write_of x.fact) ≡ None

-- a position isn't below itself
pub not_below : (z : Entry) (S : List Entry) → IsTail (z ∷ S) S → ⊥
not_below z S at = let le : length (z ∷ S) ≤ length S = tail_length (z ∷ S) S at in absurd (omega (arith, le))

pub kept_of : (h : List Entry) (y : Held) → stored election h ≡ Some y → Kept h y
kept_of [] y is = absurd (none_is y is)
kept_of (x ∷ h) y is = by_write (at_key election (write_of x.fact)) refl is (λ same. kept_of h y same)
  where
    older : Kept h y → at_key election (write_of x.fact) ≡ None → Kept (x ∷ h) y
    older s none = record {
      z = s.z;
      before = s.before;
      position = inr s.position;
      write = s.write;
      version = s.version;
      beat = s.beat;
      by = s.by;
      stays = λ g low at. by_place g low at;
      alone = λ f g low at. above f g low at;
    }
      where
        by_place : (g : List Entry) → IsTail (s.z ∷ s.before) g → IsTail g (x ∷ h) → stored election g ≡ Some y
        by_place g low (inl same) = ap (stored election) same ∙ is
        by_place g low (inr at) = s.stays g low at

        above : (f : Entry) (g : List Entry) → IsTail (s.z ∷ s.before) g → IsTail (f ∷ g) (x ∷ h) → at_key election (write_of f.fact) ≡ None
        above f g low (inl same) = ap (λ (x : Entry). at_key election (write_of x.fact)) (same_head f x g h same) ∙ none
        above f g low (inr at) = s.alone f g low at

    new : (o : Object) → at_key election (write_of x.fact) ≡ Some (Some o) → join (upper (holds h x.beat x.actor (Some (Some o))) (last_write election h)) ≡ Some y → Kept (x ∷ h) y
    new o write same =
        let one = some_is (record { version = next_version h; object = o; beat = x.beat; by = identity_of x.actor }) y same in
        record {
          z = x;
          before = h;
          position = inl refl;
          write = write ∙ ap (λ (y : Held). Some (Some y.object)) one;
          version = sym (ap (λ (y : Held). y.version) one);
          beat = sym (ap (λ (y : Held). y.beat) one);
          by = sym (ap (λ (y : Held). y.by) one);
          stays = λ g low at. by_place g low at;
          alone = λ f g low at. absurd (none_above f g low at);
        }
      where
        by_place : (g : List Entry) → IsTail (x ∷ h) g → IsTail g (x ∷ h) → stored election g ≡ Some y
        by_place g low (inl e) = ap (stored election) e ∙ is
        by_place g low (inr at) = absurd (not_below x h (tail_trans (x ∷ h) g h low at))

        none_above : (f : Entry) (g : List Entry) → IsTail (x ∷ h) g → IsTail (f ∷ g) (x ∷ h) → ⊥
        none_above f g low (inl e) = not_below x h (subst (IsTail (x ∷ h)) (same_rest f x g h e) low)
        none_above f g low (inr at) = not_below x h (tail_trans (x ∷ h) g h low (tail_trans g (f ∷ g) h (inr (tail_all g)) at))

    by_write : (o : Option (Option Object)) → at_key election (write_of x.fact) ≡ o → join (upper (holds h x.beat x.actor o) (last_write election h)) ≡ Some y → (stored election h ≡ Some y → Kept h y) → Kept (x ∷ h) y
    by_write None none same below = older (below same) none
    by_write (Some None) write same below = absurd (none_is y same)
    by_write (Some (Some o)) write same below = new o write same

-- ---- a position at which the same version is stored, or that is above the write

module _ (h : List Entry) (y : Held) (is : stored election h ≡ Some y) (k : Kept h y) where
  -- what has its version is it, and stands above the write
  pub same_kept : (g : List Entry) → IsTail g h → (x : Held) → stored election g ≡ Some x → x.version ≡ y.version → (x ≡ y) × IsTail (k.z ∷ k.before) g
  same_kept g at x there version = (versions_are_contents g h at election x y there is version, ⊎_elim (λ low. low) (λ below. by_below below) (tails_meet (k.z ∷ k.before) g h k.position at))
    where
      by_below : IsTail g (k.z ∷ k.before) → IsTail (k.z ∷ k.before) g
      by_below (inl same) = subst (IsTail (k.z ∷ k.before)) (sym same) (tail_all (k.z ∷ k.before))
      by_below (inr low) =
          let e : y.version.0 ≡ writes k.before + 1 = ap (λ (v : Version). v.0) k.version in
          let f : x.version.0 ≡ y.version.0 = ap (λ (v : Version). v.0) version in
          absurd (omega (arith, e, f, version_within election g x there, writes_tail g k.before low))

  -- a Get that is answered there
  pub record IsFound (g : List Entry) (lease : Lease) : Type 0 where
    pub low : IsTail (k.z ∷ k.before) g
    pub object : y.object ≡ object.Lease lease

  pub found_kept : (g : List Entry) → IsTail g h → (version : Version) (lease : Lease) → answer (Get election) g ≡ Found version lease → version ≡ y.version → IsFound g lease
  found_kept g at version lease found same = by_stored (stored election g) refl found
    where
      absent : Absent ≡ Found version lease → ⊥
      absent e = cc

      as_lease : (x : Held) → stored election g ≡ Some x → (o : Object) → x.object ≡ o → answer_get (versioned x.version (lease_in o)) ≡ Found version lease → IsFound g lease
      as_lease x there (object.Lease l) o_is e =
          let version_is : x.version ≡ version = ap (λ r. version_or r) e in
          let lease_is : l ≡ lease = ap (λ r. lease_or r) e in
          let s = same_kept g at x there (version_is ∙ same) in
          record { low = s.1; object = ap (λ (x : Held). x.object) (sym s.0) ∙ o_is ∙ ap object.Lease lease_is }
        where
          version_or : Reply → Version
          version_or (Found v l) = v
          version_or _ = version

          lease_or : Reply → Lease
          lease_or (Found v l) = l
          lease_or _ = lease
      as_lease x there (object.Node n) o_is e = absurd (absent e)
      as_lease x there (object.Pod p) o_is e = absurd (absent e)

      by_stored : (o : Option Held) → stored election g ≡ o → answer_get (as_kind lease_in o) ≡ Found version lease → IsFound g lease
      by_stored None there e = absurd (absent e)
      by_stored (Some x) there e = as_lease x there x.object refl e
