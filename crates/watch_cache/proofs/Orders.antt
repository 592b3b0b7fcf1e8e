-- The derived order of a set's keys is the one that the definitions name.
use Rattle.std.proofs.Common.{◌≡◌, true, ◌||◌, ap, ◌∙◌, subst}
use Rattle.std.specs.BTreeSet as set
use Rattle.std.specs.BTreeSet.{BTreeSet}
use Rattle.kube_objects.specs.declared.key.Key.{Key}
use Rattle.kube_objects.specs.contracts.key.KeyOrd.TheImpl as key_ord
use Rattle.kube_objects.specs.Keys.{key_cmp, key_eq}
use Rattle.kube_objects.proofs.KeyOrder.{key_order}
use Rattle.key_map.proofs.Pairs.{cond_or}

-- a key was added to a set of keys
pub added_key : (s n : BTreeSet Key) (key : Key) → set.Updates (key_ord.cmp-value).it s n key true → (k : Key) → set.contains key_cmp n k ≡ (key_eq key k || set.contains key_cmp s k)
added_key s n key u k = (subst (λ cmp. set.Updates cmp s n key true) key_order u).0 k ∙ cond_or (key_eq key k) (set.contains key_cmp s k)

-- what a set has, by either order
pub key_there : (s : BTreeSet Key) (key : Key) → set.contains (key_ord.cmp-value).it s key ≡ set.contains key_cmp s key
key_there s key = ap (λ cmp. set.contains cmp s key) key_order
