-- Of what a cluster stands but for.
use Rattle.std.proofs.Common.{◌≡◌, ℕ, ◌&&◌, ◌||◌, not, Bool, true, false, refl, sym, List}
use Rattle.kube_objects.specs.declared.key.Key.{Key}
use Rattle.kube_objects.specs.Entry.{Entry, Identity}
use Rattle.history_laws.proofs.Plainly.{false_is}
use Rattle.term_state.specs.declared.cluster.Cluster.{Cluster}
use Rattle.term_state.specs.ClusterStands.{ClusterBut}

-- what stands but for some stands but for more
pub widen : (q : Identity) (h : List Entry) (nodes some_nodes : ℕ → Bool) (pods some_pods : Key → Bool) (c : Cluster)
    → ((n : ℕ) → some_nodes n ≡ false → nodes n ≡ false) → ((key : Key) → some_pods key ≡ false → pods key ≡ false)
    → ClusterBut q h nodes pods c → ClusterBut q h some_nodes some_pods c
widen q h nodes some_nodes pods some_pods c f g s =
    record { cache = s.cache; mode = s.mode; unclean = λ n is. s.unclean n (f n is); dues = λ key is added. s.dues key (g key is) added; kinds = s.kinds }

pub and_not : (b : Bool) → (b && not b) ≡ false
and_not true = refl
and_not false = refl

pub first_none : (b c : Bool) → (b || c) ≡ false → b ≡ false
first_none true c is = absurd (false_is (sym is))
first_none false c is = refl

pub second_none : (b c : Bool) → (b || c) ≡ false → c ≡ false
second_none true c is = absurd (false_is (sym is))
second_none false c is = is
