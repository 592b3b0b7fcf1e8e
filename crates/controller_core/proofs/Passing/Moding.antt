-- The mode through a pass.
use Rattle.std.proofs.Common.{◌≡◌, ◌∙◌, ℕ, Bool, true, false, List, Result, Ok, Err, OnOk, refl, sym, ap, subst}
use Rattle.std.specs.Prelude.{if◌then◌else◌}
use Rattle.kube_objects.specs.declared.deed.Deed.{Deed}
use Rattle.kube_objects.specs.Document.{Doc}
use Rattle.kube_objects.specs.Entry.{Entry, Identity, Mode}
use Rattle.kube_objects.specs.Modes.{all_full, mode, nodes}
use Rattle.kube_objects.specs.Tick.{add, is_same_mode, set_mode}
use Rattle.node_health.specs.Stands.{HealthStands}
use Rattle.node_health.specs.declared.health.Health.{Health}
use Rattle.node_health.proofs.Frames.{health-same, unheard-kind}
use Rattle.object_store.proofs.Keeps.{store-beside}
use Rattle.object_store.specs.declared.store.Store.{Store}
use Rattle.term_state.specs.ClusterStands.{ClusterStands}
use Rattle.term_state.specs.MidTick.{IsMoved, IsTold, MidTick}
use Rattle.term_state.specs.Sights.{SightedBy}
use Rattle.term_state.specs.declared.cluster.Cluster.{Cluster}
use Rattle.term_state.specs.declared.told.Told.{Told}
use Rattle.tick_laws.proofs.Frames.{mode_change}

same_as : (on b : Bool) → on ≡ b → is_same_mode on b ≡ true
same_as true true is = refl
same_as false false is = refl
same_as true false is = absurd (cc)
same_as false true is = absurd (cc)

other_than : (on b : Bool) → (on ≡ b → ⊥) → is_same_mode on b ≡ false
other_than true true apart = absurd (apart refl)
other_than false false apart = absurd (apart refl)
other_than true false apart = refl
other_than false true apart = refl

pub mode_stays : (doc : Doc) (k : ℕ) (q : Identity) (h : List Entry) (on : Bool) → on ≡ all_full doc (nodes q h) → on ≡ mode q h → set_mode doc k q h ≡ h
mode_stays doc k q h on is same =
    ap (λ x. (if (is_same_mode x (mode q h)) then h else add k q (Mode x) h)) (sym is) ∙ ap (λ b. (if b then h else add k q (Mode on) h)) (same_as on (mode q h) same)

pub mode_turns : (doc : Doc) (k : ℕ) (q : Identity) (h : List Entry) (on : Bool) → on ≡ all_full doc (nodes q h) → (on ≡ mode q h → ⊥) → set_mode doc k q h ≡ add k q (Mode on) h
mode_turns doc k q h on is apart =
    ap (λ x. (if (is_same_mode x (mode q h)) then h else add k q (Mode x) h)) (sym is) ∙ ap (λ b. (if b then h else add k q (Mode on) h)) (other_than on (mode q h) apart)

pub health_on : (doc : Doc) (k : ℕ) (q : Identity) (h : List Entry) (health : Health) → HealthStands doc q h health → HealthStands doc q (add k q (Mode true) h) health
health_on doc k q h health s = health-same doc q h (add k q (Mode true) h) health (unheard-kind q h _ refl) s

pub running_after : (doc : Doc) (q : Identity) (k : ℕ) (before : List Deed) (h : List Entry) (on : Bool) (old new : Cluster) (store : Store) (told after : Told)
    → MidTick doc q k before h old store told → ClusterStands q (add k q (Mode on) h) new → new.evict_from ≡ old.evict_from
    → SightedBy old.evict_from doc k q (add k q (Mode on) h) new → IsMoved q k (add k q (Mode on) h) new
    → IsTold q k before (add k q (Mode on) h) after → MidTick doc q k before (add k q (Mode on) h) new store after
running_after doc q k before h on old new store told after r cluster from sights moved told_after =
    record {
      cluster = cluster;
      from = from ∙ r.from;
      sights = subst (λ rule. SightedBy rule doc k q (add k q (Mode on) h) new) r.from sights;
      moved = moved;
      store = store-beside h _ store r.store refl;
      told = told_after;
      synced = (mode_change q k h on).synced ∙ r.synced;
    }

pub four_ok : {A E : Type 0} (r : Result A E) (P Q S T R : Type 0) → OnOk r P → OnOk r Q → OnOk r S → OnOk r T → (P → Q → S → T → R) → OnOk r R
four_ok (Ok x) P Q S T R p q s t f = f p q s t
four_ok (Err e) P Q S T R p q s t f = tt
