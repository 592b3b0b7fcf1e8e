-- Which nodes a sync's cache finds to judge, read from the history.
use Rattle.std.proofs.Common.{◌≡◌, ◌∙◌, ℕ, ◌||◌, ◌&&◌, not, Bool, true, false, List, [], ◌∷◌, Option, Some, None, refl, sym, ap}
use Rattle.kube_base.specs.declared.numbers.Version.{Version}
use Rattle.kube_objects.specs.declared.deed.Actor.{Actor}
use Rattle.kube_objects.specs.declared.key.Key.{Key}
use Rattle.kube_objects.specs.declared.object.Object.{Object}
use Rattle.kube_objects.specs.Entry.{Entry, Identity, Fact, Ticks, Tick, Sync}
use Rattle.kube_objects.specs.Identities.{is_by}
use Rattle.kube_objects.specs.Newest.{newest, has, when, only_if, or_else}
use Rattle.kube_objects.specs.Seen.{is_stale, stale_says, stale_tick}
use Rattle.kube_objects.specs.Stored.{node_key}
use Rattle.history_laws.proofs.Plainly.{false_is}
use Rattle.tick_laws.specs.Judged.{shown}
use Rattle.tick_laws.specs.ToJudge.{has_appeared, has_stale, is_to_judge, refusal_says, refuses}
use Rattle.watch_cache.specs.declared.cache.Cache.{Cache}
use Rattle.watch_cache.specs.Kept.{is_node_in}
use Rattle.watch_cache.specs.Stands.{CacheStands, refused_key}
use Rattle.watch_cache.specs.TaintChanges.{IsSettled, appears, taints_eq, taints_in}
use Rattle.watch_cache.proofs.Frames.{upper, last_stale}
use Rattle.watch_cache.proofs.Same.{same_taints}
use Rattle.watch_cache.proofs.Ticks.{marks, stales_refused}

-- a stale key is one
pub some_stale : (q : Identity) (key : Key) (h : List Entry) → is_stale q key h ≡ true → has_stale q h ≡ true
some_stale q key [] stale = stale
some_stale q key (e ∷ h) stale = cases (some_stale q key h) e.actor e.fact stale
  where
    Older : Type 0
    Older = is_stale q key h ≡ true → has_stale q h ≡ true

    last : Option Bool
    last = newest (λ e T. refusal_says q e.actor e.fact) h

    of_refused : Older → (o : Option Key) → or_else false (upper (marks key o) (last_stale q key h)) ≡ true → or_else false (upper (when (has o) true) last) ≡ true
    of_refused older None is = older is
    of_refused older (Some k) is = refl

    own : Older → (t : Tick) → or_else false (upper (stale_tick key t) (last_stale q key h)) ≡ true → or_else false (upper (refuses t) last) ≡ true
    own older Sync is = is
    own older t is = of_refused older (refused_key t) (ap (λ o. or_else false (upper o (last_stale q key h))) (sym (stales_refused key t refl)) ∙ is)

    by_own : Older → (b : Bool) (t : Tick) → or_else false (upper (only_if b (stale_tick key t)) (last_stale q key h)) ≡ true → or_else false (upper (only_if b (refuses t)) last) ≡ true
    by_own older true t is = own older t is
    by_own older false t is = older is

    cases : Older → (who : Actor) (d : Fact) → or_else false (upper (stale_says q key who d) (last_stale q key h)) ≡ true → or_else false (upper (refusal_says q who d) last) ≡ true
    cases older who (Ticks t) is = by_own older (is_by q who) t is
    cases older who d is = older is

-- a node that isn't settled is to be judged
pub unsettled : (q : Identity) (name : ℕ) (h g : List Entry) (cache : Cache) (now : Option (Version × Object)) → CacheStands q h cache → now ≡ shown q (node_key name) g
    → (IsSettled cache name now → ⊥) → is_to_judge q h g name ≡ true
unsettled q name h g cache now s is left = by_tests (has_stale q h) (taints_eq (taints_in (shown q (node_key name) h)) (taints_in (shown q (node_key name) g))) refl refl
  where
    fresh : has_stale q h ≡ false → (key : Key) (b : Bool) → is_stale q key h ≡ b → b ≡ false
    fresh none key true stale = absurd (false_is (sym none ∙ some_stale q key h stale))
    fresh none key false stale = refl

    by_tests : (a b : Bool) → has_stale q h ≡ a → taints_eq (taints_in (shown q (node_key name) h)) (taints_in (shown q (node_key name) g)) ≡ b → (a || not b) ≡ true
    by_tests true b some same = refl
    by_tests false false none same = refl
    by_tests false true none same =
        absurd (left (record {
          fresh = λ key. s.stale key ∙ fresh none key (is_stale q key h) refl;
          taints = ap taints_in (s.objects (node_key name)) ∙ same_taints (taints_in (shown q (node_key name) h)) (taints_in (shown q (node_key name) g)) same ∙ ap taints_in (sym is);
        }))

-- one that the cache finds to appear has appeared
pub appears_anew : (q : Identity) (name : ℕ) (h g : List Entry) (cache : Cache) (now : Option (Version × Object)) → CacheStands q h cache → now ≡ shown q (node_key name) g
    → appears cache name now ≡ has_appeared q h g name
appears_anew q name h g cache now s is = ap (λ o. not (has o) && is_node_in now) (s.objects (node_key name)) ∙ ap (λ o. not (has (shown q (node_key name) h)) && is_node_in o) is
