-- An entry that is no own entry of a tick leaves all that a term reads.
use Rattle.std.proofs.Common.{◌≡◌, ◌∙◌, ℕ, ◌==◌, ◌&&◌, not, Bool, true, false, List, ◌∷◌, None, refl, sym, ap}
use Rattle.kube_objects.specs.declared.deed.Actor.{Actor}
use Rattle.kube_objects.specs.Entry.{Entry, Identity, Place, Fact, Ticks, Tick, Sync, Mode, Head}
use Rattle.kube_objects.specs.Identities.{is_by}
use Rattle.kube_objects.specs.Modes.{mode_says}
use Rattle.kube_objects.specs.Newest.{when, has, join, or_else, or_zero}
use Rattle.kube_objects.specs.Tainting.{waits, before_tick, begins_row, queued}
use Rattle.tick_laws.specs.Changes.{IsSame}
use Rattle.tick_laws.specs.Judged.{key_if, waits_since}
use Rattle.tick_laws.specs.Since.{is_sync_of, AreReached}
use Rattle.tick_laws.proofs.Frames.{last_mode, kept_pod}
use Rattle.tick_laws.proofs.Reached.{reached_same}
use Rattle.tick_laws.proofs.Tried.{refused_waits}
use Rattle.tick_laws.proofs.Waiting.{last_key}
use Rattle.watch_cache.specs.Kept.{kept}
use Rattle.watch_cache.specs.Stands.{is_tick_by}
use Rattle.watch_cache.proofs.Frames.{upper, unticked, last_seen, last_stale, last_synced, last_sync}

module _ (q : Identity) (h : List Entry) (e : Entry) (other : is_tick_by q e.actor e.fact ≡ false) where
  pub foreign_change : IsSame q h (e ∷ h)
  foreign_change =
      let says = unticked q h e other in
      record {
        shown = λ key. ap (λ o. kept (join (upper o (last_seen q key h)))) (says.seen key);
        stale = λ key. ap (λ o. or_else false (upper o (last_stale q key h))) (says.stale key);
        mode = ap (λ o. or_else false (upper o (last_mode q h))) (by_mode e.actor e.fact other);
        position = ap (λ o. or_zero (upper o (last_sync q h))) says.sync;
        synced = ap (λ o. or_else false (upper o (last_synced q h))) says.synced;
      }
    where
      of_tick : (who : Actor) (t : Tick) → is_by q who ≡ false → mode_says q who (Ticks t) ≡ None
      of_tick who (Mode on) is = ap (λ b. when b on) is
      of_tick who t is = refl

      by_mode : (who : Actor) (d : Fact) → is_tick_by q who d ≡ false → mode_says q who d ≡ None
      by_mode who (Ticks t) is = of_tick who t is
      by_mode who d is = refl

  foreign_sync : is_sync_of q e.actor e.fact ≡ false
  foreign_sync = by_fact e.actor e.fact other
    where
      of_tick : (who : Actor) (t : Tick) → is_by q who ≡ false → is_sync_of q who (Ticks t) ≡ false
      of_tick who Sync is = is
      of_tick who t is = refl

      by_fact : (who : Actor) (d : Fact) → is_tick_by q who d ≡ false → is_sync_of q who d ≡ false
      by_fact who (Ticks t) is = of_tick who t is
      by_fact who d is = refl

  pub foreign_reached : AreReached q h → AreReached q (e ∷ h)
  foreign_reached old key stale =
      reached_same q h e key foreign_sync (kept_pod q h (e ∷ h) None foreign_change key) (old key (sym (foreign_change.stale key) ∙ stale))

  pub foreign_waits : (place : Place) (name : ℕ) → waits q place name (e ∷ h) ≡ waits q place name h
  foreign_waits place name = refused_waits q h (e ∷ h) None foreign_change place name

  pub foreign_queued : (place : Place) (name : ℕ) → queued q place name (e ∷ h) ≡ queued q place name h
  foreign_queued place name = ap (λ b. or_zero (upper (when b e.beat) (last_key q place name h))) (by_fact e.actor e.fact other)
    where
      and_false : (b : Bool) → (b && false) ≡ false
      and_false true = refl
      and_false false = refl

      of_tick : (who : Actor) (t : Tick) → is_by q who ≡ false → begins_row q place name e.beat who (Ticks t) h ≡ false
      of_tick who (Head at node wanted given written a) is = ap (λ b. (node == name) && b) is ∙ and_false (node == name)
      of_tick who t is = ap (λ b. b && not (has (waits q place name (before_tick q e.beat h)))) is

      by_fact : (who : Actor) (d : Fact) → is_tick_by q who d ≡ false → begins_row q place name e.beat who d h ≡ false
      by_fact who (Ticks t) is = of_tick who t is
      by_fact who d is = refl

  pub foreign_since : (place : Place) (name : ℕ) → waits_since q place name (e ∷ h) ≡ waits_since q place name h
  foreign_since place name = ap (λ o. key_if o (queued q place name (e ∷ h))) (foreign_waits place name) ∙ ap (key_if (waits q place name h)) (foreign_queued place name)
