-- What a phase of a tick leaves that has no entry of its kind.
use Rattle.std.proofs.Common.{◌≡◌, ◌∙◌, ℕ, ◌&&◌, not, Bool, true, false, List, Option, IfSome, option_map, refl, sym, ap, subst}
use Rattle.std.specs.Prelude.{if◌then◌else◌}
use Rattle.kube_objects.specs.declared.deed.Deed.{Deed}
use Rattle.kube_objects.specs.declared.rules.BucketRule.{BucketRule}
use Rattle.kube_objects.specs.declared.rules.BucketRule.TheVariants.{Empty, Full}
use Rattle.kube_objects.specs.Clocks.{local}
use Rattle.kube_objects.specs.Document.{Doc}
use Rattle.kube_objects.specs.Entry.{Entry, Identity, Tick, Ticks, Sync, Untaint, Swap, Head, Skip, Delete, entry, Place}
use Rattle.kube_objects.specs.Health.{is_known, last_pass, pass_period}
use Rattle.kube_objects.specs.InForce.{watches}
use Rattle.kube_objects.specs.Seen.{is_fresh, is_synced}
use Rattle.kube_objects.specs.Tick.{add, cleaned, evicted, has_settled, sync, tainted}
use Rattle.history_laws.proofs.Plainly.{false_is}
use Rattle.history_laws.proofs.Ticks.{is_cleaning, is_heading, kept_sync}
use Rattle.node_health.specs.Stands.{is_of_health}
use Rattle.node_health.proofs.Frames.{SaysSame, says-same, says-then, unheard-kind}
use Rattle.kube_objects.specs.Tokens.{is_full_by}
use Rattle.taint_zones.specs.declared.pushes.ZonePushes.{ZonePushes}
use Rattle.taint_zones.specs.declared.zones.Zones.{Zones}
use Rattle.taint_zones.specs.Limits.{LimitsStand, limit_at}
use Rattle.controller_core.specs.Looking.{HeldStand}
use Rattle.controller_core.specs.Passing.{LastStands}
use Rattle.controller_core.specs.Pushing.{PushesStand}
use Rattle.controller_core.specs.Working.{kept}
use Rattle.controller_core.specs.declared.pass.work.LastPass.{LastPass}
use Rattle.term_state.specs.declared.told.Told.{Told}
use Rattle.term_state.specs.MidTick.{IsTold}
use Rattle.term_state.proofs.Telling.{told_beside}
use Rattle.tick_laws.proofs.Phases.{KeepsLimits, cleaned_keeps, evicted_keeps, tainted_keeps}
use Rattle.tick_laws.proofs.Syncing.{sync_synced}

-- ---- the health of nodes

pub says_more : (q : Identity) (k : ℕ) (h g : List Entry) (t : Tick) → is_of_health (Ticks t) ≡ false → SaysSame q h g → SaysSame q h (add k q t g)
says_more q k h g t other s = says-then q h g (add k q t g) s (unheard-kind q g (entry k 4 q (Ticks t)) other)

cleaning_unheard : (t : Tick) → is_cleaning t ≡ true → is_of_health (Ticks t) ≡ false
cleaning_unheard (Untaint name given written a) is = refl
cleaning_unheard (Swap name wanted given written a) is = refl
cleaning_unheard t is = absurd (false_is is)

heading_unheard : (t : Tick) → is_heading t ≡ true → is_of_health (Ticks t) ≡ false
heading_unheard (Head place name wanted given written a) is = refl
heading_unheard (Skip place name) is = refl
heading_unheard t is = absurd (false_is is)

module _ (doc : Doc) (k : ℕ) (q : Identity) (h : List Entry) where
  pub sync_says : SaysSame q h (sync doc k q h)
  sync_says = kept_sync doc k q (SaysSame q h) (λ g s. says_more q k h g Sync refl s) h (says-same q h)

  pub cleaned_says : SaysSame q h (cleaned doc k q h)
  cleaned_says = cleaned_keeps doc k q (SaysSame q h) (λ t g is made s. says_more q k h g t (cleaning_unheard t is) s) h (says-same q h)

  pub tainted_says : SaysSame q h (tainted doc k q h)
  tainted_says = tainted_keeps doc k q (SaysSame q h) (λ t g is made s. says_more q k h g t (heading_unheard t is) s) h (says-same q h)

  pub evicted_says : SaysSame q h (evicted doc k q h)
  evicted_says = evicted_keeps doc k q (SaysSame q h) (λ pod given node_given at a g made s. says_more q k h g (Delete pod given node_given at a) refl s) h (says-same q h)

-- ---- limits, and the last pass

full_same : (doc : Doc) (q : Identity) (h g : List Entry) (place : Place) → KeepsLimits q h g → (rule : BucketRule) → is_full_by rule doc q place g ≡ is_full_by rule doc q place h
full_same doc q h g place k Empty = refl
full_same doc q h g place k Full = k.full doc place

pub limits_stand : (doc : Doc) (q : Identity) (h g : List Entry) (zones : Zones) → KeepsLimits q h g → LimitsStand doc q h zones → LimitsStand doc q g zones
limits_stand doc q h g zones k s place = record {
  rated = (s place).rated ∙ sym (k.rated place);
  rate = (s place).rate;
  base = subst (λ n. IfSome (limit_at zones place) (λ limit. limit.bucket.base ≡ local doc q.process n)) (sym (k.base place)) (s place).base;
  full = subst (λ b. IfSome (limit_at zones place) (λ limit. limit.bucket.full ≡ b)) (sym (full_same doc q h g place k doc.settings.rules.bucket)) (s place).full;
}

pub last_stands : (doc : Doc) (q : Identity) (h g : List Entry) (last : Option LastPass) → last_pass q g ≡ last_pass q h → pass_period doc q g ≡ pass_period doc q h → LastStands doc q h last → LastStands doc q g last
last_stands doc q h g last same alike s = record {
  reading = s.reading ∙ ap (option_map (local doc q.process)) (sym same);
  period = subst (λ n. IfSome last (λ x. x.period ≡ kept n)) (sym alike) s.period;
}

-- ---- pushes, and the nodes that the last pass found

pub pushes_stand : (doc : Doc) (q : Identity) (h g : List Entry) (pushes : ZonePushes) → KeepsLimits q h g → PushesStand doc q h pushes → PushesStand doc q g pushes
pushes_stand doc q h g pushes k s = record {
  names = λ place. s.names place ∙ sym (k.queue doc place);
  counts = λ place n. s.counts place n ∙ sym (k.counts doc place n);
}

pub held_stands : (q : Identity) (h g : List Entry) (held : List ℕ) → ((name : ℕ) → is_known q name g ≡ is_known q name h) → HeldStand q h held → HeldStand q g held
held_stands q h g held same s = record {
  names = record { ascend = s.names.ascend; named = λ n. s.names.named n ∙ sym (same n) };
  ascend = s.ascend;
}

-- ---- a sync

-- a term that hasn't synced after this hasn't synced now
pub unsynced_none : (doc : Doc) (k : ℕ) (q : Identity) (h : List Entry) → is_synced q (sync doc k q h) ≡ false → sync doc k q h ≡ h
unsynced_none doc k q h none = by_test (has_settled doc k q h && (watches doc q.process h && not (is_fresh q h))) none
  where
    by_test : (b : Bool) → is_synced q (if b then add k q Sync h else h) ≡ false → (if b then add k q Sync h else h) ≡ h
    by_test true none = absurd (false_is (sym none ∙ sync_synced q k h))
    by_test false none = refl

-- a sync isn't printed
pub told_synced : (doc : Doc) (k : ℕ) (q : Identity) (before : List Deed) (h : List Entry) (t : Told) → IsTold q k before h t → IsTold q k before (sync doc k q h) t
told_synced doc k q before h t s = by_test (has_settled doc k q h && (watches doc q.process h && not (is_fresh q h)))
  where
    by_test : (b : Bool) → IsTold q k before (if b then add k q Sync h else h) t
    by_test true = told_beside q k before h Sync t refl s
    by_test false = s
