-- An entry that is no election write, no request, no answer, no counted reply, no start, crash, stop or end, and no part of a release.
use Rattle.std.proofs.Common.{◌≡◌, ℕ, ◌&&◌, true, false, List, ◌∷◌, Option, Some, None, refl, sym, ap, ◌∙◌, subst, arith, ◌≤◌}
use Rattle.kube_base.specs.declared.numbers.Version.{Version}
use Rattle.kube_objects.specs.declared.call.Answer.{Answer}
use Rattle.kube_objects.specs.declared.call.Answer.TheVariants as answer
use Rattle.kube_objects.specs.declared.key.Kind.{Kind}
use Rattle.kube_objects.specs.declared.key.Kind.TheVariants as kind
use Rattle.kube_objects.specs.declared.script.What.{What}
use Rattle.kube_objects.specs.Document.{Doc}
use Rattle.kube_objects.specs.Elector.{lead_says, leads, deadline}
use Rattle.kube_objects.specs.declared.key.Key.{Key}
use Rattle.kube_objects.specs.declared.rules.EvictRule.{EvictRule}
use Rattle.kube_objects.specs.declared.rules.EvictRule.TheVariants.{Added, Seen}
use Rattle.kube_objects.specs.Entry.{Entry, Identity, Stalls, StepsDown, Ticks, Tick, Mark, Untaint, Swap, Head, Delete, entry}
use Rattle.kube_objects.specs.Identities.{is_by, of_process}
use Rattle.kube_objects.specs.Keys.{key_eq}
use Rattle.kube_objects.specs.Newest.{newest, added, when, join, has, or_else}
use Rattle.kube_objects.specs.Process.{life, life_says, is_start, is_stop, starts, stops, call_says, last_call, releasing_says, ending_says}
use Rattle.kube_objects.specs.Seen.{is_pod}
use Rattle.kube_objects.specs.Stored.{stored, election, Write, node_write, try_write, tick_write, at_key}
use Rattle.kube_objects.specs.Wire.{of_event, in_force, request_delay_of, reply_delay_of}
use Rattle.history_laws.proofs.Plainly.{upper, added_more, false_is}
use Rattle.history_laws.proofs.Ticks.{IsDeleteBy, MadeTick}
use Rattle.lease_laws.proofs.Invariant.{gave, AreDelayed, Inv, whole}
use Rattle.lease_laws.proofs.Others.{Same, living_same, unborn_same}
use Rattle.lease_laws.proofs.EachKind.{Mute, core_mute, top_stays}

pub record Quiet (x : Entry) : Type 0 where
  pub mute : Mute x
  pub life : (p : ℕ) → life_says p x.actor x.fact ≡ None
  pub start : is_start x.fact ≡ false
  pub stop : is_stop x.fact ≡ false
  pub call : (q : Identity) → call_says q x.actor x.fact ≡ None
  pub releasing : (q : Identity) → releasing_says q x.actor x.fact ≡ None
  pub ending : (q : Identity) → ending_says q x.actor x.fact ≡ None
  pub event : (f : What → Option ℕ) → of_event f x.fact ≡ None

quiet_same : (doc : Doc) (h : List Entry) (x : Entry) → Quiet x → (q : Identity) → Same doc q (x ∷ h) h
quiet_same doc h x quiet q = record {
  starts = added_more (is_start x.fact && has (of_process q.process x.actor)) (starts q.process h);
  stops = ap (λ b. added (b && is_by q x.actor) (stops q h)) quiet.stop;
  gave = ap (λ b. added (b && is_by q x.actor) (gave q h)) quiet.mute.gives;
  releasing = ap (λ o. or_else false (upper o (newest (λ e T. releasing_says q e.actor e.fact) h))) (quiet.releasing q);
  ending = ap (λ o. or_else false (upper o (newest (λ e T. ending_says q e.actor e.fact) h))) (quiet.ending q);
  call = ap (λ o. join (upper o (last_call q h))) (quiet.call q);
  leads = ap (λ o. has (upper o (newest (λ e T. lead_says q e.actor e.fact) h))) (quiet.mute.lead q);
  deadline = ap (λ o. upper o (deadline doc q h)) (quiet.mute.deadline doc q (leads q h));
}

pub keep_quiet : (doc : Doc) (high k : ℕ) (h : List Entry) (x : Entry) → Quiet x → Inv doc high k h → Inv doc high k (x ∷ h)
keep_quiet doc high k h x quiet s =
    whole doc high k (x ∷ h) (core_mute doc high k h x quiet.mute delays s.core)
    (λ q up. living_same doc k q (x ∷ h) h (quiet_same doc h x quiet q) (s.lives q (ap (λ t. join (upper t (life q.process h))) (sym (quiet.life q.process)) ∙ up)))
    (λ q below. let same = quiet_same doc h x quiet q in unborn_same doc q (x ∷ h) h same (s.fresh q (omega (arith, below, same.starts))))
  where
    delays : AreDelayed (x ∷ h)
    delays p = (subst (λ o. 1 ≤ or_else 1 (upper o (in_force (request_delay_of p) h))) (sym (quiet.event (request_delay_of p))) (s.core.delays p).0, subst (λ o. 1 ≤ or_else 1 (upper o (in_force (reply_delay_of p) h))) (sym (quiet.event (reply_delay_of p))) (s.core.delays p).1)

-- ---- a tick

-- a tick deletes no election Lease
abbrev pub DeletesElsewhere : Tick → Type 0
DeletesElsewhere (Delete pod given node_given due answer) = key_eq pod election ≡ false
DeletesElsewhere _ = Unit {0}

quiet_try : (w : Write) (a : Option Answer) → key_eq w.0 election ≡ false → at_key election (try_write w a) ≡ None
quiet_try w (Some (answer.Done version)) other = ap (λ b. when b w.1) other
quiet_try w d other = refl

quiet_write : (t : Tick) → DeletesElsewhere t → at_key election (tick_write t) ≡ None
quiet_write (Mark name given node a) other = quiet_try (node_write name node) a refl
quiet_write (Untaint name given node a) other = quiet_try (node_write name node) a refl
quiet_write (Swap name wanted given node a) other = quiet_try (node_write name node) a refl
quiet_write (Head place name wanted given node a) other = quiet_try (node_write name node) a refl
quiet_write (Delete pod given node_given due a) other = quiet_try (pod, None) a other
quiet_write d other = refl

pod_elsewhere : (kind : Kind) (space name : ℕ) → is_pod kind ≡ true → key_eq (record { kind = kind; space = space; name = name }) election ≡ false
pod_elsewhere kind.Node space name is = absurd (false_is is)
pod_elsewhere kind.Lease space name is = absurd (false_is is)
pod_elsewhere kind.Pod space name is = refl

deletes_pod : (rule : EvictRule) (doc : Doc) (k : ℕ) (q : Identity) (pod : Key) (given node_given : Version) (due : ℕ) (a : Option Answer) (h : List Entry) → IsDeleteBy rule doc k q pod given node_given due a h → is_pod pod.kind ≡ true
deletes_pod Added doc k q pod given node_given due a h made = made.kind
deletes_pod Seen doc k q pod given node_given due a h made = made.kind

pub deletes_elsewhere : (doc : Doc) (k : ℕ) (q : Identity) (t : Tick) (h : List Entry) → MadeTick doc k q t h → DeletesElsewhere t
deletes_elsewhere doc k q (Delete pod given node_given due a) h made = pod_elsewhere pod.kind pod.space pod.name (deletes_pod doc.settings.rules.evict_from doc k q pod given node_given due a h made.0)
deletes_elsewhere doc k q d h made = tt

-- no tick writes the election Lease
pub stored_tick : (doc : Doc) (k : ℕ) (q : Identity) (t : Tick) (h : List Entry) → MadeTick doc k q t h → stored election (entry k 4 q (Ticks t) ∷ h) ≡ stored election h
stored_tick doc k q t h made = top_stays (entry k 4 q (Ticks t)) h (quiet_write t (deletes_elsewhere doc k q t h made))

pub quiet_tick : (k : ℕ) (q : Identity) (t : Tick) → DeletesElsewhere t → Quiet (entry k 4 q (Ticks t))
quiet_tick k q t other = grind (arith, quiet_write t other)

pub quiet_stall : (k step : ℕ) (q : Identity) (beats : ℕ) → Quiet (entry k step q (Stalls beats))
quiet_stall k step q beats = grind arith

pub quiet_step_down : (k step : ℕ) (q : Identity) → Quiet (entry k step q StepsDown)
quiet_step_down k step q = grind arith
