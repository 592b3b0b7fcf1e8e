-- The first of a zone's queue is tried.
use Rattle.std.proofs.Common.{◌≡◌, ◌∙◌, inl, inr, ℕ, ◌<◌, ◌≤◌, ◌==◌, ◌&&◌, ◌||◌, nat_lt, nat_le, Bool, true, false, cond, List, Option, Some, None, refl, sym, ap, subst, arith}
use Rattle.std.proofs.lemmas.Bool.{eqb-true}
use Rattle.std.proofs.lemmas.Bool.Decides.{nat_tests}
use Rattle.std.specs.Option.{option_map}
use Rattle.kube_objects.specs.declared.rules.BucketRule.{BucketRule}
use Rattle.kube_objects.specs.declared.rules.BucketRule.TheVariants.{Empty, Full}
use Rattle.kube_objects.specs.Tokens.{is_full_by}
use Rattle.kube_objects.specs.declared.call.Answer.{Answer}
use Rattle.kube_objects.specs.declared.call.Answer.TheVariants as answer
use Rattle.kube_objects.specs.Clocks.{local}
use Rattle.kube_objects.specs.Document.{Doc}
use Rattle.kube_objects.specs.Entry as entry
use Rattle.kube_objects.specs.Entry.{Entry, Identity}
use Rattle.kube_objects.specs.Modes.{mode, place_eq}
use Rattle.kube_objects.specs.Newest.{only_if}
use Rattle.kube_objects.specs.Seen.{node_names}
use Rattle.kube_objects.specs.Tainting.{head_of, lacks, lacks_in, queued, waits}
use Rattle.kube_objects.specs.Tick.{add, new_taint, taint, tainted_with}
use Rattle.kube_objects.specs.Tokens.{has_token}
use Rattle.kube_objects.specs.Tries.{try_node}
use Rattle.history_laws.proofs.Plainly.{some_is}
use Rattle.taint_queue.specs.Order.{precedes}
use Rattle.taint_zones.specs.declared.limit.Limit.{Limit}
use Rattle.taint_zones.specs.declared.place.Place.{Place}
use Rattle.taint_zones.specs.declared.queues.Queues.{Queues}
use Rattle.taint_zones.specs.declared.zones.Zones.{Zones}
use Rattle.taint_zones.specs.Limits.{LimitStands, LimitsStand, after_token, limit_at, taken_at}
use Rattle.taint_zones.specs.Places.{entry_place, of_place, zone_eq}
use Rattle.taint_zones.specs.Waiting.{since}
use Rattle.tick_laws.specs.Changes.{IsChange, noted_by}
use Rattle.tick_laws.specs.Judged.{key_if, waits_since}
use Rattle.tick_laws.proofs.Heads.{Precedes, head_least}
use Rattle.tick_laws.proofs.Named.{node_is_named, node_names_ascend}
use Rattle.tick_laws.proofs.Orders.{same_place}
use Rattle.tick_laws.proofs.Tainting.{IsWaiting, accepted_waits, heading, heading_base, heading_base_elsewhere, heading_full, heading_full_by, heading_change, heading_own, heading_since, heading_since_elsewhere, since_waits, taint_adds, waiting}
use Rattle.tick_laws.proofs.Tried.{refused_waits}
use Rattle.controller_core.specs.declared.taint.head.Lacking.{Lacking}
use Rattle.controller_core.specs.Attempts.{headed, lacking_of, requeued}
use Rattle.controller_core.specs.QueuesStand.{QueuesStand}

precedes_is : (at n b m : ℕ) → precedes at n b m ≡ true → Precedes at n b m
precedes_is at n b m is = by_less (nat_lt at b) refl (at == b) refl (nat_le n m) refl is
  where
    less : nat_lt at b ≡ true → at < b
    less is = grind (arith, nat_tests)

    le : nat_le n m ≡ true → n ≤ m
    le is = grind (arith, nat_tests)

    by_less : (l : Bool) → nat_lt at b ≡ l → (e : Bool) → (at == b) ≡ e → (o : Bool) → nat_le n m ≡ o → (l || (e && o)) ≡ true → Precedes at n b m
    by_less true is_less e is_same o is_le is = inl (less is_less)
    by_less false is_less true is_same true is_le is = inr (eqb-true at b is_same, le is_le)
    by_less false is_less true is_same false is_le is = absurd (cc)
    by_less false is_less false is_same o is_le is = absurd (cc)

-- who is first in the code's queue is so in the history
pub record IsFirst (q : Identity) (h : List Entry) (place : entry.Place) (name : ℕ) : Type 0 where
  pub at : ℕ
  pub wanted : ℕ
  pub waiting : IsWaiting q place name wanted h
  pub waits : waits q place name h ≡ Some wanted
  pub head : head_of q place (node_names h) h ≡ Some (at, name)

pub first_is : (q : Identity) (h : List Entry) (queues : Queues) (place : Place) (name : ℕ) → QueuesStand q h queues
    → (at : ℕ) × (since queues place name ≡ Some at) × ((other beat : ℕ) → since queues place other ≡ Some beat → precedes at name beat other ≡ true)
    → IsFirst q h (entry_place place) name
first_is q h queues place name s (at, mine, least) =
    let since_at = sym (s (entry_place place) name) ∙ mine in
    let found = since_waits q (entry_place place) name at h since_at in
    let w = waiting q (entry_place place) name found.0 h found.1 in
    record {
      at = at;
      wanted = found.0;
      waiting = w;
      waits = found.1;
      head = head_least q (entry_place place) name at (node_names h) h since_at
          (λ m b is. precedes_is at name b m (least m b (s (entry_place place) m ∙ is))) (node_names_ascend h) (node_is_named q name h w.x w.sees);
    }

module _ (doc : Doc) (k : ℕ) (q : Identity) (h : List Entry) (place : entry.Place) (name : ℕ) (f : IsFirst q h place name) where
  -- what it lacks
  abbrev pub first_lacks : Lacking
  first_lacks = lacking_of f.waiting.x.0 f.wanted (tainted_with (new_taint doc k q f.wanted) f.waiting.x.1)

  -- where its zone has the token, the tick tries to write that
  pub record TriesFirst (lacking : Lacking) : Type 0 where
    pub is : lacking ≡ first_lacks
    pub adds : headed k q place name first_lacks h ≡ taint doc k q place h

  pub tries_first : (lacking : Lacking) → Some lacking ≡ Some first_lacks → has_token doc q k place h ≡ true → TriesFirst lacking
  tries_first lacking found token =
      record {
        is = some_is lacking first_lacks found;
        adds = sym (taint_adds doc k q place h f.at name f.wanted f.waiting.x token f.head f.waits f.waiting.sees);
      }

-- ---- after a try

module _ (doc : Doc) (k : ℕ) (q : Identity) (h : List Entry) (p : Place) (name wanted : ℕ) (w : IsWaiting q (entry_place p) name wanted h) where
  abbrev pub reached : List Entry
  reached = add k q (heading doc k q (entry_place p) name wanted w.x (try_node q name w.x.0 h)) h

  here_waits : waits q (entry_place p) name h ≡ Some wanted
  here_waits = ap (lacks_in (mode q h) (entry_place p)) w.sees ∙ ap (λ b. only_if b (lacks (mode q h) w.x.1)) w.inside ∙ w.lacks

  -- a node that isn't written goes to the back
  back_is : (queues : Queues) → QueuesStand q h queues → IsChange q h reached None None → (zone : entry.Place)
      → cond (zone_eq p (of_place zone)) (option_map (λ _. k) (since queues (of_place zone) name)) (since queues (of_place zone) name) ≡ waits_since q zone name reached
  back_is queues s change zone = by_zone (place_eq (entry_place p) zone) refl
    where
      since_here : since queues p name ≡ Some (queued q (entry_place p) name h)
      since_here = s (entry_place p) name ∙ ap (λ o. key_if o (queued q (entry_place p) name h)) here_waits

      here : option_map (λ _. k) (since queues p name) ≡ waits_since q (entry_place p) name reached
      here =
          ap (option_map (λ _. k)) since_here
          ∙ sym (heading_own doc k q (entry_place p) h name wanted w (entry_place p)
          ∙ ap (λ o. key_if o k) (refused_waits q h reached None change (entry_place p) name ∙ here_waits))

      by_zone : (b : Bool) → place_eq (entry_place p) zone ≡ b → cond b (option_map (λ _. k) (since queues (of_place zone) name)) (since queues (of_place zone) name) ≡ waits_since q zone name reached
      by_zone false apart = s zone name ∙ sym (heading_since_elsewhere doc k q (entry_place p) h name wanted w zone apart name)
      by_zone true is = subst (λ z. option_map (λ _. k) (since queues (of_place z) name) ≡ waits_since q z name reached) (same_place (entry_place p) zone is) here

  own_since : (queues : Queues) → QueuesStand q h queues → (a : Option Answer) → try_node q name w.x.0 h ≡ a → (zone : entry.Place)
      → requeued a p (of_place zone) k (since queues (of_place zone) name) ≡ waits_since q zone name reached
  own_since queues s (Some (answer.Done v)) is zone =
      sym (heading_own doc k q (entry_place p) h name wanted w zone ∙ ap (λ o. key_if o k) (accepted_waits doc k q (entry_place p) zone h name wanted w v is))
  own_since queues s None is zone = back_is queues s (subst (λ a. IsChange q h reached (noted_by name (tainted_with (new_taint doc k q wanted) w.x.1) a) None) is (heading_change doc k q (entry_place p) h name wanted w)) zone
  own_since queues s (Some answer.Absent) is zone =
      back_is queues s (subst (λ a. IsChange q h reached (noted_by name (tainted_with (new_taint doc k q wanted) w.x.1) a) None) is (heading_change doc k q (entry_place p) h name wanted w)) zone
  own_since queues s (Some answer.Exists) is zone =
      back_is queues s (subst (λ a. IsChange q h reached (noted_by name (tainted_with (new_taint doc k q wanted) w.x.1) a) None) is (heading_change doc k q (entry_place p) h name wanted w)) zone
  own_since queues s (Some (answer.Conflict v)) is zone =
      back_is queues s (subst (λ a. IsChange q h reached (noted_by name (tainted_with (new_taint doc k q wanted) w.x.1) a) None) is (heading_change doc k q (entry_place p) h name wanted w)) zone

  pub queues_reached : (old new : Queues) → QueuesStand q h old
      → ((zone : Place) (other : ℕ) → since new zone other ≡ cond (name == other) (requeued (try_node q name w.x.0 h) p zone k (since old zone name)) (since old zone other))
      → QueuesStand q reached new
  queues_reached old new s now zone n = now (of_place zone) n ∙ by_name (name == n) refl
    where
      by_name : (b : Bool) → (name == n) ≡ b
          → cond b (requeued (try_node q name w.x.0 h) p (of_place zone) k (since old (of_place zone) name)) (since old (of_place zone) n) ≡ waits_since q zone n reached
      by_name false apart = s zone n ∙ sym (heading_since doc k q (entry_place p) h name wanted w zone n apart)
      by_name true is =
          subst (λ n. requeued (try_node q name w.x.0 h) p (of_place zone) k (since old (of_place zone) name) ≡ waits_since q zone n reached) (eqb-true name n is)
          (own_since old s (try_node q name w.x.0 h) refl zone)

  -- ---- the token is taken

  limit_elsewhere : (zone : entry.Place) (x : Option Limit) → LimitStands doc q h zone x → place_eq (entry_place p) zone ≡ false → LimitStands doc q reached zone x
  limit_elsewhere zone None s apart = record { rated = s.rated; rate = tt; base = tt; full = tt }
  limit_elsewhere zone (Some limit) s apart =
      record {
        rated = s.rated;
        rate = s.rate;
        base = s.base ∙ ap (local doc q.process) (sym (heading_base_elsewhere doc k q (entry_place p) h name wanted w zone apart));
        full = s.full ∙ sym (heading_full_by doc k q (entry_place p) h name wanted w doc.settings.rules.bucket zone apart);
      }

  limit_here : (now : ℕ) → now ≡ local doc q.process k → (x : Option Limit) → LimitStands doc q h (entry_place p) x → LimitStands doc q reached (entry_place p) (after_token now x)
  limit_here now reading None s = record { rated = s.rated; rate = tt; base = tt; full = tt }
  limit_here now reading (Some limit) s =
      record {
        rated = s.rated;
        rate = s.rate;
        base = reading ∙ ap (local doc q.process) (sym (heading_base doc k q (entry_place p) h name wanted w));
        full = sym (by_rule doc.settings.rules.bucket);
      }
    where
      by_rule : (rule : BucketRule) → is_full_by rule doc q (entry_place p) reached ≡ false
      by_rule Empty = refl
      by_rule Full = heading_full doc k q (entry_place p) h name wanted w

  pub limits_reached : (old new : Zones) (now : ℕ) → now ≡ local doc q.process k → LimitsStand doc q h old → ((zone : entry.Place) → limit_at new zone ≡ taken_at p now zone (limit_at old zone))
      → LimitsStand doc q reached new
  limits_reached old new now reading s taken zone = subst (LimitStands doc q reached zone) (sym (taken zone)) (by_zone (place_eq (entry_place p) zone) refl)
    where
      by_zone : (b : Bool) → place_eq (entry_place p) zone ≡ b → LimitStands doc q reached zone (cond b (after_token now (limit_at old zone)) (limit_at old zone))
      by_zone false apart = limit_elsewhere zone (limit_at old zone) (s zone) apart
      by_zone true is =
          subst (λ z. LimitStands doc q reached z (after_token now (limit_at old z))) (same_place (entry_place p) zone is) (limit_here now reading (limit_at old (entry_place p)) (s (entry_place p)))
