-- Every entry of a lawful and well-named document's history can be written.
use Rattle.std.proofs.Common.{◌≡◌, ℕ, ◌+◌, ◌<◌, ◌≤◌, ◌==◌, Bool, true, false, List, [], ◌∷◌, ◌++◌, not, length, Option, Some, None, refl, sym, ◌∙◌, subst, inl, inr, ⊎_elim, arith}
use Rattle.std.proofs.lemmas.Bool.{eqb-true, ltb-true}
use Rattle.std.proofs.lemmas.List.{length-map, length-append}
use Rattle.std.proofs.lemmas.List.Elements.{recursion_from_All}
use Rattle.std.proofs.lemmas.Option.{slice_get_cases}
use Rattle.std.specs.List.{AllByRecursion}
use Rattle.kube_base.specs.declared.numbers.Version.{Version}
use Rattle.kube_objects.specs.declared.call.Request.{Request}
use Rattle.kube_objects.specs.declared.deed.Act.{Act}
use Rattle.kube_objects.specs.declared.deed.Actor.{Actor}
use Rattle.kube_objects.specs.declared.deed.Actor.TheVariants as actor
use Rattle.kube_objects.specs.declared.key.Key.{Key}
use Rattle.kube_objects.specs.declared.node.ReadyStatus.TheVariants as ready
use Rattle.kube_objects.specs.declared.object.Object.{Object}
use Rattle.kube_objects.specs.declared.script.Proc.{Proc}
use Rattle.kube_objects.specs.declared.script.What.{What}
use Rattle.kube_objects.specs.declared.script.What.TheVariants as what
use Rattle.kube_objects.specs.Clocks.{wall, store_wall, whole_second}
use Rattle.kube_objects.specs.Document.{Doc, processes, process_at, field, is_controller, end_beat, lease_seconds}
use Rattle.kube_objects.specs.Elector.{shown, release_from, acts_by, acts_on}
use Rattle.kube_objects.specs.Entry.{Entry, Identity, Call, CallKind, Fact, First, Event as Happens, Starts, Crashes, Stops, Stalls, Ends, ReleaseBegins, ReleaseEnds, StepsDown, ReleaseStops, Sends, Answers, Delivers, Expires, Leads, Ticks, actor_of, entry, script_entry}
use Rattle.kube_objects.specs.Identities.{identity, of_process, holder_of}
use Rattle.kube_objects.specs.InForce.{first_status}
use Rattle.kube_objects.specs.Kubelet.{node_of}
use Rattle.kube_objects.specs.Newest.{when, has, join}
use Rattle.kube_objects.specs.Process.{born, gone, life_says, life, alive, counted}
use Rattle.kube_objects.specs.Releases.{and_end, end_release, first_call, send_first, begin_release, is_mine}
use Rattle.kube_objects.specs.Stamps.{stamped}
use Rattle.kube_objects.specs.Stored.{stored, next_version}
use Rattle.kube_objects.specs.Tick.{tick}
use Rattle.kube_objects.specs.Wire.{Sent, Back, sent_of, back_of}
use Rattle.kube_objects.specs.Writable.{is_posted, IsOneOf, IsWritable}
use Rattle.history.specs.History.{put_all, history}
use Rattle.history.specs.Printed.{act_of, deeds_of, printed}
use Rattle.history.specs.Steps.{stamp, event_version}
use Rattle.history_laws.specs.Tails.{In}
use Rattle.history_laws.proofs.Counting.{counted_is}
use Rattle.history_laws.proofs.Plainly.{upper, some_is, none_is}
use Rattle.history_laws.proofs.Ticks.{walk_tick}
use Rattle.history_laws.proofs.Walk.{Scripted, Arriving, Coming, stopped_at, halted_at, after_reply, Ticking, KeepsTurn, Keeps, KeepsRelease, walk_history}
use Rattle.manifest_json.specs.Fields.{Texts}
use Rattle.manifest_json.specs.Readable.{IsNameNumber, IsReadableHolder, IsReadableItem}
use Rattle.script_reader.specs.Lawful.{IsLawfulDoc, IsWellNamed}
use Rattle.script_reader.specs.Walk.{numbers_of}
use Rattle.naming_laws.specs.Items.{IsWritableItem}
use Rattle.naming_laws.specs.Laws.{DeedsAreWritable, ItemsAreWellFormed, ItemsAreWritable}
use Rattle.naming_laws.specs.WellFormed.{IsIncarnation, IsWellFormedItem}
use Rattle.naming_laws.proofs.Answered.{second_whole, answered_fit}
use Rattle.naming_laws.proofs.Fits.{IsFitRequest, IsFitReply, IsFitWhat, IsTold, Carries, IsFitFact, AreFit, fit_in, stored_fit}
use Rattle.naming_laws.proofs.Lists.{all_append, all_at}
use Rattle.naming_laws.proofs.Readings.{space_held, writable_item, item_fit, stamped_fit, posted_is, scripted_lawful, scripted_fit}
use Rattle.naming_laws.proofs.Requests.{IsEarly, AsksFit, election_key, node_lease_key, waiting_fit, follow_fit, attempt_fit, release_fit, first_fit, look_fit, next_fit, post_fit}
use Rattle.naming_laws.proofs.Incarnations.{IsMember, IsStartOfMember, StartsAreOfMembers, starts_are_of_members}
use Rattle.naming_laws.proofs.Texts.{HoldsFixed, holds_fixed, controller_held}
use Rattle.naming_laws.proofs.TickSteps.{keeps_tick}
use Rattle.naming_laws.proofs.Walls.{field_is, wall_early, store_early}

-- ---- actors

-- who sends or is answered does so in an incarnation
abbrev pub IsInIncarnation : Actor → Type 0
IsInIncarnation actor.Script = Unit {0}
IsInIncarnation (actor.Proc id i) = IsIncarnation i

abbrev pub IsSender : Actor → Fact → Type 0
IsSender who (Sends call arrives) = IsInIncarnation who
IsSender who (Answers call reply comes written) = IsInIncarnation who
IsSender who _ = Unit {0}

abbrev pub ActorsAre : ℕ → List Entry → Type 0
ActorsAre n [] = Unit {0}
ActorsAre n (e ∷ h) = IsOneOf n e.actor × IsSender e.actor e.fact × ActorsAre n h

record IsActorOf (n : ℕ) (e : Entry) : Type 0 where
  one : IsOneOf n e.actor
  sender : IsSender e.actor e.fact

actor_in : (n : ℕ) (e : Entry) (h : List Entry) → ActorsAre n h → In e h → IsActorOf n e
actor_in n e [] are at = absurd at
actor_in n e (x ∷ h) are (inl is) = subst (IsActorOf n) (sym is) (record { one = are.0; sender = are.1 })
actor_in n e (x ∷ h) are (inr at) = actor_in n e h are.2 at

sends_as : (who : Actor) (d : Fact) → IsInIncarnation who → IsSender who d
sends_as who (Sends call arrives) is = is
sends_as who (Answers call reply comes written) is = is
sends_as who (First key object) is = tt
sends_as who (Happens event version) is = tt
sends_as who Starts is = tt
sends_as who Crashes is = tt
sends_as who Stops is = tt
sends_as who (Stalls beats) is = tt
sends_as who Ends is = tt
sends_as who (ReleaseBegins at_deadline) is = tt
sends_as who ReleaseEnds is = tt
sends_as who StepsDown is = tt
sends_as who ReleaseStops is = tt
sends_as who (Delivers call reply counts) is = tt
sends_as who (Expires call) is = tt
sends_as who (Leads version) is = tt
sends_as who (Ticks t) is = tt

-- who is up has started
up_within : (n p i : ℕ) (h : List Entry) → StartsAreOfMembers n h → alive p h ≡ Some i → (p < n) × IsIncarnation i
up_within n p i [] are up = absurd (none_is i up)
up_within n p i (e ∷ h) are up = cases (λ up. up_within n p i h are.1 up) e.actor e.fact are.0 up
  where
    Up : Type 0
    Up = (p < n) × IsIncarnation i

    Below : Type 0
    Below = alive p h ≡ Some i → Up

    starts : Below → (who : Actor) → IsMember n who → join (upper (born (of_process p who)) (life p h)) ≡ Some i → Up
    starts below actor.Script is up = below up
    starts below (actor.Proc id incarnation) is up = by (id.0 == p) refl up
      where
        by : (b : Bool) → (id.0 == p) ≡ b → join (upper (born (when b incarnation)) (life p h)) ≡ Some i → Up
        by true same up = (omega (arith, is.0, eqb-true id.0 p same), subst IsIncarnation (some_is incarnation i up) is.1)
        by false same up = below up

    ends : Below → (who : Actor) → join (upper (gone (of_process p who)) (life p h)) ≡ Some i → Up
    ends below who up = by (of_process p who) up
      where
        by : (o : Option ℕ) → join (upper (gone o) (life p h)) ≡ Some i → Up
        by None up = below up
        by (Some j) up = absurd (none_is i up)

    cases : Below → (who : Actor) (d : Fact) → IsStartOfMember n who d → join (upper (life_says p who d) (life p h)) ≡ Some i → Up
    cases below who Starts is up = starts below who is up
    cases below who Crashes is up = ends below who up
    cases below who Stops is up = ends below who up
    cases below who (Stalls beats) is up = below up
    cases below who Ends is up = ends below who up
    cases below who (ReleaseBegins at_deadline) is up = below up
    cases below who ReleaseEnds is up = ends below who up
    cases below who StepsDown is up = below up
    cases below who ReleaseStops is up = below up
    cases below who (First key object) is up = below up
    cases below who (Happens event version) is up = below up
    cases below who (Sends call arrives) is up = below up
    cases below who (Answers call reply comes written) is up = below up
    cases below who (Delivers call reply counts) is up = below up
    cases below who (Expires call) is up = below up
    cases below who (Leads version) is up = below up
    cases below who (Ticks t) is up = below up

-- ---- what is in flight

abbrev IsFitSent : Texts → List ℕ → ℕ → Option Sent → Type 0
IsFitSent names known n None = Unit {0}
IsFitSent names known n (Some x) = IsMember n (actor_of x.who) × IsFitRequest names known x.call.request

abbrev IsFitBack : Texts → List ℕ → ℕ → Option Back → Type 0
IsFitBack names known n None = Unit {0}
IsFitBack names known n (Some x) = IsMember n (actor_of x.who) × IsFitRequest names known x.call.request × IsFitReply names known x.reply

sent_fit : (names : Texts) (known : List ℕ) (n : ℕ) (who : Actor) (d : Fact) → IsOneOf n who → IsSender who d → Carries names known d → IsFitSent names known n (sent_of who d)
sent_fit names known n actor.Script (Sends call arrives) one is carries = tt
sent_fit names known n (actor.Proc id incarnation) (Sends call arrives) one is carries = ((one, is), carries)
sent_fit names known n who (First key object) one is carries = tt
sent_fit names known n who (Happens event version) one is carries = tt
sent_fit names known n who Starts one is carries = tt
sent_fit names known n who Crashes one is carries = tt
sent_fit names known n who Stops one is carries = tt
sent_fit names known n who (Stalls beats) one is carries = tt
sent_fit names known n who Ends one is carries = tt
sent_fit names known n who (ReleaseBegins at_deadline) one is carries = tt
sent_fit names known n who ReleaseEnds one is carries = tt
sent_fit names known n who StepsDown one is carries = tt
sent_fit names known n who ReleaseStops one is carries = tt
sent_fit names known n who (Answers call reply comes written) one is carries = tt
sent_fit names known n who (Delivers call reply counts) one is carries = tt
sent_fit names known n who (Expires call) one is carries = tt
sent_fit names known n who (Leads version) one is carries = tt
sent_fit names known n who (Ticks t) one is carries = tt

back_fit : (names : Texts) (known : List ℕ) (n : ℕ) (who : Actor) (d : Fact) → IsOneOf n who → IsSender who d → Carries names known d → IsFitBack names known n (back_of who d)
back_fit names known n actor.Script (Answers call reply comes written) one is carries = tt
back_fit names known n (actor.Proc id incarnation) (Answers call reply comes written) one is carries = ((one, is), carries.0, carries.1)
back_fit names known n who (First key object) one is carries = tt
back_fit names known n who (Happens event version) one is carries = tt
back_fit names known n who Starts one is carries = tt
back_fit names known n who Crashes one is carries = tt
back_fit names known n who Stops one is carries = tt
back_fit names known n who (Stalls beats) one is carries = tt
back_fit names known n who Ends one is carries = tt
back_fit names known n who (ReleaseBegins at_deadline) one is carries = tt
back_fit names known n who ReleaseEnds one is carries = tt
back_fit names known n who StepsDown one is carries = tt
back_fit names known n who ReleaseStops one is carries = tt
back_fit names known n who (Sends call arrives) one is carries = tt
back_fit names known n who (Delivers call reply counts) one is carries = tt
back_fit names known n who (Expires call) one is carries = tt
back_fit names known n who (Leads version) one is carries = tt
back_fit names known n who (Ticks t) one is carries = tt

pub record IsWell (names : Texts) (known : List ℕ) (n : ℕ) (h : List Entry) : Type 0 where
  pub fit : AreFit names known h
  pub actors : ActorsAre n h

-- ---- one more entry

module _ (names : Texts) (doc : Doc) (fixed : HoldsFixed names) (lawful : IsLawfulDoc doc) (named : IsWellNamed names doc) where
  abbrev known : List ℕ
  known = numbers_of doc.controllers

  abbrev n : ℕ
  n = processes doc

  -- the history so far, where each start was of a process of the document
  abbrev Well : ℕ → ℕ → List Entry → Type 0
  Well k step h = k ≤ end_beat doc + 1 → StartsAreOfMembers n h → IsWell names known n h

  more : (k step : ℕ) (q : Identity) (d : Fact) (h : List Entry) → IsMember n (actor_of q) → IsFitFact names known (actor_of q) d → IsWell names known n h → IsWell names known n (entry k step q d ∷ h)
  more k step q d h member fit well = record { fit = (fit, well.fit); actors = (member.0, sends_as (actor_of q) d member.1, well.actors) }

  controller_below : (p : ℕ) → is_controller doc p ≡ true → p < length doc.controllers
  controller_below p role = ltb-true p (length doc.controllers) role

  controller_within : (p : ℕ) → is_controller doc p ≡ true → p < n
  controller_within p role = omega (arith, controller_below p role, length-append doc.controllers doc.kubelets)

  -- a controller is written as the holder of a Lease
  own_holder : (q : Identity) → is_controller doc q.process ≡ true → IsIncarnation q.incarnation → IsReadableHolder names known (holder_of q)
  own_holder q role incarnation = controller_held names doc.controllers q.process q.incarnation named.controllers lawful.controllers_apart (controller_below q.process role) incarnation

  lasts : (p : ℕ) → lease_seconds doc p ≤ 86400
  lasts p = field_is doc lawful (λ n. n ≤ 86400) (λ x. x.lease_seconds) 0 (omega arith) (λ x ok. ok.lease) p

  early : (p k : ℕ) → k ≤ end_beat doc + 1 → IsEarly doc p k
  early p k le = wall_early doc lawful p k le

  names_held : AllByRecursion (λ p. IsNameNumber names p.name) (doc.controllers ++ doc.kubelets)
  names_held = all_append (λ p. IsNameNumber names p.name) doc.controllers doc.kubelets
      (recursion_from_All (λ p. IsNameNumber names p.name) doc.controllers named.controllers) (recursion_from_All (λ p. IsNameNumber names p.name) doc.kubelets named.kubelets)

  node_held : (p : ℕ) → p < n → IsNameNumber names (node_of doc p)
  node_held p below = cases (process_at doc p) refl
    where
      missing : process_at doc p ≡ None → ⊥
      missing is = ⊎_elim (λ there. none_is there.0 (sym is ∙ there.2)) (λ past. absurd (omega (arith, below, past.0))) (slice_get_cases (doc.controllers ++ doc.kubelets) p).1

      cases : (o : Option Proc) → process_at doc p ≡ o → IsNameNumber names (field (λ x. x.name) 0 o)
      cases None is = absurd (missing is)
      cases (Some x) is = all_at (λ p. IsNameNumber names p.name) (doc.controllers ++ doc.kubelets) p x names_held is

  first_posted : (p : ℕ) → is_posted (first_status doc p) ≡ true
  first_posted p = field_is doc lawful (λ s. is_posted s ≡ true) (λ x. x.ready) ready.True refl (λ x ok. posted_is x.ready ok.ready) p

  -- ---- what the script does

  stamped_what : (k : ℕ) (w : What) → k ≤ end_beat doc + 1 → IsFitWhat names known w → IsFitWhat names known (stamp doc k w)
  stamped_what k (what.Put key object) le fit =
      stamped_fit names known (whole_second (store_wall doc k)) key object (second_whole (store_wall doc k) (store_early doc lawful k le)) fit
  stamped_what k (what.Remove key) le fit = fit
  stamped_what k (what.Ready id status) le fit = fit
  stamped_what k (what.Rate id ppm) le fit = tt
  stamped_what k (what.Delay id requests replies) le fit = tt
  stamped_what k (what.Loss id requests replies) le fit = tt
  stamped_what k (what.Crash id) le fit = tt
  stamped_what k (what.Start id) le fit = tt
  stamped_what k (what.Stop id) le fit = tt
  stamped_what k (what.Watch id on) le fit = tt
  stamped_what k (what.Pause id beats) le fit = tt
  stamped_what k (what.Stall beats) le fit = tt

  event_fact : (w : What) (h : List Entry) → IsFitWhat names known w → IsFitFact names known actor.Script (Happens w (event_version w h))
  event_fact (what.Put key object) h fit = record { told = (record { form = refl; held = (space_held names fixed key fit.named, (fit.named.0.0, tt)); timely = tt }, refl); wrote = fit; carries = fit }
  event_fact (what.Remove key) h fit = by_found (has (stored key h))
    where
      by_found : (b : Bool) → IsFitFact names known actor.Script (Happens (what.Remove key) (when b (next_version h)))
      by_found true = record { told = (record { form = refl; held = (fit.0, (fit.1, tt)); timely = tt }, refl); wrote = tt; carries = fit }
      by_found false = record { told = tt; wrote = tt; carries = fit }
  event_fact (what.Ready id status) h fit = record { told = tt; wrote = tt; carries = fit }
  event_fact (what.Rate id ppm) h fit = record { told = tt; wrote = tt; carries = tt }
  event_fact (what.Delay id requests replies) h fit = record { told = tt; wrote = tt; carries = tt }
  event_fact (what.Loss id requests replies) h fit = record { told = tt; wrote = tt; carries = tt }
  event_fact (what.Crash id) h fit = record { told = tt; wrote = tt; carries = tt }
  event_fact (what.Start id) h fit = record { told = tt; wrote = tt; carries = tt }
  event_fact (what.Stop id) h fit = record { told = tt; wrote = tt; carries = tt }
  event_fact (what.Watch id on) h fit = record { told = tt; wrote = tt; carries = tt }
  event_fact (what.Pause id beats) h fit = record { told = tt; wrote = tt; carries = tt }
  event_fact (what.Stall beats) h fit = record { told = (record { form = refl; held = tt; timely = tt }, refl); wrote = tt; carries = tt }

  event_at : (k : ℕ) (w : What) (h : List Entry) → Scripted doc k w → k ≤ end_beat doc + 1 → IsFitFact names known actor.Script (Happens (stamp doc k w) (event_version w h))
  event_at k w h scripted le = subst (λ v. IsFitFact names known actor.Script (Happens (stamp doc k w) v)) (same w) (event_fact (stamp doc k w) h (stamped_what k w le (scripted_fit names doc fixed lawful named k w scripted)))
    where
      same : (w : What) → event_version (stamp doc k w) h ≡ event_version w h
      same (what.Put key object) = refl
      same (what.Remove key) = refl
      same (what.Ready id status) = refl
      same (what.Rate id ppm) = refl
      same (what.Delay id requests replies) = refl
      same (what.Loss id requests replies) = refl
      same (what.Crash id) = refl
      same (what.Start id) = refl
      same (what.Stop id) = refl
      same (what.Watch id on) = refl
      same (what.Pause id beats) = refl
      same (what.Stall beats) = refl

  -- ---- simple facts of processes

  start_fact : (q : Identity) → IsFitFact names known (actor_of q) Starts
  start_fact q = record { told = (record { form = refl; held = tt; timely = tt }, refl); wrote = tt; carries = tt }

  crash_fact : (q : Identity) → IsFitFact names known (actor_of q) Crashes
  crash_fact q = record { told = (record { form = refl; held = tt; timely = tt }, refl); wrote = tt; carries = tt }

  stop_fact : (q : Identity) → IsFitFact names known (actor_of q) Stops
  stop_fact q = record { told = (record { form = refl; held = tt; timely = tt }, refl); wrote = tt; carries = tt }

  stall_fact : (q : Identity) (beats : ℕ) → IsFitFact names known (actor_of q) (Stalls beats)
  stall_fact q beats = record { told = (record { form = refl; held = tt; timely = tt }, refl); wrote = tt; carries = tt }

  end_fact : (q : Identity) → IsFitFact names known (actor_of q) Ends
  end_fact q = record { told = (record { form = refl; held = tt; timely = tt }, refl); wrote = tt; carries = tt }

  halt_fact : (q : Identity) → IsFitFact names known (actor_of q) ReleaseStops
  halt_fact q = record { told = (record { form = refl; held = tt; timely = tt }, refl); wrote = tt; carries = tt }

  step_down_fact : (q : Identity) → IsFitFact names known (actor_of q) StepsDown
  step_down_fact q = record { told = (record { form = refl; held = tt; timely = tt }, refl); wrote = tt; carries = tt }

  begin_fact : (q : Identity) (at_deadline : Bool) → IsFitFact names known (actor_of q) (ReleaseBegins at_deadline)
  begin_fact q at_deadline = record { told = tt; wrote = tt; carries = tt }

  release_end_fact : (q : Identity) → IsFitFact names known (actor_of q) ReleaseEnds
  release_end_fact q = record { told = tt; wrote = tt; carries = tt }

  lead_fact : (q : Identity) (version : Version) → IsFitFact names known (actor_of q) (Leads version)
  lead_fact q version = record { told = (record { form = refl; held = tt; timely = tt }, refl); wrote = tt; carries = tt }

  expire_fact : (q : Identity) (call : Call) → IsFitFact names known (actor_of q) (Expires call)
  expire_fact q call = record { told = tt; wrote = tt; carries = tt }

  send_fact : (q : Identity) (call : Call) (arrives : Option ℕ) → IsFitRequest names known call.request → IsFitFact names known (actor_of q) (Sends call arrives)
  send_fact q call arrives fit = record { told = tt; wrote = tt; carries = fit }

  deliver_fact : (q : Identity) (call : Call) (b : Back) (counts : Bool) → IsFitRequest names known call.request → IsFitReply names known b.reply
      → IsFitFact names known (actor_of q) (Delivers call b.reply counts)
  deliver_fact q call b counts asked replied = record { told = tt; wrote = tt; carries = (asked, replied) }

  arriving_fit : (k : ℕ) (h : List Entry) (x : Sent) → Arriving k h x → IsWell names known n h → IsFitSent names known n (Some x)
  arriving_fit k h x at well =
      subst (IsFitSent names known n) at.is (sent_fit names known n at.e.actor at.e.fact (actor_in n at.e h well.actors at.stands).one (actor_in n at.e h well.actors at.stands).sender (fit_in names known at.e h well.fit at.stands).carries)

  coming_fit : (k : ℕ) (h : List Entry) (b : Back) → Coming k h b → IsWell names known n h → IsFitBack names known n (Some b)
  coming_fit k h b at well =
      subst (IsFitBack names known n) at.is (back_fit names known n at.e.actor at.e.fact (actor_in n at.e h well.actors at.stands).one (actor_in n at.e h well.actors at.stands).sender (fit_in names known at.e h well.fit at.stands).carries)

  waits_fit : (q : Identity) (k number : ℕ) (h : List Entry) (waiting : Call) → counted doc q k number h ≡ Some waiting → IsWell names known n h → IsFitRequest names known waiting.request
  waits_fit q k number h waiting is well = waiting_fit names known fixed q h well.fit waiting (counted_is doc q k number h waiting is).waits

  -- ---- every kind of entry

  tick_well : (k : ℕ) (q : Identity) (h : List Entry) → Ticking doc q k → (k ≤ end_beat doc + 1 → StartsAreOfMembers n h → IsWell names known n h) → k ≤ end_beat doc + 1 → StartsAreOfMembers n (tick doc k q h)
      → IsWell names known n (tick doc k q h)
  tick_well k q h ticking s le good =
      let before : StartsAreOfMembers n h = walk_tick doc k q (λ g. StartsAreOfMembers n g → StartsAreOfMembers n h) (λ t g made s good. s good.1) h (λ good. good) good in
      let well = s le before in
      record {
        fit = keeps_tick names known fixed doc k q (early q.process k le) h well.fit;
        actors = walk_tick doc k q (ActorsAre n) (λ t g made are. (controller_within q.process ticking.role, tt, are)) h well.actors;
      }

  keeps_turn : KeepsTurn doc (Ticking doc) (λ k h. Well k 4 h)
  keeps_turn = record {
    restarts = λ k p h s le good. record { fit = (start_fact _, (s le good.1).fit); actors = (good.0.0, tt, (s le good.1).actors) };
    expires = λ k p i call h up waits late of s le good. let well = s le good.1 in
        more k 4 (identity p i) (Expires call) h (up_within n p i h good.1 up) (expire_fact (identity p i) call) well;
    ends = λ k p i at h role up is before stop s le good. more k 4 (identity p i) Ends h (up_within n p i h good.1 up) (end_fact (identity p i)) (s le good.1);
    polls = λ k p i h role up awake waits s le good. more k 4 (identity p i) (Sends _ _) h (up_within n p i h good.1 up) (send_fact (identity p i) _ _ (election_key names known fixed)) (s le good.1);
    attempts = λ k p i h role up awake waits s le good. let well = s le good.1 in let member = up_within n p i h good.1 up in
        more k 4 (identity p i) (Sends _ _) h member
        (send_fact (identity p i) _ _ (attempt_fit names known fixed doc (identity p i) k (own_holder (identity p i) role member.1) (lasts p) (early p k le) h well.fit)) well;
    seeks = λ k p i call h role up awake expired post s le good. let well = s le good.1 in let member = up_within n p i h good.1 up in
        more k 4 (identity p i) (Sends _ _) h member (send_fact (identity p i) _ _ (node_lease_key names known fixed (node_of doc p) (node_held p member.0))) well;
    posts = λ k p i h role up awake none s le good. let well = s le good.1 in let member = up_within n p i h good.1 up in
        more k 4 (identity p i) (Sends _ _) h member
        (send_fact (identity p i) _ _ (post_fit names known fixed doc (identity p i) k (node_held p member.0) lawful.settings.node_lease (early p k le) h (first_posted p) well.fit)) well;
    ticks = λ k q h ticking s le good. tick_well k q h ticking s le good;
  }

  keeps : Keeps doc Well
  keeps = record {
    on = λ k step h s. s;
    next = λ k s le good. s (omega (arith, le)) good;
    event = λ k w h scripted s le good. record { fit = (event_at k w h scripted le, (s le good.1).fit); actors = (tt, tt, (s le good.1).actors) };
    starts = λ k step p h s le good. record { fit = (start_fact _, (s le good.1).fit); actors = (good.0.0, tt, (s le good.1).actors) };
    crashes = λ k p i h up s le good. let well = s le good.1 in more k 1 (identity p i) Crashes h (up_within n p i h good.1 up) (crash_fact (identity p i)) well;
    stalls = λ k id beats i h scripted up s le good. let well = s le good.1 in more k 1 (identity id.0 i) (Stalls beats) h (up_within n id.0 i h good.1 up) (stall_fact (identity id.0 i) beats) well;
    stops = λ k id i h scripted up free s le good. more k 1 (identity id.0 i) Stops h (up_within n id.0 i h good.1 up) (stop_fact (identity id.0 i)) (s le good.1);
    releases = λ k id i before request scripted up awake is stop was s le good.
        let role = scripted_lawful names doc fixed lawful named k (what.Stop id) scripted in
        let well = s le good.1 in
        let member = up_within n id.0 i before good.1.1.1 up in
        more k 1 (identity id.0 i) (Sends _ _) (stopped_at k id i before) member
        (send_fact (identity id.0 i) _ _ (release_fit names known fixed doc (identity id.0 i) k (own_holder (identity id.0 i) role member.1) (lasts id.0) (early id.0 k le) before well.fit.1.1 request is)) well;
    answers = λ k x h at s le good.
        let well = s le good.1 in
        let sent = arriving_fit k h x at well in
        more k 2 x.who (Answers _ _ _ _) h sent.0 (answered_fit names known fixed h well.fit x.who x.call _ sent.1) well;
    ignores = λ k b h coming is s le good.
        let well = s le good.1 in
        let back = coming_fit k h b coming well in
        more k 3 b.who (Delivers _ _ _) h back.0 (deliver_fact b.who b.call b false back.1 back.2) well;
    counts = λ k b waiting h coming is of s le good.
        let well = s le good.1 in
        let back = coming_fit k h b coming well in
        more k 3 b.who (Delivers _ _ _) h back.0 (deliver_fact b.who waiting b true (waits_fit b.who k b.call.number h waiting is well) back.2) well;
    follows = λ k b waiting h request coming is role of follows was s le good.
        let back = coming_fit k h b coming (was le good.1.1) in
        more k 3 b.who (Sends _ _) (after_reply k b waiting h) back.0 (send_fact b.who _ _ (subst (AsksFit names known) follows
        (follow_fit names known fixed doc b.who k (own_holder b.who role back.0.1) (lasts b.who.process) (early b.who.process k le) waiting.kind waiting.request b.reply (after_reply k b waiting h) back.2))) (s le good.1);
    leads = λ k b waiting h version coming is role of follows was s le good.
        let back = coming_fit k h b coming (was le good.1.1) in
        more k 3 b.who (Leads version) (after_reply k b waiting h) back.0 (lead_fact b.who version) (s le good.1);
    asks = λ k b waiting h request coming is role asked was s le good.
        let well = was le good.1.1 in
        let back = coming_fit k h b coming well in
        more k 3 b.who (Sends _ _) (after_reply k b waiting h) back.0 (send_fact b.who _ _
        (next_fit names known fixed doc b.who k (node_held b.who.process back.0.0) lawful.settings.node_lease (early b.who.process k le) waiting.request b.reply request (waits_fit b.who k b.call.number h waiting is well) back.2 asked)) (s le good.1);
    turns = keeps_turn;
  }

  -- ---- releases

  -- a release's entries are by one who is of the document
  abbrev WellOf : Identity → List Entry → Type 0
  WellOf q h = StartsAreOfMembers n h → IsWell names known n h × IsMember n (actor_of q)

  one_of : (k step : ℕ) (q : Identity) (d : Fact) (h : List Entry) → IsFitFact names known (actor_of q) d → WellOf q h → WellOf q (entry k step q d ∷ h)
  one_of k step q d h fit s good = let t = s good.1 in (more k step q d h t.1 fit t.0, t.1)

  and_end_of : (k step : ℕ) (q : Identity) (b : Bool) (h : List Entry) → WellOf q h → WellOf q (and_end k step q b h)
  and_end_of k step q true h s = one_of k step q StepsDown h (step_down_fact q) s
  and_end_of k step q false h s = s

  end_of : (k step : ℕ) (q : Identity) (h : List Entry) → WellOf q h → WellOf q (end_release doc k step q h)
  end_of k step q h s = one_of k step q ReleaseEnds (and_end k step q (acts_on doc q h) h) (release_end_fact q) (and_end_of k step q (acts_on doc q h) h s)

  begin_of : (k step : ℕ) (q : Identity) (at_deadline : Bool) (h : List Entry) → k ≤ end_beat doc + 1 → is_controller doc q.process ≡ true → WellOf q h → WellOf q (begin_release doc k step q at_deadline h)
  begin_of k step q at_deadline h le role s = by_call (first_call doc.settings.rules.release k (release_from q (wall doc q.process k) (shown q h))) refl
    where
      g : List Entry
      g = entry k step q (ReleaseBegins at_deadline) ∷ h

      begun : WellOf q g
      begun = one_of k step q (ReleaseBegins at_deadline) h (begin_fact q at_deadline) s

      by_call : (o : Option (CallKind × Request)) → first_call doc.settings.rules.release k (release_from q (wall doc q.process k) (shown q h)) ≡ o → WellOf q (send_first doc k step q o g)
      by_call None is good = end_of k step q g begun good
      by_call (Some call) is good =
          let was = s good.1.1 in
          let t = begun good.1 in
          (more k step q (Sends _ _) g t.1 (send_fact q _ _ (first_fit names known fixed doc q k (own_holder q role t.1.1) (lasts q.process) (early q.process k le) h was.0.fit call is)) t.0, t.1)

  -- a reply in one
  replied_of : (k : ℕ) (b : Back) (waiting : Call) (h : List Entry) → Coming k h b → counted doc b.who k b.call.number h ≡ Some waiting → (StartsAreOfMembers n h → IsWell names known n h) → WellOf b.who (after_reply k b waiting h)
  replied_of k b waiting h coming is s good =
      let well = s good.1 in
      let back = coming_fit k h b coming well in
      (more k 3 b.who (Delivers _ _ _) h back.0 (deliver_fact b.who waiting b true (waits_fit b.who k b.call.number h waiting is well) back.2) well, back.0)

  releases : KeepsRelease doc Well
  releases = record {
    halts = λ k id i h scripted up other runs s le good. more k 1 (identity id.0 i) ReleaseStops h (up_within n id.0 i h good.1 up) (halt_fact (identity id.0 i)) (s le good.1);
    begins = λ k id i before scripted up awake other fresh led s le good.
        (begin_of k 1 (identity id.0 i) false (halted_at k id i before) le (scripted_lawful names doc fixed lawful named k (what.Stop id) scripted)
        (one_of k 1 (identity id.0 i) ReleaseStops (script_entry k 1 (Happens (what.Stop id) None) ∷ before) (halt_fact (identity id.0 i)) (λ good. (s le good, up_within n id.0 i before good.1 up))) good).0;
    empties = λ k begun b waiting h request coming is role of look asked s le good.
        let back = coming_fit k h b coming (s le good.1.1) in
        let t = replied_of k b waiting h coming is (s le) good.1 in
        more k 3 b.who (Sends _ _) (after_reply k b waiting h) t.1 (send_fact b.who _ _
        (look_fit names known fixed doc b.who k (own_holder b.who role t.1.1) (lasts b.who.process) (early b.who.process k le) doc.settings.rules.release (is_mine b.who (after_reply k b waiting h)) b.reply back.2 request asked)) t.0;
    closes = λ k begun b waiting h coming is role of s le good. (end_of k 3 b.who (after_reply k b waiting h) (replied_of k b waiting h coming is (s le)) good).0;
    turns = record {
      closes = λ k p i begun call h up waits late is s le good. (end_of k 4 (identity p i) h (λ good. (s le good, up_within n p i h good up)) good).0;
      begins = λ k p i at h role up awake is before other fresh s le good.
          let early = not (acts_by doc.settings.rules.in_release true) in
          (begin_of k 4 (identity p i) true (and_end k 4 (identity p i) early h) le role
          (and_end_of k 4 (identity p i) early h (λ good. (s le good, up_within n p i h good up))) good).0;
    };
  }

  -- ---- histories

  items_fit : (items : List (Key × Object)) → AllByRecursion (IsReadableItem names known) items → (h : List Entry) → IsWell names known n h → IsWell names known n (put_all doc items h)
  items_fit [] all h well = well
  items_fit (x ∷ xs) all h well = items_fit xs all.1 (script_entry 0 0 (First x.0 (stamped (whole_second (store_wall doc 0)) x.1)) ∷ h)
      (record { fit = (record { told = tt; wrote = put; carries = tt }, well.fit); actors = (tt, tt, well.actors) })
    where
      put : IsWellFormedItem names known x.0 (stamped (whole_second (store_wall doc 0)) x.1)
      put = stamped_fit names known (whole_second (store_wall doc 0)) x.0 x.1 (second_whole (store_wall doc 0) (store_early doc lawful 0 (omega arith))) (item_fit names known x.0 x.1 all.0)

  pub history_well : (k : ℕ) → k ≤ end_beat doc + 1 → IsWell names (numbers_of doc.controllers) (processes doc) (history doc k)
  history_well k le = walk_history doc Well keeps releases (λ le good. items_fit doc.objects named.objects.each [] (record { fit = tt; actors = tt })) k le (starts_are_of_members doc lawful k le)

-- ---- what is printed

printed_writable : (names : Texts) (controllers : List ℕ) (n : ℕ) (h : List Entry) → AreFit names controllers h → ActorsAre n h → AllByRecursion (IsWritable names n) (printed h)
printed_writable names controllers n [] fit are = tt
printed_writable names controllers n (e ∷ h) fit are =
    all_append (IsWritable names n) (printed h) (deeds_of e.beat e.actor (act_of e.fact)) (printed_writable names controllers n h fit.1 are.2) (by_act (act_of e.fact) fit.0.told)
  where
    by_act : (o : Option Act) → IsTold names e.actor o → AllByRecursion (IsWritable names n) (deeds_of e.beat e.actor o)
    by_act None told = tt
    by_act (Some a) told = (record { actor = are.0; sort = told.1; act = told.0 }, tt)

pub deeds_writable : DeedsAreWritable
deeds_writable names doc are lawful named k le =
    let well = history_well names doc (holds_fixed names are) lawful named k le in
    printed_writable names (numbers_of doc.controllers) (processes doc) (history doc k) well.fit well.actors

pub items_well_formed : ItemsAreWellFormed
items_well_formed names doc are lawful named k le key x is =
    stored_fit names (numbers_of doc.controllers) (history doc k) (history_well names doc (holds_fixed names are) lawful named k le).fit key x is

pub items_writable : ItemsAreWritable
items_writable names doc are lawful named k le key x is =
    subst (λ c. IsWritableItem names c key x.object) (length-map doc.controllers (λ p. p.name))
    (writable_item names (numbers_of doc.controllers) (holds_fixed names are) key x.object (items_well_formed names doc are lawful named k le key x is))
