-- Layer 3, the world around one process: one process has moved, and the world stands again.
use Rattle.std.proofs.Common.{All, Vec, Global, ◌≡◌, ℕ, ◌+◌, ◌<◌, ◌≤◌, ◌==◌, ◌++◌, Bool, true, false, List, ◌∷◌, Option, Some, None, slice_get, slice_set, length, refl, sym, ap, ◌∙◌, subst, append_assoc, vec_len, arith, if◌then◌else◌}
use Rattle.std.proofs.lemmas.List.{length-set}
use Rattle.std.proofs.lemmas.Option.{slice_get_within}
use Rattle.beat_tree.specs.declared.tree.BeatTree.{BeatTree}
use Rattle.beat_tree.specs.Leaves.{leaf, room}
use Rattle.kube_base.proofs.Lists.{get-set_other, get-set_same}
use Rattle.kube_objects.specs.declared.call.Ask.{Ask}
use Rattle.kube_objects.specs.declared.deed.Deed.{Deed}
use Rattle.kube_objects.specs.Answers.{answer, written}
use Rattle.kube_objects.specs.declared.deed.Act.TheVariants as act
use Rattle.kube_objects.specs.Document.{Doc, processes, is_up_first}
use Rattle.kube_objects.specs.Entry.{Entry, Identity, Sends, Answers, Delivers, entry, actor_of}
use Rattle.kube_objects.specs.Identities.{identity}
use Rattle.kube_objects.specs.Process.{starts}
use Rattle.kube_objects.specs.Wire.{Sent, Back, next_call, request_arrival, reply_arrival}
use Rattle.history.specs.Printed.{printed, deeds_of, answer_act}
use Rattle.history.specs.Steps.{answered, delivered, start_first, start}
use Rattle.object_store.specs.declared.store.Store.{Store}
use Rattle.object_store.proofs.Keeps.{store-beside}
use Rattle.pause_times.specs.Owned.{StallsStand}
use Rattle.wire_calls.specs.declared.wire.Wire.{Wire}
use Rattle.wire_calls.specs.WireStands.{WireStands}
use Rattle.world_process.specs.declared.in_force.InForce.{InForce}
use Rattle.world_process.specs.declared.process.Process.{Process}
use Rattle.world_process.specs.declared.moves.Received.{Received}
use Rattle.world_process.specs.declared.moves.Turn.{Turn}
use Rattle.world_core.specs.declared.world.World.{World}
use Rattle.world_process.specs.Processes.{IsKept, ProcessStands, SameProcess, AsksIn, Turned, Replied, incarnation_of, clock_of, is_up_first_as, waking_of}
use Rattle.world_process.specs.InForce.{InForceStands}
use Rattle.world_process.specs.Moves as moves
use Rattle.world_process.specs.Moves.{AsksOnReply, restarted, own_turn, started_deeds, ended_deeds, lead_deeds}
use Rattle.world_process.specs.Plain.{IsKnown, with_facts}
use Rattle.world_core.specs.Worlds.{AreKept, AreNoted, IsFit, IsReady, SameDocument, Keeps, DocStands, EachStands, OthersStand, WorldWithin, MidBeat, SendsAsked}
use Rattle.world_core.proofs.Around.{Around, around-world, around-own, around-facts, around-restarted, around-started, starts-facts}
use Rattle.world_process.proofs.Forces.{in_force-beside}
use Rattle.world_process.proofs.Processes.{process-incarnation, process-others, process-answered, process-up_first}
use Rattle.object_store.specs.Stands.{StoreStands}
use Rattle.world_process.proofs.Names.{eq-is, eq-isnt, eq-self}
use Rattle.world_process.proofs.Plainly.{plain-entry, known-later, starts-start}

-- a step of a beat changes these of a world alone
pub same_document : {w : World} {store : Store} {wire : Wire} {processes : Vec Process Global} {turn_beats : BeatTree} {in_force : InForce} {place : ℕ}
    → SameDocument w (record w { store = store; wire = wire; processes = processes; turn_beats = turn_beats; in_force = in_force; place = place })
same_document = record { beat = refl; end = refl; restart = refl; epoch = refl; micros = refl; events = refl; names = refl; controllers = refl; stalls = refl }

-- the world with process i moved; its wire may have changed too
pub record Moved (i : ℕ) (c0 c1 : Process) (w v : World) : Type 0 where
  pub was : slice_get w.processes.items i ≡ Some c0
  pub now : v.processes.items ≡ slice_set w.processes.items i c1
  pub same : SameDocument w v
  pub place : v.place ≡ w.place
  pub store : v.store ≡ w.store
  pub in_force : v.in_force ≡ w.in_force

-- process i was written back; no more of the world changed than its wire and what is noted of its turn
pub one_process_moved : {i : ℕ} {c0 c1 : Process} {w : World} {wire : Wire} {processes : Vec Process Global} {turn_beats : BeatTree} → slice_get w.processes.items i ≡ Some c0
    → processes.items ≡ slice_set w.processes.items i c1 → Moved i c0 c1 w (record w { wire = wire; processes = processes; turn_beats = turn_beats })
one_process_moved was now = record { was = was; now = now; same = same_document; place = refl; store = refl; in_force = refl }

-- the processes and what was read of the document are as before
pub record Unmoved (w v : World) : Type 0 where
  pub same : SameDocument w v
  pub processes : v.processes ≡ w.processes

pub unmoved : {w : World} {store : Store} {wire : Wire} {in_force : InForce} {place : ℕ} → Unmoved w (record w { store = store; wire = wire; in_force = in_force; place = place })
unmoved = record { same = same_document; processes = refl }

each-set : (doc : Doc) (i : ℕ) (h : List Entry) (cs : List Process) (c0 c1 : Process) → slice_get cs i ≡ Some c0 → OthersStand doc i h cs → ProcessStands doc i h c1 → EachStands doc h (slice_set cs i c1)
each-set doc i h cs c0 c1 was others own p c is = by_place (p == i) refl
  where
    by_place : (b : Bool) → (p == i) ≡ b → ProcessStands doc p h c
    by_place true same =
        let place : p ≡ i = eq-is p i same in
        let there : Some c ≡ Some c1 = sym is ∙ ap (slice_get (slice_set cs i c1)) place ∙ get-set_same cs i c1 (slice_get_within cs i c0 was) in
        let own_c : c1 ≡ c = cc in
        subst (λ x. ProcessStands doc x h c) (sym place) (subst (ProcessStands doc i h) own_c own)
    by_place false other =
        let apart : ¬ (p ≡ i) = λ e. (let now : (p == i) ≡ true = ap (λ x. p == x) (sym e) ∙ eq-self p in cc) in
        others p c apart (sym (get-set_other cs i p c1 apart) ∙ is)

-- what was read of the document stands as before
pub doc-same : (doc : Doc) (k : ℕ) (w v : World) → SameDocument w v → length v.processes.items ≡ length w.processes.items → DocStands doc k w → DocStands doc k v
doc-same doc k w v same count s =
    record {
      at = ap (λ b. b.0) same.beat ∙ s.at;
      restart = same.restart ∙ s.restart;
      count = count ∙ s.count;
      epoch = same.epoch ∙ s.epoch;
      micros = same.micros ∙ s.micros;
      events = same.events ∙ s.events;
      controllers = same.controllers ∙ s.controllers;
      stalls = subst (StallsStand doc) (sym same.stalls) s.stalls;
    }

doc-moved : (doc : Doc) (k i : ℕ) (c0 c1 : Process) (w v : World) → Moved i c0 c1 w v → DocStands doc k w → DocStands doc k v
doc-moved doc k i c0 c1 w v m s = doc-same doc k w v m.same (ap length m.now ∙ length-set w.processes.items i c1) s

-- next is the history with what a process asks; h is that before
abbrev pub AsksOn : Doc → ℕ → ℕ → ℕ → List Entry → List Entry → Process → Option Ask → Type 0
AsksOn doc k step p h next x ask = moves.AsksOn doc k step (identity p (incarnation_of x)) h next (λ g. ProcessStands doc p g x) ask

-- nothing was sent
pub within-moved : (doc : Doc) (k i : ℕ) (arriving : List Sent) (coming : List Back) (h : List Entry) (c0 c1 : Process) (w v : World) → Moved i c0 c1 w v → v.wire ≡ w.wire → Around doc k i arriving coming h w → ProcessStands doc i h c1 →
    WorldWithin doc k arriving coming h v
within-moved doc k i arriving coming h c0 c1 w v m wire a own =
    record {
      rest = record {
        document = doc-moved doc k i c0 c1 w v m a.rest.document;
        plain = a.rest.plain;
        store = subst (λ s. StoreStands h s) (sym m.store) a.rest.store;
        wire = subst (λ x. WireStands (processes doc) k arriving coming h x) (sym wire) a.rest.wire;
        in_force = subst (InForceStands doc h) (sym m.in_force) a.rest.in_force;
      };
      processes = subst (EachStands doc h) (sym m.now) (each-set doc i h w.processes.items c0 c1 m.was a.others own);
    }

-- a request was sent
within-sent : (doc : Doc) (k step i : ℕ) (arriving : List Sent) (coming : List Back) (h next : List Entry) (c0 c1 : Process) (w v : World) (ask : Ask) → Moved i c0 c1 w v → SendsAsked k (identity i (incarnation_of c1)) (Some ask) w.stalls w.wire v.wire →
    Around doc k i arriving coming h w → i < processes doc → AsksOn doc k step i h next c1 (Some ask) → WorldWithin doc k arriving coming next v
within-sent doc k step i arriving coming h next c0 c1 w v ask m sends a within asked =
    let q = identity i (incarnation_of c1) in
    let call = next_call q k asked.kind ask.request h in
    let d = Sends call (request_arrival doc i k h) in
    let e = entry k step q d in
    let last : incarnation_of c1 ≡ starts i h = process-incarnation doc i (entry k step q (Sends call None) ∷ h) c1 (asked.stands None) in
    let known : IsKnown (processes doc) h q = record { within = within; started = omega (arith, last) } in
    let sent : next ≡ e ∷ h = asked.sent in
    subst (λ x. WorldWithin doc k arriving coming x v) (sym sent)
    (record {
      rest = record {
        document = doc-moved doc k i c0 c1 w v m a.rest.document;
        plain = plain-entry (processes doc) k step q d h (known-later (processes doc) e h q known) a.rest.plain;
        store = subst (λ s. StoreStands (e ∷ h) s) (sym m.store) (store-beside h e w.store a.rest.store refl);
        wire = sends doc (processes doc) step arriving coming h call a.rest.document.stalls a.rest.wire (sym asked.number) refl;
        in_force = subst (InForceStands doc (e ∷ h)) (sym m.in_force) (in_force-beside doc e h w.in_force refl a.rest.in_force);
      };
      processes = subst (EachStands doc (e ∷ h)) (sym m.now)
          (each-set doc i (e ∷ h) w.processes.items c0 c1 m.was (λ p c other is. process-others doc p k step q d h c (λ same. other (sym same)) refl (a.others p c other is)) (asked.stands (request_arrival doc i k h)));
    })

within-on : (doc : Doc) (k step i : ℕ) (arriving : List Sent) (coming : List Back) (h next : List Entry) (c0 c1 : Process) (w v : World) (ask : Option Ask) → Moved i c0 c1 w v → SendsAsked k (identity i (incarnation_of c1)) ask w.stalls w.wire v.wire →
    Around doc k i arriving coming h w → i < processes doc → AsksOn doc k step i h next c1 ask → WorldWithin doc k arriving coming next v
within-on doc k step i arriving coming h next c0 c1 w v None m same a within asks =
    subst (λ g. WorldWithin doc k arriving coming g v) (sym asks.0) (within-moved doc k i arriving coming h c0 c1 w v m same a asks.1)
within-on doc k step i arriving coming h next c0 c1 w v (Some ask) m sends a within asked =
    within-sent doc k step i arriving coming h next c0 c1 w v ask m sends a within asked

-- whoever asks is in the incarnation that was started last
asking-incarnation : (doc : Doc) (k step i : ℕ) (h next : List Entry) (c : Process) (ask : Option Ask) → AsksOn doc k step i h next c ask → incarnation_of c ≡ starts i h
asking-incarnation doc k step i h next c None asks = process-incarnation doc i h c asks.1
asking-incarnation doc k step i h next c (Some ask) asked =
    let q = identity i (incarnation_of c) in
    process-incarnation doc i (entry k step q (Sends (next_call q k asked.kind ask.request h) None) ∷ h) c (asked.stands None)

-- what a process asks was sent, where it asks, after some quiet entries of its own
pub within-asked : (doc : Doc) (k step i : ℕ) (arriving : List Sent) (coming : List Back) (h next : List Entry) (c0 c1 : Process) (w v : World) (ask : Option Ask) → Moved i c0 c1 w v → SendsAsked k (identity i (incarnation_of c1)) ask w.stalls w.wire v.wire →
    Around doc k i arriving coming h w → i < processes doc → AsksIn doc k step i h next c1 ask → WorldWithin doc k arriving coming next v
within-asked doc k step i arriving coming h next c0 c1 w v ask m sends a within s =
    let q = identity i (incarnation_of c1) in
    let base = with_facts k step q s.facts h in
    let last : incarnation_of c1 ≡ starts i h = asking-incarnation doc k step i base next c1 ask s.asks ∙ starts-facts i k step q s.facts h s.quiet in
    let known : IsKnown (processes doc) h q = record { within = within; started = omega (arith, last) } in
    within-on doc k step i arriving coming base next c0 c1 w v ask m sends (around-facts doc k i k step arriving coming q s.facts h w refl s.quiet known a) within s.asks

pub told-more : (before deeds new more : List Deed) (h next : List Entry) → before ++ deeds ≡ printed h → new ≡ deeds ++ more → printed next ≡ printed h ++ more → before ++ new ≡ printed next
told-more before deeds new more h next told new_is is = ap (λ ds. before ++ ds) new_is ∙ sym (append_assoc before deeds more) ∙ ap (λ ds. ds ++ more) told ∙ sym is

-- ---- a turn

abbrev pub turn_told : ℕ → Identity → Turn → List Deed → List Deed
turn_told k q t deeds = deeds ++ started_deeds k q t.started ++ ended_deeds k q t.ended

told-twice : (before deeds one other : List Deed) (h next : List Entry) → before ++ deeds ≡ printed h → printed next ≡ printed h ++ one ++ other → before ++ (deeds ++ one ++ other) ≡ printed next
told-twice before deeds one other h next told is =
    sym (append_assoc before (deeds ++ one) other) ∙ ap (λ x. x ++ other) (sym (append_assoc before deeds one)) ∙ ap (λ x. x ++ one ++ other) told ∙ sym is

pub running-turned : (doc : Doc) (k i : ℕ) (before deeds new : List Deed) (arriving : List Sent) (coming : List Back) (h : List Entry) (c0 c1 : Process) (w v : World) (t : Turn) → MidBeat doc k before arriving coming h w deeds →
    i < processes doc → Moved i c0 c1 w v → SendsAsked k (identity i (incarnation_of c1)) t.ask w.stalls w.wire v.wire → Turned doc k i h c1 t → new ≡ turn_told k (identity i (incarnation_of c1)) t deeds →
    MidBeat doc k before arriving coming (own_turn doc k i h) v new
running-turned doc k i before deeds new arriving coming h c0 c1 w v t r within m sends turned new_is =
    let q = identity i (incarnation_of c1) in
    let base = restarted doc k i h in
    let around = around-restarted doc k i arriving coming h w within (around-world doc k i arriving coming h w r.world) in
    record {
      world = within-asked doc k 4 i arriving coming base (own_turn doc k i h) c0 c1 w v t.ask m sends around within turned.asks;
      told = ap (λ ds. before ++ ds) new_is ∙ told-twice before deeds (started_deeds k q t.started) (ended_deeds k q t.ended) h (own_turn doc k i h) r.told turned.told;
    }

-- ---- a reply

abbrev pub reply_told : ℕ → Identity → Received → List Deed → List Deed
reply_told k q r deeds = deeds ++ lead_deeds k q r.lead ++ ended_deeds k q r.ended

within-replied : (doc : Doc) (k i : ℕ) (arriving : List Sent) (coming : List Back) (b : Back) (h : List Entry) (c0 c1 : Process) (w v : World) (ask : Option Ask) → b.who.process ≡ i → i < processes doc → IsKnown (processes doc) h b.who →
    Moved i c0 c1 w v → SendsAsked k (identity i (incarnation_of c1)) ask w.stalls w.wire v.wire → Around doc k i arriving coming h w → AsksOnReply doc k (identity i (incarnation_of c1)) b h (λ g. ProcessStands doc i g c1) ask →
    WorldWithin doc k arriving coming (delivered doc k b h) v
within-replied doc k i arriving coming b h c0 c1 w v None process within known m same a on =
    let next = with_facts k 3 b.who on.facts h in
    subst (λ g. WorldWithin doc k arriving coming g v) (sym on.adds)
    (within-moved doc k i arriving coming next c0 c1 w v m same (around-facts doc k i k 3 arriving coming b.who on.facts h w process on.quiet known a) (subst (λ g. ProcessStands doc i g c1) on.adds on.stands))
within-replied doc k i arriving coming b h c0 c1 w v (Some ask) process within known m sends a on =
    let q = identity i (incarnation_of c1) in
    let d = Delivers on.call b.reply true in
    let g = entry k 3 q d ∷ h in
    let known_q : IsKnown (processes doc) h q = subst (IsKnown (processes doc) h) on.who known in
    let known_g : IsKnown (processes doc) g q = known-later (processes doc) (entry k 3 q d) h q known_q in
    within-sent doc k 3 i arriving coming g (delivered doc k b h) c0 c1 w v ask m sends (around-own doc k i k 3 arriving coming q d h w refl refl known_g a) within on.asked

pub running-replied : (doc : Doc) (k i : ℕ) (before deeds new : List Deed) (arriving : List Sent) (coming : List Back) (b : Back) (h : List Entry) (c0 c1 : Process) (w v : World) (x : Received) → MidBeat doc k before arriving coming h w deeds →
    b.who.process ≡ i → i < processes doc → IsKnown (processes doc) h b.who → Moved i c0 c1 w v → SendsAsked k (identity i (incarnation_of c1)) x.ask w.stalls w.wire v.wire → Replied doc k i b h c1 x → new ≡ reply_told k (identity i (incarnation_of c1)) x deeds →
    MidBeat doc k before arriving coming (delivered doc k b h) v new
running-replied doc k i before deeds new arriving coming b h c0 c1 w v x r process within known m sends replied new_is =
    let q = identity i (incarnation_of c1) in
    record {
      world = within-replied doc k i arriving coming b h c0 c1 w v x.ask process within known m sends (around-world doc k i arriving coming h w r.world) replied.asks;
      told = ap (λ ds. before ++ ds) new_is ∙ told-twice before deeds (lead_deeds k q x.lead) (ended_deeds k q x.ended) h (delivered doc k b h) r.told replied.told;
    }

-- ---- what stays plain

-- the ranges stand as before
pub ready-same : (w v : World) → SameDocument w v → vec_len v.processes ≡ vec_len w.processes → ((i : ℕ) (c : Process) → slice_get v.processes.items i ≡ Some c → (clock_of c).end ≡ w.end.0) → AreKept v.processes.items → AreNoted v.processes.items v.turn_beats → IsReady w → IsReady v
ready-same w v same count clocks kept noted ready =
    record {
      end = subst (λ e. e.0 ≤ 604800000) (sym same.end) ready.end;
      restart = subst (λ n. n ≤ 86400000000000000) (sym same.restart) ready.restart;
      epoch = subst (λ e. e.0 < 7258118400000000) (sym same.epoch) ready.epoch;
      micros = subst (λ n. n ≤ 1000000) (sym same.micros) ready.micros;
      events = subst (All (λ e. IsFit e.what)) (sym same.events) ready.events;
      few = subst (λ n. n ≤ 15016) (sym count) ready.few;
      clocks = λ i c is. clocks i c is ∙ ap (λ e. e.0) (sym same.end);
      controllers = subst (λ n. n ≤ vec_len v.processes) (sym same.controllers) (subst (λ n. w.controllers ≤ n) (sym count) ready.controllers);
      kept = kept;
      noted = noted;
    }

-- a leaf was changed
pub record Noted (i : ℕ) (c : Process) (old new : BeatTree) : Type 0 where
  pub room : room new ≡ room old
  pub leaves : (j : ℕ) → leaf new j ≡ (if i == j then (waking_of c).until else leaf old j)

pub keeps-moved : (i : ℕ) (c0 c1 : Process) (w v : World) → IsReady w → Moved i c0 c1 w v → vec_len v.processes ≡ vec_len w.processes → SameProcess c0 c1 → IsKept c1 → Noted i c1 w.turn_beats v.turn_beats → Keeps w v
keeps-moved i c0 c1 w v ready m count same kept noted =
    record {
      ready = ready-same w v m.same count (λ j c is. by_place j c is (j == i) refl) (λ j c is. kept_at j c is (j == i) refl)
          (record { room = now_room; leaves = λ j c is. leaf_at j c is (j == i) refl; beyond = beyond }) ready;
      same = m.same;
      place = m.place;
      count = count;
    }
  where
    own_at : (j : ℕ) (c : Process) → slice_get v.processes.items j ≡ Some c → (j == i) ≡ true → c1 ≡ c
    own_at j c is here =
        let place : j ≡ i = eq-is j i here in
        let there : Some c ≡ Some c1 = sym is ∙ ap (λ cs. slice_get cs j) m.now ∙ ap (slice_get (slice_set w.processes.items i c1)) place ∙ get-set_same w.processes.items i c1 (slice_get_within w.processes.items i c0 m.was) in
        cc

    apart_at : (j : ℕ) → (j == i) ≡ false → ¬ (j ≡ i)
    apart_at j other e = let now : (j == i) ≡ true = ap (λ x. j == x) (sym e) ∙ eq-self j in cc

    other_at : (j : ℕ) (c : Process) → slice_get v.processes.items j ≡ Some c → (j == i) ≡ false → slice_get w.processes.items j ≡ Some c
    other_at j c is other = sym (get-set_other w.processes.items i j c1 (apart_at j other)) ∙ ap (λ cs. slice_get cs j) (sym m.now) ∙ is

    kept_at : (j : ℕ) (c : Process) → slice_get v.processes.items j ≡ Some c → (b : Bool) → (j == i) ≡ b → IsKept c
    kept_at j c is true here = subst IsKept (own_at j c is here) kept
    kept_at j c is false other = ready.kept j c (other_at j c is other)

    leaf_here : (j : ℕ) → j ≡ i → leaf v.turn_beats j ≡ (waking_of c1).until
    leaf_here j place =
        let same : (i == j) ≡ true = ap (λ x. i == x) place ∙ eq-self i in
        noted.leaves j ∙ ap (λ b. if b then (waking_of c1).until else leaf w.turn_beats j) same

    leaf_other : (j : ℕ) → ¬ (j ≡ i) → leaf v.turn_beats j ≡ leaf w.turn_beats j
    leaf_other j apart = noted.leaves j ∙ ap (λ b. if b then (waking_of c1).until else leaf w.turn_beats j) (eq-isnt i j (λ e. apart (sym e)))

    leaf_at : (j : ℕ) (c : Process) → slice_get v.processes.items j ≡ Some c → (b : Bool) → (j == i) ≡ b → leaf v.turn_beats j ≡ (waking_of c).until
    leaf_at j c is true here = leaf_here j (eq-is j i here) ∙ ap (λ x. (waking_of x).until) (own_at j c is here)
    leaf_at j c is false other = leaf_other j (apart_at j other) ∙ ready.noted.leaves j c (other_at j c is other)

    as_many : length v.processes.items ≡ length w.processes.items
    as_many = ap length m.now ∙ length-set w.processes.items i c1

    now_room : length v.processes.items ≤ room v.turn_beats
    now_room = let was = ready.noted.room in let same_room = noted.room in omega (arith, as_many, was, same_room)

    beyond : (j : ℕ) → length v.processes.items ≤ j → leaf v.turn_beats j ≡ None
    beyond j past =
        let within = slice_get_within w.processes.items i c0 m.was in
        leaf_other j (λ e. omega (arith, e, past, as_many, within)) ∙ ready.noted.beyond j (omega (arith, past, as_many))

    by_place : (j : ℕ) (c : Process) → slice_get v.processes.items j ≡ Some c → (b : Bool) → (j == i) ≡ b → (clock_of c).end ≡ w.end.0
    by_place j c is true here =
        let place : j ≡ i = eq-is j i here in
        let there : Some c ≡ Some c1 = sym is ∙ ap (λ cs. slice_get cs j) m.now ∙ ap (slice_get (slice_set w.processes.items i c1)) place ∙ get-set_same w.processes.items i c1 (slice_get_within w.processes.items i c0 m.was) in
        let own : c1 ≡ c = cc in
        ap (λ x. (clock_of x).end) (sym own) ∙ ap (λ x. x.end) same.clock ∙ ready.clocks i c0 m.was
    by_place j c is false other =
        let apart : ¬ (j ≡ i) = λ e. (let now : (j == i) ≡ true = ap (λ x. j == x) (sym e) ∙ eq-self j in cc) in
        ready.clocks j c (sym (get-set_other w.processes.items i j c1 apart) ∙ ap (λ cs. slice_get cs j) (sym m.now) ∙ is)

-- a process was written back as it was
pub keeps-set : (i : ℕ) (c0 : Process) (w v : World) → IsReady w → Moved i c0 c0 w v → vec_len v.processes ≡ vec_len w.processes → v.turn_beats ≡ w.turn_beats → Keeps w v
keeps-set i c0 w v ready m count beats =
    keeps-moved i c0 c0 w v ready m count (record { me = refl; clock = refl }) (ready.kept i c0 m.was) (record { room = ap room beats; leaves = λ j. ap (λ t. leaf t j) beats ∙ by_place j (i == j) refl })
  where
    by_place : (j : ℕ) (b : Bool) → (i == j) ≡ b → leaf w.turn_beats j ≡ (if b then (waking_of c0).until else leaf w.turn_beats j)
    by_place j true same = let place : i ≡ j = eq-is i j same in subst (λ n. leaf w.turn_beats n ≡ (waking_of c0).until) place (ready.noted.leaves i c0 m.was)
    by_place j false other = refl

-- ---- a first start

pub first-not : (doc : Doc) (i : ℕ) (before deeds : List Deed) (arriving : List Sent) (coming : List Back) (h : List Entry) (c0 : Process) (w v : World) → MidBeat doc 0 before arriving coming h w deeds → Moved i c0 c0 w v → v.wire ≡ w.wire → is_up_first_as c0 ≡ false →
    MidBeat doc 0 before arriving coming (start_first i (is_up_first doc i) h) v deeds
first-not doc i before deeds arriving coming h c0 w v r m wire down =
    let s = r.world.processes i c0 m.was in
    let same : h ≡ start_first i (is_up_first doc i) h = ap (λ b. start_first i b h) (sym down ∙ process-up_first doc i h c0 s) in
    subst (λ g. MidBeat doc 0 before arriving coming g v deeds) same
    (record { world = within-moved doc 0 i arriving coming h c0 c0 w v m wire (around-world doc 0 i arriving coming h w r.world) s; told = r.told })

pub first-started : (doc : Doc) (i : ℕ) (before deeds new : List Deed) (arriving : List Sent) (coming : List Back) (h : List Entry) (c0 c1 : Process) (w v : World) → MidBeat doc 0 before arriving coming h w deeds → i < processes doc → Moved i c0 c1 w v → v.wire ≡ w.wire → is_up_first_as c0 ≡ true →
    ProcessStands doc i (start 0 1 i h) c1 → new ≡ deeds ++ deeds_of 0 (actor_of (identity i (incarnation_of c1))) (Some act.Start) → MidBeat doc 0 before arriving coming (start_first i (is_up_first doc i) h) v new
first-started doc i before deeds new arriving coming h c0 c1 w v r within m wire up stands new_is =
    let s = r.world.processes i c0 m.was in
    let same : start 0 1 i h ≡ start_first i (is_up_first doc i) h = ap (λ b. start_first i b h) (sym up ∙ process-up_first doc i h c0 s) in
    let around = around-started doc 0 i 0 1 arriving coming h w within (around-world doc 0 i arriving coming h w r.world) in
    let last : (incarnation_of c1) ≡ starts i h + 1 = process-incarnation doc i (start 0 1 i h) c1 stands ∙ starts-start 0 1 (identity i (starts i h + 1)) h in
    subst (λ g. MidBeat doc 0 before arriving coming g v new) same
    (record {
      world = within-moved doc 0 i arriving coming (start 0 1 i h) c0 c1 w v m wire around stands;
      told = ap (λ ds. before ++ ds) new_is ∙ sym (append_assoc before deeds (deeds_of 0 (actor_of (identity i (incarnation_of c1))) (Some act.Start)))
          ∙ ap (λ ds. ds ++ deeds_of 0 (actor_of (identity i (incarnation_of c1))) (Some act.Start)) r.told
          ∙ ap (λ n. printed h ++ deeds_of 0 (actor_of (identity i n)) (Some act.Start)) last;
    })

-- ---- an answer of the store

pub answered-running : (doc : Doc) (k : ℕ) (before deeds new : List Deed) (left rest : List Sent) (coming : List Back) (s : Sent) (h : List Entry) (w v : World) → MidBeat doc k before left coming h w deeds →
    IsKnown (processes doc) h s.who → Unmoved w v → v.in_force ≡ w.in_force → StoreStands (answered doc k s h) v.store → WireStands (processes doc) k rest coming (answered doc k s h) v.wire →
    new ≡ deeds ++ deeds_of k (actor_of s.who) (answer_act s.call.request (answer s.call.request h)) → MidBeat doc k before rest coming (answered doc k s h) v new
answered-running doc k before deeds new left rest coming s h w v run known unmoved in_force store wire new_is =
    let d = Answers s.call (answer s.call.request h) (reply_arrival doc s.who.process k h) (written s.call.request h) in
    let e = entry k 2 s.who d in
    record {
      world = record {
        rest = record {
          document = doc-same doc k w v unmoved.same (ap (λ cs. length cs.items) unmoved.processes) run.world.rest.document;
          plain = plain-entry (processes doc) k 2 s.who d h (known-later (processes doc) e h s.who known) run.world.rest.plain;
          store = store;
          wire = wire;
          in_force = subst (InForceStands doc (e ∷ h)) (sym in_force) (in_force-beside doc e h w.in_force refl run.world.rest.in_force);
        };
        processes = subst (λ cs. EachStands doc (e ∷ h) cs.items) (sym unmoved.processes)
            (λ p c is. process-answered doc p k 2 s.who s.call (answer s.call.request h) (reply_arrival doc s.who.process k h) (written s.call.request h) h c (run.world.processes p c is));
      };
      told = ap (λ ds. before ++ ds) new_is ∙ sym (append_assoc before deeds _) ∙ ap (λ ds. ds ++ deeds_of k (actor_of s.who) (answer_act s.call.request (answer s.call.request h))) run.told;
    }
