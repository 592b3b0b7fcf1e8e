-- How long a pod bears its node's taints as a term sees it, and the row of ticks at which it must go: what an entry changes of them.
use Rattle.std.proofs.Common.{◌≡◌, ◌∙◌, ℕ, ◌==◌, ◌&&◌, not, Bool, true, false, List, [], ◌∷◌, Option, Some, None, refl, sym, ap, subst}
use Rattle.std.proofs.lemmas.Bool.{eqb-true, eq-eqb}
use Rattle.kube_base.specs.declared.numbers.Version.{Version}
use Rattle.kube_objects.specs.declared.call.Answer.{Answer}
use Rattle.kube_objects.specs.declared.call.Answer.TheVariants as answer
use Rattle.kube_objects.specs.declared.deed.Actor.{Actor}
use Rattle.kube_objects.specs.declared.key.Key.{Key}
use Rattle.kube_objects.specs.declared.key.Kind.{Kind}
use Rattle.kube_objects.specs.declared.key.Kind.TheVariants as kinds
use Rattle.kube_objects.specs.declared.pod.Bears.{Bears}
use Rattle.kube_objects.specs.declared.pod.Bears.TheVariants.{Untainted, NotAtAll, Ever, For}
use Rattle.kube_objects.specs.declared.pod.Pod.{Pod}
use Rattle.kube_objects.specs.Document.{Doc}
use Rattle.kube_objects.specs.Entry.{Entry, Identity, Fact, Ticks, Tick, Delete, actor_of, entry}
use Rattle.kube_objects.specs.Identities.{is_by}
use Rattle.kube_objects.specs.Newest.{newest, when, only_if, join, or_else}
use Rattle.kube_objects.specs.Keys.{key_eq}
use Rattle.kube_objects.specs.Seen.{seen_says, seen, seen_pod, pod_in, is_accepted, is_refused, is_pod, stale_says, is_stale}
use Rattle.kube_objects.specs.Sightings.{bears_on, sighted_pod, sight, is_own_tick, last_sight, is_one_row, begins_row, row_at, row, due_in_row, sighted_due}
use Rattle.kube_objects.specs.Stored.{Held, holds, at_key, tick_write, node_key}
use Rattle.kube_objects.specs.Tainting.{is_tick_of, before_tick}
use Rattle.kube_objects.specs.Tick.{add}
use Rattle.kube_objects.specs.Answers.{as_kind, node_in}
use Rattle.history_laws.proofs.Plainly.{upper, some_is, true_is, same_self, and_left, and_right}

abbrev latest_sight : Identity → Key → List Entry → Option Bears
latest_sight q pod = newest (λ e T. only_if (is_own_tick q e.actor e.fact) (sight q pod (e ∷ T)))

abbrev row_begins : Identity → Key → Bears → List Entry → Option (ℕ × Bears)
row_begins q pod now = newest (λ e T. when (begins_row q pod now e.beat e.actor e.fact T) (e.beat, last_sight q pod (e ∷ T)))

-- ---- an entry that is no own tick's shows nothing else

abbrev Foreign : Identity → Entry → Type 0
Foreign q e = is_own_tick q e.actor e.fact ≡ false

pub foreign_seen : (q : Identity) (key : Key) (e : Entry) (h : List Entry) → Foreign q e → seen q key (e ∷ h) ≡ seen q key h
foreign_seen q key e h = by_fact e.actor e.fact
  where
    older : Option (Option Held)
    older = newest (λ e T. seen_says q key e.beat e.actor e.fact T) h

    by_test : (b : Bool) (o : Option (Option Held)) → b ≡ false → join (upper (only_if b o) older) ≡ join older
    by_test true o is = absurd (true_is is)
    by_test false o is = refl

    by_fact : (who : Actor) (d : Fact) → is_own_tick q who d ≡ false → join (upper (seen_says q key e.beat who d h) older) ≡ join older
    by_fact who (Ticks t) is = by_test (is_by q who) _ is
    by_fact who d is = refl

-- what is seen of a pod follows from what is seen at its key and at that of its node
pub sight_same : (q : Identity) (pod : Key) (g h : List Entry) → seen q pod g ≡ seen q pod h → ((name : ℕ) → seen q (node_key name) g ≡ seen q (node_key name) h)
    → sight q pod g ≡ sight q pod h
sight_same q pod g h same nodes = ap (λ o. sighted_pod q (as_kind pod_in o) g) same ∙ by_pod (seen_pod q pod h)
  where
    by_pod : (o : Option (Version × Pod)) → sighted_pod q o g ≡ sighted_pod q o h
    by_pod None = refl
    by_pod (Some x) = ap (λ o. bears_on x.1 (as_kind node_in o)) (nodes x.1.node)

pub foreign_sight : (q : Identity) (pod : Key) (e : Entry) (h : List Entry) → Foreign q e → sight q pod (e ∷ h) ≡ sight q pod h
foreign_sight q pod e h foreign = sight_same q pod (e ∷ h) h (foreign_seen q pod e h foreign) (λ name. foreign_seen q (node_key name) e h foreign)

pub foreign_last : (q : Identity) (pod : Key) (e : Entry) (h : List Entry) → Foreign q e → last_sight q pod (e ∷ h) ≡ last_sight q pod h
foreign_last q pod e h foreign = ap (λ b. or_else Untainted (upper (only_if b (sight q pod (e ∷ h))) (latest_sight q pod h))) foreign

-- ---- what is seen now was last seen by a tick

pub sight_last : (q : Identity) (pod : Key) (h : List Entry) (b : Bears) → sight q pod h ≡ Some b → last_sight q pod h ≡ b
sight_last q pod [] b is = some_is Untainted b is
sight_last q pod (e ∷ h) b is = by_own (sight_last q pod h b) (is_own_tick q e.actor e.fact) refl
  where
    by_own : (sight q pod h ≡ Some b → last_sight q pod h ≡ b) → (t : Bool) → is_own_tick q e.actor e.fact ≡ t → or_else Untainted (upper (only_if t (sight q pod (e ∷ h))) (latest_sight q pod h)) ≡ b
    by_own older true own = ap (λ o. or_else Untainted (upper o (latest_sight q pod h))) is
    by_own older false own = older (sym (foreign_sight q pod e h own) ∙ is)

-- what an own entry leaves that shows the same
pub own_last : (q : Identity) (pod : Key) (e : Entry) (h : List Entry) → sight q pod (e ∷ h) ≡ sight q pod h → last_sight q pod (e ∷ h) ≡ last_sight q pod h
own_last q pod e h same = by_own (is_own_tick q e.actor e.fact)
  where
    by_sight : (o : Option Bears) → sight q pod h ≡ o → or_else Untainted (upper o (latest_sight q pod h)) ≡ last_sight q pod h
    by_sight None is = refl
    by_sight (Some b) is = sym (sight_last q pod h b is)

    by_own : (t : Bool) → or_else Untainted (upper (only_if t (sight q pod (e ∷ h))) (latest_sight q pod h)) ≡ last_sight q pod h
    by_own false = refl
    by_own true = ap (λ o. or_else Untainted (upper o (latest_sight q pod h))) same ∙ by_sight (sight q pod h) refl

-- ---- rows

tick_is_own : (q : Identity) (k beat : ℕ) (who : Actor) (d : Fact) → is_tick_of q k beat who d ≡ true → (is_own_tick q who d ≡ true) × (beat ≡ k)
tick_is_own q k beat who (Ticks t) is = (and_right (beat == k) (is_by q who) is, eqb-true beat k (and_left (beat == k) (is_by q who) is))
tick_is_own q k beat who _ is = absurd (true_is (sym is))

-- the newest begin of a row of this kind, where the entries of the tick on top are set aside
row_before : (q : Identity) (pod : Key) (now : Bears) (k : ℕ) (h : List Entry) → is_one_row now (last_sight q pod (before_tick q k h)) ≡ true
    → row_begins q pod now h ≡ row_begins q pod now (before_tick q k h)
row_before q pod now k [] one = refl
row_before q pod now k (e ∷ h) one = by_tick (row_before q pod now k h) (is_tick_of q k e.beat e.actor e.fact) refl one
  where
    Before : Bool → List Entry
    Before t = elim t [ true ↦ before_tick q k h | false ↦ e ∷ h ]

    skips : (own : Bool) → row_begins q pod now h ≡ row_begins q pod now (before_tick q k h) → is_one_row now (last_sight q pod (before_tick q k h)) ≡ true
        → upper (when (own && not (is_one_row now (last_sight q pod (before_tick q k h)))) (e.beat, last_sight q pod (e ∷ h))) (row_begins q pod now h) ≡ row_begins q pod now (before_tick q k h)
    skips true older one = ap (λ b. upper (when (not b) (e.beat, last_sight q pod (e ∷ h))) (row_begins q pod now h)) one ∙ older
    skips false older one = older

    by_tick : (is_one_row now (last_sight q pod (before_tick q k h)) ≡ true → row_begins q pod now h ≡ row_begins q pod now (before_tick q k h))
        → (t : Bool) → is_tick_of q k e.beat e.actor e.fact ≡ t → is_one_row now (last_sight q pod (Before t)) ≡ true → row_begins q pod now (e ∷ h) ≡ row_begins q pod now (Before t)
    by_tick older false is one = refl
    by_tick older true is one =
        let beat = (tick_is_own q k e.beat e.actor e.fact is).1 in
        subst (λ j. upper (when (is_own_tick q e.actor e.fact && not (is_one_row now (last_sight q pod (before_tick q j h)))) (e.beat, last_sight q pod (e ∷ h))) (row_begins q pod now h) ≡ row_begins q pod now (before_tick q k h)) (sym beat)
        (skips (is_own_tick q e.actor e.fact) (older one) one)

-- which of these have rows: those that are of one row with themselves
pub row_none : (q : Identity) (pod : Key) (now : Bears) (h : List Entry) → is_one_row now now ≡ false → row_at q pod now h ≡ None
row_none q pod Untainted h out = refl
row_none q pod Ever h out = refl
row_none q pod NotAtAll h out = absurd (true_is out)
row_none q pod (For micros) h out = absurd (true_is out)

pub row_some : (q : Identity) (pod : Key) (now : Bears) (h : List Entry) → is_one_row now now ≡ true → row_at q pod now h ≡ row_begins q pod now h
row_some q pod Untainted h mine = absurd (true_is (sym mine))
row_some q pod Ever h mine = absurd (true_is (sym mine))
row_some q pod NotAtAll h mine = refl
row_some q pod (For micros) h mine = refl

-- a tick before which there was another row, or none, begins the row that is there within it; some entry of it stands on top
pub row_new : (q : Identity) (pod : Key) (now : Bears) (k : ℕ) (h : List Entry) → last_sight q pod h ≡ now → is_one_row now now ≡ true
    → is_one_row now (last_sight q pod (before_tick q k h)) ≡ false → row_begins q pod now h ≡ Some (k, now)
row_new q pod now k [] is mine out = absurd (true_is (sym (subst (λ b. is_one_row now b ≡ true) (sym is) mine) ∙ out))
row_new q pod now k (e ∷ h) is mine out = by_tick (is_tick_of q k e.beat e.actor e.fact) refl out
  where
    Begun : ℕ → Bool → Bool → Type 0
    Begun j own one = upper (when (own && not one) (j, last_sight q pod (e ∷ h))) (row_begins q pod now h) ≡ Some (k, now)

    begun : Begun k true false
    begun = ap (λ b. Some (k, b)) is

    by_tick : (t : Bool) → is_tick_of q k e.beat e.actor e.fact ≡ t → is_one_row now (last_sight q pod (elim t [ true ↦ before_tick q k h | false ↦ e ∷ h ])) ≡ false
        → row_begins q pod now (e ∷ h) ≡ Some (k, now)
    by_tick false tick out = absurd (true_is (sym (subst (λ b. is_one_row now b ≡ true) (sym is) mine) ∙ out))
    by_tick true tick out =
        let own = tick_is_own q k e.beat e.actor e.fact tick in
        subst (λ j. Begun j (is_own_tick q e.actor e.fact) (is_one_row now (last_sight q pod (before_tick q j h)))) (sym own.1)
        (subst (λ b. Begun k b (is_one_row now (last_sight q pod (before_tick q k h)))) (sym own.0)
        (subst (λ b. Begun k true b) (sym out) begun))

own_tick : (q : Identity) (k : ℕ) (t : Tick) → is_tick_of q k k (actor_of q) (Ticks t) ≡ true
own_tick q k t = ap (λ b. (k == k) && b) (same_self q) ∙ ap (λ b. b && true) (eq-eqb k k refl)

before_more : (q : Identity) (k : ℕ) (t : Tick) (h : List Entry) → before_tick q k (add k q t h) ≡ before_tick q k h
before_more q k t h = ap (λ b. elim b [ true ↦ before_tick q k h | false ↦ add k q t h ]) (own_tick q k t)

-- an own entry that shows the same of a pod leaves its row
pub row_more : (q : Identity) (pod : Key) (k : ℕ) (t : Tick) (h : List Entry) → sight q pod (add k q t h) ≡ sight q pod h → row q pod (add k q t h) ≡ row q pod h
row_more q pod k t h same =
    ap (λ b. row_at q pod b (add k q t h)) last ∙ by_row (is_one_row now now) refl
  where
    now : Bears
    now = last_sight q pod h

    last : last_sight q pod (add k q t h) ≡ last_sight q pod h
    last = own_last q pod (entry k 4 q (Ticks t)) h same

    g : List Entry
    g = before_tick q k h

    by_begin : is_one_row now now ≡ true → (b : Bool) → is_one_row now (last_sight q pod g) ≡ b → row_begins q pod now (add k q t h) ≡ row_begins q pod now h
    by_begin mine true one = row_before q pod now k (add k q t h) (subst (λ g. is_one_row now (last_sight q pod g) ≡ true) (sym (before_more q k t h)) one)
        ∙ ap (row_begins q pod now) (before_more q k t h) ∙ sym (row_before q pod now k h one)
    by_begin mine false one =
        row_new q pod now k (add k q t h) last mine (subst (λ g. is_one_row now (last_sight q pod g) ≡ false) (sym (before_more q k t h)) one)
        ∙ sym (row_new q pod now k h refl mine one)

    by_row : (b : Bool) → is_one_row now now ≡ b → row_at q pod now (add k q t h) ≡ row_at q pod now h
    by_row false out = row_none q pod now (add k q t h) out ∙ sym (row_none q pod now h out)
    by_row true mine = row_some q pod now (add k q t h) mine ∙ by_begin mine (is_one_row now (last_sight q pod g)) refl ∙ sym (row_some q pod now h mine)

pub due_more : (doc : Doc) (q : Identity) (pod : Key) (k : ℕ) (t : Tick) (h : List Entry) → sight q pod (add k q t h) ≡ sight q pod h → sighted_due doc q pod (add k q t h) ≡ sighted_due doc q pod h
due_more doc q pod k t h same = ap (due_in_row doc q) (row_more q pod k t h same)

-- ---- a row from one tick to the next

pub one_alike : (a b c : Bears) → is_one_row a b ≡ true → is_one_row a c ≡ is_one_row b c
one_alike NotAtAll NotAtAll c one = refl
one_alike (For m) (For n) Untainted one = refl
one_alike (For m) (For n) NotAtAll one = refl
one_alike (For m) (For n) Ever one = refl
one_alike (For m) (For n) (For o) one = refl
one_alike Untainted b c one = absurd (true_is (sym one))
one_alike Ever b c one = absurd (true_is (sym one))
one_alike NotAtAll Untainted c one = absurd (true_is (sym one))
one_alike NotAtAll Ever c one = absurd (true_is (sym one))
one_alike NotAtAll (For n) c one = absurd (true_is (sym one))
one_alike (For m) Untainted c one = absurd (true_is (sym one))
one_alike (For m) NotAtAll c one = absurd (true_is (sym one))
one_alike (For m) Ever c one = absurd (true_is (sym one))

pub one_self : (a b : Bears) → is_one_row a b ≡ true → is_one_row a a ≡ true
one_self a b one = by_kind a one
  where
    by_kind : (a : Bears) → is_one_row a b ≡ true → is_one_row a a ≡ true
    by_kind NotAtAll one = refl
    by_kind (For m) one = refl
    by_kind Untainted one = one
    by_kind Ever one = one

pub one_swap : (a b : Bears) → is_one_row a b ≡ true → is_one_row b a ≡ true
one_swap a b one = sym (one_alike a b a one) ∙ one_self a b one

begins_alike : (q : Identity) (pod : Key) (a b : Bears) → is_one_row a b ≡ true → (h : List Entry) → row_begins q pod a h ≡ row_begins q pod b h
begins_alike q pod a b one [] = refl
begins_alike q pod a b one (e ∷ h) =
    ap (λ t. upper (when (is_own_tick q e.actor e.fact && not t) (e.beat, last_sight q pod (e ∷ h))) (row_begins q pod a h)) (one_alike a b (last_sight q pod (before_tick q e.beat h)) one)
    ∙ ap (upper (when (is_own_tick q e.actor e.fact && not (is_one_row b (last_sight q pod (before_tick q e.beat h)))) (e.beat, last_sight q pod (e ∷ h)))) (begins_alike q pod a b one h)

-- a row that goes on over a tick is the one from before it
pub row_goes_on : (q : Identity) (pod : Key) (k : ℕ) (h : List Entry) → is_one_row (last_sight q pod h) (last_sight q pod (before_tick q k h)) ≡ true → row q pod h ≡ row q pod (before_tick q k h)
row_goes_on q pod k h one =
    let now = last_sight q pod h in
    let g = before_tick q k h in
    let was = last_sight q pod g in
    row_some q pod now h (one_self now was one) ∙ row_before q pod now k h one ∙ begins_alike q pod now was one g ∙ sym (row_some q pod was g (one_self was now (one_swap now was one)))

-- and another one begins with it
pub row_anew : (q : Identity) (pod : Key) (k : ℕ) (h : List Entry) → is_one_row (last_sight q pod h) (last_sight q pod h) ≡ true
    → is_one_row (last_sight q pod h) (last_sight q pod (before_tick q k h)) ≡ false → row q pod h ≡ Some (k, last_sight q pod h)
row_anew q pod k h mine out = row_some q pod (last_sight q pod h) h mine ∙ row_new q pod (last_sight q pod h) k h refl mine out

-- ---- deletes

-- a delete that isn't accepted, or takes another key, shows the same at a key
pub delete_shows : (q : Identity) (key : Key) (k : ℕ) (pod : Key) (given node_given : Version) (at : ℕ) (a : Option Answer) (h : List Entry) → (is_accepted a && key_eq pod key) ≡ false
    → seen q key (add k q (Delete pod given node_given at a) h) ≡ seen q key h
delete_shows q key k pod given node_given at a h out = by_answer a out
  where
    older : Option (Option Held)
    older = newest (λ e T. seen_says q key e.beat e.actor e.fact T) h

    nothing : (b : Bool) → join (upper (only_if b None) older) ≡ join older
    nothing true = refl
    nothing false = refl

    by_answer : (a : Option Answer) → (is_accepted a && key_eq pod key) ≡ false → join (upper (only_if (is_by q (actor_of q)) (holds h k (actor_of q) (at_key key (tick_write (Delete pod given node_given at a))))) older) ≡ join older
    by_answer (Some (answer.Done v)) out =
        subst (λ b. join (upper (only_if (is_by q (actor_of q)) (holds h k (actor_of q) (when b None))) older) ≡ join older) (sym out) (nothing (is_by q (actor_of q)))
    by_answer None out = nothing (is_by q (actor_of q))
    by_answer (Some answer.Absent) out = nothing (is_by q (actor_of q))
    by_answer (Some answer.Exists) out = nothing (is_by q (actor_of q))
    by_answer (Some (answer.Conflict v)) out = nothing (is_by q (actor_of q))

pub and_out : (a b : Bool) → b ≡ false → (a && b) ≡ false
and_out true b out = out
and_out false b out = refl

apart_kind : (kind : Kind) (space n name : ℕ) → is_pod kind ≡ true → key_eq (record { kind = kind; space = space; name = n }) (node_key name) ≡ false
apart_kind kinds.Node space n name is = absurd (true_is (sym is))
apart_kind kinds.Lease space n name is = absurd (true_is (sym is))
apart_kind kinds.Pod space n name is = refl

-- so what was seen of another pod is as before
pub sight_apart : (q : Identity) (pod : Key) (k : ℕ) (other : Key) (given node_given : Version) (at : ℕ) (a : Option Answer) (h : List Entry) → is_pod other.kind ≡ true → (is_accepted a && key_eq other pod) ≡ false
    → sight q pod (add k q (Delete other given node_given at a) h) ≡ sight q pod h
sight_apart q pod k other given node_given at a h kind out =
    sight_same q pod (add k q (Delete other given node_given at a) h) h (delete_shows q pod k other given node_given at a h out)
    (λ name. delete_shows q (node_key name) k other given node_given at a h (and_out (is_accepted a) (key_eq other (node_key name)) (apart_kind other.kind other.space other.name name kind)))

pub sighted_same : (doc : Doc) (q : Identity) (pod : Key) (k : ℕ) (other : Key) (given node_given : Version) (at : ℕ) (a : Option Answer) (h : List Entry) → is_pod other.kind ≡ true → (is_accepted a && key_eq other pod) ≡ false
    → sighted_due doc q pod (add k q (Delete other given node_given at a) h) ≡ sighted_due doc q pod h
sighted_same doc q pod k other given node_given at a h kind out = due_more doc q pod k (Delete other given node_given at a) h (sight_apart q pod k other given node_given at a h kind out)

-- a delete makes no other key stale
pub delete_stales : (q : Identity) (key : Key) (k : ℕ) (pod : Key) (given node_given : Version) (at : ℕ) (a : Option Answer) (h : List Entry) → key_eq pod key ≡ false
    → is_stale q key (add k q (Delete pod given node_given at a) h) ≡ is_stale q key h
delete_stales q key k pod given node_given at a h apart =
    ap (λ b. or_else false (upper (only_if (is_by q (actor_of q)) (when b true)) older)) (and_out (is_refused a) (key_eq pod key) apart) ∙ nothing (is_by q (actor_of q))
  where
    older : Option Bool
    older = newest (λ e T. stale_says q key e.actor e.fact) h

    nothing : (b : Bool) → or_else false (upper (only_if b None) older) ≡ or_else false older
    nothing true = refl
    nothing false = refl
