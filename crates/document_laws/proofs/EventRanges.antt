-- The events of a document name its processes, lie in their ranges and stand in their order, and what they put and remove is named.
use Rattle.std.proofs.Common.{◌≡◌, ℕ, ◌+◌, ◌<◌, ◌≤◌, nat_lt, ◌==◌, ◌||◌, cond, Bool, true, false, List, [], ◌∷◌, ◌++◌, length, take, drop, codes, Option, Some, None, refl, sym, subst, ltb-true, ltb-false, arith, length-append}
use Rattle.std.specs.List.{position, position_or_len}
use Rattle.std.specs.Prelude.{Result, All}
use Rattle.std.specs.Option.{option_and_then, option_map}
use Rattle.std.specs.Str.{bytes_eq}
use Rattle.std.proofs.lemmas.Bool.{lt-ltb, le-ltb}
use Rattle.std.proofs.lemmas.List.Elements.{All-nil, All-cons}
use Rattle.serde_json.specs.Data.{Data, Items, no_items, item}
use Rattle.serde_json.specs.Find.{get}
use Rattle.kube_base.specs.Names.{number_of}
use Rattle.kube_base.specs.declared.numbers.ProcId.{ProcId}
use Rattle.kube_objects.specs.Kinds.{IsOfKind}
use Rattle.kube_objects.specs.Document.{Doc, is_controller, processes, end_beat}
use Rattle.kube_objects.specs.declared.key.Key.{Key}
use Rattle.kube_objects.specs.declared.key.Kind.{Kind}
use Rattle.kube_objects.specs.declared.key.Kind.TheVariants as kinds
use Rattle.kube_objects.specs.declared.object.Object.{Object}
use Rattle.kube_objects.specs.declared.object.Object.TheVariants as objects
use Rattle.kube_objects.specs.declared.script.Event.{Event}
use Rattle.kube_objects.specs.declared.script.What.{What}
use Rattle.kube_objects.specs.declared.script.What.TheVariants as whats
use Rattle.history.specs.Sound.{AreApart}
use Rattle.manifest_json.specs.declared.codes.TheConstants.{UNKNOWN_PROCESS, WRONG_TYPE}
use Rattle.manifest_laws.proofs.Getting.{Gets, Has, done, refused, weaker, by_test, of_option, and_then, skip}
use Rattle.manifest_laws.proofs.Growing.{Grows, Grows-none, Grows-then}
use Rattle.manifest_laws.proofs.ReadFields.{Reads}
use Rattle.manifest_laws.proofs.ReadItems.{object-reads}
use Rattle.manifest_laws.proofs.ReadableGrows.{AreHeld-grows, IsNameNumber-grows, IsReadableItem-grows}
use Rattle.manifest_json.specs.declared.fault.Refusal.{Refusal}
use Rattle.manifest_json.specs.Fields.{Texts, is_name}
use Rattle.manifest_json.specs.Readable.{AreHeld, IsReadableItem}
use Rattle.manifest_json.specs.Walk.{object_walk, items_len, member_path, process_of}
use Rattle.script_reader.specs.declared.parts.Scope.{Scope}
use Rattle.script_reader.specs.declared.table.EventType.{EventType}
use Rattle.script_reader.specs.declared.table.EventType.TheVariants as types
use Rattle.script_reader.specs.declared.table.Table.TheVariants as tables
use Rattle.script_reader.specs.Fields.{under, object_at, needed_whole, needed_text, needed_flag}
use Rattle.kube_objects.specs.Kinds.{IsOfKind}
use Rattle.script_reader.specs.Lawful.{IsPosted, IsSpaceNumber, IsReadableWhat, IsLawfulWhat, AreLawfulFrom}
use Rattle.script_reader.specs.Limits.{scale_of, event_limit}
use Rattle.script_reader.specs.Tables.{known_in}
use Rattle.script_reader.specs.Walk.{Cast, controller_named, kubelet_named, process_named, proc_id, behind, or_else, process_at, rate_at, delay_at, loss_at, crash_at, start_at, stop_at, watch_at, ready_at, pause_at, stall_at, put_at, kind_at, space_of, remove_at, beside, what_at, type_at, edits_election, is_too_soon, if_event, event_at, events_from, events_in}
use Rattle.document_laws.proofs.FieldRanges.{IsIn, of_required, needed_whole-in, needed_posted-in, array-few}
use Rattle.document_laws.proofs.PausesApart.{AreBehind, behind-none, behind-last, behind-next, or_parts}
use Rattle.document_laws.proofs.ProcessRanges.{name_at-in, named-number, named_at-reads}

-- ---- the processes that events name

has-place : (number : ℕ) (known : List ℕ) → Has (λ i. i < length known) (position (λ other. number == other) known)
has-place number known = by_test_of (nat_lt n (length known)) refl
  where
    n : ℕ
    n = position_or_len (λ other. number == other) known

    by_test_of : (b : Bool) → nat_lt n (length known) ≡ b → Has (λ i. i < length known) (cond b (Some n) None)
    by_test_of true e = ltb-true n (length known) e
    by_test_of false e = tt

has-process : (names : Texts) (known name : List ℕ) → Has (λ i. i < length known) (process_of names known name)
has-process names known name = by_number (number_of names name)
  where
    by_number : (o : Option ℕ) → Has (λ i. i < length known) (option_and_then (λ number. position (λ other. number == other) known) o)
    by_number None = tt
    by_number (Some number) = has-place number known

module _ {A : Type 0} (P : A → Type 0) where
  has-map : {B : Type 0} (Q : B → Type 0) (f : A → B) (o : Option A) → Has P o → ((x : A) → P x → Q (f x)) → Has Q (option_map f o)
  has-map Q f None h k = tt
  has-map Q f (Some x) h k = k x h

  has-either : (a b : Option A) → Has P a → Has P b → Has P (or_else a b)
  has-either None b h k = k
  has-either (Some x) b h k = h

  has-weaker : (Q : A → Type 0) (o : Option A) → Has P o → ((x : A) → P x → Q x) → Has Q o
  has-weaker Q None h k = tt
  has-weaker Q (Some x) h k = k x h

  has-if : (b : Bool) (o : Option A) → Has P o → Has P (cond b o None)
  has-if true o h = h
  has-if false o h = tt

-- ---- objects and keys

-- a readable object is of its key's kind
pub of-kind : (names : Texts) (known : List ℕ) (key : Key) (object : Object) → IsReadableItem names known (key, object) → IsOfKind key object
of-kind names known key (objects.Node n) h = h.kind
of-kind names known key (objects.Lease l) h = h.kind
of-kind names known key (objects.Pod p) h = h.kind

space-grows : {a b : Texts} (g : Grows a b) (kind : Kind) (space : ℕ) → IsSpaceNumber a kind space → IsSpaceNumber b kind space
space-grows g kinds.Node space h = h
space-grows g kinds.Lease space h = IsNameNumber-grows g space h
space-grows g kinds.Pod space h = IsNameNumber-grows g space h

readable-grows : {a b : Texts} (g : Grows a b) (known : List ℕ) → AreHeld a known → (what : What) → IsReadableWhat a known what → IsReadableWhat b known what
readable-grows g known held (whats.Rate id ppm) h = tt
readable-grows g known held (whats.Delay id requests replies) h = tt
readable-grows g known held (whats.Loss id requests replies) h = tt
readable-grows g known held (whats.Crash id) h = tt
readable-grows g known held (whats.Start id) h = tt
readable-grows g known held (whats.Stop id) h = tt
readable-grows g known held (whats.Watch id on) h = tt
readable-grows g known held (whats.Ready id status) h = tt
readable-grows g known held (whats.Pause id beats) h = tt
readable-grows g known held (whats.Stall beats) h = tt
readable-grows g known held (whats.Put key object) h = IsReadableItem-grows g known held (key, object) h
readable-grows g known held (whats.Remove key) h = (IsNameNumber-grows g key.name h.0, space-grows g key.kind key.space h.1)

module _ (cast : Cast) where
  abbrev IsController : ProcId → Type 0
  IsController id = id.0 < length cast.controllers

  abbrev IsProcess : ProcId → Type 0
  IsProcess id = id.0 < length cast.controllers + length cast.kubelets

  abbrev IsKubelet : ProcId → Type 0
  IsKubelet id = (length cast.controllers ≤ id.0) × IsProcess id

  has-controller : (names : Texts) (text : List ℕ) → Has IsController (controller_named cast names text)
  has-controller names text = has-map (λ i. i < length cast.controllers) IsController proc_id (process_of names cast.controllers text) (has-process names cast.controllers text) (λ i h. h)

  has-kubelet : (names : Texts) (text : List ℕ) → Has IsKubelet (kubelet_named cast names text)
  has-kubelet names text =
      let known = cast.kubelets in
      has-if IsKubelet (bytes_eq (take 8 text) (codes "kubelet/")) _ (has-map (λ i. i < length known) IsKubelet (behind (length cast.controllers)) (process_of names known (drop 8 text)) (has-process names known (drop 8 text)) (λ i h. (omega arith, omega (arith, h))))

  has-one : (names : Texts) (text : List ℕ) → Has IsProcess (process_named cast names text)
  has-one names text =
      has-either IsProcess (controller_named cast names text) (kubelet_named cast names text) (has-weaker IsController IsProcess (controller_named cast names text) (has-controller names text) (λ id h. omega (arith, h))) (has-weaker IsKubelet IsProcess (kubelet_named cast names text) (has-kubelet names text) (λ id h. h.1))

  process-in : {P : ProcId → Type 0} (named : List ℕ → Option ProcId) → ((text : List ℕ) → Has P (named text)) → (path : List ℕ) (d : Data) → Gets P (process_at named path d)
  unfolding process_at
  process-in named has path d = skip (needed_text path (codes "process") d) (λ text. of_option (named text) UNKNOWN_PROCESS (under path (codes "process")) (has text))

  -- ---- what events do

  -- the same as `IsLawfulWhat`, but for the rule on the election Lease
  abbrev IsKnown : What → Type 0
  IsKnown (whats.Rate id ppm) = IsProcess id × (500000 ≤ ppm) × (ppm ≤ 2000000)
  IsKnown (whats.Delay id requests replies) = IsProcess id × IsIn 1 6000 requests × IsIn 1 6000 replies
  IsKnown (whats.Loss id requests replies) = IsProcess id
  IsKnown (whats.Crash id) = IsProcess id
  IsKnown (whats.Start id) = IsProcess id
  IsKnown (whats.Stop id) = IsController id
  IsKnown (whats.Watch id on) = IsController id
  IsKnown (whats.Ready id status) = IsKubelet id × IsPosted status
  IsKnown (whats.Pause id beats) = IsProcess id × (1 ≤ beats) × (beats ≤ 604800000)
  IsKnown (whats.Stall beats) = (1 ≤ beats) × (beats ≤ 604800000)
  IsKnown (whats.Put key object) = IsOfKind key object
  IsKnown (whats.Remove key) = Unit {0}

  abbrev IsNamed : Texts → What → Type 0
  IsNamed names what = IsKnown what × IsReadableWhat names cast.controllers what

  -- a walk that numbers nothing
  abbrev IsPlain : What → Type 0
  IsPlain what = (names : Texts) → IsNamed names what

  module _ (names : Texts) (path : List ℕ) (d : Data) where
    of_process : Gets IsProcess (process_at (process_named cast names) path d)
    of_process = process-in (process_named cast names) (has-one names) path d

    of_controller : Gets IsController (process_at (controller_named cast names) path d)
    of_controller = process-in (controller_named cast names) (has-controller names) path d

    rate-in : Gets IsPlain (rate_at cast names path d)
    rate-in = and_then of_process (λ who w. and_then (needed_whole-in 500000 2000000 path (codes "ratePpm") d) (λ ppm r. done _ (λ ns. ((w, r.0, r.1), tt))))

    delay-in : Gets IsPlain (delay_at cast names path d)
    unfolding delay_at
    delay-in =
        and_then of_process (λ who w.
        and_then (needed_whole-in 1 6000 path (codes "requestBeats") d) (λ requests a.
        and_then (needed_whole-in 1 6000 path (codes "replyBeats") d) (λ replies b. done _ (λ ns. ((w, a, b), tt)))))

    loss-in : Gets IsPlain (loss_at cast names path d)
    unfolding loss_at
    loss-in =
        and_then of_process (λ who w.
        skip (needed_flag path (codes "requests") d) (λ requests.
        skip (needed_flag path (codes "replies") d) (λ replies. done _ (λ ns. (w, tt)))))

    crash-in : Gets IsPlain (crash_at cast names path d)
    crash-in = and_then of_process (λ who w. done _ (λ ns. (w, tt)))

    start-in : Gets IsPlain (start_at cast names path d)
    start-in = and_then of_process (λ who w. done _ (λ ns. (w, tt)))

    stop-in : Gets IsPlain (stop_at cast names path d)
    stop-in = and_then of_controller (λ who w. done _ (λ ns. (w, tt)))

    watch-in : Gets IsPlain (watch_at cast names path d)
    watch-in = and_then of_controller (λ who w. skip (needed_flag path (codes "on") d) (λ on. done _ (λ ns. (w, tt))))

    ready-in : Gets IsPlain (ready_at cast names path d)
    ready-in =
        and_then (process-in (kubelet_named cast names) (has-kubelet names) path d) (λ who w.
        and_then (needed_posted-in path (codes "status") d) (λ status posted. done _ (λ ns. ((w, posted), tt))))

    pause-in : Gets IsPlain (pause_at cast names path d)
    unfolding pause_at
    pause-in = and_then of_process (λ who w. and_then (needed_whole-in 1 604800000 path (codes "beats") d) (λ beats r. done _ (λ ns. ((w, r.0, r.1), tt))))

    stall-in : Gets IsPlain (stall_at path d)
    unfolding stall_at
    stall-in = and_then (needed_whole-in 1 604800000 path (codes "beats") d) (λ beats r. done _ (λ ns. ((r.0, r.1), tt)))

    put-reads : AreHeld names cast.controllers → Reads names IsNamed (put_at cast names path d)
    unfolding put_at
    put-reads held =
        let place = under path (codes "object") in
        and_then (of_required (object_walk names cast.controllers place) place (get (codes "object") d) (λ o. object-reads names cast.controllers place o held)) (λ found f.
        done _ (f.0, (of-kind found.1 cast.controllers found.0.0 found.0.1 f.1, f.1)))

    space-reads : (kind : Kind) (text : List ℕ) → is_name text ≡ true → Reads names (λ ns space. IsSpaceNumber ns kind space) (space_of names kind text)
    space-reads kinds.Node text e = done _ (Grows-none names, refl)
    space-reads kinds.Lease text e = named-number names text e
    space-reads kinds.Pod text e = named-number names text e

    remove-reads : Reads names IsNamed (remove_at names path d)
    unfolding remove_at
    remove-reads =
        skip (kind_at path d) (λ kind.
        and_then (name_at-in (codes "default") path (codes "namespace") d) (λ text e.
        and_then (space-reads kind text e) (λ space s.
        and_then (named_at-reads space.1 path (codes "name") d) (λ name n.
        done _ (Grows-then s.0 n.0, (tt, (n.1, space-grows n.0 kind space.0 s.1)))))))

    plain-reads : (walk : Result What Refusal) → Gets IsPlain walk → Reads names IsNamed (beside names walk)
    plain-reads walk h = and_then h (λ what plain. done _ (Grows-none names, plain names))

    what-reads : (kind : EventType) → AreHeld names cast.controllers → Reads names IsNamed (what_at cast names path kind d)
    unfolding what_at
    what-reads types.Rate held = plain-reads _ rate-in
    what-reads types.Delay held = plain-reads _ delay-in
    what-reads types.Loss held = plain-reads _ loss-in
    what-reads types.Crash held = plain-reads _ crash-in
    what-reads types.Start held = plain-reads _ start-in
    what-reads types.Stop held = plain-reads _ stop-in
    what-reads types.Watch held = plain-reads _ watch-in
    what-reads types.Ready held = plain-reads _ ready-in
    what-reads types.Pause held = plain-reads _ pause-in
    what-reads types.Stall held = plain-reads _ stall-in
    what-reads types.Put held = put-reads held
    what-reads types.Remove held = remove-reads

  -- ---- the own rules of events

  -- a document with these processes and this end
  pub record IsOf (last : ℕ) (doc : Doc) : Type 0 where
    pub controllers : length doc.controllers ≡ length cast.controllers
    pub kubelets : length doc.kubelets ≡ length cast.kubelets
    pub end : end_beat doc ≡ last

  module _ (end : ℕ) (doc : Doc) (of : IsOf end doc) where
    is-process : (id : ProcId) → IsProcess id → id.0 < processes doc
    is-process id h = omega (arith, h, of.controllers, of.kubelets, length-append doc.controllers doc.kubelets)

    is-controller : (id : ProcId) → IsController id → is_controller doc id.0 ≡ true
    is-controller id h = lt-ltb id.0 (length doc.controllers) (omega (arith, h, of.controllers))

    lawful : (what : What) → IsKnown what → edits_election what ≡ false → IsLawfulWhat doc what
    lawful (whats.Rate id ppm) known leaves = (is-process id known.0, known.1, known.2)
    lawful (whats.Delay id requests replies) known leaves = (is-process id known.0, known.1, known.2)
    lawful (whats.Loss id requests replies) known leaves = is-process id known
    lawful (whats.Crash id) known leaves = is-process id known
    lawful (whats.Start id) known leaves = is-process id known
    lawful (whats.Stop id) known leaves = is-controller id known
    lawful (whats.Watch id on) known leaves = is-controller id known
    lawful (whats.Ready id status) known leaves =
        (le-ltb id.0 (length doc.controllers) (omega (arith, known.0.0, of.controllers)), is-process id known.0.1, known.1)
    lawful (whats.Pause id beats) known leaves = (is-process id known.0, known.1, known.2)
    lawful (whats.Stall beats) known leaves = known
    lawful (whats.Put key object) known leaves = (leaves, known)
    lawful (whats.Remove key) known leaves = leaves

  -- one event behind these earlier ones, which are at most at the beat `last`
  record IsNext (end last : ℕ) (earlier : List Event) (names : Texts) (e : Event) : Type 0 where
    pub after : last ≤ e.beat.0
    pub within : e.beat.0 ≤ end
    pub named : IsNamed names e.what
    pub rests : is_too_soon earlier e.beat.0 e.what ≡ false
    pub leaves : edits_election e.what ≡ false

  rules-in : (end last : ℕ) (earlier : List Event) (path : List ℕ) (beat : ℕ) (what : What) (names : Texts) → IsNamed names what
      → Gets (λ r. (r.1 ≡ names) × IsNext end last earlier names r.0) (if_event end last earlier path beat what names)
  rules-in end last earlier path beat what names named =
      by_test (nat_lt beat last || nat_lt end beat) _ _
      (λ e. refused _)
      (λ e. let both = or_parts (nat_lt beat last) (nat_lt end beat) e in
      by_test (is_too_soon earlier beat what) _ _
      (λ f. refused _)
      (λ f. by_test (edits_election what) _ _
      (λ g. refused _)
      (λ g. done _ (refl, record { after = ltb-false beat last both.0; within = ltb-false end beat both.1; named = named; rests = f; leaves = g }))))

  event-reads : (scope : Scope) (names : Texts) (last : ℕ) (earlier : List Event) (path : List ℕ) (value : Data) → AreHeld names cast.controllers
      → Reads names (IsNext scope.end.0 last earlier) (event_at scope cast names last earlier path value)
  unfolding event_at
  event-reads scope names last earlier path value held =
      let end = scope.end.0 in
      skip (object_at WRONG_TYPE path value) (λ d.
      skip (needed_whole 0 604800000 path (codes "beat") d) (λ beat.
      skip (type_at scope.version path d) (λ kind.
      skip (known_in (tables.Event kind) path d) (λ known.
      and_then (what-reads names path known kind held) (λ what w.
      weaker (rules-in end last earlier path beat what.0 what.1 w.1) (λ r h. (subst (Grows names) (sym h.0) w.0, subst (λ ns. IsNext end last earlier ns r.0) (sym h.0) h.1)))))))

  -- events behind these earlier ones, which are at most at the beat `last`
  record AreEvents (end last : ℕ) (earlier : List Event) (many : ℕ) (names : Texts) (es : List Event) : Type 0 where
    pub lawful : (doc : Doc) → IsOf end doc → AreLawfulFrom doc last es
    pub apart : AreApart es
    pub behind : AreBehind earlier es
    pub count : length es ≡ many
    pub readable : All (λ e. IsReadableWhat names cast.controllers e.what) es

  events_from-reads : (scope : Scope) (names : Texts) (place last : ℕ) (earlier : List Event) (rest : Items) → AreHeld names cast.controllers
      → Reads names (AreEvents scope.end.0 last earlier (items_len rest)) (events_from scope cast names place last earlier rest)
  unfolding events_from
  events_from-reads scope names place last earlier no_items held =
      done _ (Grows-none names, record { lawful = λ doc of. tt; apart = tt; behind = behind-none earlier; count = refl; readable = All-nil (λ e. IsReadableWhat names cast.controllers e.what) })
  events_from-reads scope names place last earlier (item d rest) held =
      and_then (event-reads scope names last earlier (member_path [] (codes "/events/") place) d held) (λ next n.
      and_then (events_from-reads scope next.1 (place + 1) next.0.beat.0 (earlier ++ next.0 ∷ []) rest (AreHeld-grows n.0 cast.controllers held)) (λ more m.
      let one = n.1 in
      let behind = behind-last earlier next.0 more.0 m.1.behind in
      let stands : IsReadableWhat more.1 cast.controllers next.0.what = readable-grows m.0 cast.controllers (AreHeld-grows n.0 cast.controllers held) next.0.what one.named.1 in
      done _ (
        Grows-then n.0 m.0,
        record {
          lawful = λ doc of. (one.after, rw of.end one.within, lawful scope.end.0 doc of next.0.what one.named.0 one.leaves, m.1.lawful doc of);
          apart = (behind.1, m.1.apart);
          behind = behind-next earlier next.0 more.0 one.rests behind.0;
          count = omega (arith, m.1.count);
          readable = All-cons (λ e. IsReadableWhat more.1 cast.controllers e.what) next.0 more.0 stands m.1.readable;
        },
      )))

  -- at most so many events, from beat 0 on
  pub record AreAll (most end : ℕ) (names : Texts) (es : List Event) : Type 0 where
    pub lawful : (doc : Doc) → IsOf end doc → AreLawfulFrom doc 0 es
    pub apart : AreApart es
    pub few : length es ≤ most
    pub readable : All (λ e. IsReadableWhat names cast.controllers e.what) es

  pub AreAll-none : (most end : ℕ) (names : Texts) → AreAll most end names []
  AreAll-none most end names = record { lawful = λ doc of. tt; apart = tt; few = omega arith; readable = All-nil (λ e. IsReadableWhat names cast.controllers e.what) }

  pub events-reads : (scope : Scope) (names : Texts) (d : Data) → AreHeld names cast.controllers → Reads names (AreAll (event_limit (scale_of scope.version)) scope.end.0) (events_in scope cast names d)
  unfolding events_in
  events-reads scope names d held =
      and_then (array-few (event_limit (scale_of scope.version)) (codes "/events") d) (λ all few.
      weaker (events_from-reads scope names 0 0 [] all held) (λ r h. (h.0, record { lawful = h.1.lawful; apart = h.1.apart; few = omega (arith, h.1.count, few); readable = h.1.readable })))
