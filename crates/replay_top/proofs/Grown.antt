-- The trace grows with the beats.
use Rattle.std.proofs.Common.{◌≡◌, ℕ, suc, ◌+◌, ◌≤◌, List, [], ◌∷◌, ◌++◌, Result, refl, inl, inr, sym, ap, ◌∙◌, subst, append_assoc, add-one}
use Rattle.std.proofs.lemmas.List.{append-nil}
use Rattle.std.proofs.lemmas.Grind.{flat_map-append}
use Rattle.kube_objects.specs.declared.deed.Deed.{Deed}
use Rattle.kube_objects.specs.Document.{Doc, end_beat}
use Rattle.byte_edge.specs.Bytes.{Gave, Taken}
use Rattle.kube_objects.specs.Clocks.{store_wall, whole_second}
use Rattle.kube_objects.specs.declared.key.Key.{Key}
use Rattle.kube_objects.specs.declared.object.Object.{Object}
use Rattle.kube_objects.specs.Stamps.{stamped}
use Rattle.agenda_laws.specs.Standing.{standing_below, standing_beats}
use Rattle.history.specs.History.{history, put_all}
use Rattle.history.specs.Printed.{printed, deeds_of, act_of}
use Rattle.history_laws.specs.Tails.{IsTail}
use Rattle.history_laws.proofs.Order.{histories_are_positions}
use Rattle.kube_objects.specs.Entry.{Entry, First, script_entry}
use Rattle.script_reader.specs.Documents.{doc_of}
use Rattle.script_reader.specs.declared.document.Document.{Document}
use Rattle.trace_writer.specs.Lines.{line_of, lines_of}
use Rattle.replay_top.specs.Traces.{first_of, trace_before, trace_of, trace}
use Rattle.replay_top.specs.Names.{process_names}
use Rattle.replay_top.specs.Spoken.{Spoken, Written}
use Rattle.replay_top.proofs.Said.{gave-longer, spoken-first, spoken-so_far}
use Rattle.trace_writer.specs.declared.writing.WriteFault.{WriteFault}

-- the printed entries of a position of a history are a front of the history's
printed-tail : (g h : List Entry) → IsTail g h → (more : List Deed) × (printed g ++ more ≡ printed h)
printed-tail g [] is = ([], append-nil (printed g) ∙ ap printed is)
printed-tail g (e ∷ h) (inl is) = ([], append-nil (printed g) ∙ ap printed is)
printed-tail g (e ∷ h) (inr tail) = longer (printed-tail g h tail)
  where
    longer : (more : List Deed) × (printed g ++ more ≡ printed h) → (more : List Deed) × (printed g ++ more ≡ printed (e ∷ h))
    longer l =
        let last = deeds_of e.beat e.actor (act_of e.fact) in
        (l.0 ++ last, sym (append_assoc (printed g) l.0 last) ∙ ap (λ x. x ++ last) l.1)

-- the printed entries before a beat are a front of those before a later one
pub printed-later : (doc : Doc) (k m : ℕ) → k ≤ m → (more : List Deed) × (printed (history doc k) ++ more ≡ printed (history doc m))
printed-later doc k m earlier = printed-tail (history doc k) (history doc m) (histories_are_positions doc k m earlier)

lines-more : (doc : Doc) (names processes : List (List ℕ)) (front more : List Deed)
    → (first_of doc ++ lines_of names processes front) ++ lines_of names processes more ≡ first_of doc ++ lines_of names processes (front ++ more)
lines-more doc names processes front more =
    append_assoc (first_of doc) (lines_of names processes front) (lines_of names processes more)
    ∙ ap (λ x. first_of doc ++ x) (sym (flat_map-append (line_of names processes) front more))

-- a prefix of the trace before a beat is one of the whole trace
pub gave-whole : (doc : Doc) (names processes : List (List ℕ)) (k : ℕ) (before after : Taken) → k ≤ end_beat doc + 1
    → Gave before after (trace_before doc names processes k) → Gave before after (trace_of doc names processes)
unfolding trace_before trace_of
gave-whole doc names processes k before after within g = from (printed-later doc k (suc (end_beat doc)) (subst (λ n. k ≤ n) (add-one (end_beat doc)) within))
  where
    from : (more : List Deed) × (printed (history doc k) ++ more ≡ printed (history doc (suc (end_beat doc)))) → Gave before after (trace_of doc names processes)
    from later =
        gave-longer before after (trace_before doc names processes k) (lines_of names processes later.0) (trace_of doc names processes)
        (lines-more doc names processes (printed (history doc k)) later.0 ∙ ap (λ x. first_of doc ++ lines_of names processes x) later.1) g

-- a fault comes after some beats, with some of their text in the buffer
pub gave-so_far : (doc : Doc) (names processes : List (List ℕ)) (k : ℕ) (before now : Taken) (buffer : List ℕ) → k ≤ end_beat doc + 1 → Spoken before now buffer (trace_before doc names processes k) → Gave before now (trace_of doc names processes)
gave-so_far doc names processes k before now buffer within s =
    gave-whole doc names processes k before now within (spoken-so_far before now buffer (trace_before doc names processes k) s)

-- where no entry stands any more it is whole
pub trace-last : (doc : Doc) (names processes : List (List ℕ)) (k last : ℕ) → last ≡ end_beat doc → history doc (last + 1) ≡ history doc k → trace_before doc names processes k ≡ trace_of doc names processes
unfolding trace_before trace_of
trace-last doc names processes k last is past =
    ap (λ h. first_of doc ++ lines_of names processes (printed h)) (sym past ∙ ap (history doc) (add-one last) ∙ ap (λ n. history doc (suc n)) is)

-- ---- how many beats are done

pub whole-counted : (doc same : Doc) (first now : ℕ) → doc ≡ same → now ≤ first + standing_below doc (end_beat doc + 1) → now ≤ first + standing_beats same
whole-counted doc same first now is most =
    subst (λ d. now ≤ first + standing_beats d) is (subst (λ k. now ≤ first + standing_below doc k) (add-one (end_beat doc)) most)

-- the lines of what a beat printed
pub trace-next : (doc : Doc) (names processes : List (List ℕ)) (k n : ℕ) (deeds : List Deed) → printed (history doc k) ++ deeds ≡ printed (history doc n)
    → trace_before doc names processes k ++ lines_of names processes deeds ≡ trace_before doc names processes n
unfolding trace_before
trace-next doc names processes k n deeds told =
    lines-more doc names processes (printed (history doc k)) deeds ∙ ap (λ x. first_of doc ++ lines_of names processes x) told

-- a prefix of what was there and of a beat's lines is one of the whole trace
pub gave-next : (doc : Doc) (names processes : List (List ℕ)) (k n : ℕ) (before after : Taken) (deeds : List Deed) → n ≤ end_beat doc + 1 → printed (history doc k) ++ deeds ≡ printed (history doc n)
    → Gave before after (trace_before doc names processes k ++ lines_of names processes deeds) → Gave before after (trace_of doc names processes)
gave-next doc names processes k n before after deeds within told g =
    gave-whole doc names processes n before after within (subst (Gave before after) (trace-next doc names processes k n deeds told) g)

-- the putting of the objects isn't printed
pub put-silent : (doc : Doc) (items : List (Key × Object)) (h : List Entry) → printed (put_all doc items h) ≡ printed h
put-silent doc [] h = refl
put-silent doc (x ∷ xs) h =
    put-silent doc xs (script_entry 0 0 (First x.0 (stamped (whole_second (store_wall doc 0)) x.1)) ∷ h) ∙ append-nil (printed h)

-- the text begins with the first line
pub trace-first : (doc : Doc) (names processes : List (List ℕ)) (empty text : List ℕ) → empty ≡ [] → text ≡ empty ++ first_of doc → text ≡ trace_before doc names processes 0
unfolding trace_before
trace-first doc names processes empty text none is =
    is ∙ ap (λ l. l ++ first_of doc) none
    ∙ sym (append-nil (first_of doc))
    ∙ ap (λ ds. first_of doc ++ lines_of names processes ds) (sym (put-silent doc doc.objects []))

pub trace-named : (d : Document) (names processes : List (List ℕ)) → names ≡ d.names → processes ≡ process_names d.names (doc_of d) → trace_of (doc_of d) names processes ≡ trace d
unfolding trace
trace-named d names processes named ordered = ap (λ n. trace_of (doc_of d) n processes) named ∙ ap (trace_of (doc_of d) d.names) ordered

-- what is written after the first line is the document's trace
pub trace-written : {T : Type 0} (d : Document) (names processes : List (List ℕ)) (before after : Taken) (empty text : List ℕ) (r : Result T WriteFault) → empty ≡ [] → text ≡ empty ++ first_of (doc_of d) → names ≡ d.names → processes ≡ process_names d.names (doc_of d)
    → (Spoken before before text (trace_before (doc_of d) names processes 0) → Written before after (trace_of (doc_of d) names processes) r) → Written before after (trace d) r
trace-written d names processes before after empty text r none is named ordered written =
    let first = trace-first (doc_of d) names processes empty text none is in
    subst (λ l. Written before after l r) (trace-named d names processes named ordered) (written (spoken-first before text (trace_before (doc_of d) names processes 0) first))
