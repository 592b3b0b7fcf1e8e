-- What a text leaves in a buffer that it is laid over.
use Rattle.std.proofs.Common.{◌≡◌, ℕ, ◌+◌, ◌-◌, List, [], ◌++◌, length, take, drop, min, Option, refl, inl, inr, sym, ap, ◌∙◌, subst, arith, length-append, length-drop}
use Rattle.std.proofs.lemmas.List.{take_min, drop_min, length-take}
use Rattle.byte_edge.specs.Bytes.{Gave, Gives, Known, Over, Taken, Untold, over}
use Rattle.run_edge.specs.declared.status.Status.{Status}
use Rattle.run_edge.specs.declared.status.Status.TheVariants.{Answered, SourceFault, SinkFault, OutOfMemory}
use Rattle.run_edge.specs.declared.status.Verdict.{Verdict}
use Rattle.run_edge.specs.Exits.{verdict_status}
use Rattle.run_edge.specs.Outcome.{IsWhole, Outcome}
use Rattle.replay_top.specs.Outcome.{Ends}
use Rattle.kube_replay_c.specs.Calls.{EndsIn, Holds}
use Rattle.kube_replay_c.specs.Exits.{exit_status_of}

-- the first bytes of it lie in front, as many as have room
pub over-front : (before text : List ℕ) → over before 0 text ≡ take (min (length before) (length text)) text ++ drop (min (length before) (length text)) before
over-front before text =
    let room : length before - 0 ≡ length before = omega arith in
    let past : 0 + length text ≡ length text = omega arith in
    let least : min (length text) (length before) ≡ min (length before) (length text) = omega arith in
    ap (λ n. take n text ++ drop (0 + length text) before) room
    ∙ ap (λ n. take (length before) text ++ drop n before) past
    ∙ ap (λ l. l ++ drop (length text) before) (sym (take_min (length before) text))
    ∙ ap (λ l. take (min (length before) (length text)) text ++ l) (sym (drop_min (length text) before) ∙ ap (λ n. drop n before) least)

-- ---- how a run into it ends

name_of : Taken → ℕ
name_of Untold = 0
name_of (Known bytes) = 0
name_of (Over borrow buffer count) = borrow

buffer_of : Taken → List ℕ
buffer_of Untold = []
buffer_of (Known bytes) = []
buffer_of (Over borrow buffer count) = buffer

count_of : Taken → ℕ
count_of Untold = 0
count_of (Known bytes) = 0
count_of (Over borrow buffer count) = count

-- no byte of the buffer comes or goes
over-length : (before text : List ℕ) → length (over before 0 text) ≡ length before
over-length before text =
    let put = min (length before) (length text) in
    ap length (over-front before text)
    ∙ omega (arith, length-append (take put text) (drop put before), length-take put text, length-drop put before)

-- the sink was handed the buffer that was lent, and what the sink left there is what the lender finds
holds : (lent kept name : ℕ) (before first now final : List ℕ) (from given put : ℕ) (text : List ℕ) → kept ≡ lent → first ≡ before → from ≡ 0
    → Gives (Over kept first from) (Over name now given) text → (lent ≡ name → final ≡ now) → put ≡ min (length now) given → Holds text before final put given
unfolding name_of buffer_of count_of
holds lent kept name before first now final from given put text same buffer none gives left counts =
    let named : name ≡ kept = ap name_of gives in
    let laid : now ≡ over first from text = ap buffer_of gives in
    let counted : given ≡ from + length text = ap count_of gives in
    let over_before : over first from text ≡ over before 0 text = ap (λ b. over b from text) buffer ∙ ap (λ n. over before n text) none in
    let is : now ≡ over before 0 text = laid ∙ over_before in
    let all : given ≡ length text = omega (arith, counted, none) in
    let size : length now ≡ length before = ap length is ∙ over-length before text in
    let room : put ≡ min (length before) (length text) = omega (arith, counts, size, all) in
    record {
      room = room;
      filled =
          left (sym (named ∙ same)) ∙ is ∙ over-front before text
          ∙ ap (λ n. take n text ++ drop n before) (sym room);
      all = all;
    }

pub ends-in : (o : Outcome) (lent kept name : ℕ) (before first now final : List ℕ) (from given put count status : ℕ) (left : Option (List ℕ)) (s : Status) → kept ≡ lent → first ≡ before → from ≡ 0
    → Ends o left (Over kept first from) (Over name now given) s → ¬ (s ≡ SourceFault) → (lent ≡ name → final ≡ now) → put ≡ min (length now) given → count ≡ given → status ≡ exit_status_of s
    → EndsIn o before final put count status
ends-in o lent kept name before first now final from given put count status left s same buffer none ends read found counts counted is = subst (λ n. EndsIn o before final put n status) (sym counted) (by_status s refl ends)
  where
    held : (text : List ℕ) → Gives (Over kept first from) (Over name now given) text → Holds text before final put given
    held text gives = holds lent kept name before first now final from given put text same buffer none gives found counts

    whole : (v : Verdict) → s ≡ Answered v → IsWhole o left (Over kept first from) (Over name now given) v → EndsIn o before final put given status
    whole v at w = inl (record { own = is ∙ ap exit_status_of at ∙ ap verdict_status w.verdict; holds = held o.reply.text w.text })

    cut : status ≡ 5 → Gave (Over kept first from) (Over name now given) o.reply.text → EndsIn o before final put given status
    cut five g = inr (record { no_memory = five; said = g.1.front; rest = g.0; is = g.1.is; holds = held g.1.front g.1.gives })

    by_status : (t : Status) → s ≡ t → Ends o left (Over kept first from) (Over name now given) t → EndsIn o before final put given status
    by_status (Answered verdict) at e = whole verdict at e
    by_status SourceFault at e = absurd (read at)
    by_status SinkFault at e = cut (is ∙ ap exit_status_of at) e
    by_status OutOfMemory at e = cut (is ∙ ap exit_status_of at) e
