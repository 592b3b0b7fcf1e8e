use Rattle.std.proofs.Common.{List, ℕ, [], map, string_bytes}
use Rattle.lens_room.specs.FlagReplies.{answer_to}
use Rattle.lens_room.specs.Flags.{behind}
use Rattle.lens_room.proofs.FlagEndings.{safe-premise, unsafe-premise}
use Rattle.lens_room.proofs.FlagNumbers.{numbers-law}
use Rattle.lens_room.proofs.WordEndings.{ends-answered}
use Rattle.lens_room.proofs.by_flags.running.run.Goals as goal

pub returns-clause-text : goal.returns-clause-text
returns-clause-text g c left =
    ends-answered answer_to (map string_bytes c.behind.result.now) (behind (map string_bytes c.args.words.now.items)) c.answer.result left
    (g.K.Sink.taken c.args.sink.now) (g.K.Sink.taken c.tell_answer.new.sink) c.tell_answer.result c.behind.ensures c.answer.ensures (c.tell_answer.ensures.text left)

pub returns-clause-safe : goal.returns-clause-safe
returns-clause-safe g c flags read is =
    let words : List (List ℕ) = behind (map string_bytes c.args.words.now.items) in
    safe-premise words flags read [] (g.K.Sink.taken c.args.sink.now) (g.K.Sink.taken c.tell_answer.new.sink) c.tell_answer.result (returns-clause-text g c []) is

pub returns-clause-not_safe : goal.returns-clause-not_safe
returns-clause-not_safe g c flags read is =
    let words : List (List ℕ) = behind (map string_bytes c.args.words.now.items) in
    unsafe-premise words flags read [] (g.K.Sink.taken c.args.sink.now) (g.K.Sink.taken c.tell_answer.new.sink) c.tell_answer.result (returns-clause-text g c []) is

pub returns-clause-numbers : goal.returns-clause-numbers
returns-clause-numbers g c flags ranges = numbers-law flags ranges
