-- What a sink into a borrowed buffer holds.
use Rattle.std.specs.Prelude.{ℕ, List}
use Rattle.byte_edge.specs.declared.borrowed_sink.BorrowedSink.{BorrowedSink}

-- the buffer as it is now
abbrev pub buffer_of : BorrowedSink → List ℕ
buffer_of s = s.buffer.now

-- how many bytes were given in all
abbrev pub given_to_buffer : BorrowedSink → ℕ
given_to_buffer s = s.given
