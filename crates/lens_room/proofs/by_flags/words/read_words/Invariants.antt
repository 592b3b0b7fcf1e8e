use Rattle.std.proofs.Common.{◌≡◌, drop, map, string_bytes, Ok, None}
use Rattle.lens_room.specs.Words.{given_from}
use Rattle.lens_room.proofs.by_flags.words.read_words.Given as goal

-- what is left decides
abbrev pub invariant-loop-word : goal.invariant-loop-word
invariant-loop-word g l = record {
  rest : given_from g.S.Taking.command 0 (Ok (record { settings = l.fn.start; waiting = None })) (map string_bytes l.words)
      ≡ given_from g.S.Taking.command l.place (Ok l.given) (map string_bytes (drop l.word-index l.words));
  place : l.place ≡ l.word-index;
  fit : g.S.Taking.IsFit l.given.settings;
}
