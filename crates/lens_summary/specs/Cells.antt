-- What the cells of a table show.
use Rattle.std.specs.Prelude.{ℕ, ◌*◌, ◌/◌, ◌%◌, ◌++◌, List, codes, decimal}
use Rattle.lens_summary.specs.declared.cell.Cell.{Cell}
use Rattle.lens_summary.specs.declared.cell.Cell.TheVariants.{Missing, Text, Count, Beat}

abbrev pub two_digits : ℕ → List ℕ
two_digits n = decimal (n / 10) ++ decimal (n % 10)

-- hours, minutes, seconds and tenths
unfoldable pub time_text : ℕ → List ℕ
time_text tenths =
    decimal (tenths / 36_000) ++ codes ":" ++ two_digits (tenths / 600 % 60) ++ codes ":" ++ two_digits (tenths / 10 % 60)
    ++ codes "." ++ decimal (tenths % 10)

-- so many beats of so many milliseconds, and the time that they are, in whole tenths
unfoldable pub beat_text : ℕ → ℕ → List ℕ
beat_text beat millis = decimal beat ++ codes " (" ++ time_text (beat * millis / 100) ++ codes ")"

abbrev pub cell_text : Cell → List ℕ
cell_text Missing = codes "-"
cell_text (Text shown) = shown.now
cell_text (Count count) = decimal count
cell_text (Beat beat millis) = beat_text beat millis
