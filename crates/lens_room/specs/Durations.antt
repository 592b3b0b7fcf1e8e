-- Durations as Go writes them: amounts that are added up, each of digits and a unit, which is h, m, s or ms; as 15s, 1m30s or 500ms. None
-- has a sign or a fraction, and none, nor a number in it, is more than the milliseconds of a day. Source: Go's `time.ParseDuration`.
use Rattle.std.specs.Prelude.{ℕ, ◌+◌, ◌-◌, ◌*◌, ◌==◌, nat_le, List, [], ◌∷◌, Option, Some, None, if◌then◌else◌}
use Rattle.std.specs.Char.{is_ascii_digit}
use Rattle.lens_room.specs.declared.by_flags.duration.Reading.{Reading}
use Rattle.lens_room.specs.declared.by_flags.duration.Stage.{Stage}
use Rattle.lens_room.specs.declared.by_flags.duration.Stage.TheVariants.{Whole, Digits, Minutes}

-- at most a day
abbrev pub up_to_a_day : ℕ → Option ℕ
up_to_a_day millis = if nat_le millis 86400000 then Some millis else None

-- the milliseconds with those of one more amount
abbrev pub with_amount : ℕ → ℕ → ℕ → Option ℕ
with_amount millis number unit = up_to_a_day (millis + number * unit)

-- behind an amount
abbrev pub behind : Option ℕ → Option Reading
behind None = None
behind (Some millis) = Some (record { millis = millis; number = 0; stage = Whole })

abbrev pub in_digits : ℕ → Option ℕ → Option Reading
in_digits millis None = None
in_digits millis (Some number) = Some (record { millis = millis; number = number; stage = Digits })

-- one more digit
abbrev pub with_digit : ℕ → ℕ → ℕ → Option Reading
with_digit millis number byte = if is_ascii_digit byte then in_digits millis (up_to_a_day ((byte - 48) + number * 10)) else None

-- a further amount, behind this one
abbrev pub with_first_digit : ℕ → Option ℕ → Option Reading
with_first_digit byte None = None
with_first_digit byte (Some millis) = with_digit millis 0 byte

-- one more byte. An `m` is a minute's, and with an `s` behind it a millisecond's
abbrev pub step : Stage → ℕ → ℕ → ℕ → Option Reading
step Whole millis number byte = with_digit millis 0 byte
step Digits millis number byte =
    if byte == 104 then behind (with_amount millis number 3600000)
    else if byte == 115 then behind (with_amount millis number 1000)
    else if byte == 109 then Some (record { millis = millis; number = number; stage = Minutes })
    else with_digit millis number byte
step Minutes millis number byte =
    if byte == 115 then behind (with_amount millis number 1) else with_first_digit byte (with_amount millis number 60000)

-- digits without a unit are no amount
abbrev pub total : Stage → ℕ → ℕ → Option ℕ
total Whole millis number = Some millis
total Digits millis number = None
total Minutes millis number = with_amount millis number 60000

abbrev pub read_from : Option Reading → List ℕ → Option ℕ
read_from None text = None
read_from (Some r) [] = total r.stage r.millis r.number
read_from (Some r) (byte ∷ text) = read_from (step r.stage r.millis r.number byte) text

-- the milliseconds of a duration. That of no amounts is 0, which no flag takes
unfoldable pub duration : List ℕ → Option ℕ
duration text = read_from (Some (record { millis = 0; number = 0; stage = Whole })) text
