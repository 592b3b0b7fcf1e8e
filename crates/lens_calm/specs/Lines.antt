-- The lines on calm spans.
use Rattle.std.specs.Prelude.{ℕ, ◌-◌, ◌*◌, nat_le, Bool, true, false, List, [], ◌++◌, codes, decimal, Option, Some, None, unwrap_or, if◌then◌else◌}
use Rattle.lens_bounds.specs.declared.elections.Election.{Election}
use Rattle.lens_bounds.specs.declared.elections.Span.{Span}
use Rattle.lens_bounds.specs.declared.outages.Marked.{Marked}
use Rattle.lens_bounds.specs.declared.outages.Since.{Since}
use Rattle.lens_bounds.specs.declared.outages.Tainted.{Tainted}
use Rattle.lens_room.specs.FlagReplies.{origin_text}
use Rattle.lens_room.specs.Flags.{timeout_of}
use Rattle.lens_calm.specs.declared.settings.Settings.{Settings}
use Rattle.lens_calm.specs.Settings.{near_of, far_of}

-- ---- numbers

-- a label and so many milliseconds
unfoldable pub millis_text : List ℕ → ℕ → List ℕ
millis_text label n = label ++ decimal n ++ codes "ms"

-- or seconds
unfoldable pub seconds_text : List ℕ → ℕ → List ℕ
seconds_text label n = label ++ decimal n ++ codes "s"

abbrev pub most_if : Option ℕ → List ℕ
most_if None = codes " none"
most_if (Some n) = millis_text (codes " at-most=") n

-- from so many milliseconds, which may be below 0
unfoldable pub since_text : Since → List ℕ
since_text s =
    if nat_le s.taken s.added then millis_text (codes " at-least=") (s.added - s.taken) else millis_text (codes " at-least=-") (s.taken - s.added)

unfoldable pub span_text : Span → List ℕ
span_text s = millis_text (codes " at-least=") s.least ++ millis_text (codes " at-most=") s.most

abbrev pub span_if : Option Span → List ℕ
span_if None = codes " none"
span_if (Some s) = span_text s

unfoldable pub marked_text : Marked → List ℕ
marked_text m = since_text m.least ++ millis_text (codes " at-most=") m.most

abbrev pub marked_if : Option Marked → List ℕ
marked_if None = codes " none"
marked_if (Some m) = marked_text m

unfoldable pub latest_text : Tainted → List ℕ
latest_text t = millis_text (codes " at-most=") t.most ++ millis_text (codes " at-most-with-token=") t.with_token

unfoldable pub tainted_text : Tainted → List ℕ
tainted_text t = since_text t.least ++ latest_text t

abbrev pub tainted_if : Option Tainted → List ℕ
tainted_if None = codes " none"
tainted_if (Some t) = tainted_text t

-- ---- elections. Behind a controller's name, where there is one

-- whether nobody leads, or only nobody comes to lead, as an earlier leader may act on where two leaders aren't ruled out
abbrev pub crash_word : Bool → List ℕ
crash_word true = codes "crash nobody-leads"
crash_word false = codes "crash leads"

abbrev pub stop_word : Bool → List ℕ
stop_word true = codes "stop nobody-leads"
stop_word false = codes "stop leads"

unfoldable pub crash_line : List ℕ → Bool → Option Span → List ℕ
crash_line name safe crash = name ++ crash_word safe ++ span_if crash ++ codes "\n"

unfoldable pub stop_line : List ℕ → Bool → Option Span → List ℕ
stop_line name safe stop = name ++ stop_word safe ++ span_if stop ++ codes "\n"

abbrev pub acts_if : Option ℕ → List ℕ
acts_if None = codes " none"
acts_if (Some n) = millis_text (codes " acts-on-at-most=") n

unfoldable pub cut_off_line : List ℕ → Option ℕ → List ℕ
cut_off_line name acts_on = name ++ codes "cut-off" ++ acts_if acts_on ++ codes "\n"

unfoldable pub calm_line : List ℕ → Option ℕ → Option ℕ → List ℕ
calm_line name leads stays = name ++ codes "calm leads" ++ most_if leads ++ codes " stays-from" ++ most_if stays ++ codes "\n"

unfoldable pub election_text : List ℕ → Bool → Election → List ℕ
election_text name safe e =
    crash_line name safe e.crash ++ stop_line name safe e.stop ++ cut_off_line name e.acts_on ++ calm_line name e.leads e.stays_from

-- ---- nodes

unfoldable pub unknown_line : Option Marked → List ℕ
unknown_line m = codes "node unknown" ++ marked_if m ++ codes "\n"

unfoldable pub tainted_line : ℕ → Option Tainted → List ℕ
tainted_line ahead t = codes "node tainted ahead=" ++ decimal ahead ++ tainted_if t ++ codes "\n"

unfoldable pub gone_line : ℕ → Option Tainted → List ℕ
gone_line seconds t = seconds_text (codes "pods gone toleration=") seconds ++ tainted_if t ++ codes "\n"

-- whether a leader stays
abbrev pub stays_text : Bool → List ℕ
stays_text true = codes "stays\n"
stays_text false = codes "may-end\n"

-- ---- what was taken

unfoldable pub delay_text : ℕ → ℕ → List ℕ
delay_text near far = codes "delay=" ++ decimal near ++ codes "ms.." ++ decimal far ++ codes "ms"

unfoldable pub taken_text : Settings → List ℕ
taken_text s =
    millis_text (codes "timeout=") (timeout_of s.flags) ++ origin_text s.flags.timeout_millis
    ++ millis_text (codes " wait=") s.flags.retry_millis ++ millis_text (codes "..") (unwrap_or s.wait_millis s.flags.retry_millis) ++ codes " "
    ++ delay_text (near_of s * s.flags.beat_millis) (far_of s * s.flags.beat_millis) ++ codes " skew=" ++ decimal s.flags.skew_ppm ++ codes "ppm\n"
