-- A controller that has never been up, and one more of them.
use Rattle.std.proofs.lemmas.Bool.{leb-true}
use Rattle.std.proofs.Math.Dec.{leb-zero}
use Rattle.std.proofs.Math.Nat.{le-mul_of_pos_right}
use Rattle.std.proofs.Math.IntN.{neg_ℤ, pos-*ℤ-pos, negsuc-*ℤ-pos}
use Rattle.std.proofs.Common.{SFits, T, ◌≤◌, if◌then◌else◌, ◌≡◌, ℕ, ℤ, pos, negsuc, zero, suc, ◌*◌, ◌-◌, ◌++◌, nat_le, ◌*ℤ◌, ◌≤ℤ◌, w64, Bool, true, false, List, [], ◌∷◌, Some, refl, sym, ap, ◌∙◌, subst, arith}
use Rattle.kube_base.specs.Bounds.{most_local}
use Rattle.kube_objects.specs.declared.script.Event.{Event}
use Rattle.kube_objects.specs.declared.script.Proc.{Proc}
use Rattle.kube_objects.specs.declared.settings.Settings.{Settings}
use Rattle.kube_objects.specs.Clocks.{moved, last_rate}
use Rattle.kube_objects.specs.Document.{Doc, field, process_at, first_rate}
use Rattle.kube_objects.specs.Newest.{or_else}
use Rattle.skew_clock.specs.Clocking.{Clocking, moved as moved_micros, rate_at, reading}
use Rattle.pause_times.specs.declared.pauses.Pauses.{Pauses}
use Rattle.pause_times.specs.Owned.{PausesStand, pauses_of}
use Rattle.script_reader.specs.Lawful.{AreLawful}
use Rattle.history.specs.Sound.{AreApart}
use Rattle.world_process.specs.Clocked.{ClockStands, SameSpan}

moved-back : (n at : ℕ) → moved_micros (neg_ℤ (pos n)) at ≡ at - n
moved-back zero at = omega arith
moved-back (suc n) at = omega arith

-- milliseconds and microseconds move a time alike
pub moved-millis : (z : ℤ) (at : ℕ) → moved_micros (z *ℤ pos 1000) at ≡ moved z at
moved-millis (pos m) at = ap (λ z. moved_micros z at) (pos-*ℤ-pos m 1000)
moved-millis (negsuc m) at = ap (λ z. moved_micros z at) (negsuc-*ℤ-pos m 1000) ∙ moved-back (suc m * 1000) at ∙ ap (λ n. at - n) (omega arith)

from-t : {b : Bool} → T b → b ≡ true
from-t {b = true} t = refl
from-t {b = false} t = elim t [ ]

-- an offset in its range fits in 64 bits
pub offset-fits : (z : ℤ) → negsuc 31535999999 ≤ℤ z → z ≤ℤ pos 31536000000 → SFits w64 z
offset-fits (pos n) least most = let within : n ≤ 31536000000 = leb-true n 31536000000 (from-t most.le) in record { sfits = omega (arith, within) }
offset-fits (negsuc n) least most = let within : n ≤ 31535999999 = leb-true n 31535999999 (from-t least.le) in record { sfits = omega (arith, within) }

from-first : (j : ℕ) → nat_le 0 j ≡ true
from-first j = leb-zero j

pub clock-first : (doc : Doc) (p me : ℕ) (s : Settings) (x : Proc) (es : List Event) (first c : Clocking) (offset : ℤ) → offset ≡ x.offset_millis *ℤ pos 1000 → me ≡ p → doc.settings ≡ s → process_at doc p ≡ Some x → doc.events ≡ es →
    first ≡ record { epoch = s.epoch.0; offset = offset; beat_micros = s.beat_millis * 1000; end = s.end_beat.0; sets = (0, x.rate_ppm) ∷ [] } → SameSpan first c →
    ((j : ℕ) → rate_at c.sets j ≡ or_else (rate_at first.sets j) (last_rate me j es)) → reading c c.end ≤ most_local → ClockStands doc p c
clock-first doc p me s x es first c offset offset_is me_is settings process events is same rates fits =
    record {
      epoch = same.epoch ∙ ap (λ y. y.epoch) is ∙ ap (λ y. y.epoch.0) (sym settings);
      offset = λ at. ap (λ z. moved_micros z at) (same.offset ∙ ap (λ y. y.offset) is ∙ offset_is) ∙ moved-millis x.offset_millis at ∙ ap (λ y. moved (field (λ z. z.offset_millis) (pos 0) y) at) (sym process);
      micros = same.beat_micros ∙ ap (λ y. y.beat_micros) is ∙ ap (λ y. y.beat_millis * 1000) (sym settings);
      end = same.end ∙ ap (λ y. y.end) is ∙ ap (λ y. y.end_beat.0) (sym settings);
      rates = λ j. rates j
          ∙ ap (λ y. or_else (rate_at y.sets j) (last_rate me j es)) is
          ∙ ap (λ b. or_else (if b then x.rate_ppm else 0) (last_rate me j es)) (from-first j)
          ∙ ap (λ y. or_else (field (λ z. z.rate_ppm) 0 y) (last_rate me j es)) (sym process)
          ∙ ap (λ n. or_else (first_rate doc p) (last_rate n j es)) me_is
          ∙ ap (λ xs. or_else (first_rate doc p) (last_rate p j xs)) (sym events);
      fits = fits;
    }

-- ---- its pauses

pub pauses-first : (doc : Doc) (p me : ℕ) (es : List Event) (first x : Pauses) → me ≡ p → doc.events ≡ es → AreApart es → first.all.items ≡ [] → x.all.items ≡ first.all.items ++ pauses_of me es → PausesStand doc p x
pauses-first doc p me es first x me_is events apart none is =
    record {
      all = is ∙ ap (λ xs. xs ++ pauses_of me es) none ∙ ap (λ n. pauses_of n es) me_is ∙ ap (pauses_of p) (sym events);
      apart = subst AreApart (sym events) apart;
    }

pub end-fits : (s : Settings) → AreLawful s → s.end_beat.0 ≤ 604800000
end-fits s lawful =
    let more : s.end_beat.0 ≤ s.end_beat.0 * s.beat_millis = le-mul_of_pos_right s.end_beat.0 (omega (arith, lawful.beat_least)) in
    omega (arith, more, lawful.end)
