-- A run passes the beats at which no entry stands, and does one at which one stands.
use Rattle.std.proofs.Common.{◌≡◌, ◌⊎◌, ℕ, zero, suc, ◌+◌, ◌-◌, ◌<◌, ◌≤◌, List, ◌++◌, Some, inl, inr, refl, sym, ap, ◌∙◌, subst, add-one, arith}
use Rattle.std.proofs.lemmas.Bool.{lt-ltb}
use Rattle.kube_base.specs.Steps.{counted}
use Rattle.kube_objects.specs.declared.deed.Deed.{Deed}
use Rattle.kube_objects.specs.Document.{Doc, end_beat}
use Rattle.history.specs.History.{beat, history}
use Rattle.history.specs.Printed.{printed}
use Rattle.agenda_laws.specs.Ahead.{IsNextBeat}
use Rattle.agenda_laws.specs.Standing.{StandsAt, standing_below}
use Rattle.agenda_laws.proofs.Standing.{same_or_stands, standing_one, standing_later}
use Rattle.script_reader.specs.Lawful.{IsLawfulDoc, IsWellNamed}
use Rattle.world_core.specs.declared.world.World.{World}
use Rattle.world_core.specs.Worlds.{AreQuiet, WorldStands, at_of, end_of, names_of}
use Rattle.world_runs.specs.Runs.{Runs}

-- ---- a world before its first beat

-- a world that was made of a document runs it
pub runs-first : (doc : Doc) (first : ℕ) (w : World) (names : List (List ℕ)) → IsLawfulDoc doc → IsWellNamed names doc → names_of w ≡ names → at_of w ≡ 0 → end_of w ≡ end_beat doc
    → WorldStands doc 0 (history doc 0) w → Runs doc first first w
runs-first doc first w names lawful named same start end stands =
    record {
      own = record { lawful = lawful; named = subst (λ ns. IsWellNamed ns doc) (sym same) named };
      end = end;
      stands = subst (λ k. WorldStands doc k (history doc k) w) (sym start) stands;
      counted = omega arith;
    }

-- ---- beats of which no entry stands

quiet-history : (doc : Doc) (k m : ℕ) → k + m ≤ end_beat doc + 1 → ((j : ℕ) → k ≤ j → j < k + m → ¬ StandsAt doc j) → history doc (k + m) ≡ history doc k
quiet-history doc k zero within quiet = let same : k + 0 ≡ k = omega arith in ap (history doc) same
quiet-history doc k (suc m) within quiet =
    let next : k + suc m ≡ suc (k + m) = omega arith in
    ap (history doc) next
    ∙ by_case (same_or_stands doc (k + m) (omega (arith, within)))
    ∙ quiet-history doc k m (omega (arith, within)) (λ j from less. quiet j from (omega (arith, less)))
  where
    by_case : (beat doc (history doc (k + m)) (k + m) ≡ history doc (k + m)) ⊎ StandsAt doc (k + m) → beat doc (history doc (k + m)) (k + m) ≡ history doc (k + m)
    by_case (inl same) = same
    by_case (inr stands) = absurd (quiet (k + m) (omega arith) (omega arith) stands)

-- the history stays over such beats, and each of them adds nothing to it
pub passed : (doc : Doc) (k n : ℕ) → k ≤ n → n ≤ end_beat doc + 1 → ((j : ℕ) → k ≤ j → j < n → ¬ StandsAt doc j) → (history doc n ≡ history doc k) × AreQuiet doc k n (history doc k)
passed doc k n from within quiet = (
  before n from (omega arith),
  λ j least less. (let later : suc j ≡ j + 1 = omega arith in ap (λ h. beat doc h j) (sym (before j least (omega (arith, less)))) ∙ ap (history doc) later ∙ before (j + 1) (omega (arith, least)) (omega (arith, less))),
)
  where
    before : (j : ℕ) → k ≤ j → j ≤ n → history doc j ≡ history doc k
    before j least most =
        let is : k + (j - k) ≡ j = omega (arith, least) in
        ap (history doc) (sym is) ∙ quiet-history doc k (j - k) (omega (arith, least, most, within)) (λ i low less. quiet i low (omega (arith, less, least, most)))

-- up to the next beat with an entry
pub next-passed : (doc : Doc) (k n : ℕ) → IsNextBeat doc k (Some n) → (history doc n ≡ history doc k) × AreQuiet doc k n (history doc k)
next-passed doc k n next =
    let ahead = (next.there n refl).0 in
    let within = ahead.within in
    passed doc k n ahead.from (omega (arith, within)) (λ j from less. next.quiet j from (omega (arith, less, within)) (lt-ltb j n less))

-- ---- a beat that is done

pub next-stands : (doc : Doc) (k n : ℕ) (w : World) → n ≡ k + 1 → WorldStands doc (k + 1) (beat doc (history doc k) k) w → WorldStands doc n (history doc n) w
next-stands doc k n w is s =
    let next : WorldStands doc (suc k) (history doc (suc k)) w = subst (λ m. WorldStands doc m (beat doc (history doc k) k) w) (add-one k) s in
    subst (λ m. WorldStands doc m (history doc m) w) (sym (is ∙ add-one k)) next

pub next-told : (doc : Doc) (k n m : ℕ) (deeds : List Deed) → history doc n ≡ history doc k → m ≡ n + 1 → printed (history doc n) ++ deeds ≡ printed (beat doc (history doc n) n)
    → printed (history doc k) ++ deeds ≡ printed (history doc m)
next-told doc k n m deeds same is told = ap (λ h. printed h ++ deeds) (sym same) ∙ told ∙ ap (λ j. printed (history doc j)) (sym (is ∙ add-one n))

-- one more beat is counted, at which an entry stands
pub counts-one : (doc : Doc) (k n m first old new : ℕ) → IsNextBeat doc k (Some n) → n + 1 ≤ m → old ≤ first + standing_below doc k → new ≡ counted old 1 → new ≤ first + standing_below doc m
counts-one doc k n m first old new next is most steps =
    let there = next.there n refl in
    let more = standing_one doc n there.1 in
    let later = standing_later doc k n there.0.from in
    let up = standing_later doc (n + 1) m is in
    omega (arith, more, later, up, most, steps)
