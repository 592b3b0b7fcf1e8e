-- Two pauses of a process, at different places of the script, are together at most the longest and the second longest.
use Rattle.std.proofs.Common.{min, not, ◌≡◌, ◌⊎◌, ◌<◌, ◌≤◌, ℕ, zero, suc, ◌+◌, ◌&&◌, nat_le, nat_lt, Bool, true, false, cond, List, [], ◌∷◌, Option, Some, None, refl, sym, ap, ◌∙◌, subst, inl, inr, ⊎_elim, leb-true, arith}
use Rattle.std.proofs.lemmas.Bool.{ltb-true, ltb-false, lt-ltb, le-leb, cases_lt, cases_eq}
use Rattle.kube_objects.specs.declared.script.Event.{Event}
use Rattle.kube_objects.specs.Document.{Doc, end_beat}
use Rattle.kube_objects.specs.Newest.{when, has, or_else}
use Rattle.kube_objects.specs.Pauses.{pause_of, end_of, last_pause, pause_end, is_paused, is_ahead, wait_of, last_wait}
use Rattle.kube_objects.proofs.Pauses.{or_earlier}
use Rattle.history.specs.Premise.{less, more, stands, longest_below, second_below}
use Rattle.history.specs.Sound.{AreApart}
use Rattle.history.proofs.Pauses.{resume_awake}
use Rattle.history_laws.proofs.Counting.{when_test, when_value}
use Rattle.history_laws.proofs.Plainly.{none_is, true_is, false_is, and_left, and_right, and_both, not_true}

-- the event at a place of the script pauses a process, from a beat on and for so many beats
abbrev pub PausesAt : ℕ → List Event → ℕ → ℕ → ℕ → Type 0
PausesAt p [] place from beats = ⊥
PausesAt p (e ∷ es) zero from beats = (e.beat.0 ≡ from) × (pause_of p e.what ≡ Some beats)
PausesAt p (e ∷ es) (suc place) from beats = PausesAt p es place from beats

-- ---- the two longest

pub more_both : (a b : ℕ) → (a ≤ more a b) × (b ≤ more a b)
more_both a b = by_test (nat_lt a b) refl
  where
    by_test : (t : Bool) → nat_lt a b ≡ t → (a ≤ cond t b a) × (b ≤ cond t b a)
    by_test true is = let lt : a < b = ltb-true a b is in (omega (arith, lt), omega arith)
    by_test false is = let le : b ≤ a = ltb-false a b is in (omega arith, omega (arith, le))

-- the greater and the lesser one are both
both_are : (a b : ℕ) → a + b ≤ more a b + less a b
both_are a b = by_test (nat_lt a b)
  where
    by_test : (t : Bool) → a + b ≤ cond t b a + cond t a b
    by_test true = omega arith
    by_test false = omega arith

pub counted_at : (p : ℕ) (es : List Event) (place from beats : ℕ) → PausesAt p es place from beats → beats + 1 ≤ longest_below p es
counted_at p [] place from beats at = absurd at
counted_at p (e ∷ es) zero from beats at = omega (arith, ap stands at.1, (more_both (longest_below p es) (stands (pause_of p e.what))).1)
counted_at p (e ∷ es) (suc place) from beats at = omega (arith, counted_at p es place from beats at, (more_both (longest_below p es) (stands (pause_of p e.what))).0)

-- one at the head and one behind it
head_and_rest : (p : ℕ) (e : Event) (es : List Event) (beats rest : ℕ) → pause_of p e.what ≡ Some beats → rest + 1 ≤ longest_below p es
    → (beats + 1) + (rest + 1) ≤ longest_below p (e ∷ es) + second_below p (e ∷ es)
head_and_rest p e es beats rest is counted =
    let l = longest_below p es in
    let s = stands (pause_of p e.what) in
    let own : s ≡ beats + 1 = ap stands is in
    omega (arith, own, counted, both_are l s, (more_both (second_below p es) (less l s)).1)

pub two_pauses : (p : ℕ) (es : List Event) (m n from beats since others : ℕ) → (m ≡ n → ⊥) → PausesAt p es m from beats → PausesAt p es n since others
    → (beats + 1) + (others + 1) ≤ longest_below p es + second_below p es
two_pauses p [] m n from beats since others differ one two = absurd one
two_pauses p (e ∷ es) zero zero from beats since others differ one two = absurd (differ refl)
two_pauses p (e ∷ es) zero (suc n) from beats since others differ one two = head_and_rest p e es beats others one.1 (counted_at p es n since others two)
two_pauses p (e ∷ es) (suc m) zero from beats since others differ one two = omega (arith, head_and_rest p e es others beats two.1 (counted_at p es m from beats one))
two_pauses p (e ∷ es) (suc m) (suc n) from beats since others differ one two =
    let l = longest_below p es in
    let s = stands (pause_of p e.what) in
    omega (arith, two_pauses p es m n from beats since others (λ is. differ (ap suc is)) one two, (more_both l s).0, (more_both (second_below p es) (less l s)).0)

-- at one place there is one
pub same_pause : (p : ℕ) (es : List Event) (place from beats since others : ℕ) → PausesAt p es place from beats → PausesAt p es place since others → (from ≡ since) × (beats ≡ others)
same_pause p [] place from beats since others one two = absurd one
same_pause p (e ∷ es) zero from beats since others one two = (sym one.0 ∙ two.0, same_beats (sym one.1 ∙ two.1))
  where
    same_beats : Some beats ≡ Some others → beats ≡ others
    same_beats is = cc
same_pause p (e ∷ es) (suc place) from beats since others one two = same_pause p es place from beats since others one two

-- ---- the pause in which a beat lies

pub record PauseOver (p : ℕ) (es : List Event) (k end : ℕ) : Type 0 where
  pub place : ℕ
  pub from : ℕ
  pub beats : ℕ
  pub at : PausesAt p es place from beats
  pub begun : from ≤ k
  pub lasts : k < from + beats
  pub ends : from + beats ≡ end

pause_behind : (p : ℕ) (e : Event) (es : List Event) (k end : ℕ) → PauseOver p es k end → PauseOver p (e ∷ es) k end
pause_behind p e es k end w = record { place = suc w.place; from = w.from; beats = w.beats; at = w.at; begun = w.begun; lasts = w.lasts; ends = w.ends }

pub pause_over : (p k : ℕ) (es : List Event) (end : ℕ) → last_pause p k es ≡ Some end → PauseOver p es k end
pause_over p k [] end is = absurd (none_is end is)
pause_over p k (e ∷ es) end is = cases (pause_over p k es end) (last_pause p k es) refl is
  where
    here : (o : Option ℕ) → pause_of p e.what ≡ o → end_of k e.beat.0 o ≡ Some end → PauseOver p (e ∷ es) k end
    here None pauses is = absurd (none_is end is)
    here (Some beats) pauses is =
        let test = nat_le e.beat.0 k && nat_lt k (e.beat.0 + beats) in
        let both : test ≡ true = when_test test (e.beat.0 + beats) end is in
        record {
          place = 0;
          from = e.beat.0;
          beats = beats;
          at = (refl, pauses);
          begun = leb-true e.beat.0 k (and_left (nat_le e.beat.0 k) (nat_lt k (e.beat.0 + beats)) both);
          lasts = ltb-true k (e.beat.0 + beats) (and_right (nat_le e.beat.0 k) (nat_lt k (e.beat.0 + beats)) both);
          ends = when_value test (e.beat.0 + beats) end is;
        }

    cases : (last_pause p k es ≡ Some end → PauseOver p es k end) → (o : Option ℕ) → last_pause p k es ≡ o → or_earlier o (end_of k e.beat.0 (pause_of p e.what)) ≡ Some end → PauseOver p (e ∷ es) k end
    cases rest None none is = here (pause_of p e.what) refl is
    cases rest (Some m) some is = pause_behind p e es k end (rest (some ∙ is))

-- in a pause it is paused
pub paused_in : (p k : ℕ) (es : List Event) (place from beats : ℕ) → PausesAt p es place from beats → from ≤ k → k < from + beats → has (last_pause p k es) ≡ true
paused_in p k [] place from beats at begun lasts = absurd at
paused_in p k (e ∷ es) zero from beats at begun lasts = cases (last_pause p k es)
  where
    here : has (end_of k e.beat.0 (pause_of p e.what)) ≡ true
    here = ap (λ o. has (end_of k e.beat.0 o)) at.1
        ∙ ap (λ b. has (when b (e.beat.0 + beats))) (and_both (nat_le e.beat.0 k) (nat_lt k (e.beat.0 + beats)) (le-leb e.beat.0 k (omega (arith, at.0, begun))) (lt-ltb k (e.beat.0 + beats) (omega (arith, at.0, lasts))))

    cases : (o : Option ℕ) → has (or_earlier o (end_of k e.beat.0 (pause_of p e.what))) ≡ true
    cases None = here
    cases (Some m) = refl
paused_in p k (e ∷ es) (suc place) from beats at begun lasts = cases (last_pause p k es) (paused_in p k es place from beats at begun lasts)
  where
    cases : (o : Option ℕ) → has o ≡ true → has (or_earlier o (end_of k e.beat.0 (pause_of p e.what))) ≡ true
    cases None is = absurd (false_is is)
    cases (Some m) is = refl

-- ---- what lies between two beats where one is awake, and all beats between are paused

-- a pause begins right after beat j, and beat k comes when it is over at the latest
pub record PausedSince (doc : Doc) (p j k : ℕ) : Type 0 where
  pub place : ℕ
  pub beats : ℕ
  pub at : PausesAt p doc.events place (j + 1) beats
  pub upto : k ≤ j + 1 + beats

pub between_turns : (doc : Doc) (p j k : ℕ) → AreApart doc.events → is_paused doc p j ≡ false → ((i : ℕ) → j < i → i < k → is_paused doc p i ≡ true) → (k ≤ j + 1) ⊎ PausedSince doc p j k
between_turns doc p j k apart awake paused = ⊎_elim (λ lt. inr (by_end lt (pause_end doc p (j + 1)) refl)) (λ le. inl le) (cases_lt (j + 1) k)
  where
    by_end : j + 1 < k → (o : Option ℕ) → pause_end doc p (j + 1) ≡ o → PausedSince doc p j k
    by_end lt None is = absurd (true_is (sym (paused (j + 1) (omega arith) lt) ∙ ap has is))
    by_end lt (Some end) is =
        let w = pause_over p (j + 1) doc.events end is in
        let first : w.from ≡ j + 1 = ⊎_elim (λ before. absurd (true_is (sym (paused_in p j doc.events w.place w.from w.beats w.at (omega (arith, before)) (omega (arith, w.lasts))) ∙ awake))) (λ after. omega (arith, after, w.begun)) (cases_lt w.from (j + 1)) in
        record {
          place = w.place;
          beats = w.beats;
          at = subst (λ n. PausesAt p doc.events w.place n w.beats) first w.at;
          upto = ⊎_elim (λ early. absurd (true_is (sym (paused end (omega (arith, w.lasts, w.ends)) early) ∙ over))) (λ le. omega (arith, le, w.ends, first)) (cases_lt end k);
        }
      where
        over : is_paused doc p end ≡ false
        over = subst (λ o. is_paused doc p (or_else (j + 1) o) ≡ false) is (resume_awake doc p (j + 1) apart)

-- ---- the pause in which an attempt waits that is due at a reading

pub record WaitsAt (doc : Doc) (p at : ℕ) (es : List Event) (k : ℕ) : Type 0 where
  pub place : ℕ
  pub from : ℕ
  pub beats : ℕ
  pub pauses : PausesAt p es place from beats
  pub ahead : is_ahead doc p at from ≡ true
  pub reached : is_ahead doc p at k ≡ false
  pub ends : k ≤ from + beats

waits_behind : (doc : Doc) (p at : ℕ) (e : Event) (es : List Event) (k : ℕ) → WaitsAt doc p at es k → WaitsAt doc p at (e ∷ es) k
waits_behind doc p at e es k w = record { place = suc w.place; from = w.from; beats = w.beats; pauses = w.pauses; ahead = w.ahead; reached = w.reached; ends = w.ends }

pub waits_at : (doc : Doc) (p at : ℕ) (es : List Event) (k : ℕ) → last_wait doc p at es ≡ Some k → WaitsAt doc p at es k
waits_at doc p at [] k is = absurd (none_is k is)
waits_at doc p at (e ∷ es) k is = cases (waits_at doc p at es k) (last_wait doc p at es) refl is
  where
    here : (o : Option ℕ) → pause_of p e.what ≡ o → wait_of doc p at e.beat.0 o ≡ Some k → WaitsAt doc p at (e ∷ es) k
    here None pauses is = absurd (none_is k is)
    here (Some beats) pauses is =
        let end = min (e.beat.0 + beats) (end_beat doc) in
        let test = is_ahead doc p at e.beat.0 && not (is_ahead doc p at end) in
        let both : test ≡ true = when_test test end k is in
        let over : end ≡ k = when_value test end k is in
        record {
          place = 0;
          from = e.beat.0;
          beats = beats;
          pauses = (refl, pauses);
          ahead = and_left (is_ahead doc p at e.beat.0) (not (is_ahead doc p at end)) both;
          reached = subst (λ k. is_ahead doc p at k ≡ false) over (not_true (is_ahead doc p at end) (and_right (is_ahead doc p at e.beat.0) (not (is_ahead doc p at end)) both));
          ends = omega (arith, over);
        }

    cases : (last_wait doc p at es ≡ Some k → WaitsAt doc p at es k) → (o : Option ℕ) → last_wait doc p at es ≡ o → or_earlier o (wait_of doc p at e.beat.0 (pause_of p e.what)) ≡ Some k → WaitsAt doc p at (e ∷ es) k
    cases rest None none is = here (pause_of p e.what) refl is
    cases rest (Some m) some is = waits_behind doc p at e es k (rest (some ∙ is))

-- ---- the last beat at which a process isn't paused

pub record LastAwake (doc : Doc) (p m k : ℕ) : Type 0 where
  pub at : ℕ
  pub from : m ≤ at
  pub upto : at ≤ k
  pub awake : is_paused doc p at ≡ false
  pub paused : (i : ℕ) → at < i → i ≤ k → is_paused doc p i ≡ true

pub last_awake : (doc : Doc) (p m i : ℕ) → is_paused doc p m ≡ false → LastAwake doc p m (m + i)
last_awake doc p m zero awake = record { at = m; from = omega arith; upto = omega arith; awake = awake; paused = λ i lt le. absurd (omega (arith, lt, le)) }
last_awake doc p m (suc i) awake = by_test (last_awake doc p m i awake) (is_paused doc p (m + suc i)) refl
  where
    by_test : LastAwake doc p m (m + i) → (b : Bool) → is_paused doc p (m + suc i) ≡ b → LastAwake doc p m (m + suc i)
    by_test l false is = record { at = m + suc i; from = omega arith; upto = omega arith; awake = is; paused = λ i lt le. absurd (omega (arith, lt, le)) }
    by_test l true is = record {
      at = l.at;
      from = l.from;
      upto = omega (arith, l.upto);
      awake = l.awake;
      paused = λ n lt le. ⊎_elim (λ same. subst (λ n. is_paused doc p n ≡ true) (sym same) is) (λ other. l.paused n lt (omega (arith, le, other))) (cases_eq n (m + suc i));
    }
