-- The beats at which two act are counted.
use Rattle.std.proofs.Common.{◌≡◌, ℕ, zero, suc, ◌+◌, ◌-◌, ◌≤◌, ◌<◌, ◌&&◌, ◌||◌, not, nat_le, nat_lt, max, min, Bool, true, false, cond, List, [], ◌∷◌, count_by, refl, sym, ap, ◌∙◌, arith}
use Rattle.std.specs.List.{list_any, range_with_len}
use Rattle.std.specs.Str.{bytes_eq}
use Rattle.std.proofs.lemmas.Bool.{le-leb, lt-leb, lt-ltb, le-ltb}
use Rattle.std.proofs.lemmas.Bool.Decides.{nat_tests}
use Rattle.std.proofs.lemmas.List.Sums.{sum_by-cons}
use Rattle.std.proofs.lemmas.Slice.Eq.{bytes_eq-Decides}
use Rattle.lens_terms.specs.declared.latest.Latest.{Latest}
use Rattle.lens_terms.specs.declared.stretch.Stretch.{Stretch}
use Rattle.lens_terms.specs.Acting.{acting}
use Rattle.lens_terms.specs.Beats.{has_beat, is_beside, two_act}
use Rattle.lens_terms.specs.Together.{none_yet, rival, with_stretch, shared_end, beats_from, beats_of_two}
use Rattle.lens_trace.proofs.SpanLaws.{AreBegun, acting-begun}
use Rattle.trace_lines.specs.declared.line.Line.{Line}

-- ---- the last end of another identity

eq-from : (xs ys : List ℕ) → bytes_eq xs ys ≡ true → xs ≡ ys
eq-from xs ys e = (bytes_eq-Decides xs ys).0 e

same-longer : (b c : Bool) → b ≡ c → (s t u : ℕ) → cond b s (max t u) ≡ cond c (cond b s t) (max (cond b s t) u)
same-longer true true e s t u = refl
same-longer false false e s t u = refl
same-longer true false e s t u = absurd (let no : true ≡ false = e in cc)
same-longer false true e s t u = absurd (let no : false ≡ true = e in cc)

other-later : (b c : Bool) → (c ≡ true → b ≡ false) → (s t u : ℕ) → s ≤ t → t < u → cond c t u ≡ cond c (cond b s t) (max (cond b s t) u)
other-later true true h s t u low late = absurd (let no : true ≡ false = h refl in cc)
other-later false true h s t u low late = refl
other-later true false h s t u low late = omega arith
other-later false false h s t u low late = omega arith

other-earlier : (b c : Bool) → (c ≡ true → b ≡ false) → (s t u : ℕ) → u ≤ t → cond b (max s u) t ≡ cond c (cond b s t) (max (cond b s t) u)
other-earlier true true h s t u early = absurd (let no : true ≡ false = h refl in cc)
other-earlier false true h s t u early = refl
other-earlier true false h s t u early = refl
other-earlier false false h s t u early = omega arith

-- with one more term only another identity's changes, to the later one of both
rival-with : (l : Latest (List ℕ)) (a who : List ℕ) (u : ℕ) → l.beside ≤ l.until → rival (with_stretch l who u) a ≡ cond (bytes_eq who a) (rival l a) (max (rival l a) u)
rival-with l a who u small = by (bytes_eq l.who who) refl (nat_lt l.until u) refl
  where
    apart : bytes_eq l.who who ≡ false → bytes_eq who a ≡ true → bytes_eq l.who a ≡ false
    apart e h = ap (bytes_eq l.who) (sym (eq-from who a h)) ∙ e

    by : (b : Bool) → bytes_eq l.who who ≡ b → (c : Bool) → nat_lt l.until u ≡ c
        → rival
        (cond b (let r : Latest (List ℕ) = record { who = l.who; until = max l.until u; beside = l.beside } in r)
        (cond c (let r : Latest (List ℕ) = record { who = who; until = u; beside = l.until } in r)
        (let r : Latest (List ℕ) = record { who = l.who; until = l.until; beside = max l.beside u } in r)))
        a
        ≡ cond (bytes_eq who a) (rival l a) (max (rival l a) u)
    by true e c f = same-longer (bytes_eq l.who a) (bytes_eq who a) (ap (λ x. bytes_eq x a) (eq-from l.who who e)) l.beside l.until u
    by false e true f = other-later (bytes_eq l.who a) (bytes_eq who a) (apart e) l.beside l.until u small (grind (arith, nat_tests, f))
    by false e false f = other-earlier (bytes_eq l.who a) (bytes_eq who a) (apart e) l.beside l.until u (grind (arith, nat_tests, f))

abbrev IsSmall : Latest (List ℕ) → Type 0
IsSmall m = m.beside ≤ m.until

-- the last end of all is no sooner
small-with : (l : Latest (List ℕ)) (who : List ℕ) (u : ℕ) → l.beside ≤ l.until → (with_stretch l who u).beside ≤ (with_stretch l who u).until
small-with l who u small = by (bytes_eq l.who who) (nat_lt l.until u) refl
  where
    by : (b c : Bool) → nat_lt l.until u ≡ c
        → IsSmall
        (cond b (let r : Latest (List ℕ) = record { who = l.who; until = max l.until u; beside = l.beside } in r)
        (cond c (let r : Latest (List ℕ) = record { who = who; until = u; beside = l.until } in r)
        (let r : Latest (List ℕ) = record { who = l.who; until = l.until; beside = max l.beside u } in r)))
    by true c f = omega arith
    by false true f = grind (arith, nat_tests, f)
    by false false f = grind (arith, nat_tests, f)

-- ---- the beats that a term shares with those so far

-- a term has a beat that a term of another identity so far has too
abbrev meets : ℕ → Latest (List ℕ) → Stretch (List ℕ) → Bool
meets beat l t = has_beat beat t && nat_lt beat (rival l t.actor)

abbrev paired : ℕ → Latest (List ℕ) → List (Stretch (List ℕ)) → Bool
paired beat l [] = false
paired beat l (t ∷ ts) = meets beat l t || paired beat (with_stretch l t.actor t.until) ts

reach-by : (b : Bool) (beat r u : ℕ) → nat_lt beat (cond b r (max r u)) ≡ (nat_lt beat r || (not b && nat_lt beat u))
reach-by true beat r u = sym (or-false (nat_lt beat r))
  where
    or-false : (b : Bool) → (b || false) ≡ b
    or-false true = refl
    or-false false = refl
reach-by false beat r u = grind (arith, nat_tests)

reach-with : (beat : ℕ) (l : Latest (List ℕ)) (a who : List ℕ) (u : ℕ) → l.beside ≤ l.until
    → nat_lt beat (rival (with_stretch l who u) a) ≡ (nat_lt beat (rival l a) || (not (bytes_eq who a) && nat_lt beat u))
reach-with beat l a who u small = ap (nat_lt beat) (rival-with l a who u small) ∙ reach-by (bytes_eq who a) beat (rival l a) u

split : (h r n k X H Y : Bool) → (h ≡ true → k ≡ H) → ((h && (r || (n && k))) || (X || (H && Y))) ≡ (((h && r) || X) || (H && ((n && h) || Y)))
split false r true k X H Y e = refl
split false r false k X H Y e = refl
split true r n k X H Y e = ap (λ k. (r || (n && k)) || (X || (H && Y))) (e refl) ∙ go r n X H Y
  where
    go : (r n X H Y : Bool) → ((r || (n && H)) || (X || (H && Y))) ≡ ((r || X) || (H && ((n && true) || Y)))
    go true n X H Y = refl
    go false true true true Y = refl
    go false true false true Y = refl
    go false true X false Y = refl
    go false false X true Y = refl
    go false false X false Y = refl

-- a later term has a beat only behind the beginning of an earlier one
has-both : (beat : ℕ) (t u : Stretch (List ℕ)) → nat_le t.from u.from ≡ true → has_beat beat u ≡ true → nat_lt beat t.until ≡ has_beat beat t
has-both beat t u order has = by (nat_le t.from beat) refl
  where
    left : (a b : Bool) → (a && b) ≡ true → a ≡ true
    left true b e = refl
    left false b e = e

    by : (b : Bool) → nat_le t.from beat ≡ b → nat_lt beat t.until ≡ (b && nat_lt beat t.until)
    by true e = refl
    by false e =
        let begun : nat_le u.from beat ≡ true = left (nat_le u.from beat) (nat_lt beat u.until) has in
        let before : beat < t.from = grind (arith, nat_tests, e) in
        let behind : u.from ≤ beat = grind (arith, nat_tests, begun) in
        let in_order : t.from ≤ u.from = grind (arith, nat_tests, order) in
        absurd (omega arith)

any-split : (end beat before : ℕ) (l : Latest (List ℕ)) (t : Stretch (List ℕ)) (us : List (Stretch (List ℕ))) → l.beside ≤ l.until → nat_le t.from before ≡ true → AreBegun end before us
    → list_any (meets beat (with_stretch l t.actor t.until)) us ≡ (list_any (meets beat l) us || (has_beat beat t && list_any (is_beside beat t.actor) us))
any-split end beat before l t [] small order h = by (has_beat beat t)
  where
    by : (b : Bool) → false ≡ (b && false)
    by true = refl
    by false = refl
any-split end beat before l t (u ∷ us) small order h =
    let from : nat_le before u.from ≡ true = h.0 in
    let both : nat_le t.from u.from ≡ true = grind (arith, nat_tests, order, from) in
    ap (λ b. (has_beat beat u && b) || list_any (meets beat (with_stretch l t.actor t.until)) us) (reach-with beat l u.actor t.actor t.until small)
    ∙ ap (λ b. (has_beat beat u && (nat_lt beat (rival l u.actor) || (not (bytes_eq t.actor u.actor) && nat_lt beat t.until))) || b)
    (any-split end beat u.from l t us small both h.2)
    ∙ split (has_beat beat u) (nat_lt beat (rival l u.actor)) (not (bytes_eq t.actor u.actor)) (nat_lt beat t.until) (list_any (meets beat l) us)
    (has_beat beat t) (list_any (is_beside beat t.actor) us) (has-both beat t u both)

four : (m x y z : Bool) → (m || ((x || y) || z)) ≡ ((m || x) || (y || z))
four true x y z = refl
four false true y z = refl
four false false y z = refl

paired-is : (end beat before : ℕ) (l : Latest (List ℕ)) (ts : List (Stretch (List ℕ))) → l.beside ≤ l.until → AreBegun end before ts
    → paired beat l ts ≡ (list_any (meets beat l) ts || two_act beat ts)
paired-is end beat before l [] small h = refl
paired-is end beat before l (t ∷ ts) small h =
    let self : nat_le t.from t.from ≡ true = le-leb t.from t.from (omega arith) in
    ap (λ b. meets beat l t || b) (paired-is end beat t.from (with_stretch l t.actor t.until) ts (small-with l t.actor t.until small) h.2)
    ∙ ap (λ b. meets beat l t || (b || two_act beat ts)) (any-split end beat t.from l t ts small self h.2)
    ∙ four (meets beat l t) (list_any (meets beat l) ts) (has_beat beat t && list_any (is_beside beat t.actor) ts) (two_act beat ts)

none-met : (beat : ℕ) (ts : List (Stretch (List ℕ))) → list_any (meets beat none_yet) ts ≡ false
none-met beat [] = refl
none-met beat (t ∷ ts) = by (has_beat beat t) (bytes_eq [] t.actor) (none-met beat ts)
  where
    by : (h b : Bool) → list_any (meets beat none_yet) ts ≡ false → ((h && nat_lt beat (cond b 0 0)) || list_any (meets beat none_yet) ts) ≡ false
    by false b rest = rest
    by true true rest = ap (λ n. n || list_any (meets beat none_yet) ts) (le-ltb beat 0 (omega arith)) ∙ rest
    by true false rest = ap (λ n. n || list_any (meets beat none_yet) ts) (le-ltb beat 0 (omega arith)) ∙ rest

-- ---- how many beats of a range pass a test

abbrev passing : (ℕ → Bool) → ℕ → ℕ → ℕ
passing p a n = count_by p (range_with_len a n)

passing-more : (p : ℕ → Bool) (a n : ℕ) → passing p a (suc n) ≡ cond (p a) 1 0 + passing p (a + 1) n
passing-more p a n = sum_by-cons (λ x. cond (p x) 1 0) a (range_with_len (a + 1) n)

passing-same : (p q : ℕ → Bool) (a n : ℕ) → ((b : ℕ) → a ≤ b → b < a + n → p b ≡ q b) → passing p a n ≡ passing q a n
passing-same p q a zero h = refl
passing-same p q a (suc n) h =
    passing-more p a n
    ∙ ap (λ b. cond b 1 0 + passing p (a + 1) n) (h a (omega arith) (omega arith))
    ∙ ap (λ k. cond (q a) 1 0 + k) (passing-same p q (a + 1) n (λ b low high. h b (omega arith) (omega arith)))
    ∙ sym (passing-more q a n)

none-pass : (a n : ℕ) → passing (λ b. false) a n ≡ 0
none-pass a zero = refl
none-pass a (suc n) = passing-more (λ b. false) a n ∙ ap (λ k. 0 + k) (none-pass (a + 1) n)

all-pass : (a n : ℕ) → passing (λ b. true) a n ≡ n
all-pass a zero = refl
all-pass a (suc n) = passing-more (λ b. true) a n ∙ ap (λ k. 1 + k) (all-pass (a + 1) n) ∙ omega arith

passing-split : (p : ℕ → Bool) (a m n : ℕ) → passing p a (m + n) ≡ passing p a m + passing p (a + m) n
passing-split p a zero n =
    let length_is : 0 + n ≡ n = omega arith in
    let from : a ≡ a + 0 = omega arith in
    let added : passing p (a + 0) n ≡ 0 + passing p (a + 0) n = omega arith in
    ap (passing p a) length_is ∙ ap (λ s. passing p s n) from ∙ added
passing-split p a (suc m) n =
    let length_is : suc m + n ≡ suc (m + n) = omega arith in
    let from : a + 1 + m ≡ a + suc m = omega arith in
    let one = cond (p a) 1 0 in
    let added : one + (passing p (a + 1) m + passing p (a + suc m) n) ≡ (one + passing p (a + 1) m) + passing p (a + suc m) n = omega arith in
    ap (passing p a) length_is
    ∙ passing-more p a (m + n)
    ∙ ap (λ k. one + k) (passing-split p (a + 1) m n ∙ ap (λ s. passing p (a + 1) m + passing p s n) from)
    ∙ added
    ∙ ap (λ k. k + passing p (a + suc m) n) (sym (passing-more p a m))

-- ---- the beats of terms

early-none : (end before beat : ℕ) (l : Latest (List ℕ)) (ts : List (Stretch (List ℕ))) → AreBegun end before ts → beat < before → paired beat l ts ≡ false
early-none end before beat l [] h early = refl
early-none end before beat l (t ∷ ts) h early =
    let order : nat_le before t.from ≡ true = h.0 in
    let begun : before ≤ t.from = grind (arith, nat_tests, order) in
    ap (λ b. ((b && nat_lt beat t.until) && nat_lt beat (rival l t.actor)) || paired beat (with_stretch l t.actor t.until) ts) (lt-leb t.from beat (omega arith))
    ∙ early-none end t.from beat (with_stretch l t.actor t.until) ts h.2 (omega arith)

-- where a term has a beat with those so far
meets-in : (beat : ℕ) (l : Latest (List ℕ)) (t : Stretch (List ℕ)) → t.from ≤ beat → beat < t.until → beat < rival l t.actor → meets beat l t ≡ true
meets-in beat l t begun ahead met =
    ap (λ b. (b && nat_lt beat t.until) && nat_lt beat (rival l t.actor)) (le-leb t.from beat begun)
    ∙ ap (λ b. b && nat_lt beat (rival l t.actor)) (lt-ltb beat t.until ahead) ∙ lt-ltb beat (rival l t.actor) met

meets-out : (beat : ℕ) (l : Latest (List ℕ)) (t : Stretch (List ℕ)) → min t.until (rival l t.actor) ≤ beat → meets beat l t ≡ false
meets-out beat l t late = by (nat_le t.from beat) (nat_lt beat t.until) refl (nat_lt beat (rival l t.actor)) refl
  where
    by : (a b : Bool) → nat_lt beat t.until ≡ b → (c : Bool) → nat_lt beat (rival l t.actor) ≡ c → ((a && b) && c) ≡ false
    by false b e c f = refl
    by true false e c f = refl
    by true true e false f = refl
    by true true e true f = absurd (let ahead : beat < t.until = grind (arith, nat_tests, e) in let met : beat < rival l t.actor = grind (arith, nat_tests, f) in omega arith)

-- those of terms in the order in which they begin, from a beat on
beats-counted : (stop end since before : ℕ) (l : Latest (List ℕ)) (ts : List (Stretch (List ℕ))) → end < stop → since ≤ stop → l.beside ≤ l.until → AreBegun end before ts
    → beats_from stop since l ts ≡ passing (λ beat. paired beat l ts) since (stop - since)
beats-counted stop end since before l [] within room small h = sym (none-pass since (stop - since))
beats-counted stop end since before l (t ∷ ts) within room small h =
    let begun : t.from ≤ end = (let order : nat_le t.from end ≡ true = h.1 in grind (arith, nat_tests, order)) in
    let from = max since t.from in
    let last = shared_end stop from l t in
    let next = with_stretch l t.actor t.until in
    let p = λ (beat : ℕ). paired beat l (t ∷ ts) in
    let q = λ (beat : ℕ). paired beat next ts in
    let from_in : from ≤ stop = omega arith in
    let behind : from ≤ last = omega arith in
    let last_in : last ≤ stop = omega arith in
    let to_from : since + (from - since) ≡ from = omega arith in
    let to_last : from + (last - from) ≡ last = omega arith in
    let all : stop - since ≡ (from - since) + ((last - from) + (stop - last)) = omega arith in
    let before_all : passing p since (from - since) ≡ 0
    = passing-same p (λ b. false) since (from - since) (λ b low high. early b (omega arith)) ∙ none-pass since (from - since) in
    let shared : passing p from (last - from) ≡ last - from
    = passing-same p (λ b. true) from (last - from) (λ b low high. ap (λ m. m || q b) (meets-in b l t (omega arith) (omega arith) (omega arith))) ∙ all-pass from (last - from) in
    let later : passing p last (stop - last) ≡ passing q last (stop - last)
    = passing-same p q last (stop - last) (λ b low high. ap (λ m. m || q b) (meets-out b l t (omega arith))) in
    let ih = beats-counted stop end last t.from next ts within last_in (small-with l t.actor t.until small) h.2 in
    sym
    (ap (passing p since) all
    ∙ passing-split p since (from - since) ((last - from) + (stop - last))
    ∙ ap (λ k. k + passing p (since + (from - since)) ((last - from) + (stop - last))) before_all
    ∙ ap (λ s. 0 + passing p s ((last - from) + (stop - last))) to_from
    ∙ ap (λ k. 0 + k)
    (passing-split p from (last - from) (stop - last)
    ∙ ap (λ k. k + passing p (from + (last - from)) (stop - last)) shared
    ∙ ap (λ s. (last - from) + passing p s (stop - last)) to_last
    ∙ ap (λ k. (last - from) + k) (later ∙ sym ih))
    ∙ zero-first ((last - from) + beats_from stop last next ts))
  where
    zero-first : (n : ℕ) → 0 + n ≡ n
    zero-first n = omega arith

    early : (beat : ℕ) → beat < t.from → paired beat l (t ∷ ts) ≡ false
    early beat low = early-none end t.from beat l (t ∷ ts) (le-leb t.from t.from (omega arith), h.1, h.2) low

-- of a trace
pub beats-of-two-counted : (end : ℕ) (ls : List (Line (List ℕ)))
    → beats_of_two (end + 1) (acting (end + 1) ls) ≡ count_by (λ beat. two_act beat (acting (end + 1) ls)) (range_with_len 0 (end + 1))
unfolding beats_of_two
beats-of-two-counted end ls =
    let all = acting (end + 1) ls in
    let begun = acting-begun end ls in
    let whole : end + 1 - 0 ≡ end + 1 = omega arith in
    beats-counted (end + 1) end 0 0 none_yet all (omega arith) (omega arith) (omega arith) begun
    ∙ ap (passing (λ beat. paired beat none_yet all) 0) whole
    ∙ passing-same (λ beat. paired beat none_yet all) (λ beat. two_act beat all) 0 (end + 1)
    (λ beat low high. paired-is end beat 0 none_yet all (omega arith) begun ∙ ap (λ b. b || two_act beat all) (none-met beat all))
