-- A beat lies in a stretch of an identity exactly where the identity acts.
use Rattle.std.proofs.Common.{◌≡◌, ℕ, zero, suc, ◌+◌, ◌≤◌, ◌<◌, ◌==◌, ◌&&◌, ◌||◌, not, nat_le, nat_lt, max, min, Bool, true, false, cond, List, [], ◌∷◌, filter, filter_map, Option, Some, None, refl, sym, ap, ◌∙◌, ◌⊎◌, inl, inr, arith}
use Rattle.std.specs.List.{list_any}
use Rattle.std.specs.Str.{bytes_eq}
use Rattle.std.proofs.lemmas.Bool.{cases_lt, le-leb, lt-leb, lt-ltb, le-ltb}
use Rattle.std.proofs.lemmas.Bool.Decides.{nat_tests}
use Rattle.std.proofs.lemmas.List.Folds.{list_any-append}
use Rattle.std.proofs.lemmas.Slice.Eq.{bytes_eq-Decides}
use Rattle.trace_audit.specs.Entries.{first_wrong}
use Rattle.trace_lines.specs.declared.line.Line.{Line}
use Rattle.trace_lines.specs.Forms.{line_of}
use Rattle.lens_terms.specs.declared.closing.Closing.{Closing}
use Rattle.lens_terms.specs.declared.standing.Standing.{Standing}
use Rattle.lens_terms.specs.declared.stretch.Stretch.{Stretch}
use Rattle.lens_terms.specs.declared.term.Term.{Term}
use Rattle.lens_terms.specs.declared.turn.Turn.{Turn}
use Rattle.lens_terms.specs.declared.turn.Turn.TheVariants.{Leads, Ends, Pauses, Keeps}
use Rattle.lens_terms.specs.Acting.{Standings, stands_still, is_paused, has_term, acts, interrupted, interrupted_by, nothing_known, with_line, standing_by, begins_by, stretch, stretches, by_beat, acting}
use Rattle.lens_terms.specs.Beats.{is_of}
use Rattle.lens_terms.specs.Terms.{turn_of, closing, closing_by, term_of, begun_by, terms, until_by}
use Rattle.lens_trace.proofs.SpanLaws.{AreOrdered, lines-ordered}

-- ---- the order of stretches makes no difference

any-filter : (p q : Stretch (List ℕ) → Bool) (all : List (Stretch (List ℕ))) → list_any p (filter q all) ≡ list_any (λ s. q s && p s) all
any-filter p q [] = refl
any-filter p q (s ∷ all) = by (q s) (any-filter p q all)
  where
    by : (b : Bool) → list_any p (filter q all) ≡ list_any (λ s. q s && p s) all → list_any p (cond b (s ∷ filter q all) (filter q all)) ≡ ((b && p s) || list_any (λ s. q s && p s) all)
    by true h = ap (λ x. p s || x) h
    by false h = h

any-like : (p q : Stretch (List ℕ) → Bool) → ((s : Stretch (List ℕ)) → p s ≡ q s) → (all : List (Stretch (List ℕ))) → list_any p all ≡ list_any q all
any-like p q h [] = refl
any-like p q h (s ∷ all) = ap (λ b. b || list_any p all) (h s) ∙ ap (λ b. q s || b) (any-like p q h all)

any-none : (p : Stretch (List ℕ) → Bool) → ((s : Stretch (List ℕ)) → p s ≡ false) → (all : List (Stretch (List ℕ))) → list_any p all ≡ false
any-none p h [] = refl
any-none p h (s ∷ all) = ap (λ b. b || list_any p all) (h s) ∙ any-none p h all

four : (a b x y : Bool) → ((a || x) || (b || y)) ≡ ((a || b) || (x || y))
four true b x y = refl
four false true true y = refl
four false true false y = refl
four false false x y = refl

any-or : (p q : Stretch (List ℕ) → Bool) (all : List (Stretch (List ℕ))) → (list_any p all || list_any q all) ≡ list_any (λ s. p s || q s) all
any-or p q [] = refl
any-or p q (s ∷ all) = four (p s) (q s) (list_any p all) (list_any q all) ∙ ap (λ b. (p s || q s) || b) (any-or p q all)

or-and : (a b c x : Bool) → c ≡ (a || b) → ((a && x) || (b && x)) ≡ (c && x)
or-and true true c true e = sym (ap (λ c. c && true) e)
or-and true true c false e = sym (ap (λ c. c && false) e)
or-and true false c true e = sym (ap (λ c. c && true) e)
or-and true false c false e = sym (ap (λ c. c && false) e)
or-and false b c x e = sym (ap (λ c. c && x) e)

lt-next : (m n : ℕ) → nat_lt m (suc n) ≡ (nat_lt m n || (m == n))
lt-next m n = grind (arith, nat_tests)

none-before : (m : ℕ) (b : Bool) → (nat_lt m 0 && b) ≡ false
none-before m b = ap (λ a. a && b) (le-ltb m 0 (omega arith))

any-by_beat : (p : Stretch (List ℕ) → Bool) (n : ℕ) (all : List (Stretch (List ℕ))) → list_any p (by_beat n all) ≡ list_any (λ s. nat_lt s.from n && p s) all
unfolding by_beat
any-by_beat p zero all = sym (any-none (λ s. nat_lt s.from 0 && p s) (λ s. none-before s.from (p s)) all)
any-by_beat p (suc n) all =
    list_any-append p (by_beat n all) (filter (λ s. s.from == n) all)
    ∙ ap (λ b. b || list_any p (filter (λ s. s.from == n) all)) (any-by_beat p n all)
    ∙ ap (λ b. list_any (λ s. nat_lt s.from n && p s) all || b) (any-filter p (λ s. s.from == n) all)
    ∙ any-or (λ s. nat_lt s.from n && p s) (λ s. (s.from == n) && p s) all
    ∙ any-like (λ s. (nat_lt s.from n && p s) || ((s.from == n) && p s)) (λ s. nat_lt s.from (suc n) && p s)
    (λ s. or-and (nat_lt s.from n) (s.from == n) (nat_lt s.from (suc n)) (p s) (lt-next s.from n)) all

within-has : (a e l u : Bool) → (l ≡ true → a ≡ true) → (a && (e && (l && u))) ≡ (e && (l && u))
within-has true e l u h = refl
within-has false false l u h = refl
within-has false true false u h = refl
within-has false true true u h = absurd (let no : false ≡ true = h refl in cc)

any-acting : (stop beat : ℕ) (who : List ℕ) (all : List (Stretch (List ℕ))) → beat < stop → list_any (is_of beat who) (by_beat stop all) ≡ list_any (is_of beat who) all
any-acting stop beat who all below =
    any-by_beat (is_of beat who) stop all
    ∙ any-like (λ s. nat_lt s.from stop && is_of beat who s) (is_of beat who)
    (λ s. within-has (nat_lt s.from stop) (bytes_eq s.actor who) (nat_le s.from beat) (nat_lt beat s.until)
    (λ e. lt-ltb s.from stop (let low : s.from ≤ beat = grind (arith, nat_tests, e) in omega (arith, low, below)))) all

-- ---- before the first of some lines

-- at a beat before a line's it stands still by none of them, and nothing begins
module _ (stop end beat : ℕ) (who : List ℕ) (below : beat < stop) (last : stop ≡ end + 1) where
  late : (b m : ℕ) → nat_le b m ≡ true → beat < b → beat < m
  late b m e h = let le : b ≤ m = grind (arith, nat_tests, e) in omega (arith, le, h)

  before-stop : (m : ℕ) → nat_le m end ≡ true → m ≤ stop
  before-stop m e = let le : m ≤ end = grind (arith, nat_tests, e) in omega (arith, le, last)

  not-interrupted : (b : ℕ) (ls : List (Line (List ℕ))) → AreOrdered end b ls → beat < b → beat < interrupted stop who ls
  unfolding interrupted
  not-interrupted b [] h early = below
  not-interrupted b (l ∷ ls) h early = by (bytes_eq l.actor who) (turn_of l.says) (late b l.beat h.0 early) (not-interrupted l.beat ls h.2 (late b l.beat h.0 early))
    where
      by : (eq : Bool) (turn : Turn) → beat < l.beat → beat < interrupted stop who ls → beat < cond eq (interrupted_by stop l.beat turn (interrupted stop who ls)) (interrupted stop who ls)
      by false turn here more = more
      by true Leads here more = more
      by true (Ends how) here more = omega (arith, here, below)
      by true (Pauses beats) here more = omega (arith, here, below)
      by true Keeps here more = more

  not-closed : (b : ℕ) (ls : List (Line (List ℕ))) → AreOrdered end b ls → beat < b → beat < until_by stop (closing who ls)
  unfolding closing
  not-closed b [] h early = below
  not-closed b (l ∷ ls) h early = by (bytes_eq l.actor who) (turn_of l.says) (late b l.beat h.0 early) (not-closed l.beat ls h.2 (late b l.beat h.0 early))
    where
      by : (eq : Bool) (turn : Turn) → beat < l.beat → beat < until_by stop (closing who ls) → beat < until_by stop (cond eq (closing_by l.beat turn (closing who ls)) (closing who ls))
      by false turn here more = more
      by true Leads here more = more
      by true (Ends how) here more = here
      by true (Pauses beats) here more = more
      by true Keeps here more = more

  no-pause : (b : ℕ) (ls : List (Line (List ℕ))) → AreOrdered end b ls → beat < b → is_paused beat who ls ≡ false
  no-pause b [] h early = refl
  no-pause b (l ∷ ls) h early = by (bytes_eq l.actor who) (turn_of l.says) (late b l.beat h.0 early) (no-pause l.beat ls h.2 (late b l.beat h.0 early))
    where
      by : (eq : Bool) (turn : Turn) → beat < l.beat → is_paused beat who ls ≡ false → ((eq && stands_still beat l.beat turn) || is_paused beat who ls) ≡ false
      by false turn here more = more
      by true Leads here more = more
      by true (Ends how) here more = more
      by true (Pauses beats) here more = ap (λ b. (b && nat_lt beat (l.beat + beats)) || is_paused beat who ls) (lt-leb l.beat beat here) ∙ more
      by true Keeps here more = more

  no-term : (number b : ℕ) (ls : List (Line (List ℕ))) → AreOrdered end b ls → beat < b → list_any (has_term stop beat who) (terms number ls) ≡ false
  unfolding terms
  no-term number b [] h early = refl
  no-term number b (l ∷ ls) h early = by (turn_of l.says) (late b l.beat h.0 early) (no-term (number + 1) l.beat ls h.2 (late b l.beat h.0 early))
    where
      none : (eq u : Bool) → (eq && (false && u)) ≡ false
      none true u = refl
      none false u = refl

      by : (turn : Turn) → beat < l.beat → list_any (has_term stop beat who) (terms (number + 1) ls) ≡ false
          → list_any (has_term stop beat who) (begun_by turn (term_of number l ls) (terms (number + 1) ls)) ≡ false
      by Leads here more =
          ap (λ b. (bytes_eq l.actor who && (b && nat_lt beat (until_by stop (closing l.actor ls)))) || list_any (has_term stop beat who) (terms (number + 1) ls)) (lt-leb l.beat beat here)
          ∙ ap (λ b. b || list_any (has_term stop beat who) (terms (number + 1) ls)) (none (bytes_eq l.actor who) (nat_lt beat (until_by stop (closing l.actor ls))))
          ∙ more
      by (Ends how) here more = more
      by (Pauses beats) here more = more
      by Keeps here more = more

  -- what a line begins
  abbrev begun : ℕ → List ℕ → ℕ → Option ℕ → Bool
  begun number actor until begins = list_any (is_of beat who) (stretch number actor until begins)

  begun-is : (number until from : ℕ) (actor : List ℕ) → begun number actor until (Some from) ≡ (bytes_eq actor who && (nat_le from beat && nat_lt beat until))
  begun-is number until from actor = by (nat_lt from until) refl
    where
      or-false : (b : Bool) → (b || false) ≡ b
      or-false true = refl
      or-false false = refl

      none : (eq l u : Bool) → (l ≡ true → u ≡ false) → false ≡ (eq && (l && u))
      none false l u h = refl
      none true false u h = refl
      none true true u h = sym (h refl)

      by : (b : Bool) → nat_lt from until ≡ b
          → list_any (is_of beat who) (cond b (record { line = number; actor = actor; from = from; until = until } ∷ []) []) ≡ (bytes_eq actor who && (nat_le from beat && nat_lt beat until))
      by true e = or-false (bytes_eq actor who && (nat_le from beat && nat_lt beat until))
      by false e = none (bytes_eq actor who) (nat_le from beat) (nat_lt beat until)
          (λ f. le-ltb beat until (let low : from ≤ beat = grind (arith, nat_tests, f) in let high : until ≤ from = grind (arith, nat_tests, e) in omega (arith, low, high)))

  none-begun : (number until from : ℕ) (actor : List ℕ) → beat < from → begun number actor until (Some from) ≡ false
  none-begun number until from actor early =
      begun-is number until from actor ∙ ap (λ b. bytes_eq actor who && (b && nat_lt beat until)) (lt-leb from beat early) ∙ none (bytes_eq actor who)
    where
      none : (eq : Bool) → (eq && false) ≡ false
      none true = refl
      none false = refl

  no-stretch : (number b : ℕ) (known : Standings) (ls : List (Line (List ℕ))) → AreOrdered end b ls → beat < b → list_any (is_of beat who) (stretches stop number known ls) ≡ false
  unfolding stretches
  no-stretch number b known [] h early = refl
  no-stretch number b known (l ∷ ls) h early =
      list_any-append (is_of beat who) (stretch number l.actor (interrupted stop l.actor ls) (begins_by stop l.beat (turn_of l.says) (known l.actor))) (stretches stop (number + 1) (with_line stop l known) ls)
      ∙ ap (λ x. x || list_any (is_of beat who) (stretches stop (number + 1) (with_line stop l known) ls))
      (by (turn_of l.says) (known l.actor).leads (late b l.beat h.0 early))
      ∙ no-stretch (number + 1) l.beat (with_line stop l known) ls h.2 (late b l.beat h.0 early)
    where
      until : ℕ
      until = interrupted stop l.actor ls

      still : ℕ
      still = (known l.actor).still

      by : (turn : Turn) (leads : Bool) → beat < l.beat → begun number l.actor until (begins_by stop l.beat turn (record { leads = leads; still = still })) ≡ false
      by Leads true here = refl
      by Leads false here = none-begun number until (max l.beat still) l.actor (omega (arith, here))
      by (Ends how) leads here = refl
      by (Pauses beats) true here = none-begun number until (max still (min (l.beat + beats) stop)) l.actor (omega (arith, here, below))
      by (Pauses beats) false here = refl
      by Keeps leads here = refl

  -- ---- from the first of some lines on

  abbrev lasts : Bool → ℕ → ℕ → Bool
  lasts leads still until = leads && (nat_le still beat && nat_lt beat until)

  -- that it acts by what is known behind earlier lines and by these
  abbrev told : ℕ → Standings → List (Line (List ℕ)) → Bool
  told number known ls = lasts (known who).leads (known who).still (interrupted stop who ls) || list_any (is_of beat who) (stretches stop number known ls)

  abbrev leads_on : Bool → Option Closing → Bool
  leads_on leads c = leads && nat_lt beat (until_by stop c)

  abbrev wanted : ℕ → Standings → List (Line (List ℕ)) → Bool
  wanted number known ls =
      (leads_on (known who).leads (closing who ls) || list_any (has_term stop beat who) (terms number ls)) && (not (nat_lt beat (known who).still) && not (is_paused beat who ls))

  at-rest : (leads s t u v : Bool) → s ≡ not t → u ≡ true → v ≡ true → ((leads && (s && u)) || false) ≡ (((leads && v) || false) && (not t && not false))
  at-rest leads s t u v es eu ev =
      ap (λ s. (leads && (s && u)) || false) es ∙ ap (λ u. (leads && (not t && u)) || false) eu ∙ by leads t ∙ sym (ap (λ v. ((leads && v) || false) && (not t && not false)) ev)
    where
      by : (leads t : Bool) → ((leads && (not t && true)) || false) ≡ (((leads && true) || false) && (not t && not false))
      by true true = refl
      by true false = refl
      by false t = refl

  from-not : (m : ℕ) → nat_le m beat ≡ not (nat_lt beat m)
  from-not m = grind (arith, nat_tests)

  quiet : (number b : ℕ) (known : Standings) (ls : List (Line (List ℕ))) → AreOrdered end b ls → beat < b → told number known ls ≡ wanted number known ls
  quiet number b known ls h early =
      ap (λ x. lasts (known who).leads (known who).still (interrupted stop who ls) || x) (no-stretch number b known ls h early)
      ∙ at-rest (known who).leads (nat_le (known who).still beat) (nat_lt beat (known who).still) (nat_lt beat (interrupted stop who ls)) (nat_lt beat (until_by stop (closing who ls)))
      (from-not (known who).still) (lt-ltb beat (interrupted stop who ls) (not-interrupted b ls h early)) (lt-ltb beat (until_by stop (closing who ls)) (not-closed b ls h early))
      ∙ sym (ap (λ x. (leads_on (known who).leads (closing who ls) || x) && (not (nat_lt beat (known who).still) && not false)) (no-term number b ls h early))
      ∙ sym (ap (λ x. (leads_on (known who).leads (closing who ls) || list_any (has_term stop beat who) (terms number ls)) && (not (nat_lt beat (known who).still) && not x)) (no-pause b ls h early))

  -- ---- a line that the beat has reached

  not-reached : (b m : ℕ) → b ≤ beat → nat_lt beat (min b m) ≡ false
  not-reached b m reached = le-ltb beat (min b m) (omega (arith, reached))

  gone : (leads s u : Bool) → u ≡ false → (leads && (s && u)) ≡ false
  gone false s u e = refl
  gone true false u e = refl
  gone true true u e = e

  own-told : (number b i : ℕ) (rest : Bool) (turn : Turn) (leads : Bool) (still : ℕ) → b ≤ beat
      → (lasts leads still (interrupted_by stop b turn i) || (begun number who i (begins_by stop b turn (record { leads = leads; still = still })) || rest))
      ≡ (lasts (standing_by stop b turn (record { leads = leads; still = still })).leads (standing_by stop b turn (record { leads = leads; still = still })).still i || rest)
  own-told number b i rest Leads true still reached = refl
  own-told number b i rest Leads false still reached =
      ap (λ x. x || rest) (begun-is number i (max b still) who)
      ∙ ap (λ e. (e && (nat_le (max b still) beat && nat_lt beat i)) || rest) ((bytes_eq-Decides who who).1 refl)
      ∙ ap (λ l. (l && nat_lt beat i) || rest) (let same : nat_le (max b still) beat ≡ nat_le still beat = grind (arith, nat_tests, reached) in same)
  own-told number b i rest (Ends how) leads still reached = ap (λ x. x || rest) (gone leads (nat_le still beat) (nat_lt beat (min b stop)) (not-reached b stop reached))
  own-told number b i rest (Pauses beats) true still reached =
      ap (λ x. x || (begun number who i (Some (max still (min (b + beats) stop))) || rest)) (gone true (nat_le still beat) (nat_lt beat (min b stop)) (not-reached b stop reached))
      ∙ ap (λ x. x || rest) (begun-is number i (max still (min (b + beats) stop)) who)
      ∙ ap (λ e. (e && (nat_le (max still (min (b + beats) stop)) beat && nat_lt beat i)) || rest) ((bytes_eq-Decides who who).1 refl)
  own-told number b i rest (Pauses beats) false still reached = refl
  own-told number b i rest Keeps leads still reached = refl

  none-of-others : (number until : ℕ) (actor : List ℕ) (begins : Option ℕ) → bytes_eq actor who ≡ false → begun number actor until begins ≡ false
  none-of-others number until actor None e = refl
  none-of-others number until actor (Some from) e = begun-is number until from actor ∙ ap (λ b. b && (nat_le from beat && nat_lt beat until)) e

  told-more : (number : ℕ) (known : Standings) (l : Line (List ℕ)) (ls : List (Line (List ℕ))) → l.beat ≤ beat → told number known (l ∷ ls) ≡ told (number + 1) (with_line stop l known) ls
  unfolding interrupted stretches
  told-more number known l ls reached =
      ap (λ x. lasts s.leads s.still (cond (bytes_eq l.actor who) (interrupted_by stop l.beat (turn_of l.says) i) i) || x)
      (list_any-append (is_of beat who) (stretch number l.actor (interrupted stop l.actor ls) (begins_by stop l.beat (turn_of l.says) (known l.actor))) (stretches stop (number + 1) (with_line stop l known) ls))
      ∙ by (bytes_eq l.actor who) refl
    where
      s : Standing
      s = known who

      i : ℕ
      i = interrupted stop who ls

      rest : Bool
      rest = list_any (is_of beat who) (stretches stop (number + 1) (with_line stop l known) ls)

      by : (eq : Bool) → bytes_eq l.actor who ≡ eq
          → (lasts s.leads s.still (cond eq (interrupted_by stop l.beat (turn_of l.says) i) i)
          || (begun number l.actor (interrupted stop l.actor ls) (begins_by stop l.beat (turn_of l.says) (known l.actor)) || rest))
          ≡ (lasts (cond eq (standing_by stop l.beat (turn_of l.says) s) s).leads (cond eq (standing_by stop l.beat (turn_of l.says) s) s).still i || rest)
      by true e =
          ap (λ a. lasts s.leads s.still (interrupted_by stop l.beat (turn_of l.says) i) || (begun number a (interrupted stop a ls) (begins_by stop l.beat (turn_of l.says) (known a)) || rest))
          ((bytes_eq-Decides l.actor who).0 e)
          ∙ own-told number l.beat i rest (turn_of l.says) s.leads s.still reached
      by false e = ap (λ x. lasts s.leads s.still i || (x || rest)) (none-of-others number (interrupted stop l.actor ls) l.actor (begins_by stop l.beat (turn_of l.says) (known l.actor)) e)

  both-ways : (a b p : Bool) → (not (a || b) && not p) ≡ (not a && not (b || p))
  both-ways true b p = refl
  both-ways false true p = refl
  both-ways false false p = refl

  once-more : (leads c t : Bool) → (c || t) ≡ ((leads && c) || (c || t))
  once-more false c t = refl
  once-more true true t = refl
  once-more true false t = refl

  reach-max : (m b beats : ℕ) → nat_lt beat (max m (min (b + beats) stop)) ≡ (nat_lt beat m || nat_lt beat (b + beats))
  reach-max m b beats = grind (arith, nat_tests, below)

  abbrev begins : Turn → Bool
  begins Leads = true
  begins (Ends how) = false
  begins (Pauses beats) = false
  begins Keeps = false

  own-wanted : (b : ℕ) (c : Option Closing) (t p : Bool) (turn : Turn) (leads : Bool) (still : ℕ) (line : Bool) → b ≤ beat → line ≡ nat_lt beat (until_by stop c)
      → ((leads_on (standing_by stop b turn (record { leads = leads; still = still })).leads c || t)
      && (not (nat_lt beat (standing_by stop b turn (record { leads = leads; still = still })).still) && not p))
      ≡ ((leads_on leads (closing_by b turn c) || (cond (begins turn) (line || t) t)) && (not (nat_lt beat still) && not ((true && stands_still beat b turn) || p)))
  own-wanted b c t p Leads leads still line reached is =
      ap (λ x. x && (not (nat_lt beat still) && not p)) (once-more leads (nat_lt beat (until_by stop c)) t)
      ∙ ap (λ x. ((leads && nat_lt beat (until_by stop c)) || (x || t)) && (not (nat_lt beat still) && not p)) (sym is)
  own-wanted b c t p (Ends how) leads still line reached is =
      ap (λ x. (x || t) && (not (nat_lt beat still) && not p)) (sym (ended leads (nat_lt beat b) (le-ltb beat b reached)))
    where
      ended : (leads u : Bool) → u ≡ false → (leads && u) ≡ false
      ended true u e = e
      ended false u e = refl
  own-wanted b c t p (Pauses beats) leads still line reached is =
      ap (λ x. (leads_on leads c || t) && x)
      (ap (λ x. not x && not p) (reach-max still b beats) ∙ both-ways (nat_lt beat still) (nat_lt beat (b + beats)) p
      ∙ ap (λ x. not (nat_lt beat still) && not ((x && nat_lt beat (b + beats)) || p)) (sym (le-leb b beat reached)))
  own-wanted b c t p Keeps leads still line reached is = refl

  any-begun : (turn : Turn) (term : Term (List ℕ)) (later : List (Term (List ℕ)))
      → list_any (has_term stop beat who) (begun_by turn term later) ≡ cond (begins turn) (has_term stop beat who term || list_any (has_term stop beat who) later) (list_any (has_term stop beat who) later)
  any-begun Leads term later = refl
  any-begun (Ends how) term later = refl
  any-begun (Pauses beats) term later = refl
  any-begun Keeps term later = refl

  wanted-more : (number : ℕ) (known : Standings) (l : Line (List ℕ)) (ls : List (Line (List ℕ))) → l.beat ≤ beat → wanted (number + 1) (with_line stop l known) ls ≡ wanted number known (l ∷ ls)
  unfolding closing terms
  wanted-more number known l ls reached =
      by (bytes_eq l.actor who) refl
      ∙ sym (ap (λ x. (leads_on s.leads (cond (bytes_eq l.actor who) (closing_by l.beat turn c) c) || x) && (not (nat_lt beat s.still) && not ((bytes_eq l.actor who && stands_still beat l.beat turn) || p)))
      (any-begun turn (term_of number l ls) (terms (number + 1) ls)))
    where
      s : Standing
      s = known who

      turn : Turn
      turn = turn_of l.says

      c : Option Closing
      c = closing who ls

      t : Bool
      t = list_any (has_term stop beat who) (terms (number + 1) ls)

      p : Bool
      p = is_paused beat who ls

      both : (eq a u v : Bool) → eq ≡ true → a ≡ true → u ≡ v → (eq && (a && u)) ≡ v
      both true true u v e f g = g
      both true false u v e f g = absurd (let no : false ≡ true = f in cc)
      both false a u v e f g = absurd (let no : false ≡ true = e in cc)

      same : (b : Bool) → cond b t t ≡ t
      same true = refl
      same false = refl

      by : (eq : Bool) → bytes_eq l.actor who ≡ eq
          → ((leads_on (cond eq (standing_by stop l.beat turn s) s).leads c || t) && (not (nat_lt beat (cond eq (standing_by stop l.beat turn s) s).still) && not p))
          ≡ ((leads_on s.leads (cond eq (closing_by l.beat turn c) c) || cond (begins turn) (has_term stop beat who (term_of number l ls) || t) t)
          && (not (nat_lt beat s.still) && not ((eq && stands_still beat l.beat turn) || p)))
      by true e =
          own-wanted l.beat c t p turn s.leads s.still (has_term stop beat who (term_of number l ls)) reached
          (both (bytes_eq l.actor who) (nat_le l.beat beat) (nat_lt beat (until_by stop (closing l.actor ls))) (nat_lt beat (until_by stop c)) e (le-leb l.beat beat reached)
          (ap (λ a. nat_lt beat (until_by stop (closing a ls))) ((bytes_eq-Decides l.actor who).0 e)))
      by false e =
          sym (ap (λ x. (leads_on s.leads c || x) && (not (nat_lt beat s.still) && not p))
          (ap (λ b. cond (begins turn) ((b && (nat_le l.beat beat && nat_lt beat (until_by stop (closing l.actor ls)))) || t) t) e ∙ same (begins turn)))

  all-lines : (number b : ℕ) (known : Standings) (ls : List (Line (List ℕ))) → AreOrdered end b ls → told number known ls ≡ wanted number known ls
  unfolding interrupted closing stretches terms
  all-lines number b known [] h =
      at-rest (known who).leads (nat_le (known who).still beat) (nat_lt beat (known who).still) (nat_lt beat stop) (nat_lt beat stop)
      (from-not (known who).still) (lt-ltb beat stop below) (lt-ltb beat stop below)
  all-lines number b known (l ∷ ls) h = by (cases_lt beat l.beat) (all-lines (number + 1) l.beat (with_line stop l known) ls h.2)
    where
      by : (beat < l.beat) ⊎ (l.beat ≤ beat) → told (number + 1) (with_line stop l known) ls ≡ wanted (number + 1) (with_line stop l known) ls
          → told number known (l ∷ ls) ≡ wanted number known (l ∷ ls)
      by (inl early) rest = quiet number l.beat known (l ∷ ls) (le-leb l.beat l.beat (omega arith), h.1, h.2) early
      by (inr reached) rest = told-more number known l ls reached ∙ rest ∙ wanted-more number known l ls reached

-- of a trace without a wrong line
pub stretches-are-acts : (end : ℕ) (texts : List (List ℕ)) → first_wrong end 2 0 texts ≡ None → (beat : ℕ) → beat ≤ end → (who : List ℕ)
    → list_any (is_of beat who) (acting (end + 1) (filter_map line_of texts)) ≡ acts (end + 1) beat who (filter_map line_of texts)
unfolding acting
stretches-are-acts end texts right beat within who =
    let ls = filter_map line_of texts in
    let below : beat < end + 1 = omega (arith, within) in
    let none : nat_lt beat 0 ≡ false = le-ltb beat 0 (omega arith) in
    any-acting (end + 1) beat who (stretches (end + 1) 2 nothing_known ls) below
    ∙ all-lines (end + 1) end beat who below refl 2 0 nothing_known ls (lines-ordered end 2 0 texts right)
    ∙ ap (λ b. list_any (has_term (end + 1) beat who) (terms 2 ls) && (not b && not (is_paused beat who ls))) none
