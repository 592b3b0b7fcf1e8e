-- The newest entry that begins a row, or passes a test in it.
use Rattle.std.proofs.Common.{◌≡◌, ◌≤◌, ℕ, Bool, true, false, List, [], ◌∷◌, length, Option, Some, None, refl, sym, ap, ◌∙◌, subst, inl, inr, arith}
use Rattle.kube_objects.specs.Entry.{Entry}
use Rattle.kube_objects.specs.Newest.{newest, when, or_else, or_zero}
use Rattle.history_laws.specs.Tails.{IsTail}
use Rattle.history_laws.proofs.Plainly.{upper, true_is}
use Rattle.row_laws.specs.Rows.{Says, holds_now, Row, IsLatest}

tail_length : (g h : List Entry) → IsTail g h → length g ≤ length h
tail_length g [] is = let same : length g ≡ 0 = ap length is in omega (arith, same)
tail_length g (e ∷ h) (inl is) = let same : length g ≡ length (e ∷ h) = ap length is in omega (arith, same)
tail_length g (e ∷ h) (inr at) = omega (arith, tail_length g h at)

-- nothing stands above the newest entry
pub none_above : (e f : Entry) (h T : List Entry) → IsTail (f ∷ T) (e ∷ h) → IsTail (e ∷ h) T → ⊥
none_above e f h T at later = omega (arith, tail_length (f ∷ T) (e ∷ h) at, tail_length (e ∷ h) T later)

-- what holds of a position of the new entry or of an old one holds of each
pub at_position : (P : Entry → List Entry → Type 0) (e : Entry) (h : List Entry) → P e h → (f : Entry) (T : List Entry) → f ∷ T ≡ e ∷ h → P f T
at_position P e h here f T is =
    let one : e ≡ f = cc in
    let two : h ≡ T = cc in
    subst (P f) two (subst (λ x. P x h) one here)

pub tail_self : (e : Entry) (h : List Entry) → IsTail (e ∷ h) (e ∷ h)
tail_self e h = inl refl

-- the first entry of a row begins it, and after it a test tells the same
module _ (says : Says) (begins test : Entry → List Entry → Bool)
    (at_first : (e : Entry) (T : List Entry) → says e T ≡ Some true → holds_now says T ≡ false → begins e T ≡ true)
    (after : (e : Entry) (T : List Entry) → holds_now says T ≡ true → ¬ (says e T ≡ Some false) → begins e T ≡ test e T) where
  abbrev newest_beat : List Entry → Option ℕ
  newest_beat h = newest (λ e T. when (begins e T) e.beat) h

  abbrev Latest : List Entry → Type 0
  Latest h = (row : Row says h) × IsLatest test h (row.e ∷ row.before) (or_zero (newest_beat h))

  begun : (e : Entry) (h : List Entry) → says e h ≡ Some true → holds_now says h ≡ false → Latest (e ∷ h)
  begun e h is new = (
    record { e = e; before = h; stands = inl refl; holds = is; new = new; on = λ f T at later. absurd (none_above e f h T at later) },
    record {
      x = e;
      before = h;
      stands = inl refl;
      from = inl refl;
      passes = inl refl;
      latest = λ f T at later. absurd (none_above e f h T at later);
      beat = ap (λ b. or_zero (upper (when b e.beat) (newest_beat h))) (at_first e h is new);
    },
  )

  more_row : (e : Entry) (h : List Entry) → ¬ (says e h ≡ Some false) → Row says h → Row says (e ∷ h)
  more_row e h on row = record { e = row.e; before = row.before; stands = inr row.stands; holds = row.holds; new = row.new; on = since }
    where
      since : (f : Entry) (T : List Entry) → IsTail (f ∷ T) (e ∷ h) → IsTail (row.e ∷ row.before) T → ¬ (says f T ≡ Some false)
      since f T (inl is) later = at_position (λ f T. ¬ (says f T ≡ Some false)) e h on f T is
      since f T (inr at) later = row.on f T at later

  goes_on : (e : Entry) (h : List Entry) → holds_now says h ≡ true → ¬ (says e h ≡ Some false) → Latest h → Latest (e ∷ h)
  unfolding more_row
  goes_on e h held on s = (more_row e h on s.0, by_test (test e h) refl)
    where
      first : List Entry
      first = s.0.e ∷ s.0.before

      by_test : (b : Bool) → test e h ≡ b → IsLatest test (e ∷ h) (s.0.e ∷ s.0.before) (or_zero (newest_beat (e ∷ h)))
      by_test true is = record {
        x = e;
        before = h;
        stands = inl refl;
        from = inr s.0.stands;
        passes = inr is;
        latest = λ f T at later. absurd (none_above e f h T at later);
        beat = ap (λ b. or_zero (upper (when b e.beat) (newest_beat h))) (after e h held on ∙ is);
      }
      by_test false is = record {
        x = s.1.x;
        before = s.1.before;
        stands = inr s.1.stands;
        from = s.1.from;
        passes = s.1.passes;
        latest = none_since;
        beat = ap (λ b. or_zero (upper (when b e.beat) (newest_beat h))) (after e h held on ∙ is) ∙ s.1.beat;
      }
        where
          none_since : (f : Entry) (T : List Entry) → IsTail (f ∷ T) (e ∷ h) → IsTail (s.1.x ∷ s.1.before) T → test f T ≡ false
          none_since f T (inl same) later = at_position (λ f T. test f T ≡ false) e h is f T same
          none_since f T (inr at) later = s.1.latest f T at later

  pub latest_of_row : (h : List Entry) → holds_now says h ≡ true → Latest h
  latest_of_row [] held = absurd (true_is (sym held))
  latest_of_row (e ∷ h) held = by_says (λ old. latest_of_row h old) (says e h) refl held
    where
      by_row : (holds_now says h ≡ true → Latest h) → says e h ≡ Some true → (b : Bool) → holds_now says h ≡ b → Latest (e ∷ h)
      by_row below is true old = goes_on e h old (λ other. some_other (sym is ∙ other)) (below old)
        where
          some_other : Some true ≡ Some false → ⊥
          some_other same = cc
      by_row below is false old = begun e h is old

      by_says : (holds_now says h ≡ true → Latest h) → (o : Option Bool) → says e h ≡ o → or_else false (upper o (newest says h)) ≡ true → Latest (e ∷ h)
      by_says below None is held = goes_on e h held (λ other. none_some (sym is ∙ other)) (below held)
        where
          none_some : None ≡ Some false → ⊥
          none_some same = cc
      by_says below (Some true) is held = by_row below is (holds_now says h) refl
      by_says below (Some false) is held = absurd (true_is (sym held))
