-- Walks over nodes by their names; the cursor is the name that was looked at last.
use Rattle.std.proofs.Common.{◌≡◌, ℕ, ◌-◌, ◌<◌, true, Option, Some, None, refl, arith, Less, Equal, Greater}
use Rattle.std.proofs.lemmas.Bool.Decides.{nat_tests}
use Rattle.std.specs.Ordering.{is_lt, nat_cmp}
use Rattle.std.specs.declared.cmp.Ordering.{Ordering}
use Rattle.tick_laws.specs.Walks.{is_after}
use Rattle.term_state.specs.Queues.{ComesAfter}

pub less_is : (o : Ordering) → is_lt o ≡ true → o ≡ Less
less_is Less is = refl
less_is Equal is = absurd (cc)
less_is Greater is = absurd (cc)

pub after_is : (c : Option ℕ) (n : ℕ) → ComesAfter c n → is_after nat_cmp c n ≡ true
after_is None n later = refl
after_is (Some c) n later = grind (arith, nat_tests)

pub is_later : (c : Option ℕ) (n : ℕ) → is_after nat_cmp c n ≡ true → ComesAfter c n
is_later None n later = tt
is_later (Some c) n later = grind (arith, nat_tests)

pub comes_later : (c : Option ℕ) (n m : ℕ) → ComesAfter c n → n < m → ComesAfter c m
comes_later None n m later less = tt
comes_later (Some c) n m later less = omega (arith, later, less)

-- how many names may still come
abbrev pub names_left : Option ℕ → ℕ
names_left None = 0
names_left (Some n) = 4294967296 - n
