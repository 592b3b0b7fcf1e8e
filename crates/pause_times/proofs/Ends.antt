-- The end of the pause, or stall, that a beat lies in is that of the last one that has begun.
use Rattle.std.proofs.Common.{◌≡◌, ◌<◌, ◌≤◌, ℕ, zero, suc, ◌+◌, ◌-◌, ◌++◌, ◌&&◌, nat_le, nat_lt, leb, Bool, true, false, List, [], ◌∷◌, Option, Some, None, length, get_or, take, append_assoc, refl, is_some, sym, ap, ◌∙◌, subst, leb-true, leb-false, arith}
use denote.Param.Members.{Mut}
use denote.Ref.{Bor}
use Rattle.std.specs.Fn.{Called, ComputesKey}
use Rattle.std.specs.List.Sorted.{IsPartitionedBy, IsPartitionPoint, IsNonDecreasingBy}
use Rattle.std.proofs.lemmas.List.Sorted.{IsPartitionPoint-from_clause, IsPartitionedBy-leb}
use Rattle.std.proofs.lemmas.Bool.{ltb-true, ltb-false}
use Rattle.std.proofs.lemmas.List.{append-nil, take_more}
use Rattle.kube_base.specs.declared.numbers.Beat.{Beat}
use Rattle.kube_objects.specs.declared.script.Event.{Event}
use Rattle.kube_objects.specs.declared.script.What.{What}
use Rattle.kube_objects.specs.Document.{Doc}
use Rattle.kube_objects.specs.Newest.{has, when}
use Rattle.kube_objects.specs.Pauses.{pause_of, end_of, last_end, pause_end, wait_of, last_wait, reading_of, can_at}
use Rattle.kube_objects.specs.Stalls.{stall_of, stall_end}
use Rattle.kube_objects.proofs.Pauses.{or_earlier, both_none}
use Rattle.history.specs.Sound.{IsApart}
use Rattle.history.proofs.Pauses.{EndsApartFrom, EndsApart, pauses_apart, stalls_apart}
use Rattle.pause_times.specs.declared.pauses.Pauses.{Pauses}
use Rattle.pause_times.specs.declared.spans.Pause.{Pause}
use Rattle.pause_times.specs.declared.stalls.Stalls.{Stalls}
use Rattle.pause_times.specs.Owned.{beat_of, pause_from, spans_of, pauses_of, stalls_in, stalls_of, PausesStand, StallsStand}
use Rattle.pause_times.specs.Spans.{end_in, last_in, AreInOrder}

earlier-none : (x : Option ℕ) → x ≡ or_earlier x None
earlier-none None = refl
earlier-none (Some k) = refl

-- ---- what the list says

last-is : (lasts : What → Option ℕ) (k : ℕ) (es : List Event) → last_in k (spans_of lasts es) ≡ last_end lasts k es
last-is lasts k [] = refl
last-is lasts k (e ∷ es) = cases (last-is lasts k es) (lasts e.what)
  where
    cases : last_in k (spans_of lasts es) ≡ last_end lasts k es → (o : Option ℕ) → last_in k (pause_from e.beat o ++ spans_of lasts es) ≡ or_earlier (last_end lasts k es) (end_of k e.beat.0 o)
    cases rest None = rest ∙ earlier-none (last_end lasts k es)
    cases rest (Some beats) = ap (λ o. or_earlier o (end_of k e.beat.0 (Some beats))) rest

pub ends-are : (doc : Doc) (p k : ℕ) (x : Pauses) → PausesStand doc p x → last_in k x.all.items ≡ pause_end doc p k
ends-are doc p k x s = ap (last_in k) s.all ∙ last-is (pause_of p) k doc.events

pub stalls-are : (doc : Doc) (k : ℕ) (x : Stalls) → StallsStand doc x → last_in k x.all.items ≡ stall_end doc k
stalls-are doc k x s = ap (last_in k) s.all ∙ last-is stall_of k doc.events

stalls-more : (es : List Event) (e : Event) → stalls_of (es ++ e ∷ []) ≡ stalls_of es ++ stalls_in e
stalls-more [] e = append-nil (stalls_in e)
stalls-more (x ∷ xs) e = ap (λ ps. stalls_in x ++ ps) (stalls-more xs e) ∙ sym (append_assoc (stalls_in x) (stalls_of xs) (stalls_in e))

pub stalls-taken : (old new : List Pause) (es : List Event) (n : ℕ) (e : Event) → n < length es → e ≡ get_or es n e → old ≡ stalls_of (take n es) → new ≡ old ++ stalls_in e → new ≡ stalls_of (take (n + 1) es)
stalls-taken old new es n e within is before more =
    more
    ∙ ap (λ xs. xs ++ stalls_in e) before
    ∙ sym (stalls-more (take n es) e)
    ∙ ap stalls_of (sym (take_more es n e within ∙ ap (λ y. take n es ++ y ∷ []) (sym is)))

-- ---- they are in order

begins-later : (lasts : What → Option ℕ) (at n : ℕ) (w : What) (es : List Event) → EndsApartFrom lasts at w es → lasts w ≡ Some n → (i : ℕ) (d : Pause) → i < length (spans_of lasts es) → at + n ≤ (get_or (spans_of lasts es) i d).begins.0
begins-later lasts at n w [] apart is i d lt = absurd (omega (arith, lt))
begins-later lasts at n w (e ∷ es) apart is i d lt =
    cases (begins-later lasts at n w es apart.1 is) (lasts e.what) (subst (λ o. IsApart at o e.beat.0 (lasts e.what)) is apart.0) i lt
  where
    cases : ((i : ℕ) (d : Pause) → i < length (spans_of lasts es) → at + n ≤ (get_or (spans_of lasts es) i d).begins.0) → (o : Option ℕ) → IsApart at (Some n) e.beat.0 o → (i : ℕ) → i < length (pause_from e.beat o ++ spans_of lasts es) → at + n ≤ (get_or (pause_from e.beat o ++ spans_of lasts es) i d).begins.0
    cases rest None later i lt = rest i d lt
    cases rest (Some m) later zero lt = omega (arith, later)
    cases rest (Some m) later (suc i) lt = rest i d (omega (arith, lt))

in-order : (lasts : What → Option ℕ) (es : List Event) → EndsApart lasts es → AreInOrder (spans_of lasts es)
in-order lasts [] apart = tt
in-order lasts (e ∷ es) apart = cases (in-order lasts es apart.1) (lasts e.what) refl
  where
    cases : AreInOrder (spans_of lasts es) → (o : Option ℕ) → lasts e.what ≡ o → AreInOrder (pause_from e.beat o ++ spans_of lasts es)
    cases rest None is = rest
    cases rest (Some n) is = (omega arith, begins-later lasts e.beat.0 n e.what es apart.0 is, rest)

pub pauses-in_order : (doc : Doc) (p : ℕ) (x : Pauses) → PausesStand doc p x → AreInOrder x.all.items
pauses-in_order doc p x s = subst AreInOrder (sym s.all) (in-order (pause_of p) doc.events (pauses_apart p doc.events s.apart))

pub stalls-in_order : (doc : Doc) (x : Stalls) → StallsStand doc x → AreInOrder x.all.items
stalls-in_order doc x s = subst AreInOrder (sym s.all) (in-order stall_of doc.events (stalls_apart doc.events s.apart))

pub rising : (xs : List Pause) → AreInOrder xs → IsNonDecreasingBy (λ (x : Pause). x.begins.0) xs
rising [] o i j d below inside = absurd (omega (arith, inside))
rising (x ∷ xs) o zero zero d below inside = omega arith
rising (x ∷ xs) o zero (suc j) d below inside = omega (arith, o.0, o.1 j d (omega (arith, inside)))
rising (x ∷ xs) o (suc i) zero d below inside = absurd (omega (arith, below))
rising (x ∷ xs) o (suc i) (suc j) d below inside = rising xs o.2 i j d (omega (arith, below)) (omega (arith, inside))

-- ---- the last one that has begun

-- the pauses from n on are those that haven't begun
abbrev pub AreBegun : List Pause → ℕ → ℕ → Type 0
AreBegun xs k n = IsPartitionPoint (λ x. leb x.begins.0 k ≡ true) (λ x. leb x.begins.0 k ≡ false) xs n

-- what the search found of pauses in order
pub begun-found : {F : Type 0} {g : Mut F (Bor Pause × Unit {0}) Bool} {f : F} (xs : List Pause) (k n : ℕ) → AreInOrder xs
    → ((q : Pause → Bool) → ComputesKey g q f → IsPartitionedBy q xs → IsPartitionPoint (λ y. q y ≡ true) (λ y. q y ≡ false) xs n)
    → ((a : Bor Pause × Unit {0}) (r : Bool) (f' : F) → Called g f a r f' → (r ≡ leb a.0.now.begins.0 k) × (f' ≡ f)) → AreBegun xs k n
begun-found xs k n order point calls =
    IsPartitionPoint-from_clause (λ (x : Pause). leb x.begins.0 k) xs n point (IsPartitionedBy-leb (λ (x : Pause). x.begins.0) xs k (rising xs order)) calls

end-early : (k : ℕ) (x : Pause) → k < x.begins.0 → end_in k x ≡ None
end-early k x lt = by_test (nat_le x.begins.0 k) refl
  where
    by_test : (b : Bool) → nat_le x.begins.0 k ≡ b → when (b && nat_lt k x.ends.0) x.ends.0 ≡ None
    by_test true is = absurd (omega (arith, lt, leb-true x.begins.0 k is))
    by_test false is = refl

pub end-over : (k : ℕ) (x : Pause) → x.ends.0 ≤ k → end_in k x ≡ None
end-over k x le = by_tests (nat_le x.begins.0 k) (nat_lt k x.ends.0) refl
  where
    by_tests : (a b : Bool) → nat_lt k x.ends.0 ≡ b → when (a && b) x.ends.0 ≡ None
    by_tests true true is = absurd (omega (arith, le, ltb-true k x.ends.0 is))
    by_tests true false is = refl
    by_tests false b is = refl

pub end-inside : (k : ℕ) (x : Pause) → x.begins.0 ≤ k → k < x.ends.0 → end_in k x ≡ Some x.ends.0
end-inside k x le lt = by_tests (nat_le x.begins.0 k) (nat_lt k x.ends.0) refl refl
  where
    by_tests : (a b : Bool) → nat_le x.begins.0 k ≡ a → nat_lt k x.ends.0 ≡ b → when (a && b) x.ends.0 ≡ Some x.ends.0
    by_tests true true begun is = refl
    by_tests true false begun is = absurd (omega (arith, lt, ltb-false k x.ends.0 is))
    by_tests false b begun is = absurd (omega (arith, le, leb-false x.begins.0 k begun))

none-since : (xs : List Pause) (k : ℕ) → ((i : ℕ) (d : Pause) → i < length xs → k < (get_or xs i d).begins.0) → last_in k xs ≡ None
none-since [] k later = refl
none-since (x ∷ xs) k later =
    both_none (last_in k xs) (end_in k x) (none-since xs k (λ i d lt. later (suc i) d (omega (arith, lt)))) (end-early k x (later zero x (omega arith)))

last-since : (xs : List Pause) (i k : ℕ) (d : Pause) → AreInOrder xs → i < length xs → (get_or xs i d).begins.0 ≤ k → ((j : ℕ) (e : Pause) → i < j → j < length xs → k < (get_or xs j e).begins.0) → last_in k xs ≡ end_in k (get_or xs i d)
last-since [] i k d o inside begun later = absurd (omega (arith, inside))
last-since (x ∷ xs) zero k d o inside begun later =
    ap (λ a. or_earlier a (end_in k x)) (none-since xs k (λ i e lt. later (suc i) e (omega arith) (omega (arith, lt))))
last-since (x ∷ xs) (suc i) k d o inside begun later =
    let here : i < length xs = omega (arith, inside) in
    ap (λ a. or_earlier a (end_in k x)) (last-since xs i k d o.2 here begun (λ j e after lt. later (suc j) e (omega (arith, after)) (omega (arith, lt))))
    ∙ ap (or_earlier (end_in k (get_or xs i d))) (end-over k x (omega (arith, o.1 i d here, begun)))
    ∙ sym (earlier-none (end_in k (get_or xs i d)))

pub none-begun : (xs : List Pause) (k n : ℕ) → AreBegun xs k n → n ≡ 0 → last_in k xs ≡ None
none-begun xs k n begun none = none-since xs k (λ i d lt. leb-false (get_or xs i d).begins.0 k (begun.1 i d (omega (arith, none)) lt))

pub has-begun : (xs : List Pause) (k n : ℕ) (x : Pause) → AreBegun xs k n → 1 ≤ n → n ≤ length xs → x ≡ get_or xs (n - 1) x → x.begins.0 ≤ k
has-begun xs k n x begun some inside found =
    leb-true x.begins.0 k (subst (λ (y : Pause). leb y.begins.0 k ≡ true) (sym found) (begun.0 (n - 1) x (omega (arith, some)) (omega (arith, some, inside))))

pub last-begun : (xs : List Pause) (k n : ℕ) (x : Pause) → AreInOrder xs → AreBegun xs k n → 1 ≤ n → n ≤ length xs → x ≡ get_or xs (n - 1) x → last_in k xs ≡ end_in k x
last-begun xs k n x o begun some inside found =
    last-since xs (n - 1) k x o (omega (arith, some, inside)) (subst (λ (y : Pause). y.begins.0 ≤ k) found (has-begun xs k n x begun some inside found))
    (λ j e after lt. leb-false (get_or xs j e).begins.0 k (begun.1 j e (omega (arith, after)) lt))
    ∙ ap (end_in k) (sym found)

-- ---- who is never paused is never late

no-wait : (doc : Doc) (p at : ℕ) (es : List Event) → pauses_of p es ≡ [] → last_wait doc p at es ≡ None
no-wait doc p at [] none = refl
no-wait doc p at (e ∷ es) none = cases (no-wait doc p at es) (pause_of p e.what) none
  where
    cases : (pauses_of p es ≡ [] → last_wait doc p at es ≡ None) → (o : Option ℕ) → pause_from e.beat o ++ pauses_of p es ≡ [] → or_earlier (last_wait doc p at es) (wait_of doc p at e.beat.0 o) ≡ None
    cases rest None none = both_none (last_wait doc p at es) None (rest none) refl
    cases rest (Some beats) none = cc

none-left : (xs : List Pause) → length xs ≡ 0 → xs ≡ []
none-left [] is = refl
none-left (x ∷ xs) is = absurd (omega (arith, is))

pub can-idle : (doc : Doc) (p at : ℕ) (x : Pauses) → PausesStand doc p x → length x.all.items ≡ 0 → can_at doc p at ≡ at
can-idle doc p at x s none = ap (reading_of doc p at) (no-wait doc p at doc.events (sym s.all ∙ none-left x.all.items none))

-- whether there is one
pub has-end : (o : Option Beat) (at : Option ℕ) → beat_of o ≡ at → is_some o ≡ has at
has-end None at is = ap has is
has-end (Some end) at is = ap has is
