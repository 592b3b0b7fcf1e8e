-- In a trace that is safe, one identity acts at a beat.
use Rattle.std.proofs.Common.{◌≡◌, ◌⊎◌, inl, inr, ℕ, zero, suc, ◌+◌, length, nat_le, nat_lt, Bool, true, false, cond, not, ◌&&◌, List, [], ◌∷◌, ◌++◌, map, min, max, slice_get, Option, Some, None, Result, Ok, Err, IfOk, refl, sym, ap, subst, ◌∙◌, arith}
use Rattle.std.specs.List.{filter, flat_map}
use Rattle.std.specs.Str.{bytes_eq}
use Rattle.std.proofs.lemmas.Bool.Decides.{nat_tests}
use Rattle.std.proofs.lemmas.Slice.Eq.{bytes_eq-Decides}
use Rattle.trace_lines.specs.declared.header.Header.{Header}
use Rattle.trace_lines.specs.Grammar.{cut}
use Rattle.trace_lines.specs.Headers.{header_of}
use Rattle.trace_terms.specs.declared.role.Role.{Role}
use Rattle.trace_terms.specs.declared.role.Role.TheVariants.{Leads, Ends, Zones, Taints, Acts, Idles}
use Rattle.trace_terms.specs.Entries.{Entry}
use Rattle.trace_terms.specs.Terms.{Term, terms, term_of, own, own_with, is_lead, is_acting}
use Rattle.trace_terms.specs.Findings.{earlier, least, numbers, crosses, crossed, outside_term, outside, strays, unspaced}
use Rattle.trace_audit.specs.declared.audit_of.Report.{Report}
use Rattle.trace_audit.specs.declared.fault.AuditFault.{AuditFault}
use Rattle.trace_audit.specs.Entries.{lines_of, entries_of, first_wrong}
use Rattle.trace_audit.specs.Passes.{Tells}
use Rattle.trace_audit.specs.Alone.{entries_behind, entries_in, OneActs}
use Rattle.trace_audit.specs.Verdict.{Fault, unless, report, reviewed, judged, headed, split, verdict}

-- ---- elements

abbrev In : {A : Type 0} → A → List A → Type 0
In a [] = ⊥
In a (x ∷ xs) = (x ≡ a) ⊎ In a xs

in-get : (es : List Entry) (i : ℕ) (a : Entry) → slice_get es i ≡ Some a → In a es
in-get [] i a at = absurd (let bad : None ≡ Some a = at in cc)
in-get (e ∷ es) zero a at = inl (let same : Some e ≡ Some a = at in cc)
in-get (e ∷ es) (suc i) a at = inr (in-get es i a at)

in-left : {A : Type 0} (a : A) (xs ys : List A) → In a xs → In a (xs ++ ys)
in-left a [] ys h = absurd h
in-left a (x ∷ xs) ys (inl same) = inl same
in-left a (x ∷ xs) ys (inr h) = inr (in-left a xs ys h)

in-right : {A : Type 0} (a : A) (xs ys : List A) → In a ys → In a (xs ++ ys)
in-right a [] ys h = h
in-right a (x ∷ xs) ys h = inr (in-right a xs ys h)

in-map : {A B : Type 0} (f : A → B) (a : A) (xs : List A) → In a xs → In (f a) (map f xs)
in-map f a [] h = absurd h
in-map f a (x ∷ xs) (inl same) = inl (ap f same)
in-map f a (x ∷ xs) (inr h) = inr (in-map f a xs h)

in-flat : {A B : Type 0} (f : A → List B) (a : A) (b : B) (xs : List A) → In a xs → In b (f a) → In b (flat_map f xs)
in-flat f a b [] h k = absurd h
in-flat f a b (x ∷ xs) (inl same) k = in-left b (f x) (flat_map f xs) (subst (λ y. In b (f y)) (sym same) k)
in-flat f a b (x ∷ xs) (inr h) k = in-right b (f x) (flat_map f xs) (in-flat f a b xs h k)

in-filter : {A : Type 0} (p : A → Bool) (a : A) (xs : List A) → In a xs → p a ≡ true → In a (filter p xs)
in-filter p a [] h t = absurd h
in-filter p a (x ∷ xs) (inl same) t = subst (λ b. In a (cond b (x ∷ filter p xs) (filter p xs))) (sym (ap p same ∙ t)) (inl same)
in-filter p a (x ∷ xs) (inr h) t = by (p x) (in-filter p a xs h t)
  where
    by : (b : Bool) → In a (filter p xs) → In a (cond b (x ∷ filter p xs) (filter p xs))
    by true i = inr i
    by false i = i

of-filter : {A : Type 0} (p : A → Bool) (a : A) (xs : List A) → In a (filter p xs) → In a xs × (p a ≡ true)
of-filter p a [] h = absurd h
of-filter p a (x ∷ xs) h = by (p x) refl h (λ i. of-filter p a xs i)
  where
    by : (b : Bool) → p x ≡ b → In a (cond b (x ∷ filter p xs) (filter p xs)) → (In a (filter p xs) → In a xs × (p a ≡ true)) → In a (x ∷ xs) × (p a ≡ true)
    by true e (inl same) f = (inl same, ap p (sym same) ∙ e)
    by true e (inr i) f = let r = f i in (inr r.0, r.1)
    by false e i f = let r = f i in (inr r.0, r.1)

-- no line is the least of some
none-in : (n : ℕ) (ns : List ℕ) → least ns ≡ None → In n ns → ⊥
none-in n [] e h = h
none-in n (m ∷ ms) e h = some (least ms) e
  where
    some : (o : Option ℕ) → earlier (Some m) o ≡ None → ⊥
    some None e = let bad : Some m ≡ None = e in cc
    some (Some k) e = let bad : Some (min m k) ≡ None = e in cc

-- ---- bytes

same-bytes : (a b : List ℕ) → a ≡ b → bytes_eq a b ≡ true
same-bytes a b e = (bytes_eq-Decides a b).1 e

other-bytes : (a b : List ℕ) → bytes_eq a b ≡ false → bytes_eq b a ≡ false
other-bytes a b e = by (bytes_eq b a) refl
  where
    by : (c : Bool) → bytes_eq b a ≡ c → bytes_eq b a ≡ false
    by false k = k
    by true k = absurd (let bad : true ≡ false = sym (same-bytes a b (sym ((bytes_eq-Decides b a).0 k))) ∙ e in cc)

-- ---- each acting line is of a term, or has no lead before it

-- it is of a term of its actor
abbrev Held : Entry → List Term → Type 0
Held a ts = (t : Term) × In t ts × In a t.acts × (t.actor ≡ a.actor)

stray-own : (who : List ℕ) (a : Entry) (es : List Entry) → In a (strays es) → a.actor ≡ who → In a (own who es)
unfolding strays own
stray-own who a [] h is = absurd h
stray-own who a (e ∷ es) h is = by e.role (bytes_eq e.actor who) refl h (λ i. stray-own who a es i is)
  where
    mine : e ≡ a → bytes_eq e.actor who ≡ false → ⊥
    mine same other = let bad : true ≡ false = sym (same-bytes e.actor who (ap (λ x. x.actor) same ∙ is)) ∙ other in cc

    acts : (b : Bool) → bytes_eq e.actor who ≡ b → (e ≡ a) ⊎ In a (strays es) → (In a (strays es) → In a (own who es)) → In a (cond b (e ∷ own who es) (own who es))
    acts true q (inl same) f = inl same
    acts true q (inr i) f = inr (f i)
    acts false q (inl same) f = absurd (mine same q)
    acts false q (inr i) f = f i

    rests : (b : Bool) → In a (own who es) → In a (cond b (own who es) (own who es))
    rests true i = i
    rests false i = i

    leads : (b : Bool) → bytes_eq e.actor who ≡ b → In a (filter (λ x. not (bytes_eq x.actor e.actor)) (strays es)) → (In a (strays es) → In a (own who es))
        → In a (cond b [] (own who es))
    leads true q h f =
        let tested : not (bytes_eq a.actor e.actor) ≡ true = (of-filter (λ x. not (bytes_eq x.actor e.actor)) a (strays es) h).1 in
        let same : bytes_eq a.actor e.actor ≡ true = same-bytes a.actor e.actor (is ∙ sym ((bytes_eq-Decides e.actor who).0 q)) in
        absurd (let bad : false ≡ true = ap (λ b. not b) (sym same) ∙ tested in cc)
    leads false q h f = f ((of-filter (λ x. not (bytes_eq x.actor e.actor)) a (strays es) h).0)

    by : (r : Role (List ℕ)) (b : Bool) → bytes_eq e.actor who ≡ b → In a (cond (is_lead r) (filter (λ x. not (bytes_eq x.actor e.actor)) (strays es)) (cond (is_acting r) (e ∷ strays es) (strays es))) → (In a (strays es) → In a (own who es))
        → In a (cond b (own_with r e (own who es)) (own who es))
    by Leads b q h f = leads b q h f
    by Ends b q h f = rests b (f h)
    by (Zones zone rate) b q h f = acts b q h f
    by Taints b q h f = acts b q h f
    by Acts b q h f = acts b q h f
    by Idles b q h f = rests b (f h)

sheltered : (stop : ℕ) (a : Entry) (es : List Entry) → In a es → is_acting a.role ≡ true → In a (strays es) ⊎ Held a (terms stop es)
unfolding strays terms
sheltered stop a [] h acting = absurd h
sheltered stop a (e ∷ es) h acting = by e.role refl h (λ i. sheltered stop a es i acting)
  where
    idle : (r : Role (List ℕ)) → e.role ≡ r → is_acting r ≡ false → e ≡ a → ⊥
    idle r is denied same = let bad : true ≡ false = sym acting ∙ ap (λ x. is_acting x.role) (sym same) ∙ ap (λ x. is_acting x) is ∙ denied in cc

    acts : (e ≡ a) ⊎ In a es → (In a es → In a (strays es) ⊎ Held a (terms stop es)) → In a (e ∷ strays es) ⊎ Held a (terms stop es)
    acts (inl same) f = inl (inl same)
    acts (inr i) f = elim (f i) [ inl s ↦ inl (inr s) | inr t ↦ inr t ]

    rests : (r : Role (List ℕ)) → e.role ≡ r → is_acting r ≡ false → (e ≡ a) ⊎ In a es → (In a es → In a (strays es) ⊎ Held a (terms stop es)) → In a (strays es) ⊎ Held a (terms stop es)
    rests r is denied (inl same) f = absurd (idle r is denied same)
    rests r is denied (inr i) f = f i

    -- a stray line becomes one of the term, where it is of the leader
    turns : In a (strays es) → (b : Bool) → bytes_eq a.actor e.actor ≡ b
        → In a (filter (λ x. not (bytes_eq x.actor e.actor)) (strays es)) ⊎ Held a (term_of stop e es ∷ terms stop es)
    turns s true q =
        let same : a.actor ≡ e.actor = (bytes_eq-Decides a.actor e.actor).0 q in
        inr (term_of stop e es, inl refl, stray-own e.actor a es s same, sym same)
    turns s false q = inl (in-filter (λ x. not (bytes_eq x.actor e.actor)) a (strays es) s (ap (λ b. not b) q))

    leads : e.role ≡ Leads → (e ≡ a) ⊎ In a es → (In a es → In a (strays es) ⊎ Held a (terms stop es))
        → In a (filter (λ x. not (bytes_eq x.actor e.actor)) (strays es)) ⊎ Held a (term_of stop e es ∷ terms stop es)
    leads is (inl same) f = absurd (idle Leads is refl same)
    leads is (inr i) f = elim (f i) [ inl s ↦ turns s (bytes_eq a.actor e.actor) refl | inr t ↦ inr (t.0, inr t.1, t.2, t.3) ]

    by : (r : Role (List ℕ)) → e.role ≡ r → (e ≡ a) ⊎ In a es → (In a es → In a (strays es) ⊎ Held a (terms stop es))
        → In a (cond (is_lead r) (filter (λ x. not (bytes_eq x.actor e.actor)) (strays es)) (cond (is_acting r) (e ∷ strays es) (strays es))) ⊎ Held a (cond (is_lead r) (term_of stop e es ∷ terms stop es) (terms stop es))
    by Leads is h f = leads is h f
    by Ends is h f = rests Ends is refl h f
    by (Zones zone rate) is h f = acts h f
    by Taints is h f = acts h f
    by Acts is h f = acts h f
    by Idles is h f = rests Idles is refl h f

-- ---- in the span of its term

-- the beat is one of the term's
abbrev Spans : Term → ℕ → Type 0
Spans t beat = (nat_le t.from beat && nat_lt beat t.to) ≡ true

spans : (t : Term) (a : Entry) (es : List Entry) (ts : List Term) → least (outside es ts) ≡ None → In t ts → In a t.acts → Spans t a.beat
spans t a es ts none i m = by (nat_le t.from a.beat && nat_lt a.beat t.to) refl
  where
    by : (b : Bool) → (nat_le t.from a.beat && nat_lt a.beat t.to) ≡ b → Spans t a.beat
    by true e = e
    by false e =
        let out : In a (filter (λ x. not (nat_le t.from x.beat && nat_lt x.beat t.to)) t.acts) =
        in-filter (λ x. not (nat_le t.from x.beat && nat_lt x.beat t.to)) a t.acts m (ap (λ b. not b) e) in
        absurd (none-in a.line (outside es ts) none
        (in-left a.line (flat_map outside_term ts) (numbers (strays es)) (in-flat outside_term t a.line ts i (in-map (λ x. x.line) a (filter (λ x. not (nat_le t.from x.beat && nat_lt x.beat t.to)) t.acts) out))))

-- an acting line is in the span of a term of its actor
abbrev Acting : Entry → List Term → Type 0
Acting a ts = (t : Term) × In t ts × Spans t a.beat × (t.actor ≡ a.actor)

acts-in : (stop : ℕ) (a : Entry) (es : List Entry) → least (outside es (terms stop es)) ≡ None → In a es → is_acting a.role ≡ true → Acting a (terms stop es)
acts-in stop a es none i acting = by (sheltered stop a es i acting)
  where
    by : In a (strays es) ⊎ Held a (terms stop es) → Acting a (terms stop es)
    by (inl s) = absurd (none-in a.line (outside es (terms stop es)) none
        (in-right a.line (flat_map outside_term (terms stop es)) (numbers (strays es)) (in-map (λ x. x.line) a (strays es) s)))
    by (inr t) = (t.0, t.1, spans t.0 a es (terms stop es) none t.1 t.2, t.3)

-- ---- terms that share a beat

cross-at : (t u : Term) (beat : ℕ) → bytes_eq t.actor u.actor ≡ false → Spans t beat → Spans u beat → crosses t u ≡ true
cross-at t u beat other s r = ap (λ b. not b && nat_lt (max t.from u.from) (min t.to u.to)) other ∙ shared t.from t.to u.from u.to s r
  where
    shared : (a b c d : ℕ) → (nat_le a beat && nat_lt beat b) ≡ true → (nat_le c beat && nat_lt beat d) ≡ true → nat_lt (max a c) (min b d) ≡ true
    shared a b c d s r = grind (arith, nat_tests)

crossed-in : (t u : Term) (ts : List Term) → bytes_eq t.actor u.actor ≡ false → crosses t u ≡ true → crosses u t ≡ true → In t ts → In u ts → (n : ℕ) × In n (crossed ts)
unfolding crossed
crossed-in t u [] other c d h k = absurd h
crossed-in t u (x ∷ xs) other c d (inl a) (inl b) =
    absurd (let bad : true ≡ false = sym (same-bytes t.actor u.actor (ap (λ y. y.actor) (sym a ∙ b))) ∙ other in cc)
crossed-in t u (x ∷ xs) other c d (inl a) (inr k) =
    (u.line, in-left u.line (map (λ y. y.line) (filter (crosses x) xs)) (crossed xs) (in-map (λ y. y.line) u (filter (crosses x) xs) (in-filter (crosses x) u xs k (ap (λ y. crosses y u) a ∙ c))))
crossed-in t u (x ∷ xs) other c d (inr h) (inl b) =
    (t.line, in-left t.line (map (λ y. y.line) (filter (crosses x) xs)) (crossed xs) (in-map (λ y. y.line) t (filter (crosses x) xs) (in-filter (crosses x) t xs h (ap (λ y. crosses y t) b ∙ d))))
crossed-in t u (x ∷ xs) other c d (inr h) (inr k) =
    let n = crossed-in t u xs other c d h k in (n.0, in-right n.0 (map (λ y. y.line) (filter (crosses x) xs)) (crossed xs) n.1)

-- ---- one identity

pub one-actor : (stop : ℕ) (es : List Entry) (a b : Entry) → least (crossed (terms stop es)) ≡ None → least (outside es (terms stop es)) ≡ None
    → In a es → In b es → is_acting a.role ≡ true → is_acting b.role ≡ true → a.beat ≡ b.beat → a.actor ≡ b.actor
one-actor stop es a b apart inside i j x y beat = by (bytes_eq a.actor b.actor) refl (acts-in stop a es inside i x) (acts-in stop b es inside j y)
  where
    by : (c : Bool) → bytes_eq a.actor b.actor ≡ c → Acting a (terms stop es) → Acting b (terms stop es) → a.actor ≡ b.actor
    by true e t u = (bytes_eq-Decides a.actor b.actor).0 e
    by false e t u =
        let other : bytes_eq t.0.actor u.0.actor ≡ false = ap (λ w. bytes_eq w u.0.actor) t.3 ∙ ap (λ w. bytes_eq a.actor w) u.3 ∙ e in
        let late : Spans t.0 b.beat = subst (λ k. Spans t.0 k) beat t.2 in
        let n = crossed-in t.0 u.0 (terms stop es) other (cross-at t.0 u.0 b.beat other late u.2)
        (cross-at u.0 t.0 b.beat (other-bytes t.0.actor u.0.actor other) u.2 late) t.1 u.1 in
        absurd (none-in n.0 (crossed (terms stop es)) apart n.1)

-- ---- of a text

unless-ok : {A : Type 0} (code : ℕ) (o : Option ℕ) (rest : Result A Fault) (x : A) → unless code o rest ≡ Ok x → (o ≡ None) × (rest ≡ Ok x)
unless-ok code None rest x e = (refl, e)
unless-ok code (Some line) rest x e = absurd (let bad : Err (record { code = code; line = line }) ≡ Ok x = e in cc)

judged-alone : (header : Header) (lines : List (List ℕ)) (r : Report) → judged header lines ≡ Ok r → OneActs (entries_of 2 lines)
unfolding judged reviewed
judged-alone header lines r e i j a b at bt x y beat =
    let es = entries_of 2 lines in
    let ts = terms (header.end + 1) es in
    let one = unless-ok 40 (first_wrong header.end 2 0 lines) (reviewed header.beat_millis (header.end + 1) (length lines) es) r e in
    let two = unless-ok 41 (least (crossed ts)) (unless 42 (least (outside es ts)) (unless 43 (least (unspaced header.beat_millis ts)) (Ok (report (length lines) es)))) r one.1 in
    let three = unless-ok 42 (least (outside es ts)) (unless 43 (least (unspaced header.beat_millis ts)) (Ok (report (length lines) es))) r two.1 in
    one-actor (header.end + 1) es a b two.0 three.0 (in-get es i a at) (in-get es j b bt) x y beat

-- in a trace that gets a report one identity acts at a beat
pub accepted-alone : (text : List ℕ) (r : Report) → verdict text ≡ Ok r → OneActs (entries_in text)
unfolding verdict
accepted-alone text r e = by (cut 10 text) e
  where
    with_header : (parts : List ℕ × List ℕ) (o : Option Header) → headed o parts.1 ≡ Ok r → OneActs (entries_of 2 (lines_of parts.1))
    with_header parts None e = absurd (let bad : Err (record { code = 40; line = 1 }) ≡ Ok r = e in cc)
    with_header parts (Some header) e = judged-alone header (lines_of parts.1) r e

    by : (o : Option (List ℕ × List ℕ)) → split o ≡ Ok r → OneActs (entries_behind o)
    by None e = absurd (let bad : Err (record { code = 40; line = 1 }) ≡ Ok r = e in cc)
    by (Some parts) e = with_header parts (header_of parts.0) e

pub told-alone : (text : List ℕ) (r : Result Report AuditFault) → Tells r (verdict text) → IfOk r (λ report. OneActs (entries_in text))
told-alone text (Ok report) h = accepted-alone text report h
told-alone text (Err fault) h = tt
