-- What was found in the lines of a trace stands behind one line more.
use Rattle.std.proofs.Common.{◌≡◌, ℕ, zero, suc, ◌+◌, nat_le, nat_lt, Bool, true, false, cond, not, ◌&&◌, ◌||◌, List, [], ◌∷◌, ◌++◌, length, count_by, map, min, max, slice_get, Option, Some, None, Result, Ok, Err, OnOk, refl, sym, ap, subst, ◌∙◌, arith}
use Rattle.std.specs.List.{filter, flat_map, list_any}
use Rattle.std.specs.Str.{bytes_eq}
use Rattle.std.proofs.lemmas.Bool.Decides.{nat_tests}
use Rattle.std.proofs.lemmas.List.Sums.{sum_by-cons}
use Rattle.std.proofs.lemmas.Slice.Eq.{bytes_eq-Decides}
use Rattle.trace_terms.specs.declared.nearest.Span.{Span}
use Rattle.trace_terms.specs.declared.review.Review.{Review}
use Rattle.trace_terms.specs.declared.role.Role.{Role}
use Rattle.trace_terms.specs.declared.role.Role.TheVariants.{Leads, Taints, Idles}
use Rattle.trace_terms.specs.declared.seat.Seat.{Seat}
use Rattle.trace_terms.specs.Entries.{Entry}
use Rattle.trace_terms.specs.Terms.{Term, terms, term_of, ended, own, is_lead, is_taint}
use Rattle.trace_terms.specs.Findings.{earlier, least, numbers, crosses, crossed, outside_term, outside, strays, breaking, unspaced, unspaced_acts, zones_of, rate_of, start_of, taints_of}
use Rattle.trace_terms.specs.Near.{another, begun_before, live, others, IsFirst, IsOther, NearestStands}
use Rattle.trace_terms.specs.Seats.{blank, after, SeatStands, AllSit, AreAfter, Once, first_acting}
use Rattle.trace_terms.specs.Reviews.{ReviewStands, Led, Played}
use Rattle.trace_terms.proofs.Least.{least-append}
use Rattle.trace_terms.proofs.NearLaws.{TermsAfter, TermsInOrder, another-first, terms-after, terms-in-order, crossed-first}
use Rattle.trace_terms.proofs.StrayLaws.{first-stray}
use Rattle.trace_terms.proofs.SeatLaws.{blank-sits, seat-other, seat-led, seat-idles, seat-after, own-after}
use Rattle.trace_terms.proofs.SeatsLaws.{all-sit-map, all-sit-set, all-sit-push, all-sit-at, held-at}

-- ---- counts

count-more : (p : Entry → Bool) (e : Entry) (es : List Entry) → cond (p e) 1 0 + count_by p es ≡ count_by p (e ∷ es)
count-more p e es = sym (sum_by-cons (λ x. cond (p x) 1 0) e es)

zero-plus : (n : ℕ) → n ≡ 0 + n
zero-plus n = omega arith

-- ---- terms

terms-same : (stop : ℕ) (e : Entry) (es : List Entry) → is_lead e.role ≡ false → terms stop (e ∷ es) ≡ terms stop es
unfolding terms
terms-same stop e es denied = ap (λ b. cond b (term_of stop e es ∷ terms stop es) (terms stop es)) denied

terms-more : (stop : ℕ) (e : Entry) (es : List Entry) → is_lead e.role ≡ true → terms stop (e ∷ es) ≡ term_of stop e es ∷ terms stop es
unfolding terms
terms-more stop e es granted = ap (λ b. cond b (term_of stop e es ∷ terms stop es) (terms stop es)) granted

-- ---- a term that crosses

dead : (from to c d : ℕ) → nat_lt from to ≡ false → nat_lt (max from c) (min to d) ≡ false
dead from to c d denied = grind (arith, nat_tests)

and-false : (b : Bool) → (b && false) ≡ false
and-false true = refl
and-false false = refl

crosses-none : (t : Term) (ts : List Term) → nat_lt t.from t.to ≡ false → filter (crosses t) ts ≡ []
crosses-none t [] denied = refl
crosses-none t (u ∷ us) denied =
    let miss : crosses t u ≡ false = ap (λ b. not (bytes_eq t.actor u.actor) && b) (dead t.from t.to u.from u.to denied) ∙ and-false (not (bytes_eq t.actor u.actor)) in
    ap (λ b. cond b (u ∷ filter (crosses t) us) (filter (crosses t) us)) miss ∙ crosses-none t us denied

-- ---- acting outside

late-outside : (from to line : ℕ) (acts : List Entry) → AreAfter from line acts
    → filter (λ a. not (nat_le from a.beat && nat_lt a.beat to)) acts ≡ filter (λ a. nat_le to a.beat) acts
late-outside from to line [] h = refl
late-outside from to line (a ∷ acts) h =
    let test : not (nat_le from a.beat && nat_lt a.beat to) ≡ nat_le to a.beat =
    ap (λ b. not (b && nat_lt a.beat to)) h.0 ∙ opposite a.beat to in
    ap (λ b. cond b (a ∷ filter (λ a. not (nat_le from a.beat && nat_lt a.beat to)) acts) (filter (λ a. not (nat_le from a.beat && nat_lt a.beat to)) acts)) test
    ∙ ap (λ l. cond (nat_le to a.beat) (a ∷ l) l) (late-outside from to line acts h.2)
  where
    opposite : (a to : ℕ) → not (nat_lt a to) ≡ nat_le to a
    opposite a to = grind (arith, nat_tests)

-- ---- a line of no lead

-- the other fields where the terms stay
with_seats : (millis end : ℕ) (e : Entry) (es : List Entry) (old new : Review) → is_lead e.role ≡ false → AreAfter e.beat e.line es → ReviewStands millis end es old
    → new.millis ≡ old.millis → new.end ≡ old.end → new.actors ≡ old.actors → new.nearest ≡ old.nearest → new.findings ≡ old.findings
    → new.leads ≡ old.leads → new.taints ≡ cond (is_taint e.role) 1 0 + old.taints
    → AllSit (SeatStands (end + 1) (e ∷ es)) old.actors new.seats.items
    → ((who : List ℕ) → list_any (bytes_eq who) old.actors ≡ false → SeatStands (end + 1) (e ∷ es) who (blank (end + 1)))
    → ReviewStands millis end (e ∷ es) new
with_seats millis end e es old new denied later h m n a near f leads taints seats absent = record {
  millis_is = m ∙ h.millis_is;
  end_is = n ∙ h.end_is;
  order = (later, h.order);
  once = subst Once (sym a) h.once;
  seats = subst (λ ks. AllSit (SeatStands (end + 1) (e ∷ es)) ks new.seats.items) (sym a) seats;
  absent = subst (λ ks. (who : List ℕ) → list_any (bytes_eq who) ks ≡ false → SeatStands (end + 1) (e ∷ es) who (blank (end + 1))) (sym a) absent;
  nearest = subst (λ ts. NearestStands new.actors ts new.nearest) (sym (terms-same (end + 1) e es denied))
      (subst (λ ks. NearestStands ks (terms (end + 1) es) new.nearest) (sym a) (subst (λ x. NearestStands old.actors (terms (end + 1) es) x) (sym near) h.nearest));
  crossed_is = ap (λ x. x.crossed) f ∙ h.crossed_is ∙ ap (λ ts. least (crossed ts)) (sym (terms-same (end + 1) e es denied));
  outside_is = ap (λ x. x.outside) f ∙ h.outside_is ∙ ap (λ ts. least (flat_map outside_term ts)) (sym (terms-same (end + 1) e es denied));
  unspaced_is = ap (λ x. x.unspaced) f ∙ h.unspaced_is ∙ ap (λ ts. least (unspaced millis ts)) (sym (terms-same (end + 1) e es denied));
  leads_is = leads ∙ h.leads_is ∙ zero-plus (count_by (λ e. is_lead e.role) es) ∙ ap (λ b. cond b 1 0 + count_by (λ e. is_lead e.role) es) (sym denied)
      ∙ count-more (λ e. is_lead e.role) e es;
  taints_is = taints ∙ ap (λ n. cond (is_taint e.role) 1 0 + n) h.taints_is ∙ count-more (λ e. is_taint e.role) e es;
}

-- who isn't held isn't the actor of a line whose actor is
not-held : (ks : List (List ℕ)) (place : ℕ) (a who : List ℕ) → slice_get ks place ≡ Some a → list_any (bytes_eq who) ks ≡ false → bytes_eq a who ≡ false
not-held ks place a who at denied = by (bytes_eq a who) refl
  where
    by : (b : Bool) → bytes_eq a who ≡ b → bytes_eq a who ≡ false
    by false e = e
    by true e =
        let same : a ≡ who = (bytes_eq-Decides a who).0 e in
        absurd (let bad : true ≡ false = sym (held-at ks a place at) ∙ subst (λ w. list_any (bytes_eq w) ks ≡ false) (sym same) denied in cc)

same-bytes : (a : List ℕ) → bytes_eq a a ≡ true
same-bytes a = (bytes_eq-Decides a a).1 refl

-- ---- a lead

near-more : (actors : List (List ℕ)) (t : Term) (ts : List Term) (old : Review) (place : ℕ) → Once actors → slice_get actors place ≡ Some t.actor
    → NearestStands actors ts old.nearest → (b : Bool) → nat_lt t.from t.to ≡ b
    → NearestStands actors (t ∷ ts) (cond b (record { first = Some (record { who = place; from = t.from; line = t.line }); other = another old.nearest place }) old.nearest)
near-more actors t ts old place once at h true e = record {
  first = subst (λ c. IsFirst actors (cond c (t ∷ live ts) (live ts)) (Some (record { who = place; from = t.from; line = t.line }))) (sym e) (record { who = at; from = refl; line = refl });
  other = subst (λ c. IsOther actors (cond c (t ∷ live ts) (live ts)) (another old.nearest place)) (sym e)
      (another-first actors (live ts) old.nearest.first old.nearest.other place t.actor once at h.first h.other);
}
near-more actors t ts old place once at h false e = record {
  first = subst (λ c. IsFirst actors (cond c (t ∷ live ts) (live ts)) old.nearest.first) (sym e) h.first;
  other = subst (λ c. IsOther actors (cond c (t ∷ live ts) (live ts)) old.nearest.other) (sym e) h.other;
}

crossed-more : (actors : List (List ℕ)) (t : Term) (ts : List Term) (old : Review) (place : ℕ) → Once actors → slice_get actors place ≡ Some t.actor
    → NearestStands actors ts old.nearest → TermsAfter t.from t.line ts → TermsInOrder ts → (b : Bool) → nat_lt t.from t.to ≡ b
    → cond b (earlier (begun_before t.to (another old.nearest place)) (least (crossed ts))) (least (crossed ts)) ≡ least (crossed (t ∷ ts))
unfolding crossed
crossed-more actors t ts old place once at h later order true e =
    ap (λ l. earlier l (least (crossed ts)))
    (sym (crossed-first actors t ts (another old.nearest place) later order (another-first actors (live ts) old.nearest.first old.nearest.other place t.actor once at h.first h.other)))
    ∙ sym (least-append (map (λ u. u.line) (filter (crosses t) ts)) (crossed ts))
crossed-more actors t ts old place once at h later order false e =
    ap (λ l. least (map (λ u. u.line) l ++ crossed ts)) (sym (crosses-none t ts e))

outside-more : (stop : ℕ) (e : Entry) (es : List Entry) (s : Seat) → AreAfter e.beat e.line es → SeatStands stop es e.actor s
    → earlier s.late (least (flat_map outside_term (terms stop es))) ≡ least (flat_map outside_term (term_of stop e es ∷ terms stop es))
outside-more stop e es s later sits =
    ap (λ l. earlier l (least (flat_map outside_term (terms stop es))))
    (sits.late ∙ ap (λ l. least (numbers l)) (sym (late-outside e.beat (ended stop e.actor es) e.line (own e.actor es) (own-after e.beat e.line e.actor es later))))
    ∙ sym (least-append (outside_term (term_of stop e es)) (flat_map outside_term (terms stop es)))

breaking-seat : (millis : ℕ) (acts : List Entry) (s : Seat) → s.rate ≡ rate_of acts → s.zones ≡ zones_of acts → s.start ≡ start_of acts → s.taints ≡ taints_of acts
    → breaking millis s.rate (length s.zones) s.start s.taints ≡ unspaced_acts millis acts
unfolding unspaced_acts
breaking-seat millis acts s r z b t =
    ap (λ n. breaking millis n (length s.zones) s.start s.taints) r ∙ ap (λ l. breaking millis (rate_of acts) (length l) s.start s.taints) z
    ∙ ap (λ o. breaking millis (rate_of acts) (length (zones_of acts)) o s.taints) b ∙ ap (λ l. breaking millis (rate_of acts) (length (zones_of acts)) (start_of acts) l) t

unspaced-more : (millis stop : ℕ) (e : Entry) (es : List Entry) (s : Seat) → SeatStands stop es e.actor s
    → earlier (least (breaking millis s.rate (length s.zones) s.start s.taints)) (least (unspaced millis (terms stop es))) ≡ least (unspaced millis (term_of stop e es ∷ terms stop es))
unspaced-more millis stop e es s sits =
    ap (λ l. earlier (least l) (least (unspaced millis (terms stop es)))) (breaking-seat millis (own e.actor es) s sits.rate sits.zones sits.start sits.taints)
    ∙ sym (least-append (unspaced_acts millis (own e.actor es)) (unspaced millis (terms stop es)))

pub review-led : (millis end place : ℕ) (e : Entry) (es : List Entry) (old new : Review) → e.role ≡ Leads → AreAfter e.beat e.line es
    → slice_get old.actors place ≡ Some e.actor → Led place e.beat e.line old new → ReviewStands millis end es old → ReviewStands millis end (e ∷ es) new
review-led millis end place e es old new is later at led h = by (all-sit-at (SeatStands (end + 1) es) e.actor old.actors old.seats.items place at h.seats)
  where
    granted : is_lead e.role ≡ true
    granted = ap (λ r. is_lead r) is

    by : (s : Seat) × (slice_get old.seats.items place ≡ Some s) × SeatStands (end + 1) es e.actor s → ReviewStands millis end (e ∷ es) new
    by (s, get, sits) = record {
      millis_is = led.millis ∙ h.millis_is;
      end_is = led.end ∙ h.end_is;
      order = (later, h.order);
      once = subst Once (sym led.actors) h.once;
      seats = subst (λ ks. AllSit (SeatStands (end + 1) (e ∷ es)) ks new.seats.items) (sym led.actors)
          (subst (λ ss. AllSit (SeatStands (end + 1) (e ∷ es)) old.actors ss) (sym (led.seats s get))
          (all-sit-set (SeatStands (end + 1) es) (SeatStands (end + 1) (e ∷ es)) e.actor old.actors old.seats.items place (blank s.to) h.once at
          (λ k t other p. seat-other (end + 1) k e es t other p) (seat-led (end + 1) e.actor e es s is (same-bytes e.actor) sits) h.seats));
      absent = subst (λ ks. (who : List ℕ) → list_any (bytes_eq who) ks ≡ false → SeatStands (end + 1) (e ∷ es) who (blank (end + 1))) (sym led.actors)
          (λ who denied. seat-other (end + 1) who e es (blank (end + 1)) (not-held old.actors place e.actor who at denied) (h.absent who denied));
      nearest = subst (λ ts. NearestStands new.actors ts new.nearest) (sym (terms-more (end + 1) e es granted))
          (subst (λ ks. NearestStands ks (term_of (end + 1) e es ∷ terms (end + 1) es) new.nearest) (sym led.actors)
          (subst (λ n. NearestStands old.actors (term_of (end + 1) e es ∷ terms (end + 1) es) n) (sym (led.nearest s get ∙ to_near s sits))
          (near-more old.actors (term_of (end + 1) e es) (terms (end + 1) es) old place h.once at h.nearest (nat_lt e.beat (ended (end + 1) e.actor es)) refl)));
      crossed_is = ap (λ x. x.crossed) (led.findings s get) ∙ to_crossed s sits
          ∙ crossed-more old.actors (term_of (end + 1) e es) (terms (end + 1) es) old place h.once at h.nearest (terms-after (end + 1) e.beat e.line es later) (terms-in-order (end + 1) es h.order)
          (nat_lt e.beat (ended (end + 1) e.actor es)) refl
          ∙ ap (λ ts. least (crossed ts)) (sym (terms-more (end + 1) e es granted));
      outside_is = ap (λ x. x.outside) (led.findings s get) ∙ ap (λ l. earlier s.late l) h.outside_is ∙ outside-more (end + 1) e es s later sits
          ∙ ap (λ ts. least (flat_map outside_term ts)) (sym (terms-more (end + 1) e es granted));
      unspaced_is = ap (λ x. x.unspaced) (led.findings s get) ∙ ap (λ m. earlier (least (breaking m s.rate (length s.zones) s.start s.taints)) old.findings.unspaced) h.millis_is
          ∙ ap (λ l. earlier (least (breaking millis s.rate (length s.zones) s.start s.taints)) l) h.unspaced_is
          ∙ unspaced-more millis (end + 1) e es s sits ∙ ap (λ ts. least (unspaced millis ts)) (sym (terms-more (end + 1) e es granted));
      leads_is = led.leads ∙ ap (λ n. n + 1) h.leads_is ∙ one-lead ∙ count-more (λ e. is_lead e.role) e es;
      taints_is = led.taints ∙ h.taints_is ∙ no-taint ∙ count-more (λ e. is_taint e.role) e es;
    }
      where
        to_near : (s : Seat) → SeatStands (end + 1) es e.actor s
            → cond (nat_lt e.beat s.to) (record { first = Some (record { who = place; from = e.beat; line = e.line }); other = another old.nearest place }) old.nearest
            ≡ cond (nat_lt e.beat (ended (end + 1) e.actor es)) (record { first = Some (record { who = place; from = e.beat; line = e.line }); other = another old.nearest place }) old.nearest
        to_near s sits = ap (λ n. cond (nat_lt e.beat n) (record { first = Some (record { who = place; from = e.beat; line = e.line }); other = another old.nearest place }) old.nearest) sits.until

        to_crossed : (s : Seat) → SeatStands (end + 1) es e.actor s
            → cond (nat_lt e.beat s.to) (earlier (begun_before s.to (another old.nearest place)) old.findings.crossed) old.findings.crossed
            ≡ cond (nat_lt e.beat (ended (end + 1) e.actor es)) (earlier (begun_before (ended (end + 1) e.actor es) (another old.nearest place)) (least (crossed (terms (end + 1) es)))) (least (crossed (terms (end + 1) es)))
        to_crossed s sits =
            ap (λ n. cond (nat_lt e.beat n) (earlier (begun_before n (another old.nearest place)) old.findings.crossed) old.findings.crossed) sits.until
            ∙ ap (λ l. cond (nat_lt e.beat (ended (end + 1) e.actor es)) (earlier (begun_before (ended (end + 1) e.actor es) (another old.nearest place)) l) l) h.crossed_is

        one-lead : count_by (λ e. is_lead e.role) es + 1 ≡ cond (is_lead e.role) 1 0 + count_by (λ e. is_lead e.role) es
        one-lead = let n : count_by (λ e. is_lead e.role) es + 1 ≡ 1 + count_by (λ e. is_lead e.role) es = omega arith in n ∙ ap (λ b. cond b 1 0 + count_by (λ e. is_lead e.role) es) (sym granted)

        no-taint : count_by (λ e. is_taint e.role) es ≡ cond (is_taint e.role) 1 0 + count_by (λ e. is_taint e.role) es
        no-taint = let n : count_by (λ e. is_taint e.role) es ≡ 0 + count_by (λ e. is_taint e.role) es = omega arith in n ∙ ap (λ r. cond (is_taint r) 1 0 + count_by (λ e. is_taint e.role) es) (sym is)

-- ---- other lines

pub review-idles : (millis end : ℕ) (e : Entry) (es : List Entry) (r : Review) → e.role ≡ Idles → AreAfter e.beat e.line es → ReviewStands millis end es r
    → ReviewStands millis end (e ∷ es) r
review-idles millis end e es r is later h =
    with_seats millis end e es r r (ap (λ x. is_lead x) is) later h refl refl refl refl refl refl none
    (all-sit-map (SeatStands (end + 1) es) (SeatStands (end + 1) (e ∷ es)) r.actors r.seats.items (λ k s held p. seat-idles (end + 1) k e es s is p) h.seats)
    (λ who denied. seat-idles (end + 1) who e es (blank (end + 1)) is (h.absent who denied))
  where
    none : r.taints ≡ cond (is_taint e.role) 1 0 + r.taints
    none = let n : r.taints ≡ 0 + r.taints = omega arith in n ∙ ap (λ x. cond (is_taint x) 1 0 + r.taints) (sym is)

-- the same with another count of taints
counted : (millis end place n : ℕ) (e : Entry) (es : List Entry) (old new : Review) → is_lead e.role ≡ false → AreAfter e.beat e.line es
    → slice_get old.actors place ≡ Some e.actor → Played place e.beat e.line e.role old new → n ≡ cond (is_taint e.role) 1 0 + old.taints
    → ReviewStands millis end es old → ReviewStands millis end (e ∷ es) (record new { taints = n })
counted millis end place n e es old new denied later at p count h =
    by (all-sit-at (SeatStands (end + 1) es) e.actor old.actors old.seats.items place at h.seats)
  where
    by : (s : Seat) × (slice_get old.seats.items place ≡ Some s) × SeatStands (end + 1) es e.actor s → ReviewStands millis end (e ∷ es) (record new { taints = n })
    by (s, get, sits) =
        with_seats millis end e es old (record new { taints = n }) denied later h p.millis p.end p.actors p.nearest p.findings p.leads count
        (subst (λ ss. AllSit (SeatStands (end + 1) (e ∷ es)) old.actors ss) (sym (p.seats s get))
        (all-sit-set (SeatStands (end + 1) es) (SeatStands (end + 1) (e ∷ es)) e.actor old.actors old.seats.items place (after e.role e.beat e.line s) h.once at
        (λ k t other q. seat-other (end + 1) k e es t other q) (seat-after (end + 1) e.actor e.role e es s refl denied later (same-bytes e.actor) sits) h.seats))
        (λ who out. seat-other (end + 1) who e es (blank (end + 1)) (not-held old.actors place e.actor who at out) (h.absent who out))

pub review-plays : (millis end place : ℕ) (e : Entry) (es : List Entry) (old new : Review) → is_lead e.role ≡ false → is_taint e.role ≡ false → AreAfter e.beat e.line es
    → slice_get old.actors place ≡ Some e.actor → Played place e.beat e.line e.role old new → ReviewStands millis end es old → ReviewStands millis end (e ∷ es) new
review-plays millis end place e es old new denied plain later at p h =
    counted millis end place new.taints e es old new denied later at p
    (p.taints ∙ zero-plus old.taints ∙ ap (λ b. cond b 1 0 + old.taints) (sym plain)) h

pub review-taints : (millis end place : ℕ) (e : Entry) (es : List Entry) (old new : Review) → is_lead e.role ≡ false → is_taint e.role ≡ true → AreAfter e.beat e.line es
    → slice_get old.actors place ≡ Some e.actor → Played place e.beat e.line e.role old new → ReviewStands millis end es old
    → ReviewStands millis end (e ∷ es) (record new { taints = new.taints + 1 })
review-taints millis end place e es old new denied taints later at p h =
    counted millis end place (new.taints + 1) e es old new denied later at p
    (ap (λ n. n + 1) p.taints ∙ turned old.taints ∙ ap (λ b. cond b 1 0 + old.taints) (sym taints)) h
  where
    turned : (n : ℕ) → n + 1 ≡ 1 + n
    turned n = omega arith

-- ---- one identity more

get-front : (ks : List (List ℕ)) (k a : List ℕ) (n : ℕ) → slice_get ks n ≡ Some a → slice_get (ks ++ k ∷ []) n ≡ Some a
get-front [] k a n at = absurd (let denied : None ≡ Some a = at in cc)
get-front (j ∷ ks) k a zero at = at
get-front (j ∷ ks) k a (suc n) at = get-front ks k a n at

first-grown : (ks : List (List ℕ)) (k : List ℕ) (ts : List Term) (s : Option Span) → IsFirst ks ts s → IsFirst (ks ++ k ∷ []) ts s
first-grown ks k [] None h = tt
first-grown ks k [] (Some s) h = absurd h
first-grown ks k (t ∷ ts) None h = absurd h
first-grown ks k (t ∷ ts) (Some s) h = record { who = get-front ks k t.actor s.who h.who; from = h.from; line = h.line }

other-grown : (ks : List (List ℕ)) (k : List ℕ) (ts : List Term) (s : Option Span) → IsOther ks ts s → IsOther (ks ++ k ∷ []) ts s
other-grown ks k [] s h = h
other-grown ks k (t ∷ ts) s h = first-grown ks k (others t.actor ts) s h

not-before : (ks : List (List ℕ)) (k who : List ℕ) → list_any (bytes_eq who) (ks ++ k ∷ []) ≡ false → list_any (bytes_eq who) ks ≡ false
not-before [] k who denied = refl
not-before (j ∷ ks) k who denied = by (bytes_eq who j) denied (λ d. not-before ks k who d)
  where
    by : (b : Bool) → (b || list_any (bytes_eq who) (ks ++ k ∷ [])) ≡ false
        → (list_any (bytes_eq who) (ks ++ k ∷ []) ≡ false → list_any (bytes_eq who) ks ≡ false) → (b || list_any (bytes_eq who) ks) ≡ false
    by true denied again = absurd (let bad : true ≡ false = denied in cc)
    by false denied again = again denied

pub review-placed : (millis end : ℕ) (a : List ℕ) (es : List Entry) (old new : Review) → list_any (bytes_eq a) old.actors ≡ false
    → new.millis ≡ old.millis → new.end ≡ old.end → new.nearest ≡ old.nearest → new.findings ≡ old.findings → new.leads ≡ old.leads → new.taints ≡ old.taints
    → new.actors ≡ old.actors ++ a ∷ [] → new.seats.items ≡ old.seats.items ++ blank (old.end + 1) ∷ [] → Once new.actors
    → ReviewStands millis end es old → ReviewStands millis end es new
review-placed millis end a es old new denied m n near f leads taints actors seats once h = record {
  millis_is = m ∙ h.millis_is;
  end_is = n ∙ h.end_is;
  order = h.order;
  once = once;
  seats = subst (λ ks. AllSit (SeatStands (end + 1) es) ks new.seats.items) (sym actors)
      (subst (λ ss. AllSit (SeatStands (end + 1) es) (old.actors ++ a ∷ []) ss) (sym (seats ∙ ap (λ n. old.seats.items ++ blank (n + 1) ∷ []) h.end_is))
      (all-sit-push (SeatStands (end + 1) es) old.actors old.seats.items a (blank (end + 1)) h.seats (h.absent a denied)));
  absent = subst (λ ks. (who : List ℕ) → list_any (bytes_eq who) ks ≡ false → SeatStands (end + 1) es who (blank (end + 1))) (sym actors)
      (λ who out. h.absent who (not-before old.actors a who out));
  nearest = subst (λ ks. NearestStands ks (terms (end + 1) es) new.nearest) (sym actors)
      (subst (λ x. NearestStands (old.actors ++ a ∷ []) (terms (end + 1) es) x) (sym near) (record {
        first = first-grown old.actors a (live (terms (end + 1) es)) old.nearest.first h.nearest.first;
        other = other-grown old.actors a (live (terms (end + 1) es)) old.nearest.other h.nearest.other;
      }));
  crossed_is = ap (λ x. x.crossed) f ∙ h.crossed_is;
  outside_is = ap (λ x. x.outside) f ∙ h.outside_is;
  unspaced_is = ap (λ x. x.unspaced) f ∙ h.unspaced_is;
  leads_is = leads ∙ h.leads_is;
  taints_is = taints ∙ h.taints_is;
}

-- ---- at the front

pub nothing-stands : (millis end : ℕ) (r : Review) → r.millis ≡ millis → r.end ≡ end → r.actors ≡ [] → r.seats.items ≡ [] → r.nearest ≡ record { first = None; other = None }
    → r.findings ≡ record { crossed = None; outside = None; unspaced = None } → r.leads ≡ 0 → r.taints ≡ 0 → ReviewStands millis end [] r
unfolding terms crossed ended own
nothing-stands millis end r m n actors seats near f leads taints = record {
  millis_is = m;
  end_is = n;
  order = tt;
  once = subst Once (sym actors) tt;
  seats = subst (λ ks. AllSit (SeatStands (end + 1) []) ks r.seats.items) (sym actors) (subst (λ ss. AllSit (SeatStands (end + 1) []) [] ss) (sym seats) tt);
  absent = λ who out. blank-sits (end + 1);
  nearest = subst (λ x. NearestStands r.actors [] x) (sym near) (record { first = tt; other = refl });
  crossed_is = ap (λ x. x.crossed) f;
  outside_is = ap (λ x. x.outside) f;
  unspaced_is = ap (λ x. x.unspaced) f;
  leads_is = leads;
  taints_is = taints;
}

-- the first line outside
pub first-outside : (millis end : ℕ) (es : List Entry) (r : Review) → ReviewStands millis end es r
    → earlier r.findings.outside (first_acting r.seats.items) ≡ least (outside es (terms (end + 1) es))
first-outside millis end es r h =
    ap (λ l. earlier l (first_acting r.seats.items)) h.outside_is
    ∙ ap (λ l. earlier (least (flat_map outside_term (terms (end + 1) es))) l) (first-stray (end + 1) es r.actors r.seats.items h.seats h.absent)
    ∙ sym (least-append (flat_map outside_term (terms (end + 1) es)) (numbers (strays es)))

-- ---- by the role that the code has

pub plays-as : {T E : Type 0} (millis end place line beat : ℕ) (actor : List ℕ) (role given : Role (List ℕ)) (es : List Entry) (old new : Review) (result : Result T E)
    → role ≡ given → is_lead given ≡ false → is_taint given ≡ false → AreAfter beat line es → slice_get old.actors place ≡ Some actor → ReviewStands millis end es old
    → OnOk result (Played place beat line given old new)
    → OnOk result (ReviewStands millis end (record { line = line; beat = beat; actor = actor; role = role } ∷ es) new)
plays-as millis end place line beat actor role given es old new (Ok x) is denied plain later at h p =
    subst (λ r. ReviewStands millis end (record { line = line; beat = beat; actor = actor; role = r } ∷ es) new) (sym is)
    (review-plays millis end place (record { line = line; beat = beat; actor = actor; role = given }) es old new denied plain later at p h)
plays-as millis end place line beat actor role given es old new (Err e) is denied plain later at h p = p

pub taints-as : (millis end place line beat : ℕ) (actor : List ℕ) (role : Role (List ℕ)) (es : List Entry) (old new : Review) → role ≡ Taints
    → AreAfter beat line es → slice_get old.actors place ≡ Some actor → Played place beat line Taints old new
    → ReviewStands millis end es old → ReviewStands millis end (record { line = line; beat = beat; actor = actor; role = role } ∷ es) (record new { taints = new.taints + 1 })
taints-as millis end place line beat actor role es old new is later at p h =
    subst (λ r. ReviewStands millis end (record { line = line; beat = beat; actor = actor; role = r } ∷ es) (record new { taints = new.taints + 1 })) (sym is)
    (review-taints millis end place (record { line = line; beat = beat; actor = actor; role = Taints }) es old new refl refl later at p h)
