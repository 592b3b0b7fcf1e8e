-- What is kept of an identity stands behind one line more.
use Rattle.std.proofs.Common.{◌≡◌, ℕ, nat_le, Bool, true, false, cond, ◌&&◌, List, [], ◌∷◌, ◌++◌, map, reverse, slice_get, max, Some, refl, sym, ap, subst, ◌∙◌}
use Rattle.std.specs.List.{filter, cons_option}
use mathlib.Core.List.{reverse-cons}
use Rattle.std.specs.Str.{bytes_eq}
use Rattle.kube_base.specs.Names.{with_name}
use Rattle.trace_terms.specs.declared.mark.Mark.{Mark}
use Rattle.trace_terms.specs.declared.role.Role.{Role}
use Rattle.trace_terms.specs.declared.role.Role.TheVariants.{Leads, Ends, Zones, Taints, Acts, Idles}
use Rattle.trace_terms.specs.declared.seat.Seat.{Seat}
use Rattle.trace_terms.specs.Entries.{Entry}
use Rattle.trace_terms.specs.Terms.{ended, own, own_with, is_lead, is_end, is_acting, is_taint}
use Rattle.trace_terms.specs.Findings.{earlier, least, numbers, zone_line, zone_lines, different, greatest, taints_of, mark_of}
use Rattle.trace_terms.specs.Seats.{blank, acted, after, Sits, SeatStands, AreAfter}

-- ---- one line more

late : ℕ → List Entry → List Entry
late to acts = filter (λ a. nat_le to a.beat) acts

-- the first of the late ones with one more
late-more : (b : Bool) (e : Entry) (acts : List Entry)
    → cond b (earlier (Some e.line) (least (numbers acts))) (least (numbers acts)) ≡ least (numbers (cond b (e ∷ acts) acts))
late-more true e acts = refl
late-more false e acts = refl

acted-late : (to : ℕ) (e : Entry) (acts : List Entry) (s : Seat) → Sits to acts s
    → (acted e.beat e.line s).late ≡ least (numbers (filter (λ a. nat_le to a.beat) (e ∷ acts)))
acted-late to e acts s h =
    ap (λ t. cond (nat_le t e.beat) (earlier (Some e.line) s.late) s.late) h.until
    ∙ ap (λ l. cond (nat_le to e.beat) (earlier (Some e.line) l) l) h.late
    ∙ late-more (nat_le to e.beat) e (filter (λ a. nat_le to a.beat) acts)

all-late : (beat line : ℕ) (acts : List Entry) → AreAfter beat line acts → filter (λ a. nat_le beat a.beat) acts ≡ acts
all-late beat line [] h = refl
all-late beat line (e ∷ acts) h =
    ap (λ b. cond b (e ∷ filter (λ a. nat_le beat a.beat) acts) (filter (λ a. nat_le beat a.beat) acts)) h.0 ∙ ap (λ l. e ∷ l) (all-late beat line acts h.2)

pub blank-sits : (to : ℕ) → Sits to [] (blank to)
blank-sits to = record { until = refl; first = refl; late = refl; zones = refl; rate = refl; start = refl; taints = refl }

sits-end : (beat line to : ℕ) (acts : List Entry) (s : Seat) → AreAfter beat line acts → Sits to acts s → Sits beat acts (after Ends beat line s)
sits-end beat line to acts s later h = record {
  until = refl;
  first = h.first;
  late = h.first ∙ ap (λ l. least (numbers l)) (sym (all-late beat line acts later));
  zones = h.zones;
  rate = h.rate;
  start = h.start;
  taints = h.taints;
}

-- an acting line, of this role
acts-as : (role : Role (List ℕ)) → Type 0
acts-as role = is_acting role ≡ true

-- the `zone` lines with one line more, of this role
lines-with : (role : Role (List ℕ)) (e : Entry) (acts : List Entry) → e.role ≡ role → zone_lines (e ∷ acts) ≡ cons_option (zone_line e.beat role) (zone_lines acts)
lines-with role e acts is = ap (λ r. cons_option (zone_line e.beat r) (zone_lines acts)) is

-- and the `taint` lines
marks-with : (role : Role (List ℕ)) (e : Entry) (acts : List Entry) → e.role ≡ role → taints_of (e ∷ acts) ≡ cond (is_taint role) (taints_of acts ++ mark_of e ∷ []) (taints_of acts)
marks-with role e acts is = ap (λ r. reverse (map mark_of (cond (is_taint r) (e ∷ taints) taints))) is ∙ by (is_taint role)
  where
    taints : List Entry
    taints = filter (λ a. is_taint a.role) acts

    by : (b : Bool) → reverse (map mark_of (cond b (e ∷ taints) taints)) ≡ cond b (taints_of acts ++ mark_of e ∷ []) (taints_of acts)
    by true = reverse-cons (mark_of e) (map mark_of taints)
    by false = refl

-- an acting line of no zone, with the taints that are told of
sits-unzoned : (e : Entry) (acts : List Entry) (to : ℕ) (s : Seat) → zone_lines (e ∷ acts) ≡ zone_lines acts → Sits to acts s
    → (taints : List Mark) → taints ≡ taints_of (e ∷ acts) → Sits to (e ∷ acts) (record (acted e.beat e.line s) { taints = taints })
sits-unzoned e acts to s same h taints told =
    record {
      until = h.until;
      first = ap (λ l. earlier (Some e.line) l) h.first;
      late = acted-late to e acts s h;
      zones = h.zones ∙ ap (λ ls. different (map (λ z. z.zone) ls)) (sym same);
      rate = h.rate ∙ ap (λ ls. greatest (map (λ z. z.rate) ls)) (sym same);
      start = h.start ∙ ap (λ ls. slice_get (map (λ z. z.beat) ls) 0) (sym same);
      taints = told;
    }

sits-act : (role : Role (List ℕ)) (to : ℕ) (e : Entry) (acts : List Entry) (s : Seat) → e.role ≡ role → is_acting role ≡ true → Sits to acts s
    → Sits to (e ∷ acts) (after role e.beat e.line s)
sits-act Leads to e acts s is acting h = absurd (let denied : false ≡ true = acting in cc)
sits-act Ends to e acts s is acting h = absurd (let denied : false ≡ true = acting in cc)
sits-act Idles to e acts s is acting h = absurd (let denied : false ≡ true = acting in cc)
sits-act (Zones zone rate) to e acts s is acting h =
    let more = lines-with (Zones zone rate) e acts is in
    record {
      until = h.until;
      first = ap (λ l. earlier (Some e.line) l) h.first;
      late = acted-late to e acts s h;
      zones = ap (λ zs. with_name zs zone) h.zones ∙ ap (λ ls. different (map (λ z. z.zone) ls)) (sym more);
      rate = ap (λ n. max n rate) h.rate ∙ ap (λ ls. greatest (map (λ z. z.rate) ls)) (sym more);
      start = ap (λ ls. slice_get (map (λ z. z.beat) ls) 0) (sym more);
      taints = h.taints ∙ sym (marks-with (Zones zone rate) e acts is);
    }
sits-act Taints to e acts s is acting h =
    sits-unzoned e acts to s (lines-with Taints e acts is) h (s.taints ++ mark_of e ∷ []) (ap (λ ts. ts ++ mark_of e ∷ []) h.taints ∙ sym (marks-with Taints e acts is))
sits-act Acts to e acts s is acting h = sits-unzoned e acts to s (lines-with Acts e acts is) h s.taints (h.taints ∙ sym (marks-with Acts e acts is))

-- ---- lines behind a beat

pub own-after : (beat line : ℕ) (who : List ℕ) (es : List Entry) → AreAfter beat line es → AreAfter beat line (own who es)
unfolding own
own-after beat line who [] h = tt
own-after beat line who (e ∷ es) h = by (bytes_eq e.actor who) e.role (own-after beat line who es h.2)
  where
    with : (role : Role (List ℕ)) → AreAfter beat line (own who es) → AreAfter beat line (own_with role e (own who es))
    with Leads rest = tt
    with Ends rest = rest
    with (Zones zone rate) rest = (h.0, h.1, rest)
    with Taints rest = (h.0, h.1, rest)
    with Acts rest = (h.0, h.1, rest)
    with Idles rest = rest

    by : (b : Bool) (role : Role (List ℕ)) → AreAfter beat line (own who es) → AreAfter beat line (cond b (own_with role e (own who es)) (own who es))
    by true role rest = with role rest
    by false role rest = rest

-- ---- a line more, by its actor

ended-other : (stop : ℕ) (who : List ℕ) (e : Entry) (es : List Entry) → bytes_eq e.actor who ≡ false → ended stop who (e ∷ es) ≡ ended stop who es
unfolding ended
ended-other stop who e es other = ap (λ b. cond (b && is_end e.role) e.beat (ended stop who es)) other

own-other : (who : List ℕ) (e : Entry) (es : List Entry) → bytes_eq e.actor who ≡ false → own who (e ∷ es) ≡ own who es
unfolding own
own-other who e es other = ap (λ b. cond b (own_with e.role e (own who es)) (own who es)) other

pub seat-other : (stop : ℕ) (who : List ℕ) (e : Entry) (es : List Entry) (s : Seat) → bytes_eq e.actor who ≡ false → SeatStands stop es who s → SeatStands stop (e ∷ es) who s
seat-other stop who e es s other h =
    subst (λ to. Sits to (own who (e ∷ es)) s) (sym (ended-other stop who e es other))
    (subst (λ acts. Sits (ended stop who es) acts s) (sym (own-other who e es other)) h)

ended-own : (stop : ℕ) (who : List ℕ) (role : Role (List ℕ)) (e : Entry) (es : List Entry) → e.role ≡ role → bytes_eq e.actor who ≡ true
    → ended stop who (e ∷ es) ≡ cond (is_end role) e.beat (ended stop who es)
unfolding ended
ended-own stop who role e es is same =
    ap (λ b. cond (b && is_end e.role) e.beat (ended stop who es)) same ∙ ap (λ r. cond (is_end r) e.beat (ended stop who es)) is

own-own : (who : List ℕ) (role : Role (List ℕ)) (e : Entry) (es : List Entry) → e.role ≡ role → bytes_eq e.actor who ≡ true
    → own who (e ∷ es) ≡ own_with role e (own who es)
unfolding own
own-own who role e es is same =
    ap (λ b. cond b (own_with e.role e (own who es)) (own who es)) same ∙ ap (λ r. own_with r e (own who es)) is

moved : (stop : ℕ) (who : List ℕ) (role : Role (List ℕ)) (e : Entry) (es : List Entry) (s : Seat) → e.role ≡ role → bytes_eq e.actor who ≡ true
    → Sits (cond (is_end role) e.beat (ended stop who es)) (own_with role e (own who es)) s → SeatStands stop (e ∷ es) who s
moved stop who role e es s is same h =
    subst (λ to. Sits to (own who (e ∷ es)) s) (sym (ended-own stop who role e es is same))
    (subst (λ acts. Sits (cond (is_end role) e.beat (ended stop who es)) acts s) (sym (own-own who role e es is same)) h)

-- behind a lead the identity has no acting lines yet
pub seat-led : (stop : ℕ) (who : List ℕ) (e : Entry) (es : List Entry) (s : Seat) → e.role ≡ Leads → bytes_eq e.actor who ≡ true → SeatStands stop es who s
    → SeatStands stop (e ∷ es) who (blank s.to)
seat-led stop who e es s is same h =
    moved stop who Leads e es (blank s.to) is same (subst (λ to. Sits to [] (blank s.to)) h.until (blank-sits s.to))

pub seat-plays : (stop : ℕ) (who : List ℕ) (role : Role (List ℕ)) (e : Entry) (es : List Entry) (s : Seat) → e.role ≡ role → is_acting role ≡ true → bytes_eq e.actor who ≡ true
    → SeatStands stop es who s → SeatStands stop (e ∷ es) who (after role e.beat e.line s)
seat-plays stop who Leads e es s is acting same h = absurd (let denied : false ≡ true = acting in cc)
seat-plays stop who Ends e es s is acting same h = absurd (let denied : false ≡ true = acting in cc)
seat-plays stop who Idles e es s is acting same h = absurd (let denied : false ≡ true = acting in cc)
seat-plays stop who (Zones zone rate) e es s is acting same h =
    moved stop who (Zones zone rate) e es _ is same (sits-act (Zones zone rate) (ended stop who es) e (own who es) s is acting h)
seat-plays stop who Taints e es s is acting same h =
    moved stop who Taints e es _ is same (sits-act Taints (ended stop who es) e (own who es) s is acting h)
seat-plays stop who Acts e es s is acting same h =
    moved stop who Acts e es _ is same (sits-act Acts (ended stop who es) e (own who es) s is acting h)

pub seat-ends : (stop : ℕ) (who : List ℕ) (e : Entry) (es : List Entry) (s : Seat) → e.role ≡ Ends → AreAfter e.beat e.line es → bytes_eq e.actor who ≡ true
    → SeatStands stop es who s → SeatStands stop (e ∷ es) who (after Ends e.beat e.line s)
seat-ends stop who e es s is later same h =
    moved stop who Ends e es _ is same (sits-end e.beat e.line (ended stop who es) (own who es) s (own-after e.beat e.line who es later) h)

-- a line that means nothing leaves each seat
pub seat-idles : (stop : ℕ) (who : List ℕ) (e : Entry) (es : List Entry) (s : Seat) → e.role ≡ Idles → SeatStands stop es who s → SeatStands stop (e ∷ es) who s
seat-idles stop who e es s is h = by (bytes_eq e.actor who) refl
  where
    by : (b : Bool) → bytes_eq e.actor who ≡ b → SeatStands stop (e ∷ es) who s
    by true same = moved stop who Idles e es s is same h
    by false other = seat-other stop who e es s other h

-- behind a line of its actor that is no lead
pub seat-after : (stop : ℕ) (who : List ℕ) (role : Role (List ℕ)) (e : Entry) (es : List Entry) (s : Seat) → e.role ≡ role → is_lead role ≡ false
    → AreAfter e.beat e.line es → bytes_eq e.actor who ≡ true → SeatStands stop es who s → SeatStands stop (e ∷ es) who (after role e.beat e.line s)
seat-after stop who Leads e es s is denied later same h = absurd (let bad : true ≡ false = denied in cc)
seat-after stop who Ends e es s is denied later same h = seat-ends stop who e es s is later same h
seat-after stop who (Zones zone rate) e es s is denied later same h = seat-plays stop who (Zones zone rate) e es s is refl same h
seat-after stop who Taints e es s is denied later same h = seat-plays stop who Taints e es s is refl same h
seat-after stop who Acts e es s is denied later same h = seat-plays stop who Acts e es s is refl same h
seat-after stop who Idles e es s is denied later same h = seat-idles stop who e es s is h
