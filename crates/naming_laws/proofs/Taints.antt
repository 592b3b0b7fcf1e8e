-- Taints of which no two have the same key and effect stay so: where some are taken away, where times are given to them, and where a
-- condition taint is added that isn't there, or put in its place.
use Rattle.std.proofs.Common.{◌≡◌, ℕ, ◌==◌, ◌&&◌, ◌||◌, not, Bool, true, false, cond, List, [], ◌∷◌, ◌++◌, map, filter, if◌then◌else◌, Some, refl, sym, ap, ◌∙◌, subst}
use Rattle.std.proofs.lemmas.Bool.{eqb-true, eq-eqb}
use Rattle.std.proofs.lemmas.List.Folds.{list_any-append}
use Rattle.std.specs.List.{list_any}
use Rattle.std.specs.Prelude.{if◌then◌else◌}
use Rattle.kube_objects.specs.declared.node.Effect.{Effect}
use Rattle.kube_objects.specs.declared.node.Effect.TheVariants.{NoSchedule, PreferNoSchedule, NoExecute}
use Rattle.kube_objects.specs.declared.node.Taint.{Taint}
use Rattle.kube_objects.specs.Document.{Doc}
use Rattle.kube_objects.specs.Entry.{Identity}
use Rattle.kube_objects.specs.Newest.{has}
use Rattle.kube_objects.specs.Stamps.{is_no_execute, stamp_taint, stamp_all}
use Rattle.kube_objects.specs.Tainting.{is_condition, is_wanted}
use Rattle.kube_objects.specs.Tick.{new_taint}
use Rattle.kube_objects.specs.Writable.{is_condition_key}
use Rattle.history_laws.proofs.Plainly.{false_is, and_left, and_right, and_both, not_true, or_left, or_right, or_none}
use Rattle.manifest_json.specs.Readable.{taints_differ}
use Rattle.manifest_json.specs.Walk.{effect_rank, same_taint}
use Rattle.manifest_laws.proofs.ReadItems.{taints_differ-push}

and_shift : (a b c : Bool) → (a && b && c) ≡ ((a && b) && c)
and_shift true b c = refl
and_shift false b c = refl

itself : (n : ℕ) → (n == n) ≡ true
itself n = eq-eqb n n refl

-- ---- some are taken away

-- none of these taints is like one that none of those is like
abbrev AreFewer : List Taint → List Taint → Type 0
AreFewer less earlier = (t : Taint) → list_any (same_taint t) earlier ≡ false → list_any (same_taint t) less ≡ false

fewer_push : (less earlier : List Taint) (t : Taint) → AreFewer less earlier → AreFewer (less ++ t ∷ []) (earlier ++ t ∷ [])
fewer_push less earlier t fewer s none =
    let whole : (list_any (same_taint s) earlier || (same_taint s t || false)) ≡ false = sym (list_any-append (same_taint s) earlier (t ∷ [])) ∙ none in
    list_any-append (same_taint s) less (t ∷ [])
    ∙ or_none (list_any (same_taint s) less) (same_taint s t || false) (fewer s (or_left _ _ whole)) (or_right (list_any (same_taint s) earlier) _ whole)

fewer_more : (less earlier : List Taint) (t : Taint) → AreFewer less earlier → AreFewer less (earlier ++ t ∷ [])
fewer_more less earlier t fewer s none =
    let whole : (list_any (same_taint s) earlier || (same_taint s t || false)) ≡ false = sym (list_any-append (same_taint s) earlier (t ∷ [])) ∙ none in
    fewer s (or_left _ _ whole)

filtered : (test : Taint → Bool) (less earlier ts : List Taint) → AreFewer less earlier → taints_differ earlier ts ≡ true → taints_differ less (filter test ts) ≡ true
filtered test less earlier [] fewer differ = refl
filtered test less earlier (t ∷ ts) fewer differ =
    by_test (test t) (filtered test (less ++ t ∷ []) (earlier ++ t ∷ []) ts (fewer_push less earlier t fewer) rest)
    (filtered test less (earlier ++ t ∷ []) ts (fewer_more less earlier t fewer) rest)
  where
    apart : list_any (same_taint t) earlier ≡ false
    apart = not_true (list_any (same_taint t) earlier) (and_left (not (list_any (same_taint t) earlier)) (taints_differ (earlier ++ t ∷ []) ts) differ)

    rest : taints_differ (earlier ++ t ∷ []) ts ≡ true
    rest = and_right (not (list_any (same_taint t) earlier)) (taints_differ (earlier ++ t ∷ []) ts) differ

    by_test : (b : Bool) → taints_differ (less ++ t ∷ []) (filter test ts) ≡ true → taints_differ less (filter test ts) ≡ true
        → taints_differ less (cond b (t ∷ filter test ts) (filter test ts)) ≡ true
    by_test true with_it without = and_both (not (list_any (same_taint t) less)) (taints_differ (less ++ t ∷ []) (filter test ts)) (ap not (fewer t apart)) with_it
    by_test false with_it without = without

pub differ_filter : (test : Taint → Bool) (ts : List Taint) → taints_differ [] ts ≡ true → taints_differ [] (filter test ts) ≡ true
differ_filter test ts differ = filtered test [] [] ts (λ t none. none) differ

-- ---- some are changed, each with its key and effect

module _ (f : Taint → Taint) (alike : (s t : Taint) → same_taint (f s) (f t) ≡ same_taint s t) where
  mapped_any : (s : Taint) (ts : List Taint) → list_any (same_taint (f s)) (map f ts) ≡ list_any (same_taint s) ts
  mapped_any s [] = refl
  mapped_any s (t ∷ ts) = ap (λ b. b || list_any (same_taint (f s)) (map f ts)) (alike s t) ∙ ap (λ b. same_taint s t || b) (mapped_any s ts)

  mapped_push : (ts : List Taint) (t : Taint) → map f (ts ++ t ∷ []) ≡ map f ts ++ f t ∷ []
  mapped_push [] t = refl
  mapped_push (s ∷ ts) t = ap (λ xs. f s ∷ xs) (mapped_push ts t)

  pub differ_mapped : (earlier ts : List Taint) → taints_differ earlier ts ≡ true → taints_differ (map f earlier) (map f ts) ≡ true
  differ_mapped earlier [] differ = refl
  differ_mapped earlier (t ∷ ts) differ =
      let first = and_left (not (list_any (same_taint t) earlier)) (taints_differ (earlier ++ t ∷ []) ts) differ in
      let rest = and_right (not (list_any (same_taint t) earlier)) (taints_differ (earlier ++ t ∷ []) ts) differ in
      and_both (not (list_any (same_taint (f t)) (map f earlier))) (taints_differ (map f earlier ++ f t ∷ []) (map f ts))
      (ap not (mapped_any t earlier) ∙ first)
      (subst (λ xs. taints_differ xs (map f ts) ≡ true) (mapped_push earlier t) (differ_mapped (earlier ++ t ∷ []) ts rest))

-- ---- a condition taint is added, or put in its place

module _ (doc : Doc) (k : ℕ) (q : Identity) (wanted : ℕ) (key : is_condition_key wanted ≡ true) where
  abbrev new : Taint
  new = new_taint doc k q wanted

  -- it is like no other but itself
  new_apart : (t : Taint) → is_wanted wanted t ≡ false → same_taint new t ≡ false
  new_apart t other = by_key (wanted == t.key) refl
    where
      by_effect : (e : Effect) → wanted ≡ t.key → (is_no_execute e && is_condition_key t.key && (t.key == wanted)) ≡ false → (2 == effect_rank e) ≡ false
      by_effect NoSchedule is unwanted = refl
      by_effect PreferNoSchedule is unwanted = refl
      by_effect NoExecute is unwanted =
          let own : is_condition_key t.key ≡ true = subst (λ n. is_condition_key n ≡ true) is key in
          let same : (t.key == wanted) ≡ true = ap (λ n. n == wanted) (sym is) ∙ itself wanted in
          absurd (false_is (sym unwanted ∙ and_both (is_condition_key t.key) (t.key == wanted) own same))

      by_key : (b : Bool) → (wanted == t.key) ≡ b → (b && (2 == effect_rank t.effect)) ≡ false
      by_key false is = refl
      by_key true is = by_effect t.effect (eqb-true wanted t.key is) (shift ∙ other)
        where
          shift : (is_no_execute t.effect && is_condition_key t.key && (t.key == wanted)) ≡ is_wanted wanted t
          shift = and_shift (is_no_execute t.effect) (is_condition_key t.key) (t.key == wanted)

  none_like : (ts : List Taint) → list_any (is_wanted wanted) ts ≡ false → list_any (same_taint new) ts ≡ false
  none_like [] none = refl
  none_like (t ∷ ts) none =
      or_none (same_taint new t) (list_any (same_taint new) ts) (new_apart t (or_left (is_wanted wanted t) (list_any (is_wanted wanted) ts) none))
      (none_like ts (or_right (is_wanted wanted t) (list_any (is_wanted wanted) ts) none))

  pub differ_added : (ts : List Taint) → list_any (is_wanted wanted) ts ≡ false → taints_differ [] ts ≡ true → taints_differ [] (ts ++ new ∷ []) ≡ true
  differ_added ts none differ = taints_differ-push [] ts new differ (none_like ts none)

  -- in place of the wanted one
  abbrev pub replaced : Taint → Taint
  replaced other = if is_wanted wanted other then new else other

  replaced_key : (s : Taint) → (replaced s).key ≡ s.key
  replaced_key s = by_test (is_wanted wanted s) refl
    where
      by_test : (b : Bool) → is_wanted wanted s ≡ b → (if b then new else s).key ≡ s.key
      by_test true is = sym (eqb-true s.key wanted (and_right (is_condition s) (s.key == wanted) is))
      by_test false is = refl

  replaced_rank : (s : Taint) → effect_rank (replaced s).effect ≡ effect_rank s.effect
  replaced_rank s = by_test (is_wanted wanted s) refl
    where
      by_effect : (e : Effect) → is_no_execute e ≡ true → 2 ≡ effect_rank e
      by_effect NoSchedule is = absurd (false_is is)
      by_effect PreferNoSchedule is = absurd (false_is is)
      by_effect NoExecute is = refl

      by_test : (b : Bool) → is_wanted wanted s ≡ b → effect_rank (if b then new else s).effect ≡ effect_rank s.effect
      by_test true is = by_effect s.effect (and_left (is_no_execute s.effect) (is_condition_key s.key) (and_left (is_condition s) (s.key == wanted) is))
      by_test false is = refl

  replaced_like : (s t : Taint) → same_taint (replaced s) (replaced t) ≡ same_taint s t
  replaced_like s t =
      ap (λ k. (k == (replaced t).key) && (effect_rank (replaced s).effect == effect_rank (replaced t).effect)) (replaced_key s)
      ∙ ap (λ k. (s.key == k) && (effect_rank (replaced s).effect == effect_rank (replaced t).effect)) (replaced_key t)
      ∙ ap (λ r. (s.key == t.key) && (r == effect_rank (replaced t).effect)) (replaced_rank s)
      ∙ ap (λ r. (s.key == t.key) && (effect_rank s.effect == r)) (replaced_rank t)

  pub differ_replaced : (ts : List Taint) → taints_differ [] ts ≡ true → taints_differ [] (map replaced ts) ≡ true
  differ_replaced ts differ = differ_mapped replaced replaced_like [] ts differ

  -- where the wanted one isn't there nothing is replaced
  pub none_replaced : (ts : List Taint) → list_any (is_wanted wanted) ts ≡ false → map replaced ts ≡ ts
  none_replaced [] none = refl
  none_replaced (t ∷ ts) none =
      ap (λ b. (if b then new else t) ∷ map replaced ts) (or_left (is_wanted wanted t) (list_any (is_wanted wanted) ts) none)
      ∙ ap (λ xs. t ∷ xs) (none_replaced ts (or_right (is_wanted wanted t) (list_any (is_wanted wanted) ts) none))

-- where no taint is a condition taint, none is the wanted one
pub none_wanted : (wanted : ℕ) (ts : List Taint) → list_any is_condition ts ≡ false → list_any (is_wanted wanted) ts ≡ false
none_wanted wanted [] none = refl
none_wanted wanted (t ∷ ts) none =
    or_none (is_wanted wanted t) (list_any (is_wanted wanted) ts) (ap (λ b. b && (t.key == wanted)) (or_left (is_condition t) (list_any is_condition ts) none))
    (none_wanted wanted ts (or_right (is_condition t) (list_any is_condition ts) none))

-- without condition taints there is none
pub none_left : (ts : List Taint) → list_any is_condition (filter (λ taint. not (is_condition taint)) ts) ≡ false
none_left [] = refl
none_left (t ∷ ts) = by_test (is_condition t) refl (none_left ts)
  where
    by_test : (b : Bool) → is_condition t ≡ b → list_any is_condition (filter (λ taint. not (is_condition taint)) ts) ≡ false
        → list_any is_condition (cond (not b) (t ∷ filter (λ taint. not (is_condition taint)) ts) (filter (λ taint. not (is_condition taint)) ts)) ≡ false
    by_test true is rest = rest
    by_test false is rest = or_none (is_condition t) (list_any is_condition (filter (λ taint. not (is_condition taint)) ts)) is rest

-- what isn't there isn't there among fewer
pub none_filtered : (p test : Taint → Bool) (ts : List Taint) → list_any p ts ≡ false → list_any p (filter test ts) ≡ false
none_filtered p test [] none = refl
none_filtered p test (t ∷ ts) none = by_test (test t) (none_filtered p test ts (or_right (p t) (list_any p ts) none))
  where
    by_test : (b : Bool) → list_any p (filter test ts) ≡ false → list_any p (cond b (t ∷ filter test ts) (filter test ts)) ≡ false
    by_test true rest = or_none (p t) (list_any p (filter test ts)) (or_left (p t) (list_any p ts) none) rest
    by_test false rest = rest

-- ---- times are given

stamp_like : (at : ℕ) (s t : Taint) → same_taint (stamp_taint at s) (stamp_taint at t) ≡ same_taint s t
stamp_like at s t = by_both (is_no_execute s.effect && not (has s.added)) (is_no_execute t.effect && not (has t.added))
  where
    by_both : (a b : Bool) → same_taint (cond a (record s { added = Some (record { 0 = at }) }) s) (cond b (record t { added = Some (record { 0 = at }) }) t) ≡ same_taint s t
    by_both true true = refl
    by_both true false = refl
    by_both false true = refl
    by_both false false = refl

stamp_map : (at : ℕ) (ts : List Taint) → stamp_all at ts ≡ map (stamp_taint at) ts
stamp_map at [] = refl
stamp_map at (t ∷ ts) = ap (λ xs. stamp_taint at t ∷ xs) (stamp_map at ts)

pub differ_stamped : (at : ℕ) (earlier ts : List Taint) → taints_differ earlier ts ≡ true → taints_differ (stamp_all at earlier) (stamp_all at ts) ≡ true
differ_stamped at earlier ts differ =
    subst (λ es. taints_differ es (stamp_all at ts) ≡ true) (sym (stamp_map at earlier))
    (subst (λ xs. taints_differ (map (stamp_taint at) earlier) xs ≡ true) (sym (stamp_map at ts)) (differ_mapped (stamp_taint at) (stamp_like at) earlier ts differ))
