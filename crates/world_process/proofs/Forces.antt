-- Watches and statuses in force: as the document has them, set by an event, and beside entries of other kinds.
use Rattle.std.proofs.Common.{◌≡◌, ◌==◌, ◌<◌, ◌≤◌, ◌++◌, ◌⊎◌, ◌∙◌, Bool, true, false, ℕ, zero, suc, List, [], ◌∷◌, Option, Some, None, inl, inr, length, length-set, map, get_or, nat_lt, slice_get, slice_set, refl, sym, ap, subst, arith}
use Rattle.std.proofs.lemmas.Bool.Decides.{nat_tests}
use Rattle.kube_base.specs.declared.numbers.ProcId.{ProcId}
use Rattle.kube_objects.specs.declared.node.ReadyStatus.{ReadyStatus}
use Rattle.kube_objects.specs.declared.node.ReadyStatus.TheVariants as ready
use Rattle.kube_objects.specs.declared.script.Proc.{Proc}
use Rattle.kube_objects.specs.declared.script.What.{What}
use Rattle.kube_objects.specs.declared.script.What.TheVariants as what
use Rattle.kube_objects.specs.Document.{Doc, field}
use Rattle.kube_objects.specs.Entry.{Entry, Fact, Event, script_entry}
use Rattle.kube_objects.specs.InForce.{watch_of, status_of, watches, posted_status, watches_first, first_status}
use Rattle.kube_objects.specs.Newest.{or_else, when}
use Rattle.kube_objects.specs.Wire.{in_force, of_event}
use Rattle.history_laws.proofs.Plainly.{upper}
use Rattle.world_process.specs.declared.in_force.InForce.{InForce}
use Rattle.world_process.specs.declared.in_force.Standing.{Standing}
use Rattle.world_process.specs.InForce.{InForceStands, StandingOf, standing_first}
use Rattle.world_process.proofs.Names.{eq-isnt, eq-self, le-from, lt-from}

-- ---- as the document has them

abbrev or_standing : Standing → Option Standing → Standing
or_standing d None = d
or_standing d (Some s) = s

pub first-at : (xs : List Proc) (p : ℕ) (s : Standing) → slice_get (map standing_first xs) p ≡ Some s → (s.watch ≡ field (λ x. x.watch) true (slice_get xs p)) × (s.status ≡ field (λ x. x.ready) ready.True (slice_get xs p))
first-at [] p s is = cc
first-at (x ∷ xs) zero s is = let same = ap (or_standing s) (sym is) in (ap (λ y. y.watch) same, ap (λ y. y.status) same)
first-at (x ∷ xs) (suc p) s is = first-at xs p s is

pub map-both : (xs ys : List Proc) → map standing_first (xs ++ ys) ≡ map standing_first xs ++ map standing_first ys
map-both [] ys = refl
map-both (x ∷ xs) ys = ap (λ l. standing_first x ∷ l) (map-both xs ys)

map-count : (xs : List Proc) → length (map standing_first xs) ≡ length xs
map-count [] = refl
map-count (x ∷ xs) = ap (λ n. suc n) (map-count xs)

pub first-stands : (doc : Doc) (x : InForce) → x.standing.items ≡ map standing_first (doc.controllers ++ doc.kubelets) → InForceStands doc [] x
first-stands doc x is =
    record {
      count = ap length is ∙ map-count (doc.controllers ++ doc.kubelets);
      each = λ p s at. let first = first-at (doc.controllers ++ doc.kubelets) p s (sym (ap (λ l. slice_get l p) is) ∙ at) in record { watch = first.0; status = first.1 };
    }

-- ---- one of them is set

-- an item after a change at i is the changed one, or one at another place
abbrev pub Changed : List Standing → ℕ → ℕ → Standing → Standing → Standing → Type 0
Changed xs i p new old s = ((i ≡ p) × (new ≡ s) × (slice_get xs p ≡ Some old)) ⊎ (((i == p) ≡ false) × (slice_get xs p ≡ Some s))

apart : (i p : ℕ) → ¬ (i ≡ p) → (i == p) ≡ false
apart i p other = eq-isnt i p other

later : (x : Standing) (xs : List Standing) (i p : ℕ) (new old s : Standing) → Changed xs i p new old s → Changed (x ∷ xs) (suc i) (suc p) new old s
later x xs i p new old s (inl own) = inl (ap (λ n. suc n) own.0, own.1, own.2)
later x xs i p new old s (inr other) = inr (let same : (i == p) ≡ (suc i == suc p) = grind (arith, nat_tests) in sym same ∙ other.0, other.1)

pub item-changed : (xs : List Standing) (i p : ℕ) (new old s : Standing) → old ≡ get_or xs i old → slice_get (slice_set xs i new) p ≡ Some s → Changed xs i p new old s
item-changed [] i p new old s was is = cc
item-changed (x ∷ xs) zero zero new old s was is = inl (refl, ap (or_standing new) is, ap (λ y. Some y) (sym was))
item-changed (x ∷ xs) zero (suc p) new old s was is = inr (apart zero (suc p) (λ e. omega (arith, e)), is)
item-changed (x ∷ xs) (suc i) zero new old s was is = inr (apart (suc i) zero (λ e. omega (arith, e)), is)
item-changed (x ∷ xs) (suc i) (suc p) new old s was is = later x xs i p new old s (item-changed xs i p new old s was is)

pub item-within : (xs : List Standing) (p : ℕ) (s : Standing) → slice_get xs p ≡ Some s → p < length xs
item-within [] p s is = cc
item-within (x ∷ xs) zero s is = omega arith
item-within (x ∷ xs) (suc p) s is = omega (arith, item-within xs p s is)

-- a change past the end
pub item-kept : (xs : List Standing) (i p : ℕ) (new old s : Standing) → length xs ≤ i → slice_get xs p ≡ Some s → Changed xs i p new old s
item-kept xs i p new old s past is = let within = item-within xs p s is in inr (apart i p (λ e. omega (arith, past, within, e)), is)

-- what isn't within is past the end
pub past-end : (xs : List Standing) (len i : ℕ) → len ≡ length xs → (i < len → false ≡ true) → length xs ≤ i
past-end xs len i is never = by_test (nat_lt i len) refl
  where
    by_test : (b : Bool) → nat_lt i len ≡ b → length xs ≤ i
    by_test true less = let no = never (lt-from i len less) in cc
    by_test false most = let from = le-from i len most in omega (arith, is, from)

-- what is kept of every process
abbrev pub Each : Doc → List Entry → List Standing → Type 0
Each doc h items = (p : ℕ) (s : Standing) → slice_get items p ≡ Some s → StandingOf doc p h s

same-at : (i p : ℕ) → i ≡ p → (i == p) ≡ true
same-at i p is = ap (λ n. n == p) is ∙ eq-self p

-- by an event that changes what is kept of one process, and leaves that of each other in force
module _ (doc : Doc) (id : ProcId) (h g : List Entry) (change : Standing → Standing) (own : (p : ℕ) (s : Standing) → (id.0 == p) ≡ true → StandingOf doc p h s → StandingOf doc p g (change s))
    (other : (p : ℕ) (s : Standing) → (id.0 == p) ≡ false → StandingOf doc p h s → StandingOf doc p g s) where
  changed-stands : (items : List Standing) (old : Standing) → Each doc h items → (p : ℕ) (s : Standing) → Changed items id.0 p (change old) old s → StandingOf doc p g s
  changed-stands items old each p s (inl mine) = subst (StandingOf doc p g) mine.1 (own p old (same-at id.0 p mine.0) (each p old mine.2))
  changed-stands items old each p s (inr theirs) = other p s theirs.0 (each p s theirs.1)

  -- where it is kept of the process, and where it isn't
  pub set-stands : (x y : InForce) (old : Standing) → y.standing.items ≡ slice_set x.standing.items id.0 (change old) → old ≡ get_or x.standing.items id.0 old → InForceStands doc h x → InForceStands doc g y
  set-stands x y old set was s =
      record {
        count = ap length set ∙ length-set x.standing.items id.0 (change old) ∙ s.count;
        each = λ p t at. changed-stands x.standing.items old s.each p t (item-changed x.standing.items id.0 p (change old) old t was (ap (λ l. slice_get l p) (sym set) ∙ at));
      }

  pub kept-stands : (x : InForce) → length x.standing.items ≤ id.0 → InForceStands doc h x → InForceStands doc g x
  kept-stands x past s = record { count = s.count; each = λ p t at. changed-stands x.standing.items t s.each p t (item-kept x.standing.items id.0 p (change t) t t past at) }

-- by a watch's event
module _ (doc : Doc) (k : ℕ) (id : ProcId) (on : Bool) (h : List Entry) where
  abbrev g : List Entry
  g = script_entry k 1 (Event (what.Watch id on) None) ∷ h

  watch-after : (p : ℕ) (b : Bool) → (id.0 == p) ≡ b → watches doc p g ≡ or_else (watches_first doc p) (upper (when b on) (in_force (watch_of p) h))
  watch-after p b is = ap (λ t. or_else (watches_first doc p) (upper (when t on) (in_force (watch_of p) h))) is

  watch-own : (p : ℕ) (s : Standing) → (id.0 == p) ≡ true → StandingOf doc p h s → StandingOf doc p g (record s { watch = on })
  watch-own p s is was = record { watch = sym (watch-after p true is); status = was.status }

  watch-other : (p : ℕ) (s : Standing) → (id.0 == p) ≡ false → StandingOf doc p h s → StandingOf doc p g s
  watch-other p s is was = record { watch = was.watch ∙ sym (watch-after p false is); status = was.status }

  pub watch-set : (x y : InForce) (old : Standing) → y.standing.items ≡ slice_set x.standing.items id.0 (record old { watch = on }) → old ≡ get_or x.standing.items id.0 old → InForceStands doc h x → InForceStands doc g y
  watch-set = set-stands doc id h g (λ s. record s { watch = on }) watch-own watch-other

  pub watch-kept : (x : InForce) → length x.standing.items ≤ id.0 → InForceStands doc h x → InForceStands doc g x
  watch-kept = kept-stands doc id h g (λ s. record s { watch = on }) watch-own watch-other

-- by a status's
module _ (doc : Doc) (k : ℕ) (id : ProcId) (status : ReadyStatus) (h : List Entry) where
  abbrev f : List Entry
  f = script_entry k 1 (Event (what.Ready id status) None) ∷ h

  status-after : (p : ℕ) (b : Bool) → (id.0 == p) ≡ b → posted_status doc p f ≡ or_else (first_status doc p) (upper (when b status) (in_force (status_of p) h))
  status-after p b is = ap (λ t. or_else (first_status doc p) (upper (when t status) (in_force (status_of p) h))) is

  status-own : (p : ℕ) (s : Standing) → (id.0 == p) ≡ true → StandingOf doc p h s → StandingOf doc p f (record s { status = status })
  status-own p s is was = record { watch = was.watch; status = sym (status-after p true is) }

  status-other : (p : ℕ) (s : Standing) → (id.0 == p) ≡ false → StandingOf doc p h s → StandingOf doc p f s
  status-other p s is was = record { watch = was.watch; status = was.status ∙ sym (status-after p false is) }

  pub status-set : (x y : InForce) (old : Standing) → y.standing.items ≡ slice_set x.standing.items id.0 (record old { status = status }) → old ≡ get_or x.standing.items id.0 old → InForceStands doc h x → InForceStands doc f y
  status-set = set-stands doc id h f (λ s. record s { status = status }) status-own status-other

  pub status-kept : (x : InForce) → length x.standing.items ≤ id.0 → InForceStands doc h x → InForceStands doc f x
  status-kept = kept-stands doc id h f (λ s. record s { status = status }) status-own status-other

-- ---- entries of other kinds

-- an event that puts a watch on or off, or sets a status
abbrev pub sets_standing : What → Bool
sets_standing (what.Watch id on) = true
sets_standing (what.Ready id status) = true
sets_standing _ = false

abbrev pub is_standing : Fact → Bool
is_standing (Event event version) = sets_standing event
is_standing _ = false

event-watch : (p : ℕ) (event : What) → sets_standing event ≡ false → watch_of p event ≡ None
event-watch p (what.Watch id on) quiet = cc
event-watch p _ quiet = refl

event-status : (p : ℕ) (event : What) → sets_standing event ≡ false → status_of p event ≡ None
event-status p (what.Ready id status) quiet = cc
event-status p _ quiet = refl

fact-watch : (p : ℕ) (d : Fact) → is_standing d ≡ false → of_event (watch_of p) d ≡ None
fact-watch p (Event event version) quiet = event-watch p event quiet
fact-watch p _ quiet = refl

fact-status : (p : ℕ) (d : Fact) → is_standing d ≡ false → of_event (status_of p) d ≡ None
fact-status p (Event event version) quiet = event-status p event quiet
fact-status p _ quiet = refl

pub in_force-beside : (doc : Doc) (e : Entry) (h : List Entry) (x : InForce) → is_standing e.fact ≡ false → InForceStands doc h x → InForceStands doc (e ∷ h) x
in_force-beside doc e h x quiet s =
    record {
      count = s.count;
      each = λ p y at.
          let was = s.each p y at in
          record {
            watch = was.watch ∙ ap (λ o. or_else (watches_first doc p) (upper o (in_force (watch_of p) h))) (sym (fact-watch p e.fact quiet));
            status = was.status ∙ ap (λ o. or_else (first_status doc p) (upper o (in_force (status_of p) h))) (sym (fact-status p e.fact quiet));
          };
    }
