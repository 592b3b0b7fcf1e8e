-- Delays and losses that are set.
use Rattle.std.proofs.Common.{◌≡◌, ℕ, zero, suc, ◌<◌, ◌==◌, Bool, true, false, cond, List, [], ◌∷◌, length, length-set, replicate, slice_get, slice_set, get_or, Option, Some, None, refl, ap, ◌∙◌, arith}
use Rattle.std.proofs.lemmas.Bool.{eqb-true}
use Rattle.kube_base.proofs.Lists.{get-set}
use Rattle.kube_objects.specs.Entry.{Entry}
use Rattle.kube_objects.specs.Newest.{or_else, when}
use Rattle.kube_objects.specs.Wire.{in_force, request_delay_of, reply_delay_of, request_loss_of, reply_loss_of}
use Rattle.wire_calls.specs.declared.link.Link.{Link}
use Rattle.wire_calls.specs.WireStands.{IsDelay, first_link, or_first, link_at, link_in}

pub link_at-set : (links : List Link) (i p : ℕ) (link : Link) → i < length links → link_at (slice_set links i link) p ≡ cond (i == p) link (link_at links p)
link_at-set links i p link below = ap or_first (get-set links i p link below) ∙ by_test (i == p)
  where
    by_test : (b : Bool) → or_first (cond b (Some link) (slice_get links p)) ≡ cond b link (link_at links p)
    by_test true = refl
    by_test false = refl

link_at-get_or : (links : List Link) (i : ℕ) (d : Link) → i < length links → get_or links i d ≡ link_at links i
link_at-get_or [] i d below = absurd (omega (arith, below))
link_at-get_or (x ∷ links) zero d below = refl
link_at-get_or (x ∷ links) (suc i) d below = link_at-get_or links i d (omega (arith, below))

pub link_at-replicate : (n p : ℕ) → link_at (replicate n first_link) p ≡ first_link
link_at-replicate zero p = refl
link_at-replicate (suc n) zero = refl
link_at-replicate (suc n) (suc p) = link_at-replicate n p

-- ---- what an event on this process or another makes of what is in force

abbrev pub set : {A : Type 0} → A → Bool → A → Option A → A
set first b new before = or_else first (elim (when b new) [ None ↦ before | Some x ↦ Some x ])

pub set-is : {A : Type 0} (first : A) (b : Bool) (new : A) (before : Option A) → set first b new before ≡ cond b new (or_else first before)
set-is first true new before = refl
set-is first false new before = refl

pub set-delays : (p requests replies : ℕ) (h : List Entry) (b : Bool) → cond b (record (link_in p h) { request_delay = requests; reply_delay = replies }) (link_in p h) ≡ record (link_in p h) { request_delay = set 1 b requests (in_force (request_delay_of p) h); reply_delay = set 1 b replies (in_force (reply_delay_of p) h) }
set-delays p requests replies h true = refl
set-delays p requests replies h false = refl

pub set-losses : (p : ℕ) (requests replies : Bool) (h : List Entry) (b : Bool) → cond b (record (link_in p h) { loses_requests = requests; loses_replies = replies }) (link_in p h) ≡ record (link_in p h) { loses_requests = set false b requests (in_force (request_loss_of p) h); loses_replies = set false b replies (in_force (reply_loss_of p) h) }
set-losses p requests replies h true = refl
set-losses p requests replies h false = refl

-- a changed link of one process, where f changes what is in force
changed-link : (links : List Link) (i p : ℕ) (link : Link) (f : Link → Link) (in_force_at : ℕ → Link) → ((p : ℕ) → link_at links p ≡ in_force_at p) → i < length links → link ≡ f (link_at links i) → link_at (slice_set links i link) p ≡ cond (i == p) (f (in_force_at p)) (in_force_at p)
changed-link links i p link f in_force_at is below changed =
    link_at-set links i p link below
    ∙ ap (λ x. cond (i == p) link x) (is p)
    ∙ by_test (i == p) (λ same. changed ∙ ap f (is i) ∙ ap (λ n. f (in_force_at n)) (eqb-true i p same))
  where
    by_test : (b : Bool) → (b ≡ true → link ≡ f (in_force_at p)) → cond b link (in_force_at p) ≡ cond b (f (in_force_at p)) (in_force_at p)
    by_test true here = here refl
    by_test false here = refl

-- the link of one process of a wire is changed
module _ (links : List Link) (who : ℕ) (link : Link) (f : Link → Link) (processes : ℕ) (h : List Entry) (count : length links ≡ processes)
    (stands : (p : ℕ) → link_at links p ≡ link_in p h) (below : who < processes) (was : link ≡ get_or links who link) where
  inside : who < length links
  inside = omega (arith, count, below)

  pub same-count : length (slice_set links who (f link)) ≡ processes
  same-count = length-set links who (f link) ∙ count

  pub other-link : (p : ℕ) → link_at (slice_set links who (f link)) p ≡ cond (who == p) (f (link_in p h)) (link_in p h)
  other-link p = changed-link links who p (f link) f (λ p. link_in p h) stands inside (ap f (was ∙ link_at-get_or links who link inside))

pub delay-set : (first : ℕ) (b : Bool) (new : ℕ) (before : Option ℕ) → IsDelay new → IsDelay (or_else first before) → IsDelay (set first b new before)
delay-set first true new before here there = here
delay-set first false new before here there = there
