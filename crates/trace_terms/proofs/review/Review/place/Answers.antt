use Rattle.std.proofs.Common.{◌≡◌, ◌<◌, ◌≤◌, ◌+◌, ◌∷◌, [], ◌++◌, length, slice_get, refl, sym, ap, subst, ◌∙◌, arith, length-append}
use Rattle.kube_base.specs.Names.{with_name}
use Rattle.trace_terms.specs.Reviews.{ReviewStands}
use Rattle.trace_terms.specs.Seats.{blank}
use Rattle.trace_terms.proofs.SeatsLaws.{number-at, unchanged, one-more, get-within}
use Rattle.trace_terms.proofs.ReviewLaws.{review-placed}
use Rattle.trace_terms.proofs.review.Review.place.Goals as goal

pub returns-else-len-clause-at : goal.returns-else-len-clause-at
returns-else-len-clause-at c =
    ap (λ ks. slice_get ks c.in_ok-place.place) c.in_ok-place.ensures.held
    ∙ ap (λ n. slice_get (with_name c.args.self.now.actors c.args.actor.now) n) c.in_ok-place.ensures.place
    ∙ number-at c.args.self.now.actors c.args.actor.now

pub returns-in_ok-push-clause-at : goal.returns-in_ok-push-clause-at
returns-in_ok-push-clause-at c =
    ap (λ ks. slice_get ks c.in_ok-place.place) c.in_ok-place.ensures.held
    ∙ ap (λ n. slice_get (with_name c.args.self.now.actors c.args.actor.now) n) c.in_ok-place.ensures.place
    ∙ number-at c.args.self.now.actors c.args.actor.now

-- ---- an actor that is known

same : (c : goal.Else-len) → c.place.new.self ≡ c.args.self.now.actors
same c =
    let held : c.place.new.self ≡ with_name c.args.self.now.actors c.args.actor.now = c.in_ok-place.ensures.held in
    let few : length c.place.new.self ≤ length c.args.self.now.actors = omega (arith, c.len.ensures, c.len-2.ensures.len, c.if-len.false, c.requires.even) in
    held ∙ unchanged c.args.self.now.actors c.args.actor.now (subst (λ ks. length ks ≤ length c.args.self.now.actors) held few)

pub returns-else-len-clause-stands : goal.returns-else-len-clause-stands
returns-else-len-clause-stands c millis end es h = subst (λ ks. ReviewStands millis end es (record c.args.self.now { actors = ks })) (sym (same c)) h

pub returns-else-len-clause-within : goal.returns-else-len-clause-within
returns-else-len-clause-within c =
    let within : c.in_ok-place.place < length c.place.new.self = get-within c.place.new.self c.args.actor.now c.in_ok-place.place (returns-else-len-clause-at c) in
    let long : length c.place.new.self ≡ length c.args.self.now.actors = ap (λ ks. length ks) (same c) in
    omega (arith, within, long, c.requires.even)

pub returns-else-len-clause-even : goal.returns-else-len-clause-even
returns-else-len-clause-even c = c.requires.even ∙ sym (ap (λ ks. length ks) (same c))

-- ---- an actor that is new

many : (c : goal.In_ok-push) → length c.args.self.now.actors < length (with_name c.args.self.now.actors c.args.actor.now)
many c =
    let longer : length c.args.self.now.actors < length c.place.new.self = omega (arith, c.len.ensures, c.len-2.ensures.len, c.if-len.true, c.requires.even) in
    subst (λ ks. length c.args.self.now.actors < length ks) c.in_ok-place.ensures.held longer

seats : (c : goal.In_ok-push) → c.push.new.self.items ≡ c.args.self.now.seats.items ++ blank (c.args.self.now.end + 1) ∷ []
seats c = c.in_ok-push.ensures.items ∙ ap (λ s. c.args.self.now.seats.items ++ s ∷ []) c.new.ensures

grown : (c : goal.In_ok-push) → c.place.new.self ≡ c.args.self.now.actors ++ c.args.actor.now ∷ []
grown c = c.in_ok-place.ensures.held ∙ (one-more c.args.self.now.actors c.args.actor.now (many c)).1

pub returns-in_ok-push-clause-stands : goal.returns-in_ok-push-clause-stands
returns-in_ok-push-clause-stands c millis end es h =
    review-placed millis end c.args.actor.now es c.args.self.now _ (one-more c.args.self.now.actors c.args.actor.now (many c)).0 refl refl refl refl refl refl (grown c) (seats c) c.len-2.ensures.once h

pub returns-in_ok-push-clause-even : goal.returns-in_ok-push-clause-even
returns-in_ok-push-clause-even c =
    let one : length c.push.new.self.items ≡ length c.args.self.now.seats.items + 1 = ap (λ l. length l) (seats c) ∙ length-append c.args.self.now.seats.items (blank (c.args.self.now.end + 1) ∷ []) in
    let other : length c.place.new.self ≡ length c.args.self.now.actors + 1 = ap (λ l. length l) (grown c) ∙ length-append c.args.self.now.actors (c.args.actor.now ∷ []) in
    omega (arith, one, other, c.requires.even)

pub returns-in_ok-push-clause-within : goal.returns-in_ok-push-clause-within
returns-in_ok-push-clause-within c =
    let within : c.in_ok-place.place < length c.place.new.self = get-within c.place.new.self c.args.actor.now c.in_ok-place.place (returns-in_ok-push-clause-at c) in
    let even : length c.push.new.self.items ≡ length c.place.new.self = returns-in_ok-push-clause-even c in
    omega (arith, within, even)
