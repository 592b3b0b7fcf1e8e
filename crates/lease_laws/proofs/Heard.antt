-- A reply that comes at a beat is delivered in it.
use Rattle.std.proofs.Common.{◌≡◌, ℕ, ◌==◌, Bool, true, false, List, [], ◌∷◌, Option, Some, None, refl, sym, ap, ◌∙◌, subst, inl, inr}
use Rattle.std.specs.Prelude.{if◌then◌else◌}
use Rattle.std.proofs.lemmas.Bool.{eq-eqb}
use Rattle.kube_objects.specs.declared.call.Reply.{Reply}
use Rattle.kube_objects.specs.Document.{Doc, is_controller}
use Rattle.kube_objects.specs.Entry.{Entry, Identity, Call, Delivers, entry}
use Rattle.kube_objects.specs.InFlight.{is_due}
use Rattle.kube_objects.specs.Process.{counted}
use Rattle.kube_objects.specs.Wire.{Back, back_of}
use Rattle.history.specs.History.{three_steps, history}
use Rattle.history.specs.Steps.{step_one, step_two, deliver_as, delivered, react_as}
use Rattle.history.proofs.Due.{each, deliver_due, step_three-walks}
use Rattle.history_laws.specs.Tails.{In, IsTail}
use Rattle.history_laws.proofs.Counting.{counted_is}
use Rattle.history_laws.proofs.Plainly.{and_both, same_self}
use Rattle.history_laws.proofs.Tailed.{tail_all, in_tail, one_adds, two_adds, deliver_adds, react_as_adds}
use Rattle.lease_laws.proofs.Given.{hears}

-- a reply to this call has come to its sender at a beat
pub record IsHeard (k : ℕ) (q : Identity) (n : ℕ) (h : List Entry) : Type 0 where
  pub x : Entry
  pub at : In x h
  pub beat : x.beat ≡ k
  pub told : hears q n x.actor x.fact ≡ true

heard_more : (k : ℕ) (q : Identity) (n : ℕ) (g h : List Entry) → IsTail g h → IsHeard k q n g → IsHeard k q n h
heard_more k q n g h tail s = record { x = s.x; at = in_tail s.x g h tail s.at; beat = s.beat; told = s.told }

delivers : (doc : Doc) (k : ℕ) (b : Back) (h : List Entry) → IsHeard k b.who b.call.number (delivered doc k b h)
delivers doc k b h = by_counted (counted doc b.who k b.call.number h) refl
  where
    new : (call : Call) (reply : Reply) (t : Bool) (g : List Entry) → call.number ≡ b.call.number → IsHeard k b.who b.call.number (entry k 3 b.who (Delivers call reply t) ∷ g)
    new call reply t g same = record {
      x = entry k 3 b.who (Delivers call reply t);
      at = inl refl;
      beat = refl;
      told = and_both _ (call.number == b.call.number) (same_self b.who) (eq-eqb call.number b.call.number same);
    }

    by_counted : (o : Option Call) → counted doc b.who k b.call.number h ≡ o → IsHeard k b.who b.call.number (deliver_as doc k b.who b.call b.reply o h)
    by_counted None is = new b.call b.reply false h refl
    by_counted (Some waiting) is =
        let g = entry k 3 b.who (Delivers waiting b.reply true) ∷ h in
        heard_more k b.who b.call.number g (react_as doc k b.who waiting b.reply (is_controller doc b.who.process) g)
        (react_as_adds doc k b.who waiting b.reply (is_controller doc b.who.process) g g (tail_all g))
        (new waiting b.reply true h (counted_is doc b.who k b.call.number h waiting is).number)

each_delivers : (doc : Doc) (k : ℕ) (l h : List Entry) (e : Entry) (b : Back) → In e l → back_of e.actor e.fact ≡ Some b → is_due k b.comes ≡ true
    → IsHeard k b.who b.call.number (each (λ e. deliver_due doc k (back_of e.actor e.fact)) l h)
each_delivers doc k [] h e b at is due = absurd at
each_delivers doc k (x ∷ l) h e b (inl same) is due =
    let g = each (λ e. deliver_due doc k (back_of e.actor e.fact)) l h in
    subst (λ o. IsHeard k b.who b.call.number (deliver_due doc k o g)) (sym (ap (λ (e : Entry). back_of e.actor e.fact) (sym same) ∙ is))
    (subst (λ t. IsHeard k b.who b.call.number (if t then delivered doc k b g else g)) (sym due) (delivers doc k b g))
each_delivers doc k (x ∷ l) h e b (inr at) is due =
    let g = each (λ e. deliver_due doc k (back_of e.actor e.fact)) l h in
    heard_more k b.who b.call.number g (deliver_due doc k (back_of x.actor x.fact) g) (deliver_adds doc k (back_of x.actor x.fact) g g (tail_all g)) (each_delivers doc k l h e b at is due)

-- one that is on its way before the beat
pub comes_now : (doc : Doc) (k : ℕ) (e : Entry) (b : Back) → In e (history doc k) → back_of e.actor e.fact ≡ Some b → is_due k b.comes ≡ true → IsHeard k b.who b.call.number (three_steps doc k (history doc k))
comes_now doc k e b at is due =
    let h = history doc k in
    let h1 = step_one doc k h in
    let h2 = step_two doc k h1 in
    let tail : IsTail h h2 = two_adds doc k h h1 (one_adds doc k h h (tail_all h)) in
    subst (IsHeard k b.who b.call.number) (sym (step_three-walks doc k h2)) (each_delivers doc k h2 h2 e b (in_tail e h h2 tail at) is due)
