-- What arrives at a beat is answered or delivered in it.
use Rattle.std.proofs.Common.{◌≡◌, ℕ, suc, true, List, [], ◌∷◌, Option, Some, refl, sym, ap, ◌∙◌, subst, inl, inr}
use Rattle.std.proofs.lemmas.Bool.{eq-eqb}
use Rattle.std.specs.Prelude.{if◌then◌else◌}
use Rattle.kube_objects.specs.Document.{Doc, processes}
use Rattle.kube_objects.specs.Entry.{Entry}
use Rattle.kube_objects.specs.InFlight.{is_due}
use Rattle.kube_objects.specs.Wire.{Sent, Back, sent_of, back_of}
use Rattle.history.specs.History.{history}
use Rattle.history.specs.Steps.{step_three, answered, delivered}
use Rattle.history.proofs.Due.{each, answer_due, deliver_due, step_two-walks, step_three-walks}
use Rattle.history_laws.specs.Tails.{In, IsTail}
use Rattle.history_laws.proofs.Tailed.{tail_all, tail_trans, each_adds, answer_adds, deliver_adds, one_adds, two_adds, three_adds, turns_add}
use Rattle.call_laws.specs.Answering.{with_events, with_answers, RequestsAreAnswered, RepliesAreDelivered}

-- each entry has its turn in a walk
record Done (f : Entry → List Entry → List Entry) (e : Entry) (h all : List Entry) : Type 0 where
  before : List Entry
  after : IsTail h before
  position : IsTail (f e before) all

each_done : (f : Entry → List Entry → List Entry) → ((e : Entry) (g h : List Entry) → IsTail g h → IsTail g (f e h)) → (e : Entry) (l h : List Entry) → In e l → Done f e h (each f l h)
each_done f adds e [] h at = absurd at
each_done f adds e (x ∷ l) h (inl is) = record {
  before = each f l h;
  after = each_adds f adds l h h (tail_all h);
  position = subst (λ e. IsTail (f e (each f l h)) (f x (each f l h))) (sym is) (tail_all (f x (each f l h)));
}
each_done f adds e (x ∷ l) h (inr at) =
    let d = each_done f adds e l h at in
    record { before = d.before; after = d.after; position = adds x (f e d.before) (each f l h) d.position }

-- ---- a beat's steps are positions of the history with it

pub answers_position : (doc : Doc) (k : ℕ) → IsTail (with_answers doc k) (history doc (suc k))
answers_position doc k =
    let two = with_answers doc k in
    turns_add doc k (processes doc) two (step_three doc k two) (three_adds doc k two two (tail_all two))

pub deliveries_position : (doc : Doc) (k : ℕ) → IsTail (step_three doc k (with_answers doc k)) (history doc (suc k))
deliveries_position doc k = let three = step_three doc k (with_answers doc k) in turns_add doc k (processes doc) three three (tail_all three)

pub events_position : (doc : Doc) (k : ℕ) → IsTail (with_events doc k) (history doc (suc k))
events_position doc k = let one = with_events doc k in tail_trans one (with_answers doc k) (history doc (suc k)) (two_adds doc k one one (tail_all one)) (answers_position doc k)

pub before_events : (doc : Doc) (k : ℕ) → IsTail (history doc k) (with_events doc k)
before_events doc k = one_adds doc k (history doc k) (history doc k) (tail_all (history doc k))

-- ---- the laws

due_now : (k : ℕ) (o : Option ℕ) → o ≡ Some k → is_due k o ≡ true
due_now k o is = subst (λ o. is_due k o ≡ true) (sym is) (eq-eqb k k refl)

answer_now : (doc : Doc) (k : ℕ) (o : Option Sent) (s : Sent) (h : List Entry) → o ≡ Some s → s.arrives ≡ Some k → answer_due doc k o h ≡ answered doc k s h
answer_now doc k o s h is arrives = ap (λ o. answer_due doc k o h) is ∙ ap (λ b. if b then answered doc k s h else h) (due_now k s.arrives arrives)

deliver_now : (doc : Doc) (k : ℕ) (o : Option Back) (b : Back) (h : List Entry) → o ≡ Some b → b.comes ≡ Some k → deliver_due doc k o h ≡ delivered doc k b h
deliver_now doc k o b h is comes = ap (λ o. deliver_due doc k o h) is ∙ ap (λ t. if t then delivered doc k b h else h) (due_now k b.comes comes)

pub requests_are_answered : RequestsAreAnswered
requests_are_answered doc k e s at is arrives =
    let one = with_events doc k in
    let d = each_done (λ e. answer_due doc k (sent_of e.actor e.fact)) (λ e g h at. answer_adds doc k (sent_of e.actor e.fact) g h at) e one one at in
    record {
      before = d.before;
      after = d.after;
      position =
          tail_trans (answered doc k s d.before) (with_answers doc k) (history doc (suc k))
          (subst (λ g. IsTail g (with_answers doc k)) (answer_now doc k (sent_of e.actor e.fact) s d.before is arrives)
          (subst (IsTail (answer_due doc k (sent_of e.actor e.fact) d.before)) (sym (step_two-walks doc k one)) d.position))
          (answers_position doc k);
    }

pub replies_are_delivered : RepliesAreDelivered
replies_are_delivered doc k e b at is comes =
    let two = with_answers doc k in
    let d = each_done (λ e. deliver_due doc k (back_of e.actor e.fact)) (λ e g h at. deliver_adds doc k (back_of e.actor e.fact) g h at) e two two at in
    record {
      before = d.before;
      after = d.after;
      position =
          tail_trans (delivered doc k b d.before) (step_three doc k two) (history doc (suc k))
          (subst (λ g. IsTail g (step_three doc k two)) (deliver_now doc k (back_of e.actor e.fact) b d.before is comes)
          (subst (IsTail (deliver_due doc k (back_of e.actor e.fact) d.before)) (sym (step_three-walks doc k two)) d.position))
          (deliveries_position doc k);
    }
