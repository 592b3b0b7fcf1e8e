-- What is there at once for who acts.
use Rattle.std.proofs.Common.{◌≡◌, ℕ, ◌&&◌, ◌||◌, not, Bool, true, false, List, [], ◌∷◌, Option, Some, None, refl, sym, ap, ◌∙◌}
use Rattle.kube_objects.specs.declared.key.Key.{Key}
use Rattle.kube_objects.specs.declared.object.Object.{Object}
use Rattle.kube_objects.specs.declared.rules.ReleaseRule.{ReleaseRule}
use Rattle.kube_objects.specs.declared.rules.ReleaseRule.TheVariants as rules
use Rattle.kube_objects.specs.Clocks.{local, store_wall, whole_second}
use Rattle.kube_objects.specs.Document.{Doc, is_controller}
use Rattle.kube_objects.specs.Elector.{deadline, in_term, acts_on, leads_on, is_before}
use Rattle.kube_objects.specs.Entry.{Entry, Identity, First, script_entry}
use Rattle.kube_objects.specs.Identities.{identity}
use Rattle.kube_objects.specs.Newest.{has}
use Rattle.kube_objects.specs.Process.{alive, is_present, is_releasing}
use Rattle.kube_objects.specs.Stamps.{stamped}
use Rattle.history.specs.History.{put_all, history}
use Rattle.history_laws.proofs.Plainly.{true_is, false_is, and_left, and_right, and_both}
use Rattle.agenda_laws.specs.Ticking.{is_due_at_once}
use Rattle.agenda_laws.specs.Waking.{ticks_on, goes_on, leads_at_once, wakes_as, wakes_of, IsAsleep, acts_at_once, acts_as}

-- who acts leads, and what is there at once for a leader asks for no beat
before_has : (now : ℕ) (o : Option ℕ) → is_before now o ≡ true → has o ≡ true
before_has now None is = is
before_has now (Some at) is = refl

term_has : (doc : Doc) (k : ℕ) (q : Identity) (h : List Entry) → in_term doc q k h ≡ true → has (deadline doc q h) ≡ true
term_has doc k q h is =
    before_has (local doc q.process k) (deadline doc q h) (and_right (is_present (alive q.process h) q.incarnation) (is_before (local doc q.process k) (deadline doc q h)) is)

or_more : (a b c : Bool) → (b ≡ true → c ≡ true) → (a || b) ≡ true → (a || c) ≡ true
or_more true b c more is = refl
or_more false b c more is = more is

released_goes : (doc : Doc) (k : ℕ) (q : Identity) (h : List Entry) → (acts_on doc q h || in_term doc q k h && not (is_releasing q h)) ≡ true
    → (acts_on doc q h || has (deadline doc q h) && not (is_releasing q h)) ≡ true
released_goes doc k q h is =
    let free = not (is_releasing q h) in
    or_more
    (acts_on doc q h)
    (in_term doc q k h && free)
    (has (deadline doc q h) && free)
    (λ both. and_both (has (deadline doc q h)) free (term_has doc k q h (and_left (in_term doc q k h) free both)) (and_right (in_term doc q k h) free both))
    is

leads_go : (rule : ReleaseRule) (doc : Doc) (k : ℕ) (q : Identity) (h : List Entry) → leads_on rule doc q k h ≡ true → ticks_on rule doc q h ≡ true
leads_go rules.Stop doc k q h is = term_has doc k q h is
leads_go rules.Own doc k q h is = released_goes doc k q h is
leads_go rules.Checked doc k q h is = released_goes doc k q h is
leads_go rules.Reread doc k q h is = released_goes doc k q h is

acts_leads : (doc : Doc) (k p : ℕ) (h : List Entry) (o : Option ℕ) → acts_at_once doc k p o h ≡ true → leads_at_once doc p o h ≡ true
acts_leads doc k p h None is = is
acts_leads doc k p h (Some i) is =
    let q = identity p i in
    let leads = leads_on doc.settings.rules.release doc q k h in
    and_both
    (goes_on doc q h)
    (is_due_at_once doc q h)
    (leads_go doc.settings.rules.release doc k q h (and_left leads (is_due_at_once doc q h) is))
    (and_right leads (is_due_at_once doc q h) is)

acting_wakes_as : (doc : Doc) (k j p : ℕ) (h : List Entry) (b : Bool) → acts_as doc k p b h ≡ true → ¬ IsAsleep doc j p (wakes_as doc p b h)
acting_wakes_as doc k j p h true is asleep = true_is (sym (acts_leads doc k p h (alive p h) is) ∙ asleep.at_once)
acting_wakes_as doc k j p h false is asleep = false_is is

-- what is there at once for who acts is there at each beat, on the same history
pub acting_wakes : (doc : Doc) (k j p : ℕ) (h : List Entry) → acts_as doc k p (is_controller doc p) h ≡ true → ¬ IsAsleep doc j p (wakes_of doc p h)
acting_wakes doc k j p h is = acting_wakes_as doc k j p h (is_controller doc p) is

none_up : (doc : Doc) (p : ℕ) (xs : List (Key × Object)) (h : List Entry) → alive p h ≡ None → alive p (put_all doc xs h) ≡ None
none_up doc p [] h none = none
none_up doc p (x ∷ xs) h none = none_up doc p xs (script_entry 0 0 (First x.0 (stamped (whole_second (store_wall doc 0)) x.1)) ∷ h) none

-- before beat 0 nobody is up
pub nobody_acts_first : (doc : Doc) (k p : ℕ) → acts_as doc k p (is_controller doc p) (history doc 0) ≡ false
nobody_acts_first doc k p = by_role (is_controller doc p)
  where
    by_role : (b : Bool) → acts_as doc k p b (history doc 0) ≡ false
    by_role true = ap (λ o. acts_at_once doc k p o (history doc 0)) (none_up doc p doc.objects [] refl)
    by_role false = refl
