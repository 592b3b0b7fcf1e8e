-- A reply is late exactly where the lease premise asks in vain that answers come.
use Rattle.std.proofs.Common.{◌≡◌, ℕ, ◌+◌, ◌<◌, ◌&&◌, not, nat_lt, Bool, true, false, cond, List, [], ◌∷◌, length, get_or, drop, Option, Some, None, is_none, refl, sym, ap, ◌∙◌, arith, drop-cons, suc}
use Rattle.kube_base.specs.declared.numbers.Beat.{Beat}
use Rattle.kube_objects.specs.declared.rules.ReleaseActing.{ReleaseActing}
use Rattle.kube_objects.specs.declared.rules.ReleaseActing.TheVariants.{Still, Acts}
use Rattle.kube_objects.specs.declared.script.Event.{Event}
use Rattle.kube_objects.specs.declared.script.What.{What}
use Rattle.kube_objects.specs.declared.script.What.TheVariants as whats
use Rattle.kube_objects.specs.Document.{Doc, is_controller}
use Rattle.history.specs.Premise.{is_prompt_event, are_prompt, answers_come}
use Rattle.lens_room.specs.declared.late.Late.{Late}
use Rattle.lens_room.specs.Late.{late_in, first_late, late_by}

-- an event of the first kind, or the events behind it
abbrev or_later : Option Late → Option Late → Option Late
or_later found later = elim found [ None ↦ later | Some late ↦ Some late ]

tells-both : (controls replies : Bool) (late : Late) (later : Option Late) (prompt : Bool) → prompt ≡ is_none later
    → (not (controls && replies) && prompt) ≡ is_none (or_later (cond replies (cond controls (Some late) None) None) later)
tells-both true true late later prompt same = refl
tells-both true false late later prompt same = same
tells-both false true late later prompt same = same
tells-both false false late later prompt same = same

module _ (doc : Doc) where
  tells-by : (place : ℕ) (beat : Beat) (what : What) (later : Option Late) (prompt : Bool) → prompt ≡ is_none later
      → (is_prompt_event doc what && prompt) ≡ is_none (or_later (late_in doc place beat what) later)
  tells-by place beat (whats.Loss who requests replies) later prompt same =
      tells-both (is_controller doc who.0) replies (record { place = place; beat = beat; who = who }) later prompt same
  tells-by place beat (whats.Delay who requests replies) later prompt same =
      tells-both (is_controller doc who.0) (nat_lt 3 replies) (record { place = place; beat = beat; who = who }) later prompt same
  tells-by place beat (whats.Rate id ppm) later prompt same = same
  tells-by place beat (whats.Crash id) later prompt same = same
  tells-by place beat (whats.Start id) later prompt same = same
  tells-by place beat (whats.Stop id) later prompt same = same
  tells-by place beat (whats.Watch id on) later prompt same = same
  tells-by place beat (whats.Ready id status) later prompt same = same
  tells-by place beat (whats.Pause id beats) later prompt same = same
  tells-by place beat (whats.Stall beats) later prompt same = same
  tells-by place beat (whats.Put key object) later prompt same = same
  tells-by place beat (whats.Remove key) later prompt same = same

  first-tells : (place : ℕ) (es : List Event) → are_prompt doc es ≡ is_none (first_late doc place es)
  first-tells place [] = refl
  first-tells place (e ∷ es) = tells-by place e.beat e.what (first_late doc (place + 1) es) (are_prompt doc es) (first-tells (place + 1) es)

pub late-tells : (acting : ReleaseActing) (doc : Doc) → answers_come acting doc ≡ is_none (late_by acting doc)
late-tells Still doc = refl
late-tells Acts doc = first-tells doc 0 doc.events

-- ---- one step of the search

module _ (doc : Doc) (events : List Event) (place : ℕ) (e : Event) (inside : place < length events) (is : e ≡ get_or events place e) where
  rest-is : drop place events ≡ e ∷ drop (place + 1) events
  rest-is =
      let next : suc place ≡ place + 1 = omega arith in
      drop-cons events place e inside ∙ (λ i. sym is i ∷ drop (next i) events)

  pub late-found : (late : Late) → late_in doc place e.beat e.what ≡ Some late → first_late doc place (drop place events) ≡ Some late
  late-found late found = ap (first_late doc place) rest-is ∙ ap (λ o. or_later o (first_late doc (place + 1) (drop (place + 1) events))) found

  pub late-later : late_in doc place e.beat e.what ≡ None → first_late doc place (drop place events) ≡ first_late doc (place + 1) (drop (place + 1) events)
  late-later none = ap (first_late doc place) rest-is ∙ ap (λ o. or_later o (first_late doc (place + 1) (drop (place + 1) events))) none
