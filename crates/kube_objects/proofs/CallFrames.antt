-- Which entries a call slot stands through.
use Rattle.std.proofs.Common.{◌≡◌, ◌&&◌, Bool, true, false, List, [], ◌∷◌, Option, Some, None, refl, sym, ap, ◌∙◌, arith}
use Rattle.kube_objects.specs.declared.call_slot.CallSlot.{CallSlot}
use Rattle.kube_objects.specs.declared.deed.Actor.{Actor}
use Rattle.kube_objects.specs.CallSlots.{CallSlotStands, waiting_as, release_of}
use Rattle.kube_objects.specs.Document.{Doc}
use Rattle.kube_objects.specs.Entry.{Entry, Identity, Call, Fact, ReleaseBegins, Sends, Delivers, Expires}
use Rattle.kube_objects.specs.Identities.{is_by}
use Rattle.kube_objects.specs.Newest.{added, when, join}
use Rattle.kube_objects.specs.Process.{begun, call_in, last_call, call_says, is_send, open_as}

-- what the last entry says, before which the others said this
abbrev pub said : Option (Option Call) → Option (Option Call) → Option (Option Call)
said now before = elim now [ None ↦ before | Some x ↦ Some x ]

-- an identity that has sent nothing has no call
pub call_in-unbegun : (q : Identity) (h : List Entry) → begun q h ≡ 0 → call_in q h ≡ None
call_in-unbegun q [] none = refl
call_in-unbegun q (e ∷ h) none = by_fact e.fact e.actor none (λ n. call_in-unbegun q h n)
  where
    count_before : (b : Bool) → added b (begun q h) ≡ 0 → begun q h ≡ 0
    count_before true n = absurd (omega (arith, n))
    count_before false n = n

    sent : (call : Call) (b : Bool) → added b (begun q h) ≡ 0 → (begun q h ≡ 0 → join (last_call q h) ≡ None) → join (said (when b (open_as call.kind call)) (last_call q h)) ≡ None
    sent call true n rest = absurd (omega (arith, n))
    sent call false n rest = rest n

    ended : (b : Bool) → (begun q h ≡ 0 → join (last_call q h) ≡ None) → begun q h ≡ 0 → join (said (when b None) (last_call q h)) ≡ None
    ended true rest n = refl
    ended false rest n = rest n

    by_fact : (d : Fact) (who : Actor) → added (is_send d && is_by q who) (begun q h) ≡ 0 → (begun q h ≡ 0 → join (last_call q h) ≡ None) → join (said (call_says q who d) (last_call q h)) ≡ None
    by_fact (Sends call arrives) who n rest = sent call (is_by q who) n rest
    by_fact (Delivers call reply counted) who n rest = ended (counted && is_by q who) rest n
    by_fact (Expires call) who n rest = ended (is_by q who) rest n
    by_fact (ReleaseBegins at_deadline) who n rest = ended (is_by q who) rest n
    by_fact _ who n rest = rest n

-- an entry that isn't looked at; for an entry with a fact of another kind both premises are `refl`
pub call_slot-beside : (doc : Doc) (q : Identity) (h : List Entry) (e : Entry) (slot : CallSlot) → (is_send e.fact && is_by q e.actor) ≡ false → call_says q e.actor e.fact ≡ None → CallSlotStands doc q h slot → CallSlotStands doc q (e ∷ h) slot
call_slot-beside doc q h e slot unsent unsaid s =
    record {
      begun = s.begun ∙ ap (λ b. added b (begun q h)) (sym unsent);
      waiting = s.waiting ∙ ap (λ o. waiting_as doc q (join (said o (last_call q h)))) (sym unsaid);
      ordinary = ap (λ o. release_of doc (join (said o (last_call q h)))) unsaid ∙ s.ordinary;
    }

-- an entry of another identity
pub call_slot-foreign : (doc : Doc) (q : Identity) (h : List Entry) (e : Entry) (slot : CallSlot) → is_by q e.actor ≡ false → CallSlotStands doc q h slot → CallSlotStands doc q (e ∷ h) slot
call_slot-foreign doc q h e slot other = call_slot-beside doc q h e slot (ap (λ b. is_send e.fact && b) other ∙ unsent (is_send e.fact)) (by_fact e.fact (is_by q e.actor) other)
  where
    unsent : (b : Bool) → (b && false) ≡ false
    unsent true = refl
    unsent false = refl

    never : (c : Bool) → when {A = Option Call} (c && false) None ≡ None
    never true = refl
    never false = refl

    by_fact : (d : Fact) (b : Bool) → b ≡ false → call_says q e.actor d ≡ None
    by_fact (Sends call arrives) b is = ap (λ b. when b (open_as call.kind call)) other
    by_fact (Delivers call reply counted) b is = ap (λ b. when {A = Option Call} (counted && b) None) other ∙ never counted
    by_fact (Expires call) b is = ap (λ b. when {A = Option Call} b None) other
    by_fact (ReleaseBegins at_deadline) b is = ap (λ b. when {A = Option Call} b None) other
    by_fact _ b is = refl
