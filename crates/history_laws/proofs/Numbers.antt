-- The numbers of requests count them.
use Rattle.std.proofs.Common.{◌≡◌, ℕ, ◌+◌, ◌&&◌, true, List, [], ◌∷◌, Option, Some, IfSome, sym, ap, subst, inl, inr, ⊎_elim, arith}
use Rattle.kube_objects.specs.declared.key.Key.{Key}
use Rattle.kube_objects.specs.declared.object.Object.{Object}
use Rattle.kube_objects.specs.declared.deed.Actor.{Actor}
use Rattle.kube_objects.specs.declared.deed.Actor.TheVariants as actor
use Rattle.kube_objects.specs.Clocks.{store_wall, whole_second}
use Rattle.kube_objects.specs.Document.{Doc}
use Rattle.kube_objects.specs.Entry.{Entry, Call, Fact, First, Event, Starts, Crashes, Stops, Stalls, Ends, ReleaseBegins, ReleaseEnds, StepsDown, ReleaseStops, Sends, Answers, Delivers, Expires, Leads, Ticks, script_entry}
use Rattle.kube_objects.specs.Identities.{identity, is_same, is_by, identity_of}
use Rattle.kube_objects.specs.Newest.{added}
use Rattle.kube_objects.specs.Process.{begun, is_send}
use Rattle.kube_objects.specs.Stamps.{stamped}
use Rattle.kube_objects.specs.Wire.{Sent, sent_as, sent_of}
use Rattle.history.specs.History.{put_all, history}
use Rattle.history_laws.specs.Tails.{IsTail}
use Rattle.history_laws.specs.Calls.{NumbersCount, NumbersDiffer}
use Rattle.history_laws.proofs.Plainly.{some_is, none_is, same_self}
use Rattle.history_laws.proofs.Tailed.{tail_of_empty, same_head, same_rest, tails_meet, begun_tail}
use Rattle.history_laws.proofs.Walk.{CallIsNext, Keeps, KeepsRelease, all_kinds, all_release, walk_history}

abbrev Numbered : List Entry → Type 0
Numbered h = (e : Entry) (before : List Entry) → IsTail (e ∷ before) h → IfSome (sent_of e.actor e.fact) (CallIsNext before)

numbered_more : (x : Entry) (h : List Entry) → IfSome (sent_of x.actor x.fact) (CallIsNext h) → Numbered h → Numbered (x ∷ h)
numbered_more x h new s e before (inl is) =
    subst (λ (e : Entry). IfSome (sent_of e.actor e.fact) (CallIsNext before)) (sym (same_head e x before h is))
    (subst (λ g. IfSome (sent_of x.actor x.fact) (CallIsNext g)) (sym (same_rest e x before h is)) new)
numbered_more x h new s e before (inr at) = s e before at

numbered_keeps : (doc : Doc) → Keeps doc (λ k step h. Numbered h)
numbered_keeps doc = all_kinds doc (λ k step h. Numbered h) (λ k step h s. s) (λ k h s. s) (λ x h next s. numbered_more x h next.1 s)

numbered_release : (doc : Doc) → KeepsRelease doc (λ k step h. Numbered h)
numbered_release doc = all_release doc (λ k step h. Numbered h) (λ x h next s. numbered_more x h next.1 s)

put_numbered : (doc : Doc) (xs : List (Key × Object)) (h : List Entry) → Numbered h → Numbered (put_all doc xs h)
put_numbered doc [] h s = s
put_numbered doc (x ∷ xs) h s =
    let e = script_entry 0 0 (First x.0 (stamped (whole_second (store_wall doc 0)) x.1)) in
    put_numbered doc xs (e ∷ h) (numbered_more e h tt s)

pub numbers_count : NumbersCount
numbers_count doc k = walk_history doc (λ k step h. Numbered h) (numbered_keeps doc) (numbered_release doc) (put_numbered doc doc.objects [] (λ e before at. absurd (tail_of_empty e before at))) k

-- a request raises its sender's number of requests by one
sent_counts : (e : Entry) (h : List Entry) (s : Sent) → sent_of e.actor e.fact ≡ Some s → begun s.who (e ∷ h) ≡ begun s.who h + 1
sent_counts e h s is = cases e.actor e.fact is
  where
    by_actor : (who : Actor) → (call : Call) (arrives : Option ℕ) → sent_as call arrives (identity_of who) ≡ Some s → added (is_by s.who who) (begun s.who h) ≡ begun s.who h + 1
    by_actor actor.Script call arrives is = absurd (none_is s is)
    by_actor (actor.Proc id i) call arrives is =
        let who : identity id.0 i ≡ s.who = ap (λ (s : Sent). s.who) (some_is (record { who = identity id.0 i; call = call; arrives = arrives }) s is) in
        ap (λ b. added b (begun s.who h)) (subst (λ q. is_same (identity id.0 i) q ≡ true) who (same_self (identity id.0 i)))

    cases : (who : Actor) (d : Fact) → sent_of who d ≡ Some s → added (is_send d && is_by s.who who) (begun s.who h) ≡ begun s.who h + 1
    cases who (First key object) is = absurd (none_is s is)
    cases who (Event what version) is = absurd (none_is s is)
    cases who Starts is = absurd (none_is s is)
    cases who Crashes is = absurd (none_is s is)
    cases who Stops is = absurd (none_is s is)
    cases who (Stalls beats) is = absurd (none_is s is)
    cases who Ends is = absurd (none_is s is)
    cases who (ReleaseBegins at_deadline) is = absurd (none_is s is)
    cases who ReleaseEnds is = absurd (none_is s is)
    cases who StepsDown is = absurd (none_is s is)
    cases who ReleaseStops is = absurd (none_is s is)
    cases who (Sends call arrives) is = by_actor who call arrives is
    cases who (Answers call reply comes written) is = absurd (none_is s is)
    cases who (Delivers call reply counted) is = absurd (none_is s is)
    cases who (Expires call) is = absurd (none_is s is)
    cases who (Leads version) is = absurd (none_is s is)
    cases who (Ticks tick) is = absurd (none_is s is)

-- of two requests of one identity, the later one has the greater number
later_number : (e f : Entry) (g h : List Entry) (x y : Sent) → IsTail (e ∷ g) h → sent_of e.actor e.fact ≡ Some x → CallIsNext g x → CallIsNext h y → x.who ≡ y.who → x.call.number ≡ y.call.number → ⊥
later_number e f g h x y at is first second who same =
    let whose : begun y.who h ≡ begun x.who h = ap (λ q. begun q h) (sym who) in
    absurd (omega (arith, sent_counts e g x is, begun_tail x.who (e ∷ g) h at, first, second, same, whose))

next_of : (e : Entry) (g : List Entry) (x : Sent) → sent_of e.actor e.fact ≡ Some x → IfSome (sent_of e.actor e.fact) (CallIsNext g) → CallIsNext g x
next_of e g x is s = subst (λ o. IfSome o (CallIsNext g)) is s

pub numbers_differ : NumbersDiffer
numbers_differ doc k e f g h x y at_e at_f is_e is_f who same = ⊎_elim (λ a. earlier a) (λ b. later b) (tails_meet (e ∷ g) (f ∷ h) (history doc k) at_e at_f)
  where
    first : CallIsNext g x
    first = next_of e g x is_e (numbers_count doc k e g at_e)

    second : CallIsNext h y
    second = next_of f h y is_f (numbers_count doc k f h at_f)

    earlier : IsTail (e ∷ g) (f ∷ h) → e ∷ g ≡ f ∷ h
    earlier (inl one) = one
    earlier (inr at) = absurd (later_number e f g h x y at is_e first second who same)

    later : IsTail (f ∷ h) (e ∷ g) → e ∷ g ≡ f ∷ h
    later (inl one) = sym one
    later (inr at) = absurd (later_number f e h g y x at is_f second first (sym who) (sym same))
