-- Entries through which a kubelet stands: those of another actor, and those of a kind that a kubelet doesn't look at.
use Rattle.std.proofs.Common.{◌≡◌, ◌∙◌, ℕ, ◌+◌, ◌&&◌, not, Bool, true, false, List, ◌∷◌, Option, None, refl, sym, ap}
use Rattle.kube_objects.specs.declared.deed.Actor.{Actor}
use Rattle.kube_objects.specs.Clocks.{local}
use Rattle.kube_objects.specs.Document.{Doc}
use Rattle.kube_objects.specs.Entry.{Call, Fact, Delivers, Entry, Expires, Identity, ReleaseBegins, Sends, Starts}
use Rattle.kube_objects.specs.Identities.{is_by}
use Rattle.kube_objects.specs.Kubelet.{ends_round, is_post, is_post_call, round_period, round_says, round_timer_says}
use Rattle.kube_objects.specs.Newest.{added, has, join, or_else, or_zero, when}
use Rattle.kube_objects.specs.Process.{begun, call_says, is_send, last_call, open_as}
use Rattle.kube_objects.specs.Turns.{expired_in}
use Rattle.kube_objects.proofs.CallFrames.{call_slot-beside}
use Rattle.kube_objects.proofs.OwnCalls.{last_expired, said}
use Rattle.kubelet_node.specs.declared.kubelet.Kubelet.{Kubelet}
use Rattle.kubelet_node.specs.Moves.{is_of_kubelet}
use Rattle.kubelet_node.specs.Stands.{CallStands, IsSettled, KubeletStands, waiting_in}
use Rattle.kubelet_node.proofs.Own.{last_round, last_timer}

-- an entry that changes no reading of the identity
pub record IsQuiet (doc : Doc) (q : Identity) (h : List Entry) (e : Entry) : Type 0 where
  pub unsent : (is_send e.fact && is_by q e.actor) ≡ false
  pub call : call_says q e.actor e.fact ≡ None
  pub round : round_says q e.actor e.fact ≡ None
  pub timer : round_timer_says doc q e.beat e.actor e.fact ≡ None
  pub settled : IsSettled q h → IsSettled q (e ∷ h)

pub begun-beside : (doc : Doc) (q : Identity) (h : List Entry) (e : Entry) → IsQuiet doc q h e → begun q (e ∷ h) ≡ begun q h
begun-beside doc q h e w = ap (λ b. added b (begun q h)) w.unsent

call-beside : (doc : Doc) (q : Identity) (h : List Entry) (e : Entry) (x : Kubelet) → IsQuiet doc q h e → CallStands doc q h x → CallStands doc q (e ∷ h) x
call-beside doc q h e x w s =
    record {
      node = s.node;
      incarnation = s.incarnation;
      lease = s.lease;
      timeout = s.timeout;
      slot = call_slot-beside doc q h e x.slot w.unsent w.call s.slot;
      waiting = s.waiting ∙ ap (λ o. waiting_in doc q (join (said o (last_call q h)))) (sym w.call);
    }

pub kubelet-beside : (doc : Doc) (q : Identity) (h : List Entry) (e : Entry) (x : Kubelet) → IsQuiet doc q h e → KubeletStands doc q h x → KubeletStands doc q (e ∷ h) x
kubelet-beside doc q h e x w s =
    record {
      call = call-beside doc q h e x w s.call;
      timer = s.timer ∙ ap (λ o. or_zero (said o (last_timer doc q h))) (sym w.timer);
      runs = ap (λ o. or_else false (said o (last_round q h))) w.round ∙ s.runs ∙ ap (λ o. has (join (said o (last_call q h)))) (sym w.call);
      settled = w.settled s.settled;
    }

-- ---- entries of another actor

and_false : (b : Bool) → (b && false) ≡ false
and_false true = refl
and_false false = refl

module _ (doc : Doc) (q : Identity) (h : List Entry) (e : Entry) (other : is_by q e.actor ≡ false) where
  never : {A : Type 0} (b : Bool) (x : A) → when (b && is_by q e.actor) x ≡ None
  never b x = ap (λ o. when (b && o) x) other ∙ ap (λ o. when o x) (and_false b)

  call-foreign : (d : Fact) → call_says q e.actor d ≡ None
  call-foreign (Sends call arrives) = ap (λ b. when b (open_as call.kind call)) other
  call-foreign (Delivers call reply counted) = never {A = Option Call} counted None
  call-foreign (Expires call) = ap (λ b. when {A = Option Call} b None) other
  call-foreign (ReleaseBegins at_deadline) = ap (λ b. when {A = Option Call} b None) other
  call-foreign _ = refl

  round-foreign : (d : Fact) → round_says q e.actor d ≡ None
  round-foreign (Sends call arrives) = never (is_post call.request) true
  round-foreign (Delivers call reply counted) =
      ap (λ b. when (ends_round call.request reply && (counted && b)) false) other
      ∙ ap (λ b. when (ends_round call.request reply && b) false) (and_false counted)
      ∙ ap (λ b. when b false) (and_false (ends_round call.request reply))
  round-foreign (Expires call) = never (not (is_post call.request)) false
  round-foreign _ = refl

  timer-foreign : (d : Fact) → round_timer_says doc q e.beat e.actor d ≡ None
  timer-foreign Starts = ap (λ b. when b (local doc q.process e.beat)) other
  timer-foreign (Sends call arrives) = never (is_post call.request) (local doc q.process e.beat + round_period doc)
  timer-foreign _ = refl

  pub quiet-foreign : IsQuiet doc q h e
  quiet-foreign =
      record {
        unsent = ap (λ b. is_send e.fact && b) other ∙ and_false (is_send e.fact);
        call = call-foreign e.fact;
        round = round-foreign e.fact;
        timer = timer-foreign e.fact;
        settled = λ s n. ap (λ b. is_post_call (join (said (when b (expired_in n e.beat e.fact)) (last_expired q n h)))) other ∙ s n;
      }

pub kubelet-foreign : (doc : Doc) (q : Identity) (e : Entry) (h : List Entry) (x : Kubelet) → is_by q e.actor ≡ false → KubeletStands doc q h x → KubeletStands doc q (e ∷ h) x
kubelet-foreign doc q e h x other s = kubelet-beside doc q h e x (quiet-foreign doc q h e other) s

-- ---- entries of a kind that a kubelet doesn't look at, whoever's

still_settled : (b : Bool) (before : Option (Option Call)) → is_post_call (join before) ≡ false → is_post_call (join (said (when {A = Option Call} b None) before)) ≡ false
still_settled true before s = refl
still_settled false before s = s

module _ (doc : Doc) (q : Identity) (h : List Entry) (beat step : ℕ) (who : Actor) where
  pub quiet-kind : (d : Fact) → is_of_kubelet d ≡ false → IsQuiet doc q h (record { beat = beat; step = step; actor = who; fact = d })
  quiet-kind Starts is = absurd (cc)
  quiet-kind (Sends call arrives) is = absurd (cc)
  quiet-kind (Delivers call reply counted) is = absurd (cc)
  quiet-kind (Expires call) is = absurd (cc)
  quiet-kind (ReleaseBegins at_deadline) is = absurd (cc)
  quiet-kind _ is = record { unsent = refl; call = refl; round = refl; timer = refl; settled = λ s n. still_settled (is_by q who) (last_expired q n h) (s n) }

pub kubelet-quiet : (doc : Doc) (q : Identity) (e : Entry) (h : List Entry) (x : Kubelet) → is_of_kubelet e.fact ≡ false → KubeletStands doc q h x → KubeletStands doc q (e ∷ h) x
kubelet-quiet doc q e h x is s = kubelet-beside doc q h e x (quiet-kind doc q h e.beat e.step e.actor e.fact is) s
