-- A kubelet after each step of a round.
use Rattle.std.proofs.Common.{◌≡◌, ◌∙◌, ℕ, ◌+◌, ◌&&◌, ◌||◌, not, Bool, true, false, cond, List, ◌∷◌, Option, Some, None, refl, sym, ap, subst}
use Rattle.std.specs.Prelude.{if◌then◌else◌}
use Rattle.kube_objects.specs.declared.call.Ask.{Ask}
use Rattle.kube_objects.specs.declared.call.Reply.{Reply}
use Rattle.kube_objects.specs.declared.call.Reply.TheVariants as reply
use Rattle.kube_objects.specs.declared.call.Request.{Request}
use Rattle.kube_objects.specs.declared.call.Request.TheVariants.{Get, Create, Update, PostStatus}
use Rattle.kube_objects.specs.declared.call_slot.CallSlot.{CallSlot}
use Rattle.kube_objects.specs.CallSlots.{CallSlotStands, is_late_call, release_of}
use Rattle.kube_objects.specs.Clocks.{local}
use Rattle.kube_objects.specs.Document.{Doc}
use Rattle.kube_objects.specs.Elector.{acts_on}
use Rattle.kube_objects.specs.Entry.{Call, Entry, Expires, Identity, Plain, Sends, entry}
use Rattle.kube_objects.specs.InForce.{posted_status}
use Rattle.kube_objects.specs.Kubelet.{ends_round, has_round, is_post, next_request, round_period, round_timer}
use Rattle.kube_objects.specs.Newest.{has, only_if}
use Rattle.kube_objects.specs.Process.{answered_call, call_in, counted, is_late, release_begun}
use Rattle.kube_objects.specs.Releases.{and_end}
use Rattle.kube_objects.specs.Turns.{expire_as, expire_call, expired, with_reply}
use Rattle.kube_objects.specs.Wire.{next_call}
use Rattle.kube_objects.proofs.OwnCalls.{call_in-expired, call_in-sent, call_in-with_reply, late_expires, none_late}
use Rattle.kubelet_node.specs.declared.kubelet.Kubelet.{Kubelet}
use Rattle.kubelet_node.specs.declared.waiting.Awaited.{Awaited}
use Rattle.kubelet_node.specs.declared.waiting.Waiting.{Waiting}
use Rattle.kubelet_node.specs.Moves.{Asked, Expired}
use Rattle.kubelet_node.specs.Plain.{is_post_awaited, is_post_wait}
use Rattle.kubelet_node.specs.Requests.{awaited_in}
use Rattle.kubelet_node.specs.Stands.{CallStands, KubeletStands, Wait, waiting_in, waiting_of}
use Rattle.kubelet_node.proofs.Own.{post_expired, round-with_reply, round-expired, round-sent, settled-no_post, settled-own, timer-sent}

pub counted-accepts : (doc : Doc) (q : Identity) (k number : ℕ) (h : List Entry) (call : Call) → counted doc q k number h ≡ Some call → has (answered_call doc q k number (call_in q h)) ≡ true
counted-accepts doc q k number h call is = by_life _ (answered_call doc q k number (call_in q h)) is
  where
    by_life : (b : Bool) (c : Option Call) → only_if b c ≡ Some call → has c ≡ true
    by_life true c is = ap has is
    by_life false c is = absurd (cc)

abbrev awaited_or : Awaited → Option Wait → Awaited
awaited_or other None = other
awaited_or other (Some w) = w.awaited

-- what the kubelet awaits is after the request of the call that waits
pub awaited-waiting : (doc : Doc) (q : Identity) (w : Waiting) (call : Call) → waiting_of (Some w) ≡ waiting_in doc q (Some call) → w.awaited ≡ awaited_in call.request
awaited-waiting doc q w call is = ap (awaited_or (awaited_in call.request)) is

pub post-awaited : (request : Request) → is_post_awaited (awaited_in request) ≡ is_post request
post-awaited (PostStatus name status at) = refl
post-awaited (Get key) = refl
post-awaited (Create key lease) = refl
post-awaited (Update key given lease) = refl

-- ---- the expiry of a turn

module _ (doc : Doc) (k : ℕ) (q : Identity) (h : List Entry) where
  status_end : (b : Bool) → posted_status doc q.process (and_end k 4 q b h) ≡ posted_status doc q.process h
  status_end true = refl
  status_end false = refl

  status_expired : (call : Call) (o : Option ℕ) → posted_status doc q.process (expire_as doc k q call o h) ≡ posted_status doc q.process h
  status_expired call None = refl
  status_expired call (Some begun) = status_end (acts_on doc q h)

  status_as : (call : Call) (b : Bool) → posted_status doc q.process (if b then expire_as doc k q call (release_begun doc.settings.rules.release call.kind) h else h) ≡ posted_status doc q.process h
  status_as call true = status_expired call (release_begun doc.settings.rules.release call.kind)
  status_as call false = refl

  pub status-expiry : (c : Option Call) → posted_status doc q.process (expire_call doc k q c h) ≡ posted_status doc q.process h
  status-expiry None = refl
  status-expiry (Some call) = status_as call (is_late doc q k call)

  pub expired-none : (x : Kubelet) → KubeletStands doc q h x → is_late_call doc q k (call_in q h) ≡ false → Expired doc k q (expired doc k q h) x false
  expired-none x s late =
      subst (λ T. Expired doc k q T x false) (sym (none_late doc k q h (call_in q h) late))
      (record { call = s.call; timer = s.timer; runs = s.runs; posts = s.settled k; settled = λ is. s.settled })

  runs_on : (post : Bool) → (post && true) ≡ (post || false)
  runs_on true = refl
  runs_on false = refl

  expiry_of : (call : Call) (x : Kubelet) (slot : CallSlot) (posted : Bool) → KubeletStands doc q h x → call_in q h ≡ Some call → CallSlotStands doc q (entry k 4 q (Expires call) ∷ h) slot
      → posted ≡ is_post_wait (waiting_of x.waiting) → Expired doc k q (entry k 4 q (Expires call) ∷ h) (record x { slot = slot; waiting = None }) posted
  expiry_of call x slot posted s is free posted_is =
      let post_is : posted ≡ is_post call.request = posted_is ∙ ap is_post_wait (s.call.waiting ∙ ap (waiting_in doc q) is) ∙ post-awaited call.request in
      let gone = call_in-expired q h k 4 call in
      record {
        call = record {
          node = s.call.node;
          incarnation = s.call.incarnation;
          lease = s.call.lease;
          timeout = s.call.timeout;
          slot = free;
          waiting = sym (ap (waiting_in doc q) gone);
        };
        timer = s.timer;
        runs = round-expired q h k 4 call ∙ (λ i. is_post call.request && (s.runs ∙ ap has is) i) ∙ runs_on (is_post call.request) ∙ sym (λ i. post_is i || has (gone i));
        posts = post_expired q h k 4 call ∙ sym post_is;
        settled = λ none. settled-no_post q h k 4 call (sym post_is ∙ none);
      }

  pub expired-late : (c : Option Call) (x : Kubelet) (slot : CallSlot) (posted : Bool) → KubeletStands doc q h x → call_in q h ≡ c → is_late_call doc q k c ≡ true
      → ((call : Call) → CallSlotStands doc q (entry k 4 q (Expires call) ∷ h) slot) → posted ≡ is_post_wait (waiting_of x.waiting)
      → Expired doc k q (expire_call doc k q c h) (record x { slot = slot; waiting = None }) posted
  expired-late None x slot posted s is late free posted_is = absurd (cc)
  expired-late (Some call) x slot posted s is late free posted_is =
      subst (λ T. Expired doc k q T (record x { slot = slot; waiting = None }) posted) (sym (late_expires doc k q h call (ap (release_of doc) (sym is) ∙ s.call.slot.ordinary) late)) (expiry_of call x slot posted s is (free call) posted_is)

-- ---- a call begins

-- a request of a round, whose timer moves where it is a post
pub asked-stands : (doc : Doc) (k step : ℕ) (q : Identity) (h next : List Entry) (x : Kubelet) (ask : Ask) → Asked doc k step q h next (λ T. CallStands doc q T x) ask
    → x.timer.0 ≡ cond (is_post ask.request) (local doc q.process k + round_period doc) (round_timer doc q h) → (is_post ask.request || has_round q h) ≡ true
    → Asked doc k step q h next (λ T. KubeletStands doc q T x) ask
asked-stands doc k step q h next x ask a timer runs =
    record {
      sent = a.sent;
      number = a.number;
      stands = λ arrives. record {
        call = a.stands arrives;
        timer = timer ∙ sym (timer-sent q h k step ask.request arrives doc);
        runs = round-sent q h k step ask.request arrives ∙ runs ∙ sym (ap has (call_in-sent q h k step ask.request arrives Plain refl));
        settled = settled-own q h k step (Sends (next_call q k Plain ask.request h) arrives) (λ n. refl);
      };
    }

-- ---- a reply

-- where something follows the round goes on
pub not_over : (doc : Doc) (q : Identity) (k : ℕ) (request next : Request) (answered : Reply) → next_request doc q k request answered ≡ Some next → ends_round request answered ≡ false
not_over doc q k (PostStatus name status at) next answered is = refl
not_over doc q k (Get key) next (reply.Found version lease) is = refl
not_over doc q k (Get key) next reply.Absent is = refl
not_over doc q k (Get key) next (reply.Done version) is = absurd (cc)
not_over doc q k (Get key) next reply.Exists is = absurd (cc)
not_over doc q k (Get key) next (reply.Conflict version) is = absurd (cc)
not_over doc q k (Get key) next reply.Unchanged is = absurd (cc)
not_over doc q k (Create key lease) next answered is = absurd (cc)
not_over doc q k (Update key given lease) next answered is = absurd (cc)

module _ (doc : Doc) (k : ℕ) (q : Identity) (call : Call) (answered : Reply) (h : List Entry) where
  pub call-with_reply : (x : Kubelet) (slot : CallSlot) → CallStands doc q h x → CallSlotStands doc q (with_reply k q call answered h) slot → CallStands doc q (with_reply k q call answered h) (record x { slot = slot; waiting = None })
  call-with_reply x slot s free =
      record {
        node = s.node;
        incarnation = s.incarnation;
        lease = s.lease;
        timeout = s.timeout;
        slot = free;
        waiting = sym (ap (waiting_in doc q) (call_in-with_reply q h k call answered));
      }

  -- the round goes on
  pub runs-with_reply : (next : Request) → has_round q h ≡ has (call_in q h) → call_in q h ≡ Some call → next_request doc q k call.request answered ≡ Some next → has_round q (with_reply k q call answered h) ≡ true
  runs-with_reply next runs waits some = round-with_reply q h k call answered ∙ (λ i. not (not_over doc q k call.request next answered some i) && (runs ∙ ap has waits) i)
