-- What an answered request prints, writes and carries can be written.
use Rattle.std.proofs.Common.{◌≡◌, ℕ, ◌≤◌, ◌==◌, ◌&&◌, ◌||◌, Bool, true, false, cond, List, Option, Some, None, refl, sym, ap, subst, arith}
use Rattle.kube_base.specs.Times.{last_wall}
use Rattle.kube_base.specs.declared.numbers.Version.{Version}
use Rattle.kube_objects.specs.declared.call.Answer.TheVariants as answers
use Rattle.kube_objects.specs.declared.call.Reply.{Reply}
use Rattle.kube_objects.specs.declared.call.Reply.TheVariants as reply
use Rattle.kube_objects.specs.declared.call.Request.{Request}
use Rattle.kube_objects.specs.declared.call.Request.TheVariants.{Get, Create, Update, PostStatus}
use Rattle.kube_base.specs.declared.numbers.Wall.{Wall}
use Rattle.kube_objects.specs.declared.deed.Act.TheVariants as act
use Rattle.kube_objects.specs.declared.key.Key.{Key}
use Rattle.kube_objects.specs.declared.lease.Lease.{Lease}
use Rattle.kube_objects.specs.declared.node.Node.{Node}
use Rattle.kube_objects.specs.declared.node.Ready.{Ready}
use Rattle.kube_objects.specs.declared.node.ReadyStatus.{ReadyStatus}
use Rattle.kube_objects.specs.declared.node.ReadyStatus.TheVariants as ready
use Rattle.kube_objects.specs.declared.object.Object.{Object}
use Rattle.kube_objects.specs.declared.object.Object.TheVariants as object
use Rattle.kube_objects.specs.Answers.{as_kind, node_in, lease_in, same_status, kubelet_reason, is_recent, posted_as, posted_ready, with_ready, posted_node, answer_get, answer_create, answer_update, answer_post, answer, node_object, if_done, written}
use Rattle.kube_objects.specs.Clocks.{whole_second}
use Rattle.kube_objects.specs.Entry.{Entry, Identity, Call, Answers as Answered, actor_of}
use Rattle.kube_objects.specs.Newest.{or_zero}
use Rattle.kube_objects.specs.Stored.{Held, node_key, key_of, request_write, stored, next_version}
use Rattle.kube_objects.specs.Writable.{is_election, is_node_lease, is_posted}
use Rattle.history.specs.Printed.{answer_act, map_answer}
use Rattle.manifest_json.specs.Fields.{Texts}
use Rattle.manifest_json.specs.Readable.{IsHeld, IsNameNumber, IsWholeSecond, IsReadableCondition, IsReadableReady}
use Rattle.script_reader.specs.Lawful.{IsSpaceNumber}
use Rattle.naming_laws.specs.WellFormed.{IsWellFormedLease, IsWellFormedItem}
use Rattle.naming_laws.proofs.Fits.{IsLeaseKey, IsFitRequest, IsFitReply, IsFitContent, IsFitWrite, IsTold, IsFitFact, AreFit, stored_fit, IsFitFound, node_stored_fit}
use Rattle.naming_laws.proofs.Texts.{HoldsFixed}

second_within : (at : ℕ) → whole_second at ≤ at
second_within at = omega arith

pub second_whole : (at : ℕ) → at ≤ last_wall → IsWholeSecond (Some (record { 0 = whole_second at }))
second_whole at early = (omega (arith, early, second_within at), omega arith)

module _ (names : Texts) (known : List ℕ) (fixed : HoldsFixed names) (h : List Entry) (fit : AreFit names known h) where
  -- ---- what is printed

  and_true : (b : Bool) → b ≡ true → (b && true) ≡ true
  and_true true is = refl
  and_true false is = is

  created_told : (q : Identity) (key : Key) (lease : Lease) → IsLeaseKey names key → (o : Option Held) → IsTold names (actor_of q) (answer_act (Create key lease) (answer_create (next_version h) o))
  created_told q key lease asked None = (record { form = and_true (is_election key || is_node_lease key) asked.1; held = (asked.2.0, (asked.3.0, tt)); timely = tt }, refl)
  created_told q key lease asked (Some x) = (record { form = and_true (is_election key || is_node_lease key) asked.1; held = (asked.2.0, (asked.3.0, tt)); timely = tt }, refl)

  updated_told : (q : Identity) (key : Key) (given : Version) (lease : Lease) → IsLeaseKey names key → (o : Option Held)
      → IsTold names (actor_of q) (answer_act (Update key given lease) (answer_update (next_version h) given o))
  updated_told q key given lease asked o = cases o
    where
      refused : (e n : Bool) → (e || n) ≡ true → ((e || n && true) && true) ≡ true
      refused true n is = refl
      refused false true is = refl
      refused false false is = is

      by_key : (e : Bool) → is_election key ≡ e → IsTold names (actor_of q) (answer_act (Update key given lease) (reply.Done (next_version h)))
      by_key true is = subst (λ e. IsTold names (actor_of q) (map_answer (λ a. act.Update key a (or_zero lease.transitions)) (cond e (Some (answers.Done (next_version h))) None))) (sym is)
          (record { form = ap (λ e. (e || is_node_lease key && false) && true) is; held = (asked.2.0, (asked.3.0, tt)); timely = tt }, refl)
      by_key false is = subst (λ e. IsTold names (actor_of q) (map_answer (λ a. act.Update key a (or_zero lease.transitions)) (cond e (Some (answers.Done (next_version h))) None))) (sym is) tt

      by_version : (x : Held) (b : Bool) → IsTold names (actor_of q) (answer_act (Update key given lease) (cond b (reply.Done (next_version h)) (reply.Conflict x.version)))
      by_version x true = by_key (is_election key) refl
      by_version x false = (record { form = refused (is_election key) (is_node_lease key) asked.1; held = (asked.2.0, (asked.3.0, tt)); timely = tt }, refl)

      cases : (o : Option Held) → IsTold names (actor_of q) (answer_act (Update key given lease) (answer_update (next_version h) given o))
      cases None = (record { form = refused (is_election key) (is_node_lease key) asked.1; held = (asked.2.0, (asked.3.0, tt)); timely = tt }, refl)
      cases (Some x) = by_version x (x.version.0 == given.0)

  posted_told : (q : Identity) (name : ℕ) (status : ReadyStatus) (at : Wall) → IsHeld names name → is_posted status ≡ true → (o : Option (Version × Node)) (written : Option Node)
      → IsTold names (actor_of q) (answer_act (PostStatus name status at) (answer_post (next_version h) o written))
  posted_told q name status at held posted None written = (record { form = and_true (is_posted status) posted; held = (held, tt); timely = tt }, refl)
  posted_told q name status at held posted (Some x) None = tt
  posted_told q name status at held posted (Some x) (Some node) = (record { form = and_true (is_posted status) posted; held = (held, tt); timely = tt }, refl)

  answer_told : (q : Identity) (r : Request) → IsFitRequest names known r → IsTold names (actor_of q) (answer_act r (answer r h))
  answer_told q (Get key) asked = tt
  answer_told q (Create key lease) asked = created_told q key lease asked.0 (stored key h)
  answer_told q (Update key given lease) asked = updated_told q key given lease asked.0 (stored key h)
  answer_told q (PostStatus name status at) asked =
      posted_told q name status at asked.0.0 asked.1 (as_kind node_in (stored (node_key name) h)) (posted_node status at.0 (as_kind node_in (stored (node_key name) h)))

  -- ---- what is written

  posted_ready_fit : (status : ReadyStatus) (at : ℕ) → IsWholeSecond (Some (record { 0 = at })) → (o : Option Ready) → IsReadableReady names o → IsReadableReady names (posted_ready status at o)
  posted_ready_fit status at early o old = cases o old
    where
      as_fit : (transition : Option Wall) → IsWholeSecond transition → IsReadableCondition names (posted_as status at transition)
      as_fit transition time = record { reason = by_status status; heartbeat = early; transition = time }
        where
          by_status : (s : ReadyStatus) → IsHeld names (kubelet_reason s)
          by_status ready.True = omega (arith, fixed.held)
          by_status ready.False = omega (arith, fixed.held)
          by_status ready.Unknown = omega (arith, fixed.held)

      by_recent : (r : Ready) → IsWholeSecond r.transition → (b : Bool) → IsReadableReady names (cond b None (Some (posted_as status at r.transition)))
      by_recent r time true = tt
      by_recent r time false = as_fit r.transition time

      by_same : (r : Ready) → IsWholeSecond r.transition → (b : Bool)
          → IsReadableReady names (cond b (cond (is_recent at r.heartbeat) None (Some (posted_as status at r.transition))) (Some (posted_as status at (Some (record { 0 = at })))))
      by_same r time true = by_recent r time (is_recent at r.heartbeat)
      by_same r time false = as_fit (Some (record { 0 = at })) early

      cases : (o : Option Ready) → IsReadableReady names o → IsReadableReady names (posted_ready status at o)
      cases None old = as_fit (Some (record { 0 = at })) early
      cases (Some r) old = by_same r old.transition (same_status r.status status)

  posted_written : (name : ℕ) (status : ReadyStatus) (at : Wall) → IsNameNumber names name → at.0 ≤ last_wall → (o : Option (Version × Node)) → ((y : Version × Node) → o ≡ Some y → IsFitFound names known name y.1)
      → IsFitWrite names known (request_write (PostStatus name status at) (node_object (posted_node status at.0 o)))
  posted_written name status at held early None found = tt
  posted_written name status at held early (Some y) found =
      by_ready (posted_ready status (whole_second at.0) y.1.ready)
      (posted_ready_fit status (whole_second at.0) (second_whole at.0 early) y.1.ready (found y refl).fit.ready)
    where
      by_ready : (o : Option Ready) → IsReadableReady names o → IsFitWrite names known (request_write (PostStatus name status at) (node_object (with_ready y.1 o)))
      by_ready None new = tt
      by_ready (Some r) new =
          let old = (found y refl).fit in
          record { kind = refl; named = (held, refl); object = record { region = old.region; zone = old.zone; taints = old.taints; differ = old.differ; ready = new } }

  lease_content : (key : Key) (lease : Lease) → IsLeaseKey names key → IsWellFormedLease names known lease → (replied : Reply) → (r : Request) → key_of r ≡ key → IsFitWrite names known (request_write r (if_done replied (object.Lease lease)))
  lease_content key lease asked fit (reply.Done version) r at = subst (λ key. IsFitContent names known key (Some (object.Lease lease))) (sym at) (record { kind = asked.0; named = (asked.3, subst (λ kind. IsSpaceNumber names kind key.space) (sym asked.0) asked.2); object = fit })
  lease_content key lease asked fit (reply.Found version l) r at = tt
  lease_content key lease asked fit reply.Absent r at = tt
  lease_content key lease asked fit reply.Exists r at = tt
  lease_content key lease asked fit (reply.Conflict version) r at = tt
  lease_content key lease asked fit reply.Unchanged r at = tt

  answer_written : (r : Request) → IsFitRequest names known r → IsFitWrite names known (request_write r (written r h))
  answer_written (Get key) asked = tt
  answer_written (Create key lease) asked = lease_content key lease asked.0 asked.1 (answer (Create key lease) h) (Create key lease) refl
  answer_written (Update key given lease) asked = lease_content key lease asked.0 asked.1 (answer (Update key given lease) h) (Update key given lease) refl
  answer_written (PostStatus name status at) asked =
      posted_written name status at asked.0 asked.2 (as_kind node_in (stored (node_key name) h)) (λ y is. node_stored_fit names known h fit name y is)

  -- ---- what is replied

  get_fit : (o : Option Held) (key : Key) → ((x : Held) → o ≡ Some x → IsWellFormedItem names known key x.object) → IsFitReply names known (answer_get (as_kind lease_in o))
  get_fit None key found = tt
  get_fit (Some x) key found = by_kind x.object (found x refl)
    where
      by_kind : (object : Object) → IsWellFormedItem names known key object → IsFitReply names known (answer_get (as_kind lease_in (Some (record x { object = object }))))
      by_kind (object.Lease lease) item = item.object
      by_kind (object.Node node) item = tt
      by_kind (object.Pod pod) item = tt

  answer_fit : (r : Request) → IsFitReply names known (answer r h)
  answer_fit (Get key) = get_fit (stored key h) key (λ x is. stored_fit names known h fit key x is)
  answer_fit (Create key lease) = by (stored key h)
    where
      by : (o : Option Held) → IsFitReply names known (answer_create (next_version h) o)
      by None = tt
      by (Some x) = tt
  answer_fit (Update key given lease) = by (stored key h)
    where
      by_version : (x : Held) (b : Bool) → IsFitReply names known (cond b (reply.Done (next_version h)) (reply.Conflict x.version))
      by_version x true = tt
      by_version x false = tt

      by : (o : Option Held) → IsFitReply names known (answer_update (next_version h) given o)
      by None = tt
      by (Some x) = by_version x (x.version.0 == given.0)
  answer_fit (PostStatus name status at) = by (as_kind node_in (stored (node_key name) h)) (posted_node status at.0 (as_kind node_in (stored (node_key name) h)))
    where
      by : (o : Option (Version × Node)) (w : Option Node) → IsFitReply names known (answer_post (next_version h) o w)
      by None w = tt
      by (Some x) None = tt
      by (Some x) (Some node) = tt

  pub answered_fit : (q : Identity) (call : Call) (comes : Option ℕ) → IsFitRequest names known call.request
      → IsFitFact names known (actor_of q) (Answered call (answer call.request h) comes (written call.request h))
  answered_fit q call comes asked = record { told = answer_told q call.request asked; wrote = answer_written call.request asked; carries = (asked, answer_fit call.request) }
