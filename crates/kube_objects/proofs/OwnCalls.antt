-- What an identity's own entries say of its call: a request is sent, expires, or has its reply.
use Rattle.std.proofs.Common.{◌≡◌, ℕ, ◌+◌, ◌==◌, ◌&&◌, ◌||◌, nat_lt, Bool, true, false, List, ◌∷◌, Option, Some, None, refl, ap, ◌∙◌, arith}
use Rattle.std.specs.Prelude.{if◌then◌else◌}
use Rattle.std.proofs.lemmas.Bool.Decides.{nat_tests}
use Rattle.kube_objects.specs.declared.call.Reply.{Reply}
use Rattle.kube_objects.specs.declared.call.Request.{Request}
use Rattle.kube_objects.specs.declared.rules.ReleaseRule.{ReleaseRule}
use Rattle.kube_objects.specs.declared.rules.ReleaseRule.TheVariants.{Stop, Own, Checked, Reread}
use Rattle.kube_objects.specs.CallSlots.{is_late_call, waits}
use Rattle.kube_objects.specs.Clocks.{local}
use Rattle.kube_objects.specs.Document.{Doc, call_timeout}
use Rattle.kube_objects.specs.Elector.{acts_on}
use Rattle.kube_objects.specs.Entry.{Entry, Identity, Call, CallKind, Plain, Fast, Release, Look, Emptying, Fact, Sends, Expires, actor_of, entry}
use Rattle.kube_objects.specs.Identities.{is_by}
use Rattle.kube_objects.specs.Newest.{newest, only_if, when, join}
use Rattle.kube_objects.specs.Process.{answered_call, begun, begun_by, call_in, counted, is_late, is_release_over, last_call, release_begun}
use Rattle.kube_objects.specs.Releases.{and_end}
use Rattle.kube_objects.specs.Turns.{expire_as, expire_call, expired_in, just_expired, with_reply}
use Rattle.kube_objects.specs.Wire.{next_call}

pub mine : (q : Identity) → is_by q (actor_of q) ≡ true
mine q = grind (arith, nat_tests)

pub same_beat : (k : ℕ) → (k == k) ≡ true
same_beat k = grind (arith, nat_tests)

-- what an entry says, and else the entries before it
abbrev pub said : {A : Type 0} → Option A → Option A → Option A
said now before = elim now [ None ↦ before | Some x ↦ Some x ]

-- ---- a call that is of no release

begun_by-ordinary : (kind : CallKind) → waits kind ≡ true → begun_by kind ≡ None
begun_by-ordinary Plain waiting = refl
begun_by-ordinary Fast waiting = refl
begun_by-ordinary Release waiting = absurd (cc)
begun_by-ordinary (Look begun) waiting = absurd (cc)
begun_by-ordinary (Emptying begun) waiting = absurd (cc)

-- whatever the rule of releases
pub release_begun-ordinary : (rule : ReleaseRule) (kind : CallKind) → waits kind ≡ true → release_begun rule kind ≡ None
release_begun-ordinary Stop kind waiting = refl
release_begun-ordinary Own kind waiting = begun_by-ordinary kind waiting
release_begun-ordinary Checked kind waiting = begun_by-ordinary kind waiting
release_begun-ordinary Reread kind waiting = begun_by-ordinary kind waiting

-- its timeout alone makes it late
pub is_late-ordinary : (doc : Doc) (q : Identity) (k : ℕ) (call : Call) → release_begun doc.settings.rules.release call.kind ≡ None
    → is_late doc q k call ≡ nat_lt (local doc q.process call.sent + call_timeout doc q.process) (local doc q.process k)
is_late-ordinary doc q k call none =
    ap (λ o. is_release_over doc q k o || nat_lt (local doc q.process call.sent + call_timeout doc q.process) (local doc q.process k)) none

-- ---- the call that waits

pub call_in-sent : (q : Identity) (h : List Entry) (k step : ℕ) (request : Request) (arrives : Option ℕ) (kind : CallKind) → waits kind ≡ true →
    call_in q (entry k step q (Sends (next_call q k kind request h) arrives) ∷ h) ≡ Some (next_call q k kind request h)
call_in-sent q h k step request arrives Plain waiting = ap (λ b. join (said (when b (Some (next_call q k Plain request h))) (last_call q h))) (mine q)
call_in-sent q h k step request arrives Fast waiting = ap (λ b. join (said (when b (Some (next_call q k Fast request h))) (last_call q h))) (mine q)
call_in-sent q h k step request arrives Release waiting = absurd (cc)
call_in-sent q h k step request arrives (Look begun) waiting = absurd (cc)
call_in-sent q h k step request arrives (Emptying begun) waiting = absurd (cc)

pub call_in-expired : (q : Identity) (h : List Entry) (k step : ℕ) (call : Call) → call_in q (entry k step q (Expires call) ∷ h) ≡ None
call_in-expired q h k step call = ap (λ b. join (said (when {A = Option Call} b None) (last_call q h))) (mine q)

pub call_in-with_reply : (q : Identity) (h : List Entry) (k : ℕ) (call : Call) (answered : Reply) → call_in q (with_reply k q call answered h) ≡ None
call_in-with_reply q h k call answered = ap (λ b. join (said (when {A = Option Call} (true && b) None) (last_call q h))) (mine q)

-- a reply that counts, counts for the call that waits
pub counted-call : (doc : Doc) (q : Identity) (k number : ℕ) (h : List Entry) (call : Call) → counted doc q k number h ≡ Some call → call_in q h ≡ Some call
counted-call doc q k number h call is = by_life _ (call_in q h) is
  where
    by_test : (b : Bool) (x : Call) → when b x ≡ Some call → Some x ≡ Some call
    by_test true x is = is
    by_test false x is = cc

    by_call : (c : Option Call) → answered_call doc q k number c ≡ Some call → c ≡ Some call
    by_call None is = cc
    by_call (Some x) is = by_test _ x is

    by_life : (b : Bool) (c : Option Call) → only_if b (answered_call doc q k number c) ≡ Some call → c ≡ Some call
    by_life true c is = by_call c is
    by_life false c is = cc

-- the timeout isn't over of a call that isn't late
pub timely : (doc : Doc) (q : Identity) (k : ℕ) (call : Call) → is_late doc q k call ≡ false → nat_lt (local doc q.process call.sent + call_timeout doc q.process) (local doc q.process k) ≡ false
timely doc q k call is = by_or (is_release_over doc q k (release_begun doc.settings.rules.release call.kind)) (nat_lt (local doc q.process call.sent + call_timeout doc q.process) (local doc q.process k)) is
  where
    by_or : (a b : Bool) → (a || b) ≡ false → b ≡ false
    by_or true b is = absurd (cc)
    by_or false b is = is

-- ---- the expiry of a turn

abbrev pub last_expired : Identity → ℕ → List Entry → Option (Option Call)
last_expired q n h = newest (λ e T. when (is_by q e.actor) (expired_in n e.beat e.fact)) h

pub just_expired-own : (q : Identity) (h : List Entry) (k step n : ℕ) (fact : Fact) → just_expired q n (entry k step q fact ∷ h) ≡ expired_in n k fact
just_expired-own q h k step n fact = ap (λ b. join (said (when b (expired_in n k fact)) (last_expired q n h))) (mine q)

module _ (doc : Doc) (k : ℕ) (q : Identity) (h : List Entry) where
  -- without a late call nothing happens
  pub none_late : (c : Option Call) → is_late_call doc q k c ≡ false → expire_call doc k q c h ≡ h
  none_late None is = refl
  none_late (Some call) is = ap (λ b. (if b then expire_as doc k q call (release_begun doc.settings.rules.release call.kind) h else h)) is

  begun_and_end : (b : Bool) → begun q (and_end k 4 q b h) ≡ begun q h
  begun_and_end true = refl
  begun_and_end false = refl

  begun_expired : (call : Call) (o : Option ℕ) → begun q (expire_as doc k q call o h) ≡ begun q h
  begun_expired call None = refl
  begun_expired call (Some at) = begun_and_end (acts_on doc q h)

  begun_as : (call : Call) (b : Bool) → begun q (if b then expire_as doc k q call (release_begun doc.settings.rules.release call.kind) h else h) ≡ begun q h
  begun_as call true = begun_expired call (release_begun doc.settings.rules.release call.kind)
  begun_as call false = refl

  -- a late call that is of no release expires
  pub late_expires : (call : Call) → release_begun doc.settings.rules.release call.kind ≡ None → is_late doc q k call ≡ true → expire_call doc k q (Some call) h ≡ entry k 4 q (Expires call) ∷ h
  late_expires call none late =
      ap (λ b. (if b then expire_as doc k q call (release_begun doc.settings.rules.release call.kind) h else h)) late ∙ ap (λ o. expire_as doc k q call o h) none

  pub begun-expiry : (c : Option Call) → begun q (expire_call doc k q c h) ≡ begun q h
  begun-expiry None = refl
  begun-expiry (Some call) = begun_as call (is_late doc q k call)
