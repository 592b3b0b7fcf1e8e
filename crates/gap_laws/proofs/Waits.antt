-- What is known of the calls, replies, writes and leads of every controller: since when each has waited for another's record to be over.
use Rattle.std.proofs.Common.{◌≡◌, ◌⊎◌, ◌<◌, ◌≤◌, ℕ, ◌+◌, Bool, true, false, List, [], ◌∷◌, Option, Some, None, IfSome, refl, sym, subst, inl, inr, arith}
use Rattle.kube_base.specs.declared.numbers.Version.{Version}
use Rattle.kube_objects.specs.declared.call.Reply.TheVariants.{Done}
use Rattle.kube_objects.specs.declared.call.Request.{Request}
use Rattle.kube_objects.specs.declared.call.Request.TheVariants.{Update}
use Rattle.kube_objects.specs.declared.lease.Lease.{Lease}
use Rattle.kube_objects.specs.declared.object.Object.TheVariants as object
use Rattle.kube_objects.specs.Clocks.{local}
use Rattle.kube_objects.specs.Document.{Doc, is_controller}
use Rattle.kube_objects.specs.Elector.{shown, observed, succeeds, lead_says, deadline}
use Rattle.kube_objects.specs.Entry.{Entry, Identity, CallKind, Plain, Fast, Release, Look, Emptying}
use Rattle.kube_objects.specs.Identities.{identity_of, is_other}
use Rattle.kube_objects.specs.Newest.{or_zero}
use Rattle.kube_objects.specs.Stored.{Held, election, stored, at_key, write_of, writes, next_version}
use Rattle.kube_objects.specs.Wire.{Sent, Back, sent_of, back_of}
use Rattle.history_laws.specs.Tails.{In, IsTail}
use Rattle.history_laws.proofs.Tailed.{same_head, same_rest}
use Rattle.lease_laws.proofs.Invariant.{Fit, OnTop, Within}
use Rattle.lease_laws.specs.Respects.{respected_time}

-- from a beat on the delays of a process are at least so many beats
pub record Slow : Type 0 where
  pub who : ℕ
  pub from : ℕ
  pub least : ℕ

-- a message of a process that is sent at beat s comes at beat t
abbrev pub Late : Slow → ℕ → ℕ → ℕ → Type 0
Late w p s t = (s < t) × (p ≡ w.who → w.from ≤ s → s + w.least ≤ t)

pub late_early : (w : Slow) (p r s t : ℕ) → r ≤ s → Late w p s t → Late w p r t
late_early w p r s t le late = (omega (arith, le, late.0), λ is from. omega (arith, le, late.1 is (omega (arith, from, le))))

abbrev pub is_release : CallKind → Bool
is_release Release = true
is_release Plain = false
is_release Fast = false
is_release (Look begun) = false
is_release (Emptying begun) = false

-- a request comes at beat t; nothing is known of how slow a release is, which is sent among the events of a beat
abbrev pub Arrives : Slow → ℕ → ℕ → CallKind → ℕ → Type 0
Arrives w p s kind t = (s < t) × (is_release kind ≡ false → Late w p s t)

-- at beat d the time of another's record is over on q's clock since q was shown it
pub record Waited (doc : Doc) (w : Slow) (q : Identity) (d : ℕ) (y : Held) (lease : Lease) : Type 0 where
  pub seen : ℕ
  pub late : Late w q.process y.beat seen
  pub before : seen ≤ d
  pub over : local doc q.process seen + respected_time doc q.process lease ≤ local doc q.process d

abbrev pub WaitedFor : Doc → Slow → Identity → ℕ → Held → Type 0
WaitedFor doc w q d y = (lease : Lease) → y.object ≡ object.Lease lease → is_other q lease.holder ≡ true → Waited doc w q d y lease

-- of an update that is sent at beat d
abbrev pub BaseWaited : Doc → Slow → Identity → ℕ → Option Held → Request → Type 0
BaseWaited doc w q d t (Update key version lease) = OnTop t version (WaitedFor doc w q d)
BaseWaited doc w q d t _ = Unit {0}

pub record SentWell (doc : Doc) (w : Slow) (h : List Entry) (s : Sent) : Type 0 where
  pub arrives : IfSome s.arrives (Arrives w s.who.process s.call.sent s.call.kind)
  pub base : is_controller doc s.who.process ≡ true → BaseWaited doc w s.who s.call.sent (stored election h) s.call.request

-- a call that succeeds at beat k, on the history before its answer
pub record Took (doc : Doc) (w : Slow) (b : Back) (k : ℕ) (before : List Entry) : Type 0 where
  pub version : b.reply ≡ Done (next_version before)
  pub after : Arrives w b.who.process b.call.sent b.call.kind k
  pub base : IfSome (stored election before) (λ y. (y.beat ≤ b.call.sent) × WaitedFor doc w b.who b.call.sent y)

-- the last write of the election Lease is a controller's that succeeds
pub record Topped (doc : Doc) (f : Entry) (before : List Entry) : Type 0 where
  pub b : Back
  pub is : back_of f.actor f.fact ≡ Some b
  pub role : is_controller doc b.who.process ≡ true
  pub so : succeeds b.call.request b.reply ≡ true
  pub x : Held
  pub top : stored election (f ∷ before) ≡ Some x
  pub version : x.version ≡ next_version before
  pub beat : x.beat ≡ f.beat
  pub by : x.by ≡ Some b.who
  pub actor : identity_of f.actor ≡ Some b.who
  pub write : at_key election (write_of f.fact) ≡ Some (Some x.object)
  pub lease : Lease
  pub object : x.object ≡ object.Lease lease
  pub fit : Fit doc b.call.kind b.who lease

-- a call of a controller that succeeds has written
abbrev pub Answered : Doc → Slow → Entry → List Entry → Type 0
Answered doc w f before =
    IfSome (back_of f.actor f.fact) (λ b. is_controller doc b.who.process ≡ true → succeeds b.call.request b.reply ≡ true → Topped doc f before × Took doc w b f.beat before)

abbrev pub Tops : Doc → Entry → List Entry → Type 0
Tops doc f before = (stored election (f ∷ before) ≡ stored election before) ⊎ Topped doc f before

-- or it is put before anybody has led
abbrev pub TopsOrPut : Doc → Entry → List Entry → Type 0
TopsOrPut doc f before = ((q : Identity) → deadline doc q before ≡ None) ⊎ Tops doc f before

-- the answer of a success of q that came at beat k
pub record Success (w : Slow) (q : Identity) (k : ℕ) (h : List Entry) : Type 0 where
  pub e : Entry
  pub before : List Entry
  pub stands : IsTail (e ∷ before) h
  pub b : Back
  pub is : back_of e.actor e.fact ≡ Some b
  pub who : b.who ≡ q
  pub so : succeeds b.call.request b.reply ≡ true
  pub plain : is_release b.call.kind ≡ false
  pub comes : Late w q.process e.beat k

abbrev pub LedFrom : Slow → Identity → ℕ → List Entry → Version → Type 0
LedFrom w q k h version = (s : Success w q k h) × (s.b.reply ≡ Done version)

abbrev pub TermFrom : Doc → Slow → Identity → ℕ → List Entry → ℕ → Type 0
TermFrom doc w q k h at = (j : ℕ) × (j ≤ k) × (s : Success w q j h) × Within doc q.process s.b.call.sent at

-- what is known before beat k's next entry
pub record Waits (doc : Doc) (w : Slow) (k : ℕ) (h : List Entry) : Type 0 where
  pub shown : (q : Identity) → is_controller doc q.process ≡ true → IfSome (shown q h) (λ x. OnTop (stored election h) x.0 (λ y. Late w q.process y.beat (or_zero (observed q h))))
  pub seen : (q : Identity) → or_zero (observed q h) ≤ k
  pub sends : (e : Entry) → In e h → IfSome (sent_of e.actor e.fact) (SentWell doc w h)
  pub backs : (e : Entry) → In e h → IfSome (back_of e.actor e.fact) (λ b. IfSome b.comes (Late w b.who.process e.beat))
  pub answers : (f : Entry) (before : List Entry) → IsTail (f ∷ before) h → Answered doc w f before
  pub tops : (f : Entry) (before : List Entry) → IsTail (f ∷ before) h → TopsOrPut doc f before
  pub leads : (f : Entry) (before : List Entry) → IsTail (f ∷ before) h → (q : Identity) → IfSome (lead_says q f.actor f.fact) (LedFrom w q f.beat before)
  pub terms : (q : Identity) → is_controller doc q.process ≡ true → IfSome (deadline doc q h) (TermFrom doc w q k h)

-- ---- positions, and the last write

pub each_position : (P : Entry → List Entry → Type 0) (x : Entry) (h : List Entry) → P x h → ((f : Entry) (T : List Entry) → IsTail (f ∷ T) h → P f T) → (f : Entry) (T : List Entry) → IsTail (f ∷ T) (x ∷ h) → P f T
each_position P x h new old f T (inl is) = subst (P f) (sym (same_rest f x T h is)) (subst (λ f. P f h) (sym (same_head f x T h is)) new)
each_position P x h new old f T (inr at) = old f T at

-- an entry's position
pub position : (e : Entry) (h : List Entry) → In e h → (T : List Entry) × IsTail (e ∷ T) h
position e [] at = absurd at
position e (x ∷ h) (inl is) = (h, inl (subst (λ x. e ∷ h ≡ x ∷ h) is refl))
position e (x ∷ h) (inr at) = let p = position e h at in (p.0, inr p.1)

-- an entry leaves the last write, or is one with a new version
abbrev pub Moves : Entry → List Entry → Type 0
Moves x h = (stored election (x ∷ h) ≡ stored election h) ⊎ ((y : Held) × (stored election (x ∷ h) ≡ Some y) × (writes h < y.version.0))

pub moved : (x : Entry) (h : List Entry) (version : Version) (P : Held → Type 0) → Moves x h → version.0 ≤ writes h → OnTop (stored election h) version P → OnTop (stored election (x ∷ h)) version P
moved x h version P (inl same) given top = subst (λ t. OnTop t version P) (sym same) top
moved x h version P (inr (y, is, new)) given top = subst (λ t. OnTop t version P) (sym is) (λ same. absurd (omega (arith, new, given, same)))

abbrev pub more_success : (w : Slow) (q : Identity) (k : ℕ) (x : Entry) (h : List Entry) → Success w q k h → Success w q k (x ∷ h)
more_success w q k x h s = record { e = s.e; before = s.before; stands = inr s.stands; b = s.b; is = s.is; who = s.who; so = s.so; plain = s.plain; comes = s.comes }
