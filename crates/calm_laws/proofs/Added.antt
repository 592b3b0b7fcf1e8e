-- How each request, each lead and each stop came about: for callers.
use Rattle.std.proofs.Common.{◌≡◌, ℕ, true, false, List, [], ◌∷◌, refl, sym, ◌∙◌, subst, inl, inr, Option, Some, ◌⊎◌}
use Rattle.kube_base.specs.declared.numbers.Version.{Version}
use Rattle.kube_objects.specs.Clocks.{store_wall, whole_second}
use Rattle.kube_objects.specs.Document.{Doc, is_controller}
use Rattle.kube_objects.specs.Elector.{Succeeds, follow_on, attempt, release}
use Rattle.kube_objects.specs.Entry.{Release, Entry, Identity, Fact, First, Sends, actor_of, script_entry, Call, Stops, Delivers, Leads, entry, Plain}
use Rattle.kube_objects.specs.Identities.{identity}
use Rattle.kube_objects.specs.Process.{alive}
use Rattle.kube_objects.specs.Stamps.{stamped}
use Rattle.kube_objects.specs.Stored.{election}
use Rattle.kube_objects.specs.declared.call.Reply.{Reply}
use Rattle.kube_objects.specs.declared.call.Request.TheVariants.{Get}
use Rattle.kube_objects.specs.declared.key.Key.{Key}
use Rattle.kube_objects.specs.declared.object.Object.{Object}
use Rattle.kube_objects.specs.Own.{ReleasesByStop}
use Rattle.history.specs.History.{put_all, history}
use Rattle.history_laws.proofs.Tailed.{tail_of_empty, same_head, same_rest}
use Rattle.history_laws.proofs.Ticks.{walk_tick}
use Rattle.history_laws.proofs.Walk.{after_reply, stopped_at, Keeps, no_release, walk_history}
use Rattle.history_laws.specs.Tails.{IsTail}
use Rattle.call_laws.proofs.Starting.{actor_is}

-- a lead stands on the counted reply by which it came about, in step 3
pub record LedBy (doc : Doc) (x : Entry) (version : Version) (h : List Entry) : Type 0 where
  pub q : Identity
  pub by : x.actor ≡ actor_of q
  pub role : is_controller doc q.process ≡ true
  pub call : Call
  pub reply : Reply
  pub before : List Entry
  pub is : h ≡ entry x.beat 3 q (Delivers call reply true) ∷ before
  pub follows : follow_on doc q x.beat call.kind call.request reply h ≡ Succeeds version
  pub step_is : x.step ≡ 3

-- who is stopped is up
pub record StoppedUp (x : Entry) (h : List Entry) : Type 0 where
  pub q : Identity
  pub by : x.actor ≡ actor_of q
  pub up : alive q.process h ≡ Some q.incarnation

-- why an identity sends a request: to release its lead, after a reply, as a new try, by an attempt, or as a kubelet
abbrev pub SentFor : Doc → Entry → Identity → Call → List Entry → Type 0
SentFor doc x q call h =
    ((x.step ≡ 1) × (call.kind ≡ Release) × (before : List Entry) × (release doc q x.beat before ≡ Some call.request)) ⊎ (((x.step ≡ 3) × (call.kind ≡ Plain))
    ⊎ (((call.kind ≡ Plain) × (call.request ≡ Get election)) ⊎ (((call.kind ≡ (attempt doc q x.beat h).0) × (call.request ≡ (attempt doc q x.beat h).1)) ⊎ ((is_controller doc q.process ≡ false) × (call.kind ≡ Plain)))))

pub record SentBy (doc : Doc) (x : Entry) (call : Call) (h : List Entry) : Type 0 where
  pub q : Identity
  pub by : x.actor ≡ actor_of q
  pub way : SentFor doc x q call h

abbrev pub AddedAs : Doc → Entry → Fact → List Entry → Type 0
AddedAs doc x (Sends call arrives) h = SentBy doc x call h
AddedAs doc x (Leads version) h = LedBy doc x version h
AddedAs doc x Stops h = StoppedUp x h
AddedAs doc x _ h = Unit {0}

abbrev Added : Doc → List Entry → Type 0
Added doc h = (x : Entry) (before : List Entry) → IsTail (x ∷ before) h → AddedAs doc x x.fact before

more : (doc : Doc) (x : Entry) (h : List Entry) → AddedAs doc x x.fact h → Added doc h → Added doc (x ∷ h)
more doc x h new s e before (inl is) =
    subst (λ (e : Entry). AddedAs doc e e.fact before) (sym (same_head e x before h is)) (subst (λ g. AddedAs doc x x.fact g) (sym (same_rest e x before h is)) new)
more doc x h new s e before (inr at) = s e before at

added_keeps : (doc : Doc) → Keeps doc (λ k step h. Added doc h)
added_keeps doc = record {
  on = λ k step h s. s;
  next = λ k s. s;
  event = λ k w h scripted s. more doc _ h tt s;
  starts = λ k step p h s. more doc _ h tt s;
  crashes = λ k p i h up s. more doc _ h tt s;
  stalls = λ k id beats i h scripted up s. more doc _ h tt s;
  stops = λ k id i h scripted up free s. more doc (entry k 1 (identity id.0 i) Stops) h (record { q = identity id.0 i; by = refl; up = up }) s;
  releases = λ k id i before request scripted up awake is stop was s. more doc _ (stopped_at k id i before) (record { q = identity id.0 i; by = refl; way = inl (refl, refl, before, is) }) s;
  answers = λ k x h at s. more doc _ h tt s;
  ignores = λ k b h coming is s. more doc _ h tt s;
  counts = λ k b waiting h coming is of s. more doc _ h tt s;
  follows = λ k b waiting h request coming is role of follows was s. more doc _ (after_reply k b waiting h) (record { q = b.who; by = refl; way = inr (inl (refl, refl)) }) s;
  leads = λ k b waiting h version coming is role of follows was s.
      more doc (entry k 3 b.who (Leads version)) (after_reply k b waiting h)
      (record { q = b.who; by = refl; role = role; call = waiting; reply = b.reply; before = h; is = refl; follows = follows; step_is = refl }) s;
  asks = λ k b waiting h request coming is role asked was s. more doc _ (after_reply k b waiting h) (record { q = b.who; by = refl; way = inr (inl (refl, refl)) }) s;
  turns = record {
    restarts = λ k p h s. more doc _ h tt s;
    expires = λ k p i call h up waits late of s. more doc _ h tt s;
    ends = λ k p i at h role up is before stop s. more doc _ h tt s;
    polls = λ k p i h role up awake waits s. more doc _ h (record { q = identity p i; by = refl; way = inr (inr (inl (refl, refl))) }) s;
    attempts = λ k p i h role up awake waits s. more doc _ h (record { q = identity p i; by = refl; way = inr (inr (inr (inl (refl, refl)))) }) s;
    seeks = λ k p i call h role up awake expired late s. more doc _ h (record { q = identity p i; by = refl; way = inr (inr (inr (inr (role, refl)))) }) s;
    posts = λ k p i h role up awake none s. more doc _ h (record { q = identity p i; by = refl; way = inr (inr (inr (inr (role, refl)))) }) s;
    ticks = λ k q h acting s. walk_tick doc k q (Added doc) (λ t g made s. more doc _ g tt s) h s;
  };
}

puts_added : (doc : Doc) (xs : List (Key × Object)) (h : List Entry) → Added doc h → Added doc (put_all doc xs h)
puts_added doc [] h s = s
puts_added doc (x ∷ xs) h s =
    let e = script_entry 0 0 (First x.0 (stamped (whole_second (store_wall doc 0)) x.1)) in
    puts_added doc xs (e ∷ h) (more doc e h tt s)

pub added : (doc : Doc) → ReleasesByStop doc → (k : ℕ) (x : Entry) (before : List Entry) → IsTail (x ∷ before) (history doc k) → AddedAs doc x x.fact before
added doc rules k = walk_history doc (λ k step h. Added doc h) (added_keeps doc) (no_release doc (λ k step h. Added doc h) rules.release) (puts_added doc doc.objects [] (λ x before at. absurd (tail_of_empty x before at))) k

-- who comes to lead has a success
pub leads_by : (doc : Doc) → ReleasesByStop doc → (k : ℕ) (x : Entry) (before : List Entry) (version : Version) → IsTail (x ∷ before) (history doc k) → x.fact ≡ Leads version → LedBy doc x version before
leads_by doc rules k x before version at fact = subst (λ d. AddedAs doc x d before) fact (added doc rules k x before at)

-- why an identity sent a request
pub sends_for : (doc : Doc) → ReleasesByStop doc → (k : ℕ) (x : Entry) (before : List Entry) (q : Identity) (call : Call) (arrives : Option ℕ) → IsTail (x ∷ before) (history doc k) → x.actor ≡ actor_of q → x.fact ≡ Sends call arrives → SentFor doc x q call before
sends_for doc rules k x before q call arrives at by fact = subst (λ q. SentFor doc x q call before) (actor_is sent.q q (sym sent.by ∙ by)) sent.way
  where
    sent : SentBy doc x call before
    sent = subst (λ d. AddedAs doc x d before) fact (added doc rules k x before at)

-- who was stopped was up
pub stops_up : (doc : Doc) → ReleasesByStop doc → (k : ℕ) (x : Entry) (before : List Entry) → IsTail (x ∷ before) (history doc k) → x.fact ≡ Stops → StoppedUp x before
stops_up doc rules k x before at fact = subst (λ d. AddedAs doc x d before) fact (added doc rules k x before at)
