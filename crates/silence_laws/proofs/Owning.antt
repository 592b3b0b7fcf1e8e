-- What a leader that falls silent wrote by calls of before: its own record.
use Rattle.std.proofs.Common.{◌≡◌, ◌⊎◌, ◌<◌, ◌≤◌, ℕ, suc, ◌-◌, Bool, true, false, List, [], ◌∷◌, length, Option, Some, None, IfSome, refl, sym, ap, ◌∙◌, subst, inl, inr, ⊎_elim, arith}
use Rattle.std.proofs.lemmas.Bool.{cases_lt}
use Rattle.kube_objects.specs.declared.call.Reply.{Reply}
use Rattle.kube_objects.specs.declared.call.Reply.TheVariants.{Done, Found, Absent, Exists, Conflict, Unchanged}
use Rattle.kube_objects.specs.declared.call.Request.{Request}
use Rattle.kube_objects.specs.declared.call.Request.TheVariants.{Get, Create, Update, PostStatus}
use Rattle.kube_objects.specs.declared.lease.Lease.{Lease}
use Rattle.kube_objects.specs.declared.object.Object.{Object}
use Rattle.kube_objects.specs.declared.object.Object.TheVariants as object
use Rattle.kube_objects.specs.Answers.{answer, if_done, written}
use Rattle.kube_objects.specs.Document.{Doc, processes, lease_seconds}
use Rattle.kube_objects.specs.Entry.{Entry, Identity, Call, Stops, actor_of}
use Rattle.kube_objects.specs.Identities.{identity_of, holder_of, is_by, of_process}
use Rattle.kube_objects.specs.Keys.{key_eq}
use Rattle.kube_objects.specs.Newest.{when, has, join}
use Rattle.kube_objects.specs.Stored.{key_of, Held, election, stored, last_write, holds, request_write, at_key, write_of, next_version}
use Rattle.kube_objects.specs.Wire.{request_arrival}
use Rattle.history.specs.History.{history}
use Rattle.history.specs.Premise.{greatest_below}
use Rattle.history_laws.specs.Tails.{In, IsTail}
use Rattle.history_laws.proofs.Plainly.{upper, false_is, true_is, same_self}
use Rattle.history_laws.proofs.Tailed.{tail_all, tail_trans, tail_of_empty, later_tail, same_head}
use Rattle.lease_laws.proofs.EachKind.{top_stays}
use Rattle.lease_laws.proofs.Histories.{bears_own, turn_right}
use Rattle.lease_laws.proofs.Invariant.{Fit, FitRequest, SentRight, view}
use Rattle.lease_laws.proofs.Premises.{rates_at_most}
use Rattle.call_laws.proofs.Above.{tail_length, in_head}
use Rattle.call_laws.proofs.Making.{MadeAs, MadeAnswer, are_made}
use Rattle.call_laws.proofs.Placing.{in_own_beat, messages_travel}
use Rattle.call_laws.proofs.Starting.{actor_is}
use Rattle.takeover_laws.specs.Calm.{IsSteady, WritesElection}
use Rattle.takeover_laws.proofs.Rounds.{sent_is}
use Rattle.calm_laws.proofs.Begun.{by_is}
use Rattle.stay_laws.proofs.Won.{Won, is_won}
use Rattle.silence_laws.specs.Silence.{LeadsUntil, Bears}
use Rattle.silence_laws.proofs.Chain.{never_gives}
use Rattle.silence_laws.proofs.Setting.{own_process}
use Rattle.silence_laws.proofs.Waiting.{beats_rise}

-- ---- who writes

-- what a request that is accepted leaves at the election Lease
abbrev pub Leased : Request → Option (Option Object) → Type 0
Leased (Create key lease) o = o ≡ Some (Some (object.Lease lease))
Leased (Update key given lease) o = o ≡ Some (Some (object.Lease lease))
Leased _ o = ⊥

pub when_there : (t : Bool) (y : Object) → has (when t (Some y)) ≡ true → when t (Some y) ≡ Some (Some y)
when_there true y is = refl
when_there false y is = absurd (false_is is)

leased_by : (r : Request) (lease : Lease) (reply : Reply) → has (at_key election (request_write r (if_done reply (object.Lease lease)))) ≡ true → at_key election (request_write r (if_done reply (object.Lease lease))) ≡ Some (Some (object.Lease lease))
leased_by r lease (Done version) is = when_there (key_eq (key_of r) election) (object.Lease lease) is
leased_by r lease Absent is = absurd (false_is is)
leased_by r lease (Found version l) is = absurd (false_is is)
leased_by r lease Exists is = absurd (false_is is)
leased_by r lease (Conflict version) is = absurd (false_is is)
leased_by r lease Unchanged is = absurd (false_is is)

pub leased : (r : Request) (h : List Entry) → has (at_key election (request_write r (written r h))) ≡ true → Leased r (at_key election (request_write r (written r h)))
leased (Get key) h is = absurd (false_is is)
leased (Create key lease) h is = leased_by (Create key lease) lease (answer (Create key lease) h) is
leased (Update key given lease) h is = leased_by (Update key given lease) lease (answer (Update key given lease) h) is
leased (PostStatus name status at) h is = by_written (written (PostStatus name status at) h) is
  where
    by_written : (o : Option Object) → has (at_key election (request_write (PostStatus name status at) o)) ≡ true → ⊥
    by_written None is = false_is is
    by_written (Some x) is = false_is is

-- its own record, that is stored
pub record IsOwn (doc : Doc) (q : Identity) (h : List Entry) : Type 0 where
  pub y : Held
  pub top : stored election h ≡ Some y
  pub by : y.by ≡ Some q
  pub lease : Lease
  pub object : y.object ≡ object.Lease lease
  pub holder : lease.holder ≡ holder_of q
  pub duration : lease.duration ≡ Some (lease_seconds doc q.process)

-- an accepted write of it, by a call that was sent before beat b
pub record IsOwnWrite (doc : Doc) (b : ℕ) (q : Identity) (x : Entry) : Type 0 where
  pub lease : Lease
  pub writes : at_key election (write_of x.fact) ≡ Some (Some (object.Lease lease))
  pub holder : lease.holder ≡ holder_of q
  pub duration : lease.duration ≡ Some (lease_seconds doc q.process)

-- what an accepted write leaves: its writer's own record
pub record OwnRecord (doc : Doc) (x : Entry) (T : List Entry) (w : Won doc x T) : Type 0 where
  pub lease : Lease
  pub writes : at_key election (write_of x.fact) ≡ Some (Some (object.Lease lease))
  pub holder : lease.holder ≡ holder_of w.who
  pub duration : lease.duration ≡ Some (lease_seconds doc w.who.process)
  pub sent : w.call.sent ≡ w.f.beat

-- so does one by the leader's process, by a call that was sent before beat b
module _ (doc : Doc) (near far b e : ℕ) (q : Identity) (l : LeadsUntil doc near far b e q) (s : Bears doc near far b e q) (x : Entry) (T : List Entry) (at_e : IsTail (x ∷ T) (history doc (suc e)))
    (writes : has (at_key election (write_of x.fact)) ≡ true) (w : Won doc x T) (mine : w.who.process ≡ q.process) (early : w.call.sent < b) where
  wrote : has (at_key election (request_write w.call.request w.wrote)) ≡ true
  wrote = ap (λ d. has (at_key election (write_of d))) (sym w.fact) ∙ writes

  asked_high : IsTail (w.f ∷ w.low) (history doc (suc e))
  asked_high = tail_trans (w.f ∷ w.low) T (history doc (suc e)) w.asked (tail_trans T (x ∷ T) (history doc (suc e)) (inr (tail_all T)) at_e)

  sent : w.call.sent ≡ w.f.beat
  sent = (subst (λ o. IfSome o (λ s. (s.call.sent ≡ w.f.beat) × (s.arrives ≡ request_arrival doc s.who.process w.f.beat w.low))) (sent_is w.f w.who w.call (Some x.beat) w.f_actor w.f_fact) (messages_travel doc s.rules (suc e) w.f w.low asked_high).0).0

  asked_b : IsTail (w.f ∷ w.low) (history doc (suc (b - 1)))
  asked_b = tail_trans (w.f ∷ w.low) (history doc (suc w.f.beat)) (history doc (suc (b - 1))) (in_own_beat doc (suc e) w.f w.low asked_high) (later_tail doc (suc w.f.beat) (suc (b - 1)) (omega (arith, early, sent)))

  -- as its request fits its sender, so does what it writes
  right : SentRight doc (greatest_below doc (length doc.controllers)) (b - 1) (view (history doc (suc (b - 1)))) (record { who = w.who; call = w.call; arrives = Some x.beat })
  right =
      subst (λ o. IfSome o (SentRight doc (greatest_below doc (length doc.controllers)) (b - 1) (view (history doc (suc (b - 1)))))) (sent_is w.f w.who w.call (Some x.beat) w.f_actor w.f_fact)
      ((turn_right doc (greatest_below doc (length doc.controllers)) (rates_at_most doc) (bears_own doc (greatest_below doc (length doc.controllers)) s.rules) s.sound (processes doc) (b - 1) (omega (arith, l.within, s.end))).core.entries w.f (in_head w.f w.low (history doc (suc (b - 1))) asked_b)).0

  fits : FitRequest doc w.call.kind w.who w.call.request
  fits = (right.may.controller w.role).fit

  own : (lease : Lease) → Fit doc w.call.kind w.who lease → (lease.holder ≡ holder_of w.who) × (lease.duration ≡ Some (lease_seconds doc w.who.process))
  own lease (inl fit) = fit
  own lease (inr free) = absurd (never_gives doc s.rules (b - 1) w.who w.role unstopped w.f w.low w.call (Some x.beat) asked_b w.f_actor w.f_fact free.1)
    where
      steady : IsSteady doc near far 0 (b - 1) w.who.process
      steady = subst (IsSteady doc near far 0 (b - 1)) (sym mine) l.steady

      unstopped : (y : Entry) → In y (history doc (suc (b - 1))) → y.fact ≡ Stops → has (of_process w.who.process y.actor) ≡ true → ⊥
      unstopped y there fact by = omega (arith, steady.stops y there fact by)

  wrote_is : w.wrote ≡ written w.call.request T
  wrote_is = made.written_is ∙ ap (λ (c : Call). written c.request T) (sym made.call_is)
    where
      made : MadeAnswer doc x.beat x.step x.actor w.call w.reply w.comes w.wrote T
      made = subst (λ d. MadeAs doc x.beat x.step x.actor d T) w.fact (are_made doc s.rules (suc e) x T at_e)

  as_own : (lease : Lease) → at_key election (request_write w.call.request w.wrote) ≡ Some (Some (object.Lease lease)) → (lease.holder ≡ holder_of w.who) × (lease.duration ≡ Some (lease_seconds doc w.who.process)) → OwnRecord doc x T w
  as_own lease is fit = record { lease = lease; writes = ap (λ d. at_key election (write_of d)) w.fact ∙ is; holder = fit.0; duration = fit.1; sent = sent }

  by_request : (r : Request) (o : Option (Option Object)) → Leased r o → FitRequest doc w.call.kind w.who r → at_key election (request_write w.call.request w.wrote) ≡ o → OwnRecord doc x T w
  by_request (Create key lease) o is fit same = as_own lease (same ∙ is) (own lease fit)
  by_request (Update key given lease) o is fit same = as_own lease (same ∙ is) (own lease fit)
  by_request (Get key) o is fit same = absurd is
  by_request (PostStatus name status at) o is fit same = absurd is

  pub own_record : OwnRecord doc x T w
  own_record =
      by_request w.call.request (at_key election (request_write w.call.request (written w.call.request T)))
      (leased w.call.request T (subst (λ o. has (at_key election (request_write w.call.request o)) ≡ true) wrote_is wrote)) fits (ap (λ o. at_key election (request_write w.call.request o)) wrote_is)

-- at the positions of a history no call of a process from beat b on writes the election Lease
abbrev pub IsQuietIn : ℕ → ℕ → List Entry → Type 0
IsQuietIn b p H = (x : Entry) → In x H → has (of_process p x.actor) ≡ true → WritesElection b x.fact → ⊥

module _ (doc : Doc) (near far b e : ℕ) (q : Identity) (l : LeadsUntil doc near far b e q) (s : Bears doc near far b e q) (H : List Entry) (H_e : IsTail H (history doc (suc e))) (quiet : IsQuietIn b q.process H) where
  -- who writes the election Lease by a process that is quiet from beat b on sent the call before
  pub sent_early : (x : Entry) (T : List Entry) → IsTail (x ∷ T) H → (w : Won doc x T) → has (at_key election (write_of x.fact)) ≡ true → w.who.process ≡ q.process → w.call.sent < b
  sent_early x T at w writes mine = ⊎_elim (λ lt. lt) (λ le. absurd (silent le)) (cases_lt w.call.sent b)
    where
      silent : b ≤ w.call.sent → ⊥
      silent le =
          quiet x (in_head x T H at) (subst (λ p. has (of_process p x.actor) ≡ true) mine (own_process w.who x.actor w.actor))
          (subst (WritesElection b) (sym w.fact) (le, ap (λ d. has (at_key election (write_of d))) (sym w.fact) ∙ writes))

  module _ (x : Entry) (T : List Entry) (at : IsTail (x ∷ T) H) (some : 1 ≤ x.beat) (actor : x.actor ≡ actor_of q) (writes : has (at_key election (write_of x.fact)) ≡ true) where
    at_e : IsTail (x ∷ T) (history doc (suc e))
    at_e = tail_trans (x ∷ T) H (history doc (suc e)) at H_e

    w : Won doc x T
    w = is_won doc s.sound s.rules e s.end x T at_e some writes

    mine : w.who ≡ q
    mine = actor_is w.who q (sym w.actor ∙ actor)

    early : w.call.sent < b
    early = sent_early x T at w writes (ap (λ (p : Identity). p.process) mine)

    o : OwnRecord doc x T w
    o = own_record doc near far b e q l s x T at_e writes w (ap (λ (p : Identity). p.process) mine) early

    pub own_write : IsOwnWrite doc b q x
    own_write = record { lease = o.lease; writes = o.writes; holder = o.holder ∙ ap holder_of mine; duration = o.duration ∙ ap (λ (p : Identity). Some (lease_seconds doc p.process)) mine }

  -- ---- what is stored where all writes since one are its own

  new_own : (x : Entry) (T : List Entry) → x.actor ≡ actor_of q → IsOwnWrite doc b q x → IsOwn doc q (x ∷ T)
  new_own x T actor i = record {
    y = record { version = next_version T; object = object.Lease i.lease; beat = x.beat; by = identity_of x.actor };
    top = ap (λ o. join (upper (holds T x.beat x.actor o) (last_write election T))) i.writes;
    by = ap identity_of actor;
    lease = i.lease;
    object = refl;
    holder = i.holder;
    duration = i.duration;
  }

  -- each election write above a position is its own
  abbrev pub AllOwn : List Entry → List Entry → Type 0
  AllOwn low h = (x : Entry) (T : List Entry) → IsTail (x ∷ T) h → IsTail low T → has (at_key election (write_of x.fact)) ≡ true → x.actor ≡ actor_of q

  pub own_since : (x : Entry) (T : List Entry) → 1 ≤ x.beat → has (at_key election (write_of x.fact)) ≡ true → x.actor ≡ actor_of q → (h : List Entry) → IsTail (x ∷ T) h → IsTail h H → AllOwn (x ∷ T) h → IsOwn doc q h
  own_since x T some writes actor [] low high all = absurd (tail_of_empty x T low)
  own_since x T some writes actor (z ∷ Z) (inl same) high all =
      let one = same_head x z T Z same in
      new_own z Z (subst (λ (y : Entry). y.actor ≡ actor_of q) one actor)
      (own_write z Z high (subst (λ (y : Entry). 1 ≤ y.beat) one some) (subst (λ (y : Entry). y.actor ≡ actor_of q) one actor) (subst (λ (y : Entry). has (at_key election (write_of y.fact)) ≡ true) one writes))
  own_since x T some writes actor (z ∷ Z) (inr below) high all =
      by_write (at_key election (write_of z.fact)) refl (own_since x T some writes actor Z below (tail_trans Z (z ∷ Z) H (inr (tail_all Z)) high) (λ f F at. all f F (inr at)))
    where
      order : x.beat ≤ z.beat
      order = beats_rise doc e z Z (tail_trans (z ∷ Z) H (history doc (suc e)) high H_e) x T below

      by_write : (o : Option (Option Object)) → at_key election (write_of z.fact) ≡ o → IsOwn doc q Z → IsOwn doc q (z ∷ Z)
      by_write None none o = record { y = o.y; top = top_stays z Z none ∙ o.top; by = o.by; lease = o.lease; object = o.object; holder = o.holder; duration = o.duration }
      by_write (Some o) is old =
          let mine = all z Z (inl refl) below (ap has is) in
          new_own z Z mine (own_write z Z high (omega (arith, some, order)) mine (ap has is))

  -- or there is a first one by somebody else
  pub record IsForeign (low h : List Entry) : Type 0 where
    pub x : Entry
    pub before : List Entry
    pub position : IsTail (x ∷ before) h
    pub since : IsTail low before
    pub writes : has (at_key election (write_of x.fact)) ≡ true
    pub other : x.actor ≡ actor_of q → ⊥
    pub own : AllOwn low before

  foreign_more : (low : List Entry) (x : Entry) (h : List Entry) → IsForeign low h → IsForeign low (x ∷ h)
  foreign_more low x h s = record { x = s.x; before = s.before; position = inr s.position; since = s.since; writes = s.writes; other = s.other; own = s.own }

  none_above : (low : List Entry) → AllOwn low low
  none_above low x T at below writes = absurd (longer (tail_length (x ∷ T) low at) (tail_length low T below))
    where
      longer : length (x ∷ T) ≤ length low → length low ≤ length T → ⊥
      longer a b = omega (arith, a, b)

  pub own_or_foreign : (low h : List Entry) → IsTail low h → AllOwn low h ⊎ IsForeign low h
  own_or_foreign low [] at = inl (λ x T high below. absurd (tail_of_empty x T high))
  own_or_foreign low (x ∷ h) (inl same) = inl (subst (AllOwn low) same (none_above low))
  own_or_foreign low (x ∷ h) (inr at) = by_rest (own_or_foreign low h at)
    where
      kept : AllOwn low h → (has (at_key election (write_of x.fact)) ≡ true → x.actor ≡ actor_of q) → AllOwn low (x ∷ h)
      kept all own z Z (inl same) below writes =
          let one = same_head z x Z h same in
          ap (λ (z : Entry). z.actor) one ∙ own (subst (λ (z : Entry). has (at_key election (write_of z.fact)) ≡ true) one writes)
      kept all own z Z (inr at) below writes = all z Z at below writes

      fresh : AllOwn low h → (o : Option (Option Object)) → at_key election (write_of x.fact) ≡ o → (b : Bool) → is_by q x.actor ≡ b → AllOwn low (x ∷ h) ⊎ IsForeign low (x ∷ h)
      fresh all None none b by = inl (kept all (λ writes. absurd (false_is (sym (ap has none) ∙ writes))))
      fresh all (Some o) is true mine = inl (kept all (λ writes. by_is q x.actor mine))
      fresh all (Some o) is false other =
          inr (record { x = x; before = h; position = inl refl; since = at; writes = ap has is; other = λ mine. true_is (sym (ap (is_by q) mine ∙ same_self q) ∙ other); own = all })

      by_rest : AllOwn low h ⊎ IsForeign low h → AllOwn low (x ∷ h) ⊎ IsForeign low (x ∷ h)
      by_rest (inr s) = inr (foreign_more low x h s)
      by_rest (inl all) = fresh all (at_key election (write_of x.fact)) refl (is_by q x.actor) refl
