-- A process starts only while it is down.
use Rattle.std.proofs.Common.{◌≡◌, ◌≤◌, ℕ, zero, suc, ◌+◌, ◌==◌, not, Bool, true, false, List, [], ◌∷◌, Option, Some, None, refl, sym, ap, ◌∙◌, subst, inl, inr, arith}
use Rattle.std.specs.Prelude.{if◌then◌else◌}
use Rattle.std.proofs.lemmas.Bool.Decides.{nat_tests}
use Rattle.kube_objects.specs.declared.call.Reply.{Reply}
use Rattle.kube_objects.specs.declared.call.Request.{Request}
use Rattle.kube_objects.specs.declared.deed.Actor.{Actor}
use Rattle.kube_objects.specs.declared.key.Key.{Key}
use Rattle.kube_objects.specs.declared.object.Object.{Object}
use Rattle.kube_objects.specs.declared.script.Event.{Event}
use Rattle.kube_objects.specs.declared.script.What.{What}
use Rattle.kube_objects.specs.declared.script.What.TheVariants as what
use Rattle.kube_objects.specs.Clocks.{store_wall, whole_second}
use Rattle.kube_objects.specs.Document.{Doc, processes, is_controller, is_up_first}
use Rattle.kube_objects.specs.Elector.{Follow, Fails, Asks, Succeeds, follow_on, leads, release}
use Rattle.kube_objects.specs.Entry.{Entry, Identity, Call, First, Event as Happens, Starts, Stops, Delivers, actor_of, entry, script_entry}
use Rattle.kube_objects.specs.Identities.{identity}
use Rattle.kube_objects.specs.InFlight.{requests_due, replies_due}
use Rattle.kube_objects.specs.Kubelet.{next_request, send_next}
use Rattle.kube_objects.specs.Newest.{when, only_if, join}
use Rattle.kube_objects.specs.Pauses.{is_paused}
use Rattle.kube_objects.specs.Process.{born, alive, life, starts, is_start, counted}
use Rattle.kube_objects.specs.Stamps.{stamped}
use Rattle.kube_objects.specs.Turns.{react}
use Rattle.kube_objects.specs.Wire.{Sent, Back}
use Rattle.kube_objects.specs.Own.{ReleasesByStop}
use Rattle.kube_objects.proofs.Own.{release_begun-own}
use Rattle.history.specs.History.{put_all, history}
use Rattle.history.specs.Steps.{start, start_first, starts_below, first_starts, start_if_down, crash, stall, released, stop, effect, stamp, event_version, happens, happen_all, answer_all, answered, deliver_all, deliver_as, delivered, react_as, step_one, step_two, step_three, turns, stop_as, elector_react}
use Rattle.history_laws.specs.Tails.{IsTail}
use Rattle.history_laws.proofs.Plainly.{upper, identity_eq}
use Rattle.history_laws.proofs.Tailed.{tail_of_empty, same_head, same_rest}
use Rattle.call_laws.specs.Starting.{StartsDown, StartsAreDown}
use Rattle.call_laws.proofs.Turning.{walk_own_turn, IsTurnSend}

pub actor_is : (p q : Identity) → actor_of p ≡ actor_of q → p ≡ q
actor_is p q is = identity_eq p q (ap process_of is) (ap incarnation_of is)
  where
    process_of : Actor → ℕ
    process_of Actor.Script = 0
    process_of (Actor.Proc id i) = id.0

    incarnation_of : Actor → ℕ
    incarnation_of Actor.Script = 0
    incarnation_of (Actor.Proc id i) = i

-- a request of a turn is due
abbrev pub SendsDue : Doc → Entry → List Entry → Type 0
SendsDue doc x h = x.step ≡ 4 → (q : Identity) → x.actor ≡ actor_of q → IsTurnSend doc x.beat q x.fact h

-- ---- one walk through a beat that tells where a process is down as it starts, and when requests of turns are due

-- under the project's own rules
module _ (doc : Doc) (own : ReleasesByStop doc) (P : List Entry → Type 0) (begins : (k step p : ℕ) (h : List Entry) → alive p h ≡ None → P h → P (start k step p h))
    (more : (x : Entry) (h : List Entry) → is_start x.fact ≡ false → SendsDue doc x h → P h → P (x ∷ h)) where
  sooner : (x : Entry) (h : List Entry) → is_start x.fact ≡ false → x.step ≤ 3 → P h → P (x ∷ h)
  sooner x h none early s = more x h none (λ four q by. absurd (omega (arith, four, early))) s

  by_crash : (k p : ℕ) (up : Option ℕ) (h : List Entry) → P h → P (crash k p up h)
  by_crash k p None h s = s
  by_crash k p (Some i) h s = sooner _ h refl (omega arith) s

  by_stall : (k p beats : ℕ) (up : Option ℕ) (h : List Entry) → P h → P (stall k p beats up h)
  by_stall k p beats None h s = s
  by_stall k p beats (Some i) h s = sooner _ h refl (omega arith) s

  by_start : (k p : ℕ) (up : Option ℕ) (h : List Entry) → alive p h ≡ up → P h → P (start_if_down k 1 p up h)
  by_start k p None h is s = begins k 1 p h is s
  by_start k p (Some i) h is s = s

  by_release : (k : ℕ) (q : Identity) (o : Option Request) (h : List Entry) → P h → P (released doc k q o h)
  by_release k q None h s = s
  by_release k q (Some request) h s = sooner _ h refl (omega arith) s

  by_stop : (k p : ℕ) (up : Option ℕ) (before h : List Entry) → P h → P (stop doc k p up before h)
  by_stop k p None before h s = s
  by_stop k p (Some i) before h s =
      let q = identity p i in
      subst (λ r. P (stop_as r doc k q before h)) (sym own.release) (by_release k q (release doc q k before) (entry k 1 q Stops ∷ h) (sooner _ h refl (omega arith) s))

  by_effect : (k : ℕ) (w : What) (before : List Entry) → P (script_entry k 1 (Happens (stamp doc k w) (event_version w before)) ∷ before)
      → P (effect doc k w before (script_entry k 1 (Happens (stamp doc k w) (event_version w before)) ∷ before))
  by_effect k (what.Crash id) before s = by_crash k id.0 (alive id.0 before) _ s
  by_effect k (what.Start id) before s = by_start k id.0 (alive id.0 before) _ refl s
  by_effect k (what.Stop id) before s = by_stop k id.0 (only_if (not (is_paused doc id.0 k)) (alive id.0 before)) before _ s
  by_effect k (what.Pause id beats) before s = by_stall k id.0 beats (alive id.0 before) _ s
  by_effect k w before s = s

  by_events : (k : ℕ) (es : List Event) (h : List Entry) → P h → P (happen_all doc k es h)
  by_events k [] h s = s
  by_events k (e ∷ es) h s = by_events k es (if (e.beat.0 == k) then happens doc k e.what h else h) (by_test (e.beat.0 == k))
    where
      by_test : (b : Bool) → P (if b then happens doc k e.what h else h)
      by_test false = s
      by_test true = by_effect k e.what h (sooner _ h refl (omega arith) s)

  by_answers : (k : ℕ) (ss : List Sent) (h : List Entry) → P h → P (answer_all doc k ss h)
  by_answers k [] h s = s
  by_answers k (x ∷ ss) h s = by_answers k ss (answered doc k x h) (sooner _ h refl (omega arith) s)

  by_follow : (k : ℕ) (q : Identity) (led : Bool) (f : Follow) (h : List Entry) → P h → P (react doc k q led f h)
  by_follow k q led Fails h s = s
  by_follow k q led (Asks request) h s = sooner _ h refl (omega arith) s
  by_follow k q true (Succeeds version) h s = s
  by_follow k q false (Succeeds version) h s = sooner _ h refl (omega arith) s

  by_next : (k : ℕ) (q : Identity) (o : Option Request) (h : List Entry) → P h → P (send_next doc k q o h)
  by_next k q None h s = s
  by_next k q (Some request) h s = sooner _ h refl (omega arith) s

  by_reply : (k : ℕ) (q : Identity) (c : Call) (reply : Reply) (b : Bool) (h : List Entry) → P h → P (react_as doc k q c reply b h)
  by_reply k q c reply true h s = subst (λ o. P (elector_react doc k q c reply o h)) (sym (release_begun-own doc own c.kind)) (by_follow k q (leads q h) (follow_on doc q k c.kind c.request reply h) h s)
  by_reply k q c reply false h s = by_next k q (next_request doc q k c.request reply) h s

  by_delivery : (k : ℕ) (q : Identity) (c : Call) (reply : Reply) (o : Option Call) (h : List Entry) → P h → P (deliver_as doc k q c reply o h)
  by_delivery k q c reply None h s = sooner _ h refl (omega arith) s
  by_delivery k q c reply (Some w) h s = by_reply k q w reply (is_controller doc q.process) (entry k 3 q (Delivers w reply true) ∷ h) (sooner _ h refl (omega arith) s)

  by_deliveries : (k : ℕ) (bs : List Back) (h : List Entry) → P h → P (deliver_all doc k bs h)
  by_deliveries k [] h s = s
  by_deliveries k (b ∷ bs) h s = by_deliveries k bs (delivered doc k b h) (by_delivery k b.who b.call b.reply (counted doc b.who k b.call.number h) h s)

  by_turns : (k n : ℕ) (h : List Entry) → P h → P (turns doc k n h)
  by_turns k zero h s = s
  by_turns k (suc p) h s =
      walk_own_turn doc own k p P (λ h down s. begins k 4 p h down s)
      (λ i x h beat by none due s. more x h none (λ four q mine. subst (λ k. IsTurnSend doc k q x.fact h) (sym beat) (subst (λ q. IsTurnSend doc k q x.fact h) (actor_is (identity p i) q (sym by ∙ mine)) due)) s)
      (turns doc k p h) (by_turns k p h s)

  -- the first starts, where the processes are down
  down_below : (n p : ℕ) (h : List Entry) → n ≤ p → alive p h ≡ None → alive p (starts_below doc n h) ≡ None
  down_below zero p h le down = down
  down_below (suc n) p h le down = by_test (is_up_first doc n) (down_below n p h (omega (arith, le)) down)
    where
      other : (n == p) ≡ false
      other = grind (arith, nat_tests, le)

      by_test : (b : Bool) → alive p (starts_below doc n h) ≡ None → alive p (start_first n b (starts_below doc n h)) ≡ None
      by_test false down = down
      by_test true down = ap (λ b. join (upper (born (when b (starts n (starts_below doc n h) + 1))) (life p (starts_below doc n h)))) other ∙ down

  by_first : (n : ℕ) (h : List Entry) → ((p : ℕ) → alive p h ≡ None) → P h → P (starts_below doc n h)
  by_first zero h down s = s
  by_first (suc n) h down s = by_test (is_up_first doc n) (by_first n h down s)
    where
      by_test : (b : Bool) → P (starts_below doc n h) → P (start_first n b (starts_below doc n h))
      by_test false s = s
      by_test true s = begins 0 1 n (starts_below doc n h) (down_below n n h (omega arith) (down n)) s

  by_firsts : (k : ℕ) (h : List Entry) → (k ≡ 0 → (p : ℕ) → alive p h ≡ None) → P h → P (first_starts doc k h)
  by_firsts zero h down s = by_first (processes doc) h (down refl) s
  by_firsts (suc k) h down s = s

  by_beat : (k : ℕ) (h : List Entry) → (k ≡ 0 → (p : ℕ) → alive p h ≡ None) → P h → P (turns doc k (processes doc) (step_three doc k (step_two doc k (step_one doc k h))))
  by_beat k h down s =
      let one = step_one doc k h in
      let two = step_two doc k one in
      by_turns k (processes doc) (step_three doc k two) (by_deliveries k (replies_due k two) two (by_answers k (requests_due k one) one
      (by_events k doc.events (first_starts doc k h) (by_firsts k h down s))))

-- ---- the law

abbrev Down : List Entry → Type 0
Down h = (x : Entry) (before : List Entry) → IsTail (x ∷ before) h → StartsDown x before

down_more : (x : Entry) (h : List Entry) → StartsDown x h → Down h → Down (x ∷ h)
down_more x h new s e before (inl is) =
    subst (λ (e : Entry). StartsDown e before) (sym (same_head e x before h is)) (subst (λ g. StartsDown x g) (sym (same_rest e x before h is)) new)
down_more x h new s e before (inr at) = s e before at

no_start : (x : Entry) (h : List Entry) → is_start x.fact ≡ false → StartsDown x h
no_start x h none fact = absurd (never (sym (ap is_start fact) ∙ none))
  where
    never : true ≡ false → ⊥
    never h = cc

puts_down : (doc : Doc) (p : ℕ) (xs : List (Key × Object)) (h : List Entry) → alive p h ≡ None → alive p (put_all doc xs h) ≡ None
puts_down doc p [] h down = down
puts_down doc p (x ∷ xs) h down = puts_down doc p xs _ down

puts_start : (doc : Doc) (xs : List (Key × Object)) (h : List Entry) → Down h → Down (put_all doc xs h)
puts_start doc [] h s = s
puts_start doc (x ∷ xs) h s =
    let e = script_entry 0 0 (First x.0 (stamped (whole_second (store_wall doc 0)) x.1)) in
    puts_start doc xs (e ∷ h) (down_more e h (no_start e h refl) s)

starts_down : (k step p : ℕ) (h : List Entry) → alive p h ≡ None → StartsDown (entry k step (identity p (starts p h + 1)) Starts) h
starts_down k step p h down fact q by = ap (λ p. alive p h) (process by) ∙ down
  where
    process_of : Actor → ℕ
    process_of Actor.Script = 0
    process_of (Actor.Proc id i) = id.0

    process : actor_of (identity p (starts p h + 1)) ≡ actor_of q → q.process ≡ p
    process by = sym (ap process_of by)

pub starts_are_down : StartsAreDown
starts_are_down doc own zero = puts_start doc doc.objects [] (λ x before at. absurd (tail_of_empty x before at))
starts_are_down doc own (suc k) =
    by_beat doc own Down (λ k step p h down s. down_more _ h (starts_down k step p h down) s) (λ x h none due s. down_more x h (no_start x h none) s) k (history doc k)
    (first k) (starts_are_down doc own k)
  where
    first : (k : ℕ) → k ≡ 0 → (p : ℕ) → alive p (history doc k) ≡ None
    first k is p = subst (λ k. alive p (history doc k) ≡ None) (sym is) (puts_down doc p doc.objects [] refl)

-- ---- requests of turns

abbrev Due : Doc → List Entry → Type 0
Due doc h = (x : Entry) (before : List Entry) → IsTail (x ∷ before) h → SendsDue doc x before

due_more : (doc : Doc) (x : Entry) (h : List Entry) → SendsDue doc x h → Due doc h → Due doc (x ∷ h)
due_more doc x h new s e before (inl is) =
    subst (λ (e : Entry). SendsDue doc e before) (sym (same_head e x before h is)) (subst (λ g. SendsDue doc x g) (sym (same_rest e x before h is)) new)
due_more doc x h new s e before (inr at) = s e before at

puts_due : (doc : Doc) (xs : List (Key × Object)) (h : List Entry) → Due doc h → Due doc (put_all doc xs h)
puts_due doc [] h s = s
puts_due doc (x ∷ xs) h s =
    let e = script_entry 0 0 (First x.0 (stamped (whole_second (store_wall doc 0)) x.1)) in
    puts_due doc xs (e ∷ h) (due_more doc e h (λ four q by. tt) s)

pub sends_are_due : (doc : Doc) → ReleasesByStop doc → (k : ℕ) (x : Entry) (before : List Entry) → IsTail (x ∷ before) (history doc k) → SendsDue doc x before
sends_are_due doc own zero = puts_due doc doc.objects [] (λ x before at. absurd (tail_of_empty x before at))
sends_are_due doc own (suc k) =
    by_beat doc own (Due doc) (λ k step p h down s. due_more doc _ h (λ four q by. tt) s) (λ x h none due s. due_more doc x h due s) k (history doc k)
    (first k) (sends_are_due doc own k)
  where
    first : (k : ℕ) → k ≡ 0 → (p : ℕ) → alive p (history doc k) ≡ None
    first k is p = subst (λ k. alive p (history doc k) ≡ None) (sym is) (puts_down doc p doc.objects [] refl)
