-- What is told of a node stays as it is but by what tells of it: under the project's own rules.
use Rattle.std.proofs.Common.{◌≡◌, ◌∙◌, ◌⊎◌, ℕ, ◌==◌, not, Bool, true, false, cond, List, [], ◌∷◌, Option, Some, None, refl, sym, ap, subst, inl, inr, ⊎_elim}
use Rattle.std.proofs.lemmas.Bool.{eqb-true, cases_eq}
use Rattle.kube_base.specs.declared.numbers.Version.{Version}
use Rattle.kube_objects.specs.declared.call.Answer.{Answer}
use Rattle.kube_objects.specs.declared.call.Answer.TheVariants as answer
use Rattle.kube_objects.specs.declared.call.Reply.TheVariants as reply
use Rattle.kube_objects.specs.declared.deed.Actor.{Actor}
use Rattle.kube_objects.specs.declared.key.Key.{Key}
use Rattle.kube_objects.specs.declared.node.Node.{Node}
use Rattle.kube_objects.specs.declared.object.Object.{Object}
use Rattle.kube_objects.specs.declared.object.Object.TheVariants as object
use Rattle.kube_objects.specs.Answers.{as_kind, node_in, answer_update}
use Rattle.kube_objects.specs.Clocks.{store_wall, whole_second}
use Rattle.kube_objects.specs.Document.{Doc}
use Rattle.kube_objects.specs.Entry.{Entry, Identity, Fact, First, Event, Starts, Crashes, Stops, Stalls, Ends, Sends, Answers, Delivers, Expires, Leads, Ticks, Tick, Sync, Pass, Mark, Mode, Zone, Untaint, Swap, Head, Delete, Skip, script_entry, StepsDown, ReleaseBegins, ReleaseEnds, ReleaseStops}
use Rattle.kube_objects.specs.Health.{node_heartbeat, ready_heartbeat}
use Rattle.kube_objects.specs.Keys.{key_eq}
use Rattle.kube_objects.specs.Newest.{when, only_if, has, join}
use Rattle.kube_objects.specs.Own.{ReleasesByStop}
use Rattle.kube_objects.specs.Seen.{is_pod}
use Rattle.kube_objects.specs.Stamps.{stamped}
use Rattle.kube_objects.specs.Stored.{Held, Write, node_key, node_lease, at_key, write_of, tick_write, try_write, node_write, holds, last_write, stored, next_version}
use Rattle.kube_objects.specs.Tries.{as_answer}
use Rattle.kube_objects.specs.Wire.{loses_requests}
use Rattle.history.specs.Evictions.{stored_node}
use Rattle.history.specs.History.{put_all, history}
use Rattle.history_laws.specs.Tails.{IsTail}
use Rattle.history_laws.proofs.Plainly.{upper, false_is, true_is, or_left, or_right}
use Rattle.history_laws.proofs.Ticks.{IsOver, WritesOver, over_tick}
use Rattle.history_laws.proofs.Walk.{Keeps, no_release, walk_history}
use Rattle.eviction_laws.proofs.Early.{stored_as_seen}
use Rattle.kube_objects.proofs.KeyOrder.{same_key, key_itself}
use Rattle.heard_laws.specs.Heard.{is_about, tells_of}
use Rattle.outage_laws.proofs.Marked.{other_node}

-- ---- keys

node_no_lease : (a b : ℕ) → key_eq (node_key a) (node_lease b) ≡ false
node_no_lease a b = refl

pod_is_none : (pod key : Key) → is_pod pod.kind ≡ true → is_pod key.kind ≡ false → key_eq pod key ≡ false
pod_is_none pod key kind other = by_test (key_eq pod key) refl
  where
    by_test : (b : Bool) → key_eq pod key ≡ b → b ≡ false
    by_test true is = absurd (true_is (sym kind ∙ ap (λ (key : Key). is_pod key.kind) (same_key pod key is) ∙ other))
    by_test false is = refl

-- ---- what is told of a node

-- from g to h nothing is told of a node: it is stored as before, with its heartbeat, and so is its Lease
pub record SameWord (name : ℕ) (g h : List Entry) : Type 0 where
  pub found : has (stored_node name h) ≡ has (stored_node name g)
  pub heartbeat : node_heartbeat (stored_node name h) ≡ node_heartbeat (stored_node name g)
  pub lease : stored (node_lease name) h ≡ stored (node_lease name) g

pub same_word : (name : ℕ) (h : List Entry) → SameWord name h h
same_word name h = record { found = refl; heartbeat = refl; lease = refl }

word_then : (name : ℕ) (f g h : List Entry) → SameWord name f g → SameWord name g h → SameWord name f h
word_then name f g h a b = record { found = b.found ∙ a.found; heartbeat = b.heartbeat ∙ a.heartbeat; lease = b.lease ∙ a.lease }

-- an entry that writes neither
unwritten_key : (key : Key) (k : ℕ) (who : Actor) (o : Option Write) (h : List Entry) → has (at_key key o) ≡ false → join (upper (holds h k who (at_key key o)) (last_write key h)) ≡ stored key h
unwritten_key key k who o h none = by_key (at_key key o) none
  where
    by_key : (p : Option (Option Object)) → has p ≡ false → join (upper (holds h k who p) (last_write key h)) ≡ stored key h
    by_key None is = refl
    by_key (Some p) is = absurd (true_is is)

unwritten : (name : ℕ) (x : Entry) (h : List Entry) → has (at_key (node_key name) (write_of x.fact)) ≡ false → has (at_key (node_lease name) (write_of x.fact)) ≡ false → SameWord name h (x ∷ h)
unwritten name x h node lease =
    let same = unwritten_key (node_key name) x.beat x.actor (write_of x.fact) h node in
    record {
      found = ap (λ o. has (as_kind node_in o)) same;
      heartbeat = ap (λ o. node_heartbeat (as_kind node_in o)) same;
      lease = unwritten_key (node_lease name) x.beat x.actor (write_of x.fact) h lease;
    }

-- ---- the writes of ticks

-- an accepted try is over what is stored
abbrev IfAccepted : Option Answer → Type 0 → Type 0
IfAccepted (Some (answer.Done version)) holds = holds
IfAccepted _ holds = Unit {0}

over_stored : (q : Identity) (name : ℕ) (given : Version) (written : Node) (a : Option Answer) (h : List Entry) (over : IsOver q name given written a h)
    → IfAccepted a (stored_node name h ≡ Some (given, over.node))
over_stored q name given written a h over = subst (λ a. IfAccepted a Result) (sym over.tried) (by_loss (not (loses_requests q.process h)))
  where
    Result : Type 0
    Result = stored_node name h ≡ Some (given, over.node)

    by_version : (y : Held) → stored (node_key name) h ≡ Some y → (b : Bool) → (y.version.0 == given.0) ≡ b → IfAccepted (as_answer (cond b (reply.Done (next_version h)) (reply.Conflict y.version))) Result
    by_version y here false is = tt
    by_version y here true is = stored_as_seen node_in q (node_key name) h given over.node over.sees y here (eqb-true _ _ is)

    by_stored : (o : Option Held) → stored (node_key name) h ≡ o → IfAccepted (as_answer (answer_update (next_version h) given o)) Result
    by_stored None here = tt
    by_stored (Some y) here = by_version y here (y.version.0 == given.0) refl

    by_loss : (t : Bool) → IfAccepted (only_if t (as_answer (answer_update (next_version h) given (stored (node_key name) h)))) Result
    by_loss false = tt
    by_loss true = by_stored (stored (node_key name) h) refl

-- what a node's accepted write leaves at a name
written_node : (name other : ℕ) (k : ℕ) (who : Actor) (written node : Node) (given : Version) (h : List Entry) → stored_node other h ≡ Some (given, node) → ready_heartbeat written.ready ≡ ready_heartbeat node.ready
    → (x : Entry) → x.beat ≡ k → x.actor ≡ who → write_of x.fact ≡ Some (node_write other written) → SameWord name h (x ∷ h)
written_node name other k who written node given h here heartbeat x beat actor write = ⊎_elim same differs (cases_eq other name)
  where
    differs : (other ≡ name → ⊥) → SameWord name h (x ∷ h)
    differs apart =
        unwritten name x h
        (ap (λ o. has (at_key (node_key name) o)) write ∙ ap (λ b. has (when b (Some (object.Node written)))) (other_node other name apart))
        (ap (λ o. has (at_key (node_lease name) o)) write)

    over : SameWord other h (x ∷ h)
    over =
        let top : stored_node other (x ∷ h) ≡ Some (next_version h, written) =
        ap (λ o. as_kind node_in (join (upper (holds h x.beat x.actor (at_key (node_key other) o)) (last_write (node_key other) h)))) write
        ∙ ap (λ b. as_kind node_in (join (upper (holds h x.beat x.actor (when b (Some (object.Node written)))) (last_write (node_key other) h)))) (key_itself (node_key other)) in
        record {
          found = ap has top ∙ sym (ap has here);
          heartbeat = ap node_heartbeat top ∙ heartbeat ∙ sym (ap node_heartbeat here);
          lease = unwritten_key (node_lease other) x.beat x.actor (write_of x.fact) h (ap (λ o. has (at_key (node_lease other) o)) write);
        }

    same : other ≡ name → SameWord name h (x ∷ h)
    same is = subst (λ n. SameWord n h (x ∷ h)) is over

module _ (name : ℕ) (k : ℕ) (who : Actor) (h : List Entry) where
  abbrev top : Tick → Entry
  top t = record { beat = k; step = 4; actor = who; fact = Ticks t }

  silent : (t : Tick) → tick_write t ≡ None → SameWord name h (top t ∷ h)
  silent t none = unwritten name (top t) h (ap (λ o. has (at_key (node_key name) o)) none) (ap (λ o. has (at_key (node_lease name) o)) none)

  by_try : (q : Identity) (other : ℕ) (given : Version) (written : Node) (a : Option Answer) (t : Tick) → tick_write t ≡ try_write (node_write other written) a → IsOver q other given written a h → SameWord name h (top t ∷ h)
  by_try q other given written a t is over = by_answer a is (over_stored q other given written a h over)
    where
      by_answer : (a : Option Answer) → tick_write t ≡ try_write (node_write other written) a → IfAccepted a (stored_node other h ≡ Some (given, over.node)) → SameWord name h (top t ∷ h)
      by_answer None is here = silent t is
      by_answer (Some (answer.Done v)) is here = written_node name other k who written over.node given h here over.heartbeat (top t) refl refl is
      by_answer (Some answer.Absent) is here = silent t is
      by_answer (Some answer.Exists) is here = silent t is
      by_answer (Some (answer.Conflict v)) is here = silent t is

  by_delete : (pod : Key) (given node_given : Version) (due : ℕ) (a : Option Answer) → is_pod pod.kind ≡ true → SameWord name h (top (Delete pod given node_given due a) ∷ h)
  by_delete pod given node_given due a kind = by_answer a
    where
      apart : (key : Key) → is_pod key.kind ≡ false → has (at_key key (Some (pod, None))) ≡ false
      apart key other = ap (λ b. has (when {A = Option Object} b None)) (pod_is_none pod key kind other)

      by_answer : (a : Option Answer) → SameWord name h (top (Delete pod given node_given due a) ∷ h)
      by_answer None = silent (Delete pod given node_given due None) refl
      by_answer (Some (answer.Done v)) = unwritten name (top (Delete pod given node_given due (Some (answer.Done v)))) h (apart (node_key name) refl) (apart (node_lease name) refl)
      by_answer (Some answer.Absent) = silent (Delete pod given node_given due (Some answer.Absent)) refl
      by_answer (Some answer.Exists) = silent (Delete pod given node_given due (Some answer.Exists)) refl
      by_answer (Some (answer.Conflict v)) = silent (Delete pod given node_given due (Some (answer.Conflict v))) refl

  tick_word : (q : Identity) (t : Tick) → WritesOver q t h → SameWord name h (top t ∷ h)
  tick_word q Sync over = silent Sync refl
  tick_word q Pass over = silent Pass refl
  tick_word q (Mode on) over = silent (Mode on) refl
  tick_word q (Zone place state rate) over = silent (Zone place state rate) refl
  tick_word q (Mark other given written a) over = by_try q other given written a (Mark other given written a) refl over
  tick_word q (Untaint other given written a) over = by_try q other given written a (Untaint other given written a) refl over
  tick_word q (Swap other wanted given written a) over = by_try q other given written a (Swap other wanted given written a) refl over
  tick_word q (Head place other wanted given written a) over = by_try q other given written a (Head place other wanted given written a) refl over
  tick_word q (Delete pod given node_given due a) over = by_delete pod given node_given due a over
  tick_word q (Skip place other) over = silent (Skip place other) refl

-- ---- every history

-- an entry of a tick tells nothing, and those that may tell stand in the first two steps
abbrev pub Word : ℕ → ℕ → ℕ → Actor → Fact → List Entry → Type 0
Word name k step who (Ticks t) h = (step ≡ 4) × SameWord name h (record { beat = k; step = step; actor = who; fact = Ticks t } ∷ h)
Word name k step who (First key object) h = step ≡ 0
Word name k step who (Event what version) h = step ≡ 1
Word name k step who (Answers call reply comes written) h = step ≡ 2
Word name k step who _ h = Unit {0}

abbrev pub Words : ℕ → List Entry → Type 0
Words name [] = Unit {0}
Words name (x ∷ h) = Word name x.beat x.step x.actor x.fact h × Words name h

words_keep : (doc : Doc) → (name : ℕ) → Keeps doc (λ k step h. Words name h)
words_keep doc name = record {
  on = λ k step h s. s;
  next = λ k s. s;
  event = λ k w h scripted s. (refl, s);
  starts = λ k step p h s. (tt, s);
  crashes = λ k p i h up s. (tt, s);
  stalls = λ k id beats i h scripted up s. (tt, s);
  stops = λ k id i h scripted up free s. (tt, s);
  releases = λ k id i before request scripted up awake is stop was s. (tt, s);
  answers = λ k s h at t. (refl, t);
  ignores = λ k b h coming is s. (tt, s);
  counts = λ k b waiting h coming is of s. (tt, s);
  follows = λ k b waiting h request coming is role of follows was s. (tt, s);
  leads = λ k b waiting h version coming is role of follows was s. (tt, s);
  asks = λ k b waiting h request coming is role follows was s. (tt, s);
  turns = record {
    restarts = λ k p h s. (tt, s);
    expires = λ k p i call h up waits late of s. (tt, s);
    ends = λ k p i at h role up is before stop s. (tt, s);
    polls = λ k p i h role up awake waits s. (tt, s);
    attempts = λ k p i h role up awake waits s. (tt, s);
    seeks = λ k p i call h role up awake expired late s. (tt, s);
    posts = λ k p i h role up awake none s. (tt, s);
    ticks = λ k q h acting s. over_tick doc k q (Words name) (λ t g over s. ((refl, tick_word name k _ g q t over), s)) h s;
  };
}

put_words : (doc : Doc) (name : ℕ) (xs : List (Key × Object)) (h : List Entry) → Words name h → Words name (put_all doc xs h)
put_words doc name [] h s = s
put_words doc name (x ∷ xs) h s = put_words doc name xs (script_entry 0 0 (First x.0 (stamped (whole_second (store_wall doc 0)) x.1)) ∷ h) (refl, s)

pub words : (doc : Doc) → ReleasesByStop doc → (name k : ℕ) → Words name (history doc k)
words doc own name k =
    walk_history doc (λ k step h. Words name h) (words_keep doc name) (no_release doc (λ k step h. Words name h) own.release) (put_words doc name doc.objects [] tt) k

pub words_tail : (name : ℕ) (g h : List Entry) → IsTail g h → Words name h → Words name g
words_tail name g [] at s = subst (Words name) (sym at) s
words_tail name g (x ∷ h) (inl is) s = subst (Words name) (sym is) s
words_tail name g (x ∷ h) (inr at) s = words_tail name g h at s.1

-- the step of what tells
pub telling_step : (name k step : ℕ) (who : Actor) (d : Fact) (h : List Entry) → Word name k step who d h → tells_of name d ≡ true → (step ≡ 0) ⊎ ((step ≡ 1) ⊎ (step ≡ 2))
telling_step name k step who (First key object) h word is = inl word
telling_step name k step who (Event what version) h word is = inr (inl word)
telling_step name k step who (Answers call reply comes written) h word is = inr (inr word)
telling_step name k step who (Ticks t) h word is = absurd (false_is is)
telling_step name k step who Starts h word is = absurd (false_is is)
telling_step name k step who Crashes h word is = absurd (false_is is)
telling_step name k step who Stops h word is = absurd (false_is is)
telling_step name k step who Ends h word is = absurd (false_is is)
telling_step name k step who (Stalls beats) h word is = absurd (false_is is)
telling_step name k step who StepsDown h word is = absurd (false_is is)
telling_step name k step who (ReleaseBegins at_deadline) h word is = absurd (false_is is)
telling_step name k step who ReleaseEnds h word is = absurd (false_is is)
telling_step name k step who ReleaseStops h word is = absurd (false_is is)
telling_step name k step who (Sends call arrives) h word is = absurd (false_is is)
telling_step name k step who (Delivers call reply counted) h word is = absurd (false_is is)
telling_step name k step who (Expires call) h word is = absurd (false_is is)
telling_step name k step who (Leads version) h word is = absurd (false_is is)

-- one entry that tells nothing
one_word : (name : ℕ) (x : Entry) (h : List Entry) → Word name x.beat x.step x.actor x.fact h → tells_of name x.fact ≡ false → SameWord name h (x ∷ h)
one_word name x h word untold = by_fact x.fact refl word untold
  where
    plain : (d : Fact) → x.fact ≡ d → is_about name (write_of d) ≡ false → SameWord name h (x ∷ h)
    plain d is none =
        unwritten name x h
        (ap (λ d. has (at_key (node_key name) (write_of d))) is ∙ or_left (has (at_key (node_key name) (write_of d))) (has (at_key (node_lease name) (write_of d))) none)
        (ap (λ d. has (at_key (node_lease name) (write_of d))) is ∙ or_right (has (at_key (node_key name) (write_of d))) (has (at_key (node_lease name) (write_of d))) none)

    by_fact : (d : Fact) → x.fact ≡ d → Word name x.beat x.step x.actor d h → tells_of name d ≡ false → SameWord name h (x ∷ h)
    by_fact (Ticks t) is word untold = subst (λ d. SameWord name h (record { beat = x.beat; step = x.step; actor = x.actor; fact = d } ∷ h)) (sym is) word.1
    by_fact d is word untold = plain d is untold

-- entries that tell nothing
pub same_words : (name : ℕ) (g h : List Entry) → IsTail g h → Words name h → ((y : Entry) (t : List Entry) → IsTail (y ∷ t) h → IsTail g t → tells_of name y.fact ≡ false) → SameWord name g h
same_words name g [] at s untold = subst (λ g. SameWord name g []) (sym at) (same_word name [])
same_words name g (x ∷ h) (inl is) s untold = subst (λ g. SameWord name g (x ∷ h)) (sym is) (same_word name (x ∷ h))
same_words name g (x ∷ h) (inr at) s untold =
    word_then name g h (x ∷ h) (same_words name g h at s.1 (λ y t stands since. untold y t (inr stands) since)) (one_word name x h s.0 (untold x h (inl refl) at))
