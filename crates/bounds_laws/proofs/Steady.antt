-- An undisturbed controller of a document is steady, with the delays that the document sets, and its clock goes as the document has it.
use Rattle.std.proofs.Common.{◌≡◌, ◌≤◌, ℕ, suc, ◌==◌, Bool, true, false, List, [], ◌∷◌, Option, Some, None, IfSome, sym, subst, inl, inr, arith}
use Rattle.std.proofs.Math.Nat.{mul-le-mul_left}
use Rattle.kube_objects.specs.declared.deed.Actor.{Actor}
use Rattle.kube_objects.specs.declared.script.Event.{Event}
use Rattle.kube_objects.specs.declared.script.What.{What}
use Rattle.kube_objects.specs.declared.script.What.TheVariants as what
use Rattle.kube_objects.specs.Document.{Doc, beat_micros, is_controller}
use Rattle.kube_objects.specs.Entry.{Entry, Fact, First, Event as Happens, Starts, Stops, Sends, Answers, Delivers, Expires, Leads, Ends, Crashes, Stalls, Ticks, StepsDown, ReleaseBegins, ReleaseEnds, ReleaseStops}
use Rattle.kube_objects.specs.Newest.{when, or_else}
use Rattle.kube_objects.specs.Wire.{of_event, in_force, request_delay_of, reply_delay_of, request_delay, reply_delay}
use Rattle.kube_objects.specs.Own.{ReleasesByStop}
use Rattle.history.specs.History.{history}
use Rattle.history.specs.Steps.{stamp}
use Rattle.history_laws.specs.Tails.{IsTail}
use Rattle.history_laws.proofs.Plainly.{upper}
use Rattle.history_laws.proofs.Tailed.{tail_all, tail_trans}
use Rattle.history_laws.proofs.Walk.{InScript, Scripted}
use Rattle.span_laws.specs.Spans.{RunsAtLeast, RunsAtMost}
use Rattle.call_laws.specs.Answering.{with_events}
use Rattle.call_laws.proofs.Answering.{events_position}
use Rattle.call_laws.proofs.Making.{MadeAs, are_made}
use Rattle.takeover_laws.specs.Calm.{Passes, IsSteady}
use Rattle.script_reader.specs.Lawful.{IsLawfulDoc, IsLawfulWhat, AreLawfulFrom}
use Rattle.lens_bounds.specs.Documents.{reach_of, calm_of}
use Rattle.lens_bounds.proofs.Reaches.{reach-some}
use Rattle.bounds_laws.specs.Undisturbed.{far_of, IsHeard, IsUndisturbed}
use Rattle.bounds_laws.proofs.Reaching.{Has, event_within, rate_within}

-- ---- what is in force is what an event of the script says

module _ (doc : Doc) (rules : ReleasesByStop doc) (f : What → Option ℕ) (P : ℕ → Type 0) (each : (k : ℕ) (u : What) → Scripted doc k u → IfSome (f (stamp doc k u)) P) where
  by_fact : (k step : ℕ) (who : Actor) (d : Fact) (h : List Entry) → MadeAs doc k step who d h → IfSome (of_event f d) P
  by_fact k step who (Happens w version) h made = subst (λ w. IfSome (f w) P) (sym made.3) (each k made.1 made.2)
  by_fact k step who (First key object) h made = tt
  by_fact k step who Starts h made = tt
  by_fact k step who Crashes h made = tt
  by_fact k step who Stops h made = tt
  by_fact k step who (Stalls beats) h made = tt
  by_fact k step who StepsDown h made = absurd made
  by_fact k step who (ReleaseBegins at_deadline) h made = absurd made
  by_fact k step who ReleaseEnds h made = absurd made
  by_fact k step who ReleaseStops h made = absurd made
  by_fact k step who Ends h made = tt
  by_fact k step who (Sends call arrives) h made = tt
  by_fact k step who (Answers call reply comes wrote) h made = tt
  by_fact k step who (Delivers call reply counted) h made = tt
  by_fact k step who (Expires call) h made = tt
  by_fact k step who (Leads version) h made = tt
  by_fact k step who (Ticks t) h made = tt

  either : (o old : Option ℕ) → IfSome o P → IfSome old P → IfSome (upper o old) P
  either None old new below = below
  either (Some n) old new below = new

  in_force_is : (m : ℕ) (h : List Entry) → IsTail h (history doc m) → IfSome (in_force f h) P
  in_force_is m [] at = tt
  in_force_is m (x ∷ h) at =
      either (of_event f x.fact) (in_force f h) (by_fact x.beat x.step x.actor x.fact h (are_made doc rules m x h at))
      (in_force_is m h (tail_trans h (x ∷ h) (history doc m) (inr (tail_all h)) at))

-- ---- delays

-- from one beat to the document's greatest
abbrev pub IsWithinReach : Doc → ℕ → Type 0
IsWithinReach doc n = (1 ≤ n) × (n ≤ far_of doc)

lawful_event : (doc : Doc) (from : ℕ) (es : List Event) (e : Event) → AreLawfulFrom doc from es → InScript e es → IsLawfulWhat doc e.what
lawful_event doc from [] e lawful stands = absurd stands
lawful_event doc from (x ∷ es) e lawful (inl is) = subst (λ (e : Event). IsLawfulWhat doc e.what) (sym is) lawful.2
lawful_event doc from (x ∷ es) e lawful (inr stands) = lawful_event doc x.beat.0 es e lawful.3 stands

both_if : (b : Bool) (n far : ℕ) → 1 ≤ n → IfSome (when b n) (λ n. n ≤ far) → IfSome (when b n) (λ n. (1 ≤ n) × (n ≤ far))
both_if true n far some few = (some, few)
both_if false n far some few = tt

module _ (doc : Doc) (lawful : IsLawfulDoc doc) (p : ℕ) (role : is_controller doc p ≡ true) where
  said : (k : ℕ) (u : What) → Scripted doc k u → Has p u (reach_of doc true) × IsLawfulWhat doc u
  said k u sc = subst (λ w. Has p w (reach_of doc true) × IsLawfulWhat doc w) sc.2 (event_within doc p role sc.0 sc.1, lawful_event doc 0 doc.events sc.0 lawful.events sc.1)

  requests : (k : ℕ) (u : What) → Scripted doc k u → IfSome (request_delay_of p (stamp doc k u)) (IsWithinReach doc)
  requests k (what.Delay id x y) sc = let s = said k (what.Delay id x y) sc in both_if (id.0 == p) x (far_of doc) s.1.1.0 s.0.requests
  requests k (what.Rate id ppm) sc = tt
  requests k (what.Loss id x y) sc = tt
  requests k (what.Crash id) sc = tt
  requests k (what.Start id) sc = tt
  requests k (what.Stop id) sc = tt
  requests k (what.Watch id on) sc = tt
  requests k (what.Ready id status) sc = tt
  requests k (what.Pause id beats) sc = tt
  requests k (what.Stall beats) sc = tt
  requests k (what.Put key object) sc = tt
  requests k (what.Remove key) sc = tt

  replies : (k : ℕ) (u : What) → Scripted doc k u → IfSome (reply_delay_of p (stamp doc k u)) (IsWithinReach doc)
  replies k (what.Delay id x y) sc = let s = said k (what.Delay id x y) sc in both_if (id.0 == p) y (far_of doc) s.1.2.0 s.0.replies
  replies k (what.Rate id ppm) sc = tt
  replies k (what.Loss id x y) sc = tt
  replies k (what.Crash id) sc = tt
  replies k (what.Start id) sc = tt
  replies k (what.Stop id) sc = tt
  replies k (what.Watch id on) sc = tt
  replies k (what.Ready id status) sc = tt
  replies k (what.Pause id beats) sc = tt
  replies k (what.Stall beats) sc = tt
  replies k (what.Put key object) sc = tt
  replies k (what.Remove key) sc = tt

  pub some_far : 1 ≤ far_of doc
  some_far = (reach-some doc lawful true).far

  or_one : (o : Option ℕ) → IfSome o (IsWithinReach doc) → IsWithinReach doc (or_else 1 o)
  or_one None x = (omega arith, some_far)
  or_one (Some n) x = x

  -- ---- clocks

  pub runs_least : (a e : ℕ) → RunsAtLeast doc p a e (calm_of doc).slow
  runs_least a e j from to = mul-le-mul_left (beat_micros doc) (rate_within doc p role j).least

  pub runs_most : (a e : ℕ) → RunsAtMost doc p a e (calm_of doc).fast
  runs_most a e j from to = mul-le-mul_left (beat_micros doc) (rate_within doc p role j).greatest

  -- ---- messages

  module _ (rules : ReleasesByStop doc) where
    pub request_within : (m : ℕ) (h : List Entry) → IsTail h (history doc m) → IsWithinReach doc (request_delay p h)
    request_within m h at = or_one (in_force (request_delay_of p) h) (in_force_is doc rules (request_delay_of p) (IsWithinReach doc) requests m h at)

    pub reply_within : (m : ℕ) (h : List Entry) → IsTail h (history doc m) → IsWithinReach doc (reply_delay p h)
    reply_within m h at = or_one (in_force (reply_delay_of p) h) (in_force_is doc rules (reply_delay_of p) (IsWithinReach doc) replies m h at)

    passes : (k : ℕ) → IsHeard doc p k → Passes doc 1 (far_of doc) p k
    passes k s =
        let ask = request_within (suc k) (with_events doc k) (events_position doc k) in
        let back = reply_within (suc k) (with_events doc k) (events_position doc k) in
        record {
          requests = s.requests;
          replies = s.replies;
          request_least = ask.0;
          request_most = ask.1;
          reply_least = back.0;
          reply_most = back.1;
          awake = s.awake;
          goes = s.goes;
        }

    pub steady : (a e : ℕ) → IsUndisturbed doc a e p → IsSteady doc 1 (far_of doc) a e p
    steady a e s = record { passes = λ k from to. passes k (s.heard k from to); crashes = s.crashes; stops = s.stops; ends = s.ends }

pub undisturbed : (doc : Doc) (a e p : ℕ) → IsSteady doc 1 (far_of doc) a e p → IsUndisturbed doc a e p
undisturbed doc a e p s = record {
  heard = λ k from to. let t = s.passes k from to in record { requests = t.requests; replies = t.replies; awake = t.awake; goes = t.goes };
  crashes = s.crashes;
  stops = s.stops;
  ends = s.ends;
}
