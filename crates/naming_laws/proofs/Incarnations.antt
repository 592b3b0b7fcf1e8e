-- Every process that starts is one of the document's, and its incarnation has 32 bits.
use Rattle.std.proofs.Common.{◌≡◌, ℕ, ◌+◌, ◌≤◌, ◌&&◌, ◌<◌, List, [], ◌∷◌, refl, sym, ap, ◌∙◌, subst, arith}
use Rattle.std.proofs.Math.Nat.{mul-le-mul_left}
use Rattle.std.proofs.lemmas.Bool.{eq-eqb}
use Rattle.kube_objects.specs.declared.deed.Actor.{Actor}
use Rattle.kube_objects.specs.declared.deed.Actor.TheVariants as actor
use Rattle.kube_objects.specs.declared.key.Key.{Key}
use Rattle.kube_objects.specs.declared.object.Object.{Object}
use Rattle.kube_objects.specs.Clocks.{store_wall, whole_second}
use Rattle.kube_objects.specs.Document.{Doc, processes, end_beat}
use Rattle.kube_objects.specs.Entry.{Entry, Fact, First, Event as Happens, Starts, Crashes, Stops, Stalls, Ends, ReleaseBegins, ReleaseEnds, StepsDown, ReleaseStops, Sends, Answers, Delivers, Expires, Leads, Ticks, actor_of, script_entry}
use Rattle.kube_objects.specs.Identities.{identity, of_process}
use Rattle.kube_objects.specs.Newest.{added, has, when}
use Rattle.kube_objects.specs.Process.{starts, is_start}
use Rattle.kube_objects.specs.Stamps.{stamped}
use Rattle.kube_objects.specs.Writable.{IsOneOf}
use Rattle.history.specs.History.{put_all, history}
use Rattle.history_laws.proofs.Starts.{starts_are_few}
use Rattle.history_laws.proofs.Plainly.{added_more}
use Rattle.history_laws.proofs.Walk.{StartIsNext, Keeps, all_kinds, all_release, walk_history}
use Rattle.script_reader.specs.Lawful.{IsLawfulDoc}
use Rattle.naming_laws.specs.WellFormed.{IsIncarnation}
use Rattle.naming_laws.proofs.Starting.{StartsAreOfOne, IsStartOfOne, starts_are_of_one}

-- the script, or one of so many processes in such an incarnation
abbrev pub IsMember : ℕ → Actor → Type 0
IsMember n actor.Script = Unit {0}
IsMember n (actor.Proc id i) = (id.0 < n) × IsIncarnation i

abbrev pub IsStartOfMember : ℕ → Actor → Fact → Type 0
IsStartOfMember n who Starts = IsMember n who
IsStartOfMember n who _ = Unit {0}

abbrev pub StartsAreOfMembers : ℕ → List Entry → Type 0
StartsAreOfMembers n [] = Unit {0}
StartsAreOfMembers n (e ∷ h) = IsStartOfMember n e.actor e.fact × StartsAreOfMembers n h

-- ---- each start's incarnation counts the starts up to it

abbrev IsCountedStart : Actor → Fact → List Entry → Type 0
IsCountedStart who d h = StartIsNext who d h

abbrev AreCounted : List Entry → Type 0
AreCounted [] = Unit {0}
AreCounted (e ∷ h) = IsCountedStart e.actor e.fact h × AreCounted h

put_counted : (doc : Doc) (xs : List (Key × Object)) (h : List Entry) → AreCounted h → AreCounted (put_all doc xs h)
put_counted doc [] h s = s
put_counted doc (x ∷ xs) h s = put_counted doc xs (script_entry 0 0 (First x.0 (stamped (whole_second (store_wall doc 0)) x.1)) ∷ h) (tt, s)

counted_keeps : (doc : Doc) → Keeps doc (λ k step h. AreCounted h)
counted_keeps doc = all_kinds doc (λ k step h. AreCounted h) (λ k step h s. s) (λ k h s. s) (λ x h next s. (next.0, s))

starts_counted : (doc : Doc) (k : ℕ) → AreCounted (history doc k)
starts_counted doc k = walk_history doc (λ k step h. AreCounted h) (counted_keeps doc) (all_release doc (λ k step h. AreCounted h) (λ x h next s. (next.0, s))) (put_counted doc doc.objects [] tt) k

-- ---- so it has 32 bits, where there are no more starts

abbrev AreFew : List Entry → Type 0
AreFew h = (p : ℕ) → starts p h ≤ 4294967295

-- a start counts
start_counts : (p i : ℕ) (h : List Entry) → added (has (of_process p (actor_of (identity p i)))) (starts p h) ≡ starts p h + 1
start_counts p i h = ap (λ b. added (has (when b i)) (starts p h)) (eq-eqb p p refl)

member : (n : ℕ) (e : Entry) (h : List Entry) → IsStartOfOne n e.actor e.fact → IsCountedStart e.actor e.fact h → AreFew (e ∷ h) → IsStartOfMember n e.actor e.fact
member n e h within next few = cases e.fact refl within next
  where
    begins : (d : Fact) → e.fact ≡ d → (p : ℕ) × (e.actor ≡ actor_of (identity p (starts p h + 1))) → IsOneOf n e.actor → d ≡ Starts → IsMember n e.actor
    begins d at (p, is) below starts_here =
        let count : starts p (e ∷ h) ≡ starts p h + 1 =
        ap (λ (d : Fact). added (is_start d && has (of_process p e.actor)) (starts p h)) (at ∙ starts_here)
        ∙ ap (λ who. added (has (of_process p who)) (starts p h)) is ∙ start_counts p (starts p h + 1) h in
        subst (IsMember n) (sym is) (subst (IsOneOf n) is below, (omega arith, omega (arith, few p, count)))

    cases : (d : Fact) → e.fact ≡ d → IsStartOfOne n e.actor d → IsCountedStart e.actor d h → IsStartOfMember n e.actor d
    cases Starts at within next = begins Starts at next within refl
    cases Crashes at within next = tt
    cases Stops at within next = tt
    cases (Stalls beats) at within next = tt
    cases Ends at within next = tt
    cases (ReleaseBegins at_deadline) at within next = tt
    cases ReleaseEnds at within next = tt
    cases StepsDown at within next = tt
    cases ReleaseStops at within next = tt
    cases (First key object) at within next = tt
    cases (Happens event version) at within next = tt
    cases (Sends call arrives) at within next = tt
    cases (Answers call reply comes written) at within next = tt
    cases (Delivers call reply counted) at within next = tt
    cases (Expires call) at within next = tt
    cases (Leads version) at within next = tt
    cases (Ticks t) at within next = tt

members : (n : ℕ) (h : List Entry) → StartsAreOfOne n h → AreCounted h → AreFew h → StartsAreOfMembers n h
members n [] within counted few = tt
members n (e ∷ h) within counted few =
    (member n e h within.0 counted.0 few, members n h within.1 counted.1 (λ p. omega (arith, few p, added_more (is_start e.fact && has (of_process p e.actor)) (starts p h))))

pub starts_are_of_members : (doc : Doc) → IsLawfulDoc doc → (k : ℕ) → k ≤ end_beat doc + 1 → StartsAreOfMembers (processes doc) (history doc k)
starts_are_of_members doc lawful k le = members (processes doc) (history doc k) (starts_are_of_one doc lawful k) (starts_counted doc k) few
  where
    last : end_beat doc ≤ 604800000
    last = omega (arith, lawful.settings.end, lawful.settings.beat_least, mul-le-mul_left (end_beat doc) lawful.settings.beat_least)

    few : AreFew (history doc k)
    few p = omega (arith, starts_are_few doc p k, le, last, lawful.few_events)
