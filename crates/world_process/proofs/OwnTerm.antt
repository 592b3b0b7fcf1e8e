-- Through which entries the term of a controller stands as it is.
use Rattle.std.proofs.Common.{◌≡◌, ◌∙◌, ℕ, ◌+◌, Bool, true, false, List, [], ◌∷◌, Option, Some, None, refl, sym, ap, subst}
use Rattle.std.specs.Prelude.{if◌then◌else◌}
use Rattle.kube_base.specs.declared.numbers.Version.{Version}
use Rattle.kube_objects.specs.declared.deed.Actor.{Actor}
use Rattle.kube_objects.specs.Document.{Doc}
use Rattle.kube_objects.specs.Elector.{acts_on, lead_says, leads}
use Rattle.kube_objects.specs.Entry.{Entry, Identity, Call, Fact, First, Event, Starts, Crashes, Stops, Stalls, Ends, StepsDown, ReleaseBegins, ReleaseEnds, ReleaseStops, Sends, Answers, Delivers, Expires, Leads, Ticks, entry}
use Rattle.kube_objects.specs.Identities.{identity, is_by, of_process}
use Rattle.kube_objects.specs.Newest.{added, join, when}
use Rattle.kube_objects.specs.Process.{alive, call_in, gone, is_late, life, life_says, release_begun, starts}
use Rattle.kube_objects.specs.Releases.{and_end}
use Rattle.kube_objects.specs.Tick.{tick}
use Rattle.kube_objects.specs.Turns.{expire_as, expire_call, expired}
use Rattle.history.specs.Steps.{start}
use Rattle.history_laws.proofs.Plainly.{false_is, none_is, some_is, upper}
use Rattle.history_laws.proofs.Ticks.{walk_tick}
use Rattle.controller_core.specs.declared.term.Term.{Term}
use Rattle.controller_core.specs.TermStands.{TermStands}
use Rattle.controller_core.proofs.Others.{others_kept}
use Rattle.watch_cache.specs.Stands.{is_tick_by, ticks}
use Rattle.world_process.specs.OwnTerm.{IsTermOf, OwnsTerm, is_beside}
use Rattle.world_process.specs.Plain.{IsUnheard}
use Rattle.world_process.proofs.Begun.{begun_beside, begun_new, begun_tick}
use Rattle.world_process.proofs.Lives.{alive-others, alive-start}
use Rattle.world_process.proofs.Names.{is_same-apart, of_process-other}
use Rattle.world_process.proofs.Unheard.{leads-unheard}

-- the term that a process owns in one history is its own in the other
abbrev pub KeepsTerm : Doc → ℕ → List Entry → List Entry → Type 0
KeepsTerm doc p h g = (t : Term) → OwnsTerm doc p h t → OwnsTerm doc p g t

-- an entry is no tick and no lead of the identity's
record IsAside (q : Identity) (e : Entry) : Type 0 where
  tick : is_tick_by q e.actor e.fact ≡ false
  lead : lead_says q e.actor e.fact ≡ None

term-beside : (doc : Doc) (q : Identity) (h : List Entry) (e : Entry) (t : Term) → IsAside q e → IsTermOf doc q h t → IsTermOf doc q (e ∷ h) t
term-beside doc q h e t other s = record { term = others_kept doc q h e t other.tick other.lead s.term; begun = begun_beside q h e other.tick s.begun }

-- nor one that makes up
keeps-entry : (doc : Doc) (p : ℕ) (e : Entry) (h : List Entry) → ((i : ℕ) → alive p (e ∷ h) ≡ Some i → alive p h ≡ Some i) → ((i : ℕ) → IsAside (identity p i) e) → KeepsTerm doc p h (e ∷ h)
keeps-entry doc p e h was other t s = record { settings = s.settings; each = λ i up. term-beside doc (identity p i) h e t (other i) (s.each i (was i up)) }

-- ---- entries that are no start, no lead and no tick

no-tick : (q : Identity) (who : Actor) (d : Fact) → is_beside d ≡ true → is_tick_by q who d ≡ false
no-tick q who (Ticks t) is = absurd (false_is is)
no-tick q who d is = refl

no-lead : (q : Identity) (who : Actor) (d : Fact) → is_beside d ≡ true → lead_says q who d ≡ None
no-lead q who (Leads version) is = absurd (false_is is)
no-lead q who d is = refl

lost : (o : Option ℕ) (last : Option (Option ℕ)) (i : ℕ) → join (upper (gone o) last) ≡ Some i → join last ≡ Some i
lost None last i up = up
lost (Some j) last i up = absurd (none_is i up)

-- who is up after it was so before
was-up : (p i : ℕ) (e : Entry) (h : List Entry) → is_beside e.fact ≡ true → alive p (e ∷ h) ≡ Some i → alive p h ≡ Some i
was-up p i e h is = by_fact e.actor e.fact is
  where
    by_fact : (who : Actor) (d : Fact) → is_beside d ≡ true → join (upper (life_says p who d) (life p h)) ≡ Some i → join (life p h) ≡ Some i
    by_fact who Starts is up = absurd (false_is is)
    by_fact who Crashes is up = lost (of_process p who) (life p h) i up
    by_fact who (Stalls beats) is up = up
    by_fact who Stops is up = lost (of_process p who) (life p h) i up
    by_fact who Ends is up = lost (of_process p who) (life p h) i up
    by_fact who StepsDown is up = up
    by_fact who (ReleaseBegins at_deadline) is up = up
    by_fact who ReleaseEnds is up = lost (of_process p who) (life p h) i up
    by_fact who ReleaseStops is up = up
    by_fact who (First key object) is up = up
    by_fact who (Event what version) is up = up
    by_fact who (Sends call arrives) is up = up
    by_fact who (Answers call reply comes written) is up = up
    by_fact who (Delivers call reply counted) is up = up
    by_fact who (Expires call) is up = up
    by_fact who (Leads version) is up = absurd (false_is is)
    by_fact who (Ticks tick) is up = absurd (false_is is)

pub keeps-beside : (doc : Doc) (p : ℕ) (e : Entry) (h : List Entry) → is_beside e.fact ≡ true → KeepsTerm doc p h (e ∷ h)
keeps-beside doc p e h is = keeps-entry doc p e h (λ i up. was-up p i e h is up) (λ i. record { tick = no-tick (identity p i) e.actor e.fact is; lead = no-lead (identity p i) e.actor e.fact is })

-- two of them
pub keeps-both : (doc : Doc) (p : ℕ) (e f : Entry) (h : List Entry) → is_beside e.fact ≡ true → is_beside f.fact ≡ true → KeepsTerm doc p h (e ∷ f ∷ h)
keeps-both doc p e f h upper lower t s = keeps-beside doc p e (f ∷ h) upper t (keeps-beside doc p f h lower t s)

-- the end of a leader that acts in its release
pub keeps-and-end : (doc : Doc) (p k step : ℕ) (q : Identity) (b : Bool) (h : List Entry) → KeepsTerm doc p h (and_end k step q b h)
keeps-and-end doc p k step q true h = keeps-beside doc p (entry k step q StepsDown) h refl
keeps-and-end doc p k step q false h = λ t s. s

-- where the process goes down, whatever is added
pub keeps-down : (doc : Doc) (p : ℕ) (h g : List Entry) → alive p g ≡ None → KeepsTerm doc p h g
keeps-down doc p h g down t s = record { settings = s.settings; each = λ i up. absurd (none_is i (sym down ∙ up)) }

-- an expiry, where there is one
pub keeps-expired : (doc : Doc) (k p : ℕ) (q : Identity) (h : List Entry) → KeepsTerm doc p h (expired doc k q h)
keeps-expired doc k p q h = by_call (call_in q h)
  where
    by_end : (b : Bool) → KeepsTerm doc p h (entry k 4 q ReleaseEnds ∷ and_end k 4 q b h)
    by_end true = keeps-both doc p (entry k 4 q ReleaseEnds) (entry k 4 q StepsDown) h refl refl
    by_end false = keeps-beside doc p (entry k 4 q ReleaseEnds) h refl

    by_release : (call : Call) (o : Option ℕ) → KeepsTerm doc p h (expire_as doc k q call o h)
    by_release call None = keeps-beside doc p (entry k 4 q (Expires call)) h refl
    by_release call (Some begun) = by_end (acts_on doc q h)

    by_late : (call : Call) (b : Bool) → KeepsTerm doc p h (if b then expire_as doc k q call (release_begun doc.settings.rules.release call.kind) h else h)
    by_late call true = by_release call (release_begun doc.settings.rules.release call.kind)
    by_late call false = λ t s. s

    by_call : (call : Option Call) → KeepsTerm doc p h (expire_call doc k q call h)
    by_call None = λ t s. s
    by_call (Some call) = by_late call (is_late doc q k call)

-- ---- entries of another process

foreign-tick : (p i : ℕ) (q : Identity) (d : Fact) → ¬ (q.process ≡ p) → is_tick_by (identity p i) (entry 0 0 q d).actor d ≡ false
foreign-tick p i q (Ticks t) other = is_same-apart q (identity p i) other
foreign-tick p i q d other = refl

foreign-lead : (p i : ℕ) (q : Identity) (d : Fact) → ¬ (q.process ≡ p) → lead_says (identity p i) (entry 0 0 q d).actor d ≡ None
foreign-lead p i q (Leads version) other = ap (λ b. when b version) (is_same-apart q (identity p i) other)
foreign-lead p i q d other = refl

pub keeps-others : (doc : Doc) (p k step : ℕ) (q : Identity) (d : Fact) (h : List Entry) → ¬ (q.process ≡ p) → KeepsTerm doc p h (entry k step q d ∷ h)
keeps-others doc p k step q d h other =
    let e = entry k step q d in
    keeps-entry doc p e h (λ i up. sym (alive-others p e h (of_process-other q p other)) ∙ up) (λ i. record { tick = foreign-tick p i q d other; lead = foreign-lead p i q d other })

-- ---- a start

ticks-unheard : (q : Identity) (h : List Entry) → IsUnheard q h → ticks q h ≡ 0
ticks-unheard q [] u = refl
ticks-unheard q (e ∷ h) u = ap (λ b. added b (ticks q h)) (by_fact e.actor e.fact u.0) ∙ ticks-unheard q h u.1
  where
    by_fact : (who : Actor) (d : Fact) → is_by q who ≡ false → is_tick_by q who d ≡ false
    by_fact who (Ticks tick) other = other
    by_fact who d other = refl

-- a term that has seen nothing is that of a process which has started in an incarnation that had no entry before
pub owns-started : (doc : Doc) (k step p : ℕ) (h : List Entry) (t : Term) → IsUnheard (identity p (starts p h + 1)) h
    → ((q : Identity) (g : List Entry) → ticks q g ≡ 0 → leads q g ≡ false → TermStands doc q g t) → OwnsTerm doc p (start k step p h) t
owns-started doc k step p h t u anew = record {
  settings = (anew q [] refl refl).parts.settings;
  each = λ i up. subst (λ n. IsTermOf doc (identity p n) (start k step p h) t) (some_is (starts p h + 1) i (sym (alive-start k step q h) ∙ up)) (record { term = anew q (start k step p h) none (leads-unheard q h u); begun = begun_new q (start k step p h) none });
}
  where
    q : Identity
    q = identity p (starts p h + 1)

    none : ticks q (start k step p h) ≡ 0
    none = ticks-unheard q h u

-- ---- a lead

pub owns-led : (doc : Doc) (k p i : ℕ) (version : Version) (h : List Entry) (old new : Term) → alive p h ≡ Some i → OwnsTerm doc p h old
    → (TermStands doc (identity p i) h old → TermStands doc (identity p i) (entry k 3 (identity p i) (Leads version) ∷ h) new)
    → OwnsTerm doc p (entry k 3 (identity p i) (Leads version) ∷ h) new
owns-led doc k p i version h old new up s led = record {
  settings = (led was.term).parts.settings;
  each = λ j now. subst (λ n. IsTermOf doc (identity p n) (e ∷ h) new) (some_is i j (sym up ∙ now)) (record { term = led was.term; begun = begun_beside (identity p i) h e refl was.begun });
}
  where
    e : Entry
    e = entry k 3 (identity p i) (Leads version)

    was : IsTermOf doc (identity p i) h old
    was = s.each i up

-- ---- a tick

pub alive-tick : (doc : Doc) (k p : ℕ) (q : Identity) (h : List Entry) → alive p (tick doc k q h) ≡ alive p h
alive-tick doc k p q h = walk_tick doc k q (λ g. alive p g ≡ alive p h) (λ t g made same. same) h refl

pub owns-ticked : (doc : Doc) (k p i : ℕ) (h : List Entry) (old new : Term) → alive p h ≡ Some i → OwnsTerm doc p h old → TermStands doc (identity p i) (tick doc k (identity p i) h) new → OwnsTerm doc p (tick doc k (identity p i) h) new
owns-ticked doc k p i h old new up s stands = record {
  settings = stands.parts.settings;
  each = λ j now. subst (λ n. IsTermOf doc (identity p n) (tick doc k q h) new) (some_is i j (sym up ∙ sym (alive-tick doc k p q h) ∙ now)) (record { term = stands; begun = begun_tick doc k q h (s.each i up).begun });
}
  where
    q : Identity
    q = identity p i
