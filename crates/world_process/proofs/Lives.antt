-- Another process's entries leave a process's life as it is.
use Rattle.std.proofs.Common.{◌≡◌, ℕ, ◌&&◌, Bool, true, false, List, ◌∷◌, Option, Some, None, refl, ap, ◌∙◌}
use Rattle.kube_objects.specs.declared.deed.Actor.{Actor}
use Rattle.kube_objects.specs.Document.{Doc}
use Rattle.kube_objects.specs.Entry.{Entry, Identity, Fact, First, Event, Starts, Crashes, Stops, Stalls, Ends, StepsDown, ReleaseBegins, ReleaseEnds, ReleaseStops, Sends, Answers, Delivers, Expires, Leads, Ticks, entry}
use Rattle.kube_objects.specs.Identities.{of_process}
use Rattle.kube_objects.specs.Newest.{newest, added, when, join, has}
use Rattle.kube_objects.specs.Process.{life_says, life, alive, born, gone, is_start, starts, restart_says, released_says, ended}
use Rattle.world_process.proofs.Names.{of_process-own}
use Rattle.world_process.proofs.Unheard.{and-false}

abbrev pub is_event : Fact → Bool
is_event (Event what version) = true
is_event _ = false

-- what newest finds where the top entry says nothing
pub newest-skips : {A : Type 0} (f : Entry → List Entry → Option A) (e : Entry) (h : List Entry) → f e h ≡ None → newest f (e ∷ h) ≡ newest f h
newest-skips {A = A} f e h none = ap (λ (x : Option A). elim x as (λ o. Option A) [ None ↦ newest f h | Some y ↦ Some y ]) none

life_says-others : (p : ℕ) (who : Actor) (d : Fact) → of_process p who ≡ None → life_says p who d ≡ None
life_says-others p who (First key object) other = refl
life_says-others p who (Event what version) other = refl
life_says-others p who Starts other = ap born other
life_says-others p who Crashes other = ap gone other
life_says-others p who (Stalls beats) other = refl
life_says-others p who Stops other = ap gone other
life_says-others p who Ends other = ap gone other
life_says-others p who StepsDown other = refl
life_says-others p who (ReleaseBegins at_deadline) other = refl
life_says-others p who ReleaseEnds other = ap gone other
life_says-others p who ReleaseStops other = refl
life_says-others p who (Sends call arrives) other = refl
life_says-others p who (Answers call reply comes written) other = refl
life_says-others p who (Delivers call reply counted) other = refl
life_says-others p who (Expires call) other = refl
life_says-others p who (Leads version) other = refl
life_says-others p who (Ticks tick) other = refl

restart_says-others : (doc : Doc) (p k : ℕ) (who : Actor) (d : Fact) (h : List Entry) → is_event d ≡ false → of_process p who ≡ None → restart_says doc p k who d h ≡ None
restart_says-others doc p k who (First key object) h own other = refl
restart_says-others doc p k who (Event what version) h own other = cc
restart_says-others doc p k who Starts h own other = ap (λ o. when (has o) None) other
restart_says-others doc p k who Crashes h own other = refl
restart_says-others doc p k who (Stalls beats) h own other = refl
restart_says-others doc p k who Stops h own other = refl
restart_says-others doc p k who Ends h own other = ap (λ o. when (has o) (Some k)) other
restart_says-others doc p k who StepsDown h own other = refl
restart_says-others doc p k who (ReleaseBegins at_deadline) h own other = refl
restart_says-others doc p k who ReleaseEnds h own other = ap (λ o. released_says p k o h) other
restart_says-others doc p k who ReleaseStops h own other = refl
restart_says-others doc p k who (Sends call arrives) h own other = refl
restart_says-others doc p k who (Answers call reply comes written) h own other = refl
restart_says-others doc p k who (Delivers call reply counted) h own other = refl
restart_says-others doc p k who (Expires call) h own other = refl
restart_says-others doc p k who (Leads version) h own other = refl
restart_says-others doc p k who (Ticks tick) h own other = refl

-- an entry of a process other than p
pub alive-others : (p : ℕ) (e : Entry) (h : List Entry) → of_process p e.actor ≡ None → alive p (e ∷ h) ≡ alive p h
alive-others p e h other = ap join (newest-skips (λ e h. life_says p e.actor e.fact) e h (life_says-others p e.actor e.fact other))

pub ended-others : (doc : Doc) (p : ℕ) (e : Entry) (h : List Entry) → is_event e.fact ≡ false → of_process p e.actor ≡ None → ended doc p (e ∷ h) ≡ ended doc p h
ended-others doc p e h own other = ap join (newest-skips (λ e T. restart_says doc p e.beat e.actor e.fact T) e h (restart_says-others doc p e.beat e.actor e.fact h own other))

pub starts-others : (p : ℕ) (e : Entry) (h : List Entry) → of_process p e.actor ≡ None → starts p (e ∷ h) ≡ starts p h
starts-others p e h other = ap (λ o. added (is_start e.fact && has o) (starts p h)) other ∙ ap (λ b. added b (starts p h)) (and-false (is_start e.fact))

-- a start makes up, in its incarnation
pub alive-start : (k step : ℕ) (q : Identity) (h : List Entry) → alive q.process (entry k step q Starts ∷ h) ≡ Some q.incarnation
alive-start k step q h = ap (λ o. join (elim (born o) as (λ x. Option (Option ℕ)) [ None ↦ life q.process h | Some y ↦ Some y ])) (of_process-own q)

-- an end makes down, with a restart after it
pub alive-end : (k step : ℕ) (q : Identity) (h : List Entry) → alive q.process (entry k step q Ends ∷ h) ≡ None
alive-end k step q h = ap (λ o. join (elim (gone o) as (λ x. Option (Option ℕ)) [ None ↦ life q.process h | Some y ↦ Some y ])) (of_process-own q)

pub ended-end : (doc : Doc) (k step : ℕ) (q : Identity) (h : List Entry) → ended doc q.process (entry k step q Ends ∷ h) ≡ Some k
ended-end doc k step q h = ap (λ o. join (elim (when (has o) (Some k)) as (λ x. Option (Option ℕ)) [ None ↦ newest (λ e T. restart_says doc q.process e.beat e.actor e.fact T) h | Some y ↦ Some y ])) (of_process-own q)
