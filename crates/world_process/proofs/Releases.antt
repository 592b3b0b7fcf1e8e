-- A release in a history: what its begin and its end say, and what follows from its call.
use Rattle.std.proofs.Common.{◌≡◌, ℕ, ◌==◌, ◌&&◌, not, nat_lt, Bool, true, false, List, [], ◌∷◌, Option, Some, None, refl, sym, ap, ◌∙◌}
use Rattle.std.specs.Prelude.{if◌then◌else◌}
use Rattle.kube_objects.specs.declared.deed.Actor.{Actor}
use Rattle.kube_objects.specs.declared.rules.ReleaseActing.{ReleaseActing}
use Rattle.kube_objects.specs.declared.rules.ReleaseActing.TheVariants.{Still, Acts}
use Rattle.kube_objects.specs.declared.rules.ReleaseRule.{ReleaseRule}
use Rattle.kube_objects.specs.declared.rules.ReleaseRule.TheVariants.{Stop, Own, Checked, Reread}
use Rattle.kube_objects.specs.Clocks.{local}
use Rattle.kube_objects.specs.Document.{Doc}
use Rattle.kube_objects.specs.Elector.{acts_by, acts_on, deadline, leads, timer}
use Rattle.kube_objects.specs.Entry.{Entry, Identity, Call, CallKind, Fact, Delivers, Expires, ReleaseBegins, Sends, entry}
use Rattle.kube_objects.specs.Identities.{identity, is_by}
use Rattle.kube_objects.specs.Newest.{has, join, newest, or_else, when}
use Rattle.kube_objects.specs.Process.{alive, call_in, call_says, ended, ending_says, gone, is_ending, is_present, is_releasing, last_call, life, open_as, release_begun, released_says, restart_says, starts}
use Rattle.kube_objects.specs.Releases.{and_end, end_release}
use Rattle.kube_objects.specs.Turns.{attempt_if, end_as, end_released, end_term, expired_in, is_fast_call, just_expired, try}
use Rattle.kube_objects.proofs.OwnCalls.{last_expired, mine, said}
use Rattle.history.specs.Steps.{stop_as, stop_releasing}
use Rattle.history_laws.proofs.Plainly.{none_is}
use Rattle.world_process.proofs.Names.{eq-self, of_process-own}
use Rattle.world_process.proofs.Unheard.{and-false}

-- ---- rules that have releases

pub has-release : (rule : ReleaseRule) (kind : CallKind) (from : ℕ) → release_begun rule kind ≡ Some from → rule ≡ Stop → ⊥
has-release Stop kind from begun is = none_is from begun
has-release Own kind from begun is = cc
has-release Checked kind from begun is = cc
has-release Reread kind from begun is = cc

pub ends-by-release : (rule : ReleaseRule) (doc : Doc) (k : ℕ) (q : Identity) (h : List Entry) → (rule ≡ Stop → ⊥) → end_as rule doc k q h ≡ end_released doc k q (is_releasing q h) h
ends-by-release Stop doc k q h other = absurd (other refl)
ends-by-release Own doc k q h other = refl
ends-by-release Checked doc k q h other = refl
ends-by-release Reread doc k q h other = refl

pub stops-by-release : (rule : ReleaseRule) (doc : Doc) (k : ℕ) (q : Identity) (before h : List Entry) → (rule ≡ Stop → ⊥) → stop_as rule doc k q before h ≡ stop_releasing doc k q (is_releasing q before) (leads q before) h
stops-by-release Stop doc k q before h other = absurd (other refl)
stops-by-release Own doc k q before h other = refl
stops-by-release Checked doc k q before h other = refl
stops-by-release Reread doc k q before h other = refl

-- ---- its begin

pub ending-begins : (k step : ℕ) (q : Identity) (b : Bool) (h : List Entry) → is_ending q (entry k step q (ReleaseBegins b) ∷ h) ≡ b
ending-begins k step q b h = ap (λ t. or_else false (said (when t b) (newest (λ e T. ending_says q e.actor e.fact) h))) (mine q)

-- whether a leader acts in it
pub acts-begins : (doc : Doc) (k step : ℕ) (q : Identity) (b : Bool) (h : List Entry) → alive q.process h ≡ Some q.incarnation → acts_on doc q (entry k step q (ReleaseBegins b) ∷ h) ≡ acts_by doc.settings.rules.in_release b
acts-begins doc k step q b h up =
    let g = entry k step q (ReleaseBegins b) ∷ h in
    ap (λ o. acts_by doc.settings.rules.in_release (is_present o q.incarnation && is_ending q g)) up
    ∙ ap (λ t. acts_by doc.settings.rules.in_release (t && is_ending q g)) (eq-self q.incarnation)
    ∙ ap (acts_by doc.settings.rules.in_release) (ending-begins k step q b h)

pub alive-and-end : (p k step : ℕ) (q : Identity) (b : Bool) (h : List Entry) → alive p (and_end k step q b h) ≡ alive p h
alive-and-end p k step q true h = refl
alive-and-end p k step q false h = refl

pub starts-and-end : (p k step : ℕ) (q : Identity) (b : Bool) (h : List Entry) → starts p (and_end k step q b h) ≡ starts p h
starts-and-end p k step q true h = refl
starts-and-end p k step q false h = refl

pub leads-and-end : (k step : ℕ) (q : Identity) (b : Bool) (h : List Entry) → leads q (and_end k step q b h) ≡ leads q h
leads-and-end k step q true h = refl
leads-and-end k step q false h = refl

ending-and-end : (k step : ℕ) (q : Identity) (b : Bool) (h : List Entry) → is_ending q (and_end k step q b h) ≡ is_ending q h
ending-and-end k step q true h = refl
ending-and-end k step q false h = refl

-- ---- its end

-- makes down
pub alive-over : (doc : Doc) (k step : ℕ) (q : Identity) (h : List Entry) → alive q.process (end_release doc k step q h) ≡ None
alive-over doc k step q h = ap (λ o. join (said (gone o) (life q.process (and_end k step q (acts_on doc q h) h)))) (of_process-own q)

pub starts-over : (doc : Doc) (p k step : ℕ) (q : Identity) (h : List Entry) → starts p (end_release doc k step q h) ≡ starts p h
starts-over doc p k step q h = starts-and-end p k step q (acts_on doc q h) h

-- with a restart where it is an end
pub ended-over : (doc : Doc) (p i k step : ℕ) (h : List Entry) → ended doc p (end_release doc k step (identity p i) h) ≡ when (is_ending (identity p i) h) k
ended-over doc p i k step h =
    let q = identity p i in
    let g = and_end k step q (acts_on doc q h) h in
    ap (λ o. join (said (released_says p k o g) (newest (λ e T. restart_says doc p e.beat e.actor e.fact T) g))) (of_process-own q)
    ∙ ap (λ b. when b k) (ending-and-end k step q (acts_on doc q h) h)

-- ---- while a call waits, none has expired since

unlost-by : (q : Identity) (k at : ℕ) (who : Actor) (d : Fact) (calls : Option (Option Call)) (lost : Option (Option Call)) (call : Call) → (join calls ≡ Some call → join lost ≡ None) → join (said (call_says q who d) calls) ≡ Some call
    → join (said (when (is_by q who) (expired_in k at d)) lost) ≡ None
unlost-by q k at who (Expires x) calls lost call before waits = by_test (is_by q who) waits
  where
    by_test : (t : Bool) → join (said (when {A = Option Call} t None) calls) ≡ Some call → join (said (when t (when (at == k) x)) lost) ≡ None
    by_test true waits = absurd (none_is call waits)
    by_test false waits = before waits
unlost-by q k at who (Sends x arrives) calls lost call before waits = by_test (is_by q who) waits
  where
    by_test : (t : Bool) → join (said (when t (open_as x.kind x)) calls) ≡ Some call → join (said (when {A = Option Call} t None) lost) ≡ None
    by_test true waits = refl
    by_test false waits = before waits
unlost-by q k at who (Delivers x reply counted) calls lost call before waits = by_test (is_by q who) waits
  where
    by_test : (t : Bool) → join (said (when {A = Option Call} (counted && t) None) calls) ≡ Some call → join (said (when {A = Option Call} t None) lost) ≡ None
    by_test true waits = refl
    by_test false waits = before (ap (λ b. join (said (when {A = Option Call} b None) calls)) (sym (and-false counted)) ∙ waits)
unlost-by q k at who (ReleaseBegins at_deadline) calls lost call before waits = by_test (is_by q who) waits
  where
    by_test : (t : Bool) → join (said (when {A = Option Call} t None) calls) ≡ Some call → join (said (when {A = Option Call} t None) lost) ≡ None
    by_test true waits = refl
    by_test false waits = before waits
unlost-by q k at who _ calls lost call before waits = by_test (is_by q who)
  where
    by_test : (t : Bool) → join (said (when {A = Option Call} t None) lost) ≡ None
    by_test true = refl
    by_test false = before waits

unlost : (q : Identity) (k : ℕ) (h : List Entry) (call : Call) → call_in q h ≡ Some call → just_expired q k h ≡ None
unlost q k [] call waits = refl
unlost q k (e ∷ h) call waits = unlost-by q k e.beat e.actor e.fact (last_call q h) (last_expired q k h) call (unlost q k h call) waits

pub waits-settled : (q : Identity) (k : ℕ) (h : List Entry) (call : Call) → call_in q h ≡ Some call → is_fast_call (just_expired q k h) ≡ false
waits-settled q k h call waits = ap is_fast_call (unlost q k h call waits)

-- so no attempt starts
pub waits-tries : (doc : Doc) (k : ℕ) (q : Identity) (h : List Entry) (call : Call) → call_in q h ≡ Some call → try doc k q h ≡ h
waits-tries doc k q h call waits =
    let due = not (nat_lt (local doc q.process k) (timer doc q h)) in
    ap (λ b. attempt_if doc k q b (not (has (call_in q h)) && due) h) (waits-settled q k h call waits)
    ∙ ap (λ o. attempt_if doc k q false (not (has o) && due) h) waits

-- ---- while it runs

-- the deadline ends nothing
pub runs-on : (doc : Doc) (k : ℕ) (q : Identity) (h : List Entry) → (doc.settings.rules.release ≡ Stop → ⊥) → is_releasing q h ≡ true → end_term doc k q (deadline doc q h) h ≡ h
runs-on doc k q h other runs = by_deadline (deadline doc q h)
  where
    by_test : (b : Bool) → (if b then h else end_as doc.settings.rules.release doc k q h) ≡ h
    by_test true = refl
    by_test false = ends-by-release doc.settings.rules.release doc k q h other ∙ ap (λ b. end_released doc k q b h) runs

    by_deadline : (o : Option ℕ) → end_term doc k q o h ≡ h
    by_deadline None = refl
    by_deadline (Some at) = by_test (nat_lt (local doc q.process k) at)

-- ---- whether a leader acts in it

-- nobody acts in a release that is no end
pub acts-not : (doc : Doc) (q : Identity) (h : List Entry) → is_ending q h ≡ false → acts_on doc q h ≡ false
acts-not doc q h none =
    ap (λ b. acts_by doc.settings.rules.in_release (is_present (alive q.process h) q.incarnation && b)) none
    ∙ ap (acts_by doc.settings.rules.in_release) (and-false (is_present (alive q.process h) q.incarnation))
    ∙ by_acting doc.settings.rules.in_release
  where
    by_acting : (a : ReleaseActing) → acts_by a false ≡ false
    by_acting Still = refl
    by_acting Acts = refl
