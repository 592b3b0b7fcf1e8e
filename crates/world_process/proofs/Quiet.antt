-- A history with some quiet entries of one identity, and what is printed of them.
use Rattle.std.proofs.Common.{◌≡◌, ℕ, ◌++◌, Bool, true, false, List, [], ◌∷◌, Option, Some, None, refl, sym, ap, ◌∙◌, subst, append_assoc}
use Rattle.std.specs.Prelude.{if◌then◌else◌}
use Rattle.std.proofs.lemmas.List.{append-nil}
use Rattle.kube_objects.specs.declared.deed.Deed.{Deed}
use Rattle.kube_objects.specs.CallSlots.{release_of}
use Rattle.kube_objects.specs.Document.{Doc}
use Rattle.kube_objects.specs.Elector.{acts_on}
use Rattle.kube_objects.specs.Entry.{Entry, Identity, Call, Fact, Expires, ReleaseEnds, StepsDown, actor_of, entry}
use Rattle.kube_objects.specs.Process.{alive, call_in, is_late, release_begun, starts}
use Rattle.kube_objects.specs.Releases.{and_end, end_release}
use Rattle.kube_objects.specs.Turns.{expire_as, expire_call, expired}
use Rattle.history.specs.Printed.{act_of, deeds_of, printed}
use Rattle.world_process.specs.Moves.{ended_deeds}
use Rattle.world_process.specs.Plain.{AreQuiet, is_quiet, with_facts}

pub record Adds (k step : ℕ) (q : Identity) (h g : List Entry) (deeds : List Deed) : Type 0 where
  pub facts : List Fact
  pub quiet : AreQuiet facts
  pub is : g ≡ with_facts k step q facts h
  pub told : printed g ≡ printed h ++ deeds

-- ---- none, one, and more of them

pub adds-none : (k step : ℕ) (q : Identity) (h : List Entry) → Adds k step q h h []
adds-none k step q h = record { facts = []; quiet = tt; is = refl; told = sym (append-nil (printed h)) }

pub adds-one : (k step : ℕ) (q : Identity) (d : Fact) (h : List Entry) → is_quiet d ≡ true → Adds k step q h (entry k step q d ∷ h) (deeds_of k (actor_of q) (act_of d))
adds-one k step q d h quiet = record { facts = d ∷ []; quiet = (quiet, tt); is = refl; told = refl }

with-both : (k step : ℕ) (q : Identity) (fs gs : List Fact) (h : List Entry) → with_facts k step q (fs ++ gs) h ≡ with_facts k step q fs (with_facts k step q gs h)
with-both k step q [] gs h = refl
with-both k step q (d ∷ fs) gs h = ap (λ g. entry k step q d ∷ g) (with-both k step q fs gs h)

quiet-both : (fs gs : List Fact) → AreQuiet fs → AreQuiet gs → AreQuiet (fs ++ gs)
quiet-both [] gs a b = b
quiet-both (d ∷ fs) gs a b = (a.0, quiet-both fs gs a.1 b)

pub adds-then : {k step : ℕ} {q : Identity} {f g h : List Entry} {ds es : List Deed} → Adds k step q h g ds → Adds k step q g f es → Adds k step q h f (ds ++ es)
adds-then {k = k} {step = step} {q = q} {h = h} {ds = ds} {es = es} a b =
    record {
      facts = b.facts ++ a.facts;
      quiet = quiet-both b.facts a.facts b.quiet a.quiet;
      is = b.is ∙ ap (with_facts k step q b.facts) a.is ∙ sym (with-both k step q b.facts a.facts h);
      told = b.told ∙ ap (λ x. x ++ es) a.told ∙ append_assoc (printed h) ds es;
    }

pub adds-told : {k step : ℕ} {q : Identity} {g h : List Entry} {ds es : List Deed} → ds ≡ es → Adds k step q h g ds → Adds k step q h g es
adds-told {k = k} {step = step} {q = q} {g = g} {h = h} same a = subst (Adds k step q h g) same a

-- ---- the end of a release

pub adds-end : (k step : ℕ) (q : Identity) (b : Bool) (h : List Entry) → Adds k step q h (and_end k step q b h) (ended_deeds k q b)
adds-end k step q true h = adds-one k step q StepsDown h refl
adds-end k step q false h = adds-none k step q h

pub adds-over : (doc : Doc) (k step : ℕ) (q : Identity) (h : List Entry) → Adds k step q h (end_release doc k step q h) (ended_deeds k q (acts_on doc q h))
adds-over doc k step q h =
    adds-told (append-nil (ended_deeds k q (acts_on doc q h)))
    (adds-then (adds-end k step q (acts_on doc q h) h) (adds-one k step q ReleaseEnds (and_end k step q (acts_on doc q h) h) refl))

-- ---- the expiry of a call that is of no release

-- what the entry of an expiry leaves as it is stays through an expiry
pub expired-same : {A : Type 0} (f : List Entry → A) (doc : Doc) (k : ℕ) (q : Identity) (h : List Entry) → release_of doc (call_in q h) ≡ None → ((call : Call) → f (entry k 4 q (Expires call) ∷ h) ≡ f h)
    → f (expired doc k q h) ≡ f h
expired-same f doc k q h none same = by_call (call_in q h) none
  where
    by_late : (call : Call) (b : Bool) → release_begun doc.settings.rules.release call.kind ≡ None → f (if b then expire_as doc k q call (release_begun doc.settings.rules.release call.kind) h else h) ≡ f h
    by_late call true none = ap (λ o. f (expire_as doc k q call o h)) none ∙ same call
    by_late call false none = refl

    by_call : (call : Option Call) → release_of doc call ≡ None → f (expire_call doc k q call h) ≡ f h
    by_call None none = refl
    by_call (Some call) none = by_late call (is_late doc q k call) none

-- it leaves the life as it is, and starts nothing
pub alive-expired : (doc : Doc) (k p : ℕ) (q : Identity) (h : List Entry) → release_of doc (call_in q h) ≡ None → alive p (expired doc k q h) ≡ alive p h
alive-expired doc k p q h none = expired-same (alive p) doc k q h none (λ call. refl)

pub starts-expired : (doc : Doc) (k p : ℕ) (q : Identity) (h : List Entry) → release_of doc (call_in q h) ≡ None → starts p (expired doc k q h) ≡ starts p h
starts-expired doc k p q h none = expired-same (starts p) doc k q h none (λ call. refl)

-- and prints nothing
pub adds-expired : (doc : Doc) (k : ℕ) (q : Identity) (h : List Entry) → release_of doc (call_in q h) ≡ None → Adds k 4 q h (expired doc k q h) []
adds-expired doc k q h none = by_call (call_in q h) none
  where
    by_late : (call : Call) (b : Bool) → release_begun doc.settings.rules.release call.kind ≡ None → Adds k 4 q h (if b then expire_as doc k q call (release_begun doc.settings.rules.release call.kind) h else h) []
    by_late call true none = subst (λ o. Adds k 4 q h (expire_as doc k q call o h) []) (sym none) (adds-one k 4 q (Expires call) h refl)
    by_late call false none = adds-none k 4 q h

    by_call : (call : Option Call) → release_of doc call ≡ None → Adds k 4 q h (expire_call doc k q call h) []
    by_call None none = adds-none k 4 q h
    by_call (Some call) none = by_late call (is_late doc q k call) none
