-- A controller's turn by parts, where it is up or down.
use Rattle.std.proofs.Common.{◌≡◌, ℕ, Bool, List, Some, None, ap, ◌∙◌}
use Rattle.std.specs.Prelude.{if◌then◌else◌}
use Rattle.kube_objects.specs.Document.{Doc}
use Rattle.kube_objects.specs.Elector.{deadline}
use Rattle.kube_objects.specs.Entry.{Entry}
use Rattle.kube_objects.specs.Identities.{identity}
use Rattle.kube_objects.specs.Process.{alive, call_in, ended, is_restart_due}
use Rattle.kube_objects.specs.Turns.{expire_call, end_term, try, expired}
use Rattle.history.specs.Steps.{restart_if, restart, if_up, expire, finish, attempts, start}
use Rattle.leader_elector.specs.Moves.{tested}

pub restart-up : (doc : Doc) (k p i : ℕ) (h : List Entry) → alive p h ≡ Some i → restart doc k p h ≡ h
restart-up doc k p i h up = ap (λ x. restart_if doc k p x h) up

pub restart-down : (doc : Doc) (k p : ℕ) (h : List Entry) (b : Bool) → alive p h ≡ None → is_restart_due doc p k (ended doc p h) ≡ b → restart doc k p h ≡ (if b then start k 4 p h else h)
restart-down doc k p h b down due = ap (λ x. restart_if doc k p x h) down ∙ ap (λ x. (if x then start k 4 p h else h)) due

pub expire-up : (doc : Doc) (k p i : ℕ) (h : List Entry) → alive p h ≡ Some i → expire doc k p h ≡ expired doc k (identity p i) h
expire-up doc k p i h up = ap (λ x. if_up p (λ q T. expire_call doc k q (call_in q T) T) x h) up

pub finish-up : (doc : Doc) (k p i : ℕ) (h : List Entry) → alive p h ≡ Some i → finish doc k p h ≡ tested doc k (identity p i) h
finish-up doc k p i h up = ap (λ x. if_up p (λ q T. end_term doc k q (deadline doc q T) T) x h) up

pub attempts-up : (doc : Doc) (k p i : ℕ) (h : List Entry) → alive p h ≡ Some i → attempts doc k p h ≡ try doc k (identity p i) h
attempts-up doc k p i h up = ap (λ x. if_up p (try doc k) x h) up

pub expire-down : (doc : Doc) (k p : ℕ) (h : List Entry) → alive p h ≡ None → expire doc k p h ≡ h
expire-down doc k p h down = ap (λ x. if_up p (λ q T. expire_call doc k q (call_in q T) T) x h) down

pub finish-down : (doc : Doc) (k p : ℕ) (h : List Entry) → alive p h ≡ None → finish doc k p h ≡ h
finish-down doc k p h down = ap (λ x. if_up p (λ q T. end_term doc k q (deadline doc q T) T) x h) down

pub attempts-down : (doc : Doc) (k p : ℕ) (h : List Entry) → alive p h ≡ None → attempts doc k p h ≡ h
attempts-down doc k p h down = ap (λ x. if_up p (try doc k) x h) down
