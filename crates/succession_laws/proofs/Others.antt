-- A controller other than the leader acts in a span, or none does: for callers.
use Rattle.std.proofs.Common.{◌≡◌, ◌⊎◌, ◌<◌, ◌≤◌, ℕ, zero, suc, Bool, true, false, List, Option, Some, None, refl, sym, ap, ◌∙◌, subst, inl, inr, ⊎_elim, arith}
use Rattle.std.proofs.lemmas.Bool.{cases_eq, cases_lt}
use Rattle.kube_objects.specs.Clocks.{local}
use Rattle.kube_objects.specs.Document.{Doc, processes, is_controller}
use Rattle.kube_objects.specs.Elector.{acts, is_before, deadline, leads}
use Rattle.kube_objects.specs.Entry.{Entry, Identity}
use Rattle.kube_objects.specs.Identities.{identity}
use Rattle.kube_objects.specs.Process.{alive, is_present}
use Rattle.kube_objects.specs.Own.{ReleasesByStop}
use Rattle.lease_laws.proofs.Claims.{term_of}
use Rattle.history.specs.History.{at_turn, history}
use Rattle.history.specs.Safe.{Acts}
use Rattle.history_laws.proofs.Counting.{present_is}
use Rattle.history_laws.proofs.Plainly.{true_is, false_is, and_left}
use Rattle.takeover_laws.proofs.Acting.{Searched, search}
use Rattle.takeover_laws.proofs.Standing.{controllers_first, persists}
use Rattle.history_laws.specs.Tails.{IsTail}
use Rattle.history_laws.proofs.Tailed.{tail_all, tail_trans, later_tail, turn_tail, before_turn}
use Rattle.call_laws.specs.Answering.{with_events}
use Rattle.call_laws.proofs.Answering.{events_position}
use Rattle.calm_laws.proofs.Life.{never_led, restart_same}
use Rattle.silence_laws.specs.Silence.{LeadsUntil, Bears}
use Rattle.history.specs.Steps.{restart}

module _ (doc : Doc) (rules : ReleasesByStop doc) (b n : ℕ) (q : Identity) where
  abbrev acting : ℕ → ℕ → Option ℕ → Bool
  acting r k None = false
  acting r k (Some i) = acts doc (identity r i) k (at_turn doc r k)

  acts_as : (r : Identity) (k : ℕ) → Acts doc r k → acting r.process k (alive r.process (at_turn doc r.process k)) ≡ true
  acts_as r k is = ap (acting r.process k) up ∙ is.1
    where
      g : List Entry
      g = at_turn doc r.process k

      up : alive r.process g ≡ Some r.incarnation
      up =
          present_is (alive r.process g) r.incarnation
          (and_left (is_present (alive r.process g) r.incarnation) (is_before (local doc r.process k) (deadline doc r g)) (term_of doc rules r k g is.1))

  pub record Another : Type 0 where
    pub r : Identity
    pub role : is_controller doc r.process ≡ true
    pub other : r.process ≡ q.process → ⊥
    pub k : ℕ
    pub from : b ≤ k
    pub to : k ≤ n
    pub acting_is : Acts doc r k

  abbrev NoneBelow : ℕ → Type 0
  NoneBelow m = (r : Identity) → r.process < m → is_controller doc r.process ≡ true → (r.process ≡ q.process → ⊥) → (k : ℕ) → b ≤ k → k ≤ n → Acts doc r k → ⊥

  one_more : (m : ℕ) → NoneBelow m → Another ⊎ NoneBelow (suc m)
  one_more m none = by_process (cases_eq m q.process)
    where
      None_of : Type 0
      None_of = (r : Identity) → r.process ≡ m → is_controller doc r.process ≡ true → (r.process ≡ q.process → ⊥) → (k : ℕ) → b ≤ k → k ≤ n → Acts doc r k → ⊥

      with_none : None_of → NoneBelow (suc m)
      with_none here r lt role other k from to is = ⊎_elim (λ less. none r less role other k from to is) (λ ge. here r (omega (arith, lt, ge)) role other k from to is) (cases_lt r.process m)

      found : is_controller doc m ≡ true → (m ≡ q.process → ⊥) → (k : ℕ) → b ≤ k → k ≤ n → (o : Option ℕ) → acting m k o ≡ true → Another
      found role other k from to None is = absurd (false_is is)
      found role other k from to (Some i) is = record { r = identity m i; role = role; other = other; k = k; from = from; to = to; acting_is = (role, is) }

      by_search : is_controller doc m ≡ true → (m ≡ q.process → ⊥) → Searched (λ k. acting m k (alive m (at_turn doc m k))) b n → Another ⊎ NoneBelow (suc m)
      by_search role other (inl f) = inl (found role other f.k f.from f.to (alive m (at_turn doc m f.k)) f.is)
      by_search role other (inr never) = inr (with_none (λ r is role_r other_r k from to acts_r. never k from to (subst (λ m. acting m k (alive m (at_turn doc m k)) ≡ true) is (acts_as r k acts_r))))

      by_role : (t : Bool) → is_controller doc m ≡ t → (m ≡ q.process → ⊥) → Another ⊎ NoneBelow (suc m)
      by_role true role other = by_search role other (search (λ k. acting m k (alive m (at_turn doc m k))) b n)
      by_role false role other = inr (with_none (λ r is role_r other_r k from to acts_r. true_is (sym role_r ∙ ap (is_controller doc) is ∙ role)))

      by_process : (m ≡ q.process) ⊎ (m ≡ q.process → ⊥) → Another ⊎ NoneBelow (suc m)
      by_process (inl same) = inr (with_none (λ r is role_r other_r k from to acts_r. other_r (is ∙ same)))
      by_process (inr other) = by_role (is_controller doc m) refl other

  up_to : (m : ℕ) → Another ⊎ NoneBelow m
  up_to zero = inr (λ r lt. absurd (omega (arith, lt)))
  up_to (suc m) = by_below (up_to m)
    where
      by_below : Another ⊎ NoneBelow m → Another ⊎ NoneBelow (suc m)
      by_below (inl another) = inl another
      by_below (inr none) = one_more m none

  -- so another one acts in the span, where none acted before it and that none acts by its end is absurd
  pub another : (((r : Identity) → is_controller doc r.process ≡ true → (r.process ≡ q.process → ⊥) → (k : ℕ) → k ≤ n → Acts doc r k → ⊥) → ⊥)
      → ((r : Identity) → is_controller doc r.process ≡ true → (r.process ≡ q.process → ⊥) → (k : ℕ) → k < b → Acts doc r k → ⊥) → Another
  another not_idle before = by_search (up_to (processes doc))
    where
      by_search : Another ⊎ NoneBelow (processes doc) → Another
      by_search (inl found) = found
      by_search (inr none) =
          absurd (not_idle (λ r role other k to acts_r. ⊎_elim (λ lt. before r role other k lt acts_r) (λ from. none r (controllers_first doc r.process role) role other k from to acts_r) (cases_lt k b)))

-- ---- a controller that is up after the turns of beat b, while no other one acts

module _ (doc : Doc) (near far b e : ℕ) (q : Identity) (l : LeadsUntil doc near far b e q) (s : Bears doc near far b e q) (p : ℕ) (role : is_controller doc p ≡ true) (other : p ≡ q.process → ⊥)
    (n : ℕ) (within : n ≤ e) (later : b ≤ n) (idle : (r : Identity) → is_controller doc r.process ≡ true → (r.process ≡ q.process → ⊥) → (k : ℕ) → k ≤ n → Acts doc r k → ⊥) (i : ℕ) (up : alive p (at_turn doc (suc p) b) ≡ Some i) where
  abbrev c : Identity
  c = identity p i

  abbrev S : List Entry
  S = at_turn doc (suc p) b

  first_p : p < processes doc
  first_p = controllers_first doc p role

  s_high : IsTail S (history doc (suc b))
  s_high = turn_tail doc (suc p) b (omega (arith, first_p))

  s_low : IsTail (with_events doc 0) S
  s_low =
      tail_trans (with_events doc 0) (history doc b) S
      (tail_trans (with_events doc 0) (history doc 1) (history doc b) (events_position doc 0) (later_tail doc 1 b (omega (arith, l.long, s.one, s.ways)))) (before_turn doc (suc p) b)

  pub none : (k : ℕ) → 0 ≤ k → k ≤ n → Acts doc c k → ⊥
  none k from to = idle c role other k to

  -- it stays up
  late : (h : List Entry) → IsTail S h → IsTail h (history doc (suc n)) → alive p h ≡ Some i
  late h low high = persists doc s.rules near far 0 e n c role (s.calls p role).deadline (l.others p role other) within none (omega arith) S h s_low low high up

  -- and it never leads
  pub led_not : (h : List Entry) → IsTail h (history doc (suc n)) → leads c h ≡ false
  led_not =
      never_led doc s.rules near far 0 e n c role (s.calls p role).deadline (l.others p role other) within none (omega arith)
      (late (history doc (suc n)) (tail_trans S (history doc (suc b)) (history doc (suc n)) s_high (later_tail doc (suc b) (suc n) (omega (arith, later)))) (tail_all (history doc (suc n))))

  -- it is up in its turn of a later beat
  pub there : (G : ℕ) → b < G → G ≤ n → alive p (restart doc G p (at_turn doc p G)) ≡ Some i
  there G lt to = ap (alive p) (restart_same doc G p i (at_turn doc p G) at_g) ∙ at_g
    where
      at_g : alive p (at_turn doc p G) ≡ Some i
      at_g =
          late (at_turn doc p G)
          (tail_trans S (history doc G) (at_turn doc p G) (tail_trans S (history doc (suc b)) (history doc G) s_high (later_tail doc (suc b) G (omega (arith, lt)))) (before_turn doc p G))
          (tail_trans (at_turn doc p G) (history doc (suc G)) (history doc (suc n)) (turn_tail doc p G (omega (arith, first_p))) (later_tail doc (suc G) (suc n) (omega (arith, to))))
