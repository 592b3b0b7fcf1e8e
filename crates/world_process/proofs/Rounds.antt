-- A kubelet's turn, and a reply to it.
use Rattle.std.proofs.Common.{◌≡◌, ℕ, ◌++◌, true, false, List, [], ◌∷◌, Option, Some, None, refl, sym, ap, ◌∙◌, subst}
use Rattle.std.proofs.lemmas.List.{append-nil}
use Rattle.kube_objects.specs.declared.call.Ask.{Ask}
use Rattle.kube_objects.specs.declared.call.Reply.{Reply}
use Rattle.kube_objects.specs.CallSlots.{release_of}
use Rattle.kube_objects.specs.Document.{Doc, is_controller}
use Rattle.kube_objects.specs.Entry.{Entry, Identity, Call, Plain, Delivers, Sends, entry}
use Rattle.kube_objects.specs.Identities.{identity}
use Rattle.kube_objects.specs.Kubelet.{round}
use Rattle.kube_objects.specs.Process.{alive, call_in, counted, is_present}
use Rattle.kube_objects.specs.Wire.{Back, next_call}
use Rattle.kube_objects.specs.Turns.{expired, with_reply}
use Rattle.history.specs.Printed.{printed}
use Rattle.history.specs.Steps.{delivered, expire, if_up, kubelet_turn, react_as}
use Rattle.kubelet_node.specs.declared.kubelet.Kubelet as rounds
use Rattle.kubelet_node.specs.Moves.{Moved, followed, turned}
use Rattle.kubelet_node.specs.Stands.{KubeletStands as AreRounds}
use Rattle.leader_elector.specs.Moves.{Asked}
use Rattle.world_process.specs.declared.kubelet.Kubelet.{Kubelet}
use Rattle.world_process.specs.Kubelets.{KubeletStands, Replied, RoundsStand, Turned}
use Rattle.world_process.specs.Moves.{AsksOn}
use Rattle.world_process.proofs.Answering.{IsBack, absent-uncounted, delivered-is, down-absent, other-absent, replied-none, uncounted-is}
use Rattle.world_process.proofs.Kubelets.{rounds-foreign, stands-rounds}
use Rattle.world_process.proofs.Names.{is_same-other}
use Rattle.world_process.proofs.Quiet.{Adds, adds-expired, adds-none, alive-expired, starts-expired}
use Rattle.world_process.proofs.Turning.{expire-down, expire-up}

-- ---- a turn

rounds-down : (doc : Doc) (k p : ℕ) (h : List Entry) → alive p h ≡ None → kubelet_turn doc k p h ≡ expire doc k p h
rounds-down doc k p h down =
    let still : alive p (expire doc k p h) ≡ None = ap (alive p) (expire-down doc k p h down) ∙ down in
    ap (λ o. if_up p (round doc k) o (expire doc k p h)) still

-- after quiet entries, which print nothing
turn-adds : (doc : Doc) (k p : ℕ) (h g : List Entry) (b : Kubelet) (ask : Option Ask) → Adds k 4 (identity p b.incarnation) h g [] → printed (kubelet_turn doc k p h) ≡ printed g → AsksOn doc k 4 (identity p b.incarnation) g (kubelet_turn doc k p h) (λ x. KubeletStands doc p x b) ask
    → Turned doc k p h b (record { started = false; ended = false; ask = ask })
turn-adds doc k p h g b ask a told asks =
    let q = identity p b.incarnation in
    record {
      told = told ∙ a.told ∙ sym (append-nil (printed h ++ []));
      asks = record { facts = a.facts; quiet = a.quiet; asks = subst (λ x. AsksOn doc k 4 q x (kubelet_turn doc k p h) (λ y. KubeletStands doc p y b) ask) a.is asks };
    }

pub kubelet-still : (doc : Doc) (k p : ℕ) (h : List Entry) (b : Kubelet) → KubeletStands doc p h b → alive p h ≡ None → Turned doc k p h b (record { started = false; ended = false; ask = None })
kubelet-still doc k p h b s down =
    let same : kubelet_turn doc k p h ≡ h = rounds-down doc k p h down ∙ expire-down doc k p h down in
    turn-adds doc k p h h b None (adds-none k 4 (identity p b.incarnation) h) (ap printed same) (same, s)

module _ (doc : Doc) (k p : ℕ) (h : List Entry) (b : Kubelet) (s : KubeletStands doc p h b) (up : alive p h ≡ Some b.incarnation) (plain : release_of doc (call_in (identity p b.incarnation) h) ≡ None) where
  abbrev q : Identity
  q = identity p b.incarnation

  abbrev e : List Entry
  e = expired doc k q h

  up-after : alive p e ≡ Some b.incarnation
  up-after = alive-expired doc k p q h plain ∙ up

  turn-is : kubelet_turn doc k p h ≡ turned doc k q h
  turn-is = ap (λ g. if_up p (round doc k) (alive p g) g) (expire-up doc k p b.incarnation h up) ∙ ap (λ o. if_up p (round doc k) o e) up-after

  pub kubelet-turned : (x : rounds.Kubelet) (ask : Option Ask) → Moved doc k 4 q e (turned doc k q h) (λ g. AreRounds doc q g x) ask → Turned doc k p h (record b { rounds = Some x }) (record { started = false; ended = false; ask = ask })
  kubelet-turned x None m =
      turn-adds doc k p h e (record b { rounds = Some x }) None (adds-expired doc k q h plain) (ap printed (turn-is ∙ m.0))
      (turn-is ∙ m.0, stands-rounds doc p h e b (Some x) s (starts-expired doc k p q h plain) (up-after, m.1))
  kubelet-turned x (Some ask) m =
      turn-adds doc k p h e (record b { rounds = Some x }) (Some ask) (adds-expired doc k q h plain) (ap printed (turn-is ∙ m.sent) ∙ append-nil (printed e))
      (record {
        kind = Plain;
        sent = turn-is ∙ m.sent;
        number = m.number;
        stands = λ arrives.
            let g = entry k 4 q (Sends (next_call q k Plain ask.request e) arrives) ∷ e in
            stands-rounds doc p h g b (Some x) s (starts-expired doc k p q h plain) (up-after, m.stands arrives);
      })

-- ---- a reply

-- a reply that counts
followed-is : (doc : Doc) (k : ℕ) (b : Back) (q : Identity) (number : ℕ) (reply : Reply) (waiting : Call) (h : List Entry) → IsBack b q number reply → is_controller doc q.process ≡ false → counted doc q k number h ≡ Some waiting →
    delivered doc k b h ≡ followed doc k q waiting reply h
followed-is doc k b q number reply waiting h is sort some =
    delivered-is doc k b q number reply waiting h is some
    ∙ ap (λ t. react_as doc k q waiting reply t (with_reply k q waiting reply h)) sort

-- it changes nothing but the history
uncounted-stays : (doc : Doc) (k p i : ℕ) (b : Back) (n : ℕ) (reply : Reply) (h : List Entry) (x : Kubelet) (r : Option rounds.Kubelet) → KubeletStands doc p h x → IsBack b (identity p i) n reply → counted doc (identity p i) k n h ≡ None →
    RoundsStand doc p x.incarnation (entry k 3 (identity p i) (Delivers b.call reply false) ∷ h) r → Replied doc k p b h (record x { rounds = r }) (record { lead = None; ended = false; ask = None })
uncounted-stays doc k p i b n reply h x r s is none stands =
    let q = identity p i in
    let y = record x { rounds = r } in
    let next = entry k 3 q (Delivers b.call reply false) ∷ h in
    let same = ap (λ w. entry k 3 w (Delivers b.call reply false) ∷ h) (sym is.who) in
    replied-none doc k (identity p x.incarnation) b b.call reply false h (λ g. KubeletStands doc p g y) (uncounted-is doc k b q n reply h is none ∙ same)
    (subst (λ g. KubeletStands doc p g y) same (stands-rounds doc p h next x r s refl stands))

-- to another incarnation
pub kubelet-replied-other : (doc : Doc) (k p i : ℕ) (b : Back) (n : ℕ) (reply : Reply) (h : List Entry) (x : Kubelet) → KubeletStands doc p h x → IsBack b (identity p i) n reply → ¬ (i ≡ x.incarnation) →
    Replied doc k p b h x (record { lead = None; ended = false; ask = None })
kubelet-replied-other doc k p i b n reply h x s is other =
    uncounted-stays doc k p i b n reply h x x.rounds s is (absent-uncounted doc k (identity p i) n h (absent x.rounds s.rounds))
    (rounds-foreign doc p x.incarnation (entry k 3 (identity p i) (Delivers b.call reply false)) h x.rounds refl (is_same-other p i x.incarnation other) s.rounds)
  where
    absent : (r : Option rounds.Kubelet) → RoundsStand doc p x.incarnation h r → is_present (alive p h) i ≡ false
    absent None down = down-absent p i h down
    absent (Some y) up = other-absent p i x.incarnation h up.0 (λ e. other (sym e))

-- while it is down
pub kubelet-replied-down : (doc : Doc) (k p : ℕ) (b : Back) (n : ℕ) (reply : Reply) (h : List Entry) (x : Kubelet) → KubeletStands doc p h x → RoundsStand doc p x.incarnation h None → IsBack b (identity p x.incarnation) n reply →
    Replied doc k p b h (record x { rounds = None }) (record { lead = None; ended = false; ask = None })
kubelet-replied-down doc k p b n reply h x s down is =
    uncounted-stays doc k p x.incarnation b n reply h x None s is (absent-uncounted doc k (identity p x.incarnation) n h (down-absent p x.incarnation h down)) down

module _ (doc : Doc) (k p : ℕ) (b : Back) (n : ℕ) (reply : Reply) (h : List Entry) (x : Kubelet) (y : rounds.Kubelet) (s : KubeletStands doc p h x) (up : alive p h ≡ Some x.incarnation) (is : IsBack b (identity p x.incarnation) n reply) where
  abbrev w : Identity
  w = identity p x.incarnation

  abbrev z : Kubelet
  z = record x { rounds = Some y }

  counts-for : (call : Call) (ask : Option Ask) → counted doc w k n h ≡ Some call → Moved doc k 3 w (with_reply k w call reply h) (followed doc k w call reply h) (λ g. AreRounds doc w g y) ask → Replied doc k p b h z (record { lead = None; ended = false; ask = ask })
  counts-for call None some m =
      let g = with_reply k w call reply h in
      let same = ap (λ v. entry k 3 v (Delivers call reply true) ∷ h) (sym is.who) in
      replied-none doc k w b call reply true h (λ f. KubeletStands doc p f z) (followed-is doc k b w n reply call h is s.sort some ∙ m.0 ∙ same)
      (subst (λ f. KubeletStands doc p f z) same (stands-rounds doc p h g x (Some y) s refl (up, m.1)))
  counts-for call (Some ask) some m =
      let g = with_reply k w call reply h in
      let next = followed-is doc k b w n reply call h is s.sort some in
      record {
        told = ap printed (next ∙ m.sent);
        asks = record {
          call = call;
          who = is.who;
          asked = subst (λ r. moves_asked r) (sym is.reply) (record {
            kind = Plain;
            sent = next ∙ m.sent;
            number = m.number;
            stands = λ arrives.
                let f = entry k 3 w (Sends (next_call w k Plain ask.request g) arrives) ∷ g in
                stands-rounds doc p h f x (Some y) s refl (up, m.stands arrives);
          });
        };
      }
    where
      moves_asked : Reply → Type 0
      moves_asked r = Asked doc k 3 w (entry k 3 w (Delivers call r true) ∷ h) (delivered doc k b h) (λ f. KubeletStands doc p f z) ask

  pub kubelet-answers : (ask : Option Ask) → (counted doc w k n h ≡ None → (call : Call) → (ask ≡ None) × AreRounds doc w (entry k 3 w (Delivers call reply false) ∷ h) y) →
      ((call : Call) → counted doc w k n h ≡ Some call → Moved doc k 3 w (with_reply k w call reply h) (followed doc k w call reply h) (λ g. AreRounds doc w g y) ask) →
      Replied doc k p b h z (record { lead = None; ended = false; ask = ask })
  kubelet-answers ask uncounted counts = by_counted (counted doc w k n h) refl
    where
      by_counted : (o : Option Call) → counted doc w k n h ≡ o → Replied doc k p b h z (record { lead = None; ended = false; ask = ask })
      by_counted None none =
          let t = uncounted none b.call in
          subst (λ a. Replied doc k p b h z (record { lead = None; ended = false; ask = a })) (sym t.0) (uncounted-stays doc k p x.incarnation b n reply h x (Some y) s is none (up, t.1))
      by_counted (Some call) some = counts-for call ask some (counts call some)
