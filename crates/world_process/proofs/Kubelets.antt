-- A kubelet through entries of others, and through its own life.
use Rattle.std.proofs.Common.{◌≡◌, ℕ, ◌+◌, ◌++◌, true, false, List, [], ◌∷◌, Option, Some, None, is_some, refl, sym, ap, ◌∙◌, subst}
use Rattle.std.proofs.lemmas.List.{append-nil}
use Rattle.kube_base.specs.declared.numbers.ProcId.{ProcId}
use Rattle.kube_base.specs.declared.numbers.Version.{Version}
use Rattle.kube_objects.specs.declared.call.Reply.{Reply}
use Rattle.kube_objects.specs.declared.deed.Act.TheVariants as act
use Rattle.kube_objects.specs.declared.key.Key.{Key}
use Rattle.kube_objects.specs.declared.object.Object.{Object}
use Rattle.kube_objects.specs.declared.script.What.{What}
use Rattle.kube_objects.specs.declared.script.What.TheVariants as what
use Rattle.kube_objects.specs.Clocks.{store_wall, whole_second}
use Rattle.kube_objects.specs.Document.{Doc}
use Rattle.kube_objects.specs.Entry.{Entry, Identity, Call, Fact, First, Event, Crashes, Stalls, Answers, entry, script_entry, actor_of}
use Rattle.kube_objects.specs.Identities.{identity, is_by}
use Rattle.kube_objects.specs.Newest.{join}
use Rattle.kube_objects.specs.Process.{alive, gone, life, starts}
use Rattle.kube_objects.specs.Stamps.{stamped}
use Rattle.history.specs.History.{put_all}
use Rattle.history.specs.Printed.{printed, deeds_of}
use Rattle.history.specs.Steps.{crash, happens, start, start_if_down}
use Rattle.kubelet_node.specs.declared.kubelet.Kubelet as rounds
use Rattle.kubelet_node.specs.Moves.{is_of_kubelet}
use Rattle.kubelet_node.specs.Stands.{KubeletStands as AreRounds}
use Rattle.kubelet_node.proofs.Frames.{kubelet-foreign, kubelet-quiet}
use Rattle.world_process.specs.declared.kubelet.Kubelet.{Kubelet}
use Rattle.world_process.specs.Kubelets.{Begun, Crashed, KubeletStands, RoundsStand}
use Rattle.world_process.proofs.Lives.{alive-others, alive-start, starts-others}
use Rattle.world_process.proofs.Names.{is_same-apart, of_process-other, of_process-own}
use Rattle.world_process.proofs.Plainly.{starts-start}
use Rattle.world_process.proofs.Scripted.{begun-with, starts-script}

-- a kubelet whose rounds changed stands for a history that started nothing since
pub stands-rounds : (doc : Doc) (p : ℕ) (h g : List Entry) (b : Kubelet) (r : Option rounds.Kubelet) → KubeletStands doc p h b → starts p g ≡ starts p h → RoundsStand doc p b.incarnation g r → KubeletStands doc p g (record b { rounds = r })
stands-rounds doc p h g b r s same stands =
    record {
      sort = s.sort;
      me = s.me;
      incarnation = s.incarnation ∙ sym same;
      node = s.node;
      lease = s.lease;
      timeout = s.timeout;
      clock = s.clock;
      up_first = s.up_first;
      rounds = stands;
      pauses = s.pauses;
      waking = s.waking;
    }

pub rounds-at : (doc : Doc) (p : ℕ) (h : List Entry) (b : Kubelet) (r : Option rounds.Kubelet) → KubeletStands doc p h b → b.rounds ≡ r → RoundsStand doc p b.incarnation h r
rounds-at doc p h b r s is = subst (λ x. RoundsStand doc p b.incarnation h x) is s.rounds

-- ---- entries that leave its life as it is

-- by another identity
pub rounds-foreign : (doc : Doc) (p i : ℕ) (e : Entry) (h : List Entry) (r : Option rounds.Kubelet) → alive p (e ∷ h) ≡ alive p h → is_by (identity p i) e.actor ≡ false → RoundsStand doc p i h r → RoundsStand doc p i (e ∷ h) r
rounds-foreign doc p i e h None lives other s = lives ∙ s
rounds-foreign doc p i e h (Some x) lives other s = (lives ∙ s.0, kubelet-foreign doc (identity p i) e h x other s.1)

-- of a kind that a kubelet doesn't look at
pub rounds-quiet : (doc : Doc) (p i : ℕ) (e : Entry) (h : List Entry) (r : Option rounds.Kubelet) → alive p (e ∷ h) ≡ alive p h → is_of_kubelet e.fact ≡ false → RoundsStand doc p i h r → RoundsStand doc p i (e ∷ h) r
rounds-quiet doc p i e h None lives quiet s = lives ∙ s
rounds-quiet doc p i e h (Some x) lives quiet s = (lives ∙ s.0, kubelet-quiet doc (identity p i) e h x quiet s.1)

pub kubelet-others : (doc : Doc) (p k step : ℕ) (q : Identity) (d : Fact) (h : List Entry) (b : Kubelet) → ¬ (q.process ≡ p) → KubeletStands doc p h b → KubeletStands doc p (entry k step q d ∷ h) b
kubelet-others doc p k step q d h b other s =
    let e = entry k step q d in
    let apart = of_process-other q p other in
    stands-rounds doc p h (e ∷ h) b b.rounds s (starts-others p e h apart)
    (rounds-foreign doc p b.incarnation e h b.rounds (alive-others p e h apart) (is_same-apart q (identity p b.incarnation) other) s.rounds)

-- an entry of this kind, whosever it is
kubelet-kind : (doc : Doc) (p : ℕ) (e : Entry) (h : List Entry) (b : Kubelet) → alive p (e ∷ h) ≡ alive p h → starts p (e ∷ h) ≡ starts p h → is_of_kubelet e.fact ≡ false → KubeletStands doc p h b → KubeletStands doc p (e ∷ h) b
kubelet-kind doc p e h b lives count quiet s =
    stands-rounds doc p h (e ∷ h) b b.rounds s count (rounds-quiet doc p b.incarnation e h b.rounds lives quiet s.rounds)

pub kubelet-answered : (doc : Doc) (p k step : ℕ) (q : Identity) (call : Call) (reply : Reply) (comes : Option ℕ) (written : Option Object) (h : List Entry) (b : Kubelet) → KubeletStands doc p h b →
    KubeletStands doc p (entry k step q (Answers call reply comes written) ∷ h) b
kubelet-answered doc p k step q call reply comes written h b s = kubelet-kind doc p (entry k step q (Answers call reply comes written)) h b refl refl refl s

pub kubelet-stalled : (doc : Doc) (p k step beats : ℕ) (q : Identity) (h : List Entry) (b : Kubelet) → KubeletStands doc p h b → KubeletStands doc p (entry k step q (Stalls beats) ∷ h) b
kubelet-stalled doc p k step beats q h b s = kubelet-kind doc p (entry k step q (Stalls beats)) h b refl refl refl s

pub kubelet-put_all : (doc : Doc) (p : ℕ) (items : List (Key × Object)) (h : List Entry) (b : Kubelet) → KubeletStands doc p h b → KubeletStands doc p (put_all doc items h) b
kubelet-put_all doc p [] h b s = s
kubelet-put_all doc p (x ∷ xs) h b s =
    let e = script_entry 0 0 (First x.0 (stamped (whole_second (store_wall doc 0)) x.1)) in
    kubelet-put_all doc p xs (e ∷ h) b (kubelet-kind doc p e h b refl refl refl s)

pub kubelet-event : (doc : Doc) (p k step : ℕ) (event : What) (version : Option Version) (h : List Entry) (b : Kubelet) → KubeletStands doc p h b → KubeletStands doc p (script_entry k step (Event event version) ∷ h) b
kubelet-event doc p k step event version h b s =
    kubelet-kind doc p (script_entry k step (Event event version)) h b refl (starts-script p k step (Event event version) h) refl s

-- ---- it starts

pub kubelet-started : (doc : Doc) (k step p i : ℕ) (h : List Entry) (b : Kubelet) (x : rounds.Kubelet) → KubeletStands doc p h b → i ≡ starts p h + 1 → AreRounds doc (identity p (starts p h + 1)) (start k step p h) x →
    KubeletStands doc p (start k step p h) (record b { incarnation = i; rounds = Some x })
kubelet-started doc k step p i h b x s is stands =
    record {
      sort = s.sort;
      me = s.me;
      incarnation = is ∙ sym (starts-start k step (identity p (starts p h + 1)) h);
      node = s.node;
      lease = s.lease;
      timeout = s.timeout;
      clock = s.clock;
      up_first = s.up_first;
      rounds = (alive-start k step (identity p (starts p h + 1)) h ∙ ap (λ (n : ℕ). Some n) (sym is), subst (λ n. AreRounds doc (identity p n) (start k step p h) x) (sym is) stands);
      pauses = s.pauses;
      waking = s.waking;
    }

pub kubelet-down : (doc : Doc) (p : ℕ) (h : List Entry) (b : Kubelet) → is_some b.rounds ≡ false → KubeletStands doc p h b → alive p h ≡ None
kubelet-down doc p h b down s = by_rounds b.rounds down s.rounds
  where
    by_rounds : (r : Option rounds.Kubelet) → is_some r ≡ false → RoundsStand doc p b.incarnation h r → alive p h ≡ None
    by_rounds None none s = s
    by_rounds (Some x) none s = cc

pub kubelet-begun : (doc : Doc) (k : ℕ) (id : ProcId) (h : List Entry) (new : Kubelet) → alive id.0 h ≡ None → KubeletStands doc id.0 (start k 1 id.0 (script_entry k 1 (Event (what.Start id) None) ∷ h)) new → Begun doc k id h new true
kubelet-begun doc k id h new down stands = begun-with doc k id h new.incarnation (λ x. KubeletStands doc id.0 x new) down stands.incarnation stands

-- it is up
pub kubelet-begun-not : (doc : Doc) (k : ℕ) (id : ProcId) (h : List Entry) (b : Kubelet) → is_some b.rounds ≡ true → KubeletStands doc id.0 h b → Begun doc k id h b false
kubelet-begun-not doc k id h b up s = by_rounds b.rounds up s.rounds
  where
    g : List Entry
    g = script_entry k 1 (Event (what.Start id) None) ∷ h

    by_rounds : (r : Option rounds.Kubelet) → is_some r ≡ true → RoundsStand doc id.0 b.incarnation h r → Begun doc k id h b false
    by_rounds None some r = cc
    by_rounds (Some x) some r =
        let next : happens doc k (what.Start id) h ≡ g = ap (λ o. start_if_down k 1 id.0 o g) r.0 in
        record {
          stands = subst (λ y. KubeletStands doc id.0 y b) (sym next) (kubelet-event doc id.0 k 1 (what.Start id) None h b s);
          told = ap printed next;
        }

-- ---- it crashes

alive-crash : (k step : ℕ) (q : Identity) (h : List Entry) → alive q.process (entry k step q Crashes ∷ h) ≡ None
alive-crash k step q h = ap (λ o. join (elim (gone o) as (λ x. Option (Option ℕ)) [ None ↦ life q.process h | Some y ↦ Some y ])) (of_process-own q)

pub kubelet-crashed : (doc : Doc) (k : ℕ) (id : ProcId) (h : List Entry) (b : Kubelet) → KubeletStands doc id.0 h b → Crashed doc k id h (record b { rounds = None }) (is_some b.rounds)
kubelet-crashed doc k id h b s = by_rounds b.rounds s.rounds
  where
    g : List Entry
    g = script_entry k 1 (Event (what.Crash id) None) ∷ h

    after : KubeletStands doc id.0 g b
    after = kubelet-event doc id.0 k 1 (what.Crash id) None h b s

    by_rounds : (r : Option rounds.Kubelet) → RoundsStand doc id.0 b.incarnation h r → Crashed doc k id h (record b { rounds = None }) (is_some r)
    by_rounds None down =
        let next : happens doc k (what.Crash id) h ≡ g = ap (λ o. crash k id.0 o g) down in
        record {
          stands = subst (λ y. KubeletStands doc id.0 y (record b { rounds = None })) (sym next) (stands-rounds doc id.0 g g b None after refl down);
          told = ap printed next;
        }
    by_rounds (Some x) up =
        let q = identity id.0 b.incarnation in
        let next : happens doc k (what.Crash id) h ≡ entry k 1 q Crashes ∷ g = ap (λ o. crash k id.0 o g) up.0 in
        record {
          stands = subst (λ y. KubeletStands doc id.0 y (record b { rounds = None })) (sym next) (stands-rounds doc id.0 g (entry k 1 q Crashes ∷ g) b None after refl (alive-crash k 1 q g));
          told = ap printed next ∙ ap (λ ds. ds ++ deeds_of k (actor_of q) (Some act.Crash)) (append-nil (printed h));
        }
