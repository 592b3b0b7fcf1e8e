-- A silent node is marked by the first pass that finds its grace over.
use Rattle.std.proofs.Common.{◌≡◌, ◌⊎◌, ◌≤◌, ℕ, ◌+◌, ◌&&◌, not, nat_lt, Bool, true, false, cond, List, [], ◌∷◌, Option, Some, None, refl, sym, ap, ◌∙◌, subst, inl, inr, ⊎_elim, arith}
use Rattle.std.proofs.lemmas.Bool.{lt-ltb, eq-eqb, cases_eq}
use Rattle.kube_base.specs.declared.numbers.Version.{Version}
use Rattle.kube_objects.specs.declared.call.Answer.{Answer}
use Rattle.kube_objects.specs.declared.call.Answer.TheVariants as answer
use Rattle.kube_objects.specs.declared.call.Reply.TheVariants as reply
use Rattle.kube_objects.specs.declared.deed.Actor.{Actor}
use Rattle.kube_objects.specs.declared.key.Key.{Key}
use Rattle.kube_objects.specs.declared.node.Node.{Node}
use Rattle.kube_objects.specs.declared.node.Ready.{Ready}
use Rattle.kube_objects.specs.Answers.{versioned, as_kind, node_in, answer_update}
use Rattle.kube_objects.specs.Clocks.{local, wall, whole_second}
use Rattle.kube_objects.specs.Document.{Doc}
use Rattle.kube_objects.specs.Entry.{Entry, Identity, Fact, Ticks, Tick, Sync, Pass, Mark, Mode, Zone, Untaint, Swap, Head, Delete, Skip, actor_of, entry}
use Rattle.kube_objects.specs.Health.{at_pass, is_found, is_known, hears, is_probe, probe, is_unknown, is_silent, with_mark, mark_of}
use Rattle.kube_objects.specs.Identities.{is_by}
use Rattle.kube_objects.specs.Keys.{key_eq}
use Rattle.kube_objects.specs.Newest.{newest, when, only_if, join, or_else, or_zero}
use Rattle.kube_objects.specs.Own.{ProbesByRun}
use Rattle.kube_objects.specs.Seen.{seen_node}
use Rattle.kube_objects.specs.Stored.{Held, node_key, node_write, holds, last_write, stored, next_version}
use Rattle.kube_objects.specs.Tick.{add, for_each, mark_as, mark_seen, mark}
use Rattle.kube_objects.specs.Tries.{as_answer, try_node}
use Rattle.kube_objects.specs.Wire.{loses_requests}
use Rattle.kube_objects.proofs.Own.{heard-own}
use Rattle.history_laws.specs.Tails.{IsTail}
use Rattle.history_laws.proofs.Plainly.{upper, same_self, true_is}
use Rattle.eviction_laws.proofs.Cache.{Mirrors, mirrors_more}
use Rattle.kube_objects.proofs.KeyOrder.{same_key}
use Rattle.history_laws.specs.Tails.{Among}
use Rattle.row_laws.specs.Keys.{is_ticking}
use Rattle.outage_laws.specs.Marked.{grace_period, IsReadyKnown}
use Rattle.outage_laws.proofs.Rest.{is_pass}

-- ---- when a node was last heard of

-- at beat a, and the last pass found it
pub record Heard (q : Identity) (name a : ℕ) (h : List Entry) : Type 0 where
  pub probe : probe q name h ≡ a
  pub known : is_known q name h ≡ true

pub foreign_heard : (q : Identity) (name a : ℕ) (x : Entry) (h : List Entry) → is_ticking q x.actor x.fact ≡ false → Heard q name a h → Heard q name a (x ∷ h)
foreign_heard q name a x h other s = record {
  probe = ap (λ b. or_zero (upper (when b x.beat) (newest (λ e T. when (is_probe q name e.actor e.fact T) e.beat) h))) (probes x.actor x.fact other) ∙ s.probe;
  known = ap (λ o. or_else false (upper o (newest (λ e T. at_pass q (λ T. Some (is_found q name T)) e.actor e.fact T) h))) (passes x.actor x.fact other) ∙ s.known;
}
  where
    probe_tick : (who : Actor) (t : Tick) → is_by q who ≡ false → is_probe q name who (Ticks t) h ≡ false
    probe_tick who Pass other = ap (λ b. b && hears q name h) other
    probe_tick who (Mode false) other = other
    probe_tick who (Mode true) other = refl
    probe_tick who t other = refl

    probes : (who : Actor) (d : Fact) → is_ticking q who d ≡ false → is_probe q name who d h ≡ false
    probes who (Ticks t) other = probe_tick who t other
    probes who d other = refl

    pass_tick : (who : Actor) (t : Tick) → is_by q who ≡ false → at_pass q (λ T. Some (is_found q name T)) who (Ticks t) h ≡ None
    pass_tick who Pass other = ap (λ b. only_if b (Some (is_found q name h))) other
    pass_tick who t other = refl

    passes : (who : Actor) (d : Fact) → is_ticking q who d ≡ false → at_pass q (λ T. Some (is_found q name T)) who d h ≡ None
    passes who (Ticks t) other = pass_tick who t other
    passes who d other = refl

pub own_heard : (q : Identity) (name a k : ℕ) (t : Tick) (h : List Entry) → is_pass t ≡ false → (t ≡ Mode false → k ≡ a) → Heard q name a h → Heard q name a (add k q t h)
own_heard q name a k Pass h other on s = absurd (true_is other)
own_heard q name a k (Mode false) h other on s = record {
  probe = ap (λ b. or_zero (upper (when b k) (newest (λ e T. when (is_probe q name e.actor e.fact T) e.beat) h))) (same_self q) ∙ on refl;
  known = s.known;
}
own_heard q name a k (Mode true) h other on s = record { probe = s.probe; known = s.known }
own_heard q name a k Sync h other on s = record { probe = s.probe; known = s.known }
own_heard q name a k (Mark n given written tried) h other on s = record { probe = s.probe; known = s.known }
own_heard q name a k (Zone place state rate) h other on s = record { probe = s.probe; known = s.known }
own_heard q name a k (Untaint n given written tried) h other on s = record { probe = s.probe; known = s.known }
own_heard q name a k (Swap n wanted given written tried) h other on s = record { probe = s.probe; known = s.known }
own_heard q name a k (Head place n wanted given written tried) h other on s = record { probe = s.probe; known = s.known }
own_heard q name a k (Delete pod given node_given due tried) h other on s = record { probe = s.probe; known = s.known }
own_heard q name a k (Skip place n) h other on s = record { probe = s.probe; known = s.known }

-- a pass that finds it
pub passed : (q : Identity) (name a k : ℕ) (h : List Entry) → is_found q name h ≡ true → (b : Bool) → hears q name h ≡ b → ((b ≡ true → k ≡ a) × (b ≡ false → Heard q name a h)) → Heard q name a (add k q Pass h)
passed q name a k h found true hear both = record {
  probe = ap (λ b. or_zero (upper (when (b && hears q name h) k) (newest (λ e T. when (is_probe q name e.actor e.fact T) e.beat) h))) (same_self q)
      ∙ ap (λ b. or_zero (upper (when b k) (newest (λ e T. when (is_probe q name e.actor e.fact T) e.beat) h))) hear ∙ both.0 refl;
  known = ap (λ b. or_else false (upper (only_if b (Some (is_found q name h))) (newest (λ e T. at_pass q (λ T. Some (is_found q name T)) e.actor e.fact T) h))) (same_self q) ∙ found;
}
passed q name a k h found false hear both = record {
  probe = ap (λ b. or_zero (upper (when (b && hears q name h) k) (newest (λ e T. when (is_probe q name e.actor e.fact T) e.beat) h))) (same_self q)
      ∙ ap (λ b. or_zero (upper (when b k) (newest (λ e T. when (is_probe q name e.actor e.fact T) e.beat) h))) hear ∙ (both.1 refl).probe;
  known = ap (λ b. or_else false (upper (only_if b (Some (is_found q name h))) (newest (λ e T. at_pass q (λ T. Some (is_found q name T)) e.actor e.fact T) h))) (same_self q) ∙ found;
}

-- ---- the mark

-- an accepted mark of the node stands in a history
pub record Stands (q : Identity) (name m : ℕ) (h : List Entry) : Type 0 where
  pub given : Version
  pub written : Node
  pub version : Version
  pub before : List Entry
  pub stands : IsTail (entry m 4 q (Ticks (Mark name given written (Some (answer.Done version)))) ∷ before) h

pub stands_more : (q : Identity) (name m : ℕ) (x : Entry) (h : List Entry) → Stands q name m h → Stands q name m (x ∷ h)
stands_more q name m x h s = record { given = s.given; written = s.written; version = s.version; before = s.before; stands = inr s.stands }

-- before the mark: the cache shows what is stored, requests pass, and the node is stored so
pub record Markable (q : Identity) (name a : ℕ) (held : Held) (node : Node) (h : List Entry) : Type 0 where
  pub heard : Heard q name a h
  pub mirrors : Mirrors q h
  pub passes : loses_requests q.process h ≡ false
  pub here : stored (node_key name) h ≡ Some held
  pub is : node_in held.object ≡ Some node

pub other_node : (x name : ℕ) → (x ≡ name → ⊥) → key_eq (node_key x) (node_key name) ≡ false
other_node x name differs = by_test (key_eq (node_key x) (node_key name)) refl
  where
    by_test : (b : Bool) → key_eq (node_key x) (node_key name) ≡ b → b ≡ false
    by_test true is = absurd (differs (ap (λ (key : Key). key.name) (same_key (node_key x) (node_key name) is)))
    by_test false is = refl

mark_elsewhere : (x name k : ℕ) (q : Identity) (given : Version) (written : Node) (tried : Option Answer) (h : List Entry) → (x ≡ name → ⊥) → stored (node_key name) (add k q (Mark x given written tried) h) ≡ stored (node_key name) h
mark_elsewhere x name k q given written tried h differs = by_answer tried
  where
    by_answer : (tried : Option Answer) → stored (node_key name) (add k q (Mark x given written tried) h) ≡ stored (node_key name) h
    by_answer (Some (answer.Done v)) = ap (λ b. join (upper (holds h k (actor_of q) (when b (node_write x written).1)) (last_write (node_key name) h))) (other_node x name differs)
    by_answer None = refl
    by_answer (Some answer.Absent) = refl
    by_answer (Some answer.Exists) = refl
    by_answer (Some (answer.Conflict v)) = refl

module _ (doc : Doc) (by_run : ProbesByRun doc) (q : Identity) (name a m : ℕ) (held : Held) (node : Node) (posted : IsReadyKnown node.ready) (over : local doc q.process a + (grace_period doc + 1) ≤ local doc q.process m) where
  -- the mark of another node
  others : (x : ℕ) (h : List Entry) → (x ≡ name → ⊥) → Markable q name a held node h → Markable q name a held node (mark doc m q x h)
  others x h differs s = by_seen (seen_node q x h)
    where
      by_mark : (given : Version) (o : Option Node) → Markable q name a held node (mark_as m q x given o h)
      by_mark given None = s
      by_mark given (Some written) =
          let t = Mark x given written (try_node q x given h) in
          record {
            heard = record { probe = s.heard.probe; known = s.heard.known };
            mirrors = mirrors_more q h m t s.mirrors;
            passes = s.passes;
            here = mark_elsewhere x name m q given written (try_node q x given h) h differs ∙ s.here;
            is = s.is;
          }

      by_seen : (o : Option (Version × Node)) → Markable q name a held node (mark_seen doc m q x o h)
      by_seen None = s
      by_seen (Some y) = by_mark y.0 (mark_of doc q m x y.1 h)

  -- it is tried and accepted
  accepted : (h : List Entry) → Markable q name a held node h → try_node q name held.version h ≡ Some (answer.Done (next_version h))
  accepted h s =
      ap (λ t. only_if (not t) (as_answer (answer_update (next_version h) held.version (stored (node_key name) h)))) s.passes
      ∙ ap (λ o. as_answer (answer_update (next_version h) held.version o)) s.here
      ∙ ap (λ b. as_answer (cond b (reply.Done (next_version h)) (reply.Conflict held.version))) (eq-eqb held.version.0 held.version.0 refl)

  marks_it : (h : List Entry) → Markable q name a held node h → mark_of doc q m name node h ≡ Some (with_mark (whole_second (wall doc q.process m)) node)
  marks_it h s = by_ready node.ready refl posted
    where
      silent : (r : Ready) → is_silent doc q m name (Some r) h ≡ true
      silent r = ap (λ n. nat_lt (local doc q.process n + grace_period doc) (local doc q.process m)) (heard-own doc by_run q name h ∙ s.heard.probe) ∙ lt-ltb (local doc q.process a + grace_period doc) (local doc q.process m) (omega (arith, over))

      by_ready : (o : Option Ready) → node.ready ≡ o → IsReadyKnown o → mark_of doc q m name node h ≡ Some (with_mark (whole_second (wall doc q.process m)) node)
      by_ready None is known = absurd known
      by_ready (Some r) is known =
          ap (λ o. when (not (is_unknown o) && is_silent doc q m name o h) (with_mark (whole_second (wall doc q.process m)) node)) is
          ∙ ap (λ b. when (not b && is_silent doc q m name (Some r) h) (with_mark (whole_second (wall doc q.process m)) node)) known
          ∙ ap (λ b. when b (with_mark (whole_second (wall doc q.process m)) node)) (silent r)

  marked : (h : List Entry) → Markable q name a held node h → Stands q name m (mark doc m q name h)
  marked h s =
      subst (λ o. Stands q name m (mark_seen doc m q name (as_kind node_in o) h)) (sym (s.mirrors (node_key name) ∙ s.here))
      (subst (λ o. Stands q name m (mark_seen doc m q name (versioned held.version o) h)) (sym s.is)
      (subst (λ o. Stands q name m (mark_as m q name held.version o h)) (sym (marks_it h s))
      (record {
        given = held.version;
        written = written;
        version = next_version h;
        before = h;
        stands = inl (ap (λ o. add m q (Mark name held.version written o) h) (sym (accepted h s)));
      })))
    where
      written : Node
      written = with_mark (whole_second (wall doc q.process m)) node

  stay_marked : (x : ℕ) (h : List Entry) → Stands q name m h → Stands q name m (mark doc m q x h)
  stay_marked x h s = by_seen (seen_node q x h)
    where
      by_mark : (given : Version) (o : Option Node) → Stands q name m (mark_as m q x given o h)
      by_mark given None = s
      by_mark given (Some written) = stands_more q name m _ h s

      by_seen : (o : Option (Version × Node)) → Stands q name m (mark_seen doc m q x o h)
      by_seen None = s
      by_seen (Some y) = by_mark y.0 (mark_of doc q m x y.1 h)

  rest : (xs : List ℕ) (h : List Entry) → Stands q name m h → Stands q name m (for_each (mark doc m q) xs h)
  rest [] h s = s
  rest (x ∷ xs) h s = rest xs (mark doc m q x h) (stay_marked x h s)

  pub reach : (xs : List ℕ) (h : List Entry) → Among name xs → Markable q name a held node h → Stands q name m (for_each (mark doc m q) xs h)
  reach [] h at s = absurd at
  reach (x ∷ xs) h at s = ⊎_elim (λ same. rest xs (mark doc m q x h) (subst (λ x. Stands q name m (mark doc m q x h)) (sym same) (marked h s))) (λ differs. reach xs (mark doc m q x h) (later differs at) (others x h differs s)) (cases_eq x name)
    where
      later : (x ≡ name → ⊥) → (name ≡ x) ⊎ Among name xs → Among name xs
      later differs (inl same) = absurd (differs (sym same))
      later differs (inr at) = at
