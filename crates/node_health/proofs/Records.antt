-- What a pass, its marks, and the end of the all-Full mode make of a node's record.
use Rattle.std.proofs.Common.{◌≡◌, ◌∙◌, ◌==◌, ◌&&◌, ◌||◌, ℕ, Bool, true, false, cond, List, Option, Some, None, IfSome, option_map, refl, sym, ap, arith}
use Rattle.std.proofs.lemmas.Bool.Decides.{nat_tests}
use Rattle.kube_base.specs.declared.numbers.Version.{Version}
use Rattle.kube_base.specs.declared.numbers.Wall.{Wall}
use Rattle.kube_objects.specs.declared.call.Answer.{Answer}
use Rattle.kube_objects.specs.declared.lease.Lease.{Lease}
use Rattle.kube_objects.specs.declared.node.Node.{Node}
use Rattle.kube_objects.specs.declared.node.Ready.{Ready}
use Rattle.kube_objects.specs.Clocks.{local}
use Rattle.kube_objects.specs.Document.{Doc}
use Rattle.kube_objects.specs.Entry.{Entry, Identity, Mark, Mode, Pass, actor_of}
use Rattle.kube_objects.specs.Health as model
use Rattle.kube_objects.specs.Health.{counts, counts_lease, found_ready, is_found, is_recorded, keeps_lease, kept_lease, lease_of, left_ready, ready_heartbeat, recorded, renews, renews_over}
use Rattle.kube_objects.specs.Identities.{is_by}
use Rattle.kube_objects.specs.Newest.{has, newest, only_if, or_else, or_zero, when}
use Rattle.kube_objects.specs.Seen.{is_accepted, seen_lease, seen_node}
use Rattle.kube_objects.specs.Tick.{add}
use Rattle.node_health.specs.declared.known.Known.{Known}
use Rattle.node_health.specs.Kept.{at_reading, renewal_in}
use Rattle.node_health.specs.Recorded.{after_record, had_lease, has_after, is_changed, is_counted, kept_in, lease_after, left_in, marked_known, recorded_at, renewed_of, renews_in}
use Rattle.node_health.specs.Stands.{IsNoted, RecordStands, left_heartbeat}
use Rattle.node_health.proofs.Looks.{local-cond, mine, said}

abbrev renewed : Lease → Option Wall
renewed l = l.renewed

-- ---- what a pass compares

-- Ready as it was left, by its heartbeat
changed-left : (was is : Option Ready) → is_changed (left_heartbeat was) is ≡ model.is_changed was is
changed-left None None = refl
changed-left None (Some r) = refl
changed-left (Some was) None = refl
changed-left (Some was) (Some r) = refl

inside : {A : Type 0} (x y : A) → Some x ≡ Some y → x ≡ y
inside x y is = cc

renews-left : (x : Option Known) (left : Option (Option Ready)) (is : Option Ready) → option_map left_in x ≡ option_map left_heartbeat left → renews_in x is ≡ renews_over left (Some is)
renews-left None None is same = refl
renews-left None (Some was) is same = absurd (cc)
renews-left (Some known) None is same = absurd (cc)
renews-left (Some known) (Some was) is same = ap (λ o. is_changed o is) (inside (left_in known) (left_heartbeat was) same) ∙ changed-left was is

counted-lease : (kept seen : Option Lease) → is_counted (option_map renewed kept) seen ≡ counts_lease kept seen
counted-lease None None = refl
counted-lease (Some old) None = refl
counted-lease None (Some lease) = refl
counted-lease (Some old) (Some lease) = refl

counted-some : (kept : Option (Option Wall)) (seen : Option Lease) → is_counted kept seen ≡ true → has seen ≡ true
counted-some kept None is = absurd (cc)
counted-some kept (Some lease) is = refl

module _ (doc : Doc) (q : Identity) (h : List Entry) (name : ℕ) (x : Option Known) (s : RecordStands doc q h name x) (version : Version) (node : Node) (shown : seen_node q name h ≡ Some (version, node))
    (lease : Option Lease) (leased : lease_of (seen_lease q name h) ≡ lease) where
  pub renews-is : renews_in x node.ready ≡ renews q name h
  renews-is = renews-left x (left_ready q name h) node.ready s.left ∙ ap (λ o. renews_over (left_ready q name h) (found_ready o)) (sym shown)

  pub counts-is : is_counted (kept_in x) lease ≡ counts q name h
  counts-is =
      ap (λ o. is_counted o lease) s.lease
      ∙ counted-lease (kept_lease q name h) lease
      ∙ ap (counts_lease (kept_lease q name h)) (sym leased)

-- ---- what a pass leaves

abbrev pub recordeds : Identity → ℕ → List Entry → Option ℕ
recordeds q name h = newest (λ e T. when (is_recorded q name e.actor e.fact T) e.beat) h

pass-left : (k : ℕ) (q : Identity) (h : List Entry) (name : ℕ) → left_ready q name (add k q Pass h) ≡ said (found_ready (seen_node q name h)) (left_ready q name h)
pass-left k q h name = ap (λ b. said (only_if b (found_ready (seen_node q name h))) (left_ready q name h)) (mine q)

-- what a pass says of the Lease, where it finds the node
abbrev pub said_lease : Bool → (counts renews : Bool) → Option Lease → Option (Option Lease)
said_lease found counts renews seen = elim found [ true ↦ keeps_lease counts renews seen | false ↦ None ]

pass-lease : (k : ℕ) (q : Identity) (h : List Entry) (name : ℕ)
    → kept_lease q name (add k q Pass h) ≡ or_else (kept_lease q name h) (said_lease (is_found q name h) (counts q name h) (renews q name h) (lease_of (seen_lease q name h)))
pass-lease k q h name =
    ap (λ b. or_else (kept_lease q name h) (said_lease (b && is_found q name h) (counts q name h) (renews q name h) (lease_of (seen_lease q name h)))) (mine q)

pass-recorded : (k : ℕ) (q : Identity) (h : List Entry) (name : ℕ) → recorded q name (add k q Pass h) ≡ cond (is_found q name h && (renews q name h || counts q name h)) k (recorded q name h)
pass-recorded k q h name =
    ap (λ b. or_zero (said (when (b && (is_found q name h && (renews q name h || counts q name h))) k) (recordeds q name h))) (mine q)
    ∙ by_test (is_found q name h && (renews q name h || counts q name h))
  where
    by_test : (b : Bool) → or_zero (said (when b k) (recordeds q name h)) ≡ cond b k (recorded q name h)
    by_test true = refl
    by_test false = refl

left-of : (is : Option Ready) → cond (has is) (Some (ready_heartbeat is)) None ≡ left_heartbeat is
left-of None = refl
left-of (Some r) = refl

-- the Lease that is kept after a look
kept-after : (counts renews : Bool) (x : Option Known) (kept seen : Option Lease) → kept_in x ≡ option_map renewed kept → (counts ≡ true → has seen ≡ true)
    → cond (has_after counts renews (had_lease x)) (Some (lease_after counts renews (renewal_in x) (renewed_of seen))) None ≡ option_map renewed (or_else kept (keeps_lease counts renews seen))
kept-after true renews x kept None is there = absurd (let none = there refl in cc)
kept-after true renews x kept (Some lease) is there = refl
kept-after false true None kept seen is there = refl
kept-after false true (Some known) kept seen is there = by_had known.has_lease None
  where
    by_had : (had : Bool) (at : Option Wall) → cond (had && false) (Some at) None ≡ None
    by_had true at = refl
    by_had false at = refl
kept-after false false None kept seen is there = is
kept-after false false (Some known) kept seen is there = by_had known.has_lease ∙ is
  where
    by_had : (had : Bool) → cond (had && true) (Some known.renewal) None ≡ cond had (Some known.renewal) None
    by_had true = refl
    by_had false = refl

-- the reading of the probe after the pass
recorded-after : (doc : Doc) (k : ℕ) (q : Identity) (before now : ℕ) (x : Option Known) (ready : Option Ready) (counts : Bool) → now ≡ local doc q.process k
    → IfSome x (λ known. known.probe.0 ≡ local doc q.process before)
    → recorded_at x (renews_in x ready || counts) now ≡ local doc q.process (cond (renews_in x ready || counts) k before)
recorded-after doc k q before now None ready counts reading s = reading
recorded-after doc k q before now (Some known) ready counts reading s =
    (λ i. cond (renews_in (Some known) ready || counts) (reading i) (s i)) ∙ sym (local-cond doc q.process k before (renews_in (Some known) ready || counts))

pub record-looked : (doc : Doc) (k : ℕ) (q : Identity) (h : List Entry) (name : ℕ) (x : Option Known) (version : Version) (node : Node) (lease : Option Lease) (now : ℕ)
    → RecordStands doc q h name x → seen_node q name h ≡ Some (version, node) → lease_of (seen_lease q name h) ≡ lease → now ≡ local doc q.process k
    → RecordStands doc q (add k q Pass h) name (Some (after_record x node.ready lease now))
record-looked doc k q h name x version node lease now s shown leased reading =
    record {
      left = ap Some (left-of node.ready) ∙ sym (ap (option_map left_heartbeat) (pass-left k q h name ∙ ap (λ o. said (found_ready o) (left_ready q name h)) shown));
      lease =
          kept-after (is_counted (kept_in x) lease) (renews_in x node.ready) x (kept_lease q name h) lease s.lease (counted-some (kept_in x) lease)
          ∙ (λ i. option_map renewed (or_else (kept_lease q name h) (said_lease (sym (ap has shown) i) (counts_same i) (renews_same i) (sym leased i))))
          ∙ sym (ap (option_map renewed) (pass-lease k q h name));
      probe =
          recorded-after doc k q (recorded q name h) now x node.ready (is_counted (kept_in x) lease) reading (probe_of x s.probe)
          ∙ (λ i. local doc q.process (cond (sym (ap has shown) i && (renews_same i || counts_same i)) k (recorded q name h)))
          ∙ sym (ap (local doc q.process) (pass-recorded k q h name));
    }
  where
    renews_same : renews_in x node.ready ≡ renews q name h
    renews_same = renews-is doc q h name x s version node shown lease leased

    counts_same : is_counted (kept_in x) lease ≡ counts q name h
    counts_same = counts-is doc q h name x s version node shown lease leased

    probe_of : (x : Option Known) → IfSome x (λ known. known.probe.0 ≡ local doc q.process (recorded q name h))
        → IfSome x (λ known. known.probe.0 ≡ local doc q.process (recorded q name h))
    probe_of x is = is

-- a node that a pass doesn't find stays as it was
pub record-missed : (doc : Doc) (k : ℕ) (q : Identity) (h : List Entry) (name : ℕ) (x : Option Known) → is_found q name h ≡ false → RecordStands doc q h name x → RecordStands doc q (add k q Pass h) name x
record-missed doc k q h name x missed s =
    record {
      left = s.left ∙ sym (ap (option_map left_heartbeat) (pass-left k q h name ∙ by_seen (seen_node q name h) missed));
      lease = s.lease ∙ sym (ap (option_map renewed) (pass-lease k q h name ∙ ap (λ b. or_else (kept_lease q name h) (said_lease b (counts q name h) (renews q name h) (lease_of (seen_lease q name h)))) missed));
      probe = probe_is x s.probe;
    }
  where
    by_seen : (o : Option (Version × Node)) → has o ≡ false → said (found_ready o) (left_ready q name h) ≡ left_ready q name h
    by_seen None none = refl
    by_seen (Some y) none = absurd (cc)

    same : recorded q name (add k q Pass h) ≡ recorded q name h
    same = pass-recorded k q h name ∙ ap (λ b. cond (b && (renews q name h || counts q name h)) k (recorded q name h)) missed

    probe_is : (x : Option Known) → IfSome x (λ known. known.probe.0 ≡ local doc q.process (recorded q name h))
        → IfSome x (λ known. known.probe.0 ≡ local doc q.process (recorded q name (add k q Pass h)))
    probe_is None is = tt
    probe_is (Some known) is = is ∙ ap (local doc q.process) (sym same)

-- ---- an accepted mark

pub record-marked : (doc : Doc) (k : ℕ) (q : Identity) (h : List Entry) (name : ℕ) (given : Version) (written : Node) (tried : Option Answer) (lease : Option Lease) (x : Option Known)
    → is_accepted tried ≡ true → IsNoted q h name written lease x → RecordStands doc q h name x
    → RecordStands doc q (add k q (Mark name given written tried) h) name (option_map (marked_known lease) x)
record-marked doc k q h name given written tried lease None done noted s = absurd (let none = noted.there in cc)
record-marked doc k q h name given written tried lease (Some known) done noted s =
    record {
      left = ap Some (by_ready written.ready noted.ready noted.heartbeat) ∙ sym (ap (λ b. option_map left_heartbeat (said (when b written.ready) (left_ready q name h))) says);
      lease = by_lease lease ∙ sym (ap (option_map renewed) (ap (λ b. or_else (kept_lease q name h) (when b (lease_of (seen_lease q name h)))) says ∙ noted.lease));
      probe = s.probe;
    }
  where
    itself : (name == name) ≡ true
    itself = grind (arith, nat_tests)

    says : ((name == name) && (is_by q (actor_of q) && is_accepted tried)) ≡ true
    says = λ i. itself i && (mine q i && done i)

    by_ready : (r : Option Ready) → has r ≡ true → known.heartbeat ≡ ready_heartbeat r → Some known.heartbeat ≡ left_heartbeat r
    by_ready None there is = absurd (cc)
    by_ready (Some r) there is = ap Some is

    by_lease : (lease : Option Lease) → cond (has lease) (Some (renewed_of lease)) None ≡ option_map renewed lease
    by_lease None = refl
    by_lease (Some l) = refl

-- ---- the end of the all-Full mode

pub record-reset : (doc : Doc) (k : ℕ) (q : Identity) (h : List Entry) (name now : ℕ) (x : Option Known) → RecordStands doc q h name x → now ≡ local doc q.process k
    → RecordStands doc q (add k q (Mode false) h) name (cond (is_found q name h) (option_map (at_reading now) x) x)
record-reset doc k q h name now x s reading = by_found (is_found q name h) refl x s
  where
    at_mode : recorded q name (add k q (Mode false) h) ≡ cond (is_found q name h) k (recorded q name h)
    at_mode = ap (λ b. or_zero (said (when (b && is_found q name h) k) (recordeds q name h))) (mine q) ∙ by_test (is_found q name h)
      where
        by_test : (b : Bool) → or_zero (said (when b k) (recordeds q name h)) ≡ cond b k (recorded q name h)
        by_test true = refl
        by_test false = refl

    by_found : (b : Bool) → is_found q name h ≡ b → (x : Option Known) → RecordStands doc q h name x → RecordStands doc q (add k q (Mode false) h) name (cond b (option_map (at_reading now) x) x)
    by_found true is None s = record { left = s.left; lease = s.lease; probe = tt }
    by_found true is (Some known) s =
        record { left = s.left; lease = s.lease; probe = reading ∙ ap (local doc q.process) (sym (at_mode ∙ ap (λ b. cond b k (recorded q name h)) is)) }
    by_found false is None s = record { left = s.left; lease = s.lease; probe = tt }
    by_found false is (Some known) s =
        record { left = s.left; lease = s.lease; probe = s.probe ∙ ap (local doc q.process) (sym (at_mode ∙ ap (λ b. cond b k (recorded q name h)) is)) }

-- ---- a term that has had no pass

pub record-new : (doc : Doc) (q : Identity) (h : List Entry) (name : ℕ) → left_ready q name h ≡ None → kept_lease q name h ≡ None → RecordStands doc q h name None
record-new doc q h name left lease = record { left = ap (option_map left_heartbeat) (sym left); lease = ap (option_map renewed) (sym lease); probe = tt }

-- the probe that a look leaves is when the node was recorded
pub recorded-looked : (doc : Doc) (k : ℕ) (q : Identity) (h : List Entry) (name : ℕ) (x : Option Known) (version : Version) (node : Node) (lease : Option Lease) (now : ℕ)
    → RecordStands doc q h name x → seen_node q name h ≡ Some (version, node) → lease_of (seen_lease q name h) ≡ lease → now ≡ local doc q.process k
    → (after_record x node.ready lease now).probe.0 ≡ local doc q.process (recorded q name (add k q Pass h))
recorded-looked doc k q h name x version node lease now s shown leased reading = (record-looked doc k q h name x version node lease now s shown leased reading).probe
