-- A node that wants a taint by its Ready, and the turn of its push.
use Rattle.std.proofs.Common.{◌≡◌, ◌∙◌, ℕ, true, List, Option, Some, None, refl, sym, ap}
use Rattle.kube_base.specs.declared.numbers.Version.{Version}
use Rattle.kube_objects.specs.declared.node.Node.{Node}
use Rattle.kube_objects.specs.declared.node.Taint.{Taint}
use Rattle.kube_objects.specs.Clocks.{wall, whole_second}
use Rattle.kube_objects.specs.Document.{Doc}
use Rattle.kube_objects.specs.Entry.{Entry, Identity, Place, Head, Skip}
use Rattle.kube_objects.specs.Newest.{has}
use Rattle.kube_objects.specs.Tainting as model
use Rattle.kube_objects.specs.Tainting.{wants_ready}
use Rattle.kube_objects.specs.Tick.{new_taint, restamped}
use Rattle.kube_objects.specs.Tries.{try_node}
use Rattle.history_laws.proofs.Plainly.{none_is, some_is}
use Rattle.node_taints.specs.Editing.{taint_at}
use Rattle.node_taints.specs.Wanting.{wants_of}
use Rattle.node_taints.specs.declared.wants.Wants.{Wants}
use Rattle.node_taints.specs.declared.wants.Wants.TheVariants.{Nothing, Wanted, Whatever}
use Rattle.tick_laws.specs.Changes.{turn_by, turn_of}
use Rattle.controller_core.specs.declared.pushing.head.Wanting.{Wanting}
use Rattle.controller_core.specs.Restamping.{wanting_by, wanting_of}

-- what is made of the version and the node that are seen
pub wants_nothing : (doc : Doc) (k : ℕ) (q : Identity) (x : Version × Node) (w : Wants) → wants_of w ≡ wants_ready x.1.ready → ((key : ℕ) → w ≡ Wanted key → ⊥) → wanting_by doc k q x (wants_ready x.1.ready) ≡ None
wants_nothing doc k q x Nothing is none = ap (wanting_by doc k q x) (sym is)
wants_nothing doc k q x Whatever is none = ap (wanting_by doc k q x) (sym is)
wants_nothing doc k q x (Wanted key) is none = absurd (none key refl)

pub wants_it : (doc : Doc) (k : ℕ) (q : Identity) (wanted second now : ℕ) (x : Version × Node) (w : Wants) (written : Node) (taint : Taint) → wants_of w ≡ wants_ready x.1.ready → w ≡ Wanted wanted
    → taint ≡ taint_at wanted second → second ≡ whole_second now → now ≡ wall doc q.process k → written ≡ restamped taint x.1
    → ◌≡◌ {A = Option Wanting} (Some (record { given = x.0; wanted = wanted; written = written })) (wanting_by doc k q x (wants_ready x.1.ready))
wants_it doc k q wanted second now x w written taint is found made at reading wrote =
    ap (λ n. Some (record { given = x.0; wanted = wanted; written = n })) (wrote ∙ ap (λ t. restamped t x.1) taints) ∙ ap (wanting_by doc k q x) (sym (ap wants_of found) ∙ is)
  where
    taints : taint ≡ new_taint doc k q wanted
    taints = made ∙ ap (taint_at wanted) (at ∙ ap whole_second reading)

-- ---- the turn, by what is found

pub no_turn : (doc : Doc) (k : ℕ) (q : Identity) (place : Place) (name : ℕ) (o : Option (Version × Node)) (h : List Entry) → None ≡ wanting_of doc k q o → turn_of doc k q place name o h ≡ Skip place name
no_turn doc k q place name None h is = refl
no_turn doc k q place name (Some x) h is = by_wants (wants_ready x.1.ready) is
  where
    by_wants : (w : model.Wants) → None ≡ wanting_by doc k q x w → turn_by doc k q place name x.0 x.1 w (try_node q name x.0 h) ≡ Skip place name
    by_wants (model.Wanted wanted) is = absurd (none_is _ is)
    by_wants model.Nothing is = refl
    by_wants model.Whatever is = refl

pub its_turn : (doc : Doc) (k : ℕ) (q : Identity) (place : Place) (name : ℕ) (o : Option (Version × Node)) (h : List Entry) (w : Wanting) → Some w ≡ wanting_of doc k q o
    → turn_of doc k q place name o h ≡ Head place name w.wanted w.given w.written (try_node q name w.given h)
its_turn doc k q place name None h w is = absurd (none_is w (sym is))
its_turn doc k q place name (Some x) h w is = by_wants (wants_ready x.1.ready) is
  where
    by_wants : (v : model.Wants) → Some w ≡ wanting_by doc k q x v → turn_by doc k q place name x.0 x.1 v (try_node q name x.0 h) ≡ Head place name w.wanted w.given w.written (try_node q name w.given h)
    by_wants (model.Wanted wanted) is = ap (λ (y : Wanting). Head place name y.wanted y.given y.written (try_node q name y.given h)) (sym (some_is w _ is))
    by_wants model.Nothing is = absurd (none_is w (sym is))
    by_wants model.Whatever is = absurd (none_is w (sym is))

pub it_is_seen : (doc : Doc) (k : ℕ) (q : Identity) (o : Option (Version × Node)) (w : Wanting) → Some w ≡ wanting_of doc k q o → has o ≡ true
it_is_seen doc k q None w is = absurd (none_is w (sym is))
it_is_seen doc k q (Some x) w is = refl
