-- One mark.
use Rattle.std.proofs.Common.{◌≡◌, ℕ, List, Option, Some, None, refl, sym, ap}
use Rattle.kube_base.specs.declared.numbers.Version.{Version}
use Rattle.kube_objects.specs.declared.call.Answer.{Answer}
use Rattle.kube_objects.specs.declared.deed.Act.TheVariants as act
use Rattle.kube_objects.specs.declared.node.Node.{Node}
use Rattle.kube_objects.specs.Document.{Doc}
use Rattle.kube_objects.specs.Entry.{Entry, Identity, Tick, Mark}
use Rattle.kube_objects.specs.Health.{mark_of, probe}
use Rattle.kube_objects.specs.Seen.{seen_node}
use Rattle.kube_objects.specs.Tick.{add, mark_as, mark_seen, mark}
use Rattle.kube_objects.specs.Tries.{try_node}
use Rattle.history.specs.Printed.{map_answer, reason_in}
use Rattle.tick_laws.proofs.Frames.{mark_is}
use Rattle.term_state.specs.declared.view.View.{View}
use Rattle.term_state.specs.declared.writes.NodeWrite.TheVariants as write
use Rattle.term_state.specs.MidTick.{IsView}
use Rattle.term_state.specs.Writes.{IsWrite}

-- the history with the mark
abbrev pub with_mark : ℕ → Identity → ℕ → Version → Node → List Entry → List Entry
with_mark k q name given written h = add k q (Mark name given written (try_node q name given h)) h

-- it is such a write
pub mark_write : (name : ℕ) (given : Version) (written : Node) (reason : ℕ) (a : Option Answer) → reason ≡ reason_in written.ready → IsWrite (write.Mark reason) name written a (Mark name given written a)
mark_write name given written reason a same =
    record {
      try = (mark_is name given written a).try;
      stale = refl;
      act = ap (λ n. map_answer (λ a. act.Marked name n a) a) (sym same);
    }

-- ---- a mark leaves the history, or adds this entry

pub mark_either : (doc : Doc) (k : ℕ) (q : Identity) (name : ℕ) (h : List Entry) (P : List Entry → Type 0) → P h → ((given : Version) (written : Node) → P (with_mark k q name given written h)) → P (mark doc k q name h)
mark_either doc k q name h P same more = by_seen (seen_node q name h)
  where
    by_mark : (given : Version) (o : Option Node) → P (mark_as k q name given o h)
    by_mark given None = same
    by_mark given (Some written) = more given written

    by_seen : (o : Option (Version × Node)) → P (mark_seen doc k q name o h)
    by_seen None = same
    by_seen (Some x) = by_mark x.0 (mark_of doc q k name x.1 h)

pub mark_probe : (doc : Doc) (k : ℕ) (q : Identity) (name : ℕ) (h : List Entry) (other : ℕ) → probe q other (mark doc k q name h) ≡ probe q other h
mark_probe doc k q name h other = mark_either doc k q name h (λ g. probe q other g ≡ probe q other h) refl (λ given written. refl)

pub view_more : (doc : Doc) (k : ℕ) (q : Identity) (h : List Entry) (t : Tick) (v : View) → IsView doc k q h v → IsView doc k q (add k q t h) v
view_more doc k q h t v s = record { watch = s.watch; passes = s.passes; beat = s.beat; reading = s.reading; time = s.time }

pub mark_view : (doc : Doc) (k : ℕ) (q : Identity) (name : ℕ) (h : List Entry) (v : View) → IsView doc k q h v → IsView doc k q (mark doc k q name h) v
mark_view doc k q name h v s = mark_either doc k q name h (λ g. IsView doc k q g v) s (λ given written. view_more doc k q h (Mark name given written (try_node q name given h)) v s)
