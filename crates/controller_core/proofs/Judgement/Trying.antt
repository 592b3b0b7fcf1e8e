-- The tries of a pass: the entry that each adds, and the write that it is.
use Rattle.std.proofs.Common.{◌≡◌, ◌∙◌, ◌&&◌, ◌||◌, ℕ, Bool, true, false, List, refl, sym, ap, subst}
use Rattle.std.specs.Prelude.{if◌then◌else◌}
use Rattle.kube_base.specs.declared.numbers.Version.{Version}
use Rattle.kube_objects.specs.declared.node.Node.{Node}
use Rattle.kube_objects.specs.Document.{Doc}
use Rattle.kube_objects.specs.Entry.{Entry, Identity, Untaint, Swap}
use Rattle.kube_objects.specs.Judgement.{Passed, has_turned_on, is_crossed, is_healthy, is_new}
use Rattle.kube_objects.specs.Newest.{has}
use Rattle.kube_objects.specs.Seen.{seen_node}
use Rattle.kube_objects.specs.Tainting.{Wants, Wanted, has_condition}
use Rattle.kube_objects.specs.Tick.{add_crossed, add_untaint, crossed, judge_as, new_taint, untainted}
use Rattle.kube_objects.specs.Tries.{try_node}
use Rattle.tick_laws.specs.Changes.{IsCleaningOn}
use Rattle.tick_laws.proofs.Frames.{swap_is, untaint_is}
use Rattle.term_state.specs.declared.writes.NodeWrite.TheVariants as write
use Rattle.term_state.specs.declared.node_try.NodeTry.{NodeTry}
use Rattle.term_state.specs.declared.writes.NodeWrite.{NodeWrite}
use Rattle.controller_core.specs.Trying.{AddsTry}

module _ (k : ℕ) (q : Identity) (name : ℕ) (h : List Entry) (given : Version) (node written : Node) (seen : has (seen_node q name h) ≡ true) where
  abbrev tried_as : NodeWrite → NodeTry
  tried_as w = record { name = name; given = given; written = written; write = w }

  untaint_try : written ≡ untainted node → AddsTry k q h (add_untaint k q name given node h) (tried_as write.Untaint)
  untaint_try is =
      let a = try_node q name given h in
      let s = subst (λ n. IsCleaningOn name n a (Untaint name given (untainted node) a)) (sym is) (untaint_is name given (untainted node) a) in
      record { tick = Untaint name given (untainted node) a; adds = refl; write = record { try = s.try; stale = s.stale; act = refl }; seen = seen }

  -- a node that is to lose its condition taints, and has one
  pub untaint_where : (untaints : Bool) → has_condition node ≡ true → untaints ≡ true → written ≡ untainted node
      → AddsTry k q h (if has_condition node && untaints then add_untaint k q name given node h else h) (tried_as write.Untaint)
  untaint_where untaints there asked is =
      subst (λ g. AddsTry k q h g (tried_as write.Untaint)) (sym (λ i. if there i && asked i then add_untaint k q name given node h else h)) (untaint_try is)

  pub swap_try : (doc : Doc) (wanted : ℕ) (new : Bool) → written ≡ crossed new (new_taint doc k q wanted) node
      → AddsTry k q h (add_crossed doc k q name given node new (Wanted wanted) h) (tried_as (write.Swap wanted))
  swap_try doc wanted new is =
      let a = try_node q name given h in
      let taint = new_taint doc k q wanted in
      let s = subst (λ n. IsCleaningOn name n a (Swap name wanted given (crossed new taint node) a)) (sym is) (swap_is name wanted given (crossed new taint node) a) in
      record { tick = Swap name wanted given (crossed new taint node) a; adds = refl; write = record { try = s.try; stale = s.stale; act = refl }; seen = seen }

-- which of both it is
module _ (doc : Doc) (k : ℕ) (q : Identity) (name : ℕ) (x : Passed) (given : Version) (node : Node) (w : Wants) (h : List Entry) (fresh : Bool) (new : fresh ≡ is_new doc q name x.before) where
  pub judge_crossed : is_crossed w node ≡ true → add_crossed doc k q name given node fresh w h ≡ judge_as doc k q name x given node w h
  judge_crossed is =
      ap (λ b. add_crossed doc k q name given node b w h) new
      ∙ sym (ap (λ b.
      (if b then add_crossed doc k q name given node (is_new doc q name x.before) w h
      else (if has_condition node && (is_new doc q name x.before || is_healthy w || has_turned_on q x) then add_untaint k q name given node h else h))) is)

  pub judge_uncrossed : (cleared turned : Bool) → is_crossed w node ≡ false → cleared ≡ (fresh || is_healthy w) → turned ≡ has_turned_on q x
      → (if has_condition node && (cleared || turned) then add_untaint k q name given node h else h) ≡ judge_as doc k q name x given node w h
  judge_uncrossed cleared turned is clears turns =
      ap (λ b. (if has_condition node && b then add_untaint k q name given node h else h))
      ((λ i. clears i || turns i) ∙ ap (λ b. (b || is_healthy w) || has_turned_on q x) new)
      ∙ sym (ap (λ b.
      (if b then add_crossed doc k q name given node (is_new doc q name x.before) w h
      else (if has_condition node && (is_new doc q name x.before || is_healthy w || has_turned_on q x) then add_untaint k q name given node h else h))) is)
