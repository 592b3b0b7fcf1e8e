-- How a term's passes, what counts as pushed, and the queues grow with each entry.
use Rattle.std.proofs.Common.{◌≡◌, ℕ, ◌&&◌, ◌||◌, not, if◌then◌else◌, Bool, true, false, List, [], ◌∷◌, ◌++◌, Option, Some, None, refl, ap, sym, ◌∙◌}
use Rattle.std.proofs.lemmas.List.Folds.{list_any-append}
use Rattle.std.specs.List.{list_any}
use Rattle.kube_base.specs.declared.numbers.Version.{Version}
use Rattle.kube_objects.specs.declared.deed.Actor.{Actor}
use Rattle.kube_objects.specs.declared.node.Node.{Node}
use Rattle.kube_objects.specs.Document.{Doc}
use Rattle.kube_objects.specs.Entry.{Entry, Identity, Place, Fact, Ticks, Head, Skip}
use Rattle.kube_objects.specs.Health.{is_pass}
use Rattle.kube_objects.specs.Identities.{is_by}
use Rattle.kube_objects.specs.Modes.{is_in, place_eq}
use Rattle.kube_objects.specs.Seen.{is_accepted, seen_node, node_names}
use Rattle.kube_objects.specs.Tainting.{Wants}
use Rattle.kube_objects.specs.Tokens.{is_zone}
use Rattle.kube_objects.specs.Judgement.{Passed, passes_under, passes, marks, has_marked, turns_on, has_turned_on, judged_by, judged, is_new, is_healthy, is_crossed, is_short}
use Rattle.kube_objects.specs.Judgement.{is_wanting, pushes_again, Verdict, verdict, verdict_in, verdict_of, counts_by, counts, queue_node, queue_pass, had_turn, queue_head, queue_heads, queue}

-- ---- passes

-- with a further entry after the last pass
abbrev pub and_last : Entry → List Passed → List Passed
and_last e [] = []
and_last e (x ∷ xs) = record { before = x.before; after = x.after ++ e ∷ [] } ∷ xs

under_grows : (q : Identity) (e : Entry) (above h : List Entry) → passes_under q (above ++ e ∷ []) h ≡ and_last e (passes_under q above h)
under_grows q e above [] = refl
under_grows q e above (f ∷ h) = by_pass (under_grows q e (f ∷ above) h) (is_pass q f.actor f.fact)
  where
    by_pass : passes_under q (f ∷ above ++ e ∷ []) h ≡ and_last e (passes_under q (f ∷ above) h) → (b : Bool) → elim b [ true ↦ record { before = h; after = above ++ e ∷ [] } ∷ passes_under q [] h | false ↦ passes_under q (f ∷ above ++ e ∷ []) h ]
        ≡ and_last e (elim b [ true ↦ record { before = h; after = above } ∷ passes_under q [] h | false ↦ passes_under q (f ∷ above) h ])
    by_pass rest true = refl
    by_pass rest false = rest

-- an entry that is no pass of the term's stands after its last one
pub passes_grow : (q : Identity) (e : Entry) (h : List Entry) → is_pass q e.actor e.fact ≡ false → passes q (e ∷ h) ≡ and_last e (passes q h)
passes_grow q e h other =
    ap (λ b. elim b [ true ↦ record { before = h; after = [] } ∷ passes_under q [] h | false ↦ passes_under q (e ∷ []) h ]) other ∙ under_grows q e [] h

pub passes_pass : (q : Identity) (e : Entry) (h : List Entry) → is_pass q e.actor e.fact ≡ true → passes q (e ∷ h) ≡ record { before = h; after = [] } ∷ passes q h
passes_pass q e h is =
    ap (λ b. elim b [ true ↦ record { before = h; after = [] } ∷ passes_under q [] h | false ↦ passes_under q (e ∷ []) h ]) is

-- ---- what a pass marked, and whether it turned the mode on

or_false : (b c : Bool) → c ≡ false → (b || (c || false)) ≡ b
or_false b c is = ap (λ c. b || (c || false)) is ∙ by b
  where
    by : (b : Bool) → (b || false) ≡ b
    by true = refl
    by false = refl

-- an entry that is no mark and no beginning of the mode
pub record IsQuiet (q : Identity) (e : Entry) : Type 0 where
  pub marks : (name : ℕ) → marks q name e.actor e.fact ≡ false
  pub turns : turns_on q e.actor e.fact ≡ false

abbrev pub more_of : Entry → Passed → Passed
more_of e x = record { before = x.before; after = x.after ++ e ∷ [] }

module _ (q : Identity) (e : Entry) (quiet : IsQuiet q e) where
  pub marked_kept : (name : ℕ) (x : Passed) → has_marked q name (more_of e x) ≡ has_marked q name x
  marked_kept name x =
      list_any-append (λ e. marks q name e.actor e.fact) x.after (e ∷ []) ∙ or_false (has_marked q name x) (marks q name e.actor e.fact) (quiet.marks name)

  pub turned_kept : (x : Passed) → has_turned_on q (more_of e x) ≡ has_turned_on q x
  turned_kept x = list_any-append (λ e. turns_on q e.actor e.fact) x.after (e ∷ []) ∙ or_false (has_turned_on q x) (turns_on q e.actor e.fact) quiet.turns

  pub judged_kept : (name : ℕ) (x : Passed) (node : Node) → judged q name (more_of e x) node ≡ judged q name x node
  judged_kept name x node = ap (λ m. judged_by m node.ready) (marked_kept name x)

  pub verdict_kept : (doc : Doc) (name : ℕ) (x : Passed) (node : Node) → verdict doc q name (more_of e x) node ≡ verdict doc q name x node
  verdict_kept doc name x node = ap by_wants (judged_kept name x node)
    where
      by_wants : Wants → Verdict
      by_wants w = record {
        cleared = is_new doc q name x.before || is_healthy w;
        queued = (is_wanting w && not (is_crossed w node)) && (pushes_again doc.settings.rules.queue || is_short w node || is_new doc q name x.before);
        pushed = is_short w node || is_new doc q name x.before;
      }

  pub verdict_of_kept : (doc : Doc) (place : Place) (name : ℕ) (x : Passed) → verdict_of doc q place name (more_of e x) ≡ verdict_of doc q place name x
  verdict_of_kept doc place name x = by_seen (seen_node q name x.before)
    where
      by_seen : (o : Option (Version × Node)) → verdict_in doc q place name (more_of e x) o ≡ verdict_in doc q place name x o
      by_seen None = refl
      by_seen (Some y) = ap (λ v. if is_in place y.1 then Some v else None) (verdict_kept doc name x y.1)

  -- who counts as pushed
  pub counts_kept : (doc : Doc) (place : Place) (name : ℕ) (xs : List Passed) → counts doc q place name (and_last e xs) ≡ counts doc q place name xs
  counts_kept doc place name [] = refl
  counts_kept doc place name (x ∷ xs) =
      ap (λ t. by t (verdict_of doc q place name (more_of e x))) (turned_kept x) ∙ ap (by (has_turned_on q x)) (verdict_of_kept doc place name x)
    where
      by : Bool → Option Verdict → Bool
      by turned v =
          elim (is_zone q place x.before) [
            | true ↦ elim (counts_by turned v) [ None ↦ counts doc q place name xs | Some b ↦ b ]
            | false ↦ false
          ]

  -- the pushes of a pass
  pub pass_kept : (doc : Doc) (place : Place) (x : Passed) (xs : List Passed) (names pushed : List ℕ)
      → queue_pass doc q place (more_of e x) xs names pushed ≡ queue_pass doc q place x xs names pushed
  pass_kept doc place x xs [] pushed = refl
  pass_kept doc place x xs (name ∷ names) pushed =
      pass_kept doc place x xs names (by (has_turned_on q (more_of e x)) (verdict_of doc q place name (more_of e x)))
      ∙ ap (λ t. queue_pass doc q place x xs names (by t (verdict_of doc q place name (more_of e x)))) (turned_kept x)
      ∙ ap (λ v. queue_pass doc q place x xs names (by (has_turned_on q x) v)) (verdict_of_kept doc place name x)
    where
      by : Bool → Option Verdict → List ℕ
      by turned v = queue_node doc.settings.rules.queue turned (counts doc q place name xs) name v pushed

-- ---- heads

module _ (doc : Doc) (q : Identity) (place : Place) (xs ys : List Passed) (same : (name : ℕ) → counts doc q place name xs ≡ counts doc q place name ys) where
  pub head_kept : (who : Actor) (fact : Fact) (names : List ℕ) → queue_head doc q place xs who fact names ≡ queue_head doc q place ys who fact names
  head_kept who (Ticks (Head at node wanted given written tried)) names =
      ap (λ c. (if place_eq at place && is_by q who then had_turn c (is_accepted tried) names else names)) (same node)
  head_kept who (Ticks (Skip at node)) names = ap (λ c. (if place_eq at place && is_by q who then had_turn c true names else names)) (same node)
  head_kept who _ names = refl

  pub heads_kept : (es : List Entry) (names : List ℕ) → queue_heads doc q place xs es names ≡ queue_heads doc q place ys es names
  heads_kept [] names = refl
  heads_kept (e ∷ es) names =
      ap (queue_heads doc q place xs es) (head_kept e.actor e.fact names) ∙ heads_kept es (queue_head doc q place ys e.actor e.fact names)

pub heads_last : (doc : Doc) (q : Identity) (place : Place) (xs : List Passed) (es : List Entry) (e : Entry) (names : List ℕ)
    → queue_heads doc q place xs (es ++ e ∷ []) names ≡ queue_head doc q place xs e.actor e.fact (queue_heads doc q place xs es names)
heads_last doc q place xs [] e names = refl
heads_last doc q place xs (f ∷ es) e names = heads_last doc q place xs es e (queue_head doc q place xs f.actor f.fact names)

-- ---- queues

head_none : (doc : Doc) (q : Identity) (place : Place) (xs : List Passed) (who : Actor) (fact : Fact) → queue_head doc q place xs who fact [] ≡ []
head_none doc q place xs who (Ticks (Head at node wanted given written tried)) = by_mine (place_eq at place && is_by q who) (is_accepted tried) (counts doc q place node xs)
  where
    by_mine : (mine written counted : Bool) → (if mine then had_turn counted written [] else []) ≡ []
    by_mine false written counted = refl
    by_mine true true counted = refl
    by_mine true false counted = refl
head_none doc q place xs who (Ticks (Skip at node)) = by_mine (place_eq at place && is_by q who) (counts doc q place node xs)
  where
    by_mine : (mine counted : Bool) → (if mine then had_turn counted true [] else []) ≡ []
    by_mine false counted = refl
    by_mine true counted = refl
head_none doc q place xs who _ = refl

-- an entry that isn't of a pass changes a queue as a turn of its head, or not at all
pub queue_grows : (doc : Doc) (q : Identity) (place : Place) (e : Entry) (xs : List Passed) → IsQuiet q e
    → queue doc q place (and_last e xs) ≡ queue_head doc q place xs e.actor e.fact (queue doc q place xs)
queue_grows doc q place e [] quiet = sym (head_none doc q place [] e.actor e.fact)
queue_grows doc q place e (x ∷ xs) quiet = by_zone (is_zone q place x.before)
  where
    pushed : List ℕ
    pushed = queue_pass doc q place x xs (node_names x.before) (queue doc q place xs)

    by_zone : (b : Bool) → (elim b [
      | true ↦ queue_heads doc q place (and_last e (x ∷ xs)) (x.after ++ e ∷ []) (queue_pass doc q place (more_of e x) xs (node_names x.before) (queue doc q place xs))
      | false ↦ []
    ]) ≡ queue_head doc q place (x ∷ xs) e.actor e.fact (elim b [ true ↦ queue_heads doc q place (x ∷ xs) x.after pushed | false ↦ [] ])
    by_zone true =
        ap (queue_heads doc q place (and_last e (x ∷ xs)) (x.after ++ e ∷ [])) (pass_kept q e quiet doc place x xs (node_names x.before) (queue doc q place xs))
        ∙ heads_kept doc q place (and_last e (x ∷ xs)) (x ∷ xs) (λ name. counts_kept q e quiet doc place name (x ∷ xs)) (x.after ++ e ∷ []) pushed
        ∙ heads_last doc q place (x ∷ xs) x.after e pushed
    by_zone false = sym (head_none doc q place (x ∷ xs) e.actor e.fact)
