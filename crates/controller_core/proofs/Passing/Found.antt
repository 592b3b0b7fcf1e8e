-- What a pass leaves to be judged, through its entries.
use Rattle.std.proofs.Common.{◌≡◌, ◌∙◌, ◌==◌, ◌&&◌, ◌||◌, ◌++◌, ℕ, not, Bool, true, false, cond, List, [], ◌∷◌, Option, Some, None, refl, sym, ap, subst, arith}
use Rattle.std.specs.Prelude.{if◌then◌else◌}
use Rattle.std.specs.List.{list_any}
use Rattle.std.proofs.lemmas.Bool.Decides.{nat_tests}
use Rattle.std.proofs.lemmas.List.Folds.{list_any-append}
use Rattle.kube_base.specs.declared.numbers.Version.{Version}
use Rattle.kube_objects.specs.declared.call.Answer.{Answer}
use Rattle.kube_objects.specs.declared.call.Answer.TheVariants as answer
use Rattle.kube_objects.specs.declared.node.Node.{Node}
use Rattle.kube_objects.specs.declared.node.Ready.{Ready}
use Rattle.kube_objects.specs.declared.node.ReadyStatus.{ReadyStatus}
use Rattle.kube_objects.specs.declared.node.ReadyStatus.TheVariants as ready
use Rattle.kube_objects.specs.declared.node.ZoneState.{ZoneState}
use Rattle.kube_objects.specs.Clocks.{wall, whole_second}
use Rattle.kube_objects.specs.Document.{Doc}
use Rattle.kube_objects.specs.Entry.{Entry, Identity, Place, Tick, Ticks, Mark, Mode, Pass, Zone, actor_of, entry}
use Rattle.kube_objects.specs.Health.{at_pass, is_found, is_known, is_pass, with_mark}
use Rattle.kube_objects.specs.Identities.{is_by}
use Rattle.kube_objects.specs.Judgement.{Passed, has_marked, has_turned_on, judged_by, marks as marks_in, passes, queue_head, queue_heads, turns_on}
use Rattle.kube_objects.specs.Modes.{all_full, mode, nodes, place_of, places, rate_in, state_in}
use Rattle.kube_objects.specs.Newest.{newest, only_if, or_else, has, when}
use Rattle.kube_objects.specs.Seen.{is_accepted, node_names, seen_node}
use Rattle.kube_objects.specs.Tainting.{wants_by, wants_ready}
use Rattle.kube_objects.specs.Tick.{add, is_same_mode, mark, mark_as, mark_seen, marks, set_mode, zone, whole_pass}
use Rattle.kube_objects.specs.Tokens.{is_rated, rated}
use Rattle.kube_objects.specs.Tries.{try_node}
use Rattle.kube_objects.proofs.Passes.{and_last, heads_last, passes_grow, passes_pass}
use Rattle.history_laws.proofs.Plainly.{some_is}
use Rattle.history_laws.proofs.Ticks.{every}
use Rattle.controller_core.specs.Looking.{AreLooks, FoundStands, HeldStand, IsAsMarked, are_looked_ahead}
use Rattle.controller_core.specs.declared.pass.found.Found.{Found}
use Rattle.controller_core.specs.Verdicts.{judged_so}
use Rattle.controller_core.proofs.Passing.Passed.{moded}
use Rattle.tick_laws.specs.Changes.{IsChange, noted_by}
use Rattle.tick_laws.proofs.Frames.{kept_node, mode_change, noted_node, pass_change, same_node, zone_change}
use Rattle.tick_laws.proofs.Marking.{mark_change, marks_keep}
use Rattle.watch_cache.proofs.Frames.{upper}
use Rattle.watch_cache.proofs.Ticks.{same_self}
use Rattle.watch_cache.specs.Told.{AreNamed}
use Rattle.kube_objects.specs.Stored.{node_key}

-- ---- a node through the marks

-- whether it has a Ready tells whether it was marked
pub record IsKept (marked : Bool) (y z : Node) : Type 0 where
  pub taints : z.taints ≡ y.taints
  pub place : place_of z ≡ place_of y
  pub ready : has z.ready ≡ (has y.ready || marked)

abbrev pub IsLeft : Identity → ℕ → Version × Node → Bool → List Entry → Type 0
IsLeft q name y marked g = (z : Version × Node) × ((seen_node q name g ≡ Some z) × IsKept marked y.1 z.1)

or_none : (b : Bool) → (b || false) ≡ b
or_none true = refl
or_none false = refl

or_all : (b : Bool) → (b || true) ≡ true
or_all true = refl
or_all false = refl

and_none : (a b : Bool) → (a && (b && false)) ≡ false
and_none true true = refl
and_none true false = refl
and_none false b = refl

with_more : (f : Entry → Bool) (xs : List Entry) (e : Entry) → list_any f (xs ++ e ∷ []) ≡ (list_any f xs || f e)
with_more f xs e = list_any-append f xs (e ∷ []) ∙ ap (λ b. list_any f xs || b) (or_none (f e))

-- what a mark leaves of a node
module _ (q : Identity) (k : ℕ) (g : List Entry) (n : ℕ) (given : Version) (x : Version × Node) (second : ℕ) (sees : seen_node q n g ≡ Some x) (name : ℕ) (y : Version × Node) (m : Bool) (s : IsLeft q name y m g) where
  abbrev written : Node
  written = with_mark second x.1

  unmarked : (a : Option Answer) → is_accepted a ≡ false → seen_node q name (add k q (Mark n given written a) g) ≡ seen_node q name g
      → IsLeft q name y (m || marks_in q name (actor_of q) (Ticks (Mark n given written a))) (add k q (Mark n given written a) g)
  unmarked a lost same =
      subst (λ b. IsLeft q name y b (add k q (Mark n given written a) g))
      (sym (ap (λ b. m || (is_by q (actor_of q) && (n == name && b))) lost ∙ ap (λ b. m || b) (and_none (is_by q (actor_of q)) (n == name)) ∙ or_none m))
      (s.0, (same ∙ s.1.0, s.1.1))

  by_test : (v : Version) (g2 : List Entry) (b : Bool) → (n == name) ≡ b → seen_node q name g2 ≡ cond b (Some (v, written)) (seen_node q name g)
      → IsLeft q name y (m || (is_by q (actor_of q) && (b && true))) g2
  by_test v g2 true same is =
      let equal : n ≡ name = grind (arith, nat_tests, same) in
      let one : x ≡ s.0 = some_is x s.0 (sym sees ∙ ap (λ n. seen_node q n g) equal ∙ s.1.0) in (
        (v, written),
        (
          is,
          record {
            taints = ap (λ (z : Version × Node). z.1.taints) one ∙ s.1.1.taints;
            place = ap (λ (z : Version × Node). place_of z.1) one ∙ s.1.1.place;
            ready = sym (ap (λ b. has y.1.ready || (m || (b && true))) (same_self q) ∙ ap (λ b. has y.1.ready || b) (or_all m) ∙ or_all (has y.1.ready));
          },
        ),
      )
  by_test v g2 false same is =
      subst (λ b. IsLeft q name y b g2) (sym (ap (λ b. m || b) (by_who (is_by q (actor_of q))) ∙ or_none m)) (s.0, (is ∙ s.1.0, s.1.1))
    where
      by_who : (b : Bool) → (b && (false && true)) ≡ false
      by_who true = refl
      by_who false = refl

  mark_left : (a : Option Answer) → IsChange q g (add k q (Mark n given written a) g) (noted_by n written a) None
      → IsLeft q name y (m || marks_in q name (actor_of q) (Ticks (Mark n given written a))) (add k q (Mark n given written a) g)
  mark_left None c = unmarked None refl (kept_node q g _ None c name)
  mark_left (Some (answer.Done v)) c =
      by_test v (add k q (Mark n given written (Some (answer.Done v))) g) (n == name) refl (noted_node q g _ n v written None c name)
  mark_left (Some answer.Absent) c = unmarked (Some answer.Absent) refl (kept_node q g _ None c name)
  mark_left (Some answer.Exists) c = unmarked (Some answer.Exists) refl (kept_node q g _ None c name)
  mark_left (Some (answer.Conflict v)) c = unmarked (Some (answer.Conflict v)) refl (kept_node q g _ None c name)

-- ---- the entries after a pass over h

pub record Since (q : Identity) (h g : List Entry) (on : Bool) : Type 0 where
  pub after : List Entry
  pub passed : passes q g ≡ record { before = h; after = after } ∷ passes q h
  pub left : (name : ℕ) (y : Version × Node) → seen_node q name h ≡ Some y → IsLeft q name y (has_marked q name (record { before = h; after = after })) g
  pub known : (name : ℕ) → is_known q name g ≡ is_found q name h
  pub turned : has_turned_on q (record { before = h; after = after }) ≡ on
  pub turns : (doc : Doc) (place : Place) (xs : List Passed) (names : List ℕ) → queue_heads doc q place xs after names ≡ names

since_pass : (k : ℕ) (q : Identity) (h : List Entry) → Since q h (add k q Pass h) false
since_pass k q h =
    record {
      after = [];
      passed = passes_pass q (entry k 4 q (Ticks Pass)) h (same_self q);
      left = λ name y is. (y, (kept_node q h (add k q Pass h) None (pass_change q k h) name ∙ is, record { taints = refl; place = refl; ready = sym (or_none (has y.1.ready)) }));
      known = λ name. ap (λ b. or_else false (upper (only_if b (Some (is_found q name h))) (newest (λ e T. at_pass q (λ T. Some (is_found q name T)) e.actor e.fact T) h))) (same_self q);
      turned = refl;
      turns = λ doc place xs names. refl;
    }

module _ (k : ℕ) (q : Identity) (h g : List Entry) (on : Bool) (s : Since q h g on) where
  since_more : (t : Tick) (turns : Bool) → is_pass q (actor_of q) (Ticks t) ≡ false → turns_on q (actor_of q) (Ticks t) ≡ turns
      → ((name : ℕ) → is_known q name (add k q t g) ≡ is_known q name g)
      → ((doc : Doc) (place : Place) (xs : List Passed) (names : List ℕ) → queue_head doc q place xs (actor_of q) (Ticks t) names ≡ names)
      → ((name : ℕ) (y : Version × Node) (m : Bool) → IsLeft q name y m g → IsLeft q name y (m || marks_in q name (actor_of q) (Ticks t)) (add k q t g))
      → Since q h (add k q t g) (on || turns)
  since_more t turns other turning known unheaded left =
      let e = entry k 4 q (Ticks t) in
      record {
        after = s.after ++ e ∷ [];
        passed = passes_grow q e g other ∙ ap (and_last e) s.passed;
        left = λ name y is. subst (λ b. IsLeft q name y b (add k q t g)) (sym (with_more (λ e. marks_in q name e.actor e.fact) s.after e)) (left name y _ (s.left name y is));
        known = λ name. known name ∙ s.known name;
        turned = with_more (λ e. turns_on q e.actor e.fact) s.after e ∙ (λ i. s.turned i || turning i);
        turns = λ doc place xs names.
            heads_last doc q place xs s.after e names ∙ ap (queue_head doc q place xs (actor_of q) (Ticks t)) (s.turns doc place xs names) ∙ unheaded doc place xs names;
      }

  quiet_left : (t : Tick) → ((name : ℕ) → marks_in q name (actor_of q) (Ticks t) ≡ false) → ((name : ℕ) → seen_node q name (add k q t g) ≡ seen_node q name g)
      → (name : ℕ) (y : Version × Node) (m : Bool) → IsLeft q name y m g → IsLeft q name y (m || marks_in q name (actor_of q) (Ticks t)) (add k q t g)
  quiet_left t none same name y m l =
      subst (λ b. IsLeft q name y b (add k q t g)) (sym (ap (λ b. m || b) (none name) ∙ or_none m)) (l.0, (same name ∙ l.1.0, l.1.1))

  since_mark : (n : ℕ) (given : Version) (x : Version × Node) (second : ℕ) → seen_node q n g ≡ Some x
      → Since q h (add k q (Mark n given (with_mark second x.1) (try_node q n given g)) g) on
  since_mark n given x second sees =
      subst (Since q h (add k q (Mark n given (with_mark second x.1) (try_node q n given g)) g)) (or_none on)
      (since_more (Mark n given (with_mark second x.1) (try_node q n given g)) false refl refl (λ name. refl) (λ doc place xs names. refl)
      (λ name y m l. mark_left q k g n given x second sees name y m l (try_node q n given g) (mark_change q k g n given (with_mark second x.1))))

  since_mode : (turns : Bool) → Since q h (add k q (Mode turns) g) (on || turns)
  since_mode true =
      since_more (Mode true) true refl (same_self q) (λ name. refl) (λ doc place xs names. refl)
      (quiet_left (Mode true) (λ name. refl) (λ name. same_node q name g (add k q (Mode true) g) ((mode_change q k g true).shown (node_key name))))
  since_mode false =
      since_more (Mode false) false refl refl (λ name. refl) (λ doc place xs names. refl)
      (quiet_left (Mode false) (λ name. refl) (λ name. same_node q name g (add k q (Mode false) g) ((mode_change q k g false).shown (node_key name))))

  since_zone : (place : Place) (state : ZoneState) (rate : ℕ) → Since q h (add k q (Zone place state rate) g) on
  since_zone place state rate =
      subst (Since q h (add k q (Zone place state rate) g)) (or_none on)
      (since_more (Zone place state rate) false refl refl (λ name. refl) (λ doc place xs names. refl)
      (quiet_left (Zone place state rate) (λ name. refl) (kept_node q g (add k q (Zone place state rate) g) None (zone_change q k g place state rate))))

-- ---- marks, mode and zones

module _ (doc : Doc) (k : ℕ) (q : Identity) (h : List Entry) where
  mark_since : (n : ℕ) (g : List Entry) → Since q h g false → Since q h (mark doc k q n g) false
  mark_since n g s = by_seen (seen_node q n g) refl
    where
      by_mark : (x : Version × Node) → seen_node q n g ≡ Some x → (b : Bool) → Since q h (mark_as k q n x.0 (when b (with_mark (whole_second (wall doc q.process k)) x.1)) g) false
      by_mark x is false = s
      by_mark x is true = since_mark k q h g false s n x.0 x (whole_second (wall doc q.process k)) is

      by_seen : (o : Option (Version × Node)) → seen_node q n g ≡ o → Since q h (mark_seen doc k q n o g) false
      by_seen None is = s
      by_seen (Some x) is = by_mark x is _

  mode_since : (g : List Entry) → Since q h g false → Since q h (set_mode doc k q g) (not (mode q g) && mode q (set_mode doc k q g))
  mode_since g s = by_mode (all_full doc (nodes q g)) (mode q g) refl
    where
      by_mode : (on m : Bool) → mode q g ≡ m → Since q h (if is_same_mode on m then g else add k q (Mode on) g) (not m && mode q (if is_same_mode on m then g else add k q (Mode on) g))
      by_mode true true is = s
      by_mode false false is = subst (Since q h g) (sym is) s
      by_mode true false is = subst (Since q h (add k q (Mode true) g)) (sym (mode_change q k g true).mode) (since_mode k q h g false s true)
      by_mode false true is = since_mode k q h g false s false

  zone_since : (on : Bool) (place : Place) (f g : List Entry) → Since q h g on → Since q h (zone doc k q (nodes q f) place g) on
  zone_since on place f g s = by_test (state_in doc (nodes q f) place) (rate_in doc (mode q g) (nodes q f) place) (is_rated (state_in doc (nodes q f) place) (rate_in doc (mode q g) (nodes q f) place) (rated q place g))
    where
      by_test : (state : ZoneState) (rate : ℕ) (b : Bool) → Since q h (if b then g else add k q (Zone place state rate) g) on
      by_test state rate true = s
      by_test state rate false = since_zone k q h g on s place state rate

  -- it turned the mode on exactly where it wasn't on before
  pub since_whole : Since q h (whole_pass doc k q h) (not (mode q h) && mode q (moded doc k q h))
  since_whole =
      let m = marks doc k q (add k q Pass h) in
      let f = set_mode doc k q m in
      let marked : Since q h m false = every (mark doc k q) (λ g. Since q h g false) mark_since (node_names (add k q Pass h)) (add k q Pass h) (since_pass k q h) in
      let turned : Since q h f (not (mode q h) && mode q f) =
      subst (λ b. Since q h f (not b && mode q f)) (marks_keep doc k q (node_names (add k q Pass h)) (add k q Pass h)).mode (mode_since m marked) in
      every (zone doc k q (nodes q f)) (λ g. Since q h g (not (mode q h) && mode q f)) (λ place g s. zone_since (not (mode q h) && mode q f) place f g s) (places (nodes q f)) f turned

-- ---- what is judged

judged_left : (marked : Bool) (r : Option Ready) (there : Bool) → there ≡ (has r || marked) → judged_by marked r ≡ judged_so (wants_ready r) there
judged_left marked (Some r) there is = by_status r.status
  where
    by_status : (s : ReadyStatus) → wants_by s ≡ judged_so (wants_by s) there
    by_status ready.True = refl
    by_status ready.False = refl
    by_status ready.Unknown = refl
judged_left true None there is = ap (judged_so (wants_ready None)) (sym is)
judged_left false None there is = ap (judged_so (wants_ready None)) (sym is)

pub as_marked : (q : Identity) (h g : List Entry) (on : Bool) (s : Since q h g on) (name : ℕ) → IsAsMarked q (record { before = h; after = s.after }) name g
as_marked q h g on s name y is =
    let l = s.left name y is in (
      l.0,
      (
        l.1.0,
        record {
          taints = l.1.1.taints;
          place = l.1.1.place;
          wants = judged_left (has_marked q name (record { before = h; after = s.after })) y.1.ready (has l.0.1.ready) l.1.1.ready;
        },
      ),
    )

pub held_since : (q : Identity) (h g : List Entry) (on : Bool) (names : List ℕ) → Since q h g on → AreNamed (λ n. has (seen_node q n h)) names → HeldStand q g names
held_since q h g on names s are = record { names = record { ascend = are.ascend; named = λ n. are.named n ∙ sym (s.known n) }; ascend = are.ascend }

-- with what was found before its marks
pub found_stands : (doc : Doc) (k : ℕ) (q : Identity) (h : List Entry) (found : Found) → AreNamed (λ n. has (seen_node q n h)) found.names
    → found.turned ≡ (not (mode q h) && mode q (moded doc k q h)) → (are_looked_ahead doc ≡ true → AreLooks doc q h found.names found.looks.items)
    → (are_looked_ahead doc ≡ false → found.looks.items ≡ []) → FoundStands doc q h (whole_pass doc k q h) found
found_stands doc k q h found are is looked unasked =
    let s = since_whole doc k q h in
    let g = whole_pass doc k q h in
    record {
      after = s.after;
      passed = s.passed;
      looks = λ ahead. record { names = are; ascend = are.ascend; looks = looked ahead; turned = is ∙ sym s.turned };
      unasked = unasked;
      marked = as_marked q h g (not (mode q h) && mode q (moded doc k q h)) s;
      turns = s.turns doc;
      held = held_since q h g (not (mode q h) && mode q (moded doc k q h)) found.names s are;
    }
