-- Where a zone's token is there, its head is tainted and leaves the queue; who isn't tainted keeps its place: under the project's own rules.
use Rattle.std.proofs.Common.{◌≡◌, ◌∙◌, ◌⊎◌, ◌≤◌, ◌<◌, ℕ, ◌-◌, ◌*◌, ◌==◌, not, nat_lt, Bool, true, false, cond, List, [], ◌∷◌, Option, Some, None, refl, sym, ap, subst, inl, inr, ⊎_elim, arith, Less}
use Rattle.std.proofs.lemmas.Bool.{eq-eqb, eqb-true, leb-true, cases_lt}
use Rattle.std.proofs.lemmas.Bool.Decides.{nat_tests}
use Rattle.std.specs.Ordering.{nat_cmp}
use Rattle.kube_base.specs.declared.numbers.Version.{Version}
use Rattle.kube_objects.specs.declared.call.Answer.TheVariants as answer
use Rattle.kube_objects.specs.declared.call.Reply.TheVariants as reply
use Rattle.kube_objects.specs.declared.node.Node.{Node}
use Rattle.kube_objects.specs.declared.rules.BucketRule.{BucketRule}
use Rattle.kube_objects.specs.declared.rules.BucketRule.TheVariants.{Empty, Full}
use Rattle.kube_objects.specs.Answers.{as_kind, node_in, answer_update}
use Rattle.kube_objects.specs.Clocks.{local}
use Rattle.kube_objects.specs.Document.{Doc}
use Rattle.kube_objects.specs.Entry.{Entry, Identity, Place, Ticks, Tick, Head, entry}
use Rattle.kube_objects.specs.Modes.{place_eq, nodes, places}
use Rattle.kube_objects.specs.Newest.{only_if}
use Rattle.kube_objects.specs.Own.{ReleasesByStop, JudgesByOwn}
use Rattle.kube_objects.specs.Seen.{seen_node, node_names}
use Rattle.kube_objects.specs.Stored.{Held, node_key, stored, next_version}
use Rattle.kube_objects.specs.Tainting.{waits, Queued, queued, queued_as, first, head_of}
use Rattle.kube_objects.specs.Tick.{add, for_each, new_taint, tainted_with, taint}
use Rattle.kube_objects.specs.Tokens.{Rated, rated, base, token_size, is_grown, grown, is_there, is_full_by, has_token}
use Rattle.kube_objects.specs.Tries.{as_answer, try_node}
use Rattle.kube_objects.proofs.Own.{tainted-own}
use Rattle.kube_objects.proofs.Tokens.{empty_grown, token_is_there}
use Rattle.history_laws.specs.Tails.{IsTail}
use Rattle.history_laws.proofs.Plainly.{none_is, some_is, true_is, false_is}
use Rattle.history_laws.proofs.Ticks.{every}
use Rattle.eviction_laws.proofs.Early.{versioned_is}
use Rattle.outage_laws.specs.Attended.{IsAttended}
use Rattle.tick_laws.specs.Judged.{key_if, waits_since}
use Rattle.tick_laws.specs.Walks.{Among, Ascends}
use Rattle.tick_laws.proofs.Heads.{Precedes, head_waits}
use Rattle.tick_laws.proofs.Named.{node_names_ascend, node_is_named}
use Rattle.tick_laws.proofs.Orders.{names_strict, same_place, place_itself}
use Rattle.tick_laws.proofs.Quiet.{head_some}
use Rattle.tick_laws.proofs.Tainting.{IsWaiting, waiting, waiting_place, since_waits, heading, taint_adds, taint_either, heading_since, heading_since_elsewhere, heading_base, heading_base_elsewhere, heading_full, heading_full_by, heading_token, accepted_waits}
use Rattle.tick_laws.proofs.Walks.{above_less}
use Rattle.wave_laws.specs.Waves.{queue_at, served_at}
use Rattle.wave_laws.proofs.Queue.{Current, current_more, queue_current}

-- ---- the head comes before all that wait

pub before : (m n : ℕ) → nat_cmp m n ≡ Less → m < n
before m n is = grind (arith, nat_tests)

-- two in a row
precedes_from : (a m : ℕ) (z : Queued) (at n : ℕ) → a ≤ z.0 → m < n → Precedes z.0 z.1 at n → Precedes a m at n
precedes_from a m z at n le less (inl lt) = inl (omega (arith, le, lt))
precedes_from a m z at n le less (inr (same, order)) = ⊎_elim (λ lt. inl (omega (arith, lt, same))) (λ ge. inr (omega (arith, ge, le, same), omega (arith, less))) (cases_lt a z.0)

module _ (q : Identity) (place : Place) (h : List Entry) (n at : ℕ) (mine : waits_since q place n h ≡ Some at) where
  pub head_precedes : (names : List ℕ) (y : Queued) → head_of q place names h ≡ Some y → Ascends nat_cmp names → Among n names → Precedes y.0 y.1 at n
  head_precedes [] y is order there = absurd there
  head_precedes (m ∷ ms) y is order there = by_key (waits q place m h) refl (head_of q place ms h) refl (λ z head below. head_precedes ms z head order.1 below) is there
    where
      -- its own key
      own : n ≡ m → queued q place m h ≡ at
      own same =
          let found = since_waits q place n at h mine in
          ap (λ m. queued q place m h) (sym same) ∙ found.2

      here : n ≡ m → Precedes (queued q place m h) m at n
      here same = inr (own same, omega (arith, same))

      nobody : Among n ms → head_of q place ms h ≡ None → ⊥
      nobody below none =
          let found = since_waits q place n at h mine in
          let some = head_some q place h n found.0 found.1 ms below in
          none_is some.0 (sym none ∙ some.1)

      by_test : (z : Queued) → (Among n ms → Precedes z.0 z.1 at n) → (b : Bool) → nat_lt z.0 (queued q place m h) ≡ b → Some (cond b z (queued q place m h, m)) ≡ Some y → (n ≡ m) ⊎ Among n ms → Precedes y.0 y.1 at n
      by_test z later true less is (inl same) = subst (λ (y : Queued). Precedes y.0 y.1 at n) (some_is z y is) (inl (let lt : z.0 < queued q place m h = grind (arith, nat_tests) in omega (arith, lt, own same)))
      by_test z later true less is (inr below) = subst (λ (y : Queued). Precedes y.0 y.1 at n) (some_is z y is) (later below)
      by_test z later false less is (inl same) = subst (λ (y : Queued). Precedes y.0 y.1 at n) (some_is (queued q place m h, m) y is) (here same)
      by_test z later false less is (inr below) =
          let le : queued q place m h ≤ z.0 = grind (arith, nat_tests) in
          subst (λ (y : Queued). Precedes y.0 y.1 at n) (some_is (queued q place m h, m) y is)
          (precedes_from (queued q place m h) m z at n le (before m n (above_less nat_cmp names_strict n m ms below order.0)) (later below))

      by_key : (o : Option ℕ) → waits q place m h ≡ o → (r : Option Queued) → head_of q place ms h ≡ r → ((z : Queued) → head_of q place ms h ≡ Some z → Among n ms → Precedes z.0 z.1 at n)
          → first (queued_as (queued q place m h) m o) r ≡ Some y → (n ≡ m) ⊎ Among n ms → Precedes y.0 y.1 at n
      by_key None w r head later is (inl same) =
          absurd (none_is at (sym (ap (λ o. key_if o (queued q place m h)) w) ∙ ap (λ m. waits_since q place m h) (sym same) ∙ mine))
      by_key None w r head later is (inr below) = later y (head ∙ is) below
      by_key (Some wanted) w None head later is (inl same) = subst (λ (y : Queued). Precedes y.0 y.1 at n) (some_is (queued q place m h, m) y is) (here same)
      by_key (Some wanted) w None head later is (inr below) = absurd (nobody below head)
      by_key (Some wanted) w (Some z) head later is there = by_test z (later z head) (nat_lt z.0 (queued q place m h)) refl is there

-- in no time no token grows
no_size : (rate : ℕ) → token_size ≤ 0 * rate → ⊥
unfolding token_size
no_size rate le = omega (arith, le)

-- ---- an accepted taint of the zone's queue

-- it stands in a history
pub record Taken (q : Identity) (place : Place) (name k : ℕ) (h : List Entry) : Type 0 where
  pub wanted : ℕ
  pub given : Version
  pub written : Node
  pub version : Version
  pub before : List Entry
  pub stands : IsTail (entry k 4 q (Ticks (Head place name wanted given written (Some (answer.Done version)))) ∷ before) h

taken_more : (q : Identity) (place : Place) (name k : ℕ) (x : Entry) (h : List Entry) → Taken q place name k h → Taken q place name k (x ∷ h)
taken_more q place name k x h s = record { wanted = s.wanted; given = s.given; written = s.written; version = s.version; before = s.before; stands = inr s.stands }

-- a try over what is current is accepted
pub accepted : (q : Identity) (h : List Entry) (name : ℕ) (x : Version × Node) → Current q h → seen_node q name h ≡ Some x → try_node q name x.0 h ≡ Some (answer.Done (next_version h))
accepted q h name x s sees = by_held (stored (node_key name) h) refl (ap (as_kind node_in) (sym (s.mirrors (node_key name))) ∙ sees)
  where
    by_held : (o : Option Held) → stored (node_key name) h ≡ o → as_kind node_in o ≡ Some x → try_node q name x.0 h ≡ Some (answer.Done (next_version h))
    by_held None is now = absurd (none_is x now)
    by_held (Some held) is now =
        ap (λ t. only_if (not t) (as_answer (answer_update (next_version h) x.0 (stored (node_key name) h)))) s.passes
        ∙ ap (λ o. as_answer (answer_update (next_version h) x.0 o)) is
        ∙ ap (λ (v : Version). as_answer (answer_update (next_version h) v (Some held))) (sym (versioned_is held.version x.0 x.1 (node_in held.object) now))
        ∙ ap (λ b. as_answer (cond b (reply.Done (next_version h)) (reply.Conflict held.version))) (eq-eqb held.version.0 held.version.0 refl)

module _ (doc : Doc) (own : ReleasesByStop doc) (judges : JudgesByOwn doc) (q : Identity) (k : ℕ) (place : Place) where
  -- a node's place in the queue is as it was, or the node is tainted and waits no more
  abbrev pub Stays : ℕ → List Entry → List Entry → Type 0
  Stays name h g = (waits_since q place name g ≡ waits_since q place name h) ⊎ ((waits_since q place name g ≡ None) × Taken q place name k g)

  head_goes : (zone : Place) (h : List Entry) (n wanted : ℕ) (w : IsWaiting q zone n wanted h) → Current q h
      → (waits_since q place n (add k q (heading doc k q zone n wanted w.x (try_node q n w.x.0 h)) h) ≡ None) × Taken q zone n k (add k q (heading doc k q zone n wanted w.x (try_node q n w.x.0 h)) h)
  head_goes zone h n wanted w s =
      let done = accepted q h n w.x s w.sees in
      let g = add k q (heading doc k q zone n wanted w.x (try_node q n w.x.0 h)) h in (
        ap (λ o. key_if o (queued q place n g)) (accepted_waits doc k q zone place h n wanted w (next_version h) done),
        record {
          wanted = wanted;
          given = w.x.0;
          written = tainted_with (new_taint doc k q wanted) w.x.1;
          version = next_version h;
          before = h;
          stands = inl (ap (λ a. add k q (heading doc k q zone n wanted w.x a) h) (sym done));
        },
      )

  head_leaves : (zone : Place) (h : List Entry) (n wanted : ℕ) (w : IsWaiting q zone n wanted h) → Current q h → (name : ℕ) → Stays name h (add k q (heading doc k q zone n wanted w.x (try_node q n w.x.0 h)) h)
  head_leaves zone h n wanted w s name = by_zone (place_eq zone place) refl
    where
      g : List Entry
      g = add k q (heading doc k q zone n wanted w.x (try_node q n w.x.0 h)) h

      by_name : place_eq zone place ≡ true → (b : Bool) → (n == name) ≡ b → Stays name h g
      by_name inside false apart = inl (heading_since doc k q zone h n wanted w place name apart)
      by_name inside true same =
          let gone = head_goes zone h n wanted w s in
          inr (
            subst (λ name. waits_since q place name g ≡ None) (eqb-true n name same) gone.0,
            subst (λ name. Taken q place name k g) (eqb-true n name same) (subst (λ zone. Taken q zone n k g) (same_place zone place inside) gone.1),
          )

      by_zone : (b : Bool) → place_eq zone place ≡ b → Stays name h g
      by_zone true inside = by_name inside (n == name) refl
      by_zone false apart = inl (heading_since_elsewhere doc k q zone h n wanted w place apart name)

  stays_then : (name : ℕ) (t : Tick) (h g : List Entry) → Stays name h g → Stays name g (add k q t g) → Stays name h (add k q t g)
  stays_then name t h g old (inr new) = inr new
  stays_then name t h g (inl old) (inl new) = inl (new ∙ old)
  stays_then name t h g (inr (none, taken)) (inl new) = inr (new ∙ none, taken_more q place name k _ g taken)

  zone_stays : (h : List Entry) (name : ℕ) (zone : Place) (g : List Entry) → Current q g × Stays name h g → Current q (taint doc k q zone g) × Stays name h (taint doc k q zone g)
  zone_stays h name zone g s =
      taint_either doc k q zone g (λ g. Current q g × Stays name h g) s
      (λ at n wanted w token head. (
        current_more q k (heading doc k q zone n wanted w.x (try_node q n w.x.0 g)) g s.0,
        stays_then name (heading doc k q zone n wanted w.x (try_node q n w.x.0 g)) h g s.1 (head_leaves zone g n wanted w s.0 name),
      ))

  -- through all zones
  pub stays : IsAttended doc q k → (name : ℕ) → Stays name (queue_at doc q k) (served_at doc q k)
  stays attended name =
      let h = queue_at doc q k in
      subst (Stays name h) (sym (tainted-own doc judges k q h))
      (every (taint doc k q) (λ g. Current q g × Stays name h g) (zone_stays h name) (places (nodes q h)) h (queue_current doc own q k attended, inl refl)).1

  -- ---- where the token isn't there the base stays

  pub record Idle (h : List Entry) : Type 0 where
    pub token : has_token doc q k place h ≡ false
    pub base : base q place h ≡ base q place (queue_at doc q k)
    pub since : (name : ℕ) → waits_since q place name h ≡ waits_since q place name (queue_at doc q k)

  zone_idle : (zone : Place) (h : List Entry) → Idle h → Idle (taint doc k q zone h)
  zone_idle zone h s = taint_either doc k q zone h Idle s (λ at n wanted w token head. by_zone n wanted w token (place_eq zone place) refl)
    where
      by_zone : (n wanted : ℕ) (w : IsWaiting q zone n wanted h) → has_token doc q k zone h ≡ true → (b : Bool) → place_eq zone place ≡ b → Idle (add k q (heading doc k q zone n wanted w.x (try_node q n w.x.0 h)) h)
      by_zone n wanted w token true inside = absurd (true_is (sym token ∙ ap (λ zone. has_token doc q k zone h) (same_place zone place inside) ∙ s.token))
      by_zone n wanted w token false apart = record {
        token = heading_token doc k q zone h n wanted w place apart ∙ s.token;
        base = heading_base_elsewhere doc k q zone h n wanted w place apart ∙ s.base;
        since = λ name. heading_since_elsewhere doc k q zone h n wanted w place apart name ∙ s.since name;
      }

  pub idle : has_token doc q k place (queue_at doc q k) ≡ false → Idle (served_at doc q k)
  idle none =
      let h = queue_at doc q k in
      subst Idle (sym (tainted-own doc judges k q h))
      (every (taint doc k q) Idle zone_idle (places (nodes q h)) h (record { token = none; base = refl; since = λ name. refl }))

  -- ---- where it is there the head goes

  -- before the zone's taint
  record Open (h : List Entry) : Type 0 where
    current : Current q h
    since : (name : ℕ) → waits_since q place name h ≡ waits_since q place name (queue_at doc q k)
    token : has_token doc q k place h ≡ true

  -- the head came before a node that waits, was tainted, and takes the token
  pub record Spent (n at : ℕ) (h : List Entry) : Type 0 where
    pub name : ℕ
    pub beat : ℕ
    pub was : waits_since q place name (queue_at doc q k) ≡ Some beat
    pub first : Precedes beat name at n
    pub gone : waits_since q place name h ≡ None
    pub others : (other : ℕ) → (other ≡ name → ⊥) → waits_since q place other h ≡ waits_since q place other (queue_at doc q k)
    pub taken : Taken q place name k h
    pub base : base q place h ≡ k
    pub full : is_full_by doc.settings.rules.bucket doc q place h ≡ false

  zone_open : (zone : Place) → place_eq zone place ≡ false → (h : List Entry) → Open h → Open (taint doc k q zone h)
  zone_open zone apart h s =
      taint_either doc k q zone h Open s
      (λ at n wanted w token head. record {
        current = current_more q k (heading doc k q zone n wanted w.x (try_node q n w.x.0 h)) h s.current;
        since = λ name. heading_since_elsewhere doc k q zone h n wanted w place apart name ∙ s.since name;
        token = heading_token doc k q zone h n wanted w place apart ∙ s.token;
      })

  -- after it the token is gone
  no_token : (h : List Entry) → base q place h ≡ k → is_full_by doc.settings.rules.bucket doc q place h ≡ false → has_token doc q k place h ≡ true → ⊥
  no_token h at full token = by_rated (rated q place h) (subst (λ b. is_grown (local doc q.process k - local doc q.process b) (rated q place h) ≡ true) at grows)
    where
      grows : is_grown (grown doc q k place h) (rated q place h) ≡ true
      grows =
          sym (empty_grown (grown doc q k place h) (rated q place h))
          ∙ ap (λ b. is_there b (grown doc q k place h) (rated q place h)) (sym full)
          ∙ sym (token_is_there doc q k place h) ∙ token

      by_rated : (o : Option Rated) → is_grown (local doc q.process k - local doc q.process k) o ≡ true → ⊥
      by_rated None is = false_is is
      by_rated (Some x) is =
          let nothing : local doc q.process k - local doc q.process k ≡ 0 = omega arith in
          no_size x.1 (leb-true token_size (0 * x.1) (subst (λ n. is_grown n (Some x) ≡ true) nothing is))

  zone_spent : (n at : ℕ) (zone : Place) (h : List Entry) → Spent n at h → Spent n at (taint doc k q zone h)
  zone_spent n at zone h s = taint_either doc k q zone h (Spent n at) s (λ b m wanted w token head. by_zone m wanted w token (place_eq zone place) refl)
    where
      by_zone : (m wanted : ℕ) (w : IsWaiting q zone m wanted h) → has_token doc q k zone h ≡ true → (b : Bool) → place_eq zone place ≡ b → Spent n at (add k q (heading doc k q zone m wanted w.x (try_node q m w.x.0 h)) h)
      by_zone m wanted w token true inside = absurd (no_token h s.base s.full (sym (ap (λ zone. has_token doc q k zone h) (same_place zone place inside)) ∙ token))
      by_zone m wanted w token false apart = record {
        name = s.name;
        beat = s.beat;
        was = s.was;
        first = s.first;
        gone = heading_since_elsewhere doc k q zone h m wanted w place apart s.name ∙ s.gone;
        others = λ other differs. heading_since_elsewhere doc k q zone h m wanted w place apart other ∙ s.others other differs;
        taken = taken_more q place s.name k (entry k 4 q (Ticks (heading doc k q zone m wanted w.x (try_node q m w.x.0 h)))) h s.taken;
        base = heading_base_elsewhere doc k q zone h m wanted w place apart ∙ s.base;
        full = heading_full_by doc k q zone h m wanted w doc.settings.rules.bucket place apart ∙ s.full;
      }

  -- it leaves no full bucket
  full_goes : (rule : BucketRule) (h : List Entry) (n wanted : ℕ) (w : IsWaiting q place n wanted h)
      → is_full_by rule doc q place (add k q (heading doc k q place n wanted w.x (try_node q n w.x.0 h)) h) ≡ false
  full_goes Empty h n wanted w = refl
  full_goes Full h n wanted w = heading_full doc k q place h n wanted w

  spend_head : (n at : ℕ) (h : List Entry) → Open h → (beat name wanted : ℕ) (w : IsWaiting q place name wanted h) → waits_since q place name (queue_at doc q k) ≡ Some beat → Precedes beat name at n
      → Spent n at (add k q (heading doc k q place name wanted w.x (try_node q name w.x.0 h)) h)
  spend_head n at h s beat name wanted w was order =
      let goes = head_goes place h name wanted w s.current in
      record {
        name = name;
        beat = beat;
        was = was;
        first = order;
        gone = goes.0;
        others = λ other differs. heading_since doc k q place h name wanted w place other (by_name other (name == other) refl differs) ∙ s.since other;
        taken = goes.1;
        base = heading_base doc k q place h name wanted w;
        full = full_goes doc.settings.rules.bucket h name wanted w;
      }
    where
      by_name : (other : ℕ) (b : Bool) → (name == other) ≡ b → (other ≡ name → ⊥) → (name == other) ≡ false
      by_name other true is differs = absurd (differs (sym (eqb-true name other is)))
      by_name other false is differs = is

  spend : (n at : ℕ) (h : List Entry) → waits_since q place n (queue_at doc q k) ≡ Some at → Open h → Spent n at (taint doc k q place h)
  spend n at h mine s =
      let still : waits_since q place n h ≡ Some at = s.since n ∙ mine in
      let found = since_waits q place n at h still in
      let some = head_some q place h n found.0 found.1 (node_names h) (node_is_named q n h (waiting q place n found.0 h found.1).x (waiting q place n found.0 h found.1).sees) in
      let y = some.0 in
      let key = head_waits q place (node_names h) h y some.1 in
      let first = since_waits q place y.1 y.0 h key in
      subst (Spent n at) (sym (taint_adds doc k q place h y.0 y.1 first.0 (waiting q place y.1 first.0 h first.1).x s.token some.1 first.1 (waiting q place y.1 first.0 h first.1).sees))
      (spend_head n at h s y.0 y.1 first.0 (waiting q place y.1 first.0 h first.1) (sym (s.since y.1) ∙ key)
      (head_precedes q place h n at still (node_names h) y some.1 (node_names_ascend h) (node_is_named q n h (waiting q place n found.0 h found.1).x (waiting q place n found.0 h found.1).sees)))

  reach : (n at : ℕ) → waits_since q place n (queue_at doc q k) ≡ Some at → (zones : List Place) (h : List Entry) → Among place zones → Open h → Spent n at (for_each (taint doc k q) zones h)
  reach n at mine [] h there s = absurd there
  reach n at mine (zone ∷ zones) h there s = by_zone (λ apart. reach n at mine zones (taint doc k q zone h) (later apart there) (zone_open zone apart h s)) (place_eq zone place) refl
    where
      later : place_eq zone place ≡ false → (place ≡ zone) ⊎ Among place zones → Among place zones
      later apart (inl same) = absurd (true_is (sym (place_itself place) ∙ ap (λ p. place_eq p place) same ∙ apart))
      later apart (inr below) = below

      by_zone : (place_eq zone place ≡ false → Spent n at (for_each (taint doc k q) zones (taint doc k q zone h))) → (b : Bool) → place_eq zone place ≡ b → Spent n at (for_each (taint doc k q) zones (taint doc k q zone h))
      by_zone below false apart = below apart
      by_zone below true inside =
          every (taint doc k q) (Spent n at) (zone_spent n at) zones (taint doc k q zone h)
          (subst (λ z. Spent n at (taint doc k q z h)) (sym (same_place zone place inside)) (spend n at h mine s))

  pub spent : IsAttended doc q k → (n at : ℕ) → waits_since q place n (queue_at doc q k) ≡ Some at → has_token doc q k place (queue_at doc q k) ≡ true → Spent n at (served_at doc q k)
  spent attended n at mine token =
      let h = queue_at doc q k in
      let found = since_waits q place n at h mine in
      subst (Spent n at) (sym (tainted-own doc judges k q h))
      (reach n at mine (places (nodes q h)) h (waiting_place q place n found.0 h found.1) (record { current = queue_current doc own q k attended; since = λ name. refl; token = token }))
