-- Another controller comes to lead in time, and stays, where the Lease stays as the leader left it while nobody else acts: for callers.
use Rattle.std.proofs.Common.{◌≡◌, ◌⊎◌, ◌<◌, ◌≤◌, ℕ, suc, ◌+◌, ◌-◌, ◌*◌, true, false, List, ◌∷◌, Option, Some, None, refl, sym, ap, ◌∙◌, inr, ⊎_elim, arith}
use Rattle.kube_objects.specs.declared.call.Reply.{Reply}
use Rattle.kube_objects.specs.declared.call.Request.{Request}
use Rattle.kube_objects.specs.declared.call.Request.TheVariants.{Get}
use Rattle.kube_objects.specs.declared.lease.Lease.{Lease}
use Rattle.kube_objects.specs.declared.object.Object.TheVariants as object
use Rattle.kube_objects.specs.Answers.{lease_in, as_kind, answer_get, answer}
use Rattle.kube_objects.specs.Document.{Doc, is_controller}
use Rattle.kube_objects.specs.Elector.{leads}
use Rattle.kube_objects.specs.Entry.{Entry, Identity, Call, Sends, actor_of}
use Rattle.kube_objects.specs.Identities.{identity}
use Rattle.kube_objects.specs.Newest.{has}
use Rattle.kube_objects.specs.Process.{alive}
use Rattle.kube_objects.specs.Stored.{Held, election, at_key, write_of, stored}
use Rattle.history.specs.History.{history, at_turn}
use Rattle.history.specs.Safe.{Acts}
use Rattle.history_laws.specs.Tails.{IsTail}
use Rattle.history_laws.proofs.Plainly.{true_is}
use Rattle.history_laws.proofs.Tailed.{tail_all, tail_trans, later_tail}
use Rattle.takeover_laws.specs.Waits.{longest_wait, shortest_wait}
use Rattle.span_laws.specs.Looks.{IsGreatest}
use Rattle.span_laws.specs.Spans.{IsEnough, IsNeeded}
use Rattle.call_laws.proofs.Placing.{in_own_beat, not_before}
use Rattle.takeover_laws.specs.Rounds.{IsRound}
use Rattle.takeover_laws.proofs.Taking.{fits_writes}
use Rattle.calm_laws.specs.Bounds.{LastsFor}
use Rattle.calm_laws.proofs.Asked.{IsWrite}
use Rattle.calm_laws.proofs.Looks.{object_of}
use Rattle.calm_laws.proofs.Origins.{Origin}
use Rattle.stay_laws.specs.Stays.{HasSuccess, Stays}
use Rattle.silence_laws.specs.Silence.{LeadsUntil, Bears}
use Rattle.silence_laws.proofs.Led.{HasLed, acting_led}
use Rattle.silence_laws.proofs.Ways.{IsWay, reply_way}
use Rattle.succession_laws.specs.Successions.{IsRival, IsFollowed}
use Rattle.succession_laws.proofs.Asking.{AfterGet, GoesRound, after_get, answer_entry, get_fits, goes_round, some_beats, succeeds_since}
use Rattle.succession_laws.proofs.First.{none_first}
use Rattle.succession_laws.proofs.Others.{Another, another}
use Rattle.succession_laws.proofs.Others as others

-- no controller but the leader's acts up to a beat
abbrev pub IsIdle : Doc → ℕ → Identity → Type 0
IsIdle doc n q = (r : Identity) → is_controller doc r.process ≡ true → (r.process ≡ q.process → ⊥) → (k : ℕ) → k ≤ n → Acts doc r k → ⊥

module _ (doc : Doc) (near far b e : ℕ) (q : Identity) (l : LeadsUntil doc near far b e q) (s : Bears doc near far b e q) (n : ℕ) (within : n ≤ e) (top : Option Held) (Late : Entry → List Entry → Type 0) where
  -- how another controller finds the Lease: late entries, and what stands above them, come over a record that stays, which it doesn't write; a reply that comes at
  -- beat K or later is of a late answer or shows that record, and so is the reply after which it sends a write
  pub record IsLeft (c : Identity) (role : is_controller doc c.process ≡ true) (other : c.process ≡ q.process → ⊥) (K : ℕ) : Type 0 where
    pub y : Held
    pub lease : Lease
    pub object : y.object ≡ object.Lease lease
    pub top_is : top ≡ Some y
    pub stays : (x : Entry) (T : List Entry) → IsTail (x ∷ T) (history doc (suc n)) → 1 ≤ x.step → Late x T → x.beat + far ≤ n → stored election T ≡ top
    pub later : (x z : Entry) (T Z : List Entry) → Late x T → IsTail (x ∷ T) Z → x.beat ≤ z.beat → Late z Z
    pub late_get : (x : Entry) (T : List Entry) (request : Request) (f : AfterGet doc near far b e q l s c role other x T request) → b ≤ x.beat + 2 * far → Late f.o.e f.o.low
    pub late_or : (w : Call) (reply : Reply) (T : List Entry) (y : ℕ) → (o : Origin doc c w reply T y) → IsTail T (history doc (suc n)) → w.request ≡ Get election → IsWay near far o.e.beat y → K ≤ y → y + far ≤ n → Late o.e o.low ⊎ (reply ≡ answer_get (as_kind lease_in top))
    pub none_writes : (x : Entry) (T : List Entry) → IsTail (x ∷ T) (history doc (suc n)) → 1 ≤ x.step → x.actor ≡ actor_of c → Late x T → x.beat + far ≤ n → has (at_key election (write_of x.fact)) ≡ true → ⊥

  -- ---- another controller, while no other controller acts

  module _ (c : Identity) (role : is_controller doc c.process ≡ true) (other : c.process ≡ q.process → ⊥) (K : ℕ) (since : b ≤ K) (left : IsLeft c role other K) (led_not : (h : List Entry) → IsTail h (history doc (suc n)) → leads c h ≡ false) where
    into : (h : List Entry) → IsTail h (history doc (suc n)) → IsTail h (history doc (suc e))
    into h high = tail_trans h (history doc (suc n)) (history doc (suc e)) high (later_tail doc (suc n) (suc e) (omega (arith, within)))

    -- a Get that is answered late shows what stays
    shows : (w : Call) (reply : Reply) (T : List Entry) (y : ℕ) → (o : Origin doc c w reply T y) → IsTail T (history doc (suc n)) → w.request ≡ Get election → Late o.e o.low → o.e.beat + far ≤ n → reply ≡ answer_get (as_kind lease_in top)
    shows w reply T y o high get late soon =
        o.reply_is ∙ ap (λ r. answer r o.low) get ∙ ap (λ t. answer_get (as_kind lease_in t)) (left.stays o.e o.low (tail_trans (o.e ∷ o.low) T (history doc (suc n)) o.answered high) (omega (arith, o.step)) late soon)

    -- and so does one whose reply comes late
    given : (w : Call) (reply : Reply) (T : List Entry) (y : ℕ) → Origin doc c w reply T y → IsTail T (history doc (suc n)) → w.request ≡ Get election → K ≤ y → y + far ≤ n → reply ≡ answer_get (as_kind lease_in top)
    given w reply T y o high get late soon = ⊎_elim (λ late. shows w reply T y o high get late (omega (arith, way.least, soon))) (λ is. is) (left.late_or w reply T y o high get way late soon)
      where
        way : IsWay near far o.e.beat y
        way = reply_way doc s.rules near far e c role (l.others c.process role other) o.e o.low (tail_trans (o.e ∷ o.low) T (history doc (suc e)) o.answered (into T high)) o.step y (omega (arith, soon, within)) o.comes_is

    -- it sends no write
    no_writes : (x : Entry) (T : List Entry) (call : Call) (arrives : Option ℕ) → IsTail (x ∷ T) (history doc (suc n)) → x.actor ≡ actor_of c → x.fact ≡ Sends call arrives → IsWrite call.request → K ≤ x.beat + 2 * far → x.beat + 2 * far ≤ n → ⊥
    no_writes x T call arrives at actor fact write late soon = left.none_writes answering r.before g.answered (omega arith) refl late_r (omega (arith, r.most, soon)) writes
      where
        T_n : IsTail T (history doc (suc n))
        T_n = tail_trans T (x ∷ T) (history doc (suc n)) (inr (tail_all T)) at

        f : AfterGet doc near far b e q l s c role other x T call.request
        f = after_get doc near far b e q l s c role other x T call arrives (into (x ∷ T) at) actor fact (led_not T T_n) write

        f_late : Late f.o.e f.o.low
        f_late = left.late_get x T call.request f (omega (arith, since, late))

        g : GoesRound doc near far b e q l s c role other n call arrives x.beat
        g = goes_round doc near far b e q l s c role other n within x T call arrives at actor fact f.step soon

        r : IsRound doc near far c call arrives x.beat
        r = g.r

        answering : Entry
        answering = answer_entry doc near far b e q l s c role other call r.at r.before

        -- it is answered above the Get
        below : IsTail (f.o.e ∷ f.o.low) r.before
        below =
            tail_trans (f.o.e ∷ f.o.low) f.before r.before f.o.answered
            (tail_trans f.before (x ∷ T) r.before (inr f.below)
            (tail_trans (x ∷ T) (history doc (suc x.beat)) r.before (in_own_beat doc (suc n) x T at)
            (tail_trans (history doc (suc x.beat)) (history doc r.at) r.before (later_tail doc (suc x.beat) r.at (omega (arith, r.least, s.one)))
            (not_before doc r.at (suc n) answering r.before (omega (arith, r.most, soon)) g.answered (omega arith) (omega arith)))))

        late_r : Late answering r.before
        late_r = left.later f.o.e answering f.o.low r.before f_late below (omega (arith, f.way.least, r.least))

        shows_it : f.reply ≡ answer_get (as_kind lease_in (Some left.y))
        shows_it =
            shows f.waiting f.reply f.before x.beat f.o (tail_trans f.before T (history doc (suc n)) f.below T_n) f.get f_late (omega (arith, f.way.least, soon))
            ∙ ap (λ t. answer_get (as_kind lease_in t)) left.top_is

        writes : has (at_key election (write_of answering.fact)) ≡ true
        writes =
            fits_writes call.request r.before (Some left.y) (left.stays answering r.before g.answered (omega arith) late_r (omega (arith, r.most, soon)) ∙ left.top_is)
            (get_fits doc near far b e q l s c role other x T call.request f left.y left.lease left.object shows_it)

  -- ---- nobody else acts only so long

  module _ (p slow fast wait needed lasting enough most K : ℕ) (rival : IsRival doc b e q p slow fast) (wait_is : IsEnough slow (longest_wait doc p) wait) (needed_is : IsNeeded fast (shortest_wait doc p) needed)
      (enough_is : IsEnough slow lasting enough) (most_is : IsGreatest (needed + 2 * near) (wait + 2 * far) enough most) (lasts : LastsFor doc p lasting (object_of top)) (since : b < K) (room : K + wait + most + 4 * far ≤ suc n)
      (left : IsIdle doc n q → (c : Identity) (role : is_controller doc c.process ≡ true) (other : c.process ≡ q.process → ⊥) → IsLeft c role other K) where
    some_wait : 1 ≤ wait
    some_wait = some_beats slow (longest_wait doc p) wait wait_is (s.waits p rival.role)

    some_way : 1 ≤ far
    some_way = omega (arith, s.one, s.ways)

    abbrev S : List Entry
    S = at_turn doc (suc p) b

    later : b ≤ n
    later = omega (arith, since, room, some_wait)

    abbrev G : ℕ
    G = K + wait - 1

    idle_ends : IsIdle doc n q → ⊥
    idle_ends idle = by_up (alive p S) refl
      where
        with_identity : (i : ℕ) → alive p S ≡ Some i → ⊥
        with_identity i up =
            none_first doc s.rules near far e n s.one s.ways within c rival.role (l.others p rival.role rival.other) (s.calls p rival.role) (others.none doc near far b e q l s p rival.role rival.other n within later idle i up) led_not lasting top lasts K (omega (arith, since))
            (given c rival.role rival.other K (omega (arith, since)) (left idle c rival.role rival.other) led_not) (no_writes c rival.role rival.other K (omega (arith, since)) (left idle c rival.role rival.other) led_not)
            slow fast wait needed b (omega (arith, since)) rival.runs_least rival.runs_most (s.waits p rival.role) wait_is needed_is enough most enough_is most_is
            G (omega (arith, some_wait)) (omega (arith, some_wait, since)) (omega (arith, some_wait, room)) (others.there doc near far b e q l s p rival.role rival.other n within later idle i up G (omega (arith, some_wait, since)) (omega (arith, some_wait, some_way, room)))
          where
            c : Identity
            c = identity p i

            led_not : (h : List Entry) → IsTail h (history doc (suc n)) → leads c h ≡ false
            led_not = others.led_not doc near far b e q l s p rival.role rival.other n within later idle i up

        by_up : (o : Option ℕ) → alive p S ≡ o → ⊥
        by_up None is = true_is (sym rival.up ∙ ap has is)
        by_up (Some i) is = with_identity i is

    -- so one acts, which stays: its call was sent at t or later, where no success came before, and no write of before can have one
    module _ (t a : ℕ) (from : b ≤ t) (next : t ≤ suc a) (none : (r : Identity) → is_controller doc r.process ≡ true → (r.process ≡ q.process → ⊥) → (j : ℕ) → j ≤ a → HasSuccess doc r 0 j → ⊥)
        (sooner : (r : Identity) (role : is_controller doc r.process ≡ true) (other : r.process ≡ q.process → ⊥) (x : Entry) (T : List Entry) (request : Request) → AfterGet doc near far b e q l s r role other x T request → x.beat < t → t ≤ x.beat + 2 * far → ⊥)
        (stays : (r : Identity) → is_controller doc r.process ≡ true → (r.process ≡ q.process → ⊥) → (j : ℕ) → HasSuccess doc r t j → Stays doc r j e) where
      -- nobody else acts before b
      idle_before : (r : Identity) → is_controller doc r.process ≡ true → (r.process ≡ q.process → ⊥) → (k : ℕ) → k < b → Acts doc r k → ⊥
      idle_before r role other k lt acting = let led : HasLed doc r k = acting_led doc s.rules r k acting in none r role other led.j (omega (arith, led.to, lt, from, next)) led.success

      pub followed : IsFollowed doc b n e q
      followed = record {
        c = x.r;
        other = x.other;
        j = led.j;
        to = omega (arith, led.to, x.to);
        success = record { call = success.call; version = success.version; before = success.before; position = success.position; since = omega (arith, success.since, from); success = success.success };
        stays = stays x.r x.role x.other led.j success;
      }
        where
          x : Another doc s.rules b n q
          x = another doc s.rules b n q idle_ends idle_before

          led : HasLed doc x.r x.k
          led = acting_led doc s.rules x.r x.k x.acting_is

          success : HasSuccess doc x.r t led.j
          success =
              succeeds_since doc near far b e q l s x.r x.role x.other t a next (λ j hs le. none x.r x.role x.other j le hs) (sooner x.r x.role x.other)
              led.j led.success (omega (arith, led.to, x.to, within))
