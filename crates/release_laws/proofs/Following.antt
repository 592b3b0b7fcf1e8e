-- After a leader was stopped and its release was accepted another controller comes to lead in time, and stays.
use Rattle.std.proofs.Common.{◌≡◌, ◌<◌, ◌≤◌, ℕ, suc, ◌+◌, ◌-◌, ◌*◌, true, List, ◌∷◌, Option, Some, subst, inl, inr, ⊎_elim, arith}
use Rattle.std.specs.Int.{div_ceil}
use Rattle.kube_objects.specs.declared.call.Reply.TheVariants.{Done}
use Rattle.kube_objects.specs.declared.call.Request.{Request}
use Rattle.kube_objects.specs.Document.{Doc, is_controller}
use Rattle.kube_objects.specs.Entry.{Entry, Identity, Answers, entry}
use Rattle.kube_objects.specs.Stored.{Held, election, stored}
use Rattle.history.specs.History.{history}
use Rattle.history_laws.specs.Tails.{IsTail}
use Rattle.history_laws.proofs.Tailed.{tail_all, tail_trans, later_tail}
use Rattle.takeover_laws.specs.Waits.{longest_wait}
use Rattle.span_laws.specs.Spans.{IsEnough}
use Rattle.call_laws.proofs.Placing.{in_own_beat}
use Rattle.stay_laws.proofs.Staying.{leaders_stay}
use Rattle.silence_laws.specs.Silence.{LeadsUntil, Bears, IsStopped, IsReleased}
use Rattle.span_laws.proofs.Quotients.{rounded_is}
use Rattle.span_laws.specs.Looks.{IsGreatest}
use Rattle.succession_laws.specs.Successions.{RepliesCome, IsRival, IsFollowed}
use Rattle.succession_laws.proofs.Asking.{AfterGet}
use Rattle.succession_laws.proofs.Coming.{IsIdle, IsLeft}
use Rattle.succession_laws.proofs.Coming as coming
use Rattle.release_laws.specs.Releases.{OthersRenewAround, ReleasesAreFollowed, ReleasesAreTold, release_bound}
use Rattle.release_laws.proofs.Accepted.{R, IsFree, released, is_free, lasts, none_writes, same_since}
use Rattle.release_laws.proofs.Answered.{meets, late_get}
use Rattle.release_laws.proofs.Setting.{none_succeeds, others_since, calm_since, times_since}
use Rattle.silence_laws.proofs.Waiting.{beats_rise}

module _ (doc : Doc) (near far b e : ℕ) (q : Identity) (l : LeadsUntil doc near far b e q) (s : Bears doc near far b e q) (stop : IsStopped doc b e q) (rel : IsReleased doc near far b e q) where
  abbrev above : List Entry
  above = released doc near far b e q l s stop rel

  abbrev top : Option Held
  top = stored election above

  free : IsFree doc near far b e q l s stop rel above
  free = is_free doc near far b e q l s stop rel

  -- an entry above the release
  abbrev Late : Entry → List Entry → Type 0
  Late x T = IsTail above T

  -- ---- another controller, while no other controller acts

  module _ (n : ℕ) (within : n ≤ e) (idle : IsIdle doc n q) (c : Identity) (role : is_controller doc c.process ≡ true) (other : c.process ≡ q.process → ⊥) where
    stays : (x : Entry) (T : List Entry) → IsTail (x ∷ T) (history doc (suc n)) → IsTail above T → x.beat + far ≤ n → stored election T ≡ top
    stays x T at low soon = same_since doc near far b e q l s stop rel n within idle x.beat soon T low (tail_trans T (x ∷ T) (history doc (suc x.beat)) (inr (tail_all T)) (in_own_beat doc (suc n) x T at))

    left : IsLeft doc near far b e q l s n within top Late c role other (b + 2 * far)
    left = record {
      y = free.y;
      lease = free.lease;
      object = free.object;
      top_is = free.top;
      stays = λ x T at step low soon. stays x T at low soon;
      later = λ x z T Z low at upto. tail_trans above T Z low (tail_trans T (x ∷ T) Z (inr (tail_all T)) at);
      late_get = late_get doc near far b e q l s stop rel c role other;
      late_or = λ w reply T y o high get way late soon. ⊎_elim inl (λ early. absurd (omega (arith, early.0, way.most, late)))
          (meets doc near far b e q l s stop rel c role other w reply T y o (tail_trans T (history doc (suc n)) (history doc (suc e)) high (later_tail doc (suc n) (suc e) (omega (arith, within)))));
      none_writes = λ x T at step actor low soon writes. none_writes doc near far b e q l s stop rel n within idle x T at low writes soon (stays x T at low soon);
    }

  -- ---- nobody else acts only so long

  module _ (p slow fast wait : ℕ) (rival : IsRival doc b e q p slow fast) (wait_is : IsEnough slow (longest_wait doc p) wait) (within : b + wait + (6 * far - 1) ≤ e) (renew : OthersRenewAround doc near far b e q) (replies : RepliesCome doc far (suc b) q.process) where
    abbrev n : ℕ
    n = b + wait + (6 * far - 1)

    a_way : 1 ≤ far
    a_way = omega (arith, s.one, s.ways)

    room : b + far ≤ e
    room = omega (arith, within, a_way)

    -- no look finds the Lease held
    greatest : IsGreatest (0 + 2 * near) (wait + 2 * far) 0 0
    greatest beats at_most = omega (arith, at_most.0 0 (omega arith))

    -- what is sent sooner is on a record that the release took away
    sooner : (r : Identity) (role : is_controller doc r.process ≡ true) (other : r.process ≡ q.process → ⊥) (x : Entry) (T : List Entry) (request : Request) (f : AfterGet doc near far b e q l s r role other x T request) → x.beat < suc b → suc b ≤ x.beat + 2 * far → ⊥
    sooner r role other x T request f lt le = omega (arith, rel.least, s.one, f.way.least, lt, rise)
      where
        rise : rel.at ≤ f.o.e.beat
        rise =
            beats_rise doc e f.o.e f.o.low f.answered (entry rel.at 2 q (Answers rel.call (Done rel.version) rel.comes (Some rel.object))) (R doc near far b e q l s stop rel)
            (late_get doc near far b e q l s stop rel r role other x T request f (omega (arith, le)))

    pub followed : IsFollowed doc b n e q
    followed =
        coming.followed doc near far b e q l s n within top Late p slow fast wait 0 0 0 0 (b + 2 * far) rival wait_is (λ m le. omega arith) (omega arith) greatest
        (lasts doc near far b e q l s stop rel p) (omega (arith, a_way)) (omega (arith, a_way)) (left n within)
        (suc b) b (omega arith) (omega arith) (none_succeeds doc near far b e q l s renew) sooner
        (λ r role other j success.
        leaders_stay doc near far (suc b) e s.sound s.rules (calm_since doc near far b e q l s renew stop rel replies room) (times_since doc near far b e q l s renew) s.one s.ways s.end r role
        (others_since doc near far b e q l s renew r.process role other) (renew.after r role other) j success)

-- ---- the law

pub releases_are_followed : ReleasesAreFollowed
releases_are_followed doc near far b e q l s stop rel replies renew p slow fast wait rival wait_is within = followed doc near far b e q l s stop rel p slow fast wait rival wait_is within renew replies

-- in whole beats
pub releases_are_told : ReleasesAreTold
releases_are_told doc near far b e q l s stop rel replies renew p slow fast rival some within =
    let same : b + div_ceil (longest_wait doc p) slow + (6 * far - 1) ≡ b + release_bound doc far p slow = omega arith in
    subst (λ n. IsFollowed doc b n e q) same
    (releases_are_followed doc near far b e q l s stop rel replies renew p slow fast (div_ceil (longest_wait doc p) slow) rival (rounded_is slow (longest_wait doc p) some).0 (omega (arith, within)))
