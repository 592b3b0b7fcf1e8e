-- The numbers go by the longest and the shortest wait alone.
use Rattle.std.proofs.Common.{◌≡◌, ℕ, ◌+◌, ◌-◌, ◌*◌, ◌/◌, ◌==◌, max, List, [], ◌∷◌, All, Option, None, Some, refl, ap, ◌∙◌, arith}
use Rattle.std.proofs.Math.Nat.{mul_right_comm}
use Rattle.std.proofs.lemmas.List.Elements.{All-head, All-tail}
use Rattle.kube_objects.specs.declared.script.Proc.{Proc}
use Rattle.kube_objects.specs.Document.{of_millis, of_seconds}
use Rattle.calm_laws.specs.Bounds.{takeover_beats}
use Rattle.settle_laws.specs.Settles.{settle_beats}
use Rattle.silence_laws.specs.Least.{takes_beats}
use Rattle.succession_laws.specs.Successions.{ways_after, succession_beats}
use Rattle.release_laws.specs.Releases.{release_beats}
use Rattle.lens_bounds.specs.declared.calm.Calm.{Calm}
use Rattle.lens_bounds.specs.declared.calm.Waits.{Waits}
use Rattle.lens_bounds.specs.declared.elections.Handover.{Handover}
use Rattle.lens_bounds.specs.declared.elections.Election.{Election}
use Rattle.lens_bounds.specs.Elections.{enough, needed, longest_by, shortest_by, retry, number_if, lead, stay, gets, acts_on, as_respected, longest_term, longest_lease, handed_over, with_other, others_from, others, followers, election_by, election_of}
use Rattle.bounds_laws.specs.Alike.{AreAlike, AlikeTellTheSame, UpToIsBetween}

module _ (c : Calm) (v w : Waits) where
  abbrev one : Calm
  one = record c { waits = v }

  abbrev two : Calm
  two = record c { waits = w }

  -- the handover to a candidate with these waits in beats
  abbrev by_waits : ℕ → ℕ → Proc → Proc → ℕ → ℕ → Handover
  by_waits term seconds leader p wait least = record {
    crash_least = takes_beats c.near c.far least wait (needed c (of_seconds leader.lease_seconds)) + 3 * c.near - (retry c leader + gets c);
    crash_most = succession_beats c.near c.far wait least (enough c (of_seconds leader.lease_seconds)) (ways_after c.fast_renew c.far);
    stop_most = release_beats c.far wait;
    leads = takeover_beats c.near c.far 0 (max (of_millis p.timeout_millis / c.slow) 0) wait least (enough c (of_seconds leader.lease_seconds));
    stays_from = settle_beats c.near c.far (acts_on c term) (acts_on c term) (of_millis p.timeout_millis / c.slow) wait least (enough c (of_seconds seconds));
  }

  handed_alike : (term seconds : ℕ) (leader p : Proc) → AreAlike v w p → handed_over one term seconds leader p ≡ handed_over two term seconds leader p
  handed_alike term seconds leader p alike =
      ap (λ long. by_waits term seconds leader p (enough c long) (needed c (shortest_by v p.retry_millis))) alike.0
      ∙ ap (λ short. by_waits term seconds leader p (enough c (longest_by w p.retry_millis)) (needed c short)) alike.1

  abbrev to_one : ℕ → ℕ → Proc → Proc → Handover
  to_one term seconds leader p = handed_over one term seconds (as_respected c.respect p.lease_seconds leader) p

  abbrev to_two : ℕ → ℕ → Proc → Proc → Handover
  to_two term seconds leader p = handed_over two term seconds (as_respected c.respect p.lease_seconds leader) p

  others_alike : (term seconds place : ℕ) (leader : Proc) (at : ℕ) (ps : List Proc) (found : Option Handover) → All (AreAlike v w) ps
      → others_from one term seconds place leader at ps found ≡ others_from two term seconds place leader at ps found
  others_alike term seconds place leader at [] found alike = refl
  others_alike term seconds place leader at (p ∷ ps) found alike =
      ap (λ h. others_from one term seconds place leader (at + 1) ps (with_other (at == place) found h)) (handed_alike term seconds (as_respected c.respect p.lease_seconds leader) p (All-head (AreAlike v w) p ps alike))
      ∙ others_alike term seconds place leader (at + 1) ps (with_other (at == place) found (to_two term seconds leader p)) (All-tail (AreAlike v w) p ps alike)

  followers_alike : (leader : Proc) (ps : List Proc) (found : Option Handover) → AreAlike v w leader → followers one leader ps found ≡ followers two leader ps found
  followers_alike leader ps None alike = handed_alike (longest_term ps) (longest_lease ps) leader leader alike
  followers_alike leader ps (Some h) alike = refl

  elections_alike : (place : ℕ) (leader : Proc) (ps : List Proc) → AreAlike v w leader → All (AreAlike v w) ps → election_of one place leader ps ≡ election_of two place leader ps
  unfolding election_of
  elections_alike place leader ps own alike =
      ap (election_by one leader ps) (others_alike (longest_term ps) (longest_lease ps) place leader 0 ps None alike) ∙ by_followers (others two place leader ps)
    where
      by_followers : (found : Option Handover) → election_by one leader ps found ≡ election_by two leader ps found
      by_followers None = ap (λ h. by_one None h) (followers_alike leader ps None own)
        where
          by_one : Option Handover → Handover → Election
          by_one found h = record (election_by two leader ps found) {
            leads = number_if (lead two ps) (h.leads * c.beat_millis);
            stays_from = number_if (stay two ps) (h.stays_from * c.beat_millis);
          }
      by_followers (Some h) = refl

pub alike_tell_the_same : AlikeTellTheSame
alike_tell_the_same c v w place leader ps own alike = elections_alike c v w place leader ps own alike

pub up_to_is_between : UpToIsBetween
unfolding of_millis
up_to_is_between millis most p is = (omega (arith, mul_right_comm p.retry_millis 1000000000 most, ap (λ n. n * 1000000000) is), omega arith)
