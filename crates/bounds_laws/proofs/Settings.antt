-- What a document's settings bear, where whoever leads stays.
use Rattle.std.proofs.Common.{◌≡◌, ◌<◌, ◌≤◌, ℕ, zero, suc, ◌+◌, ◌-◌, ◌*◌, ◌&&◌, Bool, true, List, [], ◌∷◌, All, slice_get, Some, refl, sym, ap, ◌∙◌, subst, arith}
use Rattle.std.specs.Int.{div_ceil}
use Rattle.std.specs.List.{list_all}
use Rattle.std.proofs.lemmas.Bool.{leb-true, ltb-true}
use Rattle.std.proofs.lemmas.List.Elements.{All-head, All-tail}
use Rattle.kube_objects.specs.declared.rules.ReleaseActing.{ReleaseActing}
use Rattle.kube_objects.specs.declared.rules.ReleaseActing.TheVariants as acting
use Rattle.kube_objects.specs.declared.rules.ReleaseRule.{ReleaseRule}
use Rattle.kube_objects.specs.declared.rules.ReleaseRule.TheVariants as releases
use Rattle.kube_objects.specs.declared.rules.RespectRule.{RespectRule}
use Rattle.kube_objects.specs.declared.rules.RespectRule.TheVariants.{Record, Own}
use Rattle.kube_objects.specs.declared.script.Proc.{Proc}
use Rattle.kube_objects.specs.Document.{Doc, end_beat, field, is_controller, of_millis, of_seconds, retry_period, renew_deadline}
use Rattle.kube_objects.specs.Entry.{Identity}
use Rattle.kube_objects.specs.Own.{ReleasesByStop}
use Rattle.history_laws.proofs.Plainly.{true_is, some_is, none_is, and_left, and_right}
use Rattle.span_laws.proofs.Quotients.{rounded_is}
use Rattle.takeover_laws.specs.Calm.{IsInTime}
use Rattle.takeover_laws.specs.Waits.{longest_wait, blocked_for}
use Rattle.stay_laws.specs.Stays.{RenewsInTime}
use Rattle.silence_laws.specs.Silence.{Bears}
use Rattle.succession_laws.specs.Successions.{OthersRenew}
use Rattle.release_laws.specs.Releases.{OthersRenewAround}
use Rattle.document_laws.proofs.SoundDocuments.{sound-document}
use Rattle.script_reader.specs.Lawful.{IsLawful, IsLawfulDoc}
use Rattle.lens_bounds.specs.declared.calm.Calm.{Calm}
use Rattle.lens_bounds.specs.Documents.{is_stop, is_still, calm_of}
use Rattle.lens_bounds.specs.Elections.{IsCalm, retry, replies_count, renews, outlasts, stays_by, as_respected, shortest_lease, all_count, lead, all_stay, stay}
use Rattle.lens_bounds.proofs.Reaches.{calm-is}
use Rattle.bounds_laws.specs.Undisturbed.{far_of}
use Rattle.bounds_laws.proofs.Reaching.{Standing, at_place}
use Rattle.bounds_laws.proofs.Folding.{shortest_within}
use Rattle.bounds_laws.proofs.Waiting.{some_wait, blocked_is}
use Rattle.bounds_laws.proofs.Steady.{runs_least, runs_most, some_far}

each_of : (f : Proc → Bool) (ps : List Proc) (i : ℕ) (x : Proc) → list_all f ps ≡ true → slice_get ps i ≡ Some x → f x ≡ true
each_of f [] i x all is = absurd (none_is x is)
each_of f (p ∷ ps) zero x all is = ap f (sym (some_is p x is)) ∙ and_left (f p) (list_all f ps) all
each_of f (p ∷ ps) (suc i) x all is = each_of f ps i x (and_right (f p) (list_all f ps) all) is

-- the numbers are there where leaders give up their Leases at stops alone
stop_is : (rule : ReleaseRule) → is_stop rule ≡ true → rule ≡ releases.Stop
stop_is releases.Stop is = refl
stop_is releases.Own is = absurd (true_is (sym is))
stop_is releases.Checked is = absurd (true_is (sym is))
stop_is releases.Reread is = absurd (true_is (sym is))

still_is : (rule : ReleaseActing) → is_still rule ≡ true → rule ≡ acting.Still
still_is acting.Still is = refl
still_is acting.Acts is = absurd (true_is (sym is))

rules_of : (doc : Doc) → (calm_of doc).releases_by_stop ≡ true → ReleasesByStop doc
rules_of doc is = record {
  release = stop_is doc.settings.rules.release (and_left (is_stop doc.settings.rules.release) (is_still doc.settings.rules.in_release) is);
  still = still_is doc.settings.rules.in_release (and_right (is_stop doc.settings.rules.release) (is_still doc.settings.rules.in_release) is);
}

pub rules_where_leads : (doc : Doc) → lead (calm_of doc) doc.controllers ≡ true → ReleasesByStop doc
rules_where_leads doc is = rules_of doc (and_left (calm_of doc).releases_by_stop (all_count (calm_of doc) doc.controllers) is)

pub rules_where_stays : (doc : Doc) → stay (calm_of doc) doc.controllers ≡ true → ReleasesByStop doc
rules_where_stays doc is = rules_of doc (and_left (calm_of doc).releases_by_stop (all_stay (calm_of doc) doc.controllers) is)

each_lawful : (ps : List Proc) (i : ℕ) (x : Proc) → All IsLawful ps → slice_get ps i ≡ Some x → IsLawful x
each_lawful [] i x all is = absurd (none_is x is)
each_lawful (p ∷ ps) zero x all is = subst IsLawful (some_is p x is) (All-head IsLawful p ps all)
each_lawful (p ∷ ps) (suc i) x all is = each_lawful ps i x (All-tail IsLawful p ps all) is

some_millis : (n : ℕ) → 1 ≤ n → 1 ≤ of_millis n
unfolding of_millis
some_millis n some = omega (arith, some)

seconds_more : (m n : ℕ) → m ≤ n → of_seconds m ≤ of_seconds n
unfolding of_seconds
seconds_more m n le = omega (arith, le)

-- a leader stays whose record others respect for so many seconds
record StaysFor (c : Calm) (x : Proc) (seconds : ℕ) : Type 0 where
  replies : replies_count c x ≡ true
  renewal : renews c x ≡ true
  lasts : (retry c x + 5 * c.far - c.near) * c.fast < of_seconds seconds

stays_for : (c : Calm) (x : Proc) → stays_by c x ≡ true → StaysFor c x x.lease_seconds
stays_for c x is = record {
  replies = and_left (replies_count c x) (renews c x) (and_left (replies_count c x && renews c x) (outlasts c x) is);
  renewal = and_right (replies_count c x) (renews c x) (and_left (replies_count c x && renews c x) (outlasts c x) is);
  lasts = ltb-true ((retry c x + 5 * c.far - c.near) * c.fast) (of_seconds x.lease_seconds) (and_right (replies_count c x && renews c x) (outlasts c x) is);
}

stays_respected : (c : Calm) (rule : RespectRule) (seconds : ℕ) (x : Proc) → stays_by c (as_respected rule seconds x) ≡ true → StaysFor c x (as_respected rule seconds x).lease_seconds
stays_respected c Record seconds x is = stays_for c x is
stays_respected c Own seconds x is =
    let s : StaysFor c (record x { lease_seconds = seconds }) seconds = stays_for c (record x { lease_seconds = seconds }) is in
    record { replies = s.replies; renewal = s.renewal; lasts = s.lasts }

-- which is no longer than it blocks any of them
respected_more : (rule : RespectRule) (x : Proc) (least seconds : ℕ) → least ≤ seconds → (as_respected rule least x).lease_seconds ≤ (as_respected rule seconds x).lease_seconds
respected_more Record x least seconds le = omega arith
respected_more Own x least seconds le = le

module _ (doc : Doc) (lawful : IsLawfulDoc doc) where
  abbrev pub c : Calm
  c = calm_of doc

  pub calm : IsCalm (calm_of doc)
  calm = calm-is doc lawful

  pub some_slow : 1 ≤ (calm_of doc).slow
  some_slow = omega (arith, calm.slow)

  pub some_fast : 1 ≤ (calm_of doc).fast
  some_fast = omega (arith, calm.fast)

  module _ (p : ℕ) (role : is_controller doc p ≡ true) where
    abbrev pub place : Standing doc.controllers doc.kubelets p
    place = at_place doc p role

    abbrev pub x : Proc
    x = place.proc

    pub own_lawful : IsLawful x
    own_lawful = each_lawful doc.controllers p x lawful.controllers place.own

    pub period_some : 1 ≤ retry_period doc p
    period_some = subst (λ o. 1 ≤ of_millis (field (λ (y : Proc). y.retry_millis) 0 o)) (sym place.whole) (some_millis x.retry_millis own_lawful.retry_least)

    pub waits : 1 ≤ longest_wait doc p
    waits = some_wait doc lawful p role period_some

    pub lasts_some : 1 ≤ renew_deadline doc p
    lasts_some = subst (λ o. 1 ≤ of_millis (field (λ (y : Proc). y.renew_millis) 0 o)) (sym place.whole) (some_millis x.renew_millis own_lawful.renew_least)

    -- ---- whose replies count

    module _ (counts : replies_count (calm_of doc) x ≡ true) where
      pub in_time : (a e : ℕ) → IsInTime doc (far_of doc) a e p
      in_time a e = record {
        fast = (calm_of doc).fast;
        runs = runs_most doc lawful p role a e;
        timeout = subst (λ o. 2 * far_of doc * (calm_of doc).fast ≤ of_millis (field (λ (y : Proc). y.timeout_millis) 0 o)) (sym place.whole) (leb-true (2 * far_of doc * (calm_of doc).fast) (of_millis x.timeout_millis) counts);
        deadline = lasts_some;
      }

    -- ---- and whose lead lasts

    module _ (stays : stays_by (calm_of doc) (as_respected (calm_of doc).respect (shortest_lease doc.controllers) x) ≡ true) where
      s : StaysFor (calm_of doc) x (as_respected (calm_of doc).respect (shortest_lease doc.controllers) x).lease_seconds
      s = stays_respected (calm_of doc) (calm_of doc).respect (shortest_lease doc.controllers) x stays

      pub replies : replies_count (calm_of doc) x ≡ true
      replies = s.replies

      abbrev pub wait : ℕ
      wait = div_ceil (retry_period doc p) (calm_of doc).slow

      pub renewal : (4 * far_of doc) * (calm_of doc).fast ≤ renew_deadline doc p
      renewal =
          subst (λ o. (4 * far_of doc) * (calm_of doc).fast ≤ of_millis (field (λ (y : Proc). y.renew_millis) 0 o)) (sym place.whole)
          (leb-true (4 * far_of doc * (calm_of doc).fast) (of_millis x.renew_millis) s.renewal)

      pub lasts : (r : ℕ) → is_controller doc r ≡ true → (wait + 5 * far_of doc - 1) * (calm_of doc).fast < blocked_for doc r p
      lasts r other = omega (arith, least, more, blocked_is doc r p rival x (at_place doc r other).whole place.whole)
        where
          rival : Proc
          rival = (at_place doc r other).proc

          least : (wait + 5 * far_of doc - 1) * (calm_of doc).fast < of_seconds (as_respected (calm_of doc).respect (shortest_lease doc.controllers) x).lease_seconds
          least =
              subst (λ o. (div_ceil (of_millis (field (λ (y : Proc). y.retry_millis) 0 o)) (calm_of doc).slow + 5 * far_of doc - 1) * (calm_of doc).fast < of_seconds (as_respected (calm_of doc).respect (shortest_lease doc.controllers) x).lease_seconds) (sym place.whole) s.lasts

          more : of_seconds (as_respected (calm_of doc).respect (shortest_lease doc.controllers) x).lease_seconds ≤ of_seconds (as_respected (calm_of doc).respect rival.lease_seconds x).lease_seconds
          more =
              seconds_more (as_respected (calm_of doc).respect (shortest_lease doc.controllers) x).lease_seconds (as_respected (calm_of doc).respect rival.lease_seconds x).lease_seconds
              (respected_more (calm_of doc).respect x (shortest_lease doc.controllers) rival.lease_seconds (shortest_within doc.controllers r rival (at_place doc r other).own))

      abbrev pub renews_in_time : (a e i : ℕ) → RenewsInTime doc 1 (far_of doc) a e (record { process = p; incarnation = i })
      renews_in_time a e i = record {
        slow = (calm_of doc).slow;
        fast = (calm_of doc).fast;
        fastest = (calm_of doc).fast;
        wait = wait;
        runs_least = runs_least doc lawful p role a e;
        runs_most = runs_most doc lawful p role a e;
        others = λ r other steady. runs_most doc lawful r other a e;
        wait_is = (rounded_is (calm_of doc).slow (retry_period doc p) some_slow).0;
        deadline = renewal;
        lasts = λ r other steady. lasts r other;
      }

  -- ---- of all controllers

  pub counts_of : lead (calm_of doc) doc.controllers ≡ true → (p : ℕ) (role : is_controller doc p ≡ true) → replies_count (calm_of doc) (x p role) ≡ true
  counts_of is p role =
      each_of (replies_count (calm_of doc)) doc.controllers p (x p role)
      (and_right (calm_of doc).releases_by_stop (all_count (calm_of doc) doc.controllers) is) (place p role).own

  module _ (is : stay (calm_of doc) doc.controllers ≡ true) where
    pub stays_of : (p : ℕ) (role : is_controller doc p ≡ true) → stays_by (calm_of doc) (as_respected (calm_of doc).respect (shortest_lease doc.controllers) (x p role)) ≡ true
    stays_of p role =
        each_of (λ p. stays_by (calm_of doc) (as_respected (calm_of doc).respect (shortest_lease doc.controllers) p)) doc.controllers p (x p role)
        (and_right (calm_of doc).releases_by_stop (all_stay (calm_of doc) doc.controllers) is) (place p role).own

    pub all_in_time : (a e p : ℕ) → is_controller doc p ≡ true → IsInTime doc (far_of doc) a e p
    all_in_time a e p role = in_time p role (replies p role (stays_of p role)) a e

    pub all_renew : (a e : ℕ) (q : Identity) → is_controller doc q.process ≡ true → RenewsInTime doc 1 (far_of doc) a e q
    all_renew a e q role = renews_in_time q.process role (stays_of q.process role) a e q.incarnation

    abbrev pub bears : (b e : ℕ) → e ≤ end_beat doc → (q : Identity) → is_controller doc q.process ≡ true → Bears doc 1 (far_of doc) b e q
    bears b e end q role = record {
      sound = sound-document doc lawful;
      rules = rules_where_stays doc is;
      one = omega arith;
      ways = some_far doc lawful q.process role;
      end = end;
      waits = waits;
      calls = λ p other. all_in_time 0 e p other;
      renews = renews_in_time q.process role (stays_of q.process role) 0 (b - 1) q.incarnation;
      fastest = (calm_of doc).fast;
      clocks = λ p other. runs_most doc lawful p other 0 e;
      lasts = lasts q.process role (stays_of q.process role);
    }

    pub others_renew : (b e : ℕ) (q : Identity) → OthersRenew doc 1 (far_of doc) b e q
    others_renew b e q = record { before = λ r role other. all_renew 0 (b - 1) r role; since = λ r role other. all_renew b e r role }

    pub others_renew_around : (b e : ℕ) (q : Identity) → OthersRenewAround doc 1 (far_of doc) b e q
    others_renew_around b e q = record { before = λ r role other. all_renew 0 (b - 1) r role; after = λ r role other. all_renew (suc b) e r role }
