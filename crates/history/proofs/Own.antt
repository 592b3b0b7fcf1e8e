-- Under the project's own rules the steps of a beat, and the lease premise, are those that ask for no rule.
use Rattle.std.proofs.Common.{◌≡◌, ℕ, ◌+◌, ◌*◌, ◌&&◌, nat_lt, List, ◌∷◌, ap, ◌∙◌}
use Rattle.kube_objects.specs.declared.call.Reply.{Reply}
use Rattle.kube_objects.specs.declared.rules.ReleaseRule.TheVariants as releases
use Rattle.kube_objects.specs.Document.{Doc, end_beat, beat_micros, call_timeout, retry_period, renew_deadline}
use Rattle.kube_objects.specs.Elector.{follow_on, leads, release}
use Rattle.kube_objects.specs.Entry.{Entry, Identity, Call, Stops, entry}
use Rattle.kube_objects.specs.Own.{ReleasesByStop}
use Rattle.kube_objects.specs.Process.{release_begun}
use Rattle.kube_objects.specs.Turns.{react}
use Rattle.kube_objects.proofs.Own.{release_begun-own}
use Rattle.history.specs.Premise.{least_rate, longest, late_calls, calls_late, stall_by, span_by, waited_by, is_long, lease_part, answers_come, lease_premise}
use Rattle.history.specs.Steps.{released, stop_as, elector_react}

module _ (doc : Doc) (own : ReleasesByStop doc) where
  pub stop-own : (k : ℕ) (q : Identity) (before h : List Entry)
      → stop_as doc.settings.rules.release doc k q before h ≡ released doc k q (release doc q k before) (entry k 1 q Stops ∷ h)
  stop-own k q before h = ap (λ r. stop_as r doc k q before h) own.release

  pub react-own : (k : ℕ) (q : Identity) (call : Call) (reply : Reply) (h : List Entry)
      → elector_react doc k q call reply (release_begun doc.settings.rules.release call.kind) h
      ≡ react doc k q (leads q h) (follow_on doc q k call.kind call.request reply h) h
  react-own k q call reply h = ap (λ o. elector_react doc k q call reply o h) (release_begun-own doc own call.kind)

  pub no_call_late : calls_late doc ≡ 0
  no_call_late = ap (λ r. late_calls r doc.settings.rules.in_release) own.release ∙ ap (late_calls releases.Stop) own.still

  pub is_long-own : (high p : ℕ) → is_long doc high p ≡
      nat_lt
      (longest doc p * (beat_micros doc * high) * least_rate doc p (end_beat doc)
      + (call_timeout doc p + retry_period doc p + renew_deadline doc p) * high)
      (waited_by doc.settings.rules.respect doc p * least_rate doc p (end_beat doc))
  is_long-own high p =
      ap
      (λ n. nat_lt
      (stall_by n doc p * (beat_micros doc * high) * least_rate doc p (end_beat doc) + span_by n doc p * high)
      (waited_by doc.settings.rules.respect doc p * least_rate doc p (end_beat doc)))
      no_call_late

  pub premise-own : lease_premise doc ≡ lease_part doc
  premise-own = ap (λ r. answers_come r doc && lease_part doc) own.still
