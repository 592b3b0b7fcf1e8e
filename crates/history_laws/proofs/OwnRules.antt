-- The project's own rules change nothing.
use Rattle.std.proofs.Common.{◌+◌, ◌*◌, nat_lt, ap, ◌∙◌}
use Rattle.kube_objects.specs.Document.{end_beat, beat_micros, call_timeout, retry_period, renew_deadline}
use Rattle.kube_objects.proofs.Own.{is_late-own, expire_as-own, retry_at-own, respected-own, acts-own, end_term-own}
use Rattle.kube_objects.proofs.Own.{has_settled-own, pass_period-own, heard-own, cleaned-own, tainted-own, has_token-own, evict-own, evicted-own}
use Rattle.kube_objects.proofs.Stalls.{never_stalled, arrives_unstalled}
use Rattle.history.proofs.Own.{stop-own, react-own, is_long-own, premise-own}
use Rattle.history.proofs.Ticks.{ticks_go}
use Rattle.history.specs.Premise.{least_rate, longest, waited_by}
use Rattle.history_laws.specs.Own.{OwnRulesChangeNothing}

pub own_rules_change_nothing : OwnRulesChangeNothing
own_rules_change_nothing doc own none = (
  λ at_once by_run judges empty no_work evicts. record {
    ticks = λ k p h. ticks_go doc k p h (never_stalled doc k none);
    settles = has_settled-own doc at_once;
    passes = pass_period-own doc no_work;
    hears = heard-own doc by_run;
    cleans = cleaned-own doc judges;
    taints = tainted-own doc judges;
    tokens = has_token-own doc empty;
    evicts = evict-own doc evicts;
    evictions = evicted-own doc evicts;
  },
  λ elects. (
    record {
      arrives = λ p k h. arrives_unstalled doc p k h none;
      is_late = is_late-own doc own;
      expires = expire_as-own doc own;
      retries = retry_at-own doc elects;
      respects = respected-own doc elects;
      acts = acts-own doc own;
      ends = end_term-own doc own;
      stops = stop-own doc own;
      reacts = react-own doc own;
    },
    record {
      long = λ high p. is_long-own doc own high p ∙ ap (λ r.
          nat_lt
          (longest doc p * (beat_micros doc * high) * least_rate doc p (end_beat doc)
          + (call_timeout doc p + retry_period doc p + renew_deadline doc p) * high)
          (waited_by r doc p * least_rate doc p (end_beat doc))) elects.respect;
      all = premise-own doc own;
    },
  ),
)
