-- The first look of a candidate, where its messages pass from beat 0 on.
use Rattle.std.proofs.Common.{◌≡◌, ◌≤◌, ℕ, suc, ◌+◌, ◌*◌, true, false, List, ◌∷◌, Option, Some, sym, ◌∙◌, subst, inr, arith}
use Rattle.kube_base.specs.declared.numbers.Version.{Version}
use Rattle.kube_objects.specs.Answers.{lease_in, as_kind, answer_get}
use Rattle.kube_objects.specs.Document.{Doc, is_controller}
use Rattle.kube_objects.specs.Elector.{leads}
use Rattle.kube_objects.specs.Entry.{Entry, Identity, Call, Sends, actor_of}
use Rattle.kube_objects.specs.Process.{alive}
use Rattle.kube_objects.specs.Stored.{election, key_of, Held}
use Rattle.kube_objects.specs.declared.call.Reply.{Reply}
use Rattle.kube_objects.specs.declared.call.Reply.TheVariants.{Done}
use Rattle.kube_objects.specs.declared.call.Request.TheVariants.{Get}
use Rattle.kube_objects.specs.Own.{ReleasesByStop}
use Rattle.history.specs.History.{history, at_turn}
use Rattle.history.specs.Safe.{Acts}
use Rattle.history.specs.Steps.{restart}
use Rattle.history_laws.proofs.Tailed.{tail_all, tail_trans}
use Rattle.history_laws.specs.Tails.{IsTail}
use Rattle.span_laws.specs.Looks.{IsGreatest}
use Rattle.span_laws.specs.Spans.{RunsAtLeast, RunsAtMost, IsEnough, IsNeeded}
use Rattle.takeover_laws.proofs.Writers.{writer_acts}
use Rattle.takeover_laws.specs.Calm.{IsSteady, IsInTime, WritesElection}
use Rattle.calm_laws.proofs.Asked.{IsWrite, reason_key, reason_of}
use Rattle.calm_laws.proofs.Looks.{object_of}
use Rattle.calm_laws.proofs.Origins.{Origin}
use Rattle.calm_laws.proofs.Replies.{wrote_by}
use Rattle.takeover_laws.specs.Waits.{longest_wait, shortest_wait}
use Rattle.calm_laws.specs.Bounds.{LastsFor}
use Rattle.calm_laws.proofs.First as first

module _ (doc : Doc) (rules : ReleasesByStop doc) (near far e n : ℕ) (one : 1 ≤ near) (ways : near ≤ far) (within : n ≤ e) (q : Identity) (role : is_controller doc q.process ≡ true)
    (steady : IsSteady doc near far 0 e q.process) (my_time : IsInTime doc far 0 e q.process) (none : (k : ℕ) → 0 ≤ k → k ≤ n → Acts doc q k → ⊥) (led : (h : List Entry) → IsTail h (history doc (suc n)) → leads q h ≡ false)
    (lasting : ℕ) (top : Option Held) (lasts : LastsFor doc q.process lasting (object_of top)) (K : ℕ) (some : 1 ≤ K)
    (given : (w : Call) (reply : Reply) (T : List Entry) (y : ℕ) → Origin doc q w reply T y → IsTail T (history doc (suc n)) → w.request ≡ Get election → K ≤ y → y + far ≤ n → reply ≡ answer_get (as_kind lease_in top))
    (no_writes : (x : Entry) (T : List Entry) (call : Call) (arrives : Option ℕ) → IsTail (x ∷ T) (history doc (suc n)) → x.actor ≡ actor_of q → x.fact ≡ Sends call arrives → IsWrite call.request → K ≤ x.beat + 2 * far → x.beat + 2 * far ≤ n → ⊥)
    (slow fast wait needed from : ℕ) (low_from : from ≤ K) (runs_least : RunsAtLeast doc q.process from e slow) (runs_most : RunsAtMost doc q.process from e fast)
    (waits : 1 ≤ longest_wait doc q.process) (wait_is : IsEnough slow (longest_wait doc q.process) wait) (needed_is : IsNeeded fast (shortest_wait doc q.process) needed)
    (enough most : ℕ) (enough_is : IsEnough slow lasting enough) (most_is : IsGreatest (needed + 2 * near) (wait + 2 * far) enough most)
    (G : ℕ) (after : K + wait ≤ G + 1) (low_wait : from + wait ≤ G) (room : G + most + 4 * far ≤ n) where
  -- its writes aren't accepted: it would act
  refused : (w : Call) (reply : Reply) (T : List Entry) (y : ℕ) → (o : Origin doc q w reply T y) → IsTail T (history doc (suc n)) → IsWrite w.request → o.e.beat + far ≤ n → (version : Version) → reply ≡ Done version → ⊥
  refused w reply T y o high write soon version done =
      writer_acts doc rules near far 0 e n q role steady my_time within one none o.e o.low (tail_trans (o.e ∷ o.low) T (history doc (suc n)) o.answered high) o.actor
      (subst (WritesElection 0) (sym o.fact) (omega arith, wrote_by w.request o.low version write is_key (sym o.reply_is ∙ done))) soon
    where
      sending : IsTail (o.begun.f ∷ o.begun.before) (history doc (suc n))
      sending = tail_trans (o.begun.f ∷ o.begun.before) T (history doc (suc n)) o.begun.position high

      unled : leads q o.begun.before ≡ false
      unled = led o.begun.before (tail_trans o.begun.before (o.begun.f ∷ o.begun.before) (history doc (suc n)) (inr (tail_all o.begun.before)) sending)

      is_key : key_of w.request ≡ election
      is_key = reason_key doc o.begun.f.beat q w.request o.begun.before (reason_of doc rules (suc n) q role o.begun.f o.begun.before w o.begun.arrives sending o.begun.actor o.begun.fact unled o.begun.opens).0

  pub none_first : alive q.process (restart doc G q.process (at_turn doc q.process G)) ≡ Some q.incarnation → ⊥
  none_first =
      first.none_first doc rules near far 0 e n one ways within q role steady my_time none led lasting top lasts K (omega (arith, some))
      (λ w reply T y o high get late to soon. given w reply T y o high get late to) (λ w reply T y o high write late to. refused w reply T y o high write)
      (λ x T call arrives at actor fact opens. no_writes x T call arrives at actor fact) slow fast wait needed from low_from runs_least runs_most waits wait_is needed_is
      enough most enough_is most_is G after low_wait room (λ call k before. absurd (omega (arith, before)))
