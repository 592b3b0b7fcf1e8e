-- Where a leader in a calm falls silent, nobody else acts before, and what comes after is a calm.
use Rattle.std.proofs.Common.{◌≡◌, ◌<◌, ◌≤◌, ℕ, ◌+◌, ◌-◌, true, List, ◌∷◌, Option, Some, IfSome, refl, sym, subst, ⊎_elim, arith}
use Rattle.kube_objects.specs.Document.{Doc, is_controller}
use Rattle.kube_objects.specs.Entry.{Entry, Identity, Call, Sends, actor_of}
use Rattle.kube_objects.specs.Wire.{Sent, request_arrival}
use Rattle.kube_objects.specs.Own.{ReleasesByStop}
use Rattle.history.specs.History.{history}
use Rattle.history.specs.Safe.{Acts}
use Rattle.history_laws.specs.Tails.{IsTail}
use Rattle.history_laws.proofs.Order.{entries_are_earlier}
use Rattle.call_laws.proofs.Above.{in_head}
use Rattle.call_laws.proofs.Placing.{messages_travel}
use Rattle.takeover_laws.specs.Acting.{AreInTime}
use Rattle.takeover_laws.specs.Calm.{IsSteady, IsQuiet, IsCalm}
use Rattle.takeover_laws.proofs.Rounds.{sent_is}
use Rattle.silence_laws.specs.Silence.{LeadsUntil, Bears}
use Rattle.succession_laws.specs.Successions.{OthersRenew, RepliesCome}
use Rattle.succession_laws.proofs.Since as since
use Rattle.silence_laws.proofs.Led.{HasLed, acting_led}
use Rattle.silence_laws.proofs.Setting.{request_way, some_b, none_else}

-- ---- messages as facts

-- the beat of a call's sending
pub its_call_sent : (doc : Doc) → ReleasesByStop doc → (m : ℕ) (x : Entry) (T : List Entry) (q : Identity) (call : Call) (arrives : Option ℕ) → IsTail (x ∷ T) (history doc m) → x.actor ≡ actor_of q → x.fact ≡ Sends call arrives → call.sent ≡ x.beat
its_call_sent doc rules m x T q call arrives at actor fact =
    (subst (λ o. IfSome o (λ s. (s.call.sent ≡ x.beat) × (s.arrives ≡ request_arrival doc s.who.process x.beat T))) (sent_is x q call arrives actor fact) (messages_travel doc rules m x T at).0).0

-- ---- the situation

module _ (doc : Doc) (near far b e : ℕ) (q : Identity) (l : LeadsUntil doc near far b e q) (s : Bears doc near far b e q) (renew : OthersRenew doc near far b e q) where
  -- before b nobody else acts
  pub idle_before : (r : Identity) → is_controller doc r.process ≡ true → (r.process ≡ q.process → ⊥) → (k : ℕ) → k < b → Acts doc r k → ⊥
  idle_before r role other k lt acting = let led : HasLed doc r k = acting_led doc s.rules r k acting in none_else doc near far b e q l s renew.before r role other led.j (omega (arith, led.to, lt)) led.success

  -- so the others are steady from b on as well, and what comes after b is a calm
  pub others_since : (p : ℕ) → is_controller doc p ≡ true → (p ≡ q.process → ⊥) → IsSteady doc near far b e p
  others_since = since.others_since doc near far b e q l s b (some_b doc near far b e q l s) (omega (arith, l.within)) idle_before

  pub calm_since : IsQuiet doc b e q.process → RepliesCome doc far b q.process → b + far ≤ e → IsCalm doc near far b e
  calm_since quiet replies room =
      since.calm_since doc near far b e q l s b (some_b doc near far b e q l s) (omega (arith, l.within)) idle_before quiet replies (omega (arith, room))
      by_way
    where
      by_way : (x : Entry) (T : List Entry) → IsTail (x ∷ T) (history doc b) → (m : Sent) → x.actor ≡ actor_of m.who → x.fact ≡ Sends m.call m.arrives → m.who.process ≡ q.process → is_controller doc m.who.process ≡ true → (y : ℕ) → m.arrives ≡ Some y → y < b + far
      by_way x T at m actor fact same role y arrives =
          omega (
            arith,
            some_b doc near far b e q l s,
            early,
            (request_way doc s.rules near far (b - 1) m.who.process (subst (IsSteady doc near far 0 (b - 1)) (sym same) l.steady) b x T m.who m.call m.arrives at role refl actor fact early y arrives
                (λ j low high soon. l.goes j (omega (arith, soon, early, room, some_b doc near far b e q l s)))).most,
          )
        where
          early : x.beat ≤ b - 1
          early = ⊎_elim (λ lt. omega (arith, lt)) (λ first. omega (arith, first.0)) (entries_are_earlier doc b x (in_head x T (history doc b) at))

  pub times_since : AreInTime doc near far b e
  times_since = since.times_since doc near far b e q l s b (some_b doc near far b e q l s) (omega (arith, l.within)) idle_before
