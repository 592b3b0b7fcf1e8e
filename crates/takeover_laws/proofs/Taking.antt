-- While no election write is accepted what is stored stays, and a write on it is accepted: so somebody acts.
use Rattle.std.proofs.Common.{◌≡◌, ◌≤◌, ℕ, suc, ◌+◌, ◌*◌, true, cond, List, ◌∷◌, Option, Some, None, IfSome, refl, sym, ap, ◌∙◌, subst, inr, arith}
use Rattle.std.proofs.lemmas.Bool.{eq-eqb}
use Rattle.kube_base.specs.declared.numbers.Version.{Version}
use Rattle.kube_objects.specs.declared.call.Request.{Request}
use Rattle.kube_objects.specs.declared.call.Request.TheVariants.{Create, Update}
use Rattle.kube_objects.specs.declared.object.Object.TheVariants as object
use Rattle.kube_objects.specs.declared.call.Reply.TheVariants.{Done, Conflict}
use Rattle.kube_objects.specs.Answers.{answer, answer_over, written, written_over, if_done}
use Rattle.kube_objects.specs.Document.{Doc, end_beat, is_controller}
use Rattle.kube_objects.specs.Entry.{Entry, Identity, Call, Sends, Answers, actor_of, entry}
use Rattle.kube_objects.specs.Newest.{has}
use Rattle.kube_objects.specs.Stored.{Held, election, request_write, at_key, stored, next_version}
use Rattle.kube_objects.specs.Wire.{request_arrival, reply_arrival}
use Rattle.history.specs.History.{history}
use Rattle.history.specs.Sound.{IsSound}
use Rattle.history_laws.specs.Tails.{IsTail}
use Rattle.history_laws.proofs.Tailed.{tail_all, tail_trans, later_tail}
use Rattle.call_laws.specs.Answering.{with_events}
use Rattle.call_laws.proofs.Answering.{before_events}
use Rattle.call_laws.proofs.Placing.{messages_travel}
use Rattle.kube_objects.specs.Own.{ReleasesByStop}
use Rattle.takeover_laws.specs.Acting.{AreInTime, NobodyActs}
use Rattle.takeover_laws.specs.Calm.{IsSteady, IsCalm, WritesElection}
use Rattle.takeover_laws.specs.Rounds.{IsRound}
use Rattle.takeover_laws.specs.Taking.{FitsStored, TakeoversEndInActing}
use Rattle.takeover_laws.proofs.Records.{no_write, record_stays}
use Rattle.takeover_laws.proofs.Rounds.{rounds_in, sent_is}

-- a request that fits what is stored is accepted
pub fits_writes : (r : Request) (h : List Entry) (o : Option Held) → stored election h ≡ o → FitsStored o r → has (at_key election (request_write r (written r h))) ≡ true
fits_writes (Update key version lease) h (Some x) is fits =
    subst (λ key. has (at_key election (request_write (Update key version lease) (written (Update key version lease) h))) ≡ true) (sym fits.0)
    (ap (λ o. has (at_key election (request_write (Update election version lease) (written_over o (Update election version lease) (answer_over (next_version h) o (Update election version lease)))))) is
    ∙ ap (λ b. has (at_key election (request_write (Update election version lease) (if_done (cond b (Done (next_version h)) (Conflict x.version)) (object.Lease lease))))) (eq-eqb x.version.0 version.0 (ap (λ (v : Version). v.0) (sym fits.1))))
fits_writes (Create key lease) h None is fits =
    subst (λ key. has (at_key election (request_write (Create key lease) (written (Create key lease) h))) ≡ true) (sym fits)
    (ap (λ o. has (at_key election (request_write (Create election lease) (written_over o (Create election lease) (answer_over (next_version h) o (Create election lease)))))) is)
fits_writes request h None is fits = absurd fits
fits_writes request h (Some x) is fits = absurd fits

-- no election write by a call that was sent at a beat or later is accepted in time for its reply, and what is stored one way after that beat stays
-- stored, but for the last way
pub record IsKept (doc : Doc) (far settled n : ℕ) : Type 0 where
  pub no_write : (x : Entry) (T : List Entry) (q : Identity) → IsTail (x ∷ T) (history doc (suc n)) → x.actor ≡ actor_of q → is_controller doc q.process ≡ true → WritesElection settled x.fact → x.beat + far ≤ n → ⊥
  pub stays : (m : ℕ) → settled + far ≤ m → m + far ≤ n → (g : List Entry) → IsTail (history doc (settled + far)) g → IsTail g (history doc (suc m)) → stored election g ≡ stored election (history doc (settled + far))

-- so none is sent
pub no_takeover : (doc : Doc) → ReleasesByStop doc → (near far a settled e n : ℕ) → IsKept doc far settled n → a ≤ settled → 1 ≤ near → near ≤ far → n ≤ e
    → (q : Identity) → is_controller doc q.process ≡ true → IsSteady doc near far a e q.process
    → (m : ℕ) (x : Entry) (T : List Entry) (call : Call) (arrives : Option ℕ) → IsTail (x ∷ T) (history doc m) → x.actor ≡ actor_of q → x.fact ≡ Sends call arrives → 2 ≤ x.step
    → settled + far ≤ x.beat + near → x.beat + 2 * far ≤ n → settled ≤ x.beat → FitsStored (stored election (history doc (settled + far))) call.request → ⊥
no_takeover doc rules near far a settled e n kept ordered one ways within q role steady m x T call arrives stands actor fact step after late from fits =
    kept.no_write answer_entry r.before q answer_at refl role (since, wrote) (omega (arith, r.most, late))
  where
    r : IsRound doc near far q call arrives x.beat
    r = rounds_in doc rules near far a e q steady one m x T call arrives stands actor fact step (omega (arith, ordered, from)) (omega (arith, late, within)) (λ k n least is most. omega (arith, most, late, within))

    in_time : r.at + far ≤ n
    in_time = omega (arith, r.most, late)

    answer_entry : Entry
    answer_entry = entry r.at 2 q (Answers call (answer call.request r.before) (reply_arrival doc q.process r.at r.before) (written call.request r.before))

    answer_at : IsTail (answer_entry ∷ r.before) (history doc (suc n))
    answer_at = tail_trans (answer_entry ∷ r.before) (history doc (suc r.at)) (history doc (suc n)) r.position (later_tail doc (suc r.at) (suc n) (omega (arith, in_time)))

    since : settled ≤ call.sent
    since =
        let sent : call.sent ≡ x.beat = (subst (λ o. IfSome o (λ s. (s.call.sent ≡ x.beat) × (s.arrives ≡ request_arrival doc s.who.process x.beat T))) (sent_is x q call arrives actor fact) (messages_travel doc rules m x T stands).0).0 in
        omega (arith, sent, from)

    same : stored election r.before ≡ stored election (history doc (settled + far))
    same =
        kept.stays r.at (omega (arith, after, r.least)) in_time r.before
        (tail_trans (history doc (settled + far)) (history doc r.at) r.before (later_tail doc (settled + far) r.at (omega (arith, after, r.least))) (tail_trans (history doc r.at) (with_events doc r.at) r.before (before_events doc r.at) r.after))
        (tail_trans r.before (answer_entry ∷ r.before) (history doc (suc r.at)) (inr (tail_all r.before)) r.position)

    wrote : has (at_key election (request_write call.request (written call.request r.before))) ≡ true
    wrote = fits_writes call.request r.before (stored election (history doc (settled + far))) same fits

-- while nobody acts that is so in a calm
pub kept_in_calm : (doc : Doc) (near far a e n : ℕ) → IsSound doc → ReleasesByStop doc → IsCalm doc near far a e → AreInTime doc near far a e → 1 ≤ near → near ≤ far → e ≤ end_beat doc → n ≤ e → NobodyActs doc near far a e n → IsKept doc far a n
kept_in_calm doc near far a e n sound rules calm time one ways end within none = record {
  no_write = no_write doc near far a e n sound rules calm end within one ways time none;
  stays = record_stays doc near far a e n sound rules calm end within one ways time none;
}

pub takeovers_end_in_acting : TakeoversEndInActing
takeovers_end_in_acting doc near far a e n sound rules calm time one ways end within none q role steady =
    no_takeover doc rules near far a a e n (kept_in_calm doc near far a e n sound rules calm time one ways end within none) (omega arith) one ways within q role steady
