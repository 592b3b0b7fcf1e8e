-- Whether a steady controller has a success by a call of the span is decided by looking.
use Rattle.std.proofs.Common.{◌≡◌, ◌⊎◌, ◌<◌, ◌≤◌, ℕ, suc, Bool, true, false, List, [], ◌∷◌, refl, sym, ap, ◌∙◌, subst, inl, inr, ⊎_elim, arith}
use Rattle.std.proofs.lemmas.Bool.{cases_lt}
use Rattle.kube_base.specs.declared.numbers.Version.{Version}
use Rattle.kube_objects.specs.declared.call.Reply.TheVariants.{Found, Done, Absent, Exists, Conflict, Unchanged}
use Rattle.kube_objects.specs.declared.call.Request.{Request}
use Rattle.kube_objects.specs.declared.call.Request.TheVariants.{Get, Create, Update, PostStatus}
use Rattle.kube_objects.specs.declared.deed.Actor.{Actor}
use Rattle.kube_objects.specs.Document.{Doc, is_controller}
use Rattle.kube_objects.specs.Elector.{succeeds}
use Rattle.kube_objects.specs.Entry.{Entry, Identity, Call, Fact, First, Event, Starts, Stops, Sends, Answers, Delivers, Expires, Leads, Ends, Crashes, Stalls, Ticks, actor_of, entry, StepsDown, ReleaseBegins, ReleaseEnds, ReleaseStops}
use Rattle.kube_objects.specs.Own.{ReleasesByStop}
use Rattle.history.specs.History.{history}
use Rattle.history_laws.specs.Tails.{IsTail}
use Rattle.history_laws.proofs.Order.{entries_are_earlier}
use Rattle.history_laws.proofs.Plainly.{true_is}
use Rattle.history_laws.proofs.Tailed.{tail_all, tail_trans, tail_of_empty, same_head, later_tail}
use Rattle.call_laws.proofs.Above.{in_head}
use Rattle.call_laws.proofs.Making.{MadeAs, are_made}
use Rattle.call_laws.proofs.Placing.{in_own_beat}
use Rattle.call_laws.proofs.Starting.{actor_is}
use Rattle.takeover_laws.specs.Calm.{IsSteady}
use Rattle.takeover_laws.proofs.Asking.{call_or}
use Rattle.calm_laws.proofs.Deciding.{Decided, steady}
use Rattle.calm_laws.proofs.First.{entry_is}
use Rattle.stay_laws.specs.Stays.{HasSuccess}

pub record SomebodySucceeds (doc : Doc) (near far a e n : ℕ) : Type 0 where
  pub q : Identity
  pub role : is_controller doc q.process ≡ true
  pub is_steady : IsSteady doc near far a e q.process
  pub j : ℕ
  pub to : j ≤ n
  pub success : HasSuccess doc q a j

abbrev pub NobodySucceeds : Doc → ℕ → ℕ → ℕ → ℕ → ℕ → Type 0
NobodySucceeds doc near far a e n = (q : Identity) → is_controller doc q.process ≡ true → IsSteady doc near far a e q.process → (j : ℕ) → j ≤ n → HasSuccess doc q a j → ⊥

-- which version it is doesn't matter
done_succeeds : (r : Request) (v u : Version) → succeeds r (Done v) ≡ succeeds r (Done u)
done_succeeds (Get key) v u = refl
done_succeeds (Create key lease) v u = refl
done_succeeds (Update key given lease) v u = refl
done_succeeds (PostStatus name status at) v u = refl

module _ (doc : Doc) (rules : ReleasesByStop doc) (near far a e n : ℕ) where
  -- an entry is no such success
  abbrev IsNone : Entry → Type 0
  IsNone x =
      (q : Identity) (call : Call) (version : Version) → is_controller doc q.process ≡ true → IsSteady doc near far a e q.process → x.actor ≡ actor_of q → x.fact ≡ Delivers call (Done version) true
      → a ≤ call.sent → succeeds call.request (Done version) ≡ true → ⊥

  other : (x : Entry) (d : Fact) → x.fact ≡ d → ((call : Call) (version : Version) → d ≡ Delivers call (Done version) true → ⊥) → SomebodySucceeds doc near far a e n ⊎ IsNone x
  other x d fact never = inr (λ q call version role s actor is since so. never call version (sym fact ∙ is))

  at_entry : (x : Entry) (T : List Entry) → IsTail (x ∷ T) (history doc (suc n)) → SomebodySucceeds doc near far a e n ⊎ IsNone x
  at_entry x T at = cases x.actor x.fact refl refl (are_made doc rules (suc n) x T at)
    where
      cases : (who : Actor) (d : Fact) → x.actor ≡ who → x.fact ≡ d → MadeAs doc x.beat x.step who d T → SomebodySucceeds doc near far a e n ⊎ IsNone x
      cases who (Delivers w (Done v) true) actor fact made = by_role (is_controller doc made.b.who.process) refl
        where
          mine : (q : Identity) → x.actor ≡ actor_of q → q ≡ made.b.who
          mine q is = actor_is q made.b.who (sym is ∙ actor ∙ made.by)

          call_is : (call : Call) (version : Version) → x.fact ≡ Delivers call (Done version) true → call ≡ w
          call_is call version is = ap (call_or w) (sym is ∙ fact)

          whole : x ≡ entry x.beat 3 made.b.who (Delivers w (Done v) true)
          whole = entry_is x 3 made.b.who (Delivers w (Done v) true) made.step_is (actor ∙ made.by) fact

          by_beat : x.beat ≤ n
          by_beat = ⊎_elim (λ lt. omega (arith, lt)) (λ first. omega (arith, first.0)) (entries_are_earlier doc (suc n) x (in_head x T (history doc (suc n)) at))

          by_success : is_controller doc made.b.who.process ≡ true → IsSteady doc near far a e made.b.who.process → a ≤ w.sent → (b : Bool) → succeeds w.request (Done v) ≡ b → SomebodySucceeds doc near far a e n ⊎ IsNone x
          by_success role s since true so = inl (record {
            q = made.b.who;
            role = role;
            is_steady = s;
            j = x.beat;
            to = by_beat;
            success = record {
              call = w;
              version = v;
              before = T;
              since = since;
              success = so;
              position = subst (λ z. IsTail (z ∷ T) (history doc (suc x.beat))) whole (in_own_beat doc (suc n) x T at);
            };
          })
          by_success role s since false never = inr (λ q call version role s actor is since so.
              true_is (sym so ∙ ap (λ (c : Call). succeeds c.request (Done version)) (call_is call version is) ∙ done_succeeds w.request version v ∙ never))

          by_sent : is_controller doc made.b.who.process ≡ true → IsSteady doc near far a e made.b.who.process → (w.sent < a) ⊎ (a ≤ w.sent) → SomebodySucceeds doc near far a e n ⊎ IsNone x
          by_sent role s (inr since) = by_success role s since (succeeds w.request (Done v)) refl
          by_sent role s (inl lt) = inr (λ q call version role s actor is since so. omega (arith, lt, since, ap (λ (c : Call). c.sent) (call_is call version is)))

          by_steady : is_controller doc made.b.who.process ≡ true → Decided (IsSteady doc near far a e made.b.who.process) → SomebodySucceeds doc near far a e n ⊎ IsNone x
          by_steady role (inl s) = by_sent role s (cases_lt w.sent a)
          by_steady role (inr never) = inr (λ q call version role s actor is since so. never (subst (λ (p : Identity). IsSteady doc near far a e p.process) (mine q actor) s))

          by_role : (b : Bool) → is_controller doc made.b.who.process ≡ b → SomebodySucceeds doc near far a e n ⊎ IsNone x
          by_role true role = by_steady role (steady doc near far a e made.b.who.process)
          by_role false never = inr (λ q call version role s actor is since so. true_is (sym role ∙ ap (λ (p : Identity). is_controller doc p.process) (mine q actor) ∙ never))
      cases who (Delivers w Absent true) actor fact made = other x (Delivers w Absent true) fact (λ call version is. cc)
      cases who (Delivers w (Found v lease) true) actor fact made = other x (Delivers w (Found v lease) true) fact (λ call version is. cc)
      cases who (Delivers w Exists true) actor fact made = other x (Delivers w Exists true) fact (λ call version is. cc)
      cases who (Delivers w (Conflict v) true) actor fact made = other x (Delivers w (Conflict v) true) fact (λ call version is. cc)
      cases who (Delivers w Unchanged true) actor fact made = other x (Delivers w Unchanged true) fact (λ call version is. cc)
      cases who (Delivers w reply false) actor fact made = other x (Delivers w reply false) fact (λ call version is. cc)
      cases who (First key object) actor fact made = other x (First key object) fact (λ call version is. cc)
      cases who (Event w version) actor fact made = other x (Event w version) fact (λ call v is. cc)
      cases who (Sends w arrives) actor fact made = other x (Sends w arrives) fact (λ call version is. cc)
      cases who (Answers w reply comes wrote) actor fact made = other x (Answers w reply comes wrote) fact (λ call version is. cc)
      cases who (Expires w) actor fact made = other x (Expires w) fact (λ call version is. cc)
      cases who (Ticks t) actor fact made = other x (Ticks t) fact (λ call version is. cc)
      cases who Starts actor fact made = other x Starts fact (λ call version is. cc)
      cases who Crashes actor fact made = other x Crashes fact (λ call version is. cc)
      cases who Stops actor fact made = other x Stops fact (λ call version is. cc)
      cases who (Stalls beats) actor fact made = other x (Stalls beats) fact (λ call version is. cc)
      cases who StepsDown actor fact made = absurd made
      cases who (ReleaseBegins at_deadline) actor fact made = absurd made
      cases who ReleaseEnds actor fact made = absurd made
      cases who ReleaseStops actor fact made = absurd made
      cases who Ends actor fact made = other x Ends fact (λ call version is. cc)
      cases who (Leads v) actor fact made = other x (Leads v) fact (λ call version is. cc)

  abbrev AllNone : List Entry → Type 0
  AllNone h = (x : Entry) (T : List Entry) → IsTail (x ∷ T) h → IsNone x

  looked : (h : List Entry) → IsTail h (history doc (suc n)) → SomebodySucceeds doc near far a e n ⊎ AllNone h
  looked [] at = inr (λ x T below. absurd (tail_of_empty x T below))
  looked (x ∷ h) at = by_both (at_entry x h at) (looked h (tail_trans h (x ∷ h) (history doc (suc n)) (inr (tail_all h)) at))
    where
      by_both : SomebodySucceeds doc near far a e n ⊎ IsNone x → SomebodySucceeds doc near far a e n ⊎ AllNone h → SomebodySucceeds doc near far a e n ⊎ AllNone (x ∷ h)
      by_both (inl somebody) rest = inl somebody
      by_both (inr none) (inl somebody) = inl somebody
      by_both (inr none) (inr rest) = inr all
        where
          all : (y : Entry) (T : List Entry) → IsTail (y ∷ T) (x ∷ h) → IsNone y
          all y T (inl same) = subst IsNone (sym (same_head y x T h same)) none
          all y T (inr below) = rest y T below

  pub somebody_or_nobody : SomebodySucceeds doc near far a e n ⊎ NobodySucceeds doc near far a e n
  somebody_or_nobody = ⊎_elim (λ somebody. inl somebody) (λ all. inr (nobody all)) (looked (history doc (suc n)) (tail_all (history doc (suc n))))
    where
      nobody : AllNone (history doc (suc n)) → NobodySucceeds doc near far a e n
      nobody all q role s j to success =
          all (entry j 3 q (Delivers success.call (Done success.version) true)) success.before (tail_trans _ (history doc (suc j)) (history doc (suc n)) success.position (later_tail doc (suc j) (suc n) (omega (arith, to))))
          q success.call success.version role s refl refl success.since success.success
