-- While a kubelet's call waits, or its post has just expired, a round runs.
use Rattle.std.proofs.Common.{◌≡◌, ℕ, ◌==◌, ◌&&◌, not, Bool, true, false, List, [], ◌∷◌, Option, Some, None, refl, sym, ap, ◌∙◌, inl, inr, ◌⊎◌}
use Rattle.kube_objects.specs.declared.call.Reply.{Reply}
use Rattle.kube_objects.specs.declared.call.Reply.TheVariants.{Found, Done, Absent, Exists, Conflict, Unchanged}
use Rattle.kube_objects.specs.declared.call.Request.{Request}
use Rattle.kube_objects.specs.declared.call.Request.TheVariants.{Get, Create, Update, PostStatus}
use Rattle.kube_objects.specs.declared.deed.Actor.{Actor}
use Rattle.kube_objects.specs.Document.{Doc}
use Rattle.kube_objects.specs.Entry.{Entry, Identity, Call, Fact, First, Event, Starts, Crashes, Stops, Stalls, Ends, ReleaseBegins, ReleaseEnds, StepsDown, ReleaseStops, Sends, Answers, Delivers, Expires, Leads, Ticks}
use Rattle.kube_objects.specs.Identities.{is_by}
use Rattle.kube_objects.specs.Kubelet.{is_post, ends_round, round_says, has_round, next_request}
use Rattle.kube_objects.specs.Newest.{newest, when, join, or_else}
use Rattle.kube_objects.specs.Process.{open_as, call_says, last_call, call_in}
use Rattle.kube_objects.specs.Turns.{expired_in, just_expired}
use Rattle.history_laws.proofs.Plainly.{upper, some_is, none_is, false_is, true_is}

abbrev RunsIn : Option Call → Bool → (ℕ → Option Call) → Type 0
RunsIn waiting runs late = ((c : Call) → waiting ≡ Some c → runs ≡ true) × ((k : ℕ) (c : Call) → late k ≡ Some c → is_post c.request ≡ true → runs ≡ true)

-- a round runs while a call waits, and after the expiry of a post
abbrev pub Runs : Identity → List Entry → Type 0
Runs q h = RunsIn (call_in q h) (has_round q h) (λ k. just_expired q k h)

-- so where none runs no call waits
pub no_round : (q : Identity) (h : List Entry) → has_round q h ≡ false → Runs q h → call_in q h ≡ None
no_round q h none runs = by_call (call_in q h) refl
  where
    by_call : (o : Option Call) → call_in q h ≡ o → o ≡ None
    by_call None waits = refl
    by_call (Some c) waits = absurd (true_is (sym (runs.0 c waits) ∙ none))

-- what an own entry must show
abbrev pub RunsOwn : Identity → List Entry → Fact → Type 0
RunsOwn q h (Sends call arrives) = (open_as call.kind call ≡ None) ⊎ ((is_post call.request ≡ true) ⊎ (has_round q h ≡ true))
RunsOwn q h (Expires call) = call_in q h ≡ Some call
RunsOwn q h _ = Unit {0}

abbrev last_round : Identity → List Entry → Option Bool
last_round q = newest (λ e T. round_says q e.actor e.fact)

abbrev last_expired : Identity → ℕ → List Entry → Option (Option Call)
last_expired q k = newest (λ e T. when (is_by q e.actor) (expired_in k e.beat e.fact))

no_call : (k : ℕ) (c : Call) (P : Type 0) → None ≡ Some c → P
no_call k c P is = absurd (none_is c is)

pub runs_more : (q : Identity) (x : Entry) (h : List Entry) → (is_by q x.actor ≡ true → RunsOwn q h x.fact) → Runs q h → Runs q (x ∷ h)
runs_more q x h own s = cases x.actor x.fact (is_by q x.actor) refl own
  where
    -- an entry that says nothing on calls and rounds
    plain : (b : Bool) → RunsIn (call_in q h) (has_round q h) (λ k. join (upper (when b None) (last_expired q k h)))
    plain true = (s.0, λ k c is post. absurd (none_is c is))
    plain false = s

    -- a release forgets the call
    begins : (b : Bool) → RunsIn (join (upper (when b None) (last_call q h))) (has_round q h) (λ k. join (upper (when b None) (last_expired q k h)))
    begins true = (λ c is. absurd (none_is c is), λ k c is post. absurd (none_is c is))
    begins false = s

    sends : (b : Bool) (call : Call) → (b ≡ true → RunsOwn q h (Sends call None))
        → RunsIn (join (upper (when b (open_as call.kind call)) (last_call q h))) (or_else false (upper (when (is_post call.request && b) true) (last_round q h))) (λ k. join (upper (when b None) (last_expired q k h)))
    sends true call new = by_post (is_post call.request) refl (new refl)
      where
        by_post : (p : Bool) → is_post call.request ≡ p → RunsOwn q h (Sends call None)
            → RunsIn (open_as call.kind call) (or_else false (upper (when (p && true) true) (last_round q h))) (λ k. None)
        by_post true is new = (λ c is. refl, λ k c is post. refl)
        by_post false is (inl closed) = (λ c waits. absurd (none_is c (sym closed ∙ waits)), λ k c is post. absurd (none_is c is))
        by_post false is (inr (inl post)) = absurd (false_is (sym is ∙ post))
        by_post false is (inr (inr runs)) = (λ c waits. runs, λ k c is post. absurd (none_is c is))
    sends false call new = by_post (is_post call.request)
      where
        by_post : (p : Bool) → RunsIn (call_in q h) (or_else false (upper (when (p && false) true) (last_round q h))) (λ k. just_expired q k h)
        by_post true = s
        by_post false = s

    delivers : (b counted ends : Bool) → RunsIn (join (upper (when (counted && b) None) (last_call q h))) (or_else false (upper (when (ends && (counted && b)) false) (last_round q h))) (λ k. join (upper (when b None) (last_expired q k h)))
    delivers true true ends = (λ c is. absurd (none_is c is), λ k c is post. absurd (none_is c is))
    delivers true false true = plain true
    delivers true false false = plain true
    delivers false true true = s
    delivers false true false = s
    delivers false false true = s
    delivers false false false = s

    expires : (b : Bool) (call : Call) → (b ≡ true → call_in q h ≡ Some call)
        → RunsIn (join (upper (when b None) (last_call q h))) (or_else false (upper (when (not (is_post call.request) && b) false) (last_round q h))) (λ k. join (upper (when b (expired_in k x.beat (Expires call))) (last_expired q k h)))
    expires true call waits = (λ c is. absurd (none_is c is), λ k c is post. by_beat (x.beat == k) c is post)
      where
        by_post : (p : Bool) → is_post call.request ≡ p → is_post call.request ≡ true → or_else false (upper (when (not p && true) false) (last_round q h)) ≡ true
        by_post true is post = s.0 call (waits refl)
        by_post false is post = absurd (false_is (sym is ∙ post))

        by_beat : (now : Bool) (c : Call) → when now call ≡ Some c → is_post c.request ≡ true → or_else false (upper (when (not (is_post call.request) && true) false) (last_round q h)) ≡ true
        by_beat true c is post = by_post (is_post call.request) refl (ap (λ (c : Call). is_post c.request) (some_is call c is) ∙ post)
        by_beat false c is post = absurd (none_is c is)
    expires false call waits = by_post (is_post call.request)
      where
        by_post : (p : Bool) → RunsIn (call_in q h) (or_else false (upper (when (not p && false) false) (last_round q h))) (λ k. just_expired q k h)
        by_post true = s
        by_post false = s

    -- what holds after an entry by an actor
    After : Actor → Fact → Type 0
    After who d =
        RunsIn (join (upper (call_says q who d) (last_call q h))) (or_else false (upper (round_says q who d) (last_round q h)))
        (λ k. join (upper (when (is_by q who) (expired_in k x.beat d)) (last_expired q k h)))

    cases : (who : Actor) (d : Fact) (b : Bool) → is_by q who ≡ b → (is_by q who ≡ true → RunsOwn q h d) → After who d
    cases who (Sends call arrives) b is own = sends (is_by q who) call own
    cases who (Delivers call reply counted) b is own = delivers (is_by q who) counted (ends_round call.request reply)
    cases who (Expires call) b is own = expires (is_by q who) call own
    cases who (First key object) b is own = plain (is_by q who)
    cases who (Event what version) b is own = plain (is_by q who)
    cases who Starts b is own = plain (is_by q who)
    cases who Crashes b is own = plain (is_by q who)
    cases who Stops b is own = plain (is_by q who)
    cases who (Stalls beats) b is own = plain (is_by q who)
    cases who Ends b is own = plain (is_by q who)
    cases who (ReleaseBegins at_deadline) b is own = begins (is_by q who)
    cases who ReleaseEnds b is own = plain (is_by q who)
    cases who StepsDown b is own = plain (is_by q who)
    cases who ReleaseStops b is own = plain (is_by q who)
    cases who (Answers call reply comes written) b is own = plain (is_by q who)
    cases who (Leads version) b is own = plain (is_by q who)
    cases who (Ticks tick) b is own = plain (is_by q who)

pub runs_empty : (q : Identity) → Runs q []
runs_empty q = (λ c is. absurd (none_is c is), λ k c is post. absurd (none_is c is))

-- a reply that is followed by a request ends no round
pub goes_on : (doc : Doc) (q : Identity) (k : ℕ) (request : Request) (reply : Reply) (next : Request) → next_request doc q k request reply ≡ Some next → ends_round request reply ≡ false
goes_on doc q k (PostStatus name status at) reply next is = refl
goes_on doc q k (Get key) (Found version lease) next is = refl
goes_on doc q k (Get key) Absent next is = refl
goes_on doc q k (Get key) (Done version) next is = absurd (none_is next is)
goes_on doc q k (Get key) Exists next is = absurd (none_is next is)
goes_on doc q k (Get key) (Conflict version) next is = absurd (none_is next is)
goes_on doc q k (Get key) Unchanged next is = absurd (none_is next is)
goes_on doc q k (Create key lease) reply next is = absurd (none_is next is)
goes_on doc q k (Update key version lease) reply next is = absurd (none_is next is)
