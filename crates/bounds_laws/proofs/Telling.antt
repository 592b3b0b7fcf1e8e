-- What the numbers of a document's bounds on a leader are in beats, in the words of the laws.
use Rattle.std.proofs.Common.{◌≡◌, ◌≤◌, ℕ, ◌*◌, Bool, true, false, Option, Some, None, refl, sym, ap, ⊎_elim, arith}
use Rattle.std.proofs.Math.Nat.{mul-le-mul_right}
use Rattle.std.proofs.lemmas.Bool.{cases_lt}
use Rattle.kube_objects.specs.declared.script.Proc.{Proc}
use Rattle.kube_objects.specs.Document.{Doc}
use Rattle.history_laws.proofs.Plainly.{some_is, none_is}
use Rattle.lens_bounds.specs.declared.calm.Calm.{Calm}
use Rattle.lens_bounds.specs.declared.elections.Handover.{Handover}
use Rattle.lens_bounds.specs.declared.elections.Span.{Span}
use Rattle.lens_bounds.specs.Documents.{calm_of}
use Rattle.lens_bounds.specs.Elections.{stop_least, acts_on, own_term, others, followers, number_if, span_if, crash_of, stop_of, lead, stay, election_of}
use Rattle.bounds_laws.specs.Elections.{millis, bounds_of}

-- ---- which numbers are there

pub record IsSpan (doc : Doc) (found : Option Handover) (least most : Handover → ℕ) (s : Span) : Type 0 where
  pub h : Handover
  pub found_is : found ≡ Some h
  pub holds : stay (calm_of doc) doc.controllers ≡ true
  pub least_is : s.least ≡ least h * doc.settings.beat_millis
  pub most_is : s.most ≡ most h * doc.settings.beat_millis

no_span : (s : Span) → None ≡ Some s → ⊥
no_span s is = cc

span_is : (doc : Doc) (least most : Handover → ℕ) (holds : Bool) → stay (calm_of doc) doc.controllers ≡ holds → (h : Handover) (found : Option Handover) → found ≡ Some h → (s : Span)
    → span_if holds (least h * doc.settings.beat_millis) (most h * doc.settings.beat_millis) ≡ Some s → IsSpan doc found least most s
span_is doc least most false stays h found is s told = absurd (no_span s told)
span_is doc least most true stays h found is s told =
    let one = some_is (record { least = least h * doc.settings.beat_millis; most = most h * doc.settings.beat_millis }) s told in
    record { h = h; found_is = is; holds = stays; least_is = sym (ap (λ (s : Span). s.least) one); most_is = sym (ap (λ (s : Span). s.most) one) }

module _ (doc : Doc) (place : ℕ) (leader : Proc) where
  abbrev pub c : Calm
  c = calm_of doc

  abbrev pub all : Option Handover
  all = others c place leader doc.controllers

  pub crash_is : (s : Span) → (bounds_of doc place leader).crash ≡ Some s → IsSpan doc all (λ h. h.crash_least) (λ h. h.crash_most) s
  unfolding election_of
  crash_is s told = by_found all refl told
    where
      by_found : (found : Option Handover) → all ≡ found → crash_of c (stay c doc.controllers) found ≡ Some s → IsSpan doc all (λ h. h.crash_least) (λ h. h.crash_most) s
      by_found None is told = absurd (no_span s told)
      by_found (Some h) is told = span_is doc (λ h. h.crash_least) (λ h. h.crash_most) (stay c doc.controllers) refl h all is s told

  pub stop_is : (s : Span) → (bounds_of doc place leader).stop ≡ Some s → IsSpan doc all (λ h. stop_least c) (λ h. h.stop_most) s
  unfolding election_of
  stop_is s told = by_found all refl told
    where
      by_found : (found : Option Handover) → all ≡ found → stop_of c (stay c doc.controllers) found ≡ Some s → IsSpan doc all (λ h. stop_least c) (λ h. h.stop_most) s
      by_found None is told = absurd (no_span s told)
      by_found (Some h) is told = span_is doc (λ h. stop_least c) (λ h. h.stop_most) (stay c doc.controllers) refl h all is s told

  number_is : (b holds : Bool) → b ≡ holds → (n time : ℕ) → number_if holds n ≡ Some time → (b ≡ true) × (time ≡ n)
  number_is b true is n time told = (is, sym (some_is n time told))
  number_is b false is n time told = absurd (none_is time told)

  pub acts_on_is : (time : ℕ) → (bounds_of doc place leader).acts_on ≡ Some time → (lead c doc.controllers ≡ true) × (time ≡ acts_on c (own_term leader) * doc.settings.beat_millis)
  unfolding election_of
  acts_on_is time told = number_is (lead c doc.controllers) (lead c doc.controllers) refl (acts_on c (own_term leader) * doc.settings.beat_millis) time told

  pub leads_is : (time : ℕ) → (bounds_of doc place leader).leads ≡ Some time → (lead c doc.controllers ≡ true) × (time ≡ (followers c leader doc.controllers all).leads * doc.settings.beat_millis)
  unfolding election_of
  leads_is time told = number_is (lead c doc.controllers) (lead c doc.controllers) refl ((followers c leader doc.controllers all).leads * doc.settings.beat_millis) time told

  pub stays_from_is : (time : ℕ) → (bounds_of doc place leader).stays_from ≡ Some time → (stay c doc.controllers ≡ true) × (time ≡ (followers c leader doc.controllers all).stays_from * doc.settings.beat_millis)
  unfolding election_of
  stays_from_is time told = number_is (stay c doc.controllers) (stay c doc.controllers) refl ((followers c leader doc.controllers all).stays_from * doc.settings.beat_millis) time told

-- ---- beats and milliseconds

pub millis_most : (doc : Doc) (n time beats : ℕ) → time ≡ n * doc.settings.beat_millis → beats ≤ n → millis doc beats ≤ time
millis_most doc n time beats is le = omega (arith, is, mul-le-mul_right doc.settings.beat_millis le)

pub millis_least : (doc : Doc) (n time beats : ℕ) → time ≡ n * doc.settings.beat_millis → n ≤ beats → time ≤ millis doc beats
millis_least doc n time beats is le = omega (arith, is, mul-le-mul_right doc.settings.beat_millis le)

pub enough_beats : (doc : Doc) (n time beats : ℕ) → 1 ≤ doc.settings.beat_millis → time ≡ n * doc.settings.beat_millis → time ≤ millis doc beats → n ≤ beats
enough_beats doc n time beats some is le =
    ⊎_elim (λ lt. absurd (omega (arith, is, le, some, mul-le-mul_right doc.settings.beat_millis lt))) (λ more. more) (cases_lt beats n)
