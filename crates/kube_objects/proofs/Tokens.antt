-- The token of a zone by either rule, in one form.
use Rattle.std.proofs.Common.{◌≡◌, ◌∙◌, ℕ, zero, suc, ◌*◌, ◌==◌, ◌&&◌, not, nat_le, Bool, true, false, List, Option, Some, None, refl, sym, ap, arith}
use Rattle.std.proofs.lemmas.Bool.Decides.{nat_tests}
use Rattle.kube_objects.specs.declared.rules.BucketRule.{BucketRule}
use Rattle.kube_objects.specs.declared.rules.BucketRule.TheVariants.{Empty, Full}
use Rattle.kube_objects.specs.Document.{Doc}
use Rattle.kube_objects.specs.Entry.{Entry, Identity, Place}
use Rattle.kube_objects.specs.Tokens.{Rated, rated, grown, has_token, token_by, is_full_by, is_grown, is_there, token_size}

-- without a rate nothing grows
nothing_grows : (span : ℕ) → nat_le token_size (span * 0) ≡ false
unfolding token_size
nothing_grows span = grind (arith, nat_tests)

suc_is : (rate : ℕ) → (suc rate == 0) ≡ false
suc_is rate = grind (arith, nat_tests)

rate_grows : (span rate : ℕ) (x : Rated) → x.1 ≡ rate → is_there false span (Some x) ≡ is_grown span (Some x)
rate_grows span zero x is = ap (λ r. is_there false span (Some (x.0, r))) is ∙ sym (nothing_grows span) ∙ ap (λ r. nat_le token_size (span * r)) (sym is)
rate_grows span (suc rate) x is =
    ap (λ r. not (r == 0) && nat_le token_size (span * r)) is
    ∙ ap (λ z. not z && nat_le token_size (span * suc rate)) (suc_is rate)
    ∙ ap (λ r. nat_le token_size (span * r)) (sym is)

-- a bucket that isn't full has its token where it has grown
pub empty_grown : (span : ℕ) (o : Option Rated) → is_there false span o ≡ is_grown span o
empty_grown span None = refl
empty_grown span (Some x) = rate_grows span x.1 x refl

pub token_is_there : (doc : Doc) (q : Identity) (k : ℕ) (place : Place) (h : List Entry)
    → has_token doc q k place h ≡ is_there (is_full_by doc.settings.rules.bucket doc q place h) (grown doc q k place h) (rated q place h)
token_is_there doc q k place h = by_rule doc.settings.rules.bucket
  where
    by_rule : (rule : BucketRule) → token_by rule doc q k place h ≡ is_there (is_full_by rule doc q place h) (grown doc q k place h) (rated q place h)
    by_rule Empty = sym (empty_grown (grown doc q k place h) (rated q place h))
    by_rule Full = refl
