use Rattle.std.proofs.Common.{◌≡◌, ◌≤◌, true, decimal, Ok, Err, inl, inr, sym, ap, ◌∙◌, arith}
use Rattle.std.proofs.lemmas.Bool.{false≢true}
use Rattle.std.proofs.lemmas.Slice.Eq.{bytes_eq-Decides}
use Rattle.replay_top.proofs.Numbers.{number-some, number-none}
use Rattle.replay_top.proofs.sizes.number_in.Goals as goal

pub returns-in-Err-clause-number : goal.returns-in-Err-clause-number
returns-in-Err-clause-number c =
    number-none c.args.least c.args.most c.args.word.now c.parse.result c.ranges.most.fits c.parse.ensures.value.0
    (λ n is written from within. let never : Err c.in-Err.field-0 ≡ Ok n = sym c.in-Err.is ∙ is in cc)

pub returns-then-read-most-clause-number : goal.returns-then-read-most-clause-number
returns-then-read-most-clause-number c =
    let read = c.in-Ok.read in
    let word = c.args.word.now in
    let within : read ≤ c.args.most = c.if-read-most.true in
    number-some c.args.least c.args.most read word (omega (arith, within, c.ranges.most.fits))
    (sym c.format.ensures.text ∙ (bytes_eq-Decides c.format.result.now word).0 (sym c.eq.ensures ∙ c.if-eq.true))
    c.if-least-read.true within

pub returns-else-eq-clause-number : goal.returns-else-eq-clause-number
returns-else-eq-clause-number c =
    let word = c.args.word.now in
    number-none c.args.least c.args.most word c.parse.result c.ranges.most.fits c.parse.ensures.value.0
    (λ n is written from within.
    let found : Ok c.in-Ok.read ≡ Ok n = sym c.in-Ok.is ∙ is in
    let same : c.in-Ok.read ≡ n = cc in
    let shown = c.format.ensures.text ∙ ap decimal same ∙ written in
    let equal : c.eq.result ≡ true = c.eq.ensures ∙ (bytes_eq-Decides c.format.result.now word).1 shown in
    elim c.else-eq.either [
      | inl over ↦ omega (arith, over.2, same, within)
      | inr other ↦ elim other [
        | inl under ↦ omega (arith, under.1, same, from)
        | inr differs ↦ false≢true (sym differs ∙ equal)
      ]
    ])
