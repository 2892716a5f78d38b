use Rattle.std.proofs.Common.{◌≡◌, length, sym, ap, ◌∙◌, arith}
use Rattle.std.proofs.lemmas.Int.{ints}
use Rattle.exact.proofs.Pairs.{holds_ends}
use Rattle.point.specs.Points.{student}
use Rattle.point.proofs.Scatters.{random_holds}
use Rattle.point.proofs.scatter.random_limit.Goals as goal

pub returns-clause-holds : goal.returns-clause-holds
returns-clause-holds c = λ k xs n h.
    let t : student (length xs) ≡ c.from-t.result = ap student n ∙ sym c.quantile.ensures.value ∙ sym c.from-t.ensures in
    holds_ends c.pair.ensures.low c.pair.ensures.high (random_holds k xs c.from-t.result c.of-ends.result.low c.of-ends.result.high _ _ t (omega arith) (omega arith) (holds_ends (omega (arith, ints)) (omega (arith, ints)) h))
