use Rattle.std.proofs.Common.{length, arith}
use Rattle.point.proofs.Means.{mean_holds, sums_range, mean_range}
use Rattle.point.proofs.mean.mean_level.Goals as goal

pub invariant_of-result : goal.invariant_of-result
invariant_of-result g c =
    let s = sums_range g.V.Value.kind c.args.rows.now c.requires.fits in
    let l = c.total-sums.ensures.low in
    let h = c.total-sums.ensures.high in
    let r = mean_range (length c.args.rows.now) c.total-sums.result.low c.total-sums.result.high (omega arith) (omega arith) (omega arith) (omega arith) (omega arith) in
    record { ranged = (omega arith, omega arith, omega arith); narrow = omega arith }

pub returns : goal.returns
returns g c =
    let l = c.total-sums.ensures.low in
    let h = c.total-sums.ensures.high in
    record { holds = λ xs k. mean_holds g.V.Value.kind c.args.rows.now xs _ _ c.requires.fits k (omega arith) (cc) (cc) }
