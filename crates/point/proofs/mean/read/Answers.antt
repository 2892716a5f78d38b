use Rattle.std.proofs.Common.{arith}
use Rattle.std.proofs.lemmas.Int.{ints}
use Rattle.point.proofs.Means.{level_range}
use Rattle.point.proofs.mean.read.Goals as goal

pub invariant_of-result : goal.invariant_of-result
invariant_of-result g c =
    let r = level_range g.V.Value.kind c.args.row c.requires in
    let constants = g.met.V.Statistic.of_kind in
    record { ranged = (omega (arith, ints), omega (arith, ints), omega (arith, ints)); narrow = omega (arith, ints) }

pub returns : goal.returns
returns g c =
    let r = level_range g.V.Value.kind c.args.row c.requires in
    let constants = g.met.V.Statistic.of_kind in
    record { low = omega (arith, ints); high = omega (arith, ints) }
