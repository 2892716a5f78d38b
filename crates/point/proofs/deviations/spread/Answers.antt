use Rattle.std.proofs.Common.{◌*◌, ◌≤◌, pos, mul-le-mul, arith}
use Rattle.std.proofs.lemmas.List.Sums.{sum_by_more}
use Rattle.point.specs.declared.ends.Ends.{Ends}
use Rattle.point.specs.Deviations.{nearest², farthest²}
use Rattle.point.proofs.Naturals.{square_mono}
use Rattle.point.proofs.deviations.spread.Goals as goal

abbrev nil : Ends
nil = record { low = pos 0; high = pos 0 }

pub loop-row-preserved : goal.loop-row-preserved
loop-row-preserved g c =
    let low = sum_by_more (nearest² g.V.Value.kind c.args.mean.low c.args.mean.high) c.args.rows.now c.loop-row.row-index nil c.loop-row-test.true in
    let high = sum_by_more (farthest² g.V.Value.kind c.args.mean.low c.args.mean.high) c.args.rows.now c.loop-row.row-index nil c.loop-row-test.true in
    let ordered = square_mono c.nearest-least.result c.farthest-most.result (omega arith) in
    let most : c.farthest-most.result * c.farthest-most.result ≤ 21111112 * 21111112 = mul-le-mul c.farthest-most.ensures.small c.farthest-most.ensures.small in
    record { low = cc; high = cc; ordered = omega arith; small = omega arith }
