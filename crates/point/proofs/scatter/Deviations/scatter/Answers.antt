use Rattle.std.proofs.Common.{arith}
use Rattle.std.proofs.lemmas.Int.{ints}
use Rattle.exact.proofs.Pairs.{holds_ends}
use Rattle.point.proofs.Scatters.{scatter_holds}
use Rattle.point.proofs.Widths.{scatter_narrow}
use Rattle.point.proofs.scatter.Deviations.scatter.Goals as goal

pub pair-requires : goal.pair-requires
pair-requires c =
    let d = c.args.self in
    let r = c.relative_root.result in
    let e = c.relative_root.ensures in
    let near = scatter_narrow d r e.under e.near_low e.near_high in
    omega (arith, near.0, near.1)

pub returns : goal.returns
returns c =
    let d = c.args.self in
    let r = c.relative_root.result in
    let e = c.relative_root.ensures in
    let p = c.pair.ensures in
    let near = scatter_narrow d r e.under e.near_low e.near_high in
    record {
      holds = λ k xs n h. holds_ends p.low p.high (scatter_holds k xs d.passes r.low r.high d.divisor.low d.divisor.high d.squares.low d.squares.high n (omega arith) (omega arith) e.under e.over h.over h.under h.floor h.top);
      range = (omega (arith, ints), omega (arith, ints));
      narrow = omega (arith, ints);
    }
