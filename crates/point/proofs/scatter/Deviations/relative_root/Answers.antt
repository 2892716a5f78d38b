use Rattle.point.proofs.Widths.{root_ordered}
use Rattle.point.proofs.scatter.Deviations.relative_root.Goals as goal

pub invariant_of-result : goal.invariant_of-result
invariant_of-result c =
    let d = c.args.self in
    record { ordered = root_ordered c.root_floor.result c.root_ceil.result c.args.shares d.divisor.low d.divisor.high d.squares.low d.squares.high c.requires.0 d.divisor.ranged.0 d.divisor.ranged.1 d.squares.ordered (rw c.bottom.ensures.value at c.root_floor.ensures.under) (rw c.bottom-2.ensures.value at c.root_ceil.ensures.over) }
