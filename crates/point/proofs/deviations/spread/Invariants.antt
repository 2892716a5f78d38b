use Rattle.std.proofs.Common.{◌≡◌, ◌*◌, ◌≤◌, take, sum_by}
use Rattle.point.specs.Deviations.{nearest², farthest²}
use Rattle.point.proofs.deviations.spread.Given as goal

abbrev pub invariant-loop-row : goal.invariant-loop-row
invariant-loop-row g l = record {
  low : l.low ≡ sum_by (nearest² g.V.Value.kind l.mean.low l.mean.high) (take l.row-index l.rows);
  high : l.high ≡ sum_by (farthest² g.V.Value.kind l.mean.low l.mean.high) (take l.row-index l.rows);
  ordered : l.low ≤ l.high;
  small : l.high ≤ l.row-index * 445679049876544;
}
