use Rattle.std.proofs.Common.{◌≡◌, ◌*◌, ◌≤◌, take, sum_by}
use Rattle.point.specs.Levels.{raised}
use Rattle.point.proofs.mean.total.Given as goal

abbrev pub invariant-loop-row : goal.invariant-loop-row
invariant-loop-row g l = record {
  low : l.low ≡ sum_by (λ e. raised g.V.Value.kind e.low) (take l.row-index l.rows);
  high : l.high ≡ sum_by (λ e. raised g.V.Value.kind e.high) (take l.row-index l.rows);
  ordered : l.low ≤ l.high;
  small : l.high ≤ l.row-index * 111111112;
}
