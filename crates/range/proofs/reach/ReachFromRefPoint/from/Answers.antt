use Rattle.range.proofs.Greaters.{holds_first_root, holds_nought}
use Rattle.range.proofs.Together.{holds_sizes}
use Rattle.range.proofs.reach.ReachFromRefPoint.from.Goals as goal

pub returns : goal.returns
returns c = λ k xs h.
    let p = c.args.point.now in
    record {
      level = h.level;
      of_mean = rw (c.of.ensures.low, c.of.ensures.high) (holds_first_root _ _ _ (holds_sizes _ _ p.least.1 p.of_mean.ordered h.of_mean));
      random = rw (c.of-2.ensures.low, c.of-2.ensures.high) (holds_first_root _ _ _ (holds_sizes _ _ p.least.2 p.random.ordered h.random));
      neighbours = holds_nought;
    }
