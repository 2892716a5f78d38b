use Rattle.exact.proofs.Pairs.{holds_ends}
use Rattle.range.proofs.judging.judge.Goals as goal

pub returns : goal.returns
returns c = λ k xs xss h.
    let theta = c.systematic-theta.ensures _ h.neighbours in
    let left = c.decide-left.ensures _ _ theta h.of_mean in
    record {
      of_mean = holds_ends c.pair.ensures.low c.pair.ensures.high h.of_mean;
      random = holds_ends c.pair-2.ensures.low c.pair-2.ensures.high h.random;
      neighbours = holds_ends c.pair-3.ensures.low c.pair-3.ensures.high h.neighbours;
      systematic = holds_ends c.pair-4.ensures.low c.pair-4.ensures.high theta;
      left = left;
      error = rw (c.pair-5.ensures.low, c.pair-5.ensures.high) (c.error-error.ensures.holds _ _ _ left theta h.random);
    }
