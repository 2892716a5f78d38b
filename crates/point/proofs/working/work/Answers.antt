use Rattle.std.proofs.Common.{sym, ◌∙◌, arith}
use Rattle.std.proofs.lemmas.Int.{ints}
use Rattle.point.proofs.Means.{value_holds, held_length}
use Rattle.point.proofs.working.work.Goals as goal

pub returns : goal.returns
returns g c = record {
  holds = λ xs h.
      let k = g.V.Value.kind in
      let level = c.mean_level-level.ensures.holds xs h in
      let d = c.of-deviations.ensures.holds xs h level in
      let n = sym (held_length h) in
      let m = n ∙ sym c.of-deviations.ensures.passes in
      let s0 = c.of_mean-of_mean.ensures.holds k xs m d in
      record {
        mean = value_holds k _ _ _ _ _ c.lowered.ensures.low c.lowered.ensures.high level;
        level = level;
        scatter = c.scatter.ensures.holds k xs m d;
        of_mean = s0;
        random = c.random_limit.ensures.holds k xs n s0;
      };
}

pub invariant_of-result : goal.invariant_of-result
invariant_of-result g c =
    let scatter = c.scatter.ensures in
    let of_mean = c.of_mean-of_mean.ensures in
    let random = c.random_limit.ensures in
    record {
      narrow = (omega (arith, ints, c.lowered.ensures.low, c.lowered.ensures.high, c.mean_level-level.result.narrow), scatter.narrow, of_mean.narrow, random.narrow);
      least = (scatter.range.0, of_mean.range.0, random.range.0);
      most = (omega (arith, ints, scatter.range.1), omega (arith, ints, of_mean.range.1), omega (arith, ints, random.range.1));
    }
