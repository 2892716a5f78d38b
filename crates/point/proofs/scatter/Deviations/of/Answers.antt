use Rattle.point.proofs.Spreads.{spread_least, spread_most}
use Rattle.point.proofs.Widths.{all_stretched}
use Rattle.point.proofs.Divisors.{against_least, against_most}
use Rattle.point.proofs.scatter.Deviations.of.Goals as goal

pub invariant_of-result-clause-narrow : goal.invariant_of-result-clause-narrow
invariant_of-result-clause-narrow g c = λ u s.
    rw (c.spread.ensures.low, c.spread.ensures.high) (all_stretched u s g.V.Value.kind c.args.rows.now c.args.level.low c.args.level.high c.args.level.narrow c.requires.fits)

pub returns-clause-holds : goal.returns-clause-holds
returns-clause-holds g c = λ xs h m.
    let k = g.V.Value.kind in
    let rows = c.args.rows.now in
    let level = c.args.level in
    record {
      over = rw c.spread.ensures.low (spread_least k rows xs _ level.low level.high level.ranged.1 c.requires.fits h m);
      under = rw c.spread.ensures.high (spread_most k rows xs _ level.low level.high c.requires.fits h m);
      floor = rw c.divisor.ensures.low (against_least k c.lowered.result.low level.low _ c.lowered.ensures.low m.least);
      top = rw c.divisor.ensures.high (against_most k c.lowered.result.high level.high _ c.lowered.ensures.high m.most);
    }
