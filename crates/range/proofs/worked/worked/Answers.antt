use Rattle.std.proofs.Common.{refl, lit≤}
use Rattle.exact.specs.Fractions.{whole, add, neg, mul, div}
use Rattle.point.specs.Points.{sum, mean}
use Rattle.range.specs.Ranges.{at_most, half_gap_lem, Θ²}
use Rattle.range.specs.Rules.{part}
use Rattle.range.proofs.worked.worked.Goals as goal

pub returns : goal.returns
unfolding whole add neg mul div sum mean at_most half_gap_lem Θ²
returns c = record {
  neighbours = record { same = refl };
  systematic = record { same = refl };
  mixed = record {
    least = (part 5 100, (part 4 100, part 1 100, (λ _. record { le = lit≤ tt }), (λ _. record { le = lit≤ tt }), record { le = lit≤ tt }), record { le = lit≤ tt });
    most = (part 5 100, (part 4 100, part 1 100, (record { le = lit≤ tt }, record { le = lit≤ tt }), (record { le = lit≤ tt }, record { le = lit≤ tt }), record { le = lit≤ tt }), record { le = lit≤ tt });
  };
  systematic_error = record { least = λ _. record { le = lit≤ tt }; most = (record { le = lit≤ tt }, record { le = lit≤ tt }) };
}
