use Rattle.std.proofs.Common.{lit≤}
use Rattle.exact.specs.Fractions.{whole, add, neg, mul, div}
use Rattle.expsum.specs.Series.{power, factorial, term, series, e}
use Rattle.petroleum.specs.Exponential.{expansion_at_15, expanded, thermal, compression_exponent, compressibility, elastic, density_ratio}
use Rattle.petroleum.proofs.worked.exponential_example.Goals as goal

pub returns : goal.returns
unfolding whole add neg mul div power factorial term series e expansion_at_15 expanded thermal compression_exponent compressibility elastic density_ratio
returns c =
    (record { le = lit≤ tt }, record { le = lit≤ tt }, record { le = lit≤ tt }, record { le = lit≤ tt })
