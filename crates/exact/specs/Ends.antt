-- The ends of a pair as a plain value: what a device answers, in a definition. Assumes nothing.
use Rattle.std.specs.Prelude.{◌≡◌, ℤ}
use Rattle.exact.specs.declared.pair.Pair.{Pair}

pub record Ends : Type 0 where
  pub low : ℤ
  pub high : ℤ

-- the pair has these ends
pub record Has (p : Pair) (e : Ends) : Type 0 where
  pub low : p.low ≡ e.low
  pub high : p.high ≡ e.high
