-- Worked figures of the wall factors. Assumes nothing.
use Rattle.std.specs.Prelude.{ℕ, pos}
use Rattle.exact.specs.Fractions.{Same, nat, div}
use Rattle.vessel.specs.Walls.{pipe_cts, compact_cts, cps}

-- α 1,120 and 25 °C: CTS 1.000168
abbrev pub PipeAt25 : Type 0
PipeAt25 = Same (pipe_cts 1120 (pos 2500)) (div (nat 1000168) (nat 1000000))

-- 20 °C: CTS 1, whatever the coefficient
abbrev pub PipeAt20 : Type 0
PipeAt20 = (α : ℕ) → Same (pipe_cts α (pos 2000)) (nat 1)

-- D 3,000, s 100, E 200,000 and 1,000 kPa: CPS 1.0001425
abbrev pub Pressed : Type 0
Pressed = Same (cps 3000 100 200000 (pos 1000)) (div (nat 10001425) (nat 10000000))

-- α_k 2,000 at 30 °C and α_d 100 at 25 °C: CTS 1.000205001
abbrev pub CompactAt30 : Type 0
CompactAt30 = Same (compact_cts 2000 100 (pos 3000) (pos 2500)) (div (nat 1000205001) (nat 1000000000))

abbrev pub WallFigures : Type 0
WallFigures = PipeAt25 × PipeAt20 × Pressed × CompactAt30
