-- What a span promises of a figure. Assumes nothing.
use Rattle.std.specs.Prelude.{ℕ, pos}
use Rattle.exact.specs.Figures.{Figure}
use Rattle.exact.specs.Pairs.{Holds, steps}
use Rattle.range.specs.declared.span.Span.{Span}

-- the figure lies between the span's ends, whatever its width and the most that it reaches
abbrev pub SpanHolds : {w m : ℕ} → Span w m → Figure → Type 0
SpanHolds s f = Holds steps (pos s.low) (pos s.high) f
