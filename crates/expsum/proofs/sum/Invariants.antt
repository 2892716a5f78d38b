use Rattle.std.proofs.Common.{◌≡◌, ◌-◌}
use Rattle.expsum.specs.Terms.{terms}
use Rattle.expsum.proofs.sum.Given as goal

abbrev pub invariant-loop-j : goal.invariant-loop-j
invariant-loop-j l =
    (l.even ≡ (terms l.size l.j).even) × (l.odd ≡ (terms l.size l.j).odd)
    × (l.last ≡ (terms l.size l.j).last)

abbrev pub decreases-loop-j : goal.decreases-loop-j
decreases-loop-j l = 9 - l.j
