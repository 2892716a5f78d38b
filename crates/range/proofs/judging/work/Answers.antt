use Rattle.std.proofs.Common.{arith}
use Rattle.range.specs.Judgements.{RangeHolds}
use Rattle.range.proofs.Together.{from_first}
use Rattle.range.proofs.judging.work.Goals as goal

pub returns : goal.returns
returns c =
    let given = c.args.limits in (
      record { some = c.requires.0; few = c.requires.1; given = given.given },
      λ k xss h. from_first (λ yss. RangeHolds k yss given.steps.now c.judge.result) k c.args.points.now xss (omega arith) h (λ xs yss held. c.judge.ensures k xs yss (c.gather.ensures k xs yss held)),
    )
