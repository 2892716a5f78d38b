use Rattle.std.proofs.Common.{arith}
use Rattle.range.specs.Judgements.{RangeHolds}
use Rattle.points.proofs.Rest.{from_first}
use Rattle.points.proofs.entry.work.Goals as goal

pub returns : goal.returns
returns g c =
    let given = c.args.limits in
    let reach = c.in_ok-gather.ensures in (
      record { some = c.requires.0; few = c.requires.1; rows = reach.0; given = given.given },
      λ xss h. from_first (λ yss. RangeHolds g.V.Value.kind yss given.steps.now c.judge.result) c.args.points.now xss (omega arith) h (λ xs yss held. c.judge.ensures g.V.Value.kind xs yss (reach.1 xs yss held)),
    )
