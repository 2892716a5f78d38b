use Rattle.std.proofs.Common.{arith}
use Rattle.std.proofs.lemmas.Grind.{common_steps}
use Rattle.range.proofs.Systematics.{squares_small}
use Rattle.range.proofs.limits.GivenLimits.squares.Goals as goal

pub sum-requires-clause-fits : goal.sum-requires-clause-fits
sum-requires-clause-fits c = let small = squares_small c.args.self.steps.now c.args.self.given in grind (arith, common_steps)

pub returns-clause-small : goal.returns-clause-small
returns-clause-small c = let small = squares_small c.args.self.steps.now c.args.self.given in grind (arith, common_steps)
