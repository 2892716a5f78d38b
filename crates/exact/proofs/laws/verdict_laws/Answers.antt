use Rattle.exact.proofs.Pairs.{keeps, exceeds, within}
use Rattle.exact.proofs.laws.verdict_laws.Goals as goal

pub returns : goal.returns
returns c = (keeps, exceeds, within)
