use Rattle.exact.proofs.Figures.{lower, higher, apart}
use Rattle.exact.proofs.laws.figure_laws.Goals as goal

pub returns : goal.returns
returns c = (lower, higher, apart)
