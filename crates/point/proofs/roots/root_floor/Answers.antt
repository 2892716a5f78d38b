use Rattle.std.proofs.Math.Nat.{div-lt_iff_lt-mul}
use Rattle.point.proofs.roots.root_floor.Goals as goal

pub returns-clause-near : goal.returns-clause-near
returns-clause-near c = (div-lt_iff_lt-mul c.requires).0 c.isqrt.ensures.next_square_gt
