use Rattle.std.proofs.Common.{arith}
use Rattle.range.proofs.Edges.{near_upper, near_lower, not_systematic, not_random, systematic_sure, random_sure, mixed_sure}
use Rattle.range.proofs.deciding.Ratio.decide.Goals as goal

pub returns-then-above_upper : goal.returns-then-above_upper
returns-then-above_upper c = λ θ² s² h k.
    let t = c.args.self.systematic in
    let s = c.args.self.of_mean in
    systematic_sure t.low t.high s.low s.high θ² s² h k (omega arith)

pub returns-then-below_lower : goal.returns-then-below_lower
returns-then-below_lower c = λ θ² s² h k.
    let t = c.args.self.systematic in
    let s = c.args.self.of_mean in
    random_sure t.low t.high s.low s.high θ² s² h k (omega arith)

pub returns-in-true-true : goal.returns-in-true-true
returns-in-true-true c = λ θ² s² h k.
    let t = c.args.self.systematic in
    let s = c.args.self.of_mean in
    (near_upper t.low t.high s.low s.high θ² s² h k t.narrow s.narrow (grind arith) (grind arith), near_lower t.low t.high s.low s.high θ² s² h k t.narrow s.narrow (grind arith) (grind arith))

pub returns-in-true-false : goal.returns-in-true-false
returns-in-true-false c = λ θ² s² h k.
    let t = c.args.self.systematic in
    let s = c.args.self.of_mean in
    (near_upper t.low t.high s.low s.high θ² s² h k t.narrow s.narrow (grind arith) (grind arith), not_random t.low t.high s.low s.high θ² s² h k (grind arith))

pub returns-in-false-true : goal.returns-in-false-true
returns-in-false-true c = λ θ² s² h k.
    let t = c.args.self.systematic in
    let s = c.args.self.of_mean in
    (near_lower t.low t.high s.low s.high θ² s² h k t.narrow s.narrow (grind arith) (grind arith), not_systematic t.low t.high s.low s.high θ² s² h k (grind arith))

pub returns-in-false-false : goal.returns-in-false-false
returns-in-false-false c = λ θ² s² h k.
    let t = c.args.self.systematic in
    let s = c.args.self.of_mean in
    mixed_sure t.low t.high s.low s.high θ² s² h k (grind arith) (grind arith)
