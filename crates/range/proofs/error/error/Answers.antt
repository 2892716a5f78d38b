use Rattle.std.proofs.Common.{subst, inl, inr, arith}
use Rattle.range.specs.Outcomes.{Decided}
use Rattle.range.specs.Rules.{systematic, random, mixed}
use Rattle.range.proofs.Errors.{error_one, error_two, error_three}
use Rattle.range.proofs.error.error.Goals as goal

pub returns-in-Systematic-clause-holds : goal.returns-in-Systematic-clause-holds
returns-in-Systematic-clause-holds c = λ θ² s² ε² d h k.
    let t = c.from-systematic.ensures in
    rw (t.0, t.1) (error_one θ² s² ε² systematic _ _ (subst (Decided θ² s²) c.in-Systematic.is d) (omega arith) h)

pub returns-in-Random-clause-holds : goal.returns-in-Random-clause-holds
returns-in-Random-clause-holds c = λ θ² s² ε² d h k.
    let e = c.from-random.ensures in
    rw (e.0, e.1) (error_one θ² s² ε² random _ _ (subst (Decided θ² s²) c.in-Random.is d) c.args.random.narrow k)

pub returns-in-Mixed-clause-holds : goal.returns-in-Mixed-clause-holds
returns-in-Mixed-clause-holds c = λ θ² s² ε² d h k.
    let m = c.from-both.ensures in
    rw (m.0, m.1) (error_one θ² s² ε² mixed _ _ (subst (Decided θ² s²) c.in-Mixed.is d) c.mixed.result.narrow (c.mixed.ensures.holds θ² ε² h k))

pub returns-in-Upper-clause-holds : goal.returns-in-Upper-clause-holds
returns-in-Upper-clause-holds c = λ θ² s² ε² d h k.
    let t = c.args.systematic in
    let m = c.mixed.result in
    let u = subst (Decided θ² s²) c.in-Upper.is d in
    error_two θ² s² ε² systematic mixed t.low t.high m.low m.high (inl u.0) (inr u.0) (inr (inl u.0)) u.1 (omega arith) m.narrow h (c.mixed.ensures.holds θ² ε² h k) _ _ (cc) (cc)

pub returns-in-Lower-clause-holds : goal.returns-in-Lower-clause-holds
returns-in-Lower-clause-holds c = λ θ² s² ε² d h k.
    let e = c.args.random in
    let m = c.mixed.result in
    let u = subst (Decided θ² s²) c.in-Lower.is d in
    error_two θ² s² ε² random mixed e.low e.high m.low m.high (inr u.0) (inr u.0) (inr (inr u.0)) u.1 e.narrow m.narrow k (c.mixed.ensures.holds θ² ε² h k) _ _ (cc) (cc)

pub returns-in-Both-clause-holds : goal.returns-in-Both-clause-holds
returns-in-Both-clause-holds c = λ θ² s² ε² d h k.
    let t = c.args.systematic in
    let e = c.args.random in
    let m = c.mixed.result in
    let u = subst (Decided θ² s²) c.in-Both.is d in
    error_three θ² s² ε² t.low t.high e.low e.high m.low m.high u.0 u.1 (omega arith) e.narrow m.narrow h k (c.mixed.ensures.holds θ² ε² h k) _ _ (cc) (cc)
