-- What the error worked out for a range promises. Assumes nothing.
use Rattle.std.specs.Prelude.{◌≡◌, ◌⊎◌, ℤ, pos, ◌+ℤ◌, ◌≤ℤ◌}
use Rattle.exact.specs.Fractions.{Fraction, add, sub}
use Rattle.exact.specs.Figures.{Figure, AtMost, AtLeast}
use Rattle.exact.specs.Pairs.{Holds, steps}
use Rattle.range.specs.declared.left.Left.{Left}
use Rattle.range.specs.declared.left.Left.TheVariants.{Systematic, Random, Mixed, Upper, Lower, Both}
use Rattle.range.specs.Rules.{Rule, systematic, random, mixed, rule, error_by, error, NearUpper, NearLower}

-- Where the pairs decide the rule, they decide as the exact rule does; where they do not, the change of rule is near.
abbrev pub Decided : Fraction → Fraction → Left → Type 0
Decided θ² s² Systematic = rule θ² s² ≡ systematic
Decided θ² s² Random = rule θ² s² ≡ random
Decided θ² s² Mixed = rule θ² s² ≡ mixed
Decided θ² s² Upper = NearUpper θ² s² × ((rule θ² s² ≡ systematic) ⊎ (rule θ² s² ≡ mixed))
Decided θ² s² Lower = NearLower θ² s² × ((rule θ² s² ≡ random) ⊎ (rule θ² s² ≡ mixed))
Decided θ² s² Both = NearUpper θ² s² × NearLower θ² s²

-- a change of rule is near
abbrev pub NearChange : Fraction → Fraction → Type 0
NearChange θ² s² = NearUpper θ² s² ⊎ NearLower θ² s²

-- the rules on the two sides of a near change
abbrev pub Beside : Fraction → Fraction → Rule → Type 0
Beside θ² s² systematic = NearUpper θ² s²
Beside θ² s² random = NearLower θ² s²
Beside θ² s² mixed = NearUpper θ² s² ⊎ NearLower θ² s²

-- a rule over whose exact error the pair may reach: the rule itself, or one beside a near change
abbrev pub May : Fraction → Fraction → Rule → Type 0
May θ² s² r = (rule θ² s² ≡ r) ⊎ Beside θ² s² r

-- the figure g lies at least w above the figure f
abbrev pub Above : Fraction → Figure → Figure → Type 0
Above w f g = (u : Fraction) × AtLeast u f × AtMost (add u w) g

-- the pair is at most 2,900 steps wider than the gap from f up to g
abbrev pub Spans : ℤ → ℤ → Figure → Figure → Type 0
Spans low high f g = Above (sub (steps high) (add (steps low) (steps (pos 2900)))) f g

-- The error's pair: it holds the exact error; where no change of rule is near it is at most 1,450 steps wide;
-- and it is never wider than the gap between the exact errors by two rules that may give it, and 2,900 steps.
pub record ErrorHolds (θ² s² ε² : Fraction) (low high : ℤ) : Type 0 where
  pub holds : Holds steps low high (error θ² s² ε²)
  pub narrow : (NearChange θ² s² → ⊥) → high ≤ℤ (low +ℤ pos 1450)
  pub reach : (a : Rule) × (b : Rule) × May θ² s² a × May θ² s² b × Spans low high (error_by a θ² ε²) (error_by b θ² ε²)
