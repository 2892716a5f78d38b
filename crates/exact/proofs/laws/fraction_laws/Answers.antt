use Rattle.exact.proofs.Order.{le_refl, le_trans, le_or_lt, not_lt}
use Rattle.exact.proofs.Arithmetic.{add_mono, neg_mono, mul_mono}
use Rattle.exact.proofs.Quotients.{quotient_least, quotient_most, least_quotient, most_quotient}
use Rattle.exact.proofs.laws.fraction_laws.Goals as goal

pub returns : goal.returns
returns c = (
  le_refl,
  (λ a b d h k. le_trans h k),
  le_or_lt,
  (λ a b h k. not_lt h k),
  (λ a b d e h k. add_mono h k),
  (λ a b h. neg_mono h),
  (λ a b d e p q h k. mul_mono p q h k),
  (λ a b q o. (quotient_least o, least_quotient o)),
  (λ a b q o. (quotient_most o, most_quotient o)),
)
