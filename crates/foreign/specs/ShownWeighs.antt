-- That what a scale shows is owed to every reference, as a lemma that its law cites.
use Rattle.std.specs.Prelude.{ℕ, ◌≤◌, pos}
use Rattle.std.proofs.Common.{arith}
use Rattle.std.proofs.lemmas.Int.{ints}
use Rattle.exact.specs.Fractions.{nat}
use Rattle.exact.proofs.Order.{le_refl}
use Rattle.reference.specs.References.{Weighs}

pub shown_weighs : (n : ℕ) → 10000000 ≤ n → n ≤ 30000000000 → Weighs (nat n) (record { low = pos n; high = pos n })
shown_weighs n least most = record {
  holds = record { least = le_refl (nat n); most = le_refl (nat n) };
  least = omega (arith, ints);
  most = omega (arith, ints);
  narrow = omega arith;
}
