-- Pairs that are the same hold the same.
use Rattle.std.proofs.Common.{◌≡◌, ℕ, ◌*◌, Bool, true, false, ℤ, pos, ◌+ℤ◌, nat_abs, ◌≤ℤ◌, Ok, sym, refl, ap, ◌∙◌, subst}
use Rattle.exact.specs.Fractions.{Fraction}
use Rattle.exact.specs.Figures.{number}
use Rattle.exact.specs.Pairs.{Holds}
use Rattle.exact.specs.declared.pair.Pair.{Pair}
use Rattle.exact.specs.Ends.{Ends, Has}
use Rattle.pass.specs.declared.denials.Fault.{Fault}
use Rattle.pass.specs.declared.masses.ReferenceMass.{ReferenceMass}
use Rattle.reference.specs.References.{Asked}
use Rattle.sheet.specs.Sheets.{Within}

pub within_same : {unit : ℤ → Fraction} {apart : ℕ} {p q : Pair} {x : Fraction} → p ≡ q → Holds unit q.low q.high (number x) → q.high ≤ℤ (q.low +ℤ pos apart) → Within unit apart p x
within_same {unit} {apart} {p} {q} {x} e h n = subst (λ (z : Pair). Within unit apart z x) (sym e) (record { holds = h; narrow = n })

-- a reference that answered took the record
pub answered : (t : Bool) (e : Ends) (f : Fault) (m : ReferenceMass) → Asked t e f (Ok m) → (t ≡ true) × Has m.pair e
answered true e f m h = (refl, h)
answered false e f m h = absurd h

-- the same quotient in steps, of ends that are given otherwise
pub quotient_same : (f : ℕ → ℕ → ℕ) {a b c : ℤ} {m : ℕ} → a ≡ b → c ≡ pos m → pos (f (100000000 * nat_abs a) (nat_abs c)) ≡ pos (f (100000000 * nat_abs b) m)
quotient_same f {a} {b} {c} {m} h k =
    ap (λ (z : ℤ). pos (f (100000000 * nat_abs z) (nat_abs c))) h ∙ ap (λ (z : ℤ). pos (f (100000000 * nat_abs b) (nat_abs z))) k
