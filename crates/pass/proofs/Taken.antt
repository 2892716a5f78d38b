-- What a reading in its range is, from the test that it passed.
use Rattle.std.proofs.Common.{◌≡◌, ◌≤◌, Bool, true, false, ◌&&◌, ℤ, pos, negsuc, ◌+ℤ◌, nat_abs, ◌≤ℤ◌, refl, arith}
use lib.Signed.{le_z}
use Rattle.std.proofs.lemmas.Int.{ints}
use Rattle.exact.proofs.Quotients.{sized}
use Rattle.pass.specs.Ranges.{between, temperate, pressed}
use Rattle.pass.specs.Values.{weighable}

-- both tests passed
pub both : (a b : Bool) → (a && b) ≡ true → (a ≡ true) × (b ≡ true)
both true true e = (refl, refl)
both true false e = absurd (grind arith)
both false b e = absurd (grind arith)

pub least_of : (l m z : ℤ) → between l m z ≡ true → l ≤ℤ z
least_of l m z h = let e = (both (le_z l z) (le_z z m) h).0 in grind (arith, ints)

pub most_of : (l m z : ℤ) → between l m z ≡ true → z ≤ℤ m
most_of l m z h = let e = (both (le_z l z) (le_z z m) h).1 in grind (arith, ints)

-- a temperature in its range, as hundredths of a degree above −10 °C
pub temperate_raised : (t : ℤ) → temperate t ≡ true → (t +ℤ pos 1000 ≡ pos (nat_abs (t +ℤ pos 1000))) × (nat_abs (t +ℤ pos 1000) ≤ 6000)
temperate_raised t h =
    let l = least_of (negsuc 999) (pos 5000) t h in
    let m = most_of (negsuc 999) (pos 5000) t h in
    (sized (t +ℤ pos 1000) (omega (arith, ints)), omega (arith, ints))

-- a pressure in its range, in kPa
pub pressed_natural : (p : ℤ) → pressed p ≡ true → (p ≡ pos (nat_abs p)) × (nat_abs p ≤ 10000)
pressed_natural p h =
    let l = least_of (pos 0) (pos 10000) p h in
    let m = most_of (pos 0) (pos 10000) p h in
    (sized p l, omega (arith, ints))

-- a pair that a reference may give, from the test that it passed
pub weighable_least : (low high : ℤ) → weighable low high ≡ true → pos 10000000 ≤ℤ low
weighable_least low high h = let e = (both (le_z (pos 10000000) low) (le_z high (pos 30000000000)) h).0 in grind (arith, ints)

pub weighable_most : (low high : ℤ) → weighable low high ≡ true → high ≤ℤ pos 30000000000
weighable_most low high h = let e = (both (le_z (pos 10000000) low) (le_z high (pos 30000000000)) h).1 in grind (arith, ints)
