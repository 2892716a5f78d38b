-- That the pair of a master meter is owed to every reference, as a lemma that its law cites.
use Rattle.std.specs.Prelude.{◌≡◌, ℕ, ◌*◌, ◌≤◌, true, ◌&&◌, pos, unsigned_abs}
use Rattle.std.proofs.Common.{mul-pos, arith}
use Rattle.std.proofs.lemmas.Int.{ints}
use Rattle.exact.proofs.Quotients.{floor_ceil}
use Rattle.pass.specs.Gates.{matched}
use Rattle.pass.specs.Ranges.{countable, lasting}
use Rattle.pass.specs.Values.{weighable}
use Rattle.pass.specs.declared.readings.Record.{Record}
use Rattle.pass.proofs.Counts.{mass_holds_read}
use Rattle.pass.proofs.Taken.{both, least_of, weighable_least, weighable_most}
use Rattle.reference.specs.References.{Weighs}
use Rattle.reference.specs.Masters.{master_counts, master_takes, master_mass, master_low, master_high}

pub master_weighs : (k : ℕ) → 10000000 ≤ k → (r : Record) → master_takes k r ≡ true
    → Weighs (master_mass k r) (record { low = pos (master_low k r); high = pos (master_high k r) })
master_weighs k settable r h =
    let taken = both (master_counts r) (weighable (pos (master_low k r)) (pos (master_high k r))) h in
    let n = r.master_pulses in
    let d = r.detector_time in
    let t = r.master_time in
    let a = both (lasting d) (countable n && (lasting t && matched n d t)) taken.0 in
    let b = both (countable n) (lasting t && matched n d t) a.1 in
    let c = both (lasting t) (matched n d t) b.1 in
    let detector = least_of (pos 1) (pos 600000000) d a.0 in
    let pulses = least_of (pos 1100) (pos 800000) n b.0 in
    let time = least_of (pos 1) (pos 600000000) t c.0 in
    let one = (floor_ceil (10000000000000 * (unsigned_abs n * unsigned_abs d)) (unsigned_abs t * k) (mul-pos {m = unsigned_abs t} {n = k} (omega (arith, ints)) (omega arith))).1 in
    record {
      holds = mass_holds_read k n d t (omega arith) (omega (arith, ints)) (omega (arith, ints)) time;
      least = weighable_least (pos (master_low k r)) (pos (master_high k r)) taken.1;
      most = weighable_most (pos (master_low k r)) (pos (master_high k r)) taken.1;
      narrow = omega arith;
    }
