-- Whole numbers of grains stay at most GRAINS: a quotient is at most what its bound multiplies out to (quotient_most), so a square is (square_most), and so is what a bracket takes off (taken_most). Assumes nothing.
use Rattle.std.proofs.Common.{ℕ, ◌*◌, ◌/◌, ◌<◌, ◌≤◌, le_trans, mul-le-mul, mul-le-mul_left, mul-pos, div-mul-le_self, le_of_mul-le-mul_right, lit≤}
use Rattle.angle.specs.Angle.{GRAINS, square_of}

pub quotient_most : {a b k : ℕ} → 0 < k → a ≤ b * k → a / k ≤ b
quotient_most {a} {b} {k} K h = le_of_mul-le-mul_right (le_trans (div-mul-le_self a k) h) K

pub square_most : {n : ℕ} → n ≤ GRAINS → square_of n ≤ GRAINS
unfolding square_of
square_most h = quotient_most (lit≤ tt) (mul-le-mul h h)

pub taken_most : {q d t : ℕ} → q ≤ GRAINS → t ≤ GRAINS → 1 ≤ d → q * t / (GRAINS * d) ≤ GRAINS
taken_most {q} {d} {t} h k D = quotient_most (mul-pos (lit≤ tt) D) (le_trans (mul-le-mul h k) (mul-le-mul_left GRAINS (mul-le-mul_left GRAINS D)))
