-- What the rounding of a root costs: `root_rounds` says that the square of the rounded root of a number above zero is near that number, within two steps. Assumes nothing.
use mathlib.Core.Path.{refl}
use mathlib.Core.Bool.{false}
use Prim.Native.Nat.{ℕ, suc, ◌+◌, ◌-◌, ◌*◌, ◌≤◌, ◌<◌}
use native.Mathlib.Nat.{lt_of_not-le, mul-le-mul_right}
use native.Mathlib.Decide.{dec_le}
use native.Mathlib.Omega.{arith}
use lib.Dec.{T, lit<}
use lib.Ieee.{Float, Format, hid, fits}
use lib.Ieee.Positive.{positive}
use Rattle.real.specs.Root.{root_of}
use Rattle.real.specs.Units.{unit, count}
use Rattle.real.proofs.SignedCounts.{Counted}
use Rattle.real.proofs.Near.{By, by_of_step, by_le_trans, le_by_trans, by_mul, by_of_scaled, by_regroup, Near}
use Rattle.real.proofs.RootNear.{root_of_near}
use Rattle.real.proofs.Rounding.{parts}

-- r has no sign, and its square is the count of x, both in units, within two steps
pub record RootRounds (f : Format) (x r : Float) : Type 0 where
  pub units : ℕ
  pub counted : Counted f r false units
  pub near : Near (parts f) 2 (units * units) (count f x * unit f)

-- r is within half of w of the root of n, and is at least H * w, as the root is
module _ (H r w n : ℕ) (exact_big : H * w * (H * w) ≤ n) (result_big : H * w ≤ r) (not_above : (r * 2 - w) * (r * 2 - w) ≤ n * 4) (not_below : n * 4 ≤ (r * 2 + w) * (r * 2 + w)) where
  square_above : By (2 * H) 2 (r * r) n
  square_above = elim (dec_le (H * w * 2) (r * 2 - w)) [ yes h ↦ from (r * 2 - w) (by_much (r * 2 - w) h (omega arith)) not_above | no h ↦ from (H * w * 2) (by_little (lt_of_not-le h)) (omega arith) ]
    where
      from : (m : ℕ) → r * 2 * (2 * H) ≤ m * suc (2 * H) → m * m ≤ n * 4 → By (2 * H) 2 (r * r) n
      from m h k =
          let g : By (2 * H) 1 (r * 2) m = by_of_step h in
          by_of_scaled 4 (lit< tt) (by_regroup (by_le_trans (by_mul g g) k) (omega arith) refl)

      by_much : (m : ℕ) → H * w * 2 ≤ m → r * 2 ≤ m + w → r * 2 * (2 * H) ≤ m * suc (2 * H)
      by_much m h k = omega (arith, mul-le-mul_right (2 * H) k)

      by_little : r * 2 - w < H * w * 2 → r * 2 * (2 * H) ≤ H * w * 2 * suc (2 * H)
      by_little h =
          let k : r * 2 ≤ H * w * 2 + w = omega arith in
          omega (arith, mul-le-mul_right (2 * H) k)

  square_below : By (2 * H) 2 n (r * r)
  square_below =
      let g : By (2 * H) 1 (r * 2 + w) (r * 2) = by_of_step (omega arith) in
      by_of_scaled 4 (lit< tt) (by_regroup (le_by_trans not_below (by_mul g g)) refl (omega arith))

  square_near : Near (2 * H) 2 (r * r) n
  square_near = record { above = square_above; below = square_below }

pub root_rounds : (f : Format) (x : Float) → T (fits f x) → T (positive x) → RootRounds f x (root_of f x)
root_rounds f x h t =
    let N = root_of_near f x h t in
    record {
      units = N.count;
      counted = record { value = N.value };
      near = square_near (hid f) N.count N.spacing (count f x * unit f) N.exact_big N.result_big N.not_above N.not_below;
    }
