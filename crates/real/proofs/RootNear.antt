-- The rounded root of a number above zero is near the exact one: the statement is `RootNear`, and `root_of` has it. Assumes nothing.
use mathlib.Core.Path.{sym, subst}
use mathlib.Core.Bool.{false}
use Prim.Native.Nat.{ℕ, ◌+◌, ◌-◌, ◌*◌, ◌/◌, ◌^◌, ◌≤◌, ◌<◌}
use native.Mathlib.Nat.{le_trans, le_of_eq, mul-le-mul_right}
use native.Mathlib.Omega.{arith}
use lib.Dec.{T}
use lib.Ieee.{Float, Format, hid, fits}
use lib.Ieee.Exact.{HasValue}
use lib.Ieee.Positive.{positive}
use Rattle.real.specs.Units.{unit, count as unitsOf}
use Rattle.real.specs.Root.{root_of}
use Rattle.real.proofs.Squares.{square_le}
use Rattle.real.proofs.Gap.{twice_hid}
use Rattle.real.proofs.LeadingRoot.{rounded, lower_scaled, upper_scaled}
use Rattle.real.proofs.RootOfUnits.{rounds_positive, root_of_positive}

-- r is `count` units, and no further than half a `spacing` from the exact root of x, which is at least hid f * spacing units: so `spacing` is the distance of the format's values there.
-- In squares, multiplied out: the exact root is the root of (units of x) * unit, in units.
pub record RootNear (f : Format) (x r : Float) : Type 0 where
  pub count : ℕ
  pub value : HasValue r false count (unit f)
  pub spacing : ℕ
  pub exact_big : hid f * spacing * (hid f * spacing) ≤ unitsOf f x * unit f
  pub result_big : hid f * spacing ≤ count
  pub not_above : (count * 2 - spacing) * (count * 2 - spacing) ≤ unitsOf f x * unit f * 4
  pub not_below : unitsOf f x * unit f * 4 ≤ (count * 2 + spacing) * (count * 2 + spacing)

-- ---- n digits of the root in units of K, the last of them rounded away
module _ (n K H S : ℕ) (big : 2 * H ≤ n) (lower : n * K * (n * K) ≤ S) (upper : S < (n + 1) * K * ((n + 1) * K)) where
  half_up : (n ≤ (n + 1) / 2 * 2) × ((n + 1) / 2 * 2 ≤ n + 1)
  half_up = omega arith

  big_exact : H * (2 * K) * (H * (2 * K)) ≤ S
  big_exact = le_trans (square_le (omega (arith, mul-le-mul_right K big))) lower

  big_result : H * (2 * K) ≤ (n + 1) / 2 * (2 * K)
  big_result = mul-le-mul_right (2 * K) (omega arith)

  above_at_most : ((n + 1) / 2 * (2 * K) * 2 - 2 * K) * ((n + 1) / 2 * (2 * K) * 2 - 2 * K) ≤ S * 4
  above_at_most = le_trans (square_le (less ((n + 1) / 2 * (2 * K)) (n * K) K (omega (arith, mul-le-mul_right K half_up.1)))) (omega arith)
    where
      less : (N x K : ℕ) → N ≤ x + K → N * 2 - 2 * K ≤ x * 2
      less N x K h = omega arith

  below_at_most : S * 4 ≤ ((n + 1) / 2 * (2 * K) * 2 + 2 * K) * ((n + 1) / 2 * (2 * K) * 2 + 2 * K)
  below_at_most = le_trans {m = (n + 1) * K * 2 * ((n + 1) * K * 2)} (omega arith) (square_le (omega (arith, mul-le-mul_right K half_up.0)))

pub root_of_near : (f : Format) (x : Float) → T (fits f x) → T (positive x) → RootNear f x (root_of f x)
root_of_near f x h t =
    let S = unitsOf f x * unit f in
    let z = rounds_positive f x h t in
    let n = z.n in
    let K = 2 ^ z.k in
    let big : 2 * hid f ≤ n = le_trans (le_of_eq (sym (twice_hid f))) z.leads.big in
    let lower = lower_scaled f S n z.k z.leads in
    let upper = upper_scaled f S n z.k z.leads in
    record {
      count = rounded n z.k;
      value = subst (λ (r : Float). HasValue r false (rounded n z.k) (unit f)) (sym (root_of_positive f x t)) z.counted.1;
      spacing = 2 * K;
      exact_big = big_exact n K (hid f) S big lower upper;
      result_big = big_result n K (hid f) S big lower upper;
      not_above = above_at_most n K (hid f) S big lower upper;
      not_below = below_at_most n K (hid f) S big lower upper;
    }
