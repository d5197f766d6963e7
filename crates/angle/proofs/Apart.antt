-- Distances between whole numbers, as fractions of 1: `Apart P e x y` says that x and y are at most e / P apart. The laws: distances add up along a chain (apart_trans), a common factor may be put in and taken out
-- (apart_scale, apart_of_scaled), a larger distance be said in other parts (apart_of_finer), both sides regrouped (apart_regroup); and what one rounding of a number up to 1 costs is a part in 2^24, in either
-- format (apart_of_rounded). Assumes nothing.
use Rattle.std.proofs.Common.{◌≡◌, ℕ, suc, ◌+◌, ◌*◌, ◌^◌, ◌<◌, ◌≤◌, mul-le-mul_right, le_of_mul-le-mul_right, arith, lit≤}
use lib.Ieee.{Format, binary32, binary64, hid}
use Rattle.real.specs.Units.{unit}
use Rattle.real.proofs.Near.{le_of_by}
use Rattle.real.proofs.Rounding.{parts, parts_pos, Rounded}

pub record Apart (P e x y : ℕ) : Type 0 where
  pub above : x * P ≤ y * P + e
  pub below : y * P ≤ x * P + e

pub apart_trans : {P d e x y z : ℕ} → Apart P d x y → Apart P e y z → Apart P (d + e) x z
apart_trans h k = record { above = omega arith; below = omega arith }

pub apart_regroup : {P e x y x' y' : ℕ} → Apart P e x y → x ≡ x' → y ≡ y' → Apart P e x' y'
apart_regroup {P} h p q = rw (← p, ← q) h

pub apart_scale : {P e x y : ℕ} (c : ℕ) → Apart P e x y → Apart P (e * c) (x * c) (y * c)
apart_scale c h = record { above = omega (arith, mul-le-mul_right c h.above); below = omega (arith, mul-le-mul_right c h.below) }

pub apart_of_scaled : {P e x y : ℕ} (c : ℕ) → 0 < c → Apart P (e * c) (x * c) (y * c) → Apart P e x y
apart_of_scaled {P} {e} {x} {y} c C h =
    let above : x * P * c ≤ (y * P + e) * c = omega (arith, h.above) in
    let below : y * P * c ≤ (x * P + e) * c = omega (arith, h.below) in
    record { above = le_of_mul-le-mul_right above C; below = le_of_mul-le-mul_right below C }

pub apart_of_finer : {Q d x y : ℕ} (P e : ℕ) → 0 < Q → d * P ≤ e * Q → Apart Q d x y → Apart P e x y
apart_of_finer {Q} {d} {x} {y} P e A l h =
    let above : x * P * Q ≤ (y * P + e) * Q = omega (arith, mul-le-mul_right P h.above) in
    let below : y * P * Q ≤ (x * P + e) * Q = omega (arith, mul-le-mul_right P h.below) in
    record { above = le_of_mul-le-mul_right above A; below = le_of_mul-le-mul_right below A }

-- ---- one rounding
one_step : (f : Format) → suc (parts f) ^ 1 * 2 ^ 24 ≤ parts f ^ 1 * suc (2 ^ 24)
one_step binary32 = lit≤ tt
one_step binary64 = lit≤ tt

-- what has no more digits than the format keeps is far below 1
small_parts : (f : Format) → hid f * 2 ^ 24 ≤ unit f
small_parts binary32 = lit≤ tt
small_parts binary64 = lit≤ tt

pub apart_of_rounded : {f : Format} {g n c : ℕ} → Rounded f g n c → n ≤ unit f * c → g ≤ unit f → Apart (2 ^ 24) (unit f * c) (g * c) n
apart_of_rounded {f} {g} {n} {c} (Rounded.large h) k l =
    let above : g * c * 2 ^ 24 ≤ n * suc (2 ^ 24) = le_of_by (2 ^ 24) (suc (2 ^ 24)) (parts_pos f) (one_step f) h.above in
    let below : n * 2 ^ 24 ≤ g * c * suc (2 ^ 24) = le_of_by (2 ^ 24) (suc (2 ^ 24)) (parts_pos f) (one_step f) h.below in
    record { above = omega arith; below = omega (arith, mul-le-mul_right c l) }
apart_of_rounded {f} {g} {n} {c} (Rounded.small h m) k l =
    let tiny : hid f * 2 ^ 24 * c ≤ unit f * c = mul-le-mul_right c (small_parts f) in
    record { above = omega (arith, mul-le-mul_right c m); below = omega arith }
