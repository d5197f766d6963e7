-- Distances between whole numbers, as factors. `By P k x y` says x ≤ y * ((P + 1) / P) ^ k, multiplied out: x is at most k steps above y. `Near` is that both ways round,
-- and `NearUpTo` both ways round but for an excess, which a number too small to be rounded well may have. One rounding is one step, with P = 2 ^ prec (`Rounding`).
-- The laws of `By`: an order is a distance of any number of steps (by_of_le), and one step is an inequality (by_of_step); distances add up along a chain (by_trans, by_le_trans, le_by_trans)
-- and in a product (by_mul), and stay in a sum (by_add); steps may be added (by_weaken), a common factor put in or taken out (by_scale, by_of_scaled), both sides regrouped (by_regroup);
-- a small excess is worth one step (by_of_excess); and out of a distance comes an order (le_of_by). Those of `Near` and `NearUpTo` are named
-- after them; near_trans_by regroups on the way. Assumes nothing.
use mathlib.Core.Path.{◌≡◌, refl, sym, ap, ◌∙◌}
use Prim.Native.Nat.{ℕ, suc, ◌+◌, ◌*◌, ◌^◌, ◌≤◌, ◌<◌}
use native.Mathlib.Nat.{le_refl, le_trans, le_of_eq, le-suc, mul-le-mul, mul-le-mul_left, mul-le-mul_right, le_of_mul-le-mul_right, one-le-pow, pow-le-pow_left, one-mul, pow-zero, pow-suc, add_comm}
use native.Mathlib.Omega.{arith}
use lib.Pow.{pow-add}

pub record By (P k x y : ℕ) : Type 0 where
  pub multiplied : x * P ^ k ≤ y * suc P ^ k

pub by_of_le : (P k : ℕ) {x y : ℕ} → x ≤ y → By P k x y
by_of_le P k h = record { multiplied = mul-le-mul h (pow-le-pow_left (le-suc P) k) }

pub by_of_step : {P x y : ℕ} → x * P ≤ y * suc P → By P 1 x y
by_of_step {P} h = record { multiplied = rw (pow_one P, pow_one (suc P)) h }
  where
    pow_one : (n : ℕ) → n ^ 1 ≡ n
    pow_one n = pow-suc n 0 ∙ ap (λ (z : ℕ). z * n) (pow-zero n) ∙ one-mul n

pub by_trans : {P j k x y z : ℕ} → By P j x y → By P k y z → By P (j + k) x z
by_trans {P} {j} {k} h g = record { multiplied = rw (pow-add P j k, pow-add (suc P) j k) (omega (arith, mul-le-mul_right (P ^ k) h.multiplied, mul-le-mul_right (suc P ^ j) g.multiplied)) }

pub by_le_trans : {P k x y z : ℕ} → By P k x y → y ≤ z → By P k x z
by_le_trans {P} {k} h g = record { multiplied = le_trans h.multiplied (mul-le-mul_right (suc P ^ k) g) }

pub le_by_trans : {P k x y z : ℕ} → x ≤ y → By P k y z → By P k x z
le_by_trans {P} {k} g h = record { multiplied = le_trans (mul-le-mul_right (P ^ k) g) h.multiplied }

pub by_mul : {P j k x y u v : ℕ} → By P j x y → By P k u v → By P (j + k) (x * u) (y * v)
by_mul {P} {j} {k} h g = record { multiplied = rw (pow-add P j k, pow-add (suc P) j k) (omega (arith, mul-le-mul h.multiplied g.multiplied)) }

pub by_add : {P k x y u v : ℕ} → By P k x y → By P k u v → By P k (x + u) (y + v)
by_add h g = record { multiplied = omega arith }

pub by_weaken : {P j : ℕ} (k : ℕ) {x y : ℕ} → By P j x y → By P (j + k) x y
by_weaken {P} k {y = y} h = by_trans h (by_of_le P k (le_refl y))

pub by_scale : {P k x y : ℕ} (c : ℕ) → By P k x y → By P k (x * c) (y * c)
by_scale c h = record { multiplied = omega (arith, mul-le-mul_right c h.multiplied) }

pub by_of_scaled : {P k x y : ℕ} (c : ℕ) → 0 < c → By P k (x * c) (y * c) → By P k x y
by_of_scaled {P} {k} {x} {y} c C h =
    let scaled : x * P ^ k * c ≤ y * suc P ^ k * c = omega arith in
    record { multiplied = le_of_mul-le-mul_right scaled C }

pub by_regroup : {P k x y x' y' : ℕ} → By P k x y → x ≡ x' → y ≡ y' → By P k x' y'
by_regroup h e d = le_by_trans (le_of_eq (sym e)) (by_le_trans h (le_of_eq d))

pub by_of_excess : {P k x y : ℕ} (c : ℕ) → By P k x (y + c) → c * P ≤ y → By P (k + 1) x y
by_of_excess c h g = by_trans h (by_of_step (omega arith))

-- x ≤ y * t / s, where k steps multiply by no more than t / s
pub le_of_by : {P k x y : ℕ} (s t : ℕ) → 0 < P → suc P ^ k * s ≤ P ^ k * t → By P k x y → x * s ≤ y * t
le_of_by {P} {k} {x} {y} s t A g h =
    let scaled : x * s * P ^ k ≤ y * t * P ^ k = omega (arith, mul-le-mul_right s h.multiplied, mul-le-mul_left y g) in
    le_of_mul-le-mul_right scaled (one-le-pow k P A)

-- ---- both ways round
pub record Near (P k x y : ℕ) : Type 0 where
  pub above : By P k x y
  pub below : By P k y x

pub near_sym : {P k x y : ℕ} → Near P k x y → Near P k y x
near_sym h = record { above = h.below; below = h.above }

pub near_regroup : {P k x y x' y' : ℕ} → Near P k x y → x ≡ x' → y ≡ y' → Near P k x' y'
near_regroup h e d = record { above = by_regroup h.above e d; below = by_regroup h.below d e }

pub near_trans : {P j k x y z : ℕ} → Near P j x y → Near P k y z → Near P (j + k) x z
near_trans {P} {j} {k} {x} {z = z} h g = record { above = by_trans h.above g.above; below = rw (add_comm k j) at (by_trans g.below h.below) }

-- with the middle regrouped
pub near_trans_by : {P j k x y y' z : ℕ} → Near P j x y → y ≡ y' → Near P k y' z → Near P (j + k) x z
near_trans_by h e g = near_trans (near_regroup h refl e) g

pub near_mul : {P j k x y u v : ℕ} → Near P j x y → Near P k u v → Near P (j + k) (x * u) (y * v)
near_mul h g = record { above = by_mul h.above g.above; below = by_mul h.below g.below }

pub near_scale : {P k x y : ℕ} (c : ℕ) → Near P k x y → Near P k (x * c) (y * c)
near_scale c h = record { above = by_scale c h.above; below = by_scale c h.below }

pub near_of_scaled : {P k x y : ℕ} (c : ℕ) → 0 < c → Near P k (x * c) (y * c) → Near P k x y
near_of_scaled c C h = record { above = by_of_scaled c C h.above; below = by_of_scaled c C h.below }

-- ---- both ways round, but for an excess c
pub record NearUpTo (P k c x y : ℕ) : Type 0 where
  pub above : By P k x (y + c)
  pub below : By P k y (x + c)

pub near_up_to_trans : {P j k c d x y z : ℕ} → NearUpTo P j c x y → NearUpTo P k d y z → NearUpTo P (j + k) (c + d) x z
near_up_to_trans {P} {j} {k} {c} {d} {x} {y} {z} h g =
    let back : By P (k + j) z (x + (c + d)) = by_regroup (by_trans g.below (by_add h.below (by_of_le P j (le_refl d)))) refl (omega arith) in
    record { above = by_regroup (by_trans h.above (by_add g.above (by_of_le P k (le_refl c)))) refl (omega arith); below = rw (add_comm k j) at back }

pub near_up_to_add : {P k c d x y u v : ℕ} → NearUpTo P k c x y → NearUpTo P k d u v → NearUpTo P k (c + d) (x + u) (y + v)
near_up_to_add h g = record { above = by_regroup (by_add h.above g.above) refl (omega arith); below = by_regroup (by_add h.below g.below) refl (omega arith) }

pub near_up_to_weaken : {P j c x y : ℕ} (k : ℕ) → NearUpTo P j c x y → NearUpTo P (j + k) c x y
near_up_to_weaken k h = record { above = by_weaken k h.above; below = by_weaken k h.below }

pub near_up_to_scale : {P k c x y : ℕ} (m : ℕ) → NearUpTo P k c x y → NearUpTo P k (c * m) (x * m) (y * m)
near_up_to_scale m h = record { above = by_regroup (by_scale m h.above) refl (omega arith); below = by_regroup (by_scale m h.below) refl (omega arith) }

pub near_up_to_regroup : {P k c c' x y x' y' : ℕ} → NearUpTo P k c x y → c ≡ c' → x ≡ x' → y ≡ y' → NearUpTo P k c' x' y'
near_up_to_regroup h b e d = record { above = by_regroup h.above e (omega arith); below = by_regroup h.below d (omega arith) }

-- an excess that is small beside both is worth one step
pub near_of_excess : {P k c x y : ℕ} → NearUpTo P k c x y → c * P ≤ x → c * P ≤ y → Near P (k + 1) x y
near_of_excess {c = c} h g l = record { above = by_of_excess c h.above l; below = by_of_excess c h.below g }
