-- The chain of roundings of rule 8, over counts of units: a and b are the demands, l the limit. `Test` has what the slide test works out, where it passes; `Skid` what follows it.
-- The laws, in order: the test's sum of squares is near the exact one within four steps (sum_near), skid's square times that sum is near the limit's square within seven (skid_near), and so the
-- impulses, rescaled or not, hold to the limit within fourteen (cut_near, uncut_near). Assumes nothing.
use mathlib.Core.Path.{◌≡◌, refl, sym}
use Prim.Native.Nat.{ℕ, suc, ◌+◌, ◌*◌, ◌^◌, ◌≤◌, ◌<◌}
use native.Mathlib.Nat.{le_trans, le_of_eq, le_of_lt, lt_of_lt_of_le, le_of_mul-le-mul_right, lt_of_mul-lt-mul_right, mul-le-mul, mul-le-mul_left, mul-le-mul_right, mul-lt-mul_of_pos_right, mul-pos, mul-one}
use native.Mathlib.Omega.{arith}
use lib.Pow.{pow_pos}
use lib.Ieee.{Format, low, hid}
use Rattle.real.specs.Units.{unit}
use Rattle.real.proofs.Near.{By, by_trans, by_le_trans, le_by_trans, by_weaken, by_scale, by_of_scaled, le_of_by, Near, near_sym, near_trans, near_trans_by, near_mul, near_scale, near_of_scaled, near_regroup, NearUpTo, near_up_to_trans, near_up_to_add, near_up_to_weaken, near_up_to_scale, near_up_to_regroup, near_of_excess}
use Rattle.real.proofs.Squares.{le_of_square_lt}
use Rattle.real.proofs.Rounding.{parts, parts_pos, Rounded, near_of_large, near_of_large_result, near_up_to_of_rounded, near_up_to_square}
use Rattle.tyre.proofs.Ranges.{least, excess, ranges}

-- four times the exact left side of the slide test: (forward / 2)² + side²
abbrev pub fourfold : ℕ → ℕ → ℕ
fourfold a b = a * a + b * b * 4

-- what the slide test works out, each from what stands above it, where it passes
pub record Test (f : Format) (a b l : ℕ) : Type 0 where
  pub half : ℕ
  pub forward² : ℕ
  pub side² : ℕ
  pub limit² : ℕ
  pub load : ℕ
  pub half_rounded : Rounded f half a 2
  pub forward_rounded : Rounded f forward² (half * half) (unit f)
  pub side_rounded : Rounded f side² (b * b) (unit f)
  pub limit_rounded : Rounded f limit² (l * l) (unit f)
  pub load_rounded : Rounded f load (forward² + side²) 1
  pub load_most : load ≤ 2 ^ 81 * unit f
  pub passes : limit² < load

-- what follows the test
pub record Skid (f : Format) (l load : ℕ) : Type 0 where
  pub root : ℕ
  pub inverse : ℕ
  pub skid : ℕ
  pub root_near : Near (parts f) 2 (root * root) (load * unit f)
  pub inverse_rounded : Rounded f inverse (unit f * unit f) root
  pub skid_rounded : Rounded f skid (l * inverse) (unit f)

-- the sum of the rounded squares, as it is before its own rounding
abbrev pub sum_of : {f : Format} {a b l : ℕ} → Test f a b l → ℕ
sum_of {f} t = (t.forward² + t.side²) * unit f

-- up to fourteen steps are less than doubling
pub twice : (f : Format) {k x y : ℕ} (j : ℕ) → k + j ≡ 14 → By (parts f) k x y → x ≤ y * 2
twice f {k} {x} {y} j e h =
    let g : By (parts f) 14 x y = rw e at (by_weaken j h) in
    le_trans (le_of_eq (sym (mul-one x))) (le_of_by 1 2 (parts_pos f) (le_trans (le_of_eq (mul-one (suc (parts f) ^ 14))) (ranges f).doubles) g)

module _ {f : Format} {a b l : ℕ} (t : Test f a b l) (large : least f ≤ l) where
  -- ---- the slide test: the limit's square is at most two steps above the sum
  square_large : least f * least f ≤ l * l
  square_large = mul-le-mul large large

  limit_near : Near (parts f) 1 (t.limit² * unit f) (l * l)
  limit_near = near_of_large t.limit_rounded (omega (arith, (ranges f).limit_large, square_large))

  load_large : hid f < t.load
  load_large =
      let d : l * l ≤ t.limit² * unit f * 2 = twice f 13 refl limit_near.below in
      let h : hid f * unit f < t.limit² * unit f = omega (arith, (ranges f).limit_large, square_large) in
      lt_of_lt_of_le (lt_of_mul-lt-mul_right (unit f) h) (le_of_lt t.passes)

  pub load_near : Near (parts f) 1 t.load (t.forward² + t.side²)
  load_near = near_regroup (near_of_large_result t.load_rounded load_large) (mul-one t.load) refl

  passed : By (parts f) 2 (l * l) (sum_of t)
  passed = by_trans (by_le_trans limit_near.below (mul-le-mul_right (unit f) (le_of_lt t.passes))) (by_scale (unit f) load_near.above)

  -- ---- the sum of squares
  sum_near_up_to : NearUpTo (parts f) 3 (excess f) (sum_of t * 4) (fourfold a b)
  sum_near_up_to =
      let x = near_up_to_scale 4 (near_up_to_of_rounded t.forward_rounded) in
      let h : NearUpTo (parts f) 2 (hid f * hid f * 4) (t.half * t.half * 4) (a * a) = near_up_to_regroup (near_up_to_square t.half_rounded) (omega arith) (omega arith) refl in
      let y = near_up_to_weaken 2 (near_up_to_scale 4 (near_up_to_of_rounded t.side_rounded)) in
      near_up_to_regroup (near_up_to_add (near_up_to_trans x h) y) (omega arith) (omega arith) refl

  sum_near : Near (parts f) 4 (sum_of t * 4) (fourfold a b)
  sum_near =
      let grown : sum_of t * 4 ≤ (fourfold a b + excess f) * 2 = twice f 11 refl sum_near_up_to.above in
      let wide : l * l ≤ sum_of t * 2 = twice f 12 refl passed in
      let room : excess f * suc (parts f) ≤ l * l = le_trans (ranges f).sum_large square_large in
      near_of_excess sum_near_up_to (omega arith) (omega arith)

  -- ---- the root r of the load, and its inverse: neither is too small to be rounded well
  module _ (r : ℕ) (root_near : Near (parts f) 2 (r * r) (t.load * unit f)) where
    root_most : r ≤ 2 ^ 41 * unit f
    root_most =
        let d : r * r ≤ t.load * unit f * 2 = twice f 12 refl root_near.above in
        le_of_square_lt r (2 ^ 41 * unit f) (omega (arith, mul-le-mul_right (unit f) t.load_most))

    root_least : least f ≤ r * 2
    root_least =
        let d : l * l ≤ t.limit² * unit f * 2 = twice f 13 refl limit_near.below in
        let e : t.load * unit f ≤ r * r * 2 = twice f 12 refl root_near.below in
        le_trans large (le_of_square_lt l (r * 2) (omega (arith, mul-le-mul_right (unit f) (le_of_lt t.passes))))

    pub root_pos : 0 < r
    root_pos = omega (arith, (ranges f).skid_large, root_least)

    pub inverse_most : unit f * unit f ≤ 2 ^ 41 * unit f * r
    inverse_most = omega (arith, mul-le-mul_right (unit f) (le_of_eq (sym (ranges f).least_is)), mul-le-mul_right (unit f) root_least)

    inverse_large : hid f * r < unit f * unit f
    inverse_large =
        let g : hid f * 2 ^ 42 < unit f = omega (arith, (ranges f).skid_large, (ranges f).least_is) in
        let m : hid f * 2 ^ 42 * unit f < unit f * unit f = mul-lt-mul_of_pos_right g (pow_pos (low f)) in
        omega (arith, mul-le-mul_left (hid f) root_most)

  module _ (s : Skid f l t.load) where
    inverse_near : Near (parts f) 1 (s.inverse * s.root) (unit f * unit f)
    inverse_near = near_of_large s.inverse_rounded (inverse_large s.root s.root_near)

    skid_large : hid f * unit f < l * s.inverse
    skid_large =
        let d : unit f * unit f ≤ s.inverse * s.root * 2 = twice f 13 refl inverse_near.below in
        let e : unit f * unit f ≤ s.inverse * 2 ^ 42 * unit f = omega (arith, mul-le-mul_left s.inverse (root_most s.root s.root_near)) in
        let i : unit f ≤ s.inverse * 2 ^ 42 = le_of_mul-le-mul_right e (pow_pos (low f)) in
        let m : hid f * 2 ^ 42 * unit f < least f * unit f = mul-lt-mul_of_pos_right (ranges f).skid_large (pow_pos (low f)) in
        omega (arith, mul-le-mul large i)

    -- skid is l * inverse, and inverse is 1 / root
    skid_root_near : Near (parts f) 4 (s.skid * s.skid * (s.root * s.root)) (l * l * (unit f * unit f))
    skid_root_near =
        let k = near_of_large s.skid_rounded skid_large in
        let by-skid = near_scale (s.root * s.root) (near_mul k k) in
        let by-inverse = near_scale (l * l) (near_mul inverse_near inverse_near) in
        near_of_scaled (unit f * unit f) (mul-pos (pow_pos (low f)) (pow_pos (low f))) (near_regroup (near_trans_by by-skid (omega arith) by-inverse) (omega arith) (omega arith))

    skid_near : Near (parts f) 7 (sum_of t * 4 * (s.skid * s.skid)) (l * l * 4 * (unit f * unit f))
    skid_near =
        let by-load = near_scale (unit f * (s.skid * s.skid * 4)) (near_sym load_near) in
        let by-root = near_scale (s.skid * s.skid * 4) (near_sym s.root_near) in
        let by-skid = near_scale 4 skid_root_near in
        near_regroup (near_trans_by (near_trans_by by-load (omega arith) by-root) (omega arith) by-skid) (omega arith) (omega arith)

    exact_near : Near (parts f) 11 (fourfold a b * (s.skid * s.skid)) (l * l * 4 * (unit f * unit f))
    exact_near = near_trans (near_scale (s.skid * s.skid) (near_sym sum_near)) skid_near

    -- ---- a skid of one or more: the impulses are the demands
    pub uncut_near : unit f ≤ s.skid → Near (parts f) 14 (fourfold a b) (l * l * 4)
    uncut_near h = record {
      above = by_weaken 3 (by_of_scaled (unit f * unit f) (mul-pos (pow_pos (low f)) (pow_pos (low f))) (le_by_trans (mul-le-mul_left (fourfold a b) (mul-le-mul h h)) exact_near.above));
      below = by_weaken 8 (by_trans (by_scale 4 passed) sum_near.above);
    }

    -- ---- a skid below one: the impulses a' and b' are the demands times skid
    module _ {a' b' : ℕ} (forward_rounded : Rounded f a' (a * s.skid) (unit f)) (side_rounded : Rounded f b' (b * s.skid) (unit f)) where
      scaled_near_up_to : NearUpTo (parts f) 2 (hid f * unit f * (hid f * unit f) * 5) (fourfold a' b' * (unit f * unit f)) (fourfold a b * (s.skid * s.skid))
      scaled_near_up_to = near_up_to_regroup (near_up_to_add (near_up_to_square forward_rounded) (near_up_to_scale 4 (near_up_to_square side_rounded))) (omega arith) (omega arith) (omega arith)

      pub cut_near : Near (parts f) 14 (fourfold a' b') (l * l * 4)
      cut_near =
          let lost = hid f * unit f * (hid f * unit f) * 5 in
          let room : hid f * hid f * 5 * suc (parts f) ≤ l * l = le_trans (ranges f).impulses_large square_large in
          let wide : lost * suc (parts f) * 4 ≤ l * l * 4 * (unit f * unit f) = omega (arith, mul-le-mul_right (unit f * unit f) room) in
          let before : l * l * 4 * (unit f * unit f) ≤ fourfold a b * (s.skid * s.skid) * 2 = twice f 3 refl exact_near.below in
          let after : fourfold a b * (s.skid * s.skid) ≤ (fourfold a' b' * (unit f * unit f) + lost) * 2 = twice f 12 refl scaled_near_up_to.below in
          near_of_scaled (unit f * unit f) (mul-pos (pow_pos (low f)) (pow_pos (low f))) (near_trans (near_of_excess scaled_near_up_to (omega arith) (omega arith)) exact_near)
