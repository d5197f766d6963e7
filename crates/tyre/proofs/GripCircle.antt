-- Rule 8 on the values of the program: what its operations round to, where each number is at most 2^40 in magnitude, and from that `Grips`. Assumes nothing.
use mathlib.Core.Path.{◌≡◌, refl}
use Prim.Native.Nat.{ℕ, suc, ◌+◌, ◌-◌, ◌*◌, ◌^◌, ◌≤◌, ◌<◌, zero-le}
use native.Mathlib.Nat.{le_of_lt, lt_of_le_of_lt, mul-le-mul}
use native.Mathlib.Omega.{arith}
use mathlib.Core.Bool.{Bool, true, false, cond}
use lib.Dec.{T, lit≤}
use lib.Pow.{pow_pos}
use lib.Ieee.{Float, Format, low, unlike, mul, lt, fits}
use lib.Ieee.Fits.{add-fits, mul-fits}
use lib.Ieee.Positive.{positive_of_value}
use Rattle.real.specs.Number.{one, half}
use Rattle.real.specs.Root.{root_of}
use Rattle.real.specs.Scalar.{inverse_of}
use Rattle.real.specs.Units.{unit, count, minus?}
use Rattle.real.proofs.Near.{Near, le_of_by}
use Rattle.real.proofs.SignedCounts.{Counted, count_of, finite_of, power_holds, one_counted, fraction_counted}
use Rattle.real.proofs.Rounding.{parts, parts_pos, rounded_of_scaled, Rounds, mul_rounds, square_rounds, add_rounds, inverse_rounds}
use Rattle.real.proofs.RootRounds.{RootRounds, root_rounds}
use Rattle.real.proofs.Bounds.{Bounded, bounded_counted, within_power, count_lt_of_lt, count_le_of_not_lt}
use Rattle.tyre.specs.Grip.{load_of, slides, skid_of, rescaled_by}
use Rattle.tyre.specs.Demand3.{precision, Sized, Grips, Admitted}
use Rattle.tyre.proofs.Ranges.{least, ranges}
use Rattle.tyre.proofs.Chain.{fourfold, Test, Skid, root_pos, inverse_most, uncut_near, cut_near}

-- at most 2^40 in magnitude
abbrev pub Small : Format → Float → Type 0
Small f x = Bounded f (2 ^ 40 * unit f) x

pub small_of_admitted : {f : Format} {x : Float} → Admitted f x → Small f x
small_of_admitted {f} {x} a = within_power f 40 x a.held a.bounded

square_small : {f : Format} {x : Float} {s : Bool} {a : ℕ} → Counted f x s a → a ≤ 2 ^ 40 * unit f → Rounds f (mul f x x) false (a * a) (unit f) (2 ^ 80 * unit f)
square_small {f} h l = square_rounds h (power_holds f 80 (lit≤ tt)) (omega (arith, mul-le-mul l l))

-- such a number has a size
pub sized_of_small : {f : Format} {x : Float} → Small f x → Sized f x
sized_of_small b = record { held = b.fit; is_finite = b.fine }

-- fourteen steps are within the precision asked
grips_of_near : {f : Format} {p q limit : Float} {s t : Bool} {a b : ℕ} → Sized f limit → T (fits f p) → T (fits f q) → Counted f p s a → Counted f q t b → Near (parts f) 14 (fourfold a b) (count f limit * count f limit * 4) → Grips f (precision f) p q limit
grips_of_near {f} {limit = limit} {a = a} {b} l u v h k n =
    let l² = count f limit * count f limit in
    let above : fourfold a b * precision f ≤ l² * 4 * suc (precision f) = le_of_by (precision f) (suc (precision f)) (parts_pos f) (ranges f).margin_above n.above in
    let below : l² * 4 * (precision f - 1) ≤ fourfold a b * precision f = le_of_by (precision f - 1) (precision f) (parts_pos f) (ranges f).margin_below n.below in
    record { forward_sized = record { held = u; is_finite = finite_of h }; side_sized = record { held = v; is_finite = finite_of k }; limit_sized = l; at_most = rw (count_of h, count_of k) (omega arith); at_least = rw (count_of h, count_of k) (omega arith) }

-- skid, where the slide test passes
abbrev skidding : Format → Float → Float → Float → Float
skidding f forward side limit = mul f limit (inverse_of f (root_of f (load_of f forward side)))

module _ {f : Format} {forward side limit : Float} (bf : Small f forward) (bs : Small f side) (bl : Small f limit) where
  -- ---- the slide test
  half_rounds : Rounds f (mul f forward half) (unlike (minus? forward) false) (count f forward * 2 ^ (low f - 1)) (unit f) (2 ^ 40 * unit f)
  half_rounds =
      let h : 2 ^ (low f - 1) ≤ unit f = omega (arith, (ranges f).half_is) in
      mul_rounds (bounded_counted bf) (fraction_counted f 0 (omega (arith, (ranges f).fine))) (power_holds f 40 (lit≤ tt)) (mul-le-mul bf.most h)

  forward_rounds : Rounds f (mul f (mul f forward half) (mul f forward half)) false (half_rounds.units * half_rounds.units) (unit f) (2 ^ 80 * unit f)
  forward_rounds = square_small half_rounds.counted half_rounds.most

  side_rounds : Rounds f (mul f side side) false (count f side * count f side) (unit f) (2 ^ 80 * unit f)
  side_rounds = square_small (bounded_counted bs) bs.most

  limit_rounds : Rounds f (mul f limit limit) false (count f limit * count f limit) (unit f) (2 ^ 80 * unit f)
  limit_rounds = square_small (bounded_counted bl) bl.most

  load_rounds : Rounds f (load_of f forward side) false (forward_rounds.units + side_rounds.units) 1 (2 ^ 81 * unit f)
  unfolding load_of
  load_rounds = add_rounds forward_rounds.counted side_rounds.counted (power_holds f 81 (lit≤ tt)) (omega (arith, forward_rounds.most, side_rounds.most))

  load_fits : T (fits f (load_of f forward side))
  unfolding load_of
  load_fits = add-fits f (mul f (mul f forward half) (mul f forward half)) (mul f side side)

  module _ (passes : slides f forward side limit ≡ true) where
    limit_under : limit_rounds.units < load_rounds.units
    unfolding slides
    limit_under = count_lt_of_lt limit_rounds.counted load_rounds.counted passes

    abbrev test : Test f (count f forward) (count f side) (count f limit)
    test = record {
      half = half_rounds.units;
      forward² = forward_rounds.units;
      side² = side_rounds.units;
      limit² = limit_rounds.units;
      load = load_rounds.units;
      half_rounded = rounded_of_scaled (2 ^ (low f - 1)) (pow_pos (low f - 1)) (rw (ranges f).half_is half_rounds.rounded);
      forward_rounded = forward_rounds.rounded;
      side_rounded = side_rounds.rounded;
      limit_rounded = limit_rounds.rounded;
      load_rounded = load_rounds.rounded;
      load_most = load_rounds.most;
      passes = limit_under;
    }

    -- ---- root, inverse, skid
    root : RootRounds f (load_of f forward side) (root_of f (load_of f forward side))
    root = root_rounds f (load_of f forward side) load_fits (positive_of_value (load_of f forward side) load_rounds.units (unit f) load_rounds.counted.value (lt_of_le_of_lt zero-le limit_under))

    root_near : Near (parts f) 2 (root.units * root.units) (load_rounds.units * unit f)
    root_near = rw (count_of load_rounds.counted) at root.near

    module _ (positive-limit : Counted f limit false (count f limit)) (large : least f ≤ count f limit) where
      inverse : Rounds f (inverse_of f (root_of f (load_of f forward side))) false (unit f * unit f) root.units (2 ^ 41 * unit f)
      inverse = inverse_rounds root.counted (root_pos test large root.units root_near) (power_holds f 41 (lit≤ tt)) (inverse_most test large root.units root_near)

      skid : Rounds f (skidding f forward side limit) false (count f limit * inverse.units) (unit f) (2 ^ 81 * unit f)
      skid = mul_rounds positive-limit inverse.counted (power_holds f 81 (lit≤ tt)) (omega (arith, mul-le-mul bl.most inverse.most))

      abbrev skids : Skid f (count f limit) load_rounds.units
      skids = record {
        root = root.units;
        inverse = inverse.units;
        skid = skid.units;
        root_near = root_near;
        inverse_rounded = inverse.rounded;
        skid_rounded = skid.rounded;
      }

      -- ---- the impulses
      times_skid : {v : Float} → Small f v → skid.units < unit f → Rounds f (mul f v (skidding f forward side limit)) (unlike (minus? v) false) (count f v * skid.units) (unit f) (2 ^ 40 * unit f)
      times_skid b h = mul_rounds (bounded_counted b) skid.counted (power_holds f 40 (lit≤ tt)) (mul-le-mul b.most (le_of_lt h))

      rescaled_grips : Grips f (precision f) (rescaled_by f (skidding f forward side limit) forward) (rescaled_by f (skidding f forward side limit) side) limit
      unfolding rescaled_by
      rescaled_grips = either (lt (skidding f forward side limit) one) refl
        where
          either : (c : Bool) → lt (skidding f forward side limit) one ≡ c
              → Grips f (precision f) (cond c (mul f forward (skidding f forward side limit)) forward) (cond c (mul f side (skidding f forward side limit)) side) limit
          either true e =
              let h : skid.units < unit f = count_lt_of_lt skid.counted (one_counted f) e in
              let p = times_skid bf h in
              let q = times_skid bs h in
              grips_of_near (sized_of_small bl) (mul-fits f _ _) (mul-fits f _ _) p.counted q.counted (cut_near test large skids p.rounded q.rounded)
          either false e = grips_of_near (sized_of_small bl) bf.fit bs.fit (bounded_counted bf) (bounded_counted bs) (uncut_near test large skids (count_le_of_not_lt skid.counted (one_counted f) e))

      pub grips : Grips f (precision f) (rescaled_by f (skid_of f forward side limit) forward) (rescaled_by f (skid_of f forward side limit) side) limit
      unfolding skid_of
      grips = rw passes rescaled_grips
