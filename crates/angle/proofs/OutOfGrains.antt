-- From grains to a float: the nearest value to t, times a grain, is the nearest value to t grains, since a power of two goes through the rounding (fraction_is). Assumes nothing.
use Rattle.std.proofs.Common.{◌≡◌, ℕ, zero, suc, ◌+◌, ◌-◌, ◌*◌, ◌/◌, ◌^◌, ◌<◌, ◌≤◌, false, pos, negsuc, sym, refl, ap, ◌∙◌, mul-le-mul_right, zero-lt-suc, mul_assoc, mul-one, arith, lit<, pow_mono, pow-add}
use lib.Ieee.{fin, Format, binary32, binary64, prec, low, size, of_int, round, mul}
use lib.Ieee.Fits.{mul-fits, round-fits}
use lib.Ieee.Scale.{grid, grid_scale, normal_of_fraction, overflow, round_same, round_val}
use Rattle.real.specs.Number.{ratio}
use Rattle.real.specs.Units.{unit}
use Rattle.real.proofs.Counts.{same_value}
use Rattle.real.proofs.SignedCounts.{Counted, count_of, finite_of, Holds, own_holds, fraction_counted}
use Rattle.real.proofs.Rounding.{grid_le}
use Rattle.angle.specs.Angle.{GRAINS}
use Rattle.angle.proofs.Exact.{fine, unit_split, unit_holds, unit_under, mul_exact}

whole_is : (f : Format) (t : ℕ) → of_int f (pos t) ≡ round f false (t * GRAINS) GRAINS
unfolding of_int
whole_is f t = round_same f false t 1 (t * GRAINS) GRAINS (lit< tt) (lit< tt) (sym (mul-one (t * GRAINS)))

module _ (f : Format) (t : ℕ) (some : 0 < t) (most : t ≤ GRAINS) where
  -- t grains, rounded, in units
  abbrev rounded : ℕ
  rounded = grid f t GRAINS

  rounded_most : (rounded < overflow f) × (rounded ≤ unit f)
  rounded_most = grid_le f t GRAINS (unit f) (lit< tt) (unit_holds f) (omega (arith, mul-le-mul_right (unit f) most))

  ratio_counted : Counted f (ratio f t GRAINS) false rounded
  unfolding ratio
  ratio_counted = record { value = round_val f t GRAINS rounded_most.0 }

  rounded_holds : Holds f rounded
  unfolding ratio
  rounded_holds = rw (count_of ratio_counted) at (own_holds f (ratio f t GRAINS) (round-fits f false t GRAINS) (finite_of ratio_counted))

  normal : prec f ≤ size (t * unit f / GRAINS)
  normal =
      let smallest : 2 ^ (prec f - 1 + 30) ≤ unit f = pow_mono (omega (arith, fine f)) in
      normal_of_fraction f t GRAINS (lit< tt) (omega (arith, pow-add 2 (prec f - 1) 30, mul-le-mul_right (unit f) some))

  whole_counted : Counted f (of_int f (pos t)) false (rounded * GRAINS)
  whole_counted =
      let scaled : grid f (t * GRAINS) GRAINS ≡ rounded * GRAINS = grid_scale f t GRAINS 30 (lit< tt) normal in
      let value : Counted f (round f false (t * GRAINS) GRAINS) false (grid f (t * GRAINS) GRAINS) = record { value = round_val f (t * GRAINS) GRAINS (rw scaled (unit_under f rounded_most.1)) } in
      rw (whole_is f t, ← scaled) value

  fraction_of_some : mul f (of_int f (pos t)) (fin false 1 (negsuc 29)) ≡ ratio f t GRAINS
  unfolding ratio
  fraction_of_some =
      let product = mul_exact whole_counted (fraction_counted f 29 (omega (arith, fine f))) rounded_holds (mul_assoc rounded GRAINS (2 ^ (low f - 30)) ∙ ap (λ (z : ℕ). rounded * z) (unit_split f 30 (omega (arith, fine f)))) in
      same_value f (mul f (of_int f (pos t)) (fin false 1 (negsuc 29))) (ratio f t GRAINS) rounded (mul-fits f _ _, product.value) (round-fits f false t GRAINS, ratio_counted.value)

pub fraction_is : (f : Format) (t : ℕ) → t ≤ GRAINS → mul f (of_int f (pos t)) (fin false 1 (negsuc 29)) ≡ ratio f t GRAINS
unfolding mul of_int ratio
fraction_is binary32 zero most = refl
fraction_is binary64 zero most = refl
fraction_is f (suc t) most = fraction_of_some f (suc t) (zero-lt-suc t) most
