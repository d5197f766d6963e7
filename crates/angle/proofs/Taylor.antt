-- What the half angle's sine and cosine are. Half of an angle from −2 to 2 is within 1 (half_within). The format holds the sine and the cosine (sine_fits, cosine_fits); those of a zero are that zero and 1 (sine_of_zero,
-- cosine_of_zero); and both are near their Taylor sums (near_taylor, half_near_taylor). Assumes nothing.
use Rattle.std.proofs.Common.{◌≡◌, ℕ, ◌-◌, ◌*◌, ◌^◌, ◌≤◌, Bool, true, false, T, pos, refl, ap, le_trans, le_of_eq, mul-le-mul_right, mul-le-mul, arith, lit<, pow_pos}
use lib.Ieee.{Float, Format, binary32, binary64, low, unlike, fin, neg, mul, le, fits}
use lib.Ieee.Exact.{HasValue}
use lib.Ieee.Fits.{mul-fits, round-fits}
use Rattle.real.specs.Number.{one, two, ratio}
use Rattle.real.specs.Scalar.{within}
use Rattle.real.specs.Units.{unit, count, minus?}
use Rattle.real.proofs.SignedCounts.{Counted, count_of, finite_of, fraction_counted}
use Rattle.real.proofs.Rounding.{Rounds, round_rounds, mul_rounds}
use Rattle.real.proofs.Bounds.{Bounded, bounded_counted, within_power}
use Rattle.angle.specs.Angle.{GRAINS, half_of, grains_of, square_of, bracket, cosine_grains, sine_grains, cosine_of, sine_of}
use Rattle.angle.specs.Taylor.{cosine_adds, cosine_takes, sine_adds, sine_takes, PARTS, Within, NearTaylor}
use Rattle.angle.proofs.Apart.{Apart, apart_of_finer, apart_of_rounded}
use Rattle.angle.proofs.Nested.{Square, square_of_cut, Tracks, tracks, left, whole, near_of_tracks, near_of_product}
use Rattle.angle.proofs.Sums.{cosines, sines, cosines_large, sines_large, cosine_grains_lem, sine_grains_lem, cosine_within, sine_within}
use Rattle.angle.proofs.Exact.{fine, unit_split, unit_holds}
use Rattle.angle.proofs.IntoGrains.{grains_of_counted}

-- ---- the half of a steering angle
pub half_within : (f : Format) (angle : Float) → T (fits f angle) → within two angle ≡ true → Bounded f (unit f) (half_of f angle)
unfolding half_of
half_within f angle held inside =
    let b = within_power f 1 angle held inside in
    let r = mul_rounds (bounded_counted b) (fraction_counted f 0 (omega (arith, fine f))) (unit_holds f) (omega (arith, mul-le-mul_right (2 ^ (low f - 1)) b.most, ap (λ (z : ℕ). unit f * z) (unit_split f 1 (omega (arith, fine f))))) in
    record { fit = mul-fits f _ _; fine = finite_of r.counted; most = le_trans (le_of_eq (count_of r.counted)) r.most }

-- ---- the values
pub sine_fits : (f : Format) (h : Float) → T (fits f (sine_of f h))
unfolding sine_of
sine_fits f h = mul-fits f _ _

pub cosine_fits : (f : Format) (h : Float) → T (fits f (cosine_of f h))
unfolding cosine_of ratio
cosine_fits f h = round-fits f false _ _

pub sine_of_zero : (f : Format) (s : Bool) → sine_of f (fin s 0 (pos 0)) ≡ fin s 0 (pos 0)
unfolding sine_of sine_grains bracket square_of grains_of within ratio mul le neg
sine_of_zero binary32 true = refl
sine_of_zero binary32 false = refl
sine_of_zero binary64 true = refl
sine_of_zero binary64 false = refl

pub cosine_of_zero : (f : Format) (s : Bool) → cosine_of f (fin s 0 (pos 0)) ≡ one
unfolding cosine_of cosine_grains bracket square_of grains_of within ratio le neg
cosine_of_zero binary32 true = refl
cosine_of_zero binary32 false = refl
cosine_of_zero binary64 true = refl
cosine_of_zero binary64 false = refl

-- ---- near the Taylor sums

-- t grains, rounded, where they track y / E
record Fraction (f : Format) (y E : ℕ) (x : Float) : Type 0 where
  units : ℕ
  counted : Counted f x false units
  most : units ≤ unit f
  near : Apart (2 ^ 24) (2 * (E * unit f)) (units * E) (y * unit f)

fraction_of_tracks : (f : Format) {y E t : ℕ} → Tracks GRAINS y E t → Fraction f y E (ratio f t GRAINS)
unfolding ratio
fraction_of_tracks f {y} {E} {t} h =
    let whole : t * unit f ≤ unit f * GRAINS = omega (arith, mul-le-mul_right (unit f) h.most) in
    let r = round_rounds f false t GRAINS (lit< tt) (unit_holds f) whole in
    record { units = r.units; counted = r.counted; most = r.most; near = near_of_tracks (unit f) r.units h (apart_of_rounded r.rounded whole r.most) }

module _ {f : Format} {h : Float} {s : Bool} {a : ℕ} (value : Counted f h s a) (most : a ≤ unit f) where
  half_square : Square GRAINS (a * a) (unit f * unit f) (square_of (grains_of f h))
  unfolding square_of
  half_square = rw (grains_of_counted value most) (square_of_cut (lit< tt) (pow_pos (low f)) most)

  cosine_fraction : Fraction f (left (a * a) (unit f * unit f) cosines) (whole (unit f * unit f) cosines) (cosine_of f h)
  unfolding cosine_of
  cosine_fraction = rw (← cosine_grains_lem (square_of (grains_of f h))) (fraction_of_tracks f (tracks half_square cosines cosines_large))

  sine_fraction : Fraction f (left (a * a) (unit f * unit f) sines) (whole (unit f * unit f) sines) (ratio f (sine_grains (square_of (grains_of f h))) GRAINS)
  sine_fraction = rw (← sine_grains_lem (square_of (grains_of f h))) (fraction_of_tracks f (tracks half_square sines sines_large))

  sine_rounds : Rounds f (sine_of f h) s (a * sine_fraction.units) (unit f) (unit f)
  unfolding sine_of
  sine_rounds = rw (sign s) at (mul_rounds value sine_fraction.counted (unit_holds f) (mul-le-mul most sine_fraction.most))
    where
      sign : (s : Bool) → unlike s false ≡ s
      sign true = refl
      sign false = refl

  cosine_near : Within (unit f) cosine_fraction.units (cosine_adds a (unit f)) (cosine_takes a (unit f))
  cosine_near = cosine_within a (unit f) half_square (apart_of_finer PARTS _ (lit< tt) (omega arith) cosine_fraction.near)

  sine_near : Within (unit f) sine_rounds.units (sine_adds a (unit f)) (sine_takes a (unit f))
  sine_near =
      let factor = sine_fraction in
      let sine = sine_rounds in
      let rounded = apart_of_rounded sine.rounded (mul-le-mul most factor.most) sine.most in
      sine_within a (unit f) half_square (apart_of_finer PARTS _ (lit< tt) (omega arith) (near_of_product _ _ factor.units sine.units (pow_pos (low f)) most factor.near rounded))

-- Change request 2026-11: "Each must lie within 2^-20 of its Taylor sum through the twelfth power, the sum stated over whole numbers scaled to a common denominator."
pub near_taylor : (f : Format) (h : Float) (s : Bool) (a : ℕ) → HasValue h s a (unit f) → a ≤ unit f → NearTaylor f s a (sine_of f h) (cosine_of f h)
near_taylor f h s a value most =
    let held : Counted f h s a = record { value = value } in
    record {
      sineunits = (sine_rounds held most).units;
      sinevalue = (sine_rounds held most).counted.value;
      sinenear = sine_near held most;
      cosineunits = (cosine_fraction held most).units;
      cosinevalue = (cosine_fraction held most).counted.value;
      cosinenear = cosine_near held most;
    }

-- so each half of an angle from −2 to 2 has them
pub half_near_taylor : (f : Format) (angle : Float) → T (fits f angle) → within two angle ≡ true
    → NearTaylor f (minus? (half_of f angle)) (count f (half_of f angle)) (sine_of f (half_of f angle)) (cosine_of f (half_of f angle))
half_near_taylor f angle held inside =
    let b = half_within f angle held inside in
    near_taylor f (half_of f angle) (minus? (half_of f angle)) (count f (half_of f angle)) (bounded_counted b).value b.most
