-- What a demand comes to where the speed that it answers is a NaN or a zero. In order: the side response, the rolling response, the clamp to a brake, the rescale; a demand that refusal 7 lets through is then equal to 0, and so is
-- what the rescale makes of it; every impulse that the rescale makes of such a demand is finite. Assumes nothing.
use Prim.Native.Nat.{ℕ}
use mathlib.Core.Bool.{Bool, true, false, not, cond}
use mathlib.Core.Path.{◌≡◌}
use lib.Dec.{T}
use lib.Ieee.{Float, nan, inf, fin, Format, neg, mul, le, lt, eq, fits, is_nan}
use lib.Ieee.Scale.{finite}
use Rattle.real.specs.Number.{zero, one}
use Rattle.real.proofs.NotNegative.{not_negative_of_le}
use Rattle.real.proofs.Nought.{Nought, neg_nought, mul_nought_left, mul_nought_right, div_nought, zero_of_nought, clamp_zero}
use Rattle.tyre.specs.Demand.{side_response, rolling_response}
use Rattle.tyre.specs.Demand3.{Admitted, Brake}
use Rattle.tyre.specs.Grip.{skid_of, rescaled_by, braked_of}
use Rattle.tyre.proofs.GripCircle.{small_of_admitted}
use Rattle.tyre.proofs.Brake.{skid_fits, skid_not_negative, rescaled_le, brake_signed}

pub side_nought : (f : Format) (speed sum stiffness : Float) → Nought speed → Nought (side_response f speed sum stiffness)
unfolding side_response
side_nought f speed sum stiffness h = mul_nought_left f _ stiffness (mul_nought_left f _ _ (mul_nought_right f _ speed h))

pub rolling_nought : (f : Format) (speed sum : Float) (grounded : ℕ) → Nought speed → Nought (rolling_response f speed sum grounded)
unfolding rolling_response
rolling_nought f speed sum grounded h = div_nought f _ _ (mul_nought_left f (neg speed) _ (neg_nought speed h))

pub braked_zero : {f : Format} {brake : Float} → Brake f brake → (x : Float) → Nought x → T (fits f x) → T (not (is_nan x)) → eq (braked_of brake x) zero ≡ true
unfolding braked_of
braked_zero b x h g n = clamp_zero (brake_signed b) x h g n

rescaled_nought : (f : Format) (skid x : Float) → Nought x → Nought (rescaled_by f skid x)
unfolding rescaled_by
rescaled_nought f skid x h = either (lt skid one)
  where
    either : (b : Bool) → Nought (cond b (mul f x skid) x)
    either true = mul_nought_left f x skid h
    either false = h

-- ---- finite, and so no NaN
pub zero_of_finite : (x : Float) → Nought x → T (finite x) → eq x zero ≡ true
unfolding is_nan
zero_of_finite nan h t = absurd t
zero_of_finite (inf s) h t = absurd t
zero_of_finite (fin s m e) h t = zero_of_nought (fin s m e) h tt

pub admitted_zero : {f : Format} {x : Float} → Admitted f x → Nought x → eq x zero ≡ true
admitted_zero {x = x} a h = zero_of_finite x h (small_of_admitted a).fine

-- ---- after the rescale by the skid of the two demands
module _ (f : Format) (forward side limit x : Float) (at_least_lem : le zero limit ≡ true) (a : Admitted f x) where
  pub rescaled_finite : T (finite (rescaled_by f (skid_of f forward side limit) x))
  rescaled_finite = (rescaled_le f _ x (skid_fits f forward side limit) (skid_not_negative f forward side limit (not_negative_of_le limit at_least_lem)) a.held (small_of_admitted a).fine).0

  pub rescaled_zero : Nought x → eq (rescaled_by f (skid_of f forward side limit) x) zero ≡ true
  rescaled_zero h = zero_of_finite _ (rescaled_nought f _ x h) rescaled_finite
