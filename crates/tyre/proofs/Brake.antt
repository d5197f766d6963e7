-- Rules 7 and 8 of an unpowered wheel, on the values of the program: a demand that skid rescales is no larger afterwards, since skid is a value that is not negative (one_fits, rescaled_fits, skid_fits, skid_not_negative, rescaled_le);
-- a brake is a bound to clamp to (brake_signed); what is clamped to it is a value of the format (braked_fits), and what was clamped is no NaN where refusal 7 lets the demand through (not_nan_of_braked). Assumes nothing.
use mathlib.Core.Path.{◌≡◌, refl}
use Prim.Native.Nat.{◌≤◌}
use native.Mathlib.Nat.{le_refl, le_trans, le_of_eq}
use mathlib.Core.Bool.{Bool, true, false, not, cond}
use lib.Dec.{T}
use lib.Ieee.{Float, Format, binary32, binary64, neg, mul, lt, fits, is_nan}
use lib.Ieee.Fits.{cond-fits, neg-fits, mul-fits}
use lib.Ieee.Scale.{finite}
use Rattle.real.specs.Number.{one}
use Rattle.real.specs.Root.{root_of}
use Rattle.real.specs.Scalar.{inverse_of}
use Rattle.real.specs.Units.{count}
use Rattle.real.proofs.SignedCounts.{count_of, finite_of, own_count, own_holds}
use Rattle.real.proofs.NotNegative.{NotNegative, mul_not_negative, inverse_not_negative, root_not_negative, below_one}
use Rattle.real.proofs.Rounding.{mul_shrinks}
use Rattle.real.proofs.Bounds.{bounded_counted}
use Rattle.real.proofs.Clamping.{Signed, signed_of_le, clamp_fits, not_nan_of_clamp}
use Rattle.tyre.specs.Grip.{load_of, slides, skid_of, rescaled_by, braked_of}
use Rattle.tyre.specs.Demand3.{Admitted, Brake}
use Rattle.tyre.proofs.GripCircle.{small_of_admitted}

pub one_fits : (f : Format) → T (fits f one)
one_fits binary32 = unfold fits in tt
one_fits binary64 = unfold fits in tt

pub rescaled_fits : (f : Format) (skid v : Float) → T (fits f v) → T (fits f (rescaled_by f skid v))
unfolding rescaled_by
rescaled_fits f skid v h = cond-fits f (lt skid one) (mul f v skid) v (mul-fits f v skid) h

module _ (f : Format) (forward side limit : Float) where
  pub skid_fits : T (fits f (skid_of f forward side limit))
  unfolding skid_of
  skid_fits =
      let inverse = inverse_of f (root_of f (load_of f forward side)) in
      cond-fits f (slides f forward side limit) (mul f limit inverse) one (mul-fits f limit inverse) (one_fits f)

  pub skid_not_negative : NotNegative limit → NotNegative (skid_of f forward side limit)
  unfolding skid_of
  skid_not_negative p = either (slides f forward side limit)
    where
      either : (b : Bool) → NotNegative (cond b (mul f limit (inverse_of f (root_of f (load_of f forward side)))) one)
      either true =
          let root = root_of f (load_of f forward side) in
          mul_not_negative f limit (inverse_of f root) p (inverse_not_negative f root (root_not_negative f (load_of f forward side)))
      either false = λ (t : ⊥). absurd t

pub rescaled_le : (f : Format) (skid v : Float) → T (fits f skid) → NotNegative skid → T (fits f v) → T (finite v) → T (finite (rescaled_by f skid v)) × (count f (rescaled_by f skid v) ≤ count f v)
unfolding rescaled_by
rescaled_le f skid v g p h t = either (lt skid one) refl
  where
    either : (c : Bool) → lt skid one ≡ c → T (finite (cond c (mul f v skid) v)) × (count f (cond c (mul f v skid) v) ≤ count f v)
    either true e =
        let small = below_one f skid g p e in
        let r = mul_shrinks (own_count f v h t) (own_holds f v h t) (own_count f skid g small.0) small.1 in
        (finite_of r.counted, le_trans (le_of_eq (count_of r.counted)) r.most)
    either false e = (t, le_refl (count f v))

pub brake_signed : {f : Format} {brake : Float} → Brake f brake → Signed f brake false (count f brake)
brake_signed b = signed_of_le (bounded_counted (small_of_admitted b.admitted)) b.at_least

pub braked_fits : (f : Format) (brake rolling : Float) → T (fits f brake) → T (fits f rolling) → T (fits f (braked_of brake rolling))
unfolding braked_of
braked_fits f brake rolling b g = clamp_fits f (neg brake) brake rolling (neg-fits f brake b) b g

pub not_nan_of_braked : {f : Format} (brake rolling : Float) → Admitted f (braked_of brake rolling) → T (not (is_nan rolling))
unfolding braked_of
not_nan_of_braked brake rolling a = not_nan_of_clamp (neg brake) brake rolling (small_of_admitted a).fine
