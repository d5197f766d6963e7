-- What the check sees of a number: the pattern in binary32 of one that the code writes, std's number of a `bool`, and that its format holds it. Assumes nothing.
use mathlib.Core.Path.{◌≡◌, refl, sym, subst}
use mathlib.Core.Bool.{Bool, true, false, cond}
use mir.Val.{bool_byte}
use lib.IntN.{pos}
use lib.Dec.{T}
use lib.Ieee.{Float, binary32, fits, inf, of_bits, of_int}
use Rattle.real.specs.Number.{zero, one, half, two, ratio}

pub zero_is : of_bits binary32 0 ≡ zero
unfolding of_bits
zero_is = refl

pub one_is : of_bits binary32 1065353216 ≡ one
unfolding of_bits
one_is = refl

pub half_is : of_bits binary32 1056964608 ≡ half
unfolding of_bits
half_is = refl

pub two_is : of_bits binary32 1073741824 ≡ two
unfolding of_bits
two_is = refl

pub infinity_is : of_bits binary32 2139095040 ≡ inf false
unfolding of_bits
infinity_is = refl

-- 0.1, 0.2 and 0.99
pub tenth_is : of_bits binary32 1036831949 ≡ ratio binary32 1 10
unfolding of_bits ratio
tenth_is = refl

pub fifth_is : of_bits binary32 1045220557 ≡ ratio binary32 1 5
unfolding of_bits ratio
fifth_is = refl

pub kept_is : of_bits binary32 1065185444 ≡ ratio binary32 99 100
unfolding of_bits ratio
kept_is = refl

pub flag_is : (b : Bool) → of_int binary32 (pos (bool_byte b)) ≡ cond b one zero
unfolding of_int
flag_is true = refl
flag_is false = refl

pub held : (x : Float) → fits binary32 x ≡ true → T (fits binary32 x)
held x e = subst T (sym e) tt
