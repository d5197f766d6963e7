-- Which patterns are those of a NaN, in the terms of the code, and what is read and written there. Assumes nothing.
use Prim.Native.Nat.{ℕ, ◌*◌, ◌%◌, ◌<◌, ◌≤◌}
use mathlib.Core.Bool.{Bool, true, not}
use mathlib.Core.Path.{◌≡◌, refl, sym, ◌∙◌, subst}
use native.Mathlib.Nat.{not-le_of_lt}
use lib.Dec.{T, ltb, lt→ltb, ltb→lt, not_T}
use lib.Ieee.{Float, nan, inf, fin, Format, hid, ones, top, is_nan, of_bits, nan_bits}
use lib.Ieee.Bits.{nan_bits_above, nan_bits_is}

-- ---- a pattern
nan_of_is_nan : (x : Float) → T (is_nan x) → x ≡ nan
unfolding is_nan
nan_of_is_nan nan t = refl
nan_of_is_nan (inf s) t = absurd t
nan_of_is_nan (fin s m e) t = absurd t

pub nan_of_above : (f : Format) (b : ℕ) → ones f * hid f < b % top f → of_bits f b ≡ nan
nan_of_above f b h = nan_of_is_nan (of_bits f b) (subst T (sym (nan_bits_above f b) ∙ nan_bits_is f b) (lt→ltb (ones f * hid f) (b % top f) h))

pub no_nan_of_not_above : (f : Format) (b : ℕ) → b % top f ≤ ones f * hid f → T (not (nan_bits f b))
no_nan_of_not_above f b h =
    subst (λ (t : Bool). T (not t)) (sym (nan_bits_above f b)) (not_T (ltb (ones f * hid f) (b % top f)) (λ (t : T (ltb (ones f * hid f) (b % top f))). not-le_of_lt (ltb→lt (ones f * hid f) (b % top f) t) h))

-- ---- a float
pub nan_of_test : (x : Float) → is_nan x ≡ true → x ≡ nan
nan_of_test x e = nan_of_is_nan x (subst T (sym e) tt)
