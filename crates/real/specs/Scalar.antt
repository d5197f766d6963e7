-- Document 01's rules on one number at a time: inv ("Vector arithmetic"), Rust's clamp (rules 4 and 7), "not below 0 (NaN gives 0)" (rule 6), the bounds of refusals 2, 7 and 8, and a yes or no as a number. Definitions only.
use Rattle.std.specs.Prelude.{Bool, false, cond, ◌&&◌, Float}
use Rattle.std.specs.Float.{Format, inf}
use Rattle.std.specs.Float.Ieee.{neg, div, lt, le, eq, ne}
use Rattle.real.specs.Number.{zero, one}

-- inv(a) is 0 for a = 0, else 1/a
unfoldable pub inverse_of : Format → Float → Float
inverse_of f a = cond (eq a zero) zero (div f one a)

-- r is finite and above 0
unfoldable pub usable : Float → Bool
usable r = lt zero r && lt r (inf false)

-- Rust's `x.clamp(lo, hi)`: first up to lo, then down to hi; a NaN stays
unfoldable pub raised_of : Float → Float → Float
raised_of lo x = cond (lt x lo) lo x

unfoldable pub lowered_of : Float → Float → Float
lowered_of hi x = cond (lt hi x) hi x

unfoldable pub clamp_of : Float → Float → Float → Float
clamp_of x lo hi = lowered_of hi (raised_of lo x)

-- not below 0 (NaN gives 0)
unfoldable pub not_below_zero : Float → Float
not_below_zero x = cond (lt zero x) x zero

-- x is at most `most` in magnitude: a NaN and the infinities are not
unfoldable pub within : Float → Float → Bool
within most x = le x most && le (neg most) x

-- a yes or no as a number: yes is 1, no 0
unfoldable pub flag_number : Bool → Float
flag_number b = cond b one zero

-- change request 2026-05: "any stored number but 0 reads as yes", 0 being of either sign
unfoldable pub reads_yes : Float → Bool
reads_yes x = ne x zero
