-- The numbers that document 01 writes, against their bit patterns in both formats: one table under one claim for each. Assumes nothing.
use mathlib.Core.Path.{◌≡◌, refl}
use mathlib.Core.Bool.{false}
use mathlib.Core.List.{List, [], ◌∷◌}
use Prim.Native.Nat.{ℕ}
use lib.IntN.{negsuc}
use lib.Ieee.{Float, Format, binary32, binary64, fin, sub, to_bits}
use Rattle.real.specs.Number.{zero, one, two, half, power, ratio}

-- 0, 1, 2, 0.5, 0.1, 0.2, 0.99, 1 − 0.1, 2^20, 2^40, 2^-20, 1 − 2^-10, 1 + 2^-10
unfoldable pub numbers : Format → List Float
numbers f =
    zero
    ∷ one
    ∷ two
    ∷ half
    ∷ ratio f 1 10
    ∷ ratio f 1 5
    ∷ ratio f 99 100
    ∷ sub f one (ratio f 1 10)
    ∷ power 20
    ∷ power 40
    ∷ fin false 1 (negsuc 19)
    ∷ fin false 1023 (negsuc 9)
    ∷ fin false 1025 (negsuc 9)
    ∷ []

unfoldable pub patterns : Format → List Float → List ℕ
patterns f [] = []
patterns f (x ∷ xs) = to_bits f x ∷ patterns f xs

pub in_single : patterns binary32 (numbers binary32)
    ≡ (0 ∷ 0x3f80_0000 ∷ 0x4000_0000 ∷ 0x3f00_0000 ∷ 0x3dcc_cccd ∷ 0x3e4c_cccd ∷ 0x3f7d_70a4 ∷ 0x3f66_6666 ∷ 0x4980_0000 ∷ 0x5380_0000 ∷ 0x3580_0000 ∷ 0x3f7f_c000 ∷ 0x3f80_2000 ∷ [])
unfolding patterns numbers ratio sub to_bits
in_single = refl

pub in_double : patterns binary64 (numbers binary64)
    ≡ (0 ∷ 0x3ff0_0000_0000_0000 ∷ 0x4000_0000_0000_0000 ∷ 0x3fe0_0000_0000_0000 ∷ 0x3fb9_9999_9999_999a ∷ 0x3fc9_9999_9999_999a ∷ 0x3fef_ae14_7ae1_47ae ∷ 0x3fec_cccc_cccc_cccd ∷ 0x4130_0000_0000_0000 ∷ 0x4270_0000_0000_0000 ∷ 0x3eb0_0000_0000_0000 ∷ 0x3fef_f800_0000_0000 ∷ 0x3ff0_0400_0000_0000 ∷ [])
unfolding patterns numbers ratio sub to_bits
in_double = refl
