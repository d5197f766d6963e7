-- Change request 2026-11: "Work out the half angle's sine and cosine in the library." In whole numbers, of grains of 2^-30: the Taylor sums by their nested brackets, each cut to a whole number of grains,
--
--     cosine h = 1 − h²/(1·2) (1 − h²/(3·4) (1 − h²/(5·6) (1 − h²/(7·8) (1 − h²/(9·10) (1 − h²/(11·12))))))
--     sine h   = h (1 − h²/(2·3) (1 − h²/(4·5) (1 − h²/(6·7) (1 − h²/(8·9) (1 − h²/(10·11))))))
--
-- and then a fraction of grains rounded to the format. How near they come to the sums is stated in `Taylor`. Definitions only.
use Rattle.std.specs.Prelude.{ℕ, ◌-◌, ◌*◌, ◌/◌, ◌^◌, cond, Float}
use Rattle.std.specs.Float.{Format}
use Rattle.std.specs.Float.Ieee.{mul}
use Rattle.real.specs.Number.{one, half, ratio}
use Rattle.real.specs.Scalar.{within}
use Rattle.real.specs.Units.{unit, count}
use Rattle.angle.specs.declared.SineCosine.{SineCosine}

-- the half angle is the angle times one half
unfoldable pub half_of : Format → Float → Float
half_of f angle = mul f angle half

-- how many grains make 1
abbrev pub GRAINS : ℕ
GRAINS = 2 ^ 30

-- the size of h in grains, cut to a whole number; of a number beyond 1, which is half of no steering angle, 0
unfoldable pub grains_of : Format → Float → ℕ
grains_of f h = cond (within one h) (count f h * GRAINS / unit f) 0

-- the square of n grains, in grains
unfoldable pub square_of : ℕ → ℕ
square_of n = n * n / GRAINS

-- a bracket: 1 − (q/d) × t, q being the square and t the bracket inside it, all in grains
unfoldable pub bracket : ℕ → ℕ → ℕ → ℕ
bracket q d t = GRAINS - q * t / (GRAINS * d)

unfoldable pub cosine_grains : ℕ → ℕ
cosine_grains q = bracket q (1 * 2) (bracket q (3 * 4) (bracket q (5 * 6) (bracket q (7 * 8) (bracket q (9 * 10) (bracket q (11 * 12) GRAINS)))))

-- of the sine, less its factor h
unfoldable pub sine_grains : ℕ → ℕ
sine_grains q = bracket q (2 * 3) (bracket q (4 * 5) (bracket q (6 * 7) (bracket q (8 * 9) (bracket q (10 * 11) GRAINS))))

unfoldable pub cosine_of : Format → Float → Float
cosine_of f h = ratio f (cosine_grains (square_of (grains_of f h))) GRAINS

unfoldable pub sine_of : Format → Float → Float
sine_of f h = mul f h (ratio f (sine_grains (square_of (grains_of f h))) GRAINS)

unfoldable pub sine_cosine_of : Format → Float → SineCosine
sine_cosine_of f h = record { sine = sine_of f h; cosine = cosine_of f h }
