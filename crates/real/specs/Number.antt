-- The numbers that document 01 writes, over a format. Those that both formats hold are data; the others are fractions, rounded once to the format. Definitions only.
use Rattle.std.specs.Prelude.{false, ℕ, pos, negsuc, Float}
use Rattle.std.specs.Float.{Format, fin}
use Rattle.std.specs.Float.Ieee.{round}

abbrev pub zero : Float
zero = fin false 0 (pos 0)

abbrev pub one : Float
one = fin false 1 (pos 0)

abbrev pub two : Float
two = fin false 1 (pos 1)

abbrev pub half : Float
half = fin false 1 (negsuc 0)

-- 2 ^ k
abbrev pub power : ℕ → Float
power k = fin false 1 (pos k)

-- n / d, to the nearest value of the format
unfoldable pub ratio : Format → ℕ → ℕ → Float
unfolding round
ratio f n d = round f false n d
