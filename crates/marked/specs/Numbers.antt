-- The small numbers that cases are stated with, as data: an odd number times a power of two, which every format has. Definitions only.
use Rattle.std.specs.Prelude.{false, pos, negsuc, Float}
use Rattle.std.specs.Float.{fin}

abbrev pub three : Float
three = fin false 3 (pos 0)

abbrev pub four : Float
four = fin false 1 (pos 2)

abbrev pub five : Float
five = fin false 5 (pos 0)

abbrev pub six : Float
six = fin false 3 (pos 1)

abbrev pub seven : Float
seven = fin false 7 (pos 0)

abbrev pub eight : Float
eight = fin false 1 (pos 3)

abbrev pub ten : Float
ten = fin false 5 (pos 1)

abbrev pub twelve : Float
twelve = fin false 3 (pos 2)

abbrev pub twenty_four : Float
twenty_four = fin false 3 (pos 3)

abbrev pub quarter : Float
quarter = fin false 1 (negsuc 1)

abbrev pub three_quarters : Float
three_quarters = fin false 3 (negsuc 1)
