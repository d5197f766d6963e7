-- Document 01, refusal 2: how large a number may be. Definitions only.
use Rattle.std.specs.Prelude.{ℕ, Bool, List, Float}
use Rattle.lists.specs.Part.{part}
use Rattle.lists.specs.All.{all}
use Rattle.real.specs.Number.{power}
use Rattle.real.specs.Scalar.{within}
use Rattle.table.specs.Rows.{row_start}

-- each number is finite and at most `most` in magnitude
unfoldable pub all_within : Float → List Float → Bool
all_within most l = all (within most) l

-- a number handed in: at most 2^20; a stored one: at most 2^40
abbrev pub HANDED : Float
HANDED = power 20

abbrev pub STORED : Float
STORED = power 40

-- the kept chassis and the first n rows
unfoldable pub stored_within : List Float → ℕ → Bool
stored_within t n = all_within STORED (part t 0 (row_start n))
