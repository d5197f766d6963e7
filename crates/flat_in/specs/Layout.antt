-- The flat lists of a drive that a host hands in. Each place is a named constant, counted from the one before it. Definitions only.
-- The table, its whole numbers, a chassis, a ground body, settings and controls are laid out as in crate `table`.
use Rattle.std.specs.Prelude.{ℕ, ◌+◌}

-- ---- what a wheel's ray met: the time, the normal and the normal of the upward cast
abbrev pub TIME : ℕ
TIME = 0

abbrev pub NORMAL : ℕ
NORMAL = TIME + 1

abbrev pub UPWARD : ℕ
UPWARD = NORMAL + 3

abbrev pub RAY : ℕ
RAY = UPWARD + 3

-- ---- the kinds of a ray answer: 0 nothing, then a hit, and a hit with the upward normal; and the flag of a dynamic ground body, 0 being that of another
abbrev pub HIT : ℕ
HIT = 1

abbrev pub HIT-UP : ℕ
HIT-UP = 2

abbrev pub DYNAMIC : ℕ
DYNAMIC = 1
