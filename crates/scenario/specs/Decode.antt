-- The fields of a scenario code, read from its words: the field order of docs/STREAM.md. Past the end of the words stand zeros. Definitions only.
use Rattle.std.specs.Prelude.{ℕ, ◌+◌, List, get_or, Float}
use Rattle.std.specs.Float.{Format}
use Rattle.std.specs.Float.Ieee.{of_bits}
use Rattle.lists.specs.Counted.{listed}
use Rattle.vector.specs.declared.Vector.{Vector}
use Rattle.body.specs.declared.Chassis.{Chassis}
use Rattle.wheel.specs.declared.Settings.{Settings}
use Rattle.wheel.specs.declared.Controls.{Controls}
use Rattle.wheel.specs.Parts.{roll_influence, with_roll}
use Rattle.table.specs.Layout as table
use Rattle.table.specs.Rows.{settings_at, by_rotation_at, by_angle_at, chassis_of}
use Rattle.scenario.specs.Layout as at

-- ---- what stands at a place: a number, and the float that is written as its bit pattern
unfoldable pub number_from : List ℕ → ℕ → ℕ
number_from l a = get_or l a 0

unfoldable pub float_from : Format → List ℕ → ℕ → Float
float_from f l a = of_bits f (get_or l a 0)

unfoldable pub vector_from : Format → List ℕ → ℕ → Vector
vector_from f l a = record { x = float_from f l a; y = float_from f l (a + 1); z = float_from f l (a + 2) }

-- so many floats from a place on
unfoldable pub floats_from : Format → List ℕ → ℕ → ℕ → List Float
floats_from f l a k = listed (λ i. float_from f l (a + i)) k 0

-- ---- the settings of an add by code 6, the roll influence last; and by code 1: "Scenario code 1 means 0.1" (change request 2026-07)
unfoldable pub rolled_from : Format → List ℕ → Settings
rolled_from f l = settings_at (floats_from f l at.FIRST table.SETTINGS) 0

unfoldable pub settings_from : Format → List ℕ → Settings
settings_from f l = with_roll (rolled_from f l) (roll_influence f)

-- ---- the wheel that controls or a read names, and the controls of code 2 and of code 10
unfoldable pub wheel_from : List ℕ → ℕ
wheel_from l = number_from l at.WHEEL

unfoldable pub controls_from : Format → List ℕ → Controls
controls_from f l = by_rotation_at (floats_from f l at.CONTROLS table.BY-ROTATION) 0

unfoldable pub controls_by_angle_from : Format → List ℕ → Controls
controls_by_angle_from f l = by_angle_at (floats_from f l at.CONTROLS table.BY-ANGLE) 0

-- ---- the chassis of an aim
unfoldable pub chassis_from : Format → List ℕ → Chassis
chassis_from f l = chassis_of (floats_from f l at.FIRST table.KEPT)
