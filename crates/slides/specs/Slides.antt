-- Document 01, "Forms by place in the code", the rescale of rule 8 over a lent slice of small records: the records of a table's wheels, the first n of them rescaled, and a table with
-- other records in its rows. One record's rescale is `rescaled_of`, as in the pass over the table. Definitions only.
use Rattle.std.specs.Prelude.{ℕ, List, map, ◌++◌, take, drop, get_or, Float}
use Rattle.std.specs.Float.{Format, nan}
use Rattle.tyre.specs.declared.Friction.{Friction}
use Rattle.wheel.specs.declared.Wheel.{Wheel}
use Rattle.tyre.specs.Grip.{airborne, rescaled_of}
use Rattle.wheel.specs.Parts.{friction_in, with_friction}
use Rattle.passes.specs.Passes.{each_wheel, each_gives}

-- what is read past the end of a list of records
abbrev pub none : Friction
none = record { forward = nan; side = nan; skid = nan }

-- the records of the first n wheels, in an array for all; a place past them holds that of a wheel in the air
unfoldable pub gathered : ℕ → List Float → List Friction
gathered n t = each_gives friction_in airborne n t

-- the first n records rescaled, each by its own skid
unfoldable pub rescaled_first : Format → ℕ → List Friction → List Friction
rescaled_first f n l = map (rescaled_of f) (take n l) ++ drop n l

-- wheel i with record i, and a table with the first n records in its rows
unfoldable pub slide_over : List Friction → ℕ → Wheel → Wheel
slide_over l i w = with_friction w (get_or l i none)

unfoldable pub scattered : List Friction → ℕ → List Float → List Float
scattered l n t = each_wheel (slide_over l) n t
