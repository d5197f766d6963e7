-- What two layouts say of one number. In order: the counts that the stream's codes and the lent table share; how wide the numbers are. Assumes nothing.
use mathlib.Core.Path.{◌≡◌, refl}
use Rattle.table.specs.Layout as table
use Rattle.grammar.specs.Layout as code
use Rattle.scenario.specs.Format.{format, widths_of}

-- an add's floats are a wheel's settings, by code 1 those before the roll influence; those of controls are a wheel's controls as they are handed in, with a rotation or with an angle
pub settings_tied : code.ADD-ROLLED-FLOATS ≡ table.SETTINGS
settings_tied = refl

pub unrolled_tied : code.ADD-FLOATS ≡ table.ROLL
unrolled_tied = refl

pub controls_tied : code.CONTROLS-FLOATS ≡ table.BY-ROTATION
controls_tied = refl

pub controls_by_angle_tied : code.CONTROLS-BY-ANGLE-FLOATS ≡ table.BY-ANGLE
controls_by_angle_tied = refl

-- an aim's floats are the kept chassis
pub chassis_tied : code.AIM-FLOATS ≡ table.KEPT
chassis_tied = refl

-- a body's floats, and how many bodies and wheels there are at most
pub body_tied : code.BODY-FLOATS ≡ table.BODY
body_tied = refl

pub bodies_tied : code.BODIES ≡ table.BODIES
bodies_tied = refl

pub wheels_tied : code.ANSWERS ≡ table.WHEELS
wheels_tied = refl

-- a code is read as wide as its floats' patterns are
pub widths_tied : widths_of format ≡ code.WIDTHS
widths_tied = refl
