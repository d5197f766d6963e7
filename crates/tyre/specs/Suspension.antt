-- Document 01, rules 4 and 6, on plain numbers: the suspension's length, how the ray meets the ground, and the spring's force. Definitions only.
use Rattle.std.specs.Prelude.{cond, Float}
use Rattle.std.specs.Float.{Format}
use Rattle.std.specs.Float.Ieee.{neg, add, sub, mul, div, lt, le}
use Rattle.real.specs.Number.{zero, one, ratio}
use Rattle.real.specs.Scalar.{inverse_of, clamp_of, not_below_zero}
use Rattle.tyre.specs.declared.WheelTuning.{WheelTuning}
use Rattle.tyre.specs.declared.Approach.{Approach}

-- Rule 4. Length = time × (rest + radius) − radius, clamped to rest − travel and rest + travel as computed.
unfoldable pub suspension_length : Format → Float → Float → Float → Float → Float
suspension_length f rest travel radius time = clamp_of (sub f (mul f time (add f rest radius)) radius) (sub f rest travel) (add f rest travel)

-- the 0.1 of rule 4
abbrev pub clip : Format → Float
clip f = ratio f 1 10

-- Rule 4. If normal dot direction (`facing`) ≥ −0.1, relative velocity is 0 and the inverse is 1/0.1; else the inverse is −1/that
-- and the velocity is normal dot contact velocity (`speed`), times the inverse.
unfoldable pub approach_of : Format → Float → Float → Approach
approach_of f facing speed =
    cond (le (neg (clip f)) facing) (record { velocity = zero; inverse = div f one (clip f) })
    (record { velocity = mul f speed (div f (neg one) facing); inverse = div f (neg one) facing })

-- Rule 6. Compression if velocity < 0, else relaxation.
unfoldable pub damping_of : WheelTuning → Float → Float
damping_of tuning velocity = cond (lt velocity zero) tuning.compression tuning.damping

-- Rule 6. Stiffness × (rest − length) × inverse, less damping × velocity, times inv of inverse mass, not below 0 (NaN gives 0).
unfoldable pub suspension_force : Format → WheelTuning → Float → Float → Approach → Float → Float
suspension_force f tuning rest length approach invmass =
    not_below_zero
    (mul f
    (sub f (mul f (mul f tuning.stiffness (sub f rest length)) approach.inverse) (mul f (damping_of tuning approach.velocity) approach.velocity))
    (inverse_of f invmass))

-- Rule 6. The force cut to the maximum.
unfoldable pub cut_of : Float → Float → Float
cut_of force most = cond (lt most force) most force
