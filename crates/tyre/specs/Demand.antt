-- Document 01, rule 7's two demands on plain numbers: a speed of the chassis over the ground, a sum of masses or denominators, a stiffness or a count. Definitions only.
use Rattle.std.specs.Prelude.{ℕ, cond, pos, Float}
use Rattle.std.specs.Float.{Format}
use Rattle.std.specs.Float.Ieee.{neg, mul, div, ne, of_int}
use Rattle.real.specs.Number.{zero, one, ratio}
use Rattle.real.specs.Scalar.{inverse_of}
use Rattle.tyre.specs.Grip.{braked_of}

-- the 0.2 of the side demand
abbrev pub contact_damping : Format → Float
contact_damping f = ratio f 1 5

-- Side demand: (−0.2 × (axis·u)) × inv(sum) × side stiffness. `speed` is axis·u.
unfoldable pub side_response : Format → Float → Float → Float → Float
side_response f speed sum stiffness = mul f (mul f (mul f (neg (contact_damping f)) speed) (inverse_of f sum)) stiffness

-- −(forward·u) × (1/(sum of denominators))/(grounded wheels). `speed` is forward·u.
unfoldable pub rolling_response : Format → Float → Float → ℕ → Float
rolling_response f speed sum grounded = div f (mul f (neg speed) (div f one sum)) (of_int f (pos grounded))

-- Rolling demand: engine × dt if engine ≠ 0, else the response (`uncut`), clamped to ± brake.
unfoldable pub rolling_of : Format → Float → Float → Float → Float → Float
rolling_of f dt engine brake uncut = cond (ne engine zero) (mul f engine dt) (braked_of brake uncut)
