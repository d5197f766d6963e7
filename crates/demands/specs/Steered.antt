-- Change request 2026-11, "Steering by angle": what one aim makes of a wheel's steering, an angle that turns nothing, and calls that hand a wheel no new control. Definitions only.
use Rattle.std.specs.Prelude.{ℕ, Bool, true, false, not, ◌&&◌, List, [], ◌∷◌, ◌≡◌, eqb}
use Rattle.std.specs.Float.{Format}
use Rattle.real.specs.Number.{one}
use Rattle.vector.specs.declared.Vector.{Vector}
use Rattle.vector.specs.declared.Rotation.{Rotation}
use Rattle.vector.specs.declared.Pose.{Pose}
use Rattle.vector.specs.Arithmetic.{rotate_v}
use Rattle.wheel.specs.declared.Wheel.{Wheel}
use Rattle.demands.specs.History.{State, Call, SetUp, AddWheel, SetControls, Aim, Drive, ReadWheel, accepted, run}
use Rattle.demands.specs.Fallback.{IsZeroV}

-- "the wheel's world direction", that of the aim which places the wheel under this pose
abbrev pub direction_under : Format → Pose → Wheel → Vector
direction_under f pose w = rotate_v f pose.rotation w.settings.direction

-- "The rotation then goes the old path": the axle rotated by the chassis and then by the rotation q
abbrev pub axle_under : Format → Pose → Rotation → Wheel → Vector
axle_under f pose q w = rotate_v f q (rotate_v f pose.rotation w.settings.axle)

-- the rotation that turns nothing, but for the sign of zeros
pub record TurnsNothing (q : Rotation) : Type 0 where
  pub b : IsZeroV q.b
  pub w : q.w ≡ one

-- the calls that give wheel i another steering: a set-up, which makes an end of it, and its own controls
unfoldable pub steers : ℕ → Call → Bool
steers i (SetUp up forward) = true
steers i (AddWheel settings) = false
steers i (SetControls j controls) = eqb j i
steers i (Aim chassis) = false
steers i (Drive frame n) = false
steers i (ReadWheel j) = false

-- none of the calls is one of these and accepted
unfoldable pub none_steers : Format → ℕ → List Call → State → Bool
none_steers f i [] s = true
none_steers f i (c ∷ l) s = not (steers i c && accepted f c s) && none_steers f i l (run f c s)
