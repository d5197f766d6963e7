-- Document 01, "What a vehicle keeps". Read a wheel: only when driven. It gives centre, world direction, world axle, suspension length, force,
-- forward and side impulse, skid and rotation. Change request 2026-02: "Reading now also gives a settled centre, .. and we draw that. The old centre stays".
-- Change request 2026-05: "two yes or no answers, for the axis and the forward direction of rule 7": whether each fell back to zero. Definitions only.
use Rattle.std.specs.Prelude.{ℕ, ◌+◌, Bool, false, List, [], ◌∷◌, ◌++◌, eqb, ltb, Float}
use Rattle.std.specs.Float.{Format}
use Rattle.lists.specs.Refusal.{◌or◌, first_failed}
use Rattle.real.specs.Number.{zero}
use Rattle.real.specs.Scalar.{flag_number, reads_yes}
use Rattle.vector.specs.declared.Vector.{Vector}
use Rattle.vector.specs.Arithmetic.{zero_v}
use Rattle.wheel.specs.declared.Wheel.{Wheel}
use Rattle.wheel.specs.Ray.{settled_centre}
use Rattle.table.specs.Layout as at
use Rattle.table.specs.Rows.{vector_list, wheel_at}
use Rattle.table.specs.Bounds.{stored_within}
use Rattle.refusals.specs.Shape.{count_of, mark_of, shape_ok}
use Rattle.refusals.specs.After.{After, after, settled}
use Rattle.read_wheel.specs.declared.Reading.{Reading}

-- the reply: its number, and what a read gives, zeros where it is refused
pub record ReadReply : Type 0 where
  pub number : ℕ
  pub centre : Vector
  pub direction : Vector
  pub axle : Vector
  pub length : Float
  pub force : Float
  pub forward : Float
  pub side : Float
  pub skid : Float
  pub rotation : Float
  pub settled : Vector
  pub noaxis : Bool
  pub noforward : Bool

-- what the code answers as the reply
abbrev pub read_reply : Reading → ReadReply
read_reply r = record {
  number = 0;
  centre = r.centre;
  direction = r.direction;
  axle = r.axle;
  length = r.length;
  force = r.force;
  forward = r.forward;
  side = r.side;
  skid = r.skid;
  rotation = r.rotation;
  settled = r.settled;
  noaxis = r.noaxis;
  noforward = r.noforward;
}

unfoldable pub refuse_read : List Float → List ℕ → ℕ → ℕ
refuse_read t m i =
    first_failed
    (shape_ok t m or 1
    ∷ ltb i (count_of m) or 4
    ∷ eqb (mark_of m) at.DRIVEN or 5
    ∷ stored_within t (count_of m) or 2
    ∷ [])

unfoldable pub not_read : ℕ → ReadReply
not_read number = record {
  number = number;
  centre = zero_v;
  direction = zero_v;
  axle = zero_v;
  length = zero;
  force = zero;
  forward = zero;
  side = zero;
  skid = zero;
  rotation = zero;
  settled = zero_v;
  noaxis = false;
  noforward = false;
}

unfoldable pub reading_of : Format → Wheel → ReadReply
reading_of f w = record {
  number = 0;
  centre = w.place.centre;
  direction = w.place.direction;
  axle = w.place.axle;
  length = w.info.length;
  force = w.motion.force;
  forward = w.motion.forward;
  side = w.motion.side;
  skid = w.motion.skid;
  rotation = w.motion.rotation;
  settled = settled_centre f w;
  noaxis = reads_yes w.fallbacks.axis;
  noforward = reads_yes w.fallbacks.forward;
}

-- the results of a read, in the order of docs/STREAM.md, and how many they are: document 01's; those with the settled centre last; and all, the two answers last as numbers
unfoldable pub reading_list : ReadReply → List Float
reading_list r =
    vector_list r.centre
    ++ vector_list r.direction
    ++ vector_list r.axle
    ++ (r.length ∷ r.force ∷ r.forward ∷ r.side ∷ r.skid ∷ r.rotation ∷ [])

abbrev pub READING : ℕ
READING = 15

unfoldable pub settled_list : ReadReply → List Float
settled_list r = reading_list r ++ vector_list r.settled

abbrev pub SETTLED : ℕ
SETTLED = READING + 3

unfoldable pub all_list : ReadReply → List Float
all_list r = settled_list r ++ (flag_number r.noaxis ∷ flag_number r.noforward ∷ [])

abbrev pub ALL : ℕ
ALL = SETTLED + 2

unfoldable pub read_wheel : Format → List Float → List ℕ → ℕ → After ReadReply
read_wheel f t m i = settled (refuse_read t m i) not_read (after (reading_of f (wheel_at t i)) t m) t m
