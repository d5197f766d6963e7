-- Demand 3 counts in units, and a count means units only for a number that the format holds. What a table and a call must have for that; a host's f32 are such numbers at binary32. Definitions only.
use Rattle.std.specs.Prelude.{Bool, true, List, [], ◌++◌, ◌≡◌, Float}
use Rattle.std.specs.Float.{Format}
use Rattle.std.specs.Float.Ieee.{fits}
use Rattle.lists.specs.All.{all}
use Rattle.lists.specs.Counted.{every}
use Rattle.wheel.specs.declared.RayAnswer.{RayAnswer}
use Rattle.wheel.specs.declared.RayAnswer.TheVariants.{Nothing, Hit, HitUp}
use Rattle.table.specs.Rows.{vector_list, settings_list, handed_controls, chassis_list}
use Rattle.demands.specs.History.{Call, SetUp, AddWheel, SetControls, Aim, Drive, ReadWheel}

-- each number is one that the format holds
unfoldable pub are_held : Format → List Float → Bool
are_held f l = all (fits f) l

abbrev pub Held : Format → List Float → Type 0
Held f l = are_held f l ≡ true

-- the normals of a ray answer
unfoldable pub normals_in : RayAnswer → List Float
normals_in Nothing = []
normals_in (Hit time normal named) = vector_list normal
normals_in (HitUp time normal upward named) = vector_list normal ++ vector_list upward

-- each number that a call is handed and may store is one that the format holds
unfoldable pub hands_held : Format → Call → Bool
hands_held f (SetUp up forward) = true
hands_held f (AddWheel settings) = are_held f (settings_list settings)
hands_held f (SetControls i controls) = are_held f (handed_controls controls)
hands_held f (Aim chassis) = are_held f (chassis_list chassis)
hands_held f (Drive frame n) = every (λ i. are_held f (normals_in (frame.answer i))) n 0
hands_held f (ReadWheel i) = true

-- and so does each of a list of calls
abbrev pub HandsHeld : Format → List Call → Type 0
HandsHeld f l = all (hands_held f) l ≡ true
