-- The results of an accepted aim, as numbers: the order of docs/STREAM.md. Definitions only.
use Rattle.std.specs.Prelude.{ℕ, List, [], ◌∷◌, ◌++◌, Float}
use Rattle.table.specs.Rows.{vector_list}
use Rattle.aim.specs.declared.Sight.{Sight}

-- how many numbers a sight has
abbrev pub SIGHT : ℕ
SIGHT = 6

-- where each ray starts, and the ray
unfoldable pub sight_list : Sight → List Float
sight_list s = vector_list s.hard ++ vector_list s.ray

unfoldable pub sights_list : List Sight → List Float
sights_list [] = []
sights_list (s ∷ l) = sight_list s ++ sights_list l

-- an aim: the signed speed, then the sights
unfoldable pub aimed_list : Float → List Sight → List Float
aimed_list speed sights = speed ∷ sights_list sights
