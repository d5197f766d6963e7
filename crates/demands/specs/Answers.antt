-- Demand 1, "A bad call is answered by a number of document 01": for each call the numbers that it can answer, 0 first, then those of its refusals in document 01's order, with 12 of change request 2026-03 and 17 of 2026-11. Definitions only.
use Rattle.std.specs.Prelude.{ℕ, Bool, false, ◌||◌, List, [], ◌∷◌, eqb}
use Rattle.demands.specs.History.{Call, SetUp, AddWheel, SetControls, Aim, Drive, ReadWheel}

-- whether a number stands in a list
unfoldable pub is_one_of : ℕ → List ℕ → Bool
is_one_of n [] = false
is_one_of n (k ∷ l) = eqb n k || is_one_of n l

unfoldable pub answers : Call → List ℕ
answers (SetUp up forward) = 0 ∷ 1 ∷ []
answers (AddWheel settings) = 0 ∷ 1 ∷ 3 ∷ 2 ∷ 10 ∷ []
answers (SetControls i controls) = 0 ∷ 1 ∷ 4 ∷ 2 ∷ 10 ∷ []
answers (Aim chassis) = 0 ∷ 1 ∷ 2 ∷ 10 ∷ 17 ∷ 8 ∷ []
answers (Drive frame n) = 0 ∷ 1 ∷ 5 ∷ 6 ∷ 2 ∷ 12 ∷ 10 ∷ 7 ∷ 8 ∷ []
answers (ReadWheel i) = 0 ∷ 1 ∷ 4 ∷ 5 ∷ 2 ∷ []
