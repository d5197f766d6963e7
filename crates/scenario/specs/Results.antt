-- The results of a call as words: each number by its bit pattern, a flag as 1 or 0. Definitions only.
use Rattle.std.specs.Prelude.{ℕ, Bool, List, [], ◌∷◌, Float}
use Rattle.std.specs.Float.{Format}
use Rattle.std.specs.Float.Ieee.{to_bits}
use Rattle.lists.specs.Pick.{pick}

unfoldable pub words_of : Format → List Float → List ℕ
words_of f [] = []
words_of f (x ∷ l) = to_bits f x ∷ words_of f l

unfoldable pub flag_word : Bool → ℕ
flag_word b = pick b 1 0
