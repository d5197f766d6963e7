-- Whether a test holds of every element of a list. Definitions only.
use Rattle.std.specs.Prelude.{Bool, true, List, [], ◌∷◌}
use Rattle.lists.specs.Pick.{◌and◌}

module _ {A : Type 0} (p : A → Bool) where
  unfoldable pub all : List A → Bool
  all [] = true
  all (x ∷ l) = p x and all l
