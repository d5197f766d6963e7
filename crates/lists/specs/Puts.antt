-- What a function does that puts elements into a lent list and answers the place behind them. Definitions only.
use Rattle.std.specs.Prelude.{ℕ, ◌+◌, List, ◌≡◌, length}
use Rattle.lists.specs.Part.{paste}

-- a list with l put into it from `at` on, and the place behind
pub record Puts {A : Type 0} (before after : List A) (at next : ℕ) (l : List A) : Type 0 where
  pub put : after ≡ paste before at l
  pub end : next ≡ at + length l
