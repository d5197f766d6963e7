-- A part of a list, and the list with another part in its place. Definitions only.
use Rattle.std.specs.Prelude.{ℕ, List, ◌++◌, length, take, drop}

module _ {A : Type 0} where
  -- the k elements of t from a on
  unfoldable pub part : List A → ℕ → ℕ → List A
  part t a k = take k (drop a t)

  -- t with r in place of its elements from a on
  unfoldable pub paste : List A → ℕ → List A → List A
  paste t a r = take a t ++ (r ++ drop (length r) (drop a t))
