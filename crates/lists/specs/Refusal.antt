-- A first-match list of refusals: each test beside the number that is given where it is the first that fails. Definitions only.
use Rattle.std.specs.Prelude.{ℕ, Bool, List, [], ◌∷◌}
use Rattle.lists.specs.Pick.{pick}

pub record Test : Type 0 where
  pub holds : Bool
  pub number : ℕ

infix 70 ◌or◌
-- `test or n`: refused with n unless the test holds
abbrev pub ◌or◌ : Bool → ℕ → Test
b or n = record { holds = b; number = n }

-- the number of the first test that fails, or 0 where all hold
unfoldable pub first_failed : List Test → ℕ
first_failed [] = 0
first_failed (t ∷ l) = pick t.holds (first_failed l) t.number
