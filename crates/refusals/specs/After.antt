-- How every call ends. Document 01: a refusal answers its number, zeros elsewhere, and changes no lent number, mark included. Definitions only.
use Rattle.std.specs.Prelude.{ℕ, List, eqb, Float, set}
use Rattle.lists.specs.Pick.{pick}
use Rattle.table.specs.Layout as at

-- a reply, with the lent table and the whole numbers as the call leaves them
pub record After (R : Type 0) : Type 0 where
  pub reply : R
  pub table : List Float
  pub whole : List ℕ

abbrev pub after : {R : Type 0} → R → List Float → List ℕ → After R
after r t m = record { reply = r; table = t; whole = m }

-- refused with a number that is not 0, and nothing lent is changed; or done
unfoldable pub settled : {R : Type 0} → ℕ → (ℕ → R) → After R → List Float → List ℕ → After R
settled number refused done t m = pick (eqb number 0) done (after (refused number) t m)

-- the mark set anew
abbrev pub marked : List ℕ → ℕ → List ℕ
marked m mark = set m at.MARK mark
