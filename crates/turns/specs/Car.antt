-- Document 01, "Scenario program": what the program keeps, and what it takes from a code. Definitions only.
use Rattle.std.specs.Prelude.{ℕ, List, Float, replicate}
use Rattle.lists.specs.Part.{paste}
use Rattle.grammar.specs.Layout as code
use Rattle.perform.specs.declared.Car.{Car}

-- a table and whole numbers
abbrev pub car : List Float → List ℕ → Car
car t m = record { table = t; whole = m }

-- "A malformed place gives 9 and stops."
abbrev pub MALFORMED : ℕ
MALFORMED = 9

-- the words of a code, with zeros behind them
unfoldable pub padded : List ℕ → List ℕ
padded l = paste (replicate code.CODE-WORDS 0) 0 l
