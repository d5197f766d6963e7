-- Document 01, "Scenario program": the program as it is run. The stream comes in blocks, and the text goes out in blocks of what a buffer holds. Definitions only.
use Rattle.std.specs.Prelude.{ℕ, zero, suc, Bool, true, false, List, [], ◌∷◌, ◌++◌, drop}
use Rattle.std.specs.Float.{Format}
use Rattle.lines.specs.Line.{title}
use Rattle.session.specs.declared.Stands.{Stands}
use Rattle.perform.specs.declared.Car.{Car}
use Rattle.session.specs.Program.{start_car}
use Rattle.session.specs.Runs.{Ran, run_of}

-- blocks as one list
unfoldable pub joined : List (List ℕ) → List ℕ
joined [] = []
joined (b ∷ l) = b ++ joined l

-- where the program stands: whether the input has ended, the car, the bytes in its window, and the blocks that are still to be read
pub record Serving : Type 0 where
  pub last : Bool
  pub car : Car
  pub window : List ℕ
  pub blocks : List (List ℕ)

-- a block is read behind the window's bytes; after the last one the input has ended
unfoldable pub pulled : Car → List ℕ → List (List ℕ) → Serving
pulled s w [] = record { last = true; car = s; window = w; blocks = [] }
pulled s w (b ∷ l) = record { last = false; car = s; window = w ++ b; blocks = l }

-- what is printed after a run; `on` goes on
unfoldable pub served_by : (Serving → List ℕ) → Stands → Ran → Serving → List ℕ
served_by on Stands.Ended y x = []
served_by on Stands.More y x = on (pulled y.car (drop y.taken x.window) x.blocks)
served_by on Stands.Full y x = on (record { last = x.last; car = y.car; window = drop y.taken x.window; blocks = x.blocks })

-- what k runs print, each with room for so many bytes of text
unfoldable pub served : Format → ℕ → ℕ → Serving → List ℕ
served f room zero x = []
served f room (suc k) x =
    let y = run_of f x.last x.car room x.window in
    y.text ++ served_by (served f room k) y.stands y x

-- the whole program over the blocks of its input
unfoldable pub program : Format → ℕ → ℕ → List (List ℕ) → List ℕ
program f room k blocks = title ++ served f room k (record { last = false; car = start_car; window = []; blocks = blocks })
