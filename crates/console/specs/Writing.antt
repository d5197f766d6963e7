-- What the program prints at a time. The write's contract says nothing of what it writes; this is what it may be handed. Definitions only.
use Rattle.std.specs.Prelude.{ℕ, Bool, List, ◌≡◌}
use Rattle.lines.specs.Line.{title}
use Rattle.scenario.specs.Format.{format}
use Rattle.perform.specs.declared.Car.{Car}
use Rattle.session.specs.Layout.{TEXT-BYTES}
use Rattle.session.specs.Runs.{run_of}

-- the first line, or all of the text of a run
pub data Printed (text : List ℕ) : Type 0 where
  first_line : text ≡ title → Printed text
  of_run : (last : Bool) (s : Car) (bytes : List ℕ) → text ≡ (run_of format last s TEXT-BYTES bytes).text → Printed text
