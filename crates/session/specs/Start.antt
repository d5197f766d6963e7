-- Document 01, "Scenario program": how the program starts. "The table starts set up with axes 1 and 0. Output: `vehicle 1`." Definitions only.
use Rattle.std.specs.Prelude.{ℕ, List, ◌≡◌}
use Rattle.lines.specs.Line.{title}
use Rattle.perform.specs.declared.Car.{Car}
use Rattle.session.specs.Program.{start_car}

-- the text is the first line, and the car is set up
pub record Starts (printed : List ℕ) (c : Car) : Type 0 where
  pub text : printed ≡ title
  pub car : c ≡ start_car
