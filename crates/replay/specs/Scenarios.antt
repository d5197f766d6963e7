-- Stored scenarios: what one leaves in the window, and where the next one begins. Definitions only.
use Rattle.std.specs.Prelude.{ℕ, ◌<◌, List, [], ◌≡◌, length, drop}
use Rattle.perform.specs.declared.Car.{Car}
use Rattle.session.specs.Program.{start_car}
use Rattle.console.specs.Serves.{Serves}

-- a scenario was run from the bytes of a window, with a car of its own
pub record Plays (bytes window : List ℕ) : Type 0 where
  pub car : Car
  pub serves : Serves start_car bytes window car

-- the next one begins a byte behind the start of what is left: nowhere, with what stands there, or with the bytes that are read where nothing does
pub data Begins (before after : List ℕ) : Type 0 where
  nowhere : before ≡ [] → after ≡ before → Begins before after
  behind : 0 < length before → 0 < length after → after ≡ drop 1 before → Begins before after
  read : 0 < length before → drop 1 before ≡ [] → Begins before after
