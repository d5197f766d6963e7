-- A turn of the program: a run over the window's bytes, and what follows it. Definitions only.
use Rattle.std.specs.Prelude.{ℕ, ◌<◌, Bool, true, false, List, [], ◌++◌, ◌≡◌, length, drop}
use Rattle.perform.specs.declared.Car.{Car}
use Rattle.session.specs.declared.Stands.{Stands}
use Rattle.session.specs.Runs.{Ran}
use Rattle.console.specs.declared.Input.{Input}
use Rattle.console.specs.Reading.{input}

-- What follows a run: the program stops where its text could not be written, or where it has ended; it runs on at once, or with the block that was read; a read that gives nothing is the last one.
pub data Follows (x : Ran) (bytes : List ℕ) (last : Bool) (r : Input) (window : List ℕ) : Type 0 where
  unwritten : r ≡ input true false → window ≡ [] → Follows x bytes last r window
  ended : x.stands ≡ Stands.Ended → r ≡ input last false → window ≡ drop x.taken bytes → Follows x bytes last r window
  full : x.stands ≡ Stands.Full → r ≡ input last true → window ≡ drop x.taken bytes → Follows x bytes last r window
  more : x.stands ≡ Stands.More → r ≡ input false true → (block : List ℕ) → 0 < length block → window ≡ drop x.taken bytes ++ block → Follows x bytes last r window
  no_more : x.stands ≡ Stands.More → r ≡ input true true → window ≡ drop x.taken bytes → Follows x bytes last r window

-- a turn is taken: the car and the text are the run's
pub record Turned (x : Ran) (bytes : List ℕ) (last : Bool) (r : Input) (window printed : List ℕ) (c : Car) : Type 0 where
  pub text : printed ≡ x.text
  pub car : c ≡ x.car
  pub follows : Follows x bytes last r window
