-- The program as it was run: over the blocks that were read, whichever they were. Definitions only.
use Rattle.std.specs.Prelude.{ℕ, Bool, true, false, List, [], ◌≡◌, ltb, length}
use Rattle.lists.specs.All.{all}
use Rattle.scenario.specs.Format.{format}
use Rattle.perform.specs.declared.Car.{Car}
use Rattle.session.specs.Layout.{TEXT-BYTES}
use Rattle.console.specs.Progress.{Progress, serving, after}

-- how many runs are made at most
abbrev pub RUNS : ℕ
RUNS = 18446744073709551615

-- why no run follows: a text could not be written, and no bytes are left; the program has ended, or the runs are used up, and the window's bytes are those that the runs left
pub data Stops (p : Progress) (runs : ℕ) (window : List ℕ) : Type 0 where
  unwritten : window ≡ [] → Stops p runs window
  ended : p.ended ≡ true → window ≡ p.at.window → Stops p runs window
  used_up : runs ≡ RUNS → window ≡ p.at.window → Stops p runs window

-- a block that a read gave has a byte at least: a read that gives none is the end of the input
abbrev pub given : List ℕ → Bool
given b = ltb 0 (length b)

-- The program went on from a car and the bytes of a window: there are blocks, those that were read, over which so many runs leave it so.
pub record Serves (s : Car) (bytes window : List ℕ) (c : Car) : Type 0 where
  pub blocks : List (List ℕ)
  pub gave : all given blocks ≡ true
  pub runs : ℕ
  pub end : Progress
  pub same : after format TEXT-BYTES runs (serving false s bytes blocks) ≡ end
  pub all_read : end.at.blocks ≡ []
  pub car : c ≡ end.at.car
  pub stops : Stops end runs window
