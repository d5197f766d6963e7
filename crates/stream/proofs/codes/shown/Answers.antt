-- `stream::codes::shown` meets its contract. Assumes nothing.
use mathlib.Core.Path.{◌≡◌, sym}
use native.Mathlib.Omega.{arith}
use lib.Seq.{get_or-take}
use Rattle.stream.specs.Code.{shown}
use Rattle.stream.proofs.codes.shown.Goals as goal

pub returns-then-n-gt0 : goal.returns-then-n-gt0
unfolding shown
returns-then-n-gt0 c = sym (get_or-take _ _ 0 0 c.if-n-gt0.true)

pub returns-else-n-gt0 : goal.returns-else-n-gt0
unfolding shown
returns-else-n-gt0 c =
    let none : c.args.n ≡ 0 = omega arith in
    rw none
