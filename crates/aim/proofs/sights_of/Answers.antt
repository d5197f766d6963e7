-- `aim::sights_of` meets its contract: a turn for each wheel. Assumes nothing.
use native.Mathlib.Omega.{arith}
use Rattle.lists.proofs.Turns.{turning_start, turning_again, turning_done}
use Rattle.passes.specs.Passes.{given, each_gives}
use Rattle.aim.specs.Aim.{sights_of}
use Rattle.aim.proofs.sights_of.Goals as goal

pub loop-i-init : goal.loop-i-init
loop-i-init c = turning_start _ _ _

pub loop-i-preserved : goal.loop-i-preserved
unfolding given
loop-i-preserved c =
    turning_again _ _ _ _ _ _ c.loop-i.invariant (omega arith) (rw (← c.get_wheel.ensures, ← c.sight_of.ensures))

pub returns : goal.returns
unfolding sights_of each_gives
returns c = rw (← c.no_sight-none.ensures) (turning_done _ _ _ _ _ c.loop-i.invariant (omega arith))
