-- `flat_out::put_driven` meets its contract: the six velocities and the flag, over the results. Assumes nothing.
use Rattle.real.proofs.Literals.{flag_is}
use Rattle.real.specs.Scalar.{flag_number}
use Rattle.drive.specs.Results.{velocity_list}
use Rattle.flat_out.specs.Results.{driven_list}
use Rattle.flat_out.proofs.put_driven.Goals as goal

pub returns-in-Ok : goal.returns-in-Ok
unfolding driven_list velocity_list flag_number
returns-in-Ok c = rw c.in-Ok.is (rw (c.velocity_numbers-v.ensures, c.from-wake.ensures, flag_is) at c.copy_from_slice.ensures.after)
