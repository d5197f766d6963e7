-- `exports::vehicle_cosine` meets its contract: one of the two that are worked out together. Assumes nothing.
use Rattle.angle.specs.Angle.{sine_cosine_of}
use Rattle.exports.proofs.vehicle_cosine.Goals as goal

pub returns : goal.returns
unfolding sine_cosine_of
returns c = rw c.sine_cosine-turn.ensures
