-- `refusals::handed::are_normals_handed` meets its contract: the definition, replayed as the code runs. Assumes nothing.
use Rattle.lists.proofs.Picks.{picks}
use Rattle.refusals.specs.Handed.{normals_handed}
use Rattle.refusals.proofs.handed.are_normals_handed.Goals as goal

pub returns-then-not-is_vector_handed : goal.returns-then-not-is_vector_handed
unfolding normals_handed
returns-then-not-is_vector_handed c = rw c.in-HitUp.is (search picks depth 40 fits 4000)

pub returns-in-Nothing : goal.returns-in-Nothing
unfolding normals_handed
returns-in-Nothing c = rw c.in-Nothing.is

pub returns-in-Hit : goal.returns-in-Hit
unfolding normals_handed
returns-in-Hit c = rw (c.in-Hit.is, ← c.is_vector_handed.ensures)

pub returns-else-not-is_vector_handed : goal.returns-else-not-is_vector_handed
unfolding normals_handed
returns-else-not-is_vector_handed c = rw c.in-HitUp.is (search picks depth 40 fits 4000)
