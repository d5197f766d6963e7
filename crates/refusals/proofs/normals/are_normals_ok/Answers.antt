-- `refusals::normals::are_normals_ok` meets its contract: the definition, replayed as the code runs. Assumes nothing.
use Rattle.lists.proofs.Picks.{picks}
use Rattle.refusals.specs.Normals.{normals_ok}
use Rattle.refusals.proofs.normals.are_normals_ok.Goals as goal

pub returns-then-not-is_hit_normal_ok : goal.returns-then-not-is_hit_normal_ok
unfolding normals_ok
returns-then-not-is_hit_normal_ok c = rw c.in-HitUp.is (search picks depth 40 fits 4000)

pub returns-in-Nothing : goal.returns-in-Nothing
unfolding normals_ok
returns-in-Nothing c = rw c.in-Nothing.is

pub returns-in-Hit : goal.returns-in-Hit
unfolding normals_ok
returns-in-Hit c = rw (c.in-Hit.is, ← c.is_hit_normal_ok.ensures)

pub returns-else-not-is_hit_normal_ok : goal.returns-else-not-is_hit_normal_ok
unfolding normals_ok
returns-else-not-is_hit_normal_ok c = rw c.in-HitUp.is (search picks depth 40 fits 4000)
