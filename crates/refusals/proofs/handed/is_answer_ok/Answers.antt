-- `refusals::handed::is_answer_ok` meets its contract: the definition, replayed as the code runs. Assumes nothing.
use Rattle.refusals.specs.Handed.{answer_ok}
use Rattle.refusals.proofs.handed.is_answer_ok.Goals as goal

pub returns-in-Nothing : goal.returns-in-Nothing
unfolding answer_ok
returns-in-Nothing c = rw c.in-Nothing.is

pub returns-in-Hit : goal.returns-in-Hit
unfolding answer_ok
returns-in-Hit c = rw (c.in-Hit.is, ← c.is_hit_ok.ensures)

pub returns-in-HitUp : goal.returns-in-HitUp
unfolding answer_ok
returns-in-HitUp c = rw (c.in-HitUp.is, ← c.is_hit_ok-in-HitUp.ensures)
