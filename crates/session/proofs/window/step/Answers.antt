-- `session::window::step` meets its contract: a run takes no more than the window has. Assumes nothing.
use borrow.Author.Rules.{rules}
use Rattle.session.proofs.Stepping.{took_within}
use Rattle.session.proofs.window.step.Goals as goal

pub drop_front-requires : goal.drop_front-requires
drop_front-requires c = (search rules, took_within _ _ _ _ (rw c.as_bytes.ensures at c.run_codes-run.ensures))
