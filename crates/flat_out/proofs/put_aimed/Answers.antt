-- `flat_out::put_aimed` meets its contract: the speed, and the sights after it, are all of the list. Assumes nothing.
use borrow.Author.Rules.{rules}
use mathlib.Core.Path.{◌∙◌}
use Rattle.aim.specs.Sights.{aimed_list}
use Rattle.flat_out.proofs.Sights.{aimed_is}
use Rattle.flat_out.proofs.put_aimed.Goals as goal

pub returns-in-Ok : goal.returns-in-Ok
unfolding aimed_list
returns-in-Ok c =
    rw c.in-Ok.is (c.put_sights.ensures ∙ aimed_is c.args.results.now c.in-Ok.a.speed c.in-Ok.a.sights (search rules) (search rules))
