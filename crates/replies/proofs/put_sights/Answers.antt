-- `replies::put_sights` meets its contract: the sights that are left are still to be put. Assumes nothing.
use native.Mathlib.Omega.{arith}
use Rattle.scenario.specs.Format.{format}
use Rattle.scenario.specs.Results.{words_of}
use Rattle.aim.specs.Sights.{sight_list}
use Rattle.replies.proofs.Putting.{part_put, all_put, sights_more, sights_end}
use Rattle.replies.proofs.put_sights.Goals as goal

pub loop-s-preserved : goal.loop-s-preserved
unfolding words_of sight_list
loop-s-preserved c =
    let l = c.loop-s in
    (omega (arith, l.invariant.0), part_put _ _ l.invariant.1 (sights_more format c.args.sights.now l.s-index _ c.loop-s-test.true) c.put_sight.ensures (omega (arith, l.invariant.1.same)))

pub returns : goal.returns
returns c = all_put c.loop-s.invariant.1 (sights_end format c.args.sights.now c.loop-s.s-index (omega (arith, c.loop-s-test.false)))
