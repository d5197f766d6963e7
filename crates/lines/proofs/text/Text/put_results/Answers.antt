-- `lines::text::Text::put_results` meets its contract: the results that are left give what all give. Assumes nothing.
use borrow.Author.Rules.{rules}
use native.Mathlib.Omega.{arith}
use lib.ListN.{length-append}
use Rattle.lines.proofs.Digits.{result_fits, one_listed, all_listed}
use Rattle.lines.proofs.text.Text.put_results.Goals as goal

pub put-requires : goal.put-requires
put-requires g c = (search rules, omega (arith, result_fits c.loop-word.invariant c.requires c.loop-word-test.true))

pub put_digits-requires : goal.put_digits-requires
put_digits-requires g c =
    (search rules, (omega arith, omega arith, rw c.put.ensures (simp length-append (omega (arith, result_fits c.loop-word.invariant c.requires c.loop-word-test.true)))))

pub loop-word-preserved : goal.loop-word-preserved
loop-word-preserved g c = one_listed c.loop-word.invariant c.loop-word-test.true c.put.ensures c.put_digits.ensures

pub returns : goal.returns
returns g c = all_listed c.loop-word.invariant c.loop-word-test.false
