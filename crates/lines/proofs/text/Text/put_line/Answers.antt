-- `lines::text::Text::put_line` meets its contract: its parts are put one behind the other. Assumes nothing.
use borrow.Author.Rules.{rules}
use native.Mathlib.Omega.{arith}
use mathlib.Core.List.{append_assoc}
use lib.ListN.{length-append}
use Rattle.lines.specs.Layout.{HEX-DIGITS}
use Rattle.lines.specs.Line.{line}
use Rattle.lines.proofs.Digits.{length_decimal, length_results}
use Rattle.lines.proofs.text.Text.put_line.Goals as goal

pub returns : goal.returns
unfolding line
returns g c =
    rw (c.put-2.ensures, c.put_results.ensures, c.put_decimal-2.ensures, c.put.ensures, c.put_decimal.ensures) (simp append_assoc)

pub put-requires : goal.put-requires
put-requires g c = (search rules, rw c.put_decimal.ensures (simp length-append (omega (arith, length_decimal c.args.code))))

pub put_decimal-requires-2 : goal.put_decimal-requires-2
put_decimal-requires-2 g c = (search rules, rw (c.put.ensures, c.put_decimal.ensures) (simp length-append (omega (arith, length_decimal c.args.code))))

pub put_results-requires : goal.put_results-requires
put_results-requires g c = (
  search rules,
  rw (c.put_decimal-2.ensures, c.put.ensures, c.put_decimal.ensures) (
      simp length-append (omega (arith, length_decimal c.args.code, length_decimal c.args.answer, c.requires.0))),
)

pub put-requires-2 : goal.put-requires-2
put-requires-2 g c = (
  search rules,
  rw (c.put_results.ensures, c.put_decimal-2.ensures, c.put.ensures, c.put_decimal.ensures) (
      simp length-append (omega (arith, length_decimal c.args.code, length_decimal c.args.answer, length_results HEX-DIGITS c.args.results.now, c.requires.0))),
)
