-- `refusals::shape::is_shape_ok` meets its contract: each return gives the choice that the definition makes there. Assumes nothing.
use borrow.Author.Rules.{rules}
use Rattle.lists.proofs.Picks.{picks}
use Rattle.refusals.specs.Shape.{shape_ok}
use Rattle.refusals.proofs.Says.{place_in_whole}
use Rattle.refusals.proofs.shape.is_shape_ok.Goals as goal

pub returns-then-not-are_sizes_ok : goal.returns-then-not-are_sizes_ok
unfolding shape_ok
returns-then-not-are_sizes_ok c = search picks depth 40 fits 4000

pub bounds-whole-0 : goal.bounds-whole-0
bounds-whole-0 c = search (rules, place_in_whole)

pub bounds-whole-1 : goal.bounds-whole-1
bounds-whole-1 c = search (rules, place_in_whole)

pub returns-then-not-is_status_ok : goal.returns-then-not-is_status_ok
unfolding shape_ok
returns-then-not-is_status_ok c = search picks depth 40 fits 4000

pub bounds-whole-2 : goal.bounds-whole-2
bounds-whole-2 c = search (rules, place_in_whole)

pub bounds-whole-3 : goal.bounds-whole-3
bounds-whole-3 c = search (rules, place_in_whole)

pub returns : goal.returns
unfolding shape_ok
returns c = search picks depth 40 fits 4000
