-- `early::refuse_numbers` meets its contract: each return gives the choice that the definition makes there. Assumes nothing.
use lib.Ieee.{of_bits}
use Rattle.lists.specs.Refusal.{first_failed}
use Rattle.lists.proofs.Picks.{picks}
use Rattle.early.specs.Early.{number_tests}
use Rattle.early.proofs.refuse_numbers.Goals as goal

pub returns-then-not-is_within : goal.returns-then-not-is_within
unfolding number_tests of_bits first_failed
returns-then-not-is_within c = search picks depth 40 fits 4000

pub returns-then-not-all_within : goal.returns-then-not-all_within
unfolding number_tests of_bits first_failed
returns-then-not-all_within c = search picks depth 40 fits 4000

pub returns-then-not-are_all_normals_ok : goal.returns-then-not-are_all_normals_ok
unfolding number_tests of_bits first_failed
returns-then-not-are_all_normals_ok c = search picks depth 40 fits 4000

pub returns : goal.returns
unfolding number_tests of_bits first_failed
returns c = search picks depth 40 fits 4000
