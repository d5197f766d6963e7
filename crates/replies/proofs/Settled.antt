-- The first numbers of a read, as many as its code prints, are the results of that code. Assumes nothing.
use Prim.Native.Nat.{ℕ, ◌≤◌}
use mathlib.Core.Bool.{Bool, true, false}
use mathlib.Core.List.{List}
use mathlib.Core.Path.{◌≡◌}
use native.Mathlib.Omega.{arith}
use lib.Ieee.{Format}
use lib.ListN.{take}
use Rattle.lists.specs.Pick.{pick}
use Rattle.lists.specs.Part.{paste}
use Rattle.lists.specs.Puts.{Puts}
use Rattle.read_wheel.specs.Read.{ReadReply, READING, SETTLED, reading_list, settled_list, all_list}
use Rattle.scenario.specs.Results.{words_of}
use Rattle.replies.specs.Replies.{read_results, settled_results}

pub count_fits : (settled : Bool) (k : ℕ) → k ≡ pick settled SETTLED READING → k ≤ SETTLED
unfolding pick
count_fits true k e = omega arith
count_fits false k e = omega arith

pub first_numbers_put : (f : Format) (settled : Bool) (r : ReadReply) (before now : List ℕ) (k : ℕ) → k ≡ pick settled SETTLED READING → now ≡ paste before 0 (words_of f (take k (all_list r)))
    → Puts before now 0 k (pick settled (settled_results f r) (read_results f r))
unfolding pick settled_results read_results all_list settled_list reading_list words_of
first_numbers_put f true r before now k e p = record { put = rw e at p; end = e }
first_numbers_put f false r before now k e p = record { put = rw e at p; end = e }
