-- A front of a lent list that is filled to its end stands in the list. Assumes nothing.
use Prim.Native.Nat.{ℕ, ◌≤◌}
use mathlib.Core.List.{List, ◌++◌}
use mathlib.Core.Path.{◌≡◌, ◌∙◌}
use native.Mathlib.Omega.{arith}
use lib.ListN.{length, take, drop}
use lib.Seq.{length-take-le}
use Rattle.lists.specs.Part.{paste}
use Rattle.lists.proofs.Parts.{paste_all}

module _ {A : Type 0} where
  pub filled_front : (t now whole : List A) (n : ℕ) → n ≤ length t → length whole ≡ n → now ≡ paste (take n t) 0 whole → now ++ drop n t ≡ paste t 0 whole
  unfolding paste
  filled_front t now whole n h l e =
      let all : now ≡ whole = e ∙ paste_all (take n t) whole (omega (arith, length-take-le n t h)) in
      rw (all, l)
