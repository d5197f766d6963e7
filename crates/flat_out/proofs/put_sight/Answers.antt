-- `flat_out::put_sight` meets its contract: the lent part comes back as the sight. Assumes nothing.
use Prim.Native.Nat.{◌+◌, ◌*◌}
use mathlib.Core.Path.{refl, ◌∙◌}
use Rattle.lists.proofs.Parts.{paste_is}
use Rattle.flat_out.specs.Layout as at
use Rattle.aim.specs.Sights.{SIGHT, sight_list}
use Rattle.flat_out.proofs.put_sight.Goals as goal

pub returns : goal.returns
unfolding sight_list
returns c =
    let a = c.args in
    paste_is a.results.now _ (sight_list a.s) (at.SIGHTS + a.i * SIGHT) SIGHT (c.copy_from_slice.ensures.after ∙ c.sight_numbers.ensures) refl
