-- Laws on a list put into a lent one. In order: it fits, where the lent list keeps its length; it is read back from its start; how far a text that was put reaches. Assumes nothing.
use Prim.Native.Nat.{ℕ, ◌+◌, ◌≤◌}
use mathlib.Core.List.{List}
use mathlib.Core.Path.{◌≡◌, ap}
use native.Mathlib.Omega.{arith}
use lib.ListN.{length, take, length-append}
use lib.Seq.{length-take-le, take-append_seam}
use Rattle.lists.specs.Part.{paste}
use Rattle.lists.specs.Puts.{Puts}

module _ {A : Type 0} where
  pub lent_fits : (old new r : List A) (a : ℕ) → new ≡ paste old a r → length new ≡ length old → a ≤ length old → a + length r ≤ length old
  unfolding paste
  lent_fits old new r a e same h = omega (arith, length-take-le a old h, simp length-append at (ap length e))

  pub lent_front : (old new r : List A) → new ≡ paste old 0 r → take (length r) new ≡ r
  unfolding paste
  lent_front old new r e = rw e (take-append_seam r _)

pub puts_within : {before after text : List ℕ} {at next : ℕ} → Puts before after at next text → length after ≡ length before → at ≤ length before → next ≤ length before
puts_within {before} {after} {text} {at} {next} p same h = omega (arith, p.end, lent_fits before after text at p.put same h)
