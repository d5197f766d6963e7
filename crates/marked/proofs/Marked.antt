-- The claim: the definitions meet every marked case of document 01, each by a test of its two lists of numbers, which computes. Assumes nothing.
use Prim.Native.Nat.{ℕ}
use mathlib.Core.Bool.{Bool, true, false, cond, true≢false}
use mathlib.Core.List.{List, [], ◌∷◌}
use mathlib.Core.Path.{◌≡◌, refl, sym, ap, ◌∙◌}
use lib.Dec.{eqb}
use borrow.Author.Tests.{eqb-true}
use lib.Ieee.{neg, add, sub, mul, div, lt, le, eq, of_bits, to_bits}
use Rattle.lists.specs.Pick.{pick}
use Rattle.real.specs.Number.{ratio}
use Rattle.real.specs.Root.{root_of}
use Rattle.real.specs.Scalar.{inverse_of, raised_of, lowered_of, clamp_of, not_below_zero}
use Rattle.tyre.specs.Suspension.{approach_of, suspension_length, damping_of, suspension_force}
use Rattle.tyre.specs.Grip.{load_of, slides, skid_of, rescaled_by, braked_of}
use Rattle.numbers.specs.Number.{bad_group, gained, read_groups, read_number, write_groups, write_number}
use Rattle.marked.specs.Cases.{numbers, inverse, force, impulses, valued, float_read, cases, Met}

-- two lists of numbers, compared
abbrev same : List ℕ → List ℕ → Bool
same [] [] = true
same [] (y ∷ m) = false
same (x ∷ l) [] = false
same (x ∷ l) (y ∷ m) = cond (eqb x y) (same l m) false

-- the two heads are equal, and so are the two rests
both : (x y : ℕ) (rest b : Bool) → eqb x y ≡ b → cond b rest false ≡ true → (x ≡ y) × (rest ≡ true)
both x y rest true e t = (eqb-true x y e, t)
both x y rest false e t = absurd (true≢false (sym t))

same_is : (l m : List ℕ) → same l m ≡ true → l ≡ m
same_is [] [] h = refl
same_is [] (y ∷ m) h = absurd (true≢false (sym h))
same_is (x ∷ l) [] h = absurd (true≢false (sym h))
same_is (x ∷ l) (y ∷ m) h =
    let parts = both x y (same l m) (eqb x y) refl h in
    ap {B = List ℕ} (λ (k : ℕ). k ∷ l) parts.0 ∙ ap {B = List ℕ} (λ (r : List ℕ). y ∷ r) (same_is l m parts.1)

pub marked : Met cases
unfolding Met cases numbers inverse force impulses valued float_read ratio approach_of suspension_length damping_of suspension_force not_below_zero sub le neg add mul div lt eq root_of inverse_of raised_of lowered_of clamp_of load_of slides skid_of rescaled_by braked_of of_bits to_bits bad_group gained read_groups read_number write_number write_groups pick
marked =
    (same_is _ _ refl, (same_is _ _ refl, (same_is _ _ refl, (same_is _ _ refl, (same_is _ _ refl, (same_is _ _ refl, (same_is _ _ refl, (same_is _ _ refl, (same_is _ _ refl, (same_is _ _ refl, (same_is _ _ refl, (same_is _ _ refl, (same_is _ _ refl, tt)))))))))))))
