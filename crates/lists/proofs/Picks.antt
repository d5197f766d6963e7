-- Laws on `pick`. In order: how `search` takes a choice whose test is known, or was a callee's answer (`picks`); what a choice that came out so tells of its tests. Assumes nothing.
use Prim.Native.Nat.{ℕ, suc}
use native.Mathlib.Omega.{arith}
use mathlib.Core.Bool.{Bool, true, false, not}
use mathlib.Core.Path.{◌≡◌, refl, sym, ◌∙◌}
use borrow.Author.Tests.{lt-ltb, le-ltb, le-leb, lt-leb, eq-eqb, ne_eqb, not-true, not-false}
use Rattle.lists.specs.Pick.{pick}

pub pick_yes : {A : Type 0} (b : Bool) (r x y : A) → b ≡ true → r ≡ x → r ≡ pick b x y
unfolding pick
pick_yes b r x y p q = rw p q

pub pick_no : {A : Type 0} (b : Bool) (r x y : A) → b ≡ false → r ≡ y → r ≡ pick b x y
unfolding pick
pick_no b r x y p q = rw p q

-- a test that was copied from a callee's answer
pub told : (b s v : Bool) → b ≡ s → b ≡ v → s ≡ v
told b s v p q = sym p ∙ q

pub told_not : (b s : Bool) → b ≡ s → not b ≡ true → s ≡ false
told_not b s p q = sym p ∙ not-true b q

pub told_yes : (b s : Bool) → b ≡ s → not b ≡ false → s ≡ true
told_yes b s p q = sym p ∙ not-false b q

-- the same where the test is a callee's answer b, which its contract equates with s
pub call_yes : {A : Type 0} (b s : Bool) (r x y : A) → b ≡ s → b ≡ true → r ≡ x → r ≡ pick s x y
call_yes b s r x y p q e = pick_yes s r x y (told b s true p q) e

pub call_no : {A : Type 0} (b s : Bool) (r x y : A) → b ≡ s → b ≡ false → r ≡ y → r ≡ pick s x y
call_no b s r x y p q e = pick_no s r x y (told b s false p q) e

pub not_yes : {A : Type 0} (b s : Bool) (r x y : A) → b ≡ s → not b ≡ false → r ≡ x → r ≡ pick s x y
not_yes b s r x y p q e = pick_yes s r x y (told_yes b s p q) e

pub not_no : {A : Type 0} (b s : Bool) (r x y : A) → b ≡ s → not b ≡ true → r ≡ y → r ≡ pick s x y
not_no b s r x y p q e = pick_no s r x y (told_not b s p q) e

pub ruleset picks = (refl, pick_yes, pick_no, call_yes, call_no, not_yes, not_no, lt-ltb, le-ltb, le-leb, lt-leb, eq-eqb, ne_eqb)

-- what a choice that came out so tells of its tests
pub pick_true : (b x : Bool) → pick b x false ≡ true → (b ≡ true) × (x ≡ true)
unfolding pick
pick_true true x h = (refl, h)
pick_true false x h = let z : ◌≡◌ {A = ℕ} 0 1 = cc in absurd (omega arith)

-- a refusal n + 1 that was not given
pub pick_zero : (b : Bool) (x n : ℕ) → pick b x (suc n) ≡ 0 → (b ≡ true) × (x ≡ 0)
unfolding pick
pick_zero true x n h = (refl, h)
pick_zero false x n h = absurd (omega arith)
