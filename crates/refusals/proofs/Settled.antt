-- Laws on `settled`, the end of every call. In order, where a callee answered `number` for the n of the definition: it was refused, and what is lent is left; it is done. Then the number that a call
-- answers, either way. Assumes nothing.
use Prim.Native.Nat.{ℕ}
use mathlib.Core.Bool.{Bool, true, false}
use mathlib.Core.List.{List}
use mathlib.Core.Path.{◌≡◌, refl, sym, ◌∙◌}
use native.Mathlib.Omega.{arith}
use borrow.Author.Tests.{eqb-true, eq-eqb, ne_eqb}
use lib.Dec.{eqb}
use lib.Ieee.{Float}
use Rattle.lists.specs.Pick.{pick}
use Rattle.refusals.specs.After.{After, after, settled}
use Rattle.refusals.specs.declared.Refusal.{Refusal}
use Rattle.refusals.specs.declared.Refusal.TheVariants.{NoVehicle, BadNumber, Full, NoSuchWheel, WrongMoment, BadLists, WildGrip, WildStep, Malformed, OutOfRange, BadNormal, BadTurn}
use Rattle.refusals.specs.Refused.{number_of}

pub settled_refused : {R : Type 0} (number n : ℕ) (refused : ℕ → R) (reply : R) (done : After R) (t : List Float) (m : List ℕ)
    → number ≡ n → (number ≡ 0 → ⊥) → reply ≡ refused number → after reply t m ≡ settled n refused done t m
unfolding settled pick
settled_refused number n refused reply done t m p q e = rw (e, ← p, ne_eqb number 0 q)

pub settled_done : {R : Type 0} (number n : ℕ) (refused : ℕ → R) (x done : After R) (t : List Float) (m : List ℕ)
    → number ≡ n → number ≡ 0 → x ≡ done → x ≡ settled n refused done t m
unfolding settled pick
settled_done number n refused x done t m p q e = rw (← p, eq-eqb number 0 q) e

pub settled_number : {R : Type 0} (number : ℕ) (refused : ℕ → R) (done : After R) (t : List Float) (m : List ℕ) (of : R → ℕ)
    → of (refused number) ≡ number → of done.reply ≡ 0 → of (settled number refused done t m).reply ≡ number
unfolding settled pick
settled_number number refused done t m of p q = either (eqb number 0) refl
  where
    either : (b : Bool) → eqb number 0 ≡ b → of (pick b done (after (refused number) t m)).reply ≡ number
    either true e = q ∙ sym (eqb-true number 0 e)
    either false e = p

-- no refusal has the number 0
pub number_not_zero : (r : Refusal) → number_of r ≡ 0 → ⊥
number_not_zero NoVehicle h = absurd (omega arith)
number_not_zero BadNumber h = absurd (omega arith)
number_not_zero Full h = absurd (omega arith)
number_not_zero NoSuchWheel h = absurd (omega arith)
number_not_zero WrongMoment h = absurd (omega arith)
number_not_zero BadLists h = absurd (omega arith)
number_not_zero WildGrip h = absurd (omega arith)
number_not_zero WildStep h = absurd (omega arith)
number_not_zero Malformed h = absurd (omega arith)
number_not_zero OutOfRange h = absurd (omega arith)
number_not_zero BadNormal h = absurd (omega arith)
number_not_zero BadTurn h = absurd (omega arith)

-- a callee's refusal, and its acceptance
pub settled_err : {R : Type 0} (r : Refusal) (n : ℕ) (refused : ℕ → R) (done : After R) (t : List Float) (m : List ℕ)
    → number_of r ≡ n → after (refused (number_of r)) t m ≡ settled n refused done t m
settled_err r n refused done t m p = settled_refused (number_of r) n refused _ done t m p (number_not_zero r) refl

pub settled_ok : {R : Type 0} (n : ℕ) (refused : ℕ → R) (x done : After R) (t : List Float) (m : List ℕ) → 0 ≡ n → x ≡ done → x ≡ settled n refused done t m
settled_ok n refused x done t m p e = settled_done 0 n refused x done t m p refl e
