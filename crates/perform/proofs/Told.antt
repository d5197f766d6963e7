-- Laws on a call that is made. In order: it is refused; it is accepted, and its results are put; its reply is a number alone; there is none. Assumes nothing.
use Prim.Native.Nat.{ℕ}
use mathlib.Core.Bool.{Bool, true, false}
use mathlib.Core.List.{List, []}
use mathlib.Core.Path.{◌≡◌, refl, sym, ap, ◌∙◌}
use borrow.Author.Tests.{eq-eqb, ne_eqb}
use native.Mathlib.Omega.{arith}
use lib.Dec.{eqb}
use lib.ListN.{length}
use Rattle.std.specs.Prelude.{Result, Ok, Err, IsErrAnd}
use Rattle.lists.specs.Pick.{pick}
use Rattle.lists.specs.Puts.{Puts}
use Rattle.lists.proofs.Puts.{paste_nil}
use Rattle.refusals.specs.After.{After, after}
use Rattle.refusals.specs.declared.Refusal.{Refusal}
use Rattle.refusals.specs.Refused.{number_of}
use Rattle.refusals.proofs.Settled.{number_not_zero}
use Rattle.perform.specs.declared.Car.{Car}
use Rattle.perform.specs.Call.{told, numbered, no_call, number_in, count_in, Performs}

-- a call that answered `reply` and left the car c
module _ {R : Type 0} (number : R → ℕ) (results : R → List ℕ) (reply : R) (c : Car) (x : After R) (e : after reply c.table c.whole ≡ x) where
  refused : (before : List ℕ) (r : Refusal) → number reply ≡ number_of r → Performs (told number results x) (Err r) before before c
  unfolding told pick
  refused before r h =
      let some : eqb (number reply) 0 ≡ false = ne_eqb (number reply) 0 (λ z. number_not_zero r (sym h ∙ z)) in
      rw (← e, some) (record { number = sym h; count = refl; lent = sym (paste_nil before 0); table = refl; whole = refl })

  -- its refusal r, handed on by `?`
  pub told_refused : (before : List ℕ) (r : Refusal) (given : Result ℕ Refusal) → IsErrAnd given (λ y. y ≡ r) → number reply ≡ number_of r → Performs (told number results x) given before before c
  told_refused before r (Ok n) p h = absurd p
  told_refused before r (Err y) p h = rw p (refused before r h)

  pub told_accepted : (before now : List ℕ) (k : ℕ) → number reply ≡ 0 → Puts before now 0 k (results reply) → Performs (told number results x) (Ok k) before now c
  unfolding told pick
  told_accepted before now k h p = rw (← e, eq-eqb (number reply) 0 h) (record { number = sym h; count = (let end = p.end in omega arith); lent = p.put; table = refl; whole = refl })

-- no results, either way
nothing : (b : Bool) → pick {A = List ℕ} b [] [] ≡ []
unfolding pick
nothing true = refl
nothing false = refl

pub told_number : (r : Result ℕ Refusal) (c : Car) (x : After ℕ) (before : List ℕ) → (after (number_in r) c.table c.whole ≡ x) × (count_in r ≡ 0) → Performs (numbered x) r before before c
unfolding numbered told
told_number r c x before (e, k) =
    let none = nothing (eqb (number_in r) 0) in
    rw (← e) (record { number = refl; count = k ∙ ap length (sym none); lent = rw none (sym (paste_nil before 0)); table = refl; whole = refl })

pub told_none : (c : Car) (before : List ℕ) → Performs (no_call c.table c.whole) (Ok 0) before before c
told_none c before = record { number = refl; count = refl; lent = sym (paste_nil before 0); table = refl; whole = refl }

-- a callee's refusal, and its number alone, handed on by `?`
pub handed_on : {c : Car} {x : After ℕ} (r : Refusal) (given : Result ℕ Refusal) → IsErrAnd given (λ y. y ≡ r) → after (number_of r) c.table c.whole ≡ x → (after (number_in given) c.table c.whole ≡ x) × (count_in given ≡ 0)
handed_on r (Ok n) p e = absurd p
handed_on r (Err y) p e = (rw p e, refl)
