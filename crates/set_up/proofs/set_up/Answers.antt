-- `set_up::set_up` meets its contract: it is refused with nothing changed, or leaves a vehicle with no wheels. Assumes nothing.
use Prim.Native.Nat.{ℕ}
use mathlib.Core.List.{List, [], ◌∷◌}
use mathlib.Core.Path.{◌≡◌, refl, sym, ap}
use native.Mathlib.Omega.{arith}
use borrow.Author.Rules.{rules}
use lib.ListN.{length, set, replicate}
use lib.Ieee.{of_bits}
use Rattle.real.specs.Number.{zero}
use Rattle.table.specs.Layout as at
use Rattle.refusals.specs.After.{after}
use Rattle.refusals.proofs.Lent.{refused_call}
use Rattle.refusals.proofs.Settled.{settled_ok}
use Rattle.set_up.specs.SetUp.{set_up}
use Rattle.set_up.proofs.Accepted.{set_up_says, place_set_up}
use Rattle.set_up.proofs.set_up.Goals as goal

-- the four whole numbers, written one by one
whole_set_up : (m : List ℕ) (up forward : ℕ) → length m ≡ at.WHOLE
    → set (set (set (set m at.COUNT 0) at.MARK at.NEW) at.UP up) at.FORWARD forward ≡ 0 ∷ at.NEW ∷ up ∷ forward ∷ []
whole_set_up [] up forward h = absurd (omega arith)
whole_set_up (a ∷ []) up forward h = absurd (omega arith)
whole_set_up (a ∷ b ∷ []) up forward h = absurd (omega arith)
whole_set_up (a ∷ b ∷ c ∷ []) up forward h = absurd (omega arith)
whole_set_up (a ∷ b ∷ c ∷ d ∷ []) up forward h = refl
whole_set_up (a ∷ b ∷ c ∷ d ∷ e ∷ m) up forward h = absurd (omega arith)

pub returns-in_err-refuse_set_up : goal.returns-in_err-refuse_set_up
unfolding set_up
returns-in_err-refuse_set_up c = refused_call _ _ _ _ _ _ _ _ c.from_residual.ensures.1 c.in_err-refuse_set_up.ensures

pub bounds-whole-0 : goal.bounds-whole-0
bounds-whole-0 c = place_set_up _ _ _ _ _ c.in_ok-refuse_set_up.ensures (omega arith)

pub bounds-whole-1 : goal.bounds-whole-1
bounds-whole-1 c = let l = place_set_up _ _ _ _ at.MARK c.in_ok-refuse_set_up.ensures (omega arith) in search rules

pub bounds-whole-2 : goal.bounds-whole-2
bounds-whole-2 c = let l = place_set_up _ _ _ _ at.UP c.in_ok-refuse_set_up.ensures (omega arith) in search rules

pub bounds-whole-3 : goal.bounds-whole-3
bounds-whole-3 c = let l = place_set_up _ _ _ _ at.FORWARD c.in_ok-refuse_set_up.ensures (omega arith) in search rules

pub returns : goal.returns
unfolding set_up of_bits
returns c =
    let a = c.before.args in
    let s = (set_up_says _ _ _ _ (sym c.in_ok-refuse_set_up.ensures)).sizes in
    settled_ok _ _ _ _ _ _ c.in_ok-refuse_set_up.ensures
    (rw (c.fill.ensures.after (λ y e. e), s.sized) (ap (after 0 (replicate at.SIZE zero)) (whole_set_up a.whole.now a.up a.forward s.four)))
