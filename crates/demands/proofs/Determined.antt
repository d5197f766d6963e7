-- "Each public function's contract determines the full reply and each lent number afterwards, refusals too; show that two replies it allows are equal" (document 01, "What the contracts owe"). Assumes nothing.
-- `Post` and `Pre` of a function are its own `ensures` and `requires`, as Rattle reads them from its contract: of the arguments a, the reply r and what is lent at the end, e. So each theorem is of that function, and
-- of no other equation. κs are the lifetimes of what is lent; the table is the first lent list, the whole numbers the second. A read lends both to be read only.
use Prim.Native.Nat.{ℕ}
use mathlib.Core.List.{List}
use mathlib.Core.Path.{◌≡◌, sym, ap, ◌∙◌}
use lib.Ieee.{Float}
use Rattle.refusals.specs.After.{After, after}
use Rattle.set_up.proofs.set_up.Reads as set-up
use Rattle.add_wheel.proofs.add_wheel.Reads as add-wheel
use Rattle.set_controls.proofs.set_controls.Reads as set-controls
use Rattle.aim.proofs.aim.Reads as aim
use Rattle.drive.proofs.advance.drive.Reads as drive
use Rattle.read_wheel.proofs.read_wheel.Reads as read-wheel
use Rattle.demands.specs.Same.{Same}
use Rattle.demands.proofs.Replied.{answered_tells, aim_tells, drive_tells, read_tells}

-- two ends that meet one equation; and two ends whose replies do, where equal replies are of equal answers
pub one_end : {R : Type 0} {x : After R} {r r' : R} {t t' : List Float} {m m' : List ℕ} → after r t m ≡ x → after r' t' m' ≡ x → Same r r' t t' m m'
one_end {R} p q =
    let e = p ∙ sym q in
    record { reply = ap (λ (y : After R). y.reply) e; table = ap (λ (y : After R). y.table) e; whole = ap (λ (y : After R). y.whole) e }

told_end : {A R : Type 0} {x : After R} {y y' : R} {r r' : A} {t t' : List Float} {m m' : List ℕ} → (y ≡ y' → r ≡ r') → after y t m ≡ x → after y' t' m' ≡ x → Same r r' t t' m m'
told_end told p q =
    let s = one_end p q in
    record { reply = told s.reply; table = s.table; whole = s.whole }

pub set_up_determined : (κs : _) (a : _) (r r' : _) (e e' : _) → set-up.Post κs a r e → set-up.Post κs a r' e' → Same r r' e.0.now e'.0.now e.1.0.now e'.1.0.now
set_up_determined κs a r r' e e' p q = told_end (answered_tells r r') p q

pub add_determined : (κs : _) (a : _) (r r' : _) (e e' : _) → add-wheel.Post κs a r e → add-wheel.Post κs a r' e' → Same r r' e.0.now e'.0.now e.1.0.now e'.1.0.now
add_determined κs a r r' e e' p q = told_end (answered_tells r r') p q

pub controls_determined : (κs : _) (a : _) (r r' : _) (e e' : _) → set-controls.Post κs a r e → set-controls.Post κs a r' e' → Same r r' e.0.now e'.0.now e.1.0.now e'.1.0.now
controls_determined κs a r r' e e' p q = told_end (answered_tells r r') p q

pub aim_determined : (κs : _) (a : _) (r r' : _) (e e' : _) → aim.Post κs a r e → aim.Post κs a r' e' → Same r r' e.0.now e'.0.now e.1.0.now e'.1.0.now
aim_determined κs a r r' e e' p q = told_end (aim_tells r r') p q

pub drive_determined : (κs : _) (a : _) (r r' : _) (e e' : _) → drive.Post κs a r e → drive.Post κs a r' e' → Same r r' e.0.now e'.0.now e.1.0.now e'.1.0.now
drive_determined κs a r r' e e' p q = told_end (drive_tells r r') p q

pub read_determined : (κs : _) (a : _) (r r' : _) (e e' : _) → read-wheel.Post κs a r e → read-wheel.Post κs a r' e' → r ≡ r'
read_determined κs a r r' e e' p q = (told_end (read_tells r r') p q).reply

-- none of the six asks for anything of what it is handed or lent
pub none_requires : ((κs : _) (a : _) → set-up.Pre κs a) × (((κs : _) (a : _) → add-wheel.Pre κs a) × (((κs : _) (a : _) → set-controls.Pre κs a) × (((κs : _) (a : _) → aim.Pre κs a) × (((κs : _) (a : _) → drive.Pre κs a) × ((κs : _) (a : _) → read-wheel.Pre κs a)))))
none_requires = (λ κs a. tt, (λ κs a. tt, (λ κs a. tt, (λ κs a. tt, (λ κs a. tt, λ κs a. tt)))))
