-- A table that was set up is the one that the program starts with, whatever it held. In order: a set-up of the right sizes is done; so all of them leave the same. Assumes nothing.
use Prim.Native.Nat.{ℕ}
use mathlib.Core.List.{List, [], ◌∷◌}
use mathlib.Core.Path.{◌≡◌, sym, ap, ◌∙◌}
use borrow.Author.Tests.{eq-eqb}
use lib.Ieee.{Float}
use lib.ListN.{length, replicate, length-replicate}
use Rattle.lists.specs.Pick.{pick}
use Rattle.lists.specs.Refusal.{first_failed}
use Rattle.real.specs.Number.{zero}
use Rattle.table.specs.Layout as places
use Rattle.refusals.specs.Shape.{sizes_ok, axes_ok}
use Rattle.refusals.specs.After.{After, after, settled}
use Rattle.set_up.specs.SetUp.{refuse_set_up, set_up}
use Rattle.perform.specs.declared.Car.{Car}
use Rattle.turns.specs.Car.{car}
use Rattle.session.specs.Program.{start_car}

set_up_done : (t : List Float) (m : List ℕ) → length t ≡ places.SIZE → length m ≡ places.WHOLE → set_up t m 1 0 ≡ after 0 (replicate places.SIZE zero) (0 ∷ places.NEW ∷ 1 ∷ 0 ∷ [])
unfolding set_up refuse_set_up first_failed sizes_ok axes_ok settled pick
set_up_done t m p q = rw (eq-eqb (length t) places.SIZE p, eq-eqb (length m) places.WHOLE q)

pub set_up_starts : (r : ℕ) (s s' : Car) → length s.table ≡ places.SIZE → length s.whole ≡ places.WHOLE → after r s'.table s'.whole ≡ set_up s.table s.whole 1 0 → s' ≡ start_car
unfolding start_car
set_up_starts r s s' p q e =
    let first = set_up_done (replicate places.SIZE zero) (replicate places.WHOLE 0) (length-replicate places.SIZE zero) (length-replicate {A = ℕ} places.WHOLE 0) in
    ap (λ (x : After ℕ). car x.table x.whole) (e ∙ set_up_done s.table s.whole p q ∙ sym first)
