-- How a call takes its lent numbers as arrays and gives them back. In order: the array that a table is lent as holds the table; what is written to it is the table; the arrays that `vehicle` gives have the shape; its refusal is the first of a list of tests;
-- a callee's refusal, handed on by `?`, ends the call with nothing changed. Assumes nothing.
use Prim.Native.Nat.{ℕ}
use mathlib.Core.Bool.{Bool, true, false}
use mathlib.Core.List.{List, ◌++◌}
use mathlib.Core.Path.{◌≡◌, refl, ◌∙◌, subst}
use native.Mathlib.Omega.{arith}
use lib.ListN.{length, drop, drop_of_length-le}
use lib.Ieee.{Float}
use denote.Ref.{MutBor}
use Rattle.std.specs.Prelude.{◌<◌, Result, Ok, Err, IsErrAnd, Option, Some, MatchOption}
use Rattle.std.specs.Array.{IsFirstChunk}
use Rattle.std.proofs.lemmas.List.{append-nil, take_all}
use Rattle.lists.specs.Pick.{pick}
use Rattle.lists.proofs.Picks.{pick_no}
use Rattle.table.specs.Layout as at
use Rattle.refusals.specs.declared.Refusal.{Refusal}
use Rattle.refusals.specs.declared.Refusal.TheVariants.{NoVehicle}
use Rattle.refusals.specs.After.{After, after, settled}
use Rattle.refusals.specs.Refused.{number_of, replied}
use Rattle.refusals.specs.Shape.{shape_ok}
use Rattle.refusals.proofs.Settled.{settled_err}

pub lent_rows : (o : Option (MutBor (List Float))) (r : MutBor (List Float)) (t : List Float)
    → o ≡ Some r → MatchOption o (length t < at.SIZE) (λ y. IsFirstChunk t y.now at.SIZE) → length t ≡ at.SIZE → r.now ≡ t
lent_rows o r t e h s =
    let first : IsFirstChunk t r.now at.SIZE = subst (λ (x : Option (MutBor (List Float))). MatchOption x (length t < at.SIZE) (λ y. IsFirstChunk t y.now at.SIZE)) e h in
    first.same ∙ take_all at.SIZE t (omega arith)

pub lent_back : (x t : List Float) → length t ≡ at.SIZE → x ++ drop at.SIZE t ≡ x
lent_back x t h = rw (drop_of_length-le t {i = at.SIZE} (omega arith)) (append-nil x)

pub lent_shape : (x t : List Float) (y m : List ℕ) → (x ≡ t) × (y ≡ m) × (shape_ok t m ≡ true) → shape_ok x y ≡ true
lent_shape x t y m h = rw (h.0, h.1) h.2

pub no_vehicle : (e : Refusal) (b : Bool) (x : ℕ) → (e ≡ NoVehicle) × (b ≡ false) → number_of e ≡ pick b x 1
no_vehicle e b x h = rw h.0 (pick_no b 1 x 1 h.1 refl)

pub refused_call : {A R : Type 0} (r : Result A Refusal) (e : Refusal) (accepted : A → R) (refused : ℕ → R) (n : ℕ) (done : After R) (t : List Float) (m : List ℕ)
    → IsErrAnd r (λ y. y ≡ e) → number_of e ≡ n → after (replied accepted refused r) t m ≡ settled n refused done t m
refused_call (Ok x) e accepted refused n done t m h p = absurd h
refused_call (Err y) e accepted refused n done t m h p = rw h (settled_err e n refused done t m p)
