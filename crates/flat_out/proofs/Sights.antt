-- Laws on the sights of an aim as they are written, wheel by wheel. In order: how many numbers; those of one list after another; where the loop stands; none, one more, all; the whole list of results. Assumes nothing.
use Prim.Native.Nat.{ℕ, ◌+◌, ◌*◌, ◌≤◌, ◌<◌}
use mathlib.Core.List.{List, [], ◌∷◌, ◌++◌, append-nil, append_assoc}
use mathlib.Core.Path.{◌≡◌, refl, sym, ap, ◌∙◌}
use native.Mathlib.Numerals.{add-one}
use native.Mathlib.Omega.{arith}
use lib.ListN.{length, take, get_or, set, take-append-drop}
use lib.Seq.{take-suc, take_all, length-take-le}
use lib.Ieee.{Float}
use Rattle.lists.specs.Part.{paste}
use Rattle.lists.proofs.Parts.{length_paste, paste_paste, paste_all, set_is_paste}
use Rattle.table.specs.Layout as table
use Rattle.aim.specs.declared.Sight.{Sight}
use Rattle.flat_out.specs.Layout as at
use Rattle.aim.specs.Sights.{SIGHT, sight_list, sights_list}

pub length_sights : (l : List Sight) → length (sights_list l) ≡ length l * SIGHT
unfolding sights_list sight_list
length_sights [] = refl
length_sights (s ∷ l) = let h = length_sights l in omega arith

pub sights_append : (l m : List Sight) → sights_list (l ++ m) ≡ sights_list l ++ sights_list m
unfolding sights_list
sights_append [] m = refl
sights_append (s ∷ l) m = rw (sights_append l m) (sym (append_assoc (sight_list s) (sights_list l) (sights_list m)))

sights_more : (l : List Sight) (i : ℕ) (z : Sight) → i < length l → sights_list (take (i + 1) l) ≡ sights_list (take i l) ++ sight_list (get_or l i z)
unfolding sights_list
sights_more l i z h =
    rw (add-one, take-suc l i z h) (sights_append (take i l) (get_or l i z ∷ []) ∙ ap (λ (r : List Float). sights_list (take i l) ++ r) (append-nil (sight_list (get_or l i z))))

-- i sights are in `now`, lent as `before`
pub record Sighted (before : List Float) (l : List Sight) (i : ℕ) (now : List Float) : Type 0 where
  pub sized : length now ≡ at.AIM
  pub upto : i ≤ length l
  pub done : now ≡ paste before at.SIGHTS (sights_list (take i l))

pub sighted_start : (before : List Float) (l : List Sight) → length before ≡ at.AIM → Sighted before l 0 before
unfolding paste sights_list
sighted_start before l h = record { sized = h; upto = omega arith; done = sym (take-append-drop at.SIGHTS before) }

length_sighted : (now : List Float) (l : List Sight) (i : ℕ) (z : Sight) → length now ≡ at.AIM → i < table.WHEELS
    → length (paste now (at.SIGHTS + i * SIGHT) (sight_list (get_or l i z))) ≡ length now
unfolding sight_list
length_sighted now l i z s h = length_paste now (at.SIGHTS + i * SIGHT) (sight_list (get_or l i z)) (omega arith)

pub sighted_again : (before now now' : List Float) (l : List Sight) (i : ℕ) (z : Sight) → Sighted before l i now → length before ≡ at.AIM → length l ≡ table.WHEELS → i < table.WHEELS
    → now' ≡ paste now (at.SIGHTS + i * SIGHT) (sight_list (get_or l i z)) → Sighted before l (i + 1) now'
sighted_again before now now' l i z s b w h e =
    let few : length (sights_list (take i l)) ≡ i * SIGHT = length_sights (take i l) ∙ ap (λ (n : ℕ). n * SIGHT) (length-take-le i l s.upto) in
    let more : paste now (at.SIGHTS + i * SIGHT) (sight_list (get_or l i z)) ≡ paste before at.SIGHTS (sights_list (take (i + 1) l)) =
    rw (s.done, ← few, sights_more l i z (omega arith)) (paste_paste before at.SIGHTS (sights_list (take i l)) (sight_list (get_or l i z)) (omega arith)) in
    record { sized = ap length e ∙ length_sighted now l i z s.sized h ∙ s.sized; upto = omega arith; done = e ∙ more }

pub sighted_done : (before now : List Float) (l : List Sight) (i : ℕ) → Sighted before l i now → length l ≤ i → now ≡ paste before at.SIGHTS (sights_list l)
sighted_done before now l i s h = rw (take_all i l h) at s.done

-- the speed, and the sights after it, are all of the results
pub aimed_is : (before : List Float) (speed : Float) (l : List Sight) → length before ≡ at.AIM → length l ≡ table.WHEELS
    → paste (set before at.SPEED speed) at.SIGHTS (sights_list l) ≡ speed ∷ sights_list l
aimed_is before speed l b w =
    let many = length_sights l in
    rw (set_is_paste before at.SPEED speed (omega arith))
    (paste_paste before at.SPEED (speed ∷ []) (sights_list l) (omega arith) ∙ paste_all before (speed ∷ sights_list l) (omega arith))
