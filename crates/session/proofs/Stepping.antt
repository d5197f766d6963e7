-- Laws on a step of the program. In order: bytes that are moved to the start; the bytes that a run took are among its window's; a window that asks for more has room for them. Assumes nothing.
use Prim.Native.Nat.{ℕ, zero, suc, ◌+◌, ◌-◌, ◌≤◌, ◌<◌}
use mathlib.Core.Bool.{Bool}
use mathlib.Core.List.{List, [], ◌∷◌}
use mathlib.Core.Path.{◌≡◌, sym, ap, ◌∙◌}
use native.Mathlib.Omega.{arith}
use lib.ListN.{length, take, drop, length-drop}
use lib.Seq.{paste as moved, take-nil}
use Rattle.lists.specs.Part.{part, paste}
use Rattle.lists.proofs.Parts.{length_part}
use Rattle.lists.specs.Puts.{Puts}
use Rattle.scenario.specs.Format.{format}
use Rattle.session.specs.declared.Run.{Run}
use Rattle.session.specs.declared.Stands.{Stands}
use Rattle.session.specs.Layout.{WINDOW-BYTES}
use Rattle.perform.specs.declared.Car.{Car}
use Rattle.session.specs.Runs.{run_of, Runs, Steps}
use Rattle.turns.proofs.Lent.{lent_front}
use Rattle.session.proofs.Windows.{run_goes}

pub moved_front : (t u : List ℕ) (a n : ℕ) → a + n ≤ length t → u ≡ moved t 0 (drop a t) n → Puts t u 0 n (part t a n)
unfolding part paste
moved_front t u a n h e =
    let long : length (take n (drop a t)) ≡ n = length_part t a n h in
    let none : 0 + n ≡ n = omega arith in
    record { put = e ∙ rw (long, none); end = rw long (sym none) }

rest_of : (t : List ℕ) (a b : ℕ) → take (b - a) (drop a t) ≡ drop a (take b t)
rest_of t zero b =
    let all : b - 0 ≡ b = omega arith in
    rw all
rest_of t (suc a) zero =
    let none : 0 - suc a ≡ 0 = omega arith in
    rw none
rest_of [] (suc a) (suc b) = take-nil (suc b - suc a)
rest_of (x ∷ t) (suc a) (suc b) =
    let less : suc b - suc a ≡ b - a = omega arith in
    rw less (rest_of t a b)

part_rest : (t : List ℕ) (a b : ℕ) → part t a (b - a) ≡ drop a (take b t)
unfolding part
part_rest t a b = rest_of t a b

-- what is moved to the start stands there
pub dropped : (t u : List ℕ) (a b : ℕ) → a ≤ b → b ≤ length t → u ≡ moved t 0 (drop a t) (b - a) → take (b - a) u ≡ drop a (take b t)
dropped t u a b l h e =
    let p = moved_front t u a (b - a) (omega arith) e in
    let count : length (part t a (b - a)) ≡ b - a = length_part t a (b - a) (omega arith) in
    (rw count at (lent_front t u (part t a (b - a)) p.put)) ∙ part_rest t a b

-- the bytes that a run took are among its window's
pub took_within : (last : Bool) (s : Car) (room : ℕ) (bytes : List ℕ) {r : Run} {text : List ℕ} {c : Car} → Runs (run_of format last s room bytes) r text c → r.taken ≤ length bytes
took_within last s room bytes p = omega (arith, p.taken, (run_goes format last s room bytes).within)

-- A window that asks for more bytes has room for them: fewer are left than the longest code has.
pub window_has_room : (last : Bool) (s : Car) (room : ℕ) (bytes : List ℕ) {e : Stands} {window text : List ℕ} {c : Car}
    → Steps (run_of format last s room bytes) bytes e window text c → e ≡ Stands.More → length window < WINDOW-BYTES
window_has_room last s room bytes p e =
    let few = ((run_goes format last s room bytes).more (sym p.stands ∙ e)).1 in
    omega (arith, few, ap length p.left, length-drop (run_of format last s room bytes).taken bytes)
