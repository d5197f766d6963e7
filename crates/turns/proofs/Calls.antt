-- Laws on the call of a code that was made. In order: its results fit and are read back; its line is put. Assumes nothing.
use Prim.Native.Nat.{ℕ, ◌≤◌}
use mathlib.Core.List.{List, ◌++◌}
use mathlib.Core.Path.{◌≡◌}
use native.Mathlib.Omega.{arith}
use lib.ListN.{length, take, get_or}
use Rattle.refusals.specs.After.{After}
use Rattle.stream.specs.Code.{shown}
use Rattle.lines.specs.Line.{line}
use Rattle.scenario.specs.Format.{format, hex_digits_of}
use Rattle.std.specs.Prelude.{Result}
use Rattle.refusals.specs.declared.Refusal.{Refusal}
use Rattle.perform.specs.declared.Car.{Car}
use Rattle.perform.specs.Call.{Answered, call_of, number_in, count_in, Performs}
use Rattle.turns.specs.declared.Next.{Next}
use Rattle.turns.specs.Turns.{following, called, Turns}
use Rattle.turns.proofs.Lent.{lent_fits, lent_front}

module _ {x : After Answered} {r : Result ℕ Refusal} {old new : List ℕ} {s : Car} (p : Performs x r old new s) where
  pub results_fit : length new ≡ length old → count_in r ≤ length new
  results_fit same = omega (arith, p.count, lent_fits old new x.reply.results 0 p.lent same (omega arith))

  pub results_front : take (count_in r) new ≡ x.reply.results
  results_front = rw p.count (lent_front old new x.reply.results p.lent)

pub call_made : (l : List ℕ) (s : Car) {r : Result ℕ Refusal} {old new : List ℕ} {s' : Car} → Performs (call_of format l s.table s.whole) r old new s'
    → {before after : List ℕ} → after ≡ before ++ line (hex_digits_of format) (get_or l 0 0) (number_in r) (take (count_in r) new)
    → (taken : ℕ) (n : Next) → n ≡ following (get_or l 0 0) taken → Turns (called format l taken s) n before after s'
unfolding called shown
call_made l s p q taken n e =
    record {
      text = rw (p.number, results_front p) at q;
      next = e;
      car = rw (← p.table, ← p.whole);
    }
