-- How an exported call ends. Document 01: a refusal answers its number and changes no lent number. The results are lent, so they are written only where the
-- call is accepted. A list of the wrong length, handed in or lent for results, is refusal 1 (a lent list of the wrong size), before all else. Definitions only.
use Rattle.std.specs.Prelude.{Result, Ok, Err, ℕ, List, eqb, length, Float}
use Rattle.lists.specs.Pick.{pick}
use Rattle.lists.specs.Refusal.{Test, ◌or◌}
use Rattle.refusals.specs.After.{After, after}
use Rattle.refusals.specs.declared.Refusal.{Refusal}

-- the number that a call answers, with the lent results as it leaves them
pub record Flat : Type 0 where
  pub number : ℕ
  pub results : List Float

abbrev pub flat : ℕ → List Float → Flat
flat number results = record { number = number; results = results }

-- a list has the length that a call asks for
abbrev pub of_length : {A : Type 0} → List A → ℕ → Test
of_length l n = eqb (length l) n or 1

-- the results of an accepted call over what was lent for them
unfoldable pub written_over : List Float → ℕ → List Float → List Float
written_over before number results = pick (eqb number 0) results before

-- what a call leaves, flat: the number of its reply, and the results that the reply holds
unfoldable pub flattened : {R : Type 0} → (R → ℕ) → (R → List Float) → List Float → After R → After Flat
flattened number results before a =
    after (flat (number a.reply) (written_over before (number a.reply) (results a.reply))) a.table a.whole

-- the results that an answer of the code holds over what was lent for them; a refusal leaves that as it was
abbrev pub over : {A : Type 0} → List Float → (A → List Float) → Result A Refusal → List Float
over before results (Ok x) = results x
over before results (Err r) = before
