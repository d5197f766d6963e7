-- Laws on how an exported call ends. In order: a list of the wrong length refuses; one of the right length leaves it to the tests that follow, and to the call after the last; a refusal leaves the results; an accepted call writes them; what a call leaves, flat. Assumes nothing.
use Prim.Native.Nat.{ℕ}
use mathlib.Core.List.{List, [], ◌∷◌}
use mathlib.Core.Path.{◌≡◌, refl, sym, ap, ◌∙◌}
use borrow.Author.Tests.{eq-eqb, ne_eqb}
use lib.Dec.{eqb}
use lib.Ieee.{Float}
use Rattle.lists.specs.Pick.{pick}
use Rattle.lists.specs.Refusal.{Test, ◌or◌, first_failed}
use Rattle.refusals.specs.After.{After, after, settled}
use Rattle.refusals.specs.declared.Refusal.{Refusal}
use Rattle.refusals.specs.Refused.{number_of, replied}
use Rattle.refusals.proofs.Settled.{settled_done, number_not_zero}
use Rattle.std.specs.Prelude.{Result, Ok, Err}
use Rattle.flat_out.specs.Ends.{flat, written_over, over, flattened}

module _ {R : Type 0} (k n : ℕ) (tests : List Test) (refused : ℕ → R) (done : After R) (t : List Float) (m : List ℕ) where
  pub refused_of_length : (k ≡ n → ⊥) → after (refused 1) t m ≡ settled (first_failed (eqb k n or 1 ∷ tests)) refused done t m
  unfolding first_failed settled pick
  refused_of_length h = rw (ne_eqb k n h)

  pub settled_of_length : (x : After R) → k ≡ n → x ≡ settled (first_failed tests) refused done t m → x ≡ settled (first_failed (eqb k n or 1 ∷ tests)) refused done t m
  unfolding first_failed pick
  settled_of_length x h e = rw (eq-eqb k n h) e

pub settled_of_call : {R : Type 0} (refused : ℕ → R) (x done : After R) (t : List Float) (m : List ℕ) → x ≡ done → x ≡ settled (first_failed []) refused done t m
unfolding first_failed
settled_of_call refused x done t m e = settled_done 0 0 refused x done t m refl refl e

pub left_of_refused : (before results : List Float) (number : ℕ) → (number ≡ 0 → ⊥) → before ≡ written_over before number results
unfolding written_over pick
left_of_refused before results number h = rw (ne_eqb number 0 h)

pub written_of_accepted : (before now results : List Float) (number : ℕ) → number ≡ 0 → now ≡ results → now ≡ written_over before number results
unfolding written_over pick
written_of_accepted before now results number h e = rw (eq-eqb number 0 h) e

pub flattened_of_call : {R : Type 0} (number : R → ℕ) (results : R → List Float) (before now : List Float) (r : R) (t : List Float) (m : List ℕ) (a : After R)
    → after r t m ≡ a → now ≡ written_over before (number r) (results r) → after (flat (number r) now) t m ≡ flattened number results before a
unfolding flattened
flattened_of_call number results before now r t m a e w = rw w (ap (flattened number results before) e)

-- the same of what the code answers, seen as the reply
module _ {A R : Type 0} (accepted : A → R) (refused : ℕ → R) (number : R → ℕ) (results : R → List Float) (before now : List Float) (t : List Float) (m : List ℕ) (a : After R)
    (p : (x : A) → number (accepted x) ≡ 0) (q : (n : ℕ) → number (refused n) ≡ n) where
  pub flattened_of_answer : (answer : Result A Refusal) (k : ℕ) → k ≡ replied (λ done. 0) (λ n. n) answer → after (replied accepted refused answer) t m ≡ a
      → now ≡ over before (λ x. results (accepted x)) answer → after (flat k now) t m ≡ flattened number results before a
  flattened_of_answer (Ok x) k h e w =
      rw (h ∙ sym (p x)) (flattened_of_call number results before now (accepted x) t m a e (written_of_accepted before now (results (accepted x)) (number (accepted x)) (p x) w))
  flattened_of_answer (Err r) k h e w =
      rw (h ∙ sym (q (number_of r)))
      (flattened_of_call number results before now (refused (number_of r)) t m a e
      (w ∙ left_of_refused before (results (refused (number_of r))) (number (refused (number_of r))) (λ z. number_not_zero r (sym (q (number_of r)) ∙ z))))
