-- What the loop of the program prints is what `served` says, and in the end what document 01 says of the bytes that were read. In order: runs after runs; a program that has ended; the text of k runs; the whole program. Assumes nothing.
use Prim.Native.Nat.{ℕ, zero, suc, ◌+◌}
use mathlib.Core.Bool.{true, false}
use mathlib.Core.List.{List, [], ◌++◌, append_assoc, append-nil}
use mathlib.Core.Path.{◌≡◌, refl, sym, ap, ◌∙◌}
use native.Mathlib.Omega.{arith}
use lib.Ieee.{Format}
use lib.ListN.{length, drop}
use Rattle.lists.specs.Pick.{pick}
use Rattle.lines.specs.Line.{title}
use Rattle.scenario.specs.Format.{format}
use Rattle.perform.specs.declared.Car.{Car}
use Rattle.session.specs.declared.Stands.{Stands}
use Rattle.session.specs.Layout.{TEXT-BYTES}
use Rattle.session.specs.Program.{start_car, printed}
use Rattle.session.specs.Runs.{Ran, run_of}
use Rattle.session.specs.Served.{joined, Serving, pulled, served_by, served, program}
use Rattle.session.proofs.Windows.{runner_prints}
use Rattle.console.specs.Progress.{Progress, progress, serving, on_by, on, after}
use Rattle.console.specs.Serves.{Serves}

module _ (f : Format) (room : ℕ) where
  -- k runs more
  unfoldable further : ℕ → Progress → Progress
  further zero p = p
  further (suc k) p = on f room (further k p)

  further_on : (k : ℕ) (p : Progress) → further (suc k) p ≡ further k (on f room p)
  unfolding further
  further_on zero p = refl
  further_on (suc k) p = ap (on f room) (further_on k p)

  after_further : (k : ℕ) (x : Serving) → after f room k x ≡ further k (progress [] x false)
  unfolding further after
  after_further zero x = refl
  after_further (suc k) x = ap (on f room) (after_further k x)

  further_add : (k j : ℕ) (p : Progress) → further (k + j) p ≡ further j (further k p)
  unfolding further
  further_add k zero p =
      let none : k + 0 ≡ k = omega arith in
      rw none
  further_add k (suc j) p =
      let one : k + suc j ≡ suc (k + j) = omega arith in
      rw one (ap (on f room) (further_add k j p))

  -- ---- a program that has ended stays where it is
  further_ended : (k : ℕ) (p : Progress) → p.ended ≡ true → further k p ≡ p
  unfolding further on pick
  further_ended zero p e = refl
  further_ended (suc k) p e = ap (on f room) (further_ended k p e) ∙ rw e

  -- ---- the text of k runs
  -- what k runs print after one, by how it stands
  next_text : (k : ℕ) → ((text : List ℕ) (x : Serving) → (further k (progress text x false)).text ≡ text ++ served f room k x) → (text : List ℕ) (x : Serving) (y : Ran) (e : Stands)
      → (further k (on_by e y text x)).text ≡ text ++ (y.text ++ served_by (served f room k) e y x)
  unfolding on_by served_by
  next_text k ih text x y Stands.Ended = ap (λ (p : Progress). p.text) (further_ended k (on_by Stands.Ended y text x) refl) ∙ rw (append-nil y.text)
  next_text k ih text x y Stands.More = ih (text ++ y.text) (pulled y.car (drop y.taken x.window) x.blocks) ∙ append_assoc text y.text _
  next_text k ih text x y Stands.Full = ih (text ++ y.text) (serving x.last y.car (drop y.taken x.window) x.blocks) ∙ append_assoc text y.text _

  further_text : (k : ℕ) (text : List ℕ) (x : Serving) → (further k (progress text x false)).text ≡ text ++ served f room k x
  unfolding further served on pick
  further_text zero text x = sym (append-nil text)
  further_text (suc k) text x =
      let y = run_of f x.last x.car room x.window in
      ap (λ (p : Progress). p.text) (further_on k (progress text x false)) ∙ next_text k (further_text k) text x y y.stands

  -- k runs print what `served` says
  pub after_prints : (k : ℕ) (x : Serving) → (after f room k x).text ≡ served f room k x
  after_prints k x = ap (λ (p : Progress). p.text) (after_further k x) ∙ further_text k [] x

  -- and more runs nothing more, once the program has ended
  pub ended_prints : (k j : ℕ) (x : Serving) → (after f room k x).ended ≡ true → served f room (k + j) x ≡ (after f room k x).text
  ended_prints k j x e =
      let here = progress [] x false in
      let stays : further (k + j) here ≡ after f room k x = further_add k j here ∙ ap (further j) (sym (after_further k x)) ∙ further_ended j (after f room k x) e in
      sym (further_text (k + j) [] x) ∙ ap (λ (p : Progress). p.text) stays

-- The theorem: once the program has ended, what its runs printed is what document 01 says of the bytes that were read.
pub run_prints : {window : List ℕ} {c : Car} (p : Serves start_car [] window c) → p.end.ended ≡ true → title ++ p.end.text ≡ printed format (joined p.blocks)
unfolding program
run_prints p e =
    let x = serving false start_car [] p.blocks in
    let j = length (joined p.blocks) + length p.blocks + 2 in
    let ended : (after format TEXT-BYTES p.runs x).ended ≡ true = ap (λ (q : Progress). q.ended) p.same ∙ e in
    ap (λ (q : Progress). title ++ q.text) (sym p.same) ∙ ap (λ (l : List ℕ). title ++ l) (sym (ended_prints format TEXT-BYTES p.runs j x ended)) ∙ runner_prints p.blocks (p.runs + j) (omega arith)
