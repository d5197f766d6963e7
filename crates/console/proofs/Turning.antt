-- Laws on a turn. In order: bytes that were read; what is read on follows the run. Assumes nothing.
use Prim.Native.Nat.{ℕ, ◌<◌}
use mathlib.Core.Bool.{Bool, true, false}
use mathlib.Core.List.{List, ◌++◌}
use mathlib.Core.Path.{◌≡◌, refl, sym, ap, ◌∙◌}
use native.Mathlib.Omega.{arith}
use borrow.Author.Tests.{eqb-true, eqb-false}
use lib.Dec.{eqb}
use lib.ListN.{length, drop, length-drop}
use lib.Seq.{take_all}
use Rattle.std.proofs.lemmas.List.{take-append-drop}
use Rattle.session.specs.declared.Stands.{Stands}
use Rattle.session.specs.Runs.{Ran}
use Rattle.console.specs.declared.Input.{Input}
use Rattle.console.specs.Reading.{Fills, input, ReadsOn}
use Rattle.console.specs.Turning.{Follows}

-- bytes that were read stand behind those that were there
fills_behind : {before after : List ℕ} → Fills before after → after ≡ before ++ drop (length before) after
fills_behind {before} {after} p = sym (take-append-drop (length before) after) ∙ ap (λ (l : List ℕ). l ++ drop (length before) after) p.kept

fills_some : {before after : List ℕ} → Fills before after → (length after ≡ length before → ⊥) → 0 < length (drop (length before) after)
fills_some {before} {after} p h =
    let long = length-drop (length before) after in
    omega (arith, p.from, h)

fills_none : {before after : List ℕ} → Fills before after → length after ≡ length before → after ≡ before
fills_none {before} {after} p e = sym (take_all (length before) after (omega arith)) ∙ p.kept

module _ {x : Ran} {bytes window : List ℕ} (left : window ≡ drop x.taken bytes) (last : Bool) (r : Input) (window' : List ℕ) where
  read_more : (b : Bool) → x.stands ≡ Stands.More → eqb (length window') (length window) ≡ b → r ≡ input (eqb (length window') (length window)) true → Fills window window' → Follows x bytes last r window'
  read_more true e h q fills = Follows.no_more e (rw h at q) (fills_none fills (eqb-true (length window') (length window) h) ∙ left)
  read_more false e h q fills =
      let block = drop (length window) window' in
      Follows.more e (rw h at q) block (fills_some fills (eqb-false (length window') (length window) h)) (fills_behind fills ∙ ap (λ (l : List ℕ). l ++ block) left)

  pub read_follows : (e : Stands) → e ≡ x.stands → ReadsOn e last r window window' → Follows x bytes last r window'
  read_follows Stands.Ended e q = Follows.ended (sym e) q.0 (q.1 ∙ left)
  read_follows Stands.Full e q = Follows.full (sym e) q.0 (q.1 ∙ left)
  read_follows Stands.More e q = read_more (eqb (length window') (length window)) (sym e) refl q.0 q.1
