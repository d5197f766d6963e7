-- Laws on the outcome of one number. In order: how many bytes a value takes; more bytes change nothing once it is decided; as many bytes as its widest form has decide it. Assumes nothing.
use Prim.Native.Nat.{ℕ, suc, ◌+◌, ◌≤◌, ◌<◌, ◌^◌}
use mathlib.Core.Bool.{true, false}
use mathlib.Core.List.{List, ◌++◌}
use mathlib.Core.Path.{◌≡◌, refl, ◌∙◌}
use native.Mathlib.Omega.{arith}
use lib.ListN.{length}
use Rattle.numbers.specs.declared.Number.TheVariants.{Value, Short, Bad}
use Rattle.numbers.specs.Layout.{GROUP, last}
use Rattle.numbers.specs.Number.{gained, read_groups, read_number, decided_number}
use Rattle.numbers.proofs.Groups.{not_last, gained_lt, gained_fits, group_bad, group_last, group_more, by_groups}

-- two outcomes of different kinds are not equal
pub short_no_value : {A : Type 0} {w n : ℕ} → Short ≡ Value w n → A
short_no_value h = let z : ◌≡◌ {A = ℕ} 0 1 = cc in absurd (omega arith)

pub bad_no_value : {A : Type 0} {w n : ℕ} → Bad ≡ Value w n → A
bad_no_value h = let z : ◌≡◌ {A = ℕ} 0 1 = cc in absurd (omega arith)

-- a value w takes n bytes, of which k stand before l
pub record Took (bits k v : ℕ) (l : List ℕ) (w n : ℕ) : Type 0 where
  pub some : k < n
  pub within : n ≤ k + length l
  pub few : k ≤ last bits → n ≤ suc (last bits)
  pub fits : k ≤ last bits → v < GROUP ^ k → w < 2 ^ bits

took_groups : (bits k v : ℕ) (l : List ℕ) (w n : ℕ) → read_groups bits k v l ≡ Value w n → Took bits k v l w n
took_groups bits k v l w n = by_groups bits (λ k v l r. r ≡ Value w n → Took bits k v l w n)
    (λ k v h. short_no_value h)
    (λ k v b l e h. bad_no_value h)
    (λ k v b l e t h.
    let same : suc k ≡ n = cc in
    let worth : gained k v b ≡ w = cc in
    record { some = omega arith; within = omega arith; few = λ f. omega arith; fits = λ f s. rw (← worth) (gained_fits bits k v b e f s) })
    (λ k v b l r e t ih h.
    let later = ih h in
    record {
      some = omega arith;
      within = omega arith;
      few = λ f. later.few (not_last bits k b e f t);
      fits = λ f s. later.fits (not_last bits k b e f t) (gained_lt k v b s);
    })
    k v l

-- bytes that follow change no outcome that is decided
decided_groups : (bits k v : ℕ) (l m : List ℕ) → decided_number (read_groups bits k v l) ≡ true → read_groups bits k v (l ++ m) ≡ read_groups bits k v l
unfolding decided_number
decided_groups bits k v l m = by_groups bits (λ k v l r. decided_number r ≡ true → read_groups bits k v (l ++ m) ≡ r)
    (λ k v h. let z : ◌≡◌ {A = ℕ} 0 1 = cc in absurd (omega arith))
    (λ k v b l e h. group_bad bits k v b (l ++ m) e)
    (λ k v b l e t h. group_last bits k v b (l ++ m) e t)
    (λ k v b l r e t ih h. group_more bits k v b (l ++ m) e t ∙ ih h)
    k v l

all_groups : (bits k v : ℕ) (l : List ℕ) → k ≤ last bits → last bits < k + length l → decided_number (read_groups bits k v l) ≡ true
unfolding decided_number
all_groups bits k v l = by_groups bits (λ k v l r. k ≤ last bits → last bits < k + length l → decided_number r ≡ true)
    (λ k v few enough. absurd (omega arith))
    (λ k v b l e few enough. refl)
    (λ k v b l e t few enough. refl)
    (λ k v b l r e t ih few enough. ih (not_last bits k b e few t) (omega arith))
    k v l

pub took : (bits : ℕ) (l : List ℕ) (w n : ℕ) → read_number bits l ≡ Value w n → Took bits 0 0 l w n
unfolding read_number
took bits l w n h = took_groups bits 0 0 l w n h

pub decided_number_more : (bits : ℕ) (l m : List ℕ) → decided_number (read_number bits l) ≡ true → read_number bits (l ++ m) ≡ read_number bits l
unfolding read_number
decided_number_more bits l m h = decided_groups bits 0 0 l m h

pub all_decide : (bits : ℕ) (l : List ℕ) → suc (last bits) ≤ length l → decided_number (read_number bits l) ≡ true
unfolding read_number
all_decide bits l h = all_groups bits 0 0 l (omega arith) (omega arith)

pub not_short : (bits : ℕ) (l : List ℕ) → suc (last bits) ≤ length l → read_number bits l ≡ Short → ⊥
unfolding decided_number
not_short bits l h e =
    let told : false ≡ true = rw e at (all_decide bits l h) in
    let z : ◌≡◌ {A = ℕ} 0 1 = cc in
    omega arith
