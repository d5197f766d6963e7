-- Laws on a run of codes. In order: how many bytes a code takes; a run that is full, and one by what follows its first code; where the loop of a run stands, and its steps. Assumes nothing.
use Prim.Native.Nat.{ℕ, suc, ◌+◌, ◌-◌, ◌≤◌, ◌<◌}
use mathlib.Core.Bool.{Bool, true, false}
use mathlib.Core.List.{List, [], ◌++◌, append_assoc, append-nil}
use mathlib.Core.Path.{◌≡◌, refl, sym, ap, ◌∙◌}
use native.Mathlib.Omega.{arith}
use borrow.Author.Tests.{lt-ltb, le-ltb}
use lib.Dec.{eqb}
use lib.Ieee.{Format}
use lib.ListN.{length, take, drop, length-append, length-drop}
use lib.Seq.{take_all, drop-drop}
use Rattle.lists.specs.Pick.{pick}
use Rattle.stream.specs.declared.Code.{Code}
use Rattle.grammar.specs.Layout as code
use Rattle.stream.specs.Code.{shown, read_code}
use Rattle.stream.proofs.Readings.{took_code}
use Rattle.lines.specs.Layout.{line_bytes, LINE-BYTES}
use Rattle.scenario.specs.Format.{format, widths_of, hex_digits_of}
use Rattle.turns.specs.declared.Next.{Next}
use Rattle.session.specs.declared.Stands.{Stands}
use Rattle.perform.specs.declared.Car.{Car}
use Rattle.turns.specs.Car.{padded}
use Rattle.turns.specs.Turns.{following, called, malformed, turned_by, turn_of, Turns}
use Rattle.session.specs.Runs.{Ran, ran, behind, ran_by, run_on, run_of, Runs}

-- ---- one code
-- what follows is another code, n bytes on
pub record Took (bytes : List ℕ) (n : ℕ) : Type 0 where
  pub some : 0 < n
  pub within : n ≤ length bytes

took_by : (b : Bool) (taken n : ℕ) → pick b Next.Ended (Next.On taken) ≡ Next.On n → taken ≡ n
unfolding pick
took_by true taken n h = let z : ◌≡◌ {A = ℕ} 0 1 = cc in absurd (omega arith)
took_by false taken n h = cc

pub turn_took : (f : Format) (last : Bool) (s : Car) (bytes : List ℕ) (n : ℕ) → (turn_of f last s bytes).next ≡ Next.On n → Took bytes n
unfolding turn_of turned_by called following malformed pick
turn_took f last s bytes n = go (read_code (widths_of f) bytes).code refl
  where
    short : (b : Bool) (c : ℕ) → (pick b (malformed f c s) (record { text = []; car = s; next = Next.More })).next ≡ Next.On n → Took bytes n
    short true c h = let z : ◌≡◌ {A = ℕ} 0 1 = cc in absurd (omega arith)
    short false c h = let z : ◌≡◌ {A = ℕ} 0 1 = cc in absurd (omega arith)

    go : (r : Code) → (read_code (widths_of f) bytes).code ≡ r → (turned_by f last r (read_code (widths_of f) bytes).words s).next ≡ Next.On n → Took bytes n
    go (Code.Whole c taken) e h =
        let t = took_code (widths_of f) bytes c taken e in
        let same : taken ≡ n = took_by (eqb (shown (padded (read_code (widths_of f) bytes).words)) code.END) taken n h in
        record { some = omega (arith, t.some); within = omega (arith, t.within) }
    go (Code.Short c) e h = short last c h
    go (Code.Malformed c) e h = let z : ◌≡◌ {A = ℕ} 0 1 = cc in absurd (omega arith)

-- ---- a run
module _ (f : Format) (last : Bool) (k : ℕ) (s : Car) (room : ℕ) (bytes : List ℕ) where
  pub run_full : room < line_bytes (hex_digits_of f) → run_on f last (suc k) s room bytes ≡ ran [] s 0 Stands.Full
  unfolding run_on pick
  run_full h = rw (lt-ltb room (line_bytes (hex_digits_of f)) h)

  pub run_by : (n : Next) → line_bytes (hex_digits_of f) ≤ room → (turn_of f last s bytes).next ≡ n → run_on f last (suc k) s room bytes ≡ ran_by (run_on f last k) n (turn_of f last s bytes) room bytes
  unfolding run_on pick
  run_by n h e = rw (le-ltb room (line_bytes (hex_digits_of f)) h, e)

behind_behind : (a b : List ℕ) (i j : ℕ) (y : Ran) → behind a i (behind b j y) ≡ behind (a ++ b) (i + j) y
behind_behind a b i j y =
    let sum : i + (j + y.taken) ≡ i + j + y.taken = omega arith in
    rw (append_assoc a b y.text, sum)

-- ---- the loop
-- the text so far is there, and what is left to run gives what the whole gives
pub record Running (last : Bool) (bytes : List ℕ) (s₀ : Car) (room : ℕ) (c : Car) (text : List ℕ) (taken : ℕ) : Type 0 where
  pub k : ℕ
  pub within : taken ≤ length bytes
  pub left : length bytes - taken ≤ k
  pub same : run_of format last s₀ room bytes ≡ behind text taken (run_on format last (suc k) c (room - length text) (drop taken bytes))

pub none_run : (last : Bool) (bytes : List ℕ) (s : Car) (room : ℕ) {text : List ℕ} → text ≡ [] → Running last bytes s room s text 0
unfolding run_of
none_run last bytes s room e =
    let all : room - 0 ≡ room = omega arith in
    let none : (n : ℕ) → 0 + n ≡ n = λ n. omega arith in
    record {
      k = length bytes;
      within = omega arith;
      left = omega arith;
      same = rw (e, all, none);
    }

module _ {last : Bool} {bytes : List ℕ} {s₀ : Car} {room : ℕ} {c : Car} {text : List ℕ} {taken : ℕ} (s : Running last bytes s₀ room c text taken) where
  pub stands_full : room - length text < LINE-BYTES → Runs (run_of format last s₀ room bytes) (record { taken = taken; stands = Stands.Full }) text c
  stands_full h =
      let full = run_full format last s.k c (room - length text) (drop taken bytes) (omega arith) in
      let end : taken + 0 ≡ taken = omega arith in
      rw (s.same, full, append-nil, end) (record { text = refl; taken = refl; stands = refl; car = refl })

  -- a code was taken from the bytes that are left
  module _ {r : Next} {after : List ℕ} {c' : Car} (h : LINE-BYTES ≤ room - length text)
      (p : Turns (turn_of format last c (take (length bytes - taken) (drop taken bytes))) r text after c') where
    taken_from : Turns (turn_of format last c (drop taken bytes)) r text after c'
    taken_from =
        let whole : take (length bytes - taken) (drop taken bytes) ≡ drop taken bytes = take_all (length bytes - taken) (drop taken bytes) (rw length-drop (omega arith)) in
        rw whole at p

    took_next : (n : ℕ) → r ≡ Next.On n → Took (drop taken bytes) n
    took_next n e = turn_took format last c (drop taken bytes) n (sym taken_from.next ∙ e)

    pub next_within : (n : ℕ) → r ≡ Next.On n → (0 < n) × (taken + n ≤ length bytes)
    next_within n e =
        let took = took_next n e in
        let long = length-drop taken bytes in
        (took.some, omega (arith, took.within, s.within))

    run_next : (n : Next) → r ≡ n
        → run_of format last s₀ room bytes ≡ behind text taken (ran_by (run_on format last s.k) n (turn_of format last c (drop taken bytes)) (room - length text) (drop taken bytes))
    run_next n e = s.same ∙ ap (behind text taken) (run_by format last s.k c (room - length text) (drop taken bytes) n (omega arith) (sym taken_from.next ∙ e))

    ends_with : (stands : Stands) → run_of format last s₀ room bytes ≡ behind text taken (ran (turn_of format last c (drop taken bytes)).text (turn_of format last c (drop taken bytes)).car 0 stands)
        → Runs (run_of format last s₀ room bytes) (record { taken = taken; stands = stands }) after c'
    ends_with stands e =
        let end : taken + 0 ≡ taken = omega arith in
        rw e (record { text = taken_from.text; taken = sym end; stands = refl; car = taken_from.car })

    pub stands_ended : r ≡ Next.Ended → Runs (run_of format last s₀ room bytes) (record { taken = taken; stands = Stands.Ended }) after c'
    unfolding ran_by
    stands_ended e = ends_with Stands.Ended (run_next Next.Ended e)

    pub stands_more : r ≡ Next.More → Runs (run_of format last s₀ room bytes) (record { taken = taken; stands = Stands.More }) after c'
    unfolding ran_by
    stands_more e = ends_with Stands.More (run_next Next.More e)

    pub one_run : (n : ℕ) → r ≡ Next.On n → Running last bytes s₀ room c' after (taken + n)
    unfolding ran_by
    one_run n e =
        let x = turn_of format last c (drop taken bytes) in
        let took = took_next n e in
        let long = length-drop taken bytes in
        let fuel : s.k ≡ suc (s.k - 1) = omega (arith, s.left, took.some, took.within) in
        let rooms : room - length text - length x.text ≡ room - length (text ++ x.text) = rw length-append (omega arith) in
        let cars : x.car ≡ c' = sym taken_from.car in
        let texts : text ++ x.text ≡ after = sym taken_from.text in
        let on : run_of format last s₀ room bytes ≡ behind (text ++ x.text) (taken + n) (run_on format last s.k x.car (room - length text - length x.text) (drop n (drop taken bytes))) =
        run_next (Next.On n) e ∙ behind_behind text x.text taken n _ in
        record {
          k = s.k - 1;
          within = omega (arith, took.within);
          left = omega (arith, s.left, took.some);
          same = rw (fuel, rooms, cars, drop-drop, texts) at on;
        }
