-- What is printed does not depend on how the stream is cut into windows, nor the text into blocks. In order: more turns print nothing more; what one code prints, and what follows it; the same for a run; how far a run goes; the whole program over blocks of any size. Assumes nothing.
use Prim.Native.Nat.{ℕ, zero, suc, ◌+◌, ◌-◌, ◌≤◌, ◌<◌}
use mathlib.Core.Bool.{Bool, true, false}
use mathlib.Core.List.{List, [], ◌∷◌, ◌++◌, append_assoc, append-nil}
use mathlib.Core.Path.{◌≡◌, refl, sym, ap, ◌∙◌}
use native.Mathlib.Decide.{dec_lt}
use native.Mathlib.Omega.{arith}
use lib.Dec.{eqb}
use lib.Ieee.{Format, binary32, binary64}
use lib.ListN.{length, drop, length-append, length-drop}
use lib.Seq.{drop-drop, drop-append-le}
use Rattle.lists.specs.Pick.{pick}
use Rattle.stream.specs.declared.Code.{Code}
use Rattle.grammar.specs.Layout as code
use Rattle.stream.specs.Code.{Reading, shown, read_code, decided_code}
use Rattle.stream.proofs.Readings.{took_code, decided_code_more, code_bytes_decide}
use Rattle.lines.specs.Layout.{line_bytes}
use Rattle.lines.specs.Line.{line, title}
use Rattle.scenario.specs.Format.{format, widths_of, hex_digits_of}
use Rattle.perform.specs.Call.{call_of}
use Rattle.turns.specs.declared.Next.{Next}
use Rattle.session.specs.declared.Stands.{Stands}
use Rattle.session.specs.Layout.{TEXT-BYTES}
use Rattle.perform.specs.declared.Car.{Car}
use Rattle.turns.specs.Car.{car, MALFORMED, padded}
use Rattle.session.specs.Program.{start_car, printed_by, printed_on, printed_from, printed}
use Rattle.turns.specs.Turns.{turned, following, called, malformed, turned_by, turn_of}
use Rattle.session.specs.Runs.{Ran, ran, behind, ran_by, run_on, run_of, printed_after}
use Rattle.session.specs.Served.{joined, Serving, pulled, served_by, served, program}
use Rattle.turns.proofs.Counts.{shown_padded}
use Rattle.session.proofs.Running.{Took, turn_took, run_full, run_by}

-- ---- more turns print nothing more
pub printed_more : (f : Format) (k j : ℕ) (s : Car) (bytes : List ℕ) → length bytes < k → length bytes < j → printed_on f k s bytes ≡ printed_on f j s bytes
unfolding printed_on printed_by
printed_more f zero j s bytes p q = absurd (omega arith)
printed_more f (suc k) zero s bytes p q = absurd (omega arith)
printed_more f (suc k) (suc j) s bytes p q = go (read_code (widths_of f) bytes).code refl (λ (c : Car) (n : ℕ) (l : length (drop n bytes) < length bytes). printed_more f k j c (drop n bytes) (omega arith) (omega arith))
  where
    go : (r : Code) → (read_code (widths_of f) bytes).code ≡ r → ((c : Car) (n : ℕ) → length (drop n bytes) < length bytes → printed_on f k c (drop n bytes) ≡ printed_on f j c (drop n bytes))
        → printed_by f (printed_on f k) r (read_code (widths_of f) bytes).words s bytes ≡ printed_by f (printed_on f j) r (read_code (widths_of f) bytes).words s bytes
    go (Code.Whole n taken) e ih =
        let t = took_code (widths_of f) bytes n taken e in
        rw (ih _ taken (rw length-drop (omega arith)))
    go (Code.Short c) e ih = refl
    go (Code.Malformed c) e ih = refl

-- ---- one code
-- what is printed after a code that was taken from the start of the bytes
unfoldable follows : Format → Next → Car → List ℕ → List ℕ
follows f (Next.On n) s bytes = printed_from f s (drop n bytes)
follows f Next.Ended s bytes = []
follows f Next.More s bytes = printed_from f s bytes

follows_picked : (f : Format) (s : Car) (bytes : List ℕ) (b : Bool) (taken : ℕ) → pick b [] (printed_from f s (drop taken bytes)) ≡ follows f (pick b Next.Ended (Next.On taken)) s bytes
unfolding follows pick
follows_picked f s bytes true taken = refl
follows_picked f s bytes false taken = refl

module _ (f : Format) (s : Car) (bytes : List ℕ) where
  from_short : (c : ℕ) → (read_code (widths_of f) bytes).code ≡ Code.Short c → printed_from f s bytes ≡ line (hex_digits_of f) c MALFORMED []
  unfolding printed_from printed_on printed_by
  from_short c e = rw e

  from_malformed : (c : ℕ) → (read_code (widths_of f) bytes).code ≡ Code.Malformed c → printed_from f s bytes ≡ line (hex_digits_of f) c MALFORMED []
  unfolding printed_from printed_on printed_by
  from_malformed c e = rw e

  from_whole : (l : List ℕ) (n taken : ℕ) → (read_code (widths_of f) bytes).words ≡ l → (read_code (widths_of f) bytes).code ≡ Code.Whole n taken
      → printed_from f s bytes ≡ (called f (padded l) taken s).text ++ follows f (called f (padded l) taken s).next (called f (padded l) taken s).car bytes
  unfolding printed_from printed_on printed_by called following
  from_whole l n taken w e =
      let x = call_of f (padded l) s.table s.whole in
      let t = took_code (widths_of f) bytes n taken e in
      let on : printed_on f (length bytes) (car x.table x.whole) (drop taken bytes) ≡ printed_from f (car x.table x.whole) (drop taken bytes) =
      printed_more f (length bytes) (suc (length (drop taken bytes))) (car x.table x.whole) (drop taken bytes) (rw length-drop (omega arith)) (omega arith) in
      rw (e, w, shown_padded l, on)
      (ap (λ (m : List ℕ). line (hex_digits_of f) (shown l) x.reply.number x.reply.results ++ m) (follows_picked f (car x.table x.whole) bytes (eqb (shown l) code.END) taken))

-- bytes that follow change no code that was decided, and there are none after the last ones
turn_prints : (f : Format) (last : Bool) (s : Car) (bytes more : List ℕ) → (last ≡ true → more ≡ [])
    → printed_from f s (bytes ++ more) ≡ (turn_of f last s bytes).text ++ follows f (turn_of f last s bytes).next (turn_of f last s bytes).car (bytes ++ more)
unfolding turn_of turned_by malformed follows pick decided_code
turn_prints f last s bytes more none = go (read_code (widths_of f) bytes).code refl
  where
    same : decided_code (read_code (widths_of f) bytes).code ≡ true → read_code (widths_of f) (bytes ++ more) ≡ read_code (widths_of f) bytes
    same h = decided_code_more (widths_of f) bytes more h

    short : (b : Bool) (c : ℕ) → (read_code (widths_of f) bytes).code ≡ Code.Short c → (b ≡ true → more ≡ [])
        → printed_from f s (bytes ++ more) ≡ (pick b (malformed f c s) (turned [] s Next.More)).text ++ follows f (pick b (malformed f c s) (turned [] s Next.More)).next (pick b (malformed f c s) (turned [] s Next.More)).car (bytes ++ more)
    short true c e h = rw (h refl, append-nil bytes) (from_short f s bytes c e ∙ sym (append-nil (line (hex_digits_of f) c MALFORMED [])))
    short false c e h = refl

    go : (r : Code) → (read_code (widths_of f) bytes).code ≡ r
        → printed_from f s (bytes ++ more) ≡ (turned_by f last r (read_code (widths_of f) bytes).words s).text ++ follows f (turned_by f last r (read_code (widths_of f) bytes).words s).next (turned_by f last r (read_code (widths_of f) bytes).words s).car (bytes ++ more)
    go (Code.Whole n taken) e =
        let read = same (rw e) in
        from_whole f s (bytes ++ more) (read_code (widths_of f) bytes).words n taken (ap (λ (x : Reading). x.words) read) (ap (λ (x : Reading). x.code) read ∙ e)
    go (Code.Short c) e = short last c e none
    go (Code.Malformed c) e =
        let read = same (rw e) in
        from_malformed f s (bytes ++ more) c (ap (λ (x : Reading). x.code) read ∙ e) ∙ sym (append-nil (line (hex_digits_of f) c MALFORMED []))

-- ---- a run
-- a fact on every run, from its cases
module _ (f : Format) (last : Bool) (P : Car → ℕ → List ℕ → Ran → Type 0)
    (full : (s : Car) (room : ℕ) (bytes : List ℕ) → room < line_bytes (hex_digits_of f) → P s room bytes (ran [] s 0 Stands.Full))
    (ended : (s : Car) (room : ℕ) (bytes : List ℕ) → (turn_of f last s bytes).next ≡ Next.Ended → P s room bytes (ran (turn_of f last s bytes).text (turn_of f last s bytes).car 0 Stands.Ended))
    (more : (s : Car) (room : ℕ) (bytes : List ℕ) → (turn_of f last s bytes).next ≡ Next.More → P s room bytes (ran (turn_of f last s bytes).text (turn_of f last s bytes).car 0 Stands.More))
    (on : (s : Car) (room : ℕ) (bytes : List ℕ) (n : ℕ) (y : Ran) → (turn_of f last s bytes).next ≡ Next.On n → Took bytes n
    → P (turn_of f last s bytes).car (room - length (turn_of f last s bytes).text) (drop n bytes) y → P s room bytes (behind (turn_of f last s bytes).text n y)) where
  by_code : (k : ℕ) → ((s : Car) (room : ℕ) (bytes : List ℕ) → length bytes < k → P s room bytes (run_on f last k s room bytes)) → (s : Car) (room : ℕ) (bytes : List ℕ) → length bytes ≤ k
      → P s room bytes (run_on f last (suc k) s room bytes)
  unfolding ran_by
  by_code k ih s room bytes few = elim (dec_lt room (line_bytes (hex_digits_of f))) [
    | yes l ↦ rw (run_full f last k s room bytes l) (full s room bytes l)
    | no l ↦ go (turn_of f last s bytes).next refl (omega arith)
  ]
    where
      go : (n : Next) → (turn_of f last s bytes).next ≡ n → line_bytes (hex_digits_of f) ≤ room → P s room bytes (run_on f last (suc k) s room bytes)
      go (Next.On n) e h =
          let took = turn_took f last s bytes n e in
          rw (run_by f last k s room bytes (Next.On n) h e) (on s room bytes n _ e took (ih _ _ (drop n bytes) (rw length-drop (omega (arith, took.some, took.within)))))
      go Next.Ended e h = rw (run_by f last k s room bytes Next.Ended h e) (ended s room bytes e)
      go Next.More e h = rw (run_by f last k s room bytes Next.More h e) (more s room bytes e)

  by_fuel : (k : ℕ) (s : Car) (room : ℕ) (bytes : List ℕ) → length bytes < k → P s room bytes (run_on f last k s room bytes)
  by_fuel zero s room bytes few = absurd (omega arith)
  by_fuel (suc k) s room bytes few = by_code k (by_fuel k) s room bytes (omega arith)

  by_codes : (s : Car) (room : ℕ) (bytes : List ℕ) → P s room bytes (run_of f last s room bytes)
  unfolding run_of
  by_codes s room bytes = by_fuel (suc (length bytes)) s room bytes (omega arith)

-- how far a run goes: within its bytes; it is full only behind a code that it took; it asks for more only before the last bytes, and with few bytes left
pub record Goes (f : Format) (last : Bool) (room : ℕ) (bytes : List ℕ) (y : Ran) : Type 0 where
  pub within : y.taken ≤ length bytes
  pub full : y.stands ≡ Stands.Full → line_bytes (hex_digits_of f) ≤ room → 0 < y.taken
  pub more : y.stands ≡ Stands.More → (last ≡ false) × (length bytes - y.taken < code.code_bytes (widths_of f))

full_not_more : {A : Type 0} → Stands.Full ≡ Stands.More → A
full_not_more h = let z : ◌≡◌ {A = ℕ} 0 1 = cc in absurd (omega arith)

ended_not_more : {A : Type 0} → Stands.Ended ≡ Stands.More → A
ended_not_more h = let z : ◌≡◌ {A = ℕ} 0 1 = cc in absurd (omega arith)

ended_not_full : {A : Type 0} → Stands.Ended ≡ Stands.Full → A
ended_not_full h = let z : ◌≡◌ {A = ℕ} 0 1 = cc in absurd (omega arith)

more_not_full : {A : Type 0} → Stands.More ≡ Stands.Full → A
more_not_full h = let z : ◌≡◌ {A = ℕ} 0 1 = cc in absurd (omega arith)

-- What a run prints, and what is printed from where it stands, is what is printed of the stream: whatever follows the window's bytes, and nothing follows the last ones.
pub run_prints : (f : Format) (last : Bool) (more : List ℕ) → (last ≡ true → more ≡ []) → (s : Car) (room : ℕ) (bytes : List ℕ)
    → let y = run_of f last s room bytes in printed_from f s (bytes ++ more) ≡ y.text ++ printed_after f y.stands y.car (drop y.taken bytes ++ more)
unfolding printed_after follows
run_prints f last more none = by_codes f last (λ s room bytes y. printed_from f s (bytes ++ more) ≡ y.text ++ printed_after f y.stands y.car (drop y.taken bytes ++ more))
    (λ s room bytes h. refl)
    (λ s room bytes e. rw e at (turn_prints f last s bytes more none))
    (λ s room bytes e. rw e at (turn_prints f last s bytes more none))
    (λ s room bytes n y e took ih.
    let x = turn_of f last s bytes in
    let first : printed_from f s (bytes ++ more) ≡ x.text ++ printed_from f x.car (drop n bytes ++ more) = rw (e, drop-append-le n bytes more took.within) at (turn_prints f last s bytes more none) in
    first ∙ rw (ih, drop-drop y.taken n bytes) (sym (append_assoc x.text y.text _)))

-- no whole number is wider than a float
wider : (f : Format) → (widths_of f).whole ≤ (widths_of f).float
wider binary32 = omega arith
wider binary64 = omega arith

few_left : (f : Format) (bytes : List ℕ) (c : ℕ) → (read_code (widths_of f) bytes).code ≡ Code.Short c → length bytes < code.code_bytes (widths_of f)
unfolding decided_code
few_left f bytes c e = elim (dec_lt (length bytes) (code.code_bytes (widths_of f))) [
  | yes l ↦ l
  | no l ↦ (
      let told : false ≡ true = rw e at (code_bytes_decide (widths_of f) (wider f) bytes (omega arith)) in
      let z : ◌≡◌ {A = ℕ} 0 1 = cc in
      absurd (omega arith))
]

turn_more : (f : Format) (last : Bool) (s : Car) (bytes : List ℕ) → (turn_of f last s bytes).next ≡ Next.More → (last ≡ false) × (length bytes < code.code_bytes (widths_of f))
unfolding turn_of turned_by called following malformed pick
turn_more f last s bytes = go (read_code (widths_of f) bytes).code refl
  where
    whole : (b : Bool) (n : ℕ) → pick b Next.Ended (Next.On n) ≡ Next.More → (last ≡ false) × (length bytes < code.code_bytes (widths_of f))
    whole true n h = let z : ◌≡◌ {A = ℕ} 0 1 = cc in absurd (omega arith)
    whole false n h = let z : ◌≡◌ {A = ℕ} 0 1 = cc in absurd (omega arith)

    short : (b : Bool) (c : ℕ) → (read_code (widths_of f) bytes).code ≡ Code.Short c → (pick b (malformed f c s) (turned [] s Next.More)).next ≡ Next.More → (b ≡ false) × (length bytes < code.code_bytes (widths_of f))
    short true c e h = let z : ◌≡◌ {A = ℕ} 0 1 = cc in absurd (omega arith)
    short false c e h = (refl, few_left f bytes c e)

    go : (r : Code) → (read_code (widths_of f) bytes).code ≡ r → (turned_by f last r (read_code (widths_of f) bytes).words s).next ≡ Next.More → (last ≡ false) × (length bytes < code.code_bytes (widths_of f))
    go (Code.Whole n taken) e h = whole (eqb (shown (padded (read_code (widths_of f) bytes).words)) code.END) taken h
    go (Code.Short c) e h = short last c e h
    go (Code.Malformed c) e h = let z : ◌≡◌ {A = ℕ} 0 1 = cc in absurd (omega arith)

pub run_goes : (f : Format) (last : Bool) (s : Car) (room : ℕ) (bytes : List ℕ) → Goes f last room bytes (run_of f last s room bytes)
run_goes f last = by_codes f last (λ s room bytes y. Goes f last room bytes y)
    (λ s room bytes h. record { within = omega arith; full = λ e l. absurd (omega arith); more = λ e. full_not_more e })
    (λ s room bytes h. record { within = omega arith; full = λ e l. ended_not_full e; more = λ e. ended_not_more e })
    (λ s room bytes h.
    let few = turn_more f last s bytes h in
    record { within = omega arith; full = λ e l. more_not_full e; more = λ e. (few.0, omega (arith, few.1)) })
    (λ s room bytes n y h took ih.
    let long = length-drop n bytes in
    record {
      within = omega (arith, ih.within, took.within);
      full = λ e l. omega (arith, took.some);
      more = λ e. ((ih.more e).0, omega (arith, (ih.more e).1, took.within));
    })

-- ---- the whole program
-- how many runs a program may still make: each one uses up a byte, a block or the end of the input
ends : Bool → ℕ
ends true = 0
ends false = 1

effort : Serving → ℕ
effort x = length x.window + length (joined x.blocks) + length x.blocks + ends x.last

-- the bytes in the window and those that are still to be read
abbrev stream : Serving → List ℕ
stream x = x.window ++ joined x.blocks

-- no block is left once the input has ended
abbrev AtEnd : Serving → Type 0
AtEnd x = x.last ≡ true → joined x.blocks ≡ []

pulled_end : (s : Car) (w : List ℕ) (blocks : List (List ℕ)) → AtEnd (pulled s w blocks)
unfolding pulled joined
pulled_end s w [] e = refl
pulled_end s w (b ∷ l) e = let z : ◌≡◌ {A = ℕ} 0 1 = cc in absurd (omega arith)

pulled_prints : (f : Format) (s : Car) (w : List ℕ) (blocks : List (List ℕ)) → printed_from f (pulled s w blocks).car (stream (pulled s w blocks)) ≡ printed_from f s (w ++ joined blocks)
unfolding pulled joined
pulled_prints f s w [] = refl
pulled_prints f s w (b ∷ l) = rw (append_assoc w b (joined l))

pulled_effort : (s : Car) (w : List ℕ) (blocks : List (List ℕ)) → effort (pulled s w blocks) < suc (length w + length (joined blocks) + length blocks)
unfolding pulled joined effort ends
pulled_effort s w [] = omega arith
pulled_effort s w (b ∷ l) = simp length-append (omega arith)

shorter : (x : Serving) (s : Car) (n : ℕ) → 0 < n → n ≤ length x.window → effort (record { last = x.last; car = s; window = drop n x.window; blocks = x.blocks }) < effort x
unfolding effort
shorter x s n some within = rw length-drop (omega arith)

sooner : (x : Serving) (s : Car) (n : ℕ) → x.last ≡ false → effort (pulled s (drop n x.window) x.blocks) < effort x
unfolding effort ends
sooner x s n e =
    let less = pulled_effort s (drop n x.window) x.blocks in
    let long = length-drop n x.window in
    rw e (omega (arith, less))

-- one run, and what k more print after it
served_next : (f : Format) (room : ℕ) → line_bytes (hex_digits_of f) ≤ room → (k : ℕ) → ((z : Serving) → effort z < k → AtEnd z → served f room k z ≡ printed_from f z.car (stream z)) → (x : Serving) → effort x < suc k → AtEnd x
    → let y = run_of f x.last x.car room x.window in (e : Stands) → y.stands ≡ e → served_by (served f room k) e y x ≡ printed_after f e y.car (drop y.taken x.window ++ joined x.blocks)
unfolding served_by printed_after
served_next f room some k ih x few end Stands.Ended e = refl
served_next f room some k ih x few end Stands.Full e =
    let y = run_of f x.last x.car room x.window in
    let goes = run_goes f x.last x.car room x.window in
    ih _ (omega (arith, shorter x y.car y.taken (goes.full e some) goes.within)) end
served_next f room some k ih x few end Stands.More e =
    let y = run_of f x.last x.car room x.window in
    let goes = run_goes f x.last x.car room x.window in
    let rest = drop y.taken x.window in
    ih (pulled y.car rest x.blocks) (omega (arith, sooner x y.car y.taken (goes.more e).0)) (pulled_end y.car rest x.blocks) ∙ pulled_prints f y.car rest x.blocks

served_prints : (f : Format) (room : ℕ) → line_bytes (hex_digits_of f) ≤ room → (k : ℕ) (x : Serving) → effort x < k → AtEnd x → served f room k x ≡ printed_from f x.car (stream x)
unfolding served
served_prints f room some zero x few end = absurd (omega arith)
served_prints f room some (suc k) x few end =
    let y = run_of f x.last x.car room x.window in
    ap (λ (l : List ℕ). y.text ++ l) (served_next f room some k (served_prints f room some k) x few end y.stands refl)
    ∙ sym (run_prints f x.last (joined x.blocks) end x.car room x.window)

-- The theorem: whatever the sizes of the blocks in which the input comes, and of the buffer that the text goes out from, the program prints what document 01 says of the whole stream.
pub program_prints : (f : Format) (room : ℕ) → line_bytes (hex_digits_of f) ≤ room → (blocks : List (List ℕ)) (k : ℕ) → length (joined blocks) + length blocks + 1 < k → program f room k blocks ≡ printed f (joined blocks)
unfolding program printed effort ends
program_prints f room some blocks k h =
    ap (λ (l : List ℕ). title ++ l)
    (served_prints f room some k (record { last = false; car = start_car; window = []; blocks = blocks }) (omega arith) (λ e. let z : ◌≡◌ {A = ℕ} 0 1 = cc in absurd (omega arith)))

-- the same with the buffer that `runner` has
pub runner_prints : (blocks : List (List ℕ)) (k : ℕ) → length (joined blocks) + length blocks + 1 < k → program format TEXT-BYTES k blocks ≡ printed format (joined blocks)
runner_prints = program_prints format TEXT-BYTES (omega arith)
