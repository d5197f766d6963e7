-- Laws on the program's loop. In order: blocks that were read; what a run more makes of the car and of the blocks; where the loop stands; it starts; a turn; its end. Assumes nothing.
use Prim.Native.Nat.{ℕ, suc, ◌<◌}
use mathlib.Core.Bool.{Bool, true, false}
use mathlib.Core.List.{List, [], ◌∷◌, ◌++◌, append_assoc}
use mathlib.Core.Path.{◌≡◌, refl, sym, ap, ◌∙◌}
use native.Mathlib.Omega.{arith}
use lib.Ieee.{Format}
use borrow.Author.Tests.{lt-ltb}
use lib.ListN.{length, drop}
use Rattle.lists.specs.All.{all}
use Rattle.lists.proofs.Picks.{pick_true}
use Rattle.lists.specs.Pick.{pick}
use Rattle.scenario.specs.Format.{format}
use Rattle.perform.specs.declared.Car.{Car}
use Rattle.session.specs.declared.Stands.{Stands}
use Rattle.session.specs.Layout.{TEXT-BYTES}
use Rattle.session.specs.Runs.{Ran, run_of}
use Rattle.session.specs.Served.{Serving, pulled}
use Rattle.session.proofs.Windows.{run_goes}
use Rattle.console.specs.declared.Input.{Input}
use Rattle.console.specs.Reading.{input}
use Rattle.console.specs.Turning.{Follows, Turned}
use Rattle.console.specs.Progress.{Progress, progress, serving, on_by, on, after}
use Rattle.console.specs.Serves.{RUNS, Stops, given, Serves}

-- ---- blocks that were read
none_gave : all given [] ≡ true
unfolding all
none_gave = refl

more_gave : (l m : List (List ℕ)) → all given l ≡ true → all given m ≡ true → all given (l ++ m) ≡ true
unfolding all pick
more_gave [] m e h = h
more_gave (x ∷ l) m e h =
    let both = pick_true (given x) (all given l) e in
    rw both.0 (more_gave l m both.1 h)

one_gave : (b : List ℕ) → 0 < length b → all given (b ∷ []) ≡ true
unfolding all pick
one_gave b h = rw (lt-ltb 0 (length b) h)

-- ---- a run more
pulled_car : (s : Car) (w : List ℕ) (blocks : List (List ℕ)) → (pulled s w blocks).car ≡ s
unfolding pulled
pulled_car s w [] = refl
pulled_car s w (b ∷ l) = refl

by_car : (e : Stands) (y : Ran) (text : List ℕ) (x : Serving) → (on_by e y text x).at.car ≡ y.car
unfolding on_by
by_car Stands.Ended y text x = refl
by_car Stands.Full y text x = refl
by_car Stands.More y text x = pulled_car y.car (drop y.taken x.window) x.blocks

by_none : (e : Stands) (y : Ran) (text : List ℕ) (x : Serving) → x.blocks ≡ [] → (on_by e y text x).at.blocks ≡ []
unfolding on_by pulled
by_none Stands.Ended y text x h = h
by_none Stands.Full y text x h = h
by_none Stands.More y text x h = rw h

-- a run from where the program stands, by how it stands
on_by_lem : (f : Format) (room : ℕ) (text : List ℕ) (x : Serving) (e : Stands) → (run_of f x.last x.car room x.window).stands ≡ e
    → on f room (progress text x false) ≡ on_by e (run_of f x.last x.car room x.window) text x
unfolding on pick
on_by_lem f room text x e h = rw h

-- ---- the loop
-- k runs have led here, whatever is still to be read; nothing is once the input has ended
pub record Going (s : Car) (bytes : List ℕ) (k : ℕ) (last : Bool) (window : List ℕ) (c : Car) : Type 0 where
  pub text : List ℕ
  pub read : List (List ℕ)
  pub gave : all given read ≡ true
  pub same : (rest : List (List ℕ)) → (last ≡ true → rest ≡ []) → after format TEXT-BYTES k (serving false s bytes (read ++ rest)) ≡ progress text (serving last c window rest) false

pub record Loop (s : Car) (bytes : List ℕ) (k : ℕ) (i : Input) (window : List ℕ) (c : Car) : Type 0 where
  pub goes : i.runs ≡ true → Going s bytes k i.last window c
  pub stopped : i.runs ≡ false → Serves s bytes window c

pub loop_starts : (window : List ℕ) (c : Car) → Loop c window 0 (input false true) window c
unfolding after
loop_starts window c = record {
  goes = λ _. record { text = []; read = []; gave = none_gave; same = λ rest e. refl };
  stopped = λ e. let z : ◌≡◌ {A = ℕ} 0 1 = cc in absurd (omega arith);
}

module _ {s : Car} {bytes : List ℕ} {k : ℕ} {last : Bool} {window : List ℕ} {c : Car} (g : Going s bytes k last window c) where
  abbrev here : Ran
  here = run_of format last c TEXT-BYTES window

  -- one run more, with so many blocks still to be read
  next_run : (e : Stands) (rest : List (List ℕ)) → here.stands ≡ e → (last ≡ true → rest ≡ [])
      → after format TEXT-BYTES (suc k) (serving false s bytes (g.read ++ rest)) ≡ on_by e here g.text (serving last c window rest)
  unfolding after
  next_run e rest h none = ap (on format TEXT-BYTES) (g.same rest none) ∙ on_by_lem format TEXT-BYTES g.text (serving last c window rest) e h

  module _ (window' : List ℕ) {c' : Car} (left_car : c' ≡ here.car) where
    cars : here.car ≡ c'
    cars = sym left_car

    goes_full : here.stands ≡ Stands.Full → window' ≡ drop here.taken window → Going s bytes (suc k) last window' c'
    unfolding on_by
    goes_full e left = record { text = g.text ++ here.text; read = g.read; gave = g.gave; same = λ rest none. next_run Stands.Full rest e none ∙ rw (left, cars) }

    goes_more : (block : List ℕ) → 0 < length block → here.stands ≡ Stands.More → window' ≡ drop here.taken window ++ block → Going s bytes (suc k) false window' c'
    unfolding on_by pulled
    goes_more block some e left =
        let going : last ≡ false = ((run_goes format last c TEXT-BYTES window).more e).0 in
        record {
          text = g.text ++ here.text;
          read = g.read ++ (block ∷ []);
          gave = more_gave g.read (block ∷ []) g.gave (one_gave block some);
          same = λ rest none. rw (append_assoc g.read (block ∷ []) rest) (next_run Stands.More (block ∷ rest) e (λ h. let z : ◌≡◌ {A = ℕ} 0 1 = cc in absurd (omega arith)) ∙ rw (left, cars));
        }

    goes_last : here.stands ≡ Stands.More → window' ≡ drop here.taken window → Going s bytes (suc k) true window' c'
    unfolding on_by pulled
    goes_last e left = record {
      text = g.text ++ here.text;
      read = g.read;
      gave = g.gave;
      same = λ rest none. rw (none refl) (next_run Stands.More [] e (λ h. refl) ∙ rw (left, cars));
    }

    -- ---- no run follows
    -- the text could not be written: the table is the run's all the same
    stops_unwritten : window' ≡ [] → Serves s bytes window' c'
    stops_unwritten none =
        let made = next_run here.stands [] refl (λ h. refl) in
        let x = serving last c window [] in
        let same_car : (after format TEXT-BYTES (suc k) (serving false s bytes (g.read ++ []))).at.car ≡ here.car = ap (λ (p : Progress). p.at.car) made ∙ by_car here.stands here g.text x in
        record {
          blocks = g.read ++ [];
          gave = more_gave g.read [] g.gave none_gave;
          runs = suc k;
          end = after format TEXT-BYTES (suc k) (serving false s bytes (g.read ++ []));
          same = refl;
          all_read = ap (λ (p : Progress). p.at.blocks) made ∙ by_none here.stands here g.text x refl;
          car = left_car ∙ sym same_car;
          stops = Stops.unwritten none;
        }

    stops_ended : here.stands ≡ Stands.Ended → window' ≡ drop here.taken window → Serves s bytes window' c'
    unfolding on_by
    stops_ended e left = record {
      blocks = g.read ++ [];
      gave = more_gave g.read [] g.gave none_gave;
      runs = suc k;
      end = on_by Stands.Ended here g.text (serving last c window []);
      same = next_run Stands.Ended [] e (λ _. refl);
      all_read = refl;
      car = left_car;
      stops = Stops.ended refl left;
    }

  -- ---- a turn
  module _ {window' text : List ℕ} {c' : Car} {r : Input} (p : Turned here window last r window' text c') where
    on_again : {l : Bool} → r ≡ input l true → Going s bytes (suc k) l window' c' → Loop s bytes (suc k) r window' c'
    on_again q g' = rw q (record { goes = λ _. g'; stopped = λ e. let z : ◌≡◌ {A = ℕ} 0 1 = cc in absurd (omega arith) })

    no_more_runs : {l : Bool} → r ≡ input l false → Serves s bytes window' c' → Loop s bytes (suc k) r window' c'
    no_more_runs q served = rw q (record { goes = λ e. let z : ◌≡◌ {A = ℕ} 0 1 = cc in absurd (omega arith); stopped = λ _. served })

    by_follows : Follows here window last r window' → Loop s bytes (suc k) r window' c'
    by_follows (Follows.unwritten q none) = no_more_runs q (stops_unwritten window' p.car none)
    by_follows (Follows.ended e q left) = no_more_runs q (stops_ended window' p.car e left)
    by_follows (Follows.full e q left) = on_again q (goes_full window' p.car e left)
    by_follows (Follows.more e q block some left) = on_again q (goes_more window' p.car block some e left)
    by_follows (Follows.no_more e q left) = on_again q (goes_last window' p.car e left)

-- a turn from where the loop stands
pub one_turn : {s : Car} {bytes : List ℕ} {k : ℕ} {i r : Input} {window window' text : List ℕ} {c c' : Car} → Loop s bytes k i window c → i.runs ≡ true
    → Turned (run_of format i.last c TEXT-BYTES window) window i.last r window' text c' → Loop s bytes (suc k) r window' c'
one_turn l on p = by_follows (l.goes on) p p.follows

-- the turns are used up
pub loop_ends : {s : Car} {bytes : List ℕ} {k : ℕ} {i : Input} {window : List ℕ} {c : Car} → Loop s bytes k i window c → k ≡ RUNS → Serves s bytes window c
loop_ends {s} {bytes} {k} {i} {window} {c} l all = go i.runs refl
  where
    go : (b : Bool) → i.runs ≡ b → Serves s bytes window c
    go false e = l.stopped e
    go true e =
        let g = l.goes e in
        record {
          blocks = g.read ++ [];
          gave = more_gave g.read [] g.gave none_gave;
          runs = k;
          end = progress g.text (serving i.last c window []) false;
          same = g.same [] (λ _. refl);
          all_read = refl;
          car = refl;
          stops = Stops.used_up all refl;
        }

-- the first line could not be written
pub starts_unwritten : {s : Car} {bytes window : List ℕ} {c : Car} → c ≡ s → window ≡ [] → Serves s bytes window c
unfolding after
starts_unwritten {s} {bytes} e none = record {
  blocks = [];
  gave = none_gave;
  runs = 0;
  end = progress [] (serving false s bytes []) false;
  same = refl;
  all_read = refl;
  car = e;
  stops = Stops.unwritten none;
}
