-- Laws on the lists of a drive, put at the front of the lists that are lent: how many answers there are; the bodies, the flags and the answers. Assumes nothing.
use Prim.Native.Nat.{ℕ, ◌*◌}
use mathlib.Core.Bool.{Bool}
use mathlib.Core.List.{List}
use mathlib.Core.Path.{◌≡◌}
use lib.ListN.{length, take, drop}
use lib.Ieee.{Float, Format}
use Rattle.lists.specs.Part.{paste}
use Rattle.lists.proofs.Parts.{front_of_paste}
use Rattle.lists.proofs.Turns.{length_listed}
use Rattle.table.specs.Layout.{BODY}
use Rattle.wheel.specs.declared.RayAnswer.{RayAnswer}
use Rattle.frame_words.specs.Frame.{body_count_from, body_number_from, bodies_from, flag_from, flags_from, answer_count_from, answers_from}
use Rattle.frame_words.proofs.Answers.{length_answers}
use Rattle.perform.specs.Call.{answers_of}

-- how many answers the words have
pub counted : (l : List ℕ) (nb na : ℕ) → nb ≡ body_count_from l → na ≡ answer_count_from l nb → na ≡ answers_of l
unfolding answers_of
counted l nb na e h = rw (← e) h

pub front_of_bodies : (f : Format) (l : List ℕ) (n : ℕ) (t u : List Float) → u ≡ paste t 0 (bodies_from f l n) → take (n * BODY) u ≡ bodies_from f l n
unfolding bodies_from
front_of_bodies f l n t u e = rw e (front_of_paste t (bodies_from f l n) (n * BODY) (length_listed (body_number_from f l) (n * BODY) 0))

pub front_of_flags : (l : List ℕ) (n : ℕ) (t u : List Bool) → u ≡ paste t 0 (flags_from l n) → take n u ≡ flags_from l n
unfolding flags_from
front_of_flags l n t u e = rw e (front_of_paste t (flags_from l n) n (length_listed (flag_from l) n 0))

pub front_of_answers : (f : Format) (l : List ℕ) (from n : ℕ) (t u : List RayAnswer) → u ≡ paste t 0 (answers_from f l from n) → take n u ≡ answers_from f l from n
front_of_answers f l from n t u e = rw e (front_of_paste t (answers_from f l from n) n (length_answers f l from n))
