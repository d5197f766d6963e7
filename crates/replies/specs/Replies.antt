-- Document 01, "Scenario program": the results of an accepted call as words, in the order of docs/STREAM.md. Definitions only.
use Rattle.std.specs.Prelude.{ℕ, List, [], ◌∷◌, ◌++◌, take}
use Rattle.std.specs.Float.{Format}
use Rattle.read_wheel.specs.Read.{ReadReply, reading_list, settled_list}
use Rattle.aim.specs.Sights.{aimed_list}
use Rattle.drive.specs.Results.{velocity_list}
use Rattle.scenario.specs.Results.{words_of, flag_word}
use Rattle.replies.specs.declared.Extent.{Extent}
use Rattle.replies.specs.declared.Extent.TheVariants.{Document, Settled, All}
use Rattle.aim.specs.Aim.{AimReply}
use Rattle.drive.specs.Drive.{DriveReply}

-- an aim of so many wheels
unfoldable pub aim_results : Format → ℕ → AimReply → List ℕ
aim_results f wheels r = words_of f (aimed_list r.speed (take wheels r.sights))

unfoldable pub drive_results : Format → DriveReply → List ℕ
drive_results f r = words_of f (velocity_list r) ++ (flag_word r.wake ∷ [])

-- code 5
unfoldable pub read_results : Format → ReadReply → List ℕ
read_results f r = words_of f (reading_list r)

-- change request 2026-02: "code 8 is a read with the settled centre last"
unfoldable pub settled_results : Format → ReadReply → List ℕ
settled_results f r = words_of f (settled_list r)

-- change request 2026-05: "code 9 is a read with these two last"
unfoldable pub all_results : Format → ReadReply → List ℕ
all_results f r = settled_results f r ++ (flag_word r.noaxis ∷ flag_word r.noforward ∷ [])

-- the same by what is to be printed, which states inner functions
unfoldable pub results_of : Format → Extent → ReadReply → List ℕ
results_of f Document r = read_results f r
results_of f Settled r = settled_results f r
results_of f All r = all_results f r
