-- `frame_words::flag_from` meets its contract: the definition, replayed as the code runs. Assumes nothing.
use Rattle.scenario.specs.Decode.{number_from}
use Rattle.frame_words.specs.Frame.{flag_from}
use Rattle.frame_words.proofs.flag_from.Goals as goal

pub returns : goal.returns
unfolding flag_from number_from
returns c = rw c.body_start.ensures
