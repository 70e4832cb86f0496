-- `wording::line::word` meets its contract: three texts, one behind the other.
use Rattle.wording.specs.Line.{word_of}
use Rattle.wording.proofs.Putting.{both}
use Rattle.wording.proofs.line.word.Goals as goal

pub returns : goal.returns
unfolding word_of
returns c = both c.text-behind_name.ensures (both c.text-behind_blank.ensures c.number.ensures)
