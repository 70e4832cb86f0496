-- `wording::line::line` meets its contract: a word and the line's end.
use Rattle.wording.specs.Line.{line_of}
use Rattle.wording.proofs.Putting.{both}
use Rattle.wording.proofs.line.line.Goals as goal

pub returns : goal.returns
unfolding line_of
returns c = both c.word-end.ensures c.text.ensures
