-- `file_list::line::put_line` meets its contract: the words, the name and the line's end.
use Rattle.wording.proofs.Putting.{both, last}
use Rattle.file_list.specs.Line.{file_line}
use Rattle.file_list.proofs.line.put_line.Goals as goal

pub returns : goal.returns
unfolding file_line
returns c = both c.shown-behind_words.ensures (both c.shown-behind_name.ensures (last c.text.ensures))
