-- `file_list::tally::put_tally` meets its contract: three words and a line, one behind the other.
use Rattle.wording.proofs.Putting.{both}
use Rattle.file_list.specs.Tally.{tally_line}
use Rattle.file_list.proofs.tally.put_tally.Goals as goal

pub returns : goal.returns
unfolding tally_line
returns c =
    both c.word-files.ensures (both c.word-accepted.ensures (both c.word-refused.ensures c.line.ensures))
