-- `wording::line::refused` meets its contract: two words and a line, with the cause's number first.
use mathlib.Core.Path.{ap}
use Rattle.text.specs.Literal.{ascii}
use Rattle.wording.specs.Line.{word_of, refused_line}
use Rattle.wording.proofs.Putting.{reworded, both}
use Rattle.wording.proofs.line.refused.Goals as goal

pub returns : goal.returns
unfolding refused_line
returns c =
    let number = reworded (ap (word_of (ascii "REFUSED")) c.number.ensures) c.word-behind_number.ensures in
    both number (both c.word-behind_record.ensures c.line.ensures)
