-- `sheet_program::verdict::put_heading` meets its contract: four lines, one behind the other.
use Rattle.wording.proofs.Putting.{both, last}
use Rattle.sheet_program.specs.Verdict.{heading_text}
use Rattle.sheet_program.proofs.verdict.put_heading.Goals as goal

pub returns : goal.returns
unfolding heading_text
returns c =
    both c.line-edition.ensures (both c.put_digits-date.ensures (both c.put_digits-movement.ensures (last c.line.ensures)))
