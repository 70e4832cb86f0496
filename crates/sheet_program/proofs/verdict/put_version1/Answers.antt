-- `sheet_program::verdict::put_version1` meets its contract: the heading, and the lines of the totals behind it.
use Rattle.wording.proofs.Putting.{both, last}
use Rattle.sheet_program.specs.Verdict.{version1_text}
use Rattle.sheet_program.proofs.verdict.put_version1.Goals as goal

pub returns : goal.returns
unfolding version1_text
returns c = both c.put_heading-end.ensures (last c.put_totals.ensures)
