-- `sheet_program::verdict::put_version2` meets its contract: the version, the heading, the split and the lines of both sets, one behind the other.
use Rattle.wording.proofs.Putting.{both, last}
use Rattle.sheet_program.specs.Verdict.{version2_text}
use Rattle.sheet_program.proofs.verdict.put_version2.Goals as goal

pub returns : goal.returns
unfolding version2_text
returns c =
    both c.line-version.ensures (both c.put_heading-end.ensures (both c.line-known.ensures (last c.put_sets.ensures)))
