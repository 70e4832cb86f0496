-- `payroll_program::verdict::put_accepted` meets its contract: the word and four lines, one behind the other.
use Rattle.wording.proofs.Putting.{both, last}
use Rattle.payroll_program.specs.Verdict.{accepted_text}
use Rattle.payroll_program.proofs.verdict.put_accepted.Goals as goal

pub returns : goal.returns
unfolding accepted_text
returns c =
    both c.text-word.ensures (both c.line-records.ensures (both c.line-batches.ensures (both c.line-payments.ensures (last c.line.ensures))))
