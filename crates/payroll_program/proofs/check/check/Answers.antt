-- `payroll_program::check::check` meets its contract: the stream has taken some chunks, whose answer comes of its end.
use Rattle.payroll_program.proofs.Ended.{checked}
use Rattle.payroll_program.proofs.check.check.Goals as goal

pub returns : goal.returns
returns g c = checked _ (rw c.open.ensures at c.read_chunks-got.ensures) c.outcome_at.ensures
