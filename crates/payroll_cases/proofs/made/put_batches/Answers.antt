-- `payroll_cases::made::put_batches` meets its contract. The invariant: as many batches are put as were counted.
use Rattle.payroll_cases.specs.Made.{made}
use Rattle.payroll_cases.proofs.Making.{no_batch_lem, one_batch}
use borrow.Author.Rules.{rules}
use Rattle.payroll_cases.proofs.made.put_batches.Goals as goal

pub loop-batch-init : goal.loop-batch-init
loop-batch-init c =
    let a = c.args in
    (search rules, no_batch_lem (made a.out.now a.at) a.plan)

pub loop-batch-preserved : goal.loop-batch-preserved
loop-batch-preserved c =
    let l = c.loop-batch in
    let a = c.args in
    (search rules, one_batch (made a.out.now a.at) a.plan l.batch l.invariant.1 c.put_batch-end.ensures)
