-- `payroll_cases::long_batch::take_payments` meets its contract. The invariant: as many payments are taken as were counted.
use Rattle.payroll_cases.proofs.Taking.{taken_as, none_taken, one_taken_lem}
use Rattle.payroll_cases.proofs.long_batch.take_payments.Goals as goal

pub loop-number-preserved : goal.loop-number-preserved
loop-number-preserved c =
    let l = c.loop-number in
    let a = c.args in
    one_taken_lem a.stream l.number l.invariant (taken_as l.next c.payment.ensures c.take_record-next.ensures)

pub loop-number-init : goal.loop-number-init
loop-number-init c = none_taken c.args.stream
