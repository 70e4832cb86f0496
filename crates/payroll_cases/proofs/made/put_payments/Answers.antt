-- `payroll_cases::made::put_payments` meets its contract. The invariant: as many payments are put as were counted.
use Rattle.payroll_cases.specs.Made.{made}
use Rattle.payroll_cases.proofs.Making.{put_as, none_paid, one_paid}
use borrow.Author.Rules.{rules}
use Rattle.payroll_cases.proofs.made.put_payments.Goals as goal

pub loop-number-init : goal.loop-number-init
loop-number-init c =
    let a = c.args in
    (search rules, none_paid (made a.out.now a.at) a.batch a.amount)

pub loop-number-preserved : goal.loop-number-preserved
loop-number-preserved c =
    let l = c.loop-number in
    let a = c.args in
    (search rules, one_paid (made a.out.now a.at) a.batch a.amount l.number l.invariant.1 (put_as _ c.payment.ensures c.put-end.ensures))
