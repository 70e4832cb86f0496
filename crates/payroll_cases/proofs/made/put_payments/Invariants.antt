-- `payroll_cases::made::put_payments` meets its contract. The invariant: as many payments are put as were counted.
use mathlib.Core.Path.{◌≡◌}
use lib.ListN.{length}
use Rattle.payroll_cases.specs.Made.{made, put_all, payments_of}
use Rattle.payroll_cases.proofs.made.put_payments.Given as goal

abbrev pub invariant-loop-number : goal.invariant-loop-number
invariant-loop-number l = (length l.out ≡ length l.initial.out) × (made l.out l.end ≡ put_all (made l.initial.out l.at) (payments_of l.batch l.amount l.number))
