-- `payroll_cases::long_batch::take_payments` meets its contract. The invariant: as many payments are taken as were counted.
use mathlib.Core.Path.{◌≡◌}
use Rattle.payroll_cases.specs.Made.{payments_of}
use Rattle.payroll_cases.specs.LongBatch.{taken_all}
use Rattle.payroll_cases.proofs.long_batch.take_payments.Given as goal

abbrev pub invariant-loop-number : goal.invariant-loop-number
invariant-loop-number l = l.next ≡ taken_all l.initial.next (payments_of 1 1 l.number)
