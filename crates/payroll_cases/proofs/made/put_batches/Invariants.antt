-- `payroll_cases::made::put_batches` meets its contract. The invariant: as many batches are put as were counted.
use mathlib.Core.Path.{◌≡◌}
use lib.ListN.{length}
use Rattle.payroll_cases.specs.Made.{made, put_all, alike_batches}
use Rattle.payroll_cases.proofs.made.put_batches.Given as goal

abbrev pub invariant-loop-batch : goal.invariant-loop-batch
invariant-loop-batch l = (length l.out ≡ length l.initial.out) × (made l.out l.end ≡ put_all (made l.initial.out l.at) (alike_batches l.plan l.batch))
