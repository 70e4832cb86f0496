-- `payroll_cases::record::put_numbers` meets its contract. The invariant: with the numbers still to put, what is put is what all make.
use Rattle.std.proofs.Common.{◌≡◌, fold, drop}
use Rattle.payroll_cases.specs.Record.{with_own}
use Rattle.payroll_cases.proofs.record.put_numbers.Given as goal

abbrev pub invariant-loop-field : goal.invariant-loop-field
invariant-loop-field l = fold (λ made own. with_own own made) l.bytes (drop l.field-index l.field-items) ≡ fold (λ made own. with_own own made) l.initial.bytes l.field-items
