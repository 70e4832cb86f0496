-- `payroll_cases::record::put_field` meets its contract: the two tests pick the case.
use borrow.Author.Tests.{le-leb, lt-leb}
use borrow.Rule.Slice.PartMut.{Post-is, mid_len}
use Rattle.payroll_cases.specs.Record.{with_field}
use Rattle.payroll_cases.proofs.record.put_field.Goals as goal
use Rattle.payroll_cases.proofs.record.put_field.Goals.{else-first-last-via-then-first-last+else-last-bytes, else-first-last-via-else-first-last}

pub returns-then-last-bytes : goal.returns-then-last-bytes
unfolding with_field
returns-then-last-bytes c =
    let a = c.args in
    let ordered = c.if-first-last.true in
    let within = c.if-last-bytes.true in
    rw (le-leb _ _ ordered, le-leb _ _ within)
    (rw (c.put.ensures, mid_len a.field.first a.field.last a.bytes.now within, Post-is a.field.first a.field.last a.bytes.now ordered))

pub returns-else-first-last : goal.returns-else-first-last
unfolding with_field
returns-else-first-last c =
    elim c.else-first-last.branch [
      | else-first-last-via-then-first-last+else-last-bytes w ↦ rw (le-leb _ _ w.if-first-last.true, lt-leb _ _ w.if-last-bytes.false)
      | else-first-last-via-else-first-last w ↦ rw (lt-leb _ _ w.if-first-last.false)
    ]
