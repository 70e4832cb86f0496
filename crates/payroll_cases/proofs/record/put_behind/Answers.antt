-- `payroll_cases::record::put_behind` meets its contract: the sum tells whether there is room, and what the copy promises is put there.
use Rattle.std.proofs.Common.{◌≡◌, ◌+◌, ◌≤◌, length, arith}
use borrow.Rule.Slice.PartMut.{Post-is}
use Rattle.payroll_cases.specs.Made.{made}
use Rattle.payroll_cases.proofs.Making.{no_room, put_there}
use Rattle.payroll_cases.proofs.record.put_behind.Goals as goal

pub returns-then-out-end : goal.returns-then-out-end
returns-then-out-end c =
    let a = c.args in
    no_room (made a.out.now a.at) a.bytes.now (omega arith)

pub returns : goal.returns
returns c =
    let a = c.args in
    let end = a.at + length a.bytes.now in
    let sum : c.saturating_add-end.result ≡ end = omega arith in
    let room : end ≤ length a.out.now = omega arith in
    rw sum (put_there a.out.now a.bytes.now _ _ a.at room c.copy_from_slice.ensures.after (Post-is a.at end a.out.now (omega arith)))
