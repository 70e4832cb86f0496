-- `payroll_cases::long_batch::take_batch` meets its contract: the header, the payments behind it, and the two trailers behind those.
use Rattle.payroll_cases.proofs.Taking.{taken_as, batch_taken}
use Rattle.payroll_cases.proofs.long_batch.take_batch.Goals as goal

pub returns : goal.returns
returns c =
    let a = c.args in
    batch_taken a.stream a.payments
    (taken_as a.stream c.batch_header.ensures c.take_record-opened.ensures)
    c.take_payments-paid.ensures
    (taken_as c.take_payments-paid.result c.batch_trailer.ensures c.take_record-closed.ensures)
    (taken_as c.take_record-closed.result c.file_trailer.ensures c.take_record.ensures)
