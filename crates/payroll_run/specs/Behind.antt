-- What is behind a record that keeps the rules.
use Rattle.std.specs.Prelude.{ℕ}
use Rattle.totals.specs.Sum.{capped}
use Rattle.payroll_record.specs.declared.kind.Kind.{Kind}
use Rattle.payroll_record.specs.declared.kind.Kind.TheVariants.{
  FileHeader,
  BatchHeader,
  SegmentA,
  SegmentB,
  SegmentZ,
  BatchTrailer,
  FileTrailer,
}
use Rattle.payroll_record.specs.declared.file_header.FileHeader.{FileHeader as Header}
use Rattle.payroll_record.specs.declared.detail.Detail.{Detail}
use Rattle.payroll_record.specs.declared.reading.Reading.{Reading}
use Rattle.payroll_record.specs.declared.reading.Reading.TheVariants.{
  WrongWidth as wrong_width,
  Unknown as unknown,
  FileHeader as file_header,
  BatchHeader as batch_header,
  Detail as detail,
  BatchTrailer as batch_trailer,
  FileTrailer as file_trailer,
}
use Rattle.payroll_run.specs.declared.stage.Stage.{Stage}
use Rattle.payroll_run.specs.declared.stage.Stage.TheVariants.{BetweenBatches, InBatch, BehindA, BehindB, Ended}
use Rattle.payroll_run.specs.declared.running.Running.{Running}
use Rattle.payroll_run.specs.State.{new_batch, moved, returned, next_number, next_batch, one_detail_more, counted}

-- behind the file header
abbrev pub behind_header : Running → Header → Running
behind_header st r = returned r.is_return (counted BetweenBatches st)

-- behind a batch header: a batch of one record
abbrev pub behind_batch_header : Running → Running
behind_batch_header st = moved InBatch (next_number st) (next_batch st) st.payments st.amount new_batch st

-- behind a detail, with so many payments more, of an amount
abbrev pub behind_segment : Running → Stage → ℕ → ℕ → Running
behind_segment st stage payments amount =
    moved stage (next_number st) st.batches (capped st.payments payments) (capped st.amount amount) (one_detail_more amount st.batch) st

-- an A is a payment of its amount, "payments (A records)"; a detail is of no other kind than A, B and Z
unfoldable pub behind_detail_as : Kind → Running → ℕ → Running
behind_detail_as FileHeader st amount = st
behind_detail_as BatchHeader st amount = st
behind_detail_as SegmentA st amount = behind_segment st BehindA 1 amount
behind_detail_as SegmentB st amount = behind_segment st BehindB 0 0
behind_detail_as SegmentZ st amount = behind_segment st InBatch 0 0
behind_detail_as BatchTrailer st amount = st
behind_detail_as FileTrailer st amount = st

abbrev pub behind_detail : Running → Detail → Running
behind_detail st r = behind_detail_as r.segment st r.amount

-- behind a record that keeps the rules
unfoldable pub behind : Running → Reading → Running
behind st wrong_width = st
behind st (unknown no_kind) = st
behind st (file_header r) = behind_header st r
behind st (batch_header r) = behind_batch_header st
behind st (detail r) = behind_detail st r
behind st (batch_trailer r) = counted BetweenBatches st
behind st (file_trailer r) = counted Ended st
