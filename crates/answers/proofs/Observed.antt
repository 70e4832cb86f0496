-- A number read off each kind of answer, by which two of them are told apart.
use Prim.Native.Nat.{ℕ, ◌+◌}
use Rattle.refusal.specs.RefusalList.{number_of}
use Rattle.card_record.specs.declared.kind.Kind.{Kind}
use Rattle.card_record.specs.declared.kind.Kind.TheVariants.{A0, L0, Cv, Aj, L9, A9}
use Rattle.card_record.specs.declared.reading.Reading.{Reading}
use Rattle.card_record.specs.declared.reading.Reading.TheVariants.{
  Unknown as unknown,
  Faulty as faulty,
  A0 as a0,
  L0 as l0,
  Cv as cv,
  Aj as aj,
  L9 as l9,
  A9 as a9,
}
use Rattle.card_run.specs.declared.stage.Stage.{Stage}
use Rattle.card_run.specs.declared.stage.Stage.TheVariants.{Start, BetweenBatches, InBatch, Ended, Closed, Refused}
use Rattle.payroll_record.specs.declared.kind.Kind.{Kind as PayrollKind}
use Rattle.payroll_record.specs.declared.kind.Kind.TheVariants.{FileHeader, BatchHeader, SegmentA, SegmentB, SegmentZ, BatchTrailer, FileTrailer}
use Rattle.payroll_record.specs.declared.reading.Reading.{Reading as PayrollReading}
use Rattle.payroll_record.specs.declared.reading.Reading.TheVariants.{
  WrongWidth as wrong_width,
  Unknown as of_no_kind,
  FileHeader as file_header,
  BatchHeader as batch_header,
  Detail as detail,
  BatchTrailer as batch_trailer,
  FileTrailer as file_trailer,
}
use Rattle.payroll_run.specs.declared.stage.Stage.{Stage as PayrollStage}
use Rattle.payroll_run.specs.declared.stage.Stage.TheVariants.{
  Start as start,
  BetweenBatches as between_batches,
  InBatch as in_batch,
  BehindA as behind_a,
  BehindB as behind_b,
  Ended as ended,
  Refused as refused_at,
}
use Rattle.day_sheet.specs.declared.layout.Version.{Version}
use Rattle.day_sheet.specs.declared.layout.Version.TheVariants.{One, Two}
use Rattle.sheet_numbers.specs.declared.sheet.Sheet.TheVariants.{Version1, Version2}
use Rattle.sheet_numbers.specs.Edition.{sheet_edition}
use Rattle.refusal.specs.Fault.{Judged}
use Rattle.payroll_record.specs.Kind.{KindFound}
use Rattle.text.specs.declared.number.NoNumber.TheVariants.{NotDigits, TooLong}
use Rattle.calendar.specs.declared.when.Unreadable.TheVariants.{NoSuch, NotDigits as no_digits}
use Rattle.payroll_record.specs.declared.kind.NoKind.TheVariants.{UnknownKind, UnknownSegment}
use Rattle.text.specs.Number.{Number}
use Rattle.calendar.specs.When.{When}
use Rattle.card_run.specs.Answer.{CardAnswer}
use Rattle.sale_field.specs.Field.{FieldAnswer}
use Rattle.payroll_file.specs.Answer.{PayrollAnswer}
use Rattle.payroll_stream.specs.Stream.{PayrollProgress}
use Rattle.day_sheet.specs.Reading.{SheetRead}
use Rattle.day_sheet.specs.Writing.{SheetWritten}
use Rattle.file_list.specs.Listed.{Listed}
use Rattle.out_file.specs.Saved.{Saved}
use Rattle.card_program.specs.Outcome.{Outcome}
use Rattle.payroll_program.specs.Outcome.{PayrollOutcome}
use Rattle.std.specs.Prelude.{Err, None, Ok, Option, Some}
use Rattle.program.specs.Argument.{Argument}
use Rattle.files.specs.Loaded.{Got}
use Rattle.files.specs.declared.writing.Standard.{Standard}
use Rattle.files.specs.declared.writing.Standard.TheVariants.{Output, Error}

-- the number of a fault's cause
abbrev pub fault_number : Judged → ℕ
fault_number (Ok none) = 0
fault_number (Err fault) = number_of fault.cause

-- its column
abbrev pub fault_column : Judged → ℕ
fault_column (Ok none) = 0
fault_column (Err fault) = fault.column

abbrev pub stray_place : Option ℕ → ℕ
stray_place None = 0
stray_place (Some place) = place + 1

abbrev pub number_read : Number → ℕ
number_read (Err NotDigits) = 0
number_read (Err TooLong) = 1
number_read (Ok n) = n + 2

abbrev pub when_read : When → ℕ
when_read (Err no_digits) = 0
when_read (Err NoSuch) = 1
when_read (Ok n) = n + 2

abbrev pub sum_read : Option ℕ → ℕ
sum_read None = 0
sum_read (Some n) = n + 1

abbrev pub found_place : Option ℕ → ℕ
found_place None = 0
found_place (Some place) = place + 1

-- a kind of a card file, counted from 1
abbrev pub kind_number : Kind → ℕ
kind_number A0 = 1
kind_number L0 = 2
kind_number Cv = 3
kind_number Aj = 4
kind_number L9 = 5
kind_number A9 = 6

abbrev pub kind_read : Option Kind → ℕ
kind_read None = 0
kind_read (Some kind) = kind_number kind

abbrev pub card_place : Option ℕ → ℕ
card_place None = 0
card_place (Some place) = place + 1

-- the number of a reading's refusal; 0 where it has none
abbrev pub reading_read : Reading → ℕ
reading_read unknown = 4
reading_read (faulty kind fault) = number_of fault.cause
reading_read (a0 r) = 0
reading_read (l0 r) = 0
reading_read (cv r) = 0
reading_read (aj r) = 0
reading_read (l9 r) = 0
reading_read (a9 r) = 0

-- a stage of a card file: the refusal's number, or one past them all
abbrev pub stage_read : Stage → ℕ
stage_read Start = 101
stage_read BetweenBatches = 102
stage_read InBatch = 103
stage_read Ended = 104
stage_read Closed = 105
stage_read (Refused r) = number_of r.cause

-- the record that is refused
abbrev pub refused_record : Stage → ℕ
refused_record Start = 0
refused_record BetweenBatches = 0
refused_record InBatch = 0
refused_record Ended = 0
refused_record Closed = 0
refused_record (Refused r) = r.«record»

-- an answer: the refusal's number, or the count of settled sales, past them all
abbrev pub answer_read : CardAnswer → ℕ
answer_read None = 0
answer_read (Some (Ok a)) = 101 + a.totals.settled.sales
answer_read (Some (Err r)) = number_of r.cause

-- and what its forecasts come to
abbrev pub forecast_read : CardAnswer → ℕ
forecast_read None = 0
forecast_read (Some (Ok a)) = a.totals.forecast.amounts.gross
forecast_read (Some (Err r)) = 0

-- and its count of credits
abbrev pub credits_read : CardAnswer → ℕ
credits_read None = 0
credits_read (Some (Ok a)) = a.credits.count
credits_read (Some (Err r)) = 0

abbrev pub field_read : FieldAnswer → ℕ
field_read (Ok tt) = 0
field_read (Err r) = number_of r.cause

-- a kind of a payroll file, counted from 1
abbrev pub payroll_kind_number : PayrollKind → ℕ
payroll_kind_number FileHeader = 1
payroll_kind_number BatchHeader = 2
payroll_kind_number SegmentA = 3
payroll_kind_number SegmentB = 4
payroll_kind_number SegmentZ = 5
payroll_kind_number BatchTrailer = 6
payroll_kind_number FileTrailer = 7

abbrev pub payroll_kind_read : KindFound → ℕ
payroll_kind_read (Err UnknownKind) = 8
payroll_kind_read (Err UnknownSegment) = 14
payroll_kind_read (Ok kind) = payroll_kind_number kind

abbrev pub payroll_reading_read : PayrollReading → ℕ
payroll_reading_read wrong_width = 6
payroll_reading_read (of_no_kind UnknownKind) = 8
payroll_reading_read (of_no_kind UnknownSegment) = 14
payroll_reading_read (file_header r) = 0
payroll_reading_read (batch_header r) = 0
payroll_reading_read (detail r) = 0
payroll_reading_read (batch_trailer r) = 0
payroll_reading_read (file_trailer r) = 0

-- a stage of a payroll file: the refusal's number, or one past them all
abbrev pub payroll_stage_read : PayrollStage → ℕ
payroll_stage_read start = 101
payroll_stage_read between_batches = 102
payroll_stage_read in_batch = 103
payroll_stage_read behind_a = 104
payroll_stage_read behind_b = 105
payroll_stage_read ended = 106
payroll_stage_read (refused_at r) = number_of r.cause

-- an answer: the refusal's number; 0 for an accepted file
abbrev pub payroll_answer_read : PayrollAnswer → ℕ
payroll_answer_read (Ok a) = 0
payroll_answer_read (Err r) = number_of r.cause

-- and the amount of an accepted file
abbrev pub payroll_amount_read : PayrollAnswer → ℕ
payroll_amount_read (Ok a) = a.amount
payroll_amount_read (Err r) = 0

abbrev pub progress_read : PayrollProgress → ℕ
progress_read None = 101
progress_read (Some a) = payroll_answer_read a

abbrev pub version_read : Version → ℕ
version_read One = 1
version_read Two = 2

abbrev pub sheet_read : SheetRead → ℕ
sheet_read (Ok s) = 0
sheet_read (Err r) = number_of r.cause

-- whether a sheet was read, and the split that it tells
abbrev pub sheet_kind : SheetRead → ℕ
sheet_kind (Ok s) = 1
sheet_kind (Err r) = 0

abbrev pub split_read : SheetRead → ℕ
split_read (Ok (Version1 heading totals)) = 0
split_read (Ok (Version2 heading split sets)) = split
split_read (Err r) = 0

-- the sales of a sheet's first totals
abbrev pub settled_read : SheetRead → ℕ
settled_read (Ok (Version1 heading totals)) = totals.sales
settled_read (Ok (Version2 heading split sets)) = sets.settled.sales
settled_read (Err r) = 0

-- the edition of a sheet that was read
abbrev pub edition_of_read : SheetRead → ℕ
edition_of_read (Ok s) = sheet_edition s
edition_of_read (Err r) = 0

abbrev pub sheet_written : SheetWritten → ℕ
sheet_written (Ok tt) = 0
sheet_written (Err r) = number_of r.cause

abbrev pub edition_read : Option ℕ → ℕ
edition_read None = 0
edition_read (Some n) = n + 1

-- an outcome of a payroll file: its answer's number, or one past them all for a mistake
abbrev pub outcome_read : PayrollOutcome → ℕ
outcome_read (Err mistake) = 101
outcome_read (Ok a) = payroll_answer_read a

-- the same of a card file
abbrev pub card_outcome_read : Outcome → ℕ
card_outcome_read (Err mistake) = 101
card_outcome_read (Ok a) = answer_read a

-- an argument: 0 where it is too long, one more than its bytes
abbrev pub argument_read : Argument → ℕ
argument_read (Err mistake) = 0
argument_read (Ok n) = n + 1

-- what a read means: 0 for the end, 1 for a failure, two more than its bytes
abbrev pub got_read : Got → ℕ
got_read (Ok None) = 0
got_read (Err error) = 1
got_read (Ok (Some n)) = n + 2

-- whether something is told of a file that was to be kept
abbrev pub saved_read : Saved → ℕ
saved_read (Ok tt) = 0
saved_read (Err mistake) = 1

abbrev pub list_read : Listed → ℕ
list_read (Ok tally) = 0
list_read (Err mistake) = 1

-- which standard stream
abbrev pub standard_read : Standard → ℕ
standard_read Output = 1
standard_read Error = 2
