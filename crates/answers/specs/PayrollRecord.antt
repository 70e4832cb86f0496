-- What the contracts of a payroll record are held to. Behind a function's name: the wrong programs that are ruled out.
use Rattle.std.specs.Prelude.{ℕ, Bool, true, false, Err, Ok}
use Rattle.text.specs.Literal.{ascii}
use Rattle.refusal.specs.declared.Cause.TheVariants.{ByteNotAllowed, ValueNotAllowed, SequenceWrong, TrailerDisagrees}
use Rattle.payroll_record.specs.Field.{field}
use Rattle.payroll_record.specs.declared.kind.Kind.{Kind}
use Rattle.payroll_record.specs.declared.kind.Kind.TheVariants.{BatchHeader, SegmentA, SegmentB}
use Rattle.payroll_record.specs.declared.file_header.FileHeader.{FileHeader as HeaderRead}
use Rattle.payroll_record.specs.declared.batch_header.BatchHeader.{BatchHeader as BatchHeaderRead}
use Rattle.payroll_record.specs.declared.detail.Detail.{Detail}
use Rattle.payroll_record.specs.declared.batch_trailer.BatchTrailer.{BatchTrailer as BatchTrailerRead}
use Rattle.payroll_record.specs.declared.file_trailer.FileTrailer.{FileTrailer as FileTrailerRead}
use Rattle.payroll_record.specs.declared.reading.Reading.TheVariants.{
  WrongWidth as wrong_width,
  Unknown as unknown,
  Detail as detail_read,
}
use Rattle.answers.specs.Samples.{at, file_header, batch_header, payment, batch_trailer, file_trailer}
use base.Fml.{Lft}
use Rattle.payroll_record.specs.contracts.field.Field.part as Part
use Rattle.payroll_record.specs.contracts.field.Field.number as Number'
use Rattle.payroll_record.specs.contracts.field.Field.rule as Rule
use Rattle.payroll_record.specs.contracts.field.Field.digits_fault as DigitsFault
use Rattle.payroll_record.specs.contracts.field.Field.should_be as ShouldBe
use Rattle.payroll_record.specs.contracts.field.Field.day_fault as DayFault
use Rattle.payroll_record.specs.contracts.front.front_fault as FrontFault
use Rattle.payroll_record.specs.contracts.kind.kind_of as KindOf
use Rattle.payroll_record.specs.contracts.file_header.FileHeader.read as HeaderRead'
use Rattle.payroll_record.specs.contracts.batch_header.BatchHeader.read as BatchHeaderRead'
use Rattle.payroll_record.specs.contracts.detail.Detail.read_a as PaymentRead
use Rattle.payroll_record.specs.contracts.detail.Detail.read_other as SegmentRead
use Rattle.payroll_record.specs.contracts.batch_trailer.BatchTrailer.read as BatchTrailerRead'
use Rattle.payroll_record.specs.contracts.file_trailer.FileTrailer.read as FileTrailerRead'
use Rattle.payroll_record.specs.contracts.reading.read as Read
use borrow.Fn.Read.{r_last}
use Rattle.answers.specs.Held.{Claim, fact_of, logic, memory, run, OneAnswer, OnePart, Tells, lent, part, one}
use Rattle.text.specs.declared.number.NoNumber.TheVariants.{NotDigits}
use Rattle.refusal.specs.Fault.{Judged, at as fault_at, nothing}
use Rattle.payroll_record.specs.declared.kind.NoKind.TheVariants.{UnknownKind, UnknownSegment}
use Rattle.text.specs.Number.{Number}

-- what each contract says
abbrev NumberSays : Claim Number'.ended
NumberSays κs a r s = fact_of ((Number'.clauses logic memory run κs a).ensures tt r s) (r_last _)

abbrev HeaderReadSays : Claim HeaderRead'.ended
HeaderReadSays κs a r s = fact_of ((HeaderRead'.clauses logic memory run κs a).ensures tt r s) (r_last _)

abbrev BatchHeaderReadSays : Claim BatchHeaderRead'.ended
BatchHeaderReadSays κs a r s = fact_of ((BatchHeaderRead'.clauses logic memory run κs a).ensures tt r s) (r_last _)

abbrev BatchTrailerReadSays : Claim BatchTrailerRead'.ended
BatchTrailerReadSays κs a r s = fact_of ((BatchTrailerRead'.clauses logic memory run κs a).ensures tt r s) (r_last _)

abbrev FileTrailerReadSays : Claim FileTrailerRead'.ended
FileTrailerReadSays κs a r s = fact_of ((FileTrailerRead'.clauses logic memory run κs a).ensures tt r s) (r_last _)

abbrev PartSays : Claim Part.ended
PartSays κs a r s = fact_of ((Part.clauses logic memory run κs a).ensures tt r s) (r_last _)

abbrev RuleSays : Claim Rule.ended
RuleSays κs a r s = fact_of ((Rule.clauses logic memory run κs a).ensures tt r s) (r_last _)

abbrev DigitsFaultSays : Claim DigitsFault.ended
DigitsFaultSays κs a r s = fact_of ((DigitsFault.clauses logic memory run κs a).ensures tt r s) (r_last _)

abbrev ShouldBeSays : Claim ShouldBe.ended
ShouldBeSays κs a r s = fact_of ((ShouldBe.clauses logic memory run κs a).ensures tt r s) (r_last _)

abbrev DayFaultSays : Claim DayFault.ended
DayFaultSays κs a r s = fact_of ((DayFault.clauses logic memory run κs a).ensures tt r s) (r_last _)

abbrev FrontFaultSays : Claim FrontFault.ended
FrontFaultSays κs a r s = fact_of ((FrontFault.clauses logic memory run κs a).ensures tt r s) (r_last _)

abbrev KindOfSays : Claim KindOf.ended
KindOfSays κs a r s = fact_of ((KindOf.clauses logic memory run κs a).ensures tt r s) (r_last _)

abbrev PaymentReadSays : Claim PaymentRead.ended
PaymentReadSays κs a r s = fact_of ((PaymentRead.clauses logic memory run κs a).ensures tt r s) (r_last _)

abbrev SegmentReadSays : Claim SegmentRead.ended
SegmentReadSays κs a r s = fact_of ((SegmentRead.clauses logic memory run κs a).ensures tt r s) (r_last _)

abbrev ReadSays : Claim Read.ended
ReadSays κs a r s = fact_of ((Read.clauses logic memory run κs a).ensures tt r s) (r_last _)

abbrev header_of : Judged → Bool → HeaderRead
header_of fault is_return = record { fault = fault; is_return = is_return }

abbrev batch_header_of : Judged → Number → BatchHeaderRead
batch_header_of front batch = record { front = front; batch = batch }

-- a detail numbered 1 in batch 1
abbrev pub detail_of : Kind → Judged → ℕ → Detail
detail_of segment rest amount =
    record { segment = segment; front = nothing; batch = Ok 1; number = Ok 1; rest = rest; amount = amount }

abbrev pub batch_trailer_of : Number → Number → BatchTrailerRead
batch_trailer_of count sum = record { front = nothing; batch = Ok 1; count = count; sum = sum }

abbrev pub file_trailer_of : Judged → Number → Number → FileTrailerRead
file_trailer_of front batches records = record { front = front; batches = batches; records = records }

pub record PayrollRecord (κ : Lft) : Type 0 where
  -- `Field::part`: a column late; other bytes with the same content
  pub parts : OnePart PartSays
  pub part_late : Tells (PartSays (one κ)) (field 1 3, (lent payment, tt)) (part 0 (ascii "422")) (part 1 (ascii "220"))
  pub part_elsewhere : Tells (PartSays (one κ)) (field 120 121, (lent payment, tt)) (part 119 (ascii "00")) (part 121 (ascii "00"))
  -- `Field::number`: the last digit left out; blanks taken for zeros
  pub number : OneAnswer NumberSays
  pub number_cut : Tells (NumberSays (one κ)) (field 120 134, (lent payment, tt)) (Ok 10000) (Ok 1000)
  pub number_blanks : Tells (NumberSays (one κ)) (field 15 20, (lent payment, tt)) (Err NotDigits) (Ok 0)
  -- `Field::rule`: the last position as the column; a fault where the rule holds
  pub rule : OneAnswer RuleSays
  pub rule_column : Tells (RuleSays tt) (field 24 41, (TrailerDisagrees, (false, tt))) (fault_at TrailerDisagrees 24) (fault_at TrailerDisagrees 41)
  pub rule_held : Tells (RuleSays tt) (field 24 41, (TrailerDisagrees, (true, tt))) nothing (fault_at TrailerDisagrees 24)
  -- `Field::digits_fault`: blanks taken; the byte's own column
  pub digits_fault : OneAnswer DigitsFaultSays
  pub digits_blanks : Tells (DigitsFaultSays (one κ)) (field 15 20, (lent payment, tt)) (fault_at ByteNotAllowed 15) nothing
  pub digits_column : Tells (DigitsFaultSays (one κ)) (field 120 134, (lent (at 123 "x" payment), tt)) (fault_at ByteNotAllowed 120) (fault_at ByteNotAllowed 123)
  -- `Field::should_be`: no digits refused by the rule's own number; a number that is another taken
  pub should_be : OneAnswer ShouldBeSays
  pub should_be_digits : Tells (ShouldBeSays tt) (field 4 7, ((Err NotDigits), (1, (SequenceWrong, tt)))) (fault_at ByteNotAllowed 4) (fault_at SequenceWrong 4)
  pub should_be_other : Tells (ShouldBeSays tt) (field 4 7, (Ok 2, (1, (SequenceWrong, tt)))) (fault_at SequenceWrong 4) nothing
  -- `Field::day_fault`: the year read first; a day that is none taken
  pub day_fault : OneAnswer DayFaultSays
  pub day_year_first : Tells (DayFaultSays (one κ)) (field 94 101, (lent payment, tt)) nothing (fault_at ValueNotAllowed 94)
  pub day_none : Tells (DayFaultSays (one κ)) (field 94 101, (lent (at 94 "29022023" payment), tt)) (fault_at ValueNotAllowed 94) nothing
  -- `front_fault`: another bank taken, or refused by 7; a byte past 126 told at its field's column, or not seen behind the fields
  pub front_fault : OneAnswer FrontFaultSays
  pub front_bank : Tells (FrontFaultSays (one κ)) (lent (at 1 "341" payment), tt) (fault_at ValueNotAllowed 1) nothing
  pub front_bank_cause : Tells (FrontFaultSays (one κ)) (lent (at 1 "341" payment), tt) (fault_at ValueNotAllowed 1) (fault_at ByteNotAllowed 1)
  pub front_stray : Tells (FrontFaultSays (one κ)) (lent (at 123 "\n" payment), tt) (fault_at ByteNotAllowed 123) (fault_at ByteNotAllowed 120)
  pub front_stray_behind : Tells (FrontFaultSays (one κ)) (lent (at 240 "\n" payment), tt) (fault_at ByteNotAllowed 240) nothing
  -- `kind_of`: kind 2 taken for a batch header; segment C taken for B; an unknown segment told as an unknown kind
  pub kind_of_lem : OneAnswer KindOfSays
  pub kind_two : Tells (KindOfSays (one κ)) (lent (at 8 "2" payment), tt) (Err UnknownKind) (Ok BatchHeader)
  pub kind_segment : Tells (KindOfSays (one κ)) (lent (at 14 "C" payment), tt) (Err UnknownSegment) (Ok SegmentB)
  pub kind_segment_column : Tells (KindOfSays (one κ)) (lent (at 14 "C" payment), tt) (Err UnknownSegment) (Err UnknownKind)
  -- `FileHeader::read`: a code of 0 taken; a file that is sent taken for a return; an accent taken, or told at the column of the field it stands in
  pub header_read : OneAnswer HeaderReadSays
  pub header_code : Tells (HeaderReadSays (one κ)) (lent (at 143 "0" file_header), tt) (header_of (fault_at ValueNotAllowed 143) false) (header_of nothing false)
  pub header_return : Tells (HeaderReadSays (one κ)) (lent file_header, tt) (header_of nothing false) (header_of nothing true)
  pub header_accent : Tells (HeaderReadSays (one κ)) (lent (at 80 "\u{a0}" file_header), tt) (header_of (fault_at ByteNotAllowed 80) false) (header_of nothing false)
  pub header_accent_column : Tells (HeaderReadSays (one κ)) (lent (at 146 "\u{a0}" file_header), tt) (header_of (fault_at ByteNotAllowed 146) false) (header_of (fault_at ByteNotAllowed 144) false)
  -- `BatchHeader::read`: the kind read with the batch number; another bank let through
  pub batch_header_read : OneAnswer BatchHeaderReadSays
  pub batch_header_number : Tells (BatchHeaderReadSays (one κ)) (lent batch_header, tt) (batch_header_of nothing (Ok 1)) (batch_header_of nothing (Ok 11))
  pub batch_header_bank : Tells (BatchHeaderReadSays (one κ)) (lent (at 1 "341" batch_header), tt) (batch_header_of (fault_at ValueNotAllowed 1) (Ok 1)) (batch_header_of nothing (Ok 1))
  -- `Detail::read_a`: an amount of a tenth; a day that is none let through
  pub payment_read : OneAnswer PaymentReadSays
  pub payment_amount : Tells (PaymentReadSays (one κ)) (lent payment, tt) (detail_of SegmentA nothing 10000) (detail_of SegmentA nothing 1000)
  pub payment_day : Tells (PaymentReadSays (one κ)) (lent (at 94 "31022024" payment), tt) (detail_of SegmentA (fault_at ValueNotAllowed 94) 10000) (detail_of SegmentA nothing 10000)
  -- `Detail::read_other`: an amount read off a B; its date judged
  pub segment_read : OneAnswer SegmentReadSays
  pub segment_amount : Tells (SegmentReadSays (one κ)) (SegmentB, (lent (at 14 "B" payment), tt)) (detail_of SegmentB nothing 0) (detail_of SegmentB nothing 10000)
  pub segment_day : Tells (SegmentReadSays (one κ)) (SegmentB, (lent (at 94 "31022024" payment), tt)) (detail_of SegmentB nothing 0) (detail_of SegmentB (fault_at ValueNotAllowed 94) 0)
  -- `BatchTrailer::read`: a sum of 17 digits read; count and sum exchanged
  pub batch_trailer_read : OneAnswer BatchTrailerReadSays
  pub batch_trailer_sum : Tells (BatchTrailerReadSays (one κ)) (lent batch_trailer, tt) (batch_trailer_of (Ok 3) (Ok 10000)) (batch_trailer_of (Ok 3) (Ok 1000))
  pub batch_trailer_exchanged : Tells (BatchTrailerReadSays (one κ)) (lent batch_trailer, tt) (batch_trailer_of (Ok 3) (Ok 10000)) (batch_trailer_of (Ok 10000) (Ok 3))
  -- `FileTrailer::read`: batches and records exchanged; a batch number other than 9999 taken
  pub file_trailer_read : OneAnswer FileTrailerReadSays
  pub file_trailer_exchanged : Tells (FileTrailerReadSays (one κ)) (lent file_trailer, tt) (file_trailer_of nothing (Ok 1) (Ok 5)) (file_trailer_of nothing (Ok 5) (Ok 1))
  pub file_trailer_batch : Tells (FileTrailerReadSays (one κ)) (lent (at 4 "0001" file_trailer), tt) (file_trailer_of (fault_at ValueNotAllowed 4) (Ok 1) (Ok 5)) (file_trailer_of nothing (Ok 1) (Ok 5))
  -- `read`: 4 before 6; a longer record taken; an unknown segment taken for a payment
  pub read : OneAnswer ReadSays
  pub read_order : Tells (ReadSays (one κ)) (lent (ascii "42200012"), tt) wrong_width (unknown UnknownKind)
  pub read_longer : Tells (ReadSays (one κ)) (lent (at 241 " " payment), tt) wrong_width (detail_read (detail_of SegmentA nothing 10000))
  pub read_segment : Tells (ReadSays (one κ)) (lent (at 14 "C" payment), tt) (unknown UnknownSegment) (detail_read (detail_of SegmentA nothing 10000))
