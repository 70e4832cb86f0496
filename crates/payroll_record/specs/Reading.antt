-- What reading a record answers: at each record "6, 4", then what the record alone decides of 7 and of its fields.
use Rattle.std.specs.Prelude.{ℕ, List, cond, length, eqb, Ok, Err}
use Rattle.payroll_record.specs.declared.kind.Kind.{Kind}
use Rattle.payroll_record.specs.declared.kind.Kind.TheVariants.{
  FileHeader,
  BatchHeader,
  SegmentA,
  SegmentB,
  SegmentZ,
  BatchTrailer,
  FileTrailer,
}
use Rattle.payroll_record.specs.declared.reading.Reading.{Reading}
use Rattle.payroll_record.specs.declared.reading.Reading.TheVariants.{
  WrongWidth as wrong_width,
  Unknown as unknown,
  FileHeader as file_header,
  BatchHeader as batch_header,
  Detail as detail,
  BatchTrailer as batch_trailer,
  FileTrailer as file_trailer,
}
use Rattle.payroll_record.specs.Kind.{KindFound, kind_of}
use Rattle.payroll_record.specs.FileHeader.{header_of}
use Rattle.payroll_record.specs.BatchHeader.{batch_header_of}
use Rattle.payroll_record.specs.Detail.{segment_aOf, other_segment_of}
use Rattle.payroll_record.specs.BatchTrailer.{batch_trailer_of}
use Rattle.payroll_record.specs.FileTrailer.{file_trailer_of}

unfoldable pub read_as : Kind → List ℕ → Reading
read_as FileHeader r = file_header (header_of r)
read_as BatchHeader r = batch_header (batch_header_of r)
read_as SegmentA r = detail (segment_aOf r)
read_as SegmentB r = detail (other_segment_of SegmentB r)
read_as SegmentZ r = detail (other_segment_of SegmentZ r)
read_as BatchTrailer r = batch_trailer (batch_trailer_of r)
read_as FileTrailer r = file_trailer (file_trailer_of r)

unfoldable pub read_found : KindFound → List ℕ → Reading
read_found (Ok kind) r = read_as kind r
read_found (Err no_kind) r = unknown no_kind

-- any bytes as a record: "240 bytes"
abbrev pub reading_of : List ℕ → Reading
reading_of r = cond (eqb (length r) 240) (read_found (kind_of r) r) wrong_width
