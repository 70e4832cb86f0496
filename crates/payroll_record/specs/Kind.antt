-- "Kind is position 8: 0 file header, 1 batch header, 3 detail, 5 batch trailer, 9 file trailer; a detail's segment is position 14."
use Rattle.std.specs.Prelude.{ℕ, List, cond, Result, Ok, Err}
use Rattle.text.specs.Literal.{ascii, same_bytes}
use Rattle.payroll_record.specs.declared.kind.Kind.{Kind}
use Rattle.payroll_record.specs.declared.kind.Kind.TheVariants.{
  FileHeader,
  BatchHeader,
  SegmentA,
  SegmentB,
  SegmentZ,
  BatchTrailer,
  FileTrailer,
}
use Rattle.payroll_record.specs.declared.kind.NoKind.{NoKind}
use Rattle.payroll_record.specs.declared.kind.NoKind.TheVariants.{UnknownKind, UnknownSegment}
use Rattle.payroll_record.specs.Field.{field, part_of}

-- what a record's kind is found to be: one of the kinds, or none
abbrev pub KindFound : Type 0
KindFound = Result Kind NoKind

-- the kind of a detail by its segment
unfoldable pub segment_named : List ℕ → KindFound
segment_named name =
    cond (same_bytes name (ascii "A")) (Ok SegmentA)
    (cond (same_bytes name (ascii "B")) (Ok SegmentB)
    (cond (same_bytes name (ascii "Z")) (Ok SegmentZ)
    (Err UnknownSegment)))

abbrev pub segment_of : List ℕ → KindFound
segment_of r = segment_named (part_of (field 14 14) r)

unfoldable pub kind_named : List ℕ → KindFound → KindFound
kind_named name detail =
    cond (same_bytes name (ascii "3")) detail
    (cond (same_bytes name (ascii "1")) (Ok BatchHeader)
    (cond (same_bytes name (ascii "5")) (Ok BatchTrailer)
    (cond (same_bytes name (ascii "0")) (Ok FileHeader)
    (cond (same_bytes name (ascii "9")) (Ok FileTrailer)
    (Err UnknownKind)))))

abbrev pub kind_of : List ℕ → KindFound
kind_of r = kind_named (part_of (field 8 8) r) (segment_of r)
