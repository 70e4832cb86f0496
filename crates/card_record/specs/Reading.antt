-- What reading a record answers: at each record "4, .. 6, single fields by position", as far as they look at the record alone.
use Rattle.std.specs.Prelude.{ℕ, List, Option, Some, None, Ok, Err}
use Rattle.refusal.specs.Fault.{Judged}
use Rattle.refusal.specs.Rules.{Rule, first_broken}
use Rattle.card_content.specs.declared.field.Field.{Field}
use Rattle.card_content.specs.Field.{record_rules}
use Rattle.card_sale.specs.Cv.{cv_table, cv_of}
use Rattle.card_adjustment.specs.Aj.{aj_table, aj_of}
use Rattle.card_frame.specs.A0.{a0_table, a0_of}
use Rattle.card_frame.specs.L0.{l0_table, l0_of}
use Rattle.card_frame.specs.L9.{l9_table, l9_of}
use Rattle.card_frame.specs.A9.{a9_table, a9_of}
use Rattle.card_record.specs.declared.kind.Kind.{Kind}
use Rattle.card_record.specs.declared.kind.Kind.TheVariants.{A0, L0, Cv, Aj, L9, A9}
use Rattle.card_record.specs.declared.reading.Reading.{Reading}
use Rattle.card_record.specs.declared.reading.Reading.TheVariants.{
  Unknown as unknown,
  Faulty as faulty,
  A0 as a0,
  L0 as l0,
  Cv as cv,
  Aj as aj,
  L9 as l9,
  A9 as a9,
}
use Rattle.card_record.specs.Kind.{kind_of}

-- "Each kind has a width and field table that belong to it alone"; of AJ, L9 and A9 "the last printed position is the width"
abbrev pub width_of : Kind → ℕ
width_of A0 = 75
width_of L0 = 18
width_of Cv = 199
width_of Aj = 193
width_of L9 = 28
width_of A9 = 14

abbrev pub table_of : Kind → List Field
table_of A0 = a0_table
table_of L0 = l0_table
table_of Cv = cv_table
table_of Aj = aj_table
table_of L9 = l9_table
table_of A9 = a9_table

-- the place, from 0, at which the 19 bytes of a kind's card begin: "card 88-106" of a CV, field 21, 163-181, of an AJ
abbrev pub card_of : Kind → Option ℕ
card_of A0 = None
card_of L0 = None
card_of Cv = Some 87
card_of Aj = Some 162
card_of L9 = None
card_of A9 = None

-- the rules of a kind that look at one record's width and fields
abbrev pub kind_rules : Kind → ℕ → List ℕ → List Rule
kind_rules kind edition r = record_rules edition r (width_of kind) (table_of kind)

-- the reading of a record of a kind whose width and fields are right: its numbers
unfoldable pub right_reading : Kind → List ℕ → Reading
right_reading A0 r = a0 (a0_of r)
right_reading L0 r = l0 (l0_of r)
right_reading Cv r = cv (cv_of r)
right_reading Aj r = aj (aj_of r)
right_reading L9 r = l9 (l9_of r)
right_reading A9 r = a9 (a9_of r)

-- the first fault, or where there is none the numbers
unfoldable pub judged_as : Kind → Judged → Reading → Reading
judged_as kind (Ok none) numbers = numbers
judged_as kind (Err fault) numbers = faulty kind fault

abbrev pub read_as : Kind → ℕ → List ℕ → Reading
read_as kind edition r = judged_as kind (first_broken (kind_rules kind edition r)) (right_reading kind r)

unfoldable pub read_found : Option Kind → ℕ → List ℕ → Reading
read_found (Some kind) edition r = read_as kind edition r
read_found None edition r = unknown

-- any bytes as a record
abbrev pub reading_of : ℕ → List ℕ → Reading
reading_of edition r = read_found (kind_of r) edition r
