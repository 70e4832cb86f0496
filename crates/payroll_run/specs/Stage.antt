-- "Order: header; batches of header, details, trailer; file trailer. No batch, or no detail, is allowed. B stands right after A; Z right after
-- A or B, and only if header position 143 is 2."
use Rattle.std.specs.Prelude.{Bool, true, false}
use Rattle.payroll_record.specs.declared.kind.Kind.{Kind}
use Rattle.payroll_record.specs.declared.kind.Kind.TheVariants.{
  FileHeader,
  BatchHeader,
  SegmentA,
  SegmentB,
  SegmentZ,
  BatchTrailer,
  FileTrailer,
}
use Rattle.payroll_run.specs.declared.stage.Stage.{Stage}
use Rattle.payroll_run.specs.declared.stage.Stage.TheVariants.{Start, BetweenBatches, InBatch, BehindA, BehindB, Ended, Refused}

abbrev pub first : Kind → Bool
first FileHeader = true
first BatchHeader = false
first SegmentA = false
first SegmentB = false
first SegmentZ = false
first BatchTrailer = false
first FileTrailer = false

abbrev pub between_batches : Kind → Bool
between_batches FileHeader = false
between_batches BatchHeader = true
between_batches SegmentA = false
between_batches SegmentB = false
between_batches SegmentZ = false
between_batches BatchTrailer = false
between_batches FileTrailer = true

-- in a batch, where a B and a Z may stand or not
abbrev pub in_batch : Bool → Bool → Kind → Bool
in_batch b z FileHeader = false
in_batch b z BatchHeader = false
in_batch b z SegmentA = true
in_batch b z SegmentB = b
in_batch b z SegmentZ = z
in_batch b z BatchTrailer = true
in_batch b z FileTrailer = false

-- whether a kind may stand at a stage of a file that is a return or not
abbrev pub placed : Stage → Bool → Kind → Bool
placed Start is_return k = first k
placed BetweenBatches is_return k = between_batches k
placed InBatch is_return k = in_batch false false k
placed BehindA is_return k = in_batch true is_return k
placed BehindB is_return k = in_batch false is_return k
placed Ended is_return k = false
placed (Refused r) is_return k = false
