-- WHAT THE STATE IS behind records that keep the rules, in words of those records alone: all that the rules of what comes next take from it, and the numbers so far.
-- Numbers that no field bounds stay at the top of 64 bits; the others are whole.
use Rattle.std.specs.Prelude.{ℕ, suc, ◌+◌, min, ◌≡◌, Bool, true, false, cond, length, Ok, Err}
use mathlib.Core.List.{List, [], ◌∷◌, ◌++◌, foldl}
use Rattle.totals.specs.Sum.{top}
use Rattle.first_fault.specs.InTurn.{records_in}
use Rattle.payroll_record.specs.declared.kind.Kind.TheVariants.{FileHeader, BatchHeader, SegmentA, SegmentB, SegmentZ, BatchTrailer, FileTrailer}
use Rattle.payroll_record.specs.declared.kind.NoKind.TheVariants.{UnknownKind, UnknownSegment}
use Rattle.payroll_record.specs.Kind.{kind_of, KindFound}
use Rattle.payroll_record.specs.FileHeader.{is_return}
use Rattle.payroll_run.specs.declared.stage.Stage.{Stage}
use Rattle.payroll_run.specs.declared.stage.Stage.TheVariants.{Start, BetweenBatches, InBatch, BehindA, BehindB, Ended}
use Rattle.payroll_run.specs.declared.running.Running.{Running}
use Rattle.payroll_run.specs.State.{opened, next_number}
use Rattle.payroll_file.specs.PayrollFile.{lines_of}
use Rattle.payroll_kept.specs.Kept.{amount_at}

-- a number that stays at the top of 64 bits
abbrev pub stayed : ℕ → ℕ
stayed n = min n top

-- the stage behind a record of a kind; a kind that is not known keeps no rule, and leaves the stage as it is
abbrev pub stage_behind : Stage → KindFound → Stage
stage_behind stage (Ok FileHeader) = BetweenBatches
stage_behind stage (Ok BatchHeader) = InBatch
stage_behind stage (Ok SegmentA) = BehindA
stage_behind stage (Ok SegmentB) = BehindB
stage_behind stage (Ok SegmentZ) = InBatch
stage_behind stage (Ok BatchTrailer) = BetweenBatches
stage_behind stage (Ok FileTrailer) = Ended
stage_behind stage (Err UnknownKind) = stage
stage_behind stage (Err UnknownSegment) = stage

-- so it is the last record's; before any record it is the start
abbrev pub stage_after : List (List ℕ) → Stage
stage_after records = foldl (λ stage r. stage_behind stage (kind_of r)) Start records

-- "only if header position 143 is 2": the header is the first record
abbrev pub opens_return : List (List ℕ) → Bool
opens_return [] = false
opens_return (r ∷ rs) = is_return r

-- which records open a batch, which are details, and which are payments: "payments (A records)"
abbrev pub opens_batch : KindFound → Bool
opens_batch (Ok FileHeader) = false
opens_batch (Ok BatchHeader) = true
opens_batch (Ok SegmentA) = false
opens_batch (Ok SegmentB) = false
opens_batch (Ok SegmentZ) = false
opens_batch (Ok BatchTrailer) = false
opens_batch (Ok FileTrailer) = false
opens_batch (Err UnknownKind) = false
opens_batch (Err UnknownSegment) = false

abbrev pub is_detail : KindFound → Bool
is_detail (Ok FileHeader) = false
is_detail (Ok BatchHeader) = false
is_detail (Ok SegmentA) = true
is_detail (Ok SegmentB) = true
is_detail (Ok SegmentZ) = true
is_detail (Ok BatchTrailer) = false
is_detail (Ok FileTrailer) = false
is_detail (Err UnknownKind) = false
is_detail (Err UnknownSegment) = false

abbrev pub is_payment : KindFound → Bool
is_payment (Ok FileHeader) = false
is_payment (Ok BatchHeader) = false
is_payment (Ok SegmentA) = true
is_payment (Ok SegmentB) = false
is_payment (Ok SegmentZ) = false
is_payment (Ok BatchTrailer) = false
is_payment (Ok FileTrailer) = false
is_payment (Err UnknownKind) = false
is_payment (Err UnknownSegment) = false

-- the records whose kind passes a test
unfoldable pub those : (KindFound → Bool) → List (List ℕ) → List (List ℕ)
those test [] = []
those test (r ∷ rs) = cond (test (kind_of r)) (r ∷ those test rs) (those test rs)

-- the records from the last batch header on, it included, so a batch that is open, or one that its trailer closed, with what came behind it; before any batch header,
-- all that came
abbrev pub from_header : List (List ℕ) → List (List ℕ)
from_header records = foldl (λ rs r. cond (opens_batch (kind_of r)) (r ∷ []) (rs ++ (r ∷ []))) [] records

-- "sums the amounts of A", as a whole number
unfoldable pub amounts_of : List (List ℕ) → ℕ
amounts_of [] = 0
amounts_of (r ∷ rs) = amount_at r + amounts_of rs

abbrev pub amount_in : List (List ℕ) → ℕ
amount_in records = amounts_of (those is_payment records)

-- the state of records. What a batch trailer must equal, but for itself, is whole, as are the batches, "at most 9998", and the details, of five digits
abbrev pub plain_state : List (List ℕ) → Running
plain_state records =
    record {
      stage = stage_after records;
      is_return = opens_return records;
      records = stayed (length records);
      batches = length (those opens_batch records);
      payments = stayed (length (those is_payment records));
      amount = stayed (amount_in records);
      batch = record {
        records = length (from_header records);
        details = length (those is_detail (from_header records));
        sum = stayed (amount_in (from_header records));
      };
    }

-- the state behind pieces of a file
abbrev pub state_behind : List (List ℕ) → Running
state_behind pieces = lines_of opened pieces

pub record StateKnown (pieces : List (List ℕ)) : Type 0 where
  pub is : state_behind pieces ≡ plain_state (records_in pieces)
  -- the record that comes next is one past those that came
  pub number : next_number (state_behind pieces) ≡ stayed (suc (length pieces))
