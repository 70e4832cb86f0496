-- The numbers of batches, of the open batch and of all records are small behind records that keep the rules: a batch number is at most 9998, a detail number has five
-- digits, and there are few records in a batch besides its details.
use Prim.Native.Nat.{ℕ, ◌+◌, ◌*◌, ◌≤◌, ◌<◌}
use mathlib.Core.Path.{◌≡◌}
use mathlib.Core.List.{List}
use mathlib.Core.Bool.{Bool, true, false, false≢true}
use native.Mathlib.Omega.{arith}
use lib.Dec.{lit≤}
use Rattle.payroll_record.specs.declared.kind.Kind.{Kind}
use Rattle.payroll_record.specs.declared.kind.Kind.TheVariants.{FileHeader, BatchHeader, SegmentA, SegmentB, SegmentZ, BatchTrailer, FileTrailer}
use Rattle.payroll_run.specs.declared.stage.Stage.{Stage}
use Rattle.payroll_run.specs.declared.stage.Stage.TheVariants.{Start, BetweenBatches, InBatch, BehindA, BehindB, Ended, Refused}
use Rattle.payroll_run.specs.declared.running.Running.{Running}
use Rattle.payroll_run.specs.Stage.{between_batches, in_batch, placed}
use Rattle.payroll_kept.specs.Fields.{Holds}
use Rattle.payroll_kept.specs.Kept.{amount_at}
use Rattle.payroll_kept.proofs.Rules.{holds_below}
use Rattle.payroll_kept.proofs.Plain.{after, behind_plain}
use Rattle.payroll_kept.proofs.Next.{NextKept, Next}

-- how many records the open batch has at most besides its details: its header in a batch, its trailer too behind it, and then the file's
abbrev pub besides : Stage → ℕ
besides Start = 0
besides BetweenBatches = 2
besides InBatch = 1
besides BehindA = 1
besides BehindB = 1
besides Ended = 3
besides (Refused x) = 0

pub at_most_three : (s : Stage) → besides s ≤ 3
at_most_three Start = lit≤ tt
at_most_three BetweenBatches = lit≤ tt
at_most_three InBatch = lit≤ tt
at_most_three BehindA = lit≤ tt
at_most_three BehindB = lit≤ tt
at_most_three Ended = lit≤ tt
at_most_three (Refused x) = lit≤ tt

-- where a record of a kind may stand there are no more of them
abbrev besides_before : Kind → ℕ
besides_before FileHeader = 0
besides_before BatchHeader = 2
besides_before SegmentA = 1
besides_before SegmentB = 1
besides_before SegmentZ = 1
besides_before BatchTrailer = 1
besides_before FileTrailer = 2

header_before : (b z : Bool) (kind : Kind) → in_batch b z kind ≡ true → 1 ≤ besides_before kind
header_before b z FileHeader p = absurd (false≢true p)
header_before b z BatchHeader p = lit≤ tt
header_before b z SegmentA p = lit≤ tt
header_before b z SegmentB p = lit≤ tt
header_before b z SegmentZ p = lit≤ tt
header_before b z BatchTrailer p = lit≤ tt
header_before b z FileTrailer p = lit≤ tt

both_before : (kind : Kind) → between_batches kind ≡ true → 2 ≤ besides_before kind
both_before FileHeader p = absurd (false≢true p)
both_before BatchHeader p = lit≤ tt
both_before SegmentA p = absurd (false≢true p)
both_before SegmentB p = absurd (false≢true p)
both_before SegmentZ p = absurd (false≢true p)
both_before BatchTrailer p = absurd (false≢true p)
both_before FileTrailer p = lit≤ tt

no_more : (s : Stage) (t : Bool) (kind : Kind) → placed s t kind ≡ true → besides s ≤ besides_before kind
no_more Start t kind p = omega arith
no_more BetweenBatches t kind p = both_before kind p
no_more InBatch t kind p = header_before false false kind p
no_more BehindA t kind p = header_before true t kind p
no_more BehindB t kind p = header_before false t kind p
no_more Ended t kind p = absurd (false≢true p)
no_more (Refused x) t kind p = absurd (false≢true p)

-- so the numbers of batches and of an open batch are small: a batch number is at most 9998, and a detail number has five digits
pub record Few (st : Running) : Type 0 where
  pub batches : st.batches ≤ 9998
  pub details : st.batch.details ≤ 99_999
  pub records : st.batch.records ≤ st.batch.details + besides st.stage
  -- a batch that is closed has no more than its details, its header and its trailer
  pub all : st.records ≤ 100_001 * st.batches + st.batch.records

-- so there is room for many more
pub few_records : (st : Running) → Few st → st.records < 1_000_000_000
few_records st few = omega (arith, few.all, few.batches, few.records, few.details, at_most_three st.stage)

-- behind one record more, a detail or any other
module _ (st : Running) (r : List ℕ) (few : Few st) where
  detail_few : (stage : Stage) (payments amount : ℕ) → besides st.stage ≤ besides stage → Holds 9 13 (st.batch.details + 1) r →
      Few (after st stage 1 payments amount)
  detail_few stage payments amount b h =
      record {
        batches = few.batches;
        details = omega (arith, holds_below 9 13 (st.batch.details + 1) r (lit≤ tt) h);
        records = omega (arith, few.records);
        all = omega (arith, few.all);
      }

  pub few_behind : (kind : Kind) → Next kind st r → Few (behind_plain kind st r)
  few_behind kind n = by kind n.kept (no_more st.stage st.is_return kind n.place)
    where
      by : (kind : Kind) → NextKept kind st r → besides st.stage ≤ besides_before kind → Few (behind_plain kind st r)
      by FileHeader k b = record { batches = few.batches; details = few.details; records = omega (arith, few.records); all = omega (arith, few.all) }
      by BatchHeader k b = record { batches = k.at_most; details = lit≤ tt; records = lit≤ tt; all = omega (arith, few.all, few.records, few.details) }
      by SegmentA k b = detail_few BehindA 1 (amount_at r) b k.detail.detail_number
      by SegmentB k b = detail_few BehindB 0 0 b k.detail_number
      by SegmentZ k b = detail_few InBatch 0 0 b k.detail_number
      by BatchTrailer k b = record { batches = few.batches; details = few.details; records = omega (arith, few.records); all = omega (arith, few.all) }
      by FileTrailer k b = record { batches = few.batches; details = few.details; records = omega (arith, few.records); all = omega (arith, few.all) }
