-- The run as whole numbers: what each record would make of it if nothing stayed at the top of 64 bits. The run's own numbers are these, cut at the top.
use Prim.Native.Nat.{ℕ, ◌+◌, min}
use mathlib.Core.Path.{◌≡◌, refl, ◌∙◌, ap}
use mathlib.Core.List.{List}
use native.Mathlib.Omega.{arith}
use lib.Dec.{lit≤}
use Rattle.text.specs.Number.{plain_number}
use Rattle.totals.specs.Sum.{top, capped}
use Rattle.payroll_record.specs.declared.kind.Kind.{Kind}
use Rattle.payroll_record.specs.declared.kind.Kind.TheVariants.{FileHeader, BatchHeader, SegmentA, SegmentB, SegmentZ, BatchTrailer, FileTrailer}
use Rattle.payroll_record.specs.FileHeader.{is_return}
use Rattle.payroll_record.specs.Detail.{amount, amount_of}
use Rattle.payroll_record.specs.Reading.{read_as}
use Rattle.payroll_record.proofs.Fields.{read}
use Rattle.payroll_run.specs.declared.stage.Stage.{Stage}
use Rattle.payroll_run.specs.declared.stage.Stage.TheVariants.{BetweenBatches, InBatch, BehindA, BehindB, Ended}
use Rattle.payroll_run.specs.declared.running.Batch.{Batch}
use Rattle.payroll_run.specs.declared.running.Running.{Running}
use Rattle.payroll_run.specs.State.{new_batch, moved, returned, counted}
use Rattle.payroll_run.specs.Behind.{behind_segment, behind_detail_as, behind}
use Rattle.payroll_kept.specs.Fields.{DigitsAt}
use Rattle.payroll_kept.specs.Kept.{amount_at}

-- the open batch and the run, cut at the top
abbrev cap_batch : Batch → Batch
cap_batch b = record { records = min b.records top; details = min b.details top; sum = min b.sum top }

abbrev pub cap : Running → Running
cap st =
    moved st.stage (min st.records top) (min st.batches top) (min st.payments top) (min st.amount top) (cap_batch st.batch) st

-- a sum that stays at the top is the whole sum, cut there
pub cap_more : (a b : ℕ) → capped (min a top) b ≡ min (a + b) top
cap_more a b = omega arith

-- behind a detail, or several: so many records and payments more, of an amount
abbrev pub after : Running → Stage → ℕ → ℕ → ℕ → Running
after st stage records payments amount =
    moved stage (st.records + records) st.batches (st.payments + payments) (st.amount + amount)
    (record { records = st.batch.records + records; details = st.batch.details + records; sum = st.batch.sum + amount }) st

-- behind a header or a trailer of the file, or a batch's trailer
abbrev closed : Running → Stage → Running
closed st stage =
    moved stage (st.records + 1) st.batches st.payments st.amount
    (record { records = st.batch.records + 1; details = st.batch.details; sum = st.batch.sum }) st

-- behind a record of each kind
abbrev pub behind_plain : Kind → Running → List ℕ → Running
behind_plain FileHeader st r = returned (is_return r) (closed st BetweenBatches)
behind_plain BatchHeader st r = moved InBatch (st.records + 1) (st.batches + 1) st.payments st.amount new_batch st
behind_plain SegmentA st r = after st BehindA 1 1 (amount_at r)
behind_plain SegmentB st r = after st BehindB 1 0 0
behind_plain SegmentZ st r = after st InBatch 1 0 0
behind_plain BatchTrailer st r = closed st BetweenBatches
behind_plain FileTrailer st r = closed st Ended

-- an amount of digits
amount_is : (r : List ℕ) → DigitsAt 120 134 r → amount_of r ≡ amount_at r
amount_is r d = ap plain_number (read amount r (amount_at r) (lit≤ tt) (record { digits = d; value = refl }))

-- what an A has besides: digits for its amount
abbrev pub Amounts : Kind → List ℕ → Type 0
Amounts FileHeader r = Unit {0}
Amounts BatchHeader r = Unit {0}
Amounts SegmentA r = DigitsAt 120 134 r
Amounts SegmentB r = Unit {0}
Amounts SegmentZ r = Unit {0}
Amounts BatchTrailer r = Unit {0}
Amounts FileTrailer r = Unit {0}

module _ (st : Running) where
  detail_is : (stage : Stage) (payments amount paid : ℕ) → amount ≡ paid →
      behind_segment (cap st) stage payments amount ≡ cap (after st stage 1 payments paid)
  detail_is stage payments amount paid e =
      let n = cap_more st.records 1 in
      let p = cap_more st.payments payments in
      let a = ap (capped (min st.amount top)) e ∙ cap_more st.amount paid in
      let b = cap_more st.batch.records 1 in
      let d = cap_more st.batch.details 1 in
      let s = ap (capped (min st.batch.sum top)) e ∙ cap_more st.batch.sum paid in
      λ i. moved stage (n i) (min st.batches top) (p i) (a i) (record { records = b i; details = d i; sum = s i }) (cap st)

  closed_is : (stage : Stage) → counted stage (cap st) ≡ cap (closed st stage)
  closed_is stage =
      let n = cap_more st.records 1 in
      let b = cap_more st.batch.records 1 in
      let same = cap st in
      λ i.
      moved stage (n i) same.batches same.payments same.amount
      (record { records = b i; details = same.batch.details; sum = same.batch.sum }) same

  -- the run behind a record is the one as whole numbers, cut at the top
  pub behind_is : (kind : Kind) (r : List ℕ) → Amounts kind r → behind (cap st) (read_as kind r) ≡ cap (behind_plain kind st r)
  unfolding behind read_as behind_detail_as
  behind_is FileHeader r d = ap (returned (is_return r)) (closed_is BetweenBatches)
  behind_is BatchHeader r d =
      let n = cap_more st.records 1 in
      let b = cap_more st.batches 1 in
      let same = cap st in
      λ i. moved InBatch (n i) (b i) same.payments same.amount new_batch same
  behind_is SegmentA r d = detail_is BehindA 1 (amount_of r) (amount_at r) (amount_is r d)
  behind_is SegmentB r d = detail_is BehindB 0 0 0 refl
  behind_is SegmentZ r d = detail_is InBatch 0 0 0 refl
  behind_is BatchTrailer r d = closed_is BetweenBatches
  behind_is FileTrailer r d = closed_is Ended
