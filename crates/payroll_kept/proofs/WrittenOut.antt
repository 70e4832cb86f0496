-- The state that records lead to, written out from them as whole numbers: one record more makes of it what the record makes of the run, kind by kind.
use Prim.Native.Nat.{ℕ, ◌+◌}
use mathlib.Core.Path.{◌≡◌, refl, sym, ◌∙◌, ap}
use mathlib.Core.List.{List, [], ◌∷◌, ◌++◌, foldl-append, append-nil}
use mathlib.Core.Bool.{Bool, true, false, cond, false≢true}
use native.Mathlib.Omega.{arith}
use lib.ListN.{length, length-append}
use Rattle.std.specs.Prelude.{Ok}
use Rattle.payroll_record.specs.declared.kind.Kind.{Kind}
use Rattle.payroll_record.specs.declared.kind.Kind.TheVariants.{FileHeader, BatchHeader, SegmentA, SegmentB, SegmentZ, BatchTrailer, FileTrailer}
use Rattle.payroll_record.specs.Kind.{kind_of, KindFound}
use Rattle.payroll_run.specs.declared.stage.Stage.{Stage}
use Rattle.payroll_run.specs.declared.stage.Stage.TheVariants.{Start, BetweenBatches, InBatch, BehindA, BehindB, Ended, Refused}
use Rattle.payroll_run.specs.declared.running.Batch.{Batch}
use Rattle.payroll_run.specs.declared.running.Running.{Running}
use Rattle.payroll_run.specs.Stage.{placed}
use Rattle.payroll_run.specs.State.{moved}
use Rattle.payroll_kept.specs.Kept.{amount_at}
use Rattle.payroll_kept.specs.State.{stage_behind, stage_after, opens_return, opens_batch, is_detail, is_payment, those, from_header, amounts_of, amount_in}
use Rattle.payroll_kept.proofs.Plain.{after, behind_plain}
use Rattle.payroll_kept.proofs.Known.{clash}

-- the state written out from records, as whole numbers
abbrev batch_of : List (List ℕ) → Batch
batch_of rs = record { records = length rs; details = length (those is_detail rs); sum = amount_in rs }

abbrev pub plain_of : List (List ℕ) → Running
plain_of rs =
    record {
      stage = stage_after rs;
      is_return = opens_return rs;
      records = length rs;
      batches = length (those opens_batch rs);
      payments = length (those is_payment rs);
      amount = amount_in rs;
      batch = batch_of (from_header rs);
    }

-- one record more, among those that pass a test
in_front_lem : (t : Bool) (x : List ℕ) (a b : List (List ℕ)) → cond t (x ∷ (a ++ b)) (a ++ b) ≡ cond t (x ∷ a) a ++ b
in_front_lem true x a b = refl
in_front_lem false x a b = refl

those_more : (test : KindFound → Bool) (rs : List (List ℕ)) (r : List ℕ) → those test (rs ++ (r ∷ [])) ≡ those test rs ++ cond (test (kind_of r)) (r ∷ []) []
unfolding those
those_more test [] r = refl
those_more test (x ∷ rs) r =
    ap (λ l. cond (test (kind_of x)) (x ∷ l) l) (those_more test rs r) ∙
    in_front_lem (test (kind_of x)) x (those test rs) (cond (test (kind_of r)) (r ∷ []) [])

-- it is counted, and an amount more is summed
amount_more : (rs : List (List ℕ)) (r : List ℕ) → amounts_of (rs ++ (r ∷ [])) ≡ amounts_of rs + amount_at r
unfolding amounts_of
amount_more [] r = omega arith
amount_more (x ∷ rs) r = omega (arith, amount_more rs r)

count_if : (t : Bool) (rs : List (List ℕ)) (r : List ℕ) → length (rs ++ cond t (r ∷ []) []) ≡ cond t (length rs + 1) (length rs)
count_if true rs r = length-append rs (r ∷ [])
count_if false rs r = ap length (append-nil rs)

amount_if : (t : Bool) (rs : List (List ℕ)) (r : List ℕ) → amounts_of (rs ++ cond t (r ∷ []) []) ≡ cond t (amounts_of rs + amount_at r) (amounts_of rs)
amount_if true rs r = amount_more rs r
amount_if false rs r = ap amounts_of (append-nil rs)

module _ (r : List ℕ) (found : KindFound) (is : kind_of r ≡ found) where
  counted : (test : KindFound → Bool) (rs : List (List ℕ)) →
      length (those test (rs ++ (r ∷ []))) ≡ cond (test found) (length (those test rs) + 1) (length (those test rs))
  counted test rs = ap length (those_more test rs r) ∙ count_if (test (kind_of r)) (those test rs) r ∙ rw is

  summed : (rs : List (List ℕ)) → amount_in (rs ++ (r ∷ [])) ≡ cond (is_payment found) (amount_in rs + amount_at r) (amount_in rs)
  summed rs = ap amounts_of (those_more is_payment rs r) ∙ amount_if (is_payment (kind_of r)) (those is_payment rs) r ∙ rw is

-- the state behind one record more, of what was found and a return or not
abbrev grown_batch : List (List ℕ) → List ℕ → KindFound → Bool → Batch
grown_batch rs r found true = record { records = 1; details = cond (is_detail found) 1 0; sum = cond (is_payment found) (0 + amount_at r) 0 }
grown_batch rs r found false =
    record {
      records = length rs + 1;
      details = cond (is_detail found) (length (those is_detail rs) + 1) (length (those is_detail rs));
      sum = cond (is_payment found) (amount_in rs + amount_at r) (amount_in rs);
    }

abbrev grown : List (List ℕ) → List ℕ → KindFound → Bool → Running
grown seen r found is_return =
    record {
      stage = stage_behind (stage_after seen) found;
      is_return = is_return;
      records = length seen + 1;
      batches = cond (opens_batch found) (length (those opens_batch seen) + 1) (length (those opens_batch seen));
      payments = cond (is_payment found) (length (those is_payment seen) + 1) (length (those is_payment seen));
      amount = cond (is_payment found) (amount_in seen + amount_at r) (amount_in seen);
      batch = grown_batch (from_header seen) r found (opens_batch found);
    }

-- a detail that pays nothing
unpaid : (st : Running) (stage : Stage) →
    after st stage 1 0 0 ≡
    moved stage (st.records + 1) st.batches st.payments st.amount
    (record { records = st.batch.records + 1; details = st.batch.details + 1; sum = st.batch.sum }) st
unpaid st stage =
    let p : st.payments + 0 ≡ st.payments = omega arith in
    let a : st.amount + 0 ≡ st.amount = omega arith in
    let s : st.batch.sum + 0 ≡ st.batch.sum = omega arith in
    λ i.
    moved stage (st.records + 1) st.batches (p i) (a i)
    (record { records = st.batch.records + 1; details = st.batch.details + 1; sum = s i }) st

module _ (seen : List (List ℕ)) (r : List ℕ) where
  -- that is the state written out from the records and this one
  opened_or_more : (found : KindFound) → kind_of r ≡ found → (t : Bool) →
      batch_of (cond t (r ∷ []) (from_header seen ++ (r ∷ []))) ≡ grown_batch (from_header seen) r found t
  unfolding those amounts_of
  opened_or_more found is true =
      let d : length (those is_detail (r ∷ [])) ≡ cond (is_detail found) 1 0 = counted r found is is_detail [] in
      let s : amount_in (r ∷ []) ≡ cond (is_payment found) (0 + amount_at r) 0 = summed r found is [] in
      λ i. record { records = 1; details = d i; sum = s i }
  opened_or_more found is false =
      let n = length-append (from_header seen) (r ∷ []) in
      let d = counted r found is is_detail (from_header seen) in
      let s = summed r found is (from_header seen) in
      λ i. record { records = n i; details = d i; sum = s i }

  grows : (found : KindFound) → kind_of r ≡ found → plain_of (seen ++ (r ∷ [])) ≡ grown seen r found (opens_return (seen ++ (r ∷ [])))
  grows found is =
      let g = foldl-append (λ stage r. stage_behind stage (kind_of r)) Start seen (r ∷ []) ∙ ap (stage_behind (stage_after seen)) is in
      let n = length-append seen (r ∷ []) in
      let b = counted r found is opens_batch seen in
      let p = counted r found is is_payment seen in
      let a = summed r found is seen in
      let o = ap batch_of (foldl-append (λ rs r. cond (opens_batch (kind_of r)) (r ∷ []) (rs ++ (r ∷ []))) [] seen (r ∷ [])) ∙
      opened_or_more found is (opens_batch (kind_of r)) ∙ ap (λ f. grown_batch (from_header seen) r found (opens_batch f)) is in
      λ i.
      record {
        stage = g i;
        is_return = opens_return (seen ++ (r ∷ []));
        records = n i;
        batches = b i;
        payments = p i;
        amount = a i;
        batch = o i;
      }

  -- and it is what the record makes of the run, kind by kind
  made : (kind : Kind) → behind_plain kind (plain_of seen) r ≡ grown seen r (Ok kind) (behind_plain kind (plain_of seen) r).is_return
  made FileHeader = refl
  made BatchHeader = refl
  made SegmentA = refl
  made SegmentB = unpaid (plain_of seen) BehindB
  made SegmentZ = unpaid (plain_of seen) InBatch
  made BatchTrailer = refl
  made FileTrailer = refl

-- the stage is the start before any record alone
abbrev pub Begun : List (List ℕ) → Type 0
Begun seen = stage_after seen ≡ Start → seen ≡ []

not_start : (kind : Kind) (s : Stage) → stage_behind s (Ok kind) ≡ Start → ⊥
not_start FileHeader s q = clash (cc)
not_start BatchHeader s q = clash (cc)
not_start SegmentA s q = clash (cc)
not_start SegmentB s q = clash (cc)
not_start SegmentZ s q = clash (cc)
not_start BatchTrailer s q = clash (cc)
not_start FileTrailer s q = clash (cc)

pub begun_behind : (seen : List (List ℕ)) (r : List ℕ) (kind : Kind) → kind_of r ≡ Ok kind → Begun (seen ++ (r ∷ []))
begun_behind seen r kind is q = absurd (not_start kind (stage_after seen) (sym (ap (λ st. st.stage) (grows seen r (Ok kind) is)) ∙ q))

-- a file header stands there alone
at_start : (s : Stage) (t : Bool) → placed s t FileHeader ≡ true → s ≡ Start
at_start Start t p = refl
at_start BetweenBatches t p = absurd (false≢true p)
at_start InBatch t p = absurd (false≢true p)
at_start BehindA t p = absurd (false≢true p)
at_start BehindB t p = absurd (false≢true p)
at_start Ended t p = absurd (false≢true p)
at_start (Refused x) t p = absurd (false≢true p)

-- so the file header, which says whether the file is a return, is the first record
says_return : (seen : List (List ℕ)) (r : List ℕ) (kind : Kind) → Begun seen → placed (stage_after seen) (opens_return seen) kind ≡ true →
    (behind_plain kind (plain_of seen) r).is_return ≡ opens_return (seen ++ (r ∷ []))
says_return [] r FileHeader begun p = refl
says_return [] r BatchHeader begun p = absurd (false≢true p)
says_return [] r SegmentA begun p = absurd (false≢true p)
says_return [] r SegmentB begun p = absurd (false≢true p)
says_return [] r SegmentZ begun p = absurd (false≢true p)
says_return [] r BatchTrailer begun p = absurd (false≢true p)
says_return [] r FileTrailer begun p = absurd (false≢true p)
says_return (s ∷ seen) r FileHeader begun p =
    let e : s ∷ seen ≡ [] = begun (at_start (stage_after (s ∷ seen)) (opens_return (s ∷ seen)) p) in
    clash (cc)
says_return (s ∷ seen) r BatchHeader begun p = refl
says_return (s ∷ seen) r SegmentA begun p = refl
says_return (s ∷ seen) r SegmentB begun p = refl
says_return (s ∷ seen) r SegmentZ begun p = refl
says_return (s ∷ seen) r BatchTrailer begun p = refl
says_return (s ∷ seen) r FileTrailer begun p = refl

-- so behind a record that may stand there the run stands at what is written out from it and those before it
pub one_more : (seen : List (List ℕ)) (r : List ℕ) (kind : Kind) → kind_of r ≡ Ok kind → Begun seen → placed (stage_after seen) (opens_return seen) kind ≡ true →
    behind_plain kind (plain_of seen) r ≡ plain_of (seen ++ (r ∷ []))
one_more seen r kind is begun place =
    made seen r kind ∙ ap (grown seen r (Ok kind)) (says_return seen r kind begun place) ∙ sym (grows seen r (Ok kind) is)
