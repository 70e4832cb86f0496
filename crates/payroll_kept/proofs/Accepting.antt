-- A file that keeps the rules is accepted, with the plain numbers: the header opens the run, its batches lead it on, and the file trailer ends it.
use Prim.Native.Nat.{ℕ, ◌+◌, ◌^◌, ◌≤◌, ◌<◌, min}
use mathlib.Core.Path.{◌≡◌, refl, sym, ◌∙◌, ap, subst}
use mathlib.Core.List.{List, [], ◌∷◌, ◌++◌}
use native.Mathlib.Omega.{arith}
use lib.ListN.{length, length-append}
use lib.Dec.{lit≤}
use Rattle.std.specs.Prelude.{Ok}
use Rattle.text.specs.Literal.{same_bytes}
use Rattle.totals.specs.Sum.{top}
use Rattle.payroll_record.specs.declared.kind.Kind.TheVariants.{FileHeader, BatchHeader, BatchTrailer, FileTrailer}
use Rattle.payroll_record.specs.FileHeader.{is_return}
use Rattle.payroll_run.specs.declared.stage.Stage.TheVariants.{BetweenBatches, Ended}
use Rattle.payroll_run.specs.declared.running.Batch.{Batch as Open}
use Rattle.payroll_run.specs.declared.running.Running.{Running}
use Rattle.payroll_file.specs.declared.answer.Accepted.{Accepted}
use Rattle.payroll_run.specs.Stage.{placed}
use Rattle.payroll_run.specs.State.{opened, moved, returned}
use Rattle.payroll_file.specs.PayrollFile.{ended_of, end_at, end_of, ran_of, check_of}
use Rattle.payroll_kept.specs.Records.{BatchTrailerKept, FileTrailerKept}
use Rattle.payroll_kept.specs.Kept.{Payment, Batch, File, payment_records, details, batch_records, batches_records, records_of, batches_payments, payments_of, amount_of, BatchKept, BatchesKept, FileKept, Kept}
use Rattle.payroll_kept.proofs.Rules.{holds_below}
use Rattle.payroll_kept.proofs.Plain.{cap, after, behind_plain}
use Rattle.payroll_kept.proofs.Steps.{took_record, step}
use Rattle.payroll_kept.proofs.Payments.{took_records, took_row, lines_are, trailer_too, payments_taken}
use Rattle.payroll_kept.proofs.OneLine.{file_cut}

-- the amounts of payments in a row
pub amount_row : (ps qs : List Payment) → amount_of (ps ++ qs) ≡ amount_of ps + amount_of qs
unfolding amount_of
amount_row [] qs = omega arith
amount_row (p ∷ ps) qs = omega (arith, amount_row ps qs)

-- behind batches: so many records, batches and payments more, of an amount
abbrev pub done : Running → Open → ℕ → ℕ → ℕ → ℕ → Running
done st left records batches payments amount =
    moved BetweenBatches (st.records + records) (st.batches + batches) (st.payments + payments) (st.amount + amount) left st

none_more : (n : ℕ) → n ≡ 0 + n
none_more n = omega arith

-- trailers' numbers, written in another way
pub batch_trailer_at : {b c d s t : ℕ} {r : List ℕ} → c ≡ d → s ≡ t → BatchTrailerKept b c s r → BatchTrailerKept b d t r
batch_trailer_at {b = b} {d = d} {s = s} {r = r} p q k = subst (λ n. BatchTrailerKept b d n r) q (subst (λ n. BatchTrailerKept b n s r) p k)

pub file_trailer_at : {b c m n : ℕ} {r : List ℕ} → b ≡ c → m ≡ n → FileTrailerKept b m r → FileTrailerKept c n r
file_trailer_at {c = c} {m = m} {r = r} p q k = subst (λ n. FileTrailerKept c n r) q (subst (λ n. FileTrailerKept n m r) p k)

module _ (header : List ℕ) where
  -- a batch; what is left of it in the state does not matter
  record BatchTaken (st : Running) (b : Batch) : Type 0 where
    left : Open
    is : took_records (cap st) (batch_records b) ≡ cap (done st left (length (batch_records b)) 1 (length b.payments) (amount_of b.payments))

  batch_taken : (b : Batch) (st : Running) → st.is_return ≡ is_return header → st.stage ≡ BetweenBatches → BatchKept header (st.batches + 1) b → BatchTaken st b
  unfolding took_records
  batch_taken b st q s k =
      let begun = behind_plain BatchHeader st b.header in
      let first = step BatchHeader st b.header (record { place = ap (λ s. placed s st.is_return BatchHeader) s; kept = k.opens }) in
      let paid = payments_taken header b.payments begun q refl k.payments in
      let d = length (details b.payments) in
      let full = after begun paid.stage d (length b.payments) (amount_of b.payments) in
      let long : length (batch_records b) ≡ 1 + d + 1 = omega (arith, length-append (details b.payments) (b.trailer ∷ [])) in
      let trailer = batch_trailer_at long (none_more (amount_of b.payments)) k.closes in
      let last = step BatchTrailer full b.trailer (record { place = trailer_too paid.stage st.is_return paid.inside; kept = trailer }) in
      let n : st.records + 1 + d + 1 ≡ st.records + length (batch_records b) = omega arith in
      let end = behind_plain BatchTrailer full b.trailer in
      let same : end ≡ done st end.batch (length (batch_records b)) 1 (length b.payments) (amount_of b.payments) =
      λ i. moved BetweenBatches (n i) (st.batches + 1) (st.payments + length b.payments) (st.amount + amount_of b.payments) end.batch st in
      record {
        left = end.batch;
        is =
            ap (λ s. took_records s (details b.payments ++ (b.trailer ∷ []))) first ∙ took_row (cap begun) (details b.payments) (b.trailer ∷ []) ∙
            ap (λ s. took_record s b.trailer) paid.is ∙ last ∙ ap cap same;
      }

  -- batches
  record BatchesTaken (st : Running) (bs : List Batch) : Type 0 where
    left : Open
    is : took_records (cap st) (batches_records bs) ≡
        cap (done st left (length (batches_records bs)) (length bs) (length (batches_payments bs)) (amount_of (batches_payments bs)))

  batches_taken : (bs : List Batch) (st : Running) → st.is_return ≡ is_return header → st.stage ≡ BetweenBatches → BatchesKept header (st.batches + 1) bs →
      BatchesTaken st bs
  unfolding took_records batches_records batches_payments amount_of BatchesKept
  batches_taken [] st q s k =
      let n : st.records ≡ st.records + 0 = omega arith in
      let b : st.batches ≡ st.batches + 0 = omega arith in
      let p : st.payments ≡ st.payments + 0 = omega arith in
      let m : st.amount ≡ st.amount + 0 = omega arith in
      let same : st ≡ done st st.batch 0 0 0 0 =
      λ i. moved (s i) (n i) (b i) (p i) (m i) st.batch st in
      record { left = st.batch; is = ap cap same }
  batches_taken (b ∷ bs) st q s (k, ks) =
      let first = batch_taken b st q s k in
      let l = length (batch_records b) in
      let next = done st first.left l 1 (length b.payments) (amount_of b.payments) in
      let rest = batches_taken bs next q refl ks in
      let row = length-append (batch_records b) (batches_records bs) in
      let paid = length-append b.payments (batches_payments bs) in
      let sum = amount_row b.payments (batches_payments bs) in
      let n : st.records + l + length (batches_records bs) ≡ st.records + length (batch_records b ++ batches_records bs) = omega arith in
      let c : st.batches + 1 + length bs ≡ st.batches + length (b ∷ bs) = omega arith in
      let p : st.payments + length b.payments + length (batches_payments bs) ≡ st.payments + length (b.payments ++ batches_payments bs) = omega arith in
      let m : st.amount + amount_of b.payments + amount_of (batches_payments bs) ≡ st.amount + amount_of (b.payments ++ batches_payments bs) = omega arith in
      let same : done next rest.left (length (batches_records bs)) (length bs) (length (batches_payments bs)) (amount_of (batches_payments bs)) ≡
      done st rest.left (length (batch_records b ++ batches_records bs)) (length (b ∷ bs)) (length (b.payments ++ batches_payments bs))
      (amount_of (b.payments ++ batches_payments bs)) =
      λ i. moved BetweenBatches (n i) (c i) (p i) (m i) rest.left st in
      record {
        left = rest.left;
        is =
            took_row (cap st) (batch_records b) (batches_records bs) ∙ ap (λ s. took_records s (batches_records bs)) first.is ∙ rest.is ∙ ap cap same;
      }

-- the state that the records of a file lead to
abbrev ended : File → Open → Running
ended f left =
    returned (is_return f.header) (moved Ended (length (records_of f)) (length f.batches) (length (payments_of f)) (amount_of (payments_of f)) left opened)

record FileTaken (f : File) : Type 0 where
  left : Open
  is : took_records opened (records_of f) ≡ cap (ended f left)

file_taken : (f : File) → FileKept f → FileTaken f
unfolding took_records
file_taken f k =
    let begun = behind_plain FileHeader opened f.header in
    let first = step FileHeader opened f.header (record { place = refl; kept = k.header }) in
    let batches = batches_taken f.header f.batches begun refl refl k.batches in
    let l = length (batches_records f.batches) in
    let full = done begun batches.left l (length f.batches) (length (payments_of f)) (amount_of (payments_of f)) in
    let long : length (records_of f) ≡ 0 + 1 + l + 1 = omega (arith, length-append (batches_records f.batches) (f.trailer ∷ [])) in
    let trailer = file_trailer_at (none_more (length f.batches)) long k.trailer in
    let last = step FileTrailer full f.trailer (record { place = refl; kept = (trailer, subst (λ n. n < 10 ^ 19) (none_more (amount_of (payments_of f))) k.amount) }) in
    let end = behind_plain FileTrailer full f.trailer in
    let same : end ≡ ended f end.batch =
    λ i.
    returned (is_return f.header)
    (moved Ended (sym long i) (sym (none_more (length f.batches)) i) (sym (none_more (length (payments_of f))) i)
    (sym (none_more (amount_of (payments_of f))) i) end.batch opened) in
    record {
      left = end.batch;
      is =
          ap (λ s. took_records s (batches_records f.batches ++ (f.trailer ∷ []))) first ∙ took_row (cap begun) (batches_records f.batches) (f.trailer ∷ []) ∙
          ap (λ s. took_record s f.trailer) batches.is ∙ last ∙ ap cap same;
    }

-- the numbers of an answer
abbrev pub plain_numbers : File → Accepted
plain_numbers f =
    record { records = length (records_of f); batches = length f.batches; payments = length (payments_of f); amount = amount_of (payments_of f) }

-- there are at least as many records as payments
payments_few : (ps : List Payment) → length ps ≤ length (details ps)
unfolding details
payments_few [] = omega arith
payments_few (p ∷ ps) = omega (arith, payments_few ps, length-append (payment_records p) (details ps))

batches_few : (bs : List Batch) → length (batches_payments bs) ≤ length (batches_records bs)
unfolding batches_records batches_payments
batches_few [] = omega arith
batches_few (b ∷ bs) =
    omega (
      arith,
      batches_few bs,
      payments_few b.payments,
      length-append b.payments (batches_payments bs),
      length-append (batch_records b) (batches_records bs),
      length-append (details b.payments) (b.trailer ∷ []),
    )

-- a file that keeps the rules is accepted with its numbers: the trailer's fields have six digits, so none is cut at the top
pub kept_accepted : (bytes : List ℕ) (k : Kept bytes) → check_of bytes ≡ Ok (plain_numbers k.file)
unfolding end_at ended_of same_bytes
kept_accepted bytes k =
    let f = k.file in
    let t = file_taken f k.keeps in
    let n = holds_below 24 29 (length (records_of f)) f.trailer (lit≤ tt) k.keeps.trailer.counts_records in
    let b = holds_below 18 23 (length f.batches) f.trailer (lit≤ tt) k.keeps.trailer.counts_batches in
    let few = batches_few f.batches in
    let long = length-append (batches_records f.batches) (f.trailer ∷ []) in
    let e : min (length (records_of f)) top ≡ length (records_of f) = omega arith in
    let g : min (length f.batches) top ≡ length f.batches = omega arith in
    let h : min (length (payments_of f)) top ≡ length (payments_of f) = omega arith in
    let m : min (amount_of (payments_of f)) top ≡ amount_of (payments_of f) = omega (arith, k.keeps.amount) in
    ap check_of k.is ∙ ap (ran_of opened) (file_cut f k.keeps) ∙
    ap (λ st. end_of st (26 ∷ [])) (lines_are opened (records_of f) ∙ t.is) ∙
    (λ i. Ok (record { records = e i; batches = g i; payments = h i; amount = m i }))
