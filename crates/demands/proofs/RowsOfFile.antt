-- The rows of a file that keeps the rules: it is cut into its records, of which those of kind AJ are adjustments, each as wide as its kind and a credit or a debit.
use Prim.Native.Nat.{ℕ, suc, ◌+◌, ◌≤◌}
use Prim.Native.String.{String}
use mathlib.Core.Path.{◌≡◌, refl, sym, ◌∙◌, ap, ap₂, subst}
use mathlib.Core.Logic.{⊎_elim}
use mathlib.Core.List.{List, [], ◌∷◌, ◌++◌, map, append-nil}
use mathlib.Core.Bool.{Bool, true, false, cond}
use native.Mathlib.Omega.{arith}
use lib.ListN.{length, length-append}
use lib.Dec.{leb, eqb}
use borrow.Author.Tests.{eq-eqb, ne_eqb, leb-true}
use Rattle.text.specs.Literal.{ascii, same_bytes}
use Rattle.text.specs.Part.{positions}
use Rattle.totals.specs.Sum.{top, capped}
use Rattle.lines.specs.Lines.{Lines, cr, cut, with_cr}
use Rattle.lines.proofs.Ends.{cr_ends, before_last}
use Rattle.card_kept.specs.Adjustment.{adjustment_type}
use Rattle.card_kept.specs.Kept.{
  Transaction,
  sale,
  adjustment,
  bytes_of,
  Batch,
  File,
  batch_records,
  batches_records,
  records_of,
  is_credit,
  is_debit,
  picked,
  TransactionKept,
  TransactionsKept,
  BatchKept,
  BatchesKept,
  FileKept,
  Kept,
  batches_transactions,
  transactions_of,
}
use Rattle.card_kept.specs.Records.{AjKept}
use Rattle.card_kept.specs.State.{is_a, how_many}
use Rattle.card_kept.proofs.Adjustments.{credit_or_debit}
use Rattle.card_kept.proofs.OneLine.{file_cut}
use Rattle.card_kept.proofs.Transactions.{picked_row}
use Rattle.adjustment_rows.specs.Row.{header, row_of}
use Rattle.adjustment_rows.specs.Rows.{is_adjustment, row_in, rows_of}
use Rattle.adjustment_rows.proofs.Counted.{adjustments_in, as_many_lines}
use Rattle.adjustment_rows.proofs.WithoutCard.{no_card_lem}
use Rattle.adjustment_rows.proofs.Quoted.{no_byte_lost}
use Rattle.demands.specs.RowsOfFile.{plain_rows, RowsOfFile}
use Rattle.demands.proofs.RulesKept.{card_numbers_lem}

-- every record of kind AJ is as wide as its kind, and none is wider than a sale
unfoldable pub Fit : List (List ℕ) → Type 0
Fit [] = Unit {0}
Fit (r ∷ rs) = (is_adjustment r ≡ is_a "AJ" r) × (length r ≤ 199) × Fit rs

-- and the credits and debits among these transactions are those records
record Seen (rs : List (List ℕ)) (ts : List Transaction) : Type 0 where
  fits : Fit rs
  counted : how_many "AJ" rs ≡ length (picked is_credit ts) + length (picked is_debit ts)

-- of none, and of one row behind another
seen_none : Seen [] []
unfolding Fit how_many picked
seen_none = record { fits = tt; counted = refl }

fit_row : (rs ss : List (List ℕ)) → Fit rs → Fit ss → Fit (rs ++ ss)
unfolding Fit
fit_row [] ss f g = g
fit_row (r ∷ rs) ss (e, w, f) g = (e, w, fit_row rs ss f g)

count_row : (rs ss : List (List ℕ)) → how_many "AJ" (rs ++ ss) ≡ how_many "AJ" rs + how_many "AJ" ss
unfolding how_many
count_row [] ss = omega arith
count_row (r ∷ rs) ss = by (is_a "AJ" r) (count_row rs ss)
  where
    by : (b : Bool) → how_many "AJ" (rs ++ ss) ≡ how_many "AJ" rs + how_many "AJ" ss →
        cond b (suc (how_many "AJ" (rs ++ ss))) (how_many "AJ" (rs ++ ss)) ≡ cond b (suc (how_many "AJ" rs)) (how_many "AJ" rs) + how_many "AJ" ss
    by true e = omega arith
    by false e = e

seen_row : {rs ss : List (List ℕ)} {ts us : List Transaction} → Seen rs ts → Seen ss us → Seen (rs ++ ss) (ts ++ us)
seen_row {rs} {ss} {ts} {us} v w =
    let credits = ap length (picked_row is_credit ts us) ∙ length-append (picked is_credit ts) (picked is_credit us) in
    let debits = ap length (picked_row is_debit ts us) ∙ length-append (picked is_debit ts) (picked is_debit us) in
    record { fits = fit_row rs ss v.fits w.fits; counted = omega (arith, count_row rs ss, v.counted, w.counted, credits, debits) }

-- a record of another kind, with no adjustment among the transactions
seen_other : (name : String) (width : ℕ) {r : List ℕ} {ts : List Transaction} → positions 1 2 r ≡ ascii name → length r ≡ width →
    same_bytes (ascii name) (ascii "AJ") ≡ false → leb width 199 ≡ true → picked is_credit ts ≡ [] → picked is_debit ts ≡ [] → Seen (r ∷ []) ts
unfolding Fit how_many
seen_other name width {r} named wide other short credits debits =
    let no : is_a "AJ" r ≡ false = ap (λ p. same_bytes p (ascii "AJ")) named ∙ other in
    record { fits = (rw no, omega (arith, wide, leb-true width 199 short), tt); counted = rw (no, credits, debits) }

-- an adjustment, which is one of the two
seen_adjustment : (edition number : ℕ) (r : List ℕ) → AjKept edition number r → Seen (r ∷ []) (adjustment r ∷ [])
unfolding Fit how_many picked same_bytes
seen_adjustment edition number r k =
    let yes : is_a "AJ" r ≡ true = ap (λ p. same_bytes p (ascii "AJ")) k.kind.named in
    let wide : eqb (length r) 193 ≡ true = eq-eqb (length r) 193 k.kind.wide in
    record {
      fits = (rw (yes, wide), omega (arith, k.kind.wide), tt);
      counted =
          ⊎_elim
          (λ (credit : adjustment_type r ≡ 1). rw (yes, eq-eqb (adjustment_type r) 1 credit, ne_eqb (adjustment_type r) 2 (λ e. omega (arith, credit, e))))
          (λ (debit : adjustment_type r ≡ 2). rw (yes, eq-eqb (adjustment_type r) 2 debit, ne_eqb (adjustment_type r) 1 (λ e. omega (arith, debit, e))))
          (credit_or_debit edition r k.kind.fields);
    }

seen_one : (edition number : ℕ) (t : Transaction) → TransactionKept edition number t → Seen (bytes_of t ∷ []) (t ∷ [])
unfolding picked same_bytes
seen_one edition number (sale r) k = seen_other "CV" 199 k.kind.named k.kind.wide refl refl refl refl
seen_one edition number (adjustment r) k = seen_adjustment edition number r k

-- records between two of other kinds
framed : {rs : List (List ℕ)} {ts : List Transaction} {first last : List ℕ} → Seen (first ∷ []) [] → Seen rs ts → Seen (last ∷ []) [] →
    Seen (first ∷ (rs ++ (last ∷ []))) ts
framed {rs} {ts} {first} {last} v w x = subst (Seen (first ∷ (rs ++ (last ∷ [])))) (append-nil ts) (seen_row v (seen_row w x))

-- all transactions, all batches, and the file
module _ (edition : ℕ) where
  seen_transactions : (number : ℕ) (ts : List Transaction) → TransactionsKept edition number ts → Seen (map bytes_of ts) ts
  unfolding TransactionsKept
  seen_transactions number [] k = seen_none
  seen_transactions number (t ∷ ts) (k, ks) = seen_row (seen_one edition number t k) (seen_transactions (suc number) ts ks)

  seen_batch : (number : ℕ) (b : Batch) → BatchKept edition number b → Seen (batch_records b) b.transactions
  unfolding same_bytes picked
  seen_batch number b k =
      framed (seen_other "L0" 18 k.l0.named k.l0.wide refl refl refl refl) (seen_transactions (suc number) b.transactions k.transactions)
      (seen_other "L9" 28 k.l9.kind.named k.l9.kind.wide refl refl refl refl)

  seen_batches : (number : ℕ) (bs : List Batch) → BatchesKept edition number bs → Seen (batches_records bs) (batches_transactions bs)
  unfolding BatchesKept batches_records batches_transactions
  seen_batches number [] k = seen_none
  seen_batches number (b ∷ bs) (k, ks) = seen_row (seen_batch number b k) (seen_batches (number + length (batch_records b)) bs ks)

  seen_file : (f : File) → FileKept edition f → Seen (records_of f) (transactions_of f)
  unfolding same_bytes picked
  seen_file f k =
      framed (seen_other "A0" 75 k.a0.named k.a0.wide refl refl refl refl) (seen_batches 2 f.batches k.batches) (seen_other "A9" 14 k.a9.kind.named k.a9.kind.wide refl refl refl refl)

-- the rows of records, each with its CR, numbered as far as the numbers go
one_row : (number : ℕ) (r : List ℕ) → is_adjustment r ≡ is_a "AJ" r → row_in number (with_cr r) ≡ cond (is_a "AJ" r) (row_of number r) []
unfolding row_in
one_row number r fits = rw (cr_ends r, before_last r cr, fits)

plain_rows_lem : (number : ℕ) (rs : List (List ℕ)) → Fit rs → number + length rs ≤ top → rows_of number (map with_cr rs) ≡ plain_rows number rs
unfolding Fit rows_of plain_rows
plain_rows_lem number [] f h = refl
plain_rows_lem number (r ∷ rs) (e, w, f) h =
    let next : capped number 1 ≡ suc number = omega arith in
    ap₂ ◌++◌ (one_row number r e) (ap (λ n. rows_of n (map with_cr rs)) next ∙ plain_rows_lem (suc number) rs f (omega arith))

-- how many of them are adjustments
plain_count : (rs : List (List ℕ)) → Fit rs → adjustments_in (map with_cr rs) ≡ how_many "AJ" rs
unfolding Fit adjustments_in how_many
plain_count [] f = refl
plain_count (r ∷ rs) (e, w, f) = rw (cr_ends r, before_last r cr, e, plain_count rs f)

-- a file that keeps the rules, in pieces
pub pieces_are : (edition : ℕ) (file : List ℕ) (kept : Kept edition file) → (cut file).pieces ≡ map with_cr (records_of kept.file)
pieces_are edition file kept = ap (λ (ls : Lines). ls.pieces) (ap cut kept.is ∙ file_cut edition kept.file kept.keeps)

pub fits_file : (edition : ℕ) (file : List ℕ) (kept : Kept edition file) → Fit (records_of kept.file)
fits_file edition file kept = (seen_file edition kept.file kept.keeps).fits

pub rows_of_file : RowsOfFile
rows_of_file =
    record {
      rows = λ edition file kept.
          let f = kept.file in
          let few = card_numbers_lem edition file kept in
          ap (λ ps. header ++ rows_of 1 ps) (pieces_are edition file kept) ∙
          ap (λ rows. header ++ rows) (plain_rows_lem 1 (records_of f) (fits_file edition file kept) (omega (arith, few.records, few.records_below)));
      as_many = λ edition file kept.
          let few = card_numbers_lem edition file kept in
          let seen = seen_file edition kept.file kept.keeps in
          let lines = as_many_lines file in
          let adjustments =
          ap adjustments_in (pieces_are edition file kept) ∙ plain_count (records_of kept.file) seen.fits ∙ seen.counted ∙
          ap₂ ◌+◌ (sym few.credits) (sym few.debits) in
          (lines.count ∙ ap suc adjustments, lines.nothing_behind);
      no_card_lem = no_card_lem;
      no_byte_lost = no_byte_lost;
    }
