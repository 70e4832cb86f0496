-- The records of a file that keeps the rules hold no LF, so the file is cut into them.
use Prim.Native.Nat.{ℕ, suc, ◌+◌}
use lib.ListN.{length}
use mathlib.Core.Path.{◌≡◌, refl}
use mathlib.Core.List.{List, [], ◌∷◌, map}
use mathlib.Core.Bool.{true}
use Rattle.text.proofs.Alphabets.{both}
use Rattle.lines.specs.Lines.{cut, joined, all_no_lf, with_cr}
use Rattle.lines.proofs.Cuts.{row_clear, cut_joined}
use Rattle.card_kept.specs.Kept.{
  Transaction,
  sale,
  adjustment,
  bytes_of,
  Batch,
  File,
  batch_records,
  batches_records,
  records_of,
  TransactionsKept,
  BatchKept,
  BatchesKept,
  FileKept,
}

module _ (e : ℕ) where
  transactions_clear : (n : ℕ) (ts : List Transaction) → TransactionsKept e n ts → all_no_lf (map bytes_of ts) ≡ true
  unfolding all_no_lf TransactionsKept
  transactions_clear n [] k = refl
  transactions_clear n (sale r ∷ ts) (k, ks) = both k.kind.in_one_line (transactions_clear (suc n) ts ks)
  transactions_clear n (adjustment r ∷ ts) (k, ks) = both k.kind.in_one_line (transactions_clear (suc n) ts ks)

  batch_clear : (n : ℕ) (b : Batch) → BatchKept e n b → all_no_lf (batch_records b) ≡ true
  unfolding all_no_lf
  batch_clear n b k =
      both k.l0.in_one_line
      (row_clear (map bytes_of b.transactions) (b.l9 ∷ []) (transactions_clear (suc n) b.transactions k.transactions) (both k.l9.kind.in_one_line refl))

  batches_clear : (n : ℕ) (bs : List Batch) → BatchesKept e n bs → all_no_lf (batches_records bs) ≡ true
  unfolding all_no_lf BatchesKept batches_records
  batches_clear n [] k = refl
  batches_clear n (b ∷ bs) (k, ks) = row_clear (batch_records b) (batches_records bs) (batch_clear n b k) (batches_clear (n + length (batch_records b)) bs ks)

  file_clear : (f : File) → FileKept e f → all_no_lf (records_of f) ≡ true
  unfolding all_no_lf
  file_clear f k =
      both k.a0.in_one_line
      (row_clear (batches_records f.batches) (f.a9 ∷ []) (batches_clear 2 f.batches k.batches) (both k.a9.kind.in_one_line refl))

  -- so the file is cut into its records, each with its CR
  pub file_cut : (f : File) → FileKept e f → cut (joined (records_of f)) ≡ record { pieces = map with_cr (records_of f); rest = [] }
  file_cut f k = cut_joined (records_of f) (file_clear f k)
