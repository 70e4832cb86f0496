-- A file has at least as many records as batches, and as transactions that a test picks: each batch gives its own records.
use Prim.Native.Nat.{◌≤◌}
use mathlib.Core.List.{List, [], ◌∷◌, map}
use mathlib.Core.Bool.{Bool}
use native.Mathlib.Omega.{arith}
use lib.ListN.{length, length-append, length-map}
use Rattle.card_kept.specs.Kept.{Transaction, bytes_of, Batch, File, batch_records, batches_records, records_of, picked, batches_transactions, transactions_of}
use Rattle.card_kept.proofs.Transactions.{picked_below}

batches_counted : (bs : List Batch) → length bs ≤ length (batches_records bs)
unfolding batches_records
batches_counted [] = omega arith
batches_counted (b ∷ bs) = omega (arith, batches_counted bs, length-append (batch_records b) (batches_records bs))

transactions_counted : (bs : List Batch) → length (batches_transactions bs) ≤ length (batches_records bs)
unfolding batches_records batches_transactions
transactions_counted [] = omega arith
transactions_counted (b ∷ bs) =
    let ts = b.transactions in
    omega (
      arith,
      transactions_counted bs,
      length-append ts (batches_transactions bs),
      length-append (batch_records b) (batches_records bs),
      length-append (map bytes_of ts) (b.l9 ∷ []),
      length-map ts bytes_of,
    )

pub batches_below : (f : File) → length f.batches ≤ length (records_of f)
batches_below f = omega (arith, batches_counted f.batches, length-append (batches_records f.batches) (f.a9 ∷ []))

pub picked_counted : (test : Transaction → Bool) (f : File) → length (picked test (transactions_of f)) ≤ length (records_of f)
picked_counted test f =
    omega (
      arith,
      picked_below test (transactions_of f),
      transactions_counted f.batches,
      length-append (batches_records f.batches) (f.a9 ∷ []),
    )
