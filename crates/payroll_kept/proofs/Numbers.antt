-- The numbers of a file that keeps the rules: what its trailers hold, and how large they are.
use Prim.Native.Nat.{ℕ, ◌+◌, ◌≤◌}
use mathlib.Core.Path.{refl}
use mathlib.Core.List.{List, [], ◌∷◌}
use native.Mathlib.Omega.{arith}
use lib.ListN.{length}
use lib.Dec.{lit≤}
use Rattle.payroll_kept.specs.Kept.{Batch, records_of, BatchesKept, Kept}
use Rattle.payroll_kept.specs.Numbers.{TrailersSum, Numbers}
use Rattle.payroll_kept.proofs.Rules.{holds_below}
use Rattle.payroll_kept.proofs.Accepting.{plain_numbers}

-- each batch trailer holds its batch's sum
trailers_sum : (header : List ℕ) (n : ℕ) (bs : List Batch) → BatchesKept header n bs → TrailersSum bs
unfolding BatchesKept TrailersSum
trailers_sum header n [] k = tt
trailers_sum header n (b ∷ bs) (k, ks) = (k.closes.sums.number, trailers_sum header (n + 1) bs ks)

-- a batch number is at most 9998, so there are no more batches
batches_at_most : (header : List ℕ) (n : ℕ) (bs : List Batch) → n ≤ 9999 → BatchesKept header n bs → n + length bs ≤ 9999
unfolding BatchesKept
batches_at_most header n [] h k = omega arith
batches_at_most header n (b ∷ bs) h (k, ks) = omega (arith, batches_at_most header (n + 1) bs (omega (arith, k.opens.at_most)) ks)

pub plain : (bytes : List ℕ) (k : Kept bytes) → Numbers k.file (plain_numbers k.file)
plain bytes k =
    let f = k.file in
    let few = batches_at_most f.header 1 f.batches (lit≤ tt) k.keeps.batches in
    record {
      records = refl;
      batches = refl;
      payments = refl;
      amount = refl;
      trailers_sum = trailers_sum f.header 1 f.batches k.keeps.batches;
      records_below = holds_below 24 29 (length (records_of f)) f.trailer (lit≤ tt) k.keeps.trailer.counts_records;
      batches_at_most = omega arith;
      amount_below = k.keeps.amount;
    }
