-- A record that keeps the rules holds no LF, since its bytes are 32 to 126: so the file is cut into its records, and one byte 1A is left.
use Prim.Native.Nat.{ℕ, ◌+◌}
use mathlib.Core.Path.{◌≡◌, refl, ◌∙◌}
use mathlib.Core.List.{List, [], ◌∷◌, ◌++◌, map, append-nil}
use mathlib.Core.Option.{Option, none, some}
use mathlib.Core.Bool.{true, ◌&&◌}
use native.Mathlib.Omega.{arith}
use lib.ListN.{length}
use lib.Dec.{leb}
use borrow.Author.Tests.{ne_eqb, leb-true}
use Rattle.text.specs.declared.alphabet.Alphabet.TheVariants.{PlainAscii}
use Rattle.text.specs.Alphabet.{allowed, holds_only}
use Rattle.text.proofs.Alphabets.{both, both_left, both_right}
use Rattle.lines.specs.Lines.{lf, in_front, cut, joined, no_lf, all_no_lf, with_cr}
use Rattle.lines.proofs.Cuts.{row_clear, cut_joined_then}
use Rattle.payroll_kept.specs.Kept.{
  Payment,
  Batch,
  File,
  if_there,
  payment_records,
  details,
  batch_records,
  batches_records,
  records_of,
  IfThere,
  PaymentKept,
  PaymentsKept,
  BatchKept,
  BatchesKept,
  FileKept,
}

-- 10 is below 32
plain_line : (r : List ℕ) → holds_only PlainAscii r ≡ true → no_lf r ≡ true
unfolding holds_only allowed no_lf
plain_line [] e = refl
plain_line (b ∷ r) e =
    let here = both_left (leb 32 b && leb b 126) (holds_only PlainAscii r) e in
    let low = leb-true 32 b (both_left (leb 32 b) (leb b 126) here) in
    let other : b ≡ lf → ⊥ = λ q. omega arith in
    rw (ne_eqb b lf other) (plain_line r (both_right (leb 32 b && leb b 126) (holds_only PlainAscii r) e))

-- one record, and one that may be there
one_clear : (r : List ℕ) → holds_only PlainAscii r ≡ true → all_no_lf (r ∷ []) ≡ true
unfolding all_no_lf
one_clear r e = both (plain_line r e) refl

if_clear : {Keeps : List ℕ → Type 0} (o : Option (List ℕ)) → ((r : List ℕ) → Keeps r → holds_only PlainAscii r ≡ true) → IfThere Keeps o →
    all_no_lf (if_there o) ≡ true
unfolding all_no_lf
if_clear none plain k = refl
if_clear (some r) plain k = one_clear r (plain r k)

module _ (header : List ℕ) where
  payment_clear : (batch number : ℕ) (p : Payment) → PaymentKept header batch number p → all_no_lf (payment_records p) ≡ true
  unfolding all_no_lf
  payment_clear batch number p k =
      row_clear (p.a ∷ []) (if_there p.b ++ if_there p.z) (one_clear p.a k.a.detail.kind.plain)
      (row_clear (if_there p.b) (if_there p.z) (if_clear p.b (λ r k. k.kind.plain) k.b) (if_clear p.z (λ r k. k.detail.kind.plain) k.z))

  payments_clear : (batch number : ℕ) (ps : List Payment) → PaymentsKept header batch number ps → all_no_lf (details ps) ≡ true
  unfolding all_no_lf details PaymentsKept
  payments_clear batch number [] k = refl
  payments_clear batch number (p ∷ ps) (k, ks) =
      row_clear (payment_records p) (details ps) (payment_clear batch number p k) (payments_clear batch (number + length (payment_records p)) ps ks)

  batch_clear : (batch : ℕ) (b : Batch) → BatchKept header batch b → all_no_lf (batch_records b) ≡ true
  unfolding all_no_lf
  batch_clear batch b k =
      row_clear (b.header ∷ []) (details b.payments ++ (b.trailer ∷ [])) (one_clear b.header k.opens.kind.plain)
      (row_clear (details b.payments) (b.trailer ∷ []) (payments_clear batch 1 b.payments k.payments) (one_clear b.trailer k.closes.kind.plain))

  batches_clear : (batch : ℕ) (bs : List Batch) → BatchesKept header batch bs → all_no_lf (batches_records bs) ≡ true
  unfolding all_no_lf batches_records BatchesKept
  batches_clear batch [] k = refl
  batches_clear batch (b ∷ bs) (k, ks) = row_clear (batch_records b) (batches_records bs) (batch_clear batch b k) (batches_clear (batch + 1) bs ks)

file_clear : (f : File) → FileKept f → all_no_lf (records_of f) ≡ true
unfolding all_no_lf
file_clear f k =
    row_clear (f.header ∷ []) (batches_records f.batches ++ (f.trailer ∷ [])) (one_clear f.header k.header.kind.plain)
    (row_clear (batches_records f.batches) (f.trailer ∷ []) (batches_clear f.header 1 f.batches k.batches)
    (one_clear f.trailer k.trailer.kind.plain))

-- so the file is cut into its records, each with its CR, and the byte 1A
pub file_cut : (f : File) → FileKept f → cut (joined (records_of f) ++ (26 ∷ [])) ≡ record { pieces = map with_cr (records_of f); rest = 26 ∷ [] }
unfolding cut in_front
file_cut f k = cut_joined_then (records_of f) (26 ∷ []) (file_clear f k) ∙ rw append-nil
