-- Transactions as whole numbers: what of them is picked, counted and summed, of one row of them and another. By induction on the first.
use Prim.Native.Nat.{ℕ, suc, ◌+◌, ◌*◌, ◌^◌, ◌≤◌}
use mathlib.Core.Path.{◌≡◌, refl, ◌∙◌, ap}
use mathlib.Core.List.{List, [], ◌∷◌, ◌++◌}
use mathlib.Core.Bool.{Bool, true, false, cond}
use native.Mathlib.Omega.{arith}
use lib.ListN.{length, length-append}
use Rattle.card_run.specs.declared.adjusted.Adjusted.{Adjusted}
use Rattle.card_run.specs.declared.batch.OpenBatch.{OpenBatch}
use Rattle.card_run.specs.Adjusted.{no_adjustment}
use Rattle.card_kept.specs.Adjustment.{adjustment_net}
use Rattle.card_kept.specs.Sale.{payable_gross}
use Rattle.card_kept.specs.Numbers.{plain_adjusted}
use Rattle.card_kept.specs.Kept.{
  batch_records,
  Transaction,
  bytes_of,
  Batch,
  sum_over,
  is_sale,
  is_credit,
  is_debit,
  picked,
  added,
  taken,
  TransactionKept,
  TransactionsKept,
  BatchesKept,
  batches_transactions,
}

-- a sum over two rows, and what is picked of them
sum_row : (amount : List ℕ → ℕ) (rs ss : List (List ℕ)) → sum_over amount (rs ++ ss) ≡ sum_over amount rs + sum_over amount ss
unfolding sum_over
sum_row amount [] ss = omega arith
sum_row amount (r ∷ rs) ss = omega (arith, sum_row amount rs ss)

pub picked_row : (test : Transaction → Bool) (ts us : List Transaction) → picked test (ts ++ us) ≡ picked test ts ++ picked test us
unfolding picked
picked_row test [] us = refl
picked_row test (t ∷ ts) us =
    ap (λ (rs : List (List ℕ)). cond (test t) (bytes_of t ∷ rs) rs) (picked_row test ts us) ∙ by (test t) (picked test ts) (picked test us)
  where
    by : (b : Bool) (rs ss : List (List ℕ)) → cond b (bytes_of t ∷ rs ++ ss) (rs ++ ss) ≡ cond b (bytes_of t ∷ rs) rs ++ ss
    by true rs ss = refl
    by false rs ss = refl

-- no more are picked than there are
pub picked_below : (test : Transaction → Bool) (ts : List Transaction) → length (picked test ts) ≤ length ts
unfolding picked
picked_below test [] = omega arith
picked_below test (t ∷ ts) = by (test t) (picked test ts) (picked_below test ts)
  where
    by : (b : Bool) (rs : List (List ℕ)) → length rs ≤ length ts → length (cond b (bytes_of t ∷ rs) rs) ≤ suc (length ts)
    by true rs h = omega arith
    by false rs h = omega arith

sum_picked : (amount : List ℕ → ℕ) (test : Transaction → Bool) (ts us : List Transaction) →
    sum_over amount (picked test (ts ++ us)) ≡ sum_over amount (picked test ts) + sum_over amount (picked test us)
sum_picked amount test ts us = ap (sum_over amount) (picked_row test ts us) ∙ sum_row amount (picked test ts) (picked test us)

-- what holds of no transaction, of each that keeps the rules, and of a row behind another where it holds of both, holds of all transactions of batches that keep them
module _ (e : ℕ) (P : List Transaction → Type 0) (none : P []) (one : (n : ℕ) (t : Transaction) → TransactionKept e n t → P (t ∷ []))
    (row : (ts us : List Transaction) → P ts → P us → P (ts ++ us)) where
  of_transactions : (n : ℕ) (ts : List Transaction) → TransactionsKept e n ts → P ts
  unfolding TransactionsKept
  of_transactions n [] k = none
  of_transactions n (t ∷ ts) (k, ks) = row (t ∷ []) ts (one n t k) (of_transactions (suc n) ts ks)

  pub of_batches : (n : ℕ) (bs : List Batch) → BatchesKept e n bs → P (batches_transactions bs)
  unfolding BatchesKept batches_transactions
  of_batches n [] k = none
  of_batches n (b ∷ bs) (k, ks) =
      row b.transactions (batches_transactions bs) (of_transactions (suc n) b.transactions k.transactions) (of_batches (n + length (batch_records b)) bs ks)

-- what is added and taken of two rows
pub added_row : (ts us : List Transaction) → added (ts ++ us) ≡ added ts + added us
added_row ts us = omega (arith, sum_picked payable_gross is_sale ts us, sum_picked adjustment_net is_credit ts us)

pub taken_row : (ts us : List Transaction) → taken (ts ++ us) ≡ taken ts + taken us
taken_row ts us = sum_picked adjustment_net is_debit ts us

-- an open batch with these transactions more
abbrev pub with_transactions : OpenBatch → List Transaction → OpenBatch
with_transactions b ts = record { transactions = b.transactions + length ts; added = b.added + added ts; taken = b.taken + taken ts }

pub same_batch : {n n' a a' t t' : ℕ} → n ≡ n' → a ≡ a' → t ≡ t' →
    ◌≡◌ {A = OpenBatch} (record { transactions = n; added = a; taken = t }) (record { transactions = n'; added = a'; taken = t' })
same_batch n a t = λ i. record { transactions = n i; added = a i; taken = t i }

pub batch_row : (b : OpenBatch) (ts us : List Transaction) → with_transactions (with_transactions b ts) us ≡ with_transactions b (ts ++ us)
batch_row b ts us = same_batch (omega (arith, length-append ts us)) (omega (arith, added_row ts us)) (omega (arith, taken_row ts us))

-- adjustments of two rows, counted and summed
abbrev pub plus : Adjusted → Adjusted → Adjusted
plus a b = record { count = a.count + b.count; net = a.net + b.net }

pub same_adjusted : {c c' n n' : ℕ} → c ≡ c' → n ≡ n' → ◌≡◌ {A = Adjusted} (record { count = c; net = n }) (record { count = c'; net = n' })
same_adjusted c n = λ i. record { count = c i; net = n i }

pub plus_none : (a : Adjusted) → plus a no_adjustment ≡ a
plus_none a = same_adjusted (omega arith) (omega arith)

pub picked_adjusted : (test : Transaction → Bool) (ts us : List Transaction) →
    plain_adjusted (picked test (ts ++ us)) ≡ plus (plain_adjusted (picked test ts)) (plain_adjusted (picked test us))
picked_adjusted test ts us =
    let rs = picked test ts in
    let ss = picked test us in
    let both = picked_row test ts us in
    same_adjusted (ap length both ∙ length-append rs ss) (ap (sum_over adjustment_net) both ∙ sum_row adjustment_net rs ss)

pub adjusted_row : (test : Transaction → Bool) (a : Adjusted) (ts us : List Transaction) →
    plus (plus a (plain_adjusted (picked test ts))) (plain_adjusted (picked test us)) ≡ plus a (plain_adjusted (picked test (ts ++ us)))
adjusted_row test a ts us =
    let both = picked_adjusted test ts us in
    same_adjusted (omega (arith, ap (λ b. b.count) both)) (omega (arith, ap (λ b. b.net) both))

-- at most so many, of which each net is at most 10^11
pub record AdjustedWithin (n : ℕ) (a : Adjusted) : Type 0 where
  pub count : a.count ≤ n
  pub net : a.net ≤ 10 ^ 11 * n

pub record BatchWithin (n : ℕ) (b : OpenBatch) : Type 0 where
  pub transactions : b.transactions ≤ n
  pub added : b.added ≤ 10 ^ 11 * n
  pub taken : b.taken ≤ 10 ^ 11 * n

-- one transaction, picked or not
pub one_within : (test : Transaction → Bool) (t : Transaction) → adjustment_net (bytes_of t) ≤ 10 ^ 11 → AdjustedWithin 1 (plain_adjusted (picked test (t ∷ [])))
unfolding picked sum_over
one_within test t below = by (test t)
  where
    by : (b : Bool) → AdjustedWithin 1 (plain_adjusted (cond b (bytes_of t ∷ []) []))
    by true = record { count = omega arith; net = omega arith }
    by false = record { count = omega arith; net = omega arith }

pub none_within : AdjustedWithin 1 no_adjustment
none_within = record { count = omega arith; net = omega arith }

pub adjusted_more : {n : ℕ} {a b : Adjusted} → AdjustedWithin n a → AdjustedWithin 1 b → AdjustedWithin (suc n) (plus a b)
adjusted_more h k = record { count = omega (arith, h.count, k.count); net = omega (arith, h.net, k.net) }

pub adjusted_still : {n : ℕ} {a : Adjusted} → AdjustedWithin n a → AdjustedWithin (suc n) a
adjusted_still h = record { count = omega (arith, h.count); net = omega (arith, h.net) }

pub batch_still : {n : ℕ} {b : OpenBatch} → BatchWithin n b → BatchWithin (suc n) b
batch_still h = record { transactions = omega (arith, h.transactions); added = omega (arith, h.added); taken = omega (arith, h.taken) }
