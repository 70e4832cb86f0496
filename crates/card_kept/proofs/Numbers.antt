-- The numbers of a file that keeps the rules: they are small, since those of the run over it are; they agree, since each sale does; and both sets together are the
-- totals of all its sales, since each is in one of them.
use Prim.Native.Nat.{ℕ, ◌+◌, ◌^◌, ◌<◌}
use mathlib.Core.Path.{◌≡◌, refl, sym, ap, subst}
use mathlib.Core.Logic.{◌⊎◌, inl, inr}
use mathlib.Core.List.{List, [], ◌∷◌, ◌++◌}
use mathlib.Core.Bool.{Bool, true, false, cond}
use native.Mathlib.Omega.{arith}
use borrow.Author.Tests.{eq-eqb, ne_eqb}
use Rattle.totals.proofs.Totals.{gross, discount, net, figure_of}
use Rattle.card_kept.specs.Fields.{number_at}
use Rattle.card_kept.specs.Records.{CvKept, NoInstalment, Instalment}
use Rattle.card_kept.specs.Sale.{payable_gross, payable_discount, payable_net}
use Rattle.card_kept.specs.Kept.{
  Transaction,
  sale,
  adjustment,
  Batch,
  sum_over,
  is_sale,
  is_forecast,
  is_settled,
  picked,
  TransactionKept,
  BatchesKept,
  Kept,
  batches_transactions,
  sales_of,
  forecasts_of,
  settled_of,
}
use Rattle.card_kept.specs.Numbers.{plain_totals, TotalsOf, Numbers}
use Rattle.card_kept.proofs.PlainTotals.{sold_row, Within, part_within}
use Rattle.card_kept.proofs.Transactions.{picked_row, of_batches}
use Rattle.card_kept.proofs.TwoSets.{Parted, parted_none, parted_row, parted_one}
use Rattle.card_kept.proofs.Accepting.{plain_numbers, file_taken}

-- what is payable of a sale agrees
payable_agrees : (e n : ℕ) (r : List ℕ) → CvKept e n r → payable_gross r ≡ payable_discount r + payable_net r
payable_agrees e n r k = by k.paid
  where
    by : NoInstalment r ⊎ Instalment r → payable_gross r ≡ payable_discount r + payable_net r
    by (inl p) = rw (eq-eqb _ _ p.no_instalment, eq-eqb _ _ p.no_instalments) k.sale_agrees
    by (inr p) =
        let some : number_at 107 108 r ≡ 0 → ⊥ = λ e. omega (arith, p.from_one) in
        rw (ne_eqb _ _ some) p.agrees

-- so do the sums over the sales that a test picks, if it picks no adjustment
abbrev Agree : List (List ℕ) → Type 0
Agree rs = sum_over payable_gross rs ≡ sum_over payable_discount rs + sum_over payable_net rs

module _ (e : ℕ) (test : Transaction → Bool) (no_adjustment_lem : (r : List ℕ) → test (adjustment r) ≡ false) where
  one_agrees : (n : ℕ) (t : Transaction) → TransactionKept e n t → Agree (picked test (t ∷ []))
  unfolding picked sum_over
  one_agrees n (sale r) k = by (test (sale r))
    where
      by : (here : Bool) → Agree (cond here (r ∷ []) [])
      by true = omega (arith, payable_agrees e n r k)
      by false = refl
  one_agrees n (adjustment r) k = rw (no_adjustment_lem r)

  row_agrees : (ts us : List Transaction) → Agree (picked test ts) → Agree (picked test us) → Agree (picked test (ts ++ us))
  row_agrees ts us h k =
      let both = sold_row (picked test ts) (picked test us) in
      subst Agree (sym (picked_row test ts us))
      (omega (arith, ap (λ t. t.amounts.gross) both, ap (λ t. t.amounts.discount) both, ap (λ t. t.amounts.net) both))

  sales_agree : (n : ℕ) (bs : List Batch) → BatchesKept e n bs → Agree (picked test (batches_transactions bs))
  unfolding picked sum_over
  sales_agree = of_batches e (λ ts. Agree (picked test ts)) refl one_agrees row_agrees

-- what the totals of sales say of them
of_sales : {n : ℕ} (rs : List (List ℕ)) → n < 10 ^ 6 → Within n (plain_totals rs) → Agree rs → TotalsOf rs (plain_totals rs)
unfolding figure_of
of_sales rs l within agree =
    record {
      plain = refl;
      gross_below = omega (arith, within gross);
      discount_below = omega (arith, within discount);
      net_below = omega (arith, within net);
      agree = agree;
    }

-- the numbers of a file
pub plain : (e : ℕ) (bytes : List ℕ) (k : Kept e bytes) → Numbers k.file (plain_numbers k.file)
plain e bytes k =
    let f = k.file in
    let kept = k.keeps.batches in
    let small = (file_taken e f k.edition_current k.keeps).small in
    let parted = of_batches e Parted parted_none (parted_one e) parted_row 2 f.batches kept in
    let each = part_within _ (plain_totals (forecasts_of f)) (plain_totals (settled_of f)) small.totals in
    record {
      date = refl;
      movement = refl;
      records = refl;
      batches = refl;
      forecast = of_sales (forecasts_of f) small.records each.0 (sales_agree e is_forecast (λ r. refl) 2 f.batches kept);
      settled = of_sales (settled_of f) small.records each.1 (sales_agree e is_settled (λ r. refl) 2 f.batches kept);
      both =
          subst (TotalsOf (sales_of f)) (sym parted)
          (of_sales (sales_of f) small.records (subst (Within _) parted small.totals) (sales_agree e is_sale (λ r. refl) 2 f.batches kept));
      credits = refl;
      credit_net = refl;
      debits = refl;
      debit_net = refl;
      records_below = omega (arith, small.records);
      credits_below = omega (arith, small.records, small.credits.count);
      credit_net_below = omega (arith, small.records, small.credits.net);
      debits_below = omega (arith, small.records, small.debits.count);
      debit_net_below = omega (arith, small.records, small.debits.net);
      added_below = omega (arith, small.records, small.added, ap (λ t. t.amounts.gross) parted);
      taken_below = omega (arith, small.records, small.debits.net);
    }
