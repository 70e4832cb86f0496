-- The two sets of totals of transactions, as whole numbers. A sale that keeps its fields is in the one set or in the other and never in both, so that both sets together
-- are the totals of all sales, and what bounds those bounds each.
use Prim.Native.Nat.{ℕ, suc, ◌^◌, ◌<◌}
use mathlib.Core.Path.{◌≡◌, refl, sym, ◌∙◌, ap, ap₂, subst}
use mathlib.Core.List.{List, [], ◌∷◌, ◌++◌}
use mathlib.Core.Bool.{Bool, true, false, cond, not}
use Rattle.totals.specs.declared.amounts.Totals.{Totals}
use Rattle.totals.specs.declared.two_sets.TwoSets.{TwoSets}
use Rattle.totals.specs.Amounts.{one_sale, added_totals, plus}
use Rattle.totals.specs.TwoSets.{sets_of, one_sale_more, summed}
use Rattle.card_sale.specs.Cv.{cv_table, cv_of, is_forecast as forecast_cv, payable}
use Rattle.card_kept.specs.Fields.{FieldsKept}
use Rattle.card_kept.specs.Kept.{Transaction, sale, adjustment, sum_over, is_sale, is_forecast, is_settled, picked, TransactionKept}
use Rattle.card_kept.specs.Numbers.{plain_totals}
use Rattle.card_kept.proofs.Sales.{plain_cv_lem, is_settled_lem}
use Rattle.card_kept.proofs.PlainTotals.{
  plus_none,
  none_plus,
  plus_plus,
  plus_crosswise,
  sold,
  sold_alone,
  sold_row,
  Within,
  sold_is,
  sold_within,
  sold_more,
  part_within,
  not_capped,
}
use Rattle.card_kept.proofs.Transactions.{picked_row}

-- with the sales of these transactions more, each in its set
abbrev pub with_sales : TwoSets → List Transaction → TwoSets
with_sales s ts = sets_of (plus s.forecast (plain_totals (picked is_forecast ts))) (plus s.settled (plain_totals (picked is_settled ts)))

pub same_sets : {t t' u u' : Totals} → t ≡ t' → u ≡ u' → sets_of t u ≡ sets_of t' u'
same_sets t u = λ i. sets_of (t i) (u i)

-- none, and one row behind another
pub sets_none : (s : TwoSets) → with_sales s [] ≡ s
unfolding picked sum_over
sets_none s = same_sets (plus_none s.forecast) (plus_none s.settled)

pub picked_totals : (test : Transaction → Bool) (ts us : List Transaction) →
    plain_totals (picked test (ts ++ us)) ≡ plus (plain_totals (picked test ts)) (plain_totals (picked test us))
picked_totals test ts us = ap plain_totals (picked_row test ts us) ∙ sold_row (picked test ts) (picked test us)

set_row : (test : Transaction → Bool) (t : Totals) (ts us : List Transaction) →
    plus (plus t (plain_totals (picked test ts))) (plain_totals (picked test us)) ≡ plus t (plain_totals (picked test (ts ++ us)))
set_row test t ts us = plus_plus t (plain_totals (picked test ts)) (plain_totals (picked test us)) ∙ ap (plus t) (sym (picked_totals test ts us))

pub sets_row_lem : (s : TwoSets) (ts us : List Transaction) → with_sales (with_sales s ts) us ≡ with_sales s (ts ++ us)
sets_row_lem s ts us = same_sets (set_row is_forecast s.forecast ts us) (set_row is_settled s.settled ts us)

-- both sets of transactions together are the totals of all their sales
abbrev pub Parted : List Transaction → Type 0
Parted ts = plus (plain_totals (picked is_forecast ts)) (plain_totals (picked is_settled ts)) ≡ plain_totals (picked is_sale ts)

pub parted_none : Parted []
unfolding picked sum_over
parted_none = refl

pub parted_row : (ts us : List Transaction) → Parted ts → Parted us → Parted (ts ++ us)
parted_row ts us h k =
    ap₂ plus (picked_totals is_forecast ts us) (picked_totals is_settled ts us) ∙
    plus_crosswise (plain_totals (picked is_forecast ts)) (plain_totals (picked is_forecast us)) (plain_totals (picked is_settled ts)) (plain_totals (picked is_settled us)) ∙
    ap₂ plus h k ∙ sym (picked_totals is_sale ts us)

-- a sale in the set of its launch type
abbrev set_of : Bool → List ℕ → List (List ℕ)
set_of here r = cond here (r ∷ []) []

module _ (e : ℕ) (r : List ℕ) (k : FieldsKept e r cv_table) where
  pub parted_sale : Parted (sale r ∷ [])
  unfolding picked sum_over
  parted_sale = rw (is_settled_lem e r k) (by (is_forecast (sale r)))
    where
      by : (forecast : Bool) → plus (plain_totals (set_of forecast r)) (plain_totals (set_of (not forecast) r)) ≡ plain_totals (r ∷ [])
      by true = plus_none (plain_totals (r ∷ []))
      by false = none_plus (plain_totals (r ∷ []))

  -- one more is such a sale, as whole numbers
  pub one_sale_more_lem : {n : ℕ} (s : TwoSets) → n < 10 ^ 6 → Within n (summed s) →
      one_sale_more (forecast_cv (cv_of r)) (one_sale (payable (cv_of r))) s ≡ with_sales s (sale r ∷ [])
  unfolding picked sum_over
  one_sale_more_lem {n} s l h =
      ap (λ c. one_sale_more (forecast_cv c) (one_sale (payable (cv_of r))) s) (plain_cv_lem e r k) ∙
      ap (λ t. one_sale_more (is_forecast (sale r)) t s) (sold_is e r k) ∙
      rw (is_settled_lem e r k) (by (is_forecast (sale r)))
    where
      into : (t : Totals) → Within n t → added_totals t (sold r) ≡ plus t (plain_totals (r ∷ []))
      into t within = not_capped t (sold r) l within (sold_within e r k) ∙ ap (plus t) (sym (sold_alone r))

      by : (forecast : Bool) → one_sale_more forecast (sold r) s ≡
          sets_of (plus s.forecast (plain_totals (set_of forecast r))) (plus s.settled (plain_totals (set_of (not forecast) r)))
      by true = same_sets (into s.forecast (part_within n s.forecast s.settled h).0) (sym (plus_none s.settled))
      by false = same_sets (sym (plus_none s.forecast)) (into s.settled (part_within n s.forecast s.settled h).1)

-- an adjustment is in neither
pub parted_adjustment : (r : List ℕ) → Parted (adjustment r ∷ [])
unfolding picked sum_over
parted_adjustment r = refl

pub parted_one : (e n : ℕ) (t : Transaction) → TransactionKept e n t → Parted (t ∷ [])
parted_one e n (sale r) k = parted_sale e r k.kind.fields
parted_one e n (adjustment r) k = parted_adjustment r

-- both sets with a transaction more are as small as the totals of all sales
pub sets_within : (n : ℕ) (s : TwoSets) (t : Transaction) → Parted (t ∷ []) → Within 1 (plain_totals (picked is_sale (t ∷ []))) → Within n (summed s) →
    Within (suc n) (summed (with_sales s (t ∷ [])))
sets_within n s t parted one h =
    subst (Within (suc n))
    (sym
    (plus_crosswise s.forecast (plain_totals (picked is_forecast (t ∷ []))) s.settled (plain_totals (picked is_settled (t ∷ []))) ∙
    ap (plus (summed s)) parted))
    (sold_more n (summed s) (plain_totals (picked is_sale (t ∷ []))) h one)
