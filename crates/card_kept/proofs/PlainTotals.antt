-- Totals of sales as whole numbers: how they are added, how large they are, and that no sum of a file is capped.
-- Figure by figure.
use Prim.Native.Nat.{ℕ, suc, ◌*◌, ◌^◌, ◌≤◌, ◌<◌}
use mathlib.Core.Path.{◌≡◌, refl, sym, ◌∙◌, ap, subst}
use mathlib.Core.List.{List, [], ◌∷◌, ◌++◌}
use native.Mathlib.Omega.{arith}
use Rattle.totals.specs.declared.amounts.Totals.{Totals}
use Rattle.totals.specs.Amounts.{no_totals, one_sale, added_totals, plus}
use Rattle.totals.proofs.Totals.{Figure, sales, gross, discount, net, figure_of, by_figure, figure_added, figure_plus, figure_of_none}
use Rattle.card_sale.specs.Cv.{cv_table, cv_of, payable}
use Rattle.card_kept.specs.Fields.{FieldsKept}
use Rattle.card_kept.specs.Sale.{payable_gross, payable_discount, payable_net}
use Rattle.card_kept.specs.Kept.{sum_over}
use Rattle.card_kept.specs.Numbers.{plain_totals}
use Rattle.card_kept.proofs.Sales.{plain_cv_lem, payable_is, payable_below}

-- totals added
pub plus_none : (t : Totals) → plus t no_totals ≡ t
plus_none t = by_figure (λ f. simp (figure_plus, figure_of_none) (omega arith))

pub none_plus : (t : Totals) → plus no_totals t ≡ t
none_plus t = by_figure (λ f. simp (figure_plus, figure_of_none) (omega arith))

pub plus_plus : (t u v : Totals) → plus (plus t u) v ≡ plus t (plus u v)
plus_plus t u v = by_figure (λ f. simp figure_plus (omega arith))

pub plus_crosswise : (t u v w : Totals) → plus (plus t u) (plus v w) ≡ plus (plus t v) (plus u w)
plus_crosswise t u v w = by_figure (λ f. simp figure_plus (omega arith))

-- one sale, and sales in a row
abbrev pub sold : List ℕ → Totals
sold r = record { sales = 1; amounts = record { gross = payable_gross r; discount = payable_discount r; net = payable_net r } }

pub sold_first : (r : List ℕ) (rs : List (List ℕ)) → plain_totals (r ∷ rs) ≡ plus (sold r) (plain_totals rs)
unfolding sum_over figure_of
sold_first r rs = by_figure each
  where
    each : (f : Figure) → figure_of f (plain_totals (r ∷ rs)) ≡ figure_of f (plus (sold r) (plain_totals rs))
    each sales = omega arith
    each gross = refl
    each discount = refl
    each net = refl

pub sold_alone : (r : List ℕ) → plain_totals (r ∷ []) ≡ sold r
unfolding sum_over
sold_alone r = sold_first r [] ∙ plus_none (sold r)

pub sold_row : (rs ss : List (List ℕ)) → plain_totals (rs ++ ss) ≡ plus (plain_totals rs) (plain_totals ss)
unfolding sum_over
sold_row [] ss = sym (none_plus (plain_totals ss))
sold_row (r ∷ rs) ss =
    sold_first r (rs ++ ss) ∙ ap (plus (sold r)) (sold_row rs ss) ∙ sym (plus_plus (sold r) (plain_totals rs) (plain_totals ss)) ∙
    ap (λ t. plus t (plain_totals ss)) (sym (sold_first r rs))

-- totals of at most so many sales, of which each amount is at most 10^11
abbrev pub Within : ℕ → Totals → Type 0
Within n t = (f : Figure) → figure_of f t ≤ 10 ^ 11 * n

-- what is payable of a sale that keeps its fields
pub sold_is : (e : ℕ) (r : List ℕ) → FieldsKept e r cv_table → one_sale (payable (cv_of r)) ≡ sold r
sold_is e r k = ap (λ c. one_sale (payable c)) (plain_cv_lem e r k) ∙ ap one_sale (payable_is r)

pub sold_within : (e : ℕ) (r : List ℕ) → FieldsKept e r cv_table → Within 1 (sold r)
unfolding figure_of
sold_within e r k = subst (Within 1) (sold_is e r k) each
  where
    each : (f : Figure) → figure_of f (one_sale (payable (cv_of r))) ≤ 10 ^ 11 * 1
    each sales = omega arith
    each gross = omega (arith, (payable_below r).gross)
    each discount = omega (arith, (payable_below r).discount)
    each net = omega (arith, (payable_below r).net)

pub more_within : (n : ℕ) (t : Totals) → Within n t → Within (suc n) t
more_within n t h f = omega (arith, h f)

pub sold_more : (n : ℕ) (t u : Totals) → Within n t → Within 1 u → Within (suc n) (plus t u)
sold_more n t u h k f = omega (arith, figure_plus f t u, h f, k f)

pub none_within : (n : ℕ) → Within n no_totals
none_within n f = omega (arith, figure_of_none f)

-- and each of two that are so small together
pub part_within : (n : ℕ) (t u : Totals) → Within n (plus t u) → Within n t × Within n u
part_within n t u h = (λ f. omega (arith, figure_plus f t u, h f), λ f. omega (arith, figure_plus f t u, h f))

-- nothing is capped
pub not_capped : {n : ℕ} (t u : Totals) → n < 10 ^ 6 → Within n t → Within 1 u → added_totals t u ≡ plus t u
not_capped t u l h k = by_figure (λ f. omega (arith, figure_added f t u, figure_plus f t u, h f, k f))
