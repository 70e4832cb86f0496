-- Laws of adding totals and amounts. Each figure of totals is added by `capped`, and by itself, so totals have its laws, figure by figure;
-- amounts have them as totals that count no sale.
use Prim.Native.Nat.{ℕ, ◌+◌, ◌≤◌}
use mathlib.Core.Path.{◌≡◌, refl, ap}
use native.Mathlib.Omega.{arith}
use lib.Dec.{lit≤}
use Rattle.totals.specs.declared.amounts.Amounts.{Amounts}
use Rattle.totals.specs.declared.amounts.Totals.{Totals}
use Rattle.totals.specs.Sum.{top, capped}
use Rattle.totals.specs.Amounts.{no_amounts, added_amounts, no_totals, added_totals, plus, AmountsFit, TotalsFit}
use Rattle.totals.proofs.Sums as sums

-- the four numbers that totals hold
pub data Figure : Type 0 where
  sales gross discount net : Figure

unfoldable pub figure_of : Figure → Totals → ℕ
figure_of sales t = t.sales
figure_of gross t = t.amounts.gross
figure_of discount t = t.amounts.discount
figure_of net t = t.amounts.net

-- totals with the same figures are the same
pub by_figure : {t u : Totals} → ((f : Figure) → figure_of f t ≡ figure_of f u) → t ≡ u
unfolding figure_of
by_figure e = λ i. record { sales = e sales i; amounts = record { gross = e gross i; discount = e discount i; net = e net i } }

-- each figure is added by itself
pub figure_added : (f : Figure) (t u : Totals) → figure_of f (added_totals t u) ≡ capped (figure_of f t) (figure_of f u)
unfolding figure_of
figure_added sales t u = refl
figure_added gross t u = refl
figure_added discount t u = refl
figure_added net t u = refl

-- and as a whole number
pub figure_plus : (f : Figure) (t u : Totals) → figure_of f (plus t u) ≡ figure_of f t + figure_of f u
unfolding figure_of
figure_plus sales t u = refl
figure_plus gross t u = refl
figure_plus discount t u = refl
figure_plus net t u = refl

pub figure_of_none : (f : Figure) → figure_of f no_totals ≡ 0
unfolding figure_of
figure_of_none sales = refl
figure_of_none gross = refl
figure_of_none discount = refl
figure_of_none net = refl

figure_fits : {t : Totals} (f : Figure) → TotalsFit t → figure_of f t ≤ top
unfolding figure_of
figure_fits sales h = h.sales
figure_fits gross h = h.amounts.gross
figure_fits discount h = h.amounts.discount
figure_fits net h = h.amounts.net

pub associative : (t u v : Totals) → added_totals (added_totals t u) v ≡ added_totals t (added_totals u v)
associative t u v = by_figure (λ f. simp figure_added (sums.associative (figure_of f t) (figure_of f u) (figure_of f v)))

pub commutative : (t u : Totals) → added_totals t u ≡ added_totals u t
commutative t u = by_figure (λ f. simp figure_added (sums.commutative (figure_of f t) (figure_of f u)))

-- no sale added to totals of 64 bits
pub neutral : (t : Totals) → TotalsFit t → added_totals no_totals t ≡ t
neutral t h = by_figure (λ f. simp (figure_added, figure_of_none) (sums.neutral (figure_of f t) (figure_fits f h)))

-- what was added has 64 bits
pub added_fit : (t u : Totals) → TotalsFit (added_totals t u)
added_fit t u =
    record {
      sales = sums.at_most_top _ _;
      amounts = record { gross = sums.at_most_top _ _; discount = sums.at_most_top _ _; net = sums.at_most_top _ _ };
    }

-- no loss where every sum has 64 bits
pub no_loss : (t u : Totals) → ((f : Figure) → figure_of f (plus t u) ≤ top) → added_totals t u ≡ plus t u
no_loss t u h = by_figure (λ f. omega (arith, figure_added f t u, figure_plus f t u, h f))

-- amounts as totals that count no sale
abbrev uncounted : Amounts → Totals
uncounted a = record { sales = 0; amounts = a }

pub associative_amounts : (a b c : Amounts) → added_amounts (added_amounts a b) c ≡ added_amounts a (added_amounts b c)
associative_amounts a b c = ap (λ t. t.amounts) (associative (uncounted a) (uncounted b) (uncounted c))

pub commutative_amounts : (a b : Amounts) → added_amounts a b ≡ added_amounts b a
commutative_amounts a b = ap (λ t. t.amounts) (commutative (uncounted a) (uncounted b))

pub neutral_amounts : (a : Amounts) → AmountsFit a → added_amounts no_amounts a ≡ a
neutral_amounts a h = ap (λ t. t.amounts) (neutral (uncounted a) (record { sales = lit≤ tt; amounts = h }))
