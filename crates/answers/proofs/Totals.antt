-- The contracts of `totals` are held to one answer, and rule wrong ones out, by computation.
use mathlib.Core.Path.{refl}
use Rattle.answers.proofs.Observed.{sum_read}
use Rattle.answers.specs.Totals.{Totals}
use Rattle.answers.proofs.Told.{equal, told, bit}

pub totals : Totals
totals =
    record {
      checked = λ κs a r r' s s' p q. equal p q;
      checked_wraps = (refl, told sum_read refl);
      checked_largest = (refl, told sum_read refl);
      added = λ κs a r r' s s' p q. equal p q;
      added_wraps = (refl, told (λ n. n) refl);
      added_top = (refl, told (λ n. n) refl);
      agree = λ κs a r r' s s' p q. equal p q;
      agree_net = (refl, told bit refl);
      agree_wraps = (refl, told bit refl);
      amounts_added = λ κs a r r' s s' p q. equal p q;
      amounts_added_net = (refl, told (λ t. t.discount) refl);
      amounts_added_nothing = (refl, told (λ t. t.gross) refl);
      none = λ κs a r r' s s' p q. equal p q;
      none_from_one = (refl, told (λ t. t.sales) refl);
      none_largest = (refl, told (λ t. t.amounts.gross) refl);
      of_sale = λ κs a r r' s s' p q. equal p q;
      of_sale_uncounted = (refl, told (λ t. t.sales) refl);
      of_sale_unadded = (refl, told (λ t. t.amounts.gross) refl);
      totals_added = λ κs a r r' s s' p q. equal p q;
      totals_added_sales = (refl, told (λ t. t.sales) refl);
      totals_added_last = (refl, told (λ t. t.amounts.gross) refl);
      no_sets_lem = λ κs a r r' s s' p q. equal p q;
      no_sets_forecast = (refl, told (λ s. s.forecast.sales) refl);
      no_sets_settled = (refl, told (λ s. s.settled.sales) refl);
      one_more = λ κs a r r' s s' p q. equal p q;
      one_more_settled = (refl, told (λ s. s.settled.sales) refl);
      one_more_both = (refl, told (λ s. s.settled.sales) refl);
      one_more_neither = (refl, told (λ s. s.forecast.sales) refl);
      one_more_forecast = (refl, told (λ s. s.forecast.sales) refl);
      both = λ κs a r r' s s' p q. equal p q;
      both_settled_lem = (refl, told (λ t. t.sales) refl);
      both_forecast = (refl, told (λ t. t.sales) refl);
    }
