-- The amounts of one sale, and totals over sales.
use Rattle.std.specs.Prelude.{◌+◌, ◌≤◌, Bool, eqb}
use Rattle.totals.specs.declared.amounts.Amounts.{Amounts}
use Rattle.totals.specs.declared.amounts.Totals.{Totals}
use Rattle.totals.specs.Sum.{top, capped}

-- "gross = discount + net", as whole numbers
abbrev pub agreeing : Amounts → Bool
agreeing a = eqb a.gross (a.discount + a.net)

abbrev pub no_amounts : Amounts
no_amounts = record { gross = 0; discount = 0; net = 0 }

abbrev pub added_amounts : Amounts → Amounts → Amounts
added_amounts a b = record { gross = capped a.gross b.gross; discount = capped a.discount b.discount; net = capped a.net b.net }

abbrev pub no_totals : Totals
no_totals = record { sales = 0; amounts = no_amounts }

abbrev pub one_sale : Amounts → Totals
one_sale a = record { sales = 1; amounts = a }

abbrev pub added_totals : Totals → Totals → Totals
added_totals t u = record { sales = capped t.sales u.sales; amounts = added_amounts t.amounts u.amounts }

-- totals added as whole numbers
abbrev pub plus : Totals → Totals → Totals
plus t u =
    record {
      sales = t.sales + u.sales;
      amounts = record {
        gross = t.amounts.gross + u.amounts.gross;
        discount = t.amounts.discount + u.amounts.discount;
        net = t.amounts.net + u.amounts.net;
      };
    }

-- each amount has 64 bits
pub record AmountsFit (a : Amounts) : Type 0 where
  pub gross : a.gross ≤ top
  pub discount : a.discount ≤ top
  pub net : a.net ≤ top

-- each number of totals has 64 bits
pub record TotalsFit (t : Totals) : Type 0 where
  pub sales : t.sales ≤ top
  pub amounts : AmountsFit t.amounts
