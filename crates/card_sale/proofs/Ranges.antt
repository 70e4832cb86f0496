-- How large the numbers of a sale are, whatever the record's bytes are.
use Prim.Native.Nat.{ℕ, ◌^◌, ◌<◌}
use mathlib.Core.List.{List}
use Rattle.totals.specs.declared.amounts.Amounts.{Amounts}
use Rattle.card_content.specs.declared.content.ClosedSet.TheVariants.{LaunchType}
use Rattle.card_content.specs.declared.content.Content.TheVariants.{Digits, OneOf}
use Rattle.card_content.specs.Field.{field}
use Rattle.card_content.proofs.Ranges.{number_below}
use Rattle.card_sale.specs.declared.cv.Cv.{Cv}
use Rattle.card_sale.specs.Cv.{cv_of}

-- "Amounts are eleven digits"
pub record AmountsBelow (a : Amounts) : Type 0 where
  pub gross : a.gross < 10 ^ 11
  pub discount : a.discount < 10 ^ 11
  pub net : a.net < 10 ^ 11

pub record CvBelow (n : Cv) : Type 0 where
  pub launch_type_lem : n.launch_type < 10
  pub sale : AmountsBelow n.sale
  pub instalment : n.instalment < 100
  pub instalments : n.instalments < 100
  pub instalment_nsu_lem : n.instalment_nsu < 10 ^ 12
  pub instalment_amounts_lem : AmountsBelow n.instalment_amounts
  pub nseq : n.nseq < 10 ^ 6

pub cv_below : (r : List ℕ) → CvBelow (cv_of r)
cv_below r =
    record {
      launch_type_lem = number_below (field 44 44 (OneOf LaunchType)) r;
      sale = record {
        gross = number_below (field 55 65 Digits) r;
        discount = number_below (field 66 76 Digits) r;
        net = number_below (field 77 87 Digits) r;
      };
      instalment = number_below (field 107 108 Digits) r;
      instalments = number_below (field 109 110 Digits) r;
      instalment_nsu_lem = number_below (field 111 122 Digits) r;
      instalment_amounts_lem = record {
        gross = number_below (field 123 133 Digits) r;
        discount = number_below (field 134 144 Digits) r;
        net = number_below (field 145 155 Digits) r;
      };
      nseq = number_below (field 194 199 Digits) r;
    }
