-- CV, 199 bytes, fields 1 to 26.
use Rattle.std.specs.Prelude.{ℕ, List, [], ◌∷◌, ◌++◌, Bool, cond, not, ◌&&◌, ◌||◌, leb, eqb}
use Rattle.refusal.specs.declared.Cause.TheVariants.{ValueNotAllowed, AmountsDisagree}
use Rattle.refusal.specs.Rules.{Rule, rule_at}
use Rattle.totals.specs.declared.amounts.Amounts.{Amounts}
use Rattle.totals.specs.Amounts.{agreeing}
use Rattle.card_content.specs.declared.content.ClosedSet.TheVariants.{LaunchType, Product, Capture}
use Rattle.card_content.specs.declared.content.Content.TheVariants.{Digits, Text, Day, Time, Card, OneOf}
use Rattle.card_content.specs.declared.field.Field.{Field}
use Rattle.card_content.specs.Field.{field, number_in}
use Rattle.card_sale.specs.declared.cv.Cv.{Cv}

-- the fields behind the kind, from store to capture; "Amounts are eleven digits, in centavos"
abbrev pub sale_table : List Field
sale_table =
    field 3 17 Text ∷  -- "store 3-17 AN"
    field 18 29 Digits ∷  -- "NSU 18-29 N"
    field 30 37 Day ∷  -- "date 30-37"
    field 38 43 Time ∷  -- "time 38-43"
    field 44 44 (OneOf LaunchType) ∷  -- "launch type 44"
    field 45 52 Day ∷  -- "launch date 45-52"
    field 53 53 (OneOf Product) ∷  -- "product 53"
    field 54 54 (OneOf Capture) ∷  -- "capture 54"
    []

-- from sale gross to instalment net
abbrev pub amount_table : List Field
amount_table =
    field 55 65 Digits ∷  -- "sale gross 55-65"
    field 66 76 Digits ∷  -- "discount 66-76"
    field 77 87 Digits ∷  -- "net 77-87"
    field 88 106 Card ∷  -- "card 88-106"
    field 107 108 Digits ∷  -- "instalment 107-108"
    field 109 110 Digits ∷  -- "instalments 109-110"
    field 111 122 Digits ∷  -- "instalment NSU 111-122 N"
    field 123 133 Digits ∷  -- "instalment gross 123-133"
    field 134 144 Digits ∷  -- "discount 134-144"
    field 145 155 Digits ∷  -- "net 145-155"
    []

-- from bank to NSEQ
abbrev pub bank_table : List Field
bank_table =
    field 156 158 Digits ∷  -- "bank 156-158 N"
    field 159 164 Digits ∷  -- "branch 159-164 N"
    field 165 175 Text ∷  -- "account 165-175 AN"
    field 176 187 Digits ∷  -- "authorisation 176-187 N"
    field 188 190 Text ∷  -- "brand 188-190 AN"
    field 191 193 Text ∷  -- "product code 191-193 AN"
    field 194 199 Digits ∷  -- "NSEQ 194-199"
    []

abbrev pub cv_table : List Field
cv_table = sale_table ++ (amount_table ++ bank_table)

-- the amounts in three fields
abbrev pub amounts_in : Field → Field → Field → List ℕ → Amounts
amounts_in gross discount net r = record { gross = number_in gross r; discount = number_in discount r; net = number_in net r }

abbrev pub sale_amounts : List ℕ → Amounts
sale_amounts = amounts_in (field 55 65 Digits) (field 66 76 Digits) (field 77 87 Digits)

abbrev pub instalment_amounts : List ℕ → Amounts
instalment_amounts = amounts_in (field 123 133 Digits) (field 134 144 Digits) (field 145 155 Digits)

abbrev pub cv_of : List ℕ → Cv
cv_of r =
    record {
      launch_type = number_in (field 44 44 (OneOf LaunchType)) r;
      sale = sale_amounts r;
      instalment = number_in (field 107 108 Digits) r;
      instalments = number_in (field 109 110 Digits) r;
      instalment_nsu = number_in (field 111 122 Digits) r;
      instalment_amounts = instalment_amounts r;
      nseq = number_in (field 194 199 Digits) r;
    }

-- "launch type 44 (0 forecast, 1 normal, 2 advanced)"; no other passes the field's rule, so what is not forecast is settled
abbrev pub is_forecast : Cv → Bool
is_forecast cv = eqb cv.launch_type 0

-- there is an instalment unless "instalment and instalments are both zero"
abbrev pub has_instalment : Cv → Bool
has_instalment cv = not (eqb cv.instalment 0 && eqb cv.instalments 0)

-- "Payable means the instalment's amounts where there is an instalment, otherwise the sale's"
abbrev pub payable : Cv → Amounts
payable cv = cond (has_instalment cv) cv.instalment_amounts cv.sale

-- "instalment and instalments are both zero, or 1 ≤ instalment ≤ instalments"
abbrev pub instalment_right : Cv → Bool
instalment_right cv = not (has_instalment cv) || (leb 1 cv.instalment && leb cv.instalment cv.instalments)

-- the joined rules that look at this record alone, in order
unfoldable pub joined_rules : Cv → List Rule
joined_rules cv =
    -- instalment and instalments "(8, column 107)"
    rule_at ValueNotAllowed 107 (instalment_right cv) ∷
    -- "if both are zero, columns 111, 123, 134, 145 hold zero (8, the first that doesn't)"
    rule_at ValueNotAllowed 111 (has_instalment cv || eqb cv.instalment_nsu 0) ∷
    rule_at ValueNotAllowed 123 (has_instalment cv || eqb cv.instalment_amounts.gross 0) ∷
    rule_at ValueNotAllowed 134 (has_instalment cv || eqb cv.instalment_amounts.discount 0) ∷
    rule_at ValueNotAllowed 145 (has_instalment cv || eqb cv.instalment_amounts.net 0) ∷
    -- "sale gross = discount + net (10, column 77)"
    rule_at AmountsDisagree 77 (agreeing cv.sale) ∷
    -- "if an instalment, its gross = discount + net (10, column 145)"
    rule_at AmountsDisagree 145 (not (has_instalment cv) || agreeing cv.instalment_amounts) ∷ []
