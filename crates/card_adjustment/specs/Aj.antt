-- AJ, 193 bytes, fields 1 to 24: the table printed in section 2.6 of document 003, "every field as printed" (docs/READINGS.md).
use Rattle.std.specs.Prelude.{ℕ, List, [], ◌∷◌, ◌++◌, Bool, eqb}
use Rattle.refusal.specs.declared.Cause.TheVariants.{AmountsDisagree}
use Rattle.refusal.specs.Rules.{Rule, rule_at}
use Rattle.totals.specs.declared.amounts.Amounts.{Amounts}
use Rattle.totals.specs.Amounts.{agreeing}
use Rattle.card_content.specs.declared.content.ClosedSet.TheVariants.{LaunchType, AdjustmentCapture, AdjustmentType}
use Rattle.card_content.specs.declared.content.Content.TheVariants.{Digits, Text, Day, DayOrZeros, Time, CardOrBlanks, OneOf}
use Rattle.card_content.specs.declared.field.Field.{Field}
use Rattle.card_content.specs.Field.{field, number_in}
use Rattle.card_adjustment.specs.declared.aj.Aj.{Aj}

-- the fields behind the kind, by their printed numbers: from store to launch date
abbrev pub transaction_table : List Field
transaction_table =
    field 3 17 Text ∷  -- 02 store
    field 18 29 Digits ∷  -- 03 NSU of the original transaction, optional
    field 30 37 DayOrZeros ∷  -- 04 date of the original transaction, optional
    field 38 39 Digits ∷  -- 05 instalment, optional
    field 40 51 Digits ∷  -- 06 NSU of the adjustment
    field 52 59 Day ∷  -- 07 date of the adjustment
    field 60 65 Time ∷  -- 08 time, optional: zeros are a time
    field 66 66 (OneOf LaunchType) ∷  -- 09 launch type: 0, 1 or 2
    field 67 74 Day ∷  -- 10 launch date
    []

-- from capture to net
abbrev pub adjustment_table : List Field
adjustment_table =
    field 75 75 (OneOf AdjustmentCapture) ∷  -- 11 capture: 1 to 7 and 9
    field 76 76 (OneOf AdjustmentType) ∷  -- 12 type of adjustment: 1 credit, 2 debit
    field 77 79 Digits ∷  -- 13 reason code
    field 80 109 Text ∷  -- 14 description of the reason
    field 110 120 Digits ∷  -- 15 gross
    field 121 131 Digits ∷  -- 16 discount
    field 132 142 Digits ∷  -- 17 net
    []

-- from bank to NSEQ
abbrev pub bank_table : List Field
bank_table =
    field 143 145 Digits ∷  -- 18 bank
    field 146 151 Digits ∷  -- 19 branch
    field 152 162 Text ∷  -- 20 account
    field 163 181 CardOrBlanks ∷  -- 21 card of the original transaction, optional
    field 182 184 Text ∷  -- 22 brand, optional
    field 185 187 Text ∷  -- 23 product code, optional
    field 188 193 Digits ∷  -- 24 NSEQ
    []

abbrev pub aj_table : List Field
aj_table = transaction_table ++ (adjustment_table ++ bank_table)

abbrev pub aj_amounts : List ℕ → Amounts
aj_amounts r =
    record { gross = number_in (field 110 120 Digits) r; discount = number_in (field 121 131 Digits) r; net = number_in (field 132 142 Digits) r }

abbrev pub aj_of : List ℕ → Aj
aj_of r =
    record {
      adjustment_type = number_in (field 76 76 (OneOf AdjustmentType)) r;
      amounts = aj_amounts r;
      nseq = number_in (field 188 193 Digits) r;
    }

-- "1 = Ajuste a Crédito 2 = Ajuste a Débito"
abbrev pub is_credit : Aj → Bool
is_credit aj = eqb aj.adjustment_type 1

-- "Where AJ prints gross, discount and net, the amounts rule holds at its net"
unfoldable pub joined_rules : Aj → List Rule
joined_rules aj = rule_at AmountsDisagree 132 (agreeing aj.amounts) ∷ []
