-- The rules of an adjustment are those of its width and of three groups of fields, one behind the other.
use Prim.Native.Nat.{ℕ}
use mathlib.Core.Path.{◌≡◌}
use mathlib.Core.List.{List}
use lib.Dec.{eqb}
use lib.ListN.{length}
use Rattle.refusal.specs.declared.Cause.TheVariants.{WrongWidth}
use Rattle.refusal.specs.Fault.{rule_of, earlier_of}
use Rattle.refusal.specs.Rules.{first_broken}
use Rattle.card_content.specs.Field.{table_rules, record_rules}
use Rattle.card_content.proofs.Rows.{three_tables}
use Rattle.card_adjustment.specs.Aj.{transaction_table, adjustment_table, bank_table, aj_table}

pub in_groups : (e : ℕ) (r : List ℕ) →
    first_broken (record_rules e r 193 aj_table) ≡
    earlier_of (rule_of WrongWidth 0 (eqb (length r) 193)) (
    earlier_of (first_broken (table_rules e r transaction_table)) (
    earlier_of (first_broken (table_rules e r adjustment_table)) (first_broken (table_rules e r bank_table))))
in_groups e r = three_tables e r 193 transaction_table adjustment_table bank_table
