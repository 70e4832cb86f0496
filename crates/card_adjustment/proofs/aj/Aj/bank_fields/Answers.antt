-- `card_adjustment::aj::Aj::bank_fields` meets its contract: the code leaves at the first field with a fault.
use Rattle.std.proofs.Common.{arith}
use Rattle.card_content.proofs.Rows.{each_field}
use Rattle.card_adjustment.proofs.aj.Aj.bank_fields.Goals as goal

pub returns-in_err-fault-3 : goal.returns-in_err-fault-3
returns-in_err-fault-3 c = grind (arith, each_field)

pub returns-in_err-fault-4 : goal.returns-in_err-fault-4
returns-in_err-fault-4 c = grind (arith, each_field)

pub returns-in_err-fault-5 : goal.returns-in_err-fault-5
returns-in_err-fault-5 c = grind (arith, each_field)

pub returns-in_err-fault-6 : goal.returns-in_err-fault-6
returns-in_err-fault-6 c = grind (arith, each_field)

pub returns : goal.returns
returns c = grind (arith, each_field)
