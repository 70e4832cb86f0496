-- `sale_field::numbered` meets its contract: the list of the code is that of the definition, by computation.
use Rattle.std.proofs.Common.{◌-◌, arith}
use Rattle.std.proofs.lemmas.List.{get_or_default}
use Rattle.sale_field.specs.Field.{cv_fields}
use Rattle.sale_field.proofs.numbered.Goals as goal

pub returns : goal.returns
returns c = get_or_default cv_fields (c.args.number - 1) _ _ (omega arith)
