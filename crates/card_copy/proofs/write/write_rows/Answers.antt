-- `card_copy::write::write_rows` meets its contract: there is room for all rows of the lines, so these are what is written.
use mathlib.Core.Path.{ap, ◌∙◌}
use native.Mathlib.Omega.{arith}
use Rattle.lines.specs.Lines.{cut}
use Rattle.adjustment_rows.specs.Rows.{rows_of}
use Rattle.adjustment_rows.proofs.Fits.{all_rows}
use Rattle.card_copy.proofs.write.write_rows.Goals as goal

pub write_adjustments-requires : goal.write_adjustments-requires
write_adjustments-requires c = (
  c.requires.1,
  all_rows _ _ _ (omega arith) c.put_rows-rows.ensures ∙ ap (λ number. rows_of number (cut c.args.bytes.now).pieces) c.next_number.ensures,
)
