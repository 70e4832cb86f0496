-- `sheet_program::write::save_numbers` meets its contract: what is saved is the sheet of the numbers, which has as many bytes as there is room for.
use mathlib.Core.Path.{sym, ◌∙◌, ap}
use borrow.Author.Rules.{rules}
use Rattle.day_sheet.specs.Sheet.{bytes_of}
use Rattle.day_sheet.specs.Writing.{sheet_width}
use Rattle.sheet_program.proofs.Wholes.{whole_sheet}
use Rattle.sheet_program.proofs.write.save_numbers.Goals as goal

pub save_sheet-requires : goal.save_sheet-requires
save_sheet-requires c =
    let made = c.sheet_from.ensures in
    whole_sheet _ _ (sym (ap sheet_width made)) c.write.ensures (search rules) ∙ ap bytes_of made
