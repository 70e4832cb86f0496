-- `sheet_program::convert::convert_bytes` meets its contract: the sheet that was read is converted into room for either version, of which its bytes are the front.
use mathlib.Core.Path.{refl, sym, ◌∙◌, ap}
use native.Mathlib.Omega.{arith}
use Rattle.day_sheet.specs.Version.{width_of}
use Rattle.day_sheet.specs.Sheet.{version_of}
use Rattle.sheet_program.specs.SheetRead.{converted_read}
use Rattle.sheet_program.proofs.Wholes.{width_within, front_sheet, stays_refused}
use Rattle.sheet_program.proofs.convert.convert_bytes.Goals as goal

pub returns-in_default : goal.returns-in_default
returns-in_default c = (_, stays_refused _ c.read-read.ensures c.in_default.is)

pub slice_bounds-room-end : goal.slice_bounds-room-end
slice_bounds-room-end c = omega (arith, width_within c.version_of.result c.width-width.ensures)

pub save_converted-requires : goal.save_converted-requires
save_converted-requires c =
    front_sheet _ _ _ (sym c.read-read.ensures ∙ c.in-Ok.is) refl
    (c.width-width.ensures ∙ ap width_of (c.version_of.ensures ∙ ap version_of c.converted.ensures))
    c.convert-converted.ensures

pub returns : goal.returns
returns c = c.save_converted.ensures (_, ap converted_read (sym c.in-Ok.is ∙ c.read-read.ensures))
