-- `day_sheet::writer::put` meets its contract: an output as wide as the sheet has room for the sheet's own places.
use mathlib.Core.Path.{◌∙◌, ap}
use native.Mathlib.Omega.{arith}
use Rattle.day_sheet.specs.Version.{width_of, places_of}
use Rattle.day_sheet.proofs.Writings.{row_room}
use Rattle.day_sheet.proofs.writer.put.Goals as goal

pub fill-requires : goal.fill-requires
fill-requires c =
    let version = c.version_of-version.ensures in
    let wide = c.width-width.ensures ∙ ap width_of version in
    row_room _ c.args.out.now c.row-row.ensures (c.places.ensures ∙ ap places_of version) (omega (arith, wide, c.if-out-width.false))
