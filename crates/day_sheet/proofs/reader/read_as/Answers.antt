-- `day_sheet::reader::read_as` meets its contract: the bytes have room for the version's places.
use Rattle.day_sheet.proofs.Readings.{room_in}
use Rattle.day_sheet.proofs.reader.read_as.Goals as goal

pub holds_digits-requires : goal.holds_digits-requires
holds_digits-requires c = room_in c.args.version c.args.bytes.now c.places.ensures c.requires
