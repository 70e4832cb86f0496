-- `day_sheet::reader::numbers_in` meets its contract: the version's first places of an array of zeros have room in its bytes.
use Rattle.day_sheet.proofs.Readings.{prefix_room}
use Rattle.day_sheet.proofs.reader.numbers_in.Goals as goal

pub read_numbers-requires : goal.read_numbers-requires
read_numbers-requires c = prefix_room c.args.version c.args.bytes.now c.places.ensures c.requires
