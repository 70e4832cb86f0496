-- `card_copy::write::write_first` meets its contract: there is room for the header line, so that is what is written.
use Prim.Native.Nat.{◌≤◌}
use lib.Dec.{lit≤}
use lib.ListN.{length}
use Rattle.wording.proofs.Putting.{whole}
use Rattle.adjustment_rows.specs.Row.{header}
use Rattle.card_copy.proofs.write.write_first.Goals as goal

has_room : length header ≤ 86
has_room = lit≤ tt

pub write_header-requires : goal.write_header-requires
write_header-requires c = whole has_room c.put_header-size.ensures
