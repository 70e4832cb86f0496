-- `out_file::draft::begin` meets its contract: from the start the machine rests at the first write, or has nothing left.
use Rattle.out_file.proofs.Drives.{begun}
use Rattle.out_file.proofs.draft.begin.Goals as goal

pub returns : goal.returns
returns c = begun c.drive.ensures
