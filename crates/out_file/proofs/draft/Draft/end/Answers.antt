-- `out_file::draft::Draft::end` meets its contract: behind an answer that ends the writes, the machine rests only at an end.
use Rattle.out_file.proofs.Drives.{ended}
use Rattle.out_file.proofs.draft.Draft.end.Goals as goal

pub returns : goal.returns
returns c =
    let s = c in
    ended s.args.self.step s.args.went s.requires c.answered.ensures c.drive.ensures
