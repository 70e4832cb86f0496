-- `file_list::list::list_by` meets its contract. The invariant: every argument before the number is tallied.
use Rattle.file_list.proofs.Lists.{Reached}
use Rattle.file_list.proofs.list.list_by.Given as goal

abbrev pub invariant-loop-number : goal.invariant-loop-number
invariant-loop-number g l = Reached g.F.Files.said_of (g.F.Files.Checked l.files) l.first l.count l.number l.tally
