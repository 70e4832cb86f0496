-- `out_file::folder::folder_size` meets its contract: what is found is the last '/'.
use borrow.Author.Rules.{rules}
use Rattle.out_file.proofs.Slashes.{no_slash, last_slash}
use Rattle.out_file.proofs.folder.folder_size.Goals as goal

pub returns-in-Some : goal.returns-in-Some
returns-in-Some c = last_slash c.args.path.now c.in-Some.last (search rules) (search rules) (search rules)

pub returns-in-None : goal.returns-in-None
returns-in-None c = no_slash c.args.path.now (search rules)
