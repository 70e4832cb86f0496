-- `c_files::sheet::lossivurn_sheet_write_2` meets its contract: the version is the first number.
use Rattle.c_files.proofs.sheet.lossivurn_sheet_write_2.Goals as goal

pub returns : goal.returns
returns c = c.write.ensures 2
