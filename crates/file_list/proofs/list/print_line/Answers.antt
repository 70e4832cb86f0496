-- `file_list::list::print_line` meets its contract: there is room for every file's words and line, so what is written is this file's own.
use Rattle.wording.proofs.Putting.{whole}
use Rattle.file_list.proofs.Lines.{line_whole}
use Rattle.file_list.proofs.list.print_line.Goals as goal

pub write_line-requires : goal.write_line-requires
write_line-requires g c =
    let start = c in
    let words = c.put_words-size.ensures in
    line_whole _ (whole words.short words.puts) words.short start.requires c.room-room.ensures c.put_line-end.ensures
