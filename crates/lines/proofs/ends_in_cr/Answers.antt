-- `lines::ends_in_cr` meets its contract: the byte that it tests is the last.
use Rattle.lines.proofs.Ends.{last_byte}
use Rattle.lines.proofs.ends_in_cr.Goals as goal

pub returns : goal.returns
returns c = rw (c.eq.ensures, c.copied.ensures, c.last.ensures.value) (last_byte _)
