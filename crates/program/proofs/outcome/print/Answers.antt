-- `program::outcome::print` meets its contract: there is room for every text, so what is written is the outcome's own.
use Rattle.wording.proofs.Putting.{whole}
use Rattle.program.proofs.outcome.print.Goals as goal

pub write-requires : goal.write-requires
write-requires g c = whole c.put-size.ensures.short c.put-size.ensures.puts
