-- `files::reading::read_some` meets its contract: what an answer means lies within the room, which the read left as long as it was.
use Rattle.std.proofs.Common.{rules}
use Rattle.files.proofs.Meanings.{meant_within}
use Rattle.files.proofs.reading.read_some.Goals as goal

pub returns-in-Ok : goal.returns-in-Ok
returns-in-Ok g c = meant_within _ _ _ _ c.got_of.ensures (search rules)

pub returns-in-Err : goal.returns-in-Err
returns-in-Err g c = meant_within _ _ _ _ c.got_of-in-Err.ensures (search rules)
