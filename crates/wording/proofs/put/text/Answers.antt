-- `wording::put::text` meets its contract: what is copied is the part of the text for which there is room.
use Rattle.wording.proofs.Putting.{copied}
use Rattle.wording.proofs.put.text.Goals as goal

pub returns : goal.returns
returns c = copied _ _ c.min-start.ensures c.min-size.ensures c.copy_from_slice.ensures.after
