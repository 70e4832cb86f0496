-- `card_copy::copy::Copying::copy_from` meets its contract: what comes of a first read that moves no byte, or the copy's answer, of which the first bytes lie within the
-- buffer.
use Rattle.program.proofs.Taken.{none_taken}
use Rattle.card_program.proofs.Ended.{checked}
use Rattle.card_copy.proofs.copy.Copying.copy_from.Goals as goal

pub returns-in_default : goal.returns-in_default
returns-in_default g c = checked _ _ (none_taken _ _ c.«open».ensures) c.outcome_at.ensures
