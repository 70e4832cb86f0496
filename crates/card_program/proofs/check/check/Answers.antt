-- `card_program::check::check` meets its contract: the stream has taken some chunks, whose answer comes of its end.
use Rattle.card_program.proofs.Ended.{checked}
use Rattle.card_program.proofs.check.check.Goals as goal

pub returns : goal.returns
returns g c = checked _ _ (rw c.open.ensures at c.read_chunks-got.ensures) c.outcome_at.ensures
