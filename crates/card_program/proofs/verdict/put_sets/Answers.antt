-- `card_program::verdict::put_sets` meets its contract: the lines of one set, and behind them those of the other.
use Rattle.wording.proofs.Putting.{both, last}
use Rattle.card_program.specs.Verdict.{sets_text}
use Rattle.card_program.proofs.verdict.put_sets.Goals as goal

pub returns : goal.returns
unfolding sets_text
returns c = both c.put_totals-forecast.ensures (last c.put_totals.ensures)
