-- `card_program::verdict::put_totals` meets its contract: four lines, one behind the other.
use Rattle.wording.proofs.Putting.{both, last}
use Rattle.card_program.specs.Verdict.{totals_text}
use Rattle.card_program.proofs.verdict.put_totals.Goals as goal

pub returns : goal.returns
unfolding totals_text
returns c =
    both c.put_led-sales.ensures (both c.put_led-gross.ensures (both c.put_led-discount.ensures (last c.put_led.ensures)))
