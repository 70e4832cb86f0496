-- `card_program::verdict::put_led` meets its contract: the word and the line, one behind the other.
use Rattle.wording.proofs.Putting.{both}
use Rattle.card_program.specs.Verdict.{led_line}
use Rattle.card_program.proofs.verdict.put_led.Goals as goal

pub returns : goal.returns
unfolding led_line
returns c = both c.text-behind_word.ensures c.line.ensures
