-- `card_program::verdict::put_adjusted` meets its contract: the word and four lines, one behind the other.
use Rattle.wording.proofs.Putting.{both, last}
use Rattle.card_program.specs.Verdict.{adjusted_text}
use Rattle.card_program.proofs.verdict.put_adjusted.Goals as goal

pub returns : goal.returns
unfolding adjusted_text
returns c =
    both c.text-word.ensures (both c.line-credited.ensures (both c.line-credit_net.ensures (both c.line-debited.ensures (last c.line.ensures))))
