-- `card_program::verdict::put_accepted` meets its contract: the word, two lines and those of both sets.
use Rattle.wording.proofs.Putting.{both, last}
use Rattle.card_program.specs.Verdict.{accepted_text}
use Rattle.card_program.proofs.verdict.put_accepted.Goals as goal

pub returns : goal.returns
unfolding accepted_text
returns c =
    both c.text-word.ensures (both c.line-records.ensures (both c.line-batches.ensures (last c.put_sets.ensures)))
