-- `card_file::check` meets its contract: the lines are taken one after the other, and the rest is what is left.
use mathlib.Core.Path.{◌∙◌, ap}
use Rattle.card_run.specs.Answer.{answer_of}
use Rattle.card_file.specs.CardFile.{line_of}
use Rattle.card_file.proofs.Steps.{ran}
use Rattle.card_file.proofs.check.Goals as goal

pub returns : goal.returns
returns c =
    let taken = c.take_pieces.ensures.taken line_of (λ st piece next e. e) in
    c.answer.ensures ∙ ap answer_of (c.end.ensures ∙ ran _ _ c.«open».ensures taken c.take_pieces.ensures.left)
