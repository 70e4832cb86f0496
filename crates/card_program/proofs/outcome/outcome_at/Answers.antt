-- `card_program::outcome::outcome_at` meets its contract: what comes of the file is what its stream's end answers.
use mathlib.Core.Path.{◌∙◌, ap}
use borrow.Author.Rules.{rules}
use Rattle.std.specs.Prelude.{Ok}
use Rattle.card_program.proofs.Ended.{answered, at_end_answered}
use Rattle.card_program.proofs.outcome.outcome_at.Goals as goal

pub returns-in_err-ended : goal.returns-in_err-ended
returns-in_err-ended c =
    let told = ap answered c.in_err-ended.ensures ∙ at_end_answered c.args.got c.args.stream in
    search rules

pub returns : goal.returns
returns c = ap Ok c.answer.ensures ∙ ap answered c.in_ok-ended.ensures ∙ at_end_answered c.args.got c.args.stream
