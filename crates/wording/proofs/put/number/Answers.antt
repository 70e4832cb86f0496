-- `wording::put::number` meets its contract: the fewest digits are those with no zero in front.
use mathlib.Core.Path.{◌∙◌}
use Rattle.wording.proofs.Putting.{reworded}
use Rattle.wording.proofs.Decimals.{decimal}
use borrow.Author.Rules.{rules}
use Rattle.wording.proofs.put.number.Goals as goal

pub returns : goal.returns
returns c =
    let d = c.decimal-count in
    reworded (d.ensures.digits ∙ decimal _ _ d.ensures.len (search rules)) c.text.ensures
