-- `sheet_program::verdict::print` meets its contract: there is room for every text, so what is written is the outcome's own.
use Rattle.wording.proofs.Putting.{whole, counted}
use Rattle.sheet_program.proofs.Texts.{outcome_short}
use Rattle.sheet_program.proofs.verdict.print.Goals as goal

pub slice_bounds-write-end : goal.slice_bounds-write-end
slice_bounds-write-end c = counted (outcome_short c.args.outcome) c.put_outcome-size.ensures

pub write-requires : goal.write-requires
write-requires c = whole (outcome_short c.args.outcome) c.put_outcome-size.ensures
