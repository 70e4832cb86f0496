-- `cases::layout::Layout::print_cases` is safe and ends. The measure is how many bytes are left; nothing else has to hold from turn to turn.
use Rattle.std.proofs.Common.{◌-◌, length}
use Rattle.cases.proofs.layout.Layout.print_cases.Given as goal

abbrev pub decreases-loop-at : goal.decreases-loop-at
decreases-loop-at g l = length l.cases - l.at
