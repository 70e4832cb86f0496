-- `card_cases::fed::print_calls` is safe and ends: each call ends behind the place where it begins. The measure is what is left of the calls.
use Rattle.std.proofs.Common.{◌-◌, length}
use Rattle.card_cases.proofs.fed.print_calls.Given as goal

abbrev pub decreases-loop-at : goal.decreases-loop-at
decreases-loop-at l = length l.calls - l.at
