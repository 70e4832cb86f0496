-- `cases::output::fill` meets its contract. The invariant: the bytes so far are the pattern's, and the next byte is the one to come.
use Rattle.std.proofs.Common.{◌≡◌, length, take}
use Rattle.cases.specs.Output.{pattern, pattern_at}
use Rattle.cases.proofs.output.fill.Given as goal

abbrev pub invariant-loop-place : goal.invariant-loop-place
invariant-loop-place l = (length l.out ≡ length l.initial.out) × (l.byte ≡ pattern_at l.place-index) × (take l.place-index l.out ≡ pattern l.place-index)
