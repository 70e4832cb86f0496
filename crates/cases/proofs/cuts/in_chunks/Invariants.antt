-- `cases::cuts::in_chunks` meets its contract. The invariant: with what is still to come it is all of the file that was taken.
use Rattle.std.proofs.Common.{◌≡◌, ◌≤◌, length, drop}
use Rattle.cases.specs.Cuts.{Takes}
use Rattle.cases.proofs.cuts.in_chunks.Given as goal

abbrev pub invariant-loop : goal.invariant-loop
invariant-loop g l =
    (l.at ≤ length l.file) ×
    ((taken : _) → Takes (λ s chunk r. goal.F-post g l.take s chunk r) taken → taken l.state (drop l.at l.file) ≡ taken l.fn.first l.file)
