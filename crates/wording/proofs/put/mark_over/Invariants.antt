-- `wording::put::mark_over` meets its contract. The invariant: the bytes so far are as they are shown, and those behind them as they were.
use mathlib.Core.List.{◌++◌}
use Rattle.std.proofs.Common.{◌≡◌, take, drop}
use Rattle.wording.specs.Shown.{shown_as}
use Rattle.wording.proofs.put.mark_over.Given as goal

abbrev pub invariant-loop-byte : goal.invariant-loop-byte
invariant-loop-byte l = l.bytes ≡ shown_as l.mark (take l.byte-index l.initial.bytes) ++ drop l.byte-index l.initial.bytes
