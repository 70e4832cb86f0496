-- `cases::cursor::high_first` meets its contract. The invariant: the number so far, with the bytes still to come, is the number of all.
use Rattle.std.proofs.Common.{◌≡◌, drop}
use Rattle.cases.specs.Cursor.{high_first}
use Rattle.cases.proofs.cursor.high_first.Given as goal

abbrev pub invariant-loop-byte : goal.invariant-loop-byte
invariant-loop-byte l = high_first l.number (drop l.byte-index l.bytes) ≡ high_first 0 l.bytes
