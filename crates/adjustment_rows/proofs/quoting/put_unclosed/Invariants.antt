-- `adjustment_rows::quoting::put_unclosed` meets its contract. The invariant: what is doubled of the bytes so far is put behind the front.
use lib.ListN.{take}
use Rattle.wording.specs.Put.{Puts}
use Rattle.adjustment_rows.specs.Fields.{doubled}
use Rattle.adjustment_rows.proofs.quoting.put_unclosed.Given as goal

abbrev pub invariant-loop-byte : goal.invariant-loop-byte
invariant-loop-byte l = Puts (doubled (take l.byte-index l.text)) l.initial.out l.initial.end l.end l.out
