-- `day_sheet::number::Form::value` meets its contract. The invariant: the value so far is below 256 to the number of bytes read, and with the bytes still to come it is
-- the value of all. Eight bytes leave room for each step.
use Prim.Native.Nat.{◌^◌, ◌<◌}
use mathlib.Core.Path.{◌≡◌}
use lib.ListN.{drop}
use Rattle.day_sheet.specs.Number.{base, zero_byte, value_in}
use Rattle.day_sheet.proofs.number.Form.value.Given as goal

abbrev pub invariant-loop-byte : goal.invariant-loop-byte
invariant-loop-byte l =
    record {
      small : l.value < 256 ^ l.byte-index;
      all : value_in (base l.self) (zero_byte l.self) l.value (drop l.byte-index l.part) ≡ value_in (base l.self) (zero_byte l.self) 0 l.part;
    }
