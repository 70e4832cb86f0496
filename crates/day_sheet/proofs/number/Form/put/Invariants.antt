-- `day_sheet::number::Form::put` meets its contract. The invariant: behind i stand the lowest digits, and the rest of the number is left.
use Prim.Native.Nat.{◌-◌, ◌/◌, ◌^◌}
use mathlib.Core.Path.{◌≡◌}
use lib.ListN.{length, drop}
use Rattle.day_sheet.specs.Number.{base, zero_byte, in_base}
use Rattle.day_sheet.proofs.number.Form.put.Given as goal

abbrev pub invariant-loop-i : goal.invariant-loop-i
invariant-loop-i l =
    record {
      written : drop l.i l.part ≡ in_base (base l.self) (zero_byte l.self) (length l.initial.part - l.i) l.number;
      rest : l.left ≡ l.number / base l.self ^ (length l.initial.part - l.i);
    }
