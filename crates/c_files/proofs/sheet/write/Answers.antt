-- `c_files::sheet::write` meets its contract: the sheet of the places is that of the numbers behind the version.
use Prim.Native.Nat.{◌+◌}
use native.Mathlib.Omega.{arith}
use borrow.Rule.Slice.PartMut.{Post-is}
use lib.ListN.{length}
use Rattle.c_files.proofs.Tellings.{zeros, with_zeros, written}
use Rattle.c_files.proofs.sheet.write.Goals as goal

pub returns : goal.returns
returns c =
    λ number.
    let numbers = c.args.numbers.now in
    let to = length numbers + 1 in
    written c.written_row.ensures
    (with_zeros c.args.version number numbers to c.sheet_of-sheet.ensures c.copy_from_slice.ensures.after (Post-is 1 to (zeros 14) (omega (arith, c.requires))))
    c.write.ensures
