-- The sheet of an accepted file is written.
use Prim.Native.Nat.{ℕ}
use mathlib.Core.Path.{◌≡◌, refl, sym}
use mathlib.Core.List.{List}
use lib.ListN.{length}
use Rattle.card_run.specs.declared.answer.Accepted.{Accepted as Numbers}
use Rattle.std.specs.Prelude.{Some, Ok}
use Rattle.card_file.proofs.Rooms.{has_room, was_checked}
use Rattle.day_sheet.specs.Writing.{write_result}
use Rattle.day_sheet.proofs.Writings.{put, was_put}
use Rattle.card_sheet.specs.SheetOf.{sheet_from, sheet_answer, sheet_into}
use Rattle.card_sheet.proofs.Allowed.{accepted_allowed, accepted_new}

-- the sheet of an accepted file is written
pub written : (edition : ℕ) (file out : List ℕ) (a : Numbers) → sheet_answer edition file (length out) ≡ Some (Ok a) → write_result (sheet_from edition a) out ≡ sheet_into edition (Some (Ok a)) out
unfolding sheet_into
written edition file out a e =
    let checked = was_checked edition file 81 (length out) a e in
    let there = put (sheet_from edition a) out (has_room edition file 81 (length out) a e) refl in
    sym (was_put (sheet_from edition a) out (accepted_new edition file a checked) (accepted_allowed edition file a checked) there).leaves
