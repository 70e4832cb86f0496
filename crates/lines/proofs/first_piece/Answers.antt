-- `lines::first_piece` meets its contract: the LF that is found stands in the bytes, and ends the first piece.
use Prim.Native.Nat.{◌+◌, ◌≤◌}
use mathlib.Core.Path.{sym, ◌∙◌}
use native.Mathlib.Omega.{arith}
use lib.ListN.{length}
use lib.Seq.{length-take-le}
use Rattle.lines.proofs.Pieces.{inside, no_piece, first_piece_lem}
use Rattle.lines.proofs.first_piece.Goals as goal

pub returns-in_err-end : goal.returns-in_err-end
returns-in_err-end c = rw c.from_residual.ensures (no_piece _ (sym c.next_lf.ensures ∙ c.in_err-end.was))

pub slice_bounds-piece-end : goal.slice_bounds-piece-end
slice_bounds-piece-end c =
    let within : c.in_ok-end.end + 1 ≤ length c.args.bytes.now = inside _ _ (sym c.next_lf.ensures ∙ c.in_ok-end.was) in
    sym (length-take-le _ _ (omega arith))

pub overflow_add-behind : goal.overflow_add-behind
overflow_add-behind c =
    let within : c.in_ok-end.end + 1 ≤ length c.args.bytes.now = inside _ _ (sym c.next_lf.ensures ∙ c.in_ok-end.was) in
    omega arith

pub slice_bounds-behind-count : goal.slice_bounds-behind-count
slice_bounds-behind-count c = inside _ _ (sym c.next_lf.ensures ∙ c.in_ok-end.was)

pub slice_bounds-behind-start : goal.slice_bounds-behind-start
slice_bounds-behind-start c = inside _ _ (sym c.next_lf.ensures ∙ c.in_ok-end.was)

pub returns : goal.returns
returns c = first_piece_lem _ _ (sym c.next_lf.ensures ∙ c.in_ok-end.was)
