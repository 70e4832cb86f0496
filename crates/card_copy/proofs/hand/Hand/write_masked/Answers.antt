-- `card_copy::hand::Hand::write_masked` meets its contract: the finished lines are masked, so they may be written, they lie within the bytes, and the unfinished one
-- stands behind them.
use Prim.Native.Nat.{ℕ, ◌-◌}
use mathlib.Core.Path.{◌≡◌}
use mathlib.Core.List.{List}
use native.Mathlib.Omega.{arith}
use lib.ListN.{take}
use lib.Seq.{length-take-le}
use Rattle.card_mask.specs.Masked.{MasksLines}
use Rattle.card_copy.proofs.Finished.{finished_in_front, lines_may_be_written, unfinished_behind}
use Rattle.card_copy.proofs.hand.Hand.write_masked.Goals as goal

-- masked are the first bytes
of_first : (end lines : ℕ) (buffer masked : List ℕ) → MasksLines (take (end - 0) buffer) lines masked → MasksLines (take end buffer) lines masked
of_first end lines buffer masked w =
    let z : end - 0 ≡ end = omega arith in
    rw z at w

pub write_finished-requires : goal.write_finished-requires
write_finished-requires c =
    let a = c.args in
    let z : a.self.end - 0 ≡ a.self.end = omega arith in
    lines_may_be_written _ c.mask_lines-lines.ensures (rw z c.requires.in_hand)

pub slice_bounds-write_finished-end : goal.slice_bounds-write_finished-end
slice_bounds-write_finished-end c =
    let a = c.args in
    omega (arith, finished_in_front a.buffer.now a.self.end _ (of_first _ _ _ _ c.mask_lines-lines.ensures).counts)

pub returns : goal.returns
returns c =
    let a = c.args in
    let w = of_first a.self.end _ a.buffer.now _ c.mask_lines-lines.ensures in
    (w.counts, unfinished_behind _ _ _ a.self.end _ w (length-take-le a.self.end a.buffer.now c.requires.filled.within))
