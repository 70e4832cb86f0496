-- `card_mask::mask_lines` meets its contract. The invariant: before `at` the bytes are masked, and from there on they are as they were.
-- The measure is what is left of the length.
use Prim.Native.Nat.{ℕ, ◌+◌}
use mathlib.Core.Path.{sym, ◌∙◌, ap₂, subst}
use mathlib.Core.List.{List, ◌++◌}
use native.Mathlib.Omega.{arith}
use borrow.Rule.Slice.PartMut.{Post-is}
use lib.ListN.{take}
use Rattle.lines.proofs.Cuts.{at_inside}
use Rattle.lines.proofs.Finished.{none_finished}
use Rattle.card_mask.proofs.Copies.{none_left, Sofar, begun, passed, finished}
use Rattle.card_mask.proofs.mask_lines.Goals as goal

pub loop-end-init : goal.loop-end-init
loop-end-init c = begun _

-- the LF that was found stands between the place and the end
pub slice_bounds-mask_piece-start : goal.slice_bounds-mask_piece-start
slice_bounds-mask_piece-start c = (at_inside _ _ _ (sym c.next_lf.ensures ∙ c.in-Some.is)).0

pub slice_bounds-mask_piece-end : goal.slice_bounds-mask_piece-end
slice_bounds-mask_piece-end c = omega (arith, at_inside _ _ _ (sym c.next_lf.ensures ∙ c.in-Some.is))

pub slice_bounds-mask_piece-count : goal.slice_bounds-mask_piece-count
slice_bounds-mask_piece-count c = (at_inside _ _ _ (sym c.next_lf.ensures ∙ c.in-Some.is)).0

pub overflow_add-at : goal.overflow_add-at
overflow_add-at c = omega (arith, at_inside _ _ _ (sym c.next_lf.ensures ∙ c.in-Some.is))

pub loop-end-smaller : goal.loop-end-smaller
loop-end-smaller c = omega (arith, at_inside _ _ _ (sym c.next_lf.ensures ∙ c.in-Some.is), c.loop-end.invariant.same_length)

pub loop-end-preserved : goal.loop-end-preserved
loop-end-preserved c =
    let l = c.loop-end in
    let e = c.in-Some.end in
    let found = sym c.next_lf.ensures ∙ c.in-Some.is in
    subst (Sofar c.args.bytes.now (e + 1))
    (sym (ap₂ (λ (new rest : List ℕ). take l.at l.bytes ++ (new ++ rest)) c.mask_piece.ensures (Post-is l.at e l.bytes (at_inside _ _ _ found).0)))
    (passed _ l.at e l.bytes l.invariant found)

pub returns : goal.returns
returns c =
    let l = c.loop-end in
    let nowhere = sym c.next_lf.ensures ∙ c.in_default.is in
    finished _ l.at l.bytes l.invariant (none_left l.at l.bytes nowhere) (none_finished l.at l.bytes nowhere)
