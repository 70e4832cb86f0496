-- `card_mask::mask_piece` meets its contract: the piece is no record, has no card, or its card's part alone is masked.
use Prim.Native.Nat.{ℕ, ◌+◌, ◌≤◌}
use mathlib.Core.Path.{◌≡◌, sym, ◌∙◌, ap, ap₂}
use mathlib.Core.List.{List, [], ◌∷◌, ◌++◌}
use mathlib.Core.Bool.{true}
use native.Mathlib.Omega.{arith}
use borrow.Rule.Slice.PartMut.{Post-is}
use lib.ListN.{length, take, length-append}
use Rattle.refusal.proofs.Rows.{told}
use Rattle.lines.specs.Lines.{cr, ends_in_cr, without_last}
use Rattle.lines.proofs.Ends.{record_and_cr}
use Rattle.card_record.specs.CardPart.{card_part}
use Rattle.card_record.proofs.CardParts.{card_inside}
use Rattle.card_mask.proofs.Pieces.{no_record, no_card_lem, with_card}
use Rattle.card_mask.proofs.mask_piece.Goals as goal
use Rattle.std.specs.Prelude.{Some}

-- a card at a place that was found in a record ends before the piece does
inside : (p : List ℕ) (k : ℕ) → ends_in_cr p ≡ true → card_part (without_last p) ≡ Some k → k + 19 ≤ length p
inside p k ends found =
    let card = card_inside _ _ found in
    let whole : length p ≡ length (without_last p) + 1 = ap length (record_and_cr p ends) ∙ length-append (without_last p) (cr ∷ []) in
    omega arith

pub returns-then-not-ends_in_cr : goal.returns-then-not-ends_in_cr
returns-then-not-ends_in_cr c = no_record _ (told c.ends_in_cr.ensures c.if-not-ends_in_cr.true)

pub returns-in_default : goal.returns-in_default
returns-in_default c =
    no_card_lem _ (told c.ends_in_cr.ensures c.if-not-ends_in_cr.false)
    (ap card_part (sym c.without_last.ensures.holds) ∙ told c.card_part.ensures c.in_default.is)

pub overflow_add-from : goal.overflow_add-from
overflow_add-from c =
    let ends = told c.ends_in_cr.ensures c.if-not-ends_in_cr.false in
    let found = ap card_part (sym c.without_last.ensures.holds) ∙ told c.card_part.ensures c.in-Some.is in
    omega (arith, inside c.args.piece.now c.in-Some.from ends found)

pub slice_bounds-mask-end : goal.slice_bounds-mask-end
slice_bounds-mask-end c =
    let ends = told c.ends_in_cr.ensures c.if-not-ends_in_cr.false in
    let found = ap card_part (sym c.without_last.ensures.holds) ∙ told c.card_part.ensures c.in-Some.is in
    omega (arith, inside c.args.piece.now c.in-Some.from ends found)

pub returns-in-Some : goal.returns-in-Some
returns-in-Some c =
    let piece = c.args.piece.now in
    let k = c.in-Some.from in
    let ends = told c.ends_in_cr.ensures c.if-not-ends_in_cr.false in
    let found = ap card_part (sym c.without_last.ensures.holds) ∙ told c.card_part.ensures c.in-Some.is in
    ap₂ (λ (new rest : List ℕ). take k piece ++ (new ++ rest)) c.mask.ensures (Post-is k (k + 19) piece (omega arith)) ∙
    with_card _ k ends found
