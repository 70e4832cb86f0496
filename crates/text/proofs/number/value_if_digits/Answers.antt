-- `text::number::value_if_digits` meets its contract. Seventeen bytes leave room for each step.
use Rattle.std.proofs.Common.{◌-◌, ◌∙◌, sym, arith, ap₂}
use borrow.Author.Tests.{le-leb}
use Rattle.text.proofs.Weights.{byte_more, zero_more, bytes_end, zeros_end, light_more, light_room}
use Rattle.text.proofs.number.value_if_digits.Goals as goal

pub overflow_mul-value : goal.overflow_mul-value
overflow_mul-value c = let l = c.loop-byte in omega (arith, light_room l.value l.byte-index (omega arith) l.invariant.0.0)

pub overflow_add-value : goal.overflow_add-value
overflow_add-value c = let l = c.loop-byte in omega (arith, light_room l.value l.byte-index (omega arith) l.invariant.0.0, c.type_inv.part l.byte-index)

pub overflow_mul-zeros : goal.overflow_mul-zeros
overflow_mul-zeros c = let l = c.loop-byte in omega (arith, light_room l.zeros l.byte-index (omega arith) l.invariant.1.0)

pub overflow_add-zeros : goal.overflow_add-zeros
overflow_add-zeros c = let l = c.loop-byte in omega (arith, light_room l.zeros l.byte-index (omega arith) l.invariant.1.0)

pub loop-byte-preserved : goal.loop-byte-preserved
loop-byte-preserved c =
    let l = c.loop-byte in
    let inside = c.loop-byte-test.true in (
      (
        light_more l.value l.byte-index _ l.invariant.0.0 (omega (arith, c.type_inv.part l.byte-index)),
        rw c.from.ensures (sym (byte_more _ _ _ inside) ∙ l.invariant.0.1),
      ),
      (light_more l.zeros l.byte-index 48 l.invariant.1.0 (omega arith), sym (zero_more _ _ _ inside) ∙ l.invariant.1.1),
    )

pub returns : goal.returns
returns c =
    let l = c.loop-byte in
    let over = c.loop-byte-test.false in
    c.saturating_sub.ensures ∙
    rw (le-leb _ 17 c.if-part-gt-MOST_TAKEN.false)
    (ap₂ ◌-◌ (sym (bytes_end _ _ l.byte-index over) ∙ l.invariant.0.1) (sym (zeros_end _ _ l.byte-index over) ∙ l.invariant.1.1))
