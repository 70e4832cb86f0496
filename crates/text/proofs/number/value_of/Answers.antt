-- `text::number::value_of` meets its contract. Eighteen digits leave room for each step.
use Rattle.std.proofs.Common.{◌∙◌, sym, arith}
use Rattle.text.specs.declared.alphabet.Alphabet.TheVariants.{Digits}
use Rattle.text.proofs.Alphabets.{at_each, digit_low, digit_high}
use Rattle.text.proofs.Numbers.{digit_more, digits_end, below_more, room}
use Rattle.text.proofs.number.value_of.Goals as goal

pub overflow_mul-value : goal.overflow_mul-value
overflow_mul-value c = let l = c.loop-digit in omega (arith, room l.value l.digit-index (omega arith) l.invariant.0)

pub overflow_sub-digit : goal.overflow_sub-digit
overflow_sub-digit c = digit_low _ (at_each Digits _ c.requires.0 c.loop-digit.digit-index c.loop-digit-test.true)

pub overflow_add-value : goal.overflow_add-value
overflow_add-value c =
    let l = c.loop-digit in
    omega (
      arith,
      room l.value l.digit-index (omega arith) l.invariant.0,
      digit_high _ (at_each Digits _ c.requires.0 l.digit-index c.loop-digit-test.true),
    )

pub loop-digit-preserved : goal.loop-digit-preserved
loop-digit-preserved c =
    let l = c.loop-digit in (
      below_more l.value l.digit-index _ l.invariant.0 (omega (arith, digit_high _ (at_each Digits _ c.requires.0 l.digit-index c.loop-digit-test.true))),
      rw c.from.ensures (sym (digit_more _ _ _ c.loop-digit-test.true) ∙ l.invariant.1),
    )

pub returns : goal.returns
returns c = sym (digits_end _ _ c.loop-digit.digit-index c.loop-digit-test.false) ∙ c.loop-digit.invariant.1
