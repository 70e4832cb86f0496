-- `edition::capped_value` meets its contract: every byte is a digit, and one more keeps the invariant.
use mathlib.Core.Path.{◌∙◌}
use native.Mathlib.Omega.{arith}
use Rattle.text.specs.declared.alphabet.Alphabet.TheVariants.{Digits}
use Rattle.text.proofs.Alphabets.{at_each, digit_low}
use Rattle.text.proofs.Numbers.{digits_end}
use Rattle.edition.proofs.Values.{digit_added}
use Rattle.edition.proofs.capped_value.Goals as goal

pub overflow_sub-digit : goal.overflow_sub-digit
overflow_sub-digit c = digit_low _ (at_each Digits _ c.requires _ c.loop-digit-test.true)

pub loop-digit-preserved : goal.loop-digit-preserved
loop-digit-preserved c =
    let l = c.loop-digit in
    let added = rw c.saturating_mul.ensures at c.saturating_add-value.ensures in
    (omega arith, digit_added l.value _ l.digit-index c.loop-digit-test.true added ∙ l.invariant.1)

pub returns : goal.returns
returns c =
    let l = c.loop-digit in
    let end = digits_end l.value _ l.digit-index c.loop-digit-test.false in
    omega (arith, l.invariant.1, end)
