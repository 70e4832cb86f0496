-- `card_quick::numbers` meets its contract: each number is what `value` promises of its field.
use Rattle.card_quick.proofs.numbers.Goals as goal

pub returns : goal.returns
returns c =
    rw (
      c.value.ensures,
      c.amounts.ensures,
      c.value-2.ensures,
      c.value-3.ensures,
      c.value-4.ensures,
      c.amounts-2.ensures,
      c.value-5.ensures,
    )
