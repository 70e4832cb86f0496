-- `card_sale::cv::Cv::read` meets its contract: each number is what `number` promises of its field.
use Rattle.card_sale.proofs.cv.Cv.read.Goals as goal

pub returns : goal.returns
returns c =
    rw (
      c.number.ensures,
      c.amounts_in.ensures,
      c.number-2.ensures,
      c.number-3.ensures,
      c.number-4.ensures,
      c.amounts_in-2.ensures,
      c.number-5.ensures,
    )
