-- `text::literal::is_one_of` meets its contract: a part of one byte is that byte.
use Rattle.std.proofs.Common.{◌∙◌, arith}
use Rattle.text.proofs.Literals.{one_byte}
use Rattle.text.proofs.literal.is_one_of.Goals as goal

pub returns-in-len1 : goal.returns-in-len1
returns-in-len1 c = c.contains.ensures.value ∙ one_byte _ _ (omega arith)
