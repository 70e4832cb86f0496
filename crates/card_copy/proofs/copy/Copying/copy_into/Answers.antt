-- `card_copy::copy::Copying::copy_into` meets its contract: the copy's answer is handed on, or there is a mistake.
use Rattle.card_copy.proofs.copy.Copying.copy_into.Goals as goal

pub returns : goal.returns
returns g c = c.finish.ensures c.args.self.edition c.copy_all-outcome.ensures
