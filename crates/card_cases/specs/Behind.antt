-- A state far into a file: between batches, behind so many records and no transaction.
use Rattle.std.specs.Prelude.{ℕ}
use Rattle.totals.specs.TwoSets.{no_sets}
use Rattle.card_run.specs.declared.running.Running.{Running}
use Rattle.card_run.specs.declared.stage.Stage.TheVariants.{BetweenBatches}
use Rattle.card_run.specs.Adjusted.{no_adjustment}
use Rattle.card_run.specs.Batch.{no_transaction}
use Rattle.card_run.specs.Running.{numbers_of, open_of, moved}

abbrev pub behind_of : ℕ → Running
behind_of records =
    moved BetweenBatches (numbers_of 20231115 42 records 0 no_sets no_adjustment no_adjustment) no_transaction (open_of 2)
