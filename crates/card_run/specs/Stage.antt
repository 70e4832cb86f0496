-- "The order is A0, any number of batches, A9; a batch is L0, any number of CV, L9. Both numbers may be zero."; "An AJ may stand wherever a CV may"
use Rattle.std.specs.Prelude.{Bool, true, false}
use Rattle.card_record.specs.declared.kind.Kind.{Kind}
use Rattle.card_record.specs.declared.kind.Kind.TheVariants.{A0, L0, Cv, Aj, L9, A9}
use Rattle.card_run.specs.declared.stage.Stage.{Stage}
use Rattle.card_run.specs.declared.stage.Stage.TheVariants.{Start, BetweenBatches, InBatch, Ended, Closed, Refused}

-- what may stand at the start, between batches and in a batch
abbrev pub first : Kind → Bool
first A0 = true
first L0 = false
first Cv = false
first Aj = false
first L9 = false
first A9 = false

abbrev pub between_batches : Kind → Bool
between_batches A0 = false
between_batches L0 = true
between_batches Cv = false
between_batches Aj = false
between_batches L9 = false
between_batches A9 = true

abbrev pub in_batch : Kind → Bool
in_batch A0 = false
in_batch L0 = false
in_batch Cv = true
in_batch Aj = true
in_batch L9 = true
in_batch A9 = false

-- whether a record is expected at a stage
abbrev pub is_open : Stage → Bool
is_open Start = true
is_open BetweenBatches = true
is_open InBatch = true
is_open Ended = false
is_open Closed = false
is_open (Refused r) = false

-- whether a kind may stand at a stage
abbrev pub placed : Stage → Kind → Bool
placed Start k = first k
placed BetweenBatches k = between_batches k
placed InBatch k = in_batch k
placed Ended k = false
placed Closed k = false
placed (Refused r) k = false
