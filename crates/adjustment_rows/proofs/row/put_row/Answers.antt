-- `adjustment_rows::row::put_row` meets its contract: its fields, one behind the other.
use mathlib.Core.Path.{◌∙◌, ap}
use mathlib.Core.List.{[], ◌∷◌}
use Rattle.card_adjustment.specs.Aj.{is_credit}
use Rattle.adjustment_rows.specs.Row.{row_of}
use Rattle.adjustment_rows.proofs.Separating.{more, ended}
use Rattle.adjustment_rows.proofs.row.put_row.Goals as goal

pub returns : goal.returns
unfolding row_of
returns c =
    let read = c.read-adjustment.ensures in
    let days = more (_ ∷ _ ∷ []) c.put_store-behind_store.ensures (_ ∷ _ ∷ []) c.put_days-behind_days.ensures in
    let credit = c.is_credit.ensures ∙ ap is_credit read in
    let type = more (_ ∷ _ ∷ _ ∷ _ ∷ []) days (_ ∷ []) (rw credit at c.put_type-behind_type.ensures) in
    let reason = more (_ ∷ _ ∷ _ ∷ _ ∷ _ ∷ []) type (_ ∷ _ ∷ []) c.put_reason-behind_reason.ensures in
    ended (_ ∷ _ ∷ _ ∷ _ ∷ _ ∷ _ ∷ _ ∷ []) reason _ (_ ∷ _ ∷ []) (rw read at c.put_amounts.ensures)
