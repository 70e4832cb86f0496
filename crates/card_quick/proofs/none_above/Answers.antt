-- `card_quick::none_above` meets its contract: where one row ends, no place is left.
use Rattle.std.proofs.Common.{sym, ◌∙◌}
use mathlib.Core.Logic.{inl, inr}
use Rattle.card_quick.proofs.Pictures.{low_end, high_end}
use Rattle.card_quick.proofs.none_above.Goals as goal

pub returns : goal.returns
returns c =
    elim c.in-None.ensures.steps
    [ inl w ↦ sym (low_end _ _ _ w.1.0) ∙ c.loop-low.invariant | inr w ↦ sym (high_end _ _ _ w.1.0) ∙ c.loop-low.invariant ]
